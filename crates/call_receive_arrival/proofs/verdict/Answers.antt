-- `call_receive_arrival::verdict` meets its contract: the time is set, and the route read from the table that is left. Assumes nothing.
use mathlib.Core.Path.{◌≡◌, ap, ◌∙◌}
use mathlib.Core.List.{List}
use Prim.Native.Nat.{ℕ}
use native.Mathlib.Omega.{arith}
use lib.ListN.{length, set}
use Rattle.rules.specs.Calls.{received_as}
use Rattle.rules.specs.Rules.{with_time}
use Rattle.rules.specs.Table.{TableState, table}
use Rattle.table_layout.specs.Layout.{time_at}
use Rattle.table_layout.specs.Cells.{encode}
use Rattle.table_layout.proofs.Parts.{encoded-size}
use Rattle.table_changes.proofs.Parts.{time_set}
use Rattle.call_receive_arrival.specs.Receiving.{verdict_of, Ends}
use Rattle.call_receive_arrival.proofs.Tables.{left-knows, left-decode}
use Rattle.call_receive_arrival.proofs.verdict.Goals as goal

-- the cells that are left
left : {c : List ℕ} {t : ℕ} (e : Ends c t) → set c time_at t ≡ encode (with_time table e.state t)
left {c} {t} e = ap (λ (l : List ℕ). set l time_at t) e.cells ∙ time_set e.state t

pub bounds-cells-7 : goal.bounds-cells-7
bounds-cells-7 c = let e = c.requires in omega (arith, encoded-size e.state, ap length e.cells)

pub route_to-requires : goal.route_to-requires
route_to-requires c =
    let e = c.requires in
    left-knows (with_time table e.state c.args.time) (left e) e.valid

pub returns : goal.returns
returns c e = (
  c.received_as.ensures
      ∙ ap (received_as c.args.number 0 0) c.route_to.ensures
      ∙ ap (λ (x : TableState). verdict_of x c.args.number c.args.originator) (left-decode (with_time table e.state c.args.time) (left e) e.valid),
  left e,
)
