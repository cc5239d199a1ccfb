-- `call_best::route_at` meets its contract: the route of the row that is lent. Assumes nothing.
use mathlib.Core.Path.{refl, sym, ap, ◌∙◌, subst}
use mathlib.Core.List.{List}
use mathlib.Core.Option.{some}
use Prim.Native.Nat.{ℕ}
use Rattle.rules.specs.Rules.{route_of}
use Rattle.rules.specs.Table.{table}
use Rattle.table_record.specs.Record.{decode_record, Held}
use Rattle.table_layout.specs.Cells.{decode}
use Rattle.call_best.proofs.route_at.Goals as goal

pub route_of-requires : goal.route_of-requires
route_of-requires c = subst Held (sym c.record_at.ensures) c.requires.row

pub returns : goal.returns
unfolding decode
returns c =
    let κ = (decode c.args.cells.now).config in
    c.route_of.ensures κ refl ∙ ap (λ (row : List ℕ). route_of table κ (some (decode_record row).1)) c.record_at.ensures
