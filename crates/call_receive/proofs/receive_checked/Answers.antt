-- `call_receive::receive_checked` meets its contract: refused by the rules, or judged; and what it leaves is a well-formed table's. Assumes nothing.
use mathlib.Core.Path.{◌≡◌, refl, sym, ap, ◌∙◌, subst}
use mathlib.Core.Option.{none}
use native.Mathlib.Omega.{arith}
use lib.ListN.{length}
use Rattle.rules.specs.Rules as R
use Rattle.rules.specs.Table.{table}
use Rattle.table_layout.specs.Cells.{decode}
use Rattle.call_receive_arrival.specs.declared.Arrival.{Arrival}
use Rattle.call_receive_arrival.specs.Receiving.{args_of, after, refused_by, Leaves, Taken, Ruled}
use Rattle.call_receive_arrival.proofs.Ways.{way_judge}
use Rattle.call_receive.proofs.Call.{faulty, judged, left_known, in_use, has_header, takes}
use Rattle.call_receive.proofs.receive_checked.Goals as goal
use Rattle.call_receive.proofs.receive_checked.Goals.{In_default}

-- ---- refused by the rules
pub returns-in-Err : goal.returns-in-Err
returns-in-Err c =
    let a = c.args in (
      faulty a.cells.now (args_of a.packet.now a.sender a.interface a.time a.out.now) c.requires _ (sym (c.in-Err.ensures a.sender a.out.now refl)) _ (c.refused.ensures ∙ ap refused_by c.into.ensures),
      c.requires,
    )

-- nothing is refused
fine : (c : goal.In_default) → R.receive_fault (decode (c.args.cells.now)).config (decode (c.args.cells.now)).time (args_of c.args.packet.now c.args.sender c.args.interface c.args.time c.args.out.now) ≡ none
fine c = sym (c.in_default.ensures c.args.sender c.args.out.now refl)

pub read_arrival-m-requires : goal.read_arrival-m-requires
read_arrival-m-requires c =
    (has_header (c.args.cells.now) (args_of c.args.packet.now c.args.sender c.args.interface c.args.time c.args.out.now) (fine (goal.at.read_arrival-m-requires c).In_default), omega (arith, c.requires.sized.used-most, in_use (c.args.cells.now) (args_of c.args.packet.now c.args.sender c.args.interface c.args.time c.args.out.now) (fine (goal.at.read_arrival-m-requires c).In_default)))

-- ---- judged
pub judge-requires : goal.judge-requires
judge-requires c =
    let a = c.args in
    let p = a.packet.now in
    let o = a.out.now in
    subst (λ (m : Arrival). Taken (c.args.cells.now) p o m × Ruled (c.args.cells.now) p o m (λ x y h. R.judge table x y h)) (sym c.read_arrival-m.ensures.0) (
      takes (c.args.cells.now) p a.sender a.interface a.time o c.requires (fine (goal.at.judge-requires c).In_default) (c.read_arrival-m.ensures.1 o),
      way_judge (decode (c.args.cells.now)) (args_of c.args.packet.now c.args.sender c.args.interface c.args.time c.args.out.now) (length (c.args.cells.now)) (fine (goal.at.judge-requires c).In_default),
    )

pub returns : goal.returns
returns c =
    let w =
    judged (c.args.cells.now) (args_of c.args.packet.now c.args.sender c.args.interface c.args.time c.args.out.now) c.requires c.judge.result _ _
    (subst (λ (m : Arrival). Leaves c.judge.new.cells c.judge.new.out c.judge.result (after (c.args.cells.now) c.args.packet.now c.args.out.now m)) c.read_arrival-m.ensures.0 c.judge.ensures) in
    (w, left_known (c.args.cells.now) (args_of c.args.packet.now c.args.sender c.args.interface c.args.time c.args.out.now) c.requires (c.read_arrival-m.ensures.1 c.args.out.now) _ _ w)
