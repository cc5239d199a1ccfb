-- `call_receive::judge` meets its contract: the first that applies of 20, 21, a message of this node, 24, and one of another. Assumes nothing.
use mathlib.Core.Path.{sym, ap, ◌∙◌}
use Prim.Native.Nat.{ℕ}
use Rattle.wire.specs.Packet.{header, is_u}
use Rattle.rules.specs.Settings.{is_own}
use Rattle.rules.specs.Rules as R
use Rattle.rules.specs.Table.{table}
use Rattle.table_layout.specs.Cells.{decode}
use Rattle.call_receive_arrival.specs.Receiving.{call_of, Rule, Ruled, own_message, foreign}
use Rattle.call_receive_arrival.proofs.Ways.{way_20, way_21, way_own, way_24, way_foreign}
use Rattle.call_receive_arrival.proofs.Endings.{leaves_by, flags_is, originator_is, verdict-kept, ends, verdict-left}
use Rattle.call_receive.proofs.Call.{own_field, broadcast_field}
use Rattle.call_receive.proofs.judge.Goals as goal
use Rattle.call_receive.proofs.judge.Goals.{Else-is_unidirectional, Then-is_listed, Then-is_listed-2, Then-is_listed-3, Then-is_unidirectional}

-- the rule that a verdict is
abbrev told : ℕ → Rule
told v s a h = R.verdict table a h v (R.with_time table s a.time)

-- ---- the rule that the packet comes down to
by-20 : (c : goal.Then-is_listed) → Ruled c.args.cells.now c.args.packet.now c.args.out.now c.args.m (told 20)
by-20 c =
    c.requires.1 ∙ way_20 (decode c.args.cells.now) (call_of c.args.packet.now c.args.out.now c.args.m) (header c.args.packet.now) (sym (c.is_listed.ensures _ own_field) ∙ c.if-is_listed.true)

by-21 : (c : goal.Then-is_listed-2) → Ruled c.args.cells.now c.args.packet.now c.args.out.now c.args.m (told 21)
by-21 c =
    c.requires.1
    ∙ way_21 (decode c.args.cells.now) (call_of c.args.packet.now c.args.out.now c.args.m) (header c.args.packet.now) (sym (c.is_listed.ensures _ own_field) ∙ c.if-is_listed.false) (sym (c.is_listed-2.ensures _ broadcast_field) ∙ c.if-is_listed-2.true)

by-own : (c : goal.Then-is_listed-3) → Ruled c.args.cells.now c.args.packet.now c.args.out.now c.args.m own_message
by-own c =
    c.requires.1
    ∙ way_own (decode c.args.cells.now) (call_of c.args.packet.now c.args.out.now c.args.m) (header c.args.packet.now) (sym (c.is_listed.ensures _ own_field) ∙ c.if-is_listed.false) (sym (c.is_listed-2.ensures _ broadcast_field) ∙ c.if-is_listed-2.false)
    (sym (ap (is_own ((decode c.args.cells.now).config)) (originator_is c.requires.0.fits)) ∙ sym (c.is_listed-3.ensures _ own_field) ∙ c.if-is_listed-3.true)

by-24 : (c : goal.Then-is_unidirectional) → Ruled c.args.cells.now c.args.packet.now c.args.out.now c.args.m (told 24)
by-24 c =
    c.requires.1
    ∙ way_24 (decode c.args.cells.now) (call_of c.args.packet.now c.args.out.now c.args.m) (header c.args.packet.now) (sym (c.is_listed.ensures _ own_field) ∙ c.if-is_listed.false) (sym (c.is_listed-2.ensures _ broadcast_field) ∙ c.if-is_listed-2.false) (sym (ap (is_own ((decode c.args.cells.now).config)) (originator_is c.requires.0.fits)) ∙ sym (c.is_listed-3.ensures _ own_field) ∙ c.if-is_listed-3.false)
    (sym (ap is_u (flags_is c.requires.0.fits)) ∙ sym c.is_unidirectional.ensures ∙ c.if-is_unidirectional.true)

by-foreign : (c : goal.Else-is_unidirectional) → Ruled c.args.cells.now c.args.packet.now c.args.out.now c.args.m foreign
by-foreign c =
    c.requires.1
    ∙ way_foreign (decode c.args.cells.now) (call_of c.args.packet.now c.args.out.now c.args.m) (header c.args.packet.now) (sym (c.is_listed.ensures _ own_field) ∙ c.if-is_listed.false) (sym (c.is_listed-2.ensures _ broadcast_field) ∙ c.if-is_listed-2.false) (sym (ap (is_own ((decode c.args.cells.now).config)) (originator_is c.requires.0.fits)) ∙ sym (c.is_listed-3.ensures _ own_field) ∙ c.if-is_listed-3.false)
    (sym (ap is_u (flags_is c.requires.0.fits)) ∙ sym c.is_unidirectional.ensures ∙ c.if-is_unidirectional.false)

-- ---- the ends
pub verdict-requires : goal.verdict-requires
verdict-requires c = let h = c.requires.0 in ends 20 h (verdict-kept 20 h (by-20 (goal.at.verdict-requires c).Then-is_listed))

pub returns-then-is_listed : goal.returns-then-is_listed
returns-then-is_listed c =
    let h = c.requires.0 in
    verdict-left 20 h (verdict-kept 20 h (by-20 (goal.at.returns-then-is_listed c).Then-is_listed)) (by-20 (goal.at.returns-then-is_listed c).Then-is_listed) c.verdict.ensures

pub verdict-requires-then-is_listed-2 : goal.verdict-requires-then-is_listed-2
verdict-requires-then-is_listed-2 c = let h = c.requires.0 in ends 21 h (verdict-kept 21 h (by-21 (goal.at.verdict-requires-then-is_listed-2 c).Then-is_listed-2))

pub returns-then-is_listed-2 : goal.returns-then-is_listed-2
returns-then-is_listed-2 c =
    let h = c.requires.0 in
    verdict-left 21 h (verdict-kept 21 h (by-21 (goal.at.returns-then-is_listed-2 c).Then-is_listed-2)) (by-21 (goal.at.returns-then-is_listed-2 c).Then-is_listed-2) c.verdict-then-is_listed-2.ensures

pub own_message-requires : goal.own_message-requires
own_message-requires c =
    record { packet = c.args.packet.now; output = c.args.out.now; taken = c.requires.0; ruled = by-own (goal.at.own_message-requires c).Then-is_listed-3 }

pub returns-then-is_listed-3 : goal.returns-then-is_listed-3
returns-then-is_listed-3 c =
    leaves_by (by-own (goal.at.returns-then-is_listed-3 c).Then-is_listed-3) (c.own_message.ensures _ _ c.requires.0)

pub verdict-requires-then-is_unidirectional : goal.verdict-requires-then-is_unidirectional
verdict-requires-then-is_unidirectional c = let h = c.requires.0 in ends 24 h (verdict-kept 24 h (by-24 (goal.at.verdict-requires-then-is_unidirectional c).Then-is_unidirectional))

pub returns-then-is_unidirectional : goal.returns-then-is_unidirectional
returns-then-is_unidirectional c =
    let h = c.requires.0 in
    verdict-left 24 h (verdict-kept 24 h (by-24 (goal.at.returns-then-is_unidirectional c).Then-is_unidirectional)) (by-24 (goal.at.returns-then-is_unidirectional c).Then-is_unidirectional) c.verdict-then-is_unidirectional.ensures

pub decide-requires : goal.decide-requires
decide-requires c = (c.requires.0, by-foreign (goal.at.decide-requires c).Else-is_unidirectional)
