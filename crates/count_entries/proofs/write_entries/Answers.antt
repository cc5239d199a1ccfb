-- One more entry is written a turn, until all are.
use Rattle.std.proofs.Common.{ℕ, sym, ap, ◌∙◌, arith, set}
use native.Mathlib.Nat.{zero-add}
use Rattle.wire.specs.Entries.{entries_of}
use Rattle.wire.proofs.Entries.{length-entries, entry_place}
use Rattle.cells_moves.proofs.Moves.{paste_turn, paste_done}
use Rattle.count_entries.proofs.write_entries.Goals as goal

pub loop-k-preserved : goal.loop-k-preserved
loop-k-preserved c =
    let l = c.loop-k in
    let a = c.args in
    let x = c.entry_at.result in
    let is = c.entry_at.ensures ∙ sym (entry_place a.hna.now l.k (omega arith)) in
    ap (λ (i : ℕ). set l.part i x) (sym (zero-add l.k))
    ∙ paste_turn a.part.now l.part (entries_of a.hna.now) 0 l.k x l.invariant is (omega arith) (omega (arith, length-entries a.hna.now))

pub returns : goal.returns
returns c =
    let a = c.args in
    c.loop-k.invariant ∙ paste_done a.part.now (entries_of a.hna.now) 0 c.loop-k.k (omega (arith, length-entries a.hna.now))
