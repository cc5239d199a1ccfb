-- `packet_check::is_clean` meets its contract. The loop's invariant: no entry before place k has a fault. Assumes nothing.
use mathlib.Core.Path.{◌≡◌, sym, ◌∙◌}
use mathlib.Core.Bool.{true, false, ◌||◌}
use Prim.Native.Nat.{ℕ, ◌*◌}
use native.Mathlib.Omega.{arith}
use borrow.Author.Count.{below_more}
use borrow.Author.Tests.{eqb-true}
use lib.Dec.{eqb}
use lib.ListN.{length}
use Rattle.lists.proofs.Tests.{and_left, and_right}
use Rattle.wire.specs.Layout.{entry_size}
use Rattle.wire.specs.Check.{bad_mask, host_bits_set}
use Rattle.packet_check.proofs.Search.{all-passed}
use Rattle.packet_check.proofs.is_clean.Goals as goal
use Rattle.packet_check.proofs.is_clean.Goals.{else-loop-k-test, then-loop-k-test+then-is_faulty}

pub loop-k-preserved : goal.loop-k-preserved
loop-k-preserved c =
    let e = c.args.hna.now in
    let i = c.loop-k.invariant in
    (i.0, below_more (λ j. bad_mask e j || host_bits_set e j ≡ false) c.loop-k.k i.1 (sym c.is_faulty.ensures ∙ c.if-is_faulty.false))

pub returns : goal.returns
returns c h =
    let e = c.args.hna.now in
    let n = c.entry_count-entries in
    let clean = c.loop-k-test.clean in
    let t : clean ≡ true = and_left clean (eqb (entry_size * n.result) (length e)) h in
    let whole : entry_size * n.result ≡ length e = eqb-true (entry_size * n.result) (length e) (and_right clean (eqb (entry_size * n.result) (length e)) h) in
    elim c.loop-k-test.branch [
      | else-loop-k-test w ↦ all-passed e (omega (arith, n.ensures)) (λ k l. c.loop-k.invariant.1 k (omega (arith, n.ensures, w.loop-k-test.false)))
      | then-loop-k-test+then-is_faulty w ↦ absurd (let z : false ≡ true = sym w.clean-is ∙ t in let o : ◌≡◌ {A = ℕ} 0 1 = cc in omega arith)
    ]
