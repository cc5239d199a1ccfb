-- `packet_check::first_breaking` meets its contract. The loop's invariant: no entry before place k breaks the rule. Assumes nothing.
use mathlib.Core.Path.{◌≡◌, refl, sym, ap, ◌∙◌}
use native.Mathlib.Numerals.{add-one}
use native.Mathlib.Omega.{arith}
use Prim.Native.Nat.{◌<◌}
use Rattle.wire.specs.Check.{entries, first_where, first_breaking}
use Rattle.wire.specs.Refusals.{place_of}
use Rattle.wire.proofs.Search.{passed, found}
use Rattle.packet_check.proofs.first_breaking.Goals as goal
use Rattle.packet_check.proofs.first_breaking.Goals.{else-loop-k-test, then-loop-k-test+then-breaks}

pub loop-k-init : goal.loop-k-init
unfolding first_where
loop-k-init g c = (refl, λ rule h. refl)

pub loop-k-preserved : goal.loop-k-preserved
loop-k-preserved g c = (
  c.loop-k.invariant.0,
  λ rule h.
      let e = c.args.hna.now in
      rw add-one (passed (rule e) c.loop-k.k (c.loop-k.invariant.1 rule h) (sym (h c.loop-k.k c.breaks.result (omega arith) c.breaks.ensures) ∙ c.if-breaks.false)),
)

pub returns : goal.returns
unfolding first_breaking
returns g c rule h =
    let e = c.args.hna.now in
    let i = c.loop-k.invariant in
    elim c.loop-k-test.branch [
      | else-loop-k-test w ↦
          let last : c.loop-k.k ≡ entries e = omega (arith, c.entry_count-k-end.ensures, w.loop-k-test.false) in
          ap place_of (ap (λ n. first_where n (rule e)) (sym last) ∙ i.1 rule h) ∙ sym i.0 ∙ sym w.first-is
      | then-loop-k-test+then-breaks w ↦
          let l : c.loop-k.k < entries e = omega (arith, c.entry_count-k-end.ensures, w.loop-k-test.true) in
          ap place_of (found (rule e) c.loop-k.k (entries e) l (i.1 rule h) (sym (h c.loop-k.k w.breaks.result l w.breaks.ensures) ∙ w.if-breaks.true)) ∙ sym w.first-is
    ]
