-- The links are read one by one; each that stays is written after those that did, and what is written with those to come is the goal throughout.
use mathlib.Core.Logic.{⊎_elim}
use mathlib.Core.Path.{refl, sym, ap, ◌∙◌}
use mathlib.Core.List.{◌++◌}
use Prim.Native.Nat.{◌+◌}
use native.Mathlib.Omega.{arith}
use lib.ListN.{length}
use Rattle.lists.specs.Lists.{keep}
use Rattle.window.specs.Window.{shift}
use Rattle.count_best_link.specs.BestLink.{Links}
use Rattle.count_best_link.proofs.Leading.{from, from_start, moved_none}
use Rattle.count_links.specs.Links.{stays}
use Rattle.count_links.proofs.Cells.{built_along, built_put, keep_one}
use Rattle.count_links.proofs.keep_links.Goals as goal

pub loop-i-preserved : goal.loop-i-preserved
loop-i-preserved c =
    let a = c.args in
    let l = c.loop-i in
    let step = a.step in
    let ev = c.shift-marks.ensures ∙ ap (shift step.policy.window step.up) c.marks_at.ensures in
    let one = keep_one a.part.now step a.n l.i _ _ (omega arith) c.key_at-key.ensures ev a.best in
    let e = sym c.stays.ensures in
    let more = keep (stays a.best) (from a.part.now step a.n (l.i + 1)) in
    ⊎_elim
    (λ w. (
      omega arith,
      omega (arith, w.k-is),
      ap length w.out-is ∙ w.put_link.auto.out ∙ l.invariant.2,
      λ rest goal b.
          built_along w.out-is w.k-is refl
          (built_put l.k _ (more ++ rest) goal (omega arith) w.put_link.ensures w.put_link.auto.out (built_along refl refl (one rest _ (e ∙ w.if-stays.true)) (l.invariant.3 rest goal b))),
    ))
    (λ w. (
      omega arith,
      omega (arith, w.k-is),
      ap length w.out-is ∙ l.invariant.2,
      λ rest goal b. built_along w.out-is w.k-is (one rest _ (e ∙ w.if-stays.false)) (l.invariant.3 rest goal b),
    ))
    c.if-stays.branch-raw

pub returns : goal.returns
returns c =
    let l = c.loop-i in
    let a = c.args in
    let start = ap (λ (t : Links). keep (stays a.best) t) (from_start a.part.now a.step a.n) in
    let end = moved_none a.part.now a.step a.n l.i (omega arith) in
    (omega arith, λ rest goal b. built_along refl refl (ap (λ (t : Links). keep (stays a.best) t ++ rest) end) (l.invariant.3 rest goal (built_along refl refl (ap (λ (t : Links). t ++ rest) (sym start)) b)))
