-- The links are read one by one, up to the first that does not stand below this one: all before it do, so whether all do is asked of the rest.
use mathlib.Core.Path.{◌≡◌, sym, ap, ◌∙◌}
use mathlib.Core.Bool.{Bool, true, false, ◌&&◌}
use Prim.Native.Nat.{ℕ, ◌+◌}
use native.Mathlib.Omega.{arith}
use Rattle.lists.proofs.Tests.{or_neither}
use Rattle.window.specs.Window.{shift}
use Rattle.window.specs.Marks.{word_of}
use Rattle.rules.specs.Settings.{Config, Follows}
use Rattle.rules.specs.Table.{is_highest}
use Rattle.count_best_link.specs.BestLink.{LeastNotBelow, moved}
use Rattle.count_best_link.proofs.Leading.{leads, leads_one, from, from_start}
use Rattle.count_best_link.proofs.first_not_below.Goals as goal
use Rattle.count_best_link.proofs.first_not_below.Goals.{After-yields, At-loop-i}

-- where a link has been read: whether it stands below, and whether all links from it on do
told : (c : goal.After-yields) (κ : Config) (own : ℕ) → let a = c.args in LeastNotBelow κ own c.least_not_below-least.result → (t : Bool) → c.yields.result ≡ t
    → leads κ a.key own (from a.part.now a.step a.n c.loop-i.i) ≡ (t && leads κ a.key own (from a.part.now a.step a.n (c.loop-i.i + 1)))
told c κ own r t e =
    let a = c.args in
    let ev = c.shift-moved.ensures ∙ ap (shift a.step.policy.window a.step.up) c.marks_at.ensures in
    leads_one a.part.now a.step a.n c.loop-i.i _ _ (omega arith) c.key_at-other.ensures ev κ a.key own _ r t (sym c.yields.ensures ∙ e)

pub loop-i-preserved : goal.loop-i-preserved
loop-i-preserved c =
    let read = (goal.at.loop-i-preserved c).After-yields in
    (omega arith, c.loop-i.invariant.1, λ κ own r. sym (told read κ own r true c.if-not-yields.false) ∙ c.loop-i.invariant.2 κ own r)

-- all links, as they stood at the entry
all-links : (c : goal.At-loop-i) (κ : Config) → let a = c.args in let own = c.count.result in
    Follows κ a.step.policy → leads κ a.key own (from a.part.now a.step a.n c.loop-i.i) ≡ is_highest κ a.key (word_of a.marks) (moved a.step a.n a.part.now)
all-links c κ f =
    let a = c.args in
    c.loop-i.invariant.2 κ c.count.result (c.least_not_below-least.ensures κ f)
    ∙ (λ j. leads κ a.key (c.count.ensures j) (from_start a.part.now a.step a.n j))

pub returns-then-not-yields : goal.returns-then-not-yields
returns-then-not-yields c κ f =
    let read = (goal.at.returns-then-not-yields c).After-yields in
    let e = c.if-not-yields.true in
    (or_neither _ _ (sym c.yields.ensures ∙ e)).0
    ∙ sym (told read κ _ (c.least_not_below-least.ensures κ f) false e)
    ∙ all-links (goal.at.returns-then-not-yields c).At-loop-i κ f
