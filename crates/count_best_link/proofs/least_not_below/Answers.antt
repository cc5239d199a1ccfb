-- One more than `high` less the tie is what a count has to be lower than, for a tie of 0 or 1.
use mathlib.Core.Path.{◌≡◌, ap, ◌∙◌}
use Prim.Native.Nat.{ℕ, zero, suc, ◌+◌, ◌-◌, ◌≤◌}
use native.Mathlib.Omega.{arith}
use mathlib.Core.Bool.{cond}
use lib.Dec.{eqb, leb, ltb, leb-suc-suc}
use Rattle.rules.specs.Settings.{newest_wins, tie_most}
use Rattle.rules.specs.Rules.{stands_below}
use Rattle.count_best_link.proofs.least_not_below.Goals as goal

lower : (t x y : ℕ) → t ≤ tie_most → ltb x (y + 1 - t) ≡ cond (eqb t newest_wins) (leb x y) (ltb x y)
lower zero x y h = ap (λ n. leb (suc x) n) (omega arith) ∙ leb-suc-suc x y
lower (suc zero) x y h = ap (λ n. ltb x n) (omega arith)
lower (suc (suc t)) x y h = absurd (omega arith)

pub returns : goal.returns
unfolding stands_below
returns c κ f x =
    let a = c.args in
    lower a.p.tie x a.high c.requires.tie ∙ ap (λ (t : ℕ). cond (eqb t newest_wins) (leb x a.high) (ltb x a.high)) f.tie
