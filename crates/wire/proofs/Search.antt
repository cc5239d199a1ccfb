-- The first place at which a test is true, as a search from 0 upwards finds it. Assumes nothing.
use mathlib.Core.Path.{◌≡◌, refl, ap, ◌∙◌}
use mathlib.Core.Bool.{Bool, true, false, cond}
use mathlib.Core.Option.{Option, none, some}
use Prim.Native.Nat.{ℕ, zero, suc, ◌+◌, ◌-◌, ◌<◌}
use native.Mathlib.Omega.{arith}
use native.Mathlib.Nat.{add-zero, add-suc}
use lib.Dec.{ltb}
use borrow.Author.Tests.{ltb-true, ltb-false}
use Rattle.lists.specs.Lists.{maybe}
use Rattle.wire.specs.Check.{first_where}

module _ (f : ℕ → Bool) where
  pub passed : (n : ℕ) → first_where n f ≡ none → f n ≡ false → first_where (suc n) f ≡ none
  unfolding first_where
  passed n e h = rw (e, h)

  met : (n : ℕ) → first_where n f ≡ none → f n ≡ true → first_where (suc n) f ≡ some n
  unfolding first_where
  met n e h = rw (e, h)

  -- what is found below n stays the first below any larger bound
  stays : (n k d : ℕ) → first_where n f ≡ some k → first_where (n + d) f ≡ some k
  unfolding first_where
  stays n k zero e = ap (λ (m : ℕ). first_where m f) (add-zero n) ∙ e
  stays n k (suc d) e = ap (λ (m : ℕ). first_where m f) (add-suc n d) ∙ rw (stays n k d e)

  pub found : (n m : ℕ) → n < m → first_where n f ≡ none → f n ≡ true → first_where m f ≡ some n
  found n m l e h =
      let s : m ≡ suc n + (m - suc n) = omega arith in
      ap (λ (x : ℕ). first_where x f) s ∙ stays (suc n) n (m - suc n) (met n e h)

  -- a place that is found lies below the bound
  pub below : (n k : ℕ) → first_where n f ≡ some k → k < n
  unfolding first_where
  below zero k e = let z : ◌≡◌ {A = ℕ} 0 1 = cc in omega arith
  below (suc n) k e = go (first_where n f) (f n) (below n k) e
    where
      go : (x : Option ℕ) (t : Bool) → (x ≡ some k → k < n) → maybe x (cond t (some n) none) some ≡ some k → k < suc n
      go (some j) t ih q = omega (arith, ih q)
      go none true ih q = let h : n ≡ k = cc in omega arith
      go none false ih q = let z : ◌≡◌ {A = ℕ} 0 1 = cc in omega arith

-- none is found where the test is nowhere true
pub nowhere : (f : ℕ → Bool) (n : ℕ) → ((k : ℕ) → k < n → f k ≡ false) → first_where n f ≡ none
unfolding first_where
nowhere f zero h = refl
nowhere f (suc n) h = rw (nowhere f n (λ k l. h k (omega arith)), h n (omega arith))

-- and the other way
pub nowhere_false : (f : ℕ → Bool) (n : ℕ) → first_where n f ≡ none → (k : ℕ) → k < n → f k ≡ false
unfolding first_where
nowhere_false f zero e k l = absurd (omega arith)
nowhere_false f (suc n) e k l = go (first_where n f) (f n) (λ p. nowhere_false f n p k) refl e
  where
    go : (x : Option ℕ) (t : Bool) → (x ≡ none → k < n → f k ≡ false) → f n ≡ t → maybe x (cond t (some n) none) some ≡ none → f k ≡ false
    go (some j) t ih q r = absurd (let z : ◌≡◌ {A = ℕ} 0 1 = cc in omega arith)
    go none true ih q r = absurd (let z : ◌≡◌ {A = ℕ} 0 1 = cc in omega arith)
    go none false ih q r = last (ltb k n) refl
      where
        last : (b : Bool) → ltb k n ≡ b → f k ≡ false
        last true d = ih refl (ltb-true k n d)
        last false d = let m = ltb-false k n d in let same : k ≡ n = omega arith in ap f same ∙ q
