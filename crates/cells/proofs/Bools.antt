-- Tests that follow from each other, and the element at a place. Assumes nothing.
use mathlib.Core.Path.{◌≡◌, refl, sym, ◌∙◌}
use mathlib.Core.List.{List, [], ◌∷◌}
use mathlib.Core.Bool.{Bool, true, false, false≢true}
use Prim.Native.Nat.{ℕ, zero, suc, ◌<◌}
use native.Mathlib.Nat.{not-suc-le-zero, le_of_suc-le-suc}
use lib.ListN.{length, get_or}
use Rattle.lists.specs.Lists.{all}
use Rattle.lists.proofs.Tests.{and_left, and_right}

-- two tests that give each other are one
pub same_test : (a b : Bool) → (a ≡ true → b ≡ true) → (b ≡ true → a ≡ true) → a ≡ b
same_test true b f g = sym (f refl)
same_test false true f g = g refl
same_test false false f g = refl

-- a test fails where one that it gives fails
pub fails : (a b : Bool) → (a ≡ true → b ≡ true) → b ≡ false → a ≡ false
fails true b f e = absurd (false≢true (sym e ∙ f refl))
fails false b f e = refl

-- where all pass, the element at a place does
pub all-place : {A : Type 0} (p : A → Bool) (l : List A) (i : ℕ) (d : A) → all p l ≡ true → i < length l → p (get_or l i d) ≡ true
all-place p [] i d h k = absurd (not-suc-le-zero k)
all-place p (a ∷ l) zero d h k = and_left (p a) (all p l) h
all-place p (a ∷ l) (suc i) d h k = all-place p l i d (and_right (p a) (all p l) h) (le_of_suc-le-suc k)
