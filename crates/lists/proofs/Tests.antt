-- Tests, what may be missing, and lists of tests.
use Prim.Native.Nat.{ℕ, zero, suc, ◌<◌}
use mathlib.Core.Path.{◌≡◌, refl, sym, ap₂}
use mathlib.Core.Bool.{Bool, true, false, cond, ◌&&◌, ◌||◌, true≢false}
use mathlib.Core.Option.{Option, none, some, map}
use mathlib.Core.List.{List, [], ◌∷◌}
use lib.Dec.{ltb, eqb}
use lib.ListN.{get_or, set}
use native.Mathlib.Omega.{arith}
use borrow.Author.Tests.{ltb-true, ne_eqb}
use Rattle.lists.specs.Lists.{maybe, and, all}

-- the two ways of a test
pub by_test : {A : Type 0} (P : A → Type 0) (t : Bool) {x y : A} → (t ≡ true → P x) → (t ≡ false → P y) → P (cond t x y)
by_test P true f g = f refl
by_test P false f g = g refl

-- a function goes into a test's two ways
pub cond_ap : {A X : Type 0} (f : A → X) (t : Bool) (a b : A) → f (cond t a b) ≡ cond t (f a) (f b)
cond_ap f true a b = refl
cond_ap f false a b = refl

pub cond_same : {A : Type 0} (t : Bool) (a : A) → cond t a a ≡ a
cond_same true a = refl
cond_same false a = refl

pub maybe-map : {A B X : Type 0} (f : A → B) (x : Option A) (d : X) (g : B → X) → maybe (map f x) d g ≡ maybe x d (λ a. g (f a))
maybe-map f none d g = refl
maybe-map f (some a) d g = refl

pub both : {a b : Bool} → a ≡ true → b ≡ true → (a && b) ≡ true
both p q = ap₂ (λ (x y : Bool). x && y) p q

pub and_left : (a b : Bool) → (a && b) ≡ true → a ≡ true
and_left true b h = refl
and_left false b h = h

pub and_right : (a b : Bool) → (a && b) ≡ true → b ≡ true
and_right true b h = h
and_right false b h = absurd (let z : ◌≡◌ {A = ℕ} 0 1 = cc in omega arith)

pub and_open : (a b : Bool) → (a && b) ≡ false → a ≡ true → b ≡ false
and_open true b h e = h
and_open false b h e = absurd (true≢false (sym e))

pub or_right : (a b : Bool) → b ≡ true → (a || b) ≡ true
or_right true b h = refl
or_right false b h = h

pub or_else : (a b : Bool) → (a || b) ≡ true → a ≡ false → b ≡ true
or_else true b h e = absurd (true≢false e)
or_else false b h e = h

pub or_neither : (a b : Bool) → (a || b) ≡ false → (a ≡ false) × (b ≡ false)
or_neither true b h = absurd (true≢false h)
or_neither false b h = (refl, h)

-- the test at place k of a list of tests that are all passed
pub and_at : (ts : List Bool) → and ts ≡ true → (k : ℕ) → get_or ts k true ≡ true
and_at [] h k = refl
and_at (t ∷ ts) h zero = and_left t (and ts) h
and_at (t ∷ ts) h (suc k) = and_at ts (and_right t (and ts) h) k

-- a list of tests, each passed by itself
pub data Each : List Bool → Type 0 where
  end : Each []
  also : {t : Bool} {ts : List Bool} → t ≡ true → Each ts → Each (t ∷ ts)

pub and-each : {ts : List Bool} → Each ts → and ts ≡ true
and-each end = refl
and-each (also p h) = both p (and-each h)

-- another test in place k
pub and_set : (ts : List Bool) (k : ℕ) (t : Bool) → and ts ≡ true → t ≡ true → and (set ts k t) ≡ true
and_set [] k t h p = refl
and_set (x ∷ ts) zero t h p = both p (and_right x (and ts) h)
and_set (x ∷ ts) (suc k) t h p = both (and_left x (and ts) h) (and_set ts k t (and_right x (and ts) h) p)

pub all-at : {A : Type 0} (p : A → Bool) (d : A) → p d ≡ true → (xs : List A) → all p xs ≡ true → (k : ℕ) → p (get_or xs k d) ≡ true
all-at p d e [] h k = e
all-at p d e (x ∷ xs) h zero = and_left (p x) (all p xs) h
all-at p d e (x ∷ xs) h (suc k) = all-at p d e xs (and_right (p x) (all p xs) h) k

-- a number below or above another is another
pub below_other : (x k : ℕ) → ltb x k ≡ true → eqb x k ≡ false
below_other x k h = ne_eqb x k (λ e. let l : x < k = ltb-true x k h in omega arith)

pub above_other : (x k : ℕ) → ltb k x ≡ true → eqb x k ≡ false
above_other x k h = ne_eqb x k (λ e. let l : k < x = ltb-true k x h in omega arith)
