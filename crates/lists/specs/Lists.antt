-- Lists and what may be missing. A test is a function to Bool.
use Rattle.std.specs.Prelude.{ℕ, ◌+◌, Bool, true, false, cond, ◌&&◌, ◌||◌, List, [], ◌∷◌, ◌++◌, eqb, length, drop}
use Rattle.std.proofs.Math.Option.{Option, none, some}

-- f of what is there, or x
abbrev pub maybe : {A X : Type 0} → Option A → X → (A → X) → X
maybe none x f = x
maybe (some a) x f = f a

-- every test of a list is passed
abbrev pub and : List Bool → Bool
and [] = true
and (t ∷ ts) = t && and ts

-- the elements that pass the test
abbrev pub keep : {A : Type 0} → (A → Bool) → List A → List A
keep p [] = []
keep p (x ∷ xs) = cond (p x) (x ∷ keep p xs) (keep p xs)

-- the first element that passes the test
abbrev pub first : {A : Type 0} → (A → Bool) → List A → Option A
first p [] = none
first p (x ∷ xs) = cond (p x) (some x) (first p xs)

-- every element passes the test
abbrev pub all : {A : Type 0} → (A → Bool) → List A → Bool
all p [] = true
all p (x ∷ xs) = p x && all p xs

-- the number stands in the list
abbrev pub elem : ℕ → List ℕ → Bool
elem k [] = false
elem k (x ∷ xs) = eqb k x || elem k xs

-- the sum of the numbers
abbrev pub sum : List ℕ → ℕ
sum [] = 0
sum (x ∷ xs) = x + sum xs

-- what a lent list holds once xs is written at its start: the rest is untouched
unfoldable pub written_to : {A : Type 0} → List A → List A → List A
written_to xs lent = xs ++ drop (length xs) lent
