-- Maps kept as lists of pairs that rise by a number, their key: records by address, links by pair, interfaces by number.
use Rattle.std.specs.Prelude.{ℕ, Bool, true, false, cond, ◌&&◌, List, [], ◌∷◌, ◌++◌, map, ltb, eqb}
use Rattle.std.proofs.Math.Option.{Option, none, some}
use Rattle.lists.specs.Lists.{maybe, keep, all}

-- what stands under a key
abbrev pub lookup : {A : Type 0} → ℕ → List (ℕ × A) → Option A
lookup k [] = none
lookup k (e ∷ es) = cond (eqb k e.0) (some e.1) (lookup k es)

-- something stands under a key
abbrev pub has_key : {A : Type 0} → ℕ → List (ℕ × A) → Bool
has_key k es = maybe (lookup k es) false (λ v. true)

-- the value under a key, at its place, for what stood under it
abbrev pub put : {A : Type 0} → ℕ → A → List (ℕ × A) → List (ℕ × A)
put k v es = keep (λ e. ltb e.0 k) es ++ ((k, v) ∷ keep (λ e. ltb k e.0) es)

-- the number at its place in a rising list of numbers
abbrev pub put_key : ℕ → List ℕ → List ℕ
put_key k ks = keep (λ x. ltb x k) ks ++ (k ∷ keep (λ x. ltb k x) ks)

-- each value turned into another, under the same key
abbrev pub map_values : {A X : Type 0} → (A → X) → List (ℕ × A) → List (ℕ × X)
map_values f es = map (λ e. (e.0, f e.1)) es

-- a value for each key
abbrev pub tabulate : {A : Type 0} → (ℕ → A) → List ℕ → List (ℕ × A)
tabulate g ks = map (λ k. (k, g k)) ks

-- the keys rise strictly
abbrev pub rising : {A : Type 0} → List (ℕ × A) → Bool
rising [] = true
rising (e ∷ es) = all (λ x. ltb e.0 x.0) es && rising es
