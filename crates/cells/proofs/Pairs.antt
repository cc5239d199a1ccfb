-- Pairs of key and value in two cells. Assumes nothing.
use mathlib.Core.Path.{◌≡◌, refl, ap, ◌∙◌}
use mathlib.Core.List.{List, [], ◌∷◌, map}
use mathlib.Core.Bool.{true}
use Prim.Native.Nat.{ℕ, suc, ◌+◌, ◌*◌, ◌-◌, ◌≤◌, ◌<◌}
use native.Mathlib.Nat.{add-zero}
use native.Mathlib.Omega.{arith}
use lib.ListN.{length, take, drop, get_or}
use Rattle.lists.proofs.Lists.{all_true}
use Rattle.cells.specs.Area.{rows_of, all_zero}
use Rattle.cells.specs.Pairs.{pair_cells, pair_row, pair_of, pair_area, pairs_of}
use Rattle.cells.proofs.Keys.{row_cell, rows-one, rows_none}
use Rattle.cells.proofs.Trips.{area_trip, rows-area, rest-area, map_back, length-decoded}

pub pair-wide : (e : ℕ × ℕ) → length (pair_row e) ≡ pair_cells
pair-wide e = refl

pair_trip : (row : List ℕ) → length row ≡ pair_cells → true ≡ true → pair_row (pair_of row) ≡ row
pair_trip [] e h = let z : ◌≡◌ {A = ℕ} 0 2 = e in absurd (omega arith)
pair_trip (a ∷ []) e h = let z : ◌≡◌ {A = ℕ} 1 2 = e in absurd (omega arith)
pair_trip (a ∷ b ∷ []) e h = refl
pair_trip (a ∷ b ∷ c ∷ l) e h = let z : suc (suc (suc (length l))) ≡ 2 = e in absurd (omega arith)

-- cells with room for n pairs, k held and zeros after them, are the area of the pairs that they hold
pub pairs_trip : (n k : ℕ) (c : List ℕ) → length c ≡ n * pair_cells → k ≤ n → all_zero (drop (k * pair_cells) c) ≡ true → pair_area n (pairs_of k c) ≡ c
pairs_trip n k c e h z = area_trip pair_row pair_of pair_cells (λ (r : List ℕ). true) pair_trip n k c e h (all_true (λ (r : List ℕ). true) (λ r. refl) (rows_of pair_cells k c)) z

-- and the other way
pub pairs-area : (n : ℕ) (es : List (ℕ × ℕ)) → length es ≤ n → pairs_of (length es) (pair_area n es) ≡ es
pairs-area n es h = ap (map pair_of) (rows-area pair_row pair_cells pair-wide n es h) ∙ map_back pair_row pair_of (λ (e : ℕ × ℕ). true) (λ e t. refl) es (all_true (λ (e : ℕ × ℕ). true) (λ e. refl) es)

pub pairs-rest : (n : ℕ) (es : List (ℕ × ℕ)) → all_zero (drop (length es * pair_cells) (pair_area n es)) ≡ true
pairs-rest n es = rest-area pair_row pair_cells pair-wide n es

pub length_pairs : (n : ℕ) (c : List ℕ) → length (pairs_of n c) ≡ n
length_pairs n c = length-decoded pair_of pair_cells n c

-- the pair at place `at`
pub pair-at : (c : List ℕ) (at : ℕ) → pair_of (take pair_cells (drop at c)) ≡ (get_or c at 0, get_or c (at + 1) 0)
pair-at c at = λ i. ((row_cell pair_cells c at 0 (omega arith) ∙ ap (λ (k : ℕ). get_or c k 0) (add-zero at)) i, row_cell pair_cells c at 1 (omega arith) i)

-- `left` pairs from place `at` on: the first of them, or none
pub pairs-one : (c : List ℕ) (at left : ℕ) → 0 < left → pairs_of left (drop at c) ≡ (get_or c at 0, get_or c (at + 1) 0) ∷ pairs_of (left - 1) (drop (at + pair_cells) c)
pairs-one c at left h = ap (map pair_of) (rows-one pair_cells c at left h) ∙ ap (λ (e : ℕ × ℕ). e ∷ pairs_of (left - 1) (drop (at + pair_cells) c)) (pair-at c at)

pub pairs-none : (c : List ℕ) (at left : ℕ) → left ≤ 0 → pairs_of left (drop at c) ≡ []
pairs-none c at left h = ap (map pair_of) (rows_none pair_cells c at left h)
