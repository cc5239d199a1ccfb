-- The interface rows in the cells. Assumes nothing.
use mathlib.Core.Path.{◌≡◌, refl, sym, ap, ◌∙◌, subst}
use mathlib.Core.List.{List, []}
use mathlib.Core.Bool.{Bool, true, false}
use Prim.Native.Nat.{ℕ, ◌+◌, ◌*◌, ◌-◌, ◌≤◌, ◌<◌}
use native.Mathlib.Nat.{mul-le-mul_right}
use native.Mathlib.Omega.{arith}
use lib.Dec.{ltb}
use lib.ListN.{take, drop, get_or}
use lib.Seq.{get_or-drop}
use borrow.Author.Tests.{ltb-true, ltb-false}
use Rattle.lists.specs.Lists.{all}
use Rattle.cells.specs.Area.{rows_of}
use Rattle.lists.proofs.Tests.{and_left, and_right, and_at}
use Rattle.cells.proofs.Bools.{all-place}
use Rattle.cells.proofs.Keys.{row_cell}
use Rattle.cells.proofs.Trips.{rows-at, zero_at, length-rows_of}
use Rattle.window.specs.Window.{numbers}
use Rattle.rules.specs.Settings.{interface_most, interface_cells}
use Rattle.table_layout.specs.Layout.{used_at, last_at, interfaces_from, own_place, interface_part}
use Rattle.table_settings.specs.Check.{interface_row_tests, interface_row_ok, interfaces_ok}
use Rattle.table_layout.specs.Facts.{Numbered}
use Rattle.table_layout.proofs.Parts.{interface_cell}

-- row i in cells
pub row_of_lem : (c : List ℕ) (i j : ℕ) → i < interface_most → j < interface_cells → get_or (take interface_cells (drop (i * interface_cells) (interface_part c))) j 0 ≡ get_or c (own_place i + j) 0
row_of_lem c i j hi hj =
    let e : interfaces_from + (i * interface_cells + j) ≡ own_place i + j = omega arith in
    row_cell interface_cells (interface_part c) (i * interface_cells) j hj ∙ interface_cell c (i * interface_cells + j) (omega arith) ∙ ap (λ (k : ℕ). get_or c k 0) e

-- last sent numbers are in their range
pub numbered : (c : List ℕ) → get_or c used_at 0 ≤ interface_most → interfaces_ok c ≡ true → Numbered c
unfolding interfaces_ok
numbered c few h = record { last = λ i k. go i k (ltb i (get_or c used_at 0)) refl }
  where
    go : (i : ℕ) → i < interface_most → (b : Bool) → ltb i (get_or c used_at 0) ≡ b → get_or c (own_place i + last_at) 0 < numbers
    go i k true e =
        let n = get_or c used_at 0 in
        let rows = rows_of interface_cells n (interface_part c) in
        let l = ltb-true i n e in
        let r = length-rows_of interface_cells n (interface_part c) in
        let p : interface_row_ok (get_or rows i []) ≡ true = all-place interface_row_ok rows i [] (and_left (all interface_row_ok rows) _ (and_left _ _ h)) (omega arith) in
        let row = take interface_cells (drop (i * interface_cells) (interface_part c)) in
        let q : interface_row_ok row ≡ true = ap interface_row_ok (sym (rows-at interface_cells n (interface_part c) i [] l)) ∙ p in
        let t = ltb-true (get_or row last_at 0) numbers (and_at (interface_row_tests row) q 4) in
        subst (λ (x : ℕ). x < numbers) (row_of_lem c i last_at k (omega arith)) t
    go i k false e =
        let n = get_or c used_at 0 in
        let l = ltb-false i n e in
        let w = interface_cells in
        let m = mul-le-mul_right w l in
        -- the place of the number in its row, from the first unused cell on
        let j = i * w + last_at - n * w in
        let z = zero_at (drop (n * w) (interface_part c)) j (and_right (all interface_row_ok (rows_of w n (interface_part c))) _ (and_left _ _ h)) in
        let f : n * w + j ≡ i * w + last_at = omega arith in
        let g : interfaces_from + (i * w + last_at) ≡ own_place i + last_at = omega arith in
        let v : get_or c (own_place i + last_at) 0 ≡ 0 =
        ap (λ (k : ℕ). get_or c k 0) (sym g) ∙ sym (interface_cell c (i * w + last_at) (omega arith)) ∙ ap (λ (k : ℕ). get_or (interface_part c) k 0) (sym f) ∙ sym (get_or-drop (n * w) (interface_part c) j 0) ∙ z in
        omega arith
