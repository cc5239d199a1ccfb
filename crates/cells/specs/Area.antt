-- Areas of cells: rows of equal width one after the other, the unused cells zero. Nothing here knows a width or an offset.
use Rattle.std.specs.Prelude.{List, [], ◌∷◌, ◌++◌, map, ℕ, zero, suc, ◌+◌, ◌*◌, Bool, true, ◌&&◌, leb, eqb, length, take, drop, get_or}
use Rattle.lists.specs.Lists.{all}

-- l, cut to n cells or filled up with zeros
abbrev pub fit : ℕ → List ℕ → List ℕ
fit zero l = []
fit (suc n) [] = 0 ∷ fit n []
fit (suc n) (x ∷ l) = x ∷ fit n l

-- n zeros
abbrev pub zeros : ℕ → List ℕ
zeros n = fit n []

-- every cell is zero
abbrev pub all_zero : List ℕ → Bool
all_zero c = all (λ x. eqb x 0) c

-- n cells one by one, from place i on
abbrev pub cells_from : (i n : ℕ) → List ℕ → List ℕ
cells_from i zero c = []
cells_from i (suc n) c = get_or c i 0 ∷ cells_from (suc i) n c

-- ---- rows

-- rows one after the other
abbrev pub flat : List (List ℕ) → List ℕ
flat [] = []
flat (r ∷ rs) = r ++ flat rs

-- an area with room for n rows of w cells: the row that f gives for each element, and zeros
abbrev pub area : {A : Type 0} → (A → List ℕ) → (w n : ℕ) → List A → List ℕ
area f w n l = fit (n * w) (flat (map f l))

-- the other way: the first n rows of w cells
abbrev pub rows_of : (w n : ℕ) → List ℕ → List (List ℕ)
rows_of w zero c = []
rows_of w (suc n) c = take w c ∷ rows_of w n (drop w c)

-- a row's key is its first cell
abbrev pub key_of : List ℕ → ℕ
key_of row = get_or row 0 0

-- the keys of the first n rows
abbrev pub column : (w n : ℕ) → List ℕ → List ℕ
column w n c = map key_of (rows_of w n c)

-- numbers that rise strictly, none below `low`
abbrev pub rise_from : (low : ℕ) → List ℕ → Bool
rise_from low [] = true
rise_from low (x ∷ l) = leb low x && rise_from (x + 1) l

-- numbers that rise strictly
abbrev pub rise : List ℕ → Bool
rise l = rise_from 0 l

-- one pass over rows that are to rise by their keys, none below `low`, and each pass a test
abbrev pub scan : (List ℕ → Bool) → (low : ℕ) → List (List ℕ) → Bool
scan p low [] = true
scan p low (r ∷ rs) = leb low (key_of r) && p r && scan p (key_of r + 1) rs

-- ---- changes of a list

-- the list with one more element at place i
abbrev pub insert_at : {A : Type 0} → (i : ℕ) → A → List A → List A
insert_at i a l = take i l ++ a ∷ drop i l

-- ---- changes of cells

-- `row` over the cells from `at` on
abbrev pub written : List ℕ → (at : ℕ) → List ℕ → List ℕ
written c at row = take at c ++ row ++ drop (at + length row) c

-- every cell from `at` on w places higher: the w cells at `at` stand twice, and the last w fall off
abbrev pub moved_up : List ℕ → (at w : ℕ) → List ℕ
moved_up c at w = fit (length c) (take (at + w) c ++ drop at c)

-- `row` put in at `at`: what follows moves up, and what no longer fits falls off the end
abbrev pub put_in : List ℕ → (at : ℕ) → List ℕ → List ℕ
put_in c at row = fit (length c) (take at c ++ row ++ drop at c)
