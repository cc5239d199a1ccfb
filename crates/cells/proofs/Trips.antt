-- From rows to cells and back. Assumes nothing.
use mathlib.Core.Path.{◌≡◌, refl, sym, ap, ◌∙◌}
use mathlib.Core.List.{List, [], ◌∷◌, ◌++◌, map}
use mathlib.Core.Bool.{Bool, true}
use Prim.Native.Nat.{ℕ, zero, suc, ◌+◌, ◌*◌, ◌-◌, ◌≤◌, ◌<◌}
use native.Mathlib.Nat.{suc-mul, zero-mul, not-suc-le-zero, le_of_suc-le-suc, mul-le-mul_right}
use native.Mathlib.Omega.{arith}
use lib.Dec.{eqb}
use borrow.Author.Tests.{eqb-true}
use lib.ListN.{length, take, drop, get_or, length-map, length-drop}
use lib.Seq.{take-add, take-take, drop-drop, length-take-le, drop-length, take_at, drop_at}
use Rattle.lists.specs.Lists.{all}
use Rattle.cells.specs.Area.{fit, zeros, flat, area, rows_of, all_zero}
use Rattle.lists.proofs.Tests.{and_left, and_right}
use Rattle.cells.proofs.Lent.{drop-take}
use Rattle.cells.proofs.Areas.{fit_at, length-rows, drop-fit}

-- ---- cells to rows and back

pub length-rows_of : (w n : ℕ) (c : List ℕ) → length (rows_of w n c) ≡ n
length-rows_of w zero c = refl
length-rows_of w (suc n) c = ap suc (length-rows_of w n (drop w c))

-- what is made of each of n rows: n elements
pub length-decoded : {A : Type 0} (dec : List ℕ → A) (w n : ℕ) (c : List ℕ) → length (map dec (rows_of w n c)) ≡ n
length-decoded dec w n c = length-map (rows_of w n c) dec ∙ length-rows_of w n c

-- the rows of a part that holds them
pub rows_take : (w n m : ℕ) (c : List ℕ) → n * w ≤ m → rows_of w n (take m c) ≡ rows_of w n c
rows_take w zero m c h = refl
rows_take w (suc n) m c h =
    let e = suc-mul n w in
    let d : drop w (take m c) ≡ take (m - w) (drop w c) = drop-take w m c in
    λ i. take-take w m c (omega arith) i ∷ (ap (rows_of w n) d ∙ rows_take w n (m - w) (drop w c) (omega arith)) i

-- row i
pub rows-at : (w n : ℕ) (c : List ℕ) (i : ℕ) (d : List ℕ) → i < n → get_or (rows_of w n c) i d ≡ take w (drop (i * w) c)
rows-at w zero c i d h = absurd (not-suc-le-zero h)
rows-at w (suc n) c zero d h = rw (zero-mul w)
rows-at w (suc n) c (suc i) d h =
    let e : w + i * w ≡ suc i * w = rw (suc-mul i w) (omega arith) in
    rows-at w n (drop w c) i d (le_of_suc-le-suc h) ∙ ap (take w) (drop-drop (i * w) w c ∙ ap (λ (k : ℕ). drop k c) e)

pub map-take : {A X : Type 0} (f : A → X) (n : ℕ) (l : List A) → map f (take n l) ≡ take n (map f l)
map-take f zero l = refl
map-take f (suc n) [] = refl
map-take {A} {X} f (suc n) (x ∷ l) = ap (λ (t : List X). f x ∷ t) (map-take f n l)

-- fewer rows are the first of them
pub rows-fewer : (w n m : ℕ) (c : List ℕ) → n ≤ m → rows_of w n c ≡ take n (rows_of w m c)
rows-fewer w zero m c h = refl
rows-fewer w (suc n) zero c h = absurd (not-suc-le-zero h)
rows-fewer w (suc n) (suc m) c h = ap (λ (l : List (List ℕ)). take w c ∷ l) (rows-fewer w n m (drop w c) (le_of_suc-le-suc h))

-- n rows are the first n * w cells
flat-rows_of : (w n : ℕ) (c : List ℕ) → flat (rows_of w n c) ≡ take (n * w) c
flat-rows_of w zero c = rw (zero-mul w)
flat-rows_of w (suc n) c =
    let e : suc n * w ≡ w + n * w = rw (suc-mul n w) (omega arith) in
    sym (ap (λ (k : ℕ). take k c) e ∙ take-add w (n * w) c ∙ ap (λ (l : List ℕ). take w c ++ l) (sym (flat-rows_of w n (drop w c))))

-- a cell of zeros
pub zero_at : (l : List ℕ) (i : ℕ) → all_zero l ≡ true → get_or l i 0 ≡ 0
zero_at [] i h = refl
zero_at (x ∷ l) zero h = eqb-true x 0 (and_left (eqb x 0) (all_zero l) h)
zero_at (x ∷ l) (suc i) h = zero_at l i (and_right (eqb x 0) (all_zero l) h)

are_zeros : (l : List ℕ) → all_zero l ≡ true → zeros (length l) ≡ l
are_zeros [] h = refl
are_zeros (x ∷ l) h =
    let e : 0 ≡ x = sym (eqb-true x 0 (and_left (eqb x 0) (all_zero l) h)) in
    λ i. e i ∷ are_zeros l (and_right (eqb x 0) (all_zero l) h) i

-- cells whose rest is zero are their first m cells, filled up
pub fit-rest : (m : ℕ) (c : List ℕ) → all_zero (drop m c) ≡ true → fit (length c) (take m c) ≡ c
fit-rest zero c h = are_zeros c h
fit-rest (suc m) [] h = refl
fit-rest (suc m) (x ∷ c) h = ap (λ (l : List ℕ). x ∷ l) (fit-rest m c h)

module _ {A : Type 0} (f : A → List ℕ) (dec : List ℕ → A) (w : ℕ) (p : List ℕ → Bool) (trip : (row : List ℕ) → length row ≡ w → p row ≡ true → f (dec row) ≡ row) where
  rows_trip : (n : ℕ) (c : List ℕ) → n * w ≤ length c → all p (rows_of w n c) ≡ true → map f (map dec (rows_of w n c)) ≡ rows_of w n c
  rows_trip zero c h a = refl
  rows_trip (suc n) c h a =
      let e = suc-mul n w in
      let rest = rows_of w n (drop w c) in
      let t : f (dec (take w c)) ≡ take w c = trip (take w c) (length-take-le w c (omega arith)) (and_left (p (take w c)) (all p rest) a) in
      let r : map f (map dec rest) ≡ rest = rows_trip n (drop w c) (rw (length-drop w c) (omega arith)) (and_right (p (take w c)) (all p rest) a) in
      λ i. t i ∷ r i

  -- cells with room for n rows, k that pass and zeros after them, are the area of what they decode to
  pub area_trip : (n k : ℕ) (c : List ℕ) → length c ≡ n * w → k ≤ n → all p (rows_of w k c) ≡ true → all_zero (drop (k * w) c) ≡ true → area f w n (map dec (rows_of w k c)) ≡ c
  area_trip n k c e h a z =
      let m : k * w ≤ n * w = mul-le-mul_right w h in
      ap (λ (l : List (List ℕ)). fit (n * w) (flat l)) (rows_trip k c (omega arith) a)
      ∙ ap (fit (n * w)) (flat-rows_of w k c)
      ∙ ap (λ (j : ℕ). fit j (take (k * w) c)) (sym e)
      ∙ fit-rest (k * w) c z

-- ---- rows to cells and back

pub zeros_zero : (n : ℕ) → all_zero (zeros n) ≡ true
zeros_zero zero = refl
zeros_zero (suc n) = zeros_zero n

module _ {A : Type 0} (f : A → List ℕ) (w : ℕ) (wide : (a : A) → length (f a) ≡ w) where
  area-cons : (n : ℕ) (a : A) (l : List A) → area f w (suc n) (a ∷ l) ≡ f a ++ area f w n l
  area-cons n a l = fit_at (suc n * w) (n * w) (f a) (flat (map f l)) (rw (suc-mul n w, wide a) (omega arith))

  pub rows-area : (n : ℕ) (l : List A) → length l ≤ n → rows_of w (length l) (area f w n l) ≡ map f l
  rows-area n [] h = refl
  rows-area zero (a ∷ l) h = absurd (not-suc-le-zero h)
  rows-area (suc n) (a ∷ l) h =
      let t : take w (area f w (suc n) (a ∷ l)) ≡ f a = ap (take w) (area-cons n a l) ∙ take_at (f a) (area f w n l) w (wide a) in
      let d : drop w (area f w (suc n) (a ∷ l)) ≡ area f w n l = ap (drop w) (area-cons n a l) ∙ drop_at (f a) (area f w n l) w (wide a) in
      λ i. t i ∷ (ap (rows_of w (length l)) d ∙ rows-area n l (le_of_suc-le-suc h)) i

  -- what follows the rows is zero
  pub rest-area : (n : ℕ) (l : List A) → all_zero (drop (length l * w) (area f w n l)) ≡ true
  rest-area n l =
      let e : drop (length l * w) (flat (map f l)) ≡ [] = ap (λ (k : ℕ). drop k (flat (map f l))) (sym (length-rows f w wide l)) ∙ drop-length (flat (map f l)) in
      rw (drop-fit (length l * w) (n * w) (flat (map f l)), e) (zeros_zero (n * w - length l * w))

-- decoding each row gives the elements back, where it does so for each element that passes
module _ {A : Type 0} (f : A → List ℕ) (dec : List ℕ → A) (p : A → Bool) (back : (a : A) → p a ≡ true → dec (f a) ≡ a) where
  pub map_back : (l : List A) → all p l ≡ true → map dec (map f l) ≡ l
  map_back [] h = refl
  map_back (a ∷ l) h = λ i. back a (and_left (p a) (all p l) h) i ∷ map_back l (and_right (p a) (all p l) h) i
