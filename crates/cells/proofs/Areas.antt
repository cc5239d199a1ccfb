-- Laws of areas, for any width. Assumes nothing.
use mathlib.Core.Path.{◌≡◌, refl, sym, ap, ◌∙◌}
use mathlib.Core.List.{List, [], ◌∷◌, ◌++◌, map, append_assoc, append-nil}
use Prim.Native.Nat.{ℕ, zero, suc, ◌+◌, ◌*◌, ◌-◌, ◌≤◌, ◌<◌}
use native.Mathlib.Nat.{le_of_suc-le-suc, not-suc-le-zero, suc-add, suc-sub-suc, zero-add, suc-mul, sub-zero, zero-sub, zero-mul, mul-le-mul_right}
use native.Mathlib.Omega.{arith}
use lib.ListN.{length, take, drop, set, get_or, length-append, length-drop}
use lib.Seq.{take_all, take-append-add, drop-append-add, length-take-le, set_split, drop-cons, take_at, drop_at}
use Rattle.lists.proofs.Lists.{map-append}
use Rattle.cells.specs.Area.{fit, zeros, flat, area, insert_at, written, put_in}

-- ---- a list with one more element

pub length_insert : {A : Type 0} (i : ℕ) (a : A) (l : List A) → i ≤ length l → length (insert_at i a l) ≡ length l + 1
length_insert i a l h = omega (arith, length-append (take i l) (a ∷ drop i l), length-take-le i l h, length-drop i l)

-- ---- cut or filled up to a length

pub length-fit : (n : ℕ) (l : List ℕ) → length (fit n l) ≡ n
length-fit zero l = refl
length-fit (suc n) [] = ap suc (length-fit n [])
length-fit (suc n) (x ∷ l) = ap suc (length-fit n l)

pub get_or_fit : (n : ℕ) (l : List ℕ) (i : ℕ) → i < n → get_or (fit n l) i 0 ≡ get_or l i 0
get_or_fit zero l i h = absurd (not-suc-le-zero h)
get_or_fit (suc n) [] zero h = refl
get_or_fit (suc n) [] (suc i) h = get_or_fit n [] i (le_of_suc-le-suc h)
get_or_fit (suc n) (x ∷ l) zero h = refl
get_or_fit (suc n) (x ∷ l) (suc i) h = get_or_fit n l i (le_of_suc-le-suc h)

pub fit_append : (a b : List ℕ) (n : ℕ) → fit (length a + n) (a ++ b) ≡ a ++ fit n b
fit_append [] b n = ap (λ (k : ℕ). fit k b) (zero-add n)
fit_append (x ∷ a) b n = rw (suc-add, fit_append a b n)

-- the same, with the length given
pub fit_at : (m n : ℕ) (a b : List ℕ) → m ≡ length a + n → fit m (a ++ b) ≡ a ++ fit n b
fit_at m n a b e = ap (λ (k : ℕ). fit k (a ++ b)) e ∙ fit_append a b n

-- filled up with zeros
pub fit-zeros : (m n : ℕ) (a : List ℕ) → m ≡ length a + n → fit m a ≡ a ++ zeros n
fit-zeros m n a e = ap (fit m) (sym (append-nil a)) ∙ fit_at m n a [] e

pub fit_nil_fit : (n m : ℕ) → fit n (fit m []) ≡ fit n []
fit_nil_fit zero m = refl
fit_nil_fit (suc n) zero = refl
fit_nil_fit (suc n) (suc m) = ap (λ (t : List ℕ). 0 ∷ t) (fit_nil_fit n m)

-- a fit under a fit, long enough for what it holds
fit-fit : (n m : ℕ) (b : List ℕ) → length b ≤ m → fit n (fit m b) ≡ fit n b
fit-fit zero m b h = refl
fit-fit (suc n) zero [] h = refl
fit-fit (suc n) zero (x ∷ b) h = absurd (not-suc-le-zero h)
fit-fit (suc n) (suc m) [] h = ap (λ (t : List ℕ). 0 ∷ t) (fit_nil_fit n m)
fit-fit (suc n) (suc m) (x ∷ b) h = ap (λ (t : List ℕ). x ∷ t) (fit-fit n m b (le_of_suc-le-suc h))

fit_in : (n : ℕ) (a : List ℕ) (m : ℕ) (b : List ℕ) → length b ≤ m → fit n (a ++ fit m b) ≡ fit n (a ++ b)
fit_in n [] m b h = fit-fit n m b h
fit_in zero (x ∷ a) m b h = refl
fit_in (suc n) (x ∷ a) m b h = ap (λ (t : List ℕ). x ∷ t) (fit_in n a m b h)

pub take-fit : (i n : ℕ) (l : List ℕ) → i ≤ n → i ≤ length l → take i (fit n l) ≡ take i l
take-fit zero n l h k = refl
take-fit (suc i) zero l h k = absurd (not-suc-le-zero h)
take-fit (suc i) (suc n) [] h k = absurd (not-suc-le-zero k)
take-fit (suc i) (suc n) (x ∷ l) h k = ap (λ (t : List ℕ). x ∷ t) (take-fit i n l (le_of_suc-le-suc h) (le_of_suc-le-suc k))

-- cells enough, so only cut
pub fit-take : (n : ℕ) (l : List ℕ) → n ≤ length l → fit n l ≡ take n l
fit-take n l h = sym (take_all n (fit n l) (omega (arith, length-fit n l))) ∙ take-fit n n l (omega arith) h

pub drop-zeros : (i n : ℕ) → drop i (zeros n) ≡ zeros (n - i)
drop-zeros zero n = rw sub-zero
drop-zeros (suc i) zero = rw (zero-sub (suc i))
drop-zeros (suc i) (suc n) = rw (suc-sub-suc, drop-zeros i n)

pub drop-fit : (i n : ℕ) (l : List ℕ) → drop i (fit n l) ≡ fit (n - i) (drop i l)
drop-fit zero n l = rw sub-zero
drop-fit (suc i) zero l = rw (zero-sub (suc i))
drop-fit (suc i) (suc n) [] = rw (suc-sub-suc, drop-zeros i n)
drop-fit (suc i) (suc n) (x ∷ l) = rw (suc-sub-suc, drop-fit i n l)

pub zeros-append : (n m : ℕ) → zeros n ++ zeros m ≡ zeros (n + m)
zeros-append zero m = ap zeros (sym (zero-add m))
zeros-append (suc n) m = rw (suc-add, zeros-append n m)

-- ---- rows one after the other

pub flat_append : (a b : List (List ℕ)) → flat (a ++ b) ≡ flat a ++ flat b
flat_append [] b = refl
flat_append (r ∷ a) b = rw (flat_append a b, append_assoc r (flat a) (flat b))

module _ {A : Type 0} (f : A → List ℕ) (w : ℕ) (wide : (a : A) → length (f a) ≡ w) where
  pub rows_append : (a b : List A) → flat (map f (a ++ b)) ≡ flat (map f a) ++ flat (map f b)
  rows_append a b = ap flat (map-append f a b) ∙ flat_append (map f a) (map f b)

  pub length-rows : (l : List A) → length (flat (map f l)) ≡ length l * w
  length-rows [] = sym (zero-mul w)
  length-rows (x ∷ l) = length-append (f x) (flat (map f l)) ∙ rw (wide x, length-rows l, suc-mul (length l) w) (omega arith)

  -- i rows more
  one_more : (i : ℕ) (x : A) → suc i * w ≡ length (f x) + i * w
  one_more i x = rw (suc-mul i w, wide x) (omega arith)

  take-rows : (i : ℕ) (l : List A) → i ≤ length l → take (i * w) (flat (map f l)) ≡ flat (map f (take i l))
  take-rows zero l h = rw (zero-mul w)
  take-rows (suc i) [] h = absurd (not-suc-le-zero h)
  take-rows (suc i) (x ∷ l) h =
      ap (λ (k : ℕ). take k (f x ++ flat (map f l))) (one_more i x) ∙ take-append-add (f x) (flat (map f l)) (i * w)
      ∙ ap (λ (t : List ℕ). f x ++ t) (take-rows i l (le_of_suc-le-suc h))

  drop-rows : (i : ℕ) (l : List A) → i ≤ length l → drop (i * w) (flat (map f l)) ≡ flat (map f (drop i l))
  drop-rows zero l h = rw (zero-mul w)
  drop-rows (suc i) [] h = absurd (not-suc-le-zero h)
  drop-rows (suc i) (x ∷ l) h =
      ap (λ (k : ℕ). drop k (f x ++ flat (map f l))) (one_more i x) ∙ drop-append-add (f x) (flat (map f l)) (i * w)
      ∙ drop-rows i l (le_of_suc-le-suc h)

  pub length-area : (n : ℕ) (l : List A) → length (area f w n l) ≡ n * w
  length-area n l = length-fit (n * w) (flat (map f l))

  -- the same rows in an area with more room: the further cells are zero
  module _ (m n : ℕ) (l : List A) (few : length l ≤ m) (more : m ≤ n) where
    area-more : area f w n l ≡ area f w m l ++ zeros (n * w - m * w)
    area-more =
        let b : List ℕ = flat (map f l) in
        let x : length l * w ≤ m * w = mul-le-mul_right w few in
        let y : m * w ≤ n * w = mul-le-mul_right w more in
        let e : length b ≡ length l * w = length-rows l in
        let z : m * w - length b + (n * w - m * w) ≡ n * w - length b = omega arith in
        fit-zeros (n * w) (n * w - length b) b (omega arith)
        ∙ ap (λ (t : List ℕ). b ++ t) (sym (zeros-append (m * w - length b) (n * w - m * w) ∙ ap zeros z))
        ∙ sym (append_assoc b (zeros (m * w - length b)) (zeros (n * w - m * w)))
        ∙ ap (λ (t : List ℕ). t ++ zeros (n * w - m * w)) (sym (fit-zeros (m * w) (m * w - length b) b (omega arith)))

    pub take_more : take (m * w) (area f w n l) ≡ area f w m l
    take_more = ap (take (m * w)) area-more ∙ take_at (area f w m l) (zeros (n * w - m * w)) (m * w) (length-area m l)

    drop_more : drop (m * w) (area f w n l) ≡ zeros (n * w - m * w)
    drop_more = ap (drop (m * w)) area-more ∙ drop_at (area f w m l) (zeros (n * w - m * w)) (m * w) (length-area m l)

  -- other rows in the part for m rows, where no further one is held before or after
  pub more_back : (m n : ℕ) (l k : List A) → length l ≤ m → length k ≤ m → m ≤ n → area f w m k ++ drop (m * w) (area f w n l) ≡ area f w n k
  more_back m n l k h j more = ap (λ (t : List ℕ). area f w m k ++ t) (drop_more m n l h more) ∙ sym (area-more m n k j more)

  -- the rows before a place, and those from it on
  module _ (n : ℕ) (l : List A) (room : length l ≤ n) where
    pub take-area : (i : ℕ) → i ≤ length l → take (i * w) (area f w n l) ≡ flat (map f (take i l))
    take-area i h =
        let a : i * w ≤ n * w = mul-le-mul_right w (omega arith) in
        let b : i * w ≤ length (flat (map f l)) = rw length-rows (mul-le-mul_right w h) in
        take-fit (i * w) (n * w) (flat (map f l)) a b ∙ take-rows i l h

    pub drop-area : (i : ℕ) → i ≤ length l → drop (i * w) (area f w n l) ≡ fit (n * w - i * w) (flat (map f (drop i l)))
    drop-area i h = drop-fit (i * w) (n * w) (flat (map f l)) ∙ ap (fit (n * w - i * w)) (drop-rows i l h)

    short : (i : ℕ) → i ≤ length l → length (flat (map f (drop i l))) ≤ n * w - i * w
    short i h =
        let m : length l * w ≤ n * w = mul-le-mul_right w room in
        let e : length (flat (map f (drop i l))) ≡ length l * w - i * w =
        ap length (sym (drop-rows i l h)) ∙ length-drop (i * w) (flat (map f l)) ∙ ap (λ (k : ℕ). k - i * w) (length-rows l) in
        omega arith

    next : (i : ℕ) → i * w + w ≡ suc i * w
    next i = rw (suc-mul i w)

    -- a row put in
    pub put-row : (i : ℕ) (a : A) → i ≤ length l → put_in (area f w n l) (i * w) (f a) ≡ area f w n (insert_at i a l)
    put-row i a h =
        rw (length-area n l, take-area i h, drop-area i h, rows_append (take i l) (a ∷ drop i l))
        (fit_in (n * w) (flat (map f (take i l)) ++ f a) (n * w - i * w) (flat (map f (drop i l))) (short i h)
        ∙ ap (fit (n * w)) (append_assoc (flat (map f (take i l))) (f a) (flat (map f (drop i l)))))

    -- a row written over
    pub write-row : (i : ℕ) (a : A) → i < length l → written (area f w n l) (i * w) (f a) ≡ area f w n (set l i a)
    write-row i a h =
        let b : List ℕ = flat (map f (take i l)) in
        let q : List ℕ = flat (map f (drop (suc i) l)) in
        let m : suc i * w ≤ n * w = mul-le-mul_right w (omega arith) in
        let lb : length b ≡ i * w = length-rows (take i l) ∙ ap (λ (k : ℕ). k * w) (length-take-le i l (omega arith)) in
        let e : n * w ≡ length (b ++ f a) + (n * w - suc i * w) = rw (length-append b (f a), lb, wide a, next i) (omega arith) in
        rw (wide a, next i, take-area i (omega arith), drop-area (suc i) h)
        (sym (ap (λ (t : List A). area f w n t) (set_split l i a h)
        ∙ ap (fit (n * w)) (rows_append (take i l) (a ∷ drop (suc i) l) ∙ sym (append_assoc b (f a) q))
        ∙ fit_at (n * w) (n * w - suc i * w) (b ++ f a) q e))

    -- a row read
    pub read-row : (i : ℕ) (d : A) → i < length l → take w (drop (i * w) (area f w n l)) ≡ f (get_or l i d)
    read-row i d h =
        let q : List ℕ = flat (map f (drop (suc i) l)) in
        let m : suc i * w ≤ n * w = mul-le-mul_right w (omega arith) in
        let e : n * w - i * w ≡ length (f (get_or l i d)) + (n * w - suc i * w) = rw wide (omega (arith, next i)) in
        rw (drop-area i (omega arith), drop-cons l i d h)
        (ap (take w) (fit_at (n * w - i * w) (n * w - suc i * w) (f (get_or l i d)) q e)
        ∙ take_at (f (get_or l i d)) (fit (n * w - suc i * w) q) w (wide (get_or l i d)))
