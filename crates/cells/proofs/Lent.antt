-- A part of the cells that is lent and comes back. Assumes nothing.
use mathlib.Core.Path.{◌≡◌, sym, ap, ◌∙◌}
use mathlib.Core.List.{List, [], ◌∷◌, ◌++◌, append-nil}
use Prim.Native.Nat.{ℕ, zero, suc, ◌+◌, ◌-◌, ◌≤◌, ◌<◌}
use native.Mathlib.Nat.{add-zero, sub-zero, zero-sub, suc-sub-suc}
use native.Mathlib.Omega.{arith}
use lib.ListN.{length, take, drop, get_or, length-drop}
use lib.Seq.{get_or-drop, get_or-take, take_all, length-take-le, drop-drop, drop-length, drop-cons, take-nil}
use borrow.Rule.Slice.PartMut.{put_mid}
use Rattle.cells.specs.Area.{cells_from}

-- from a, w cells
module _ (c : List ℕ) (a w : ℕ) (within : a + w ≤ length c) where
  width : a + w - a ≡ w
  width = omega arith

  pub part_is : take (a + w - a) (drop a c) ≡ take w (drop a c)
  part_is = ap (λ (k : ℕ). take k (drop a c)) width

  pub part_length : length (take (a + w - a) (drop a c)) ≡ w
  part_length = ap length part_is ∙ length-take-le w (drop a c) (rw (length-drop a c) (omega arith))

  pub part_cell : (j : ℕ) → j < w → get_or (take (a + w - a) (drop a c)) j 0 ≡ get_or c (a + j) 0
  part_cell j h = ap (λ (l : List ℕ). get_or l j 0) part_is ∙ get_or-take w (drop a c) j 0 h ∙ get_or-drop a c j 0

  pub part_first : 0 < w → get_or (take (a + w - a) (drop a c)) 0 0 ≡ get_or c a 0
  part_first z = part_cell 0 z ∙ ap (λ (k : ℕ). get_or c k 0) (add-zero a)

-- from a to the end
pub tail_is : (c : List ℕ) (a : ℕ) → take (length c - a) (drop a c) ≡ drop a c
tail_is c a = take_all (length c - a) (drop a c) (rw (length-drop a c) (omega arith))

pub tail_length : (c : List ℕ) (a : ℕ) → length (take (length c - a) (drop a c)) ≡ length c - a
tail_length c a = ap length (tail_is c a) ∙ length-drop a c

pub tail_back : (c : List ℕ) (a : ℕ) (ys : List ℕ) → a ≤ length c → put_mid a (length c - a) c ys ≡ take a c ++ ys
tail_back c a ys h =
    let e : a + (length c - a) ≡ length c = omega arith in
    let d : drop (length c - a) (drop a c) ≡ [] = drop-drop (length c - a) a c ∙ ap (λ (k : ℕ). drop k c) e ∙ drop-length c in
    ap (λ (l : List ℕ). take a c ++ (ys ++ l)) d ∙ ap (λ (l : List ℕ). take a c ++ l) (append-nil ys)

-- cells read one by one, and what follows them
pub cells_from_lem : (i n : ℕ) (c : List ℕ) → i + n ≤ length c → drop i c ≡ cells_from i n c ++ drop (i + n) c
cells_from_lem i zero c h = ap (λ (k : ℕ). drop k c) (sym (add-zero i))
cells_from_lem i (suc n) c h =
    let e : suc i + n ≡ i + suc n = omega arith in
    drop-cons c i 0 (omega arith) ∙ ap (λ (l : List ℕ). get_or c i 0 ∷ l) (cells_from_lem (suc i) n c (omega arith) ∙ ap (λ (k : ℕ). cells_from (suc i) n c ++ drop k c) e)

-- what follows in a part
pub drop-take : (k m : ℕ) (l : List ℕ) → drop k (take m l) ≡ take (m - k) (drop k l)
drop-take zero m l = ap (λ (n : ℕ). take n l) (sym (sub-zero m))
drop-take (suc k) zero l = ap (λ (n : ℕ). take n (drop (suc k) l)) (sym (zero-sub (suc k)))
drop-take (suc k) (suc m) [] = sym (take-nil (suc m - suc k))
drop-take (suc k) (suc m) (x ∷ l) = drop-take k m l ∙ ap (λ (n : ℕ). take n (drop k l)) (sym (suc-sub-suc m k))
