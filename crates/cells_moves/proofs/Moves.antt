-- What writes and moves of cells leave, as equations of lists. Assumes nothing.
use mathlib.Core.Path.{◌≡◌, refl, sym, ap, ◌∙◌}
use mathlib.Core.List.{List, ◌∷◌, ◌++◌, append-nil}
use Prim.Native.Nat.{ℕ, zero, suc, ◌+◌, ◌-◌, ◌≤◌, ◌<◌}
use native.Mathlib.Omega.{arith}
use native.Mathlib.Numerals.{add-one}
use lib.ListN.{length, take, drop, set, get_or, length-append, length-drop}
use lib.Seq.{length-take-le, take-length, drop_at, take-append-le, paste, paste-suc, take-take, drop-length}
use borrow.Rule.Slice.PartMut.{put_mid}
use Rattle.std.specs.Prelude.{replicate}
use Rattle.cells.specs.Area.{fit, zeros, written, moved_up, put_in}
use Rattle.cells.proofs.Areas.{fit_at, fit-zeros, fit-take}
use Rattle.cells.proofs.Lent.{tail_length, tail_back}

-- ---- a copy, turn by turn: `paste c at s j` has the first j cells of s over those of c from `at` on

pub paste_turn : (c x s : List ℕ) (at j v : ℕ) → x ≡ paste c at s j → v ≡ get_or s j 0 → at + j < length c → j < length s → set x (at + j) v ≡ paste c at s (j + 1)
paste_turn c x s at j v e ev hc hs = (λ i. set (e i) (at + j) (ev i)) ∙ paste-suc c at s j 0 hc hs ∙ ap (paste c at s) (sym (add-one j))

pub paste_done : (c s : List ℕ) (at j : ℕ) → j ≡ length s → paste c at s j ≡ written c at s
paste_done c s at j e = ap (paste c at s) e ∙ ap (λ (l : List ℕ). take at c ++ l ++ drop (at + length s) c) (take-length s)

-- a slice filled with zeros
pub all_zeros : (n : ℕ) → replicate n 0 ≡ zeros n
all_zeros zero = refl
all_zeros (suc n) = ap (λ (l : List ℕ). 0 ∷ l) (all_zeros n)

-- a row written over the first cells, and zeros over what follows it
pub filled : (c row x ys : List ℕ) → length row ≤ length c → x ≡ written c 0 row → length x ≡ length c → ys ≡ zeros (length (take (length x - length row) (drop (length row) x))) → put_mid (length row) (length x - length row) x ys ≡ fit (length c) row
filled c row x ys h e l z =
    let n = length c - length row in
    tail_back x (length row) ys (omega arith)
    ∙ (λ j. take (length row) (e j) ++ (z ∙ ap zeros (tail_length x (length row) ∙ ap (λ (k : ℕ). k - length row) l)) j)
    ∙ ap (λ (t : List ℕ). t ++ zeros n) (take-append-le (length row) row (drop (0 + length row) c) (omega arith) ∙ take-length row)
    ∙ sym (fit-zeros (length c) n row (omega arith))

-- ---- moving up

split_up : (c : List ℕ) (at w : ℕ) → at + w ≤ length c → moved_up c at w ≡ take (at + w) c ++ fit (length c - (at + w)) (drop at c)
split_up c at w h = fit_at (length c) (length c - (at + w)) (take (at + w) c) (drop at c) (rw (length-take-le (at + w) c h) (omega arith))

-- the cells from `at` on copied to where they go
pub copied_up : (c : List ℕ) (at w : ℕ) → at + w ≤ length c → paste c (at + w) (drop at c) (length c - w - at) ≡ moved_up c at w
copied_up c at w h =
    let n : ℕ = length c - w - at in
    let end : at + w + n ≡ length c = omega arith in
    let m : length c - (at + w) ≡ n = omega arith in
    let up : List ℕ = take (at + w) c ++ take n (drop at c) in
    ap (λ (k : ℕ). up ++ drop k c) end ∙ ap (λ (l : List ℕ). up ++ l) (drop-length c) ∙ append-nil up
    ∙ ap (λ (l : List ℕ). take (at + w) c ++ l) (sym (ap (λ (k : ℕ). fit k (drop at c)) m ∙ fit-take n (drop at c) (rw (length-drop at c) (omega arith))))
    ∙ sym (split_up c at w h)

-- ---- two moves together

-- moved up, then the row written over
pub put-done : (c row x y : List ℕ) (at : ℕ) → at + length row ≤ length c → x ≡ moved_up c at (length row) → y ≡ written x at row → y ≡ put_in c at row
put-done c row x y at h ex ey =
    let m : ℕ = at + length row in
    let t : List ℕ = fit (length c - m) (drop at c) in
    let e : x ≡ take m c ++ t = ex ∙ split_up c at (length row) h in
    let lm : length (take m c) ≡ m = length-take-le m c h in
    let a : take at x ≡ take at c = ap (take at) e ∙ take-append-le at (take m c) t (omega arith) ∙ take-take at m c (omega arith) in
    let b : drop m x ≡ t = ap (drop m) e ∙ drop_at (take m c) t m lm in
    let n : length c ≡ length (take at c ++ row) + (length c - m) = rw (length-append (take at c) row, length-take-le at c (omega arith)) (omega arith) in
    ey ∙ (λ i. a i ++ row ++ b i) ∙ sym (fit_at (length c) (length c - m) (take at c ++ row) (drop at c) n)
