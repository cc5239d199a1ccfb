-- Writes at the start of a lent output, and into its rest. Assumes nothing.
use mathlib.Core.Path.{◌≡◌, ◌∙◌, ap}
use mathlib.Core.List.{List, ◌++◌, append_assoc, append-nil}
use Prim.Native.Nat.{ℕ, ◌-◌, ◌≤◌, ◌<◌}
use native.Mathlib.Omega.{arith}
use lib.ListN.{length, take, drop, set, length-set, length-append, length-drop}
use lib.Seq.{take_all, take-length, take_at, drop_at, drop-length, drop-drop, set-append_left}
use borrow.Rule.Slice.PartMut.{put_mid, Post-is}
use Rattle.lists.specs.Lists.{written_to}

-- `&s[n..]` lends the list without its first n
pub rest : (n : ℕ) (l : List ℕ) → take (length l - n) (drop n l) ≡ drop n l
rest n l = take_all (length l - n) (drop n l) (simp length-drop (omega arith))

-- what `bytes::copy` leaves
pub copied : (s o d : List ℕ) → d ≡ take (length s) s ++ drop (length s) o → d ≡ written_to s o
unfolding written_to
copied s o d e = e ∙ rw take-length

-- a write at the start, then one into the rest, is one write of both
pub then_rest : (n : ℕ) (w t o d m : List ℕ) → length w ≡ n → n ≤ length d → d ≡ written_to w o → m ≡ written_to t (take (length d - n) (drop n d)) → put_mid n (length d - n) d m ≡ written_to (w ++ t) o
unfolding written_to
then_rest n w t o d m e h a b =
    let tk : take n d ≡ w = ap (take n) a ∙ take_at w (drop (length w) o) n e in
    let dr : drop n d ≡ drop n o = ap (drop n) a ∙ drop_at w (drop (length w) o) n e ∙ rw e in
    rw (b, rest n d, Post-is n (length d) d h, drop-length, append-nil, tk, dr, drop-drop, append_assoc, length-append, e)

-- two stores into a copy are a copy of the two stores
pub stores : (i j : ℕ) (p o d : List ℕ) (x y : ℕ) → i < length p → j < length p → d ≡ written_to p o → set (set d i x) j y ≡ written_to (set (set p i x) j y) o
unfolding written_to
stores i j p o d x y hi hj e =
    let h : j < length (set p i x) = simp length-set (omega arith) in
    simp (e, set-append_left p (drop (length p) o) i x hi, set-append_left (set p i x) (drop (length p) o) j y h, length-set)
