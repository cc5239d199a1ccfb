-- Elements written one after the other at the start of a lent list.
use Prim.Native.Nat.{ℕ, suc, ◌≤◌, ◌<◌}
use native.Mathlib.Omega.{arith}
use mathlib.Core.Path.{◌≡◌, sym, ◌∙◌}
use mathlib.Core.List.{List, append_assoc}
use lib.ListN.{length, get_or, set, take, drop}
use lib.Seq.{take-suc, drop-cons, set_at, length-take-le, length_front}
use Rattle.lists.specs.Lists.{written_to}

module _ {A : Type 0} (from ys : List A) (i : ℕ) where
  pub length-written : i ≤ length from → i ≤ length ys → length (written_to (take i from) ys) ≡ length ys
  unfolding written_to
  length-written hf hy =
      let l : length (take i from) ≡ i = length-take-le i from hf in
      rw l (length_front ys (take i from) i (l ∙ sym (length-take-le i ys hy)))

  -- with i of them written, the next is written
  pub written-more : (d : A) → i < length from → i < length ys → set (written_to (take i from) ys) i (get_or from i d) ≡ written_to (take (suc i) from) ys
  unfolding written_to
  written-more d hf hy =
      let l : length (take i from) ≡ i = length-take-le i from (omega arith) in
      let m : length (take (suc i) from) ≡ suc i = length-take-le (suc i) from hf in
      rw (m, l, take-suc from i d hf, append_assoc, drop-cons ys i d hy) (set_at (take i from) (get_or ys i d) (drop (suc i) ys) (get_or from i d) i l)
