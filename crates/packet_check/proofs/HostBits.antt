-- Host bits by a shift. Assumes nothing.
use mathlib.Core.Path.{◌≡◌, sym, ap, ap₂, ◌∙◌}
use mathlib.Core.Bool.{Bool, true, false, not, ◌&&◌, ◌||◌}
use mathlib.Core.List.{List}
use Prim.Native.Nat.{ℕ, zero, suc, ◌+◌, ◌-◌, ◌*◌, ◌%◌, ◌^◌, ◌≤◌}
use native.Mathlib.Nat.{add-zero, zero-mul, suc-mul, mod-one, mul-mod_left}
use native.Mathlib.Omega.{arith}
use borrow.Author.Tests.{ltb-true, ltb-false, ne_eqb}
use lib.Dec.{eqb}
use lib.Pow.{pow_pos, shl-shr, mod-pow-add, mod-mod-pow}
use Rattle.wire.specs.Layout.{mask_most}
use Rattle.wire.specs.Check.{network, mask, bad_mask, host_bits, host_bits_set}

-- a number times a power of two is 0 exactly if it is 0
times_power : (n k : ℕ) → eqb (n * 2 ^ k) 0 ≡ eqb n 0
times_power zero k = ap (λ (x : ℕ). eqb x 0) (zero-mul (2 ^ k))
times_power (suc n) k = ne_eqb (suc n * 2 ^ k) 0 (λ e. omega (arith, suc-mul n (2 ^ k), pow_pos k)) ∙ sym (ne_eqb (suc n) 0 (λ e. omega arith))

-- shifted up by s, the lowest w - s bits of a number stay in the lowest w, and no others are there
pub shifted : (w s n : ℕ) → s ≤ w → eqb (n * 2 ^ s % 2 ^ w) 0 ≡ eqb (n % 2 ^ (w - s)) 0
shifted w s n l =
    let d : ℕ = w - s in
    let e : w ≡ d + s = omega arith in
    ap (λ (x : ℕ). eqb (n * 2 ^ s % 2 ^ x) 0) e ∙ ap (λ (x : ℕ). eqb x 0) (mod-pow-add (n * 2 ^ s) d s)
    ∙ ap₂ (λ (x y : ℕ). eqb (x % 2 ^ d * 2 ^ s + y) 0) (shl-shr n s) (mul-mod_left n (2 ^ s))
    ∙ ap (λ (x : ℕ). eqb x 0) (add-zero (n % 2 ^ d * 2 ^ s)) ∙ times_power (n % 2 ^ d) s

-- the same in a word of twice as many bits, as the code shifts
pub in_word : (w s n : ℕ) → s ≤ w → eqb (n * 2 ^ s % 2 ^ (w + w) % 2 ^ w) 0 ≡ eqb (n % 2 ^ (w - s)) 0
in_word w s n l = ap (λ (x : ℕ). eqb x 0) (mod-mod-pow (n * 2 ^ s) w w) ∙ shifted w s n l

-- below a mask above 32 there is no bit
none_below : (e : List ℕ) (k : ℕ) → true ≡ bad_mask e k → false ≡ host_bits_set e k
none_below e k h =
    let z : mask_most - mask e k ≡ 0 = omega (arith, ltb-true mask_most (mask e k) (sym h)) in
    sym (ap (λ (x : ℕ). not (eqb (network e k % 2 ^ x) 0)) z ∙ ap (λ (x : ℕ). not (eqb x 0)) (mod-one (network e k)))

-- of an entry's network n and mask m as they were read, what the shift says, b, counts where the mask is no bad one, r
module _ (e : List ℕ) (k : ℕ) {r b : Bool} {n m : ℕ} (er : r ≡ bad_mask e k) (en : n ≡ network e k) (em : m ≡ mask e k) (eb : m ≤ mask_most → b ≡ not (eqb (host_bits n m) 0)) where
  shown : false ≡ bad_mask e k → b ≡ host_bits_set e k
  shown h = eb (omega (arith, ltb-false mask_most (mask e k) (sym h))) ∙ ap₂ (λ (x y : ℕ). not (eqb (host_bits x y) 0)) en em

  pub both-asked : not r && b ≡ host_bits_set e k
  both-asked = go r er
    where
      go : (t : Bool) → t ≡ bad_mask e k → not t && b ≡ host_bits_set e k
      go true h = none_below e k h
      go false h = shown h

  pub either_asked : r || b ≡ bad_mask e k || host_bits_set e k
  either_asked = go r er
    where
      go : (t : Bool) → t ≡ bad_mask e k → t || b ≡ bad_mask e k || host_bits_set e k
      go true h = ap (λ (t : Bool). t || host_bits_set e k) h
      go false h = shown h ∙ ap (λ (t : Bool). t || host_bits_set e k) h
