-- The bits of a number, for any width: what joining two words, a cut, a shift and a mark do to each bit.
use Prim.Native.Nat.{ℕ, zero, suc, ◌+◌, ◌-◌, ◌*◌, ◌/◌, ◌%◌, ◌^◌, ◌≤◌, ◌<◌}
use mathlib.Core.Path.{◌≡◌, refl, sym, ap, ap₂, ◌∙◌}
use mathlib.Core.Bool.{Bool, true, false, cond, ◌&&◌, ◌||◌}
use lib.Dec.{ltb, leb, eqb, leb-suc-suc, lit<}
use lib.Pow.{pow_pos, pow_mono, pow-lt, pow-add, shl-shr, shr-shr, split, high, field, suc_ones, ones_lt, ones_split}
use lib.Bits.{bit_or, or_shr, or_mod, or_lt, or_comm, block_odd}
use native.Mathlib.Omega.{arith}
use native.Mathlib.Nat.{mul_assoc, one-mul, add-zero, mod-lt, mod-eq_of_lt, mul-mod_left, div-eq_of_lt, mul-add-div_right}
use borrow.Author.Tests.{ltb-true, ltb-false, leb-true, leb-false, eqb-true, eqb-false}
use Rattle.window.specs.Window.{bit, shift, mark}
use Rattle.window.specs.Laws.{TwoWords}

-- the digit at k by its test
pub digit : (v k : ℕ) → v / 2 ^ k % 2 ≡ cond (bit v k) 1 0
unfolding bit
digit v k = go (v / 2 ^ k % 2) (mod-lt (v / 2 ^ k) (lit< tt))
  where
    go : (x : ℕ) → x < 2 → x ≡ cond (eqb x 1) 1 0
    go zero h = refl
    go (suc zero) h = refl
    go (suc (suc x)) h = absurd (omega arith)

-- a shift by i + j, in two steps
raised_twice : (v i j : ℕ) → v * 2 ^ (i + j) ≡ v * 2 ^ i * 2 ^ j
raised_twice v i j = ap (λ x. v * x) (pow-add 2 i j) ∙ sym (mul_assoc v (2 ^ i) (2 ^ j))

-- a number below 2 ^ W has no bit at W or above
pub bit-above : (W v k : ℕ) → v < 2 ^ W → W ≤ k → bit v k ≡ false
unfolding bit
bit-above W v k h l = ap (λ x. eqb (x % 2) 1) (div-eq_of_lt {n = v} {m = 2 ^ k} (omega (arith, pow_mono l)))

pub bit_zero : (k : ℕ) → bit 0 k ≡ false
bit_zero k = bit-above 0 0 k (lit< tt) (omega arith)

-- ---- two words joined

bit-low : (N hi lo k : ℕ) → k < N → bit (hi * 2 ^ N + lo) k ≡ bit lo k
unfolding bit
bit-low N hi lo k h =
    let j : ℕ = N - suc k in
    let e : N ≡ suc j + k = omega arith in
    ap (λ x. eqb ((hi * 2 ^ x + lo) / 2 ^ k % 2) 1) e ∙ ap (λ x. eqb ((x + lo) / 2 ^ k % 2) 1) (raised_twice hi (suc j) k)
    ∙ ap (λ x. eqb (x % 2) 1) (mul-add-div_right (pow_pos k) (hi * 2 ^ suc j) lo) ∙ ap (λ x. eqb x 1) (block_odd hi j (lo / 2 ^ k))

bit_high : (N hi lo k : ℕ) → lo < 2 ^ N → N ≤ k → bit (hi * 2 ^ N + lo) k ≡ bit hi (k - N)
unfolding bit
bit_high N hi lo k h l =
    let e : k ≡ N + (k - N) = omega arith in
    ap (λ x. eqb ((hi * 2 ^ N + lo) / 2 ^ x % 2) 1) e ∙ ap (λ x. eqb (x % 2) 1) (sym (shr-shr (hi * 2 ^ N + lo) N (k - N)))
    ∙ ap (λ x. eqb (x / 2 ^ (k - N) % 2) 1) (high hi N h)

pub bit-joined : TwoWords
bit-joined N hi lo k h = go (ltb k N) refl
  where
    go : (t : Bool) → ltb k N ≡ t → bit (hi * 2 ^ N + lo) k ≡ cond t (bit lo k) (bit hi (k - N))
    go true e = bit-low N hi lo k (ltb-true k N e)
    go false e = bit_high N hi lo k h (ltb-false k N e)

-- ---- a cut and a shift

pub bit_cut : (W v k : ℕ) → bit (v % 2 ^ W) k ≡ (ltb k W && bit v k)
bit_cut W v k = go (ltb k W) refl
  where
    go : (t : Bool) → ltb k W ≡ t → bit (v % 2 ^ W) k ≡ (t && bit v k)
    go true e = sym (bit-low W (v / 2 ^ W) (v % 2 ^ W) k (ltb-true k W e)) ∙ ap (λ x. bit x k) (split v W)
    go false e = bit-above W (v % 2 ^ W) k (mod-lt v (pow_pos W)) (ltb-false k W e)

pub bit_raised : (d v k : ℕ) → bit (v * 2 ^ d) k ≡ (leb d k && bit v (k - d))
bit_raised d v k = ap (λ x. bit x k) (sym (add-zero (v * 2 ^ d))) ∙ go (leb d k) refl
  where
    go : (t : Bool) → leb d k ≡ t → bit (v * 2 ^ d + 0) k ≡ (t && bit v (k - d))
    go true e = bit_high d v 0 k (pow_pos d) (leb-true d k e)
    go false e = bit-low d v 0 k (leb-false d k e) ∙ bit_zero k

pub bit-shift : (W d v k : ℕ) → bit (shift W d v) k ≡ (ltb k W && (leb d k && bit v (k - d)))
unfolding shift
bit-shift W d v k = bit_cut W (v * 2 ^ d) k ∙ ap (λ t. ltb k W && t) (bit_raised d v k)

pub shift-below : (W d v : ℕ) → shift W d v < 2 ^ W
unfolding shift
shift-below W d v = mod-lt (v * 2 ^ d) (pow_pos W)

-- ---- a mark

bit_power : (j k : ℕ) → bit (2 ^ j) k ≡ eqb k j
unfolding bit
bit_power j k = ap (λ x. bit x k) (sym (one-mul (2 ^ j))) ∙ bit_raised j 1 k ∙ go (leb j k) (eqb k j) refl refl
  where
    go : (s t : Bool) → leb j k ≡ s → eqb k j ≡ t → (s && bit 1 (k - j)) ≡ t
    go true true d e = let z : k - j ≡ 0 = omega (arith, eqb-true k j e) in ap (bit 1) z
    go true false d e = bit-above 1 1 (k - j) (lit< tt) (omega (arith, leb-true j k d, eqb-false k j e))
    go false true d e = absurd (omega (arith, leb-false j k d, eqb-true k j e))
    go false false d e = refl

bit-or : (a b k : ℕ) → bit (bit_or a b) k ≡ (bit a k || bit b k)
unfolding bit
bit-or a b k =
    ap (λ x. eqb (x % 2) 1) (or_shr a b k) ∙ ap (λ x. eqb x 1) (or_mod (a / 2 ^ k) (b / 2 ^ k) 1)
    ∙ ap₂ (λ x y. eqb (bit_or x y) 1) (digit a k) (digit b k)
    ∙ digits (bit a k) (bit b k)
  where
    digits : (s t : Bool) → eqb (bit_or (cond s 1 0) (cond t 1 0)) 1 ≡ (s || t)
    digits true true = refl
    digits true false = refl
    digits false true = refl
    digits false false = refl

pub bit-mark : (v j k : ℕ) → bit (mark v j) k ≡ (eqb k j || bit v k)
unfolding mark
bit-mark v j k = ap (λ x. bit x k) (or_comm v (2 ^ j)) ∙ bit-or (2 ^ j) v k ∙ ap (λ t. t || bit v k) (bit_power j k)

pub mark-below : (W v k : ℕ) → v < 2 ^ W → k < W → mark v k < 2 ^ W
unfolding mark
mark-below W v k h l = or_lt W v (2 ^ k) h (pow-lt l)

-- ---- what the code computes, on words of N bits

-- a shift by the whole window or more leaves nothing
pub shift_past : (W d v : ℕ) → W ≤ d → shift W d v ≡ 0
unfolding shift
shift_past W d v h =
    let e : d ≡ d - W + W = omega arith in
    ap (λ x. v * 2 ^ x % 2 ^ W) e ∙ ap (λ x. x % 2 ^ W) (raised_twice v (d - W) W) ∙ mul-mod_left (v * 2 ^ (d - W)) (2 ^ W)

-- `(v << (d + spare)) >> spare`: the first shift drops what leaves the window
pub shift_spare : (N W d v : ℕ) → W ≤ N → v * 2 ^ (d + (N - W)) % 2 ^ N / 2 ^ (N - W) ≡ shift W d v
unfolding shift
shift_spare N W d v h =
    let s : ℕ = N - W in
    let e : N ≡ W + s = omega arith in
    ap (λ x. v * 2 ^ (d + s) % 2 ^ x / 2 ^ s) e ∙ field (v * 2 ^ (d + s)) W s ∙ ap (λ x. x / 2 ^ s % 2 ^ W) (raised_twice v d s)
    ∙ ap (λ x. x % 2 ^ W) (shl-shr (v * 2 ^ d) s)

-- `1 << k`
pub mark_code : (N v k : ℕ) → k < N → bit_or v (1 * 2 ^ k % 2 ^ N) ≡ mark v k
unfolding mark
mark_code N v k h = ap (bit_or v) (ap (λ x. x % 2 ^ N) (one-mul (2 ^ k)) ∙ mod-eq_of_lt (pow-lt h))

-- the largest word, shifted right by all but W bits, is the largest of W bits
pub fits_code : (N W v : ℕ) → W ≤ N → leb v ((2 ^ N - 1) / 2 ^ (N - W)) ≡ ltb v (2 ^ W)
fits_code N W v h =
    let s : ℕ = N - W in
    let e : N ≡ W + s = omega arith in
    ap (λ x. leb v ((2 ^ x - 1) / 2 ^ s)) e ∙ ap (λ x. leb v (x / 2 ^ s)) (ones_split W s) ∙ ap (leb v) (high (2 ^ W - 1) s (ones_lt s))
    ∙ sym (leb-suc-suc v (2 ^ W - 1)) ∙ ap (leb (suc v)) (suc_ones W)
