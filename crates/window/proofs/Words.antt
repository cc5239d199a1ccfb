-- Words and tallies of a test on places. A tally is a word's count, so its laws follow from those of words.
use Prim.Native.Nat.{ℕ, zero, suc, ◌+◌, ◌-◌, ◌*◌, ◌%◌, ◌^◌, ◌≤◌, ◌<◌}
use mathlib.Core.Path.{◌≡◌, refl, sym, ap, ap₂, ◌∙◌}
use mathlib.Core.Bool.{Bool, true, false, true≢false, cond, ◌&&◌, ◌||◌}
use lib.Dec.{ltb, leb, eqb}
use lib.Pow.{pow_pos, mod-pow-add}
use lib.Count.{ones, ones_cat, ones-le}
use native.Mathlib.Omega.{arith}
use native.Mathlib.Nat.{mod-one, mod-eq_of_lt, add_comm}
use native.Mathlib.Numerals.{one-add}
use borrow.Author.Tests.{ltb-true, ltb-false, lt-ltb, eqb-true, eqb-false, ne_eqb}
use Rattle.window.specs.Window.{bit, shift, mark, tally, word}
use Rattle.window.proofs.Bits.{digit, bit_zero, bit-joined, bit-shift, bit-mark, shift-below, mark-below}

-- ---- words

pub word_same : (W : ℕ) (f g : ℕ → Bool) → ((k : ℕ) → k < W → f k ≡ g k) → word W f ≡ word W g
unfolding word
word_same zero f g h = refl
word_same (suc n) f g h =
    ap₂ (λ (a : ℕ) (t : Bool). a + cond t (2 ^ n) 0) (word_same n f g (λ k l. h k (omega arith))) (h n (omega arith))

-- a word is its top bit joined with the word below
word_top : (n : ℕ) (f : ℕ → Bool) → word (suc n) f ≡ cond (f n) 1 0 * 2 ^ n + word n f
unfolding word
word_top n f = go (f n)
  where
    go : (t : Bool) → word n f + cond t (2 ^ n) 0 ≡ cond t 1 0 * 2 ^ n + word n f
    go true = omega arith
    go false = omega arith

pub word_below : (W : ℕ) (f : ℕ → Bool) → word W f < 2 ^ W
unfolding word
word_below zero f = omega arith
word_below (suc n) f = go (f n) (word_below n f)
  where
    go : (t : Bool) → word n f < 2 ^ n → word n f + cond t (2 ^ n) 0 < 2 ^ suc n
    go true h = omega arith
    go false h = omega arith

pub bit_word : (W : ℕ) (f : ℕ → Bool) (k : ℕ) → k < W → bit (word W f) k ≡ f k
unfolding bit
bit_word zero f k h = absurd (omega arith)
bit_word (suc n) f k h =
    ap (λ x. bit x k) (word_top n f) ∙ bit-joined n (cond (f n) 1 0) (word n f) k (word_below n f) ∙ go (ltb k n) refl (bit_word n f k)
  where
    top : (t : Bool) → bit (cond t 1 0) 0 ≡ t
    top true = refl
    top false = refl

    go : (t : Bool) → ltb k n ≡ t → (k < n → bit (word n f) k ≡ f k) → cond t (bit (word n f) k) (bit (cond (f n) 1 0) (k - n)) ≡ f k
    go true e r = r (ltb-true k n e)
    go false e r =
        let l : k ≡ n = omega (arith, ltb-false k n e) in
        let z : k - n ≡ 0 = omega arith in
        ap (bit (cond (f n) 1 0)) z ∙ top (f n) ∙ ap f (sym l)

-- a number's bits below W make what a cut to W leaves of it
cut_word : (W v : ℕ) → word W (bit v) ≡ v % 2 ^ W
unfolding word
cut_word zero v = sym (mod-one v)
cut_word (suc n) v =
    word_top n (bit v) ∙ ap₂ (λ x y. x * 2 ^ n + y) (sym (digit v n)) (cut_word n v)
    ∙ sym (ap (λ x. v % 2 ^ x) (sym (one-add n)) ∙ mod-pow-add v 1 n)

-- so a number below 2 ^ W is the word of its bits, and two such numbers with the same bits are equal
pub word_bits_lem : (W v : ℕ) → v < 2 ^ W → word W (bit v) ≡ v
word_bits_lem W v h = cut_word W v ∙ mod-eq_of_lt h

pub is_word : (W v : ℕ) (f : ℕ → Bool) → v < 2 ^ W → ((k : ℕ) → k < W → bit v k ≡ f k) → v ≡ word W f
is_word W v f h e = sym (word_bits_lem W v h) ∙ word_same W (bit v) f e

pub same_bits : (W u v : ℕ) → u < 2 ^ W → v < 2 ^ W → ((k : ℕ) → k < W → bit u k ≡ bit v k) → u ≡ v
same_bits W u v hu hv e = is_word W u (bit v) hu e ∙ word_bits_lem W v hv

pub word_none : (W : ℕ) (f : ℕ → Bool) → ((k : ℕ) → k < W → f k ≡ false) → word W f ≡ 0
word_none W f h = sym (is_word W 0 f (pow_pos W) (λ k l. bit_zero k ∙ sym (h k l)))

pub shift_word : (W : ℕ) (f : ℕ → Bool) (d : ℕ) → shift W d (word W f) ≡ word W (λ k. leb d k && f (k - d))
shift_word W f d =
    is_word W (shift W d (word W f)) (λ k. leb d k && f (k - d)) (shift-below W d (word W f))
    (λ k l. bit-shift W d (word W f) k ∙ ap₂ (λ s t. s && (leb d k && t)) (lt-ltb k W l) (bit_word W f (k - d) (omega arith)))

pub mark-word : (W : ℕ) (f : ℕ → Bool) (j : ℕ) → j < W → mark (word W f) j ≡ word W (λ k. eqb k j || f k)
mark-word W f j h =
    is_word W (mark (word W f) j) (λ k. eqb k j || f k) (mark-below W (word W f) j (word_below W f) h)
    (λ k l. bit-mark (word W f) j k ∙ ap (λ t. eqb k j || t) (bit_word W f k l))

-- ---- tallies

pub count_word : (W : ℕ) (f : ℕ → Bool) → ones (word W f) ≡ tally W f
unfolding word tally ones
count_word zero f = refl
count_word (suc n) f =
    ap ones (word_top n f) ∙ ones_cat n (cond (f n) 1 0) (word n f) (word_below n f) ∙ add_comm (ones (cond (f n) 1 0)) (ones (word n f))
    ∙ ap₂ (λ x y. x + y) (count_word n f) (one (f n))
  where
    one : (t : Bool) → ones (cond t 1 0) ≡ cond t 1 0
    one true = refl
    one false = refl

-- the count of a number below 2 ^ W is the tally of its bits
pub count_bits : (W v : ℕ) → v < 2 ^ W → ones v ≡ tally W (bit v)
count_bits W v h = ap ones (sym (word_bits_lem W v h)) ∙ count_word W (bit v)

pub tally-same : (W : ℕ) (f g : ℕ → Bool) → ((k : ℕ) → k < W → f k ≡ g k) → tally W f ≡ tally W g
tally-same W f g h = sym (count_word W f) ∙ ap ones (word_same W f g h) ∙ count_word W g

pub tally-none : (W : ℕ) (f : ℕ → Bool) → ((k : ℕ) → k < W → f k ≡ false) → tally W f ≡ 0
unfolding ones
tally-none W f h = sym (count_word W f) ∙ ap ones (word_none W f h)

pub tally-most : (W : ℕ) (f : ℕ → Bool) → tally W f ≤ W
tally-most W f = rw (← count_word W f) (ones-le W (word W f) (word_below W f))

-- nothing counted, nothing there
pub none-tally : (W : ℕ) (f : ℕ → Bool) → tally W f ≡ 0 → (k : ℕ) → k < W → f k ≡ false
unfolding tally
none-tally zero f h k l = absurd (omega arith)
none-tally (suc n) f h k l = go (eqb k n) refl (none-tally n f (omega arith) k)
  where
    off : (t : Bool) → ◌≡◌ {A = ℕ} (cond t 1 0) 0 → t ≡ false
    off true e = absurd (omega arith)
    off false e = refl

    go : (t : Bool) → eqb k n ≡ t → (k < n → f k ≡ false) → f k ≡ false
    go true e r = ap f (eqb-true k n e) ∙ off (f n) (omega arith)
    go false e r = r (omega (arith, eqb-false k n e))

-- one there, one counted at least
pub some_tally : (W : ℕ) (f : ℕ → Bool) (k : ℕ) → k < W → f k ≡ true → 0 < tally W f
some_tally W f k l h = go (tally W f) refl
  where
    go : (n : ℕ) → tally W f ≡ n → 0 < n
    go zero e = absurd (true≢false (sym h ∙ none-tally W f e k l))
    go (suc n) e = omega arith

-- one place more
pub tally-more : (W : ℕ) (f : ℕ → Bool) (j : ℕ) → j < W → f j ≡ false → tally W (λ k. eqb k j || f k) ≡ tally W f + 1
unfolding tally
tally-more zero f j h e = absurd (omega arith)
tally-more (suc n) f j h e = go (eqb n j) refl (λ l. tally-more n f j l e)
  where
    g : ℕ → Bool
    g k = eqb k j || f k

    go : (t : Bool) → eqb n j ≡ t → (j < n → tally n g ≡ tally n f + 1) → tally n g + cond (t || f n) 1 0 ≡ tally n f + cond (f n) 1 0 + 1
    go true d r =
        let a : tally n g ≡ tally n f = tally-same n g f (λ k l. ap (λ t. t || f k) (ne_eqb k j (λ q. omega (arith, eqb-true n j d)))) in
        let b : ◌≡◌ {A = ℕ} (cond (f n) 1 0) 0 = ap (λ (t : Bool). cond t 1 0) (ap f (eqb-true n j d) ∙ e) in
        omega arith
    go false d r = omega (arith, r (omega (arith, eqb-false n j d)))
