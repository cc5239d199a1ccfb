-- The laws of `specs/Laws.antt` hold, for every W.
use Prim.Native.Nat.{ℕ, zero, suc, ◌+◌, ◌-◌, ◌%◌, ◌^◌, ◌≤◌, ◌<◌}
use mathlib.Core.Path.{◌≡◌, refl, sym, ap, ap₂, ◌∙◌}
use mathlib.Core.Bool.{Bool, true, false, cond, ◌&&◌, ◌||◌}
use mathlib.Core.List.{◌∷◌}
use lib.Dec.{ltb, leb, eqb}
use lib.ListN.{length}
use lib.Pow.{pow_pos, pow_mono}
use lib.Count.{ones, ones-le}
use native.Mathlib.Omega.{arith}
use native.Mathlib.Nat.{mul-one, mod-eq_of_lt}
use borrow.Author.Tests.{ltb-true, leb-true, leb-false, lt-ltb}
use Rattle.window.specs.Window.{numbers, distance, inside, bit, marked, shift, mark, count, has_mark, tally, word, marks}
use Rattle.window.specs.Laws.{Laws, WordLaws, TwoWords}
use Rattle.window.proofs.Numbers.{distance-lt, distance_back, distance_on, distance-lower, distance_turn}
use Rattle.window.proofs.Positions.{inside_is, lt-inside, le-outside, outside-le}
use Rattle.window.proofs.Bits.{bit-above, bit_zero, bit-joined, bit-shift, bit-mark, shift-below, mark-below}
use Rattle.window.proofs.Words.{word_below, bit_word, word_none, word_bits_lem, is_word, same_bits, shift_word, mark-word, count_word, count_bits, tally-same, none-tally, tally-more}

-- the window moves up to n: of a number that is inside it then, the shifted word tells what the word told before, if it was inside
moved : (W v c n m : ℕ) → c < numbers → n < numbers → m < numbers → inside W c n ≡ false → marked (shift W (distance n c) v) n m ≡ (inside W n m && (inside W c m && marked v c m))
moved W v c n m hc hn hm out =
    bit-shift W (distance n c) v (distance n m) ∙ go (ltb (distance n m) W) (leb (distance n c) (distance n m)) refl refl
    ∙ ap (λ t. t && (inside W c m && marked v c m)) (sym (inside_is W n m))
  where
    go : (new old : Bool) → ltb (distance n m) W ≡ new → leb (distance n c) (distance n m) ≡ old → (new && (old && bit v (distance n m - distance n c))) ≡ (new && (inside W c m && marked v c m))
    go false old d e = refl
    go true true d e =
        let l : distance n c ≤ distance n m = leb-true (distance n c) (distance n m) e in
        let k : distance n m - distance n c ≡ distance c m = omega (arith, distance_on n c m hc hm, distance-lt n c, distance-lt c m) in
        ap₂ (λ t x. t && bit v x) (sym (lt-inside W c m (omega (arith, ltb-true (distance n m) W d)))) k
    go true false d e =
        let l : distance n m < distance n c = leb-false (distance n c) (distance n m) e in
        let k : distance c n + distance n m ≡ distance c m = distance-lower c n (distance n m) hc hn l ∙ ap (distance c) (distance_back n m hn hm) in
        ap (λ t. t && marked v c m) (sym (le-outside W c m (omega (arith, outside-le W c n out))))

-- at place k of the window stands the number k below c
place : (v c k : ℕ) → c < numbers → k < numbers → marked v c (distance c k) ≡ bit v k
place v c k hc hk = ap (bit v) (distance_back c k hc hk)

length-marks : (W v c : ℕ) → length (marks W v c) ≡ tally W (bit v)
unfolding tally
length-marks zero v c = refl
length-marks (suc n) v c = go (bit v n) (length-marks n v c)
  where
    go : (t : Bool) → length (marks n v c) ≡ tally n (bit v) → length (cond t (distance c n ∷ marks n v c) (marks n v c)) ≡ tally n (bit v) + cond t 1 0
    go true e = omega arith
    go false e = omega arith

-- a width at which any number fits
room : (v : ℕ) → v < 2 ^ v
room zero = omega arith
room (suc v) = omega (arith, room v)

-- the count needs no window, so both words are taken at a width that holds them
count-more : (v c n : ℕ) → marked v c n ≡ false → count (mark v (distance c n)) ≡ count v + 1
count-more v c n e =
    let j : ℕ = distance c n in
    let W : ℕ = v + suc j in
    let h : v < 2 ^ W = omega (arith, room v, pow_mono {i = v} {j = W} (omega arith)) in
    let l : j < W = omega arith in
    ap ones (is_word W (mark v j) (λ k. eqb k j || bit v k) (mark-below W v j h l) (λ k _. bit-mark v j k)) ∙ count_word W (λ k. eqb k j || bit v k)
    ∙ tally-more W (bit v) j l e ∙ ap (λ x. x + 1) (sym (count_bits W v h))

same : (W u v c : ℕ) → u < 2 ^ W → v < 2 ^ W → c < numbers → W ≤ numbers → ((n : ℕ) → n < numbers → inside W c n ≡ true → marked u c n ≡ marked v c n) → u ≡ v
same W u v c hu hv hc hW h = same_bits W u v hu hv each
  where
    each : (k : ℕ) → k < W → bit u k ≡ bit v k
    each k l =
        let hk : k < numbers = omega arith in
        let i : inside W c (distance c k) ≡ true = lt-inside W c (distance c k) (rw (distance_back c k hc hk) l) in
        sym (place u c k hc hk) ∙ h (distance c k) (distance-lt c k) i ∙ place v c k hc hk

has_mark_lem : (W v : ℕ) → v < 2 ^ W → has_mark v ≡ ltb 0 (count v)
unfolding ones
has_mark_lem W zero h = refl
has_mark_lem W (suc v) h = lt-ltb 0 (suc v) (omega arith) ∙ sym (lt-ltb 0 (count (suc v)) (go (count (suc v)) refl))
  where
    go : (n : ℕ) → count (suc v) ≡ n → 0 < n
    go zero e =
        let none : word W (bit (suc v)) ≡ 0 = word_none W (bit (suc v)) (none-tally W (bit (suc v)) (sym (count_bits W (suc v) h) ∙ e)) in
        absurd (omega (arith, word_bits_lem W (suc v) h))
    go (suc n) e = omega arith

pub laws : (W : ℕ) → Laws W
unfolding shift
laws W = record {
  moved = moved W;
  stayed = λ v h. ap (λ x. x % 2 ^ W) (mul-one v) ∙ mod-eq_of_lt h;
  marks-one = λ v c n m hc hn hm.
      bit-mark v (distance c n) (distance c m)
      ∙ ap (λ t. t || marked v c m) (distance_turn c m (distance c n) hc (distance-lt c n) hm ∙ ap (eqb m) (distance_back c n hc hn));
  shift-below = shift-below W;
  mark-below = mark-below W;
  outside = λ v c n h out. bit-above W v (distance c n) h (outside-le W c n out);
  count-tally = λ v c h hc hW. count_bits W v h ∙ tally-same W (bit v) (λ k. marked v c (distance c k)) (λ k l. sym (place v c k hc (omega arith)));
  count-list = λ v c h. count_bits W v h ∙ sym (length-marks W v c);
  count_most = ones-le W;
  count-more = count-more;
  same = same W;
  unmarked = λ v c h hc hW none. same W v 0 c h (pow_pos W) hc hW (λ n hn i. none n hn i ∙ sym (bit_zero (distance c n)));
  none-marked = λ c n. bit_zero (distance c n);
  has_mark_lem = has_mark_lem W;
}

pub word_laws : (W : ℕ) → WordLaws W
word_laws W = record { word_below = word_below W; bit_word = bit_word W; shift_word = shift_word W; mark-word = mark-word W; count_word = count_word W }

pub two_words : TwoWords
two_words = bit-joined
