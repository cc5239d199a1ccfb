-- Where a word begins and ends: at the first octet that is no space, and at the first space behind it. Assumes nothing.
use Rattle.std.proofs.Common.{◌≡◌, ℕ, ◌+◌, ◌-◌, ◌≤◌, Bool, true, false, cond, not, eqb, ltb, List, [], ◌∷◌, length, take, drop, refl, sym, ap, ◌∙◌, arith, Option, Some, None, length-drop}
use Rattle.std.specs.List.{position_or_len}
use Rattle.std.specs.Option.{unwrap_or}
use Rattle.std.proofs.lemmas.Grind.{common_steps}
use Rattle.script_words.specs.Words.{space, from_word, behind, word_of}

abbrev pub is_space : ℕ → Bool
is_space x = eqb x space

abbrev pub is_other : ℕ → Bool
is_other x = not (eqb x space)

-- what `position` gives
abbrev pub IsPlace : (ℕ → Bool) → List ℕ → Option ℕ → Type 0
IsPlace test xs r = r ≡ cond (ltb (position_or_len test xs) (length xs)) (Some (position_or_len test xs)) None

before_other : (xs : List ℕ) → drop (position_or_len is_other xs) xs ≡ from_word xs
unfolding from_word
before_other [] = refl
before_other (x ∷ xs) = go (eqb x space) (before_other xs)
  where
    go : (b : Bool) → drop (position_or_len is_other xs) xs ≡ from_word xs → drop (cond (not (not b)) (1 + position_or_len is_other xs) 0) (x ∷ xs) ≡ cond b (from_word xs) (x ∷ xs)
    go true h = grind (arith, common_steps, h)
    go false h = refl

before_space : (xs : List ℕ) → drop (position_or_len is_space xs) xs ≡ behind xs
unfolding behind
before_space [] = refl
before_space (x ∷ xs) = go (eqb x space) (before_space xs)
  where
    go : (b : Bool) → drop (position_or_len is_space xs) xs ≡ behind xs → drop (cond (not b) (1 + position_or_len is_space xs) 0) (x ∷ xs) ≡ cond b (x ∷ xs) (behind xs)
    go true h = refl
    go false h = grind (arith, common_steps, h)

place_within : (test : ℕ → Bool) (xs : List ℕ) → position_or_len test xs ≤ length xs
place_within test [] = omega arith
place_within test (x ∷ xs) = go (test x) (place_within test xs)
  where
    go : (b : Bool) → position_or_len test xs ≤ length xs → cond (not b) (1 + position_or_len test xs) 0 ≤ length (x ∷ xs)
    go true h = omega arith
    go false h = omega arith

or_end : (n m : ℕ) (r : Option ℕ) → n ≤ m → r ≡ cond (ltb n m) (Some n) None → unwrap_or r m ≡ n
or_end n m r h e = grind (arith, common_steps)

-- the place, or the end of the text where there is none
or_length : (test : ℕ → Bool) (xs : List ℕ) (r : Option ℕ) → IsPlace test xs r → unwrap_or r (length xs) ≡ position_or_len test xs
or_length test xs r e = or_end (position_or_len test xs) (length xs) r (place_within test xs) e

pub spaces_skipped : (xs : List ℕ) (r : Option ℕ) → IsPlace is_other xs r → drop (unwrap_or r (length xs)) xs ≡ from_word xs
spaces_skipped xs r e = rw (or_length is_other xs r e) (before_other xs)

pub word_passed : (xs : List ℕ) (r : Option ℕ) → IsPlace is_space xs r → drop (unwrap_or r (length xs)) xs ≡ behind xs
word_passed xs r e = rw (or_length is_space xs r e) (before_space xs)

-- what stands before the end of a word is the word
pub word_taken : (xs : List ℕ) (n : ℕ) → n ≤ length xs → drop n xs ≡ behind xs → take n xs ≡ word_of xs
word_taken xs n h e =
    let l : length (behind xs) ≡ length xs - n = ap length (sym e) ∙ length-drop n xs in
    let k : n ≡ length xs - length (behind xs) = omega arith in
    ap (λ (i : ℕ). take i xs) k

pub place_fits : (test : ℕ → Bool) (xs : List ℕ) (r : Option ℕ) → IsPlace test xs r → unwrap_or r (length xs) ≤ length xs
place_fits test xs r e = omega (arith, or_length test xs r e, place_within test xs)
