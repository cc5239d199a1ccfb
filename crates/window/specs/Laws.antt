-- What the definitions of the window say together. Each law is stated once, for every W; `proofs/Window.antt` proves them.
use Rattle.std.specs.Prelude.{ℕ, ◌+◌, ◌-◌, ◌*◌, ◌^◌, ◌≤◌, ◌<◌, ◌≡◌, Bool, true, false, cond, ◌&&◌, ◌||◌, ltb, leb, eqb, length}
use Rattle.window.specs.Window.{numbers, new_most, distance, new, inside, stale, bit, marked, shift, mark, count, has_mark, tally, word, marks}

-- where a number lies, of a window of 1 to 32,768 numbers: each of the three is answered exactly where its own words hold, and exactly one of them is
pub record Positions (W : ℕ) : Type 0 where
  -- 1 to 32,767 above current
  pub new_is : (c n : ℕ) → c < numbers → n < numbers → new W c n ≡ (leb 1 (distance n c) && leb (distance n c) new_most)
  -- in the window
  pub inside_is : (c n : ℕ) → inside W c n ≡ ltb (distance c n) W
  -- W to 32,768 below current
  pub stale_is : (c n : ℕ) → c < numbers → n < numbers → stale W c n ≡ (leb W (distance c n) && leb (distance c n) (new_most + 1))
  pub one : (c n : ℕ) → cond (new W c n) 1 0 + cond (inside W c n) 1 0 + cond (stale W c n) 1 0 ≡ 1

-- of a window of W numbers and the words of marks below 2 ^ W
pub record Laws (W : ℕ) : Type 0 where
  -- the window moves up to n, a number outside it: marked is exactly what was marked before and is still inside
  pub moved : (v c n m : ℕ) → c < numbers → n < numbers → m < numbers → inside W c n ≡ false → marked (shift W (distance n c) v) n m ≡ (inside W n m && (inside W c m && marked v c m))
  -- a window that doesn't move keeps its word
  pub stayed : (v : ℕ) → v < 2 ^ W → shift W 0 v ≡ v
  -- marking marks one number and no other
  pub marks-one : (v c n m : ℕ) → c < numbers → n < numbers → m < numbers → marked (mark v (distance c n)) c m ≡ (eqb m n || marked v c m)
  -- words stay below 2 ^ W
  pub shift-below : (d v : ℕ) → shift W d v < 2 ^ W
  pub mark-below : (v k : ℕ) → v < 2 ^ W → k < W → mark v k < 2 ^ W
  -- a number outside the window is not marked
  pub outside : (v c n : ℕ) → v < 2 ^ W → inside W c n ≡ false → marked v c n ≡ false
  -- the count is the number of marked numbers of the window: as a tally over its places, and as the length of the list of them
  pub count-tally : (v c : ℕ) → v < 2 ^ W → c < numbers → W ≤ numbers → count v ≡ tally W (λ k. marked v c (distance c k))
  pub count-list : (v c : ℕ) → v < 2 ^ W → count v ≡ length (marks W v c)
  -- it is at most W, and one more after an unmarked number is marked
  pub count_most : (v : ℕ) → v < 2 ^ W → count v ≤ W
  pub count-more : (v c n : ℕ) → marked v c n ≡ false → count (mark v (distance c n)) ≡ count v + 1
  -- two words that mark the same numbers of the window are equal
  pub same : (u v c : ℕ) → u < 2 ^ W → v < 2 ^ W → c < numbers → W ≤ numbers → ((n : ℕ) → n < numbers → inside W c n ≡ true → marked u c n ≡ marked v c n) → u ≡ v
  -- an unmarked window is the word 0, and in the word 0 nothing is marked; a word has a mark exactly if its count is not 0
  pub unmarked : (v c : ℕ) → v < 2 ^ W → c < numbers → W ≤ numbers → ((n : ℕ) → n < numbers → inside W c n ≡ true → marked v c n ≡ false) → v ≡ 0
  pub none-marked : (c n : ℕ) → marked 0 c n ≡ false
  pub has_mark_lem : (v : ℕ) → v < 2 ^ W → has_mark v ≡ ltb 0 (count v)

-- of the word with given bits, by which a set of numbers becomes a word
pub record WordLaws (W : ℕ) : Type 0 where
  pub word_below : (f : ℕ → Bool) → word W f < 2 ^ W
  pub bit_word : (f : ℕ → Bool) (k : ℕ) → k < W → bit (word W f) k ≡ f k
  pub shift_word : (f : ℕ → Bool) (d : ℕ) → shift W d (word W f) ≡ word W (λ k. leb d k && f (k - d))
  pub mark-word : (f : ℕ → Bool) (j : ℕ) → j < W → mark (word W f) j ≡ word W (λ k. eqb k j || f k)
  pub count_word : (f : ℕ → Bool) → count (word W f) ≡ tally W f

-- two words of N bits are one number of more bits, so that every law above holds of them at its W (two words of 64 bits for a W up to 128)
abbrev pub TwoWords : Type 0
TwoWords = (N hi lo k : ℕ) → lo < 2 ^ N → bit (hi * 2 ^ N + lo) k ≡ cond (ltb k N) (bit lo k) (bit hi (k - N))
