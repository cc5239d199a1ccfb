-- RULES 4, "Sequence numbers": arithmetic modulo 65,536, the window of W numbers below the current one, where a number lies beside it, and a link's marks as a word.
-- Bit k of the word is the mark of the number that lies k below current. Everything is on natural numbers and for any W, so that one word
-- of 64 bits and two words as hi * 2 ^ 64 + lo are the same thing: a number below 2 ^ W.
use Rattle.std.specs.Prelude.{ℕ, zero, suc, ◌+◌, ◌-◌, ◌*◌, ◌/◌, ◌%◌, ◌^◌, Bool, true, false, cond, ◌&&◌, List, [], ◌∷◌, ltb, leb, eqb}
use Rattle.std.specs.Int.Bits.{bit_or}
use Rattle.std.specs.Int.Count.{ones}
use Rattle.window.specs.declared.Position.{Position}
use Rattle.window.specs.declared.Position.TheVariants.{New, Inside, Stale}

-- how many sequence numbers there are: they are those below it
abbrev pub numbers : ℕ
numbers = 65536

-- c minus n modulo 65,536: how far n lies below c; so it is also the number that lies n below c (RULES 4.1)
unfoldable pub distance : (c n : ℕ) → ℕ
distance c n = (c + numbers - n) % numbers

-- ---- where a number lies beside the window (RULES 4.2)

-- a new number lies at most so far above current; the number half way round lies one farther, and is stale
abbrev pub new_most : ℕ
new_most = 32767

-- n lies 1 to 32,767 above c
abbrev pub is_ahead : (c n : ℕ) → Bool
is_ahead c n = leb 1 (distance n c) && leb (distance n c) new_most

-- n, beside the window of W numbers whose current number is c: inside if it is c or one of the W - 1 numbers below, new if it lies 1 to 32,767 above c,
-- otherwise stale. What else is asked of a number is read from this
unfoldable pub position : (W c n : ℕ) → Position
position W c n = cond (ltb (distance c n) W) Inside (cond (is_ahead c n) New Stale)

abbrev pub is_new : Position → Bool
is_new New = true
is_new Inside = false
is_new Stale = false

abbrev pub is_inside : Position → Bool
is_inside New = false
is_inside Inside = true
is_inside Stale = false

abbrev pub is_stale : Position → Bool
is_stale New = false
is_stale Inside = false
is_stale Stale = true

-- n is new to the window, inside it, stale to it
unfoldable pub new : (W c n : ℕ) → Bool
new W c n = is_new (position W c n)

unfoldable pub inside : (W c n : ℕ) → Bool
inside W c n = is_inside (position W c n)

unfoldable pub stale : (W c n : ℕ) → Bool
stale W c n = is_stale (position W c n)

-- the current number once n, which lies so beside the window, is counted: a new number becomes current, any other leaves it
abbrev pub current_by : Position → (c n : ℕ) → ℕ
current_by p c n = cond (is_new p) n c

unfoldable pub advance : (W c n : ℕ) → ℕ
advance W c n = current_by (position W c n) c n

-- ---- words of marks (RULES 4.3)

-- bit k of the word v is set
unfoldable pub bit : (v k : ℕ) → Bool
bit v k = eqb (v / 2 ^ k % 2) 1

-- n is marked in the word v, whose current number is c
abbrev pub marked : (v c n : ℕ) → Bool
marked v c n = bit v (distance c n)

-- the word after current has moved up by d: each mark d places higher, and those that leave the window of W forgotten
unfoldable pub shift : (W d v : ℕ) → ℕ
shift W d v = v * 2 ^ d % 2 ^ W

-- the word with the mark at place k set
unfoldable pub mark : (v k : ℕ) → ℕ
mark v k = bit_or v (2 ^ k)

-- a link's count: the number of set marks, which is the language's ones count
abbrev pub count : (v : ℕ) → ℕ
count v = ones v

-- the word has a mark
abbrev pub has_mark : (v : ℕ) → Bool
has_mark v = ltb 0 v

-- ---- the same as sets of numbers

-- how many of f 0, .., f (n - 1) are true
unfoldable pub tally : (n : ℕ) → (ℕ → Bool) → ℕ
tally zero f = 0
tally (suc n) f = tally n f + cond (f n) 1 0

-- the word whose bit k, below n, is f k
unfoldable pub word : (n : ℕ) → (ℕ → Bool) → ℕ
word zero f = 0
word (suc n) f = word n f + cond (f n) (2 ^ n) 0

-- the marked numbers of the window, the lowest first
abbrev pub marks : (W v c : ℕ) → List ℕ
marks zero v c = []
marks (suc n) v c = cond (bit v n) (distance c n ∷ marks n v c) (marks n v c)
