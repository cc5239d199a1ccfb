-- The words of a line: what stands between spaces. A line is its octets, and a place in it the octets from there on.
use Rattle.std.specs.Prelude.{ℕ, zero, suc, ◌-◌, cond, List, [], ◌∷◌, eqb, length, take}

abbrev pub space : ℕ
space = 32

-- from the first octet that is no space on
unfoldable pub from_word : List ℕ → List ℕ
from_word [] = []
from_word (x ∷ xs) = cond (eqb x space) (from_word xs) (x ∷ xs)

-- from the first space on
unfoldable pub behind : List ℕ → List ℕ
behind [] = []
behind (x ∷ xs) = cond (eqb x space) (x ∷ xs) (behind xs)

-- what stands before the first space
abbrev pub word_of : List ℕ → List ℕ
word_of xs = take (length xs - length (behind xs)) xs

-- the next word, and where it ends
abbrev pub next_of : List ℕ → List ℕ
next_of xs = word_of (from_word xs)

abbrev pub after_next : List ℕ → List ℕ
after_next xs = behind (from_word xs)

-- what is left after k words
unfoldable pub after_words : ℕ → List ℕ → List ℕ
after_words zero xs = xs
after_words (suc k) xs = after_next (after_words k xs)

-- word k, counted from 0
abbrev pub word_at : ℕ → List ℕ → List ℕ
word_at k xs = next_of (after_words k xs)
