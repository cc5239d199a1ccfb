-- Octets as lower-case hex digits, two an octet, or `-` for none.
use Rattle.std.specs.Prelude.{ℕ, ◌+◌, ◌*◌, ◌-◌, ◌/◌, ◌%◌, ◌≤◌, ◌<◌, ◌≡◌, cond, ◌&&◌, List, [], ◌∷◌, ◌⊎◌, Option, Some, None, leb, length, get_or}
use Rattle.script_words.specs.Words.{from_word, next_of, after_next}

-- `-`
abbrev pub no_octets : List ℕ
no_octets = 45 ∷ []

-- a digit's value: `0` to `9`, then `a` to `f`
unfoldable pub digit_of : ℕ → Option ℕ
digit_of x = cond (leb 48 x && leb x 57) (Some (x - 48)) (cond (leb 97 x && leb x 102) (Some (x - 87)) None)

abbrev pub both : Option ℕ → Option ℕ → Option ℕ
both (Some h) (Some l) = Some (h * 16 + l)
both (Some h) None = None
both None d = None

abbrev pub octet_of : (high low : ℕ) → Option ℕ
octet_of h l = both (digit_of h) (digit_of l)

-- octet k of a word
abbrev pub octet_at : (word : List ℕ) → ℕ → Option ℕ
octet_at w k = octet_of (get_or w (2 * k) 0) (get_or w (2 * k + 1) 0)

-- `out` are the octets of the word
abbrev pub Are : (word out : List ℕ) → Type 0
Are w out = (k : ℕ) → k < length out → octet_at w k ≡ Some (get_or out k 0)

-- the pairs of the word's digits are these octets
pub record Pairs (word out : List ℕ) : Type 0 where
  pub many : length out ≡ length word / 2
  pub read : Are word out

abbrev pub HasBadPair : (word : List ℕ) → Type 0
HasBadPair w = (k : ℕ) × ((k < length w / 2) × (octet_at w k ≡ None))

-- the word says these octets
abbrev pub Says : (word out : List ℕ) → Type 0
Says w out = ((w ≡ no_octets) × (out ≡ [])) ⊎ ((length w ≡ 2 * length out) × (0 < length out) × Are w out)

-- the word says no octets, or more than there is room for: it is empty; odd, and not `-`; too long; or has a pair that is no octet
abbrev pub Unsayable : (word : List ℕ) → (room : ℕ) → Type 0
Unsayable w room =
    (length w ≡ 0)
    ⊎ (((w ≡ no_octets → ⊥) × (length w % 2 ≡ 0 → ⊥)) ⊎ ((room < length w / 2) ⊎ HasBadPair w))

-- the next word of `xs`, the end of a line, says these octets, at most `most`, and `rest` is left behind it
pub record ReadNext (xs : List ℕ) (most : ℕ) (out rest : List ℕ) : Type 0 where
  pub behind : rest ≡ after_next xs
  pub said : Says (next_of xs) out
  pub few : length out ≤ most

-- the next word of `xs`, the end of a line, says these octets, at most `most`, and no word follows
pub record LastOctets (xs : List ℕ) (most : ℕ) (out : List ℕ) : Type 0 where
  pub finished : from_word (after_next xs) ≡ []
  pub said : Says (next_of xs) out
  pub few : length out ≤ most

-- .. or says none, or a word follows
abbrev pub UnsayableOrMore : (xs : List ℕ) → (room : ℕ) → Type 0
UnsayableOrMore xs room = Unsayable (next_of xs) room ⊎ (from_word (after_next xs) ≡ [] → ⊥)
