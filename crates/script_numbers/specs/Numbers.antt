-- Decimal numbers of a line, each with the most that its argument takes, and lists of such numbers.
use Rattle.std.specs.Prelude.{ℕ, ◌+◌, ◌*◌, ◌-◌, ◌≤◌, ◌<◌, ◌≡◌, Bool, cond, ◌&&◌, List, [], ◌∷◌, ◌⊎◌, Option, Some, None, leb, length, get_or, All}
use Rattle.script_words.specs.Words.{from_word, next_of, after_next, word_at, after_words}

-- the most members of a list
abbrev pub members_most : ℕ
members_most = 40

-- the largest number of 32 bits
abbrev pub most32 : ℕ
most32 = 4294967295

abbrev pub digit0 : ℕ
digit0 = 48

abbrev pub digit9 : ℕ
digit9 = 57

abbrev pub base : ℕ
base = 10

-- a number n and one more digit
abbrev pub more : (n digit : ℕ) → ℕ
more n d = n * base + (d - digit0)

abbrev pub is_next : (most n digit : ℕ) → Bool
is_next most n d = leb digit0 d && leb d digit9 && leb (more n d) most

unfoldable pub with_digit : (most n digit : ℕ) → Option ℕ
with_digit most n d = cond (is_next most n d) (Some (more n d)) None

-- the digits from the left: bad at the first octet that is no digit or takes the number above the most
unfoldable pub decimal_from : (most n : ℕ) → List ℕ → Option ℕ
decimal_from most n [] = Some n
decimal_from most n (d ∷ ds) = cond (is_next most n d) (decimal_from most (more n d) ds) None

unfoldable pub decimal : (most : ℕ) → List ℕ → Option ℕ
decimal most [] = None
decimal most (d ∷ ds) = decimal_from most 0 (d ∷ ds)

-- word k of the line, as a number of at most the limit k
abbrev pub number_at : (line limits : List ℕ) → ℕ → Option ℕ
number_at xs ms k = decimal (get_or ms k 0) (word_at k xs)

-- the numbers with which octets `xs`, the end of a line, begin, one for each limit, and what is left behind them
pub record ReadNumbers (xs limits numbers rest : List ℕ) : Type 0 where
  pub sized : length numbers ≡ length limits
  pub behind : rest ≡ after_words (length limits) xs
  pub read : (k : ℕ) → k < length limits → number_at xs limits k ≡ Some (get_or numbers k 0)
  pub bounded : (k : ℕ) → k < length limits → get_or numbers k 0 ≤ get_or limits k 0

-- a word is no number of at most its limit, or is missing
abbrev pub HasUnread : (xs limits : List ℕ) → Type 0
HasUnread xs limits = (k : ℕ) × ((k < length limits) × (number_at xs limits k ≡ None))

-- the numbers are all that is left of the line
pub record OnlyNumbers (xs limits numbers : List ℕ) : Type 0 where
  pub sized : length numbers ≡ length limits
  pub finished : from_word (after_words (length limits) xs) ≡ []
  pub read : (k : ℕ) → k < length limits → number_at xs limits k ≡ Some (get_or numbers k 0)
  pub bounded : (k : ℕ) → k < length limits → get_or numbers k 0 ≤ get_or limits k 0

-- .. or a word follows
abbrev pub HasUnreadOrMore : (xs limits : List ℕ) → Type 0
HasUnreadOrMore xs limits = HasUnread xs limits ⊎ (from_word (after_words (length limits) xs) ≡ [] → ⊥)

-- ---- a list: how many members it has, and then the members

abbrev pub size_of : List ℕ → Option ℕ
size_of xs = decimal members_most (next_of xs)

-- member k, counted from 0
abbrev pub member_at : (xs : List ℕ) (most : ℕ) → ℕ → Option ℕ
member_at xs most k = decimal most (word_at k (after_next xs))

-- the list with which octets `xs`, the end of a line, begin: its members, and what is left behind it
pub record ReadList (xs : List ℕ) (most : ℕ) (members rest : List ℕ) : Type 0 where
  pub size : size_of xs ≡ Some (length members)
  pub behind : rest ≡ after_words (length members) (after_next xs)
  pub read : (k : ℕ) → k < length members → member_at xs most k ≡ Some (get_or members k 0)
  pub bounded : All (λ member. member ≤ most) members

-- the size is no number of at most the most members, or a member no number of at most `most`
abbrev pub IsNoList : (xs : List ℕ) (most : ℕ) → Type 0
IsNoList xs most = (size_of xs ≡ None) ⊎ ((n : ℕ) × ((size_of xs ≡ Some n) × ((k : ℕ) × ((k < n) × (member_at xs most k ≡ None)))))
