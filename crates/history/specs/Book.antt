-- RULES 9, "The book": its reading, computed from the counted OGMs of each originator, and from the own packets since each link's latest echo.
use Rattle.std.specs.Prelude.{ℕ, ◌+◌, Bool, cond, ◌&&◌, ◌||◌, List, [], ◌∷◌, map, ltb, eqb, length}
use Rattle.lists.specs.Lists.{keep, all}
use Rattle.lists.specs.Keyed.{has_key, put, put_key, tabulate}
use Rattle.window.specs.Window.{distance, new, inside, stale, tally}
use Rattle.rules.specs.Settings.{Config}
use Rattle.rules.specs.Calls.{interface_of}
use Rattle.rules.specs.Messages.{Message}
use Rattle.rules.specs.Rules.{sequence_of, stands_below, Reading, State}

-- ---- an originator's counted OGMs

-- one at least, the latest outermost; an originator whose list is empty has no log
pub data Log : Type 0 where
  one : Message → Log
  cons : Message → Log → Log

abbrev pub latest : Log → Message
latest (one m) = m
latest (cons m s) = m

-- the list's last number that was first or new
unfoldable pub current : Config → Log → ℕ
current κ (one m) = sequence_of m
current κ (cons m s) = cond (new κ.settings.window (current κ s) (sequence_of m)) (sequence_of m) (current κ s)

-- the entries of the list's last OGM whose number was first or new
unfoldable pub log_entries : Config → Log → List ℕ
log_entries κ (one m) = m.entries
log_entries κ (cons m s) = cond (new κ.settings.window (current κ s) (sequence_of m)) m.entries (log_entries κ s)

-- a number is stale to the window of these OGMs
unfoldable pub is_stale_to : Config → Log → (n : ℕ) → Bool
is_stale_to κ s n = stale κ.settings.window (current κ s) n

-- m is an OGM through link l with number n
abbrev pub came : Message → (l n : ℕ) → Bool
came m l n = eqb l m.link && eqb n (sequence_of m)

-- n was counted through l, and stayed inside the window after that count and after every later one
unfoldable pub stays : Config → Log → (l n : ℕ) → Bool
stays κ (one m) l n = inside κ.settings.window (sequence_of m) n && came m l n
stays κ (cons m s) l n = inside κ.settings.window (current κ (cons m s)) n && (came m l n || stays κ s l n)

-- how many numbers stay on a link
unfoldable pub log_count : Config → Log → (l : ℕ) → ℕ
log_count κ s l = tally κ.settings.window (λ k. stays κ s l (distance (current κ s) k))

-- the links that the OGMs came by, rising
unfoldable pub log_links : Log → List ℕ
log_links (one m) = m.link ∷ []
log_links (cons m s) = put_key m.link (log_links s)

-- every other link stands below l
unfoldable pub others_below : Config → Log → (l : ℕ) → Bool
others_below κ s l = all (λ k. eqb k l || stands_below κ (log_count κ s k) (log_count κ s l)) (log_links s)

-- the link of the latest OGM after whose count every other link stood below
unfoldable pub log_best : Config → Log → ℕ
log_best κ (one m) = m.link
log_best κ (cons m s) = cond (others_below κ (cons m s) m.link) m.link (log_best κ s)

-- links with a mark or best are held
unfoldable pub is_held : Config → Log → (l : ℕ) → Bool
is_held κ s l = ltb 0 (log_count κ s l) || eqb l (log_best κ s)

abbrev pub held_links : Config → Log → List ℕ
held_links κ s = keep (is_held κ s) (log_links s)

-- ---- echoes

-- for each link with an echo the own packets on its interface since its latest one
abbrev pub Echoes : Type 0
Echoes = List (ℕ × ℕ)

-- a link with an echo has a neighbour row while fewer than B own packets followed it
abbrev pub recent : Config → Echoes → Echoes
recent κ es = keep (λ (e : ℕ × ℕ). ltb e.1 κ.settings.timeout) es

-- an own packet adds one for its interface's links
abbrev pub one_more : (interface : ℕ) → ℕ × ℕ → ℕ × ℕ
one_more i e = (e.0, e.1 + cond (eqb (interface_of e.0) i) 1 0)

-- ---- the book (RULES 9.2, 9.3)

abbrev pub book : Reading
book =
    record {
      Record = Log;
      first = λ κ m. one m;
      next = λ κ m s. cons m s;
      time = λ s. (latest s).time;
      last_ttl = λ s. (latest s).ttl;
      stale = is_stale_to;
      duplicate = stays;
      best = log_best;
      is_best = λ κ s l. eqb (log_best κ s) l;
      links = λ κ s. tabulate (log_count κ s) (held_links κ s);
      entries = log_entries;
      Rows = Echoes;
      no_rows = [];
      has_row = λ κ es l. has_key l (recent κ es);
      rows_held = λ κ es. length (recent κ es);
      -- an echo sets its link's packets to 0
      echo = λ κ ns l es. put l 0 es;
      sent = λ κ ns i es. map (one_more i) es;
    }

abbrev pub BookState : Type 0
BookState = State Echoes Log
