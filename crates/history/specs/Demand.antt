-- What the table of a whole history tells, without cells; crate `demands` has it of cells, as demand 3. It takes "counted" from the book. (RULES 10.2)
use Rattle.std.specs.Prelude.{ℕ, ◌<◌, ◌≤◌, ◌≡◌, ◌↔◌, Bool, true, List, [], ◌∷◌, eqb}
use Rattle.std.proofs.Math.Option.{Option, none, some}
use Rattle.lists.specs.Lists.{keep}
use Rattle.lists.specs.Keyed.{lookup}
use Rattle.window.specs.Window.{numbers, distance, new, inside, count, tally}
use Rattle.rules.specs.Settings.{Config, MakeArgs, config_of}
use Rattle.rules.specs.Calls.{Call}
use Rattle.rules.specs.Messages.{Message}
use Rattle.rules.specs.Rules.{sequence_of, stands_below, fresh}
use Rattle.rules.specs.Table.{TableRecord, TableState, marks_at, is_marked, table}
use Rattle.history.specs.Book.{Log, one, cons, latest, current, log_count, book, BookState}
use Rattle.history.specs.History.{after, replies}

-- ---- the counted messages of an originator as time went on

-- t is the log s as it stood after one of its counts
pub data Stood : Log → Log → Type 0 where
  now : {s : Log} → Stood s s
  before : {m : Message} {s t : Log} → Stood s t → Stood (cons m s) t

-- u is the log t and later messages, one at least
pub data Later : Log → Log → Type 0 where
  past : {m : Message} {u t : Log} → Stood u t → Later (cons m u) t

-- n was counted through l, and stayed inside the window after that count and after every later one
pub record Stayed (κ : Config) (s : Log) (l n : ℕ) : Type 0 where
  pub at : Log
  pub stood : Stood s at
  pub link : (latest at).link ≡ l
  pub number : sequence_of (latest at) ≡ n
  pub within : (u : Log) → Stood s u → Stood u at → inside κ.settings.window (current κ u) n ≡ true

-- the count of link l after the latest count of t is how many of the window's numbers stayed on it
pub record HowMany (κ : Config) (t : Log) (l : ℕ) : Type 0 where
  pub has_stayed : ℕ → Bool
  pub tells : (n : ℕ) → n < numbers → (has_stayed n ≡ true) ↔ Stayed κ t l n
  pub number : log_count κ t l ≡ tally κ.settings.window (λ k. has_stayed (distance (current κ t) k))

-- after the latest count of t every other link stood below its link: no other stood higher or, under present link stays, none as high
abbrev pub OthersBelow : Config → Log → Type 0
OthersBelow κ t = (l : ℕ) → (l ≡ (latest t).link → ⊥) → stands_below κ (log_count κ t l) (log_count κ t (latest t).link) ≡ true

-- b is the link of the latest message after whose count every other link stood below
pub record Best (κ : Config) (s : Log) (b : ℕ) : Type 0 where
  pub at : Log
  pub stood : Stood s at
  pub link : (latest at).link ≡ b
  pub highest : OthersBelow κ at
  pub last : (u : Log) → Stood s u → Later u at → OthersBelow κ u → ⊥

-- the latest message of a log made the record, or moved the window: its number was new to the window that stood before it
pub data MadeOrMoved (κ : Config) : Log → Type 0 where
  made : {m : Message} → MadeOrMoved κ (one m)
  moved : {m : Message} {s : Log} → new κ.settings.window (current κ s) (sequence_of m) ≡ true → MadeOrMoved κ (cons m s)

-- es are the entries of the latest message that made the record or moved the window
pub record Entries (κ : Config) (s : Log) (es : List ℕ) : Type 0 where
  pub at : Log
  pub stood : Stood s at
  pub list : (latest at).entries ≡ es
  pub replaced : MadeOrMoved κ at
  pub last : (u : Log) → Stood s u → Later u at → MadeOrMoved κ u → ⊥

-- ---- how the record r of the counted messages s stands

pub record Stands (κ : Config) (s : Log) (r : TableRecord) : Type 0 where
  -- a link's window holds exactly the numbers counted through it that stayed inside
  pub window : (l n : ℕ) → n < numbers → (is_marked κ r l n ≡ true) ↔ Stayed κ s l n
  -- the count is how many, at most W
  pub how_many : (l : ℕ) → count (marks_at r.links l) ≡ tally κ.settings.window (λ k. is_marked κ r l (distance r.current k))
  pub most : (l : ℕ) → count (marks_at r.links l) ≤ κ.settings.window
  -- the best link, by counts as they stood after each count
  pub counts : (t : Log) → Stood s t → (l : ℕ) → HowMany κ t l
  pub best : Best κ s r.best
  -- the list of entries is that of the latest counted message that moved the window or made the record
  pub entries : Entries κ s r.entries

-- ---- a history: a make that isn't refused, and then any calls, refused ones and further makes among them, on the table that it gave

module _ (cells : ℕ) (a : MakeArgs) (cs : List Call) where
  abbrev pub table_then : TableState
  table_then = after table cells (fresh table (config_of a)) cs

  abbrev pub book_then : BookState
  book_then = after book cells (fresh book (config_of a)) cs

  -- an originator's counted messages, and its records in the table
  abbrev pub messages : (o : ℕ) → Option Log
  messages o = lookup o book_then.records

  abbrev pub records : (o : ℕ) → List (ℕ × TableRecord)
  records o = keep (λ e. eqb o e.0) table_then.records

  pub record TablesTell : Type 0 where
    -- each call's answer, and the octets and rows lent to it as it leaves them, are the book's
    pub same : replies table cells (fresh table (config_of a)) cs ≡ replies book cells (fresh book (config_of a)) cs
    -- an originator without counted messages has no record
    pub nothing : (o : ℕ) → messages o ≡ none → records o ≡ []
    -- otherwise exactly one exists, and stands as said
    pub one : (o : ℕ) (s : Log) → messages o ≡ some s → (r : TableRecord) × (records o ≡ (o, r) ∷ []) × Stands table_then.config s r
