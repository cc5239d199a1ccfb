-- Demand 3 whole: one claim about a history of the public calls on lent cells. `call_on` is what each public call's contract cites. (RULES 10)
use Rattle.std.specs.Prelude.{ℕ, ◌≡◌, true, not, List, [], ◌∷◌, eqb, length}
use Rattle.std.proofs.Math.Option.{none, some}
use Rattle.lists.specs.Lists.{keep, all}
use Rattle.rules.specs.Settings.{MakeArgs, config_of}
use Rattle.rules.specs.Calls.{Call, make, Reply, number_of, made, answered}
use Rattle.rules.specs.Rules.{fresh}
use Rattle.rules.specs.Table.{TableRecord}
use Rattle.table_layout.specs.Cells.{config_in, records_in, decode, well_formed}
use Rattle.table_layout.specs.Calls.{call_on}
use Rattle.history.specs.Book.{Log, book}
use Rattle.history.specs.History.{replies}
use Rattle.history.specs.TableOfBook.{table_of}
use Rattle.history.specs.Demand.{Stands, book_then, messages}

-- ---- a history: each call is lent the cells that the one before left

unfoldable pub cells_after : List ℕ → List Call → List ℕ
cells_after c [] = c
cells_after c (call ∷ cs) = cells_after (call_on c call).cells cs

-- each call's answer, and the octets and rows lent to it as it leaves them
unfoldable pub replies_on : List ℕ → List Call → List Reply
replies_on c [] = []
replies_on c (call ∷ cs) = (call_on c call).reply ∷ replies_on (call_on c call).cells cs

-- ---- the cells c, whatever they hold, a make on them that isn't refused, and then any calls, refused ones and further makes among them

module _ (c : List ℕ) (a : MakeArgs) (cs : List Call) where
  abbrev pub cells_then : List ℕ
  cells_then = cells_after c (make a ∷ cs)

  abbrev pub replies_then : List Reply
  replies_then = replies_on c (make a ∷ cs)

  -- an originator's records in the cells
  abbrev pub records_then : (o : ℕ) → List (ℕ × TableRecord)
  records_then o = keep (λ e. eqb o e.0) (records_in cells_then)

  pub record Demand3 : Type 0 where
    -- each call's answer, and the octets and rows lent to it as it leaves them, are the book's; the make answers 0
    pub same : replies_then ≡ answered (made 0) ∷ replies book (length c) (fresh book (config_of a)) cs
    -- no call answers 1
    pub never_one : all (λ x. not (eqb (number_of x.answer) 1)) replies_then ≡ true
    -- the cells are a well-formed table's, as many as they were, and the table is the one that the book describes
    pub well_formed : well_formed cells_then ≡ true
    pub size : length cells_then ≡ length c
    pub described : decode cells_then ≡ table_of (book_then (length c) a cs)
    -- an originator without counted messages has no record
    pub nothing : (o : ℕ) → messages (length c) a cs o ≡ none → records_then o ≡ []
    -- otherwise exactly one exists, and its windows, counts, best link and entries stand as the counted messages say
    pub one : (o : ℕ) (s : Log) → messages (length c) a cs o ≡ some s → (r : TableRecord) × (records_then o ≡ (o, r) ∷ []) × Stands (config_in cells_then) s r
