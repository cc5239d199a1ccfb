-- The table and the book agree, so every history gives equal replies, and its table is the book's and well-formed.
use Prim.Native.Nat.{ℕ}
use mathlib.Core.Path.{◌≡◌, refl, ap}
use mathlib.Core.Bool.{true, not}
use mathlib.Core.List.{List, [], ◌∷◌}
use lib.Dec.{eqb}
use Rattle.lists.specs.Lists.{all}
use Rattle.lists.proofs.Tests.{both, and_left, and_right}
use Rattle.rules.specs.Settings.{Config, MakeArgs, config_of, allowed, make_allowed}
use Rattle.rules.specs.Calls.{Call, number_of}
use Rattle.rules.specs.Rules.{sequence_of, Reading, StateOf, fresh, step}
use Rattle.rules.specs.Table.{TableState, table}
use Rattle.rules.specs.WellFormed.{well_formed, typed}
use Rattle.rules.proofs.Config.{make-allowed}
use Rattle.rules.proofs.Counting.{sequence-lt}
use Rattle.rules.proofs.Exactly.{never_one_lem}
use Rattle.rules.proofs.WellFormed.{well_formed-step, well_formed-fresh}
use Rattle.history.specs.Book.{book}
use Rattle.history.specs.History.{after, replies}
use Rattle.history.specs.TableOfBook.{record_of, rows_of, table_of}
use Rattle.history.specs.Demand.{table_then}
use Rattle.history.proofs.Sound.{Keeps, fresh_sound}
use Rattle.history.proofs.Readings.{Agree, history-same}
use Rattle.history.proofs.Log.{is_timely, all_timely}
use Rattle.history.proofs.Records.{links-same, stale-same, marked-stays, count_next, first_one}
use Rattle.history.proofs.Neighbours.{has_row-same, rows_held-same, echo-same, sent-same}

agree : (κ : Config) → allowed κ ≡ true → Agree book table record_of rows_of κ
unfolding rows_of
agree κ h =
    record {
      first = first_one κ h;
      next = λ m s. count_next κ h m s;
      stale = λ s m. stale-same κ s (sequence_of m);
      time = λ s. refl;
      last_ttl = λ s. refl;
      duplicate = λ s m. marked-stays κ s m.link (sequence_of m) (sequence-lt m);
      best = λ s. refl;
      is_best = λ s l. refl;
      links = links-same κ;
      entries = λ s. refl;
      no_rows = λ ns. refl;
      has_row = has_row-same κ;
      rows_held = rows_held-same κ;
      echo = λ ns fit. echo-same κ ns h fit;
      sent = λ ns fit. sent-same κ ns h fit;
    }

-- no log of a book has an OGM that was stale when it was counted
pub timely-kept : Keeps book all_timely
unfolding all_timely is_timely
timely-kept = record { first = λ κ m. refl; next = λ κ m s p t. both (ap not t) p }

-- a history from a fresh table and the book that starts with it: equal replies, and the table is the book's
pub history : (cells : ℕ) (κ : Config) → allowed κ ≡ true → (cs : List Call)
    → (replies table cells (fresh table κ) cs ≡ replies book cells (fresh book κ) cs) × (after table cells (fresh table κ) cs ≡ table_of (after book cells (fresh book κ) cs))
unfolding rows_of
history cells κ h cs = history-same book table record_of rows_of agree all_timely timely-kept cells (fresh book κ) (fresh_sound book all_timely timely-kept κ h) cs

-- every history's table is well-formed
after-well_formed : (cells : ℕ) (s : TableState) → well_formed s ≡ true → (cs : List Call) → all typed cs ≡ true → well_formed (after table cells s cs) ≡ true
unfolding after
after-well_formed cells s h [] t = h
after-well_formed cells s h (c ∷ cs) t =
    after-well_formed cells (step table cells s c).state (well_formed-step cells s h c (and_left (typed c) (all typed cs) t)) cs (and_right (typed c) (all typed cs) t)

pub history-well_formed : (cells : ℕ) (a : MakeArgs) (cs : List Call) → make_allowed cells a ≡ true → all typed cs ≡ true → well_formed (table_then cells a cs) ≡ true
history-well_formed cells a cs h t = after-well_formed cells (fresh table (config_of a)) (well_formed-fresh (config_of a) (make-allowed cells a h)) cs t

-- no call of a history answers 1, whatever its reading
pub history_never_one : (W : Reading) (cells : ℕ) (s : StateOf W) (cs : List Call) → all (λ x. not (eqb (number_of x.answer) 1)) (replies W cells s cs) ≡ true
unfolding replies
history_never_one W cells s [] = refl
history_never_one W cells s (c ∷ cs) = both (ap not (never_one_lem W cells s c)) (history_never_one W cells (step W cells s c).state cs)
