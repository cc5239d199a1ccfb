-- What a make line says of the settings.
use Rattle.std.specs.Prelude.{ℕ, ◌≡◌, List, Some}
use Rattle.script_words.specs.Words.{word_at}
use Rattle.script_numbers.specs.Numbers.{decimal}
use Rattle.script_lines.specs.Limits.{most64}
use Rattle.script_lines.specs.declared.tables.Table.{Table}

-- the first six words are the settings but for the tie, and how many interfaces are in use
pub record ReadSettings (xs : List ℕ) (t : Table) : Type 0 where
  pub version : decimal most64 (word_at 0 xs) ≡ Some t.settings.version
  pub window : decimal most64 (word_at 1 xs) ≡ Some t.settings.window
  pub timeout : decimal most64 (word_at 2 xs) ≡ Some t.settings.timeout
  pub purge : decimal most64 (word_at 3 xs) ≡ Some t.settings.purge
  pub capacity : decimal most64 (word_at 4 xs) ≡ Some t.settings.capacity
  pub used : decimal most64 (word_at 5 xs) ≡ Some t.used
