-- What searches for many originators answer.
use Rattle.std.specs.Prelude.{◌≡◌, List, Bool, cond, ℕ, ◌≤◌, length}
use Rattle.lists.specs.Lists.{keep}
use Rattle.lists.specs.Keyed.{has_key}
use Rattle.std.specs.Prelude.{Result, Ok, Err}
use Rattle.table_layout.specs.Cells.{decode, well_formed}
use Rattle.table_originators.specs.Originators.{rounds_most}
use Rattle.bench_search.specs.declared.Searches.{Searches}

-- 1 for a record that was found, 0 for a place
abbrev pub held_at : Result ℕ ℕ → ℕ
held_at (Ok i) = 1
held_at (Err i) = 0

-- whether originator o has a record
abbrev pub is_held : List ℕ → (o : ℕ) → Bool
is_held c o = has_key o (decode c).records

-- what is answered of the originators os in a well-formed table's cells c: how many have a record, and no search took more rounds than it may
pub record SearchesIn (c os : List ℕ) (r : Searches) : Type 0 where
  pub number : r.number ≡ 0
  pub held : r.held ≡ length (keep (is_held c) os)
  pub few : r.most ≤ rounds_most

-- the same of any cells: 1 and zeros where they are no well-formed table's
pub record SearchesOf (c os : List ℕ) (r : Searches) : Type 0 where
  pub number : r.number ≡ cond (well_formed c) 0 1
  pub held : r.held ≡ cond (well_formed c) (length (keep (is_held c) os)) 0
  pub few : r.most ≤ rounds_most
