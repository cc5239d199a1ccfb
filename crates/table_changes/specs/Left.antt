-- What a step of a call leaves, by the rules' outcome.
use Rattle.std.specs.Prelude.{◌≡◌, List, ℕ}
use Rattle.rules.specs.Calls.{Reply}
use Rattle.rules.specs.Rules.{OutcomeOf}
use Rattle.rules.specs.Table.{table}
use Rattle.table_layout.specs.Cells.{encode}

-- the reply is that of an outcome, and the cells are those of its state
pub record Left (x : OutcomeOf table) (reply : Reply) (cells : List ℕ) : Type 0 where
  pub replies : reply ≡ x.reply
  pub leaves : cells ≡ encode x.state
