-- A call leaves a well-formed table's cells well-formed, so that a history never meets refusal 1. Assumes nothing.
use mathlib.Core.Path.{◌≡◌}
use mathlib.Core.Bool.{Bool, true, false}
use mathlib.Core.List.{List}
use Prim.Native.Nat.{ℕ}
use lib.ListN.{length}
use Rattle.rules.specs.Calls.{Call}
use Rattle.rules.specs.Rules.{branch, step}
use Rattle.rules.specs.Table.{TableState, table}
use Rattle.rules.specs.WellFormed as R
use Rattle.rules.proofs.WellFormed.{well_formed-step}
use Rattle.table_layout.specs.Cells.{decode, well_formed}
use Rattle.table_layout.specs.Calls.{meets, unmet, refused, stepped, call_on}
use Rattle.table_layout.proofs.Encoding.{laws}

pub stays : (c : List ℕ) (call : Call) → R.typed call ≡ true → well_formed c ≡ true → well_formed (call_on c call).cells ≡ true
unfolding call_on branch
stays c call t w = go (meets c call)
  where
    s : TableState
    s = (step table (length c) (decode c) call).state

    after : R.well_formed s ≡ true
    after = well_formed-step (length c) (decode c) (laws.table c w) call t

    go : (b : Bool) → well_formed (branch b (stepped c call) (refused c call (unmet call))).cells ≡ true
    go true = laws.encoded s after
    go false = w
