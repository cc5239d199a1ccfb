-- A call on cells goes by the rules where they are what it asks for, and is refused where they are not. Assumes nothing.
use mathlib.Core.Path.{◌≡◌, ap}
use mathlib.Core.List.{List}
use mathlib.Core.Bool.{Bool, true, false}
use Prim.Native.Nat.{ℕ}
use Rattle.rules.specs.Calls.{Call}
use Rattle.rules.specs.Rules.{branch}
use Rattle.table_layout.specs.Calls.{meets, unmet, refused, stepped, call_on}

module _ (c : List ℕ) (call : Call) where
  pub goes_on : meets c call ≡ true → call_on c call ≡ stepped c call
  unfolding call_on branch
  goes_on h = ap (λ (b : Bool). branch b (stepped c call) (refused c call (unmet call))) h

  pub turned_away_lem : meets c call ≡ false → call_on c call ≡ refused c call (unmet call)
  unfolding call_on branch
  turned_away_lem h = ap (λ (b : Bool). branch b (stepped c call) (refused c call (unmet call))) h
