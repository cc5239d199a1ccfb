-- What the answer of `table_check::well_formed` tells a call. Assumes nothing.
use mathlib.Core.Path.{◌≡◌, sym, ◌∙◌}
use mathlib.Core.Bool.{Bool, true, false, not}
use mathlib.Core.List.{List}
use Prim.Native.Nat.{ℕ}
use borrow.Author.Tests.{not-true, not-false}
use Rattle.table_layout.specs.Cells.{well_formed}
use Rattle.table_layout.specs.Facts.{Knows}
use Rattle.table_check.proofs.Knowing.{knows}

module _ (c : List ℕ) {answer : Bool} (e : answer ≡ well_formed c) where
  pub ill : not answer ≡ true → well_formed c ≡ false
  ill t = sym e ∙ not-true _ t

  pub well : not answer ≡ false → well_formed c ≡ true
  well t = sym e ∙ not-false _ t

  pub known : not answer ≡ false → Knows c
  known t = knows c (well t)
