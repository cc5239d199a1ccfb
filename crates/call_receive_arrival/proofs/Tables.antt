-- Cells that are a well-formed table's, as a call leaves them. Assumes nothing.
use mathlib.Core.Path.{◌≡◌, sym, ap, ◌∙◌, subst}
use mathlib.Core.Bool.{true}
use mathlib.Core.List.{List}
use Prim.Native.Nat.{ℕ}
use Rattle.rules.specs.Table.{TableState}
use Rattle.rules.specs.WellFormed as R
use Rattle.table_layout.specs.Cells.{encode, decode}
use Rattle.table_layout.specs.Facts.{Knows}
use Rattle.table_layout.proofs.Encoding.{decode-encode}
use Rattle.table_check.proofs.Knowing.{knows-encoded}

-- the cells d of a well-formed table s
module _ (s : TableState) {d : List ℕ} (e : d ≡ encode s) (h : R.well_formed s ≡ true) where
  pub left-knows : Knows d
  left-knows = subst Knows (sym e) (knows-encoded s h)

  pub left-decode : decode d ≡ s
  left-decode = ap decode e ∙ decode-encode s h
