-- The ways through the best question's call. Assumes nothing.
use mathlib.Core.Path.{◌≡◌, refl, sym}
use mathlib.Core.List.{List}
use mathlib.Core.Bool.{true, false}
use Prim.Native.Nat.{ℕ}
use Rattle.lists.specs.Keyed.{lookup}
use Rattle.rules.specs.Calls.{question, asked, answered, no_route, refusal}
use Rattle.rules.specs.Rules.{route_of, answer_best, step}
use Rattle.rules.specs.Table.{table}
use Rattle.table_layout.specs.Calls.{Performed}
use Rattle.table_layout.specs.Cells.{decode, well_formed}
use Rattle.table_layout.proofs.Encoding.{encode-decode}
use Rattle.table_changes.proofs.Performing.{not-asked, does}
use Rattle.call_best.specs.Best.{asked_as}

module _ (c : List ℕ) (o : ℕ) where
  pub ill_formed : well_formed c ≡ false → Performed c (question o) (answered (asked (asked_as 1 no_route))) c
  unfolding refusal
  ill_formed e = not-asked c (question o) e

  pub answers : well_formed c ≡ true → Performed c (question o) (answered (asked (asked_as 0 (route_of table (decode c).config (lookup o (decode c).records))))) c
  unfolding step answer_best
  answers well = does c (question o) well (answer_best table (decode c) (lookup o (decode c).records)) refl _ _ refl (sym (encode-decode c well))
