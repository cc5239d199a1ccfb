-- The addresses in the interface rows in use. Assumes nothing.
use mathlib.Core.Path.{◌≡◌, refl, sym, ap, ◌∙◌}
use mathlib.Core.Bool.{Bool, true, false, ◌&&◌, ◌||◌}
use mathlib.Core.List.{List, [], ◌∷◌, map}
use Prim.Native.Nat.{ℕ, ◌+◌, ◌≤◌, ◌<◌}
use native.Mathlib.Nat.{not-suc-le-zero}
use native.Mathlib.Omega.{arith}
use lib.Dec.{ltb, eqb}
use lib.ListN.{length, get_or}
use Rattle.lists.specs.Lists.{elem}
use Rattle.lists.specs.Keyed.{lookup}
use Rattle.rules.specs.declared.Interface.{Interface}
use Rattle.rules.specs.Settings.{interface_most, interface_cells, interface_at}
use Rattle.table_layout.specs.Layout.{used_at, own_place}
use Rattle.table_layout.specs.Cells.{decode}
use Rattle.table_layout.specs.Facts.{Knows}
use Rattle.table_changes.proofs.Values.{used-read, cell_read}
use Rattle.table_changes.proofs.Sent.{none-sent}
use Rattle.call_receive_arrival.specs.Receiving.{IsFieldAt}

or_false : (t : Bool) → t ≡ (t || false)
or_false true = refl
or_false false = refl

-- an address among those of one to four interfaces
among : (f : Interface → ℕ) (a : ℕ) (v : ℕ → ℕ) (xs : List Interface) → 1 ≤ length xs → length xs ≤ interface_most → ((i : ℕ) → i < length xs → v i ≡ f (get_or xs i none-sent.0))
    → (eqb a (v 0) || ((ltb 1 (length xs) && eqb a (v 1)) || ((ltb 2 (length xs) && eqb a (v 2)) || (ltb 3 (length xs) && eqb a (v 3))))) ≡ elem a (map f xs)
among f a v [] l h e = absurd (not-suc-le-zero l)
among f a v (x ∷ []) l h e = λ j. eqb a (e 0 (omega arith) j) || false
among f a v (x ∷ y ∷ []) l h e = λ j. eqb a (e 0 (omega arith) j) || (eqb a (e 1 (omega arith) j) || false)
among f a v (x ∷ y ∷ z ∷ []) l h e = λ j. eqb a (e 0 (omega arith) j) || (eqb a (e 1 (omega arith) j) || (eqb a (e 2 (omega arith) j) || false))
among f a v (x ∷ y ∷ z ∷ w ∷ []) l h e = λ j. eqb a (e 0 (omega arith) j) || (eqb a (e 1 (omega arith) j) || (eqb a (e 2 (omega arith) j) || (ap (eqb a) (e 3 (omega arith)) ∙ or_false (eqb a (f w))) j))
among f a v (x ∷ y ∷ z ∷ w ∷ u ∷ xs) l h e = absurd (omega arith)

module _ (c : List ℕ) (k : Knows c) where
  field_read : (f : Interface → ℕ) (j : ℕ) → IsFieldAt f j → j < interface_cells → (i : ℕ) → i < get_or c used_at 0 → get_or c (own_place i + j) 0 ≡ f (interface_at (decode c).config i)
  field_read f j e hj i h = cell_read c k i j h hj ∙ e (interface_at (decode c).config i, lookup i (decode c).sends)

  -- a is the field, at place j, of an interface in use
  pub listed_is : (f : Interface → ℕ) (j : ℕ) → IsFieldAt f j → j < interface_cells → (a : ℕ)
      → (eqb a (get_or c (own_place 0 + j) 0) || ((ltb 1 (get_or c used_at 0) && eqb a (get_or c (own_place 1 + j) 0)) || ((ltb 2 (get_or c used_at 0) && eqb a (get_or c (own_place 2 + j) 0)) || (ltb 3 (get_or c used_at 0) && eqb a (get_or c (own_place 3 + j) 0)))))
      ≡ elem a (map f (decode c).config.interfaces)
  listed_is f j e hj a =
      let v : ℕ → ℕ = λ i. get_or c (own_place i + j) 0 in
      let u = used-read c in
      ap (λ (n : ℕ). eqb a (v 0) || ((ltb 1 n && eqb a (v 1)) || ((ltb 2 n && eqb a (v 2)) || (ltb 3 n && eqb a (v 3))))) (sym u)
      ∙ among f a v (decode c).config.interfaces (omega (arith, k.sized.used-least)) (omega (arith, k.sized.used-most)) (λ i h. field_read f j e hj i (omega arith))
