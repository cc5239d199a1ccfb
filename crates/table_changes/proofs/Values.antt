-- What single cells say of the table that they hold. Assumes nothing.
use mathlib.Core.Path.{◌≡◌, refl, sym, ap, ◌∙◌}
use mathlib.Core.List.{List, [], ◌∷◌}
use Prim.Native.Nat.{ℕ, zero, suc, ◌+◌, ◌≤◌, ◌<◌}
use native.Mathlib.Nat.{zero-add, add-zero, not-suc-le-zero, le_of_suc-le-suc}
use native.Mathlib.Omega.{arith}
use lib.ListN.{length, take, drop, get_or}
use Rattle.lists.specs.Keyed.{lookup}
use Rattle.cells.proofs.Keys.{row_cell}
use Rattle.rules.specs.declared.Interface.{Interface}
use Rattle.rules.specs.Settings.{interface_most, interface_cells, interface_at}
use Rattle.rules.specs.Rules.{Sends}
use Rattle.table_layout.specs.Layout.{time_at, used_at, own_place}
use Rattle.table_layout.specs.Interfaces.{InterfaceRow, rows_with, encode_interface}
use Rattle.table_layout.specs.Cells.{decode}
use Rattle.table_layout.specs.Facts.{Knows}
use Rattle.table_layout.proofs.Encoding.{used-length}
use Rattle.table_changes.proofs.Sent.{none-sent, interface-lent}

module _ (c : List ℕ) where
  pub time-read : (decode c).time ≡ get_or c time_at 0
  unfolding decode
  time-read = refl

  pub used-read : length (decode c).config.interfaces ≡ get_or c used_at 0
  unfolding decode
  used-read = used-length c

-- ---- interface rows

row_with : (ns : Sends) (j i : ℕ) (xs : List Interface) → i < length xs → get_or (rows_with ns j xs) i none-sent ≡ (get_or xs i none-sent.0, lookup (j + i) ns)
row_with ns j i [] h = absurd (not-suc-le-zero h)
row_with ns j zero (x ∷ xs) h = ap (λ (k : ℕ). (x, lookup k ns)) (sym (add-zero j))
row_with ns j (suc i) (x ∷ xs) h =
    let e : j + 1 + i ≡ j + suc i = omega arith in
    row_with ns (j + 1) i xs (le_of_suc-le-suc h) ∙ ap (λ (k : ℕ). (get_or xs i none-sent.0, lookup k ns)) e

module _ (c : List ℕ) (k : Knows c) where
  -- cell j of the row of interface i
  pub cell_read : (i j : ℕ) → i < get_or c used_at 0 → j < interface_cells → get_or c (own_place i + j) 0 ≡ get_or (encode_interface (interface_at (decode c).config i, lookup i (decode c).sends)) j 0
  cell_read i j h hj =
      let s = decode c in
      let used : i < length s.config.interfaces = omega (arith, used-read c) in
      let few : length s.config.interfaces ≤ interface_most = omega (arith, used-read c, k.sized.used-most) in
      sym (row_cell interface_cells c (own_place i) j hj)
      ∙ ap (λ (l : List ℕ). get_or (take interface_cells (drop (own_place i) l)) j 0) (sym k.cells)
      ∙ ap (λ (l : List ℕ). get_or l j 0) (interface-lent s i 0 used few)
      ∙ ap (λ (r : InterfaceRow). get_or (encode_interface r) j 0) (row_with s.sends 0 i s.config.interfaces used ∙ ap (λ (n : ℕ). (interface_at s.config i, lookup n s.sends)) (zero-add i))
