-- An interface that has sent a number: its row in the cells, and the rules' last sent numbers. Assumes nothing.
use mathlib.Core.Path.{◌≡◌, refl, sym, ap, ap₂, ◌∙◌}
use mathlib.Core.List.{List, [], ◌∷◌, ◌++◌, append_assoc}
use mathlib.Core.Option.{Option, none, some}
use Prim.Native.Nat.{ℕ, zero, suc, ◌+◌, ◌-◌, ◌*◌, ◌≤◌, ◌<◌}
use native.Mathlib.Nat.{zero-add, not-suc-le-zero, le_of_suc-le-suc}
use native.Mathlib.Omega.{arith}
use borrow.Author.Tests.{ne_eqb}
use lib.ListN.{length, take, drop, set, get_or, length-drop}
use lib.Seq.{take-append-add, take-append-le, drop-append-add, drop-append-le, drop-drop}
use borrow.Rule.Slice.PartMut.{put_mid}
use Rattle.lists.specs.Keyed.{lookup, put}
use Rattle.lists.proofs.Keyed.{lookup-put, lookup-put-other}
use Rattle.rules.specs.declared.Interface.{Interface}
use Rattle.rules.specs.Rules.{Sends}
use Rattle.rules.specs.Settings.{interface_most, interface_cells, neighbour_most}
use Rattle.rules.specs.Table.{TableState}
use Rattle.cells.specs.Area.{area, written}
use Rattle.cells.specs.Pairs.{pair_area}
use Rattle.cells.proofs.Areas.{read-row, write-row}
use Rattle.table_layout.specs.Layout.{sent_at, last_at, own_place}
use Rattle.table_layout.specs.Interfaces.{InterfaceRow, rows_with, encode_interface}
use Rattle.table_layout.specs.Cells.{head_of, interface_area, record_area, encode}
use Rattle.table_changes.specs.Changes.{with_sends}
use Rattle.table_layout.proofs.Interfaces.{interface-wide, length_with}
use Rattle.table_layout.proofs.Parts.{wide-interfaces}

abbrev pub none-sent : InterfaceRow
none-sent = (record { own = 0; broadcast = 0; first = 0 }, none)

-- the rows of interfaces whose numbers are above i are not touched
rows_above : (ns : Sends) (i n j : ℕ) (xs : List Interface) → i < j → rows_with ns j xs ≡ rows_with (put i n ns) j xs
rows_above ns i n j [] h = refl
rows_above ns i n j (x ∷ xs) h =
    ap₂ (λ (o : Option ℕ) (l : List InterfaceRow). (x, o) ∷ l) (sym (lookup-put-other j i n ns (ne_eqb j i (omega arith)))) (rows_above ns i n (j + 1) xs (omega arith))

-- one row takes the number
pub rows-sent : (ns : Sends) (n i j : ℕ) (xs : List Interface) (d : InterfaceRow) → i < length xs → set (rows_with ns j xs) i ((get_or (rows_with ns j xs) i d).0, some n) ≡ rows_with (put (j + i) n ns) j xs
rows-sent ns n i j [] d h = absurd (not-suc-le-zero h)
rows-sent ns n zero j (x ∷ xs) d h =
    let e : j ≡ j + 0 = omega arith in
    ap₂ (λ (o : Option ℕ) (l : List InterfaceRow). (x, o) ∷ l) (sym (ap (λ (k : ℕ). lookup j (put k n ns)) (sym e) ∙ lookup-put j n ns)) (rows_above ns (j + 0) n (j + 1) xs (omega arith))
rows-sent ns n (suc i) j (x ∷ xs) d h =
    let e : j + 1 + i ≡ j + suc i = omega arith in
    ap₂ (λ (o : Option ℕ) (l : List InterfaceRow). (x, o) ∷ l) (sym (lookup-put-other j (j + suc i) n ns (ne_eqb j (j + suc i) (omega arith))))
    (rows-sent ns n i (j + 1) xs d (le_of_suc-le-suc h) ∙ ap (λ (k : ℕ). rows_with (put k n ns) (j + 1) xs) e)

-- ---- a run of cells f between h and t, and w cells of it from k on

module _ (h f t : List ℕ) (k w : ℕ) (within : k + w ≤ length f) where
  abbrev about : List ℕ
  about = h ++ (f ++ t)

  abbrev at : ℕ
  at = length h + k

  from_k : drop at about ≡ drop k f ++ t
  from_k = drop-append-add h (f ++ t) k ∙ drop-append-le k f t (omega arith)

  pub run_lent : take w (drop at about) ≡ take w (drop k f)
  run_lent = ap (take w) from_k ∙ take-append-le w (drop k f) t (omega (arith, length-drop k f))

  pub run_back : (y : List ℕ) → length y ≡ w → put_mid at w about y ≡ h ++ (written f k y ++ t)
  run_back y e =
      let a : take at about ≡ h ++ take k f = take-append-add h (f ++ t) k ∙ ap (λ (l : List ℕ). h ++ l) (take-append-le k f t (omega arith)) in
      let b : drop w (drop at about) ≡ drop (k + length y) f ++ t =
      ap (drop w) from_k ∙ drop-append-le w (drop k f) t (omega (arith, length-drop k f)) ∙ ap (λ (l : List ℕ). l ++ t) (drop-drop w k f ∙ ap (λ (m : ℕ). drop (k + m) f) (sym e)) in
      ap₂ (λ (u v : List ℕ). u ++ (y ++ v)) a b ∙ simp append_assoc

-- ---- the row of interface i in a table's cells takes a number

module _ (s : TableState) (i n : ℕ) (used : i < length s.config.interfaces) (few : length s.config.interfaces ≤ interface_most) where
  rows : List InterfaceRow
  rows = rows_with s.sends 0 s.config.interfaces

  there : i < length rows
  unfolding rows
  there = omega (arith, length_with s.sends 0 s.config.interfaces)

  room : length rows ≤ interface_most
  unfolding rows
  room = omega (arith, length_with s.sends 0 s.config.interfaces)

  within : i * interface_cells + interface_cells ≤ length (interface_area s)
  within = omega (arith, wide-interfaces s)

  pub interface-lent : take interface_cells (drop (own_place i) (encode s)) ≡ encode_interface (get_or (rows_with s.sends 0 s.config.interfaces) i none-sent)
  unfolding encode rows
  interface-lent =
      run_lent (head_of s) (interface_area s) (pair_area neighbour_most s.rows ++ record_area s.config.settings.capacity s.records) (i * interface_cells) interface_cells within
      ∙ read-row encode_interface interface_cells interface-wide interface_most (rows_with s.sends 0 s.config.interfaces) room i none-sent there

  -- the row with its last two cells set
  row-sent : (r : InterfaceRow) → set (set (encode_interface r) sent_at 1) last_at n ≡ encode_interface (r.0, some n)
  unfolding encode_interface
  row-sent r = refl

  pub interface_back : (y : List ℕ) → y ≡ set (set (take interface_cells (drop (own_place i) (encode s))) sent_at 1) last_at n → put_mid (own_place i) interface_cells (encode s) y ≡ encode (with_sends (put i n s.sends) s)
  unfolding encode rows
  interface_back y e =
      let r : InterfaceRow = get_or (rows_with s.sends 0 s.config.interfaces) i none-sent in
      let z : y ≡ encode_interface (r.0, some n) = e ∙ ap (λ (l : List ℕ). set (set l sent_at 1) last_at n) interface-lent ∙ row-sent r in
      run_back (head_of s) (interface_area s) (pair_area neighbour_most s.rows ++ record_area s.config.settings.capacity s.records) (i * interface_cells) interface_cells within
      y (ap length z ∙ interface-wide (r.0, some n))
      ∙ ap (λ (l : List ℕ). head_of s ++ (l ++ (pair_area neighbour_most s.rows ++ record_area s.config.settings.capacity s.records)))
      (ap (written (interface_area s) (i * interface_cells)) z
      ∙ write-row encode_interface interface_cells interface-wide interface_most (rows_with s.sends 0 s.config.interfaces) room i (r.0, some n) there
      ∙ ap (λ (l : List InterfaceRow). area encode_interface interface_cells interface_most l) (rows-sent s.sends n i 0 s.config.interfaces none-sent used ∙ ap (λ (k : ℕ). rows_with (put k n s.sends) 0 s.config.interfaces) (zero-add i)))
