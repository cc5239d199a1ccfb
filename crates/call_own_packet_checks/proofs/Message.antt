-- An own packet's number and message, by the cells of the head and of the interface's row. Assumes nothing.
use mathlib.Core.Path.{◌≡◌, refl, sym, ap, ◌∙◌}
use mathlib.Core.List.{List, [], ◌∷◌}
use mathlib.Core.Option.{Option, none, some}
use Prim.Native.Nat.{ℕ, zero, suc, ◌+◌, ◌%◌, ◌≤◌, ◌<◌}
use native.Mathlib.Nat.{mod-eq_of_lt, not-suc-le-zero, le_of_suc-le-suc, add-zero, zero-add}
use native.Mathlib.Omega.{arith}
use lib.ListN.{length, take, drop, get_or}
use lib.Seq.{get_or-take, get_or-drop}
use Rattle.lists.specs.Lists.{maybe}
use Rattle.lists.specs.Keyed.{lookup}
use Rattle.window.specs.Window.{numbers}
use Rattle.rules.specs.declared.Interface.{Interface}
use Rattle.rules.specs.Settings.{octets, addresses, interface_most, interface_cells, interface_at}
use Rattle.rules.specs.Rules.{Sends, next_number}
use Rattle.rules.specs.Table.{TableState}
use Rattle.rules.proofs.Config.{first-lt, version_high, own-lt}
use Rattle.rules.proofs.WellFormed.{Wf, parts}
use Rattle.table_layout.specs.Layout.{version_at, used_at, own_at, first_at, sent_at, last_at, own_place}
use Rattle.table_layout.specs.Interfaces.{InterfaceRow, rows_with, encode_interface}
use Rattle.table_layout.specs.Cells.{encode, decode}
use Rattle.table_layout.specs.Facts.{Knows}
use Rattle.table_changes.proofs.Values.{used-read}
use Rattle.table_changes.proofs.Sent.{none-sent, interface-lent}

-- ---- the interfaces in use

pub in_use : (c : List ℕ) (i : ℕ) → i < get_or c used_at 0 → i < length (decode c).config.interfaces
in_use c i h = omega (arith, used-read c)

pub few : (c : List ℕ) → Knows c → length (decode c).config.interfaces ≤ interface_most
few c k = omega (arith, used-read c, k.sized.used-most)

-- ---- the next number, by an interface's row

module _ (row : List ℕ) (x : Interface) (fits : x.first < numbers) where
  pub one_more : (last : Option ℕ) → row ≡ encode_interface (x, last) → get_or row sent_at 0 ≡ 1 → (get_or row last_at 0 % numbers + 1) % numbers ≡ maybe last x.first (λ n. (n + 1) % numbers)
  unfolding encode_interface
  one_more none e h = absurd (let z : ◌≡◌ {A = ℕ} 0 1 = sym (ap (λ (l : List ℕ). get_or l sent_at 0) e) ∙ h in omega arith)
  one_more (some n) e h = ap (λ (l : List ℕ). (get_or l last_at 0 % numbers + 1) % numbers) e ∙ omega arith

  pub the_first : (last : Option ℕ) → row ≡ encode_interface (x, last) → (get_or row sent_at 0 ≡ 1 → ⊥) → get_or row first_at 0 % numbers ≡ maybe last x.first (λ n. (n + 1) % numbers)
  unfolding encode_interface
  the_first none e h = ap (λ (l : List ℕ). get_or l first_at 0 % numbers) e ∙ mod-eq_of_lt fits
  the_first (some n) e h = absurd (h (ap (λ (l : List ℕ). get_or l sent_at 0) e))

-- ---- the message, by the cells of the head and of the interface's row

-- the row of interface i, where the first row has the number j
interface-row : (ns : Sends) (j i : ℕ) (xs : List Interface) (d : Interface) → i < length xs → get_or (rows_with ns j xs) i none-sent ≡ (get_or xs i d, lookup (j + i) ns)
interface-row ns j i [] d h = absurd (not-suc-le-zero h)
interface-row ns j zero (x ∷ xs) d h = ap (λ (m : ℕ). (x, lookup m ns)) (sym (add-zero j))
interface-row ns j (suc i) (x ∷ xs) d h =
    let e : j + 1 + i ≡ j + suc i = omega arith in
    interface-row ns (j + 1) i xs d (le_of_suc-le-suc h) ∙ ap (λ (m : ℕ). (get_or xs i d, lookup m ns)) e

row-own : (r : InterfaceRow) → get_or (encode_interface r) own_at 0 ≡ r.0.own
unfolding encode_interface
row-own r = refl

head_version : (s : TableState) → get_or (encode s) version_at 0 ≡ s.config.settings.version
unfolding encode
head_version s = refl

module _ (c : List ℕ) (k : Knows c) (i : ℕ) (used : i < get_or c used_at 0) where
  is : c ≡ encode (decode c)
  is = sym k.cells

  well : Wf (decode c)
  well = parts (decode c) k.valid

  row_is : take interface_cells (drop (own_place i) c) ≡ encode_interface (interface_at (decode c).config i, lookup i (decode c).sends)
  row_is =
      ap (λ (l : List ℕ). take interface_cells (drop (own_place i) l)) is ∙ interface-lent (decode c) i 0 (in_use c i used) (few c k)
      ∙ ap encode_interface (interface-row (decode c).sends 0 i (decode c).config.interfaces (record { own = 0; broadcast = 0; first = 0 }) (in_use c i used)
      ∙ ap (λ (m : ℕ). (interface_at (decode c).config i, lookup m (decode c).sends)) (zero-add i))

  first_fits : (interface_at (decode c).config i).first < numbers
  first_fits = first-lt (decode c).config well.allowed i

  pub version_is : get_or c version_at 0 % octets ≡ (decode c).config.settings.version
  version_is =
      ap (λ (l : List ℕ). get_or l version_at 0 % octets) is ∙ ap (λ (n : ℕ). n % octets) (head_version (decode c))
      ∙ mod-eq_of_lt (omega (arith, version_high (decode c).config well.allowed))

  pub own_is : get_or c (own_place i + own_at) 0 % addresses ≡ (interface_at (decode c).config i).own
  own_is =
      let e : get_or c (own_place i + own_at) 0 ≡ get_or (take interface_cells (drop (own_place i) c)) own_at 0 =
      sym (get_or-take interface_cells (drop (own_place i) c) own_at 0 (omega arith) ∙ get_or-drop (own_place i) c own_at 0) in
      ap (λ (n : ℕ). n % addresses) (e ∙ ap (λ (l : List ℕ). get_or l own_at 0) row_is ∙ row-own (interface_at (decode c).config i, lookup i (decode c).sends))
      ∙ mod-eq_of_lt (own-lt (decode c).config well.allowed i)

  -- so its next number is that of the rules
  pub next_is : (w r : ℕ) → w ≡ interface_cells → ((x : Interface) (last : Option ℕ) → x.first < numbers → take w (drop (own_place i) c) ≡ encode_interface (x, last) → r ≡ maybe last x.first (λ n. (n + 1) % numbers)) → r ≡ next_number (decode c).config (decode c).sends i
  unfolding next_number
  next_is w r e h = h (interface_at (decode c).config i) (lookup i (decode c).sends) first_fits (ap (λ (n : ℕ). take n (drop (own_place i) c)) e ∙ row_is)
