-- A turn of the check's loops. Assumes nothing.
use mathlib.Core.Path.{◌≡◌, refl, sym, ap, ◌∙◌}
use mathlib.Core.List.{List, []}
use mathlib.Core.Bool.{Bool, true, false, cond, ◌&&◌, and-true}
use mathlib.Core.Option.{Option, none, some}
use Prim.Native.Nat.{ℕ, ◌+◌, ◌*◌, ◌%◌, ◌<◌}
use native.Mathlib.Nat.{zero-add}
use native.Mathlib.Omega.{arith}
use lib.Dec.{ltb, eqb}
use lib.ListN.{drop, get_or, get_or-map}
use borrow.Author.Tests.{ltb-true, lt-ltb}
use Rattle.lists.specs.Lists.{maybe, and, all}
use Rattle.lists.specs.Keyed.{lookup, rising}
use Rattle.cells.specs.Area.{rows_of, all_zero, scan}
use Rattle.cells.specs.Pairs.{pair_of}
use Rattle.lists.proofs.Lists.{all_map, map-map}
use Rattle.cells.proofs.Keys.{scan_is}
use Rattle.cells.proofs.Trips.{rows-at}
use Rattle.window.specs.Window.{numbers, distance}
use Rattle.rules.specs.Settings.{Config, is_address, is_number, interface_at, interface_most, interface_cells, neighbour_cells, record_cells}
use Rattle.rules.specs.Calls.{pairs, neighbour_of, interface_of}
use Rattle.rules.specs.Rules.{last_sent}
use Rattle.rules.specs.WellFormed.{row_tests}
use Rattle.rules.proofs.Parts.{row_parts}
use Rattle.table_record.specs.Record.{decode_record, record_ok}
use Rattle.table_record.proofs.Rows.{record_key}
use Rattle.table_record.proofs.Rows.{small-pair}
use Rattle.table_layout.specs.Layout.{used_at, timeout_at, rows_at, sent_at, last_at, own_place, interface_part, neighbour_part}
use Rattle.table_layout.specs.Interfaces.{InterfaceRow, decode_interface}
use Rattle.table_layout.specs.Cells.{interfaces_in, config_in, sends_in, rows_in, unused_rows}
use Rattle.table_settings.proofs.Turns.{row_of_lem}
use Rattle.table_check.specs.Check.{neighbours_ok, record_rows_ok}
use Rattle.table_layout.proofs.Interfaces.{lookup-sends}
use Rattle.table_layout.proofs.Encoding.{used-length}

-- ---- neighbour rows

-- what stands under an interface in use is what its row has
sent_is : (c : List ℕ) (i : ℕ) → i < interface_most → i < get_or c used_at 0
    → lookup i (sends_in c) ≡ cond (eqb (get_or c (own_place i + sent_at) 0) 1) (some (get_or c (own_place i + last_at) 0)) none
unfolding decode_interface
sent_is c i few h =
    let n = get_or c used_at 0 in
    let rows = rows_of interface_cells n (interface_part c) in
    ap (λ (k : ℕ). lookup k (sends_in c)) (sym (zero-add i)) ∙ lookup-sends 0 i (interfaces_in c) ∙ ap (λ (l : List (Option ℕ)). get_or l i none) (map-map decode_interface (λ (r : InterfaceRow). r.1) rows)
    ∙ get_or-map last rows i [] ∙ ap last (rows-at interface_cells n (interface_part c) i [] h)
    ∙ (λ j. cond (eqb (row_of_lem c i sent_at few (omega arith) j) 1) (some (row_of_lem c i last_at few (omega arith) j)) none)
  where
    last : List ℕ → Option ℕ
    last row = cond (eqb (get_or row sent_at 0) 1) (some (get_or row last_at 0)) none

module _ (c : List ℕ) (pair number : ℕ) where
  -- the tests after that the interface is in use, by what stands under it
  abbrev after_use : Option ℕ → Bool
  after_use o =
      maybe o false (λ v. true)
      && (is_number number && (ltb (distance (maybe o (distance (interface_at (config_in c) (pair % interface_most)).first 1) (λ n. n)) number) (get_or c timeout_at 0) && true))

  abbrev place : ℕ
  place = own_place (pair % interface_most)

  abbrev stands : Bool → Option ℕ
  stands b = cond b (some (get_or c (place + last_at) 0)) none

  after-sent : (d : ℕ) → number < numbers → d ≡ distance (get_or c (place + last_at) 0) number → (b : Bool) → b && ltb d (get_or c timeout_at 0) ≡ after_use (stands b)
  after-sent d hn ed true =
      ap (λ (x : ℕ). ltb x (get_or c timeout_at 0)) ed ∙ sym (and-true (ltb (distance (get_or c (place + last_at) 0) number) (get_or c timeout_at 0)))
      ∙ ap (λ (b : Bool). b && (ltb (distance (get_or c (place + last_at) 0) number) (get_or c timeout_at 0) && true)) (sym (lt-ltb number numbers hn))
  after-sent d hn ed false = refl

  pub neighbour_tests : (d : ℕ) → number < numbers → d ≡ distance (get_or c (place + last_at) 0) number
      → ltb pair pairs && (ltb (pair % interface_most) (get_or c used_at 0) && (eqb (get_or c (place + sent_at) 0) 1 && ltb d (get_or c timeout_at 0))) ≡ and (row_tests (config_in c) (sends_in c) (pair, number))
  unfolding interface_of last_sent
  neighbour_tests d hn ed =
      go (ltb (pair % interface_most) (get_or c used_at 0)) refl
      ∙ ap (λ (n : ℕ). is_address (neighbour_of pair) && (ltb (pair % interface_most) n && after_use (lookup (pair % interface_most) (sends_in c)))) (sym (used-length c))
    where
      go : (u : Bool) → ltb (pair % interface_most) (get_or c used_at 0) ≡ u
          → ltb pair pairs && (u && (eqb (get_or c (place + sent_at) 0) 1 && ltb d (get_or c timeout_at 0))) ≡ is_address (neighbour_of pair) && (u && after_use (lookup (pair % interface_most) (sends_in c)))
      go false eu = ap (λ (b : Bool). b && false) (small-pair pair)
      go true eu =
          let e : eqb (get_or c (place + sent_at) 0) 1 && ltb d (get_or c timeout_at 0) ≡ after_use (lookup (pair % interface_most) (sends_in c)) =
          after-sent d hn ed (eqb (get_or c (place + sent_at) 0) 1) ∙ ap after_use (sym (sent_is c (pair % interface_most) (omega arith) (ltb-true (pair % interface_most) (get_or c used_at 0) eu))) in
          λ j. small-pair pair j && e j

-- a neighbour row's test, of its cells
abbrev pub neighbour_row : List ℕ → List ℕ → Bool
neighbour_row c row = and (row_tests (config_in c) (sends_in c) (pair_of row))

-- a pair that passes is small
pub neighbour_small : (c : List ℕ) (pair number : ℕ) → and (row_tests (config_in c) (sends_in c) (pair, number)) ≡ true → pair < pairs
neighbour_small c pair number h = ltb-true pair pairs (small-pair pair ∙ (row_parts (config_in c) (sends_in c) (pair, number) h).neighbour)

pub neighbours_done : (c : List ℕ) (t z : Bool) → t ≡ scan (neighbour_row c) 0 (rows_of neighbour_cells (get_or c rows_at 0) (neighbour_part c)) → z ≡ all_zero (unused_rows c) → t && z ≡ neighbours_ok c
unfolding neighbours_ok
neighbours_done c t z et ez =
    let rows = rows_of neighbour_cells (get_or c rows_at 0) (neighbour_part c) in
    let tests : ℕ × ℕ → Bool = λ e. and (row_tests (config_in c) (sends_in c) e) in
    let s : t ≡ rising (rows_in c) && all tests (rows_in c) =
    et ∙ scan_is pair_of (λ r. refl) (neighbour_row c) rows ∙ ap (λ (b : Bool). rising (rows_in c) && b) (sym (all_map pair_of tests rows)) in
    λ i. s i && ez i

-- ---- records

pub records-done : (κ : Config) (now n : ℕ) (c : List ℕ) (t z : Bool) → t ≡ scan (record_ok κ now) 0 (rows_of record_cells n c) → z ≡ all_zero (drop (n * record_cells) c) → t && z ≡ record_rows_ok κ now n c
records-done κ now n c t z et ez = let s = et ∙ scan_is decode_record record_key (record_ok κ now) (rows_of record_cells n c) in λ i. s i && ez i
