-- The tests of the head and of the interface rows are those of RULES 5.3, whatever their order. Assumes nothing.
use mathlib.Core.Path.{◌≡◌, refl, sym, ap, ◌∙◌}
use mathlib.Core.List.{List}
use mathlib.Core.Bool.{Bool, true, false, cond, ◌&&◌, ◌||◌}
use mathlib.Core.Option.{none, some}
use Prim.Native.Nat.{ℕ, ◌+◌, ◌*◌, ◌<◌}
use native.Mathlib.Omega.{arith}
use lib.Dec.{leb, eqb}
use lib.ListN.{length, get_or, length-map}
use borrow.Author.Tests.{leb-true, le-leb, eqb-true, eq-eqb}
use Rattle.lists.specs.Lists.{maybe, and, all}
use Rattle.cells.specs.Area.{rows_of, all_zero}
use Rattle.lists.proofs.Tests.{and_left, and_right, both, and_at}
use Rattle.lists.proofs.Lists.{all_map, all_weaken, all_meet}
use Rattle.cells.proofs.Bools.{fails}
use Rattle.rules.specs.declared.Settings.{Settings}
use Rattle.rules.specs.Settings.{settings_ok, interface_tests, allowed, is_number, interface_most, neighbour_most, interface_cells, record_cells, table_head, cells_needed, within, differ, own_addresses}
use Rattle.rules.specs.WellFormed.{send_tests}
use Rattle.rules.proofs.Config.{within_low, within-high, window-least, window-most, timeout-most, purge-most, capacity-most, tie-most, allowed_by, settings-allowed, number-allowed, each-allowed, own-differ}
use Rattle.table_layout.specs.Layout.{capacity_at, used_at, rows_at, records_at, own_at, broadcast_at, first_at, sent_at, last_at, interface_part}
use Rattle.table_layout.specs.Interfaces.{InterfaceRow, decode_interface, sent_tests}
use Rattle.table_layout.specs.Cells.{settings_in, interfaces_in, config_in, sends_in, decode, unused_interfaces, well_formed}
use Rattle.table_settings.specs.Check.{head_ok, interface_row_tests, interface_row_ok, interfaces_ok}
use Rattle.table_layout.specs.Facts.{Sized}
use Rattle.table_layout.proofs.Interfaces.{number_ok, sends_pass, sends-numbers}
use Rattle.table_layout.proofs.Encoding.{sent-rows, free_interfaces, holds, cells-size, used-length, rows_few, records-few}

-- ---- the head

-- what is left of it once the settings are read
abbrev rest : List ℕ → Settings → Bool
rest c σ =
    within 1 interface_most (get_or c used_at 0)
    && (leb (get_or c rows_at 0) neighbour_most && (leb (get_or c records_at 0) σ.capacity && eqb (length c) (table_head + σ.capacity * record_cells)))

-- the settings decide first
pub head_by : (c : List ℕ) (σ : Settings) → σ ≡ settings_in c → (b : Bool) → settings_ok σ ≡ b → head_ok c ≡ b && rest c σ
unfolding head_ok cells_needed
head_by c σ e b k = ap (λ (x : Settings). settings_ok x && rest c x) (sym e) ∙ ap (λ (x : Bool). x && rest c σ) k

-- ---- an interface row

-- the check of a row: its interface, whether it has sent, and its last number
pub row-tests : (row : List ℕ) → interface_row_ok row ≡ true → (and (interface_tests (decode_interface row).0) ≡ true) × (and (sent_tests row) ≡ true) × (number_ok (decode_interface row) ≡ true)
unfolding decode_interface
row-tests row h =
    let t = and_at (interface_row_tests row) h in
    (both (t 0) (both (t 1) (both (t 2) refl)), both (t 3) (both (t 5) refl), go (eqb (get_or row sent_at 0) 1) (t 4))
  where
    go : (b : Bool) → is_number (get_or row last_at 0) ≡ true → maybe (cond b (some (get_or row last_at 0)) none) true is_number ≡ true
    go true t = t
    go false t = refl

pub row-passes : (row : List ℕ) → and (interface_tests (decode_interface row).0) ≡ true → and (sent_tests row) ≡ true → number_ok (decode_interface row) ≡ true → interface_row_ok row ≡ true
unfolding decode_interface
row-passes row hi hs hn =
    let ti = interface_tests (record { own = get_or row own_at 0; broadcast = get_or row broadcast_at 0; first = get_or row first_at 0 }) in
    let t = and_at (sent_tests row) hs 1 in
    both (and_at ti hi 0) (both (and_at ti hi 1) (both (and_at ti hi 2) (both (and_at (sent_tests row) hs 0) (both (go (eqb (get_or row sent_at 0) 1) hn t) (both t refl)))))
  where
    go : (b : Bool) → maybe (cond b (some (get_or row last_at 0)) none) true is_number ≡ true → b || eqb (get_or row last_at 0) 0 ≡ true → is_number (get_or row last_at 0) ≡ true
    go true n t = n
    go false n t = ap is_number (eqb-true (get_or row last_at 0) 0 t)

-- ---- well-formed cells pass these tests

module _ (c : List ℕ) (h : well_formed c ≡ true) where
  configured : allowed (config_in c) ≡ true
  unfolding decode
  configured = (holds c h).allowed

  pub head_from : head_ok c ≡ true
  unfolding head_ok cells_needed
  head_from =
      both (settings-allowed (config_in c) configured)
      (both (ap (within 1 interface_most) (sym (used-length c)) ∙ number-allowed (config_in c) configured)
      (both (le-leb (get_or c rows_at 0) neighbour_most (rows_few c h)) (both (le-leb (get_or c records_at 0) (get_or c capacity_at 0) (records-few c h)) (eq-eqb (length c) (table_head + get_or c capacity_at 0 * record_cells) (cells-size c h)))))

  pub interfaces_from_lem : interfaces_ok c ≡ true
  unfolding interfaces_ok decode
  interfaces_from_lem =
      let rows = rows_of interface_cells (get_or c used_at 0) (interface_part c) in
      let address : InterfaceRow → Bool = λ r. and (interface_tests r.0) in
      let a : all (λ row. address (decode_interface row)) rows ≡ true = sym (all_map decode_interface address rows) ∙ sym (all_map (λ (r : InterfaceRow). r.0) (λ x. and (interface_tests x)) (interfaces_in c)) ∙ each-allowed (config_in c) configured in
      let n : all (λ row. number_ok (decode_interface row)) rows ≡ true = sym (all_map decode_interface number_ok rows) ∙ sends-numbers (config_in c) 0 (interfaces_in c) (holds c h).sends in
      let each = all_weaken _ interface_row_ok (λ row k. passes row k) rows (all_meet _ _ _ (λ row g k. both g k) rows a (all_meet _ _ _ (λ row g k. both g k) rows (sent-rows c h) n)) in
      both (both each (free_interfaces c h)) (own-differ (config_in c) configured)
    where
      passes : (row : List ℕ) → and (interface_tests (decode_interface row).0) && (and (sent_tests row) && number_ok (decode_interface row)) ≡ true → interface_row_ok row ≡ true
      passes row k =
          let x = and (interface_tests (decode_interface row).0) in
          let y = and (sent_tests row) in
          let z = number_ok (decode_interface row) in
          row-passes row (and_left x (y && z) k) (and_left y z (and_right x (y && z) k)) (and_right y z (and_right x (y && z) k))

-- ---- and cells that pass them have allowed settings and interfaces

-- what the head tells
pub head_sized : (c : List ℕ) → head_ok c ≡ true → Sized c
unfolding head_ok cells_needed
head_sized c h =
    let σ = settings_in c in
    let used = within 1 interface_most (get_or c used_at 0) in
    let rows = leb (get_or c rows_at 0) neighbour_most in
    let records = leb (get_or c records_at 0) (get_or c capacity_at 0) in
    let size = eqb (length c) (table_head + get_or c capacity_at 0 * record_cells) in
    let a = and_right (settings_ok σ) (used && (rows && (records && size))) h in
    let b = and_right used (rows && (records && size)) a in
    let d = and_right rows (records && size) b in
    let s = and_left (settings_ok σ) (used && (rows && (records && size))) h in
    let u = and_left used (rows && (records && size)) a in
    record {
      size = eqb-true (length c) (table_head + get_or c capacity_at 0 * record_cells) (and_right records size d);
      capacity = capacity-most σ s;
      window-least = window-least σ s;
      window-most = window-most σ s;
      timeout = timeout-most σ s;
      purge = purge-most σ s;
      tie = tie-most σ s;
      used-least = within_low 1 interface_most (get_or c used_at 0) u;
      used-most = within-high 1 interface_most (get_or c used_at 0) u;
      rows = leb-true (get_or c rows_at 0) neighbour_most (and_left rows (records && size) b);
      records = leb-true (get_or c records_at 0) (get_or c capacity_at 0) (and_left records size d);
    }

-- too few cells for any table
pub head_short : (c : List ℕ) → length c < table_head → head_ok c ≡ false
head_short c h = fails (head_ok c) false (λ k. let e = (head_sized c k).size in absurd (omega arith)) refl

module _ (c : List ℕ) (hd : head_ok c ≡ true) (hi : interfaces_ok c ≡ true) where
  abbrev rows : List (List ℕ)
  rows = rows_of interface_cells (get_or c used_at 0) (interface_part c)

  -- the parts of the interfaces' test
  pub each-interface : all interface_row_ok rows ≡ true
  unfolding interfaces_ok
  each-interface = and_left (all interface_row_ok rows) _ (and_left _ (differ (own_addresses (config_in c))) hi)

  pub unused-interfaces : all_zero (unused_interfaces c) ≡ true
  unfolding interfaces_ok
  unused-interfaces = and_right (all interface_row_ok rows) _ (and_left _ (differ (own_addresses (config_in c))) hi)

  differs : differ (own_addresses (config_in c)) ≡ true
  unfolding interfaces_ok
  differs = and_right (all interface_row_ok rows && all_zero (unused_interfaces c)) _ hi

  pub configured_by : allowed (config_in c) ≡ true
  unfolding head_ok
  configured_by =
      let u = (head_sized c hd).used-least in
      let m = (head_sized c hd).used-most in
      let e = used-length c in
      let n = length (config_in c).interfaces in
      let i : all (λ x. and (interface_tests x)) (config_in c).interfaces ≡ true =
      all_map (λ (r : InterfaceRow). r.0) (λ x. and (interface_tests x)) (interfaces_in c) ∙ all_map decode_interface (λ r. and (interface_tests r.0)) rows
      ∙ all_weaken interface_row_ok _ (λ row k. (row-tests row k).0) rows each-interface in
      allowed_by (config_in c) (and_left (settings_ok (settings_in c)) _ hd) (both (le-leb 1 n (omega arith)) (le-leb n interface_most (omega arith))) i differs

  pub sends_by : all (λ e. and (send_tests (config_in c) e)) (sends_in c) ≡ true
  sends_by =
      let e = length-map (interfaces_in c) (λ (r : InterfaceRow). r.0) in
      sends_pass (config_in c) 0 (interfaces_in c) (omega arith) (all_map decode_interface number_ok rows ∙ all_weaken interface_row_ok _ (λ row k. (row-tests row k).2) rows each-interface)
