-- Make: what it is allowed, the cells that it fills, and that the rules say so. Assumes nothing.
use mathlib.Core.Path.{◌≡◌, refl, sym, ap, ◌∙◌}
use mathlib.Core.List.{List, [], ◌∷◌, ◌++◌, map, append_assoc}
use mathlib.Core.Option.{none}
use mathlib.Core.Bool.{Bool, true, false, cond, ◌&&◌, not, and-true}
use Prim.Native.Nat.{ℕ, zero, suc, ◌+◌, ◌*◌, ◌-◌, ◌≤◌, ◌<◌}
use native.Mathlib.Omega.{arith}
use lib.Dec.{eqb}
use lib.ListN.{length, take, drop, get_or}
use lib.Seq.{length-take-le, take_at, drop-append-add}
use borrow.Author.Tests.{lt-ltb, eqb-true}
use Rattle.lists.specs.Lists.{and, all}
use Rattle.cells.specs.Area.{fit, zeros, written}
use Rattle.lists.proofs.Tests.{and_left, and_right, both, and_at}
use Rattle.cells.proofs.Areas.{fit-zeros, drop-zeros, zeros-append, length-area}
use Rattle.cells.proofs.Trips.{map-take}
use Rattle.window.specs.Window.{numbers}
use Rattle.wire.specs.Check.{given}
use Rattle.rules.specs.declared.Settings.{Settings}
use Rattle.rules.specs.declared.Interface.{Interface}
use Rattle.rules.specs.Settings.{addresses, MakeArgs, config_of, interface_tests, settings_ok, allowed, make_tests, make_allowed, cells_needed, head_cells, interface_area_cells, neighbour_area_cells, table_head, record_cells, interface_most, interface_cells, capacity_most, within, differ, own_addresses}
use Rattle.rules.specs.Calls.{make, answered, made, refusal}
use Rattle.rules.specs.Rules.{OutcomeOf, unless, refuse, begin, fresh, step}
use Rattle.rules.specs.Table.{table}
use Rattle.rules.proofs.Config.{make-allowed, within-high, allowed_by, settings-allowed, own-differ}
use Rattle.table_layout.specs.Interfaces.{rows_with, encode_interface}
use Rattle.table_layout.specs.Cells.{encode, decode}
use Rattle.table_layout.specs.Calls.{Done, call_on, Performed}
use Rattle.call_make.specs.Make.{make_args, fresh_head, fresh_rows, needed_for}
use Rattle.table_layout.proofs.Interfaces.{interface-wide}
use Rattle.table_layout.proofs.Calls.{goes_on, turned_away_lem}

-- ---- how many cells a capacity needs

pub needed_some : (capacity : ℕ) → within 1 capacity_most capacity ≡ true → table_head + capacity * record_cells ≡ needed_for capacity
unfolding needed_for cells_needed
needed_some capacity h = ap (λ (b : Bool). cond b (table_head + capacity * record_cells) 0) (sym h)

pub needed_none : (capacity : ℕ) → within 1 capacity_most capacity ≡ false → 0 ≡ needed_for capacity
unfolding needed_for cells_needed
needed_none capacity h = ap (λ (b : Bool). cond b (table_head + capacity * record_cells) 0) (sym h)

-- ---- four rows

pub four : (d : Interface) (rows : List Interface) → length rows ≡ 4 → rows ≡ get_or rows 0 d ∷ get_or rows 1 d ∷ get_or rows 2 d ∷ get_or rows 3 d ∷ []
four d [] e = let z : ◌≡◌ {A = ℕ} 0 4 = e in absurd (omega arith)
four d (a ∷ []) e = let z : ◌≡◌ {A = ℕ} 1 4 = e in absurd (omega arith)
four d (a ∷ b ∷ []) e = let z : ◌≡◌ {A = ℕ} 2 4 = e in absurd (omega arith)
four d (a ∷ b ∷ c ∷ []) e = let z : ◌≡◌ {A = ℕ} 3 4 = e in absurd (omega arith)
four d (a ∷ b ∷ c ∷ x ∷ []) e = refl
four d (a ∷ b ∷ c ∷ x ∷ y ∷ rows) e = let z : suc (suc (suc (suc (suc (length rows))))) ≡ 4 = e in absurd (omega arith)

-- in their ranges, which their types see to
pub in_range : (i : Interface) → i.own < addresses → i.broadcast < addresses → i.first < numbers → and (interface_tests i) ≡ true
in_range i o b f = both (lt-ltb i.own addresses o) (both (lt-ltb i.broadcast addresses b) (both (lt-ltb i.first numbers f) refl))

pub four_in_range : {rows : List Interface} {a b c d : Interface} → rows ≡ a ∷ b ∷ c ∷ d ∷ [] → and (interface_tests a) ≡ true → and (interface_tests b) ≡ true → and (interface_tests c) ≡ true → and (interface_tests d) ≡ true
    → all (λ i. and (interface_tests i)) rows ≡ true
four_in_range e p q r t = ap (all (λ i. and (interface_tests i))) e ∙ both p (both q (both r (both t refl)))

-- ---- what make is allowed

module _ (n : ℕ) (a : MakeArgs) where
  pub allowed-settings : make_allowed n a ≡ true → settings_ok a.settings ≡ true
  allowed-settings h = settings-allowed (config_of a) (make-allowed n a h)

  pub allowed-used : make_allowed n a ≡ true → within 1 interface_most a.used ≡ true
  unfolding make_allowed
  allowed-used h = and_at (make_tests n a) h 1

  pub allowed-differ : make_allowed n a ≡ true → differ (own_addresses (config_of a)) ≡ true
  allowed-differ h = own-differ (config_of a) (make-allowed n a h)

  pub allowed-size : make_allowed n a ≡ true → n ≡ table_head + a.settings.capacity * record_cells
  unfolding make_allowed cells_needed
  allowed-size h = eqb-true n (cells_needed a.settings.capacity) (and_at (make_tests n a) h 2)

  -- with all else allowed, the number of cells decides
  pub size_decides : length a.rows ≡ interface_most → all (λ i. and (interface_tests i)) a.rows ≡ true → settings_ok a.settings ≡ true → within 1 interface_most a.used ≡ true
      → differ (own_addresses (config_of a)) ≡ true → eqb n (table_head + a.settings.capacity * record_cells) ≡ make_allowed n a
  unfolding make_allowed cells_needed
  size_decides four ranges hs hu hd =
      let used = a.used in
      let m = within-high 1 interface_most used hu in
      let l : length (take used a.rows) ≡ used = length-take-le used a.rows (omega arith) in
      let rows : all (λ i. and (interface_tests i)) (take used a.rows) ≡ true = all_take used a.rows ranges in
      let κ : allowed (config_of a) ≡ true = allowed_by (config_of a) hs (ap (within 1 interface_most) l ∙ hu) rows hd in
      λ i. sym κ i && (sym hu i && sym (and-true (eqb n (table_head + a.settings.capacity * record_cells))) i)
    where
      all_take : (k : ℕ) (l : List Interface) → all (λ i. and (interface_tests i)) l ≡ true → all (λ i. and (interface_tests i)) (take k l) ≡ true
      all_take zero l h = refl
      all_take (suc k) [] h = refl
      all_take (suc k) (x ∷ l) h = both (and_left (and (interface_tests x)) _ h) (all_take k l (and_right (and (interface_tests x)) _ h))

-- own addresses of four rows
pub own_four : (σ : Settings) (rows : List Interface) (used : ℕ) (a b c d : Interface) → rows ≡ a ∷ b ∷ c ∷ d ∷ [] → take used (a.own ∷ b.own ∷ c.own ∷ d.own ∷ []) ≡ own_addresses (config_of (make_args σ rows used))
own_four σ rows used a b c d e = ap (λ (l : List Interface). take used (map (λ (i : Interface). i.own) l)) (sym e) ∙ sym (map-take (λ (i : Interface). i.own) used rows)

-- ---- the cells of a fresh table

-- one row more in use
pub next_row : (rows : List Interface) (d : Interface) → length rows ≡ interface_most → (i : ℕ) → i < interface_most
    → written (fresh_rows rows i) (i * interface_cells) (encode_interface (get_or rows i d, none)) ≡ fresh_rows rows (suc i)
unfolding encode_interface
next_row rows d four' i h =
    let e = four d rows four' in
    ap (λ (l : List Interface). written (fresh_rows l i) (i * interface_cells) (encode_interface (get_or l i d, none))) e
    ∙ go i h (get_or rows 0 d) (get_or rows 1 d) (get_or rows 2 d) (get_or rows 3 d) ∙ ap (λ (l : List Interface). fresh_rows l (suc i)) (sym e)
  where
    go : (i : ℕ) → i < interface_most → (a b c x : Interface)
        → written (fresh_rows (a ∷ b ∷ c ∷ x ∷ []) i) (i * interface_cells) (encode_interface (get_or (a ∷ b ∷ c ∷ x ∷ []) i d, none)) ≡ fresh_rows (a ∷ b ∷ c ∷ x ∷ []) (suc i)
    go zero h a b c x = refl
    go (suc zero) h a b c x = refl
    go (suc (suc zero)) h a b c x = refl
    go (suc (suc (suc zero))) h a b c x = refl
    go (suc (suc (suc (suc i)))) h a b c x = absurd (omega arith)

pub length-fresh : (rows : List Interface) (n : ℕ) → length (fresh_rows rows n) ≡ interface_area_cells
length-fresh rows n = length-area encode_interface interface_cells interface-wide interface_most (rows_with [] 0 (take n rows))

-- h and zeros, with f written behind h
two-written : (n : ℕ) (h f : List ℕ) → length h ≤ n → written (fit n h) (length h) f ≡ h ++ (f ++ zeros (n - length h - length f))
two-written n h f l =
    let m = n - length h in
    let d : drop (length h + length f) (h ++ zeros m) ≡ zeros (m - length f) = drop-append-add h (zeros m) (length f) ∙ drop-zeros (length f) m in
    ap (λ (c : List ℕ). written c (length h) f) (fit-zeros n m h (omega arith)) ∙ (λ i. take_at h (zeros m) (length h) refl i ++ f ++ d i) ∙ append_assoc h f (zeros (m - length f))

-- the head and zeros, the interface rows written behind the head
pub fresh_cells : (n : ℕ) (a : MakeArgs) → length a.rows ≡ interface_most → make_allowed n a ≡ true → (y z head rows : List ℕ)
    → head ≡ fresh_head a.settings a.used → rows ≡ fresh_rows a.rows a.used → y ≡ fit n head → z ≡ written y head_cells rows → z ≡ encode (fresh table (config_of a))
unfolding encode
fresh_cells n a four h y z head rows eh er ey ez =
    let k = a.settings.capacity * record_cells in
    let l = length-fresh a.rows a.used in
    let m : n - head_cells - length (fresh_rows a.rows a.used) ≡ neighbour_area_cells + k = omega (arith, allowed-size n a h) in
    let used : a.used ≡ length (take a.used a.rows) = sym (length-take-le a.used a.rows (omega (arith, within-high 1 interface_most a.used (allowed-used n a h)))) in
    ez ∙ (λ i. written ((ey ∙ ap (fit n) eh) i) head_cells (er i))
    ∙ two-written n (fresh_head a.settings a.used) (fresh_rows a.rows a.used) (omega (arith, allowed-size n a h))
    ∙ (λ i. fresh_head a.settings (used i) ++ (fresh_rows a.rows a.used ++ (ap zeros m ∙ sym (zeros-append neighbour_area_cells k)) i))

-- ---- the rules

module _ (c : List ℕ) (a : MakeArgs) where
  abbrev stepping : OutcomeOf table
  stepping = step table (length c) (decode c) (make a)

  by_done : (x : Done) → call_on c (make a) ≡ x → (d : List ℕ) → d ≡ x.cells → Performed c (make a) x.reply d
  by_done x e d ed = record { replies = ap (λ (y : Done). y.reply) (sym e); leaves = ed ∙ ap (λ (y : Done). y.cells) (sym e) }

  pub made_by : make_allowed (length c) a ≡ true → (d : List ℕ) → d ≡ encode (fresh table (config_of a)) → Performed c (make a) (answered (made 0)) d
  unfolding step unless
  made_by h =
      let s : stepping ≡ begin table a = ap (λ (b : Bool). unless (given (not b) 12) (refuse table (make a) (decode c)) (begin table a)) h in
      by_done (record { reply = answered (made 0); cells = encode (fresh table (config_of a)) }) (goes_on c (make a) h ∙ (λ i. record { reply = (s i).reply; cells = encode (s i).state }))

  pub not_made : make_allowed (length c) a ≡ false → Performed c (make a) (answered (made 12)) c
  unfolding refusal
  not_made h = by_done (record { reply = answered (made 12); cells = c }) (turned_away_lem c (make a) h) c refl
