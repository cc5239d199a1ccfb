-- The check of a record is the tests of RULES 5.3 on it. Assumes nothing.
use mathlib.Core.Path.{◌≡◌, refl, sym, ap, ◌∙◌}
use mathlib.Core.List.{List, [], ◌∷◌}
use mathlib.Core.Bool.{Bool, true, false, false≢true, cond, ◌&&◌, ◌||◌, not, and-true, and_assoc, or_assoc, or-false}
use mathlib.Core.Option.{some}
use Prim.Native.Nat.{ℕ, zero, suc, ◌+◌, ◌*◌, ◌-◌, ◌/◌, ◌%◌, ◌^◌, ◌≤◌, ◌<◌}
use native.Mathlib.Nat.{sub-zero}
use native.Mathlib.Omega.{arith}
use lib.Dec.{leb, ltb, eqb}
use lib.ListN.{take, drop, get_or}
use lib.Pow.{pow_pos}
use borrow.Author.Tests.{lt-ltb, ltb-true, ltb-false, leb-true, leb-false, eq-eqb, ne_eqb}
use Rattle.std.specs.List.{list_any}
use Rattle.lists.specs.Lists.{and, all, elem, maybe}
use Rattle.lists.specs.Keyed.{lookup, has_key, rising}
use Rattle.cells.specs.Area.{all_zero, rows_of, scan}
use Rattle.lists.proofs.Tests.{and_left, and_right}
use Rattle.lists.proofs.Lists.{all_map}
use Rattle.cells.proofs.Keys.{scan-next, scan_stop, scan_end, scan_is}
use Rattle.window.specs.Window.{has_mark}
use Rattle.wire.specs.Layout.{mask_most}
use Rattle.wire.specs.Entries.{network_of, mask_of}
use Rattle.rules.specs.Settings.{Config, link_cells, interface_most, addresses}
use Rattle.rules.specs.Calls.{interface_of, pairs}
use Rattle.rules.specs.WellFormed.{link_tests, entry_tests, entries_ok, field_tests}
use Rattle.table_record.proofs.Rows.{small-pair}
use Rattle.table_record.proofs.Links.{link-key, key_cell, links_left, left-all, left_one, left-none}
use Rattle.table_record_check.specs.declared.record_limits.Limits.{Limits}
use Rattle.table_record.specs.Links.{link_in, links_from, link_at}
use Rattle.table_record.specs.Record.{address_at, best_at, links_of, entries_in, decode_record, unused_links, unused_entries, record_ok}
use Rattle.table_record_check.specs.Limits.{Describes, fields_ok, marks_ok, links_ok, links_part_ok, entry_fault, entries_part_ok}

-- an address is found among others by comparing each with it
any-sym : (a b : ℕ) → eqb a b ≡ eqb b a
any-sym a b = grind arith

pub any-elem : (a : ℕ) (xs : List ℕ) → list_any (λ y. eqb y a) xs ≡ elem a xs
any-elem a [] = refl
any-elem a (x ∷ xs) = λ i. any-sym x a i || any-elem a xs i

-- ---- a link

-- marks that are not both some and inside the window
pub marks-tests : (W marks best pair : ℕ) (some fit : Bool) → some ≡ has_mark marks → fit ≡ ltb marks (2 ^ W) → some && fit ≡ false
    → not some && eqb pair best ≡ marks_ok W best pair marks
marks-tests W marks best pair true fit es e h = sym (λ i. (sym e ∙ h) i && (sym es i || eqb pair best))
marks-tests W zero best pair false fit es e h = sym (ap (λ (b : Bool). b && eqb pair best) (lt-ltb 0 (2 ^ W) (pow_pos W)))
marks-tests W (suc m) best pair false fit es e h = absurd (false≢true (es ∙ lt-ltb 0 (suc m) (omega arith)))

-- the pair by itself, and then the marks
abbrev pub pair_ok : Limits → (low pair : ℕ) → Bool
pair_ok l low pair = leb low pair && (ltb pair pairs && ltb (pair % interface_most) l.used)

pub pair_small : (l : Limits) (low pair : ℕ) → pair_ok l low pair ≡ true → pair < pairs
pair_small l low pair h = ltb-true pair pairs (and_left (ltb pair pairs) (ltb (pair % interface_most) l.used) (and_right (leb low pair) _ h))

pub link-tests : (κ : Config) (now : ℕ) (l : Limits) → Describes κ now l → (low pair marks best : ℕ)
    → pair_ok l low pair && marks_ok l.window best pair marks ≡ leb low pair && and (link_tests κ best (pair, marks))
unfolding interface_of
link-tests κ now l d low pair marks best =
    let fit = marks_ok l.window best pair marks in
    and_assoc (leb low pair) (ltb pair pairs && ltb (pair % interface_most) l.used) fit
    ∙ ap (λ (b : Bool). leb low pair && b) (and_assoc (ltb pair pairs) (ltb (pair % interface_most) l.used) fit)
    ∙ (λ i. leb low pair && (small-pair pair i && (ltb (pair % interface_most) (d.used i) && (ltb marks (2 ^ d.window i) && sym (and-true (has_mark marks || eqb pair best)) i))))

-- ---- the links

-- a link's test, of its cells
abbrev pub row_ok : Config → ℕ → List ℕ → Bool
row_ok κ best row = and (link_tests κ best (link_in row))

-- the links from place i on, of n, where pairs below `low` are passed
abbrev pub links_from_lem : Config → (best low : ℕ) → List ℕ → (n i : ℕ) → Bool
links_from_lem κ best low part n i = scan (row_ok κ best) low (rows_of link_cells (n - i) (drop (i * link_cells) part))

module _ (κ : Config) (best low : ℕ) (part : List ℕ) (n i : ℕ) {pair marks : ℕ} (ep : pair ≡ (link_at part i).0) (em : marks ≡ (link_at part i).1)
    (t : Bool) (e : t ≡ leb low pair && and (link_tests κ best (pair, marks))) where
  key : pair ≡ get_or part (i * link_cells) 0
  key = ep ∙ key_cell part i

  here : leb low (get_or part (i * link_cells) 0) && row_ok κ best (take link_cells (drop (i * link_cells) part)) ≡ t
  here = sym (e ∙ (λ j. leb low (key j) && and (link_tests κ best (ep j, em j))))

  pub links-next : i < n → t ≡ true → links_from_lem κ best low part n i ≡ links_from_lem κ best (pair + 1) part n (i + 1)
  links-next h k =
      let left : n - i - 1 ≡ n - (i + 1) = omega arith in
      let at : i * link_cells + link_cells ≡ (i + 1) * link_cells = omega arith in
      scan-next (row_ok κ best) link_cells low part (i * link_cells) (n - i) (omega arith) (omega arith) (here ∙ k)
      ∙ (λ j. scan (row_ok κ best) (sym key j + 1) (rows_of link_cells (left j) (drop (at j) part)))

  pub links_stop : i < n → t ≡ false → links_from_lem κ best low part n i ≡ false
  links_stop h k = scan_stop (row_ok κ best) link_cells low part (i * link_cells) (n - i) (omega arith) (omega arith) (here ∙ k)

pub links_end : (κ : Config) (best low : ℕ) (part : List ℕ) (n i : ℕ) → n ≤ i → links_from_lem κ best low part n i ≡ true
links_end κ best low part n i h = scan_end (row_ok κ best) link_cells low part (i * link_cells) (n - i) (omega arith) (omega arith)

-- best is met on the way
pub has_cons : (k : ℕ) (e : ℕ × ℕ) (es : List (ℕ × ℕ)) → has_key k (e ∷ es) ≡ eqb k e.0 || has_key k es
has_cons k e es = go (eqb k e.0)
  where
    go : (b : Bool) → maybe (cond b (some e.1) (lookup k es)) false (λ v. true) ≡ b || has_key k es
    go true = refl
    go false = refl

module _ (best : ℕ) (held : Bool) (part : List ℕ) (n i : ℕ) where
  pub held_next : i < n → {pair : ℕ} → pair ≡ (link_at part i).0 → (held || eqb best pair) || has_key best (links_left n part (i + 1)) ≡ held || has_key best (links_left n part i)
  held_next h {pair} ep =
      or_assoc held (eqb best pair) (has_key best (links_left n part (i + 1)))
      ∙ ap (λ (b : Bool). held || b)
      (ap (λ (k : ℕ). eqb best k || has_key best (links_left n part (i + 1))) ep ∙ sym (ap (has_key best) (left_one n part i h) ∙ has_cons best (link_at part i) (links_left n part (i + 1))))

  pub held_end : n ≤ i → held ≡ held || has_key best (links_left n part i)
  held_end h = sym (or-false held) ∙ ap (λ (l : List (ℕ × ℕ)). held || has_key best l) (sym (left-none n part i h))

pub links-done : (κ : Config) (best : ℕ) (part : List ℕ) (n : ℕ) (t h : Bool) → t ≡ links_from_lem κ best 0 part n 0 → (t ≡ true → h ≡ has_key best (links_left n part 0)) → t && h ≡ links_ok κ best (links_from n part)
links-done κ best part n t h et eh =
    let rows = rows_of link_cells n part in
    let ls = links_from n part in
    let s : t ≡ rising ls && all (λ l. and (link_tests κ best l)) ls =
    et ∙ ap (λ (k : ℕ). scan (row_ok κ best) 0 (rows_of link_cells k part)) (sub-zero n) ∙ scan_is link_in link-key (row_ok κ best) rows
    ∙ ap (λ (b : Bool). rising ls && b) (sym (all_map link_in (λ l. and (link_tests κ best l)) rows)) in
    go t h (λ e. eh e ∙ ap (has_key best) (left-all n part)) ∙ ap (λ (b : Bool). b && has_key best ls) s
    ∙ and_assoc (rising ls) (all (λ l. and (link_tests κ best l)) ls) (has_key best ls) ∙ ap (λ (b : Bool). rising ls && (all (λ l. and (link_tests κ best l)) ls && b)) (sym (and-true (has_key best ls)))
  where
    go : (t h : Bool) → (t ≡ true → h ≡ has_key best (links_from n part)) → t && h ≡ t && has_key best (links_from n part)
    go true h eh = eh refl
    go false h eh = refl

-- ---- the entries

-- an entry without a fault passes
pub entry-tests : (e : ℕ) → eqb (entry_fault e) 0 ≡ and (entry_tests e)
unfolding network_of mask_of
entry-tests e = go (ltb (e / 256) addresses) refl (leb (e % 256) mask_most) refl
  where
    go : (a : Bool) → ltb (e / 256) addresses ≡ a → (b : Bool) → leb (e % 256) mask_most ≡ b → eqb (entry_fault e) 0 ≡ a && (b && true)
    go true p true q = eq-eqb (entry_fault e) 0 (omega (arith, ltb-true (e / 256) addresses p, leb-true (e % 256) mask_most q))
    go true p false q = ne_eqb (entry_fault e) 0 (omega (arith, leb-false (e % 256) mask_most q))
    go false p b q = ne_eqb (entry_fault e) 0 (omega (arith, ltb-false (e / 256) addresses p))

-- ---- the whole record

regroup : (l f g e y z : Bool) → l && (f && (g && (e && true)) && (y && z)) ≡ l && f && ((g && y) && (e && z))
regroup true true true true y z = refl
regroup true true true false true z = refl
regroup true true true false false z = refl
regroup true true false e y z = refl
regroup true false g e y z = refl
regroup false f g e y z = refl

-- the tests in the order in which the check makes them
pub record_tests_lem : (κ : Config) (now low : ℕ) (row : List ℕ)
    → leb low (get_or row address_at 0) && record_ok κ now row ≡ fields_ok κ now low row && (links_part_ok κ row && entries_part_ok row)
unfolding record_ok decode_record
record_tests_lem κ now low row =
    regroup (leb low (get_or row address_at 0)) (and (field_tests κ now (decode_record row))) (links_ok κ (get_or row best_at 0) (links_of row)) (entries_ok (entries_in row)) (all_zero (unused_links row)) (all_zero (unused_entries row))
