-- A record's row: what counting writes is the encoding of what the rules count. Assumes nothing.
use mathlib.Core.Path.{◌≡◌, refl, sym, ap, ◌∙◌, subst}
use mathlib.Core.List.{List, [], ◌∷◌, ◌++◌, append-nil}
use mathlib.Core.Bool.{Bool, true, false, cond, ◌||◌}
use mathlib.Core.Option.{Option, none, some}
use Prim.Native.Nat.{ℕ, ◌*◌, ◌%◌, ◌≤◌, ◌<◌}
use native.Mathlib.Nat.{mod-eq_of_lt}
use native.Mathlib.Omega.{arith}
use lib.Dec.{ltb, eqb}
use borrow.Author.Tests.{ltb-false, lt-ltb, le-ltb}
use lib.ListN.{length, take, drop, set, get_or, length-set, length-drop}
use lib.Seq.{take_all, take_at, length-take-le, get_or-set_same}
use borrow.Rule.Slice.PartMut.{put_mid}
use Rattle.lists.specs.Lists.{keep, maybe}
use Rattle.lists.specs.Keyed.{put, map_values}
use Rattle.lists.proofs.Tests.{by_test, cond_ap, cond_same}
use Rattle.lists.proofs.Keyed.{length-map_values, lookup-put, lookup-kept}
use Rattle.cells.specs.Area.{fit}
use Rattle.cells.proofs.Areas.{length-fit, take-fit, length-rows}
use Rattle.cells.proofs.Lent.{cells_from_lem}
use Rattle.window.specs.declared.Position.{Position}
use Rattle.window.specs.Window.{numbers, distance, position, is_new, is_stale, new, stale, current_by, advance, shift, mark, count}
use Rattle.window.specs.Marks.{word_of}
use Rattle.window.proofs.Numbers.{distance_self}
use Rattle.wire.specs.Check.{numbered, entries}
use Rattle.wire.specs.Entries.{entries_of}
use Rattle.rules.specs.Messages.{Message}
use Rattle.rules.specs.declared.Policy.{Policy}
use Rattle.rules.specs.Settings.{Config, Follows, link_most, entry_most, link_cells, record_head_cells, link_area_cells, entry_area_cells, record_cells}
use Rattle.rules.specs.Rules.{sequence_of, counted_faults}
use Rattle.rules.specs.Table.{TableRecord, table, marks_at, is_highest, first_record, next_record}
use Rattle.rules.proofs.Counting.{advance-inside}
use Rattle.rules.proofs.Faults.{none-at, not-given}
use Rattle.table_record.specs.Links.{link_row, link_area, links_from}
use Rattle.table_record.specs.Record.{address_at, current_at, time_at, last_ttl_at, links_at, best_at, entries_at, links_part, links_of, entries_part, entries_in, encode_record, decode_record, Held}
use Rattle.table_record.proofs.Rows.{entries-last, entries_trip}
use Rattle.count_best_link.specs.declared.Step.{Step}
use Rattle.count_entries.specs.Entries.{kept_in}
use Rattle.count_best_link.specs.BestLink.{Links, moved, chosen}
use Rattle.count_links.specs.declared.Left.{Left}
use Rattle.count_links.specs.Links.{stays, scratch_cells, Built, Recounted}
use Rattle.count_links.proofs.Cells.{cells_of}
use Rattle.count_links.proofs.Places.{mark_has}
use Rattle.std.specs.Prelude.{Ok, Err}
use Rattle.wire.specs.declared.refusals.Refusal.TheVariants.{LinksFull, EntriesFull}
use Rattle.count_in_record.specs.Counting.{counted_fault, CountedIn}

-- five fields set, and the cells of the links lent
module _ (row : List ℕ) (a b c d e : ℕ) (h : length row ≡ record_cells) where
  abbrev fields : List ℕ → List ℕ
  fields l = set (set (set (set (set l current_at a) time_at b) last_ttl_at c) links_at d) best_at e

  abbrev lent : List ℕ
  lent = take link_area_cells (drop record_head_cells (fields row))

  pub lent-size : length lent ≡ link_area_cells
  lent-size =
      let size : length (fields row) ≡ record_cells = simp length-set h in
      length-take-le link_area_cells (drop record_head_cells (fields row)) (rw (length-drop record_head_cells (fields row)) (omega arith))

  -- they come back with the links and zeros
  pub store_cells : (ys links : List ℕ) → ys ≡ fit (length lent) links
      → put_mid record_head_cells link_area_cells (fields row) ys ≡ get_or row address_at 0 ∷ a ∷ b ∷ c ∷ d ∷ e ∷ get_or row entries_at 0 ∷ (fit link_area_cells links ++ entries_part row)
  store_cells ys links k =
      ap (λ (l : List ℕ). take record_head_cells (fields l) ++ (ys ++ drop link_area_cells (drop record_head_cells (fields l)))) (cells_from_lem address_at record_head_cells row (omega arith))
      ∙ (λ i. get_or row address_at 0 ∷ a ∷ b ∷ c ∷ d ∷ e ∷ get_or row entries_at 0 ∷ ((k ∙ ap (λ (n : ℕ). fit n links) lent-size) i ++ sym (entries-last row h) i))

-- a row whose fields and links were just written, once it keeps entries
pub kept_stored : (a b c d e g k : ℕ) (ls es hna : List ℕ) → length ls ≡ link_area_cells
    → kept_in (a ∷ b ∷ c ∷ d ∷ e ∷ g ∷ k ∷ (ls ++ es)) hna ≡ a ∷ b ∷ c ∷ d ∷ e ∷ g ∷ entries hna ∷ (ls ++ fit entry_area_cells (entries_of hna))
kept_stored a b c d e g k ls es hna h = ap (λ (l : List ℕ). a ∷ b ∷ c ∷ d ∷ e ∷ g ∷ entries hna ∷ (l ++ fit entry_area_cells (entries_of hna))) (take_at ls es link_area_cells h)

-- ---- a scratch with nothing left to come

module _ {out : List ℕ} {m : ℕ} {goal : Links} (b : Built out m [] goal) where
  all_there : b.links ≡ goal
  all_there = sym (append-nil b.links) ∙ b.joined

  done-size : m ≡ length goal
  done-size = b.size ∙ ap length all_there

  done-cells : out ≡ fit (length out) (cells_of goal)
  done-cells = b.cells ∙ ap (λ (l : Links). fit (length out) (cells_of l)) all_there

  -- the cells of its links, and zeros behind them, are those of a record's links
  done-links : m * link_cells ≤ length out → fit (link_most * link_cells) (take (m * link_cells) out) ≡ link_area link_most goal
  unfolding link_row
  done-links h =
      let size : m * link_cells ≡ length (cells_of goal) = ap (λ (k : ℕ). k * link_cells) done-size ∙ sym (length-rows link_row link_cells (λ l. refl) goal) in
      ap (λ (c : List ℕ). fit (link_most * link_cells) (take (m * link_cells) c)) done-cells
      ∙ ap (fit (link_most * link_cells)) (take-fit (m * link_cells) (length out) (cells_of goal) h (omega (arith, size)) ∙ take_all (m * link_cells) (cells_of goal) (omega (arith, size)))

-- ---- what is refused of a record

module _ (κ : Config) (y : TableRecord) where
  pub fault_11 : link_most < length y.links → counted_fault κ y ≡ some (numbered 11)
  fault_11 h = rw (length-map_values count y.links, lt-ltb link_most (length y.links) h)

  pub fault_15 : length y.links ≤ link_most → entry_most < length y.entries → counted_fault κ y ≡ some (numbered 15)
  fault_15 h k = rw (length-map_values count y.links, le-ltb link_most (length y.links) h, lt-ltb entry_most (length y.entries) k)

  pub fault_none : length y.links ≤ link_most → length y.entries ≤ entry_most → counted_fault κ y ≡ none
  fault_none h k = rw (length-map_values count y.links, le-ltb link_most (length y.links) h, le-ltb entry_most (length y.entries) k)

  -- and where nothing is
  pub no_fault : counted_fault κ y ≡ none → (length y.links ≤ link_most) × (length y.entries ≤ entry_most)
  no_fault h =
      let at = none-at (counted_faults table κ y) h in (
        omega (arith, ltb-false link_most (length (map_values count y.links)) (not-given (ltb link_most (length (map_values count y.links))) 11 (at 0)), length-map_values count y.links),
        ltb-false entry_most (length y.entries) (not-given (ltb entry_most (length y.entries)) 15 (at 1)),
      )

-- ---- the next record

pub number_is : (m : Message) → m.sequence < numbers → m.sequence ≡ sequence_of m
number_is m h = sym (mod-eq_of_lt h)

-- what the code knows: the current number that it computed and how far that lies above the old one and the message's, and the part of the row that it lent
module _ (κ : Config) (row : List ℕ) (m : Message) {p : Policy} (f : Follows κ p) (small : m.sequence < numbers) {part : List ℕ} {next up below : ℕ}
    (en : next ≡ advance p.window (get_or row current_at 0) m.sequence) (eu : up ≡ distance next (get_or row current_at 0)) (eb : below ≡ distance next m.sequence) (el : part ≡ links_part row) where
  abbrev step : Step
  step = record { policy = p; up = up; below = below }

  abbrev after : TableRecord
  after = next_record κ m (decode_record row).1

  abbrev current : ℕ
  current = advance κ.settings.window (get_or row current_at 0) (sequence_of m)

  current_is : next ≡ current
  current_is = en ∙ (λ i. advance (f.window i) (get_or row current_at 0) (number_is m small i))

  below_is : below ≡ distance current (sequence_of m)
  below_is = eb ∙ (λ i. distance (current_is i) (number_is m small i))

  abbrev ls : Links
  ls = moved step (get_or row links_at 0) part

  links-held : ls ≡ map_values (shift κ.settings.window (distance current (get_or row current_at 0))) (links_of row)
  links-held = λ i. map_values (shift (f.window i) ((eu ∙ ap (λ (x : ℕ). distance x (get_or row current_at 0)) current_is) i)) (links_from (get_or row links_at 0) (el i))

  -- the entries: the message's where its number is new, else those that are kept
  entries_are : {replaced : Bool} → replaced ≡ new p.window (get_or row current_at 0) m.sequence → after.entries ≡ cond replaced m.entries (entries_in row)
  unfolding next_record decode_record
  entries_are e =
      (λ i. cond (new (sym f.window i) (get_or row current_at 0) (sym (number_is m small) i)) m.entries (entries_in row)) ∙ ap (λ (t : Bool). cond t m.entries (entries_in row)) (sym e)

  module _ {out : List ℕ} {left : Left} (g : Recounted out left step m.link (get_or row best_at 0) ls) where
    best_is : left.best ≡ after.best
    unfolding next_record decode_record
    best_is =
        g.chose κ f
        ∙ (λ i. chosen κ m.link (mark (marks_at (links-held i) m.link) (below_is i)) (get_or row best_at 0) (put m.link (mark (marks_at (links-held i) m.link) (below_is i)) (links-held i)))

    links_are : Built out left.links [] after.links
    unfolding next_record decode_record
    links_are = subst (Built out left.links []) (λ i. keep (stays (best_is i)) (put m.link (mark (marks_at (links-held i) m.link) (below_is i)) (links-held i))) g.links

    -- this link has a mark, and so stays
    marks_are : word_of left.marks ≡ marks_at after.links m.link
    unfolding next_record decode_record
    marks_are =
        let v = mark (marks_at ls m.link) below in
        let stayed = lookup-kept (stays left.best) m.link v (ap (λ (t : Bool). t || eqb m.link left.best) (mark_has (marks_at ls m.link) below)) (put m.link v ls) (lookup-put m.link v ls) in
        g.marks ∙ sym (ap (λ (o : Option ℕ). maybe o 0 (λ x. x)) stayed)
        ∙ (λ i. marks_at (keep (stays (best_is i)) (put m.link (mark (marks_at (links-held i) m.link) (below_is i)) (links-held i))) m.link)

    -- 11: too many links
    pub counted_11 : link_most < left.links → CountedIn κ m row row (Err LinksFull)
    counted_11 h = (fault_11 κ after (omega (arith, done-size links_are)), refl)

    module _ (few : left.links ≤ link_most) {replaced : Bool} (er : replaced ≡ new p.window (get_or row current_at 0) m.sequence) where
      links-few : length after.links ≤ link_most
      links-few = omega (arith, done-size links_are)

      -- 15: too many entries, which would replace those that are kept
      pub counted_15 : replaced ≡ true → entry_most < length m.entries → CountedIn κ m row row (Err EntriesFull)
      counted_15 t h =
          let es : after.entries ≡ m.entries = entries_are er ∙ ap (λ (b : Bool). cond b m.entries (entries_in row)) t in
          (fault_15 κ after links-few (omega (arith, ap length es)), refl)

      module _ (held : Held row) (most : replaced ≡ true → length m.entries ≤ entry_most) where
        entries-few : length after.entries ≤ entry_most
        entries-few = subst (λ (l : List ℕ). length l ≤ entry_most) (sym (entries_are er)) (by_test (λ (l : List ℕ). length l ≤ entry_most) replaced most (λ _. omega (arith, held.entries, length-fit (get_or row entries_at 0) (entries_part row))))

        -- how many there are, and their cells
        entries-count : cond replaced (length m.entries) (get_or row entries_at 0) ≡ length after.entries
        entries-count = sym (ap length (entries_are er) ∙ cond_ap length replaced m.entries (entries_in row) ∙ ap (cond replaced (length m.entries)) (length-fit (get_or row entries_at 0) (entries_part row)))

        entries-cells : cond replaced (fit entry_area_cells m.entries) (entries_part row) ≡ fit entry_area_cells after.entries
        entries-cells =
            sym (ap (fit entry_area_cells) (entries_are er) ∙ cond_ap (fit entry_area_cells) replaced m.entries (entries_in row)
            ∙ ap (cond replaced (fit entry_area_cells m.entries)) (entries_trip row held.size held.entries held.unused))

        pub counted-now : (row2 : List ℕ) → length out ≡ scratch_cells → {n : ℕ} → n ≡ length m.entries
            → row2 ≡ get_or row address_at 0 ∷ next ∷ m.time ∷ m.ttl ∷ left.links ∷ left.best ∷ cond replaced n (get_or row entries_at 0) ∷ (fit (link_most * link_cells) (take (left.links * link_cells) out) ++ cond replaced (fit entry_area_cells m.entries) (entries_part row))
            → CountedIn κ m row row2 (Ok left.marks)
        unfolding encode_record next_record decode_record
        counted-now row2 len en e = (
          fault_none κ after links-few entries-few,
          e ∙ (λ i. get_or row address_at 0 ∷ current_is i ∷ m.time ∷ m.ttl ∷ done-size links_are i ∷ best_is i ∷ (ap (λ (k : ℕ). cond replaced k (get_or row entries_at 0)) en ∙ entries-count) i ∷ (done-links links_are (omega arith) i ++ entries-cells i)),
          marks_are,
        )

-- ---- what the code reads from where a number lies

module _ (w c n : ℕ) {q : Position} (e : q ≡ position w c n) where
  pub advance_is : {next : ℕ} → next ≡ current_by q c n → next ≡ advance w c n
  unfolding advance
  advance_is h = h ∙ ap (λ (x : Position). current_by x c n) e

  pub new_is : {t : Bool} → t ≡ is_new q → t ≡ new w c n
  unfolding new
  new_is h = h ∙ ap is_new e

  pub stale_is : stale w c n ≡ is_stale q
  unfolding stale
  stale_is = ap is_stale (sym e)

  -- a number that isn't stale lies inside the window that it leaves
  pub next_near : is_stale q ≡ false → {next k : ℕ} → 1 ≤ w → next ≡ advance w c n → k ≡ distance next n → k < w
  next_near t h en ek = subst (λ (x : ℕ). x < w) (sym (ek ∙ ap (λ (x : ℕ). distance x n) en)) (advance-inside w c n h (stale_is ∙ t))

-- ---- the first record

module _ (κ : Config) (m : Message) (small : m.sequence < numbers) where
  abbrev pub first : TableRecord
  first = record { current = m.sequence; time = m.time; last_ttl = m.ttl; best = m.link; links = (m.link, mark 0 0) ∷ []; entries = m.entries }

  pub first_is : first ≡ first_record κ m
  unfolding first_record
  first_is =
      let n : ℕ = m.sequence % numbers in
      let v : ℕ = mark 0 (distance n n) in
      let ls : Links = (m.link, v) ∷ [] in
      let best : ℕ = chosen κ m.link v m.link ls in
      let eb : best ≡ m.link = cond_same (is_highest κ m.link v ls) m.link in
      let el : keep (stays best) ls ≡ (m.link, mark 0 0) ∷ [] =
      ap (λ (t : Bool). cond (t || eqb m.link best) ls []) (mark_has 0 (distance n n)) ∙ ap (λ (k : ℕ). (m.link, mark 0 k) ∷ []) (distance_self n) in
      sym (λ i. record { current = mod-eq_of_lt small i; time = m.time; last_ttl = m.ttl; best = eb i; links = el i; entries = m.entries })

  pub first-cells : (address : ℕ) (before after : List ℕ) {links : List ℕ} {v : ℕ} → 0 < length before → length links ≡ link_cells → v ≡ mark 0 0
      → Built links 1 [] ((m.link, v) ∷ []) → {n : ℕ} → n ≡ length m.entries → after ≡ get_or (set before address_at address) address_at 0 ∷ m.sequence ∷ m.time ∷ m.ttl ∷ 1 ∷ m.link ∷ n ∷ (fit (link_most * link_cells) links ++ fit entry_area_cells m.entries)
      → after ≡ encode_record (address, first_record κ m)
  unfolding encode_record link_row
  first-cells address before after {links} {v} h len ev b en e =
      let l : fit (link_most * link_cells) links ≡ link_area link_most ((m.link, mark 0 0) ∷ []) = ap (fit (link_most * link_cells)) (done-cells b ∙ (λ i. fit (len i) (cells_of ((m.link, ev i) ∷ [])))) in
      e ∙ (λ i. get_or-set_same before address_at address 0 h i ∷ m.sequence ∷ m.time ∷ m.ttl ∷ 1 ∷ m.link ∷ en i ∷ (l i ++ fit entry_area_cells m.entries)) ∙ ap (λ (r : TableRecord). encode_record (address, r)) first_is
