-- What a message leaves is again a record's row, so that it can be asked for its route. Assumes nothing.
use mathlib.Core.Path.{◌≡◌, refl, sym, ap, ◌∙◌, subst}
use mathlib.Core.Bool.{Bool, true, cond}
use mathlib.Core.List.{List, []}
use mathlib.Core.Option.{none, some}
use Prim.Native.Nat.{ℕ, ◌≤◌, ◌<◌}
use lib.Dec.{eqb}
use lib.ListN.{length, get_or}
use borrow.Author.Tests.{ltb-true, eq-eqb}
use Rattle.lists.specs.Lists.{maybe}
use Rattle.cells.specs.Area.{all_zero}
use Rattle.lists.specs.Keyed.{rising, put, map_values}
use Rattle.lists.proofs.Tests.{by_test, and_right}
use Rattle.lists.proofs.Rising.{rising_in, rising_out, rising-keep, rising-put, rising-map_values}
use Rattle.window.specs.Window.{numbers, count, distance, advance, shift, mark}
use Rattle.window.specs.declared.Marks.{Marks}
use Rattle.rules.specs.Messages.{Message}
use Rattle.rules.specs.declared.Policy.{Policy}
use Rattle.rules.specs.Settings.{Config, Follows, link_most, entry_most, octets, is_address}
use Rattle.rules.specs.Calls.{neighbour_of, pairs, route_by}
use Rattle.rules.specs.Rules.{sequence_of, route_of}
use Rattle.rules.specs.Table.{TableRecord, table, marks_at, is_highest, first_record, next_record}
use Rattle.rules.proofs.Counting.{sequence-lt, advance-lt}
use Rattle.table_record.specs.Record.{current_at, links_of, encode_record, decode_record, unused_links, unused_entries, Held}
use Rattle.table_record.proofs.Rows.{small-pair, length_record, record_back, unused_zero_lem}
use Rattle.table_record.proofs.Routes.{route_is}
use Rattle.count_links.specs.Links.{stays}
use Rattle.std.specs.Prelude.{Ok}
use Rattle.count_in_record.specs.Counting.{counted_fault, CountedIn}
use Rattle.count_in_record.proofs.Rows.{no_fault, first, first_is}

-- settings that a policy follows
abbrev pub some_config : Policy → Config
some_config p = record { settings = record { version = 0; window = p.window; timeout = 0; purge = 0; capacity = 0; tie = p.tie }; interfaces = [] }

pub some_follows : (p : Policy) → Follows (some_config p) p
some_follows p = record { window = refl; tie = refl }

-- the row of a record whose fields are in their ranges
held-encoded : (e : ℕ × TableRecord) → e.1.current < numbers → e.1.last_ttl < octets → length e.1.links ≤ link_most → length e.1.entries ≤ entry_most → e.1.best < pairs → rising e.1.links ≡ true → Held (encode_record e)
unfolding encode_record decode_record
held-encoded e hc ht few kept hb hr =
    record {
      size = length_record e;
      current = hc;
      ttl = ht;
      few = few;
      best = hb;
      rises = ap (λ (x : ℕ × TableRecord). rising x.1.links) (record_back e few kept) ∙ hr;
      entries = kept;
      unused = and_right (all_zero (unused_links (encode_record e))) (all_zero (unused_entries (encode_record e))) (unused_zero_lem e);
    }

-- ---- the first record

module _ (κ : Config) (m : Message) (small : m.sequence < numbers) where
  -- its only link is best
  pub first-best : eqb (first_record κ m).best m.link ≡ true
  first-best = ap (λ (x : TableRecord). eqb x.best m.link) (sym (first_is κ m small)) ∙ eq-eqb m.link m.link refl

  -- and has one mark
  pub first-route : (marks w : ℕ) → marks ≡ mark 0 0 → w ≡ κ.settings.window → route_by m.link (count marks) w ≡ route_of table κ (some (first_record κ m))
  first-route marks w em ew =
      route_is κ (first κ m small) marks w (em ∙ sym (ap (λ (t : Bool). maybe (cond t (some (mark 0 0)) none) 0 (λ v. v)) (eq-eqb m.link m.link refl))) ew
      ∙ ap (λ (x : TableRecord). route_of table κ (some x)) (first_is κ m small)

-- ---- a message of typed fields, by the link of an address

pub link-small : (l : ℕ) → is_address (neighbour_of l) ≡ true → l < pairs
link-small l link = ltb-true l pairs (small-pair l ∙ link)

module _ (κ : Config) (m : Message) (ttl : m.ttl < octets) (link : is_address (neighbour_of m.link) ≡ true) where
  next-held : (row : List ℕ) (a : ℕ) → Held row → counted_fault κ (next_record κ m (decode_record row).1) ≡ none → Held (encode_record (a, next_record κ m (decode_record row).1))
  unfolding next_record decode_record
  next-held row a h none-given =
      let few = no_fault κ (next_record κ m (decode_record row).1) none-given in
      let W = κ.settings.window in
      let c = advance W (get_or row current_at 0) (sequence_of m) in
      let d = shift W (distance c (get_or row current_at 0)) in
      let ls = map_values d (links_of row) in
      let v = mark (marks_at ls m.link) (distance c (sequence_of m)) in
      held-encoded (a, next_record κ m (decode_record row).1) (advance-lt W (get_or row current_at 0) (sequence_of m) h.current (sequence-lt m)) ttl few.0 few.1
      (by_test (λ x. x < pairs) (is_highest κ m.link v (put m.link v ls)) (λ _. link-small m.link link) (λ _. h.best))
      (rising_out (next_record κ m (decode_record row).1).links (rising-keep (stays (next_record κ m (decode_record row).1).best) (put m.link v ls) (rising-put m.link v ls (rising-map_values d (links_of row) (rising_in (links_of row) h.rises)))))

  -- counted
  pub counted-held : (v : Marks) (before after : List ℕ) → Held before → CountedIn κ m before after (Ok v) → Held after
  counted-held v before after h w = subst Held (sym w.1) (next-held before (decode_record before).0 h w.0)
