-- The tests of a neighbour row and of a record by name, both ways: elsewhere no proof knows the place of a test, so that a further one is a field and a line here.
use Prim.Native.Nat.{ℕ, ◌≤◌}
use mathlib.Core.Path.{◌≡◌}
use mathlib.Core.Bool.{true, not}
use lib.Dec.{ltb, leb}
use lib.ListN.{length}
use native.Mathlib.Omega.{arith}
use borrow.Author.Tests.{leb-true, le-leb}
use Rattle.lists.specs.Lists.{and, all}
use Rattle.lists.specs.Keyed.{has_key, rising}
use Rattle.lists.proofs.Tests.{and_right, and_at, end, also, and-each}
use Rattle.rules.specs.Settings.{Config, link_most, entry_most, is_octet, is_address, is_number, is_in_use, is_own, within}
use Rattle.rules.specs.Calls.{neighbour_of, interface_of}
use Rattle.rules.specs.Rules.{Sends, has_sent}
use Rattle.rules.specs.Table.{TableRecord, row_distance}
use Rattle.rules.specs.WellFormed.{row_tests, link_tests, field_tests, links_tests, entries_ok, record_tests}

-- ---- a neighbour row

pub record Row (κ : Config) (ns : Sends) (e : ℕ × ℕ) : Type 0 where
  pub neighbour : is_address (neighbour_of e.0) ≡ true
  pub used : is_in_use κ (interface_of e.0) ≡ true
  pub sent : has_sent ns (interface_of e.0) ≡ true
  pub number : is_number e.1 ≡ true
  pub near : ltb (row_distance κ ns e) κ.settings.timeout ≡ true

module _ (κ : Config) (ns : Sends) (e : ℕ × ℕ) where
  pub row_parts : and (row_tests κ ns e) ≡ true → Row κ ns e
  row_parts h = let at = and_at (row_tests κ ns e) h in record { neighbour = at 0; used = at 1; sent = at 2; number = at 3; near = at 4 }

  pub row-whole : Row κ ns e → and (row_tests κ ns e) ≡ true
  row-whole p = and-each {ts = row_tests κ ns e} (also p.neighbour (also p.used (also p.sent (also p.number (also p.near end)))))

-- ---- a record, under its originator's address

pub record Entry (κ : Config) (now : ℕ) (e : ℕ × TableRecord) : Type 0 where
  pub address : is_address e.0 ≡ true
  pub few : within 1 link_most (length e.1.links) ≡ true
  pub foreign : not (is_own κ e.0) ≡ true
  pub current : is_number e.1.current ≡ true
  pub time : leb e.1.time now ≡ true
  pub ttl : is_octet e.1.last_ttl ≡ true
  pub rise : rising e.1.links ≡ true
  pub each : all (λ l. and (link_tests κ e.1.best l)) e.1.links ≡ true
  pub best : has_key e.1.best e.1.links ≡ true
  pub few_entries : leb (length e.1.entries) entry_most ≡ true
  pub entries : entries_ok e.1.entries ≡ true

module _ (κ : Config) (now : ℕ) (e : ℕ × TableRecord) where
  pub record_parts : and (record_tests κ now e) ≡ true → Entry κ now e
  record_parts h =
      let fields = and_at (field_tests κ now e) (and_at (record_tests κ now e) h 0) in
      let links = and_at (links_tests κ e.1.best e.1.links) (and_at (record_tests κ now e) h 1) in
      record {
        address = fields 0;
        foreign = fields 1;
        current = fields 2;
        time = fields 3;
        ttl = fields 4;
        few = fields 5;
        rise = links 0;
        each = links 1;
        best = links 2;
        few_entries = fields 6;
        entries = and_at (record_tests κ now e) h 2;
      }

  pub record_whole : Entry κ now e → and (record_tests κ now e) ≡ true
  record_whole p =
      let fields : and (field_tests κ now e) ≡ true = and-each (also p.address (also p.foreign (also p.current (also p.time (also p.ttl (also p.few (also p.few_entries end))))))) in
      let links : and (links_tests κ e.1.best e.1.links) ≡ true = and-each (also p.rise (also p.each (also p.best end))) in
      and-each {ts = record_tests κ now e} (also fields (also links (also p.entries end)))

  pub few-links : Entry κ now e → length e.1.links ≤ link_most
  few-links p = let n = length e.1.links in leb-true n link_most (and_right (leb 1 n) (leb n link_most) p.few)

  -- at a later time
  pub record_later : (t : ℕ) → now ≤ t → Entry κ now e → Entry κ t e
  record_later t l p =
      record {
        address = p.address;
        foreign = p.foreign;
        current = p.current;
        time = le-leb e.1.time t (let x = leb-true e.1.time now p.time in omega arith);
        ttl = p.ttl;
        rise = p.rise;
        few = p.few;
        best = p.best;
        each = p.each;
        few_entries = p.few_entries;
        entries = p.entries;
      }
