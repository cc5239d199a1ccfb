-- The lookup's scan in table order, with the best of the entries seen so far.
use Rattle.std.specs.Prelude.{ℕ, ◌+◌, ◌-◌, ◌≤◌, ◌<◌, ◌≡◌, true, cond, ◌&&◌, List, [], ◌∷◌, leb, eqb, length, get_or}
use Rattle.wire.specs.Layout.{mask_most}
use Rattle.wire.specs.Entries.{network_of, mask_of}
use Rattle.rules.specs.declared.Located.{Located}
use Rattle.rules.specs.Settings.{addresses, entry_most, record_cells}
use Rattle.rules.specs.Calls.{located_as}
use Rattle.rules.specs.Lookup.{covers}
use Rattle.rules.specs.WellFormed.{entries_ok}
use Rattle.table_record.specs.Record.{address_at, entries_at, entries_in}
use Rattle.call_lookup.specs.declared.Best.{Best}

-- what is known of an entry in a well-formed table
pub record IsEntry (e : ℕ) : Type 0 where
  pub network : network_of e < addresses
  pub mask : mask_of e ≤ mask_most

-- and of the cells of a record
pub record HoldsEntries (row : List ℕ) : Type 0 where
  pub size : length row ≡ record_cells
  pub address : get_or row address_at 0 < addresses
  pub few : get_or row entries_at 0 ≤ entry_most
  pub entries : entries_ok (entries_in row) ≡ true

abbrev pub none_seen : Best
none_seen = record { least = 0; originator = 0; network = 0 }

-- the best once an entry of an originator is seen: it is replaced only by one with a longer mask
unfoldable pub seen_one : (address originator entry : ℕ) → Best → Best
seen_one a o e b = cond (leb b.least (mask_of e) && covers a e) (record { least = mask_of e + 1; originator = o; network = network_of e }) b

-- once an originator's entries are seen
abbrev pub seen_by : (address originator : ℕ) → List ℕ → Best → Best
seen_by a o [] b = b
seen_by a o (e ∷ es) b = seen_by a o es (seen_one a o e b)

-- once those of all originators are seen
abbrev pub seen_all : (address : ℕ) → List (ℕ × List ℕ) → Best → Best
seen_all a [] b = b
seen_all a (x ∷ xs) b = seen_all a xs (seen_by a x.0 x.1 b)

-- the answer that the best gives
abbrev pub located_at : Best → Located
located_at b = cond (eqb b.least 0) (located_as 0 0 0 0 0) (located_as 0 1 b.originator b.network (b.least - 1))
