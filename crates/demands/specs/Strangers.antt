-- What a stranger can do: for any cells and any packet from any sender, refused ones among them, what stays as it was. (RULES 6)
-- `left` are the cells as `receive` leaves them, `said` is the packet's header, `link_by r` the link that it came by: its sender and interface.
-- `proofs/Strangers.antt` proves it of every call whose arguments are in the ranges of their types, which receive's contract says of each.
use Rattle.std.specs.Prelude.{ℕ, ◌<◌, ◌≡◌, ◌⊎◌, Bool, true, false, List, set}
use Rattle.std.proofs.Math.Option.{Option, some, map}
use Rattle.lists.specs.Lists.{maybe, all}
use Rattle.lists.specs.Keyed.{lookup, has_key}
use Rattle.window.specs.Window.{numbers, inside, stale}
use Rattle.wire.specs.declared.Header.{Header}
use Rattle.wire.specs.Packet.{header, hna}
use Rattle.wire.specs.Entries.{is_clean, entries_of}
use Rattle.rules.specs.Calls.{ReceiveArgs, receive, number_of, is_refusal}
use Rattle.rules.specs.Rules.{link_by, is_echo}
use Rattle.rules.specs.Table.{is_marked}
use Rattle.table_layout.specs.Layout.{time_at}
use Rattle.table_layout.specs.Cells.{config_in, sends_in, rows_in, records_in, well_formed}
use Rattle.table_layout.specs.Calls.{Done, refused, call_on}

-- originator o has a record in which the number n is marked on link l
abbrev pub is_marked_in : List ℕ → (o l n : ℕ) → Bool
is_marked_in c o l n = maybe (lookup o (records_in c)) false (λ x. is_marked (config_in c) x l n)

-- originator o has a record whose window holds the number n
abbrev pub is_inside_in : List ℕ → (o n : ℕ) → Bool
is_inside_in c o n = maybe (lookup o (records_in c)) false (λ x. inside (config_in c).settings.window x.current n)

-- originator o has a record to whose window the number n is stale
abbrev pub is_stale_in : List ℕ → (o n : ℕ) → Bool
is_stale_in c o n = maybe (lookup o (records_in c)) false (λ x. stale (config_in c).settings.window x.current n)

-- the entries that originator o's record keeps, if it has one
abbrev pub entries_in : List ℕ → (o : ℕ) → Option (List ℕ)
entries_in c o = map (λ x. x.entries) (lookup o (records_in c))

-- d is c but for the cell of the time
abbrev pub OnlyTime : (c d : List ℕ) → Type 0
OnlyTime c d = (t : ℕ) × (d ≡ set c time_at t)

abbrev pub said : ReceiveArgs → Header
said r = header r.packet

module _ (c : List ℕ) (r : ReceiveArgs) where
  abbrev pub done : Done
  done = call_on c (receive r)

  -- the refusal or the verdict
  abbrev pub number : ℕ
  number = number_of done.reply.answer

  abbrev pub left : List ℕ
  left = done.cells

  pub record Strangers : Type 0 where
    -- cells that are no well-formed table's are refused by 1 and stay as they are; and no refused packet changes a cell (RULES 8.1)
    pub unformed : well_formed c ≡ false → done ≡ refused c (receive r) 1
    pub turned_away : is_refusal number ≡ true → left ≡ c
    -- no packet changes settings, interface rows or sent numbers
    pub config : config_in left ≡ config_in c
    pub sends : sends_in left ≡ sends_in c
    -- without an echo of our last number no neighbour row is made, renewed or dropped, and so under every verdict but 22 (RULES 6.2)
    pub no_echo : is_echo (config_in c) (sends_in c) r (said r) ≡ false → rows_in left ≡ rows_in c
    pub other_verdict : (number ≡ 22 → ⊥) → rows_in left ≡ rows_in c
    -- an echo makes or renews the row of its own link alone
    pub other_rows : (l : ℕ) → (l ≡ link_by r → ⊥) → lookup l (rows_in left) ≡ lookup l (rows_in c)
    -- a message through a link without a neighbour row changes no record (RULES 6.3)
    pub unheard : has_key (link_by r) (rows_in c) ≡ false → records_in left ≡ records_in c
    -- so without an echo and without a neighbour row a packet changes no cell but the time's
    pub silent : is_echo (config_in c) (sends_in c) r (said r) ≡ false → has_key (link_by r) (rows_in c) ≡ false → OnlyTime c left
    -- a repeated packet, one whose number is inside the window and marked on its link, changes no cell but the time's (RULES 4.4)
    pub repeated : is_marked_in c (said r).originator (link_by r) (said r).sequence ≡ true → OnlyTime c left
    -- a late packet, one whose number is stale to its originator's record, changes no cell but the time's, and is not passed on, whoever sent it (RULES 6.3)
    pub late : is_stale_in c (said r).originator (said r).sequence ≡ true → OnlyTime c left
    pub late_stops : is_stale_in c (said r).originator (said r).sequence ≡ true → number ≡ 26 → ⊥
    -- any one packet changes at most one record, that of its originator (RULES 6.4)
    pub others : (o : ℕ) → (o ≡ (said r).originator → ⊥) → lookup o (records_in left) ≡ lookup o (records_in c)
    -- and in it marks at most one number, its own on its own link: every other that is marked then was marked before, so none in a new record
    pub marks : (o l n : ℕ) → n < numbers → ((o ≡ (said r).originator) × (l ≡ link_by r) × (n ≡ (said r).sequence) → ⊥) → is_marked_in left o l n ≡ true → is_marked_in c o l n ≡ true
    -- a packet whose number is inside the window of its originator's record leaves that record's entries as they were (RULES 6.4)
    pub kept_entries : is_inside_in c (said r).originator (said r).sequence ≡ true → entries_in left (said r).originator ≡ entries_in c (said r).originator
    -- and no packet puts entries into a record but its own, all of them, into its originator's
    pub entries : (o : ℕ) → (entries_in left o ≡ entries_in c o) ⊎ ((o ≡ (said r).originator) × (entries_in left o ≡ some (entries_of (hna r.packet))))
    -- nor any with host bits: where a record's entries have changed, none has (RULES 3.5)
    pub clean : (o : ℕ) → (entries_in left o ≡ entries_in c o → ⊥) → maybe (entries_in left o) true (all is_clean) ≡ true
