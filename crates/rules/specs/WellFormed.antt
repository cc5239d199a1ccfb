-- RULES 5.3, "Well-formed", clause by clause, of the table as the calls read it. (That the cells are as many as the capacity needs, and
-- that unused cells are zero, belongs to the layout.)
use Rattle.std.specs.Prelude.{ℕ, ◌^◌, Bool, true, ◌||◌, not, List, [], ◌∷◌, ltb, leb, eqb, length}
use Rattle.lists.specs.Lists.{and, all}
use Rattle.lists.specs.Keyed.{has_key, rising}
use Rattle.window.specs.Window.{has_mark}
use Rattle.wire.specs.Layout.{mask_most}
use Rattle.wire.specs.Entries.{network_of, mask_of}
use Rattle.rules.specs.Settings.{Config, allowed, neighbour_most, link_most, entry_most, within, is_octet, is_address, is_number, is_time, is_in_use, is_own}
use Rattle.rules.specs.Calls.{neighbour_of, interface_of, ReceiveArgs, BurstArgs, Call, make, receive, burst, own, sweep, question, list, locate}
use Rattle.rules.specs.Rules.{Sends, has_sent}
use Rattle.rules.specs.Table.{TableRecord, TableState, row_distance}

-- a last sent number
abbrev pub send_tests : Config → ℕ × ℕ → List Bool
send_tests κ e = is_in_use κ e.0 ∷ is_number e.1 ∷ []

-- a neighbour row names an interface in use that has sent, and its distance is below B
abbrev pub row_tests : Config → Sends → ℕ × ℕ → List Bool
row_tests κ ns e =
    is_address (neighbour_of e.0)
    ∷ is_in_use κ (interface_of e.0)
    ∷ has_sent ns (interface_of e.0)
    ∷ is_number e.1
    ∷ ltb (row_distance κ ns e) κ.settings.timeout
    ∷ []

-- a link is on an interface in use, no mark lies outside the window, and it has a mark or is best
abbrev pub link_tests : Config → (best : ℕ) → ℕ × ℕ → List Bool
link_tests κ b e =
    is_address (neighbour_of e.0)
    ∷ is_in_use κ (interface_of e.0)
    ∷ ltb e.1 (2 ^ κ.settings.window)
    ∷ (has_mark e.1 || eqb e.0 b)
    ∷ []

-- an entry has a network address and a mask of at most 32
abbrev pub entry_tests : (entry : ℕ) → List Bool
entry_tests e = is_address (network_of e) ∷ leb (mask_of e) mask_most ∷ []

-- an originator is no own address and has 1 to 8 links and at most 16 entries; its time is not after the table's
abbrev pub field_tests : Config → (now : ℕ) → ℕ × TableRecord → List Bool
field_tests κ now e =
    is_address e.0
    ∷ not (is_own κ e.0)
    ∷ is_number e.1.current
    ∷ leb e.1.time now
    ∷ is_octet e.1.last_ttl
    ∷ within 1 link_most (length e.1.links)
    ∷ leb (length e.1.entries) entry_most
    ∷ []

-- its links rise strictly by the pair; exactly one is best
abbrev pub links_tests : Config → (best : ℕ) → List (ℕ × ℕ) → List Bool
links_tests κ b ls = rising ls ∷ all (λ l. and (link_tests κ b l)) ls ∷ has_key b ls ∷ []

abbrev pub entries_ok : List ℕ → Bool
entries_ok es = all (λ e. and (entry_tests e)) es

abbrev pub record_tests : Config → (now : ℕ) → ℕ × TableRecord → List Bool
record_tests κ now e = and (field_tests κ now e) ∷ and (links_tests κ e.1.best e.1.links) ∷ entries_ok e.1.entries ∷ []

-- neighbour rows rise strictly by address, then interface, originators strictly by address; no more are held than the limits allow
abbrev pub table_tests : TableState → List Bool
table_tests s =
    allowed s.config
    ∷ is_time s.time
    ∷ rising s.sends
    ∷ all (λ e. and (send_tests s.config e)) s.sends
    ∷ rising s.rows
    ∷ leb (length s.rows) neighbour_most
    ∷ all (λ e. and (row_tests s.config s.sends e)) s.rows
    ∷ rising s.records
    ∷ leb (length s.records) s.config.settings.capacity
    ∷ all (λ e. and (record_tests s.config s.time e)) s.records
    ∷ []

unfoldable pub well_formed : TableState → Bool
well_formed s = and (table_tests s)

-- what the types of the calls' arguments give, as far as the table's ranges rest on it
abbrev pub receive_types : ReceiveArgs → List Bool
receive_types r = is_address r.sender ∷ all is_octet r.packet ∷ is_time r.time ∷ []

abbrev pub burst_types : BurstArgs → List Bool
burst_types a = all is_address a.senders ∷ all is_octet a.octets ∷ is_time a.time ∷ []

abbrev pub typed : Call → Bool
typed (make a) = true
typed (receive r) = and (receive_types r)
typed (burst a) = and (burst_types a)
typed (own a) = is_time a.time
typed (sweep t) = is_time t
typed (question o) = true
typed (list o rs) = true
typed (locate a) = true
