-- The edges of the rules, each limit and one beyond it, as a table of rows like those of P1 to P12. (RULES 11.2)
use Rattle.std.specs.Prelude.{ℕ, zero, suc, ◌+◌, ◌-◌, ◌*◌, ◌^◌, true, false, List, [], ◌∷◌, ◌++◌, map, replicate}
use Rattle.wire.specs.Packet.{write4}
use Rattle.rules.specs.declared.Settings.{Settings}
use Rattle.rules.specs.declared.LinkRow.{LinkRow}
use Rattle.rules.specs.Settings.{newest_wins, present_stays, MakeArgs, defaults, cells_needed}
use Rattle.rules.specs.Calls.{link_of, Call, make, receive, burst, own, sweep, question, list, locate}
use Rattle.rules.specs.Rules.{fresh}
use Rattle.rules.specs.Table.{TableRecord, TableState, with_entries, table}
use Rattle.rules.specs.Examples.{Case, tests, passes, sends, checks, makes, plays, leaves, refuses, formed, address, interface, settings_by, settings, config, stage, record_with, packet, bundle, hear_all, hear, write, is_new, is_inside, is_stale, nowhere, via, heard, unheard, wrote, unwritten, total, refused, bundled, told, found, unfound, joined, Row, row}

-- ---- packets, settings and tables

abbrev pub up_from : (first n : ℕ) → List ℕ
up_from a zero = []
up_from a (suc n) = a ∷ up_from (suc a) n

-- the HNA octets of entries with these masks
abbrev pub entries_with : List ℕ → List ℕ
entries_with [] = []
entries_with (m ∷ ms) = 0 ∷ 0 ∷ 0 ∷ 0 ∷ m ∷ entries_with ms

-- the HNA octets of an entry
abbrev pub hna_entry : (network mask : ℕ) → List ℕ
hna_entry a m = write4 a ++ (m ∷ [])

-- a packet of version 4 with these HNA octets, and the check of it
abbrev pub carrying : List ℕ → List ℕ
carrying e = 4 ∷ (replicate 11 0 ++ e)

abbrev pub checked : (version : ℕ) → List ℕ → Case
checked v e = checks v (carrying e ∷ [])

-- the check of a packet with one entry for each of n masks, from the first on; its network address is what the mask gives
abbrev pub checked_by : (network : ℕ → ℕ) → (first n : ℕ) → Case
checked_by network m n = checks 4 (map (λ k. carrying (hna_entry (network k) k)) (up_from m n))

abbrev pub six : (version window timeout purge capacity tie : ℕ) → Settings
six v w b p n t = record { version = v; window = w; timeout = b; purge = p; capacity = n; tie = t }

-- make with interfaces of these own addresses, so many in use
abbrev pub make_args : Settings → (used : ℕ) → (owns : List ℕ) → MakeArgs
make_args σ n owns = record { settings = σ; rows = map (λ a. interface a (address 10 0 0 255) 1) owns; used = n }

abbrev pub tried : Settings → (used : ℕ) → (owns : List ℕ) → Case
tried σ n owns = makes (cells_needed σ.capacity) (make_args σ n owns)

-- make with one interface row
abbrev pub tried_row : (own broadcast first : ℕ) → Case
tried_row a b n = makes (cells_needed 64) (record { settings = defaults; rows = interface a b n ∷ []; used = 1 })

-- W is 8; neighbours 20, 28 and 30 have rows; originator 900 has these links, by neighbour, and no other is held
abbrev pub held_by : (tie capacity current best : ℕ) → List (ℕ × List ℕ) → TableState
held_by t n c b ls = stage (settings_by t 8 32 n) (20 ∷ 28 ∷ 30 ∷ []) ((900, record_with 8 c b 0 ls) ∷ [])

abbrev pub held : (capacity current best : ℕ) → List (ℕ × List ℕ) → TableState
held = held_by newest_wins

abbrev pub empty : TableState
empty = stage (settings 8 32 64) (20 ∷ []) []

-- one link, with mark 10, counted at time 0 with TTL 50
abbrev pub single : TableState
single = held 64 10 20 ((20, 10 ∷ []) ∷ [])

-- other settings than the stage's: version 7, W is 3, the purge timeout 5; neighbour 20's link has marks 9 and 10
abbrev pub other : TableState
other = stage (six 7 3 32 5 64 newest_wins) (20 ∷ []) ((900, record_with 3 10 20 0 ((20, 9 ∷ 10 ∷ []) ∷ [])) ∷ [])

-- B is 2, and the row of neighbour 20 stands at distance 1
abbrev pub aged : TableState
aged = record { config = config (settings 8 2 64); time = 0; sends = (0, 5) ∷ []; rows = (link_of 20 0, 4) ∷ []; records = [] }

-- so many neighbour rows, from neighbour 20 on
abbrev pub crowd : ℕ → TableState
crowd n = stage (settings 8 32 64) (up_from 20 n) []

-- an echo of the first interface's last packet
abbrev pub echoed : List ℕ
echoed = packet (address 10 0 0 1) 64 50 5

-- links whose counts are 2 and 1; and 1, 1 and 2
abbrev pub level : List (ℕ × List ℕ)
level = (20, 9 ∷ 10 ∷ []) ∷ (30, 9 ∷ []) ∷ []

abbrev pub third : List (ℕ × List ℕ)
third = (20, 10 ∷ []) ∷ (30, 9 ∷ []) ∷ (40, 9 ∷ 10 ∷ []) ∷ []

-- eight links: neighbour 20's marks, neighbour 21's, and six with mark 10
abbrev pub eight : (best : ℕ) → (first second : List ℕ) → TableState
eight b xs ys = held 64 10 b ((20, xs) ∷ (21, ys) ∷ map (λ a. (a, 10 ∷ [])) (up_from 22 6))

-- an OGM of originator 900, relayed, with every field and an HNA entry
abbrev pub relayed : List ℕ
relayed = 4 ∷ 69 ∷ 50 ∷ 7 ∷ 0 ∷ 10 ∷ 1 ∷ 2 ∷ 0 ∷ 0 ∷ 3 ∷ 132 ∷ 1 ∷ 2 ∷ 3 ∷ 4 ∷ 30 ∷ []

-- tables with these numbers sent, neighbour rows, records; with one record of these fields
abbrev pub sent_rows : List (ℕ × ℕ) → List (ℕ × ℕ) → TableState
sent_rows ns rs = record { config = config (settings 8 32 64); time = 0; sends = ns; rows = rs; records = [] }

abbrev pub records : (capacity : ℕ) → List (ℕ × TableRecord) → TableState
records n es = stage (settings 8 32 n) [] es

abbrev pub fields : (current time ttl best : ℕ) → (links : List (ℕ × ℕ)) → TableState
fields c t l b ls = records 64 ((900, record { current = c; time = t; last_ttl = l; best = b; links = ls; entries = [] }) ∷ [])

-- two links through neighbour 20, one by each interface; the second's is best
abbrev pub double : TableState
double = fields 10 0 50 (link_of 20 1) ((link_of 20 0, 3) ∷ (link_of 20 1, 1) ∷ [])

-- a fresh table whose interfaces have these own addresses
abbrev pub owning : List ℕ → TableState
owning owns = fresh table (record { settings = settings 8 32 64; interfaces = map (λ a. interface a (address 10 0 0 255) 1) owns })

-- a record with one link, with mark 10
abbrev pub one : TableRecord
one = record_with 8 10 20 0 ((20, 10 ∷ []) ∷ [])

-- an OGM with number 11, of these low octets of its originator, and its copy on a link with a row
abbrev pub eleven : (low : ℕ) → List ℕ
eleven n = packet (768 + n) 0 50 11

abbrev pub eleven_passed : (low : ℕ) → List ℕ
eleven_passed n = 4 ∷ 0 ∷ 49 ∷ 0 ∷ 0 ∷ 11 ∷ 0 ∷ 0 ∷ 0 ∷ 0 ∷ 3 ∷ n ∷ []

-- an entry as a record keeps it
abbrev pub kept : (network mask : ℕ) → ℕ
kept a m = a * 256 + m

-- these originators keep these entries each, and neighbours 20, 28 and 30 have rows
abbrev pub announcing : List (ℕ × List ℕ) → TableState
announcing xs = stage (settings 8 32 64) (20 ∷ 28 ∷ 30 ∷ []) (map (λ (e : ℕ × List ℕ). (e.0, with_entries e.1 one)) xs)

-- originator 900 keeps one entry
abbrev pub alone : (network mask : ℕ) → TableState
alone a m = announcing ((900, kept a m ∷ []) ∷ [])

-- originator 900 keeps the network 10.0.0.0 with mask 8
abbrev pub keeper : TableState
keeper = alone (address 10 0 0 0) 8

-- an OGM of originator 900 with number n and these HNA octets
abbrev pub brings : (n : ℕ) → (hna : List ℕ) → List ℕ
brings n e = packet 900 0 50 n ++ e

-- the HNA octets of an entry, the network 11.0.0.0 with mask 8, and those of the same entry so many times
abbrev pub entry_eleven : List ℕ
entry_eleven = 11 ∷ 0 ∷ 0 ∷ 0 ∷ 8 ∷ []

abbrev pub repeated : ℕ → List ℕ
repeated n = joined (replicate n entry_eleven)

-- the lookup of an address in the network 10.0.0.0
abbrev pub in_ten : Call
in_ten = locate (address 10 1 2 3)

abbrev pub blank : LinkRow
blank = record { neighbour = 9; interface = 9; count = 9; window = 9; best = 0 }

-- calls one after the other, and the answers that are due
abbrev pub play : TableState → List Call → List (List ℕ) → Row
play s cs xs = row (plays s cs) (joined xs)

-- ---- the table

unfoldable pub edges : List Row
edges =
    -- 5: 1,472 and 1,473 octets, 11 and 12
    row (checked 4 (replicate 1460 0)) (0 ∷ [])
    ∷ row (checked 4 (replicate 1461 0)) (5 ∷ [])
    ∷ row (checks 4 ((4 ∷ replicate 10 0) ∷ [])) (5 ∷ [])
    ∷ row (checked 4 []) (0 ∷ [])
    -- 6, 7, and 8 with the first bad place; the lower number first
    ∷ row (checked 5 []) (6 ∷ [])
    ∷ row (checked 4 (replicate 4 0)) (7 ∷ [])
    ∷ row (checked 4 (entries_with (32 ∷ []))) (0 ∷ [])
    ∷ row (checked 4 (entries_with (33 ∷ []))) (8 ∷ [])
    ∷ row (checked 4 (entries_with (0 ∷ 32 ∷ 33 ∷ 255 ∷ []))) (520 ∷ [])
    ∷ row (checks 5 ((4 ∷ replicate 10 0) ∷ [])) (5 ∷ [])
    ∷ row (checked 5 (replicate 4 0)) (6 ∷ [])
    ∷ row (checked 4 (entries_with (33 ∷ []) ++ (0 ∷ []))) (7 ∷ [])
    -- 16 of every mask: the lowest host bit alone, the highest alone; 0: the lowest bit of the network alone (of mask 32 that of the address), address 0 with mask 0
    ∷ row (checked_by (λ m. 1) 0 32) (replicate 32 16)
    ∷ row (checked_by (λ m. 2 ^ (31 - m)) 0 32) (replicate 32 16)
    ∷ row (checked_by (λ m. 2 ^ (32 - m)) 1 32) (replicate 32 0)
    ∷ row (checked 4 (hna_entry 0 0)) (0 ∷ [])
    -- each octet of the address has host bits; the first such place; after 6, 7 and 8, wherever the wrong mask stands
    ∷ row (checks 4 (map (λ a. carrying (hna_entry a 4)) (address 1 0 0 0 ∷ address 0 1 0 0 ∷ address 0 0 1 0 ∷ []))) (16 ∷ 16 ∷ 16 ∷ [])
    ∷ row (checked 4 (joined (hna_entry (address 10 1 0 0) 16 ∷ hna_entry (address 10 1 0 7) 16 ∷ hna_entry 1 0 ∷ []))) (272 ∷ [])
    ∷ row (checked 5 (hna_entry 1 0)) (6 ∷ [])
    ∷ row (checked 4 (hna_entry 1 0 ++ (0 ∷ []))) (7 ∷ [])
    ∷ row (checked 4 (hna_entry 1 0 ++ hna_entry 0 33)) (264 ∷ [])
    ∷ row (checked 4 (hna_entry 0 33 ++ hna_entry 1 0)) (8 ∷ [])
    ∷ row (checked 4 (hna_entry 1 33)) (8 ∷ [])
    -- the same of a received packet, before every verdict and before 9, 10, 11 and 15; it changes nothing
    ∷ play empty (hear 20 0 0 27 (brings 10 (joined (hna_entry 0 0 ∷ hna_entry 1 31 ∷ hna_entry 1 0 ∷ []))) ∷ hear 20 0 0 22 (brings 10 (hna_entry 1 0 ++ hna_entry 0 33)) ∷ []) (unheard 16 1 ∷ unheard 8 1 ∷ [])
    ∷ play empty (hear (address 10 0 0 1) 0 0 17 (brings 10 (hna_entry 1 0)) ∷ []) (unheard 16 0 ∷ [])
    ∷ play (crowd 32) (hear 99 0 0 17 (echoed ++ hna_entry 1 0) ∷ []) (unheard 16 0 ∷ [])
    ∷ play (held 1 10 20 ((20, 10 ∷ []) ∷ [])) (hear 20 0 0 17 (packet 901 0 50 11 ++ hna_entry 1 0) ∷ []) (unheard 16 0 ∷ [])
    ∷ play (eight 20 (3 ∷ []) (9 ∷ 10 ∷ [])) (hear 28 0 0 17 (brings 11 (hna_entry 1 0)) ∷ []) (unheard 16 0 ∷ [])
    ∷ play keeper (hear 20 0 9 102 (brings 11 (repeated 17 ++ hna_entry 1 0)) ∷ sweep 8 ∷ question 900 ∷ in_ten ∷ []) (unheard 16 17 ∷ total 0 ∷ told (via 20 1) ∷ found 900 (address 10 0 0 0) 8 ∷ [])
    ∷ row (leaves empty (receive (record { packet = brings 10 (hna_entry 1 0); sender = 20; interface = 0; time = 0; output = replicate 18 9 }))) (replicate 18 9)
    -- a packet of a burst, and the next one all the same
    ∷ row (leaves single (hear_all 0 17 2 ((20, eleven 132 ++ hna_entry 1 0) ∷ (20, eleven 132) ∷ []))) (joined (eleven_passed 132 ∷ replicate 5 0 ∷ unheard 16 0 ∷ heard 26 0 (via 20 2) ∷ []))
    -- of an own packet, before 13
    ∷ play empty (write 0 0 1 22 (hna_entry 0 0 ++ hna_entry 1 0) ∷ write 0 0 50 22 (hna_entry 1 0 ++ hna_entry 0 33) ∷ write 0 0 50 22 (hna_entry 0 0 ++ hna_entry 1 32) ∷ []) (unwritten 16 1 ∷ unwritten 8 1 ∷ wrote 22 6 ∷ [])
    -- an entry with host bits that is held: found as it stands, left where the same is announced again or a number inside the window brings another, replaced by a new number
    ∷ play (alone (address 10 1 0 7) 16)
    (in_ten ∷ hear 20 0 0 17 (brings 11 (hna_entry (address 10 1 0 7) 16)) ∷ hear 30 0 0 17 (brings 10 entry_eleven) ∷ in_ten ∷ hear 20 0 0 17 (brings 11 entry_eleven) ∷ in_ten ∷ [])
    (found 900 (address 10 1 0 7) 16 ∷ unheard 16 0 ∷ heard 26 0 (via 30 1) ∷ found 900 (address 10 1 0 7) 16 ∷ heard 26 0 (via 20 2) ∷ unfound ∷ [])
    ∷ play (alone (address 10 1 0 7) 16) (sweep 640000 ∷ in_ten ∷ sweep 640001 ∷ in_ten ∷ []) (total 0 ∷ found 900 (address 10 1 0 7) 16 ∷ total 1 ∷ unfound ∷ [])
    ∷ row (formed (alone (address 10 1 0 7) 16)) (1 ∷ [])
    -- 7 and 8 of a received packet
    ∷ play empty (hear 20 0 0 22 (carrying (entries_with (32 ∷ 33 ∷ []))) ∷ hear 20 0 0 16 (4 ∷ replicate 15 0) ∷ []) (unheard 8 1 ∷ unheard 7 0 ∷ [])
    ∷ play empty (hear 20 0 0 12 (5 ∷ replicate 11 0) ∷ hear 20 0 0 11 (5 ∷ replicate 10 0) ∷ []) (unheard 6 0 ∷ unheard 5 0 ∷ [])
    -- U and D told apart; unnamed bits stay
    ∷ row (passes true 900 900 128 50) (0 ∷ 0 ∷ heard 24 0 nowhere)
    ∷ row (passes true 900 900 64 50) (64 ∷ 49 ∷ heard 26 0 (via 900 1))
    ∷ row (passes true 20 900 64 50) (0 ∷ 49 ∷ heard 26 0 (via 20 1))
    ∷ row (passes false 900 900 63 50) (255 ∷ 49 ∷ heard 26 63 nowhere)
    -- a relay without a neighbour row is not passed on
    ∷ row (passes false 20 900 0 50) (0 ∷ 0 ∷ heard 25 0 nowhere)
    -- TTL 2 leaves as 1, 1 and 0 are not passed on and may be counted
    ∷ row (passes true 20 900 0 2) (0 ∷ 1 ∷ heard 26 0 (via 20 1))
    ∷ row (passes true 20 900 0 1) (0 ∷ 0 ∷ heard 25 0 (via 20 1))
    ∷ row (passes false 900 900 0 2) (192 ∷ 1 ∷ heard 26 0 nowhere)
    ∷ row (passes false 900 900 0 1) (0 ∷ 0 ∷ heard 25 0 nowhere)
    ∷ play empty (hear 20 0 0 12 (packet 900 0 0 300) ∷ question 900 ∷ []) (heard 25 0 (via 20 1) ∷ told (via 20 1) ∷ [])
    -- 13: an own packet's TTL 1 and 2; after 8; the first number, then one more modulo 65,536
    ∷ play empty (write 0 0 1 12 [] ∷ write 0 0 2 12 [] ∷ []) (unwritten 13 0 ∷ wrote 12 6 ∷ [])
    ∷ play empty (write 0 0 1 22 (entries_with (32 ∷ 33 ∷ [])) ∷ []) (unwritten 8 1 ∷ [])
    ∷ play empty (write 1 0 50 12 [] ∷ write 1 0 50 12 [] ∷ []) (wrote 12 65535 ∷ wrote 12 0 ∷ [])
    -- an own packet of 17 octets; of 1,472 octets, where a bad mask is found, and of 1,477; of 16; the output exactly as long and one shorter
    ∷ play empty (write 0 0 50 18 (entries_with (32 ∷ [])) ∷ []) (wrote 17 6 ∷ [])
    ∷ play empty (write 0 0 50 1472 (entries_with (33 ∷ []) ++ replicate 1455 0) ∷ write 0 0 50 1477 (entries_with (33 ∷ []) ++ replicate 1460 0) ∷ []) (unwritten 8 0 ∷ unwritten 5 0 ∷ [])
    ∷ play empty (write 0 0 50 16 (replicate 4 0) ∷ write 0 0 50 11 [] ∷ write 0 0 50 1476 (replicate 1465 0) ∷ []) (unwritten 7 0 ∷ unwritten 4 0 ∷ unwritten 4 0 ∷ [])
    -- its octets, high octet first, and the rest of the output untouched; all of it where it is refused
    ∷ row (leaves empty (own (record { interface = 1; time = 0; ttl = 3; gateway = 7; port = 258; hna = 1 ∷ 2 ∷ 3 ∷ 4 ∷ 30 ∷ []; output = replicate 18 9 })))
    (4 ∷ 0 ∷ 3 ∷ 7 ∷ 255 ∷ 255 ∷ 1 ∷ 2 ∷ 10 ∷ 0 ∷ 0 ∷ 2 ∷ 1 ∷ 2 ∷ 3 ∷ 4 ∷ 30 ∷ 9 ∷ [])
    ∷ row (leaves empty (own (record { interface = 2; time = 0; ttl = 3; gateway = 0; port = 0; hna = []; output = replicate 12 9 }))) (replicate 12 9)
    -- the version of the table
    ∷ play other (hear 20 0 0 12 (packet 900 0 50 11) ∷ []) (unheard 6 0 ∷ [])
    ∷ row (leaves other (write 0 0 3 12 [])) (7 ∷ 0 ∷ 3 ∷ 0 ∷ 0 ∷ 6 ∷ 0 ∷ 0 ∷ 10 ∷ 0 ∷ 0 ∷ 1 ∷ [])
    -- the octets of a passed-on copy, of a verdict that writes nothing, and of a refusal
    ∷ row (leaves empty (receive (record { packet = relayed; sender = 20; interface = 0; time = 0; output = replicate 18 9 })))
    (4 ∷ 5 ∷ 49 ∷ 7 ∷ 0 ∷ 10 ∷ 1 ∷ 2 ∷ 0 ∷ 0 ∷ 3 ∷ 132 ∷ 1 ∷ 2 ∷ 3 ∷ 4 ∷ 30 ∷ 9 ∷ [])
    ∷ row (leaves empty (receive (record { packet = relayed; sender = 50; interface = 0; time = 0; output = replicate 18 9 }))) (replicate 18 9)
    ∷ row (leaves empty (receive (record { packet = relayed; sender = 20; interface = 2; time = 0; output = replicate 18 9 }))) (replicate 18 9)
    -- 4: receive's output exactly as long and one shorter, verdict aside, before 5
    ∷ play single (hear 20 0 0 12 (packet 900 0 50 11) ∷ hear 20 0 0 11 (packet 900 0 50 12) ∷ []) (heard 26 0 (via 20 2) ∷ unheard 4 0 ∷ [])
    ∷ play single (hear (address 10 0 0 1) 0 0 11 (packet 900 0 50 12) ∷ hear 20 0 0 0 (4 ∷ []) ∷ []) (unheard 4 0 ∷ unheard 4 0 ∷ [])
    -- 2: interfaces 0 and 1 are in use; before 3
    ∷ play single (hear 20 1 0 12 (packet 900 0 50 11) ∷ hear 20 2 0 12 (packet 900 0 50 11) ∷ write 2 0 50 12 [] ∷ []) (heard 25 0 (via 20 1) ∷ unheard 2 0 ∷ unwritten 2 0 ∷ [])
    -- 3: the same time and an earlier one; a verdict sets it, a refused call doesn't
    ∷ play empty (sweep 7 ∷ hear 20 0 7 12 (packet 900 0 50 10) ∷ hear 20 0 6 0 (packet 900 0 50 11) ∷ hear 20 2 6 0 [] ∷ []) (total 0 ∷ heard 26 0 (via 20 1) ∷ unheard 3 0 ∷ unheard 2 0 ∷ [])
    ∷ play empty (write 0 7 50 12 [] ∷ write 0 6 50 0 [] ∷ sweep 7 ∷ sweep 6 ∷ []) (wrote 12 6 ∷ unwritten 3 0 ∷ total 0 ∷ refused 3 ∷ [])
    ∷ play empty (hear (address 10 0 0 2) 0 9 12 (packet 900 0 50 10) ∷ sweep 8 ∷ []) (heard 20 0 nowhere ∷ refused 3 ∷ [])
    ∷ play empty (hear 20 0 9 11 (packet 900 0 50 10) ∷ sweep 8 ∷ []) (unheard 4 0 ∷ total 0 ∷ [])
    -- 20 before 21 before 23; 22 needs D, the receiving interface's address, a packet sent and its number
    ∷ play empty (hear (address 10 0 0 1) 0 0 12 echoed ∷ hear (address 10 0 0 255) 0 0 12 echoed ∷ []) (heard 20 0 nowhere ∷ heard 21 0 nowhere ∷ [])
    ∷ play empty (hear 30 0 0 12 echoed ∷ hear 30 0 0 12 (packet (address 10 0 0 1) 128 50 5) ∷ hear 30 1 0 12 echoed ∷ []) (heard 22 0 nowhere ∷ heard 23 0 nowhere ∷ heard 23 0 nowhere ∷ [])
    ∷ play empty (hear 30 0 0 12 (packet (address 10 0 0 1) 64 50 4) ∷ hear 30 1 0 12 (packet (address 10 0 0 2) 64 50 65534) ∷ []) (heard 23 0 nowhere ∷ heard 23 0 nowhere ∷ [])
    -- both interfaces have sent 5: an echo of the one that the other hears
    ∷ play (sent_rows ((0, 5) ∷ (1, 5) ∷ []) []) (hear 30 1 0 12 echoed ∷ hear 30 0 0 12 (packet (address 10 0 0 2) 64 50 5) ∷ []) (heard 23 0 nowhere ∷ heard 23 0 nowhere ∷ [])
    -- every interface's own and broadcast address; 20, 21 and 24 with the route of the packet's originator
    ∷ play single (hear (address 10 0 0 2) 0 0 12 (packet 900 0 50 11) ∷ hear (address 10 0 0 255) 1 0 12 (packet 900 0 50 11) ∷ hear (address 10 0 1 255) 0 0 12 (packet 900 0 50 11) ∷ hear 20 0 0 12 (packet 900 128 50 11) ∷ [])
    (heard 20 0 (via 20 1) ∷ heard 21 0 (via 20 1) ∷ heard 21 0 (via 20 1) ∷ heard 24 0 (via 20 1) ∷ [])
    -- an OGM that is not counted makes no record; an echo makes the link bidirectional
    ∷ play empty (hear 30 0 0 12 (packet 900 0 50 10) ∷ question 900 ∷ []) (heard 25 0 nowhere ∷ told nowhere ∷ [])
    ∷ play empty (hear 30 0 0 12 (packet 900 0 50 10) ∷ hear 30 0 0 12 echoed ∷ hear 30 0 0 12 (packet 900 0 50 10) ∷ question 900 ∷ []) (heard 25 0 nowhere ∷ heard 22 0 nowhere ∷ heard 26 0 (via 30 1) ∷ told (via 30 1) ∷ [])
    -- new is 1 to 32,767 above current; half way is stale; below the window is stale; W is 1, 8 and 64; across 0
    ∷ row (tests 8 10 11) is_new
    ∷ row (tests 8 10 32777) is_new
    ∷ row (tests 8 10 32778) is_stale
    ∷ row (tests 8 10 32779) is_stale
    ∷ row (tests 8 10 10) is_inside
    ∷ row (tests 8 10 3) is_inside
    ∷ row (tests 1 10 10) is_inside
    ∷ row (tests 1 10 9) is_stale
    ∷ row (tests 64 10 65483) is_inside
    ∷ row (tests 64 10 65482) is_stale
    ∷ row (tests 8 65535 0) is_new
    ∷ row (tests 8 40000 7231) is_new
    ∷ row (tests 8 40000 7232) is_stale
    -- 27: a stale OGM is not counted, and neither current number, last TTL nor the record's time moves; the table's time does
    ∷ play single (hear 20 0 9 12 (packet 900 0 49 2) ∷ sweep 8 ∷ hear 20 0 9 12 (packet 900 0 50 10) ∷ hear 20 0 9 12 (packet 900 0 50 3) ∷ question 900 ∷ []) (heard 27 0 (via 20 1) ∷ refused 3 ∷ heard 26 0 (via 20 1) ∷ heard 26 0 (via 20 2) ∷ told (via 20 2) ∷ [])
    ∷ play single (hear 20 0 5 12 (packet 900 0 50 2) ∷ sweep 640001 ∷ []) (heard 27 0 (via 20 1) ∷ total 1 ∷ [])
    -- half way it is stale, one nearer above it is new; it writes nothing
    ∷ play single (hear 20 0 0 12 (packet 900 0 50 32778) ∷ hear 20 0 0 12 (packet 900 0 50 32777) ∷ hear 20 0 0 12 (packet 900 0 50 10) ∷ []) (heard 27 0 (via 20 1) ∷ heard 26 0 (via 20 1) ∷ heard 27 0 (via 20 1) ∷ [])
    ∷ row (leaves single (receive (record { packet = packet 900 63 50 2; sender = 20; interface = 0; time = 0; output = replicate 13 9 }))) (replicate 13 9)
    -- not passed on from the originator itself, with a neighbour row and without; nor by another link without one
    ∷ play (stage (settings 8 32 64) (20 ∷ 900 ∷ []) ((900, one) ∷ [])) (hear 900 0 0 12 (packet 900 0 50 2) ∷ hear 900 0 0 12 (packet 900 0 50 11) ∷ []) (heard 27 0 (via 20 1) ∷ heard 26 0 (via 900 1) ∷ [])
    ∷ play single (hear 900 0 0 12 (packet 900 0 50 2) ∷ hear 900 0 0 12 (packet 900 0 50 3) ∷ hear 50 0 0 12 (packet 900 0 50 2) ∷ []) (heard 27 0 (via 20 1) ∷ heard 26 0 (via 20 1) ∷ heard 27 0 (via 20 1) ∷ [])
    -- after 20, 21 and 24
    ∷ play single (hear (address 10 0 0 1) 0 0 12 (packet 900 0 50 2) ∷ hear (address 10 0 0 255) 0 0 12 (packet 900 0 50 2) ∷ hear 20 0 0 12 (packet 900 128 50 2) ∷ []) (heard 20 0 (via 20 1) ∷ heard 21 0 (via 20 1) ∷ heard 24 0 (via 20 1) ∷ [])
    -- held originators only; so after a sweep the same number makes the record
    ∷ play single (hear 20 0 0 12 (packet 901 0 50 2) ∷ hear 20 0 0 12 (packet 901 0 50 65530) ∷ []) (heard 26 0 (via 20 1) ∷ heard 27 0 (via 20 1) ∷ [])
    ∷ play single (hear 20 0 0 12 (packet 900 0 50 2) ∷ sweep 640001 ∷ hear 20 0 640001 12 (packet 900 0 50 2) ∷ []) (heard 27 0 (via 20 1) ∷ total 1 ∷ heard 26 0 (via 20 1) ∷ [])
    -- it never meets 11, and in a burst leaves the packet behind it its place
    ∷ play (eight 20 (3 ∷ []) (9 ∷ 10 ∷ [])) (hear 28 0 0 12 (packet 900 0 50 2) ∷ []) (heard 27 0 (via 20 1) ∷ [])
    ∷ row (leaves single (hear_all 0 12 2 ((20, packet 900 0 50 2) ∷ (20, eleven 132) ∷ []))) (joined (eleven_passed 132 ∷ heard 27 0 (via 20 1) ∷ heard 26 0 (via 20 2) ∷ []))
    -- an own packet drops the row at distance B; an echo before it resets the distance; another interface's packet drops none
    ∷ play aged (write 0 0 50 12 [] ∷ hear 20 0 0 12 (packet 900 0 50 10) ∷ []) (wrote 12 6 ∷ heard 25 0 nowhere ∷ [])
    ∷ play aged (hear 20 0 0 12 echoed ∷ write 0 0 50 12 [] ∷ hear 20 0 0 12 (packet 900 0 50 10) ∷ []) (heard 22 0 nowhere ∷ wrote 12 6 ∷ heard 26 0 (via 20 1) ∷ [])
    ∷ play aged (write 1 0 50 12 [] ∷ hear 20 0 0 12 (packet 900 0 50 10) ∷ []) (wrote 12 65535 ∷ heard 26 0 (via 20 1) ∷ [])
    -- 9: 31 neighbour rows, and 32 with and without this one
    ∷ play (crowd 31) (hear 99 0 0 12 echoed ∷ []) (heard 22 0 nowhere ∷ [])
    ∷ play (crowd 32) (hear 99 0 0 12 echoed ∷ hear 20 0 0 12 echoed ∷ []) (unheard 9 0 ∷ heard 22 0 nowhere ∷ [])
    -- 10: capacity reached, for a packet that would be counted and needs a record
    ∷ play (held 1 10 20 ((20, 10 ∷ []) ∷ [])) (hear 20 0 0 12 (packet 901 0 50 11) ∷ hear 20 0 0 12 (packet 900 0 50 11) ∷ []) (unheard 10 0 ∷ heard 26 0 (via 20 2) ∷ [])
    ∷ play (held 1 10 20 ((20, 10 ∷ []) ∷ [])) (hear 20 0 0 12 (packet 901 128 50 11) ∷ hear 50 0 0 12 (packet 901 0 50 11) ∷ []) (heard 24 0 nowhere ∷ heard 25 0 nowhere ∷ [])
    ∷ play (held 2 10 20 ((20, 10 ∷ []) ∷ [])) (hear 20 0 0 12 (packet 901 0 50 11) ∷ hear 20 0 0 12 (packet 902 0 50 11) ∷ []) (heard 26 0 (via 20 1) ∷ unheard 10 0 ∷ [])
    -- 11: a ninth link; it comes in where another loses its last mark and isn't best, and not where that one is best
    ∷ play (eight 22 (3 ∷ []) (10 ∷ [])) (hear 28 0 0 12 (packet 900 0 50 10) ∷ hear 28 0 0 12 (packet 900 0 50 11) ∷ list 900 (replicate 8 blank) ∷ []) (unheard 11 0 ∷ heard 26 0 (via 28 1) ∷ total 8 ∷ [])
    ∷ play (eight 20 (3 ∷ []) (9 ∷ 10 ∷ [])) (hear 28 0 0 12 (packet 900 0 50 11) ∷ []) (unheard 11 0 ∷ [])
    -- an entry's octets: the network before the mask, high octet first; the entries behind it
    ∷ play empty (hear 20 0 0 17 relayed ∷ locate (address 1 2 3 7) ∷ locate (address 1 2 3 8) ∷ []) (heard 26 5 (via 20 1) ∷ found 900 (address 1 2 3 4) 30 ∷ unfound ∷ [])
    ∷ play empty
    (hear 20 0 0 27 (brings 10 (10 ∷ 0 ∷ 0 ∷ 0 ∷ 8 ∷ 10 ∷ 1 ∷ 0 ∷ 0 ∷ 16 ∷ 11 ∷ 0 ∷ 0 ∷ 1 ∷ 32 ∷ [])) ∷ locate (address 10 2 0 0) ∷ in_ten ∷ locate (address 11 0 0 1) ∷ [])
    (heard 26 0 (via 20 1) ∷ found 900 (address 10 0 0 0) 8 ∷ found 900 (address 10 1 0 0) 16 ∷ found 900 (address 11 0 0 1) 32 ∷ [])
    -- masks 0, 1, 8, 24, 31 and 32: the first and the last address covered, and one beyond each; entries that are held may have host bits
    ∷ play (alone (address 1 2 3 4) 0) (locate 0 ∷ locate 4294967295 ∷ []) (found 900 (address 1 2 3 4) 0 ∷ found 900 (address 1 2 3 4) 0 ∷ [])
    ∷ play (alone (address 255 2 3 4) 1) (locate (address 127 255 255 255) ∷ locate (address 128 0 0 0) ∷ []) (unfound ∷ found 900 (address 255 2 3 4) 1 ∷ [])
    ∷ play (alone (address 10 9 8 7) 8) (locate (address 9 255 255 255) ∷ locate (address 10 0 0 0) ∷ locate (address 10 255 255 255) ∷ locate (address 11 0 0 0) ∷ []) (unfound ∷ found 900 (address 10 9 8 7) 8 ∷ found 900 (address 10 9 8 7) 8 ∷ unfound ∷ [])
    ∷ play (alone (address 10 0 1 77) 24) (locate (address 10 0 0 255) ∷ locate (address 10 0 1 0) ∷ locate (address 10 0 1 255) ∷ locate (address 10 0 2 0) ∷ []) (unfound ∷ found 900 (address 10 0 1 77) 24 ∷ found 900 (address 10 0 1 77) 24 ∷ unfound ∷ [])
    ∷ play (alone (address 10 0 0 3) 31) (locate (address 10 0 0 1) ∷ locate (address 10 0 0 2) ∷ locate (address 10 0 0 3) ∷ locate (address 10 0 0 4) ∷ []) (unfound ∷ found 900 (address 10 0 0 3) 31 ∷ found 900 (address 10 0 0 3) 31 ∷ unfound ∷ [])
    ∷ play (alone (address 10 0 0 3) 32) (locate (address 10 0 0 2) ∷ locate (address 10 0 0 3) ∷ locate (address 10 0 0 4) ∷ []) (unfound ∷ found 900 (address 10 0 0 3) 32 ∷ unfound ∷ [])
    -- the longest mask, whichever originator has it, and wherever it stands in the list
    ∷ play (announcing ((899, kept (address 10 0 0 0) 8 ∷ []) ∷ (900, kept (address 10 1 0 0) 16 ∷ []) ∷ [])) (in_ten ∷ []) (found 900 (address 10 1 0 0) 16 ∷ [])
    ∷ play (announcing ((899, kept (address 10 1 0 0) 16 ∷ []) ∷ (900, kept (address 10 0 0 0) 8 ∷ []) ∷ [])) (in_ten ∷ []) (found 899 (address 10 1 0 0) 16 ∷ [])
    ∷ play (announcing ((900, kept (address 10 0 0 0) 8 ∷ kept (address 10 1 2 0) 24 ∷ kept (address 10 1 0 0) 16 ∷ []) ∷ [])) (in_ten ∷ []) (found 900 (address 10 1 2 0) 24 ∷ [])
    -- of equal masks the smaller originator, though its entry stands later in its list; then the earlier entry, though its network is the greater
    ∷ play (announcing ((899, kept (address 11 0 0 0) 8 ∷ kept (address 10 0 0 1) 8 ∷ []) ∷ (900, kept (address 10 0 0 0) 8 ∷ []) ∷ [])) (in_ten ∷ []) (found 899 (address 10 0 0 1) 8 ∷ [])
    ∷ play (announcing ((899, []) ∷ (900, kept (address 10 0 0 2) 8 ∷ kept (address 10 0 0 1) 8 ∷ []) ∷ [])) (in_ten ∷ []) (found 900 (address 10 0 0 2) 8 ∷ [])
    -- none: no originator, no entry, none that covers; address 0, of originator 0, is found
    ∷ play (announcing []) (locate 0 ∷ []) (unfound ∷ [])
    ∷ play (announcing ((900, []) ∷ [])) (locate 0 ∷ []) (unfound ∷ [])
    ∷ play (announcing ((0, kept 0 0 ∷ []) ∷ [])) (locate 0 ∷ []) (found 0 0 0 ∷ [])
    -- a new number's entries replace the list, also where it has none; one inside the window, not counted or stale leaves it
    ∷ play keeper (hear 20 0 0 17 (brings 11 entry_eleven) ∷ in_ten ∷ locate (address 11 1 2 3) ∷ []) (heard 26 0 (via 20 2) ∷ unfound ∷ found 900 (address 11 0 0 0) 8 ∷ [])
    ∷ play keeper (hear 20 0 0 12 (brings 11 []) ∷ in_ten ∷ []) (heard 26 0 (via 20 2) ∷ unfound ∷ [])
    ∷ play keeper (hear 20 0 0 17 (brings 2 entry_eleven) ∷ in_ten ∷ []) (heard 27 0 (via 20 1) ∷ found 900 (address 10 0 0 0) 8 ∷ [])
    ∷ play keeper (hear 20 0 0 17 (brings 3 entry_eleven) ∷ in_ten ∷ locate (address 11 1 2 3) ∷ []) (heard 26 0 (via 20 2) ∷ found 900 (address 10 0 0 0) 8 ∷ unfound ∷ [])
    ∷ play keeper (hear 30 0 0 17 (brings 10 entry_eleven) ∷ hear 50 0 0 17 (brings 11 entry_eleven) ∷ in_ten ∷ []) (heard 26 0 (via 30 1) ∷ heard 25 0 (via 30 1) ∷ found 900 (address 10 0 0 0) 8 ∷ [])
    -- the other originators' lists stay; a sweep removes a record's with it
    ∷ play keeper (hear 20 0 1 17 (packet 901 0 50 10 ++ entry_eleven) ∷ in_ten ∷ sweep 640001 ∷ in_ten ∷ locate (address 11 1 2 3) ∷ [])
    (heard 26 0 (via 20 1) ∷ found 900 (address 10 0 0 0) 8 ∷ total 1 ∷ unfound ∷ found 901 (address 11 0 0 0) 8 ∷ [])
    -- 15: 16 and 17 entries, repeats among them, where the first message makes the record and where a number is new; it changes nothing
    ∷ play empty (hear 20 0 9 97 (brings 10 (repeated 17)) ∷ sweep 8 ∷ question 900 ∷ hear 20 0 9 92 (brings 10 (repeated 16)) ∷ []) (unheard 15 0 ∷ total 0 ∷ told nowhere ∷ heard 26 0 (via 20 1) ∷ [])
    ∷ play keeper (hear 20 0 9 97 (brings 11 (repeated 17)) ∷ hear 20 0 9 97 (brings 32777 (repeated 17)) ∷ sweep 8 ∷ question 900 ∷ in_ten ∷ hear 20 0 9 92 (brings 11 (repeated 16)) ∷ []) (unheard 15 0 ∷ unheard 15 0 ∷ total 0 ∷ told (via 20 1) ∷ found 900 (address 10 0 0 0) 8 ∷ heard 26 0 (via 20 2) ∷ [])
    ∷ row (leaves empty (receive (record { packet = brings 10 (repeated 17); sender = 20; interface = 0; time = 0; output = replicate 97 9 }))) (replicate 97 9)
    -- not where the list would stay: inside the window, a duplicate, no neighbour row, verdicts 24 and 27
    ∷ play keeper (hear 20 0 0 97 (brings 3 (repeated 17)) ∷ hear 20 0 0 97 (brings 10 (repeated 17)) ∷ in_ten ∷ []) (heard 26 0 (via 20 2) ∷ heard 26 0 (via 20 2) ∷ found 900 (address 10 0 0 0) 8 ∷ [])
    ∷ play keeper (hear 50 0 0 97 (brings 11 (repeated 17)) ∷ hear 20 0 0 97 (packet 900 128 50 11 ++ repeated 17) ∷ hear 50 0 0 97 (packet 901 0 50 11 ++ repeated 17) ∷ []) (heard 25 0 (via 20 1) ∷ heard 24 0 (via 20 1) ∷ heard 25 0 nowhere ∷ [])
    ∷ play keeper (hear 20 0 0 97 (brings 2 (repeated 17)) ∷ in_ten ∷ []) (heard 27 0 (via 20 1) ∷ found 900 (address 10 0 0 0) 8 ∷ [])
    -- 10 and 11 before it
    ∷ play (held 1 10 20 ((20, 10 ∷ []) ∷ [])) (hear 20 0 0 97 (packet 901 0 50 11 ++ repeated 17) ∷ []) (unheard 10 0 ∷ [])
    ∷ play (eight 20 (3 ∷ []) (9 ∷ 10 ∷ [])) (hear 28 0 0 97 (brings 11 (repeated 17)) ∷ []) (unheard 11 0 ∷ [])
    -- list: as many rows as links and one fewer; an unknown originator; the rows whole
    ∷ play single (list 900 (blank ∷ []) ∷ list 900 [] ∷ list 901 [] ∷ []) (total 1 ∷ refused 4 ∷ total 0 ∷ [])
    ∷ row (leaves (held 64 10 20 ((20, 9 ∷ 10 ∷ []) ∷ (40, 10 ∷ []) ∷ [])) (list 900 (replicate 3 blank)))
    (20 ∷ 0 ∷ 2 ∷ 8 ∷ 1 ∷ 40 ∷ 0 ∷ 1 ∷ 8 ∷ 0 ∷ 9 ∷ 9 ∷ 9 ∷ 9 ∷ 0 ∷ [])
    ∷ row (leaves (held 64 10 20 ((20, 9 ∷ 10 ∷ []) ∷ (40, 10 ∷ []) ∷ [])) (list 900 (blank ∷ []))) (9 ∷ 9 ∷ 9 ∷ 9 ∷ 0 ∷ [])
    ∷ row (leaves double (list 900 (replicate 2 blank)))
    (20 ∷ 0 ∷ 2 ∷ 8 ∷ 0 ∷ 20 ∷ 1 ∷ 1 ∷ 8 ∷ 1 ∷ [])
    -- a link is a neighbour and an interface: 20's row is that of the second
    ∷ play (sent_rows ((0, 5) ∷ (1, 5) ∷ []) ((link_of 20 1, 5) ∷ [])) (hear 20 1 0 12 (packet 900 0 50 10) ∷ hear 20 0 0 12 (packet 900 0 50 11) ∷ []) (heard 26 0 (20 ∷ 1 ∷ 1 ∷ 8 ∷ []) ∷ heard 25 0 (20 ∷ 1 ∷ 1 ∷ 8 ∷ []) ∷ [])
    -- a route and a row have their own interface and the table's W
    ∷ play double (question 900 ∷ []) (told (20 ∷ 1 ∷ 1 ∷ 8 ∷ []) ∷ [])
    ∷ play other (question 900 ∷ []) (told (20 ∷ 0 ∷ 2 ∷ 3 ∷ []) ∷ [])
    ∷ row (leaves other (list 900 (blank ∷ []))) (20 ∷ 0 ∷ 2 ∷ 3 ∷ 1 ∷ [])
    -- best: 12 via 30 leaves 20 without a mark, and best while 40 stands higher; without 40 it gives up its place
    ∷ play (held 64 10 20 ((20, 4 ∷ []) ∷ (40, 9 ∷ 10 ∷ []) ∷ [])) (hear 30 0 0 12 (packet 900 0 50 12) ∷ question 900 ∷ list 900 (replicate 3 blank) ∷ []) (heard 25 0 (via 20 0) ∷ told (via 20 0) ∷ total 3 ∷ [])
    ∷ play (held 64 10 20 ((20, 4 ∷ []) ∷ [])) (hear 30 0 0 12 (packet 900 0 50 12) ∷ question 900 ∷ list 900 (replicate 3 blank) ∷ []) (heard 26 0 (via 30 1) ∷ told (via 30 1) ∷ total 1 ∷ [])
    -- equal counts: 10 via 30 draws level with 20, which is best, and 11 via 30 takes 30 above it
    ∷ play (held_by newest_wins 64 10 20 level) (hear 30 0 0 12 (packet 900 0 50 10) ∷ hear 30 0 0 12 (packet 900 0 50 11) ∷ question 900 ∷ []) (heard 26 0 (via 30 2) ∷ heard 26 0 (via 30 3) ∷ told (via 30 3) ∷ [])
    ∷ play (held_by present_stays 64 10 20 level) (hear 30 0 0 12 (packet 900 0 50 10) ∷ hear 30 0 0 12 (packet 900 0 50 11) ∷ question 900 ∷ []) (heard 25 0 (via 20 2) ∷ heard 26 0 (via 30 3) ∷ told (via 30 3) ∷ [])
    -- 30 stands above 20, which is best, and level with 40
    ∷ play (held_by newest_wins 64 10 20 third) (hear 30 0 0 12 (packet 900 0 50 10) ∷ question 900 ∷ []) (heard 26 0 (via 30 2) ∷ told (via 30 2) ∷ [])
    ∷ play (held_by present_stays 64 10 20 third) (hear 30 0 0 12 (packet 900 0 50 10) ∷ question 900 ∷ hear 30 0 0 12 (packet 900 0 50 11) ∷ []) (heard 25 0 (via 20 1) ∷ told (via 20 1) ∷ heard 26 0 (via 30 3) ∷ [])
    -- the best link itself draws level with another
    ∷ play (held_by present_stays 64 10 30 level) (hear 30 0 0 12 (packet 900 0 50 10) ∷ question 900 ∷ []) (heard 26 0 (via 30 2) ∷ told (via 30 2) ∷ [])
    -- best without a mark stays where two others are level, and gives up its place to one
    ∷ play (held_by present_stays 64 10 20 ((20, 4 ∷ []) ∷ (40, 10 ∷ []) ∷ [])) (hear 30 0 0 12 (packet 900 0 50 12) ∷ list 900 (replicate 3 blank) ∷ []) (heard 25 0 (via 20 0) ∷ total 3 ∷ [])
    ∷ play (held_by present_stays 64 10 20 ((20, 4 ∷ []) ∷ [])) (hear 30 0 0 12 (packet 900 0 50 12) ∷ list 900 (replicate 3 blank) ∷ []) (heard 26 0 (via 30 1) ∷ total 1 ∷ [])
    -- the first counted OGM makes its link best
    ∷ play (stage (settings_by present_stays 8 32 64) (20 ∷ []) []) (hear 20 0 0 12 (packet 900 0 50 10) ∷ []) (heard 26 0 (via 20 1) ∷ [])
    -- a duplicate passes with the record's last TTL alone, and leaves it; it is no duplicate on another link
    ∷ play single (hear 20 0 0 12 (packet 900 0 49 10) ∷ hear 20 0 0 12 (packet 900 0 50 10) ∷ hear 30 0 0 12 (packet 900 0 49 10) ∷ []) (heard 25 0 (via 20 1) ∷ heard 26 0 (via 20 1) ∷ heard 26 0 (via 30 1) ∷ [])
    -- counting sets it
    ∷ play single (hear 20 0 0 12 (packet 900 0 49 11) ∷ hear 20 0 0 12 (packet 900 0 50 11) ∷ hear 20 0 0 12 (packet 900 0 49 11) ∷ question 900 ∷ []) (heard 26 0 (via 20 2) ∷ heard 25 0 (via 20 2) ∷ heard 26 0 (via 20 2) ∷ told (via 20 2) ∷ [])
    -- distance B - 1 (P11 has B)
    ∷ row (sends 4 1 65535) (2 ∷ 3 ∷ 1 ∷ [])
    -- purge: exactly the timeout ago and one more; counting sets the record's time, a duplicate doesn't
    ∷ play single (sweep 640000 ∷ sweep 640001 ∷ question 900 ∷ []) (total 0 ∷ total 1 ∷ told nowhere ∷ [])
    ∷ play single (hear 20 0 5 12 (packet 900 0 50 11) ∷ sweep 640005 ∷ sweep 640006 ∷ []) (heard 26 0 (via 20 2) ∷ total 0 ∷ total 1 ∷ [])
    ∷ play single (hear 20 0 5 12 (packet 900 0 50 10) ∷ sweep 640001 ∷ []) (heard 26 0 (via 20 1) ∷ total 1 ∷ [])
    -- another purge timeout
    ∷ play other (sweep 5 ∷ sweep 6 ∷ []) (total 0 ∷ total 1 ∷ [])
    -- freed room is used again; receiving frees no expired record
    ∷ play (held 1 10 20 ((20, 10 ∷ []) ∷ [])) (hear 20 0 640001 12 (packet 901 0 50 11) ∷ sweep 640001 ∷ hear 20 0 640001 12 (packet 901 0 50 11) ∷ []) (unheard 10 0 ∷ total 1 ∷ heard 26 0 (via 20 1) ∷ [])
    -- well-formed: a time of 64 bits; numbers sent, of interfaces in use, rising
    ∷ row (formed (record { config = config (settings 8 32 64); time = 18446744073709551615; sends = []; rows = []; records = [] })) (1 ∷ [])
    ∷ row (formed (record { config = config (settings 8 32 64); time = 18446744073709551616; sends = []; rows = []; records = [] })) (0 ∷ [])
    ∷ row (formed (sent_rows ((0, 65535) ∷ (1, 0) ∷ []) [])) (1 ∷ [])
    ∷ row (formed (sent_rows ((0, 65536) ∷ []) [])) (0 ∷ [])
    ∷ row (formed (sent_rows ((2, 5) ∷ []) [])) (0 ∷ [])
    ∷ row (formed (sent_rows ((1, 5) ∷ (0, 5) ∷ []) [])) (0 ∷ [])
    -- neighbour rows rise by address, then interface, on interfaces in use that have sent; distance B - 1 and B; 32 and 33 rows
    ∷ row (formed (sent_rows ((0, 5) ∷ (1, 5) ∷ []) ((link_of 20 0, 5) ∷ (link_of 20 1, 5) ∷ (link_of 21 0, 5) ∷ []))) (1 ∷ [])
    ∷ row (formed (sent_rows ((0, 5) ∷ (1, 5) ∷ []) ((link_of 20 1, 5) ∷ (link_of 20 0, 5) ∷ []))) (0 ∷ [])
    ∷ row (formed (sent_rows ((0, 5) ∷ []) ((link_of 20 0, 5) ∷ (link_of 20 0, 5) ∷ []))) (0 ∷ [])
    ∷ row (formed (sent_rows ((0, 5) ∷ []) ((link_of 20 1, 5) ∷ []))) (0 ∷ [])
    ∷ row (formed (sent_rows ((0, 5) ∷ []) ((link_of 20 1, 65534) ∷ []))) (0 ∷ [])
    ∷ row (formed (sent_rows ((0, 5) ∷ []) ((link_of 20 2, 5) ∷ []))) (0 ∷ [])
    ∷ row (formed (sent_rows ((0, 5) ∷ []) ((link_of 4294967296 0, 5) ∷ []))) (0 ∷ [])
    ∷ row (formed (sent_rows ((0, 5) ∷ []) ((link_of 20 0, 65541) ∷ []))) (0 ∷ [])
    ∷ row (formed (sent_rows ((0, 5) ∷ []) ((link_of 20 0, 65510) ∷ []))) (1 ∷ [])
    ∷ row (formed (sent_rows ((0, 5) ∷ []) ((link_of 20 0, 65509) ∷ []))) (0 ∷ [])
    ∷ row (formed (crowd 32)) (1 ∷ [])
    ∷ row (formed (crowd 33)) (0 ∷ [])
    -- originators rise, none is an own address, no more are held than the capacity
    ∷ row (formed (records 2 ((899, one) ∷ (900, one) ∷ []))) (1 ∷ [])
    ∷ row (formed (records 2 ((900, one) ∷ (899, one) ∷ []))) (0 ∷ [])
    ∷ row (formed (records 1 ((899, one) ∷ (900, one) ∷ []))) (0 ∷ [])
    ∷ row (formed (records 0 [])) (0 ∷ [])
    ∷ row (formed (records 2 ((address 10 0 0 2, one) ∷ []))) (0 ∷ [])
    ∷ row (formed (records 2 ((4294967296, one) ∷ []))) (0 ∷ [])
    -- a record's fields in their ranges, its time not after the table's
    ∷ row (formed (fields 65535 0 255 80 ((80, 255) ∷ []))) (1 ∷ [])
    ∷ row (formed (fields 65536 0 255 80 ((80, 255) ∷ []))) (0 ∷ [])
    ∷ row (formed (fields 65535 0 256 80 ((80, 255) ∷ []))) (0 ∷ [])
    ∷ row (formed (fields 65535 1 255 80 ((80, 255) ∷ []))) (0 ∷ [])
    -- 1 to 8 links, rising, on interfaces in use; a mark on each or best; best among them; no mark outside the window
    ∷ row (formed (eight 20 (10 ∷ []) (10 ∷ []))) (1 ∷ [])
    ∷ row (formed (fields 10 0 50 80 [])) (0 ∷ [])
    ∷ row (formed (fields 10 0 50 80 (map (λ l. (l * 4, 1)) (up_from 20 9)))) (0 ∷ [])
    ∷ row (formed (fields 10 0 50 80 ((84, 1) ∷ (80, 1) ∷ []))) (0 ∷ [])
    ∷ row (formed (fields 10 0 50 82 ((82, 1) ∷ []))) (0 ∷ [])
    ∷ row (formed (fields 10 0 50 (link_of 4294967296 0) ((link_of 4294967296 0, 1) ∷ []))) (0 ∷ [])
    ∷ row (formed (fields 10 0 50 80 ((80, 0) ∷ (84, 1) ∷ []))) (1 ∷ [])
    ∷ row (formed (fields 10 0 50 84 ((80, 0) ∷ (84, 1) ∷ []))) (0 ∷ [])
    ∷ row (formed (fields 10 0 50 81 ((80, 1) ∷ []))) (0 ∷ [])
    ∷ row (formed (fields 10 0 50 80 ((80, 256) ∷ []))) (0 ∷ [])
    -- at most 16 entries, each a network of four octets and a mask of at most 32
    ∷ row (formed (announcing ((900, replicate 16 0) ∷ []))) (1 ∷ [])
    ∷ row (formed (announcing ((900, replicate 17 0) ∷ []))) (0 ∷ [])
    ∷ row (formed (announcing ((900, 0 ∷ kept 4294967295 32 ∷ []) ∷ []))) (1 ∷ [])
    ∷ row (formed (announcing ((900, 0 ∷ kept 4294967295 33 ∷ []) ∷ []))) (0 ∷ [])
    ∷ row (formed (announcing ((900, 0 ∷ kept 4294967296 0 ∷ []) ∷ []))) (0 ∷ [])
    -- the tie is 0 or 1
    ∷ row (formed (held_by present_stays 64 10 20 level)) (1 ∷ [])
    ∷ row (formed (held_by 2 64 10 20 level)) (0 ∷ [])
    -- 1 to 4 interfaces, whose own addresses differ
    ∷ row (formed (owning [])) (0 ∷ [])
    ∷ row (formed (owning (1 ∷ 2 ∷ 3 ∷ 4 ∷ []))) (1 ∷ [])
    ∷ row (formed (owning (1 ∷ 2 ∷ 3 ∷ 4 ∷ 5 ∷ []))) (0 ∷ [])
    ∷ row (formed (owning (1 ∷ 2 ∷ 1 ∷ []))) (0 ∷ [])
    -- 12: each setting at its least, at its most, one beyond, and 0
    ∷ row (tried (six 0 1 1 1 1 newest_wins) 1 (1 ∷ [])) (0 ∷ [])
    ∷ row (tried (six 255 64 1000 4294967295 256 present_stays) 1 (1 ∷ [])) (0 ∷ [])
    ∷ row (tried (six 256 64 32 640000 64 present_stays) 1 (1 ∷ [])) (12 ∷ [])
    ∷ row (tried (six 4 65 32 640000 64 present_stays) 1 (1 ∷ [])) (12 ∷ [])
    ∷ row (tried (six 4 64 1001 640000 64 present_stays) 1 (1 ∷ [])) (12 ∷ [])
    ∷ row (tried (six 4 64 32 4294967296 64 present_stays) 1 (1 ∷ [])) (12 ∷ [])
    ∷ row (tried (six 4 64 32 640000 257 present_stays) 1 (1 ∷ [])) (12 ∷ [])
    ∷ row (tried (six 4 64 32 640000 64 2) 1 (1 ∷ [])) (12 ∷ [])
    ∷ row (tried (six 4 0 32 640000 64 present_stays) 1 (1 ∷ [])) (12 ∷ [])
    ∷ row (tried (six 4 64 0 640000 64 present_stays) 1 (1 ∷ [])) (12 ∷ [])
    ∷ row (tried (six 4 64 32 0 64 present_stays) 1 (1 ∷ [])) (12 ∷ [])
    ∷ row (tried (six 4 64 32 640000 0 present_stays) 1 (1 ∷ [])) (12 ∷ [])
    -- 0, 1, 4 and 5 interfaces in use; own addresses that differ only beyond the number in use, or not at all; address 0
    ∷ row (tried defaults 0 (1 ∷ 2 ∷ 3 ∷ 4 ∷ [])) (12 ∷ [])
    ∷ row (tried defaults 1 (1 ∷ 2 ∷ 3 ∷ 4 ∷ [])) (0 ∷ [])
    ∷ row (tried defaults 4 (0 ∷ 2 ∷ 3 ∷ 4 ∷ [])) (0 ∷ [])
    ∷ row (tried defaults 5 (1 ∷ 2 ∷ 3 ∷ 4 ∷ [])) (12 ∷ [])
    ∷ row (tried defaults 3 (1 ∷ 2 ∷ 3 ∷ 3 ∷ [])) (0 ∷ [])
    ∷ row (tried defaults 4 (1 ∷ 2 ∷ 3 ∷ 3 ∷ [])) (12 ∷ [])
    -- an interface row's fields at their most, and one beyond
    ∷ row (tried_row 4294967295 4294967295 65535) (0 ∷ [])
    ∷ row (tried_row 4294967296 1 1) (12 ∷ [])
    ∷ row (tried_row 1 4294967296 1) (12 ∷ [])
    ∷ row (tried_row 1 1 65536) (12 ∷ [])
    -- the number of cells for 1, 64 and 256 originators
    ∷ row (makes 133 (make_args (six 4 64 32 640000 1 present_stays) 1 (1 ∷ []))) (0 ∷ [])
    ∷ row (makes 2590 (make_args defaults 1 (1 ∷ []))) (0 ∷ [])
    ∷ row (makes 10078 (make_args (six 4 64 32 640000 256 present_stays) 1 (1 ∷ []))) (0 ∷ [])
    -- one fewer and one more than 64 originators need; a refused make changes nothing
    ∷ row (makes (cells_needed 64 - 1) (make_args defaults 1 (1 ∷ []))) (12 ∷ [])
    ∷ row (makes (cells_needed 64 + 1) (make_args defaults 1 (1 ∷ []))) (12 ∷ [])
    ∷ play single (make (make_args defaults 1 (1 ∷ [])) ∷ question 900 ∷ []) ((12 ∷ []) ∷ told (via 20 1) ∷ [])
    -- a burst: each packet by itself, whatever the one before got; copies behind each other; the rest of output and rows untouched
    ∷ row (leaves single (hear_all 0 30 5 ((20, eleven 132) ∷ (20, 5 ∷ replicate 11 0) ∷ (30, eleven 132) ∷ (20, eleven 133) ∷ [])))
    (joined (eleven_passed 132 ∷ eleven_passed 133 ∷ replicate 6 0 ∷ heard 26 0 (via 20 2) ∷ unheard 6 0 ∷ heard 25 0 (via 20 2) ∷ heard 26 0 (via 20 1) ∷ replicate 7 9 ∷ []))
    ∷ play single (hear_all 0 30 5 ((20, eleven 132) ∷ (20, 5 ∷ replicate 11 0) ∷ (30, eleven 132) ∷ (20, eleven 133) ∷ []) ∷ question 900 ∷ question 901 ∷ [])
    (bundled 24 ∷ told (via 20 2) ∷ told (via 20 1) ∷ [])
    -- a copy is as long as its packet
    ∷ row (leaves single (hear_all 0 31 2 ((20, relayed) ∷ (20, eleven 133) ∷ [])))
    (joined ((4 ∷ 5 ∷ 49 ∷ 7 ∷ 0 ∷ 10 ∷ 1 ∷ 2 ∷ 0 ∷ 0 ∷ 3 ∷ 132 ∷ 1 ∷ 2 ∷ 3 ∷ 4 ∷ 30 ∷ []) ∷ eleven_passed 133 ∷ replicate 2 0 ∷ heard 26 5 (via 20 1) ∷ heard 26 0 (via 20 1) ∷ []))
    -- the output runs out, and a shorter packet still fits
    ∷ row (leaves single (hear_all 0 24 3 ((20, eleven 132) ∷ (20, relayed) ∷ (20, eleven 133) ∷ [])))
    (joined (eleven_passed 132 ∷ eleven_passed 133 ∷ heard 26 0 (via 20 2) ∷ unheard 4 0 ∷ heard 26 0 (via 20 1) ∷ []))
    -- an echo counts for the message behind it
    ∷ row (leaves (crowd 0) (hear_all 0 12 2 ((20, echoed) ∷ (20, eleven 132) ∷ []))) (joined (eleven_passed 132 ∷ heard 22 0 nowhere ∷ heard 26 0 (via 20 1) ∷ []))
    -- each packet has its own sender and interface
    ∷ row (leaves single (burst (bundle (eleven 132 ++ eleven 132) (12 ∷ 12 ∷ []) (20 ∷ 28 ∷ []) (2 ∷ 0 ∷ []) 2))) (joined (eleven_passed 132 ∷ unheard 2 0 ∷ heard 26 0 (via 28 1) ∷ []))
    ∷ row (leaves single (burst (bundle (eleven 132 ++ eleven 132) (12 ∷ 12 ∷ []) (28 ∷ 20 ∷ []) (0 ∷ 2 ∷ []) 2))) (joined (eleven_passed 132 ∷ heard 26 0 (via 28 1) ∷ unheard 2 0 ∷ []))
    -- a burst sets the time as its packets do; one of none leaves it, and may have any time
    ∷ play single (hear_all 5 12 1 ((20, eleven 132) ∷ []) ∷ sweep 4 ∷ hear_all 4 12 1 ((20, eleven 133) ∷ []) ∷ question 901 ∷ []) (bundled 12 ∷ refused 3 ∷ bundled 0 ∷ told nowhere ∷ [])
    ∷ play single (sweep 7 ∷ hear_all 3 0 0 [] ∷ sweep 6 ∷ hear_all 9 0 0 [] ∷ sweep 8 ∷ []) (total 0 ∷ bundled 0 ∷ refused 3 ∷ bundled 0 ∷ total 0 ∷ [])
    -- 14: a list shorter or longer than the lengths; fewer rows than packets; a buffer longer or shorter than the sum, also where that wraps at 2^64
    ∷ play single
    (burst (bundle (eleven 132) (12 ∷ []) [] (0 ∷ []) 1)
    ∷ burst (bundle (eleven 132) (12 ∷ []) (20 ∷ 20 ∷ []) (0 ∷ []) 1)
    ∷ burst (bundle (eleven 132) (12 ∷ []) (20 ∷ []) [] 1)
    ∷ burst (bundle (eleven 132) (12 ∷ []) (20 ∷ []) (0 ∷ 0 ∷ []) 1)
    ∷ burst (bundle (eleven 132) (12 ∷ []) (20 ∷ []) (0 ∷ []) 0)
    ∷ burst (bundle (eleven 132) (11 ∷ []) (20 ∷ []) (0 ∷ []) 1)
    ∷ burst (bundle (eleven 132) (13 ∷ []) (20 ∷ []) (0 ∷ []) 1)
    ∷ burst (bundle (eleven 132) (18446744073709551615 ∷ 13 ∷ []) (20 ∷ 20 ∷ []) (0 ∷ 0 ∷ []) 2)
    ∷ burst (bundle (eleven 132) [] [] [] 0)
    ∷ question 900
    ∷ [])
    (refused 14 ∷ refused 14 ∷ refused 14 ∷ refused 14 ∷ refused 14 ∷ refused 14 ∷ refused 14 ∷ refused 14 ∷ refused 14 ∷ told (via 20 1) ∷ [])
    -- 32 packets and 33
    ∷ play single (burst (bundle [] (replicate 32 0) (replicate 32 20) (replicate 32 0) 32) ∷ burst (bundle [] (replicate 33 0) (replicate 33 20) (replicate 33 0) 33) ∷ []) (bundled 0 ∷ refused 14 ∷ [])
    -- a refused call answers its number, the place for 8 and 16 and 0 in every other field, and writes nothing
    ∷ row (refuses (receive (record { packet = relayed; sender = 20; interface = 0; time = 0; output = 9 ∷ 9 ∷ [] })) 8 3) (8 ∷ 3 ∷ 0 ∷ 0 ∷ 0 ∷ 0 ∷ 0 ∷ 9 ∷ 9 ∷ [])
    ∷ row (refuses (burst (bundle (eleven 132) (12 ∷ []) (20 ∷ []) [] 1)) 14 0) (joined (refused 14 ∷ replicate 12 0 ∷ replicate 7 9 ∷ []))
    ∷ row (refuses (own (record { interface = 1; time = 0; ttl = 3; gateway = 7; port = 258; hna = []; output = 9 ∷ 9 ∷ [] })) 8 3) (8 ∷ 3 ∷ 0 ∷ 0 ∷ 9 ∷ 9 ∷ [])
    ∷ row (refuses (sweep 7) 1 0) (1 ∷ 0 ∷ [])
    ∷ row (refuses (question 900) 1 0) (1 ∷ 0 ∷ 0 ∷ 0 ∷ 0 ∷ [])
    ∷ row (refuses (list 900 (blank ∷ [])) 1 0) (1 ∷ 0 ∷ 9 ∷ 9 ∷ 9 ∷ 9 ∷ 0 ∷ [])
    ∷ row (refuses (locate 900) 1 0) (1 ∷ 0 ∷ 0 ∷ 0 ∷ 0 ∷ [])
    ∷ []
