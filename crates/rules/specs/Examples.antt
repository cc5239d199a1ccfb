-- RULES 11, "Checked examples". A row asks a question and gives the answer that is due; one rule, `reply`, answers every question by the
-- table's reading and the calls. P1 to P12 are one table of such rows, the edges of the rules (`Edges`) another.
use Rattle.std.specs.Prelude.{ℕ, ◌+◌, ◌*◌, Bool, true, false, cond, List, [], ◌∷◌, ◌++◌, map, length, replicate}
use Rattle.lists.specs.Lists.{maybe, elem}
use Rattle.lists.specs.Keyed.{lookup, tabulate}
use Rattle.window.specs.Window.{distance, new, inside, stale, count, word, marks}
use Rattle.wire.specs.Layout.{flags_at, ttl_at}
use Rattle.wire.specs.Packet.{octet, header, packet_of}
use Rattle.wire.specs.Check.{packet_check}
use Rattle.rules.specs.declared.Settings.{Settings}
use Rattle.rules.specs.declared.Interface.{Interface}
use Rattle.rules.specs.declared.LinkRow.{LinkRow}
use Rattle.rules.specs.declared.Received.{Received}
use Rattle.rules.specs.declared.Route.{Route}
use Rattle.rules.specs.Settings.{newest_wins, present_stays, MakeArgs, Config}
use Rattle.rules.specs.Calls.{link_of, neighbour_of, Answer, made, received, burst_received, written, swept, asked, listed, located, received_as, BurstArgs, Call, make, receive, burst, own, Reply, refusal}
use Rattle.rules.specs.Rules.{Reading, StateOf, fresh, step}
use Rattle.rules.specs.Table.{TableRecord, TableState, row_distance, table}
use Rattle.rules.specs.WellFormed.{well_formed}

pub data Case : Type 0 where
  -- does n lie inside the window? 1 or 0
  lies : (W current n : ℕ) → Case
  -- is n new, is it inside, is it stale? 1 or 0 each
  tests : (W current n : ℕ) → Case
  -- is n a duplicate on a link with these marks? 1 or 0
  again : (W current : ℕ) (marks : List ℕ) (n : ℕ) → Case
  -- a record whose links, by neighbour, have these marks; then n arrives through a neighbour that has a row:
  -- the current number then, the best neighbour, and for each link its neighbour, its count and its marked numbers from the lowest
  arrives : (tie W current best : ℕ) (links : List (ℕ × List ℕ)) (neighbour n : ℕ) → Case
  -- a packet arrives, and no record is held: the flags and TTL octets of the copy, and every field of the answer
  passes : (has_row : Bool) (sender originator flags ttl : ℕ) → Case
  -- an interface that sent n, with a row that recorded m, sends once more: the number it sent last, the row's distance, and how many rows are left
  sends : (B n m : ℕ) → Case
  -- version, TTL, number and originator of a packet
  reads : (packet : List ℕ) → Case
  -- the packet check's answer to each of these packets
  checks : (version : ℕ) (packets : List (List ℕ)) → Case
  -- the answer to a make that is lent so many cells
  makes : (cells : ℕ) → MakeArgs → Case
  -- calls one after the other on a table: every field of each answer
  plays : TableState → List Call → Case
  -- what a call leaves in what it was lent: the output's octets, the fields of each row, and those of each answer row
  leaves : TableState → Call → Case
  -- every field of a refused call's answer, and what it leaves in what it was lent
  refuses : Call → (number place : ℕ) → Case
  -- is the table well-formed? 1 or 0
  formed : TableState → Case

-- several lists one after the other
abbrev pub joined : List (List ℕ) → List ℕ
joined [] = []
joined (x ∷ xs) = x ++ joined xs

-- ---- the stage of the examples: two interfaces, with a broadcast address each; the first has sent number 5; a packet comes from originator 900, at time 0

abbrev pub address : (a b c d : ℕ) → ℕ
address a b c d = ((a * 256 + b) * 256 + c) * 256 + d

abbrev pub interface : (own broadcast first : ℕ) → Interface
interface a b n = record { own = a; broadcast = b; first = n }

abbrev pub settings_by : (tie W B capacity : ℕ) → Settings
settings_by t W B n = record { version = 4; window = W; timeout = B; purge = 640000; capacity = n; tie = t }

-- newest wins, where a row doesn't name the tie
abbrev pub settings : (W B capacity : ℕ) → Settings
settings = settings_by newest_wins

abbrev pub config : Settings → Config
config σ =
    record { settings = σ; interfaces = interface (address 10 0 0 1) (address 10 0 0 255) 1 ∷ interface (address 10 0 0 2) (address 10 0 1 255) 65535 ∷ [] }

-- these neighbours have rows on the first interface, which recorded its last number
abbrev pub stage : Settings → (neighbours : List ℕ) → List (ℕ × TableRecord) → TableState
stage σ ns rs =
    record { config = config σ; time = 0; sends = (0, 5) ∷ []; rows = tabulate (λ l. 5) (map (λ a. link_of a 0) ns); records = rs }

-- a record with these marks for each neighbour, counted last at this time with TTL 50
abbrev pub record_with : (W current best time : ℕ) → List (ℕ × List ℕ) → TableRecord
record_with W c b t ls =
    record {
      current = c;
      time = t;
      last_ttl = 50;
      best = link_of b 0;
      links = map (λ (e : ℕ × List ℕ). (link_of e.0 0, word W (λ k. elem (distance c k) e.1))) ls;
      entries = [];
    }

abbrev pub packet : (originator flags ttl n : ℕ) → List ℕ
packet o f t n = packet_of (record { version = 4; flags = f; ttl = t; gateway = 0; sequence = n; port = 0; originator = o }) []

abbrev pub hear : (sender interface time room : ℕ) → List ℕ → Call
hear a i t n p = receive (record { packet = p; sender = a; interface = i; time = t; output = replicate n 0 })

-- an answer row as it is lent
abbrev pub unanswered : Received
unanswered = received_as 9 9 9 (record { neighbour = 9; interface = 9; count = 9; window = 9 })

-- a burst of this buffer and these lists, at time 0, with an output of 12 octets and so many rows
abbrev pub bundle : (buffer lengths senders interfaces : List ℕ) (rows : ℕ) → BurstArgs
bundle b ns ss is n = record { octets = b; lengths = ns; senders = ss; interfaces = is; time = 0; output = replicate 12 0; answers = replicate n unanswered }

-- a burst of packets from these senders, by the first interface
abbrev pub hear_all : (time room rows : ℕ) → List (ℕ × List ℕ) → Call
hear_all t m n ps =
    burst (record {
      octets = joined (map (λ (p : ℕ × List ℕ). p.1) ps);
      lengths = map (λ (p : ℕ × List ℕ). length p.1) ps;
      senders = map (λ (p : ℕ × List ℕ). p.0) ps;
      interfaces = map (λ (p : ℕ × List ℕ). 0) ps;
      time = t;
      output = replicate m 0;
      answers = replicate n unanswered;
    })

abbrev pub write : (interface time ttl room : ℕ) → (hna : List ℕ) → Call
write i t l n e = own (record { interface = i; time = t; ttl = l; gateway = 0; port = 0; hna = e; output = replicate n 0 })

abbrev pub links_shown : (W current : ℕ) → List (ℕ × ℕ) → List ℕ
links_shown W c [] = []
links_shown W c (e ∷ es) = neighbour_of e.0 ∷ count e.1 ∷ (marks W e.1 c ++ links_shown W c es)

abbrev pub flag : Bool → List ℕ
flag b = cond b (1 ∷ []) (0 ∷ [])

-- ---- every field of an answer, in the order of its struct

abbrev pub route_shown : Route → List ℕ
route_shown x = x.neighbour ∷ x.interface ∷ x.count ∷ x.window ∷ []

abbrev pub answer_shown : Answer → List ℕ
answer_shown (made n) = n ∷ []
answer_shown (received a) = a.number ∷ a.place ∷ a.flags ∷ route_shown a.route
answer_shown (burst_received a) = a.number ∷ a.written ∷ []
answer_shown (written a) = a.number ∷ a.place ∷ a.length ∷ a.sequence ∷ []
answer_shown (swept a) = a.number ∷ a.removed ∷ []
answer_shown (asked a) = a.number ∷ route_shown a.route
answer_shown (listed a) = a.number ∷ a.filled ∷ []
answer_shown (located a) = a.number ∷ a.found ∷ a.originator ∷ a.network ∷ a.mask ∷ []

abbrev pub rows_shown : List LinkRow → List ℕ
rows_shown [] = []
rows_shown (r ∷ rs) = r.neighbour ∷ r.interface ∷ r.count ∷ r.window ∷ r.best ∷ rows_shown rs

abbrev pub answers_shown : List Received → List ℕ
answers_shown [] = []
answers_shown (a ∷ rest) = answer_shown (received a) ++ answers_shown rest

-- what a call leaves in what it was lent
abbrev pub lent_shown : Reply → List ℕ
lent_shown x = x.output ++ (rows_shown x.rows ++ answers_shown x.answers)

-- calls one after the other on a table of so many cells
abbrev pub played : (W : Reading) (cells : ℕ) → StateOf W → List Call → List ℕ
played W n s [] = []
played W n s (c ∷ cs) = answer_shown (step W n s c).reply.answer ++ played W n (step W n s c).state cs

abbrev pub reply : Case → List ℕ
reply (lies W c n) = flag (inside W c n)
reply (tests W c n) = flag (new W c n) ++ (flag (inside W c n) ++ flag (stale W c n))
reply (again W c ms n) = flag (table.duplicate (config (settings W 32 64)) (record_with W c 20 0 ((20, ms) ∷ [])) (link_of 20 0) n)
reply (arrives t W c b ls a n) =
    let s = stage (settings_by t W 32 64) (20 ∷ 30 ∷ 40 ∷ []) ((900, record_with W c b 0 ls) ∷ []) in
    maybe (lookup 900 (step table 0 s (hear a 0 0 12 (packet 900 0 50 n))).state.records) []
    (λ r. r.current ∷ neighbour_of r.best ∷ links_shown W r.current r.links)
reply (passes b a o f t) =
    let x = (step table 0 (stage (settings 8 32 64) (cond b (a ∷ []) []) []) (hear a 0 0 12 (packet o f t 300))).reply in
    octet x.output flags_at ∷ octet x.output ttl_at ∷ answer_shown x.answer
reply (sends B n m) =
    let s : TableState = record { config = config (settings 8 B 64); time = 0; sends = (0, n) ∷ []; rows = (link_of 20 0, m) ∷ []; records = [] } in
    let t = (step table 0 s (write 0 0 50 12 [])).state in
    maybe (lookup 0 t.sends) 0 (λ k. k) ∷ row_distance t.config t.sends (link_of 20 0, m) ∷ length t.rows ∷ []
reply (reads p) = (header p).version ∷ (header p).ttl ∷ (header p).sequence ∷ (header p).originator ∷ []
reply (checks v ps) = map (packet_check v) ps
reply (makes n a) = answer_shown (step table n (fresh table (config (settings 8 32 64))) (make a)).reply.answer
reply (plays s cs) = played table 0 s cs
reply (formed s) = flag (well_formed s)
reply (leaves s c) = lent_shown (step table 0 s c).reply
reply (refuses c n p) = let x = refusal c (record { number = n; place = p }) in answer_shown x.answer ++ lent_shown x

-- ---- answers that are due, every field as its number

-- the sequence test's three
abbrev pub is_new : List ℕ
is_new = 1 ∷ 0 ∷ 0 ∷ []

abbrev pub is_inside : List ℕ
is_inside = 0 ∷ 1 ∷ 0 ∷ []

abbrev pub is_stale : List ℕ
is_stale = 0 ∷ 0 ∷ 1 ∷ []

-- "no route", and the route through a neighbour of the first interface where W is 8
abbrev pub nowhere : List ℕ
nowhere = 0 ∷ 0 ∷ 0 ∷ 0 ∷ []

abbrev pub via : (neighbour count : ℕ) → List ℕ
via a n = a ∷ 0 ∷ n ∷ 8 ∷ []

-- a received packet's verdict, the flags elsewhere and the route; and its refusal
abbrev pub heard : (verdict flags : ℕ) → (route : List ℕ) → List ℕ
heard v f x = v ∷ 0 ∷ f ∷ x

abbrev pub unheard : (number place : ℕ) → List ℕ
unheard n p = n ∷ p ∷ 0 ∷ nowhere

-- an own packet's length and number; and its refusal
abbrev pub wrote : (length sequence : ℕ) → List ℕ
wrote l n = 0 ∷ 0 ∷ l ∷ n ∷ []

abbrev pub unwritten : (number place : ℕ) → List ℕ
unwritten n p = n ∷ p ∷ 0 ∷ 0 ∷ []

-- how many records a sweep removed, or rows a list call filled; and the refusal of either
abbrev pub total : ℕ → List ℕ
total n = 0 ∷ n ∷ []

abbrev pub refused : (number : ℕ) → List ℕ
refused n = n ∷ 0 ∷ []

-- how many octets a burst wrote
abbrev pub bundled : (written : ℕ) → List ℕ
bundled w = 0 ∷ w ∷ []

-- what the best question answers
abbrev pub told : (route : List ℕ) → List ℕ
told x = 0 ∷ x

-- what the lookup answers: the originator and entry that serve the address; or none
abbrev pub found : (originator network mask : ℕ) → List ℕ
found o a m = 0 ∷ 1 ∷ o ∷ a ∷ m ∷ []

abbrev pub unfound : List ℕ
unfound = 0 ∷ 0 ∷ 0 ∷ 0 ∷ 0 ∷ []

-- ---- P1 to P12; A is neighbour 20, B is 30, C is 40. Where a link is counted in a record that is held, the row names the tie

pub record Row : Type 0 where
  pub poses : Case
  pub says : List ℕ

abbrev pub row : Case → List ℕ → Row
row a s = record { poses = a; says = s }

unfoldable pub examples : List Row
examples =
    -- P1
    row (lies 8 10 3) (1 ∷ [])
    ∷ row (lies 8 10 2) (0 ∷ [])
    ∷ row (lies 8 10 11) (0 ∷ [])
    -- P2
    ∷ row (lies 8 5 65534) (1 ∷ [])
    ∷ row (lies 8 5 65533) (0 ∷ [])
    -- P3
    ∷ row (arrives present_stays 8 10 20 ((20, 3 ∷ 7 ∷ 10 ∷ []) ∷ []) 20 12) (12 ∷ 20 ∷ 20 ∷ 3 ∷ 7 ∷ 10 ∷ 12 ∷ [])
    -- P4
    ∷ row (arrives present_stays 8 10 20 ((20, 10 ∷ []) ∷ []) 20 17) (17 ∷ 20 ∷ 20 ∷ 2 ∷ 10 ∷ 17 ∷ [])
    ∷ row (arrives present_stays 8 10 20 ((20, 10 ∷ []) ∷ []) 20 18) (18 ∷ 20 ∷ 20 ∷ 1 ∷ 18 ∷ [])
    -- P5: 2 is stale, and changes nothing
    ∷ row (tests 8 10 2) is_stale
    ∷ row (arrives present_stays 8 10 20 ((20, 10 ∷ []) ∷ []) 20 2) (10 ∷ 20 ∷ 20 ∷ 1 ∷ 10 ∷ [])
    -- P6
    ∷ row (again 1 10 (10 ∷ []) 10) (1 ∷ [])
    -- P7
    ∷ row (arrives present_stays 8 10 20 ((20, 3 ∷ 4 ∷ 5 ∷ []) ∷ (40, 9 ∷ 10 ∷ []) ∷ []) 30 12)
    (12 ∷ 20 ∷ 20 ∷ 1 ∷ 5 ∷ 30 ∷ 1 ∷ 12 ∷ 40 ∷ 2 ∷ 9 ∷ 10 ∷ [])
    -- P8, and its twin under present link stays
    ∷ row (arrives newest_wins 8 10 20 ((20, 9 ∷ 10 ∷ []) ∷ (40, 9 ∷ []) ∷ []) 40 10) (10 ∷ 40 ∷ 20 ∷ 2 ∷ 9 ∷ 10 ∷ 40 ∷ 2 ∷ 9 ∷ 10 ∷ [])
    ∷ row (arrives present_stays 8 10 20 ((20, 9 ∷ 10 ∷ []) ∷ (40, 9 ∷ []) ∷ []) 40 10) (10 ∷ 20 ∷ 20 ∷ 2 ∷ 9 ∷ 10 ∷ 40 ∷ 2 ∷ 9 ∷ 10 ∷ [])
    -- P9
    ∷ row (passes false 900 900 0 50) (192 ∷ 49 ∷ heard 26 0 nowhere)
    -- P10
    ∷ row (passes true 20 900 69 50) (5 ∷ 49 ∷ heard 26 5 (via 20 1))
    -- P11
    ∷ row (sends 4 2 65535) (3 ∷ 4 ∷ 0 ∷ [])
    ∷ row (sends 5 2 65535) (3 ∷ 4 ∷ 1 ∷ [])
    -- P12
    ∷ row (reads (4 ∷ 0 ∷ 50 ∷ 0 ∷ 1 ∷ 44 ∷ 0 ∷ 0 ∷ 10 ∷ 1 ∷ 0 ∷ 7 ∷ [])) (4 ∷ 50 ∷ 300 ∷ address 10 1 0 7 ∷ [])
    ∷ []
