-- Short histories with the answers that are due, which both readings give. W is 8; neighbours 20, 30 and 40; originators 900 and 901.
use Rattle.std.specs.Prelude.{ℕ, List, [], ◌∷◌, ◌++◌, map, replicate}
use Rattle.rules.specs.declared.Settings.{Settings}
use Rattle.rules.specs.Settings.{newest_wins, present_stays, cells_needed}
use Rattle.rules.specs.Calls.{Call, make, sweep, question, list, locate}
use Rattle.rules.specs.Rules.{Reading, fresh}
use Rattle.rules.specs.Examples.{address, settings_by, settings, config, packet, hear_all, hear, write, played, nowhere, via, heard, unheard, wrote, unwritten, total, bundled, told, joined}
use Rattle.rules.specs.Edges.{make_args, up_from, blank}

pub record History : Type 0 where
  pub settings : Settings
  pub calls : List Call
  pub says : List ℕ

abbrev pub history : Settings → List Call → List (List ℕ) → History
history σ cs xs = record { settings = σ; calls = cs; says = joined xs }

-- on a fresh table, or in a book that starts with it
abbrev pub answers : Reading → History → List ℕ
answers W h = played W (cells_needed h.settings.capacity) (fresh W (config h.settings)) h.calls

-- the first interface sends; it hears its packet n echoed, an OGM with number n, and one with another TTL
abbrev pub send : Call
send = write 0 0 50 12 []

abbrev pub echo : (sender n : ℕ) → Call
echo a n = hear a 0 0 12 (packet (address 10 0 0 1) 64 50 n)

abbrev pub ogm : (sender n : ℕ) → Call
ogm a n = hear a 0 0 12 (packet 900 0 50 n)

abbrev pub ogm_ttl : (sender n ttl : ℕ) → Call
ogm_ttl a n t = hear a 0 0 12 (packet 900 0 t n)

-- an echo that is taken: no record is held of its originator
abbrev pub echo_taken : List ℕ
echo_taken = heard 22 0 nowhere

-- an entry's octets, its network's and its mask
abbrev pub entry : (a b c d mask : ℕ) → List ℕ
entry a b c d m = a ∷ b ∷ c ∷ d ∷ m ∷ []

-- an OGM of originator o with number n and these entries; the output has room for 17
abbrev pub announce : (sender o n : ℕ) → (entries : List (List ℕ)) → Call
announce a o n es = hear a 0 0 97 (packet o 0 50 n ++ joined es)

-- the lookup's answer: the originator and the entry; or that none covers the address
abbrev pub serves : (o a b c d mask : ℕ) → List ℕ
serves o a b c d m = 0 ∷ 1 ∷ o ∷ address a b c d ∷ m ∷ []

abbrev pub none_covers : List ℕ
none_covers = 0 ∷ 0 ∷ 0 ∷ 0 ∷ 0 ∷ []

-- so many entries that do not cover 10.1.0.7, and behind them one that does
abbrev pub last_of : (others : ℕ) → List (List ℕ)
last_of n = replicate n (entry 9 0 0 0 8) ++ (entry 10 1 0 0 16 ∷ [])

-- 9 and 10 by way of 20 and of 30, and 11 by 30 alone
abbrev pub draws_level : List Call
draws_level = send ∷ echo 20 1 ∷ echo 30 1 ∷ ogm 20 9 ∷ ogm 30 9 ∷ ogm 20 10 ∷ ogm 30 10 ∷ ogm 30 11 ∷ list 900 (replicate 2 blank) ∷ []

unfoldable pub histories : List History
histories =
    -- best is not the maximum: 20 stays best, even with count 0, and is held
    history (settings 8 32 64)
    (send ∷ echo 20 1 ∷ echo 30 1 ∷ echo 40 1 ∷ ogm 20 3 ∷ ogm 20 4 ∷ ogm 20 5 ∷ ogm 40 9 ∷ ogm 40 10 ∷ ogm 30 14 ∷ question 900 ∷ list 900 (replicate 3 blank) ∷ [])
    (wrote 12 1 ∷ echo_taken ∷ echo_taken ∷ echo_taken ∷ heard 26 0 (via 20 1) ∷ heard 26 0 (via 20 2) ∷ heard 26 0 (via 20 3) ∷ heard 25 0 (via 20 3) ∷ heard 25 0 (via 20 3) ∷ heard 25 0 (via 20 0) ∷ told (via 20 0) ∷ total 3 ∷ [])
    -- a link with no mark that isn't best is not
    ∷ history (settings 8 32 64)
    (send ∷ echo 20 1 ∷ echo 30 1 ∷ ogm 20 10 ∷ ogm 30 11 ∷ ogm 30 19 ∷ list 900 (replicate 3 blank) ∷ [])
    (wrote 12 1 ∷ echo_taken ∷ echo_taken ∷ heard 26 0 (via 20 1) ∷ heard 26 0 (via 30 1) ∷ heard 26 0 (via 30 1) ∷ total 1 ∷ [])
    -- the window moves up; the first number below it is stale and leaves it
    ∷ history (settings 8 32 64)
    (send ∷ echo 20 1 ∷ ogm 20 10 ∷ ogm 20 17 ∷ question 900 ∷ ogm 20 18 ∷ question 900 ∷ ogm 20 10 ∷ question 900 ∷ [])
    (wrote 12 1 ∷ echo_taken ∷ heard 26 0 (via 20 1) ∷ heard 26 0 (via 20 2) ∷ told (via 20 2) ∷ heard 26 0 (via 20 2) ∷ told (via 20 2) ∷ heard 27 0 (via 20 2) ∷ told (via 20 2) ∷ [])
    -- half way is stale, 32,767 above is new; then the old numbers are stale, by any link
    ∷ history (settings 8 32 64)
    (send ∷ echo 20 1 ∷ echo 30 1 ∷ ogm 20 10 ∷ ogm 20 32778 ∷ ogm 30 2 ∷ ogm 900 2 ∷ list 900 (replicate 2 blank) ∷ ogm 20 32777 ∷ ogm 20 11 ∷ ogm 30 10 ∷ question 900 ∷ list 900 (replicate 2 blank) ∷ [])
    (wrote 12 1 ∷ echo_taken ∷ echo_taken ∷ heard 26 0 (via 20 1) ∷ heard 27 0 (via 20 1) ∷ heard 27 0 (via 20 1) ∷ heard 27 0 (via 20 1) ∷ total 1 ∷ heard 26 0 (via 20 1) ∷ heard 27 0 (via 20 1) ∷ heard 27 0 (via 20 1) ∷ told (via 20 1) ∷ total 1 ∷ [])
    -- a node that starts anew is stale, which renews nothing, until a sweep removes its record
    ∷ history (settings 8 32 64)
    (send ∷ echo 20 1 ∷ ogm 20 100 ∷ hear 20 0 640000 12 (packet 900 0 49 1) ∷ sweep 640000 ∷ hear 20 0 640000 12 (packet 900 0 50 100) ∷ sweep 640001 ∷ hear 20 0 640001 12 (packet 900 0 50 2) ∷ question 900 ∷ [])
    (wrote 12 1 ∷ echo_taken ∷ heard 26 0 (via 20 1) ∷ heard 27 0 (via 20 1) ∷ total 0 ∷ heard 26 0 (via 20 1) ∷ total 1 ∷ heard 26 0 (via 20 1) ∷ told (via 20 1) ∷ [])
    -- a number inside does not move it
    ∷ history (settings 8 32 64)
    (send ∷ echo 20 1 ∷ echo 30 1 ∷ ogm 20 10 ∷ ogm 30 5 ∷ ogm 20 12 ∷ question 900 ∷ [])
    (wrote 12 1 ∷ echo_taken ∷ echo_taken ∷ heard 26 0 (via 20 1) ∷ heard 26 0 (via 30 1) ∷ heard 26 0 (via 20 2) ∷ told (via 20 2) ∷ [])
    -- duplicates, by link, and the last TTL
    ∷ history (settings 8 32 64)
    (send ∷ echo 20 1 ∷ echo 30 1 ∷ ogm 20 10 ∷ ogm 20 10 ∷ ogm_ttl 20 10 49 ∷ ogm_ttl 30 10 49 ∷ ogm 20 10 ∷ ogm_ttl 30 10 49 ∷ question 900 ∷ [])
    (wrote 12 1 ∷ echo_taken ∷ echo_taken ∷ heard 26 0 (via 20 1) ∷ heard 26 0 (via 20 1) ∷ heard 25 0 (via 20 1) ∷ heard 26 0 (via 30 1) ∷ heard 25 0 (via 30 1) ∷ heard 26 0 (via 30 1) ∷ told (via 30 1) ∷ [])
    -- B is 2: a row lasts one own packet; an echo begins anew; the other interface's packets don't matter
    ∷ history (settings 8 2 64)
    (send ∷ echo 20 1 ∷ send ∷ ogm 20 10 ∷ send ∷ ogm 20 11 ∷ question 900 ∷ [])
    (wrote 12 1 ∷ echo_taken ∷ wrote 12 2 ∷ heard 26 0 (via 20 1) ∷ wrote 12 3 ∷ heard 25 0 (via 20 1) ∷ told (via 20 1) ∷ [])
    ∷ history (settings 8 2 64)
    (send ∷ echo 20 1 ∷ send ∷ echo 20 2 ∷ send ∷ ogm 20 10 ∷ write 1 0 50 12 [] ∷ ogm 20 11 ∷ question 900 ∷ [])
    (wrote 12 1 ∷ echo_taken ∷ wrote 12 2 ∷ echo_taken ∷ wrote 12 3 ∷ heard 26 0 (via 20 1) ∷ wrote 12 65535 ∷ heard 26 0 (via 20 2) ∷ told (via 20 2) ∷ [])
    -- one originator is held until it is swept
    ∷ history (settings 8 32 1)
    (send ∷ echo 20 1 ∷ ogm 20 10 ∷ hear 20 0 0 12 (packet 901 0 50 10) ∷ sweep 640000 ∷ sweep 640001 ∷ question 900 ∷ hear 20 0 640001 12 (packet 901 0 50 10) ∷ [])
    (wrote 12 1 ∷ echo_taken ∷ heard 26 0 (via 20 1) ∷ unheard 10 0 ∷ total 0 ∷ total 1 ∷ told nowhere ∷ heard 26 0 (via 20 1) ∷ [])
    -- equal counts: 10 via 30 draws level with 20, then 11 via 30 takes 30 above it; under present link stays 30 is best only then
    ∷ history (settings_by newest_wins 8 32 64) draws_level
    (wrote 12 1 ∷ echo_taken ∷ echo_taken ∷ heard 26 0 (via 20 1) ∷ heard 26 0 (via 30 1) ∷ heard 26 0 (via 20 2) ∷ heard 26 0 (via 30 2) ∷ heard 26 0 (via 30 3) ∷ total 2 ∷ [])
    ∷ history (settings_by present_stays 8 32 64) draws_level
    (wrote 12 1 ∷ echo_taken ∷ echo_taken ∷ heard 26 0 (via 20 1) ∷ heard 25 0 (via 20 1) ∷ heard 26 0 (via 20 2) ∷ heard 25 0 (via 20 2) ∷ heard 26 0 (via 30 3) ∷ total 2 ∷ [])
    -- a burst: an echo, two numbers over its link and one of them again; then one that is refused
    ∷ history (settings 8 32 64)
    (send ∷ hear_all 0 48 4 ((20, packet (address 10 0 0 1) 64 50 1) ∷ (20, packet 900 0 50 10) ∷ (20, packet 900 0 50 11) ∷ (20, packet 900 0 49 10) ∷ []) ∷ hear_all 0 48 0 ((20, packet 900 0 50 12) ∷ []) ∷ question 900 ∷ [])
    (wrote 12 1 ∷ bundled 24 ∷ (14 ∷ 0 ∷ []) ∷ told (via 20 2) ∷ [])
    -- a refused make changes nothing, another starts anew
    ∷ history (settings 8 32 64)
    (send ∷ echo 20 1 ∷ ogm 20 10 ∷ make (make_args (settings 8 32 64) 0 (1 ∷ [])) ∷ question 900 ∷ make (make_args (settings 8 32 64) 1 (1 ∷ [])) ∷ question 900 ∷ send ∷ [])
    (wrote 12 1 ∷ echo_taken ∷ heard 26 0 (via 20 1) ∷ (12 ∷ []) ∷ told (via 20 1) ∷ (0 ∷ []) ∷ told nowhere ∷ wrote 12 1 ∷ [])
    -- entries: a number inside the window leaves the list, also by another link; a new number replaces it, also where it brings none; a stale one leaves it
    ∷ history (settings 8 32 64)
    (send ∷ echo 20 1 ∷ echo 30 1 ∷ announce 20 900 10 (entry 10 1 0 0 16 ∷ []) ∷ locate (address 10 1 0 7) ∷ announce 30 900 9 (entry 10 2 0 0 16 ∷ []) ∷ announce 30 900 10 (entry 10 2 0 0 16 ∷ []) ∷ locate (address 10 1 0 7) ∷ locate (address 10 2 0 7) ∷ announce 20 900 11 (entry 10 2 0 0 16 ∷ []) ∷ locate (address 10 1 0 7) ∷ locate (address 10 2 0 7) ∷ announce 20 900 12 [] ∷ locate (address 10 2 0 7) ∷ announce 20 900 13 (entry 10 4 0 0 16 ∷ []) ∷ announce 20 900 5 (entry 10 3 0 0 16 ∷ []) ∷ locate (address 10 3 0 7) ∷ locate (address 10 4 0 7) ∷ [])
    (wrote 12 1 ∷ echo_taken ∷ echo_taken ∷ heard 26 0 (via 20 1) ∷ serves 900 10 1 0 0 16 ∷ heard 26 0 (via 30 1) ∷ heard 26 0 (via 30 2) ∷ serves 900 10 1 0 0 16 ∷ none_covers ∷ heard 26 0 (via 20 2) ∷ none_covers ∷ serves 900 10 2 0 0 16 ∷ heard 26 0 (via 20 3) ∷ none_covers ∷ heard 26 0 (via 20 4) ∷ heard 27 0 (via 20 4) ∷ none_covers ∷ serves 900 10 4 0 0 16 ∷ [])
    -- one that is not counted leaves it: a duplicate, and a new number by a link without a neighbour row
    ∷ history (settings 8 32 64)
    (send ∷ echo 20 1 ∷ announce 20 900 10 (entry 10 1 0 0 16 ∷ []) ∷ announce 20 900 10 (entry 10 2 0 0 16 ∷ []) ∷ announce 40 900 11 (entry 10 2 0 0 16 ∷ []) ∷ locate (address 10 1 0 7) ∷ locate (address 10 2 0 7) ∷ [])
    (wrote 12 1 ∷ echo_taken ∷ heard 26 0 (via 20 1) ∷ heard 26 0 (via 20 1) ∷ heard 25 0 (via 20 1) ∷ serves 900 10 1 0 0 16 ∷ none_covers ∷ [])
    -- a lookup goes by the longest mask, of equal masks by the smaller originator; an entry may stand in the list twice
    ∷ history (settings 8 32 64)
    (send ∷ echo 20 1 ∷ locate 0 ∷ announce 20 901 10 (entry 10 0 0 0 8 ∷ entry 10 1 0 0 24 ∷ entry 10 1 0 7 32 ∷ []) ∷ announce 20 900 10 (entry 10 0 0 0 8 ∷ entry 10 1 0 0 16 ∷ entry 10 1 0 0 16 ∷ []) ∷ locate (address 10 1 0 7) ∷ locate (address 10 1 0 6) ∷ locate (address 10 1 1 7) ∷ locate (address 10 2 0 7) ∷ locate (address 11 0 0 0) ∷ locate 0 ∷ [])
    (wrote 12 1 ∷ echo_taken ∷ none_covers ∷ heard 26 0 (via 20 1) ∷ heard 26 0 (via 20 1) ∷ serves 901 10 1 0 7 32 ∷ serves 901 10 1 0 0 24 ∷ serves 900 10 1 0 0 16 ∷ serves 900 10 0 0 0 8 ∷ none_covers ∷ none_covers ∷ [])
    -- mask 0 covers every address, 0 among them
    ∷ history (settings 8 32 64)
    (send ∷ echo 20 1 ∷ announce 20 900 10 (entry 0 0 0 0 32 ∷ entry 0 0 0 0 0 ∷ []) ∷ locate 0 ∷ locate 1 ∷ locate (address 255 255 255 255) ∷ [])
    (wrote 12 1 ∷ echo_taken ∷ heard 26 0 (via 20 1) ∷ serves 900 0 0 0 0 32 ∷ serves 900 0 0 0 0 0 ∷ serves 900 0 0 0 0 0 ∷ [])
    -- a sweep removes the entries with their record, a make all of them
    ∷ history (settings 8 32 64)
    (send ∷ echo 20 1 ∷ announce 20 900 10 (entry 10 1 0 0 16 ∷ []) ∷ sweep 640000 ∷ locate (address 10 1 0 7) ∷ sweep 640001 ∷ locate (address 10 1 0 7) ∷ [])
    (wrote 12 1 ∷ echo_taken ∷ heard 26 0 (via 20 1) ∷ total 0 ∷ serves 900 10 1 0 0 16 ∷ total 1 ∷ none_covers ∷ [])
    ∷ history (settings 8 32 64)
    (send ∷ echo 20 1 ∷ announce 20 900 10 (entry 10 1 0 0 16 ∷ []) ∷ locate (address 10 1 0 7) ∷ make (make_args (settings 8 32 64) 1 (1 ∷ [])) ∷ locate (address 10 1 0 7) ∷ [])
    (wrote 12 1 ∷ echo_taken ∷ heard 26 0 (via 20 1) ∷ serves 900 10 1 0 0 16 ∷ (0 ∷ []) ∷ none_covers ∷ [])
    -- 15: 17 entries of an OGM that would make the record or has a new number; nothing changes
    -- 16 are kept; 17 of one that is counted inside the window, is a duplicate or comes by a link without a neighbour row are not refused
    ∷ history (settings 8 32 64)
    (send ∷ echo 20 1 ∷ announce 20 900 10 (last_of 16) ∷ question 900 ∷ locate (address 10 1 0 7) ∷ announce 20 900 10 (last_of 15) ∷ locate (address 10 1 0 7) ∷ announce 20 900 11 (last_of 16) ∷ question 900 ∷ announce 20 900 9 (replicate 17 (entry 10 1 0 0 24)) ∷ announce 20 900 9 (last_of 16) ∷ announce 40 900 11 (last_of 16) ∷ locate (address 10 1 0 7) ∷ question 900 ∷ [])
    (wrote 12 1 ∷ echo_taken ∷ unheard 15 0 ∷ told nowhere ∷ none_covers ∷ heard 26 0 (via 20 1) ∷ serves 900 10 1 0 0 16 ∷ unheard 15 0 ∷ told (via 20 1) ∷ heard 26 0 (via 20 2) ∷ heard 26 0 (via 20 2) ∷ heard 25 0 (via 20 2) ∷ serves 900 10 1 0 0 16 ∷ told (via 20 2) ∷ [])
    -- 16: a host bit in an OGM that would make the record, has a new number, is inside the window or is a duplicate; nothing changes; then one without
    ∷ history (settings 8 32 64)
    (send ∷ echo 20 1 ∷ announce 20 900 10 (entry 10 1 0 0 16 ∷ entry 10 1 0 7 16 ∷ []) ∷ question 900 ∷ announce 20 900 10 (entry 10 1 0 0 16 ∷ []) ∷ announce 20 900 11 (entry 10 2 0 7 16 ∷ []) ∷ announce 20 900 9 (entry 10 2 0 7 16 ∷ []) ∷ announce 20 900 10 (entry 10 2 0 7 16 ∷ []) ∷ question 900 ∷ locate (address 10 1 0 7) ∷ locate (address 10 2 0 7) ∷ [])
    (wrote 12 1 ∷ echo_taken ∷ unheard 16 1 ∷ told nowhere ∷ heard 26 0 (via 20 1) ∷ unheard 16 0 ∷ unheard 16 0 ∷ unheard 16 0 ∷ told (via 20 1) ∷ serves 900 10 1 0 0 16 ∷ none_covers ∷ [])
    -- of our own packets: the number is not used up
    ∷ history (settings 8 32 64) (send ∷ write 0 0 50 17 (entry 10 1 0 7 16) ∷ write 0 0 50 17 (entry 10 1 0 0 16) ∷ []) (wrote 12 1 ∷ unwritten 16 0 ∷ wrote 17 2 ∷ [])
    -- 15 comes after 10, where capacity is 1, and after 11, where the links by way of 20 to 27 have marks and that of 28 would be the ninth
    ∷ history (settings 8 32 1)
    (send ∷ echo 20 1 ∷ announce 20 900 10 [] ∷ announce 20 901 10 (last_of 16) ∷ [])
    (wrote 12 1 ∷ echo_taken ∷ heard 26 0 (via 20 1) ∷ unheard 10 0 ∷ [])
    ∷ history (settings 8 32 64)
    (send ∷ (map (λ a. echo a 1) (up_from 20 9) ++ (map (λ a. ogm a 10) (up_from 20 8) ++ (announce 28 900 11 (last_of 16) ∷ []))))
    (wrote 12 1 ∷ (replicate 9 echo_taken ++ (map (λ a. heard 26 0 (via a 1)) (up_from 20 8) ++ (unheard 11 0 ∷ []))))
    ∷ []
