-- RULES 2, "Settings and limits": limits, settings, interface rows, and how many cells a table needs.
use Rattle.std.specs.Prelude.{ℕ, ◌+◌, ◌*◌, ◌≤◌, ◌≡◌, Bool, true, ◌&&◌, not, List, [], ◌∷◌, map, ltb, leb, eqb, length, get_or, take}
use Rattle.lists.specs.Lists.{and, all, elem}
use Rattle.window.specs.Window.{numbers}
use Rattle.rules.specs.declared.Settings.{Settings}
use Rattle.rules.specs.declared.Interface.{Interface}
use Rattle.rules.specs.declared.Policy.{Policy}

-- ---- limits

abbrev pub version_most : ℕ
version_most = 255

abbrev pub window_most : ℕ
window_most = 64

abbrev pub timeout_most : ℕ
timeout_most = 1000

abbrev pub purge_most : ℕ
purge_most = 4294967295

abbrev pub capacity_most : ℕ
capacity_most = 256

-- the tie's two values: a receiving link with as high a count as another becomes best, or the present best link stays (RULES 6.5)
abbrev pub newest_wins : ℕ
newest_wins = 0

abbrev pub present_stays : ℕ
present_stays = 1

abbrev pub tie_most : ℕ
tie_most = present_stays

abbrev pub interface_most : ℕ
interface_most = 4

abbrev pub neighbour_most : ℕ
neighbour_most = 32

-- links of one originator
abbrev pub link_most : ℕ
link_most = 8

-- HNA entries of one originator
abbrev pub entry_most : ℕ
entry_most = 16

-- packets of one burst
abbrev pub packets_most : ℕ
packets_most = 32

-- the least TTL of a packet that is passed on or written
abbrev pub ttl_least : ℕ
ttl_least = 2

-- ---- ranges of values: an octet, an address of four octets, a sequence number of two, a time of 64 bits (RULES 1.3)

abbrev pub octets : ℕ
octets = 256

abbrev pub is_octet : ℕ → Bool
is_octet n = ltb n octets

abbrev pub addresses : ℕ
addresses = 4294967296

abbrev pub is_address : ℕ → Bool
is_address n = ltb n addresses

abbrev pub is_number : ℕ → Bool
is_number n = ltb n numbers

abbrev pub is_time : ℕ → Bool
is_time n = ltb n 18446744073709551616

abbrev pub within : (low high n : ℕ) → Bool
within low high n = leb low n && leb n high

-- ---- settings and interfaces (RULES 2.1, 2.2)

abbrev pub defaults : Settings
defaults = record { version = 4; window = 64; timeout = 32; purge = 640000; capacity = 64; tie = present_stays }

-- what make is given: settings, the fixed row of four interfaces, and the number in use
pub record MakeArgs : Type 0 where
  pub settings : Settings
  pub rows : List Interface
  pub used : ℕ

-- what a table is made with: settings, and the interfaces in use, numbered from 0
pub record Config : Type 0 where
  pub settings : Settings
  pub interfaces : List Interface

-- rows beyond the number in use are ignored
abbrev pub config_of : MakeArgs → Config
config_of a = record { settings = a.settings; interfaces = take a.used a.rows }

-- the interface of a number
abbrev pub interface_at : Config → ℕ → Interface
interface_at κ i = get_or κ.interfaces i (record { own = 0; broadcast = 0; first = 0 })

abbrev pub is_in_use : Config → ℕ → Bool
is_in_use κ i = ltb i (length κ.interfaces)

abbrev pub own_addresses : Config → List ℕ
own_addresses κ = map (λ i. i.own) κ.interfaces

abbrev pub is_own : Config → ℕ → Bool
is_own κ a = elem a (own_addresses κ)

abbrev pub is_broadcast : Config → ℕ → Bool
is_broadcast κ a = elem a (map (λ i. i.broadcast) κ.interfaces)

-- no number stands twice
abbrev pub differ : List ℕ → Bool
differ [] = true
differ (x ∷ xs) = not (elem x xs) && differ xs

abbrev pub interface_tests : Interface → List Bool
interface_tests i = is_address i.own ∷ is_address i.broadcast ∷ is_number i.first ∷ []

-- the settings by themselves: make and the check of a table both ask this
abbrev pub settings_tests : Settings → List Bool
settings_tests σ =
    within 0 version_most σ.version
    ∷ within 1 window_most σ.window
    ∷ within 1 timeout_most σ.timeout
    ∷ within 1 purge_most σ.purge
    ∷ within 1 capacity_most σ.capacity
    ∷ within newest_wins tie_most σ.tie
    ∷ []

unfoldable pub settings_ok : Settings → Bool
settings_ok σ = and (settings_tests σ)

abbrev pub config_tests : Config → List Bool
config_tests κ =
    settings_ok κ.settings
    ∷ within 1 interface_most (length κ.interfaces)
    ∷ all (λ i. and (interface_tests i)) κ.interfaces
    ∷ differ (own_addresses κ)
    ∷ []

unfoldable pub allowed : Config → Bool
allowed κ = and (config_tests κ)

-- ---- what counting is told

-- the policy is that of the settings
pub record Follows (κ : Config) (p : Policy) : Type 0 where
  pub window : p.window ≡ κ.settings.window
  pub tie : p.tie ≡ κ.settings.tie

-- one that allowed settings have
pub record Bounded (p : Policy) : Type 0 where
  pub least : 1 ≤ p.window
  pub most : p.window ≤ window_most
  pub tie : p.tie ≤ tie_most

-- ---- cells, by the table's layout (RULES 2.4)

-- one for each setting
abbrev pub setting_cells : ℕ
setting_cells = 6

-- the settings, the number in use, the time, and how many neighbour rows and originators are held
abbrev pub head_cells : ℕ
head_cells = setting_cells + 4

-- own address, broadcast address, first number, whether it has sent, last sent number
abbrev pub interface_cells : ℕ
interface_cells = 5

-- the pair and the recorded number
abbrev pub neighbour_cells : ℕ
neighbour_cells = 2

-- address, current number, time, last TTL, how many links are held, the best link's pair, how many entries are held
abbrev pub record_head_cells : ℕ
record_head_cells = 7

-- the pair and the word of marks
abbrev pub link_cells : ℕ
link_cells = 2

-- areas have room for the most rows
abbrev pub interface_area_cells : ℕ
interface_area_cells = interface_most * interface_cells

abbrev pub neighbour_area_cells : ℕ
neighbour_area_cells = neighbour_most * neighbour_cells

abbrev pub link_area_cells : ℕ
link_area_cells = link_most * link_cells

-- a cell for each entry
abbrev pub entry_area_cells : ℕ
entry_area_cells = entry_most

-- all that stands before the records
abbrev pub table_head : ℕ
table_head = head_cells + interface_area_cells + neighbour_area_cells

abbrev pub record_cells : ℕ
record_cells = record_head_cells + link_area_cells + entry_area_cells

unfoldable pub cells_needed : (capacity : ℕ) → ℕ
cells_needed capacity = table_head + capacity * record_cells

-- what make asks, lent so many cells; 12 is given where one of it fails (RULES 7.1)
abbrev pub make_tests : (cells : ℕ) → MakeArgs → List Bool
make_tests cells a =
    allowed (config_of a)
    ∷ within 1 interface_most a.used
    ∷ eqb cells (cells_needed a.settings.capacity)
    ∷ []

unfoldable pub make_allowed : (cells : ℕ) → MakeArgs → Bool
make_allowed cells a = and (make_tests cells a)
