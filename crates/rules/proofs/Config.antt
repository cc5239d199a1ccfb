-- What allowed settings and interface rows say, part by part.
use Prim.Native.Nat.{ℕ, ◌+◌, ◌*◌, ◌≤◌, ◌<◌}
use mathlib.Core.Path.{◌≡◌, refl}
use mathlib.Core.Bool.{true}
use lib.Dec.{leb}
use lib.ListN.{length, get_or}
use native.Mathlib.Omega.{arith}
use borrow.Author.Tests.{leb-true, ltb-true}
use Rattle.lists.specs.Lists.{and, all}
use Rattle.lists.proofs.Tests.{and_left, and_right, both, and_at, all-at}
use Rattle.window.specs.Window.{numbers}
use Rattle.rules.specs.declared.Settings.{Settings}
use Rattle.rules.specs.Settings.{addresses, version_most, window_most, timeout_most, purge_most, capacity_most, newest_wins, tie_most, interface_most, within, differ, own_addresses, MakeArgs, Config, config_of, interface_at, interface_tests, settings_tests, settings_ok, config_tests, allowed, cells_needed, make_tests, make_allowed}

-- what a capacity needs is within the bound of RULES 2.4
pub cells-most : (capacity : ℕ) → cells_needed capacity ≤ 1024 + 256 * capacity
unfolding cells_needed
cells-most capacity = omega arith

-- what make allows is allowed
pub make-allowed : (cells : ℕ) (a : MakeArgs) → make_allowed cells a ≡ true → allowed (config_of a) ≡ true
unfolding make_allowed
make-allowed cells a h = and_at (make_tests cells a) h 0

pub within_low : (a b n : ℕ) → within a b n ≡ true → a ≤ n
within_low a b n h = leb-true a n (and_left (leb a n) (leb n b) h)

pub within-high : (a b n : ℕ) → within a b n ≡ true → n ≤ b
within-high a b n h = leb-true n b (and_right (leb a n) (leb n b) h)

-- ---- allowed settings

module _ (σ : Settings) (h : settings_ok σ ≡ true) where
  -- each test by its place
  at : (i : ℕ) → get_or (settings_tests σ) i true ≡ true
  unfolding settings_ok
  at = and_at (settings_tests σ) h

  pub version_most_lem : σ.version ≤ version_most
  version_most_lem = within-high 0 version_most σ.version (at 0)

  pub window-least : 1 ≤ σ.window
  window-least = within_low 1 window_most σ.window (at 1)

  pub window-most : σ.window ≤ window_most
  window-most = within-high 1 window_most σ.window (at 1)

  pub timeout-least : 1 ≤ σ.timeout
  timeout-least = within_low 1 timeout_most σ.timeout (at 2)

  pub timeout-most : σ.timeout ≤ timeout_most
  timeout-most = within-high 1 timeout_most σ.timeout (at 2)

  pub purge-most : σ.purge ≤ purge_most
  purge-most = within-high 1 purge_most σ.purge (at 3)

  pub capacity-most : σ.capacity ≤ capacity_most
  capacity-most = within-high 1 capacity_most σ.capacity (at 4)

  pub tie-most : σ.tie ≤ tie_most
  tie-most = within-high newest_wins tie_most σ.tie (at 5)

-- ---- allowed settings with allowed interfaces

-- from its parts
pub allowed_by : (κ : Config) → settings_ok κ.settings ≡ true → within 1 interface_most (length κ.interfaces) ≡ true
    → all (λ i. and (interface_tests i)) κ.interfaces ≡ true → differ (own_addresses κ) ≡ true → allowed κ ≡ true
unfolding allowed
allowed_by κ s n i d = both s (both n (both i (both d refl)))

module _ (κ : Config) (h : allowed κ ≡ true) where
  -- and its parts
  pub settings-allowed : settings_ok κ.settings ≡ true
  unfolding allowed
  settings-allowed = and_at (config_tests κ) h 0

  pub number-allowed : within 1 interface_most (length κ.interfaces) ≡ true
  unfolding allowed
  number-allowed = and_at (config_tests κ) h 1

  pub each-allowed : all (λ i. and (interface_tests i)) κ.interfaces ≡ true
  unfolding allowed
  each-allowed = and_at (config_tests κ) h 2

  pub own-differ : differ (own_addresses κ) ≡ true
  unfolding allowed
  own-differ = and_at (config_tests κ) h 3

  pub window-low : 1 ≤ κ.settings.window
  window-low = window-least κ.settings settings-allowed

  pub window-high : κ.settings.window ≤ window_most
  window-high = window-most κ.settings settings-allowed

  pub timeout-low : 1 ≤ κ.settings.timeout
  timeout-low = timeout-least κ.settings settings-allowed

  pub timeout-high : κ.settings.timeout ≤ timeout_most
  timeout-high = timeout-most κ.settings settings-allowed

  pub version_high : κ.settings.version ≤ version_most
  version_high = version_most_lem κ.settings settings-allowed

  pub interfaces-high : length κ.interfaces ≤ interface_most
  interfaces-high = within-high 1 interface_most (length κ.interfaces) number-allowed

  -- each test of an interface, also of one that is not in use, which is all zeros
  interface-at : (i k : ℕ) → get_or (interface_tests (interface_at κ i)) k true ≡ true
  interface-at i = and_at (interface_tests (interface_at κ i)) (all-at (λ j. and (interface_tests j)) (record { own = 0; broadcast = 0; first = 0 }) refl κ.interfaces each-allowed i)

  pub own-lt : (i : ℕ) → (interface_at κ i).own < addresses
  own-lt i = ltb-true (interface_at κ i).own addresses (interface-at i 0)

  pub first-lt : (i : ℕ) → (interface_at κ i).first < numbers
  first-lt i = ltb-true (interface_at κ i).first numbers (interface-at i 2)
