-- A link's number and its pair.
use Prim.Native.Nat.{ℕ, ◌<◌}
use mathlib.Core.Path.{◌≡◌}
use native.Mathlib.Omega.{arith}
use Rattle.rules.specs.Settings.{interface_most}
use Rattle.rules.specs.Calls.{link_of, neighbour_of, interface_of}

module _ (a i : ℕ) (h : i < interface_most) where
  pub neighbour_of_lem : neighbour_of (link_of a i) ≡ a
  unfolding neighbour_of link_of
  neighbour_of_lem = omega arith

  pub interface_of_lem : interface_of (link_of a i) ≡ i
  unfolding interface_of link_of
  interface_of_lem = omega arith

-- links rise by address, then interface
pub by_address : (a b i j : ℕ) → i < interface_most → a < b → link_of a i < link_of b j
unfolding link_of
by_address a b i j h l = omega arith

pub by_interface : (a i j : ℕ) → i < j → link_of a i < link_of a j
unfolding link_of
by_interface a i j l = omega arith
