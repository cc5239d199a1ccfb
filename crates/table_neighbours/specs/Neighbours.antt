-- The neighbour rows in their area of cells: pairs of a link and the number recorded for it.
use Rattle.std.specs.Prelude.{ℕ, Option, Some, None, ◌<◌, ◌≤◌, ◌≡◌, ◌⊎◌, Bool, true, false, not, ◌||◌, List, ltb, eqb, length}
use Rattle.lists.specs.Lists.{all}
use Rattle.lists.specs.Keyed.{has_key, put, rising}
use Rattle.cells.specs.Pairs.{pair_area, pairs_of}
use Rattle.window.specs.Window.{distance}
use Rattle.rules.specs.Settings.{neighbour_most, is_number}
use Rattle.rules.specs.Calls.{interface_of}

-- what is known of the area in a well-formed table: n rows that rise by link, each with a sequence number, and zeros after them
pub record RowsHeld (n : ℕ) (c : List ℕ) : Type 0 where
  pub most : n ≤ neighbour_most
  pub cells : c ≡ pair_area neighbour_most (pairs_of n c)
  pub rises : rising (pairs_of n c) ≡ true
  pub numbers : all (λ e. is_number e.1) (pairs_of n c) ≡ true

-- the row of a link takes a number, made if absent, unless it is absent and as many are held as there is room for
pub record Recorded (n : ℕ) (before after : List ℕ) (link number rows : ℕ) : Type 0 where
  pub room : (has_key link (pairs_of n before) ≡ true) ⊎ (n < neighbour_most)
  pub cells : after ≡ pair_area neighbour_most (put link number (pairs_of n before))
  pub held : rows ≡ length (put link number (pairs_of n before))

pub record NoRoom (n : ℕ) (before after : List ℕ) (link : ℕ) : Type 0 where
  pub absent : has_key link (pairs_of n before) ≡ false
  pub full : neighbour_most ≤ n
  pub same : after ≡ before

abbrev pub EchoTaken : (n : ℕ) (before after : List ℕ) (link number : ℕ) → Option ℕ → Type 0
EchoTaken n before after link number (Some m) = Recorded n before after link number m
EchoTaken n before after link number None = NoRoom n before after link

-- a row that stays when interface i has sent its number `last`: another interface's, or not B or more behind
abbrev pub stays_after : (i last B : ℕ) → ℕ × ℕ → Bool
stays_after i last B e = not (eqb (interface_of e.0) i) || ltb (distance last e.1) B
