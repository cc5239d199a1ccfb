-- Names for the parts of the rules' `settle` that choose the best link. This link is the one that the message came by.
use Rattle.std.specs.Prelude.{ℕ, ◌≡◌, Bool, cond, ◌||◌, List, ltb, eqb}
use Rattle.lists.specs.Keyed.{map_values}
use Rattle.window.specs.Window.{shift, count}
use Rattle.rules.specs.Settings.{Config}
use Rattle.rules.specs.Rules.{stands_below}
use Rattle.rules.specs.Table.{is_highest}
use Rattle.table_record.specs.Links.{links_from}
use Rattle.count_best_link.specs.declared.Step.{Step}

abbrev pub Links : Type 0
Links = List (ℕ × ℕ)

-- the first n links of a part, once current has moved up
abbrev pub moved : Step → (n : ℕ) → List ℕ → Links
moved s n part = map_values (shift s.policy.window s.up) (links_from n part)

-- a link stands below one with the count `high` exactly if its count is lower than `least`
abbrev pub LeastNotBelow : Config → (high least : ℕ) → Type 0
LeastNotBelow κ high least = (x : ℕ) → ltb x least ≡ stands_below κ x high

-- a link is this one, or has a lower count than `least`
abbrev pub yields : (key least : ℕ) → ℕ × ℕ → Bool
yields k least e = eqb e.0 k || ltb (count e.1) least

-- best, once this link has the marks v
abbrev pub chosen : Config → (key v best : ℕ) → Links → ℕ
chosen κ k v b ls = cond (is_highest κ k v ls) k b
