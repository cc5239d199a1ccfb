-- A name for a part of the rules' `settle`, and what the steps of counting leave of a record's links. This link is the one that the message came by.
use Rattle.std.specs.Prelude.{ℕ, ◌+◌, ◌*◌, ◌≤◌, ◌≡◌, Bool, ◌||◌, List, [], ◌∷◌, ◌++◌, map, ltb, eqb, length, take, drop}
use Rattle.lists.specs.Lists.{keep}
use Rattle.lists.specs.Keyed.{put}
use Rattle.cells.specs.Area.{fit, zeros, flat}
use Rattle.window.specs.Window.{mark, has_mark}
use Rattle.window.specs.Marks.{word_of}
use Rattle.rules.specs.declared.Policy.{Policy}
use Rattle.rules.specs.Settings.{Config, Follows, link_most, link_cells}
use Rattle.rules.specs.Table.{marks_at}
use Rattle.table_record.specs.Links.{link_row}
use Rattle.count_best_link.specs.declared.Step.{Step}
use Rattle.count_best_link.specs.BestLink.{Links, chosen}
use Rattle.count_links.specs.declared.Spot.{Spot}
use Rattle.count_links.specs.declared.Left.{Left}

-- ---- part of the rules

-- a link has a mark or is best
abbrev pub stays : (best : ℕ) → ℕ × ℕ → Bool
stays b e = has_mark e.1 || eqb e.0 b

-- ---- what the steps leave

-- the cells of a scratch: room for one link more than a record holds
abbrev pub scratch_cells : ℕ
scratch_cells = (link_most + 1) * link_cells

-- a scratch with no link written
pub record Blank (out : List ℕ) : Type 0 where
  pub size : length out ≡ scratch_cells
  pub cells : out ≡ zeros scratch_cells

-- the first `low` links are those below the key, those from `high` on the ones above it, and `word` is the key's
pub record Located (ls : Links) (key low high word : ℕ) : Type 0 where
  pub order : low ≤ high
  pub within : high ≤ length ls
  pub below : keep (λ e. ltb e.0 key) ls ≡ take low ls
  pub above : keep (λ e. ltb key e.0) ls ≡ drop high ls
  pub marks : word ≡ marks_at ls key

-- the spot of a key
abbrev pub SpotOf : Links → (key : ℕ) → Spot → Type 0
SpotOf ls key s = Located ls key s.low s.high (word_of s.marks)

-- `out` holds m links and zeros, which together with the links to come are the goal
pub record Built (out : List ℕ) (m : ℕ) (rest goal : Links) : Type 0 where
  pub links : Links
  pub cells : out ≡ fit (length out) (flat (map link_row links))
  pub size : m ≡ length links
  pub joined : links ++ rest ≡ goal

-- `out` holds as many links as r says: this one with its marks between the first `low` of ls and those from `high` on, without those that give up their
-- place; r says which is best
pub record Arranged (out : List ℕ) (r : Left) (s : Spot) (p : Policy) (key best : ℕ) (ls : Links) : Type 0 where
  pub chose : (κ : Config) → Follows κ p → r.best ≡ chosen κ key (word_of s.marks) best ls
  pub marks : word_of r.marks ≡ word_of s.marks
  pub links : Built out r.links [] (keep (stays r.best) (take s.low ls) ++ ((key, word_of s.marks) ∷ keep (stays r.best) (drop s.high ls)))

-- `out` holds as many links as r says: those of ls with the message's number marked on this one, without those that give up their place; r says which is
-- best, and has this one's marks
pub record Recounted (out : List ℕ) (r : Left) (step : Step) (key best : ℕ) (ls : Links) : Type 0 where
  pub chose : (κ : Config) → Follows κ step.policy → r.best ≡ chosen κ key (mark (marks_at ls key) step.below) best (put key (mark (marks_at ls key) step.below) ls)
  pub marks : word_of r.marks ≡ mark (marks_at ls key) step.below
  pub links : Built out r.links [] (keep (stays r.best) (put key (mark (marks_at ls key) step.below) ls))
