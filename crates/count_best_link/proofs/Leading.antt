-- The search for a link that does not stand below this one, turn by turn. Assumes nothing.
use mathlib.Core.Path.{◌≡◌, sym, ap, ◌∙◌}
use mathlib.Core.List.{List, [], ◌∷◌}
use mathlib.Core.Bool.{Bool, ◌&&◌, ◌||◌}
use Prim.Native.Nat.{ℕ, ◌+◌, ◌≤◌, ◌<◌}
use lib.Dec.{eqb}
use Rattle.lists.specs.Lists.{all}
use Rattle.lists.specs.Keyed.{map_values}
use Rattle.window.specs.Window.{shift, count}
use Rattle.rules.specs.Settings.{Config}
use Rattle.rules.specs.Table.{is_below}
use Rattle.table_record.specs.Links.{link_at}
use Rattle.table_record.proofs.Links.{links_left, left-all, left_one, left-none}
use Rattle.count_best_link.specs.declared.Step.{Step}
use Rattle.count_best_link.specs.BestLink.{Links, LeastNotBelow, moved, yields}

-- every other link stands below this one, whose count is `own`: the rules' `is_highest`, told by the count
abbrev pub leads : Config → (key own : ℕ) → Links → Bool
leads κ key own ls = all (is_below κ key own) ls

-- ---- n links read one by one

-- those from link i on, once current has moved up
abbrev pub from : List ℕ → Step → (n i : ℕ) → Links
from c step n i = map_values (shift step.policy.window step.up) (links_left n c i)

pub from_start : (c : List ℕ) (step : Step) (n : ℕ) → from c step n 0 ≡ moved step n c
from_start c step n = ap (map_values (shift step.policy.window step.up)) (left-all n c)

-- link i, as it is read: its key and its marks once current has moved up
module _ (c : List ℕ) (step : Step) (n i key' v : ℕ) (h : i < n) (ek : key' ≡ (link_at c i).0) (ev : v ≡ shift step.policy.window step.up (link_at c i).1) where
  abbrev pub this : ℕ × ℕ
  this = (key', v)

  abbrev pub more : Links
  more = from c step n (i + 1)

  pub moved-one : from c step n i ≡ this ∷ more
  moved-one = ap (map_values (shift step.policy.window step.up)) (left_one n c i h) ∙ (λ j. (sym ek j, sym ev j) ∷ more)

  -- it stands below or not, and whether all do is asked of the rest
  pub leads_one : (κ : Config) (key own least : ℕ) → LeastNotBelow κ own least → (t : Bool) → yields key least this ≡ t → leads κ key own (from c step n i) ≡ (t && leads κ key own more)
  leads_one κ key own least r t et =
      ap (leads κ key own) moved-one ∙ ap (λ (s : Bool). s && leads κ key own more) (ap (λ (b : Bool). eqb this.0 key || b) (sym (r (count v))) ∙ et)

-- no link is left
pub moved_none : (c : List ℕ) (step : Step) (n i : ℕ) → n ≤ i → from c step n i ≡ []
moved_none c step n i h = ap (map_values (shift step.policy.window step.up)) (left-none n c i h)
