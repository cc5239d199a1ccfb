-- The links of a record that is held, and its route. Assumes nothing.
use mathlib.Core.Path.{◌≡◌, refl, sym, ap, ap₂, ◌∙◌}
use mathlib.Core.List.{List}
use mathlib.Core.Option.{Option, none, some}
use Prim.Native.Nat.{ℕ}
use native.Mathlib.Omega.{arith}
use lib.Count.{ones}
use lib.ListN.{get_or}
use Rattle.lists.specs.Lists.{maybe}
use Rattle.lists.specs.Keyed.{lookup, map_values}
use Rattle.lists.proofs.Tests.{maybe-map}
use Rattle.lists.proofs.Keyed.{lookup-map_values}
use Rattle.cells.specs.Find.{Sorted}
use Rattle.window.specs.Window.{count}
use Rattle.rules.specs.Settings.{Config, link_cells}
use Rattle.rules.specs.Calls.{route_by}
use Rattle.rules.specs.Rules.{route_of}
use Rattle.rules.specs.Table.{TableRecord, table, marks_at}
use Rattle.table_record.specs.Record.{links_at, links_part, Held}
use Rattle.table_record.proofs.Links.{links_sorted}
use Rattle.table_record.proofs.Rows.{part_size}

-- ---- the links of a record that is held

pub held_sorted : (row : List ℕ) → Held row → Sorted link_cells (get_or row links_at 0) (links_part row)
held_sorted row h = let f = h.few in links_sorted (get_or row links_at 0) (links_part row) (omega (arith, part_size row h.size)) h.rises

-- ---- the route

-- a link's count is that of its word
pub count-marks : (ls : List (ℕ × ℕ)) (k : ℕ) → maybe (lookup k (map_values count ls)) 0 (λ n. n) ≡ count (marks_at ls k)
unfolding ones
count-marks ls k =
    ap (λ (o : Option ℕ). maybe o 0 (λ n. n)) (lookup-map_values count k ls) ∙ maybe-map count (lookup k ls) 0 (λ n. n) ∙ go (lookup k ls)
  where
    go : (o : Option ℕ) → maybe o 0 count ≡ count (maybe o 0 (λ v. v))
    go none = refl
    go (some v) = refl

-- a record's route is that by its best link
pub route_is : (κ : Config) (x : TableRecord) (marks w : ℕ) → marks ≡ marks_at x.links x.best → w ≡ κ.settings.window → route_by x.best (count marks) w ≡ route_of table κ (some x)
route_is κ x marks w em ew = ap₂ (route_by x.best) (ap count em ∙ sym (count-marks x.links x.best)) ew
