-- `route_of` gives the route by the marks of the best link among those in the part that was lent.
use mathlib.Core.Path.{sym, ap, ◌∙◌, subst}
use mathlib.Core.List.{List}
use Prim.Native.Nat.{ℕ}
use lib.ListN.{get_or}
use Rattle.cells.specs.Find.{Sorted}
use Rattle.rules.specs.Settings.{link_cells}
use Rattle.rules.specs.Table.{marks_at}
use Rattle.table_record.specs.Links.{links_from}
use Rattle.table_record.specs.Record.{links_at, best_at, decode_record}
use Rattle.table_record.proofs.Routes.{held_sorted, route_is}
use Rattle.table_record.proofs.route_of.Goals as goal

pub marks_of-marks-requires : goal.marks_of-marks-requires
marks_of-marks-requires c =
    let row = c.args.row.now in
    subst (Sorted link_cells (get_or row links_at 0)) (sym c.links_part.ensures) (held_sorted row c.requires)

pub route_by-requires : goal.route_by-requires
route_by-requires c = c.requires.best

pub returns : goal.returns
unfolding decode_record
returns c =
    let a = c.args in
    let row = a.row.now in
    let e = c.marks_of-marks.ensures ∙ ap (λ (l : List ℕ). marks_at (links_from (get_or row links_at 0) l) (get_or row best_at 0)) c.links_part.ensures in
    λ κ w. c.route_by.ensures ∙ route_is κ (decode_record row).1 _ a.window e w
