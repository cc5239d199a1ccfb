-- `call_best::route_to` meets its contract: the route of the record that is found, or none. Assumes nothing.
use mathlib.Core.Path.{sym, ap, ◌∙◌, subst}
use Rattle.rules.specs.Rules.{route_of}
use Rattle.rules.specs.Table.{table}
use Rattle.table_layout.specs.Cells.{decode}
use Rattle.table_originators.specs.Originators.{Stands, RecordFound}
use Rattle.call_best.proofs.route_to.Goals as goal
use Rattle.call_best.proofs.route_to.Goals.{In-Ok}

-- the record stands at place i
stands : (c : goal.In-Ok) → let a = c.args in Stands a.cells.now a.originator c.in-Ok.i
stands c =
    let a = c.args in
    subst (RecordFound a.cells.now a.originator) c.in-Ok.is c.find_record.ensures.found

pub returns-in-Ok : goal.returns-in-Ok
returns-in-Ok c =
    let κ = (decode c.args.cells.now).config in
    c.route_at.ensures ∙ ap (route_of table κ) (sym (stands (goal.at.returns-in-Ok c).In-Ok).found)

pub returns-in-Err : goal.returns-in-Err
returns-in-Err c =
    let a = c.args in
    let m = subst (RecordFound a.cells.now a.originator) c.in-Err.is c.find_record.ensures.found in
    c.no_route.ensures ∙ ap (route_of table (decode a.cells.now).config) (sym m.none)

pub route_at-requires : goal.route_at-requires
route_at-requires c = (stands (goal.at.route_at-requires c).In-Ok).holds
