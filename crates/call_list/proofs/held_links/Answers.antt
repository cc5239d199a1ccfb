-- `held_links` gives the rows of the record that is found, or none.
use mathlib.Core.Path.{refl, sym, ap, ◌∙◌, subst}
use mathlib.Core.List.{List}
use mathlib.Core.Option.{Option, some}
use Prim.Native.Nat.{ℕ}
use Rattle.rules.specs.Rules.{link_rows}
use Rattle.rules.specs.Table.{TableRecord, table}
use Rattle.table_record.specs.Record.{decode_record}
use Rattle.table_layout.specs.Cells.{decode}
use Rattle.table_originators.specs.Originators.{Stands, RecordFound}
use Rattle.call_list.specs.Listing.{Listable, Finds}
use Rattle.call_list.proofs.Answers.{listable}
use Rattle.call_list.proofs.held_links.Goals as goal
use Rattle.call_list.proofs.held_links.Goals.{In-Ok}

-- the record stands at place i
stands : (c : goal.In-Ok) → Stands c.args.cells.now c.args.originator c.in-Ok.i
stands c = let a = c.args in subst (RecordFound a.cells.now a.originator) c.in-Ok.is c.find_record.ensures.found

pub rows_of-requires : goal.rows_of-requires
rows_of-requires c =
    let a = c.args in
    subst Listable (sym c.record_at.ensures) (listable a.cells.now a.originator c.in-Ok.i (stands (goal.at.rows_of-requires c).In-Ok))

pub returns-in-Ok : goal.returns-in-Ok
unfolding decode
returns-in-Ok c =
    let κ = (decode c.args.cells.now).config in
    subst (λ (x : Option TableRecord). Finds (link_rows table κ x) c.rows_of.result)
    (ap (λ (row : List ℕ). some (decode_record row).1) c.record_at.ensures ∙ sym (stands (goal.at.returns-in-Ok c).In-Ok).found) (c.rows_of.ensures κ refl)

pub returns-in-Err : goal.returns-in-Err
returns-in-Err c =
    let a = c.args in
    let m = subst (RecordFound a.cells.now a.originator) c.in-Err.is c.find_record.ensures.found in
    subst (λ (x : Option TableRecord). Finds (link_rows table (decode a.cells.now).config x) c.no_links.result) (sym m.none) c.no_links.ensures

pub record_at-requires : goal.record_at-requires
record_at-requires c = (stands (goal.at.record_at-requires c).In-Ok).holds
