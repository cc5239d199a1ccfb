-- `marks_of` gives the marks at the place that was found, or none. Its places are named once, each by the one before.
use mathlib.Core.Path.{◌∙◌, subst}
use Rattle.cells.specs.Area.{column}
use Rattle.std.specs.Prelude.{ℕ, Result}
use Rattle.cells.specs.Find.{FoundIn, IsAt}
use Rattle.rules.specs.Settings.{link_cells}
use Rattle.table_record.proofs.Links.{link-within, marks-found, marks_missing}
use Rattle.table_record.proofs.marks_of.Goals as goal
use Rattle.table_record.proofs.marks_of.Goals.{In-Ok}

-- where the link was found
at : (c : goal.In-Ok) → IsAt (column link_cells c.args.n c.args.part.now) c.args.key c.in-Ok.i
at c =
    let a = c.args in
    subst (λ (f : Result ℕ ℕ). FoundIn (column link_cells a.n a.part.now) a.key f) c.in-Ok.is c.find.ensures.found

pub marks_at-requires : goal.marks_at-requires
marks_at-requires c =
    link-within c.args.n c.args.part.now c.args.key c.in-Ok.i c.requires (at (goal.at.marks_at-requires c).In-Ok)

pub returns-in-Ok : goal.returns-in-Ok
returns-in-Ok c =
    c.marks_at.ensures ∙ marks-found c.args.n c.args.part.now c.args.key c.in-Ok.i c.requires (at (goal.at.returns-in-Ok c).In-Ok)

pub returns-in-Err : goal.returns-in-Err
returns-in-Err c =
    c.no_marks.ensures ∙ marks_missing c.args.n c.args.part.now c.args.key c.in-Err.field-0
    (subst (λ (f1 : Result ℕ ℕ). FoundIn (column link_cells c.args.n c.args.part.now) c.args.key f1) c.in-Err.is c.find.ensures.found)
