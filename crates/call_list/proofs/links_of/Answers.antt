-- `links_of` answers a refusal with no rows, or the rows that are found.
use borrow.Author.Rules.{rules}
use mathlib.Core.Path.{◌≡◌, sym, ◌∙◌}
use mathlib.Core.Bool.{true}
use Rattle.table_layout.specs.Cells.{well_formed}
use Rattle.table_check.proofs.Knowing.{knows}
use Rattle.call_list.proofs.Answers.{not_well_formed, no_room, found_settles}
use Rattle.call_list.proofs.links_of.Goals as goal
use Rattle.call_list.proofs.links_of.Goals.{Else-not-well_formed}

-- the table was found well-formed
suits : (c : goal.Else-not-well_formed) → well_formed c.args.cells.now ≡ true
suits c = sym c.well_formed-2.ensures ∙ c.if-not-well_formed.false

pub returns-then-not-well_formed : goal.returns-then-not-well_formed
returns-then-not-well_formed c =
    let a = c.args in
    not_well_formed a.cells.now a.originator a.room (sym c.well_formed-2.ensures ∙ c.if-not-well_formed.true)

pub held_links-got-requires : goal.held_links-got-requires
held_links-got-requires c = knows c.args.cells.now (suits (goal.at.held_links-got-requires c).Else-not-well_formed)

pub returns-then-room-got : goal.returns-then-room-got
returns-then-room-got c =
    let a = c.args in
    no_room a.cells.now a.originator a.room (suits (goal.at.returns-then-room-got c).Else-not-well_formed) c.held_links-got.result c.held_links-got.ensures (search rules)

pub returns : goal.returns
returns c =
    let a = c.args in
    found_settles a.cells.now a.originator a.room (suits (goal.at.returns c).Else-not-well_formed) c.held_links-got.result c.held_links-got.ensures (search rules)
