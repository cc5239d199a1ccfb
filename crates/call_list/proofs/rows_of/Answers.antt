-- `rows_of`: after i turns the rows of the first i links are written. Its places are named once, each by the one before.
use borrow.Author.Rules.{rules}
use mathlib.Core.Path.{◌≡◌, ap, ◌∙◌}
use mathlib.Core.List.{List}
use Prim.Native.Nat.{ℕ}
use lib.ListN.{get_or, replicate}
use Rattle.lists.specs.Lists.{written_to}
use Rattle.window.specs.Marks.{word_of}
use Rattle.rules.specs.Settings.{link_most}
use Rattle.table_record.specs.Links.{link_at}
use Rattle.table_record.specs.Record.{best_at}
use Rattle.call_list.specs.Listing.{row_of}
use Rattle.call_list.proofs.Rows.{row_written, rows-found}
use Rattle.call_list.proofs.rows_of.Goals as goal

pub loop-i-init : goal.loop-i-init
unfolding written_to
loop-i-init c = (search rules, ap (replicate link_most) c.zero_row-rows.ensures)

pub loop-i-preserved : goal.loop-i-preserved
loop-i-preserved c =
    let l = c.loop-i in
    let row = c.args.row.now in
    let link : (c.key_at.result, word_of c.marks_at.result) ≡ link_at c.links_part-part.result.now l.i = λ j. (c.key_at.ensures j, c.marks_at.ensures j) in
    let is = link ∙ ap (λ (x : List ℕ). link_at x l.i) c.links_part-part.ensures in
    (search rules, row_written c.args.window row c.requires l.rows l.i c.row_of.result (search rules) l.invariant.1 (c.row_of.ensures ∙ ap (row_of c.args.window (get_or row best_at 0)) is))

pub returns : goal.returns
returns c =
    let l = c.loop-i in
    rows-found c.args.window c.args.row.now c.requires l.rows l.i (search rules) l.invariant.1
