-- Refused by 1, or the searches in a well-formed table.
use Rattle.std.proofs.Common.{sym, ◌∙◌}
use Rattle.table_check.proofs.Knowing.{knows}
use Rattle.bench_search.proofs.Searching.{refused, accepted}
use Rattle.bench_search.proofs.bench_search.Goals as goal

pub returns-then-not-well_formed : goal.returns-then-not-well_formed
returns-then-not-well_formed c =
    rw c.number.ensures
    (refused c.args.cells.now c.args.originators.now (sym c.well_formed-2.ensures ∙ c.if-not-well_formed.true))

pub search_each-requires : goal.search_each-requires
search_each-requires c = knows _ (sym c.well_formed-2.ensures ∙ c.if-not-well_formed.false)

pub returns : goal.returns
returns c =
    accepted c.args.cells.now c.args.originators.now _ (sym c.well_formed-2.ensures ∙ c.if-not-well_formed.false) c.search_each.ensures
