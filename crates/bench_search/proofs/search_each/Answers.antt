-- `search_each`: what is counted so far, with those of the originators left that have a record, are those of all.
use Rattle.table_originators.specs.Originators.{rounds_most}
use Rattle.bench_search.proofs.Searching.{going_next}
use Rattle.bench_search.proofs.search_each.Goals as goal

pub loop-originator-preserved : goal.loop-originator-preserved
loop-originator-preserved c =
    going_next c.loop-originator.invariant c.loop-originator-test.true c.find_record-s.result.found c.find_record-s.ensures.found c.held_at-held.ensures c.larger-most.result
    (c.larger-most.ensures.2 rounds_most c.loop-originator.invariant.few c.find_record-s.ensures.few)
