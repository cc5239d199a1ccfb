-- What is counted so far, with those of the originators left that have a record, are those of all.
use Rattle.bench_search.proofs.Searching.{Going}
use Rattle.bench_search.proofs.search_each.Given as goal

abbrev pub invariant-loop-originator : goal.invariant-loop-originator
invariant-loop-originator l = Going l.cells l.originators l.held l.most l.originator-index
