-- `all_stay`: the test of each row in its place is the test of all.
use Rattle.std.proofs.Common.{◌≡◌, ◌+◌, ◌*◌, get_or, true, false, refl, rules, tests, arith}
use Rattle.std.proofs.lemmas.Iterator.{cases_from_all, YieldsList-from_range, serves_from_Range}
use Rattle.table_neighbours.specs.Neighbours.{stays_after}
use Rattle.table_neighbours.proofs.Rows.{row_within, row_number, all_by_place}
use Rattle.table_neighbours.proofs.all_stay.Goals as goal

pub all-requires-clause-callable : goal.all-requires-clause-callable
all-requires-clause-callable c = serves_from_Range (λ x q k. search (rules, tests)) (λ x low high. (let w = row_within c.args.n c.args.rows.now c.requires x high in
    let number = row_number c.args.n c.args.rows.now c.requires x high in
    search rules))

pub returns : goal.returns
returns c =
    let a = c.args in
    let xs = a.rows.now in
    all_by_place a.n xs (stays_after a.interface a.last a.timeout) c.all.result
    (cases_from_all _ _ _ (λ i. stays_after a.interface a.last a.timeout (get_or xs (i * 2) 0, get_or xs (i * 2 + 1) 0) ≡ true)
    (λ i. stays_after a.interface a.last a.timeout (get_or xs (i * 2) 0, get_or xs (i * 2 + 1) 0) ≡ false) c.all.ensures.ran
    (YieldsList-from_range 0 a.n a.n refl (omega arith)) (λ x q k. search (rules, tests)) (λ x q k. search (rules, tests)))
