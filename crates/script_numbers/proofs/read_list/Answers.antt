-- `read_list`: the members are read with one limit each.
use Rattle.std.proofs.Common.{arith, sym}
use Rattle.script_numbers.proofs.Laws.{few, sized, list_read, no_list}
use Rattle.script_numbers.proofs.read_list.Goals as goal

pub slice_bounds-limits-end : goal.slice_bounds-limits-end
slice_bounds-limits-end c = let e = c.in_ok-count.ensures in few c.args.text.now _ c.args.most _ e.0 e.1

pub slice_bounds-read_each-end : goal.slice_bounds-read_each-end
slice_bounds-read_each-end c = let e = c.in_ok-count.ensures in sym (sized c.args.text.now _ c.args.most _ e.0 e.1)

pub returns-in_err-rest : goal.returns-in_err-rest
returns-in_err-rest c =
    let e = c.in_ok-count.ensures in
    rw c.from_residual-in_err-rest.ensures (no_list c.args.text.now _ c.args.most _ e.0 e.1 c.in_err-rest.ensures)

pub shared_ref_as_front-result : goal.shared_ref_as_front-result
shared_ref_as_front-result c = let e = c.in_ok-count.ensures in few c.args.text.now _ c.args.most _ e.0 e.1

pub returns : goal.returns
returns c =
    let e = c.in_ok-count.ensures in
    list_read c.args.text.now _ c.args.most _ e.0 e.1 c.read_each.new.lent c.in_ok-rest.rest.now (omega (arith, few c.args.text.now _ c.args.most _ e.0 e.1, c.read_each.auto.lent)) c.in_ok-rest.ensures
