-- `read_addresses`: the lent addresses are the members, each of which was read with the limit of 32 bits.
use Rattle.std.proofs.Common.{◌≡◌, ◌<◌, ℕ, List, length, take, set, get_or, arith, sym, ap, subst, ◌∙◌, length-set, get_or-set_same}
use Rattle.std.proofs.lemmas.List.{take_more_same, take-set, take_all}
use Rattle.script_numbers.specs.Numbers.{ReadList, most32}
use Rattle.script_numbers.proofs.Laws.{at_most}
use Rattle.script_numbers.proofs.read_addresses.Goals as goal

pub bounds-lent-i : goal.bounds-lent-i
bounds-lent-i c = omega (arith, at_most _ _ _ c.in_ok-members.ensures.size)

pub loop-i-preserved : goal.loop-i-preserved
loop-i-preserved c =
    let i = c.loop-i.i in
    let lent = c.loop-i.lent in
    let v = get_or c.in_ok-members.members.now i 0 in
    let l : i < length lent = omega (arith, c.loop-i.invariant.sized, at_most _ _ _ c.in_ok-members.ensures.size) in
    let n : length (set lent i v) ≡ length lent = length-set lent i v in
    record {
      sized = n ∙ c.loop-i.invariant.sized;
      same = take_more_same (set lent i v) c.in_ok-members.members.now i 0 (omega (arith, n)) c.loop-i-test.true (take-set lent i v ∙ c.loop-i.invariant.same) (get_or-set_same lent i v 0 l);
    }

pub shared_ref_as_front-result : goal.shared_ref_as_front-result
shared_ref_as_front-result c = at_most _ _ _ c.in_ok-members.ensures.size

pub returns : goal.returns
returns c =
    let m = c.in_ok-members.members.now in
    let lent = c.loop-i.lent in
    let n : c.loop-i.i ≡ length m = omega arith in
    let e : take (length m) lent ≡ m = ap (λ (k : ℕ). take k lent) (sym n) ∙ c.loop-i.invariant.same ∙ take_all c.loop-i.i m (omega arith) in
    subst (λ (xs : List ℕ). ReadList c.args.text.now most32 xs c.in_ok-members.rest.now) (sym e) c.in_ok-members.ensures
