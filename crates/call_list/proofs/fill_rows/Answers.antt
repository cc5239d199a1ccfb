-- The rows written are as many as were found, and the rest is as it was lent.
use Rattle.std.proofs.Common.{◌≡◌, ◌++◌, length, drop, sym, ap, ◌∙◌}
use Rattle.std.proofs.lemmas.List.{length-take-le}
use Rattle.lists.specs.Lists.{written_to}
use Rattle.call_list.proofs.fill_rows.Goals as goal

pub returns : goal.returns
unfolding written_to
returns c =
    let e = c.copy_from_slice.ensures.after in
    let n : c.args.got.n ≡ length c.copy_from_slice.new.self = sym (c.copy_from_slice.ensures.len ∙ length-take-le _ _ c.requires.1) in
    λ j. e j ++ drop ((n ∙ ap length e) j) c.args.rows.now
