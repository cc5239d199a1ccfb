-- `skip_spaces`: the text from its first octet on that is no space.
use Rattle.std.proofs.Common.{rules, tests, arith}
use Rattle.std.proofs.lemmas.Iterator.{YieldsList-from_slice}
use Rattle.std.proofs.lemmas.Iterator.Search.{position_from_yields_List}
use Rattle.std.proofs.lemmas.Grind.{common_steps}
use Rattle.script_words.proofs.Laws.{is_other, spaces_skipped}
use Rattle.script_words.proofs.skip_spaces.Goals as goal

pub returns : goal.returns
returns c =
    let xs = c.args.text.now in
    let e = position_from_yields_List is_other _ _ c.position-word.result c.position-word.ensures.ran (YieldsList-from_slice xs cc) (λ x b q k. search (rules, tests)) in
    grind (arith, common_steps, c.unwrap_or.ensures, spaces_skipped xs _ e)
