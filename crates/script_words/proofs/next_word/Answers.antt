-- `next_word`: the word ends before the first space behind its beginning.
use Rattle.std.proofs.Common.{◌≡◌, ◌≤◌, length, drop, rules, ap, ◌∙◌, tests}
use Rattle.std.proofs.lemmas.Iterator.{YieldsList-from_slice}
use Rattle.std.proofs.lemmas.Iterator.Search.{position_from_yields_List}
use Rattle.script_words.specs.Words.{behind, word_of}
use Rattle.script_words.proofs.Laws.{is_space, word_passed, word_taken, place_fits}
use Rattle.script_words.proofs.next_word.Goals as goal

pub returns : goal.returns
returns c =
    let xs = c.skip_spaces-begun.result.now in
    let e = position_from_yields_List is_space _ _ c.position-space.result c.position-space.ensures.ran (YieldsList-from_slice xs cc) (λ x b q k. search (rules, tests)) in
    let n = c.unwrap_or.ensures in
    let b = c.skip_spaces-begun.ensures in
    let p : drop c.unwrap_or.result xs ≡ behind xs = rw n (word_passed xs _ e) in
    let l : c.unwrap_or.result ≤ length xs = rw n (place_fits is_space xs _ e) in
    record {
      word = c.split_at.ensures.front ∙ word_taken xs c.unwrap_or.result l p ∙ ap word_of b;
      rest = c.split_at.ensures.back ∙ p ∙ ap behind b;
    }
