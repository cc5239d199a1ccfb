-- A history: calls on a table of so many cells, each on what the one before left, and what each gives back. (RULES 10.1)
use Rattle.std.specs.Prelude.{ℕ, List, [], ◌∷◌}
use Rattle.rules.specs.Calls.{Call, Reply}
use Rattle.rules.specs.Rules.{Reading, StateOf, step}

module _ (W : Reading) (cells : ℕ) where
  unfoldable pub after : StateOf W → List Call → StateOf W
  after s [] = s
  after s (c ∷ cs) = after (step W cells s c).state cs

  unfoldable pub replies : StateOf W → List Call → List Reply
  replies s [] = []
  replies s (c ∷ cs) = (step W cells s c).reply ∷ replies (step W cells s c).state cs
