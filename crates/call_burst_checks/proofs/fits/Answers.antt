use Rattle.std.proofs.Common.{◌∙◌}
use Rattle.call_burst_checks.proofs.Tests.{uneven, by_sum}
use Rattle.call_burst_checks.proofs.fits.Goals as goal

pub returns-then-not-even : goal.returns-then-not-even
returns-then-not-even c = λ a z. uneven a _ _ _ _ _ z c.if-not-even.true

pub returns : goal.returns
returns c = λ a z. c.adds_up.ensures ∙ by_sum a _ _ _ _ _ z c.if-not-even.false
