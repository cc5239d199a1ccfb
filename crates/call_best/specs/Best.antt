-- The best question's answer, put together in one place.
use Rattle.std.specs.Prelude.{ℕ}
use Rattle.rules.specs.declared.Route.{Route}
use Rattle.rules.specs.declared.Asked.{Asked}

-- 0 or a refusal, and the route
abbrev pub asked_as : (number : ℕ) → Route → Asked
asked_as n x = record { number = n; route = x }
