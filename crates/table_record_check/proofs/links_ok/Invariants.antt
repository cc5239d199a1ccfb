-- Of the links from place i on the tests come out as of all, and best is held so far or stands among them.
use Rattle.std.proofs.Common.{◌≡◌, ℕ, ◌||◌}
use Rattle.lists.specs.Keyed.{has_key}
use Rattle.rules.specs.Settings.{Config}
use Rattle.table_record.proofs.Links.{links_left}
use Rattle.table_record_check.specs.Limits.{Describes}
use Rattle.table_record_check.proofs.Checks.{links_from_lem}
use Rattle.table_record_check.proofs.links_ok.Given as goal

abbrev pub invariant-loop-i : goal.invariant-loop-i
invariant-loop-i l = record {
  tests : (κ : Config) (time : ℕ) → Describes κ time l.limits → links_from_lem κ l.best l.low l.part l.n l.i ≡ links_from_lem κ l.best 0 l.part l.n 0;
  best : l.held || has_key l.best (links_left l.n l.part l.i) ≡ has_key l.best (links_left l.n l.part 0);
}
