-- `is_own` looks for the address among the own ones.
use Rattle.std.proofs.Common.{◌∙◌}
use Rattle.table_record_check.proofs.Checks.{any-elem}
use Rattle.table_record_check.proofs.is_own.Goals as goal

pub returns : goal.returns
returns c = c.contains.ensures.value ∙ any-elem c.args.a c.args.limits.own
