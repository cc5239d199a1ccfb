-- Each pair of the addresses in use differs.
use native.Mathlib.Omega.{arith}
use Rattle.table_settings.proofs.Own.{differ_is}
use Rattle.table_settings.proofs.own_differ.Goals as goal

pub returns : goal.returns
returns c = differ_is c.args.used (omega arith) (omega arith) c.args.a c.args.b c.args.c c.args.d
