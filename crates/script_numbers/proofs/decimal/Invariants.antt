use Rattle.std.proofs.Common.{◌≡◌, drop}
use Rattle.script_numbers.specs.Numbers.{decimal_from, decimal}
use Rattle.script_numbers.proofs.decimal.Given as goal

abbrev pub invariant-loop-octet : goal.invariant-loop-octet
invariant-loop-octet l = decimal_from l.most l.number (drop l.octet-index l.word) ≡ decimal l.most l.word
