-- `packet_check::has_bits_below` meets its contract: a mask of at most 32 is itself modulo 64, and the shift leaves just the host bits. Assumes nothing.
use mathlib.Core.Path.{◌≡◌, ap, ◌∙◌}
use mathlib.Core.Bool.{not}
use Prim.Native.Nat.{ℕ, ◌*◌, ◌%◌, ◌^◌}
use native.Mathlib.Omega.{arith}
use lib.Dec.{eqb}
use Rattle.wire.specs.Layout.{mask_most}
use Rattle.packet_check.proofs.HostBits.{in_word}
use Rattle.packet_check.proofs.has_bits_below.Goals as goal

pub returns : goal.returns
returns c h =
    let n = c.args.network in
    let m = c.args.mask in
    let e : m % 64 ≡ m = omega arith in
    ap not (ap (λ (s : ℕ). eqb (n * 2 ^ s % 18446744073709551616 % 4294967296) 0) e ∙ in_word mask_most m n h)
