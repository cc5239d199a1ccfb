-- `packets::output::pass_on` meets its contract: two stores into a copy. Assumes nothing.
use mathlib.Core.List.{List}
use Prim.Native.Nat.{ℕ}
use native.Mathlib.Omega.{arith}
use borrow.Author.Rules.{rules}
use lib.ListN.{length-set}
use Rattle.wire.specs.Layout.{flags_at, ttl_at}
use Rattle.wire.specs.PassOn.{passed_on}
use Rattle.wire.proofs.Lent.{stores}
use Rattle.packet_codec.proofs.output.pass_on.Goals as goal

pub bounds-out-2 : goal.bounds-out-2
bounds-out-2 c = simp length-set (omega arith)

pub returns : goal.returns
unfolding passed_on
returns c =
    let p : List ℕ = c.args.packet.now in
    let o : List ℕ = c.args.out.now in
    stores flags_at ttl_at p o _ _ _ (search rules) (search rules) c.write_octets.ensures.after
