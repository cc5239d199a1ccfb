-- `packets::output::write_packet` meets its contract: the message, then the HNA octets into the rest. Assumes nothing.
use mathlib.Core.Path.{refl, ◌∙◌, ap}
use mathlib.Core.List.{List}
use Prim.Native.Nat.{ℕ}
use borrow.Author.Rules.{rules}
use Rattle.lists.specs.Lists.{written_to}
use Rattle.wire.specs.Layout.{header_size}
use Rattle.wire.specs.Packet.{header_octets, packet_of}
use Rattle.wire.proofs.Lent.{then_rest}
use Rattle.packet_codec.proofs.output.write_packet.Goals as goal

pub returns : goal.returns
unfolding packet_of header_octets
returns c =
    let o : List ℕ = c.args.out.now in
    let t : List ℕ = c.args.hna.now in (
      search rules,
      then_rest header_size (header_octets c.args.h) t o c.write_octets.new.out c.write_octets-2.new.out refl (search rules)
          (c.write_octets.ensures.after ∙ ap (λ (l : List ℕ). written_to l o) c.octets-head.ensures)
          c.write_octets-2.ensures.after,
    )
