-- `call_receive_relay::first_heard` meets its contract: not counted, 10, 15, or the record is made. Assumes nothing.
use mathlib.Core.Path.{◌≡◌, refl, sym, ap, ◌∙◌, subst}
use mathlib.Core.List.{List}
use Prim.Native.Nat.{ℕ}
use native.Mathlib.Omega.{arith}
use lib.Dec.{ltb}
use borrow.Author.Tests.{ltb-true, ltb-false}
use Rattle.wire.specs.Packet.{hna}
use Rattle.wire.specs.Check.{entries}
use Rattle.rules.specs.Settings.{entry_most}
use Rattle.rules.specs.Messages.{message_of}
use Rattle.table_originators.specs.Originators.{Made}
use Rattle.call_receive_arrival.specs.Receiving.{call_of}
use Rattle.call_receive_arrival.proofs.Endings.{refused-left}
use Rattle.call_receive_relay.proofs.Messages.{first-kept, first-full, first_many, first_made}
use Rattle.call_receive_relay.proofs.first_heard.Goals as goal
use Rattle.call_receive_relay.proofs.first_heard.Goals.{After-too_many}

-- whether the packet has too many entries
many : (c : goal.After-too_many) → c.too_many.result ≡ ltb entry_most (entries (hna c.args.packet.now))
many c = c.too_many.ensures ∙ ap (λ (e : List ℕ). ltb entry_most (entries e)) c.hna_of-hna.ensures

-- ---- the ends
pub returns-then-not-bidirectional : goal.returns-then-not-bidirectional
returns-then-not-bidirectional c =
    first-kept c.requires.0 c.requires.1 (c.if-not-bidirectional.true) c.no_route.ensures c.conclude.ensures

pub returns-then-cells : goal.returns-then-cells
returns-then-cells c =
    refused-left c.requires.0.taken.knows (call_of c.args.packet.now c.args.out.now c.args.m) (first-full c.requires.0 c.requires.1 (c.if-not-bidirectional.false) c.if-cells.true) refl c.into.ensures
    c.refused.ensures

pub returns-then-too_many : goal.returns-then-too_many
returns-then-too_many c =
    refused-left c.requires.0.taken.knows (call_of c.args.packet.now c.args.out.now c.args.m)
    (first_many c.requires.0 c.requires.1 (c.if-not-bidirectional.false) (omega (arith, c.if-cells.false)) (ltb-true entry_most (entries (hna c.args.packet.now)) (sym (many (goal.at.returns-then-too_many c).After-too_many) ∙ c.if-too_many.true))) refl c.into-then-too_many.ensures c.refused-then-too_many.ensures

pub make_record-route-requires : goal.make_record-route-requires
make_record-route-requires c =
    (c.requires.1, omega (arith, c.if-cells.false), c.requires.0.taken.link, ltb-false entry_most (entries c.hna_of-hna.result.now) (sym c.too_many.ensures ∙ c.if-too_many.false))

pub conclude-requires-2 : goal.conclude-requires-2
conclude-requires-2 c =
    let t = c.requires.0.taken in (t.fits, omega (arith, t.knows.sized.size, c.make_record-route.auto.cells))

pub returns : goal.returns
returns c =
    let a = c.args in
    let record-made = subst (λ (x : List ℕ). Made a.cells.now c.make_record-route.new.cells a.m.originator (message_of a.m.ogm x) c.make_record-route.result) c.hna_of-hna.ensures c.make_record-route.ensures in
    first_made c.requires.0 c.requires.1 (c.if-not-bidirectional.false) (omega (arith, c.if-cells.false)) (ltb-false entry_most (entries (hna a.packet.now)) (sym (many (goal.at.returns c).After-too_many) ∙ c.if-too_many.false)) record-made c.conclude-2.ensures
