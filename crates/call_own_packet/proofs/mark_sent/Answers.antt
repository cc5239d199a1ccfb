-- `call_own_packet::mark_sent` meets its contract. Assumes nothing.
use mathlib.Core.Path.{◌≡◌, ap, ◌∙◌}
use Prim.Native.Nat.{ℕ, ◌+◌, ◌-◌}
use native.Mathlib.Omega.{arith}
use borrow.Rule.Slice.PartMut.{put_mid}
use lib.ListN.{take, drop, set}
use Rattle.rules.specs.Settings.{interface_cells}
use Rattle.table_layout.specs.Layout.{own_place, sent_at, last_at}
use Rattle.call_own_packet.proofs.Steps.{sent_is}
use Rattle.call_own_packet.proofs.mark_sent.Goals as goal

pub returns : goal.returns
returns c =
    let w : own_place c.args.i + interface_cells - own_place c.args.i ≡ interface_cells = omega arith in
    ap (λ (k : ℕ). put_mid (own_place c.args.i) k c.args.cells.now c.row_sent.new.row) w
    ∙ sent_is c.args.cells.now c.requires.0 c.args.i c.requires.1 c.args.number _
    (c.row_sent.ensures ∙ ap (λ (k : ℕ). set (set (take k (drop (own_place c.args.i) c.args.cells.now)) sent_at 1) last_at c.args.number) w)
