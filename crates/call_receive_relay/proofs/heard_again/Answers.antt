-- `call_receive_relay::heard_again` meets its contract: 27 where the number is stale to the record, else by whether its link has a neighbour row. Assumes nothing.
use mathlib.Core.Path.{◌≡◌, sym, ◌∙◌}
use mathlib.Core.Bool.{false}
use native.Mathlib.Omega.{arith}
use Rattle.window.specs.Window.{is_stale}
use Rattle.call_receive_relay.proofs.Messages.{standing_timely, standing_stale}
use Rattle.call_receive_relay.proofs.heard_again.Goals as goal
use Rattle.call_receive_relay.proofs.heard_again.Goals.{Else-is_stale}

-- ---- the ends
pub returns-then-is_stale : goal.returns-then-is_stale
returns-then-is_stale c =
    standing_stale c.requires.0 c.requires.1 c.requires.2 (omega arith) c.position_at-position.ensures (sym c.is_stale.ensures ∙ c.if-is_stale.true) c.route_at-route.ensures c.end_stale.ensures

not-stale : (c : goal.Else-is_stale) → is_stale c.position_at-position.result ≡ false
not-stale c = sym c.is_stale.ensures ∙ c.if-is_stale.false

pub heard_timely-requires : goal.heard_timely-requires
heard_timely-requires c = (
  record { taken = c.requires.0; link = c.is_bidirectional-bidirectional.ensures; ruled = standing_timely c.requires.0 c.requires.1 c.requires.2 (omega arith) c.position_at-position.ensures (not-stale (goal.at.heard_timely-requires c).Else-is_stale) },
  c.requires.2,
  c.position_at-position.ensures,
  not-stale (goal.at.heard_timely-requires c).Else-is_stale,
)
