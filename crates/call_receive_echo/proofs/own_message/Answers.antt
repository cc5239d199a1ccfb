-- `call_receive_echo::own_message` meets its contract: 23, or the echo's row. Assumes nothing.
use mathlib.Core.Path.{◌≡◌, sym, ◌∙◌}
use mathlib.Core.Bool.{true}
use mathlib.Core.List.{List}
use Prim.Native.Nat.{ℕ}
use Rattle.wire.specs.Packet.{header}
use Rattle.rules.specs.Rules as R
use Rattle.rules.specs.Table.{table}
use Rattle.rules.specs.WellFormed.{well_formed}
use Rattle.table_layout.specs.Cells.{decode}
use Rattle.call_receive_arrival.specs.Receiving.{call_of, Fits, own_message}
use Rattle.call_receive_arrival.proofs.Ways.{way_23, way_echo}
use Rattle.call_receive_arrival.proofs.Endings.{leaves_by, timed, verdict-kept, ends, verdict-left}
use Rattle.call_receive_echo.proofs.Echoes.{echo-number}
use Rattle.call_receive_echo.proofs.own_message.Goals as goal
use Rattle.call_receive_echo.proofs.own_message.Goals.{Else-not-is_echo, Then-not-is_echo}

-- ---- what the test tells, whichever packet the message begins
not-echo : (c : goal.Then-not-is_echo) (p o : List ℕ) → let s = c.args in
    Fits p o s.m → own_message (decode s.cells.now) (call_of p o s.m) (header p) ≡ timed s.cells.now p o s.m 23
not-echo c p o f = let s = c.args in way_23 (decode s.cells.now) (call_of p o s.m) (header p) (sym (c.is_echo.ensures p o f) ∙ c.if-not-is_echo.true)

is_echo_lem : (c : goal.Else-not-is_echo) (p o : List ℕ) → let s = c.args in
    Fits p o s.m → R.is_echo (decode s.cells.now).config (decode s.cells.now).sends (call_of p o s.m) (header p) ≡ true
is_echo_lem c p o f = sym (c.is_echo.ensures p o f) ∙ c.if-not-is_echo.false

echo : (c : goal.Else-not-is_echo) (p o : List ℕ) → let s = c.args in
    Fits p o s.m → own_message (decode s.cells.now) (call_of p o s.m) (header p) ≡ R.take_echo table (decode s.cells.now) (call_of p o s.m) (header p)
echo c p o f = let s = c.args in way_echo (decode s.cells.now) (call_of p o s.m) (header p) (is_echo_lem c p o f)

-- ---- 23: the table is well-formed once its time is set
kept : (c : goal.Then-not-is_echo) → let s = c.args in well_formed (R.with_time table (decode s.cells.now) s.m.ogm.time) ≡ true
kept c = let h = c.requires in verdict-kept 23 h.taken (h.ruled ∙ not-echo c h.packet h.output h.taken.fits)

pub verdict-requires : goal.verdict-requires
verdict-requires c = ends 23 c.requires.taken (kept (goal.at.verdict-requires c).Then-not-is_echo)

pub returns-then-not-is_echo : goal.returns-then-not-is_echo
returns-then-not-is_echo c p o t =
    verdict-left 23 t (kept (goal.at.returns-then-not-is_echo c).Then-not-is_echo) (not-echo (goal.at.returns-then-not-is_echo c).Then-not-is_echo p o t.fits) c.verdict.ensures

-- ---- or the echo's row
pub take_echo-requires : goal.take_echo-requires
take_echo-requires c =
    let h = c.requires in (
      record { packet = h.packet; output = h.output; taken = h.taken; ruled = h.ruled ∙ echo (goal.at.take_echo-requires c).Else-not-is_echo h.packet h.output h.taken.fits },
      echo-number c.args.cells.now h.taken.fits (is_echo_lem (goal.at.take_echo-requires c).Else-not-is_echo h.packet h.output h.taken.fits),
    )

pub returns : goal.returns
returns c p o t = leaves_by (echo (goal.at.returns c).Else-not-is_echo p o t.fits) (c.take_echo.ensures p o t)
