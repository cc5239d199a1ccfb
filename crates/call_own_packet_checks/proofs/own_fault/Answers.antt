-- `call_own_packet_checks::own_fault` meets its contract. Assumes nothing.
use borrow.Author.Rules.{rules}
use Rattle.std.proofs.lemmas.Result.{err_from_is_err_and}
use Rattle.call_own_packet_checks.proofs.Refusals.{not_in_use, before, short, fault, low, none-refused}
use Rattle.call_own_packet_checks.proofs.own_fault.Goals as goal

pub returns-then-cells-interface : goal.returns-then-cells-interface
returns-then-cells-interface c gateway port output e = not_in_use _ _ _ _ _ _ _ _ (search rules)

pub returns-then-time-cells : goal.returns-then-time-cells
returns-then-time-cells c gateway port output e = before _ _ _ _ _ _ _ _ (search rules) (search rules)

pub returns-then-room-lt-HEADER_SIZE : goal.returns-then-room-lt-HEADER_SIZE
returns-then-room-lt-HEADER_SIZE c gateway port output e = short _ _ _ _ _ _ _ _ (search rules) (search rules) (search rules)

pub returns-then-room-hna : goal.returns-then-room-hna
returns-then-room-hna c gateway port output e = short _ _ _ _ _ _ _ _ (search rules) (search rules) (search rules)

pub returns-in_err-written_fault : goal.returns-in_err-written_fault
returns-in_err-written_fault c gateway port output e =
    let p = err_from_is_err_and c.from_residual.result c.from_residual.ensures.1 in
    rw (p.1, p.2) (fault _ _ _ _ _ _ _ _ (search rules) (search rules) (search rules) _ c.in_err-written_fault.ensures)

pub returns-then-ttl-lt-TTL_LEAST : goal.returns-then-ttl-lt-TTL_LEAST
returns-then-ttl-lt-TTL_LEAST c gateway port output e = low _ _ _ _ _ _ _ _ (search rules) (search rules) (search rules) c.in_ok-written_fault.ensures (search rules)

pub returns : goal.returns
returns c gateway port output e = none-refused _ _ _ _ _ _ _ _ (search rules) (search rules) (search rules) c.in_ok-written_fault.ensures (search rules)
