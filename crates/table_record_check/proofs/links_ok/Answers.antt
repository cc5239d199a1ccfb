-- The loop goes on past a link that may be held, and ends at one that may not, or behind the last.
use Rattle.std.proofs.Common.{sym, ◌∙◌, true, false, arith}
use mathlib.Core.Bool.{false≢true}
use Rattle.table_record_check.proofs.Checks.{links-next, links_stop, links_end, held_next, held_end, links-done}
use Rattle.table_record_check.proofs.links_ok.Goals as goal

pub returns-then-not-link_ok : goal.returns-then-not-link_ok
returns-then-not-link_ok c =
    let l = c.loop-i in
    let a = c.args in
    let p = a.part.now in
    let ok = c.link_ok in
    λ κ time d. links-done κ a.best p a.n false l.held
    (sym (links_stop κ a.best l.low p a.n l.i c.key_at-pair.ensures c.marks_at.ensures ok.result (ok.ensures.tests κ time d) (omega arith) c.if-not-link_ok.true)
    ∙ l.invariant.tests κ time d)
    (λ t. absurd (false≢true t))

pub loop-i-preserved : goal.loop-i-preserved
loop-i-preserved c =
    let l = c.loop-i in
    let a = c.args in
    let ok = c.link_ok in
    record {
      tests = λ κ time d.
          sym (links-next κ a.best l.low a.part.now a.n l.i c.key_at-pair.ensures c.marks_at.ensures ok.result (ok.ensures.tests κ time d) (omega arith) (c.if-not-link_ok.false))
          ∙ l.invariant.tests κ time d;
      best = held_next a.best l.held a.part.now a.n l.i (omega arith) c.key_at-pair.ensures ∙ l.invariant.best;
    }

pub returns : goal.returns
returns c =
    let l = c.loop-i in
    let a = c.args in
    let p = a.part.now in
    λ κ time d. links-done κ a.best p a.n true l.held
    (sym (links_end κ a.best l.low p a.n l.i (omega arith)) ∙ l.invariant.tests κ time d)
    (λ t. held_end a.best l.held p a.n l.i (omega arith) ∙ l.invariant.best)
