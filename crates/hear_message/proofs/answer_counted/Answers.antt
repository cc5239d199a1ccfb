-- Where the message's link is best, its marks are those of the best link.
use mathlib.Core.Path.{◌≡◌, refl, sym, ap, ◌∙◌}
use native.Mathlib.Omega.{arith}
use lib.ListN.{get_or}
use borrow.Author.Tests.{eq-eqb}
use Rattle.rules.specs.Table.{marks_at}
use Rattle.table_record.specs.Record.{best_at, links_of, decode_record}
use Rattle.table_record.proofs.Routes.{route_is}
use Rattle.hear_message.proofs.answer_counted.Goals as goal
use Rattle.hear_message.proofs.answer_counted.Goals.{Else-best-m}

pub returns-then-best-m : goal.returns-then-best-m
returns-then-best-m c = c.answer_of.ensures

-- its link is best
same : (c : goal.Else-best-m) → let a = c.args in get_or a.row.now best_at 0 ≡ a.m.link
same c = omega arith

pub route_by-route-requires : goal.route_by-route-requires
route_by-route-requires c = c.requires.0.best

pub returns : goal.returns
unfolding decode_record
returns c κ f =
    let a = c.args in
    let row = a.row.now in
    record {
      fresh = refl;
      best = sym (eq-eqb (get_or row best_at 0) a.m.link (same (goal.at.returns c).Else-best-m));
      route = c.route_by-route.ensures ∙ route_is κ (decode_record row).1 _ _ (c.requires.2 ∙ ap (marks_at (links_of row)) (sym (same (goal.at.returns c).Else-best-m))) f.window;
    }
