-- The link is located once: its marks tell a duplicate, and its spot is where the message is counted. What is answered is by the row that is left.
use mathlib.Core.Path.{◌≡◌, sym, ◌∙◌, subst}
use mathlib.Core.List.{List}
use Prim.Native.Nat.{ℕ}
use native.Mathlib.Omega.{arith}
use lib.ListN.{get_or}
use Rattle.std.proofs.lemmas.Result.{err_from_is_err_and}
use Rattle.cells.specs.Find.{Sorted}
use Rattle.window.proofs.Positions.{inside-lt}
use Rattle.rules.specs.Settings.{Config, Follows, link_cells}
use Rattle.rules.specs.Messages.{message_of}
use Rattle.table_record.specs.Links.{links_from}
use Rattle.table_record.specs.Record.{current_at, links_at, links_of, links_part, decode_record}
use Rattle.table_record.proofs.Routes.{held_sorted}
use Rattle.count_links.specs.Links.{SpotOf}
use Rattle.count_links.specs.declared.Spot.{Spot}
use Rattle.std.specs.Prelude.{Ok}
use Rattle.count_in_record.specs.Counting.{CountedIn}
use Rattle.count_in_record.proofs.Left.{some_config, some_follows, counted-held}
use Rattle.hear_message.specs.Hearing.{is_repeated}
use Rattle.hear_message.proofs.Hearing.{inside_is, marked_by, heard-kept, counted-marks, heard-counted, heard-refused}
use Rattle.hear_message.proofs.hear.Goals as goal
use Rattle.hear_message.proofs.hear.Goals.{After-is_duplicate-duplicate, In_ok-marks}

-- where the message's link stands among those of the row
spot_in : (row : List ℕ) (link : ℕ) {part : List ℕ} (spot : Spot) → part ≡ links_part row → SpotOf (links_from (get_or row links_at 0) part) link spot → SpotOf (links_of row) link spot
spot_in row link spot e h = subst (λ (part : List ℕ). SpotOf (links_from (get_or row links_at 0) part) link spot) e h

pub locate-spot-requires : goal.locate-spot-requires
locate-spot-requires c =
    subst (Sorted link_cells (get_or c.args.row.now links_at 0)) (sym c.links_part.ensures) (held_sorted c.args.row.now c.requires.0)

-- a number inside the window has a place in the word of marks
pub is_duplicate-duplicate-requires : goal.is_duplicate-duplicate-requires
is_duplicate-duplicate-requires c i =
    let a = c.args in
    let w = a.p.window in
    let current = get_or a.row.now current_at 0 in
    let h = inside-lt w current a.m.sequence (inside_is w current a.m.sequence c.requires.3.lies ∙ i) in
    omega arith

-- it is a duplicate or not, as the rules say it
duplicate-is : (c : goal.After-is_duplicate-duplicate) (κ : Config) → Follows κ c.args.p → c.is_duplicate-duplicate.result ≡ is_repeated κ (message_of c.args.m c.args.hna.now) (decode_record c.args.row.now).1
duplicate-is c κ f =
    let a = c.args in
    marked_by κ a.row.now a.m.link a.m.sequence f (omega arith) c.requires.3.lies (spot_in c.args.row.now c.args.m.link c.locate-spot.result c.links_part.ensures c.locate-spot.ensures).marks c.is_duplicate-duplicate.ensures

pub returns-then-not-bidirectional-duplicate : goal.returns-then-not-bidirectional-duplicate
returns-then-not-bidirectional-duplicate c κ f =
    let a = c.args in
    heard-kept κ (message_of c.args.m c.args.hna.now) a.bidirectional a.row.now (duplicate-is (goal.at.returns-then-not-bidirectional-duplicate c).After-is_duplicate-duplicate κ f) c.if-not-bidirectional-duplicate.true (c.answer_of.ensures κ f)

pub count_message-requires : goal.count_message-requires
count_message-requires c =
    (c.requires.0, c.requires.1, spot_in c.args.row.now c.args.m.link c.locate-spot.result c.links_part.ensures c.locate-spot.ensures, c.requires.3)

pub returns-in_err-marks : goal.returns-in_err-marks
returns-in_err-marks c κ f =
    let a = c.args in
    let p = err_from_is_err_and c.from_residual.result c.from_residual.ensures.1 in
    rw (p.1, p.2) (
    heard-refused κ (message_of c.args.m c.args.hna.now) a.bidirectional a.row.now (duplicate-is (goal.at.returns-in_err-marks c).After-is_duplicate-duplicate κ f) _ (c.if-not-bidirectional-duplicate.false) (c.in_err-marks.ensures κ f))

-- counted, with these marks
done : (c : goal.In_ok-marks) (κ : Config) → Follows κ c.args.p → CountedIn κ (message_of c.args.m c.args.hna.now) c.args.row.now c.count_message.new.row (Ok c.in_ok-marks.marks)
done c κ f = c.in_ok-marks.ensures κ f

pub answer_counted-requires : goal.answer_counted-requires
answer_counted-requires c =
    let p = c.args.p in
    let m = message_of c.args.m c.args.hna.now in
    let row = c.args.row.now in
    let w = done (goal.at.answer_counted-requires c).In_ok-marks (some_config p) (some_follows p) in
    (counted-held (some_config p) m (omega arith) c.requires.2 _ row _ c.requires.0 w, c.requires.1, counted-marks (some_config p) m c.args.bidirectional row (duplicate-is (goal.at.answer_counted-requires c).After-is_duplicate-duplicate (some_config p) (some_follows p)) _ w)

pub returns : goal.returns
returns c κ f =
    let a = c.args in
    heard-counted κ (message_of c.args.m c.args.hna.now) a.bidirectional a.row.now (duplicate-is (goal.at.returns c).After-is_duplicate-duplicate κ f) _ (done (goal.at.returns c).In_ok-marks κ f) (c.if-not-bidirectional-duplicate.false) (c.answer_counted.ensures κ f)
