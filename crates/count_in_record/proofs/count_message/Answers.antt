-- The links are recounted on a scratch; the row is written where they and the entries fit, and is then the next record's.
use mathlib.Core.Path.{◌≡◌, refl, sym, ap, ◌∙◌, subst}
use mathlib.Core.Bool.{true}
use mathlib.Core.List.{List}
use Prim.Native.Nat.{ℕ, ◌*◌, ◌≤◌}
use native.Mathlib.Omega.{arith}
use lib.Dec.{ltb}
use borrow.Author.Tests.{ltb-true, ltb-false}
use lib.ListN.{length, take, get_or}
use lib.Seq.{length-take-le}
use Rattle.lists.proofs.Tests.{and_left, and_right, and_open}
use Rattle.window.specs.Window.{new, advance}
use Rattle.wire.proofs.Entries.{length-entries}
use Rattle.rules.specs.Settings.{link_most, entry_most, link_cells}
use Rattle.rules.specs.Messages.{message_of}
use Rattle.table_record.specs.Links.{links_from}
use Rattle.table_record.specs.Record.{current_at, links_at}
use Rattle.table_record.proofs.Rows.{part_size}
use Rattle.count_links.specs.Links.{SpotOf}
use Rattle.count_in_record.proofs.Rows.{advance_is, new_is, next_near, counted_11, counted_15, counted-now}
use Rattle.count_in_record.proofs.count_message.Goals as goal
use Rattle.count_in_record.proofs.count_message.Goals.{After-advance-next, After-is_new-replaced, After-out-2-1, After-too_many, Else-replaced-too_many}

-- the current number that it leaves
current_is : (c : goal.After-advance-next) → let a = c.args in c.advance-next.result ≡ advance a.p.window (get_or a.row.now current_at 0) a.m.sequence
current_is c =
    advance_is c.args.p.window (get_or c.args.row.now current_at 0) c.args.m.sequence c.requires.3.lies c.advance-next.ensures

pub recount-left-requires : goal.recount-left-requires
recount-left-requires c =
    let a = c.args in
    let row = a.row.now in
    let h = next_near a.p.window (get_or row current_at 0) a.m.sequence c.requires.3.lies c.requires.3.timely (omega arith) (current_is (goal.at.recount-left-requires c).After-advance-next) c.distance-below.ensures in
    let size = ap length c.links_part.ensures in
    record {
      link_cells_in_bounds = (omega (arith, size, part_size row c.requires.0.size), c.requires.0.few, c.requires.1, omega arith);
      blank = (record { size = refl; cells = refl }, subst (λ (part : List ℕ). SpotOf (links_from (get_or row links_at 0) part) a.m.link a.spot) (sym c.links_part.ensures) c.requires.2);
    }

pub returns-then-left-gt-LINKS_MOST : goal.returns-then-left-gt-LINKS_MOST
returns-then-left-gt-LINKS_MOST c κ f =
    counted_11 κ c.args.row.now (message_of c.args.m c.args.hna.now) f (omega arith) (current_is (goal.at.returns-then-left-gt-LINKS_MOST c).After-advance-next) c.distance-up.ensures c.distance-below.ensures c.links_part.ensures
    c.recount-left.ensures c.if-left-gt-LINKS_MOST.true

-- whether the entries are replaced, and whether they are too many
replaced-is : (c : goal.After-is_new-replaced) → let a = c.args in c.is_new-replaced.result ≡ new a.p.window (get_or a.row.now current_at 0) a.m.sequence
replaced-is c =
    new_is c.args.p.window (get_or c.args.row.now current_at 0) c.args.m.sequence c.requires.3.lies c.is_new-replaced.ensures

many_is : (c : goal.After-too_many) → c.too_many.result ≡ ltb entry_most (length (message_of c.args.m c.args.hna.now).entries)
many_is c = c.too_many.ensures ∙ ap (ltb entry_most) (sym (length-entries c.args.hna.now))

pub returns-then-replaced-too_many : goal.returns-then-replaced-too_many
returns-then-replaced-too_many c κ f =
    let replaced = c.is_new-replaced.result in
    counted_15 κ c.args.row.now (message_of c.args.m c.args.hna.now) f (omega arith) (current_is (goal.at.returns-then-replaced-too_many c).After-advance-next) c.distance-up.ensures c.distance-below.ensures c.links_part.ensures
    c.recount-left.ensures c.if-left-gt-LINKS_MOST.false (replaced-is (goal.at.returns-then-replaced-too_many c).After-is_new-replaced) (and_left replaced c.too_many.result c.if-replaced-too_many.true)
    (ltb-true entry_most (length (message_of c.args.m c.args.hna.now).entries) (sym (many_is (goal.at.returns-then-replaced-too_many c).After-too_many) ∙ and_right replaced c.too_many.result c.if-replaced-too_many.true))

-- entries that replace others are not too many
few : (c : goal.Else-replaced-too_many) → c.is_new-replaced.result ≡ true → length (message_of c.args.m c.args.hna.now).entries ≤ entry_most
few c t = ltb-false entry_most (length (message_of c.args.m c.args.hna.now).entries) (sym (c.too_many.ensures ∙ ap (ltb entry_most) (sym (length-entries c.args.hna.now))) ∙ and_open c.is_new-replaced.result c.too_many.result c.if-replaced-too_many.false t)

links-length : (c : goal.After-out-2-1) → c.recount-left.result.links ≤ link_most → length (take (c.recount-left.result.links * link_cells) c.recount-left.new.out) ≡ (c.recount-left.result.links * link_cells)
links-length c h = length-take-le (c.recount-left.result.links * link_cells) c.recount-left.new.out (omega (arith, c.recount-left.auto.out))

-- no more links are left than there is room for
room : (c : goal.After-too_many) → c.recount-left.result.links ≤ link_most
room c = c.if-left-gt-LINKS_MOST.false

pub store_message-requires : goal.store_message-requires
store_message-requires c =
    (c.requires.0.size, omega (arith, links-length (goal.at.store_message-requires c).After-out-2-1 (room (goal.at.store_message-requires c).After-too_many)), λ t. omega (arith, few (goal.at.store_message-requires c).Else-replaced-too_many t, length-entries c.args.hna.now))

pub returns : goal.returns
returns c κ f =
    counted-now κ c.args.row.now (message_of c.args.m c.args.hna.now) f (omega arith) (current_is (goal.at.returns c).After-advance-next) c.distance-up.ensures c.distance-below.ensures c.links_part.ensures
    c.recount-left.ensures (room (goal.at.returns c).After-too_many) (replaced-is (goal.at.returns c).After-is_new-replaced) c.requires.0 (few (goal.at.returns c).Else-replaced-too_many) _ c.recount-left.auto.out (sym (length-entries c.args.hna.now)) c.store_message.ensures

pub slice_bounds-store_message-end : goal.slice_bounds-store_message-end
slice_bounds-store_message-end c = sym (links-length (goal.at.slice_bounds-store_message-end c).After-out-2-1 (room (goal.at.slice_bounds-store_message-end c).After-too_many))
