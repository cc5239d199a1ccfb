-- `fields_ok` makes the tests of the fields before the links, each at once.
use borrow.Author.Tests.{ltb-true, leb-true}
use Rattle.lists.proofs.Tests.{and_left, and_right}
use mathlib.Core.Path.{sym, ◌∙◌}
use mathlib.Core.Bool.{◌&&◌, not, and-true, and_assoc}
use lib.Dec.{leb}
use lib.ListN.{get_or}
use Rattle.rules.specs.Settings.{link_most, entry_most, addresses, is_address, is_number, is_octet, within}
use Rattle.table_record.specs.Record.{address_at, current_at, time_at, last_ttl_at, links_at, entries_at, links_part, entries_part, decode_record}
use Rattle.cells.proofs.Areas.{length-fit}
use Rattle.table_record.proofs.Links.{length-links}
use Rattle.table_record_check.proofs.fields_ok.Goals as goal

pub returns : goal.returns
unfolding decode_record
returns c =
    let a = c.args in
    let row = a.row.now in
    let address = get_or row address_at 0 in
    let n = get_or row links_at 0 in
    let m = get_or row entries_at 0 in
    let own = c.is_own in
    record {
      small = λ h. ltb-true address addresses (and_left (is_address address) _ (and_right (leb a.low address) _ h));
      few = λ h. leb-true n link_most (and_left (leb n link_most) _ (and_right (leb 1 n) _ (and_right (is_octet (get_or row last_ttl_at 0)) _ (and_right (leb (get_or row time_at 0) a.limits.time) _
          (and_right (is_number (get_or row current_at 0)) _ (and_right (not own.result) _ (and_right (is_address address) _ (and_right (leb a.low address) _ h))))))));
      few_entries = λ h. leb-true m entry_most (and_right (leb n link_most) _ (and_right (leb 1 n) _ (and_right (is_octet (get_or row last_ttl_at 0)) _ (and_right (leb (get_or row time_at 0) a.limits.time) _
          (and_right (is_number (get_or row current_at 0)) _ (and_right (not own.result) _ (and_right (is_address address) _ (and_right (leb a.low address) _ h))))))));
      tests = λ κ time d.
          let mine = own.ensures ∙ d.own address in
          let held = sym (length-links n (links_part row)) in
          let kept = sym (length-fit m (entries_part row)) in
          λ i. leb a.low address && (is_address address && (not (mine i) && (is_number (get_or row current_at 0) && (leb (get_or row time_at 0) (d.time i) && (is_octet (get_or row last_ttl_at 0) && (sym (and_assoc (leb 1 n) (leb n link_most) (leb m entry_most)) ∙ (λ j. within 1 link_most (held j) && sym (and-true (leb (kept j) entry_most)) j)) i)))));
    }
