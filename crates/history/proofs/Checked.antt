-- The histories have the answers that are due, in both readings, by one test that antt computes over all of them.
use Prim.Native.Nat.{ℕ}
use mathlib.Core.Path.{◌≡◌, refl}
use mathlib.Core.Bool.{true}
use mathlib.Core.List.{List, Memᴰ}
use lib.Count.{ones, ones_in}
use Rattle.lists.specs.Lists.{all, written_to}
use Rattle.window.specs.Window.{distance, position, new, inside, stale, advance, bit, shift, mark, tally}
use Rattle.wire.specs.Packet.{header, header_octets, packet_of, is_u, is_d, unnamed}
use Rattle.wire.specs.Check.{first_where, first_breaking, hna_fault, packet_fault, written_fault}
use Rattle.wire.specs.Entries.{entry_of, network_of, mask_of, entry_at, entries_of}
use Rattle.wire.specs.PassOn.{flags_here, flags_elsewhere, passed_on}
use Rattle.rules.specs.Settings.{settings_ok, allowed, cells_needed, make_allowed}
use Rattle.rules.specs.Calls.{link_of, neighbour_of, interface_of, refusal}
use Rattle.rules.specs.Lookup.{covers, serving}
use Rattle.rules.specs.Rules.{stands_below, last_sent, next_number, branch, unless, receive_fault, burst_fits, own_fault, conclude, receive_each, take_burst, answer_best, fill_rows, answer_locate, verdict, store_counted, counted, uncounted, decide, take_echo, judge, send, purge, step}
use Rattle.rules.specs.Table.{first_record, next_record, is_stale_in, is_marked, record_echo, drop_old, table}
use Rattle.rules.proofs.Checked.{right, each}
use Rattle.history.specs.Book.{current, log_entries, is_stale_to, stays, log_count, log_links, others_below, log_best, is_held, book}
use Rattle.history.specs.Histories.{History, answers, histories}

abbrev says : History → List ℕ
says h = h.says

-- the test, in both readings
all_right : (all (right (answers table) says) histories ≡ true) × (all (right (answers book) says) histories ≡ true)
unfolding histories ones ones_in written_to distance position new inside stale advance bit shift mark tally header header_octets packet_of is_u is_d unnamed first_where first_breaking hna_fault packet_fault written_fault entry_of network_of mask_of entry_at entries_of flags_here flags_elsewhere passed_on settings_ok allowed cells_needed make_allowed link_of neighbour_of interface_of refusal stands_below last_sent next_number branch unless receive_fault burst_fits own_fault conclude receive_each take_burst answer_best fill_rows covers serving answer_locate verdict store_counted counted uncounted decide take_echo judge send purge step first_record next_record is_stale_in is_marked record_echo drop_old current log_entries is_stale_to stays log_count log_links others_below log_best is_held
all_right = (refl, refl)

pub histories_hold : (h : History) → Memᴰ h histories → (answers table h ≡ h.says) × (answers book h ≡ h.says)
histories_hold h m = (each (answers table) says histories all_right.0 h m, each (answers book) says histories all_right.1 h m)
