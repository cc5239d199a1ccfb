-- P1 to P12 and the edges: the rule gives the answer due at every row, by one test that antt computes over all rows but the first of the edges.
use Prim.Native.Nat.{ℕ, ◌+◌, ◌*◌, ◌≤◌, ◌<◌}
use mathlib.Core.Path.{◌≡◌, refl, sym, ap₂, subst, ◌∙◌}
use mathlib.Core.Bool.{Bool, true, false, ◌&&◌, false≢true}
use mathlib.Core.List.{List, [], ◌∷◌, Memᴰ}
use lib.Dec.{eqb}
use mathlib.Core.Option.{none}
use native.Mathlib.Omega.{arith}
use lib.ListN.{drop, replicate, get_or-replicate}
use lib.Count.{ones, ones_in}
use borrow.Author.Tests.{eqb-true}
use Rattle.lists.specs.Lists.{all, written_to}
use Rattle.lists.proofs.Tests.{and_left, and_right, both}
use Rattle.window.specs.Window.{distance, position, new, inside, stale, advance, bit, shift, mark, word}
use Rattle.wire.specs.declared.Header.{Header}
use Rattle.wire.specs.Layout.{entry_size, mask_at, mask_most}
use Rattle.wire.specs.Packet.{octet, header, header_octets, packet_of, is_u, is_d, unnamed}
use Rattle.wire.specs.Check.{network, mask, host_bits, first_where, first_breaking, hna_fault, packet_fault, written_fault, packet_check}
use Rattle.wire.specs.Entries.{entry_of, network_of, mask_of, entry_at, entries_of}
use Rattle.wire.specs.PassOn.{flags_here, flags_elsewhere, passed_on}
use Rattle.wire.proofs.Laws.{reads_back, allowed as allowed-written}
use Rattle.rules.specs.Settings.{settings_ok, allowed, cells_needed, make_allowed}
use Rattle.rules.specs.Calls.{link_of, neighbour_of, interface_of, refusal}
use Rattle.rules.specs.Lookup.{covers, serving}
use Rattle.rules.specs.Rules.{stands_below, last_sent, next_number, branch, unless, receive_fault, burst_fits, own_fault, conclude, receive_each, take_burst, answer_best, fill_rows, answer_locate, verdict, store_counted, counted, uncounted, decide, take_echo, judge, send, purge, step}
use Rattle.rules.specs.Table.{first_record, next_record, is_stale_in, is_marked, record_echo, drop_old}
use Rattle.rules.specs.WellFormed.{well_formed}
use Rattle.rules.specs.Examples.{Row, row, reply, examples}
use Rattle.rules.specs.Edges.{checked, edges}

abbrev same : List ℕ → List ℕ → Bool
same [] [] = true
same [] (y ∷ ys) = false
same (x ∷ xs) [] = false
same (x ∷ xs) (y ∷ ys) = eqb x y && same xs ys

same-eq : (xs ys : List ℕ) → same xs ys ≡ true → xs ≡ ys
same-eq [] [] t = refl
same-eq [] (y ∷ ys) t = absurd (false≢true t)
same-eq (x ∷ xs) [] t = absurd (false≢true t)
same-eq (x ∷ xs) (y ∷ ys) t =
    ap₂ (λ (a : ℕ) (l : List ℕ). a ∷ l) (eqb-true x y (and_left (eqb x y) (same xs ys) t)) (same-eq xs ys (and_right (eqb x y) (same xs ys) t))

-- answers asked and answers due, of each element of a list
module _ {A : Type 0} (asked due : A → List ℕ) where
  abbrev pub right : A → Bool
  right x = same (asked x) (due x)

  pub each : (xs : List A) → all right xs ≡ true → (x : A) → Memᴰ x xs → asked x ≡ due x
  each [] t x x4 = elim x4 [ ]
  each (y ∷ ys) t x (Memᴰ.head e) = subst (λ (z : A). asked z ≡ due z) (sym e) (same-eq (asked y) (due y) (and_left (right y) (all right ys) t))
  each (y ∷ ys) t x (Memᴰ.tail m) = each ys (and_right (right y) (all right ys) t) x m

abbrev answers : Row → List ℕ
answers r = reply r.poses

abbrev says : Row → List ℕ
says r = r.says

-- a packet of 1,472 octets is accepted, by the laws: its 292 entries would take long to compute
longest : right answers says (row (checked 4 (replicate 1460 0)) (0 ∷ [])) ≡ true
unfolding packet_check packet_of header_octets
longest =
    let e : List ℕ = replicate 1460 0 in
    let h : Header = record { version = 4; flags = 0; ttl = 0; gateway = 0; sequence = 0; port = 0; originator = 0 } in
    let zero_at : (i : ℕ) → i < 1460 → octet e i ≡ 0 = λ i l. get_or-replicate 1460 i 0 0 l in
    let masks : (k : ℕ) → k < 292 → mask e k ≤ mask_most = λ k l. rw (zero_at (entry_size * k + mask_at) (omega arith)) (omega arith) in
    let clean : (k : ℕ) → k < 292 → host_bits (network e k) (mask e k) ≡ 0 = λ k l.
    let at = entry_size * k in
    rw (zero_at at (omega arith), zero_at (at + 1) (omega arith), zero_at (at + 2) (omega arith), zero_at (at + 2 + 1) (omega arith), zero_at (at + mask_at) (omega arith)) in
    let none_found : packet_fault 4 (packet_of h e) ≡ none = (reads_back h e).check ∙ allowed-written e (record { few = omega arith; whole = refl; masks = masks; clean = clean }) in
    rw none_found

-- the test, over both tables
all_right : (all (right answers says) examples ≡ true) × (all (right answers says) (drop 1 edges) ≡ true)
unfolding examples edges well_formed ones ones_in written_to distance position new inside stale advance bit shift mark word header header_octets packet_of is_u is_d unnamed first_where first_breaking hna_fault packet_fault written_fault packet_check flags_here flags_elsewhere passed_on settings_ok allowed cells_needed make_allowed link_of neighbour_of interface_of refusal stands_below last_sent next_number branch unless receive_fault burst_fits own_fault conclude receive_each take_burst answer_best fill_rows answer_locate verdict store_counted counted uncounted decide take_echo judge send purge step first_record next_record is_stale_in is_marked record_echo drop_old entry_of network_of mask_of entry_at entries_of covers serving
all_right = (refl, refl)

-- P1 to P12
pub examples_hold : (r : Row) → Memᴰ r examples → reply r.poses ≡ r.says
examples_hold = each answers says examples all_right.0

pub edges_hold : (r : Row) → Memᴰ r edges → reply r.poses ≡ r.says
unfolding edges
edges_hold = each answers says edges (both longest all_right.1)
