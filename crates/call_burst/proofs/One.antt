-- One packet of a burst is a single call, given the rest of the output. Assumes nothing.
use Prim.Native.Nat.{ℕ, ◌-◌, ◌≤◌}
use mathlib.Core.Path.{◌≡◌, sym, ap, ◌∙◌, subst}
use mathlib.Core.List.{List}
use lib.ListN.{length, take, drop, length-drop}
use lib.Seq.{drop_at, length-take-le}
use native.Mathlib.Omega.{arith}
use borrow.Rule.Slice.PartMut.{mid_of, put_mid, same_len_mid, take_put}
use Rattle.cells.proofs.Lent.{tail_is, tail_back}
use Rattle.rules.specs.declared.Received.{Received}
use Rattle.rules.specs.Calls.{single_call, receive, received, Reply, number_of, answered_writing}
use Rattle.rules.specs.Table.{table}
use Rattle.rules.proofs.Bursts.{copy-fits}
use Rattle.table_layout.specs.Cells.{decode}
use Rattle.table_layout.specs.Calls.{Done, Performed}
use Rattle.table_layout.specs.Facts.{Knows}
use Rattle.table_layout.proofs.Calls.{goes_on}
use Rattle.table_check.proofs.Knowing.{well_formed_lem}
use Rattle.call_burst.specs.Bursts.{packet_at, Spaces, One}

-- the rest of the output o from f on, once y stands in its place
rest : (o y : List ℕ) (f : ℕ) → f ≤ length o → drop f (put_mid f (length o - f) o y) ≡ y
rest o y f h = ap (drop f) (tail_back o f y h) ∙ drop_at (take f o) y f (length-take-le f o h)

module _ (c buffer : List ℕ) (at n sender interface time : ℕ) (o : List ℕ) (f : ℕ) (s : Spaces c buffer at n o f) where
  -- its octets are as many as its length says
  size : length (take n (drop at buffer)) ≡ n
  size = length-take-le n (drop at buffer) (omega (arith, length-drop at buffer, s.packet))

  pub one : (k : ℕ) → k ≡ n → (d y : List ℕ) (r : Received) → length y ≡ length (mid_of f (length o - f) o)
      → Performed c (receive (single_call time (mid_of f (length o - f) o) (packet_at buffer at k sender interface))) (answered_writing (received r) y) d → Knows d
      → One c buffer at n sender interface time o f d (put_mid f (length o - f) o y) r
  one k m d y r l p g =
      let e = tail_is o f in
      let v = subst (λ (j : ℕ). Performed c (receive (single_call time (mid_of f (length o - f) o) (packet_at buffer at j sender interface))) (answered_writing (received r) y) d) m p in
      let w = subst (λ (z : List ℕ). Performed c (receive (single_call time z (packet_at buffer at n sender interface))) (answered_writing (received r) y) d) e v in
      record {
        call = (λ i. (sym w.replies i, sym w.leaves i)) ∙ ap (λ (z : List ℕ). (answered_writing (received r) z, d)) (sym (rest o y f s.rest));
        before = take_put f (length o - f) o y s.rest;
        size = same_len_mid f (length o - f) o y l;
        knows = g;
        fits = λ x. omega (arith, size, length-drop f o, s.rest, fitting w x);
      }
    where
      fitting : Performed c (receive (single_call time (drop f o) (packet_at buffer at n sender interface))) (answered_writing (received r) y) d → r.number ≡ 26 → length (take n (drop at buffer)) ≤ length (drop f o)
      fitting w m =
          let call = receive (single_call time (drop f o) (packet_at buffer at n sender interface)) in
          copy-fits table (length c) (decode c) (single_call time (drop f o) (packet_at buffer at n sender interface))
          (sym (ap (λ (z : Done). number_of z.reply.answer) (goes_on c call (well_formed_lem c s.knows))) ∙ sym (ap (λ (z : Reply). number_of z.answer) w.replies) ∙ m)
