-- A burst on cells is its packets' single calls on cells. Assumes nothing.
use Prim.Native.Nat.{ℕ}
use mathlib.Core.Path.{◌≡◌, refl, sym, ap, ◌∙◌}
use mathlib.Core.Bool.{Bool, true, not}
use mathlib.Core.List.{List, []}
use lib.ListN.{length}
use Rattle.wire.specs.Check.{given}
use Rattle.rules.specs.Calls.{ReceiveArgs, BurstArgs, packets_of, single_call, receive, burst, Reply}
use Rattle.rules.specs.Rules.{OutcomeOf, Each, receive_each, burst_reply, unless, burst_fits, refuse, receive_on, burst_on, take_burst, step}
use Rattle.rules.specs.Table.{TableState, table}
use Rattle.rules.specs.WellFormed as R
use Rattle.rules.proofs.WellFormed.{well_formed-step}
use Rattle.rules.proofs.Bursts.{in_state, each_alike, packets_typed}
use Rattle.table_layout.specs.Cells.{encode, decode, well_formed}
use Rattle.table_layout.specs.Calls.{Done, stepped, call_on, receive_in, burst_in}
use Rattle.table_layout.proofs.Encoding.{laws}
use Rattle.table_layout.proofs.Calls.{goes_on}

-- a single call on the cells of a well-formed table
single : (s : TableState) → R.well_formed s ≡ true → (r : ReceiveArgs) → receive_in (encode s) r ≡ ((receive_on table s r).reply, encode (receive_on table s r).state)
unfolding step
single s w r =
    ap (λ (d : Done). (d.reply, d.cells)) (goes_on (encode s) (receive r) (laws.encoded s w))
    ∙ ap (λ (x : TableState). ((receive_on table x r).reply, encode (receive_on table x r).state)) (laws.decoded s w)

single_keeps : (s : TableState) → R.well_formed s ≡ true → (r : ReceiveArgs) → R.typed (receive r) ≡ true → R.well_formed (receive_on table s r).state ≡ true
unfolding step
single_keeps s w r t = well_formed-step 0 s w (receive r) t

module _ (c : List ℕ) (a : BurstArgs) (w : well_formed c ≡ true) where
  on_cells : R.typed (burst a) ≡ true → burst_in c a ≡ in_state encode (burst_on table (decode c) a)
  on_cells t =
      ap (λ (d : List ℕ). receive_each receive_in a.time d a.output (packets_of a)) (sym (laws.cells c w))
      ∙ each_alike _ (λ s. R.well_formed s ≡ true) a.time (λ p. R.typed (receive (single_call a.time [] p))) encode receive_in
      (λ s o p h v. let r = single_call a.time o p in (single s v r, single_keeps s v r h))
      (packets_of a) (packets_typed a t) (decode c) a.output (laws.table c w)

  fitting : burst_fits a ≡ true → step table (length c) (decode c) (burst a) ≡ take_burst table (decode c) a
  unfolding step unless
  fitting f = ap (λ (b : Bool). unless (given (not b) 14) (refuse table (burst a) (decode c)) (take_burst table (decode c) a)) f

  pub as_singles : R.typed (burst a) ≡ true → burst_fits a ≡ true → call_on c (burst a) ≡ record { reply = burst_reply a.answers (burst_in c a); cells = (burst_in c a).state }
  unfolding take_burst
  as_singles t f =
      goes_on c (burst a) w ∙ ap (λ (o : OutcomeOf table). record { reply = o.reply; cells = encode o.state }) (fitting f)
      ∙ ap (λ (x : Each (List ℕ)). record { reply = burst_reply a.answers x; cells = x.state }) (sym (on_cells t))
