-- The ways through the call: refused by 1, refused by 14, or received. Assumes nothing.
use Prim.Native.Nat.{ℕ, ◌≤◌, ◌<◌}
use mathlib.Core.Path.{◌≡◌, refl, sym, ap, ◌∙◌, subst}
use mathlib.Core.Bool.{Bool, true, false, not}
use mathlib.Core.List.{List, []}
use lib.ListN.{length, take, get_or, replicate, length-replicate}
use native.Mathlib.Omega.{arith}
use borrow.Author.Tests.{leb-true, eqb-true, lt-ltb}
use Rattle.lists.specs.Lists.{sum, written_to}
use Rattle.lists.proofs.Tests.{both, and_at}
use Rattle.lists.proofs.Lists.{all-below}
use Rattle.wire.specs.Check.{numbered, given}
use Rattle.rules.specs.declared.Received.{Received}
use Rattle.rules.specs.Settings.{packets_most, octets, addresses}
use Rattle.rules.specs.Calls.{BurstArgs, burst, burst_received, burst_as, answered_each, refusal}
use Rattle.rules.specs.Rules.{Each, burst_tests, burst_fits, burst_reply, unless, refuse, take_burst, step}
use Rattle.rules.specs.Table.{table}
use Rattle.rules.specs.WellFormed as R
use Rattle.table_layout.specs.Cells.{decode, well_formed}
use Rattle.table_layout.specs.Calls.{Done, Performed, Promised}
use Rattle.table_layout.specs.Facts.{Knows}
use Rattle.table_layout.proofs.Bursts.{as_singles}
use Rattle.table_check.proofs.Knowing.{well_formed_lem}
use Rattle.table_changes.proofs.Performing.{not-asked, refuses}
use Rattle.call_burst_checks.specs.Sizes.{Sizes}
use Rattle.std.specs.Prelude.{Result, Ok, Err}
use Rattle.wire.specs.declared.refusals.Refusal.{Refusal}
use Rattle.wire.specs.declared.refusals.Refusal.TheVariants.{NotWellFormed, WrongBurst}
use Rattle.wire.specs.Refusals.{fault_by}
use Rattle.call_burst_rows.specs.declared.Answers.{Answers}
use Rattle.call_burst_rows.specs.Answers.{no_answer}
use Rattle.call_burst.specs.Bursts.{burst_args, Enough, Receives, answer_of, answers_of, Settles}

module _ (c b ns ss is : List ℕ) (t : ℕ) (o : List ℕ) (room : ℕ) where
  abbrev args : List Received → BurstArgs
  args lent = burst_args b ns ss is t o lent

  -- what is known of it does not hang on the rows' contents
  abbrev Typed : Type 0
  Typed = R.typed (burst (args [])) ≡ true

  -- by the ranges of the arguments' types
  pub typed_of : ((k : ℕ) → get_or b k 0 < octets) → ((k : ℕ) → get_or ss k 0 < addresses) → t < 18446744073709551616 → Typed
  typed_of hb hs ht = both (all-below addresses ss hs) (both (all-below octets b hb) (both (lt-ltb t 18446744073709551616 ht) refl))

  -- whether it fits
  abbrev Answered : Bool → Type 0
  Answered r = (a : BurstArgs) → Sizes a (length b) ns (length ss) (length is) room → r ≡ burst_fits a

  fits_by : (r : Bool) → Answered r → (lent : List Received) → length lent ≡ room → r ≡ burst_fits (args lent)
  fits_by r f lent e = f (args lent) (record { of_octets_lem = refl; of_lengths = refl; of_senders = refl; of_interfaces = refl; of_rows = e })

  -- ---- refused: no answer is written

  refused : (r : Refusal) → Typed → ((lent : List Received) → length lent ≡ room → Performed c (burst (args lent)) (refusal (burst (args lent)) (fault_by r)) c) → Settles c b ns ss is t o room c o (Err r)
  unfolding refusal written_to
  refused r y p = record { fits = tt; call = λ lent e. record { performed = p lent e; typed = y } }

  -- refusal 1
  pub not_well_formed : Typed → well_formed c ≡ false → Settles c b ns ss is t o room c o (Err NotWellFormed)
  not_well_formed y h = refused NotWellFormed y (λ lent e. not-asked c (burst (args lent)) h)

  module _ (k : Knows c) where
    well : well_formed c ≡ true
    well = well_formed_lem c k

    -- refusal 14
    pub unfit : Typed → Answered false → Settles c b ns ss is t o room c o (Err WrongBurst)
    unfolding step unless
    unfit y f =
        refused WrongBurst y (λ lent e. refuses c (burst (args lent)) well well (numbered 14)
        (ap (λ (r : Bool). unless (given (not r) 14) (refuse table (burst (args lent)) (decode c)) (take_burst table (decode c) (args lent))) (sym (fits_by false f lent e))))

    -- ---- not refused

    module _ (f : Answered true) where
      -- the tests that it has passed
      passed : (i : ℕ) → get_or (burst_tests (args (replicate room no_answer))) i true ≡ true
      unfolding burst_fits
      passed = and_at (burst_tests (args (replicate room no_answer))) (sym (fits_by true f (replicate room no_answer) (length-replicate room no_answer)))

      pub enough : Enough c b ns ss is
      enough =
          record {
            knows = k;
            few = leb-true (length ns) packets_most (passed 2);
            as_many_senders = eqb-true (length ss) (length ns) (passed 0);
            as_many_interfaces = eqb-true (length is) (length ns) (passed 1);
            adds = eqb-true (sum ns) (length b) (passed 4);
          }

      pub received_settles : (d q : List ℕ) (got : Answers) → Typed → Receives c b ns ss is t o d q got → Settles c b ns ss is t o room d q (Ok got)
      received_settles d q got y r =
          let n = r.size in
          let m : length ns ≤ room = subst (λ (j : ℕ). length ns ≤ j) (length-replicate room no_answer) (leb-true (length ns) (length (replicate room no_answer)) (passed 3)) in
          record {
            fits = (r.few, omega arith);
            call = λ lent e. (let s = as_singles c (args lent) well y (sym (fits_by true f lent e)) ∙ ap (λ (x : Each (List ℕ)). record { reply = burst_reply lent x; cells = x.state }) r.each in record {
              performed = record {
                replies = sym (ap (λ (x : Done). x.reply) s);
                leaves = sym (ap (λ (x : Done). x.cells) s);
              };
              typed = y;
            });
          }

-- what a refused call promises: the lent rows stay as they are
pub refused_promised : (c b ns ss is : List ℕ) (t : ℕ) (o d q : List ℕ) (r : Refusal) (lent : List Received) → Settles c b ns ss is t o (length lent) d q (Err r)
    → Promised c (burst (burst_args b ns ss is t o lent)) (answered_each (burst_received (burst_as (fault_by r).number 0)) q lent) d
unfolding written_to
refused_promised c b ns ss is t o d q r lent s = s.call lent refl
