-- A message that comes to a record: counted or not, its answer is by what is left. Assumes nothing.
use mathlib.Core.Path.{◌≡◌, sym, ap, ap₂, ◌∙◌, subst}
use mathlib.Core.Bool.{Bool, true, false, cond, ◌&&◌, ◌||◌, not}
use mathlib.Core.List.{List}
use mathlib.Core.Option.{Option}
use Prim.Native.Nat.{ℕ, ◌%◌, ◌<◌}
use native.Mathlib.Nat.{mod-eq_of_lt}
use lib.Dec.{eqb}
use lib.ListN.{get_or}
use Rattle.lists.specs.Lists.{maybe}
use Rattle.lists.proofs.Tests.{and_right, both}
use Rattle.window.specs.declared.Marks.{Marks}
use Rattle.window.specs.declared.Position.{Position}
use Rattle.window.specs.Window.{numbers, position, is_inside, inside, marked}
use Rattle.window.specs.Marks.{word_of}
use Rattle.std.specs.Prelude.{Ok, Err}
use Rattle.wire.specs.declared.Fault.{Fault}
use Rattle.wire.specs.declared.refusals.Refusal.{Refusal}
use Rattle.rules.specs.declared.Policy.{Policy}
use Rattle.rules.specs.Messages.{Message}
use Rattle.rules.specs.Settings.{Config, Follows}
use Rattle.rules.specs.Table.{TableRecord, marks_at, next_record, is_marked}
use Rattle.table_record.specs.Record.{current_at, last_ttl_at, links_of, encode_record, decode_record}
use Rattle.table_record.proofs.Rows.{record_back}
use Rattle.count_in_record.specs.Counting.{counted_fault, CountedIn}
use Rattle.count_in_record.proofs.Rows.{no_fault}
use Rattle.hear_message.specs.declared.Answer.{Answer}
use Rattle.hear_message.specs.declared.Heard.TheVariants as H
use Rattle.hear_message.specs.Hearing.{is_repeated, is_fresh_in, is_counted, Answered, HeardIn}

-- ---- a number that comes to a record

-- a number lies inside the window where its position says so
pub inside_is : (w c n : ℕ) {q : Position} → q ≡ position w c n → inside w c n ≡ is_inside q
unfolding inside
inside_is w c n e = ap is_inside (sym e)

-- the number n, on link l
module _ (κ : Config) (row : List ℕ) (l n : ℕ) {p : Policy} (f : Follows κ p) (small : n < numbers) where
  abbrev current_then : ℕ
  current_then = get_or row current_at 0

  abbrev same_number : n ≡ n % numbers
  same_number = sym (mod-eq_of_lt small)

  -- where it lies beside the window tells, with its link's marks, whether it is a duplicate
  module _ {q : Position} (e : q ≡ position p.window current_then n) where
    pub marked_by : {t : Bool} {v : ℕ} → v ≡ marks_at (links_of row) l → t ≡ (is_inside q && marked v current_then n) → t ≡ is_marked κ (decode_record row).1 l (n % numbers)
    unfolding is_marked decode_record
    marked_by ev et =
        et ∙ (λ i. sym (inside_is p.window current_then n e) i && marked (ev i) current_then n)
        ∙ (λ i. inside (f.window i) current_then (same_number i) && marked (marks_at (links_of row) l) current_then (same_number i))

-- ---- counted or not

module _ (κ : Config) (m : Message) (b : Bool) (row : List ℕ) {duplicate : Bool} (ed : duplicate ≡ is_repeated κ m (decode_record row).1) where
  abbrev x : TableRecord
  x = (decode_record row).1

  abbrev next : TableRecord
  next = next_record κ m x

  counted_is : {t : Bool} → (b && not duplicate) ≡ t → is_counted κ m b x ≡ t
  counted_is e = ap (λ (d : Bool). b && not d) (sym ed) ∙ e

  -- the row that is left, by whether the next record takes its place
  abbrev row_if : Bool → List ℕ
  row_if taken = cond taken (encode_record ((decode_record row).0, next)) row

  -- not counted
  pub heard-kept : {a : Answer} → (b && not duplicate) ≡ false → Answered κ m.link x (not duplicate || eqb m.ttl (get_or row last_ttl_at 0)) a → HeardIn κ m b row row (Ok (H.Uncounted a))
  unfolding decode_record
  heard-kept {a} t w =
      record { answers = (counted_is t, subst (λ (d : Bool). Answered κ m.link x (not d || eqb m.ttl x.last_ttl) a) ed w); cells = sym (ap (λ (c : Bool). row_if (c && maybe (counted_fault κ next) true (λ f. false))) (counted_is t)) }

  -- counted
  module _ {after : List ℕ} (v : Marks) (w : CountedIn κ m row after (Ok v)) where
    left : (decode_record after).1 ≡ next
    left = ap (λ (l : List ℕ). (decode_record l).1) w.1 ∙ ap (λ (p : ℕ × TableRecord). p.1) (let few = no_fault κ next w.0 in record_back ((decode_record row).0, next) few.0 few.1)

    pub counted-marks : word_of v ≡ marks_at (links_of after) m.link
    unfolding decode_record
    counted-marks = w.2 ∙ sym (ap (λ (y : TableRecord). marks_at y.links m.link) left)

    -- and so no duplicate
    pub heard-counted : {a : Answer} → (b && not duplicate) ≡ true → Answered κ m.link (decode_record after).1 true a → HeardIn κ m b row after (Ok (H.Counted a))
    heard-counted {a} t g =
        let new : true ≡ is_fresh_in κ m x = ap (λ (z : Bool). z || eqb m.ttl x.last_ttl) (sym (ap not (sym ed) ∙ and_right b (not duplicate) t)) in
        let taken = both (counted_is t) (ap (λ (o : Option Fault). maybe o true (λ f. false)) w.0) in
        record {
          answers = (taken, subst (λ (f : Bool). Answered κ m.link next f a) new (subst (λ (y : TableRecord). Answered κ m.link y true a) left g));
          cells = w.1 ∙ sym (ap row_if taken);
        }

  -- refused
  pub heard-refused : {after : List ℕ} (f : Refusal) → (b && not duplicate) ≡ true → CountedIn κ m row after (Err f) → HeardIn κ m b row after (Err f)
  heard-refused f t w = record { answers = (counted_is t, w.0); cells = w.1 ∙ sym (ap₂ (λ (c : Bool) (o : Option Fault). row_if (c && maybe o true (λ g. false))) (counted_is t) w.0) }
