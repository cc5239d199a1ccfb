-- The scan's best is the entry that serves the address, and the ways through the lookup's call. Assumes nothing.
use mathlib.Core.Path.{◌≡◌, refl, sym, ap, ap₂, ◌∙◌}
use mathlib.Core.List.{List, [], ◌∷◌}
use mathlib.Core.Bool.{Bool, true, false, cond, ◌&&◌}
use mathlib.Core.Option.{Option, none, some}
use Prim.Native.Nat.{ℕ, ◌+◌}
use native.Mathlib.Numerals.{add-one}
use native.Mathlib.Omega.{arith}
use lib.Dec.{leb}
use borrow.Author.Tests.{ne_eqb}
use Rattle.lists.specs.Lists.{maybe}
use Rattle.wire.specs.Entries.{network_of, mask_of}
use Rattle.rules.specs.Calls.{located_as, locate, located, answered, refusal}
use Rattle.rules.specs.Lookup.{covers, Announced, announced_by, announced, serving}
use Rattle.rules.specs.Rules.{entries_held, answer_locate, step}
use Rattle.rules.specs.Table.{table}
use Rattle.rules.proofs.Lookup.{needed, seen, scan, scan-append, serving-scan}
use Rattle.table_layout.specs.Calls.{Performed}
use Rattle.table_layout.specs.Cells.{decode, well_formed}
use Rattle.table_layout.proofs.Encoding.{encode-decode}
use Rattle.table_check.proofs.Knowing.{knows}
use Rattle.table_changes.proofs.Performing.{not-asked, does}
use Rattle.call_lookup.specs.declared.Best.{Best}
use Rattle.call_lookup.specs.Scan.{none_seen, seen_one, seen_by, seen_all, located_at}
use Rattle.call_lookup.proofs.Records.{entries-rise}

-- ---- the best so far, as the rules' scan has it

abbrev best_of : Option Announced → Best
best_of b = maybe b none_seen (λ x. record { least = mask_of x.entry + 1; originator = x.originator; network = network_of x.entry })

least_needed : (b : Option Announced) → (best_of b).least ≡ needed b
least_needed none = refl
least_needed (some x) = add-one (mask_of x.entry)

one_seen : (a : ℕ) (b : Option Announced) (x : Announced) → best_of (seen a b x) ≡ seen_one a x.originator x.entry (best_of b)
unfolding seen_one
one_seen a b x =
    go (covers a x.entry) (leb (needed b) (mask_of x.entry))
    ∙ ap (λ (n : ℕ). cond (leb n (mask_of x.entry) && covers a x.entry) (best_of (some x)) (best_of b)) (sym (least_needed b))
  where
    go : (t u : Bool) → best_of (cond t (cond u (some x) b) b) ≡ cond (u && t) (best_of (some x)) (best_of b)
    go true true = refl
    go true false = refl
    go false true = refl
    go false false = refl

by_seen : (a : ℕ) (b : Option Announced) (o i : ℕ) (es : List ℕ) → best_of (scan a b (announced_by o i es)) ≡ seen_by a o es (best_of b)
by_seen a b o i [] = refl
by_seen a b o i (e ∷ es) =
    let x : Announced = record { originator = o; place = i; entry = e } in
    by_seen a (seen a b x) o (i + 1) es ∙ ap (seen_by a o es) (one_seen a b x)

all_seen : (a : ℕ) (b : Option Announced) (xs : List (ℕ × List ℕ)) → best_of (scan a b (announced xs)) ≡ seen_all a xs (best_of b)
all_seen a b [] = refl
all_seen a b (x ∷ xs) =
    let own = announced_by x.0 0 x.1 in
    ap best_of (scan-append a b own (announced xs)) ∙ all_seen a (scan a b own) xs ∙ ap (seen_all a xs) (by_seen a b x.0 0 x.1)

-- its answer is that of the entry
best-answer : (x : Option Announced)
    → located_at (best_of x) ≡ maybe x (located_as 0 0 0 0 0) (λ y. located_as 0 1 y.originator (network_of y.entry) (mask_of y.entry))
best-answer none = refl
best-answer (some y) =
    let m = mask_of y.entry in
    ap₂ (λ (t : Bool) (k : ℕ). cond t (located_as 0 0 0 0 0) (located_as 0 1 y.originator (network_of y.entry) k)) (ne_eqb (m + 1) 0 (λ e. omega arith)) (omega arith)

-- ---- the call

module _ (c : List ℕ) (a : ℕ) where
  pub ill_formed : well_formed c ≡ false → Performed c (locate a) (answered (located (located_as 1 0 0 0 0))) c
  unfolding refusal
  ill_formed e = not-asked c (locate a) e

  pub answers : well_formed c ≡ true → Performed c (locate a) (answered (located (located_at (seen_all a (entries_held table (decode c)) none_seen)))) c
  unfolding step answer_locate
  answers well =
      let xs = entries_held table (decode c) in
      does c (locate a) well (answer_locate table (decode c) (serving a xs)) refl _ _
      (ap (λ b. answered (located (located_at b))) (sym (all_seen a none xs))
      ∙ ap (λ l. answered (located l)) (best-answer (scan a none (announced xs)))
      ∙ ap (λ (x : Option Announced). answered (located (maybe x (located_as 0 0 0 0 0) (λ y. located_as 0 1 y.originator (network_of y.entry) (mask_of y.entry))))) (sym (serving-scan a xs (entries-rise c (knows c well)))))
      (sym (encode-decode c well))
