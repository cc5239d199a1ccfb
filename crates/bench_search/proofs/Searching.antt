-- One search more: what it adds to those that have a record. Assumes nothing.
use mathlib.Core.Path.{◌≡◌, sym, ap, ◌∙◌}
use mathlib.Core.List.{List, ◌∷◌}
use mathlib.Core.Bool.{Bool, true, false, cond}
use mathlib.Core.Option.{Option}
use Prim.Native.Nat.{ℕ, suc, ◌+◌, ◌≤◌, ◌<◌, zero-le}
use native.Mathlib.Numerals.{add-one}
use native.Mathlib.Omega.{arith}
use lib.ListN.{length, drop, get_or}
use lib.Seq.{drop-cons}
use Rattle.lists.specs.Lists.{keep, maybe}
use Rattle.std.specs.Prelude.{Result, Ok, Err}
use Rattle.rules.specs.Table.{TableRecord}
use Rattle.table_layout.specs.Cells.{well_formed}
use Rattle.table_originators.specs.Originators.{RecordFound, rounds_most}
use Rattle.bench_search.specs.declared.Searches.{Searches}
use Rattle.bench_search.specs.Searches.{held_at, is_held, SearchesIn, SearchesOf}

pub held_one : (c : List ℕ) (o : ℕ) (f : Result ℕ ℕ) → RecordFound c o f → held_at f ≡ cond (is_held c o) 1 0
held_one c o (Ok i) s = sym (ap (λ (x : Option TableRecord). cond (maybe x false (λ v. true)) 1 0) s.found)
held_one c o (Err i) m = sym (ap (λ (x : Option TableRecord). cond (maybe x false (λ v. true)) 1 0) m.none)

pub keep-next : (p : ℕ → Bool) (os : List ℕ) (i : ℕ) → i < length os → length (keep p (drop i os)) ≡ cond (p (get_or os i 0)) 1 0 + length (keep p (drop (i + 1) os))
keep-next p os i h = rw (add-one, drop-cons os i 0) (go (get_or os i 0) (keep p (drop (suc i) os)) (p (get_or os i 0)))
  where
    go : (x : ℕ) (l : List ℕ) (b : Bool) → length (cond b (x ∷ l) l) ≡ cond b 1 0 + length l
    go x l true = omega arith
    go x l false = omega arith

-- what holds whenever the loop's test is reached: what is counted so far, with those of the originators left that have a record, are those of all
pub record Going (c os : List ℕ) (held most i : ℕ) : Type 0 where
  pub within : i ≤ length os
  pub each : held ≤ i
  pub all : held + length (keep (is_held c) (drop i os)) ≡ length (keep (is_held c) os)
  pub few : most ≤ rounds_most

module _ {c os : List ℕ} {held most i : ℕ} (g : Going c os held most i) where
  -- one search more
  module _ (more : i < length os) (f : Result ℕ ℕ) (found : RecordFound c (get_or os i 0) f) {h : ℕ} (is : h ≡ held_at f) where
    at_most_one : h ≤ 1
    at_most_one = go f is
      where
        go : (f : Result ℕ ℕ) → h ≡ held_at f → h ≤ 1
        go (Ok j) e = omega arith
        go (Err j) e = omega arith

    pub held_more : held + h ≤ i + 1
    held_more = let a = g.each in omega (arith, at_most_one)

    pub going_next : (next : ℕ) → next ≤ rounds_most → Going c os (held + h) next (i + 1)
    going_next next few =
        let e = is ∙ held_one c (get_or os i 0) f found in
        let n = keep-next (is_held c) os i more in
        let a = g.all in
        record { within = omega arith; each = held_more; all = omega arith; few = few }

-- of any cells, by whether they are a well-formed table's
module _ (c os : List ℕ) where
  pub refused : well_formed c ≡ false → SearchesOf c os (record { number = 1; held = 0; most = 0 })
  refused w = record { number = rw w; held = rw w; few = zero-le }

  pub accepted : (r : Searches) → well_formed c ≡ true → SearchesIn c os r → SearchesOf c os r
  accepted r w s = record { number = rw w s.number; held = rw w s.held; few = s.few }
