-- The tables of every history tell it.
use Prim.Native.Nat.{ℕ, suc, ◌<◌, ◌≤◌}
use mathlib.Core.Path.{◌≡◌, refl, sym, ap, ap₂, ◌∙◌, subst}
use mathlib.Core.Bool.{Bool, true, false, cond, ◌&&◌, ◌||◌, false≢true, or-true}
use mathlib.Core.Option.{Option, none, some, map}
use mathlib.Core.List.{List, [], ◌∷◌}
use lib.Dec.{eqb}
use native.Mathlib.Omega.{arith}
use borrow.Author.Tests.{eqb-true, eqb-false, eq-eqb, ne_eqb}
use Rattle.lists.specs.Lists.{maybe, keep, elem}
use Rattle.lists.specs.Keyed.{lookup, map_values}
use Rattle.lists.proofs.Tests.{both, and_left, and_right, or_else}
use Rattle.lists.proofs.Lists.{all_true, all-elem}
use Rattle.lists.proofs.Keyed.{lookup-map_values, lookup-all}
use Rattle.lists.proofs.Rising.{Rising, rising-map_values, found_once}
use Rattle.window.specs.Window.{distance, new, inside, count, tally}
use Rattle.window.proofs.Numbers.{distance-lt}
use Rattle.window.proofs.Words.{tally-none, tally-same, tally-most}
use Rattle.rules.specs.Settings.{Config, MakeArgs, config_of, allowed, make_allowed}
use Rattle.rules.specs.Calls.{Call}
use Rattle.rules.specs.Messages.{Message}
use Rattle.rules.specs.Rules.{sequence_of, stands_below, fresh}
use Rattle.rules.specs.Table.{TableRecord, TableState, marks_at, is_marked, table}
use Rattle.rules.proofs.Config.{make-allowed}
use Rattle.history.specs.Book.{Log, one, cons, latest, current, log_entries, came, stays, log_count, log_links, others_below, log_best, book}
use Rattle.history.specs.TableOfBook.{record_of}
use Rattle.history.specs.History.{after}
use Rattle.history.specs.Demand.{Stood, now, before, Later, past, Stayed, OthersBelow, HowMany, Best, MadeOrMoved, made, moved, Entries, Stands, book_then, TablesTell}
use Rattle.history.proofs.Sound.{fresh_sound, after_sound}
use Rattle.history.proofs.Log.{W, is_timely, all_timely, latest-timely, before-timely, absent, zero_below}
use Rattle.history.proofs.Records.{count-marks, marks-at, marked-stays}
use Rattle.history.proofs.History.{timely-kept, history}

-- ---- logs as they stood

size : Log → ℕ
size (one m) = 1
size (cons m s) = suc (size s)

stood-size : {s t : Log} → Stood s t → size t ≤ size s
unfolding size
stood-size now = omega arith
stood-size (before e) = let h = stood-size e in omega arith

stood-same : {s t : Log} → Stood s t → size s ≤ size t → s ≡ t
unfolding size
stood-same now h = refl
stood-same (before e) h = absurd (let g = stood-size e in omega arith)

later_size : {s t : Log} → Later s t → size t < size s
unfolding size
later_size (past e) = let h = stood-size e in omega arith

-- no count is later than the latest
none_later : {s u : Log} → Stood s u → Later u s → ⊥
none_later a b = let x = stood-size a in let y = later_size b in omega arith

-- ---- a number that stays

module _ (κ : Config) (l n : ℕ) where
  at-latest : (m : Message) (s : Log) → latest s ≡ m → came m l n ≡ true → inside (W κ) (current κ s) n ≡ true → Stayed κ s l n
  at-latest m s e h k =
      record {
        at = s;
        stood = now;
        link = ap (λ x. x.link) e ∙ sym (eqb-true l m.link (and_left (eqb l m.link) (eqb n (sequence_of m)) h));
        number = ap sequence_of e ∙ sym (eqb-true n (sequence_of m) (and_right (eqb l m.link) (eqb n (sequence_of m)) h));
        within = λ u a b. subst (λ v. inside (W κ) (current κ v) n ≡ true) (stood-same a (stood-size b)) k;
      }

  -- one OGM more leaves what stayed, if its window still holds it
  still : (m : Message) (s : Log) → inside (W κ) (current κ (cons m s)) n ≡ true → Stayed κ s l n → Stayed κ (cons m s) l n
  still m s i r = record { at = r.at; stood = before r.stood; link = r.link; number = r.number; within = go }
    where
      go : (u : Log) → Stood (cons m s) u → Stood u r.at → inside (W κ) (current κ u) n ≡ true
      go u now b = i
      go u (before a) b = r.within u a b

  stayed : (s : Log) → stays κ s l n ≡ true → Stayed κ s l n
  unfolding stays current
  stayed (one m) h = at-latest m (one m) refl (and_right (inside (W κ) (sequence_of m) n) (came m l n) h) (and_left (inside (W κ) (sequence_of m) n) (came m l n) h)
  stayed (cons m s) h = go (came m l n) refl (stayed s)
    where
      i : inside (W κ) (current κ (cons m s)) n ≡ true
      i = and_left (inside (W κ) (current κ (cons m s)) n) (came m l n || stays κ s l n) h

      go : (t : Bool) → came m l n ≡ t → (stays κ s l n ≡ true → Stayed κ s l n) → Stayed κ (cons m s) l n
      go true e f = at-latest m (cons m s) refl e i
      go false e f = still m s i (f (or_else (came m l n) (stays κ s l n) (and_right (inside (W κ) (current κ (cons m s)) n) (came m l n || stays κ s l n) h) e))

  -- the other way round
  came_as : (m : Message) → m.link ≡ l → sequence_of m ≡ n → came m l n ≡ true
  came_as m p q = both (eq-eqb l m.link (sym p)) (eq-eqb n (sequence_of m) (sym q))

  back : (s t : Log) → Stood s t → (latest t).link ≡ l → sequence_of (latest t) ≡ n
      → ((u : Log) → Stood s u → Stood u t → inside (W κ) (current κ u) n ≡ true) → stays κ s l n ≡ true
  unfolding stays current
  back (one m) t now p q k = both (k (one m) now now) (came_as m p q)
  back (cons m s) t now p q k = ap₂ (λ (a b : Bool). a && (b || stays κ s l n)) (k (cons m s) now now) (came_as m p q)
  back (cons m s) t (before e) p q k =
      ap₂ (λ (a b : Bool). a && (came m l n || b)) (k (cons m s) now (before e)) (back s t e p q (λ u a b. k u (before a) b))
      ∙ or-true (came m l n)

-- ---- the best link

module _ (κ : Config) (hκ : allowed κ ≡ true) where
  count-absent : (s : Log) (l : ℕ) → elem l (log_links s) ≡ false → log_count κ s l ≡ 0
  unfolding log_count
  count-absent s l h = tally-none (W κ) (λ k. stays κ s l (distance (current κ s) k)) (λ k _. absent κ s l (distance (current κ s) k) h)

  -- every other link stands below: as a test over the log's links, and of every link
  abbrev test : Log → ℕ → Bool
  test s k = eqb k (latest s).link || stands_below κ (log_count κ s k) (log_count κ s (latest s).link)

  from_test : (s : Log) → is_timely κ s ≡ true → others_below κ s (latest s).link ≡ true → OthersBelow κ s
  unfolding others_below
  from_test s p h l n = go (elem l (log_links s)) refl
    where
      go : (t : Bool) → elem l (log_links s) ≡ t → stands_below κ (log_count κ s l) (log_count κ s (latest s).link) ≡ true
      go true e = or_else (eqb l (latest s).link) _ (all-elem (test s) (log_links s) h l e) (ne_eqb l (latest s).link n)
      go false e = ap (λ x. stands_below κ x (log_count κ s (latest s).link)) (count-absent s l e) ∙ zero_below κ hκ s p

  to_test : (s : Log) → OthersBelow κ s → others_below κ s (latest s).link ≡ true
  unfolding others_below
  to_test s h = all_true (test s) (λ k. go k (eqb k (latest s).link) refl) (log_links s)
    where
      go : (k : ℕ) (t : Bool) → eqb k (latest s).link ≡ t → (t || stands_below κ (log_count κ s k) (log_count κ s (latest s).link)) ≡ true
      go k true e = refl
      go k false e = h k (eqb-false k (latest s).link e)

  first_test : (m : Message) → others_below κ (one m) m.link ≡ true
  unfolding others_below log_links
  first_test m = ap (λ (t : Bool). (t || stands_below κ (log_count κ (one m) m.link) (log_count κ (one m) m.link)) && true) (eq-eqb m.link m.link refl)

  best-latest : (s : Log) → is_timely κ s ≡ true → others_below κ s (latest s).link ≡ true → Best κ s (latest s).link
  best-latest s p h =
      record {
        at = s;
        stood = now;
        link = refl;
        highest = from_test s p h;
        last = λ u a b _. none_later a b;
      }

  best_is : (s : Log) → all_timely κ s ≡ true → Best κ s (log_best κ s)
  unfolding log_best
  best_is (one m) p = best-latest (one m) (latest-timely κ (one m) p) (first_test m)
  best_is (cons m s) p = go (others_below κ (cons m s) m.link) refl (best_is s (before-timely κ m s p))
    where
      go : (t : Bool) → others_below κ (cons m s) m.link ≡ t → Best κ s (log_best κ s) → Best κ (cons m s) (cond t m.link (log_best κ s))
      go true e r = best-latest (cons m s) (latest-timely κ (cons m s) p) e
      go false e r = record { at = r.at; stood = before r.stood; link = r.link; highest = r.highest; last = last }
        where
          last : (u : Log) → Stood (cons m s) u → Later u r.at → OthersBelow κ u → ⊥
          last u now b t = false≢true (sym e ∙ to_test (cons m s) t)
          last u (before a) b t = r.last u a b t

-- ---- the entries

module _ (κ : Config) where
  entries-latest : (s : Log) → MadeOrMoved κ s → Entries κ s (latest s).entries
  entries-latest s h = record { at = s; stood = now; list = refl; replaced = h; last = λ u a b _. none_later a b }

  entries_are : (s : Log) → Entries κ s (log_entries κ s)
  unfolding log_entries
  entries_are (one m) = entries-latest (one m) made
  entries_are (cons m s) = go (new (W κ) (current κ s) (sequence_of m)) refl (entries_are s)
    where
      go : (t : Bool) → new (W κ) (current κ s) (sequence_of m) ≡ t → Entries κ s (log_entries κ s) → Entries κ (cons m s) (cond t m.entries (log_entries κ s))
      go true e r = entries-latest (cons m s) (moved e)
      go false e r = record { at = r.at; stood = before r.stood; list = r.list; replaced = r.replaced; last = last }
        where
          last : (u : Log) → Stood (cons m s) u → Later u r.at → MadeOrMoved κ u → ⊥
          last u now b (moved h) = false≢true (sym e ∙ h)
          last u (before a) b t = r.last u a b t

-- ---- counts

how_many_stayed : (κ : Config) (t : Log) (l : ℕ) → HowMany κ t l
unfolding log_count
how_many_stayed κ t l =
    record {
      has_stayed = stays κ t l;
      tells = λ n h. ((λ e. stayed κ l n t e), (λ r. back κ l n t r.at r.stood r.link r.number r.within));
      number = refl;
    }

-- ---- a record stands as its log says

module _ (κ : Config) (hκ : allowed κ ≡ true) (s : Log) (timely : all_timely κ s ≡ true) where
  how_many_lem : (l : ℕ) → count (marks_at (record_of κ s).links l) ≡ tally (W κ) (λ k. is_marked κ (record_of κ s) l (distance (current κ s) k))
  unfolding log_count
  how_many_lem l =
      ap count (marks-at κ s l) ∙ count-marks κ s l
      ∙ tally-same (W κ) (λ k. stays κ s l (distance (current κ s) k)) (λ k. is_marked κ (record_of κ s) l (distance (current κ s) k)) (λ k _. sym (marked-stays κ s l (distance (current κ s) k) (distance-lt (current κ s) k)))

  stands : Stands κ s (record_of κ s)
  stands =
      record {
        window = λ l n h. ((λ e. stayed κ l n s (sym (marked-stays κ s l n h) ∙ e)), (λ r. marked-stays κ s l n h ∙ back κ l n s r.at r.stood r.link r.number r.within));
        how_many = how_many_lem;
        most = λ l. rw (how_many_lem l) (tally-most (W κ) (λ k. is_marked κ (record_of κ s) l (distance (current κ s) k)));
        counts = λ t _ l. how_many_stayed κ t l;
        best = best_is κ hκ s timely;
        entries = entries_are κ s;
      }

-- ---- what stands under an address in a table that is a book's

module _ (κ : Config) (es : List (ℕ × Log)) (r : Rising es) (o : ℕ) where
  under : keep (λ (e : ℕ × TableRecord). eqb o e.0) (map_values (record_of κ) es) ≡ maybe (map (record_of κ) (lookup o es)) [] (λ v. (o, v) ∷ [])
  under = found_once o (map_values (record_of κ) es) (rising-map_values (record_of κ) es r) ∙ ap (λ (f : Option TableRecord). maybe f [] (λ v. (o, v) ∷ [])) (lookup-map_values (record_of κ) o es)

  under_is : (x : Option Log) → lookup o es ≡ x
      → keep (λ (e : ℕ × TableRecord). eqb o e.0) (map_values (record_of κ) es) ≡ maybe (map (record_of κ) x) [] (λ v. (o, v) ∷ [])
  under_is x h = under ∙ ap (λ (f : Option Log). maybe (map (record_of κ) f) [] (λ v. (o, v) ∷ [])) h

-- the tables of every history tell it
pub tables_tell : (cells : ℕ) (a : MakeArgs) (cs : List Call) → make_allowed cells a ≡ true → TablesTell cells a cs
tables_tell cells a cs h =
    let p = make-allowed cells a h in
    let e = (history cells (config_of a) p cs).1 in
    let b = book_then cells a cs in
    let sound = after_sound book all_timely timely-kept cells (fresh book (config_of a)) (fresh_sound book all_timely timely-kept (config_of a) p) cs in
    let found : (o : ℕ) (x : Option Log) → lookup o b.records ≡ x → keep (λ (y : ℕ × TableRecord). eqb o y.0) (after table cells (fresh table (config_of a)) cs).records ≡ maybe (map (record_of b.config) x) [] (λ v. (o, v) ∷ []) =
    λ o x g. ap (λ (t : TableState). keep (λ (y : ℕ × TableRecord). eqb o y.0) t.records) e ∙ under_is b.config b.records sound.rise o x g in
    record {
      same = (history cells (config_of a) p cs).0;
      nothing = λ o g. found o none g;
      one = λ o s g. (record_of b.config s, found o (some s) g, subst (λ (t : TableState). Stands t.config s (record_of b.config s)) (sym e) (stands b.config sound.allowed s (lookup-all (λ e. all_timely b.config e.1) o s b.records sound.each g)));
    }
