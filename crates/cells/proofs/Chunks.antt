-- Rows as a slice's `chunks_exact` gives them. Assumes nothing.
use mathlib.Core.Path.{◌≡◌, sym, ap, ◌∙◌, subst}
use mathlib.Core.List.{List, [], ◌∷◌, ◌++◌}
use mathlib.Core.Bool.{Bool, true, false, ◌&&◌}
use Prim.Native.Nat.{ℕ, zero, suc, ◌+◌, ◌*◌, ◌≤◌, ◌<◌}
use native.Mathlib.Nat.{suc-mul, zero-mul}
use native.Mathlib.Omega.{arith}
use lib.ListN.{length, take, drop, length-append}
use lib.Dec.{leb}
use lib.Seq.{take_at, drop_at, length-take-le}
use denote.Ref.{Bor}
use Rattle.std.specs.Prelude.{Option, Some, None, MatchOption}
use Rattle.std.specs.Fn.{Called, Mut}
use Rattle.std.specs.List.{FoldsTo}
use Rattle.std.specs.Iterator.{Yields}
use Rattle.std.specs.Slice.Iter.{chunks_exact_rest, chunks_exact_size, chunks_exact_steps}
use Rattle.std.specs.declared.slice.ChunksExact.{ChunksExact}
use Rattle.lists.specs.Lists.{all}
use Rattle.cells.specs.Area.{key_of, rows_of, scan}
use Rattle.cells.proofs.Trips.{rows_take}

-- ---- one chunk: x is the first row, and t has the others

module _ (w : ℕ) (c x t : List ℕ) (e : c ≡ x ++ t) (lx : length x ≡ w) where
  pub chunk_rows : (m : ℕ) → rows_of w (suc m) c ≡ x ∷ rows_of w m t
  chunk_rows m = λ i. (ap (take w) e ∙ take_at x t w lx) i ∷ rows_of w m ((ap (drop w) e ∙ drop_at x t w lx) i)

  long : length c ≡ w + length t
  long = ap length e ∙ length-append x t ∙ ap (λ (k : ℕ). k + length t) lx

  pub chunk-rest : (m : ℕ) → length c ≡ suc m * w → length t ≡ m * w
  chunk-rest m h = omega (arith, long, suc-mul m w)

  pub none-of_none : {A : Type 0} → 0 < w → length c ≡ zero * w → A
  none-of_none z h = absurd (omega (arith, long, zero-mul w))

-- no chunk is left exactly where no row is
pub few_rows : {A : Type 0} (w n m : ℕ) → n ≡ suc m * w → n < w → A
few_rows w n m e h = absurd (omega (arith, suc-mul m w))

-- ---- all chunks

-- what `all` answers of a test, of n rows
module _ {F : Type 0} (g : Mut F (Bor (List ℕ) × Unit {0}) Bool) (f : F) (p : List ℕ → Bool) (w : ℕ) (z : 0 < w)
    (acts : (x : Bor (List ℕ)) (b : Bool) (q : F) → Called g f (x, tt) b q → (q ≡ f) × (b ≡ p x.now)) where
  pub all_rows : (xs : List (Bor (List ℕ))) (n : ℕ) (s t u : ChunksExact ℕ) (o : Option (Bor (List ℕ))) (j : F) (r : Bool)
      → chunks_exact_size s ≡ w → length (chunks_exact_rest s) ≡ n * w → Yields chunks_exact_steps s xs t → chunks_exact_steps t o u
      → FoldsTo (λ k x q. Called g k (x, tt) true q) f xs j → MatchOption o (r ≡ true) (λ x. (r ≡ false) × ((h : F) × Called g j (x, tt) false h))
      → r ≡ all p (rows_of w n (chunks_exact_rest s))
  all_rows [] zero s t u None j r es el y st fo m = m
  all_rows [] (suc n) s t u None j r es el y st fo m =
      let last : length (chunks_exact_rest s) < chunks_exact_size s = subst (λ (k : ChunksExact ℕ). length (chunks_exact_rest k) < chunks_exact_size k) (sym y) st.1.0 in
      few_rows w (length (chunks_exact_rest s)) n el (omega arith)
  all_rows [] zero s t u (Some x) j r es el y st fo m =
      let k : chunks_exact_rest s ≡ x.now ++ chunks_exact_rest u = ap chunks_exact_rest y ∙ st.1.0 in
      let lx : length x.now ≡ w = st.1.1 ∙ ap chunks_exact_size (sym y) ∙ es in
      none-of_none w (chunks_exact_rest s) x.now (chunks_exact_rest u) k lx z el
  all_rows [] (suc n) s t u (Some x) j r es el y st fo m =
      let k : chunks_exact_rest s ≡ x.now ++ chunks_exact_rest u = ap chunks_exact_rest y ∙ st.1.0 in
      let lx : length x.now ≡ w = st.1.1 ∙ ap chunks_exact_size (sym y) ∙ es in
      let here : false ≡ p x.now = (acts x false m.1.0 (subst (λ (h : F). Called g h (x, tt) false m.1.0) (sym fo) m.1.1)).1 in
      m.0 ∙ ap (λ (b : Bool). b && all p (rows_of w n (chunks_exact_rest u))) here ∙ ap (all p) (sym (chunk_rows w (chunks_exact_rest s) x.now (chunks_exact_rest u) k lx n))
  all_rows (x ∷ xs) zero s t u o j r es el y st fo m =
      none-of_none w (chunks_exact_rest s) x.now (chunks_exact_rest y.0) y.1.1.0 (y.1.1.1 ∙ es) z el
  all_rows (x ∷ xs) (suc n) s t u o j r es el y st fo m =
      let lx : length x.now ≡ w = y.1.1.1 ∙ es in
      let call = acts x true fo.0 fo.1 in
      let more : r ≡ all p (rows_of w n (chunks_exact_rest y.0)) =
      all_rows xs n y.0 t u o j r (y.1.0 ∙ es) (chunk-rest w (chunks_exact_rest s) x.now (chunks_exact_rest y.0) y.1.1.0 lx n el) y.2 st
      (subst (λ (h : F). FoldsTo (λ k x q. Called g k (x, tt) true q) h xs j) call.0 fo.2) m in
      more ∙ ap (λ (b : Bool). b && all p (rows_of w n (chunks_exact_rest y.0))) call.1 ∙ ap (all p) (sym (chunk_rows w (chunks_exact_rest s) x.now (chunks_exact_rest y.0) y.1.1.0 lx n))

-- ---- one pass over rows that rise by their keys, chunk by chunk

-- of the rows that are left in c, none below `low`, the pass comes out as r
abbrev pub PassesOn : (List ℕ → Bool) → (w low : ℕ) → (c : List ℕ) → (r : Bool) → Type 0
PassesOn p w low c r = (m : ℕ) × (length c ≡ m * w) × (scan p low (rows_of w m c) ≡ r)

module _ (p : List ℕ → Bool) (w : ℕ) where
  pub pass_starts : (n : ℕ) (c rest : List ℕ) → n * w ≤ length c → rest ≡ take (n * w) c → PassesOn p w 0 rest (scan p 0 (rows_of w n c))
  pass_starts n c rest h e =
      (n, ap length e ∙ length-take-le (n * w) c h, ap (λ (l : List ℕ). scan p 0 (rows_of w n l)) e ∙ ap (scan p 0) (rows_take w n (n * w) c (omega arith)))

  -- behind the last row
  pub pass_ends : (low : ℕ) (c : List ℕ) (r : Bool) → length c < w → PassesOn p w low c r → true ≡ r
  pass_ends low c r h (zero, e, s) = s
  pass_ends low c r h (suc m, e, s) = few_rows w (length c) m e h

  -- at a row
  module _ (z : 0 < w) (low : ℕ) (c x t : List ℕ) (e : c ≡ x ++ t) (lx : length x ≡ w) (r : Bool) where
    pub pass-next : leb low (key_of x) && p x ≡ true → PassesOn p w low c r → PassesOn p w (key_of x + 1) t r
    pass-next k (zero, l, s) = none-of_none w c x t e lx z l
    pass-next k (suc m, l, s) =
        (m, chunk-rest w c x t e lx m l, sym (ap (scan p low) (chunk_rows w c x t e lx m) ∙ ap (λ (b : Bool). b && scan p (key_of x + 1) (rows_of w m t)) k) ∙ s)

    pub pass_stops : leb low (key_of x) && p x ≡ false → PassesOn p w low c r → false ≡ r
    pass_stops k (zero, l, s) = none-of_none w c x t e lx z l
    pass_stops k (suc m, l, s) =
        sym (ap (scan p low) (chunk_rows w c x t e lx m) ∙ ap (λ (b : Bool). b && scan p (key_of x + 1) (rows_of w m t)) k) ∙ s
