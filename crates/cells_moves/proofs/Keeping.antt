-- A pass that keeps rows by a test, row by row. Assumes nothing.
use mathlib.Core.Path.{◌≡◌, sym, ap, ap₂, ◌∙◌}
use mathlib.Core.Bool.{Bool, true, false, cond}
use mathlib.Core.List.{List, [], ◌∷◌, ◌++◌, map, append-nil}
use Prim.Native.Nat.{ℕ, zero, suc, ◌+◌, ◌-◌, ◌*◌, ◌≤◌, ◌<◌}
use native.Mathlib.Nat.{mul-le-mul_right, zero-mul, suc-mul}
use native.Mathlib.Numerals.{add-one}
use native.Mathlib.Omega.{arith}
use lib.ListN.{length, take, drop, get_or, length-append, length-drop, length-map, get_or-map}
use lib.Seq.{drop-drop, drop_at, take_at, length-take-le}
use borrow.Rule.Slice.PartMut.{put_mid}
use Rattle.lists.specs.Lists.{keep, all}
use Rattle.lists.proofs.Lists.{keep_append, keep-map, keep-length}
use Rattle.cells.specs.Area.{zeros, flat, area, written, rows_of}
use Rattle.cells.proofs.Areas.{flat_append, fit-zeros, zeros-append, length-rows, length-area}
use Rattle.cells.proofs.Bools.{all-place}
use Rattle.cells.proofs.Trips.{rows-area, rows-at}
use Rattle.cells_moves.specs.Keeping.{kept_rows}

rows_suc : (w i : ℕ) (c : List ℕ) → rows_of w (suc i) c ≡ rows_of w i c ++ (take w (drop (i * w) c) ∷ [])
rows_suc w zero c = rw (zero-mul w)
rows_suc w (suc i) c =
    let e : w + i * w ≡ suc i * w = rw (suc-mul i w) (omega arith) in
    ap (λ (l : List (List ℕ)). take w c ∷ l) (rows_suc w i (drop w c) ∙ ap (λ (l : List ℕ). rows_of w i (drop w c) ++ (take w l ∷ [])) (drop-drop (i * w) w c ∙ ap (λ (k : ℕ). drop k c) e))

-- row i passes or not, and so it follows the rows kept before it or doesn't
keep_suc : (p : List ℕ → Bool) (w i : ℕ) (c : List ℕ) (t : Bool) → p (take w (drop (i * w) c)) ≡ t → keep p (rows_of w (suc i) c) ≡ keep p (rows_of w i c) ++ cond t (take w (drop (i * w) c) ∷ []) []
keep_suc p w i c t e =
    ap (keep p) (rows_suc w i c) ∙ keep_append p (rows_of w i c) (take w (drop (i * w) c) ∷ [])
    ∙ ap (λ (b : Bool). keep p (rows_of w i c) ++ cond b (take w (drop (i * w) c) ∷ []) []) e

module _ (w n : ℕ) (before : List ℕ) where
  -- what holds of the cells c once i rows are read and `kept` of them are kept: the rows to come are as they were
  pub record Reading (c : List ℕ) (kept i : ℕ) : Type 0 where
    pub few : kept ≤ i
    pub more : i ≤ n
    pub size : length c ≡ length before
    pub ahead : drop (i * w) c ≡ drop (i * w) before

  -- and the first rows are those that pass p
  pub record Keeping (p : List ℕ → Bool) (c : List ℕ) (kept i : ℕ) : Type 0 where
    pub front : take (kept * w) c ≡ flat (keep p (rows_of w i before))
    pub held : kept ≡ length (keep p (rows_of w i before))

  module _ (within : n * w ≤ length before) (c : List ℕ) (kept i : ℕ) (r : Reading c kept i) where
    pub from_within : i * w ≤ n * w
    from_within = mul-le-mul_right w r.more

    pub to_from : kept * w ≤ i * w
    to_from = mul-le-mul_right w r.few

    module _ (h : i < n) where
      pub next_within : i * w + w ≤ n * w
      next_within = let m : suc i * w ≤ n * w = mul-le-mul_right w h in omega (arith, suc-mul i w)

      pub in_cells : i * w + w ≤ length c
      in_cells = omega (arith, next_within, r.size, within)

      pub this_row : take w (drop (i * w) c) ≡ take w (drop (i * w) before)
      this_row = ap (take w) r.ahead

      next_is : (k : ℕ) → (k + 1) * w ≡ k * w + w
      next_is k = omega (arith, ap (λ (m : ℕ). m * w) (add-one k), suc-mul k w)

      ahead_more : drop ((i + 1) * w) c ≡ drop ((i + 1) * w) before
      ahead_more =
          ap (λ (k : ℕ). drop k c) (next_is i) ∙ sym (drop-drop w (i * w) c) ∙ ap (drop w) r.ahead ∙ drop-drop w (i * w) before ∙ ap (λ (k : ℕ). drop k before) (sym (next_is i))

      pub left_out : Reading c kept (i + 1)
      left_out = record { few = omega (arith, r.few); more = omega arith; size = r.size; ahead = ahead_more }

      pub left_out_by : (p : List ℕ → Bool) → p (take w (drop (i * w) c)) ≡ false → Keeping p c kept i → Keeping p c kept (i + 1)
      left_out_by p e k =
          let s = ap (λ (m : ℕ). keep p (rows_of w m before)) (add-one i) ∙ keep_suc p w i before false (ap p (sym this_row) ∙ e) ∙ append-nil (keep p (rows_of w i before)) in
          record { front = k.front ∙ ap flat (sym s); held = k.held ∙ ap length (sym s) }

      module _ (d : List ℕ) (size : length d ≡ length c) (m : d ≡ written c (kept * w) (take w (drop (i * w) c))) where
        row-size : length (take w (drop (i * w) c)) ≡ w
        row-size = length-take-le w (drop (i * w) c) (omega (arith, length-drop (i * w) c, next_within, r.size, within))

        to_size : length (take (kept * w) c) ≡ kept * w
        to_size = length-take-le (kept * w) c (omega (arith, to_from, from_within, r.size, within))

        head_size : length (take (kept * w) c ++ take w (drop (i * w) c)) ≡ kept * w + w
        head_size = omega (arith, length-append (take (kept * w) c) (take w (drop (i * w) c)), row-size, to_size)

        written_is : d ≡ (take (kept * w) c ++ take w (drop (i * w) c)) ++ drop (kept * w + w) c
        written_is =
            m ∙ ap (λ (k : ℕ). take (kept * w) c ++ take w (drop (i * w) c) ++ drop (kept * w + k) c) row-size

        pub moved : Reading d (kept + 1) (i + 1)
        moved =
            let k : ℕ = i * w - kept * w in
            let e : (i + 1) * w ≡ (kept * w + w) + k = omega (arith, next_is i, to_from) in
            record {
              few = omega (arith, r.few);
              more = omega arith;
              size = size ∙ r.size;
              ahead =
                  ap (λ (j : ℕ). drop j d) e ∙ sym (drop-drop k (kept * w + w) d)
                  ∙ ap (drop k) (ap (drop (kept * w + w)) written_is ∙ drop_at (take (kept * w) c ++ take w (drop (i * w) c)) (drop (kept * w + w) c) (kept * w + w) head_size)
                  ∙ drop-drop k (kept * w + w) c ∙ ap (λ (j : ℕ). drop j c) (sym e) ∙ ahead_more;
            }

        pub moved_by : (p : List ℕ → Bool) → p (take w (drop (i * w) c)) ≡ true → Keeping p c kept i → Keeping p d (kept + 1) (i + 1)
        moved_by p e k =
            let row = take w (drop (i * w) before) in
            let s = ap (λ (j : ℕ). keep p (rows_of w j before)) (add-one i) ∙ keep_suc p w i before true (ap p (sym this_row) ∙ e) in
            record {
              front =
                  ap (λ (j : ℕ). take j d) (next_is kept)
                  ∙ ap (take (kept * w + w)) written_is ∙ take_at (take (kept * w) c ++ take w (drop (i * w) c)) (drop (kept * w + w) c) (kept * w + w) head_size
                  ∙ ap₂ (λ (a b : List ℕ). a ++ b) k.front this_row
                  ∙ sym (ap flat s ∙ flat_append (keep p (rows_of w i before)) (row ∷ []) ∙ ap (λ (l : List ℕ). flat (keep p (rows_of w i before)) ++ l) (append-nil row));
              held = omega (arith, k.held, ap length s, length-append (keep p (rows_of w i before)) (row ∷ []));
            }

    -- at the end the cells between the rows kept and what follows are cleared
    module _ (h : n ≤ i) (z : List ℕ) (cleared : z ≡ zeros (length (take (n * w - kept * w) (drop (kept * w) c)))) where
      all_read : i ≡ n
      all_read = omega (arith, r.more)

      gap-size : length (take (n * w - kept * w) (drop (kept * w) c)) ≡ n * w - kept * w
      gap-size = length-take-le (n * w - kept * w) (drop (kept * w) c) (omega (arith, length-drop (kept * w) c, to_from, from_within, r.size, within))

      gap_end : kept * w + (n * w - kept * w) ≡ n * w
      gap_end = omega (arith, to_from, from_within)

      pub kept-cells : (p : List ℕ → Bool) → Keeping p c kept i → put_mid (kept * w) (n * w - kept * w) c z ≡ kept_rows p w n before
      kept-cells p k =
          let behind = drop-drop (n * w - kept * w) (kept * w) c ∙ ap (λ (j : ℕ). drop j c) gap_end ∙ ap (λ (j : ℕ). drop (j * w) c) (sym all_read) ∙ r.ahead ∙ ap (λ (j : ℕ). drop (j * w) before) all_read in
          let ks = ap (λ (j : ℕ). keep p (rows_of w j before)) all_read in
          let held = k.held ∙ ap length ks in
          (λ j. (k.front ∙ ap flat ks) j ++ ((cleared ∙ ap zeros (gap-size ∙ ap (λ (x : ℕ). n * w - x * w) held)) j ++ behind j))

      pub kept_held : (p : List ℕ → Bool) → Keeping p c kept i → kept ≡ length (keep p (rows_of w n before))
      kept_held p k = k.held ∙ ap (λ (j : ℕ). length (keep p (rows_of w j before))) all_read

-- ---- rows that encode a list, in an area with zeros behind them

module _ {A : Type 0} (f : A → List ℕ) (w : ℕ) (wide : (a : A) → length (f a) ≡ w) (room : ℕ) (es : List A) (before : List ℕ) (is : before ≡ area f w room es) (few : length es ≤ room) where
  rows_are : rows_of w (length es) before ≡ map f es
  rows_are = ap (rows_of w (length es)) is ∙ rows-area f w wide room es few

  area_is : area f w room es ≡ flat (map f es) ++ zeros (room * w - length es * w)
  area_is = fit-zeros (room * w) (room * w - length es * w) (flat (map f es)) (omega (arith, length-rows f w wide es, mul-le-mul_right w few))

  pub within_area : length es * w ≤ length before
  within_area = omega (arith, ap length is, length-area f w wide room es, mul-le-mul_right w few)

  -- each row is that of an element, which passes what they all do
  pub row_encodes : (q : A → Bool) → all q es ≡ true → (d : A) (i : ℕ) → i < length es → (r : List ℕ) → r ≡ take w (drop (i * w) before) → (r ≡ f (get_or es i d)) × (q (get_or es i d) ≡ true)
  row_encodes q a d i h r e = (
    e ∙ sym (rows-at w (length es) before i (f d) h) ∙ ap (λ (l : List (List ℕ)). get_or l i (f d)) rows_are ∙ get_or-map f es i d,
    all-place q es i d a h,
  )

  module _ (p : List ℕ → Bool) where
    kept_are : keep p (rows_of w (length es) before) ≡ map f (keep (λ e. p (f e)) es)
    kept_are = ap (keep p) rows_are ∙ keep-map f p es

    pub kept_length : length (keep p (rows_of w (length es) before)) ≡ length (keep (λ e. p (f e)) es)
    kept_length = ap length kept_are ∙ length-map (keep (λ e. p (f e)) es) f

    pub kept_area : kept_rows p w (length es) before ≡ area f w room (keep (λ e. p (f e)) es)
    kept_area =
        let ks = keep (λ e. p (f e)) es in
        let fewer = keep-length (λ e. p (f e)) es in
        let m = mul-le-mul_right w fewer in
        let n = mul-le-mul_right w few in
        let behind : drop (length es * w) before ≡ zeros (room * w - length es * w) =
        ap (drop (length es * w)) (is ∙ area_is) ∙ drop_at (flat (map f es)) (zeros (room * w - length es * w)) (length es * w) (length-rows f w wide es) in
        let sum : length es * w - length ks * w + (room * w - length es * w) ≡ room * w - length ks * w = omega arith in
        (λ j. flat (kept_are j) ++ (zeros (length es * w - kept_length j * w) ++ behind j))
        ∙ ap (λ (l : List ℕ). flat (map f ks) ++ l) (zeros-append (length es * w - length ks * w) (room * w - length es * w) ∙ ap zeros sum)
        ∙ sym (fit-zeros (room * w) (room * w - length ks * w) (flat (map f ks)) (omega (arith, length-rows f w wide ks)))
