-- Rows taken out of an area in one pass that moves each kept row down once: a turn of such a loop, for any width and any test. Assumes nothing.
use mathlib.Core.Path.{◌≡◌, refl, sym, ap, ap₂, ◌∙◌}
use mathlib.Core.Bool.{Bool, true, false}
use mathlib.Core.List.{List, [], ◌∷◌, ◌++◌, map, append_assoc, append-nil}
use Prim.Native.Nat.{ℕ, suc, ◌+◌, ◌-◌, ◌*◌, ◌≤◌, ◌<◌}
use native.Mathlib.Nat.{mul-le-mul_right}
use native.Mathlib.Omega.{arith}
use lib.ListN.{length, take, drop, get_or, length-append, length-drop, get_or-append}
use lib.Seq.{drop_at, drop-append-add, take-append_seam, drop-append_seam, drop-append-le, get_or-append-add, length-take-le}
use borrow.Rule.Slice.PartMut.{put_mid}
use Rattle.lists.specs.Lists.{keep, all}
use Rattle.cells.specs.Area.{zeros, flat, area, written}
use Rattle.lists.proofs.Tests.{and_left, and_right}
use Rattle.cells.proofs.Areas.{length-fit, fit_nil_fit, fit-zeros, rows_append, length-rows, length-area}
use Rattle.cells.proofs.Keys.{one-row}

-- ---- a row r that is moved down over a gap g to the end of a; t follows it
module _ (a g r t : List ℕ) where
  whole : List ℕ
  whole = a ++ (g ++ (r ++ t))

  at_row : drop (length a + length g) whole ≡ r ++ t
  unfolding whole
  at_row = drop-append-add a (g ++ (r ++ t)) (length g) ∙ drop_at g (r ++ t) (length g) refl

  row_is : take (length r) (drop (length a + length g) whole) ≡ r
  row_is = ap (take (length r)) at_row ∙ take-append_seam r t

  row_cell : (j : ℕ) → j < length r → get_or whole (length a + length g + j) 0 ≡ get_or r j 0
  unfolding whole
  row_cell j h =
      let e : length a + length g + j ≡ length a + (length g + j) = omega arith in
      ap (λ (k : ℕ). get_or whole k 0) e ∙ get_or-append-add a (g ++ (r ++ t)) (length g + j) 0 ∙ get_or-append-add g (r ++ t) j 0 ∙ get_or-append r t 0 j h

  row_within : length a + length g + length r ≤ length whole
  unfolding whole
  row_within = omega (arith, length-append a (g ++ (r ++ t)), length-append g (r ++ t), length-append r t)

  -- what the move leaves: the row after a, and a gap as long as before
  gap_then : List ℕ
  gap_then = drop (length r) (g ++ r)

  length_gap : length gap_then ≡ length g
  unfolding gap_then
  length_gap = omega (arith, length-drop (length r) (g ++ r), length-append g r)

  moved_is : written whole (length a) r ≡ (a ++ r) ++ (gap_then ++ t)
  unfolding whole gap_then
  moved_is =
      let h : length r ≤ length (g ++ r) = omega (arith, length-append g r) in
      ap₂ (λ (x y : List ℕ). x ++ r ++ y) (take-append_seam a (g ++ (r ++ t)))
      (drop-append-add a (g ++ (r ++ t)) (length r) ∙ ap (drop (length r)) (sym (append_assoc g r t)) ∙ drop-append-le (length r) (g ++ r) t h)

  length_moved : length ((a ++ r) ++ (gap_then ++ t)) ≡ length whole
  unfolding whole
  length_moved =
      omega (arith, length-append (a ++ r) (gap_then ++ t), length-append a r, length-append gap_then t, length_gap, length-append a (g ++ (r ++ t)), length-append g (r ++ t), length-append r t)

zeros-append : (m n : ℕ) → zeros m ++ zeros n ≡ zeros (m + n)
zeros-append m n = sym (fit-zeros (m + n) n (zeros m) (omega (arith, length-fit m []))) ∙ fit_nil_fit (m + n) m

-- f gives each element's row of w cells; p says which elements are kept, and each passes the test q; zs follows the rows
module _ {A : Type 0} (f : A → List ℕ) (w : ℕ) (wide : (a : A) → length (f a) ≡ w) (p q : A → Bool) (es : List A) (zs : List ℕ) where
  -- the rows kept so far, then what was moved from, then the rows to come
  pub record Compacting (c : List ℕ) (kept to from left : ℕ) : Type 0 where
    pub done : List A
    pub gap : List ℕ
    pub rest : List A
    pub cells : c ≡ flat (map f done) ++ (gap ++ (flat (map f rest) ++ zs))
    pub goal : done ++ keep p rest ≡ keep p es
    pub each : all q rest ≡ true
    pub held : kept ≡ length done
    pub target : to ≡ length (flat (map f done))
    pub source : from ≡ to + length gap
    pub remain : left ≡ length rest
    pub size : length c ≡ length (flat (map f es)) + length zs

  pub compact_start : (c : List ℕ) → c ≡ flat (map f es) ++ zs → all q es ≡ true → Compacting c 0 0 0 (length es)
  compact_start c e a =
      record { done = []; gap = []; rest = es; cells = e; goal = refl; each = a; held = refl; target = refl; source = refl; remain = refl; size = ap length e ∙ length-append (flat (map f es)) zs }

  -- a turn: the next element, its cells, and what dropping and keeping it leave
  pub record Turn (c : List ℕ) (kept to from left : ℕ) : Type 0 where
    pub next : A
    pub passes : q next ≡ true
    pub cell : (j : ℕ) → j < w → get_or c (from + j) 0 ≡ get_or (f next) j 0
    pub order : to ≤ from
    pub within : from + w ≤ length c
    pub dropped : p next ≡ false → Compacting c kept to (from + w) (left - 1)
    pub moved : p next ≡ true → (d : List ℕ) → d ≡ written c to (take w (drop from c)) → Compacting d (kept + 1) (to + w) (from + w) (left - 1)

  module _ (c : List ℕ) (kept to from left : ℕ) (done : List A) (gap : List ℕ) (x : A) (xs : List A)
      (cells : c ≡ flat (map f done) ++ (gap ++ (flat (map f (x ∷ xs)) ++ zs))) (goal : done ++ keep p (x ∷ xs) ≡ keep p es)
      (each : all q (x ∷ xs) ≡ true) (held : kept ≡ length done) (target : to ≡ length (flat (map f done)))
      (source : from ≡ to + length gap) (remain : left ≡ suc (length xs)) (size : length c ≡ length (flat (map f es)) + length zs) where
    tail : List ℕ
    tail = flat (map f xs) ++ zs

    -- the cells, with the next row by itself
    split : c ≡ whole (flat (map f done)) gap (f x) tail
    unfolding whole tail
    split = cells ∙ ap (λ (l : List ℕ). flat (map f done) ++ (gap ++ l)) (append_assoc (f x) (flat (map f xs)) zs)

    from_is : from ≡ length (flat (map f done)) + length gap
    from_is = omega arith

    -- the rows kept, with this one
    grown : flat (map f (done ++ (x ∷ []))) ≡ flat (map f done) ++ f x
    grown = rows_append f w wide done (x ∷ []) ∙ ap (λ (l : List ℕ). flat (map f done) ++ l) (append-nil (f x))

    moved-cells : (d : List ℕ) → d ≡ written c to (take w (drop from c)) → d ≡ (flat (map f done) ++ f x) ++ (gap_then (flat (map f done)) gap (f x) tail ++ tail)
    moved-cells d m =
        let wx : w ≡ length (f x) = sym (wide x) in
        m ∙ (λ i. written (split i) (target i) (take (wx i) (drop (from_is i) (split i))))
        ∙ ap (written (whole (flat (map f done)) gap (f x) tail) (length (flat (map f done)))) (row_is (flat (map f done)) gap (f x) tail)
        ∙ moved_is (flat (map f done)) gap (f x) tail

    turn : Turn c kept to from left
    unfolding tail
    turn = record {
      next = x;
      passes = and_left (q x) (all q xs) each;
      cell = λ j h. ap₂ (λ (l : List ℕ) (k : ℕ). get_or l (k + j) 0) split from_is ∙ row_cell (flat (map f done)) gap (f x) tail j (omega (arith, wide x));
      order = omega arith;
      within = omega (arith, ap length split, row_within (flat (map f done)) gap (f x) tail, wide x);
      dropped = λ e. record {
        done = done;
        gap = gap ++ f x;
        rest = xs;
        cells = cells ∙ ap (λ (l : List ℕ). flat (map f done) ++ l) (ap (λ (l : List ℕ). gap ++ l) (append_assoc (f x) (flat (map f xs)) zs) ∙ sym (append_assoc gap (f x) tail));
        goal = rw e at goal;
        each = and_right (q x) (all q xs) each;
        held = held;
        target = target;
        source = omega (arith, length-append gap (f x), wide x);
        remain = omega arith;
        size = size;
      };
      moved = λ e d m. record {
        done = done ++ (x ∷ []);
        gap = gap_then (flat (map f done)) gap (f x) tail;
        rest = xs;
        cells = moved-cells d m ∙ ap (λ (l : List ℕ). l ++ (gap_then (flat (map f done)) gap (f x) tail ++ tail)) (sym grown);
        goal = append_assoc done (x ∷ []) (keep p xs) ∙ (rw e at goal);
        each = and_right (q x) (all q xs) each;
        held = omega (arith, length-append done (x ∷ []));
        target = omega (arith, ap length grown, length-append (flat (map f done)) (f x), wide x);
        source = omega (arith, length_gap (flat (map f done)) gap (f x) tail);
        remain = omega arith;
        size = ap length (moved-cells d m) ∙ length_moved (flat (map f done)) gap (f x) tail ∙ sym (ap length split) ∙ size;
      };
    }

  pub compact_turn : (c : List ℕ) (kept to from left : ℕ) → Compacting c kept to from left → 0 < left → Turn c kept to from left
  compact_turn c kept to from left g h =
      go g.rest g.cells g.goal g.each g.remain
    where
      go : (r : List A) → c ≡ flat (map f g.done) ++ (g.gap ++ (flat (map f r) ++ zs)) → g.done ++ keep p r ≡ keep p es → all q r ≡ true → left ≡ length r → Turn c kept to from left
      go [] cells goal each remain = absurd (omega arith)
      go (x ∷ xs) cells goal each remain = turn c kept to from left g.done g.gap x xs cells goal each g.held g.target g.source remain g.size

  -- at the end the gap is cleared, and the area holds the elements kept; it has room for n
  pub record Compacted (n : ℕ) (c : List ℕ) (kept to from : ℕ) : Type 0 where
    pub order : to ≤ from
    pub within : from ≤ length c
    pub held : kept ≡ length (keep p es)
    pub cleared : (z : List ℕ) → z ≡ zeros (from - to) → put_mid to (from - to) c z ≡ area f w n (keep p es)

  pub compact_done : (n : ℕ) → zs ≡ zeros (n * w - length es * w) → length es * w ≤ n * w → (c : List ℕ) (kept to from left : ℕ) → Compacting c kept to from left → left ≤ 0 → Compacted n c kept to from
  compact_done n ez room c kept to from left g h = go g.rest g.cells g.goal g.remain
    where
      go : (r : List A) → c ≡ flat (map f g.done) ++ (g.gap ++ (flat (map f r) ++ zs)) → g.done ++ keep p r ≡ keep p es → left ≡ length r → Compacted n c kept to from
      go (x ∷ xs) cells goal remain = absurd (omega arith)
      go [] cells goal remain =
          let a : List ℕ = flat (map f g.done) in
          let e : g.done ≡ keep p es = sym (append-nil g.done) ∙ goal in
          let k : from - to ≡ length g.gap = omega (arith, g.source) in
          let lz : length zs ≡ n * w - length es * w = ap length ez ∙ length-fit (n * w - length es * w) [] in
          let total : length a + (length g.gap + length zs) ≡ n * w =
          omega (arith, ap length cells, length-append a (g.gap ++ zs), length-append g.gap zs, g.size, length-rows f w wide es, lz) in
          record {
            order = omega (arith, g.source);
            within = omega (arith, ap length cells, length-append a (g.gap ++ zs), length-append g.gap zs, g.target, g.source);
            held = g.held ∙ ap length e;
            cleared = λ z d.
                (λ i. take (g.target i) (cells i) ++ (d i ++ drop (k i) (drop (g.target i) (cells i))))
                ∙ ap₂ (λ (x y : List ℕ). x ++ (zeros (from - to) ++ y)) (take-append_seam a (g.gap ++ zs)) (ap (drop (length g.gap)) (drop-append_seam a (g.gap ++ zs)) ∙ drop-append_seam g.gap zs)
                ∙ ap (λ (l : List ℕ). a ++ l) ((λ i. zeros (k i) ++ ez i) ∙ zeros-append (length g.gap) (n * w - length es * w))
                ∙ sym (fit-zeros (n * w) (length g.gap + (n * w - length es * w)) a (omega arith))
                ∙ ap (λ (l : List A). area f w n l) e;
          }

  -- ---- the same with what a loop needs of its numbers: n is how many rows there is room for

  pub record Pass (n : ℕ) (c : List ℕ) (kept to from left : ℕ) : Type 0 where
    pub size : length c ≡ n * w
    pub order : to ≤ from
    pub room : from + left * w ≤ n * w
    pub few : kept + left ≤ n
    pub going : Compacting c kept to from left

  pub pass_start : (n : ℕ) (c : List ℕ) → length es ≤ n → zs ≡ zeros (n * w - length es * w) → c ≡ area f w n es → all q es ≡ true → Pass n c 0 0 0 (length es)
  pass_start n c l ez e a =
      let m : length es * w ≤ n * w = mul-le-mul_right w l in
      record {
        size = ap length e ∙ length-area f w wide n es;
        order = omega arith;
        room = omega arith;
        few = omega arith;
        going = compact_start c
            (e ∙ fit-zeros (n * w) (n * w - length es * w) (flat (map f es)) (omega (arith, length-rows f w wide es)) ∙ ap (λ (l : List ℕ). flat (map f es) ++ l) (sym ez)) a;
      }

  module _ (n : ℕ) (c : List ℕ) (kept to from left : ℕ) (h : Pass n c kept to from left) (more : 0 < left) where
    pub pass_turn : Turn c kept to from left
    pass_turn = compact_turn c kept to from left h.going more

    row_more : left * w ≡ (left - 1) * w + w
    row_more = one-row left w more

    pub pass_dropped : p pass_turn.next ≡ false → Pass n c kept to (from + w) (left - 1)
    pass_dropped e =
        record {
          size = h.size;
          order = omega (arith, h.order);
          room = omega (arith, h.room, row_more);
          few = omega (arith, h.few);
          going = pass_turn.dropped e;
        }

    pub pass_moved : p pass_turn.next ≡ true → (d : List ℕ) → length d ≡ length c → d ≡ written c to (take w (drop from c)) → Pass n d (kept + 1) (to + w) (from + w) (left - 1)
    pass_moved e d l m =
        record {
          size = l ∙ h.size;
          order = omega (arith, h.order);
          room = omega (arith, h.room, row_more);
          few = omega (arith, h.few);
          going = pass_turn.moved e d m;
        }

  pub pass_along : {n : ℕ} {c d : List ℕ} {j k t u from left : ℕ} → d ≡ c → k ≡ j → u ≡ t → Pass n c j t from left → Pass n d k u from left
  pass_along e f g h = rw (e, f, g) h

  -- the loop has ended: clearing the gap leaves the elements kept
  module _ (n : ℕ) (c : List ℕ) (kept to from left : ℕ) (ez : zs ≡ zeros (n * w - length es * w)) (room : length es ≤ n) (h : Pass n c kept to from left) (end : left ≤ 0) where
    pub pass_done : Compacted n c kept to from
    pass_done = compact_done n ez (mul-le-mul_right w room) c kept to from left h.going end

    pub pass_left : (z : List ℕ) → z ≡ zeros (length (take (from - to) (drop to c))) → put_mid to (from - to) c z ≡ area f w n (keep p es)
    pass_left z e =
        let l : length (take (from - to) (drop to c)) ≡ from - to = length-take-le (from - to) (drop to c) (omega (arith, length-drop to c, pass_done.within)) in
        pass_done.cleared z (e ∙ ap zeros l)

    pub pass_size : (z : List ℕ) → z ≡ zeros (length (take (from - to) (drop to c))) → length (put_mid to (from - to) c z) ≡ n * w
    pass_size z e = ap length (pass_left z e) ∙ length-area f w wide n (keep p es)
