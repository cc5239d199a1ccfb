-- Structs that a caller lends as a slice are filled with those of an array, one after the other: the loop of such a function, for any struct T, walked once.
-- What is gathered is a struct of its own: an array of T, how many of its elements are meant, and further fields; it is copied to memory once, and the elements are read there.
-- The borrow of the slice is opened once, before the loop, and closed once, after it. Assumes nothing.
use mathlib.Core.Path.{◌≡◌, refl, sym, ap, subst, ◌∙◌}
use Prim.Native.Nat.{ℕ, suc, ◌+◌, ◌*◌, ◌≤◌, ◌<◌, ◌^◌}
use native.Mathlib.Nat.{le_of_lt, mul-le-mul_right}
use native.Mathlib.Numerals.{add-one}
use native.Mathlib.Omega.{arith}
use mathlib.Core.Bool.{Bool}
use mathlib.Core.List.{[], ◌∷◌, List, map}
use lib.ListN.{length, get_or, take, get_or-map}
use lib.Dec.{T as Ok, ltb, lit<}
use borrow.Author.Tests.{lt-ltb, le-ltb}
use seplogic.Ra.Ura.{Ura}
use base.Fraction.{full_share}
use mir.Syntax.{Sym, Ty, Tys, tcons, Body, Fn, named, mut, w64, ty_int, ty_bool, ty_ptr, ty_unit, ty_ref, ty_struct, ty_array, place, field, deref, copy, int, opd_unit, rv_opd, op2, addr_of, lt, add, mul, offset, unsigned, seq, assign, cond, skip, exit, block, loop, return, local, value_local, memory_slot}
use mir.Val.{Val, Vals, vunit, vbool, vint, vptr, vstruct, vcons, has_ty, WT, Dom, op2_chk}
use base.Logic.{SProp, ent}
use base.Fml.{Lft, Share, GName, fat, froom, fdies, flft, fobs, fauth, fbor, fobor}
use prog.Memory.{up, align}
use prog.Wp.{Out, Env, after_seq, after_block, after_turn, Wp, at_return, WpFn, Tables}
use types.Logic.{Logic}
use types.Kit.{Item, ‵, ⋆, any_q, at_ret, ◌$◌, ◌∵◌, !, qed, by, move, keep, drop, rewrite}
use types.Run.{look, addr, init, store, store_raw, forget, stop, hop, fld, from, load, lit, unit_lit, of_opd, bin, assigns, assigns_last, stays, leaves_loop, returns, enter, alloc1, alloc0, params1, pass1, pass0, free1, free0, exec}
use types.Part.{whole, sub, look_in}
use denote.RattleType.{RattleType}
use denote.Memory.{mem}
use denote.Laws.{Is, Makes, shows}
use denote.Array.{Array, array_val}
use denote.Slice.{slice_ty, slice_val, Room, heres, coded_holeys}
use denote.Lend.{Held}
use denote.Index.{row, place_is, elem_out, elem_put, opens_slice, closes_slice}
use denote.Steps.{owned, only}
use denote.Struct.Struct.{Struct, layout}
use denote.Struct.Declared as D
use denote.Struct.Declared.{Declared}
use denote.Struct.Laws as LL
use Rattle.lists.specs.Lists.{written_to}
use Rattle.lists.proofs.Written.{length-written, written-more}
use Rattle.walks.proofs.Turns as turns
use Rattle.walks.proofs.Elements.{each_at, each_many, sized, element as at-element}

-- ---- the code: T's row and what the slice's type names; the struct that is gathered has the name ν, an array of k elements first, and the fields τs behind the number

module _ (T : Declared) (ρ : Ty) (ν : Sym) (k : ℕ) (τs : Tys) where
  abbrev R : RattleType
  R = D.row T

  abbrev element : Ty
  element = layout (D.shape T)

  abbrev size : ℕ
  size = (mem R).size

  abbrev slice : Ty
  slice = slice_ty (ty_ref (named 0) mut ρ)

  abbrev gathered : Ty
  gathered = ty_struct ν (tcons (ty_array element k) (tcons (ty_int w64) τs))

  abbrev turn : Body
  turn =
      seq (assign (place 5 []) (rv_opd (copy (place 3 (field 1 ∷ [])))))
      (seq (assign (place 6 []) (op2 (lt unsigned) (copy (place 4 [])) (copy (place 5 []))))
      (seq (cond (copy (place 6 [])) skip (exit 1))
      (seq (assign (place 5 []) (op2 (mul unsigned) (copy (place 4 [])) (int w64 size)))
      (seq (assign (place 7 []) (addr_of (place 3 (field 0 ∷ []))))
      (seq (assign (place 8 []) (op2 offset (copy (place 7 [])) (copy (place 5 []))))
      (seq (assign (place 9 []) (rv_opd (copy (place 8 (deref element ∷ [])))))
      (seq (assign (place 10 []) (op2 (mul unsigned) (copy (place 4 [])) (int w64 size)))
      (seq (assign (place 11 []) (op2 offset (copy (place 1 (field 0 ∷ []))) (copy (place 10 []))))
      (seq (assign (place 11 (deref element ∷ [])) (rv_opd (copy (place 9 []))))
      (assign (place 4 []) (op2 (add unsigned) (copy (place 4 [])) (int w64 1))))))))))))

  abbrev rest : Body
  rest = seq (assign (place 0 []) (rv_opd opd_unit)) return

  abbrev pub function : Fn
  function =
      record {
        lifetimes = 1;
        ty_params = [];
        givens = 0;
        outlives = [];
        params = 2;
        locals =
            local ty_unit value_local ∷ local slice value_local ∷ local gathered value_local ∷ local gathered memory_slot ∷ local (ty_int w64) value_local ∷ local (ty_int w64) value_local ∷ local ty_bool value_local
            ∷ local ty_ptr value_local ∷ local ty_ptr value_local ∷ local element value_local ∷ local (ty_int w64) value_local ∷ local ty_ptr value_local ∷ [];
        body = seq (assign (place 3 []) (rv_opd (copy (place 2 [])))) (seq (assign (place 4 []) (rv_opd (int w64 0))) (seq (block (loop turn)) rest));
      }

-- a row's place in octets fits, since the slice's does
fits-at : (k i n : ℕ) → i < n → n * k < 2 ^ 63 → i * k < 2 ^ 64
fits-at k i n l g = omega (arith, mul-le-mul_right k (le_of_lt l))

-- ---- the walk: the borrow and its elements ys; the gathered elements xs, whose machine values are us, and of which n are meant

module _ {M : Type 1} {𝓤 : Ura M} (𝓛 : Logic 𝓤) (𝓣 : Tables 𝓤 𝓛.H) (T : Declared) (L : LL.Laws T) (makes : Makes 𝓛 (D.row T) (Is (D.row T))) (ρ : Ty) (ν : Sym) (k : ℕ) (τs : Tys)
    (κ : Lft) (q : Share) (b o : ℕ) (γ : GName) (ys xs : List T.D) (d : T.D) (n : ℕ) (us : List Val) (vs : Vals) where
  -- the rows after i turns
  open 𝓛 use {H}

  abbrev pub filled : ℕ → List T.D
  filled i = written_to (take i xs) ys

  abbrev pub mach : Val
  mach = vstruct (vcons (array_val us) (vcons (vint w64 n) vs))

  abbrev E : RattleType
  E = D.row T

  abbrev pub obs : List T.D → Item 𝓤
  obs l = ‵ (fobs γ ((coded_holeys E).code (heres E l)))

  abbrev pub lent : List T.D → Item 𝓤
  lent l = ‵ (fbor κ (Held E (length l) b o γ))

  abbrev s : ℕ
  s = (mem E).size

  abbrev element' : Ty
  element' = element T ρ ν k τs

  abbrev slice' : Ty
  slice' = slice T ρ ν k τs

  abbrev gathered' : Ty
  gathered' = gathered T ρ ν k τs

  abbrev body : Body
  body = turn T ρ ν k τs

  -- where the array begins in the gathered struct
  abbrev start : ℕ
  start = 0 + up (align (ty_array element' k)) 0

  module _ (Post : Val → SProp 𝓤) (small : Ok (ltb s (2 ^ 64))) (room : Room E (length ys)) (size_is : length us ≡ k) (few : n ≤ length xs) (many : n ≤ k) (within : n ≤ length ys)
      (is_at : (i : ℕ) → i < n → Is E (get_or xs i d) (get_or us i vunit ∷ []))
      (exits : ent 𝓤 (⋆ 𝓛 (obs (filled n) ∷ lent (filled n) ∷ ‵ (flft κ q) ∷ [])) (Post vunit)) where
    long : (i : ℕ) → i ≤ n → length (filled i) ≡ length ys
    long i h = length-written xs ys i (omega arith) (omega arith)

    module _ (l₀ l₁ l₂ l₃ l₄ l₅ l₆ l₇ l₈ l₉ l₁₀ l₁₁ : ℕ) where
      abbrev En : Env 𝓤 H
      En = (ty_unit, l₀) ∷ (slice', l₁) ∷ (gathered', l₂) ∷ (gathered', l₃) ∷ (ty_int w64, l₄) ∷ (ty_int w64, l₅) ∷ (ty_bool, l₆) ∷ (ty_ptr, l₇) ∷ (ty_ptr, l₈) ∷ (element', l₉) ∷ (ty_int w64, l₁₀) ∷ (ty_ptr, l₁₁) ∷ []

      -- after i turns: the rows, and the locals that a turn writes; then what no turn touches
      abbrev At : ℕ → List (Item 𝓤)
      At i = ‵ (row E full_share (filled i) b o) ∷ ‵ (fat full_share (ty_int w64) l₄ 0 (vint w64 i)) ∷ ‵ (froom (ty_int w64) l₅ 0) ∷ ‵ (froom ty_bool l₆ 0) ∷ ‵ (froom ty_ptr l₇ 0) ∷ ‵ (froom ty_ptr l₈ 0) ∷ ‵ (froom element' l₉ 0)
          ∷ ‵ (froom (ty_int w64) l₁₀ 0) ∷ ‵ (froom ty_ptr l₁₁ 0) ∷ ‵ (fat full_share slice' l₁ 0 (slice_val (b, o) (length ys))) ∷ ‵ (fat full_share gathered' l₃ 0 mach) ∷ ‵ (fat full_share gathered' l₂ 0 mach) ∷ ‵ (froom ty_unit l₀ 0)
          ∷ ‵ (fobor κ q (Held E (length ys) b o γ)) ∷ obs ys ∷ ‵ (fauth γ ((coded_holeys E).code (heres E ys)))
          ∷ ‵ (fdies ty_unit l₀) ∷ ‵ (fdies slice' l₁) ∷ ‵ (fdies gathered' l₂) ∷ ‵ (fdies gathered' l₃) ∷ ‵ (fdies (ty_int w64) l₄) ∷ ‵ (fdies (ty_int w64) l₅) ∷ ‵ (fdies ty_bool l₆) ∷ ‵ (fdies ty_ptr l₇)
          ∷ ‵ (fdies ty_ptr l₈) ∷ ‵ (fdies element' l₉) ∷ ‵ (fdies (ty_int w64) l₁₀) ∷ ‵ (fdies ty_ptr l₁₁) ∷ []

      -- when the loop is left, the rest of the body runs
      abbrev Left : Out → SProp 𝓤
      Left = after_block 𝓤 H (after_seq 𝓤 H (Wp 𝓤 H 𝓣.C 𝓣.Λ En (rest T ρ ν k τs) (at_return 𝓤 H En Post)) (at_return 𝓤 H En Post))

      -- a turn that writes one row
      more : (i : ℕ) (X : SProp 𝓤) → i < n → ent 𝓤 (⋆ 𝓛 (At (suc i))) X → ent 𝓤 (⋆ 𝓛 (At i)) (Wp 𝓤 H 𝓣.C 𝓣.Λ En body (after_turn 𝓤 H X Left))
      unfolding after_turn
      more i X less next =
          let il : i < length (filled i) = omega (arith, long i (omega arith)) in
          let gn : n < 2 ^ 64 = omega (arith, room.0) in
          let gi : i + 1 < 2 ^ 64 = omega arith in
          let gp : i * s < 2 ^ 64 = fits-at s i (length ys) (omega arith) room.1 in
          let scaled : Dom (op2_chk (mul unsigned) (vint w64 i) (vint w64 s)) = record { fits = gp } in
          let stored : Ok (has_ty (ty_int w64) (vint w64 (i * s))) × WT (vint w64 (i * s)) = (tt, record { fits = gp }) in
          let added : Dom (op2_chk (add unsigned) (vint w64 i) (vint w64 1)) = record { fits = gi } in
          let counted : Ok (has_ty (ty_int w64) (vint w64 (i + 1))) × WT (vint w64 (i + 1)) = (tt, record { fits = gi }) in
          let typed = ((LL.lawful T L 𝓛).typed (get_or xs i d) _ (is_at i less)).0 in
          qed 𝓛 (At i) ∵ exec ! 𝓣.C 𝓣.Λ En body (any_q (after_turn 𝓤 H X Left)) $
          assigns ! (of_opd ! (load ! (from ! (fld ! refl (stop !))) (look_in ! 10 (sub ! 1 refl (whole !))))) (from ! (stop !)) (init ! 2 refl (tt, record { fits = gn })) $
          assigns ! (bin ! (load ! (from ! (stop !)) (look ! 1 refl)) (load ! (from ! (stop !)) (look ! 2 refl)) tt) (from ! (stop !)) (init ! 3 refl (tt, tt)) $
          rewrite ! 3 (λ (t : Bool). ‵ (fat full_share ty_bool l₆ 0 (vbool t))) (lt-ltb i n less) refl $
          stays ! (load ! (from ! (stop !)) (look ! 3 refl)) $
          -- the i-th element is read
          assigns ! (bin ! (load ! (from ! (stop !)) (look ! 1 refl)) (lit ! small) scaled) (from ! (stop !)) (store ! 2 refl stored) $
          assigns ! (addr ! (from ! (fld ! refl (stop !)))) (from ! (stop !)) (init ! 4 refl (tt, tt)) $
          assigns ! (bin ! (load ! (from ! (stop !)) (look ! 4 refl)) (load ! (from ! (stop !)) (look ! 2 refl)) tt) (from ! (stop !)) (init ! 5 refl (tt, tt)) $
          rewrite ! 5 (λ (p : ℕ). ‵ (fat full_share ty_ptr l₈ 0 (vptr l₃ p))) (sym (place_is s start i)) refl $
          assigns ! (of_opd ! (load ! (from ! (hop ! (look ! 5 refl) (stop !))) (look_in ! 10 (at-element ! us i (omega (arith, size_is)) size_is (sub ! 0 refl (whole !)))))) (from ! (stop !)) (init ! 6 refl typed) $
          -- and written
          assigns ! (bin ! (load ! (from ! (stop !)) (look ! 1 refl)) (lit ! small) scaled) (from ! (stop !)) (init ! 7 refl stored) $
          assigns ! (bin ! (load ! (from ! (fld ! refl (stop !))) (look_in ! 9 (sub ! 0 refl (whole !)))) (load ! (from ! (stop !)) (look ! 7 refl)) tt) (from ! (stop !)) (init ! 8 refl (tt, tt)) $
          rewrite ! 8 (λ (p : ℕ). ‵ (fat full_share ty_ptr l₁₁ 0 (vptr b p))) (sym (place_is s o i)) refl $
          elem_out ! E (Is E) (shows 𝓛 E) (LL.vals T L) (LL.tells T L) full_share (filled i) i d b o il (λ _.
          -- [rows[i]; what it owns; the others; _4 at 3; …; _9 at 8; …; _11 at 10; …]
          assigns ! (of_opd ! (load ! (from ! (stop !)) (look ! 8 refl))) (from ! (hop ! (look ! 10 refl) (stop !))) (store_raw ! 0 refl typed) $
          move ! (1 ∷ []) $ drop ! $ owned ! E (Is E) makes (get_or xs i d) (get_or us i vunit ∷ []) (is_at i less) $ move ! (1 ∷ 0 ∷ 2 ∷ []) $ elem_put ! E full_share (filled i) i (get_or xs i d) (get_or us i vunit ∷ []) b o il $
          assigns_last ! (bin ! (load ! (from ! (stop !)) (look ! 1 refl)) (lit ! tt) added) (from ! (stop !)) (store ! 1 refl counted) $
          forget ! 2 refl $ forget ! 3 refl $ forget ! 4 refl $ forget ! 5 refl $ forget ! 6 refl $ forget ! 7 refl $ forget ! 8 refl $
          rewrite ! 1 (λ (j : ℕ). ‵ (fat full_share (ty_int w64) l₄ 0 (vint w64 j))) (add-one i) refl $
          rewrite ! 0 (λ (l : List T.D). ‵ (row E full_share l b o)) (written-more xs ys i d (omega arith) (omega arith)) refl $ by ! next)

      -- the turn that leaves the loop, and the rest of the body: the borrow is closed at what is filled
      ends : (X : SProp 𝓤) → ent 𝓤 (⋆ 𝓛 (At n)) (Wp 𝓤 H 𝓣.C 𝓣.Λ En body (after_turn 𝓤 H X Left))
      unfolding after_turn
      ends X =
          let gn : n < 2 ^ 64 = omega (arith, room.0) in
          qed 𝓛 (At n) ∵ exec ! 𝓣.C 𝓣.Λ En body (any_q (after_turn 𝓤 H X Left)) $
          assigns ! (of_opd ! (load ! (from ! (fld ! refl (stop !))) (look_in ! 10 (sub ! 1 refl (whole !))))) (from ! (stop !)) (init ! 2 refl (tt, record { fits = gn })) $
          assigns ! (bin ! (load ! (from ! (stop !)) (look ! 1 refl)) (load ! (from ! (stop !)) (look ! 2 refl)) tt) (from ! (stop !)) (init ! 3 refl (tt, tt)) $
          rewrite ! 3 (λ (t : Bool). ‵ (fat full_share ty_bool l₆ 0 (vbool t))) (le-ltb n n (omega arith)) refl $
          leaves_loop ! (load ! (from ! (stop !)) (look ! 3 refl)) $ exec ! 𝓣.C 𝓣.Λ En (rest T ρ ν k τs) (at_ret En Post) $
          assigns ! (of_opd ! (unit_lit !)) (from ! (stop !)) (init ! 12 refl (tt, tt)) $
          move ! (0 ∷ 13 ∷ 14 ∷ 15 ∷ []) $ closes_slice ! tt E ys (filled n) (long n (omega arith)) b o $
          -- [obs; the borrow; the token; _4 at 3; …; _11; _1; _3; _2; _0 at 14; and that each local dies, from _0 on]
          returns ! (look ! 14 refl) $ forget ! 3 refl $ forget ! 4 refl $ forget ! 5 refl $ forget ! 11 refl $ forget ! 12 refl $ forget ! 13 refl $ forget ! 14 refl $
          move ! (14 ∷ 15 ∷ []) $ free1 ! $ move ! (11 ∷ 14 ∷ []) $ free1 ! $ move ! (12 ∷ 13 ∷ []) $ free1 ! $ move ! (11 ∷ 12 ∷ []) $ free1 ! $
          move ! (3 ∷ 11 ∷ []) $ free1 ! $ move ! (3 ∷ 10 ∷ []) $ free1 ! $ move ! (3 ∷ 9 ∷ []) $ free1 ! $ move ! (3 ∷ 8 ∷ []) $ free1 ! $
          move ! (3 ∷ 7 ∷ []) $ free1 ! $ move ! (3 ∷ 6 ∷ []) $ free1 ! $ move ! (3 ∷ 5 ∷ []) $ free1 ! $ move ! (3 ∷ 4 ∷ []) $ free1 ! $ free0 ! $
          keep ! (0 ∷ 1 ∷ 2 ∷ []) $ by ! exits

      loops : ent 𝓤 (⋆ 𝓛 (At 0)) (Wp 𝓤 H 𝓣.C 𝓣.Λ En (loop body) Left)
      loops = turns.loops 𝓛 𝓣 En body Left n (λ i. ⋆ 𝓛 (At i)) more ends

    -- the whole function, given the borrow; the gathered struct's value is of its type
    walk : Ok (has_ty gathered' mach) × WT mach
        → ent 𝓤 (⋆ 𝓛 (obs ys ∷ lent ys ∷ ‵ (flft κ q) ∷ [])) (WpFn 𝓤 H 𝓣.C 𝓣.Λ (function T ρ ν k τs) (slice_val (b, o) (length ys) ∷ mach ∷ []) Post)
    unfolding written_to
    walk typed =
        qed 𝓛 (obs ys ∷ lent ys ∷ ‵ (flft κ q) ∷ []) ∵ enter ! 𝓣.C 𝓣.Λ (function T ρ ν k τs) (slice_val (b, o) (length ys) ∷ mach ∷ []) _ $
        alloc1 ! (λ l₀. alloc1 ! (λ l₁. alloc1 ! (λ l₂. alloc1 ! (λ l₃. alloc1 ! (λ l₄. alloc1 ! (λ l₅. alloc1 ! (λ l₆. alloc1 ! (λ l₇. alloc1 ! (λ l₈. alloc1 ! (λ l₉. alloc1 ! (λ l₁₀. alloc1 ! (λ l₁₁. alloc0 ! $ params1 ! $
        pass1 ! (init ! 20 refl (tt, (tt, (record { fits = room.0 }, tt)))) $ pass1 ! (init ! 18 refl typed) $ pass0 ! $
        assigns ! (of_opd ! (load ! (from ! (stop !)) (look ! 18 refl))) (from ! (stop !)) (init ! 16 refl typed) $
        assigns ! (of_opd ! (lit ! tt)) (from ! (stop !)) (init ! 14 refl (tt, record { fits = lit< tt })) $
        -- [_11; …; _10; …; _1 at 20; …; room for _0 at 22; …; obs; the borrow; the token]
        move ! (24 ∷ 25 ∷ 26 ∷ []) $ opens_slice ! tt E ys b o $
        -- [the rows; the open borrow; obs; auth; _11 at 4; …; _0 at 26; …]
        keep ! (0 ∷ 18 ∷ 16 ∷ 14 ∷ 12 ∷ 10 ∷ 8 ∷ 6 ∷ 4 ∷ 24 ∷ 20 ∷ 22 ∷ 26 ∷ 1 ∷ 2 ∷ 3 ∷ 27 ∷ 25 ∷ 23 ∷ 21 ∷ 19 ∷ 17 ∷ 15 ∷ 13 ∷ 11 ∷ 9 ∷ 7 ∷ 5 ∷ []) $ by ! (loops l₀ l₁ l₂ l₃ l₄ l₅ l₆ l₇ l₈ l₉ l₁₀ l₁₁)))))))))))))

-- the function walked, where a is the gathered array's machine value
module _ {M : Type 1} {𝓤 : Ura M} (𝓛 : Logic 𝓤) (𝓣 : Tables 𝓤 𝓛.H) (T : Declared) (L : LL.Laws T) (makes : Makes 𝓛 (D.row T) (Is (D.row T))) (ρ : Ty) (ν : Sym) (k : ℕ) (τs : Tys)
    (κ : Lft) (q : Share) (b o : ℕ) (γ : GName) (ys xs : List T.D) (d : T.D) (n : ℕ) (a : Val) (vs : Vals) (are : Is (Array (Struct (D.shape T)) k) (map T.to xs) (a ∷ [])) where
  open 𝓛 use {H}

  abbrev pub gives : List T.D → SProp 𝓤
  gives l = ⋆ 𝓛 (‵ (fobs γ ((coded_holeys (D.row T)).code (heres (D.row T) l))) ∷ ‵ (fbor κ (Held (D.row T) (length l) b o γ)) ∷ ‵ (flft κ q) ∷ [])

  pub fills : (Post : Val → SProp 𝓤) → Ok (ltb (mem (D.row T)).size (2 ^ 64)) → Room (D.row T) (length ys) → n ≤ k → n ≤ length ys → ent 𝓤 (gives (written_to (take n xs) ys)) (Post vunit)
      → Ok (has_ty (gathered T ρ ν k τs) (vstruct (vcons a (vcons (vint w64 n) vs)))) × WT (vstruct (vcons a (vcons (vint w64 n) vs)))
      → ent 𝓤 (gives ys) (WpFn 𝓤 H 𝓣.C 𝓣.Λ (function T ρ ν k τs) (slice_val (b, o) (length ys) ∷ vstruct (vcons a (vcons (vint w64 n) vs)) ∷ []) Post)
  fills Post small room few within exits =
      subst
      (λ (z : Val). Ok (has_ty (gathered T ρ ν k τs) (vstruct (vcons z (vcons (vint w64 n) vs)))) × WT (vstruct (vcons z (vcons (vint w64 n) vs)))
      → ent 𝓤 (gives ys) (WpFn 𝓤 H 𝓣.C 𝓣.Λ (function T ρ ν k τs) (slice_val (b, o) (length ys) ∷ vstruct (vcons z (vcons (vint w64 n) vs)) ∷ []) Post)) (sym (ap only are.1.0.0))
      (walk 𝓛 𝓣 T L makes ρ ν k τs κ q b o γ ys xs d n are.0 vs Post small room (each_many (Struct (D.shape T)) (map T.to xs) are.0 are.1.1 ∙ are.1.0.1) (omega (arith, sized (Struct (D.shape T)) T.to k xs _ are)) few within value exits)
    where
      value : (i : ℕ) → i < n → Is (D.row T) (get_or xs i d) (get_or are.0 i vunit ∷ [])
      value i l =
          subst (λ (x : (Struct (D.shape T)).Denot). Is (Struct (D.shape T)) x (get_or are.0 i vunit ∷ [])) (get_or-map T.to xs i d)
          (each_at (Struct (D.shape T)) (map T.to xs) are.0 are.1.1 i (T.to d) (omega (arith, are.1.0.1)))
