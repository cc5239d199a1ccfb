-- An array in memory, by its elements: the i-th can be taken out of it, and put back with any value. Beside the kit's rules for a struct's fields (`types.Part`). Assumes `Logic`.
use mathlib.Core.Path.{◌≡◌, refl, sym, ap, ◌∙◌, subst}
use Prim.Native.Nat.{ℕ, zero, suc, ◌+◌, ◌<◌}
use native.Mathlib.Nat.{not-suc-le-zero, le_of_suc-le-suc}
use mathlib.Core.List.{[], ◌∷◌, List, map}
use lib.ListN.{length, get_or, set, length-set, length-map}
use lib.Seq.{set-get_or}
use seplogic.Ra.Ura.{Ura}
use mir.Syntax.{Ty, ty_array}
use mir.Val.{Val, vunit}
use base.Logic.{SProp, ent, sep, wand, all, apply∗, all_e}
use base.Fml.{Share, fat}
use prog.Memory.{size}
use prog.Model.{elems}
use types.Logic.{Logic}
use types.Kit.{Item, ‵, raw, ◌⊛◌, mean, ◌$◌, ◌∵◌, !, qed, move, use1, use2, split, assume, frame, each, done}
use types.Part.{Part}
use denote.Array.{Array, array_val, each as eachOf}
use denote.Index.{place}
use denote.Laws.{Is}
use denote.RattleType.{RattleType}
use denote.Shadow.{shadow}

-- each element's machine value is its own
pub each_at : (R : RattleType) (xs : List R.Denot) (us : List Val) → shadow (eachOf R.Denot R.own_val xs us) → (i : ℕ) (d : R.Denot) → i < length xs → Is R (get_or xs i d) (get_or us i vunit ∷ [])
each_at R [] us s i d l = absurd (not-suc-le-zero l)
each_at R (x ∷ xs) [] s i d l = absurd s
each_at R (x ∷ xs) (u ∷ us) s zero d l = s.0
each_at R (x ∷ xs) (u ∷ us) s (suc i) d l = each_at R xs us s.1 i d (le_of_suc-le-suc l)

-- and there are as many
pub each_many : (R : RattleType) (xs : List R.Denot) (us : List Val) → shadow (eachOf R.Denot R.own_val xs us) → length us ≡ length xs
each_many R [] [] s = refl
each_many R [] (u ∷ us) s = absurd s
each_many R (x ∷ xs) [] s = absurd s
each_many R (x ∷ xs) (u ∷ us) s = ap suc (each_many R xs us s.1)

-- an array has its length
pub long : (R : RattleType) (k : ℕ) (xs : List R.Denot) (vs : List Val) → Is (Array R k) xs vs → length xs ≡ k
long R k xs vs are = are.1.0.1

-- and so has one whose elements are seen as others
pub sized : {X : Type 0} (R : RattleType) (to : X → R.Denot) (k : ℕ) (xs : List X) (vs : List Val) → Is (Array R k) (map to xs) vs → length xs ≡ k
sized R to k xs vs are = sym (length-map xs to) ∙ are.1.0.1

module _ {M : Type 1} {𝓤 : Ura M} (𝓛 : Logic 𝓤) (q : Share) (τ : Ty) (b : ℕ) where
  -- the elements with u at the i-th place, from the i-th alone
  open 𝓛 use {H}

  abbrev Back : List Val → ℕ → ℕ → Val → SProp 𝓤
  Back us i o u = wand 𝓤 (H.at q τ b (place (size τ) o i) u) (elems 𝓤 H q τ b o (set us i u))

  takes : (us : List Val) (i o : ℕ) → i < length us → ent 𝓤 (elems 𝓤 H q τ b o us) (sep 𝓤 (H.at q τ b (place (size τ) o i) (get_or us i vunit)) (all 𝓤 (Back us i o)))
  takes [] i o l = absurd (not-suc-le-zero l)
  takes (u ∷ us) zero o l =
      qed 𝓛 (‵ (fat q τ b o u) ∷ raw (elems 𝓤 H q τ b (o + size τ) us) ∷ []) ∵ frame ! $ each ! (Back (u ∷ us) zero o) (λ w. assume ! (‵ (fat q τ b o w)) $ done !)
  takes (u ∷ us) (suc i) o l =
      qed 𝓛 (‵ (fat q τ b o u) ∷ raw (elems 𝓤 H q τ b (o + size τ) us) ∷ []) ∵ move ! (1 ∷ []) $
      use1 𝓛 (‵ (fat q τ b (place (size τ) (o + size τ) i) (get_or us i vunit)) ⊛ raw (all 𝓤 (Back us i (o + size τ)))) (takes us i (o + size τ) (le_of_suc-le-suc l)) $ split ! $ frame ! $
      each ! (Back (u ∷ us) (suc i) o) (λ w. assume ! (‵ (fat q τ b (place (size τ) (o + size τ) i) w)) $
      -- [the element with w; the way back to the others; the first]
      move ! (1 ∷ []) $ use1 𝓛 (raw (Back us i (o + size τ) w)) (all_e 𝓤 (Back us i (o + size τ)) w) $ move ! (1 ∷ 0 ∷ []) $
      use2 𝓛 (raw (elems 𝓤 H q τ b (o + size τ) (set us i w))) (apply∗ 𝓤 (H.at q τ b (place (size τ) (o + size τ) i) w) (elems 𝓤 H q τ b (o + size τ) (set us i w))) $ move ! (1 ∷ 0 ∷ []) $ done !)

module _ {M : Type 1} {𝓤 : Ura M} {𝓛 : Logic 𝓤} {K : Type 0} where
  -- element i of an array's cell that p finds
  open 𝓛 use {H}

  pub element : K → {x : Item 𝓤} {q : Share} {τ : Ty} {n b o : ℕ} {back : Val → Item 𝓤} (us : List Val) (i : ℕ) → i < length us → length us ≡ n
      → Part K 𝓛 x q (ty_array τ n) b o (array_val us) back → Part K 𝓛 x q τ b (place (size τ) o i) (get_or us i vunit) (λ u. back (array_val (set us i u)))
  element t {x} {q} {τ} {n} {b} {o} {back} us i l e p = record {
    out = qed 𝓛 (x ∷ []) ∵ use1 𝓛 (‵ (fat q (ty_array τ n) b o (array_val us)) ⊛ raw (all 𝓤 Entry)) p.out $ split ! $
        use1 𝓛 (raw (elems 𝓤 H q τ b o us)) (𝓛.laws.at_elems q τ n b o us) $
        use1 𝓛 (‵ (fat q τ b (place (size τ) o i) (get_or us i vunit)) ⊛ raw (all 𝓤 (Back 𝓛 q τ b us i o))) (takes 𝓛 q τ b us i o l) $ split ! $ frame ! $
        each ! (λ (u : Val). wand 𝓤 (H.at q τ b (place (size τ) o i) u) (mean 𝓛 (back (array_val (set us i u))))) (λ u. assume {P = mean 𝓛 (back (array_val (set us i u)))} ! (‵ (fat q τ b (place (size τ) o i) u)) $
        -- [the element with u; the way back to the elements; the way back to the entry]
        move ! (1 ∷ []) $ use1 𝓛 (raw (Back 𝓛 q τ b us i o u)) (all_e 𝓤 (Back 𝓛 q τ b us i o) u) $ move ! (1 ∷ 0 ∷ []) $
        use2 𝓛 (raw (elems 𝓤 H q τ b o (set us i u))) (apply∗ 𝓤 (H.at q τ b (place (size τ) o i) u) (elems 𝓤 H q τ b o (set us i u))) $
        use1 𝓛 (‵ (fat q (ty_array τ n) b o (array_val (set us i u))))
        (subst (λ (k : ℕ). ent 𝓤 (elems 𝓤 H q τ b o (set us i u)) (H.at q (ty_array τ k) b o (array_val (set us i u)))) (length-set us i u ∙ e) (𝓛.laws.elems_at q τ b o (set us i u))) $
        move ! (1 ∷ []) $ use1 𝓛 (raw (Entry (array_val (set us i u)))) (all_e 𝓤 Entry (array_val (set us i u))) $ move ! (1 ∷ 0 ∷ []) $
        use2 𝓛 (back (array_val (set us i u))) (apply∗ 𝓤 (H.at q (ty_array τ n) b o (array_val (set us i u))) (mean 𝓛 (back (array_val (set us i u))))) $ done !);
    same = ap (λ (zs : List Val). back (array_val zs)) (set-get_or us i vunit) ∙ p.same;
  }
    where
      Entry : Val → SProp 𝓤
      Entry w = wand 𝓤 (H.at q (ty_array τ n) b o w) (mean 𝓛 (back w))
