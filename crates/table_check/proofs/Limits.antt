-- What the records are held to. Assumes nothing.
use mathlib.Core.Path.{◌≡◌, refl, sym, ap, ◌∙◌}
use mathlib.Core.List.{List, [], ◌∷◌}
use mathlib.Core.Bool.{Bool, true, false, cond, ◌||◌}
use Prim.Native.Nat.{ℕ, zero, suc, ◌≤◌}
use native.Mathlib.Omega.{arith}
use lib.Dec.{ltb, eqb}
use lib.ListN.{take, get_or}
use Rattle.lists.specs.Lists.{elem}
use Rattle.rules.specs.Settings.{interface_most}
use Rattle.table_record_check.specs.declared.record_limits.Limits.{Limits}
use Rattle.table_record_check.specs.Limits.{Describes, own_of}
use Rattle.table_layout.specs.Layout.{used_at, window_at, time_at, own_place}
use Rattle.table_layout.specs.Cells.{config_in}
use Rattle.table_settings.proofs.Own.{own-used}
use Rattle.table_layout.proofs.Encoding.{used-length}

-- the first again for each that is not in use: the same addresses
same_1 : (a : Bool) → a || (a || (a || (a || false))) ≡ a || false
same_1 true = refl
same_1 false = refl

same_2 : (a b : Bool) → a || (b || (a || (a || false))) ≡ a || (b || false)
same_2 true b = refl
same_2 false b = refl

same_3 : (a b c : Bool) → a || (b || (c || (a || false))) ≡ a || (b || (c || false))
same_3 true b c = refl
same_3 false b c = refl

pub own-again : (n : ℕ) → 1 ≤ n → n ≤ interface_most → (x y z w a : ℕ) → elem a (x ∷ cond (ltb 1 n) y x ∷ cond (ltb 2 n) z x ∷ cond (ltb 3 n) w x ∷ []) ≡ elem a (take n (x ∷ y ∷ z ∷ w ∷ []))
own-again zero l h x y z w a = absurd (omega arith)
own-again (suc zero) l h x y z w a = same_1 (eqb a x)
own-again (suc (suc zero)) l h x y z w a = same_2 (eqb a x) (eqb a y)
own-again (suc (suc (suc zero))) l h x y z w a = same_3 (eqb a x) (eqb a y) (eqb a z)
own-again (suc (suc (suc (suc zero)))) l h x y z w a = refl
own-again (suc (suc (suc (suc (suc n))))) l h x y z w a = absurd (omega arith)

pub describes : (c : List ℕ) → 1 ≤ get_or c used_at 0 → get_or c used_at 0 ≤ interface_most → (l : Limits) → l.window ≡ get_or c window_at 0 → l.used ≡ get_or c used_at 0 → l.time ≡ get_or c time_at 0
    → own_of l ≡ get_or c (own_place 0) 0 ∷ cond (ltb 1 (get_or c used_at 0)) (get_or c (own_place 1) 0) (get_or c (own_place 0) 0) ∷ cond (ltb 2 (get_or c used_at 0)) (get_or c (own_place 2) 0) (get_or c (own_place 0) 0) ∷ cond (ltb 3 (get_or c used_at 0)) (get_or c (own_place 3) 0) (get_or c (own_place 0) 0) ∷ []
    → Describes (config_in c) (get_or c time_at 0) l
describes c lo hi l ew eu et eo = record {
  window = ew;
  used = eu ∙ sym (used-length c);
  time = et;
  own = λ a. ap (elem a) eo ∙ own-again (get_or c used_at 0) lo hi (get_or c (own_place 0) 0) (get_or c (own_place 1) 0) (get_or c (own_place 2) 0) (get_or c (own_place 3) 0) a ∙ ap (elem a) (sym (own-used c hi));
}
