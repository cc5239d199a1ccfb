-- The own addresses in use, of the four that there is room for. Assumes nothing.
use mathlib.Core.Path.{◌≡◌, refl, sym, ap, ◌∙◌}
use mathlib.Core.List.{List, [], ◌∷◌, map}
use mathlib.Core.Bool.{Bool, true, false, ◌&&◌, ◌||◌, not}
use Prim.Native.Nat.{ℕ, zero, suc, ◌*◌, ◌≤◌, ◌<◌}
use native.Mathlib.Omega.{arith}
use lib.Dec.{ltb, eqb}
use lib.ListN.{take, get_or}
use Rattle.lists.specs.Lists.{all}
use Rattle.cells.specs.Area.{key_of, rows_of, column, all_zero}
use Rattle.cells.proofs.Keys.{get_or_column}
use Rattle.cells.proofs.Trips.{rows-fewer, map-take}
use Rattle.rules.specs.declared.Interface.{Interface}
use Rattle.rules.specs.Settings.{differ, own_addresses, interface_most, interface_cells}
use Rattle.table_layout.specs.Layout.{used_at, own_place, interface_part}
use Rattle.table_layout.specs.Interfaces.{InterfaceRow, decode_interface}
use Rattle.table_layout.specs.Cells.{config_in, unused_interfaces}
use Rattle.table_settings.specs.Check.{interface_row_ok, interfaces_ok}
use Rattle.table_layout.proofs.Parts.{interface_cell}

abbrev pub own_in : List ℕ → List ℕ
own_in c = get_or c (own_place 0) 0 ∷ get_or c (own_place 1) 0 ∷ get_or c (own_place 2) 0 ∷ get_or c (own_place 3) 0 ∷ []

own-cells : (c : List ℕ) → column interface_cells interface_most (interface_part c) ≡ own_in c
own-cells c =
    let p = interface_part c in
    let k : (i : ℕ) → i < interface_most → get_or (column interface_cells interface_most p) i 0 ≡ get_or c (own_place i) 0 =
    λ i h. get_or_column interface_cells interface_most p i (omega arith) h ∙ interface_cell c (i * interface_cells) (omega arith) in
    λ j. k 0 (omega arith) j ∷ k 1 (omega arith) j ∷ k 2 (omega arith) j ∷ k 3 (omega arith) j ∷ []

-- those in use
pub own-used : (c : List ℕ) → get_or c used_at 0 ≤ interface_most → own_addresses (config_in c) ≡ take (get_or c used_at 0) (own_in c)
unfolding decode_interface
own-used c h =
    let n = get_or c used_at 0 in
    let p = interface_part c in
    own_keys (rows_of interface_cells n p) ∙ ap (map key_of) (rows-fewer interface_cells n interface_most p h) ∙ map-take key_of n (rows_of interface_cells interface_most p) ∙ ap (take n) (own-cells c)
  where
    own_keys : (l : List (List ℕ)) → map (λ (i : Interface). i.own) (map (λ (r : InterfaceRow). r.0) (map decode_interface l)) ≡ map key_of l
    own_keys [] = refl
    own_keys (x ∷ l) = ap (λ (t : List ℕ). key_of x ∷ t) (own_keys l)

-- ---- they differ

differ_2 : (ab : Bool) → not ab && true ≡ not (ab || false) && true
differ_2 true = refl
differ_2 false = refl

differ_3 : (ab ac bc : Bool) → not ab && (not ac && not bc && true) ≡ not (ab || (ac || false)) && (not (bc || false) && true)
differ_3 true ac bc = refl
differ_3 false true bc = refl
differ_3 false false true = refl
differ_3 false false false = refl

differ_4 : (ab ac bc ad bd cd : Bool) → not ab && (not ac && not bc && (not ad && (not bd && not cd))) ≡ not (ab || (ac || (ad || false))) && (not (bc || (bd || false)) && (not (cd || false) && true))
differ_4 true ac bc ad bd cd = refl
differ_4 false true bc ad bd cd = refl
differ_4 false false true true bd cd = refl
differ_4 false false true false bd cd = refl
differ_4 false false false true bd cd = refl
differ_4 false false false false true cd = refl
differ_4 false false false false false true = refl
differ_4 false false false false false false = refl

pub differ_is : (n : ℕ) → 1 ≤ n → n ≤ interface_most → (a b c d : ℕ)
    → (ltb n 2 || not (eqb a b)) && ((ltb n 3 || not (eqb a c) && not (eqb b c)) && (ltb n 4 || not (eqb a d) && (not (eqb b d) && not (eqb c d)))) ≡ differ (take n (a ∷ b ∷ c ∷ d ∷ []))
differ_is zero l h a b c d = absurd (omega arith)
differ_is (suc zero) l h a b c d = refl
differ_is (suc (suc zero)) l h a b c d = differ_2 (eqb a b)
differ_is (suc (suc (suc zero))) l h a b c d = differ_3 (eqb a b) (eqb a c) (eqb b c)
differ_is (suc (suc (suc (suc zero)))) l h a b c d = differ_4 (eqb a b) (eqb a c) (eqb b c) (eqb a d) (eqb b d) (eqb c d)
differ_is (suc (suc (suc (suc (suc n))))) l h a b c d = absurd (omega arith)

pub interfaces_are : (c : List ℕ) → get_or c used_at 0 ≤ interface_most → (r d : Bool)
    → r ≡ all interface_row_ok (rows_of interface_cells (get_or c used_at 0) (interface_part c)) && all_zero (unused_interfaces c) → d ≡ differ (take (get_or c used_at 0) (own_in c)) → r && d ≡ interfaces_ok c
unfolding interfaces_ok
interfaces_are c h r d er ed = λ i. er i && (ed ∙ ap differ (sym (own-used c h))) i
