-- What a call's answer says of its refusal, and a place that may be missing. Assumes nothing.
use mathlib.Core.Path.{◌≡◌, refl, sym, ap, ◌∙◌}
use mathlib.Core.Option.{Option, none, some}
use Prim.Native.Nat.{ℕ}
use native.Mathlib.Omega.{arith}
use Rattle.std.specs.Prelude.{Result, Ok, Err, Some, None}
use Rattle.wire.specs.declared.Fault.{Fault}
use Rattle.wire.specs.declared.refusals.Refusal.{Refusal}
use Rattle.wire.specs.Refusals.{fault_by, refusal_of, place_of}

pub place_at : (x : Option ℕ) (k : ℕ) → place_of x ≡ Some k → x ≡ some k
place_at none k p = absurd (let z : ◌≡◌ {A = ℕ} 0 1 = cc in omega arith)
place_at (some j) k p = cc

pub no_place : (x : Option ℕ) → place_of x ≡ None → x ≡ none
no_place none p = refl
no_place (some j) p = absurd (let z : ◌≡◌ {A = ℕ} 0 1 = cc in omega arith)

-- where a call answers `Ok`, nothing is refused
pub when_ok : {A : Type 0} {r : Result A Refusal} {x : Option Fault} {a : A} → refusal_of r ≡ x → r ≡ Ok a → x ≡ none
when_ok e o = sym e ∙ ap refusal_of o

-- where it answers `Err`, that is
pub when_err : {A : Type 0} {r : Result A Refusal} {x : Option Fault} {f : Refusal} → refusal_of r ≡ x → r ≡ Err f → x ≡ some (fault_by f)
when_err e o = sym e ∙ ap refusal_of o
