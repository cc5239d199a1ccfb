-- A loop that makes n turns and is then left. Assumes nothing.
use mathlib.Core.Path.{◌≡◌, sym, ◌∙◌, subst}
use Prim.Native.Nat.{ℕ, zero, suc, ◌+◌, ◌<◌}
use native.Mathlib.Nat.{add-zero, lt-suc_self}
use native.Mathlib.Omega.{arith}
use lib.WfN.{lt-wf_rel}
use seplogic.Ra.Ura.{Ura}
use mir.Syntax.{Body, loop}
use base.Logic.{SProp, ent, ex, guard, via, ex_i, ex_e, guard_i, guard_e}
use prog.Wp.{Out, Env, after_turn, Wp, Tables}
use types.Logic.{Logic}
use sound.Loop.{loop_rule}

-- what holds after i turns, that each of the n turns leads from one to the next, and that the loop is left after them
module _ {M : Type 1} {𝓤 : Ura M} (𝓛 : Logic 𝓤) (𝓣 : Tables 𝓤 𝓛.H) (En : Env 𝓤 𝓛.H) (turn : Body) (Left : Out → SProp 𝓤) (n : ℕ) (At : ℕ → SProp 𝓤)
    (more : (i : ℕ) (X : SProp 𝓤) → i < n → ent 𝓤 (At (suc i)) X → ent 𝓤 (At i) (Wp 𝓤 𝓛.H 𝓣.C 𝓣.Λ En turn (after_turn 𝓤 𝓛.H X Left)))
    (ends : (X : SProp 𝓤) → ent 𝓤 (At n) (Wp 𝓤 𝓛.H 𝓣.C 𝓣.Λ En turn (after_turn 𝓤 𝓛.H X Left))) where
  -- the invariant, where t turns are left
  open 𝓛 use {H}

  abbrev Inv : ℕ → SProp 𝓤
  Inv t = ex 𝓤 (λ (i : ℕ). guard 𝓤 (i + t ≡ n) (At i))

  abbrev Below : ℕ → SProp 𝓤
  Below t = ex 𝓤 (λ (t' : ℕ). guard 𝓤 (t' < t) (Inv t'))

  inv_in : (t i : ℕ) → i + t ≡ n → ent 𝓤 (At i) (Inv t)
  inv_in t i e = via 𝓤 (guard 𝓤 (i + t ≡ n) (At i)) (guard_i 𝓤 (i + t ≡ n) (At i) e) (ex_i 𝓤 (λ (j : ℕ). guard 𝓤 (j + t ≡ n) (At j)) i)

  -- a turn from the invariant at t leaves the loop, or ends in the invariant below t
  turn_at : (t i : ℕ) → i + t ≡ n → ent 𝓤 (At i) (Wp 𝓤 H 𝓣.C 𝓣.Λ En turn (after_turn 𝓤 H (Below t) Left))
  turn_at zero i e = subst (λ (k : ℕ). ent 𝓤 (At k) (Wp 𝓤 H 𝓣.C 𝓣.Λ En turn (after_turn 𝓤 H (Below 0) Left))) (sym e ∙ add-zero i) (ends (Below 0))
  turn_at (suc t) i e =
      more i (Below (suc t)) (omega arith)
      (via 𝓤 (Inv t) (inv_in t (suc i) (omega arith))
      (via 𝓤 (guard 𝓤 (t < suc t) (Inv t)) (guard_i 𝓤 (t < suc t) (Inv t) (lt-suc_self t)) (ex_i 𝓤 (λ (u : ℕ). guard 𝓤 (u < suc t) (Inv u)) t)))

  turns : (t : ℕ) → ent 𝓤 (Inv t) (Wp 𝓤 H 𝓣.C 𝓣.Λ En turn (after_turn 𝓤 H (Below t) Left))
  turns t = ex_e 𝓤 (λ (i : ℕ). guard 𝓤 (i + t ≡ n) (At i)) (λ i. guard_e 𝓤 (i + t ≡ n) (At i) (λ e. turn_at t i e))

  pub loops : ent 𝓤 (At 0) (Wp 𝓤 H 𝓣.C 𝓣.Λ En (loop turn) Left)
  loops = via 𝓤 (Inv n) (inv_in n 0 (omega arith)) (loop_rule 𝓤 H 𝓛.laws 𝓣 ◌<◌ lt-wf_rel.wf En turn Left Inv turns n)
