-- `packet_check::hna_fault` meets its contract. Assumes nothing.
use mathlib.Core.Path.{◌≡◌, ◌∙◌}
use mathlib.Core.Option.{none}
use borrow.Author.Rules.{rules}
use Rattle.wire.specs.Check.{bad_mask, host_bits_set, first_breaking}
use Rattle.wire.proofs.Order.{ragged, mask-found, host_bits_found, none_found}
use Rattle.wire.proofs.Refused.{place_at, no_place}
use Rattle.packet_check.proofs.hna_fault.Goals as goal
use Rattle.packet_check.proofs.hna_fault.Goals.{In_default}

pub returns-then-hna-ne0 : goal.returns-then-hna-ne0
returns-then-hna-ne0 c = ragged _ c.if-hna-ne0.true

pub returns-in-Some : goal.returns-in-Some
returns-in-Some c =
    mask-found _ c.if-hna-ne0.false c.in-Some.k (place_at _ _ (c.first_breaking.ensures bad_mask (λ k b l p. search rules) ∙ c.in-Some.is))

-- no mask is above 32
no_mask : (c : goal.In_default) → first_breaking bad_mask c.args.hna.now ≡ none
no_mask c = no_place _ (c.first_breaking.ensures bad_mask (λ k b l p. search rules) ∙ c.in_default.is)

pub returns-in-Some-first_breaking : goal.returns-in-Some-first_breaking
returns-in-Some-first_breaking c =
    host_bits_found
    _
    c.if-hna-ne0.false
    (no_mask (goal.at.returns-in-Some-first_breaking c).In_default)
    c.in-Some-first_breaking.k
    (place_at _ _ (c.first_breaking-2.ensures host_bits_set (λ k b l p. search rules) ∙ c.in-Some-first_breaking.is))

pub returns : goal.returns
returns c =
    none_found
    _
    c.if-hna-ne0.false
    (no_mask (goal.at.returns c).In_default)
    (no_place _ (c.first_breaking-2.ensures host_bits_set (λ k b l p. search rules) ∙ c.in_default-first_breaking.is))
