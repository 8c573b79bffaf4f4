use Rattle.std.proofs.Common.{ap, ◌∙◌, sym}
use Rattle.std.specs.List.{list_any}
use Rattle.journal.specs.Journal.Replies.{is_held, claims_of_group}
use Rattle.validator_core.proofs.ValidatorCoreLemmas.Groups.{held_some, no_witness_held, no_couple_held}
use Rattle.validator_core.proofs.validator_core.judgement.has_signatures.Goals as goal

pub returns-in-Controller : goal.returns-in-Controller
returns-in-Controller c = held_some c.is_empty.result c.in-Controller.sigs c.is_empty.ensures ∙ sym (ap (λ g. list_any is_held (claims_of_group g)) c.in-Controller.is)

pub returns-in-Witness : goal.returns-in-Witness
returns-in-Witness c = sym (ap (λ g. list_any is_held (claims_of_group g)) c.in-Witness.is ∙ no_witness_held c.in-Witness.field-0)

pub returns-in-Couples : goal.returns-in-Couples
returns-in-Couples c = sym (ap (λ g. list_any is_held (claims_of_group g)) c.in-Couples.is ∙ no_couple_held c.in-Couples.field-0)
