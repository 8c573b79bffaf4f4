use Rattle.std.proofs.Common.{not, ap, ◌∙◌, sym}
use Rattle.std.specs.List.{list_all}
use Rattle.journal.specs.Journal.Replies.{is_held, claims_of_group}
use Rattle.validator_core.proofs.ValidatorCoreLemmas.Groups.{all_held, witness_some, couple_some}
use Rattle.validator_core.proofs.validator_core.judgement.has_receipts.Goals as goal

pub returns-in-Witness : goal.returns-in-Witness
returns-in-Witness c = witness_some c.is_empty.result c.in-Witness.sigs c.is_empty.ensures ∙ sym (ap (λ g. not (list_all is_held (claims_of_group g))) c.in-Witness.is)

pub returns-in-Couples : goal.returns-in-Couples
returns-in-Couples c = couple_some c.is_empty-in-Couples.result c.in-Couples.couples c.is_empty-in-Couples.ensures ∙ sym (ap (λ g. not (list_all is_held (claims_of_group g))) c.in-Couples.is)

pub returns-in-Controller : goal.returns-in-Controller
returns-in-Controller c = sym (ap (λ g. not (list_all is_held (claims_of_group g))) c.in-Controller.is ∙ ap not (all_held c.in-Controller.field-0))
