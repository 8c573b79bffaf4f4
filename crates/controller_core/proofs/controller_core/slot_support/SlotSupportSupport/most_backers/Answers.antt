use Rattle.std.proofs.Common.{false}
use Rattle.journal.proofs.EventRulesLemmas.Filters.{few_passing}
use Rattle.controller_core.specs.ControllerCore.Slots.{slots_have}
use Rattle.controller_core.proofs.controller_core.slot_support.SlotSupportSupport.most_backers.Goals as goal

pub returns : goal.returns
unfolding slots_have
returns c = record { most = few_passing (λ n. false) 0 (λ n h. cc) }
