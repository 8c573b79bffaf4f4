use Rattle.std.proofs.Common.{Some}
use Rattle.controller_core.specs.ControllerCore.Signings.{signings_of}
use Rattle.controller_core.specs.ControllerCore.Plans.{sealed_rotation}
use Rattle.keri_roles.specs.PlanAnswer.Answers.{signer_asked}
use Rattle.keri_roles.proofs.PlanAnswerLemmas.Made.{all_answers, all_counted, all_kept, counts, few}
use Rattle.keri_roles.proofs.plan_answer.answer.answer_rotation.Goals as goal

pub answer_made-requires : goal.answer_made-requires
answer_made-requires g c = all_counted (g.S.Signer.gives c.args.signer.now) (Some c.args.state.now) (sealed_rotation c.args.state.now c.args.plan.now) c.args.plan.now.signers c.rotate-made.result c.rotate-made.ensures.answer.made

pub returns-clause-answers : goal.returns-clause-answers
returns-clause-answers g c = all_answers (signer_asked (g.S.Signer.gives c.args.signer.now) (g.S.Signer.signings c.args.signer.now) (g.S.Signer.signings c.rotate-made.new.signer)) (record { state = (Some c.args.state.now); event = sealed_rotation c.args.state.now c.args.plan.now }) c.args.plan.now.signers c.rotate-made.result c.answer_made.result
    c.rotate-made.ensures.answer.made c.rotate-made.ensures.answer.signed c.rotate-made.ensures.answer.asked c.rotate-made.ensures.answer.refused c.rotate-made.ensures.answer.last c.answer_made.ensures.answer

pub returns-clause-count : goal.returns-clause-count
returns-clause-count g c = counts _ _ c.rotate-made.result c.answer_made.result c.rotate-made.ensures.count c.answer_made.ensures.answer

pub returns-clause-kept : goal.returns-clause-kept
returns-clause-kept g c = all_kept _ _ c.rotate-made.result c.answer_made.result c.rotate-made.ensures.count c.answer_made.ensures.none

pub returns-clause-few : goal.returns-clause-few
returns-clause-few g c =
    few (g.S.Signer.signings c.args.signer.now) (g.S.Signer.signings c.rotate-made.new.signer) (signings_of (Some c.args.state.now) (sealed_rotation c.args.state.now c.args.plan.now) c.args.plan.now.signers) c.rotate-made.result c.rotate-made.ensures.answer.asked
