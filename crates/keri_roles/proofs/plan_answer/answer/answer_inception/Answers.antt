use Rattle.std.proofs.Common.{None}
use Rattle.controller_core.specs.ControllerCore.Signings.{signings_of}
use Rattle.controller_core.specs.ControllerCore.Plans.{sealed_inception}
use Rattle.keri_roles.specs.PlanAnswer.Answers.{signer_asked}
use Rattle.keri_roles.proofs.PlanAnswerLemmas.Made.{all_answers, all_counted, all_kept, counts, few}
use Rattle.keri_roles.proofs.plan_answer.answer.answer_inception.Goals as goal

pub answer_made-requires : goal.answer_made-requires
answer_made-requires g c = all_counted (g.S.Signer.gives c.args.signer.now) None (sealed_inception c.args.plan.now) c.args.plan.now.signers c.incept-made.result c.incept-made.ensures.made

pub returns-clause-answers : goal.returns-clause-answers
returns-clause-answers g c = all_answers (signer_asked (g.S.Signer.gives c.args.signer.now) (g.S.Signer.signings c.args.signer.now) (g.S.Signer.signings c.incept-made.new.signer)) (record { state = None; event = sealed_inception c.args.plan.now }) c.args.plan.now.signers c.incept-made.result c.answer_made.result
    c.incept-made.ensures.made c.incept-made.ensures.signed c.incept-made.ensures.asked (λ n. c.incept-made.ensures.refused) (λ last. elim last [ ]) c.answer_made.ensures.answer

pub returns-clause-count : goal.returns-clause-count
returns-clause-count g c = counts _ _ c.incept-made.result c.answer_made.result c.incept-made.ensures.count c.answer_made.ensures.answer

pub returns-clause-kept : goal.returns-clause-kept
returns-clause-kept g c = all_kept _ _ c.incept-made.result c.answer_made.result c.incept-made.ensures.count c.answer_made.ensures.none

pub returns-clause-few : goal.returns-clause-few
returns-clause-few g c =
    few (g.S.Signer.signings c.args.signer.now) (g.S.Signer.signings c.incept-made.new.signer) (signings_of None (sealed_inception c.args.plan.now) c.args.plan.now.signers) c.incept-made.result c.incept-made.ensures.asked
