use Rattle.std.proofs.Common.{refl}
use Rattle.keri_roles.proofs.KeriRolesLemmas.Dues.{owes_answer, owes_none}
use Rattle.keri_roles.proofs.keri_roles.message_due.answer_due.Goals as goal

pub returns-in-Ok-clause-due : goal.returns-in-Ok-clause-due
returns-in-Ok-clause-due g c =
    owes_answer _ _ (g.G.Signer.signings c.args.signer.now) c.requires.unasked _ _ c.answer_plan-answer.result c.answer_plan-answer.ensures.answers
    (g.G.Signer.faults c.args.signer.now) c.requires.unfailed c.answer_plan-answer.ensures.count c.in-Ok.ensures.err c.in-Ok.ensures.ok

pub returns-in-Err-clause-due : goal.returns-in-Err-clause-due
returns-in-Err-clause-due g c = owes_none _ _ (g.G.Signer.signings c.args.signer.now) c.requires.unasked _ _ c.answer_plan-answer.ensures.few refl c.nothing.ensures
