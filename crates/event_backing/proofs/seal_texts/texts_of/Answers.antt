use Rattle.event_backing.proofs.SealMembers.{first-member, second-member, third-member, none-from}
use Rattle.event_backing.proofs.seal_texts.texts_of.Goals as goal

pub returns-in_err-text_of-in-len3-clause-none : goal.returns-in_err-text_of-in-len3-clause-none
returns-in_err-text_of-in-len3-clause-none c =
    none-from c.from_residual.result (λ p s d e. c.in_err-text_of-in-len3.ensures.none p (first-member c.args.members.now p s d c.prefix-item.result e c.prefix-item.is))

pub returns-in_err-text_of-in-len3-2-clause-none : goal.returns-in_err-text_of-in-len3-2-clause-none
returns-in_err-text_of-in-len3-2-clause-none c =
    none-from c.from_residual-in_err-text_of-in-len3-2.result (λ p s d e. c.in_err-text_of-in-len3-2.ensures.none s (second-member c.args.members.now p s d c.sn-item.result e c.sn-item.is))

pub returns-in_err-text_of-in-len3-3-clause-none : goal.returns-in_err-text_of-in-len3-3-clause-none
returns-in_err-text_of-in-len3-3-clause-none c =
    none-from c.from_residual-in_err-text_of-in-len3-3.result (λ p s d e. c.in_err-text_of-in-len3-3.ensures.none d (third-member c.args.members.now p s d c.said-item.result e c.said-item.is))
