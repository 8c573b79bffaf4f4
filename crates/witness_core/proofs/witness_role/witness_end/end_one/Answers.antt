use Rattle.witness_core.proofs.witness_role.witness_end.end_one.Goals as goal

pub returns-clause-ends : goal.returns-clause-ends
returns-clause-ends g c = λ before after. rw (c.push_reserved.ensures.items, c.requires.none_yet) at c.end.ensures.ends before after
