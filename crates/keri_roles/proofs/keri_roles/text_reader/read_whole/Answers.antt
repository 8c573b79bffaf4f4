use Rattle.keri_roles.proofs.keri_roles.text_reader.read_whole.Goals as goal

pub returns-in-None-clause-reads : goal.returns-in-None-clause-reads
returns-in-None-clause-reads g c = λ held none. c.read_nothing.ensures.reads c.args.most held
