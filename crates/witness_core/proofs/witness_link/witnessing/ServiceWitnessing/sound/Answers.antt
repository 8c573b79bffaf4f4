use Rattle.witness_core.proofs.witness_link.witnessing.ServiceWitnessing.sound.Goals as goal

pub returns : goal.returns
returns g c = c.sound.ensures
