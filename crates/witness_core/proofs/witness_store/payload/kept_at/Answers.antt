use Rattle.witness_core.proofs.witness_store.payload.kept_at.Goals as goal

pub returns-clause-raw : goal.returns-clause-raw
returns-clause-raw c = λ b at. (c.in_ok-add_all.ensures b at (c.new-kept.ensures _ _)).raw
