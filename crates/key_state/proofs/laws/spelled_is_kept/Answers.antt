use Rattle.key_state.proofs.Spelled.{spelled_kept}
use Rattle.key_state.proofs.laws.spelled_is_kept.Goals as goal

pub returns : goal.returns
returns c = spelled_kept
