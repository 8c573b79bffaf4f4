-- Tables that hold nothing stand.
use Rattle.validator_core.proofs.TablesLemmas.AcceptedLogLemmas.Behind.{nothing_is_log}
use Rattle.journal.proofs.JournalLemmas.Premises.{nothing_grown}
use Rattle.journal.specs.Journal.Journals.{chosen}
use Rattle.validator_core.specs.Tables.View.{nothing}
use Rattle.validator_core.specs.Acceptance.Standing.{AreSoundTables}

pub nothing_stands : AreSoundTables nothing
unfolding chosen
nothing_stands = record {
  spelled = λ n b at. cc;
  differ = tt;
  entries_held = λ i e at. cc;
  accepted_held = λ i n at. cc;
  grown = nothing_grown;
  log = nothing_is_log;
  claims = record {
    claims = λ n b at. cc;
    verdicts = λ n b key sig at. cc;
    agree = λ i r at. cc;
    below = λ i r at. cc;
  };
}
