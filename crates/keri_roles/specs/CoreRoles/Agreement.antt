-- What a validator accepts, against what any other accepts (KERI paper: witness agreement).
use Rattle.std.specs.Prelude.{List, []}
use Rattle.cesr_codes.specs.declared.key.Key.{Key}
use Rattle.journal.specs.declared.journal.body.Body.{Body}
use Rattle.journal.specs.declared.journal.mode.Mode.TheVariants.{Full}
use Rattle.journal.specs.Journal.Accepted.{accepted}
use Rattle.journal.specs.Journal.History.{Told}
use Rattle.quorum_laws.specs.Agreement.{Agree, NoClash}
use Rattle.quorum_laws.specs.Backing.{IsBacked, IsHonest}
use Rattle.quorum_laws.specs.Histories.{Signing, IsLawful}

-- The list is backed under this history, and agrees with every other backed list of which no event has a digest of another's.
pub record AgreesUnder (log : List Body) (history : List Signing) (bad : List Key) : Type 0 where
  pub backed : IsBacked log history bad
  pub agrees : (other : List Body) → IsBacked other history bad → NoClash log other → Agree log other bad

-- What is accepted of what was told, wants receipts and seals, and began with nothing, agrees so under every lawful signing
-- history for which the verdicts are honest.
abbrev pub IsAgreed : List Told → Type 0
IsAgreed told = (history : List Signing) (bad : List Key) → IsLawful history bad → IsHonest told (accepted Full [] told) history bad
    → AgreesUnder (accepted Full [] told) history bad
