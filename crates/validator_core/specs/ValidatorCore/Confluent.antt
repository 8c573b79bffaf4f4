-- What is found in a core is so in every journal that is alike.
use Rattle.std.specs.Prelude.{◌≡◌, List, []}
use Rattle.journal.specs.declared.journal.body.Body.{Body}
use Rattle.journal.specs.Journal.Accepted.{accepted}
use Rattle.journal.specs.Journal.History.{Told}
use Rattle.journal_views.specs.JournalLaws.Alike.{AreAlike}
use Rattle.validator_core.specs.ValidatorCore.View.{CoreView, told_of}

-- What is found in a core that rests on no list is what the accepted events give, of every journal that is alike: in whatever order
-- and however often the same came, and whoever told it.
abbrev pub IsSoInAlike : {T : Type 0} → CoreView → (List Body → T) → T → Type 0
IsSoInAlike core given found = core.base ≡ 0 → (other : List Told) → AreAlike core.mode (told_of core) other
    → found ≡ given (accepted core.mode [] other)
