-- Where the reading of a question stops.
use Rattle.std.specs.Prelude.{◌≡◌, ◌≢◌, ℕ, ◌≤◌, ◌⊎◌, List, [], ◌∷◌, ◌++◌, length}
use Rattle.std.specs.declared.option.Option.{Option}
use Rattle.lists.specs.KeriSpecs.Causes.{Rose}
use Rattle.lists.specs.KeriSpecs.Shown.{before, IsAtEnd}
use Rattle.verifier_link.specs.declared.served.Served.{Served}
use Rattle.verifier_link.specs.declared.served.Served.TheVariants.{End, Malformed as MalformedAt, ReadFault as ReadFailed, LimitReached as ReadAll}
use Rattle.verifier_link.specs.declared.stop.Stop.{Stop}
use Rattle.verifier_link.specs.declared.stop.Stop.TheVariants.{Ended, Malformed, ReadFault, LimitReached}
use Rattle.verifier_link.specs.Fields.{IsBegun, IsRefused}
use Rattle.verifier_link.specs.Sides.{Gave}
use Rattle.keri_outside.specs.Shown.{SourceShown}

-- within a question the input's end cuts it short
abbrev pub cut_short : Stop → Stop
cut_short Ended = Malformed
cut_short Malformed = Malformed
cut_short ReadFault = ReadFault
cut_short LimitReached = LimitReached

abbrev pub served_at : Stop → ℕ → Served
served_at Ended place = End
served_at Malformed place = MalformedAt place
served_at ReadFault place = ReadFailed
served_at LimitReached place = ReadAll

-- the input ended within a question
pub record IsCutShort (bytes : List ℕ) (left : Option (List ℕ)) : Type 0 where
  pub begun : IsBegun bytes
  pub some : bytes ≢ []
  pub at_end : IsAtEnd left

-- why a question isn't read, of which this front was read before
abbrev pub StopsBehind : List ℕ → ℕ → SourceShown → SourceShown → Stop → Type 0
StopsBehind front room old new Ended = (bytes : List ℕ) × IsBegun (front ++ bytes) × (length bytes ≤ room) × Gave old new bytes × IsAtEnd new.left
StopsBehind front room old new Malformed = (bytes : List ℕ) × IsRefused (front ++ bytes) × (length bytes ≤ room) × Gave old new bytes
StopsBehind front room old new ReadFault = (bytes : List ℕ) × IsBegun (front ++ bytes) × (length bytes ≤ room) × (old.left ≡ before bytes new.left) × Rose old.faults new.faults
StopsBehind front room old new LimitReached = (bytes : List ℕ) × IsBegun (front ++ bytes) × (length bytes ≡ room) × (more : ℕ) × Gave old new (bytes ++ more ∷ [])

-- why a question isn't read: none was begun; it isn't of the form or is cut short; the source failed; or as many bytes
-- were read as may be, and the source gave one more
abbrev pub StopsReading : ℕ → SourceShown → SourceShown → Stop → Type 0
StopsReading room old new Ended = Gave old new [] × IsAtEnd new.left
StopsReading room old new Malformed = (bytes : List ℕ) × (IsRefused bytes ⊎ IsCutShort bytes new.left) × (length bytes ≤ room) × Gave old new bytes
StopsReading room old new ReadFault = (bytes : List ℕ) × IsBegun bytes × (length bytes ≤ room) × (old.left ≡ before bytes new.left) × Rose old.faults new.faults
StopsReading room old new LimitReached = (bytes : List ℕ) × IsBegun bytes × (length bytes ≡ room) × (more : ℕ) × Gave old new (bytes ++ more ∷ [])
