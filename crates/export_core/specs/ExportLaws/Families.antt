-- What is accepted of a family of identifiers depends on the family's own entries alone. So a stream may be split
-- by family among machines that know nothing of each other.
use Rattle.std.specs.Prelude.{◌≡◌, true, false, List, ◌++◌, filter, flat_map, map, Some, None, Contains}
use Rattle.cesr_codes.specs.declared.prefix.Prefix.{Prefix}
use Rattle.event_body.specs.EventBody.Events.{prefix_of}
use Rattle.journal.specs.declared.journal.body.Body.{Body}
use Rattle.journal.specs.declared.journal.mode.Mode.{Mode}
use Rattle.journal.specs.Journal.Accepted.{accepted}
use Rattle.journal.specs.Journal.History.{Told, took, heard, taken}
use Rattle.journal.specs.Journal.Logs.{is_of, live, state, stepped}
use Rattle.journal.specs.Journal.Readiness.{is_local}
use Rattle.export_core.specs.ExportLaws.Export.{delegator_if, exported, is_of_some}

-- the body that an entry is of
abbrev pub told_body : Told → Body
told_body (took reader b claims) = b
told_body (heard reader b key sig verdict) = b

-- the entries of the family: each body, and each verdict on a body, of one of its identifiers; a receipt is of the
-- identifier of the event that it is for (KERI, rct)
abbrev pub within : List Prefix → List Told → List Told
within family told = filter (λ t. is_of_some family (told_body t)) told

-- the bodies of the base and of all entries
abbrev pub told_bodies : List Body → List Told → List Body
told_bodies base told = base ++ map told_body told

-- bodies of the same bytes are of one identifier, as they are where each is read from its bytes
abbrev pub HaveOneReading : List Body → Type 0
HaveOneReading all = (b c : Body) → Contains all b → Contains all c → b.bytes ≡ c.bytes
    → prefix_of b.event ≡ prefix_of c.event

-- the delegator of each identifier of the family, by the states that a log makes, is of the family
abbrev pub IsClosed : List Body → List Prefix → Type 0
IsClosed log family = (p d : Prefix) → Contains family p → delegator_if (state log p) ≡ Some d → Contains family d

-- the delegator that each inception of the family names (di), whether it is accepted or not, is of the family
abbrev pub NamesItsOwn : List Body → List Prefix → Type 0
NamesItsOwn all family = (b : Body) (d : Prefix) → Contains all b → is_of_some family b ≡ true
    → delegator_if (stepped None b.event) ≡ Some d → Contains family d

-- the part of a log has the family's events, the same in the same order, and so the same events, live events and
-- state of each of its identifiers
pub record IsPart (family : List Prefix) (whole part : List Body) : Type 0 where
  pub same : part ≡ exported family whole
  pub events : (p : Prefix) → Contains family p → filter (is_of p) part ≡ filter (is_of p) whole
  pub live_events : (p : Prefix) → Contains family p → live part p ≡ live whole p
  pub states : (p : Prefix) → Contains family p → state part p ≡ state whole p

-- FAMILIES: what is accepted of the family's entries alone is what is accepted of the family. A family is closed by
-- what is accepted; where seals aren't waited for, it may be any identifiers.
abbrev pub FamilyLaw : Type 0
FamilyLaw = (mode : Mode) (base : List Body) (told : List Told) (family : List Prefix)
    → HaveOneReading (told_bodies base told)
    → (is_local mode ≡ false → IsClosed (accepted mode base told) family)
    → IsPart family (accepted mode base told) (accepted mode (exported family base) (within family told))

-- and so where the inceptions that came name no delegator outside, which is seen with nothing accepted yet
abbrev pub NamedFamilyLaw : Type 0
NamedFamilyLaw = (mode : Mode) (base : List Body) (told : List Told) (family : List Prefix)
    → HaveOneReading (told_bodies base told)
    → (is_local mode ≡ false → NamesItsOwn (base ++ flat_map taken told) family)
    → IsPart family (accepted mode base told) (accepted mode (exported family base) (within family told))
