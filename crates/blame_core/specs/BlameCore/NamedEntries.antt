-- The entries of a journal by the names of their bodies' events.
use Rattle.std.specs.Prelude.{◌≡◌, ℕ, ◌<◌, List, length, slice_get, Some, Contains}
use Rattle.std.specs.declared.cmp.Ordering.{Ordering}
use Rattle.std.specs.declared.cmp.Ord as ord
use Rattle.validator_core.specs.Tables.Names.{name_of}
use Rattle.validator_core.specs.Tables.View.{number_of}
use Rattle.validator_core.specs.declared.tables.name.Name.{Name}
use Rattle.validator_core.specs.contracts.tables.name.NameOrd.TheImpl as name_order
use Rattle.escrow.specs.EventIndex.Keys.{numbers_at}
use Rattle.escrow.specs.declared.event_index.index.Index.{Index}
use Rattle.journal.specs.declared.journal.body.Body.{Body}
use Rattle.journal.specs.declared.journal.entry.Entry.{Entry}
use Rattle.validator_core.specs.ValidatorCore.View.{CoreView}
use denote.Param as param

-- the order of names
abbrev pub name_cmp : Name → Name → Ordering
name_cmp = param.read (ord.Ghosts.cmp {X-1 = Name}) name_order.ghosts

-- each of the first so many entries is among those at the name of its body's event
abbrev pub AreNamed : List Body → List Entry → ℕ → (Name → List ℕ) → Type 0
AreNamed held entries count numbers = (i : ℕ) (e : Entry) (c : Body) → i < count → slice_get entries i ≡ Some e
    → slice_get held (number_of e) ≡ Some c → Contains (numbers (name_of c.event)) i

-- so are all of them
abbrev pub HasNamed : CoreView → Index Name → Type 0
HasNamed core index = AreNamed core.held core.entries (length core.entries) (numbers_at name_cmp index)
