-- What came of events, and what was said of signatures.
use Rattle.std.specs.Prelude.{◌≡◌, ℕ, Bool, false, ◌&&◌, ◌==◌, List, slice_get, Contains, Option, Some, None, if◌then◌else◌}
use Rattle.std.specs.BTreeSet.{BTreeSet, contains}
use Rattle.std.specs.List.{list_any}
use Rattle.std.specs.declared.cmp.Ordering.{Ordering}
use Rattle.std.specs.declared.cmp.Ord as ord
use Rattle.claim_table.specs.contracts.claim_table.signature.SignatureOrd.TheImpl as signature_order
use Rattle.claim_table.specs.declared.claim_table.signature.Signature.{Signature}
use Rattle.validator_core.specs.contracts.tables.name.NameOrd.TheImpl as name_order
use Rattle.validator_core.specs.declared.tables.name.Name.{Name}
use Rattle.validator_core.specs.Tables.Names.{name_of}
use Rattle.event_body.specs.declared.event_body.event.Event.{Event}
use Rattle.escrow.specs.EventIndex.Keys.{numbers_at}
use Rattle.escrow.specs.declared.event_index.index.Index.{Index}
use Rattle.journal.specs.declared.journal.entry.Entry.{Entry}
use Rattle.journal.specs.declared.journal.entry.Entry.TheVariants.{Took, Heard}
use Rattle.key_state.specs.Same.{same_key, same_sig}
use denote.Param as param

-- the orders of names and of signatures
abbrev pub name_cmp : Name → Name → Ordering
name_cmp = param.read (ord.Ghosts.cmp {X-1 = Name}) name_order.ghosts

abbrev pub signature_cmp : Signature → Signature → Ordering
signature_cmp = param.read (ord.Ghosts.cmp {X-1 = Signature}) signature_order.ghosts

-- the event of the body that came with an entry
abbrev pub event_in : List Event → Option Entry → Option Event
event_in events None = None
event_in events (Some (Took reader n claims)) = slice_get events n
event_in events (Some (Heard reader n key sig verdict)) = None

-- among the numbers at a name are those of the entries by which bodies with this name came
abbrev pub HasEntries : List Event → List Entry → Index Name → Type 0
HasEntries events entries index = (i : ℕ) (e : Event) → event_in events (slice_get entries i) ≡ Some e
    → Contains (numbers_at name_cmp index (name_of e)) i

-- the signature of which an entry says yes
abbrev pub yes_of : Entry → Option Signature
yes_of (Took reader n claims) = None
yes_of (Heard reader n key sig verdict) = if verdict then Some (record { body = n; key = key; sig = sig }) else None

-- the same key's same signature on the body of one number
abbrev pub same_signature : Signature → Signature → Bool
same_signature s t = (s.body == t.body) && (same_key s.key t.key && same_sig s.sig t.sig)

-- it is this signature, where there is one
abbrev pub is_signature : Option Signature → Signature → Bool
is_signature None t = false
is_signature (Some s) t = same_signature s t

-- the set has the signatures of which a verifier said yes
abbrev pub HasYes : List Entry → BTreeSet Signature → Type 0
HasYes entries good = (s : Signature) → contains signature_cmp good s ≡ list_any (λ e. is_signature (yes_of e) s) entries
