-- The events of a family, as messages.
use Rattle.std.specs.Prelude.{◌≡◌, ℕ, ◌+◌, Bool, true, false, List, ◌++◌, filter, flat_map, length, map, take, IsTrue}
use Rattle.std.specs.BTreeMap.{BTreeMap, get}
use Rattle.std.specs.List.{list_any}
use Rattle.std.specs.declared.cmp.Ordering.{Ordering}
use Rattle.std.specs.declared.cmp.Ord as ord
use Rattle.cesr_codes.specs.contracts.prefix.PrefixOrd.TheImpl as prefix_order
use Rattle.cesr_codes.specs.declared.prefix.Prefix.{Prefix}
use Rattle.journal.specs.declared.journal.body.Body.{Body}
use Rattle.journal.specs.declared.journal.claim.Claim.{Claim}
use Rattle.journal.specs.Journal.History.{Told, claims_on, triple_of}
use Rattle.journal.specs.Journal.Logs.{state}
use Rattle.journal.specs.Journal.Readiness.{yes_to}
use Rattle.journal.specs.Journal.Replies.{same_claim}
use Rattle.key_state.specs.Exposure.{rules_of}
use Rattle.key_state.specs.Same.{are_witnesses, distinct, same_prefix}
use Rattle.validator_core.specs.ValidatorCore.View.{CoreView, IsSoundCore, accepted_by, told_of}
use Rattle.export_core.specs.ExportLaws.Export.{IsFamily, Sent, exported, is_of_some, messages_of, ordered}
use Rattle.export_core.specs.ExportCore.Came.{HasEntries, HasYes}
use Rattle.export_core.specs.ExportCore.Messages.{IsExportText}
use Rattle.export_core.specs.ExportCore.Signers.{rules_by, signers_in, signers_of}
use Rattle.export_core.specs.declared.export_core.exported_events.Came.{Came}
use Rattle.export_core.specs.declared.export_core.exported_events.Exported.{Exported}
use Rattle.export_core.specs.declared.export_core.signers.Signers.{Signers}
use denote.Param as param

-- the order of identifiers
abbrev pub prefix_cmp : Prefix → Prefix → Ordering
prefix_cmp = param.read (ord.Ghosts.cmp {X-1 = Prefix}) prefix_order.ghosts

-- the tables are of what came to the core
pub record HasCome (core : CoreView) (came : Came) : Type 0 where
  pub entries : HasEntries (map (λ b. b.event) core.held) core.entries came.entries
  pub good : HasYes core.entries came.good

-- of each identifier of the family the table has the keys and witnesses after its events in a list, and no witness's key can be
-- rotated
abbrev pub HasSigners : List Prefix → List Body → BTreeMap Prefix Signers → Type 0
HasSigners family front signers = (p : Prefix) → list_any (λ q. same_prefix q p) family ≡ true
    → (signers_in (get prefix_cmp signers p) ≡ signers_of (rules_of (state front p)))
    × IsTrue (are_witnesses (rules_of (state front p)).witnesses)

-- the claims on an event that have a yes, by its keys and witnesses, each once, and in the order of their kinds
abbrev pub sent_by : List Told → Signers → Body → List Claim
sent_by told own b = ordered (distinct same_claim (filter (λ c. yes_to told (triple_of (rules_by own) b c)) (claims_on told b)))

-- the messages of an event
abbrev pub messages_at : CoreView → List Prefix → List Body → List Sent
messages_at core family events = flat_map (messages_of (told_of core) (accepted_by core)) (exported family events)

-- the text of an event's messages is put, where it is of the family, and nothing else
abbrev pub PutsEvent : CoreView → List Prefix → Body → Bool → List ℕ → List ℕ → Type 0
PutsEvent core family b true old new = (is_of_some family b ≡ true) × (text : List ℕ) × IsExportText (messages_of (told_of core) (accepted_by core) b) text × (new ≡ old ++ text)
PutsEvent core family b false old new = (is_of_some family b ≡ false) × (new ≡ old)

-- so with the event at a place of the accepted ones, and the table has what is behind it
pub record PutsAt (core : CoreView) (family : List Prefix) (place : ℕ) (b : Body) (is_put : Bool) (signers : BTreeMap Prefix Signers) (old new : List ℕ) : Type 0 where
  pub puts : PutsEvent core family b is_put old new
  pub signers_are : HasSigners family (take (place + 1) (accepted_by core)) signers

-- all events of the family are written
pub record IsWritten (core : CoreView) (first : Prefix) (exported_text : Exported) : Type 0 where
  pub sound : IsSoundCore core
  pub family : List Prefix
  pub is_family : IsFamily (accepted_by core) first family
  pub text_is : IsExportText (messages_at core family (accepted_by core)) exported_text.text.items
  pub count_is : exported_text.count ≡ length (exported family (accepted_by core))
