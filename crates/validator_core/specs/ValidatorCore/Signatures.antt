-- The good signatures on bodies.
use Rattle.std.specs.Prelude.{ℕ, Bool, List, [], Option, None, if◌then◌else◌}
use Rattle.cesr_codes.specs.declared.indexed_sig.IndexedSig.{IndexedSig}
use Rattle.cesr_codes.specs.declared.key.Key.{Key}
use Rattle.cesr_codes.specs.declared.sig.Sig.{Sig}
use Rattle.validator_core.specs.ValidatorCore.View.{CoreView, told_of, accepted_by}
use Rattle.journal.specs.EventRules.Claims.{is_good}
use Rattle.journal.specs.EventRules.Parts.{opens_at}
use Rattle.journal.specs.Journal.History.{Told}
use Rattle.journal_views.specs.EventPayload.Kept.{state_under}
use Rattle.journal.specs.Journal.Logs.{stands}
use Rattle.journal.specs.Journal.Questions.{state_before}
use Rattle.journal.specs.Journal.Readiness.{good_sigs, held_sig}
use Rattle.journal.specs.declared.journal.body.Body.{Body}
use Rattle.journal.specs.declared.journal.claim.Claim.{Claim}
use Rattle.key_state.specs.Exposure.{Rules, own_rules}
use Rattle.key_state.specs.Same.{has_key}

-- the controller's signature of a claim, where a verifier says yes of it by the rules of its event
abbrev pub good_claim : (Key → Sig → Bool) → Rules → Claim → Option IndexedSig
good_claim says rules c = if is_good says rules c then held_sig c else None

-- the controller's signatures with a yes verdict on a body that stands in a log, in order of coming
abbrev pub good_in : List Told → List Body → Body → List IndexedSig
good_in told log b = if stands log b then good_sigs told (state_before log b) b else []

-- those on a body of a core, by all that it accepted
abbrev pub good_on : CoreView → Body → List IndexedSig
good_on core b = good_in (told_of core) (accepted_by core) b

-- the controller's signatures with a yes verdict on an accepted event, by the state under which it was accepted
abbrev pub good_under : List Told → List Body → Body → List IndexedSig
good_under told log b = good_sigs told (state_under log b) b

-- the signature opens the commitment of this place by that state
abbrev pub opens_under : List Body → Body → ℕ → IndexedSig → Bool
opens_under log b n sig = opens_at (state_under log b) b.event n sig

-- the key is among the event's own witnesses by that state
abbrev pub is_witness_under : List Body → Body → Key → Bool
is_witness_under log b key = has_key (own_rules (state_under log b) b.event).witnesses key
