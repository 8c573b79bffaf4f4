-- The good signatures by the state under which an event was accepted.
use Rattle.std.proofs.Common.{◌≡◌, ℕ, List, Option, Some, None, refl, sym, ◌∙◌, ap}
use Rattle.std.specs.Prelude.{filter, filter_map, slice_get}
use Rattle.key_state.specs.Exposure.{own_rules}
use Rattle.key_state.specs.States.{State}
use Rattle.cesr_codes.specs.declared.indexed_sig.IndexedSig.{IndexedSig}
use Rattle.event_body.specs.declared.event_body.event.Event.{Event}
use Rattle.journal.specs.EventRules.Parts.{opens_at}
use Rattle.journal.specs.declared.journal.body.Body.{Body}
use Rattle.journal.specs.Journal.History.{Told, claims_on, triple_of}
use Rattle.journal.specs.Journal.Readiness.{good_sigs, held_sig, yes_to}
use Rattle.claim_table.proofs.CoreLawsLemmas.Adding.{opens-alike}
use Rattle.claim_table.proofs.CoreLawsLemmas.Alike.{own_rules-alike}
use Rattle.validator_core.specs.Tables.AcceptedLog.Cuts.{AreBothAlike}
use Rattle.validator_core.proofs.TablesLemmas.NamedRows.{body_there, chosen_at}
use Rattle.validator_core.specs.Tables.View.{View, log_of}
use Rattle.validator_core.specs.Acceptance.Standing.{AreSoundTables}

-- RULES: alike states ask the same, and none asks what none does
pub rules_both : (o p : Option State) → AreBothAlike o p → (e : Event) → own_rules o e ≡ own_rules p e
rules_both None None alike e = refl
rules_both None (Some t) alike e = absurd alike
rules_both (Some s) None alike e = absurd alike
rules_both (Some s) (Some t) alike e = own_rules-alike s t alike e

pub good_both : (told : List Told) (o p : Option State) (b : Body) → AreBothAlike o p → good_sigs told o b ≡ good_sigs told p b
unfolding good_sigs
good_both told o p b alike = ap (λ r. filter_map held_sig (filter (λ c. yes_to told (triple_of r b c)) (claims_on told b))) (rules_both o p alike b.event)

-- and under them a signature opens the same commitments
pub opens_both : (o p : Option State) → AreBothAlike o p → (e : Event) (n : ℕ) (sig : IndexedSig) → opens_at o e n sig ≡ opens_at p e n sig
opens_both None None alike e n sig = refl
opens_both None (Some t) alike e n sig = absurd alike
opens_both (Some s) None alike e n sig = absurd alike
opens_both (Some s) (Some t) alike e n sig = ap (λ f. f sig) (opens-alike s t alike e n)

-- PLACE: what is accepted at a place is the body of the number there
there_at : (held : List Body) (o : Option ℕ) (n : ℕ) (b : Body) → o ≡ Some n → body_there held o ≡ Some b → slice_get held n ≡ Some b
there_at held None n b is at = cc
there_at held (Some m) n b is at = let same : m ≡ n = cc in ap (slice_get held) (sym same) ∙ at

pub accepted_at : (v : View) → AreSoundTables v → (place n : ℕ) (b : Body) → slice_get v.log.numbers place ≡ Some n → slice_get (log_of v) place ≡ Some b → slice_get v.held n ≡ Some b
accepted_at v is place n b number at = there_at v.held (slice_get v.log.numbers place) n b number (sym (chosen_at v.held v.log.numbers is.accepted_held place) ∙ at)

pub none_at : (v : View) → AreSoundTables v → (place : ℕ) (b : Body) → slice_get v.log.numbers place ≡ None → slice_get (log_of v) place ≡ Some b → ⊥
none_at v is place b none at = let lost : None ≡ Some b = ap (body_there v.held) (sym none) ∙ sym (chosen_at v.held v.log.numbers is.accepted_held place) ∙ at in cc
