-- Lists of events that witnesses stand behind (KERI paper: witness receipts, the threshold of accountable duplicity).
use Rattle.std.specs.Prelude.{◌≡◌, ◌≤◌, Bool, true, false, ◌||◌, List, count_by, All, Contains}
use Rattle.cesr_codes.specs.declared.key.Key.{Key}
use Rattle.event_body.specs.EventBody.Events.{prefix_of, is_establishment}
use Rattle.event_body.specs.EventBody.Judging.{SpellsEvent}
use Rattle.key_state.specs.Exposure.{own_rules, Rules}
use Rattle.key_state.specs.Same.{same_key, has_key, distinct}
use Rattle.journal.specs.Journal.Grown.{IsGrown}
use Rattle.journal.specs.Journal.History.{Told}
use Rattle.journal.specs.declared.journal.body.Body.{Body}
use Rattle.journal.specs.Journal.Logs.{state, before}
use Rattle.journal.specs.Journal.Readiness.{backers}
use Rattle.quorum_laws.specs.Histories.{Signing, did_sign}

-- each body's event is the one that its bytes spell
abbrev pub AreSpelled : List Body → Type 0
AreSpelled bodies = All (λ b. SpellsEvent b.event b.bytes) bodies

-- the rules of an event of a list, under the state over the members before it: its own witnesses, and how many of them it
-- wants (b or br and ba, bt)
abbrev pub rules_in : List Body → Body → Rules
rules_in log b = own_rules (state (before b log) (prefix_of b.event)) b.event

-- the witness is bad or signed the body
abbrev pub vouches : List Signing → List Key → Body → Key → Bool
vouches history bad b witness = has_key bad witness || did_sign history b witness

-- The bodies are events, each of which fits what is before it. Behind each establishment event stand as many distinct
-- members of its own list as it wants, each of them bad or a signer of it.
pub record IsBacked (log : List Body) (history : List Signing) (bad : List Key) : Type 0 where
  pub spelled : AreSpelled log
  pub grown : IsGrown log
  pub enough : (b : Body) → Contains log b → is_establishment b.event ≡ true
      → (rules_in log b).toad ≤ count_by (vouches history bad b) (distinct same_key (rules_in log b).witnesses)

-- Verdicts are honest: each backer of an establishment event of the list, by what was told, did sign it, unless it is bad.
abbrev pub IsHonest : List Told → List Body → List Signing → List Key → Type 0
IsHonest told log history bad = (b : Body) (witness : Key) → Contains log b → is_establishment b.event ≡ true
    → Contains (backers told (rules_in log b).witnesses b) witness → has_key bad witness ≡ false
    → did_sign history b witness ≡ true
