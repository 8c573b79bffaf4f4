-- What is exported of a journal for a fresh validator: the events of an identifier and of its delegators, each with its claims
-- that have a yes, in messages.
use Rattle.std.specs.Prelude.{◌≡◌, ◌↔◌, ℕ, zero, suc, Bool, true, false, nat_le, List, [], ◌∷◌, ◌++◌, length, map, filter, flat_map, take, drop, Option, Some, None, All, Contains, if◌then◌else◌}
use Rattle.std.specs.List.{list_any}
use Rattle.cesr_codes.specs.declared.prefix.Prefix.{Prefix}
use Rattle.key_state.specs.Exposure.{Rules, own_rules}
use Rattle.key_state.specs.Same.{distinct}
use Rattle.key_state.specs.States.{State}
use Rattle.event_body.specs.EventBody.Events.{prefix_of}
use Rattle.journal.specs.declared.journal.body.Body.{Body}
use Rattle.journal.specs.declared.journal.claim.Claim.{Claim}
use Rattle.journal.specs.declared.journal.claim.Claim.TheVariants.{Controller, Witness, Couple}
use Rattle.journal.specs.declared.journal.mode.Mode.TheVariants.{Full}
use Rattle.journal.specs.Journal.Accepted.{accepted}
use Rattle.journal.specs.Journal.History.{Told, took, heard, claims_on, triple_of}
use Rattle.journal.specs.Journal.Logs.{before, is_of, live, state}
use Rattle.journal.specs.Journal.Questions.{IsRegular, questions}
use Rattle.journal.specs.Journal.Readiness.{yes_to}
use Rattle.journal.specs.Journal.Replies.{is_held, same_claim}
use Rattle.claim_table.specs.CoreLaws.Standing.{HasNoClash}
use Rattle.sith.specs.Tests.{satisfied}

-- the delegator of a state, where there is one
abbrev pub delegator_if : Option State → Option Prefix
delegator_if None = None
delegator_if (Some s) = s.delegator

-- the identifier, its delegator, that one's delegator and so on, by the states that a log makes
pub data InFamily (log : List Body) (first : Prefix) : Prefix → Type 0 where
  itself : InFamily log first first
  delegator : {p d : Prefix} → InFamily log first p → delegator_if (state log p) ≡ Some d → InFamily log first d

-- the list has just these
abbrev pub IsFamily : List Body → Prefix → List Prefix → Type 0
IsFamily log first family = (p : Prefix) → (Contains family p ↔ InFamily log first p)

-- the event is of one of the identifiers
abbrev pub is_of_some : List Prefix → Body → Bool
is_of_some family b = list_any (λ p. is_of p b) family

-- the events of the family, in order of acceptance
abbrev pub exported : List Prefix → List Body → List Body
exported family log = filter (is_of_some family) log

-- the rules of an accepted event, by the state of its identifier just before it in the log: those by which it was accepted
abbrev pub rules_under : List Body → Body → Rules
rules_under log b = own_rules (state (before b log) (prefix_of b.event)) b.event

-- the claim's triple has a yes, by these rules
abbrev pub is_good : List Told → List Body → Body → Claim → Bool
is_good told log b c = yes_to told (triple_of (rules_under log b) b c)

-- it is a claim of a witness by its index
abbrev pub is_witness : Claim → Bool
is_witness (Controller s) = false
is_witness (Witness s) = true
is_witness (Couple key sig) = false

-- it is a claim with a key of its own
abbrev pub is_couple : Claim → Bool
is_couple (Controller s) = false
is_couple (Witness s) = false
is_couple (Couple key sig) = true

-- the controller's claims, then those of witnesses by index, then those with keys of their own
abbrev pub ordered : List Claim → List Claim
ordered claims = filter is_held claims ++ (filter is_witness claims ++ filter is_couple claims)

-- the event's claims that have a yes, each once
unfoldable pub sent_claims : List Told → List Body → Body → List Claim
sent_claims told log b = ordered (distinct same_claim (filter (is_good told log b) (claims_on told b)))

-- the list in runs of this size, of which the last may have fewer; by at most so many cuts
unfoldable pub runs_by : {X : Type 0} → ℕ → ℕ → List X → List (List X)
runs_by zero size xs = xs ∷ []
runs_by (suc n) size xs = if nat_le (length xs) size then xs ∷ [] else take size xs ∷ runs_by n size (drop size xs)

-- the claims of each message: the first one and one run of the others, as groups of the controller's, of witnesses' and of
-- those with keys of their own
abbrev pub cut_claims : List Claim → List (List Claim)
cut_claims [] = [] ∷ []
cut_claims (c ∷ claims) = map (λ run. ordered (c ∷ run)) (runs_by (length claims) 1023 claims)

-- a message as it is taken: its body, and its claims in order
pub record Sent : Type 0 where
  pub body : Body
  pub claims : List Claim

-- the messages of an event, and of all
abbrev pub messages_of : List Told → List Body → Body → List Sent
messages_of told log b = map (λ claims. record { body = b; claims = claims }) (cut_claims (sent_claims told log b))

unfoldable pub export : List Told → List Prefix → List Sent
export told family = flat_map (messages_of told (accepted Full [] told)) (exported family (accepted Full [] told))

-- the messages that were taken, in order
abbrev pub sent_in : List Told → List Sent
sent_in [] = []
sent_in (took reader b claims ∷ told) = record { body = b; claims = claims } ∷ sent_in told
sent_in (heard reader b key sig verdict ∷ told) = sent_in told

-- each verdict is yes
abbrev pub SaysYes : Told → Type 0
SaysYes (took reader b claims) = Unit {0}
SaysYes (heard reader b key sig verdict) = verdict ≡ true

-- The journal took these messages, in order, each once no question was open. Each verdict was given to a question that was open, and is
-- yes; and no question is open at the end.
pub record AreRetold (sent : List Sent) (whole : List Told) : Type 0 where
  pub takes : sent_in whole ≡ sent
  pub waited : (earlier later : List Told) (reader : ℕ) (b : Body) (claims : List Claim) → whole ≡ earlier ++ took reader b claims ∷ later
      → questions Full [] earlier ≡ []
  pub regular : IsRegular Full [] whole
  pub none_open : questions Full [] whole ≡ []
  pub all_yes : All SaysYes whole

-- a journal that is told the export accepts its events, in their order, and so has the same live events of each identifier
pub record IsCopy (family : List Prefix) (told whole : List Told) : Type 0 where
  pub same : accepted Full [] whole ≡ exported family (accepted Full [] told)
  pub live_events : (p : Prefix) → Contains family p → live (accepted Full [] whole) p ≡ live (accepted Full [] told) p

-- EXPORT
abbrev pub ExportLaw : Type 0
ExportLaw = (told whole : List Told) (first : Prefix) (family : List Prefix) → IsRegular Full [] told → HasNoClash (accepted Full [] told)
    → IsFamily (accepted Full [] told) first family → AreRetold (export told family) whole → IsCopy family told whole

-- SIGNED: where an accepted event's own threshold wants a signature, each of its messages has one of the controller
abbrev pub SignedLaw : Type 0
SignedLaw = (told : List Told) (b : Body) (m : Sent) → let log = accepted Full [] told in let rules = rules_under log b in
    Contains log b → satisfied rules.kt (length rules.keys) [] ≡ false → Contains (messages_of told log b) m
    → list_any is_held m.claims ≡ true
