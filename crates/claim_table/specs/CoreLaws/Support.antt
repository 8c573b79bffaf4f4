-- A set that has just the parts of a body decides of it, and what changes the parts of a body.
use Rattle.std.specs.Prelude.{◌≡◌, ℕ, Bool, true, ◌&&◌, ◌||◌, not, List, [], ◌∷◌, ◌++◌, length, slice_get, Option, Some, IsTrue}
use Rattle.cesr_codes.specs.declared.key.Key.{Key}
use Rattle.cesr_codes.specs.declared.sig.Sig.{Sig}
use Rattle.event_body.specs.EventBody.Events.{prefix_of, is_receipt, is_inception}
use Rattle.sith.specs.Rules.{IsReadFor}
use Rattle.key_state.specs.Exposure.{Rules, own_rules}
use Rattle.key_state.specs.Same.{same_key, same_sig, are_witnesses}
use Rattle.key_state.specs.States.{State}
use Rattle.journal.specs.declared.journal.body.Body.{Body}
use Rattle.journal.specs.declared.journal.claim.Claim.{Claim}
use Rattle.journal.specs.declared.journal.mode.Mode.{Mode}
use Rattle.journal.specs.Journal.Logs.{is_in, same_body, state, takes, predecessor}
use Rattle.journal.specs.Journal.Seals.{anchored}
use Rattle.journal.specs.Journal.History.{Told, took, heard, claims_in, claims_on}
use Rattle.journal.specs.Journal.Questions.{state_before}
use Rattle.journal.specs.Journal.Readiness.{is_ready, is_local, is_backed, signed}
use Rattle.journal.specs.EventRules.Claims.{is_so}
use Rattle.journal.specs.EventRules.Parts.{Part, index, reveal, backer, has_backed, has_signed, parts_in, says_of, supports}
use Rattle.claim_table.specs.CoreLaws.Alike.{AreAlike}

-- the event's own threshold is one of so many keys, and its witnesses stand once
pub record AreSound (rules : Rules) : Type 0 where
  pub kt_read : IsReadFor rules.kt (length rules.keys)
  pub witnesses : IsTrue (are_witnesses rules.witnesses)

-- ENOUGH: a set with just the parts of a body tells whether the body is signed, and whether it is backed
abbrev pub SupportLaw : Type 0
SupportLaw = (told : List Told) (s : Option State) (b : Body) (has : Part → Bool) → AreSound (own_rules s b.event)
    → ((p : Part) → has p ≡ supports told s b p)
    → (signed told s b ≡ has_signed has s b.event) × (is_backed told s b ≡ has_backed has (own_rules s b.event))

-- READY: and so it tells, under the current state, whether the body is ready
abbrev pub ready_by : Mode → (Part → Bool) → List Body → Body → Bool
ready_by mode has log b = not (is_receipt b.event) && not (is_in log b)
    && (let s = state log (prefix_of b.event) in
    takes s b.event && has_signed has s b.event && (is_local mode || (has_backed has (own_rules s b.event) && anchored log s b.event)))

abbrev pub ReadyLaw : Type 0
ReadyLaw = (mode : Mode) (told : List Told) (log : List Body) (b : Body) (has : Part → Bool)
    → let s = state log (prefix_of b.event) in AreSound (own_rules s b.event) → ((p : Part) → has p ≡ supports told s b p)
    → is_ready mode told log b ≡ ready_by mode has log b

-- CLAIMS: a body that comes adds the parts of its claims that stand on the body, by the verdicts that were heard before
abbrev pub ClaimsLaw : Type 0
ClaimsLaw = (told : List Told) (s : Option State) (b : Body) (reader : ℕ) (c : Body) (claims : List Claim) (p : Part)
    → supports (told ++ took reader c claims ∷ []) s b p
    ≡ (supports told s b p || parts_in (says_of told b) s b.event (claims_in b (took reader c claims)) p)

-- the parts that a yes of a key's signature brings: of all claims with that key and signature, and of the witnesses that
-- have the key, whatever the claim
abbrev pub parts_of_yes : List Told → Option State → Body → Key → Sig → Part → Bool
parts_of_yes told s b key sig (index n) = parts_in (λ k g. same_key k key && same_sig g sig) s b.event (claims_on told b) (index n)
parts_of_yes told s b key sig (reveal n) = parts_in (λ k g. same_key k key && same_sig g sig) s b.event (claims_on told b) (reveal n)
parts_of_yes told s b key sig (backer n) = is_so (same_key key) (slice_get (own_rules s b.event).witnesses n)

-- VERDICT: a verdict adds parts where it is a yes on this body
abbrev pub VerdictLaw : Type 0
VerdictLaw = (told : List Told) (s : Option State) (b : Body) (reader : ℕ) (c : Body) (key : Key) (sig : Sig) (verdict : Bool) (p : Part)
    → supports (told ++ heard reader c key sig verdict ∷ []) s b p
    ≡ (supports told s b p || (verdict && same_body c b && parts_of_yes told s b key sig p))

-- ACCEPTED: one more event leaves the parts of an inception, and of a body that has its predecessor
abbrev pub KeptLaw : Type 0
KeptLaw = (told : List Told) (log : List Body) (c b x : Body) (p : Part) → predecessor log b ≡ Some x
    → supports told (state_before (log ++ c ∷ []) b) b p ≡ supports told (state_before log b) b p

abbrev pub InceptionLaw : Type 0
InceptionLaw = (told : List Told) (s t : Option State) (b : Body) (p : Part) → is_inception b.event ≡ true
    → supports told s b p ≡ supports told t b p

-- ALIKE: states that differ in their live events alone give the same parts
abbrev pub AlikeLaw : Type 0
AlikeLaw = (told : List Told) (s t : State) (b : Body) (p : Part) → AreAlike s t
    → supports told (Some s) b p ≡ supports told (Some t) b p
