-- What the rows of a table of claims say of what a core was told.
use Rattle.std.specs.Prelude.{◌≡◌, ℕ, Bool, true, false, ◌==◌, List, [], ◌∷◌, length, map, filter, slice_get, Option, Some, None, if◌then◌else◌}
use Rattle.cesr_codes.specs.declared.key.Key.{Key}
use Rattle.cesr_codes.specs.declared.sig.Sig.{Sig}
use Rattle.event_body.specs.declared.event_body.event.Event.{Event}
use Rattle.key_state.specs.Exposure.{own_rules}
use Rattle.key_state.specs.Same.{are_witnesses}
use Rattle.key_state.specs.States.{State}
use Rattle.journal.specs.declared.journal.body.Body.{Body}
use Rattle.journal.specs.Journal.Logs.{stands}
use Rattle.journal.specs.Journal.History.{Told, Triple, claimed_sig, claims_on, said_yes, has_verdict}
use Rattle.journal.specs.Journal.Questions.{state_before}
use Rattle.journal.specs.EventRules.Parts.{Part, index, reveal, backer, Row as Found, brings_all}
use Rattle.claim_table.specs.CoreLaws.Claimed.{rows_of}
use Rattle.claim_table.specs.declared.claim_table.claimed.Claimed.{Claimed}
use Rattle.claim_table.specs.declared.claim_table.part.Part.{Part as TablePart}
use Rattle.claim_table.specs.declared.claim_table.part.Part.TheVariants.{Indexed, Revealed, Backed}
use Rattle.claim_table.specs.declared.claim_table.row.Row.{Row}
use Rattle.claim_table.specs.ClaimTable.Parts.{brings_part}
use Rattle.claim_table.specs.ClaimTable.Rows.{DoAgree}
use Rattle.claim_table.specs.ClaimTable.Rows.{verdict_of}
use Rattle.claim_table.specs.ClaimTable.Table.{AreBelow}

-- a part as the table names it
abbrev pub part_of : TablePart → Part
part_of (Indexed n) = index n
part_of (Revealed n) = reveal n
part_of (Backed n) = backer n

-- the claims on a body whose keys are found, each with its key, where it stands in the log
unfoldable pub found_on : List Told → List Body → Body → List Found
found_on told log b = if stands log b then rows_of (own_rules (state_before log b) b.event) (claims_on told b) else []

-- the table's claim on the body of a number is a claim on its event behind a state, and has what that adds
pub record IsFound (n : ℕ) (s : Option State) (e : Event) (f : Found) (c : Claimed) : Type 0 where
  pub body : c.body ≡ n
  pub key : c.key ≡ f.key
  pub sig : c.sig ≡ claimed_sig f.claim
  pub parts : are_witnesses (own_rules s e).witnesses ≡ true → (p : TablePart) → brings_part c.parts p ≡ brings_all s e f (part_of p)

abbrev pub AreFound : ℕ → Option State → Event → List Found → List Claimed → Type 0
AreFound n s e [] [] = Unit {0}
AreFound n s e [] (c ∷ cs) = ⊥
AreFound n s e (f ∷ fs) [] = ⊥
AreFound n s e (f ∷ fs) (c ∷ cs) = IsFound n s e f c × AreFound n s e fs cs

-- the claims on the body of a number in a table
unfoldable pub claimed_at : ℕ → List Row → List Claimed
claimed_at n rows = filter (λ c. c.body == n) (map (λ r. r.claimed) rows)

-- a key's signature on a body
abbrev pub triple_on : Body → Key → Sig → Triple
triple_on b key sig = record { body = b.bytes; key = key; sig = sig }

-- the verdict that was heard on a triple, where one was
unfoldable pub verdict_in : List Told → Triple → Option Bool
verdict_in told t = if said_yes told t then Some true else (if has_verdict told t then Some false else None)

-- A table has of each body that is held these claims behind a state, and these verdicts
pub record HasClaims (behind : Body → Option State) (found : ℕ → Body → List Found) (heard : Triple → Option Bool) (held : List Body) (rows : List Row) : Type 0 where
  pub claims : (n : ℕ) (b : Body) → slice_get held n ≡ Some b → AreFound n (behind b) b.event (found n b) (claimed_at n rows)
  pub verdicts : (n : ℕ) (b : Body) (key : Key) (sig : Sig) → slice_get held n ≡ Some b
      → verdict_of rows (record { body = n; key = key; sig = sig }) ≡ heard (triple_on b key sig)
  pub agree : DoAgree rows
  pub below : AreBelow (length held) rows

-- A table has the claims on each body that stands in the log, and the verdicts that were heard
abbrev pub AreClaims : List Told → List Body → List Body → List Row → Type 0
AreClaims told log held rows = HasClaims (state_before log) (λ n b. found_on told log b) (verdict_in told) held rows
