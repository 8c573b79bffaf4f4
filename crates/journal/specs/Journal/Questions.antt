-- Which signatures are to be verified, and what becomes of a verdict.
use Rattle.std.specs.Prelude.{◌≡◌, ℕ, ◌%◌, Bool, not, List, [], ◌∷◌, ◌++◌, length, filter, filter_map, flat_map, slice_get, Option, Some, IsTrue, if◌then◌else◌}
use Rattle.std.specs.List.{list_any}
use Rattle.cesr_codes.specs.declared.key.Key.{Key}
use Rattle.cesr_codes.specs.declared.sig.Sig.{Sig}
use Rattle.key_state.specs.States.{State}
use Rattle.journal.specs.declared.journal.mode.Mode.{Mode}
use Rattle.journal.specs.declared.journal.question.Noted.{Noted}
use Rattle.journal.specs.declared.journal.question.Noted.TheVariants.{New, Known, Unasked}
use Rattle.key_state.specs.Same.{distinct}
use Rattle.key_state.specs.Exposure.{own_rules}
use Rattle.journal.specs.Journal.Logs.{Body, predecessor, state_behind, stands}
use Rattle.journal.specs.Journal.History.{Told, took, heard, Triple, same_triple, triple_of, claims_on, bodies, has_verdict}
use Rattle.journal.specs.Journal.Accepted.{accepted}

-- the state that the body follows, where its predecessor is accepted
abbrev pub state_before : List Body → Body → Option State
state_before log b = state_behind log (predecessor log b)

-- the triples that a body raises: those of its claims, where it stands in the log
unfoldable pub raised_by : List Told → List Body → Body → List Triple
raised_by told log b =
    if stands log b then filter_map (triple_of (own_rules (state_before log b) b.event) b) (claims_on told b) else []

-- the triples that the journal raises, by body, then by first coming of the claim, each once
unfoldable pub raised : Mode → List Body → List Told → List Triple
raised mode base told = distinct same_triple (flat_map (raised_by told (accepted mode base told)) (bodies base told))

-- the questions that are open: the raised triples without a verdict
unfoldable pub questions : Mode → List Body → List Told → List Triple
questions mode base told = filter (λ t. not (has_verdict told t)) (raised mode base told)

-- the open question of a number modulo their count
unfoldable pub next_question : Mode → List Body → List Told → ℕ → Option Triple
next_question mode base told skip = slice_get (questions mode base told) (skip % length (questions mode base told))

-- what becomes of a verdict on a triple
unfoldable pub noted : Mode → List Body → List Told → Triple → Noted
noted mode base told t =
    if list_any (same_triple t) (raised mode base told) then (if has_verdict told t then Known else New) else Unasked

-- each verdict was given to a question that was open just before it
abbrev pub IsRegular : Mode → List Body → List Told → Type 0
IsRegular mode base told = (earlier later : List Told) (reader : ℕ) (b : Body) (key : Key) (sig : Sig) (verdict : Bool)
    → told ≡ earlier ++ heard reader b key sig verdict ∷ later
    → IsTrue (list_any (same_triple (record { body = b.bytes; key = key; sig = sig })) (questions mode base earlier))

-- a message comes next once no question is open, and a verdict where it is on the first open question
abbrev pub ComesNext : Mode → List Told → Told → Type 0
ComesNext mode earlier (took reader b claims) = questions mode [] earlier ≡ []
ComesNext mode earlier (heard reader b key sig verdict) = slice_get (questions mode [] earlier) 0 ≡ Some (record { body = b.bytes; key = key; sig = sig })

-- IN STEP: each entry was the next one
abbrev pub IsInStep : Mode → List Told → Type 0
IsInStep mode told = (earlier later : List Told) (t : Told) → told ≡ earlier ++ t ∷ later → ComesNext mode earlier t
