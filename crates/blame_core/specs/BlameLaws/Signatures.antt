-- The signatures of a key on a body, in order of coming.
use Rattle.std.specs.Prelude.{◌≡◌, List, [], map, find, Option, Contains, is_some}
use Rattle.cesr_codes.specs.declared.key.Key.{Key}
use Rattle.cesr_codes.specs.declared.sig.Sig.{Sig}
use Rattle.journal.specs.declared.journal.body.Body.{Body}
use Rattle.journal.specs.declared.journal.mode.Mode.{Mode}
use Rattle.journal.specs.Journal.History.{Told, Triple, bodies, claimed_sig, claims_on, said_yes}
use Rattle.journal.specs.Journal.Questions.{IsRegular}
use Rattle.journal.specs.Journal.Readiness.{backs}

-- the key's signature on the body
abbrev pub triple_on : Body → Key → Sig → Triple
triple_on b key sig = record { body = b.bytes; key = key; sig = sig }

-- the signatures that came with the body and with the receipts for it, in order of coming
abbrev pub came_on : List Told → Body → List Sig
came_on told b = map claimed_sig (claims_on told b)

-- the first of them of which a verifier said that it is the key's on the body
abbrev pub signature_of : List Told → Body → Key → Option Sig
signature_of told b key = find (λ sig. said_yes told (triple_on b key sig)) (came_on told b)

-- CLAIMED: each verdict was asked of a claim, so a key that backs a body has such a signature, and no other key has one
abbrev pub ClaimedLaw : Type 0
ClaimedLaw = (mode : Mode) (told : List Told) (b : Body) (key : Key) → IsRegular mode [] told → Contains (bodies [] told) b
    → is_some (signature_of told b key) ≡ backs told b key
