-- The signatures on a body, entry by entry, and by keys.
use Rattle.std.specs.Prelude.{◌≡◌, ℕ, Bool, false, ◌&&◌, ◌||◌, List, [], ◌∷◌, map, bytes_eq, Option, Some, None, if◌then◌else◌}
use Rattle.std.specs.BTreeMap.{get}
use Rattle.cesr_codes.specs.declared.key.Key.{Key}
use Rattle.cesr_codes.specs.declared.sig.Sig.{Sig}
use Rattle.event_body.specs.declared.event_body.event.Event.{Event}
use Rattle.journal.specs.declared.journal.body.Body.{Body}
use Rattle.journal.specs.Journal.History.{Told, took, heard, claimed_sig, claims_in, is_receipt_for}
use Rattle.journal.specs.Journal.Journals.{whole}
use Rattle.journal.specs.Journal.Logs.{same_body}
use Rattle.journal.specs.declared.journal.entry.Entry.{Entry}
use Rattle.blame_core.specs.BlameLaws.Signatures.{signature_of}
use Rattle.blame_core.specs.BlameCore.FirstSignatures.{at_place, key_cmp}
use Rattle.blame_core.specs.declared.blame_core.signatures.Signatures.{Signatures}
use Rattle.blame_core.specs.declared.blame_core.signed.Signed.{Signed}

-- the body, where there is one, has these bytes
abbrev pub is_body : List ℕ → Option Body → Bool
is_body text None = false
is_body text (Some c) = bytes_eq c.bytes text

-- the first event is a receipt for the second, whatever their bytes
abbrev pub is_receipt_of : Event → Event → Bool
is_receipt_of r e = is_receipt_for (record { bytes = []; event = r }) (record { bytes = []; event = e })

-- the body, where there is one, is this one or a receipt for it
abbrev pub bears_on : Body → Option Body → Bool
bears_on b None = false
bears_on b (Some c) = same_body c b || is_receipt_for c b

-- the signatures of an entry that stand on the body
abbrev pub came_with : Body → Option Told → List Sig
came_with b None = []
came_with b (Some t) = map claimed_sig (claims_in b t)

-- the signature of an entry that a verifier called good on these bytes
abbrev pub good_in : List ℕ → Option Told → List Signed
good_in text None = []
good_in text (Some (took reader c claims)) = []
good_in text (Some (heard reader c key sig verdict)) =
    if verdict && bytes_eq c.bytes text then record { key = key; sig = sig } ∷ [] else []

-- the same of the entry at a place, where there is one
abbrev pub came_at : List Body → Body → Option Entry → List Sig
came_at held b None = []
came_at held b (Some e) = came_with b (whole held e)

abbrev pub good_at : List Body → List ℕ → Option Entry → List Signed
good_at held text None = []
good_at held text (Some e) = good_in text (whole held e)

-- of a key the signature at the place that is noted for it
abbrev pub signature_by : Signatures → Key → Option Sig
signature_by s key = at_place s.came.items (get key_cmp s.firsts key)

-- of each key it is the first signature that came on the body and that a verifier called the key's
abbrev pub AreSignatures : List Told → Body → Signatures → Type 0
AreSignatures told b s = (key : Key) → signature_by s key ≡ signature_of told b key
