-- What a core was told, each entry with its whole body, so that no definition speaks of a body's number.
use Rattle.std.specs.Prelude.{ℕ, Bool, ◌&&◌, ◌||◌, ◌==◌, List, [], ◌∷◌, ◌++◌, slice_get, flat_map, bytes_eq, Option, Some, None, option_map, if◌then◌else◌}
use Rattle.std.specs.List.{list_any}
use Rattle.cesr_codes.specs.declared.key.Key.{Key}
use Rattle.cesr_codes.specs.declared.sig.Sig.{Sig}
use Rattle.journal.specs.declared.journal.claim.Claim.{Claim}
use Rattle.journal.specs.declared.journal.claim.Claim.TheVariants.{Controller, Witness, Couple}
use Rattle.key_state.specs.Same.{same_key, same_sig, same_digest, same_prefix, has_key, distinct}
use Rattle.event_body.specs.EventBody.Events.{prefix_of, sn_of, said_of, is_receipt}
use Rattle.key_state.specs.Exposure.{Rules}
use Rattle.journal.specs.Journal.Logs.{Body, same_body}

-- an entry: a body came with its claims, or a verifier said yes or no of a signature on a body
pub data Told : Type 0 where
  took : ℕ → Body → List Claim → Told
  heard : ℕ → Body → Key → Sig → Bool → Told

-- the body that came with an entry
abbrev pub taken : Told → List Body
taken (took reader b claims) = b ∷ []
taken (heard reader b key sig verdict) = []

-- the bodies of the base and of the entries, in order of first coming
unfoldable pub bodies : List Body → List Told → List Body
bodies base told = distinct same_body (base ++ flat_map taken told)

-- the first is a receipt for the second: it names its digest, identifier and number (KERI, rct)
abbrev pub is_receipt_for : Body → Body → Bool
is_receipt_for r b = is_receipt r.event && same_digest (said_of r.event) (said_of b.event)
    && same_prefix (prefix_of r.event) (prefix_of b.event) && (sn_of r.event == sn_of b.event)

-- the claims of an entry that stand on the body
abbrev pub claims_in : Body → Told → List Claim
claims_in b (took reader c claims) = if same_body c b || is_receipt_for c b then claims else []
claims_in b (heard reader c key sig verdict) = []

-- the claims on a body, those that came with it and those of its receipts, in order of coming
unfoldable pub claims_on : List Told → Body → List Claim
claims_on told b = flat_map (claims_in b) told

-- a signature of a key on a body, the body by its bytes
pub record Triple : Type 0 where
  pub body : List ℕ
  pub key : Key
  pub sig : Sig

-- the same body, key and signature
abbrev pub same_triple : Triple → Triple → Bool
same_triple t u = bytes_eq t.body u.body && same_key t.key u.key && same_sig t.sig u.sig

-- the key of a claim: by its index among the signing keys or the witnesses, or its own where it is a witness
abbrev pub claimed_key : Rules → Claim → Option Key
claimed_key rules (Controller s) = slice_get rules.keys s.index
claimed_key rules (Witness s) = slice_get rules.witnesses s.index
claimed_key rules (Couple key sig) = if has_key rules.witnesses key then Some key else None

-- the signature of a claim
abbrev pub claimed_sig : Claim → Sig
claimed_sig (Controller s) = s.sig
claimed_sig (Witness s) = s.sig
claimed_sig (Couple key sig) = sig

-- the triple of a claim on a body under the rules, where its key is found
abbrev pub triple_of : Rules → Body → Claim → Option Triple
triple_of rules b claim = option_map (λ k. record { body = b.bytes; key = k; sig = claimed_sig claim }) (claimed_key rules claim)

-- the triple of a verdict
abbrev pub heard_in : Told → List Triple
heard_in (took reader b claims) = []
heard_in (heard reader b key sig verdict) = record { body = b.bytes; key = key; sig = sig } ∷ []

-- the triple of a verdict that is yes
abbrev pub yes_in : Told → List Triple
yes_in (took reader b claims) = []
yes_in (heard reader b key sig verdict) = if verdict then record { body = b.bytes; key = key; sig = sig } ∷ [] else []

-- the triple of a verdict that is no
abbrev pub no_in : Told → List Triple
no_in (took reader b claims) = []
no_in (heard reader b key sig verdict) = if verdict then [] else record { body = b.bytes; key = key; sig = sig } ∷ []

-- a verdict says yes of the triple
unfoldable pub said_yes : List Told → Triple → Bool
said_yes told t = list_any (same_triple t) (flat_map yes_in told)

-- the triple has a verdict
unfoldable pub has_verdict : List Told → Triple → Bool
has_verdict told t = list_any (same_triple t) (flat_map heard_in told)
