-- What becomes of a message.
use Rattle.std.specs.Prelude.{◌+◌, Bool, true, false, ◌&&◌, ◌||◌, ◌==◌, not, nat_le, nat_lt, List, [], ◌∷◌, length, map, sum_by, flat_map, Option, Some, if◌then◌else◌, Result, Ok, Err, ◌≤◌}
use Rattle.std.specs.List.{list_any, list_all}
use Rattle.std.specs.Option.{option_eq}
use Rattle.cesr_codes.specs.declared.indexed_sig.IndexedSig.{IndexedSig}
use Rattle.event_body.specs.declared.event_body.event.Event.{Event}
use Rattle.event_body.specs.declared.event_body.body_fault.BodyFault.{BodyFault}
use Rattle.cesr_stream.specs.declared.group.Group.{Group}
use Rattle.cesr_stream.specs.declared.group.Group.TheVariants.{Controller as ControllerGroup, Witness as WitnessGroup, Couples, FirstSeen, Anchor}
use Rattle.cesr_stream.specs.declared.message.Message.{Message}
use Rattle.keri_outside.specs.declared.limits.Limits.{Limits}
use Rattle.journal.specs.declared.journal.claim.Claim.{Claim}
use Rattle.journal.specs.declared.journal.claim.Claim.TheVariants.{Controller, Witness, Couple}
use Rattle.journal.specs.declared.journal.reply.Reason.{Reason}
use Rattle.journal.specs.declared.journal.reply.Reason.TheVariants.{Body as BodyReason, Unsigned, WrongGroup, DigestOnly, TooManySigs}
use Rattle.journal.specs.declared.journal.reply.Reply.{Reply}
use Rattle.journal.specs.declared.journal.reply.Reply.TheVariants.{Taken, Again, LimitReached}
use Rattle.key_state.specs.Same.{same_key, same_sig}
use Rattle.event_body.specs.EventBody.Events.{is_receipt}
use Rattle.key_state.specs.KeyStates.{first_true}
use Rattle.journal.specs.Journal.Logs.{Body, same_body, is_in}
use Rattle.journal.specs.Journal.History.{Told, took, heard, bodies, taken}

-- the claims of a group: the controller's, the witnesses', and the receipts by other keys (-A, -B, -C)
abbrev pub claims_of_group : Group → List Claim
claims_of_group (ControllerGroup sigs) = map (λ s. Controller s) sigs
claims_of_group (WitnessGroup sigs) = map (λ s. Witness s) sigs
claims_of_group (Couples couples) = map (λ c. Couple c.key c.sig) couples
claims_of_group (FirstSeen seen) = []
claims_of_group (Anchor couples) = []

-- the claims of a message, in order
abbrev pub claims_of : Message → List Claim
claims_of m = flat_map claims_of_group m.groups

-- it is a claim of the controller
abbrev pub is_held : Claim → Bool
is_held (Controller s) = true
is_held (Witness s) = false
is_held (Couple key sig) = false

-- it is a group of the controller's signatures, also an empty one
abbrev pub is_held_group : Group → Bool
is_held_group (ControllerGroup sigs) = true
is_held_group (WitnessGroup sigs) = false
is_held_group (Couples couples) = false
is_held_group (FirstSeen seen) = false
is_held_group (Anchor couples) = false

-- what a good body and its groups are refused for
abbrev pub group_refusal : Message → Event → Option Reason
group_refusal m e = first_true (
    (is_receipt e && list_any is_held_group m.groups, WrongGroup)
    ∷ (is_receipt e && list_all is_held (claims_of m), DigestOnly)
    ∷ (not (is_receipt e) && not (list_any is_held (claims_of m)), Unsigned)
    ∷ [])

-- the first reason to refuse the message, by itself and by what reading its body gave
unfoldable pub refusal : Message → Result Event BodyFault → Option Reason
refusal m (Err fault) = Some (if m.excess then TooManySigs else BodyReason fault)
refusal m (Ok e) = if m.excess then Some TooManySigs else group_refusal m e

-- the indexed signatures are the same
abbrev pub same_indexed : IndexedSig → IndexedSig → Bool
same_indexed s t = same_flag s.big t.big && (s.index == t.index)
    && option_eq (λ i j. i == j) s.ondex t.ondex && same_sig s.sig t.sig
  where
    same_flag : Bool → Bool → Bool
    same_flag a b = if a then b else not b

-- the claims are the same
abbrev pub same_claim : Claim → Claim → Bool
same_claim (Controller s) (Controller t) = same_indexed s t
same_claim (Witness s) (Witness t) = same_indexed s t
same_claim (Couple k s) (Couple l t) = same_key k l && same_sig s t
same_claim _ _ = false

-- the claims that came with the very body
abbrev pub came_with : Body → Told → List Claim
came_with b (took reader c claims) = if same_body c b then claims else []
came_with b (heard reader c key sig verdict) = []

-- all the claims of an entry
abbrev pub all_claims : Told → List Claim
all_claims (took reader b claims) = claims
all_claims (heard reader b key sig verdict) = []

-- the journal has no room for the message: it has as many as it may, or its bodies or its claims would be too many
unfoldable pub is_full : Limits → List Body → List Told → Body → List Claim → Bool
is_full limits base told b claims =
    nat_le limits.messages (length (flat_map taken told))
    || (not (is_in (bodies base told) b)
    && nat_lt limits.body_bytes (sum_by (λ c. length c.bytes) (bodies base told) + length b.bytes))
    || nat_lt limits.signatures (length (flat_map all_claims told) + length claims)

-- the journal is within its limits: so many messages, bytes of distinct bodies, and claims were taken at most
pub record IsWithin (limits : Limits) (base : List Body) (told : List Told) : Type 0 where
  pub messages : length (flat_map taken told) ≤ limits.messages
  pub body_bytes : sum_by (λ b. length b.bytes) (bodies base told) ≤ limits.body_bytes
  pub signatures : length (flat_map all_claims told) ≤ limits.signatures

-- the body was held, and each claim came with it before
unfoldable pub is_again : List Body → List Told → Body → List Claim → Bool
is_again base told b claims = is_in (bodies base told) b
    && list_all (λ c. list_any (same_claim c) (flat_map (came_with b) told)) claims

-- the reply to a message that isn't refused
unfoldable pub reply_to : Limits → List Body → List Told → Body → List Claim → Reply
reply_to limits base told b claims =
    if is_full limits base told b claims then LimitReached else (if is_again base told b claims then Again else Taken)
