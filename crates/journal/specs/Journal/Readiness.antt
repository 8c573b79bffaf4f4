-- When a body may be accepted (KERI: signatures, pre-rotation, receipts, delegation).
use Rattle.std.specs.Prelude.{Bool, true, false, ◌&&◌, ◌||◌, not, nat_le, List, length, map, filter, filter_map, flat_map, bytes_eq, Option, Some, None}
use Rattle.std.specs.List.{list_any}
use Rattle.cesr_codes.specs.declared.key.Key.{Key}
use Rattle.cesr_codes.specs.declared.indexed_sig.IndexedSig.{IndexedSig}
use Rattle.event_body.specs.declared.event_body.event.Event.{Event}
use Rattle.key_state.specs.States.{State}
use Rattle.journal.specs.declared.journal.claim.Claim.{Claim}
use Rattle.journal.specs.declared.journal.claim.Claim.TheVariants.{Controller, Witness, Couple}
use Rattle.journal.specs.declared.journal.mode.Mode.{Mode}
use Rattle.journal.specs.declared.journal.mode.Mode.TheVariants.{Full, Local}
use Rattle.key_state.specs.Same.{same_key, distinct}
use Rattle.sith.specs.Tests.{satisfied}
use Rattle.event_body.specs.EventBody.Events.{prefix_of, is_rotation, is_receipt}
use Rattle.key_state.specs.Exposure.{own_rules, exposed}
use Rattle.journal.specs.Journal.Logs.{Body, is_in, state, takes}
use Rattle.journal.specs.Journal.Seals.{anchored}
use Rattle.journal.specs.Journal.History.{Told, Triple, claims_on, triple_of, said_yes, yes_in}

-- a verdict says yes of the triple, where there is one
abbrev pub yes_to : List Told → Option Triple → Bool
yes_to told None = false
yes_to told (Some t) = said_yes told t

-- the controller's signature of a claim
abbrev pub held_sig : Claim → Option IndexedSig
held_sig (Controller s) = Some s
held_sig (Witness s) = None
held_sig (Couple key sig) = None

-- the controller's signatures on a body with a yes verdict
unfoldable pub good_sigs : List Told → Option State → Body → List IndexedSig
good_sigs told s b = filter_map held_sig (filter (λ c. yes_to told (triple_of (own_rules s b.event) b c)) (claims_on told b))

-- the commitments that the signatures open meet the threshold of the state before (nt)
abbrev pub meets_next : Option State → Event → List IndexedSig → Bool
meets_next None e sigs = false
meets_next (Some s) e sigs = satisfied s.nt (length s.next) (exposed s e sigs)

-- the good signatures meet the signing threshold (kt)
abbrev pub meets_own : List Told → Option State → Body → Bool
meets_own told s b =
    satisfied (own_rules s b.event).kt (length (own_rules s b.event).keys) (map (λ g. g.index) (good_sigs told s b))

-- the good signatures of a rotation open what was committed to before; other events open nothing (KERI, pre-rotation)
abbrev pub meets_before : List Told → Option State → Body → Bool
meets_before told s b = not (is_rotation b.event) || meets_next s b.event (good_sigs told s b)

-- the body is signed under the state before it
unfoldable pub signed : List Told → Option State → Body → Bool
signed told s b = meets_own told s b && meets_before told s b

-- a verdict says yes of some signature of the key on the body
unfoldable pub backs : List Told → Body → Key → Bool
backs told b w = list_any (λ t. bytes_eq t.body b.bytes && same_key t.key w) (flat_map yes_in told)

-- the witnesses of a list that back the body, each once (KERI, receipts)
unfoldable pub backers : List Told → List Key → Body → List Key
backers told witnesses b = filter (backs told b) (distinct same_key witnesses)

-- so many distinct witnesses of its own list back the body as it wants (bt)
abbrev pub is_backed : List Told → Option State → Body → Bool
is_backed told s b = nat_le (own_rules s b.event).toad (length (backers told (own_rules s b.event).witnesses b))

-- witnesses and watchers wait for neither receipts nor seals
abbrev pub is_local : Mode → Bool
is_local Full = false
is_local Local = true

-- the body is an event that isn't accepted, fits its log, is signed, and in full mode is backed and anchored
unfoldable pub is_ready : Mode → List Told → List Body → Body → Bool
is_ready mode told accepted b = not (is_receipt b.event) && not (is_in accepted b)
    && (let s = state accepted (prefix_of b.event) in
    takes s b.event && signed told s b && (is_local mode || (is_backed told s b && anchored accepted s b.event)))
