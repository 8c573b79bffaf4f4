-- Event seals as values: they are JSON, and seals by their definition.
use Rattle.std.proofs.Common.{◌≡◌, ℕ, ◌<◌, ◌^◌, true, false, List, [], ◌∷◌, codes, refl, ap, ◌∙◌}
use Rattle.std.specs.Prelude.{bytes_eq}
use Rattle.std.specs.Fmt.{digits}
use Rattle.std.specs.Cmp.Lexicographic.{bytes_decides}
use Rattle.cesr_codes.specs.Spelling.{prefix_text, digest_text}
use Rattle.json_tree.specs.Spelling.{IsJson}
use Rattle.json_tree.proofs.Trees.{IsJson-from_object}
use Rattle.sith.proofs.Numerals.{hex_is}
use Rattle.sith.proofs.Plain.{number_string, plain_string}
use Rattle.event_body.proofs.BodyFieldsLemmas.Plain.{digest_string, prefix_string}
use Rattle.event_body.specs.declared.event_body.event.Event.{Event}
use Rattle.event_body.specs.EventBody.Events.{prefix_of, sn_of, said_of}
use Rattle.key_state.specs.States.{State}
use Rattle.journal.specs.Journal.Seals.{are_seal, members_of, seals}
use Rattle.event_backing.specs.Texts.{seal_members}
use Rattle.event_backing.proofs.SealMembers.{members_of-object}
use Rattle.controller_core.specs.declared.controller_core.plan.Plan.{Plan}
use Rattle.controller_core.specs.ControllerCore.Plans.{string_member, seal_of, interaction, sealed, sealed_delegation}

pub seal_json : (e : Event) → sn_of e < 2 ^ 64 → IsJson (seal_of e)
unfolding seal_of
seal_json e few = IsJson-from_object (string_member (codes "i") (prefix_text (prefix_of e)) ∷ string_member (codes "s") (digits 16 false (sn_of e)) ∷ string_member (codes "d") (digest_text (said_of e)) ∷ [])
    ((plain_string (codes "i") refl, prefix_string (prefix_of e)), ((plain_string (codes "s") refl, number_string (digits 16 false (sn_of e)) (hex_is (sn_of e) few).0), ((plain_string (codes "d") refl, digest_string (said_of e)), tt)))

itself : (text : List ℕ) → bytes_eq text text ≡ true
itself text = (bytes_decides text text).1 refl

-- the members of a seal
seal_members_are : (e : Event) → members_of (seal_of e) ≡ seal_members (prefix_text (prefix_of e)) (digits 16 false (sn_of e)) (digest_text (said_of e))
unfolding seal_of
seal_members_are e = members_of-object (string_member (codes "i") (prefix_text (prefix_of e)) ∷ string_member (codes "s") (digits 16 false (sn_of e)) ∷ string_member (codes "d") (digest_text (said_of e)) ∷ [])

seal_is : (e : Event) → are_seal e (members_of (seal_of e)) ≡ true
seal_is e = ap (are_seal e) (seal_members_are e) ∙ rw (itself (prefix_text (prefix_of e)), itself (digits 16 false (sn_of e)), itself (digest_text (said_of e))) refl

-- a sealing interaction holds the seal
pub holds_seal : (s : State) (e : Event) (plan : Plan) → seals (sealed_delegation s e plan) e ≡ true
unfolding seals interaction sealed
holds_seal s e plan = rw (seal_is e) refl
