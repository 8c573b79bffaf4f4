-- Event seals by the identifier, number and digest that they name (KERI, event seals in the field a).
use Rattle.std.specs.Prelude.{◌≡◌, ℕ, ◌<◌, ◌^◌, Bool, true, ◌==◌, ◌&&◌}
use Rattle.cesr_codes.specs.declared.digest.Digest.{Digest}
use Rattle.cesr_codes.specs.declared.prefix.Prefix.{Prefix}
use Rattle.cesr_codes.specs.Spelling.{IsDigest, IsPrefix}
use Rattle.json_tree.specs.declared.tree.Tree.{Tree}
use Rattle.event_body.specs.declared.event_body.event.Event.{Event}
use Rattle.event_body.specs.declared.event_body.event.Event.TheVariants.{Rct}
use Rattle.key_state.specs.Same.{same_digest, same_prefix}
use Rattle.journal.specs.Journal.Seals.{are_seal, members_of, seals}
use Rattle.event_backing.specs.declared.event_seal.EventSeal.{EventSeal}

-- an event as a receipt names it: by its identifier, number and digest, which is all that a seal says of it
abbrev pub named : Prefix → ℕ → Digest → Event
named prefix sn said = Rct (record { said = said; prefix = prefix; sn = sn })

-- the value is the event seal of these
abbrev pub is_seal : Prefix → ℕ → Digest → Tree → Bool
is_seal prefix sn said value = are_seal (named prefix sn said) (members_of value)

-- an event holds the event seal of these
abbrev pub holds_seal : Event → Prefix → ℕ → Digest → Bool
holds_seal event prefix sn said = seals event (named prefix sn said)

-- the parts of an event seal are in their ranges: its number has at most 16 digits
pub record IsEventSeal (seal : EventSeal) : Type 0 where
  pub prefix : IsPrefix seal.prefix
  pub sn : seal.sn < 2 ^ 64
  pub said : IsDigest seal.said

-- the value is this event seal
abbrev pub Spells : EventSeal → Tree → Type 0
Spells seal value = is_seal seal.prefix seal.sn seal.said value ≡ true

-- the seal is that of these
abbrev pub names : Prefix → ℕ → Digest → EventSeal → Bool
names prefix sn said seal = same_prefix seal.prefix prefix && (seal.sn == sn) && same_digest seal.said said
