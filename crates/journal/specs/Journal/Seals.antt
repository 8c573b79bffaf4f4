-- Event seals among the values of an event (KERI, the field a), and delegation.
use Rattle.std.specs.Prelude.{ℕ, Bool, false, ◌&&◌, ◌||◌, not, List, [], ◌∷◌, codes, bytes_eq, Option, Some, None}
use Rattle.std.specs.List.{list_any}
use Rattle.std.specs.Fmt.{digits}
use Rattle.cesr_codes.specs.declared.prefix.Prefix.{Prefix}
use Rattle.cesr_codes.specs.Spelling.{prefix_text, digest_text}
use Rattle.json_tree.specs.declared.tree.Tree.{Tree, Str, Object', Row_of-Member, end_of-Member, more_of-Member}
use Rattle.event_body.specs.declared.event_body.event.Event.{Event}
use Rattle.event_body.specs.declared.event_body.event.Event.TheVariants.{Icp, Dip, Drt}
use Rattle.key_state.specs.States.{State}
use Rattle.key_state.specs.Same.{has_text}
use Rattle.event_body.specs.EventBody.Events.{prefix_of, sn_of, said_of, anchors_of, is_delegated}
use Rattle.journal.specs.Journal.Logs.{Body, is_of}

-- the names and values of an object's members
pub record Named : Type 0 where
  pub name : List ℕ
  pub value : Tree

abbrev pub named_values : {m : _} → Row_of-Member m → List Named
named_values end_of-Member = []
named_values (more_of-Member name value rest) = record { name = name; value = value } ∷ named_values rest

-- the members of an object, and nothing of another value
abbrev pub members_of : Tree → List Named
members_of (Object' shape all) = named_values all
members_of _ = []

-- the member is a string of this name and text
abbrev pub is_string : List ℕ → List ℕ → Named → Bool
is_string name text m = bytes_eq m.name name && is_text m.value
  where
    is_text : Tree → Bool
    is_text (Str t) = bytes_eq t text
    is_text _ = false

-- the members are exactly i, s and d, and spell the event's identifier, number and digest
abbrev pub are_seal : Event → List Named → Bool
are_seal e (i ∷ s ∷ d ∷ []) = is_string (codes "i") (prefix_text (prefix_of e)) i
    && is_string (codes "s") (digits 16 false (sn_of e)) s && is_string (codes "d") (digest_text (said_of e)) d
are_seal e _ = false

-- an event holds the event seal of another
unfoldable pub seals : Event → Event → Bool
seals holder e = list_any (λ t. are_seal e (members_of t)) (anchors_of holder)

-- the inception has a trait
abbrev pub has_trait : List ℕ → Event → Bool
has_trait name (Icp e) = has_text e.traits name
has_trait name (Dip e) = has_text e.traits name
has_trait name _ = false

-- the delegator of a delegated event: its own of a dip, that of the state for a drt
abbrev pub delegator_of : Option State → Event → Option Prefix
delegator_of s (Dip e) = e.delegator
delegator_of (Some s) (Drt e) = s.delegator
delegator_of s _ = None

-- an accepted event of the delegator, superseded or not, holds the seal
abbrev pub is_sealed : List Body → Prefix → Event → Bool
is_sealed accepted d e = list_any (λ c. is_of d c && seals c.event e) accepted

-- the delegator's accepted inception forbids delegation (the trait DND)
abbrev pub forbids : List Body → Prefix → Bool
forbids accepted d = list_any (λ c. is_of d c && has_trait (codes "DND") c.event) accepted

-- a delegated event is sealed by a delegator that allows it; every other event needs no seal (KERI, delegation)
unfoldable pub anchored : List Body → Option State → Event → Bool
anchored accepted s e = not (is_delegated e) || by (delegator_of s e)
  where
    by : Option Prefix → Bool
    by None = false
    by (Some d) = is_sealed accepted d e && not (forbids accepted d)
