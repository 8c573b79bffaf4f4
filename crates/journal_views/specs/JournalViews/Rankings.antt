-- The order in which conflicts are shown (own: by place, then by bytes).
use Rattle.std.specs.Prelude.{ℕ, List, [], ◌∷◌, Option, Some, None, slice_get}
use Rattle.std.specs.declared.cmp.Ordering.{Ordering}
use Rattle.std.specs.Ordering.{nat_cmp, ordering_then}
use Rattle.std.specs.Cmp.Lexicographic.{slice_cmp}
use Rattle.event_body.specs.declared.event_body.event.Event.{Event}
use Rattle.event_body.specs.EventBody.Events.{prior_of, sn_of}
use Rattle.journal.specs.declared.journal.body.Body.{Body}
use Rattle.journal.specs.Journal.Conflicts.{place_cmp, prior_text, sort_of, text_cmp}

-- by place, then by bytes
abbrev pub body_cmp : Body → Body → Ordering
body_cmp b c = ordering_then (place_cmp b c) (text_cmp b.bytes c.bytes)

-- places are those of the events, whatever the bytes
abbrev pub of_event : Event → Body
of_event e = record { bytes = []; event = e }

abbrev pub event_cmp : Event → Event → Ordering
event_cmp d e = place_cmp (of_event d) (of_event e)

-- by the place in a log: by number, the text of the digest before, and establishment events before interactions
abbrev pub log_cmp : Event → Event → Ordering
log_cmp d e = ordering_then (nat_cmp (sn_of d) (sn_of e))
    (ordering_then (text_cmp (prior_text (prior_of d)) (prior_text (prior_of e))) (nat_cmp (sort_of (of_event d)) (sort_of (of_event e))))

-- what is there, as a list of one or none
abbrev pub listed : {X : Type 0} → Option X → List X
listed None = []
listed (Some x) = x ∷ []

-- numbers by the places of their events
abbrev pub number_place : List Event → ℕ → ℕ → Ordering
number_place events m n = slice_cmp event_cmp (listed (slice_get events m)) (listed (slice_get events n))

-- by place, then by bytes, and the numbers of one body by themselves
unfoldable pub number_cmp : List (List ℕ) → List Event → ℕ → ℕ → Ordering
number_cmp bodies events m n = ordering_then
    (ordering_then (number_place events m n) (slice_cmp text_cmp (listed (slice_get bodies m)) (listed (slice_get bodies n))))
    (nat_cmp m n)

-- the same, with the texts of the events' identifiers
unfoldable pub spelled_cmp : List (List ℕ) → List (List ℕ) → List Event → ℕ → ℕ → Ordering
spelled_cmp texts bodies events m n = ordering_then
    (ordering_then
    (ordering_then (slice_cmp text_cmp (listed (slice_get texts m)) (listed (slice_get texts n))) (slice_cmp log_cmp (listed (slice_get events m)) (listed (slice_get events n))))
    (slice_cmp text_cmp (listed (slice_get bodies m)) (listed (slice_get bodies n))))
    (nat_cmp m n)
