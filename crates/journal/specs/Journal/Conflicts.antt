-- Signed bodies of one place that differ (KERI, duplicity).
use Rattle.std.specs.Prelude.{◌≡◌, ℕ, ◌≤◌, Bool, ◌&&◌, not, List, [], ◌∷◌, length, filter, Option, Some, None, IsTrue, Contains, All, Any, AllPairs, if◌then◌else◌}
use Rattle.std.specs.declared.cmp.Ordering.{Ordering}
use Rattle.std.specs.declared.cmp.Ordering.TheVariants.{Less}
use Rattle.std.specs.Ordering.{nat_cmp, ordering_then, is_eq}
use Rattle.std.specs.Cmp.Lexicographic.{slice_cmp}
use Rattle.cesr_codes.specs.declared.digest.Digest.{Digest}
use Rattle.cesr_codes.specs.Spelling.{prefix_text, digest_text}
use Rattle.journal.specs.declared.journal.mode.Mode.{Mode}
use Rattle.event_body.specs.EventBody.Events.{prefix_of, sn_of, prior_of, is_receipt, is_interaction}
use Rattle.journal.specs.Journal.Logs.{Body, same_body, stands}
use Rattle.journal.specs.Journal.History.{Told, bodies}
use Rattle.journal.specs.Journal.Readiness.{signed}
use Rattle.journal.specs.Journal.Accepted.{accepted}
use Rattle.journal.specs.Journal.Questions.{state_before}

-- the order of texts by their bytes
abbrev pub text_cmp : List ℕ → List ℕ → Ordering
text_cmp = slice_cmp nat_cmp

-- the characters of a digest, and none where there is none
abbrev pub prior_text : Option Digest → List ℕ
prior_text None = []
prior_text (Some d) = digest_text d

-- 0 for an establishment event, 1 for an interaction
abbrev pub sort_of : Body → ℕ
sort_of b = if is_interaction b.event then 1 else 0

-- the order of places: by identifier text, number, `p` (none first), and sort (establishment first)
unfoldable pub place_cmp : Body → Body → Ordering
place_cmp b c = ordering_then (text_cmp (prefix_text (prefix_of b.event)) (prefix_text (prefix_of c.event)))
    (ordering_then (nat_cmp (sn_of b.event) (sn_of c.event))
    (ordering_then (text_cmp (prior_text (prior_of b.event)) (prior_text (prior_of c.event)))
    (nat_cmp (sort_of b) (sort_of c))))

-- the bodies are of one place and differ
abbrev pub are_rivals : Body → Body → Bool
are_rivals b c = is_eq (place_cmp b c) && not (same_body b c)

-- a body counts where it stands and is signed under the state after its predecessor, an inception under itself
unfoldable pub counts : List Told → List Body → Body → Bool
counts told log b = not (is_receipt b.event) && stands log b && signed told (state_before log b) b

-- the bodies that count, in order of first coming
abbrev pub counted : Mode → List Body → List Told → List Body
counted mode base told = filter (counts told (accepted mode base told)) (bodies base told)

-- the first set's place comes before the second's
abbrev pub HeadsRise : List Body → List Body → Type 0
HeadsRise [] _ = ⊥
HeadsRise (b ∷ _) [] = ⊥
HeadsRise (b ∷ _) (c ∷ _) = place_cmp b c ≡ Less

-- the sets of rivals among bodies, in order of places, each in byte order
pub record AreConflicts (among : List Body) (sets : List (List Body)) : Type 0 where
  pub sets_rise : AllPairs HeadsRise sets
  pub bodies_rise : All (AllPairs (λ b c. text_cmp b.bytes c.bytes ≡ Less)) sets
  pub only_rivals : All (AllPairs (λ b c. IsTrue (are_rivals b c))) sets
  pub two_or_more : All (λ set. 2 ≤ length set) sets
  pub only_counted : (b : Body) → Any (λ set. Contains set b) sets → Contains among b
  pub every_pair : (b c : Body) → Contains among b → Contains among c → IsTrue (are_rivals b c)
      → Any (λ set. Contains set b × Contains set c) sets

-- the conflicts of a journal
abbrev pub IsConflictList : Mode → List Body → List Told → List (List Body) → Type 0
IsConflictList mode base told sets = AreConflicts (counted mode base told) sets
