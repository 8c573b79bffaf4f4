-- The report of a core: the events that it accepted, the state of each identifier, the events that wait, and the conflicts.
use Rattle.std.specs.Prelude.{◌≡◌, ℕ, ◌==◌, Bool, not, List, [], ◌∷◌, ◌++◌, length, map, filter, flat_map, Option, Some, None, is_some, if◌then◌else◌}
use Rattle.std.specs.declared.cmp.Ordering.{Ordering}
use Rattle.std.specs.Ordering.{nat_cmp, ordering_then}
use Rattle.std.specs.Cmp.Lexicographic.{slice_cmp}
use Rattle.std.specs.List.Sorted.{IsPermutation, IsSorted}
use Rattle.cesr_codes.specs.Spelling.{prefix_text}
use Rattle.cesr_codes.specs.declared.digest.Digest.{Digest}
use Rattle.cesr_codes.specs.declared.prefix.Prefix.{Prefix}
use Rattle.event_body.specs.EventBody.Events.{prefix_of, sn_of, said_of}
use Rattle.key_state.specs.Heads.{head_sn, head_said}
use Rattle.key_state.specs.Same.{same_prefix, distinct}
use Rattle.key_state.specs.States.{State}
use Rattle.journal.specs.Journal.Conflicts.{IsConflictList}
use Rattle.journal.specs.Journal.Logs.{is_in, is_of, live, state}
use Rattle.journal.specs.Journal.Waiting.{why_waits}
use Rattle.journal.specs.declared.journal.body.Body.{Body}
use Rattle.journal.specs.declared.journal.why.Why.{Why}
use Rattle.report_lines.specs.Lines.{accepted_text, conflict_text, state_text, waits_text}
use Rattle.report_lines.specs.declared.standing.Standing.{Standing}
use Rattle.report_lines.specs.declared.standing.Standing.TheVariants.{Live, Superseded}
use Rattle.validator_core.specs.ValidatorCore.View.{CoreView, base_of, told_of, accepted_by}

-- prefixes are ordered by their texts, byte by byte
abbrev pub prefix_cmp : Prefix → Prefix → Ordering
prefix_cmp p q = slice_cmp nat_cmp (prefix_text p) (prefix_text q)

-- bodies of one prefix are ordered by their numbers, then by their bytes
abbrev pub behind_cmp : Body → Body → Ordering
behind_cmp b c = ordering_then (nat_cmp (sn_of b.event) (sn_of c.event)) (slice_cmp nat_cmp b.bytes c.bytes)

-- bodies are ordered by their prefixes first
abbrev pub body_cmp : Body → Body → Ordering
body_cmp b c = ordering_then (prefix_cmp (prefix_of b.event) (prefix_of c.event)) (behind_cmp b c)

-- the text is the lines of each member of a list, in order
pub record IsListing {X : Type 0} (cmp : X → X → Ordering) (lines : X → List ℕ) (members : List X) (text : List ℕ) : Type 0 where
  pub ordered : List X
  pub has_members : IsPermutation members ordered
  pub sorted : IsSorted cmp ordered
  pub lines_are : text ≡ flat_map lines ordered

-- the prefixes of the bodies, each once
abbrev pub prefixes_of : List Body → List Prefix
prefixes_of log = distinct same_prefix (map (λ b. prefix_of b.event) log)

-- an accepted event is live, or was superseded
abbrev pub standing_in : List Body → Body → Standing
standing_in live_events b = if is_in live_events b then Live else Superseded

-- the line of a state, where there is one, with its head's number and digest
abbrev pub state_lines : Option State → List ℕ
state_lines None = []
state_lines (Some s) = of (head_said s)
  where
    of : Option Digest → List ℕ
    of None = []
    of (Some said) = state_text s.prefix (head_sn s) said
        (record { keys = length s.keys; witnesses = length s.list; toad = s.toad })

-- the accepted events of an identifier, in order of acceptance
abbrev pub own_of : Prefix → List Body → List Body
own_of prefix log = filter (is_of prefix) log

-- the lines of accepted events, of which some are live
abbrev pub events_lines : List Body → List Body → List ℕ
events_lines live_events events = flat_map (λ b. accepted_text b.event (standing_in live_events b)) events

-- the lines of an identifier: its accepted events, in order of acceptance, and then its state
abbrev pub log_lines : List Body → Prefix → List ℕ
log_lines log prefix = events_lines (live log prefix) (own_of prefix log) ++ state_lines (state log prefix)

-- why a body waits, where it does
abbrev pub reason_of : CoreView → Body → Option Why
reason_of core b = why_waits core.mode (told_of core) (accepted_by core) b

-- the bodies that wait
abbrev pub waiting_of : CoreView → List Body
waiting_of core = filter (λ b. is_some (reason_of core b)) core.held

-- the line of a body that waits
abbrev pub waits_lines : CoreView → Body → List ℕ
waits_lines core b = of (reason_of core b)
  where
    of : Option Why → List ℕ
    of None = []
    of (Some why) = waits_text b.event why

-- the digests of bodies
abbrev pub saids_of : List Body → List Digest
saids_of bodies = map (λ b. said_of b.event) bodies

-- the line of a set of conflicting bodies: the place of the first, which is that of all, and the digests of all
abbrev pub conflict_lines : List Body → List ℕ
conflict_lines [] = []
conflict_lines (b ∷ set) = conflict_text (prefix_of b.event) (sn_of b.event) (saids_of (b ∷ set))

-- the text is the lines of the conflicts, in order, and it is said whether there are any
pub record AreConflictLines (core : CoreView) (text : List ℕ) (has_conflicts : Bool) : Type 0 where
  pub sets : List (List Body)
  pub sets_are : IsConflictList core.mode (base_of core) (told_of core) sets
  pub text_is : text ≡ flat_map conflict_lines sets
  pub has_conflicts_is : has_conflicts ≡ not (length sets == 0)

-- The text: the lines of each identifier that has an accepted event, in order; then those of each event that waits, in
-- order; then those of the conflicts. It is said beside it whether there are conflicts.
pub record IsStandingText (core : CoreView) (text : List ℕ) (has_conflicts : Bool) : Type 0 where
  pub logs : List ℕ
  pub waits : List ℕ
  pub conflicts : List ℕ
  pub logs_are : IsListing prefix_cmp (log_lines (accepted_by core)) (prefixes_of (accepted_by core)) logs
  pub waits_are : IsListing body_cmp (waits_lines core) (waiting_of core) waits
  pub conflicts_are : AreConflictLines core conflicts has_conflicts
  pub text_is : text ≡ logs ++ (waits ++ conflicts)
