-- The lines of conflicts by the numbers of their bodies are those of their sets.
use Rattle.std.proofs.Common.{◌≡◌, ◌≤◌, List, [], ◌∷◌, map, length, sym, ◌∙◌, ap, arith}
use Rattle.std.specs.Prelude.{All, flat_map}
use Rattle.std.proofs.lemmas.List.Elements.{All-cons, All-head, All-nil, All-tail}
use Rattle.std.proofs.lemmas.List.Folds.{flat_map-map}
use Rattle.event_body.specs.EventBody.Events.{prefix_of, sn_of}
use Rattle.journal.specs.declared.journal.body.Body.{Body}
use Rattle.journal.specs.declared.journal.conflict.Conflict.{Conflict}
use Rattle.journal.specs.Journal.Journals.{NameConflicts, chosen}
use Rattle.journal.proofs.JournalLemmas.Apart.{flat_map-All}
use Rattle.report_lines.specs.Lines.{conflict_text}
use Rattle.report_lines.specs.Conflicts.{named_line}
use Rattle.report_lines.specs.Report.{conflict_lines, saids_of}

-- the body has the conflict's place
abbrev IsAt : Conflict → Body → Type 0
IsAt c b = (prefix_of b.event ≡ c.prefix) × (sn_of b.event ≡ c.sn)

module _ (held : List Body) where
  one_line : (c : Conflict) → 2 ≤ length (chosen held c.bodies) → All (IsAt c) (chosen held c.bodies) → named_line held c ≡ conflict_lines (chosen held c.bodies)
  one_line c some places = of (chosen held c.bodies) some places
    where
      of : (set : List Body) → 2 ≤ length set → All (IsAt c) set → conflict_text c.prefix c.sn (saids_of set) ≡ conflict_lines set
      of [] some places = absurd (omega (arith, some))
      of (b ∷ set) some places = let head = All-head (IsAt c) b set places in
          λ i. conflict_text (sym head.0 i) (sym head.1 i) (saids_of (b ∷ set))

  each_line : (cs : List Conflict) → All (λ (set : List Body). 2 ≤ length set) (map (λ c. chosen held c.bodies) cs)
      → All (λ c. All (IsAt c) (chosen held c.bodies)) cs
      → All (λ c. named_line held c ≡ conflict_lines (chosen held c.bodies)) cs
  each_line [] some places = All-nil _
  each_line (c ∷ cs) some places =
      let rest = map (λ c. chosen held c.bodies) cs in
      All-cons (λ c. named_line held c ≡ conflict_lines (chosen held c.bodies)) c cs
      (one_line c (All-head (λ (set : List Body). 2 ≤ length set) (chosen held c.bodies) rest some)
      (All-head (λ c. All (IsAt c) (chosen held c.bodies)) c cs places))
      (each_line cs (All-tail (λ (set : List Body). 2 ≤ length set) (chosen held c.bodies) rest some)
      (All-tail (λ c. All (IsAt c) (chosen held c.bodies)) c cs places))

  -- LINES
  pub lines_of_sets : (cs : List Conflict) (sets : List (List Body)) → NameConflicts held cs sets → All (λ (set : List Body). 2 ≤ length set) sets
      → flat_map (named_line held) cs ≡ flat_map conflict_lines sets
  lines_of_sets cs sets names some =
      flat_map-All (named_line held) (λ c. conflict_lines (chosen held c.bodies)) cs
      (each_line cs (rw names.bodies_are some) names.places_are)
      ∙ (sym (flat_map-map conflict_lines (λ c. chosen held c.bodies) cs) ∙ ap (flat_map conflict_lines) names.bodies_are)
