-- A journal has one reading, since bytes spell one event at most.
use Rattle.std.proofs.Common.{◌≡◌, ℕ, List, [], ◌∷◌, map, All, refl, sym, ◌∙◌}
use Rattle.std.proofs.lemmas.List.Elements.{All-head, All-tail}
use Rattle.event_body.specs.declared.event_body.event.Event.{Event}
use Rattle.journal.specs.Journal.Logs.{Body}
use Rattle.journal.specs.Journal.Journals.{IsReading}

module _ (spells : Event → List ℕ → Type 0) (one : (e f : Event) (bytes : List ℕ) → spells e bytes → spells f bytes → e ≡ f) where
  same_read : (held other : List Body) → map (λ b. b.bytes) held ≡ map (λ b. b.bytes) other
      → All (λ b. spells b.event b.bytes) held → All (λ b. spells b.event b.bytes) other → held ≡ other
  same_read [] [] e h k = refl
  same_read [] (c ∷ other) e h k = cc
  same_read (b ∷ held) [] e h k = cc
  same_read (b ∷ held) (c ∷ other) e h k =
      let P : Body → Type 0 = λ b. spells b.event b.bytes in
      let bytes : b.bytes ≡ c.bytes = cc in
      let tails : map (λ b. b.bytes) held ≡ map (λ b. b.bytes) other = cc in
      let event = one b.event c.event b.bytes (All-head P b held h) (rw bytes (All-head P c other k)) in
      let rest = same_read held other tails (All-tail P b held h) (All-tail P c other k) in
      λ i. record { bytes = bytes i; event = event i } ∷ rest i

  -- ONE READING
  pub IsReading-unique : (texts : List (List ℕ)) (held other : List Body) → IsReading spells texts held → IsReading spells texts other → held ≡ other
  IsReading-unique texts held other r s = same_read held other (r.bytes_are ∙ sym s.bytes_are) r.spelled s.spelled
