-- The bodies of numbers, one number more, and the lines and digests of their events.
use Rattle.std.proofs.Common.{◌≡◌, ℕ, ◌+◌, ◌<◌, ◌==◌, List, [], ◌∷◌, ◌++◌, length, Option, Some, None, refl, ◌∙◌, ap, append-nil, get_or, take, if◌then◌else◌}
use Rattle.std.specs.Prelude.{filter_map, option_map, option_to_list, slice_get}
use Rattle.std.specs.List.{cons_option, list_any}
use Rattle.std.proofs.lemmas.List.{map-append, take_more}
use Rattle.std.proofs.lemmas.List.Elements.{filter_map-append}
use Rattle.event_body.specs.EventBody.Events.{said_of}
use Rattle.event_body.specs.declared.event_body.event.Event.{Event}
use Rattle.journal.specs.declared.journal.body.Body.{Body}
use Rattle.journal.specs.Journal.Journals.{chosen}
use Rattle.journal.proofs.JournalLemmas.Locality.{flat_map-push}
use Rattle.report_lines.specs.Lines.{accepted_text}
use Rattle.report_lines.specs.declared.standing.Standing.TheVariants.{Live, Superseded}
use Rattle.report_lines.specs.Logs.{Marks}
use Rattle.report_lines.specs.Report.{events_lines, saids_of, standing_in}

-- a body has the event that is given, or there is none
pub with_event : (o : Option Body) (e : Event) → Some e ≡ option_map (λ b. b.event) o → (b : Body) × (o ≡ Some b) × (b.event ≡ e)
with_event None e h = cc
with_event (Some b) e h = (b, refl, cc)

pub without_event : (o : Option Body) → None ≡ option_map (λ (b : Body). b.event) o → o ≡ None
without_event None h = refl
without_event (Some b) h = cc

pub chosen_more : (held : List Body) (ns : List ℕ) (i : ℕ) → i < length ns
    → chosen held (take (i + 1) ns) ≡ chosen held (take i ns) ++ option_to_list (slice_get held (get_or ns i 0))
unfolding chosen
chosen_more held ns i low =
    ap (filter_map (λ n. slice_get held n)) (take_more ns i 0 low)
    ∙ filter_map-append (λ n. slice_get held n) (take i ns) (get_or ns i 0 ∷ [])
    ∙ ap (λ bs. filter_map (λ n. slice_get held n) (take i ns) ++ bs) (one (slice_get held (get_or ns i 0)))
  where
    one : (o : Option Body) → cons_option o [] ≡ option_to_list o
    one None = refl
    one (Some b) = refl

module _ (held : List Body) (ns : List ℕ) (i : ℕ) (low : i < length ns) where
  pub with_one : (b : Body) → slice_get held (get_or ns i 0) ≡ Some b → chosen held (take (i + 1) ns) ≡ chosen held (take i ns) ++ b ∷ []
  with_one b at = chosen_more held ns i low ∙ ap (λ o. chosen held (take i ns) ++ option_to_list o) at

  pub with_none : slice_get held (get_or ns i 0) ≡ None → chosen held (take (i + 1) ns) ≡ chosen held (take i ns)
  with_none at = chosen_more held ns i low ∙ ap (λ o. chosen held (take i ns) ++ option_to_list o) at ∙ append-nil (chosen held (take i ns))

  -- DIGESTS
  pub said_more : (e : Event) → Some e ≡ option_map (λ b. b.event) (slice_get held (get_or ns i 0))
      → saids_of (chosen held (take (i + 1) ns)) ≡ saids_of (chosen held (take i ns)) ++ said_of e ∷ []
  said_more e is =
      let found = with_event (slice_get held (get_or ns i 0)) e is in
      ap saids_of (with_one found.0 found.1)
      ∙ map-append (λ b. said_of b.event) (chosen held (take i ns)) (found.0 ∷ [])
      ∙ ap (λ e. saids_of (chosen held (take i ns)) ++ said_of e ∷ []) found.2

  pub said_same : None ≡ option_map (λ (b : Body). b.event) (slice_get held (get_or ns i 0))
      → saids_of (chosen held (take (i + 1) ns)) ≡ saids_of (chosen held (take i ns))
  said_same is = ap saids_of (with_none (without_event (slice_get held (get_or ns i 0)) is))

  -- LINES
  module _ (live : List ℕ) (live_events : List Body) (marks : Marks held live live_events) where
    pub line_more : (e : Event) → Some e ≡ option_map (λ b. b.event) (slice_get held (get_or ns i 0))
        → events_lines live_events (chosen held (take (i + 1) ns))
        ≡ events_lines live_events (chosen held (take i ns)) ++ accepted_text e (if list_any (λ m. m == get_or ns i 0) live then Live else Superseded)
    line_more e is =
        let found = with_event (slice_get held (get_or ns i 0)) e is in
        let b = found.0 in
        ap (events_lines live_events) (with_one b found.1)
        ∙ flat_map-push (λ b. accepted_text b.event (standing_in live_events b)) (chosen held (take i ns)) b
        ∙ (λ j. events_lines live_events (chosen held (take i ns)) ++ accepted_text (found.2 j) (if marks (get_or ns i 0) b found.1 j then Live else Superseded))

    pub line_same : None ≡ option_map (λ (b : Body). b.event) (slice_get held (get_or ns i 0))
        → events_lines live_events (chosen held (take (i + 1) ns)) ≡ events_lines live_events (chosen held (take i ns))
    line_same is = ap (events_lines live_events) (with_none (without_event (slice_get held (get_or ns i 0)) is))
