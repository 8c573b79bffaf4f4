-- The bodies of numbers, one number more.
use Rattle.std.proofs.Common.{◌≡◌, ℕ, ◌+◌, ◌<◌, List, [], ◌∷◌, ◌++◌, length, take, get_or, Option, Some, None, refl, sym, ◌∙◌, ap, subst, append-nil}
use Rattle.std.specs.Prelude.{option_map, option_to_list, slice_get}
use Rattle.std.proofs.lemmas.List.{take_more}
use Rattle.validator_core.specs.Tables.View.{body_of}
use Rattle.event_body.specs.declared.event_body.event.Event.{Event}
use Rattle.journal.specs.Journal.Grown.{IsGrown}
use Rattle.journal.specs.Journal.Journals.{chosen}
use Rattle.journal.specs.declared.journal.body.Body.{Body}
use Rattle.journal.proofs.JournalLemmas.Keeping.{accepted_grown}
use Rattle.journal.proofs.JournalLemmas.Premises.{nothing_grown}
use Rattle.blame_core.specs.BlameCore.Establishments.{IsFollowedBy}
use Rattle.blame_core.proofs.BlameCoreLemmas.Lists.{filter_map_parts, filter_map_push}
use Rattle.validator_core.specs.ValidatorCore.View.{CoreView, accepted_by, told_of}

-- a body has the event that is given, or there is none
pub with_event : (o : Option Body) (e : Event) → Some e ≡ option_map (λ b. b.event) o → (b : Body) × (o ≡ Some b) × (b.event ≡ e)
with_event None e h = cc
with_event (Some b) e h = (b, refl, cc)

pub without_event : (o : Option Body) → None ≡ option_map (λ (b : Body). b.event) o → o ≡ None
without_event None h = refl
without_event (Some b) h = cc

-- a body has the bytes and the event that are given
pub is_body_of : (o : Option Body) (text : List ℕ) (e : Event) → Some text ≡ option_map (λ (b : Body). b.bytes) o → Some e ≡ option_map (λ (b : Body). b.event) o
    → (b : Body) → o ≡ Some b → b ≡ body_of text e
is_body_of None text e h k b at = cc
is_body_of (Some c) text e h k b at =
    let bytes : text ≡ c.bytes = cc in
    let event : e ≡ c.event = cc in
    let same : c ≡ b = cc in
    sym same ∙ (λ i. record { bytes = sym bytes i; event = sym event i })

-- the bytes and the event that are given are the body's
pub bytes_are : (o : Option Body) (text : List ℕ) (b : Body) → Some text ≡ option_map (λ (b : Body). b.bytes) o → o ≡ Some b → text ≡ b.bytes
bytes_are o text b h at = (let own : Some text ≡ Some b.bytes = h ∙ ap (option_map (λ (b : Body). b.bytes)) at in cc)

pub event_is : (o : Option Body) (e : Event) (b : Body) → Some e ≡ option_map (λ (b : Body). b.event) o → o ≡ Some b → e ≡ b.event
event_is o e b h at = (let own : Some e ≡ Some b.event = h ∙ ap (option_map (λ (b : Body). b.event)) at in cc)

module _ (held : List Body) (ns : List ℕ) (i : ℕ) (low : i < length ns) where
  chosen_more : chosen held (take (i + 1) ns) ≡ chosen held (take i ns) ++ option_to_list (slice_get held (get_or ns i 0))
  unfolding chosen
  chosen_more =
      ap (chosen held) (take_more ns i 0 low) ∙ filter_map_push (λ n. slice_get held n) (take i ns) (get_or ns i 0)

  pub with_one : (b : Body) → slice_get held (get_or ns i 0) ≡ Some b → chosen held (take (i + 1) ns) ≡ chosen held (take i ns) ++ b ∷ []
  with_one b at = chosen_more ∙ ap (λ o. chosen held (take i ns) ++ option_to_list o) at

  pub with_none : slice_get held (get_or ns i 0) ≡ None → chosen held (take (i + 1) ns) ≡ chosen held (take i ns)
  with_none at = chosen_more ∙ ap (λ o. chosen held (take i ns) ++ option_to_list o) at ∙ append-nil (chosen held (take i ns))

  chosen_parts : (b : Body) → slice_get held (get_or ns i 0) ≡ Some b → (later : List Body) × (chosen held ns ≡ chosen held (take i ns) ++ b ∷ later)
  unfolding chosen
  chosen_parts b at = filter_map_parts (λ n. slice_get held n) ns i 0 b low at

  -- the accepted events of a core with an empty base, up to one
  pub followed : (core : CoreView) → core.base ≡ 0 → chosen held ns ≡ accepted_by core → (b : Body) → slice_get held (get_or ns i 0) ≡ Some b
      → IsFollowedBy (accepted_by core) (chosen held (take i ns)) b
  followed core whole those b at =
      let parts = chosen_parts b at in
      record {
        grown = accepted_grown core.mode (take core.base core.held) (told_of core) (subst (λ n. IsGrown (take n core.held)) (sym whole) nothing_grown);
        later = parts.0;
        parts = sym those ∙ parts.1;
      }
