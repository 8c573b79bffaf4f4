-- What a core's journal and its accepted numbers tell of the accepted bodies.
use Rattle.std.proofs.Common.{◌≡◌, ◌<◌, ℕ, List, All, length, map, slice_get, Some, get_or, sym, ◌∙◌, ap, subst, arith}
use Rattle.std.proofs.lemmas.List.{length-map}
use Rattle.std.proofs.lemmas.Option.{get_or_from_slice_get, slice_get_within}
use Rattle.validator_core.specs.Acceptance.Standing.{IsHeld}
use Rattle.cesr_codes.specs.declared.indexed_sig.IndexedSig.{IndexedSig}
use Rattle.journal_views.specs.EventPayload.Kept.{kept}
use Rattle.journal_views.specs.EventPayload.Payloads.{payload_of}
use Rattle.journal.specs.declared.journal.body.Body.{Body}
use Rattle.journal.specs.Journal.Journals.{chosen}
use Rattle.journal.proofs.JournalLemmas.Places.{all_at, some_at}
use Rattle.validator_core.specs.ValidatorCore.View.{CoreView, IsSoundCore, accepted_by, told_of}
use Rattle.witness_core.specs.WitnessStore.Payloads.{payload_now}
use Rattle.witness_core.specs.WitnessStore.Room.{IsKnown}
use Rattle.witness_core.proofs.WitnessStoreLemmas.Lists.{map_at}
use Rattle.witness_core.proofs.WitnessStoreLemmas.Waits.{chosen_at, chosen_length}

module _ (core : CoreView) (numbers : List ℕ) (below : All (λ n. n < length core.held) numbers) (names : chosen core.held numbers ≡ accepted_by core) where
  pub known_by : numbers ≡ core.accepted → IsSoundCore core → IsKnown core
  known_by are stands = record {
    sound = stands;
    held = subst (λ ns. All (λ n. n < length core.held) ns) are below;
    accepted = subst (λ ns. chosen core.held ns ≡ accepted_by core) are names;
  }

  -- each accepted body has a number
  pub as_many : length numbers ≡ length (accepted_by core)
  as_many = sym (chosen_length core.held numbers below) ∙ ap length names

  module _ (place : ℕ) (b : Body) (at : slice_get (accepted_by core) place ≡ Some b) where
    there : (n : ℕ) × (slice_get numbers place ≡ Some n) × (slice_get core.held n ≡ Some b)
    there = chosen_at core.held numbers below place b (ap (λ l. slice_get l place) names ∙ at)

    -- THERE: the number at a place is that of the body there
    pub body_there : (d : ℕ) → slice_get core.held (get_or numbers place d) ≡ Some b
    body_there d = ap (slice_get core.held) (get_or_from_slice_get numbers place there.0 d there.1) ∙ there.2

    pub held_there : IsSoundCore core → IsHeld b
    held_there stands = all_at IsHeld core.held stands.spelled there.0 b there.2

    -- and by it its bytes are read
    pub bytes_there : (texts : List (List ℕ)) → texts ≡ map (λ c. c.bytes) core.held → (d : ℕ) (read other : List ℕ) → read ≡ get_or texts (get_or numbers place d) other → read ≡ b.bytes
    bytes_there texts texts_are d read other is =
        let n = get_or numbers place d in
        is ∙ get_or_from_slice_get texts n b.bytes other (ap (λ l. slice_get l n) texts_are ∙ map_at (λ (c : Body). c.bytes) core.held n b (body_there d))

    -- so its payload is that of its bytes as they are read, and of what is kept
    pub payload_there : (texts : List (List ℕ)) → texts ≡ map (λ c. c.bytes) core.held → (d : ℕ) (read other : List ℕ) → read ≡ get_or texts (get_or numbers place d) other → (sigs : List IndexedSig)
        → sigs ≡ kept (told_of core) (accepted_by core) b → payload_of read sigs ≡ payload_now (told_of core) (accepted_by core) b
    payload_there texts texts_are d read other is sigs sigs_are =
        let same = bytes_there texts texts_are d read other is in
        λ i. payload_of (same i) (sigs_are i)

  -- a place of the accepted ones has a number, and that a text
  pub place_low : (place : ℕ) → place < length (accepted_by core) → place < length numbers
  place_low place low = omega (arith, low, as_many)

  pub number_low : (place : ℕ) → place < length (accepted_by core) → (d : ℕ) → get_or numbers place d < length core.held
  number_low place low d = let (b, at) = some_at (accepted_by core) place low in slice_get_within core.held (get_or numbers place d) b (body_there place b at d)

  pub text_low : (place : ℕ) → place < length (accepted_by core) → (d : ℕ) (texts : List (List ℕ)) → texts ≡ map (λ c. c.bytes) core.held → get_or numbers place d < length texts
  text_low place low d texts texts_are = omega (arith, number_low place low d, ap length texts_are, length-map core.held (λ (c : Body). c.bytes))
