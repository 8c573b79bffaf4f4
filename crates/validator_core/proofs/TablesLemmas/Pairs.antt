-- Bodies with their events, as two lists of one length.
use Rattle.std.proofs.Common.{◌≡◌, ℕ, zero, suc, List, [], ◌∷◌, ◌++◌, length, map, take, refl, sym, ap, ◌∙◌, arith, Some, get_or}
use Rattle.std.specs.Prelude.{option_map, slice_get}
use Rattle.std.proofs.lemmas.List.{length-map}
use Rattle.std.proofs.lemmas.Option.{get_or_from_slice_get, slice_get-map}
use Rattle.event_body.specs.declared.event_body.event.Event.{Event}
use Rattle.journal.specs.declared.journal.body.Body.{Body}
use Rattle.validator_core.specs.Tables.View.{body_of}
use Rattle.validator_core.specs.Tables.Inside.{paired}

shorter : (m n : ℕ) → suc m ≡ suc n → m ≡ n
shorter m n e = omega arith

pub bytes_of : (bodies : List (List ℕ)) (events : List Event) → length bodies ≡ length events → map (λ b. b.bytes) (paired bodies events) ≡ bodies
unfolding paired
bytes_of [] events e = refl
bytes_of (bytes ∷ bodies) [] e = absurd (omega arith)
bytes_of (bytes ∷ bodies) (event ∷ events) e = ap (λ bs. bytes ∷ bs) (bytes_of bodies events (shorter _ _ e))

pub events_of : (bodies : List (List ℕ)) (events : List Event) → length bodies ≡ length events → map (λ b. b.event) (paired bodies events) ≡ events
unfolding paired
events_of [] [] e = refl
events_of [] (event ∷ events) e = absurd (omega arith)
events_of (bytes ∷ bodies) [] e = absurd (omega arith)
events_of (bytes ∷ bodies) (event ∷ events) e = ap (λ es. event ∷ es) (events_of bodies events (shorter _ _ e))

pub paired-push : (bodies : List (List ℕ)) (events : List Event) → length bodies ≡ length events → (bytes : List ℕ) (event : Event)
    → paired (bodies ++ bytes ∷ []) (events ++ event ∷ []) ≡ paired bodies events ++ body_of bytes event ∷ []
unfolding paired
paired-push [] [] e bytes event = refl
paired-push [] (other ∷ events) e bytes event = absurd (omega arith)
paired-push (other ∷ bodies) [] e bytes event = absurd (omega arith)
paired-push (text ∷ bodies) (other ∷ events) e bytes event = ap (λ bs. body_of text other ∷ bs) (paired-push bodies events (shorter _ _ e) bytes event)

pub paired-take : (n : ℕ) (bodies : List (List ℕ)) (events : List Event) → length bodies ≡ length events → paired (take n bodies) (take n events) ≡ take n (paired bodies events)
unfolding paired
paired-take zero bodies events e = refl
paired-take (suc n) [] [] e = refl
paired-take (suc n) [] (event ∷ events) e = absurd (omega arith)
paired-take (suc n) (bytes ∷ bodies) [] e = absurd (omega arith)
paired-take (suc n) (bytes ∷ bodies) (event ∷ events) e = ap (λ bs. body_of bytes event ∷ bs) (paired-take n bodies events (shorter _ _ e))

module _ (bodies : List (List ℕ)) (events : List Event) (even : length bodies ≡ length events) where
  pub length-paired : length (paired bodies events) ≡ length events
  length-paired = sym (length-map (paired bodies events) (λ b. b.event)) ∙ ap length (events_of bodies events even)

  -- the bytes and the event of the body of a number
  pub bytes_at : (n : ℕ) → slice_get bodies n ≡ option_map (λ b. b.bytes) (slice_get (paired bodies events) n)
  bytes_at n = ap (λ bs. slice_get bs n) (sym (bytes_of bodies events even)) ∙ slice_get-map (λ b. b.bytes) (paired bodies events) n

  pub event_at : (n : ℕ) → slice_get events n ≡ option_map (λ b. b.event) (slice_get (paired bodies events) n)
  event_at n = ap (λ es. slice_get es n) (sym (events_of bodies events even)) ∙ slice_get-map (λ b. b.event) (paired bodies events) n

  -- an element of the events is the event of the body with its number
  pub event_is : (n : ℕ) (e : Event) (b : Body) → e ≡ get_or events n e → slice_get (paired bodies events) n ≡ Some b → b.event ≡ e
  event_is n e b is at = sym (get_or_from_slice_get events n b.event e (event_at n ∙ ap (option_map (λ x. x.event)) at)) ∙ sym is
