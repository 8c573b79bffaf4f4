-- What is stored of the accepted events.
use Rattle.std.specs.Prelude.{◌≡◌, ℕ, true, false, List, [], ◌∷◌, ◌++◌, map, drop}
use Rattle.cesr_codes.specs.declared.indexed_sig.IndexedSig.{IndexedSig}
use Rattle.journal.specs.declared.journal.body.Body.{Body}
use Rattle.journal.specs.declared.journal.mode.Mode.{Mode}
use Rattle.journal.specs.Journal.Accepted.{accepted}
use Rattle.journal.specs.Journal.History.{Told}
use Rattle.journal.specs.Journal.Logs.{is_in}
use Rattle.journal_views.specs.declared.event_payload.kept.Kept.{Kept}
use Rattle.journal_views.specs.EventPayload.Holding.{HasKept}
use Rattle.journal_views.specs.EventPayload.Kept.{kept, signed_by, state_under}
use Rattle.journal_views.specs.EventPayload.Payloads.{payload_of, text_in}
use Rattle.validator_core.specs.ValidatorCore.View.{CoreView, accepted_by, base_of, told_of}

-- the moment ends with the entry that made the body accepted (own)
pub record IsAcceptedAt (mode : Mode) (base : List Body) (told : List Told) (b : Body) (moment : List Told) : Type 0 where
  pub earlier : List Told
  pub entry : Told
  pub later : List Told
  pub is : moment ≡ earlier ++ entry ∷ []
  pub parted : told ≡ moment ++ later
  pub not_yet : is_in (accepted mode base earlier) b ≡ false
  pub now : is_in (accepted mode base moment) b ≡ true

-- these signatures on an accepted event came, and were kept
abbrev pub HasKeptOf : List Body → Body → List IndexedSig → Kept → Type 0
HasKeptOf log b came kept = HasKept (state_under log b) b.event came kept

-- the body, and the signatures that are kept by what was told and accepted so far (own: the payload of version 2)
abbrev pub payload_now : List Told → List Body → Body → List ℕ
payload_now told log b = payload_of b.bytes (kept told log b)

-- The payload of an accepted event: by the moment at which it was accepted. With its signatures alone the event is signed (KERI,
-- signing threshold and pre-rotation).
pub record IsPayload (mode : Mode) (base : List Body) (told : List Told) (b : Body) (payload : List ℕ) : Type 0 where
  pub moment : List Told
  pub at : IsAcceptedAt mode base told b moment
  pub is : payload ≡ payload_now moment (accepted mode base moment) b
  pub signed : signed_by (state_under (accepted mode base moment) b) b.event (kept moment (accepted mode base moment) b) ≡ true

-- the relation holds at each place, and the lists have as many places
abbrev pub Pointwise : {A B : Type 0} → (A → B → Type 0) → List A → List B → Type 0
Pointwise P [] [] = Unit {0}
Pointwise P (x ∷ xs) (y ∷ ys) = P x y × Pointwise P xs ys
Pointwise P [] (y ∷ ys) = ⊥
Pointwise P (x ∷ xs) [] = ⊥

-- LISTED: the list has the bodies that the core began with, maybe with signatures, and then the payload of each event that it
-- accepted, in order (own: the shelf of a witness)
pub record AreListed (core : CoreView) (list : List (List ℕ)) : Type 0 where
  pub front : List (List ℕ)
  pub more : List (List ℕ)
  pub parted : list ≡ front ++ more
  pub base : map text_in front ≡ map (λ b. b.bytes) (base_of core)
  pub each : Pointwise (IsPayload core.mode (base_of core) (told_of core)) (drop core.base (accepted_by core)) more
