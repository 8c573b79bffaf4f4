-- A core that was told nothing, and a shelf with the payloads of the bodies that it began with.
use Rattle.std.proofs.Common.{◌≡◌, ◌≤◌, ◌+◌, ℕ, suc, true, false, List, [], ◌∷◌, ◌++◌, length, map, take, replicate, slice_get, Some, None, refl, sym, ◌∙◌, ap, subst, arith, inl, inr, append-nil, append_assoc}
use Rattle.std.specs.Prelude.{sum_by}
use Rattle.std.specs.List.{list_all}
use Rattle.std.proofs.lemmas.Bool.{and_from, and_parts, cases_Bool}
use Rattle.std.proofs.lemmas.List.{drop_all, length-map, take_all}
use Rattle.std.proofs.Math.Seq.{take-length}
use Rattle.std.proofs.lemmas.List.Sums.{sum_by-cons}
use Rattle.journal_views.specs.EventPayload.Payloads.{text_in}
use Rattle.journal.specs.declared.journal.body.Body.{Body}
use Rattle.journal.specs.declared.journal.mode.Mode.{Mode}
use Rattle.journal.specs.Journal.Acceptance.{grown_by}
use Rattle.journal.specs.Journal.Accepted.{accepted}
use Rattle.journal.specs.Journal.Grown.{IsGrown, fits}
use Rattle.journal.specs.Journal.History.{bodies, claims_on}
use Rattle.journal.specs.Journal.Journals.{InOrder, first_unfit, told_by}
use Rattle.journal.specs.Journal.Logs.{is_in, same_body}
use Rattle.journal.proofs.JournalLemmas.Accepting.{same_body-refl}
use Rattle.journal.proofs.JournalLemmas.Keeping.{IsGrown-push}
use Rattle.journal.proofs.JournalLemmas.Places.{any_at}
use Rattle.journal.proofs.JournalLemmas.Premises.{nothing_grown}
use Rattle.event_body.specs.EventBody.Events.{is_receipt}
use Rattle.shelf_log.specs.KeriDisk.Images.{DiskShown}
use Rattle.keri_outside.specs.declared.limits.Limits.{Limits}
use Rattle.shelf_log.specs.ShelfLog.OnDisk.{AllHold}
use Rattle.validator_core.specs.ValidatorCore.View.{CoreView, told_of}
use Rattle.witness_core.specs.WitnessStore.Histories.{History, bodies_in, history_of, log_in}
use Rattle.witness_core.specs.WitnessStore.Room.{if_waiting, is_event, signatures_on, weight}
use Rattle.witness_core.specs.WitnessStore.Storing.{AreStored, missing}
use Rattle.witness_core.specs.declared.witness_store.room.Room.{Room}
use Rattle.witness_core.proofs.WitnessStoreLemmas.Stored.{missing_none}

-- what fits is no receipt
fits_event : (before : List Body) (b : Body) → fits before b ≡ true → is_event b ≡ true
unfolding fits
fits_event before b h = (and_parts _ _ (and_parts _ _ h).0).0

-- GROWN: where none is the first that doesn't fit, the list is grown, and has no receipts
pub unfit_grown : (place : ℕ) (before bs : List Body) → first_unfit place before bs ≡ None → IsGrown before → IsGrown (before ++ bs)
unfit_grown place before [] none grown = subst IsGrown (sym (append-nil before)) grown
unfit_grown place before (b ∷ bs) none grown = elim (cases_Bool (fits before b)) [
  | inl k ↦ subst IsGrown (append_assoc before (b ∷ []) bs) (unfit_grown (place + 1) (before ++ b ∷ []) bs (rw k at none) (IsGrown-push before b grown k))
  | inr k ↦ (let no : Some place ≡ None = rw k at none in cc)
]

pub unfit_events : (place : ℕ) (before bs : List Body) → first_unfit place before bs ≡ None → list_all is_event bs ≡ true
unfit_events place before [] none = refl
unfit_events place before (b ∷ bs) none = elim (cases_Bool (fits before b)) [
  | inl k ↦ and_from (is_event b) _ (fits_event before b k) (unfit_events (place + 1) (before ++ b ∷ []) bs (rw k at none))
  | inr k ↦ (let no : Some place ≡ None = rw k at none in cc)
]

-- no signatures came yet
pub none_came : (bs : List Body) → map (signatures_on []) bs ≡ replicate (length bs) 0
unfolding claims_on
none_came [] = refl
none_came (b ∷ bs) = ap (λ l. 0 ∷ l) (none_came bs)

-- what all are in the list, none of them waits
none_waits : (log all : List Body) → ((i : ℕ) (b : Body) → slice_get all i ≡ Some b → is_in log b ≡ true) → (f : Body → ℕ) → sum_by (if_waiting log f) all ≡ 0
none_waits log [] inside f = omega arith
none_waits log (b ∷ all) inside f =
    let here : if_waiting log f b ≡ 0 = none b (inside 0 b refl) in
    omega (arith, here, sum_by-cons (if_waiting log f) b all, none_waits log all (λ i c at. inside (suc i) c at) f)
  where
    none : (b : Body) → is_in log b ≡ true → if_waiting log f b ≡ 0
    none b there = elim (cases_Bool (is_receipt b.event)) [ inl k ↦ rw k refl | inr k ↦ rw (k, there) refl ]

module _ (mode : Mode) (held : List Body) (list : List (List ℕ)) (limits : Limits) (disk : DiskShown) (room : Room)
    (texts : map text_in list ≡ map (λ b. b.bytes) held) (unfit : first_unfit 0 [] held ≡ None) (all : bodies held [] ≡ held)
    (signatures : room.signatures.items ≡ replicate (length held) 0) (reserved : room.reserved ≡ 0) (few : length list ≤ limits.records) (holds : AllHold disk list) where
  abbrev h : History
  h = record { mode = mode; based = length list; base = held; told = [] }

  long : length list ≡ length held
  long = sym (length-map list text_in) ∙ ap length texts ∙ length-map held (λ (b : Body). b.bytes)

  log_is : log_in h ≡ held
  unfolding accepted grown_by
  log_is = refl

  same_long : length list ≡ length (log_in h)
  same_long = long ∙ ap length (sym log_is)

  front : take (length list) (log_in h) ≡ held
  front = ap (λ n. take n (log_in h)) same_long ∙ take_all (length (log_in h)) (log_in h) (omega arith) ∙ log_is

  none_left : (f : Body → ℕ) → sum_by (if_waiting (take (length list) (log_in h)) f) (bodies_in h) ≡ 0
  none_left f =
      (λ i. sum_by (if_waiting (front i) f) (all i)) ∙ none_waits held held (λ i b at. any_at (λ c. same_body c b) held i b at (same_body-refl b)) f

  pub first_stored : AreStored h list limits false disk room
  first_stored = record {
    on_way = record {
      front = omega (arith, same_long);
      based = omega arith;
      texts = ap (map text_in) (take-length list) ∙ texts;
      read = texts ∙ ap (map (λ (b : Body). b.bytes)) (sym front);
      all = ap (λ l. l ++ missing h list) (drop_all (length list) list (omega arith)) ∙ missing_none h list same_long;
    };
    all = same_long;
    grown = unfit_grown 0 [] held unfit nothing_grown;
    fits = record {
      is = record {
        events = ap (list_all is_event) (append-nil held) ∙ unfit_events 0 [] held unfit;
        signatures = signatures ∙ sym (none_came held) ∙ ap (map (signatures_on [])) (sym all);
        reserved = reserved ∙ sym (none_left (weight []));
      };
      records = omega (arith, none_left (λ b. 1), few);
      bytes = λ some. absurd (omega (arith, some, reserved));
    };
    whole = refl;
    holds = holds;
  }

-- STARTED: a core that was told nothing, and began with the bodies of the list
pub started : (core : CoreView) (list : List (List ℕ)) (limits : Limits) (disk : DiskShown) (room : Room) → core.base ≡ length list → map (λ b. b.bytes) core.held ≡ map text_in list
    → first_unfit 0 [] core.held ≡ None → core.entries ≡ [] → InOrder core.base core.held core.entries
    → room.signatures.items ≡ replicate (length core.held) 0 → room.reserved ≡ 0 → length list ≤ limits.records → AllHold disk list → AreStored (history_of core) list limits false disk room
unfolding told_by
started core list limits disk room base texts unfit untold order signatures reserved few holds =
    let long : length core.held ≡ length list = sym (length-map core.held (λ (b : Body). b.bytes)) ∙ ap length texts ∙ length-map list text_in in
    let base_is : take core.base core.held ≡ core.held = ap (λ n. take n core.held) (base ∙ sym long) ∙ take_all (length core.held) core.held (omega arith) in
    let told_is : told_of core ≡ [] = ap (told_by core.held) untold in
    let is : record { mode = core.mode; based = length list; base = core.held; told = [] } ≡ history_of core = λ i. record { mode = core.mode; based = sym base i; base = sym base_is i; told = sym told_is i } in
    subst (λ x. AreStored x list limits false disk room) is
    (first_stored core.mode core.held list limits disk room (sym texts) unfit ((λ i. bodies (sym base_is i) (sym told_is i)) ∙ sym order) signatures reserved few holds)
