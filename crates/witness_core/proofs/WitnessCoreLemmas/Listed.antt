-- The payloads by entries are those of the accepted events.
use Rattle.std.proofs.Common.{◌≡◌, ℕ, true, List, [], ◌∷◌, ◌++◌, All, length, take, drop, map, refl, sym, ◌∙◌, ap, subst, append_assoc, append-nil, take-append-drop}
use Rattle.std.proofs.lemmas.List.{length-map, length-take-le}
use Rattle.std.proofs.lemmas.List.Elements.{All-cons, All-head, All-nil, All-tail}
use Rattle.journal_views.specs.EventPayload.Kept.{kept, signed_by, state_under}
use Rattle.journal_views.specs.EventPayload.Payloads.{text_in}
use Rattle.journal_views.proofs.EventPayloadLemmas.Enough.{kept_is_enough}
use Rattle.journal.specs.declared.journal.body.Body.{Body}
use Rattle.journal.specs.declared.journal.mode.Mode.{Mode}
use Rattle.journal.specs.Journal.Acceptance.{grown_by}
use Rattle.journal.specs.Journal.Accepted.{accepted}
use Rattle.journal.specs.Journal.History.{Told}
use Rattle.journal.proofs.JournalLemmas.Accepting.{accepted_extends}
use Rattle.key_state.specs.Kept.{IsKept}
use Rattle.validator_core.specs.ValidatorCore.View.{CoreView, accepted_by, base_of, told_of}
use Rattle.witness_core.specs.WitnessStore.Histories.{history_of}
use Rattle.witness_core.specs.WitnessStore.Payloads.{AreListed, IsAcceptedAt, IsPayload, Pointwise, payload_now}
use Rattle.witness_core.specs.WitnessStore.Storing.{IsOnWay, by_entries, newly, payloads, missing}
use Rattle.witness_core.proofs.WitnessCoreLemmas.ByEntries.{entry_law, stays_law}
use Rattle.witness_core.proofs.WitnessStoreLemmas.States.{kept_under}

module _ {A B : Type 0} (P : A → B → Type 0) where
  both_more : (xs us : List A) (ys vs : List B) → Pointwise P xs ys → Pointwise P us vs → Pointwise P (xs ++ us) (ys ++ vs)
  both_more [] us [] vs first then = then
  both_more (x ∷ xs) us (y ∷ ys) vs first then = (first.0, both_more xs us ys vs first.1 then)
  both_more [] us (y ∷ ys) vs first then = absurd first
  both_more (x ∷ xs) us [] vs first then = absurd first

  -- each member of a list, with what a function gives
  each_so : (f : A → B) (xs : List A) → ((front later : List A) (x : A) → xs ≡ front ++ x ∷ later → P x (f x)) → Pointwise P xs (map f xs)
  each_so f [] each = tt
  each_so f (x ∷ xs) each = (each [] xs x refl, each_so f xs (λ front later y e. each (x ∷ front) later y (ap (λ l. x ∷ l) e)))

weaken : {A B : Type 0} (P Q : A → B → Type 0) → ((x : A) (y : B) → P x y → Q x y) → (xs : List A) (ys : List B) → Pointwise P xs ys → Pointwise Q xs ys
weaken P Q gives [] [] all = tt
weaken P Q gives (x ∷ xs) (y ∷ ys) all = (gives x y all.0, weaken P Q gives xs ys all.1)
weaken P Q gives [] (y ∷ ys) all = all
weaken P Q gives (x ∷ xs) [] all = all

drop_front : {X : Type 0} (xs ys : List X) → drop (length xs) (xs ++ ys) ≡ ys
drop_front [] ys = refl
drop_front (x ∷ xs) ys = drop_front xs ys

all_front : {X : Type 0} (P : X → Type 0) (xs ys : List X) → All P (xs ++ ys) → All P xs
all_front P [] ys all = All-nil P
all_front P (x ∷ xs) ys all = All-cons P x xs (All-head P x (xs ++ ys) all) (all_front P xs ys (All-tail P x (xs ++ ys) all))

all_behind : {X : Type 0} (P : X → Type 0) (xs ys : List X) → All P (xs ++ ys) → All P ys
all_behind P [] ys all = all
all_behind P (x ∷ xs) ys all = all_behind P xs ys (All-tail P x (xs ++ ys) all)

-- the payload of an accepted event, which is signed by its signatures where bodies spell the events that were accepted by then
record IsPayloadIf (mode : Mode) (base : List Body) (told : List Told) (b : Body) (payload : List ℕ) : Type 0 where
  moment : List Told
  at : IsAcceptedAt mode base told b moment
  is : payload ≡ payload_now moment (accepted mode base moment) b
  enough : All (λ a. IsKept a.event) (accepted mode base moment)
      → signed_by (state_under (accepted mode base moment) b) b.event (kept moment (accepted mode base moment) b) ≡ true

module _ (mode : Mode) (base : List Body) where
  -- an event that an entry made accepted is signed by the signatures that are kept then
  enough_then : (told : List Told) (t : Told) (front later : List Body) (b : Body) → (entry_law mode base told t).0 ≡ front ++ b ∷ later
      → All (λ a. IsKept a.event) (accepted mode base (told ++ t ∷ []))
      → signed_by (state_under (accepted mode base (told ++ t ∷ [])) b) b.event (kept (told ++ t ∷ []) (accepted mode base (told ++ t ∷ [])) b) ≡ true
  enough_then told t front later b e all =
      let law = entry_law mode base told t in
      let log = accepted mode base (told ++ t ∷ []) in
      let new = all_behind (λ a. IsKept a.event) (accepted mode base told) law.0 (subst (All (λ a. IsKept a.event)) law.1 all) in
      let has : IsKept b.event = All-head (λ a. IsKept a.event) b later (all_behind (λ a. IsKept a.event) front (b ∷ later) (subst (All (λ a. IsKept a.event)) e new)) in
      kept_is_enough (told ++ t ∷ []) log b has (kept_under log all b) (law.2 front later b e).1

  -- the accepted events are the base, and others
  abbrev AreSo : List Told → List (List ℕ) → Type 0
  AreSo told list = (more : List Body) × (accepted mode base told ≡ base ++ more) × Pointwise (IsPayloadIf mode base told) more list

  so_first : AreSo [] []
  unfolding accepted grown_by
  so_first = ([], sym (append-nil base), tt)

  so_more : (told : List Told) (t : Told) (list : List (List ℕ)) → AreSo told list → AreSo (told ++ t ∷ []) (list ++ newly mode base told t)
  so_more told t list so =
      let law = entry_law mode base told t in
      let then = told ++ t ∷ [] in
      let dropped : drop (length (accepted mode base told)) (accepted mode base then) ≡ law.0 = ap (drop (length (accepted mode base told))) law.1 ∙ drop_front (accepted mode base told) law.0 in
      let new : Pointwise (IsPayloadIf mode base then) law.0 (map (payload_now then (accepted mode base then)) law.0)
      = each_so (IsPayloadIf mode base then) (payload_now then (accepted mode base then)) law.0 (λ front later b e. record { moment = then; at = (law.2 front later b e).0; is = refl; enough = enough_then told t front later b e }) in (
        so.0 ++ law.0,
        law.1 ∙ ap (λ l. l ++ law.0) so.1 ∙ append_assoc base so.0 law.0,
        both_more (IsPayloadIf mode base then) so.0 law.0 list (newly mode base told t)
            (weaken (IsPayloadIf mode base told) (IsPayloadIf mode base then) (λ b p is. record { moment = is.moment; at = stays_law mode base told (t ∷ []) b is.moment is.at; is = is.is; enough = is.enough }) so.0 list so.2)
            (subst (λ l. Pointwise (IsPayloadIf mode base then) law.0 (map (payload_now then (accepted mode base then)) l)) (sym dropped) new),
      )

  so_all : (earlier later : List Told) (list : List (List ℕ)) → AreSo earlier list → AreSo (earlier ++ later) (list ++ by_entries mode base earlier later)
  so_all earlier [] list so = subst (λ l. AreSo l (list ++ [])) (sym (append-nil earlier)) (subst (AreSo earlier) (sym (append-nil list)) so)
  so_all earlier (t ∷ later) list so =
      let rest = so_all (earlier ++ t ∷ []) later (list ++ newly mode base earlier t) (so_more earlier t list so) in
      subst (λ l. AreSo l (list ++ by_entries mode base earlier (t ∷ later))) (append_assoc earlier (t ∷ []) later)
      (subst (AreSo ((earlier ++ t ∷ []) ++ later)) (append_assoc list (newly mode base earlier t) (by_entries mode base (earlier ++ t ∷ []) later)) rest)

  so_told : (told : List Told) → AreSo told (by_entries mode base [] told)
  so_told told = so_all [] told [] so_first

-- so it is of all where bodies spell the accepted events
are_signed : (mode : Mode) (base : List Body) (told : List Told) → All (λ a. IsKept a.event) (accepted mode base told) → (bs : List Body) (ps : List (List ℕ))
    → Pointwise (IsPayloadIf mode base told) bs ps → Pointwise (IsPayload mode base told) bs ps
are_signed mode base told all = weaken (IsPayloadIf mode base told) (IsPayload mode base told) (λ b p is.
    let grown = accepted_extends mode base is.moment is.at.later in
    let log : All (λ a. IsKept a.event) (accepted mode base is.moment ++ grown.0) = subst (All (λ a. IsKept a.event)) (ap (accepted mode base) is.at.parted ∙ grown.1) all in
    record { moment = is.moment; at = is.at; is = is.is; signed = is.enough (all_front (λ a. IsKept a.event) (accepted mode base is.moment) grown.0 log) })

-- so the accepted events are the base, and others whose payloads these are
pub are_so : (mode : Mode) (base : List Body) (told : List Told) → All (λ a. IsKept a.event) (accepted mode base told)
    → (more : List Body) × (accepted mode base told ≡ base ++ more) × Pointwise (IsPayload mode base told) more (by_entries mode base [] told)
are_so mode base told all =
    let so = so_told mode base told in
    (so.0, so.1, are_signed mode base told all so.0 (by_entries mode base [] told) so.2)

-- LISTED: what is on its way lists the accepted events
pub listed : (core : CoreView) (list : List (List ℕ)) → All (λ a. IsKept a.event) (accepted_by core) → IsOnWay (history_of core) list → AreListed core (payloads (history_of core) list)
listed core list all way =
    let so = are_so core.mode (base_of core) (told_of core) all in
    let based : length (base_of core) ≡ core.base = sym (length-map (base_of core) (λ (b : Body). b.bytes)) ∙ sym (ap length way.texts) ∙ length-map (take core.base list) text_in
    ∙ length-take-le core.base list way.based in
    record {
      front = take core.base list;
      more = by_entries core.mode (base_of core) [] (told_of core);
      parted = ap (λ l. l ++ missing (history_of core) list) (sym (take-append-drop core.base list)) ∙ append_assoc (take core.base list) (drop core.base list) (missing (history_of core) list)
          ∙ ap (λ l. take core.base list ++ l) way.all;
      base = way.texts;
      each = subst (λ l. Pointwise (IsPayload core.mode (base_of core) (told_of core)) l (by_entries core.mode (base_of core) [] (told_of core)))
          (sym (ap (λ n. drop n (accepted_by core)) (sym based) ∙ ap (drop (length (base_of core))) so.1 ∙ drop_front (base_of core) so.0)) so.2;
    }
