-- What is raised stays raised as more is told, and a body keeps its number.
use Rattle.std.proofs.Common.{◌≡◌, ◌+◌, ◌==◌, Bool, true, false, ◌||◌, ◌&&◌, ℕ, List, [], ◌∷◌, ◌++◌, Option, Some, None, refl, sym, ◌∙◌, ap, append-nil, append_assoc, inl, inr}
use Rattle.std.specs.Prelude.{flat_map, filter_map, slice_get}
use Rattle.std.specs.List.{list_any}
use Rattle.std.proofs.lemmas.Bool.{cases_Bool, or_left, or_right}
use Rattle.std.proofs.lemmas.List.Folds.{list_any-append}
use Rattle.std.proofs.lemmas.List.Elements.{filter_map-append}
use Rattle.std.proofs.lemmas.Grind.{flat_map-append}
use Rattle.event_body.specs.declared.event_body.event.Event.{Event}
use Rattle.event_body.specs.declared.event_body.event.Event.TheVariants.{Icp, Rot, Ixn, Dip, Drt, Rct}
use Rattle.event_body.specs.EventBody.Events.{is_inception, prefix_of, prior_of, said_of, sn_of}
use Rattle.journal.specs.declared.journal.body.Body.{Body}
use Rattle.journal.specs.declared.journal.mode.Mode.{Mode}
use Rattle.journal.specs.Journal.Accepted.{accepted}
use Rattle.journal.specs.Journal.History.{Told, Triple, bodies, claims_in, claims_on, same_triple, taken, triple_of}
use Rattle.journal.specs.Journal.Logs.{is_of, precedes, predecessor, same_body, stands}
use Rattle.journal.specs.Journal.Questions.{raised, raised_by, state_before}
use Rattle.journal.proofs.JournalLemmas.Accepting.{accepted_extends}
use Rattle.journal.proofs.JournalLemmas.Distinct.{any-distinct, distinct-push_new, distinct-push_old}
use Rattle.journal.proofs.JournalLemmas.Places.{slice_get_front}
use Rattle.journal.proofs.JournalLemmas.Same.{any_turned, moves, same_triple_is, same_triple_itself}
use Rattle.key_state.specs.Exposure.{own_rules}
use Rattle.key_state.specs.KeyStates.{are_same}
use Rattle.key_state.specs.Same.{distinct}
use Rattle.claim_table.proofs.CoreLawsLemmas.Predecessors.{state_before-kept, state_before-none}

prior_none : (e : Event) → is_inception e ≡ true → prior_of e ≡ None
prior_none (Icp e) h = refl
prior_none (Dip e) h = refl
prior_none (Rot e) h = cc
prior_none (Ixn e) h = cc
prior_none (Drt e) h = cc
prior_none (Rct e) h = cc

never : (x : Bool) → (x && false) ≡ false
never true = refl
never false = refl

module _ (log : List Body) (c b : Body) where
  -- nothing precedes an inception
  none_before : is_inception b.event ≡ true → precedes b c ≡ false
  none_before h = ap (λ p. (is_of (prefix_of b.event) c && (sn_of c.event + 1 == sn_of b.event)) && are_same p (Some (said_of c.event))) (prior_none b.event h) ∙ never (is_of (prefix_of b.event) c && (sn_of c.event + 1 == sn_of b.event))

  inception_here : stands log b ≡ true → predecessor log b ≡ None → is_inception b.event ≡ true
  unfolding stands
  inception_here s e = elim (cases_Bool (is_inception b.event)) [
    | inl k ↦ k
    | inr k ↦ (let none : false ≡ true = rw (k, e) at s in cc)
  ]

  -- what stands follows the same state with one more event
  one_more : stands log b ≡ true → state_before (log ++ c ∷ []) b ≡ state_before log b
  one_more s = by_found (predecessor log b) refl
    where
      by_found : (o : Option Body) → predecessor log b ≡ o → state_before (log ++ c ∷ []) b ≡ state_before log b
      by_found None e = state_before-none log c b e (none_before (inception_here s e))
      by_found (Some x) e = state_before-kept log c b x e

stands_by : (log more : List Body) (b : Body) → state_before more b ≡ state_before log b → stands more b ≡ stands log b
unfolding stands
stands_by log more b e = rw e refl

-- and with many
state_stays : (log new : List Body) (b : Body) → stands log b ≡ true → state_before (log ++ new) b ≡ state_before log b
state_stays log [] b s = ap (λ l. state_before l b) (append-nil log)
state_stays log (c ∷ new) b s =
    let one = one_more log c b s in
    ap (λ l. state_before l b) (sym (append_assoc log (c ∷ []) new)) ∙ (state_stays (log ++ c ∷ []) new b (stands_by log (log ++ c ∷ []) b one ∙ s) ∙ one)

-- what a body raises it raises still
raised_by_stays : (f : Triple → Bool) (told more : List Told) (log new : List Body) (b : Body) → list_any f (raised_by told log b) ≡ true → list_any f (raised_by (told ++ more) (log ++ new) b) ≡ true
unfolding raised_by claims_on
raised_by_stays f told more log new b h = elim (cases_Bool (stands log b)) [
  | inl s ↦ (
      let state = state_stays log new b s in
      let later = stands_by log (log ++ new) b state ∙ s in
      let old : list_any f (filter_map (triple_of (own_rules (state_before log b) b.event) b) (flat_map (claims_in b) told)) ≡ true = rw s at h in
      let all = flat_map-append (claims_in b) told more in
      rw (later, state, all, filter_map-append, list_any-append) (or_left _ _ old)
      )
  | inr s ↦ (let none : false ≡ true = rw s at h in cc)
]

-- the first comings of a list begin those of a longer one
distinct_begins : {X : Type 0} (same : X → X → Bool) (xs ys : List X) → (rest : List X) × (distinct same (xs ++ ys) ≡ distinct same xs ++ rest)
distinct_begins same xs [] = ([], ap (distinct same) (append-nil xs) ∙ sym (append-nil _))
distinct_begins same xs (y ∷ ys) =
    let (rest, e) = distinct_begins same (xs ++ y ∷ []) ys in
    let whole = ap (distinct same) (sym (append_assoc xs (y ∷ []) ys)) ∙ e in
    elim (cases_Bool (list_any (λ z. same z y) xs)) [
      | inl k ↦ (rest, whole ∙ ap (λ l. l ++ rest) (distinct-push_old same y xs k))
      | inr k ↦ (y ∷ rest, whole ∙ (ap (λ l. l ++ rest) (distinct-push_new same y xs k) ∙ append_assoc (distinct same xs) (y ∷ []) rest))
    ]

-- BODIES: those that came stay, with their numbers
pub bodies_begin : (told more : List Told) → (rest : List Body) × (bodies [] (told ++ more) ≡ bodies [] told ++ rest)
unfolding bodies
bodies_begin told more =
    let (rest, e) = distinct_begins same_body (flat_map taken told) (flat_map taken more) in
    (rest, ap (distinct same_body) (flat_map-append taken told more) ∙ e)

pub bodies_stay : (told more : List Told) (n : ℕ) (b : Body) → slice_get (bodies [] told) n ≡ Some b → slice_get (bodies [] (told ++ more)) n ≡ Some b
bodies_stay told more n b e = let (rest, is) = bodies_begin told more in rw is (slice_get_front (bodies [] told) rest n b e)

any_each : {B X : Type 0} (f : X → Bool) (g k : B → List X) → ((b : B) → list_any f (g b) ≡ true → list_any f (k b) ≡ true) → (bs : List B) → list_any f (flat_map g bs) ≡ true → list_any f (flat_map k bs) ≡ true
any_each f g k more [] h = h
any_each f g k more (b ∷ bs) h =
    let parted : (list_any f (g b) || list_any f (flat_map g bs)) ≡ true = sym (list_any-append f (g b) (flat_map g bs)) ∙ h in
    list_any-append f (k b) (flat_map k bs) ∙ elim (cases_Bool (list_any f (g b))) [
      | inl here ↦ or_left _ _ (more b here)
      | inr there ↦ (let rest : list_any f (flat_map g bs) ≡ true = rw there at parted in or_right (list_any f (k b)) _ (any_each f g k more bs rest))
    ]

-- what the bodies raise they raise still
all_raise : (mode : Mode) (told more : List Told) (t : Triple) → list_any (λ u. same_triple u t) (flat_map (raised_by told (accepted mode [] told)) (bodies [] told)) ≡ true
    → list_any (λ u. same_triple u t) (flat_map (raised_by (told ++ more) (accepted mode [] (told ++ more))) (bodies [] (told ++ more))) ≡ true
all_raise mode told more t h =
    let f : Triple → Bool = λ u. same_triple u t in
    let (new, log) = accepted_extends mode [] told more in
    let (rest, bs) = bodies_begin told more in
    let front = any_each f (raised_by told (accepted mode [] told)) (raised_by (told ++ more) (accepted mode [] told ++ new)) (raised_by_stays f told more (accepted mode [] told) new) (bodies [] told) h in
    rw (log, bs, flat_map-append, list_any-append) (or_left _ _ front)

-- QUESTIONS: what is raised stays raised
pub raised_stays : (mode : Mode) (told more : List Told) (t : Triple) → list_any (same_triple t) (raised mode [] told) ≡ true → list_any (same_triple t) (raised mode [] (told ++ more)) ≡ true
unfolding raised
raised_stays mode told more t h =
    let same : (xs : List Triple) → list_any (same_triple t) (distinct same_triple xs) ≡ list_any (λ u. same_triple u t) xs =
    λ xs. sym (any_turned same_triple same_triple_is same_triple_itself t (distinct same_triple xs)) ∙ any-distinct same_triple (moves same_triple same_triple_is same_triple_itself) t xs in
    same (flat_map (raised_by (told ++ more) (accepted mode [] (told ++ more))) (bodies [] (told ++ more)))
    ∙ all_raise mode told more t (sym (same (flat_map (raised_by told (accepted mode [] told)) (bodies [] told))) ∙ h)
