-- The blames of two cores, from what was judged of the events of the first.
use Rattle.std.proofs.Common.{◌≡◌, ℕ, true, false, ◌&&◌, List, [], ◌∷◌, map, take, Option, Some, None, Contains, refl, sym, ◌∙◌, ap, subst, inl, inr}
use Rattle.std.specs.Prelude.{All, filter, slice_get}
use Rattle.std.specs.BTreeMap.{is_at}
use Rattle.std.specs.List.{AllByRecursion}
use Rattle.std.specs.List.Sorted.{IsStrictlySortedBy}
use Rattle.std.specs.Map.{keys_of, values_of}
use Rattle.std.specs.Ordering.{is_eq}
use Rattle.std.specs.declared.cmp.Ordering.TheVariants.{Less}
use Rattle.std.proofs.lemmas.Bool.{cases_Bool}
use Rattle.std.proofs.lemmas.List.Elements.{All-cons, All-nil, All-weaker}
use Rattle.std.proofs.lemmas.Option.{get_or_from_slice_get, slice_get_within}
use Rattle.cesr_codes.specs.Spelling.{IsPrefix, prefix_text}
use Rattle.event_body.specs.EventBody.Events.{prefix_of, is_establishment}
use Rattle.event_body.specs.EventBody.Judging.{SpellsEvent}
use Rattle.key_state.specs.Same.{distinct, has_key, same_key}
use Rattle.validator_core.specs.Acceptance.Standing.{IsHeld}
use Rattle.journal.specs.Journal.Accepted.{accepted}
use Rattle.journal.specs.Journal.Grown.{IsGrown}
use Rattle.journal.specs.Journal.History.{bodies}
use Rattle.journal.specs.Journal.Questions.{IsRegular}
use Rattle.journal.specs.Journal.Readiness.{backs}
use Rattle.journal.specs.declared.journal.body.Body.{Body}
use Rattle.journal.specs.declared.journal.mode.Mode.TheVariants.{Full}
use Rattle.journal.proofs.JournalLemmas.Keeping.{accepted_grown}
use Rattle.journal.proofs.JournalLemmas.Premises.{nothing_grown}
use Rattle.quorum_laws.specs.Backing.{AreSpelled, rules_in}
use Rattle.quorum_laws.specs.Histories.{AreLevel}
use Rattle.blame_core.specs.BlameLaws.Blame.{culprits}
use Rattle.blame_core.specs.BlameLaws.Signatures.{signature_of}
use Rattle.key_state.proofs.Among.{Among, contained, map_among}
use Rattle.blame_core.proofs.BlameLawsLemmas.Blame.{blame}
use Rattle.blame_core.proofs.BlameLawsLemmas.Claimed.{claimed}
use Rattle.blame_core.proofs.BlameLawsLemmas.Rising.{one_establishment}
use Rattle.blame_core.specs.BlameCore.Blames.{AreBlames, AreNamed, AreRivals, IsBlame, IsListed, blame_cmp}
use Rattle.blame_core.specs.BlameCore.Establishments.{AreEstablishments, IsAt, event_at, place_cmp, place_of}
use Rattle.blame_core.specs.BlameCore.Rivals.{AnswersOf, IsAnswer, Judges, alone, beside}
use Rattle.blame_core.specs.declared.blame_core.establishments.Establishment.{Establishment}
use Rattle.blame_core.specs.declared.blame_core.blames.Blame.{Blame}
use Rattle.blame_core.specs.declared.blame_core.place.Place.{Place}
use Rattle.blame_core.proofs.BlameCoreLemmas.BothSigned.{named_keys, named_ones, named_others}
use Rattle.blame_core.proofs.BlameCoreLemmas.Judged.{AllJudged, given, judged_so, judgement_of}
use Rattle.blame_core.proofs.BlameCoreLemmas.Places.{looked_up, one_place, place_itself, place_same}
use Rattle.validator_core.specs.ValidatorCore.View.{CoreView, IsSoundCore, accepted_by, told_of}

all_by : {X : Type 0} (P : X → Type 0) (xs : List X) (x : X) → AllByRecursion P xs → Among x xs → P x
all_by P [] x all m = absurd m
all_by P (y ∷ xs) x all (inl e) = subst P e all.0
all_by P (y ∷ xs) x all (inr m) = all_by P xs x all.1 m

among_keys : (es : List (Place × Establishment)) (e : Place × Establishment) → Among e es → Among e.0 (keys_of es)
among_keys [] e m = absurd m
among_keys (d ∷ es) e (inl same) = inl (ap (λ e. e.0) same)
among_keys (d ∷ es) e (inr m) = inr (among_keys es e m)

-- where the places ascend, each entry is found at its own
found_at : (es : List (Place × Establishment)) → IsStrictlySortedBy place_cmp (keys_of es) → (e : Place × Establishment) → Among e es
    → event_at es e.0 ≡ Some e.1
unfolding IsStrictlySortedBy
found_at [] s e m = absurd m
found_at (d ∷ es) s e (inl same) = subst (λ e. event_at (d ∷ es) e.0 ≡ Some e.1) same (let here = place_itself d.0 in rw here refl)
found_at (d ∷ es) s e (inr m) = elim (cases_Bool (is_at (place_cmp e.0) d.0)) [
  | inl here ↦ (let less = all_by (λ k. place_cmp d.0 k ≡ Less) (keys_of es) e.0 s.0 (among_keys es e m) in
      let same = place_same e.0 d.0 here in
      let equal : is_eq (place_cmp d.0 e.0) ≡ true = subst (λ k. is_at (place_cmp d.0) k ≡ true) (sym same) (place_itself d.0) in
      let no : false ≡ true = ap is_eq (sym less) ∙ equal in cc)
  | inr other ↦ (let rest = found_at es s.1 e m in rw other rest)
]

-- the place of a blame
abbrev blame_place : Blame → Place
blame_place x = record { prefix = prefix_text x.prefix; sn = x.sn }

-- a blame has the place of the event
abbrev HasItsPlace : Establishment → Option Blame → Type 0
HasItsPlace v o = (x : Blame) → o ≡ Some x → blame_place x ≡ v.place

places_below : (k : Place) (x : Blame) → blame_place x ≡ k → (vs : List Establishment) (os : List (Option Blame)) → AllJudged HasItsPlace vs os
    → AllByRecursion (λ l. place_cmp k l ≡ Less) (map (λ (v : Establishment). v.place) vs) → AllByRecursion (λ y. blame_cmp x y ≡ Less) (given os)
places_below k x at [] [] all s = tt
places_below k x at [] (o ∷ os) all s = absurd all
places_below k x at (v ∷ vs) [] all s = absurd all
places_below k x at (v ∷ vs) (None ∷ os) all s = places_below k x at vs os all.1 s.1
places_below k x at (v ∷ vs) (Some y ∷ os) all s =
    (let here = all.0 y refl in (λ i. place_cmp (at i) (here i)) ∙ s.0, places_below k x at vs os all.1 s.1)

blames_ascend : (vs : List Establishment) (os : List (Option Blame)) → AllJudged HasItsPlace vs os
    → IsStrictlySortedBy place_cmp (map (λ (v : Establishment). v.place) vs) → IsStrictlySortedBy blame_cmp (given os)
unfolding IsStrictlySortedBy
blames_ascend [] [] all s = tt
blames_ascend [] (o ∷ os) all s = absurd all
blames_ascend (v ∷ vs) [] all s = absurd all
blames_ascend (v ∷ vs) (None ∷ os) all s = blames_ascend vs os all.1 s.1
blames_ascend (v ∷ vs) (Some x ∷ os) all s = (places_below v.place x (all.0 x refl) vs os all.1 s.0, blames_ascend vs os all.1 s.1)

places_are : (es : List (Place × Establishment)) → ((e : Place × Establishment) → Among e es → e.1.place ≡ e.0)
    → keys_of es ≡ map (λ (v : Establishment). v.place) (values_of es)
places_are [] at = refl
places_are (e ∷ es) at = (let here = at e (inl refl) in let rest = places_are es (λ d m. at d (inr m)) in λ i. sym here i ∷ rest i)

each_given : (P : Blame → Type 0) (vs : List Establishment) (os : List (Option Blame)) → AllJudged (λ v o. (x : Blame) → o ≡ Some x → P x) vs os → All P (given os)
each_given P [] [] all = All-nil P
each_given P [] (o ∷ os) all = absurd all
each_given P (v ∷ vs) [] all = absurd all
each_given P (v ∷ vs) (None ∷ os) all = each_given P vs os all.1
each_given P (v ∷ vs) (Some x ∷ os) all = All-cons P x (given os) (all.0 x refl) (each_given P vs os all.1)

held_in : (held : List Body) (n : ℕ) (b : Body) → slice_get held n ≡ Some b → Contains held b
held_in held n b at = (n, slice_get_within held n b at, get_or_from_slice_get held n b b at)

-- what a full core with an empty base accepted, and what is true of it
pub record IsWhole (core : CoreView) : Type 0 where
  pub log_is : accepted_by core ≡ accepted Full [] (told_of core)
  pub held_is : core.held ≡ bodies [] (told_of core)
  pub spelled : AreSpelled (bodies [] (told_of core))
  pub regular : IsRegular Full [] (told_of core)
  pub grown : IsGrown (accepted_by core)

pub whole_core : (core : CoreView) → core.mode ≡ Full → core.base ≡ 0 → IsSoundCore core → IsWhole core
whole_core core full whole stands =
    let told = told_of core in
    let log : accepted_by core ≡ accepted Full [] told = λ i. accepted (full i) (take (whole i) core.held) told in
    let held : core.held ≡ bodies [] told = stands.in_order ∙ (λ i. bodies (take (whole i) core.held) told) in
    record {
      log_is = log;
      held_is = held;
      spelled = subst AreSpelled held (All-weaker IsHeld (λ b. SpellsEvent b.event b.bytes) (λ b h. h.spelled) core.held stands.spelled);
      regular = subst (λ m. IsRegular m [] told) full (subst (λ n. IsRegular core.mode (take n core.held) told) whole stands.regular);
      grown = subst IsGrown (sym log) (accepted_grown Full [] told nothing_grown);
    }

-- at the place of an accepted event stands its own number
own_number : (log held : List Body) → IsGrown log → (b : Body) (x : Establishment) → IsAt held log (place_of b.event) x → Contains log b
    → is_establishment b.event ≡ true → IsPrefix (prefix_of b.event) → slice_get held x.number ≡ Some b
own_number log held grown b x at inside sets_keys spelled =
    let same = one_place b.event at.body.event spelled at.spelled at.at in
    let level : AreLevel b.event at.body.event =
    record { first_sets_keys = sets_keys; second_sets_keys = at.sets_keys; prefix = same.0; sn = same.1 } in
    let one = one_establishment log b at.body grown inside at.inside level in
    at.number ∙ ap (λ c. Some c) (sym one)

module _ (first second : CoreView) (one : IsWhole first) (two : IsWhole second) (ones others : List (Place × Establishment))
    (ones_are : AreEstablishments first.held (accepted_by first) ones) (others_are : AreEstablishments second.held (accepted_by second) others)
    (sorted : IsStrictlySortedBy place_cmp (keys_of ones)) where
  entry_at : (e : Place × Establishment) → Among e ones → IsAt first.held (accepted_by first) e.0 e.1
  entry_at e m = ones_are.each e.0 e.1 (found_at ones sorted e m)

  value_at : (v : Establishment) → Among v (values_of ones) → IsAt first.held (accepted_by first) v.place v
  value_at v m =
      let (e, inside, is) = map_among (λ (e : Place × Establishment). e.1) ones v m in
      let at = entry_at e inside in
      subst (λ v. IsAt first.held (accepted_by first) v.place v) is (subst (λ k. IsAt first.held (accepted_by first) k e.1) (sym at.place) at)

  module _ (v other : Establishment) (mine : IsAt first.held (accepted_by first) v.place v) (its : IsAt second.held (accepted_by second) v.place other)
      (x : Blame) (answer : IsAnswer first second v other mine.body its.body x) where
    level : AreLevel mine.body.event its.body.event
    level =
        let same = one_place mine.body.event its.body.event mine.spelled its.spelled (sym mine.at ∙ its.at) in
        record { first_sets_keys = mine.sets_keys; second_sets_keys = its.sets_keys; prefix = same.0; sn = same.1 }

    named : AreNamed (told_of first) mine.body (told_of second) its.body x.culprits
    unfolding culprits
    named =
        let told = told_of first in let told' = told_of second in
        let f = signature_of told mine.body in let g = signature_of told' its.body in
        let b_held = subst (λ bs. Contains bs mine.body) one.held_is (held_in first.held v.number mine.body mine.number) in
        let c_held = subst (λ bs. Contains bs its.body) two.held_is (held_in second.held other.number its.body its.number) in
        let ks = distinct same_key v.witnesses in
        let keys = named_keys other.witnesses f g (backs told mine.body) (backs told' its.body) (λ k. claimed Full told mine.body k one.regular b_held) (λ k. claimed Full told' its.body k two.regular c_held) ks in
        let own : v.witnesses ≡ (rules_in (accepted Full [] told) mine.body).witnesses = mine.witnesses ∙ ap (λ l. (rules_in l mine.body).witnesses) one.log_is in
        let its_own : other.witnesses ≡ (rules_in (accepted Full [] told') its.body).witnesses = its.witnesses ∙ ap (λ l. (rules_in l its.body).witnesses) two.log_is in
        record {
          keys = ap (map (λ x. x.key)) answer.culprits ∙ keys ∙ (λ i. filter (λ w. has_key (its_own i) w && (backs told mine.body w && backs told' its.body w)) (distinct same_key (own i)));
          ones = subst (All (λ x. f x.key ≡ Some x.one)) (sym answer.culprits) (named_ones other.witnesses f g ks);
          others = subst (All (λ x. g x.key ≡ Some x.other)) (sym answer.culprits) (named_others other.witnesses f g ks);
        }

    pub is_blame : IsBlame first second x
    is_blame = record {
      one = mine.body;
      other = its.body;
      one_is = ap (slice_get first.held) answer.one_is ∙ mine.number;
      other_is = ap (slice_get second.held) answer.other_is ∙ its.number;
      rivals = record { first = mine.inside; second = its.inside; level = level; differ = answer.differ };
      prefix = answer.prefix;
      sn = answer.sn;
      named = named;
      blamed = blame (told_of first) (told_of second) mine.body its.body one.spelled two.spelled (subst (λ l. Contains l mine.body) one.log_is mine.inside)
          (subst (λ l. Contains l its.body) two.log_is its.inside) level answer.differ;
    }

    pub its_place : blame_place x ≡ v.place
    its_place = (λ i. record { prefix = prefix_text (answer.prefix i); sn = answer.sn i }) ∙ sym mine.at

  -- what is judged of an event is its blame, at its place
  pub judged_blame : (v : Establishment) (o : Option Blame) → Among v (values_of ones) → Judges first second v others o
      → (x : Blame) → o ≡ Some x → IsBlame first second x × (blame_place x ≡ v.place)
  judged_blame v o m (alone e none) x is = (let no : None ≡ Some x = sym none ∙ is in cc)
  judged_blame v o m (beside {other = other} e answers) x is =
      let mine = value_at v m in
      let its = others_are.each v.place other e in
      let answer : IsAnswer first second v other mine.body its.body x =
      subst (λ o. AnswersOf first second v other mine.body its.body o) is (answers mine.body its.body mine.number its.number) in
      (is_blame v other mine its x answer, its_place v other mine its x answer)

  listed : (os : List (Option Blame)) → AllJudged (λ v o. Judges first second v others o) (values_of ones) os → (b c : Body)
      → AreRivals (accepted_by first) (accepted_by second) b c → IsListed first second (given os) b c
  listed os all b c rivals =
      let mine = ones_are.all b rivals.first rivals.level.first_sets_keys in
      let its = others_are.all c rivals.second rivals.level.second_sets_keys in
      let v = mine.found in
      let v_at = ones_are.each (place_of b.event) v mine.is in
      let number = own_number (accepted_by first) first.held one.grown b v v_at rivals.first rivals.level.first_sets_keys mine.spelled in
      let other_number = own_number (accepted_by second) second.held two.grown c its.found (others_are.each (place_of c.event) its.found its.is) rivals.second
      rivals.level.second_sets_keys its.spelled in
      let same : place_of c.event ≡ v.place = (λ i. record { prefix = prefix_text (sym rivals.level.prefix i); sn = sym rivals.level.sn i }) ∙ sym v_at.place in
      let beside_it : event_at others v.place ≡ Some its.found = ap (event_at others) (sym same) ∙ its.is in
      let (o, judged, inside) = judgement_of (λ v o. Judges first second v others o) (values_of ones) os v all (looked_up (is_at (place_cmp (place_of b.event))) ones v mine.is) in
      told v its.found o beside_it judged number other_number rivals.differ (given os) inside
    where
      answered : (v other : Establishment) (o : Option Blame) → AnswersOf first second v other b c o → slice_get first.held v.number ≡ Some b
          → slice_get second.held other.number ≡ Some c → (b.bytes ≡ c.bytes → ⊥) → (xs : List Blame) → ((x : Blame) → o ≡ Some x → Among x xs)
          → IsListed first second xs b c
      answered v other None a n m differ xs inside = absurd (differ a)
      answered v other (Some x) a n m differ xs inside = record {
        blame = x;
        listed = contained xs x (inside x refl);
        one_is = ap (slice_get first.held) a.one_is ∙ n;
        other_is = ap (slice_get second.held) a.other_is ∙ m;
      }

      told : (v other : Establishment) (o : Option Blame) → event_at others v.place ≡ Some other → Judges first second v others o
          → slice_get first.held v.number ≡ Some b → slice_get second.held other.number ≡ Some c → (b.bytes ≡ c.bytes → ⊥) → (xs : List Blame)
          → ((x : Blame) → o ≡ Some x → Among x xs) → IsListed first second xs b c
      told v other o e (alone none is) n m differ xs inside = (let no : None ≡ Some other = sym none ∙ e in cc)
      told v other o e (beside {other = found} at answers) n m differ xs inside =
          let some : Some found ≡ Some other = sym at ∙ e in
          let is : found ≡ other = cc in
          let m' : slice_get second.held found.number ≡ Some c = ap (λ (x : Establishment). slice_get second.held x.number) is ∙ m in
          answered v found o (answers b c n m') n m' differ xs inside

  -- BLAMES: each pair is there, and they ascend
  pub blames_are : (os : List (Option Blame)) → AllJudged (λ v o. Judges first second v others o) (values_of ones) os → AreBlames first second (given os)
  blames_are os all =
      let each = judged_so (λ v o. Judges first second v others o) (λ v o. (x : Blame) → o ≡ Some x → IsBlame first second x)
      (values_of ones) os (λ v o m j x is. (judged_blame v o m j x is).0) all in
      let places = judged_so (λ v o. Judges first second v others o) HasItsPlace
      (values_of ones) os (λ v o m j x is. (judged_blame v o m j x is).1) all in
      record {
        each = each_given (IsBlame first second) (values_of ones) os each;
        all = λ b c rivals. listed os all b c rivals;
        ordered = blames_ascend (values_of ones) os places (subst (IsStrictlySortedBy place_cmp) (places_are ones (λ e m. (entry_at e m).place)) sorted);
      }
