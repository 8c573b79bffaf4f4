-- What a reader answers of a payload.
use Rattle.std.proofs.Common.{◌≡◌, ℕ, zero, suc, ◌+◌, ◌≤◌, ◌<◌, ◌==◌, true, false, List, [], ◌∷◌, ◌++◌, length, take, drop, slice_index, Some, None, Ok, refl, sym, ap, ◌∙◌, arith, inl, inr, length-take, length-drop, if◌then◌else◌}
use Rattle.std.proofs.lemmas.List.{nil_from_length}
use Rattle.std.proofs.lemmas.Bool.{cases_Bool, eqb-true}
use Rattle.cesr_codes.specs.declared.indexed_sig.IndexedSig.{IndexedSig}
use Rattle.cesr_stream.specs.Front.{attached_part, behind_body, front}
use Rattle.cesr_stream.specs.Parts.{Part, whole, refused, unfinished}
use Rattle.cesr_stream.specs.Reading.{Answers, AnswersItem, Reading, fed_with, fresh, judged}
use Rattle.cesr_stream.specs.Texts.{group_text, wrap_text}
use Rattle.cesr_stream.specs.declared.group.Group.{Group}
use Rattle.cesr_stream.specs.declared.group.Group.TheVariants.{Controller, Witness, Couples, FirstSeen, Anchor}
use Rattle.cesr_stream.specs.declared.item.Item.TheVariants.{Body as BodyItem, Group as GroupItem, Wrapped}
use Rattle.cesr_stream.specs.declared.step.Step.{Step}
use Rattle.cesr_stream.specs.declared.step.Step.TheVariants.{Item as ItemStep, NeedMore, Bad as BadStep}
use Rattle.cesr_stream.proofs.WrittenItems.{four_of}
use Rattle.journal_views.specs.EventPayload.Payloads.{IsBehindBody, are_groups, front_with, text_in}
use Rattle.journal_views.specs.EventPayload.Steps.{is_group, size_in}
use Rattle.journal_views.proofs.EventPayloadLemmas.Groups.{held_begins, none_left, not_finished, not_good, one_more, other_begins, otherwise, parted}

-- What is left is groups just where all behind the body was.
pub record Left (start reading : Reading) : Type 0 where
  pub behind : IsBehindBody reading
  pub most : ℕ
  pub enough : length reading.rest ≤ most
  pub same : are_groups most reading.rest ≡ are_groups (length start.rest) start.rest

-- nothing was read
pub left_all : (reading : Reading) → IsBehindBody reading → Left reading reading
left_all reading behind = record { behind = behind; most = length reading.rest; enough = omega arith; same = refl }

-- nothing is left
pub left_none : (start reading : Reading) → Left start reading → length reading.rest ≤ 0 → true ≡ are_groups (length start.rest) start.rest
left_none start reading left none =
    sym (none_left left.most) ∙ ap (are_groups left.most) (sym (nil_from_length reading.rest (omega (arith, none)))) ∙ left.same

module _ (start old : Reading) (left : Left start old) (some : 0 < length old.rest) (new : Reading) where
  there : judged old ≡ front 65535 true old.rest
  there = λ i. front (left.behind.limit i) (left.behind.begun i) old.rest

  -- a group was answered
  module _ (sigs : List IndexedSig) (place : ℕ) (answer : AnswersItem old new (GroupItem (Controller sigs)) place) where
    shorter : length new.rest + 4 ≤ length old.rest
    shorter =
        let n = answer.length_of in
        let long : 4 ≤ n = omega (arith, four_of (Controller sigs), ap length answer.spelled, length-take n old.rest) in
        omega (arith, ap (λ (r : Reading). length r.rest) answer.moved, length-drop n old.rest, answer.within, long)

    at : (most : ℕ) → length old.rest ≤ most → are_groups most old.rest ≡ are_groups (length start.rest) start.rest → Left start new
    at zero enough same = absurd (omega (arith, enough, some))
    at (suc most) enough same =
        let n = answer.length_of in
        let rest : new.rest ≡ drop n old.rest = ap (λ (r : Reading). r.rest) answer.moved in
        record {
          behind = record {
            limit = ap (λ (r : Reading). r.limit) answer.moved ∙ left.behind.limit;
            begun = ap (λ (r : Reading). r.begun) answer.moved;
            good = ap (λ (r : Reading). r.bad) answer.moved ∙ left.behind.good;
          };
          most = most;
          enough = omega (arith, enough, shorter);
          same = ap (are_groups most) rest ∙ sym (one_more most n old.rest (held_begins n old.rest sigs answer.spelled) (sym there ∙ answer.is_whole)) ∙ same;
        }

  -- where a group was answered, less is left
  pub next_left : (E : Type 0) (step : Step) → Answers {E = E} old new (Ok step) → is_group step ≡ true → Left start new × (length new.rest < length old.rest)
  next_left E (ItemStep (BodyItem bytes) place) answer group = cc group
  next_left E (ItemStep (GroupItem (Controller sigs)) place) answer group = (at sigs place answer left.most left.enough left.same, omega (arith, shorter sigs place answer))
  next_left E (ItemStep (GroupItem (Witness sigs)) place) answer group = cc group
  next_left E (ItemStep (GroupItem (Couples couples)) place) answer group = cc group
  next_left E (ItemStep (GroupItem (FirstSeen seen)) place) answer group = cc group
  next_left E (ItemStep (GroupItem (Anchor anchors)) place) answer group = cc group
  next_left E (ItemStep (Wrapped groups) place) answer group = cc group
  next_left E NeedMore answer group = cc group
  next_left E (BadStep bad) answer group = cc group

  -- where something else was, groups aren't all that is behind the body
  pub not_groups : (E : Type 0) (step : Step) → Answers {E = E} old new (Ok step) → is_group step ≡ false → false ≡ are_groups (length start.rest) start.rest
  not_groups E (ItemStep item place) answer other = sym (otherwise left.most old.rest some (other_begins answer.length_of old.rest item answer.spelled other)) ∙ left.same
  not_groups E NeedMore answer other = sym (not_finished left.most old.rest some (sym there ∙ answer.1)) ∙ left.same
  not_groups E (BadStep bad) (inl answer) other = cc (answer.0, left.behind.good)
  not_groups E (BadStep bad) (inr answer) other = sym (not_good left.most old.rest answer.within bad.reason some (sym there ∙ answer.is_refused)) ∙ left.same

-- before any body no group is whole
never : (part : Part) (n : ℕ) → behind_body false part ≡ whole n → ⊥
never (whole m) n e = cc e
never (refused place reason) n e = cc e
never unfinished n e = cc e

body_first : (bytes : List ℕ) (n : ℕ) → front 65535 false bytes ≡ whole n → slice_index bytes 0 ≡ 123
unfolding front
body_first [] n e = cc e
body_first (b ∷ bytes) n e = elim (cases_Bool (b == 123)) [
  | inl t ↦ eqb-true b 123 t
  | inr f ↦ elim (cases_Bool (b == 45)) [
    | inl t ↦ absurd (never (attached_part (b ∷ bytes)) n (rw (f, t) at e))
    | inr g ↦ cc (rw (f, g) at e)
  ]
]

dash : (group : Group) (more : List ℕ) → slice_index (group_text group ++ more) 0 ≡ 45
dash (Controller sigs) more = refl
dash (Witness sigs) more = refl
dash (Couples couples) more = refl
dash (FirstSeen seen) more = refl
dash (Anchor anchors) more = refl

-- the payload was fed, and nothing was read of it
pub record IsFed (payload : List ℕ) (reading : Reading) : Type 0 where
  pub rest : reading.rest ≡ payload
  pub limit : reading.limit ≡ 65535
  pub begun : reading.begun ≡ false
  pub good : reading.bad ≡ None

pub fed_all : (limit : ℕ) (payload : List ℕ) (first fed : Reading) → first ≡ fresh limit → limit ≡ 65535 → fed ≡ fed_with first payload first.bad → IsFed payload fed
fed_all limit payload first fed is standard more =
    let e : fed ≡ fed_with (fresh limit) payload None = more ∙ ap (λ (r : Reading). fed_with r payload r.bad) is in
    record {
      rest = ap (λ (r : Reading). r.rest) e;
      limit = ap (λ (r : Reading). r.limit) e ∙ standard;
      begun = ap (λ (r : Reading). r.begun) e;
      good = ap (λ (r : Reading). r.bad) e;
    }

module _ (payload : List ℕ) (old new : Reading) (fed : IsFed payload old) where
  ahead : judged old ≡ front 65535 false payload
  ahead = λ i. front (fed.limit i) (fed.begun i) (fed.rest i)

  -- no body was answered
  pub no_body : (E : Type 0) (step : Step) → Answers {E = E} old new (Ok step) → size_in step ≡ None → [] ≡ text_in payload
  unfolding text_in
  no_body E (ItemStep (BodyItem bytes) place) answer none = cc none
  no_body E (ItemStep (GroupItem group) place) answer none =
      let n = answer.length_of in
      absurd (omega (
        arith,
        body_first payload n (sym ahead ∙ answer.is_whole),
        ap (λ t. slice_index t 0) (parted n payload (group_text group) (ap (take n) (sym fed.rest) ∙ answer.spelled)),
        dash group (drop n payload),
      ))
  no_body E (ItemStep (Wrapped groups) place) answer none =
      let n = answer.length_of in
      absurd (omega (
        arith,
        body_first payload n (sym ahead ∙ answer.is_whole),
        ap (λ t. slice_index t 0) (parted n payload (wrap_text groups) (ap (take n) (sym fed.rest) ∙ answer.spelled)),
      ))
  no_body E NeedMore answer none = sym (ap (front_with payload) (sym ahead ∙ answer.1))
  no_body E (BadStep bad) (inl answer) none = cc (answer.0, fed.good)
  no_body E (BadStep bad) (inr answer) none = sym (ap (front_with payload) (sym ahead ∙ answer.is_refused))

  -- a body was answered, and groups are judged behind it
  pub record IsSplit (size : ℕ) : Type 0 where
    pub behind : IsBehindBody new
    pub within : size ≤ length payload
    pub text : text_in payload ≡ (if are_groups (length new.rest) new.rest then take size payload else [])

  pub body_there : (E : Type 0) (step : Step) (size : ℕ) → Answers {E = E} old new (Ok step) → size_in step ≡ Some size → IsSplit size
  unfolding text_in
  body_there E (ItemStep (BodyItem bytes) place) size answer is =
      let n = answer.length_of in
      let rest : new.rest ≡ drop n payload = ap (λ (r : Reading). r.rest) answer.moved ∙ ap (drop n) fed.rest in
      let long : length bytes ≡ n = omega (arith, ap length answer.spelled.0, length-take n old.rest, answer.within) in
      let same : length bytes ≡ size = cc is in
      let cut : n ≡ size = sym long ∙ same in
      record {
        behind = record {
          limit = ap (λ (r : Reading). r.limit) answer.moved ∙ fed.limit;
          begun = ap (λ (r : Reading). r.begun) answer.moved;
          good = ap (λ (r : Reading). r.bad) answer.moved ∙ fed.good;
        };
        within = omega (arith, answer.within, ap length fed.rest, cut);
        text = ap (front_with payload) (sym ahead ∙ answer.is_whole)
            ∙ (λ i. if are_groups (length (sym rest i)) (sym rest i) then take (cut i) payload else []);
      }
  body_there E (ItemStep (GroupItem group) place) size answer is = cc is
  body_there E (ItemStep (Wrapped groups) place) size answer is = cc is
  body_there E NeedMore size answer is = cc is
  body_there E (BadStep bad) size answer is = cc is
