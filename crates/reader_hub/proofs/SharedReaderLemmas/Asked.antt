-- What asking does to what a pass knows.
use Rattle.std.proofs.Common.{◌≡◌, ℕ, suc, ◌+◌, ◌≤◌, ◌⊎◌, inl, inr, Bool, true, false, List, [], ◌∷◌, ◌++◌, Option, Some, None, IfSome, refl, sym, ◌∙◌, ap, subst, arith, append-nil, append_assoc, if◌then◌else◌, ◌==◌, take}
use Rattle.std.specs.Prelude.{All, slice_get}
use Rattle.std.specs.List.{list_any}
use Rattle.std.proofs.lemmas.List.{append_cancel_left}
use Rattle.std.proofs.lemmas.List.Elements.{All-append, All-cons, All-nil}
use mathlib.Core.List.{IsPrefix, Sublist, nil-sublist}
use mathlib.Core.List.Sublist.{refl as sublist-refl}
use Rattle.lists.specs.KeriSpecs.Shown.{after}
use Rattle.keri_outside.specs.Asked.{inquiry}
use Rattle.keri_outside.specs.declared.inquiry.Inquiry.{Inquiry}
use Rattle.journal.specs.declared.journal.body.Body.{Body}
use Rattle.journal.specs.declared.journal.mode.Mode.{Mode}
use Rattle.journal.specs.declared.journal.question.Noted.{Noted}
use Rattle.journal.specs.declared.journal.question.Noted.TheVariants.{New, Known}
use Rattle.journal.specs.Journal.CoreCalls.{Answers, told_with}
use Rattle.journal.specs.Journal.History.{Told, Triple, heard, bodies, has_verdict, same_triple}
use Rattle.journal.specs.Journal.Journals.{AnswersOn, Names}
use Rattle.journal.specs.Journal.Questions.{IsInStep, ComesNext, next_question, noted, questions, raised}
use Rattle.claim_table.proofs.CoreLawsLemmas.RaisedStays.{bodies_stay, raised_stays}
use Rattle.validator_core.specs.ValidatorCore.Verdicts.{inquiries_in}
use Rattle.validator_core.proofs.ValidatorCoreLemmas.OpenQuestions.{named_on}
use Rattle.turn_lock.specs.Histories.{longer_share}
use Rattle.turn_lock.proofs.Histories.{longer_share-none, prefix_refl, prefix_trans}
use Rattle.reader_hub.specs.ReaderHub.Hubs.{HubPass, AnswersAt, AsksAt}
use Rattle.reader_hub.specs.declared.reader_hub.asked.Asked.{Asked}
use Rattle.reader_hub.specs.declared.reader_hub.core_head.CoreHead.{CoreHead}
use Rattle.reader_hub.specs.SharedReader.Asks.{Asks, AsksFor, AsksOnly, AsksOnlySeen, IsToldOrOpen, IsVerdict, LeavesNone, Says, TellsNothing, verdict_count}
use Rattle.reader_hub.specs.SharedReader.Steps.{StepsAlone}
use Rattle.reader_hub.specs.declared.reader_hub.extent.Extent.{Extent}
use Rattle.reader_hub.specs.declared.reader_hub.extent.Extent.TheVariants.{First, Free, All as Every}
use Rattle.reader_hub.proofs.SharedReaderLemmas.Verdicts.{first_named, verdict_count-append, verdict_count_grows, named_open, new_heard, none_open}
use Rattle.reader_hub.proofs.SharedReaderLemmas.Inquiries.{asked_on, at_most, none_asked}
use Rattle.reader_hub.proofs.SharedReaderLemmas.Known.{only_none, only_on, only_one, raised_known}
use Rattle.reader_hub.proofs.SharedReaderLemmas.Steps.{in_step_more, one_head, steps_still, steps_turn}
use Rattle.reader_hub.proofs.SharedReaderLemmas.Turns.{idle_turn, seen_then, stays_on, turn_begins, turn_stays}

pub longer_share-twice : {E : Type 0} (k : ℕ) (xs ys : List E) (own : List (ℕ × List E)) → longer_share k ys (longer_share k xs own) ≡ longer_share k (xs ++ ys) own
longer_share-twice k xs ys [] = refl
longer_share-twice k xs ys (p ∷ ps) = λ i. (p.0, by_test (p.0 == k) i) ∷ longer_share-twice k xs ys ps i
  where
    by_test : (b : Bool) → (if b then (if b then p.1 ++ xs else p.1) ++ ys else (if b then p.1 ++ xs else p.1)) ≡ (if b then p.1 ++ (xs ++ ys) else p.1)
    by_test true = append_assoc p.1 xs ys
    by_test false = refl

-- a question that was given, or nothing, was asked, and is known to what is seen from then on
module _ (limit : ℕ) (p : HubPass) (extent : Extent) (a : Asked) (q : HubPass) (asked : AsksAt limit p extent (Some a) q) where
  given_known : (now : List Told) → IsPrefix q.seen now → IsToldOrOpen asked.meets.head.mode now (inquiry a.question.key a.bytes.items a.question.sig)
  given_known now begins =
      let mode = asked.meets.head.mode in
      let met = asked.meets.met in
      let body = asked.asked.3.0 in
      let triple = named_on a.question body in
      let opened = named_open mode met asked.asked.0 a.question body asked.asked.3.1 asked.asked.2 in
      let on : IsPrefix met now = subst (λ l. IsPrefix l now) (seen_then limit p met [] q asked.turn ∙ append-nil met) begins in
      let up = subst (λ l. list_any (same_triple triple) (raised mode [] l) ≡ true) on.1 (raised_stays mode met on.0 triple opened.1) in
      subst (λ bytes. IsToldOrOpen mode now (inquiry a.question.key bytes a.question.sig)) (sym asked.asked.3.2) (raised_known mode now triple up)

  pub given_only : (r : HubPass) → IsPrefix q.seen r.seen → r.head ≡ q.head → (before now : Option (List Inquiry)) (n : ℕ)
      → now ≡ after before (take n (inquiry a.question.key a.bytes.items a.question.sig ∷ [])) → AsksOnlySeen before now r
  given_only r begins same before now n is head head_is =
      let here : q.head ≡ Some asked.meets.head = ap (λ x. x.head) asked.turn.now ∙ asked.meets.head_is in
      let one : asked.meets.head ≡ head = one_head r.head asked.meets.head head (same ∙ here) head_is in
      subst (λ (h : CoreHead). AsksOnly before now h.mode r.seen) one (only_one before now asked.meets.head.mode r.seen _ n is (given_known r.seen begins))

-- nothing was asked
pub none_asked_seen : (told : Option (List Inquiry)) (q : HubPass) → AsksOnlySeen told told q
none_asked_seen told q head head_is = only_none told head.mode q.seen

module _ (extent : Extent) (says : Says) where
  -- a call in which nothing is told tells no verdict, whatever was asked
  pub asks_nothing : (before now : Option (List Inquiry)) (p q : HubPass) (k m : ℕ) → AsksFor before now [] m → AsksOnlySeen before now q → TellsNothing p q k
      → Asks extent says before now p q k m
  asks_nothing before now p q k m asked only t = let seen = t.seen in let turns = t.turns in record {
    stays = t.stays;
    verdicts = [];
    own = t.own ∙ sym (longer_share-none p.number p.own);
    each = All-nil _;
    begins = t.begins;
    only = only;
    steps = λ first share alone. subst (StepsAlone q) (sym (append-nil share)) (steps_still p q k t share alone);
    seen = seen;
    turns = omega (arith, seen, turns);
    inquired = at_most before now [] m _ (omega arith) asked;
  }

  pub asks_yet : (told : Option (List Inquiry)) (p : HubPass) → Asks extent says told told p p 0 0
  asks_yet told p = asks_nothing told told p p 0 0 (none_asked told [] refl) (none_asked_seen told p)
      (record { stays = record { number = refl; splits = refl; head = refl }; own = refl; begins = prefix_refl p.seen; seen = omega arith; turns = omega arith })

  pub asks_besides : (before now : Option (List Inquiry)) (p q : HubPass) (k m i j : ℕ) → k ≤ m → i ≤ j → Asks extent says before now p q k i → Asks extent says before now p q m j
  asks_besides before now p q k m i j le few a = record {
    stays = a.stays;
    verdicts = a.verdicts;
    own = a.own;
    each = a.each;
    begins = a.begins;
    only = a.only;
    steps = a.steps;
    seen = a.seen;
    turns = (let t = a.turns in omega (arith, t, le));
    inquired = at_most before now a.verdicts _ _ (omega (arith, few)) a.inquired;
  }

  pub asks_on : (before mid now : Option (List Inquiry)) (p q r : HubPass) (j k m n : ℕ) → Asks extent says before mid p q j m → Asks extent says mid now q r k n → Asks extent says before now p r (j + k) (m + n)
  asks_on before mid now p q r j k m n a b =
      let first = a.turns in
      let second = b.turns in
      let one = a.seen in
      let two = b.seen in
      record {
        stays = stays_on p q r a.stays b.stays;
        verdicts = a.verdicts ++ b.verdicts;
        own = b.own ∙ ((λ i. longer_share (a.stays.number i) b.verdicts (a.own i)) ∙ longer_share-twice p.number a.verdicts b.verdicts p.own);
        each = All-append (IsVerdict p.number says) a.verdicts b.verdicts a.each (subst (λ n. All (IsVerdict n says) b.verdicts) a.stays.number b.each);
        begins = prefix_trans p.seen q.seen r.seen a.begins b.begins;
        only = λ head head_is. only_on head.mode q.seen r.seen b.begins before mid now (a.only head (sym b.stays.head ∙ head_is)) (b.only head head_is);
        steps = λ first share alone. subst (StepsAlone r) (append_assoc share a.verdicts b.verdicts) (b.steps first (share ++ a.verdicts) (a.steps first share alone));
        seen = omega (arith, one, two);
        turns = omega (arith, first, second, one, two);
        inquired = asked_on before mid now a.verdicts b.verdicts _ _ _ (omega (arith, one, two)) a.inquired b.inquired;
      }

  -- A question was asked between two turns, and its verdict told.
  module _ (limit : ℕ) (p : HubPass) (a : Asked) (q r : HubPass) (verdict : Bool) (becomes : Noted) (asked : AsksAt limit p extent (Some a) q) (answered : AnswersAt limit q a.question verdict becomes r) where
    abbrev met : List Told
    met = asked.meets.met

    abbrev later : List Told
    later = answered.meets.met

    abbrev mode : Mode
    mode = asked.meets.head.mode

    abbrev body : Body
    body = asked.asked.3.0

    abbrev triple : Triple
    triple = named_on a.question body

    goes_on : IsPrefix met later
    goes_on = subst (λ l. IsPrefix l later) (seen_then limit p met [] q asked.turn ∙ append-nil met) answered.meets.begins

    same_head : answered.meets.head ≡ asked.meets.head
    same_head = let same : Some answered.meets.head ≡ Some asked.meets.head = sym answered.meets.head_is ∙ (ap (λ x. x.head) asked.turn.now ∙ asked.meets.head_is) in cc

    opened : (has_verdict met triple ≡ false) × (list_any (same_triple triple) (raised mode [] met) ≡ true)
    opened = named_open mode met asked.asked.0 a.question body asked.asked.3.1 asked.asked.2

    raised_then : list_any (same_triple triple) (raised mode [] later) ≡ true
    raised_then = subst (λ l. list_any (same_triple triple) (raised mode [] l) ≡ true) goes_on.1 (raised_stays mode met goes_on.0 triple opened.1)

    held_then : slice_get (bodies [] later) a.question.body ≡ Some body
    held_then = subst (λ l. slice_get (bodies [] l) a.question.body ≡ Some body) goes_on.1 (bodies_stay met goes_on.0 a.question.body body asked.asked.3.1)

    answers : Answers mode [] later q.number body a.question.key a.question.sig verdict becomes (later ++ answered.more)
    answers = subst (λ h. Answers h.mode [] later q.number body a.question.key a.question.sig verdict becomes (later ++ answered.more)) same_head
        (subst (λ o. AnswersOn answered.meets.head.mode [] later q.number o a.question verdict becomes (later ++ answered.more)) held_then answered.answers)

    abbrev asks_it : Inquiry
    asks_it = inquiry a.question.key body.bytes a.question.sig

    abbrev entry : Told
    entry = heard q.number body a.question.key a.question.sig verdict

    -- the verdict was noted, or there was one already
    record OneMore : Type 0 where
      came : (answered.more ≡ []) ⊎ (answered.more ≡ entry ∷ [])
      each : All (IsVerdict q.number says) answered.more
      count : suc (verdict_count met) ≤ verdict_count (later ++ answered.more)
      asked_for : Sublist (inquiries_in answered.more) (asks_it ∷ [])

    one_more : IfSome (says a.question.key body.bytes a.question.sig) (λ said. verdict ≡ said) → OneMore
    unfolding noted
    one_more said = by_verdict (has_verdict later triple) refl
      where
        told : (n : Noted) → becomes ≡ n → later ++ answered.more ≡ told_with later q.number body a.question.key a.question.sig verdict n
        told n is = subst (λ n. later ++ answered.more ≡ told_with later q.number body a.question.key a.question.sig verdict n) is answers.1

        by_verdict : (b : Bool) → has_verdict later triple ≡ b → OneMore
        by_verdict true h =
            let known : becomes ≡ Known = rw (raised_then, h) at answers.0 in
            let none = append_cancel_left later answered.more [] (told Known known ∙ sym (append-nil later)) in
            let count = new_heard triple met later goes_on opened.0 h in
            let parts = verdict_count-append later answered.more in
            record {
              came = inl none;
              each = subst (All (IsVerdict q.number says)) (sym none) (All-nil _);
              count = omega (arith, count, parts);
              asked_for = subst (λ (l : List Told). Sublist (inquiries_in l) (asks_it ∷ [])) (sym none) (nil-sublist (asks_it ∷ []));
            }
        by_verdict false h =
            let new : becomes ≡ New = rw (raised_then, h) at answers.0 in
            let one = append_cancel_left later answered.more (entry ∷ []) (told New new) in
            let count = verdict_count_grows met later goes_on in
            let parts = verdict_count-append later answered.more in
            let length_one : verdict_count answered.more ≡ 1 = ap verdict_count one in
            record {
              came = inr one;
              each = subst (All (IsVerdict q.number says)) (sym one) (All-cons (IsVerdict q.number says) entry [] (refl, said) (All-nil _));
              count = omega (arith, count, parts, length_one);
              asked_for = subst (λ (l : List Told). Sublist (inquiries_in l) (asks_it ∷ [])) (sym one) (sublist-refl (asks_it ∷ []));
            }

    -- one reader alone goes on in step where it was the first question
    alone_on : extent ≡ First → (share : List Told) → (answered.more ≡ []) ⊎ (answered.more ≡ entry ∷ []) → StepsAlone p share → StepsAlone r (share ++ answered.more)
    alone_on first share came alone =
        steps_turn limit q later answered.more r answered.turn answered.meets.begins share (steps_still p q 1 (idle_turn limit p met q asked.meets.begins asked.turn) share alone)
        (λ few head head_is same steps. by_entry head head_is same steps came)
      where
        was_met : later ≡ q.seen → later ≡ met
        was_met same = same ∙ (seen_then limit p met [] q asked.turn ∙ append-nil met)

        first_open : (head : CoreHead) → q.head ≡ Some head → later ≡ q.seen → ComesNext head.mode later entry
        first_open head head_is same =
            let is : head ≡ asked.meets.head = one_head q.head head asked.meets.head head_is (ap (λ x. x.head) asked.turn.now ∙ asked.meets.head_is) in
            let zero = asked.asked.1 first in
            let here : slice_get (questions mode [] met) 0 ≡ Some triple =
            first_named mode [] met (bodies [] met) a.question body asked.asked.3.1 (subst (λ skip. Names (bodies [] met) (Some a.question) (next_question mode [] met skip)) zero asked.asked.2) in
            (λ i. slice_get (questions (is i).mode [] (was_met same i)) 0) ∙ here

        by_entry : (head : CoreHead) → q.head ≡ Some head → later ≡ q.seen → IsInStep head.mode later → (answered.more ≡ []) ⊎ (answered.more ≡ entry ∷ []) → IsInStep head.mode (later ++ answered.more)
        by_entry head head_is same steps (inl none) = subst (λ l. IsInStep head.mode (later ++ l)) (sym none) (subst (IsInStep head.mode) (sym (append-nil later)) steps)
        by_entry head head_is same steps (inr one) = subst (λ l. IsInStep head.mode (later ++ l)) (sym one) (in_step_more head.mode later entry steps (first_open head head_is same))

    pub asks_one : (before now : Option (List Inquiry)) → now ≡ after before (inquiry a.question.key a.bytes.items a.question.sig ∷ [])
        → IfSome (says a.question.key a.bytes.items a.question.sig) (λ said. verdict ≡ said) → Asks extent says before now p r 0 0
    asks_one before now now_is said =
        let more = one_more (subst (λ bytes. IfSome (says a.question.key bytes a.question.sig) (λ said. verdict ≡ said)) asked.asked.3.2 said) in
        let first = verdict_count_grows p.seen met asked.meets.begins in
        let seen : verdict_count r.seen ≡ verdict_count (later ++ answered.more) = ap verdict_count (seen_then limit q later answered.more r answered.turn) in
        let turns = ap (λ x. x.turns) answered.turn.now in
        let turns_before = ap (λ x. x.turns) asked.turn.now in
        let number = ap (λ x. x.number) asked.turn.now in
        let count = more.count in
        record {
          stays = stays_on p q r (turn_stays limit p met [] q asked.turn) (turn_stays limit q later answered.more r answered.turn);
          verdicts = answered.more;
          own = ap (λ x. x.own) answered.turn.now ∙ (λ i. longer_share (number i) answered.more ((ap (λ x. x.own) asked.turn.now ∙ longer_share-none p.number p.own) i));
          each = subst (λ n. All (IsVerdict n says) answered.more) number more.each;
          begins = prefix_trans p.seen q.seen r.seen (turn_begins limit p met [] q asked.turn asked.meets.begins) (turn_begins limit q later answered.more r answered.turn answered.meets.begins);
          only = given_only limit p extent a q asked r (turn_begins limit q later answered.more r answered.turn answered.meets.begins) (ap (λ x. x.head) answered.turn.now) before now 1 now_is;
          steps = λ is share alone. alone_on is share more.came alone;
          seen = omega (arith, first, seen, count);
          turns = omega (arith, first, seen, count, turns, turns_before);
          inquired = record {
            all = asks_it ∷ [];
            now_is = now_is ∙ ap (λ bytes. after before (inquiry a.question.key bytes a.question.sig ∷ [])) asked.asked.3.2;
            in_order = more.asked_for;
            few = omega (arith, first, seen, count);
          };
        }

-- where none was given to who asked for the first or for all, none was open in what was met
pub asked_none : (limit : ℕ) (p : HubPass) (extent : Extent) (q : HubPass) → AsksAt limit p extent None q → LeavesNone extent q
asked_none limit p First q t = record {
  head = t.meets.head;
  head_is = ap (λ x. x.head) t.turn.now ∙ t.meets.head_is;
  none = none_open t.meets.head.mode q.seen 0 (subst (λ l. Names (bodies [] l) None (next_question t.meets.head.mode [] l 0)) (sym (seen_then limit p t.meets.met [] q t.turn ∙ append-nil t.meets.met)) t.asked);
}
asked_none limit p Free q t = tt
asked_none limit p Every q t = record {
  head = t.meets.head;
  head_is = ap (λ x. x.head) t.turn.now ∙ t.meets.head_is;
  none = none_open t.meets.head.mode q.seen t.asked.0 (subst (λ l. Names (bodies [] l) None (next_question t.meets.head.mode [] l t.asked.0)) (sym (seen_then limit p t.meets.met [] q t.turn ∙ append-nil t.meets.met)) t.asked.1);
}
