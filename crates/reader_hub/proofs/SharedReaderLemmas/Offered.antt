-- What offering a message does to what a pass knows.
use Rattle.std.proofs.Common.{◌≡◌, ◌≢◌, ℕ, suc, ◌+◌, ◌≤◌, ◌⊎◌, inl, inr, List, [], ◌∷◌, ◌++◌, Option, Some, None, Result, Ok, Err, length, length-append, refl, sym, ◌∙◌, ap, subst, arith, append-nil, eq-eqb}
use Rattle.std.specs.Prelude.{All, filter, flat_map}
use Rattle.std.proofs.lemmas.Bool.{cases_Bool}
use Rattle.std.proofs.lemmas.Grind.{flat_map-append}
use Rattle.std.proofs.lemmas.List.{append_cancel_left, map-append}
use Rattle.std.proofs.lemmas.List.Elements.{All-append, All-cons, All-head, All-nil, All-push, All-tail, All-weaker, filter-append}
use Rattle.cesr_stream.specs.declared.message.Message.{Message}
use Rattle.event_body.specs.declared.event_body.event.Event.{Event}
use Rattle.event_body.specs.declared.event_body.body_fault.BodyFault.{BodyFault}
use Rattle.keri_outside.specs.declared.limits.Limits.{Limits}
use Rattle.keri_outside.specs.declared.inquiry.Inquiry.{Inquiry}
use Rattle.journal.specs.declared.journal.body.Body.{Body}
use Rattle.journal.specs.declared.journal.claim.Claim.{Claim}
use Rattle.journal.specs.declared.journal.refusal.Refusal.{Refusal}
use Rattle.journal.specs.declared.journal.reply.Reason.{Reason}
use Rattle.journal.specs.declared.journal.reply.Reply.{Reply}
use Rattle.journal.specs.declared.journal.reply.Reply.TheVariants.{Taken, Again, Refused, LimitReached}
use Rattle.journal.specs.Journal.CoreCalls.{Takes}
use Rattle.journal.specs.Journal.Feeds.{GivesBody, entry_of, entry_unless, is_taken_by, noted_at, refusal_of}
use Rattle.journal.specs.Journal.History.{Told, took, heard}
use Rattle.journal.specs.Journal.Questions.{IsInStep, questions}
use Rattle.journal.specs.Journal.Replies.{claims_of, is_again, is_full, refusal, reply_to}
use Rattle.validator_core.specs.ValidatorCore.Verdicts.{inquiries_in}
use Rattle.turn_lock.specs.Histories.{longer_share}
use Rattle.turn_lock.specs.Known.{OwnsAlone}
use Rattle.turn_lock.proofs.Histories.{longer_share-alone, prefix_trans}
use Rattle.reader_hub.specs.ReaderHub.Hubs.{HubPass, TakesAt, TakesOver, TookTurn}
use Rattle.reader_hub.specs.declared.reader_hub.extent.Extent.{Extent}
use Rattle.reader_hub.specs.declared.reader_hub.extent.Extent.TheVariants.{First}
use Rattle.reader_hub.specs.SharedReader.Asks.{Asks, AsksFor, IsVerdict, Says, TellsNothing, verdict_count}
use Rattle.reader_hub.specs.SharedReader.Offers.{IsEntryOf, IsTurnedAway, Offers, OffersOne}
use Rattle.reader_hub.specs.SharedReader.Steps.{SawNoneOpen, StepsAlone}
use Rattle.reader_hub.proofs.SharedReaderLemmas.Inquiries.{asked_on, at_most, none_asked}
use Rattle.reader_hub.proofs.SharedReaderLemmas.Known.{only_later, only_on}
use Rattle.reader_hub.proofs.SharedReaderLemmas.Steps.{in_step_offered, steps_still, steps_turn}
use Rattle.reader_hub.proofs.SharedReaderLemmas.Turns.{idle_turn, seen_then, stays_on, turn_begins, turn_grows, turn_stays}

-- what is noted of a message by the reply to it
abbrev pub refused_as : ℕ → Reply → List Refusal
refused_as place Taken = []
refused_as place Again = []
refused_as place (Refused reason) = record { place = place; reason = reason } ∷ []
refused_as place LimitReached = []

-- what is told and noted after a message that was offered
record IsOffered (n : ℕ) (old new : List Told) (m : Message) (gives : Result Event BodyFault) (reply : Reply) : Type 0 where
  behind : new ≡ old ++ entry_unless (refusal m gives) n m gives
  noted : refused_as m.place reply ≡ noted_at m.place (refusal m gives)

module _ (limits : Limits) (n : ℕ) (old new : List Told) (m : Message) where
  replies : (b : Body) (claims : List Claim) → (reply_to limits [] old b claims ≡ LimitReached)
      ⊎ ((reply_to limits [] old b claims ≡ Again) ⊎ (reply_to limits [] old b claims ≡ Taken))
  unfolding reply_to
  replies b claims = elim (cases_Bool (is_full limits [] old b claims)) [
    | inl k ↦ inl (rw k refl)
    | inr k ↦ elim (cases_Bool (is_again [] old b claims)) [ inl l ↦ inr (inl (rw (k, l) refl)) | inr l ↦ inr (inr (rw (k, l) refl)) ]
  ]

  -- a message for which there is room has its entry, or is noted as refused
  offered : (gives : Result Event BodyFault) (reply : Reply) → Takes limits [] old n m gives reply new → reply ≢ LimitReached → IsOffered n old new m gives reply
  offered (Ok e) reply takes roomy = by_reason (refusal m (Ok e)) refl
    where
      by_reason : (r : Option Reason) → refusal m (Ok e) ≡ r → IsOffered n old new m (Ok e) reply
      by_reason (Some reason) is =
          let same : reply ≡ Refused reason = rw is at takes.0 in
          record { behind = rw is (rw same at takes.1 ∙ sym (append-nil old)); noted = rw (same, is) refl }
      by_reason None is =
          let same : reply ≡ reply_to limits [] old (record { bytes = m.body; event = e }) (claims_of m) = rw is at takes.0 in
          elim (replies (record { bytes = m.body; event = e }) (claims_of m)) [
            | inl full ↦ absurd (roomy (same ∙ full))
            | inr rest ↦ elim rest [
              | inl again ↦ let now : reply ≡ Again = same ∙ again in record { behind = rw is (rw now at takes.1); noted = rw (now, is) refl }
              | inr taken ↦ let now : reply ≡ Taken = same ∙ taken in record { behind = rw is (rw now at takes.1); noted = rw (now, is) refl }
            ]
          ]
  offered (Err fault) reply takes roomy = by_reason (refusal m (Err fault)) refl
    where
      by_reason : (r : Option Reason) → refusal m (Err fault) ≡ r → IsOffered n old new m (Err fault) reply
      by_reason None is = let none : Some reply ≡ None = rw is at takes.0 in cc
      by_reason (Some reason) is =
          let some : Some reply ≡ Some (Refused reason) = rw is at takes.0 in
          let same : reply ≡ Refused reason = cc in
          record { behind = rw is (takes.1 ∙ sym (append-nil old)); noted = rw (same, is) refl }

  -- one that is refused or finds no room tells nothing
  refused_same : (reason : Reason) (gives : Result Event BodyFault) → Takes limits [] old n m gives (Refused reason) new → new ≡ old
  refused_same reason (Ok e) t = t.1
  refused_same reason (Err fault) t = t.1

  full_same : (gives : Result Event BodyFault) → Takes limits [] old n m gives LimitReached new → (new ≡ old) × Takes limits [] old n m gives LimitReached old
  full_same (Ok e) t = (t.1, (t.0, refl))
  full_same (Err fault) t = (t.1, (t.0, refl))

module _ (limit : ℕ) (p : HubPass) (m : Message) (q : HubPass) where
  pub offers_one : (reply : Reply) (old new : List Refusal) → reply ≢ LimitReached → new ≡ old ++ refused_as m.place reply → TakesAt limit p m reply q → OffersOne p q old new m
  offers_one reply old new roomy noted t =
      let was = offered t.meets.head.limits p.number t.meets.met (t.meets.met ++ t.more) m t.takes.gives reply t.takes.takes roomy in
      let entry = append_cancel_left t.meets.met t.more (entry_unless (refusal m t.takes.gives) p.number m t.takes.gives) was.behind in
      record {
        stays = turn_stays limit p t.meets.met t.more q t.turn;
        offered = record { message = m; gives = t.takes.gives };
        message_is = refl;
        body_is = t.takes.judged;
        own = ap (λ x. x.own) t.turn.now ∙ ap (λ es. longer_share p.number es p.own) entry;
        noted = noted ∙ ap (λ l. old ++ l) was.noted;
        begins = turn_begins limit p t.meets.met t.more q t.turn t.meets.begins;
        steps = λ share alone none.
            subst (λ (l : List Told). StepsAlone q (share ++ l)) entry
            (steps_turn limit p t.meets.met t.more q t.turn t.meets.begins share alone
            (λ few head head_is same steps. subst (λ (l : List Told). IsInStep head.mode (t.meets.met ++ l)) (sym entry)
            (in_step_offered head.mode t.meets.met steps (subst (λ (l : List Told). questions head.mode [] l ≡ []) (sym same) (none few head head_is)) p.number (refusal m t.takes.gives) m t.takes.gives)));
        seen = turn_grows limit p t.meets.met t.more q t.turn t.meets.begins;
        turns = ap (λ x. x.turns) t.turn.now;
      }

  quiet : (reply : Reply) (t : TakesAt limit p m reply q) → t.meets.met ++ t.more ≡ t.meets.met → TellsNothing p q 1
  quiet reply t same =
      let none = append_cancel_left t.meets.met t.more [] (same ∙ sym (append-nil t.meets.met)) in
      idle_turn limit p t.meets.met q t.meets.begins (subst (λ l. TookTurn limit p t.meets.met l q) none t.turn)

  pub refused_tells : (reason : Reason) → TakesAt limit p m (Refused reason) q → TellsNothing p q 1
  refused_tells reason t = quiet (Refused reason) t (refused_same t.meets.head.limits p.number t.meets.met (t.meets.met ++ t.more) m reason t.takes.gives t.takes.takes)

  pub full_tells : TakesAt limit p m LimitReached q → TellsNothing p q 1 × IsTurnedAway q m
  full_tells t =
      let (same, full) = full_same t.meets.head.limits p.number t.meets.met (t.meets.met ++ t.more) m t.takes.gives t.takes.takes in
      let seen : q.seen ≡ t.meets.met = seen_then limit p t.meets.met t.more q t.turn ∙ same in
      let number = ap (λ x. x.number) t.turn.now in (
        quiet LimitReached t same,
        record {
          head = t.meets.head;
          head_is = ap (λ x. x.head) t.turn.now ∙ t.meets.head_is;
          full = subst (λ l. TakesOver t.meets.head.limits l q.number m LimitReached l) (sym seen)
              (subst (λ k. TakesOver t.meets.head.limits t.meets.met k m LimitReached t.meets.met) (sym number) (record { gives = t.takes.gives; judged = t.takes.judged; takes = full }));
        },
      )

-- verdicts take no body, and are entries of the reader
untaken : (n m : ℕ) (says : Says) (ts : List Told) → All (IsVerdict m says) ts → filter (is_taken_by n) ts ≡ []
untaken n m says [] each = refl
untaken n m says (took reader b claims ∷ ts) each = absurd (All-head (IsVerdict m says) (took reader b claims) ts each)
untaken n m says (heard reader b key sig verdict ∷ ts) each = untaken n m says ts (All-tail (IsVerdict m says) (heard reader b key sig verdict) ts each)

verdict_entry : (n : ℕ) (says : Says) (t : Told) → IsVerdict n says t → IsEntryOf n says t
verdict_entry n says (took reader b claims) v = absurd v
verdict_entry n says (heard reader b key sig verdict) v = v

-- the entry of a message takes it, and is the reader's
entry_taken : (n : ℕ) (r : Option Reason) (m : Message) (gives : Result Event BodyFault) → filter (is_taken_by n) (entry_unless r n m gives) ≡ entry_unless r n m gives
entry_taken n None m (Ok e) = let same = eq-eqb n n refl in rw same refl
entry_taken n None m (Err fault) = refl
entry_taken n (Some reason) m gives = refl

entry_own : (n : ℕ) (says : Says) (r : Option Reason) (m : Message) (gives : Result Event BodyFault) → All (IsEntryOf n says) (entry_unless r n m gives)
entry_own n says None m (Ok e) = All-cons (IsEntryOf n says) _ [] refl (All-nil _)
entry_own n says None m (Err fault) = All-nil _
entry_own n says (Some reason) m gives = All-nil _

-- and is no verdict
entry_unasked : (n : ℕ) (r : Option Reason) (m : Message) (gives : Result Event BodyFault) → inquiries_in (entry_unless r n m gives) ≡ []
entry_unasked n None m (Ok e) = refl
entry_unasked n None m (Err fault) = refl
entry_unasked n (Some reason) m gives = refl

pub offers_besides : (extent : Extent) (says : Says) (begun now : Option (List Inquiry)) (p q : HubPass) (refused : List Refusal) (ms : List Message) (k j c d : ℕ) → k ≤ j → c ≤ d
    → Offers extent says begun now p q refused ms k c → Offers extent says begun now p q refused ms j d
offers_besides extent says begun now p q refused ms k j c d le few o = record {
  stays = o.stays;
  share = o.share;
  own = o.own;
  offered = o.offered;
  messages_are = o.messages_are;
  bodies_are = o.bodies_are;
  taken_are = o.taken_are;
  refused_are = o.refused_are;
  each = o.each;
  turns = (let turns = o.turns in omega (arith, turns, le));
  inquired = at_most begun now o.share _ _ (omega (arith, few)) o.inquired;
  only = o.only;
  alone = o.alone;
}

module _ (extent : Extent) (says : Says) (begun asked : Option (List Inquiry)) (first p : HubPass) (refused : List Refusal) (before : List Message)
    (o : Offers extent says begun asked first p refused before 0 0) where
  -- nothing more was offered
  pub offers_still : (q : HubPass) → TellsNothing p q 1 → Offers extent says begun asked first q refused before 4 1
  offers_still q t = record {
    stays = stays_on first p q o.stays t.stays;
    share = o.share;
    own = t.own ∙ (o.own ∙ ap (λ k. (k, o.share) ∷ []) (sym t.stays.number));
    offered = o.offered;
    messages_are = o.messages_are;
    bodies_are = o.bodies_are;
    taken_are = o.taken_are;
    refused_are = o.refused_are;
    each = o.each;
    turns = (let turns = o.turns in let more = t.turns in let seen = t.seen in omega (arith, turns, more, seen));
    inquired = (let seen = t.seen in at_most begun asked o.share _ _ (omega (arith, seen)) o.inquired);
    only = λ head head_is. only_later head.mode p.seen q.seen t.begins begun asked (o.only head (sym t.stays.head ∙ head_is));
    alone = λ is. steps_still p q 1 t o.share (o.alone is);
  }

  -- a message was offered, and then verdicts came
  module _ (none_open : extent ≡ First → length p.seen ≤ length o.share → SawNoneOpen p) (called : Extent) (goes_on : extent ≡ First → called ≡ First)
      (now : Option (List Inquiry)) (q r : HubPass) (later : List Refusal) (m : Message) (k j c : ℕ) (le : k ≤ suc j) (w : OffersOne p q refused later m) (a : Asks called says asked now q r k c) where
    abbrev n : ℕ
    n = first.number

    abbrev entry : List Told
    entry = entry_of p.number w.offered

    abbrev share : List Told
    share = (o.share ++ entry) ++ a.verdicts

    own_then : q.own ≡ (p.number, o.share ++ entry) ∷ []
    own_then = w.own ∙ (ap (longer_share p.number entry) o.own ∙ longer_share-alone p.number entry o.share)

    own_now : OwnsAlone r share
    own_now = a.own ∙ ((λ i. longer_share (w.stays.number i) a.verdicts (own_then i)) ∙ (longer_share-alone p.number a.verdicts (o.share ++ entry)
        ∙ ap (λ k. (k, share) ∷ []) (sym (a.stays.number ∙ w.stays.number))))

    each_verdict : All (IsVerdict n says) a.verdicts
    each_verdict = subst (λ k. All (IsVerdict k says) a.verdicts) (w.stays.number ∙ o.stays.number) a.each

    taken_now : filter (is_taken_by n) share ≡ flat_map (entry_of n) (o.offered ++ w.offered ∷ [])
    taken_now =
        let here : filter (is_taken_by n) entry ≡ entry_of n w.offered = ap (λ k. filter (is_taken_by n) (entry_of k w.offered)) o.stays.number ∙ entry_taken n (refusal w.offered.message w.offered.gives) w.offered.message w.offered.gives in
        filter-append (is_taken_by n) (o.share ++ entry) a.verdicts
        ∙ (ap (λ l. filter (is_taken_by n) (o.share ++ entry) ++ l) (untaken n n says a.verdicts each_verdict)
        ∙ (append-nil _ ∙ (filter-append (is_taken_by n) o.share entry
        ∙ ((λ i. o.taken_are i ++ (here ∙ sym (append-nil (entry_of n w.offered))) i) ∙ sym (flat_map-append (entry_of n) o.offered (w.offered ∷ []))))))

    refused_now : later ≡ flat_map refusal_of (o.offered ++ w.offered ∷ [])
    refused_now = w.noted ∙ ((λ i. o.refused_are i ++ sym (append-nil (refusal_of w.offered)) i) ∙ sym (flat_map-append refusal_of o.offered (w.offered ∷ [])))

    each_now : All (IsEntryOf n says) share
    each_now = All-append (IsEntryOf n says) (o.share ++ entry) a.verdicts
        (All-append (IsEntryOf n says) o.share entry o.each (subst (λ k. All (IsEntryOf n says) (entry_of k w.offered)) (sym o.stays.number) (entry_own n says (refusal w.offered.message w.offered.gives) w.offered.message w.offered.gives)))
        (All-weaker (IsVerdict n says) (IsEntryOf n says) (verdict_entry n says) a.verdicts each_verdict)

    inquired_now : AsksFor begun now share (verdict_count r.seen + c)
    inquired_now =
        let grown = w.seen in
        let seen = a.seen in
        let none = none_asked asked entry (entry_unasked p.number (refusal w.offered.message w.offered.gives) w.offered.message w.offered.gives) in
        asked_on begun asked now (o.share ++ entry) a.verdicts _ _ _ (omega (arith, grown, seen)) (asked_on begun asked asked o.share entry _ 0 (verdict_count p.seen) (omega arith) o.inquired none) a.inquired

    pub offers_more : Offers extent says begun now first r later (before ++ m ∷ []) j c
    offers_more = record {
      stays = stays_on first p r o.stays (stays_on p q r w.stays a.stays);
      share = share;
      own = own_now;
      offered = o.offered ++ w.offered ∷ [];
      messages_are = map-append (λ j. j.message) o.offered (w.offered ∷ []) ∙ (λ i. o.messages_are i ++ w.message_is i ∷ []);
      bodies_are = All-push (λ j. GivesBody j.message.body j.gives) o.offered w.offered o.bodies_are w.body_is;
      taken_are = taken_now;
      refused_are = refused_now;
      each = each_now;
      turns = (
          let turns = o.turns in
          let one = w.turns in
          let grown = w.seen in
          let more = a.turns in
          let seen = a.seen in
          let long = length-append o.offered (w.offered ∷ []) in
          omega (arith, turns, one, grown, more, seen, long, le)
          );
      inquired = inquired_now;
      only = λ head head_is. (
          let since = prefix_trans p.seen q.seen r.seen w.begins a.begins in
          only_on head.mode p.seen r.seen since begun asked now (o.only head (sym w.stays.head ∙ (sym a.stays.head ∙ head_is))) (a.only head head_is)
          );
      alone = λ is. a.steps (goes_on is) (o.share ++ entry) (w.steps o.share (o.alone is) (none_open is));
    }
