-- Why a reader ended, from what its pass had seen to all that is told.
use Rattle.std.proofs.Common.{◌≡◌, ℕ, ◌≤◌, Bool, true, false, List, [], ◌++◌, Option, Some, None, Result, Ok, Err, refl, sym, ◌∙◌, ap, subst, arith, inl, inr, if◌then◌else◌}
use Rattle.std.proofs.lemmas.Bool.{cases_Bool}
use mathlib.Core.List.{IsPrefix}
use Rattle.lists.specs.KeriSpecs.Causes.{Rose}
use Rattle.event_body.specs.declared.event_body.event.Event.{Event}
use Rattle.event_body.specs.declared.event_body.body_fault.BodyFault.{BodyFault}
use Rattle.cesr_stream.specs.declared.message.Message.{Message}
use Rattle.cesr_stream.specs.Items.{Placed}
use Rattle.cesr_stream.specs.Reading.{Reading}
use Rattle.claim_table.proofs.CoreLawsLemmas.FullStays.{full_stays}
use Rattle.keri_outside.specs.declared.limits.Limits.{Limits}
use Rattle.journal.specs.declared.journal.body.Body.{Body}
use Rattle.journal.specs.declared.journal.claim.Claim.{Claim}
use Rattle.journal.specs.declared.journal.reply.Reason.{Reason}
use Rattle.journal.specs.declared.journal.reply.Reply.TheVariants.{Taken, Again, Refused, LimitReached as FullReply}
use Rattle.journal.specs.Journal.CoreCalls.{Takes, reply_unless}
use Rattle.journal.specs.Journal.History.{Told}
use Rattle.journal.specs.Journal.Replies.{IsWithin, claims_of, is_again, is_full, refusal, reply_to}
use Rattle.run_status.specs.RunStatus.Readers.{VerifierShown}
use Rattle.keri_outside.specs.Shown.{SourceShown}
use Rattle.run_status.specs.declared.run_status.close.Close.{Close}
use Rattle.run_status.specs.declared.run_status.close.Close.TheVariants.{End, Bad, ReadFault, VerifierFault, SignerFault, DiskFault, WriteFault, Malformed, LimitReached, OutOfMemory}
use Rattle.reader_hub.specs.ReaderHub.Hubs.{TakesOver}
use Rattle.reader_hub.specs.declared.reader_hub.core_head.CoreHead.{CoreHead}
use Rattle.reader_hub.specs.SharedReader.Offers.{IsTurnedAway}
use Rattle.reader_hub.specs.SharedReader.ReadsOne as one
use Rattle.reader_hub.specs.SharedReader.Taken.{Standing}
use Rattle.reader_hub.specs.ReaderThreads.Fed.{EndsReader, EndsStream, NextFindsNoRoom}

module _ (limits : Limits) (seen more : List Told) (b : Body) (within : IsWithin limits [] (seen ++ more)) where
  -- where there was no room for a body, there is none
  full_later : (claims : List Claim) → reply_to limits [] seen b claims ≡ FullReply → reply_to limits [] (seen ++ more) b claims ≡ FullReply
  unfolding reply_to
  full_later claims e = elim (cases_Bool (is_full limits [] seen b claims)) [
    | inl full ↦ (let later = full_stays limits seen more b claims within full in rw later refl)
    | inr room ↦ (let other : (if is_again [] seen b claims then Again else Taken) ≡ FullReply = rw room at e in absurd (neither (is_again [] seen b claims) other))
  ]
    where
      neither : (again : Bool) → (if again then Again else Taken) ≡ FullReply → ⊥
      neither true h = cc
      neither false h = cc

-- a message that found no room in what was seen finds none in what is told
module _ (limits : Limits) (seen told : List Told) (begins : IsPrefix seen told) (within : IsWithin limits [] told) where
  no_room : (b : Body) (claims : List Claim) → reply_to limits [] seen b claims ≡ FullReply → reply_to limits [] told b claims ≡ FullReply
  no_room b claims full =
      subst (λ l. reply_to limits [] l b claims ≡ FullReply) begins.1
      (full_later limits seen begins.0 b (subst (IsWithin limits []) (sym begins.1) within) claims full)

  pub stays_away : (number k : ℕ) (m : Message) (gives : Result Event BodyFault) → Takes limits [] seen number m gives FullReply seen → Takes limits [] told k m gives FullReply told
  stays_away number k m (Ok e) t = (by_reason (refusal m (Ok e)) refl, refl)
    where
      by_reason : (r : Option Reason) → refusal m (Ok e) ≡ r → FullReply ≡ reply_unless (refusal m (Ok e)) (reply_to limits [] told (record { bytes = m.body; event = e }) (claims_of m))
      by_reason None is =
          let full : FullReply ≡ reply_to limits [] seen (record { bytes = m.body; event = e }) (claims_of m) = rw is at t.0 in
          rw is (sym (no_room (record { bytes = m.body; event = e }) (claims_of m) (sym full)))
      by_reason (Some reason) is = let other : FullReply ≡ Refused reason = rw is at t.0 in cc
  stays_away number k m (Err fault) t = by_reason (refusal m (Err fault)) refl
    where
      by_reason : (r : Option Reason) → refusal m (Err fault) ≡ r → Takes limits [] told k m (Err fault) FullReply told
      by_reason None is = let none : Some FullReply ≡ None = rw is at t.0 in cc
      by_reason (Some reason) is = let other : Some FullReply ≡ Some (Refused reason) = rw is at t.0 in cc

-- The reader had a pass with this head, had seen a beginning of what is told, and knew that so many turns were past.
module _ (limits : Limits) (told : List Told) (within : IsWithin limits [] told) (most k : ℕ) (s t : Standing) (old new : SourceShown) (verifier verifier_left : VerifierShown)
    (turns : s.limit ≡ limits.turns) (faults : s.faults ≡ verifier.faults) (faults_left : t.faults ≡ verifier_left.faults)
    (head : CoreHead) (head_is : t.pass.head ≡ Some head) (limits_are : head.limits ≡ limits) (begins : IsPrefix t.pass.seen told) (past : t.pass.past ≤ most) where
  turned_away : (m : Message) → IsTurnedAway t.pass m → TakesOver limits told k m FullReply told
  turned_away m away =
      let heads : Some away.head ≡ Some head = sym away.head_is ∙ head_is in
      let same : away.head ≡ head = cc in
      let stays = subst (λ l. Takes l [] t.pass.seen t.pass.number m away.full.gives FullReply t.pass.seen) (ap (λ h. h.limits) same ∙ limits_are) away.full.takes in
      record { gives = away.full.gives; judged = away.full.judged; takes = stays_away limits t.pass.seen told begins within t.pass.number k m away.full.gives stays }

  finds_none : (bytes : List ℕ) (offered : List Message) → one.NextFindsNoRoom limits bytes t.pass offered → NextFindsNoRoom limits told k bytes offered
  finds_none bytes offered n = record { next = n.next; first = n.first; turned_away = turned_away n.next n.turned_away }

  closes_reader : (bytes : List ℕ) (reading : Reading) (items : List Placed) (offered : List Message) (close : Close) → one.EndsReader limits s t old new bytes reading items offered close
      → EndsReader limits told most k old new verifier verifier_left bytes reading items offered close
  closes_reader bytes reading items offered End c = c.0
  closes_reader bytes reading items offered (Bad bad) c = c.0
  closes_reader bytes reading items offered ReadFault c = c.0
  closes_reader bytes reading items offered LimitReached c = elim c [
    | inl full ↦ inl (full.0, full.1)
    | inr cut ↦ inr (
      cut.0,
      elim cut.1 [
        | inl spent ↦ inl (omega (arith, spent, turns, past))
        | inr away ↦ inr (finds_none bytes offered away)
      ],
    )
  ]
  closes_reader bytes reading items offered VerifierFault c = (c.0, subst (λ (n : ℕ × ℕ). Rose n.0 n.1) (λ i. (faults i, faults_left i)) c.1)
  closes_reader bytes reading items offered SignerFault c = absurd c
  closes_reader bytes reading items offered DiskFault c = absurd c
  closes_reader bytes reading items offered WriteFault c = absurd c
  closes_reader bytes reading items offered (Malformed place) c = absurd c
  closes_reader bytes reading items offered OutOfMemory c = absurd c

  pub closes_stream : (bytes : List ℕ) (offered : List Message) (close : Close) → one.EndsStream limits s t old new bytes offered close
      → EndsStream limits told most k old new verifier verifier_left bytes offered close
  closes_stream bytes offered close c = record {
    reading = c.reading;
    items = c.items;
    stream = c.stream;
    closes = closes_reader bytes c.reading c.items offered close c.closes;
  }
