-- Messages that are served one behind the other.
use Rattle.std.proofs.Common.{◌≡◌, List, [], ◌∷◌, ◌++◌, Err, inl, inr, ⊎_elim, refl, sym, ◌∙◌, ap, subst, append-nil, append_assoc}
use Rattle.std.specs.Prelude.{All, take}
use Rattle.std.proofs.lemmas.Grind.{flat_map-append}
use Rattle.std.proofs.lemmas.List.{map-append}
use Rattle.std.proofs.lemmas.List.Elements.{All-append, All-nil, All-weaker}
use Rattle.cesr_codes.specs.declared.key.Key.{Key}
use Rattle.cesr_stream.specs.declared.message.Message.{Message}
use Rattle.shelf_log.proofs.KeriDiskLemmas.Moments.{KnowsNow}
use Rattle.lists.specs.KeriSpecs.Causes.{Rose}
use Rattle.lists.specs.KeriSpecs.Shown.{after}
use Rattle.lists.proofs.KeriSpecsLemmas.Putting.{after-append, after-nil}
use Rattle.run_status.specs.declared.run_status.close.Close.{Close}
use Rattle.run_status.specs.declared.run_status.close.Close.TheVariants.{End, Bad, ReadFault, VerifierFault, SignerFault, DiskFault, WriteFault, Malformed, LimitReached, OutOfMemory}
use Rattle.validator_core.specs.ValidatorCore.View.{open_of}
use Rattle.witness_core.specs.WitnessCore.Outcomes.{AsksSigner}
use Rattle.witness_core.specs.WitnessStore.Storing.{AllStand, Grown}
use Rattle.witness_core.specs.declared.witness_receipts.receipt.Receipt.{Receipt}
use Rattle.witness_core.specs.declared.witness_store.witness_fault.WitnessFault.{WitnessFault}
use Rattle.witness_core.specs.declared.witness_store.witness_fault.WitnessFault.TheVariants as fault
use Rattle.witness_core.specs.WitnessLink.Calls.{AreCalls, Call, digests_in, messages_in, receipts_in, refusals_in, refused_as, seen_in, signings_in, text_of}
use Rattle.witness_core.specs.WitnessLink.Links.{LinkShown, Standing, Terms, counts_of, standing_of, terms_of}
use Rattle.witness_core.specs.WitnessLink.Serving.{FailsToPut, FailsToTake, GoesOn, HasEnded, HasServed, Serves, StopsBy, StopsTaking, Wrote, signed_for}
use Rattle.witness_core.specs.WitnessLink.Stored.{IsLawfulList, IsOfListed}
use Rattle.witness_core.specs.WitnessLink.Taking.{Counted, FailsAt, IsWhole}
use Rattle.witness_core.proofs.WitnessLinkLemmas.Asked.{asks_on, calls_close, signings_more, untold_asked}
use Rattle.witness_core.proofs.WitnessLinkLemmas.Storing.{front_of, of_longer, stores_more, stores_none}

-- calls, and then others
calls_more : (terms : Terms) (old : Standing) (calls : List Call) (mid : Standing) (more : List Call) (new : Standing) → AreCalls terms old calls mid → AreCalls terms mid more new → AreCalls terms old (calls ++ more) new
calls_more terms old [] mid more new e then = subst (λ s. AreCalls terms s more new) e then
calls_more terms old (call ∷ calls) mid more new first then = (first.0, calls_more terms call.behind calls mid more new first.1 then)

-- the text of all their receipts
texts_more : (calls more : List Call) → text_of (receipts_in (calls ++ more)) ≡ text_of (receipts_in calls) ++ text_of (receipts_in more)
texts_more calls more =
    ap text_of (flat_map-append (λ (c : Call). c.receipts) calls more) ∙ flat_map-append (λ (r : Receipt). r.bytes.items) (receipts_in calls) (receipts_in more)

module _ (first mid new : LinkShown) (a : Serves first mid) (on : GoesOn first mid a) where
  wrote_more : (more : List Call) → Wrote mid new more → Wrote first new (a.calls ++ more)
  wrote_more more w =
      w ∙ ap (λ shown. after shown (text_of (receipts_in more))) on.wrote
      ∙ after-append first.written (text_of (receipts_in a.calls)) (text_of (receipts_in more))
      ∙ ap (after first.written) (sym (texts_more a.calls more))

  same_key : mid.witness.key ≡ first.witness.key
  same_key = ap (λ (t : Terms). t.key) a.same_terms

  signed_more : (more : List Call) → signed_for mid more ≡ signed_for first (a.calls ++ more)
  signed_more more =
      let key = first.witness.key in
      let due = signings_in key first.witness.core a.calls in
      let same : signings_in mid.witness.key mid.witness.core more ≡ signings_in key a.behind.core more = λ i. signings_in (same_key i) (sym on.now i).core more in
      ap (λ shown. after shown (signings_in mid.witness.key mid.witness.core more)) on.signed
      ∙ after-append first.signings due (signings_in mid.witness.key mid.witness.core more)
      ∙ ap (λ l. after first.signings (due ++ l)) same
      ∙ ap (after first.signings) (sym (signings_more (terms_of first) (standing_of first.witness) a.calls a.behind more a.taken))

  -- no question is open behind them, where none was before
  closed : open_of first.witness.core ≡ [] → open_of mid.witness.core ≡ []
  closed none = subst (λ (s : Standing). open_of s.core ≡ []) on.now (calls_close (terms_of first) (standing_of first.witness) a.calls a.behind a.taken none)

  module _ (b : Serves mid new) where
    moved : AreCalls (terms_of first) a.behind b.calls b.behind
    moved = subst (λ s. AreCalls (terms_of first) s b.calls b.behind) (sym on.now)
        (subst (λ t. AreCalls t (standing_of mid.witness) b.calls b.behind) a.same_terms b.taken)

    longer : Grown mid.witness.list new.witness.list
    longer = front_of mid.witness.list new.witness.list b.stores.accepted b.stores.grown b.stores.first b.stores.longer

    pub serves_more : Serves first new
    unfolding stores_more
    serves_more = record {
      calls = a.calls ++ b.calls;
      behind = b.behind;
      taken = calls_more (terms_of first) (standing_of first.witness) a.calls a.behind b.calls b.behind a.taken moved;
      refused_are = b.refused_are ∙ ap (λ l. l ++ refusals_in b.calls) a.refused_are ∙ append_assoc first.refused (refusals_in a.calls) (refusals_in b.calls)
          ∙ ap (λ l. first.refused ++ l) (sym (flat_map-append (λ (c : Call). refused_as c.message.place c.fate) a.calls b.calls));
      seen_are = b.seen_are ∙ ap (λ l. l ++ digests_in b.calls) a.seen_are ∙ append_assoc first.seen (digests_in a.calls) (digests_in b.calls)
          ∙ ap (λ l. first.seen ++ l) (sym (flat_map-append (λ (c : Call). seen_in c.fate) a.calls b.calls));
      stores = stores_more first.witness.list first.witness.disk mid.witness.core mid.witness.list mid.witness.disk new.witness.core new.witness.list new.witness.disk
          a.stores on.is_whole.listed b.stores;
      lawful = b.lawful;
      of_stored = subst (All (IsOfListed (terms_of first) new.witness.list)) (sym (flat_map-append (λ (c : Call). c.receipts) a.calls b.calls))
          (All-append (IsOfListed (terms_of first) new.witness.list) (receipts_in a.calls) (receipts_in b.calls)
          (All-weaker (IsOfListed (terms_of first) mid.witness.list) (IsOfListed (terms_of first) new.witness.list)
          (λ r is. of_longer (terms_of first) mid.witness.list new.witness.list r longer is) (receipts_in a.calls) a.of_stored)
          (subst (λ t. All (IsOfListed t new.witness.list) (receipts_in b.calls)) a.same_terms b.of_stored));
      same_terms = b.same_terms ∙ a.same_terms;
      inquired = λ none. asks_on first.inquiries mid.inquiries new.inquiries first.witness.core mid.witness.core new.witness.core (a.inquired none) (closed none) (b.inquired (closed none));
    }

    pub goes_more : GoesOn mid new b → GoesOn first new serves_more
    unfolding serves_more
    goes_more g = record {
      now = g.now;
      signed = g.signed ∙ signed_more b.calls;
      wrote = wrote_more b.calls g.wrote;
      is_whole = g.is_whole;
      counts_same = g.counts_same ∙ on.counts_same;
      sink_same = g.sink_same ∙ on.sink_same;
    }

    fails_more : (why : WitnessFault) (last : Message) → FailsToTake mid new b why last → FailsToTake first new serves_more why last
    unfolding serves_more
    fails_more why last f = record {
      fails = subst (λ t. FailsAt t b.behind last new.witness why) a.same_terms f.fails;
      signed = subst (λ shown. AsksSigner first.witness.key b.behind.core new.witness.core last shown new.signings (Err why)) (signed_more b.calls)
          (subst (λ (key : Key). AsksSigner key b.behind.core new.witness.core last (signed_for mid b.calls) new.signings (Err why)) same_key f.signed);
      stored_where_asked = ⊎_elim (λ none. inl (none ∙ signed_more b.calls)) inr f.stored_where_asked;
      wrote = wrote_more b.calls f.wrote;
      counted = subst (λ k. Counted k (counts_of new) why) on.counts_same f.counted;
      sink_same = f.sink_same ∙ on.sink_same;
    }

    puts_more : FailsToPut mid new b → FailsToPut first new serves_more
    unfolding serves_more
    puts_more p =
        let part = take p.count (text_of p.last.receipts) in
        record {
          earlier = a.calls ++ p.earlier;
          last = p.last;
          all = ap (λ l. a.calls ++ l) p.all ∙ sym (append_assoc a.calls p.earlier (p.last ∷ []));
          signed = p.signed ∙ signed_more b.calls;
          count = p.count;
          wrote = p.wrote ∙ ap (λ shown. after shown (text_of (receipts_in p.earlier) ++ part)) on.wrote
              ∙ after-append first.written (text_of (receipts_in a.calls)) (text_of (receipts_in p.earlier) ++ part)
              ∙ ap (after first.written) (sym (append_assoc (text_of (receipts_in a.calls)) (text_of (receipts_in p.earlier)) part) ∙ ap (λ l. l ++ part) (sym (texts_more a.calls p.earlier)));
          rose = subst (λ n. Rose n new.sink_faults) on.sink_same p.rose;
          now = p.now;
          is_whole = p.is_whole;
          counts_same = p.counts_same ∙ on.counts_same;
        }

    module _ (before : List Message) (before_is : messages_in a.calls ≡ before) where
      messages_more : before ++ messages_in b.calls ≡ messages_in serves_more.calls
      unfolding serves_more
      messages_more = ap (λ l. l ++ messages_in b.calls) (sym before_is) ∙ sym (map-append (λ (c : Call). c.message) a.calls b.calls)

      taking_more : (why : WitnessFault) (messages : List Message) → StopsTaking mid new b why messages → StopsTaking first new serves_more why (before ++ messages)
      taking_more why messages s = (
        s.0,
        ap (λ l. before ++ l) s.1 ∙ sym (append_assoc before (messages_in b.calls) (s.0 ∷ [])) ∙ ap (λ l. l ++ s.0 ∷ []) messages_more,
        fails_more why s.0 s.2,
      )

      pub stops_more : (messages : List Message) (close : Close) → StopsBy mid new b messages close → StopsBy first new serves_more (before ++ messages) close
      stops_more messages VerifierFault s = taking_more fault.VerifierFault messages s
      stops_more messages SignerFault s = taking_more fault.SignerFault messages s
      stops_more messages DiskFault s = taking_more fault.DiskFault messages s
      stops_more messages LimitReached s = taking_more fault.LimitReached messages s
      stops_more messages OutOfMemory s = taking_more fault.OutOfMemory messages s
      stops_more messages WriteFault s = (ap (λ l. before ++ l) s.0 ∙ messages_more, puts_more s.1)
      stops_more messages End s = absurd s
      stops_more messages (Bad bad) s = absurd s
      stops_more messages ReadFault s = absurd s
      stops_more messages (Malformed place) s = absurd s

-- messages were served, and then others
pub served_more : (first mid new : LinkShown) (before messages : List Message) → HasServed first mid before → HasServed mid new messages → HasServed first new (before ++ messages)
served_more first mid new before messages a b = record {
  serves = serves_more first mid new a.serves a.goes_on b.serves;
  messages_are = sym (messages_more first mid new a.serves a.goes_on b.serves before a.messages_are) ∙ ap (λ l. before ++ l) b.messages_are;
  goes_on = goes_more first mid new a.serves a.goes_on b.serves b.goes_on;
}

-- or serving stopped
pub ended_more : (first mid new : LinkShown) (close : Close) (before messages : List Message) → HasServed first mid before → HasEnded mid new close messages → HasEnded first new close (before ++ messages)
ended_more first mid new close before messages a b = record {
  serves = serves_more first mid new a.serves a.goes_on b.serves;
  stops = stops_more first mid new a.serves a.goes_on b.serves before a.messages_are messages close b.stops;
}

-- none was served yet
pub served_none : (link : LinkShown) → IsWhole link.witness → AllStand link.witness.disk link.witness.list link.witness.list → IsLawfulList link.witness.list
    → KnowsNow link.witness.disk → HasServed link link []
unfolding stores_none
served_none link whole stand lawful knows = record {
  serves = record {
    calls = [];
    behind = standing_of link.witness;
    taken = refl;
    refused_are = sym (append-nil link.refused);
    seen_are = sym (append-nil link.seen);
    stores = stores_none link.witness.list link.witness.disk link.witness.core knows stand whole.listed;
    lawful = lawful;
    of_stored = All-nil (IsOfListed (terms_of link) link.witness.list);
    same_terms = refl;
    inquired = λ none. untold_asked link.inquiries link.witness.core;
  };
  messages_are = refl;
  goes_on = record {
    now = refl;
    signed = after-nil link.signings;
    wrote = after-nil link.written;
    is_whole = whole;
    counts_same = refl;
    sink_same = refl;
  };
}
