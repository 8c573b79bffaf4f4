-- One message is served.
use Rattle.std.proofs.Common.{◌≡◌, ◌⊎◌, ℕ, List, [], ◌∷◌, ◌++◌, Err, inl, inr, ⊎_elim, refl, sym, ◌∙◌, ap, subst, append-nil}
use Rattle.std.specs.Prelude.{All, take}
use Rattle.std.proofs.lemmas.List.Elements.{All-nil}
use Rattle.cesr_stream.specs.declared.message.Message.{Message}
use Rattle.lists.specs.KeriSpecs.Causes.{Rose}
use Rattle.lists.specs.KeriSpecs.Shown.{after}
use Rattle.lists.proofs.KeriSpecsLemmas.Putting.{after-nil}
use Rattle.run_status.specs.declared.run_status.close.Close.{Close}
use Rattle.run_status.specs.declared.run_status.close.Close.TheVariants.{WriteFault}
use Rattle.witness_core.specs.WitnessCore.Outcomes.{AsksSigner, due_by}
use Rattle.witness_core.specs.WitnessReceipts.Receipts.{signings_of}
use Rattle.witness_core.specs.WitnessStore.Payloads.{AreListed}
use Rattle.witness_core.specs.WitnessStore.Storing.{StoresOn}
use Rattle.witness_core.specs.WitnessCore.Telling.{AsksVerdicts}
use Rattle.witness_core.specs.declared.witness_receipts.fate.Fate.{Fate}
use Rattle.witness_core.specs.declared.witness_receipts.receipt.Receipt.{Receipt}
use Rattle.witness_core.specs.declared.witness_store.witness_fault.WitnessFault.{WitnessFault}
use Rattle.witness_core.specs.declared.witness_store.witness_fault.WitnessFault.TheVariants as fault
use Rattle.witness_core.specs.WitnessLink.Calls.{Call, IsCall, refused_as, seen_in, text_of}
use Rattle.witness_core.specs.WitnessLink.Closes.{close_by}
use Rattle.witness_core.specs.WitnessLink.Links.{LinkShown, counts_of, standing_of, terms_of}
use Rattle.witness_core.specs.WitnessLink.Serving.{FailsToTake, HasEnded, HasServed, Serves, StopsBy, signed_for}
use Rattle.witness_core.specs.WitnessLink.Stored.{HoldsAccepted, IsLawfulList, IsOfListed}
use Rattle.witness_core.specs.WitnessLink.Taking.{Counted, FailsAt, IsWhole}
use Rattle.witness_core.proofs.WitnessLinkLemmas.Holding.{of_fate}

module _ (old new : LinkShown) (m : Message) (stores : StoresOn old.witness.list old.witness.disk new.witness.core new.witness.list new.witness.disk) (lawful : IsLawfulList stores.accepted) (same : terms_of new ≡ terms_of old)
    (asked : AsksVerdicts old.inquiries new.inquiries old.witness.core new.witness.core) where
  -- what the signer was asked where the witness failed at it
  abbrev Asks : WitnessFault → Type 0
  Asks why = AsksSigner old.witness.key old.witness.core new.witness.core m old.signings new.signings (Err why)

  -- it was asked for nothing, or all that is accepted is stored
  abbrev StoredWhereAsked : Type 0
  StoredWhereAsked = (new.signings ≡ old.signings) ⊎ AreListed new.witness.core new.witness.list

  module _ (refused_same : new.refused ≡ old.refused) (seen_same : new.seen ≡ old.seen) (written_same : new.written ≡ old.written) (sink_same : new.sink_faults ≡ old.sink_faults) where
    serves_nothing : Serves old new
    serves_nothing = record {
      calls = [];
      behind = standing_of old.witness;
      taken = refl;
      refused_are = refused_same ∙ sym (append-nil old.refused);
      seen_are = seen_same ∙ sym (append-nil old.seen);
      stores = stores;
      lawful = lawful;
      of_stored = All-nil (IsOfListed (terms_of old) new.witness.list);
      same_terms = same;
      inquired = λ none. asked;
    }

    fails_so : (why : WitnessFault) → FailsAt (terms_of old) (standing_of old.witness) m new.witness why → Counted (counts_of old) (counts_of new) why → Asks why → StoredWhereAsked → FailsToTake old new serves_nothing why m
    unfolding serves_nothing
    fails_so why fails counted signed stored = record {
      fails = fails;
      signed = subst (λ shown. AsksSigner old.witness.key old.witness.core new.witness.core m shown new.signings (Err why)) (after-nil old.signings) signed;
      stored_where_asked = ⊎_elim (λ none. inl (none ∙ after-nil old.signings)) inr stored;
      wrote = written_same ∙ after-nil old.written;
      counted = counted;
      sink_same = sink_same;
    }

    stops_so : (why : WitnessFault) → FailsAt (terms_of old) (standing_of old.witness) m new.witness why → Counted (counts_of old) (counts_of new) why → Asks why → StoredWhereAsked → StopsBy old new serves_nothing (m ∷ []) (close_by why)
    unfolding serves_nothing
    stops_so fault.DiskFault fails counted signed stored = (m, refl, fails_so fault.DiskFault fails counted signed stored)
    stops_so fault.SignerFault fails counted signed stored = (m, refl, fails_so fault.SignerFault fails counted signed stored)
    stops_so fault.VerifierFault fails counted signed stored = (m, refl, fails_so fault.VerifierFault fails counted signed stored)
    stops_so fault.LimitReached fails counted signed stored = (m, refl, fails_so fault.LimitReached fails counted signed stored)
    stops_so fault.OutOfMemory fails counted signed stored = (m, refl, fails_so fault.OutOfMemory fails counted signed stored)
    stops_so fault.Broken fails counted signed stored = absurd fails

    -- FAILED: the witness failed at it
    pub one_failed : (why : WitnessFault) (close : Close) → close ≡ close_by why → FailsAt (terms_of old) (standing_of old.witness) m new.witness why → Counted (counts_of old) (counts_of new) why
        → Asks why → StoredWhereAsked → HasEnded old new close (m ∷ [])
    one_failed why close is fails counted signed stored =
        record { serves = serves_nothing; stops = subst (StopsBy old new serves_nothing (m ∷ [])) (sym is) (stops_so why fails counted signed stored) }

  module _ (fate : Fate) (receipts : List Receipt) (holds : HoldsAccepted new.witness.core new.witness.list)
      (refused_more : new.refused ≡ old.refused ++ refused_as m.place fate) (seen_more : new.seen ≡ old.seen ++ seen_in fate) (whole : IsWhole new.witness) (counts_same : counts_of new ≡ counts_of old)
      (signed : new.signings ≡ after old.signings (signings_of old.witness.key (due_by old.witness.key old.witness.core new.witness.core m fate))) where
    abbrev call : Call
    call = record { message = m; fate = fate; receipts = receipts; behind = standing_of new.witness }

    module _ (is : IsCall (terms_of old) (standing_of old.witness) call) where
      serves_one : Serves old new
      serves_one = record {
        calls = call ∷ [];
        behind = standing_of new.witness;
        taken = (is, refl);
        refused_are = refused_more ∙ ap (λ l. old.refused ++ l) (sym (append-nil (refused_as m.place fate)));
        seen_are = seen_more ∙ ap (λ l. old.seen ++ l) (sym (append-nil (seen_in fate)));
        stores = stores;
        lawful = lawful;
        of_stored = subst (All (IsOfListed (terms_of old) new.witness.list)) (sym (append-nil receipts))
            (of_fate (terms_of old) old.witness.core new.witness.core new.witness.list m receipts holds fate is.tells is.receipts_are);
        same_terms = same;
        inquired = λ none. asked;
      }

      signed_one : new.signings ≡ signed_for old serves_one.calls
      unfolding serves_one
      signed_one = signed ∙ ap (after old.signings) (sym (append-nil (signings_of old.witness.key (due_by old.witness.key old.witness.core new.witness.core m fate))))

      -- PUT: its receipts were written
      pub one_put : new.written ≡ after old.written (text_of receipts) → new.sink_faults ≡ old.sink_faults → HasServed old new (m ∷ [])
      unfolding serves_one
      one_put put sink_same = record {
        serves = serves_one;
        messages_are = refl;
        goes_on = record {
          now = refl;
          signed = signed_one;
          wrote = put ∙ ap (λ l. after old.written (text_of l)) (sym (append-nil receipts));
          is_whole = whole;
          counts_same = counts_same;
          sink_same = sink_same;
        };
      }

      -- or a front of them
      pub one_unput : (n : ℕ) → new.written ≡ after old.written (take n (text_of receipts)) → Rose old.sink_faults new.sink_faults → HasEnded old new WriteFault (m ∷ [])
      unfolding serves_one
      one_unput n put rose = record {
        serves = serves_one;
        stops = (
          refl,
          record {
            earlier = [];
            last = call;
            all = refl;
            signed = signed_one;
            count = n;
            wrote = put;
            rose = rose;
            now = refl;
            is_whole = whole;
            counts_same = counts_same;
          },
        );
      }
