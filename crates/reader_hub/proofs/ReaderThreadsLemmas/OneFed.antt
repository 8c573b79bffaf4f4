-- From what one reader did with its pass to what it fed of all that is told.
use Rattle.std.proofs.Common.{◌≡◌, ℕ, ◌+◌, ◌≤◌, List, [], Option, Some, None, refl, sym, ◌∙◌, ap, subst, arith}
use Rattle.std.specs.Prelude.{map, filter, flat_map, All}
use Rattle.std.proofs.lemmas.List.Elements.{All-nil}
use mathlib.Core.List.{IsPrefix}
use Rattle.cesr_stream.specs.Front.{front}
use Rattle.cesr_stream.specs.Items.{none as no_item}
use Rattle.cesr_stream.specs.Parts.{unfinished}
use Rattle.keri_outside.specs.declared.limits.Limits.{Limits}
use Rattle.journal.specs.Journal.Feeds.{AreMessages, FeedsOne, entry_of, is_taken_by, reader_of}
use Rattle.journal.specs.Journal.History.{Told}
use Rattle.journal.specs.Journal.Replies.{IsWithin}
use Rattle.run_status.specs.RunStatus.Readers.{Reader, VerifierShown}
use Rattle.keri_outside.specs.Shown.{SourceShown}
use Rattle.run_status.specs.declared.run_status.close.Close.{Close}
use Rattle.run_status.specs.declared.run_status.close.Close.TheVariants.{ReadFault, VerifierFault}
use Rattle.turn_lock.specs.Histories.{share_of}
use Rattle.validator_core.specs.ValidatorCore.Verdicts.{inquiries_in}
use Rattle.turn_lock.specs.Known.{OwnsAlone}
use Rattle.reader_hub.specs.declared.reader_hub.core_head.CoreHead.{CoreHead}
use Rattle.reader_hub.specs.declared.reader_hub.extent.Extent.{Extent}
use Rattle.reader_hub.specs.SharedReader.Asks.{AsksFor, verdict_count}
use Rattle.reader_hub.specs.SharedReader.Offers.{IsEntryOf}
use Rattle.reader_hub.specs.SharedReader.Taken.{standing}
use Rattle.reader_hub.proofs.SharedReaderLemmas.Inquiries.{at_most, none_asked}
use Rattle.reader_hub.proofs.SharedReaderLemmas.Streams.{first_none}
use Rattle.reader_hub.proofs.SharedReaderLemmas.Verdicts.{verdict_count_grows}
use Rattle.reader_hub.specs.ReaderThreads.Fed.{HasNoSource, ReadsBy}
use Rattle.reader_hub.specs.ReaderThreads.Given.{end_of, said_by, unread}
use Rattle.reader_hub.specs.ReaderThreads.Runs.{PassSeen, ReadsStream, RunsBy}
use Rattle.reader_hub.specs.declared.reader_threads.last_round.LastRound.TheVariants.{NoneFailed}
use Rattle.reader_hub.proofs.ReaderThreadsLemmas.Carried.{closes_stream}
use Rattle.reader_hub.proofs.ReaderThreadsLemmas.Shares.{filter-share, heard_all}

-- no messages are among no bytes
nothing_among : (limits : Limits) → AreMessages limits [] []
unfolding front
nothing_among limits = record { items = []; end = unfinished; all = record { begun = _; place = 0; stand = no_item; behind = refl; ends = tt }; made = refl }

-- what a reader of this number fed
pub record ReadIn (limits : Limits) (told : List Told) (most k : ℕ) (source : Option SourceShown) (verifier : Option VerifierShown) (reader : Reader) : Type 0 where
  pub bytes : List ℕ
  pub feeds : FeedsOne limits told k (end_of bytes reader)
  pub reads : ReadsBy limits told most k NoneFailed source verifier reader bytes (map (λ j. j.message) feeds.0.offered)

module _ (limits : Limits) (told : List Told) (within : IsWithin limits [] told) (most k : ℕ) (head : CoreHead) (limits_are : head.limits ≡ limits) where
  -- a reader that reads nothing feeds nothing
  feeds_none : (reader : Reader) → reader.refused ≡ [] → share_of reader_of k told ≡ [] → FeedsOne limits told k (end_of [] reader)
  feeds_none reader refused none = (
    record {
      offered = [];
      first = first_none limits;
      bodies_are = All-nil _;
      taken = filter-share k told ∙ ap (filter (is_taken_by k)) none;
      refused = refused;
      all = λ e. nothing_among limits;
    },
    heard_all k (said_by reader.verifier) told (rw none (All-nil _)),
  )

  module _ (old : PassSeen) (reader : Reader) (new : PassSeen) (number : old.pass.number ≡ k) (own : OwnsAlone old.pass [])
      (shares : (es : List Told) → OwnsAlone new.pass es → share_of reader_of k told ≡ es) where
    -- it was given no source, or no verifier
    reads_none : (source : Option SourceShown) (verifier : Option VerifierShown) (close : Close) → new ≡ old → reader ≡ unread source verifier close → FeedsOne limits told k (end_of [] reader)
    reads_none source verifier close same is = feeds_none reader (ap (λ r. r.refused) is) (shares [] (subst (λ (x : PassSeen). OwnsAlone x.pass []) (sym same) own))

    -- it was given both
    reads_from : (limit : ℕ) (extent : Extent) (source : SourceShown) (verifier : VerifierShown) → limit ≡ limits.turns → ReadsStream limits limit extent source verifier old reader new
        → new.pass.head ≡ Some head → IsPrefix new.pass.seen told → new.pass.past ≤ most → ReadIn limits told most k (Some source) (Some verifier) reader
    reads_from limit extent source verifier turns run head_is begins past =
        let r = run.reads in
        let share : share_of reader_of k told ≡ r.share = shares r.share r.own in
        let said : said_by reader.verifier ≡ verifier.says = ap said_by run.verifier_is ∙ r.same.says in
        let asked : AsksFor verifier.inquiries run.verifier_left.inquiries (share_of reader_of k told) (verdict_count told + 1) =
        (let grown = verdict_count_grows new.pass.seen told begins in subst (λ l. AsksFor verifier.inquiries run.verifier_left.inquiries l (verdict_count told + 1)) (sym share)
        (at_most verifier.inquiries run.verifier_left.inquiries r.share _ _ (omega (arith, grown)) r.inquired)) in
        let taken = filter-share k told ∙ (ap (filter (is_taken_by k)) share ∙ subst (λ n. filter (is_taken_by n) r.share ≡ flat_map (entry_of n) r.feeds_are.offered) number r.feeds_are.taken) in
        record {
          bytes = r.bytes;
          feeds = (
            record {
              offered = r.feeds_are.offered;
              first = r.feeds_are.first;
              bodies_are = r.feeds_are.bodies_are;
              taken = taken;
              refused = r.feeds_are.refused;
              all = r.feeds_are.all;
            },
            heard_all k (said_by reader.verifier) told (rw (said, share) (subst (λ n. All (IsEntryOf n verifier.says) r.share) number r.each)),
          );
          reads = record {
            source_left = run.source_left;
            verifier_left = run.verifier_left;
            source_is = run.source_is;
            verifier_is = run.verifier_is;
            same_says = r.same.says;
            more = r.more;
            gave = r.gave;
            closes = λ some. closes_stream limits told within most k
                (standing extent limit old.lock old.pass verifier.says verifier.inquiries verifier.faults [])
                (standing extent limit new.lock new.pass run.verifier_left.says run.verifier_left.inquiries run.verifier_left.faults reader.refused)
                source run.source_left verifier run.verifier_left turns refl refl head head_is limits_are begins past r.bytes
                (map (λ j. j.message) r.feeds_are.offered) reader.close (r.closes some);
            none_failed = λ other none. r.none_failed other;
            inquired = at_most verifier.inquiries run.verifier_left.inquiries _ _ _ (omega arith) asked;
            but_one = λ none. asked;
            none_seen = run.none_seen;
          };
        }

    -- it was given no source: its verifier wasn't asked
    reads_nothing : (verifier : VerifierShown) → new ≡ old → reader ≡ unread None (Some verifier) ReadFault → HasNoSource limits told most k NoneFailed verifier reader
    reads_nothing verifier same is =
        let none : share_of reader_of k told ≡ [] = shares [] (subst (λ (x : PassSeen). OwnsAlone x.pass []) (sym same) own) in
        let asked : AsksFor verifier.inquiries verifier.inquiries (share_of reader_of k told) 0 = none_asked verifier.inquiries (share_of reader_of k told) (ap inquiries_in none) in
        record {
          verifier_left = verifier;
          source_is = ap (λ r. r.source) is;
          verifier_is = ap (λ r. r.verifier) is;
          same_says = refl;
          none_failed = λ e. refl;
          inquired = at_most verifier.inquiries verifier.inquiries (share_of reader_of k told) 0 _ (omega arith) asked;
          but_one = λ e. at_most verifier.inquiries verifier.inquiries (share_of reader_of k told) 0 _ (omega arith) asked;
          none_refused = ap (λ r. r.refused) is;
          none_seen = ap (λ r. r.seen) is;
          close_is = ap (λ r. r.close) is;
        }

    pub reads_in : (limit : ℕ) (extent : Extent) (source : Option SourceShown) (verifier : Option VerifierShown) → limit ≡ limits.turns → RunsBy limits limit extent source verifier old reader new
        → new.pass.head ≡ Some head → IsPrefix new.pass.seen told → new.pass.past ≤ most → ReadIn limits told most k source verifier reader
    reads_in limit extent None None turns run head_is begins past = record { bytes = []; feeds = reads_none None None ReadFault run.0 run.1; reads = (run.1, refl) }
    reads_in limit extent None (Some verifier) turns run head_is begins past = record { bytes = []; feeds = reads_none None (Some verifier) ReadFault run.0 run.1; reads = (reads_nothing verifier run.0 run.1, refl) }
    reads_in limit extent (Some source) None turns run head_is begins past = record { bytes = []; feeds = reads_none (Some source) None VerifierFault run.0 run.1; reads = (run.1, refl) }
    reads_in limit extent (Some source) (Some verifier) turns run head_is begins past = reads_from limit extent source verifier turns run head_is begins past
