-- What readers read, carried over the last round.
use Rattle.std.proofs.Common.{◌≡◌, ◌≢◌, ℕ, suc, ◌+◌, ◌*◌, ◌<◌, ◌≤◌, ◌⊎◌, inl, inr, Bool, true, false, List, [], ◌∷◌, ◌++◌, Option, Some, None, length, refl, sym, ◌∙◌, ap, subst, arith, append-nil}
use Rattle.std.specs.Prelude.{All, filter, flat_map, map}
use Rattle.std.proofs.Math.Nat.{mul-le-mul_left}
use Rattle.std.proofs.lemmas.Bool.{cases_Bool}
use Rattle.std.proofs.lemmas.Grind.{flat_map-append}
use Rattle.std.proofs.lemmas.List.Elements.{All-append, All-weaker, filter-append, recursion_from_All}
use Rattle.std.specs.List.{AllByRecursion}
use Rattle.lists.specs.KeriSpecs.Causes.{Rose}
use Rattle.cesr_stream.specs.declared.message.Message.{Message}
use Rattle.cesr_stream.specs.Items.{Placed}
use Rattle.cesr_stream.specs.Reading.{Reading}
use Rattle.keri_outside.specs.declared.limits.Limits.{Limits}
use Rattle.journal.specs.declared.journal.mode.Mode.{Mode}
use Rattle.journal.specs.Journal.Feeds.{FeedEach, FeedsOne, IsHeardFrom, is_taken_by, reader_of}
use Rattle.journal.specs.Journal.History.{Told, took, heard, taken}
use Rattle.journal.specs.Journal.Questions.{IsInStep, questions}
use Rattle.journal.specs.Journal.Replies.{IsWithin}
use Rattle.run_status.specs.RunStatus.Readers.{Reader, VerifierShown, close_found}
use Rattle.keri_outside.specs.Shown.{SourceShown}
use Rattle.run_status.specs.declared.run_status.close.Close.{Close}
use Rattle.run_status.specs.declared.run_status.close.Close.TheVariants.{End, Bad, ReadFault, VerifierFault, SignerFault, DiskFault, WriteFault, Malformed, LimitReached, OutOfMemory as NoMemory}
use Rattle.turn_lock.specs.Histories.{share_of}
use Rattle.turn_lock.proofs.Histories.{share_of-append}
use Rattle.validator_core.specs.ValidatorCore.View.{CoreView, IsSoundCore, open_of, told_of}
use Rattle.validator_core.proofs.ValidatorCoreLemmas.OpenQuestions.{no_bodies}
use Rattle.reader_hub.specs.SharedReader.Asks.{AsksFor, Says, verdict_count}
use Rattle.reader_hub.specs.SharedReader.ReadsOne.{is_stopped}
use Rattle.reader_hub.proofs.SharedReaderLemmas.Inquiries.{asked_on}
use Rattle.reader_hub.proofs.SharedReaderLemmas.Verdicts.{verdict_count-append}
use Rattle.reader_hub.specs.ReaderThreads.Asked.{EachAsksOnly, EachGoesOn}
use Rattle.reader_hub.specs.ReaderThreads.Fed.{AllRead, EndsReader, EndsStream, HasNoSource, NextFindsNoRoom, ReadEach, ReadsBy, ReadsFrom, ends_of, most_turns}
use Rattle.reader_hub.specs.ReaderThreads.Given.{Given, end_of, said_by, unread}
use Rattle.reader_hub.specs.ReaderThreads.LastRound.{AllGiveUp, AsksEach, AsksOne, AsksRest, FailsNow, GivesUp, IsAsked, IsAskedIfThere, IsHeardOf, OneFails, unheard_by}
use Rattle.reader_hub.specs.ReaderThreads.Told.{AllTold, EachFailed, FailedIfThere, HasFailed, SomeFailed}
use Rattle.reader_hub.specs.declared.reader_threads.last_round.LastRound.{LastRound}
use Rattle.reader_hub.specs.declared.reader_threads.last_round.LastRound.TheVariants.{NoneFailed}
use Rattle.reader_hub.proofs.ReaderThreadsLemmas.Carried.{stays_away}
use Rattle.reader_hub.proofs.ReaderThreadsLemmas.Closed.{within_by}
use Rattle.reader_hub.proofs.ReaderThreadsLemmas.Only.{each_only_on}
use Rattle.reader_hub.proofs.ReaderThreadsLemmas.Rounds.{failed_then, fails_at, gives_up_at, no_body, none_took, not_then, one_unheard, same_reader, unsaid}

-- No message was told in the last round: `more` came behind what was told, all of it verdicts.
module _ (limits : Limits) (told more : List Told) (count : ℕ) (verdicts : All (IsHeardOf 0 count) more) (within : IsWithin limits [] (told ++ more)) (rest : LastRound) where
  abbrev all : List Told
  all = told ++ more

  none_taken : (k : ℕ) (ts : List Told) → AllByRecursion (IsHeardOf 0 count) ts → filter (is_taken_by k) ts ≡ []
  none_taken k [] h = refl
  none_taken k (t ∷ ts) h = let one = none_took k 0 count t h.0 in rw one (none_taken k ts h.1)

  no_bodies_in : (ts : List Told) → AllByRecursion (IsHeardOf 0 count) ts → flat_map taken ts ≡ []
  no_bodies_in [] h = refl
  no_bodies_in (t ∷ ts) h = ap (λ l. l ++ flat_map taken ts) (no_body 0 count t h.0) ∙ no_bodies_in ts h.1

  abbrev each_heard : AllByRecursion (IsHeardOf 0 count) more
  each_heard = recursion_from_All (IsHeardOf 0 count) more verdicts

  taken_as_before : (k : ℕ) → filter (is_taken_by k) all ≡ filter (is_taken_by k) told
  taken_as_before k = filter-append (is_taken_by k) told more ∙ (ap (λ l. filter (is_taken_by k) told ++ l) (none_taken k more each_heard) ∙ append-nil _)

  -- one reader, and what it was given
  module _ (k most later : ℕ) (grows : most ≤ later) (old new : Reader) (a : AsksOne more rest k old new) where
    abbrev had_failed : Bool
    had_failed = (close_found old.close).verifier_failed

    saids : (o p : Option VerifierShown) → IsAskedIfThere more rest k had_failed o p → (said_by p ≡ said_by o) × All (IsHeardFrom k (said_by p)) more
    saids None None t = (refl, λ i d lt. unsaid k _)
    saids None (Some w) t = absurd t
    saids (Some v) None t = absurd t
    saids (Some v) (Some w) t = (t.same_says, subst (λ (s : Says). All (IsHeardFrom k s) more) (sym t.same_says) t.said)

    none_there : (o p : Option VerifierShown) → o ≡ None → IsAskedIfThere more rest k had_failed o p → p ≡ o
    none_there None None e t = refl
    none_there None (Some w) e t = absurd t
    none_there (Some v) p e t = cc

    -- the verifier that is left of one that was there
    record IsLeft (mid : VerifierShown) : Type 0 where
      left : VerifierShown
      left_is : new.verifier ≡ Some left
      asked : IsAsked more rest k had_failed mid left

    left_of : (o p : Option VerifierShown) (mid : VerifierShown) → o ≡ Some mid → IsAskedIfThere more rest k had_failed o p → (left : VerifierShown) × (p ≡ Some left) × IsAsked more rest k had_failed mid left
    left_of None p mid e t = cc
    left_of (Some v) None mid e t = absurd t
    left_of (Some v) (Some w) mid e t = (w, refl, subst (λ (u : VerifierShown). IsAsked more rest k had_failed u w) (some_same v mid e) t)
      where
        some_same : (x y : VerifierShown) → Some x ≡ Some y → x ≡ y
        some_same x y s = cc

    is_left : (mid : VerifierShown) → old.verifier ≡ Some mid → IsLeft mid
    is_left mid e = let l = left_of old.verifier new.verifier mid e a.asked in record { left = l.0; left_is = l.1; asked = l.2 }

    -- the inquiries of before, and those of the round
    inquired_on : (v mid left : VerifierShown) (n : ℕ) → IsAsked more rest k had_failed mid left → verdict_count told + 1 + (verdict_count more + unheard_by rest) ≤ n
        → AsksFor v.inquiries mid.inquiries (share_of reader_of k told) (verdict_count told + 1) → AsksFor v.inquiries left.inquiries (share_of reader_of k all) n
    inquired_on v mid left n asked few before =
        subst (λ (l : List Told). AsksFor v.inquiries left.inquiries l n) (sym (share_of-append reader_of k told more))
        (asked_on v.inquiries mid.inquiries left.inquiries (share_of reader_of k told) (share_of reader_of k more) (verdict_count told + 1) (verdict_count more + unheard_by rest) n few before asked.inquired)

    few_in_all : verdict_count told + 1 + (verdict_count more + unheard_by rest) ≤ verdict_count all + 2
    few_in_all = let parts = verdict_count-append told more in let one = one_unheard rest in omega (arith, parts, one)

    few_answered : rest ≡ NoneFailed → verdict_count told + 1 + (verdict_count more + unheard_by rest) ≤ verdict_count all + 1
    few_answered e = let parts = verdict_count-append told more in let none = ap unheard_by e in omega (arith, parts, none)

    finds_none : (bytes : List ℕ) (offered : List Message) → NextFindsNoRoom limits told k bytes offered → NextFindsNoRoom limits all k bytes offered
    finds_none bytes offered n =
        let full = n.turned_away in
        record {
          next = n.next;
          first = n.first;
          turned_away = record { gives = full.gives; judged = full.judged; takes = stays_away limits told all (more, refl) within k k n.next full.gives full.takes };
        }

    -- why it ended
    module _ (source source_left : SourceShown) (v mid left : VerifierShown) where
      closes_on : (bytes : List ℕ) (reading : Reading) (items : List Placed) (offered : List Message) (close : Close) → (close ≡ VerifierFault → left.faults ≡ mid.faults)
          → EndsReader limits told most k source source_left v mid bytes reading items offered close → EndsReader limits all later k source source_left v left bytes reading items offered close
      closes_on bytes reading items offered End kept c = c
      closes_on bytes reading items offered (Bad bad) kept c = c
      closes_on bytes reading items offered ReadFault kept c = c
      closes_on bytes reading items offered LimitReached kept (inl full) = inl full
      closes_on bytes reading items offered LimitReached kept (inr (gave, inl spent)) = inr (gave, inl (omega (arith, spent, grows)))
      closes_on bytes reading items offered LimitReached kept (inr (gave, inr next)) = inr (gave, inr (finds_none bytes offered next))
      closes_on bytes reading items offered VerifierFault kept c = (c.0, subst (λ (n : ℕ). Rose v.faults n) (sym (kept refl)) c.1)
      closes_on bytes reading items offered SignerFault kept c = absurd c
      closes_on bytes reading items offered DiskFault kept c = absurd c
      closes_on bytes reading items offered WriteFault kept c = absurd c
      closes_on bytes reading items offered (Malformed place) kept c = absurd c
      closes_on bytes reading items offered NoMemory kept c = absurd c

      stream_on : (bytes : List ℕ) (offered : List Message) (close : Close) → (close ≡ VerifierFault → left.faults ≡ mid.faults) → EndsStream limits told most k source source_left v mid bytes offered close
          → EndsStream limits all later k source source_left v left bytes offered close
      stream_on bytes offered close kept c = record {
        reading = c.reading;
        items = c.items;
        stream = c.stream;
        closes = closes_on bytes c.reading c.items offered close kept c.closes;
      }

    kept_by : (mid left : VerifierShown) → IsAsked more rest k had_failed mid left → old.close ≡ VerifierFault → left.faults ≡ mid.faults
    kept_by mid left asked e = asked.unasked (ap (λ c. (close_found c).verifier_failed) e)

    module _ (bytes : List ℕ) (offered : List Message) where
      -- it had a verifier and no source, or both
      sourceless_on : (v : VerifierShown) → HasNoSource limits told most k NoneFailed v old → HasNoSource limits all later k rest v new
      sourceless_on v h =
          let l = is_left h.verifier_left h.verifier_is in
          record {
            verifier_left = l.left;
            source_is = a.source ∙ h.source_is;
            verifier_is = l.left_is;
            same_says = l.asked.same_says ∙ h.same_says;
            none_failed = λ e. l.asked.none_failed e ∙ h.none_failed refl;
            inquired = inquired_on v h.verifier_left l.left (verdict_count all + 2) l.asked few_in_all (h.but_one refl);
            but_one = λ e. inquired_on v h.verifier_left l.left (verdict_count all + 1) l.asked (few_answered e) (h.but_one refl);
            none_refused = a.refused ∙ h.none_refused;
            none_seen = a.seen ∙ h.none_seen;
            close_is = a.close ∙ h.close_is;
          }

      from_on : (source : SourceShown) (v : VerifierShown) → ReadsFrom limits told most k NoneFailed source v old bytes offered → ReadsFrom limits all later k rest source v new bytes offered
      from_on source v h =
          let l = is_left h.verifier_left h.verifier_is in
          record {
            source_left = h.source_left;
            verifier_left = l.left;
            source_is = a.source ∙ h.source_is;
            verifier_is = l.left_is;
            same_says = l.asked.same_says ∙ h.same_says;
            more = h.more;
            gave = h.gave;
            closes = λ some. subst (λ (c : Close). EndsStream limits all later k source h.source_left v l.left bytes offered c) (sym a.close)
                (stream_on source h.source_left v h.verifier_left l.left bytes offered old.close (kept_by h.verifier_left l.left l.asked) (h.closes (λ e. some (a.close ∙ e))));
            none_failed = λ other e. l.asked.none_failed e ∙ h.none_failed (λ same. other (a.close ∙ same)) refl;
            inquired = inquired_on v h.verifier_left l.left (verdict_count all + 2) l.asked few_in_all (h.but_one refl);
            but_one = λ e. inquired_on v h.verifier_left l.left (verdict_count all + 1) l.asked (few_answered e) (h.but_one refl);
            none_seen = a.seen ∙ h.none_seen;
          }

      unread_on : (source : Option SourceShown) (close : Close) → old ≡ unread source None close → new ≡ unread source None close
      unread_on source close e =
          let none = none_there old.verifier new.verifier (ap (λ r. r.verifier) e) a.asked in
          same_reader old new a.source none a.refused a.seen a.close ∙ e

      reads_on : (source : Option SourceShown) (verifier : Option VerifierShown) → ReadsBy limits told most k NoneFailed source verifier old bytes offered → ReadsBy limits all later k rest source verifier new bytes offered
      reads_on None None h = (unread_on None ReadFault h.0, h.1)
      reads_on None (Some v) h = (sourceless_on v h.0, h.1)
      reads_on (Some source) None h = (unread_on (Some source) VerifierFault h.0, h.1)
      reads_on (Some source) (Some v) h = from_on source v h

      -- what became of a verifier that was given
      record WasGiven (v : VerifierShown) : Type 0 where
        mid : VerifierShown
        there : old.verifier ≡ Some mid
        kept : old.close ≢ VerifierFault → mid.faults ≡ v.faults
        rose : old.close ≡ VerifierFault → Rose v.faults mid.faults

      given_to : (source : Option SourceShown) (v : VerifierShown) → ReadsBy limits told most k NoneFailed source (Some v) old bytes offered → WasGiven v
      given_to None v h = record {
        mid = h.0.verifier_left;
        there = h.0.verifier_is;
        kept = λ other. h.0.none_failed refl;
        rose = λ e. (let both : ReadFault ≡ VerifierFault = sym h.0.close_is ∙ e in cc);
      }
      given_to (Some source) v h = record {
        mid = h.verifier_left;
        there = h.verifier_is;
        kept = λ other. h.none_failed other refl;
        rose = λ e. (subst (λ (c : Close). c ≢ NoMemory → EndsStream limits told most k source h.source_left v h.verifier_left bytes offered c) e h.closes (λ none. cc)).closes.1;
      }

      rose_since : (v mid left : VerifierShown) → (old.close ≢ VerifierFault → mid.faults ≡ v.faults) → (old.close ≡ VerifierFault → Rose v.faults mid.faults) → IsAsked more rest k had_failed mid left
          → (had_failed ≡ true) ⊎ Rose mid.faults left.faults → Rose v.faults left.faults
      rose_since v mid left kept rose asked why = elim (cases_Bool had_failed) [
        | inl failed ↦ subst (λ (n : ℕ). Rose v.faults n) (sym (asked.unasked failed)) (rose (failed_then old.close failed))
        | inr fine ↦ elim why [
          | inl failed ↦ (let both : true ≡ false = sym failed ∙ fine in cc)
          | inr now ↦ subst (λ (n : ℕ). Rose n left.faults) (kept (not_then old.close fine)) now
        ]
      ]

      gave_up : (source : Option SourceShown) (verifier : Option VerifierShown) → ReadsBy limits told most k NoneFailed source verifier old bytes offered → GivesUp had_failed old.verifier new.verifier
          → FailedIfThere verifier new.verifier
      gave_up source None h up = tt
      gave_up source (Some v) h up =
          let w = given_to source v h in
          let l = is_left w.mid w.there in
          rw l.left_is (rose_since v w.mid l.left w.kept w.rose l.asked (gives_up_at had_failed old.verifier new.verifier w.mid l.left w.there l.left_is up))

      failed_now : (source : Option SourceShown) (verifier : Option VerifierShown) → ReadsBy limits told most k NoneFailed source verifier old bytes offered → FailsNow old.verifier new.verifier
          → HasFailed verifier new.verifier
      failed_now None None h now = (let none = ap (λ r. r.verifier) h.0 in absurd (rw none at now))
      failed_now (Some source) None h now = (let none = ap (λ r. r.verifier) h.0 in absurd (rw none at now))
      failed_now source (Some v) h now =
          let w = given_to source v h in
          let l = is_left w.mid w.there in
          rw l.left_is (rose_since v w.mid l.left w.kept w.rose l.asked (inr (fails_at old.verifier new.verifier w.mid l.left w.there l.left_is now)))

  -- one reader
  record OneOn (most k : ℕ) (g : Given) (bytes : List ℕ) (new : Reader) : Type 0 where
    feeds : FeedsOne limits all k (end_of bytes new)
    reads : ReadsBy limits all most k rest g.source g.verifier new bytes (map (λ j. j.message) feeds.0.offered)

  -- and all of them, the first having this number
  record EachOn (most k : ℕ) (read : List (List ℕ)) (given : List Given) (olds news : List Reader) : Type 0 where
    feeds : FeedEach limits all k (ends_of read news)
    each : ReadEach limits all most rest k read given news feeds
    same : length (ends_of read news) ≡ length (ends_of read olds)
    whole : length (ends_of read olds) ≡ length olds

  module _ (most later : ℕ) (grows : most ≤ later) where
    one_on : (k : ℕ) (g : Given) (bytes : List ℕ) (old new : Reader) → AsksOne more rest k old new → (f : FeedsOne limits told k (end_of bytes old))
        → ReadsBy limits told most k NoneFailed g.source g.verifier old bytes (map (λ j. j.message) f.0.offered) → OneOn later k g bytes new
    one_on k g bytes old new a f r =
        let said = saids k most later grows old new a old.verifier new.verifier a.asked in
        record {
          feeds = (
            record {
              offered = f.0.offered;
              first = f.0.first;
              bodies_are = f.0.bodies_are;
              taken = taken_as_before k ∙ f.0.taken;
              refused = a.refused ∙ f.0.refused;
              all = λ unstopped. f.0.all (ap is_stopped (sym a.close) ∙ unstopped);
            },
            All-append (IsHeardFrom k (said_by new.verifier)) told more (subst (λ (s : Says). All (IsHeardFrom k s) told) (sym said.0) f.1) said.1,
          );
          reads = reads_on k most later grows old new a bytes (map (λ j. j.message) f.0.offered) g.source g.verifier r;
        }

    each_on : (k : ℕ) (read : List (List ℕ)) (given : List Given) (olds news : List Reader) (f : FeedEach limits told k (ends_of read olds)) → ReadEach limits told most NoneFailed k read given olds f
        → AsksEach more rest k olds news → EachOn later k read given olds news
    each_on k [] [] [] [] f r a = record { feeds = tt; each = tt; same = refl; whole = refl }
    each_on k [] [] [] (new ∷ news) f r a = absurd a
    each_on k [] [] (old ∷ olds) news f r a = absurd r
    each_on k [] (g ∷ given) olds news f r a = absurd r
    each_on k (bytes ∷ read) [] olds news f r a = absurd r
    each_on k (bytes ∷ read) (g ∷ given) [] news f r a = absurd r
    each_on k (bytes ∷ read) (g ∷ given) (old ∷ olds) [] f r a = absurd a
    each_on k (bytes ∷ read) (g ∷ given) (old ∷ olds) (new ∷ news) f r a =
        let one = one_on k g bytes old new a.0 f.0 r.0 in
        let others = each_on (k + 1) read given olds news f.1 r.1 a.1 in
        record { feeds = (one.feeds, others.feeds); each = (one.reads, others.each); same = ap suc others.same; whole = ap suc others.whole }

    gave_up_each : (k : ℕ) (read : List (List ℕ)) (given : List Given) (olds news : List Reader) (f : FeedEach limits told k (ends_of read olds)) → ReadEach limits told most NoneFailed k read given olds f
        → AsksEach more rest k olds news → AllGiveUp olds news → EachFailed given news
    gave_up_each k read [] olds news f r a up = tt
    gave_up_each k read (g ∷ given) olds [] f r a up = tt
    gave_up_each k [] (g ∷ given) olds (new ∷ news) f r a up = absurd r
    gave_up_each k (bytes ∷ read) (g ∷ given) [] (new ∷ news) f r a up = absurd r
    gave_up_each k (bytes ∷ read) (g ∷ given) (old ∷ olds) (new ∷ news) f r a up =
        (gave_up k most later grows old new a.0 bytes (map (λ j. j.message) f.0.0.offered) g.source g.verifier r.0 up.0, gave_up_each (k + 1) read given olds news f.1 r.1 a.1 up.1)

    failed_some : (k : ℕ) (read : List (List ℕ)) (given : List Given) (olds news : List Reader) (f : FeedEach limits told k (ends_of read olds)) → ReadEach limits told most NoneFailed k read given olds f
        → AsksEach more rest k olds news → OneFails olds news → SomeFailed given news
    failed_some k read given [] news f r a now = absurd now
    failed_some k read given (old ∷ olds) [] f r a now = absurd now
    failed_some k [] [] (old ∷ olds) (new ∷ news) f r a now = absurd r
    failed_some k [] (g ∷ given) (old ∷ olds) (new ∷ news) f r a now = absurd r
    failed_some k (bytes ∷ read) [] (old ∷ olds) (new ∷ news) f r a now = absurd r
    failed_some k (bytes ∷ read) (g ∷ given) (old ∷ olds) (new ∷ news) f r a (inl now) = inl (failed_now k most later grows old new a.0 bytes (map (λ j. j.message) f.0.0.offered) g.source g.verifier r.0 now)
    failed_some k (bytes ∷ read) (g ∷ given) (old ∷ olds) (new ∷ news) f r a (inr others) = inr (failed_some (k + 1) read given olds news f.1 r.1 a.1 others)

  -- there are as many readers, which refused the same
  as_many : (k : ℕ) (olds news : List Reader) → AsksEach more rest k olds news → length news ≡ length olds
  as_many k [] [] a = refl
  as_many k [] (new ∷ news) a = absurd a
  as_many k (old ∷ olds) [] a = absurd a
  as_many k (old ∷ olds) (new ∷ news) a = ap suc (as_many (k + 1) olds news a.1)

  same_refused : (k : ℕ) (olds news : List Reader) → AsksEach more rest k olds news → flat_map (λ r. r.refused) news ≡ flat_map (λ r. r.refused) olds
  same_refused k [] [] a = refl
  same_refused k [] (new ∷ news) a = absurd a
  same_refused k (old ∷ olds) [] a = absurd a
  same_refused k (old ∷ olds) (new ∷ news) a = λ i. a.0.refused i ++ same_refused (k + 1) olds news a.1 i

  more_turns : (olds news : List Reader) → AsksEach more rest 0 olds news → most_turns told olds ≤ most_turns all news
  more_turns olds news a =
      let bodies = ap length (flat_map-append taken told more ∙ (ap (λ l. flat_map taken told ++ l) (no_bodies_in more each_heard) ∙ append-nil _)) in
      let refused = ap length (same_refused 0 olds news a) in
      let parts = verdict_count-append told more in
      let product : length olds * (verdict_count told + 2) ≤ length olds * (verdict_count all + 2) = mul-le-mul_left (length olds) (omega (arith, parts)) in
      let count : length news * (verdict_count all + 2) ≡ length olds * (verdict_count all + 2) = ap (λ n. n * (verdict_count all + 2)) (as_many 0 olds news a) in
      omega (arith, bodies, refused, product, count)

  module _ (given : List Given) (olds news : List Reader) (read : AllRead limits told given olds NoneFailed) (asks : AsksEach more rest 0 olds news) (few : count ≤ length olds) where
    abbrev on : EachOn (most_turns all news) 0 read.read given olds news
    on = each_on (most_turns told olds) (most_turns all news) (more_turns olds news asks) 0 read.read given olds news read.fed.each read.each asks

    still_one : (t : Told) → reader_of t < length (ends_of read.read olds) → reader_of t < length (ends_of read.read news)
    still_one t lt = let same = on.same in omega (arith, same, lt)

    one_of_them : (t : Told) → IsHeardOf 0 count t → reader_of t < length (ends_of read.read news)
    one_of_them (took reader b claims) h = absurd h
    one_of_them (heard reader b key sig verdict) h = let same = on.same in let whole = on.whole in let last = h.1 in omega (arith, same, whole, last, few)

    pub all_read_on : AllRead limits all given news rest
    all_read_on = record {
      read = read.read;
      fed = record {
        each = on.feeds;
        only = All-append (λ t. reader_of t < length (ends_of read.read news)) told more
            (All-weaker (λ t. reader_of t < length (ends_of read.read olds)) (λ t. reader_of t < length (ends_of read.read news)) still_one told read.fed.only)
            (All-weaker (IsHeardOf 0 count) (λ t. reader_of t < length (ends_of read.read news)) one_of_them more verdicts);
      };
      each = on.each;
    }

    pub all_gave_up : AllGiveUp olds news → EachFailed given news
    all_gave_up up = gave_up_each (most_turns told olds) (most_turns all news) (more_turns olds news asks) 0 read.read given olds news read.fed.each read.each asks up

    pub one_did : OneFails olds news → SomeFailed given news
    one_did now = failed_some (most_turns told olds) (most_turns all news) (more_turns olds news asks) 0 read.read given olds news read.fed.each read.each asks now

-- what all readers told, with the last round
pub all_told : (mode : Mode) (limits : Limits) (given : List Given) (olds news : List Reader) (old new : CoreView) (rest : LastRound) → AllRead limits (told_of old) given olds NoneFailed
    → EachAsksOnly mode (told_of old) given olds → (length olds ≡ 1 → IsInStep mode (told_of old)) → AsksRest 0 olds news old new rest
    → old.mode ≡ mode → old.limits ≡ limits → old.base ≡ 0 → IsSoundCore new → AllTold mode limits given news rest new
all_told mode limits given olds news old new rest read before alone asks mode_is limits_are no_base stands = record {
  read = subst (λ (l : List Told). AllRead limits l given news rest) (sym asks.behind)
      (all_read_on limits (told_of old) asks.more (length olds) asks.verdicts within rest given olds news read asks.each (omega arith));
  asked = λ some. elim (asks.asked some) [
    | inl none ↦ inl (closed none)
    | inr up ↦ inr (all_gave_up limits (told_of old) asks.more (length olds) asks.verdicts within rest given olds news read asks.each (omega arith) up)
  ];
  failed = λ e. one_did limits (told_of old) asks.more (length olds) asks.verdicts within rest given olds news read asks.each (omega arith) (asks.failed e);
  only = each_only_on mode (told_of old) (told_of new) (asks.more, sym asks.behind) given olds news before (subst (λ (m : Mode). EachGoesOn m (told_of new) olds news) mode_is (asks.only no_base));
  alone = λ one. subst (λ (m : Mode). IsInStep m (told_of new)) mode_is
      (asks.in_step no_base (subst (λ (m : Mode). IsInStep m (told_of old)) (sym mode_is) (alone (sym (as_many limits (told_of old) asks.more (length olds) asks.verdicts within rest 0 olds news asks.each) ∙ one))));
  mode_is = mode_now;
  limits_are = limits_now;
  no_base = base_now;
  sound = stands;
}
  where
    mode_now : new.mode ≡ mode
    mode_now = asks.follows.mode ∙ mode_is

    limits_now : new.limits ≡ limits
    limits_now = asks.follows.limits ∙ limits_are

    base_now : new.base ≡ 0
    base_now = asks.follows.base ∙ no_base

    within : IsWithin limits [] (told_of old ++ asks.more)
    within = subst (λ (l : List Told). IsWithin limits [] l) asks.behind (within_by new limits base_now limits_now stands)

    closed : open_of new ≡ [] → questions mode [] (told_of new) ≡ []
    closed none = (λ i. questions (sym mode_now i) (sym (no_bodies new base_now) i) (told_of new)) ∙ none
