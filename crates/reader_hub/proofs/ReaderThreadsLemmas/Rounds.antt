-- The last round, reader by reader.
use Rattle.std.proofs.Common.{◌≡◌, ◌≢◌, ℕ, ◌+◌, ◌<◌, ◌≤◌, ◌⊎◌, inl, inr, Bool, true, false, List, [], ◌∷◌, ◌++◌, Option, Some, None, length, refl, sym, ◌∙◌, ap, subst, arith, append-nil, append_assoc}
use Rattle.std.specs.Prelude.{All}
use Rattle.std.proofs.lemmas.List.Elements.{All-append, All-nil, All-weaker, recursion_from_All}
use Rattle.lists.specs.KeriSpecs.Causes.{Rose}
use Rattle.journal.specs.declared.journal.mode.Mode.{Mode}
use Rattle.journal.specs.Journal.Feeds.{IsHeardFrom, is_taken_by, reader_of}
use Rattle.journal.specs.Journal.History.{Told, took, heard, taken}
use Rattle.journal.specs.Journal.Questions.{IsInStep}
use Rattle.run_status.specs.RunStatus.Readers.{Reader, VerifierShown, close_found}
use Rattle.run_status.specs.declared.run_status.close.Close.{Close}
use Rattle.run_status.specs.declared.run_status.close.Close.TheVariants.{End, Bad, ReadFault, VerifierFault, SignerFault, DiskFault, WriteFault, Malformed, LimitReached, OutOfMemory as NoMemory}
use Rattle.turn_lock.specs.Histories.{share_of}
use Rattle.turn_lock.proofs.Histories.{share_of-all, share_of-append, share_of-none}
use Rattle.validator_core.specs.ValidatorCore.View.{CoreView, open_of, told_of}
use Rattle.validator_core.proofs.ValidatorCoreLemmas.OpenQuestions.{follows_itself, follows_on}
use Rattle.reader_hub.specs.SharedReader.Asks.{AsksFor, IsVerdict, Says, verdict_count}
use Rattle.reader_hub.proofs.SharedReaderLemmas.Inquiries.{at_most, none_asked}
use Rattle.reader_hub.proofs.SharedReaderLemmas.Verdicts.{verdict_count-append}
use Rattle.reader_hub.specs.ReaderThreads.Asked.{EachGoesOn}
use Rattle.reader_hub.specs.ReaderThreads.LastRound.{AllGiveUp, AsksEach, AsksOne, AsksRest, CountsFault, FailsNow, GivesUp, Hears, IsAsked, IsAskedIfThere, IsHeardOf, OneFails, joined, unheard_by}
use Rattle.reader_hub.specs.declared.reader_threads.last_round.LastRound.{LastRound}
use Rattle.reader_hub.specs.declared.reader_threads.last_round.LastRound.TheVariants.{NoneFailed, VerifierFailed, OutOfMemory}
use Rattle.reader_hub.proofs.ReaderThreadsLemmas.Only.{still_each, there_later}

-- what became of two parts of the round, by that of both
both_answered : (here later : LastRound) → joined here later ≡ NoneFailed → (here ≡ NoneFailed) × (later ≡ NoneFailed)
both_answered NoneFailed later e = (refl, e)
both_answered VerifierFailed NoneFailed e = cc
both_answered VerifierFailed VerifierFailed e = cc
both_answered VerifierFailed OutOfMemory e = cc
both_answered OutOfMemory later e = cc

one_failed : (here later : LastRound) → joined here later ≡ VerifierFailed → (here ≡ VerifierFailed) ⊎ (later ≡ VerifierFailed)
one_failed NoneFailed later e = inr e
one_failed VerifierFailed later e = inl refl
one_failed OutOfMemory later e = cc

neither_out : (here later : LastRound) → joined here later ≢ OutOfMemory → (here ≢ OutOfMemory) × (later ≢ OutOfMemory)
neither_out NoneFailed later some = ((λ e. cc), some)
neither_out VerifierFailed NoneFailed some = ((λ e. cc), (λ e. cc))
neither_out VerifierFailed VerifierFailed some = ((λ e. cc), (λ e. cc))
neither_out VerifierFailed OutOfMemory some = absurd (some refl)
neither_out OutOfMemory later some = absurd (some refl)

pub one_unheard : (rest : LastRound) → unheard_by rest ≤ 1
one_unheard NoneFailed = omega arith
one_unheard VerifierFailed = omega arith
one_unheard OutOfMemory = omega arith

few_unheard : (here later : LastRound) → (unheard_by here ≤ unheard_by (joined here later)) × (unheard_by later ≤ unheard_by (joined here later))
few_unheard NoneFailed later = (omega arith, omega arith)
few_unheard VerifierFailed NoneFailed = (omega arith, omega arith)
few_unheard VerifierFailed VerifierFailed = (omega arith, omega arith)
few_unheard VerifierFailed OutOfMemory = (omega arith, omega arith)
few_unheard OutOfMemory later = (omega arith, one_unheard later)

-- what some readers' verdicts are to a reader of another number
other_reader : (n count k : ℕ) → (k < n) ⊎ (n + count ≤ k) → (t : Told) → IsHeardOf n count t → reader_of t ≢ k
other_reader n count k apart (took reader b claims) h = absurd h
other_reader n count k (inl before) (heard reader b key sig verdict) h = λ e. (let low = h.0 in omega (arith, before, low, e))
other_reader n count k (inr behind) (heard reader b key sig verdict) h = λ e. (let high = h.1 in omega (arith, behind, high, e))

heard_else : (k : ℕ) (says : Says) (t : Told) → reader_of t ≢ k → IsHeardFrom k says t
heard_else k says (took reader b claims) other = tt
heard_else k says (heard reader b key sig verdict) other = λ same. absurd (other same)

module _ (n count k : ℕ) (apart : (k < n) ⊎ (n + count ≤ k)) (more : List Told) (verdicts : All (IsHeardOf n count) more) where
  others_heard : (says : Says) → All (IsHeardFrom k says) more
  others_heard says = All-weaker (IsHeardOf n count) (IsHeardFrom k says) (λ t h. heard_else k says t (other_reader n count k apart t h)) more verdicts

  none_shared : share_of reader_of k more ≡ []
  none_shared = share_of-none reader_of k more (recursion_from_All (λ t. reader_of t ≢ k) more (All-weaker (IsHeardOf n count) (λ t. reader_of t ≢ k) (other_reader n count k apart) more verdicts))

more_readers : (n c m d : ℕ) → m ≤ n → n + c ≤ m + d → (t : Told) → IsHeardOf n c t → IsHeardOf m d t
more_readers n c m d low high (took reader b claims) h = h
more_readers n c m d low high (heard reader b key sig verdict) h = let first = h.0 in let last = h.1 in (omega (arith, low, first), omega (arith, high, last))

-- `all` has more entries than `more`, but none of the reader of this number
record HasOthers (k : ℕ) (more all : List Told) : Type 0 where
  share : share_of reader_of k all ≡ share_of reader_of k more
  said : (says : Says) → All (IsHeardFrom k says) more → All (IsHeardFrom k says) all
  count : verdict_count more ≤ verdict_count all

module _ (n count k : ℕ) (apart : (k < n) ⊎ (n + count ≤ k)) (others more : List Told) (verdicts : All (IsHeardOf n count) others) where
  others_before : HasOthers k more (others ++ more)
  others_before = record {
    share = share_of-append reader_of k others more ∙ ap (λ l. l ++ share_of reader_of k more) (none_shared n count k apart others verdicts);
    said = λ says each. All-append (IsHeardFrom k says) others more (others_heard n count k apart others verdicts says) each;
    count = (let parts = verdict_count-append others more in omega (arith, parts));
  }

  others_behind : HasOthers k more (more ++ others)
  others_behind = record {
    share = share_of-append reader_of k more others ∙ (ap (λ l. share_of reader_of k more ++ l) (none_shared n count k apart others verdicts) ∙ append-nil _);
    said = λ says each. All-append (IsHeardFrom k says) more others each (others_heard n count k apart others verdicts says);
    count = (let parts = verdict_count-append more others in omega (arith, parts));
  }

-- what became of a part of the round, and of all of it
module _ (more all : List Told) (here rest : LastRound) (unheard : unheard_by here ≤ unheard_by rest) (answered : rest ≡ NoneFailed → here ≡ NoneFailed) where
  asked_in : (k : ℕ) (had_failed : Bool) (v w : VerifierShown) → HasOthers k more all → IsAsked more here k had_failed v w → IsAsked all rest k had_failed v w
  asked_in k had_failed v w o a = record {
    same_says = a.same_says;
    said = o.said v.says a.said;
    inquired = subst (λ (l : List Told). AsksFor v.inquiries w.inquiries l (verdict_count all + unheard_by rest)) (sym o.share)
        (let count = o.count in at_most v.inquiries w.inquiries (share_of reader_of k more) (verdict_count more + unheard_by here) (verdict_count all + unheard_by rest) (omega (arith, count, unheard)) a.inquired);
    none_failed = λ e. a.none_failed (answered e);
    unasked = a.unasked;
  }

  asked_if : (k : ℕ) (had_failed : Bool) (o p : Option VerifierShown) → HasOthers k more all → IsAskedIfThere more here k had_failed o p → IsAskedIfThere all rest k had_failed o p
  asked_if k had_failed None None others a = tt
  asked_if k had_failed None (Some w) others a = absurd a
  asked_if k had_failed (Some v) None others a = absurd a
  asked_if k had_failed (Some v) (Some w) others a = asked_in k had_failed v w others a

  one_in : (k : ℕ) (old new : Reader) → HasOthers k more all → AsksOne more here k old new → AsksOne all rest k old new
  one_in k old new others a = record {
    source = a.source;
    refused = a.refused;
    seen = a.seen;
    close = a.close;
    asked = asked_if k (close_found old.close).verifier_failed old.verifier new.verifier others a.asked;
  }

  each_in : (k : ℕ) (olds news : List Reader) → ((j : ℕ) → k ≤ j → HasOthers j more all) → AsksEach more here k olds news → AsksEach all rest k olds news
  each_in k [] [] others a = tt
  each_in k [] (new ∷ news) others a = absurd a
  each_in k (old ∷ olds) [] others a = absurd a
  each_in k (old ∷ olds) (new ∷ news) others a = (one_in k old new (others k (omega arith)) a.0, each_in (k + 1) olds news (λ j le. others j (omega (arith, le))) a.1)

-- one reader, and the others behind it
pub rest_on : (n : ℕ) (old new : Reader) (olds news : List Reader) (first middle last : CoreView) (here later : LastRound) → AsksRest n (old ∷ []) (new ∷ []) first middle here
    → AsksRest (n + 1) olds news middle last later → AsksRest n (old ∷ olds) (new ∷ news) first last (joined here later)
rest_on n old new olds news first middle last here later a b = record {
  more = a.more ++ b.more;
  behind = b.behind ∙ (ap (λ l. l ++ b.more) a.behind ∙ append_assoc (told_of first) a.more b.more);
  verdicts = All-append (IsHeardOf n (length (old ∷ olds))) a.more b.more
      (All-weaker (IsHeardOf n 1) (IsHeardOf n (length (old ∷ olds))) (more_readers n 1 n (length (old ∷ olds)) (omega arith) (omega arith)) a.more a.verdicts)
      (All-weaker (IsHeardOf (n + 1) (length olds)) (IsHeardOf n (length (old ∷ olds))) (more_readers (n + 1) (length olds) n (length (old ∷ olds)) (omega arith) (omega arith)) b.more b.verdicts);
  each = (
    one_in a.more (a.more ++ b.more) here (joined here later) (few_unheard here later).0 (λ e. (both_answered here later e).0) n old new (others_behind (n + 1) (length olds) n (inl (omega arith)) b.more a.more b.verdicts) a.each.0,
    each_in b.more (a.more ++ b.more) later (joined here later) (few_unheard here later).1 (λ e. (both_answered here later e).1) (n + 1) olds news (λ j le. others_before n 1 j (inr le) a.more b.more a.verdicts) b.each,
  );
  follows = follows_on a.follows b.follows;
  quiet = λ none. b.quiet (subst (λ (c : CoreView). open_of c ≡ []) (sym (a.quiet none)) none) ∙ a.quiet none;
  asked = λ some. (let both = neither_out here later some in ends (a.asked both.0) (b.asked both.1));
  failed = λ e. fails (one_failed here later e);
  only = λ base. (
    there_later first.mode (told_of middle) (told_of last) (b.more, sym b.behind) old.verifier new.verifier (a.only base).0,
    subst (λ (m : Mode). EachGoesOn m (told_of last) olds news) a.follows.mode (b.only (a.follows.base ∙ base)),
  );
  in_step = λ base steps.
      subst (λ (m : Mode). IsInStep m (told_of last)) a.follows.mode
      (b.in_step (a.follows.base ∙ base) (subst (λ (m : Mode). IsInStep m (told_of middle)) (sym a.follows.mode) (a.in_step base steps)));
}
  where
    ends : (open_of middle ≡ []) ⊎ AllGiveUp (old ∷ []) (new ∷ []) → (open_of last ≡ []) ⊎ AllGiveUp olds news → (open_of last ≡ []) ⊎ AllGiveUp (old ∷ olds) (new ∷ news)
    ends first_ends (inl none) = inl none
    ends (inl none) (inr rest) = inl (subst (λ (c : CoreView). open_of c ≡ []) (sym (b.quiet none)) none)
    ends (inr up) (inr rest) = inr (up.0, rest)

    fails : (here ≡ VerifierFailed) ⊎ (later ≡ VerifierFailed) → FailsNow old.verifier new.verifier ⊎ OneFails olds news
    fails (inl e) = elim (a.failed e) [ inl now ↦ inl now | inr none ↦ absurd none ]
    fails (inr e) = inr (b.failed e)

-- a reader that wasn't asked
unasked_if : (rest : LastRound) (k : ℕ) (had_failed : Bool) (o : Option VerifierShown) → IsAskedIfThere [] rest k had_failed o o
unasked_if rest k had_failed None = tt
unasked_if rest k had_failed (Some v) = record {
  same_says = refl;
  said = All-nil _;
  inquired = at_most v.inquiries v.inquiries [] 0 (verdict_count [] + unheard_by rest) (omega arith) (none_asked v.inquiries [] refl);
  none_failed = λ e. refl;
  unasked = λ e. refl;
}

unasked_each : (rest : LastRound) (k : ℕ) (readers : List Reader) → AsksEach [] rest k readers readers
unasked_each rest k [] = tt
unasked_each rest k (r ∷ readers) =
    (record { source = refl; refused = refl; seen = refl; close = refl; asked = unasked_if rest k (close_found r.close).verifier_failed r.verifier }, unasked_each rest (k + 1) readers)

-- nobody was asked
still : (n : ℕ) (readers : List Reader) (core : CoreView) (rest : LastRound) → (rest ≢ OutOfMemory → (open_of core ≡ []) ⊎ AllGiveUp readers readers) → rest ≢ VerifierFailed → AsksRest n readers readers core core rest
still n readers core rest asked other = record {
  more = [];
  behind = sym (append-nil (told_of core));
  verdicts = All-nil _;
  each = unasked_each rest n readers;
  follows = follows_itself core;
  quiet = λ none. refl;
  asked = asked;
  failed = λ e. absurd (other e);
  only = λ base. still_each core.mode (told_of core) readers;
  in_step = λ base steps. steps;
}

pub rest_none : (n : ℕ) (core : CoreView) → AsksRest n [] [] core core NoneFailed
rest_none n core = still n [] core NoneFailed (λ some. inr tt) (λ e. cc)

-- there is none now: the others aren't asked
pub rest_out : (n : ℕ) (old new : Reader) (others : List Reader) (first middle : CoreView) (here : LastRound) → here ≡ OutOfMemory → AsksRest n (old ∷ []) (new ∷ []) first middle here
    → AsksRest n (old ∷ others) (new ∷ others) first middle here
rest_out n old new others first middle here out a =
    subst (λ (r : LastRound). AsksRest n (old ∷ others) (new ∷ others) first middle r) (sym out)
    (rest_on n old new others others first middle middle OutOfMemory OutOfMemory (subst (λ (r : LastRound). AsksRest n (old ∷ []) (new ∷ []) first middle r) out a)
    (still (n + 1) others middle OutOfMemory (λ some. absurd (some refl)) (λ e. cc)))

gives_up : (had_failed : Bool) (o : Option VerifierShown) → (had_failed ≡ true) ⊎ (o ≡ None) → GivesUp had_failed o o
gives_up had_failed None why = tt
gives_up had_failed (Some v) (inl failed) = inl failed
gives_up had_failed (Some v) (inr none) = cc

-- its verifier isn't there, or failed before
pub rest_unasked : (n : ℕ) (r : Reader) (core : CoreView) → ((close_found r.close).verifier_failed ≡ true) ⊎ (r.verifier ≡ None) → AsksRest n (r ∷ []) (r ∷ []) core core NoneFailed
rest_unasked n r core why = still n (r ∷ []) core NoneFailed (λ some. inr (gives_up (close_found r.close).verifier_failed r.verifier why, tt)) (λ e. cc)

named : (n : ℕ) (says : Says) (t : Told) → IsVerdict n says t → reader_of t ≡ n
named n says (took reader b claims) v = absurd v
named n says (heard reader b key sig verdict) v = v.0

said_by_it : (n : ℕ) (says : Says) (t : Told) → IsVerdict n says t → IsHeardFrom n says t
said_by_it n says (took reader b claims) v = absurd v
said_by_it n says (heard reader b key sig verdict) v = λ same. v.1

one_reader : (n : ℕ) (says : Says) (t : Told) → IsVerdict n says t → IsHeardOf n 1 t
one_reader n says (took reader b claims) v = v
one_reader n says (heard reader b key sig verdict) v = let same = v.0 in (omega (arith, same), omega (arith, same))

-- its verifier was asked
module _ (n : ℕ) (old new : Reader) (v w : VerifierShown) (first last : CoreView) (rest : LastRound) (old_is : old.verifier ≡ Some v) (new_is : new ≡ record old { verifier = Some w })
    (unfailed : (close_found old.close).verifier_failed ≡ false) (same_says : w.says ≡ v.says) (faults : CountsFault rest v.faults w.faults)
    (h : Hears n v.says v.inquiries w.inquiries first last (unheard_by rest)) where
  asked_it : IsAsked h.verdicts rest n (close_found old.close).verifier_failed v w
  asked_it = record {
    same_says = same_says;
    said = All-weaker (IsVerdict n v.says) (IsHeardFrom n v.says) (said_by_it n v.says) h.verdicts h.each;
    inquired = subst (λ (l : List Told). AsksFor v.inquiries w.inquiries l (verdict_count h.verdicts + unheard_by rest))
        (sym (share_of-all reader_of n h.verdicts (recursion_from_All (λ t. reader_of t ≡ n) h.verdicts (All-weaker (IsVerdict n v.says) (λ t. reader_of t ≡ n) (named n v.says) h.verdicts h.each)))) h.inquired;
    none_failed = λ e. subst (λ (r : LastRound). CountsFault r v.faults w.faults) e faults;
    unasked = λ failed. (let both : true ≡ false = sym failed ∙ unfailed in cc);
  }

  new_verifier : new.verifier ≡ Some w
  new_verifier = ap (λ r. r.verifier) new_is

  pub rest_asked : (open_of first ≡ [] → last ≡ first) → (rest ≡ NoneFailed → open_of last ≡ []) → AsksRest n (old ∷ []) (new ∷ []) first last rest
  rest_asked quiet none_open = record {
    more = h.verdicts;
    behind = h.behind;
    verdicts = All-weaker (IsVerdict n v.says) (IsHeardOf n 1) (one_reader n v.says) h.verdicts h.each;
    each = (
      record {
        source = ap (λ r. r.source) new_is;
        refused = ap (λ r. r.refused) new_is;
        seen = ap (λ r. r.seen) new_is;
        close = ap (λ r. r.close) new_is;
        asked = rw (old_is, new_verifier) asked_it;
      },
      tt,
    );
    follows = h.follows;
    quiet = quiet;
    asked = by_rest rest faults none_open;
    failed = λ e. inl (rw (old_is, new_verifier) (subst (λ (r : LastRound). CountsFault r v.faults w.faults) e faults));
    only = λ base. (rw (old_is, new_verifier) (h.only base), tt);
    in_step = h.in_step;
  }
    where
      by_rest : (r : LastRound) → CountsFault r v.faults w.faults → (r ≡ NoneFailed → open_of last ≡ []) → r ≢ OutOfMemory → (open_of last ≡ []) ⊎ AllGiveUp (old ∷ []) (new ∷ [])
      by_rest NoneFailed same none some = inl (none refl)
      by_rest VerifierFailed rose none some = inr (rw (old_is, new_verifier) (inr rose), tt)
      by_rest OutOfMemory same none some = absurd (some refl)

-- where nothing is said, anything is heard
pub unsaid : (k : ℕ) (t : Told) → IsHeardFrom k (λ key body sig. None) t
unsaid k (took reader b claims) = tt
unsaid k (heard reader b key sig verdict) = λ same. tt

-- a verdict takes no message, and brings no body
pub none_took : (k n count : ℕ) (t : Told) → IsHeardOf n count t → is_taken_by k t ≡ false
none_took k n count (took reader b claims) h = absurd h
none_took k n count (heard reader b key sig verdict) h = refl

pub no_body : (n count : ℕ) (t : Told) → IsHeardOf n count t → taken t ≡ []
no_body n count (took reader b claims) h = absurd h
no_body n count (heard reader b key sig verdict) h = refl

-- a reader whose verifier is as it was
pub same_reader : (old new : Reader) → new.source ≡ old.source → new.verifier ≡ old.verifier → new.refused ≡ old.refused → new.seen ≡ old.seen → new.close ≡ old.close → new ≡ old
same_reader old new source verifier refused seen close = λ i. record { source = source i; verifier = verifier i; refused = refused i; seen = seen i; close = close i }

-- whose verifier had failed
pub failed_then : (close : Close) → (close_found close).verifier_failed ≡ true → close ≡ VerifierFault
failed_then VerifierFault e = refl
failed_then End e = cc
failed_then (Bad bad) e = cc
failed_then ReadFault e = cc
failed_then SignerFault e = cc
failed_then DiskFault e = cc
failed_then WriteFault e = cc
failed_then (Malformed place) e = cc
failed_then LimitReached e = cc
failed_then NoMemory e = cc

pub not_then : (close : Close) → (close_found close).verifier_failed ≡ false → close ≢ VerifierFault
not_then close e same = let both : true ≡ false = sym (ap (λ c. (close_found c).verifier_failed) same) ∙ e in cc

-- the two cases of a verifier that is there
pub gives_up_at : (had_failed : Bool) (o p : Option VerifierShown) (mid left : VerifierShown) → o ≡ Some mid → p ≡ Some left → GivesUp had_failed o p → (had_failed ≡ true) ⊎ Rose mid.faults left.faults
gives_up_at had_failed o p mid left there here up = rw (there, here) at up

pub fails_at : (o p : Option VerifierShown) (mid left : VerifierShown) → o ≡ Some mid → p ≡ Some left → FailsNow o p → Rose mid.faults left.faults
fails_at o p mid left there here now = rw (there, here) at now
