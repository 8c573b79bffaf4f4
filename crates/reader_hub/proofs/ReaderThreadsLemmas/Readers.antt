-- All readers, once they have ended: their passes, their turns, and what they fed.
use Rattle.std.proofs.Common.{◌≡◌, ℕ, ◌+◌, ◌*◌, ◌≤◌, ◌<◌, ◌||◌, ◌==◌, Bool, true, false, List, [], ◌∷◌, ◌++◌, Option, Some, map, length, refl, sym, ap, ◌∙◌, subst, arith, inl, inr, eq-eqb, length-append, suc}
use Rattle.std.specs.List.{AllByRecursion}
use Rattle.std.specs.Prelude.{filter, flat_map}
use Rattle.std.proofs.Math.Nat.{suc-mul}
use Rattle.std.proofs.lemmas.List.Elements.{All-weaker}
use mathlib.Core.Logic.{dite}
use mathlib.Core.List.{IsPrefix}
use native.Mathlib.Decide.{ℕ_discrete}
use Rattle.cesr_codes.specs.declared.key.Key.{Key}
use Rattle.cesr_codes.specs.declared.sig.Sig.{Sig}
use Rattle.keri_outside.specs.declared.inquiry.Inquiry.{Inquiry}
use Rattle.keri_outside.specs.declared.limits.Limits.{Limits}
use Rattle.journal.specs.Journal.Feeds.{is_taken_by, reader_of, FeedEach}
use Rattle.journal.specs.Journal.History.{Told, taken}
use Rattle.journal.specs.Journal.Replies.{IsWithin}
use Rattle.run_status.specs.RunStatus.Readers.{Reader, reader_seen}
use Rattle.turn_lock.specs.Histories.{has_share, HasShare, share_of}
use Rattle.turn_lock.specs.Locks.{LockId, known, lock_of}
use Rattle.turn_lock.proofs.Histories.{AllByRecursion-imp}
use Rattle.validator_core.specs.ValidatorCore.View.{CoreView, told_of}
use Rattle.reader_hub.specs.ReaderHub.Closing.{AreAll, all_own, most_splits, all_turns, ClosesAll}
use Rattle.reader_hub.specs.ReaderHub.Hubs.{HubPass, head_of}
use Rattle.reader_hub.specs.declared.reader_hub.core_head.CoreHead.{CoreHead}
use Rattle.reader_hub.specs.declared.reader_hub.extent.Extent.{Extent}
use Rattle.reader_hub.specs.SharedReader.Asks.{verdict_count}
use Rattle.reader_hub.proofs.SharedReaderLemmas.Verdicts.{verdict_count_grows}
use Rattle.reader_hub.specs.ReaderThreads.Given.{Given, given_by}
use Rattle.reader_hub.specs.ReaderThreads.Jobs.{HasRun, pass_seen, passes_seen}
use Rattle.reader_hub.specs.ReaderThreads.Runs.{PassSeen, RunsBy}
use Rattle.reader_hub.specs.ReaderThreads.Seats.{AreSeats, IsSeat}
use Rattle.reader_hub.specs.ReaderThreads.Starts.{EachPair}
use Rattle.reader_hub.specs.declared.reader_threads.job.Job.{Job}
use Rattle.reader_hub.specs.declared.reader_threads.job.JobEnd.{JobEnd}
use Rattle.reader_hub.specs.declared.reader_threads.last_round.LastRound.TheVariants.{NoneFailed}
use Rattle.reader_hub.specs.declared.reader_threads.providers.Providers.{Providers}
use Rattle.reader_hub.specs.ReaderThreads.Fed.{most_turns, AllRead, ReadEach, ends_of}
use Rattle.reader_hub.proofs.ReaderThreadsLemmas.Kept.{kept}
use Rattle.reader_hub.proofs.ReaderThreadsLemmas.Counts.{no_more_taken, taken_by_each}
use Rattle.reader_hub.proofs.ReaderThreadsLemmas.Shares.{filter-share}
use Rattle.reader_hub.proofs.ReaderThreadsLemmas.OneFed.{ReadIn, reads_in}

or_right_true : (a b : Bool) → b ≡ true → (a || b) ≡ true
or_right_true true b h = refl
or_right_true false b h = h

-- A reader that was given this had a pass of this number, with an empty share and no turns, and has run.
pub record OneRun (limits : Limits) (limit : ℕ) (id : LockId) (head : CoreHead) (k splits : ℕ) (given : Given) (reader : Reader) (new : PassSeen) : Type 0 where
  pub old : PassSeen
  pub seat : IsSeat id head k splits old
  pub extent : Extent
  pub run : RunsBy limits limit extent given.source given.verifier old reader new

-- what it leaves of the pass
pub record OneLeft (id : LockId) (head : CoreHead) (k splits : ℕ) (reader : Reader) (new : PassSeen) : Type 0 where
  pub lock_is : new.lock ≡ id
  pub head_is : new.pass.head ≡ Some head
  pub splits_are : new.pass.splits ≡ splits
  pub share : List Told
  pub own : new.pass.own ≡ (k, share) ∷ []
  pub number : new.pass.number ≡ k
  pub turns : new.pass.turns ≤ 2 * (length (filter (is_taken_by k) share) + length reader.refused + verdict_count new.pass.seen + 2)

pub one_left : (limits : Limits) (limit : ℕ) (id : LockId) (head : CoreHead) (k splits : ℕ) (given : Given) (reader : Reader) (new : PassSeen) → OneRun limits limit id head k splits given reader new
    → OneLeft id head k splits reader new
one_left limits limit id head k splits given reader new o =
    let seat = o.seat in
    let left = kept limits limit o.extent given.source given.verifier o.old reader new seat.own o.run in
    let number : new.pass.number ≡ k = left.stays.number ∙ seat.number_is in
    record {
      lock_is = left.lock ∙ seat.lock_is;
      head_is = left.stays.head ∙ seat.head_is;
      splits_are = left.stays.splits ∙ seat.splits_are;
      share = left.share;
      own = left.own ∙ ap (λ m. (m, left.share) ∷ []) number;
      number = number;
      turns = subst (λ m. new.pass.turns ≤ 2 * (length (filter (is_taken_by m) left.share) + length reader.refused + verdict_count new.pass.seen + 2)) seat.number_is
          (let few = left.turns in let none = seat.no_turns in omega (arith, few, none));
    }

-- how many messages these readers refused
abbrev refused_by : List Reader → ℕ
refused_by readers = length (flat_map (λ r. r.refused) readers)

refused_by-cons : (r : Reader) (readers : List Reader) → refused_by (r ∷ readers) ≡ length r.refused + refused_by readers
refused_by-cons r readers = length-append r.refused (flat_map (λ r. r.refused) readers)

-- so many for each reader
abbrev for_each : ℕ → List Reader → ℕ
for_each n [] = 0
for_each n (r ∷ readers) = n + for_each n readers

for_each-length : (n : ℕ) (readers : List Reader) → for_each n readers ≡ length readers * n
for_each-length n [] = omega arith
for_each-length n (r ∷ readers) = let ih = for_each-length n readers in let more = suc-mul (length readers) n in omega (arith, ih, more)

-- the shares that passes list under their numbers are those of what is told
abbrev pub AreShares : List Told → List (ℕ × List Told) → Type 0
AreShares told own = (k : ℕ) (es : List Told) → HasShare own k es → share_of reader_of k told ≡ es

-- the share of one reader
pub share_is : (told : List Told) (own rest : List (ℕ × List Told)) (k : ℕ) (es : List Told) → AreShares told (own ++ rest) → own ≡ (k, es) ∷ [] → share_of reader_of k told ≡ es
share_is told own rest k es shares is = shares k es (subst (λ o. HasShare (o ++ rest) k es) (sym is) (inl refl))

pub shares_of_rest : (told : List Told) (own rest : List (ℕ × List Told)) (k : ℕ) (es : List Told) → AreShares told (own ++ rest) → own ≡ (k, es) ∷ [] → AreShares told rest
shares_of_rest told own rest k es shares is m fs l = shares m fs (subst (λ o. HasShare (o ++ rest) m fs) (sym is) (inr l))

-- these readers, the first of them having this number, read and fed so
record ReadAll (limits : Limits) (told : List Told) (most k : ℕ) (given : List Given) (readers : List Reader) : Type 0 where
  read : List (List ℕ)
  feeds : FeedEach limits told k (ends_of read readers)
  each : ReadEach limits told most NoneFailed k read given readers feeds
  count : length (ends_of read readers) ≡ length readers

read_more : (limits : Limits) (told : List Told) (most k : ℕ) (g : Given) (given : List Given) (r : Reader) (readers : List Reader) → ReadIn limits told most k g.source g.verifier r
    → ReadAll limits told most (k + 1) given readers → ReadAll limits told most k (g ∷ given) (r ∷ readers)
read_more limits told most k g given r readers one all = record {
  read = one.bytes ∷ all.read;
  feeds = (one.feeds, all.feeds);
  each = (one.reads, all.each);
  count = ap suc all.count;
}

module _ {S V : Type 0} (left : S → Option (List ℕ)) (faults : S → ℕ) (says : V → Key → List ℕ → Sig → Option Bool) (inquiries : V → Option (List Inquiry)) (verifier_faults : V → ℕ)
    (limits : Limits) (limit : ℕ) (id : LockId) (head : CoreHead) where
  abbrev pub passes : List (JobEnd S V) → List HubPass
  passes ends = map (λ p. known p) (map (λ e. e.pass) ends)

  abbrev pub given : Providers S V → Given
  given = given_by left faults says inquiries verifier_faults

  abbrev pub reader : JobEnd S V → Reader
  reader e = reader_seen left faults says inquiries verifier_faults e.reader

  abbrev pub readers : List (JobEnd S V) → List Reader
  readers ends = map (λ r. reader_seen left faults says inquiries verifier_faults r) (map (λ e. e.reader) ends)

  abbrev pub Ran : ℕ → ℕ → Providers S V → JobEnd S V → Type 0
  Ran k splits s e = OneRun limits limit id head k splits (given s) (reader e) (pass_seen e.pass)

  -- each of these readers has run, the first of them having this number, with a pass that was never split
  abbrev pub RanEach : ℕ → List (Providers S V) → List (JobEnd S V) → Type 0
  RanEach k [] [] = Unit {0}
  RanEach k [] (e ∷ ends) = ⊥
  RanEach k (s ∷ others) [] = ⊥
  RanEach k (s ∷ others) (e ∷ ends) = Ran k 0 s e × RanEach (k + 1) others ends

  pub ran_each : (k : ℕ) (jobs : List (Job S V)) (ends : List (JobEnd S V)) → AreSeats id head k (passes_seen (map (λ j. j.pass) jobs))
      → EachPair (HasRun left faults says inquiries verifier_faults limits limit) jobs ends → RanEach k (map (λ j. j.providers) jobs) ends
  ran_each k [] [] seats t = tt
  ran_each k [] (e ∷ ends) seats t = absurd t
  ran_each k (j ∷ jobs) [] seats t = absurd t
  ran_each k (j ∷ jobs) (e ∷ ends) seats t = (record { old = pass_seen j.pass; seat = seats.0; extent = j.extent; run = t.0 }, ran_each (k + 1) jobs ends seats.1 t.1)

  -- what the reader leaves
  pub leaves : (k splits : ℕ) (s : Providers S V) (e : JobEnd S V) → Ran k splits s e → OneLeft id head k splits (reader e) (pass_seen e.pass)
  leaves k splits s e r = one_left limits limit id head k splits (given s) (reader e) (pass_seen e.pass) r

  pub same_count : (k : ℕ) (others : List (Providers S V)) (ends : List (JobEnd S V)) → RanEach k others ends → length (readers ends) ≡ length others
  same_count k [] [] r = refl
  same_count k [] (e ∷ ends) r = absurd r
  same_count k (s ∷ others) [] r = absurd r
  same_count k (s ∷ others) (e ∷ ends) r = let ih = same_count (k + 1) others ends r.1 in omega (arith, ih)

  pub passes_fit : (k : ℕ) (others : List (Providers S V)) (ends : List (JobEnd S V)) → RanEach k others ends → AllByRecursion (λ p. lock_of p ≡ id) (map (λ e. e.pass) ends)
  passes_fit k [] [] r = tt
  passes_fit k [] (e ∷ ends) r = absurd r
  passes_fit k (s ∷ others) [] r = absurd r
  passes_fit k (s ∷ others) (e ∷ ends) r = ((leaves k 0 s e r.0).lock_is, passes_fit (k + 1) others ends r.1)

  pub no_splits : (k : ℕ) (others : List (Providers S V)) (ends : List (JobEnd S V)) → RanEach k others ends → most_splits (passes ends) ≡ 0
  no_splits k [] [] r = refl
  no_splits k [] (e ∷ ends) r = absurd r
  no_splits k (s ∷ others) [] r = absurd r
  no_splits k (s ∷ others) (e ∷ ends) r = let none = (leaves k 0 s e r.0).splits_are in let rest = no_splits (k + 1) others ends r.1 in omega (arith, none, rest)

  has_each : (m : ℕ) (others : List (Providers S V)) (ends : List (JobEnd S V)) → RanEach m others ends → (k : ℕ) → m ≤ k → k < m + length others → has_share (all_own (passes ends)) k ≡ true
  has_each m [] ends r k low high = absurd (omega arith)
  has_each m (s ∷ others) [] r k low high = absurd r
  has_each m (s ∷ others) (e ∷ ends) r k low high =
      let one = leaves m 0 s e r.0 in
      subst (λ l. has_share (l ++ all_own (passes ends)) k ≡ true) (sym one.own)
      (dite (ℕ_discrete m k)
      (λ same. ap (λ b. b || has_share (all_own (passes ends)) k) (eq-eqb m k same))
      (λ other. or_right_true (m == k) (has_share (all_own (passes ends)) k) (has_each (m + 1) others ends r.1 k (omega (arith, other, low)) (omega (arith, high)))))

  -- reader 0's pass and the others are all
  pub are_all : (n : ℕ) (s : Providers S V) (e : JobEnd S V) (others : List (Providers S V)) (ends : List (JobEnd S V)) → n ≡ length others → Ran 0 n s e → RanEach 1 others ends
      → AreAll (known e.pass ∷ passes ends)
  are_all n s e others ends count r each k le =
      let one = leaves 0 n s e r in
      let none = no_splits 1 others ends each in
      let most = one.splits_are in
      subst (λ l. has_share (l ++ all_own (passes ends)) k ≡ true) (sym one.own)
      (dite (ℕ_discrete 0 k)
      (λ same. ap (λ b. b || has_share (all_own (passes ends)) k) (eq-eqb 0 k same))
      (λ other. or_right_true (0 == k) (has_share (all_own (passes ends)) k) (has_each 1 others ends each k (omega (arith, other)) (omega (arith, le, none, most, count)))))

  module _ (told : List Told) where
    one_few : (k splits : ℕ) (r : Reader) (e : JobEnd S V) (l : OneLeft id head k splits r (pass_seen e.pass)) → share_of reader_of k told ≡ l.share → IsPrefix (known e.pass).seen told
        → (known e.pass).turns ≤ 2 * (length (filter (is_taken_by k) told) + length r.refused + (verdict_count told + 2))
    one_few k splits r e l share begins =
        let turns = l.turns in
        let more = verdict_count_grows (known e.pass).seen told begins in
        let count : length (filter (is_taken_by k) told) ≡ length (filter (is_taken_by k) l.share) = ap length (filter-share k told) ∙ ap (λ es. length (filter (is_taken_by k) es)) share in
        omega (arith, turns, more, count)

    each_few : (k : ℕ) (others : List (Providers S V)) (ends : List (JobEnd S V)) → RanEach k others ends
        → AreShares told (all_own (passes ends))
        → AllByRecursion (λ q. IsPrefix q.seen told) (passes ends)
        → all_turns (passes ends)
        ≤ 2 * (taken_by_each k ends told + refused_by (readers ends)
        + for_each (verdict_count told + 2) (readers ends))
    each_few k [] [] r shares begins = omega arith
    each_few k [] (e ∷ ends) r shares begins = absurd r
    each_few k (s ∷ others) [] r shares begins = absurd r
    each_few k (s ∷ others) (e ∷ ends) r shares begins =
        let l = leaves k 0 s e r.0 in
        let rest = all_own (passes ends) in
        let one = one_few k 0 (reader e) e l (share_is told (known e.pass).own rest k l.share shares l.own) begins.0 in
        let ih = each_few (k + 1) others ends r.1 (shares_of_rest told (known e.pass).own rest k l.share shares l.own) begins.1 in
        let more = refused_by-cons (reader e) (readers ends) in
        omega (arith, one, ih, more)

    pub turns_are_few : (n : ℕ) (s : Providers S V) (e : JobEnd S V) (others : List (Providers S V)) (ends : List (JobEnd S V))
        → Ran 0 n s e
        → RanEach 1 others ends
        → AreShares told ((known e.pass).own ++ all_own (passes ends))
        → IsPrefix (known e.pass).seen told
        → AllByRecursion (λ q. IsPrefix q.seen told) (passes ends)
        → (known e.pass).turns + all_turns (passes ends)
        ≤ most_turns told (reader e ∷ readers ends)
    turns_are_few n s e others ends r each shares begins begin =
        let l = leaves 0 n s e r in
        let first = reader e in
        let rest = readers ends in
        let own = all_own (passes ends) in
        let one = one_few 0 n first e l (share_is told (known e.pass).own own 0 l.share shares l.own) begins in
        let few = each_few 1 others ends each (shares_of_rest told (known e.pass).own own 0 l.share shares l.own) begin in
        let refused = refused_by-cons first rest in
        let all = for_each-length (verdict_count told + 2) (first ∷ rest) in
        let count : length (filter (is_taken_by 0) told) + taken_by_each 1 ends told ≤ length (flat_map taken told) = no_more_taken 0 (e ∷ ends) told in
        omega (arith, one, few, refused, all, count)

  module _ (told : List Told) (within : IsWithin limits [] told) (limits_are : head.limits ≡ limits) (turns : limit ≡ limits.turns) (most : ℕ) where
    read_one_in : (k splits : ℕ) (s : Providers S V) (e : JobEnd S V) (rest : List (ℕ × List Told)) → Ran k splits s e
        → AreShares told ((known e.pass).own ++ rest) → IsPrefix (known e.pass).seen told → (known e.pass).past ≤ most
        → ReadIn limits told most k (given s).source (given s).verifier
        (reader e)
    read_one_in k splits s e rest r shares begins past =
        let l = leaves k splits s e r in
        reads_in limits told within most k head limits_are r.old (reader e) (pass_seen e.pass) r.seat.number_is r.seat.own
        (λ es own. share_is told (known e.pass).own rest k es shares (own ∙ ap (λ m. (m, es) ∷ []) l.number))
        limit r.extent (given s).source (given s).verifier
        turns r.run l.head_is begins past

    read_each : (k : ℕ) (others : List (Providers S V)) (ends : List (JobEnd S V)) → RanEach k others ends
        → AreShares told (all_own (passes ends))
        → AllByRecursion (λ q. IsPrefix q.seen told) (passes ends)
        → AllByRecursion (λ q. q.past ≤ most) (passes ends)
        → ReadAll limits told most k (map given others) (readers ends)
    read_each k [] [] r shares begins past = record { read = []; feeds = tt; each = tt; count = refl }
    read_each k [] (e ∷ ends) r shares begins past = absurd r
    read_each k (s ∷ others) [] r shares begins past = absurd r
    read_each k (s ∷ others) (e ∷ ends) r shares begins past =
        let l = leaves k 0 s e r.0 in
        let rest = all_own (passes ends) in
        read_more limits told most k (given s) (map given others)
        (reader e) (readers ends)
        (read_one_in k 0 s e rest r.0 shares begins.0 past.0)
        (read_each (k + 1) others ends r.1 (shares_of_rest told (known e.pass).own rest k l.share shares l.own) begins.1 past.1)

  -- reader 0 and the others, once their hub was closed
  module _ (core : CoreView) (within : IsWithin limits [] (told_of core)) (limits_are : head.limits ≡ limits) (turns : limit ≡ limits.turns)
      (n : ℕ) (s : Providers S V) (e : JobEnd S V) (others : List (Providers S V)) (ends : List (JobEnd S V)) (count : n ≡ length others)
      (r : Ran 0 n s e) (each : RanEach 1 others ends) (c : ClosesAll told_of head_of reader_of (known e.pass) (passes ends) core) where
    abbrev told : List Told
    told = told_of core

    abbrev first : Reader
    first = reader e

    abbrev rest : List Reader
    rest = readers ends

    abbrev most : ℕ
    most = most_turns told (first ∷ rest)

    few : (known e.pass).turns + all_turns (passes ends) ≤ most
    few = turns_are_few told n s e others ends r each c.own c.begins.0 c.begins.1

    past : AllByRecursion (λ q. q.past ≤ most) (known e.pass ∷ passes ends)
    past = AllByRecursion-imp (λ q. q.past ≤ (known e.pass).turns + all_turns (passes ends)) (λ q. q.past ≤ most)
        (λ q le. let all = few in omega (arith, le, all)) (known e.pass ∷ passes ends) c.taken

    read : ReadAll limits told most 0 (map given (s ∷ others)) (first ∷ rest)
    read =
        let l = leaves 0 n s e r in
        let own = all_own (passes ends) in
        read_more limits told most 0 (given s) (map given others) first rest
        (read_one_in told within limits_are turns most 0 n s e own r c.own c.begins.0 past.0)
        (read_each told within limits_are turns most 1 others ends each
        (shares_of_rest told (known e.pass).own own 0 l.share c.own l.own) c.begins.1 past.1)

    pub all_read : AllRead limits told (map given (s ∷ others)) (first ∷ rest) NoneFailed
    all_read =
        let all = read in
        let l = leaves 0 n s e r in
        let none = no_splits 1 others ends each in
        let splits = l.splits_are in
        let same = all.count in
        let same_readers = same_count 1 others ends each in
        record {
          read = all.read;
          fed = record {
            each = all.feeds;
            only = All-weaker (λ t. reader_of t ≤ most_splits (known e.pass ∷ passes ends))
                (λ t. reader_of t < length (ends_of all.read (first ∷ rest))) (λ t le. omega (arith, le, none, splits, same, same_readers, count)) told c.named;
          };
          each = all.each;
        }
