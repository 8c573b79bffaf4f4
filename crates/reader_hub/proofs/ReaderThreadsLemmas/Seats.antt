-- Passes that were never used, and the jobs that are made of them.
use Rattle.std.proofs.Common.{◌≡◌, ℕ, ◌+◌, ◌<◌, List, [], ◌∷◌, ◌++◌, length, get_or, take, drop, map, ap, sym, ◌∙◌, append_assoc, append-nil, arith, subst, Vec, Global, vec_len}
use Rattle.std.specs.List.{AllByRecursion}
use Rattle.std.proofs.lemmas.List.{length-map, map-append}
use Rattle.journal.specs.Journal.History.{Told}
use Rattle.turn_lock.specs.Locks.{LockId, lock}
use Rattle.turn_lock.specs.declared.pass.Pass.{Pass}
use Rattle.reader_hub.specs.ReaderHub.Hubs.{head_of}
use Rattle.reader_hub.specs.declared.reader_hub.core_head.CoreHead.{CoreHead}
use Rattle.reader_hub.specs.declared.reader_hub.hub.Hub.{Hub}
use Rattle.reader_hub.specs.ReaderThreads.Jobs.{IsFit, pass_seen, passes_seen}
use Rattle.reader_hub.specs.ReaderThreads.Seats.{AreReady, AreSeats, IsSeat}
use Rattle.reader_hub.specs.declared.reader_threads.job.Job.{Job}
use Rattle.reader_hub.specs.declared.reader_threads.reader_seats.ReaderSeats.{ReaderSeats}

module _ {C : Type 0} where
  module _ {g : _} where
    -- one more behind others
    pub seats_behind : (id : LockId) (head : CoreHead) (k : ℕ) (passes : List (Pass C Told CoreHead g)) (pass : Pass C Told CoreHead g) (n : ℕ)
        → AreSeats id head k (passes_seen passes) → n ≡ k + length passes → IsSeat id head n 0 (pass_seen pass) → AreSeats id head k (passes_seen (passes ++ pass ∷ []))
    seats_behind id head k [] pass n seats e is = (subst (λ m. IsSeat id head m 0 (pass_seen pass)) (omega (arith, e)) is, tt)
    seats_behind id head k (p ∷ passes) pass n seats e is = (seats.0, seats_behind id head (k + 1) passes pass n seats.1 (omega (arith, e)) is)

-- the passes are of the hub, and their shares are empty
pub seats_fit : {S V : Type 0} (hub : Hub) (head : CoreHead) (k : ℕ) (jobs : List (Job S V)) → AreSeats (lock hub.turn) head k (passes_seen (map (λ j. j.pass) jobs))
    → AllByRecursion (IsFit hub) jobs
seats_fit hub head k [] seats = tt
seats_fit hub head k (job ∷ jobs) seats = ((seats.0.lock_is, seats.0.own), seats_fit hub head (k + 1) jobs seats.1)

-- reader 0's pass and those of the jobs that were made of the others
pub ready_seats : {S V : Type 0} (seats : ReaderSeats S V) (jobs : List (Job S V)) (n : ℕ) → AreReady n seats → map (λ j. j.pass) jobs ≡ seats.others.items
    → IsSeat (lock seats.hub.turn) (head_of seats.given.value) 0 (length jobs) (pass_seen seats.first)
    × AreSeats (lock seats.hub.turn) (head_of seats.given.value) 1 (passes_seen (map (λ j. j.pass) jobs))
ready_seats seats jobs n ready same = (
  subst (λ k. IsSeat (lock seats.hub.turn) (head_of seats.given.value) 0 k (pass_seen seats.first)) (ap length (sym same) ∙ length-map jobs (λ j. j.pass)) ready.first,
  subst (λ l. AreSeats (lock seats.hub.turn) (head_of seats.given.value) 1 (passes_seen l)) (sym same) ready.others,
)

-- so many jobs there are
pub ready_count : {S V : Type 0} (seats : ReaderSeats S V) (jobs : Vec (Job S V) Global) → map (λ j. j.pass) jobs.items ≡ seats.others.items → vec_len jobs ≡ length seats.others.items
ready_count seats jobs same = let long = sym (length-map jobs.items (λ j. j.pass)) ∙ ap length same in let all = jobs.ok.0 in omega (arith, long, all)

-- the first element, and those that are left when it is taken out
pub taken_first : {A : Type 0} (xs : List A) (x : A) (ys : List A) → 0 < length xs → x ≡ get_or xs 0 x → ys ≡ take 0 xs ++ drop (0 + 1) xs → xs ≡ x ∷ ys
taken_first [] x ys some first rest = absurd (omega (arith, some))
taken_first (a ∷ xs) x ys some first rest = let here : x ≡ a = first in let left : ys ≡ xs = rest in cc

-- a loop over what jobs are made of, part by part: one job more, and no more
module _ {A B : Type 0} (part : A → B) (jobs : List A) (rest all : List B) (so_far : map part jobs ++ rest ≡ all) where
  pub parts_more : (job : A) (later : List B) (now : List A) → rest ≡ part job ∷ later → now ≡ jobs ++ job ∷ [] → map part now ++ later ≡ all
  parts_more job later now e pushed =
      ap (λ l. map part l ++ later) pushed
      ∙ (ap (λ l. l ++ later) (map-append part jobs (job ∷ []))
      ∙ (append_assoc (map part jobs) (part job ∷ []) later ∙ (ap (λ l. map part jobs ++ l) (sym e) ∙ so_far)))

  pub parts_all : rest ≡ [] → map part jobs ≡ all
  parts_all e = sym (append-nil (map part jobs)) ∙ (ap (λ l. map part jobs ++ l) (sym e) ∙ so_far)
