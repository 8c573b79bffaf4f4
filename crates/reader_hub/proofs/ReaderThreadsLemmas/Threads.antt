-- Jobs that are started and ended one after another.
use Rattle.std.proofs.Common.{◌≡◌, ℕ, Bool, List, [], ◌∷◌, ◌++◌, Option, sym, refl, ◌∙◌, ap, append_assoc, append-nil, subst}
use Rattle.cesr_codes.specs.declared.key.Key.{Key}
use Rattle.cesr_codes.specs.declared.sig.Sig.{Sig}
use Rattle.keri_outside.specs.declared.inquiry.Inquiry.{Inquiry}
use Rattle.keri_outside.specs.declared.limits.Limits.{Limits}
use Rattle.reader_hub.specs.ReaderThreads.Jobs.{HasRun}
use Rattle.reader_hub.specs.ReaderThreads.Starts.{EachPair, Finished, IsStarted}
use Rattle.reader_hub.specs.declared.reader_threads.job.Job.{Job}
use Rattle.reader_hub.specs.declared.reader_threads.job.JobEnd.{JobEnd}
use Rattle.reader_hub.specs.declared.reader_threads.started.Started.{Started}

pub each_behind : {A B : Type 0} (R : A → B → Type 0) (xs : List A) (ys : List B) (x : A) (y : B) → EachPair R xs ys → R x y
    → EachPair R (xs ++ x ∷ []) (ys ++ y ∷ [])
each_behind R [] [] x y t r = (r, tt)
each_behind R [] (b ∷ ys) x y t r = absurd t
each_behind R (a ∷ xs) [] x y t r = absurd t
each_behind R (a ∷ xs) (b ∷ ys) x y t r = (t.0, each_behind R xs ys x y t.1 r)

-- a pair that came last goes behind those in front and the rest
pub behind : {A B : Type 0} (R : A → B → Type 0) (front rest items : List A) (all pushed : List B) (x : A) (y : B) → items ≡ rest ++ x ∷ [] → pushed ≡ all ++ y ∷ []
    → EachPair R (front ++ rest) all → R x y → EachPair R (front ++ items) pushed
behind {A = A} {B = B} R front rest items all pushed x y e f t r =
    subst (λ (p : List A × List B). EachPair R p.0 p.1) (λ i. ((append_assoc front rest (x ∷ []) ∙ ap (λ l. front ++ l) (sym e)) i, sym f i)) (each_behind R (front ++ rest) all x y t r)

module _ {S V : Type 0} (left : S → Option (List ℕ)) (faults : S → ℕ) (says : V → Key → List ℕ → Sig → Option Bool)
    (inquiries : V → Option (List Inquiry)) (verifier_faults : V → ℕ) (limits : Limits) (limit : ℕ) where
  abbrev Runs : Job S V → JobEnd S V → Type 0
  Runs = HasRun left faults says inquiries verifier_faults limits limit

  abbrev Starts : Job S V → Started S V → Type 0
  Starts = IsStarted left faults says inquiries verifier_faults limits limit

  abbrev Ends : List (Job S V) → List (Started S V) → List (JobEnd S V) → Type 0
  Ends = Finished left faults says inquiries verifier_faults limits limit

  pub finished_on : (all : List (Job S V)) (rest : List (Started S V)) (s : Started S V) (ended : List (JobEnd S V)) (end : JobEnd S V)
      → Ends all (s ∷ rest) ended → ((job : Job S V) → Starts job s → Runs job end) → Ends all rest (ended ++ end ∷ [])
  finished_on all rest s ended end f runs = by_later f.later f.parts f.other
    where
      by_later : (later : List (Job S V)) → all ≡ f.done ++ later → EachPair Starts later (s ∷ rest) → Ends all rest (ended ++ end ∷ [])
      by_later [] parts other = absurd other
      by_later (job ∷ later) parts other = record {
        done = f.done ++ job ∷ [];
        later = later;
        parts = parts ∙ sym (append_assoc f.done (job ∷ []) later);
        each = each_behind Runs f.done ended job end f.each (runs job other.0);
        other = other.1;
      }

  pub finished_all : (all : List (Job S V)) (ended : List (JobEnd S V)) → Ends all [] ended → EachPair Runs all ended
  finished_all all ended f = by_later f.later f.parts f.other
    where
      by_later : (later : List (Job S V)) → all ≡ f.done ++ later → EachPair Starts later [] → EachPair Runs all ended
      by_later [] parts other = subst (λ l. EachPair Runs l ended) (sym (parts ∙ append-nil f.done)) f.each
      by_later (job ∷ later) parts other = absurd other

  -- none has ended yet
  pub finished_none : (all : List (Job S V)) (started : List (Started S V)) → EachPair Starts all started → Ends all started []
  finished_none all started each = record { done = []; later = all; parts = refl; each = tt; other = each }
