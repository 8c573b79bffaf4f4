-- A start from what a witness has stored.
use Rattle.std.proofs.Common.{◌≡◌, ℕ, true, false, List, [], ◌∷◌, ◌++◌, map, refl, sym, ◌∙◌, ap, subst}
use Rattle.std.specs.Prelude.{All}
use Rattle.std.proofs.lemmas.List.Elements.{All-head, All-tail}
use Rattle.validator_core.specs.Acceptance.Standing.{IsHeld}
use Rattle.event_body.proofs.EventBodyLemmas.Whole.{one_event}
use Rattle.journal.specs.Journal.Grown.{IsGrown, fits}
use Rattle.journal.specs.declared.journal.body.Body.{Body}
use Rattle.journal.specs.declared.journal.resume_fault.ResumeFault.TheVariants.{NotALog, OutOfMemory}
use Rattle.journal.proofs.JournalLemmas.Keeping.{accepted_grown}
use Rattle.quorum_laws.proofs.Inside.{All-front}
use Rattle.validator_core.specs.ValidatorCore.Base.{EndsAt, IsRead}
use Rattle.validator_core.specs.ValidatorCore.View.{CoreView, IsSoundCore, accepted_by, base_of, told_of}
use Rattle.witness_core.specs.WitnessStore.Starts.{ReadsAgain, StartsAgain, texts_in}
use Rattle.witness_core.proofs.WitnessLinkLemmas.Holding.{all_held}

-- a list whose texts are parted at one of them
record Parts (log : List Body) (before : List (List ℕ)) (text : List ℕ) : Type 0 where
  pub front : List Body
  pub event : Body
  pub later : List Body
  pub log_is : log ≡ front ++ event ∷ later
  pub front_is : map (λ b. b.bytes) front ≡ before
  pub text_is : event.bytes ≡ text

parts_by : (log : List Body) (before : List (List ℕ)) (text : List ℕ) (rest : List (List ℕ)) → map (λ b. b.bytes) log ≡ before ++ text ∷ rest → Parts log before text
parts_by [] [] text rest e = cc
parts_by [] (t ∷ before) text rest e = cc
parts_by (b ∷ log) [] text rest e =
    let same : b.bytes ≡ text = cc in
    record { front = []; event = b; later = log; log_is = refl; front_is = refl; text_is = same }
parts_by (b ∷ log) (t ∷ before) text rest e =
    let same : b.bytes ≡ t = cc in
    let others : map (λ b. b.bytes) log ≡ before ++ text ∷ rest = cc in
    let p = parts_by log before text rest others in
    record { front = b ∷ p.front; event = p.event; later = p.later; log_is = ap (λ l. b ∷ l) p.log_is; front_is = (λ i. same i ∷ p.front_is i); text_is = p.text_is }

-- bodies of the same bytes, which these spell, are the same
same_bodies : (xs ys : List Body) → map (λ b. b.bytes) xs ≡ map (λ b. b.bytes) ys → All IsHeld xs → All (λ b. IsRead b.event b.bytes) ys → xs ≡ ys
same_bodies [] [] e held read = refl
same_bodies [] (y ∷ ys) e held read = cc
same_bodies (x ∷ xs) [] e held read = cc
same_bodies (x ∷ xs) (y ∷ ys) e held read =
    let bytes : x.bytes ≡ y.bytes = cc in
    let others : map (λ b. b.bytes) xs ≡ map (λ b. b.bytes) ys = cc in
    let event = one_event x.event y.event y.bytes (subst (λ text. IsRead x.event text) bytes ((All-head IsHeld x xs held).spelled, (All-head IsHeld x xs held).few)).0 (All-head (λ b. IsRead b.event b.bytes) y ys read).0 in
    let rest = same_bodies xs ys others (All-tail IsHeld x xs held) (All-tail (λ b. IsRead b.event b.bytes) y ys read) in
    λ i. record { bytes = bytes i; event = event i } ∷ rest i

-- the texts of a grown list are a log to their end
no_end : (log : List Body) (texts : List (List ℕ)) (n : ℕ) → texts ≡ map (λ b. b.bytes) log → IsGrown log → All IsHeld log → EndsAt texts n → ⊥
no_end log texts n texts_are grown held ends =
    let p = parts_by log (map (λ b. b.bytes) ends.before) ends.text ends.rest (sym texts_are ∙ ends.parted) in
    let parted : All IsHeld (p.front ++ p.event ∷ p.later) = subst (All IsHeld) p.log_is held in
    let front = same_bodies p.front ends.before p.front_is (All-front IsHeld p.front (p.event ∷ p.later) parted) ends.log.reading.spelled in
    let here : IsHeld p.event = held_at p.front p.event p.later parted in
    let body : record { bytes = ends.text; event = p.event.event } ≡ p.event = λ i. record { bytes = sym p.text_is i; event = p.event.event } in
    let fit : fits p.front p.event ≡ true = grown p.front p.later p.event p.log_is in
    let unfit = ends.unfit p.event.event (subst (λ text. IsRead p.event.event text) p.text_is (here.spelled, here.few)) in
    let clash : true ≡ false = sym fit ∙ ap (λ l. fits l p.event) front ∙ ap (fits ends.before) (sym body) ∙ unfit in
    cc
  where
    held_at : (front : List Body) (b : Body) (later : List Body) → All IsHeld (front ++ b ∷ later) → IsHeld b
    held_at [] b later all = All-head IsHeld b later all
    held_at (c ∷ front) b later all = held_at front b later (All-tail IsHeld c (front ++ b ∷ later) all)

-- STARTS AGAIN
pub starts_again : (core : CoreView) (list : List (List ℕ)) → IsSoundCore core → IsGrown (base_of core) → ReadsAgain core list → StartsAgain list
starts_again core list stands grown reads OutOfMemory none = refl
starts_again core list stands grown reads (NotALog n) none =
    absurd (no_end (accepted_by core) (texts_in list) n reads (accepted_grown core.mode (base_of core) (told_of core) grown) (all_held core stands) none)
