-- Events by those before them.
use Rattle.std.proofs.Common.{◌≡◌, ℕ, zero, suc, ◌+◌, ◌<◌, Bool, true, false, if◌then◌else◌, Result, Ok, Err, refl, ap, ◌∙◌, sym, arith, add-one}
use Rattle.std.specs.Prelude.{IfOk}
use Rattle.cesr_codes.specs.declared.digest.Digest.{Digest}
use Rattle.event_body.specs.declared.event_body.event.Event.{Event}
use Rattle.event_body.specs.EventBody.Events.{said_of}
use Rattle.controller_core.specs.LogMaker.Behind.{first_before, prior_before}
use Rattle.controller_core.specs.LogMaker.Draws.{is_rotation, key_number}
use Rattle.controller_core.specs.LogMaker.Plans.{sealed, inception, rotation, interaction, plan_at, first_event, event_at}

pub first_before-more : (seed log sn : ℕ) → first_before seed log (sn + 1) ≡ said_of (first_event seed log)
unfolding first_before
first_before-more seed log sn = rw add-one refl

pub prior_before-more : (seed log sn : ℕ) → prior_before seed log (sn + 1) ≡ said_of (event_at seed log sn)
unfolding prior_before
prior_before-more seed log sn = rw add-one refl

pub first_before-later : (seed log sn : ℕ) → 0 < sn → first_before seed log sn ≡ said_of (first_event seed log)
unfolding first_before
first_before-later seed log zero some = absurd (omega arith)
first_before-later seed log (suc sn) some = refl

pub event_at-first : (seed log : ℕ) → event_at seed log 0 ≡ first_event seed log
unfolding event_at
event_at-first seed log = refl

pub event_at-inception : (seed log : ℕ) → event_at seed log 0 ≡ sealed (inception seed log)
unfolding event_at first_event
event_at-inception seed log = refl

event_at-plan : (seed log sn : ℕ) → 0 < sn → event_at seed log sn ≡ sealed (plan_at seed log sn (first_before seed log sn) (prior_before seed log sn))
unfolding event_at first_before prior_before
event_at-plan seed log zero some = absurd (omega arith)
event_at-plan seed log (suc sn) some = refl

plan_at-later : (seed log sn : ℕ) (b : Bool) → 0 < sn → is_rotation seed log sn ≡ b
    → plan_at seed log sn (first_before seed log sn) (prior_before seed log sn) ≡ (if b then rotation seed log (key_number seed log sn) sn (first_before seed log sn) (prior_before seed log sn) else interaction sn (first_before seed log sn) (prior_before seed log sn))
unfolding plan_at
plan_at-later seed log zero b some is = absurd (omega arith)
plan_at-later seed log (suc sn) b some is = rw is refl

pub event_at-rotation : (seed log sn number : ℕ) (first prior : Digest) → 0 < sn → is_rotation seed log sn ≡ true
    → number ≡ key_number seed log sn → first ≡ first_before seed log sn → prior ≡ prior_before seed log sn
    → event_at seed log sn ≡ sealed (rotation seed log number sn first prior)
event_at-rotation seed log sn number first prior some is number_is first_is prior_is =
    rw (number_is, first_is, prior_is) (event_at-plan seed log sn some ∙ ap sealed (plan_at-later seed log sn true some is))

pub event_at-interaction : (seed log sn : ℕ) (first prior : Digest) → 0 < sn → is_rotation seed log sn ≡ false
    → first ≡ first_before seed log sn → prior ≡ prior_before seed log sn
    → event_at seed log sn ≡ sealed (interaction sn first prior)
event_at-interaction seed log sn first prior some is first_is prior_is =
    rw (first_is, prior_is) (event_at-plan seed log sn some ∙ ap sealed (plan_at-later seed log sn false some is))

-- what is answered of a plan is what becomes the event
pub becomes : {E : Type 0} (r : Result Event E) (planned event : Event) → event ≡ sealed planned → IfOk r (λ plan. plan ≡ planned) → IfOk r (λ plan. sealed plan ≡ event)
becomes (Ok plan) planned event is same = ap sealed same ∙ sym is
becomes (Err e) planned event is same = tt
