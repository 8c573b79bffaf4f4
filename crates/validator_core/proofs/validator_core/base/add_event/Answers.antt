use Rattle.std.proofs.Common.{◌≡◌, ◌<◌, ◌∷◌, ◌++◌, [], Some, length, length-append, sym, ◌∙◌, ap, subst, arith}
use Rattle.std.specs.Prelude.{IsTrue, slice_get}
use Rattle.std.proofs.lemmas.Result.{on_ok_weaker}
use Rattle.validator_core.specs.Acceptance.Standing.{Accepts, AreSoundTables}
use Rattle.validator_core.specs.Tables.View.{View, log_of}
use Rattle.journal.specs.declared.journal.body.Body.{Body}
use Rattle.journal.specs.Journal.Grown.{fits}
use Rattle.journal.proofs.JournalLemmas.Places.{slice_get_last}
use Rattle.validator_core.proofs.ValidatorCoreLemmas.Bases.{accepts_text, fits_pushed, stands_pushed}
use Rattle.validator_core.proofs.validator_core.base.add_event.Goals as goal

pub accept-requires-clause-sound : goal.accept-requires-clause-sound
accept-requires-clause-sound c =
    subst AreSoundTables (sym c.in_ok-number.ensures.ok) (stands_pushed c.args.tables.now c.requires.accepted c.args.body c.requires.held c.requires.fits)

pub accept-requires-clause-held : goal.accept-requires-clause-held
accept-requires-clause-held c =
    let old = c.args.tables.now.held in
    let long = length-append old (c.args.body ∷ []) in
    subst (λ (x : View). c.in_ok-number.number < length x.held) (sym c.in_ok-number.ensures.ok) (omega (arith, long, c.in_ok-number.ensures.number))

pub accept-requires-clause-fits : goal.accept-requires-clause-fits
accept-requires-clause-fits c =
    subst (λ (x : View). (b : Body) → slice_get x.held c.in_ok-number.number ≡ Some b → IsTrue (fits (log_of x) b)) (sym c.in_ok-number.ensures.ok)
    (fits_pushed c.args.tables.now c.requires.accepted c.args.body c.requires.held c.requires.fits c.in_ok-number.number c.in_ok-number.ensures.number)

pub returns : goal.returns
returns c =
    let v = c.args.tables.now in
    let b = c.args.body in
    let pushed = c.in_ok-number.ensures.ok in
    let at = ap (λ (x : View). slice_get x.held c.in_ok-number.number) pushed ∙ ap (slice_get (v.held ++ b ∷ [])) c.in_ok-number.ensures.number ∙ slice_get_last v.held b in
    on_ok_weaker c.accept.result
    (λ made. accepts_text v c.requires.accepted b c.requires.held c.requires.fits c.accept.new.tables (subst (λ (x : View). Accepts b x c.accept.new.tables) pushed (made b at)))
    c.accept.ensures.ok
