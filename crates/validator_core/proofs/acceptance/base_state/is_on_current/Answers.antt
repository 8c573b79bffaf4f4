use Rattle.std.proofs.Common.{◌∙◌, sym}
use Rattle.validator_core.specs.Tables.View.{body_of, log_of}
use Rattle.validator_core.proofs.AcceptanceLemmas.Footings.{behind_on, first_on, taken_on}
use Rattle.validator_core.proofs.acceptance.base_state.is_on_current.Goals as goal

pub returns-then-not-has_clash : goal.returns-then-not-has_clash
returns-then-not-has_clash c = λ bytes yes_is taken.
    taken_on (log_of c.args.tables.now) (body_of bytes c.args.event.now) c.requires.standing.grown (c.has_clash.ensures c.if-not-has_clash.true) taken

pub returns-in-Some-Inception : goal.returns-in-Some-Inception
returns-in-Some-Inception c = λ bytes yes_is taken. first_on (log_of c.args.tables.now) c.args.tables.now.log (body_of bytes c.args.event.now) c.in-Some-Inception.field-0 c.in-Some-Inception.field-0-is (c.in-Some-Inception.ensures.some bytes)

pub returns-in-Some-Behind : goal.returns-in-Some-Behind
returns-in-Some-Behind c = λ bytes yes_is taken.
    let last = sym c.requires.last ∙ c.is_place.ensures yes_is in
    behind_on (log_of c.args.tables.now) c.args.tables.now.log (body_of bytes c.args.event.now) c.requires.standing.log c.in-Some-Behind.field-0 c.in-Some-Behind.place c.in-Some-Behind.field-0-is (c.in-Some-Behind.ensures.some bytes) last
