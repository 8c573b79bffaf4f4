use Rattle.std.proofs.Common.{◌≡◌, map, sym, ap, ◌∙◌}
use Rattle.journal.specs.Journal.Seals.{members_of}
use Rattle.event_backing.specs.Texts.{named_value}
use Rattle.event_backing.proofs.SealMembers.{members_of-object}
use Rattle.event_backing.proofs.seal_texts.seal_texts.Goals as goal

pub returns-in-Object-clause-some : goal.returns-in-Object-clause-some
returns-in-Object-clause-some c =
    let e : members_of c.args.value.now ≡ map named_value c.as_slice.result.now = ap members_of c.in-Object.is ∙ members_of-object _ ∙ ap (map named_value) (sym c.as_slice.ensures) in
    rw e c.texts_of.ensures.some

pub returns-in-Object-clause-none : goal.returns-in-Object-clause-none
returns-in-Object-clause-none c =
    let e : members_of c.args.value.now ≡ map named_value c.as_slice.result.now = ap members_of c.in-Object.is ∙ members_of-object _ ∙ ap (map named_value) (sym c.as_slice.ensures) in
    rw e c.texts_of.ensures.none
