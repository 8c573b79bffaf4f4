use Rattle.std.specs.Prelude.{string_bytes}
use Rattle.keri_roles.specs.KeriRoles.MessageLines.{one}
use Rattle.keri_roles.proofs.keri_roles.checker.Checker.add_line.Goals as goal

pub returns : goal.returns
returns c before answered = rw (c.in_ok-push_str.ensures.bytes, c.as_str.ensures.value, c.in_ok-note.ensures)
    (one c.args.message (string_bytes c.in_ok-line.line.text) c.in_ok-line.line.refusal answered c.in_ok-line.ensures)
