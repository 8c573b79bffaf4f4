use Rattle.std.proofs.Common.{◌≡◌, sym, ap, ◌∙◌}
use Rattle.keri_outside.specs.Rehearsal as rehearsal
use Rattle.controller_core.specs.LogMaker.Names.{log_witness}
use Rattle.controller_core.proofs.LogMakerLemmas.Texts.{signed_parts, same_sigs}
use Rattle.controller_core.proofs.log_maker.message.signed.Goals as goal

pub returns : goal.returns
returns c =
    let body = c.args.body.items in
    let witness = log_witness c.args.seed c.args.log in
    let own : c.rehearse-sig.result ≡ rehearsal.rehearsed c.args.key.now body = c.rehearse-sig.ensures ∙ ap (rehearsal.rehearsed c.args.key.now) c.deref.ensures.value in
    let first : c.in_ok-first.first ≡ rehearsal.rehearsed (witness 0) body = c.in_ok-first.ensures ∙ ap (rehearsal.rehearsed (witness 0)) c.deref-2.ensures.value in
    let second : c.in_ok-second.second ≡ rehearsal.rehearsed (witness 1) body = c.in_ok-second.ensures ∙ ap (rehearsal.rehearsed (witness 1)) c.deref-3.ensures.value in
    let third : c.in_ok-third.third ≡ rehearsal.rehearsed (witness 2) body = c.in_ok-third.ensures ∙ ap (rehearsal.rehearsed (witness 2)) c.deref-4.ensures.value in
    c.in_ok-push_signatures.ensures ∙ same_sigs body own first second third ∙ sym (signed_parts c.args.seed c.args.log c.args.key.now body)
