use Rattle.std.proofs.Common.{[], refl, take, sym, ◌∙◌, ap, if◌then◌else◌}
use Rattle.std.specs.declared.alloc.AllocError.{AllocError}
use Rattle.journal_views.proofs.EventPayloadLemmas.Readings.{body_there, fed_all, no_body}
use Rattle.journal_views.proofs.event_payload.front.text_read.Goals as goal

pub returns-in-None : goal.returns-in-None
returns-in-None c =
    let payload = c.args.payload.now in
    let fed = fed_all 65535 payload c.args.reader.now c.feed.new.self c.requires refl c.in_ok-feed.ensures.ok in
    no_body payload c.feed.new.self c.next.new.self fed AllocError c.in_ok-step.step c.in_ok-step.ensures.answer (sym c.size_in.ensures ∙ c.in-None.is)

pub returns-in-Some : goal.returns-in-Some
returns-in-Some c =
    let payload = c.args.payload.now in
    let size = c.in-Some.size in
    let fed = fed_all 65535 payload c.args.reader.now c.feed.new.self c.requires refl c.in_ok-feed.ensures.ok in
    let split = body_there payload c.feed.new.self c.next.new.self fed AllocError c.in_ok-step.step size c.in_ok-step.ensures.answer (sym c.size_in.ensures ∙ c.in-Some.is) in
    sym (split.text ∙ ap (λ yes. if yes then take size payload else []) (sym c.in_ok-are_groups.ensures ∙ c.if-branch.true))

pub returns-in-Some-2 : goal.returns-in-Some-2
returns-in-Some-2 c =
    let payload = c.args.payload.now in
    let size = c.in-Some.size in
    let fed = fed_all 65535 payload c.args.reader.now c.feed.new.self c.requires refl c.in_ok-feed.ensures.ok in
    let split = body_there payload c.feed.new.self c.next.new.self fed AllocError c.in_ok-step.step size c.in_ok-step.ensures.answer (sym c.size_in.ensures ∙ c.in-Some.is) in
    sym (split.text ∙ ap (λ yes. if yes then take size payload else []) (sym c.in_ok-are_groups.ensures ∙ c.if-branch.false))
