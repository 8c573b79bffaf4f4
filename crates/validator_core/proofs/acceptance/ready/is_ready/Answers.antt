use Rattle.std.proofs.Common.{◌≡◌, ◌&&◌, Bool, true, false, Option, Some, None, is_none, is_some, refl, ◌∙◌, ap, sym}
use Rattle.std.specs.Option.{option_copied}
use Rattle.journal.specs.Journal.Readiness.{is_ready}
use Rattle.validator_core.specs.Tables.View.{body_of, log_of}
use Rattle.validator_core.specs.Acceptance.Standing.{told_of}
use Rattle.claim_table.specs.CoreLaws.Waking as waking
use Rattle.validator_core.proofs.AcceptanceLemmas.Bodies.{at_body, is_below}
use Rattle.validator_core.proofs.AcceptanceLemmas.Enough.{not_taken, ready_is}
use Rattle.validator_core.proofs.acceptance.ready.is_ready.Goals as goal

some_is : {X : Type 0} (o : Option X) (b : Bool) → true ≡ is_some o → false ≡ (is_none o && b)
some_is None b h = cc
some_is (Some x) b h = refl

none_is : {X : Type 0} (o : Option X) (b : Bool) → false ≡ is_some o → b ≡ (is_none o && b)
none_is None b h = refl
none_is (Some x) b h = cc

pub returns-then-not-takes : goal.returns-then-not-takes
returns-then-not-takes c =
    let v = c.args.tables.now in
    let e = c.in-Some.event.now in
    at_body v.held c.args.number e c.in-Some.ensures.event (λ b. false ≡ is_ready c.args.mode (told_of v) (log_of v) b)
    (λ bytes at. sym (not_taken c.args.mode (told_of v) (log_of v) (body_of bytes e) (option_copied c.current_of-current.result.state) c.current_of-current.ensures.state (sym c.if-not-takes.ensures)))

pub wanting-requires-clause-held : goal.wanting-requires-clause-held
wanting-requires-clause-held c = is_below c.args.tables.now.held c.args.number c.in-Some.event.now c.in-Some.ensures.event

pub returns-then-is_some : goal.returns-then-is_some
returns-then-is_some c =
    let v = c.args.tables.now in
    let e = c.in-Some.event.now in
    at_body v.held c.args.number e c.in-Some.ensures.event (λ b. false ≡ is_ready c.args.mode (told_of v) (log_of v) b)
    (λ bytes at. some_is c.wanting.result (waking.is_waiting (log_of v) (body_of bytes e)) c.if-is_some.ensures
    ∙ ap (λ o. is_none o && waking.is_waiting (log_of v) (body_of bytes e)) (c.wanting.ensures bytes at c.current_of-current.ensures.state (sym c.if-not-takes.ensures))
    ∙ sym (ready_is c.args.mode (told_of v) (log_of v) (body_of bytes e) (option_copied c.current_of-current.result.state) c.current_of-current.ensures.state (sym c.if-not-takes.ensures)))

pub returns : goal.returns
returns c =
    let v = c.args.tables.now in
    let e = c.in-Some.event.now in
    at_body v.held c.args.number e c.in-Some.ensures.event (λ b. c.is_waiting.result ≡ is_ready c.args.mode (told_of v) (log_of v) b)
    (λ bytes at. c.is_waiting.ensures bytes at ∙ none_is c.wanting.result (waking.is_waiting (log_of v) (body_of bytes e)) c.if-is_some.ensures
    ∙ ap (λ o. is_none o && waking.is_waiting (log_of v) (body_of bytes e)) (c.wanting.ensures bytes at c.current_of-current.ensures.state (sym c.if-not-takes.ensures))
    ∙ sym (ready_is c.args.mode (told_of v) (log_of v) (body_of bytes e) (option_copied c.current_of-current.result.state) c.current_of-current.ensures.state (sym c.if-not-takes.ensures)))
