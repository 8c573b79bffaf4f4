use Rattle.std.proofs.Common.{rules, ◌≡◌, [], ◌∷◌, None, IfSome, refl, subst, arith, take}
use Rattle.lists.specs.KeriSpecs.Shown.{after}
use Rattle.keri_outside.specs.Asked.{inquiry}
use Rattle.turn_lock.specs.Locks.{known, limit_of}
use Rattle.turn_lock.proofs.Histories.{prefix_refl}
use Rattle.reader_hub.specs.ReaderHub.Hubs.{AsksAt}
use Rattle.reader_hub.proofs.SharedReaderLemmas.Asked.{asked_none, asks_besides, asks_nothing, asks_on, asks_one, given_only, none_asked_seen}
use Rattle.reader_hub.proofs.SharedReaderLemmas.Inquiries.{none_asked, unheard_asked}
use Rattle.reader_hub.proofs.SharedReaderLemmas.Turns.{idle_turn, stop_tells}
use Rattle.reader_hub.proofs.shared_reader.questions.ask_one.Goals as goal

pub returns-in-Err-clause-stopped : goal.returns-in-Err-clause-stopped
returns-in-Err-clause-stopped g c =
    let says = g.V.Verifier.says c.args.verifier.now in
    let told = g.V.Verifier.inquiries c.args.verifier.now in
    let q = known c.next_question.new.pass in
    asks_besides c.args.extent says told told _ q 1 4 0 1 (omega arith) (omega arith)
    (asks_nothing c.args.extent says told told _ q 1 0 (none_asked told [] refl) (none_asked_seen told q) (stop_tells (limit_of c.args.hub.now.turn) _ q c.in-Err.fault c.in-Err.ensures.stops))

-- the verifier failed: it was asked that, or nothing
pub returns-in-Err-verdict_on-clause-stopped : goal.returns-in-Err-verdict_on-clause-stopped
returns-in-Err-verdict_on-clause-stopped g c =
    let says = g.V.Verifier.says c.args.verifier.now in
    let told = g.V.Verifier.inquiries c.args.verifier.now in
    let now = g.V.Verifier.inquiries c.verdict_on.new.verifier in
    let limit = limit_of c.args.hub.now.turn in
    let t = c.in-Ok.ensures.asks in
    let front = c.in-Err-verdict_on.ensures.asked in
    let q = known c.next_question.new.pass in
    let a = c.in-Some.field-0 in
    let asked = subst (λ o. AsksAt limit (known c.args.pass.now) c.args.extent o q) c.in-Some.is t in
    let put : now ≡ after told (take front.0 (inquiry a.question.key a.bytes.items a.question.sig ∷ [])) = search rules in
    let only = given_only limit (known c.args.pass.now) c.args.extent a q asked q (prefix_refl q.seen) refl told now front.0 put in
    asks_besides c.args.extent says told now _ _ 1 4 1 1 (omega arith) (omega arith)
    (asks_nothing c.args.extent says told now _ _ 1 1 (unheard_asked told now _ front.0 front.1) only (idle_turn limit _ t.meets.met _ t.meets.begins t.turn))

pub returns-in-Ok-answer-clause-asks : goal.returns-in-Ok-answer-clause-asks
returns-in-Ok-answer-clause-asks g c =
    let says = g.V.Verifier.says c.args.verifier.now in
    let told = g.V.Verifier.inquiries c.args.verifier.now in
    let now = g.V.Verifier.inquiries c.verdict_on.new.verifier in
    let limit = limit_of c.args.hub.now.turn in
    let p = known c.args.pass.now in
    let q = known c.next_question.new.pass in
    let a = c.in-Some.field-0 in
    let asked = subst (λ o. AsksAt limit p c.args.extent o q) c.in-Some.is c.in-Ok.ensures.asks in
    let said : IfSome (says a.question.key a.bytes.items a.question.sig) (λ told. c.in-Ok-verdict_on.verdict ≡ told) = search rules in
    let put : now ≡ after told (inquiry a.question.key a.bytes.items a.question.sig ∷ []) = search rules in
    asks_one c.args.extent says limit p a q (known c.answer.new.pass) c.in-Ok-verdict_on.verdict c.in-Ok-answer.field-0 asked c.in-Ok-answer.ensures.answers told now put said

-- the verdict wasn't told to the hub
pub returns-clause-stopped : goal.returns-clause-stopped
returns-clause-stopped g c =
    let says = g.V.Verifier.says c.args.verifier.now in
    let told = g.V.Verifier.inquiries c.args.verifier.now in
    let now = g.V.Verifier.inquiries c.verdict_on.new.verifier in
    let limit = limit_of c.args.hub.now.turn in
    let t = c.in-Ok.ensures.asks in
    let put : now ≡ after told (take 1 (inquiry c.in-Some.field-0.question.key c.in-Some.field-0.bytes.items c.in-Some.field-0.question.sig ∷ [])) = search rules in
    let unheard = unheard_asked told now _ 1 put in
    let q = known c.next_question.new.pass in
    let r = known c.answer.new.pass in
    let asked = subst (λ o. AsksAt limit (known c.args.pass.now) c.args.extent o q) c.in-Some.is t in
    let stops = stop_tells limit q r c.in-Err-answer.fault c.in-Err-answer.ensures.stops in
    let only = given_only limit (known c.args.pass.now) c.args.extent c.in-Some.field-0 q asked r stops.begins stops.stays.head told now 1 put in
    asks_besides c.args.extent says told now _ _ 2 4 1 1 (omega arith) (omega arith)
    (asks_on c.args.extent says told told now _ q r 1 1 0 1
    (asks_nothing c.args.extent says told told _ q 1 0 (none_asked told [] refl) (none_asked_seen told q) (idle_turn limit _ t.meets.met q t.meets.begins t.turn))
    (asks_nothing c.args.extent says told now _ _ 1 1 unheard only stops))

pub returns-in_default-clause-asks : goal.returns-in_default-clause-asks
returns-in_default-clause-asks g c =
    let says = g.V.Verifier.says c.args.verifier.now in
    let told = g.V.Verifier.inquiries c.args.verifier.now in
    let t = c.in-Ok.ensures.asks in
    let q = known c.next_question.new.pass in
    asks_nothing c.args.extent says told told _ q 1 0 (none_asked told [] refl) (none_asked_seen told q) (idle_turn (limit_of c.args.hub.now.turn) _ t.meets.met q t.meets.begins t.turn)

pub returns-in_default-clause-none_open : goal.returns-in_default-clause-none_open
returns-in_default-clause-none_open g c = λ _.
    let none : c.in-Ok.answer ≡ None = search rules in
    let limit = limit_of c.args.hub.now.turn in
    let p = known c.args.pass.now in
    let q = known c.next_question.new.pass in
    asked_none limit p c.args.extent q (subst (λ o. AsksAt limit p c.args.extent o q) none c.in-Ok.ensures.asks)
