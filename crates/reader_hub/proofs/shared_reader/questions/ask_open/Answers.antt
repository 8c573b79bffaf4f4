use Rattle.std.proofs.Common.{rules, refl, ◌∙◌, subst, if◌then◌else◌}
use Rattle.turn_lock.specs.Locks.{known}
use Rattle.reader_hub.specs.SharedReader.Asks.{Asks}
use Rattle.reader_hub.proofs.SharedReaderLemmas.Asked.{asks_on, asks_yet}
use Rattle.reader_hub.proofs.shared_reader.questions.ask_open.Goals as goal

pub loop-init : goal.loop-init
loop-init g c = (tt, tt, c.requires.pass, refl, refl, asks_yet c.args.extent (g.V.Verifier.says c.args.verifier.now) (g.V.Verifier.inquiries c.args.verifier.now) (known c.args.pass.now))

pub loop-preserved : goal.loop-preserved
loop-preserved g c =
    let inv = c.loop.invariant in
    let says = g.V.Verifier.says c.args.verifier.now in
    let old = g.V.Verifier.inquiries c.loop.verifier in
    let new = g.V.Verifier.inquiries c.ask_one.new.verifier in
    let p = known c.loop.pass in
    let q = known c.ask_one.new.pass in
    let one = subst (λ b. Asks c.args.extent (g.V.Verifier.says c.loop.verifier) old new p q (if b then 0 else 1) 0) c.in-Ok-true.field-0-test c.in-Ok-true.ensures.asks in (
      tt,
      tt,
      search rules,
      c.in-Ok-true.ensures.same ∙ inv.3,
      c.in-Ok-true.ensures.none_failed ∙ inv.4,
      asks_on c.args.extent says _ old new _ p q 0 0 0 0 inv.5 (subst (λ s. Asks c.args.extent s old new p q 0 0) inv.3 one),
    )

pub returns-in-Ok-false-clause-asks : goal.returns-in-Ok-false-clause-asks
returns-in-Ok-false-clause-asks g c =
    let inv = c.loop.invariant in
    let says = g.V.Verifier.says c.args.verifier.now in
    let old = g.V.Verifier.inquiries c.loop.verifier in
    let new = g.V.Verifier.inquiries c.ask_one.new.verifier in
    let p = known c.loop.pass in
    let q = known c.ask_one.new.pass in
    let none = subst (λ b. Asks c.args.extent (g.V.Verifier.says c.loop.verifier) old new p q (if b then 0 else 1) 0) c.in-Ok-false.field-0-test c.in-Ok-false.ensures.asks in
    asks_on c.args.extent says _ old new _ p q 0 1 0 0 inv.5 (subst (λ s. Asks c.args.extent s old new p q 1 0) inv.3 none)

pub returns-in-Err-clause-stopped : goal.returns-in-Err-clause-stopped
returns-in-Err-clause-stopped g c =
    let inv = c.loop.invariant in
    let says = g.V.Verifier.says c.args.verifier.now in
    let old = g.V.Verifier.inquiries c.loop.verifier in
    let new = g.V.Verifier.inquiries c.ask_one.new.verifier in
    let p = known c.loop.pass in
    let q = known c.ask_one.new.pass in
    asks_on c.args.extent says _ old new _ p q 0 4 0 1 inv.5 (subst (λ s. Asks c.args.extent s old new p q 4 1) inv.3 c.in-Err.ensures.stopped)

pub returns-in-Ok-false-clause-none_open : goal.returns-in-Ok-false-clause-none_open
returns-in-Ok-false-clause-none_open g c = c.in-Ok-false.ensures.none_open c.in-Ok-false.field-0-test
