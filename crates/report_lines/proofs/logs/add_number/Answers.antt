use Rattle.std.proofs.Common.{rules, refl, ap}
use Rattle.report_lines.specs.declared.logs.Log.{Log}
use Rattle.report_lines.proofs.LogGrowth.{known_at, new_at}
use Rattle.report_lines.proofs.logs.add_number.Goals as goal

pub returns-in-Some : goal.returns-in-Some
returns-in-Some c = λ bodies log b at of logs.
    let w : Log = record { prefix = c.in-Some.log.now.prefix; numbers = c.push.new.self } in
    let written = c.get_mut.follows.holds w in
    known_at bodies log c.args.prefix c.in_range.ensures c.args.number b at of c.args.logs.now.entries logs c.write.new.out c.write.ensures
    (c.get_mut.follows.lender w).entries w c.in-Some.log.now c.in-Some.ensures.value refl c.in_ok-push.ensures.items (written.3 (search rules)).0 written.0

pub returns : goal.returns
returns c = λ bodies log b at of logs.
    let w : Log = record { prefix = c.args.prefix; numbers = c.in_ok-numbers.numbers } in
    new_at bodies log c.args.prefix c.in_range.ensures c.args.number b at of c.args.logs.now.entries logs c.write.new.out c.write.ensures
    c.insert.new.self.entries w c.get_mut.follows.lender-at-none.entries (ap (λ m. m.entries) c.get_mut.follows.holds-at-none) c.in_default.ensures.value
    refl c.in_ok-numbers.ensures.items c.in_ok-insert.ensures.updates.0 c.in_ok-insert.ensures.entries
