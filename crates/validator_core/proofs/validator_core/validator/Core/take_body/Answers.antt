use Rattle.std.proofs.Common.{sym, ◌∙◌, subst}
use Rattle.validator_core.specs.Tables.View.{body_of}
use Rattle.journal.specs.declared.journal.reply.Reply.TheVariants.{LimitReached, Taken}
use Rattle.validator_core.specs.ValidatorCore.Calls.{TakesBody}
use Rattle.validator_core.specs.ValidatorCore.Looks.{LooksByReply}
use Rattle.validator_core.specs.ValidatorCore.Tables.{IsCore}
use Rattle.validator_core.specs.ValidatorCore.Tally.{tally_with}
use Rattle.validator_core.proofs.ValidatorCoreLemmas.Cores.{seen}
use Rattle.validator_core.proofs.ValidatorCoreLemmas.Takes.{core_first, few_first, takes_first, takes_full_new}
use Rattle.validator_core.proofs.validator_core.validator.Core.take_body.Goals as goal

pub returns-then-lacks_room-clause-takes : goal.returns-then-lacks_room-clause-takes
returns-then-lacks_room-clause-takes c =
    let i = c.self.inside in
    let is = c.self.view_is in
    let b = body_of c.args.body.now c.args.event in
    subst (λ core. TakesBody core c.args.reader b c.args.claims LimitReached core) is
    (takes_full_new i.mode i.limits i.base i.tables i.tally c.self.invariant c.args.reader b c.args.claims (rw (← is) at c.requires.outside)
    (rw (c.len-count.ensures, c.len-size.ensures) at (sym c.lacks_room.ensures ∙ c.if-lacks_room.true)))

pub invariant_of-self-2 : goal.invariant_of-self-2
invariant_of-self-2 c =
    let i = c.self.inside in
    let is = c.self.view_is in
    let b = body_of c.args.body.now c.args.event in
    let room = rw (c.len-count.ensures, c.len-size.ensures) at (sym c.lacks_room.ensures ∙ c.if-lacks_room.false) in
    let adds = rw c.in-Ok.ensures at c.in_ok-add_body.ensures.ok in
    subst (λ t. IsCore i.mode i.limits i.base c.add_body.new.tables t) (sym (c.with-self-inside.ensures ∙ (λ j. tally_with i.tally (c.len-size.ensures j) (c.len-count.ensures j))))
    (core_first i.mode i.limits i.base i.tables i.tally c.self.invariant c.args.reader b c.args.claims (rw (← is) at c.requires.outside) room c.add_body.new.tables _ _ adds)

pub returns-clause-takes : goal.returns-clause-takes
returns-clause-takes c =
    let i = c.self.inside in
    let is = c.self.view_is in
    let b = body_of c.args.body.now c.args.event in
    let room = rw (c.len-count.ensures, c.len-size.ensures) at (sym c.lacks_room.ensures ∙ c.if-lacks_room.false) in
    let adds = rw c.in-Ok.ensures at c.in_ok-add_body.ensures.ok in
    subst (λ core. TakesBody core c.args.reader b c.args.claims Taken (seen i.mode i.limits i.base c.add_body.new.tables)) is
    (takes_first i.mode i.limits i.base i.tables i.tally c.self.invariant c.args.reader b c.args.claims (rw (← is) at c.requires.outside) room c.add_body.new.tables _ _ adds)

pub returns-clause-few : goal.returns-clause-few
returns-clause-few c =
    let i = c.self.inside in
    let is = c.self.view_is in
    let b = body_of c.args.body.now c.args.event in
    let room = rw (c.len-count.ensures, c.len-size.ensures) at (sym c.lacks_room.ensures ∙ c.if-lacks_room.false) in
    let adds = rw c.in-Ok.ensures at c.in_ok-add_body.ensures.ok in
    subst (λ core. LooksByReply core b Taken (seen i.mode i.limits i.base c.add_body.new.tables) c.args.steps.now c.add_body.new.steps) is
    (few_first i.mode i.limits i.base i.tables i.tally c.self.invariant c.args.reader b c.args.claims (rw (← is) at c.requires.outside) room c.add_body.new.tables _ _ adds)
