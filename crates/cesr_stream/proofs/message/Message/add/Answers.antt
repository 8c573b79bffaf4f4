use Rattle.std.proofs.Common.{ap, ◌∙◌, ◌++◌, subst}
use Rattle.cesr_stream.specs.Assembly.{AreKept}
use Rattle.cesr_stream.proofs.Keeping.{added}
use Rattle.cesr_stream.proofs.message.Message.add.Goals as goal

pub returns-clause-ok : goal.returns-clause-ok
returns-clause-ok c =
    let old = c.args.self.now in
    let kept = subst (λ groups. AreKept c.args.limit c.args.used groups c.count_kept-kept.result.0 c.count_kept-kept.result.1) c.as_slice.ensures c.count_kept-kept.ensures in
    rw c.len.ensures (added c.args.limit c.args.used c.count_kept-kept.result.1 c.count_kept-kept.result.0 old c.args.groups c.append.new.groups
    c.if-self.false c.requires.used c.requires.few kept (c.in_ok-append.ensures.ok ∙ ap (λ groups. old.groups ++ groups) c.truncate.ensures))
