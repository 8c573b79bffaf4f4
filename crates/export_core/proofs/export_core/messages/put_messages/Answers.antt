use Rattle.std.proofs.Common.{sym, subst}
use Rattle.export_core.specs.ExportCore.Messages.{PutsCut}
use Rattle.export_core.proofs.ExportCoreLemmas.Runs.{cut_some}
use Rattle.export_core.proofs.ExportCoreLemmas.Texts.{on_ok_so}
use Rattle.export_core.proofs.export_core.messages.put_messages.Goals as goal

pub returns-in-Some : goal.returns-in-Some
returns-in-Some c = on_ok_so c.put_runs.result c.put_runs.ensures (λ put.
    subst (λ claims. PutsCut c.args.bytes.now claims c.args.text.now.bytes.items c.put_runs.new.text.bytes.items) (sym c.in-Some.ensures.cases.0)
    (cut_some c.args.bytes.now c.in-Some.first.now c.in-Some.rest.now c.args.text.now.bytes.items c.put_runs.new.text.bytes.items put))
