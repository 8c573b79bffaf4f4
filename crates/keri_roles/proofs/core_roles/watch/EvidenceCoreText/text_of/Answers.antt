use Rattle.std.proofs.Common.{sym, ◌∙◌, rules}
use Rattle.keri_roles.proofs.CoreRolesLemmas.OverCore.{none_out}
use Rattle.keri_roles.proofs.core_roles.watch.EvidenceCoreText.text_of.Goals as goal

pub returns : goal.returns
returns g c = (
  (
    search rules,
    none_out g.S.Source.left g.S.Source.faults g.V.Verifier.says g.V.Verifier.inquiries g.V.Verifier.faults c.args.readers.now
        (sym c.some_found_no_memory.ensures ∙ c.if-some_found_no_memory.false),
  ),
  (let t = c.in_ok-bytes.ensures.text in let r = c.in_ok-bytes.ensures.reads in record {
    text_is = record { sets = t.sets; sets_are = t.sets_are; text_is = t.text_is; has_conflicts_is = t.has_conflicts_is };
    reads = record { sets = r.sets; sets_are = r.sets_are; items_are = r.items_are };
  }),
)
