use Rattle.std.proofs.Common.{[], sym, ◌∙◌, refl, rules}
use Rattle.export_core.proofs.ExportCoreLemmas.Cores.{export_alike}
use Rattle.keri_roles.proofs.CoreRolesLemmas.OverCore.{none_out, ok_then}
use Rattle.keri_roles.proofs.core_roles.export.ExportCoreText.text_of.Goals as goal

pub returns-in-Some : goal.returns-in-Some
returns-in-Some g c = (
  (
    search rules,
    none_out g.S.Source.left g.S.Source.faults g.V.Verifier.says g.V.Verifier.inquiries g.V.Verifier.faults c.args.readers.now
        (sym c.some_found_no_memory.ensures ∙ c.if-some_found_no_memory.false),
  ),
  rw (c.text_in.ensures.bytes, c.text_in.ensures.found) (
    c.in-Some.exported.count,
    export_alike c.args.core.now [] c.args.self.now.prefix c.in-Some.exported.text.items c.in-Some.exported.count (rw c.in-Some.is at c.in_ok-found.ensures.exported),
  ),
)

pub returns-in-None : goal.returns-in-None
returns-in-None g c =
    let known = rw c.in-None.is at c.in_ok-found.ensures.unknown in
    ok_then c.unknown.result c.unknown.ensures (λ text is. (
      (
        search rules,
        none_out g.S.Source.left g.S.Source.faults g.V.Verifier.says g.V.Verifier.inquiries g.V.Verifier.faults c.args.readers.now
            (sym c.some_found_no_memory.ensures ∙ c.if-some_found_no_memory.false),
      ),
      rw (is.0, is.1) (known refl, refl),
    ))
