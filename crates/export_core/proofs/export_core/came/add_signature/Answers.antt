use Rattle.std.proofs.Common.{◌≡◌, ◌||◌, Bool, true, false, cond, refl, ◌∙◌, ap}
use Rattle.std.specs.BTreeSet.{contains}
use Rattle.export_core.specs.ExportCore.Came.{same_signature, signature_cmp}
use Rattle.export_core.proofs.ExportCoreLemmas.Orders.{signature_at}
use Rattle.export_core.proofs.export_core.came.add_signature.Goals as goal

either : (here there : Bool) → cond here true there ≡ (there || here)
either true true = refl
either true false = refl
either false true = refl
either false false = refl

pub returns : goal.returns
returns c = λ s. c.in_ok-insert.ensures.updates.0 s ∙ ap (λ b. cond b true (contains signature_cmp c.args.good.now s)) (signature_at c.args.signature s)
    ∙ either (same_signature c.args.signature s) (contains signature_cmp c.args.good.now s)
