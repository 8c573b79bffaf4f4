use Rattle.std.proofs.Common.{◌≡◌, take}
use Rattle.std.specs.BTreeSet.{contains}
use Rattle.std.specs.List.{list_any}
use Rattle.claim_table.specs.declared.claim_table.signature.Signature.{Signature}
use Rattle.export_core.specs.ExportCore.Came.{is_signature, signature_cmp, yes_of}
use Rattle.export_core.proofs.export_core.came.good_signatures.Given as goal

-- those of the entries so far are there
abbrev pub invariant-loop-entry : goal.invariant-loop-entry
invariant-loop-entry l = (s : Signature) → contains signature_cmp l.good s ≡ list_any (λ e. is_signature (yes_of e) s) (take l.entry-index l.entries)
