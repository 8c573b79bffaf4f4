-- The claims on an event that have a yes.
use Rattle.std.specs.Prelude.{ℕ, Bool}
use Rattle.std.specs.BTreeSet.{BTreeSet, contains}
use Rattle.claim_table.specs.declared.claim_table.signature.Signature.{Signature}
use Rattle.journal.specs.EventRules.Claims.{is_good}
use Rattle.journal.specs.declared.journal.claim.Claim.{Claim}
use Rattle.export_core.specs.ExportCore.Came.{signature_cmp}
use Rattle.export_core.specs.ExportCore.Signers.{rules_by}
use Rattle.export_core.specs.declared.export_core.signers.Signers.{Signers}

-- the claim's signature on the body of a number is among the good ones, by the keys and witnesses of its event
abbrev pub is_good_by : BTreeSet Signature → Signers → ℕ → Claim → Bool
is_good_by good signers n c = is_good (λ key sig. contains signature_cmp good (record { body = n; key = key; sig = sig })) (rules_by signers) c
