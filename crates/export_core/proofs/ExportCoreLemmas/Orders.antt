-- The orders of claims, of signatures and of identifiers: two of them are of one place exactly where they are the same.
use Rattle.std.proofs.Common.{◌≡◌, ◌&&◌, ◌==◌, sym, ◌∙◌, rules, tests}
use Rattle.std.specs.BTreeMap.{is_at}
use Rattle.std.specs.declared.cmp.Ordering.{Ordering}
use Rattle.std.specs.declared.cmp.Ord as ord
use Rattle.cesr_codes.specs.contracts.prefix.PrefixOrd.TheImpl.Laws as prefix_laws
use Rattle.cesr_codes.specs.contracts.prefix.PrefixPartialEq.TheImpl as prefix_test
use Rattle.cesr_codes.specs.declared.prefix.Prefix.{Prefix}
use Rattle.claim_table.specs.contracts.claim_table.signature.SignatureOrd.TheImpl.Laws as signature_laws
use Rattle.claim_table.specs.contracts.claim_table.signature.SignaturePartialEq.TheImpl as signature_test
use Rattle.claim_table.specs.declared.claim_table.signature.Signature.{Signature}
use Rattle.journal.specs.contracts.journal.claim.ClaimOrd.TheImpl as claim_order
use Rattle.journal.specs.contracts.journal.claim.ClaimOrd.TheImpl.Laws as claim_laws
use Rattle.journal.specs.contracts.journal.claim.ClaimPartialEq.TheImpl as claim_test
use Rattle.journal.specs.declared.journal.claim.Claim.{Claim}
use Rattle.journal.specs.Journal.Replies.{same_claim}
use Rattle.key_state.specs.Same.{same_key, same_prefix, same_sig}
use Rattle.export_core.specs.ExportCore.Came.{signature_cmp}
use Rattle.export_core.specs.ExportCore.Exported.{prefix_cmp}
use denote.Param as param

abbrev pub claim_cmp : Claim → Claim → Ordering
claim_cmp = param.read (ord.Ghosts.cmp {X-1 = Claim}) claim_order.ghosts

claims_alike : (c d : Claim) → (claim_test.ghosts).eq c d ≡ same_claim c d
claims_alike c d = search (rules, tests)

pub claim_at : (c d : Claim) → is_at (claim_cmp c) d ≡ same_claim c d
claim_at c d = sym (claim_laws.matches_eq-law c d) ∙ claims_alike c d

signatures_alike : (s t : Signature) → (signature_test.ghosts).eq s t ≡ ((s.body == t.body) && (same_key s.key t.key && same_sig s.sig t.sig))
signatures_alike s t = search (rules, tests)

pub signature_at : (s t : Signature) → is_at (signature_cmp s) t ≡ ((s.body == t.body) && (same_key s.key t.key && same_sig s.sig t.sig))
signature_at s t = sym (signature_laws.matches_eq-law s t) ∙ signatures_alike s t

prefixes_alike : (p q : Prefix) → (prefix_test.ghosts).eq p q ≡ same_prefix p q
prefixes_alike p q = search (rules, tests)

pub prefix_at : (p q : Prefix) → is_at (prefix_cmp p) q ≡ same_prefix p q
prefix_at p q = sym (prefix_laws.matches_eq-law p q) ∙ prefixes_alike p q
