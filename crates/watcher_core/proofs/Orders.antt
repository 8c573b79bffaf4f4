-- The order of indexed signatures: two of them are of one place exactly where they are the same.
use Rattle.std.proofs.Common.{◌≡◌, sym, ◌∙◌, rules, tests}
use Rattle.std.specs.BTreeMap.{is_at}
use Rattle.std.specs.declared.cmp.Ordering.{Ordering}
use Rattle.std.specs.declared.cmp.Ord as ord
use Rattle.cesr_codes.specs.contracts.indexed_sig.IndexedSigOrd.TheImpl as sig_order
use Rattle.cesr_codes.specs.contracts.indexed_sig.IndexedSigOrd.TheImpl.Laws as sig_laws
use Rattle.cesr_codes.specs.contracts.indexed_sig.IndexedSigPartialEq.TheImpl as sig_test
use Rattle.cesr_codes.specs.declared.indexed_sig.IndexedSig.{IndexedSig}
use Rattle.journal.specs.Journal.Replies.{same_indexed}
use denote.Param as param

abbrev pub sig_cmp : IndexedSig → IndexedSig → Ordering
sig_cmp = param.read (ord.Ghosts.cmp {X-1 = IndexedSig}) sig_order.ghosts

alike : (s t : IndexedSig) → (sig_test.ghosts).eq s t ≡ same_indexed s t
alike s t = search (rules, tests)

pub at_is : (s t : IndexedSig) → is_at (sig_cmp s) t ≡ same_indexed s t
at_is s t = sym (sig_laws.matches_eq-law s t) ∙ alike s t
