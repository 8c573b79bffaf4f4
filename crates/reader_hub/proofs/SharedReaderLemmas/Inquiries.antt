-- What a verifier was asked for verdicts.
use Rattle.std.proofs.Common.{◌≡◌, ℕ, ◌+◌, ◌≤◌, List, [], ◌∷◌, ◌++◌, Option, length-append, length-take, take, sym, ◌∙◌, ap, subst, arith}
use Rattle.std.proofs.lemmas.Grind.{flat_map-append}
use mathlib.Core.List.{Sublist, nil-sublist}
use mathlib.Core.List.Sublist.{append as sublist-append, refl as sublist-refl}
use Rattle.lists.specs.KeriSpecs.Shown.{after}
use Rattle.lists.proofs.KeriSpecsLemmas.Putting.{after-append, after-nil}
use Rattle.keri_outside.specs.declared.inquiry.Inquiry.{Inquiry}
use Rattle.journal.specs.Journal.History.{Told}
use Rattle.validator_core.specs.ValidatorCore.Verdicts.{inquiries_in, inquiry_in}
use Rattle.reader_hub.specs.SharedReader.Asks.{AsksFor}

-- nothing was asked for entries that are no verdicts
pub none_asked : (told : Option (List Inquiry)) (entries : List Told) → inquiries_in entries ≡ [] → AsksFor told told entries 0
none_asked told entries none = record {
  all = [];
  now_is = after-nil told;
  in_order = subst (λ (l : List Inquiry). Sublist l []) (sym none) (sublist-refl []);
  few = omega arith;
}

-- a front of one question was asked, and there is no verdict
pub unheard_asked : (before now : Option (List Inquiry)) (q : Inquiry) (n : ℕ) → now ≡ after before (take n (q ∷ [])) → AsksFor before now [] 1
unheard_asked before now q n is = record {
  all = take n (q ∷ []);
  now_is = is;
  in_order = nil-sublist (take n (q ∷ []));
  few = (let long = length-take n (q ∷ []) in omega (arith, long));
}

pub at_most : (before now : Option (List Inquiry)) (verdicts : List Told) (m n : ℕ) → m ≤ n → AsksFor before now verdicts m → AsksFor before now verdicts n
at_most before now verdicts m n le a = record { all = a.all; now_is = a.now_is; in_order = a.in_order; few = (let few = a.few in omega (arith, few, le)) }

-- some behind others
pub asked_on : (before mid now : Option (List Inquiry)) (xs ys : List Told) (m n k : ℕ) → m + n ≤ k → AsksFor before mid xs m → AsksFor mid now ys n → AsksFor before now (xs ++ ys) k
asked_on before mid now xs ys m n k le a b = record {
  all = a.all ++ b.all;
  now_is = b.now_is ∙ (ap (λ told. after told b.all) a.now_is ∙ after-append before a.all b.all);
  in_order = subst (λ (l : List Inquiry). Sublist l (a.all ++ b.all)) (sym (flat_map-append inquiry_in xs ys)) (sublist-append a.in_order b.in_order);
  few = (let first = a.few in let second = b.few in let long = length-append a.all b.all in omega (arith, first, second, long, le));
}
