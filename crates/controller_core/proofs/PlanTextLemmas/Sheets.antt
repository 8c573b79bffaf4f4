-- What entries give, one after the other.
use Rattle.std.proofs.Common.{◌≡◌, ◌≤◌, List, [], ◌∷◌, ◌++◌, length, Option, Some, None, ap, ◌∙◌, ◌+◌, arith, append-nil, length-append}
use Rattle.std.specs.List.{filter_map}
use Rattle.std.specs.Option.{option_to_list}
use Rattle.std.proofs.lemmas.List.Elements.{filter_map-append}
use Rattle.controller_core.specs.declared.plan_text.entry.Entry.{Entry}
use Rattle.controller_core.specs.declared.plan_text.entry.Entry.TheVariants.{Prefix, Code, Kt, Nt, Key, Next, Cut, Add, Bt, Trait, Seal, Di, Sign, Reuse}
use Rattle.controller_core.specs.declared.plan_text.draft.Draft.{Draft}
use Rattle.controller_core.specs.declared.plan_text.promise.Promise.{Promise}
use Rattle.controller_core.specs.PlanText.Sheets.{IsOnce, Sheet, sheet_of}
use Rattle.controller_core.specs.PlanText.Drafts.{push, sheet}
use Rattle.controller_core.proofs.PlanTextLemmas.Promised.{promises_from-push}

-- the same sheet with other promises
abbrev with : Sheet → List Promise → Sheet
with sheet promises = record sheet { promises = promises }

-- one entry more, in the line behind the others'
pub sheet_of-push : (entries : List Entry) (is : Entry) → sheet_of (entries ++ is ∷ []) ≡ push (2 + length entries) is (sheet_of entries)
sheet_of-push entries (Prefix x) = ap (with (sheet_of (entries ++ Prefix x ∷ []))) (promises_from-push 2 entries (Prefix x)) ∙ simp (filter_map-append, append-nil)
sheet_of-push entries (Code x) = ap (with (sheet_of (entries ++ Code x ∷ []))) (promises_from-push 2 entries (Code x)) ∙ simp (filter_map-append, append-nil)
sheet_of-push entries (Kt x) = ap (with (sheet_of (entries ++ Kt x ∷ []))) (promises_from-push 2 entries (Kt x)) ∙ simp (filter_map-append, append-nil)
sheet_of-push entries (Nt x) = ap (with (sheet_of (entries ++ Nt x ∷ []))) (promises_from-push 2 entries (Nt x)) ∙ simp (filter_map-append, append-nil)
sheet_of-push entries (Key x) = ap (with (sheet_of (entries ++ Key x ∷ []))) (promises_from-push 2 entries (Key x)) ∙ simp (filter_map-append, append-nil)
sheet_of-push entries (Next x) = ap (with (sheet_of (entries ++ Next x ∷ []))) (promises_from-push 2 entries (Next x)) ∙ simp (filter_map-append, append-nil)
sheet_of-push entries (Cut x) = ap (with (sheet_of (entries ++ Cut x ∷ []))) (promises_from-push 2 entries (Cut x)) ∙ simp (filter_map-append, append-nil)
sheet_of-push entries (Add x) = ap (with (sheet_of (entries ++ Add x ∷ []))) (promises_from-push 2 entries (Add x)) ∙ simp (filter_map-append, append-nil)
sheet_of-push entries (Bt x) = ap (with (sheet_of (entries ++ Bt x ∷ []))) (promises_from-push 2 entries (Bt x)) ∙ simp (filter_map-append, append-nil)
sheet_of-push entries (Trait x) = ap (with (sheet_of (entries ++ Trait x ∷ []))) (promises_from-push 2 entries (Trait x)) ∙ simp (filter_map-append, append-nil)
sheet_of-push entries (Seal x) = ap (with (sheet_of (entries ++ Seal x ∷ []))) (promises_from-push 2 entries (Seal x)) ∙ simp (filter_map-append, append-nil)
sheet_of-push entries (Di x) = ap (with (sheet_of (entries ++ Di x ∷ []))) (promises_from-push 2 entries (Di x)) ∙ simp (filter_map-append, append-nil)
sheet_of-push entries (Sign x) = ap (with (sheet_of (entries ++ Sign x ∷ []))) (promises_from-push 2 entries (Sign x)) ∙ simp (filter_map-append, append-nil)
sheet_of-push entries Reuse = ap (with (sheet_of (entries ++ Reuse ∷ []))) (promises_from-push 2 entries Reuse) ∙ simp (filter_map-append, append-nil)

fewer : {A : Type 0} (value : Entry → Option A) (a b : List Entry) → length (filter_map value (a ++ b)) ≤ 1 → length (filter_map value a) ≤ 1
fewer value a b few = omega (arith, simp (filter_map-append, length-append) at few)

-- the first of entries come as seldom as all
pub once_before : (a b : List Entry) → IsOnce (sheet_of (a ++ b)) → IsOnce (sheet_of a)
once_before a b once = record {
  prefix = fewer _ a b once.prefix;
  code = fewer _ a b once.code;
  kt = fewer _ a b once.kt;
  nt = fewer _ a b once.nt;
  toad = fewer _ a b once.toad;
  delegator = fewer _ a b once.delegator;
  reuse = fewer _ a b once.reuse;
}

one_at_most : {A : Type 0} (value : Option A) → length (option_to_list value) ≤ 1
one_at_most None = omega arith
one_at_most (Some value) = omega arith

-- a draft holds each of these once
pub once_in : (draft : Draft) → IsOnce (sheet draft)
once_in draft = record {
  prefix = one_at_most draft.prefix;
  code = one_at_most draft.code;
  kt = one_at_most draft.kt;
  nt = one_at_most draft.nt;
  toad = one_at_most draft.toad;
  delegator = one_at_most draft.delegator;
  reuse = one_at_most draft.reuse;
}
