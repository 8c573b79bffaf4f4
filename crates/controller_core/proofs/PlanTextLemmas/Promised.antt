-- The promises of entries, one after the other.
use Rattle.std.proofs.Common.{◌≡◌, ℕ, ◌+◌, Bool, cond, not, List, [], ◌∷◌, ◌++◌, length, Option, Some, None, refl, sym, ap, ◌∙◌, arith}
use Rattle.std.specs.Prelude.{⊤, is_some, option_map}
use Rattle.std.specs.List.{before_first, cons_option, enumerate_from, filter_map}
use Rattle.std.proofs.lemmas.List.Sums.{take_while-cons}
use Rattle.cesr_codes.specs.declared.digest.Digest.{Digest}
use Rattle.controller_core.specs.declared.plan_text.entry.Entry.{Entry}
use Rattle.controller_core.specs.declared.plan_text.entry.Entry.TheVariants.{Prefix, Code, Kt, Nt, Key, Next, Cut, Add, Bt, Trait, Seal, Di, Sign, Reuse}
use Rattle.controller_core.specs.declared.plan_text.promise.Promise.{Promise}
use Rattle.controller_core.specs.PlanText.Drafts.{kept}
use Rattle.controller_core.specs.PlanText.Sheets.{next_in, promise_in, promises_from, reuse_in}

-- what is kept of a line that promises a digest, or none
abbrev pub kept_of : List ⊤ → ℕ → Option Digest → List Promise
kept_of reuses number None = []
kept_of reuses number (Some digest) = kept reuses number digest

none_kept : (first : ⊤) (others : List ⊤) (number : ℕ) (digest : Option Digest) → kept_of (first ∷ others) number digest ≡ []
none_kept first others number None = refl
none_kept first others number (Some digest) = refl

abbrev allows : Entry → Bool
allows is = is_some (reuse_in is)

-- the first entry, and those behind it
first : (number : ℕ) (x : Entry) (entries : List Entry)
    → promises_from number (x ∷ entries) ≡ filter_map promise_in (enumerate_from number (cond (not (allows x)) (x ∷ before_first allows entries) []))
first number x entries = ap (λ es. filter_map promise_in (enumerate_from number es)) (take_while-cons (λ is. not (allows is)) x entries)

-- a line that promises nothing and allows nothing
skipped : (number : ℕ) (x : Entry) (entries : List Entry) → reuse_in x ≡ None → next_in x ≡ None → promises_from number (x ∷ entries) ≡ promises_from (number + 1) entries
skipped number x entries plain none =
    first number x entries
    ∙ (λ i. filter_map promise_in (enumerate_from number (cond (not (is_some (plain i))) (x ∷ before_first allows entries) [])))
    ∙ (λ i. cons_option (option_map (λ digest. record { line = number; digest = digest }) (none i)) (promises_from (number + 1) entries))

-- one entry more behind such a line
behind : (number : ℕ) (x : Entry) (entries : List Entry) (is : Entry) → reuse_in x ≡ None → next_in x ≡ None
    → promises_from (number + 1) (entries ++ is ∷ []) ≡ promises_from (number + 1) entries ++ kept_of (filter_map reuse_in entries) (number + 1 + length entries) (next_in is)
    → promises_from number ((x ∷ entries) ++ is ∷ []) ≡ promises_from number (x ∷ entries) ++ kept_of (filter_map reuse_in (x ∷ entries)) (number + length (x ∷ entries)) (next_in is)
behind number x entries is plain none more =
    let back = sym (skipped number x entries plain none) in
    let some = sym plain in
    let counted : number + 1 + length entries ≡ number + length (x ∷ entries) = omega arith in
    skipped number x (entries ++ is ∷ []) plain none ∙ more
    ∙ (λ i. back i ++ kept_of (cons_option (some i) (filter_map reuse_in entries)) (counted i) (next_in is))

-- one entry more
pub promises_from-push : (number : ℕ) (entries : List Entry) (is : Entry)
    → promises_from number (entries ++ is ∷ []) ≡ promises_from number entries ++ kept_of (filter_map reuse_in entries) (number + length entries) (next_in is)
promises_from-push number [] (Prefix x) = skipped number (Prefix x) [] refl refl
promises_from-push number [] (Code x) = skipped number (Code x) [] refl refl
promises_from-push number [] (Kt x) = skipped number (Kt x) [] refl refl
promises_from-push number [] (Nt x) = skipped number (Nt x) [] refl refl
promises_from-push number [] (Key x) = skipped number (Key x) [] refl refl
promises_from-push number [] (Next x) = let same : number ≡ number + 0 = omega arith in first number (Next x) [] ∙ ap (λ n. kept [] n x) same
promises_from-push number [] (Cut x) = skipped number (Cut x) [] refl refl
promises_from-push number [] (Add x) = skipped number (Add x) [] refl refl
promises_from-push number [] (Bt x) = skipped number (Bt x) [] refl refl
promises_from-push number [] (Trait x) = skipped number (Trait x) [] refl refl
promises_from-push number [] (Seal x) = skipped number (Seal x) [] refl refl
promises_from-push number [] (Di x) = skipped number (Di x) [] refl refl
promises_from-push number [] (Sign x) = skipped number (Sign x) [] refl refl
promises_from-push number [] Reuse = first number Reuse []
promises_from-push number (Prefix x ∷ entries) is = behind number (Prefix x) entries is refl refl (promises_from-push (number + 1) entries is)
promises_from-push number (Code x ∷ entries) is = behind number (Code x) entries is refl refl (promises_from-push (number + 1) entries is)
promises_from-push number (Kt x ∷ entries) is = behind number (Kt x) entries is refl refl (promises_from-push (number + 1) entries is)
promises_from-push number (Nt x ∷ entries) is = behind number (Nt x) entries is refl refl (promises_from-push (number + 1) entries is)
promises_from-push number (Key x ∷ entries) is = behind number (Key x) entries is refl refl (promises_from-push (number + 1) entries is)
promises_from-push number (Next x ∷ entries) is =
    let back = sym (first number (Next x) entries) in
    let counted : number + 1 + length entries ≡ number + length (Next x ∷ entries) = omega arith in
    first number (Next x) (entries ++ is ∷ [])
    ∙ ap (λ ps. record { line = number; digest = x } ∷ ps) (promises_from-push (number + 1) entries is)
    ∙ (λ i. back i ++ kept_of (filter_map reuse_in entries) (counted i) (next_in is))
promises_from-push number (Cut x ∷ entries) is = behind number (Cut x) entries is refl refl (promises_from-push (number + 1) entries is)
promises_from-push number (Add x ∷ entries) is = behind number (Add x) entries is refl refl (promises_from-push (number + 1) entries is)
promises_from-push number (Bt x ∷ entries) is = behind number (Bt x) entries is refl refl (promises_from-push (number + 1) entries is)
promises_from-push number (Trait x ∷ entries) is = behind number (Trait x) entries is refl refl (promises_from-push (number + 1) entries is)
promises_from-push number (Seal x ∷ entries) is = behind number (Seal x) entries is refl refl (promises_from-push (number + 1) entries is)
promises_from-push number (Di x ∷ entries) is = behind number (Di x) entries is refl refl (promises_from-push (number + 1) entries is)
promises_from-push number (Sign x ∷ entries) is = behind number (Sign x) entries is refl refl (promises_from-push (number + 1) entries is)
promises_from-push number (Reuse ∷ entries) is =
    let back = sym (first number Reuse entries) in
    let none = sym (none_kept tt (filter_map reuse_in entries) (number + length (Reuse ∷ entries)) (next_in is)) in
    first number Reuse (entries ++ is ∷ []) ∙ (λ i. back i ++ none i)
