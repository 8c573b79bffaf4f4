-- Places by keys and by signatures, and sets of keys, one more.
use Rattle.std.proofs.Common.{◌≡◌, ◌+◌, ℕ, Bool, true, false, ◌&&◌, ◌||◌, cond, List, [], ◌∷◌, ◌++◌, length, Option, Some, None, refl, sym, ◌∙◌, ap, inl, inr, rules, tests}
use Rattle.std.specs.Prelude.{position, if◌then◌else◌}
use Rattle.std.specs.BTreeMap.{is_at}
use Rattle.std.specs.BTreeSet.{BTreeSet, contains}
use Rattle.std.specs.List.{list_any}
use Rattle.std.proofs.lemmas.Bool.{cases_Bool}
use Rattle.std.proofs.lemmas.List.Folds.{list_any-append}
use Rattle.cesr_codes.specs.contracts.key.KeyOrd.TheImpl.Laws as key_laws
use Rattle.cesr_codes.specs.contracts.key.KeyPartialEq.TheImpl as key_test
use Rattle.cesr_codes.specs.contracts.sig.SigOrd.TheImpl.Laws as sig_laws
use Rattle.cesr_codes.specs.contracts.sig.SigPartialEq.TheImpl as sig_test
use Rattle.cesr_codes.specs.declared.key.Key.{Key}
use Rattle.cesr_codes.specs.declared.sig.Sig.{Sig}
use Rattle.key_state.specs.Same.{has_key, same_key, same_sig}
use Rattle.key_state.proofs.Same.{same_key_is, same_key_itself}
use Rattle.blame_core.specs.BlameCore.Culprits.{HasKeys}
use Rattle.blame_core.specs.BlameCore.FirstSignatures.{earlier, is_signed, key_cmp, sig_cmp}
use Rattle.blame_core.specs.declared.blame_core.signed.Signed.{Signed}
use Rattle.blame_core.proofs.BlameCoreLemmas.FirstPlaces.{position_either, position_never, position_push}

-- the orders find the same keys and signatures
keys_alike : (k l : Key) → (key_test.ghosts).eq k l ≡ same_key k l
keys_alike k l = search (rules, tests)

pub key_at : (k l : Key) → is_at (key_cmp k) l ≡ same_key k l
key_at k l = sym (key_laws.matches_eq-law k l) ∙ keys_alike k l

sigs_alike : (s t : Sig) → (sig_test.ghosts).eq s t ≡ same_sig s t
sigs_alike s t = search (rules, tests)

sig_at : (s t : Sig) → is_at (sig_cmp s) t ≡ same_sig s t
sig_at s t = sym (sig_laws.matches_eq-law s t) ∙ sigs_alike s t

key_turns : (k l : Key) → same_key k l ≡ same_key l k
key_turns k l = elim (cases_Bool (same_key k l)) [
  | inl h ↦ (let e = same_key_is k l h in ap (λ x. same_key x l) e ∙ ap (same_key l) (sym e))
  | inr h ↦ h ∙ sym (elim (cases_Bool (same_key l k)) as (λ _. same_key l k ≡ false) [
    | inl g ↦ (let e = same_key_is l k g in let yes : same_key k l ≡ true = ap (λ x. same_key x l) (sym e) ∙ same_key_itself l in absurd (cc (yes, h)))
    | inr g ↦ g
  ])
]

-- one more key of a set, whether it was there or not
pub set_more : (keys : List Key) (key : Key) (old new : BTreeSet Key) → HasKeys keys old
    → ((k : Key) → contains key_cmp new k ≡ cond (is_at (key_cmp key) k) true (contains key_cmp old k)) → HasKeys (keys ++ key ∷ []) new
set_more keys key old new was updates = λ k.
    updates k ∙ (λ i. cond (key_at key k i) true (was k i)) ∙ by (same_key key k) (has_key keys k) ∙ sym (list_any-append (λ l. same_key l k) keys (key ∷ []))
  where
    by : (here there : Bool) → cond here true there ≡ (there || (here || false))
    by true true = refl
    by true false = refl
    by false true = refl
    by false false = refl

-- one more signature that came
pub sig_more : (came : List Sig) (sig s : Sig) (old new : Option ℕ) (place : ℕ) → place ≡ length came
    → old ≡ position (λ t. same_sig t s) came → new ≡ earlier old (if is_at (sig_cmp sig) s then Some place else None)
    → new ≡ position (λ t. same_sig t s) (came ++ sig ∷ [])
sig_more came sig s old new place count was is =
    is ∙ (λ i. earlier (was i) (if sig_at sig s i then Some (count i) else None)) ∙ sym (position_push (λ t. same_sig t s) came sig)

-- one more good signature
pub key_more : (came : List Sig) (good : List Signed) (signed : Signed) (key : Key) (old new place : Option ℕ)
    → place ≡ position (λ t. same_sig t signed.sig) came → old ≡ position (λ sig. list_any (is_signed key sig) good) came
    → new ≡ earlier old (if is_at (key_cmp signed.key) key then place else None)
    → new ≡ position (λ sig. list_any (is_signed key sig) (good ++ signed ∷ [])) came
key_more came good signed key old new place at was is =
    is ∙ (λ i. earlier (was i) (if (key_at signed.key key ∙ key_turns signed.key key) i then at i else None))
    ∙ ap (earlier (position (λ sig. list_any (is_signed key sig) good) came)) (own (same_key key signed.key))
    ∙ sym (position_either (λ sig. list_any (is_signed key sig) good) (λ sig. is_signed key sig signed || false) came)
    ∙ (λ i. position (λ sig. sym (list_any-append (is_signed key sig) good (signed ∷ [])) i) came)
  where
    own : (b : Bool) → (if b then position (λ t. same_sig t signed.sig) came else None) ≡ position (λ sig. (b && same_sig sig signed.sig) || false) came
    own true = λ i. position (λ sig. sym (or_nothing (same_sig sig signed.sig)) i) came
      where
        or_nothing : (b : Bool) → (b || false) ≡ b
        or_nothing true = refl
        or_nothing false = refl
    own false = sym (position_never came)
