-- What readers are given.
use Rattle.std.proofs.Common.{◌≡◌, ℕ, ◌+◌, ◌<◌, suc, length, map, take, get_or, Bool, true, false, ◌||◌, List, [], ◌∷◌, ◌++◌, Option, Some, None, refl, sym, ◌∙◌, ap, subst, append_assoc, arith}
use Rattle.std.specs.Prelude.{IfSome, is_none, option_map}
use Rattle.std.proofs.Math.Seq.{take-suc}
use Rattle.std.proofs.lemmas.List.{map-append}
use Rattle.std.proofs.lemmas.List.Folds.{list_any-append}
use Rattle.lists.specs.KeriSpecs.Causes.{Rose}
use Rattle.lists.specs.KeriSpecs.Shown.{HasNone}
use Rattle.cesr_codes.specs.declared.key.Key.{Key}
use Rattle.cesr_codes.specs.declared.sig.Sig.{Sig}
use Rattle.keri_outside.specs.declared.inquiry.Inquiry.{Inquiry}
use Rattle.run_status.specs.RunOutside.Makings.{AreMakings, Noted, some_failed}
use Rattle.run_status.specs.RunOutside.Shown.{OutsideShown, making}
use Rattle.run_status.specs.declared.run_outside.making.Making.{Making}
use Rattle.run_status.specs.declared.run_outside.making.MakingKind.TheVariants.{Source as SourceKind, Verifier as VerifierKind}
use Rattle.run_status.specs.RunStatus.Readers.{source_seen, verifier_seen}
use Rattle.reader_hub.specs.ReaderThreads.Given.{Given, given_by}
use Rattle.reader_hub.specs.declared.reader_threads.providers.Providers.{Providers}
use Rattle.keri_roles.specs.CoreRoles.CoreTold.{AreGiven, AreProvided, IsGiven, SameNames, makings_of}

-- makings behind others
noted_on : (old mid new : Option (List Making)) (a b : List Making) → Noted old mid a → Noted mid new b → Noted old new (a ++ b)
noted_on old mid None a b x y = tt
noted_on old None (Some new) a b x y = let clash = y.1 in cc
noted_on old (Some mid) (Some new) a b x y =
    let same : mid ≡ y.0 = cc in
    (x.0, x.1, y.2 ∙ (ap (λ l. l ++ b) (sym same ∙ x.2) ∙ append_assoc x.0 a b))

rose_on : (p q : Bool) (o m n : ℕ) → (p ≡ true → Rose o m) → (p ≡ false → m ≡ o) → (q ≡ true → Rose m n) → (q ≡ false → n ≡ m)
    → (p || q) ≡ true → Rose o n
rose_on true true o m n a b c d e = let first = a refl in let second = c refl in omega (arith, first, second)
rose_on true false o m n a b c d e = let first = a refl in let same = d refl in omega (arith, first, same)
rose_on false true o m n a b c d e = let same = b refl in let second = c refl in omega (arith, same, second)
rose_on false false o m n a b c d e = cc

kept_on : (p q : Bool) (o m n : ℕ) → (p ≡ false → m ≡ o) → (q ≡ false → n ≡ m) → (p || q) ≡ false → n ≡ o
kept_on true q o m n b d e = cc
kept_on false true o m n b d e = cc
kept_on false false o m n b d e = d refl ∙ b refl

pub makings_on : (a b : List Making) (old mid new : OutsideShown) → AreMakings a old mid → AreMakings b mid new → AreMakings (a ++ b) old new
makings_on a b old mid new x y =
    let both = list_any-append (λ m. m.failed) a b in
    record {
      noted = noted_on old.makings mid.makings new.makings a b x.noted y.noted;
      rose = λ e. rose_on (some_failed a) (some_failed b) old.faults mid.faults new.faults x.rose x.kept y.rose y.kept (sym both ∙ e);
      kept = λ e. kept_on (some_failed a) (some_failed b) old.faults mid.faults new.faults x.kept y.kept (sym both ∙ e);
    }

module _ (before : OutsideShown) (helper : List ℕ) (name : List ℕ) (g : Given) where
  given_push : (names : List (List ℕ)) (given : List Given) → AreGiven before helper names given → IsGiven before helper name g
      → AreGiven before helper (names ++ name ∷ []) (given ++ g ∷ [])
  given_push [] [] are is = (is, tt)
  given_push [] (h ∷ given) are is = absurd are
  given_push (n ∷ names) [] are is = absurd are
  given_push (n ∷ names) (h ∷ given) are is = (are.0, given_push names given are.1 is)

  makings_push : (names : List (List ℕ)) (given : List Given) → AreGiven before helper names given
      → makings_of helper (names ++ name ∷ []) (given ++ g ∷ [])
      ≡ makings_of helper names given ++ (making SourceKind name (is_none g.source) ∷ making VerifierKind helper (is_none g.verifier) ∷ [])
  makings_push [] [] are = refl
  makings_push [] (h ∷ given) are = absurd are
  makings_push (n ∷ names) [] are = absurd are
  makings_push (n ∷ names) (h ∷ given) are =
      ap (λ l. making SourceKind n (is_none h.source) ∷ making VerifierKind helper (is_none h.verifier) ∷ l) (makings_push names given are.1)

-- one reader more is given what was made for it
pub provided_more : (before mid after : OutsideShown) (helper : List ℕ) (names : List (List ℕ)) (given : List Given) (name : List ℕ) (g : Given)
    → AreProvided helper names given before mid → SameNames before mid → IsGiven mid helper name g
    → AreMakings (making SourceKind name (is_none g.source) ∷ making VerifierKind helper (is_none g.verifier) ∷ []) mid after
    → AreProvided helper (names ++ name ∷ []) (given ++ g ∷ []) before after
provided_more before mid after helper names given name g so_far same is makes =
    let here : IsGiven before helper name g = record {
      source = subst (λ h. IfSome g.source (λ s. (s.left ≡ h name) × (s.faults ≡ 0))) same.holds is.source;
      verifier = subst (λ h. IfSome g.verifier (λ v. (v.says ≡ h helper) × HasNone v.inquiries × (v.faults ≡ 0))) same.says is.verifier;
    } in
    record {
      are_given = given_push before helper name g names given so_far.are_given here;
      makes = subst (λ l. AreMakings l before after) (sym (makings_push before helper name g names given so_far.are_given))
          (makings_on (makings_of helper names given) _ before mid after so_far.makes makes);
    }

-- what is unchanged from one moment to another, and on to a third
pub same_on : (before mid after : OutsideShown) → SameNames before mid → SameNames mid after → SameNames before after
same_on before mid after x y = record { holds = y.holds ∙ x.holds; says = y.says ∙ x.says }

-- a loop over names: one more
pub provided_at : {X : Type 0} (text : X → List ℕ) (names : List X) (i : ℕ) (d : X) (before mid after : OutsideShown) (helper : List ℕ) (given : List Given) (g : Given) → i < length names
    → AreProvided helper (map text (take i names)) given before mid → SameNames before mid → IsGiven mid helper (text (get_or names i d)) g
    → AreMakings (making SourceKind (text (get_or names i d)) (is_none g.source) ∷ making VerifierKind helper (is_none g.verifier) ∷ []) mid after
    → AreProvided helper (map text (take (i + 1) names)) (given ++ g ∷ []) before after
provided_at text names i d before mid after helper given g low so_far same is makes =
    let one : i + 1 ≡ suc i = omega arith in
    let more : map text (take (suc i) names) ≡ map text (take i names) ++ text (get_or names i d) ∷ [] = ap (map text) (take-suc names i d low) ∙ map-append text (take i names) (get_or names i d ∷ []) in
    subst (λ l. AreProvided helper l (given ++ g ∷ []) before after) (sym (ap (λ n. map text (take n names)) one ∙ more)) (provided_more before mid after helper (map text (take i names)) given _ g so_far same is makes)

module _ {S V : Type 0} (left : S → Option (List ℕ)) (faults : S → ℕ) (says : V → Key → List ℕ → Sig → Option Bool) (inquiries : V → Option (List Inquiry)) (verifier_faults : V → ℕ) where
  source_given : (held : Option (List ℕ)) (source : Option S) → IfSome source (λ s. left s ≡ held) → IfSome source (λ s. faults s ≡ 0)
      → IfSome (option_map (source_seen left faults says inquiries verifier_faults) source) (λ s. (s.left ≡ held) × (s.faults ≡ 0))
  source_given held None holds none = tt
  source_given held (Some s) holds none = (holds, none)

  pub verifier_given : (said : Key → List ℕ → Sig → Option Bool) (verifier : Option V) → IfSome verifier (λ v. says v ≡ said)
      → IfSome verifier (λ v. HasNone (inquiries v)) → IfSome verifier (λ v. verifier_faults v ≡ 0)
      → IfSome (option_map (verifier_seen left faults says inquiries verifier_faults) verifier) (λ v. (v.says ≡ said) × HasNone v.inquiries × (v.faults ≡ 0))
  verifier_given said None so unasked none = tt
  verifier_given said (Some v) so unasked none = (so, unasked, none)

  -- what was made is given
  pub is_given : (shown : OutsideShown) (helper name : List ℕ) (made : Providers S V) → IfSome made.source (λ s. left s ≡ shown.holds name) → IfSome made.source (λ s. faults s ≡ 0)
      → IfSome made.verifier (λ v. says v ≡ shown.says helper) → IfSome made.verifier (λ v. HasNone (inquiries v)) → IfSome made.verifier (λ v. verifier_faults v ≡ 0)
      → IsGiven shown helper name (given_by left faults says inquiries verifier_faults made)
  is_given shown helper name made holds unread so unasked unfailed = record {
    source = source_given (shown.holds name) made.source holds unread;
    verifier = verifier_given (shown.says helper) made.verifier so unasked unfailed;
  }
