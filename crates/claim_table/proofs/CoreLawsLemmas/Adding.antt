-- What an entry adds to the support of a body, and what an accepted event leaves of it.
use Rattle.std.proofs.Common.{◌≡◌, ℕ, Bool, true, false, ◌&&◌, ◌||◌, ◌==◌, List, [], ◌∷◌, ◌++◌, slice_get, Option, Some, None, refl, sym, ◌∙◌, ap, inl, inr, append-nil}
use Rattle.std.specs.Prelude.{flat_map, bytes_eq}
use Rattle.std.specs.List.{list_any}
use Rattle.std.specs.Cmp.Lexicographic.{bytes_decides}
use Rattle.std.proofs.lemmas.Bool.{cases_Bool}
use Rattle.std.proofs.lemmas.List.Folds.{list_any-append}
use Rattle.std.proofs.Math.Bool.{or-false}
use Rattle.cesr_codes.specs.declared.indexed_sig.IndexedSig.{IndexedSig}
use Rattle.cesr_codes.specs.declared.key.Key.{Key}
use Rattle.cesr_codes.specs.declared.sig.Sig.{Sig}
use Rattle.event_body.specs.declared.event_body.event.Event.{Event}
use Rattle.event_body.specs.declared.event_body.event.Event.TheVariants.{Icp, Rot, Ixn, Dip, Drt, Rct}
use Rattle.event_body.specs.EventBody.Events.{is_inception}
use Rattle.key_state.specs.Exposure.{Rules, own_rules}
use Rattle.key_state.specs.Same.{same_key, same_sig}
use Rattle.key_state.specs.States.{State}
use Rattle.journal.specs.declared.journal.body.Body.{Body}
use Rattle.journal.specs.declared.journal.claim.Claim.{Claim}
use Rattle.journal.specs.declared.journal.claim.Claim.TheVariants.{Controller, Witness, Couple}
use Rattle.journal.specs.Journal.Logs.{same_body}
use Rattle.journal.specs.Journal.History.{Told, took, heard, same_triple, claimed_key, claims_in, claims_on, said_yes, yes_in}
use Rattle.journal.specs.Journal.Readiness.{backs}
use Rattle.journal.proofs.JournalLemmas.Locality.{flat_map-push, bytes_differ}
use Rattle.journal.specs.EventRules.Claims.{is_good, is_held_so, is_yes}
use Rattle.claim_table.specs.CoreLaws.Alike.{AreAlike}
use Rattle.claim_table.proofs.CoreLawsLemmas.Alike.{own_rules-alike}
use Rattle.claim_table.proofs.CoreLawsLemmas.Predecessors.{state_before-kept}
use Rattle.journal.specs.EventRules.Claims.{is_so}
use Rattle.journal.specs.EventRules.Parts.{Part, index, reveal, backer, says_of, opens_at, parts_in, supports}
use Rattle.claim_table.specs.CoreLaws.Support.{parts_of_yes, ClaimsLaw, VerdictLaw, KeptLaw, InceptionLaw, AlikeLaw}

-- more claims
claims-push : (told : List Told) (t : Told) (b : Body) → claims_on (told ++ t ∷ []) b ≡ claims_on told b ++ claims_in b t
unfolding claims_on
claims-push told t b = flat_map-push (claims_in b) told t

-- a body that comes says nothing of signatures
says-took : (told : List Told) (b : Body) (reader : ℕ) (c : Body) (claims : List Claim) → says_of (told ++ took reader c claims ∷ []) b ≡ says_of told b
unfolding said_yes
says-took told b reader c claims = λ i key sig.
    ap (list_any (same_triple (record { body = b.bytes; key = key; sig = sig }))) (flat_map-push yes_in told (took reader c claims) ∙ append-nil (flat_map yes_in told)) i

backs-took : (told : List Told) (b : Body) (reader : ℕ) (c : Body) (claims : List Claim) → backs (told ++ took reader c claims ∷ []) b ≡ backs told b
unfolding backs
backs-took told b reader c claims = λ i key.
    ap (list_any (λ t. bytes_eq t.body b.bytes && same_key t.key key)) (flat_map-push yes_in told (took reader c claims) ∙ append-nil (flat_map yes_in told)) i

-- CLAIMS
pub claims_add : ClaimsLaw
unfolding supports
claims_add told s b reader c claims (index n) =
    let t = took reader c claims in
    ap (λ says. parts_in says s b.event (claims_on (told ++ t ∷ []) b) (index n)) (says-took told b reader c claims)
    ∙ ap (λ cs. parts_in (says_of told b) s b.event cs (index n)) (claims-push told t b)
    ∙ list_any-append (is_held_so (says_of told b) (own_rules s b.event) (λ g. g.index == n)) (claims_on told b) (claims_in b t)
claims_add told s b reader c claims (reveal n) =
    let t = took reader c claims in
    ap (λ says. parts_in says s b.event (claims_on (told ++ t ∷ []) b) (reveal n)) (says-took told b reader c claims)
    ∙ ap (λ cs. parts_in (says_of told b) s b.event cs (reveal n)) (claims-push told t b)
    ∙ list_any-append (is_held_so (says_of told b) (own_rules s b.event) (opens_at s b.event n)) (claims_on told b) (claims_in b t)
claims_add told s b reader c claims (backer n) =
    ap (λ test. is_so test (slice_get (own_rules s b.event).witnesses n)) (backs-took told b reader c claims) ∙ sym (or-false _)

-- either of two says yes
either : (p q : Key → Sig → Bool) → Key → Sig → Bool
either p q key sig = p key sig || q key sig

yes_either : (p q : Key → Sig → Bool) (o : Option Key) (sig : Sig) → is_yes (λ k g. p k g || q k g) o sig ≡ (is_yes p o sig || is_yes q o sig)
yes_either p q None sig = refl
yes_either p q (Some key) sig = refl

and_or : (a b c : Bool) → ((a || b) && c) ≡ ((a && c) || (b && c))
and_or true b true = refl
and_or true true false = refl
and_or true false false = refl
and_or false b c = refl

held_either : (p q : Key → Sig → Bool) (rules : Rules) (test : IndexedSig → Bool) (c : Claim)
    → is_held_so (λ k g. p k g || q k g) rules test c ≡ (is_held_so p rules test c || is_held_so q rules test c)
held_either p q rules test (Controller g) =
    ap (λ y. y && test g) (yes_either p q (claimed_key rules (Controller g)) g.sig) ∙ and_or (is_good p rules (Controller g)) (is_good q rules (Controller g)) (test g)
held_either p q rules test (Witness g) = refl
held_either p q rules test (Couple key sig) = refl

or_four : (a b c d : Bool) → ((a || b) || (c || d)) ≡ ((a || c) || (b || d))
or_four true b true d = refl
or_four true b false d = refl
or_four false true true d = refl
or_four false true false true = refl
or_four false true false false = refl
or_four false false c d = refl

any_either : {X : Type 0} (p q : X → Bool) (xs : List X) → list_any (λ x. p x || q x) xs ≡ (list_any p xs || list_any q xs)
any_either p q [] = refl
any_either p q (x ∷ xs) = ap (λ y. (p x || q x) || y) (any_either p q xs) ∙ or_four (p x) (q x) (list_any p xs) (list_any q xs)

claims_either : (p q : Key → Sig → Bool) (rules : Rules) (test : IndexedSig → Bool) (cs : List Claim)
    → list_any (is_held_so (λ k g. p k g || q k g) rules test) cs ≡ (list_any (is_held_so p rules test) cs || list_any (is_held_so q rules test) cs)
claims_either p q rules test cs = ap (λ f. list_any f cs) (λ i c. held_either p q rules test c i) ∙ any_either (is_held_so p rules test) (is_held_so q rules test) cs

-- what a verdict says
claims-heard : (told : List Told) (b : Body) (reader : ℕ) (c : Body) (key : Key) (sig : Sig) (verdict : Bool) → claims_on (told ++ heard reader c key sig verdict ∷ []) b ≡ claims_on told b
claims-heard told b reader c key sig verdict = claims-push told (heard reader c key sig verdict) b ∙ append-nil (claims_on told b)

module _ (told : List Told) (b : Body) (reader : ℕ) (c : Body) (key : Key) (sig : Sig) where
  -- a no, or a verdict on another body, says nothing
  says_no : (verdict : Bool) → (verdict && same_body c b) ≡ false → (k : Key) (g : Sig) → says_of (told ++ heard reader c key sig verdict ∷ []) b k g ≡ says_of told b k g
  unfolding said_yes
  says_no false h k g = ap (list_any (same_triple (record { body = b.bytes; key = k; sig = g }))) (flat_map-push yes_in told (heard reader c key sig false) ∙ append-nil (flat_map yes_in told))
  says_no true h k g =
      let other = bytes_differ c.bytes b.bytes h in
      ap (list_any (same_triple (record { body = b.bytes; key = k; sig = g }))) (flat_map-push yes_in told (heard reader c key sig true))
      ∙ list_any-append (same_triple (record { body = b.bytes; key = k; sig = g })) (flat_map yes_in told) (record { body = c.bytes; key = key; sig = sig } ∷ [])
      ∙ rw other (or-false _)

  backs_no : (verdict : Bool) → (verdict && same_body c b) ≡ false → (k : Key) → backs (told ++ heard reader c key sig verdict ∷ []) b k ≡ backs told b k
  unfolding backs
  backs_no false h k = ap (list_any (λ t. bytes_eq t.body b.bytes && same_key t.key k)) (flat_map-push yes_in told (heard reader c key sig false) ∙ append-nil (flat_map yes_in told))
  backs_no true h k =
      ap (list_any (λ t. bytes_eq t.body b.bytes && same_key t.key k)) (flat_map-push yes_in told (heard reader c key sig true))
      ∙ list_any-append (λ t. bytes_eq t.body b.bytes && same_key t.key k) (flat_map yes_in told) (record { body = c.bytes; key = key; sig = sig } ∷ [])
      ∙ rw h (or-false _)

  -- a yes on the body says yes of this key's signature
  says_yes : same_body c b ≡ true → (k : Key) (g : Sig) → says_of (told ++ heard reader c key sig true ∷ []) b k g ≡ (says_of told b k g || (same_key k key && same_sig g sig))
  unfolding said_yes
  says_yes h k g =
      let same = (bytes_decides b.bytes c.bytes).1 (sym ((bytes_decides c.bytes b.bytes).0 h)) in
      ap (list_any (same_triple (record { body = b.bytes; key = k; sig = g }))) (flat_map-push yes_in told (heard reader c key sig true))
      ∙ list_any-append (same_triple (record { body = b.bytes; key = k; sig = g })) (flat_map yes_in told) (record { body = c.bytes; key = key; sig = sig } ∷ [])
      ∙ ap (λ y. list_any (same_triple (record { body = b.bytes; key = k; sig = g })) (flat_map yes_in told) || y) (rw same (or-false _))

  backs_yes : same_body c b ≡ true → (k : Key) → backs (told ++ heard reader c key sig true ∷ []) b k ≡ (backs told b k || same_key key k)
  unfolding backs
  backs_yes h k =
      ap (list_any (λ t. bytes_eq t.body b.bytes && same_key t.key k)) (flat_map-push yes_in told (heard reader c key sig true))
      ∙ list_any-append (λ t. bytes_eq t.body b.bytes && same_key t.key k) (flat_map yes_in told) (record { body = c.bytes; key = key; sig = sig } ∷ [])
      ∙ ap (λ y. list_any (λ t. bytes_eq t.body b.bytes && same_key t.key k) (flat_map yes_in told) || y) (rw h (or-false _))

so_either : (p q : Key → Bool) (o : Option Key) → is_so (λ k. p k || q k) o ≡ (is_so p o || is_so q o)
so_either p q None = refl
so_either p q (Some k) = refl

module _ (told : List Told) (s : Option State) (b : Body) (reader : ℕ) (c : Body) (key : Key) (sig : Sig) where
  adds_none : (verdict : Bool) → (verdict && same_body c b) ≡ false → (p : Part) → supports (told ++ heard reader c key sig verdict ∷ []) s b p ≡ supports told s b p
  unfolding supports
  adds_none verdict h (index n) =
      ap (λ says. parts_in says s b.event (claims_on (told ++ heard reader c key sig verdict ∷ []) b) (index n)) (λ i k g. says_no told b reader c key sig verdict h k g i)
      ∙ ap (λ cs. parts_in (says_of told b) s b.event cs (index n)) (claims-heard told b reader c key sig verdict)
  adds_none verdict h (reveal n) =
      ap (λ says. parts_in says s b.event (claims_on (told ++ heard reader c key sig verdict ∷ []) b) (reveal n)) (λ i k g. says_no told b reader c key sig verdict h k g i)
      ∙ ap (λ cs. parts_in (says_of told b) s b.event cs (reveal n)) (claims-heard told b reader c key sig verdict)
  adds_none verdict h (backer n) = ap (λ test. is_so test (slice_get (own_rules s b.event).witnesses n)) (λ i k. backs_no told b reader c key sig verdict h k i)

  adds_yes : same_body c b ≡ true → (p : Part) → supports (told ++ heard reader c key sig true ∷ []) s b p ≡ (supports told s b p || parts_of_yes told s b key sig p)
  unfolding supports
  adds_yes h (index n) =
      ap (λ says. parts_in says s b.event (claims_on (told ++ heard reader c key sig true ∷ []) b) (index n)) (λ i k g. says_yes told b reader c key sig h k g i)
      ∙ ap (λ cs. parts_in (λ k g. says_of told b k g || (same_key k key && same_sig g sig)) s b.event cs (index n)) (claims-heard told b reader c key sig true)
      ∙ claims_either (says_of told b) (λ k g. same_key k key && same_sig g sig) (own_rules s b.event) (λ g. g.index == n) (claims_on told b)
  adds_yes h (reveal n) =
      ap (λ says. parts_in says s b.event (claims_on (told ++ heard reader c key sig true ∷ []) b) (reveal n)) (λ i k g. says_yes told b reader c key sig h k g i)
      ∙ ap (λ cs. parts_in (λ k g. says_of told b k g || (same_key k key && same_sig g sig)) s b.event cs (reveal n)) (claims-heard told b reader c key sig true)
      ∙ claims_either (says_of told b) (λ k g. same_key k key && same_sig g sig) (own_rules s b.event) (opens_at s b.event n) (claims_on told b)
  adds_yes h (backer n) = ap (λ test. is_so test (slice_get (own_rules s b.event).witnesses n)) (λ i k. backs_yes told b reader c key sig h k i)
      ∙ so_either (backs told b) (same_key key) (slice_get (own_rules s b.event).witnesses n)

  by_verdict : (verdict : Bool) (p : Part) → supports (told ++ heard reader c key sig verdict ∷ []) s b p ≡ (supports told s b p || (verdict && same_body c b && parts_of_yes told s b key sig p))
  by_verdict false p = adds_none false refl p ∙ sym (or-false _)
  by_verdict true p = elim (cases_Bool (same_body c b)) [
    | inl k ↦ adds_yes k p ∙ rw k refl
    | inr k ↦ adds_none true k p ∙ rw k (sym (or-false _))
  ]

-- VERDICT
pub verdict_adds : VerdictLaw
verdict_adds told s b reader c key sig verdict p = by_verdict told s b reader c key sig verdict p

-- ACCEPTED
pub kept : KeptLaw
kept told log c b x p e = ap (λ s. supports told s b p) (state_before-kept log c b x e)

-- INCEPTION: its parts are the same behind any state
same_parts : (told : List Told) (s t : Option State) (b : Body) → own_rules s b.event ≡ own_rules t b.event
    → ((n : ℕ) → opens_at s b.event n ≡ opens_at t b.event n) → (p : Part) → supports told s b p ≡ supports told t b p
unfolding supports
same_parts told s t b rules opened (index n) = ap (λ rules. list_any (is_held_so (says_of told b) rules (λ g. g.index == n)) (claims_on told b)) rules
same_parts told s t b rules opened (reveal n) =
    ap (λ rules. list_any (is_held_so (says_of told b) rules (opens_at s b.event n)) (claims_on told b)) rules
    ∙ ap (λ test. list_any (is_held_so (says_of told b) (own_rules t b.event) test) (claims_on told b)) (opened n)
same_parts told s t b rules opened (backer n) = ap (λ rules. is_so (backs told b) (slice_get rules.witnesses n)) rules

opens_nothing : (s : Option State) (e : Event) (n : ℕ) → is_inception e ≡ true → opens_at s e n ≡ (λ g. false)
opens_nothing None e n h = refl
opens_nothing (Some s) (Icp e) n h = refl
opens_nothing (Some s) (Dip e) n h = refl
opens_nothing (Some s) (Rot e) n h = cc
opens_nothing (Some s) (Ixn e) n h = cc
opens_nothing (Some s) (Drt e) n h = cc
opens_nothing (Some s) (Rct e) n h = cc

own_inception : (s t : Option State) (e : Event) → is_inception e ≡ true → own_rules s e ≡ own_rules t e
own_inception s t (Icp e) h = refl
own_inception s t (Dip e) h = refl
own_inception s t (Rot e) h = cc
own_inception s t (Ixn e) h = cc
own_inception s t (Drt e) h = cc
own_inception s t (Rct e) h = cc

pub inception_same : InceptionLaw
inception_same told s t b p h = same_parts told s t b (own_inception s t b.event h) (λ n. opens_nothing s b.event n h ∙ sym (opens_nothing t b.event n h)) p

-- ALIKE
pub opens-alike : (s t : State) → AreAlike s t → (e : Event) (n : ℕ) → opens_at (Some s) e n ≡ opens_at (Some t) e n
opens-alike s t alike e n = same e ∙ ap (λ t. opens_at (Some t) e n) alike
  where
    same : (e : Event) → opens_at (Some s) e n ≡ opens_at (Some (record s { est_sn = t.est_sn; since = t.since })) e n
    same (Icp e) = refl
    same (Rot e) = refl
    same (Ixn e) = refl
    same (Dip e) = refl
    same (Drt e) = refl
    same (Rct e) = refl

pub alike_same : AlikeLaw
alike_same told s t b p alike = same_parts told (Some s) (Some t) b (own_rules-alike s t alike b.event) (opens-alike s t alike b.event) p
