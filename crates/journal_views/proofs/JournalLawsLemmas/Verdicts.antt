-- Verdicts of regular journals: each was asked for, and where no question is open each triple that is raised has one.
use Rattle.std.proofs.Common.{◌≡◌, ℕ, true, false, not, ◌&&◌, ◌⊎◌, List, [], ◌∷◌, ◌++◌, Option, Some, None, IsTrue, refl, sym, ◌∙◌, ap, subst, inl, inr}
use Rattle.std.specs.Prelude.{flat_map, bytes_eq}
use Rattle.std.specs.List.{list_any}
use Rattle.std.specs.Cmp.Lexicographic.{bytes_decides}
use Rattle.std.proofs.lemmas.Bool.{cases_Bool, and_parts, and_from}
use Rattle.cesr_codes.specs.declared.key.Key.{Key}
use Rattle.cesr_codes.specs.declared.sig.Sig.{Sig}
use Rattle.key_state.specs.Exposure.{Rules, own_rules}
use Rattle.key_state.specs.Same.{same_key}
use Rattle.key_state.proofs.Same.{same_key_is, same_key_itself}
use Rattle.journal.specs.declared.journal.body.Body.{Body}
use Rattle.journal.specs.declared.journal.claim.Claim.{Claim}
use Rattle.journal.specs.declared.journal.mode.Mode.{Mode}
use Rattle.journal.specs.Journal.Accepted.{accepted}
use Rattle.journal.specs.Journal.History.{Told, took, heard, Triple, bodies, claimed_key, claimed_sig, claims_on, has_verdict, heard_in, no_in, said_yes, same_triple, triple_of, yes_in}
use Rattle.journal.specs.Journal.Logs.{stands}
use Rattle.journal.specs.Journal.Questions.{IsRegular, questions, raised, raised_by, state_before}
use Rattle.journal.specs.Journal.Readiness.{backs, yes_to}
use Rattle.journal.proofs.JournalLemmas.Same.{same_triple_is, same_triple_itself}
use Rattle.key_state.proofs.Among.{Among, among_distinct, among_filter_map, among_flat_map, among_left_by, distinct_among, filter_map_among, flat_map_among, left_among, parted, passed, passing}

-- the triple of a claim names the body, and has the claim's signature
pub triple_parts : (rules : Rules) (b : Body) (c : Claim) (t : Triple) → triple_of rules b c ≡ Some t → (t.body ≡ b.bytes) × (t.sig ≡ claimed_sig c)
triple_parts rules b c t e = of (claimed_key rules c) refl
  where
    of : (o : Option Key) → claimed_key rules c ≡ o → (t.body ≡ b.bytes) × (t.sig ≡ claimed_sig c)
    of None k = (let none : None ≡ Some t = rw k at e in cc)
    of (Some key) k = (let some : Some (record { body = b.bytes; key = key; sig = claimed_sig c }) ≡ Some t = rw k at e in
        let is : record { body = b.bytes; key = key; sig = claimed_sig c } ≡ t = cc in
        (sym (ap (λ t. t.body) is), sym (ap (λ t. t.sig) is)))

-- the triple of a claim names the body
pub triple_body : (rules : Rules) (b : Body) (c : Claim) (t : Triple) → triple_of rules b c ≡ Some t → t.body ≡ b.bytes
triple_body rules b c t e = (triple_parts rules b c t e).0

-- a claim on a body that stood raised the triple
pub record WasRaised (mode : Mode) (told : List Told) (t : Triple) : Type 0 where
  pub earlier : List Told
  pub later : List Told
  pub parts : told ≡ earlier ++ later
  pub body : Body
  pub claim : Claim
  pub came : Among body (bodies [] earlier)
  pub stood : stands (accepted mode [] earlier) body ≡ true
  pub claimed : Among claim (claims_on earlier body)
  pub is : triple_of (own_rules (state_before (accepted mode [] earlier) body) body.event) body claim ≡ Some t
  pub names : t.body ≡ body.bytes
  pub sig : t.sig ≡ claimed_sig claim

-- what a body raises
pub raised_from : (told : List Told) (log : List Body) (b : Body) (t : Triple) → Among t (raised_by told log b)
    → (stands log b ≡ true) × ((c : Claim) × Among c (claims_on told b) × (triple_of (own_rules (state_before log b) b.event) b c ≡ Some t))
unfolding raised_by
raised_from told log b t m = elim (cases_Bool (stands log b)) [
  | inl k ↦ (k, filter_map_among (triple_of (own_rules (state_before log b) b.event) b) (claims_on told b) t (rw k at m))
  | inr k ↦ (let none : Among t [] = rw k at m in absurd none)
]

pub raises : (told : List Told) (log : List Body) (b : Body) (c : Claim) (t : Triple) → stands log b ≡ true → Among c (claims_on told b)
    → triple_of (own_rules (state_before log b) b.event) b c ≡ Some t → Among t (raised_by told log b)
unfolding raised_by
raises told log b c t k m e = rw k (among_filter_map (triple_of (own_rules (state_before log b) b.event) b) (claims_on told b) c t m e)

-- the entry of a verdict that is yes
yes_entry : (m : Told) (t : Triple) → Among t (yes_in m)
    → (reader : ℕ) × (b : Body) × (key : Key) × (sig : Sig) × (m ≡ heard reader b key sig true) × (record { body = b.bytes; key = key; sig = sig } ≡ t)
yes_entry (took reader b claims) t m = absurd m
yes_entry (heard reader b key sig true) t (inl e) = (reader, b, key, sig, refl, e)
yes_entry (heard reader b key sig true) t (inr m) = absurd m
yes_entry (heard reader b key sig false) t m = absurd m

pub yes_among : (told : List Told) (t : Triple) → said_yes told t ≡ true → Among t (flat_map yes_in told)
unfolding said_yes
yes_among told t h =
    let p = passing (same_triple t) (flat_map yes_in told) h in
    subst (λ u. Among u (flat_map yes_in told)) (sym (same_triple_is t p.0 p.2)) p.1

pub among_yes : (told : List Told) (t : Triple) → Among t (flat_map yes_in told) → said_yes told t ≡ true
unfolding said_yes
among_yes told t m = passed (same_triple t) (flat_map yes_in told) t m (same_triple_itself t)

asked_from : (mode : Mode) (told : List Told) (t : Triple) → IsTrue (list_any (same_triple t) (questions mode [] told))
    → (b : Body) × Among b (bodies [] told) × Among t (raised_by told (accepted mode [] told) b)
unfolding questions raised
asked_from mode told t h =
    let log = accepted mode [] told in
    let all = flat_map (raised_by told log) (bodies [] told) in
    let p = passing (same_triple t) (questions mode [] told) h in
    let open_one = left_among (λ t. not (has_verdict told t)) (raised mode [] told) p.0 p.1 in
    let one = distinct_among same_triple all p.0 open_one.0 in
    flat_map_among (raised_by told log) (bodies [] told) t (subst (λ u. Among u all) (sym (same_triple_is t p.0 p.2)) one)

-- RAISED: each verdict of a regular journal
pub was_raised : (mode : Mode) (told : List Told) (t : Triple) → IsRegular mode [] told → said_yes told t ≡ true → WasRaised mode told t
was_raised mode told t regular h =
    let f = flat_map_among yes_in told t (yes_among told t h) in
    let y = yes_entry f.0 t f.2 in
    let s = parted told f.0 f.1 in
    let split : told ≡ s.0 ++ heard y.0 y.1 y.2 y.3 true ∷ s.1 = s.2 ∙ ap (λ m. s.0 ++ m ∷ s.1) y.4 in
    let a = asked_from mode s.0 t (subst (λ t. IsTrue (list_any (same_triple t) (questions mode [] s.0))) y.5 (regular s.0 s.1 y.0 y.1 y.2 y.3 true split)) in
    let r = raised_from s.0 (accepted mode [] s.0) a.0 t a.2 in
    let of = triple_parts (own_rules (state_before (accepted mode [] s.0) a.0) a.0.event) a.0 r.1.0 t r.1.2 in
    record { earlier = s.0; later = heard y.0 y.1 y.2 y.3 true ∷ s.1; parts = split; body = a.0; claim = r.1.0; came = a.1; stood = r.0; claimed = r.1.1; is = r.1.2; names = of.0; sig = of.1 }

-- a verdict is yes or no
heard_entry : (m : Told) (t : Triple) → Among t (heard_in m) → Among t (yes_in m) ⊎ Among t (no_in m)
heard_entry (took reader b claims) t m = absurd m
heard_entry (heard reader b key sig true) t m = inl m
heard_entry (heard reader b key sig false) t m = inr m

-- ANSWERED: a triple that is raised has a verdict, yes or no
pub answered_so : (mode : Mode) (told : List Told) (b : Body) (t : Triple) → questions mode [] told ≡ [] → Among b (bodies [] told)
    → Among t (raised_by told (accepted mode [] told) b) → (said_yes told t ≡ true) ⊎ (list_any (same_triple t) (flat_map no_in told) ≡ true)
unfolding questions raised has_verdict
answered_so mode told b t none inside m =
    let log = accepted mode [] told in
    let all = flat_map (raised_by told log) (bodies [] told) in
    let among_all = among_flat_map (raised_by told log) (bodies [] told) b t inside m in
    let first = among_distinct same_triple same_triple_is all t among_all in
    elim (cases_Bool (has_verdict told t)) [
      | inr k ↦ (let still = among_left_by (λ t. not (has_verdict told t)) (raised mode [] told) t first (rw k refl) in
          let gone : Among t [] = subst (λ xs. Among t xs) none still in absurd gone)
      | inl k ↦ (let p = passing (same_triple t) (flat_map heard_in told) k in
          let here = subst (λ u. Among u (flat_map heard_in told)) (sym (same_triple_is t p.0 p.2)) p.1 in
          let f = flat_map_among heard_in told t here in
          elim (heard_entry f.0 t f.2) [
            | inl y ↦ inl (among_yes told t (among_flat_map yes_in told f.0 t f.1 y))
            | inr n ↦ inr (passed (same_triple t) (flat_map no_in told) t (among_flat_map no_in told f.0 t f.1 n) (same_triple_itself t))
          ])
    ]

-- a key backs a body by some triple of both
pub backs_by : (told : List Told) (b : Body) (w : Key) → backs told b w ≡ true → (t : Triple) × (t.body ≡ b.bytes) × (t.key ≡ w) × (said_yes told t ≡ true)
unfolding backs
backs_by told b w h =
    let p = passing (λ t. bytes_eq t.body b.bytes && same_key t.key w) (flat_map yes_in told) h in
    let parts = and_parts (bytes_eq p.0.body b.bytes) (same_key p.0.key w) p.2 in
    (p.0, (bytes_decides p.0.body b.bytes).0 parts.0, same_key_is p.0.key w parts.1, among_yes told p.0 p.1)

pub by_backs : (told : List Told) (b : Body) (w : Key) (t : Triple) → t.body ≡ b.bytes → t.key ≡ w → said_yes told t ≡ true → backs told b w ≡ true
unfolding backs
by_backs told b w t body key h =
    passed (λ t. bytes_eq t.body b.bytes && same_key t.key w) (flat_map yes_in told) t (yes_among told t h)
    (and_from _ _ ((bytes_decides t.body b.bytes).1 body) (ap (λ k. same_key k w) key ∙ same_key_itself w))

-- a yes to a claim is one to its triple
pub yes_by : (told : List Told) (o : Option Triple) → yes_to told o ≡ true → (t : Triple) × (o ≡ Some t) × (said_yes told t ≡ true)
yes_by told None h = cc
yes_by told (Some t) h = (t, refl, h)
