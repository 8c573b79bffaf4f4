-- The events behind which a state stands, by the digests that it keeps.
use Rattle.std.proofs.Common.{◌≡◌, ℕ, zero, suc, ◌+◌, ◌-◌, ◌<◌, ◌≤◌, ◌⊎◌, true, false, nat_lt, List, [], ◌∷◌, ◌++◌, length, Option, Some, None, is_none, slice_get, Contains, refl, sym, ◌∙◌, ap, subst, arith, inl, inr, if◌then◌else◌, append-nil, append_assoc, length-append}
use Rattle.std.proofs.lemmas.Bool.Decides.{nat_tests}
use Rattle.std.specs.Result.{result_ok}
use Rattle.std.proofs.lemmas.Bool.{cases_Bool, or_parts, not-false, ltb-false, leb-false, eqb-true}
use Rattle.std.proofs.lemmas.List.Elements.{Contains-append_right}
use Rattle.cesr_codes.specs.declared.digest.Digest.{Digest}
use Rattle.cesr_codes.specs.declared.prefix.Prefix.{Prefix}
use Rattle.cesr_codes.specs.declared.prefix.Prefix.TheVariants.{Said}
use Rattle.event_body.specs.declared.event_body.event.Event.{Event}
use Rattle.event_body.specs.declared.event_body.event.Event.TheVariants.{Icp, Rot, Ixn, Dip, Drt, Rct}
use Rattle.event_body.specs.EventBody.Events.{sn_of, said_of, is_inception, is_receipt}
use Rattle.key_state.specs.Heads.{head_sn}
use Rattle.key_state.specs.KeyStates.{digest_at, misfit, moved, begun, first, are_same, is_other_sn}
use Rattle.key_state.specs.Same.{same_digest}
use Rattle.key_state.specs.States.{State}
use Rattle.key_state.proofs.Same.{same_prefix_is, same_prefix_itself}
use Rattle.journal.specs.declared.journal.body.Body.{Body}
use Rattle.journal.specs.Journal.Logs.{is_of, state, stepped}
use Rattle.journal.proofs.JournalLemmas.StateSteps.{state-own, state-other}
use Rattle.claim_table.specs.CoreLaws.Alike.{AreAlike}
use Rattle.claim_table.proofs.CoreLawsLemmas.Alike.{alike-grown, alike-itself}
use Rattle.key_state.proofs.NoMisfit.{fits_sn}

-- an event of the identifier with this number and digest stands in the list and is the head of the state just behind it, which is
-- alike
pub record IsStanding (prefix : Prefix) (log : List Body) (s : State) (n : ℕ) (d : Digest) : Type 0 where
  pub front : List Body
  pub body : Body
  pub later : List Body
  pub parted : log ≡ front ++ body ∷ later
  pub of : is_of prefix body ≡ true
  pub sn : sn_of body.event ≡ n
  pub said : said_of body.event ≡ d
  pub behind : State
  pub behind_is : state (front ++ body ∷ []) prefix ≡ Some behind
  pub alike : AreAlike behind s
  pub head : head_sn behind ≡ n
  pub low : behind.est_sn ≤ n
  pub found : digest_at behind n ≡ Some d

-- it is a member of the list
pub inside_of : {prefix : Prefix} {log : List Body} {s : State} {n : ℕ} {d : Digest} → (x : IsStanding prefix log s n d) → Contains log x.body
inside_of {log = log} x = subst (λ xs. Contains xs x.body) (sym x.parted) (Contains-append_right x.front (x.body ∷ x.later) x.body (0, omega arith, refl))

-- each digest that the state keeps is of such an event
pub record AllStand (prefix : Prefix) (log : List Body) (s : State) : Type 0 where
  pub some : 0 < length s.since
  pub each : (n : ℕ) (d : Digest) → digest_at s n ≡ Some d → IsStanding prefix log s n d

abbrev pub StandIf : Prefix → List Body → Option State → Type 0
StandIf prefix log None = Unit {0}
StandIf prefix log (Some s) = AllStand prefix log s

digest_at-some : (s : State) (n : ℕ) (d : Digest) → digest_at s n ≡ Some d → (s.est_sn ≤ n) × (slice_get s.since (n - s.est_sn) ≡ Some d)
digest_at-some s n d e = elim (cases_Bool (nat_lt n s.est_sn)) [
  | inl h ↦ (let none : None ≡ Some d = rw h at e in cc)
  | inr h ↦ (ltb-false n s.est_sn h, rw h at e)
]

digest_at-from : (s : State) (n : ℕ) (d : Digest) → s.est_sn ≤ n → slice_get s.since (n - s.est_sn) ≡ Some d → digest_at s n ≡ Some d
digest_at-from s n d low e = elim (cases_Bool (nat_lt n s.est_sn)) [
  | inl h ↦ absurd (grind (arith, nat_tests, h, low))
  | inr h ↦ rw h e
]

slice_get-push : {X : Type 0} (xs : List X) (x y : X) (n : ℕ) → slice_get (xs ++ x ∷ []) n ≡ Some y → (slice_get xs n ≡ Some y) ⊎ ((n ≡ length xs) × (x ≡ y))
slice_get-push [] x y zero e = inr (refl, cc)
slice_get-push [] x y (suc n) e = cc
slice_get-push (z ∷ xs) x y zero e = inl e
slice_get-push (z ∷ xs) x y (suc n) e = elim (slice_get-push xs x y n e) [ inl h ↦ inl h | inr h ↦ inr (ap suc h.0, h.1) ]

module _ (prefix : Prefix) (log : List Body) where
  longer_list : (more : List Body) (s : State) (n : ℕ) (d : Digest) → IsStanding prefix log s n d → IsStanding prefix (log ++ more) s n d
  longer_list more s n d h = record {
    front = h.front;
    body = h.body;
    later = h.later ++ more;
    parted = ap (λ xs. xs ++ more) h.parted ∙ append_assoc h.front (h.body ∷ h.later) more;
    of = h.of;
    sn = h.sn;
    said = h.said;
    behind = h.behind;
    behind_is = h.behind_is;
    alike = h.alike;
    head = h.head;
    low = h.low;
    found = h.found;
  }

  more_stand : (more : List Body) (o : Option State) → StandIf prefix log o → StandIf prefix (log ++ more) o
  more_stand more None h = tt
  more_stand more (Some s) h = record { some = h.some; each = λ n d e. longer_list more s n d (h.each n d e) }

  module _ (b : Body) (of : is_of prefix b ≡ true) where
    -- the new event itself
    new_one : (s : State) (n : ℕ) (d : Digest) → state (log ++ b ∷ []) prefix ≡ Some s → sn_of b.event ≡ n → said_of b.event ≡ d
        → head_sn s ≡ n → s.est_sn ≤ n → digest_at s n ≡ Some d → IsStanding prefix (log ++ b ∷ []) s n d
    new_one s n d is sn said head low found = record {
      front = log;
      body = b;
      later = [];
      parted = refl;
      of = of;
      sn = sn;
      said = said;
      behind = s;
      behind_is = is;
      alike = alike-itself s;
      head = head;
      low = low;
      found = found;
    }

    -- a state with the new event alone
    only_new : (s : State) (d : Digest) → s.since ≡ d ∷ [] → state (log ++ b ∷ []) prefix ≡ Some s → sn_of b.event ≡ s.est_sn → said_of b.event ≡ d → AllStand prefix (log ++ b ∷ []) s
    only_new s d one is sn said = record {
      some = (let len : length s.since ≡ 1 = ap length one in omega (arith, len));
      each = λ n e found. (let at = digest_at-some s n e found in
          let got : slice_get (d ∷ []) (n - s.est_sn) ≡ Some e = ap (λ ds. slice_get ds (n - s.est_sn)) (sym one) ∙ at.1 in
          elim (slice_get-push [] d e (n - s.est_sn) got) [
            | inl h ↦ cc
            | inr h ↦ (let low = at.0 in let k = h.0 in let len : length s.since ≡ 1 = ap length one in
                new_one s n e is (omega (arith, sn, low, k)) (said ∙ h.1) (omega (arith, len, low, k)) low found)
          ]);
    }

    -- a state with the new event behind the others
    one_more : (s : State) (d : Digest) → AllStand prefix log s → state (log ++ b ∷ []) prefix ≡ Some (record s { since = s.since ++ d ∷ [] })
        → sn_of b.event ≡ s.est_sn + length s.since → said_of b.event ≡ d → AllStand prefix (log ++ b ∷ []) (record s { since = s.since ++ d ∷ [] })
    one_more s d old is sn said = record {
      some = omega (arith, length-append s.since (d ∷ []));
      each = λ n e found. (let at = digest_at-some (record s { since = s.since ++ d ∷ [] }) n e found in
          elim (slice_get-push s.since d e (n - s.est_sn) at.1) [
            | inl h ↦ (let k = longer_list (b ∷ []) s n e (old.each n e (digest_at-from s n e at.0 h)) in
                record { front = k.front; body = k.body; later = k.later; parted = k.parted; of = k.of; sn = k.sn; said = k.said; behind = k.behind; behind_is = k.behind_is; alike = alike-grown k.behind s d k.alike; head = k.head; low = k.low; found = k.found })
            | inr h ↦ (let low = at.0 in let k = h.0 in let long = length-append s.since (d ∷ []) in
                new_one (record s { since = s.since ++ d ∷ [] }) n e is (omega (arith, sn, low, k)) (said ∙ h.1) (omega (arith, long, low, k)) low found)
          ]);
    }

    begins : (e : Event) → e ≡ b.event → state (log ++ b ∷ []) prefix ≡ result_ok (first e) → StandIf prefix (log ++ b ∷ []) (result_ok (first e))
    begins (Icp e) is at = only_new (begun e) e.said refl at (sym (ap sn_of is)) (sym (ap said_of is))
    begins (Dip e) is at = only_new (begun e) e.said refl at (sym (ap sn_of is)) (sym (ap said_of is))
    begins (Rot e) is at = tt
    begins (Ixn e) is at = tt
    begins (Drt e) is at = tt
    begins (Rct e) is at = tt

    moves : (s : State) (e : Event) → e ≡ b.event → AllStand prefix log s → misfit s e ≡ None → state (log ++ b ∷ []) prefix ≡ Some (moved s e) → AllStand prefix (log ++ b ∷ []) (moved s e)
    moves s (Rot e) is old none at = only_new (moved s (Rot e)) e.said refl at (sym (ap sn_of is)) (sym (ap said_of is))
    moves s (Drt e) is old none at = only_new (moved s (Drt e)) e.said refl at (sym (ap sn_of is)) (sym (ap said_of is))
    moves s (Ixn e) is old none at =
        let next = eqb-true e.sn (head_sn s + 1) (not-false _ (fits_sn s (Ixn e) none)) in
        let some = old.some in
        one_more s e.said old at (sym (ap sn_of is) ∙ omega (arith, next, some)) (sym (ap said_of is))
    moves s (Icp e) is old none at = more_stand (b ∷ []) (Some s) old
    moves s (Dip e) is old none at = more_stand (b ∷ []) (Some s) old
    moves s (Rct e) is old none at = more_stand (b ∷ []) (Some s) old

module _ (prefix : Prefix) where
  steps : (log : List Body) (b : Body) → is_of prefix b ≡ true → (o : Option State) → state (log ++ b ∷ []) prefix ≡ stepped o b.event → StandIf prefix log o
      → StandIf prefix (log ++ b ∷ []) (stepped o b.event)
  steps log b of None at h = begins prefix log b of b.event refl at
  steps log b of (Some s) at h = by (misfit s b.event) refl
    where
      by : (m : _) → misfit s b.event ≡ m → StandIf prefix (log ++ b ∷ []) (stepped (Some s) b.event)
      by None e = (let is : stepped (Some s) b.event ≡ Some (moved s b.event) = ap (λ m. if is_none m then Some (moved s b.event) else Some s) e in
          subst (StandIf prefix (log ++ b ∷ [])) (sym is) (moves prefix log b of s b.event refl h e (at ∙ is)))
      by (Some m) e = (let is : stepped (Some s) b.event ≡ Some s = ap (λ m. if is_none m then Some (moved s b.event) else Some s) e in
          subst (StandIf prefix (log ++ b ∷ [])) (sym is) (more_stand prefix log (b ∷ []) (Some s) h))

  one_step : (log : List Body) (b : Body) → StandIf prefix log (state log prefix) → StandIf prefix (log ++ b ∷ []) (state (log ++ b ∷ []) prefix)
  one_step log b h = elim (cases_Bool (is_of prefix b)) [
    | inl k ↦ (let step = state-own log b prefix k in subst (StandIf prefix (log ++ b ∷ [])) (sym step) (steps log b k (state log prefix) step h))
    | inr k ↦ subst (StandIf prefix (log ++ b ∷ [])) (sym (state-other log b prefix k)) (more_stand prefix log (b ∷ []) (state log prefix) h)
  ]

  over : (seen rest : List Body) → StandIf prefix seen (state seen prefix) → StandIf prefix (seen ++ rest) (state (seen ++ rest) prefix)
  over seen [] h = rw append-nil h
  over seen (b ∷ rest) h = (let e = over (seen ++ b ∷ []) rest (one_step seen b h) in rw append_assoc at e)

  nothing : StandIf prefix [] (state [] prefix)
  unfolding state
  nothing = tt

  -- STAND: behind each live event stands a state alike to the current one
  pub all_stand : (log : List Body) → StandIf prefix log (state log prefix)
  all_stand log = over [] log nothing

pub same_digest_is : (d e : Digest) → same_digest d e ≡ true → d ≡ e
same_digest_is d e h = let same : Said d ≡ Said e = same_prefix_is (Said d) (Said e) h in cc

pub are_same-some : (o p : Option Digest) → are_same o p ≡ true → (d : Digest) × (o ≡ Some d) × (p ≡ Some d)
are_same-some None p h = cc
are_same-some (Some d) None h = cc
are_same-some (Some d) (Some e) h = (d, refl, ap Some (sym (same_digest_is d e h)))

pub same_itself : (d : Digest) → same_digest d d ≡ true
same_itself d = same_prefix_itself (Said d)

pub none_is : {X : Type 0} (o : Option X) → is_none o ≡ true → o ≡ None
none_is None h = refl
none_is (Some x) h = cc

-- an event that follows a state isn't at number 0
pub sn_positive : (s : State) (e : Event) → is_other_sn s e ≡ false → is_inception e ≡ false → is_receipt e ≡ false → 0 < sn_of e
sn_positive s (Rot e) h i r = let above = leb-false e.sn s.est_sn (or_parts _ _ h).0 in omega arith
sn_positive s (Ixn e) h i r = let next = eqb-true e.sn (head_sn s + 1) (not-false _ h) in omega arith
sn_positive s (Drt e) h i r = let next = eqb-true e.sn (head_sn s + 1) (not-false _ h) in omega arith
sn_positive s (Icp e) h i r = cc
sn_positive s (Dip e) h i r = cc
sn_positive s (Rct e) h i r = cc
