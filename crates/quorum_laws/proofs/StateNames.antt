-- The digests that a state keeps are those of events in the list, each under its number.
use Rattle.std.proofs.Common.{◌≡◌, ℕ, zero, suc, ◌+◌, ◌-◌, ◌<◌, ◌≤◌, true, nat_lt, List, [], ◌∷◌, ◌++◌, ◌⊎◌, length, filter, fold, Option, Some, None, is_none, if◌then◌else◌, Contains, slice_get, refl, ◌∙◌, ap, arith, append-nil, append_assoc, length-append, inl, inr}
use Rattle.std.proofs.lemmas.List.Elements.{Contains-push, Contains-append_left}
use Rattle.std.proofs.lemmas.Bool.{cases_Bool, ltb-false, le-ltb, eqb-true, not-false}
use Rattle.std.specs.Result.{result_ok}
use Rattle.cesr_codes.specs.declared.digest.Digest.{Digest}
use Rattle.cesr_codes.specs.declared.prefix.Prefix.{Prefix}
use Rattle.event_body.specs.declared.event_body.event.Event.{Event}
use Rattle.event_body.specs.declared.event_body.event.Event.TheVariants.{Icp, Rot, Ixn, Dip, Drt, Rct}
use Rattle.event_body.specs.EventBody.Events.{sn_of, said_of}
use Rattle.key_state.specs.Heads.{head_sn}
use Rattle.key_state.specs.KeyStates.{digest_at, misfit, moved, begun, first}
use Rattle.key_state.specs.States.{State}
use Rattle.key_state.proofs.NoMisfit.{fits_sn}
use Rattle.journal.specs.declared.journal.body.Body.{Body}
use Rattle.journal.specs.Journal.Logs.{is_of, state, stepped}

-- some event of the identifier in the list has the number and the digest
pub record IsNamed (prefix : Prefix) (log : List Body) (n : ℕ) (d : Digest) : Type 0 where
  pub body : Body
  pub inside : Contains log body
  pub of : is_of prefix body ≡ true
  pub sn : sn_of body.event ≡ n
  pub said : said_of body.event ≡ d

-- the state keeps some digest, and each that it keeps is named in the list
pub record Names (prefix : Prefix) (log : List Body) (s : State) : Type 0 where
  pub some : 0 < length s.since
  pub named : (n : ℕ) (d : Digest) → digest_at s n ≡ Some d → IsNamed prefix log n d

abbrev pub NamesIf : Prefix → List Body → Option State → Type 0
NamesIf prefix log None = Unit {0}
NamesIf prefix log (Some s) = Names prefix log s

-- what a digest at a number says of the list of digests
digest_at-some : (s : State) (n : ℕ) (d : Digest) → digest_at s n ≡ Some d → (s.est_sn ≤ n) × (slice_get s.since (n - s.est_sn) ≡ Some d)
digest_at-some s n d e = elim (cases_Bool (nat_lt n s.est_sn)) [
  | inl h ↦ (let none : None ≡ Some d = rw h at e in cc)
  | inr h ↦ (ltb-false n s.est_sn h, rw h at e)
]

-- what a list with one more keeps: an old one, or the last
slice_get-push : {X : Type 0} (xs : List X) (x y : X) (n : ℕ) → slice_get (xs ++ x ∷ []) n ≡ Some y → (slice_get xs n ≡ Some y) ⊎ ((n ≡ length xs) × (x ≡ y))
slice_get-push [] x y zero e = inr (refl, cc)
slice_get-push [] x y (suc n) e = cc
slice_get-push (z ∷ xs) x y zero e = inl e
slice_get-push (z ∷ xs) x y (suc n) e = elim (slice_get-push xs x y n e) [ inl h ↦ inl h | inr h ↦ inr (ap suc h.0, h.1) ]

module _ (prefix : Prefix) (log : List Body) where
  -- a longer list names the same
  Names-more : (more : List Body) (s : State) → Names prefix log s → Names prefix (log ++ more) s
  Names-more more s h = record {
    some = h.some;
    named = λ n d e. (let m = h.named n d e in record { body = m.body; inside = Contains-append_left log more m.body m.inside; of = m.of; sn = m.sn; said = m.said });
  }

  module _ (b : Body) (of : is_of prefix b ≡ true) where
    last : (n : ℕ) (d : Digest) → sn_of b.event ≡ n → said_of b.event ≡ d → IsNamed prefix (log ++ b ∷ []) n d
    last n d sn said = record { body = b; inside = Contains-push log b; of = of; sn = sn; said = said }

    -- a state that keeps one more digest, that of the body
    push : (s : State) (old : List Digest) (d : Digest) → s.since ≡ old ++ d ∷ [] → s.est_sn + length old ≡ sn_of b.event → said_of b.event ≡ d
        → ((n : ℕ) (e : Digest) → s.est_sn ≤ n → slice_get old (n - s.est_sn) ≡ Some e → IsNamed prefix (log ++ b ∷ []) n e) → Names prefix (log ++ b ∷ []) s
    push s old d since sn said known = record {
      some = rw since (omega (arith, length-append old (d ∷ [])));
      named = λ n e found.
          (let at = digest_at-some s n e found in
          let got : slice_get (old ++ d ∷ []) (n - s.est_sn) ≡ Some e = rw since at at.1 in
          elim (slice_get-push old d e (n - s.est_sn) got) [
            | inl h ↦ known n e at.0 h
            | inr h ↦ (let k = h.0 in last n e (omega (arith, at.0)) (said ∙ h.1))
          ]);
    }

    none_known : (s : State) (n : ℕ) (e : Digest) → s.est_sn ≤ n → slice_get [] (n - s.est_sn) ≡ Some e → IsNamed prefix (log ++ b ∷ []) n e
    none_known s n e low found = cc

    -- the first event of a log
    begins : (e : Event) → e ≡ b.event → NamesIf prefix (log ++ b ∷ []) (result_ok (first e))
    begins (Icp e) is = push (begun e) [] e.said refl (rw (← is) refl) (rw (← is) refl) (none_known (begun e))
    begins (Dip e) is = push (begun e) [] e.said refl (rw (← is) refl) (rw (← is) refl) (none_known (begun e))
    begins (Rot e) is = tt
    begins (Ixn e) is = tt
    begins (Drt e) is = tt
    begins (Rct e) is = tt

    -- a later event
    moves : (s : State) (e : Event) → e ≡ b.event → Names prefix log s → misfit s e ≡ None → Names prefix (log ++ b ∷ []) (moved s e)
    moves s (Rot e) is h none = push (moved s (Rot e)) [] e.said refl (rw (← is) (omega arith)) (rw (← is) refl) (none_known (moved s (Rot e)))
    moves s (Drt e) is h none = push (moved s (Drt e)) [] e.said refl (rw (← is) (omega arith)) (rw (← is) refl) (none_known (moved s (Drt e)))
    moves s (Ixn e) is h none =
        let next = eqb-true e.sn (head_sn s + 1) (not-false _ (fits_sn s (Ixn e) none)) in
        let some = h.some in
        push (moved s (Ixn e)) s.since e.said refl (rw (← is) (omega arith)) (rw (← is) refl)
        (λ n d low found. (Names-more (b ∷ []) s h).named n d (let low' = le-ltb n s.est_sn low in rw low' found))
    moves s (Icp e) is h none = Names-more (b ∷ []) s h
    moves s (Dip e) is h none = Names-more (b ∷ []) s h
    moves s (Rct e) is h none = Names-more (b ∷ []) s h

module _ (prefix : Prefix) where
  more_if : (log more : List Body) (o : Option State) → NamesIf prefix log o → NamesIf prefix (log ++ more) o
  more_if log more None h = tt
  more_if log more (Some s) h = Names-more prefix log more s h

  -- one more event of the identifier
  steps : (log : List Body) (b : Body) → is_of prefix b ≡ true → (o : Option State) → NamesIf prefix log o → NamesIf prefix (log ++ b ∷ []) (stepped o b.event)
  steps log b of None h = begins prefix log b of b.event refl
  steps log b of (Some s) h = elim (misfit s b.event) as (λ m. misfit s b.event ≡ m → NamesIf prefix (log ++ b ∷ []) (if is_none m then Some (moved s b.event) else Some s)) [
    | None ↦ (λ e. moves prefix log b of s b.event refl h e)
    | Some m ↦ (λ e. Names-more prefix log (b ∷ []) s h)
  ] refl

  over : (seen rest : List Body) (o : Option State) → NamesIf prefix seen o → NamesIf prefix (seen ++ rest) (fold (λ s b. stepped s b.event) o (filter (is_of prefix) rest))
  over seen [] o h = rw append-nil h
  over seen (b ∷ rest) o h = elim (cases_Bool (is_of prefix b)) [
    | inl k ↦ (let e = over (seen ++ b ∷ []) rest (stepped o b.event) (steps seen b k o h) in let e' = rw append_assoc at e in rw k e')
    | inr k ↦ (let e = over (seen ++ b ∷ []) rest o (more_if seen (b ∷ []) o h) in let e' = rw append_assoc at e in rw k e')
  ]

  -- NAMED: each digest that the state of an identifier keeps is that of an event in the list
  pub state_names : (log : List Body) → NamesIf prefix log (state log prefix)
  unfolding state
  state_names log = over [] log None tt
