-- A list that acceptance can make has one establishment event of an identifier and number.
use Rattle.std.proofs.Common.{◌≡◌, ◌≤◌, ◌<◌, ◌+◌, ◌||◌, true, false, List, [], ◌∷◌, ◌++◌, Option, Some, None, is_none, refl, sym, ◌∙◌, ap, subst, append_assoc, append-nil, arith, inl, inr, Contains}
use Rattle.std.proofs.lemmas.Bool.{cases_Bool, leb-false, eqb-true, not-false, or_parts}
use Rattle.std.proofs.lemmas.List.Elements.{Contains-append_cases, Contains-append_left, Contains-append_right, Contains-push, Contains-push_cases}
use Rattle.validator_core.proofs.TablesLemmas.AcceptedLogLemmas.StateSteps.{Fits, IsNew, fits_parts, goes_onto, new_of}
use Rattle.cesr_codes.specs.declared.prefix.Prefix.{Prefix}
use Rattle.event_body.specs.EventBody.Events.{is_establishment, is_inception, is_interaction, is_receipt, is_rotation, prefix_of, sn_of}
use Rattle.event_body.specs.declared.event_body.event.Event.{Event}
use Rattle.event_body.specs.declared.event_body.event.Event.TheVariants.{Icp, Rot, Ixn, Dip, Drt, Rct}
use Rattle.journal.specs.declared.journal.body.Body.{Body}
use Rattle.journal.specs.Journal.Grown.{IsGrown}
use Rattle.journal.specs.Journal.Logs.{is_of, state, stepped, takes}
use Rattle.journal.proofs.JournalLemmas.StateSteps.{state-other}
use Rattle.key_state.specs.Heads.{head_sn}
use Rattle.key_state.specs.KeyStates.{misfit}
use Rattle.key_state.specs.Same.{same_prefix}
use Rattle.key_state.specs.States.{State}
use Rattle.key_state.proofs.NoMisfit.{fits_sn}
use Rattle.key_state.proofs.Same.{same_prefix_is, same_prefix_itself}
use Rattle.quorum_laws.specs.Histories.{AreLevel}
use Rattle.quorum_laws.proofs.Members.{parts_at}

-- the number of each establishment event of the identifier is at most that of the last one in its state; without a state there is none
abbrev Bounds : Prefix → List Body → Option State → Type 0
Bounds prefix log None = (b : Body) → Contains log b → prefix_of b.event ≡ prefix → is_establishment b.event ≡ true → ⊥
Bounds prefix log (Some s) = (b : Body) → Contains log b → prefix_of b.event ≡ prefix → is_establishment b.event ≡ true → sn_of b.event ≤ s.est_sn

none_is : {X : Type 0} (o : Option X) → is_none o ≡ true → o ≡ None
none_is None h = refl
none_is (Some x) h = cc

-- no inception follows a state
no_second : (s : State) (e : Event) → is_inception e ≡ true → is_none (misfit s e) ≡ false
unfolding misfit
no_second s (Icp e) i = refl
no_second s (Dip e) i = refl
no_second s (Rot e) i = cc
no_second s (Ixn e) i = cc
no_second s (Drt e) i = cc
no_second s (Rct e) i = cc

-- an establishment event that follows a state has a higher number than the last one in it
higher_by : (s : State) (e : Event) → is_rotation e ≡ true → misfit s e ≡ None → s.est_sn < sn_of e
higher_by s (Rot e) r none = leb-false e.sn s.est_sn (or_parts _ _ (fits_sn s (Rot e) none)).0
higher_by s (Drt e) r none = let next = eqb-true e.sn (head_sn s + 1) (not-false _ (fits_sn s (Drt e) none)) in omega (arith, next)
higher_by s (Icp e) r none = cc
higher_by s (Dip e) r none = cc
higher_by s (Ixn e) r none = cc
higher_by s (Rct e) r none = cc

higher : (s : State) (e : Event) → is_establishment e ≡ true → takes (Some s) e ≡ true → s.est_sn < sn_of e
higher s e sets taken = elim (cases_Bool (is_inception e)) [
  | inl i ↦ (let clash : true ≡ false = sym taken ∙ no_second s e i in cc)
  | inr i ↦ higher_by s e (sym (ap (λ x. x || is_rotation e) i) ∙ sets) (none_is (misfit s e) taken)
]

not_both : (e : Event) → is_interaction e ≡ true → is_establishment e ≡ true → ⊥
not_both (Ixn e) i s = cc
not_both (Icp e) i s = cc
not_both (Dip e) i s = cc
not_both (Rot e) i s = cc
not_both (Drt e) i s = cc
not_both (Rct e) i s = cc

module _ (log : List Body) (b : Body) (f : Fits log b) where
  abbrev its : Prefix
  its = prefix_of b.event

  -- of the events before it each has a lower number than one that sets keys
  pub lower : is_establishment b.event ≡ true → (o : Option State) → state log its ≡ o → Bounds its log o
      → (c : Body) → Contains log c → prefix_of c.event ≡ its → is_establishment c.event ≡ true → sn_of c.event < sn_of b.event
  lower sets None is bounds c inside own keys = absurd (bounds c inside own keys)
  lower sets (Some s) is bounds c inside own keys =
      let above = higher s b.event sets (subst (λ o. takes o b.event ≡ true) is f.taken) in
      omega (arith, above, bounds c inside own keys)

  -- an interaction leaves the bound as it was
  goes_bound : is_interaction b.event ≡ true → Bounds its log (state log its) → Bounds its (log ++ b ∷ []) (state (log ++ b ∷ []) its)
  goes_bound i bounds =
      let g = goes_onto (state log its) b.event f.taken i in
      let before : Bounds its log (Some g.0) = subst (Bounds its log) g.1.was bounds in
      subst (Bounds its (log ++ b ∷ [])) (sym (f.step ∙ g.1.now)) (λ c inside own keys. elim (Contains-push_cases log b c inside) [
        | inl old ↦ before c old own keys
        | inr new ↦ absurd (not_both b.event i (ap (λ (x : Body). is_establishment x.event) new ∙ keys))
      ])

  -- and another event raises it to its own number
  raised_to : (o : Option State) → stepped (state log its) b.event ≡ o → is_interaction b.event ≡ false → Bounds its log (state log its) → Bounds its (log ++ b ∷ []) o
  raised_to None is i bounds = absurd (none_left (state log its) b.event f.taken is)
    where
      none_left : (o : Option State) (e : Event) → takes o e ≡ true → stepped o e ≡ None → ⊥
      none_left None (Icp e) h is = cc
      none_left None (Dip e) h is = cc
      none_left None (Rot e) h is = cc
      none_left None (Ixn e) h is = cc
      none_left None (Drt e) h is = cc
      none_left None (Rct e) h is = cc
      none_left (Some s) e h is = cc (rw h at is)
  raised_to (Some t) is i bounds = λ c inside own keys. elim (Contains-push_cases log b c inside) [
    | inl old ↦ (let less = lower (sets_keys b.event i f.event) (state log its) refl bounds c old own keys in omega (arith, less, new.est))
    | inr same ↦ (let its_sn : sn_of b.event ≡ sn_of c.event = ap (λ (x : Body). sn_of x.event) same in omega (arith, its_sn, new.est))
  ]
    where
      new : IsNew b.event t
      new = new_of (state log its) b.event t f.taken i f.event is

      sets_keys : (e : Event) → is_interaction e ≡ false → is_receipt e ≡ false → is_establishment e ≡ true
      sets_keys (Icp e) i r = refl
      sets_keys (Dip e) i r = refl
      sets_keys (Rot e) i r = refl
      sets_keys (Drt e) i r = refl
      sets_keys (Ixn e) i r = cc
      sets_keys (Rct e) i r = cc

  own_bound : Bounds its log (state log its) → Bounds its (log ++ b ∷ []) (state (log ++ b ∷ []) its)
  own_bound bounds = elim (cases_Bool (is_interaction b.event)) [
    | inl i ↦ goes_bound i bounds
    | inr i ↦ subst (Bounds its (log ++ b ∷ [])) (sym f.step) (raised_to (stepped (state log its) b.event) refl i bounds)
  ]

  other_bound : (prefix : Prefix) → is_of prefix b ≡ false → (o : Option State) → Bounds prefix log o → Bounds prefix (log ++ b ∷ []) o
  other_bound prefix out o bounds = with_other o bounds
    where
      not_its : (c : Body) → b ≡ c → prefix_of c.event ≡ prefix → ⊥
      not_its c same own =
          let is : prefix_of b.event ≡ prefix = ap (λ (x : Body). prefix_of x.event) same ∙ own in
          let yes : is_of prefix b ≡ true = subst (λ p. same_prefix (prefix_of b.event) p ≡ true) is (same_prefix_itself (prefix_of b.event)) in
          cc (yes, out)

      with_other : (o : Option State) → Bounds prefix log o → Bounds prefix (log ++ b ∷ []) o
      with_other None before = λ c inside own keys. elim (Contains-push_cases log b c inside) [
        | inl old ↦ before c old own keys
        | inr same ↦ not_its c same own
      ]
      with_other (Some s) before = λ c inside own keys. elim (Contains-push_cases log b c inside) [
        | inl old ↦ before c old own keys
        | inr same ↦ absurd (not_its c same own)
      ]

  pub one_more : (prefix : Prefix) → Bounds prefix log (state log prefix) → Bounds prefix (log ++ b ∷ []) (state (log ++ b ∷ []) prefix)
  one_more prefix bounds = elim (cases_Bool (is_of prefix b)) [
    | inl k ↦ (let is = same_prefix_is its prefix k in
        subst (λ p. Bounds p (log ++ b ∷ []) (state (log ++ b ∷ []) p)) is (own_bound (subst (λ p. Bounds p log (state log p)) (sym is) bounds)))
    | inr k ↦ subst (Bounds prefix (log ++ b ∷ [])) (sym (state-other log b prefix k)) (other_bound prefix k (state log prefix) bounds)
  ]

nothing_bounds : (prefix : Prefix) → Bounds prefix [] (state [] prefix)
unfolding state
nothing_bounds prefix = λ b inside own keys. absurd (omega (arith, inside.1))

-- so it is with each front of a grown list
front_bound : (prefix : Prefix) (front more later : List Body) → IsGrown (front ++ (more ++ later)) → Bounds prefix front (state front prefix) → Bounds prefix (front ++ more) (state (front ++ more) prefix)
front_bound prefix front [] later grown bounds = subst (λ l. Bounds prefix l (state l prefix)) (sym (append-nil front)) bounds
front_bound prefix front (b ∷ more) later grown bounds =
    let one : (front ++ b ∷ []) ++ more ≡ front ++ b ∷ more = append_assoc front (b ∷ []) more in
    subst (λ l. Bounds prefix l (state l prefix)) one
    (front_bound prefix (front ++ b ∷ []) more later (subst IsGrown (sym (append_assoc front (b ∷ []) (more ++ later))) grown) (one_more front b (fits_parts front b (grown front (more ++ later) b refl)) prefix bounds))

-- LATER: of two establishment events of one identifier in a grown list the later one has the higher number
later_higher : (before later : List Body) (b c : Body) → IsGrown (before ++ b ∷ later) → Contains before c → AreLevel c.event b.event → ⊥
later_higher before later b c grown inside level =
    let bounds = front_bound (prefix_of b.event) [] before (b ∷ later) grown (nothing_bounds (prefix_of b.event)) in
    let less = lower before b (fits_parts before b (grown before later b refl)) level.second_sets_keys (state before (prefix_of b.event)) refl bounds c inside level.prefix level.first_sets_keys in
    omega (arith, less, level.sn)

level_back : (e f : Event) → AreLevel e f → AreLevel f e
level_back e f level = record { first_sets_keys = level.second_sets_keys; second_sets_keys = level.first_sets_keys; prefix = sym level.prefix; sn = sym level.sn }

-- ONE: so two of one number are one
pub one_level : (log : List Body) → IsGrown log → (b c : Body) → Contains log b → Contains log c → AreLevel b.event c.event → b ≡ c
one_level log grown b c b_in c_in level =
    let (front, later, parted) = parts_at log b b_in in
    elim (Contains-append_cases front (b ∷ later) c (subst (λ l. Contains l c) parted c_in)) [
      | inl earlier ↦ absurd (later_higher front later b c (subst IsGrown parted grown) earlier (level_back b.event c.event level))
      | inr there ↦ elim (Contains-append_cases (b ∷ []) later c there) [
        | inl here ↦ one_of b c here
        | inr behind ↦ (let (more, rest, cut) = parts_at later c behind in
            let all : log ≡ (front ++ b ∷ more) ++ c ∷ rest = parted ∙ ap (λ l. front ++ b ∷ l) cut ∙ sym (append_assoc front (b ∷ more) (c ∷ rest)) in
            absurd (later_higher (front ++ b ∷ more) rest c b (subst IsGrown all grown) (Contains-append_right front (b ∷ more) b (Contains-append_left (b ∷ []) more b (Contains-push [] b))) level))
      ]
    ]
  where
    one_of : (b c : Body) → Contains (b ∷ []) c → b ≡ c
    one_of b c here = elim (Contains-push_cases [] b c here) [ inl none ↦ absurd (omega (arith, none.1)) | inr same ↦ same ]
