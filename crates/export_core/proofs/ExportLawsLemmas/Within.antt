-- Whether an event of a family is ready depends on the family's entries and on its accepted events alone.
use Rattle.std.proofs.Common.{◌≡◌, Bool, true, false, ◌&&◌, ◌||◌, List, [], ◌∷◌, Option, Some, None, refl, sym, ◌∙◌, ap, subst, option_map, inl, inr}
use Rattle.std.specs.Prelude.{bytes_eq, codes, filter, filter_map, flat_map}
use Rattle.std.specs.List.{list_any}
use Rattle.std.proofs.lemmas.Bool.{cases_Bool, and_from, and_parts}
use Rattle.std.proofs.lemmas.List.Folds.{list_any-append}
use Rattle.cesr_codes.specs.declared.key.Key.{Key}
use Rattle.cesr_codes.specs.declared.prefix.Prefix.{Prefix}
use Rattle.cesr_codes.specs.declared.sig.Sig.{Sig}
use Rattle.event_body.specs.EventBody.Events.{is_receipt, prefix_of, said_of}
use Rattle.key_state.specs.Exposure.{Rules, own_rules}
use Rattle.key_state.specs.Same.{same_digest, same_key, same_prefix}
use Rattle.key_state.specs.States.{State}
use Rattle.journal.specs.declared.journal.body.Body.{Body}
use Rattle.journal.specs.declared.journal.claim.Claim.{Claim}
use Rattle.journal.specs.declared.journal.mode.Mode.{Mode}
use Rattle.journal.specs.Journal.History.{Told, Triple, claimed_key, claimed_sig, claims_in, claims_on, heard, is_receipt_for, said_yes, same_triple, took, triple_of, yes_in}
use Rattle.journal.specs.Journal.Logs.{is_in, is_of, same_body, state, takes}
use Rattle.journal.specs.Journal.Readiness.{backers, backs, good_sigs, held_sig, is_backed, is_local, is_ready, signed, yes_to}
use Rattle.journal.specs.Journal.Seals.{anchored, delegator_of, forbids, has_trait, is_sealed, seals}
use Rattle.journal.proofs.JournalLemmas.Locality.{bytes_differ}
use Rattle.key_state.proofs.Among.{Among, left_among, passing}
use Rattle.key_state.proofs.Same.{same_prefix_is}
use Rattle.journal_views.proofs.JournalLawsLemmas.Growing.{anchored_more}
use Rattle.export_core.specs.ExportLaws.Export.{exported, is_of_some}
use Rattle.export_core.specs.ExportLaws.Families.{told_body, within}
use Rattle.export_core.proofs.ExportLawsLemmas.Family.{family_of, of_family, state_family}
use Rattle.export_core.proofs.ExportLawsLemmas.Ready.{ready_by, ready_parts}

-- a signature of a key on a body
abbrev triple_on : Body → Key → Sig → Triple
triple_on b key sig = record { body = b.bytes; key = key; sig = sig }

module _ (family : List Prefix) where
  -- what is made of the family's entries, where the others give nothing, or nothing that passes a test
  flat_map_within : {X : Type 0} (f : Told → List X) (told : List Told)
      → ((t : Told) → Among t told → is_of_some family (told_body t) ≡ false → f t ≡ [])
      → flat_map f (within family told) ≡ flat_map f told
  flat_map_within f [] none = refl
  flat_map_within f (t ∷ told) none = (let ih = flat_map_within f told (λ u m. none u (inr m)) in
      elim (cases_Bool (is_of_some family (told_body t))) [
        | inl k ↦ rw (k, ih) refl
        | inr k ↦ (let e = none t (inl refl) k in rw (k, ih, e) refl)
      ])

  pub any_within : {X : Type 0} (test : X → Bool) (f : Told → List X) (told : List Told)
      → ((t : Told) → Among t told → is_of_some family (told_body t) ≡ false → list_any test (f t) ≡ false)
      → list_any test (flat_map f (within family told)) ≡ list_any test (flat_map f told)
  any_within test f [] none = refl
  any_within test f (t ∷ told) none = (let ih = any_within test f told (λ u m. none u (inr m)) in
      elim (cases_Bool (is_of_some family (told_body t))) [
        | inl k ↦ rw k (list_any-append test (f t) (flat_map f (within family told))
            ∙ ap (λ o. list_any test (f t) || o) ih ∙ sym (list_any-append test (f t) (flat_map f told)))
        | inr k ↦ (let e = none t (inl refl) k in rw (k, list_any-append, e) ih)
      ])

  -- a test that passes events of the family alone passes one of them, or one of all
  any_family : (test : Body → Bool) → ((c : Body) → test c ≡ true → is_of_some family c ≡ true) → (log : List Body)
      → list_any test (exported family log) ≡ list_any test log
  any_family test only [] = refl
  any_family test only (c ∷ log) = (let ih = any_family test only log in elim (cases_Bool (is_of_some family c)) [
    | inl k ↦ rw (k, ih) refl
    | inr k ↦ elim (cases_Bool (test c)) [
      | inl t ↦ (let y = only c t in cc)
      | inr t ↦ rw (k, t) ih
    ]
  ])

  -- an event of the family, and what was told, where each entry on the event's bytes is of the family too
  module _ (told : List Told) (b : Body) (of : is_of_some family b ≡ true)
      (apart : (t : Told) → Among t told → same_body (told_body t) b ≡ true
      → is_of_some family (told_body t) ≡ true) where
    -- an entry of another family is on other bytes
    other : (t : Told) → Among t told → is_of_some family (told_body t) ≡ false → same_body (told_body t) b ≡ false
    other t m k = elim (cases_Bool (same_body (told_body t) b)) [
      | inl same ↦ (let mine = apart t m same in cc)
      | inr differs ↦ differs
    ]

    -- and no receipt for the event
    no_receipt : (c : Body) → is_of_some family c ≡ false → is_receipt_for c b ≡ false
    no_receipt c k = elim (cases_Bool (is_receipt_for c b)) [
      | inr none ↦ none
      | inl h ↦ (let parts = and_parts (is_receipt c.event && same_digest (said_of c.event) (said_of b.event)
          && same_prefix (prefix_of c.event) (prefix_of b.event)) _ h in
          let more = and_parts (is_receipt c.event && same_digest (said_of c.event) (said_of b.event))
          (same_prefix (prefix_of c.event) (prefix_of b.event)) parts.0 in
          let mine = of_family family (prefix_of b.event) c (family_of family b of) more.1 in cc)
    ]

    no_claims : (t : Told) → Among t told → is_of_some family (told_body t) ≡ false → claims_in b t ≡ []
    no_claims (took reader c claims) m k = (let differs = other (took reader c claims) m k in
        let none = no_receipt c k in rw (differs, none) refl)
    no_claims (heard reader c key sig verdict) m k = refl

    pub claims_within : claims_on (within family told) b ≡ claims_on told b
    unfolding claims_on
    claims_within = flat_map_within (claims_in b) told no_claims

    no_yes : (key : Key) (sig : Sig) (t : Told) → Among t told → is_of_some family (told_body t) ≡ false
        → list_any (same_triple (triple_on b key sig)) (yes_in t) ≡ false
    no_yes key sig (took reader c claims) m k = refl
    no_yes key sig (heard reader c key' sig' true) m k =
        let differs = bytes_differ c.bytes b.bytes (other (heard reader c key' sig' true) m k) in rw differs refl
    no_yes key sig (heard reader c key' sig' false) m k = refl

    said_yes_within : (key : Key) (sig : Sig)
        → said_yes (within family told) (triple_on b key sig) ≡ said_yes told (triple_on b key sig)
    unfolding said_yes
    said_yes_within key sig = any_within (same_triple (triple_on b key sig)) yes_in told (no_yes key sig)

    yes_to_within : (rules : Rules) (claim : Claim)
        → yes_to (within family told) (triple_of rules b claim) ≡ yes_to told (triple_of rules b claim)
    yes_to_within rules claim = elim (claimed_key rules claim) as
        (λ k. yes_to (within family told) (option_map (λ k. triple_on b k (claimed_sig claim)) k)
        ≡ yes_to told (option_map (λ k. triple_on b k (claimed_sig claim)) k)) [
          | None ↦ refl
          | Some key ↦ said_yes_within key (claimed_sig claim)
        ]

    pub good_sigs_within : (s : Option State) → good_sigs (within family told) s b ≡ good_sigs told s b
    unfolding good_sigs
    good_sigs_within s = (let rules = own_rules s b.event in
        rw claims_within (ap (λ test. filter_map held_sig (filter test (claims_on told b)))
        (λ i claim. yes_to_within rules claim i)))

    no_backing : (w : Key) (t : Told) → Among t told → is_of_some family (told_body t) ≡ false
        → list_any (λ y. bytes_eq y.body b.bytes && same_key y.key w) (yes_in t) ≡ false
    no_backing w (took reader c claims) m k = refl
    no_backing w (heard reader c key sig true) m k = (let differs = other (heard reader c key sig true) m k in
        rw differs refl)
    no_backing w (heard reader c key sig false) m k = refl

    backs_within : (w : Key) → backs (within family told) b w ≡ backs told b w
    unfolding backs
    backs_within w = any_within (λ y. bytes_eq y.body b.bytes && same_key y.key w) yes_in told (no_backing w)

    pub signed_within : (s : Option State) → signed (within family told) s b ≡ signed told s b
    unfolding signed
    signed_within s = (let sigs = good_sigs_within s in rw sigs refl)

    pub backed_within : (s : Option State) → is_backed (within family told) s b ≡ is_backed told s b
    unfolding backers
    backed_within s = (let back : backs (within family told) b ≡ backs told b = λ i w. backs_within w i in rw back refl)

    -- and a log, whose members of the event's bytes are of the family too
    module _ (mode : Mode) (log : List Body) (apart_log : (c : Body) → Among c log → same_body c b ≡ true
        → is_of_some family c ≡ true) where
      abbrev s : Option State
      s = state log (prefix_of b.event)

      pub is_in_within : (log : List Body) → ((c : Body) → Among c log → same_body c b ≡ true
          → is_of_some family c ≡ true) → is_in (exported family log) b ≡ is_in log b
      is_in_within [] apart = refl
      is_in_within (c ∷ log) apart = (let ih = is_in_within log (λ d m. apart d (inr m)) in
          elim (cases_Bool (is_of_some family c)) [
            | inl k ↦ rw (k, ih) refl
            | inr k ↦ elim (cases_Bool (same_body c b)) [
              | inl t ↦ (let y = apart c (inl refl) t in cc)
              | inr t ↦ rw (k, t) ih
            ]
          ])

      state_within : state (exported family log) (prefix_of b.event) ≡ s
      state_within = state_family family (prefix_of b.event) log (family_of family b of)

      -- of a delegator of the family
      pub sealed_within : (d : Prefix) → Among d family → is_sealed (exported family log) d b.event
          ≡ is_sealed log d b.event
      sealed_within d m = any_family (λ c. is_of d c && seals c.event b.event)
          (λ c h. of_family family d c m (and_parts (is_of d c) (seals c.event b.event) h).0) log

      pub forbids_within : (d : Prefix) → Among d family → forbids (exported family log) d ≡ forbids log d
      forbids_within d m = any_family (λ c. is_of d c && has_trait (codes "DND") c.event)
          (λ c h. of_family family d c m (and_parts (is_of d c) (has_trait (codes "DND") c.event) h).0) log

      -- a delegator that sealed among the family's events is of the family
      sealer_within : (d : Prefix) → is_sealed (exported family log) d b.event ≡ true → Among d family
      sealer_within d h =
          let c = passing (λ c. is_of d c && seals c.event b.event) (exported family log) h in
          let of_c = (left_among (is_of_some family) log c.0 c.1).1 in
          let is = same_prefix_is (prefix_of c.0.event) d (and_parts (is_of d c.0) (seals c.0.event b.event) c.2).0 in
          subst (λ p. Among p family) is (family_of family c.0 of_c)

      anchored_within : ((d : Prefix) → delegator_of s b.event ≡ Some d → Among d family)
          → anchored log s b.event ≡ true → anchored (exported family log) s b.event ≡ true
      anchored_within own h = anchored_more log (exported family log) s b.event
          (λ d is sealed allows. (sealed_within d (own d is) ∙ sealed, forbids_within d (own d is) ∙ allows)) h

      anchored_without : anchored (exported family log) s b.event ≡ true → anchored log s b.event ≡ true
      anchored_without h = anchored_more (exported family log) log s b.event
          (λ d is sealed allows. (let own = sealer_within d sealed in
          (sym (sealed_within d own) ∙ sealed, sym (forbids_within d own) ∙ allows))) h

      -- WITHIN: what is ready by all is ready by the family's own, where its delegator is of the family
      pub ready_within : (is_local mode ≡ false → (d : Prefix) → delegator_of s b.event ≡ Some d → Among d family)
          → is_ready mode told log b ≡ true → is_ready mode (within family told) (exported family log) b ≡ true
      ready_within own h =
          let r = ready_parts mode told log b h in
          ready_by mode (within family told) (exported family log) b (record {
            event = r.event;
            new = is_in_within log apart_log ∙ r.new;
            taken = ap (λ o. takes o b.event) state_within ∙ r.taken;
            is_signed = ap (λ o. signed (within family told) o b) state_within ∙ signed_within s ∙ r.is_signed;
            full = ap (λ o. is_local mode || (is_backed (within family told) o b
                && anchored (exported family log) o b.event)) state_within ∙ full r.full;
          })
        where
          full : (is_local mode || (is_backed told s b && anchored log s b.event)) ≡ true
              → (is_local mode || (is_backed (within family told) s b
              && anchored (exported family log) s b.event)) ≡ true
          full f = elim (cases_Bool (is_local mode)) [
            | inl k ↦ rw k refl
            | inr k ↦ (let both = and_parts (is_backed told s b) (anchored log s b.event) (rw k at f) in
                let now : (is_backed (within family told) s b && anchored (exported family log) s b.event) ≡ true
                = and_from _ _ (backed_within s ∙ both.0) (anchored_within (own k) both.1) in rw k now)
          ]

      -- WITHOUT: what is ready by the family's own is ready by all
      pub ready_without : is_ready mode (within family told) (exported family log) b ≡ true
          → is_ready mode told log b ≡ true
      ready_without h =
          let r = ready_parts mode (within family told) (exported family log) b h in
          ready_by mode told log b (record {
            event = r.event;
            new = sym (is_in_within log apart_log) ∙ r.new;
            taken = ap (λ o. takes o b.event) (sym state_within) ∙ r.taken;
            is_signed = sym (signed_within s) ∙ ap (λ o. signed (within family told) o b) (sym state_within)
                ∙ r.is_signed;
            full = full (ap (λ o. is_local mode || (is_backed (within family told) o b
                && anchored (exported family log) o b.event)) (sym state_within) ∙ r.full);
          })
        where
          full : (is_local mode || (is_backed (within family told) s b
              && anchored (exported family log) s b.event)) ≡ true
              → (is_local mode || (is_backed told s b && anchored log s b.event)) ≡ true
          full f = elim (cases_Bool (is_local mode)) [
            | inl k ↦ rw k refl
            | inr k ↦ (let both = and_parts (is_backed (within family told) s b)
                (anchored (exported family log) s b.event) (rw k at f) in
                let now : (is_backed told s b && anchored log s b.event) ≡ true
                = and_from _ _ (sym (backed_within s) ∙ both.0) (anchored_without both.1) in rw k now)
          ]
