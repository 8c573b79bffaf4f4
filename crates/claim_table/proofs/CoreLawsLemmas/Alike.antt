-- States that differ in their live events alone decide the same of an event.
use Rattle.std.proofs.Common.{◌≡◌, ◌++◌, ◌∷◌, [], List, Some, refl, ◌∙◌, ap}
use Rattle.cesr_codes.specs.declared.digest.Digest.{Digest}
use Rattle.cesr_codes.specs.declared.indexed_sig.IndexedSig.{IndexedSig}
use Rattle.event_body.specs.declared.event_body.event.Event.{Event}
use Rattle.event_body.specs.declared.event_body.event.Event.TheVariants.{Icp, Rot, Ixn, Dip, Drt, Rct}
use Rattle.key_state.specs.Exposure.{exposed, own_rules}
use Rattle.key_state.specs.States.{State}
use Rattle.journal.specs.declared.journal.body.Body.{Body}
use Rattle.journal.specs.Journal.History.{Told}
use Rattle.journal.specs.Journal.Readiness.{signed, good_sigs, meets_next, is_backed}
use Rattle.claim_table.specs.CoreLaws.Alike.{AreAlike}

-- RULES: an event has the same rules under both
pub own_rules-alike : (s t : State) → AreAlike s t → (e : Event) → own_rules (Some s) e ≡ own_rules (Some t) e
own_rules-alike s t alike e = same e ∙ ap (λ t. own_rules (Some t) e) alike
  where
    same : (e : Event) → own_rules (Some s) e ≡ own_rules (Some (record s { est_sn = t.est_sn; since = t.since })) e
    same (Icp e) = refl
    same (Rot e) = refl
    same (Ixn e) = refl
    same (Dip e) = refl
    same (Drt e) = refl
    same (Rct e) = refl

-- a state is alike with itself, and with one further event
pub alike-itself : (s : State) → AreAlike s s
alike-itself s = refl

pub alike-grown : (s t : State) (said : Digest) → AreAlike s t → AreAlike s (record t { since = t.since ++ said ∷ [] })
alike-grown s t said alike = ap longer alike
  where
    longer : State → State
    longer t = record t { since = t.since ++ said ∷ [] }

module _ (s t : State) (alike : AreAlike s t) where
  -- they open the same commitments
  pub meets_next-alike : (e : Event) (sigs : List IndexedSig) → meets_next (Some s) e sigs ≡ meets_next (Some t) e sigs
  unfolding exposed
  meets_next-alike e sigs = same e ∙ ap (λ t. meets_next (Some t) e sigs) alike
    where
      same : (e : Event) → meets_next (Some s) e sigs ≡ meets_next (Some (record s { est_sn = t.est_sn; since = t.since })) e sigs
      same (Icp e) = refl
      same (Rot e) = refl
      same (Ixn e) = refl
      same (Dip e) = refl
      same (Drt e) = refl
      same (Rct e) = refl

  module _ (told : List Told) (b : Body) where
    pub good_sigs-alike : good_sigs told (Some s) b ≡ good_sigs told (Some t) b
    unfolding good_sigs
    good_sigs-alike = let rules = own_rules-alike s t alike b.event in rw rules refl

    -- SIGNED: the body is signed under both, or under neither
    pub signed-alike : signed told (Some s) b ≡ signed told (Some t) b
    unfolding signed
    signed-alike =
        let rules = own_rules-alike s t alike b.event in
        let sigs = good_sigs-alike in
        let next = meets_next-alike b.event (good_sigs told (Some t) b) in
        rw (rules, sigs, next) refl

    -- BACKED: and so is it backed
    pub is_backed-alike : is_backed told (Some s) b ≡ is_backed told (Some t) b
    is_backed-alike = let rules = own_rules-alike s t alike b.event in rw rules refl
