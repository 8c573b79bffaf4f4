-- Why events of a family wait, and which bodies count, depends on the family's own entries alone.
use Rattle.std.proofs.Common.{◌≡◌, ◌⊎◌, true, false, not, ◌&&◌, ◌||◌, List, [], ◌∷◌, ◌++◌, Option, Some, None, is_none, refl, sym, ◌∙◌, ap, inl, inr, append-nil}
use Rattle.std.specs.Prelude.{filter}
use Rattle.std.proofs.lemmas.Bool.{cases_Bool}
use Rattle.cesr_codes.specs.declared.prefix.Prefix.{Prefix}
use Rattle.event_body.specs.declared.event_body.event.Event.{Event}
use Rattle.event_body.specs.declared.event_body.event.Event.TheVariants.{Icp, Rot, Ixn, Dip, Drt, Rct}
use Rattle.event_body.specs.EventBody.Events.{prefix_of, is_inception, is_receipt}
use Rattle.key_state.specs.KeyStates.{first_true}
use Rattle.key_state.specs.States.{State}
use Rattle.key_state.proofs.Among.{Among, among, contained, left_among}
use Rattle.journal.specs.declared.journal.body.Body.{Body}
use Rattle.journal.specs.declared.journal.mode.Mode.{Mode}
use Rattle.journal.specs.declared.journal.why.Why.TheVariants.{Predecessor, Signatures, Next, Receipts, Seal, Never}
use Rattle.journal.specs.Journal.Accepted.{accepted}
use Rattle.journal.specs.Journal.Conflicts.{counted, counts}
use Rattle.journal.specs.Journal.Grown.{IsGrown}
use Rattle.journal.specs.Journal.History.{Told, bodies}
use Rattle.journal.specs.Journal.Logs.{is_in, precedes, predecessor, same_body, stands, state, stepped}
use Rattle.journal.specs.Journal.Questions.{state_before}
use Rattle.journal.specs.Journal.Readiness.{is_local, meets_before, meets_own}
use Rattle.journal.specs.Journal.Seals.{anchored, delegator_of}
use Rattle.journal.specs.Journal.Waiting.{is_lost, reason_under, why_waits}
use Rattle.journal.proofs.JournalLemmas.Keeping.{accepted_grown}
use Rattle.journal_views.proofs.JournalLawsLemmas.Followed.{precedes_parts, stands_same}
use Rattle.export_core.specs.ExportLaws.Export.{delegator_if, exported, is_of_some}
use Rattle.export_core.specs.ExportLaws.Families.{HaveOneReading, IsClosed, NamesItsOwn, told_bodies, told_body, within}
use Rattle.export_core.specs.ExportLaws.FamilyReport.{FamilyReportLaw}
use Rattle.export_core.proofs.ExportLawsLemmas.Families.{apart, bodies_within, came_all, closed_by, entry_all, families}
use Rattle.export_core.proofs.ExportLawsLemmas.Family.{before_family, family_of, find_family, of_family, state_family}
use Rattle.export_core.proofs.ExportLawsLemmas.Filters.{filter_alike, filters_turned}
use Rattle.export_core.proofs.ExportLawsLemmas.Rounds.{accepted_from, bodies_came, came}
use Rattle.export_core.proofs.ExportLawsLemmas.Within.{backed_within, forbids_within, good_sigs_within, is_in_within, sealed_within, signed_within}

-- the delegator of an event is the one that it names or that of the state
named_or_state : (o : Option State) (e : Event) (d : Prefix) → delegator_of o e ≡ Some d
    → (delegator_if (stepped None e) ≡ Some d) ⊎ (delegator_if o ≡ Some d)
named_or_state o (Dip e) d h = inl h
named_or_state None (Drt e) d h = cc
named_or_state (Some s) (Drt e) d h = inr h
named_or_state None (Icp e) d h = cc
named_or_state None (Rot e) d h = cc
named_or_state None (Ixn e) d h = cc
named_or_state None (Rct e) d h = cc
named_or_state (Some s) (Icp e) d h = cc
named_or_state (Some s) (Rot e) d h = cc
named_or_state (Some s) (Ixn e) d h = cc
named_or_state (Some s) (Rct e) d h = cc

module _ (mode : Mode) (base : List Body) (told : List Told) (family : List Prefix)
    (one : HaveOneReading (told_bodies base told)) (grown : IsGrown base)
    (names : is_local mode ≡ false → NamesItsOwn (came base told) family) where
  closed : is_local mode ≡ false → IsClosed (accepted mode base told) family
  closed k = closed_by mode base told family (names k)

  abbrev log : List Body
  log = accepted mode base told

  abbrev part : List Told
  part = within family told

  abbrev own : List Body
  own = exported family log

  abbrev whole : told ≡ told ++ []
  whole = sym (append-nil told)

  module _ (b : Body) (m : Among b (bodies base told)) (of : is_of_some family b ≡ true) where
    abbrev its : Prefix
    its = prefix_of b.event

    b_came : Among b (came base told)
    b_came = bodies_came base told b m

    b_all : Among b (told_bodies base told)
    b_all = came_all mode base told family one closed told [] whole b b_came

    apart_told : (t : Told) → Among t told → same_body (told_body t) b ≡ true → is_of_some family (told_body t) ≡ true
    apart_told t n same = apart mode base told family one closed b (told_body t) b_all
        (entry_all mode base told family one closed told [] whole t n) of same

    apart_log : (c : Body) → Among c log → same_body c b ≡ true → is_of_some family c ≡ true
    apart_log c n same = apart mode base told family one closed b c b_all
        (came_all mode base told family one closed told [] whole c (accepted_from mode base told c n)) of same

    prior_alike : predecessor own b ≡ predecessor log b
    unfolding predecessor
    prior_alike = find_family family (precedes b)
        (λ c h. of_family family its c (family_of family b of) (precedes_parts b c h).0) log

    before_alike : state_before own b ≡ state_before log b
    before_alike = before_family family log b (accepted_grown mode base told grown) of

    stands_alike : stands own b ≡ stands log b
    stands_alike = stands_same own log b before_alike

    own_met : (s : Option State) → meets_own part s b ≡ meets_own told s b
    own_met s = (let sigs = good_sigs_within family told b of apart_told s in rw sigs refl)

    before_met : (s : Option State) → meets_before part s b ≡ meets_before told s b
    before_met s = (let sigs = good_sigs_within family told b of apart_told s in rw sigs refl)

    -- its delegator is of the family
    own_delegator : is_local mode ≡ false → (d : Prefix) → delegator_of (state log its) b.event ≡ Some d
        → Among d family
    own_delegator k d h = elim (named_or_state (state log its) b.event d h) [
      | inl n ↦ among family d (names k b d (contained (came base told) b b_came) of n)
      | inr n ↦ among family d (closed k its d (contained family its (family_of family b of)) n)
    ]

    sealed_alike : is_local mode ≡ false → anchored own (state log its) b.event ≡ anchored log (state log its) b.event
    unfolding anchored
    sealed_alike k = at (delegator_of (state log its) b.event) refl
      where
        at : (o : Option Prefix) → delegator_of (state log its) b.event ≡ o
            → anchored own (state log its) b.event ≡ anchored log (state log its) b.event
        at None e = rw e refl
        at (Some d) e =
            let inside = own_delegator k d e in
            let seal = sealed_within family told b of apart_told mode log apart_log d inside in
            let forbid = forbids_within family told b of apart_told mode log apart_log d inside in
            rw (e, seal, forbid) refl

    lost_alike : is_lost mode own (state log its) b ≡ is_lost mode log (state log its) b
    lost_alike = (let prior = prior_alike in let stood = stands_alike in elim (cases_Bool (is_local mode)) [
      | inl k ↦ rw (k, prior, stood) refl
      | inr k ↦ at k (delegator_of (state log its) b.event) refl
    ])
      where
        at : is_local mode ≡ false → (o : Option Prefix) → delegator_of (state log its) b.event ≡ o
            → is_lost mode own (state log its) b ≡ is_lost mode log (state log its) b
        at k None e = (let prior = prior_alike in let stood = stands_alike in rw (e, prior, stood) refl)
        at k (Some d) e =
            let prior = prior_alike in let stood = stands_alike in
            let forbid = forbids_within family told b of apart_told mode log apart_log d (own_delegator k d e) in
            rw (e, prior, stood, forbid) refl

    seal_alike : (not (is_local mode) && not (anchored own (state log its) b.event))
        ≡ (not (is_local mode) && not (anchored log (state log its) b.event))
    seal_alike = elim (cases_Bool (is_local mode)) [
      | inl k ↦ rw k refl
      | inr k ↦ ap (λ a. not (is_local mode) && not a) (sealed_alike k)
    ]

    under_alike : reason_under mode part own (state log its) b ≡ reason_under mode told log (state log its) b
    under_alike =
        let s = state log its in
        let lost = lost_alike in let prior = prior_alike in let own = own_met s in let before = before_met s in
        let backed = backed_within family told b of apart_told s in let seal = seal_alike in
        λ i. first_true ((lost i, Never) ∷ (not (is_inception b.event) && is_none (prior i), Predecessor)
        ∷ (not (own i), Signatures) ∷ (not (before i), Next)
        ∷ (not (is_local mode) && not (backed i), Receipts) ∷ (seal i, Seal) ∷ [])

    -- REASONS
    why_alike : why_waits mode part own b ≡ why_waits mode told log b
    unfolding why_waits
    why_alike =
        let old = is_in_within family told b of apart_told mode log apart_log log apart_log in
        let reason : reason_under mode part own (state own its) b ≡ reason_under mode told log (state log its) b
        = ap (λ o. reason_under mode part own o b) (state_family family its log (family_of family b of))
        ∙ under_alike in
        elim (cases_Bool (is_receipt b.event || is_in log b)) [
          | inl k ↦ rw (old, k) refl
          | inr k ↦ rw (old, k) reason
        ]

    counts_alike : counts part own b ≡ counts told log b
    unfolding counts
    counts_alike =
        let stood = stands_alike in let before = before_alike in
        let good = signed_within family told b of apart_told (state_before log b) in
        rw (stood, before, good) refl

  accepts : accepted mode (exported family base) part ≡ own
  accepts = (families mode base told family one closed).same

  came_alike : bodies (exported family base) part ≡ exported family (bodies base told)
  came_alike = bodies_within mode base told family one closed told [] whole

  counting : counted mode (exported family base) part ≡ exported family (counted mode base told)
  counting =
      (λ i. filter (counts part (accepts i)) (came_alike i))
      ∙ filter_alike (counts part own) (counts told log) (exported family (bodies base told))
      (λ b m. let l = left_among (is_of_some family) (bodies base told) b m in counts_alike b l.0 l.1)
      ∙ filters_turned (counts told log) (is_of_some family) (bodies base told)

-- REPORT
pub family_report : FamilyReportLaw
family_report mode base told family one grown names = record {
  came = came_alike mode base told family one grown names;
  reasons = λ b m of. ap (λ log. why_waits mode (within family told) log b)
      (accepts mode base told family one grown names)
      ∙ why_alike mode base told family one grown names b (among (bodies base told) b m) of;
  counting = counting mode base told family one grown names;
}
