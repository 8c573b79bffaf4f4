-- What is accepted of a family depends on its own entries alone: each round over all bodies that accepts an event
-- of the family is a round over the family's own, and every other round changes nothing there.
use Rattle.std.proofs.Common.{◌≡◌, ◌⊎◌, true, false, List, [], ◌∷◌, ◌++◌, map, Option, Some, None, is_none, refl, sym, ◌∙◌, ap, subst, inl, inr, append_assoc, append-nil}
use Rattle.std.specs.Prelude.{filter, flat_map, fold}
use Rattle.std.specs.List.{list_any}
use Rattle.std.specs.Cmp.Lexicographic.{bytes_decides}
use Rattle.std.proofs.lemmas.Bool.{cases_Bool}
use Rattle.std.proofs.lemmas.List.Elements.{filter-append}
use Rattle.cesr_codes.specs.declared.prefix.Prefix.{Prefix}
use Rattle.event_body.specs.EventBody.Events.{prefix_of}
use Rattle.event_body.specs.EventBody.Judging.{SpellsEvent}
use Rattle.event_body.proofs.EventBodyLemmas.Whole.{one_event}
use Rattle.key_state.specs.KeyStates.{misfit}
use Rattle.key_state.specs.Same.{distinct, same_prefix}
use Rattle.key_state.specs.States.{State}
use Rattle.journal.specs.declared.journal.body.Body.{Body}
use Rattle.journal.specs.declared.journal.mode.Mode.{Mode}
use Rattle.journal.specs.Journal.Acceptance.{Settles, grown_by, more, rest}
use Rattle.journal.specs.Journal.Accepted.{accepted}
use Rattle.journal.specs.Journal.History.{Told, bodies, heard, taken, took}
use Rattle.journal.specs.Journal.Logs.{is_of, live, live_with, same_body, state, stepped}
use Rattle.journal.specs.Journal.Readiness.{is_local, is_ready}
use Rattle.journal.proofs.JournalLemmas.Accepting.{accepted_extends}
use Rattle.journal.proofs.JournalLemmas.Keeping.{accepted_ends}
use Rattle.journal.proofs.JournalLemmas.Settling.{Settles-unique}
use Rattle.quorum_laws.specs.Backing.{AreSpelled}
use Rattle.quorum_laws.proofs.Agreeing.{spelled_at}
use Rattle.key_state.proofs.Among.{Among, among, among_left, among_map, among_right, contained, found, left_among}
use Rattle.export_core.specs.ExportLaws.Export.{delegator_if, exported, is_of_some}
use Rattle.export_core.specs.ExportLaws.Families.{FamilyLaw, HaveOneReading, IsClosed, IsPart, NamedFamilyLaw, NamesItsOwn, told_bodies, told_body, within}
use Rattle.export_core.proofs.ExportLawsLemmas.Family.{delegator_is, delegator_stays, family_of, moved_delegator, of_family, own_family, state_family}
use Rattle.export_core.proofs.ExportLawsLemmas.Ready.{ready_parts}
use Rattle.export_core.proofs.ExportLawsLemmas.Filters.{distinct_filter, find_filter, none_filter}
use Rattle.claim_table.proofs.CoreLawsLemmas.Entries.{accepted_settles}
use Rattle.export_core.proofs.ExportLawsLemmas.Rounds.{accepted_from, bodies_came, came, came_told, rounds_extend, told_more}
use Rattle.export_core.proofs.ExportLawsLemmas.Within.{ready_within, ready_without}

module _ (mode : Mode) (base : List Body) (whole : List Told) (family : List Prefix)
    (one : HaveOneReading (told_bodies base whole))
    (closed : is_local mode ≡ false → IsClosed (accepted mode base whole) family) where
  abbrev all : List Body
  all = told_bodies base whole

  -- bodies of the same bytes are of the family alike
  pub alike : (b c : Body) → Among b all → Among c all → same_body b c ≡ true
      → is_of_some family b ≡ is_of_some family c
  alike b c m n same = ap (λ q. list_any (λ p. same_prefix q p) family)
      (one b c (contained all b m) (contained all c n) ((bytes_decides b.bytes c.bytes).0 same))

  pub apart : (b c : Body) → Among b all → Among c all → is_of_some family b ≡ true → same_body c b ≡ true
      → is_of_some family c ≡ true
  apart b c m n of same = alike c b n m same ∙ of

  module _ (seen later : List Told) (split : whole ≡ seen ++ later) where
    pub came_all : (b : Body) → Among b (came base seen) → Among b all
    came_all b m = came_told base whole b (subst (λ told. Among b (came base told)) (sym split)
        (told_more base seen later b m))

    pub entry_all : (t : Told) → Among t seen → Among (told_body t) all
    entry_all t m = among_right base (map told_body whole) (told_body t)
        (among_map told_body whole t (subst (λ told. Among t told) (sym split) (among_left seen later t m)))

    -- the bodies of the family's entries are the family's bodies
    taken_within : (told : List Told) → flat_map taken (within family told) ≡ exported family (flat_map taken told)
    taken_within [] = refl
    taken_within (took reader b claims ∷ told) =
        let ih = taken_within told in
        elim (cases_Bool (is_of_some family b)) [ inl k ↦ rw (k, ih) refl | inr k ↦ rw (k, ih) refl ]
    taken_within (heard reader b key sig verdict ∷ told) =
        let ih = taken_within told in
        elim (cases_Bool (is_of_some family b)) [ inl k ↦ rw (k, ih) refl | inr k ↦ rw (k, ih) refl ]

    pub bodies_within : bodies (exported family base) (within family seen) ≡ exported family (bodies base seen)
    unfolding bodies
    bodies_within =
        ap (λ xs. distinct same_body (exported family base ++ xs)) (taken_within seen)
        ∙ ap (distinct same_body) (sym (filter-append (is_of_some family) base (flat_map taken seen)))
        ∙ distinct_filter same_body (is_of_some family) (came base seen)
        (λ b c m n same. alike b c (came_all b m) (came_all c n) same)

    -- what is accepted so far is closed too
    pub closed_here : is_local mode ≡ false → (p d : Prefix) → Among p family
        → delegator_if (state (accepted mode base seen) p) ≡ Some d → Among d family
    closed_here k p d m h =
        let ext = accepted_extends mode base seen later in
        let e : accepted mode base whole ≡ accepted mode base seen ++ ext.0 = ap (accepted mode base) split ∙ ext.1 in
        among family d (closed k p d (contained family p m)
        (subst (λ xs. delegator_if (state xs p) ≡ Some d) (sym e)
        (delegator_stays p (accepted mode base seen) ext.0 d h)))

    -- ROUNDS: those that end with what is accepted so far
    rounds_within : {log end : List Body} → end ≡ accepted mode base seen
        → Settles (is_ready mode seen) (bodies base seen) log end
        → Settles (is_ready mode (within family seen)) (exported family (bodies base seen)) (exported family log)
        (exported family end)
    rounds_within {log} {end} ends s = of s (rounds_extend s)
      where
        -- what has the bytes of an event of the family is of the family, also in the log so far
        log_apart : (log new : List Body) → end ≡ log ++ new → (x : Body) → Among x all → is_of_some family x ≡ true
            → (c : Body) → Among c log → same_body c x ≡ true → is_of_some family c ≡ true
        log_apart log new e x x_all of c n same =
            let c_there = subst (λ xs. Among c xs) (sym e ∙ ends) (among_left log new c n) in
            apart x c x_all (came_all c (accepted_from mode base seen c c_there)) of same

        ready_less : (log new : List Body) → end ≡ log ++ new → (x : Body) → Among x (bodies base seen)
            → is_of_some family x ≡ true → is_ready mode (within family seen) (exported family log) x ≡ true
            → is_ready mode seen log x ≡ true
        ready_less log new e x m of r =
            let x_all = came_all x (bodies_came base seen x m) in
            ready_without family seen x of (λ t n same. apart x (told_body t) x_all (entry_all t n) of same) mode log
            (log_apart log new e x x_all of) r

        ready_more : (log new : List Body) (x : Body) → end ≡ log ++ x ∷ new → Among x (bodies base seen)
            → is_of_some family x ≡ true → is_ready mode seen log x ≡ true
            → is_ready mode (within family seen) (exported family log) x ≡ true
        ready_more log new x e m of r =
            let x_all = came_all x (bodies_came base seen x m) in
            let its = prefix_of x.event in
            let taken = (ready_parts mode seen log x r).taken in
            ready_within family seen x of (λ t n same. apart x (told_body t) x_all (entry_all t n) of same) mode log
            (log_apart log (x ∷ new) e x x_all of)
            (λ k d is. closed_here k its d (family_of family x of)
            (subst (λ xs. delegator_if (state xs its) ≡ Some d) (sym e ∙ ends)
            (delegator_is log new x d taken is)))
            r

        of : {log : List Body} → Settles (is_ready mode seen) (bodies base seen) log end
            → (new : List Body) × (end ≡ log ++ new)
            → Settles (is_ready mode (within family seen)) (exported family (bodies base seen)) (exported family log)
            (exported family end)
        of (rest {accepted = log} e) ext = rest (none_filter (is_ready mode seen log)
            (is_ready mode (within family seen) (exported family log)) (is_of_some family) (bodies base seen)
            (ready_less log ext.0 ext.1) e)
        of (more {accepted = log} {b = b} e s) ext =
            let f = found (is_ready mode seen log) (bodies base seen) b e in
            let next = rounds_extend s in
            let ih = of s next in
            elim (cases_Bool (is_of_some family b)) [
              | inl k ↦ (let longer : exported family (log ++ b ∷ []) ≡ exported family log ++ b ∷ []
                  = filter-append (is_of_some family) log (b ∷ []) ∙ (rw k refl) in
                  let there = find_filter (is_ready mode seen log)
                  (is_ready mode (within family seen) (exported family log)) (is_of_some family)
                  (bodies base seen) b (ready_less log ext.0 ext.1) e k
                  (ready_more log next.0 b (next.1 ∙ append_assoc log (b ∷ []) next.0) f.0 k f.1) in
                  more there (subst (λ xs. Settles (is_ready mode (within family seen))
                  (exported family (bodies base seen)) xs (exported family end)) longer ih))
              | inr k ↦ (let same : exported family (log ++ b ∷ []) ≡ exported family log
                  = filter-append (is_of_some family) log (b ∷ []) ∙ (rw k (append-nil (exported family log))) in
                  subst (λ xs. Settles (is_ready mode (within family seen))
                  (exported family (bodies base seen)) xs (exported family end)) same ih)
            ]

  abbrev own : List Body
  own = exported family base

  -- ONE ENTRY
  entry_within : (seen later : List Told) (t : Told) → whole ≡ (seen ++ t ∷ []) ++ later
      → accepted mode own (within family seen) ≡ exported family (accepted mode base seen)
      → accepted mode own (within family (seen ++ t ∷ [])) ≡ exported family (accepted mode base (seen ++ t ∷ []))
  entry_within seen later t split sofar =
      let now = within family (seen ++ t ∷ []) in
      let end = exported family (accepted mode base (seen ++ t ∷ [])) in
      let s = rounds_within (seen ++ t ∷ []) later split refl (accepted_settles mode base seen t) in
      let s' = subst (λ xs. Settles (is_ready mode now) xs (exported family (accepted mode base seen)) end)
      (sym (bodies_within (seen ++ t ∷ []) later split)) s in
      let s'' = subst (λ xs. Settles (is_ready mode now) (bodies own now) xs end) (sym sofar) s' in
      Settles-unique (is_ready mode now) (bodies own now) (mine (cases_Bool (is_of_some family (told_body t)))) s''
    where
      mine : (is_of_some family (told_body t) ≡ true) ⊎ (is_of_some family (told_body t) ≡ false)
          → Settles (is_ready mode (within family (seen ++ t ∷ []))) (bodies own (within family (seen ++ t ∷ [])))
          (accepted mode own (within family seen)) (accepted mode own (within family (seen ++ t ∷ [])))
      mine (inl k) =
          let e : within family (seen ++ t ∷ []) ≡ within family seen ++ t ∷ []
          = filter-append (λ t. is_of_some family (told_body t)) seen (t ∷ []) ∙ (rw k refl) in
          subst (λ now. Settles (is_ready mode now) (bodies own now) (accepted mode own (within family seen))
          (accepted mode own now)) (sym e) (accepted_settles mode own (within family seen) t)
      mine (inr k) =
          let e : within family (seen ++ t ∷ []) ≡ within family seen
          = filter-append (λ t. is_of_some family (told_body t)) seen (t ∷ [])
          ∙ (rw k (append-nil (within family seen))) in
          subst (λ now. Settles (is_ready mode now) (bodies own now) (accepted mode own (within family seen))
          (accepted mode own now)) (sym e) (rest (accepted_ends mode own (within family seen)))

  entries_within : (seen later : List Told) → whole ≡ seen ++ later
      → accepted mode own (within family seen) ≡ exported family (accepted mode base seen)
      → accepted mode own (within family whole) ≡ exported family (accepted mode base whole)
  entries_within seen [] split sofar =
      let e = split ∙ append-nil seen in
      subst (λ told. accepted mode own (within family told) ≡ exported family (accepted mode base told)) (sym e) sofar
  entries_within seen (t ∷ later) split sofar =
      let e = split ∙ sym (append_assoc seen (t ∷ []) later) in
      entries_within (seen ++ t ∷ []) later e (entry_within seen later t e sofar)

  begun_within : accepted mode own (within family []) ≡ exported family (accepted mode base [])
  unfolding accepted grown_by
  begun_within = refl

same_live : (p : Prefix) (xs ys : List Body) → filter (is_of p) xs ≡ filter (is_of p) ys → live xs p ≡ live ys p
unfolding live
same_live p xs ys e = ap (fold live_with []) e

-- the family's events are a part
part_of : (family : List Prefix) (whole part : List Body) → part ≡ exported family whole → IsPart family whole part
part_of family whole part e = record {
  same = e;
  events = λ p m. ap (filter (is_of p)) e ∙ own_family family p whole (among family p m);
  live_events = λ p m. same_live p part whole (ap (filter (is_of p)) e
      ∙ own_family family p whole (among family p m));
  states = λ p m. ap (λ xs. state xs p) e ∙ state_family family p whole (among family p m);
}

-- FAMILIES
pub families : FamilyLaw
families mode base told family one closed =
    part_of family (accepted mode base told) (accepted mode (exported family base) (within family told))
    (entries_within mode base told family one closed [] told refl (begun_within mode base told family one closed))

-- the delegator of a state is that of an inception among the events
delegator_from : (xs : List Body) (o : Option State) (d : Prefix)
    → delegator_if (fold (λ s b. stepped s b.event) o xs) ≡ Some d
    → (delegator_if o ≡ Some d) ⊎ ((b : Body) × Among b xs × (delegator_if (stepped None b.event) ≡ Some d))
delegator_from [] o d h = inl h
delegator_from (x ∷ xs) o d h = elim (delegator_from xs (stepped o x.event) d h) [
  | inr r ↦ inr (r.0, inr r.1, r.2)
  | inl l ↦ of o l
]
  where
    of : (o : Option State) → delegator_if (stepped o x.event) ≡ Some d
        → (delegator_if o ≡ Some d) ⊎ ((b : Body) × Among b (x ∷ xs) × (delegator_if (stepped None b.event) ≡ Some d))
    of None k = inr (x, inl refl, k)
    of (Some s) k = inl (back s k)
      where
        back : (s : State) → delegator_if (stepped (Some s) x.event) ≡ Some d → s.delegator ≡ Some d
        back s k = elim (cases_Bool (is_none (misfit s x.event))) [
          | inl f ↦ sym (moved_delegator s x.event) ∙ (rw f at k)
          | inr f ↦ rw f at k
        ]

pub closed_by : (mode : Mode) (base : List Body) (told : List Told) (family : List Prefix)
    → NamesItsOwn (came base told) family → IsClosed (accepted mode base told) family
unfolding state
closed_by mode base told family names p d m h =
    elim (delegator_from (filter (is_of p) (accepted mode base told)) None d h) [
      | inl none ↦ cc
      | inr r ↦ (let l = left_among (is_of p) (accepted mode base told) r.0 r.1 in
          let inside = contained (came base told) r.0 (accepted_from mode base told r.0 l.0) in
          names r.0 d inside (of_family family p r.0 (among family p m) l.1) r.2)
    ]

pub named_families : NamedFamilyLaw
named_families mode base told family one names = families mode base told family one
    (λ k. closed_by mode base told family (names k))

-- READ ONCE: where each body's event is the one that its bytes spell, bodies of the same bytes are of one identifier
pub spelled_once : (all : List Body) → AreSpelled all → HaveOneReading all
spelled_once all spelled b c m n e =
    ap prefix_of (one_event b.event c.event b.bytes (spelled_at all b spelled m)
    (subst (λ text. SpellsEvent c.event text) (sym e) (spelled_at all c spelled n)))
