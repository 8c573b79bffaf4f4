-- The reports of alike journals are one text.
use Rattle.std.proofs.Common.{◌≡◌, ℕ, Bool, false, not, ◌&&◌, List, [], ◌++◌, Option, Some, None, refl, sym, ◌∙◌, ap, subst}
use Rattle.std.specs.Prelude.{All, filter, flat_map, is_some, map, ◌==◌, length}
use Rattle.std.specs.declared.cmp.Ordering.TheVariants.{Equal}
use Rattle.std.specs.Cmp.Lexicographic.{slice_cmp}
use Rattle.std.specs.List.Sorted.{IsPermutation}
use Rattle.std.specs.Ordering.{is_eq, nat_cmp}
use Rattle.std.proofs.lemmas.Bool.{and_parts, not-true}
use Rattle.std.proofs.lemmas.Cmp.{nat_list_cmp_total, on_total}
use Rattle.cesr_codes.specs.Spelling.{IsPrefix, prefix_text}
use Rattle.cesr_codes.specs.declared.prefix.Prefix.{Prefix}
use Rattle.event_body.specs.declared.event_body.event.Event.{Event}
use Rattle.event_body.specs.declared.event_body.event.Event.TheVariants.{Icp, Rot, Ixn, Dip, Drt, Rct}
use Rattle.event_body.specs.EventBody.Events.{is_receipt, prefix_of, sn_of}
use Rattle.event_body.specs.EventBody.Judging.{SpellsEvent}
use Rattle.event_body.specs.EventBody.Ranges.{AreInRange}
use Rattle.key_state.specs.Same.{same_prefix}
use Rattle.key_state.proofs.Among.{Among, contained, distinct_among, left_among, map_among}
use Rattle.keri_outside.specs.declared.limits.Limits.{Limits}
use Rattle.journal.specs.declared.journal.body.Body.{Body}
use Rattle.journal.specs.declared.journal.entry.Entry.{Entry}
use Rattle.journal.specs.declared.journal.mode.Mode.TheVariants.{Full}
use Rattle.journal.specs.declared.journal.why.Why.{Why}
use Rattle.journal.specs.Journal.Accepted.{accepted}
use Rattle.journal.specs.Journal.Conflicts.{IsConflictList, counted, counts}
use Rattle.journal.specs.Journal.History.{Told, bodies}
use Rattle.journal.specs.Journal.Journals.{InOrder, told_by}
use Rattle.journal.specs.Journal.Logs.{stands}
use Rattle.journal_views.specs.JournalLaws.Alike.{AreAlike, AreSame, identifiers_of}
use Rattle.journal_views.proofs.JournalLawsLemmas.Came.{accepted_came, bodies_differ, same_bytes}
use Rattle.journal_views.proofs.JournalLawsLemmas.Same.{confluence}
use Rattle.report_lines.specs.Report.{AreConflictLines, IsListing, behind_cmp, body_cmp, conflict_lines, events_lines, log_lines, prefix_cmp, prefixes_of, reason_of, state_lines, waiting_of, waits_lines}
use Rattle.report_lines.proofs.Ordered.{body_cmp_total}
use Rattle.validator_core.specs.ValidatorCore.View.{CoreView, accepted_by}
use Rattle.keri_roles.specs.CoreRoles.Confluence.{HaveOneText}
use Rattle.keri_roles.specs.CoreRoles.CoreTold.{core_of}
use Rattle.keri_roles.proofs.CoreRolesLemmas.NoConflicts.{both_tied, no_conflicts, one_of_prefixes, one_of_texts}
use Rattle.keri_roles.proofs.CoreRolesLemmas.OneListing.{one_listing}
use Rattle.keri_roles.proofs.CoreRolesLemmas.OneOrder.{all_at}

-- the prefix of an event in its ranges has its bytes
has_prefix : (e : Event) → AreInRange e → IsPrefix (prefix_of e)
has_prefix (Icp e) r = r.prefix_held
has_prefix (Rot e) r = r.prefix_held
has_prefix (Ixn e) r = r.prefix_held
has_prefix (Dip e) r = r.prefix_held
has_prefix (Drt e) r = r.prefix_held
has_prefix (Rct e) r = r.prefix_held

module _ (held others : List Body) (entries more : List Entry) (in_order : InOrder 0 held entries) (other_order : InOrder 0 others more)
    (spelled : All (λ b. SpellsEvent b.event b.bytes) held) (alike : AreAlike Full (told_by held entries) (told_by others more)) where
  abbrev told : List Told
  told = told_by held entries

  abbrev other : List Told
  other = told_by others more

  abbrev log : List Body
  log = accepted Full [] told

  pub same : AreSame Full told other
  same = confluence Full told other alike

  came_held : (b : Body) → Among b (bodies [] told) → IsPrefix (prefix_of b.event)
  came_held b m = has_prefix b.event (all_at (λ b. SpellsEvent b.event b.bytes) held b spelled (subst (Among b) (sym in_order) m)).has.ranges

  -- the identifiers of accepted events have their bytes
  identifier_held : (p : Prefix) → Among p (identifiers_of log) → IsPrefix p
  identifier_held p m =
      let (b, inside, is) = map_among (λ b. prefix_of b.event) log p (distinct_among same_prefix (map (λ b. prefix_of b.event) log) p m) in
      subst IsPrefix is (came_held b (accepted_came Full told b inside).0)

  one_identifier : (p q : Prefix) → Among p (identifiers_of log) → Among q (identifiers_of log) → prefix_cmp p q ≡ Equal → p ≡ q
  one_identifier p q m n e = one_of_prefixes p q (identifier_held p m) (identifier_held q n) (ap is_eq e)

  one_waits : (b c : Body) → Among b held → Among c held → body_cmp b c ≡ Equal → b ≡ c
  one_waits b c m n e =
      let first = both_tied (prefix_cmp (prefix_of b.event) (prefix_of c.event)) (behind_cmp b c) (ap is_eq e) in
      let second = both_tied (nat_cmp (sn_of b.event) (sn_of c.event)) (slice_cmp nat_cmp b.bytes c.bytes) first.1 in
      same_bytes (bodies [] told) b c (bodies_differ told) (subst (Among b) in_order m) (subst (Among c) in_order n) (one_of_texts b.bytes c.bytes second.1)

  -- a body that counts came, and is an event
  counted_came : (b : Body) → Among b (counted Full [] told) → Among b (bodies [] told) × (is_receipt b.event ≡ false)
  unfolding counts
  counted_came b m =
      let l = left_among (counts told log) (bodies [] told) b m in
      (l.0, not-true (is_receipt b.event) (and_parts (not (is_receipt b.event)) _ (and_parts (not (is_receipt b.event) && stands log b) _ l.1).0).0)

  none_conflict : (sets : List (List Body)) → IsConflictList Full [] told sets → sets ≡ []
  none_conflict = no_conflicts (counted Full [] told) (λ b m. came_held b (counted_came b m).0)
      (λ b c m n p sn. let x = counted_came b m in let y = counted_came c n in
      alike.one_each b c (contained (bodies [] told) b x.0) (contained (bodies [] told) c y.0) x.1 y.1 p sn)

  module _ (limits less : Limits) where
    abbrev one : CoreView
    one = core_of Full limits held entries

    abbrev two : CoreView
    two = core_of Full less others more

    one_logs : (text found : List ℕ) → IsListing prefix_cmp (log_lines (accepted_by one)) (prefixes_of (accepted_by one)) text
        → IsListing prefix_cmp (log_lines (accepted_by two)) (prefixes_of (accepted_by two)) found → text ≡ found
    one_logs text found = one_listing prefix_cmp (on_total prefix_text nat_list_cmp_total) (log_lines (accepted_by one)) (log_lines (accepted_by two))
        (prefixes_of (accepted_by one)) (prefixes_of (accepted_by two)) text found same.identifiers one_identifier
        (λ p m. let live = same.live_events p in let own = same.own p in let state = same.states p in λ i. events_lines (live i) (own i) ++ state_lines (state i))

    same_waits : (b : Body) → Among b held → waits_lines one b ≡ waits_lines two b
    same_waits b m = of (reason_of one b) (reason_of two b) refl refl (same.reasons b (contained (bodies [] told) b (subst (Among b) in_order m)))
      where
        of : (o p : Option Why) → reason_of one b ≡ o → reason_of two b ≡ p → reason_of one b ≡ reason_of two b → waits_lines one b ≡ waits_lines two b
        of None p e k s = (let f : reason_of two b ≡ None = sym s ∙ e in rw (e, f) refl)
        of (Some w) p e k s = (let f : reason_of two b ≡ Some w = sym s ∙ e in rw (e, f) refl)

    waiting_moved : IsPermutation (waiting_of one) (waiting_of two)
    waiting_moved =
        let here = ap (filter (λ b. is_some (reason_of one b))) in_order in let there = ap (filter (λ b. is_some (reason_of two b))) other_order in
        subst (λ xs. IsPermutation xs (waiting_of two)) (sym here) (subst (IsPermutation _) (sym there) same.waiting)

    one_waiting : (text found : List ℕ) → IsListing body_cmp (waits_lines one) (waiting_of one) text → IsListing body_cmp (waits_lines two) (waiting_of two) found → text ≡ found
    one_waiting text found =
        let inside : (b : Body) → Among b (waiting_of one) → Among b held = λ b m. (left_among (λ b. is_some (reason_of one b)) held b m).0 in
        one_listing body_cmp body_cmp_total (waits_lines one) (waits_lines two) (waiting_of one) (waiting_of two) text found waiting_moved
        (λ b c m n e. one_waits b c (inside b m) (inside c n) e) (λ b m. same_waits b (inside b m))

    one_conflict_text : (text found : List ℕ) (has finds : Bool) → AreConflictLines one text has → AreConflictLines two found finds → (text ≡ found) × (has ≡ finds)
    one_conflict_text text found has finds mine theirs =
        let sets = none_conflict mine.sets mine.sets_are ∙ sym (none_conflict theirs.sets ((same.conflicts theirs.sets).1 theirs.sets_are)) in
        (mine.text_is ∙ ap (flat_map conflict_lines) sets ∙ sym theirs.text_is, mine.has_conflicts_is ∙ ap (λ s. not (length s == 0)) sets ∙ sym theirs.has_conflicts_is)

  -- ONE TEXT
  pub one_text : HaveOneText held entries others more
  one_text limits less text found has finds mine theirs =
      let logs = one_logs limits less mine.logs theirs.logs mine.logs_are theirs.logs_are in
      let waits = one_waiting limits less mine.waits theirs.waits mine.waits_are theirs.waits_are in
      let conflicts = one_conflict_text limits less mine.conflicts theirs.conflicts has finds mine.conflicts_are theirs.conflicts_are in
      (mine.text_is ∙ (λ i. logs i ++ (waits i ++ conflicts.0 i)) ∙ sym theirs.text_is, conflicts.1)
