-- What follows of journals that accept the same: the same states, reasons to wait and conflicts.
use Rattle.std.proofs.Common.{◌≡◌, Bool, true, false, not, ◌&&◌, ◌||◌, List, [], ◌∷◌, ◌++◌, Option, Some, None, is_none, refl, sym, ◌∙◌, ap, subst, arith, inl, inr, append-nil, map, is_some}
use Rattle.std.specs.Prelude.{fold, codes}
use Rattle.std.specs.List.{list_any}
use Rattle.std.proofs.lemmas.Bool.{cases_Bool}
use Rattle.cesr_codes.specs.declared.prefix.Prefix.{Prefix}
use Rattle.event_body.specs.EventBody.Events.{prefix_of, is_inception, is_receipt}
use Rattle.key_state.specs.Exposure.{own_rules}
use Rattle.key_state.specs.KeyStates.{first_true}
use Rattle.key_state.specs.States.{State}
use Rattle.key_state.proofs.Same.{same_prefix_is, same_prefix_itself}
use Rattle.journal.specs.declared.journal.body.Body.{Body}
use Rattle.journal.specs.declared.journal.mode.Mode.{Mode}
use Rattle.journal.specs.declared.journal.why.Why.TheVariants.{Predecessor, Signatures, Next, Receipts, Seal, Never}
use Rattle.journal.specs.Journal.Accepted.{accepted}
use Rattle.journal.specs.Journal.Conflicts.{AreConflicts, counted, counts}
use Rattle.journal.specs.Journal.History.{Told, bodies, triple_of}
use Rattle.journal.specs.Journal.Logs.{is_in, is_of, live, live_with, predecessor, same_body, state, stands}
use Rattle.journal.specs.Journal.Questions.{state_before}
use Rattle.journal.specs.Journal.Readiness.{is_backed, is_local, meets_before, meets_own, signed}
use Rattle.journal.specs.Journal.Seals.{anchored, delegator_of, forbids, has_trait, is_sealed, seals}
use Rattle.journal.specs.Journal.Waiting.{is_lost, reason_under, why_waits}
use Rattle.journal_views.specs.JournalLaws.Alike.{AreAlike, AreSame, ConfluenceLaw, Leads, identifiers_of, waiting_of}
use Rattle.journal_views.proofs.JournalLawsLemmas.Permuted.{NoneAgain, differ_once, filter_once, permuted}
use Rattle.journal.proofs.JournalLemmas.Accepting.{same_body-refl}
use Rattle.journal.proofs.JournalLemmas.Different.{differ-distinct}
use Rattle.key_state.specs.Same.{same_prefix}
use Rattle.key_state.proofs.Among.{Among, among, among_distinct, among_left_by, among_map, contained, distinct_among, left_among, map_among, passed, passing}
use Rattle.journal_views.proofs.JournalLawsLemmas.Came.{accepted_came, accepted_more, bodies_differ, bodies_more, grown, same_bytes}
use Rattle.journal_views.proofs.JournalLawsLemmas.Confluence.{accepted_comes, backers_come, good_come}
use Rattle.journal_views.proofs.JournalLawsLemmas.Followed.{follows, inception_stands, predecessor_found, predecessor_from, predecessor_none, precedes_parts, same_before, same_own, stands_by, stands_same}
use Rattle.journal_views.proofs.JournalLawsLemmas.Growing.{BackersCome, GoodCome, backed_more, before_more, own_more, signed_more}
use Rattle.journal_views.proofs.JournalLawsLemmas.Numbered.{AreEvents, HasOne, all_counted, no_more, own, own_events, same_numbered}
use Rattle.journal_views.proofs.JournalLawsLemmas.Verdicts.{backs_by, triple_body, was_raised, yes_by}

-- tests that imply each other are the same
both_ways : (p q : Bool) → (p ≡ true → q ≡ true) → (q ≡ true → p ≡ true) → p ≡ q
both_ways true true f g = refl
both_ways true false f g = sym (f refl)
both_ways false true f g = g refl
both_ways false false f g = refl

-- tests of lists with the same members
any_same : (q : Body → Bool) (xs ys : List Body) → ((b : Body) → Among b xs → Among b ys) → ((b : Body) → Among b ys → Among b xs) → list_any q xs ≡ list_any q ys
any_same q xs ys f g = both_ways (list_any q xs) (list_any q ys)
    (λ h. let p = passing q xs h in passed q ys p.0 (f p.0 p.1) p.2) (λ h. let p = passing q ys h in passed q xs p.0 (g p.0 p.1) p.2)

-- HALF: what one way gives, of what the first was told
module _ (mode : Mode) (told other : List Told) (leads : Leads mode told other) (held : List Body) (one : HasOne held)
    (told_in : (b : Body) → Among b (bodies [] told) → Among b held) (other_in : (b : Body) → Among b (bodies [] other) → Among b held)
    (in_told : (b : Body) → Among b held → Among b (bodies [] told)) (in_other : (b : Body) → Among b held → Among b (bodies [] other)) where
  abbrev log : List Body
  log = accepted mode [] told

  abbrev there : List Body
  there = accepted mode [] other

  my_events : AreEvents held log
  my_events b m = (let c = accepted_came mode told b m in (told_in b c.0, c.1))

  their_events : AreEvents held there
  their_events b m = (let c = accepted_came mode other b m in (other_in b c.0, c.1))

  pub half : (b : Body) → Among b log → Among b there
  half = accepted_comes mode told other leads held one told_in other_in in_told in_other

  -- a body that stood once stands in the second
  pub stood_stands : (earlier later : List Told) → told ≡ earlier ++ later → (b : Body) → stands (accepted mode [] earlier) b ≡ true → stands there b ≡ true
  stood_stands earlier later e b h = elim (cases_Bool (is_inception b.event)) [
    | inl i ↦ inception_stands there b i
    | inr i ↦ (let f = follows (accepted mode [] earlier) b i h in
        let was = predecessor_found (accepted mode [] earlier) b f.prior f.is_prior in
        let mine : Among f.prior log = subst (λ xs. Among f.prior (accepted mode [] xs)) (sym e) (accepted_more mode earlier later f.prior was.0) in
        let p = predecessor_from there b f.prior (half f.prior mine) was.1 in
        let early : AreEvents held (accepted mode [] earlier) = λ c m. (let k = accepted_came mode earlier c m in (told_in c (subst (λ xs. Among c (bodies [] xs)) (sym e) (bodies_more earlier later c k.0)), k.1)) in
        let same = same_before held one (accepted mode [] earlier) there b f.prior p.0 (grown mode earlier) early (grown mode other) their_events f.is_prior p.1 in
        stands_by there b f.behind (sym same ∙ f.is_behind) f.taken)
  ]

  pub all_good : (s : Option State) (b : Body) → Among b held → GoodCome told other s b
  all_good s b inside c m said =
      let y = yes_by told (triple_of (own_rules s b.event) b c) said in
      let r = was_raised mode told y.0 leads.regular y.2 in
      let at = told_in r.body (subst (λ xs. Among r.body (bodies [] xs)) (sym r.parts) (bodies_more r.earlier r.later r.body r.came)) in
      let is : r.body ≡ b = same_bytes (bodies [] told) r.body b (bodies_differ told) (in_told r.body at) (in_told b inside)
      (sym (r.names) ∙ triple_body (own_rules s b.event) b c y.0 y.1) in
      let stands_b = subst (λ b. stands there b ≡ true) is (stood_stands r.earlier r.later r.parts r.body r.stood) in
      good_come mode told other leads held one told_in other_in in_told in_other told [] (sym (append-nil told)) s b inside stands_b c m said

  pub all_backers : (b : Body) → Among b held → BackersCome told other b
  all_backers b inside w h =
      let y = backs_by told b w h in
      let r = was_raised mode told y.0 leads.regular y.3 in
      let at = told_in r.body (subst (λ xs. Among r.body (bodies [] xs)) (sym r.parts) (bodies_more r.earlier r.later r.body r.came)) in
      let is : r.body ≡ b = same_bytes (bodies [] told) r.body b (bodies_differ told) (in_told r.body at) (in_told b inside)
      (sym (r.names) ∙ y.1) in
      let stands_b = subst (λ b. stands there b ≡ true) is (stood_stands r.earlier r.later r.parts r.body r.stood) in
      backers_come mode told other leads held one told_in other_in in_told in_other told [] (sym (append-nil told)) b inside stands_b w h

module _ (mode : Mode) (told other : List Told) (alike : AreAlike mode told other) where
  abbrev held : List Body
  held = bodies [] told

  abbrev a : List Body
  a = accepted mode [] told

  abbrev b' : List Body
  b' = accepted mode [] other

  one : HasOne held
  one b c m n eb ec p sn = same_bytes held b c (bodies_differ told) m n (alike.one_each b c (contained held b m) (contained held c n) eb ec p sn)

  to : (b : Body) → Among b held → Among b (bodies [] other)
  to b m = among (bodies [] other) b (alike.there.bodies_come b (contained held b m))

  from : (b : Body) → Among b (bodies [] other) → Among b held
  from b m = among held b (alike.back.bodies_come b (contained (bodies [] other) b m))

  self : (b : Body) → Among b held → Among b held
  self b m = m

  f : (b : Body) → Among b a → Among b b'
  f = half mode told other alike.there held one self from self to

  g : (b : Body) → Among b b' → Among b a
  g = half mode other told alike.back held one from self to self

  a_events : AreEvents held a
  a_events = accepted_came mode told

  b_events : AreEvents held b'
  b_events b m = (let c = accepted_came mode other b m in (from b c.0, c.1))

  -- OWN: the events of each identifier
  own_same : (prefix : Prefix) → own prefix a ≡ own prefix b'
  own_same prefix =
      let x = all_counted held one prefix a (grown mode told) a_events in
      let y = all_counted held one prefix b' (grown mode other) b_events in
      let le = no_more held one prefix a b' x y f in let ge = no_more held one prefix b' a y x g in
      same_numbered held one prefix 0 (own prefix a) (own prefix b') x.from y.from (own_events held one prefix a a_events) (own_events held one prefix b' b_events) (omega (arith, le, ge))

  live_same : (prefix : Prefix) → live a prefix ≡ live b' prefix
  unfolding live
  live_same prefix = ap (fold live_with []) (own_same prefix)

  state_same : (prefix : Prefix) → state a prefix ≡ state b' prefix
  state_same prefix = same_own prefix a b' (own_same prefix)

  -- PREDECESSOR
  prior_same : (b : Body) → predecessor a b ≡ predecessor b' b
  prior_same b = of (predecessor a b) (predecessor b' b) refl refl
    where
      of : (o p : Option Body) → predecessor a b ≡ o → predecessor b' b ≡ p → predecessor a b ≡ predecessor b' b
      of None None e k = e ∙ sym k
      of (Some c) None e k = (let x = predecessor_found a b c e in absurd (predecessor_none b' b c k (f c x.0) x.1))
      of None (Some d) e k = (let y = predecessor_found b' b d k in absurd (predecessor_none a b d e (g d y.0) y.1))
      of (Some c) (Some d) e k =
          let x = predecessor_found a b c e in let y = predecessor_found b' b d k in
          let cx = a_events c x.0 in let dy = b_events d y.0 in
          let px = precedes_parts b c x.1 in let py = precedes_parts b d y.1 in
          let prefix = same_prefix_is (prefix_of c.event) (prefix_of b.event) px.0 ∙ sym (same_prefix_is (prefix_of d.event) (prefix_of b.event) py.0) in
          let sn_x = px.1 in let sn_y = py.1 in
          e ∙ ap (λ z. Some z) (one c d cx.0 dy.0 cx.1 dy.1 prefix (omega (arith, sn_x, sn_y))) ∙ sym k

  before_same : (b : Body) → state_before a b ≡ state_before b' b
  before_same b = of (predecessor a b) refl
    where
      of : (o : Option Body) → predecessor a b ≡ o → state_before a b ≡ state_before b' b
      of None e = (let k : predecessor b' b ≡ None = sym (prior_same b) ∙ e in rw (e, k) refl)
      of (Some c) e = same_before held one a b' b c c (grown mode told) a_events (grown mode other) b_events e (sym (prior_same b) ∙ e)

  stands_alike : (b : Body) → stands a b ≡ stands b' b
  stands_alike b = stands_same a b' b (before_same b)

  forbids_same : (d : Prefix) → forbids a d ≡ forbids b' d
  forbids_same d = any_same (λ c. is_of d c && has_trait (codes "DND") c.event) a b' f g

  is_in_same : (b : Body) → is_in a b ≡ is_in b' b
  is_in_same b = any_same (λ c. same_body c b) a b' f g

  module _ (b : Body) (inside : Among b held) where
    good : (s : Option State) → GoodCome told other s b
    good s = all_good mode told other alike.there held one self from self to s b inside

    good_back : (s : Option State) → GoodCome other told s b
    good_back s = all_good mode other told alike.back held one from self to self s b inside

    own_met : (s : Option State) → meets_own told s b ≡ meets_own other s b
    own_met s = both_ways _ _ (own_more told other s b (good s)) (own_more other told s b (good_back s))

    before_met : (s : Option State) → meets_before told s b ≡ meets_before other s b
    before_met s = both_ways _ _ (before_more told other s b (good s)) (before_more other told s b (good_back s))

    signed_same : (s : Option State) → signed told s b ≡ signed other s b
    signed_same s = both_ways _ _ (signed_more told other s b (good s)) (signed_more other told s b (good_back s))

    backed_same : (s : Option State) → is_backed told s b ≡ is_backed other s b
    backed_same s = both_ways _ _ (backed_more told other s b (all_backers mode told other alike.there held one self from self to b inside))
        (backed_more other told s b (all_backers mode other told alike.back held one from self to self b inside))

    anchored_same : (s : Option State) → anchored a s b.event ≡ anchored b' s b.event
    unfolding anchored
    anchored_same s = of (delegator_of s b.event) refl
      where
        of : (o : Option Prefix) → delegator_of s b.event ≡ o → anchored a s b.event ≡ anchored b' s b.event
        of None e = rw e refl
        of (Some d) e = (let x : is_sealed a d b.event ≡ is_sealed b' d b.event = any_same (λ c. is_of d c && seals c.event b.event) a b' f g in let y = forbids_same d in rw (e, x, y) refl)

    lost_same : (s : Option State) → is_lost mode a s b ≡ is_lost mode b' s b
    lost_same s = of (delegator_of s b.event) refl
      where
        of : (o : Option Prefix) → delegator_of s b.event ≡ o → is_lost mode a s b ≡ is_lost mode b' s b
        of None e = (let x = prior_same b in let y = stands_alike b in rw (e, x, y) refl)
        of (Some d) e = (let x = prior_same b in let y = stands_alike b in let z = forbids_same d in rw (e, x, y, z) refl)

    under_same : (s : Option State) → reason_under mode told a s b ≡ reason_under mode other b' s b
    under_same s =
        let lost = lost_same s in let prior = prior_same b in let own = own_met s in let before = before_met s in
        let backed = backed_same s in let sealed = anchored_same s in
        λ i. first_true ((lost i, Never) ∷ (not (is_inception b.event) && is_none (prior i), Predecessor) ∷ (not (own i), Signatures) ∷ (not (before i), Next)
        ∷ (not (is_local mode) && not (backed i), Receipts) ∷ (not (is_local mode) && not (sealed i), Seal) ∷ [])

    -- REASONS
    why_same : why_waits mode told a b ≡ why_waits mode other b' b
    unfolding why_waits
    why_same =
        let old = is_in_same b in
        let whole : reason_under mode told a (state a (prefix_of b.event)) b ≡ reason_under mode other b' (state b' (prefix_of b.event)) b =
        ap (λ o. reason_under mode told a o b) (state_same (prefix_of b.event)) ∙ under_same (state b' (prefix_of b.event)) in
        elim (cases_Bool (is_receipt b.event || is_in b' b)) [
          | inl k ↦ rw (old, k) refl
          | inr k ↦ rw (old, k) whole
        ]

    counts_same : counts told a b ≡ counts other b' b
    unfolding counts
    counts_same = (let x = stands_alike b in let y = before_same b in let z = signed_same (state_before b' b) in rw (x, y, z) refl)

  -- CONFLICTS: the bodies that count are the same
  counted_to : (b : Body) → Among b (counted mode [] told) → Among b (counted mode [] other)
  counted_to b m = (let l = left_among (counts told a) held b m in among_left_by (counts other b') (bodies [] other) b (to b l.0) (sym (counts_same b l.0) ∙ l.1))

  counted_from : (b : Body) → Among b (counted mode [] other) → Among b (counted mode [] told)
  counted_from b m = (let l = left_among (counts other b') (bodies [] other) b m in let h = from b l.0 in among_left_by (counts told a) held b h (counts_same b h ∙ l.1))

  conflicts_by : (xs ys : List Body) (sets : List (List Body)) → ((b : Body) → Among b xs → Among b ys) → ((b : Body) → Among b ys → Among b xs) → AreConflicts xs sets → AreConflicts ys sets
  conflicts_by xs ys sets u v c = record {
    sets_rise = c.sets_rise;
    bodies_rise = c.bodies_rise;
    only_rivals = c.only_rivals;
    two_or_more = c.two_or_more;
    only_counted = λ b h. contained ys b (u b (among xs b (c.only_counted b h)));
    every_pair = λ b d m n r. c.every_pair b d (contained xs b (v b (among ys b m))) (contained xs d (v d (among ys d n))) r;
  }

  -- IDENTIFIERS and WAITING: the same in some order
  identifiers_in : (xs ys : List Body) → ((b : Body) → Among b xs → Among b ys) → (p : Prefix) → Among p (identifiers_of xs) → Among p (identifiers_of ys)
  identifiers_in xs ys u p m =
      let k = map_among (λ b. prefix_of b.event) xs p (distinct_among same_prefix (map (λ b. prefix_of b.event) xs) p m) in
      among_distinct same_prefix same_prefix_is (map (λ b. prefix_of b.event) ys) p (subst (λ p. Among p (map (λ b. prefix_of b.event) ys)) k.2 (among_map (λ b. prefix_of b.event) ys k.0 (u k.0 k.1)))

  once : (log : List Body) → NoneAgain (identifiers_of log)
  once log = differ_once same_prefix same_prefix_itself (identifiers_of log) (differ-distinct same_prefix (map (λ b. prefix_of b.event) log))

  waiting_once : (t : List Told) → NoneAgain (waiting_of mode t)
  waiting_once t = filter_once (λ b. is_some (why_waits mode t (accepted mode [] t) b)) (bodies [] t) (differ_once same_body same_body-refl (bodies [] t) (bodies_differ t))

  waiting_to : (b : Body) → Among b (waiting_of mode told) → Among b (waiting_of mode other)
  waiting_to b m =
      let l = left_among (λ b. is_some (why_waits mode told a b)) held b m in
      among_left_by (λ b. is_some (why_waits mode other b' b)) (bodies [] other) b (to b l.0) (ap (λ o. is_some o) (sym (why_same b l.0)) ∙ l.1)

  waiting_from : (b : Body) → Among b (waiting_of mode other) → Among b (waiting_of mode told)
  waiting_from b m =
      let l = left_among (λ b. is_some (why_waits mode other b' b)) (bodies [] other) b m in
      let h = from b l.0 in
      among_left_by (λ b. is_some (why_waits mode told a b)) held b h (ap (λ o. is_some o) (why_same b h) ∙ l.1)

  -- SAME
  pub same : AreSame mode told other
  same = record {
    members = λ b. ((λ m. contained b' b (f b (among a b m))), (λ m. contained a b (g b (among b' b m))));
    own = own_same;
    live_events = live_same;
    states = state_same;
    identifiers = permuted (identifiers_of a) (identifiers_of b') (once a) (once b') (identifiers_in a b' f) (identifiers_in b' a g);
    waiting = permuted (waiting_of mode told) (waiting_of mode other) (waiting_once told) (waiting_once other) waiting_to waiting_from;
    reasons = λ b m. why_same b (among held b m);
    conflicts = λ sets. (
      conflicts_by (counted mode [] told) (counted mode [] other) sets counted_to counted_from,
      conflicts_by (counted mode [] other) (counted mode [] told) sets counted_from counted_to,
    );
  }

-- CONFLUENCE
pub confluence : ConfluenceLaw
confluence mode told other alike = same mode told other alike
