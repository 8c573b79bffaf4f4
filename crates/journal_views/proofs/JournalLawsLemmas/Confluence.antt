-- Alike journals come to the same.
use Rattle.std.proofs.Common.{◌≡◌, ◌<◌, ◌≤◌, true, false, not, ◌&&◌, ◌||◌, List, [], ◌∷◌, ◌++◌, length, Option, Some, refl, sym, ◌∙◌, ap, subst, arith, inl, inr, append-nil, append_assoc}
use Rattle.std.specs.Prelude.{flat_map, codes}
use Rattle.std.specs.Cmp.Lexicographic.{bytes_decides}
use Rattle.std.proofs.lemmas.Bool.{cases_Bool, cases_lt, and_parts, and_from, or_left, or_right, or_cases, not-true, not_from_false}
use Rattle.std.proofs.lemmas.List.Concat.{flat_map-append}
use Rattle.cesr_codes.specs.declared.prefix.Prefix.{Prefix}
use Rattle.event_body.specs.EventBody.Events.{prefix_of, is_inception, is_receipt}
use Rattle.key_state.specs.Exposure.{own_rules}
use Rattle.key_state.specs.States.{State}
use Rattle.key_state.proofs.Same.{same_prefix_is}
use Rattle.journal.specs.declared.journal.body.Body.{Body}
use Rattle.journal.specs.declared.journal.claim.Claim.{Claim}
use Rattle.journal.specs.declared.journal.mode.Mode.{Mode}
use Rattle.journal.specs.Journal.Accepted.{accepted}
use Rattle.journal.specs.Journal.Grown.{IsGrown, fits}
use Rattle.journal.specs.Journal.History.{Told, Triple, bodies, claims_on, said_yes, triple_of, yes_in}
use Rattle.journal.specs.Journal.Logs.{is_in, is_of, same_body, state, stands, takes}
use Rattle.journal.specs.Journal.Questions.{state_before}
use Rattle.journal.specs.Journal.Readiness.{is_backed, is_local, is_ready, signed, yes_to}
use Rattle.journal.specs.Journal.Seals.{anchored, forbids, has_trait, is_sealed, seals}
use Rattle.journal.proofs.JournalLemmas.Accepting.{same_body-refl}
use Rattle.journal_views.specs.JournalLaws.Alike.{Leads}
use Rattle.key_state.proofs.Among.{Among, among, among_either, among_left, among_left_by, among_right, contained, left_among, passed, passing}
use Rattle.journal_views.proofs.JournalLawsLemmas.Came.{accepted_came, bodies_differ, bodies_more, claims_more, grown, none_ready, same_bytes, were_ready}
use Rattle.journal_views.proofs.JournalLawsLemmas.Followed.{fit_stands, follows, inception_rules, same_before, same_own}
use Rattle.journal_views.proofs.JournalLawsLemmas.Growing.{BackersCome, GoodCome, anchored_more, backed_more, signed_more, traits_first}
use Rattle.journal_views.proofs.JournalLawsLemmas.Numbered.{AreEvents, HasOne, all_counted, first_sn, fit_number, fit_parts, no_more, numbered, own, own_events, same_numbered}
use Rattle.journal_views.proofs.JournalLawsLemmas.Verdicts.{among_yes, answered_so, backs_by, by_backs, raises, triple_body, was_raised, yes_among, yes_by}

-- what makes a body ready
pub record AreReady (mode : Mode) (told : List Told) (log : List Body) (b : Body) : Type 0 where
  pub event : is_receipt b.event ≡ false
  pub new : is_in log b ≡ false
  pub taken : takes (state log (prefix_of b.event)) b.event ≡ true
  pub is_signed : signed told (state log (prefix_of b.event)) b ≡ true
  pub full : (is_local mode || (is_backed told (state log (prefix_of b.event)) b && anchored log (state log (prefix_of b.event)) b.event)) ≡ true

pub ready_parts : (mode : Mode) (told : List Told) (log : List Body) (b : Body) → is_ready mode told log b ≡ true → AreReady mode told log b
unfolding is_ready
ready_parts mode told log b h =
    let s = state log (prefix_of b.event) in
    let parts = and_parts (not (is_receipt b.event) && not (is_in log b)) _ h in
    let first = and_parts (not (is_receipt b.event)) (not (is_in log b)) parts.0 in
    let more = and_parts (takes s b.event && signed told s b) (is_local mode || (is_backed told s b && anchored log s b.event)) parts.1 in
    let two = and_parts (takes s b.event) (signed told s b) more.0 in
    record { event = not-true _ first.0; new = not-true _ first.1; taken = two.0; is_signed = two.1; full = more.1 }

pub ready_by : (mode : Mode) (told : List Told) (log : List Body) (b : Body) → AreReady mode told log b → is_ready mode told log b ≡ true
unfolding is_ready
ready_by mode told log b r =
    and_from _ _ (and_from _ _ (not_from_false _ r.event) (not_from_false _ r.new)) (and_from _ _ (and_from _ _ r.taken r.is_signed) r.full)

pub fits_by : (log : List Body) (b : Body) → is_receipt b.event ≡ false → is_in log b ≡ false → takes (state log (prefix_of b.event)) b.event ≡ true → fits log b ≡ true
unfolding fits
fits_by log b event new taken = and_from _ _ (and_from _ _ (not_from_false _ event) (not_from_false _ new)) taken

pub yes_more : (earlier later : List Told) (t : Triple) → said_yes earlier t ≡ true → said_yes (earlier ++ later) t ≡ true
yes_more earlier later t h =
    among_yes (earlier ++ later) t (subst (λ xs. Among t xs) (sym (flat_map-append yes_in earlier later)) (among_left (flat_map yes_in earlier) (flat_map yes_in later) t (yes_among earlier t h)))

module _ (mode : Mode) (told other : List Told) (leads : Leads mode told other) (held : List Body) (one : HasOne held)
    (told_in : (b : Body) → Among b (bodies [] told) → Among b held) (other_in : (b : Body) → Among b (bodies [] other) → Among b held)
    (in_told : (b : Body) → Among b held → Among b (bodies [] told)) (in_other : (b : Body) → Among b held → Among b (bodies [] other)) where
  abbrev mine : List Body
  mine = accepted mode [] told

  abbrev theirs : List Body
  theirs = accepted mode [] other

  events : (t : List Told) → ((b : Body) → Among b (bodies [] t) → Among b held) → AreEvents held (accepted mode [] t)
  events t inside b m = (let c = accepted_came mode t b m in (inside b c.0, c.1))

  their_events : AreEvents held theirs
  their_events = events other other_in

  my_events : AreEvents held mine
  my_events = events told told_in

  one_body : (b c : Body) → Among b held → Among c held → b.bytes ≡ c.bytes → b ≡ c
  one_body b c m n e = same_bytes (bodies [] told) b c (bodies_differ told) (in_told b m) (in_told c n) e

  earlier_in : (earlier later : List Told) → told ≡ earlier ++ later → (b : Body) → Among b (bodies [] earlier) → Among b held
  earlier_in earlier later e b m = told_in b (subst (λ xs. Among b (bodies [] xs)) (sym e) (bodies_more earlier later b m))

  -- the rules of a body that stands in both
  same_rules : (log : List Body) → IsGrown log → AreEvents held log → (b : Body) → stands log b ≡ true → stands theirs b ≡ true
      → own_rules (state_before log b) b.event ≡ own_rules (state_before theirs b) b.event
  same_rules log g ev b h k = elim (cases_Bool (is_inception b.event)) [
    | inl i ↦ inception_rules b.event (state_before log b) (state_before theirs b) i
    | inr i ↦ (let f = follows log b i h in let f' = follows theirs b i k in
        ap (λ o. own_rules o b.event) (same_before held one log theirs b f.prior f'.prior g ev (grown mode other) their_events f.is_prior f'.is_prior))
  ]

  -- a triple that was raised on a body that stands in the second has a yes in the second where it has one in the first
  comes : (earlier later : List Told) → told ≡ earlier ++ later → (b : Body) (c : Claim) (t : Triple) → Among b held → stands (accepted mode [] earlier) b ≡ true
      → Among c (claims_on earlier b) → triple_of (own_rules (state_before (accepted mode [] earlier) b) b.event) b c ≡ Some t
      → stands theirs b ≡ true → said_yes told t ≡ true → said_yes other t ≡ true
  comes earlier later e b c t inside stood m is stands_b said =
      let ev = events earlier (earlier_in earlier later e) in
      let rules = same_rules (accepted mode [] earlier) (grown mode earlier) ev b stood stands_b in
      let is' : triple_of (own_rules (state_before theirs b) b.event) b c ≡ Some t = ap (λ r. triple_of r b c) (sym rules) ∙ is in
      let mine_too = subst (λ xs. Among c (claims_on xs b)) (sym e) (claims_more earlier later b c m) in
      let there = among (claims_on other b) c (leads.claims_come b c (contained (bodies [] told) b (in_told b inside)) (contained (claims_on told b) c mine_too)) in
      let raised = raises other theirs b c t stands_b there is' in
      elim (answered_so mode other b t leads.answered (in_other b inside) raised) [
        | inl y ↦ y
        | inr n ↦ absurd (leads.one_verdict t said n)
      ]

  -- COMES: a yes on a body that stands in the second
  yes_comes : (b : Body) → Among b held → stands theirs b ≡ true → (t : Triple) → t.body ≡ b.bytes → said_yes told t ≡ true → said_yes other t ≡ true
  yes_comes b inside stands_b t body said =
      let r = was_raised mode told t leads.regular said in
      let at = earlier_in r.earlier r.later r.parts r.body r.came in
      let is : r.body ≡ b = one_body r.body b at inside (sym (r.names) ∙ body) in
      comes r.earlier r.later r.parts r.body r.claim t at r.stood r.claimed r.is (subst (λ b. stands theirs b ≡ true) (sym is) stands_b) said

  pub good_come : (earlier later : List Told) → told ≡ earlier ++ later → (s : Option State) (b : Body) → Among b held → stands theirs b ≡ true → GoodCome earlier other s b
  good_come earlier later e s b inside stands_b c m said =
      let y = yes_by earlier (triple_of (own_rules s b.event) b c) said in
      let t = y.0 in
      let told_yes = subst (λ xs. said_yes xs t ≡ true) (sym e) (yes_more earlier later t y.2) in
      let there = yes_comes b inside stands_b t (triple_body (own_rules s b.event) b c t y.1) told_yes in
      let mine_too = subst (λ xs. Among c (claims_on xs b)) (sym e) (claims_more earlier later b c m) in (
        among (claims_on other b) c (leads.claims_come b c (contained (bodies [] told) b (in_told b inside)) (contained (claims_on told b) c mine_too)),
        ap (yes_to other) y.1 ∙ there,
      )

  pub backers_come : (earlier later : List Told) → told ≡ earlier ++ later → (b : Body) → Among b held → stands theirs b ≡ true → BackersCome earlier other b
  backers_come earlier later e b inside stands_b w h =
      let y = backs_by earlier b w h in
      let told_yes = subst (λ xs. said_yes xs y.0 ≡ true) (sym e) (yes_more earlier later y.0 y.3) in
      by_backs other b w y.0 y.1 y.2 (yes_comes b inside stands_b y.0 y.1 told_yes)

  module _ (front later : List Body) (b : Body) (split : mine ≡ front ++ b ∷ later) (inside : (c : Body) → Among c front → Among c theirs) where
    abbrev its : Prefix
    its = prefix_of b.event

    fit : fits front b ≡ true
    fit = grown mode told front later b split

    b_held : Among b held
    b_held = (my_events b (subst (λ xs. Among b xs) (sym split) (among_right front (b ∷ later) b (inl refl)))).0

    front_events : AreEvents held front
    front_events c m = my_events c (subst (λ xs. Among c xs) (sym split) (among_left front (b ∷ later) c m))

    front_grown : IsGrown front
    front_grown xs ys d k = grown mode told xs (ys ++ b ∷ later) d (split ∙ ap (λ zs. zs ++ b ∷ later) k ∙ append_assoc xs (d ∷ ys) (b ∷ later))

    module _ (new : is_in theirs b ≡ false) where
      -- both have the same events of the identifier
      same_events : own its theirs ≡ own its front
      same_events =
          let x = all_counted held one its theirs (grown mode other) their_events in
          let y = all_counted held one its front front_grown front_events in
          let least = no_more held one its front theirs y x inside in
          let number = fit_number held one front b front_grown front_events b_held fit in
          let most : length (own its theirs) ≤ length (own its front) = elim (cases_lt (length (own its front)) (length (own its theirs))) [
            | inr h ↦ h
            | inl h ↦ (let z = numbered 0 (own its theirs) (length (own its front)) x.from (omega arith) (omega (arith, h)) in
                let of_z = own_events held one its theirs their_events z.0 z.1 in
                let is : z.0 ≡ b = one z.0 b of_z.0 b_held of_z.1 (fit_parts front b fit).0 of_z.2 (z.2 ∙ sym number) in
                let parts = left_among (is_of its) theirs z.0 z.1 in
                let old : is_in theirs b ≡ true = passed (λ d. same_body d b) theirs z.0 parts.0 (ap (λ d. same_body d b) is ∙ same_body-refl b) in cc)
          ] in
          same_numbered held one its 0 (own its theirs) (own its front) x.from y.from (own_events held one its theirs their_events) (own_events held one its front front_events) (omega (arith, least, most))

      same_state : state theirs its ≡ state front its
      same_state = same_own its theirs front same_events

      fit_there : fits theirs b ≡ true
      fit_there = let p = fit_parts front b fit in fits_by theirs b p.0 new (ap (λ o. takes o b.event) same_state ∙ p.2)

      b_stands : stands theirs b ≡ true
      b_stands = fit_stands held one theirs b (grown mode other) their_events b_held fit_there

      -- a seal in the front is one of the second, and a delegator that sealed there has its inception there
      sealed_there : (d : Prefix) → is_sealed front d b.event ≡ true → forbids front d ≡ false → (is_sealed theirs d b.event ≡ true) × (forbids theirs d ≡ false)
      sealed_there d sealed allows =
          let p = passing (λ c. is_of d c && seals c.event b.event) front sealed in
          let of_d = and_parts (is_of d p.0) (seals p.0.event b.event) p.2 in
          let mine_d = all_counted held one d front front_grown front_events in
          let some = among_left_by (is_of d) front p.0 p.1 of_d.0 in
          let low = few (own d front) p.0 some in
          let z = numbered 0 (own d front) 0 mine_d.from (omega arith) (omega (arith, low)) in
          let of_z = own_events held one d front front_events z.0 z.1 in
          let z_front = left_among (is_of d) front z.0 z.1 in (
            passed (λ c. is_of d c && seals c.event b.event) theirs p.0 (inside p.0 p.1) p.2,
            elim (cases_Bool (forbids theirs d)) [
              | inr k ↦ k
              | inl k ↦ (let q = passing (λ c. is_of d c && has_trait (codes "DND") c.event) theirs k in
                  let parts = and_parts (is_of d q.0) (has_trait (codes "DND") q.0.event) q.2 in
                  let of_q = their_events q.0 q.1 in
                  let first = traits_first (codes "DND") q.0.event parts.1 in
                  let is : z.0 ≡ q.0 = one z.0 q.0 of_z.0 of_q.0 of_z.1 of_q.1 (of_z.2 ∙ sym (same_prefix_is (prefix_of q.0.event) d parts.0)) (z.2 ∙ sym (first_sn q.0.event first)) in
                  let old : forbids front d ≡ true = passed (λ c. is_of d c && has_trait (codes "DND") c.event) front q.0 (subst (λ c. Among c front) is z_front.0) q.2 in cc)
            ],
          )
        where
          few : (xs : List Body) (c : Body) → Among c xs → 0 < length xs
          few [] c m = absurd m
          few (x ∷ xs) c m = omega arith

      ready_there : is_ready mode other theirs b ≡ true
      ready_there =
          let w = were_ready mode told front later b split in
          let r = ready_parts mode w.earlier front b w.ready in
          let s = state front its in
          let still : signed other s b ≡ true = signed_more w.earlier other s b (good_come w.earlier w.later w.parts s b b_held b_stands) r.is_signed in
          let full : (is_local mode || (is_backed other s b && anchored theirs s b.event)) ≡ true = elim (or_cases (is_local mode) (is_backed w.earlier s b && anchored front s b.event) r.full) [
            | inl l ↦ or_left _ _ l
            | inr h ↦ (let p = and_parts (is_backed w.earlier s b) (anchored front s b.event) h in
                or_right _ _ (and_from _ _ (backed_more w.earlier other s b (backers_come w.earlier w.later w.parts b b_held b_stands) p.0)
                (anchored_more front theirs s b.event (λ d e. sealed_there d) p.1)))
          ] in
          ready_by mode other theirs b (record {
            event = r.event;
            new = new;
            taken = ap (λ o. takes o b.event) same_state ∙ r.taken;
            is_signed = ap (λ o. signed other o b) same_state ∙ still;
            full = ap (λ o. is_local mode || (is_backed other o b && anchored theirs o b.event)) same_state ∙ full;
          })

    -- one more
    next_comes : Among b theirs
    next_comes = elim (cases_Bool (is_in theirs b)) [
      | inl k ↦ (let p = passing (λ c. same_body c b) theirs k in
          subst (λ c. Among c theirs) (one_body p.0 b (their_events p.0 p.1).0 b_held ((bytes_decides p.0.bytes b.bytes).0 p.2)) p.1)
      | inr k ↦ absurd (none_ready mode other b (in_other b b_held) (ready_there k))
    ]

  -- INCLUSION: what the first accepts the second accepts
  pub accepted_comes : (b : Body) → Among b mine → Among b theirs
  accepted_comes b m = over [] mine refl (λ c m. absurd m) b m
    where
      over : (seen rest : List Body) → mine ≡ seen ++ rest → ((c : Body) → Among c seen → Among c theirs) → (b : Body) → Among b (seen ++ rest) → Among b theirs
      over seen [] e inside b m = inside b (subst (λ xs. Among b xs) (append-nil seen) m)
      over seen (x ∷ rest) e inside b m =
          let here = next_comes seen rest x e inside in
          let more : (c : Body) → Among c (seen ++ x ∷ []) → Among c theirs = λ c n. elim (among_either seen (x ∷ []) c n) as (λ _. Among c theirs) [
            | inl l ↦ inside c l
            | inr (inl s) ↦ subst (λ y. Among y theirs) s here
            | inr (inr n) ↦ absurd n
          ] in
          over (seen ++ x ∷ []) rest (e ∙ sym (append_assoc seen (x ∷ []) rest)) more b (subst (λ xs. Among b xs) (sym (append_assoc seen (x ∷ []) rest)) m)
