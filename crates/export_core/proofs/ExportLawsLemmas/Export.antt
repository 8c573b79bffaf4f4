-- A journal that is told what another exports accepts it.
use Rattle.std.proofs.Common.{◌≡◌, true, false, ◌&&◌, ◌⊎◌, List, [], ◌∷◌, ◌++◌, map, Some, refl, sym, ◌∙◌, ap, subst, inl, inr, append-nil, append_assoc}
use Rattle.std.specs.Prelude.{filter, flat_map, fold, codes}
use Rattle.std.specs.Cmp.Lexicographic.{bytes_decides}
use Rattle.std.proofs.lemmas.Bool.{cases_Bool, and_parts, and_from}
use Rattle.std.proofs.lemmas.List.Elements.{filter-append}
use Rattle.cesr_codes.specs.declared.prefix.Prefix.{Prefix}
use Rattle.event_body.specs.EventBody.Events.{prefix_of, is_inception}
use Rattle.key_state.specs.Exposure.{own_rules}
use Rattle.journal.specs.declared.journal.body.Body.{Body}
use Rattle.journal.specs.declared.journal.claim.Claim.{Claim}
use Rattle.journal.specs.declared.journal.mode.Mode.TheVariants.{Full}
use Rattle.journal.specs.Journal.Acceptance.{grown_by}
use Rattle.journal.specs.Journal.Accepted.{accepted}
use Rattle.journal.specs.Journal.Grown.{IsGrown, fits}
use Rattle.journal.specs.Journal.History.{Told, took, Triple, bodies, claims_on, no_in, said_yes, same_triple, taken, triple_of}
use Rattle.journal.specs.Journal.Logs.{is_in, is_of, live, live_with, same_body, state, stands, takes}
use Rattle.journal.specs.Journal.Questions.{IsRegular, questions, raised_by, state_before}
use Rattle.journal.specs.Journal.Readiness.{is_backed, is_ready, signed, yes_to}
use Rattle.journal.specs.Journal.Seals.{anchored, delegator_of, forbids, has_trait, is_sealed, seals}
use Rattle.journal.proofs.JournalLemmas.Accepting.{accepted_extends, same_body-refl}
use Rattle.claim_table.specs.CoreLaws.Standing.{HasNoClash}
use Rattle.export_core.specs.ExportLaws.Export.{AreRetold, ExportLaw, Sent, cut_claims, delegator, delegator_if, export, exported, is_good, is_of_some, messages_of, rules_under, sent_claims}
use Rattle.key_state.proofs.Among.{Among, among, among_first, among_left, among_left_by, among_right, contained, distinct_among, left_among, passed, passing}
use Rattle.journal_views.proofs.JournalLawsLemmas.Came.{accepted_came, bodies_differ, bodies_more, claims_more, grown, none_ready, same_bytes, were_ready}
use Rattle.export_core.proofs.ExportLawsLemmas.Ready.{ready_by, ready_parts, yes_more}
use Rattle.export_core.proofs.ExportLawsLemmas.Family.{before_family, delegator_is, family_of, of_family, own_family, state_family}
use Rattle.journal_views.proofs.JournalLawsLemmas.Followed.{before_stays, follows, inception_rules, inception_stands, stands_by}
use Rattle.journal_views.proofs.JournalLawsLemmas.Growing.{BackersCome, GoodCome, anchored_more, backed_more, signed_more}
use Rattle.journal_views.proofs.JournalLawsLemmas.Numbered.{fit_parts}
use Rattle.export_core.proofs.ExportLawsLemmas.Retold.{Replays, replays}
use Rattle.export_core.proofs.ExportLawsLemmas.Rules.{before_log, its_fit, its_front_grown, kept_rules, rules_there}
use Rattle.export_core.proofs.ExportLawsLemmas.Sending.{brings_body, brings_claims, brings_itself, brings_no, cut_all, cut_some, keeps_claims, sent_all}
use Rattle.journal_views.proofs.JournalLawsLemmas.Verdicts.{answered_so, backs_by, by_backs, raises, triple_body, was_raised, yes_by}

-- no verdict is no
abbrev HasNoNo : List Told → Type 0
HasNoNo told = (t : Triple) → Among t (flat_map no_in told) → ⊥

-- what is new behind a list, of bodies that are in it or this one, is nothing or this one
one_new : (base new : List Body) (x : Body) → IsGrown (base ++ new) → ((b : Body) → Among b new → Among b base ⊎ (x ≡ b)) → (new ≡ []) ⊎ (new ≡ x ∷ [])
one_new base [] x grown only = inl refl
one_new base (y ∷ ys) x grown only = first (only y (inl refl))
  where
    fresh : is_in base y ≡ false
    fresh = (fit_parts base y (grown base ys y refl)).1

    behind : x ≡ y → (zs : List Body) → ys ≡ zs → (y ∷ ys ≡ []) ⊎ (y ∷ ys ≡ x ∷ [])
    behind e [] k = inr (λ i. sym e i ∷ k i)
    behind e (z ∷ zs) k =
        let new = (fit_parts (base ++ y ∷ []) z (grown (base ++ y ∷ []) zs z (ap (λ ws. base ++ y ∷ ws) k ∙ sym (append_assoc base (y ∷ []) (z ∷ zs))))).1 in
        absurd (elim (only z (inr (subst (λ ws. Among z ws) (sym k) (inl refl)))) as (λ _. ⊥) [
          | inl m ↦ (let old : is_in (base ++ y ∷ []) z ≡ true = passed (λ d. same_body d z) (base ++ y ∷ []) z (among_left base (y ∷ []) z m) (same_body-refl z) in cc)
          | inr f ↦ (let old : is_in (base ++ y ∷ []) z ≡ true = passed (λ d. same_body d z) (base ++ y ∷ []) y (among_right base (y ∷ []) y (inl refl)) (ap (λ d. same_body d z) (sym e ∙ f) ∙ same_body-refl z) in cc)
        ])

    first : Among y base ⊎ (x ≡ y) → (y ∷ ys ≡ []) ⊎ (y ∷ ys ≡ x ∷ [])
    first (inl m) = (let new = fresh in let old : is_in base y ≡ true = passed (λ d. same_body d y) base y m (same_body-refl y) in absurd (cc (new, old)))
    first (inr e) = behind e ys refl

module _ (told : List Told) (family : List Prefix) (regular : IsRegular Full [] told) (clash : HasNoClash (accepted Full [] told))
    (closed : (p d : Prefix) → Among p family → delegator_if (state (accepted Full [] told) p) ≡ Some d → Among d family) where
  abbrev log : List Body
  log = accepted Full [] told

  module _ (front later : List Body) (x : Body) (split : log ≡ front ++ x ∷ later) (of : is_of_some family x ≡ true) where
    abbrev its : Prefix
    its = prefix_of x.event

    abbrev base : List Body
    base = exported family front

    fit : fits front x ≡ true
    fit = its_fit told front later x split

    x_came : Among x (bodies [] told)
    x_came = (accepted_came Full told x (subst (λ xs. Among x xs) (sym split) (among_right front (x ∷ later) x (inl refl)))).0

    front_grown : IsGrown front
    front_grown = its_front_grown told front later x split

    before : is_inception x.event ≡ false → state_before log x ≡ state_before front x
    before i = before_log told front later x split i

    before_base : is_inception x.event ≡ false → state_before base x ≡ state_before log x
    before_base i = before_family family front x front_grown of ∙ sym (before i)

    rules : own_rules (state_before log x) x.event ≡ own_rules (state front its) x.event
    rules = kept_rules told front later x split clash

    under : rules_under log x ≡ own_rules (state_before log x) x.event
    under = rules_there told front later x split ∙ sym rules

    rules_base : own_rules (state_before base x) x.event ≡ own_rules (state_before log x) x.event
    rules_base = elim (cases_Bool (is_inception x.event)) [
      | inl i ↦ inception_rules x.event (state_before base x) (state_before log x) i
      | inr i ↦ ap (λ o. own_rules o x.event) (before_base i)
    ]

    -- what is told of the copy so far: the event's messages, all answered, and the events before it accepted
    module _ (sofar : List Told) (is_base : accepted Full [] sofar ≡ base) (none_open : questions Full [] sofar ≡ []) (came : Among x (bodies [] sofar))
        (no_no : HasNoNo sofar) (claims : (c : Claim) → Among c (sent_claims told log x) → Among c (claims_on sofar x)) where
      copies : (earlier later' : List Told) (c : Claim) (t : Triple) → told ≡ earlier ++ later' → stands (accepted Full [] earlier) x ≡ true → Among c (claims_on earlier x)
          → triple_of (own_rules (state_before (accepted Full [] earlier) x) x.event) x c ≡ Some t → said_yes told t ≡ true → said_yes sofar t ≡ true
      copies earlier later' c t e stood m is said =
          let ext = accepted_extends Full [] earlier later' in
          let whole : log ≡ accepted Full [] earlier ++ ext.0 = ap (accepted Full []) e ∙ ext.1 in
          let mine = subst (λ xs. Among c (claims_on xs x)) (sym e) (claims_more earlier later' x c m) in
          let by_rules : own_rules (state_before log x) x.event ≡ own_rules (state_before (accepted Full [] earlier) x) x.event → stands base x ≡ true → said_yes sofar t ≡ true
          = λ r stands_x. (
          let is' : triple_of (own_rules (state_before log x) x.event) x c ≡ Some t = ap (λ r. triple_of r x c) r ∙ is in
          let good : is_good told log x c ≡ true = ap (λ r. yes_to told (triple_of r x c)) under ∙ ap (yes_to told) is' ∙ said in
          let there = claims c (sent_all told log x c mine good) in
          let is'' : triple_of (own_rules (state_before base x) x.event) x c ≡ Some t = ap (λ r. triple_of r x c) rules_base ∙ is' in
          let raised = raises sofar base x c t stands_x there is'' in
          elim (answered_so Full sofar x t none_open came (subst (λ xs. Among t (raised_by sofar xs x)) (sym is_base) raised)) as (λ _. said_yes sofar t ≡ true) [
            | inl y ↦ y
            | inr n ↦ (let p = passing (same_triple t) (flat_map no_in sofar) n in absurd (no_no p.0 p.1))
          ]) in
          elim (cases_Bool (is_inception x.event)) [
            | inl i ↦ by_rules (inception_rules x.event (state_before log x) (state_before (accepted Full [] earlier) x) i) (inception_stands base x i)
            | inr i ↦ (let f = follows (accepted Full [] earlier) x i stood in
                let same : state_before log x ≡ state_before (accepted Full [] earlier) x = ap (λ xs. state_before xs x) whole ∙ before_stays (accepted Full [] earlier) ext.0 x f.prior (grown Full earlier) f.is_prior in
                by_rules (ap (λ o. own_rules o x.event) same) (stands_by base x f.behind (before_base i ∙ same ∙ f.is_behind) f.taken))
          ]

      -- COPIED: each yes on the event
      yes_copied : (t : Triple) → t.body ≡ x.bytes → said_yes told t ≡ true → said_yes sofar t ≡ true
      yes_copied t body said =
          let r = was_raised Full told t regular said in
          let mine = subst (λ xs. Among r.body (bodies [] xs)) (sym r.parts) (bodies_more r.earlier r.later r.body r.came) in
          let is : r.body ≡ x = same_bytes (bodies [] told) r.body x (bodies_differ told) mine x_came (sym r.names ∙ body) in
          copies r.earlier r.later r.claim t r.parts (subst (λ b. stands (accepted Full [] r.earlier) b ≡ true) is r.stood) (subst (λ b. Among r.claim (claims_on r.earlier b)) is r.claimed)
          (subst (λ b. triple_of (own_rules (state_before (accepted Full [] r.earlier) b) b.event) b r.claim ≡ Some t) is r.is) said

      good_copied : (earlier later' : List Told) → told ≡ earlier ++ later' → GoodCome earlier sofar (state front its) x
      good_copied earlier later' e c m said =
          let s = state front its in
          let y = yes_by earlier (triple_of (own_rules s x.event) x c) said in
          let told_yes = subst (λ xs. said_yes xs y.0 ≡ true) (sym e) (yes_more earlier later' y.0 y.2) in
          let mine = subst (λ xs. Among c (claims_on xs x)) (sym e) (claims_more earlier later' x c m) in
          let is : triple_of (own_rules (state_before log x) x.event) x c ≡ Some y.0 = ap (λ r. triple_of r x c) rules ∙ y.1 in
          let good : is_good told log x c ≡ true = ap (λ r. yes_to told (triple_of r x c)) under ∙ ap (yes_to told) is ∙ told_yes in (
            claims c (sent_all told log x c mine good),
            ap (yes_to sofar) y.1 ∙ yes_copied y.0 (triple_body (own_rules s x.event) x c y.0 y.1) told_yes,
          )

      backers_copied : (earlier later' : List Told) → told ≡ earlier ++ later' → BackersCome earlier sofar x
      backers_copied earlier later' e w h =
          let y = backs_by earlier x w h in
          let told_yes = subst (λ xs. said_yes xs y.0 ≡ true) (sym e) (yes_more earlier later' y.0 y.3) in
          by_backs sofar x w y.0 y.1 y.2 (yes_copied y.0 y.1 told_yes)

      -- the seals of the family's events are there, and no delegator forbids more
      sealed_copied : (d : Prefix) → delegator_of (state front its) x.event ≡ Some d → is_sealed front d x.event ≡ true → forbids front d ≡ false → (is_sealed base d x.event ≡ true) × (forbids base d ≡ false)
      sealed_copied d is sealed allows =
          let whole = subst (λ xs. delegator_if (state xs its) ≡ Some d) (sym split) (delegator_is front later x d (fit_parts front x fit).2 is) in
          let d_family = closed its d (family_of family x of) whole in
          let p = passing (λ c. is_of d c && seals c.event x.event) front sealed in
          let of_d = and_parts (is_of d p.0) (seals p.0.event x.event) p.2 in (
            passed (λ c. is_of d c && seals c.event x.event) base p.0 (among_left_by (is_of_some family) front p.0 p.1 (of_family family d p.0 d_family of_d.0)) p.2,
            elim (cases_Bool (forbids base d)) [
              | inr k ↦ k
              | inl k ↦ (let q = passing (λ c. is_of d c && has_trait (codes "DND") c.event) base k in
                  let old : forbids front d ≡ true = passed (λ c. is_of d c && has_trait (codes "DND") c.event) front q.0 (left_among (is_of_some family) front q.0 q.1).0 q.2 in cc)
            ],
          )

      base_new : is_in base x ≡ false
      base_new = elim (cases_Bool (is_in base x)) [
        | inr k ↦ k
        | inl k ↦ (let q = passing (λ c. same_body c x) base k in
            let old : is_in front x ≡ true = passed (λ c. same_body c x) front q.0 (left_among (is_of_some family) front q.0 q.1).0 q.2 in
            let new = (fit_parts front x fit).1 in cc)
      ]

      -- READY: so the event is ready
      ready_again : is_ready Full sofar base x ≡ true
      ready_again =
          let w = were_ready Full told front later x split in
          let r = ready_parts Full w.earlier front x w.ready in
          let s = state front its in
          let same : state base its ≡ s = state_family family its front (family_of family x of) in
          let both = and_parts (is_backed w.earlier s x) (anchored front s x.event) r.full in
          let still : signed sofar s x ≡ true = signed_more w.earlier sofar s x (good_copied w.earlier w.later w.parts) r.is_signed in
          let full : (is_backed sofar s x && anchored base s x.event) ≡ true = and_from _ _ (backed_more w.earlier sofar s x (backers_copied w.earlier w.later w.parts) both.0)
          (anchored_more front base s x.event sealed_copied both.1) in
          ready_by Full sofar base x (record {
            event = r.event;
            new = base_new;
            taken = ap (λ o. takes o x.event) same ∙ r.taken;
            is_signed = ap (λ o. signed sofar o x) same ∙ still;
            full = ap (λ o. is_backed sofar o x && anchored base o x.event) same ∙ full;
          })

    -- the messages of the event, one after another
    record Taken (sofar : List Told) (ms : List (List Claim)) (rest : List Sent) (whole : List Told) : Type 0 where
      pub final : List Told
      pub more : List Told
      pub parts : final ≡ sofar ++ more
      pub came : (b : Body) → Among b (flat_map taken final) → Among b base ⊎ (x ≡ b)
      pub no_no : HasNoNo final
      pub claims : (cs : List Claim) (c : Claim) → Among cs ms → Among c cs → Among c (claims_on final x)
      pub kept : (c : Claim) → Among c (claims_on sofar x) → Among c (claims_on final x)
      pub asked : questions Full [] final ≡ []
      pub itself : Among x (flat_map taken final)
      pub replay : Replays rest final whole

    abbrev sent : List Claim → Sent
    sent claims = record { body = x; claims = claims }

    take_all : (cs : List Claim) (ms : List (List Claim)) (rest : List Sent) (sofar whole : List Told)
        → ((b : Body) → Among b (flat_map taken sofar) → Among b base ⊎ (x ≡ b)) → HasNoNo sofar → Replays (map sent (cs ∷ ms) ++ rest) sofar whole → Taken sofar (cs ∷ ms) rest whole
    take_all cs [] rest sofar whole came no_no replay =
        let reader = replay.0 in let answers = replay.1 in let all = replay.2 in record {
          final = sofar ++ took reader x cs ∷ answers;
          more = took reader x cs ∷ answers;
          parts = refl;
          came = λ b m. elim (brings_body sofar reader x cs answers all b m) as (λ _. Among b base ⊎ (x ≡ b)) [ inl l ↦ came b l | inr e ↦ inr e ];
          no_no = λ t m. no_no t (brings_no sofar reader x cs answers all t m);
          claims = λ ds c m n. elim m as (λ _. Among c (claims_on (sofar ++ took reader x cs ∷ answers) x)) [
            | inl e ↦ brings_claims sofar reader x cs answers all c (subst (λ ds. Among c ds) (sym e) n)
            | inr none ↦ absurd none
          ];
          kept = λ c m. keeps_claims sofar reader x cs answers all c m;
          asked = replay.3;
          itself = brings_itself sofar reader x cs answers all;
          replay = replay.4;
        }
    take_all cs (ds ∷ dss) rest sofar whole came no_no replay =
        let reader = replay.0 in let answers = replay.1 in let all = replay.2 in
        let now : List Told = sofar ++ took reader x cs ∷ answers in
        let k = take_all ds dss rest now whole (λ b m. elim (brings_body sofar reader x cs answers all b m) as (λ _. Among b base ⊎ (x ≡ b)) [ inl l ↦ came b l | inr e ↦ inr e ])
        (λ t m. no_no t (brings_no sofar reader x cs answers all t m)) replay.4 in
        record {
          final = k.final;
          more = (took reader x cs ∷ answers) ++ k.more;
          parts = k.parts ∙ append_assoc sofar (took reader x cs ∷ answers) k.more;
          came = k.came;
          no_no = k.no_no;
          claims = λ es c m n. elim m as (λ _. Among c (claims_on k.final x)) [
            | inl e ↦ k.kept c (brings_claims sofar reader x cs answers all c (subst (λ ds. Among c ds) (sym e) n))
            | inr more ↦ k.claims es c more n
          ];
          kept = λ c m. k.kept c (keeps_claims sofar reader x cs answers all c m);
          asked = k.asked;
          itself = k.itself;
          replay = k.replay;
        }

    -- ACCEPTED: behind its messages the event is accepted, and nothing else
    pub record Accepts (rest : List Sent) (whole : List Told) : Type 0 where
      pub final : List Told
      pub came : (b : Body) → Among b (flat_map taken final) → Among b (exported family (front ++ x ∷ []))
      pub no_no : HasNoNo final
      pub is : accepted Full [] final ≡ exported family (front ++ x ∷ [])
      pub replay : Replays rest final whole

    longer : exported family (front ++ x ∷ []) ≡ base ++ x ∷ []
    longer = filter-append (is_of_some family) front (x ∷ []) ∙ (rw of refl)

    -- members of the log are one where their bytes are
    base_bytes : (b : Body) → Among b base ⊎ (x ≡ b) → b.bytes ≡ x.bytes → b ≡ x
    base_bytes b (inr e) k = sym e
    base_bytes b (inl m) k =
        let in_front = (left_among (is_of_some family) front b m).0 in
        let in_log = subst (λ xs. Among b xs) (sym split) (among_left front (x ∷ later) b in_front) in
        same_bytes (bodies [] told) b x (bodies_differ told) (accepted_came Full told b in_log).0 x_came k

    all_claims : (c : Claim) → Among c (sent_claims told log x) → (cs : List Claim) × Among cs (cut_claims (sent_claims told log x)) × Among c cs
    all_claims c m = cut_all (sent_claims told log x) c m

    came_there : (final : List Told) → ((b : Body) → Among b (flat_map taken final) → Among b base ⊎ (x ≡ b)) → Among x (flat_map taken final) → Among x (bodies [] final)
    unfolding bodies
    came_there final came itself = among_first same_body (flat_map taken final) x (λ y m k. base_bytes y (came y m) ((bytes_decides y.bytes x.bytes).0 k)) itself

    came_from : (final : List Told) (b : Body) → Among b (bodies [] final) → Among b (flat_map taken final)
    unfolding bodies
    came_from final b m = distinct_among same_body (flat_map taken final) b m

    accepts : (rest : List Sent) (sofar whole : List Told) → ((b : Body) → Among b (flat_map taken sofar) → Among b base) → HasNoNo sofar → accepted Full [] sofar ≡ base
        → Replays (messages_of told log x ++ rest) sofar whole → Accepts rest whole
    accepts rest sofar whole came no_no is replay =
        let cut = cut_some (sent_claims told log x) in
        let cs = cut.0 in let css = cut.1 in
        let k = take_all cs css rest sofar whole (λ b m. inl (came b m)) no_no (subst (λ ms. Replays (map sent ms ++ rest) sofar whole) cut.2 replay) in
        let claims : (c : Claim) → Among c (sent_claims told log x) → Among c (claims_on k.final x) = λ c m. (let a = all_claims c m in
        k.claims a.0 c (subst (λ ms. Among a.0 ms) cut.2 a.1) a.2) in
        let ext = accepted_extends Full [] sofar k.more in
        let grew : accepted Full [] k.final ≡ base ++ ext.0 = ap (accepted Full []) k.parts ∙ ext.1 ∙ ap (λ xs. xs ++ ext.0) is in
        let only : (b : Body) → Among b ext.0 → Among b base ⊎ (x ≡ b) = λ b m. k.came b (came_from k.final b (accepted_came Full k.final b (subst (λ xs. Among b xs) (sym grew) (among_right base ext.0 b m))).0) in
        elim (one_new base ext.0 x (subst IsGrown grew (grown Full k.final)) only) [
          | inl none ↦ (let still : accepted Full [] k.final ≡ base = grew ∙ ap (λ xs. base ++ xs) none ∙ append-nil base in
              let inside = came_there k.final k.came k.itself in
              let ready = ready_again k.final still k.asked inside k.no_no claims in
              absurd (none_ready Full k.final x inside (ap (λ xs. is_ready Full k.final xs x) still ∙ ready)))
          | inr one ↦ record {
            final = k.final;
            came = λ b m. subst (λ xs. Among b xs) (sym longer) (elim (k.came b m) as (λ _. Among b (base ++ x ∷ [])) [
              | inl l ↦ among_left base (x ∷ []) b l
              | inr e ↦ among_right base (x ∷ []) b (inl e)
            ]);
            no_no = k.no_no;
            is = grew ∙ ap (λ xs. base ++ xs) one ∙ sym longer;
            replay = k.replay;
          }
        ]

  -- all events, one after another
  all_accepted : (seen rest : List Body) → log ≡ seen ++ rest → (sofar whole : List Told) → ((b : Body) → Among b (flat_map taken sofar) → Among b (exported family seen)) → HasNoNo sofar
      → accepted Full [] sofar ≡ exported family seen → Replays (flat_map (messages_of told log) (exported family rest)) sofar whole → accepted Full [] whole ≡ exported family log
  all_accepted seen [] split sofar whole came no_no is replay = ap (accepted Full []) (sym replay) ∙ is ∙ ap (exported family) (sym (append-nil seen) ∙ sym split)
  all_accepted seen (x ∷ rest) split sofar whole came no_no is replay = elim (cases_Bool (is_of_some family x)) [
    | inl of ↦ (let replay' : Replays (messages_of told log x ++ flat_map (messages_of told log) (exported family rest)) sofar whole = rw of at replay in
        let k = accepts seen rest x split of (flat_map (messages_of told log) (exported family rest)) sofar whole came no_no is replay' in
        all_accepted (seen ++ x ∷ []) rest (split ∙ sym (append_assoc seen (x ∷ []) rest)) k.final whole k.came k.no_no k.is k.replay)
    | inr of ↦ (let same : exported family (seen ++ x ∷ []) ≡ exported family seen = filter-append (is_of_some family) seen (x ∷ []) ∙ (rw of (append-nil (exported family seen))) in
        let replay' : Replays (flat_map (messages_of told log) (exported family rest)) sofar whole = rw of at replay in
        all_accepted (seen ++ x ∷ []) rest (split ∙ sym (append_assoc seen (x ∷ []) rest)) sofar whole (λ b m. subst (λ xs. Among b xs) (sym same) (came b m)) no_no (is ∙ sym same) replay')
  ]

  nothing_accepted : accepted Full [] [] ≡ []
  unfolding accepted grown_by
  nothing_accepted = refl

  pub copied : (whole : List Told) → AreRetold (export told family) whole → accepted Full [] whole ≡ exported family log
  unfolding export
  copied whole retold = all_accepted [] log refl [] whole (λ b m. m) (λ t m. m) nothing_accepted (replays (export told family) whole retold)

-- EXPORT
pub export_is_copied : ExportLaw
unfolding live
export_is_copied told whole first family regular clash is_family retold =
    let log = accepted Full [] told in
    let closed : (p d : Prefix) → Among p family → delegator_if (state log p) ≡ Some d → Among d family = λ p d m e.
    among family d ((is_family d).1 (delegator ((is_family p).0 (contained family p m)) e)) in
    let same = copied told family regular clash closed whole retold in
    record {
      same = same;
      live_events = λ p m. ap (fold live_with []) (ap (filter (is_of p)) same ∙ own_family family p log (among family p m));
    }
