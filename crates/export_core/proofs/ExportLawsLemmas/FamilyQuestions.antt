-- What is asked by the entries of a family is what is asked of its bodies.
use Rattle.std.proofs.Common.{◌≡◌, Contains, Bool, true, false, not, List, [], ◌∷◌, ◌++◌, refl, sym, ◌∙◌, ap, subst, inl, inr, append-nil}
use Rattle.std.specs.Prelude.{bytes_eq, filter, flat_map, map}
use Rattle.std.specs.List.{list_any}
use Rattle.std.specs.Cmp.Lexicographic.{bytes_decides}
use Rattle.std.proofs.lemmas.Bool.{cases_Bool}
use Rattle.std.proofs.lemmas.List.Elements.{filter-append}
use Rattle.cesr_codes.specs.declared.prefix.Prefix.{Prefix}
use Rattle.key_state.specs.Exposure.{own_rules}
use Rattle.key_state.specs.Same.{distinct}
use Rattle.journal.specs.declared.journal.body.Body.{Body}
use Rattle.journal.specs.declared.journal.mode.Mode.{Mode}
use Rattle.journal.specs.Journal.Accepted.{accepted}
use Rattle.journal.specs.Journal.Grown.{IsGrown}
use Rattle.journal.specs.Journal.History.{Told, Triple, bodies, has_verdict, heard, heard_in, same_triple, took}
use Rattle.journal.specs.Journal.Questions.{questions, raised, raised_by, state_before}
use Rattle.journal.specs.Journal.Readiness.{is_local}
use Rattle.journal.proofs.JournalLemmas.Keeping.{accepted_grown}
use Rattle.journal.proofs.JournalLemmas.Same.{same_triple_is}
use Rattle.journal_views.proofs.JournalLawsLemmas.Followed.{stands_same}
use Rattle.journal_views.proofs.JournalLawsLemmas.Verdicts.{raised_from, triple_body}
use Rattle.key_state.proofs.Among.{Among, among, among_either, among_left, among_left_by, among_map, among_right, contained, distinct_among, flat_map_among, left_among, map_among, passed, passing}
use Rattle.export_core.specs.ExportLaws.Export.{exported, is_of_some}
use Rattle.export_core.specs.ExportLaws.Families.{HaveOneReading, IsClosed, told_bodies, told_body, within}
use Rattle.export_core.specs.ExportLaws.FamilyQuestions.{FamilyQuestionsLaw, FamilyRegularLaw, is_on}
use Rattle.export_core.proofs.ExportLawsLemmas.Family.{before_family}
use Rattle.export_core.proofs.ExportLawsLemmas.Families.{apart, bodies_within, came_all, closed_here, entry_all, families}
use Rattle.export_core.proofs.ExportLawsLemmas.Filters.{distinct_filter, filter_alike, filter_each, filter_no, filters_turned}
use Rattle.export_core.proofs.ExportLawsLemmas.Rounds.{bodies_came}
use Rattle.export_core.proofs.ExportLawsLemmas.Within.{any_within, claims_within}

module _ (mode : Mode) (base : List Body) (told : List Told) (family : List Prefix)
    (one : HaveOneReading (told_bodies base told)) (grown : IsGrown base)
    (closed : is_local mode ≡ false → IsClosed (accepted mode base told) family) where
  abbrev log : List Body
  log = accepted mode base told

  abbrev part : List Told
  part = within family told

  abbrev all : List Body
  all = told_bodies base told

  abbrev on : Triple → Bool
  on t = is_on (exported family (bodies base told)) t

  body_all : (b : Body) → Among b (bodies base told) → Among b all
  body_all b m = came_all mode base told family one closed told [] (sym (append-nil told)) b
      (bodies_came base told b m)

  told_all : (t : Told) → Among t told → Among (told_body t) all
  told_all t m = entry_all mode base told family one closed told [] (sym (append-nil told)) t m

  -- the body of such a signature
  its_body : (t : Triple) → on t ≡ true → (b : Body) × Among b all × (is_of_some family b ≡ true) × (b.bytes ≡ t.body)
  its_body t h =
      let p = passing (λ b. bytes_eq b.bytes t.body) (exported family (bodies base told)) h in
      let l = left_among (is_of_some family) (bodies base told) p.0 p.1 in
      (p.0, body_all p.0 l.0, l.1, (bytes_decides p.0.bytes t.body).0 p.2)

  -- a body with these bytes is of the family
  of_its : (t : Triple) (c : Body) → on t ≡ true → Among c all → t.body ≡ c.bytes → is_of_some family c ≡ true
  of_its t c h m e = (let b = its_body t h in apart mode base told family one closed b.0 c b.1 m b.2
      ((bytes_decides c.bytes b.0.bytes).1 (sym (b.3 ∙ e))))

  raised_body : (b : Body) (t : Triple) → Among t (raised_by told log b) → t.body ≡ b.bytes
  raised_body b t m = (let r = (raised_from told log b t m).1 in
      triple_body (own_rules (state_before log b) b.event) b r.0 t r.2)

  raised_on : (b : Body) → Among b (bodies base told) → is_of_some family b ≡ true → (t : Triple)
      → Among t (raised_by told log b) → on t ≡ true
  raised_on b m of t n = passed (λ b. bytes_eq b.bytes t.body) (exported family (bodies base told)) b
      (among_left_by (is_of_some family) (bodies base told) b m of)
      ((bytes_decides b.bytes t.body).1 (sym (raised_body b t n)))

  raised_off : (b : Body) → Among b (bodies base told) → is_of_some family b ≡ false → (t : Triple)
      → Among t (raised_by told log b) → on t ≡ false
  raised_off b m k t n = elim (cases_Bool (on t)) [
    | inr off ↦ off
    | inl h ↦ (let of = of_its t b h (body_all b m) (raised_body b t n) in cc)
  ]

  -- what a body of the family raises
  raised_within : (b : Body) → Among b (bodies base told) → is_of_some family b ≡ true
      → raised_by part (exported family log) b ≡ raised_by told log b
  unfolding raised_by
  raised_within b m of =
      let before = before_family family log b (accepted_grown mode base told grown) of in
      let stood = stands_same (exported family log) log b before in
      let claims = claims_within family told b of (λ t n same. apart mode base told family one closed b
      (told_body t) (body_all b m) (told_all t n) of same) in
      rw (stood, before, claims) refl

  -- what bodies raise
  all_within : (xs : List Body) → ((b : Body) → Among b xs → Among b (bodies base told))
      → flat_map (raised_by part (exported family log)) (exported family xs)
      ≡ filter on (flat_map (raised_by told log) xs)
  all_within [] inside = refl
  all_within (b ∷ xs) inside =
      let ih = all_within xs (λ c m. inside c (inr m)) in
      let both = filter-append on (raised_by told log b) (flat_map (raised_by told log) xs) in
      elim (cases_Bool (is_of_some family b)) [
        | inl k ↦ (let here = raised_within b (inside b (inl refl)) k in
            let kept = filter_each on (raised_by told log b) (raised_on b (inside b (inl refl)) k) in
            rw (k, here, ih) (sym (both ∙ ap (λ ys. ys ++ filter on (flat_map (raised_by told log) xs)) kept)))
        | inr k ↦ (let gone = filter_no on (raised_by told log b) (raised_off b (inside b (inl refl)) k) in
            rw k (ih ∙ sym (both ∙ ap (λ ys. ys ++ filter on (flat_map (raised_by told log) xs)) gone)))
      ]

  -- a verdict on a body of the family is among the family's entries
  verdict_within : (t : Triple) → on t ≡ true → has_verdict part t ≡ has_verdict told t
  unfolding has_verdict
  verdict_within t h = any_within family (same_triple t) heard_in told off
    where
      off : (u : Told) → Among u told → is_of_some family (told_body u) ≡ false
          → list_any (same_triple t) (heard_in u) ≡ false
      off (took reader c claims) m k = refl
      off (heard reader c key sig verdict) m k =
          let u : Triple = record { body = c.bytes; key = key; sig = sig } in
          elim (cases_Bool (same_triple t u)) [
            | inr differs ↦ rw differs refl
            | inl same ↦ (let is : t.body ≡ c.bytes = ap (λ t. t.body) (same_triple_is t u same) in
                let of = of_its t c h (told_all (heard reader c key sig verdict) m) is in cc)
          ]

  on_alike : (t u : Triple) → same_triple t u ≡ true → on t ≡ on u
  on_alike t u h = ap on (same_triple_is t u h)

  -- what all bodies raise
  abbrev each : List Triple
  each = flat_map (raised_by told log) (bodies base told)

  asked_within : questions mode (exported family base) part ≡ filter on (questions mode base told)
  unfolding questions raised
  asked_within =
      let same = (families mode base told family one closed).same in
      let its = bodies_within mode base told family one closed told [] (sym (append-nil told)) in
      let own = flat_map (raised_by part (accepted mode (exported family base) part))
      (bodies (exported family base) part) in
      let listed : own ≡ filter on each
      = (λ i. flat_map (raised_by part (same i)) (its i)) ∙ all_within (bodies base told) (λ b m. m) in
      let firsts = ap (distinct same_triple) listed
      ∙ distinct_filter same_triple on each (λ t u m n h. on_alike t u h) in
      ap (filter (λ t. not (has_verdict part t))) firsts
      ∙ filter_alike (λ t. not (has_verdict part t)) (λ t. not (has_verdict told t))
      (filter on (distinct same_triple each))
      (λ t m. ap (λ v. not v) (verdict_within t (left_among on (distinct same_triple each) t m).1))
      ∙ filters_turned (λ t. not (has_verdict told t)) on (distinct same_triple each)

  -- a question is of a body that came
  asked_body : (t : Triple) → Among t (questions mode base told)
      → (b : Body) × Among b (bodies base told) × (t.body ≡ b.bytes)
  unfolding questions raised
  asked_body t m =
      let l = left_among (λ t. not (has_verdict told t)) (distinct same_triple each) t m in
      let f = flat_map_among (raised_by told log) (bodies base told) t (distinct_among same_triple each t l.0) in
      (f.0, f.1, raised_body f.0 t f.2)

  -- and where the bodies of its bytes are of the family, it is asked by the family's entries
  pub asked_on : (t : Triple)
      → ((b : Body) → Among b (bodies base told) → t.body ≡ b.bytes → is_of_some family b ≡ true)
      → Among t (questions mode base told) → Among t (questions mode (exported family base) part)
  asked_on t mine n =
      let a = asked_body t n in
      let yes_on = passed (λ c. bytes_eq c.bytes t.body) (exported family (bodies base told)) a.0
      (among_left_by (is_of_some family) (bodies base told) a.0 a.1 (mine a.0 a.1 a.2))
      ((bytes_decides a.0.bytes t.body).1 (sym a.2)) in
      subst (λ xs. Among t xs) (sym asked_within) (among_left_by on (questions mode base told) t n yes_on)

-- QUESTIONS
pub family_questions : FamilyQuestionsLaw
family_questions mode base told family one grown closed = asked_within mode base told family one grown closed

-- a cut of the family's entries is one of all
record IsCut (family : List Prefix) (told earlier : List Told) (t : Told) : Type 0 where
  pub front : List Told
  pub behind : List Told
  pub parts : told ≡ front ++ t ∷ behind
  pub same : within family front ≡ earlier
  pub of : is_of_some family (told_body t) ≡ true

cut_within : (family : List Prefix) (told earlier later : List Told) (t : Told)
    → within family told ≡ earlier ++ t ∷ later → IsCut family told earlier t
cut_within family [] [] later t e = cc
cut_within family [] (u ∷ earlier) later t e = cc
cut_within family (u ∷ told) earlier later t e = elim (cases_Bool (is_of_some family (told_body u))) [
  | inr k ↦ (let c = cut_within family told earlier later t (rw k at e) in
      record {
        front = u ∷ c.front;
        behind = c.behind;
        parts = ap (λ xs. u ∷ xs) c.parts;
        same = rw k c.same;
        of = c.of;
      })
  | inl k ↦ here k earlier (rw k at e) (cut_within family told)
]
  where
    here : is_of_some family (told_body u) ≡ true → (earlier : List Told)
        → u ∷ within family told ≡ earlier ++ t ∷ later
        → ((earlier later : List Told) (t : Told) → within family told ≡ earlier ++ t ∷ later
        → IsCut family told earlier t)
        → IsCut family (u ∷ told) earlier t
    here k [] e cut =
        let is : u ≡ t = cc in
        record {
          front = [];
          behind = told;
          parts = ap (λ t. t ∷ told) is;
          same = refl;
          of = ap (λ t. is_of_some family (told_body t)) (sym is) ∙ k;
        }
    here k (v ∷ earlier) e cut =
        let is : u ≡ v = cc in
        let tails : within family told ≡ earlier ++ t ∷ later = cc in
        let c = cut earlier later t tails in
        record {
          front = u ∷ c.front;
          behind = c.behind;
          parts = ap (λ xs. u ∷ xs) c.parts;
          same = rw k (λ i. is i ∷ c.same i);
          of = c.of;
        }

-- the bodies of fewer entries are among those of all
fewer_bodies : (base : List Body) (front later : List Told) (b : Body) → Among b (told_bodies base front)
    → Among b (told_bodies base (front ++ later))
fewer_bodies base front later b m = elim (among_either base (map told_body front) b m) [
  | inl l ↦ among_left base (map told_body (front ++ later)) b l
  | inr r ↦ (let f = map_among told_body front b r in
      among_right base (map told_body (front ++ later)) b
      (subst (λ c. Among c (map told_body (front ++ later))) f.2
      (among_map told_body (front ++ later) f.0 (among_left front later f.0 f.1))))
]

-- REGULAR
pub family_regular : FamilyRegularLaw
family_regular mode base told family one grown closed regular earlier later reader b key sig verdict e =
    let signature : Triple = record { body = b.bytes; key = key; sig = sig } in
    let t : Told = heard reader b key sig verdict in
    let c = cut_within family told earlier later t e in
    let front = c.front in
    let behind : List Told = t ∷ c.behind in
    let all = told_bodies base told in
    let sofar = told_bodies base front in
    let inside : (x : Body) → Contains sofar x → Contains all x = λ x m.
    contained all x (subst (λ told. Among x (told_bodies base told)) (sym c.parts)
    (fewer_bodies base front behind x (among sofar x m))) in
    let own_one : HaveOneReading sofar = λ x y m n same. one x y (inside x m) (inside y n) same in
    let own_closed : is_local mode ≡ false → IsClosed (accepted mode base front) family = λ k q d m h.
    contained family d (closed_here mode base told family one closed front behind c.parts k q d (among family q m) h) in
    let p = passing (same_triple signature) (questions mode base front)
    (regular front c.behind reader b key sig verdict c.parts) in
    let is : signature ≡ p.0 = same_triple_is signature p.0 p.2 in
    let b_all : Among b all = entry_all mode base told family one closed told [] (sym (append-nil told)) t
    (subst (λ xs. Among t xs) (sym c.parts) (among_right front behind t (inl refl))) in
    let mine : (x : Body) → Among x (bodies base front) → p.0.body ≡ x.bytes → is_of_some family x ≡ true = λ x m same.
    apart mode base told family one closed b x b_all
    (came_all mode base told family one closed front behind c.parts x (bodies_came base front x m)) c.of
    ((bytes_decides x.bytes b.bytes).1 (sym same ∙ ap (λ t. t.body) (sym is))) in
    let asked = asked_on mode base front family own_one grown own_closed p.0 mine p.1 in
    passed (same_triple signature) (questions mode (exported family base) earlier) p.0
    (subst (λ xs. Among p.0 (questions mode (exported family base) xs)) c.same asked) p.2
