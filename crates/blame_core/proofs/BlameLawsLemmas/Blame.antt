-- Who signed twice: as many as both events want, less the union; and each is bad.
use Rattle.std.proofs.Common.{◌≡◌, ℕ, ◌+◌, ◌≤◌, Bool, true, false, not, cond, ◌&&◌, List, [], ◌∷◌, ◌++◌, length, map, Contains, refl, sym, ◌∙◌, ap, subst, arith, inl, inr}
use Rattle.std.specs.Prelude.{filter, flat_map, bytes_eq}
use Rattle.std.specs.List.{list_any}
use Rattle.std.specs.Cmp.Lexicographic.{bytes_decides}
use Rattle.std.proofs.lemmas.Bool.{cases_Bool, and_parts, and_from, or_cases, not-true}
use Rattle.std.proofs.lemmas.List.Elements.{All-nil}
use Rattle.std.proofs.lemmas.List.Sums.{length-filter}
use Rattle.cesr_codes.specs.declared.key.Key.{Key}
use Rattle.event_body.specs.EventBody.Events.{is_establishment}
use Rattle.event_body.specs.EventBody.Judging.{SpellsEvent}
use Rattle.key_state.specs.Same.{same_key, has_key, distinct}
use Rattle.key_state.proofs.Same.{same_key_is, same_key_itself}
use Rattle.journal.specs.declared.journal.body.Body.{Body}
use Rattle.journal.specs.declared.journal.mode.Mode.TheVariants.{Full}
use Rattle.journal.specs.Journal.Accepted.{accepted}
use Rattle.journal.specs.Journal.History.{Told, Triple, bodies, yes_in}
use Rattle.journal.specs.Journal.Readiness.{backers, backs}
use Rattle.quorum_laws.specs.Agreement.{union}
use Rattle.quorum_laws.specs.Backing.{AreSpelled, IsHonest, rules_in, vouches}
use Rattle.quorum_laws.specs.Histories.{Signing, did_sign}
use Rattle.quorum_laws.proofs.Agreeing.{spelled_at}
use Rattle.quorum_laws.proofs.Backers.{accepted_is_backed}
use Rattle.quorum_laws.proofs.Counting.{number, count_by-number, number-le, number-left, number-distinct_left, number-distinct_right}
use Rattle.quorum_laws.proofs.Inside.{accepted_inside}
use Rattle.blame_core.specs.BlameLaws.Blame.{BlameLaw, culprits}
use Rattle.key_state.proofs.Among.{Among, among, among_distinct, among_left_by, contained, distinct_among, left_among, passed, passing}

abbrev one_if : Bool → ℕ
one_if b = cond b 1 0

number-filter : {X : Type 0} (r p : X → Bool) (xs : List X) → number p (filter r xs) ≡ number (λ x. r x && p x) xs
number-filter r p [] = refl
number-filter r p (x ∷ xs) = elim (cases_Bool (r x)) [
  | inl h ↦ (let ih = number-filter r p xs in rw (h, ih) refl)
  | inr h ↦ rw h (omega (arith, number-filter r p xs))
]

number-both : {X : Type 0} (p q : X → Bool) (xs : List X) → number p xs + number q xs ≤ length xs + number (λ x. p x && q x) xs
number-both p q [] = omega arith
number-both p q (x ∷ xs) = omega (arith, number-both p q xs, one (p x) (q x))
  where
    one : (a b : Bool) → one_if a + one_if b ≤ 1 + one_if (a && b)
    one true true = omega arith
    one true false = omega arith
    one false true = omega arith
    one false false = omega arith

number-none : {X : Type 0} (r : X → Bool) → ((x : X) → r x ≡ true → ⊥) → (xs : List X) → number r xs ≤ 0
number-none r none [] = omega arith
number-none r none (x ∷ xs) = elim (cases_Bool (r x)) [
  | inl h ↦ absurd (none x h)
  | inr h ↦ rw h (omega (arith, number-none r none xs))
]

-- what is of the first list alone counts no more with others behind it
number-first : (r : Key → Bool) (v w : List Key) → ((k : Key) → r k ≡ true → has_key v k ≡ true) → number r (distinct same_key (v ++ w)) ≤ number r (distinct same_key v)
unfolding distinct
number-first r [] w of = number-none r (λ k h. let no = of k h in cc) (distinct same_key w)
number-first r (x ∷ v) w of =
    let rest : (k : Key) → (not (same_key x k) && r k) ≡ true → has_key v k ≡ true = λ k h. (let parts = and_parts (not (same_key x k)) (r k) h in
    elim (or_cases (same_key x k) (has_key v k) (of k parts.1)) as (λ _. has_key v k ≡ true) [
      | inl same ↦ (let other = not-true _ parts.0 in cc)
      | inr there ↦ there
    ]) in
    omega (
      arith,
      number-filter (λ y. not (same_key x y)) r (distinct same_key (v ++ w)),
      number-filter (λ y. not (same_key x y)) r (distinct same_key v),
      number-first (λ y. not (same_key x y) && r y) v w rest,
    )

-- COUNT: two sets in a union have so many common members
common : (v w : List Key) (p q : Key → Bool) (m n : ℕ) → m ≤ number p (distinct same_key v) → n ≤ number q (distinct same_key w)
    → m + n ≤ length (union v w) + length (filter (λ k. has_key w k && (p k && q k)) (distinct same_key v))
common v w p q m n hp hq =
    let in_v : Key → Bool = λ k. has_key v k && p k in
    let in_w : Key → Bool = λ k. has_key w k && q k in
    let test : Key → Bool = λ k. has_key w k && (p k && q k) in
    let one = number-left p in_v (distinct same_key v) (λ k c. (let l = left_among p (distinct same_key v) k (among (filter p (distinct same_key v)) k c) in
    and_from _ _ (passed (λ l. same_key l k) v k (distinct_among same_key v k l.0) (same_key_itself k)) l.1)) in
    let two = number-left q in_w (distinct same_key w) (λ k c. (let l = left_among q (distinct same_key w) k (among (filter q (distinct same_key w)) k c) in
    and_from _ _ (passed (λ l. same_key l k) w k (distinct_among same_key w k l.0) (same_key_itself k)) l.1)) in
    let both : Key → Bool = λ k. in_v k && in_w k in
    omega (
      arith,
      hp,
      hq,
      one,
      two,
      number-distinct_left same_key same_key_is in_v v w,
      number-distinct_right same_key same_key_is in_w v w,
      number-both in_v in_w (union v w),
      number-first both v w (λ k h. (and_parts (has_key v k) (p k) (and_parts (in_v k) (in_w k) h).0).0),
      number-le both test (λ k h. (let a = and_parts (in_v k) (in_w k) h in let b = and_parts (has_key v k) (p k) a.0 in let c = and_parts (has_key w k) (q k) a.1 in and_from _ _ c.0 (and_from _ _ b.1 c.1))) (distinct same_key v),
      length-filter test (distinct same_key v),
      count_by-number test (distinct same_key v),
    )

-- the signings of which a verifier said yes
abbrev said : List Told → List Signing
said told = map (λ t. record { key = t.key; body = t.body }) (flat_map yes_in told)

swapped : (a b : Bool) → (a && b) ≡ (b && a)
swapped true true = refl
swapped true false = refl
swapped false true = refl
swapped false false = refl

any-map : (b : Body) (w : Key) (ts : List Triple)
    → list_any (λ s. same_key s.key w && bytes_eq s.body b.bytes) (map {B = Signing} (λ t. record { key = t.key; body = t.body }) ts)
    ≡ list_any (λ t. bytes_eq t.body b.bytes && same_key t.key w) ts
any-map b w [] = refl
any-map b w (t ∷ ts) = rw (swapped (same_key t.key w) (bytes_eq t.body b.bytes), any-map b w ts) refl

-- with them as the history, who backs a body signed it
signed_by_backers : (told : List Told) (b : Body) (w : Key) → did_sign (said told) b w ≡ backs told b w
unfolding backs
signed_by_backers told b w = any-map b w (flat_map yes_in told)

-- so many of its own witnesses back what a full validator accepted
own_backers : (told : List Told) (b : Body) → AreSpelled (bodies [] told) → Contains (accepted Full [] told) b → is_establishment b.event ≡ true
    → (rules_in (accepted Full [] told) b).toad ≤ number (backs told b) (distinct same_key (rules_in (accepted Full [] told) b).witnesses)
unfolding backers
own_backers told b spelled inside sets_keys =
    let log = accepted Full [] told in
    let honest : IsHonest told log (said told) [] = λ c w c_in est back good. (
    signed_by_backers told c w ∙ (left_among (backs told c) (distinct same_key (rules_in log c).witnesses) w (among (backers told (rules_in log c).witnesses c) w back)).1) in
    let enough = (accepted_is_backed told (said told) [] spelled honest).enough b inside sets_keys in
    let ws = distinct same_key (rules_in log b).witnesses in
    let all = number-le (vouches (said told) [] b) (backs told b) (λ w h. sym (signed_by_backers told b w) ∙ h) ws in
    omega (arith, enough, all, count_by-number (vouches (said told) [] b) ws)

-- what a full validator accepted is spelled
spelled_in : (told : List Told) (b : Body) → AreSpelled (bodies [] told) → Contains (accepted Full [] told) b → SpellsEvent b.event b.bytes
spelled_in told b spelled inside =
    let P : Body → Type 0 = λ b. SpellsEvent b.event b.bytes in
    spelled_at (accepted Full [] told) b (accepted_inside P Full [] told (All-nil P) spelled) inside

-- a signature stands in the history as one of the key on the bytes
signing_of : (history : List Signing) (b : Body) (key : Key) → did_sign history b key ≡ true
    → (s : Signing) × Contains history s × (s.key ≡ key) × (s.body ≡ b.bytes)
signing_of history b key h =
    let p = passing (λ s. same_key s.key key && bytes_eq s.body b.bytes) history h in
    let parts = and_parts (same_key p.0.key key) (bytes_eq p.0.body b.bytes) p.2 in
    (p.0, contained history p.0 p.1, same_key_is p.0.key key parts.0, (bytes_decides p.0.body b.bytes).0 parts.1)

-- BLAME
pub blame : BlameLaw
unfolding culprits backers
blame told other b c spelled spelled' b_in c_in level differ =
    let log = accepted Full [] told in let log' = accepted Full [] other in
    let v = (rules_in log b).witnesses in let w = (rules_in log' c).witnesses in
    record {
      many = common v w (backs told b) (backs other c) _ _ (own_backers told b spelled b_in level.first_sets_keys) (own_backers other c spelled' c_in level.second_sets_keys);
      bad = λ history bad k inside lawful honest honest'. (
          let l = left_among (λ w'. has_key w w' && (backs told b w' && backs other c w')) (distinct same_key v) k (among (culprits told b other c) k inside) in
          let parts = and_parts (has_key w k) (backs told b k && backs other c k) l.1 in
          let both = and_parts (backs told b k) (backs other c k) parts.1 in
          let m = passing (λ l. same_key l k) w parts.0 in
          let in_w : Among k w = subst (λ l. Among l w) (same_key_is m.0 k m.2) m.1 in
          elim (cases_Bool (has_key bad k)) as (λ _. has_key bad k ≡ true) [
            | inl h ↦ h
            | inr good ↦ (let first = contained (backers told v b) k (among_left_by (backs told b) (distinct same_key v) k l.0 both.0) in
                let second = contained (backers other w c) k (among_left_by (backs other c) (distinct same_key w) k (among_distinct same_key same_key_is w k in_w) both.1) in
                let s = signing_of history b k (honest b k b_in level.first_sets_keys first good) in
                let t = signing_of history c k (honest' c k c_in level.second_sets_keys second good) in
                let sb = spelled_in told b spelled b_in in
                let sc = spelled_in other c spelled' c_in in
                let same = lawful s.0 t.0 b.event c.event s.1 t.1 (s.2 ∙ sym t.2) (ap (has_key bad) s.2 ∙ good)
                (subst (λ text. SpellsEvent b.event text) (sym s.3) sb) (subst (λ text. SpellsEvent c.event text) (sym t.3) sc) level in
                absurd (differ (sym s.3 ∙ same ∙ t.3)))
          ]);
    }
