-- Promises of keys that a plan has already.
use Rattle.std.proofs.Common.{◌≡◌, ◌⊎◌, ℕ, suc, ◌+◌, ◌<◌, Bool, true, false, cond, not, ◌||◌, List, [], ◌∷◌, ◌++◌, length, get_or, take, drop, Some, refl, sym, ap, subst, ◌∙◌, inl, inr, rules, tests}
use Rattle.std.specs.Str.{bytes_eq}
use Rattle.std.specs.BTreeMap.{is_at}
use Rattle.std.specs.List.{list_any}
use Rattle.std.specs.Cmp.Lexicographic.{bytes_decides}
use Rattle.std.proofs.Math.Bool.{or-false, or_assoc}
use Rattle.std.proofs.Math.Seq.{split_at}
use Rattle.std.proofs.lemmas.Bool.{cases_Bool}
use Rattle.std.proofs.lemmas.List.{take_more}
use Rattle.std.proofs.lemmas.List.Folds.{list_any-append}
use Rattle.cesr_codes.specs.contracts.digest.DigestOrd.TheImpl.Laws as digest_laws
use Rattle.cesr_codes.specs.contracts.digest.DigestPartialEq.TheImpl as digest_test
use Rattle.cesr_codes.specs.declared.digest.Digest.{Digest}
use Rattle.cesr_codes.specs.declared.digest.DigestCode.{DigestCode}
use Rattle.cesr_codes.specs.declared.digest.DigestCode.TheVariants.{Blake3, Sha256}
use Rattle.cesr_codes.specs.declared.key.Key.{Key}
use Rattle.cesr_codes.specs.Spelling.{key_text}
use Rattle.said_digest.specs.Digests.{digest_of}
use Rattle.key_state.specs.Exposure.{commits}
use Rattle.key_state.specs.Same.{same_digest}
use Rattle.controller_core.specs.declared.plan_text.promise.Promise.{Promise}
use Rattle.controller_core.specs.PlanText.Drafts.{digest_cmp}
use Rattle.controller_core.specs.PlanText.Promises.{AreOfNewKeys, IsFirstReuse, is_reuse}

-- two digests are of one place in their order exactly where they are the same
digests_alike : (d e : Digest) → (digest_test.ghosts).eq d e ≡ same_digest d e
digests_alike d e = search (rules, tests)

digest_at : (d e : Digest) → is_at (digest_cmp d) e ≡ same_digest d e
digest_at d e = sym (digest_laws.matches_eq-law d e) ∙ digests_alike d e

either : (here there : Bool) → cond here true there ≡ (there || here)
either true true = refl
either true false = refl
either false true = refl
either false false = refl

-- a digest more is there, and those that were
pub one_more : (digest : Digest) (old new : Digest → Bool) → ((other : Digest) → new other ≡ cond (is_at (digest_cmp digest) other) true (old other)) → (other : Digest) → new other ≡ (old other || same_digest digest other)
one_more digest old new after other = after other ∙ ap (λ b. cond b true (old other)) (digest_at digest other) ∙ either (same_digest digest other) (old other)

bytes_turn : (a b : List ℕ) → bytes_eq a b ≡ bytes_eq b a
bytes_turn a b = elim (cases_Bool (bytes_eq a b)) as (λ _. bytes_eq a b ≡ bytes_eq b a) [
  | inl same ↦ same ∙ sym ((bytes_decides b a).1 (sym ((bytes_decides a b).0 same)))
  | inr other ↦ elim (cases_Bool (bytes_eq b a)) as (λ _. bytes_eq a b ≡ bytes_eq b a) [
    | inl same ↦ (let turned : bytes_eq a b ≡ true = (bytes_decides a b).1 (sym ((bytes_decides b a).0 same)) in absurd (cc (turned, other)))
    | inr neither ↦ other ∙ sym neither
  ]
]

-- the digest of a text under its own code is that under one of the two
under_a_code : (code : DigestCode) (raw text : List ℕ) → (same_digest (digest_of Blake3 text) (record { code = code; raw = raw }) || same_digest (digest_of Sha256 text) (record { code = code; raw = raw }))
    ≡ same_digest (record { code = code; raw = raw }) (digest_of code text)
under_a_code Blake3 raw text = or-false (bytes_eq (digest_of Blake3 text).raw raw) ∙ bytes_turn (digest_of Blake3 text).raw raw
under_a_code Sha256 raw text = bytes_turn (digest_of Sha256 text).raw raw

-- both digests of a key's text more are those that commit to the key
pub both : (key : Key) (one other : Digest) → one ≡ digest_of Blake3 (key_text key) → other ≡ digest_of Sha256 (key_text key)
    → (old middle new : Digest → Bool)
    → ((d : Digest) → middle d ≡ (old d || same_digest one d))
    → ((d : Digest) → new d ≡ (middle d || same_digest other d))
    → (d : Digest) → new d ≡ (old d || commits (Some d) (Some key))
both key one other is also old middle new first second d =
    second d ∙ (λ i. first d i || same_digest (also i) d)
    ∙ or_assoc (old d) (same_digest one d) (same_digest (digest_of Sha256 (key_text key)) d)
    ∙ (λ i. old d || (same_digest (is i) d || same_digest (digest_of Sha256 (key_text key)) d))
    ∙ ap (λ b. old d || b) (under_a_code d.code d.raw (key_text key))

-- one key more
key_more : (keys : List Key) (key : Key) (old new : Digest → Bool)
    → ((d : Digest) → old d ≡ list_any (λ k. commits (Some d) (Some k)) keys)
    → ((d : Digest) → new d ≡ (old d || commits (Some d) (Some key)))
    → (d : Digest) → new d ≡ list_any (λ k. commits (Some d) (Some k)) (keys ++ key ∷ [])
key_more keys key old new before after d =
    after d ∙ ap (λ b. b || commits (Some d) (Some key)) (before d)
    ∙ ap (λ b. list_any (λ k. commits (Some d) (Some k)) keys || b) (sym (or-false (commits (Some d) (Some key))))
    ∙ sym (list_any-append (λ k. commits (Some d) (Some k)) keys (key ∷ []))

-- one key more of those that there are
pub key_at : (keys : List Key) (k : ℕ) (d : Key) → k < length keys → (old new : Digest → Bool)
    → ((digest : Digest) → old digest ≡ list_any (λ key. commits (Some digest) (Some key)) (take k keys))
    → ((digest : Digest) → new digest ≡ (old digest || commits (Some digest) (Some (get_or keys k d))))
    → (digest : Digest) → new digest ≡ list_any (λ key. commits (Some digest) (Some key)) (take (k + 1) keys)
key_at keys k d below old new before after digest =
    key_more (take k keys) (get_or keys k d) old new before after digest
    ∙ ap (list_any (λ key. commits (Some digest) (Some key))) (sym (take_more keys k d below))

-- one promise more
promise_more : (keys : List Key) (promises : List Promise) (promise : Promise) (old new : Digest → Bool)
    → ((d : Digest) → old d ≡ is_reuse keys promises d)
    → ((d : Digest) → new d ≡ (old d || same_digest promise.digest d))
    → (d : Digest) → new d ≡ is_reuse keys (promises ++ promise ∷ []) d
promise_more keys promises promise old new before after d =
    after d ∙ ap (λ b. b || same_digest promise.digest d) (before d)
    ∙ or_assoc (list_any (λ k. commits (Some d) (Some k)) keys) (list_any (λ p. same_digest p.digest d) promises) (same_digest promise.digest d)
    ∙ ap (λ b. list_any (λ k. commits (Some d) (Some k)) keys || b)
    (ap (λ b. list_any (λ p. same_digest p.digest d) promises || b) (sym (or-false (same_digest promise.digest d))) ∙ sym (list_any-append (λ p. same_digest p.digest d) promises (promise ∷ [])))

module _ {A : Type 0} where
  -- where a list that one element ends has parts round an element, that is the last, or stands in the list before
  round : (xs earlier later : List A) (last x : A) → xs ++ last ∷ [] ≡ earlier ++ x ∷ later → ((earlier ≡ xs) × (x ≡ last)) ⊎ ((others : List A) × (xs ≡ earlier ++ x ∷ others))
  round [] [] later last x e = let same : last ≡ x = cc e in inl (refl, sym same)
  round [] (y ∷ earlier) later last x e = let rest : [] ≡ earlier ++ x ∷ later = cc e in absurd (not_nil earlier rest)
    where
      not_nil : (front : List A) → [] ≡ front ++ x ∷ later → ⊥
      not_nil [] h = cc h
      not_nil (z ∷ front) h = cc h
  round (y ∷ xs) [] later last x e = let same : y ≡ x = cc e in inr (xs, ap (λ z. z ∷ xs) same)
  round (y ∷ xs) (z ∷ earlier) later last x e =
      let same : y ≡ z = cc e in
      let rest : xs ++ last ∷ [] ≡ earlier ++ x ∷ later = cc e in
      elim (round xs earlier later last x rest) as (λ _. ((z ∷ earlier ≡ y ∷ xs) × (x ≡ last)) ⊎ ((others : List A) × (y ∷ xs ≡ z ∷ earlier ++ x ∷ others))) [
        | inl both ↦ (let back = sym same in inl ((λ i. back i ∷ both.0 i), both.1))
        | inr found ↦ inr (found.0, λ i. same i ∷ found.1 i)
      ]

none_new : (keys : List Key) → AreOfNewKeys keys []
none_new keys [] later promise parts = cc parts
none_new keys (first ∷ earlier) later promise parts = cc parts

-- a promise of a new key more
new_more : (keys : List Key) (promises : List Promise) (promise : Promise) → AreOfNewKeys keys promises → is_reuse keys promises promise.digest ≡ false → AreOfNewKeys keys (promises ++ promise ∷ [])
new_more keys promises last new is earlier later promise parts =
    elim (round promises earlier later last promise parts) as (λ _. is_reuse keys earlier promise.digest ≡ false) [
      | inl both ↦ (λ i. is_reuse keys (both.0 i) (both.1 i).digest) ∙ is
      | inr found ↦ new earlier found.0 promise found.1
    ]

-- what is known and new of the promises so far, and of one more of those that there are
pub record IsKnown (keys : List Key) (promises : List Promise) (known : Digest → Bool) : Type 0 where
  pub is : (digest : Digest) → known digest ≡ is_reuse keys promises digest
  pub new : AreOfNewKeys keys promises

-- without promises what the keys' digests are is known
pub none_promised : (keys : List Key) (known : Digest → Bool) → ((d : Digest) → known d ≡ list_any (λ k. commits (Some d) (Some k)) keys) → IsKnown keys [] known
none_promised keys known is = record { is = λ d. is d ∙ sym (or-false (list_any (λ k. commits (Some d) (Some k)) keys)); new = none_new keys }

not_true : (b : Bool) → not b ≡ true → b ≡ false
not_true true h = cc
not_true false h = refl

not_false : (b : Bool) → not b ≡ false → b ≡ true
not_false true h = refl
not_false false h = cc

module _ (keys : List Key) (promises : List Promise) (k : ℕ) (d : Promise) (below : k < length promises) (old : Digest → Bool) (so_far : IsKnown keys (take k promises) old) where
  pub promise_at : (new : Digest → Bool) → ((digest : Digest) → new digest ≡ (old digest || same_digest (get_or promises k d).digest digest)) → not (old (get_or promises k d).digest) ≡ true
      → IsKnown keys (take (k + 1) promises) new
  promise_at new after is =
      let promise = get_or promises k d in
      let more : take (k + 1) promises ≡ take k promises ++ promise ∷ [] = take_more promises k d below in
      subst (λ ps. IsKnown keys ps new) (sym more) (record {
        is = promise_more keys (take k promises) promise old new so_far.is after;
        new = new_more keys (take k promises) promise so_far.new (sym (so_far.is promise.digest) ∙ not_true (old promise.digest) is);
      })

  -- the first that is known
  pub first_at : not (old (get_or promises k d).digest) ≡ false → IsFirstReuse keys promises (get_or promises k d).line
  first_at is =
      let promise = get_or promises k d in
      record {
        earlier = take k promises;
        promise = promise;
        later = drop (suc k) promises;
        parts = split_at promises k d below;
        reuse = sym (so_far.is promise.digest) ∙ not_false (old promise.digest) is;
        first = so_far.new;
        is = refl;
      }
