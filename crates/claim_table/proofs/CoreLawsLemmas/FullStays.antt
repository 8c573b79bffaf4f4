-- A journal that has no room for a message has none later, within its limits.
use Rattle.std.proofs.Common.{◌≡◌, ◌+◌, ◌≤◌, ◌<◌, ℕ, true, false, not, ◌||◌, ◌&&◌, List, [], ◌∷◌, ◌++◌, refl, ◌∙◌, ap, inl, inr, arith, length, length-append, nat_le, nat_lt}
use Rattle.std.proofs.lemmas.Bool.Decides.{nat_tests}
use Rattle.std.specs.Prelude.{flat_map, sum_by}
use Rattle.std.specs.Cmp.Lexicographic.{bytes_decides}
use Rattle.std.proofs.lemmas.Bool.{cases_Bool, or_left, or_right}
use Rattle.std.proofs.lemmas.List.Folds.{list_any-append}
use Rattle.std.proofs.lemmas.List.Sums.{sum_by-append, sum_by-cons}
use Rattle.std.proofs.lemmas.Grind.{flat_map-append}
use Rattle.keri_outside.specs.declared.limits.Limits.{Limits}
use Rattle.journal.specs.declared.journal.body.Body.{Body}
use Rattle.journal.specs.declared.journal.claim.Claim.{Claim}
use Rattle.journal.specs.Journal.History.{Told, bodies, taken}
use Rattle.journal.specs.Journal.Logs.{is_in, same_body}
use Rattle.journal.specs.Journal.Replies.{IsWithin, all_claims, is_full}
use Rattle.claim_table.proofs.CoreLawsLemmas.RaisedStays.{bodies_begin}

abbrev size : List Body → ℕ
size bs = sum_by (λ c. length c.bytes) bs

-- a body that is there counts
counts : (bs : List Body) (b : Body) → is_in bs b ≡ true → length b.bytes ≤ size bs
counts [] b h = cc
counts (c ∷ bs) b h = elim (cases_Bool (same_body c b)) [
  | inl here ↦ (let same : c.bytes ≡ b.bytes = (bytes_decides c.bytes b.bytes).0 here in let long = ap length same in let whole : size (c ∷ bs) ≡ length c.bytes + size bs = sum_by-cons (λ d. length d.bytes) c bs in omega (arith, long, whole))
  | inr there ↦ (let rest : is_in bs b ≡ true = rw there at h in let ih = counts bs b rest in let whole : size (c ∷ bs) ≡ length c.bytes + size bs = sum_by-cons (λ d. length d.bytes) c bs in omega (arith, ih, whole))
]

longer : {A B : Type 0} (f : A → List B) (xs ys : List A) → length (flat_map f xs) ≤ length (flat_map f (xs ++ ys))
longer f xs ys = let e = ap length (flat_map-append f xs ys) ∙ length-append (flat_map f xs) (flat_map f ys) in omega (arith, e)

no_more : (most here later : ℕ) → here ≤ later → nat_le most here ≡ true → nat_le most later ≡ true
no_more most here later le h = grind (arith, nat_tests)

no_room : (most here later : ℕ) → here ≤ later → nat_lt most here ≡ true → nat_lt most later ≡ true
no_room most here later le h = grind (arith, nat_tests)

module _ (limits : Limits) (told more : List Told) (b : Body) (claims : List Claim) (within : IsWithin limits [] (told ++ more)) where
  -- a body that found no room isn't held later, and finds none
  too_many : is_in (bodies [] told) b ≡ false → nat_lt limits.body_bytes (size (bodies [] told) + length b.bytes) ≡ true
      → (not (is_in (bodies [] (told ++ more)) b) && nat_lt limits.body_bytes (size (bodies [] (told ++ more)) + length b.bytes)) ≡ true
  too_many new over =
      let (rest, is) = bodies_begin told more in
      let all : size (bodies [] (told ++ more)) ≡ size (bodies [] told) + size rest = ap size is ∙ sum_by-append (λ c. length c.bytes) (bodies [] told) rest in
      let held : is_in (bodies [] (told ++ more)) b ≡ is_in rest b = ap (λ l. is_in l b) is ∙ (list_any-append (λ c. same_body c b) (bodies [] told) rest ∙ ap (λ x. x || is_in rest b) new) in
      let most = within.body_bytes in
      elim (cases_Bool (is_in rest b)) [
        | inl there ↦ (let long = counts rest b there in let beyond : limits.body_bytes < size (bodies [] told) + length b.bytes = grind (arith, nat_tests) in absurd (omega (arith, long, all, most, beyond)))
        | inr none ↦ (let still = no_room limits.body_bytes (size (bodies [] told) + length b.bytes) (size (bodies [] (told ++ more)) + length b.bytes) (omega (arith, all)) over in rw (held, none, still) refl)
      ]

  pub full_stays : is_full limits [] told b claims ≡ true → is_full limits [] (told ++ more) b claims ≡ true
  unfolding is_full
  full_stays h =
      elim (cases_Bool (nat_le limits.messages (length (flat_map taken told)))) [
        | inl many ↦ (let m = no_more limits.messages _ _ (longer taken told more) many in rw m refl)
        | inr few ↦ elim (cases_Bool (nat_lt limits.signatures (length (flat_map all_claims told) + length claims))) [
          | inl many ↦ (let le = longer all_claims told more in let m = no_room limits.signatures (length (flat_map all_claims told) + length claims) (length (flat_map all_claims (told ++ more)) + length claims) (omega (arith, le)) many in rw m (or_right _ true refl))
          | inr small ↦ elim (cases_Bool (is_in (bodies [] told) b)) [
            | inl held ↦ (let none : false ≡ true = rw (few, small, held) at h in cc)
            | inr new ↦ elim (cases_Bool (nat_lt limits.body_bytes (size (bodies [] told) + length b.bytes))) [
              | inl over ↦ (let m = too_many new over in rw m (or_left _ _ (or_right _ true refl)))
              | inr room ↦ (let none : false ≡ true = rw (few, small, new, room) at h in cc)
            ]
          ]
        ]
      ]
