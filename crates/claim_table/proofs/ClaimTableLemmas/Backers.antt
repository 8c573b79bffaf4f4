-- How many numbers pass a test, and how many of them are those of backers with a count over 0.
use Rattle.std.proofs.Common.{◌≡◌, ℕ, zero, suc, ◌+◌, ◌<◌, ◌≤◌, Bool, true, false, cond, ◌&&◌, [], ◌∷◌, Some, refl, sym, ◌∙◌, ap, subst, inl, inr, arith}
use Rattle.std.specs.Prelude.{nat_lt, ◌==◌}
use Rattle.std.specs.BTreeMap.{is_at}
use Rattle.std.specs.List.{IsDistinct}
use Rattle.std.specs.Map.{keys_of}
use Rattle.std.specs.Ordering.{eq_by_cmp}
use Rattle.std.proofs.lemmas.Bool.{cases_Bool, cases_eq, cases_lt}
use Rattle.std.proofs.lemmas.Bool.Decides.{nat_tests}
use Rattle.std.proofs.lemmas.Cmp.{eq_by_cmp_equiv}
use Rattle.std.proofs.lemmas.Map.{lookup-none}
use Rattle.std.proofs.lemmas.Map.Entries.{none_past_head}
use Rattle.std.proofs.lemmas.Map.Keys.{IsDistinct-tail}
use Rattle.claim_table.specs.declared.claim_table.part.Part.{Part}
use Rattle.claim_table.specs.declared.claim_table.part.Part.TheVariants.{Indexed, Revealed, Backed}
use Rattle.claim_table.specs.ClaimTable.Entries.{Entries, backer_count, backs, bit, or_zero, part_cmp, part_entry, same_part}
use Rattle.claim_table.specs.ClaimTable.Parts.{AreSoMany, count_below}
use Rattle.claim_table.proofs.ClaimTableLemmas.Entries.{same_is, total}
use Rattle.claim_table.proofs.ClaimTableLemmas.Lists.{count_cons, differ}

-- no more pass below a lesser bound
below_more : (test : ℕ → Bool) (m n : ℕ) → m ≤ n → count_below test m ≤ count_below test n
below_more test m zero h = let none : m ≡ 0 = omega (arith, h) in let is = ap (count_below test) none in omega (arith, is)
below_more test m (suc n) h = elim (cases_eq m (suc n)) [
  | inl same ↦ (let is = ap (count_below test) same in omega (arith, is))
  | inr other ↦ (let more = below_more test m n (omega (arith, h, other)) in omega (arith, more))
]

-- where so many pass, no more do below any bound
pub most_below : (test : ℕ → Bool) (many : ℕ) → AreSoMany test many → (n : ℕ) → count_below test n ≤ many
most_below test many so n = let more = below_more test n (so.0 + n) (omega arith) in let all = so.1 (so.0 + n) (omega arith) in omega (arith, more, all)

pub so_many_alike : (f g : ℕ → Bool) (many : ℕ) → ((n : ℕ) → f n ≡ g n) → AreSoMany f many → AreSoMany g many
so_many_alike f g many same = subst (λ test. AreSoMany test many) (λ i n. same n i)

none_below : (test : ℕ → Bool) → ((n : ℕ) → test n ≡ false) → (n : ℕ) → count_below test n ≡ 0
none_below test none zero = refl
none_below test none (suc n) = let more = none_below test none n in let no = ap bit (none n) in omega (arith, more, no)

pub no_backers : AreSoMany (λ n. false) 0
no_backers = (0, λ n h. none_below (λ n. false) (λ n. refl) n)

-- those that pass one of two tests
both_below : (f g h : ℕ → Bool) → ((n : ℕ) → bit (f n) ≡ bit (g n) + bit (h n)) → (n : ℕ) → count_below f n ≡ count_below g n + count_below h n
both_below f g h split zero = refl
both_below f g h split (suc n) = let more = both_below f g h split n in let one = split n in omega (arith, more, one)

-- one number passes
before_one : (k : ℕ) (b : Bool) (n : ℕ) → n ≤ k → count_below (λ n. (n == k) && b) n ≡ 0
before_one k b zero h = refl
before_one k b (suc n) h = let more = before_one k b n (omega (arith, h)) in let no = ap (λ t. bit (t && b)) (differ n k (λ e. omega (arith, e, h))) in omega (arith, more, no)

one_below : (k : ℕ) (b : Bool) (n : ℕ) → k < n → count_below (λ n. (n == k) && b) n ≡ bit b
one_below k b zero h = absurd (omega (arith, h))
one_below k b (suc n) h = elim (cases_lt k n) [
  | inl below ↦ (let more = one_below k b n below in let no = ap (λ t. bit (t && b)) (differ n k (λ e. omega (arith, e, below))) in omega (arith, more, no))
  | inr all ↦ (let same : n ≡ k = omega (arith, h, all) in let here : (n == k) ≡ true = grind (arith, nat_tests, same) in
      let before = before_one k b n all in let yes = ap (λ t. bit (t && b)) here in omega (arith, before, yes))
]

-- the place of a backer
place : Part → ℕ
place (Indexed n) = n
place (Revealed n) = n
place (Backed n) = n

-- the entry is that of the backer of this place, and its count is over 0
abbrev is_its : Part × ℕ → ℕ → Bool
is_its e n = same_part (Backed n) e.0 && nat_lt 0 e.1

own_below : (part : Part) (count n : ℕ) → place part < n → count_below (is_its (part, count)) n ≡ bit (backs (part, count))
unfolding place
own_below (Indexed k) count n h = none_below (is_its (Indexed k, count)) (λ n. refl) n
own_below (Revealed k) count n h = none_below (is_its (Revealed k, count)) (λ n. refl) n
own_below (Backed k) count n h = one_below k (nat_lt 0 count) n h

abbrev pub is_backed : Entries → ℕ → Bool
is_backed es n = nat_lt 0 (or_zero (part_entry es (Backed n)))

-- a backer's entry is the first or among the rest
first_or_rest : (e : Part × ℕ) (es : Entries) → IsDistinct (eq_by_cmp part_cmp) (keys_of (e ∷ es)) → (n : ℕ) → bit (is_backed (e ∷ es) n) ≡ bit (is_its e n) + bit (is_backed es n)
first_or_rest e es once n = elim (cases_Bool (is_at (part_cmp (Backed n)) e.0)) [
  | inl y ↦ (let none = lookup-none (is_at (part_cmp (Backed n))) es (none_past_head (eq_by_cmp_equiv total) (Backed n) e es once y) in
      let all = ap (λ b. bit (nat_lt 0 (or_zero (cond b (Some e.1) (part_entry es (Backed n)))))) y in
      let its = ap (λ b. bit (b && nat_lt 0 e.1)) (sym (same_is (Backed n) e.0) ∙ y) in let rest = ap (λ o. bit (nat_lt 0 (or_zero o))) none in omega (arith, all, its, rest))
  | inr k ↦ (let all = ap (λ b. bit (nat_lt 0 (or_zero (cond b (Some e.1) (part_entry es (Backed n)))))) k in
      let its = ap (λ b. bit (b && nat_lt 0 e.1)) (sym (same_is (Backed n) e.0) ∙ k) in omega (arith, all, its))
]

-- EXACT: as many places are backed as there are backers with a count over 0
pub all_backers : (es : Entries) → IsDistinct (eq_by_cmp part_cmp) (keys_of es) → AreSoMany (is_backed es) (backer_count es)
all_backers [] once = (0, λ n h. none_below (is_backed []) (λ n. refl) n)
all_backers (e ∷ es) once =
    let more = all_backers es (IsDistinct-tail (eq_by_cmp part_cmp) e.0 (keys_of es) once) in (
      more.0 + suc (place e.0),
      λ n h.
          let parts = both_below (is_backed (e ∷ es)) (is_its e) (is_backed es) (first_or_rest e es once) n in
          let one = own_below e.0 e.1 n (omega (arith, h)) in let rest = more.1 n (omega (arith, h)) in let all = count_cons backs e es in omega (arith, parts, one, rest, all),
    )
