-- Sums of weights that are gone through one by one.
use Rattle.std.proofs.Common.{◌≡◌, ℕ, ◌+◌, ◌-◌, ◌*◌, ◌/◌, ◌^◌, ◌<◌, min, Bool, true, false, List, length, drop, get_or, map, ap, ◌∙◌, arith}
use Rattle.std.specs.Prelude.{if◌then◌else◌}
use Rattle.sith.specs.declared.weight.Weight.{Weight}
use Rattle.sith.specs.Weights.{numerator, denominator}
use Rattle.sith.specs.Clauses.{sum_met, shares_at, all_met}
use Rattle.sith.proofs.Lists.{dropped}

-- a sum that stops at the greatest number, and what is left
abbrev pub capped : ℕ → ℕ
capped n = min n (2 ^ 128 - 1)

module _ {A : Type 0} (weight : A → Weight) (size : A → ℕ) (met : A → ℕ → List ℕ → Bool) (whole : ℕ) (indices : List ℕ) (members : List A) (i : ℕ) (member : A) (within : i < length members) (is : member ≡ get_or members i member) (index : ℕ) where
  next_share : sum_met whole (shares_at weight size met (drop i members) index indices)
      ≡ (if met member index indices then numerator (weight member) * (whole / denominator (weight member)) else 0) + sum_met whole (shares_at weight size met (drop (i + 1) members) (index + size member) indices)
  next_share = ap (λ l. sum_met whole (shares_at weight size met l index indices)) (dropped members i member within is)

  -- the sum with the next weight, where it is met, and without it
  pub sum_with : (w : Weight) (sum part next n total : ℕ) → met member index indices ≡ true → w ≡ weight member → part ≡ numerator w * (whole / denominator w) → next ≡ capped (sum + part) → n ≡ size member
      → capped (sum + sum_met whole (shares_at weight size met (drop i members) index indices)) ≡ total → capped (next + sum_met whole (shares_at weight size met (drop (i + 1) members) (index + n) indices)) ≡ total
  sum_with w sum part next n total reached weighed parts capped_is sized so_far =
      let rest = rw reached at next_share in
      let same : part ≡ numerator (weight member) * (whole / denominator (weight member)) = parts ∙ ap (λ v. numerator v * (whole / denominator v)) weighed in
      let behind = ap (λ k. sum_met whole (shares_at weight size met (drop (i + 1) members) (index + k) indices)) sized in
      omega (arith, so_far, rest, same, capped_is, behind)

  pub sum_without : (sum n total : ℕ) → met member index indices ≡ false → n ≡ size member
      → capped (sum + sum_met whole (shares_at weight size met (drop i members) index indices)) ≡ total → capped (sum + sum_met whole (shares_at weight size met (drop (i + 1) members) (index + n) indices)) ≡ total
  sum_without sum n total unmet sized so_far =
      let rest = rw unmet at next_share in
      let behind = ap (λ k. sum_met whole (shares_at weight size met (drop (i + 1) members) (index + k) indices)) sized in
      omega (arith, so_far, rest, behind)

module _ {A : Type 0} (weight : A → Weight) (whole : ℕ) (members : List A) (i : ℕ) (member : A) (within : i < length members) (is : member ≡ get_or members i member) where
  -- the sum of all with the next weight
  pub sum_more : (w : Weight) (sum part next total : ℕ) → w ≡ weight member → part ≡ numerator w * (whole / denominator w) → next ≡ capped (sum + part)
      → capped (sum + sum_met whole (all_met (map weight (drop i members)))) ≡ total → capped (next + sum_met whole (all_met (map weight (drop (i + 1) members)))) ≡ total
  sum_more w sum part next total weighed parts capped_is so_far =
      let rest : sum_met whole (all_met (map weight (drop i members))) ≡ numerator (weight member) * (whole / denominator (weight member)) + sum_met whole (all_met (map weight (drop (i + 1) members))) =
      ap (λ l. sum_met whole (all_met (map weight l))) (dropped members i member within is) in
      let same : part ≡ numerator (weight member) * (whole / denominator (weight member)) = parts ∙ ap (λ v. numerator v * (whole / denominator v)) weighed in
      omega (arith, so_far, rest, same, capped_is)
