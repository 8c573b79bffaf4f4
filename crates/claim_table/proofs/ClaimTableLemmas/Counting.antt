-- The parts of a claim are counted one by one.
use Rattle.std.proofs.Common.{◌≡◌, ℕ, ◌+◌, false, ◌&&◌, Option, Some, None, refl, sym, ◌∙◌, ap, arith}
use Rattle.std.specs.Prelude.{◌==◌}
use Rattle.std.specs.Option.{option_map}
use Rattle.std.proofs.Math.Bool.{and-false}
use Rattle.claim_table.specs.declared.claim_table.claimed.Parts.{Parts}
use Rattle.claim_table.specs.ClaimTable.BodyParts.{BodyPart}
use Rattle.claim_table.specs.declared.claim_table.part.Part.{Part}
use Rattle.claim_table.specs.declared.claim_table.part.Part.TheVariants.{Indexed, Revealed, Backed}
use Rattle.claim_table.specs.ClaimTable.Counts.{is_one}
use Rattle.claim_table.specs.ClaimTable.Entries.{bit, same_part}
use Rattle.claim_table.specs.ClaimTable.Parts.{brings, is_number}

abbrev of_body : ℕ → Part → BodyPart
of_body b part = record { body = b; part = part }

module _ (kind : ℕ → Part) (body b : ℕ) where
  on : (o : Option ℕ) (n : ℕ) → ((m : ℕ) → same_part (kind m) (kind n) ≡ (m == n)) → is_one body (option_map kind o) (of_body b (kind n)) ≡ ((body == b) && is_number o n)
  on None n h = sym (and-false (body == b))
  on (Some m) n h = ap (λ t. (body == b) && t) (h m)

  off : (o : Option ℕ) (part : Part) → ((m : ℕ) → same_part (kind m) part ≡ false) → is_one body (option_map kind o) (of_body b part) ≡ false
  off None part h = refl
  off (Some m) part h = ap (λ t. (body == b) && t) (h m) ∙ and-false (body == b)

pub bits : (body : ℕ) (parts : Parts) (q : BodyPart)
    → bit (brings body parts q) ≡ bit (is_one body (option_map Indexed parts.index) q) + bit (is_one body (option_map Revealed parts.reveal) q) + bit (is_one body (option_map Backed parts.backer) q)
bits body parts q = by q.part
  where
    by : (part : Part) → bit (brings body parts (of_body q.body part)) ≡ bit (is_one body (option_map Indexed parts.index) (of_body q.body part)) + bit (is_one body (option_map Revealed parts.reveal) (of_body q.body part)) + bit (is_one body (option_map Backed parts.backer) (of_body q.body part))
    by (Indexed n) =
        let a = ap bit (on Indexed body q.body parts.index n (λ m. refl)) in let b = ap bit (off Revealed body q.body parts.reveal (Indexed n) (λ m. refl)) in let c = ap bit (off Backed body q.body parts.backer (Indexed n) (λ m. refl)) in
        omega (arith, a, b, c)
    by (Revealed n) =
        let a = ap bit (off Indexed body q.body parts.index (Revealed n) (λ m. refl)) in let b = ap bit (on Revealed body q.body parts.reveal n (λ m. refl)) in let c = ap bit (off Backed body q.body parts.backer (Revealed n) (λ m. refl)) in
        omega (arith, a, b, c)
    by (Backed n) =
        let a = ap bit (off Indexed body q.body parts.index (Backed n) (λ m. refl)) in let b = ap bit (off Revealed body q.body parts.reveal (Backed n) (λ m. refl)) in let c = ap bit (on Backed body q.body parts.backer n (λ m. refl)) in
        omega (arith, a, b, c)
