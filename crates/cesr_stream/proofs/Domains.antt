-- Texts one behind the other are in a domain what each of them is.
use Rattle.std.proofs.Common.{◌≡◌, ℕ, List, [], ◌∷◌, ◌++◌, flat_map, ap, ◌∙◌}
use Rattle.cesr_stream.specs.Domains.{IsTurnable}

pub in_domain-flat_map : {E : Type 0} (text : E → List ℕ) → ((one : E) → IsTurnable (text one)) → (in_domain : List ℕ → List ℕ) → in_domain [] ≡ []
    → ((first second : List ℕ) → IsTurnable first → in_domain (first ++ second) ≡ in_domain first ++ in_domain second)
    → (all : List E) → in_domain (flat_map text all) ≡ flat_map (λ one. in_domain (text one)) all
in_domain-flat_map text turnable in_domain none both [] = none
in_domain-flat_map text turnable in_domain none both (one ∷ all) =
    both (text one) (flat_map text all) (turnable one) ∙ ap (λ bytes. in_domain (text one) ++ bytes) (in_domain-flat_map text turnable in_domain none both all)
