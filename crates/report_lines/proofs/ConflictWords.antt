-- The words of a conflict's line.
use Rattle.std.proofs.Common.{◌≡◌, ℕ, List, [], ◌∷◌, ◌++◌, map, refl, sym, ◌∙◌, ap, append_assoc}
use Rattle.std.specs.Prelude.{codes, flat_map}
use Rattle.report_lines.specs.Lines.{line}

-- a line of words behind a first one
pub line_behind : {X : Type 0} (text : X → List ℕ) (word : List ℕ) (xs : List X)
    → line (word ∷ map text xs) ≡ word ++ (flat_map (λ x. codes " " ++ text x) xs ++ codes "\n")
line_behind text word [] = refl
line_behind text word (x ∷ xs) =
    ap (λ rest. word ++ (codes " " ++ rest)) (line_behind text (text x) xs)
    ∙ sym (ap (λ rest. word ++ rest) (append_assoc (codes " " ++ text x) (flat_map (λ x. codes " " ++ text x) xs) (codes "\n")
    ∙ append_assoc (codes " ") (text x) (flat_map (λ x. codes " " ++ text x) xs ++ codes "\n")))
