-- Lists to which parts are added one after the other.
use Rattle.std.proofs.Common.{◌≡◌, List, ◌++◌, ap, ◌∙◌, append_assoc}

module _ {A : Type 0} (start a b c d e : List A) where
  pub added : (one two three four five : List A) → one ≡ start ++ a → two ≡ one ++ b → three ≡ two ++ c → four ≡ three ++ d → five ≡ four ++ e → five ≡ start ++ (a ++ (b ++ (c ++ (d ++ e))))
  added one two three four five at_one at_two at_three at_four at_five =
      at_five
      ∙ ap (λ l. l ++ e) (at_four ∙ ap (λ l. l ++ d) (at_three ∙ ap (λ l. l ++ c) (at_two ∙ ap (λ l. l ++ b) at_one)))
      ∙ append_assoc (((start ++ a) ++ b) ++ c) d e
      ∙ append_assoc ((start ++ a) ++ b) c (d ++ e)
      ∙ append_assoc (start ++ a) b (c ++ (d ++ e))
      ∙ append_assoc start a (b ++ (c ++ (d ++ e)))
