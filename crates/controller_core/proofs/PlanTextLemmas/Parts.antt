-- The parts round a byte.
use Rattle.std.proofs.Common.{◌≡◌, ℕ, ◌+◌, ◌<◌, List, [], ◌∷◌, ◌++◌, length, take, drop, refl, sym, ap, ◌∙◌, arith, append_assoc, length-append, Bool, not, ◌-◌, ◌≤◌, inl, inr, nat_lt, position, Some, None}
use Rattle.std.specs.Prelude.{◌==◌}
use Rattle.std.specs.List.{position_or_len, before_first, after_first}
use Rattle.std.proofs.lemmas.Bool.{cases_Bool, eq-eqb, eqb-true, ltb-true, ltb-false}
use Rattle.std.proofs.lemmas.Grind.{common_steps}
use Rattle.std.proofs.lemmas.List.Folds.{prefix_len-append}
use Rattle.std.proofs.lemmas.List.{take_rest, take_at, drop_at}
use Rattle.std.proofs.lemmas.List.Sums.{split_at_first, passes_at_first}
use Rattle.controller_core.specs.PlanText.Lines.{Splits}

module _ (separator : ℕ) where
  abbrev is_it : ℕ → Bool
  is_it b = b == separator

  -- the byte doesn't stand in these
  abbrev pub Lacks : List ℕ → Type 0
  Lacks bytes = position_or_len is_it bytes ≡ length bytes

  -- the place that is found, and none
  pub found : (bytes : List ℕ) (place : ℕ) → position is_it bytes ≡ Some place → Splits separator bytes (take place bytes) (take (length bytes - (place + 1)) (drop (place + 1) bytes))
  found bytes place is = elim (cases_Bool (nat_lt (position_or_len is_it bytes) (length bytes))) [
    | inl below ↦ (let at : position_or_len is_it bytes ≡ place = cc (rw below at is) in record {
      stands = ltb-true _ _ below;
      front_is = ap (λ n. take n bytes) (sym at);
      behind_is = take_rest bytes (place + 1) ∙ ap (λ n. drop (n + 1) bytes) (sym at);
    })
    | inr above ↦ cc (rw above at is)
  ]

  pub not_found : (bytes : List ℕ) → position is_it bytes ≡ None → length bytes ≤ position_or_len is_it bytes
  not_found bytes is = elim (cases_Bool (nat_lt (position_or_len is_it bytes) (length bytes))) [ inl below ↦ cc (rw below at is) | inr above ↦ ltb-false _ _ above ]

  -- the parts and the byte are the whole
  pub whole : (bytes front behind : List ℕ) → Splits separator bytes front behind → bytes ≡ front ++ separator ∷ behind
  whole bytes front behind parts =
      split_at_first is_it bytes 0 parts.stands
      ∙ ap (λ b. before_first is_it bytes ++ b ∷ after_first is_it bytes) (eqb-true _ _ (passes_at_first is_it bytes 0 parts.stands))
      ∙ ap (λ l. l ++ separator ∷ after_first is_it bytes) (sym parts.front_is)
      ∙ ap (λ l. front ++ separator ∷ l) (sym parts.behind_is)

  -- the place of the byte behind bytes that lack it
  place : (front behind : List ℕ) → Lacks front → position_or_len is_it (front ++ separator ∷ behind) ≡ length front
  place front behind lacks = grind (arith, common_steps, prefix_len-append (λ x. not (is_it x)) front (separator ∷ behind), eq-eqb separator separator refl)

  behind_at : (a b : List ℕ) → drop (length a + 1) (a ++ separator ∷ b) ≡ b
  behind_at a b = ap (drop (length a + 1)) (sym (append_assoc a (separator ∷ []) b)) ∙ drop_at (a ++ separator ∷ []) b (length a + 1) (length-append a (separator ∷ []))

  -- where the first part lacks the byte, the parts are these
  pub parts_of : (bytes front behind a b : List ℕ) → Lacks a → bytes ≡ a ++ separator ∷ b → Splits separator bytes front behind → (front ≡ a) × (behind ≡ b)
  parts_of bytes front behind a b lacks e parts =
      let at : position_or_len is_it bytes ≡ length a = ap (position_or_len is_it) e ∙ place a b lacks in (
        parts.front_is ∙ ap (λ n. take n bytes) at ∙ ap (take (length a)) e ∙ take_at a (separator ∷ b) (length a) refl,
        parts.behind_is ∙ ap (λ n. drop (n + 1) bytes) at ∙ ap (drop (length a + 1)) e ∙ behind_at a b,
      )

  -- where no byte is found, it stands nowhere
  pub stands : (bytes a b : List ℕ) → Lacks a → bytes ≡ a ++ separator ∷ b → position_or_len is_it bytes < length bytes
  stands bytes a b lacks e = let at = ap (position_or_len is_it) e ∙ place a b lacks in
      omega (arith, at, simp length-append at (ap length e))
