-- A scan goes on by one record.
use Rattle.std.proofs.Common.{◌≡◌, inl, inr, ℕ, ◌+◌, ◌-◌, ◌||◌, true, false, List, [], ◌∷◌, ◌++◌, length, take, drop, take_all, drop_at, length-drop, nat_le, All, sym, ◌∙◌, ap, subst, arith, length-append, append-nil, append_assoc}
use Rattle.std.proofs.lemmas.Bool.{cases_Bool, false≢true}
use Rattle.std.proofs.lemmas.Bool.Decides.{nat_tests}
use Rattle.std.proofs.lemmas.List.Elements.{All-push}
use Rattle.keri_outside.specs.declared.limits.Limits.{Limits}
use Rattle.shelf_log.specs.ShelfLog.Answers.{IsOver}
use Rattle.shelf_log.specs.ShelfLog.Format.{IsSized, record_bytes, records, shelf_front}
use Rattle.shelf_log.specs.ShelfLog.Scans.{HasRead, GoesThrough}
use Rattle.shelf_log.specs.declared.shelf_log.scan.Scan.{Scan}
use Rattle.shelf_log.specs.declared.shelf_log.version.Version.{Version}
use Rattle.shelf_log.proofs.ShelfLogLemmas.Files.{length-front-push, length-record, records-append}

module _ (old new : Scan) (payloads : List (List ℕ)) (payload : List ℕ) (read : HasRead old payloads) (fits : IsSized old.version payload)
    (of : (new.version ≡ old.version) × (new.limits ≡ old.limits)) (goes : new.offset ≡ old.offset + (5 + length payload)) where
  longer : length (payloads ++ payload ∷ []) ≡ length payloads + 1
  longer = omega (arith, length-append payloads (payload ∷ []))

  offset : new.offset ≡ length (shelf_front new.version (payloads ++ payload ∷ []))
  offset = omega (arith, goes, read.offset, length-front-push old.version payloads payload) ∙ ap (λ (v : Version). length (shelf_front v (payloads ++ payload ∷ []))) (sym of.0)

  sized : All (IsSized new.version) (payloads ++ payload ∷ [])
  sized = subst (λ (v : Version). All (IsSized v) (payloads ++ payload ∷ [])) (sym of.0) (All-push (IsSized old.version) payloads payload read.sized fits)

  -- too many stay too many
  over_push : IsOver old.version old.limits payloads → IsOver old.version old.limits (payloads ++ payload ∷ [])
  over_push (inl many) = inl (omega (arith, many, longer))
  over_push (inr big) = inr (omega (arith, big, length-front-push old.version payloads payload))

  past_over : (old.is_over || nat_le old.limits.records (length old.list) || nat_le old.limits.shelf_bytes new.offset) ≡ true → IsOver old.version old.limits (payloads ++ payload ∷ [])
  past_over past = elim (cases_Bool old.is_over) [
    | inl was ↦ over_push (read.over was)
    | inr kept ↦ (let same = (read.kept kept).0 in
        elim (cases_Bool (nat_le old.limits.records (length old.list))) [
          | inl many ↦ inl (grind (arith, nat_tests, many, longer, ap length same))
          | inr few ↦ inr (grind (arith, nat_tests, past, kept, few, goes, read.offset, length-front-push old.version payloads payload))
        ])
  ]

  pub over_read : new.is_over ≡ true → (old.is_over || nat_le old.limits.records (length old.list) || nat_le old.limits.shelf_bytes new.offset) ≡ true → HasRead new (payloads ++ payload ∷ [])
  over_read is past = record {
    offset = offset;
    sized = sized;
    kept = λ not. absurd (false≢true (sym not ∙ is));
    over = λ so. subst (λ (v : Version). IsOver v new.limits (payloads ++ payload ∷ [])) (sym of.0) (subst (λ (l : Limits). IsOver old.version l (payloads ++ payload ∷ [])) (sym of.1) (past_over past));
  }

  pub kept_read : (old.is_over || nat_le old.limits.records (length old.list) || nat_le old.limits.shelf_bytes new.offset) ≡ false → new.is_over ≡ old.is_over → new.list ≡ old.list ++ payload ∷ [] → HasRead new (payloads ++ payload ∷ [])
  kept_read past is list = record {
    offset = offset;
    sized = sized;
    kept = λ not. (list ∙ ap (λ (l : List (List ℕ)). l ++ payload ∷ []) (read.kept was).0, few);
    over = λ so. absurd (false≢true (sym was ∙ sym is ∙ so));
  }
    where
      was : old.is_over ≡ false
      was = grind (arith, nat_tests, past)

      few : IsOver new.version new.limits (payloads ++ payload ∷ []) → ⊥
      few (inl many) = absurd (grind (arith, nat_tests, past, many, longer, ap length (read.kept was).0, ap (λ (l : Limits). l.records) of.1))
      few (inr big) = absurd (grind (arith, nat_tests, past, big, sym offset, ap (λ (l : Limits). l.shelf_bytes) of.1))

-- one record more is gone through
pub one_through : (window rest behind : List ℕ) (old mid new : Scan) (payload : List ℕ) → GoesThrough window rest old mid → rest ≡ record_bytes payload ++ behind
    → (new.version ≡ mid.version) × (new.limits ≡ mid.limits) → new.offset ≡ mid.offset + 5 + length payload
    → ((payloads : List (List ℕ)) → HasRead mid payloads → HasRead new (payloads ++ payload ∷ [])) → GoesThrough window behind old new
one_through window rest behind old mid new payload through rest_is of offset reads = record {
  more = through.more ++ payload ∷ [];
  window_is = through.window_is ∙ ap (λ (l : List ℕ). records through.more ++ l) rest_is ∙ sym (append_assoc (records through.more) (record_bytes payload) behind) ∙ ap (λ (l : List ℕ). l ++ behind) (sym pushed);
  offset = omega (arith, offset, through.offset, ap length rest_is, length-append (record_bytes payload) behind, length-record payload);
  of = (of.0 ∙ through.of.0, of.1 ∙ through.of.1);
  read = λ payloads read. subst (HasRead new) (append_assoc payloads through.more (payload ∷ [])) (reads (payloads ++ through.more) (through.read payloads read));
}
  where
    pushed : records (through.more ++ payload ∷ []) ≡ records through.more ++ record_bytes payload
    pushed = records-append through.more (payload ∷ []) ∙ ap (λ (l : List ℕ). records through.more ++ l) (append-nil (record_bytes payload))

-- what is left of bytes behind the record at their front
pub behind_record : (rest behind payload : List ℕ) → rest ≡ record_bytes payload ++ behind → take (length rest - (5 + length payload)) (drop (5 + length payload) rest) ≡ behind
behind_record rest behind payload is =
    let left : drop (5 + length payload) rest ≡ behind = ap (drop (5 + length payload)) is ∙ drop_at (record_bytes payload) behind (5 + length payload) (length-record payload) in
    take_all (length rest - (5 + length payload)) (drop (5 + length payload) rest) (omega (arith, length-drop (5 + length payload) rest)) ∙ left
