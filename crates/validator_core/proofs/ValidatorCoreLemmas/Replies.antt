-- The reply to a body is that of the definition.
use Rattle.std.proofs.Common.{◌≡◌, ℕ, ◌+◌, Bool, true, false, ◌||◌, ◌==◌, List, [], ◌∷◌, ◌++◌, length, Option, Some, None, refl, ◌∙◌, ap, inl, inr, option_map}
use Rattle.std.specs.Prelude.{slice_get, flat_map, filter_map, nat_le, nat_lt}
use Rattle.std.specs.List.{cons_option, list_all, list_any}
use Rattle.std.proofs.lemmas.Bool.{cases_Bool}
use Rattle.key_state.proofs.Same.{numbers, number_itself}
use Rattle.keri_outside.specs.declared.limits.Limits.{Limits}
use Rattle.validator_core.specs.Tables.View.{came_by, came_with as came_with_number}
use Rattle.journal.specs.declared.journal.body.Body.{Body}
use Rattle.journal.specs.declared.journal.claim.Claim.{Claim}
use Rattle.journal.specs.declared.journal.entry.Entry.{Entry}
use Rattle.journal.specs.declared.journal.entry.Entry.TheVariants.{Took, Heard}
use Rattle.journal.specs.declared.journal.reply.Reply.TheVariants.{Taken, Again, LimitReached}
use Rattle.journal.specs.Journal.History.{Told, took, heard, taken, bodies}
use Rattle.journal.specs.Journal.Journals.{told_by, whole}
use Rattle.journal.specs.Journal.Logs.{is_in, same_body}
use Rattle.journal.specs.Journal.Replies.{all_claims, came_with, is_again, is_full, reply_to, same_claim}
use Rattle.journal.proofs.JournalLemmas.Accepting.{same_body-refl}
use Rattle.journal.proofs.JournalLemmas.Different.{Differ}
use Rattle.journal.proofs.JournalLemmas.Locality.{bytes_differ}
use Rattle.journal.proofs.JournalLemmas.Places.{others_differ}
use Rattle.validator_core.specs.declared.validator_core.tally.Tally.{Tally}
use Rattle.validator_core.specs.ValidatorCore.Tally.{IsTally, is_crowded, is_spent}
use Rattle.validator_core.specs.ValidatorCore.View.{bytes_of}

or_moved : (p q r : Bool) → (p || q || r) ≡ (p || r || q)
or_moved true q r = refl
or_moved false true true = refl
or_moved false true false = refl
or_moved false false true = refl
or_moved false false false = refl

module _ (limits : Limits) (tally : Tally) (base : List Body) (told : List Told) (counted : IsTally tally base told) (b : Body) (claims : List Claim) where
  pub full_new : is_in (bodies base told) b ≡ false → is_full limits base told b claims ≡ (is_spent limits tally (length claims) || is_crowded limits tally (length b.bytes))
  unfolding is_full
  full_new outside =
      let messages = counted.messages in
      let body_bytes = counted.body_bytes in
      let signatures = counted.signatures in
      rw (outside, messages, body_bytes, signatures)
      (or_moved (nat_le limits.messages (length (flat_map taken told))) (nat_lt limits.body_bytes (bytes_of (bodies base told) + length b.bytes)) (nat_lt limits.signatures (length (flat_map all_claims told) + length claims)))

  pub full_again : is_in (bodies base told) b ≡ true → is_full limits base told b claims ≡ is_spent limits tally (length claims)
  unfolding is_full
  full_again inside =
      let messages = counted.messages in
      let signatures = counted.signatures in
      rw (inside, messages, signatures)
      (or_moved (nat_le limits.messages (length (flat_map taken told))) false (nat_lt limits.signatures (length (flat_map all_claims told) + length claims)) ∙ or_false (nat_le limits.messages (length (flat_map taken told)) || nat_lt limits.signatures (length (flat_map all_claims told) + length claims)))
    where
      or_false : (p : Bool) → (p || false) ≡ p
      or_false true = refl
      or_false false = refl

-- a body that isn't held didn't come before
module _ (limits : Limits) (base : List Body) (told : List Told) (b : Body) (claims : List Claim) where
  pub again_new : is_in (bodies base told) b ≡ false → is_again base told b claims ≡ false
  unfolding is_again
  again_new outside = rw outside refl

  pub reply_full : is_full limits base told b claims ≡ true → LimitReached ≡ reply_to limits base told b claims
  unfolding reply_to
  reply_full full = rw full refl

  pub reply_again : is_full limits base told b claims ≡ false → is_again base told b claims ≡ true → Again ≡ reply_to limits base told b claims
  unfolding reply_to
  reply_again full again = rw (full, again) refl

  pub reply_taken : is_full limits base told b claims ≡ false → is_again base told b claims ≡ false → Taken ≡ reply_to limits base told b claims
  unfolding reply_to
  reply_taken full again = rw (full, again) refl

-- CAME: by the entries of its number
module _ (held : List Body) (differ : Differ same_body held) (n : ℕ) (b : Body) (at : slice_get held n ≡ Some b) where
  -- of one entry
  one_came : (e : Entry) (ts : List Told) → flat_map (came_with b) (cons_option (whole held e) ts) ≡ came_by n e ++ flat_map (came_with b) ts
  one_came (Took reader m claims) ts = elim (cases_Bool (m == n)) [
    | inl k ↦ (let here : slice_get held m ≡ Some b = ap (slice_get held) (numbers m n k) ∙ at in let same = same_body-refl b in rw (here, k, same) refl)
    | inr k ↦ rw k (other k (slice_get held m) refl)
  ]
    where
      other : (m == n) ≡ false → (o : Option Body) → slice_get held m ≡ o → flat_map (came_with b) (cons_option (option_map (λ c. took reader c claims) o) ts) ≡ flat_map (came_with b) ts
      other k None e = refl
      other k (Some c) e =
          let apart = others_differ held differ n b at m c (λ same. (let is : (m == n) ≡ true = ap (λ x. x == n) same ∙ number_itself n in cc)) e in
          let differs : same_body c b ≡ false = bytes_differ b.bytes c.bytes apart in
          rw differs refl
  one_came (Heard reader m key sig verdict) ts = by (slice_get held m)
    where
      by : (o : Option Body) → flat_map (came_with b) (cons_option (option_map (λ c. heard reader c key sig verdict) o) ts) ≡ flat_map (came_with b) ts
      by None = refl
      by (Some c) = refl

  pub came_is : (entries : List Entry) → flat_map (came_with b) (told_by held entries) ≡ came_with_number n entries
  unfolding told_by
  came_is [] = refl
  came_is (e ∷ entries) = one_came e (filter_map (whole held) entries) ∙ ap (λ cs. came_by n e ++ cs) (came_is entries)

  pub again_is : (base : List Body) (entries : List Entry) (claims : List Claim) → is_in (bodies base (told_by held entries)) b ≡ true
      → list_all (λ c. list_any (same_claim c) (came_with_number n entries)) claims ≡ is_again base (told_by held entries) b claims
  unfolding is_again
  again_is base entries claims inside = let came = came_is entries in rw (inside, came) refl
