-- What a reply to an event says of what was told.
use Rattle.std.proofs.Common.{◌≡◌, ◌≤◌, ◌+◌, Bool, true, false, not, ◌||◌, ◌&&◌, List, [], ◌∷◌, ◌++◌, length, sym, ◌∙◌, ap, arith, inl, inr, nat_lt, nat_le}
use Rattle.std.specs.Prelude.{flat_map, sum_by, if◌then◌else◌}
use Rattle.std.proofs.lemmas.Bool.{cases_Bool, or_parts}
use Rattle.std.proofs.lemmas.Bool.Decides.{nat_tests}
use Rattle.journal.specs.declared.journal.body.Body.{Body}
use Rattle.journal.specs.declared.journal.claim.Claim.{Claim}
use Rattle.journal.specs.declared.journal.reply.Reason.{Reason}
use Rattle.journal.specs.declared.journal.reply.Reply.{Reply}
use Rattle.journal.specs.declared.journal.reply.Reply.TheVariants.{Taken, Again, Refused, LimitReached}
use Rattle.journal.specs.Journal.History.{bodies, taken, took}
use Rattle.journal.specs.Journal.Logs.{is_in}
use Rattle.journal.specs.Journal.Replies.{all_claims, is_again, is_full, reply_to}
use Rattle.validator_core.specs.ValidatorCore.Calls.{TakesBody, told_then as told_by_reply}
use Rattle.validator_core.specs.ValidatorCore.View.{CoreView, base_of, told_of}
use Rattle.witness_core.specs.WitnessCore.Telling.{Came, IsUntold}

-- the event was told
abbrev pub is_told : Reply → Bool
is_told Taken = true
is_told Again = true
is_told (Refused reason) = false
is_told LimitReached = false

-- there was no room
abbrev pub is_refused_room : Reply → Bool
is_refused_room Taken = false
is_refused_room Again = false
is_refused_room (Refused reason) = false
is_refused_room LimitReached = true

by_reply : (reply : Reply) (full again : Bool) → reply ≡ (if full then LimitReached else (if again then Again else Taken)) → (is_refused_room reply ≡ full) × (is_told reply ≡ not full)
by_reply reply true again is = (ap is_refused_room is, ap is_told is)
by_reply reply false true is = (ap is_refused_room is, ap is_told is)
by_reply reply false false is = (ap is_refused_room is, ap is_told is)

module _ (old new : CoreView) (b : Body) (claims : List Claim) (reply : Reply) (takes : TakesBody old 0 b claims reply new) where
  abbrev full : Bool
  full = is_full old.limits (base_of old) (told_of old) b claims

  parts : (is_refused_room reply ≡ full) × (is_told reply ≡ not full)
  unfolding reply_to
  parts = by_reply reply full (is_again (base_of old) (told_of old) b claims) takes.reply_is

  pub full_is : is_refused_room reply ≡ full
  full_is = parts.0

  -- where it was told it wasn't full
  pub told_room : is_told reply ≡ true → full ≡ false
  told_room told = elim (cases_Bool full) [
    | inl k ↦ (let no : true ≡ false = sym told ∙ parts.1 ∙ ap not k in cc)
    | inr k ↦ k
  ]

  pub never_refused : (reason : Reason) → reply ≡ Refused reason → ⊥
  never_refused reason is = elim (cases_Bool full) [
    | inl k ↦ (let no : false ≡ true = sym (ap is_refused_room is) ∙ parts.0 ∙ k in cc)
    | inr k ↦ (let no : false ≡ true = sym (ap is_told is) ∙ parts.1 ∙ ap not k in cc)
  ]

  few : full ≡ false → length (flat_map all_claims (told_of old)) + length claims ≤ old.limits.signatures
  unfolding is_full
  few room =
      let last = (or_parts (nat_le old.limits.messages (length (flat_map taken (told_of old))) || (not (is_in (bodies (base_of old) (told_of old)) b)
      && nat_lt old.limits.body_bytes (sum_by (λ c. length c.bytes) (bodies (base_of old) (told_of old)) + length b.bytes)))
      (nat_lt old.limits.signatures (length (flat_map all_claims (told_of old)) + length claims)) room).1 in
      grind (arith, nat_tests, last)

  pub came : is_told reply ≡ true → Came b claims old new
  came told = record { told = told_then reply told takes.told_is; follows = takes.follows; few = few (told_room told) }
    where
      told_then : (reply : Reply) → is_told reply ≡ true → told_of new ≡ told_by_reply (told_of old) 0 b claims reply → told_of new ≡ told_of old ++ took 0 b claims ∷ []
      told_then Taken t is = is
      told_then Again t is = is
      told_then (Refused reason) t is = cc
      told_then LimitReached t is = cc

  pub untold : reply ≡ LimitReached → IsUntold old new
  untold is = record { told = takes.told_is ∙ ap (told_by_reply (told_of old) 0 b claims) is; follows = takes.follows }
