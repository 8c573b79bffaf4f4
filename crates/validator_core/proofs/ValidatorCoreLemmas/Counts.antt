-- What is taken is counted, and kept within the limits.
use Rattle.std.proofs.Common.{◌≡◌, ℕ, ◌+◌, ◌≤◌, Bool, false, List, [], ◌∷◌, ◌++◌, length, sym, ◌∙◌, ap, arith, length-append, append-nil}
use Rattle.std.specs.Prelude.{flat_map, nat_le, nat_lt}
use Rattle.std.proofs.lemmas.Bool.{leb-false, ltb-false, or_parts}
use Rattle.cesr_codes.specs.declared.key.Key.{Key}
use Rattle.cesr_codes.specs.declared.sig.Sig.{Sig}
use Rattle.keri_outside.specs.declared.limits.Limits.{Limits}
use Rattle.journal.specs.declared.journal.body.Body.{Body}
use Rattle.journal.specs.declared.journal.claim.Claim.{Claim}
use Rattle.journal.specs.Journal.History.{Told, took, heard, taken, bodies}
use Rattle.journal.specs.Journal.Replies.{all_claims, IsWithin}
use Rattle.journal.proofs.JournalLemmas.Locality.{flat_map-push}
use Rattle.validator_core.specs.declared.validator_core.tally.Tally.{Tally}
use Rattle.validator_core.specs.ValidatorCore.Tally.{IsTally, is_crowded, is_spent, tally_with}
use Rattle.validator_core.specs.ValidatorCore.View.{bytes_of}

-- what is left of the limits, where a tally isn't spent
pub record HasRoom (limits : Limits) (tally : Tally) (claims : ℕ) : Type 0 where
  pub messages : tally.messages + 1 ≤ limits.messages
  pub signatures : tally.signatures + claims ≤ limits.signatures

pub not_spent : (limits : Limits) (tally : Tally) (claims : ℕ) → is_spent limits tally claims ≡ false → HasRoom limits tally claims
not_spent limits tally claims h =
    let parts = or_parts (nat_le limits.messages tally.messages) (nat_lt limits.signatures (tally.signatures + claims)) h in
    record { messages = omega (arith, leb-false limits.messages tally.messages parts.0); signatures = omega (arith, ltb-false limits.signatures (tally.signatures + claims) parts.1) }

pub not_crowded : (limits : Limits) (tally : Tally) (bytes : ℕ) → is_crowded limits tally bytes ≡ false → tally.body_bytes + bytes ≤ limits.body_bytes
not_crowded limits tally bytes h = omega (arith, ltb-false limits.body_bytes (tally.body_bytes + bytes) h)

module _ (base : List Body) (told : List Told) (tally : Tally) (counted : IsTally tally base told) where
  -- TOOK: one message more
  module _ (reader : ℕ) (b : Body) (claims : List Claim) where
    abbrev now : List Told
    now = told ++ took reader b claims ∷ []

    messages_more : length (flat_map taken now) ≡ length (flat_map taken told) + 1
    messages_more = ap length (flat_map-push taken told (took reader b claims)) ∙ length-append (flat_map taken told) (b ∷ [])

    signatures_more : length (flat_map all_claims now) ≡ length (flat_map all_claims told) + length claims
    signatures_more = ap length (flat_map-push all_claims told (took reader b claims)) ∙ length-append (flat_map all_claims told) claims

    pub tally_took : (bytes : ℕ) → bytes_of (bodies base now) ≡ bytes_of (bodies base told) + bytes → IsTally (tally_with tally bytes (length claims)) base now
    tally_took bytes sum = record {
      messages = ap (λ n. n + 1) counted.messages ∙ sym messages_more;
      body_bytes = ap (λ n. n + bytes) counted.body_bytes ∙ sym sum;
      signatures = ap (λ n. n + length claims) counted.signatures ∙ sym signatures_more;
    }

    -- and it keeps the limits, where there was room for it
    pub within_took : (limits : Limits) → HasRoom limits tally (length claims) → bytes_of (bodies base now) ≤ limits.body_bytes → IsWithin limits base now
    within_took limits room small = record {
      messages = omega (arith, messages_more, counted.messages, room.messages);
      body_bytes = small;
      signatures = omega (arith, signatures_more, counted.signatures, room.signatures);
    }

  -- HEARD: no more
  module _ (reader : ℕ) (b : Body) (key : Key) (sig : Sig) (verdict : Bool) where
    abbrev after : List Told
    after = told ++ heard reader b key sig verdict ∷ []

    messages_same : length (flat_map taken after) ≡ length (flat_map taken told)
    messages_same = ap length (flat_map-push taken told (heard reader b key sig verdict) ∙ append-nil (flat_map taken told))

    signatures_same : length (flat_map all_claims after) ≡ length (flat_map all_claims told)
    signatures_same = ap length (flat_map-push all_claims told (heard reader b key sig verdict) ∙ append-nil (flat_map all_claims told))

    pub tally_heard : bytes_of (bodies base after) ≡ bytes_of (bodies base told) → IsTally tally base after
    tally_heard sum = record { messages = counted.messages ∙ sym messages_same; body_bytes = counted.body_bytes ∙ sym sum; signatures = counted.signatures ∙ sym signatures_same }

    pub within_heard : (limits : Limits) → bytes_of (bodies base after) ≡ bytes_of (bodies base told) → IsWithin limits base told → IsWithin limits base after
    within_heard limits sum within = record {
      messages = omega (arith, messages_same, within.messages);
      body_bytes = omega (arith, sum, within.body_bytes);
      signatures = omega (arith, signatures_same, within.signatures);
    }
