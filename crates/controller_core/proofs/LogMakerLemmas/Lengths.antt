-- How long the messages of a made log are.
use Rattle.std.proofs.Common.{◌≡◌, ℕ, zero, suc, ◌+◌, ◌/◌, ◌%◌, ◌<◌, ◌≤◌, ◌==◌, inl, inr, true, false, List, [], ◌∷◌, ◌++◌, length, codes, if◌then◌else◌, refl, ap, ◌∙◌, arith, length-append}
use Rattle.std.specs.Fmt.{digits, digits_onto, digit_glyph}
use Rattle.std.proofs.lemmas.Bool.{cases_Bool}
use Rattle.lists.specs.KeriSpecs.Base64.{base64_text, whole_number}
use Rattle.cesr_codes.specs.declared.digest.DigestCode.TheVariants.{Blake3}
use Rattle.cesr_codes.specs.declared.sig.Sig.{Sig}
use Rattle.cesr_codes.proofs.Numbers.{length-base64_text}
use Rattle.event_body.specs.EventWriting.Sealed.{digest_in}
use Rattle.keri_outside.specs.Rehearsal.{rehearsed}
use Rattle.controller_core.specs.LogMaker.Behind.{first_before, prior_before}
use Rattle.controller_core.specs.LogMaker.Draws.{is_rotation, key_number}
use Rattle.controller_core.specs.LogMaker.Messages.{signature_text, message_text}
use Rattle.controller_core.specs.LogMaker.Names.{log_key, log_witness}
use Rattle.controller_core.specs.LogMaker.Plans.{inception, rotation, interaction, sealed, event_at, event_text}
use Rattle.controller_core.proofs.LogMakerLemmas.Chain.{event_at-inception, event_at-rotation, event_at-interaction}
use Rattle.controller_core.proofs.LogMakerLemmas.Sizes.{inception_long, rotation_long, interaction_long}
use Rattle.controller_core.proofs.LogMakerLemmas.Texts.{signed_parts}

-- so many digits at most
onto_few : (k n : ℕ) (behind : List ℕ) → length (digits_onto k 16 false n behind) ≤ k + length behind
onto_few zero n behind = omega arith
onto_few (suc k) n behind =
    let more = onto_few k (n / 16) (digit_glyph false (n % 16) ∷ behind) in
    elim (n / 16 == 0) as (λ b. length (if b then digit_glyph false (n % 16) ∷ behind else digits_onto k 16 false (n / 16) (digit_glyph false (n % 16) ∷ behind)) ≤ suc k + length behind) [
      | true ↦ omega arith
      | false ↦ omega (arith, more)
    ]

pub digits_few : (n : ℕ) → length (digits 16 false n) ≤ 64
unfolding digits
digits_few n = onto_few 64 n []

module _ (seed log : ℕ) where
  pub first_size : length (event_text (event_at seed log 0)) ≡ 486
  unfolding event_text sealed
  first_size = ap (λ event. length (event_text event)) (event_at-inception seed log) ∙ inception_long (digest_in Blake3 (inception seed log)) seed log

  pub rotation_size : (sn : ℕ) → 0 < sn → is_rotation seed log sn ≡ true → length (event_text (event_at seed log sn)) ≡ 351 + length (digits 16 false sn)
  unfolding event_text sealed
  rotation_size sn some is =
      let first = first_before seed log sn in
      let prior = prior_before seed log sn in
      let number = key_number seed log sn in
      ap (λ event. length (event_text event)) (event_at-rotation seed log sn number first prior some is refl refl refl)
      ∙ rotation_long (digest_in Blake3 (rotation seed log number sn first prior)) first prior seed log number sn

  pub interaction_size : (sn : ℕ) → 0 < sn → is_rotation seed log sn ≡ false → length (event_text (event_at seed log sn)) ≡ 202 + length (digits 16 false sn)
  unfolding event_text sealed
  interaction_size sn some is =
      let first = first_before seed log sn in
      let prior = prior_before seed log sn in
      ap (λ event. length (event_text event)) (event_at-interaction seed log sn first prior some is refl refl)
      ∙ interaction_long (digest_in Blake3 (interaction sn first prior)) first prior sn

  pub few_bytes : (sn : ℕ) → length (event_text (event_at seed log sn)) ≤ 486
  few_bytes zero = omega (arith, first_size)
  few_bytes (suc sn) = elim (cases_Bool (is_rotation seed log (suc sn))) [
    | inl is ↦ (let some : 0 < suc sn = omega arith in omega (arith, rotation_size (suc sn) some is, digits_few (suc sn)))
    | inr is ↦ (let some : 0 < suc sn = omega arith in omega (arith, interaction_size (suc sn) some is, digits_few (suc sn)))
  ]

signature_long : (place : ℕ) (sig : Sig) → length (signature_text place sig) ≡ 88
signature_long place sig =
    omega (arith, length-append (codes "A" ++ base64_text 1 place) (base64_text 86 (whole_number sig.raw)), length-append (codes "A") (base64_text 1 place), length-base64_text 1 place, length-base64_text 86 (whole_number sig.raw))

parts_long : (body s u v w : List ℕ) → length s ≡ 88 → length u ≡ 88 → length v ≡ 88 → length w ≡ 88
    → length ((((((body ++ codes "-AAB") ++ s) ++ codes "-BAD") ++ u) ++ v) ++ w) ≡ length body + 360
parts_long body s u v w s_long u_long v_long w_long = simp length-append (omega arith)

-- a message has the signatures behind the body
pub message_size : (seed log sn : ℕ) → length (message_text seed log sn) ≡ length (event_text (event_at seed log sn)) + 360
unfolding message_text
message_size seed log sn =
    let key = log_key seed log (key_number seed log sn) in
    let body = event_text (event_at seed log sn) in
    ap length (signed_parts seed log key body)
    ∙ parts_long body (signature_text 0 (rehearsed key body)) (signature_text 0 (rehearsed (log_witness seed log 0) body)) (signature_text 1 (rehearsed (log_witness seed log 1) body)) (signature_text 2 (rehearsed (log_witness seed log 2) body))
    (signature_long 0 (rehearsed key body)) (signature_long 0 (rehearsed (log_witness seed log 0) body)) (signature_long 1 (rehearsed (log_witness seed log 1) body)) (signature_long 2 (rehearsed (log_witness seed log 2) body))
