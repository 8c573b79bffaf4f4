-- The live event of a number, from the last accepted event back.
use Rattle.std.proofs.Common.{◌≡◌, ℕ, ◌<◌, ◌≤◌, ◌==◌, Bool, true, false, List, [], ◌∷◌, ◌++◌, Option, Some, None, option_map, refl, ap, ◌∙◌, arith, inl, inr}
use Rattle.std.specs.Prelude.{filter, find, fold, nat_le, nat_lt, if◌then◌else◌}
use Rattle.std.proofs.lemmas.Bool.{and_parts, cases_Bool, leb-false, leb-true}
use Rattle.std.proofs.lemmas.Bool.Decides.{nat_tests}
use Rattle.std.proofs.lemmas.List.Elements.{filter-append}
use Rattle.std.proofs.lemmas.List.Sums.{fold-append}
use Rattle.cesr_codes.specs.declared.digest.Digest.{Digest}
use Rattle.cesr_codes.specs.declared.prefix.Prefix.{Prefix}
use Rattle.event_body.specs.EventBody.Events.{said_of, sn_of}
use Rattle.journal.specs.declared.journal.body.Body.{Body}
use Rattle.journal.specs.Journal.Logs.{is_of, live, live_with}
use Rattle.witness_core.specs.WitnessReceipts.Fates.{is_within, live_there, said_at}

-- a further event of the identifier, and one of another
live_more : (bodies : List Body) (prefix : Prefix) (b : Body) → is_of prefix b ≡ true → live (bodies ++ b ∷ []) prefix ≡ live_with (live bodies prefix) b
unfolding live
live_more bodies prefix b h =
    ap (fold live_with []) (filter-append (is_of prefix) bodies (b ∷ [])) ∙ rw h (fold-append live_with [] (filter (is_of prefix) bodies) (b ∷ []))

pub live_other : (bodies : List Body) (prefix : Prefix) (b : Body) → is_of prefix b ≡ false → live (bodies ++ b ∷ []) prefix ≡ live bodies prefix
unfolding live
live_other bodies prefix b h =
    ap (fold live_with []) (filter-append (is_of prefix) bodies (b ∷ [])) ∙ rw h (fold-append live_with [] (filter (is_of prefix) bodies) [])

module _ (sn : ℕ) (b : Body) where
  abbrev with : List Body → List Body
  with bodies = live_with bodies b

  abbrev there : List Body → Option Body
  there bodies = find (λ c. sn_of c.event == sn) bodies

  -- behind the number, it leaves what stands there
  behind : sn < sn_of b.event → (bodies : List Body) → there (with bodies) ≡ there bodies
  behind h [] = let other : (sn_of b.event == sn) ≡ false = grind (arith, nat_tests) in rw other refl
  behind h (c ∷ bodies) =
      let ih = behind h bodies in
      elim (cases_Bool (sn_of c.event == sn)) [
        | inl k ↦ (let below : nat_lt (sn_of c.event) (sn_of b.event) ≡ true = grind (arith, nat_tests) in rw below (rw k refl))
        | inr k ↦ elim (cases_Bool (nat_lt (sn_of c.event) (sn_of b.event))) [
          | inl l ↦ rw l (rw k ih)
          | inr l ↦ rw l (rw k ih)
        ]
      ]

  -- at the number or before it, it alone may stand there
  within : sn_of b.event ≤ sn → (bodies : List Body) → there (with bodies) ≡ (if sn_of b.event == sn then Some b else None)
  within h [] = elim (cases_Bool (sn_of b.event == sn)) [ inl k ↦ rw k refl | inr k ↦ rw k refl ]
  within h (c ∷ bodies) =
      let ih = within h bodies in
      elim (cases_Bool (nat_lt (sn_of c.event) (sn_of b.event))) [
        | inl l ↦ (let other : (sn_of c.event == sn) ≡ false = grind (arith, nat_tests) in rw l (rw other ih))
        | inr l ↦ rw l ih
      ]

said_when : (so : Bool) (b : Body) → option_map (λ (c : Body). said_of c.event) (if so then Some b else None) ≡ (if so then Some (said_of b.event) else None)
said_when true b = refl
said_when false b = refl

module _ (bodies : List Body) (prefix : Prefix) (sn : ℕ) (b : Body) where
  abbrev named : Option Body → Option Digest
  named o = option_map (λ (c : Body). said_of c.event) o

  of_live : (more : List Body) → live (bodies ++ b ∷ []) prefix ≡ more → live_there (bodies ++ b ∷ []) prefix sn ≡ named (there sn b more)
  of_live more is = ap (λ l. named (there sn b l)) is

  -- LAST: the last event that isn't behind the number says whether one is live there
  pub live_last : is_within prefix sn b.event ≡ true → live_there (bodies ++ b ∷ []) prefix sn ≡ said_at sn b.event
  live_last h =
      let parts = and_parts (is_of prefix b) (nat_le (sn_of b.event) sn) h in
      let low : sn_of b.event ≤ sn = leb-true (sn_of b.event) sn parts.1 in
      of_live (live_with (live bodies prefix) b) (live_more bodies prefix b parts.0) ∙ ap named (within sn b low (live bodies prefix)) ∙ said_when (sn_of b.event == sn) b

  -- and any other leaves it
  pub live_before : is_within prefix sn b.event ≡ false → live_there (bodies ++ b ∷ []) prefix sn ≡ live_there bodies prefix sn
  live_before h = elim (cases_Bool (is_of prefix b)) [
    | inr other ↦ of_live (live bodies prefix) (live_other bodies prefix b other)
    | inl of ↦ (
        let late : nat_le (sn_of b.event) sn ≡ false = rw of at h in
        let low : sn < sn_of b.event = leb-false (sn_of b.event) sn late in
        of_live (live_with (live bodies prefix) b) (live_more bodies prefix b of) ∙ ap named (behind sn b low (live bodies prefix)))
  ]

-- nothing is live where nothing is accepted
pub live_nothing : (prefix : Prefix) (sn : ℕ) → live_there [] prefix sn ≡ None
unfolding live
live_nothing prefix sn = refl
