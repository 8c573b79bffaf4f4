-- Each message of an export may be taken by who reads it.
use Rattle.std.proofs.Common.{◌≡◌, ◌+◌, ◌≤◌, ℕ, zero, suc, true, List, [], ◌∷◌, ◌++◌, length, take, drop, refl, sym, subst, arith, inl, inr, length-append, length-drop, length-take}
use Rattle.std.specs.Prelude.{All, filter, flat_map, nat_le}
use Rattle.std.specs.List.{list_any}
use Rattle.std.proofs.lemmas.Bool.{cases_Bool}
use Rattle.std.proofs.lemmas.Bool.Decides.{nat_tests}
use Rattle.std.proofs.lemmas.List.Elements.{All-cons, All-contains, All-nil}
use Rattle.validator_core.specs.Acceptance.Standing.{IsHeld}
use Rattle.cesr_codes.specs.declared.prefix.Prefix.{Prefix}
use Rattle.journal.specs.Journal.Accepted.{accepted}
use Rattle.journal.specs.Journal.History.{Told}
use Rattle.journal.specs.Journal.Replies.{is_held}
use Rattle.journal.specs.declared.journal.body.Body.{Body}
use Rattle.journal.specs.declared.journal.claim.Claim.{Claim}
use Rattle.journal.specs.declared.journal.claim.Claim.TheVariants.{Controller, Witness, Couple}
use Rattle.journal.specs.declared.journal.mode.Mode.TheVariants.{Full}
use Rattle.journal_views.proofs.JournalLawsLemmas.Came.{were_ready}
use Rattle.key_state.proofs.Among.{Among, contained, flat_map_among, left_among, map_among, parted}
use Rattle.export_core.specs.ExportLaws.Export.{Sent, cut_claims, export, exported, is_couple, is_of_some, is_witness, messages_of, ordered, runs_by, sent_claims}
use Rattle.export_core.proofs.ExportLawsLemmas.Ready.{ready_parts}
use Rattle.export_core.proofs.ExportLawsLemmas.Signed.{messages_are_signed}
use Rattle.export_core.proofs.ExportCoreLemmas.LikeMessages.{MayBeTaken}
use Rattle.export_core.proofs.ExportCoreLemmas.Texts.{ordered_couples, ordered_held, ordered_witness}
use Rattle.export_core.proofs.ExportCoreLemmas.Wanting.{wanted}

-- the order of kinds is one of them already, and leaves as many
ordered_twice : (claims : List Claim) → ordered (ordered claims) ≡ ordered claims
ordered_twice claims = λ i. ordered_held claims i ++ (ordered_witness claims i ++ ordered_couples claims i)

kinds_many : (claims : List Claim) → length (filter is_held claims) + (length (filter is_witness claims) + length (filter is_couple claims)) ≡ length claims
kinds_many [] = refl
kinds_many (Controller s ∷ claims) = omega (arith, kinds_many claims)
kinds_many (Witness s ∷ claims) = omega (arith, kinds_many claims)
kinds_many (Couple key sig ∷ claims) = omega (arith, kinds_many claims)

ordered_many : (claims : List Claim) → length (ordered claims) ≡ length claims
ordered_many claims =
    omega (
      arith,
      length-append (filter is_held claims) (filter is_witness claims ++ filter is_couple claims),
      length-append (filter is_witness claims) (filter is_couple claims),
      kinds_many claims,
    )

at_most : (m n : ℕ) → nat_le m n ≡ true → m ≤ n
at_most m n h = grind (arith, nat_tests, h)

-- each run is short
runs_few : (n : ℕ) (claims run : List Claim) → length claims ≤ n + 1023 → Among run (runs_by n 1023 claims) → length run ≤ 1023
unfolding runs_by
runs_few zero claims run few (inl e) = subst (λ r. length r ≤ 1023) e (omega (arith, few))
runs_few zero claims run few (inr m) = absurd m
runs_few (suc n) claims run few m = elim (cases_Bool (nat_le (length claims) 1023)) [
  | inl k ↦ short k (rw k at m)
  | inr k ↦ long (rw k at m) (λ m. runs_few n (drop 1023 claims) run (omega (arith, few, length-drop 1023 claims)) m)
]
  where
    short : nat_le (length claims) 1023 ≡ true → Among run (claims ∷ []) → length run ≤ 1023
    short k (inl e) = subst (λ r. length r ≤ 1023) e (at_most (length claims) 1023 k)
    short k (inr m) = absurd m

    long : Among run (take 1023 claims ∷ runs_by n 1023 (drop 1023 claims)) → (Among run (runs_by n 1023 (drop 1023 claims)) → length run ≤ 1023)
        → length run ≤ 1023
    long (inl e) more = subst (λ r. length r ≤ 1023) e (omega (arith, length-take 1023 claims))
    long (inr m) more = more m

-- the claims of each message are in order and not too many
cut_few : (claims cs : List Claim) → Among cs (cut_claims claims) → (ordered cs ≡ cs) × (length cs ≤ 1024)
cut_few [] cs (inl e) = subst (λ x. (ordered x ≡ x) × (length x ≤ 1024)) e (refl, omega arith)
cut_few [] cs (inr m) = absurd m
cut_few (c ∷ claims) cs m =
    let r = map_among (λ run. ordered (c ∷ run)) (runs_by (length claims) 1023 claims) cs m in
    subst (λ x. (ordered x ≡ x) × (length x ≤ 1024)) r.2
    (ordered_twice (c ∷ r.0), omega (arith, ordered_many (c ∷ r.0), runs_few (length claims) claims r.0 (omega arith) r.1))

all_among : {X : Type 0} (P : X → Type 0) (xs : List X) → ((x : X) → Among x xs → P x) → All P xs
all_among P [] each = All-nil P
all_among P (x ∷ xs) each = All-cons P x xs (each x (inl refl)) (all_among P xs (λ y m. each y (inr m)))

-- EVENT: each message of an accepted event may be taken
event_taken : (told : List Told) → All IsHeld (accepted Full [] told) → (b : Body) (m : Sent) → Among b (accepted Full [] told)
    → Among m (messages_of told (accepted Full [] told) b) → MayBeTaken m
event_taken told held b m inside sent =
    let log = accepted Full [] told in
    let its = All-contains IsHeld log b held (contained log b inside) in
    let split = parted log b inside in
    let w = were_ready Full told split.0 split.1 b split.2 in
    let ready = ready_parts Full w.earlier split.0 b w.ready in
    let signed = messages_are_signed told b m (contained log b inside) (wanted log b held its) (contained (messages_of told log b) m sent) in
    let k = map_among (λ claims. record { body = b; claims = claims }) (cut_claims (sent_claims told log b)) m sent in
    let cut = cut_few (sent_claims told log b) k.0 k.1 in
    subst MayBeTaken k.2 (record {
      held = its;
      event = ready.event;
      signed = subst (λ x. list_any is_held x.claims ≡ true) (sym k.2) signed;
      in_order = cut.0;
      few = cut.1;
    })

-- EXPORT
pub export_taken : (told : List Told) (family : List Prefix) → All IsHeld (accepted Full [] told) → All MayBeTaken (export told family)
unfolding export
export_taken told family held =
    let log = accepted Full [] told in
    all_among MayBeTaken (flat_map (messages_of told log) (exported family log)) (λ m there.
    let of = flat_map_among (messages_of told log) (exported family log) m there in
    event_taken told held of.0 m (left_among (is_of_some family) log of.0 of.1).0 of.2)
