-- Each claim with a yes stands in some message of its event, and what is told of messages.
use Rattle.std.proofs.Common.{◌≡◌, ℕ, zero, suc, ◌⊎◌, true, false, List, [], ◌∷◌, ◌++◌, length, map, take, drop, refl, sym, ap, subst, inl, inr}
use Rattle.std.specs.Prelude.{filter, flat_map, nat_le}
use Rattle.std.proofs.lemmas.Bool.{cases_Bool, or_left}
use Rattle.std.proofs.lemmas.List.Concat.{flat_map-append}
use Rattle.key_state.specs.Same.{distinct}
use Rattle.journal.specs.declared.journal.body.Body.{Body}
use Rattle.journal.specs.declared.journal.claim.Claim.{Claim}
use Rattle.journal.specs.declared.journal.claim.Claim.TheVariants.{Controller, Witness, Couple}
use Rattle.journal.specs.Journal.History.{Told, took, heard, Triple, claims_in, claims_on, is_receipt_for, no_in, taken}
use Rattle.journal.specs.Journal.Logs.{same_body}
use Rattle.journal.specs.Journal.Replies.{is_held, same_claim}
use Rattle.journal.proofs.JournalLemmas.Accepting.{same_body-refl}
use Rattle.journal.proofs.JournalLemmas.Same.{same_claim_is}
use Rattle.export_core.specs.ExportLaws.Export.{cut_claims, is_couple, is_good, is_witness, ordered, runs_by, sent_claims}
use Rattle.export_core.proofs.ExportLawsLemmas.Retold.{AllYes}
use Rattle.key_state.proofs.Among.{Among, among_distinct, among_either, among_left, among_left_by, among_right, among_map}

front_or_rest : {X : Type 0} (n : ℕ) (xs : List X) (x : X) → Among x xs → Among x (take n xs) ⊎ Among x (drop n xs)
front_or_rest zero xs x m = inr m
front_or_rest (suc n) [] x m = absurd m
front_or_rest (suc n) (y ∷ ys) x (inl e) = inl (inl e)
front_or_rest (suc n) (y ∷ ys) x (inr m) = elim (front_or_rest n ys x m) [ inl l ↦ inl (inr l) | inr r ↦ inr r ]

-- each element is in some run, and there is a run
runs_all : {X : Type 0} (n size : ℕ) (xs : List X) (x : X) → Among x xs → (run : List X) × Among run (runs_by n size xs) × Among x run
unfolding runs_by
runs_all zero size xs x m = (xs, inl refl, m)
runs_all (suc n) size xs x m = elim (cases_Bool (nat_le (length xs) size)) [
  | inl k ↦ rw k (xs, inl refl, m)
  | inr k ↦ elim (front_or_rest size xs x m) [
    | inl l ↦ rw k (take size xs, inl refl, l)
    | inr r ↦ (let more = runs_all n size (drop size xs) x r in rw k (more.0, inr more.1, more.2))
  ]
]

runs_some : {X : Type 0} (n size : ℕ) (xs : List X) → (run : List X) × Among run (runs_by n size xs)
unfolding runs_by
runs_some zero size xs = (xs, inl refl)
runs_some (suc n) size xs = elim (cases_Bool (nat_le (length xs) size)) [
  | inl k ↦ rw k (xs, inl refl)
  | inr k ↦ rw k (take size xs, inl refl)
]

-- the order keeps each claim
pub ordered_all : (claims : List Claim) (c : Claim) → Among c claims → Among c (ordered claims)
ordered_all claims (Controller s) m = among_left (filter is_held claims) (filter is_witness claims ++ filter is_couple claims) (Controller s) (among_left_by is_held claims (Controller s) m refl)
ordered_all claims (Witness s) m = among_right (filter is_held claims) (filter is_witness claims ++ filter is_couple claims) (Witness s)
    (among_left (filter is_witness claims) (filter is_couple claims) (Witness s) (among_left_by is_witness claims (Witness s) m refl))
ordered_all claims (Couple key sig) m = among_right (filter is_held claims) (filter is_witness claims ++ filter is_couple claims) (Couple key sig)
    (among_right (filter is_witness claims) (filter is_couple claims) (Couple key sig) (among_left_by is_couple claims (Couple key sig) m refl))

-- each claim stands in a message
pub cut_all : (claims : List Claim) (c : Claim) → Among c claims → (cs : List Claim) × Among cs (cut_claims claims) × Among c cs
cut_all [] c m = absurd m
cut_all (d ∷ claims) c (inl e) =
    let r = runs_some (length claims) 1023 claims in
    (ordered (d ∷ r.0), among_map (λ run. ordered (d ∷ run)) (runs_by (length claims) 1023 claims) r.0 r.1, ordered_all (d ∷ r.0) c (inl e))
cut_all (d ∷ claims) c (inr m) =
    let r = runs_all (length claims) 1023 claims c m in
    (ordered (d ∷ r.0), among_map (λ run. ordered (d ∷ run)) (runs_by (length claims) 1023 claims) r.0 r.1, ordered_all (d ∷ r.0) c (inr r.2))

-- there is a message at least
pub cut_some : (claims : List Claim) → (cs : List Claim) × (rest : List (List Claim)) × (cut_claims claims ≡ cs ∷ rest)
unfolding runs_by
cut_some [] = ([], [], refl)
cut_some (d ∷ claims) = some (runs_by (length claims) 1023 claims) refl (runs_some (length claims) 1023 claims)
  where
    some : (rs : List (List Claim)) → runs_by (length claims) 1023 claims ≡ rs → (run : List Claim) × Among run (runs_by (length claims) 1023 claims)
        → (cs : List Claim) × (rest : List (List Claim)) × (map (λ run. ordered (d ∷ run)) (runs_by (length claims) 1023 claims) ≡ cs ∷ rest)
    some [] e r = (let none : Among r.0 [] = subst (λ rs. Among r.0 rs) e r.1 in absurd none)
    some (s ∷ rs) e r = (ordered (d ∷ s), map (λ run. ordered (d ∷ run)) rs, ap (map (λ run. ordered (d ∷ run))) e)

-- and each claim with a yes is sent
pub good_all : (told : List Told) (log : List Body) (b : Body) (c : Claim) → Among c (claims_on told b) → is_good told log b c ≡ true → Among c (distinct same_claim (filter (is_good told log b) (claims_on told b)))
good_all told log b c m h = among_distinct same_claim same_claim_is (filter (is_good told log b) (claims_on told b)) c (among_left_by (is_good told log b) (claims_on told b) c m h)

pub sent_all : (told : List Told) (log : List Body) (b : Body) (c : Claim) → Among c (claims_on told b) → is_good told log b c ≡ true → Among c (sent_claims told log b)
unfolding sent_claims
sent_all told log b c m h = ordered_all (distinct same_claim (filter (is_good told log b) (claims_on told b))) c (good_all told log b c m h)

-- verdicts bring no body, and yes verdicts no no
pub yes_takes : (told : List Told) (b : Body) → AllYes told → Among b (flat_map taken told) → ⊥
yes_takes [] b h m = m
yes_takes (took reader c claims ∷ told) b h m = h
yes_takes (heard reader c key sig verdict ∷ told) b h m = yes_takes told b h.1 m

pub yes_has_no : (told : List Told) (t : Triple) → AllYes told → Among t (flat_map no_in told) → ⊥
yes_has_no [] t h m = m
yes_has_no (took reader c claims ∷ told) t h m = h
yes_has_no (heard reader c key sig true ∷ told) t h m = yes_has_no told t h.1 m
yes_has_no (heard reader c key sig false ∷ told) t h m = (let no : false ≡ true = h.0 in cc)

-- what a message and its answers bring
module _ (sofar : List Told) (reader : ℕ) (x : Body) (cs : List Claim) (answers : List Told) (all : AllYes answers) where
  abbrev now : List Told
  now = sofar ++ took reader x cs ∷ answers

  pub brings_body : (b : Body) → Among b (flat_map taken now) → Among b (flat_map taken sofar) ⊎ (x ≡ b)
  brings_body b m = elim (among_either (flat_map taken sofar) (x ∷ flat_map taken answers) b (subst (λ xs. Among b xs) (flat_map-append taken sofar (took reader x cs ∷ answers)) m)) [
    | inl l ↦ inl l
    | inr (inl e) ↦ inr e
    | inr (inr n) ↦ absurd (yes_takes answers b all n)
  ]

  pub brings_itself : Among x (flat_map taken now)
  brings_itself = subst (λ xs. Among x xs) (sym (flat_map-append taken sofar (took reader x cs ∷ answers))) (among_right (flat_map taken sofar) (x ∷ flat_map taken answers) x (inl refl))

  pub brings_no : (t : Triple) → Among t (flat_map no_in now) → Among t (flat_map no_in sofar)
  brings_no t m = elim (among_either (flat_map no_in sofar) (flat_map no_in answers) t (subst (λ xs. Among t xs) (flat_map-append no_in sofar (took reader x cs ∷ answers)) m)) [
    | inl l ↦ l
    | inr n ↦ absurd (yes_has_no answers t all n)
  ]

  pub brings_claims : (c : Claim) → Among c cs → Among c (claims_on now x)
  unfolding claims_on
  brings_claims c m =
      let itself = or_left (same_body x x) (is_receipt_for x x) (same_body-refl x) in
      let here : Among c (claims_in x (took reader x cs)) = rw itself m in
      subst (λ xs. Among c xs) (sym (flat_map-append (claims_in x) sofar (took reader x cs ∷ answers)))
      (among_right (flat_map (claims_in x) sofar) (claims_in x (took reader x cs) ++ flat_map (claims_in x) answers) c (among_left (claims_in x (took reader x cs)) (flat_map (claims_in x) answers) c here))

  pub keeps_claims : (c : Claim) → Among c (claims_on sofar x) → Among c (claims_on now x)
  unfolding claims_on
  keeps_claims c m = subst (λ xs. Among c xs) (sym (flat_map-append (claims_in x) sofar (took reader x cs ∷ answers)))
      (among_left (flat_map (claims_in x) sofar) (flat_map (claims_in x) (took reader x cs ∷ answers)) c m)
