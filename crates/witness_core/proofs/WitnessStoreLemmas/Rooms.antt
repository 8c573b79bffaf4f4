-- The room of what waits, as more is told.
use Rattle.std.proofs.Common.{◌≡◌, ◌≤◌, ◌+◌, ◌*◌, ℕ, Bool, true, false, ◌||◌, List, [], ◌∷◌, ◌++◌, length, map, slice_get, set, Some, refl, sym, ◌∙◌, ap, arith, inl, inr, length-append, append-nil, append_assoc, if◌then◌else◌}
use Rattle.std.specs.Prelude.{filter_map, flat_map, bytes_eq}
use Rattle.std.specs.Cmp.Lexicographic.{bytes_decides}
use Rattle.std.specs.List.{list_any, list_all}
use Rattle.std.proofs.lemmas.Bool.{and_from, and_parts, cases_Bool, not-true}
use Rattle.std.proofs.Math.Bool.{or-false}
use Rattle.std.proofs.lemmas.List.{map-append}
use Rattle.std.proofs.lemmas.List.Elements.{filter_map-append}
use Rattle.std.proofs.lemmas.List.Sums.{sum_by_push}
use Rattle.cesr_codes.specs.declared.key.Key.{Key}
use Rattle.cesr_codes.specs.declared.sig.Sig.{Sig}
use Rattle.claim_table.specs.CoreLaws.Waking.{is_waiting}
use Rattle.claim_table.proofs.CoreLawsLemmas.Told.{claims_heard, claims_push}
use Rattle.event_body.specs.EventBody.Events.{is_receipt}
use Rattle.journal.specs.declared.journal.body.Body.{Body}
use Rattle.journal.specs.declared.journal.claim.Claim.{Claim}
use Rattle.journal.specs.declared.journal.claim.Claim.TheVariants.{Controller, Witness, Couple}
use Rattle.journal.specs.Journal.History.{Told, bodies, claims_in, claims_on, heard, is_receipt_for, taken, took}
use Rattle.journal.specs.Journal.Logs.{is_in, same_body}
use Rattle.journal.specs.Journal.Readiness.{held_sig}
use Rattle.journal.specs.Journal.Replies.{all_claims}
use Rattle.journal.proofs.JournalLemmas.Accepting.{same_body-refl}
use Rattle.journal.proofs.JournalLemmas.Different.{Differ, differ-distinct}
use Rattle.journal.proofs.JournalLemmas.Distinct.{any-distinct, same_body-moves}
use Rattle.journal.proofs.JournalLemmas.Keeping.{list_all-distinct}
use Rattle.journal.proofs.JournalLemmas.Locality.{flat_map-push}
use Rattle.journal.proofs.JournalLemmas.Places.{any_at, others_differ}
use Rattle.witness_core.specs.WitnessStore.Room.{if_waiting, is_event, reserve, signatures_in, signatures_on, weight}
use Rattle.witness_core.proofs.WitnessStoreLemmas.Lists.{map_change, map_same}
use Rattle.witness_core.proofs.WitnessStoreLemmas.Sums.{sum_change, sum_same}

-- the bodies differ from each other
pub bodies_differ : (base : List Body) (told : List Told) → Differ same_body (bodies base told)
unfolding bodies
bodies_differ base told = differ-distinct same_body (base ++ flat_map taken told)

-- and none is a receipt, where none came
pub bodies_events : (base : List Body) (told : List Told) → list_all is_event (base ++ flat_map taken told) ≡ true → list_all is_event (bodies base told) ≡ true
unfolding bodies
bodies_events base told all = list_all-distinct same_body is_event (base ++ flat_map taken told) all

all_push : (xs : List Body) (b : Body) → list_all is_event xs ≡ true → is_event b ≡ true → list_all is_event (xs ++ b ∷ []) ≡ true
all_push [] b all is = and_from (is_event b) true is refl
all_push (x ∷ xs) b all is = let parts = and_parts (is_event x) (list_all is_event xs) all in and_from (is_event x) _ parts.0 (all_push xs b parts.1 is)

all_behind : (xs ys : List Body) → list_all is_event (xs ++ ys) ≡ true → list_all is_event ys ≡ true
all_behind [] ys all = all
all_behind (x ∷ xs) ys all = all_behind xs ys (and_parts (is_event x) (list_all is_event (xs ++ ys)) all).1

pub events_took : (base : List Body) (told : List Told) (b : Body) (claims : List Claim) → list_all is_event (base ++ flat_map taken told) ≡ true → is_event b ≡ true
    → list_all is_event (base ++ flat_map taken (told ++ took 0 b claims ∷ [])) ≡ true
events_took base told b claims all is = ap (list_all is_event) (ap (λ l. base ++ l) (flat_map-push taken told (took 0 b claims)) ∙ sym (append_assoc base (flat_map taken told) (b ∷ []))) ∙ all_push (base ++ flat_map taken told) b all is

pub events_heard : (base : List Body) (told : List Told) (b : Body) (key : Key) (sig : Sig) (verdict : Bool) → list_all is_event (base ++ flat_map taken told) ≡ true
    → list_all is_event (base ++ flat_map taken (told ++ heard 0 b key sig verdict ∷ [])) ≡ true
events_heard base told b key sig verdict all = ap (list_all is_event) (ap (λ l. base ++ l) (flat_map-push taken told (heard 0 b key sig verdict) ∙ append-nil (flat_map taken told))) ∙ all

-- SIGNATURES: how many stand on a body once one more came
module _ (told : List Told) (b : Body) (claims : List Claim) (event : is_receipt b.event ≡ false) where
  no_receipt : (x : Body) → is_receipt_for b x ≡ false
  no_receipt x = rw event refl

  stands : (x : Body) → claims_in x (took 0 b claims) ≡ (if same_body b x then claims else [])
  stands x = ap (λ t. if t then claims else []) (ap (λ t. same_body b x || t) (no_receipt x) ∙ or-false (same_body b x))

  pub signatures_push : (x : Body) → signatures_on (told ++ took 0 b claims ∷ []) x ≡ signatures_on told x + signatures_in (if same_body b x then claims else [])
  signatures_push x = ap signatures_in (claims_push told (took 0 b claims) x ∙ ap (λ l. claims_on told x ++ l) (stands x))
      ∙ ap length (filter_map-append held_sig (claims_on told x) (if same_body b x then claims else []))
      ∙ length-append (filter_map held_sig (claims_on told x)) (filter_map held_sig (if same_body b x then claims else []))

  pub signatures_other : (x : Body) → same_body b x ≡ false → signatures_on (told ++ took 0 b claims ∷ []) x ≡ signatures_on told x
  signatures_other x other = signatures_push x ∙ ap (λ t. signatures_on told x + signatures_in (if t then claims else [])) other ∙ omega arith

  pub signatures_own : signatures_on (told ++ took 0 b claims ∷ []) b ≡ signatures_on told b + signatures_in claims
  signatures_own = signatures_push b ∙ ap (λ t. signatures_on told b + signatures_in (if t then claims else [])) (same_body-refl b)

  weight_other : (log : List Body) (x : Body) → same_body b x ≡ false → if_waiting log (weight (told ++ took 0 b claims ∷ [])) x ≡ if_waiting log (weight told) x
  weight_other log x other = ap (λ n. if is_waiting log x then length x.bytes + 13 + 92 * n else 0) (signatures_other x other)

  pub weight_own : weight (told ++ took 0 b claims ∷ []) b ≡ weight told b + 92 * signatures_in claims
  weight_own = omega (arith, signatures_own)

  -- AGAIN: the body is one of them
  module _ (all : List Body) (differ : Differ same_body all) (n : ℕ) (at : slice_get all n ≡ Some b) where
    pub signatures_again : map (signatures_on (told ++ took 0 b claims ∷ [])) all ≡ set (map (signatures_on told) all) n (signatures_on told b + signatures_in claims)
    signatures_again = map_change (signatures_on told) (signatures_on (told ++ took 0 b claims ∷ [])) all n b at (λ m x other there. sym (signatures_other x (others_differ all differ n b at m x other there)))
        ∙ ap (set (map (signatures_on told) all) n) signatures_own

    reserve_change : (log : List Body) → reserve (told ++ took 0 b claims ∷ []) log all + if_waiting log (weight told) b ≡ reserve told log all + if_waiting log (weight (told ++ took 0 b claims ∷ [])) b
    reserve_change log = sum_change (if_waiting log (weight (told ++ took 0 b claims ∷ []))) (if_waiting log (weight told)) all n b at
        (λ m x other there. weight_other log x (others_differ all differ n b at m x other there))

    pub reserve_again : (log : List Body) → reserve (told ++ took 0 b claims ∷ []) log all ≡ reserve told log all + (if is_waiting log b then 92 * signatures_in claims else 0)
    reserve_again log = elim (cases_Bool (is_waiting log b)) [
      | inl k ↦ (let change = rw k at (reserve_change log) in rw k (omega (arith, change, weight_own)))
      | inr k ↦ (let change = rw k at (reserve_change log) in rw k (omega (arith, change)))
    ]

  -- FIRST: the body is new
  module _ (all : List Body) (outside : is_in all b ≡ false) where
    is_other : (m : ℕ) (x : Body) → slice_get all m ≡ Some x → same_body b x ≡ false
    is_other m x at = elim (cases_Bool (same_body b x)) [
      | inr k ↦ k
      | inl k ↦ (let same = (bytes_decides b.bytes x.bytes).0 k in
          let turned : same_body x b ≡ true = ap (λ t. bytes_eq t b.bytes) (sym same) ∙ same_body-refl b in
          let there : is_in all b ≡ true = any_at (λ c. same_body c b) all m x at turned in cc)
    ]

    pub signatures_first : signatures_on told b ≡ 0 → map (signatures_on (told ++ took 0 b claims ∷ [])) (all ++ b ∷ []) ≡ map (signatures_on told) all ++ signatures_in claims ∷ []
    signatures_first none = let own : signatures_on (told ++ took 0 b claims ∷ []) b ≡ signatures_in claims = omega (arith, signatures_own, none) in
        map-append (signatures_on (told ++ took 0 b claims ∷ [])) all (b ∷ [])
        ∙ (λ i. map_same (signatures_on (told ++ took 0 b claims ∷ [])) (signatures_on told) all (λ m x at. signatures_other x (is_other m x at)) i
        ++ own i ∷ [])

    pub reserve_first : (log : List Body) → signatures_on told b ≡ 0 → is_waiting log b ≡ true
        → reserve (told ++ took 0 b claims ∷ []) log (all ++ b ∷ []) ≡ reserve told log all + (length b.bytes + 13 + 92 * signatures_in claims)
    reserve_first log none waits =
        let own : if_waiting log (weight (told ++ took 0 b claims ∷ [])) b ≡ weight (told ++ took 0 b claims ∷ []) b = ap (λ t. if t then weight (told ++ took 0 b claims ∷ []) b else 0) waits in
        omega (
          arith,
          sum_by_push (if_waiting log (weight (told ++ took 0 b claims ∷ []))) all b,
          own,
          weight_own,
          none,
          sum_same (if_waiting log (weight (told ++ took 0 b claims ∷ []))) (if_waiting log (weight told)) all (λ m x at. weight_other log x (is_other m x at)),
        )

-- a new body has no claims on it yet
pub fresh : (told : List Told) (b : Body) → list_any (λ y. same_body y b) (flat_map taken told) ≡ false → list_all is_event (flat_map taken told) ≡ true → claims_on told b ≡ []
unfolding claims_on
fresh [] b new all = refl
fresh (took reader c claims ∷ told) b new all =
    let parts = and_parts (is_event c) (list_all is_event (flat_map taken told)) all in
    let event : is_receipt c.event ≡ false = not-true _ parts.0 in
    let apart : same_body c b ≡ false = elim (cases_Bool (same_body c b)) [ inl k ↦ (let no : true ≡ false = rw k at new in cc) | inr k ↦ k ] in
    let rest : list_any (λ y. same_body y b) (flat_map taken told) ≡ false = rw apart at new in
    rw (apart, event) (fresh told b rest parts.1)
fresh (heard reader c key sig verdict ∷ told) b new all = fresh told b new all

pub signatures_fresh : (base : List Body) (told : List Told) (b : Body) → is_in (bodies base told) b ≡ false → list_all is_event (base ++ flat_map taken told) ≡ true → signatures_on told b ≡ 0
unfolding bodies
signatures_fresh base told b outside all =
    let new : list_any (λ y. same_body y b) (base ++ flat_map taken told) ≡ false = sym (any-distinct same_body same_body-moves b (base ++ flat_map taken told)) ∙ outside in
    ap signatures_in (fresh told b (behind base new) (all_behind base (flat_map taken told) all))
  where
    behind : (xs : List Body) → list_any (λ y. same_body y b) (xs ++ flat_map taken told) ≡ false → list_any (λ y. same_body y b) (flat_map taken told) ≡ false
    behind [] h = h
    behind (x ∷ xs) h = behind xs (elim (cases_Bool (same_body x b)) as (λ _. list_any (λ y. same_body y b) (xs ++ flat_map taken told) ≡ false) [
      | inl k ↦ (let no : true ≡ false = rw k at h in cc)
      | inr k ↦ rw k at h
    ])

-- a verdict leaves all as it is
module _ (told : List Told) (b : Body) (key : Key) (sig : Sig) (verdict : Bool) where
  signatures_heard : (x : Body) → signatures_on (told ++ heard 0 b key sig verdict ∷ []) x ≡ signatures_on told x
  signatures_heard x = ap signatures_in (claims_heard told 0 b key sig verdict x)

  pub all_heard : (all : List Body) → map (signatures_on (told ++ heard 0 b key sig verdict ∷ [])) all ≡ map (signatures_on told) all
  all_heard all = map_same (signatures_on (told ++ heard 0 b key sig verdict ∷ [])) (signatures_on told) all (λ m x at. signatures_heard x)

  pub reserve_heard : (log all : List Body) → reserve (told ++ heard 0 b key sig verdict ∷ []) log all ≡ reserve told log all
  reserve_heard log all = sum_same (if_waiting log (weight (told ++ heard 0 b key sig verdict ∷ []))) (if_waiting log (weight told)) all
      (λ m x at. ap (λ n. if is_waiting log x then length x.bytes + 13 + 92 * n else 0) (signatures_heard x))

-- so many signatures stand on a body at most
filter_map_short : (claims : List Claim) → signatures_in claims ≤ length claims
filter_map_short [] = omega arith
filter_map_short (Controller s ∷ claims) = omega (arith, filter_map_short claims)
filter_map_short (Witness s ∷ claims) = omega (arith, filter_map_short claims)
filter_map_short (Couple key sig ∷ claims) = omega (arith, filter_map_short claims)

claims_few : (told : List Told) (b : Body) → length (claims_on told b) ≤ length (flat_map all_claims told)
unfolding claims_on
claims_few [] b = omega arith
claims_few (took reader c claims ∷ told) b = omega (arith, length-append (claims_in b (took reader c claims)) (flat_map (claims_in b) told), length-append claims (flat_map all_claims told), claims_few told b, one)
  where
    one : length (claims_in b (took reader c claims)) ≤ length claims
    one = elim (cases_Bool (same_body c b || is_receipt_for c b)) [ inl k ↦ rw k (omega arith) | inr k ↦ rw k (omega arith) ]
claims_few (heard reader c key sig verdict ∷ told) b = claims_few told b

pub signatures_few : (told : List Told) (b : Body) (claims : List Claim) → signatures_on told b + signatures_in claims ≤ length (flat_map all_claims told) + length claims
signatures_few told b claims = omega (arith, filter_map_short (claims_on told b), claims_few told b, filter_map_short claims)
