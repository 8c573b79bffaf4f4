-- Bodies and claims of journals, by membership; and what the fitting of an event says.
use Rattle.std.proofs.Common.{◌≡◌, Bool, true, false, not, ◌&&◌, List, [], ◌∷◌, ◌++◌, refl, sym, ◌∙◌, ap, subst, inl, inr}
use Rattle.std.specs.Prelude.{flat_map, is_none, Option, Some, None}
use Rattle.std.specs.List.{list_all}
use Rattle.std.specs.Cmp.Lexicographic.{bytes_decides}
use Rattle.std.proofs.lemmas.Bool.{and_parts, not-true}
use Rattle.std.proofs.lemmas.List.Concat.{flat_map-append}
use Rattle.event_body.specs.EventBody.Events.{prefix_of, is_receipt}
use Rattle.key_state.specs.Same.{distinct}
use Rattle.journal.specs.declared.journal.body.Body.{Body}
use Rattle.journal.specs.declared.journal.claim.Claim.{Claim}
use Rattle.journal.specs.Journal.Grown.{fits}
use Rattle.journal.specs.Journal.History.{Told, bodies, claims_in, claims_on, taken}
use Rattle.journal.specs.Journal.Logs.{is_in, same_body, state, takes}
use Rattle.journal.proofs.JournalLemmas.Different.{Differ, differ-distinct}
use Rattle.key_state.proofs.Among.{Among, among_left, among_left_by, left_among}

-- what all pass each member passes
all_pass : {X : Type 0} (q : X → Bool) (xs : List X) (x : X) → list_all q xs ≡ true → Among x xs → q x ≡ true
all_pass q [] x h m = absurd m
all_pass q (y ∷ ys) x h (inl e) = ap q (sym e) ∙ (and_parts (q y) (list_all q ys) h).0
all_pass q (y ∷ ys) x h (inr m) = all_pass q ys x (and_parts (q y) (list_all q ys) h).1 m

-- bodies that differ pairwise are one where their bytes are
pub same_bytes : (xs : List Body) (b c : Body) → Differ same_body xs → Among b xs → Among c xs → b.bytes ≡ c.bytes → b ≡ c
same_bytes [] b c d m n e = absurd m
same_bytes (x ∷ xs) b c d (inl h) (inl k) e = sym h ∙ k
same_bytes (x ∷ xs) b c d (inl h) (inr n) e =
    let other = not-true _ (all_pass (λ y. not (same_body x y)) xs c d.0 n) in
    let same : same_body x c ≡ true = (bytes_decides x.bytes c.bytes).1 (ap (λ y. y.bytes) h ∙ e) in cc
same_bytes (x ∷ xs) b c d (inr m) (inl k) e =
    let other = not-true _ (all_pass (λ y. not (same_body x y)) xs b d.0 m) in
    let same : same_body x b ≡ true = (bytes_decides x.bytes b.bytes).1 (ap (λ y. y.bytes) k ∙ sym e) in cc
same_bytes (x ∷ xs) b c d (inr m) (inr n) e = same_bytes xs b c d.1 m n e

pub bodies_differ : (told : List Told) → Differ same_body (bodies [] told)
unfolding bodies
bodies_differ told = differ-distinct same_body (flat_map taken told)

-- first comings of a list are among those of a longer one
distinct_longer : {X : Type 0} (same : X → X → Bool) (xs ys : List X) (x : X) → Among x (distinct same xs) → Among x (distinct same (xs ++ ys))
unfolding distinct
distinct_longer same [] ys x m = absurd m
distinct_longer same (z ∷ xs) ys x (inl e) = inl e
distinct_longer same (z ∷ xs) ys x (inr m) =
    let l = left_among (λ y. not (same z y)) (distinct same xs) x m in
    inr (among_left_by (λ y. not (same z y)) (distinct same (xs ++ ys)) x (distinct_longer same xs ys x l.0) l.1)

pub bodies_more : (earlier later : List Told) (b : Body) → Among b (bodies [] earlier) → Among b (bodies [] (earlier ++ later))
unfolding bodies
bodies_more earlier later b m =
    let e = flat_map-append taken earlier later in
    subst (λ xs. Among b (distinct same_body xs)) (sym e) (distinct_longer same_body (flat_map taken earlier) (flat_map taken later) b m)

pub claims_more : (earlier later : List Told) (b : Body) (c : Claim) → Among c (claims_on earlier b) → Among c (claims_on (earlier ++ later) b)
unfolding claims_on
claims_more earlier later b c m =
    let e = flat_map-append (claims_in b) earlier later in
    subst (λ xs. Among c xs) (sym e) (among_left (flat_map (claims_in b) earlier) (flat_map (claims_in b) later) c m)

-- what the fitting of a body says
pub fit_parts : (log : List Body) (b : Body) → fits log b ≡ true
    → (is_receipt b.event ≡ false) × (is_in log b ≡ false) × (takes (state log (prefix_of b.event)) b.event ≡ true)
unfolding fits
fit_parts log b h =
    let parts = and_parts (not (is_receipt b.event) && not (is_in log b)) (takes (state log (prefix_of b.event)) b.event) h in
    let first = and_parts (not (is_receipt b.event)) (not (is_in log b)) parts.0 in
    (not-true _ first.0, not-true _ first.1, parts.1)

pub none_is : {X : Type 0} (o : Option X) → is_none o ≡ true → o ≡ None
none_is None h = refl
none_is (Some x) h = cc
