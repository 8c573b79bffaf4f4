-- Keys that are added one after another, and the backers of a body.
use Rattle.std.proofs.Common.{◌≡◌, Bool, true, false, ◌&&◌, ◌||◌, not, List, [], ◌∷◌, refl, sym, ◌∙◌, ap, inl, inr}
use Rattle.std.specs.Prelude.{filter, map, flat_map, bytes_eq}
use Rattle.std.specs.List.{list_any}
use Rattle.std.proofs.Math.Bool.{or_assoc, or-false}
use Rattle.std.proofs.lemmas.Bool.{cases_Bool, and_parts, not-true}
use Rattle.cesr_codes.specs.declared.key.Key.{Key}
use Rattle.key_state.specs.Same.{same_key, has_key, distinct, is_fixed, are_witnesses}
use Rattle.journal.specs.Journal.History.{Told, Triple, yes_in}
use Rattle.journal.specs.declared.journal.body.Body.{Body}
use Rattle.journal.specs.Journal.Readiness.{backs, backers}
use Rattle.event_backing.specs.Backing.{Backing, none_added, with_added, with_each, keys_on}
use Rattle.event_backing.proofs.Keys.{same_key-turned, filter_alike, has_key-filter, filter_none}

-- a backing whose added witnesses are those that pass a test
abbrev passing : List Key → (Key → Bool) → Backing
passing list p = record { list = list; added = filter p list }

with_added-passing : (key : Key) (list : List Key) (p : Key → Bool) → with_added key (passing list p) ≡ passing list (λ w. p w || same_key w key)
with_added-passing key list p =
    let e : filter (λ w. has_key (filter p list) w || same_key w key) list ≡ filter (λ w. p w || same_key w key) list
    = filter_alike _ _ list (λ w k. ap (λ b. b || same_key w key) (has_key-filter p list w ∙ rw k refl)) in
    λ i. record { list = list; added = e i }

with_each-passing : (keys list : List Key) (p : Key → Bool) → (with_each keys (passing list p)).added ≡ filter (λ w. p w || has_key keys w) list
with_each-passing [] list p = filter_alike _ _ list (λ w k. sym (or-false (p w)))
with_each-passing (key ∷ keys) list p =
    ap (λ b. (with_each keys b).added) (with_added-passing key list p)
    ∙ with_each-passing keys list (λ w. p w || same_key w key)
    ∙ filter_alike _ _ list (λ w k. or_assoc (p w) (same_key w key) (has_key keys w) ∙ ap (λ b. p w || (b || has_key keys w)) (same_key-turned w key))

none_added-passing : (list : List Key) → none_added list ≡ passing list (λ w. false)
none_added-passing list = λ i. record { list = list; added = sym (filter_none list) i }

-- the added witnesses are the members that are among the keys
pub added-each : (list keys : List Key) → (with_each keys (none_added list)).added ≡ filter (has_key keys) list
added-each list keys = ap (λ b. (with_each keys b).added) (none_added-passing list) ∙ with_each-passing keys list (λ w. false)

-- a witness backs a body where it is among the keys of the signatures on it to which a verdict says yes
backs-keys : (told : List Told) (b : Body) (w : Key) → backs told b w ≡ has_key (keys_on told b) w
unfolding backs
backs-keys told b w = go (flat_map yes_in told)
  where
    go : (ts : List Triple) → list_any (λ t. bytes_eq t.body b.bytes && same_key t.key w) ts ≡ has_key (map (λ t. t.key) (filter (λ t. bytes_eq t.body b.bytes) ts)) w
    go [] = refl
    go (t ∷ ts) = elim (cases_Bool (bytes_eq t.body b.bytes)) [
      | inl y ↦ rw y (ap (λ b. same_key t.key w || b) (go ts))
      | inr n ↦ rw n (go ts)
    ]

filter_all : (k : Key) (xs : List Key) → has_key xs k ≡ false → filter (λ x. not (same_key k x)) xs ≡ xs
filter_all k [] h = refl
filter_all k (x ∷ xs) h = elim (cases_Bool (same_key x k)) [
  | inl s ↦ cc (rw s at h)
  | inr s ↦ (let turned : same_key k x ≡ false = same_key-turned k x ∙ s in rw turned (ap (λ ks. x ∷ ks) (filter_all k xs (rw s at h))))
]

-- witnesses are distinct
distinct-witnesses : (list : List Key) → are_witnesses list ≡ true → distinct same_key list ≡ list
unfolding distinct
distinct-witnesses [] h = refl
distinct-witnesses (k ∷ keys) h =
    let parts = and_parts (is_fixed k.code && not (has_key keys k)) (are_witnesses keys) h in
    let here = and_parts (is_fixed k.code) (not (has_key keys k)) parts.0 in
    ap (λ ks. k ∷ filter (λ x. not (same_key k x)) ks) (distinct-witnesses keys parts.1) ∙ ap (λ ks. k ∷ ks) (filter_all k keys (not-true _ here.1))

-- the added witnesses are those that back the body
pub added-backers : (told : List Told) (list : List Key) (b : Body) → are_witnesses list ≡ true → (with_each (keys_on told b) (none_added list)).added ≡ backers told list b
unfolding backers
added-backers told list b h =
    added-each list (keys_on told b)
    ∙ filter_alike _ _ list (λ w k. sym (backs-keys told b w))
    ∙ ap (filter (backs told b)) (sym (distinct-witnesses list h))
