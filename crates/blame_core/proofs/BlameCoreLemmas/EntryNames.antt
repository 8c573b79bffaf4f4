-- The signatures on a body by the entries with its name are all that there are.
use Rattle.std.proofs.Common.{◌≡◌, ℕ, ◌+◌, ◌<◌, ◌==◌, ◌&&◌, Bool, List, [], ◌∷◌, ◌++◌, length, map, Option, Some, None, refl, sym, ◌∙◌, ap, subst, arith, inl, inr, option_map}
use Rattle.std.specs.Prelude.{Contains, flat_map, bytes_eq, slice_get, take}
use Rattle.std.specs.List.{list_any}
use Rattle.std.specs.List.Sorted.{IsStrictlyIncreasing}
use Rattle.std.specs.Cmp.Lexicographic.{bytes_decides}
use Rattle.std.proofs.lemmas.Bool.{cases_Bool, and_parts, eqb-true}
use Rattle.std.proofs.lemmas.Bool.Decides.{nat_tests}
use Rattle.std.proofs.lemmas.Option.{slice_get_within}
use Rattle.cesr_codes.specs.declared.key.Key.{Key}
use Rattle.cesr_codes.specs.declared.sig.Sig.{Sig}
use Rattle.validator_core.specs.Tables.Names.{name_of}
use Rattle.validator_core.specs.Tables.Raised.{claims_at, claims_of}
use Rattle.validator_core.specs.Tables.View.{number_of}
use Rattle.validator_core.specs.declared.tables.name.Name.{Name}
use Rattle.validator_core.proofs.TablesLemmas.GatheredLists.{flat_map-numbers}
use Rattle.validator_core.proofs.TablesLemmas.ToldClaims.{told_claims}
use Rattle.event_body.specs.declared.event_body.event.Event.{Event}
use Rattle.journal.specs.declared.journal.body.Body.{Body}
use Rattle.journal.specs.declared.journal.claim.Claim.{Claim}
use Rattle.journal.specs.declared.journal.entry.Entry.{Entry}
use Rattle.journal.specs.declared.journal.entry.Entry.TheVariants.{Took, Heard}
use Rattle.journal.specs.Journal.History.{Told, took, heard, bodies, claimed_sig, said_yes, taken}
use Rattle.journal.specs.Journal.Journals.{told_by, whole}
use Rattle.journal.specs.Journal.Logs.{same_body}
use Rattle.journal.proofs.JournalLemmas.Different.{Differ, differ-distinct}
use Rattle.journal.proofs.JournalLemmas.Places.{one_body}
use Rattle.blame_core.specs.BlameLaws.Signatures.{came_on, triple_on}
use Rattle.blame_core.specs.BlameCore.NamedEntries.{AreNamed}
use Rattle.blame_core.specs.BlameCore.FirstSignatures.{is_signed}
use Rattle.blame_core.specs.BlameCore.Signatures.{came_at, came_with, good_at, good_in}
use Rattle.blame_core.proofs.BlameCoreLemmas.EntrySignatures.{good_all}
use Rattle.blame_core.proofs.BlameCoreLemmas.Lists.{map_flat}
use Rattle.validator_core.specs.ValidatorCore.View.{CoreView, IsSoundCore, told_of}

-- no entries yet
pub named_none : (held : List Body) (entries : List Entry) (at : Name → List ℕ) → AreNamed held entries 0 at
named_none held entries at = λ i e c low is there. absurd (omega (arith, low))

-- one entry more
pub named_more : (held : List Body) (entries : List Entry) (k : ℕ) (old new : Name → List ℕ) → AreNamed held entries k old
    → ((q : Name) (n : ℕ) → n < k → Contains (old q) n → Contains (new q) n)
    → ((e : Entry) (c : Body) → slice_get entries k ≡ Some e → slice_get held (number_of e) ≡ Some c → Contains (new (name_of c.event)) k)
    → AreNamed held entries (k + 1) new
named_more held entries k old new named kept added = λ i e c low is there. elim (cases_Bool (i == k)) [
  | inl h ↦ (let same : i ≡ k = eqb-true i k h in
      subst (λ j. Contains (new (name_of c.event)) j) (sym same) (added e c (subst (λ j. slice_get entries j ≡ Some e) same is) there))
  | inr h ↦ (let below : i < k = grind (arith, nat_tests, h, low) in kept (name_of c.event) i below (named i e c below is there))
]

-- the bodies of a core differ
pub held_differ : (core : CoreView) → IsSoundCore core → Differ same_body core.held
unfolding bodies
held_differ core stands = subst (Differ same_body) (sym stands.in_order) (differ-distinct same_body (take core.base core.held ++ flat_map taken (told_of core)))

-- the signatures of an entry are those of its claims
came_claims : (held : List Body) (b : Body) (o : Option Entry) → came_at held b o ≡ map claimed_sig (claims_at held b o)
came_claims held b None = refl
came_claims held b (Some e) = of (whole held e)
  where
    of : (o : Option Told) → came_with b o ≡ map claimed_sig (claims_of b o)
    of None = refl
    of (Some t) = refl

pointwise : {X Y : Type 0} (f g : X → List Y) → ((x : X) → f x ≡ g x) → (xs : List X) → flat_map f xs ≡ flat_map g xs
pointwise f g same [] = refl
pointwise f g same (x ∷ xs) = λ i. same x i ++ pointwise f g same xs i

module _ (held : List Body) (apart : Differ same_body held) (entries : List Entry) (at : Name → List ℕ) (named : AreNamed held entries (length entries) at)
    (n : ℕ) (b : Body) (is : slice_get held n ≡ Some b) (rising : IsStrictlyIncreasing (at (name_of b.event))) where
  within : (i : ℕ) (e : Entry) → slice_get entries i ≡ Some e → i < length entries
  within i e by = slice_get_within entries i e by

  -- CAME
  pub came_named : flat_map (λ i. came_at held b (slice_get entries i)) (at (name_of b.event)) ≡ came_on (told_by held entries) b
  came_named =
      pointwise (λ i. came_at held b (slice_get entries i)) (λ i. map claimed_sig (claims_at held b (slice_get entries i))) (λ i. came_claims held b (slice_get entries i)) (at (name_of b.event))
      ∙ sym (map_flat claimed_sig (λ i. claims_at held b (slice_get entries i)) (at (name_of b.event)))
      ∙ ap (map claimed_sig) (told_claims held apart n b is entries (at (name_of b.event)) rising
      (λ i reader m claims c by there name. subst (λ q. Contains (at q) i) name (named i (Took reader m claims) c (within i (Took reader m claims) by) by there)))

  by_body : (i reader m : ℕ) (key : Key) (sig : Sig) (verdict : Bool) (o : Option Body) → slice_get entries i ≡ Some (Heard reader m key sig verdict) → slice_get held m ≡ o
      → (good_in b.bytes (option_map (λ c. heard reader c key sig verdict) o) ≡ [] → ⊥) → Contains (at (name_of b.event)) i
  by_body i reader m key sig verdict None by there gives = absurd (gives refl)
  by_body i reader m key sig verdict (Some c) by there gives = elim (cases_Bool (verdict && bytes_eq c.bytes b.bytes)) [
    | inl k ↦ (let same = one_body held apart m n c b there is ((bytes_decides c.bytes b.bytes).0 (and_parts verdict (bytes_eq c.bytes b.bytes) k).1) in
        subst (λ c. Contains (at (name_of c.event)) i) same
        (named i (Heard reader m key sig verdict) c (within i (Heard reader m key sig verdict) by) by there))
    | inr k ↦ absurd (gives (rw k refl))
  ]

  none_took : (reader : ℕ) (claims : List Claim) (o : Option Body) → good_in b.bytes (option_map (λ c. took reader c claims) o) ≡ []
  none_took reader claims None = refl
  none_took reader claims (Some c) = refl

  each : (i : ℕ) (e : Entry) → slice_get entries i ≡ Some e → (good_at held b.bytes (Some e) ≡ [] → ⊥) → Contains (at (name_of b.event)) i
  each i (Took reader m claims) by gives = absurd (gives (none_took reader claims (slice_get held m)))
  each i (Heard reader m key sig verdict) by gives = by_body i reader m key sig verdict (slice_get held m) by refl gives

  -- GOOD
  pub good_named : (key : Key) (sig : Sig) → list_any (is_signed key sig) (flat_map (λ i. good_at held b.bytes (slice_get entries i)) (at (name_of b.event)))
      ≡ said_yes (told_by held entries) (triple_on b key sig)
  good_named key sig =
      ap (list_any (is_signed key sig)) (flat_map-numbers (good_at held b.bytes) refl entries (at (name_of b.event)) rising each)
      ∙ good_all held entries b key sig

-- the next entry, where its body is held, and where it isn't
module _ (held : List Body) (entries : List Entry) (k : ℕ) (old : Name → List ℕ) (named : AreNamed held entries k old) (one : Entry)
    (here : (e : Entry) → slice_get entries k ≡ Some e → one ≡ e) (m : ℕ) (is : m ≡ number_of one) where
  held_there : (e : Entry) (c : Body) → slice_get entries k ≡ Some e → slice_get held (number_of e) ≡ Some c → slice_get held m ≡ Some c
  held_there e c at there = ap (slice_get held) (is ∙ ap number_of (here e at)) ∙ there

  pub named_next : (new : Name → List ℕ) (event : Event) (name : Name) (number : ℕ) → number ≡ k → name ≡ name_of event
      → ((q : Name) (n : ℕ) → n < number → Contains (old q) n → Contains (new q) n) → Contains (new name) number
      → Some event ≡ option_map (λ (b : Body). b.event) (slice_get held m) → AreNamed held entries (k + 1) new
  named_next new event name number count name_is kept added event_is =
      named_more held entries k old new named (λ q n low inside. kept q n (subst (λ j. n < j) (sym count) low) inside)
      (λ e c at there.
      let own : Some event ≡ Some c.event = event_is ∙ ap (option_map (λ (b : Body). b.event)) (held_there e c at there) in
      let same : event ≡ c.event = cc in
      subst (λ j. Contains (new (name_of c.event)) j) count (subst (λ q. Contains (new q) number) (name_is ∙ ap name_of same) added))

  pub named_past : None ≡ option_map (λ (b : Body). b.event) (slice_get held m) → AreNamed held entries (k + 1) old
  named_past none =
      named_more held entries k old old named (λ q n low inside. inside)
      (λ e c at there.
      let no : None ≡ Some c.event = none ∙ ap (option_map (λ (b : Body). b.event)) (held_there e c at there) in cc)
