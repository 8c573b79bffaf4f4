-- What came and what was accepted, by membership.
use Rattle.std.proofs.Common.{◌≡◌, Bool, true, not, List, [], ◌∷◌, ◌++◌, Contains, sym, ◌∙◌, ap, subst, inl, inr, append_assoc, append-nil}
use Rattle.std.specs.Prelude.{flat_map}
use Rattle.std.specs.List.{list_all}
use Rattle.std.specs.Cmp.Lexicographic.{bytes_decides}
use Rattle.std.proofs.lemmas.Bool.{and_parts, not-true}
use Rattle.std.proofs.lemmas.List.Concat.{flat_map-append}
use Rattle.std.proofs.lemmas.List.Elements.{All-nil, All-contains, All-contains_itself, All-weaker}
use Rattle.key_state.specs.Same.{distinct}
use Rattle.journal.specs.declared.journal.body.Body.{Body}
use Rattle.journal.specs.declared.journal.claim.Claim.{Claim}
use Rattle.journal.specs.declared.journal.mode.Mode.{Mode}
use Rattle.journal.specs.Journal.Accepted.{accepted}
use Rattle.journal.specs.Journal.Grown.{IsGrown}
use Rattle.journal.specs.Journal.History.{Told, bodies, claims_in, claims_on, taken}
use Rattle.journal.specs.Journal.Logs.{same_body}
use Rattle.journal.specs.Journal.Readiness.{is_ready}
use Rattle.journal.proofs.JournalLemmas.Accepting.{accepted_extends}
use Rattle.journal.proofs.JournalLemmas.Different.{Differ, differ-distinct}
use Rattle.journal.proofs.JournalLemmas.Keeping.{accepted_ends, accepted_grown, accepted_keeps, split_push}
use Rattle.journal.proofs.JournalLemmas.Premises.{nothing_grown}
use Rattle.quorum_laws.proofs.Inside.{accepted_inside}
use Rattle.key_state.proofs.Among.{Among, among, among_left, among_left_by, contained, left_among, none_passes, parted}
use Rattle.journal_views.proofs.JournalLawsLemmas.Numbered.{AreEvents, fit_parts}

-- what all pass each member passes
pub all_pass : {X : Type 0} (q : X → Bool) (xs : List X) (x : X) → list_all q xs ≡ true → Among x xs → q x ≡ true
all_pass q [] x h m = absurd m
all_pass q (y ∷ ys) x h (inl e) = ap q (sym e) ∙ (and_parts (q y) (list_all q ys) h).0
all_pass q (y ∷ ys) x h (inr m) = all_pass q ys x (and_parts (q y) (list_all q ys) h).1 m

-- bodies that differ pairwise are one where their bytes are
pub same_bytes : (xs : List Body) (b c : Body) → Differ same_body xs → Among b xs → Among c xs → b.bytes ≡ c.bytes → b ≡ c
same_bytes [] b c d m n e = absurd m
same_bytes (x ∷ xs) b c d (inl h) (inl k) e = sym h ∙ k
same_bytes (x ∷ xs) b c d (inl h) (inr n) e =
    let other = not-true _ (all_pass (λ y. not (same_body x y)) xs c d.0 n) in
    let same : same_body x c ≡ true = (bytes_decides x.bytes c.bytes).1 (ap (λ y. y.bytes) h ∙ e) in cc
same_bytes (x ∷ xs) b c d (inr m) (inl k) e =
    let other = not-true _ (all_pass (λ y. not (same_body x y)) xs b d.0 m) in
    let same : same_body x b ≡ true = (bytes_decides x.bytes b.bytes).1 (ap (λ y. y.bytes) k ∙ sym e) in cc
same_bytes (x ∷ xs) b c d (inr m) (inr n) e = same_bytes xs b c d.1 m n e

pub bodies_differ : (told : List Told) → Differ same_body (bodies [] told)
unfolding bodies
bodies_differ told = differ-distinct same_body (flat_map taken told)

-- first comings of a list are among those of a longer one
distinct_longer : {X : Type 0} (same : X → X → Bool) (xs ys : List X) (x : X) → Among x (distinct same xs) → Among x (distinct same (xs ++ ys))
unfolding distinct
distinct_longer same [] ys x m = absurd m
distinct_longer same (z ∷ xs) ys x (inl e) = inl e
distinct_longer same (z ∷ xs) ys x (inr m) =
    let l = left_among (λ y. not (same z y)) (distinct same xs) x m in
    inr (among_left_by (λ y. not (same z y)) (distinct same (xs ++ ys)) x (distinct_longer same xs ys x l.0) l.1)

pub bodies_more : (earlier later : List Told) (b : Body) → Among b (bodies [] earlier) → Among b (bodies [] (earlier ++ later))
unfolding bodies
bodies_more earlier later b m =
    let e = flat_map-append taken earlier later in
    subst (λ xs. Among b (distinct same_body xs)) (sym e) (distinct_longer same_body (flat_map taken earlier) (flat_map taken later) b m)

pub claims_more : (earlier later : List Told) (b : Body) (c : Claim) → Among c (claims_on earlier b) → Among c (claims_on (earlier ++ later) b)
unfolding claims_on
claims_more earlier later b c m =
    let e = flat_map-append (claims_in b) earlier later in
    subst (λ xs. Among c xs) (sym e) (among_left (flat_map (claims_in b) earlier) (flat_map (claims_in b) later) c m)

module _ (mode : Mode) where
  pub grown : (told : List Told) → IsGrown (accepted mode [] told)
  grown told = accepted_grown mode [] told nothing_grown

  -- what is accepted came, and is an event
  pub accepted_came : (told : List Told) → AreEvents (bodies [] told) (accepted mode [] told)
  accepted_came told b m =
      let P : Body → Type 0 = λ b. Among b (bodies [] told) in
      let all = All-weaker (λ b. Contains (bodies [] told) b) P (λ b c. among (bodies [] told) b c) (bodies [] told) (All-contains_itself (bodies [] told)) in
      let inside = accepted_inside P mode [] told (All-nil P) all in
      let (front, later, split) = parted (accepted mode [] told) b m in
      (All-contains P (accepted mode [] told) b inside (contained (accepted mode [] told) b m), (fit_parts front b (grown told front later b split)).0)

  pub accepted_more : (earlier later : List Told) (b : Body) → Among b (accepted mode [] earlier) → Among b (accepted mode [] (earlier ++ later))
  accepted_more earlier later b m =
      let (new, e) = accepted_extends mode [] earlier later in
      subst (λ xs. Among b xs) (sym e) (among_left (accepted mode [] earlier) new b m)

  -- each accepted event was ready once, over those before it
  pub record WasReady (told : List Told) (front : List Body) (b : Body) : Type 0 where
    pub earlier : List Told
    pub later : List Told
    pub parts : told ≡ earlier ++ later
    pub ready : is_ready mode earlier front b ≡ true

  abbrev AllWere : List Told → List Body → Type 0
  AllWere told log = (front later : List Body) (b : Body) → log ≡ front ++ b ∷ later → WasReady told front b

  pub were_ready : (told : List Told) (front later : List Body) (b : Body) → accepted mode [] told ≡ front ++ b ∷ later → WasReady told front b
  were_ready told = accepted_keeps mode [] AllWere
      (λ told t log all front later b e. (let w = all front later b e in
      record { earlier = w.earlier; later = w.later ++ t ∷ []; parts = ap (λ xs. xs ++ t ∷ []) w.parts ∙ append_assoc w.earlier w.later (t ∷ []); ready = w.ready }))
      (λ told log b all r front later c e. elim (split_push log front later b c e) [
        | inl h ↦ record { earlier = told; later = []; parts = sym (append-nil told); ready = (rw (← h.0, ← h.1) r) }
        | inr h ↦ all front h.0 c h.1
      ])
      told nothing
    where
      nothing : AllWere [] []
      nothing [] later b e = cc
      nothing (c ∷ front) later b e = cc

  -- nothing that came is ready
  pub none_ready : (told : List Told) (b : Body) → Among b (bodies [] told) → is_ready mode told (accepted mode [] told) b ≡ true → ⊥
  none_ready told b m r = none_passes (is_ready mode told (accepted mode [] told)) (bodies [] told) b (accepted_ends mode [] told) m r
