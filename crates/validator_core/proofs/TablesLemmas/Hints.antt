-- Hints after each change of the lists.
use Rattle.std.proofs.Common.{◌≡◌, ℕ, suc, ◌<◌, ◌≤◌, Bool, false, List, [], ◌∷◌, ◌++◌, length, take, drop, sym, ◌∙◌, ap, subst, inl, inr, arith, Some, None, nat_lt, nat_le}
use Rattle.std.specs.Prelude.{Contains, slice_get, ◌==◌, ◌&&◌, if◌then◌else◌}
use Rattle.std.specs.List.{list_any}
use Rattle.std.proofs.lemmas.Bool.{cases_lt}
use Rattle.std.proofs.lemmas.List.{length-append, length-take-le, take-append-le, take_all}
use Rattle.std.proofs.lemmas.Option.{slice_get_within}
use Rattle.escrow.specs.Escrow.Escrow.{Escrow, held as held_by}
use Rattle.journal.specs.declared.journal.body.Body.{Body}
use Rattle.journal.specs.declared.journal.claim.Claim.{Claim}
use Rattle.journal.specs.declared.journal.entry.Entry.{Entry}
use Rattle.journal.specs.declared.journal.entry.Entry.TheVariants.{Took}
use Rattle.validator_core.specs.declared.tables.name.Name.{Name}
use Rattle.validator_core.specs.declared.tables.name.SealKey.{SealKey}
use Rattle.validator_core.specs.declared.tables.name.ClaimKey.{ClaimKey}
use Rattle.validator_core.specs.Tables.Hints.{AreHinted, IsNameNew, IsSealedAt, KeepsBelow}
use Rattle.validator_core.specs.Tables.Names.{name_of, claim_key}
use Rattle.validator_core.specs.Tables.Rows.{placed, waiter_for}
use Rattle.validator_core.specs.Tables.View.{number_of, waiter_at}
use Rattle.validator_core.proofs.TablesLemmas.Rows.{none_below, not_some, pushed, front_of_front, some_is}
use Rattle.lists.proofs.ListsLemmas.Places.{of_front}
use Rattle.validator_core.proofs.TablesLemmas.Waiters.{escrow_body, escrow_cut, escrow_released}

pub keeps_itself : {K : Type 0} (n : ℕ) (f : K → List ℕ) → KeepsBelow n f f
keeps_itself n f q k low h = h

pub hinted_nothing : (w : Escrow) (names told places : Name → List ℕ) (came : ClaimKey → List ℕ) (seals : SealKey → List ℕ) → ((n : ℕ) → held_by n w ≡ None) → AreHinted [] [] [] 0 w names told places came seals false
unfolding waiter_at
hinted_nothing w names told places came seals empty = record {
  named = λ n b at. absurd (not_some b at);
  told = λ i reader n claims b at held. absurd (not_some _ at);
  came = λ i reader n claims c at in_it. absurd (not_some _ at);
  accepted = λ i n b at held. absurd (not_some _ at);
  sealed = λ i n b at held. absurd (not_some _ at);
  escrow = empty;
  entries_held = λ i e at. absurd (not_some e at);
  accepted_held = λ i n at. absurd (not_some n at);
  released_held = omega arith;
  few = omega arith;
  once = λ clear i j n m b c at. absurd (not_some n at);
}

module _ {held : List Body} {entries : List Entry} {numbers : List ℕ} {released : ℕ} {w : Escrow} {names told places : Name → List ℕ} {came : ClaimKey → List ℕ} {seals : SealKey → List ℕ} {clash : Bool} (h : AreHinted held entries numbers released w names told places came seals clash) where
  -- hints that keep the numbers of the rows
  module _ (new : Escrow) (names_new told_new places_new : Name → List ℕ) (came_new : ClaimKey → List ℕ) (seals_new : SealKey → List ℕ)
      (waits : (n : ℕ) → held_by n new ≡ held_by n w) (kept_names : KeepsBelow (length held) names names_new) (kept_told : KeepsBelow (length entries) told told_new)
      (kept_places : KeepsBelow (length numbers) places places_new) (kept_came : KeepsBelow (length entries) came came_new) (kept_seals : KeepsBelow (length numbers) seals seals_new) where
    pub hinted_kept : AreHinted held entries numbers released new names_new told_new places_new came_new seals_new clash
    hinted_kept = record {
      named = λ n b at. kept_names (name_of b.event) n (slice_get_within held n b at) (h.named n b at);
      told = λ i reader n claims b at there. kept_told (name_of b.event) i (slice_get_within entries i _ at) (h.told i reader n claims b at there);
      came = λ i reader n claims c at in_it. kept_came (claim_key n c) i (slice_get_within entries i _ at) (h.came i reader n claims c at in_it);
      accepted = λ i n b at there. kept_places (name_of b.event) i (slice_get_within numbers i n at) (h.accepted i n b at there);
      sealed = λ i n b at there seal is holds. kept_seals _ i (slice_get_within numbers i n at) (h.sealed i n b at there seal is holds);
      escrow = λ n. waits n ∙ h.escrow n;
      entries_held = h.entries_held;
      accepted_held = h.accepted_held;
      released_held = h.released_held;
      few = h.few;
      once = h.once;
    }

  -- it may be said that names clash where they don't
  pub hinted_clash : (clash_new : Bool) → (clash_new ≡ false → clash ≡ false) → AreHinted held entries numbers released w names told places came seals clash_new
  hinted_clash clash_new clear = record {
    named = h.named;
    told = h.told;
    came = h.came;
    accepted = h.accepted;
    sealed = h.sealed;
    escrow = h.escrow;
    entries_held = h.entries_held;
    accepted_held = h.accepted_held;
    released_held = h.released_held;
    few = h.few;
    once = λ now. h.once (clear now);
  }

  -- what left the escrow isn't the next body
  next_waits : list_any (λ m. m == length held) (take released numbers) ≡ false
  next_waits = none_below (take released numbers) (length held) (λ i m at. h.accepted_held i m (of_front numbers released i m at))

  longer : (b : Body) → length (held ++ b ∷ []) ≡ suc (length held)
  longer b = let long = length-append held (b ∷ []) in omega (arith, long)

  -- one more body
  pub hinted_body : (b : Body) (new : Escrow) (names_new : Name → List ℕ) → length held < 4294967296 → Contains (names_new (name_of b.event)) (length held) → KeepsBelow (length held) names names_new
      → ((n : ℕ) → held_by n new ≡ placed (waiter_for (length held) b.event) n (held_by n w)) → AreHinted (held ++ b ∷ []) entries numbers released new names_new told places came seals clash
  hinted_body b new names_new room added kept put = record {
    named = λ n x at. elim (pushed held b x n at) [
      | inl (last, same) ↦ subst (λ y. Contains (names_new (name_of y.event)) n) same (subst (Contains (names_new (name_of b.event))) (sym last) added)
      | inr before ↦ kept (name_of x.event) n (slice_get_within held n x before) (h.named n x before)
    ];
    told = λ i reader n claims x at there. h.told i reader n claims x at (stays i _ at n there);
    came = h.came;
    accepted = λ i n x at there. h.accepted i n x at (still i n at x there);
    sealed = λ i n x at there. h.sealed i n x at (still i n at x there);
    escrow = escrow_body w new held (take released numbers) b next_waits h.escrow put;
    entries_held = λ i e at. let low = h.entries_held i e at in let long = longer b in omega (arith, low, long);
    accepted_held = λ i n at. let low = h.accepted_held i n at in let long = longer b in omega (arith, low, long);
    released_held = h.released_held;
    few = let long = longer b in omega (arith, long, room);
    once = λ clear i j n m x y at there at_j there_j same. h.once clear i j n m x y at (still i n at x there) at_j (still j m at_j y there_j) same;
  }
    where
      earlier : (n : ℕ) (x : Body) → n < length held → slice_get (held ++ b ∷ []) n ≡ Some x → slice_get held n ≡ Some x
      earlier n x low at = elim (pushed held b x n at) [ inl (last, same) ↦ absurd (omega (arith, low, last)) | inr before ↦ before ]

      stays : (i : ℕ) (e : Entry) → slice_get entries i ≡ Some e → (n : ℕ) {x : Body} → slice_get (held ++ b ∷ []) (number_of e) ≡ Some x → slice_get held (number_of e) ≡ Some x
      stays i e at n {x} there = earlier (number_of e) x (h.entries_held i e at) there

      still : (i n : ℕ) → slice_get numbers i ≡ Some n → (x : Body) → slice_get (held ++ b ∷ []) n ≡ Some x → slice_get held n ≡ Some x
      still i n at x there = earlier n x (h.accepted_held i n at) there

  -- one more entry
  pub hinted_took : (b : Body) (reader number : ℕ) (claims : List Claim) (told_new : Name → List ℕ) (came_new : ClaimKey → List ℕ) → slice_get held number ≡ Some b
      → Contains (told_new (name_of b.event)) (length entries) → KeepsBelow (length entries) told told_new
      → ((c : Claim) → Contains claims c → Contains (came_new (claim_key number c)) (length entries)) → KeepsBelow (length entries) came came_new
      → AreHinted held (entries ++ Took reader number claims ∷ []) numbers released w names told_new places came_new seals clash
  hinted_took b reader number claims told_new came_new there added kept each kept_came = record {
    named = h.named;
    told = λ i r n cs x at held_at. elim (pushed entries (Took reader number claims) (Took r n cs) i at) [
      | inl (last, same) ↦ (let one : number ≡ n = cc in let body : b ≡ x = some_is b x (sym there ∙ ap (slice_get held) one ∙ held_at) in
          subst (λ y. Contains (told_new (name_of y.event)) i) body (subst (Contains (told_new (name_of b.event))) (sym last) added))
      | inr before ↦ kept (name_of x.event) i (slice_get_within entries i _ before) (h.told i r n cs x before held_at)
    ];
    came = λ i r n cs c at in_it. elim (pushed entries (Took reader number claims) (Took r n cs) i at) [
      | inl (last, same) ↦ (let one : number ≡ n = cc in let those : claims ≡ cs = cc in
          subst (λ m. Contains (came_new (claim_key m c)) i) one (subst (Contains (came_new (claim_key number c))) (sym last) (each c (subst (λ xs. Contains xs c) (sym those) in_it))))
      | inr before ↦ kept_came (claim_key n c) i (slice_get_within entries i _ before) (h.came i r n cs c before in_it)
    ];
    accepted = h.accepted;
    sealed = h.sealed;
    escrow = h.escrow;
    entries_held = λ i e at. elim (pushed entries (Took reader number claims) e i at) [
      | inl (last, same) ↦ subst (λ x. number_of x < length held) same (slice_get_within held number b there)
      | inr before ↦ h.entries_held i e before
    ];
    accepted_held = h.accepted_held;
    released_held = h.released_held;
    few = h.few;
    once = h.once;
  }

  pub hinted_heard : (heard : Entry) → ((r n : ℕ) (cs : List Claim) → heard ≡ Took r n cs → ⊥) → number_of heard < length held → AreHinted held (entries ++ heard ∷ []) numbers released w names told places came seals clash
  hinted_heard heard other there = record {
    named = h.named;
    told = λ i r n cs x at held_at. elim (pushed entries heard (Took r n cs) i at) [
      | inl (last, same) ↦ absurd (other r n cs same)
      | inr before ↦ h.told i r n cs x before held_at
    ];
    came = λ i r n cs c at in_it. elim (pushed entries heard (Took r n cs) i at) [
      | inl (last, same) ↦ absurd (other r n cs same)
      | inr before ↦ h.came i r n cs c before in_it
    ];
    accepted = h.accepted;
    sealed = h.sealed;
    escrow = h.escrow;
    entries_held = λ i e at. elim (pushed entries heard e i at) [
      | inl (last, same) ↦ subst (λ x. number_of x < length held) same there
      | inr before ↦ h.entries_held i e before
    ];
    accepted_held = h.accepted_held;
    released_held = h.released_held;
    few = h.few;
    once = h.once;
  }

  -- one more accepted event
  pub hinted_accepted : (b : Body) (number : ℕ) (places_new : Name → List ℕ) (seals_new : SealKey → List ℕ) → slice_get held number ≡ Some b
      → Contains (places_new (name_of b.event)) (length numbers) → KeepsBelow (length numbers) places places_new
      → IsSealedAt seals_new b.event (length numbers) → KeepsBelow (length numbers) seals seals_new
      → (clash_new : Bool) → (clash_new ≡ false → (clash ≡ false) × IsNameNew held numbers (name_of b.event))
      → AreHinted held entries (numbers ++ number ∷ []) released w names told places_new came seals_new clash_new
  hinted_accepted b number places_new seals_new there added kept sealed kept_seals clash_new clear = record {
    named = h.named;
    told = h.told;
    came = h.came;
    accepted = λ i n x at held_at. elim (pushed numbers number n i at) [
      | inl (last, same) ↦ (let body : b ≡ x = some_is b x (sym there ∙ ap (slice_get held) same ∙ held_at) in
          subst (λ y. Contains (places_new (name_of y.event)) i) body (subst (Contains (places_new (name_of b.event))) (sym last) added))
      | inr before ↦ kept (name_of x.event) i (slice_get_within numbers i n before) (h.accepted i n x before held_at)
    ];
    sealed = λ i n x at held_at. elim (pushed numbers number n i at) [
      | inl (last, same) ↦ (let body : b ≡ x = some_is b x (sym there ∙ ap (slice_get held) same ∙ held_at) in
          subst (λ y. IsSealedAt seals_new y.event i) body (subst (IsSealedAt seals_new b.event) (sym last) sealed))
      | inr before ↦ λ seal is holds. kept_seals _ i (slice_get_within numbers i n before) (h.sealed i n x before held_at seal is holds)
    ];
    escrow = λ n. h.escrow n ∙ ap (λ done. waiter_at done n (slice_get held n)) (sym (take-append-le released numbers (number ∷ []) h.released_held));
    entries_held = h.entries_held;
    accepted_held = λ i n at. elim (pushed numbers number n i at) [
      | inl (last, same) ↦ subst (λ m. m < length held) same (slice_get_within held number b there)
      | inr before ↦ h.accepted_held i n before
    ];
    released_held = let low = h.released_held in let long = length-append numbers (number ∷ []) in omega (arith, low, long);
    few = h.few;
    once = λ now i j n m x y at held_at at_j held_at_j same. elim (pushed numbers number n i at) [
      | inl (last, is) ↦ (let body : b ≡ x = some_is b x (sym there ∙ ap (slice_get held) is ∙ held_at) in elim (pushed numbers number m j at_j) [
        | inl (last_j, is_j) ↦ last ∙ sym last_j
        | inr before_j ↦ absurd ((clear now).1 j m y before_j held_at_j (sym same ∙ ap (λ z. name_of z.event) (sym body)))
      ])
      | inr before ↦ elim (pushed numbers number m j at_j) [
        | inl (last_j, is_j) ↦ (let body : b ≡ y = some_is b y (sym there ∙ ap (slice_get held) is_j ∙ held_at_j) in
            absurd ((clear now).1 i n x before held_at (same ∙ ap (λ z. name_of z.event) (sym body))))
        | inr before_j ↦ h.once (clear now).0 i j n m x y before held_at before_j held_at_j same
      ]
    ];
  }

  -- the accepted events have left the escrow
  pub hinted_released : (new : Escrow) → ((n : ℕ) → held_by n new ≡ (if list_any (λ m. m == n) (drop released numbers) then None else held_by n w)) → AreHinted held entries numbers (length numbers) new names told places came seals clash
  hinted_released new left = record {
    named = h.named;
    told = h.told;
    came = h.came;
    accepted = h.accepted;
    sealed = h.sealed;
    escrow = escrow_released w new held numbers released h.escrow left;
    entries_held = h.entries_held;
    accepted_held = h.accepted_held;
    released_held = omega arith;
    few = h.few;
    once = h.once;
  }

  -- the lists are cut back
  pub hinted_cut : (bodies count places_count : ℕ) (new : Escrow) → ((i : ℕ) (e : Entry) → slice_get (take count entries) i ≡ Some e → number_of e < bodies)
      → ((i n : ℕ) → slice_get (take places_count numbers) i ≡ Some n → n < bodies) → released ≤ places_count
      → ((n : ℕ) → held_by n new ≡ (if nat_le bodies n && nat_lt n (length held) then None else held_by n w))
      → AreHinted (take bodies held) (take count entries) (take places_count numbers) released new names told places came seals clash
  hinted_cut bodies count places_count new entries_low places_low released_low left = record {
    named = λ n b at. h.named n b (of_front held bodies n b at);
    told = λ i r n cs x at there. h.told i r n cs x (of_front entries count i _ at) (of_front held bodies n x there);
    came = λ i r n cs c at in_it. h.came i r n cs c (of_front entries count i _ at) in_it;
    accepted = λ i n x at there. h.accepted i n x (of_front numbers places_count i n at) (of_front held bodies n x there);
    sealed = λ i n x at there. h.sealed i n x (of_front numbers places_count i n at) (of_front held bodies n x there);
    escrow = λ n. escrow_cut w new held (take released numbers) bodies h.escrow left n ∙ ap (λ done. waiter_at done n (slice_get (take bodies held) n)) (sym (front_of_front released places_count numbers released_low));
    entries_held = λ i e at. within (number_of e) (entries_low i e at) (h.entries_held i e (of_front entries count i e at));
    accepted_held = λ i n at. within n (places_low i n at) (h.accepted_held i n (of_front numbers places_count i n at));
    released_held = elim (cases_lt places_count (length numbers)) [
      | inl less ↦ (let long = length-take-le places_count numbers (omega (arith, less)) in omega (arith, long, released_low))
      | inr whole ↦ (let all = ap length (take_all places_count numbers whole) in let low = h.released_held in omega (arith, all, low))
    ];
    few = elim (cases_lt bodies (length held)) [
      | inl less ↦ (let long = length-take-le bodies held (omega (arith, less)) in let low = h.few in omega (arith, long, low, less))
      | inr whole ↦ (let all = ap length (take_all bodies held whole) in let low = h.few in omega (arith, all, low))
    ];
    once = λ clear i j n m x y at there at_j there_j same. h.once clear i j n m x y (of_front numbers places_count i n at) (of_front held bodies n x there)
        (of_front numbers places_count j m at_j) (of_front held bodies m y there_j) same;
  }
    where
      within : (n : ℕ) → n < bodies → n < length held → n < length (take bodies held)
      within n low there = elim (cases_lt bodies (length held)) [
        | inl less ↦ (let long = length-take-le bodies held (omega (arith, less)) in omega (arith, long, low))
        | inr whole ↦ (let all = ap length (take_all bodies held whole) in omega (arith, all, there))
      ]
