-- The rounds of acceptance that an entry brings, and where bodies come from.
use Rattle.std.proofs.Common.{◌≡◌, Bool, List, [], ◌∷◌, ◌++◌, map, Contains, sym, ◌∙◌, subst, inl, inr, append_assoc, append-nil}
use Rattle.std.specs.Prelude.{All, flat_map}
use Rattle.std.proofs.lemmas.List.Elements.{All-contains, All-contains_itself, All-weaker}
use Rattle.journal.specs.declared.journal.body.Body.{Body}
use Rattle.journal.specs.declared.journal.mode.Mode.{Mode}
use Rattle.journal.specs.Journal.Acceptance.{Settles, more, rest}
use Rattle.journal.specs.Journal.Accepted.{accepted}
use Rattle.journal.specs.Journal.History.{Told, bodies, heard, taken, took}
use Rattle.journal.specs.Journal.Logs.{same_body}
use Rattle.quorum_laws.proofs.Inside.{accepted_inside}
use Rattle.key_state.proofs.Among.{Among, among, among_either, among_flat_map, among_left, among_map, among_right, contained, distinct_among, flat_map_among}
use Rattle.export_core.specs.ExportLaws.Families.{told_bodies, told_body}

-- what holds of each member
all_by : {X : Type 0} (P : X → Type 0) (xs : List X) → ((x : X) → Among x xs → P x) → All P xs
all_by P xs each = All-weaker (λ x. Contains xs x) P (λ x c. each x (among xs x c)) xs (All-contains_itself xs)

-- rounds extend the list
pub rounds_extend : {B : Type 0} {ready : List B → B → Bool} {all : List B} {log end : List B}
    → Settles ready all log end
    → (new : List B) × (end ≡ log ++ new)
rounds_extend (rest {accepted = log} e) = ([], sym (append-nil log))
rounds_extend (more {accepted = log} {b = b} e s) =
    let r = rounds_extend s in (b ∷ r.0, r.1 ∙ append_assoc log (b ∷ []) r.0)

-- the bodies that came
abbrev pub came : List Body → List Told → List Body
came base told = base ++ flat_map taken told

pub bodies_came : (base : List Body) (told : List Told) (b : Body) → Among b (bodies base told)
    → Among b (came base told)
unfolding bodies
bodies_came base told b m = distinct_among same_body (came base told) b m

pub accepted_from : (mode : Mode) (base : List Body) (told : List Told) (b : Body) → Among b (accepted mode base told)
    → Among b (came base told)
accepted_from mode base told b m =
    let P : Body → Type 0 = λ b. Among b (came base told) in
    let inside = accepted_inside P mode base told (all_by P base (λ b m. among_left base (flat_map taken told) b m))
    (all_by P (bodies base told) (λ b m. bodies_came base told b m)) in
    All-contains P (accepted mode base told) b inside (contained (accepted mode base told) b m)

pub came_told : (base : List Body) (told : List Told) (b : Body) → Among b (came base told)
    → Among b (told_bodies base told)
came_told base told b m = elim (among_either base (flat_map taken told) b m) [
  | inl l ↦ among_left base (map told_body told) b l
  | inr r ↦ (let f = flat_map_among taken told b r in among_right base (map told_body told) b
      (subst (λ c. Among c (map told_body told)) (body f.0 f.2) (among_map told_body told f.0 f.1)))
]
  where
    body : (t : Told) → Among b (taken t) → told_body t ≡ b
    body (took reader c claims) (inl e) = e
    body (took reader c claims) (inr none) = absurd none
    body (heard reader c key sig verdict) none = absurd none

pub told_more : (base : List Body) (seen later : List Told) (b : Body) → Among b (came base seen)
    → Among b (came base (seen ++ later))
told_more base seen later b m = elim (among_either base (flat_map taken seen) b m) [
  | inl l ↦ among_left base (flat_map taken (seen ++ later)) b l
  | inr r ↦ (let f = flat_map_among taken seen b r in among_right base (flat_map taken (seen ++ later)) b
      (among_flat_map taken (seen ++ later) f.0 b (among_left seen later f.0 f.1) f.2))
]
