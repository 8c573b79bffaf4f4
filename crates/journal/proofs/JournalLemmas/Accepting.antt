-- What acceptance keeps: it extends the list with each entry, an accepted body stays, and no ready body is left.
use Rattle.std.proofs.Common.{◌≡◌, Bool, true, false, List, [], ◌∷◌, ◌++◌, length, None, refl, sym, ◌∙◌, ap, append_assoc, append-nil}
use Rattle.std.specs.Prelude.{find}
use Rattle.std.specs.List.{list_any}
use Rattle.std.specs.Cmp.Lexicographic.{bytes_decides}
use Rattle.std.proofs.lemmas.List.Sums.{count_by-le-length}
use Rattle.std.proofs.lemmas.List.Folds.{list_any-append}
use Rattle.std.proofs.lemmas.Bool.{and_parts, or_left, not-true}
use Rattle.journal.specs.declared.journal.mode.Mode.{Mode}
use Rattle.journal.specs.Journal.Logs.{Body, same_body, is_in}
use Rattle.journal.specs.Journal.History.{Told, bodies}
use Rattle.journal.specs.Journal.Readiness.{is_ready}
use Rattle.journal.specs.Journal.Acceptance.{settled_over, Settles, rest, more, grown_by}
use Rattle.journal.specs.Journal.Accepted.{accepted}
use Rattle.journal.proofs.JournalLemmas.Settling.{settled_ends, settled_extends, left}

module _ {T B : Type 0} (ready : List T → List B → B → Bool) (all : List T → List B) where
  -- growth by some entries and then by others
  pub grown_by-append : (log : List B) (earlier xs ys : List T)
      → grown_by ready all log earlier (xs ++ ys) ≡ grown_by ready all (grown_by ready all log earlier xs) (earlier ++ xs) ys
  unfolding grown_by
  grown_by-append log earlier [] ys = rw append-nil refl
  grown_by-append log earlier (t ∷ xs) ys = grown_by-append (settled_over ready all (earlier ++ t ∷ []) log) (earlier ++ t ∷ []) xs ys ∙ ap (λ e. grown_by ready all (grown_by ready all log earlier (t ∷ xs)) e ys) (append_assoc earlier (t ∷ []) xs)

  -- growth extends the list
  pub grown_by_extends : (log : List B) (earlier later : List T) → (new : List B) × (grown_by ready all log earlier later ≡ log ++ new)
  unfolding grown_by
  grown_by_extends log earlier [] = ([], sym (append-nil log))
  grown_by_extends log earlier (t ∷ later) =
      let now = earlier ++ t ∷ [] in
      let (first, e) = settled_extends (ready now) (all now) (length (all now)) log in
      let (then, f) = grown_by_extends (settled_over ready all now log) now later in
      (first ++ then, f ∙ ap (λ x. x ++ then) e ∙ append_assoc log first then)

  -- growth ends with nothing ready, where it began so
  module _ (same : B → B → Bool) (itself : (b : B) → same b b ≡ true)
      (fresh : (told : List T) (log : List B) (b : B) → ready told log b ≡ true → list_any (λ c. same c b) log ≡ false) where
    -- nothing is ready at the end
    done : {told : List T} {log end : List B} → Settles (ready told) (all told) log end → find (ready told end) (all told) ≡ None
    done (rest e) = e
    done (more e s) = done s

    pub grown_by_ends : (log : List B) (earlier later : List T) → find (ready earlier log) (all earlier) ≡ None
        → find (ready (earlier ++ later) (grown_by ready all log earlier later)) (all (earlier ++ later)) ≡ None
    unfolding grown_by left
    grown_by_ends log earlier [] h = rw append-nil h
    grown_by_ends log earlier (t ∷ later) h =
        let now = earlier ++ t ∷ [] in
        let end = settled_ends (ready now) (all now) same itself (fresh now) (length (all now)) log (count_by-le-length _ (all now)) in
        let e = grown_by_ends (settled_over ready all now log) now later (done end) in
        rw append_assoc at e

-- each body is the same as itself
pub same_body-refl : (b : Body) → same_body b b ≡ true
same_body-refl b = (bytes_decides b.bytes b.bytes).1 refl

-- what is ready isn't accepted
pub ready_is_new : (mode : Mode) (told : List Told) (log : List Body) (b : Body) → is_ready mode told log b ≡ true → is_in log b ≡ false
unfolding is_ready
ready_is_new mode told log b h = not-true _ (and_parts _ _ (and_parts _ _ h).0).1

module _ (mode : Mode) (base : List Body) where
  -- with one more entry, what it makes ready comes behind what was accepted before
  pub accepted-push : (told : List Told) (t : Told) → accepted mode base (told ++ t ∷ [])
      ≡ settled_over (is_ready mode) (bodies base) (told ++ t ∷ []) (accepted mode base told)
  unfolding accepted grown_by
  accepted-push told t = grown_by-append (is_ready mode) (bodies base) base [] told (t ∷ [])

  -- later entries extend the list
  pub accepted_extends : (told later : List Told) → (new : List Body) × (accepted mode base (told ++ later) ≡ accepted mode base told ++ new)
  unfolding accepted
  accepted_extends told later =
      let (new, e) = grown_by_extends (is_ready mode) (bodies base) (accepted mode base told) told later in
      (new, grown_by-append (is_ready mode) (bodies base) base [] told later ∙ e)

  -- an accepted body stays
  pub accepted_stays : (told later : List Told) (b : Body) → is_in (accepted mode base told) b ≡ true → is_in (accepted mode base (told ++ later)) b ≡ true
  accepted_stays told later b h =
      let (new, e) = accepted_extends told later in
      rw (e, list_any-append) (or_left _ _ h)
