-- What one more signature makes of the kept ones.
use Rattle.std.proofs.Common.{◌≡◌, ◌||◌, Bool, true, false, cond, List, [], ◌∷◌, ◌++◌, Option, Result, Ok, Err, IsOk, is_ok, if◌then◌else◌, refl, sym, ◌∙◌, ap}
use Rattle.std.specs.BTreeMap.{is_at}
use Rattle.std.specs.BTreeSet.{contains}
use Rattle.std.specs.List.{list_any}
use Rattle.std.proofs.lemmas.List.Elements.{All-nil, All-push}
use Rattle.std.proofs.lemmas.List.Folds.{list_any-append}
use Rattle.cesr_codes.specs.Indexed.{IsIndexed}
use Rattle.cesr_codes.specs.declared.indexed_sig.IndexedSig.{IndexedSig}
use Rattle.event_body.specs.declared.event_body.event.Event.{Event}
use Rattle.key_state.specs.Same.{distinct}
use Rattle.key_state.specs.States.{State}
use Rattle.journal.proofs.JournalLemmas.Distinct.{distinct-push_new, distinct-push_old}
use Rattle.journal_views.specs.EventPayload.Holding.{HasKept, part_cmp, part_of}
use Rattle.journal_views.specs.EventPayload.Kept.{same_part}
use Rattle.journal_views.specs.declared.event_payload.kept.Kept.{Kept}
use Rattle.journal_views.specs.declared.event_payload.part.Part.{Part}
use Rattle.journal_views.proofs.EventPayloadLemmas.Orders.{at_is}

-- a set that has the one, and what it had
pub seen_more : {X : Type 0} (same : X → X → Bool) (xs : List X) (x : X) (old new at : X → Bool)
    → ((y : X) → old y ≡ list_any (λ z. same z y) xs) → ((y : X) → at y ≡ same x y) → ((y : X) → new y ≡ cond (at y) true (old y))
    → (y : X) → new y ≡ list_any (λ z. same z y) (xs ++ x ∷ [])
seen_more same xs x old new at before is after y =
    after y ∙ (λ i. cond (is y i) true (before y i)) ∙ by (same x y) (list_any (λ z. same z y) xs) ∙ sym (list_any-append (λ z. same z y) xs (x ∷ []))
  where
    by : (here there : Bool) → cond here true there ≡ (there || (here || false))
    by true true = refl
    by true false = refl
    by false true = refl
    by false false = refl

-- what a push leaves that succeeds
pub pushed : {T E X : Type 0} (r : Result T E) (a b x : X) → IsOk r → x ≡ (if is_ok r then a else b) → x ≡ a
pushed (Ok t) a b x ok is = is
pushed (Err e) a b x ok is = cc ok

module _ (s : Option State) (e : Event) (came : List IndexedSig) where
  -- nothing is kept of nothing
  pub held_none : (kept : Kept) → kept.sigs.items ≡ [] → ((p : Part) → contains part_cmp kept.parts p ≡ false) → HasKept s e [] kept
  unfolding distinct
  held_none kept none empty = record { firsts = none; raw = rw none (All-nil IsIndexed); seen = λ sig. empty (part_of s e sig) }

  -- the same signatures and parts
  pub held_same : (old new : Kept) → HasKept s e came old → new.sigs.items ≡ old.sigs.items → ((p : Part) → contains part_cmp new.parts p ≡ contains part_cmp old.parts p)
      → HasKept s e came new
  held_same old new held sigs parts =
      record { firsts = sigs ∙ held.firsts; raw = rw sigs held.raw; seen = λ sig. parts (part_of s e sig) ∙ held.seen sig }

  module _ (sig : IndexedSig) (old new : Kept) (held : HasKept s e came old)
      (updates : (p : Part) → contains part_cmp new.parts p ≡ cond (is_at (part_cmp (part_of s e sig)) p) true (contains part_cmp old.parts p)) where
    seen : (other : IndexedSig) → contains part_cmp new.parts (part_of s e other) ≡ list_any (λ c. same_part s e c other) (came ++ sig ∷ [])
    seen = seen_more (same_part s e) came sig (λ other. contains part_cmp old.parts (part_of s e other)) (λ other. contains part_cmp new.parts (part_of s e other))
        (λ other. is_at (part_cmp (part_of s e sig)) (part_of s e other)) held.seen (λ other. at_is (part_of s e sig) (part_of s e other)) (λ other. updates (part_of s e other))

    -- a signature of a new part is kept
    pub held_new : contains part_cmp old.parts (part_of s e sig) ≡ false → IsIndexed sig → new.sigs.items ≡ old.sigs.items ++ sig ∷ [] → HasKept s e (came ++ sig ∷ []) new
    held_new is_new raw sigs = record {
      firsts = sigs ∙ ap (λ xs. xs ++ sig ∷ []) held.firsts ∙ sym (distinct-push_new (same_part s e) sig came (sym (held.seen sig) ∙ is_new));
      raw = rw sigs (All-push IsIndexed old.sigs.items sig held.raw raw);
      seen = seen;
    }

    -- one of a part that was seen isn't
    pub held_old : contains part_cmp old.parts (part_of s e sig) ≡ true → new.sigs.items ≡ old.sigs.items → HasKept s e (came ++ sig ∷ []) new
    held_old is_old sigs = record {
      firsts = sigs ∙ held.firsts ∙ sym (distinct-push_old (same_part s e) sig came (sym (held.seen sig) ∙ is_old));
      raw = rw sigs held.raw;
      seen = seen;
    }
