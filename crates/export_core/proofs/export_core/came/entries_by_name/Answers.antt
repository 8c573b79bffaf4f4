use Rattle.std.proofs.Common.{◌≡◌, ◌≤◌, ℕ, zero, suc, List, [], ◌∷◌, None, length, refl, sym, ◌∙◌, ap, subst, arith, inl, inr}
use Rattle.std.specs.Prelude.{Contains, slice_get}
use Rattle.std.proofs.lemmas.Bool.{cases_lt}
use Rattle.validator_core.proofs.TablesLemmas.Places.{got}
use Rattle.validator_core.specs.Tables.Names.{name_of}
use Rattle.escrow.specs.EventIndex.Keys.{numbers_at}
use Rattle.export_core.specs.ExportCore.Came.{event_in, name_cmp}
use Rattle.export_core.proofs.export_core.came.entries_by_name.Goals as goal

none_past : {X : Type 0} (xs : List X) (i : ℕ) → length xs ≤ i → slice_get xs i ≡ None
none_past [] i h = refl
none_past (x ∷ xs) zero h = absurd (omega (arith, h))
none_past (x ∷ xs) (suc i) h = none_past xs i (omega (arith, h))

pub loop-place-preserved : goal.loop-place-preserved
loop-place-preserved c = λ i e low has.
    let k = c.loop-place.place in
    elim (cases_lt i k) as (λ _. Contains (numbers_at name_cmp c.note_event.new.index (name_of e)) i) [
      | inl lt ↦ c.in_ok-note_event.ensures.kept (name_of e) i lt (c.loop-place.invariant i e lt has)
      | inr ge ↦ (let is : i ≡ k = omega (arith, low, ge) in
          subst (λ n. Contains (numbers_at name_cmp c.note_event.new.index (name_of e)) n) (sym is)
          (c.in_ok-note_event.ensures.added e (c.event_in.ensures ∙ ap (event_in c.args.events.now) (got c.args.entries.now k c.get.result c.get.ensures.lookup ∙ ap (slice_get c.args.entries.now) (sym is)) ∙ has)))
    ]

pub returns : goal.returns
returns c = λ i e has.
    elim (cases_lt i c.loop-place.place) as (λ _. Contains (numbers_at name_cmp c.loop-place.index (name_of e)) i) [
      | inl lt ↦ c.loop-place.invariant i e lt has
      | inr ge ↦ (let none : event_in c.args.events.now (slice_get c.args.entries.now i) ≡ None = ap (event_in c.args.events.now) (none_past c.args.entries.now i (omega (arith, ge, c.loop-place-test.false))) in absurd (cc (none, has)))
    ]
