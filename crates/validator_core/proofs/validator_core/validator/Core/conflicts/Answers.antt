use Rattle.std.proofs.Common.{◌≡◌, ℕ, Vec, Global, ◌<◌, ◌≤◌, false, List, length, map, sym, ◌∙◌, ap, subst, arith, get_or}
use Rattle.std.specs.Prelude.{All, AllPairs, IfOk, bytes_eq}
use Rattle.std.proofs.lemmas.List.{get_or-map, length-map}
use Rattle.std.proofs.lemmas.List.Elements.{All-map}
use Rattle.std.proofs.lemmas.Simd.{map-map}
use Rattle.validator_core.specs.Acceptance.Standing as standing
use Rattle.journal.specs.declared.journal.body.Body.{Body}
use Rattle.journal.specs.Journal.Conflicts.{AreConflicts, IsConflictList}
use Rattle.journal.specs.Journal.Journals.{NameConflicts, chosen}
use Rattle.journal_views.proofs.JournalViewsLemmas.Differing.{pairs-from-differ}
use Rattle.validator_core.proofs.TableChangesLemmas.Events.{if_ok_both}
use Rattle.validator_core.specs.ValidatorCore.Tables.{base_in}
use Rattle.validator_core.specs.ValidatorCore.View.{base_of, told_of}
use Rattle.validator_core.proofs.ValidatorCoreLemmas.Rivals.{chosen_few, counted_is, names}
use Rattle.validator_core.proofs.validator_core.validator.Core.conflicts.Goals as goal

pub conflict_sets-requires-clause-differ : goal.conflict_sets-requires-clause-differ
conflict_sets-requires-clause-differ c =
    subst (AllPairs (λ x y. bytes_eq x y ≡ false)) (sym (c.as_slice.ensures ∙ c.journal.ensures.bodies)) (pairs-from-differ c.self.inside.tables.held c.self.invariant.sound.differ)

pub placed-requires-clause-some : goal.placed-requires-clause-some
placed-requires-clause-some c = λ k d h.
    let held = c.self.inside.tables.held in
    let sets = c.in_ok-sets.sets.items in
    let are = c.as_slice-3.ensures.value in
    let inside : k < length sets = subst (λ s. k < length s) are h in
    let conflicts = c.in_ok-sets.ensures.conflicts held (record { bytes_are = sym (c.as_slice.ensures ∙ c.journal.ensures.bodies); events_are = sym c.events.ensures }) in
    let of : Vec ℕ Global → List Body = λ set. chosen held set.items in
    let two : 2 ≤ length (of (get_or sets k d)) =
    subst (λ bs. 2 ≤ length bs) (get_or-map of sets k d (of d) inside) (conflicts.two_or_more k (of d) (omega (arith, inside, length-map sets of))) in
    let few = chosen_few held (get_or sets k d).items in
    subst (λ s. 1 ≤ length (get_or s k d).items) (sym are) (omega (arith, two, few))

pub returns : goal.returns
returns c =
    let i = c.self.inside in
    let v = i.tables in
    let held = v.held in
    let sets = c.in_ok-sets.sets.items in
    let numbers : List (List ℕ) = map (λ (set : Vec ℕ Global). set.items) sets in
    let bytes = c.as_slice.ensures ∙ c.journal.ensures.bodies in
    let long : length c.as_slice.result.now ≡ length held = ap length bytes ∙ length-map held (λ (b : Body). b.bytes) in
    let conflicts = c.in_ok-sets.ensures.conflicts held (record { bytes_are = sym bytes; events_are = sym c.events.ensures }) in
    let parted : map (λ (set : Vec ℕ Global). chosen held set.items) sets ≡ map (chosen held) numbers = sym (map-map (chosen held) (λ (set : Vec ℕ Global). set.items) sets) in
    let are : AreConflicts (chosen held c.as_slice-2.result.now) (map (chosen held) numbers) = subst (AreConflicts (chosen held c.as_slice-2.result.now)) parted conflicts in
    let among = ap (chosen held) c.as_slice-2.ensures.value ∙ c.in_ok-counted.ensures.those ∙ counted_is i.mode i.limits i.base v i.tally c.self.invariant in
    let listed : IsConflictList i.mode (base_in i.base v) (standing.told_of v) (map (chosen held) numbers) = subst (λ bs. AreConflicts bs (map (chosen held) numbers)) among are in
    let below : All (All (λ n. n < length held)) numbers =
    All-map (All (λ n. n < length held)) (λ (set : Vec ℕ Global). set.items) sets (subst (λ m. All (λ (set : Vec ℕ Global). All (λ n. n < m) set.items) sets) long c.in_ok-sets.ensures.held) in
    subst (λ core. IfOk c.placed.result (λ found. (x : List (List Body)) × NameConflicts core.held found.items x × IsConflictList core.mode (base_of core) (told_of core) x)) c.self.view_is
    (if_ok_both c.placed.result c.placed.ensures.bodies c.placed.ensures.places (λ found same placed. (
      map (chosen held) numbers,
      names held c.events-2.result.now (sym c.events-2.ensures) c.self.invariant.sound.spelled (chosen held c.as_slice-2.result.now) found.items numbers
          (same ∙ ap (map (λ (set : Vec ℕ Global). set.items)) c.as_slice-3.ensures.value) placed below are,
      listed,
    )))
