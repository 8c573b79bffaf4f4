use Rattle.std.proofs.Common.{◌≡◌, ℕ, Vec, Global, ◌<◌, [], ◌∙◌, sym, ap, subst, length, All, map, arith}
use Rattle.std.proofs.lemmas.List.{length-map, get_or-map}
use Rattle.std.proofs.lemmas.List.Elements.{All-nil}
use Rattle.std.proofs.lemmas.Result.{IfOk-weaker}
use Rattle.std.proofs.lemmas.Simd.{map-map}
use Rattle.journal.specs.Journal.Conflicts.{AreConflicts}
use Rattle.journal.specs.Journal.Journals.{chosen}
use Rattle.journal_views.specs.JournalViews.Groups.{cut}
use Rattle.journal_views.specs.JournalViews.Rankings.{number_place}
use Rattle.journal_views.proofs.JournalViewsLemmas.Bodies.{all-held}
use Rattle.journal_views.proofs.JournalViewsLemmas.Cuts.{All-cut}
use Rattle.journal_views.proofs.JournalViewsLemmas.Numbers.{conflicts-of}
use Rattle.journal_views.proofs.journal_views.conflicts.conflict_sets.Goals as goal

pub returns-clause-conflicts : goal.returns-clause-conflicts
returns-clause-conflicts c held are =
    let bodies = c.args.bodies.now in
    let P = number_place c.args.events.now in
    let counted = c.args.counted.now in
    let numbers = c.in_ok-numbers.numbers.items in
    let of_numbers = all-held (λ b. b.bytes) held bodies are.bytes_are numbers c.in_ok-numbers.ensures.held in
    let of_counted = all-held (λ b. b.bytes) held bodies are.bytes_are counted c.requires.held in
    IfOk-weaker c.sets_of.result (λ (sets : Vec (Vec ℕ Global) Global). map (λ set. set.items) sets.items ≡ cut P [] c.as_slice.result.now)
    (λ (sets : Vec (Vec ℕ Global) Global). AreConflicts (chosen held counted) (map (λ set. chosen held set.items) sets.items))
    (λ sets is. let sets_are : map (λ set. chosen held set.items) sets.items ≡ map (chosen held) (cut P [] numbers) =
    sym (map-map (chosen held) (λ (set : Vec ℕ Global). set.items) sets.items) ∙ ap (map (chosen held)) (is ∙ ap (cut P []) c.as_slice.ensures.value) in
    rw sets_are (conflicts-of held bodies c.args.events.now are.bytes_are are.events_are c.requires.differ numbers counted of_numbers of_counted
    c.in_ok-numbers.ensures.same c.in_ok-numbers.ensures.rising))
    c.sets_of.ensures

pub returns-clause-held : goal.returns-clause-held
returns-clause-held c =
    let P : ℕ → Type 0 = λ n. n < length c.args.bodies.now in
    let numbers = c.in_ok-numbers.numbers.items in
    let cuts = cut (number_place c.args.events.now) in
    let of_cut : All (All P) (cuts [] numbers) = All-cut (number_place c.args.events.now) P [] numbers (All-nil P) c.in_ok-numbers.ensures.held in
    IfOk-weaker c.sets_of.result (λ (sets : Vec (Vec ℕ Global) Global). map (λ set. set.items) sets.items ≡ cuts [] c.as_slice.result.now)
    (λ (sets : Vec (Vec ℕ Global) Global). All (λ set. All P set.items) sets.items)
    (λ sets is k d h. subst (All P) (get_or-map (λ (set : Vec ℕ Global). set.items) sets.items k d d.items h)
    (subst (All (All P)) (sym (is ∙ ap (cuts []) c.as_slice.ensures.value)) of_cut k d.items (omega (arith, h, length-map sets.items (λ (set : Vec ℕ Global). set.items)))))
    c.sets_of.ensures
