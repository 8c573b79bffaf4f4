-- The bodies of conflicts stand in the log, so the signatures that a core answers of them are their good ones; and they spell
-- events, so that what is written of them is read.
use Rattle.std.proofs.Common.{◌≡◌, ℕ, List, [], ◌∷◌, refl, sym, ◌∙◌, ap, get_or, subst, true}
use Rattle.std.specs.Prelude.{All, Contains, flat_map}
use Rattle.std.proofs.lemmas.Bool.{and_parts}
use Rattle.std.proofs.lemmas.List.{get_or_default}
use Rattle.std.proofs.lemmas.List.Elements.{All-append, All-filter, All-head, All-nil, All-tail, Contains-get_or, filter_passes}
use Rattle.std.proofs.lemmas.List.Folds.{flat_map-map}
use Rattle.cesr_codes.specs.Indexed.{IsIndexed}
use Rattle.cesr_stream.specs.Items.{Items}
use Rattle.cesr_stream.specs.Parts.{unfinished}
use Rattle.cesr_stream.specs.Written.{item_text}
use Rattle.journal.specs.Journal.Conflicts.{IsConflictList, counted, counts}
use Rattle.journal.specs.Journal.History.{Told, bodies}
use Rattle.journal.specs.Journal.Journals.{NameConflicts, chosen}
use Rattle.journal.specs.Journal.Logs.{stands}
use Rattle.journal.specs.declared.journal.conflict.Conflict.{Conflict}
use Rattle.journal.specs.declared.journal.body.Body.{Body}
use Rattle.journal.proofs.JournalLemmas.Apart.{flat_map-All}
use Rattle.validator_core.specs.ValidatorCore.View.{CoreView, IsSoundCore, accepted_by, base_of, told_of}
use Rattle.validator_core.specs.Acceptance.Standing.{IsHeld}
use Rattle.watcher_core.specs.Evidence.{items_of, items_of_sets, placed_from, signatures_of}
use Rattle.watcher_core.specs.Named.{PutsBodies, firsts_on, text_on}
use Rattle.watcher_core.proofs.Texts.{flat_map-flat_map}
use Rattle.watcher_core.proofs.Written.{MayCome, body_comes, come_all, written_reads}

-- what counts stands
counts_stands : (told : List Told) (log : List Body) (b : Body) → counts told log b ≡ true → stands log b ≡ true
unfolding counts
counts_stands told log b h = (and_parts _ (stands log b) (and_parts _ _ h).0).1

-- what holds of all holds of each, and of lists where it holds in each
contained : {X : Type 0} (P : X → Type 0) (xs : List X) (x : X) → All P xs → Contains xs x → P x
contained P xs x all (k, h, is) = subst P is (all k x h)

all_flat : {X : Type 0} (P : X → Type 0) (xss : List (List X)) → All (All P) xss → All P (flat_map (λ xs. xs) xss)
all_flat P [] all = All-nil P
all_flat P (xs ∷ xss) all = All-append P xs (flat_map (λ xs. xs) xss) (All-head (All P) xs xss all) (all_flat P xss (All-tail (All P) xs xss all))

module _ (core : CoreView) where
  -- the signatures that the core answers of a body that stands
  firsts_are : (b : Body) → stands (accepted_by core) b ≡ true → firsts_on core b ≡ signatures_of core b
  firsts_are b up = rw up refl

  text_is : (b : Body) → stands (accepted_by core) b ≡ true → text_on core b ≡ flat_map item_text (items_of core b)
  text_is b up = rw up refl

  module _ (sets : List (List Body)) (are : IsConflictList core.mode (base_of core) (told_of core) sets) where
    abbrev all_of : List Body
    all_of = flat_map (λ set. set) sets

    -- what holds of the bodies that count holds of those in conflict
    of_counted : (P : Body → Type 0) → All P (counted core.mode (base_of core) (told_of core)) → All P all_of
    of_counted P all = all_flat P sets (λ k d h j e i.
        let set = get_or sets k d in
        contained P (counted core.mode (base_of core) (told_of core)) (get_or set j e) all
        (are.only_counted (get_or set j e) (k, set, h, get_or_default sets k set d h, Contains-get_or set j e i)))

    all_stand : All (λ b. stands (accepted_by core) b ≡ true) all_of
    all_stand = of_counted (λ b. stands (accepted_by core) b ≡ true) (λ k d h.
        counts_stands (told_of core) (accepted_by core) (get_or (counted core.mode (base_of core) (told_of core)) k d)
        (filter_passes (counts (told_of core) (accepted_by core)) (bodies (base_of core) (told_of core)) k d h))

    all_held : IsSoundCore core → All IsHeld all_of
    all_held stands = of_counted IsHeld (All-filter (counts (told_of core) (accepted_by core)) IsHeld (bodies (base_of core) (told_of core)) (subst (All IsHeld) stands.in_order stands.spelled))

    -- TEXT
    pub text_of_sets : flat_map (text_on core) all_of ≡ flat_map item_text (items_of_sets core sets)
    text_of_sets =
        flat_map-All (text_on core) (λ b. flat_map item_text (items_of core b)) all_of (λ k d h. text_is (get_or all_of k d) (all_stand k d h))
        ∙ sym (flat_map-flat_map item_text (items_of core) all_of)
        ∙ ap (flat_map item_text) (flat_map-flat_map (items_of core) (λ set. set) sets)

    -- READ
    pub sets_read : IsSoundCore core → All (λ b. All IsIndexed (firsts_on core b)) all_of
        → Items 65535 (flat_map item_text (items_of_sets core sets)) (placed_from 0 (items_of_sets core sets)) unfinished
    sets_read is raw = written_reads (items_of_sets core sets)
        (subst MayCome (flat_map-flat_map (items_of core) (λ set. set) sets)
        (come_all (items_of core) all_of (λ k d h. one (get_or all_of k d) (all_held is k d h) (all_stand k d h) (raw k d h))))
      where
        one : (b : Body) → IsHeld b → stands (accepted_by core) b ≡ true → All IsIndexed (firsts_on core b) → MayCome (items_of core b)
        one b held up raw = body_comes b held.spelled.has held.few (signatures_of core b) (subst (All IsIndexed) (firsts_are b up) raw)

-- NUMBERS: the bodies that conflicts name are those of the sets
pub puts_sets : (core : CoreView) (found cs : List Conflict) (sets : List (List Body)) (old new : List ℕ) → NameConflicts core.held found sets → cs ≡ found
    → PutsBodies core (flat_map (λ c. chosen core.held c.bodies) cs) old new → PutsBodies core (flat_map (λ set. set) sets) old new
puts_sets core found cs sets old new names same puts =
    subst (λ bs. PutsBodies core bs old new)
    (ap (flat_map (λ (c : Conflict). chosen core.held c.bodies)) same ∙ sym (flat_map-map (λ set. set) (λ (c : Conflict). chosen core.held c.bodies) found) ∙ ap (flat_map (λ set. set)) names.bodies_are) puts
