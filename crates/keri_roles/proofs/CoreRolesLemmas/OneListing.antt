-- The lines of the members of a list in order are one text.
use Rattle.std.proofs.Common.{◌≡◌, ℕ, List, Ordering, sym, ◌∙◌, ap}
use Rattle.std.specs.Prelude.{flat_map}
use Rattle.std.specs.declared.cmp.Ordering.TheVariants.{Equal}
use Rattle.std.specs.Cmp.{IsTotalOrder}
use Rattle.std.specs.List.Sorted.{IsPermutation}
use Rattle.std.proofs.lemmas.List.Sorted.{Contains-permutation, IsPermutation-sym}
use Rattle.key_state.proofs.Among.{Among, among, contained}
use Rattle.journal_views.proofs.JournalLawsLemmas.Permuted.{listed}
use Rattle.report_lines.specs.Report.{IsListing}
use Rattle.keri_roles.proofs.CoreRolesLemmas.OneOrder.{one_sorted}

-- what is listed is a member
listed_in : {X : Type 0} (xs ordered : List X) → IsPermutation xs ordered → (x : X) → Among x ordered → Among x xs
listed_in xs ordered moved x m = among xs x (Contains-permutation ordered xs x (IsPermutation-sym xs ordered moved) (contained ordered x m))

-- of the same members, each with the same lines, where the order tells them apart
pub one_listing : {X : Type 0} (cmp : X → X → Ordering) (total : IsTotalOrder cmp) (lines others : X → List ℕ) (xs ys : List X) (text found : List ℕ)
    → IsPermutation xs ys → ((x y : X) → Among x xs → Among y xs → cmp x y ≡ Equal → x ≡ y) → ((x : X) → Among x xs → lines x ≡ others x)
    → IsListing cmp lines xs text → IsListing cmp others ys found → text ≡ found
one_listing cmp total lines others xs ys text found moved apart same one two =
    let ordered = one_sorted cmp total xs ys one.ordered two.ordered moved one.has_members two.has_members one.sorted two.sorted
    (λ x y m n e. apart x y (listed_in xs one.ordered one.has_members x m) (listed_in xs ys moved y (listed_in ys two.ordered two.has_members y n)) e) in
    one.lines_are ∙ (listed lines others xs ys one.ordered one.has_members moved same).1 ∙ ap (flat_map others) ordered ∙ sym two.lines_are
