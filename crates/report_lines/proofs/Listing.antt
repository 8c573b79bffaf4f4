-- Rows of bodies: one more, and their lines in order.
use Rattle.std.proofs.Common.{ℕ, List, [], ◌∷◌, ◌++◌, map, Option, Some, None, refl, sym, ◌∙◌, ap, subst, append-nil, is_lt}
use Rattle.std.proofs.lemmas.List.{map-append}
use Rattle.std.proofs.lemmas.List.Elements.{All-nil, All-push}
use Rattle.std.proofs.lemmas.List.Sorted.{IsPermutation-map, All-permutation}
use Rattle.std.specs.List.Sorted.{IsPermutation, IsSorted}
use Rattle.std.specs.Prelude.{flat_map, option_to_list, string_bytes}
use Rattle.std.proofs.lemmas.List.Folds.{flat_map-map}
use Rattle.journal.specs.declared.journal.body.Body.{Body}
use Rattle.journal.proofs.JournalLemmas.Apart.{flat_map-All}
use Rattle.report_lines.specs.Report.{body_cmp, IsListing}
use Rattle.report_lines.specs.Rows.{AreRows, HasLines, IsRow, body_of}
use Rattle.report_lines.specs.declared.row.Row.{Row}
use Rattle.report_lines.proofs.Ordered.{IsSortedBy-map}

module _ (lines : Body → List ℕ) where
  pub AreRows-nil : AreRows lines [] []
  AreRows-nil = record { bodies_are = refl; have_lines = All-nil (HasLines lines) }

  pub AreRows-push : (bodies : List Body) (rows : List Row) (b : Option Body) (row : Option Row) → AreRows lines bodies rows → IsRow lines b row
      → AreRows lines (bodies ++ option_to_list b) (rows ++ option_to_list row)
  AreRows-push bodies rows b None are is = rw (← is.body_is, append-nil, append-nil) are
  AreRows-push bodies rows b (Some r) are is = rw (← is.body_is) (record {
    bodies_are = map-append body_of rows (r ∷ []) ∙ ap (λ bs. bs ++ body_of r ∷ []) are.bodies_are;
    have_lines = All-push (HasLines lines) rows r are.have_lines is.has_lines;
  })

  -- LISTING: rows in order list the lines of the bodies
  pub listing : (bodies : List Body) (rows ordered : List Row) → AreRows lines bodies rows → IsPermutation rows ordered
      → IsSorted (λ a b. body_cmp (body_of a) (body_of b)) ordered → IsListing body_cmp lines bodies (flat_map (λ r. string_bytes r.lines) ordered)
  listing bodies rows ordered are moved sorted = record {
    ordered = map body_of ordered;
    has_members = subst (λ bs. IsPermutation bs (map body_of ordered)) are.bodies_are (IsPermutation-map body_of rows ordered moved);
    sorted = IsSortedBy-map body_of (λ a b. is_lt (body_cmp a b)) ordered sorted;
    lines_are = flat_map-All (λ r. string_bytes r.lines) (λ r. lines (body_of r)) ordered (All-permutation (HasLines lines) rows ordered moved are.have_lines)
        ∙ sym (flat_map-map lines body_of ordered);
  }
