-- The lines of the logs in their order.
use Rattle.std.proofs.Common.{◌≡◌, ℕ, ◌+◌, ◌<◌, List, [], ◌∷◌, length, map, Some, refl, sym, ◌∙◌, ap, subst, get_or, arith, is_lt}
use Rattle.std.specs.Prelude.{All, flat_map}
use Rattle.std.specs.BTreeMap as tree
use Rattle.std.specs.BTreeMap.{BTreeMap}
use Rattle.std.specs.Cmp.Lexicographic.{slice_cmp}
use Rattle.std.specs.List.Sorted.{IsSorted, IsStrictlySortedBy}
use Rattle.std.specs.Map.{keys_of}
use Rattle.std.specs.Ordering.{nat_cmp, ordering_reverse}
use Rattle.std.specs.declared.cmp.Ordering.TheVariants.{Less}
use Rattle.std.proofs.lemmas.Cmp.{nat_list_cmp_total}
use Rattle.std.proofs.lemmas.List.{get_or-map, length-map}
use Rattle.std.proofs.lemmas.List.Elements.{All-head, All-map, All-tail}
use Rattle.std.proofs.lemmas.List.Folds.{flat_map-map}
use Rattle.std.proofs.lemmas.Map.Keys.{Less-from_sorted}
use Rattle.cesr_codes.specs.Spelling.{prefix_text}
use Rattle.cesr_codes.specs.declared.prefix.Prefix.{Prefix}
use Rattle.journal.specs.declared.journal.body.Body.{Body}
use Rattle.journal.specs.Journal.Journals.{chosen}
use Rattle.report_lines.specs.Logs.{AreLogs, IsHead, heads_of, items_of, prefixes_in}
use Rattle.report_lines.specs.Report.{IsListing, log_lines, own_of, prefix_cmp, prefixes_of}
use Rattle.report_lines.specs.declared.logs.Log.{Log}
use Rattle.report_lines.proofs.Entries.{each_found}

-- prefixes whose texts ascend are in order
ascending : (ps : List Prefix) → IsStrictlySortedBy (slice_cmp nat_cmp) (map prefix_text ps) → IsSorted prefix_cmp ps
ascending ps s k d low high =
    let long = length-map ps prefix_text in
    let here = get_or-map prefix_text ps k d (prefix_text d) (omega (arith, high)) in
    let next = get_or-map prefix_text ps (k + 1) d (prefix_text d) high in
    let below : slice_cmp nat_cmp (get_or (map prefix_text ps) k (prefix_text d)) (get_or (map prefix_text ps) (k + 1) (prefix_text d)) ≡ Less =
    Less-from_sorted (slice_cmp nat_cmp) (map prefix_text ps) k (k + 1) (prefix_text d) s (omega arith) (omega (arith, high, long)) in
    let up : prefix_cmp (get_or ps k d) (get_or ps (k + 1) d) ≡ Less = (λ i. slice_cmp nat_cmp (sym here i) (sym next i)) ∙ below in
    ap is_lt (nat_list_cmp_total.antisymm (prefix_text (get_or ps (k + 1) d)) (prefix_text (get_or ps k d)) ∙ ap ordering_reverse up)

-- the keys are the texts of the prefixes
keys_are : (es : List (List ℕ × Log)) → All IsHead (heads_of es) → keys_of es ≡ map prefix_text (prefixes_in es)
keys_are [] heads = refl
keys_are (e ∷ es) heads =
    let head = All-head IsHead (e.0, e.1.prefix) (heads_of es) heads in
    let rest = keys_are es (All-tail IsHead (e.0, e.1.prefix) (heads_of es) heads) in
    λ i. head.0 i ∷ rest i

-- a value has the numbers of its prefix's own events
abbrev pub IsOwn : List Body → List Body → Log → Type 0
IsOwn held log l = All (λ n. n < length held) l.numbers.items × (chosen held l.numbers.items ≡ own_of l.prefix log)

-- the lines of a value's prefix
abbrev pub value_lines : List Body → Log → List ℕ
value_lines log l = log_lines log l.prefix

module _ (held log : List Body) (m : BTreeMap (List ℕ) Log) (ordered : tree.IsOrdered (slice_cmp nat_cmp) m) (logs : AreLogs held log m.entries) where
  own_at : (e : List ℕ × Log) → IsHead (e.0, e.1.prefix) → tree.get (slice_cmp nat_cmp) m e.0 ≡ Some e.1 → IsOwn held log e.1
  own_at e head found =
      let numbers = ap items_of (ap (tree.get (slice_cmp nat_cmp) m) (sym head.0) ∙ found) in
      (subst (All (λ n. n < length held)) numbers (logs.numbers_held e.1.prefix head.1), ap (chosen held) (sym numbers) ∙ logs.own e.1.prefix head.1)

  pub each_own : All (IsOwn held log) (tree.values m)
  each_own = All-map (IsOwn held log) (λ e. e.1) m.entries (λ k d h. own_at (get_or m.entries k d)
      (subst IsHead (get_or-map (λ e. (e.0, e.1.prefix)) m.entries k d (d.0, d.1.prefix) h)
      (logs.heads k (d.0, d.1.prefix) (omega (arith, h, length-map {B = List ℕ × Prefix} m.entries (λ (e : List ℕ × Log). (e.0, e.1.prefix))))))
      (each_found nat_list_cmp_total m ordered k d h))

  -- LISTING: the lines of the values, in order
  pub listed : IsListing prefix_cmp (log_lines log) (prefixes_of log) (flat_map (value_lines log) (tree.values m))
  listed = record {
    ordered = prefixes_in m.entries;
    has_members = logs.members;
    sorted = ascending (prefixes_in m.entries) (subst (IsStrictlySortedBy (slice_cmp nat_cmp)) (keys_are m.entries logs.heads) ordered);
    lines_are = flat_map-map (value_lines log) (λ e. e.1) m.entries
        ∙ sym (flat_map-map (log_lines log) (λ h. h.1) (heads_of m.entries) ∙ flat_map-map (λ h. log_lines log h.1) (λ e. (e.0, e.1.prefix)) m.entries);
  }
