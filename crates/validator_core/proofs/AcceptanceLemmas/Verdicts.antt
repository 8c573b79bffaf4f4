-- The verdicts of a table on the body of a number are those that were heard.
use Rattle.std.proofs.Common.{◌≡◌, ℕ, suc, Bool, true, ◌&&◌, ◌==◌, List, [], ◌∷◌, Option, Some, None, refl, sym, ◌∙◌, ap, inl, inr, if◌then◌else◌}
use Rattle.std.specs.Prelude.{bytes_eq, flat_map, slice_get}
use Rattle.std.specs.List.{list_any}
use Rattle.std.specs.Cmp.Lexicographic.{bytes_decides}
use Rattle.std.proofs.lemmas.Bool.{and_from, and_parts, cases_Bool}
use Rattle.cesr_codes.specs.declared.key.Key.{Key}
use Rattle.cesr_codes.specs.declared.sig.Sig.{Sig}
use Rattle.key_state.specs.Same.{same_key}
use Rattle.key_state.proofs.Same.{numbers, same_key_is}
use Rattle.journal.specs.declared.journal.body.Body.{Body}
use Rattle.journal.specs.Journal.History.{Told, said_yes, same_triple, yes_in}
use Rattle.journal.specs.Journal.Readiness.{backs}
use Rattle.journal.proofs.JournalLemmas.Places.{any_at, found_at}
use Rattle.journal.proofs.JournalLemmas.Same.{same_triple_is, same_triple_itself}
use Rattle.journal.specs.EventRules.Parts.{says_of}
use Rattle.claim_table.specs.declared.claim_table.row.Row.{Row}
use Rattle.claim_table.specs.declared.claim_table.signature.Signature.{Signature}
use Rattle.claim_table.specs.ClaimTable.Rows.{has_yes_by, is_of, is_raised, is_yes, verdict_of}
use Rattle.claim_table.proofs.CoreLawsLemmas.Supported.{both_ways, verdict_raised, yes_there}
use Rattle.claim_table.specs.CoreLaws.ClaimRows.{AreClaims, triple_on}
use Rattle.validator_core.specs.Acceptance.Entries.{says_in, yes_of}

-- where a signature is raised the table's answer is the verdict, and else there is none
pub answered : (rows : List Row) (s : Signature) (o : Option (Option Bool)) → o ≡ (if is_raised rows s then Some (verdict_of rows s) else None) → yes_of o ≡ is_yes (verdict_of rows s)
answered rows s o e = ap yes_of e ∙ elim (cases_Bool (is_raised rows s)) [
  | inl k ↦ rw k refl
  | inr k ↦ (let none = verdict_raised rows s k in rw (k, none) refl)
]

-- a verdict of yes stands on a row of the signature
yes_at : (rows : List Row) (s : Signature) → is_yes (verdict_of rows s) ≡ true → (i : ℕ) × (r : Row) × (slice_get rows i ≡ Some r) × (is_of s r ≡ true) × (is_yes r.verdict ≡ true)
yes_at [] s h = cc
yes_at (r ∷ rows) s h = elim (cases_Bool (is_of s r)) [
  | inl k ↦ (0, r, refl, k, rw k at h)
  | inr k ↦ (let rest = yes_at rows s (rw k at h) in (suc rest.0, rest.1, rest.2, rest.3, rest.4))
]

module _ (told : List Told) (log held : List Body) (rows : List Row) (are : AreClaims told log held rows) (n : ℕ) (b : Body) (at : slice_get held n ≡ Some b) where
  -- VERDICTS: those of the table are those that were heard
  pub said_is : (key : Key) (sig : Sig) → says_in rows n key sig ≡ says_of told b key sig
  said_is key sig = ap is_yes (are.verdicts n b key sig at) ∙ yes_there told (triple_on b key sig)

  pub backed_is : (key : Key) → has_yes_by rows n key ≡ backs told b key
  unfolding backs said_yes
  backed_is key = both_ways (has_yes_by rows n key) (list_any (λ t. bytes_eq t.body b.bytes && same_key t.key key) (flat_map yes_in told)) to from
    where
      to : has_yes_by rows n key ≡ true → list_any (λ t. bytes_eq t.body b.bytes && same_key t.key key) (flat_map yes_in told) ≡ true
      to h =
          let f = found_at (λ r. is_yes r.verdict && ((r.claimed.body == n) && same_key r.claimed.key key)) rows h in
          let parts = and_parts (is_yes f.1.verdict) ((f.1.claimed.body == n) && same_key f.1.claimed.key key) f.3 in
          let own = and_parts (f.1.claimed.body == n) (same_key f.1.claimed.key key) parts.1 in
          let body = numbers f.1.claimed.body n own.0 in
          let heard : says_in rows n f.1.claimed.key f.1.claimed.sig ≡ true =
          ap (λ m. says_in rows m f.1.claimed.key f.1.claimed.sig) (sym body) ∙ sym (ap is_yes (are.agree f.0 f.1 f.2)) ∙ parts.0 in
          let said : says_of told b f.1.claimed.key f.1.claimed.sig ≡ true = sym (said_is f.1.claimed.key f.1.claimed.sig) ∙ heard in
          let u = found_at (same_triple (triple_on b f.1.claimed.key f.1.claimed.sig)) (flat_map yes_in told) said in
          let same = same_triple_is (triple_on b f.1.claimed.key f.1.claimed.sig) u.1 u.3 in
          let test : (bytes_eq b.bytes b.bytes && same_key f.1.claimed.key key) ≡ true = and_from (bytes_eq b.bytes b.bytes) (same_key f.1.claimed.key key) ((bytes_decides b.bytes b.bytes).1 refl) own.1 in
          any_at (λ t. bytes_eq t.body b.bytes && same_key t.key key) (flat_map yes_in told) u.0 u.1 u.2
          (ap (λ t. bytes_eq t.body b.bytes && same_key t.key key) (sym same) ∙ test)

      from : list_any (λ t. bytes_eq t.body b.bytes && same_key t.key key) (flat_map yes_in told) ≡ true → has_yes_by rows n key ≡ true
      from h =
          let u = found_at (λ t. bytes_eq t.body b.bytes && same_key t.key key) (flat_map yes_in told) h in
          let parts = and_parts (bytes_eq u.1.body b.bytes) (same_key u.1.key key) u.3 in
          let body = (bytes_decides u.1.body b.bytes).0 parts.0 in
          let is_it : triple_on b u.1.key u.1.sig ≡ u.1 = λ i. record { body = sym body i; key = u.1.key; sig = u.1.sig } in
          let said : said_yes told (triple_on b u.1.key u.1.sig) ≡ true = any_at (same_triple (triple_on b u.1.key u.1.sig)) (flat_map yes_in told) u.0 u.1 u.2
          (ap (λ t. same_triple t u.1) is_it ∙ same_triple_itself u.1) in
          let heard : says_in rows n u.1.key u.1.sig ≡ true = said_is u.1.key u.1.sig ∙ said in
          let r = yes_at rows (record { body = n; key = u.1.key; sig = u.1.sig }) heard in
          let of = and_parts (r.1.claimed.body == n) (same_key r.1.claimed.key u.1.key && bytes_eq r.1.claimed.sig.raw u.1.sig.raw) r.3 in
          let key_is = same_key_is r.1.claimed.key u.1.key (and_parts (same_key r.1.claimed.key u.1.key) (bytes_eq r.1.claimed.sig.raw u.1.sig.raw) of.1).0 in
          any_at (λ r. is_yes r.verdict && ((r.claimed.body == n) && same_key r.claimed.key key)) rows r.0 r.1 r.2
          (and_from (is_yes r.1.verdict) ((r.1.claimed.body == n) && same_key r.1.claimed.key key) r.4 (and_from (r.1.claimed.body == n) (same_key r.1.claimed.key key) of.0 (ap (λ k. same_key k key) key_is ∙ parts.1)))
