-- What is raised on a body of a journal, by the rows of a table.
use Rattle.std.proofs.Common.{◌≡◌, ℕ, zero, suc, Bool, true, false, not, ◌&&◌, ◌||◌, List, [], ◌∷◌, map, Some, None, refl, sym, ◌∙◌, ap, inl, inr, if◌then◌else◌}
use Rattle.std.specs.Prelude.{filter, flat_map, slice_get, bytes_eq}
use Rattle.std.specs.List.{list_any, list_all}
use Rattle.std.specs.Cmp.Lexicographic.{bytes_decides}
use Rattle.std.proofs.lemmas.Bool.{cases_Bool, and_parts, not-true}
use Rattle.std.proofs.lemmas.List.Folds.{list_any-append}
use Rattle.std.proofs.Math.Bool.{or-false}
use Rattle.cesr_codes.specs.declared.key.Key.{Key}
use Rattle.cesr_codes.specs.declared.sig.Sig.{Sig}
use Rattle.key_state.specs.Same.{distinct}
use Rattle.key_state.proofs.Same.{number_itself}
use Rattle.journal.specs.declared.journal.body.Body.{Body}
use Rattle.journal.specs.declared.journal.mode.Mode.{Mode}
use Rattle.journal.specs.declared.journal.question.Noted.TheVariants.{New, Known, Unasked}
use Rattle.journal.specs.Journal.Logs.{same_body}
use Rattle.journal.specs.Journal.History.{Told, Triple, same_triple, bodies, has_verdict}
use Rattle.journal.specs.Journal.Accepted.{accepted}
use Rattle.journal.specs.Journal.Questions.{raised_by, raised, noted}
use Rattle.journal.proofs.JournalLemmas.Different.{Differ}
use Rattle.journal.proofs.JournalLemmas.Distinct.{any-distinct}
use Rattle.journal.proofs.JournalLemmas.Locality.{bytes_differ}
use Rattle.journal.proofs.JournalLemmas.Places.{test_at}
use Rattle.journal.proofs.JournalLemmas.Same.{same_triple_is, same_triple_itself, any_turned, moves}
use Rattle.claim_table.specs.declared.claim_table.row.Row.{Row}
use Rattle.claim_table.specs.ClaimTable.Rows.{is_of, is_raised, same_key}
use Rattle.claim_table.specs.CoreLaws.ClaimRows.{triple_on, AreClaims}
use Rattle.claim_table.proofs.CoreLawsLemmas.RaisedQuestions.{own_of}
use Rattle.claim_table.proofs.CoreLawsLemmas.Open.{row_triple, on_body, triple_is, rows_raise}

-- a body raises no triple of another
none_of : (told : List Told) (log : List Body) (c : Body) (t : Triple) → bytes_eq t.body c.bytes ≡ false → list_any (same_triple t) (raised_by told log c) ≡ false
none_of told log c t other = fails (raised_by told log c) (own_of told log c)
  where
    fails : (ts : List Triple) → list_all (λ u. bytes_eq u.body c.bytes) ts ≡ true → list_any (same_triple t) ts ≡ false
    fails [] h = refl
    fails (u ∷ ts) h =
        let parts = and_parts (bytes_eq u.body c.bytes) (list_all (λ u. bytes_eq u.body c.bytes) ts) h in
        let same : u.body ≡ c.bytes = (bytes_decides u.body c.bytes).0 parts.0 in
        let here : bytes_eq t.body u.body ≡ false = ap (bytes_eq t.body) same ∙ other in
        rw here (fails ts parts.1)

module _ (told : List Told) (log : List Body) (b : Body) (key : Key) (sig : Sig) where
  none_all : (held : List Body) → list_all (λ d. not (same_body b d)) held ≡ true → list_any (same_triple (triple_on b key sig)) (flat_map (raised_by told log) held) ≡ false
  none_all [] h = refl
  none_all (c ∷ held) h =
      let parts = and_parts (not (same_body b c)) (list_all (λ d. not (same_body b d)) held) h in
      let here = none_of told log c (triple_on b key sig) (not-true _ parts.0) in
      let there = none_all held parts.1 in
      list_any-append (same_triple (triple_on b key sig)) (raised_by told log c) (flat_map (raised_by told log) held) ∙ rw (here, there) refl

  -- on a body of a list what all raise is what that body raises
  pub any_raised : (held : List Body) → Differ same_body held → (n : ℕ) → slice_get held n ≡ Some b
      → list_any (same_triple (triple_on b key sig)) (flat_map (raised_by told log) held) ≡ list_any (same_triple (triple_on b key sig)) (raised_by told log b)
  any_raised [] d n at = cc
  any_raised (c ∷ held) d zero at =
      let same : c ≡ b = cc in
      let others : list_all (λ d. not (same_body b d)) held ≡ true = ap (λ x. list_all (λ d. not (same_body x d)) held) (sym same) ∙ d.0 in
      let none = none_all held others in
      list_any-append (same_triple (triple_on b key sig)) (raised_by told log c) (flat_map (raised_by told log) held)
      ∙ ap (λ y. list_any (same_triple (triple_on b key sig)) (raised_by told log c) || y) none
      ∙ or-false (list_any (same_triple (triple_on b key sig)) (raised_by told log c))
      ∙ ap (λ x. list_any (same_triple (triple_on b key sig)) (raised_by told log x)) same
  any_raised (c ∷ held) d (suc n) at =
      let other = bytes_differ c.bytes b.bytes (not-true _ (test_at (λ y. not (same_body c y)) held d.0 n b at)) in
      let none = none_of told log c (triple_on b key sig) other in
      list_any-append (same_triple (triple_on b key sig)) (raised_by told log c) (flat_map (raised_by told log) held)
      ∙ ap (λ y. y || list_any (same_triple (triple_on b key sig)) (flat_map (raised_by told log) held)) none
      ∙ any_raised held d.1 n at

pub any-map : {X Y : Type 0} (p : Y → Bool) (f : X → Y) (xs : List X) → list_any p (map f xs) ≡ list_any (λ x. p (f x)) xs
any-map p f [] = refl
any-map p f (x ∷ xs) = ap (λ y. p (f x) || y) (any-map p f xs)

pub any-when : {X : Type 0} (p q : X → Bool) (xs : List X) → list_any p (filter q xs) ≡ list_any (λ x. q x && p x) xs
any-when p q [] = refl
any-when p q (x ∷ xs) = elim (cases_Bool (q x)) [
  | inl k ↦ rw k (ap (λ y. p x || y) (any-when p q xs))
  | inr k ↦ rw k (any-when p q xs)
]

any-same : {X : Type 0} (p q : X → Bool) → ((x : X) → p x ≡ q x) → (xs : List X) → list_any p xs ≡ list_any q xs
any-same p q same xs = λ i. list_any (λ x. same x i) xs

module _ (told : List Told) (log held : List Body) (rows : List Row) (are : AreClaims told log held rows) (n : ℕ) (b : Body) (at : slice_get held n ≡ Some b) (key : Key) (sig : Sig) where
  -- a row that stands for the signature
  abbrev sample : Row
  sample = record { claimed = record { body = n; key = key; sig = sig; parts = record { index = None; reveal = None; backer = None } }; verdict = None }

  row_is : (r : Row) → (on_body n r && same_triple (triple_on b key sig) (row_triple b r)) ≡ is_of (record { body = n; key = key; sig = sig }) r
  row_is r = elim (cases_Bool (on_body n r)) [
    | inl k ↦ ap (λ y. y && same_triple (triple_on b key sig) (row_triple b r)) k ∙ triple_is n b sample r (number_itself n) k
    | inr k ↦ ap (λ y. y && same_triple (triple_on b key sig) (row_triple b r)) k
        ∙ sym (ap (λ y. y && (same_key r.claimed.key key && bytes_eq r.claimed.sig.raw sig.raw)) k)
  ]

  -- RAISED: a signature on a body is raised where a row has it
  pub raised_is : list_any (same_triple (triple_on b key sig)) (raised_by told log b) ≡ is_raised rows (record { body = n; key = key; sig = sig })
  raised_is =
      ap (list_any (same_triple (triple_on b key sig))) (sym (rows_raise told log held rows are n b at))
      ∙ any-map (same_triple (triple_on b key sig)) (row_triple b) (filter (on_body n) rows)
      ∙ any-when (λ r. same_triple (triple_on b key sig) (row_triple b r)) (on_body n) rows
      ∙ any-same (λ r. on_body n r && same_triple (triple_on b key sig) (row_triple b r)) (is_of (record { body = n; key = key; sig = sig })) row_is rows

  -- NOTED: what becomes of a verdict
  pub noted_is : (mode : Mode) (base : List Body) → held ≡ bodies base told → log ≡ accepted mode base told → Differ same_body held
      → noted mode base told (triple_on b key sig)
      ≡ (if is_raised rows (record { body = n; key = key; sig = sig }) then (if has_verdict told (triple_on b key sig) then Known else New) else Unasked)
  unfolding noted raised
  noted_is mode base held_is log_is differ =
      let t = triple_on b key sig in
      let all : list_any (same_triple t) (distinct same_triple (flat_map (raised_by told (accepted mode base told)) (bodies base told))) ≡ is_raised rows (record { body = n; key = key; sig = sig })
      = sym (any_turned same_triple same_triple_is same_triple_itself t (distinct same_triple (flat_map (raised_by told (accepted mode base told)) (bodies base told))))
      ∙ any-distinct same_triple (moves same_triple same_triple_is same_triple_itself) t (flat_map (raised_by told (accepted mode base told)) (bodies base told))
      ∙ any_turned same_triple same_triple_is same_triple_itself t (flat_map (raised_by told (accepted mode base told)) (bodies base told))
      ∙ ap (λ l. list_any (same_triple t) (flat_map (raised_by told l) (bodies base told))) (sym log_is)
      ∙ ap (λ h. list_any (same_triple t) (flat_map (raised_by told log) h)) (sym held_is)
      ∙ any_raised told log b key sig held differ n at ∙ raised_is in
      ap (λ y. if y then (if has_verdict told t then Known else New) else Unasked) all
