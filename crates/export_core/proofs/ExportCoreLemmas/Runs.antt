-- The messages of the runs of claims.
use Rattle.std.proofs.Common.{◌≡◌, ◌+◌, ◌≤◌, ◌<◌, ℕ, zero, suc, true, false, List, [], ◌∷◌, ◌++◌, map, length, take, drop, refl, sym, ◌∙◌, ap, subst, arith, append_assoc}
use Rattle.std.specs.Prelude.{nat_le}
use Rattle.std.proofs.lemmas.Bool.Decides.{nat_tests}
use Rattle.journal.specs.declared.journal.claim.Claim.{Claim}
use Rattle.export_core.specs.ExportLaws.Export.{runs_by}
use Rattle.export_core.specs.ExportCore.Messages.{AreTexts, PutsCut, PutsMessage, PutsRuns}
use Rattle.export_core.proofs.ExportCoreLemmas.Texts.{one_text, ordered_texts}

at_most : (m n : ℕ) → m ≤ n → nat_le m n ≡ true
at_most m n h = grind (arith, nat_tests, h)

more_than : (m n : ℕ) → n < m → nat_le m n ≡ false
more_than m n h = grind (arith, nat_tests, h)

runs_short : (n : ℕ) (xs : List Claim) → length xs ≤ 1023 → runs_by n 1023 xs ≡ xs ∷ []
unfolding runs_by
runs_short zero xs few = refl
runs_short (suc n) xs few = (let k = at_most (length xs) 1023 few in rw k refl)

runs_long : (m : ℕ) (xs : List Claim) → 1023 < length xs → runs_by (suc m) 1023 xs ≡ take 1023 xs ∷ runs_by m 1023 (drop 1023 xs)
unfolding runs_by
runs_long m xs many = (let k = more_than (length xs) 1023 many in rw k refl)

-- so many cuts are enough for what is left, and with the messages of that those of all are put
module _ (bytes : List ℕ) (first : Claim) (rest : List Claim) (old : List ℕ) where
  pub record IsLeft (left : List Claim) (text : List ℕ) : Type 0 where
    pub cuts : ℕ
    pub enough : length left ≤ cuts
    pub whole : (later : List ℕ) → AreTexts bytes (map (λ run. first ∷ run) (runs_by cuts 1023 left)) later → PutsRuns bytes first (length rest) rest old (text ++ later)

  pub all_left : IsLeft rest old
  all_left = record { cuts = length rest; enough = omega arith; whole = λ later are. (later, are, refl) }

  pub less_left : (left : List Claim) (text : List ℕ) → IsLeft left text → 1023 < length left → (new : List ℕ) → PutsMessage bytes (first ∷ take 1023 left) text new
      → length (drop 1023 left) + 1 ≤ length left → IsLeft (drop 1023 left) new
  less_left left text is many new put less = by is.cuts is.enough is.whole
    where
      by : (n : ℕ) → length left ≤ n → ((later : List ℕ) → AreTexts bytes (map (λ run. first ∷ run) (runs_by n 1023 left)) later → PutsRuns bytes first (length rest) rest old (text ++ later)) → IsLeft (drop 1023 left) new
      by zero enough whole = absurd (omega (arith, enough, many))
      by (suc m) enough whole = record {
        cuts = m;
        enough = omega (arith, enough, less);
        whole = λ later are. subst (λ t. PutsRuns bytes first (length rest) rest old t) (sym (append_assoc text put.0 later) ∙ ap (λ t. t ++ later) (sym put.2))
            (whole (put.0 ++ later) (subst (λ runs. AreTexts bytes (map (λ run. first ∷ run) runs) (put.0 ++ later)) (sym (runs_long m left many)) (put.0, later, put.1, are, refl)));
      }

  pub none_left : (left : List Claim) (text : List ℕ) → IsLeft left text → length left ≤ 1023 → (new : List ℕ) → PutsMessage bytes (first ∷ left) text new → PutsRuns bytes first (length rest) rest old new
  none_left left text is few new put = subst (λ t. PutsRuns bytes first (length rest) rest old t) (sym put.2)
      (is.whole put.0 (subst (λ runs. AreTexts bytes (map (λ run. first ∷ run) runs) put.0) (sym (runs_short is.cuts left few)) (one_text bytes (first ∷ left) put.0 put.1)))

-- CUT: the messages of all claims, of one at least, and of none
pub cut_some : (bytes : List ℕ) (first : Claim) (rest : List Claim) (old new : List ℕ) → PutsRuns bytes first (length rest) rest old new → PutsCut bytes (first ∷ rest) old new
cut_some bytes first rest old new put = (put.0, ordered_texts bytes (λ run. first ∷ run) (runs_by (length rest) 1023 rest) put.0 put.1, put.2)

pub cut_none : (bytes old new : List ℕ) → PutsMessage bytes [] old new → PutsCut bytes [] old new
cut_none bytes old new put = (put.0, one_text bytes [] put.0 put.1, put.2)
