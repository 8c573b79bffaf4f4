-- What a writer does that is steady: each call goes on from what is shown, and none begins or ends to show it.
use Rattle.std.proofs.Common.{◌≡◌, ℕ, zero, suc, ◌+◌, ◌-◌, List, [], ◌∷◌, ◌++◌, length, take, drop, refl, sym, ◌∙◌, ap, arith, append_assoc, length-drop, Option, None, Some, is_some}
use Rattle.std.proofs.lemmas.Bool.{true≢false, false≢true}
use Rattle.std.proofs.lemmas.List.{take_all}
use Rattle.std.specs.Io.KnownBytes.{Keeps, Appends}
use Rattle.lists.specs.KeriSpecs.Shown.{after}

-- what keeps shown bytes, and shows none where none were, keeps what is shown
pub keeps_same : (old new : Option (List ℕ)) → is_some new ≡ is_some old → Keeps old new → new ≡ old
keeps_same None None same keeps = refl
keeps_same None (Some ys) same keeps = absurd (true≢false same)
keeps_same (Some xs) None same keeps = absurd (false≢true same)
keeps_same (Some xs) (Some ys) same keeps = ap Some keeps

-- and what appends to them adds to it
pub appends_same : (old new : Option (List ℕ)) (bytes : List ℕ) → is_some new ≡ is_some old → Appends old new bytes → new ≡ after old bytes
appends_same None None bytes same appends = refl
appends_same None (Some ys) bytes same appends = absurd (true≢false same)
appends_same (Some xs) None bytes same appends = absurd (false≢true same)
appends_same (Some xs) (Some ys) bytes same appends = ap Some appends

take_none : (n : ℕ) → [] ≡ take {A = ℕ} n []
take_none zero = refl
take_none (suc n) = refl

-- the first bytes, and some more behind them
take_further : (m n : ℕ) (bytes : List ℕ) → take m bytes ++ take n (drop m bytes) ≡ take (m + n) bytes
take_further zero n bytes = ap (λ (k : ℕ). take k bytes) (omega arith)
take_further (suc m) n [] = sym (take_none n) ∙ take_none (suc m + n)
take_further (suc m) n (b ∷ bytes) =
    let one : suc (m + n) ≡ suc m + n = omega arith in
    ap (λ (rest : List ℕ). b ∷ rest) (take_further m n bytes) ∙ ap (λ (k : ℕ). take k (b ∷ bytes)) one

after_twice : (shown : Option (List ℕ)) (xs ys : List ℕ) → after (after shown xs) ys ≡ after shown (xs ++ ys)
after_twice None xs ys = refl
after_twice (Some all) xs ys = ap Some (append_assoc all xs ys)

-- the bytes that are done, and n more of the rest
pub adds_more : (first old new : Option (List ℕ)) (bytes : List ℕ) (done n : ℕ) → is_some new ≡ is_some old
    → old ≡ after first (take done bytes) → Appends old new (take n (take (length bytes - done) (drop done bytes)))
    → new ≡ after first (take (done + n) bytes)
adds_more first old new bytes done n same before appends =
    let rest : take (length bytes - done) (drop done bytes) ≡ drop done bytes = take_all (length bytes - done) (drop done bytes) (simp length-drop (omega arith)) in
    appends_same old new (take n (take (length bytes - done) (drop done bytes))) same appends
    ∙ ap (λ (more : List ℕ). after old (take n more)) rest
    ∙ ap (λ (shown : Option (List ℕ)). after shown (take n (drop done bytes))) before
    ∙ after_twice first (take done bytes) (take n (drop done bytes)) ∙ ap (after first) (take_further done n bytes)
