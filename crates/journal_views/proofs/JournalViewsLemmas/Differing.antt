-- Bodies that differ from each one behind them have bytes that differ pairwise.
use Rattle.std.proofs.Common.{◌≡◌, true, false, not, List, [], ◌∷◌, map, inl, inr, arith}
use Rattle.std.specs.Prelude.{All, AllPairs, bytes_eq}
use Rattle.std.specs.List.{list_all}
use Rattle.std.proofs.lemmas.Bool.{cases_Bool, and_parts}
use Rattle.std.proofs.lemmas.List.Elements.{All-cons}
use Rattle.std.proofs.lemmas.List.Kept.{AllPairs-cons}
use Rattle.journal.specs.declared.journal.body.Body.{Body}
use Rattle.journal.specs.Journal.Logs.{same_body}
use Rattle.journal.proofs.JournalLemmas.Different.{Differ}

others : (b : Body) (bodies : List Body) → list_all (λ c. not (same_body b c)) bodies ≡ true → All (λ x. bytes_eq b.bytes x ≡ false) (map (λ c. c.bytes) bodies)
others b [] h = λ k d h. absurd (omega (arith, h))
others b (c ∷ bodies) h =
    let parts = and_parts (not (same_body b c)) (list_all (λ c. not (same_body b c)) bodies) h in
    All-cons (λ x. bytes_eq b.bytes x ≡ false) c.bytes (map (λ c. c.bytes) bodies) (elim (cases_Bool (same_body b c)) [ inl k ↦ cc | inr k ↦ k ]) (others b bodies parts.1)

pub pairs-from-differ : (bodies : List Body) → Differ same_body bodies → AllPairs (λ x y. bytes_eq x y ≡ false) (map (λ b. b.bytes) bodies)
pairs-from-differ [] d = λ i j d lt h. absurd (omega (arith, h))
pairs-from-differ (b ∷ bodies) d = AllPairs-cons (λ x y. bytes_eq x y ≡ false) b.bytes (map (λ b. b.bytes) bodies) (others b bodies d.0) (pairs-from-differ bodies d.1)
