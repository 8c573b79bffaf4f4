-- The bodies of a journal once one more entry comes.
use Rattle.std.proofs.Common.{◌≡◌, ℕ, Bool, true, false, List, [], ◌∷◌, ◌++◌, refl, sym, ◌∙◌, ap, append_assoc, append-nil}
use Rattle.std.specs.Prelude.{flat_map}
use Rattle.std.specs.List.{list_any}
use Rattle.cesr_codes.specs.declared.key.Key.{Key}
use Rattle.cesr_codes.specs.declared.sig.Sig.{Sig}
use Rattle.key_state.specs.Same.{distinct}
use Rattle.journal.specs.declared.journal.body.Body.{Body}
use Rattle.journal.specs.declared.journal.claim.Claim.{Claim}
use Rattle.journal.specs.Journal.History.{Told, took, heard, taken, bodies}
use Rattle.journal.specs.Journal.Logs.{same_body, is_in}
use Rattle.journal.proofs.JournalLemmas.Distinct.{any-distinct, distinct-push_new, distinct-push_old, same_body-moves}
use Rattle.journal.proofs.JournalLemmas.Locality.{flat_map-push}

module _ (base : List Body) (told : List Told) where
  -- all that came, repetitions included
  abbrev all : List Body
  all = base ++ flat_map taken told

  more : (t : Told) → bodies base (told ++ t ∷ []) ≡ distinct same_body (all ++ taken t)
  unfolding bodies
  more t = ap (λ xs. distinct same_body (base ++ xs)) (flat_map-push taken told t) ∙ ap (distinct same_body) (sym (append_assoc base (flat_map taken told) (taken t)))

  before : bodies base told ≡ distinct same_body all
  unfolding bodies
  before = refl

  among : (b : Body) → is_in (bodies base told) b ≡ list_any (λ y. same_body y b) all
  among b = ap (λ bs. is_in bs b) before ∙ any-distinct same_body same_body-moves b all

  -- NEW: one that wasn't there is last
  pub bodies_new : (reader : ℕ) (b : Body) (claims : List Claim) → is_in (bodies base told) b ≡ false → bodies base (told ++ took reader b claims ∷ []) ≡ bodies base told ++ b ∷ []
  bodies_new reader b claims outside = more (took reader b claims) ∙ distinct-push_new same_body b all (sym (among b) ∙ outside) ∙ ap (λ bs. bs ++ b ∷ []) (sym before)

  -- OLD: one that was adds nothing
  pub bodies_old : (reader : ℕ) (b : Body) (claims : List Claim) → is_in (bodies base told) b ≡ true → bodies base (told ++ took reader b claims ∷ []) ≡ bodies base told
  bodies_old reader b claims inside = more (took reader b claims) ∙ distinct-push_old same_body b all (sym (among b) ∙ inside) ∙ sym before

  -- and so does a verdict
  pub bodies_heard : (reader : ℕ) (b : Body) (key : Key) (sig : Sig) (verdict : Bool) → bodies base (told ++ heard reader b key sig verdict ∷ []) ≡ bodies base told
  bodies_heard reader b key sig verdict = more (heard reader b key sig verdict) ∙ ap (distinct same_body) (append-nil all) ∙ sym before
