-- The claims whose keys are found.
use Rattle.std.proofs.Common.{◌≡◌, Bool, false, ◌&&◌, ◌||◌, ◌==◌, List, [], ◌∷◌, map, Option, Some, None, refl, sym, ◌∙◌, ap}
use Rattle.std.specs.Prelude.{filter_map}
use Rattle.std.specs.List.{list_any}
use Rattle.std.proofs.Math.Bool.{and-false}
use Rattle.cesr_codes.specs.declared.indexed_sig.IndexedSig.{IndexedSig}
use Rattle.cesr_codes.specs.declared.key.Key.{Key}
use Rattle.cesr_codes.specs.declared.sig.Sig.{Sig}
use Rattle.key_state.specs.Exposure.{Rules, own_rules}
use Rattle.key_state.specs.States.{State}
use Rattle.journal.specs.declared.journal.body.Body.{Body}
use Rattle.journal.specs.declared.journal.claim.Claim.{Claim}
use Rattle.journal.specs.declared.journal.claim.Claim.TheVariants.{Controller, Witness, Couple}
use Rattle.journal.specs.Journal.History.{claimed_key, claimed_sig, triple_of}
use Rattle.journal.specs.EventRules.Claims.{is_held_so, is_yes}
use Rattle.journal.specs.EventRules.Parts.{Part, index, reveal, backer, opens_at, parts_in}
use Rattle.journal.specs.EventRules.Claims.{is_held_as}
use Rattle.journal.specs.EventRules.Parts.{Row, brings}
use Rattle.claim_table.specs.CoreLaws.Claimed.{rows_of, RowsLaw}

triples_are : (rules : Rules) (b : Body) (claims : List Claim) → filter_map (triple_of rules b) claims ≡ map (λ r. record { body = b.bytes; key = r.key; sig = claimed_sig r.claim }) (rows_of rules claims)
triples_are rules b [] = refl
triples_are rules b (c ∷ claims) = elim (claimed_key rules c) as (λ k. claimed_key rules c ≡ k → filter_map (triple_of rules b) (c ∷ claims) ≡ map (λ r. record { body = b.bytes; key = r.key; sig = claimed_sig r.claim }) (rows_of rules (c ∷ claims))) [
  | None ↦ (λ e. rw e (triples_are rules b claims))
  | Some k ↦ (λ e. rw e (ap (λ ts. record { body = b.bytes; key = k; sig = claimed_sig c } ∷ ts) (triples_are rules b claims)))
] refl

-- a test of claims by their keys
held_is : (says : Key → Sig → Bool) (rules : Rules) (test : IndexedSig → Bool) (c : Claim) → is_held_so says rules test c ≡ (is_yes says (claimed_key rules c) (claimed_sig c) && is_held_as test c)
held_is says rules test (Controller g) = refl
held_is says rules test (Witness g) = sym (and-false (is_yes says (claimed_key rules (Witness g)) g.sig))
held_is says rules test (Couple key sig) = sym (and-false (is_yes says (claimed_key rules (Couple key sig)) sig))

any_row : (says : Key → Sig → Bool) (rules : Rules) (test : IndexedSig → Bool) (claims : List Claim)
    → list_any (is_held_so says rules test) claims ≡ list_any (λ r. says r.key (claimed_sig r.claim) && is_held_as test r.claim) (rows_of rules claims)
any_row says rules test [] = refl
any_row says rules test (c ∷ claims) = ap (λ y. y || list_any (is_held_so says rules test) claims) (held_is says rules test c)
    ∙ elim (claimed_key rules c) as (λ k. claimed_key rules c ≡ k → ((is_yes says (claimed_key rules c) (claimed_sig c) && is_held_as test c) || list_any (is_held_so says rules test) claims)
    ≡ list_any (λ r. says r.key (claimed_sig r.claim) && is_held_as test r.claim) (rows_of rules (c ∷ claims))) [
      | None ↦ (λ e. rw e (any_row says rules test claims))
      | Some k ↦ (λ e. rw e (ap (λ y. (says k (claimed_sig c) && is_held_as test c) || y) (any_row says rules test claims)))
    ] refl

none_brought : (rows : List Row) → false ≡ list_any (λ r. false) rows
none_brought [] = refl
none_brought (r ∷ rows) = none_brought rows

parts_are : (says : Key → Sig → Bool) (s : Option State) (b : Body) (claims : List Claim) (p : Part) → parts_in says s b.event claims p ≡ list_any (brings says s b.event p) (rows_of (own_rules s b.event) claims)
parts_are says s b claims (index n) = any_row says (own_rules s b.event) (λ g. g.index == n) claims
parts_are says s b claims (reveal n) = any_row says (own_rules s b.event) (opens_at s b.event n) claims
parts_are says s b claims (backer n) = none_brought (rows_of (own_rules s b.event) claims)

-- ROWS
pub rows_are : RowsLaw
rows_are says s b claims = record { triples = triples_are (own_rules s b.event) b claims; parts = parts_are says s b claims }
