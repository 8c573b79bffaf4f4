-- The claims on a body whose keys are found, each with its key: one for each claim, also where two have one key and signature.
use Rattle.std.specs.Prelude.{◌≡◌, Bool, List, map, filter_map, Option, option_map}
use Rattle.std.specs.List.{list_any}
use Rattle.cesr_codes.specs.declared.key.Key.{Key}
use Rattle.cesr_codes.specs.declared.sig.Sig.{Sig}
use Rattle.key_state.specs.Exposure.{Rules, own_rules}
use Rattle.key_state.specs.States.{State}
use Rattle.journal.specs.declared.journal.body.Body.{Body}
use Rattle.journal.specs.declared.journal.claim.Claim.{Claim}
use Rattle.journal.specs.Journal.History.{claimed_key, claimed_sig, triple_of}
use Rattle.journal.specs.EventRules.Parts.{Part, Row, brings, parts_in}

-- a claim with its key, where that is found
abbrev pub row_of : Rules → Claim → Option Row
row_of rules c = option_map (λ k. record { claim = c; key = k }) (claimed_key rules c)

abbrev pub rows_of : Rules → List Claim → List Row
rows_of rules claims = filter_map (row_of rules) claims

-- ROWS: the triples of claims are those of their rows, and their parts are what the rows bring
pub record AreRows (says : Key → Sig → Bool) (s : Option State) (b : Body) (claims : List Claim) : Type 0 where
  pub triples : filter_map (triple_of (own_rules s b.event) b) claims
      ≡ map (λ r. record { body = b.bytes; key = r.key; sig = claimed_sig r.claim }) (rows_of (own_rules s b.event) claims)
  pub parts : (p : Part) → parts_in says s b.event claims p ≡ list_any (brings says s b.event p) (rows_of (own_rules s b.event) claims)

abbrev pub RowsLaw : Type 0
RowsLaw = (says : Key → Sig → Bool) (s : Option State) (b : Body) (claims : List Claim) → AreRows says s b claims
