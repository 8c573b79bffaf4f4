-- What the claims on an event add up to, entry by entry and by the verdicts of a table, is what was told.
use Rattle.std.proofs.Common.{◌≡◌, ℕ, Bool, ◌||◌, List, [], ◌∷◌, Option, Some, refl, ◌∙◌, ap}
use Rattle.std.specs.Prelude.{Contains, flat_map, slice_get}
use Rattle.std.specs.List.{list_any}
use Rattle.std.specs.List.Sorted.{IsStrictlyIncreasing}
use Rattle.std.proofs.lemmas.List.Folds.{list_any-append}
use Rattle.key_state.specs.States.{State}
use Rattle.journal.specs.declared.journal.body.Body.{Body}
use Rattle.journal.specs.declared.journal.claim.Claim.{Claim}
use Rattle.journal.specs.declared.journal.entry.Entry.TheVariants.{Took}
use Rattle.journal.specs.Journal.History.{claims_on}
use Rattle.journal.specs.EventRules.Parts.{Part, parts_by, supports}
use Rattle.journal.proofs.EventRulesLemmas.Supported.{claims_are}
use Rattle.claim_table.specs.ClaimTable.Rows.{has_yes_by}
use Rattle.validator_core.specs.Tables.Names.{name_of}
use Rattle.validator_core.specs.Tables.View.{View, log_of}
use Rattle.validator_core.proofs.TablesLemmas.ToldClaims.{told_claims}
use Rattle.validator_core.specs.Acceptance.Standing.{AreSoundTables, told_of}
use Rattle.validator_core.specs.Acceptance.Entries.{claims_of, claims_there, says_in}
use Rattle.validator_core.proofs.AcceptanceLemmas.Verdicts.{backed_is, said_is}

-- a list of lists passes a test where one of these does
pub any_flat : {X Y : Type 0} (test : Y → Bool) (f : X → List Y) (xs : List X) → list_any test (flat_map f xs) ≡ list_any (λ x. list_any test (f x)) xs
any_flat test f [] = refl
any_flat test f (x ∷ xs) = list_any-append test (f x) (flat_map f xs) ∙ ap (λ y. list_any test (f x) || y) (any_flat test f xs)

module _ (v : View) (is : AreSoundTables v) (n : ℕ) (b : Body) (at : slice_get v.held n ≡ Some b) where
  -- CLAIMS: all that stand on the body came by the entries with its name
  module _ (entries : List ℕ) (rising : IsStrictlyIncreasing entries)
      (all : (i reader m : ℕ) (claims : List Claim) (c : Body) → slice_get v.entries i ≡ Some (Took reader m claims) → slice_get v.held m ≡ Some c → name_of c.event ≡ name_of b.event → Contains entries i) where
    claims_are_all : claims_of v entries n ≡ claims_on (told_of v) b
    claims_are_all = ap (λ o. flat_map (claims_there v o) entries) at ∙ told_claims v.held is.differ n b at v.entries entries rising all

    -- SUPPORT
    pub entries_support : (s : Option State) (p : Part)
        → parts_by (says_in v.claims.rows n) (has_yes_by v.claims.rows n) s b.event (claims_of v entries n) p ≡ supports (told_of v) s b p
    entries_support s p = ap (λ claims. parts_by (says_in v.claims.rows n) (has_yes_by v.claims.rows n) s b.event claims p) claims_are_all
        ∙ claims_are (told_of v) s b (says_in v.claims.rows n) (has_yes_by v.claims.rows n) (said_is (told_of v) (log_of v) v.held v.claims.rows is.claims n b at) (backed_is (told_of v) (log_of v) v.held v.claims.rows is.claims n b at) p
