-- The good signatures on a body, found claim by claim and entry by entry, are those of the definition.
use Rattle.std.proofs.Common.{◌≡◌, ℕ, ◌+◌, ◌<◌, length, get_or, take, Bool, true, false, List, [], ◌∷◌, ◌++◌, Option, Some, None, refl, sym, ◌∙◌, ap, inl, inr}
use Rattle.std.specs.Prelude.{Contains, filter, filter_map, flat_map, option_map, slice_get}
use Rattle.std.specs.List.{cons_option}
use Rattle.std.specs.List.Sorted.{IsStrictlyIncreasing}
use Rattle.std.proofs.lemmas.Bool.{cases_Bool}
use Rattle.std.proofs.lemmas.List.{take_more}
use Rattle.std.proofs.lemmas.List.Elements.{filter_map-append}
use Rattle.journal.proofs.JournalLemmas.Locality.{flat_map-push}
use Rattle.cesr_codes.specs.declared.key.Key.{Key}
use Rattle.cesr_codes.specs.declared.sig.Sig.{Sig}
use Rattle.key_state.specs.Exposure.{Rules, own_rules}
use Rattle.key_state.specs.States.{State}
use Rattle.journal.specs.declared.journal.body.Body.{Body}
use Rattle.journal.specs.declared.journal.claim.Claim.{Claim}
use Rattle.journal.specs.declared.journal.entry.Entry.TheVariants.{Took}
use Rattle.journal.specs.Journal.History.{Told, claimed_key, claimed_sig, claims_on, triple_of}
use Rattle.journal.specs.Journal.Logs.{stands, state_behind}
use Rattle.journal.specs.Journal.Questions.{state_before}
use Rattle.journal.specs.Journal.Readiness.{good_sigs, held_sig, yes_to}
use Rattle.journal.specs.EventRules.Claims.{is_good, is_yes}
use Rattle.journal.specs.EventRules.Parts.{says_of}
use Rattle.validator_core.specs.Tables.AcceptedLog.Cuts.{cut}
use Rattle.validator_core.specs.Tables.Names.{name_of}
use Rattle.validator_core.specs.Tables.Raised.{claims_at}
use Rattle.validator_core.specs.Tables.View.{View, log_of}
use Rattle.validator_core.proofs.TablesLemmas.ToldClaims.{told_claims}
use Rattle.validator_core.specs.Acceptance.Footing.{IsFooting}
use Rattle.validator_core.specs.Acceptance.Standing.{AreSoundTables, told_of}
use Rattle.validator_core.specs.declared.acceptance.footing.Footing.TheVariants.{Inception, Behind}
use Rattle.validator_core.proofs.AcceptanceLemmas.Behind.{rules_cut}
use Rattle.validator_core.proofs.AcceptanceLemmas.FoundClaims.{first_has_none}
use Rattle.validator_core.specs.Acceptance.Entries.{says_in}
use Rattle.validator_core.proofs.AcceptanceLemmas.Verdicts.{said_is}
use Rattle.validator_core.specs.ValidatorCore.Signatures.{good_claim, good_in}

-- what is chosen of lists is chosen of them all
filter_map-flat_map : {X Y Z : Type 0} (g : Y → Option Z) (f : X → List Y) (xs : List X) → flat_map (λ x. filter_map g (f x)) xs ≡ filter_map g (flat_map f xs)
filter_map-flat_map g f [] = refl
filter_map-flat_map g f (x ∷ xs) = ap (λ zs. filter_map g (f x) ++ zs) (filter_map-flat_map g f xs) ∙ sym (filter_map-append g (f x) (flat_map f xs))

-- one more of a list
pub filter_map-more : {X Y : Type 0} (g : X → Option Y) (xs : List X) (i : ℕ) (x : X) → i < length xs → x ≡ get_or xs i x → filter_map g (take (i + 1) xs) ≡ filter_map g (take i xs) ++ cons_option (g x) []
filter_map-more g xs i x low is = ap (filter_map g) (take_more xs i x low ∙ ap (λ y. take i xs ++ y ∷ []) (sym is)) ∙ filter_map-append g (take i xs) (x ∷ [])

pub flat_map-more : {X Y : Type 0} (f : X → List Y) (xs : List X) (i : ℕ) (d : X) → i < length xs → flat_map f (take (i + 1) xs) ≡ flat_map f (take i xs) ++ f (get_or xs i d)
flat_map-more f xs i d low = ap (flat_map f) (take_more xs i d low) ∙ flat_map-push f (take i xs) (get_or xs i d)

module _ (told : List Told) (b : Body) (rules : Rules) (says : Key → Sig → Bool) (said : (key : Key) (sig : Sig) → says key sig ≡ says_of told b key sig) where
  -- a claim is good where a verdict says yes of its triple
  good_yes : (c : Claim) → is_good says rules c ≡ yes_to told (triple_of rules b c)
  good_yes c = by (claimed_key rules c)
    where
      by : (o : Option Key) → is_yes says o (claimed_sig c) ≡ yes_to told (option_map (λ k. record { body = b.bytes; key = k; sig = claimed_sig c }) o)
      by None = refl
      by (Some k) = said k (claimed_sig c)

  good_claims : (claims : List Claim) → filter_map (good_claim says rules) claims ≡ filter_map held_sig (filter (λ c. yes_to told (triple_of rules b c)) claims)
  good_claims [] = refl
  good_claims (c ∷ claims) = elim (cases_Bool (yes_to told (triple_of rules b c))) [
    | inl k ↦ (let yes : is_good says rules c ≡ true = good_yes c ∙ k in rw (k, yes) (ap (λ zs. cons_option (held_sig c) zs) (good_claims claims)))
    | inr k ↦ (let no : is_good says rules c ≡ false = good_yes c ∙ k in rw (k, no) (good_claims claims))
  ]

module _ (v : View) (is : AreSoundTables v) (n : ℕ) (b : Body) (at : slice_get v.held n ≡ Some b) where
  -- ALL: those that came by the entries with the name of the body
  pub all_good : (s : Option State) (places : List ℕ) → IsStrictlyIncreasing places
      → ((i reader m : ℕ) (claims : List Claim) (c : Body) → slice_get v.entries i ≡ Some (Took reader m claims) → slice_get v.held m ≡ Some c → name_of c.event ≡ name_of b.event → Contains places i)
      → flat_map (λ i. filter_map (good_claim (says_in v.claims.rows n) (own_rules s b.event)) (claims_at v.held b (slice_get v.entries i))) places ≡ good_sigs (told_of v) s b
  unfolding good_sigs
  all_good s places rising all =
      filter_map-flat_map (good_claim (says_in v.claims.rows n) (own_rules s b.event)) (λ i. claims_at v.held b (slice_get v.entries i)) places
      ∙ ap (filter_map (good_claim (says_in v.claims.rows n) (own_rules s b.event))) (told_claims v.held is.differ n b at v.entries places rising all)
      ∙ good_claims (told_of v) b (own_rules s b.event) (says_in v.claims.rows n) (said_is (told_of v) (log_of v) v.held v.claims.rows is.claims n b at) (claims_on (told_of v) b)

-- a state with other live events has the same good signatures
good_cut : (told : List Told) (k : ℕ) (s : State) (b : Body) → good_sigs told (Some s) b ≡ good_sigs told (Some (cut k s)) b
unfolding good_sigs
good_cut told k s b = ap (λ r. filter_map held_sig (filter (λ c. yes_to told (triple_of r b c)) (claims_on told b))) (sym (rules_cut k s b.event))

module _ (v : View) (b : Body) where
  -- FOOTING: those of an inception are behind no state, those of another event behind the state of its predecessor
  pub good_first : IsFooting (log_of v) v.log b Inception → good_sigs (told_of v) None b ≡ good_in (told_of v) (log_of v) b
  good_first f =
      let none : state_before (log_of v) b ≡ None = ap (state_behind (log_of v)) (first_has_none (log_of v) b f.is) in
      let up = f.up in rw up (ap (λ o. good_sigs (told_of v) o b) (sym none))

  pub good_behind : (place : ℕ) → IsFooting (log_of v) v.log b (Behind place) → good_sigs (told_of v) (slice_get v.log.states place) b ≡ good_in (told_of v) (log_of v) b
  good_behind place f =
      let up = f.up in
      rw up (ap (λ o. good_sigs (told_of v) o b) f.is.at ∙ good_cut (told_of v) f.is.sn f.is.state b ∙ ap (λ o. good_sigs (told_of v) o b) (sym f.is.before))

  pub good_down : stands (log_of v) b ≡ false → [] ≡ good_in (told_of v) (log_of v) b
  good_down down = rw down refl
