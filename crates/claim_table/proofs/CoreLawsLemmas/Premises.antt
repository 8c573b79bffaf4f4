-- What the laws ask can be met, and is needed.
use Rattle.std.proofs.Common.{◌≡◌, ℕ, zero, suc, ◌+◌, ◌<◌, true, false, Bool, List, [], ◌∷◌, Some, Contains, All, slice_get, refl, sym, ◌∙◌, ap, subst, arith, not, nat_lt, ◌&&◌, ◌||◌, ◌==◌}
use Rattle.std.specs.Prelude.{count_by}
use Rattle.std.specs.List.{list_any, list_all}
use Rattle.std.proofs.lemmas.Bool.{and_parts, ltb-true}
use Rattle.std.proofs.lemmas.List.Elements.{All-nil, All-cons}
use Rattle.std.proofs.lemmas.Map.Views.{Contains-from_any}
use Rattle.std.specs.Fmt.{digits}
use Rattle.lists.specs.KeriSpecs.Base64.{digits_in}
use Rattle.event_body.specs.declared.event_body.event.Event.TheVariants.{Icp, Rot}
use Rattle.event_body.specs.EventBody.Events.{sn_of}
use Rattle.key_state.specs.Exposure.{exposed, numbers_below}
use Rattle.key_state.specs.KeyStates.{misfit}
use Rattle.key_state.specs.Same.{distinct}
use Rattle.key_state.proofs.Same.{numbers}
use Rattle.sith.specs.declared.threshold.Threshold.TheVariants.{Count}
use Rattle.claim_table.proofs.CoreLawsLemmas.SampleEvents.{witness, digest, identifier, begin, ixn, rot}
use Rattle.sith.specs.Tests.{satisfied}
use Rattle.journal.specs.declared.journal.body.Body.{Body}
use Rattle.journal.specs.declared.journal.claim.Claim.TheVariants.{Couple}
use Rattle.journal.specs.declared.journal.mode.Mode.TheVariants.{Full}
use Rattle.journal.specs.Journal.Logs.{state, takes, predecessor, up_to}
use Rattle.journal.specs.Journal.Seals.{anchored, seals}
use Rattle.journal.specs.Journal.History.{Told, took, heard, bodies, claims_on, said_yes}
use Rattle.journal.specs.Journal.Questions.{state_before}
use Rattle.journal.specs.Journal.Readiness.{is_ready, signed, good_sigs, backers, backs}
use Rattle.journal.specs.Journal.Accepted.{accepted}
use Rattle.journal.specs.Journal.Grown.{IsGrown, fits}
use Rattle.journal.proofs.JournalLemmas.Keeping.{IsGrown-push}
use Rattle.journal.proofs.JournalLemmas.Premises.{nothing_grown}
use Rattle.claim_table.specs.CoreLaws.Candidates.{Runs, ends, passes, appends, Widens}
use Rattle.claim_table.specs.CoreLaws.Entries.{HaveNamed, names}
use Rattle.claim_table.specs.CoreLaws.Looks.{appended_in, IsClear, is_counted, IsFrugal, looks, times}
use Rattle.claim_table.specs.CoreLaws.Standing.{AreAlikeIf, HasNoClash}
use Rattle.journal.specs.EventRules.Parts.{index, supports}
use Rattle.claim_table.specs.CoreLaws.Waking.{may_wake, wakes}
use Rattle.claim_table.proofs.CoreLawsLemmas.Examples.{delegator, first_seal, delegated, rotation, second_seal, held_up, let_go, yes_on, nothing_before, at_first, signature, first_look, second_look}
use Rattle.claim_table.proofs.CoreLawsLemmas.Entries.{entry_settles}

-- the five bodies
abbrev all : List Body
all = delegator ∷ first_seal ∷ delegated ∷ rotation ∷ second_seal ∷ []

held_are : bodies [] let_go ≡ all
unfolding bodies distinct
held_are = refl

-- the candidates once an event is appended behind a list: those left, and those that it wakes
abbrev Wider : List Body → Body → List ℕ → List ℕ → Type 0
Wider = Widens (is_ready Full let_go) (wakes Full) all

-- wider candidates, by tests
module _ (log : List Body) (c : Body) (left due : List ℕ) where
  abbrev has : ℕ → Bool
  has n = list_any (λ m. m == n) due

  abbrev have_woken : List Body → ℕ → Bool
  have_woken [] n = true
  have_woken (b ∷ bs) n = (not (wakes Full log c b) || has n) && have_woken bs (suc n)

  found : (n : ℕ) → has n ≡ true → Contains due n
  found n h = Contains-from_any (λ m k same. sym (numbers k m same)) n due h

  woken_at : (bs : List Body) (k n : ℕ) (b : Body) → have_woken bs k ≡ true → slice_get bs n ≡ Some b → wakes Full log c b ≡ true → has (k + n) ≡ true
  woken_at [] k n b h at w = cc
  woken_at (x ∷ bs) k zero b h at w =
      let is : x ≡ b = cc in
      let here = (and_parts (not (wakes Full log c x) || has k) (have_woken bs (suc k)) h).0 in
      let w' : wakes Full log c x ≡ true = ap (wakes Full log c) is ∙ w in
      let inside : has k ≡ true = rw w' at here in
      subst (λ m. has m ≡ true) (omega arith) inside
  woken_at (x ∷ bs) k (suc n) b h at w =
      let later = woken_at bs (suc k) n b (and_parts (not (wakes Full log c x) || has k) (have_woken bs (suc k)) h).1 at w in
      subst (λ m. has m ≡ true) (omega arith) later

  wider : list_all has left ≡ true → have_woken all 0 ≡ true → Wider log c left due
  wider keeps woken = record {
    keeps = λ n inside. found n (kept left n keeps inside);
    woken = λ n b at w. found n (subst (λ m. has m ≡ true) (omega arith) (woken_at all 0 n b woken at w));
  }
    where
      kept : (left : List ℕ) (n : ℕ) → list_all has left ≡ true → Contains left n → has n ≡ true
      kept [] n h inside = absurd (omega (arith, inside.1))
      kept (m ∷ left) n h (zero, inside, at) = subst (λ m. has m ≡ true) at (and_parts (has m) (list_all has left) h).0
      kept (m ∷ left) n h (suc k, inside, at) = kept left n (and_parts (has m) (list_all has left) h).1 (k, omega (arith, inside), at)

-- less than all of these
below : (n : ℕ) (left : List ℕ) → list_all (nat_lt n) left ≡ true → All (λ m. n < m) left
below n [] h = All-nil (λ m. n < m)
below n (m ∷ left) h = (let parts = and_parts (nat_lt n m) (list_all (nat_lt n) left) h in All-cons (λ m. n < m) m left (ltb-true n m parts.0) (below n left parts.1))

-- WAKES: the delegator's inception wakes the event behind it; the first seal wakes the delegated inception and the event behind
-- itself; that inception wakes the rotation; the second seal wakes the rotation again
wider_0 : Wider [] delegator [] (1 ∷ [])
unfolding seals digits_in digits state misfit predecessor anchored
wider_0 = wider [] delegator [] (1 ∷ []) refl refl

wider_1 : Wider (delegator ∷ []) first_seal [] (2 ∷ 4 ∷ [])
unfolding seals digits_in digits state misfit predecessor anchored
wider_1 = wider (delegator ∷ []) first_seal [] (2 ∷ 4 ∷ []) refl refl

wider_2 : Wider (delegator ∷ first_seal ∷ []) delegated (4 ∷ []) (3 ∷ 4 ∷ [])
unfolding seals digits_in digits state misfit predecessor anchored
wider_2 = wider (delegator ∷ first_seal ∷ []) delegated (4 ∷ []) (3 ∷ 4 ∷ []) refl refl

wider_3 : Wider (delegator ∷ first_seal ∷ delegated ∷ []) second_seal [] (3 ∷ [])
unfolding seals digits_in digits state misfit predecessor anchored
wider_3 = wider (delegator ∷ first_seal ∷ delegated ∷ []) second_seal [] (3 ∷ []) refl refl

wider_4 : Wider (delegator ∷ first_seal ∷ delegated ∷ second_seal ∷ []) rotation [] []
unfolding seals digits_in digits state misfit predecessor anchored
wider_4 = wider (delegator ∷ first_seal ∷ delegated ∷ second_seal ∷ []) rotation [] [] refl refl

-- with fewer candidates it isn't so: the rotation left out after the second seal
too_few : Wider (delegator ∷ first_seal ∷ delegated ∷ []) second_seal [] [] → ⊥
unfolding seals digits_in digits state misfit predecessor anchored
too_few w = (let inside = w.woken 3 rotation refl refl in omega (arith, inside.1))

ready_0 : is_ready Full let_go [] delegator ≡ true
unfolding is_ready state misfit signed good_sigs said_yes claims_on satisfied backers backs anchored exposed numbers_below seals digits_in digits distinct
ready_0 = refl

ready_1 : is_ready Full let_go (delegator ∷ []) first_seal ≡ true
unfolding is_ready state misfit signed good_sigs said_yes claims_on satisfied backers backs anchored exposed numbers_below seals digits_in digits distinct
ready_1 = refl

ready_2 : is_ready Full let_go (delegator ∷ first_seal ∷ []) delegated ≡ true
unfolding is_ready state misfit signed good_sigs said_yes claims_on satisfied backers backs anchored exposed numbers_below seals digits_in digits distinct
ready_2 = refl

ready_4 : is_ready Full let_go (delegator ∷ first_seal ∷ delegated ∷ []) second_seal ≡ true
unfolding is_ready state misfit signed good_sigs said_yes claims_on satisfied backers backs anchored exposed numbers_below seals digits_in digits distinct
ready_4 = refl

not_yet : (b : Body) → slice_get all 3 ≡ Some b → is_ready Full let_go (delegator ∷ first_seal ∷ delegated ∷ []) b ≡ false
not_yet b at = (let is : rotation ≡ b = cc in ap (is_ready Full let_go (delegator ∷ first_seal ∷ delegated ∷ [])) (sym is) ∙ first_look)

-- A RUN that looks at the rotation twice: it begins with the body that the last verdict names, and ends with all five
run : Runs (is_ready Full let_go) (wakes Full) all (0 ∷ []) [] (delegator ∷ first_seal ∷ delegated ∷ second_seal ∷ rotation ∷ [])
run =
    appends (below 0 [] refl) refl ready_0 wider_0 (
    appends (below 1 [] refl) refl ready_1 wider_1 (
    appends (below 2 (4 ∷ []) refl) refl ready_2 wider_2 (
    passes not_yet (
    appends (below 4 [] refl) refl ready_4 wider_3 (
    appends (below 3 [] refl) refl second_look wider_4 ends)))))

named : HaveNamed (bodies [] let_go) (accepted Full [] held_up) (yes_on 1 delegator) (0 ∷ [])
unfolding bodies distinct
named zero b at waits h = (0, omega arith, refl)
named (suc zero) b at waits h = (let is : first_seal ≡ b = cc in let h' : names (yes_on 1 delegator) first_seal ≡ true = ap (names (yes_on 1 delegator)) is ∙ h in cc)
named (suc (suc zero)) b at waits h = (let is : delegated ≡ b = cc in let h' : names (yes_on 1 delegator) delegated ≡ true = ap (names (yes_on 1 delegator)) is ∙ h in cc)
named (suc (suc (suc zero))) b at waits h = (let is : rotation ≡ b = cc in let h' : names (yes_on 1 delegator) rotation ≡ true = ap (names (yes_on 1 delegator)) is ∙ h in cc)
named (suc (suc (suc (suc zero)))) b at waits h = (let is : second_seal ≡ b = cc in let h' : names (yes_on 1 delegator) second_seal ≡ true = ap (names (yes_on 1 delegator)) is ∙ h in cc)
named (suc (suc (suc (suc (suc n))))) b at waits h = cc

-- so the law of runs can be applied, and gives the list that the definition gives
by_the_law : delegator ∷ first_seal ∷ delegated ∷ second_seal ∷ rotation ∷ [] ≡ accepted Full [] let_go
by_the_law = entry_settles Full [] held_up (yes_on 1 delegator) (0 ∷ []) (delegator ∷ first_seal ∷ delegated ∷ second_seal ∷ rotation ∷ []) named
    (subst (λ held. Runs (is_ready Full let_go) (wakes Full) held (0 ∷ []) (accepted Full [] held_up) (delegator ∷ first_seal ∷ delegated ∷ second_seal ∷ rotation ∷ [])) (sym held_are)
    (subst (λ log. Runs (is_ready Full let_go) (wakes Full) all (0 ∷ []) log (delegator ∷ first_seal ∷ delegated ∷ second_seal ∷ rotation ∷ [])) (sym nothing_before) run))

-- CLASH: an interaction, and a rotation of one number and digest that takes its place. What follows them both stands on the
-- state before the rotation, and is taken by the state after it; the two aren't alike. A controller's signature by the new
-- key is a part behind the current state alone, though the body's triples were raised behind the other.
abbrev begun : Body
begun = record { bytes = 120 ∷ []; event = Icp (begin (witness 2 ∷ []) 1) }

abbrev superseded : Body
superseded = record { bytes = 121 ∷ []; event = ixn 1 11 0 }

abbrev superseding : Body
superseding = record {
  bytes = 122 ∷ [];
  event = Rot (record { said = digest 11; prefix = identifier; sn = 1; prior = digest 0; kt = Count 1; keys = witness 2 ∷ []; nt = Count 1; next = digest 51 ∷ []; toad = 0; cuts = witness 2 ∷ []; adds = []; anchors = [] });
}

abbrev following : Body
following = record { bytes = 123 ∷ []; event = ixn 2 12 11 }

abbrev clashing : List Body
clashing = begun ∷ superseded ∷ superseding ∷ []

clash_grown : IsGrown clashing
unfolding fits state misfit
clash_grown = IsGrown-push (begun ∷ superseded ∷ []) superseding (IsGrown-push (begun ∷ []) superseded (IsGrown-push [] begun nothing_grown refl) refl) refl

clash_taken : takes (state clashing identifier) following.event ≡ true
unfolding state misfit
clash_taken = refl

clash_unlike : AreAlikeIf (state_before clashing following) (state clashing identifier) → ⊥
unfolding state misfit predecessor up_to
clash_unlike alike = (let toads : 1 ≡ 0 = ap (λ s. s.toad) alike in omega (arith, toads))

abbrev signed_twice : List Told
signed_twice = took 0 following (at_first ∷ Couple (witness 2) signature ∷ []) ∷ heard 0 following (witness 2) signature true ∷ []

not_behind : supports signed_twice (state_before clashing following) following (index 0) ≡ false
unfolding supports state misfit predecessor up_to claims_on said_yes
not_behind = refl

but_current : supports signed_twice (state clashing identifier) following (index 0) ≡ true
unfolding supports state misfit claims_on said_yes
but_current = refl

and_ready : is_ready Full signed_twice clashing following ≡ true
unfolding is_ready state misfit signed good_sigs said_yes claims_on satisfied backers backs anchored distinct
and_ready = refl

-- LOOKS: six, though it begins with one candidate and four bodies may be woken; no more candidates come in than may be woken
abbrev five : List Body
five = delegator ∷ first_seal ∷ delegated ∷ second_seal ∷ rotation ∷ []

six_looks : looks (is_ready Full let_go) (wakes Full) all run ≡ 6
unfolding looks run
six_looks = refl

appended_are : appended_in (is_ready Full let_go) (wakes Full) all run ≡ five
unfolding appended_in run
appended_are = refl

four_may_wake : count_by (is_counted (may_wake Full) [] five) all ≡ 4
unfolding is_counted seals digits_in digits state misfit
four_may_wake = refl

frugal : IsFrugal (is_ready Full let_go) (wakes Full) all (may_wake Full) run
unfolding IsFrugal seals digits_in digits state misfit run
frugal = (omega arith, (omega arith, (omega arith, (omega arith, (omega arith, tt)))))

-- where the seal is looked for before the rotation is taken in, five
wider_less : Wider (delegator ∷ first_seal ∷ []) delegated (4 ∷ []) (4 ∷ [])
unfolding seals digits_in digits state misfit predecessor anchored
wider_less = wider (delegator ∷ first_seal ∷ []) delegated (4 ∷ []) (4 ∷ []) refl refl

short_run : Runs (is_ready Full let_go) (wakes Full) all (0 ∷ []) [] five
short_run =
    appends (below 0 [] refl) refl ready_0 wider_0 (
    appends (below 1 [] refl) refl ready_1 wider_1 (
    appends (below 2 (4 ∷ []) refl) refl ready_2 wider_less (
    appends (below 4 [] refl) refl ready_4 wider_3 (
    appends (below 3 [] refl) refl second_look wider_4 ends))))

five_looks : looks (is_ready Full let_go) (wakes Full) all short_run ≡ 5
unfolding looks short_run
five_looks = refl

short_frugal : IsFrugal (is_ready Full let_go) (wakes Full) all (wakes Full) short_run
unfolding IsFrugal seals digits_in digits state misfit predecessor anchored short_run
short_frugal = (omega arith, (omega arith, (omega arith, (omega arith, (omega arith, tt)))))

-- three events of one identifier, number and digest, one after the other: each wakes what follows them
abbrev interaction : ℕ → ℕ → ℕ → ℕ → Body
interaction id n said prior = record { bytes = id ∷ []; event = ixn n said prior }

abbrev rotating : ℕ → ℕ → ℕ → ℕ → Body
rotating id n said prior = record { bytes = id ∷ []; event = rot n said prior }

abbrev three_alike : List Body
three_alike = delegator ∷ interaction 131 1 11 0 ∷ interaction 132 2 30 11 ∷ rotating 133 1 21 0 ∷ interaction 134 2 30 21 ∷ rotating 135 2 30 21 ∷ []

three_grown : IsGrown three_alike
unfolding fits state misfit
three_grown = IsGrown-push (delegator ∷ interaction 131 1 11 0 ∷ interaction 132 2 30 11 ∷ rotating 133 1 21 0 ∷ interaction 134 2 30 21 ∷ []) (rotating 135 2 30 21)
    (IsGrown-push (delegator ∷ interaction 131 1 11 0 ∷ interaction 132 2 30 11 ∷ rotating 133 1 21 0 ∷ []) (interaction 134 2 30 21)
    (IsGrown-push (delegator ∷ interaction 131 1 11 0 ∷ interaction 132 2 30 11 ∷ []) (rotating 133 1 21 0)
    (IsGrown-push (delegator ∷ interaction 131 1 11 0 ∷ []) (interaction 132 2 30 11)
    (IsGrown-push (delegator ∷ []) (interaction 131 1 11 0) (IsGrown-push [] delegator nothing_grown refl) refl) refl) refl) refl) refl

three_times : times (wakes Full) [] three_alike (interaction 136 3 31 30) ≡ 3
unfolding times seals state misfit predecessor anchored
three_times = refl

-- a list without a clash
clear : IsClear (delegator ∷ first_seal ∷ [])
unfolding fits state misfit
clear = (IsGrown-push (delegator ∷ []) first_seal (IsGrown-push [] delegator nothing_grown refl) refl, no_clash)
  where
    no_clash : HasNoClash (delegator ∷ first_seal ∷ [])
    no_clash b c (zero, h, at) (zero, k, at') prefix sn said = ap (λ d. d.bytes) (sym at ∙ at')
    no_clash b c (suc zero, h, at) (suc zero, k, at') prefix sn said = ap (λ d. d.bytes) (sym at ∙ at')
    no_clash b c (zero, h, at) (suc zero, k, at') prefix sn said = (let one : 0 ≡ 1 = ap (λ d. sn_of d.event) at ∙ sn ∙ sym (ap (λ d. sn_of d.event) at') in absurd (omega (arith, one)))
    no_clash b c (suc zero, h, at) (zero, k, at') prefix sn said = (let one : 1 ≡ 0 = ap (λ d. sn_of d.event) at ∙ sn ∙ sym (ap (λ d. sn_of d.event) at') in absurd (omega (arith, one)))
    no_clash b c (suc (suc n), h, at) inside prefix sn said = absurd (omega (arith, h))
    no_clash b c (zero, h, at) (suc (suc n), k, at') prefix sn said = absurd (omega (arith, k))
    no_clash b c (suc zero, h, at) (suc (suc n), k, at') prefix sn said = absurd (omega (arith, k))
