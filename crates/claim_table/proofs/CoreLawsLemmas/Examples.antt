-- Worked examples, computed from the definitions: what a core must not leave out.
use Rattle.std.proofs.Common.{◌≡◌, ℕ, true, false, List, [], ◌∷◌, ◌++◌, length, map, Option, Some, None, refl, sym, subst, codes}
use Rattle.std.specs.Prelude.{find}
use Rattle.std.specs.Fmt.{digits}
use Rattle.lists.specs.KeriSpecs.Base64.{digits_in}
use Rattle.json_tree.specs.declared.tree.Tree.{Tree, Str, Object', more_of-Member, end_of-Member}
use Rattle.cesr_codes.specs.declared.digest.Digest.{Digest}
use Rattle.cesr_codes.specs.declared.digest.DigestCode.TheVariants.{Blake3}
use Rattle.cesr_codes.specs.declared.prefix.Prefix.{Prefix}
use Rattle.cesr_codes.specs.declared.prefix.Prefix.TheVariants.{Said}
use Rattle.cesr_codes.specs.declared.sig.Sig.{Sig}
use Rattle.cesr_codes.specs.Spelling.{digest_text, key_text}
use Rattle.said_digest.specs.Digests.{digest_of}
use Rattle.sith.specs.declared.threshold.Threshold.TheVariants.{Count}
use Rattle.sith.specs.Tests.{satisfied}
use Rattle.event_body.specs.declared.event_body.event.Event.TheVariants.{Icp, Ixn, Dip, Drt}
use Rattle.key_state.specs.Exposure.{commits, exposed, numbers_below}
use Rattle.key_state.specs.KeyStates.{misfit}
use Rattle.key_state.specs.Same.{distinct}
use Rattle.key_state.proofs.Same.{same_prefix_itself}
use Rattle.claim_table.proofs.CoreLawsLemmas.SampleEvents.{key, witness, digest, identifier, begin}
use Rattle.journal.specs.declared.journal.body.Body.{Body}
use Rattle.journal.specs.declared.journal.claim.Claim.{Claim}
use Rattle.journal.specs.declared.journal.claim.Claim.TheVariants.{Controller}
use Rattle.journal.specs.declared.journal.mode.Mode.TheVariants.{Full}
use Rattle.journal.specs.Journal.Logs.{state, stands, precedes}
use Rattle.journal.specs.Journal.Seals.{anchored, seals}
use Rattle.journal.specs.Journal.History.{Told, took, heard, same_triple, bodies, claims_on, said_yes}
use Rattle.journal.specs.Journal.Readiness.{is_ready, signed, good_sigs, backers, backs}
use Rattle.journal.specs.Journal.Acceptance.{settled, grown_by, Settles, rest, more}
use Rattle.journal.specs.Journal.Accepted.{accepted}
use Rattle.journal.specs.Journal.Questions.{raised_by}
use Rattle.journal.specs.EventRules.Parts.{index, supports}
use Rattle.claim_table.specs.CoreLaws.Support.{parts_of_yes}
use Rattle.claim_table.proofs.CoreLawsLemmas.Entries.{settles_accepted}

abbrev pub signature : Sig
signature = record { raw = 7 ∷ [] }

-- the same signature at two indices
abbrev pub at_first : Claim
at_first = Controller (record { big = false; index = 0; ondex = Some 0; sig = signature; form = refl })

abbrev at_second : Claim
at_second = Controller (record { big = false; index = 1; ondex = Some 1; sig = signature; form = refl })

-- ONE TRIPLE, TWO INDICES: a key that stands twice, both wanted. One verdict is on both claims; the body that comes again with
-- the other claim is ready at once, with no further verdict.
abbrev twice : Body
twice = record { bytes = 100 ∷ []; event = Icp (record (begin [] 0) { kt = Count 2; keys = key 1 ∷ key 1 ∷ [] }) }

abbrev one_claim : List Told
one_claim = took 0 twice (at_first ∷ []) ∷ heard 0 twice (key 1) signature true ∷ []

abbrev other_claim : List Told
other_claim = one_claim ++ took 0 twice (at_second ∷ []) ∷ []

waits_for_other : accepted Full [] one_claim ≡ []
unfolding accepted grown_by settled is_ready bodies distinct state signed good_sigs said_yes claims_on satisfied
waits_for_other = refl

accepted_when_taken : map (λ b. b.bytes) (accepted Full [] other_claim) ≡ twice.bytes ∷ []
unfolding accepted grown_by settled is_ready bodies distinct state signed good_sigs said_yes claims_on satisfied backers backs anchored
accepted_when_taken = refl

-- as triples the two claims are one
one_triple : length (distinct same_triple (raised_by other_claim [] twice)) ≡ 1
unfolding raised_by distinct stands claims_on
one_triple = refl

two_claims : length (raised_by other_claim [] twice) ≡ 2
unfolding raised_by stands claims_on
two_claims = refl

-- A CONTROLLER'S YES BACKS: a signing key that is a witness too needs no receipt
abbrev own_witness : Body
own_witness = record { bytes = 101 ∷ []; event = Icp (record (begin (witness 1 ∷ []) 1) { keys = witness 1 ∷ [] }) }

backed_by_controller : map (λ b. b.bytes) (accepted Full [] (took 0 own_witness (at_first ∷ []) ∷ heard 0 own_witness (witness 1) signature true ∷ [])) ≡ own_witness.bytes ∷ []
unfolding accepted grown_by settled is_ready bodies distinct state signed good_sigs said_yes claims_on satisfied backers backs anchored
backed_by_controller = refl

-- A BODY IS LOOKED AT TWICE: one that follows an event accepted in the call, and is sealed by a later event accepted in the
-- same call. A delegator's inception, an interaction that seals a delegated inception, that inception, a delegated rotation
-- behind it, and an interaction that seals the rotation, in the order of coming; the verdict on the first comes last.
abbrev pub delegate : Prefix
delegate = Said (digest 5)

abbrev pub seal_of : List ℕ → ℕ → Tree
seal_of sn said = Object' (tt ∷ tt ∷ tt ∷ []) (more_of-Member (codes "i") (Str (digest_text (digest 5)))
    (more_of-Member (codes "s") (Str sn) (more_of-Member (codes "d") (Str (digest_text (digest said))) end_of-Member)))

abbrev pub next_digest : Digest
next_digest = digest_of Blake3 (key_text (key 2))

abbrev pub delegator : Body
delegator = record { bytes = 110 ∷ []; event = Icp (begin [] 0) }

abbrev pub first_seal : Body
first_seal = record { bytes = 111 ∷ []; event = Ixn (record { said = digest 11; prefix = identifier; sn = 1; prior = digest 0; anchors = seal_of (codes "0") 5 ∷ [] }) }

abbrev pub delegated : Body
delegated = record { bytes = 112 ∷ []; event = Dip (record (begin [] 0) { said = digest 5; prefix = delegate; next = next_digest ∷ []; delegator = Some identifier }) }

abbrev pub rotation : Body
rotation = record {
  bytes = 113 ∷ [];
  event = Drt (record { said = digest 6; prefix = delegate; sn = 1; prior = digest 5; kt = Count 1; keys = key 2 ∷ []; nt = Count 1; next = digest 51 ∷ []; toad = 0; cuts = []; adds = []; anchors = [] });
}

abbrev pub second_seal : Body
second_seal = record { bytes = 114 ∷ []; event = Ixn (record { said = digest 12; prefix = identifier; sn = 2; prior = digest 11; anchors = seal_of (codes "1") 6 ∷ [] }) }

abbrev pub yes_on : ℕ → Body → Told
yes_on n b = heard 0 b (key n) signature true

abbrev pub held_up : List Told
held_up = took 0 delegator (at_first ∷ []) ∷ took 0 first_seal (at_first ∷ []) ∷ took 0 delegated (at_first ∷ []) ∷ took 0 rotation (at_first ∷ [])
    ∷ took 0 second_seal (at_first ∷ []) ∷ yes_on 1 first_seal ∷ yes_on 1 delegated ∷ yes_on 2 rotation ∷ yes_on 1 second_seal ∷ []

abbrev pub let_go : List Told
let_go = held_up ++ yes_on 1 delegator ∷ []

behind : precedes rotation delegated ≡ true
behind = refl

pub nothing_before : accepted Full [] held_up ≡ []
unfolding accepted grown_by settled is_ready bodies distinct state misfit signed good_sigs said_yes claims_on satisfied backers backs anchored seals
nothing_before = refl

-- the rotation's key is the one that was committed to
pub committed : commits (Some next_digest) (Some (key 2)) ≡ true
committed = same_prefix_itself (Said next_digest)

pub first_look : is_ready Full let_go (delegator ∷ first_seal ∷ delegated ∷ []) rotation ≡ false
unfolding is_ready state misfit signed good_sigs said_yes claims_on satisfied backers backs anchored exposed numbers_below seals digits_in digits distinct
first_look = rw committed refl

pub second_look : is_ready Full let_go (delegator ∷ first_seal ∷ delegated ∷ second_seal ∷ []) rotation ≡ true
unfolding is_ready state misfit signed good_sigs said_yes claims_on satisfied backers backs anchored exposed numbers_below seals digits_in digits distinct
second_look = rw committed refl

-- the order of acceptance, step by step: the rotation last, though it came before the event that seals it
abbrev next_ready : List Body → Option Body
next_ready log = find (is_ready Full let_go log) (bodies [] let_go)

step_0 : next_ready [] ≡ Some delegator
unfolding is_ready bodies state misfit signed good_sigs said_yes claims_on satisfied backers backs anchored exposed numbers_below seals digits_in digits distinct
step_0 = refl

step_1 : next_ready (delegator ∷ []) ≡ Some first_seal
unfolding is_ready bodies state misfit signed good_sigs said_yes claims_on satisfied backers backs anchored exposed numbers_below seals digits_in digits distinct
step_1 = refl

step_2 : next_ready (delegator ∷ first_seal ∷ []) ≡ Some delegated
unfolding is_ready bodies state misfit signed good_sigs said_yes claims_on satisfied backers backs anchored exposed numbers_below seals digits_in digits distinct
step_2 = refl

step_3 : next_ready (delegator ∷ first_seal ∷ delegated ∷ []) ≡ Some second_seal
unfolding is_ready bodies state misfit signed good_sigs said_yes claims_on satisfied backers backs anchored exposed numbers_below seals digits_in digits distinct
step_3 = rw committed refl

step_4 : next_ready (delegator ∷ first_seal ∷ delegated ∷ second_seal ∷ []) ≡ Some rotation
unfolding is_ready bodies state misfit signed good_sigs said_yes claims_on satisfied backers backs anchored exposed numbers_below seals digits_in digits distinct
step_4 = rw committed refl

step_5 : next_ready (delegator ∷ first_seal ∷ delegated ∷ second_seal ∷ rotation ∷ []) ≡ None
unfolding is_ready bodies state misfit signed good_sigs said_yes claims_on satisfied backers backs anchored exposed numbers_below seals digits_in digits distinct
step_5 = refl

all_let_go : delegator ∷ first_seal ∷ delegated ∷ second_seal ∷ rotation ∷ [] ≡ accepted Full [] let_go
all_let_go = settles_accepted Full [] held_up (yes_on 1 delegator) (delegator ∷ first_seal ∷ delegated ∷ second_seal ∷ rotation ∷ [])
    (subst (λ log. Settles (is_ready Full let_go) (bodies [] let_go) log (delegator ∷ first_seal ∷ delegated ∷ second_seal ∷ rotation ∷ [])) (sym nothing_before)
    (more step_0 (more step_1 (more step_2 (more step_3 (more step_4 (rest step_5)))))))

-- PARTS OVERLAP: two signatures at one index. The second yes brings a part that is there, so to take that verdict back isn't to
-- take its parts out.
abbrev other_signature : Sig
other_signature = record { raw = 8 ∷ [] }

abbrev other_at_first : Claim
other_at_first = Controller (record { big = false; index = 0; ondex = Some 0; sig = other_signature; form = refl })

abbrev first_yes : List Told
first_yes = took 0 delegator (at_first ∷ other_at_first ∷ []) ∷ yes_on 1 delegator ∷ []

there_before : supports first_yes None delegator (index 0) ≡ true
unfolding supports claims_on said_yes
there_before = refl

brought_again : parts_of_yes first_yes None delegator (key 1) other_signature (index 0) ≡ true
unfolding claims_on
brought_again = refl
