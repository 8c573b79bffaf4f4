-- What the law of families asks can be met, and is needed: a delegator that seals a delegate, and a stranger.
use Rattle.std.proofs.Common.{◌≡◌, ℕ, Bool, true, false, List, [], ◌∷◌, ◌++◌, Option, Some, None, refl, sym, ◌∙◌, ap, subst, inl, inr, if◌then◌else◌}
use Rattle.std.specs.Prelude.{bytes_eq, find, flat_map}
use Rattle.std.specs.List.{list_all}
use Rattle.cesr_codes.specs.declared.digest.Digest.{Digest}
use Rattle.cesr_codes.specs.declared.digest.DigestCode.TheVariants.{Blake3}
use Rattle.cesr_codes.specs.declared.key.Key.{Key}
use Rattle.cesr_codes.specs.declared.key.KeyCode.TheVariants.{Rotating}
use Rattle.cesr_codes.specs.declared.prefix.Prefix.{Prefix}
use Rattle.cesr_codes.specs.declared.prefix.Prefix.TheVariants.{Said}
use Rattle.cesr_codes.specs.declared.sig.Sig.{Sig}
use Rattle.event_body.specs.declared.event_body.event.Event.TheVariants.{Dip, Icp, Ixn}
use Rattle.event_body.specs.declared.event_body.inception.Inception.{Inception}
use Rattle.event_body.specs.declared.event_body.interaction.Interaction.{Interaction}
use Rattle.sith.specs.declared.threshold.Threshold.TheVariants.{Count}
use Rattle.event_body.specs.EventBody.Events.{prefix_of}
use Rattle.sith.specs.Tests.{satisfied}
use Rattle.key_state.specs.Exposure.{exposed}
use Rattle.key_state.specs.KeyStates.{misfit}
use Rattle.key_state.specs.Same.{distinct, same_prefix}
use Rattle.key_state.proofs.Among.{Among, among, contained}
use Rattle.key_state.proofs.Same.{same_prefix_is}
use Rattle.journal.specs.declared.journal.body.Body.{Body}
use Rattle.journal.specs.declared.journal.claim.Claim.TheVariants.{Controller}
use Rattle.journal.specs.declared.journal.mode.Mode.{Mode}
use Rattle.journal.specs.declared.journal.mode.Mode.TheVariants.{Full, Local}
use Rattle.journal.specs.Journal.Acceptance.{Settles, grown_by, more, rest, settled}
use Rattle.journal.specs.Journal.Accepted.{accepted}
use Rattle.journal.specs.Journal.History.{Told, heard, bodies, claims_on, said_yes, taken, took}
use Rattle.journal.specs.Journal.Logs.{state, stepped}
use Rattle.journal.specs.Journal.Readiness.{backers, backs, good_sigs, is_ready, signed}
use Rattle.journal.specs.Journal.Seals.{anchored, seals}
use Rattle.claim_table.proofs.CoreLawsLemmas.Entries.{settles_accepted}
use Rattle.journal_views.proofs.JournalLawsLemmas.Came.{all_pass}
use Rattle.export_core.specs.ExportLaws.Export.{delegator_if, exported}
use Rattle.export_core.specs.ExportLaws.Families.{HaveOneReading, IsPart, NamesItsOwn, told_bodies, within}
use Rattle.export_core.proofs.ExportLawsLemmas.Families.{named_families}

-- bodies whose identifier is told by their bytes
read_by : (reading : List ℕ → Prefix) (all : List Body)
    → list_all (λ b. same_prefix (prefix_of b.event) (reading b.bytes)) all ≡ true
    → HaveOneReading all
read_by reading all same b c m n e =
    let test : Body → Bool = λ b. same_prefix (prefix_of b.event) (reading b.bytes) in
    same_prefix_is (prefix_of b.event) (reading b.bytes) (all_pass test all b same (among all b m)) ∙ ap reading e
    ∙ sym (same_prefix_is (prefix_of c.event) (reading c.bytes) (all_pass test all c same (among all c n)))

-- an inception of a digest, with one key and no witnesses, and a signature. No bytes spell them.
abbrev controller : Key
controller = record { code = Rotating; raw = 1 ∷ [] }

abbrev digest : ℕ → Digest
digest n = record { code = Blake3; raw = n ∷ [] }

abbrev begin : ℕ → Option Prefix → Inception
begin said by = record {
  said = digest said;
  prefix = Said (digest said);
  kt = Count 1;
  keys = controller ∷ [];
  nt = Count 1;
  next = digest 50 ∷ [];
  toad = 0;
  list = [];
  traits = [];
  anchors = [];
  delegator = by;
}

abbrev signature : Sig
signature = record { raw = 7 ∷ [] }

abbrev comes : Body → Told
comes b = took 0 b (Controller (record { big = false; index = 0; ondex = Some 0; sig = signature; form = refl }) ∷ [])

abbrev is_good : Body → Told
is_good b = heard 0 b controller signature true

-- a delegator, its event that seals the delegate's inception, that inception, and a stranger
abbrev identifier : Prefix
identifier = Said (digest 0)

abbrev delegate : Prefix
delegate = Said (digest 5)

abbrev stranger : Prefix
stranger = Said (digest 9)

abbrev delegator : Body
delegator = record { bytes = 110 ∷ []; event = Icp (begin 0 None) }

abbrev delegated : Body
delegated = record { bytes = 112 ∷ []; event = Dip (begin 5 (Some identifier)) }

abbrev strange : Body
strange = record { bytes = 119 ∷ []; event = Icp (begin 9 None) }

-- its identifier by a body's bytes
abbrev reading : List ℕ → Prefix
reading bytes = if bytes_eq bytes delegated.bytes then delegate
    else if bytes_eq bytes strange.bytes then stranger else identifier

-- the one delegator that is named is the first one
abbrev names_no_other : Option Prefix → Bool
names_no_other None = true
names_no_other (Some d) = same_prefix identifier d

names_by : (all : List Body) (family : List Prefix) → Among identifier family
    → list_all (λ b. names_no_other (delegator_if (stepped None b.event))) all ≡ true → NamesItsOwn all family
names_by all family inside passes b d m of e =
    let one = all_pass (λ b. names_no_other (delegator_if (stepped None b.event))) all b passes (among all b m) in
    let is : same_prefix identifier d ≡ true = ap names_no_other (sym e) ∙ one in
    contained family d (subst (λ p. Among p family) (same_prefix_is identifier d is) inside)

unsealed : seals delegator.event delegated.event ≡ false
unfolding seals
unsealed = refl

-- an interaction of the delegator with the seal of the delegate's inception among its values
abbrev after_delegator : Interaction → Interaction
after_delegator sealing = record sealing { said = digest 11; prefix = identifier; sn = 1; prior = digest 0 }

module _ (sealing : Interaction) (seal : seals (Ixn (after_delegator sealing)) delegated.event ≡ true) where
  abbrev sealed : Body
  sealed = record { bytes = 111 ∷ []; event = Ixn (after_delegator sealing) }

  -- the delegate's inception comes before its delegator's, and the stranger's between them; the sealing event is
  -- verified last
  abbrev held_up : List Told
  held_up = comes delegated ∷ is_good delegated ∷ comes strange ∷ is_good strange ∷ comes delegator ∷ is_good delegator
      ∷ comes sealed ∷ []

  abbrev all_told : List Told
  all_told = held_up ++ is_good sealed ∷ []

  abbrev their_family : List Prefix
  their_family = delegate ∷ identifier ∷ []

  before_seal : accepted Full [] held_up ≡ strange ∷ delegator ∷ []
  unfolding accepted grown_by settled is_ready bodies distinct state misfit signed good_sigs said_yes claims_on
      satisfied backers backs anchored exposed seals
  before_seal = refl

  abbrev next_ready : List Body → Option Body
  next_ready log = find (is_ready Full all_told log) (bodies [] all_told)

  seal_first : next_ready (strange ∷ delegator ∷ []) ≡ Some sealed
  unfolding is_ready bodies distinct state misfit signed good_sigs said_yes claims_on satisfied backers backs
      anchored exposed seals
  seal_first = refl

  then_delegate : next_ready (strange ∷ delegator ∷ sealed ∷ []) ≡ Some delegated
  unfolding is_ready bodies distinct state misfit signed good_sigs said_yes claims_on satisfied backers backs
      anchored exposed
  then_delegate = rw (unsealed, seal) refl

  then_none : next_ready (strange ∷ delegator ∷ sealed ∷ delegated ∷ []) ≡ None
  unfolding is_ready bodies distinct state misfit signed good_sigs said_yes claims_on satisfied backers backs
      anchored exposed
  then_none = refl

  whole_accepts : accepted Full [] all_told ≡ strange ∷ delegator ∷ sealed ∷ delegated ∷ []
  whole_accepts =
      let end : List Body = strange ∷ delegator ∷ sealed ∷ delegated ∷ [] in
      sym (settles_accepted Full [] held_up (is_good sealed) end
      (subst (λ log. Settles (is_ready Full all_told) (bodies [] all_told) log end) (sym before_seal)
      (more seal_first (more then_delegate (rest then_none)))))

  read_once : HaveOneReading (told_bodies [] all_told)
  read_once = read_by reading (told_bodies [] all_told) refl

  -- MET: the family's entries alone have the same three events accepted
  pub met : accepted Full [] (within their_family all_told) ≡ delegator ∷ sealed ∷ delegated ∷ []
  met = (named_families Full [] all_told their_family read_once
      (λ k. names_by (flat_map taken all_told) their_family (inr (inl refl)) refl)).same
      ∙ ap (exported their_family) whole_accepts

  -- CLOSED: without its delegator the delegate isn't accepted where seals are waited for, though the whole accepts it
  alone : accepted Full [] (within (delegate ∷ []) all_told) ≡ []
  unfolding accepted grown_by settled is_ready bodies distinct state misfit signed good_sigs said_yes claims_on
      satisfied backers backs anchored exposed
  alone = refl

  pub needs_closed : ((mode : Mode) (told : List Told) (family : List Prefix) → HaveOneReading (told_bodies [] told)
      → IsPart family (accepted mode [] told) (accepted mode [] (within family told))) → ⊥
  needs_closed law =
      let part : exported (delegate ∷ []) (strange ∷ delegator ∷ sealed ∷ delegated ∷ []) ≡ delegated ∷ [] = refl in
      let same : [] ≡ delegated ∷ [] = sym alone ∙ (law Full all_told (delegate ∷ []) read_once).same
      ∙ ap (exported (delegate ∷ [])) whole_accepts ∙ part in cc

  -- where they aren't it is
  pub local_alone : accepted Local [] (within (delegate ∷ []) all_told) ≡ delegated ∷ []
  unfolding accepted grown_by settled is_ready bodies distinct state misfit signed good_sigs said_yes claims_on
      satisfied backers backs anchored exposed
  local_alone = refl

-- ONE READING: a verdict on the same bytes, read as an event of another, decides for the whole and isn't of the family
abbrev misread : Body
misread = record { bytes = delegator.bytes; event = strange.event }

abbrev misread_told : List Told
misread_told = comes delegator ∷ is_good misread ∷ []

whole_misread : accepted Full [] misread_told ≡ delegator ∷ []
unfolding accepted grown_by settled is_ready bodies distinct state misfit signed good_sigs said_yes claims_on
    satisfied backers backs anchored exposed
whole_misread = refl

part_misread : accepted Full [] (within (identifier ∷ []) misread_told) ≡ []
unfolding accepted grown_by settled is_ready bodies distinct state misfit signed good_sigs said_yes claims_on
    satisfied backers backs anchored exposed
part_misread = refl

names_none : NamesItsOwn (flat_map taken misread_told) (identifier ∷ [])
names_none = names_by (flat_map taken misread_told) (identifier ∷ []) (inl refl) refl

pub needs_one_reading : ((mode : Mode) (told : List Told) (family : List Prefix)
    → NamesItsOwn (flat_map taken told) family
    → IsPart family (accepted mode [] told) (accepted mode [] (within family told))) → ⊥
needs_one_reading law =
    let same : [] ≡ delegator ∷ [] = sym part_misread ∙ (law Full misread_told (identifier ∷ []) names_none).same
    ∙ ap (exported (identifier ∷ [])) whole_misread in cc
