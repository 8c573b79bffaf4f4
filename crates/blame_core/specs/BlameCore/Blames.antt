-- Blame: pairs of different establishment events of one identifier and number, and the witnesses that signed both (KERI,
-- duplicity of witnesses).
use Rattle.std.specs.Prelude.{◌≡◌, ◌≢◌, List, map, All, Some, Contains, slice_get}
use Rattle.std.specs.declared.cmp.Ordering.{Ordering}
use Rattle.std.specs.Ordering.{nat_cmp, ordering_then}
use Rattle.std.specs.Cmp.Lexicographic.{slice_cmp}
use Rattle.std.specs.List.Sorted.{IsStrictlySortedBy}
use Rattle.cesr_codes.specs.Spelling.{prefix_text}
use Rattle.event_body.specs.EventBody.Events.{prefix_of, sn_of}
use Rattle.journal.specs.declared.journal.body.Body.{Body}
use Rattle.journal.specs.Journal.History.{Told}
use Rattle.quorum_laws.specs.Histories.{AreLevel}
use Rattle.blame_core.specs.BlameLaws.Blame.{AreBlamed, culprits}
use Rattle.blame_core.specs.BlameLaws.Signatures.{signature_of}
use Rattle.blame_core.specs.declared.blame_core.culprit.Culprit.{Culprit}
use Rattle.blame_core.specs.declared.blame_core.blames.Blame.{Blame}
use Rattle.validator_core.specs.ValidatorCore.View.{CoreView, accepted_by, told_of}

-- two establishment events of one identifier and number, each accepted in its own log, that differ
pub record AreRivals (log other : List Body) (b c : Body) : Type 0 where
  pub first : Contains log b
  pub second : Contains other c
  pub level : AreLevel b.event c.event
  pub differ : b.bytes ≢ c.bytes

-- the witnesses of both that back both, in the order of the first's own list, each with the first signature on either event that
-- came and that a verifier called its own
pub record AreNamed (told : List Told) (b : Body) (other : List Told) (c : Body) (named : List Culprit) : Type 0 where
  pub keys : map (λ x. x.key) named ≡ culprits told b other c
  pub ones : All (λ x. signature_of told b x.key ≡ Some x.one) named
  pub others : All (λ x. signature_of other c x.key ≡ Some x.other) named

-- the blame is of two such events, names their witnesses that signed both, and the law of blame holds of these
pub record IsBlame (first second : CoreView) (blame : Blame) : Type 0 where
  pub one : Body
  pub other : Body
  pub one_is : slice_get first.held blame.first ≡ Some one
  pub other_is : slice_get second.held blame.second ≡ Some other
  pub rivals : AreRivals (accepted_by first) (accepted_by second) one other
  pub prefix : blame.prefix ≡ prefix_of one.event
  pub sn : blame.sn ≡ sn_of one.event
  pub named : AreNamed (told_of first) one (told_of second) other blame.culprits
  pub blamed : AreBlamed (told_of first) one (told_of second) other

-- the blame of two bodies is among them
pub record IsListed (first second : CoreView) (blames : List Blame) (b c : Body) : Type 0 where
  pub blame : Blame
  pub listed : Contains blames blame
  pub one_is : slice_get first.held blame.first ≡ Some b
  pub other_is : slice_get second.held blame.second ≡ Some c

-- blames are ordered by the texts of their prefixes, then by their numbers
abbrev pub blame_cmp : Blame → Blame → Ordering
blame_cmp x y = ordering_then (slice_cmp nat_cmp (prefix_text x.prefix) (prefix_text y.prefix)) (nat_cmp x.sn y.sn)

-- BLAME: each is of such a pair, each such pair is there, and they ascend, so that none comes twice
pub record AreBlames (first second : CoreView) (blames : List Blame) : Type 0 where
  pub each : All (IsBlame first second) blames
  pub all : (b c : Body) → AreRivals (accepted_by first) (accepted_by second) b c → IsListed first second blames b c
  pub ordered : IsStrictlySortedBy blame_cmp blames
