-- Evidence of signed bodies of one place that differ (KERI, duplicity): the bodies themselves, with the signatures on them.
use Rattle.std.specs.Prelude.{◌≡◌, ℕ, ◌+◌, ◌==◌, Bool, not, List, [], ◌∷◌, length, flat_map}
use Rattle.std.specs.Simd.{first_chunks}
use Rattle.std.specs.Slice.Iter.{chunk_count}
use Rattle.cesr_codes.specs.declared.indexed_sig.IndexedSig.{IndexedSig}
use Rattle.cesr_stream.specs.Items.{Items, Placed, placed}
use Rattle.cesr_stream.specs.Parts.{unfinished}
use Rattle.cesr_stream.specs.Written.{item_text}
use Rattle.cesr_stream.specs.declared.group.Group.TheVariants.{Controller}
use Rattle.cesr_stream.specs.declared.item.Item.{Item}
use Rattle.cesr_stream.specs.declared.item.Item.TheVariants.{Body as BodyItem, Group as GroupItem}
use Rattle.key_state.specs.Same.{distinct}
use Rattle.journal.specs.Journal.Conflicts.{IsConflictList}
use Rattle.journal.specs.Journal.Questions.{state_before}
use Rattle.journal.specs.Journal.Readiness.{good_sigs}
use Rattle.journal.specs.Journal.Replies.{same_indexed}
use Rattle.journal.specs.declared.journal.body.Body.{Body}
use Rattle.validator_core.specs.ValidatorCore.View.{CoreView, base_of, told_of, accepted_by}

-- the controller's signatures on a body that have a yes verdict, by the state that the body follows, each at its first coming
abbrev pub signatures_of : CoreView → Body → List IndexedSig
signatures_of core b = distinct same_indexed (good_sigs (told_of core) (state_before (accepted_by core) b) b)

-- signatures, cut from the front into parts of 1,024, the last of what is left: a reader takes no more in one message
abbrev pub parts_of : List IndexedSig → List (List IndexedSig)
parts_of sigs = first_chunks 1024 (chunk_count (length sigs) 1024) sigs

-- a message: a body, and behind it a group of signatures (CESR, `-A`)
abbrev pub message_of : List ℕ → List IndexedSig → List Item
message_of bytes sigs = BodyItem bytes ∷ GroupItem (Controller sigs) ∷ []

-- a body with signatures: as many messages as they need, and the body alone where there are none
abbrev pub items_with : List ℕ → List IndexedSig → List Item
items_with bytes [] = BodyItem bytes ∷ []
items_with bytes (sig ∷ sigs) = flat_map (message_of bytes) (parts_of (sig ∷ sigs))

-- a body with its good signatures
abbrev pub items_of : CoreView → Body → List Item
items_of core b = items_with b.bytes (signatures_of core b)

-- the items of all bodies of some sets
abbrev pub items_of_sets : CoreView → List (List Body) → List Item
items_of_sets core sets = flat_map (λ set. flat_map (items_of core) set) sets

-- items one behind the other, each with the place where its text begins
abbrev pub placed_from : ℕ → List Item → List Placed
placed_from place [] = []
placed_from place (item ∷ items) = placed place item ∷ placed_from (place + length (item_text item)) items

-- the text is that of the items of the conflicts, in order, and it is said whether there are any
pub record IsEvidenceText (core : CoreView) (text : List ℕ) (has_conflicts : Bool) : Type 0 where
  pub sets : List (List Body)
  pub sets_are : IsConflictList core.mode (base_of core) (told_of core) sets
  pub text_is : text ≡ flat_map item_text (items_of_sets core sets)
  pub has_conflicts_is : has_conflicts ≡ not (length sets == 0)

-- A reader of the text reads just the items of the conflicts, in order, and holds nothing of a further one.
pub record ReadsAsEvidence (core : CoreView) (text : List ℕ) : Type 0 where
  pub sets : List (List Body)
  pub sets_are : IsConflictList core.mode (base_of core) (told_of core) sets
  pub items_are : Items 65535 text (placed_from 0 (items_of_sets core sets)) unfinished
