-- What the kept signatures hold of those that came.
use Rattle.std.specs.Prelude.{◌≡◌, ℕ, List, [], ◌∷◌, ◌++◌, All, Option}
use Rattle.std.specs.BTreeSet.{contains}
use Rattle.std.specs.List.{list_any}
use Rattle.std.specs.declared.cmp.Ordering.{Ordering}
use Rattle.std.specs.declared.cmp.Ord as ord
use Rattle.cesr_codes.specs.Indexed.{IsIndexed}
use Rattle.cesr_codes.specs.declared.indexed_sig.IndexedSig.{IndexedSig}
use Rattle.event_body.specs.declared.event_body.event.Event.{Event}
use Rattle.key_state.specs.Same.{distinct}
use Rattle.key_state.specs.States.{State}
use Rattle.journal_views.specs.EventPayload.Kept.{reveal_of, same_part}
use Rattle.journal_views.specs.contracts.event_payload.part.PartOrd.TheImpl as part_order
use Rattle.journal_views.specs.declared.event_payload.kept.Kept.{Kept}
use Rattle.journal_views.specs.declared.event_payload.part.Part.{Part}
use denote.Param as param

-- the order of parts
abbrev pub part_cmp : Part → Part → Ordering
part_cmp = param.read (ord.Ghosts.cmp {X-1 = Part}) part_order.ghosts

-- the part of a signature: its index and its reveal
abbrev pub part_of : Option State → Event → IndexedSig → Part
part_of s e sig = record { index = sig.index; reveal = reveal_of s e sig }

-- Of the signatures on an event that came, the kept ones are the first of each part. A part was seen just where a signature
-- of it came.
pub record HasKept (s : Option State) (e : Event) (came : List IndexedSig) (kept : Kept) : Type 0 where
  pub firsts : kept.sigs.items ≡ distinct (same_part s e) came
  pub raw : All IsIndexed kept.sigs.items
  pub seen : (sig : IndexedSig) → contains part_cmp kept.parts (part_of s e sig) ≡ list_any (λ c. same_part s e c sig) came

-- A good signature that reveals so is added: what was kept of those that came before becomes what is kept of all, on any event
-- under any state by which it reveals so.
abbrev pub KeepsNext : IndexedSig → Option ℕ → Kept → Kept → Type 0
KeepsNext sig reveal old new = (s : Option State) (e : Event) (came : List IndexedSig) → reveal ≡ reveal_of s e sig → HasKept s e came old → HasKept s e (came ++ sig ∷ []) new
