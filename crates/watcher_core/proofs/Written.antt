-- Items that are written one behind the other are read as these items.
use Rattle.std.proofs.Common.{◌≡◌, ℕ, ◌≤◌, Bool, true, false, List, [], ◌∷◌, ◌++◌, length, drop, zero, suc, refl, ◌∙◌, ap, arith, subst, append-nil, append_assoc, length-append, length-take}
use Rattle.std.specs.Prelude.{All, flat_map}
use Rattle.std.specs.Simd.{first_chunks}
use Rattle.std.specs.Slice.Iter.{chunk_count}
use Rattle.std.proofs.lemmas.List.{drop_all}
use Rattle.std.proofs.lemmas.List.Elements.{All-drop, All-head, All-tail, All-take}
use Rattle.event_body.specs.EventBody.Judging.{HasEvent}
use Rattle.cesr_codes.specs.Indexed.{IsIndexed}
use Rattle.cesr_codes.specs.declared.indexed_sig.IndexedSig.{IndexedSig}
use Rattle.cesr_stream.specs.Front.{front}
use Rattle.cesr_stream.specs.Items.{Items, Placed, Stand, none, placed}
use Rattle.cesr_stream.specs.Parts.{unfinished}
use Rattle.cesr_stream.specs.Written.{IsItem, IsWritable, MayStand, item_text}
use Rattle.cesr_stream.specs.declared.item.Item.{Item}
use Rattle.cesr_stream.proofs.WrittenItems.{written_more}
use Rattle.journal_views.proofs.EventPayloadLemmas.Written.{event_writable}
use Rattle.journal.specs.declared.journal.body.Body.{Body}
use Rattle.watcher_core.specs.Evidence.{items_with, message_of, placed_from}

-- each item may be written, and stand behind those before it, where a body is among these or not
abbrev pub MayFollow : Bool → List Item → Type 0
MayFollow begun [] = Unit {0}
MayFollow begun (item ∷ items) = IsItem item × IsWritable item × MayStand 65535 begun item × MayFollow true items

-- items that may be behind any others
abbrev pub MayCome : List Item → Type 0
MayCome items = (begun : Bool) → MayFollow begun items

follow-append : (begun : Bool) (xs ys : List Item) → MayFollow begun xs → MayCome ys → MayFollow begun (xs ++ ys)
follow-append begun [] ys first behind = behind begun
follow-append begun (x ∷ xs) ys first behind = (first.0, first.1, first.2, follow-append true xs ys first.3 behind)

pub come_all : {X : Type 0} (items : X → List Item) (xs : List X) → All (λ x. MayCome (items x)) xs → MayCome (flat_map items xs)
come_all items [] each = λ begun. tt
come_all items (x ∷ xs) each = λ begun. follow-append begun (items x) (flat_map items xs) (All-head (λ x. MayCome (items x)) x xs each begun) (come_all items xs (All-tail (λ x. MayCome (items x)) x xs each))

module _ (b : Body) (has : HasEvent b.event b.bytes) (few : length b.bytes ≤ 65535) where
  -- messages of at most 1,024 signatures each
  messages_come : (k : ℕ) (sigs : List IndexedSig) → All IsIndexed sigs → MayCome (flat_map (message_of b.bytes) (first_chunks 1024 k sigs))
  messages_come zero sigs raw = λ begun. tt
  messages_come (suc k) sigs raw = λ begun. (
    tt,
    event_writable b.event b.bytes has,
    few,
    (All-take IsIndexed 1024 sigs raw, omega (arith, length-take 1024 sigs), refl, messages_come k (drop 1024 sigs) (All-drop IsIndexed 1024 sigs raw) true),
  )

  -- BODY: a body with its signatures may come anywhere
  pub body_comes : (sigs : List IndexedSig) → All IsIndexed sigs → MayCome (items_with b.bytes sigs)
  body_comes [] raw = λ begun. (tt, event_writable b.event b.bytes has, few, tt)
  body_comes (sig ∷ sigs) raw = messages_come (chunk_count (length (sig ∷ sigs)) 1024) (sig ∷ sigs) raw

-- STAND: the items stand behind those before them
written_all : (items : List Item) (bytes : List ℕ) (done : List Placed) (begun : Bool) → Stand 65535 bytes done begun (length bytes) → MayFollow begun items
    → (then : Bool) × Stand 65535 (bytes ++ flat_map item_text items) (done ++ placed_from (length bytes) items) then (length (bytes ++ flat_map item_text items))
written_all [] bytes done begun stand follow = (begun, rw (append-nil bytes, append-nil done) stand)
written_all (item ∷ items) bytes done begun stand follow =
    let text = item_text item in
    let more = written_more 65535 bytes done begun item stand follow.0 follow.1 follow.2 in
    let rest = written_all items (bytes ++ text) (done ++ placed (length bytes) item ∷ []) true more follow.3 in (
      rest.0,
      subst (λ all. Stand 65535 all (done ++ placed_from (length bytes) (item ∷ items)) rest.0 (length all)) (append_assoc bytes text (flat_map item_text items))
          (subst (λ found. Stand 65535 ((bytes ++ text) ++ flat_map item_text items) found rest.0 (length ((bytes ++ text) ++ flat_map item_text items)))
          (append_assoc done (placed (length bytes) item ∷ []) (placed_from (length (bytes ++ text)) items)
          ∙ ap (λ place. done ++ placed (length bytes) item ∷ placed_from place items) (length-append bytes text)) rest.1),
    )

nothing_begun : (begun : Bool) → front 65535 begun [] ≡ unfinished
unfolding front
nothing_begun begun = refl

-- READ: and they are all that is read
pub written_reads : (items : List Item) → MayCome items → Items 65535 (flat_map item_text items) (placed_from 0 items) unfinished
written_reads items come =
    let all = written_all items [] [] false none (come false) in
    let text = flat_map item_text items in
    record {
      begun = all.0;
      place = length text;
      stand = all.1;
      behind = ap (front 65535 all.0) (drop_all (length text) text (omega arith)) ∙ nothing_begun all.0;
      ends = tt;
    }
