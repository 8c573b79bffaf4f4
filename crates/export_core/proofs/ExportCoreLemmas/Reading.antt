-- What is written of messages is read as these messages.
use Rattle.std.proofs.Common.{◌≡◌, ℕ, ◌+◌, ◌≤◌, Bool, true, List, [], ◌∷◌, ◌++◌, length, map, refl, sym, ◌∙◌, ap, subst, arith}
use Rattle.std.specs.Prelude.{All, flat_map}
use Rattle.std.proofs.lemmas.List.Concat.{flat_map-append}
use Rattle.std.proofs.lemmas.List.Elements.{All-append, All-cons, All-filter, All-head, All-nil, All-tail}
use Rattle.validator_core.specs.Acceptance.Standing.{IsHeld}
use Rattle.cesr_codes.specs.Indexed.{IsIndexed}
use Rattle.cesr_codes.specs.declared.indexed_sig.IndexedSig.{IndexedSig}
use Rattle.cesr_stream.specs.Items.{Items}
use Rattle.cesr_stream.specs.Parts.{unfinished}
use Rattle.cesr_stream.specs.Written.{IsCouple, item_text}
use Rattle.cesr_stream.specs.declared.couple.Couple.{Couple}
use Rattle.cesr_stream.specs.declared.item.Item.{Item}
use Rattle.cesr_stream.specs.declared.item.Item.TheVariants.{Body as BodyItem}
use Rattle.journal_views.proofs.EventPayloadLemmas.Written.{event_writable}
use Rattle.journal.specs.Journal.Accepted.{accepted}
use Rattle.journal.specs.Journal.History.{Told, bodies}
use Rattle.journal.specs.declared.journal.body.Body.{Body}
use Rattle.journal.specs.declared.journal.claim.Claim.{Claim}
use Rattle.journal.specs.declared.journal.mode.Mode.TheVariants.{Full}
use Rattle.quorum_laws.proofs.Inside.{accepted_inside}
use Rattle.cesr_codes.specs.declared.prefix.Prefix.{Prefix}
use Rattle.export_core.specs.ExportLaws.Export.{Sent, cut_claims, export, exported, is_of_some, messages_of, sent_claims}
use Rattle.watcher_core.specs.Evidence.{placed_from}
use Rattle.watcher_core.proofs.Written.{MayCome, MayFollow, written_reads}
use Rattle.export_core.specs.ExportCore.Messages.{IsExportText, IsMessageText, MayBeSent, couple_group, held_group, witness_group}
use Rattle.export_core.specs.ExportCore.Reading.{AreItems, AreItemsOf, ReadsAs}

-- a group may follow a body, where there is one
held_follows : (sigs : List IndexedSig) (more : List Item) → length sigs ≤ 1024 → All IsIndexed sigs → MayFollow true more → MayFollow true (held_group sigs ++ more)
held_follows [] more few raw then = then
held_follows (s ∷ sigs) more few raw then = (raw, omega (arith, few), refl, then)

witness_follows : (sigs : List IndexedSig) (more : List Item) → length sigs ≤ 1024 → All IsIndexed sigs → MayFollow true more → MayFollow true (witness_group sigs ++ more)
witness_follows [] more few raw then = then
witness_follows (s ∷ sigs) more few raw then = (raw, omega (arith, few), refl, then)

couples_follow : (couples : List Couple) → length couples ≤ 1024 → All IsCouple couples → MayFollow true (couple_group couples)
couples_follow [] few raw = tt
couples_follow (c ∷ couples) few raw = (raw, omega (arith, few), refl, tt)

follow_on : (begun : Bool) (xs ys : List Item) → MayFollow begun xs → MayCome ys → MayFollow begun (xs ++ ys)
follow_on begun [] ys first behind = behind begun
follow_on begun (x ∷ xs) ys first behind = (first.0, first.1, first.2, follow_on true xs ys first.3 behind)

-- the items of a message, of which there are few enough, with raw bytes that are bytes
pub record IsSentAs (m : Sent) (items : List Item) : Type 0 where
  pub are : AreItemsOf m items
  pub sent : MayBeSent are.held are.witness are.couples

abbrev pub AreSent : List Sent → List Item → Type 0
AreSent [] items = items ≡ []
AreSent (m ∷ more) items = (front rest : List Item) × IsSentAs m front × AreSent more rest × (items ≡ front ++ rest)

-- the items of a text of messages
pub record Spells (ms : List Sent) (text : List ℕ) : Type 0 where
  pub items : List Item
  pub are_items : AreItems ms items
  pub are_sent : AreSent ms items
  pub come : MayCome items
  pub text_is : text ≡ flat_map item_text items

-- MESSAGE
module _ (m : Sent) (held : IsHeld m.body) (text : List ℕ) (is : IsMessageText m.body.bytes m.claims text) where
  abbrev items : List Item
  items = BodyItem m.body.bytes ∷ (held_group is.held ++ (witness_group is.witness ++ couple_group is.couples))

  its_items : AreItemsOf m items
  its_items = record {
    held = is.held;
    witness = is.witness;
    couples = is.couples;
    held_are = is.held_are;
    witness_are = is.witness_are;
    couples_are = is.couples_are;
    items_are = refl;
  }

  items_come : MayCome items
  items_come = λ begun. (
    tt,
    event_writable m.body.event m.body.bytes held.spelled.has,
    held.few,
    held_follows is.held (witness_group is.witness ++ couple_group is.couples) is.sent.few_held is.sent.raw_held
        (witness_follows is.witness (couple_group is.couples) is.sent.few_witness is.sent.raw_witness
        (couples_follow is.couples is.sent.few_couples is.sent.raw_couples)),
  )

-- MESSAGES
pub spells : (ms : List Sent) (text : List ℕ) → All (λ m. IsHeld m.body) ms → IsExportText ms text → Spells ms text
unfolding its_items
spells [] text held is = record { items = []; are_items = refl; are_sent = refl; come = λ begun. tt; text_is = is }
spells (m ∷ more) text held is =
    let one = All-head (λ m. IsHeld m.body) m more held in
    let rest = spells more is.1 (All-tail (λ m. IsHeld m.body) m more held) is.3 in
    let front = items m one is.0 is.2 in
    record {
      items = front ++ rest.items;
      are_items = (front, rest.items, its_items m one is.0 is.2, rest.are_items, refl);
      are_sent = (front, rest.items, record { are = its_items m one is.0 is.2; sent = is.2.sent }, rest.are_sent, refl);
      come = λ begun. follow_on begun front rest.items (items_come m one is.0 is.2 begun) rest.come;
      text_is = is.4 ∙ (λ i. is.2.text_is i ++ rest.text_is i) ∙ sym (flat_map-append item_text front rest.items);
    }

pub spelled_reads : (ms : List Sent) (text : List ℕ) (s : Spells ms text) → Items 65535 text (placed_from 0 s.items) unfinished
spelled_reads ms text s = subst (λ bytes. Items 65535 bytes (placed_from 0 s.items) unfinished) (sym s.text_is) (written_reads s.items s.come)

pub placed_items : (place : ℕ) (items : List Item) → map (λ p. p.item) (placed_from place items) ≡ items
placed_items place [] = refl
placed_items place (item ∷ items) = ap (λ xs. item ∷ xs) (placed_items (place + length (item_text item)) items)

pub text_reads : (ms : List Sent) (text : List ℕ) → All (λ m. IsHeld m.body) ms → IsExportText ms text → ReadsAs ms text
text_reads ms text held is =
    let s = spells ms text held is in
    record {
      items = s.items;
      are_items = s.are_items;
      reads = spelled_reads ms text s;
    }

-- HELD: the bodies of the messages are held
cut_held : (b : Body) (css : List (List Claim)) → IsHeld b → All {X = Sent} (λ m. IsHeld m.body) (map (λ claims. record { body = b; claims = claims }) css)
cut_held b [] held = All-nil _
cut_held b (cs ∷ css) held = All-cons (λ m. IsHeld m.body) (record { body = b; claims = cs }) (map (λ claims. record { body = b; claims = claims }) css) held (cut_held b css held)

all_held : (told : List Told) (log events : List Body) → All IsHeld events → All (λ m. IsHeld m.body) (flat_map (messages_of told log) events)
all_held told log [] held = All-nil _
all_held told log (b ∷ events) held = All-append (λ m. IsHeld m.body) (messages_of told log b) (flat_map (messages_of told log) events)
    (cut_held b (cut_claims (sent_claims told log b)) (All-head IsHeld b events held)) (all_held told log events (All-tail IsHeld b events held))

pub export_held : (told : List Told) (family : List Prefix) → All IsHeld (bodies [] told) → All (λ m. IsHeld m.body) (export told family)
unfolding export
export_held told family held =
    let log = accepted Full [] told in
    all_held told log (exported family log) (All-filter (is_of_some family) IsHeld log (accepted_inside IsHeld Full [] told (All-nil IsHeld) held))
