-- The messages that are read of the text of messages.
use Rattle.std.proofs.Common.{◌≡◌, ◌≤◌, nat_lt, true, false, List, [], ◌∷◌, ◌++◌, length, map, refl, sym, ◌∙◌, ap, subst, arith, append-nil, append_assoc}
use Rattle.std.specs.Prelude.{All, sum_by}
use Rattle.std.specs.List.{list_any}
use Rattle.std.proofs.lemmas.Bool.{le-ltb}
use Rattle.std.proofs.lemmas.List.Elements.{All-head, All-tail}
use Rattle.validator_core.specs.Acceptance.Standing.{IsHeld}
use Rattle.cesr_codes.specs.declared.indexed_sig.IndexedSig.{IndexedSig}
use Rattle.cesr_stream.specs.Groups.{elements_of}
use Rattle.cesr_stream.specs.Items.{Placed}
use Rattle.cesr_stream.specs.Messages.{begun_by, groups_before_body, groups_with, kept_groups, message, messages}
use Rattle.cesr_stream.specs.Written.{IsWritable}
use Rattle.cesr_stream.specs.declared.couple.Couple.{Couple}
use Rattle.cesr_stream.specs.declared.group.Group.{Group}
use Rattle.cesr_stream.specs.declared.item.Item.{Item}
use Rattle.cesr_stream.specs.declared.item.Item.TheVariants.{Body as BodyItem}
use Rattle.cesr_stream.specs.declared.message.Message.{Message}
use Rattle.cesr_stream.proofs.Keeping.{kept-all}
use Rattle.event_body.specs.EventBody.Events.{is_receipt}
use Rattle.journal_views.proofs.EventPayloadLemmas.Written.{event_writable}
use Rattle.journal.specs.Journal.Replies.{is_held}
use Rattle.journal.specs.declared.journal.claim.Claim.TheVariants.{Controller, Witness}
use Rattle.export_core.specs.ExportLaws.Export.{Sent, ordered}
use Rattle.export_core.specs.ExportCore.Messages.{claim_of, couple_group, held_group, witness_group}
use Rattle.export_core.proofs.ExportCoreLemmas.Alike.{AreAlike, body_alike}
use Rattle.export_core.proofs.ExportCoreLemmas.LikeClaims.{IsLike, couples_like, held_like, like_both, witness_like}
use Rattle.export_core.proofs.ExportCoreLemmas.Reading.{AreSent, IsSentAs}

-- the message is none that a reader refuses: its body is that of an event, and its claims are in order, not too many,
-- and one of them the controller's
pub record MayBeTaken (m : Sent) : Type 0 where
  pub held : IsHeld m.body
  pub event : is_receipt m.body.event ≡ false
  pub signed : list_any is_held m.claims ≡ true
  pub in_order : ordered m.claims ≡ m.claims
  pub few : length m.claims ≤ 1024

-- what is read in place of a message
pub record IsLikeMessage (m : Sent) (x : Message) : Type 0 where
  pub body : x.body ≡ m.body.bytes
  pub few : x.excess ≡ false
  pub like : IsLike m.claims x.groups

abbrev pub AreLike : List Sent → List Message → Type 0
AreLike [] [] = Unit {0}
AreLike [] (x ∷ xs) = ⊥
AreLike (m ∷ ms) [] = ⊥
AreLike (m ∷ ms) (x ∷ xs) = IsLikeMessage m x × AreLike ms xs

writable : (m : Sent) → MayBeTaken m → IsWritable (BodyItem m.body.bytes)
writable m may = event_writable m.body.event m.body.bytes may.held.spelled.has

-- no group stands before the first body
begins : (ms : List Sent) (items : List Item) → AreSent ms items → All MayBeTaken ms → (ps : List Placed) → AreAlike items (map (λ p. p.item) ps)
    → groups_before_body ps ≡ []
begins ms items are may [] alike = refl
begins [] items are may (p ∷ ps) alike = absurd (subst (λ xs. AreAlike xs (map (λ p. p.item) (p ∷ ps))) are alike)
begins (m ∷ more) items are may (p ∷ ps) alike =
    let first = subst (λ xs. AreAlike xs (map (λ p. p.item) (p ∷ ps))) (are.4 ∙ ap (λ xs. xs ++ are.1) are.2.are.items_are) alike in
    ap (λ i. groups_with i (groups_before_body ps)) (body_alike m.body.bytes p.item (writable m (All-head MayBeTaken m more may)) first.0)

-- what is read of a message, and of the items behind it
record ReadsMessage (m : Sent) (more : List Item) (ps : List Placed) : Type 0 where
  pub read : Message
  pub rest : List Placed
  pub like : IsLikeMessage m read
  pub first : messages 1024 ps ≡ read ∷ messages 1024 rest
  pub alike : AreAlike more (map (λ p. p.item) rest)

-- MESSAGE
module _ (m : Sent) (may : MayBeTaken m) (items : List Item) (is : IsSentAs m items) (more : List Item)
    (new : (ps : List Placed) → AreAlike more (map (λ p. p.item) ps) → groups_before_body ps ≡ []) where
  abbrev held : List IndexedSig
  held = is.are.held

  abbrev witness : List IndexedSig
  witness = is.are.witness

  abbrev couples : List Couple
  couples = is.are.couples

  all_are : items ++ more ≡ BodyItem m.body.bytes ∷ (held_group held ++ (witness_group witness ++ (couple_group couples ++ more)))
  all_are = ap (λ xs. xs ++ more) is.are.items_are
      ∙ ap (λ xs. BodyItem m.body.bytes ∷ xs) (append_assoc (held_group held) (witness_group witness ++ couple_group couples) more
      ∙ ap (λ xs. held_group held ++ xs) (append_assoc (witness_group witness) (couple_group couples) more))

  claims_are : map (λ s. Controller s) held ++ (map (λ s. Witness s) witness ++ map claim_of couples) ≡ m.claims
  claims_are = (λ i. is.are.held_are i ++ (is.are.witness_are i ++ is.are.couples_are i)) ∙ may.in_order

  of_groups : (p : Placed) (ps rest : List Placed) (groups : List Group) → p.item ≡ BodyItem m.body.bytes → groups_before_body ps ≡ groups
      → messages 1024 ps ≡ messages 1024 rest → IsLike m.claims groups → AreAlike more (map (λ p. p.item) rest) → ReadsMessage m more (p ∷ ps)
  of_groups p ps rest groups body are later like alike =
      let few : sum_by elements_of groups ≤ 1024 = omega (arith, like.many, may.few) in
      let kept : kept_groups 1024 0 (groups_before_body ps) ≡ groups = ap (kept_groups 1024 0) are ∙ kept-all 1024 0 groups (omega (arith, few)) in
      let found : Message = message 1024 p.place m.body.bytes (groups_before_body ps) in
      let is_like : IsLikeMessage m found = record {
        body = refl;
        few = ap (λ gs. nat_lt 1024 (sum_by elements_of gs)) are ∙ le-ltb 1024 (sum_by elements_of groups) few;
        like = subst (IsLike m.claims) (sym kept) like;
      } in
      record {
        read = found;
        rest = rest;
        like = is_like;
        first = ap (λ i. begun_by 1024 p.place i (groups_before_body ps) ++ messages 1024 ps) body ∙ ap (λ xs. found ∷ xs) later;
        alike = alike;
      }

  reads_message : (ps : List Placed) → AreAlike (items ++ more) (map (λ p. p.item) ps) → ReadsMessage m more ps
  reads_message [] alike = absurd (subst (λ xs. AreAlike xs []) all_are alike)
  reads_message (p ∷ ps) alike =
      let all = subst (λ xs. AreAlike xs (map (λ p. p.item) (p ∷ ps))) all_are alike in
      let one = held_like held (witness_group witness ++ (couple_group couples ++ more)) ps is.sent.raw_held is.sent.few_held all.1 in
      let two = witness_like witness (couple_group couples ++ more) one.rest is.sent.raw_witness is.sent.few_witness one.alike in
      let three = couples_like couples more two.rest is.sent.raw_couples is.sent.few_couples two.alike in
      let are : groups_before_body ps ≡ one.groups ++ (two.groups ++ three.groups)
      = one.goes_on ∙ ap (λ gs. one.groups ++ gs) (two.goes_on ∙ ap (λ gs. two.groups ++ gs)
      (three.goes_on ∙ ap (λ gs. three.groups ++ gs) (new three.rest three.alike) ∙ append-nil three.groups)) in
      let like = like_both (map (λ s. Controller s) held) (map (λ s. Witness s) witness ++ map claim_of couples) one.groups (two.groups ++ three.groups) one.like
      (like_both (map (λ s. Witness s) witness) (map claim_of couples) two.groups three.groups two.like three.like) in
      of_groups p ps three.rest (one.groups ++ (two.groups ++ three.groups)) (body_alike m.body.bytes p.item (writable m may) all.0) are
      (one.later ∙ two.later ∙ three.later) (subst (λ cs. IsLike cs (one.groups ++ (two.groups ++ three.groups))) claims_are like) three.alike

-- MESSAGES
pub reads_messages : (ms : List Sent) (items : List Item) → AreSent ms items → All MayBeTaken ms → (ps : List Placed)
    → AreAlike items (map (λ p. p.item) ps) → AreLike ms (messages 1024 ps)
reads_messages [] items are may [] alike = tt
reads_messages [] items are may (p ∷ ps) alike = absurd (subst (λ xs. AreAlike xs (map (λ p. p.item) (p ∷ ps))) are alike)
reads_messages (m ∷ more) items are may ps alike =
    let later = All-tail MayBeTaken m more may in
    let r = reads_message m (All-head MayBeTaken m more may) are.0 are.2 are.1 (begins more are.1 are.3 later) ps
    (subst (λ xs. AreAlike xs (map (λ p. p.item) ps)) are.4 alike) in
    subst (AreLike (m ∷ more)) (sym r.first) (r.like, reads_messages more are.1 are.3 later r.rest r.alike)
