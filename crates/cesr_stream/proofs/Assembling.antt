-- One item more, and the messages.
use Rattle.std.proofs.Common.{◌≡◌, ℕ, List, [], ◌∷◌, ◌++◌, refl, sym, ap, ◌∙◌, append-nil, append_assoc, Option, None, Some, Result, Ok, Err, IfOk, OnOk}
use Rattle.cesr_stream.specs.declared.group.Group.{Group}
use Rattle.cesr_stream.specs.declared.item.Item.{Item}
use Rattle.cesr_stream.specs.declared.item.Item.TheVariants.{Body, Group as GroupItem, Wrapped}
use Rattle.cesr_stream.specs.declared.message.Message.{Message}
use Rattle.cesr_stream.specs.Items.{Placed, placed}
use Rattle.cesr_stream.specs.Messages.{message, messages, begun_by, groups_with, groups_before_body}
use Rattle.cesr_stream.specs.Assembly.{Assembly, IsAssembled, all_of, closed_by, pushed, grown, with_groups}
use Rattle.cesr_stream.proofs.Keeping.{message-append}

-- a body ends the groups before it, and begins a message
messages-body : (limit : ℕ) (items : List Placed) (place : ℕ) (body : List ℕ)
    → (groups_before_body (items ++ placed place (Body body) ∷ []) ≡ groups_before_body items)
    × (messages limit (items ++ placed place (Body body) ∷ []) ≡ messages limit items ++ message limit place body [] ∷ [])
messages-body limit [] place body = (refl, refl)
messages-body limit (first ∷ items) place body =
    let rest = messages-body limit items place body in (
      ap (groups_with first.item) rest.0,
      ap (λ groups. begun_by limit first.place first.item groups ++ messages limit (items ++ placed place (Body body) ∷ [])) rest.0
          ∙ ap (λ behind. begun_by limit first.place first.item (groups_before_body items) ++ behind) rest.1
          ∙ sym (append_assoc (begun_by limit first.place first.item (groups_before_body items)) (messages limit items) (message limit place body [] ∷ [])),
    )

-- an item that is no body, and its groups
module _ (limit place : ℕ) (item : Item) (groups : List Group) (has : (more : List Group) → groups_with item more ≡ groups ++ more) (none : (more : List Group) → begun_by limit place item more ≡ []) where
  abbrev with_last : List Placed → List Placed
  with_last items = items ++ placed place item ∷ []

  -- behind no body it begins no message
  messages-none : (items : List Placed) → messages limit items ≡ []
      → (messages limit (with_last items) ≡ []) × (groups_before_body (with_last items) ≡ groups_before_body items ++ groups)
  messages-none [] e = (ap (λ begun. begun ++ []) (none []), has [] ∙ append-nil groups)
  messages-none (first ∷ items) e = at first.item e (messages-none items)
    where
      at : (i : Item) → begun_by limit first.place i (groups_before_body items) ++ messages limit items ≡ []
          → (messages limit items ≡ [] → (messages limit (with_last items) ≡ []) × (groups_before_body (with_last items) ≡ groups_before_body items ++ groups))
          → (begun_by limit first.place i (groups_before_body (with_last items)) ++ messages limit (with_last items) ≡ [])
          × (groups_with i (groups_before_body (with_last items)) ≡ groups_with i (groups_before_body items) ++ groups)
      at (Body body) e rest = cc e
      at (GroupItem group) e rest = ((rest e).0, ap (λ behind. group ∷ behind) (rest e).1)
      at (Wrapped wrapped) e rest = ((rest e).0, ap (λ behind. wrapped ++ behind) (rest e).1 ∙ sym (append_assoc wrapped (groups_before_body items) groups))

  -- the items have a body, and the last message has more groups
  abbrev ToLast : List Placed → Message → List Message → Type 0
  ToLast items m answered =
      (groups_before_body (with_last items) ≡ groups_before_body items) × (answered ++ with_groups limit groups m ∷ [] ≡ messages limit (with_last items))

  -- behind a body its groups come to the last message
  messages-some : (items : List Placed) (answered : List Message) (m : Message) → answered ++ m ∷ [] ≡ messages limit items → ToLast items m answered
  messages-some [] [] m e = cc e
  messages-some [] (a ∷ answered) m e = cc e
  messages-some (first ∷ items) answered m e = at first.item answered (λ answered. messages-some items answered m) e
    where
      last : (body : List ℕ) (answered : List Message) → ((answered : List Message) → answered ++ m ∷ [] ≡ messages limit items → ToLast items m answered)
          → answered ++ m ∷ [] ≡ message limit first.place body (groups_before_body items) ∷ messages limit items
          → answered ++ with_groups limit groups m ∷ []
          ≡ message limit first.place body (groups_before_body (with_last items)) ∷ messages limit (with_last items)
      last body [] more e =
          let is : m ≡ message limit first.place body (groups_before_body items) = cc e in
          let rest = messages-none items (cc e) in
          ap (λ m. with_groups limit groups m ∷ []) is
          ∙ ap (λ m. m ∷ []) (sym (message-append limit first.place body (groups_before_body items) groups))
          ∙ ap (λ all. message limit first.place body all ∷ []) (sym rest.1)
          ∙ ap (λ behind. message limit first.place body (groups_before_body (with_last items)) ∷ behind) (sym rest.0)
      last body (a ∷ answered) more e =
          let is : a ≡ message limit first.place body (groups_before_body items) = cc e in
          let rest = more answered (cc e) in
          ap (λ a. a ∷ (answered ++ with_groups limit groups m ∷ [])) is
          ∙ ap (λ all. message limit first.place body all ∷ (answered ++ with_groups limit groups m ∷ [])) (sym rest.0)
          ∙ ap (λ behind. message limit first.place body (groups_before_body (with_last items)) ∷ behind) rest.1

      at : (i : Item) (answered : List Message) → ((answered : List Message) → answered ++ m ∷ [] ≡ messages limit items → ToLast items m answered)
          → answered ++ m ∷ [] ≡ begun_by limit first.place i (groups_before_body items) ++ messages limit items
          → (groups_with i (groups_before_body (with_last items)) ≡ groups_with i (groups_before_body items))
          × (answered ++ with_groups limit groups m ∷ [] ≡ begun_by limit first.place i (groups_before_body (with_last items)) ++ messages limit (with_last items))
      at (Body body) answered more e = (refl, last body answered more e)
      at (GroupItem group) answered more e = let rest = more answered e in (ap (λ behind. group ∷ behind) rest.0, rest.1)
      at (Wrapped wrapped) answered more e = let rest = more answered e in (ap (λ behind. wrapped ++ behind) rest.0, rest.1)

  after-groups : (items : List Placed) (answered : List Message) (old : Assembly) → IsAssembled limit items answered old
      → IsAssembled limit (items ++ placed place item ∷ []) (answered ++ []) (grown old groups)
  after-groups items answered old is = at old.current is.all is.begun
    where
      at : (current : Option Message) → answered ++ all_of current ≡ messages limit items → (current ≡ None → messages limit items ≡ [])
          → IsAssembled limit (items ++ placed place item ∷ []) (answered ++ []) (grown (record { limit = old.limit; current = current }) groups)
      at None all begun =
          let rest = messages-none items (begun refl) in
          record { limited = is.limited; all = append-nil (answered ++ []) ∙ all ∙ begun refl ∙ sym rest.0; begun = λ _. rest.0 }
      at (Some m) all begun = record {
        limited = is.limited;
        all = ap (λ front. front ++ with_groups old.limit groups m ∷ []) (append-nil answered)
            ∙ ap (λ l. answered ++ with_groups l groups m ∷ []) is.limited
            ∙ (messages-some items answered m all).1;
        begun = λ e. cc e;
      }

-- one item more
after : (limit place : ℕ) (item : Item) (items : List Placed) (answered : List Message) (old : Assembly) → IsAssembled limit items answered old
    → IsAssembled limit (items ++ placed place item ∷ []) (answered ++ all_of (closed_by item old.current)) (pushed old place item)
after limit place (Body body) items answered old is = record {
  limited = is.limited;
  all = ap (λ front. front ++ message old.limit place body [] ∷ []) is.all
      ∙ ap (λ l. messages limit items ++ message l place body [] ∷ []) is.limited
      ∙ sym (messages-body limit items place body).1;
  begun = λ e. cc e;
}
after limit place (GroupItem group) items answered old is = after-groups limit place (GroupItem group) (group ∷ []) (λ more. refl) (λ more. refl) items answered old is
after limit place (Wrapped groups) items answered old is = after-groups limit place (Wrapped groups) groups (λ more. refl) (λ more. refl) items answered old is

pub after_push : {E : Type 0} (result : Result (Option Message) E) (place : ℕ) (item : Item) (old new : Assembly) → IfOk result (λ answer. answer ≡ closed_by item old.current)
    → OnOk result (new ≡ pushed old place item)
    → IfOk result (λ answer. (limit : ℕ) (items : List Placed) (answered : List Message) → IsAssembled limit items answered old → IsAssembled limit (items ++ placed place item ∷ []) (answered ++ all_of answer) new)
after_push (Ok answer) place item old new is now = λ limit items answered before.
    rw (is, now) (after limit place item items answered old before)
after_push (Err e) place item old new is now = tt
