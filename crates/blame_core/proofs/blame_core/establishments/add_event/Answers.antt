use Rattle.std.proofs.Common.{◌≡◌, cond, ◌++◌, ◌∷◌, [], Some, sym, ◌∙◌, ap, subst}
use Rattle.std.specs.BTreeMap.{is_at}
use Rattle.std.specs.Cmp.Lexicographic.{slice_cmp}
use Rattle.std.specs.Map.{lookup}
use Rattle.std.specs.Ordering.{nat_cmp}
use Rattle.event_body.specs.EventBody.Events.{is_establishment}
use Rattle.key_state.specs.KeyStates.{list_behind}
use Rattle.journal.specs.declared.journal.body.Body.{Body}
use Rattle.blame_core.specs.BlameCore.Establishments.{IsFollowedBy, IsWalked, event_at, list_of, place_cmp}
use Rattle.blame_core.specs.declared.blame_core.establishments.Establishment.{Establishment}
use Rattle.blame_core.proofs.BlameCoreLemmas.Walks.{walk_on, walk_past}
use Rattle.blame_core.proofs.blame_core.establishments.add_event.Goals as goal

pub returns-then-not-is_establishment : goal.returns-then-not-is_establishment
returns-then-not-is_establishment c = λ held log seen b at of next walked.
    walk_past held log seen b next c.args.lists.now.entries c.args.events.now.entries walked
    (ap is_establishment of ∙ sym c.is_establishment.ensures ∙ c.if-not-is_establishment.true)

pub returns : goal.returns
returns c = λ held log seen b at of next walked.
    let lists = c.args.lists.now.entries in
    let entries = c.args.events.now.entries in
    let event = c.args.event.now in
    let d : Body = record { bytes = b.bytes; event = event } in
    let same : d ≡ b = λ i. record { bytes = b.bytes; event = sym of i } in
    let place = c.place_of-place.ensures.place in
    let own = c.in_ok-copy_items.field-0 in
    let x : Establishment = record { place = c.place_of-place.result; number = c.args.number; witnesses = c.in_ok-witnesses.witnesses } in
    subst (λ b. IsWalked held log (seen ++ b ∷ []) c.insert.new.self.entries c.insert-2.new.self.entries) same
    (walk_on held log seen d (subst (IsFollowedBy log seen) (sym same) next) lists entries walked (sym c.is_establishment.ensures ∙ c.if-not-is_establishment.false)
    c.place_of-place.ensures.prefix c.insert.new.self.entries c.insert-2.new.self.entries own x
    (c.in_ok-copy_items.ensures ∙ c.in_ok-witnesses.ensures ∙ ap (λ keys. list_behind keys event) c.listed.ensures
    ∙ ap (λ o. list_behind (list_of o) event) (c.get.ensures.value ∙ ap (λ k. lookup (is_at (slice_cmp nat_cmp k.prefix)) lists) place))
    (λ t. c.in_ok-insert.ensures.updates.0 t ∙ ap (λ k. cond (is_at (slice_cmp nat_cmp k.prefix) t) (Some own) (lookup (is_at (slice_cmp nat_cmp t)) lists)) place)
    (λ k. c.in_ok-insert-2.ensures.updates.0 k ∙ ap (λ l. cond (is_at (place_cmp l) k) (Some x) (event_at entries k)) place)
    place (at ∙ ap (λ c. Some c) (sym same)) (sym c.in_ok-copy_items.ensures))
