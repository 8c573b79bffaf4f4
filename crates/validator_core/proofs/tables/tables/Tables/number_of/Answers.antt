use Rattle.std.proofs.Common.{◌≡◌, ℕ, List, Option, Some, None, ◌∙◌, ap, refl, subst, sym}
use Rattle.std.specs.Prelude.{slice_get, IfNone, IfSome}
use Rattle.std.specs.List.Sorted.{IsStrictlyIncreasing}
use Rattle.event_body.specs.declared.event_body.event.Event.{Event}
use Rattle.event_body.specs.EventBody.Judging.{SpellsEvent}
use Rattle.escrow.specs.EventIndex.Keys.{numbers_at}
use Rattle.journal.specs.declared.journal.body.Body.{Body}
use Rattle.journal.specs.Journal.Logs.{is_in}
use Rattle.validator_core.specs.Tables.View.{View, body_of}
use Rattle.validator_core.proofs.TablesLemmas.Found.{body_found, no_body_found, texts_found}
use Rattle.validator_core.proofs.TablesLemmas.Orders.{name_cmp}
use Rattle.validator_core.proofs.TablesLemmas.Pairs.{bytes_at}
use Rattle.validator_core.proofs.tables.tables.Tables.number_of.Goals as goal

-- what spells the bytes of a body is its event
spelled_one : (held now : List Body) (bytes : List ℕ) (e : Event) → held ≡ now → ((one other : Event) (bytes : List ℕ) → SpellsEvent one bytes → SpellsEvent other bytes → one ≡ other)
    → ((n : ℕ) (b : Body) → slice_get now n ≡ Some b → SpellsEvent b.event b.bytes) → SpellsEvent e bytes → (b : Body) (n : ℕ) → slice_get held n ≡ Some b → b.bytes ≡ bytes → b.event ≡ e
spelled_one held now bytes e same law all spells b n at text = law b.event e bytes (subst (SpellsEvent b.event) text (all n b (ap (λ bs. slice_get bs n) (sym same) ∙ at))) spells

if_some : {P : ℕ → Type 0} (o : Option ℕ) → ((n : ℕ) → Some n ≡ o → P n) → IfSome o P
if_some None h = tt
if_some (Some n) h = h n refl

if_none : {P : Type 0} (o : Option ℕ) → (None ≡ o → P) → IfNone o P
if_none None h = h refl
if_none (Some n) h = tt

pub returns-clause-some : goal.returns-clause-some
returns-clause-some c =
    let t = c.self.inside in let held_is = ap (λ (v : View). v.held) c.self.view_is in let bytes = c.args.bytes.now in let e = c.args.event.now in
    let one = spelled_one _ c.args.self.now.held bytes e held_is c.one_event.ensures c.requires.all_spelled c.requires.spelled in
    let same = bytes_at t.journal.bodies t.events.items c.self.invariant.0 in
    let is = texts_found _ t.journal.bodies same bytes e (numbers_at name_cmp t.names) c.self.invariant.2.named one c.as_slice.result.now c.numbers.result.now c.name_of-name.result c.number_among.result c.as_slice.ensures c.numbers.ensures.those c.name_of-name.ensures c.number_among.ensures in
    let rising = subst IsStrictlyIncreasing (c.numbers.ensures.those ∙ ap (numbers_at name_cmp t.names) c.name_of-name.ensures) c.numbers.ensures.rising in
    if_some c.number_among.result (λ n some. ap (λ bs. slice_get bs n) (sym held_is) ∙ body_found _ t.journal.bodies same bytes e (numbers_at name_cmp t.names) c.self.invariant.2.named one rising n (some ∙ is))

pub returns-clause-none : goal.returns-clause-none
returns-clause-none c =
    let t = c.self.inside in let held_is = ap (λ (v : View). v.held) c.self.view_is in let bytes = c.args.bytes.now in let e = c.args.event.now in
    let one = spelled_one _ c.args.self.now.held bytes e held_is c.one_event.ensures c.requires.all_spelled c.requires.spelled in
    let same = bytes_at t.journal.bodies t.events.items c.self.invariant.0 in
    let is = texts_found _ t.journal.bodies same bytes e (numbers_at name_cmp t.names) c.self.invariant.2.named one c.as_slice.result.now c.numbers.result.now c.name_of-name.result c.number_among.result c.as_slice.ensures c.numbers.ensures.those c.name_of-name.ensures c.number_among.ensures in
    let rising = subst IsStrictlyIncreasing (c.numbers.ensures.those ∙ ap (numbers_at name_cmp t.names) c.name_of-name.ensures) c.numbers.ensures.rising in
    if_none c.number_among.result (λ none. ap (λ bs. is_in bs (body_of bytes e)) (sym held_is) ∙ no_body_found _ t.journal.bodies same bytes e (numbers_at name_cmp t.names) c.self.invariant.2.named one rising (none ∙ is))
