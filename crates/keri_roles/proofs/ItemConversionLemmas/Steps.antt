-- What one more item makes of what stands.
use Rattle.std.proofs.Common.{◌≡◌, ℕ, List, [], ◌∷◌, ◌++◌, Bool, true, false, Option, None, Result, Ok, Err, arith, refl, sym, ◌∙◌, ap, subst}
use Rattle.std.specs.Result.{is_err}
use Rattle.lists.specs.KeriSpecs.Causes.{HasCause}
use Rattle.lists.specs.KeriSpecs.Shown.{Puts as Added}
use Rattle.lists.proofs.KeriSpecsLemmas.Putting.{front_stands, puts-behind}
use Rattle.cesr_stream.specs.declared.item.Item.{Item}
use Rattle.cesr_stream.specs.declared.bad.Bad.{Bad}
use Rattle.cesr_stream.specs.Items.{placed}
use Rattle.cesr_stream.specs.Reading.{Reading}
use Rattle.std.proofs.lemmas.List.Elements.{All-push}
use Rattle.cesr_stream.specs.Written.{IsWritable}
use Rattle.cesr_binary.specs.declared.domain.Domain.{Domain}
use Rattle.cesr_binary.specs.MixedAnswers.{AnswersItem}
use Rattle.cesr_binary.specs.Wire.{item_in}
use Rattle.cesr_binary.proofs.ItemTexts.{flat_map-push}
use Rattle.cesr_binary.proofs.MixedFed.{fed_answered, stand_on}
use Rattle.keri_outside.specs.Shown.{SinkShown}
use Rattle.run_status.specs.RunStatus.RunEnds.{Puts}
use Rattle.keri_roles.specs.ItemConversion.Progress.{GoesOn, Progress, progress, text_in}

-- one text more was put, or the sink failed at it
pub put_on : {T E : Type 0} (result : Result T E) (first old new : SinkShown) (text more : List ℕ) → Puts text false first old
    → Added old.written new.written result more
    → HasCause old.faults new.faults result → Puts (text ++ more) (is_err result) first new
put_on {T = T} {E = E} (Ok u) first old new text more put added cause =
    (puts-behind {T = T} {E = E} (Ok u) first.written new.written text old.written more put.0 added, cause.else_same ∙ put.1)
put_on {T = T} {E = E} (Err e) first old new text more put added cause = (
  puts-behind {T = T} {E = E}
      (Err e) first.written new.written text old.written more put.0 added,
  let risen = cause.failed in let same = put.1 in omega (arith, same, risen),
)

-- after the sink has failed nothing more is put
pub put_no_more : (first now : SinkShown) (text more : List ℕ) → Puts text true first now → Puts (text ++ more) true first now
put_no_more first now text more put =
    let failed : Result (Unit {0}) (Unit {0}) = Err tt in
    (front_stands failed first.written now.written text more refl put.0, put.1)

-- what is refused, and whether no item is there, changes nothing of what was put
pub goes_still : (first : Progress) (old : Reading) (domain : Domain) (failed : Bool) (sink : SinkShown) (bad : Option Bad) (drained : Bool)
    → GoesOn first (progress old domain failed sink) → GoesOn first (progress (record old { bad = bad; drained = drained }) domain failed sink)
goes_still first old domain failed sink bad drained on = record {
  has_put = λ shown fed has.
      let now = on.has_put shown fed has in
      record {
        has_fed = record { within = now.has_fed.within; behind = now.has_fed.behind };
        items = now.items;
        stand = now.stand;
        writable = now.writable;
        puts = now.puts;
      };
  limit = on.limit;
  domain = on.domain;
}

-- a reader that answers an item has refused nothing
pub good_still : (old new : Reading) (item : Item) (place : ℕ) → AnswersItem old new item place → new.bad ≡ None
good_still old new item place a = ap (λ r. r.bad) a.moved ∙ a.not_bad

-- one more item was put
pub goes_further : (first : Progress) (old new : Reading) (domain domain' : Domain) (failed failed' : Bool) (sink sink' : SinkShown) (item : Item) (place : ℕ)
    → AnswersItem old new item place → domain' ≡ domain
    → ((shown : SinkShown) (text : List ℕ) → Puts text failed shown sink → Puts (text ++ item_in domain item) failed' shown sink')
    → GoesOn first (progress old domain failed sink) → GoesOn first (progress new domain' failed' sink')
goes_further first old new domain domain' failed failed' sink sink' item place a same puts on = record {
  has_put = λ shown fed has.
      let now = on.has_put shown fed has in
      record {
        has_fed = fed_answered old new item place a fed now.has_fed;
        items = now.items ++ placed place item ∷ [];
        stand = stand_on old new item place a fed now.has_fed now.items now.stand;
        writable = All-push (λ p. IsWritable p.item) now.items (placed place item) now.writable a.writable;
        puts =
            subst (λ d. Puts (text_in d (now.items ++ placed place item ∷ [])) failed' shown sink') (sym same)
            (subst (λ text. Puts text failed' shown sink') (sym (flat_map-push (λ p. item_in domain p.item) now.items (placed place item)))
            (puts shown (text_in domain now.items) now.puts));
      };
  limit = ap (λ r. r.limit) a.moved ∙ on.limit;
  domain = same ∙ on.domain;
}
