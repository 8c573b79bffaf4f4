use Rattle.std.proofs.Common.{◌≡◌, ◌<◌, ◌+◌, ℕ, List, length, get_or, take, subst, sym}
use Rattle.std.specs.Prelude.{Contains}
use Rattle.std.proofs.lemmas.List.{get_or_default, take_all}
use Rattle.cesr_codes.specs.declared.prefix.Prefix.{Prefix}
use Rattle.event_backing.specs.declared.event_seal.EventSeal.{EventSeal}
use Rattle.validator_core.specs.declared.tables.name.Name.{Name}
use Rattle.validator_core.specs.declared.tables.name.SealKey.{SealKey}
use Rattle.escrow.specs.EventIndex.Keys.{numbers_at}
use Rattle.validator_core.specs.Tables.Names.{name_in, seal_key}
use Rattle.validator_core.proofs.TablesLemmas.AddedNumbers.{added_more, keeps_more}
use Rattle.validator_core.proofs.TablesLemmas.Orders.{seal_cmp}
use Rattle.validator_core.proofs.tables.log.note_seals.Goals as goal

pub returns-in_err-add-clause-kept : goal.returns-in_err-add-clause-kept
returns-in_err-add-clause-kept c = keeps_more c.args.place (numbers_at seal_cmp c.args.sealed.now) (numbers_at seal_cmp c.loop-seal.sealed) (numbers_at seal_cmp c.add.new.self) c.loop-seal.invariant.kept c.add.ensures.kept

-- the names so far, with that of the seal at a place
named_more : (holder : Prefix) (seals : List EventSeal) (i : ℕ) (d : EventSeal) (name : Name) (old new : SealKey → List ℕ) (place : ℕ) → i < length seals
    → ((seal : EventSeal) → Contains (take i seals) seal → Contains (old (seal_key holder (name_in seal))) place) → ((q : SealKey) → Contains (old q) place → Contains (new q) place)
    → Contains (new (seal_key holder name)) place → name ≡ name_in (get_or seals i d)
    → (seal : EventSeal) → Contains (take (i + 1) seals) seal → Contains (new (seal_key holder (name_in seal))) place
named_more holder seals i d name old new place low before level added is =
    added_more (λ seal. seal_key holder (name_in seal)) seals i (get_or seals i d) old new place (get_or_default seals i d (get_or seals i d) low) low before level
    (subst (λ m. Contains (new (seal_key holder m)) place) is added)

pub loop-seal-preserved : goal.loop-seal-preserved
loop-seal-preserved c = record {
  added = named_more c.args.holder c.args.seals.now c.loop-seal.seal-index _ c.sealed_name-name.result (numbers_at seal_cmp c.loop-seal.sealed) (numbers_at seal_cmp c.add.new.self) c.args.place
      c.loop-seal-test.true c.loop-seal.invariant.added c.in_ok-add.ensures.level c.in_ok-add.ensures.added c.sealed_name-name.ensures;
  kept = keeps_more c.args.place (numbers_at seal_cmp c.args.sealed.now) (numbers_at seal_cmp c.loop-seal.sealed) (numbers_at seal_cmp c.add.new.self) c.loop-seal.invariant.kept c.add.ensures.kept;
}

pub returns-clause-added : goal.returns-clause-added
returns-clause-added c = λ x has. c.loop-seal.invariant.added x (subst (λ xs. Contains xs x) (sym (take_all c.loop-seal.seal-index c.args.seals.now c.loop-seal-test.false)) has)
