-- The text of items, by bodies.
use Rattle.std.proofs.Common.{◌≡◌, ℕ, List, [], ◌∷◌, ◌++◌, Option, Some, None, append-nil, append_assoc, subst, get_or, length, take, refl, sym, ◌∙◌, ap, ◌<◌, ◌+◌}
use Rattle.std.specs.Prelude.{All, filter_map, flat_map, option_map, slice_get}
use Rattle.std.specs.List.{cons_option}
use Rattle.std.proofs.lemmas.List.{take_more}
use Rattle.std.proofs.lemmas.List.Elements.{All-append, All-cons, All-nil, filter_map-append}
use Rattle.cesr_codes.specs.Indexed.{IsIndexed}
use Rattle.std.proofs.lemmas.List.Concat.{flat_map-append}
use Rattle.cesr_codes.specs.declared.indexed_sig.IndexedSig.{IndexedSig}
use Rattle.cesr_stream.specs.Written.{item_text}
use Rattle.journal.specs.declared.journal.body.Body.{Body}
use Rattle.journal.specs.Journal.Journals.{chosen}
use Rattle.journal.specs.Journal.Replies.{same_indexed}
use Rattle.journal.proofs.JournalLemmas.Locality.{flat_map-push}
use Rattle.key_state.specs.Same.{distinct}
use Rattle.validator_core.specs.ValidatorCore.View.{CoreView}
use Rattle.validator_core.specs.ValidatorCore.Signatures.{good_on}
use Rattle.watcher_core.specs.Evidence.{items_with}
use Rattle.watcher_core.specs.Named.{PutsBodies, PutsBody, firsts_on, text_on}

-- lists of lists of lists
pub flat_map-flat_map : {X Y Z : Type 0} (g : Y → List Z) (f : X → List Y) (xs : List X) → flat_map g (flat_map f xs) ≡ flat_map (λ x. flat_map g (f x)) xs
flat_map-flat_map g f [] = refl
flat_map-flat_map g f (x ∷ xs) = flat_map-append g (f x) (flat_map f xs) ∙ ap (λ zs. flat_map g (f x) ++ zs) (flat_map-flat_map g f xs)

-- the bodies of one number more, and those of one conflict more
pub chosen_more : (held : List Body) (ns : List ℕ) (i d : ℕ) → i < length ns
    → chosen held (take (i + 1) ns) ≡ chosen held (take i ns) ++ cons_option (slice_get held (get_or ns i d)) []
unfolding chosen
chosen_more held ns i d low = ap (filter_map (λ n. slice_get held n)) (take_more ns i d low) ∙ filter_map-append (λ n. slice_get held n) (take i ns) (get_or ns i d ∷ [])

pub flat_map-more : {X Y : Type 0} (f : X → List Y) (xs : List X) (i : ℕ) (x : X) → i < length xs → x ≡ get_or xs i x → flat_map f (take (i + 1) xs) ≡ flat_map f (take i xs) ++ f x
flat_map-more f xs i x low is = ap (flat_map f) (take_more xs i x low ∙ ap (λ y. take i xs ++ y ∷ []) (sym is)) ∙ flat_map-push f (take i xs) x

module _ (core : CoreView) where
  -- no bodies are put
  pub puts_none : (old : List ℕ) → PutsBodies core [] old old
  puts_none old = record { text = sym (append-nil old); raw = All-nil (λ b. All IsIndexed (firsts_on core b)) }

  -- bodies, and more behind them
  pub puts_more : (bodies more : List Body) (old mid new : List ℕ) → PutsBodies core bodies old mid → PutsBodies core more mid new → PutsBodies core (bodies ++ more) old new
  puts_more bodies more old mid new first then = record {
    text = then.text ∙ ap (λ text. text ++ flat_map (text_on core) more) first.text ∙ append_assoc old (flat_map (text_on core) bodies) (flat_map (text_on core) more)
        ∙ ap (λ text. old ++ text) (sym (flat_map-append (text_on core) bodies more));
    raw = All-append (λ b. All IsIndexed (firsts_on core b)) bodies more first.raw then.raw;
  }

  -- the body of a number, where there is one
  pub puts_at : (o : Option Body) (old new : List ℕ) → PutsBody core o old new → PutsBodies core (cons_option o []) old new
  puts_at None old new same = subst (λ text. PutsBodies core [] old text) (sym same) (puts_none old)
  puts_at (Some b) old new puts = puts

  -- a body is put with its signatures
  module _ (number : ℕ) (bytes old new : List ℕ) (came firsts : List IndexedSig)
      (good : (b : Body) → slice_get core.held number ≡ Some b → came ≡ good_on core b) (first : firsts ≡ distinct same_indexed came) (raw : All IsIndexed firsts)
      (put : new ≡ old ++ flat_map item_text (items_with bytes firsts)) where
    puts_if : (o : Option Body) → slice_get core.held number ≡ o → Some bytes ≡ option_map (λ b. b.bytes) o → PutsBody core o old new
    puts_if None at is = cc
    puts_if (Some b) at is =
        let own : bytes ≡ b.bytes = cc in
        let sigs : firsts ≡ firsts_on core b = first ∙ ap (distinct same_indexed) (good b at) in
        record {
          text = put ∙ (λ i. old ++ flat_map item_text (items_with (own i) (sigs i))) ∙ ap (λ more. old ++ more) (sym (append-nil (text_on core b)));
          raw = All-cons (λ b. All IsIndexed (firsts_on core b)) b [] (subst (All IsIndexed) sigs raw) (All-nil (λ b. All IsIndexed (firsts_on core b)));
        }

    pub puts_body : Some bytes ≡ option_map (λ b. b.bytes) (slice_get core.held number) → PutsBody core (slice_get core.held number) old new
    puts_body is = puts_if (slice_get core.held number) refl is
