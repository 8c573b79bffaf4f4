-- What a verifier is asked, and what it says, of what was told.
use Rattle.std.proofs.Common.{ℕ, Bool, List, [], ◌∷◌, ◌++◌, Option, sym, ◌∙◌, ap, append-nil, append_assoc}
use Rattle.std.proofs.lemmas.List.Elements.{All-nil}
use Rattle.cesr_codes.specs.declared.key.Key.{Key}
use Rattle.cesr_codes.specs.declared.sig.Sig.{Sig}
use Rattle.journal.specs.declared.journal.body.Body.{Body}
use Rattle.journal.specs.declared.journal.claim.Claim.{Claim}
use Rattle.journal.specs.Journal.History.{Triple, took}
use Rattle.keri_outside.specs.declared.inquiry.Inquiry.{Inquiry}
use Rattle.lists.proofs.KeriSpecsLemmas.Putting.{after-nil}
use Rattle.validator_core.specs.ValidatorCore.Verdicts.{Asks}
use Rattle.validator_core.specs.ValidatorCore.View.{CoreView, open_of, told_of}
use Rattle.validator_core.proofs.ValidatorCoreLemmas.OpenQuestions.{follows_itself, none_besides}
use Rattle.witness_core.specs.WitnessCore.Telling.{AsksVerdicts, Came, Hears, IsUntold}

module _ (says : Key → List ℕ → Sig → Option Bool) where
  -- none was heard yet
  pub hears_none : (core : CoreView) → Hears says core core
  hears_none core = record { verdicts = []; behind = sym (append-nil (told_of core)); each = All-nil _; follows = follows_itself core }

module _ {says : Key → List ℕ → Sig → Option Bool} {before now : Option (List Inquiry)} {old new : CoreView} {unheard : List Triple} (asks : Asks says before now old new unheard) where
  -- what it was asked for was heard
  pub hears_of : Hears says old new
  hears_of = record { verdicts = asks.verdicts; behind = asks.behind; each = asks.each; follows = asks.follows }

module _ (before : Option (List Inquiry)) (old : CoreView) where
  -- nothing more was told, and it wasn't asked
  pub untold_asks : (new : CoreView) → IsUntold old new → AsksVerdicts before before old new
  untold_asks new none = ([], none.told ∙ sym (append-nil (told_of old)), none_besides before before [] (open_of new) (after-nil before))

  module _ (b : Body) (claims : List Claim) (mid : CoreView) (came : Came b claims old mid) where
    -- a body came, and it wasn't asked
    pub came_asks : AsksVerdicts before before old mid
    came_asks = (took 0 b claims ∷ [], came.told, none_besides before before (took 0 b claims ∷ []) (open_of mid) (after-nil before))

    -- or it was asked then
    pub asked_then : (says : Key → List ℕ → Sig → Option Bool) (now : Option (List Inquiry)) (new : CoreView) → Asks says before now mid new (open_of new) → AsksVerdicts before now old new
    asked_then says now new asks = (
      took 0 b claims ∷ asks.verdicts,
      asks.behind ∙ (ap (λ ts. ts ++ asks.verdicts) came.told ∙ append_assoc (told_of old) (took 0 b claims ∷ []) asks.verdicts),
      asks.asked,
    )
