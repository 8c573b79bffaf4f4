-- One reader alone: all that is told is its share.
use Rattle.std.proofs.Common.{◌≡◌, ◌≤◌, List, [], ◌∷◌, ◌++◌, Some, length, sym, ◌∙◌, ap, subst, arith, inl, refl}
use Rattle.std.specs.Prelude.{All}
use Rattle.std.proofs.lemmas.List.Elements.{All-weaker, recursion_from_All}
use Rattle.journal.specs.Journal.Feeds.{reader_of}
use Rattle.journal.specs.Journal.History.{Told}
use Rattle.journal.specs.Journal.Questions.{IsInStep}
use Rattle.turn_lock.specs.Histories.{HasShare, share_of}
use Rattle.turn_lock.specs.Known.{OwnsAlone}
use Rattle.turn_lock.proofs.Histories.{share_of-all}
use Rattle.validator_core.specs.ValidatorCore.View.{CoreView, told_of}
use Rattle.reader_hub.specs.ReaderHub.Closing.{ClosesAll, most_splits}
use Rattle.reader_hub.specs.ReaderHub.Hubs.{HubPass, head_of}
use Rattle.reader_hub.specs.declared.reader_hub.core_head.CoreHead.{CoreHead}
use Rattle.reader_hub.specs.SharedReader.Steps.{StepsAlone}
use Rattle.reader_hub.proofs.SharedReaderLemmas.Steps.{whole_prefix}

-- what the core was told is in step where the one pass was
pub told_in_step : (head : CoreHead) (q : HubPass) (share : List Told) (core : CoreView) → OwnsAlone q share → q.number ≡ 0 → q.splits ≡ 0 → q.head ≡ Some head → StepsAlone q share
    → ClosesAll told_of head_of reader_of q [] core → IsInStep head.mode (told_of core)
told_in_step head q share core own number splits head_is a c =
    let told = told_of core in
    let zero : All (λ t. reader_of t ≡ 0) told =
    All-weaker (λ t. reader_of t ≤ most_splits (q ∷ [])) (λ t. reader_of t ≡ 0) (λ t le. omega (arith, le, splits)) told c.named in
    let whole : share_of reader_of 0 told ≡ told = share_of-all reader_of 0 told (recursion_from_All (λ t. reader_of t ≡ 0) told zero) in
    let listed : share_of reader_of 0 told ≡ share =
    c.own 0 share (subst (λ o. HasShare (o ++ []) 0 share) (sym (own ∙ ap (λ n. (n, share) ∷ []) number)) (inl refl)) in
    let long = ap length (sym whole ∙ listed) in
    let few = a.few in
    let seen : told ≡ q.seen = whole_prefix q.seen told c.begins.0 (omega (arith, long, few)) in
    let all = ap length seen in
    subst (IsInStep head.mode) (sym seen) (a.in_step (omega (arith, long, all)) head head_is)
