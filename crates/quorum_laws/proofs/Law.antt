-- The law of agreement.
use Rattle.std.proofs.Common.{◌≡◌, ℕ, List, Contains, refl, sym, ◌∙◌, ap, subst}
use Rattle.cesr_codes.specs.declared.key.Key.{Key}
use Rattle.event_body.specs.EventBody.Events.{sn_of}
use Rattle.journal.specs.Journal.Grown.{chain_back}
use Rattle.journal.specs.declared.journal.body.Body.{Body}
use Rattle.quorum_laws.specs.Agreement.{Binds, AgreeUnder, AgreementLaw}
use Rattle.quorum_laws.proofs.Agreeing.{spelled_at, one_body, one_signed}
use Rattle.quorum_laws.proofs.Chains.{chain_same}

-- AGREEMENT: under witnesses that bind, any two lists that share a history agree
pub agree_under : (first second : List Key) (first_toad second_toad faulty : ℕ) → Binds first first_toad second second_toad faulty
    → AgreeUnder first first_toad second second_toad faulty
unfolding AgreeUnder
agree_under v w m n faulty large xs ys history bad shared few b c under_v under_w level =
    let alike : (d e : Body) → Contains xs d → Contains ys e → d.bytes ≡ e.bytes → d ≡ e
    = λ d e ind ine bytes. one_body d e (spelled_at xs d shared.first.spelled ind) (spelled_at ys e shared.second.spelled ine) bytes in
    let same = one_signed v w m n faulty large xs ys history bad shared few b c under_v under_w level in
    let b_in_ys = subst (λ d. Contains ys d) (sym same) under_w.inside in
    let chained = chain_same xs ys shared.first.grown shared.second.grown shared.no_clash alike (sn_of b.event) b under_v.inside b_in_ys refl in
    record { event = same; chain = chained ∙ ap (λ d. chain_back ys (sn_of d.event) d) same }

pub agreement : AgreementLaw
unfolding AgreeUnder
agreement xs ys history bad shared b c faulty inx iny level few large =
    agree_under _ _ _ _ faulty large xs ys history bad shared few b c (record { inside = inx; witnesses_are = refl; toad_is = refl }) (record { inside = iny; witnesses_are = refl; toad_is = refl }) level
