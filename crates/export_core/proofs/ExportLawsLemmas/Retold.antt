-- A journal that was retold came about message by message, each followed by its answers.
use Rattle.std.proofs.Common.{◌≡◌, ℕ, true, false, List, [], ◌∷◌, ◌++◌, refl, sym, ◌∙◌, ap, subst, append-nil, append_assoc}
use Rattle.std.specs.Prelude.{All, IsTrue}
use Rattle.std.specs.List.{list_any}
use Rattle.std.proofs.lemmas.List.Elements.{All-head, All-tail}
use Rattle.key_state.specs.Same.{distinct}
use Rattle.journal.specs.declared.journal.body.Body.{Body}
use Rattle.journal.specs.declared.journal.claim.Claim.{Claim}
use Rattle.journal.specs.declared.journal.mode.Mode.TheVariants.{Full}
use Rattle.journal.specs.Journal.History.{Told, Triple, took, heard, bodies, same_triple}
use Rattle.journal.specs.Journal.Questions.{IsRegular, questions, raised}
use Rattle.export_core.specs.ExportLaws.Export.{AreRetold, SaysYes, Sent, sent_in}

-- the entries are verdicts, and each is yes
abbrev pub AllYes : List Told → Type 0
AllYes [] = Unit {0}
AllYes (took reader b claims ∷ told) = ⊥
AllYes (heard reader b key sig verdict ∷ told) = (verdict ≡ true) × AllYes told

-- behind what was told, each message in order is taken, and then each question answered by yes, until none is open; and so the
-- whole comes about
abbrev pub Replays : List Sent → List Told → List Told → Type 0
Replays [] told whole = told ≡ whole
Replays (m ∷ later) told whole = (reader : ℕ) × (answers : List Told) × AllYes answers
    × (questions Full [] (told ++ took reader m.body m.claims ∷ answers) ≡ [])
    × Replays later (told ++ took reader m.body m.claims ∷ answers) whole

-- there is nothing, or a message first
abbrev BeginsTaken : List Told → Type 0
BeginsTaken [] = Unit {0}
BeginsTaken (took reader b claims ∷ told) = Unit {0}
BeginsTaken (heard reader b key sig verdict ∷ told) = ⊥

-- the answers in front, and what comes behind them
record Answered (rest : List Told) : Type 0 where
  pub answers : List Told
  pub later : List Told
  pub parts : rest ≡ answers ++ later
  pub all : AllYes answers
  pub same : sent_in rest ≡ sent_in later
  pub good : All SaysYes later
  pub begins : BeginsTaken later

answered : (rest : List Told) → All SaysYes rest → Answered rest
answered [] good = record { answers = []; later = []; parts = refl; all = tt; same = refl; good = good; begins = tt }
answered (took reader b claims ∷ more) good =
    record { answers = []; later = took reader b claims ∷ more; parts = refl; all = tt; same = refl; good = good; begins = tt }
answered (heard reader b key sig verdict ∷ more) good =
    let t = heard reader b key sig verdict in
    let k = answered more (All-tail SaysYes t more good) in record {
      answers = t ∷ k.answers;
      later = k.later;
      parts = ap (λ l. t ∷ l) k.parts;
      all = (All-head SaysYes t more good, k.all);
      same = k.same;
      good = k.good;
      begins = k.begins;
    }

module _ (whole : List Told)
    (waited : (earlier later : List Told) (reader : ℕ) (b : Body) (claims : List Claim) → whole ≡ earlier ++ took reader b claims ∷ later → questions Full [] earlier ≡ [])
    (none_open : questions Full [] whole ≡ []) where
  none_open_at : (sofar rest : List Told) → whole ≡ sofar ++ rest → BeginsTaken rest → questions Full [] sofar ≡ []
  none_open_at sofar [] split begins = subst (λ l. questions Full [] l ≡ []) (split ∙ append-nil sofar) none_open
  none_open_at sofar (took reader b claims ∷ more) split begins = waited sofar more reader b claims split
  none_open_at sofar (heard reader b key sig verdict ∷ more) split begins = absurd begins

  replayed : (ms : List Sent) (sofar rest : List Told) → whole ≡ sofar ++ rest → sent_in rest ≡ ms → All SaysYes rest → BeginsTaken rest → Replays ms sofar whole
  replayed [] sofar [] split same good begins = sym (split ∙ append-nil sofar)
  replayed [] sofar (took reader b claims ∷ more) split same good begins = absurd cc
  replayed [] sofar (heard reader b key sig verdict ∷ more) split same good begins = absurd begins
  replayed (m ∷ ms) sofar [] split same good begins = absurd cc
  replayed (m ∷ ms) sofar (heard reader b key sig verdict ∷ more) split same good begins = absurd begins
  replayed (m ∷ ms) sofar (took reader b claims ∷ more) split same good begins =
      let its : record { body = b; claims = claims } ≡ m = cc in
      let behind : sent_in more ≡ ms = cc in
      let k = answered more (All-tail SaysYes (took reader b claims) more good) in
      let now = sofar ++ took reader b claims ∷ k.answers in
      let split_now : whole ≡ now ++ k.later = split ∙ ap (λ l. sofar ++ took reader b claims ∷ l) k.parts ∙ sym (append_assoc sofar (took reader b claims ∷ k.answers) k.later) in
      subst (λ x. Replays (x ∷ ms) sofar whole) its
      (reader, k.answers, k.all, none_open_at now k.later split_now k.begins, replayed ms now k.later split_now (sym k.same ∙ behind) k.good k.begins)

-- nothing is asked before anything is told
nothing_asked : questions Full [] [] ≡ []
unfolding questions raised bodies distinct
nothing_asked = refl

-- so no verdict comes first
begins_taken : (whole : List Told) → IsRegular Full [] whole → BeginsTaken whole
begins_taken [] regular = tt
begins_taken (took reader b claims ∷ more) regular = tt
begins_taken (heard reader b key sig verdict ∷ more) regular =
    let none : false ≡ true = subst (λ (qs : List Triple). IsTrue (list_any (same_triple (record { body = b.bytes; key = key; sig = sig })) qs)) nothing_asked
    (regular [] more reader b key sig verdict refl) in cc

pub replays : (sent : List Sent) (whole : List Told) → AreRetold sent whole → Replays sent [] whole
replays sent whole r = replayed whole r.waited r.none_open sent [] whole refl r.takes r.all_yes (begins_taken whole r.regular)
