-- What `blame` owes of both cores.
use Rattle.std.proofs.Common.{◌≢◌, ℕ, Bool, [], ◌∷◌, Option, Some, None}
use Rattle.std.specs.Prelude.{IfSome, Vec, option_map}
use Rattle.std.proofs.lemmas.List.Elements.{All-nil, All-push}
use Rattle.blame_core.proofs.BlameCoreLemmas.Alike.{blames_alike}
use Rattle.reader_hub.specs.declared.reader_threads.last_round.LastRound.{LastRound}
use Rattle.run_status.specs.declared.run_status.close.Close.TheVariants.{OutOfMemory}
use Rattle.run_status.specs.RunStatus.Readers.{Reader}
use Rattle.validator_core.specs.ValidatorCore.View.{CoreView}
use Rattle.keri_roles.specs.CoreRoles.Blamed.{HadRoom, IsBlamesText}
use Rattle.keri_roles.specs.CoreRoles.CoreTold.{HadMemory, plain}

-- the one reader of a core found memory
had_memory : (reader : Reader) (rest : LastRound) → HadRoom reader.close rest → HadMemory rest (reader ∷ [])
had_memory reader rest room = (room.rest, All-push (λ r. r.close ≢ OutOfMemory) [] reader (All-nil _) room.close)

-- the lines are owed, where there was memory
pub owes_blames : {Z : Type 0} (one other : CoreView) (reader other_reader : Reader) (rest other_rest : LastRound) (owed : Option (Vec ℕ Z)) (is_found : Bool)
    → IfSome owed (λ text. HadRoom reader.close rest × HadRoom other_reader.close other_rest)
    → IfSome owed (λ text. IsBlamesText one other text.items is_found)
    → IfSome (option_map (λ text. text.items) owed) (λ text. HadMemory rest (reader ∷ []) × HadMemory other_rest (other_reader ∷ [])
    × IsBlamesText (plain one) (plain other) text is_found)
owes_blames one other reader other_reader rest other_rest None is_found room is = tt
owes_blames one other reader other_reader rest other_rest (Some text) is_found room is = (
  had_memory reader rest room.0,
  had_memory other_reader other_rest room.1,
  record {
    blames = is.blames;
    are_blames = blames_alike one other [] [] is.blames is.are_blames;
    text_is = is.text_is;
    found_is = is.found_is;
  },
)
