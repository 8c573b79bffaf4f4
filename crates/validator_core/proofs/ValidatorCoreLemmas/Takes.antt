-- What taking a body does to a core, as its callers see it.
use Rattle.std.proofs.Common.{◌≡◌, ℕ, Bool, true, false, ◌||◌, List, [], ◌∷◌, ◌++◌, length, Some, refl, sym, ◌∙◌, ap, if◌then◌else◌}
use Rattle.std.specs.Prelude.{slice_get}
use Rattle.std.specs.List.{list_all, list_any}
use Rattle.std.proofs.lemmas.Bool.{or_parts}
use Rattle.validator_core.specs.Acceptance.Standing.{told_of}
use Rattle.validator_core.specs.Tables.View.{View, came_with}
use Rattle.event_body.specs.EventBody.Events.{said_of}
use Rattle.journal.specs.declared.journal.body.Body.{Body}
use Rattle.journal.specs.declared.journal.claim.Claim.{Claim}
use Rattle.journal.specs.declared.journal.entry.Entry.TheVariants.{Took}
use Rattle.journal.specs.declared.journal.mode.Mode.{Mode}
use Rattle.journal.specs.declared.journal.reply.Reply.TheVariants.{Taken, Again, LimitReached}
use Rattle.journal.specs.Journal.History.{Told, took, bodies}
use Rattle.journal.specs.Journal.Logs.{is_in, same_body}
use Rattle.journal.specs.Journal.Replies.{is_again, is_full, reply_to, same_claim}
use Rattle.journal.proofs.JournalLemmas.Accepting.{same_body-refl}
use Rattle.journal.proofs.JournalLemmas.Places.{any_at}
use Rattle.keri_outside.specs.declared.limits.Limits.{Limits}
use Rattle.validator_core.specs.declared.validator_core.tally.Tally.{Tally}
use Rattle.validator_core.specs.ValidatorCore.Calls.{TakesBody, told_then}
use Rattle.validator_core.specs.ValidatorCore.Looks.{LooksAtFew, LooksByReply}
use Rattle.validator_core.specs.ValidatorCore.Tables.{AddsEntry, IsCore, base_in}
use Rattle.validator_core.specs.ValidatorCore.Tally.{is_crowded, is_spent, tally_with}
use Rattle.validator_core.specs.ValidatorCore.View.{CoreView}
use Rattle.validator_core.proofs.ValidatorCoreLemmas.CallLooks.{looks_again, looks_new}
use Rattle.validator_core.proofs.ValidatorCoreLemmas.Cores.{base_again, base_new, core_again, core_new, seen, told_again, told_then_new}
use Rattle.validator_core.proofs.ValidatorCoreLemmas.Counts.{not_crowded, not_spent}
use Rattle.validator_core.proofs.ValidatorCoreLemmas.Replies.{again_is, again_new, full_again, full_new, reply_full, reply_taken}

-- the reply to a body that is held and for which there is room
reply_then : (limits : Limits) (base : List Body) (told : List Told) (b : Body) (claims : List Claim) (p : Bool) → is_full limits base told b claims ≡ false → p ≡ is_again base told b claims
    → (if p then Again else Taken) ≡ reply_to limits base told b claims
unfolding reply_to
reply_then limits base told b claims p room again = rw room (ap (λ q. if q then Again else Taken) again)

-- what is told is looked at alike, new or not
by_reply : (old : CoreView) (b : Body) (new : CoreView) (steps steps_then : ℕ) → LooksAtFew old (said_of b.event) new steps steps_then → (p : Bool) → LooksByReply old b (if p then Again else Taken) new steps steps_then
by_reply old b new steps steps_then few true = few
by_reply old b new steps steps_then few false = few

told_either : (told : List Told) (reader : ℕ) (b : Body) (claims : List Claim) (p : Bool) → told ++ took reader b claims ∷ [] ≡ told_then told reader b claims (if p then Again else Taken)
told_either told reader b claims true = refl
told_either told reader b claims false = refl

module _ (mode : Mode) (limits : Limits) (base : ℕ) (old : View) (tally : Tally) (core : IsCore mode limits base old tally) (reader : ℕ) (b : Body) (claims : List Claim) where
  abbrev bs : List Body
  bs = base_in base old

  abbrev told : List Told
  told = told_of old

  -- FULL: nothing changes
  takes_full : is_full limits bs told b claims ≡ true → TakesBody (seen mode limits base old) reader b claims LimitReached (seen mode limits base old)
  takes_full full = record { reply_is = reply_full limits bs told b claims full; told_is = refl; follows = record { mode = refl; limits = refl; base = refl; bodies = refl } }

  -- AGAIN: a body that is held
  module _ (number : ℕ) (at : slice_get old.held number ≡ Some b) where
    inside : is_in (bodies bs told) b ≡ true
    inside = let order = core.in_order in ap (λ hs. is_in hs b) (sym order) ∙ any_at (λ c. same_body c b) old.held number b at (same_body-refl b)

    pub takes_full_again : is_spent limits tally (length claims) ≡ true → TakesBody (seen mode limits base old) reader b claims LimitReached (seen mode limits base old)
    takes_full_again spent = takes_full (full_again limits tally bs told core.tallied b claims inside ∙ spent)

    module _ (spent : is_spent limits tally (length claims) ≡ false) (new : View) (steps steps_then : ℕ) (adds : AddsEntry mode number [] (Took reader number claims) old new steps steps_then) where
      pub core_held : IsCore mode limits base new (tally_with tally 0 (length claims))
      core_held = core_again mode limits base old tally core new number reader steps steps_then claims b at (not_spent limits tally (length claims) spent) adds

      pub takes_held : (p : Bool) → p ≡ list_all (λ c. list_any (same_claim c) (came_with number old.entries)) claims
          → TakesBody (seen mode limits base old) reader b claims (if p then Again else Taken) (seen mode limits base new)
      takes_held p is = record {
        reply_is = reply_then limits bs told b claims p (full_again limits tally bs told core.tallied b claims inside ∙ spent) (is ∙ again_is old.held core.sound.differ number b at bs old.entries claims inside);
        told_is = told_again mode limits base old tally core new number reader steps steps_then claims b at (not_spent limits tally (length claims) spent) adds ∙ told_either told reader b claims p;
        follows = record { mode = refl; limits = refl; base = refl; bodies = base_again mode limits base old tally core new number reader steps steps_then claims b at (not_spent limits tally (length claims) spent) adds };
      }

      -- and of how many events that looks
      pub few_held : (p : Bool) → LooksByReply (seen mode limits base old) b (if p then Again else Taken) (seen mode limits base new) steps steps_then
      few_held p = by_reply (seen mode limits base old) b (seen mode limits base new) steps steps_then (looks_again mode limits base old tally core new (tally_with tally 0 (length claims)) core_held number reader steps steps_then claims b at adds) p

  -- NEW: a body that isn't held
  module _ (outside : is_in old.held b ≡ false) where
    beyond : is_in (bodies bs told) b ≡ false
    beyond = let order = core.in_order in ap (λ hs. is_in hs b) (sym order) ∙ outside

    pub takes_full_new : (is_spent limits tally (length claims) || is_crowded limits tally (length b.bytes)) ≡ true → TakesBody (seen mode limits base old) reader b claims LimitReached (seen mode limits base old)
    takes_full_new lacks = takes_full (full_new limits tally bs told core.tallied b claims beyond ∙ lacks)

    module _ (has_room : (is_spent limits tally (length claims) || is_crowded limits tally (length b.bytes)) ≡ false) (new : View) (steps steps_then : ℕ)
        (adds : AddsEntry mode (length old.held) (b ∷ []) (Took reader (length old.held) claims) old new steps steps_then) where
      rooms : (is_spent limits tally (length claims) ≡ false) × (is_crowded limits tally (length b.bytes) ≡ false)
      rooms = or_parts (is_spent limits tally (length claims)) (is_crowded limits tally (length b.bytes)) has_room

      pub core_first : IsCore mode limits base new (tally_with tally (length b.bytes) (length claims))
      core_first = core_new mode limits base old tally core new reader steps steps_then claims b outside (not_spent limits tally (length claims) rooms.0) (not_crowded limits tally (length b.bytes) rooms.1) adds

      pub takes_first : TakesBody (seen mode limits base old) reader b claims Taken (seen mode limits base new)
      takes_first = record {
        reply_is = reply_taken limits bs told b claims (full_new limits tally bs told core.tallied b claims beyond ∙ has_room) (again_new limits bs told b claims beyond);
        told_is = told_then_new mode limits base old tally core new reader steps steps_then claims b outside (not_spent limits tally (length claims) rooms.0) (not_crowded limits tally (length b.bytes) rooms.1) adds;
        follows = record {
          mode = refl;
          limits = refl;
          base = refl;
          bodies = base_new mode limits base old tally core new reader steps steps_then claims b outside (not_spent limits tally (length claims) rooms.0) (not_crowded limits tally (length b.bytes) rooms.1) adds;
        };
      }

      pub few_first : LooksByReply (seen mode limits base old) b Taken (seen mode limits base new) steps steps_then
      few_first = looks_new mode limits base old tally core new (tally_with tally (length b.bytes) (length claims)) core_first reader steps steps_then claims b outside adds
