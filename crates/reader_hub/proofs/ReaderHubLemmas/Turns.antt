-- A turn of the lock, as what a pass of the hub knows of it.
use Rattle.std.proofs.Common.{◌≡◌, ℕ, [], ap, sym, ◌∙◌, append-nil, inr}
use Rattle.std.proofs.lemmas.List.{append_cancel_left}
use Rattle.std.specs.Fn.{Once}
use denote.Ref.{MutBor}
use Rattle.journal.specs.Journal.Feeds.{reader_of}
use Rattle.validator_core.specs.ValidatorCore.View.{told_of}
use Rattle.turn_lock.specs.Known.{after_turn}
use Rattle.turn_lock.specs.Passes.{Turned}
use Rattle.reader_hub.specs.ReaderHub.Hubs.{HubPass, Meets, Stops, TookTurn, head_of}
use Rattle.reader_hub.specs.declared.reader_hub.hub_fault.HubFault.TheVariants.{OutOfMemory}
use Rattle.reader_hub.specs.declared.reader_hub.shared_core.SharedCore.{SharedCore}

module _ {F R : Type 0} {g : Once F (MutBor SharedCore × Unit {0}) (R × (MutBor SharedCore × Unit {0}))} {f : F} {limit : ℕ} {p : HubPass} {r : R} {q : HubPass}
    (t : Turned (λ (s : SharedCore). told_of s.core) (λ (s : SharedCore). head_of s.core) reader_of g f limit p r q) where
  -- the core that it met
  abbrev pub meets : Meets p
  meets = record { head = head_of t.met.core; met = told_of t.met.core; head_is = t.meets.1; begins = t.meets.0 }

  pub took_turn : TookTurn limit p (told_of t.met.core) t.es q
  took_turn = record { n = t.n; later = t.later; within = t.within; now = t.now ∙ ap (λ l. after_turn p t.n l t.es) t.appends.longer }

  pub took_nothing : told_of t.left.core ≡ told_of t.met.core → TookTurn limit p (told_of t.met.core) [] q
  took_nothing same =
      let met = told_of t.met.core in
      let none = append_cancel_left met t.es [] (sym t.appends.longer ∙ same ∙ sym (append-nil met)) in
      record { n = t.n; later = t.later; within = t.within; now = t.now ∙ ((λ i. after_turn p t.n (same i) (none i)) ∙ ap (λ l. after_turn p t.n l []) (sym (append-nil met))) }

  -- there was no memory, and nothing was told
  pub stops : told_of t.left.core ≡ told_of t.met.core → Stops limit p OutOfMemory q
  stops same = inr (meets, took_nothing same)
