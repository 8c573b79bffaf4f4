-- What becomes of links that a witness serves, by what was made for them.
use Rattle.std.proofs.Common.{◌≡◌, ℕ, Bool, false, List, [], ◌∷◌, Option, Some, refl, ◌∙◌}
use Rattle.cesr_codes.specs.declared.key.Key.{Key}
use Rattle.cesr_codes.specs.declared.sig.Sig.{Sig}
use Rattle.shelf_log.specs.KeriDisk.Images.{DiskShown}
use Rattle.keri_outside.specs.declared.inquiry.Inquiry.{Inquiry}
use Rattle.keri_outside.specs.declared.limits.Limits.{Limits}
use Rattle.keri_outside.specs.declared.signing.Signing.{Signing}
use Rattle.lists.specs.KeriSpecs.Shown.{HasNone}
use Rattle.run_status.specs.RunOutside.Makings.{AreMakings}
use Rattle.run_status.specs.RunOutside.Shown.{making}
use Rattle.run_status.specs.declared.run_outside.making.MakingKind.TheVariants.{Door, Verifier, Signer}
use Rattle.run_status.specs.RunRecord.Run.{DoorShown, Run}
use Rattle.witness_core.specs.WitnessLink.Links.{Left}
use Rattle.witness_core.specs.WitnessRole.ServedLinks.{Between, IsServingLinks, ServesAllLinks, at_first, readers_with}

-- all three were made of the address and of the helper, and had never failed
pub serving_links : {D : Type 0} {shown : D → DiskShown} {key : Key} {limits run_limits : Limits} {says : Key → List ℕ → Sig → Option Bool} {gives : Key → List ℕ → Option Sig}
    {count : ℕ} {door_old : DoorShown} {between : Between D} {disk : Option D} {run : Run}
    → ServesAllLinks shown key limits run_limits says gives count door_old between disk run → (helper address : List ℕ) (inquiries : Option (List Inquiry)) (signings : Option (List Signing)) (old : Left D)
    → run_limits ≡ run.before.limits → says ≡ run.before.says helper → gives ≡ run.before.gives helper
    → door_old ≡ record { left = run.before.links address; faults = 0 } → between ≡ at_first inquiries signings old → HasNone inquiries → HasNone signings → run.sink_after ≡ run.sink_before
    → AreMakings (making Door address false ∷ making Verifier helper false ∷ making Signer helper false ∷ []) run.before run.after
    → IsServingLinks shown key limits helper address count old disk run
serving_links s helper address inquiries signings old same says gives unasked unheard none_inquired none_signed same_sink makes = record {
  verifier = Some s.verifier;
  makes = rw (s.door_is, s.signer_is) makes;
  readers = readers_with s.verifier s.each;
  new = s.new;
  failed = s.failed;
  serves = rw (s.door_is, s.signer_is) (record {
    each = s.each;
    inquiries = inquiries;
    none_inquired = none_inquired;
    signings = signings;
    none_signed = none_signed;
    coming = rw (same, says, gives, unasked, unheard) at s.coming;
    says = s.says_is ∙ says;
    gives = s.gives_is ∙ gives;
    readers_are = refl;
  });
  same_sink = same_sink;
  ends = s.ends;
}
