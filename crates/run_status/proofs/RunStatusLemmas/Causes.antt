-- Why a run answers its status.
use Rattle.std.proofs.Common.{◌≡◌, ◌≢◌, ℕ, ◌⊎◌, inl, inr, Bool, true, false, ◌||◌, List, [], ◌∷◌, Option, Some, None, refl, sym, ◌∙◌, ap, if◌then◌else◌}
use Rattle.std.specs.List.{list_any}
use Rattle.lists.specs.KeriSpecs.Causes.{Rose}
use Rattle.run_status.specs.declared.run_status.besides.Besides.{Besides}
use Rattle.run_status.specs.declared.run_status.close.Close.{Close}
use Rattle.run_status.specs.declared.run_status.close.Close.TheVariants.{End, Bad, ReadFault, VerifierFault, SignerFault, DiskFault, WriteFault, Malformed, LimitReached, OutOfMemory}
use Rattle.run_status.specs.RunStatus.Readers.{Reader, HasClose, close_found}
use Rattle.keri_outside.specs.Shown.{SinkShown}
use Rattle.run_status.specs.RunStatus.RunEnds.{found, EndsRunBy, Puts, FaultsHaveCauses}
use Rattle.run_status.specs.RunStatus.Status.{status_of}

-- a status is that of the first cause
skip : (b : Bool) (x y n : ℕ) → x ≢ n → (if b then x else y) ≡ n → y ≡ n
skip true x y n other e = absurd (other e)
skip false x y n other e = e

hit : (b : Bool) (x y n : ℕ) → y ≢ n → (if b then x else y) ≡ n → b ≡ true
hit true x y n other e = refl
hit false x y n other e = absurd (other e)

miss : (b : Bool) (x y n : ℕ) → x ≢ n → y ≢ n → (if b then x else y) ≢ n
miss true x y n a b = a
miss false x y n a b = b

abbrev chain : Bool → Bool → Bool → Bool → Bool → Bool → ℕ → ℕ
chain s w r v d l rest = if s then 6 else if w then 2 else if r then 5 else if v then 7 else if d then 8 else if l then 9 else rest

-- what comes last: a conflict, what was refused, or nothing
abbrev last_of : Bool → Bool → ℕ
last_of c f = if c then 4 else if f then 3 else 0

last_isnt : (c f : Bool) (n : ℕ) → 4 ≢ n → 3 ≢ n → 0 ≢ n → last_of c f ≢ n
last_isnt c f n four three none = miss c 4 (if f then 3 else 0) n four (miss f 3 0 n three none)

module _ (s w r v d l c f : Bool) where
  by_nine : chain s w r v d l (last_of c f) ≡ 9 → l ≡ true
  by_nine e = hit l 9 _ 9 (last_isnt c f 9 (λ h. cc) (λ h. cc) (λ h. cc))
      (skip d 8 _ 9 (λ h. cc) (skip v 7 _ 9 (λ h. cc) (skip r 5 _ 9 (λ h. cc) (skip w 2 _ 9 (λ h. cc) (skip s 6 _ 9 (λ h. cc) e)))))

  by_eight : chain s w r v d l (last_of c f) ≡ 8 → d ≡ true
  by_eight e = hit d 8 _ 8 (miss l 9 _ 8 (λ h. cc) (last_isnt c f 8 (λ h. cc) (λ h. cc) (λ h. cc)))
      (skip v 7 _ 8 (λ h. cc) (skip r 5 _ 8 (λ h. cc) (skip w 2 _ 8 (λ h. cc) (skip s 6 _ 8 (λ h. cc) e))))

  -- it is not that of a disk, of a limit, or of what comes last
  past_seven : (n : ℕ) → 8 ≢ n → 9 ≢ n → 4 ≢ n → 3 ≢ n → 0 ≢ n → (if d then 8 else if l then 9 else last_of c f) ≢ n
  past_seven n eight nine four three none = miss d 8 _ n eight (miss l 9 _ n nine (last_isnt c f n four three none))

  by_seven : chain s w r v d l (last_of c f) ≡ 7 → v ≡ true
  by_seven e = hit v 7 _ 7 (past_seven 7 (λ h. cc) (λ h. cc) (λ h. cc) (λ h. cc) (λ h. cc))
      (skip r 5 _ 7 (λ h. cc) (skip w 2 _ 7 (λ h. cc) (skip s 6 _ 7 (λ h. cc) e)))

  by_five : chain s w r v d l (last_of c f) ≡ 5 → r ≡ true
  by_five e = hit r 5 _ 5 (miss v 7 _ 5 (λ h. cc) (past_seven 5 (λ h. cc) (λ h. cc) (λ h. cc) (λ h. cc) (λ h. cc)))
      (skip w 2 _ 5 (λ h. cc) (skip s 6 _ 5 (λ h. cc) e))

  by_two : chain s w r v d l (last_of c f) ≡ 2 → w ≡ true
  by_two e = hit w 2 _ 2 (miss r 5 _ 2 (λ h. cc) (miss v 7 _ 2 (λ h. cc) (past_seven 2 (λ h. cc) (λ h. cc) (λ h. cc) (λ h. cc) (λ h. cc))))
      (skip s 6 _ 2 (λ h. cc) e)

  by_six : chain s w r v d l (last_of c f) ≡ 6 → s ≡ true
  by_six e = hit s 6 _ 6
      (miss w 2 _ 6 (λ h. cc) (miss r 5 _ 6 (λ h. cc) (miss v 7 _ 6 (λ h. cc) (past_seven 6 (λ h. cc) (λ h. cc) (λ h. cc) (λ h. cc) (λ h. cc))))) e

either : (a b : Bool) → (a || b) ≡ true → (a ≡ true) ⊎ (b ≡ true)
either true b e = inl refl
either false b e = inr e

-- what is found of the readers alone is the close of one
module _ (test : Close → Bool) (at : Close) (is : (close : Close) → test close ≡ true → close ≡ at) where
  some_closed : (readers : List Reader) → list_any (λ r. test r.close) readers ≡ true → HasClose at readers
  some_closed [] e = cc
  some_closed (reader ∷ readers) e = elim (either (test reader.close) (list_any (λ r. test r.close) readers) e) [
    | inl this ↦ inl (is reader.close this)
    | inr later ↦ inr (some_closed readers later)
  ]

  -- and of what was found besides, that
  closed_or : (b : Bool) (readers : List Reader) → (list_any (λ r. test r.close) readers || b) ≡ true → HasClose at readers ⊎ (b ≡ true)
  closed_or b readers e = elim (either (list_any (λ r. test r.close) readers) b e) [
    | inl closed ↦ inl (some_closed readers closed)
    | inr besides ↦ inr besides
  ]

read_fault : (close : Close) → (close_found close).source_failed ≡ true → close ≡ ReadFault
read_fault ReadFault e = refl
read_fault End e = cc
read_fault (Bad bad) e = cc
read_fault VerifierFault e = cc
read_fault SignerFault e = cc
read_fault DiskFault e = cc
read_fault WriteFault e = cc
read_fault (Malformed place) e = cc
read_fault LimitReached e = cc
read_fault OutOfMemory e = cc

verifier_fault : (close : Close) → (close_found close).verifier_failed ≡ true → close ≡ VerifierFault
verifier_fault VerifierFault e = refl
verifier_fault End e = cc
verifier_fault (Bad bad) e = cc
verifier_fault ReadFault e = cc
verifier_fault SignerFault e = cc
verifier_fault DiskFault e = cc
verifier_fault WriteFault e = cc
verifier_fault (Malformed place) e = cc
verifier_fault LimitReached e = cc
verifier_fault OutOfMemory e = cc

signer_fault : (close : Close) → (close_found close).signer_failed ≡ true → close ≡ SignerFault
signer_fault SignerFault e = refl
signer_fault End e = cc
signer_fault (Bad bad) e = cc
signer_fault ReadFault e = cc
signer_fault VerifierFault e = cc
signer_fault DiskFault e = cc
signer_fault WriteFault e = cc
signer_fault (Malformed place) e = cc
signer_fault LimitReached e = cc
signer_fault OutOfMemory e = cc

disk_fault : (close : Close) → (close_found close).disk_failed ≡ true → close ≡ DiskFault
disk_fault DiskFault e = refl
disk_fault End e = cc
disk_fault (Bad bad) e = cc
disk_fault ReadFault e = cc
disk_fault VerifierFault e = cc
disk_fault SignerFault e = cc
disk_fault WriteFault e = cc
disk_fault (Malformed place) e = cc
disk_fault LimitReached e = cc
disk_fault OutOfMemory e = cc

write_fault : (close : Close) → (close_found close).sink_failed ≡ true → close ≡ WriteFault
write_fault WriteFault e = refl
write_fault End e = cc
write_fault (Bad bad) e = cc
write_fault ReadFault e = cc
write_fault VerifierFault e = cc
write_fault SignerFault e = cc
write_fault DiskFault e = cc
write_fault (Malformed place) e = cc
write_fault LimitReached e = cc
write_fault OutOfMemory e = cc

full : (close : Close) → (close_found close).limit_reached ≡ true → close ≡ LimitReached
full LimitReached e = refl
full End e = cc
full (Bad bad) e = cc
full ReadFault e = cc
full VerifierFault e = cc
full SignerFault e = cc
full DiskFault e = cc
full WriteFault e = cc
full (Malformed place) e = cc
full OutOfMemory e = cc

-- where nothing more is put, a reader closed by the sink's fault
pub six_closed : (besides : Besides) (readers : List Reader) (status : ℕ) → status ≡ status_of (found besides readers false) → status ≡ 6 → HasClose WriteFault readers
six_closed besides readers status s e = elim (closed_or (λ c. (close_found c).sink_failed) WriteFault write_fault false readers (by_six _ _ _ _ _ _ _ _ (sym s ∙ e))) [
  | inl closed ↦ closed
  | inr failed ↦ cc
]

module _ (besides : Besides) (readers : List Reader) (old new : SinkShown) (status : ℕ) where
  pub words_refused : (owed : Option (List ℕ)) → EndsRunBy owed besides readers old new status → status ≡ 2 → besides.words_refused ≡ true
  words_refused None s e = let clash : 10 ≡ 2 = sym s.0 ∙ e in cc
  words_refused (Some text) s e = by_two _ _ _ _ _ _ _ _ (sym s.2 ∙ e)

  put_failed : (text : List ℕ) (failed : Bool) → Puts text failed old new → failed ≡ true → Rose old.faults new.faults
  put_failed text true p e = p.1
  put_failed text false p e = cc

  put_kept : (text : List ℕ) (failed : Bool) → Puts text failed old new → (failed ≡ true → ⊥) → new.faults ≡ old.faults
  put_kept text false p e = p.1
  put_kept text true p e = absurd (e refl)

  -- a put that failed is found, whatever the readers are
  six_of : (failed : Bool) → failed ≡ true → status_of (found besides readers failed) ≡ 6
  six_of failed e = rw (e, or_true (list_any (λ r. (close_found r.close).sink_failed) readers)) refl
    where
      or_true : (b : Bool) → (b || true) ≡ true
      or_true true = refl
      or_true false = refl

  seven_of : (verifier signer : Bool) → (verifier ≡ true → HasClose VerifierFault readers ⊎ (besides.verifier_failed ≡ true))
      → (signer ≡ true → HasClose SignerFault readers ⊎ (besides.signer_failed ≡ true)) → (verifier || signer) ≡ true
      → HasClose VerifierFault readers ⊎ HasClose SignerFault readers ⊎ (besides.signer_failed ≡ true) ⊎ (besides.verifier_failed ≡ true)
  seven_of verifier signer by_verifier by_signer e = elim (either verifier signer e) [
    | inl failed ↦ elim (by_verifier failed) [
      | inl closed ↦ inl closed
      | inr round ↦ inr (inr (inr round))
    ]
    | inr failed ↦ elim (by_signer failed) [
      | inl closed ↦ inr (inl closed)
      | inr found ↦ inr (inr (inl found))
    ]
  ]

  -- each fault that is answered has its cause
  pub faults_have_causes : (owed : Option (List ℕ)) → EndsRunBy owed besides readers old new status → FaultsHaveCauses readers besides old new status
  faults_have_causes None s = record {
    five = λ e. let clash : 10 ≡ 5 = sym s.0 ∙ e in cc;
    seven = λ e. let clash : 10 ≡ 7 = sym s.0 ∙ e in cc;
    eight = λ e. let clash : 10 ≡ 8 = sym s.0 ∙ e in cc;
    nine = λ e. let clash : 10 ≡ 9 = sym s.0 ∙ e in cc;
    six = λ e. let clash : 10 ≡ 6 = sym s.0 ∙ e in cc;
    kept = λ other. ap (λ k. k.faults) s.1;
  }
  faults_have_causes (Some text) s = record {
    five = λ e. closed_or (λ c. (close_found c).source_failed) ReadFault read_fault besides.door_failed readers (by_five _ _ _ _ _ _ _ _ (sym s.2 ∙ e));
    seven = λ e. seven_of _ _ (closed_or (λ c. (close_found c).verifier_failed) VerifierFault verifier_fault besides.verifier_failed readers)
        (closed_or (λ c. (close_found c).signer_failed) SignerFault signer_fault besides.signer_failed readers) (by_seven _ _ _ _ _ _ _ _ (sym s.2 ∙ e));
    eight = λ e. closed_or (λ c. (close_found c).disk_failed) DiskFault disk_fault besides.disk_failed readers (by_eight _ _ _ _ _ _ _ _ (sym s.2 ∙ e));
    nine = λ e. closed_or (λ c. (close_found c).limit_reached) LimitReached full besides.shelf_full readers (by_nine _ _ _ _ _ _ _ _ (sym s.2 ∙ e));
    six = λ e. elim (closed_or (λ c. (close_found c).sink_failed) WriteFault write_fault s.0 readers (by_six _ _ _ _ _ _ _ _ (sym s.2 ∙ e))) [
      | inl closed ↦ inl closed
      | inr failed ↦ inr (put_failed text s.0 s.1 failed)
    ];
    kept = λ other. put_kept text s.0 s.1 (λ failed. other (s.2 ∙ six_of s.0 failed));
  }
