-- What a crash leaves in each of the two steps of an append.
use Rattle.std.proofs.Common.{◌≡◌, ◌≢◌, inl, inr, ℕ, ◌+◌, ◌≤◌, min, List, [], ◌∷◌, ◌++◌, length, take, drop, get_or, All, refl, sym, ◌∙◌, ap, subst, arith, append_assoc, length-append, take-append-drop, take_at, drop_at}
use Rattle.std.proofs.lemmas.List.{drop_more}
use Rattle.std.proofs.lemmas.List.Elements.{All-push}
use Rattle.std.proofs.lemmas.Bool.{cases_eq}
use Rattle.std.specs.Int.{w32, to_be_bytes}
use Rattle.shelf_log.specs.KeriDisk.Images.{overwritten, Torn}
use Rattle.shelf_log.specs.ShelfLog.Format.{Holds, IsSized, record_bytes, shelf_front}
use Rattle.shelf_log.specs.ShelfLog.OnDisk.{HoldsEither}
use Rattle.shelf_log.specs.declared.shelf_log.version.Version.TheVariants.{Two}
use Rattle.shelf_log.proofs.ShelfLogLemmas.Files.{Parts, parts_of, holds_of, front-push}

min_long : (k n : ℕ) → k ≤ n → min k n ≡ k
min_long k n le = omega (arith, le)

module _ (list : List (List ℕ)) (file : List ℕ) (holds : Holds Two file list) where
  abbrev front : List ℕ
  front = shelf_front Two list

  pub parts : Parts Two file list
  parts = parts_of Two file list holds

  long : length front + 1 ≤ length file
  long = omega (arith, ap length parts.is, length-append front (parts.gate ∷ parts.rest))

  pub to_gate : take (length front + 1) file ≡ front ++ parts.gate ∷ []
  to_gate = ap (take (length front + 1)) (parts.is ∙ sym (append_assoc front (parts.gate ∷ []) parts.rest))
      ∙ take_at (front ++ parts.gate ∷ []) parts.rest (length front + 1) (omega (arith, length-append front (parts.gate ∷ [])))

  -- the closed gate stands in whatever a write behind it leaves
  pub torn_behind : (n : ℕ) (c : List ℕ) → Torn (length front + 1) n file c → Holds Two c list
  torn_behind n c torn =
      let k = length front + 1 in
      let same : take k c ≡ front ++ parts.gate ∷ [] = subst (λ m. take m c ≡ take k file) (min_long k (length file) long) torn.before ∙ to_gate in
      let whole : c ≡ front ++ parts.gate ∷ drop k c =
      sym (take-append-drop k c) ∙ ap (λ (l : List ℕ). l ++ drop k c) same ∙ append_assoc front (parts.gate ∷ []) (drop k c) in
      subst (λ f. Holds Two f list) (sym whole) (holds_of Two list parts.gate (drop k c) parts.closed holds.2)

-- what stands on the disk between the two steps
abbrev pub staged : List (List ℕ) → ℕ → List ℕ → List ℕ → List ℕ
staged list gate payload rest = shelf_front Two list ++ ((gate ∷ to_be_bytes w32 (length payload)) ++ (payload ++ 0 ∷ rest))

module _ (list : List (List ℕ)) (payload : List ℕ) (sized : All (IsSized Two) list) (fits : IsSized Two payload) where
  pub opened : (rest : List ℕ) → staged list 1 payload rest ≡ shelf_front Two (list ++ payload ∷ []) ++ 0 ∷ rest
  opened rest =
      ap (λ (l : List ℕ). shelf_front Two list ++ l) (sym (append_assoc (1 ∷ to_be_bytes w32 (length payload)) payload (0 ∷ rest)))
      ∙ sym (append_assoc (shelf_front Two list) (record_bytes payload) (0 ∷ rest))
      ∙ ap (λ (l : List ℕ). l ++ 0 ∷ rest) (sym (front-push Two list payload))

  -- the record counts where the gate before it is open
  pub staged_holds : (gate : ℕ) (rest : List ℕ) → HoldsEither list payload (staged list gate payload rest)
  staged_holds gate rest = elim (cases_eq gate 1) [
    | inl open_gate ↦ inr (subst (λ f. Holds Two f (list ++ payload ∷ [])) (sym (ap (λ g. staged list g payload rest) open_gate ∙ opened rest)) (holds_of Two (list ++ payload ∷ []) 0 rest (omega arith) (All-push (IsSized Two) list payload sized fits)))
    | inr shut ↦ inl (holds_of Two list gate (to_be_bytes w32 (length payload) ++ (payload ++ 0 ∷ rest)) shut sized)
  ]

-- what the first step writes
pub staged_file : (list : List (List ℕ)) (file payload : List ℕ) → Holds Two file list → (gate : ℕ) × (rest : List ℕ) × (gate ≢ 1)
    × (overwritten file (length (shelf_front Two list) + 1) (to_be_bytes w32 (length payload) ++ payload ++ 0 ∷ []) ≡ staged list gate payload rest)
staged_file list file payload holds =
    let front = shelf_front Two list in
    let p = parts list file holds in
    let be = to_be_bytes w32 (length payload) in
    let rest = drop (length front + 1 + length (be ++ payload ++ 0 ∷ [])) file in (
      p.gate,
      rest,
      p.closed,
      ap (λ (l : List ℕ). l ++ (be ++ payload ++ 0 ∷ []) ++ rest) (to_gate list file holds)
          ∙ append_assoc (front ++ p.gate ∷ []) (be ++ payload ++ 0 ∷ []) rest
          ∙ append_assoc front (p.gate ∷ []) (be ++ payload ++ 0 ∷ [] ++ rest)
          ∙ ap (λ (l : List ℕ). front ++ (p.gate ∷ l)) (append_assoc (be ++ payload) (0 ∷ []) rest ∙ append_assoc be payload (0 ∷ rest)),
    )

module _ (list : List (List ℕ)) (payload : List ℕ) (gate : ℕ) (rest : List ℕ) where
  abbrev offset : ℕ
  offset = length (shelf_front Two list)

  abbrev behind : List ℕ
  behind = to_be_bytes w32 (length payload) ++ (payload ++ 0 ∷ rest)

  front_of : take offset (staged list gate payload rest) ≡ shelf_front Two list
  front_of = take_at (shelf_front Two list) (gate ∷ behind) offset refl

  behind_of : drop (offset + 1) (staged list gate payload rest) ≡ behind
  behind_of =
      ap (drop (offset + 1)) (sym (append_assoc (shelf_front Two list) (gate ∷ []) behind))
      ∙ drop_at (shelf_front Two list ++ gate ∷ []) behind (offset + 1) (omega (arith, length-append (shelf_front Two list) (gate ∷ [])))

  long_staged : offset + 1 ≤ length (staged list gate payload rest)
  long_staged = omega (arith, length-append (shelf_front Two list) (gate ∷ behind))

  -- the record stands whole in whatever the second step leaves, behind any gate
  pub torn_gate : (c : List ℕ) → Torn offset 1 (staged list gate payload rest) c → c ≡ staged list (get_or c offset 0) payload rest
  torn_gate c torn =
      let s = staged list gate payload rest in
      let same : take offset c ≡ shelf_front Two list = subst (λ m. take m c ≡ take offset s) (min_long offset (length s) (omega (arith, long_staged))) torn.before ∙ front_of in
      let more : drop offset c ≡ get_or c offset 0 ∷ behind =
      drop_more c offset 0 (omega (arith, torn.no_shorter, long_staged)) ∙ ap (λ (l : List ℕ). get_or c offset 0 ∷ l) (torn.after ∙ behind_of) in
      sym (take-append-drop offset c) ∙ ap (λ (l : List ℕ). l ++ drop offset c) same ∙ ap (λ (l : List ℕ). shelf_front Two list ++ l) more

  -- what the second step writes
  pub opened_file : overwritten (staged list gate payload rest) offset (1 ∷ []) ≡ staged list 1 payload rest
  opened_file =
      ap (λ (l : List ℕ). l ++ 1 ∷ [] ++ drop (offset + 1) (staged list gate payload rest)) front_of
      ∙ append_assoc (shelf_front Two list) (1 ∷ []) (drop (offset + 1) (staged list gate payload rest))
      ∙ ap (λ (l : List ℕ). shelf_front Two list ++ 1 ∷ l) behind_of
