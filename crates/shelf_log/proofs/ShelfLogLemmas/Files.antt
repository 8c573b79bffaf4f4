-- What files of records stand for.
use Rattle.std.proofs.Common.{◌≡◌, ◌≢◌, ℕ, zero, suc, ◌+◌, List, [], ◌∷◌, ◌++◌, length, take, slice_get, Option, Some, None, IfSome, IsSomeAnd, All, refl, sym, ◌∙◌, ap, arith, append_assoc, append-nil, length-append, take_at}
use Rattle.std.specs.Int.{w32, to_be_bytes}
use Rattle.shelf_log.specs.ShelfLog.Format.{mark, Holds, IsSized, record_bytes, records, shelf_front}
use Rattle.shelf_log.specs.declared.shelf_log.version.Version.{Version}

-- a fact about what is there follows where it follows from each value
pub if_some : {T : Type 0} (P : T → Type 0) (o : Option T) → ((x : T) → o ≡ Some x → P x) → IfSome o P
if_some P None each = tt
if_some P (Some x) each = each x refl

-- what stands at an offset, with what is behind it
pub split_at : (file : List ℕ) (n : ℕ) (P : ℕ → Type 0) → IsSomeAnd (slice_get file n) P → (x : ℕ) × (rest : List ℕ) × (file ≡ take n file ++ x ∷ rest) × P x
split_at [] n P is = absurd is
split_at (x ∷ file) zero P is = (x, file, refl, is)
split_at (y ∷ file) (suc n) P is = let s = split_at file n P is in (s.0, s.1, ap (λ (l : List ℕ). y ∷ l) s.2, s.3)

pub stands_behind : (front : List ℕ) (x : ℕ) (rest : List ℕ) (P : ℕ → Type 0) → P x → IsSomeAnd (slice_get (front ++ x ∷ rest) (length front)) P
stands_behind [] x rest P is = is
stands_behind (y ∷ front) x rest P is = stands_behind front x rest P is

-- a file with its closed gate
pub record Parts (version : Version) (file : List ℕ) (list : List (List ℕ)) : Type 0 where
  pub gate : ℕ
  pub rest : List ℕ
  pub is : file ≡ shelf_front version list ++ gate ∷ rest
  pub closed : gate ≢ 1

pub parts_of : (version : Version) (file : List ℕ) (list : List (List ℕ)) → Holds version file list → Parts version file list
parts_of version file list holds =
    let s = split_at file (length (shelf_front version list)) (λ gate. gate ≢ 1) holds.1 in
    record { gate = s.0; rest = s.1; is = s.2 ∙ ap (λ (l : List ℕ). l ++ s.0 ∷ s.1) holds.0; closed = s.3 }

pub holds_of : (version : Version) (list : List (List ℕ)) (gate : ℕ) (rest : List ℕ) → gate ≢ 1 → All (IsSized version) list → Holds version (shelf_front version list ++ gate ∷ rest) list
holds_of version list gate rest closed sized = (
  take_at (shelf_front version list) (gate ∷ rest) (length (shelf_front version list)) refl,
  stands_behind (shelf_front version list) gate rest (λ x. x ≢ 1) closed,
  sized,
)

pub records-append : (list more : List (List ℕ)) → records (list ++ more) ≡ records list ++ records more
records-append [] more = refl
records-append (payload ∷ list) more = ap (λ (l : List ℕ). record_bytes payload ++ l) (records-append list more) ∙ sym (append_assoc (record_bytes payload) (records list) (records more))

pub front-append : (version : Version) (list more : List (List ℕ)) → shelf_front version (list ++ more) ≡ shelf_front version list ++ records more
front-append version list more = ap (λ (l : List ℕ). mark version ++ l) (records-append list more) ∙ sym (append_assoc (mark version) (records list) (records more))

-- a record more
pub front-push : (version : Version) (list : List (List ℕ)) (payload : List ℕ) → shelf_front version (list ++ payload ∷ []) ≡ shelf_front version list ++ record_bytes payload
front-push version list payload = front-append version list (payload ∷ []) ∙ ap (λ (l : List ℕ). shelf_front version list ++ l) (append-nil (record_bytes payload))

pub length-record : (payload : List ℕ) → length (record_bytes payload) ≡ 5 + length payload
length-record payload = omega (arith, length-append (to_be_bytes w32 (length payload)) payload)

pub length-front-push : (version : Version) (list : List (List ℕ)) (payload : List ℕ) → length (shelf_front version (list ++ payload ∷ [])) ≡ length (shelf_front version list) + 5 + length payload
length-front-push version list payload =
    omega (arith, ap length (front-push version list payload), length-append (shelf_front version list) (record_bytes payload), length-record payload)
