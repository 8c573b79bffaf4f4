-- What is stored by calls in a row, and what a stop leaves of it.
use Rattle.std.proofs.Common.{◌≡◌, ◌≤◌, ◌+◌, ℕ, List, [], ◌∷◌, ◌++◌, length, take, refl, sym, ◌∙◌, ap, subst, append-nil, append_assoc, length-append, take-append-drop, arith}
use Rattle.std.specs.Prelude.{All, drop}
use Rattle.std.proofs.lemmas.List.{length-map, length-take-le}
use Rattle.std.proofs.lemmas.List.Elements.{All-weaker}
use Rattle.journal_views.specs.EventPayload.Payloads.{text_in}
use Rattle.journal.specs.declared.journal.body.Body.{Body}
use Rattle.shelf_log.specs.KeriDisk.Images.{DiskShown}
use Rattle.shelf_log.proofs.KeriDiskLemmas.Moments.{KnowsNow, and_then, none_yet, weaker}
use Rattle.validator_core.specs.ValidatorCore.View.{CoreView, accepted_by, base_of}
use Rattle.witness_core.specs.WitnessStore.Payloads.{AreListed, Pointwise}
use Rattle.witness_core.specs.WitnessStore.Storing.{AllStand, Grown, HoldsFirst, StoresOn}
use Rattle.witness_core.specs.declared.witness_receipts.receipt.Receipt.{Receipt}
use Rattle.witness_core.proofs.WitnessStoreLemmas.Stored.{first_wider}
use Rattle.witness_core.specs.WitnessLink.Links.{Terms}
use Rattle.witness_core.specs.WitnessLink.Stored.{HoldsEach, IsLawfulList, IsOfListed}
use Rattle.witness_core.proofs.WitnessLinkLemmas.Holding.{has_more}

-- of two fronts of one list the shorter is a front of the longer
fronts : (xs ys us vs : List (List ℕ)) → xs ++ us ≡ ys ++ vs → length xs ≤ length ys → Grown xs ys
fronts [] ys us vs e le = (ys, refl)
fronts (x ∷ xs) [] us vs e le = absurd (omega (arith, le))
fronts (x ∷ xs) (y ∷ ys) us vs e le =
    let same : x ≡ y = cc in
    let others : xs ++ us ≡ ys ++ vs = cc in
    let rest = fronts xs ys us vs others (omega (arith, le)) in
    (rest.0, λ i. sym same i ∷ rest.1 i)

pub front_of : (xs ys all : List (List ℕ)) → Grown xs all → Grown ys all → length xs ≤ length ys → Grown xs ys
front_of xs ys all first then le = fronts xs ys first.0 then.0 (sym first.1 ∙ then.1) le

pub grown_more : (a b c : List (List ℕ)) → Grown a b → Grown b c → Grown a c
grown_more a b c first then = (first.0 ++ then.0, then.1 ∙ ap (λ l. l ++ then.0) first.1 ∙ append_assoc a first.0 then.0)

as_long : {A B : Type 0} (P : A → B → Type 0) (xs : List A) (ys : List B) → Pointwise P xs ys → length ys ≡ length xs
as_long P [] [] all = refl
as_long P [] (y ∷ ys) all = absurd all
as_long P (x ∷ xs) [] all = absurd all
as_long P (x ∷ xs) (y ∷ ys) all = omega (arith, as_long P xs ys all.1)

-- a list of all accepted events has a payload for each
listed_long : (core : CoreView) (list : List (List ℕ)) → AreListed core list → length list ≡ length (base_of core) + length (drop core.base (accepted_by core))
listed_long core list l =
    let front : length l.front ≡ length (base_of core) = sym (length-map l.front text_in) ∙ ap length l.base ∙ length-map (base_of core) (λ (b : Body). b.bytes) in
    let more : length l.more ≡ length (drop core.base (accepted_by core)) = as_long _ (drop core.base (accepted_by core)) l.more l.each in
    omega (arith, ap length l.parted, length-append l.front l.more, front, more)

none_more : (xs more : List (List ℕ)) → length (xs ++ more) ≡ length xs → more ≡ []
none_more xs [] e = refl
none_more xs (x ∷ more) e = absurd (omega (arith, e, length-append xs (x ∷ more)))

-- so a front that lists them is the list
pub same_listed : (core : CoreView) (list all : List (List ℕ)) → AreListed core list → AreListed core all → Grown list all → list ≡ all
same_listed core list all l m g =
    let long : length (list ++ g.0) ≡ length list = sym (ap length g.1) ∙ listed_long core all m ∙ sym (listed_long core list l) in
    sym (append-nil list) ∙ ap (λ more. list ++ more) (sym (none_more list g.0 long)) ∙ sym g.1

-- nothing was stored
unfoldable pub stores_none : (list : List (List ℕ)) (disk : DiskShown) (core : CoreView) → KnowsNow disk → AllStand disk list list → AreListed core list → StoresOn list disk core list disk
stores_none list disk core knows stand listed = record {
  accepted = list;
  listed = listed;
  grown = ([], sym (append-nil list));
  first = ([], sym (append-nil list));
  longer = omega arith;
  images = stand;
  moments = none_yet disk (HoldsFirst list list) knows stand;
}

-- all that was accepted was stored, and then more
unfoldable pub stores_more : (first : List (List ℕ)) (disk_first : DiskShown) (core : CoreView) (mid : List (List ℕ)) (disk_mid : DiskShown) (later : CoreView) (new : List (List ℕ)) (disk_new : DiskShown)
    → StoresOn first disk_first core mid disk_mid → AreListed core mid → StoresOn mid disk_mid later new disk_new → StoresOn first disk_first later new disk_new
stores_more first disk_first core mid disk_mid later new disk_new a listed b =
    let same : mid ≡ a.accepted = same_listed core mid a.accepted listed a.listed a.first in
    let front : Grown first mid = subst (Grown first) (sym same) a.grown in
    record {
      accepted = b.accepted;
      listed = b.listed;
      grown = grown_more first mid b.accepted front b.grown;
      first = b.first;
      longer = omega (arith, a.longer, b.longer);
      images = b.images;
      moments = and_then disk_first disk_mid disk_new (HoldsFirst first b.accepted)
          (weaker disk_first disk_mid (HoldsFirst first a.accepted) (HoldsFirst first b.accepted)
          (λ c h. subst (λ l. HoldsFirst first l c) (sym b.grown.1) (first_wider first first mid b.grown.0 c (omega arith) (subst (λ l. HoldsFirst first l c) (sym same) h))) a.moments)
          (weaker disk_mid disk_new (HoldsFirst mid b.accepted) (HoldsFirst first b.accepted)
          (λ c f. record { count = f.count; no_fewer = omega (arith, a.longer, f.no_fewer); no_more = f.no_more; holds = f.holds }) b.moments);
    }

-- what is of a stored event is of one in a longer list
pub of_longer : (terms : Terms) (list longer : List (List ℕ)) (r : Receipt) → Grown list longer → IsOfListed terms list r → IsOfListed terms longer r
of_longer terms list longer r g is = subst (λ l. IsOfListed terms l r) (sym g.1) (record { event = is.event; has = has_more list g.0 is.event is.has; is = is.is })

-- a front of a lawful list is lawful
lawful_front : (xs ys all : List (List ℕ)) → all ≡ xs ++ ys → IsLawfulList all → IsLawfulList xs
lawful_front xs ys all is lawful b c has has' level = let whole = subst IsLawfulList is lawful in whole b c (has_more xs ys b has) (has_more xs ys c has') level

-- HELD: each image has the event of each receipt
pub held_each : (terms : Terms) (first : List (List ℕ)) (disk_first : DiskShown) (core : CoreView) (list : List (List ℕ)) (disk : DiskShown) (receipts : List Receipt)
    → (s : StoresOn first disk_first core list disk) → IsLawfulList s.accepted → All (IsOfListed terms list) receipts → (c : List ℕ) → disk.images c → HoldsEach terms receipts c
held_each terms first disk_first core list disk receipts s lawful of c now =
    let f = s.images c now in
    let stored = take f.count s.accepted in
    let long : length stored ≡ f.count = length-take-le f.count s.accepted f.no_more in
    let g = fronts list stored s.first.0 (drop f.count s.accepted) (sym s.first.1 ∙ sym (take-append-drop f.count s.accepted)) (omega (arith, long, f.no_fewer)) in
    record {
      stored = stored;
      holds = f.holds;
      each = All-weaker (IsOfListed terms list) (IsOfListed terms stored) (λ r is. of_longer terms list stored r g is) receipts of;
      lawful = lawful_front stored (drop f.count s.accepted) s.accepted (sym (take-append-drop f.count s.accepted)) lawful;
    }
