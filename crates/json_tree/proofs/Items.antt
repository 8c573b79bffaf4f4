-- Items between commas, with a closing byte behind them.
use Rattle.std.proofs.Common.{◌≡◌, ◌≢◌, ℕ, ◌⊎◌, inl, inr, List, [], ◌∷◌, ◌++◌, ◌+◌, ◌<◌, length, take, get_or, map, refl, sym, ap, ◌∙◌, append_assoc, append-nil}
use Rattle.std.specs.List.{AllByRecursion}
use Rattle.std.proofs.lemmas.List.{take_more}
use Rattle.json_tree.specs.Spelling.{after_commas, separated}
use Rattle.json_tree.specs.Reading.{NoItems}
use Rattle.json_tree.proofs.Takes.{first_same}

-- each of these with a comma behind it
abbrev pub with_commas : List (List ℕ) → List ℕ
with_commas [] = []
with_commas (text ∷ texts) = text ++ 44 ∷ with_commas texts

behind_first : (a b : ℕ) (x y : List ℕ) → a ∷ x ≡ b ∷ y → x ≡ y
behind_first a b x y e = cc

-- one more text
with_commas-push : (texts : List (List ℕ)) (text left : List ℕ) → with_commas (texts ++ text ∷ []) ++ left ≡ with_commas texts ++ (text ++ 44 ∷ left)
with_commas-push [] text left = append_assoc text (44 ∷ []) left
with_commas-push (t ∷ texts) text left =
    append_assoc t (44 ∷ with_commas (texts ++ text ∷ [])) left
    ∙ ap (λ l. t ++ 44 ∷ l) (with_commas-push texts text left)
    ∙ sym (append_assoc t (44 ∷ with_commas texts) (text ++ 44 ∷ left))

after_commas-push : (texts : List (List ℕ)) (text rest : List ℕ) → 44 ∷ (with_commas texts ++ (text ++ rest)) ≡ after_commas (texts ++ text ∷ []) ++ rest
after_commas-push [] text rest = ap (λ l. 44 ∷ (l ++ rest)) (sym (append-nil text))
after_commas-push (t ∷ texts) text rest =
    ap (λ l. 44 ∷ l) (append_assoc t (44 ∷ with_commas texts) (text ++ rest)
    ∙ ap (λ l. t ++ l) (after_commas-push texts text rest)
    ∙ sym (append_assoc t (after_commas (texts ++ text ∷ [])) rest))

separated-push : (texts : List (List ℕ)) (text rest : List ℕ) → with_commas texts ++ (text ++ rest) ≡ separated (texts ++ text ∷ []) ++ rest
separated-push [] text rest = ap (λ l. l ++ rest) (sym (append-nil text))
separated-push (t ∷ texts) text rest =
    append_assoc t (44 ∷ with_commas texts) (text ++ rest)
    ∙ ap (λ l. t ++ l) (after_commas-push texts text rest)
    ∙ sym (append_assoc t (after_commas (texts ++ text ∷ [])) rest)

after_commas-end : (texts : List (List ℕ)) (text : List ℕ) → after_commas (texts ++ text ∷ []) ≡ after_commas texts ++ 44 ∷ text
after_commas-end [] text = ap (λ l. 44 ∷ l) (append-nil text)
after_commas-end (t ∷ texts) text =
    ap (λ l. 44 ∷ (t ++ l)) (after_commas-end texts text) ∙ ap (λ l. 44 ∷ l) (sym (append_assoc t (after_commas texts) (44 ∷ text)))

module _ {A : Type 0} (P : A → Type 0) where
  pub All-push : (items : List A) (item : A) → AllByRecursion P items → P item → AllByRecursion P (items ++ item ∷ [])
  All-push [] item each is = (is, tt)
  All-push (i ∷ items) item each is = (each.0, All-push items item each.1 is)

module _ {A : Type 0} (text : A → List ℕ) where
  map-push : (items : List A) (item : A) → map text (items ++ item ∷ []) ≡ map text items ++ text item ∷ []
  map-push [] item = refl
  map-push (i ∷ items) item = ap (λ l. text i ∷ l) (map-push items item)

  -- one more item is written, behind a comma
  pub written : (items : List A) (i : ℕ) (item : A) (start before comma now : List ℕ) → i < length items → item ≡ get_or items i item → before ≡ start ++ after_commas (map text (take i items)) → comma ≡ before ++ 44 ∷ [] → now ≡ comma ++ text item
      → now ≡ start ++ after_commas (map text (take (i + 1) items))
  written items i item start before comma now within is so_far with_comma with_text =
      let taken : take (i + 1) items ≡ take i items ++ item ∷ [] = take_more items i item within ∙ ap (λ x. take i items ++ x ∷ []) (sym is) in
      let texts = ap (λ l. after_commas (map text l)) taken ∙ ap after_commas (map-push (take i items) item) ∙ after_commas-end (map text (take i items)) (text item) in
      with_text ∙ ap (λ l. l ++ text item) (with_comma ∙ ap (λ l. l ++ 44 ∷ []) so_far)
      ∙ append_assoc (start ++ after_commas (map text (take i items))) (44 ∷ []) (text item)
      ∙ append_assoc start (after_commas (map text (take i items))) (44 ∷ text item)
      ∙ ap (λ l. start ++ l) (sym texts)

  -- a comma behind one more item
  pub pushed : (items : List A) (item : A) (bytes left rest : List ℕ) → bytes ≡ with_commas (map text items) ++ left → left ≡ text item ++ 44 ∷ rest → bytes ≡ with_commas (map text (items ++ item ∷ [])) ++ rest
  pushed items item bytes left rest e stands =
      e ∙ ap (λ l. with_commas (map text items) ++ l) stands ∙ sym (with_commas-push (map text items) (text item) rest)
      ∙ ap (λ l. with_commas l ++ rest) (sym (map-push items item))

  -- the closing byte behind the last item
  pub closed : (close : ℕ) (items : List A) (item : A) (bytes left rest : List ℕ) → bytes ≡ with_commas (map text items) ++ left → left ≡ text item ++ close ∷ rest → bytes ≡ separated (map text (items ++ item ∷ [])) ++ close ∷ rest
  closed close items item bytes left rest e stands =
      e ∙ ap (λ l. with_commas (map text items) ++ l) stands ∙ separated-push (map text items) (text item) (close ∷ rest)
      ∙ ap (λ l. separated l ++ close ∷ rest) (sym (map-push items item))

-- these bytes stand behind an item
abbrev pub EndsItem : ℕ → List ℕ → Type 0
EndsItem close [] = ⊥
EndsItem close (b ∷ bs) = (b ≡ 44) ⊎ (b ≡ close)

ends_behind : (close : ℕ) (texts : List (List ℕ)) (rest : List ℕ) → EndsItem close (after_commas texts ++ close ∷ rest)
ends_behind close [] rest = inr refl
ends_behind close (text ∷ texts) rest = inl refl

-- one item stands at the front in one way
abbrev pub IsOne : {A : Type 0} → (A → Type 0) → (A → List ℕ) → ℕ → Type 0
IsOne {A} Good text close = (a b : A) (x y : List ℕ) → Good a → Good b → EndsItem close x → EndsItem close y → text a ++ x ≡ text b ++ y → (a ≡ b) × (x ≡ y)

module _ {A : Type 0} (Good : A → Type 0) (text : A → List ℕ) (close : ℕ) (apart : close ≢ 44) (one : IsOne Good text close) where
  first_and_rest : (a b : A) (ones twos : List A) (x y : List ℕ) → Good a → Good b → (text a ++ after_commas (map text ones)) ++ close ∷ x ≡ (text b ++ after_commas (map text twos)) ++ close ∷ y → (a ≡ b) × (after_commas (map text ones) ++ close ∷ x ≡ after_commas (map text twos) ++ close ∷ y)
  first_and_rest a b ones twos x y good_a good_b e =
      one a b (after_commas (map text ones) ++ close ∷ x) (after_commas (map text twos) ++ close ∷ y) good_a good_b
      (ends_behind close (map text ones) x) (ends_behind close (map text twos) y)
      (sym (append_assoc (text a) (after_commas (map text ones)) (close ∷ x)) ∙ e ∙ append_assoc (text b) (after_commas (map text twos)) (close ∷ y))

  after_unique : (ones twos : List A) (x y : List ℕ) → AllByRecursion Good ones → AllByRecursion Good twos → after_commas (map text ones) ++ close ∷ x ≡ after_commas (map text twos) ++ close ∷ y → (ones ≡ twos) × (x ≡ y)
  after_unique [] [] x y goods others e = (refl, behind_first close close x y e)
  after_unique [] (b ∷ twos) x y goods others e = absurd (apart (first_same close 44 _ _ e))
  after_unique (a ∷ ones) [] x y goods others e = absurd (apart (sym (first_same 44 close _ _ e)))
  after_unique (a ∷ ones) (b ∷ twos) x y goods others e =
      let first = first_and_rest a b ones twos x y goods.0 others.0 (behind_first 44 44 _ _ e) in
      let rest = after_unique ones twos x y goods.1 others.1 first.1 in
      (ap (λ i. i ∷ ones) first.0 ∙ ap (λ l. b ∷ l) rest.0, rest.1)

  -- items stand at the front in one way
  pub items_unique : ((a : A) (x y : List ℕ) → Good a → text a ++ x ≢ close ∷ y) → (ones twos : List A) (x y : List ℕ) → AllByRecursion Good ones → AllByRecursion Good twos → separated (map text ones) ++ close ∷ x ≡ separated (map text twos) ++ close ∷ y → (ones ≡ twos) × (x ≡ y)
  items_unique opens [] [] x y goods others e = (refl, behind_first close close x y e)
  items_unique opens [] (b ∷ twos) x y goods others e = absurd (opens b (after_commas (map text twos) ++ close ∷ y) x others.0 (sym (append_assoc (text b) _ _) ∙ sym e))
  items_unique opens (a ∷ ones) [] x y goods others e = absurd (opens a (after_commas (map text ones) ++ close ∷ x) y goods.0 (sym (append_assoc (text a) _ _) ∙ e))
  items_unique opens (a ∷ ones) (b ∷ twos) x y goods others e =
      let first = first_and_rest a b ones twos x y goods.0 others.0 e in
      let rest = after_unique ones twos x y goods.1 others.1 first.1 in
      (ap (λ i. i ∷ ones) first.0 ∙ ap (λ l. b ∷ l) rest.0, rest.1)

  -- an item stands behind those that were read
  abbrev pub ItemStands : List ℕ → Type 0
  ItemStands left = (item : A) × (more : List ℕ) × Good item × EndsItem close more × (left ≡ text item ++ more)

  after_first : (first r : A) (others read : List A) (left rest : List ℕ) → Good first → Good r → (text first ++ after_commas (map text others)) ++ close ∷ rest ≡ with_commas (map text (r ∷ read)) ++ left → after_commas (map text others) ++ close ∷ rest ≡ 44 ∷ (with_commas (map text read) ++ left)
  after_first first r others read left rest good other e =
      (one first r _ _ good other (ends_behind close (map text others) rest) (inl refl)
      (sym (append_assoc (text first) (after_commas (map text others)) (close ∷ rest)) ∙ e ∙ append_assoc (text r) (44 ∷ with_commas (map text read)) left)).1

  pub next_stands : (read : List A) (first : A) (others : List A) (left rest : List ℕ) → AllByRecursion Good read → Good first → AllByRecursion Good others → (text first ++ after_commas (map text others)) ++ close ∷ rest ≡ with_commas (map text read) ++ left → ItemStands left
  next_stands [] first others left rest goods good each e =
      (first, after_commas (map text others) ++ close ∷ rest, good, ends_behind close (map text others) rest, sym e ∙ append_assoc (text first) (after_commas (map text others)) (close ∷ rest))
  next_stands (r ∷ read) first [] left rest goods good each e =
      absurd (apart (first_same close 44 _ _ (after_first first r [] read left rest good goods.0 e)))
  next_stands (r ∷ read) first (o ∷ others) left rest goods good each e =
      next_stands read o others left rest goods.1 each.0 each.1 (behind_first 44 44 _ _ (after_first first r (o ∷ others) read left rest good goods.0 e))

  -- nothing is read where no item stands behind those that were read
  refused : (read : List A) (bytes left : List ℕ) → AllByRecursion Good read → bytes ≡ with_commas (map text read) ++ left → ((rest : List ℕ) → bytes ≢ close ∷ rest) → ((item : A) (more : List ℕ) → Good item → EndsItem close more → left ≢ text item ++ more)
      → (items : List A) (rest : List ℕ) → AllByRecursion Good items → bytes ≡ separated (map text items) ++ close ∷ rest → ⊥
  refused read bytes left goods whole some none [] rest each e = some rest e
  refused read bytes left goods whole some none (i ∷ items) rest each e =
      let stands = next_stands read i items left rest goods each.0 each.1 (sym e ∙ whole) in
      none stands.0 stands.1 stands.2 stands.3 stands.4

  pub refused_items : (read : List A) (bytes left : List ℕ) → AllByRecursion Good read → bytes ≡ with_commas (map text read) ++ left → ((rest : List ℕ) → bytes ≢ close ∷ rest) → ((item : A) (more : List ℕ) → Good item → EndsItem close more → left ≢ text item ++ more) → NoItems Good text close bytes
  refused_items read bytes left goods whole some none = refused read bytes left goods whole some none

-- what stands behind an item is a comma or the closing byte
pub neither : (close : ℕ) (more : List ℕ) → EndsItem close more → ((rest : List ℕ) → more ≢ 44 ∷ rest) → ((rest : List ℕ) → more ≢ close ∷ rest) → ⊥
neither close [] ends no_comma no_close = ends
neither close (b ∷ more) (inl comma) no_comma no_close = no_comma more (ap (λ c. c ∷ more) comma)
neither close (b ∷ more) (inr closing) no_comma no_close = no_close more (ap (λ c. c ∷ more) closing)
