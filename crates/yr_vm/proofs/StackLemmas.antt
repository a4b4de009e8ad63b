-- A stack that is kept in an array: what the first n items show, from the last one down.
use Rattle.std.proofs.Common.{◌≡◌, ℕ, zero, suc, ◌+◌, ◌-◌, ◌<◌, ◌≤◌, List, [], ◌∷◌, ◌++◌, length, map, take, drop, reverse, set, get_or, refl, sym, ap, ◌∙◌, subst, arith, inl, inr, ◌⊎◌}
use Rattle.std.proofs.lemmas.Bool.{cases_lt}
use Rattle.std.proofs.Math.Seq.{take-suc, take-suc-set, take-add}
use Rattle.std.proofs.lemmas.List.{map-append, reverse-append, length-reverse, length-map, length-take-le, length-drop, reverse-reverse}

cases_le : (a b : ℕ) → (a ≤ b) ⊎ (b < a)
cases_le a b = elim (cases_lt b a) [ inl lt ↦ inr lt | inr le ↦ inl le ]

-- the items, what they show, and an item to name none by
module _ {A B : Type 0} (shows : A → B) (blank : A) where
  abbrev pub top : List A → ℕ → List B
  top items n = reverse (map shows (take n items))

  pub top-more : (items : List A) (n : ℕ) → n < length items → top items (suc n) ≡ shows (get_or items n blank) ∷ top items n
  top-more items n lt =
      ap (λ xs. reverse (map shows xs)) (take-suc items n blank lt)
      ∙ ap reverse (map-append shows (take n items) (get_or items n blank ∷ []))
      ∙ reverse-append (map shows (take n items)) (shows (get_or items n blank) ∷ [])

  top-set : (items : List A) (n : ℕ) (v : A) → n < length items → top (set items n v) (suc n) ≡ shows v ∷ top items n
  top-set items n v lt =
      ap (λ xs. reverse (map shows xs)) (take-suc-set items n v lt)
      ∙ ap reverse (map-append shows (take n items) (v ∷ []))
      ∙ reverse-append (map shows (take n items)) (shows v ∷ [])

  pub top-pushed : (items : List A) (n : ℕ) (v : A) → n < length items → top (set items n v) (n + 1) ≡ shows v ∷ top items n
  top-pushed items n v lt = let one : n + 1 ≡ suc n = omega arith in ap (top (set items n v)) one ∙ top-set items n v lt

  drop-none : (xs : List B) → drop zero xs ≡ xs
  drop-none [] = refl
  drop-none (x ∷ xs) = refl

  top-drop : (items : List A) (taken n : ℕ) → taken + n ≤ length items → drop taken (top items (taken + n)) ≡ top items n
  top-drop items zero n le =
      let same : zero + n ≡ n = omega arith in ap (λ m. drop zero (top items m)) same ∙ drop-none (top items n)
  top-drop items (suc taken) n le =
      let same : suc taken + n ≡ suc (taken + n) = omega arith in
      ap (λ m. drop (suc taken) (top items m)) same
      ∙ ap (drop (suc taken)) (top-more items (taken + n) (omega (arith, le)))
      ∙ top-drop items taken n (omega (arith, le))

  pub top-length : (items : List A) (n : ℕ) → n ≤ length items → length (top items n) ≡ n
  top-length items n le =
      length-reverse (map shows (take n items)) ∙ length-map (take n items) shows ∙ length-take-le n items le

  pub top-below : (items : List A) (taken n : ℕ) → taken ≤ n → n ≤ length items → top items (n - taken) ≡ drop taken (top items n)
  top-below items taken n le fits =
      let whole : taken + (n - taken) ≡ n = omega (arith, le) in
      sym (top-drop items taken (n - taken) (omega (arith, whole, fits))) ∙ ap (λ k. drop taken (top items k)) whole

  pub top-put : (items : List A) (taken n : ℕ) (v : A) → taken ≤ n → n ≤ length items → n - taken < length items →
      top (set items (n - taken) v) (n - taken + 1) ≡ shows v ∷ drop taken (top items n)
  top-put items taken n v le fits lt =
      let m = n - taken in
      let one : m + 1 ≡ suc m = omega arith in
      ap (λ k. top (set items m v) k) one ∙ top-set items m v lt ∙ ap (λ xs. shows v ∷ xs) (top-below items taken n le fits)

  -- the last of n items, and the others
  pub top-last : (items : List A) (n : ℕ) → 0 < n → n ≤ length items → top items n ≡ shows (get_or items (n - 1) blank) ∷ top items (n - 1)
  top-last items zero lt le = absurd (omega arith)
  top-last items (suc n) lt le =
      let same : suc n - 1 ≡ n = omega arith in
      top-more items n (omega (arith, le)) ∙ ap (λ k. shows (get_or items k blank) ∷ top items k) (sym same)

  -- another last item
  pub top-changed : (items : List A) (n : ℕ) (v : A) → 0 < n → n ≤ length items → top (set items (n - 1) v) n ≡ shows v ∷ top items (n - 1)
  top-changed items zero v lt le = absurd (omega arith)
  top-changed items (suc n) v lt le =
      let same : suc n - 1 ≡ n = omega arith in
      ap (λ k. top (set items k v) (suc n)) same ∙ top-set items n v (omega (arith, le)) ∙ ap (λ k. shows v ∷ top items k) (sym same)

  take-none : (xs : List B) → take zero xs ≡ []
  take-none [] = refl
  take-none (x ∷ xs) = refl

  -- the item below so many
  pub top-under : (items : List A) (n depth : ℕ) → depth < n → n ≤ length items →
      take 1 (drop depth (top items n)) ≡ shows (get_or items (n - 1 - depth) blank) ∷ []
  top-under items n depth lt le =
      let m = n - depth in
      let same : m - 1 ≡ n - 1 - depth = omega arith in
      ap (take 1) (sym (top-below items depth n (omega (arith, lt)) le) ∙ top-last items m (omega (arith, lt)) (omega (arith, le)))
      ∙ ap (λ xs. shows (get_or items (m - 1) blank) ∷ xs) (take-none (top items (m - 1)))
      ∙ ap (λ k. shows (get_or items k blank) ∷ []) same

  drop-all : (n : ℕ) (xs : List B) → length xs ≤ n → drop n xs ≡ []
  drop-all zero [] le = refl
  drop-all zero (x ∷ xs) le = absurd (omega arith)
  drop-all (suc n) [] le = refl
  drop-all (suc n) (x ∷ xs) le = drop-all n xs (omega (arith, le))

  take-zero : (xs : List A) → take zero xs ≡ []
  take-zero [] = refl
  take-zero (x ∷ xs) = refl

  -- what stays when so many are taken away, or all of fewer
  pub top-shorter : (items : List A) (taken n : ℕ) → n ≤ length items → top items (n - taken) ≡ drop taken (top items n)
  top-shorter items taken n fits =
      elim (cases_le taken n) [
        | inl le ↦ top-below items taken n le fits
        | inr lt ↦
            let none : n - taken ≡ zero = omega (arith, lt) in
            ap (top items) none ∙ ap (λ xs. reverse (map shows xs)) (take-zero items)
            ∙ sym (drop-all taken (top items n) (omega (arith, lt, top-length items n fits)))
      ]

  -- so many items on top, the lowest first
  pub top-front : (items : List A) (count n : ℕ) → count ≤ n → n ≤ length items →
      map shows (take (n - (n - count)) (drop (n - count) items)) ≡ reverse (take count (top items n))
  top-front items count n le fits =
      let low = n - count in
      let size : n - low ≡ count = omega (arith, le) in
      let whole : low + count ≡ n = omega (arith, le) in
      let part = take count (drop low items) in
      let room : count ≤ length (drop low items) = omega (arith, length-drop low items, whole, fits) in
      let high : length (reverse (map shows part)) ≡ count = length-reverse (map shows part) ∙ length-map part shows ∙ length-take-le count (drop low items) room in
      let split : top items n ≡ reverse (map shows part) ++ reverse (map shows (take low items)) =
      ap (top items) (sym whole) ∙ ap (λ xs. reverse (map shows xs)) (take-add low count items)
      ∙ ap reverse (map-append shows (take low items) part) ∙ reverse-append (map shows (take low items)) (map shows part) in
      ap (λ k. map shows (take k (drop low items))) size
      ∙ sym (reverse-reverse (map shows part))
      ∙ ap reverse (sym (front count (reverse (map shows part)) (reverse (map shows (take low items))) high))
      ∙ ap (λ xs. reverse (take count xs)) (sym split)
    where
      front : (k : ℕ) (xs ys : List B) → length xs ≡ k → take k (xs ++ ys) ≡ xs
      front zero [] [] e = refl
      front zero [] (y ∷ ys) e = refl
      front (suc k) [] ys e = absurd (omega (arith, e))
      front zero (x ∷ xs) ys e = absurd (omega (arith, e))
      front (suc k) (x ∷ xs) ys e = ap (λ zs. x ∷ zs) (front k xs ys (omega (arith, e)))
