-- The variants of a text add up to what its size says.
use Rattle.std.proofs.Common.{◌≡◌, ℕ, zero, suc, ◌+◌, ◌-◌, ◌*◌, ◌/◌, ◌≤◌, ◌||◌, Bool, true, false, List, [], ◌∷◌, ◌++◌, length, map, refl, sym, ap, ◌∙◌, arith, Option, Some, None, nat_lt}
use Rattle.std.specs.Prelude.{not, if◌then◌else◌, is_some}
use Rattle.std.specs.List.{flat_map, range_with_len, list_any}
use Rattle.std.proofs.lemmas.Bool.{le-leb, lt-ltb}
use Rattle.std.proofs.lemmas.List.{length-append}
use Rattle.yr_base.specs.declared.border.Border.{Border}
use Rattle.yr_pattern.specs.Variants.{PlainVariant, variant_size}
use Rattle.yr_rules.specs.Weight.{total, variant_weight}
use Rattle.yr_text.specs.declared.modifiers.Modifiers.{Modifiers}
use Rattle.yr_text.specs.Encoding.{encoded, group_letter}
use Rattle.yr_text.specs.Forms.{PlainForm, forms_of, plain_border, wide_border, widened}
use Rattle.yr_text.specs.Variants.{aligned, alignments, encodings, keyed, literal, literals, literals_of, spread, unless_empty, variants_of}
use Rattle.yr_checks.specs.Patterns.{is_large}
use Rattle.yr_checking.specs.TextSizes.{aligned_sum, encodings_sum, form_sum, key_count, large_count, letters, literal_weight, literals_sum, text_sum, unless_none}

-- ---- sums

total-append : {A : Type 0} (w : A → ℕ) (xs ys : List A) → total w (xs ++ ys) ≡ total w xs + total w ys
total-append w [] ys = omega arith
total-append w (x ∷ xs) ys = let h = total-append w xs ys in omega arith

total-zero : {A : Type 0} (xs : List A) → total (λ x. 0) xs ≡ 0
total-zero [] = refl
total-zero (x ∷ xs) = let h = total-zero xs in omega arith

total-flat : {A B : Type 0} (w : B → ℕ) (v : A → ℕ) (f : A → List B) (xs : List A) → ((x : A) → total w (f x) ≡ v x) → total w (flat_map f xs) ≡ total v xs
total-flat w v f [] h = refl
total-flat w v f (x ∷ xs) h = let a = total-append w (f x) (flat_map f xs) in let b = h x in let c = total-flat w v f xs h in omega arith

total-three : {A : Type 0} (a b c : A → ℕ) (xs : List A) → total a xs + total b xs + total c xs ≡ total (λ x. a x + b x + c x) xs
total-three a b c [] = refl
total-three a b c (x ∷ xs) = let h = total-three a b c xs in omega arith

-- ---- lengths

length-widened : (t : List ℕ) → length (widened t) ≡ 2 * length t
length-widened [] = refl
length-widened (b ∷ bs) = let h = length-widened bs in omega arith

length-spread : (wide : Bool) (t : List ℕ) → length (spread wide t) ≡ (if wide then 2 * length t else length t)
length-spread true t = length-widened t
length-spread false t = refl

whole-letters : (alphabet bytes : List ℕ) (p j n : ℕ) → 8 * p ≤ 6 * j → length (flat_map (group_letter alphabet bytes p) (range_with_len j n)) ≡ n
unfolding group_letter
whole-letters alphabet bytes p j zero h = refl
whole-letters alphabet bytes p j (suc n) h =
    let one : length (group_letter alphabet bytes p j) ≡ 1 = grind (arith, le-leb (8 * p) (6 * j) h) in
    let rest = whole-letters alphabet bytes p (j + 1) n (omega arith) in
    let both = length-append (group_letter alphabet bytes p j) (flat_map (group_letter alphabet bytes p) (range_with_len (j + 1) n)) in
    omega arith

after-one : (alphabet bytes : List ℕ) (n : ℕ) → length (flat_map (group_letter alphabet bytes 1) (range_with_len 0 n)) ≡ n - 2
unfolding group_letter
after-one alphabet bytes zero = refl
after-one alphabet bytes (suc zero) = refl
after-one alphabet bytes (suc (suc n)) = let h = whole-letters alphabet bytes 1 2 n (omega arith) in h ∙ omega arith

after-two : (alphabet bytes : List ℕ) (n : ℕ) → length (flat_map (group_letter alphabet bytes 2) (range_with_len 0 n)) ≡ n - 3
unfolding group_letter
after-two alphabet bytes zero = refl
after-two alphabet bytes (suc zero) = refl
after-two alphabet bytes (suc (suc zero)) = refl
after-two alphabet bytes (suc (suc (suc n))) = let h = whole-letters alphabet bytes 2 3 n (omega arith) in h ∙ omega arith

letters-0 : (alphabet bytes : List ℕ) → length (encoded alphabet bytes 0) ≡ letters (length bytes) 0
letters-0 alphabet bytes = let h = whole-letters alphabet bytes 0 0 ((8 * 0 + 8 * length bytes) / 6) (omega arith) in h ∙ omega arith

letters-1 : (alphabet bytes : List ℕ) → length (encoded alphabet bytes 1) ≡ letters (length bytes) 1
letters-1 alphabet bytes = after-one alphabet bytes ((8 * 1 + 8 * length bytes) / 6)

letters-2 : (alphabet bytes : List ℕ) → length (encoded alphabet bytes 2) ≡ letters (length bytes) 2
letters-2 alphabet bytes = after-two alphabet bytes ((8 * 2 + 8 * length bytes) / 6)

-- ---- variants, for a weight of literals that their length gives

module _ (w : PlainVariant → ℕ) (g : ℕ → ℕ) (h : (bytes : List ℕ) (key : ℕ) (fold : Bool) (border : Border) → w (literal bytes key fold border) ≡ g (length bytes)) where
  keys-total : (form : PlainForm) (low n : ℕ) → total w (map (keyed form) (range_with_len low n)) ≡ n * g (length form.bytes)
  keys-total form low zero = omega arith
  keys-total form low (suc n) = let a = h form.bytes low false form.border in let b = keys-total form (low + 1) n in omega arith

  literals-of-total : (keys : Option (ℕ × ℕ)) (nocase : Bool) (form : PlainForm) → total w (literals_of keys nocase form) ≡ key_count keys * g (length form.bytes)
  literals-of-total None nocase form = let a = h form.bytes 0 nocase form.border in omega arith
  literals-of-total (Some keys) nocase form = keys-total form keys.0 (keys.1 + 1 - keys.0)

  literals-total : (m : Modifiers) (forms : List PlainForm) → total w (literals m forms) ≡ total (λ (f : PlainForm). literals_sum g m (length f.bytes)) forms
  literals-total m forms = by (is_some m.base64 || is_some m.base64wide)
    where
      by : (b : Bool) → total w (if b then [] else flat_map (literals_of m.xor m.nocase) forms) ≡ total (λ (f : PlainForm). if b then 0 else key_count m.xor * g (length f.bytes)) forms
      by true = sym (total-zero forms)
      by false = total-flat w (λ (f : PlainForm). key_count m.xor * g (length f.bytes)) (literals_of m.xor m.nocase) forms (literals-of-total m.xor m.nocase)

  unless-total : (t : List ℕ) (border : Border) → total w (unless_empty t border) ≡ unless_none g (length t)
  unless-total t border = by (nat_lt 0 (length t))
    where
      by : (b : Bool) → total w (if b then literal t 0 false border ∷ [] else []) ≡ (if b then g (length t) else 0)
      by true = let a = h t 0 false border in omega arith
      by false = refl

  aligned-total : (alphabet : List ℕ) (wide : Bool) (form : PlainForm) (p : ℕ) → length (encoded alphabet form.bytes p) ≡ letters (length form.bytes) p
      → total w (aligned alphabet wide form p) ≡ aligned_sum g wide (length form.bytes) p
  aligned-total alphabet wide form p e =
      unless-total (spread wide (encoded alphabet form.bytes p)) form.border
      ∙ ap (unless_none g) (length-spread wide (encoded alphabet form.bytes p) ∙ ap (λ n. if wide then 2 * n else n) e)

  alignments-total : (alphabet : List ℕ) (wide : Bool) (form : PlainForm) → total w (alignments alphabet wide form) ≡ encodings_sum g true wide (length form.bytes)
  alignments-total alphabet wide form =
      let a = aligned-total alphabet wide form 0 (letters-0 alphabet form.bytes) in
      let b = aligned-total alphabet wide form 1 (letters-1 alphabet form.bytes) in
      let c = aligned-total alphabet wide form 2 (letters-2 alphabet form.bytes) in
      total-append w (aligned alphabet wide form 0 ++ aligned alphabet wide form 1) (aligned alphabet wide form 2)
      ∙ ap (λ n. n + total w (aligned alphabet wide form 2)) (total-append w (aligned alphabet wide form 0) (aligned alphabet wide form 1))
      ∙ ap (λ n. n + total w (aligned alphabet wide form 1) + total w (aligned alphabet wide form 2)) a
      ∙ ap (λ n. aligned_sum g wide (length form.bytes) 0 + n + total w (aligned alphabet wide form 2)) b
      ∙ ap (λ n. aligned_sum g wide (length form.bytes) 0 + aligned_sum g wide (length form.bytes) 1 + n) c

  encodings-total : (o : Option (List ℕ)) (wide : Bool) (forms : List PlainForm) → total w (encodings o wide forms) ≡ total (λ (f : PlainForm). encodings_sum g (is_some o) wide (length f.bytes)) forms
  encodings-total None wide forms = sym (total-zero forms)
  encodings-total (Some alphabet) wide forms = total-flat w (λ (f : PlainForm). encodings_sum g true wide (length f.bytes)) (alignments alphabet wide) forms (alignments-total alphabet wide)

  forms-total : (m : Modifiers) (forms : List PlainForm)
      → total w (literals m forms ++ encodings m.base64 false forms ++ encodings m.base64wide true forms) ≡ total (λ (f : PlainForm). form_sum g m (length f.bytes)) forms
  forms-total m forms =
      total-append w (literals m forms ++ encodings m.base64 false forms) (encodings m.base64wide true forms)
      ∙ ap (λ n. n + total w (encodings m.base64wide true forms)) (total-append w (literals m forms) (encodings m.base64 false forms))
      ∙ ap (λ n. n + total w (encodings m.base64 false forms) + total w (encodings m.base64wide true forms)) (literals-total m forms)
      ∙ ap (λ n. total (λ (f : PlainForm). literals_sum g m (length f.bytes)) forms + n + total w (encodings m.base64wide true forms)) (encodings-total m.base64 false forms)
      ∙ ap (λ n. total (λ (f : PlainForm). literals_sum g m (length f.bytes)) forms + total (λ (f : PlainForm). encodings_sum g (is_some m.base64) false (length f.bytes)) forms + n) (encodings-total m.base64wide true forms)
      ∙ total-three (λ (f : PlainForm). literals_sum g m (length f.bytes)) (λ (f : PlainForm). encodings_sum g (is_some m.base64) false (length f.bytes)) (λ (f : PlainForm). encodings_sum g (is_some m.base64wide) true (length f.bytes)) forms

  pub variants-total : (t : List ℕ) (m : Modifiers) → total w (variants_of t m) ≡ text_sum g m (length t)
  variants-total t m = forms-total m (forms_of t m) ∙ by (m.ascii || not m.wide) m.wide
    where
      by : (a b : Bool)
          → total (λ (f : PlainForm). form_sum g m (length f.bytes)) ((if a then record { bytes = t; border = plain_border m } ∷ [] else []) ++ (if b then record { bytes = widened t; border = wide_border m } ∷ [] else []))
          ≡ (if a then form_sum g m (length t) else 0) + (if b then form_sum g m (2 * length t) else 0)
      by true true = ap (λ n. form_sum g m (length t) + (form_sum g m n + 0)) (length-widened t) ∙ omega arith
      by true false = refl
      by false true = ap (λ n. form_sum g m n + 0) (length-widened t) ∙ omega arith
      by false false = refl

-- ---- the two measures

pub weight-total : (t : List ℕ) (m : Modifiers) → total variant_weight (variants_of t m) ≡ text_sum literal_weight m (length t)
weight-total t m = variants-total variant_weight literal_weight (λ bytes key fold border. refl) t m

counted : (vs : List PlainVariant) → list_any (λ v. is_large (variant_size v)) vs ≡ nat_lt 0 (total (λ v. large_count (variant_size v)) vs)
counted [] = refl
counted (v ∷ vs) = by (is_large (variant_size v)) (counted vs)
  where
    by : (b : Bool) → list_any (λ v. is_large (variant_size v)) vs ≡ nat_lt 0 (total (λ v. large_count (variant_size v)) vs)
        → (b || list_any (λ v. is_large (variant_size v)) vs) ≡ nat_lt 0 ((if b then 1 else 0) + total (λ v. large_count (variant_size v)) vs)
    by true h = sym (lt-ltb 0 (1 + total (λ v. large_count (variant_size v)) vs) (omega arith))
    by false h = h ∙ ap (nat_lt 0) (omega arith)

pub large-total : (t : List ℕ) (m : Modifiers) → list_any (λ v. is_large (variant_size v)) (variants_of t m) ≡ nat_lt 0 (text_sum large_count m (length t))
large-total t m = counted (variants_of t m) ∙ ap (nat_lt 0) (variants-total (λ v. large_count (variant_size v)) large_count (λ bytes key fold border. refl) t m)
