-- The path of a field of an array's entries, taken apart from the front.
use Rattle.std.proofs.Common.{◌≡◌, ℕ, Bool, true, false, List, [], ◌∷◌, ◌++◌, length, take, drop, refl, sym, ap, ◌∙◌, append_assoc}
use Rattle.std.specs.Prelude.{bytes_eq, codes}
use Rattle.std.specs.Cmp.Lexicographic.{bytes_decides}
use Rattle.std.proofs.lemmas.List.{take-append-drop}
use Rattle.std.proofs.Math.Seq.{drop-append_seam, take-append_seam}

-- two tests are the same, where each of the equations gives the other
same-test : (u v x y : List ℕ) → (u ≡ v → x ≡ y) → (x ≡ y → u ≡ v) → bytes_eq u v ≡ bytes_eq x y
same-test u v x y f g = by (bytes_eq u v) (bytes_eq x y) refl refl
  where
    by : (b c : Bool) → bytes_eq u v ≡ b → bytes_eq x y ≡ c → b ≡ c
    by true true e h = refl
    by false false e h = refl
    by true false e h = sym ((bytes_decides x y).1 (f ((bytes_decides u v).0 e))) ∙ h
    by false true e h = sym e ∙ (bytes_decides u v).1 (g ((bytes_decides x y).0 h))

-- a test fails, where it leads to one that does
no-test : (x y u v : List ℕ) → (x ≡ y → u ≡ v) → bytes_eq u v ≡ false → false ≡ bytes_eq x y
no-test x y u v f h = by (bytes_eq x y) refl
  where
    by : (b : Bool) → bytes_eq x y ≡ b → false ≡ b
    by false e = refl
    by true e = sym h ∙ (bytes_decides u v).1 (f ((bytes_decides x y).0 e))

abbrev middle : List ℕ
middle = codes "[]."

whole-front : (a w p : List ℕ) → a ++ middle ++ w ≡ p → p ≡ a ++ (middle ++ w)
whole-front a w p e = sym e ∙ append_assoc a middle w

pub other-front : (a w p : List ℕ) → bytes_eq (take (length a) p) a ≡ false → false ≡ bytes_eq (a ++ middle ++ w) p
other-front a w p h =
    no-test (a ++ middle ++ w) p (take (length a) p) a (λ e. ap (take (length a)) (whole-front a w p e) ∙ take-append_seam a (middle ++ w)) h

behind-is : (a w p q : List ℕ) → q ≡ drop (length a) p → a ++ middle ++ w ≡ p → q ≡ middle ++ w
behind-is a w p q d e = d ∙ ap (drop (length a)) (whole-front a w p e) ∙ drop-append_seam a (middle ++ w)

pub other-middle : (a w p q : List ℕ) → q ≡ drop (length a) p → bytes_eq (take 3 q) middle ≡ false → false ≡ bytes_eq (a ++ middle ++ w) p
other-middle a w p q d h =
    no-test (a ++ middle ++ w) p (take 3 q) middle (λ e. ap (take 3) (behind-is a w p q d e) ∙ take-append_seam middle w) h

pub same-word : (a w p q x : List ℕ) → bytes_eq (take (length a) p) a ≡ true → q ≡ drop (length a) p → bytes_eq (take 3 q) middle ≡ true → x ≡ drop 3 q
    → bytes_eq w x ≡ bytes_eq (a ++ middle ++ w) p
same-word a w p q x f d g b = same-test w x (a ++ middle ++ w) p whole part
  where
    front : p ≡ a ++ q
    front = sym (take-append-drop (length a) p) ∙ ap (λ l. l ++ drop (length a) p) ((bytes_decides (take (length a) p) a).0 f) ∙ ap (λ l. a ++ l) (sym d)

    back : q ≡ middle ++ x
    back = sym (take-append-drop 3 q) ∙ ap (λ l. l ++ drop 3 q) ((bytes_decides (take 3 q) middle).0 g) ∙ ap (λ l. middle ++ l) (sym b)

    whole : w ≡ x → a ++ middle ++ w ≡ p
    whole e = ap (λ l. a ++ middle ++ l) e ∙ append_assoc a middle x ∙ ap (λ l. a ++ l) (sym back) ∙ sym front

    part : a ++ middle ++ w ≡ p → w ≡ x
    part e = sym (drop-append_seam middle w) ∙ ap (drop 3) (sym (behind-is a w p q d e)) ∙ sym b
