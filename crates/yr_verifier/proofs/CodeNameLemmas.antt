-- Open loops and list rows that are named.
use Rattle.std.proofs.Common.{◌≡◌, ℕ, zero, suc, ◌+◌, ◌≤◌, List, [], ◌∷◌, ◌++◌, length, take, reverse, get_or, Some, None, refl, sym, ap, ◌∙◌, arith, Bool, true, false, ◌&&◌, cond, inl, inr}
use Rattle.std.specs.Prelude.{slice_get, ◌==◌}
use Rattle.std.specs.List.{list_all}
use Rattle.std.specs.Option.{option_map_or}
use Rattle.std.proofs.lemmas.Bool.Decides.{eqb_tells}
use Rattle.std.proofs.lemmas.List.{length-reverse, reverse-append}
use Rattle.std.proofs.lemmas.Option.{slice_get_past, slice_get_within, get_or_from_slice_get}
use Rattle.std.proofs.lemmas.List.Folds.{list_all_more}
use Rattle.std.proofs.Math.Bool.{beq}
use Rattle.yr_values.specs.Comparisons.{flag_eq}
use Rattle.yr_machine.specs.Named.{loop_at, is_loop}

next_test : (m n : ℕ) → (suc m == suc n) ≡ (m == n)
next_test m n =
    elim (eqb_tells m n) [
      | inl t ↦ elim (eqb_tells (suc m) (suc n)) [ inl u ↦ u.0 ∙ sym t.0 | inr u ↦ absurd (u.1 (ap suc t.1)) ]
      | inr t ↦ elim (eqb_tells (suc m) (suc n)) [ inl u ↦ absurd (t.1 (omega (arith, u.1))) | inr u ↦ u.0 ∙ sym t.0 ]
    ]

-- one item more at the end
get_more : {A : Type 0} → (xs : List A) (x : A) (c : ℕ) → slice_get (xs ++ x ∷ []) c ≡ cond (c == length xs) (Some x) (slice_get xs c)
get_more [] x zero = refl
get_more [] x (suc c) = elim (eqb_tells (suc c) 0) [ inl t ↦ absurd (omega (arith, t.1)) | inr t ↦ sym (ap (λ b. cond b (Some x) None) t.0) ]
get_more (y ∷ xs) x zero =
    elim (eqb_tells 0 (suc (length xs))) [ inl t ↦ absurd (omega (arith, t.1)) | inr t ↦ sym (ap (λ b. cond b (Some x) (Some y)) t.0) ]
get_more (y ∷ xs) x (suc c) = get_more xs x c ∙ sym (ap (λ b. cond b (Some x) (slice_get xs c)) (next_test c (length xs)))

-- loops are numbered from the outermost
loop_at-place : (loops : List Bool) (c : ℕ) → loop_at loops c ≡ slice_get (reverse loops) c
loop_at-place [] c = refl
loop_at-place (s ∷ loops) c =
    ap (λ o. cond (c == length loops) (Some s) o) (loop_at-place loops c)
    ∙ ap (λ n. cond (c == n) (Some s) (slice_get (reverse loops) c)) (sym (length-reverse loops)) ∙ sym (get_more (reverse loops) s c)
    ∙ ap (λ l. slice_get l c) (sym (reverse-append (s ∷ []) loops))

back : {A : Type 0} → (xs : List A) → reverse (reverse xs) ≡ xs
back [] = refl
back (x ∷ xs) = ap reverse (reverse-append (x ∷ []) xs) ∙ reverse-append (reverse xs) (x ∷ []) ∙ ap (λ l. x ∷ l) (back xs)

same_flag : (s t : Bool) → flag_eq t s ≡ beq s t
same_flag true true = refl
same_flag true false = refl
same_flag false true = refl
same_flag false false = refl

loop_at-bottom : (items : List Bool) (c : ℕ) → loop_at (reverse items) c ≡ slice_get items c
loop_at-bottom items c = loop_at-place (reverse items) c ∙ ap (λ l. slice_get l c) (back items)

-- a loop by its place from the bottom
pub loop_found : (items : List Bool) (strings s : Bool) (c : ℕ) → slice_get items c ≡ Some s → beq s strings ≡ is_loop strings (reverse items) c
loop_found items strings s c at =
    sym (same_flag s strings) ∙ sym (ap (λ o. option_map_or (flag_eq strings) o false) (loop_at-bottom items c ∙ at))

pub loop_missing : (items : List Bool) (strings : Bool) (c : ℕ) → length items ≤ c → false ≡ is_loop strings (reverse items) c
loop_missing items strings c le =
    sym (ap (λ o. option_map_or (flag_eq strings) o false) (loop_at-bottom items c ∙ slice_get_past items c le))

-- a member that fails
pub all_but : {A : Type 0} → (p : A → Bool) (xs : List A) (k : ℕ) (x : A) → slice_get xs k ≡ Some x → p x ≡ false → list_all p xs ≡ false
all_but p [] k x at t = cc
all_but p (y ∷ xs) zero x at t = let same : y ≡ x = cc in ap (λ b. b && list_all p xs) (ap p same ∙ t)
all_but p (y ∷ xs) (suc k) x at t = ap (λ b. p y && b) (all_but p xs k x at t) ∙ none (p y)
  where
    none : (b : Bool) → (b && false) ≡ false
    none true = refl
    none false = refl

-- one member more
pub all_next : {A : Type 0} → (p : A → Bool) (xs : List A) (k : ℕ) (x : A) → slice_get xs k ≡ Some x → p x ≡ true → list_all p (take k xs) ≡ true →
    list_all p (take (k + 1) xs) ≡ true
all_next p xs k x at t e =
    list_all_more p xs k x (slice_get_within xs k x at)
    ∙ ap (λ b. b && p (get_or xs k x)) e ∙ ap p (get_or_from_slice_get xs k x x at) ∙ t
