-- The folder of a name, by its last byte.
use Rattle.std.proofs.Common.{◌≡◌, ◌≢◌, ℕ, ◌+◌, ◌-◌, ◌<◌, ◌≤◌, true, false, List, [], ◌∷◌, ◌++◌, length, take, get_or, slice_index, IsUtf8, IsCharBoundary, refl, sym, ap, ◌∙◌, subst, arith}
use Rattle.std.proofs.lemmas.List.{take_more}
use Rattle.std.proofs.lemmas.Str.{IsCharBoundary-after_ascii}
use Rattle.std.specs.Bool.{◌==◌}
use Rattle.yr_lexer.specs.Includes.{in_folder, folder_of}

in_folder-more : (x : ℕ) (xs : List ℕ) (b : ℕ) → in_folder x (xs ++ b ∷ []) ≡ x ∷ (xs ++ b ∷ [])
in_folder-more x [] b = refl
in_folder-more x (y ∷ ys) b = refl

pub folder-last : (xs : List ℕ) (b : ℕ) → b == 47 ≡ true → folder_of (xs ++ b ∷ []) ≡ xs ++ b ∷ []
folder-last [] b e = rw e refl
folder-last (x ∷ xs) b e = ap (in_folder x) (folder-last xs b e) ∙ in_folder-more x xs b

pub folder-other : (xs : List ℕ) (b : ℕ) → b == 47 ≡ false → folder_of (xs ++ b ∷ []) ≡ folder_of xs
folder-other [] b e = rw e refl
folder-other (x ∷ xs) b e = ap (in_folder x) (folder-other xs b e)

front : (bs : List ℕ) (end : ℕ) → 0 < end → end ≤ length bs → take end bs ≡ take (end - 1) bs ++ get_or bs (end - 1) 0 ∷ []
front bs end some within = let e : end - 1 + 1 ≡ end = omega arith in
    let h : take (end - 1 + 1) bs ≡ take (end - 1) bs ++ get_or bs (end - 1) 0 ∷ [] = take_more bs (end - 1) 0 (omega arith) in
    subst (λ n. take n bs ≡ take (end - 1) bs ++ get_or bs (end - 1) 0 ∷ []) e h

-- one byte that is no `/` is left out
pub folder-shorter : (bs : List ℕ) (end : ℕ) → 0 < end → end ≤ length bs → slice_index bs (end - 1) ≢ 47
    → folder_of (take end bs) ≡ folder_of bs → folder_of (take (end - 1) bs) ≡ folder_of bs
folder-shorter bs end some within other so_far =
    sym (folder-other (take (end - 1) bs) (get_or bs (end - 1) 0) (grind (arith, other))) ∙ (rw (front bs end some within) at so_far)

-- the end is reached at a `/`
pub folder-ends : (bs : List ℕ) (end : ℕ) → 0 < end → end ≤ length bs → slice_index bs (end - 1) ≡ 47
    → folder_of (take end bs) ≡ folder_of bs → take end bs ≡ folder_of bs
folder-ends bs end some within slash so_far =
    front bs end some within ∙ sym (folder-last (take (end - 1) bs) (get_or bs (end - 1) 0) (grind (arith, slash))) ∙ (rw (front bs end some within) at so_far)

-- the place after a `/` is one where a character ends
pub folder-boundary : (bs : List ℕ) (end : ℕ) → IsUtf8 bs → 0 < end → end ≤ length bs → slice_index bs (end - 1) ≡ 47 → IsCharBoundary bs end
folder-boundary bs end utf8 some within slash =
    let e : end - 1 + 1 ≡ end = omega arith in
    subst (λ n. IsCharBoundary bs n) e (IsCharBoundary-after_ascii bs (end - 1) utf8 (omega arith) (omega (arith, slash)))
