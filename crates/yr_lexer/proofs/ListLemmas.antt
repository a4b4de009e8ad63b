-- A list has what a test finds in it.
use Rattle.std.proofs.Common.{◌≡◌, ℕ, zero, suc, ◌<◌, Bool, true, false, List, [], ◌∷◌, length, map, refl, sym, ap, ◌∙◌, arith, Bor}
use Rattle.std.specs.Prelude.{◌||◌, ◌↔◌, IsTrue, Contains, slice_index_or}
use Rattle.std.specs.List.{list_any}
use Rattle.std.specs.Str.{bytes_eq}
use Rattle.std.proofs.lemmas.Slice.Eq.{bytes_eq-Decides}
use Rattle.std.proofs.lemmas.Bool.{or_left, or_right}
use Rattle.yr_lexer.specs.Gaps.{Text}
use Rattle.yr_lexer.proofs.Basics.{bool_cases}

unfoldable pub is_in : List Text → Text → Bool
is_in [] w = false
is_in (x ∷ xs) w = bytes_eq x w || is_in xs w

contains-next : (x : Text) (xs : List Text) (w : Text) → Contains xs w → Contains (x ∷ xs) w
contains-next x xs w c = (suc c.0, omega arith, c.2)

pub is_in-contains : (xs : List Text) (w : Text) → is_in xs w ≡ true → Contains xs w
unfolding is_in
is_in-contains [] w = λ e. absurd cc
is_in-contains (x ∷ xs) w = bool_cases (bytes_eq x w || is_in xs w ≡ true → Contains (x ∷ xs) w) (bytes_eq x w)
    (λ f e. (zero, omega arith, (bytes_eq-Decides x w).0 f))
    (λ f e. contains-next x xs w (is_in-contains xs w (rw f at e)))

is_in-at : (xs : List Text) (w : Text) (k : ℕ) → k < length xs → slice_index_or xs k w ≡ w → is_in xs w ≡ true
unfolding is_in
is_in-at [] w k h e = absurd (omega arith)
is_in-at (x ∷ xs) w zero h e = or_left (bytes_eq x w) (is_in xs w) ((bytes_eq-Decides x w).1 e)
is_in-at (x ∷ xs) w (suc k) h e = or_right (bytes_eq x w) (is_in xs w) (is_in-at xs w k (omega arith) e)

pub contains-is_in : (xs : List Text) (w : Text) → Contains xs w → is_in xs w ≡ true
contains-is_in xs w c = is_in-at xs w c.0 c.1 c.2

any-is_in : (xs : List (Bor Text)) (w : Text) → list_any (λ (x : Bor Text). bytes_eq x.now w) xs ≡ is_in (map (λ (x : Bor Text). x.now) xs) w
unfolding is_in
any-is_in [] w = refl
any-is_in (x ∷ xs) w = ap (λ (b : Bool). bytes_eq x.now w || b) (any-is_in xs w)

pub any-contains : (xs : List (Bor Text)) (all : List Text) (w : Text) (r : Bool) → r ≡ list_any (λ (x : Bor Text). bytes_eq x.now w) xs
    → map (λ (x : Bor Text). x.now) xs ≡ all → IsTrue r ↔ Contains all w
any-contains xs all w r e f =
    let g : r ≡ is_in all w = e ∙ any-is_in xs w ∙ ap (λ (l : List Text). is_in l w) f in
    (λ h. is_in-contains all w (sym g ∙ h), λ c. g ∙ contains-is_in all w c)
