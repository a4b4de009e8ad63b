-- The first name that stands twice, found from the end.
use Rattle.std.proofs.Common.{◌≡◌, ℕ, suc, ◌+◌, ◌≤◌, ◌||◌, Bool, true, false, List, [], ◌∷◌, ◌++◌, length, drop, get_or, refl, sym, ap, ◌∙◌, arith, Some, Option}
use Rattle.std.specs.Prelude.{if◌then◌else◌}
use Rattle.std.specs.Str.{bytes_eq}
use Rattle.std.specs.Cmp.Lexicographic.{bytes_decides}
use Rattle.std.proofs.Math.Seq.{drop-cons}
use Rattle.std.proofs.lemmas.List.Folds.{list_any-append}
use Rattle.yr_name_tables.specs.Names.{Name, has, first_twice}
use Rattle.yr_name_tables.specs.Places.{with_name}

or-false : (a b : Bool) → (a || (b || false)) ≡ (b || a)
or-false true true = refl
or-false true false = refl
or-false false true = refl
or-false false false = refl

pub has-with_name : (q n : Name) (ms : List Name) → has q (with_name n ms) ≡ (bytes_eq q n || has q ms)
has-with_name q n ms = by (has n ms) refl (bytes_eq q n) refl
  where
    by : (b : Bool) → has n ms ≡ b → (e : Bool) → bytes_eq q n ≡ e → has q (if b then ms else ms ++ n ∷ []) ≡ (e || has q ms)
    by true h true s = ap (λ m. has m ms) ((bytes_decides q n).0 s) ∙ h
    by true h false s = refl
    by false h e s = list_any-append (bytes_eq q) ms (n ∷ []) ∙ ap (λ b. has q ms || (b || false)) s ∙ or-false (has q ms) e

pub drop-at : (all : List Name) (n m : ℕ) (x : Name) → n ≡ m + 1 → n ≤ length all → x ≡ get_or all m x → drop m all ≡ x ∷ drop n all
drop-at all n m x e h is =
    let next : suc m ≡ n = omega arith in
    drop-cons all m x (omega arith) ∙ ap (λ y. y ∷ drop (suc m) all) (sym is) ∙ ap (λ k. x ∷ drop k all) next

pub twice-later : (all : List Name) (n m : ℕ) (x : Name) (old new : List Name) → drop m all ≡ x ∷ drop n all → new ≡ with_name x old
    → ((q : Name) → has q old ≡ has q (drop n all)) → (q : Name) → has q new ≡ has q (drop m all)
twice-later all n m x old new d e h q =
    ap (has q) e ∙ has-with_name q x old ∙ ap (λ b. bytes_eq q x || b) (h q) ∙ sym (ap (has q) d)

pub twice-found : (all : List Name) (n m : ℕ) (x : Name) (later : List Name) (f g : Option Name) (b : Bool) → drop m all ≡ x ∷ drop n all
    → ((q : Name) → has q later ≡ has q (drop n all)) → f ≡ first_twice (drop n all) → has x later ≡ b → g ≡ (if b then Some x else f) → g ≡ first_twice (drop m all)
twice-found all n m x later f g b d h i t e =
    e ∙ ap (λ c. if c then Some x else f) (sym t ∙ h x) ∙ ap (λ r. if has x (drop n all) then Some x else r) i ∙ sym (ap first_twice d)
