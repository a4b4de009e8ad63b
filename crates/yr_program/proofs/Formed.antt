-- The moves that a pattern's code names are in the program.
use Rattle.std.proofs.Common.{◌≡◌, ℕ, zero, suc, ◌+◌, ◌-◌, ◌*◌, ◌<◌, ◌≤◌, Bool, true, false, [], ◌∷◌, ◌++◌, All, Option, Some, None, refl, sym, subst, arith}
use Rattle.std.specs.Prelude.{nat_lt, if◌then◌else◌}
use Rattle.std.proofs.lemmas.Bool.Decides.{nat_tests}
use Rattle.std.proofs.lemmas.List.Elements.{All-nil, All-cons, All-append}
use Rattle.yr_pattern.specs.Set.{no_byte}
use Rattle.yr_pattern.specs.Tree as t
use Rattle.yr_pattern.specs.Tree.{Tree, Trees, none, more}
use Rattle.yr_pattern.specs.Sizes.{members, size_of, sizes_of, choice_size, rep_size}
use Rattle.yr_rows.specs.declared.moves.Assertion.TheVariants as a
use Rattle.yr_program.specs.Acts.{Act, Stop, Read, Branch, Ask}
use Rattle.yr_program.specs.Code.{Code, enter, fail, both, either, nothing, copies, options, loop, rep_code, choice_code, code_of, code_all, code_any, program_of}
use Rattle.yr_program.proofs.Codes.{choice_total, total}

-- the moves that it names are below n
abbrev pub IsBelow : ℕ → Act → Type 0
IsBelow n Stop = Unit {0}
IsBelow n (Read next bytes) = next < n
IsBelow n (Branch next other) = (next < n) × (other < n)
IsBelow n (Ask assertion next) = next < n

enter_below : (s b next n : ℕ) → b + s ≤ n → next < n → enter s b next < n
enter_below zero b next n h g = g
enter_below (suc s) b next n h g = omega (arith, h)

record Formed (s : ℕ) (c : Code) : Type 0 where
  at : (b next n : ℕ) → b + s ≤ n → next < n → All (IsBelow n) (c b next)

single : (n : ℕ) (v : Act) → IsBelow n v → All (IsBelow n) (v ∷ [])
single n v h = All-cons (IsBelow n) v [] h (All-nil (IsBelow n))

other : (s s' : ℕ) (c : Code) → s ≡ s' → Formed s c → Formed s' c
other s s' c e p = let P : ℕ → Type 0 = λ x. Formed x c in subst P e p

formed_nothing : Formed 0 nothing
formed_nothing = record { at = λ b next n h g. All-nil (IsBelow n) }

formed_fail : Formed 1 fail
formed_fail = record { at = λ b next n h g. single n (Read next no_byte) g }

formed_both : (s1 s2 : ℕ) (c1 c2 : Code) → Formed s1 c1 → Formed s2 c2 → Formed (s1 + s2) (both s1 s2 c1 c2)
formed_both s1 s2 c1 c2 p q = record {
  at = λ b next n h g.
      let e = enter s2 (b + s1) next in
      let mid : e < n = enter_below s2 (b + s1) next n (omega (arith, h)) g in
      All-append (IsBelow n) (c1 b e) (c2 (b + s1) next) (p.at b e n (omega (arith, h)) mid) (q.at (b + s1) next n (omega (arith, h)) g);
}

formed_either : (s s1 s2 : ℕ) (c1 c2 : Code) → s ≡ suc (s1 + s2) → Formed s1 c1 → Formed s2 c2 → Formed s (either s1 s2 c1 c2)
formed_either s s1 s2 c1 c2 e p q = record {
  at = λ b next n h g.
      let e1 = enter s1 (b + 1) next in let e2 = enter s2 (b + 1 + s1) next in
      All-cons (IsBelow n) (Branch e1 e2) (c1 (b + 1) next ++ c2 (b + 1 + s1) next)
      (enter_below s1 (b + 1) next n (omega (arith, h, e)) g, enter_below s2 (b + 1 + s1) next n (omega (arith, h, e)) g)
      (All-append (IsBelow n) (c1 (b + 1) next) (c2 (b + 1 + s1) next) (p.at (b + 1) next n (omega (arith, h, e)) g) (q.at (b + 1 + s1) next n (omega (arith, h, e)) g));
}

formed_loop : (s : ℕ) (c : Code) → Formed s c → Formed (s + 1) (loop s c)
formed_loop s c p = record {
  at = λ b next n h g.
      let here : b < n = omega (arith, h) in
      All-cons (IsBelow n) (Branch (enter s (b + 1) b) next) (c (b + 1) b) (enter_below s (b + 1) b n (omega (arith, h)) here, g) (p.at (b + 1) b n (omega (arith, h)) here);
}

formed_copies : (k s : ℕ) (c : Code) → Formed s c → Formed (k * s) (copies k s c)
formed_copies zero s c p = other 0 (zero * s) nothing (omega arith) formed_nothing
formed_copies (suc k) s c p = other (s + k * s) (suc k * s) (copies (suc k) s c) (omega arith) (formed_both s (k * s) c (copies k s c) p (formed_copies k s c p))

formed_options : (k s : ℕ) (c : Code) → Formed s c → Formed (k * (s + 1)) (options k s c)
formed_options zero s c p = other 0 (zero * (s + 1)) nothing (omega arith) formed_nothing
formed_options (suc k) s c p =
    formed_either (suc k * (s + 1)) (s + k * (s + 1)) 0 (both s (k * (s + 1)) c (options k s c)) nothing (omega arith)
    (formed_both s (k * (s + 1)) c (options k s c) p (formed_options k s c p)) formed_nothing

sum_parts : (a d s m : ℕ) → m ≡ a + d → a * s + d * (s + 1) ≡ m * s + d
sum_parts a d s m e = rw e (omega arith)

formed_rep : (s : ℕ) (c : Code) (min : ℕ) (max : Option ℕ) → Formed s c → Formed (rep_size s min max) (rep_code s c min max)
formed_rep s c min None p =
    other (min * s + (s + 1)) ((min + 1) * s + 1) (rep_code s c min None) (omega arith) (formed_both (min * s) (s + 1) (copies min s c) (loop s c) (formed_copies min s c p) (formed_loop s c p))
formed_rep s c min (Some max) p = cases (nat_lt max min) refl
  where
    not_less : nat_lt max min ≡ false → min ≤ max
    not_less h = grind (arith, nat_tests)

    cases : (b : Bool) → nat_lt max min ≡ b → Formed (if b then 1 else (max * s + (max - min))) (if b then fail else both (min * s) ((max - min) * (s + 1)) (copies min s c) (options (max - min) s c))
    cases true e = formed_fail
    cases false e =
        let le = not_less e in
        other (min * s + (max - min) * (s + 1)) (max * s + (max - min)) (both (min * s) ((max - min) * (s + 1)) (copies min s c) (options (max - min) s c)) (sum_parts min (max - min) s max (omega arith))
        (formed_both (min * s) ((max - min) * (s + 1)) (copies min s c) (options (max - min) s c) (formed_copies min s c p) (formed_options (max - min) s c p))

formed_choice : (m s1 s2 n : ℕ) (c1 c2 : Code) → n ≡ choice_total m s1 s2 → Formed s1 c1 → Formed s2 c2 → Formed n (choice_code m s1 s2 c1 c2)
formed_choice zero s1 s2 n c1 c2 e p q = other s1 n c1 (sym e) p
formed_choice (suc m) s1 s2 n c1 c2 e p q = formed_either n s1 s2 c1 c2 e p q

mutual
  formed_code : (x : Tree) → Formed (size_of x) (code_of x)
  formed_code t.Empty = formed_nothing
  formed_code (t.One s) = record { at = λ b next n h g. single n (Read next s) g }
  formed_code (t.Seq ts) = formed_all ts
  formed_code (t.Alt ts) = formed_any ts
  formed_code (t.Rep inner min max) = formed_rep (size_of inner) (code_of inner) min max (formed_code inner)
  formed_code t.Start = record { at = λ b next n h g. single n (Ask a.Start next) g }
  formed_code t.End = record { at = λ b next n h g. single n (Ask a.End next) g }
  formed_code t.Edge = record { at = λ b next n h g. single n (Ask a.Edge next) g }
  formed_code t.NotEdge = record { at = λ b next n h g. single n (Ask a.NotEdge next) g }
  formed_code t.WideEdge = record { at = λ b next n h g. single n (Ask a.WideEdge next) g }
  formed_code t.WideNotEdge = record { at = λ b next n h g. single n (Ask a.WideNotEdge next) g }

  formed_all : (ts : Trees) → Formed (sizes_of ts) (code_all ts)
  formed_all none = formed_nothing
  formed_all (more u us) = formed_both (size_of u) (sizes_of us) (code_of u) (code_all us) (formed_code u) (formed_all us)

  formed_any : (ts : Trees) → Formed (choice_size (members ts) (sizes_of ts)) (code_any ts)
  formed_any none = formed_fail
  formed_any (more u us) =
      formed_choice (members us) (size_of u) (choice_size (members us) (sizes_of us)) (choice_size (members us + 1) (size_of u + sizes_of us)) (code_of u) (code_any us)
      (total (λ s i j. ⊥) [] [] (λ i j h. h) us (size_of u)) (formed_code u) (formed_any us)

pub formed_program : (x : Tree) → All (IsBelow (size_of x + 1)) (program_of x)
formed_program x =
    All-append (IsBelow (size_of x + 1)) (code_of x 0 (size_of x)) (Stop ∷ []) ((formed_code x).at 0 (size_of x) (size_of x + 1) (omega arith) (omega arith)) (single (size_of x + 1) Stop tt)
