-- The program of a pattern is that of what is left of it without its parts that have no move.
use Rattle.std.proofs.Common.{◌≡◌, ℕ, ◌+◌, ◌-◌, ◌*◌, ◌<◌, ◌≤◌, Bool, true, false, List, [], ◌∷◌, ◌++◌, length, map, Option, Some, None, refl, sym, ap, ◌∙◌, arith}
use Rattle.std.specs.Prelude.{◌==◌, nat_lt, if◌then◌else◌, option_to_list}
use Rattle.std.specs.List.{flat_map}
use Rattle.std.proofs.Math.Path.{fun_ext}
use Rattle.std.proofs.lemmas.List.{append-nil}
use Rattle.std.proofs.lemmas.Bool.{eqb-true, le-ltb, ltb-false}
use Rattle.yr_pattern.specs.declared.pattern.Pattern.{Pattern}
use Rattle.yr_pattern.specs.Tree.{Tree, Trees, Empty, One, Seq, Alt, Rep, Start, End, Edge, NotEdge, WideEdge, WideNotEdge, none, more, tree_of, trees_of}
use Rattle.yr_pattern.specs.Sizes.{members, size_of, sizes_of, choice_size}
use Rattle.yr_program.specs.Acts.{Act}
use Rattle.yr_program.specs.Code.{Code, enter, both, nothing, fail, copies, options, rep_code, choice_code, code_of, code_all, code_any}
use Rattle.yr_program.specs.Kept.{or_empty, before, in_order, times, repeated, kept, kept_all, kept_each, kept_list}
use Rattle.yr_program.proofs.Codes.{length-code_of}
use Rattle.yr_program.proofs.EmitLemmas.{copies-none}

-- two patterns have the same moves wherever they stand
abbrev Same : Tree → Tree → Type 0
Same u t = ◌≡◌ {A = Code} (code_of u) (code_of t)

ext : (c d : Code) → ((base next : ℕ) → c base next ≡ d base next) → ◌≡◌ {A = Code} c d
ext c d h = fun_ext (λ base. fun_ext (λ next. h base next))

same_size : (u t : Tree) → Same u t → size_of u ≡ size_of t
same_size u t e = sym (length-code_of u 0 0) ∙ ap (λ (c : Code). length (c 0 0)) e ∙ length-code_of t 0 0

before-more : (k : Option Tree) (ts : Trees) → ◌≡◌ {A = Code} (code_all (before k ts)) (code_all (more (or_empty k) ts))
before-more None ts = ext _ _ (λ base next. let e : base ≡ base + 0 = omega arith in ap (λ b. code_all ts b next) e)
before-more (Some t) ts = refl

in_order-all : (ts : Trees) → ◌≡◌ {A = Code} (code_of (or_empty (in_order ts))) (code_all ts)
in_order-all none = refl
in_order-all (more t none) = ext _ _ (λ base next. sym (append-nil (code_of t base next)))
in_order-all (more t (more u us)) = refl

-- a repetition whose bounds are in order, and one whose are not
rep_ordered : (s : ℕ) (c : Code) (min max k : ℕ) → min ≤ max → max - min ≡ k → ◌≡◌ {A = Code} (rep_code s c min (Some max)) (both (min * s) (k * (s + 1)) (copies min s c) (options k s c))
rep_ordered s c min max k h e =
    ap (λ b. if b then fail else both (min * s) ((max - min) * (s + 1)) (copies min s c) (options (max - min) s c)) (le-ltb max min h)
    ∙ ap (λ n. both (min * s) (n * (s + 1)) (copies min s c) (options n s c)) e

rep_turned : (s : ℕ) (c : Code) (min max : ℕ) → nat_lt max min ≡ true → ◌≡◌ {A = Code} (rep_code s c min (Some max)) fail
rep_turned s c min max e = ap (λ b. if b then fail else both (min * s) ((max - min) * (s + 1)) (copies min s c) (options (max - min) s c)) e

-- none of it, and once
never : (s : ℕ) (c : Code) → ◌≡◌ {A = Code} nothing (rep_code s c 0 (Some 0))
never s c = ext nothing (rep_code s c 0 (Some 0)) (λ base next. refl)

once : (s : ℕ) (c : Code) → ◌≡◌ {A = Code} c (rep_code s c 1 (Some 1))
once s c = ext c (rep_code s c 1 (Some 1)) (λ base next. sym (steps base next))
  where
    steps : (base next : ℕ) → rep_code s c 1 (Some 1) base next ≡ c base next
    steps base next =
        let last : ℕ = enter (0 * (s + 1)) (base + 1 * s) next in
        let alone : List Act = c base (enter (0 * s) (base + s) last) in
        let no_more : 0 * s ≡ 0 = omega arith in
        let no_option : 0 * (s + 1) ≡ 0 = omega arith in
        append-nil (alone ++ []) ∙ append-nil alone ∙ ap (λ z. c base (enter z (base + s) last)) no_more ∙ ap (λ z. c base (enter z (base + 1 * s) next)) no_option

none_often : (n : ℕ) (t : Tree) → Same Empty t → Same Empty (Rep t n (Some n))
none_often n t e = ext (code_of Empty) (code_of (Rep t n (Some n))) (λ base next. sym (steps base next))
  where
    no_size : size_of t ≡ 0
    no_size = sym (same_size Empty t e)

    steps : (base next : ℕ) → code_of (Rep t n (Some n)) base next ≡ []
    steps base next =
        let last : ℕ = enter (0 * (size_of t + 1)) (base + n * size_of t) next in
        let level : n - n ≡ 0 = omega arith in
        ap (λ (d : Code). d base next) (rep_ordered (size_of t) (code_of t) n n 0 (omega arith) level)
        ∙ append-nil (copies n (size_of t) (code_of t) base last)
        ∙ ap (λ z. copies n z (code_of t) base last) no_size
        ∙ copies-none n (code_of t) base last (λ b m. length-code_of t b m ∙ no_size)

rep-same : (u t : Tree) (min : ℕ) (max : Option ℕ) → Same u t → Same (Rep u min max) (Rep t min max)
rep-same u t min max e = ap (λ s. rep_code s (code_of u) min max) (same_size u t e) ∙ ap (λ (c : Code). rep_code (size_of t) c min max) e

times-same : (k : Option Tree) (t : Tree) (n : ℕ) → Same (or_empty k) t → Same (or_empty (times k n)) (Rep t n (Some n))
times-same None t n e = none_often n t e
times-same (Some u) t n e = by (n == 1) refl
  where
    by : (b : Bool) → (n == 1) ≡ b → Same (or_empty (if b then Some u else Some (Rep u n (Some n)))) (Rep t n (Some n))
    by true one = e ∙ once (size_of t) (code_of t) ∙ ap (λ m. rep_code (size_of t) (code_of t) m (Some m)) (sym (eqb-true n 1 one))
    by false other = rep-same u t n (Some n) e

at_most-same : (k : Option Tree) (t : Tree) (min max : ℕ) (turned nil level : Bool) → nat_lt max min ≡ turned → (max == 0) ≡ nil → (min == max) ≡ level → Same (or_empty k) t
    → Same (or_empty (if turned then Some (Rep Empty min (Some max)) else if nil then None else if level then times k max else Some (Rep (or_empty k) min (Some max)))) (Rep t min (Some max))
at_most-same k t min max true nil level p q r e = rep_turned 0 (code_of Empty) min max p ∙ sym (rep_turned (size_of t) (code_of t) min max p)
at_most-same k t min max false true level p q r e =
    let top : max ≡ 0 = eqb-true max 0 q in
    let ordered : min ≤ max = ltb-false max min p in
    let bottom : min ≡ 0 = omega arith in
    never (size_of t) (code_of t) ∙ ap (λ m. rep_code (size_of t) (code_of t) m (Some 0)) (sym bottom) ∙ ap (λ m. rep_code (size_of t) (code_of t) min (Some m)) (sym top)
at_most-same k t min max false false true p q r e =
    times-same k t max e ∙ ap (λ m. rep_code (size_of t) (code_of t) m (Some max)) (sym (eqb-true min max r))
at_most-same k t min max false false false p q r e = rep-same (or_empty k) t min (Some max) e

repeated-same : (k : Option Tree) (t : Tree) (min : ℕ) (max : Option ℕ) → Same (or_empty k) t → Same (or_empty (repeated k min max)) (Rep t min max)
repeated-same k t min None e = rep-same (or_empty k) t min None e
repeated-same k t min (Some max) e = at_most-same k t min max (nat_lt max min) (max == 0) (min == max) refl refl refl e

members-kept_each : (ts : Trees) → members (kept_each ts) ≡ members ts
members-kept_each none = refl
members-kept_each (more t ts) = ap (λ n. n + 1) (members-kept_each ts)

mutual
  pub same_code : (t : Tree) → Same (or_empty (kept t)) t
  same_code Empty = refl
  same_code (One bytes) = refl
  same_code (Seq ts) = in_order-all (kept_all ts) ∙ same_all ts
  same_code (Alt ts) = same_any ts
  same_code (Rep inner min max) = repeated-same (kept inner) inner min max (same_code inner)
  same_code Start = refl
  same_code End = refl
  same_code Edge = refl
  same_code NotEdge = refl
  same_code WideEdge = refl
  same_code WideNotEdge = refl

  same_all : (ts : Trees) → ◌≡◌ {A = Code} (code_all (kept_all ts)) (code_all ts)
  same_all none = refl
  same_all (more t ts) =
      let u = or_empty (kept t) in
      let rest = kept_all ts in
      before-more (kept t) rest
      ∙ ap (λ s. both s (sizes_of rest) (code_of u) (code_all rest)) (same_size u t (same_code t))
      ∙ ap (λ s. both (size_of t) s (code_of u) (code_all rest)) (same_size (Seq rest) (Seq ts) (same_all ts))
      ∙ ap (λ (c : Code). both (size_of t) (sizes_of ts) c (code_all rest)) (same_code t)
      ∙ ap (λ (c : Code). both (size_of t) (sizes_of ts) (code_of t) c) (same_all ts)

  same_any : (ts : Trees) → ◌≡◌ {A = Code} (code_any (kept_each ts)) (code_any ts)
  same_any none = refl
  same_any (more t ts) =
      let u = or_empty (kept t) in
      let rest = kept_each ts in
      ap (λ s. choice_code (members rest) s (choice_size (members rest) (sizes_of rest)) (code_of u) (code_any rest)) (same_size u t (same_code t))
      ∙ ap (λ s. choice_code (members rest) (size_of t) s (code_of u) (code_any rest)) (same_size (Alt rest) (Alt ts) (same_any ts))
      ∙ ap (λ n. choice_code n (size_of t) (choice_size (members ts) (sizes_of ts)) (code_of u) (code_any rest)) (members-kept_each ts)
      ∙ ap (λ (c : Code). choice_code (members ts) (size_of t) (choice_size (members ts) (sizes_of ts)) c (code_any rest)) (same_code t)
      ∙ ap (λ (c : Code). choice_code (members ts) (size_of t) (choice_size (members ts) (sizes_of ts)) (code_of t) c) (same_any ts)

pub kept-size : (t : Tree) → size_of (or_empty (kept t)) ≡ size_of t
kept-size t = same_size (or_empty (kept t)) t (same_code t)

pub kept-program : (t : Tree) → ◌≡◌ {A = Code} (code_of (or_empty (kept t))) (code_of t)
kept-program t = same_code t

-- lists of patterns
pub in_order-many : (ts : List Tree) → 1 < length ts → in_order (trees_of ts) ≡ Some (Seq (trees_of ts))
in_order-many [] h = absurd (omega arith)
in_order-many (t ∷ []) h = absurd (omega arith)
in_order-many (t ∷ (u ∷ us)) h = refl

before-trees_of : (k : Option Tree) (ts : List Tree) → trees_of (option_to_list k ++ ts) ≡ before k (trees_of ts)
before-trees_of None ts = refl
before-trees_of (Some t) ts = refl

pub kept_all-trees_of : (ps : List Pattern) → trees_of (flat_map (λ p. kept_list (tree_of p)) ps) ≡ kept_all (trees_of (map tree_of ps))
kept_all-trees_of [] = refl
kept_all-trees_of (p ∷ ps) =
    before-trees_of (kept (tree_of p)) (flat_map (λ q. kept_list (tree_of q)) ps) ∙ ap (before (kept (tree_of p))) (kept_all-trees_of ps)

pub kept_each-trees_of : (ts : List Tree) → kept_each (trees_of ts) ≡ trees_of (map (λ t. or_empty (kept t)) ts)
kept_each-trees_of [] = refl
kept_each-trees_of (t ∷ ts) = ap (more (or_empty (kept t))) (kept_each-trees_of ts)
