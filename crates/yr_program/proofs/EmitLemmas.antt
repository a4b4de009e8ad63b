-- One more part of the code.
use Rattle.std.proofs.Common.{◌≡◌, ℕ, zero, suc, ◌+◌, ◌-◌, ◌*◌, ◌<◌, ◌≤◌, List, [], ◌∷◌, ◌++◌, length, map, drop, get_or, refl, sym, ap, ◌∙◌, subst, arith, append_assoc, length-append, length-drop, drop-cons, drop_of_length-le, Some, None, Result, Ok, Err, OnOk, false}
use Rattle.std.proofs.lemmas.Bool.Decides.{nat_tests}
use Rattle.std.specs.Prelude.{nat_lt, if◌then◌else◌}
use Rattle.std.proofs.lemmas.List.{length-map, append-nil}
use Rattle.yr_pattern.proofs.TreeLemmas.{members-trees_of, choice_size-some}
use Rattle.yr_pattern.specs.Tree.{Tree, Trees, none, more, tree_of, trees_of}
use Rattle.yr_pattern.specs.Sizes.{members, size_of, sizes_of, choice_size, rep_size}
use Rattle.yr_pattern.specs.declared.pattern.Pattern.{Pattern}
use Rattle.yr_program.specs.Acts.{Act, Branch}
use Rattle.yr_program.specs.Code.{Code, any_size, enter, both, either, copies, options, loop, fail, rep_code, choice_code, code_of, code_all, code_any}
use Rattle.yr_program.proofs.Codes.{length-code_of}

abbrev pub forest : List Pattern → Trees
forest ps = trees_of (map tree_of ps)

pub forest-drop : (ps : List Pattern) (i : ℕ) (p : Pattern) → i < length ps → p ≡ get_or ps i p → forest (drop i ps) ≡ more (tree_of p) (forest (drop (i + 1) ps))
forest-drop ps i p lt e =
    let n : suc i ≡ i + 1 = omega arith in
    ap forest (drop-cons ps i p lt) ∙ ap (λ q. more (tree_of q) (forest (drop (suc i) ps))) (sym e) ∙ ap (λ k. more (tree_of p) (forest (drop k ps))) n

-- what is emitted and what is left, together
abbrev pub With : Code → ℕ → List Act → List Act
With c next ms = ms ++ c (length ms) next

both_step : (ms ms' : List Act) (s1 s2 : ℕ) (c1 c2 : Code) (next : ℕ) → ((b n : ℕ) → length (c1 b n) ≡ s1) →
    ms' ≡ ms ++ c1 (length ms) (enter s2 (length ms + s1) next) → With c2 next ms' ≡ With (both s1 s2 c1 c2) next ms
both_step ms ms' s1 s2 c1 c2 next size e =
    let front = c1 (length ms) (enter s2 (length ms + s1) next) in
    let n : length ms' ≡ length ms + s1 = omega (arith, ap length e, length-append ms front, size (length ms) (enter s2 (length ms + s1) next)) in
    ap (λ k. ms' ++ c2 k next) n ∙ ap (λ x. x ++ c2 (length ms + s1) next) e ∙ append_assoc ms front (c2 (length ms + s1) next)

pub all_step : (ms ms' : List Act) (u : Tree) (us : Trees) (next : ℕ) → ms' ≡ ms ++ code_of u (length ms) (enter (sizes_of us) (length ms + size_of u) next) →
    With (code_all us) next ms' ≡ With (code_all (more u us)) next ms
all_step ms ms' u us next e = both_step ms ms' (size_of u) (sizes_of us) (code_of u) (code_all us) next (length-code_of u) e

pub copies_step : (ms ms' : List Act) (left k s : ℕ) (c : Code) (next : ℕ) → ((b n : ℕ) → length (c b n) ≡ s) → left ≡ suc k →
    ms' ≡ ms ++ c (length ms) (enter (k * s) (length ms + s) next) → With (copies k s c) next ms' ≡ With (copies left s c) next ms
copies_step ms ms' left k s c next size l e =
    both_step ms ms' s (k * s) c (copies k s c) next size e ∙ ap (λ n. With (copies n s c) next ms) (sym l)

-- copies of nothing are nothing
pub copies-none : (k : ℕ) (c : Code) (b next : ℕ) → ((b n : ℕ) → length (c b n) ≡ 0) → copies k 0 c b next ≡ []
copies-none zero c b next size = refl
copies-none (suc k) c b next size =
    let front = c b (enter (k * 0) (b + 0) next) in
    empty (front ++ copies k 0 c (b + 0) next)
    (omega (arith, length-append front (copies k 0 c (b + 0) next), size b (enter (k * 0) (b + 0) next), ap length (copies-none k c (b + 0) next size)))
  where
    empty : (vs : List Act) → length vs ≡ 0 → vs ≡ []
    empty [] h = refl
    empty (v ∷ vs) h = absurd (omega arith)

either_step : (ms ms1 ms2 : List Act) (s1 s2 e1 e2 : ℕ) (c1 c2 : Code) (next : ℕ) → ((b n : ℕ) → length (c1 b n) ≡ s1) →
    e1 ≡ enter s1 (length ms + 1) next → e2 ≡ enter s2 (length ms + 1 + s1) next → ms1 ≡ ms ++ Branch e1 e2 ∷ [] → ms2 ≡ ms1 ++ c1 (length ms1) next →
    With c2 next ms2 ≡ With (either s1 s2 c1 c2) next ms
either_step ms ms1 ms2 s1 s2 e1 e2 c1 c2 next size p1 p2 q1 q2 =
    let n1 : length ms1 ≡ length ms + 1 = omega (arith, ap length q1, length-append ms (Branch e1 e2 ∷ [])) in
    let f : ms2 ≡ (ms ++ Branch e1 e2 ∷ []) ++ c1 (length ms + 1) next = q2 ∙ ap (λ n. ms1 ++ c1 n next) n1 ∙ ap (λ x. x ++ c1 (length ms + 1) next) q1 in
    let n2 : length ms2 ≡ length ms + 1 + s1 = omega (arith, ap length q2, length-append ms1 (c1 (length ms1) next), size (length ms1) next) in
    let back = c2 (length ms + 1 + s1) next in
    ap (λ n. ms2 ++ c2 n next) n2 ∙ ap (λ x. x ++ back) f
    ∙ append_assoc (ms ++ Branch e1 e2 ∷ []) (c1 (length ms + 1) next) back
    ∙ append_assoc ms (Branch e1 e2 ∷ []) (c1 (length ms + 1) next ++ back)
    ∙ ap (λ x. ms ++ (Branch x e2 ∷ (c1 (length ms + 1) next ++ back))) p1
    ∙ ap (λ x. ms ++ (Branch (enter s1 (length ms + 1) next) x ∷ (c1 (length ms + 1) next ++ back))) p2

pub options_step : (ms ms1 ms2 : List Act) (left k s e1 e2 : ℕ) (c : Code) (next : ℕ) → ((b n : ℕ) → length (c b n) ≡ s) → left ≡ suc k →
    e1 ≡ enter (s + k * (s + 1)) (length ms + 1) next → ms1 ≡ ms ++ Branch e1 next ∷ [] →
    e2 ≡ enter (k * (s + 1)) (length ms + 1 + s) next → ms2 ≡ ms1 ++ c (length ms1) e2 →
    With (options k s c) next ms2 ≡ With (options left s c) next ms
options_step ms ms1 ms2 left k s e1 e2 c next size l p1 q1 p2 q2 =
    let m = enter (k * (s + 1)) (length ms + 1 + s) next in
    let n1 : length ms1 ≡ length ms + 1 = omega (arith, ap length q1, length-append ms (Branch e1 next ∷ [])) in
    let n2 : length ms2 ≡ length ms + 1 + s = omega (arith, ap length q2, length-append ms1 (c (length ms1) e2), size (length ms1) e2) in
    let body = c (length ms + 1) m in
    let back = options k s c (length ms + 1 + s) next in
    let f : ms2 ≡ (ms ++ Branch e1 next ∷ []) ++ body = q2 ∙ ap (λ n. ms1 ++ c n e2) n1 ∙ ap (λ x. ms1 ++ c (length ms + 1) x) p2 ∙ ap (λ x. x ++ body) q1 in
    ap (λ n. ms2 ++ options k s c n next) n2 ∙ ap (λ x. x ++ back) f
    ∙ append_assoc (ms ++ Branch e1 next ∷ []) body back
    ∙ append_assoc ms (Branch e1 next ∷ []) (body ++ back)
    ∙ ap (λ x. ms ++ (Branch x next ∷ (body ++ back))) p1
    ∙ ap (λ x. ms ++ (Branch (enter (s + k * (s + 1)) (length ms + 1) next) next ∷ x)) (sym (append-nil (body ++ back)))
    ∙ ap (λ n. With (options n s c) next ms) (sym l)

pub members-forest : (ps : List Pattern) → members (forest ps) ≡ length ps
members-forest ps = members-trees_of (map tree_of ps) ∙ length-map ps tree_of

pub any_size-more : (u : Tree) (us : Trees) (m : ℕ) → members us ≡ suc m → any_size (more u us) ≡ size_of u + 1 + any_size us
any_size-more u us m e =
    let f : members us + 1 ≡ suc (suc m) = omega (arith, e) in
    let s = size_of u in let x = sizes_of us in
    let g : choice_size (suc (suc m)) (s + x) ≡ s + 1 + choice_size (suc m) x = omega arith in
    ap (λ y. choice_size y (s + x)) f ∙ g ∙ ap (λ y. s + 1 + choice_size y x) (sym e)

pub any_step : (ms ms1 ms2 : List Act) (e1 e2 : ℕ) (u : Tree) (us : Trees) (m next : ℕ) → members us ≡ suc m →
    e1 ≡ enter (size_of u) (length ms + 1) next → e2 ≡ enter (any_size us) (length ms + 1 + size_of u) next → ms1 ≡ ms ++ Branch e1 e2 ∷ [] → ms2 ≡ ms1 ++ code_of u (length ms1) next →
    With (code_any us) next ms2 ≡ With (code_any (more u us)) next ms
any_step ms ms1 ms2 e1 e2 u us m next some p1 p2 q1 q2 =
    either_step ms ms1 ms2 (size_of u) (any_size us) e1 e2 (code_of u) (code_any us) next (length-code_of u) p1 p2 q1 q2
    ∙ ap (λ k. With (choice_code k (size_of u) (any_size us) (code_of u) (code_any us)) next ms) (sym some)

pub factor-le : (a b : ℕ) → 1 ≤ a → b ≤ a * b
factor-le zero b h = absurd (omega arith)
factor-le (suc a) b h = omega arith

pub any_size-forest : (ps : List Pattern) → 0 < length ps → any_size (forest ps) ≡ sizes_of (forest ps) + (length ps - 1)
any_size-forest ps some =
    choice_size-some (map tree_of ps) (sizes_of (forest ps)) (omega (arith, length-map ps tree_of))
    ∙ ap (λ n. sizes_of (forest ps) + (n - 1)) (length-map ps tree_of)

pub any_some : (ps : List Pattern) (i : ℕ) → i < length ps → members (forest (drop i ps)) ≡ suc (length ps - i - 1)
any_some ps i lt = omega (arith, members-forest (drop i ps), length-drop i ps)

pub any_split : (ps : List Pattern) (i : ℕ) (p : Pattern) → i + 1 < length ps → p ≡ get_or ps i p →
    any_size (forest (drop i ps)) ≡ size_of (tree_of p) + 1 + any_size (forest (drop (i + 1) ps))
any_split ps i p lt e =
    ap any_size (forest-drop ps i p (omega arith) e)
    ∙ any_size-more (tree_of p) (forest (drop (i + 1) ps)) (length ps - (i + 1) - 1) (any_some ps (i + 1) lt)

pub forest-last : (ps : List Pattern) (i : ℕ) (p : Pattern) → i + 1 ≡ length ps → p ≡ get_or ps i p → forest (drop i ps) ≡ more (tree_of p) none
forest-last ps i p n e =
    forest-drop ps i p (omega arith) e
    ∙ ap (λ qs. more (tree_of p) (forest qs)) (drop_of_length-le ps {i = i + 1} (omega arith))

pub copies-empty : (ms : List Act) (k s : ℕ) (c : Code) (next : ℕ) → s ≡ 0 → ((b n : ℕ) → length (c b n) ≡ s) → ms ≡ With (copies k s c) next ms
copies-empty ms k s c next e size =
    sym (ap (λ x. With (copies k x c) next ms) e ∙ ap (λ x. ms ++ x) (copies-none k c (length ms) next (λ b n. size b n ∙ e)) ∙ append-nil ms)

pub one_less : (left s : ℕ) → 0 < left → left * s ≡ (left - 1) * s + s
one_less zero s h = absurd (omega arith)
one_less (suc k) s h = let e : suc k - 1 ≡ k = omega arith in rw e (omega arith)

pub length-copies : (k s : ℕ) (c : Code) (b next : ℕ) → ((b n : ℕ) → length (c b n) ≡ s) → length (copies k s c b next) ≡ k * s
length-copies zero s c b next size = omega arith
length-copies (suc k) s c b next size =
    let m = enter (k * s) (b + s) next in
    omega (arith, length-append (c b m) (copies k s c (b + s) next), size b m, length-copies k s c (b + s) next size)

pub rep_none : (ms ms1 ms2 ms3 : List Act) (k s start e : ℕ) (c : Code) (next : ℕ) → ((b n : ℕ) → length (c b n) ≡ s) →
    start ≡ length ms + k * s → e ≡ enter s (start + 1) start → ms1 ≡ ms ++ copies k s c (length ms) start →
    ms2 ≡ ms1 ++ Branch e next ∷ [] → ms3 ≡ ms2 ++ c (length ms2) start → ms3 ≡ With (rep_code s c k None) next ms
rep_none ms ms1 ms2 ms3 k s start e c next size p p1 q1 q2 q3 =
    let at = length ms + k * s in
    let front = copies k s c (length ms) at in
    let n1 : length ms1 ≡ at = omega (arith, ap length q1, length-append ms (copies k s c (length ms) start), length-copies k s c (length ms) start size) in
    let n2 : length ms2 ≡ at + 1 = omega (arith, ap length q2, length-append ms1 (Branch e next ∷ []), n1) in
    let x : s + 1 ≡ suc s = omega arith in
    let first : enter (s + 1) at next ≡ at = ap (λ y. enter y at next) x in
    let f1 : ms1 ≡ ms ++ front = q1 ∙ ap (λ y. ms ++ copies k s c (length ms) y) p in
    let f2 : ms2 ≡ ms1 ++ Branch (enter s (at + 1) at) next ∷ [] = q2 ∙ ap (λ y. ms1 ++ Branch y next ∷ []) p1 ∙ ap (λ y. ms1 ++ Branch (enter s (y + 1) y) next ∷ []) p in
    let f3 : ms3 ≡ ms2 ++ c (at + 1) at = q3 ∙ ap (λ y. ms2 ++ c y start) n2 ∙ ap (λ y. ms2 ++ c (at + 1) y) p in
    f3 ∙ ap (λ y. y ++ c (at + 1) at) f2 ∙ append_assoc ms1 (Branch (enter s (at + 1) at) next ∷ []) (c (at + 1) at)
    ∙ ap (λ y. y ++ loop s c at next) f1 ∙ append_assoc ms front (loop s c at next)
    ∙ ap (λ y. ms ++ (copies k s c (length ms) y ++ loop s c at next)) (sym first)

pub rep_some : (ms ms1 ms2 : List Act) (min max s e : ℕ) (c : Code) (next : ℕ) → ((b n : ℕ) → length (c b n) ≡ s) → min ≤ max →
    e ≡ enter ((max - min) * (s + 1)) (length ms + min * s) next → ms1 ≡ ms ++ copies min s c (length ms) e →
    ms2 ≡ ms1 ++ options (max - min) s c (length ms1) next → ms2 ≡ With (rep_code s c min (Some max)) next ms
rep_some ms ms1 ms2 min max s e c next size le p q1 q2 =
    let not_less : nat_lt max min ≡ false = grind (arith, nat_tests) in
    let at = length ms + min * s in
    let m = enter ((max - min) * (s + 1)) at next in
    let n1 : length ms1 ≡ at = omega (arith, ap length q1, length-append ms (copies min s c (length ms) e), length-copies min s c (length ms) e size) in
    let back = options (max - min) s c at next in
    q2 ∙ ap (λ y. ms1 ++ options (max - min) s c y next) n1 ∙ ap (λ y. y ++ back) (q1 ∙ ap (λ y. ms ++ copies min s c (length ms) y) p)
    ∙ append_assoc ms (copies min s c (length ms) m) back
    ∙ ap (λ b. With (if b then fail else both (min * s) ((max - min) * (s + 1)) (copies min s c) (options (max - min) s c)) next ms) (sym not_less)

pub OnOk-map : {T E : Type 0} (r : Result T E) (P Q : Type 0) → (P → Q) → OnOk r P → OnOk r Q
OnOk-map (Ok x) P Q f h = f h
OnOk-map (Err e) P Q f h = h

pub times-parts : (a m s : ℕ) → a ≤ m → m * s ≡ a * s + (m - a) * s
times-parts a m s le =
    let e : m ≡ a + (m - a) = omega arith in ap (λ x. x * s) e ∙ product a (m - a)
  where
    product : (x y : ℕ) → (x + y) * s ≡ x * s + y * s
    product x y = omega arith

pub room_some : (n s min max : ℕ) → min ≤ max → n + rep_size s min (Some max) ≤ 65535 → n + (max * s + (max - min)) ≤ 65535
room_some n s min max le h =
    let not_less : nat_lt max min ≡ false = grind (arith, nat_tests) in
    subst (λ b. n + (if b then 1 else (max * s + (max - min))) ≤ 65535) not_less h
