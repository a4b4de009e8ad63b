-- The code of a pattern does what the pattern says.
use Rattle.std.proofs.Common.{◌≡◌, ℕ, zero, suc, ◌+◌, ◌-◌, ◌*◌, ◌<◌, ◌≤◌, ◌⊎◌, Bool, true, false, inl, inr, List, [], ◌∷◌, ◌++◌, length, Option, Some, None, refl, sym, ap, ◌∙◌, subst, arith, le_refl, append_assoc, length-append}
use Rattle.std.specs.Prelude.{slice_get, nat_lt, if◌then◌else◌, not, IsTrue}
use Rattle.std.proofs.Math.Seq.{get_or-append_seam}
use Rattle.std.proofs.lemmas.Option.{slice_get-get_or}
use Rattle.std.proofs.lemmas.Bool.Decides.{nat_tests}
use Rattle.yr_base.specs.Places.{is_edge, is_wide_edge}
use Rattle.yr_pattern.specs.Set.{no_byte}
use Rattle.yr_pattern.specs.Tree as t
use Rattle.yr_pattern.specs.Tree.{Tree, Trees, none, more}
use Rattle.yr_pattern.specs.Sizes.{members, size_of, sizes_of, choice_size, rep_size}
use Rattle.yr_pattern.specs.Spans.{Chain, AtMost, Walk, WalkAll, WalkAny}
use Rattle.yr_rows.specs.Accepts.{holds}
use Rattle.yr_rows.specs.declared.moves.Assertion.{Assertion}
use Rattle.yr_rows.specs.declared.moves.Assertion.TheVariants as a
use Rattle.yr_program.specs.Acts.{Act, Stop, Read, Ask, Does, Reaches}
use Rattle.yr_program.specs.Code.{Code, enter, fail, both, either, nothing, copies, options, loop, rep_code, choice_code, code_of, code_all, code_any, program_of}
use Rattle.yr_program.proofs.Pieces.{Rel, Piece, Runs, same_piece, no_piece, move_piece, both_piece, either_piece, loop_piece, run_at}

-- the moves stand in the program at this place
abbrev pub HasAt : List Act → ℕ → List Act → Type 0
HasAt moves b [] = Unit {0}
HasAt moves b (v ∷ vs) = (slice_get moves b ≡ Some v) × HasAt moves (b + 1) vs

pub has_front : (moves : List Act) (b : ℕ) (vs ws : List Act) → HasAt moves b (vs ++ ws) → HasAt moves b vs
has_front moves b [] ws h = tt
has_front moves b (v ∷ vs) ws h = (h.0, has_front moves (b + 1) vs ws h.1)

pub has_back : (moves : List Act) (b : ℕ) (vs ws : List Act) → HasAt moves b (vs ++ ws) → HasAt moves (b + length vs) ws
has_back moves b [] ws h = let e : b ≡ b + 0 = omega arith in subst (λ x. HasAt moves x ws) e h
has_back moves b (v ∷ vs) ws h =
    let e : b + 1 + length vs ≡ b + length (v ∷ vs) = omega arith in
    subst (λ x. HasAt moves x ws) e (has_back moves (b + 1) vs ws h.1)

pub has_all : (vs pre : List Act) → HasAt (pre ++ vs) (length pre) vs
has_all [] pre = tt
has_all (v ∷ vs) pre =
    let within : length pre < length (pre ++ v ∷ vs) = omega (arith, length-append pre (v ∷ vs)) in
    let here = slice_get-get_or (pre ++ v ∷ vs) (length pre) v within ∙ ap Some (get_or-append_seam pre v vs v) in
    let m : length (pre ++ v ∷ []) ≡ length pre + 1 = omega (arith, length-append pre (v ∷ [])) in
    let rest = has_all vs (pre ++ v ∷ []) in
    let rest' = subst (λ l. HasAt l (length (pre ++ v ∷ [])) vs) (append_assoc pre (v ∷ []) vs) rest in
    (here, subst (λ x. HasAt (pre ++ v ∷ vs) x vs) m rest')

-- where two parts begin
enter_both : (s1 s2 b next : ℕ) → enter (s1 + s2) b next ≡ enter s1 b (enter s2 (b + s1) next)
enter_both zero s2 b next =
    let e : zero + s2 ≡ s2 = omega arith in let f : b ≡ b + zero = omega arith in
    ap (λ x. enter x b next) e ∙ ap (λ x. enter s2 x next) f
enter_both (suc s1) s2 b next = let e : suc s1 + s2 ≡ suc (s1 + s2) = omega arith in ap (λ x. enter x b next) e

enter_some : (s s' b next : ℕ) → s ≡ suc s' → enter s b next ≡ b
enter_some s s' b next e = ap (λ x. enter x b next) e

chain_join : (R : Rel) (a c i k j : ℕ) → Chain R a i k → Chain R c k j → Chain R (a + c) i j
chain_join R zero c i k j p q =
    let e : c ≡ zero + c = omega arith in
    let P : ℕ → Type 0 = λ x. Chain R x i j in let Q : ℕ → Type 0 = λ x. Chain R c x j in subst P e (subst Q (sym p) q)
chain_join R (suc a) c i k j p q =
    let e : suc (a + c) ≡ suc a + c = omega arith in
    let P : ℕ → Type 0 = λ x. Chain R x i j in subst P e (p.0, p.1, chain_join R a c p.0 k j p.2 q)

chain_cut : (R : Rel) (a c i j : ℕ) → Chain R (a + c) i j → (k : ℕ) × Chain R a i k × Chain R c k j
chain_cut R zero c i j p =
    let e : zero + c ≡ c = omega arith in let P : ℕ → Type 0 = λ x. Chain R x i j in (i, refl, subst P e p)
chain_cut R (suc a) c i j p =
    let e : suc a + c ≡ suc (a + c) = omega arith in let P : ℕ → Type 0 = λ x. Chain R x i j in
    let q = subst P e p in let r = chain_cut R a c q.0 j q.2 in (r.0, (q.0, q.1, r.1), r.2)

module _ (read : (ℕ → Bool) → ℕ → ℕ → Type 0) (file : List ℕ) (moves : List Act) where
  -- code of this size does R wherever it stands
  pub record Codes (s : ℕ) (c : Code) (R : Rel) : Type 0 where
    pub size : (b next : ℕ) → length (c b next) ≡ s
    pub does : (b next : ℕ) → HasAt moves b (c b next) → Piece read file moves (enter s b next) next R

  abbrev Then : Rel → Rel → Rel
  Then R S i j = (k : ℕ) × R i k × S k j

  same_codes : (s : ℕ) (c : Code) (R S : Rel) → ((i j : ℕ) → R i j → S i j) → ((i j : ℕ) → S i j → R i j) → Codes s c R → Codes s c S
  same_codes s c R S to from p = record {
    size = p.size;
    does = λ b next h. same_piece read file moves (enter s b next) next R S to from (p.does b next h);
  }

  other_size : (s s' : ℕ) (c : Code) (R : Rel) → s ≡ s' → Codes s c R → Codes s' c R
  other_size s s' c R e p = let P : ℕ → Type 0 = λ x. Codes x c R in subst P e p

  nothing_codes : Codes 0 nothing (λ i j. i ≡ j)
  nothing_codes = record { size = λ b next. refl; does = λ b next h. no_piece read file moves next }

  both_codes : (s1 s2 : ℕ) (c1 c2 : Code) (R S : Rel) → Codes s1 c1 R → Codes s2 c2 S → Codes (s1 + s2) (both s1 s2 c1 c2) (Then R S)
  both_codes s1 s2 c1 c2 R S p q = record {
    size = λ b next. omega (arith, length-append (c1 b (enter s2 (b + s1) next)) (c2 (b + s1) next), p.size b (enter s2 (b + s1) next), q.size (b + s1) next);
    does = λ b next h.
        let m = enter s2 (b + s1) next in
        let h1 = has_front moves b (c1 b m) (c2 (b + s1) next) h in
        let h2 = has_back moves b (c1 b m) (c2 (b + s1) next) h in
        let h2' = subst (λ x. HasAt moves (b + x) (c2 (b + s1) next)) (p.size b m) h2 in
        let E : ℕ → Type 0 = λ x. Piece read file moves x next (Then R S) in
        subst E (sym (enter_both s1 s2 b next)) (both_piece read file moves (enter s1 b m) m next R S (p.does b m h1) (q.does (b + s1) next h2'));
  }

  either_codes : (s s1 s2 : ℕ) (c1 c2 : Code) (R S : Rel) → s ≡ suc (s1 + s2) → Codes s1 c1 R → Codes s2 c2 S →
      Codes s (either s1 s2 c1 c2) (λ i j. R i j ⊎ S i j)
  either_codes s s1 s2 c1 c2 R S e p q = record {
    size = λ b next. omega (arith, e, length-append (c1 (b + 1) next) (c2 (b + 1 + s1) next), p.size (b + 1) next, q.size (b + 1 + s1) next);
    does = λ b next h.
        let h1 = has_front moves (b + 1) (c1 (b + 1) next) (c2 (b + 1 + s1) next) h.1 in
        let h2 = has_back moves (b + 1) (c1 (b + 1) next) (c2 (b + 1 + s1) next) h.1 in
        let h2' = subst (λ x. HasAt moves (b + 1 + x) (c2 (b + 1 + s1) next)) (p.size (b + 1) next) h2 in
        let E : ℕ → Type 0 = λ x. Piece read file moves x next (λ i j. R i j ⊎ S i j) in
        subst E (sym (enter_some s (s1 + s2) b next e))
        (either_piece read file moves b (enter s1 (b + 1) next) (enter s2 (b + 1 + s1) next) next R S h.0 (p.does (b + 1) next h1) (q.does (b + 1 + s1) next h2'));
  }

  loop_codes : (s : ℕ) (c : Code) (R : Rel) → Codes s c R → Codes (s + 1) (loop s c) (λ i j. (k : ℕ) × Chain R k i j)
  loop_codes s c R p = record {
    size = λ b next. omega (arith, p.size (b + 1) b);
    does = λ b next h.
        let e : s + 1 ≡ suc s = omega arith in
        let E : ℕ → Type 0 = λ x. Piece read file moves x next (λ i j. (k : ℕ) × Chain R k i j) in
        subst E (sym (enter_some (s + 1) s b next e))
        (loop_piece read file moves b (enter s (b + 1) b) next R h.0 (p.does (b + 1) b h.1));
  }

  copies_codes : (k s : ℕ) (c : Code) (R : Rel) → Codes s c R → Codes (k * s) (copies k s c) (Chain R k)
  copies_codes zero s c R p = let e : 0 ≡ zero * s = omega arith in other_size 0 (zero * s) nothing (Chain R zero) e nothing_codes
  copies_codes (suc k) s c R p =
      let e : s + k * s ≡ suc k * s = omega arith in
      other_size (s + k * s) (suc k * s) (copies (suc k) s c) (Chain R (suc k)) e
      (both_codes s (k * s) c (copies k s c) R (Chain R k) p (copies_codes k s c R p))

  abbrev UpTo : Rel → ℕ → Rel
  UpTo R most i j = (k : ℕ) × (k ≤ most) × Chain R k i j

  options_codes : (k s : ℕ) (c : Code) (R : Rel) → Codes s c R → Codes (k * (s + 1)) (options k s c) (UpTo R k)
  options_codes zero s c R p =
      let e : 0 ≡ zero * (s + 1) = omega arith in
      other_size 0 (zero * (s + 1)) nothing (UpTo R zero) e
      (same_codes 0 nothing (λ i j. i ≡ j) (UpTo R zero) (λ i j h. (0, le_refl 0, h)) (λ i j h. at_zero h.0 i j h.1 h.2) nothing_codes)
    where
      at_zero : (k i j : ℕ) → k ≤ 0 → Chain R k i j → i ≡ j
      at_zero zero i j le h = h
      at_zero (suc k) i j le h = absurd (omega arith)
  options_codes (suc k) s c R p =
      let rest = options_codes k s c R p in
      let first = both_codes s (k * (s + 1)) c (options k s c) R (UpTo R k) p rest in
      let e : suc k * (s + 1) ≡ suc ((s + k * (s + 1)) + 0) = omega arith in
      same_codes (suc k * (s + 1)) (options (suc k) s c) (λ i j. Then R (UpTo R k) i j ⊎ (i ≡ j)) (UpTo R (suc k)) to (λ i j h. from h.0 i j h.1 h.2)
      (either_codes (suc k * (s + 1)) (s + k * (s + 1)) 0 (both s (k * (s + 1)) c (options k s c)) nothing (Then R (UpTo R k)) (λ i j. i ≡ j) e first nothing_codes)
    where
      to : (i j : ℕ) → Then R (UpTo R k) i j ⊎ (i ≡ j) → UpTo R (suc k) i j
      to i j (inl h) = (suc h.2.0, omega (arith, h.2.1), (h.0, h.1, h.2.2))
      to i j (inr h) = (0, omega arith, h)

      from : (m i j : ℕ) → m ≤ suc k → Chain R m i j → Then R (UpTo R k) i j ⊎ (i ≡ j)
      from zero i j le h = inr h
      from (suc m) i j le h = inl (h.0, h.1, (m, omega arith, h.2))

abbrev pub choice_total : ℕ → ℕ → ℕ → ℕ
choice_total zero s1 s2 = s1
choice_total (suc m) s1 s2 = suc (s1 + s2)

test_less : (a b : ℕ) → nat_lt a b ≡ true → a < b
test_less a b h = grind (arith, nat_tests)

test_not_less : (a b : ℕ) → nat_lt a b ≡ false → b ≤ a
test_not_less a b h = grind (arith, nat_tests)

not_true : (b : Bool) → IsTrue (not b) → b ≡ false
not_true true h = cc
not_true false h = refl

not_false : (b : Bool) → b ≡ false → IsTrue (not b)
not_false b h = ap not h

module _ (read : (ℕ → Bool) → ℕ → ℕ → Type 0) (file : List ℕ) (moves : List Act) (never : (i j : ℕ) → read no_byte i j → ⊥) where
  fail_codes : (R : Rel) → ((i j : ℕ) → R i j → ⊥) → Codes read file moves 1 fail R
  fail_codes R hopeless = record {
    size = λ b next. refl;
    does = λ b next h.
        move_piece read file moves (Read next no_byte) b next R h.0 (λ e. cc)
        (λ i m j d. absurd (never i j d.1)) (λ i j r. absurd (hopeless i j r));
  }

  move_codes : (v : ℕ → Act) (c : Code) (R : Rel) → ((b next : ℕ) → c b next ≡ v next ∷ []) → ((next : ℕ) → v next ≡ Stop → ⊥) →
      ((next i m j : ℕ) → Does read file (v next) i m j → (m ≡ next) × R i j) → ((next i j : ℕ) → R i j → Does read file (v next) i next j) → Codes read file moves 1 c R
  move_codes v c R is not_end to from = record {
    size = λ b next. ap length (is b next);
    does = λ b next h.
        let at = (subst (HasAt moves b) (is b next) h).0 in
        move_piece read file moves (v next) b next R at (not_end next) (to next) (from next);
  }

  -- a move that asks for what holds at a place
  ask_codes : (x : Assertion) (c : Code) (P : ℕ → Type 0) → ((b next : ℕ) → c b next ≡ Ask x next ∷ []) →
      ((i : ℕ) → IsTrue (holds x file i) → P i) → ((i : ℕ) → P i → IsTrue (holds x file i)) → Codes read file moves 1 c (λ i j. P i × (j ≡ i))
  ask_codes x c P is to from =
      move_codes (λ next. Ask x next) c (λ i j. P i × (j ≡ i)) is (λ next e. cc) (λ next i m j d. (d.0, (to i d.1, d.2))) (λ next i j r. (refl, from i r.0, r.1))

  abbrev Repeats : Rel → ℕ → Option ℕ → Rel
  Repeats R min max i j = (k : ℕ) × (min ≤ k) × AtMost k max × Chain R k i j

  rep_codes : (s : ℕ) (c : Code) (R : Rel) (min : ℕ) (max : Option ℕ) → Codes read file moves s c R → Codes read file moves (rep_size s min max) (rep_code s c min max) (Repeats R min max)
  rep_codes s c R min None p =
      let e : min * s + (s + 1) ≡ (min + 1) * s + 1 = omega arith in
      other_size read file moves (min * s + (s + 1)) ((min + 1) * s + 1) (rep_code s c min None) (Repeats R min None) e
      (same_codes read file moves (min * s + (s + 1)) (rep_code s c min None) (Then read file moves (Chain R min) (λ i j. (k : ℕ) × Chain R k i j)) (Repeats R min None) to from
      (both_codes read file moves (min * s) (s + 1) (copies min s c) (loop s c) (Chain R min) (λ i j. (k : ℕ) × Chain R k i j) (copies_codes read file moves min s c R p) (loop_codes read file moves s c R p)))
    where
      to : (i j : ℕ) → Then read file moves (Chain R min) (λ i j. (k : ℕ) × Chain R k i j) i j → Repeats R min None i j
      to i j h = (min + h.2.0, omega arith, tt, chain_join R min h.2.0 i h.0 j h.1 h.2.1)

      from : (i j : ℕ) → Repeats R min None i j → Then read file moves (Chain R min) (λ i j. (k : ℕ) × Chain R k i j) i j
      from i j h =
          let e : h.0 ≡ min + (h.0 - min) = omega (arith, h.1) in
          let P : ℕ → Type 0 = λ x. Chain R x i j in
          let q = chain_cut R min (h.0 - min) i j (subst P e h.3) in (q.0, q.1, (h.0 - min, q.2))
  rep_codes s c R min (Some max) p = cases (nat_lt max min) refl
    where
      sizes : (a d s m : ℕ) → m ≡ a + d → a * s + d * (s + 1) ≡ m * s + d
      sizes a d s m e = rw e (omega arith)

      to : (i j : ℕ) → min ≤ max → Then read file moves (Chain R min) (UpTo read file moves R (max - min)) i j → Repeats R min (Some max) i j
      to i j le h = (min + h.2.0, omega arith, omega (arith, h.2.1), chain_join R min h.2.0 i h.0 j h.1 h.2.2)

      from : (i j : ℕ) → min ≤ max → Repeats R min (Some max) i j → Then read file moves (Chain R min) (UpTo read file moves R (max - min)) i j
      from i j le h =
          let e : h.0 ≡ min + (h.0 - min) = omega (arith, h.1) in
          let P : ℕ → Type 0 = λ x. Chain R x i j in
          let q = chain_cut R min (h.0 - min) i j (subst P e h.3) in (q.0, q.1, (h.0 - min, omega (arith, h.2), q.2))

      cases : (b : Bool) → nat_lt max min ≡ b → Codes read file moves (if b then 1 else (max * s + (max - min))) (if b then fail else both (min * s) ((max - min) * (s + 1)) (copies min s c) (options (max - min) s c)) (Repeats R min (Some max))
      cases true e = let lt = test_less max min e in fail_codes (Repeats R min (Some max)) (λ i j h. omega (arith, h.1, h.2))
      cases false e =
          let le = test_not_less max min e in
          let f : min * s + (max - min) * (s + 1) ≡ max * s + (max - min) = sizes min (max - min) s max (omega arith) in
          other_size read file moves (min * s + (max - min) * (s + 1)) (max * s + (max - min)) (both (min * s) ((max - min) * (s + 1)) (copies min s c) (options (max - min) s c)) (Repeats R min (Some max)) f
          (same_codes read file moves (min * s + (max - min) * (s + 1)) (both (min * s) ((max - min) * (s + 1)) (copies min s c) (options (max - min) s c)) (Then read file moves (Chain R min) (UpTo read file moves R (max - min))) (Repeats R min (Some max)) (λ i j. to i j le) (λ i j. from i j le)
          (both_codes read file moves (min * s) ((max - min) * (s + 1)) (copies min s c) (options (max - min) s c) (Chain R min) (UpTo read file moves R (max - min)) (copies_codes read file moves min s c R p) (options_codes read file moves (max - min) s c R p)))

  choice_codes : (m s1 s2 total : ℕ) (c1 c2 : Code) (R S : Rel) → (m ≡ 0 → (i j : ℕ) → S i j → ⊥) → total ≡ choice_total m s1 s2 → Codes read file moves s1 c1 R → Codes read file moves s2 c2 S →
      Codes read file moves total (choice_code m s1 s2 c1 c2) (λ i j. R i j ⊎ S i j)
  choice_codes zero s1 s2 total c1 c2 R S hopeless e p q =
      other_size read file moves s1 total c1 (λ i j. R i j ⊎ S i j) (sym e)
      (same_codes read file moves s1 c1 R (λ i j. R i j ⊎ S i j) (λ i j h. inl h) (λ i j h. elim h [ inl a ↦ a | inr b ↦ absurd (hopeless refl i j b) ]) p)
  choice_codes (suc m) s1 s2 total c1 c2 R S hopeless e p q = either_codes read file moves total s1 s2 c1 c2 R S e p q

  no_member : (ts : Trees) → members ts ≡ 0 → (i j : ℕ) → WalkAny read file ts i j → ⊥
  no_member none e i j h = h
  no_member (more u us) e i j h = omega (arith, e)

  total_by : (m m' s x : ℕ) → m ≡ suc m' → choice_size (m + 1) (s + x) ≡ choice_total m s (choice_size m x)
  total_by m m' s x e =
      let f : m + 1 ≡ suc (suc m') = omega arith in
      let g : choice_size (suc (suc m')) (s + x) ≡ choice_total (suc m') s (choice_size (suc m') x) = omega arith in
      ap (λ y. choice_size y (s + x)) f ∙ g ∙ ap (λ y. choice_total y s (choice_size y x)) (sym e)

  pub total : (ts : Trees) (s : ℕ) → choice_size (members ts + 1) (s + sizes_of ts) ≡ choice_total (members ts) s (choice_size (members ts) (sizes_of ts))
  total none s = omega arith
  total (more u us) s = total_by (members us + 1) (members us) s (size_of u + sizes_of us) (omega arith)

  mutual
    pub codes_of : (x : Tree) → Codes read file moves (size_of x) (code_of x) (Walk read file x)
    codes_of t.Empty = nothing_codes read file moves
    codes_of (t.One s) = move_codes (λ next. Read next s) (code_of (t.One s)) (read s) (λ b next. refl) (λ next e. cc) (λ next i m j d. d) (λ next i j r. (refl, r))
    codes_of (t.Seq ts) = codes_all ts
    codes_of (t.Alt ts) = codes_any ts
    codes_of (t.Rep inner min max) = rep_codes (size_of inner) (code_of inner) (Walk read file inner) min max (codes_of inner)
    codes_of t.Start = ask_codes a.Start (code_of t.Start) (λ i. i ≡ 0) (λ b next. refl) (λ i h. grind (arith, nat_tests)) (λ i h. grind (arith, nat_tests))
    codes_of t.End = ask_codes a.End (code_of t.End) (λ i. i ≡ length file) (λ b next. refl) (λ i h. grind (arith, nat_tests)) (λ i h. grind (arith, nat_tests))
    codes_of t.Edge = ask_codes a.Edge (code_of t.Edge) (λ i. is_edge file i ≡ true) (λ b next. refl) (λ i h. h) (λ i h. h)
    codes_of t.NotEdge = ask_codes a.NotEdge (code_of t.NotEdge) (λ i. is_edge file i ≡ false) (λ b next. refl) (λ i h. not_true (is_edge file i) h) (λ i h. not_false (is_edge file i) h)
    codes_of t.WideEdge = ask_codes a.WideEdge (code_of t.WideEdge) (λ i. is_wide_edge file i ≡ true) (λ b next. refl) (λ i h. h) (λ i h. h)
    codes_of t.WideNotEdge = ask_codes a.WideNotEdge (code_of t.WideNotEdge) (λ i. is_wide_edge file i ≡ false) (λ b next. refl) (λ i h. not_true (is_wide_edge file i) h) (λ i h. not_false (is_wide_edge file i) h)

    pub codes_all : (ts : Trees) → Codes read file moves (sizes_of ts) (code_all ts) (WalkAll read file ts)
    codes_all none = nothing_codes read file moves
    codes_all (more u us) = both_codes read file moves (size_of u) (sizes_of us) (code_of u) (code_all us) (Walk read file u) (WalkAll read file us) (codes_of u) (codes_all us)

    pub codes_any : (ts : Trees) → Codes read file moves (choice_size (members ts) (sizes_of ts)) (code_any ts) (WalkAny read file ts)
    codes_any none = fail_codes (λ i j. ⊥) (λ i j h. h)
    codes_any (more u us) =
        choice_codes (members us) (size_of u) (choice_size (members us) (sizes_of us)) (choice_size (members us + 1) (size_of u + sizes_of us)) (code_of u) (code_any us) (Walk read file u) (WalkAny read file us) (no_member us) (total us (size_of u)) (codes_of u) (codes_any us)

module _ (read : (ℕ → Bool) → ℕ → ℕ → Type 0) (file : List ℕ) (never : (i j : ℕ) → read no_byte i j → ⊥) where
  enter_first : (s : ℕ) → enter s 0 s ≡ 0
  enter_first zero = refl
  enter_first (suc s) = refl

  at_end : (moves : List Act) (k e i m j : ℕ) → slice_get moves e ≡ Some Stop → Runs read file moves k e i m j → i ≡ j
  at_end moves zero e i m j at r = r.1
  at_end moves (suc k) e i m j at r =
      let same : r.0 ≡ Stop = cc (at, r.3) in let D : Act → Type 0 = λ x. Does read file x i r.1 r.2 in absurd (subst D same r.4)

  module _ (x : Tree) where
    abbrev moves : List Act
    moves = program_of x

    has : HasAt moves 0 moves
    has = has_all moves []

    piece : Piece read file moves (enter (size_of x) 0 (size_of x)) (size_of x) (Walk read file x)
    piece = (codes_of read file moves never x).does 0 (size_of x) (has_front moves 0 (code_of x 0 (size_of x)) (Stop ∷ []) has)

    last : slice_get moves (size_of x) ≡ Some Stop
    last =
        let h = has_back moves 0 (code_of x 0 (size_of x)) (Stop ∷ []) has in
        let e : 0 + length (code_of x 0 (size_of x)) ≡ size_of x = omega (arith, (codes_of read file moves never x).size 0 (size_of x)) in
        (subst (λ y. HasAt moves y (Stop ∷ [])) e h).0

    pub reaches_from_walk : (i j : ℕ) → Walk read file x i j → Reaches read file moves i j
    reaches_from_walk i j w =
        let r = piece.go i j w in (r.0, size_of x, run_at read file moves r.0 (enter (size_of x) 0 (size_of x)) 0 i i (size_of x) j (enter_first (size_of x)) refl r.1, last)

    pub walk_from_reaches : (i j : ℕ) → Reaches read file moves i j → Walk read file x i j
    walk_from_reaches i j a =
        let r = piece.back a.0 i a.1 j a.3 (run_at read file moves a.0 0 (enter (size_of x) 0 (size_of x)) i i a.1 j (sym (enter_first (size_of x))) refl a.2) in
        let e = at_end moves r.1 (size_of x) r.0 a.1 j last r.4 in
        let W : ℕ → Type 0 = λ y. Walk read file x i y in subst W e r.3

    pub length-program_of : length moves ≡ size_of x + 1
    length-program_of = omega (arith, length-append (code_of x 0 (size_of x)) (Stop ∷ []), (codes_of read file moves never x).size 0 (size_of x))

-- the code of a pattern has its size, wherever it stands
pub length-code_of : (x : Tree) (b next : ℕ) → length (code_of x b next) ≡ size_of x
length-code_of x b next = (codes_of (λ s i j. ⊥) [] [] (λ i j h. h) x).size b next
