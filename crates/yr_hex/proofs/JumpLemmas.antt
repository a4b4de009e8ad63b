-- Jumps: what is read is what the grammar has, where each number goes through `cap` at each digit.
use Rattle.std.proofs.Common.{◌≡◌, ℕ, ◌+◌, ◌*◌, ◌<◌, ◌≤◌, ⊎_elim, ◌∷◌, length, Option, Some, None, if◌then◌else◌, refl, sym, ap, subst, ◌∙◌, arith}
use Rattle.yr_hex.specs.declared.jump.Numbers.{Numbers}
use Rattle.yr_hex.specs.Gaps.{Text, Gap, ends}
use Rattle.yr_hex.specs.Grammar.{Number, ReadsJump, exactly, between, from, any}
use Rattle.yr_hex.specs.Reading.{and_then, sees, after, expect, past_gap, capped, numbers, read_number, read_close, read_last, read_next, read_first, read_numbers}
use Rattle.yr_hex.proofs.GapLemmas.{gap-read, gap-found, gap-last, gap-trans, gap-shorter}
use Rattle.yr_hex.proofs.StepLemmas.{if_false, then-some}
use Rattle.yr_hex.proofs.OutcomeLemmas.{bind-some, some_is, chosen, after-true, after-false, expect-some}
use Rattle.yr_hex.proofs.NumberLemmas.{number-read, number-found, number-begins, Number-shorter}

-- a gap ends where no blank and no comment begins
again : {t u : Text} → Gap t u → past_gap u ≡ u
again g = gap-read (ends (gap-last g))

close-read : (t : Text) {rest : Text} (least : ℕ) (most : Option ℕ) → past_gap t ≡ 93 ∷ rest → read_close least most t ≡ Some (numbers least most, rest)
unfolding read_close expect sees
close-read t least most e = ap (λ (u : Text). and_then (expect 93 u) (λ _ v. Some (numbers least most, v))) e

pub ReadsJump-shorter : {t rest : Text} {least : ℕ} {most : Option ℕ} → ReadsJump t least most rest → length rest < length t
ReadsJump-shorter (exactly g d h) = let a = gap-shorter g in let b = Number-shorter d in let c = gap-shorter h in omega arith
ReadsJump-shorter (between g d h k m l) =
    let a = gap-shorter g in let b = Number-shorter d in let c = gap-shorter h in let e = gap-shorter k in let f = Number-shorter m in let i = gap-shorter l in omega arith
ReadsJump-shorter (from g d h k) = let a = gap-shorter g in let b = Number-shorter d in let c = gap-shorter h in let e = gap-shorter k in omega arith
ReadsJump-shorter (any g h) = let a = gap-shorter g in let b = gap-shorter h in omega arith

close-found : (least : ℕ) (most : Option ℕ) (t : Text) (x : Numbers × Text) → read_close least most t ≡ Some x → Gap t (93 ∷ x.1) × (x.0 ≡ numbers least most)
unfolding read_close
close-found least most t x e =
    let a = bind-some (expect 93 (past_gap t)) (λ _ u. Some (numbers least most, u)) x e in
    let s = some_is (numbers least most, a.0.1) x a.2 in
    let k : past_gap t ≡ 93 ∷ x.1 = expect-some 93 (past_gap t) a.0 a.1 ∙ ap (λ (y : Numbers × Text). 93 ∷ y.1) s in
    (subst (λ (u : Text). Gap t u) k (gap-found t), sym (ap (λ (y : Numbers × Text). y.0) s))

-- what is read of a jump
abbrev pub IsJumpRead : (ℕ → ℕ) → Text → ℕ → Option ℕ → Text → Type 0
IsJumpRead cap t least most rest = (u : Text) × (t ≡ 91 ∷ u) × (read_numbers cap u ≡ Some (numbers (cap least) (capped cap most), rest))

-- a jump whose `[` stands before the text
abbrev pub JumpFound : (ℕ → ℕ) → Text → Numbers × Text → Type 0
JumpFound cap t x = (least : ℕ) × (most : Option ℕ) × ReadsJump (91 ∷ t) least most x.1 × (x.0 ≡ numbers (cap least) (capped cap most))

module _ (cap : ℕ → ℕ) (step : (n d : ℕ) → cap (10 * cap n + d) ≡ cap (10 * n + d)) (small : (n : ℕ) → n ≤ 9 → cap n ≡ n) where
  next-close : {t rest : Text} (least : ℕ) → Gap t (93 ∷ rest) → read_next cap least t ≡ Some (numbers least (Some least), rest)
  unfolding read_next sees after
  next-close least g =
      ap (λ (u : Text). if sees 45 u then read_last cap least (after 45 u) else read_close least (Some least) (after 45 u)) (gap-read g)
      ∙ close-read _ least (Some least) (again g)

  next-last : {t w : Text} (least : ℕ) → Gap t (45 ∷ w) → read_next cap least t ≡ read_last cap least w
  unfolding read_next sees after
  next-last least g = ap (λ (u : Text). if sees 45 u then read_last cap least (after 45 u) else read_close least (Some least) (after 45 u)) (gap-read g)

  last-none : {w rest : Text} (least : ℕ) → Gap w (93 ∷ rest) → read_last cap least w ≡ Some (numbers least None, rest)
  unfolding read_last sees after
  last-none least g = ap (λ (u : Text). if sees 93 u then Some (numbers least None, after 93 u)
      else and_then (read_number cap (after 93 u)) (λ most v. read_close least (Some most) v)) (gap-read g)

  last-some : {w x y rest : Text} {m : ℕ} (least : ℕ) → Gap w x → Number x m y → Gap y (93 ∷ rest) → read_last cap least w ≡ Some (numbers least (Some (cap m)), rest)
  unfolding read_last
  last-some {x = x} {m = m} least g n h =
      let b = number-begins n in
      ap (λ (u : Text). if sees 93 u then Some (numbers least None, after 93 u) else and_then (read_number cap (after 93 u)) (λ most v. read_close least (Some most) v)) (gap-read g)
      ∙ if_false (sees 93 x) _ _ b.1
      ∙ ap (λ (u : Text). and_then (read_number cap u) (λ most v. read_close least (Some most) v)) (after-false 93 x b.1)
      ∙ then-some (read_number cap x) (λ most v. read_close least (Some most) v) _ (number-read cap step small n)
      ∙ close-read _ least (Some (cap m)) (gap-read h)

  at_number : {t u v : Text} {n : ℕ} → Gap t u → Number u n v → read_numbers cap t ≡ read_next cap (cap n) v
  unfolding read_numbers read_first
  at_number {u = u} g n =
      let b = number-begins n in
      ap (λ (x : Text). if sees 45 x then read_close 0 None (after 45 x) else read_first cap (after 45 x)) (gap-read g)
      ∙ if_false (sees 45 u) _ _ b.0
      ∙ ap (λ (x : Text). read_first cap x) (after-false 45 u b.0)
      ∙ then-some (read_number cap u) (read_next cap) _ (number-read cap step small n)

  at_bar : {t w : Text} → Gap t (45 ∷ w) → read_numbers cap t ≡ read_close 0 None w
  unfolding read_numbers sees after
  at_bar g = ap (λ (x : Text). if sees 45 x then read_close 0 None (after 45 x) else read_first cap (after 45 x)) (gap-read g)

  pub jump-read : {t rest : Text} {least : ℕ} {most : Option ℕ} → ReadsJump t least most rest → IsJumpRead cap t least most rest
  jump-read (exactly {n = n} {t = t} g d h) = (t, refl, at_number g d ∙ next-close (cap n) h)
  jump-read (between {n = n} {t = t} g d h k m l) = (t, refl, at_number g d ∙ next-last (cap n) h ∙ last-some (cap n) k m l)
  jump-read (from {n = n} {t = t} g d h k) = (t, refl, at_number g d ∙ next-last (cap n) h ∙ last-none (cap n) k)
  jump-read (any {t = t} {rest = rest} g h) =
      (t, refl, at_bar g ∙ close-read _ 0 None (gap-read h) ∙ ap (λ (m : ℕ). Some (numbers m None, rest)) (sym (small 0 (omega arith))))

  -- ---- what is read the grammar has

  module _ (t u v : Text) (n : ℕ) (g : Gap t u) (d : Number u n v) where
    last-found : (w : Text) → Gap v (45 ∷ w) → (x : Numbers × Text) → read_last cap (cap n) w ≡ Some x → JumpFound cap t x
    unfolding read_last
    last-found w h x e = ⊎_elim
        (λ c. let s = some_is (numbers (cap n) None, after 93 (past_gap w)) x c.1 in
        let k : past_gap w ≡ 93 ∷ x.1 = after-true 93 (past_gap w) c.0 ∙ ap (λ (y : Numbers × Text). 93 ∷ y.1) s in
        (n, None, from g d h (subst (λ (y : Text). Gap w y) k (gap-found w)), sym (ap (λ (y : Numbers × Text). y.0) s)))
        (λ c. let a = bind-some (read_number cap (after 93 (past_gap w))) (λ most y. read_close (cap n) (Some most) y) x c.1 in
        let m = number-found cap step small (after 93 (past_gap w)) a.0 a.1 in
        let k = close-found (cap n) (Some a.0.0) a.0.1 x a.2 in
        let to : Gap w (after 93 (past_gap w)) = subst (λ (y : Text). Gap w y) (sym (after-false 93 (past_gap w) c.0)) (gap-found w) in
        (n, Some m.0, between g d h to m.1 k.0, k.1 ∙ ap (λ (y : ℕ). numbers (cap n) (Some y)) m.2))
        (chosen (sees 93 (past_gap w)) (Some (numbers (cap n) None, after 93 (past_gap w)))
        (and_then (read_number cap (after 93 (past_gap w))) (λ most y. read_close (cap n) (Some most) y)) (Some x) e)

    next-found : (x : Numbers × Text) → read_next cap (cap n) v ≡ Some x → JumpFound cap t x
    unfolding read_next
    next-found x e = ⊎_elim
        (λ c. last-found (after 45 (past_gap v)) (subst (λ (y : Text). Gap v y) (after-true 45 (past_gap v) c.0) (gap-found v)) x c.1)
        (λ c. let k = close-found (cap n) (Some (cap n)) (after 45 (past_gap v)) x c.1 in
        let to : Gap v (after 45 (past_gap v)) = subst (λ (y : Text). Gap v y) (sym (after-false 45 (past_gap v) c.0)) (gap-found v) in
        (n, Some n, exactly g d (gap-trans to k.0), k.1))
        (chosen (sees 45 (past_gap v)) (read_last cap (cap n) (after 45 (past_gap v))) (read_close (cap n) (Some (cap n)) (after 45 (past_gap v))) (Some x) e)

  first-found : (t u : Text) → Gap t u → (x : Numbers × Text) → read_first cap u ≡ Some x → JumpFound cap t x
  unfolding read_first
  first-found t u g x e =
      let a = bind-some (read_number cap u) (read_next cap) x e in
      let d = number-found cap step small u a.0 a.1 in
      next-found t u a.0.1 d.0 g d.1 x (subst (λ (m : ℕ). read_next cap m a.0.1 ≡ Some x) d.2 a.2)

  pub jump-found : (t : Text) (x : Numbers × Text) → read_numbers cap t ≡ Some x → JumpFound cap t x
  unfolding read_numbers
  jump-found t x e = ⊎_elim
      (λ c. let k = close-found 0 None (after 45 (past_gap t)) x c.1 in (
        0,
        None,
        any (subst (λ (y : Text). Gap t y) (after-true 45 (past_gap t) c.0) (gap-found t)) k.0,
        k.1 ∙ ap (λ (m : ℕ). numbers m None) (sym (small 0 (omega arith))),
      ))
      (λ c. first-found t (after 45 (past_gap t)) (subst (λ (y : Text). Gap t y) (sym (after-false 45 (past_gap t) c.0)) (gap-found t)) x c.1)
      (chosen (sees 45 (past_gap t)) (read_close 0 None (after 45 (past_gap t))) (read_first cap (after 45 (past_gap t))) (Some x) e)
