-- Tests and ranges.
use Rattle.std.proofs.Common.{◌≡◌, ℕ, ◌<◌, Bool, true, false, if◌then◌else◌, refl, ap, ◌∙◌, arith}
use Rattle.std.specs.Prelude.{◌&&◌, nat_lt, nat_le}
use Rattle.std.proofs.lemmas.Bool.{and_parts, leb-true, lt-ltb}
use Rattle.yr_pattern.specs.Set.{either}
use Rattle.yr_regex.specs.Escapes.{between}

pub by_test : {A : Type 0} (b : Bool) (x y : A) (P : A → Type 0) → (b ≡ true → P x) → (b ≡ false → P y) → P (if b then x else y)
by_test true x y P f g = f refl
by_test false x y P f g = g refl

pub bool_cases : (P : Type 0) (b : Bool) → (b ≡ true → P) → (b ≡ false → P) → P
bool_cases P true f g = f refl
bool_cases P false f g = g refl

absorbed : (b c : Bool) → (c ≡ true → b ≡ true) → (b && c) ≡ c
absorbed true c f = refl
absorbed false true f = f refl
absorbed false false f = refl

pub between-small : (n from to b : ℕ) → to < n → (nat_lt b n && between from to b) ≡ between from to b
between-small n from to b h = absorbed (nat_lt b n) (between from to b) (λ e. let p = and_parts (nat_le from b) (nat_le b to) e in let l = leb-true b to p.1 in lt-ltb b n (omega arith))

pub either-same : {a a' b b' : ℕ → Bool} → a ≡ a' → b ≡ b' → ◌≡◌ {A = ℕ → Bool} (either a b) (either a' b')
either-same {a = a} {a' = a'} {b = b} {b' = b'} e f = ap (λ (x : ℕ → Bool). either x b) e ∙ ap (λ (x : ℕ → Bool). either a' x) f
