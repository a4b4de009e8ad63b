-- What clear lanes say of the places that they stand for.
use Rattle.std.proofs.Common.{◌≡◌, ℕ, ◌+◌, ◌-◌, ◌<◌, ◌≤◌, List, Bool, true, get_or, subst, arith, bit_or, ⊎_elim}
use Rattle.std.proofs.lemmas.Bool.{cases_lt}
use Rattle.std.proofs.lemmas.Nat.{le_or_l, le_or_r}
use Rattle.yr_lanes.specs.Lanes.{HasLanes, IsClear}
use Rattle.yr_lanes.specs.Passing.{Passes}

-- where all of `a | b` is clear, both are
pub IsClear-either : {v : List ℕ} (a b : List ℕ) → HasLanes v (λ k. bit_or (get_or a k 0) (get_or b k 0)) → IsClear v 16 → IsClear a 16 × IsClear b 16
IsClear-either a b h clear = (
  λ k l. omega (arith, h.each k l, clear k l, le_or_l (get_or a k 0) (get_or b k 0)),
  λ k l. omega (arith, h.each k l, clear k l, le_or_r (get_or a k 0) (get_or b k 0)),
)

module _ (passes : ℕ → Bool) where
  -- clear lanes stand for places that are passed
  pub Passes-clear : (at count : ℕ) (v : List ℕ) → ((k : ℕ) → k < 16 → get_or v k 0 ≡ 0 → passes (at + k) ≡ true) → count ≤ 16 → IsClear v count
      → Passes passes at (at + count)
  Passes-clear at count v told small clear k low high =
      let same : at + (k - at) ≡ k = omega arith in
      subst (λ j. passes j ≡ true) same (told (k - at) (omega arith) (clear (k - at) (omega arith)))

  -- one run of places after another
  pub Passes-then : (from mid to : ℕ) → Passes passes from mid → Passes passes mid to → Passes passes from to
  Passes-then from mid to front back k low high = ⊎_elim (λ l. front k low l) (λ l. back k l high) (cases_lt k mid)

  -- four blocks of 16 places
  pub Passes-four : (at : ℕ) → Passes passes at (at + 16) → Passes passes (at + 16) (at + 16 + 16) → Passes passes (at + 32) (at + 32 + 16)
      → Passes passes (at + 48) (at + 48 + 16) → Passes passes at (at + 64)
  Passes-four at first second third fourth k low high =
      ⊎_elim (λ l. first k low l) (λ l.
      ⊎_elim (λ m. second k l (omega arith)) (λ m.
      ⊎_elim (λ n. third k m (omega arith)) (λ n. fourth k n (omega arith))
      (cases_lt k (at + 48))) (cases_lt k (at + 32))) (cases_lt k (at + 16))
