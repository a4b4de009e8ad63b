-- What walks cost.
use Rattle.std.proofs.Common.{◌≡◌, ℕ, ◌+◌, ◌-◌, ◌*◌, ◌<◌, ◌≤◌, Bool, true, false, nat_lt, refl, sym, ap, ◌∙◌, arith}
use Rattle.std.specs.Prelude.{if◌then◌else◌}
use Rattle.std.proofs.lemmas.Bool.{ltb-true}
use Rattle.std.proofs.Math.Nat.{mul_comm, mul-add, mul-le-mul_left}
use Rattle.yr_hits.specs.Sweeps.{IsPaid}

module _ (each top per count : ℕ) where
  pub paid_start : (place before : ℕ) → place ≤ top → IsPaid each top per count place count before before
  paid_start place before le = let less = mul-le-mul_left each le in omega (arith, less)

  -- one place down, and so many hits
  pub paid_more : (old new left below before now after : ℕ) → IsPaid each top per count old left before now → old ≡ new + 1 → below ≤ left
      → after ≤ now + each + per * (left - below) → IsPaid each top per count new below before after
  paid_more old new left below before now after paid down le cost =
      let place : each * old ≡ each * new + each * 1 = ap (λ k. each * k) down ∙ mul-add each new 1 in
      let parts : (left - below) + below ≡ left = omega (arith, le) in
      let hits : per * left ≡ per * (left - below) + per * below = sym (ap (λ k. per * k) parts) ∙ mul-add per (left - below) below in
      omega (arith, paid, place, hits, cost)

  pub paid_all : (place left before now : ℕ) → IsPaid each top per count place left before now → now ≤ before + each * top + per * count
  paid_all place left before now paid = omega (arith, paid)

-- what is paid for a hit, where there is one
pub paid_if : (per below left : ℕ) → below ≤ left → (if (nat_lt below left) then per else 0) ≤ per * (left - below)
paid_if per below left le = at (nat_lt below left) (λ t. ltb-true below left t)
  where
    at : (b : Bool) → (b ≡ true → below < left) → (if b then per else 0) ≤ per * (left - below)
    at true lt =
        let one : 1 ≤ left - below = let h = lt refl in omega (arith, h) in
        let product = mul-le-mul_left per one in
        omega (arith, product)
    at false lt = omega arith

-- ---- hits one after another

-- the hits from the k-th on are paid, each by one step less than its cost
abbrev pub PaidEach : (cost count k before now : ℕ) → Type 0
PaidEach cost count k before now = now + cost * k + count ≤ before + cost * count + k

module _ (cost count : ℕ) where
  pub each_start : (k before : ℕ) → k ≡ count → PaidEach cost count k before before
  each_start k before is = let same : cost * k ≡ cost * count = ap (λ n. cost * n) is in omega (arith, same, is)

  pub each_more : (old new before now after : ℕ) → PaidEach cost count old before now → old ≡ new + 1 → after + 1 ≤ now + cost → PaidEach cost count new before after
  each_more old new before now after paid down less =
      let place : cost * old ≡ cost * new + cost * 1 = ap (λ k. cost * k) down ∙ mul-add cost new 1 in
      omega (arith, paid, place, less, down)

  pub each_all : (k before now : ℕ) → PaidEach cost count k before now → k ≤ count → now + count ≤ before + cost * count + k
  each_all k before now paid le = omega (arith, paid)

  -- all of them, and those that are left are not asked
  pub each_done : (k before now : ℕ) → PaidEach cost count k before now → 1 ≤ cost → now + count ≤ before + cost * count
  each_done k before now paid some =
      let product = mul-le-mul_left k some in
      let turned = mul_comm cost k in
      omega (arith, paid, product, turned)
