-- Members of lists, block by block.
use Rattle.std.proofs.Common.{◌≡◌, ◌≢◌, get_or, get_or-set_same, get_or-set_other, ℕ, suc, ◌+◌, ◌*◌, ◌-◌, ◌<◌, ◌≤◌, ⊎_elim, List, [], ◌∷◌, length, take, drop, Some, refl, sym, ap, ◌∙◌, subst, arith, Bool, true, false, ◌&&◌}
use Rattle.std.specs.Prelude.{slice_get, nat_lt}
use Rattle.std.specs.List.{list_all}
use Rattle.std.proofs.Math.ListN.{set}
use Rattle.std.proofs.lemmas.Bool.{cases_order, lt-ltb, le-ltb}
use Rattle.std.proofs.lemmas.Bool.Decides.{leb_tells}
use Rattle.std.proofs.lemmas.Option.{slice_get_within}
use Rattle.yr_verifier.specs.Blocks.{AreAtMost, AreBelow}
use Rattle.yr_verifier.proofs.RangeLemmas.{range_place, range_length}
use Rattle.yr_verifier.proofs.CodeNameLemmas.{all_but}

all_from : {A : Type 0} (p : A → Bool) (xs : List A) → ((k : ℕ) (x : A) → slice_get xs k ≡ Some x → p x ≡ true) → list_all p xs ≡ true
all_from p [] h = refl
all_from p (x ∷ xs) h = ap (λ b. b && list_all p xs) (h 0 x refl) ∙ all_from p xs (λ k. h (suc k))

module _ (members : List ℕ) where
  -- one more member
  pub below_more : (bound from k m : ℕ) → AreBelow members bound from k → slice_get members k ≡ Some m → m < bound → AreBelow members bound from (k + 1)
  below_more bound from k m below at lt j n low high there =
      ⊎_elim (λ e. let same : n ≡ m = cc (there, ap (slice_get members) e, at) in omega (arith, same, lt))
      (⊎_elim (λ less. below j n low less there) (λ gt. absurd (omega (arith, gt, high)))) (cases_order j k)

  -- a whole block more
  pub below_block : (bound from k most size : ℕ) → AreBelow members bound from k → AreAtMost members most k (k + size) → most < bound → AreBelow members bound from (k + size)
  below_block bound from k most size below block lt j n low high there =
      ⊎_elim (λ t. let le = block j n t.1 high there in omega (arith, le, lt)) (λ t. below j n low t.1 there) (leb_tells k j)

  pub at_most_more : (most more from k m : ℕ) → AreAtMost members most from k → slice_get members k ≡ Some m → most ≤ more → m ≤ more → AreAtMost members more from (k + 1)
  at_most_more most more from k m before at le here j n low high there =
      ⊎_elim (λ e. let same : n ≡ m = cc (there, ap (slice_get members) e, at) in omega (arith, same, here))
      (⊎_elim (λ less. let old = before j n low less there in omega (arith, old, le)) (λ gt. absurd (omega (arith, gt, high)))) (cases_order j k)

  -- a row that is not there is no member
  pub at_most_past : (most from k : ℕ) → AreAtMost members most from k → length members ≤ k → AreAtMost members most from (k + 1)
  at_most_past most from k before past j n low high there =
      ⊎_elim (λ e. absurd (omega (arith, slice_get_within members j n there, e, past)))
      (⊎_elim (λ less. before j n low less there) (λ gt. absurd (omega (arith, gt, high)))) (cases_order j k)

  module _ (bound first rows : ℕ) (inside : first + rows ≤ length members) where
    pub below_all : AreBelow members bound first (first + rows) → list_all (λ m. nat_lt m bound) (take rows (drop first members)) ≡ true
    below_all below = all_from (λ m. nat_lt m bound) (take rows (drop first members)) (λ k m at.
        let lt : k < rows = omega (arith, slice_get_within (take rows (drop first members)) k m at, range_length first rows members inside) in
        lt-ltb m bound (below (first + k) m (omega arith) (omega (arith, lt)) (sym (range_place k first rows members lt) ∙ at)))

    pub below_not : (k m : ℕ) → first ≤ k → k < first + rows → slice_get members k ≡ Some m → bound ≤ m → list_all (λ m. nat_lt m bound) (take rows (drop first members)) ≡ false
    below_not k m low high at le =
        let place : first + (k - first) ≡ k = omega (arith, low) in
        all_but (λ n. nat_lt n bound) (take rows (drop first members)) (k - first) m
        (range_place (k - first) first rows members (omega (arith, low, high)) ∙ ap (slice_get members) place ∙ at) (le-ltb m bound le)

  -- the greatest member of one block more
  pub blocks_more : (most : List ℕ) (size b new : ℕ) → b < length most → ((i : ℕ) → i < b → AreAtMost members (get_or most i 0) (i * size) (i * size + size))
      → AreAtMost members new (b * size) (b * size + size) → (i : ℕ) → i < b + 1 → AreAtMost members (get_or (set most b new) i 0) (i * size) (i * size + size)
  blocks_more most size b new inside before here i lt =
      ⊎_elim (λ e. subst (λ j. AreAtMost members (get_or (set most b new) j 0) (j * size) (j * size + size)) (sym e)
      (subst (λ v. AreAtMost members v (b * size) (b * size + size)) (sym (get_or-set_same most b new 0 inside)) here))
      (⊎_elim (λ less. let other : i ≢ b = omega arith in subst (λ v. AreAtMost members v (i * size) (i * size + size)) (sym (get_or-set_other most b i new 0 other)) (before i less))
      (λ gt. absurd (omega (arith, gt, lt)))) (cases_order i b)
