-- What the operations on vectors of 16 bytes hold at each lane.
use Rattle.std.proofs.Common.{◌≡◌, ◌≢◌, ℕ, ◌+◌, ◌%◌, ◌^◌, ◌<◌, ◌≤◌, List, Bool, true, false, not, cond, eqb, leb, ◌&&◌, length, get_or, map, replicate, refl, sym, ap, ◌∙◌, arith, w8, bit_and}
use Rattle.std.specs.Simd.Lanes.{zip2, sel_l, mask_l, top}
use Rattle.std.specs.List.{prefix_len}
use Rattle.std.proofs.lemmas.Simd.{length-zip2, get_or-zip2, get_or-replicate, length-sel_l, get_or-sel_l, length-swz_l, get_or-swz_l_below, swz_l, SwzOk, SwzOk-from_below, Each1-from_get_or, bitmask_splat, leading_from_mask_l, trailing_mask_l}
use Rattle.std.proofs.lemmas.List.Sums.{prefix_len_passes, prefix_len-le-length}
use Rattle.std.proofs.lemmas.Bool.{eqb-true, leb-true, false≢true}
use Rattle.std.proofs.lemmas.List.{length-map}
use Rattle.std.proofs.Math.ListN.{get_or-map}
use Rattle.yr_base.specs.Bytes.{lowered}
use lib.Count.{count_trailing_zeros}
use Rattle.yr_lanes.specs.Lanes.{HasLanes, IsClear}

-- an operator on two vectors
pub HasLanes-zip2 : (f : ℕ → ℕ → ℕ) (a b : List ℕ) → length a ≡ 16 → length b ≡ 16 → HasLanes (zip2 f a b) (λ k. f (get_or a k 0) (get_or b k 0))
HasLanes-zip2 f a b p q = record {
  long = length-zip2 f a b (p ∙ sym q) ∙ p;
  each = λ k l. get_or-zip2 f a b k 0 0 0 (omega arith) (omega arith);
}

-- an operator on a vector and a splat
pub HasLanes-splat : (f : ℕ → ℕ → ℕ) (a : List ℕ) (x : ℕ) → length a ≡ 16 → HasLanes (zip2 f a (replicate 16 x)) (λ k. f (get_or a k 0) x)
HasLanes-splat f a x p =
    let h = HasLanes-zip2 f a (replicate 16 x) p refl in
    record { long = h.long; each = λ k l. h.each k l ∙ ap (f (get_or a k 0)) (get_or-replicate 16 k x 0 l) }

-- a choice of two splats by the comparison with a splat
pub HasLanes-select : (t : ℕ → ℕ → Bool) (a : List ℕ) (x y z : ℕ) → length a ≡ 16
    → HasLanes (sel_l (zip2 t a (replicate 16 x)) (replicate 16 y) (replicate 16 z)) (λ k. cond (t (get_or a k 0) x) y z)
HasLanes-select t a x y z p =
    let long : length (zip2 t a (replicate 16 x)) ≡ 16 = length-zip2 t a (replicate 16 x) p ∙ p in
    record {
      long = length-sel_l _ (replicate 16 y) (replicate 16 z) long long ∙ long;
      each = λ k l.
          get_or-sel_l _ (replicate 16 y) (replicate 16 z) k 0 (omega arith) l l
          ∙ (λ i. cond ((get_or-zip2 t a (replicate 16 x) k 0 0 false (omega arith) l ∙ ap (t (get_or a k 0)) (get_or-replicate 16 k x 0 l)) i) (get_or-replicate 16 k y 0 l i) (get_or-replicate 16 k z 0 l i));
    }

-- a look-up in a table of 16 bytes, at places below 16
module _ (table js : List ℕ) (f : ℕ → ℕ) (h : HasLanes js f) (small : (k : ℕ) → k < 16 → f k < 16) where
  pub SwzOk-halves : SwzOk w8 16 16 0 js
  SwzOk-halves =
      let long = h.long in
      SwzOk-from_below w8 16 1 16 0 js refl (omega arith) (Each1-from_get_or (λ j. j < 16) js 0 (λ i l. omega (arith, h.each i (omega arith), small i (omega arith))))

  pub HasLanes-look_up : HasLanes (swz_l w8 16 table 0 js) (λ k. get_or table (f k) 0)
  HasLanes-look_up =
      let long = h.long in
      record {
        long = length-swz_l w8 16 table 0 js ∙ long;
        each = λ k l.
            let e = h.each k l in
            get_or-swz_l_below w8 16 table 0 js k (omega arith) (omega (arith, small k l)) ∙ ap (λ j. get_or table j 0) (omega arith);
      }

-- a lane is not 0
abbrev pub is_lit : ℕ → Bool
is_lit x = not (eqb x 0)

-- the mask of the lanes that are not 0, as it is made
abbrev pub lit_bits : List ℕ → ℕ
lit_bits v = mask_l (map (top 7) (zip2 (λ a b. cond (not (eqb a b)) 255 0) v (replicate 16 0))) % 2 ^ 64

lit_bits-is : (v : List ℕ) → length v ≡ 16 → lit_bits v ≡ mask_l (map is_lit v)
lit_bits-is v long = bitmask_splat w8 (λ a b. not (eqb a b)) v 16 0 long (omega arith)

unlit : (x : ℕ) (b : Bool) → eqb x 0 ≡ b → not (not b) ≡ true → x ≡ 0
unlit x true e h = eqb-true x 0 e
unlit x false e h = absurd (false≢true h)

-- the lanes before the first that is not 0
before_lit : (v : List ℕ) (k : ℕ) → k < prefix_len (λ x. not (is_lit x)) v → get_or v k 0 ≡ 0
before_lit v k l = unlit (get_or v k 0) _ refl (prefix_len_passes (λ x. not (is_lit x)) v k 0 l)

-- an empty mask
pub IsClear-none : (v : List ℕ) → length v ≡ 16 → lit_bits v ≡ 0 → IsClear v 16
IsClear-none v long none k l =
    let e : prefix_len (λ x. not (is_lit x)) v ≡ length v = leading_from_mask_l is_lit v (sym (lit_bits-is v long) ∙ none) in
    before_lit v k (omega arith)

-- the lowest bit of a mask
lowest_lit : (v : List ℕ) → length v ≡ 16 → lit_bits v ≢ 0 → count_trailing_zeros 64 (lit_bits v) ≡ prefix_len (λ x. not (is_lit x)) v
lowest_lit v long some =
    let e = lit_bits-is v long in
    ap (count_trailing_zeros 64) e ∙ trailing_mask_l is_lit 64 v (omega arith) (omega arith)

pub lowest_lit-le : (v : List ℕ) → length v ≡ 16 → lit_bits v ≢ 0 → count_trailing_zeros 64 (lit_bits v) ≤ 16
lowest_lit-le v long some = omega (arith, lowest_lit v long some, prefix_len-le-length (λ x. not (is_lit x)) v)

pub IsClear-below : (v : List ℕ) → length v ≡ 16 → lit_bits v ≢ 0 → IsClear v (count_trailing_zeros 64 (lit_bits v))
IsClear-below v long some k l = before_lit v k (omega (arith, lowest_lit v long some))

-- a capital letter moved to its small one, by the tests as they are made
lower_lane : (x : ℕ) (above below : Bool) → leb 65 x ≡ above → leb x 90 ≡ below
    → cond (top 7 (bit_and (cond above 255 0) (cond below 255 0))) ((x + 32) % 256) x ≡ cond (above && below) (x + 32) x
lower_lane x true true a b = let small = leb-true x 90 b in omega arith
lower_lane x true false a b = refl
lower_lane x false true a b = refl
lower_lane x false false a b = refl

abbrev at_most : ℕ → ℕ → ℕ
at_most a b = cond (leb a b) 255 0

pub HasLanes-lower : (v : List ℕ) → length v ≡ 16
    → HasLanes (sel_l (map (top 7) (zip2 bit_and (zip2 at_most (replicate 16 65) v) (zip2 at_most v (replicate 16 90)))) (zip2 (λ a b. (a + b) % 256) v (replicate 16 32)) v) (λ k. lowered (get_or v k 0))
HasLanes-lower v long =
    let above = HasLanes-zip2 at_most (replicate 16 65) v refl long in
    let below = HasLanes-splat at_most v 90 long in
    let both = HasLanes-zip2 bit_and _ _ above.long below.long in
    let moved = HasLanes-splat (λ a b. (a + b) % 256) v 32 long in
    let tests = zip2 bit_and (zip2 at_most (replicate 16 65) v) (zip2 at_most v (replicate 16 90)) in
    let many : length (map (top 7) tests) ≡ 16 = length-map tests (top 7) ∙ both.long in
    record {
      long = length-sel_l (map (top 7) tests) _ v (many ∙ sym moved.long) (many ∙ sym long) ∙ many;
      each = λ k l.
          let x = get_or v k 0 in
          let first : get_or (zip2 at_most (replicate 16 65) v) k 0 ≡ at_most 65 x = above.each k l ∙ ap (λ t. at_most t x) (get_or-replicate 16 k 65 0 l) in
          let test : get_or (map (top 7) tests) k false ≡ top 7 (bit_and (at_most 65 x) (at_most x 90)) =
          get_or-map (top 7) tests k 0 ∙ ap (top 7) (both.each k l ∙ (λ i. bit_and (first i) (below.each k l i))) in
          let added = moved.each k l in
          get_or-sel_l (map (top 7) tests) (zip2 (λ a b. (a + b) % 256) v (replicate 16 32)) v k 0 (omega arith) (omega (arith, moved.long)) (omega arith)
          ∙ (λ i. cond (test i) (added i) x) ∙ lower_lane x _ _ refl refl;
    }
