-- The walk keeps the longest suffix of the text that is a node's word. Words and texts are reversed here:
-- a suffix of k bytes is `take k`, and one more byte is `∷`.
use Rattle.std.proofs.Common.{◌≡◌, ◌≢◌, ℕ, zero, suc, ◌+◌, ◌<◌, ◌≤◌, inl, inr, List, [], ◌∷◌, ◌++◌, length, take, length-take, take_all, Option, Some, None, refl, sym, ap, ◌∙◌, subst, arith}
use Rattle.std.specs.Option.{option_and_then}
use Rattle.std.specs.List.{flat_map}
use Rattle.std.proofs.lemmas.List.{take-take}
use Rattle.std.proofs.lemmas.Bool.{cases_lt}
use Rattle.yr_rows.specs.Words.{times}
use Rattle.yr_rows.specs.Walk.{Asks, Walks, IsChain}

-- w turned over, before the reversed word
abbrev pub onto : List ℕ → List ℕ → List ℕ
onto t [] = t
onto t (b ∷ w) = onto (b ∷ t) w

-- the reversed text begins with the reversed word
abbrev pub Begins : List ℕ → List ℕ → Type 0
Begins r a = (length a ≤ length r) × (take (length a) r ≡ a)

pub times-append : (i : ℕ) (xs ys : List ℕ) → times i (xs ++ ys) ≡ times i xs + times i ys
times-append i [] ys = omega arith
times-append i (x ∷ xs) ys = omega (arith, times-append i xs ys)

module _ (edge : ℕ → ℕ → Option ℕ) where
  -- the node of a reversed word
  abbrev pub node_of : List ℕ → Option ℕ
  node_of [] = Some 0
  node_of (b ∷ r) = option_and_then (λ n. edge n b) (node_of r)

  -- a word's front is a word
  pub front_node : (o : Option ℕ) (b m : ℕ) → option_and_then (λ n. edge n b) o ≡ Some m → (n : ℕ) × (o ≡ Some n)
  front_node None b m e = absurd (cc e)
  front_node (Some n) b m e = (n, refl)

  pub node_step : (r : List ℕ) (b n : ℕ) → node_of r ≡ Some n → node_of (b ∷ r) ≡ edge n b
  node_step r b n e = ap (option_and_then (λ n. edge n b)) e

  -- the k bytes at the end are the longest that are the word of a node, n
  pub record Longest (t : List ℕ) (n k : ℕ) : Type 0 where
    pub within : k ≤ length t
    pub is : node_of (take k t) ≡ Some n
    pub most : (j m : ℕ) → j ≤ length t → node_of (take j t) ≡ Some m → j ≤ k

module _ (edge : ℕ → ℕ → Option ℕ) (link : ℕ → ℕ) where
  -- what the links have to be
  pub record Links : Type 0 where
    pub root : (r : List ℕ) → node_of edge r ≡ Some 0 → length r ≡ 0
    pub links : (n : ℕ) (r : List ℕ) → n ≢ 0 → node_of edge r ≡ Some n → (k : ℕ) × (k < length r) × (node_of edge (take k r) ≡ Some (link n))
        × ((j m : ℕ) → j < length r → node_of edge (take j r) ≡ Some m → j ≤ k)

  module _ (good : Links) (t : List ℕ) (b : ℕ) where
    pub ask : (q n k x : ℕ) → k ≤ length t → node_of edge (take k t) ≡ Some n → ((j m : ℕ) → j ≤ length t → node_of edge (b ∷ take j t) ≡ Some m → j ≤ k)
        → Asks edge link q n b x → (k' : ℕ) × Longest edge (b ∷ t) x k'
    ask zero n k x within is most a = absurd a
    ask (suc q) n k x within is most (inl a) = (
      suc k,
      record {
        within = omega arith;
        is = node_step edge (take k t) b n is ∙ a.1;
        most = most';
      },
    ) where
      most' : (j m : ℕ) → j ≤ length (b ∷ t) → node_of edge (take j (b ∷ t)) ≡ Some m → j ≤ suc k
      most' zero m h e = omega arith
      most' (suc j) m h e = omega (arith, most j m (omega (arith, h)) e)
    ask (suc q) n k x within is most (inr (inl a)) = (
      0,
      record {
        within = omega arith;
        is = ap Some (sym a.3);
        most = most';
      },
    ) where
      none : k ≡ 0
      none = omega (arith, good.root (take k t) (is ∙ ap Some a.2), length-take k t)

      most' : (j m : ℕ) → j ≤ length (b ∷ t) → node_of edge (take j (b ∷ t)) ≡ Some m → j ≤ 0
      most' zero m h e = omega arith
      most' (suc j) m h e =
          let le = most j m (omega (arith, h)) e in
          let same : j ≡ k = omega (arith, none, le) in
          let bad : edge n b ≡ Some m = sym (node_step edge (take k t) b n is) ∙ ap (λ i. node_of edge (b ∷ take i t)) (sym same) ∙ e in
          absurd (cc (bad, a.1))
    ask (suc q) n k x within is most (inr (inr a)) = ask q (link n) s.0 x (omega (arith, s.1, shorter)) (ap (node_of edge) (sym (take-take s.0 k t (omega (arith, s.1, shorter)))) ∙ s.2) most' a.2 where
      shorter : length (take k t) ≡ k
      shorter = omega (arith, length-take k t)

      s : (i : ℕ) × (i < length (take k t)) × (node_of edge (take i (take k t)) ≡ Some (link n)) × ((j m : ℕ) → j < length (take k t) → node_of edge (take j (take k t)) ≡ Some m → j ≤ i)
      s = good.links n (take k t) a.1 is

      most' : (j m : ℕ) → j ≤ length t → node_of edge (b ∷ take j t) ≡ Some m → j ≤ s.0
      most' j m h e =
          let le = most j m h e in
          elim (cases_lt j k) [
            | inl lt ↦ let f = front_node edge (node_of edge (take j t)) b m e in
                s.3 j f.0 (omega (arith, lt, shorter)) (ap (node_of edge) (take-take j k t le) ∙ f.1)
            | inr ge ↦
                let same : j ≡ k = omega (arith, ge, le) in
                let bad : edge n b ≡ Some m = sym (node_step edge (take k t) b n is) ∙ ap (λ i. node_of edge (b ∷ take i t)) (sym same) ∙ e in
                absurd (cc (bad, a.0))
          ]

  -- one more byte
  pub longest_step : Links → (t : List ℕ) (b n k q x : ℕ) → Longest edge t n k → Asks edge link q n b x → (k' : ℕ) × Longest edge (b ∷ t) x k'
  longest_step good t b n k q x l a = ask good t b q n k x l.within l.is (λ j m h e. let f = front_node edge (node_of edge (take j t)) b m e in l.most j f.0 h f.1) a

  pub longest_after : Links → (text t : List ℕ) (n k m : ℕ) → Longest edge t n k → Walks edge link n text m → (k' : ℕ) × Longest edge (onto t text) m k'
  longest_after good [] t n k m l w = (k, subst (λ i. Longest edge t i k) w l)
  longest_after good (b ∷ text) t n k m l w = let s = longest_step good t b n k w.0 w.1 l w.2 in longest_after good text (b ∷ t) w.1 s.0 m s.1 w.3

  pub longest_none : Longest edge [] 0 0
  longest_none = record { within = omega arith; is = refl; most = λ j m h e. h }

  pub begins_same : (r a : List ℕ) → r ≡ a → Begins r a
  begins_same r a e = subst (λ x. Begins r x) e (omega arith, take_all (length r) r (omega arith))

  same_length : (r a : List ℕ) → Begins r a → length r ≤ length a → r ≡ a
  same_length r a b le =
      let len : length a ≡ length r = omega (arith, b.0, le) in
      sym (take_all (length a) r (omega (arith, len))) ∙ b.1

  pub shorter_front : (r a : List ℕ) (k : ℕ) → k ≤ length r → Begins (take k r) a → Begins r a
  shorter_front r a k le b =
      let len : length a ≤ k = omega (arith, b.0, length-take k r) in
      (omega (arith, len, le), sym (take-take (length a) k r len) ∙ b.1)

  pub longer_front : (r a : List ℕ) (k : ℕ) → k ≤ length r → length a ≤ k → Begins r a → Begins (take k r) a
  longer_front r a k le len b = (omega (arith, len, le, length-take k r), take-take (length a) k r len ∙ b.1)

  module _ (good : Links) (own : ℕ → List ℕ) (i : ℕ) (a : List ℕ) (at : (n : ℕ) × (node_of edge a ≡ Some n))
      (has : (n : ℕ) (r : List ℕ) → node_of edge r ≡ Some n → r ≡ a → times i (own n) ≡ 1)
      (has_not : (n : ℕ) (r : List ℕ) → node_of edge r ≡ Some n → r ≢ a → times i (own n) ≡ 0) where
    abbrev Counts : List ℕ → List ℕ → Type 0
    Counts r ms = (Begins r a → times i (flat_map own ms) ≡ 1) × ((Begins r a → ⊥) → times i (flat_map own ms) ≡ 0)

    pub chain_counts : (ms : List ℕ) (n : ℕ) (r : List ℕ) → node_of edge r ≡ Some n → IsChain link n ms → Counts r ms
    chain_counts [] n r e c = absurd c
    chain_counts (m ∷ ms) n r e c = elim c.1 [
      | inl end ↦
          let len : length r ≡ 0 = good.root r (e ∙ ap Some end.0) in
          let total : times i (flat_map own (m ∷ ms)) ≡ times i (own n) =
          times-append i (own m) (flat_map own ms) ∙ omega (arith, ap (λ x. times i (own x)) c.0, ap (λ l. times i (flat_map own l)) end.1) in (
            λ b. total ∙ has n r e (same_length r a b (omega (arith, len))),
            λ b. total ∙ has_not n r e (λ same. b (begins_same r a same)),
          )
      | inr on ↦
          let s = good.links n r on.0 e in
          let rest = chain_counts ms (link n) (take s.0 r) s.2 on.1 in
          let total : times i (flat_map own (m ∷ ms)) ≡ times i (own n) + times i (flat_map own ms) =
          times-append i (own m) (flat_map own ms) ∙ ap (λ x. times i (own x) + times i (flat_map own ms)) c.0 in
          let le : s.0 ≤ length r = omega (arith, s.1) in (
            λ b. elim (cases_lt (length a) (length r)) [
              | inl lt ↦
                  let fits : length a ≤ s.0 = s.3 (length a) at.0 lt (ap (node_of edge) b.1 ∙ at.1) in
                  let other : r ≢ a = λ same. let l : length r ≡ length a = ap length same in omega (arith, l, lt) in
                  omega (arith, total, has_not n r e other, rest.0 (longer_front r a s.0 le fits b))
              | inr ge ↦
                  let no_more : Begins (take s.0 r) a → ⊥ = λ x. omega (arith, x.0, length-take s.0 r, s.1, ge) in
                  omega (arith, total, has n r e (same_length r a b ge), rest.1 no_more)
            ],
            λ b. omega (arith, total, has_not n r e (λ same. b (begins_same r a same)), rest.1 (λ x. b (shorter_front r a s.0 le x))),
          )
    ]
