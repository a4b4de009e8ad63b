-- Spans lie in the file; sequences in sequences, and what is repeated once; the bytes of a literal.
use Rattle.std.proofs.Common.{◌≡◌, ℕ, zero, suc, ◌+◌, ◌<◌, ◌≤◌, inl, inr, Some, List, [], ◌∷◌, ◌++◌, length, refl, sym, subst, arith}
use Rattle.std.specs.Prelude.{Bool, slice_index}
use Rattle.yr_pattern.specs.Tree.{Tree, Trees, Empty, One, Seq, Alt, Rep, Start, End, Edge, NotEdge, WideEdge, WideNotEdge, none, more, join}
use Rattle.yr_pattern.specs.Spans.{Chain, Walk, WalkAll, WalkAny, Forwards, Spans}
use Rattle.yr_pattern.specs.Counts.{StandsAt}

module _ (file : List ℕ) where
  chain_within : (R : ℕ → ℕ → Type 0) → ((i j : ℕ) → i ≤ length file → R i j → (i ≤ j) × (j ≤ length file))
      → (c i j : ℕ) → i ≤ length file → Chain R c i j → (i ≤ j) × (j ≤ length file)
  chain_within R step zero i j b h = (omega arith, omega arith)
  chain_within R step (suc c) i j b h =
      let p = step i h.0 b h.1 in
      let q = chain_within R step c h.0 j p.1 h.2 in
      (omega arith, q.1)

  mutual
    pub spans_within : (t : Tree) (i j : ℕ) → i ≤ length file → Spans t file i j → (i ≤ j) × (j ≤ length file)
    spans_within Empty i j b h = (omega arith, omega arith)
    spans_within (One bytes) i j b h = (omega arith, omega arith)
    spans_within (Seq ts) i j b h = all_within ts i j b h
    spans_within (Alt ts) i j b h = any_within ts i j b h
    spans_within (Rep inner min max) i j b h = chain_within (Spans inner file) (λ k l c g. spans_within inner k l c g) h.0 i j b h.3
    spans_within Start i j b h = (omega arith, omega arith)
    spans_within End i j b h = (omega arith, omega arith)
    spans_within Edge i j b h = (omega (arith, h.1), omega (arith, h.1))
    spans_within NotEdge i j b h = (omega (arith, h.1), omega (arith, h.1))
    spans_within WideEdge i j b h = (omega (arith, h.1), omega (arith, h.1))
    spans_within WideNotEdge i j b h = (omega (arith, h.1), omega (arith, h.1))

    all_within : (ts : Trees) (i j : ℕ) → i ≤ length file → WalkAll (Forwards file) file ts i j → (i ≤ j) × (j ≤ length file)
    all_within none i j b h = (omega arith, omega arith)
    all_within (more t ts) i j b h =
        let p = spans_within t i h.0 b h.1 in
        let q = all_within ts h.0 j p.1 h.2 in
        (omega arith, q.1)

    any_within : (ts : Trees) (i j : ℕ) → i ≤ length file → WalkAny (Forwards file) file ts i j → (i ≤ j) × (j ≤ length file)
    any_within none i j b h = absurd h
    any_within (more t ts) i j b (inl h) = spans_within t i j b h
    any_within (more t ts) i j b (inr h) = any_within ts i j b h

module _ (read : (ℕ → Bool) → ℕ → ℕ → Type 0) (file : List ℕ) where
  -- a sequence cut in two, and put together
  pub walk_cut : (ts us : Trees) (i j : ℕ) → WalkAll read file (join ts us) i j → (k : ℕ) × WalkAll read file ts i k × WalkAll read file us k j
  walk_cut none us i j h = (i, refl, h)
  walk_cut (more t ts) us i j h = let r = walk_cut ts us h.0 j h.2 in (r.0, (h.0, h.1, r.1), r.2)

  pub walk_join : (ts us : Trees) (i k j : ℕ) → WalkAll read file ts i k → WalkAll read file us k j → WalkAll read file (join ts us) i j
  walk_join none us i k j h g = let P : ℕ → Type 0 = λ x. WalkAll read file us x j in subst P (sym h) g
  walk_join (more t ts) us i k j h g = (h.0, h.1, walk_join ts us h.0 k j h.2 g)

  -- a sequence in a sequence, and its members in its place
  pub walk_flat : (front us back : Trees) (i j : ℕ) → WalkAll read file (join front (more (Seq us) back)) i j → WalkAll read file (join front (join us back)) i j
  walk_flat front us back i j h =
      let c = walk_cut front (more (Seq us) back) i j h in
      walk_join front (join us back) i c.0 j c.1 (walk_join us back c.0 c.2.0 j c.2.1 c.2.2)

  pub walk_nested : (front us back : Trees) (i j : ℕ) → WalkAll read file (join front (join us back)) i j → WalkAll read file (join front (more (Seq us) back)) i j
  walk_nested front us back i j h =
      let c = walk_cut front (join us back) i j h in
      walk_join front (more (Seq us) back) i c.0 j c.1 (walk_cut us back c.0 j c.2)

  pub walk_once : (t : Tree) (i j : ℕ) → Walk read file (Rep t 1 (Some 1)) i j → Walk read file t i j
  walk_once t i j h =
      let P : ℕ → Type 0 = λ c. Chain (Walk read file t) c i j in
      let one : h.0 ≡ 1 = omega (arith, h.1, h.2) in
      let r : (k : ℕ) × Walk read file t i k × (k ≡ j) = subst P one h.3 in
      let Q : ℕ → Type 0 = λ k. Walk read file t i k in
      subst Q r.2 r.1

  pub walk_as_once : (t : Tree) (i j : ℕ) → Walk read file t i j → Walk read file (Rep t 1 (Some 1)) i j
  walk_as_once t i j h = (1, omega arith, omega arith, (j, h, refl))

module _ (same : ℕ → ℕ → Type 0) (file : List ℕ) where
  -- bytes cut in two, and put together
  pub stands_cut : (xs ys : List ℕ) (at : ℕ) → StandsAt same file at (xs ++ ys) → StandsAt same file at xs × StandsAt same file (at + length xs) ys
  stands_cut [] ys at h = let P : ℕ → Type 0 = λ k. StandsAt same file k ys in (tt, subst P (omega arith) h)
  stands_cut (x ∷ xs) ys at h =
      let r = stands_cut xs ys (at + 1) h.2 in
      let P : ℕ → Type 0 = λ k. StandsAt same file k ys in
      let e : at + 1 + length xs ≡ at + length (x ∷ xs) = omega arith in
      ((h.0, h.1, r.0), subst P e r.1)

  pub stands_join : (xs ys : List ℕ) (at : ℕ) → StandsAt same file at xs → StandsAt same file (at + length xs) ys → StandsAt same file at (xs ++ ys)
  stands_join [] ys at h g = let P : ℕ → Type 0 = λ k. StandsAt same file k ys in subst P (omega arith) g
  stands_join (x ∷ xs) ys at h g =
      let P : ℕ → Type 0 = λ k. StandsAt same file k ys in
      let e : at + length (x ∷ xs) ≡ at + 1 + length xs = omega arith in
      (h.0, h.1, stands_join xs ys (at + 1) h.2 (subst P e g))

  -- each byte at its place
  pub stands_at : (xs : List ℕ) (at k : ℕ) → StandsAt same file at xs → k < length xs → (at + k < length file) × same (slice_index file (at + k)) (slice_index xs k)
  stands_at [] at k h b = absurd (omega arith)
  stands_at (x ∷ xs) at zero h b =
      let P : ℕ → Type 0 = λ n. (n < length file) × same (slice_index file n) x in
      let e : at ≡ at + 0 = omega arith in
      subst P e (h.0, h.1)
  stands_at (x ∷ xs) at (suc k) h b =
      let r = stands_at xs (at + 1) k h.2 (omega arith) in
      let P : ℕ → Type 0 = λ n. (n < length file) × same (slice_index file n) (slice_index xs k) in
      let e : at + 1 + k ≡ at + suc k = omega arith in
      subst P e r

  pub stands_from : (xs : List ℕ) (at : ℕ) → ((k : ℕ) → k < length xs → (at + k < length file) × same (slice_index file (at + k)) (slice_index xs k)) → StandsAt same file at xs
  stands_from [] at all = tt
  stands_from (x ∷ xs) at all =
      let P : ℕ → Type 0 = λ n. (n < length file) × same (slice_index file n) x in
      let e : at + 0 ≡ at = omega arith in
      let here : (at < length file) × same (slice_index file at) x = subst P e (all 0 (omega arith)) in
      (here.0, here.1, stands_from xs (at + 1) (λ k b. next k b))
    where
      next : (k : ℕ) → k < length xs → (at + 1 + k < length file) × same (slice_index file (at + 1 + k)) (slice_index xs k)
      next k b =
          let P : ℕ → Type 0 = λ n. (n < length file) × same (slice_index file n) (slice_index xs k) in
          let e : at + suc k ≡ at + 1 + k = omega arith in
          subst P e (all (suc k) (omega arith))
