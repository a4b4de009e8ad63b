-- A pattern turned round, read downwards, spans the same places.
use Rattle.std.proofs.Common.{◌≡◌, ℕ, zero, suc, ◌+◌, inl, inr, List, refl, sym, ap, ◌∙◌, subst, arith}
use Rattle.yr_base.specs.Places.{is_edge, is_wide_edge}
use Rattle.yr_pattern.specs.Tree.{Tree, Trees, Empty, One, Seq, Alt, Rep, Start, End, Edge, NotEdge, WideEdge, WideNotEdge, none, more}
use Rattle.yr_pattern.specs.Sizes.{members, size_of, sizes_of, choice_size, rep_size}
use Rattle.yr_pattern.specs.Reverse.{reverse_tree, reverse_onto, reverse_each}
use Rattle.yr_pattern.specs.Spans.{Chain, Walk, WalkAll, WalkAny, Forwards, Backwards}

-- a chain read from its other end
chain_end : (R : ℕ → ℕ → Type 0) (n i k j : ℕ) → Chain R n i k → R k j → Chain R (suc n) i j
chain_end R zero i k j c r = let P : ℕ → Type 0 = λ x. R x j in (j, subst P (sym c) r, refl)
chain_end R (suc n) i k j c r = (c.0, c.1, chain_end R n c.0 k j c.2 r)

-- each step the other way
turn : (R S : ℕ → ℕ → Type 0) → ((i j : ℕ) → R i j → S j i) → (n i j : ℕ) → Chain R n i j → Chain S n j i
turn R S flip zero i j c = sym c
turn R S flip (suc n) i j c = chain_end S n j c.0 i (turn R S flip n c.0 j c.2) (flip i c.0 c.1)

module _ (f : List ℕ) where
  abbrev Up : Tree → ℕ → ℕ → Type 0
  Up = Walk (Forwards f) f

  abbrev Down : Tree → ℕ → ℕ → Type 0
  Down = Walk (Backwards f) f

  abbrev UpAll : Trees → ℕ → ℕ → Type 0
  UpAll = WalkAll (Forwards f) f

  abbrev DownAll : Trees → ℕ → ℕ → Type 0
  DownAll = WalkAll (Backwards f) f

  mutual
    pub down_from_up : (x : Tree) (i j : ℕ) → Up x i j → Down (reverse_tree x) j i
    down_from_up Empty i j h = sym h
    down_from_up (One s) i j h = h
    down_from_up (Seq ts) i j h = all_down ts none i j i h refl
    down_from_up (Alt ts) i j h = any_down ts i j h
    down_from_up (Rep inner min max) i j h = (h.0, h.1, h.2, turn (Up inner) (Down (reverse_tree inner)) (λ a b r. down_from_up inner a b r) h.0 i j h.3)
    down_from_up Start i j h = (h.1 ∙ h.0, sym h.1)
    down_from_up End i j h = (h.1 ∙ h.0, sym h.1)
    down_from_up Edge i j h = (ap (is_edge f) h.1 ∙ h.0, sym h.1)
    down_from_up NotEdge i j h = (ap (is_edge f) h.1 ∙ h.0, sym h.1)
    down_from_up WideEdge i j h = (ap (is_wide_edge f) h.1 ∙ h.0, sym h.1)
    down_from_up WideNotEdge i j h = (ap (is_wide_edge f) h.1 ∙ h.0, sym h.1)

    -- the members up from i to j, and then the others down from i to o
    all_down : (ts after : Trees) (i j o : ℕ) → UpAll ts i j → DownAll after i o → DownAll (reverse_onto ts after) j o
    all_down none after i j o h g = let P : ℕ → Type 0 = λ x. DownAll after x o in subst P h g
    all_down (more t ts) after i j o h g = all_down ts (more (reverse_tree t) after) h.0 j o h.2 (i, down_from_up t i h.0 h.1, g)

    any_down : (ts : Trees) (i j : ℕ) → WalkAny (Forwards f) f ts i j → WalkAny (Backwards f) f (reverse_each ts) j i
    any_down none i j h = h
    any_down (more t ts) i j (inl h) = inl (down_from_up t i j h)
    any_down (more t ts) i j (inr h) = inr (any_down ts i j h)

  mutual
    pub up_from_down : (x : Tree) (i j : ℕ) → Down (reverse_tree x) j i → Up x i j
    up_from_down Empty i j h = sym h
    up_from_down (One s) i j h = h
    up_from_down (Seq ts) i j h = let r = all_up ts none j i h in let P : ℕ → Type 0 = λ x. UpAll ts x j in subst P r.2 r.1
    up_from_down (Alt ts) i j h = any_up ts i j h
    up_from_down (Rep inner min max) i j h = (h.0, h.1, h.2, turn (Down (reverse_tree inner)) (Up inner) (λ a b r. up_from_down inner b a r) h.0 j i h.3)
    up_from_down Start i j h = (h.1 ∙ h.0, sym h.1)
    up_from_down End i j h = (h.1 ∙ h.0, sym h.1)
    up_from_down Edge i j h = (ap (is_edge f) h.1 ∙ h.0, sym h.1)
    up_from_down NotEdge i j h = (ap (is_edge f) h.1 ∙ h.0, sym h.1)
    up_from_down WideEdge i j h = (ap (is_wide_edge f) h.1 ∙ h.0, sym h.1)
    up_from_down WideNotEdge i j h = (ap (is_wide_edge f) h.1 ∙ h.0, sym h.1)

    all_up : (ts after : Trees) (j o : ℕ) → DownAll (reverse_onto ts after) j o → (i : ℕ) × UpAll ts i j × DownAll after i o
    all_up none after j o h = (j, refl, h)
    all_up (more t ts) after j o h =
        let r = all_up ts (more (reverse_tree t) after) j o h in (r.2.0, (r.0, up_from_down t r.2.0 r.0 r.2.1, r.1), r.2.2)

    any_up : (ts : Trees) (i j : ℕ) → WalkAny (Backwards f) f (reverse_each ts) j i → WalkAny (Forwards f) f ts i j
    any_up none i j h = h
    any_up (more t ts) i j (inl h) = inl (up_from_down t i j h)
    any_up (more t ts) i j (inr h) = inr (any_up ts i j h)

members-reverse_each : (ts : Trees) → members (reverse_each ts) ≡ members ts
members-reverse_each none = refl
members-reverse_each (more t ts) = omega (arith, members-reverse_each ts)

mutual
  pub size_of-reverse_tree : (x : Tree) → size_of (reverse_tree x) ≡ size_of x
  size_of-reverse_tree Empty = refl
  size_of-reverse_tree (One s) = refl
  size_of-reverse_tree (Seq ts) = omega (arith, sizes_of-reverse_onto ts none)
  size_of-reverse_tree (Alt ts) = ap (λ n. choice_size n (sizes_of (reverse_each ts))) (members-reverse_each ts) ∙ ap (choice_size (members ts)) (sizes_of-reverse_each ts)
  size_of-reverse_tree (Rep inner min max) = ap (λ s. rep_size s min max) (size_of-reverse_tree inner)
  size_of-reverse_tree Start = refl
  size_of-reverse_tree End = refl
  size_of-reverse_tree Edge = refl
  size_of-reverse_tree NotEdge = refl
  size_of-reverse_tree WideEdge = refl
  size_of-reverse_tree WideNotEdge = refl

  sizes_of-reverse_onto : (ts after : Trees) → sizes_of (reverse_onto ts after) ≡ sizes_of ts + sizes_of after
  sizes_of-reverse_onto none after = omega arith
  sizes_of-reverse_onto (more t ts) after = omega (arith, sizes_of-reverse_onto ts (more (reverse_tree t) after), size_of-reverse_tree t)

  sizes_of-reverse_each : (ts : Trees) → sizes_of (reverse_each ts) ≡ sizes_of ts
  sizes_of-reverse_each none = refl
  sizes_of-reverse_each (more t ts) = omega (arith, sizes_of-reverse_each ts, size_of-reverse_tree t)
