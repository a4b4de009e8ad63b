-- Edges found by a binary search, and the nodes that a step asks.
use Rattle.std.proofs.Common.{◌≡◌, ◌≢◌, ℕ, zero, suc, ◌+◌, ◌<◌, ◌≤◌, inl, inr, List, [], ◌∷◌, length, get_or, drop, length-take, Bool, true, false, cond, ◌==◌, Option, Some, None, refl, sym, ap, subst, arith}
use Rattle.std.proofs.lemmas.Bool.Decides.{nat_tests}
use Rattle.std.specs.Prelude.{IfSome}
use Rattle.yr_rows.specs.declared.nodes.EdgeRow.{EdgeRow}
use Rattle.yr_rows.specs.declared.nodes.NodeRow.{NodeRow}
use Rattle.yr_rows.specs.Walk.{Asks}
use Rattle.yr_rows.specs.Nodes.{target_in, edges_at, Each}
use Rattle.yr_automaton.proofs.GoodLemmas.{Rising}
use Rattle.yr_automaton.proofs.ListLemmas.{get_some, segment_at}

abbrev pub no_edge : EdgeRow
no_edge = record { byte = 0; target = 0 }

abbrev pub no_node : NodeRow
no_node = record { first_edge = 0; edges = 0; failure = 0; depth = 0; first_output = 0; outputs = 0 }

rise_tail : (e : EdgeRow) (es : List EdgeRow) → Rising (e ∷ es) → Rising es
rise_tail e es rise i j d lt le = rise (suc i) (suc j) d (omega (arith, lt)) (omega (arith, le))

pub target_found : (es : List EdgeRow) (k b : ℕ) → Rising es → k < length es → (get_or es k no_edge).byte ≡ b → target_in es b ≡ Some (get_or es k no_edge).target
target_found [] k b rise lt at = absurd (omega arith)
target_found (e ∷ es) zero b rise lt at = grind (arith, nat_tests)
target_found (e ∷ es) (suc k) b rise lt at =
    let less = rise 0 (suc k) no_edge (omega arith) lt in
    let rest = target_found es k b (rise_tail e es rise) (omega arith) at in
    grind (arith, nat_tests, less, rest)

pub target_none : (es : List EdgeRow) (b : ℕ) → ((k : ℕ) → k < length es → (get_or es k no_edge).byte ≢ b) → target_in es b ≡ None
target_none [] b none = refl
target_none (e ∷ es) b none =
    let here = none 0 (omega arith) in
    let rest = target_none es b (λ k lt. none (suc k) (omega (arith, lt))) in
    grind (arith, nat_tests, here, rest)

module _ (edge : ℕ → ℕ → Option ℕ) (link : ℕ → ℕ) (b : ℕ) where
  -- j nodes from n on have no edge with the byte, and at is the next
  abbrev pub Asked : ℕ → ℕ → ℕ → Type 0
  Asked j n at = (k m : ℕ) → Asks edge link k at b m → Asks edge link (j + k) n b m

  pub asked_more : (j n at : ℕ) → Asked j n at → edge at b ≡ None → at ≢ 0 → Asked (j + 1) n (link at)
  asked_more j n at asked none other k m a =
      let e : j + suc k ≡ (j + 1) + k = omega arith in
      subst (λ i. Asks edge link i n b m) e (asked (suc k) m (inr (inr (none, other, a))))

  pub asked_target : (j n at m : ℕ) → Asked j n at → edge at b ≡ Some m → Asks edge link (j + 1) n b m
  asked_target j n at m asked found = asked 1 m (inl (refl, found))

  pub asked_root : (j n at : ℕ) → Asked j n at → edge at b ≡ None → at ≡ 0 → Asks edge link (j + 1) n b 0
  asked_root j n at asked none root = asked 1 0 (inr (inl (refl, none, root, refl)))

  pub asked_none : (n : ℕ) → Asked 0 n n
  asked_none n k m a = let e : k ≡ 0 + k = omega arith in subst (λ i. Asks edge link i n b m) e a

-- an edge that is found stands in the list
pub target_at : (es : List EdgeRow) (b m : ℕ) → target_in es b ≡ Some m → (k : ℕ) × (k < length es) × ((get_or es k no_edge).target ≡ m) × ((get_or es k no_edge).byte ≡ b)
target_at [] b m e = absurd (cc e)
target_at (x ∷ es) b m e = go (x.byte == b) refl (target_at es b m) e where
  go : (t : Bool) → (x.byte == b) ≡ t → (target_in es b ≡ Some m → (k : ℕ) × (k < length es) × ((get_or es k no_edge).target ≡ m) × ((get_or es k no_edge).byte ≡ b)) → cond t (Some x.target) (target_in es b) ≡ Some m
      → (k : ℕ) × (k < length (x ∷ es)) × ((get_or (x ∷ es) k no_edge).target ≡ m) × ((get_or (x ∷ es) k no_edge).byte ≡ b)
  go true t rest f = (0, omega arith, cc f, grind (arith, nat_tests))
  go false t rest f = let r = rest f in (suc r.0, omega (arith, r.1), r.2, r.3)

-- where an edge leads, each edge leads inside the bound
pub target_inside : (bound : ℕ) (edges : List EdgeRow) (row : NodeRow) (b m : ℕ) → Each (λ _ e. e.target < bound) edges
    → row.first_edge + row.edges ≤ length edges → target_in (edges_at edges row) b ≡ Some m → m < bound
target_inside bound edges row b m all inside e =
    let r = target_at (edges_at edges row) b m e in
    let lt : r.0 < row.edges = omega (arith, r.1, length-take row.edges (drop row.first_edge edges)) in
    let same : get_or (edges_at edges row) r.0 no_edge ≡ get_or edges (row.first_edge + r.0) no_edge = segment_at row.edges row.first_edge edges r.0 no_edge lt in
    let k = row.first_edge + r.0 in
    omega (arith, all k (get_or edges k no_edge) (get_some edges k no_edge (omega (arith, lt, inside))), ap (λ (x : EdgeRow). x.target) same, r.2)

pub target_within : (bound : ℕ) (edges : List EdgeRow) (row : NodeRow) (b : ℕ) → Each (λ _ e. e.target < bound) edges → row.first_edge + row.edges ≤ length edges
    → (o : Option ℕ) → o ≡ target_in (edges_at edges row) b → IfSome o (λ m. m < bound)
target_within bound edges row b all inside None e = tt
target_within bound edges row b all inside (Some m) e = target_inside bound edges row b m all inside (sym e)
