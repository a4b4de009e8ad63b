-- The rows of an automaton of words are not many more than the bytes of the words.
use Rattle.std.proofs.Common.{◌≡◌, ◌≢◌, ℕ, zero, suc, ◌+◌, ◌-◌, ◌<◌, ◌≤◌, ◌⊎◌, inl, inr, ⊎_elim, List, [], ◌∷◌, ◌++◌, length, map, take, drop, All, Contains, Option, Some, None, option_map, slice_get, get_or, refl, sym, ap, ◌∙◌, subst, arith}
use Rattle.std.specs.Option.{option_and_then, option_map_or}
use Rattle.std.proofs.lemmas.Bool.{cases_lt}
use Rattle.std.proofs.lemmas.List.{length-map, length-append}
use Rattle.std.proofs.lemmas.List.Elements.{Contains-append_left, Contains-append_right, All-contains_itself, All-weaker, All-map}
use Rattle.std.proofs.lemmas.Option.{same_Some, none-some, slice_get-map, slice_get_within, slice_get_cases}
use Rattle.yr_rows.specs.Nodes.{edges_at, edges_end, end_before, IsEdge, IsWellformedNode, AreWellformed}
use Rattle.yr_rows.specs.Words.{times, path, IsWordOf, BeginsWith, HasOneParent, HasOneOutput, HasWords, HasOnlyPrefixes}
use Rattle.yr_rows.specs.declared.nodes.NodeRow.{NodeRow}
use Rattle.yr_rows.specs.declared.nodes.EdgeRow.{EdgeRow}
use Rattle.yr_splits.specs.Sizes.{total_length}
use Rattle.yr_splits.proofs.TallyLemmas.{each_there, each_once}
use Rattle.yr_splits.proofs.ReportLemmas.{place_in, times_there, there_times}
use Rattle.yr_splits.proofs.HitLemmas.{each_all}

module _ {X : Type 0} where
  contains_here : (x y : X) (xs : List X) → x ≡ y → Contains (x ∷ xs) y
  contains_here x y xs e = (0, omega arith, e)

  contains_later : (y x : X) (xs : List X) → Contains xs x → Contains (y ∷ xs) x
  contains_later y x xs h = (suc h.0, omega (arith, h.1), h.2)

  contains_cases : (y : X) (xs : List X) (x : X) → Contains (y ∷ xs) x → (y ≡ x) ⊎ Contains xs x
  contains_cases y xs x h = at h.0 h.1 h.2
    where
      at : (k : ℕ) → k < length (y ∷ xs) → get_or (y ∷ xs) k x ≡ x → (y ≡ x) ⊎ Contains xs x
      at zero lt e = inl e
      at (suc k) lt e = inr (k, omega (arith, lt), e)

  -- an element of a part
  taken_at : (xs : List X) (count k : ℕ) (x : X) → k < count → slice_get xs k ≡ Some x → slice_get (take count xs) k ≡ Some x
  taken_at [] count k x b h = absurd (none-some x h)
  taken_at (y ∷ xs) zero k x b h = absurd (omega (arith, b))
  taken_at (y ∷ xs) (suc count) zero x b h = h
  taken_at (y ∷ xs) (suc count) (suc k) x b h = taken_at xs count k x (omega (arith, b)) h

  dropped_at : (xs : List X) (first k : ℕ) → slice_get (drop first xs) k ≡ slice_get xs (first + k)
  dropped_at xs zero k = ap (λ n. slice_get xs n) (omega arith)
  dropped_at [] (suc first) k = refl
  dropped_at (y ∷ xs) (suc first) k =
      let e : suc first + k ≡ suc (first + k) = omega arith in dropped_at xs first k ∙ sym (ap (λ n. slice_get (y ∷ xs) n) e)

  part_at : (xs : List X) (first count k : ℕ) (x : X) → k < count → slice_get xs (first + k) ≡ Some x → slice_get (take count (drop first xs)) k ≡ Some x
  part_at xs first count k x b h = taken_at (drop first xs) count k x b (dropped_at xs first k ∙ h)

module _ (edge : ℕ → ℕ → Option ℕ) where
  -- the nodes along the path of a word, but for the one where it begins
  abbrev trail : ℕ → List ℕ → List ℕ
  trail n [] = []
  trail n (b ∷ word) = option_map_or (λ m. m ∷ trail m word) (edge n b) []

  trail_short : (n : ℕ) (word : List ℕ) → length (trail n word) ≤ length word
  trail_short n [] = omega arith
  trail_short n (b ∷ word) = at (edge n b) (λ m. trail_short m word)
    where
      at : (o : Option ℕ) → ((m : ℕ) → length (trail m word) ≤ length word) → length (option_map_or (λ m. m ∷ trail m word) o []) ≤ suc (length word)
      at None later = omega arith
      at (Some m) later = let rest = later m in omega (arith, rest)

  -- where a path leads, if its word begins another one and is not empty
  trail_has : (word back : List ℕ) (b n m : ℕ) → path edge n (b ∷ word) ≡ Some m → Contains (trail n (b ∷ (word ++ back))) m
  trail_has [] back b n m h = at (edge n b) h
    where
      at : (o : Option ℕ) → option_and_then (λ x. path edge x []) o ≡ Some m → Contains (option_map_or (λ x. x ∷ trail x back) o []) m
      at None g = absurd (none-some m g)
      at (Some x) g = contains_here x m (trail x back) (same_Some x m g)
  trail_has (c ∷ word) back b n m h = at (edge n b) h (λ x g. trail_has word back c x m g)
    where
      at : (o : Option ℕ) → option_and_then (λ x. path edge x (c ∷ word)) o ≡ Some m
          → ((x : ℕ) → path edge x (c ∷ word) ≡ Some m → Contains (trail x (c ∷ (word ++ back))) m)
          → Contains (option_map_or (λ x. x ∷ trail x (c ∷ (word ++ back))) o []) m
      at None g later = absurd (none-some m g)
      at (Some x) g later = contains_later x m (trail x (c ∷ (word ++ back))) (later x g)

  -- the trails of all words
  abbrev trails : List (List ℕ) → List ℕ
  trails [] = []
  trails (word ∷ words) = trail 0 word ++ trails words

  trails_short : (words : List (List ℕ)) → length (trails words) ≤ total_length words
  trails_short [] = omega arith
  trails_short (word ∷ words) =
      let one = trail_short 0 word in
      let rest = trails_short words in
      let all = length-append (trail 0 word) (trails words) in omega (arith, one, rest, all)

  trails_have : (words : List (List ℕ)) (whole : List ℕ) (m : ℕ) → Contains words whole → Contains (trail 0 whole) m → Contains (trails words) m
  trails_have [] whole m c h = absurd (omega (arith, c.1))
  trails_have (word ∷ words) whole m c h =
      ⊎_elim
      (λ e. Contains-append_left (trail 0 word) (trails words) m (subst (λ (w : List ℕ). Contains (trail 0 w) m) (sym e) h))
      (λ d. Contains-append_right (trail 0 word) (trails words) m (trails_have words whole m d h))
      (contains_cases word words whole c)

  -- so each node but 0 stands in the trails
  each_node : (nodes : ℕ) (words : List (List ℕ)) → HasWords edge nodes → HasOnlyPrefixes edge words → (n : ℕ) → n ≢ 0 → n < nodes → Contains (trails words) n
  each_node nodes words named prefixes n ne b =
      let w = named n b in
      let p = prefixes n w.0 ne w.1 in
      begun w.0 p.0 w.1 p.1 p.2
    where
      begun : (word whole : List ℕ) → IsWordOf edge word n → Contains words whole → BeginsWith whole word → Contains (trails words) n
      begun [] whole is c g = absurd (ne (sym (same_Some 0 n is)))
      begun (b ∷ word) whole is c g =
          trails_have words whole n c (subst (λ (w : List ℕ). Contains (trail 0 w) n) g.1 (trail_has word g.0 b 0 n is))

  -- there are at most as many other nodes as bytes
  pub few_nodes : (nodes : ℕ) (words : List (List ℕ)) → HasWords edge nodes → HasOnlyPrefixes edge words → nodes ≤ total_length words + 1
  few_nodes nodes words named prefixes =
      let short = trails_short words in
      let all = each_there (0 ∷ trails words) nodes (λ i b. times_there i (0 ∷ trails words) (there i b)) in
      omega (arith, short, all)
    where
      there : (i : ℕ) → i < nodes → Contains (0 ∷ trails words) i
      there zero b = contains_here 0 0 (trails words) refl
      there (suc i) b = contains_later 0 (suc i) (trails words) (each_node nodes words named prefixes (suc i) (λ e. omega (arith, e)) b)

module _ (nodes : List NodeRow) (edges : List EdgeRow) (outputs : List ℕ) (some : 0 < length nodes) (good : AreWellformed nodes edges outputs) where
  -- an edge before the end of the nodes before n is one of them
  edge_of_some : (n k : ℕ) → k < end_before edges_end nodes n → (m : ℕ) × (row : NodeRow) × (slice_get nodes m ≡ Some row) × (row.first_edge ≤ k) × (k < row.first_edge + row.edges)
  edge_of_some zero k h = absurd (omega (arith, h))
  edge_of_some (suc n) k h = at (slice_get nodes n) refl (λ b. edge_of_some n k b)
    where
      at : (o : Option NodeRow) → slice_get nodes n ≡ o
          → (k < end_before edges_end nodes n → (m : ℕ) × (row : NodeRow) × (slice_get nodes m ≡ Some row) × (row.first_edge ≤ k) × (k < row.first_edge + row.edges))
          → (m : ℕ) × (row : NodeRow) × (slice_get nodes m ≡ Some row) × (row.first_edge ≤ k) × (k < row.first_edge + row.edges)
      at None e later = let z : end_before edges_end nodes (suc n) ≡ 0 = ap (λ o. option_map_or edges_end o 0) e in absurd (omega (arith, h, z))
      at (Some row) e later =
          let end : end_before edges_end nodes (suc n) ≡ row.first_edge + row.edges = ap (λ o. option_map_or edges_end o 0) e in
          let w : IsWellformedNode nodes edges outputs n row = good.each_node n row e in
          let follow = w.edges_follow in
          ⊎_elim (λ b. later (omega (arith, b, follow)))
          (λ b. (n, row, e, b, omega (arith, h, end))) (cases_lt k row.first_edge)

  last_end : end_before edges_end nodes (length nodes) ≡ length edges
  last_end = at (length nodes) refl
    where
      at : (n : ℕ) → length nodes ≡ n → end_before edges_end nodes n ≡ length edges
      at zero e = absurd (omega (arith, some, e))
      at (suc n) e =
          ⊎_elim (λ last. ap (λ o. option_map_or edges_end o 0) last.2 ∙ (good.each_node n last.0 last.2).edges_last (omega (arith, e)))
          (λ out. absurd (omega (arith, out.0, e))) (slice_get_cases nodes n).1

  -- no edge leads back to node 0
  no_root : (k : ℕ) (edge : EdgeRow) → slice_get edges k ≡ Some edge → edge.target ≢ 0
  no_root k edge h zero_target =
      let inside : k < length edges = slice_get_within edges k edge h in
      let m = edge_of_some (length nodes) k (subst (λ n. k < n) (sym last_end) inside) in
      let w : IsWellformedNode nodes edges outputs m.0 m.1 = good.each_node m.0 m.1 m.2 in
      let here : slice_get (edges_at edges m.1) (k - m.1.first_edge) ≡ Some edge =
      part_at edges m.1.first_edge m.1.edges (k - m.1.first_edge) edge (omega (arith, m.3, m.4))
      (ap (λ n. slice_get edges n) (omega (arith, m.3)) ∙ h) in
      ⊎_elim (λ root. let to : slice_get nodes edge.target ≡ Some root.0 = ap (λ n. slice_get nodes n) zero_target ∙ root.2 in
      let deep : root.0.depth ≡ m.1.depth + 1 = w.deeper (k - m.1.first_edge) edge here root.0 to in
      let flat : root.0.depth ≡ 0 = ((good.each_node 0 root.0 root.2).root refl).0 in absurd (omega (arith, deep, flat)))
      (λ out. absurd (omega (arith, some, out.0))) (slice_get_cases nodes 0).1

  -- no more edges than nodes
  pub few_edges : HasOneParent (length nodes) edges → length edges ≤ length nodes
  few_edges parents =
      let count = length-map edges (λ (e : EdgeRow). e.target) in
      let few = each_once (map (λ (e : EdgeRow). e.target) edges) (length nodes) below once in omega (arith, count, few)
    where
      below : All (λ x. x < length nodes) (map (λ (e : EdgeRow). e.target) edges)
      below = All-map (λ x. x < length nodes) (λ (e : EdgeRow). e.target) edges (All-weaker (IsEdge nodes) (λ e. e.target < length nodes) (λ e h. h.1) edges (each_all (IsEdge nodes) edges good.each_edge))

      none_at_root : times 0 (map (λ (e : EdgeRow). e.target) edges) ≤ 1
      none_at_root = at (times 0 (map (λ (e : EdgeRow). e.target) edges)) refl
        where
          at : (n : ℕ) → times 0 (map (λ (e : EdgeRow). e.target) edges) ≡ n → n ≤ 1
          at zero e = omega arith
          at (suc n) e =
              let c = there_times 0 (map (λ (x : EdgeRow). x.target) edges) (omega (arith, e)) in
              let k = place_in (map (λ (x : EdgeRow). x.target) edges) 0 c in
              found k.0 k.1
            where
              found : (k : ℕ) → slice_get (map (λ (x : EdgeRow). x.target) edges) k ≡ Some 0 → suc n ≤ 1
              found k h =
                  ⊎_elim (λ g. absurd (no_root k g.0 g.2 (same_Some g.0.target 0 (sym (ap (option_map (λ (x : EdgeRow). x.target)) g.2) ∙ sym (slice_get-map (λ (x : EdgeRow). x.target) edges k) ∙ h))))
                  (λ out. let inside = slice_get_within (map (λ (x : EdgeRow). x.target) edges) k 0 h in
                  let long = length-map edges (λ (x : EdgeRow). x.target) in absurd (omega (arith, inside, long, out.0))) (slice_get_cases edges k).1

      once : (i : ℕ) → i < length nodes → times i (map (λ (e : EdgeRow). e.target) edges) ≤ 1
      once zero b = none_at_root
      once (suc i) b = let one = parents (suc i) (λ e. omega (arith, e)) b in omega (arith, one)

-- and no more outputs than words
pub few_outputs : (outputs : List ℕ) (words : ℕ) → HasOneOutput outputs → ((i : ℕ) → words ≤ i → times i outputs ≡ 0) → length outputs ≤ words
few_outputs outputs words one_each none_above = each_once outputs words below (λ i b. one_each i)
  where
    below : All (λ x. x < words) outputs
    below = All-weaker (Contains outputs) (λ x. x < words) at outputs (All-contains_itself outputs)
      where
        at : (x : ℕ) → Contains outputs x → x < words
        at x c =
            ⊎_elim (λ b. b) (λ b. let some_times = times_there x outputs c in let no_times = none_above x b in absurd (omega (arith, some_times, no_times))) (cases_lt x words)
