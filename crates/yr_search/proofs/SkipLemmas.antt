-- What may be passed over.
use Rattle.std.proofs.Common.{◌≡◌, ◌≢◌, ℕ, zero, suc, ◌+◌, ◌-◌, ◌*◌, ◌/◌, ◌%◌, ◌<◌, ◌≤◌, ◌⊎◌, inl, inr, Bool, true, false, not, nat_eq, ◌||◌, List, [], ◌∷◌, ◌++◌, length, take, Option, Some, None, is_some, refl, sym, ap, ap₂, ◌∙◌, subst, arith}
use Rattle.std.specs.Prelude.{slice_get, slice_index}
use Rattle.std.proofs.lemmas.Bool.{cases_lt}
use Rattle.std.proofs.lemmas.Bool.Decides.{nat_tests}
use Rattle.std.proofs.lemmas.Option.{slice_get-get_or}
use Rattle.std.proofs.lemmas.List.{nil_from_length}
use Rattle.std.proofs.Math.Nat.{mul-le-mul_left}
use Rattle.yr_rows.specs.declared.nodes.NodeRow.{NodeRow}
use Rattle.yr_rows.specs.Nodes.{edges_of, edge_of}
use Rattle.yr_automaton.specs.Rows as rows
use Rattle.yr_image.specs.Image.{Image}
use Rattle.yr_image.specs.Reading.{image_in}
use Rattle.yr_image.specs.Views.{image_of}
use Rattle.yr_machine.specs.Wellformed.{IsWellformed}
use Rattle.yr_search.specs.State.{State}
use Rattle.yr_search.specs.declared.scene.Scene.{Scene}
use Rattle.yr_search.specs.Taking.{IsGoodScene, TakesAll}
use Rattle.yr_search.specs.Uppers.{own, upper, depth_of, LeadsFrom0}
use Rattle.yr_search.specs.Walked.{Stands, Walked, IsUpperAfter}
use Rattle.yr_search.specs.Skips.{IsPassed, IsPairTable}
use Rattle.yr_hits.proofs.HitLemmas.{there}
use Rattle.yr_search.proofs.NodeLemmas.{node_is, depth_is, link_is, link_falls, upper_at, own_length}
use Rattle.yr_search.proofs.WalkLemmas.{stands_step, stands_at, edge_deeper, root_depth, walked_next}
use Rattle.yr_search.proofs.SceneLemmas.{some_nodes}

pub push_cases : {X : Type 0} (xs : List X) (x : X) (k : ℕ) (y : X) → slice_get (xs ++ x ∷ []) k ≡ Some y → (slice_get xs k ≡ Some y) ⊎ ((k ≡ length xs) × (x ≡ y))
push_cases [] x zero y e = inr (refl, cc)
push_cases [] x (suc zero) y e = cc
push_cases [] x (suc (suc k)) y e = cc
push_cases (z ∷ zs) x zero y e = inl e
push_cases (z ∷ zs) x (suc k) y e = elim (push_cases zs x k y e) [ inl h ↦ inl h | inr h ↦ inr (ap suc h.0, h.1) ]

pub either_none : (a b : Bool) → (a || b) ≡ false → (a ≡ false) × (b ≡ false)
either_none true b e = cc
either_none false b e = (refl, e)

-- the scene's edges are the image's
pub scene_edge : (scene : Scene) → IsGoodScene scene → (n b : ℕ) → rows.edge scene.automaton n b ≡ edge_of (image_of scene.view.now).nodes (image_of scene.view.now).edges n b
scene_edge scene good n b =
    ap (λ ns. edge_of ns (edges_of scene.automaton.edges.now) n b) good.nodes ∙ ap (λ es. edge_of (image_of scene.view.now).nodes es n b) good.edges

no_edge_some : (o : Option ℕ) (x : ℕ) → o ≡ None → o ≡ Some x → ⊥
no_edge_some o x a b = cc

pub passed_none : (image : Image) (b c : ℕ) → edge_of image.nodes image.edges 0 b ≡ None → IsPassed image b c
passed_none image b c none x e = absurd (no_edge_some (edge_of image.nodes image.edges 0 b) x none e)

pub none_from : (o : Option ℕ) → is_some o ≡ false → o ≡ None
none_from None e = refl
none_from (Some x) e = cc

pub passed_node : (image : Image) (b c n : ℕ) → edge_of image.nodes image.edges 0 b ≡ Some n → n < length image.nodes → own image n ≡ []
    → edge_of image.nodes image.edges n c ≡ None → IsPassed image b c
passed_node image b c n at inside none next x e =
    let same : n ≡ x = cc in
    (subst (λ m. m < length image.nodes) same inside, subst (λ m. own image m ≡ []) same none, subst (λ m. edge_of image.nodes image.edges m c ≡ None) same next)

-- a node without outputs whose failure node has none upwards
pub no_upper : (bytes : List ℕ) (wellformed : IsWellformed bytes) (n : ℕ) (row : NodeRow) → slice_get (image_in bytes).nodes n ≡ Some row → n ≢ 0
    → own (image_in bytes) n ≡ [] → upper (image_in bytes) row.failure ≡ [] → upper (image_in bytes) n ≡ []
no_upper bytes wellformed n row at some mine up =
    upper_at bytes wellformed n row at some ∙ ap₂ (λ a b. a ++ b) mine up

pub own_none : (bytes : List ℕ) (wellformed : IsWellformed bytes) (n : ℕ) (row : NodeRow) → slice_get (image_in bytes).nodes n ≡ Some row → row.outputs ≡ 0
    → own (image_in bytes) n ≡ []
own_none bytes wellformed n row at none =
    nil_from_length (own (image_in bytes) n) (omega (arith, own_length bytes wellformed n row at, none))

module _ (bytes : List ℕ) (wellformed : IsWellformed bytes) (file : List ℕ) where
  -- where the walk stands at node 0, one place is passed: it leads to a node without outputs but those of node 0
  passed_at : (p b c : ℕ) → Stands (image_in bytes) file p 0 → slice_get file p ≡ Some b → slice_get file (p + 1) ≡ Some c → IsPassed (image_in bytes) b c
      → Stands (image_in bytes) file (p + 1) 0 × ((x : ℕ) × LeadsFrom0 (image_in bytes) (take (p + 1) file) x × (x < length (image_in bytes).nodes) × (upper (image_in bytes) x ≡ []))
  passed_at p b c stands at next passed = go (edge_of (image_in bytes).nodes (image_in bytes).edges 0 b) refl
    where
      some : 0 < length (image_in bytes).nodes
      some = some_nodes bytes wellformed

      go : (o : Option ℕ) → edge_of (image_in bytes).nodes (image_in bytes).edges 0 b ≡ o
          → Stands (image_in bytes) file (p + 1) 0 × ((x : ℕ) × LeadsFrom0 (image_in bytes) (take (p + 1) file) x × (x < length (image_in bytes).nodes) × (upper (image_in bytes) x ≡ []))
      go None e =
          let leads = stands_step bytes wellformed file p 0 b 0 1 stands at some (inr (inl (refl, e, refl, refl))) in
          (stands_at bytes wellformed file (p + 1) 0 leads some, (0, leads, some, refl))
      go (Some x) e =
          let is = passed x e in
          let leads = stands_step bytes wellformed file p 0 b x 1 stands at is.0 (inl (refl, e)) in
          let row = there (image_in bytes).nodes x is.0 in
          let deep : depth_of (image_in bytes) x ≡ 1 = edge_deeper bytes wellformed 0 b x some e is.0 ∙ ap (λ d. d + 1) (root_depth bytes wellformed some) in
          let other : x ≢ 0 = λ z. let flat : depth_of (image_in bytes) x ≡ 0 = ap (depth_of (image_in bytes)) z ∙ root_depth bytes wellformed some in omega (arith, deep, flat) in
          let falls = link_falls bytes wellformed x row.0 row.1 other in
          let root : row.0.failure ≡ 0 = is_root row.0.failure falls.1 (omega (arith, falls.2, deep)) in
          let none : upper (image_in bytes) x ≡ [] = no_upper bytes wellformed x row.0 row.1 other is.1 (ap (upper (image_in bytes)) root) in (
            record {
              real = x;
              leads = leads;
              inside = is.0;
              like = inr (
                refl,
                other,
                link_is bytes wellformed x row.0 row.1 ∙ root,
                λ d there. let same : d ≡ c = same_byte (slice_get file (p + 1)) d c there next in
                    subst (λ y. edge_of (image_in bytes).nodes (image_in bytes).edges x y ≡ None) (sym same) is.2,
              );
            },
            (x, leads, is.0, none),
          )
        where
          same_byte : (o : Option ℕ) (d c : ℕ) → o ≡ Some d → o ≡ Some c → d ≡ c
          same_byte o d c p q = cc

          is_root : (n : ℕ) → n < length (image_in bytes).nodes → depth_of (image_in bytes) n < 1 → n ≡ 0
          is_root zero lt flat = refl
          is_root (suc n) lt flat =
              let row = there (image_in bytes).nodes (suc n) lt in
              let up = (node_is bytes wellformed (suc n) row.0 row.1).wellformed.deep (omega arith) in
              absurd (omega (arith, up, depth_is bytes wellformed (suc n) row.0 row.1, flat))

  pub pass_front : (p b c : ℕ) → Stands (image_in bytes) file p 0 → slice_get file p ≡ Some b → slice_get file (p + 1) ≡ Some c → IsPassed (image_in bytes) b c
      → Stands (image_in bytes) file (p + 1) 0 × IsUpperAfter (image_in bytes) (take (p + 1) file) []
  pass_front p b c stands at next passed =
      let done = passed_at p b c stands at next passed in
      (done.0, (done.1.0, done.1.1, done.1.2, sym done.1.3))

  pub pass_one : (p b c : ℕ) (old new : State) (count : ℕ) → Stands (image_in bytes) file p 0 → slice_get file p ≡ Some b → slice_get file (p + 1) ≡ Some c
      → IsPassed (image_in bytes) b c → Walked (image_in bytes) file p old new count
      → Stands (image_in bytes) file (p + 1) 0 × Walked (image_in bytes) file (p + 1) old new count
  pass_one p b c old new count stands at next passed w =
      let done = passed_at p b c stands at next passed in
      let x = done.1.0 in
      let none : upper (image_in bytes) x ≡ [] = done.1.3 in
      let long = ap length none in
      let walked = walked_next (image_in bytes) file p x old new new count w done.1.1 done.1.2
      (subst (λ o. TakesAll (image_in bytes) file (p + 1) o new new) (sym none) refl) in
      (done.0, subst (λ n. Walked (image_in bytes) file (p + 1) old new n) (omega (arith, long)) walked)

  pass_some : (table : List Bool) → IsPairTable (image_in bytes) table → ((i : ℕ) → slice_index file i < 256) → (d p q : ℕ) (old new : State) (count : ℕ) → q ≡ p + d → q < length file
      → ((k : ℕ) → p ≤ k → k < q → slice_get table (slice_index file k * 256 + slice_index file (k + 1)) ≡ Some false)
      → Stands (image_in bytes) file p 0 → Walked (image_in bytes) file p old new count
      → Stands (image_in bytes) file q 0 × Walked (image_in bytes) file q old new count
  pass_some table is small zero p q old new count far lt passed stands w =
      let same : p ≡ q = omega (arith, far) in
      (subst (λ k. Stands (image_in bytes) file k 0) same stands, subst (λ k. Walked (image_in bytes) file k old new count) same w)
  pass_some table is small (suc d) p q old new count far lt passed stands w =
      let one = pass_one p (slice_index file p) (slice_index file (p + 1)) old new count stands
      (slice_get-get_or file p 0 (omega (arith, far, lt))) (slice_get-get_or file (p + 1) 0 (omega (arith, far, lt)))
      (is.passed (slice_index file p) (slice_index file (p + 1)) (small (p + 1)) (passed p (omega arith) (omega (arith, far)))) w in
      pass_some table is small d (p + 1) q old new count (omega (arith, far)) lt (λ k le. passed k (omega (arith, le))) one.0 one.1

  -- where the walk stands at node 0, places up to the next live pair are passed; elsewhere none is
  pub pass_to : (table : List Bool) → IsPairTable (image_in bytes) table → ((i : ℕ) → slice_index file i < 256) → (p q node : ℕ) (old new : State) (count : ℕ) → p ≤ q → q < length file
      → ((k : ℕ) → p ≤ k → k < q → (node ≡ 0) × (slice_get table (slice_index file k * 256 + slice_index file (k + 1)) ≡ Some false))
      → Stands (image_in bytes) file p node → Walked (image_in bytes) file p old new count
      → Stands (image_in bytes) file q node × Walked (image_in bytes) file q old new count
  pass_to table is small p q node old new count le lt passed stands w = elim (cases_lt p q) [
    | inl less ↦
        let root : node ≡ 0 = (passed p (omega arith) less).0 in
        let far : q ≡ p + (q - p) = omega (arith, le) in
        let done = pass_some table is small (q - p) p q old new count far lt (λ k a b. (passed k a b).1) (subst (λ n. Stands (image_in bytes) file p n) root stands) w in
        (subst (λ n. Stands (image_in bytes) file q n) (sym root) done.0, done.1)
    | inr here ↦
        let same : p ≡ q = omega (arith, le, here) in
        (subst (λ k. Stands (image_in bytes) file k node) same stands, subst (λ k. Walked (image_in bytes) file k old new count) same w)
  ]

-- places that are passed cost nothing
pub paid_pass : (p q root front before now : ℕ) → p ≤ q → root ≤ front → now + p * root ≤ before + 5 * p + p * front → now + q * root ≤ before + 5 * q + q * front
paid_pass p q root front before now le less paid =
    let d = q - p in
    let parts : p + d ≡ q = omega (arith, le) in
    let a : q * root ≡ p * root + d * root = ap (λ k. k * root) (sym parts) ∙ add_times p d root in
    let b : q * front ≡ p * front + d * front = ap (λ k. k * front) (sym parts) ∙ add_times p d front in
    let bound = mul-le-mul_left d less in
    omega (arith, paid, a, b, bound, le)
  where
    add_times : (a b x : ℕ) → (a + b) * x ≡ a * x + b * x
    add_times a b x = omega arith

pub pair_parts : (b c : ℕ) → c < 256 → ((b * 256 + c) / 256 ≡ b) × ((b * 256 + c) % 256 ≡ c)
pair_parts b c lt = (omega (arith, lt), omega (arith, lt))

pub no_outputs : (n : ℕ) → not (nat_eq n 0) ≡ false → n ≡ 0
no_outputs n e = grind (arith, nat_tests)
