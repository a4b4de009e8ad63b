-- An image has one list of hits in a file, one match list for each string, and one list of truths.
use Rattle.std.proofs.Common.{◌≡◌, ℕ, ℤ, zero, suc, ◌<◌, ◌↔◌, inl, inr, List, [], ◌∷◌, length, take, Bool, true, false, Option, Some, None, refl, sym, ap, ap₂, ◌∙◌, subst, arith, true≢false}
use Rattle.std.proofs.Math.Path.{fun_ext}
use Rattle.std.specs.Prelude.{slice_get, IsTrue}
use Rattle.std.specs.List.{flat_map}
use Rattle.std.proofs.lemmas.Option.{slice_get_within}
use Rattle.yr_rows.specs.Walk.{Asks, Walks, IsChain}
use Rattle.yr_rows.specs.Nodes.{edge_of, link_of, own_of}
use Rattle.yr_values.specs.Values.{Value}
use Rattle.yr_answer.specs.MatchList.{Match}
use Rattle.yr_answer.proofs.MatchLemmas.{one_match_list}
use Rattle.yr_image.specs.Image.{Image}
use Rattle.yr_machine.specs.Operations.{Context}
use Rattle.yr_machine.specs.Hits.{AreOutputsAfter, AreHits}
use Rattle.yr_machine.specs.ImageMatches.{IsCounted, AreImageMatches, is_greatest}
use Rattle.yr_machine.specs.ImageRun.{Occurs, KnowsPrograms, IsImageRun, AreImageTruths}
use Rattle.yr_machine.proofs.NeverStuck.{there}
use Rattle.yr_machine.proofs.OneAnswer.{one_answer}

-- ---- hits

same_target : (o : Option ℕ) (m n : ℕ) → o ≡ Some m → o ≡ Some n → m ≡ n
same_target o m n p q = let same : Some m ≡ Some n = sym p ∙ q in cc

not_there : (o : Option ℕ) (m : ℕ) → o ≡ Some m → o ≡ None → ⊥
not_there o m p q = let bad : Some m ≡ None = sym p ∙ q in cc

module _ (edge : ℕ → ℕ → Option ℕ) (link : ℕ → ℕ) where
  -- a byte leads from a node to one node
  one_target : (k l n b m o : ℕ) → Asks edge link k n b m → Asks edge link l n b o → m ≡ o
  one_target zero l n b m o p q = absurd p
  one_target (suc k) zero n b m o p q = absurd q
  one_target (suc k) (suc l) n b m o (inl p) (inl q) = same_target (edge n b) m o p.1 q.1
  one_target (suc k) (suc l) n b m o (inl p) (inr (inl q)) = absurd (not_there (edge n b) m p.1 q.1)
  one_target (suc k) (suc l) n b m o (inl p) (inr (inr q)) = absurd (not_there (edge n b) m p.1 q.0)
  one_target (suc k) (suc l) n b m o (inr (inl p)) (inl q) = absurd (not_there (edge n b) o q.1 p.1)
  one_target (suc k) (suc l) n b m o (inr (inl p)) (inr (inl q)) = p.3 ∙ sym q.3
  one_target (suc k) (suc l) n b m o (inr (inl p)) (inr (inr q)) = absurd (q.1 p.2)
  one_target (suc k) (suc l) n b m o (inr (inr p)) (inl q) = absurd (not_there (edge n b) o q.1 p.0)
  one_target (suc k) (suc l) n b m o (inr (inr p)) (inr (inl q)) = absurd (p.1 q.2)
  one_target (suc k) (suc l) n b m o (inr (inr p)) (inr (inr q)) = one_target k l (link n) b m o p.2 q.2

  -- a text leads from a node to one node
  one_walk : (text : List ℕ) (n m o : ℕ) → Walks edge link n text m → Walks edge link n text o → m ≡ o
  one_walk [] n m o p q = sym p ∙ q
  one_walk (b ∷ text) n m o (k, x, asks, walks) (l, y, asked, walked) =
      let same : x ≡ y = one_target k l n b x y asks asked in
      one_walk text x m o walks (subst (λ z. Walks edge link z text o) (sym same) walked)

-- a node has one list of nodes along its failure links
one_chain : (link : ℕ → ℕ) (ms ns : List ℕ) (n : ℕ) → IsChain link n ms → IsChain link n ns → ms ≡ ns
one_chain link [] ns n p q = absurd p
one_chain link (m ∷ ms) [] n p q = absurd q
one_chain link (m ∷ ms) (o ∷ ns) n (a, inl p) (b, inl q) = ap₂ (λ (x : ℕ) (xs : List ℕ). x ∷ xs) (a ∙ sym b) (p.1 ∙ sym q.1)
one_chain link (m ∷ ms) (o ∷ ns) n (a, inl p) (b, inr q) = absurd (q.0 p.0)
one_chain link (m ∷ ms) (o ∷ ns) n (a, inr p) (b, inl q) = absurd (p.0 q.0)
one_chain link (m ∷ ms) (o ∷ ns) n (a, inr p) (b, inr q) =
    ap₂ (λ (x : ℕ) (xs : List ℕ). x ∷ xs) (a ∙ sym b) (one_chain link ms ns (link n) p.1 q.1)

-- the outputs after a text are one list
one_output_list : (image : Image) (text outputs others : List ℕ) → AreOutputsAfter image text outputs → AreOutputsAfter image text others → outputs ≡ others
one_output_list image text outputs others (m, walks, (ms, chain, are)) (n, walked, (ns, chained, were)) =
    let link : ℕ → ℕ = link_of image.nodes in
    let same : m ≡ n = one_walk (edge_of image.nodes image.edges) link text 0 m n walks walked in
    let nodes : ms ≡ ns = one_chain link ms ns m chain (subst (λ k. IsChain link k ns) (sym same) chained) in
    are ∙ ap (flat_map (own_of image.nodes image.outputs)) nodes ∙ sym were

-- lists that have the same element at each place
same_at_each : {A : Type 0} → (xs ys : List A) → length xs ≡ length ys
    → ((k : ℕ) (x y : A) → slice_get xs k ≡ Some x → slice_get ys k ≡ Some y → x ≡ y) → xs ≡ ys
same_at_each [] [] e h = refl
same_at_each [] (y ∷ ys) e h = absurd (omega (arith, e))
same_at_each (x ∷ xs) [] e h = absurd (omega (arith, e))
same_at_each {A} (x ∷ xs) (y ∷ ys) e h =
    ap₂ (λ (z : A) (zs : List A). z ∷ zs) (h 0 x y refl refl) (same_at_each xs ys (omega (arith, e)) (λ k. h (suc k)))

pub one_list_of_hits : (image : Image) (file : List ℕ) (hits others : List (List ℕ)) → AreHits image file hits → AreHits image file others → hits ≡ others
one_list_of_hits image file hits others p q =
    same_at_each hits others (p.fronts ∙ sym q.fronts)
    (λ e outputs other h g. one_output_list image (take e file) outputs other (p.each e outputs h) (q.each e other g))

-- ---- matches

pub one_list_of_matches : (image : Image) (file : List ℕ) (hits : List (List ℕ)) (lists others : List (List Match))
    → AreImageMatches image file hits lists → AreImageMatches image file hits others → lists ≡ others
one_list_of_matches image file hits lists others p q = same_at_each lists others (p.count ∙ sym q.count) each
  where
    each : (k : ℕ) (list other : List Match) → slice_get lists k ≡ Some list → slice_get others k ≡ Some other → list ≡ other
    each k list other h g =
        let row = there image.strings k (subst (λ n. k < n) p.count (slice_get_within lists k list h)) in
        let counted = IsCounted image file hits k in
        one_match_list counted counted (is_greatest image file row.0) list other (λ i j. (λ c. c, λ c. c)) (p.each k row.0 list row.1 h) (q.each k row.0 other row.1 g)

-- ---- the whole run

same_flag : (b c : Bool) → (IsTrue b → IsTrue c) → (IsTrue c → IsTrue b) → b ≡ c
same_flag true true f g = refl
same_flag true false f g = absurd (true≢false (sym (f refl)))
same_flag false true f g = absurd (true≢false (sym (g refl)))
same_flag false false f g = refl

module _ (one other : Context) (image : one.image ≡ other.image) (file : one.file ≡ other.file) (externals : one.externals ≡ other.externals)
    (fields : one.fields ≡ other.fields) (calls : one.calls ≡ other.calls) where
  -- both know of each program and text the same
  same_occurs : KnowsPrograms one → KnowsPrograms other → one.occurs ≡ other.occurs
  same_occurs knows knew = fun_ext (λ k. fun_ext (λ text. same k text))
    where
      same : (k : ℕ) (text : List ℕ) → one.occurs k text ≡ other.occurs k text
      same k text =
          same_flag (one.occurs k text) (other.occurs k text)
          (λ h. (knew k text).1 (subst (λ m. Occurs m k text) image ((knows k text).0 h)))
          (λ h. (knows k text).1 (subst (λ m. Occurs m k text) (sym image) ((knew k text).0 h)))

  same_context : one.lists ≡ other.lists → one.occurs ≡ other.occurs → one ≡ other
  same_context lists occurs = λ i. record {
    image = image i;
    file = file i;
    lists = lists i;
    externals = externals i;
    fields = fields i;
    calls = calls i;
    occurs = occurs i;
  }

  -- two runs of an image on a file, with the same values, find the same
  pub one_run : (hits hits' : List (List ℕ)) (truths truths' : List Bool) → IsImageRun one hits truths → IsImageRun other hits' truths'
      → (hits ≡ hits') × (truths ≡ truths') × (one.lists ≡ other.lists)
  one_run hits hits' truths truths' p q =
      let hits_are : AreHits one.image one.file hits' =
      subst (λ m. AreHits m one.file hits') (sym image) (subst (λ f. AreHits other.image f hits') (sym file) q.hits_are) in
      let same_hits : hits ≡ hits' = one_list_of_hits one.image one.file hits hits' p.hits_are hits_are in
      let lists_in : AreImageMatches one.image one.file hits' other.lists =
      subst (λ m. AreImageMatches m one.file hits' other.lists) (sym image)
      (subst (λ f. AreImageMatches other.image f hits' other.lists) (sym file) q.lists_are) in
      let lists_are : AreImageMatches one.image one.file hits other.lists =
      subst (λ h. AreImageMatches one.image one.file h other.lists) (sym same_hits) lists_in in
      let same_lists : one.lists ≡ other.lists = one_list_of_matches one.image one.file hits one.lists other.lists p.lists_are lists_are in
      let context : one ≡ other = same_context same_lists (same_occurs p.programs q.programs) in
      let truths_are : AreImageTruths one truths' = subst (λ c. AreImageTruths c truths') (sym context) q.truths_are in
      (same_hits, one_answer one truths truths' p.truths_are truths_are, same_lists)
