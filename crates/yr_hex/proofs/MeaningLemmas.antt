-- The pattern that is read, where no jump breaks a rule.
use Rattle.std.proofs.Common.{◌≡◌, ℕ, inl, inr, Bool, true, false, List, [], ◌∷◌, ◌++◌, Option, refl, ap, ◌∙◌}
use Rattle.yr_pattern.specs.Set.{any_byte}
use Rattle.yr_pattern.specs.Tree.{Tree, Trees, One, Seq, Alt, Rep, none, join, trees_of}
use Rattle.yr_pattern.specs.Tree as tree
use Rattle.yr_hex.specs.Items.{Item, Items, Branches, Byte, Jump, Group, last, more, only, or}
use Rattle.yr_hex.specs.Jumps.{IsBad, HasBad, HasBadBranch}
use Rattle.yr_hex.specs.Meaning.{item_tree, group_tree, branches_of, members_of, meaning}
use Rattle.yr_hex.specs.Reading.{ListRead, ChoiceRead, cut, capped, allows, no_members, push, sequence, one_branch, add, part, group_part, added, pushed}
use Rattle.yr_hex.proofs.Basics.{bool_cases}
use Rattle.yr_hex.proofs.BadLemmas.{allows-true, allows-false}

join-append : (xs ys : List Tree) → trees_of (xs ++ ys) ≡ join (trees_of xs) (trees_of ys)
join-append [] ys = refl
join-append (x ∷ xs) ys = ap (tree.more x) (join-append xs ys)

join-assoc : (a b c : Trees) → join (join a b) c ≡ join a (join b c)
join-assoc none b c = refl
join-assoc (tree.more t a) b c = ap (tree.more t) (join-assoc a b c)

-- one more tree
push-join : (ts : List Tree) (t u : Tree) → t ≡ u → trees_of (ts ++ t ∷ []) ≡ join (trees_of ts) (tree.more u none)
push-join ts t u e = join-append ts (t ∷ []) ∙ ap (λ (x : Tree). join (trees_of ts) (tree.more x none)) e

-- one more tree, and others
push-more : (ts : List Tree) (t u : Tree) (us : Trees) → t ≡ u → join (trees_of (ts ++ t ∷ [])) us ≡ join (trees_of ts) (tree.more u us)
push-more ts t u us e = ap (λ (x : Trees). join x us) (push-join ts t u e) ∙ join-assoc (trees_of ts) (tree.more u none) us

jump-tree : (inside first ending : Bool) (at least : ℕ) (most : Option ℕ) → ((n : ℕ) → ¬ IsBad inside first ending (Jump at least most) n)
    → ◌≡◌ {A = Tree} (Rep (One any_byte) (cut least) (capped cut most)) (Rep (One any_byte) least most)
jump-tree inside first ending at least most good = bool_cases _ (allows inside (cut least) (capped cut most))
    (λ e. let a = allows-true inside least most e in
    ap (λ (m : ℕ). Rep (One any_byte) m (capped cut most)) a.1 ∙ ap (λ (m : Option ℕ). Rep (One any_byte) least m) a.2)
    (λ e. absurd (good at (refl, inr (allows-false inside least most e))))

mutual
  part-tree : (inside first ending : Bool) (i : Item) → ((n : ℕ) → ¬ IsBad inside first ending i n) → (part inside i).tree ≡ item_tree i
  part-tree inside first ending (Byte negated high low) good = refl
  part-tree inside first ending (Jump at least most) good = jump-tree inside first ending at least most good
  part-tree inside first ending (Group bs) good = group-tree bs good

  group-tree : (bs : Branches) → ((n : ℕ) → ¬ HasBadBranch bs n) → (group_part bs).tree ≡ group_tree bs
  group-tree (only is) good = ap Seq (pushed-tree true true no_members is good)
  group-tree (or is bs) good =
      ap Alt (added-tree (one_branch (sequence (pushed true no_members is))) bs (λ n h. good n (inr h))
      ∙ ap (λ (t : Trees). tree.more (Seq t) (branches_of bs)) (pushed-tree true true no_members is (λ n h. good n (inl h))))

  added-tree : (c : ChoiceRead) (bs : Branches) → ((n : ℕ) → ¬ HasBadBranch bs n) → trees_of (added c bs).branches ≡ join (trees_of c.branches) (branches_of bs)
  added-tree c (only is) good =
      push-join c.branches (sequence (pushed true no_members is)).tree (Seq (members_of is)) (ap Seq (pushed-tree true true no_members is good))
  added-tree c (or is bs) good =
      added-tree (add c (sequence (pushed true no_members is))) bs (λ n h. good n (inr h))
      ∙ push-more c.branches (sequence (pushed true no_members is)).tree (Seq (members_of is)) (branches_of bs)
      (ap Seq (pushed-tree true true no_members is (λ n h. good n (inl h))))

  pub pushed-tree : (inside first : Bool) (l : ListRead) (is : Items) → ((n : ℕ) → ¬ HasBad inside first is n)
      → trees_of (pushed inside l is).members ≡ join (trees_of l.members) (members_of is)
  pushed-tree inside first l (last i) good = push-join l.members (part inside i).tree (item_tree i) (part-tree inside first true i good)
  pushed-tree inside first l (more i is) good =
      pushed-tree inside false (push l (part inside i)) is (λ n h. good n (inr h))
      ∙ push-more l.members (part inside i).tree (item_tree i) (members_of is) (part-tree inside first false i (λ n h. good n (inl h)))

-- the pattern of a list without bad jumps
pub list-tree : (inside : Bool) (is : Items) → ((n : ℕ) → ¬ HasBad inside true is n) → (sequence (pushed inside no_members is)).tree ≡ meaning is
list-tree inside is good = ap Seq (pushed-tree inside true no_members is good)
