-- Letter case: the pattern made without regard to it is the folded pattern.
use Rattle.std.proofs.Common.{◌≡◌, ℕ, ⊎_elim, Bool, true, false, List, Option, Some, None, if◌then◌else◌, refl, sym, ap, ◌∙◌, arith}
use Rattle.std.specs.Prelude.{◌==◌, ◌||◌}
use Rattle.std.proofs.Math.Path.{fun_ext}
use Rattle.std.proofs.lemmas.Bool.Decides.{nat_tests}
use Rattle.yr_pattern.specs.Fold.{fold_tree, fold_each}
use Rattle.yr_pattern.specs.Set.{in_either_case, all_but, any_byte}
use Rattle.yr_pattern.specs.Set as sets
use Rattle.yr_pattern.specs.Tree.{Tree, Trees, One, Seq, Alt, Rep}
use Rattle.yr_pattern.specs.Tree as tree
use Rattle.yr_regex.specs.Escapes.{Text, kind, word, space, decimal}
use Rattle.yr_regex.specs.Expressions.{Member, Element, Piece, Pieces, Branches, Class}
use Rattle.yr_regex.specs.Grammar.{ReadsElement, byte, escape, any, set, class, group, ReadsPiece, alone, repeated, lazy, start, end, edge, no_edge, ReadsPieces, no_piece, piece_then, ReadsBranches, last_branch, branch_then}
use Rattle.yr_regex.specs.Meaning.{dot_bytes, element_tree, piece_tree, piece_trees, sequence_tree, branch_trees, branches_tree, element_complement, piece_complement, pieces_complement, branches_complement}
use Rattle.yr_regex.proofs.OutcomeLemmas.{chosen, guarded}

-- ---- sets that are closed

word-closed : in_either_case word ≡ word
word-closed = fun_ext (λ b. grind (arith, nat_tests))

no_word-closed : in_either_case (all_but word) ≡ all_but word
no_word-closed = fun_ext (λ b. grind (arith, nat_tests))

space-closed : in_either_case space ≡ space
space-closed = fun_ext (λ b. grind (arith, nat_tests))

no_space-closed : in_either_case (all_but space) ≡ all_but space
no_space-closed = fun_ext (λ b. grind (arith, nat_tests))

decimal-closed : in_either_case decimal ≡ decimal
decimal-closed = fun_ext (λ b. grind (arith, nat_tests))

no_decimal-closed : in_either_case (all_but decimal) ≡ all_but decimal
no_decimal-closed = fun_ext (λ b. grind (arith, nat_tests))

any-closed : in_either_case any_byte ≡ any_byte
any-closed = fun_ext (λ b. grind (arith, nat_tests))

no_line-closed : in_either_case (all_but (sets.only 10)) ≡ all_but (sets.only 10)
no_line-closed = fun_ext (λ b. grind (arith, nat_tests))

dot-closed : (dot_all : Bool) → in_either_case (dot_bytes dot_all) ≡ dot_bytes dot_all
dot-closed true = any-closed
dot-closed false = no_line-closed

is_closed : (a b : ℕ → Bool) → in_either_case a ≡ a → ◌≡◌ {A = Option (ℕ → Bool)} (Some a) (Some b) → in_either_case b ≡ b
is_closed a b h e = let f : ◌≡◌ {A = ℕ → Bool} a b = cc in sym (ap (λ (x : ℕ → Bool). in_either_case x) f) ∙ h ∙ f

kind-closed : (c : ℕ) (bytes : ℕ → Bool) → kind c ≡ Some bytes → in_either_case bytes ≡ bytes
kind-closed c bytes e = ⊎_elim (λ k. is_closed word bytes word-closed k.1)
    (λ k. ⊎_elim (λ l. is_closed (all_but word) bytes no_word-closed l.1)
    (λ l. ⊎_elim (λ m. is_closed space bytes space-closed m.1)
    (λ m. ⊎_elim (λ n. is_closed (all_but space) bytes no_space-closed n.1)
    (λ n. ⊎_elim (λ o. is_closed decimal bytes decimal-closed o.1)
    (λ o. is_closed (all_but decimal) bytes no_decimal-closed (guarded (c == 68) (Some (all_but decimal)) bytes o.1).1)
    (chosen (c == 100) (Some decimal) (if c == 68 then Some (all_but decimal) else None) (Some bytes) n.1))
    (chosen (c == 83) (Some (all_but space)) (if c == 100 then Some decimal else if c == 68 then Some (all_but decimal) else None) (Some bytes) m.1))
    (chosen (c == 115) (Some space) (if c == 83 then Some (all_but space) else if c == 100 then Some decimal else if c == 68 then Some (all_but decimal) else None) (Some bytes) l.1))
    (chosen (c == 87) (Some (all_but word)) (if c == 115 then Some space else if c == 83 then Some (all_but space) else if c == 100 then Some decimal else if c == 68 then Some (all_but decimal) else None) (Some bytes) k.1))
    (chosen (c == 119) (Some word) (if c == 87 then Some (all_but word) else if c == 115 then Some space else if c == 83 then Some (all_but space) else if c == 100 then Some decimal else if c == 68 then Some (all_but decimal) else None) (Some bytes) e)

-- ---- patterns

left-false : (a b : Bool) → (a || b) ≡ false → a ≡ false
left-false false b e = refl
left-false true b e = absurd cc

right-false : (a b : Bool) → (a || b) ≡ false → b ≡ false
right-false false b e = e
right-false true b e = absurd cc

more-same : (t u : Tree) (ts us : Trees) → t ≡ u → ts ≡ us → tree.more t ts ≡ tree.more u us
more-same t u ts us e f = ap (λ (x : Tree). tree.more x ts) e ∙ ap (λ (x : Trees). tree.more u x) f

module _ (dot_all : Bool) where
  class-fold : (negated : Bool) (ms : List Member) → negated ≡ false
      → fold_tree (element_tree false dot_all (Class negated ms)) ≡ element_tree true dot_all (Class negated ms)
  class-fold false ms h = refl
  class-fold true ms h = absurd cc

  mutual
    element-fold : {n : ℕ} {e : Element} {t rest : Text} → ReadsElement n t e rest → element_complement e ≡ false
        → fold_tree (element_tree false dot_all e) ≡ element_tree true dot_all e
    element-fold (byte e f) h = refl
    element-fold (escape r) h = refl
    element-fold any h = ap (λ (x : ℕ → Bool). One x) (dot-closed dot_all)
    element-fold (set {c = c} {bytes = bytes} e) h = ap (λ (x : ℕ → Bool). One x) (kind-closed c bytes e)
    element-fold (class {negated = negated} {ms = ms} r) h = class-fold negated ms h
    element-fold (group r) h = branches-fold r h

    piece-fold : {n : ℕ} {p : Piece} {t rest : Text} → ReadsPiece n t p rest → piece_complement p ≡ false
        → fold_tree (piece_tree false dot_all p) ≡ piece_tree true dot_all p
    piece-fold (alone r) h = element-fold r h
    piece-fold (repeated {least = least} {most = most} r q) h = ap (λ (x : Tree). Rep x least most) (element-fold r h)
    piece-fold (lazy {least = least} {most = most} r q) h = ap (λ (x : Tree). Rep x least most) (element-fold r h)
    piece-fold start h = refl
    piece-fold end h = refl
    piece-fold edge h = refl
    piece-fold no_edge h = refl

    pieces-fold : {n : ℕ} {ps : Pieces} {t rest : Text} → ReadsPieces n t ps rest → pieces_complement ps ≡ false
        → fold_each (piece_trees false dot_all ps) ≡ piece_trees true dot_all ps
    pieces-fold no_piece h = refl
    pieces-fold (piece_then {p = p} {ps = ps} r rs) h =
        more-same (fold_tree (piece_tree false dot_all p)) (piece_tree true dot_all p) (fold_each (piece_trees false dot_all ps)) (piece_trees true dot_all ps)
        (piece-fold r (left-false (piece_complement p) (pieces_complement ps) h)) (pieces-fold rs (right-false (piece_complement p) (pieces_complement ps) h))

    sequence-fold : {n : ℕ} {ps : Pieces} {t rest : Text} → ReadsPieces n t ps rest → pieces_complement ps ≡ false
        → fold_tree (sequence_tree false dot_all ps) ≡ sequence_tree true dot_all ps
    sequence-fold no_piece h = refl
    sequence-fold (piece_then {p = p} {ps = ps} r rs) h =
        ap (λ (x : Trees). Seq x)
        (more-same (fold_tree (piece_tree false dot_all p)) (piece_tree true dot_all p) (fold_each (piece_trees false dot_all ps)) (piece_trees true dot_all ps)
        (piece-fold r (left-false (piece_complement p) (pieces_complement ps) h)) (pieces-fold rs (right-false (piece_complement p) (pieces_complement ps) h)))

    list-fold : {n : ℕ} {bs : Branches} {t rest : Text} → ReadsBranches n t bs rest → branches_complement bs ≡ false
        → fold_each (branch_trees false dot_all bs) ≡ branch_trees true dot_all bs
    list-fold (last_branch r) h = ap (λ (x : Tree). tree.more x tree.none) (sequence-fold r h)
    list-fold (branch_then {ps = ps} {bs = bs} r rs) h =
        more-same (fold_tree (sequence_tree false dot_all ps)) (sequence_tree true dot_all ps) (fold_each (branch_trees false dot_all bs)) (branch_trees true dot_all bs)
        (sequence-fold r (left-false (pieces_complement ps) (branches_complement bs) h)) (list-fold rs (right-false (pieces_complement ps) (branches_complement bs) h))

    pub branches-fold : {n : ℕ} {bs : Branches} {t rest : Text} → ReadsBranches n t bs rest → branches_complement bs ≡ false
        → fold_tree (branches_tree false dot_all bs) ≡ branches_tree true dot_all bs
    branches-fold (last_branch r) h = sequence-fold r h
    branches-fold (branch_then {ps = ps} {bs = bs} r rs) h =
        ap (λ (x : Trees). Alt x)
        (more-same (fold_tree (sequence_tree false dot_all ps)) (sequence_tree true dot_all ps) (fold_each (branch_trees false dot_all bs)) (branch_trees true dot_all bs)
        (sequence-fold r (left-false (pieces_complement ps) (branches_complement bs) h)) (list-fold rs (right-false (pieces_complement ps) (branches_complement bs) h)))
