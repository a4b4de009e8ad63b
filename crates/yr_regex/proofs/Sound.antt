-- What is read the grammar has.
use Rattle.std.proofs.Common.{◌≡◌, ℕ, zero, suc, ⊎_elim, Bool, true, false, [], ◌∷◌, length, Some, None, if◌then◌else◌, refl, sym, ap, subst}
use Rattle.std.specs.Prelude.{◌==◌}
use Rattle.std.proofs.lemmas.Bool.{eqb-true}
use Rattle.yr_regex.specs.declared.bounds.Bounds.{Bounds}
use Rattle.yr_regex.specs.Escapes.{Text, is_sign}
use Rattle.yr_regex.specs.Quantifiers.{ReadsQuantifier, BeginsNone}
use Rattle.yr_regex.specs.Expressions.{Element, Piece, Pieces, Branches, Byte, Any, Set, Group, Repeated, AtStart, AtEnd, AtEdge, AtNoEdge, none, more, only, or}
use Rattle.yr_regex.specs.Grammar.{ReadsElement, byte, escape, any, set, class, group, ReadsPiece, alone, repeated, lazy, start, end, edge, no_edge, ReadsPieces, no_piece, piece_then, ReadsBranches, last_branch, branch_then}
use Rattle.yr_regex.specs.Reading.{Outcome, and_then, mapped, is_some, sees, after, same, read_kind, read_escaped, read_escape, read_class, read_quantifier, read_byte, read_simple, read_edge, read_anchor, repeat_by, quantified, ends, read_element, read_piece, pieces_from, read_pieces, branches_from, read_branches, group_at}
use Rattle.yr_regex.proofs.OutcomeLemmas.{bind-some, some_is, mapped-some, or-some, chosen, guarded, unless, moved, after-true, after-false}
use Rattle.yr_regex.proofs.NumberLemmas.{quantifier-complete, quantifier-found}
use Rattle.yr_regex.proofs.ByteLemmas.{escape-found, kind-found}
use Rattle.yr_regex.proofs.ClassLemmas.{class-found}

-- ---- elements that are no groups

none-begins : (t : Text) → is_some (read_quantifier same t) ≡ false → BeginsNone t
none-begins t h least most exact rest q = let e = ap (λ (o : Outcome Bounds). is_some o) (quantifier-complete q) in absurd cc

byte-found : (n b : ℕ) (t : Text) (x : Element × Text) → read_byte b t ≡ Some x → ReadsElement n (b ∷ t) x.0 x.1
unfolding read_byte
byte-found n b t x e =
    let a = unless (is_sign b) (if is_some (read_quantifier same (b ∷ t)) then None else Some (Byte b, t)) x e in
    let c = unless (is_some (read_quantifier same (b ∷ t))) (Some (Byte b, t)) x a.1 in
    moved (λ (y : Element) (w : Text). ReadsElement n (b ∷ t) y w) (Byte b) t x c.1 (byte a.0 (none-begins (b ∷ t) c.0))

escaped-found : (n : ℕ) (t : Text) (x : Element × Text) → read_escape t ≡ Some x → ReadsElement n (92 ∷ t) x.0 x.1
unfolding read_escape
escaped-found n t x e = ⊎_elim
    (λ c. let m = mapped-some Set (read_kind t) x c in
    let k = kind-found t (m.0, x.1) m.1 in
    subst (λ (y : Element). ReadsElement n (92 ∷ t) y x.1) m.2 (subst (λ (w : Text). ReadsElement n (92 ∷ w) (Set m.0) x.1) (sym k.1) (set k.2)))
    (λ c. let m = mapped-some Byte (read_escaped t) x c.1 in
    subst (λ (y : Element). ReadsElement n (92 ∷ t) y x.1) m.2 (escape (escape-found t (m.0, x.1) m.1)))
    (or-some (mapped Set (read_kind t)) (mapped Byte (read_escaped t)) x e)

classed-found : (n : ℕ) (t : Text) (x : Element × Text) → read_class t ≡ Some x → ReadsElement n (91 ∷ t) x.0 x.1
classed-found n t x e = let f = class-found t x e in subst (λ (y : Element). ReadsElement n (91 ∷ t) y x.1) f.3 (class f.2)

-- by what a text begins with
begun : (n b sign : ℕ) (t : Text) (x : Element × Text) → (b == sign) ≡ true → ReadsElement n (sign ∷ t) x.0 x.1 → ReadsElement n (b ∷ t) x.0 x.1
begun n b sign t x h r = subst (λ (y : ℕ). ReadsElement n (y ∷ t) x.0 x.1) (sym (eqb-true b sign h)) r

simple-found : (n b : ℕ) (t : Text) (x : Element × Text) → read_simple b t ≡ Some x → ReadsElement n (b ∷ t) x.0 x.1
unfolding read_simple
simple-found n b t x e = ⊎_elim
    (λ c. begun n b 91 t x c.0 (classed-found n t x c.1))
    (λ c. ⊎_elim
    (λ d. begun n b 92 t x d.0 (escaped-found n t x d.1))
    (λ d. ⊎_elim
    (λ f. begun n b 46 t x f.0 (moved (λ (y : Element) (w : Text). ReadsElement n (46 ∷ t) y w) Any t x f.1 any))
    (λ f. byte-found n b t x f.1)
    (chosen (b == 46) (Some (Any, t)) (read_byte b t) (Some x) d.1))
    (chosen (b == 92) (read_escape t) (if b == 46 then Some (Any, t) else read_byte b t) (Some x) c.1))
    (chosen (b == 91) (read_class t) (if b == 92 then read_escape t else if b == 46 then Some (Any, t) else read_byte b t) (Some x) e)

-- ---- anchors

edge-found : (n : ℕ) (t : Text) (x : Piece × Text) → read_edge AtStart AtEnd AtEdge AtNoEdge t ≡ Some x → ReadsPiece n (92 ∷ t) x.0 x.1
unfolding read_edge
edge-found n [] x e = absurd cc
edge-found n (c ∷ t) x e = ⊎_elim
    (λ k. subst (λ (y : ℕ). ReadsPiece n (92 ∷ y ∷ t) x.0 x.1) (sym (eqb-true c 98 k.0)) (moved (λ (y : Piece) (w : Text). ReadsPiece n (92 ∷ 98 ∷ t) y w) AtEdge t x k.1 edge))
    (λ k. let g = guarded (c == 66) (Some (AtNoEdge, t)) x k.1 in
    subst (λ (y : ℕ). ReadsPiece n (92 ∷ y ∷ t) x.0 x.1) (sym (eqb-true c 66 g.0)) (moved (λ (y : Piece) (w : Text). ReadsPiece n (92 ∷ 66 ∷ t) y w) AtNoEdge t x g.1 no_edge))
    (chosen (c == 98) (Some (AtEdge, t)) (if c == 66 then Some (AtNoEdge, t) else None) (Some x) e)

begun_piece : (n b sign : ℕ) (t : Text) (x : Piece × Text) → (b == sign) ≡ true → ReadsPiece n (sign ∷ t) x.0 x.1 → ReadsPiece n (b ∷ t) x.0 x.1
begun_piece n b sign t x h r = subst (λ (y : ℕ). ReadsPiece n (y ∷ t) x.0 x.1) (sym (eqb-true b sign h)) r

anchor-found : (n : ℕ) (t : Text) (x : Piece × Text) → read_anchor AtStart AtEnd AtEdge AtNoEdge t ≡ Some x → ReadsPiece n t x.0 x.1
unfolding read_anchor
anchor-found n [] x e = absurd cc
anchor-found n (b ∷ t) x e = ⊎_elim
    (λ c. begun_piece n b 94 t x c.0 (moved (λ (y : Piece) (w : Text). ReadsPiece n (94 ∷ t) y w) AtStart t x c.1 start))
    (λ c. ⊎_elim
    (λ d. begun_piece n b 36 t x d.0 (moved (λ (y : Piece) (w : Text). ReadsPiece n (36 ∷ t) y w) AtEnd t x d.1 end))
    (λ d. let g = guarded (b == 92) (read_edge AtStart AtEnd AtEdge AtNoEdge t) x d.1 in begun_piece n b 92 t x g.0 (edge-found n t x g.1))
    (chosen (b == 36) (Some (AtEnd, t)) (if b == 92 then read_edge AtStart AtEnd AtEdge AtNoEdge t else None) (Some x) c.1))
    (chosen (b == 94) (Some (AtStart, t)) (if b == 36 then Some (AtEnd, t) else if b == 92 then read_edge AtStart AtEnd AtEdge AtNoEdge t else None) (Some x) e)

-- ---- pieces

bool_is : (P : Bool → Type 0) (b : Bool) → (b ≡ true → P true) → (b ≡ false → P false) → P b
bool_is P true f g = f refl
bool_is P false f g = g refl

quantified-found : (n : ℕ) (t : Text) (e : Element) (u : Text) → ReadsElement n t e u → ReadsPiece n t (quantified e u).0 (quantified e u).1
unfolding quantified
quantified-found n t e u r = go (read_quantifier same u) refl
  where
    go : (o : Outcome Bounds) → read_quantifier same u ≡ o → ReadsPiece n t (repeat_by e u o).0 (repeat_by e u o).1
    go None k = alone r
    go (Some x) k =
        let q = quantifier-found u x k in
        let p : Bool → Text → Type 0 = λ b w. ReadsPiece n t (Repeated e (length u) x.0.least x.0.most x.0.exact b) w in
        bool_is (λ b. sees 63 x.1 ≡ b → p b (after 63 x.1)) (sees 63 x.1)
        (λ h s. lazy r (subst (λ (w : Text). ReadsQuantifier u x.0.least x.0.most x.0.exact w) (after-true 63 x.1 h) q))
        (λ h s. subst (λ (w : Text). p false w) (sym (after-false 63 x.1 h)) (repeated r q))
        refl

module _ (n : ℕ) (inner : Text → Outcome Branches) (ih : (t : Text) (x : Branches × Text) → inner t ≡ Some x → ReadsElement n (40 ∷ t) (Group x.0) x.1) where
  element-found : (t : Text) (x : Element × Text) → read_element inner t ≡ Some x → ReadsElement n t x.0 x.1
  unfolding read_element
  element-found [] x e = absurd cc
  element-found (b ∷ t) x e = ⊎_elim
      (λ c. let m = mapped-some Group (inner t) x c.1 in
      begun n b 40 t x c.0 (subst (λ (y : Element). ReadsElement n (40 ∷ t) y x.1) m.2 (ih t (m.0, x.1) m.1)))
      (λ c. simple-found n b t x c.1)
      (chosen (b == 40) (mapped Group (inner t)) (read_simple b t) (Some x) e)

  piece-found : (t : Text) (x : Piece × Text) → read_piece inner t ≡ Some x → ReadsPiece n t x.0 x.1
  unfolding read_piece
  piece-found t x e = ⊎_elim
      (λ c. anchor-found n t x c)
      (λ c. let a = bind-some (read_element inner t) (λ e' u. Some (quantified e' u)) x c.1 in
      subst (λ (y : Piece × Text). ReadsPiece n t y.0 y.1) (some_is (quantified a.0.0 a.0.1) x a.2) (quantified-found n t a.0.0 a.0.1 (element-found t a.0 a.1)))
      (or-some (read_anchor AtStart AtEnd AtEdge AtNoEdge t) (and_then (read_element inner t) (λ e' u. Some (quantified e' u))) x e)

  pieces-found : (m : ℕ) (t : Text) (x : Pieces × Text) → pieces_from inner m t ≡ Some x → ReadsPieces n t x.0 x.1
  unfolding pieces_from
  pieces-found zero t x e =
      let g = guarded (ends t) (Some (none, t)) x e in moved (λ (ps : Pieces) (w : Text). ReadsPieces n t ps w) none t x g.1 no_piece
  pieces-found (suc m) t x e = ⊎_elim
      (λ c. moved (λ (ps : Pieces) (w : Text). ReadsPieces n t ps w) none t x c.1 no_piece)
      (λ c. let a = bind-some (read_piece inner t) (λ p u. mapped (more p) (pieces_from inner m u)) x c.1 in
      let k = mapped-some (more a.0.0) (pieces_from inner m a.0.1) x a.2 in
      subst (λ (ps : Pieces). ReadsPieces n t ps x.1) k.2 (piece_then (piece-found t a.0 a.1) (pieces-found m a.0.1 (k.0, x.1) k.1)))
      (chosen (ends t) (Some (none, t)) (and_then (read_piece inner t) (λ p u. mapped (more p) (pieces_from inner m u))) (Some x) e)

  whole-found : (t : Text) (x : Pieces × Text) → read_pieces inner t ≡ Some x → ReadsPieces n t x.0 x.1
  unfolding read_pieces
  whole-found t x e = pieces-found (length t) t x e

  branches-found : (m : ℕ) (t : Text) (x : Branches × Text) → branches_from inner m t ≡ Some x → ReadsBranches n t x.0 x.1
  unfolding branches_from
  branches-found zero t x e = absurd cc
  branches-found (suc m) t x e =
      let a = bind-some (read_pieces inner t) (λ ps u. if sees 124 u then mapped (or ps) (branches_from inner m (after 124 u)) else Some (only ps, after 124 u)) x e in
      let ps : Pieces = a.0.0 in
      let u : Text = a.0.1 in
      let r = whole-found t a.0 a.1 in
      ⊎_elim
      (λ c. let k = mapped-some (or ps) (branches_from inner m (after 124 u)) x c.1 in
      subst (λ (bs : Branches). ReadsBranches n t bs x.1) k.2
      (branch_then (subst (λ (w : Text). ReadsPieces n t ps w) (after-true 124 u c.0) r) (branches-found m (after 124 u) (k.0, x.1) k.1)))
      (λ c. moved (λ (bs : Branches) (w : Text). ReadsBranches n t bs w) (only ps) (after 124 u) x c.1
      (last_branch (subst (λ (w : Text). ReadsPieces n t ps w) (sym (after-false 124 u c.0)) r)))
      (chosen (sees 124 u) (mapped (or ps) (branches_from inner m (after 124 u))) (Some (only ps, after 124 u)) (Some x) a.2)

  expression-found : (t : Text) (x : Branches × Text) → read_branches inner t ≡ Some x → ReadsBranches n t x.0 x.1
  unfolding read_branches
  expression-found t x e = branches-found (suc (length t)) t x e

group-found : (n : ℕ) (t : Text) (x : Branches × Text) → group_at n t ≡ Some x → ReadsElement n (40 ∷ t) (Group x.0) x.1
unfolding group_at
group-found zero t x e = absurd cc
group-found (suc n) t x e =
    let a = bind-some (read_branches (group_at n) t) (λ bs u. if sees 41 u then Some (bs, after 41 u) else None) x e in
    let g = guarded (sees 41 a.0.1) (Some (a.0.0, after 41 a.0.1)) x a.2 in
    let r = expression-found n (group_at n) (group-found n) t a.0 a.1 in
    moved (λ (bs : Branches) (w : Text). ReadsElement (suc n) (40 ∷ t) (Group bs) w) a.0.0 (after 41 a.0.1) x g.1
    (group (subst (λ (w : Text). ReadsBranches n t a.0.0 w) (after-true 41 a.0.1 g.0) r))

-- a whole text
pub regex-sound : (t : Text) (x : Branches × Text) → read_branches (group_at 64) t ≡ Some x → ReadsBranches 64 t x.0 x.1
regex-sound t x e = expression-found 64 (group_at 64) (group-found 64) t x e
