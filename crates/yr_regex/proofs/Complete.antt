-- What the grammar has is read.
use Rattle.std.proofs.Common.{◌≡◌, ℕ, zero, suc, ◌<◌, ◌≤◌, ⊎_elim, Bool, true, false, [], ◌∷◌, length, Option, Some, None, if◌then◌else◌, refl, sym, ap, ◌∙◌, arith}
use Rattle.std.specs.Prelude.{◌==◌}
use Rattle.std.proofs.lemmas.Bool.{ne_eqb, eqb-true, or_from, or_cases}
use Rattle.yr_regex.specs.declared.bounds.Bounds.{Bounds}
use Rattle.yr_regex.specs.Escapes.{Text, is_sign, kind, ReadsEscape, letter, number}
use Rattle.yr_regex.specs.Quantifiers.{BeginsNone}
use Rattle.yr_regex.specs.Classes.{members, complement}
use Rattle.yr_regex.specs.Expressions.{Element, Piece, Pieces, Branches, Byte, Any, Set, Group, Alone, Repeated, AtStart, AtEnd, AtEdge, AtNoEdge, none, more, only, or}
use Rattle.yr_regex.specs.Grammar.{ReadsElement, byte, escape, any, set, class, group, ReadsPiece, alone, repeated, lazy, start, end, edge, no_edge, ReadsPieces, no_piece, piece_then, ReadsBranches, last_branch, branch_then, SpellsRegex}
use Rattle.yr_regex.specs.Reading.{Outcome, and_then, or_else, mapped, is_some, sees, after, bounds, same, read_escaped, read_escape, read_class, read_quantifier, read_byte, read_simple, read_edge, read_anchor, repeat_by, quantified, ends, read_element, read_piece, pieces_from, read_pieces, branches_from, read_branches, group_at}
use Rattle.yr_regex.proofs.Basics.{bool_cases}
use Rattle.yr_regex.proofs.StepLemmas.{if_true, if_false, then-some}
use Rattle.yr_regex.proofs.OutcomeLemmas.{after-false}
use Rattle.yr_regex.proofs.NumberLemmas.{quantifier-complete, quantifier-found, Quantifier-shorter}
use Rattle.yr_regex.proofs.ByteLemmas.{escaped-is_no, escape-read, escape-no_kind, kind-is_no, kind-read, Escape-shorter}
use Rattle.yr_regex.proofs.ClassLemmas.{class-read, Class-shorter}

-- ---- bytes

sign-is_no : (b sign : ℕ) → is_sign b ≡ false → is_sign sign ≡ true → b ≡ sign → ⊥
sign-is_no b sign h k e = let f = ap (λ (x : ℕ). is_sign x) e in absurd cc

quantifier-none : (t : Text) → BeginsNone t → read_quantifier same t ≡ None
quantifier-none t n = go (read_quantifier same t) refl
  where
    go : (o : Outcome Bounds) → read_quantifier same t ≡ o → read_quantifier same t ≡ None
    go None e = e
    go (Some x) e = absurd (n x.0.least x.0.most x.0.exact x.1 (quantifier-found t x e))

byte-simple : (b : ℕ) (rest : Text) → is_sign b ≡ false → BeginsNone (b ∷ rest) → read_simple b rest ≡ Some (Byte b, rest)
unfolding read_simple read_byte
byte-simple b rest h n =
    if_false (b == 91) _ _ (ne_eqb b 91 (sign-is_no b 91 h refl)) ∙ if_false (b == 92) _ _ (ne_eqb b 92 (sign-is_no b 92 h refl))
    ∙ if_false (b == 46) _ _ (ne_eqb b 46 (sign-is_no b 46 h refl)) ∙ if_false (is_sign b) _ _ h
    ∙ if_false (is_some (read_quantifier same (b ∷ rest))) _ _ (ap is_some (quantifier-none (b ∷ rest) n))

escape-part : {b : ℕ} {t rest : Text} → ReadsEscape t b rest → (u : Text) → t ≡ 92 ∷ u → read_escaped u ≡ Some (b, rest) → read_simple 92 u ≡ Some (Byte b, rest)
unfolding read_simple read_escape
escape-part r u e f =
    ap (λ (o : Outcome (ℕ → Bool)). or_else (mapped Set o) (mapped Byte (read_escaped u))) (escape-no_kind r u e)
    ∙ ap (λ (o : Outcome ℕ). mapped Byte o) f

set-part : (c : ℕ) (bytes : ℕ → Bool) (rest : Text) → kind c ≡ Some bytes → read_simple 92 (c ∷ rest) ≡ Some (Set bytes, rest)
unfolding read_simple read_escape
set-part c bytes rest e = ap (λ (o : Outcome (ℕ → Bool)). or_else (mapped Set o) (mapped Byte (read_escaped (c ∷ rest)))) (kind-read c bytes rest e)

class-part : (u : Text) → read_simple 91 u ≡ read_class u
unfolding read_simple
class-part u = refl

any-part : (u : Text) → read_simple 46 u ≡ Some (Any, u)
unfolding read_simple
any-part u = refl

-- ---- what an element begins with

byte-no_anchor : (b : ℕ) (rest : Text) → is_sign b ≡ false → read_anchor AtStart AtEnd AtEdge AtNoEdge (b ∷ rest) ≡ None
unfolding read_anchor
byte-no_anchor b rest h =
    if_false (b == 94) _ _ (ne_eqb b 94 (sign-is_no b 94 h refl)) ∙ if_false (b == 36) _ _ (ne_eqb b 36 (sign-is_no b 36 h refl))
    ∙ if_false (b == 92) _ _ (ne_eqb b 92 (sign-is_no b 92 h refl))

letter-no_anchor : (c : ℕ) (rest : Text) → (c ≡ 98 → ⊥) → (c ≡ 66 → ⊥) → read_anchor AtStart AtEnd AtEdge AtNoEdge (92 ∷ c ∷ rest) ≡ None
unfolding read_anchor read_edge
letter-no_anchor c rest h k = if_false (c == 98) _ _ (ne_eqb c 98 h) ∙ if_false (c == 66) _ _ (ne_eqb c 66 k)

element-no_anchor : {n : ℕ} {e : Element} {t rest : Text} → ReadsElement n t e rest → read_anchor AtStart AtEnd AtEdge AtNoEdge t ≡ None
unfolding read_anchor read_edge
element-no_anchor (byte {b = b} {rest = rest} h n) = byte-no_anchor b rest h
element-no_anchor (escape (letter {c = c} {b = b} {rest = rest} e)) = letter-no_anchor c rest (escaped-is_no c 98 b e refl) (escaped-is_no c 66 b e refl)
element-no_anchor (escape (number e f)) = refl
element-no_anchor any = refl
element-no_anchor (set {c = c} {bytes = bytes} {rest = rest} e) = letter-no_anchor c rest (kind-is_no c 98 bytes e refl) (kind-is_no c 66 bytes e refl)
element-no_anchor (class (members h r)) = refl
element-no_anchor (class (complement r)) = refl
element-no_anchor (group r) = refl

element-no_quantifier : {n : ℕ} {e : Element} {t rest : Text} → ReadsElement n t e rest → read_quantifier same t ≡ None
unfolding read_quantifier
element-no_quantifier (byte {b = b} {rest = rest} h n) = quantifier-none (b ∷ rest) n
element-no_quantifier (escape (letter e)) = refl
element-no_quantifier (escape (number e f)) = refl
element-no_quantifier any = refl
element-no_quantifier (set e) = refl
element-no_quantifier (class (members h r)) = refl
element-no_quantifier (class (complement r)) = refl
element-no_quantifier (group r) = refl

element-no_end : {n : ℕ} {e : Element} {t rest : Text} → ReadsElement n t e rest → ends t ≡ false
element-no_end (byte {b = b} h n) = or_from (b == 41) (b == 124) (ne_eqb b 41 (sign-is_no b 41 h refl)) (ne_eqb b 124 (sign-is_no b 124 h refl))
element-no_end (escape (letter e)) = refl
element-no_end (escape (number e f)) = refl
element-no_end any = refl
element-no_end (set e) = refl
element-no_end (class (members h r)) = refl
element-no_end (class (complement r)) = refl
element-no_end (group r) = refl

piece-no_quantifier : {n : ℕ} {p : Piece} {t rest : Text} → ReadsPiece n t p rest → read_quantifier same t ≡ None
unfolding read_quantifier
piece-no_quantifier (alone r) = element-no_quantifier r
piece-no_quantifier (repeated r q) = element-no_quantifier r
piece-no_quantifier (lazy r q) = element-no_quantifier r
piece-no_quantifier start = refl
piece-no_quantifier end = refl
piece-no_quantifier edge = refl
piece-no_quantifier no_edge = refl

piece-no_end : {n : ℕ} {p : Piece} {t rest : Text} → ReadsPiece n t p rest → ends t ≡ false
piece-no_end (alone r) = element-no_end r
piece-no_end (repeated r q) = element-no_end r
piece-no_end (lazy r q) = element-no_end r
piece-no_end start = refl
piece-no_end end = refl
piece-no_end edge = refl
piece-no_end no_edge = refl

ends-no_quantifier : (t : Text) → ends t ≡ true → read_quantifier same t ≡ None
unfolding read_quantifier
ends-no_quantifier [] h = refl
ends-no_quantifier (b ∷ t) h = ⊎_elim
    (λ e. ap (λ (x : ℕ). read_quantifier same (x ∷ t)) (eqb-true b 41 e))
    (λ e. ap (λ (x : ℕ). read_quantifier same (x ∷ t)) (eqb-true b 124 e))
    (or_cases (b == 41) (b == 124) h)

-- what follows a sequence of pieces begins no quantifier
pieces-no_quantifier : {n : ℕ} {ps : Pieces} {t rest : Text} → ReadsPieces n t ps rest → ends rest ≡ true → read_quantifier same t ≡ None
pieces-no_quantifier (no_piece {t = t}) h = ends-no_quantifier t h
pieces-no_quantifier (piece_then r rs) h = piece-no_quantifier r

no_lazy : (t : Text) → read_quantifier same t ≡ None → sees 63 t ≡ false
unfolding sees read_quantifier
no_lazy [] h = refl
no_lazy (b ∷ t) h = bool_cases ((b == 63) ≡ false) (b == 63)
    (λ e. let f = ap (λ (x : ℕ). read_quantifier same (x ∷ t)) (sym (eqb-true b 63 e)) ∙ h in absurd cc)
    (λ e. e)

-- ---- each part takes a byte

mutual
  pub Element-shorter : {n : ℕ} {e : Element} {t rest : Text} → ReadsElement n t e rest → length rest < length t
  Element-shorter (byte h n) = omega arith
  Element-shorter (escape r) = Escape-shorter r
  Element-shorter any = omega arith
  Element-shorter (set e) = omega arith
  Element-shorter (class r) = Class-shorter r
  Element-shorter (group r) = let s = Branches-shorter r in omega arith

  pub Piece-shorter : {n : ℕ} {p : Piece} {t rest : Text} → ReadsPiece n t p rest → length rest < length t
  Piece-shorter (alone r) = Element-shorter r
  Piece-shorter (repeated r q) = let a = Element-shorter r in let b = Quantifier-shorter q in omega arith
  Piece-shorter (lazy r q) = let a = Element-shorter r in let b = Quantifier-shorter q in omega arith
  Piece-shorter start = omega arith
  Piece-shorter end = omega arith
  Piece-shorter edge = omega arith
  Piece-shorter no_edge = omega arith

  pub Pieces-shorter : {n : ℕ} {ps : Pieces} {t rest : Text} → ReadsPieces n t ps rest → length rest ≤ length t
  Pieces-shorter no_piece = omega arith
  Pieces-shorter (piece_then r rs) = let a = Piece-shorter r in let b = Pieces-shorter rs in omega arith

  pub Branches-shorter : {n : ℕ} {bs : Branches} {t rest : Text} → ReadsBranches n t bs rest → length rest ≤ length t
  Branches-shorter (last_branch r) = Pieces-shorter r
  Branches-shorter (branch_then r rs) = let a = Pieces-shorter r in let b = Branches-shorter rs in omega arith

-- ---- one step

module _ (group : Text → Outcome Branches) where
  no_group : (b : ℕ) (u : Text) → (b == 40) ≡ false → read_element group (b ∷ u) ≡ read_simple b u
  unfolding read_element
  no_group b u h = if_false (b == 40) _ _ h

  at_group : (u : Text) → read_element group (40 ∷ u) ≡ mapped Group (group u)
  unfolding read_element
  at_group u = refl

  piece-read : (t : Text) (e : Element) (u : Text) → read_anchor AtStart AtEnd AtEdge AtNoEdge t ≡ None → read_element group t ≡ Some (e, u) → read_piece group t ≡ Some (quantified e u)
  unfolding read_piece
  piece-read t e u h k =
      ap (λ (o : Outcome Piece). or_else o (and_then (read_element group t) (λ e' u'. Some (quantified e' u')))) h
      ∙ then-some (read_element group t) (λ e' u'. Some (quantified e' u')) (e, u) k

  anchor-read : (t : Text) (p : Piece) (u : Text) → read_anchor AtStart AtEnd AtEdge AtNoEdge t ≡ Some (p, u) → read_piece group t ≡ Some (p, u)
  unfolding read_piece
  anchor-read t p u h = ap (λ (o : Outcome Piece). or_else o (and_then (read_element group t) (λ e' u'. Some (quantified e' u')))) h

  pieces-stop : (m : ℕ) (t : Text) → ends t ≡ true → pieces_from group m t ≡ Some (none, t)
  unfolding pieces_from
  pieces-stop zero t h = if_true (ends t) _ _ h
  pieces-stop (suc m) t h = if_true (ends t) _ _ h

  pieces-next : (m : ℕ) (t : Text) (p : Piece) (u : Text) → ends t ≡ false → read_piece group t ≡ Some (p, u)
      → pieces_from group (suc m) t ≡ mapped (more p) (pieces_from group m u)
  unfolding pieces_from
  pieces-next m t p u h e = if_false (ends t) _ _ h ∙ then-some (read_piece group t) (λ p' u'. mapped (more p') (pieces_from group m u')) (p, u) e

  abbrev after_branch : ℕ → Pieces → Text → Outcome Branches
  after_branch m ps u = if sees 124 u then mapped (or ps) (branches_from group m (after 124 u)) else Some (only ps, after 124 u)

  branches-end : (m : ℕ) (t : Text) (ps : Pieces) (u : Text) → read_pieces group t ≡ Some (ps, u) → sees 124 u ≡ false → branches_from group (suc m) t ≡ Some (only ps, u)
  unfolding branches_from
  branches-end m t ps u e h = then-some (read_pieces group t) (after_branch m) (ps, u) e ∙ if_false (sees 124 u) _ _ h ∙ ap (λ (x : Text). Some (only ps, x)) (after-false 124 u h)

  branches-next : (m : ℕ) (t : Text) (ps : Pieces) (u : Text) → read_pieces group t ≡ Some (ps, 124 ∷ u) → branches_from group (suc m) t ≡ mapped (or ps) (branches_from group m u)
  unfolding branches_from sees after
  branches-next m t ps u e = then-some (read_pieces group t) (after_branch m) (ps, 124 ∷ u) e

pieces-whole : (inner : Text → Outcome Branches) (t : Text) (ps : Pieces) (rest : Text) → pieces_from inner (length t) t ≡ Some (ps, rest) → read_pieces inner t ≡ Some (ps, rest)
unfolding read_pieces
pieces-whole inner t ps rest e = e

group-read : (n : ℕ) (t : Text) (bs : Branches) (rest : Text) → branches_from (group_at n) (suc (length t)) t ≡ Some (bs, 41 ∷ rest) → group_at (suc n) t ≡ Some (bs, rest)
unfolding group_at read_branches sees after
group-read n t bs rest e = then-some (read_branches (group_at n) t) (λ bs' u. if sees 41 u then Some (bs', after 41 u) else None) (bs, 41 ∷ rest) e

quantified-none : (e : Element) (u : Text) → read_quantifier same u ≡ None → ◌≡◌ {A = Piece × Text} (quantified e u) (Alone e, u)
unfolding quantified
quantified-none e u h = ap (λ (o : Outcome Bounds). repeat_by e u o) h

quantified-some : (e : Element) (u rest : Text) (least : ℕ) (most : Option ℕ) (exact : Bool) → read_quantifier same u ≡ Some (bounds least most exact, rest) → sees 63 rest ≡ false
    → ◌≡◌ {A = Piece × Text} (quantified e u) (Repeated e (length u) least most exact false, rest)
unfolding quantified
quantified-some e u rest least most exact h k =
    ap (λ (o : Outcome Bounds). repeat_by e u o) h
    ∙ ap (λ (b : Bool). (Repeated e (length u) least most exact b, after 63 rest)) k ∙ ap (λ (x : Text). (Repeated e (length u) least most exact false, x)) (after-false 63 rest k)

quantified-lazy : (e : Element) (u rest : Text) (least : ℕ) (most : Option ℕ) (exact : Bool) → read_quantifier same u ≡ Some (bounds least most exact, 63 ∷ rest)
    → ◌≡◌ {A = Piece × Text} (quantified e u) (Repeated e (length u) least most exact true, rest)
unfolding quantified sees after
quantified-lazy e u rest least most exact h = ap (λ (o : Outcome Bounds). repeat_by e u o) h

as_some : {A : Type 0} (x y : A) → x ≡ y → ◌≡◌ {A = Option A} (Some x) (Some y)
as_some x y e = ap (λ z. Some z) e

-- ---- all parts

close-no_bar : (rest : Text) → sees 124 (41 ∷ rest) ≡ false
unfolding sees
close-no_bar rest = refl

at_start : (rest : Text) → read_anchor AtStart AtEnd AtEdge AtNoEdge (94 ∷ rest) ≡ Some (AtStart, rest)
unfolding read_anchor read_edge
at_start rest = refl

at_end : (rest : Text) → read_anchor AtStart AtEnd AtEdge AtNoEdge (36 ∷ rest) ≡ Some (AtEnd, rest)
unfolding read_anchor read_edge
at_end rest = refl

at_edge : (rest : Text) → read_anchor AtStart AtEnd AtEdge AtNoEdge (92 ∷ 98 ∷ rest) ≡ Some (AtEdge, rest)
unfolding read_anchor read_edge
at_edge rest = refl

at_no_edge : (rest : Text) → read_anchor AtStart AtEnd AtEdge AtNoEdge (92 ∷ 66 ∷ rest) ≡ Some (AtNoEdge, rest)
unfolding read_anchor read_edge
at_no_edge rest = refl

mutual
  element-complete : {n : ℕ} {e : Element} {t rest : Text} → ReadsElement n t e rest → read_element (group_at n) t ≡ Some (e, rest)
  element-complete (byte {n = n} {b = b} {rest = rest} h m) = no_group (group_at n) b rest (ne_eqb b 40 (sign-is_no b 40 h refl)) ∙ byte-simple b rest h m
  element-complete (escape {n = n} r) =
      let e = escape-read r in
      ap (λ (u : Text). read_element (group_at n) u) e.1 ∙ no_group (group_at n) 92 e.0 refl ∙ escape-part r e.0 e.1 e.2
  element-complete (any {n = n} {rest = rest}) = no_group (group_at n) 46 rest refl ∙ any-part rest
  element-complete (set {n = n} {c = c} {bytes = bytes} {rest = rest} e) = no_group (group_at n) 92 (c ∷ rest) refl ∙ set-part c bytes rest e
  element-complete (class {n = n} r) =
      let e = class-read r in
      ap (λ (u : Text). read_element (group_at n) u) e.1 ∙ no_group (group_at n) 91 e.0 refl ∙ class-part e.0 ∙ e.2
  element-complete (group {n = n} {bs = bs} {t = t} {rest = rest} r) =
      at_group (group_at (suc n)) t
      ∙ ap (λ (o : Outcome Branches). mapped Group o) (group-read n t bs rest (branches-complete r refl (close-no_bar rest) (suc (length t)) (omega arith)))

  piece-complete : {n : ℕ} {p : Piece} {t rest : Text} → ReadsPiece n t p rest → read_quantifier same rest ≡ None → read_piece (group_at n) t ≡ Some (p, rest)
  piece-complete (alone {n = n} {e = e} {t = t} {rest = rest} r) h =
      piece-read (group_at n) t e rest (element-no_anchor r) (element-complete r) ∙ as_some (quantified e rest) (Alone e, rest) (quantified-none e rest h)
  piece-complete (repeated {n = n} {least = least} {most = most} {exact = exact} {e = e} {t = t} {u = u} {rest = rest} r q) h =
      piece-read (group_at n) t e u (element-no_anchor r) (element-complete r)
      ∙ as_some (quantified e u) (Repeated e (length u) least most exact false, rest) (quantified-some e u rest least most exact (quantifier-complete q) (no_lazy rest h))
  piece-complete (lazy {n = n} {least = least} {most = most} {exact = exact} {e = e} {t = t} {u = u} {rest = rest} r q) h =
      piece-read (group_at n) t e u (element-no_anchor r) (element-complete r)
      ∙ as_some (quantified e u) (Repeated e (length u) least most exact true, rest) (quantified-lazy e u rest least most exact (quantifier-complete q))
  piece-complete (start {n = n} {rest = rest}) h = anchor-read (group_at n) (94 ∷ rest) AtStart rest (at_start rest)
  piece-complete (end {n = n} {rest = rest}) h = anchor-read (group_at n) (36 ∷ rest) AtEnd rest (at_end rest)
  piece-complete (edge {n = n} {rest = rest}) h = anchor-read (group_at n) (92 ∷ 98 ∷ rest) AtEdge rest (at_edge rest)
  piece-complete (no_edge {n = n} {rest = rest}) h = anchor-read (group_at n) (92 ∷ 66 ∷ rest) AtNoEdge rest (at_no_edge rest)

  pieces-complete : {n : ℕ} {ps : Pieces} {t rest : Text} → ReadsPieces n t ps rest → ends rest ≡ true → (m : ℕ) → length t ≤ m → pieces_from (group_at n) m t ≡ Some (ps, rest)
  pieces-complete (no_piece {n = n} {t = t}) h m b = pieces-stop (group_at n) m t h
  pieces-complete (piece_then r rs) h zero b = let s = Piece-shorter r in absurd (omega arith)
  pieces-complete (piece_then {n = n} {p = p} {t = t} {u = u} r rs) h (suc m) b =
      let s = Piece-shorter r in
      pieces-next (group_at n) m t p u (piece-no_end r) (piece-complete r (pieces-no_quantifier rs h))
      ∙ ap (λ (o : Outcome Pieces). mapped (more p) o) (pieces-complete rs h m (omega arith))

  pub branches-complete : {n : ℕ} {bs : Branches} {t rest : Text} → ReadsBranches n t bs rest → ends rest ≡ true → sees 124 rest ≡ false → (m : ℕ) → length t < m
      → branches_from (group_at n) m t ≡ Some (bs, rest)
  branches-complete r h k zero b = absurd (omega arith)
  branches-complete (last_branch {n = n} {ps = ps} {t = t} {rest = rest} r) h k (suc m) b =
      branches-end (group_at n) m t ps rest (pieces-whole (group_at n) t ps rest (pieces-complete r h (length t) (omega arith))) k
  branches-complete (branch_then {n = n} {ps = ps} {t = t} {u = u} r rs) h k (suc m) b =
      let s = Pieces-shorter r in
      branches-next (group_at n) m t ps u (pieces-whole (group_at n) t ps (124 ∷ u) (pieces-complete r refl (length t) (omega arith)))
      ∙ ap (λ (o : Outcome Branches). mapped (or ps) o) (branches-complete rs h k m (omega arith))

-- a whole text
pub regex-complete : (t : Text) (bs : Branches) → SpellsRegex t bs → read_branches (group_at 64) t ≡ Some (bs, [])
unfolding read_branches sees
regex-complete t bs r = branches-complete r refl refl (suc (length t)) (omega arith)
