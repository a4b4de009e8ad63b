-- Blanks and comments: what is read is what the definition has, and one gap.
use Rattle.std.proofs.Common.{◌≡◌, ◌≢◌, ℕ, ◌<◌, ◌≤◌, Bool, true, false, [], ◌∷◌, ◌++◌, length, Option, Some, None, if◌then◌else◌, refl, sym, ap, subst, ◌∙◌, append_assoc, arith}
use Rattle.std.specs.Prelude.{◌==◌}
use Rattle.std.proofs.lemmas.Bool.{ne_eqb, eqb-true, eqb-false}
use Rattle.yr_base.specs.Bytes.{is_blank}
use Rattle.yr_lexer.specs.Gaps.{Text, Line, at_end, at_feed, more, Block, closes, inside, Comment, line, block, Piece, blank, comment, Gap, ends, piece}
use Rattle.yr_lexer.specs.Reading.{past_line, past_block, past_comment, past_piece}
use Rattle.yr_lexer.proofs.Basics.{by_test}

pub line-read : (t : Text) → Line t (past_line t)
unfolding past_line
line-read [] = at_end
line-read (b ∷ t) = by_test (b == 10) (b ∷ t) (past_line t) (λ r. Line (b ∷ t) r)
    (λ e. subst (λ (x : ℕ). Line (x ∷ t) (x ∷ t)) (sym (eqb-true b 10 e)) at_feed) (λ e. more (eqb-false b 10 e) (line-read t))

pub line-one : {t rest : Text} → Line t rest → past_line t ≡ rest
unfolding past_line
line-one at_end = refl
line-one at_feed = refl
line-one (more {b = b} n r) = rw (ne_eqb b 10 n) (line-one r)

-- after a star if the flag is set
abbrev BlockAfter : Bool → Text → Text → Type 0
BlockAfter true t rest = Block (42 ∷ t) rest
BlockAfter false t rest = Block t rest

abbrev Found : Bool → Text → Option Text → Type 0
Found star t None = Unit {0}
Found star t (Some rest) = BlockAfter star t rest

block-next : (b : ℕ) (t : Text) (o : Option Text) (y : Bool) → (b == 42) ≡ y → Found y t o → Found false (b ∷ t) o
block-next b t None y e h = tt
block-next b t (Some rest) true e h = subst (λ (x : ℕ). Block (x ∷ t) rest) (sym (eqb-true b 42 e)) h
block-next b t (Some rest) false e h = inside (λ u same. eqb-false b 42 e (cc same)) h

block-star : (b : ℕ) (t : Text) (o : Option Text) → (b == 47) ≡ false → Found false (b ∷ t) o → Found true (b ∷ t) o
block-star b t None e h = tt
block-star b t (Some rest) e h = inside (λ u same. eqb-false b 47 e (cc same)) h

pub block-found : (t : Text) (star : Bool) → Found star t (past_block star t)
unfolding past_block
block-found [] star = tt
block-found (b ∷ t) false = block-next b t (past_block (b == 42) t) (b == 42) refl (block-found t (b == 42))
block-found (b ∷ t) true = by_test (b == 47) (Some t) (past_block (b == 42) t) (Found true (b ∷ t))
    (λ e. subst (λ (x : ℕ). Block (42 ∷ x ∷ t) t) (sym (eqb-true b 47 e)) closes)
    (λ e. block-star b t (past_block (b == 42) t) e (block-next b t (past_block (b == 42) t) (b == 42) refl (block-found t (b == 42))))

-- a star before changes nothing where no slash follows
star-idle : (t : Text) → ((u : Text) → t ≢ 47 ∷ u) → past_block true t ≡ past_block false t
unfolding past_block
star-idle [] n = refl
star-idle (b ∷ t) n = rw (ne_eqb b 47 (λ e. n t (ap (λ (x : ℕ). x ∷ t) e))) refl

any-star : (b : ℕ) (t : Text) (y : Bool) → (b == 42) ≡ y → ((u : Text) → b ∷ t ≢ 42 ∷ 47 ∷ u) → past_block y t ≡ past_block false t
any-star b t false e n = refl
any-star b t true e n =
    let is : b ≡ 42 = eqb-true b 42 e in
    star-idle t (λ u same. n u (ap (λ (x : ℕ). x ∷ t) is ∙ ap (λ (xs : Text). 42 ∷ xs) same))

pub block-read : {t rest : Text} → Block t rest → past_block false t ≡ Some rest
unfolding past_block
block-read closes = refl
block-read (inside {b = b} {t = t} n r) = any-star b t (b == 42) refl n ∙ block-read r

pub block-none : (t : Text) → past_block false t ≡ None → (rest : Text) → ¬ Block t rest
block-none t e rest r = let h = block-read r in cc

pub block-some : (t rest : Text) → past_block false t ≡ Some rest → Block t rest
block-some t rest e = subst (Found false t) e (block-found t false)

pub Line-shorter : {t rest : Text} → Line t rest → length rest ≤ length t
Line-shorter at_end = omega arith
Line-shorter at_feed = omega arith
Line-shorter (more n r) = let h = Line-shorter r in omega arith

pub Block-shorter : {t rest : Text} → Block t rest → length rest ≤ length t
Block-shorter closes = omega arith
Block-shorter (inside n r) = let h = Block-shorter r in omega arith

pub Comment-shorter : {t rest : Text} → Comment t rest → length rest < length t
Comment-shorter (line r) = let h = Line-shorter r in omega arith
Comment-shorter (block r) = let h = Block-shorter r in omega arith

pub Piece-shorter : {t rest : Text} → Piece t rest → length rest < length t
Piece-shorter (blank h) = omega arith
Piece-shorter (comment r) = Comment-shorter r

-- what the test of a comment says
abbrev IsComment : Text → Option Text → Type 0
IsComment t None = (rest : Text) → ¬ Comment t rest
IsComment t (Some rest) = Comment t rest

block-comment : (t : Text) (o : Option Text) → past_block false t ≡ o → IsComment (47 ∷ 42 ∷ t) o
block-comment t None e = no
  where
    no : (rest : Text) → ¬ Comment (47 ∷ 42 ∷ t) rest
    no rest (block r) = block-none t e rest r
block-comment t (Some rest) e = block (block-some t rest e)

no_comment : (b : ℕ) (t : Text) → b ≢ 47 → b ≢ 42 → (rest : Text) → ¬ Comment (47 ∷ b ∷ t) rest
no_comment b t n m rest c = go (47 ∷ b ∷ t) refl c
  where
    go : (x : Text) → x ≡ 47 ∷ b ∷ t → ¬ Comment x rest
    go x e (line r) = n (cc e)
    go x e (block r) = m (cc e)

no_comment-short : (rest : Text) → ¬ Comment (47 ∷ []) rest
no_comment-short rest c = elim c [ ]

pub comment-found : (t : Text) → IsComment (47 ∷ t) (past_comment t)
comment-found [] = no_comment-short
comment-found (b ∷ t) = by_test (b == 47) (Some (past_line t)) (if b == 42 then past_block false t else None) (IsComment (47 ∷ b ∷ t))
    (λ e. subst (λ (x : ℕ). Comment (47 ∷ x ∷ t) (past_line t)) (sym (eqb-true b 47 e)) (line (line-read t)))
    (λ n. by_test (b == 42) (past_block false t) None (IsComment (47 ∷ b ∷ t))
    (λ e. subst (λ (x : ℕ). IsComment (47 ∷ x ∷ t) (past_block false t)) (sym (eqb-true b 42 e)) (block-comment t (past_block false t) refl))
    (λ m. no_comment b t (eqb-false b 47 n) (eqb-false b 42 m)))

pub comment-some : (t rest : Text) → past_comment t ≡ Some rest → Comment (47 ∷ t) rest
comment-some t rest e = subst (IsComment (47 ∷ t)) e (comment-found t)

pub comment-none : (t : Text) → past_comment t ≡ None → (rest : Text) → ¬ Comment (47 ∷ t) rest
comment-none t e = subst (IsComment (47 ∷ t)) e (comment-found t)

pub comment-read : {t rest : Text} → Comment t rest → (u : Text) × (t ≡ 47 ∷ u) × (past_comment u ≡ Some rest)
comment-read (line {t = t} r) = (47 ∷ t, refl, ap (λ (x : Text). Some x) (line-one r))
comment-read (block {t = t} r) = (42 ∷ t, refl, block-read r)

pub comment-one : (t r s : Text) → Comment t r → Comment t s → r ≡ s
comment-one t r s c d = let x = comment-read c in let y = comment-read d in let e = x.1 in let f = y.1 in let g = x.2 in let h = y.2 in cc

abbrev IsPiece : Text → Option Text → Type 0
IsPiece t None = Unit {0}
IsPiece t (Some rest) = Piece t rest

comment-piece : (t : Text) (o : Option Text) → past_comment t ≡ o → IsPiece (47 ∷ t) o
comment-piece t None e = tt
comment-piece t (Some rest) e = comment (comment-some t rest e)

piece-found : (t : Text) → IsPiece t (past_piece t)
unfolding past_piece
piece-found [] = tt
piece-found (b ∷ t) = by_test (is_blank b) (Some t) (if b == 47 then past_comment t else None) (IsPiece (b ∷ t)) (λ e. blank e)
    (λ _. by_test (b == 47) (past_comment t) None (IsPiece (b ∷ t))
    (λ e. subst (λ (x : ℕ). IsPiece (x ∷ t) (past_comment t)) (sym (eqb-true b 47 e)) (comment-piece t (past_comment t) refl)) (λ _. tt))

pub piece-some : (t rest : Text) → past_piece t ≡ Some rest → Piece t rest
piece-some t rest e = subst (IsPiece t) e (piece-found t)

comment-piece_read : (t rest u : Text) → t ≡ 47 ∷ u → past_comment u ≡ Some rest → past_piece t ≡ Some rest
unfolding past_piece
comment-piece_read t rest u e h = rw e h

pub piece-read : {t rest : Text} → Piece t rest → past_piece t ≡ Some rest
unfolding past_piece
piece-read (blank h) = rw h refl
piece-read (comment {t = t} {rest = rest} c) = let x = comment-read c in comment-piece_read t rest x.0 x.1 x.2

pub piece-none : (t : Text) → past_piece t ≡ None → (rest : Text) → ¬ Piece t rest
piece-none t e rest p = let h = piece-read p in cc

pub gap-ends : (t : Text) → past_piece t ≡ None → Gap t t
gap-ends t e = ends (piece-none t e)

piece-one : (t r s : Text) → Piece t r → Piece t s → r ≡ s
piece-one t r s p q = let e = piece-read p in let f = piece-read q in cc

pub gap-one : {t u : Text} → Gap t u → (v : Text) → Gap t v → u ≡ v
gap-one (ends n) v (ends m) = refl
gap-one (ends n) v (piece p g) = absurd (n _ p)
gap-one (piece p g) v (ends m) = absurd (m _ p)
gap-one (piece {t = t} {more = m} p g) v (piece {more = m'} q h) =
    gap-one g v (subst (λ (x : Text). Gap x v) (sym (piece-one t m m' p q)) h)

pub gap-last : {t u : Text} → Gap t u → (rest : Text) → ¬ Piece u rest
gap-last (ends n) = n
gap-last (piece p g) = gap-last g

pub gap-trans : {t u v : Text} → Gap t u → Gap u v → Gap t v
gap-trans (ends n) g' = g'
gap-trans (piece p g) g' = piece p (gap-trans g g')

-- ---- each is a front of the text

abbrev pub HasFront : Text → Text → Type 0
HasFront t rest = (w : Text) × (t ≡ w ++ rest)

pub front-next : (b : ℕ) (t rest : Text) → HasFront t rest → HasFront (b ∷ t) rest
front-next b t rest f = (b ∷ f.0, ap (λ (x : Text). b ∷ x) f.1)

pub front-trans : (t u v : Text) → HasFront t u → HasFront u v → HasFront t v
front-trans t u v f g = (f.0 ++ g.0, f.1 ∙ ap (λ (x : Text). f.0 ++ x) g.1 ∙ sym (append_assoc f.0 g.0 v))

Line-front : {t rest : Text} → Line t rest → HasFront t rest
Line-front at_end = ([], refl)
Line-front at_feed = ([], refl)
Line-front (more {b = b} {t = t} {rest = rest} n r) = front-next b t rest (Line-front r)

Block-front : {t rest : Text} → Block t rest → HasFront t rest
Block-front (closes) = (42 ∷ 47 ∷ [], refl)
Block-front (inside {b = b} {t = t} {rest = rest} n r) = front-next b t rest (Block-front r)

pub Comment-front : {t rest : Text} → Comment t rest → HasFront t rest
Comment-front (line {t = t} {rest = rest} r) = front-next 47 (47 ∷ t) rest (front-next 47 t rest (Line-front r))
Comment-front (block {t = t} {rest = rest} r) = front-next 47 (42 ∷ t) rest (front-next 42 t rest (Block-front r))

Piece-front : {t rest : Text} → Piece t rest → HasFront t rest
Piece-front (blank {b = b} h) = (b ∷ [], refl)
Piece-front (comment c) = Comment-front c

pub Gap-front : {t rest : Text} → Gap t rest → HasFront t rest
Gap-front (ends n) = ([], refl)
Gap-front (piece {t = t} {more = m} {rest = rest} p g) = front-trans t m rest (Piece-front p) (Gap-front g)
