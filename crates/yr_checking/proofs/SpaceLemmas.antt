-- Namespaces by their names.
use Rattle.std.proofs.Common.{◌≡◌, ℕ, zero, suc, set, ◌<◌, List, [], ◌∷◌, ◌++◌, length, Bool, true, false, refl, sym, ap, ◌∙◌, arith, Some}
use Rattle.std.specs.Prelude.{if◌then◌else◌, bytes_eq, slice_get}
use Rattle.std.specs.Cmp.Lexicographic.{bytes_decides}
use Rattle.yr_name_tables.specs.Names.{Name}
use Rattle.yr_checking.specs.declared.space.Space.{Space}
use Rattle.yr_checking.specs.Spaces.{SpaceTree, IsFirstNamed, found_space, no_space, space_shown}

some-inj : {A : Type 0} {a b : A} → Some a ≡ Some b → a ≡ b
some-inj e = cc

-- the place of a name behind the first namespace
behind : (q : Name) (s : Space) (ss : List Space) (k : ℕ) → IsFirstNamed q (s ∷ ss) (suc k) → IsFirstNamed q ss k
behind q s ss k f = record {
  within = omega (arith, f.within);
  before = λ j t less there. f.before (suc j) t (omega arith) there;
  here = λ t there. f.here t there;
}

-- the namespace that is found is the one at the place
pub found-at : (q : Name) (ss : List Space) (k : ℕ) (s : Space) → IsFirstNamed q ss k → slice_get ss k ≡ Some s → found_space q ss ≡ space_shown s
found-at q [] k s f e = absurd cc
found-at q (x ∷ ss) zero s f e =
    ap (λ b. if b then space_shown x else found_space q ss) (f.here x refl) ∙ ap space_shown (some-inj e)
found-at q (x ∷ ss) (suc k) s f e =
    ap (λ b. if b then space_shown x else found_space q ss) (f.before 0 x (omega arith) refl) ∙ found-at q ss k s (behind q x ss k f) e

-- where there is none, nothing is found
pub found-none : (q : Name) (ss : List Space) → IsFirstNamed q ss (length ss) → found_space q ss ≡ no_space
found-none q [] f = refl
found-none q (x ∷ ss) f =
    ap (λ b. if b then space_shown x else found_space q ss) (f.before 0 x (omega arith) refl) ∙ found-none q ss (behind q x ss (length ss) f)

last-case : (b : Bool) (s : Space) → space_shown s ≡ no_space → (if b then space_shown s else no_space) ≡ no_space
last-case true s e = e
last-case false s e = refl

-- an empty namespace behind changes nothing
pub found-empty : (q : Name) (ss : List Space) (s : Space) → space_shown s ≡ no_space → found_space q (ss ++ s ∷ []) ≡ found_space q ss
found-empty q [] s e = last-case (bytes_eq q s.name) s e
found-empty q (x ∷ ss) s e = ap (λ r. if bytes_eq q x.name then space_shown x else r) (found-empty q ss s e)

ahead : (q : Name) (x : Space) (ss : List Space) (k : ℕ) → bytes_eq q x.name ≡ false → IsFirstNamed q ss k → IsFirstNamed q (x ∷ ss) (suc k)
ahead q x ss k apart f = record {
  within = omega (arith, f.within);
  before = before;
  here = λ t there. f.here t there;
}
  where
    before : (j : ℕ) (t : Space) → j < suc k → slice_get (x ∷ ss) j ≡ Some t → bytes_eq q t.name ≡ false
    before zero t less there = ap (λ (z : Space). bytes_eq q z.name) (sym (some-inj there)) ∙ apart
    before (suc j) t less there = f.before j t (omega arith) there

-- a namespace of the name behind all others is the first of it
pub first-pushed : (q : Name) (ss : List Space) (s : Space) → IsFirstNamed q ss (length ss) → s.name ≡ q → IsFirstNamed q (ss ++ s ∷ []) (length ss)
first-pushed q [] s f e = record {
  within = omega arith;
  before = λ j t less there. absurd (omega arith);
  here = λ t there. (bytes_decides q t.name).1 (sym e ∙ ap (λ (z : Space). z.name) (some-inj there));
}
first-pushed q (x ∷ ss) s f e = ahead q x (ss ++ s ∷ []) (length ss) (f.before 0 x (omega arith) refl) (first-pushed q ss s (behind q x ss (length ss) f) e)

flip : (a b : Name) → bytes_eq a b ≡ bytes_eq b a
flip a b = by (bytes_eq a b) (bytes_eq b a) refl refl
  where
    by : (x y : Bool) → bytes_eq a b ≡ x → bytes_eq b a ≡ y → x ≡ y
    by true true e f = refl
    by false false e f = refl
    by true false e f = sym ((bytes_decides b a).1 (sym ((bytes_decides a b).0 e))) ∙ f
    by false true e f = sym e ∙ (bytes_decides a b).1 (sym ((bytes_decides b a).0 f))

same-spaces : (q : Name) (ss ts : List Space) → length ts ≡ length ss → ((j : ℕ) (z : Space) → slice_get ss j ≡ Some z → slice_get ts j ≡ Some z) → found_space q ts ≡ found_space q ss
same-spaces q [] [] l h = refl
same-spaces q [] (t ∷ ts) l h = absurd (omega arith)
same-spaces q (s ∷ ss) [] l h = absurd (omega arith)
same-spaces q (s ∷ ss) (t ∷ ts) l h =
    ap (λ z. found_space q (z ∷ ts)) (some-inj (h 0 s refl))
    ∙ ap (λ r. if bytes_eq q s.name then space_shown s else r) (same-spaces q ss ts (omega arith) (λ j z e. h (suc j) z e))

choose : (b : Bool) (x y z : SpaceTree) → (if b then x else y) ≡ (if b then x else (if b then z else y))
choose true x y z = refl
choose false x y z = refl

swap : (b c : Bool) (x y z : SpaceTree) → (b ≡ true → c ≡ true → ⊥) → (if b then x else (if c then y else z)) ≡ (if c then y else (if b then x else z))
swap true true x y z h = absurd (h refl refl)
swap true false x y z h = refl
swap false true x y z h = refl
swap false false x y z h = refl

-- two lists of namespaces that differ at the place alone, where the name is the same
pub found-changed : (n q : Name) (ss ts : List Space) (k : ℕ) (s t : Space) → IsFirstNamed n ss k → slice_get ss k ≡ Some s → slice_get ts k ≡ Some t → t.name ≡ s.name
    → length ts ≡ length ss → ((j : ℕ) (x : Space) → (j ≡ k → ⊥) → slice_get ss j ≡ Some x → slice_get ts j ≡ Some x)
    → found_space q ts ≡ (if bytes_eq n q then space_shown t else found_space q ss)
found-changed n q [] ts k s t f es et same long others = absurd cc
found-changed n q (x ∷ ss) [] k s t f es et same long others = absurd cc
found-changed n q (x ∷ ss) (y ∷ ts) zero s t f es et same long others =
    let name : n ≡ x.name = (bytes_decides n x.name).0 (f.here x refl) in
    let own : t.name ≡ n = same ∙ ap (λ (z : Space). z.name) (sym (some-inj es)) ∙ sym name in
    ap (λ z. found_space q (z ∷ ts)) (some-inj et)
    ∙ ap (λ m. if bytes_eq q m then space_shown t else found_space q ts) own
    ∙ ap (λ r. if bytes_eq q n then space_shown t else r) (same-spaces q ss ts (omega arith) (λ j z e. others (suc j) z (λ h. absurd (omega arith)) e))
    ∙ choose (bytes_eq q n) (space_shown t) (found_space q ss) (space_shown x)
    ∙ ap (λ c. if c then space_shown t else (if bytes_eq q n then space_shown x else found_space q ss)) (flip q n)
    ∙ ap (λ m. if bytes_eq n q then space_shown t else (if bytes_eq q m then space_shown x else found_space q ss)) name
found-changed n q (x ∷ ss) (y ∷ ts) (suc k) s t f es et same long others =
    let kept : y ≡ x = some-inj (others 0 x (λ h. absurd (omega arith)) refl) in
    let apart : bytes_eq n x.name ≡ false = f.before 0 x (omega arith) refl in
    ap (λ z. found_space q (z ∷ ts)) kept
    ∙ ap (λ r. if bytes_eq q x.name then space_shown x else r)
    (found-changed n q ss ts k s t (behind n x ss k f) es et same (omega arith) (λ j z ne e. others (suc j) z (λ h. ne (omega arith)) e))
    ∙ swap (bytes_eq q x.name) (bytes_eq n q) (space_shown x) (space_shown t) (found_space q ss)
    (λ e g. let one : n ≡ x.name = (bytes_decides n q).0 g ∙ (bytes_decides q x.name).0 e in let both : bytes_eq n x.name ≡ true = (bytes_decides n x.name).1 one in cc)

-- ---- a namespace put in the place of another

pub set-here : (ss : List Space) (k : ℕ) (t : Space) → k < length ss → slice_get (set ss k t) k ≡ Some t
set-here [] k t less = absurd (omega arith)
set-here (x ∷ ss) zero t less = refl
set-here (x ∷ ss) (suc k) t less = set-here ss k t (omega arith)

pub set-other : (ss : List Space) (k : ℕ) (t : Space) (j : ℕ) (x : Space) → (j ≡ k → ⊥) → slice_get ss j ≡ Some x → slice_get (set ss k t) j ≡ Some x
set-other [] k t j x ne e = absurd cc
set-other (y ∷ ss) zero t zero x ne e = absurd (ne refl)
set-other (y ∷ ss) zero t (suc j) x ne e = e
set-other (y ∷ ss) (suc k) t zero x ne e = e
set-other (y ∷ ss) (suc k) t (suc j) x ne e = set-other ss k t j x (λ h. ne (ap suc h)) e

pub set-many : (ss : List Space) (k : ℕ) (t : Space) → length (set ss k t) ≡ length ss
set-many [] k t = refl
set-many (x ∷ ss) zero t = refl
set-many (x ∷ ss) (suc k) t = ap suc (set-many ss k t)
