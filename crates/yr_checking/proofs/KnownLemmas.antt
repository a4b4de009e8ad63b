-- The fronts that a name begins with, found by its beginnings.
use Rattle.std.proofs.Common.{◌≡◌, ℕ, ◌+◌, ◌<◌, ◌≤◌, ◌&&◌, ◌||◌, Bool, true, false, List, [], ◌∷◌, ◌++◌, length, take, get_or, refl, sym, ap, ◌∙◌, arith, nat_lt}
use Rattle.std.specs.Prelude.{if◌then◌else◌}
use Rattle.std.specs.Str.{bytes_eq}
use Rattle.std.specs.List.{list_any}
use Rattle.std.specs.Cmp.Lexicographic.{bytes_decides}
use Rattle.std.proofs.lemmas.Bool.{ltb-true, ltb-false, lt-ltb, le-ltb}
use Rattle.std.proofs.lemmas.List.{length-take-le, take_more, take_all}
use Rattle.std.proofs.lemmas.List.Folds.{list_any-append}
use Rattle.yr_name_tables.specs.Names.{Name, has, begins, means}
use Rattle.yr_name_tables.specs.Places.{with_name}
use Rattle.yr_name_tables.proofs.TwiceLemmas.{has-with_name}
use Rattle.yr_checking.specs.Known.{AreMet, MeetsFronts}

and-false : (a : Bool) → (a && false) ≡ false
and-false true = refl
and-false false = refl

or-false : (a : Bool) → (a || false) ≡ a
or-false true = refl
or-false false = refl

or-true : (a : Bool) → (a || true) ≡ true
or-true true = refl
or-true false = refl

-- the name begins with the front, which is shorter than this
abbrev begins_below : ℕ → Name → Name → Bool
begins_below size f n = nat_lt (length f) size && begins f n

-- of the fronts shorter than this, those that the name begins with are there too
abbrev pub MeetsBelow : ℕ → List Name → Name → List Name → List Name → Type 0
MeetsBelow size fronts n old new = (f : Name) → has f new ≡ (has f old || (has f fronts && (nat_lt (length f) size && begins f n)))

pub none_below : (fronts : List Name) (n : Name) (old : List Name) → MeetsBelow 0 fronts n old old
none_below fronts n old f =
    let none : nat_lt (length f) 0 ≡ false = le-ltb (length f) 0 (omega arith) in
    sym (ap (λ b. has f old || (has f fronts && (b && begins f n))) none ∙ ap (λ b. has f old || b) (and-false (has f fronts)) ∙ or-false (has f old))

-- ---- one beginning more

at-size : (f n : Name) (size : ℕ) → size ≤ length n → bytes_eq f (take size n) ≡ true → begins_below (size + 1) f n ≡ true
at-size f n size h e =
    let same : f ≡ take size n = (bytes_decides f (take size n)).0 e in
    let long : length f ≡ size = ap length same ∙ length-take-le size n h in
    let taken : f ≡ take (length f) n = same ∙ ap (λ k. take k n) (sym long) in
    let starts : begins f n ≡ true = (bytes_decides f (take (length f) n)).1 taken in
    ap (λ b. b && begins f n) (lt-ltb (length f) (size + 1) (omega arith)) ∙ starts

one-longer : (f n : Name) (size : ℕ) → bytes_eq f (take size n) ≡ false → begins f n ≡ true → nat_lt (length f) (size + 1) ≡ nat_lt (length f) size
one-longer f n size other starts = by (nat_lt (length f) size) refl (nat_lt size (length f)) refl
  where
    by : (b : Bool) → nat_lt (length f) size ≡ b → (c : Bool) → nat_lt size (length f) ≡ c → nat_lt (length f) (size + 1) ≡ b
    by true e c d = let below : length f < size = ltb-true (length f) size e in lt-ltb (length f) (size + 1) (omega arith)
    by false e true d = let above : size < length f = ltb-true size (length f) d in le-ltb (length f) (size + 1) (omega arith)
    by false e false d =
        let low : size ≤ length f = ltb-false (length f) size e in
        let high : length f ≤ size = ltb-false size (length f) d in
        let long : length f ≡ size = omega arith in
        let taken : f ≡ take (length f) n = (bytes_decides f (take (length f) n)).0 starts in
        let clash : true ≡ false = sym ((bytes_decides f (take size n)).1 (taken ∙ ap (λ k. take k n) long)) ∙ other in
        absurd cc

elsewhere : (f n : Name) (size : ℕ) → bytes_eq f (take size n) ≡ false → begins_below (size + 1) f n ≡ begins_below size f n
elsewhere f n size other = by (begins f n) refl
  where
    by : (b : Bool) → begins f n ≡ b → begins_below (size + 1) f n ≡ begins_below size f n
    by true e = ap (λ b. b && begins f n) (one-longer f n size other e)
    by false e =
        ap (λ b. nat_lt (length f) (size + 1) && b) e
        ∙ and-false (nat_lt (length f) (size + 1))
        ∙ sym (and-false (nat_lt (length f) size))
        ∙ ap (λ b. nat_lt (length f) size && b) (sym e)

pub one_more_below : (fronts : List Name) (n : Name) (size : ℕ) (old met new : List Name) → size ≤ length n → new ≡ (if has (take size n) fronts then with_name (take size n) met else met)
    → MeetsBelow size fronts n old met → MeetsBelow (size + 1) fronts n old new
one_more_below fronts n size old met new h e before f = ap (has f) e ∙ by (has (take size n) fronts) refl (bytes_eq f (take size n)) refl
  where
    by : (front : Bool) → has (take size n) fronts ≡ front → (same : Bool) → bytes_eq f (take size n) ≡ same
        → has f (if front then with_name (take size n) met else met) ≡ (has f old || (has f fronts && begins_below (size + 1) f n))
    by true is true s =
        let there : has f fronts ≡ true = ap (λ m. has m fronts) ((bytes_decides f (take size n)).0 s) ∙ is in
        let found : (has f fronts && begins_below (size + 1) f n) ≡ true = ap (λ b. b && begins_below (size + 1) f n) there ∙ at-size f n size h s in
        has-with_name f (take size n) met ∙ ap (λ b. b || has f met) s ∙ sym (or-true (has f old)) ∙ ap (λ b. has f old || b) (sym found)
    by true is false s =
        has-with_name f (take size n) met ∙ ap (λ b. b || has f met) s ∙ before f ∙ ap (λ b. has f old || (has f fronts && b)) (sym (elsewhere f n size s))
    by false is true s =
        let gone : has f fronts ≡ false = ap (λ m. has m fronts) ((bytes_decides f (take size n)).0 s) ∙ is in
        before f
        ∙ ap (λ b. has f old || (b && begins_below size f n)) gone
        ∙ ap (λ b. has f old || (b && begins_below (size + 1) f n)) (sym gone)
    by false is false s = before f ∙ ap (λ b. has f old || (has f fronts && b)) (sym (elsewhere f n size s))

-- ---- all beginnings

not-longer : (f n : Name) → begins f n ≡ true → length f ≤ length n
not-longer f n starts = by (nat_lt (length n) (length f)) refl
  where
    by : (b : Bool) → nat_lt (length n) (length f) ≡ b → length f ≤ length n
    by false e = ltb-false (length n) (length f) e
    by true e =
        let longer : length n < length f = ltb-true (length n) (length f) e in
        let whole : f ≡ n = (bytes_decides f (take (length f) n)).0 starts ∙ take_all (length f) n (omega arith) in
        let long : length f ≡ length n = ap length whole in
        omega arith

all-below : (f n : Name) (size : ℕ) → length n < size → begins_below size f n ≡ begins f n
all-below f n size h = by (begins f n) refl
  where
    by : (b : Bool) → begins f n ≡ b → begins_below size f n ≡ begins f n
    by true e = let low : length f ≤ length n = not-longer f n e in ap (λ b. b && begins f n) (lt-ltb (length f) size (omega arith))
    by false e = ap (λ b. nat_lt (length f) size && b) e ∙ and-false (nat_lt (length f) size) ∙ sym e

pub all_below : (fronts : List Name) (n : Name) (size : ℕ) (old new : List Name) → length n < size → MeetsBelow size fronts n old new → MeetsFronts fronts n old new
all_below fronts n size old new h before f = before f ∙ ap (λ b. has f old || (has f fronts && b)) (all-below f n size h)

-- ---- one name more

and-or : (a l m : Bool) → ((a && l) || (a && m)) ≡ (a && (l || (m || false)))
and-or true l m = ap (λ b. l || b) (sym (or-false m))
and-or false l m = refl

pub none_met : (fronts : List Name) → AreMet fronts [] []
none_met fronts f = sym (and-false (has f fronts))

pub no_fronts : (names : List Name) → AreMet [] names []
no_fronts names f = refl

pub one_more_name : (fronts all : List Name) (i : ℕ) (x : Name) (old new : List Name) → i < length all → x ≡ get_or all i x → MeetsFronts fronts x old new → AreMet fronts (take i all) old
    → AreMet fronts (take (i + 1) all) new
one_more_name fronts all i x old new h is adds before f =
    let grown : take (i + 1) all ≡ take i all ++ x ∷ [] = take_more all i x h ∙ ap (λ y. take i all ++ y ∷ []) (sym is) in
    adds f
    ∙ ap (λ b. b || (has f fronts && means f true x)) (before f)
    ∙ and-or (has f fronts) (list_any (means f true) (take i all)) (means f true x)
    ∙ ap (λ b. has f fronts && b) (sym (list_any-append (means f true) (take i all) (x ∷ [])))
    ∙ ap (λ l. has f fronts && list_any (means f true) l) (sym grown)

pub all_names : (fronts all : List Name) (i : ℕ) (met : List Name) → length all ≤ i → AreMet fronts (take i all) met → AreMet fronts all met
all_names fronts all i met h before f = before f ∙ ap (λ l. has f fronts && list_any (means f true) l) (take_all i all h)

-- ---- what is known of a front

pub known_front : (fronts names met : List Name) (f : Name) (known r : Bool) → AreMet fronts names met → known ≡ has f fronts → known ≡ true → r ≡ has f met → r ≡ list_any (means f true) names
known_front fronts names met f known r found e h is = is ∙ found f ∙ ap (λ b. b && list_any (means f true) names) (sym e ∙ h)
