-- The test of depth finds a place or a run, and where it finds none the brackets are shallow.
use Rattle.std.proofs.Common.{◌≡◌, ℕ, zero, suc, ◌+◌, ◌<◌, ◌≤◌, Bool, true, false, if◌then◌else◌, [], ◌∷◌, ◌++◌, length, take, refl, sym, ap, subst, ◌∙◌, ◌⊎◌, inl, inr, ⊎_elim, arith}
use Rattle.std.specs.Prelude.{fold, nat_le, ◌&&◌}
use Rattle.std.proofs.lemmas.Bool.{leb-true, leb-false}
use Rattle.yr_parser.specs.declared.sign.Sign.TheVariants as sign
use Rattle.yr_parser.specs.Terminals.{Terminal, Terminals, Operator, Sign}
use Rattle.yr_parser.specs.Shallow.{Shallow, Unless}
use Rattle.yr_parser.specs.Depth.{is_brace, front, closed_after, opened_after, is_prefix, ArePrefixes, OpensTooMany, RunsTooLong, IsTooDeep, run_after, deep_from}

both : (a b : Bool) → a && b ≡ true → (a ≡ true) × (b ≡ true)
both true true e = (refl, refl)
both true false e = absurd cc
both false b e = absurd cc

either : (a b : Bool) → a && b ≡ false → (a ≡ false) ⊎ (b ≡ false)
either true true e = absurd cc
either true false e = inr refl
either false b e = inl refl

-- one step of the test
abbrev step : Bool → Bool → Bool → Bool
step fits brace next = if fits then (if brace then false else next) else true

step-false : (fits brace next : Bool) → step fits brace next ≡ false → (fits ≡ true) × ((brace ≡ true) ⊎ ((brace ≡ false) × (next ≡ false)))
step-false true true next e = (refl, inl refl)
step-false true false next e = (refl, inr (refl, e))
step-false false brace next e = absurd cc

step-true : (fits brace next : Bool) → step fits brace next ≡ true → (fits ≡ false) ⊎ ((brace ≡ false) × (next ≡ true))
step-true true true next e = absurd cc
step-true true false next e = inr (refl, e)
step-true false brace next e = inl refl

abbrev fits : ℕ → ℕ → Bool
fits o r = nat_le o 64 && nat_le r 64

fits-true : (o r : ℕ) → fits o r ≡ true → (o ≤ 64) × (r ≤ 64)
fits-true o r e = let b = both (nat_le o 64) (nat_le r 64) e in (leb-true o 64 b.0, leb-true r 64 b.1)

fits-false : (o r : ℕ) → fits o r ≡ false → (64 < o) ⊎ (64 < r)
fits-false o r e = ⊎_elim (λ h. inl (leb-false o 64 h)) (λ h. inr (leb-false r 64 h)) (either (nat_le o 64) (nat_le r 64) e)

pub deep-step : (o r : ℕ) (t : Terminal) (k : Terminals) → deep_from o r (t ∷ k) ≡ step (fits (opened_after o t) (run_after r t)) (is_brace t) (deep_from (opened_after o t) (run_after r t) k)
unfolding deep_from
deep-step o r t k = refl

unless : (b : Bool) (P : Type 0) → ((b ≡ true) ⊎ ((b ≡ false) × P)) → Unless b P
unless true P h = tt
unless false P h = ⊎_elim (λ e. absurd cc) (λ e. e.1) h

pub deep-shallow : (k : Terminals) (o r : ℕ) → deep_from o r k ≡ false → Shallow 64 o k
deep-shallow [] o r e = tt
deep-shallow (t ∷ k) o r e =
    let o' = opened_after o t in
    let r' = run_after r t in
    let s = step-false (fits o' r') (is_brace t) (deep_from o' r' k) (sym (deep-step o r t k) ∙ e) in
    ((fits-true o' r' s.0).0, unless (is_brace t) (Shallow 64 o' k) (⊎_elim (λ b. inl b) (λ b. inr (b.0, deep-shallow k o' r' b.1)) s.1))

-- ---- no place

front-brace : (t : Terminal) (k : Terminals) → is_brace t ≡ true → front (t ∷ k) ≡ t ∷ []
front-brace t k e = rw e refl

front-other : (t : Terminal) (k : Terminals) → is_brace t ≡ false → front (t ∷ k) ≡ t ∷ front k
front-other t k e = rw e refl

abbrev OpenAt : ℕ → Terminals → ℕ → Type 0
OpenAt o k place = fold opened_after o (take place k) ≤ 64

take-one : (o : ℕ) (t : Terminal) (place : ℕ) → o ≤ 64 → opened_after o t ≤ 64 → OpenAt o (t ∷ []) place
take-one o t zero h h' = h
take-one o t (suc zero) h h' = h'
take-one o t (suc (suc p)) h h' = h'

pub not-open : (k : Terminals) (o r : ℕ) → deep_from o r k ≡ false → o ≤ 64 → (place : ℕ) → OpenAt o (front k) place
not-open k o r e h zero = h
not-open [] o r e h (suc p) = h
not-open (t ∷ k) o r e h (suc p) =
    let o' = opened_after o t in
    let r' = run_after r t in
    let s = step-false (fits o' r') (is_brace t) (deep_from o' r' k) (sym (deep-step o r t k) ∙ e) in
    let h' = (fits-true o' r' s.0).0 in
    ⊎_elim
    (λ b. subst (λ (f : Terminals). OpenAt o f (suc p)) (sym (front-brace t k b)) (take-one o t (suc p) h h'))
    (λ b. subst (λ (f : Terminals). OpenAt o f (suc p)) (sym (front-other t k b.0)) (not-open k o' r' b.1 h' p)) s.1

-- ---- no run

prefix-no_brace : (t : Terminal) → is_prefix t ≡ true → is_brace t ≡ false
prefix-no_brace (Sign sign.Not) e = refl
prefix-no_brace (Sign sign.Defined) e = refl
prefix-no_brace (Sign sign.Tilde) e = refl
prefix-no_brace (Sign _) e = absurd cc
prefix-no_brace (Operator o) e = refl
prefix-no_brace (_) e = absurd cc

run_after-prefix : (r : ℕ) (t : Terminal) → is_prefix t ≡ true → run_after r t ≡ suc r
run_after-prefix r t e = rw e refl

same-head : (t u : Terminal) (k l : Terminals) → ◌≡◌ {A = Terminals} (t ∷ k) (u ∷ l) → t ≡ u
same-head t u k l e = cc

same-tail : (t u : Terminal) (k l : Terminals) → ◌≡◌ {A = Terminals} (t ∷ k) (u ∷ l) → k ≡ l
same-tail t u k l e = cc

run-here : (run behind k : Terminals) (o r : ℕ) → front k ≡ run ++ behind → ArePrefixes run → deep_from o r k ≡ false → r ≤ 64 → r + length run ≤ 64
run-here [] behind k o r e a d h = omega arith
run-here (t ∷ run) behind [] o r e a d h = absurd cc
run-here (t ∷ run) behind (u ∷ k) o r e a d h =
    let o' = opened_after o u in
    let r' = run_after r u in
    let s = step-false (fits o' r') (is_brace u) (deep_from o' r' k) (sym (deep-step o r u k) ∙ d) in
    ⊎_elim
    (λ b.
    let e' = sym (front-brace u k b) ∙ e in
    let bad : is_prefix u ≡ true = subst (λ (x : Terminal). is_prefix x ≡ true) (sym (same-head u t [] (run ++ behind) e')) a.0 in
    let none = prefix-no_brace u bad in absurd cc)
    (λ b.
    let e' = sym (front-other u k b.0) ∙ e in
    let good : is_prefix u ≡ true = subst (λ (x : Terminal). is_prefix x ≡ true) (sym (same-head u t (front k) (run ++ behind) e')) a.0 in
    let one = run_after-prefix r u good in
    let more = run-here run behind k o' r' (same-tail u t (front k) (run ++ behind) e') a.1 b.1 (fits-true o' r' s.0).1 in omega arith) s.1

empty-run : (before run behind : Terminals) → [] ≡ before ++ run ++ behind → length run ≤ 64
empty-run [] [] behind e = omega arith
empty-run [] (t ∷ run) behind e = absurd cc
empty-run (t ∷ before) run behind e = absurd cc

pub not-run : (before run behind k : Terminals) (o r : ℕ) → front k ≡ before ++ run ++ behind → ArePrefixes run → deep_from o r k ≡ false → r ≤ 64 → length run ≤ 64
not-run [] run behind k o r e a d h = let more = run-here run behind k o r e a d h in omega arith
not-run (t ∷ before) run behind [] o r e a d h = absurd cc
not-run (t ∷ before) run behind (u ∷ k) o r e a d h =
    let o' = opened_after o u in
    let r' = run_after r u in
    let s = step-false (fits o' r') (is_brace u) (deep_from o' r' k) (sym (deep-step o r u k) ∙ d) in
    ⊎_elim
    (λ b. empty-run before run behind (same-tail u t [] (before ++ run ++ behind) (sym (front-brace u k b) ∙ e)))
    (λ b. not-run before run behind k o' r' (same-tail u t (front k) (before ++ run ++ behind) (sym (front-other u k b.0) ∙ e)) a b.1 (fits-true o' r' s.0).1) s.1

pub test-false : (k : Terminals) → deep_from 0 0 k ≡ false → ¬ IsTooDeep k
test-false k e deep =
    ⊎_elim
    (λ h. let le = not-open k 0 0 e (omega arith) h.0 in let lt = h.1 in absurd (omega arith))
    (λ h. let le = not-run h.before h.run h.behind k 0 0 h.whole h.prefixes e (omega arith) in let lt = h.long in absurd (omega arith)) deep

-- ---- a place or a run

-- a run that goes on one of so many
record GoesOn (r : ℕ) (k : Terminals) : Type 0 where
  run : Terminals
  behind : Terminals
  whole : k ≡ run ++ behind
  long : 64 < r + length run
  prefixes : ArePrefixes run

abbrev Found : ℕ → ℕ → Terminals → Type 0
Found o r k = ((place : ℕ) × (64 < fold opened_after o (take place k))) ⊎ (GoesOn r k ⊎ RunsTooLong k)

front-begins : (t : Terminal) (k : Terminals) → (l : Terminals) × (front (t ∷ k) ≡ t ∷ l)
front-begins t k = go (is_brace t) refl
  where
    go : (b : Bool) → is_brace t ≡ b → (l : Terminals) × (front (t ∷ k) ≡ t ∷ l)
    go true e = ([], front-brace t k e)
    go false e = (front k, front-other t k e)

too-open : (o : ℕ) (t : Terminal) (k : Terminals) → 64 < opened_after o t → (place : ℕ) × (64 < fold opened_after o (take place (front (t ∷ k))))
too-open o t k h = let f = front-begins t k in (1, subst (λ (l : Terminals). 64 < fold opened_after o (take 1 l)) (sym f.1) h)

too-long : (r : ℕ) (t : Terminal) (k : Terminals) (b : Bool) → is_prefix t ≡ b → r ≤ 64 → 64 < (if b then suc r else 0) → GoesOn r (front (t ∷ k))
too-long r t k true e h lt = let f = front-begins t k in record { run = t ∷ []; behind = f.0; whole = f.1; long = omega arith; prefixes = (e, tt) }
too-long r t k false e h lt = absurd (omega arith)

go-on : (r : ℕ) (t : Terminal) (k : Terminals) (b : Bool) → is_prefix t ≡ b → GoesOn (if b then suc r else 0) k → GoesOn r (t ∷ k) ⊎ RunsTooLong (t ∷ k)
go-on r t k true e g =
    let lt = g.long in
    inl (record { run = t ∷ g.run; behind = g.behind; whole = ap (λ (l : Terminals). t ∷ l) g.whole; long = omega arith; prefixes = (e, g.prefixes) })
go-on r t k false e g =
    let lt = g.long in
    inr (record { before = t ∷ []; run = g.run; behind = g.behind; whole = ap (λ (l : Terminals). t ∷ l) g.whole; long = omega arith; prefixes = g.prefixes })

longer : (t : Terminal) (k : Terminals) → RunsTooLong k → RunsTooLong (t ∷ k)
longer t k g = record { before = t ∷ g.before; run = g.run; behind = g.behind; whole = ap (λ (l : Terminals). t ∷ l) g.whole; long = g.long; prefixes = g.prefixes }

deep-next : (o r : ℕ) (t : Terminal) (k : Terminals) → r ≤ 64
    → (opened_after o t ≤ 64 → run_after r t ≤ 64 → deep_from (opened_after o t) (run_after r t) k ≡ true → Found (opened_after o t) (run_after r t) (front k))
    → is_brace t ≡ false → (f : Bool) → fits (opened_after o t) (run_after r t) ≡ f → deep_from (opened_after o t) (run_after r t) k ≡ true → Found o r (front (t ∷ k))
deep-next o r t k h' ih b false f d = ⊎_elim (λ lt. inl (too-open o t k lt)) (λ lt. inr (inl (too-long r t k (is_prefix t) refl h' lt))) (fits-false (opened_after o t) (run_after r t) f)
deep-next o r t k h' ih b true f d =
    let w = fits-true (opened_after o t) (run_after r t) f in
    subst (Found o r) (sym (front-other t k b))
    (⊎_elim (λ p. inl (suc p.0, p.1)) (λ g. inr (⊎_elim (λ g. go-on r t (front k) (is_prefix t) refl g) (λ g. inr (longer t (front k) g)) g)) (ih w.0 w.1 d))

deep-empty : (o r : ℕ) → deep_from o r [] ≡ false
unfolding deep_from
deep-empty o r = refl

deep-found : (k : Terminals) (o r : ℕ) → o ≤ 64 → r ≤ 64 → deep_from o r k ≡ true → Found o r (front k)
deep-found [] o r h h' e = absurd (let f = deep-empty o r in cc)
deep-found (t ∷ k) o r h h' e =
    let o' = opened_after o t in
    let r' = run_after r t in
    ⊎_elim
    (λ b.
    ⊎_elim (λ lt. inl (too-open o t k lt)) (λ lt. inr (inl (too-long r t k (is_prefix t) refl h' lt))) (fits-false o' r' b))
    (λ b. deep-next o r t k h' (deep-found k o' r') b.0 (fits o' r') refl b.1) (step-true (fits o' r') (is_brace t) (deep_from o' r' k) (sym (deep-step o r t k) ∙ e))

found-deep : (k : Terminals) → Found 0 0 k → OpensTooMany k ⊎ RunsTooLong k
found-deep k (inl p) = inl p
found-deep k (inr (inl g)) =
    let lt = g.long in inr (record { before = []; run = g.run; behind = g.behind; whole = g.whole; long = omega arith; prefixes = g.prefixes })
found-deep k (inr (inr g)) = inr g

pub test-true : (k : Terminals) → deep_from 0 0 k ≡ true → IsTooDeep k
test-true k e = found-deep (front k) (deep-found k 0 0 (omega arith) (omega arith) e)

-- with a limit as large as the terminals are many, nothing is too deep
closed-below : (o : ℕ) → closed_after o ≤ o
closed-below zero = omega arith
closed-below (suc o) = omega arith

opened-below : (o : ℕ) (t : Terminal) → opened_after o t ≤ suc o
opened-below o (Sign sign.Open) = omega arith
opened-below o (Sign sign.OpenBracket) = omega arith
opened-below o (Sign sign.Close) = let h = closed-below o in omega arith
opened-below o (Sign sign.CloseBracket) = let h = closed-below o in omega arith
opened-below o (Sign _) = omega arith
opened-below o (_) = omega arith

unless-any : (b : Bool) (P : Type 0) → P → Unless b P
unless-any true P h = tt
unless-any false P h = h

pub Shallow-always : (k : Terminals) (m o : ℕ) → length k + o ≤ m → Shallow m o k
Shallow-always [] m o h = tt
Shallow-always (t ∷ k) m o h =
    let b = opened-below o t in
    (omega arith, unless-any (is_brace t) (Shallow m (opened_after o t) k) (Shallow-always k m (opened_after o t) (omega arith)))
