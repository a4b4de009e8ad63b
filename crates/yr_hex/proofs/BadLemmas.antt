-- The first jump that breaks a rule: the greatest number of bytes left.
use Rattle.std.proofs.Common.{◌≡◌, ℕ, ◌<◌, ◌≤◌, ◌⊎◌, inl, inr, ⊎_elim, Bool, true, false, List, [], ◌∷◌, ◌++◌, Option, Some, None, refl, ap, subst, arith}
use Rattle.std.specs.Prelude.{◌||◌, nat_le, max}
use Rattle.std.proofs.lemmas.Bool.{leb-true, le-leb, and_parts, and_from, cases_lt}
use Rattle.yr_pattern.specs.Tree.{Tree}
use Rattle.yr_hex.specs.Items.{Item, Items, Branches, Byte, Jump, Group, last, more, only, or}
use Rattle.yr_hex.specs.Jumps.{IsAllowed, IsBad, HasBad, HasBadBranch}
use Rattle.yr_hex.specs.Reading.{ListRead, ChoiceRead, cut, capped, allows, first_of, jump_first, no_members, push, sequence, one_branch, add, part, group_part, added, pushed}
use Rattle.yr_hex.proofs.Basics.{by_test}
use Rattle.yr_hex.proofs.OutcomeLemmas.{some_is}

-- ---- the numbers of a jump

-- a jump may have the numbers, and the cut changes none of them
abbrev pub IsAllowedAsCut : Bool → ℕ → Option ℕ → Type 0
IsAllowedAsCut inside least most = IsAllowed inside least most × (cut least ≡ least) × (capped cut most ≡ most)

pub allows-true : (inside : Bool) (least : ℕ) (most : Option ℕ) → allows inside (cut least) (capped cut most) ≡ true → IsAllowedAsCut inside least most
allows-true true least None e = absurd cc
allows-true false least None e = let a = leb-true (cut least) 65535 e in ((omega arith, tt, tt), omega arith, refl)
allows-true false least (Some most) e =
    let p = and_parts (nat_le (cut least) (cut most)) (nat_le (cut most) 65535) e in
    let a = leb-true (cut least) (cut most) p.0 in
    let b = leb-true (cut most) 65535 p.1 in
    let f : cut most ≡ most = omega arith in
    ((omega arith, (omega arith, omega arith), tt), omega arith, ap (λ (m : ℕ). Some m) f)
allows-true true least (Some most) e =
    let p = and_parts (nat_le (cut least) (cut most)) (nat_le (cut most) 200) e in
    let a = leb-true (cut least) (cut most) p.0 in
    let b = leb-true (cut most) 200 p.1 in
    let f : cut most ≡ most = omega arith in
    ((omega arith, (omega arith, omega arith), omega arith), omega arith, ap (λ (m : ℕ). Some m) f)

allows-allowed : (inside : Bool) (least : ℕ) (most : Option ℕ) → IsAllowed inside least most → allows inside (cut least) (capped cut most) ≡ true
allows-allowed true least None h = absurd h.2
allows-allowed false least None h = let a = h.0 in le-leb (cut least) 65535 (omega arith)
allows-allowed false least (Some most) h =
    let a = h.0 in let b = h.1.0 in let d = h.1.1 in
    and_from (nat_le (cut least) (cut most)) (nat_le (cut most) 65535) (le-leb (cut least) (cut most) (omega arith)) (le-leb (cut most) 65535 (omega arith))
allows-allowed true least (Some most) h =
    let a = h.0 in let b = h.1.0 in let d = h.1.1 in let f = h.2 in
    and_from (nat_le (cut least) (cut most)) (nat_le (cut most) 200) (le-leb (cut least) (cut most) (omega arith)) (le-leb (cut most) 200 (omega arith))

pub allows-false : (inside : Bool) (least : ℕ) (most : Option ℕ) → allows inside (cut least) (capped cut most) ≡ false → ¬ IsAllowed inside least most
allows-false inside least most e h = let f = allows-allowed inside least most h in absurd cc

-- ---- the greatest of the numbers with a property

-- this is the greatest, or none where no number has the property
abbrev pub IsGreatest : (ℕ → Type 0) → Option ℕ → Type 0
IsGreatest P None = (n : ℕ) → ¬ P n
IsGreatest P (Some m) = P m × ((n : ℕ) → P n → n ≤ m)

greatest-max : (P Q : ℕ → Type 0) (a b : ℕ) → IsGreatest P (Some a) → IsGreatest Q (Some b) → (a < b) ⊎ (b ≤ a) → P (max a b) ⊎ Q (max a b)
greatest-max P Q a b f g (inl h) = let e : b ≡ max a b = omega arith in inr (subst Q e g.0)
greatest-max P Q a b f g (inr h) = let e : a ≡ max a b = omega arith in inl (subst P e f.0)

le-max : (a b n : ℕ) → (n ≤ a) ⊎ (n ≤ b) → n ≤ max a b
le-max a b n (inl h) = omega arith
le-max a b n (inr h) = omega arith

either-none : (P Q : ℕ → Type 0) → ((n : ℕ) → ¬ P n) → ((n : ℕ) → ¬ Q n) → (n : ℕ) → ¬ (P n ⊎ Q n)
either-none P Q f g n (inl p) = f n p
either-none P Q f g n (inr q) = g n q

either-left : (P Q : ℕ → Type 0) (a : ℕ) → ((n : ℕ) → P n → n ≤ a) → ((n : ℕ) → ¬ Q n) → (n : ℕ) → P n ⊎ Q n → n ≤ a
either-left P Q a f g n (inl p) = f n p
either-left P Q a f g n (inr q) = absurd (g n q)

either-right : (P Q : ℕ → Type 0) (b : ℕ) → ((n : ℕ) → ¬ P n) → ((n : ℕ) → Q n → n ≤ b) → (n : ℕ) → P n ⊎ Q n → n ≤ b
either-right P Q b f g n (inl p) = absurd (f n p)
either-right P Q b f g n (inr q) = g n q

either-both : (P Q : ℕ → Type 0) (a b : ℕ) → ((n : ℕ) → P n → n ≤ a) → ((n : ℕ) → Q n → n ≤ b) → (n : ℕ) → P n ⊎ Q n → n ≤ max a b
either-both P Q a b f g n (inl p) = le-max a b n (inl (f n p))
either-both P Q a b f g n (inr q) = le-max a b n (inr (g n q))

greatest-or : (P Q : ℕ → Type 0) (a b : Option ℕ) → IsGreatest P a → IsGreatest Q b → IsGreatest (λ n. P n ⊎ Q n) (first_of a b)
greatest-or P Q None None f g = either-none P Q f g
greatest-or P Q None (Some b) f g = (inr g.0, either-right P Q b f g.1)
greatest-or P Q (Some a) None f g = (inl f.0, either-left P Q a f.1 g)
greatest-or P Q (Some a) (Some b) f g = (greatest-max P Q a b f g (cases_lt a b), either-both P Q a b f.1 g.1)

greatest-same : (P Q : ℕ → Type 0) (o : Option ℕ) → ((n : ℕ) → P n → Q n) → ((n : ℕ) → Q n → P n) → IsGreatest P o → IsGreatest Q o
greatest-same P Q None to back f = λ n q. f n (back n q)
greatest-same P Q (Some m) to back f = (to m f.0, λ n q. f.1 n (back n q))

-- ---- one item

abbrev IsJumpAt : Item → ℕ → Type 0
IsJumpAt (Byte negated high low) n = ⊥
IsJumpAt (Jump at least most) n = n ≡ at
IsJumpAt (Group bs) n = ⊥

jump-greatest : (inside : Bool) (i : Item) → IsGreatest (IsJumpAt i) (part inside i).jump
jump-greatest inside (Byte negated high low) = λ n h. h
jump-greatest inside (Jump at least most) = (refl, λ n e. omega arith)
jump-greatest inside (Group (only is)) = λ n h. h
jump-greatest inside (Group (or is bs)) = λ n h. h

bad-weaker : (inside first ending : Bool) (i : Item) (n : ℕ) → IsBad inside false false i n → IsBad inside first ending i n
bad-weaker inside first ending (Byte negated high low) n h = h
bad-weaker inside first ending (Jump at least most) n (e, inl f) = absurd cc
bad-weaker inside first ending (Jump at least most) n (e, inr f) = (e, inr f)
bad-weaker inside first ending (Group bs) n h = h

bad-jump : (inside first ending : Bool) (i : Item) (n : ℕ) → (first || ending) ≡ true → IsJumpAt i n → IsBad inside first ending i n
bad-jump inside first ending (Byte negated high low) n e h = h
bad-jump inside first ending (Jump at least most) n e h = (h, inl e)
bad-jump inside first ending (Group bs) n e h = absurd h

bad-cases : (inside first ending : Bool) (i : Item) (n : ℕ) → IsBad inside first ending i n → IsBad inside false false i n ⊎ (((first || ending) ≡ true) × IsJumpAt i n)
bad-cases inside first ending (Byte negated high low) n h = absurd h
bad-cases inside first ending (Jump at least most) n (e, inl f) = inr (f, e)
bad-cases inside first ending (Jump at least most) n (e, inr f) = inl (e, inr f)
bad-cases inside first ending (Group bs) n h = inl h

jump-part : (inside : Bool) (at least : ℕ) (most : Option ℕ) → IsGreatest (λ n. IsBad inside false false (Jump at least most) n) (part inside (Jump at least most)).bad
jump-part inside at least most = by_test (allows inside (cut least) (capped cut most)) None (Some at) (IsGreatest (λ n. IsBad inside false false (Jump at least most) n))
    (λ e n h. ⊎_elim (λ f. absurd cc) (λ f. f (allows-true inside least most e).0) h.1)
    (λ e. ((refl, inr (allows-false inside least most e)), λ n h. let same = h.0 in omega arith))

-- ---- lists

abbrev pub is_start : List Tree → Bool
is_start [] = true
is_start (t ∷ ts) = false

started : (ts : List Tree) (t : Tree) → is_start (ts ++ t ∷ []) ≡ false
started [] t = refl
started (u ∷ ts) t = refl

-- a jump that stands first
first-greatest : (inside : Bool) (i : Item) (ts : List Tree) → IsGreatest (λ n. (is_start ts ≡ true) × IsJumpAt i n) (jump_first ts (part inside i).jump)
first-greatest inside i [] = greatest-same (IsJumpAt i) (λ n. (true ≡ true) × IsJumpAt i n) (part inside i).jump (λ n h. (refl, h)) (λ n h. h.1) (jump-greatest inside i)
first-greatest inside i (t ∷ ts) = λ n h. let e = h.0 in absurd cc

-- what is known to be bad after one more item
abbrev Pushed : Bool → (ℕ → Type 0) → ListRead → Item → ℕ → Type 0
Pushed inside P l i n = (P n ⊎ IsBad inside false false i n) ⊎ ((is_start l.members ≡ true) × IsJumpAt i n)

push-greatest : (inside : Bool) (P : ℕ → Type 0) (l : ListRead) (i : Item) → IsGreatest P l.bad → IsGreatest (λ n. IsBad inside false false i n) (part inside i).bad
    → IsGreatest (Pushed inside P l i) (push l (part inside i)).bad
push-greatest inside P l i f g =
    greatest-or (λ n. P n ⊎ IsBad inside false false i n) (λ n. (is_start l.members ≡ true) × IsJumpAt i n)
    (first_of l.bad (part inside i).bad) (jump_first l.members (part inside i).jump)
    (greatest-or P (λ n. IsBad inside false false i n) l.bad (part inside i).bad f g) (first-greatest inside i l.members)

any_or : (b : Bool) → (b || true) ≡ true
any_or true = refl
any_or false = refl

or_none : (b : Bool) → (b || false) ≡ true → b ≡ true
or_none true e = refl
or_none false e = absurd cc

none_or : (b : Bool) → b ≡ true → (b || false) ≡ true
none_or true e = refl
none_or false e = absurd cc

module _ (inside first : Bool) (P : ℕ → Type 0) (i : Item) where
  abbrev So : ℕ → Type 0
  So n = (P n ⊎ IsBad inside false false i n) ⊎ ((first ≡ true) × IsJumpAt i n)

  -- the last item
  to_last : (n : ℕ) → So n ⊎ IsJumpAt i n → P n ⊎ IsBad inside first true i n
  to_last n (inl (inl (inl p))) = inl p
  to_last n (inl (inl (inr b))) = inr (bad-weaker inside first true i n b)
  to_last n (inl (inr j)) = inr (bad-jump inside first true i n (any_or first) j.1)
  to_last n (inr j) = inr (bad-jump inside first true i n (any_or first) j)

  from_last : (n : ℕ) → P n ⊎ IsBad inside first true i n → So n ⊎ IsJumpAt i n
  from_last n (inl p) = inl (inl (inl p))
  from_last n (inr b) = ⊎_elim (λ h. inl (inl (inr h))) (λ h. inr h.1) (bad-cases inside first true i n b)

  module _ (R : ℕ → Type 0) where
    -- an item before others
    to_next : (n : ℕ) → So n ⊎ R n → P n ⊎ (IsBad inside first false i n ⊎ R n)
    to_next n (inl (inl (inl p))) = inl p
    to_next n (inl (inl (inr b))) = inr (inl (bad-weaker inside first false i n b))
    to_next n (inl (inr j)) = inr (inl (bad-jump inside first false i n (none_or first j.0) j.1))
    to_next n (inr r) = inr (inr r)

    from_next : (n : ℕ) → P n ⊎ (IsBad inside first false i n ⊎ R n) → So n ⊎ R n
    from_next n (inl p) = inl (inl (inl p))
    from_next n (inr (inl b)) = ⊎_elim (λ h. inl (inl (inr h))) (λ h. inl (inr (or_none first h.0, h.1))) (bad-cases inside first false i n b)
    from_next n (inr (inr r)) = inr r

-- nothing before
after_nothing : (Q : ℕ → Type 0) (o : Option ℕ) → IsGreatest (λ n. (◌≡◌ {A = Option ℕ} None (Some n)) ⊎ Q n) o → IsGreatest Q o
after_nothing Q o f = greatest-same (λ n. (◌≡◌ {A = Option ℕ} None (Some n)) ⊎ Q n) Q o (λ n h. ⊎_elim (λ e. absurd cc) (λ q. q) h) (λ n q. inr q) f

own : (o : Option ℕ) → IsGreatest (λ n. o ≡ Some n) o
own None = λ n e. absurd cc
own (Some m) = (refl, λ n e. let f : m ≡ n = some_is m n e in omega arith)

through-none : (P R : ℕ → Type 0) (o : Option ℕ) → ((n : ℕ) → P n → ◌≡◌ {A = Option ℕ} o (Some n)) → ((n : ℕ) → ¬ ((o ≡ Some n) ⊎ R n)) → (n : ℕ) → ¬ (P n ⊎ R n)
through-none P R o f g n (inl p) = g n (inl (f n p))
through-none P R o f g n (inr r) = g n (inr r)

through-some : (P R : ℕ → Type 0) (m k : ℕ) → P m → ((n : ℕ) → P n → n ≤ m) → ((n : ℕ) → ((◌≡◌ {A = Option ℕ} (Some m) (Some n)) ⊎ R n) → n ≤ k) → (n : ℕ) → P n ⊎ R n → n ≤ k
through-some P R m k p f g n (inl q) = let a = f n q in let b = g m (inl refl) in omega arith
through-some P R m k p f g n (inr r) = g n (inr r)

through-any : (P R : ℕ → Type 0) (m k : ℕ) → P m → ((◌≡◌ {A = Option ℕ} (Some m) (Some k)) ⊎ R k) → P k ⊎ R k
through-any P R m k p (inl e) = inl (subst P (some_is m k e) p)
through-any P R m k p (inr r) = inr r

-- the greatest so far stands for all of them
greatest-through : (P R : ℕ → Type 0) (o r : Option ℕ) → IsGreatest P o → IsGreatest (λ n. (o ≡ Some n) ⊎ R n) r → IsGreatest (λ n. P n ⊎ R n) r
greatest-through P R None None f g = through-none P R None (λ n p. absurd (f n p)) g
greatest-through P R None (Some k) f g = (⊎_elim (λ e. absurd cc) (λ q. inr q) g.0, λ n h. ⊎_elim (λ p. absurd (f n p)) (λ q. g.1 n (inr q)) h)
greatest-through P R (Some m) None f g = λ n h. g m (inl refl)
greatest-through P R (Some m) (Some k) f g = (through-any P R m k f.0 g.0, through-some P R m k f.0 f.1 g.1)

to_right : {A B C : Type 0} → (A ⊎ B) ⊎ C → A ⊎ (B ⊎ C)
to_right (inl (inl a)) = inl a
to_right (inl (inr b)) = inr (inl b)
to_right (inr c) = inr (inr c)

to_left : {A B C : Type 0} → A ⊎ (B ⊎ C) → (A ⊎ B) ⊎ C
to_left (inl a) = inl (inl a)
to_left (inr (inl b)) = inl (inr b)
to_left (inr (inr c)) = inr c

mutual
  part-greatest : (inside : Bool) (i : Item) → IsGreatest (λ n. IsBad inside false false i n) (part inside i).bad
  part-greatest inside (Byte negated high low) = λ n h. h
  part-greatest inside (Jump at least most) = jump-part inside at least most
  part-greatest inside (Group bs) = group-greatest bs

  group-greatest : (bs : Branches) → IsGreatest (HasBadBranch bs) (group_part bs).bad
  group-greatest (only is) = after_nothing (HasBad true true is) _ (pushed-greatest true no_members is)
  group-greatest (or is bs) =
      let one = one_branch (sequence (pushed true no_members is)) in
      greatest-through (HasBad true true is) (HasBadBranch bs) one.bad _
      (after_nothing (HasBad true true is) _ (pushed-greatest true no_members is)) (added-greatest one bs)

  added-greatest : (c : ChoiceRead) (bs : Branches) → IsGreatest (λ n. (c.bad ≡ Some n) ⊎ HasBadBranch bs n) (added c bs).bad
  added-greatest c (only is) =
      greatest-or (λ n. c.bad ≡ Some n) (HasBad true true is) c.bad (sequence (pushed true no_members is)).bad (own c.bad)
      (after_nothing (HasBad true true is) _ (pushed-greatest true no_members is))
  added-greatest c (or is bs) =
      let next = add c (sequence (pushed true no_members is)) in
      greatest-same (λ n. ((c.bad ≡ Some n) ⊎ HasBad true true is n) ⊎ HasBadBranch bs n) (λ n. (c.bad ≡ Some n) ⊎ (HasBad true true is n ⊎ HasBadBranch bs n)) _
      (λ n h. to_right h) (λ n h. to_left h)
      (greatest-through (λ n. (c.bad ≡ Some n) ⊎ HasBad true true is n) (HasBadBranch bs) next.bad _
      (greatest-or (λ n. c.bad ≡ Some n) (HasBad true true is) c.bad (sequence (pushed true no_members is)).bad (own c.bad)
      (after_nothing (HasBad true true is) _ (pushed-greatest true no_members is)))
      (added-greatest next bs))

  pub pushed-greatest : (inside : Bool) (l : ListRead) (is : Items)
      → IsGreatest (λ n. (l.bad ≡ Some n) ⊎ HasBad inside (is_start l.members) is n) (sequence (pushed inside l is)).bad
  pushed-greatest inside l (last i) =
      let P : ℕ → Type 0 = λ n. l.bad ≡ Some n in
      greatest-same (λ n. Pushed inside P l i n ⊎ IsJumpAt i n) (λ n. P n ⊎ IsBad inside (is_start l.members) true i n) _
      (to_last inside (is_start l.members) P i) (from_last inside (is_start l.members) P i)
      (greatest-or (Pushed inside P l i) (IsJumpAt i) (push l (part inside i)).bad (part inside i).jump
      (push-greatest inside P l i (own l.bad) (part-greatest inside i)) (jump-greatest inside i))
  pushed-greatest inside l (more i is) =
      let P : ℕ → Type 0 = λ n. l.bad ≡ Some n in
      let next = push l (part inside i) in
      greatest-same (λ n. Pushed inside P l i n ⊎ HasBad inside false is n)
      (λ n. P n ⊎ (IsBad inside (is_start l.members) false i n ⊎ HasBad inside false is n)) _
      (to_next inside (is_start l.members) P i (HasBad inside false is)) (from_next inside (is_start l.members) P i (HasBad inside false is))
      (greatest-through (Pushed inside P l i) (HasBad inside false is) next.bad _ (push-greatest inside P l i (own l.bad) (part-greatest inside i))
      (subst (λ (b : Bool). IsGreatest (λ n. (next.bad ≡ Some n) ⊎ HasBad inside b is n) (sequence (pushed inside next is)).bad)
      (started l.members (part inside i).tree) (pushed-greatest inside next is)))

-- the first bad jump of a list
pub list-greatest : (inside : Bool) (is : Items) → IsGreatest (HasBad inside true is) (sequence (pushed inside no_members is)).bad
list-greatest inside is = after_nothing (HasBad inside true is) _ (pushed-greatest inside no_members is)
