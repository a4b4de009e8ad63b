-- One step of reading items and branches.
use Rattle.std.proofs.Common.{◌≡◌, ℕ, suc, ◌+◌, ◌-◌, ◌<◌, ◌≤◌, Bool, true, false, length, Some, None, Err, if◌then◌else◌, refl, sym, ap, ◌∙◌, arith}
use Rattle.yr_hex.specs.declared.fault.HexFault.{HexFault}
use Rattle.yr_hex.specs.declared.fault.HexFault.TheVariants.{HexSyntax, HexJump, NoMemory}
use Rattle.yr_hex.specs.Gaps.{Text}
use Rattle.yr_hex.specs.Reading.{Outcome, and_then, Yields, sees, after, expect, past_gap, PartRead, ListRead, ChoiceRead, push, sequence, add, choice, one_branch, ends, read_item, items_from, read_list, branches_from, read_group, group_at}

-- ---- a recursion on a count of turns, beside a loop that counts up

pub one_more : {X : Type 0} {x : X} (f : ℕ → X) (n at : ℕ) → at < n → x ≡ f (n - at) → x ≡ f (suc (n - (at + 1)))
one_more f n at below e = let turn : n - at ≡ suc (n - (at + 1)) = omega arith in e ∙ ap f turn

pub no_more : {X : Type 0} {x : X} (f : ℕ → X) (n at : ℕ) → n ≤ at → x ≡ f (n - at) → x ≡ f 0
no_more f n at done e = let none : n - at ≡ 0 = omega arith in e ∙ ap f none

pub deeper : {X : Type 0} (f : ℕ → X) (n : ℕ) → 0 < n → f n ≡ f (suc (n - 1))
deeper f n some = let e : n ≡ suc (n - 1) = omega arith in ap f e

-- a refusal of a part is one of the whole
pub fails_with : {A B C D : Type 0} (view : A → B) (view' : C → D) (part : Outcome B) (whole : Outcome D) (e : HexFault) (new new' : Text)
    → Yields view part (Err e) new → (part ≡ None → whole ≡ None) → Yields view' whole (Err e) new'
fails_with view view' part whole HexSyntax new new' h f = f h
fails_with view view' part whole (HexJump place) new new' h f = h
fails_with view view' part whole NoMemory new new' h f = tt

-- ---- outcomes

pub then-none : {A B : Type 0} (o : Outcome A) (f : A → Text → Outcome B) → o ≡ None → and_then o f ≡ None
then-none o f e = ap (λ x. and_then x f) e

pub then-some : {A B : Type 0} (o : Outcome A) (f : A → Text → Outcome B) (x : A × Text) → o ≡ Some x → and_then o f ≡ f x.0 x.1
then-some o f x e = ap (λ y. and_then y f) e

pub if_true : {A : Type 0} (b : Bool) (x y : A) → b ≡ true → (if b then x else y) ≡ x
if_true true x y e = refl
if_true false x y e = absurd cc

pub if_false : {A : Type 0} (b : Bool) (x y : A) → b ≡ false → (if b then x else y) ≡ y
if_false false x y e = refl
if_false true x y e = absurd cc

-- ---- items

module _ (inside : Bool) (group : Text → Outcome PartRead) (n : ℕ) (l : ListRead) (t : Text) where
  abbrev pub rest_of : PartRead → Text → Outcome PartRead
  rest_of p u = if ends (past_gap u) then Some (sequence (push l p), past_gap u) else items_from inside group n (push l p) (past_gap u)

  pub items-none : read_item inside group t ≡ None → items_from inside group (suc n) l t ≡ None
  unfolding items_from
  items-none e = then-none (read_item inside group t) rest_of e

  pub items-end : (p : PartRead) (u : Text) → read_item inside group t ≡ Some (p, u) → ends (past_gap u) ≡ true
      → items_from inside group (suc n) l t ≡ Some (sequence (push l p), past_gap u)
  unfolding items_from
  items-end p u e h = then-some (read_item inside group t) rest_of (p, u) e
      ∙ if_true (ends (past_gap u)) (Some (sequence (push l p), past_gap u)) (items_from inside group n (push l p) (past_gap u)) h

  pub items-next : (p : PartRead) (u : Text) → read_item inside group t ≡ Some (p, u) → ends (past_gap u) ≡ false
      → items_from inside group (suc n) l t ≡ items_from inside group n (push l p) (past_gap u)
  unfolding items_from
  items-next p u e h = then-some (read_item inside group t) rest_of (p, u) e
      ∙ if_false (ends (past_gap u)) (Some (sequence (push l p), past_gap u)) (items_from inside group n (push l p) (past_gap u)) h

-- ---- branches

module _ (group : Text → Outcome PartRead) (n : ℕ) (c : ChoiceRead) (t : Text) where
  abbrev pub after_branch : PartRead → Text → Outcome PartRead
  after_branch p v = if sees 41 v then Some (choice (add c p), after 41 v) else branches_from group n (add c p) (after 41 v)

  abbrev pub after_bar : Unit {0} → Text → Outcome PartRead
  after_bar x u = and_then (read_list true group u) after_branch

  pub branches-no_bar : expect 124 t ≡ None → branches_from group (suc n) c t ≡ None
  unfolding branches_from
  branches-no_bar e = then-none (expect 124 t) after_bar e

  pub branches-none : (u : Text) → expect 124 t ≡ Some (tt, u) → read_list true group u ≡ None → branches_from group (suc n) c t ≡ None
  unfolding branches_from
  branches-none u e f = then-some (expect 124 t) after_bar (tt, u) e ∙ then-none (read_list true group u) after_branch f

  pub branches-end : (u v : Text) (p : PartRead) → expect 124 t ≡ Some (tt, u) → read_list true group u ≡ Some (p, v) → sees 41 v ≡ true
      → branches_from group (suc n) c t ≡ Some (choice (add c p), after 41 v)
  unfolding branches_from
  branches-end u v p e f h = then-some (expect 124 t) after_bar (tt, u) e ∙ then-some (read_list true group u) after_branch (p, v) f
      ∙ if_true (sees 41 v) (Some (choice (add c p), after 41 v)) (branches_from group n (add c p) (after 41 v)) h

  pub branches-next : (u v : Text) (p : PartRead) → expect 124 t ≡ Some (tt, u) → read_list true group u ≡ Some (p, v) → sees 41 v ≡ false
      → branches_from group (suc n) c t ≡ branches_from group n (add c p) (after 41 v)
  unfolding branches_from
  branches-next u v p e f h = then-some (expect 124 t) after_bar (tt, u) e ∙ then-some (read_list true group u) after_branch (p, v) f
      ∙ if_false (sees 41 v) (Some (choice (add c p), after 41 v)) (branches_from group n (add c p) (after 41 v)) h

module _ (group : Text → Outcome PartRead) (t : Text) where
  abbrev pub after_first : PartRead → Text → Outcome PartRead
  after_first p u = if sees 41 u then Some (p, after 41 u) else branches_from group (length (after 41 u)) (one_branch p) (after 41 u)

  pub group-none : read_list true group t ≡ None → read_group group t ≡ None
  unfolding read_group
  group-none e = then-none (read_list true group t) after_first e

  pub group-end : (p : PartRead) (u : Text) → read_list true group t ≡ Some (p, u) → sees 41 u ≡ true → read_group group t ≡ Some (p, after 41 u)
  unfolding read_group
  group-end p u e h = then-some (read_list true group t) after_first (p, u) e
      ∙ if_true (sees 41 u) (Some (p, after 41 u)) (branches_from group (length (after 41 u)) (one_branch p) (after 41 u)) h

  pub group-next : (p : PartRead) (u : Text) → read_list true group t ≡ Some (p, u) → sees 41 u ≡ false
      → read_group group t ≡ branches_from group (length (after 41 u)) (one_branch p) (after 41 u)
  unfolding read_group
  group-next p u e h = then-some (read_list true group t) after_first (p, u) e
      ∙ if_false (sees 41 u) (Some (p, after 41 u)) (branches_from group (length (after 41 u)) (one_branch p) (after 41 u)) h

pub group_at-suc : (n : ℕ) (t : Text) → group_at (suc n) t ≡ read_group (group_at n) t
unfolding group_at
group_at-suc n t = refl

-- ---- the same, by what the calls of one turn say

module _ (inside : Bool) (group : Text → Outcome PartRead) (n : ℕ) (l : ListRead) (t : Text) (p : PartRead) (u v : Text) (l' : ListRead) where
  pub list-end : (s : PartRead) → read_item inside group t ≡ Some (p, u) → l' ≡ push l p → v ≡ past_gap u → ends v ≡ true → s ≡ sequence l'
      → items_from inside group (suc n) l t ≡ Some (s, v)
  list-end s e f g h k =
      items-end inside group n l t p u e (sym (ap ends g) ∙ h)
      ∙ ap (λ (x : PartRead). Some (x, past_gap u)) (sym (k ∙ ap sequence f)) ∙ ap (λ (x : Text). Some (s, x)) (sym g)

  pub list-next : read_item inside group t ≡ Some (p, u) → l' ≡ push l p → v ≡ past_gap u → ends v ≡ false
      → items_from inside group (suc n) l t ≡ items_from inside group n l' v
  list-next e f g h =
      items-next inside group n l t p u e (sym (ap ends g) ∙ h)
      ∙ ap (λ (x : ListRead). items_from inside group n x (past_gap u)) (sym f) ∙ ap (λ (x : Text). items_from inside group n l' x) (sym g)

module _ (group : Text → Outcome PartRead) (n : ℕ) (c : ChoiceRead) (t u v w : Text) (p : PartRead) (c' : ChoiceRead) where
  pub choice-end : (s : PartRead) → expect 124 t ≡ Some (tt, u) → read_list true group u ≡ Some (p, v) → c' ≡ add c p → w ≡ after 41 v → sees 41 v ≡ true
      → s ≡ choice c' → branches_from group (suc n) c t ≡ Some (s, w)
  choice-end s e f g h b k =
      branches-end group n c t u v p e f b
      ∙ ap (λ (x : PartRead). Some (x, after 41 v)) (sym (k ∙ ap choice g)) ∙ ap (λ (x : Text). Some (s, x)) (sym h)

  pub choice-next : expect 124 t ≡ Some (tt, u) → read_list true group u ≡ Some (p, v) → c' ≡ add c p → w ≡ after 41 v → sees 41 v ≡ false
      → branches_from group (suc n) c t ≡ branches_from group n c' w
  choice-next e f g h b =
      branches-next group n c t u v p e f b
      ∙ ap (λ (x : ChoiceRead). branches_from group n x (after 41 v)) (sym g) ∙ ap (λ (x : Text). branches_from group n c' x) (sym h)

module _ (group : Text → Outcome PartRead) (t u v : Text) (p : PartRead) where
  pub first-end : read_list true group t ≡ Some (p, u) → v ≡ after 41 u → sees 41 u ≡ true → read_group group t ≡ Some (p, v)
  first-end e h b = group-end group t p u e b ∙ ap (λ (x : Text). Some (p, x)) (sym h)

  pub first-next : read_list true group t ≡ Some (p, u) → v ≡ after 41 u → sees 41 u ≡ false → read_group group t ≡ branches_from group (length v) (one_branch p) v
  first-next e h b = group-next group t p u e b ∙ ap (λ (x : Text). branches_from group (length x) (one_branch p) x) (sym h)
