-- One step of reading.
use Rattle.std.proofs.Common.{◌≡◌, ℕ, suc, ◌+◌, ◌-◌, ◌<◌, ◌≤◌, Bool, true, false, Some, None, Err, if◌then◌else◌, refl, sym, ap, ◌∙◌, arith}
use Rattle.yr_regex.specs.declared.fault.RegexFault.{RegexFault}
use Rattle.yr_regex.specs.declared.fault.RegexFault.TheVariants.{RegexSyntax, RegexRange, MixedGreed, NoMemory}
use Rattle.yr_regex.specs.Escapes.{Text}
use Rattle.yr_regex.specs.Reading.{Outcome, and_then, Yields, sees, after, BytesRead, all_bytes, member_at, members_at, PartRead, ListRead, push, sequence, choice, ends, piece_at, pieces_at, sequence_at, branches_at, expression_at, grouped_at}

-- ---- a recursion on a count of turns, beside a loop that counts up

pub one_more : {X : Type 0} {x : X} (f : ℕ → X) (n at : ℕ) → at < n → x ≡ f (n - at) → x ≡ f (suc (n - (at + 1)))
one_more f n at below e = let turn : n - at ≡ suc (n - (at + 1)) = omega arith in e ∙ ap f turn

pub no_more : {X : Type 0} {x : X} (f : ℕ → X) (n at : ℕ) → n ≤ at → x ≡ f (n - at) → x ≡ f 0
no_more f n at done e = let none : n - at ≡ 0 = omega arith in e ∙ ap f none

pub deeper : {X : Type 0} (f : ℕ → X) (n : ℕ) → 0 < n → f n ≡ f (suc (n - 1))
deeper f n some = let e : n ≡ suc (n - 1) = omega arith in ap f e

-- a refusal of a part is one of the whole
pub fails_with : {A B C D : Type 0} (view : A → B) (view' : C → D) (part : Outcome B) (whole : Outcome D) (e : RegexFault) (new new' : Text)
    → Yields view part (Err e) new → (part ≡ None → whole ≡ None) → Yields view' whole (Err e) new'
fails_with view view' part whole RegexSyntax new new' h f = f h
fails_with view view' part whole (RegexRange place) new new' h f = h
fails_with view view' part whole MixedGreed new new' h f = h
fails_with view view' part whole NoMemory new new' h f = tt

-- ---- outcomes

pub then-none : {A B : Type 0} (o : Outcome A) (f : A → Text → Outcome B) → o ≡ None → and_then o f ≡ None
then-none o f e = ap (λ x. and_then x f) e

pub then-some : {A B : Type 0} (o : Outcome A) (f : A → Text → Outcome B) (x : A × Text) → o ≡ Some x → and_then o f ≡ f x.0 x.1
then-some o f x e = ap (λ y. and_then y f) e

pub if_true : {A : Type 0} (b : Bool) (x y : A) → b ≡ true → (if b then x else y) ≡ x
if_true true x y e = refl
if_true false x y e = absurd cc

pub if_false : {A : Type 0} (b : Bool) (x y : A) → b ≡ false → (if b then x else y) ≡ y
if_false false x y e = refl
if_false true x y e = absurd cc

-- ---- members of a class

module _ (n : ℕ) (first : Bool) (c : BytesRead) (t : Text) (m : BytesRead) (u v : Text) (c' : BytesRead) where
  abbrev after_member : BytesRead → Text → Outcome BytesRead
  after_member m u = if sees 93 u then Some (all_bytes c m, after 93 u) else members_at n false (all_bytes c m) u

  pub members-end : member_at first t ≡ Some (m, u) → c' ≡ all_bytes c m → v ≡ after 93 u → sees 93 u ≡ true → members_at (suc n) first c t ≡ Some (c', v)
  unfolding members_at
  members-end e f g h =
      then-some (member_at first t) after_member (m, u) e ∙ if_true (sees 93 u) (Some (all_bytes c m, after 93 u)) (members_at n false (all_bytes c m) u) h
      ∙ ap (λ (x : BytesRead). Some (x, after 93 u)) (sym f) ∙ ap (λ (x : Text). Some (c', x)) (sym g)

  pub members-next : member_at first t ≡ Some (m, u) → c' ≡ all_bytes c m → v ≡ u → sees 93 u ≡ false
      → members_at (suc n) first c t ≡ members_at n false c' v
  unfolding members_at
  members-next e f g h =
      then-some (member_at first t) after_member (m, u) e ∙ if_false (sees 93 u) (Some (all_bytes c m, after 93 u)) (members_at n false (all_bytes c m) u) h
      ∙ ap (λ (x : BytesRead). members_at n false x u) (sym f) ∙ ap (λ (x : Text). members_at n false c' x) (sym g)

pub after-unseen : (b : ℕ) (t v : Text) → v ≡ after b t → sees b t ≡ false → v ≡ t
unfolding after
after-unseen b t v e h = e ∙ if_false (sees b t) _ t h

-- ---- pieces and branches

module _ (nocase dot_all : Bool) (group : Text → Outcome PartRead) (n : ℕ) (l : ListRead) (t : Text) where
  abbrev after_piece : PartRead → Text → Outcome PartRead
  after_piece p u = pieces_at nocase dot_all group n (push l p) u

  pub pieces-stop : (s : PartRead) → ends t ≡ true → s ≡ sequence l → pieces_at nocase dot_all group (suc n) l t ≡ Some (s, t)
  unfolding pieces_at
  pieces-stop s h k = if_true (ends t) (Some (sequence l, t)) (and_then (piece_at nocase dot_all group t) after_piece) h ∙ ap (λ (x : PartRead). Some (x, t)) (sym k)

  pub pieces-none : ends t ≡ false → piece_at nocase dot_all group t ≡ None → pieces_at nocase dot_all group (suc n) l t ≡ None
  unfolding pieces_at
  pieces-none h e = if_false (ends t) (Some (sequence l, t)) (and_then (piece_at nocase dot_all group t) after_piece) h ∙ then-none (piece_at nocase dot_all group t) after_piece e

  pub pieces-next : (p : PartRead) (u : Text) (l' : ListRead) → ends t ≡ false → piece_at nocase dot_all group t ≡ Some (p, u) → l' ≡ push l p
      → pieces_at nocase dot_all group (suc n) l t ≡ pieces_at nocase dot_all group n l' u
  unfolding pieces_at
  pieces-next p u l' h e f =
      if_false (ends t) (Some (sequence l, t)) (and_then (piece_at nocase dot_all group t) after_piece) h
      ∙ then-some (piece_at nocase dot_all group t) after_piece (p, u) e
      ∙ ap (λ (x : ListRead). pieces_at nocase dot_all group n x u) (sym f)

  pub pieces-last : (s : PartRead) → ends t ≡ true → s ≡ sequence l → pieces_at nocase dot_all group 0 l t ≡ Some (s, t)
  unfolding pieces_at
  pieces-last s h k = if_true (ends t) (Some (sequence l, t)) None h ∙ ap (λ (x : PartRead). Some (x, t)) (sym k)

  pub pieces-over : ends t ≡ false → pieces_at nocase dot_all group 0 l t ≡ None
  unfolding pieces_at
  pieces-over h = if_false (ends t) (Some (sequence l, t)) None h

  abbrev after_branch : PartRead → Text → Outcome PartRead
  after_branch p u = if sees 124 u then branches_at nocase dot_all group n (push l p) (after 124 u) else Some (choice (push l p), after 124 u)

  pub branches-none : sequence_at nocase dot_all group t ≡ None → branches_at nocase dot_all group (suc n) l t ≡ None
  unfolding branches_at
  branches-none e = then-none (sequence_at nocase dot_all group t) after_branch e

  module _ (p : PartRead) (u v : Text) (l' : ListRead) where
    pub branches-end : (s : PartRead) → sequence_at nocase dot_all group t ≡ Some (p, u) → l' ≡ push l p → v ≡ after 124 u → sees 124 u ≡ false → s ≡ choice l'
        → branches_at nocase dot_all group (suc n) l t ≡ Some (s, v)
    unfolding branches_at
    branches-end s e f g h k =
        then-some (sequence_at nocase dot_all group t) after_branch (p, u) e
        ∙ if_false (sees 124 u) (branches_at nocase dot_all group n (push l p) (after 124 u)) (Some (choice (push l p), after 124 u)) h
        ∙ ap (λ (x : ListRead). Some (choice x, after 124 u)) (sym f)
        ∙ ap (λ (x : PartRead). Some (x, after 124 u)) (sym k) ∙ ap (λ (x : Text). Some (s, x)) (sym g)

    pub branches-next : sequence_at nocase dot_all group t ≡ Some (p, u) → l' ≡ push l p → v ≡ after 124 u → sees 124 u ≡ true
        → branches_at nocase dot_all group (suc n) l t ≡ branches_at nocase dot_all group n l' v
    unfolding branches_at
    branches-next e f g h =
        then-some (sequence_at nocase dot_all group t) after_branch (p, u) e
        ∙ if_true (sees 124 u) (branches_at nocase dot_all group n (push l p) (after 124 u)) (Some (choice (push l p), after 124 u)) h
        ∙ ap (λ (x : ListRead). branches_at nocase dot_all group n x (after 124 u)) (sym f)
        ∙ ap (λ (x : Text). branches_at nocase dot_all group n l' x) (sym g)

-- ---- groups

module _ (nocase dot_all : Bool) (n : ℕ) (t : Text) where
  abbrev after_inside : PartRead → Text → Outcome PartRead
  after_inside p u = if sees 41 u then Some (p, after 41 u) else None

  pub group-none : expression_at nocase dot_all (grouped_at nocase dot_all n) t ≡ None → grouped_at nocase dot_all (suc n) t ≡ None
  unfolding grouped_at
  group-none e = then-none (expression_at nocase dot_all (grouped_at nocase dot_all n) t) after_inside e

  module _ (p : PartRead) (u v : Text) where
    pub group-end : expression_at nocase dot_all (grouped_at nocase dot_all n) t ≡ Some (p, u) → v ≡ after 41 u → sees 41 u ≡ true
        → grouped_at nocase dot_all (suc n) t ≡ Some (p, v)
    unfolding grouped_at
    group-end e g h =
        then-some (expression_at nocase dot_all (grouped_at nocase dot_all n) t) after_inside (p, u) e ∙ if_true (sees 41 u) (Some (p, after 41 u)) None h
        ∙ ap (λ (x : Text). Some (p, x)) (sym g)

    pub group-open : expression_at nocase dot_all (grouped_at nocase dot_all n) t ≡ Some (p, u) → sees 41 u ≡ false → grouped_at nocase dot_all (suc n) t ≡ None
    unfolding grouped_at
    group-open e h =
        then-some (expression_at nocase dot_all (grouped_at nocase dot_all n) t) after_inside (p, u) e ∙ if_false (sees 41 u) (Some (p, after 41 u)) None h
