-- What is read the grammar has.
use Rattle.std.proofs.Common.{◌≡◌, ℕ, zero, suc, ⊎_elim, Bool, true, ◌∷◌, length, Some, if◌then◌else◌, sym, ap, subst, ◌∙◌}
use Rattle.yr_hex.specs.declared.jump.Numbers.{Numbers}
use Rattle.yr_hex.specs.Gaps.{Text, Gap}
use Rattle.yr_hex.specs.Items.{Item, Items, Branches, Byte, Jump, Group, last, more, only, or}
use Rattle.yr_hex.specs.Grammar.{ReadsJump, ReadsItem, jump, group, ReadsItems, last_item, item_then, ReadsBranches, last_branch, branch_then}
use Rattle.yr_hex.specs.Reading.{Outcome, sees, after, expect, past_gap, cut, PartRead, ListRead, ChoiceRead, byte_part, jump_part, no_members, push, sequence, one_branch, add, choice, ends, read_numbers, read_jump, read_byte, read_one, read_item, items_from, read_list, branches_from, read_group, group_at, part, group_part, added, pushed}
use Rattle.yr_hex.proofs.GapLemmas.{gap-found}
use Rattle.yr_hex.proofs.StepLemmas.{rest_of, after_branch, after_bar, after_first}
use Rattle.yr_hex.proofs.OutcomeLemmas.{bind-some, some_is, chosen, after-true, after-false, expect-some}
use Rattle.yr_hex.proofs.NumberLemmas.{cut-step, cut-small}
use Rattle.yr_hex.proofs.JumpLemmas.{jump-found}
use Rattle.yr_hex.proofs.ByteLemmas.{byte-found}

abbrev ItemFound : ℕ → Bool → Text → PartRead × Text → Type 0
ItemFound n inside t x = (i : Item) × ReadsItem n t i x.1 × (x.0 ≡ part inside i)

abbrev ListFound : ℕ → Bool → ListRead → Text → PartRead × Text → Type 0
ListFound n inside l t x = (is : Items) × ReadsItems n t is x.1 × (x.0 ≡ sequence (pushed inside l is))

-- branches that stand after a `(`
abbrev GroupFound : ℕ → Text → PartRead × Text → Type 0
GroupFound n t x = (bs : Branches) × ReadsItem n (40 ∷ t) (Group bs) x.1 × (x.0 ≡ group_part bs)

jump_item-found : (n : ℕ) (inside : Bool) (t : Text) (x : PartRead × Text) → sees 91 t ≡ true → read_jump inside (length t) (after 91 t) ≡ Some x → ItemFound n inside t x
unfolding read_jump
jump_item-found n inside t x h e =
    let a = bind-some (read_numbers cut (after 91 t)) (λ m u. Some (jump_part inside (length t) m.least m.most, u)) x e in
    let j = jump-found cut cut-step cut-small (after 91 t) a.0 a.1 in
    let s = some_is (jump_part inside (length t) a.0.0.least a.0.0.most, a.0.1) x a.2 in
    let r : ReadsJump t j.0 j.1 a.0.1 = subst (λ (u : Text). ReadsJump u j.0 j.1 a.0.1) (sym (after-true 91 t h)) j.2 in (
      Jump (length t) j.0 j.1,
      subst (λ (y : PartRead × Text). ReadsItem n t (Jump (length t) j.0 j.1) y.1) s (jump r),
      sym (ap (λ (y : PartRead × Text). y.0) s) ∙ ap (λ (m : Numbers). jump_part inside (length t) m.least m.most) j.3,
    )

one_item-found : (n : ℕ) (inside : Bool) (t : Text) (x : PartRead × Text) → read_one t ≡ Some x → ItemFound n inside t x
unfolding read_one
one_item-found n inside t x e =
    let a = bind-some (read_byte t) (λ bytes u. Some (byte_part bytes, u)) x e in
    let b = byte-found n t a.0 a.1 in
    let s = some_is (byte_part a.0.0, a.0.1) x a.2 in (
      Byte b.0 b.1 b.2,
      subst (λ (y : PartRead × Text). ReadsItem n t (Byte b.0 b.1 b.2) y.1) s b.3,
      sym (ap (λ (y : PartRead × Text). y.0) s) ∙ ap byte_part b.4,
    )

module _ (n : ℕ) (inside : Bool) (inner : Text → Outcome PartRead) (ih : (t : Text) (x : PartRead × Text) → inner t ≡ Some x → GroupFound n t x) where
  no_group : (t : Text) (x : PartRead × Text) → (if sees 91 t then read_jump inside (length t) (after 91 t) else read_one (after 91 t)) ≡ Some x → ItemFound n inside t x
  no_group t x e = ⊎_elim
      (λ c. jump_item-found n inside t x c.0 c.1)
      (λ c. one_item-found n inside t x (ap (λ (u : Text). read_one u) (sym (after-false 91 t c.0)) ∙ c.1))
      (chosen (sees 91 t) (read_jump inside (length t) (after 91 t)) (read_one (after 91 t)) (Some x) e)

  pub item-found : (t : Text) (x : PartRead × Text) → read_item inside inner t ≡ Some x → ItemFound n inside t x
  unfolding read_item
  item-found t x e = ⊎_elim
      (λ c. let g = ih (after 40 t) x c.1 in
      (Group g.0, subst (λ (u : Text). ReadsItem n u (Group g.0) x.1) (sym (after-true 40 t c.0)) g.1, g.2))
      (λ c. no_group t x (ap (λ (u : Text). if sees 91 u then read_jump inside (length t) (after 91 u) else read_one (after 91 u)) (sym (after-false 40 t c.0)) ∙ c.1))
      (chosen (sees 40 t) (inner (after 40 t))
      (if sees 91 (after 40 t) then read_jump inside (length t) (after 91 (after 40 t)) else read_one (after 91 (after 40 t))) (Some x) e)

  items-found : (m : ℕ) (l : ListRead) (t u : Text) → Gap t u → (x : PartRead × Text) → items_from inside inner m l u ≡ Some x → ListFound n inside l t x
  unfolding items_from
  items-found zero l t u g x e = absurd cc
  items-found (suc m) l t u g x e =
      let a = bind-some (read_item inside inner u) (rest_of inside inner m l u) x e in
      let f = item-found u a.0 a.1 in
      let v : Text = a.0.1 in
      ⊎_elim
      (λ c. let s = some_is (sequence (push l a.0.0), past_gap v) x c.1 in (
        last f.0,
        subst (λ (y : PartRead × Text). ReadsItems n t (last f.0) y.1) s (last_item g f.1 (gap-found v)),
        sym (ap (λ (y : PartRead × Text). y.0) s) ∙ ap (λ (p : PartRead). sequence (push l p)) f.2,
      ))
      (λ c. let fs = items-found m (push l a.0.0) v (past_gap v) (gap-found v) x c.1 in
      (more f.0 fs.0, item_then g f.1 fs.1, fs.2 ∙ ap (λ (p : PartRead). sequence (pushed inside (push l p) fs.0)) f.2))
      (chosen (ends (past_gap v)) (Some (sequence (push l a.0.0), past_gap v)) (items_from inside inner m (push l a.0.0) (past_gap v)) (Some x) a.2)

  pub list-found : (t : Text) (x : PartRead × Text) → read_list inside inner t ≡ Some x → ListFound n inside no_members t x
  unfolding read_list
  list-found t x e = items-found (length (past_gap t)) no_members t (past_gap t) (gap-found t) x e

-- branches that stand after a `|`
abbrev BranchesFound : ℕ → ChoiceRead → Text → PartRead × Text → Type 0
BranchesFound n c t x = (v : Text) × (bs : Branches) × (t ≡ 124 ∷ v) × ReadsBranches n v bs (41 ∷ x.1) × (x.0 ≡ choice (added c bs))

module _ (n : ℕ) (inner : Text → Outcome PartRead) (ih : (t : Text) (x : PartRead × Text) → inner t ≡ Some x → GroupFound n t x) where
  branches-found : (m : ℕ) (c : ChoiceRead) (t : Text) (x : PartRead × Text) → branches_from inner m c t ≡ Some x → BranchesFound n c t x
  unfolding branches_from
  branches-found zero c t x e = absurd cc
  branches-found (suc m) c t x e =
      let a = bind-some (expect 124 t) (after_bar inner m c t) x e in
      let v : Text = a.0.1 in
      let b = bind-some (read_list true inner v) (after_branch inner m c t) x a.2 in
      let f = list-found n true inner ih v b.0 b.1 in
      let w : Text = b.0.1 in
      ⊎_elim
      (λ k. let s = some_is (choice (add c b.0.0), after 41 w) x k.1 in
      let to : w ≡ 41 ∷ x.1 = after-true 41 w k.0 ∙ ap (λ (y : PartRead × Text). 41 ∷ y.1) s in (
        v,
        only f.0,
        expect-some 124 t a.0 a.1,
        last_branch (subst (λ (y : Text). ReadsItems n v f.0 y) to f.1),
        sym (ap (λ (y : PartRead × Text). y.0) s) ∙ ap (λ (p : PartRead). choice (add c p)) f.2,
      ))
      (λ k. let fs = branches-found m (add c b.0.0) (after 41 w) x k.1 in
      let to : w ≡ 124 ∷ fs.0 = sym (after-false 41 w k.0) ∙ fs.2 in (
        v,
        or f.0 fs.1,
        expect-some 124 t a.0 a.1,
        branch_then (subst (λ (y : Text). ReadsItems n v f.0 y) to f.1) fs.3,
        fs.4 ∙ ap (λ (p : PartRead). choice (added (add c p) fs.1)) f.2,
      ))
      (chosen (sees 41 w) (Some (choice (add c b.0.0), after 41 w)) (branches_from inner m (add c b.0.0) (after 41 w)) (Some x) b.2)

  group-found : (t : Text) (x : PartRead × Text) → read_group inner t ≡ Some x → (bs : Branches) × ReadsBranches n t bs (41 ∷ x.1) × (x.0 ≡ group_part bs)
  unfolding read_group
  group-found t x e =
      let b = bind-some (read_list true inner t) (after_first inner t) x e in
      let f = list-found n true inner ih t b.0 b.1 in
      let w : Text = b.0.1 in
      ⊎_elim
      (λ k. let s = some_is (b.0.0, after 41 w) x k.1 in
      let to : w ≡ 41 ∷ x.1 = after-true 41 w k.0 ∙ ap (λ (y : PartRead × Text). 41 ∷ y.1) s in
      (only f.0, last_branch (subst (λ (y : Text). ReadsItems n t f.0 y) to f.1), sym (ap (λ (y : PartRead × Text). y.0) s) ∙ f.2))
      (λ k. let fs = branches-found (length (after 41 w)) (one_branch b.0.0) (after 41 w) x k.1 in
      let to : w ≡ 124 ∷ fs.0 = sym (after-false 41 w k.0) ∙ fs.2 in (
        or f.0 fs.1,
        branch_then (subst (λ (y : Text). ReadsItems n t f.0 y) to f.1) fs.3,
        fs.4 ∙ ap (λ (p : PartRead). choice (added (one_branch p) fs.1)) f.2,
      ))
      (chosen (sees 41 w) (Some (b.0.0, after 41 w)) (branches_from inner (length (after 41 w)) (one_branch b.0.0) (after 41 w)) (Some x) b.2)

group_at-found : (n : ℕ) (t : Text) (x : PartRead × Text) → group_at n t ≡ Some x → GroupFound n t x
unfolding group_at
group_at-found zero t x e = absurd cc
group_at-found (suc n) t x e = let f = group-found n (group_at n) (group_at-found n) t x e in (f.0, group f.1, f.2)

pub list-sound : (n : ℕ) (inside : Bool) (t : Text) (x : PartRead × Text) → read_list inside (group_at n) t ≡ Some x
    → (is : Items) × ReadsItems n t is x.1 × (x.0 ≡ sequence (pushed inside no_members is))
list-sound n inside t x e = list-found n inside (group_at n) (group_at-found n) t x e
