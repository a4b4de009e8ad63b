-- What the grammar has is read.
use Rattle.std.proofs.Common.{◌≡◌, ℕ, zero, suc, ◌<◌, ◌≤◌, Bool, true, false, ◌∷◌, length, Option, Some, if◌then◌else◌, refl, sym, ap, ◌∙◌, arith}
use Rattle.std.specs.Prelude.{◌==◌}
use Rattle.std.proofs.lemmas.Bool.{ne_eqb, or_from}
use Rattle.yr_hex.specs.declared.jump.Numbers.{Numbers}
use Rattle.yr_hex.specs.Gaps.{Text}
use Rattle.yr_hex.specs.Items.{Item, Items, Branches}
use Rattle.yr_hex.specs.Grammar.{half, ReadsItem, byte, other, jump, group, ReadsItems, last_item, item_then, ReadsBranches, last_branch, branch_then}
use Rattle.yr_hex.specs.Meaning.{class_of}
use Rattle.yr_hex.specs.Reading.{Outcome, sees, after, expect, past_gap, cut, capped, numbers, PartRead, ListRead, ChoiceRead, byte_part, jump_part, no_members, push, sequence, one_branch, add, choice, ends, read_numbers, read_jump, read_byte, read_one, read_item, items_from, read_list, branches_from, read_group, group_at, part, group_part, added, pushed}
use Rattle.yr_hex.proofs.GapLemmas.{gap-read, gap-found, gap-shorter}
use Rattle.yr_hex.proofs.StepLemmas.{if_true, if_false, then-some, items-end, items-next, branches-end, branches-next, group-end, group-next}
use Rattle.yr_hex.proofs.OutcomeLemmas.{after-false, sees-other}
use Rattle.yr_hex.proofs.NumberLemmas.{cut-step, cut-small}
use Rattle.yr_hex.proofs.JumpLemmas.{jump-read, ReadsJump-shorter}
use Rattle.yr_hex.proofs.ByteLemmas.{half-is_no, byte-read, other-read}

-- ---- each part takes a byte

mutual
  pub ReadsItem-shorter : {n : ℕ} {i : Item} {t rest : Text} → ReadsItem n t i rest → length rest < length t
  ReadsItem-shorter (byte e f) = omega arith
  ReadsItem-shorter (other e f m) = omega arith
  ReadsItem-shorter (jump r) = ReadsJump-shorter r
  ReadsItem-shorter (group r) = let s = ReadsBranches-shorter r in omega arith

  pub ReadsItems-shorter : {n : ℕ} {is : Items} {t rest : Text} → ReadsItems n t is rest → length rest < length t
  ReadsItems-shorter (last_item g r h) = let a = gap-shorter g in let b = ReadsItem-shorter r in let c = gap-shorter h in omega arith
  ReadsItems-shorter (item_then g r rs) = let a = gap-shorter g in let b = ReadsItem-shorter r in let c = ReadsItems-shorter rs in omega arith

  pub ReadsBranches-shorter : {n : ℕ} {bs : Branches} {t rest : Text} → ReadsBranches n t bs rest → length rest < length t
  ReadsBranches-shorter (last_branch r) = ReadsItems-shorter r
  ReadsBranches-shorter (branch_then r rs) = let a = ReadsItems-shorter r in let b = ReadsBranches-shorter rs in omega arith

-- ---- an item begins with no sign that ends a list

half-begins : (h : ℕ) (t : Text) (high : Option ℕ) → half h ≡ Some high → ends (h ∷ t) ≡ false
half-begins h t high e = or_from (h == 41) (h == 124) (ne_eqb h 41 (half-is_no h 41 high e refl)) (ne_eqb h 124 (half-is_no h 124 high e refl))

item-begins : {n : ℕ} {i : Item} {t rest : Text} → ReadsItem n t i rest → ends t ≡ false
item-begins (byte {h = h} {l = l} {high = high} {rest = rest} e f) = half-begins h (l ∷ rest) high e
item-begins (other e f m) = refl
item-begins (jump r) = ap ends (jump-read cut cut-step cut-small r).1
item-begins (group r) = refl

pub items-begin : {n : ℕ} {is : Items} {t rest : Text} → ReadsItems n t is rest → ends (past_gap t) ≡ false
items-begin (last_item g r h) = ap ends (gap-read g) ∙ item-begins r
items-begin (item_then g r rs) = ap ends (gap-read g) ∙ item-begins r

-- ---- which item begins

module _ (inside : Bool) (inner : Text → Outcome PartRead) (t : Text) where
  at_one : sees 40 t ≡ false → sees 91 t ≡ false → read_item inside inner t ≡ read_one t
  unfolding read_item
  at_one h k =
      if_false (sees 40 t) _ _ h
      ∙ ap (λ (u : Text). if sees 91 u then read_jump inside (length t) (after 91 u) else read_one (after 91 u)) (after-false 40 t h)
      ∙ if_false (sees 91 t) _ _ k ∙ ap (λ (u : Text). read_one u) (after-false 91 t k)

  at_jump : sees 40 t ≡ false → sees 91 t ≡ true → read_item inside inner t ≡ read_jump inside (length t) (after 91 t)
  unfolding read_item
  at_jump h k =
      if_false (sees 40 t) _ _ h
      ∙ ap (λ (u : Text). if sees 91 u then read_jump inside (length t) (after 91 u) else read_one (after 91 u)) (after-false 40 t h)
      ∙ if_true (sees 91 t) _ _ k

  at_group : sees 40 t ≡ true → read_item inside inner t ≡ inner (after 40 t)
  unfolding read_item
  at_group h = if_true (sees 40 t) _ _ h

  one-read : (bytes : ℕ → Bool) (rest : Text) → sees 40 t ≡ false → sees 91 t ≡ false → read_byte t ≡ Some (bytes, rest)
      → read_item inside inner t ≡ Some (byte_part bytes, rest)
  unfolding read_one
  one-read bytes rest h k e = at_one h k ∙ then-some (read_byte t) (λ b u. Some (byte_part b, u)) (bytes, rest) e

jump_item : (inside : Bool) (inner : Text → Outcome PartRead) (u rest : Text) (n : Numbers) → read_numbers cut u ≡ Some (n, rest)
    → read_item inside inner (91 ∷ u) ≡ Some (jump_part inside (length (91 ∷ u)) n.least n.most, rest)
unfolding read_jump sees after
jump_item inside inner u rest n e =
    at_jump inside inner (91 ∷ u) refl refl ∙ then-some (read_numbers cut u) (λ m v. Some (jump_part inside (length (91 ∷ u)) m.least m.most, v)) (n, rest) e

list-read : (n : ℕ) (t rest : Text) (is : Items) (inside : Bool)
    → ((l : ListRead) (m : ℕ) → length (past_gap t) ≤ m → items_from inside (group_at n) m l (past_gap t) ≡ Some (sequence (pushed inside l is), rest))
    → read_list inside (group_at n) t ≡ Some (sequence (pushed inside no_members is), rest)
unfolding read_list
list-read n t rest is inside f = f no_members (length (past_gap t)) (omega arith)

bar_next : (v : Text) → expect 124 (124 ∷ v) ≡ Some (tt, v)
unfolding expect sees
bar_next v = refl

-- ---- items and branches

mutual
  unfolding sees after group_at

  pub item-complete : {n : ℕ} {i : Item} {t rest : Text} → ReadsItem n t i rest → (inside : Bool) → read_item inside (group_at n) t ≡ Some (part inside i, rest)
  item-complete (byte {n = n} {h = h} {l = l} {high = high} {low = low} {rest = rest} e f) inside =
      one-read inside (group_at n) (h ∷ l ∷ rest) (class_of false high low) rest (sees-other 40 h (l ∷ rest) (half-is_no h 40 high e refl)) (sees-other 91 h (l ∷ rest) (half-is_no h 91 high e refl))
      (byte-read h l rest high low e f)
  item-complete (other {n = n} {h = h} {l = l} {high = high} {low = low} {rest = rest} e f m) inside =
      one-read inside (group_at n) (126 ∷ h ∷ l ∷ rest) (class_of true high low) rest refl refl (other-read h l rest high low e f m)
  item-complete (jump {n = n} {least = least} {most = most} {t = t} {rest = rest} r) inside =
      let j = jump-read cut cut-step cut-small r in
      ap (λ (u : Text). read_item inside (group_at n) u) j.1
      ∙ jump_item inside (group_at n) j.0 rest (numbers (cut least) (capped cut most)) j.2
      ∙ ap (λ (u : Text). Some (jump_part inside (length u) (cut least) (capped cut most), rest)) (sym j.1)
  item-complete (group {n = n} {t = t} r) inside = at_group inside (group_at (suc n)) (40 ∷ t) refl ∙ group-complete r refl

  pub items-complete : {n : ℕ} {is : Items} {t rest : Text} → ReadsItems n t is rest → ends rest ≡ true → (inside : Bool) (l : ListRead) (m : ℕ) → length (past_gap t) ≤ m
      → items_from inside (group_at n) m l (past_gap t) ≡ Some (sequence (pushed inside l is), rest)
  items-complete (last_item g r h) stop inside l zero b =
      let s = ReadsItem-shorter r in let e = ap (λ (x : Text). length x) (gap-read g) in absurd (omega arith)
  items-complete (last_item {n = n} {i = i} {u = u} {v = v} g r h) stop inside l (suc m) b =
      ap (λ (x : Text). items_from inside (group_at n) (suc m) l x) (gap-read g)
      ∙ items-end inside (group_at n) m l u (part inside i) v (item-complete r inside) (ap ends (gap-read h) ∙ stop)
      ∙ ap (λ (x : Text). Some (sequence (push l (part inside i)), x)) (gap-read h)
  items-complete (item_then g r rs) stop inside l zero b =
      let s = ReadsItem-shorter r in let e = ap (λ (x : Text). length x) (gap-read g) in absurd (omega arith)
  items-complete (item_then {n = n} {i = i} {u = u} {v = v} g r rs) stop inside l (suc m) b =
      let s = ReadsItem-shorter r in
      let e = ap (λ (x : Text). length x) (gap-read g) in
      let f = gap-shorter (gap-found v) in
      ap (λ (x : Text). items_from inside (group_at n) (suc m) l x) (gap-read g)
      ∙ items-next inside (group_at n) m l u (part inside i) v (item-complete r inside) (items-begin rs)
      ∙ items-complete rs stop inside (push l (part inside i)) m (omega arith)

  branches-complete : {n : ℕ} {bs : Branches} {v stop : Text} → ReadsBranches n v bs stop → {rest : Text} → stop ≡ 41 ∷ rest → (c : ChoiceRead) (m : ℕ) → length v < m
      → branches_from (group_at n) m c (124 ∷ v) ≡ Some (choice (added c bs), rest)
  branches-complete r e c zero b = absurd (omega arith)
  branches-complete (last_branch {n = n} {is = is} {t = v} {rest = stop} r) e c (suc m) b =
      branches-end (group_at n) m c (124 ∷ v) v stop (sequence (pushed true no_members is)) (bar_next v)
      (list-read n v stop is true (items-complete r (ap ends e) true)) (ap (sees 41) e)
      ∙ ap (λ (x : Text). Some (choice (add c (sequence (pushed true no_members is))), after 41 x)) e
  branches-complete (branch_then {n = n} {is = is} {t = v} {u = u} r rs) e c (suc m) b =
      let s = ReadsItems-shorter r in
      branches-next (group_at n) m c (124 ∷ v) v (124 ∷ u) (sequence (pushed true no_members is)) (bar_next v)
      (list-read n v (124 ∷ u) is true (items-complete r refl true)) refl
      ∙ branches-complete rs e (add c (sequence (pushed true no_members is))) m (omega arith)

  group-complete : {n : ℕ} {bs : Branches} {t stop : Text} → ReadsBranches n t bs stop → {rest : Text} → stop ≡ 41 ∷ rest → read_group (group_at n) t ≡ Some (group_part bs, rest)
  group-complete (last_branch {n = n} {is = is} {t = t} {rest = stop} r) e =
      group-end (group_at n) t (sequence (pushed true no_members is)) stop (list-read n t stop is true (items-complete r (ap ends e) true)) (ap (sees 41) e)
      ∙ ap (λ (x : Text). Some (sequence (pushed true no_members is), after 41 x)) e
  group-complete (branch_then {n = n} {is = is} {t = t} {u = u} r rs) e =
      group-next (group_at n) t (sequence (pushed true no_members is)) (124 ∷ u) (list-read n t (124 ∷ u) is true (items-complete r refl true)) refl
      ∙ branches-complete rs e (one_branch (sequence (pushed true no_members is))) (length (124 ∷ u)) (omega arith)

pub list-complete : {n : ℕ} {is : Items} {t rest : Text} → ReadsItems n t is rest → ends rest ≡ true → (inside : Bool)
    → read_list inside (group_at n) t ≡ Some (sequence (pushed inside no_members is), rest)
list-complete {n = n} {is = is} {t = t} {rest = rest} r stop inside = list-read n t rest is inside (items-complete r stop inside)
