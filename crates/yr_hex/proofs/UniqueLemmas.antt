-- A text has one reading, and a bad jump stands in the text.
use Rattle.std.proofs.Common.{◌≡◌, ℕ, ◌≤◌, inl, inr, Bool, true, false, ◌∷◌, length, Option, Some, None, refl, sym, ap, subst, ◌∙◌, arith}
use Rattle.yr_hex.specs.declared.jump.Numbers.{Numbers}
use Rattle.yr_hex.specs.Gaps.{Text, Gap}
use Rattle.yr_hex.specs.Items.{Item, Items, Branches, Byte, Jump, Group, last, more, only, or}
use Rattle.yr_hex.specs.Grammar.{half, ReadsJump, ReadsItem, byte, other, jump, group, ReadsItems, last_item, item_then, ReadsBranches, last_branch, branch_then}
use Rattle.yr_hex.specs.Jumps.{IsBad, HasBad, HasBadBranch}
use Rattle.yr_hex.specs.Reading.{numbers, capped, read_numbers, ends, past_gap}
use Rattle.yr_hex.proofs.GapLemmas.{gap-read, gap-one, gap-shorter}
use Rattle.yr_hex.proofs.JumpLemmas.{jump-read}
use Rattle.yr_hex.proofs.ByteLemmas.{half-is_no}
use Rattle.yr_hex.proofs.OutcomeLemmas.{some_is}
use Rattle.yr_hex.proofs.ItemComplete.{ReadsItem-shorter, ReadsItems-shorter, items-begin}

-- ---- a bad jump stands in the text

mutual
  item-in : {n : ℕ} {i : Item} {t rest : Text} → ReadsItem n t i rest → (inside first ending : Bool) (left : ℕ) → IsBad inside first ending i left → left ≤ length t
  item-in (byte e f) inside first ending left h = absurd h
  item-in (other e f m) inside first ending left h = absurd h
  item-in (jump r) inside first ending left h = let e = h.0 in omega arith
  item-in (group r) inside first ending left h = let s = branches-in r left h in omega arith

  pub items-in : {n : ℕ} {is : Items} {t rest : Text} → ReadsItems n t is rest → (inside first : Bool) (left : ℕ) → HasBad inside first is left → left ≤ length t
  items-in (last_item g r k) inside first left h = let a = gap-shorter g in let s = item-in r inside first true left h in omega arith
  items-in (item_then g r rs) inside first left (inl h) = let a = gap-shorter g in let s = item-in r inside first false left h in omega arith
  items-in (item_then g r rs) inside first left (inr h) =
      let a = gap-shorter g in let b = ReadsItem-shorter r in let s = items-in rs inside false left h in omega arith

  branches-in : {n : ℕ} {bs : Branches} {t rest : Text} → ReadsBranches n t bs rest → (left : ℕ) → HasBadBranch bs left → left ≤ length t
  branches-in (last_branch r) left h = items-in r true true left h
  branches-in (branch_then r rs) left (inl h) = items-in r true true left h
  branches-in (branch_then r rs) left (inr h) = let a = ReadsItems-shorter r in let s = branches-in rs left h in omega arith

-- ---- one reading

abbrev as_is : ℕ → ℕ
as_is n = n

as_is-none : (most : Option ℕ) → capped as_is most ≡ most
as_is-none None = refl
as_is-none (Some n) = refl

jump-one : {t u r s : Text} {a c : ℕ} {b d : Option ℕ} → ReadsJump t a b r → ReadsJump u c d s → t ≡ u → (a ≡ c) × (b ≡ d) × (r ≡ s)
jump-one {r = r} {s = s} {a = a} {c = c} {b = b} {d = d} x y e =
    let f = jump-read as_is (λ n m. refl) (λ n h. refl) x in
    let g = jump-read as_is (λ n m. refl) (λ n h. refl) y in
    let v : f.0 ≡ g.0 = let k = f.1 in let l = g.1 in cc in
    let p = some_is (numbers a (capped as_is b), r) (numbers c (capped as_is d), s) (sym f.2 ∙ ap (λ (w : Text). read_numbers as_is w) v ∙ g.2) in
    (ap (λ (z : Numbers × Text). z.0.least) p, sym (as_is-none b) ∙ ap (λ (z : Numbers × Text). z.0.most) p ∙ as_is-none d, ap (λ (z : Numbers × Text). z.1) p)

heads-apart : (a b : ℕ) (t u : Text) → a ∷ t ≡ b ∷ u → (a ≡ b → ⊥) → ⊥
heads-apart a b t u e f = f (cc e)

no_half : (h sign : ℕ) (high : Option ℕ) (t u : Text) → half h ≡ Some high → half sign ≡ None → h ∷ t ≡ sign ∷ u → ⊥
no_half h sign high t u e f g = half-is_no h sign high e f (cc g)

bytes-one : (h l h' l' : ℕ) (r s : Text) (a b c d : Option ℕ) (negated : Bool) → half h ≡ Some a → half l ≡ Some b → half h' ≡ Some c → half l' ≡ Some d → h ∷ l ∷ r ≡ h' ∷ l' ∷ s
    → (Byte negated a b ≡ Byte negated c d) × (r ≡ s)
bytes-one h l h' l' r s a b c d negated e f g k q =
    let i : h ≡ h' = cc q in
    let j : l ≡ l' = cc q in
    let x : a ≡ c = some_is a c (sym e ∙ ap half i ∙ g) in
    let y : b ≡ d = some_is b d (sym f ∙ ap half j ∙ k) in
    (ap (λ (z : Option ℕ). Byte negated z b) x ∙ ap (λ (z : Option ℕ). Byte negated c z) y, cc q)

mutual
  item-one : {n : ℕ} {i j : Item} {t u r s : Text} → ReadsItem n t i r → ReadsItem n u j s → t ≡ u → (i ≡ j) × (r ≡ s)
  item-one (byte {h = h} {l = l} {high = a} {low = b} {rest = r} e f) (byte {h = h'} {l = l'} {high = c} {low = d} {rest = s} g k) q =
      bytes-one h l h' l' r s a b c d false e f g k q
  item-one (byte {h = h} {high = a} e f) (other g k m) q = absurd (no_half h 126 a _ _ e refl q)
  item-one (byte {h = h} {high = a} e f) (jump y) q = absurd (no_half h 91 a _ _ e refl (q ∙ (jump-read as_is (λ n m. refl) (λ n h. refl) y).1))
  item-one (byte {h = h} {high = a} e f) (group y) q = absurd (no_half h 40 a _ _ e refl q)
  item-one (other e f m) (byte {h = h} {high = a} g k) q = absurd (no_half h 126 a _ _ g refl (sym q))
  item-one (other {h = h} {l = l} {high = a} {low = b} {rest = r} e f m) (other {h = h'} {l = l'} {high = c} {low = d} {rest = s} g k o) q =
      bytes-one h l h' l' r s a b c d true e f g k (cc q)
  item-one (other e f m) (jump y) q = absurd (heads-apart 126 91 _ _ (q ∙ (jump-read as_is (λ n m. refl) (λ n h. refl) y).1) (λ x. omega arith))
  item-one (other e f m) (group y) q = absurd (heads-apart 126 40 _ _ q (λ x. omega arith))
  item-one (jump x) (byte {h = h} {high = a} g k) q = absurd (no_half h 91 a _ _ g refl (sym q ∙ (jump-read as_is (λ n m. refl) (λ n h. refl) x).1))
  item-one (jump x) (other g k m) q = absurd (heads-apart 126 91 _ _ (sym q ∙ (jump-read as_is (λ n m. refl) (λ n h. refl) x).1) (λ x. omega arith))
  item-one (jump {least = a} {most = b} {t = t} x) (jump {least = c} {most = d} {t = u} y) q =
      let o = jump-one x y q in
      (ap (λ (z : Text). Jump (length z) a b) q ∙ ap (λ (z : ℕ). Jump (length u) z b) o.0 ∙ ap (λ (z : Option ℕ). Jump (length u) c z) o.1, o.2)
  item-one (jump x) (group y) q = absurd (heads-apart 40 91 _ _ (sym q ∙ (jump-read as_is (λ n m. refl) (λ n h. refl) x).1) (λ x. omega arith))
  item-one (group x) (byte {h = h} {high = a} g k) q = absurd (no_half h 40 a _ _ g refl (sym q))
  item-one (group x) (other g k m) q = absurd (heads-apart 40 126 _ _ q (λ x. omega arith))
  item-one (group x) (jump y) q = absurd (heads-apart 40 91 _ _ (q ∙ (jump-read as_is (λ n m. refl) (λ n h. refl) y).1) (λ x. omega arith))
  item-one (group {n = n} {branches = a} {t = t} {rest = r} x) (group {branches = b} {t = u} {rest = s} y) q =
      let o = branches-one x (subst (λ (z : Text). ReadsBranches n z b (41 ∷ s)) (cc q) y) refl refl in
      (ap Group o.0, let p = o.1 in cc)

  pub items-one : {n : ℕ} {is js : Items} {t r s : Text} → ReadsItems n t is r → ReadsItems n t js s → ends r ≡ true → ends s ≡ true → (is ≡ js) × (r ≡ s)
  items-one (last_item {i = i} {v = v} {rest = r} g x h) (last_item {v = w} {rest = s} k y l) e f =
      let o = item-one x y (gap-one g _ k) in
      (ap last o.0, gap-one h s (subst (λ (z : Text). Gap z s) (sym o.1) l))
  items-one (last_item g x h) (item_then k y ys) e f =
      let o = item-one x y (gap-one g _ k) in
      let c = sym e ∙ ap ends (sym (gap-read h) ∙ ap past_gap o.1) ∙ items-begin ys in absurd cc
  items-one (item_then g x xs) (last_item k y l) e f =
      let o = item-one x y (gap-one g _ k) in
      let c = sym f ∙ ap ends (sym (gap-read l) ∙ ap past_gap (sym o.1)) ∙ items-begin xs in absurd cc
  items-one (item_then {n = n} {i = i} {is = is} g x xs) (item_then {i = j} {is = js} {rest = s} k y ys) e f =
      let o = item-one x y (gap-one g _ k) in
      let p = items-one xs (subst (λ (z : Text). ReadsItems n z js s) (sym o.1) ys) e f in
      (ap (λ (z : Item). more z is) o.0 ∙ ap (λ (z : Items). more j z) p.0, p.1)

  branches-one : {n : ℕ} {bs cs : Branches} {t r s : Text} → ReadsBranches n t bs r → ReadsBranches n t cs s → {a b : Text} → r ≡ 41 ∷ a → s ≡ 41 ∷ b → (bs ≡ cs) × (r ≡ s)
  branches-one (last_branch x) (last_branch y) e f = let o = items-one x y (ap ends e) (ap ends f) in (ap only o.0, o.1)
  branches-one (last_branch x) (branch_then y ys) e f = let o = items-one x y (ap ends e) refl in absurd (heads-apart 41 124 _ _ (sym e ∙ o.1) (λ x. omega arith))
  branches-one (branch_then x xs) (last_branch y) e f = let o = items-one x y refl (ap ends f) in absurd (heads-apart 124 41 _ _ (o.1 ∙ f) (λ x. omega arith))
  branches-one (branch_then {n = n} {is = is} {bs = bs} x xs) (branch_then {is = js} {bs = cs} {rest = s} y ys) e f =
      let o = items-one x y refl refl in
      let p = branches-one xs (subst (λ (z : Text). ReadsBranches n z cs s) (let q = o.1 in cc) ys) e f in
      (ap (λ (z : Items). or z bs) o.0 ∙ ap (λ (z : Branches). or js z) p.0, p.1)
