-- Classes: what is read is what the grammar has.
use Rattle.std.proofs.Common.{◌≡◌, ℕ, zero, suc, ◌<◌, ◌≤◌, ⊎_elim, Bool, true, false, List, [], ◌∷◌, length, Some, None, if◌then◌else◌, refl, sym, ap, subst, ◌∙◌, arith}
use Rattle.std.specs.Prelude.{◌==◌, ◌&&◌, not}
use Rattle.std.proofs.lemmas.Bool.{eqb-true, eqb-false, ne_eqb, and_parts}
use Rattle.yr_regex.specs.Escapes.{Text, letter, number}
use Rattle.yr_regex.specs.Expressions.{Member, Single, Kind, Range, Element, Class}
use Rattle.yr_regex.specs.Classes.{ReadsSingle, plain, bracket, escape, goes_on, ReadsMember, set, range, single, ReadsMembers, last_member, member_then, begins_caret, ReadsClass, members, complement}
use Rattle.yr_regex.specs.Reading.{Outcome, and_then, or_else, mapped, sees, after, tail, read_escaped, read_set, read_single, read_range, read_bytes, read_member, members_from, read_class}
use Rattle.yr_regex.proofs.Basics.{bool_cases}
use Rattle.yr_regex.proofs.StepLemmas.{if_true, if_false, then-some}
use Rattle.yr_regex.proofs.OutcomeLemmas.{bind-some, mapped-some, or-some, chosen, unless, moved, after-true, after-false}
use Rattle.yr_regex.proofs.ByteLemmas.{escape-read, escape-found, escape-no_set, set-read, set-found, Escape-shorter}

-- ---- a class is read

both_no : (b c : Bool) → b ≡ false → (b && c) ≡ false
both_no b c e = ap (λ (x : Bool). x && c) e

at_escape : (first : Bool) (u : Text) → read_single first (92 ∷ u) ≡ read_escaped u
unfolding read_single
at_escape first u = refl

single-read : {first : Bool} {b : ℕ} {t rest : Text} → ReadsSingle first t b rest → read_single first t ≡ Some (b, rest)
unfolding read_single
single-read (plain {first = first} {b = b} n m) = if_false (b == 92) _ _ (ne_eqb b 92 n) ∙ if_false (b == 93 && not first) _ _ (both_no (b == 93) (not first) (ne_eqb b 93 m))
single-read bracket = refl
single-read (escape {first = first} r) = let e = escape-read r in ap (λ (u : Text). read_single first u) e.1 ∙ at_escape first e.0 ∙ e.2

single-no_set : {first : Bool} {b : ℕ} {t rest : Text} → ReadsSingle first t b rest → read_set t ≡ None
unfolding read_set sees
single-no_set (plain {b = b} n m) = if_false (b == 92) _ _ (ne_eqb b 92 n)
single-no_set bracket = refl
single-no_set (escape r) = escape-no_set r

single-goes : {b : ℕ} {t rest : Text} → ReadsSingle false t b rest → goes_on (45 ∷ t) ≡ true
single-goes (plain {b = b} n m) = ap not (ne_eqb b 93 m)
single-goes (escape (letter e)) = refl
single-goes (escape (number e f)) = refl

single-open : {b : ℕ} {t rest : Text} → ReadsSingle false t b rest → sees 93 t ≡ false
unfolding sees
single-open (plain {b = b} n m) = ne_eqb b 93 m
single-open (escape (letter e)) = refl
single-open (escape (number e f)) = refl

bytes-read : {first : Bool} {b : ℕ} {t rest : Text} → ReadsSingle first t b rest → read_member first t ≡ read_range (length t) b rest
unfolding read_member read_bytes
bytes-read {first = first} {b = b} {t = t} {rest = rest} r =
    ap (λ (o : Outcome (ℕ → Bool)). or_else (mapped Kind o) (read_bytes first t)) (single-no_set r)
    ∙ then-some (read_single first t) (λ c u. read_range (length t) c u) (b, rest) (single-read r)

member-read : {first : Bool} {m : Member} {t rest : Text} → ReadsMember first t m rest → read_member first t ≡ Some (m, rest)
unfolding read_member read_range
member-read (set {first = first} {c = c} {bytes = bytes} {rest = rest} e) =
    ap (λ (o : Outcome (ℕ → Bool)). or_else (mapped Kind o) (read_bytes first (92 ∷ c ∷ rest))) (set-read c bytes rest e)
member-read (range {first = first} {a = a} {b = b} {t = t} {u = u} {rest = rest} r s) =
    bytes-read r ∙ if_true (goes_on (45 ∷ u)) _ _ (single-goes s) ∙ then-some (read_single false u) (λ to v. Some (Range (length t) a to, v)) (b, rest) (single-read s)
member-read (single {rest = rest} r idle) = bytes-read r ∙ if_false (goes_on rest) _ _ idle

pub Single-shorter : {first : Bool} {b : ℕ} {t rest : Text} → ReadsSingle first t b rest → length rest < length t
Single-shorter (plain n m) = omega arith
Single-shorter bracket = omega arith
Single-shorter (escape r) = Escape-shorter r

pub Member-shorter : {first : Bool} {m : Member} {t rest : Text} → ReadsMember first t m rest → length rest < length t
Member-shorter (set e) = omega arith
Member-shorter (range r s) = let a = Single-shorter r in let b = Single-shorter s in omega arith
Member-shorter (single r idle) = Single-shorter r

pub Members-shorter : {first : Bool} {ms : List Member} {t rest : Text} → ReadsMembers first t ms rest → length rest < length t
Members-shorter (last_member r) = let a = Member-shorter r in omega arith
Members-shorter (member_then r rs) = let a = Member-shorter r in let b = Members-shorter rs in omega arith

member-open : {m : Member} {t rest : Text} → ReadsMember false t m rest → sees 93 t ≡ false
unfolding sees
member-open (set e) = refl
member-open (range r s) = single-open r
member-open (single r idle) = single-open r

members-open : {ms : List Member} {t rest : Text} → ReadsMembers false t ms rest → sees 93 t ≡ false
members-open (last_member r) = member-open r
members-open (member_then r rs) = member-open r

module _ (n : ℕ) (first : Bool) where
  abbrev after_member : Member → Text → Outcome (List Member)
  after_member m u = if sees 93 u then Some (m ∷ [], after 93 u) else mapped (λ ms. m ∷ ms) (members_from n false u)

  last-step : (t : Text) (m : Member) (rest : Text) → read_member first t ≡ Some (m, 93 ∷ rest) → members_from (suc n) first t ≡ Some (m ∷ [], rest)
  unfolding members_from sees after
  last-step t m rest e = then-some (read_member first t) after_member (m, 93 ∷ rest) e

  next-step : (t : Text) (m : Member) (u : Text) → read_member first t ≡ Some (m, u) → sees 93 u ≡ false
      → members_from (suc n) first t ≡ mapped (λ ms. m ∷ ms) (members_from n false u)
  unfolding members_from
  next-step t m u e h = then-some (read_member first t) after_member (m, u) e ∙ if_false (sees 93 u) _ _ h

members-read : {first : Bool} {ms : List Member} {t rest : Text} → ReadsMembers first t ms rest → (n : ℕ) → length t ≤ n → members_from n first t ≡ Some (ms, rest)
members-read (last_member r) zero b = let s = Member-shorter r in absurd (omega arith)
members-read (last_member {first = first} {m = m} {t = t} {rest = rest} r) (suc n) b = last-step n first t m rest (member-read r)
members-read (member_then r rs) zero b = let s = Member-shorter r in absurd (omega arith)
members-read (member_then {first = first} {m = m} {t = t} {u = u} r rs) (suc n) b =
    let s = Member-shorter r in
    next-step n first t m u (member-read r) (members-open rs) ∙ ap (λ (o : Outcome (List Member)). mapped (λ ms. m ∷ ms) o) (members-read rs n (omega arith))

caret : (t : Text) → begins_caret t ≡ false → sees 94 t ≡ false
unfolding sees
caret [] h = refl
caret (b ∷ t) h = h

complement-read : {ms : List Member} {t rest : Text} → ReadsMembers true t ms rest → read_class (94 ∷ t) ≡ Some (Class true ms, rest)
unfolding read_class sees after
complement-read {t = t} r = ap (λ (o : Outcome (List Member)). mapped (Class true) o) (members-read r (length t) (omega arith))

-- what stands behind the `[` of a class
pub class-read : {negated : Bool} {ms : List Member} {t rest : Text} → ReadsClass t negated ms rest
    → (u : Text) × (t ≡ 91 ∷ u) × (read_class u ≡ Some (Class negated ms, rest))
unfolding read_class
class-read (members {ms = ms} {t = t} {rest = rest} h r) = (
  t,
  refl,
  ap (λ (b : Bool). mapped (Class b) (members_from (length (after 94 t)) true (after 94 t))) (caret t h)
      ∙ ap (λ (u : Text). mapped (Class false) (members_from (length u) true u)) (after-false 94 t (caret t h))
      ∙ ap (λ (o : Outcome (List Member)). mapped (Class false) o) (members-read r (length t) (omega arith)),
)
class-read (complement {t = t} r) = (94 ∷ t, refl, complement-read r)

pub Class-shorter : {negated : Bool} {ms : List Member} {t rest : Text} → ReadsClass t negated ms rest → length rest < length t
Class-shorter (members h r) = let s = Members-shorter r in omega arith
Class-shorter (complement r) = let s = Members-shorter r in omega arith

-- ---- what is read is a class

first_bracket : (first : Bool) (t : Text) → not first ≡ false → ReadsSingle first (93 ∷ t) 93 t
first_bracket true t h = bracket
first_bracket false t h = absurd cc

no_escape : (first : Bool) (b : ℕ) (t : Text) → (b == 92) ≡ false → (b == 93 && not first) ≡ false → ReadsSingle first (b ∷ t) b t
no_escape first b t h k = bool_cases (ReadsSingle first (b ∷ t) b t) (b == 93)
    (λ e. subst (λ (x : ℕ). ReadsSingle first (x ∷ t) x t) (sym (eqb-true b 93 e)) (first_bracket first t (ap (λ (x : Bool). x && not first) (sym e) ∙ k)))
    (λ e. plain (eqb-false b 92 h) (eqb-false b 93 e))

single-found : (first : Bool) (t : Text) (x : ℕ × Text) → read_single first t ≡ Some x → ReadsSingle first t x.0 x.1
unfolding read_single
single-found first [] x e = absurd cc
single-found first (b ∷ t) x e = ⊎_elim
    (λ c. subst (λ (y : ℕ). ReadsSingle first (y ∷ t) x.0 x.1) (sym (eqb-true b 92 c.0)) (escape (escape-found t x c.1)))
    (λ c. let u = unless (b == 93 && not first) (Some (b, t)) x c.1 in
    moved (λ (v : ℕ) (w : Text). ReadsSingle first (b ∷ t) v w) b t x u.1 (no_escape first b t c.0 u.0))
    (chosen (b == 92) (read_escaped t) (if b == 93 && not first then None else Some (b, t)) (Some x) e)

goes-on : (t : Text) → goes_on t ≡ true → t ≡ 45 ∷ tail t
goes-on [] h = absurd cc
goes-on (b ∷ []) h = absurd cc
goes-on (b ∷ c ∷ t) h = ap (λ (y : ℕ). y ∷ c ∷ t) (eqb-true b 45 (and_parts (b == 45) (not (c == 93)) h).0)

range-found : (first : Bool) (t : Text) (a : ℕ) (u : Text) → ReadsSingle first t a u → (x : Member × Text) → read_range (length t) a u ≡ Some x → ReadsMember first t x.0 x.1
unfolding read_range
range-found first t a u r x e = ⊎_elim
    (λ c. let b = bind-some (read_single false (tail u)) (λ to v. Some (Range (length t) a to, v)) x c.1 in
    moved (λ (m : Member) (w : Text). ReadsMember first t m w) (Range (length t) a b.0.0) b.0.1 x b.2
    (range (subst (λ (w : Text). ReadsSingle first t a w) (goes-on u c.0) r) (single-found false (tail u) b.0 b.1)))
    (λ c. moved (λ (m : Member) (w : Text). ReadsMember first t m w) (Single a) u x c.1 (single r c.0))
    (chosen (goes_on u) (and_then (read_single false (tail u)) (λ to v. Some (Range (length t) a to, v))) (Some (Single a, u)) (Some x) e)

member-found : (first : Bool) (t : Text) (x : Member × Text) → read_member first t ≡ Some x → ReadsMember first t x.0 x.1
unfolding read_member read_bytes
member-found first t x e = ⊎_elim
    (λ c. let m = mapped-some Kind (read_set t) x c in
    let s = set-found t (m.0, x.1) m.1 in
    subst (λ (y : Member). ReadsMember first t y x.1) m.2 (subst (λ (w : Text). ReadsMember first w (Kind m.0) x.1) (sym s.1) (set s.2)))
    (λ c. let b = bind-some (read_single first t) (λ a u. read_range (length t) a u) x c.1 in range-found first t b.0.0 b.0.1 (single-found first t b.0 b.1) x b.2)
    (or-some (mapped Kind (read_set t)) (read_bytes first t) x e)

members-found : (n : ℕ) (first : Bool) (t : Text) (x : List Member × Text) → members_from n first t ≡ Some x → ReadsMembers first t x.0 x.1
unfolding members_from
members-found zero first t x e = absurd cc
members-found (suc n) first t x e =
    let a = bind-some (read_member first t) (after_member n first) x e in
    let m : Member = a.0.0 in
    let u : Text = a.0.1 in
    let r = member-found first t a.0 a.1 in
    ⊎_elim
    (λ c. moved (λ (ms : List Member) (w : Text). ReadsMembers first t ms w) (m ∷ []) (after 93 u) x c.1
    (last_member (subst (λ (w : Text). ReadsMember first t m w) (after-true 93 u c.0) r)))
    (λ c. let k = mapped-some (λ (ms : List Member). m ∷ ms) (members_from n false u) x c.1 in
    subst (λ (ms : List Member). ReadsMembers first t ms x.1) k.2 (member_then r (members-found n false u (k.0, x.1) k.1)))
    (chosen (sees 93 u) (Some (m ∷ [], after 93 u)) (mapped (λ ms. m ∷ ms) (members_from n false u)) (Some x) a.2)

no_caret : (t : Text) → sees 94 t ≡ false → begins_caret t ≡ false
unfolding sees
no_caret [] h = refl
no_caret (b ∷ t) h = h

-- a class whose `[` stands before the text
pub class-found : (t : Text) (x : Element × Text) → read_class t ≡ Some x → (negated : Bool) × (ms : List Member) × ReadsClass (91 ∷ t) negated ms x.1 × (Class negated ms ≡ x.0)
unfolding read_class
class-found t x e =
    let k = mapped-some (Class (sees 94 t)) (members_from (length (after 94 t)) true (after 94 t)) x e in
    let r = members-found (length (after 94 t)) true (after 94 t) (k.0, x.1) k.1 in (
      sees 94 t,
      k.0,
      bool_cases (ReadsClass (91 ∷ t) (sees 94 t) k.0 x.1) (sees 94 t)
          (λ h. subst (λ (b : Bool). ReadsClass (91 ∷ t) b k.0 x.1) (sym h) (subst (λ (w : Text). ReadsClass (91 ∷ w) true k.0 x.1) (sym (after-true 94 t h)) (complement r)))
          (λ h. subst (λ (b : Bool). ReadsClass (91 ∷ t) b k.0 x.1) (sym h) (members (no_caret t h) (subst (λ (w : Text). ReadsMembers true w k.0 x.1) (after-false 94 t h) r))),
      k.2,
    )
