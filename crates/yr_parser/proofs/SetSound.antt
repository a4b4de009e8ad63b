-- Sets that are read are in the grammar.
use Rattle.std.proofs.Common.{◌≡◌, ℕ, Bool, true, false, List, [], ◌∷◌, length, Option, Some, None, if◌then◌else◌, refl, sym, subst, ap}
use Rattle.yr_syntax.specs.declared.operator.Infix.TheVariants as op
use Rattle.yr_syntax.specs.Condition.{SetTree, ItemTree}
use Rattle.yr_syntax.specs.Condition as tree
use Rattle.yr_parser.specs.declared.sign.Sign.TheVariants as sign
use Rattle.yr_parser.specs.Terminals.{Terminals, Word, StringName, StringWild, Operator, Sign}
use Rattle.yr_parser.specs.Conditions.{named, named_by_front, StringItems, one_string, one_wild, string_then, wild_then, RuleItems, one_rule, one_front, rule_then, front_then, Sets, them, strings, rules}
use Rattle.yr_parser.specs.Input.{Outcome, Parser, ◌>>=◌, ◌<$>◌, pure, tail, eat, expect, many}
use Rattle.yr_parser.specs.Reading.{no_more, read_string_item, string_item_at, next_string_item, read_string_items, read_word, rule_item_from, sees_operator, read_rule_item, next_rule_item, read_rule_items, read_strings, read_rules, read_members, read_set}
use Rattle.yr_parser.proofs.Outcomes.{bind-some, some_is, done, expect-then, eat-then, expect-end, sees_operator-true, Chain, nothing, onward, many-chain}

some_is' : {A : Type 0} (x a : A) → Some x ≡ Some a → x ≡ a
some_is' x a e = cc

pub some_some : {A : Type 0} (x a : A) (r mid : Terminals) → ◌≡◌ {A = Outcome (Option A)} (Some (Some x, r)) (Some (Some a, mid)) → (x ≡ a) × (r ≡ mid)
some_some x a r mid e = let s = some_is (Some x, r) (Some a, mid) e in (some_is' x a (ap (λ y. y.0) s), ap (λ y. y.1) s)

pub no_some : {A : Type 0} (a : A) (r mid : Terminals) (Q : Type 0) → ◌≡◌ {A = Outcome (Option A)} (Some (None, r)) (Some (Some a, mid)) → Q
no_some a r mid Q e = let s = some_is (None, r) (Some a, mid) e in let n : None ≡ Some a = ap (λ y. y.0) s in absurd cc

pub no_none : {A : Type 0} (a : A) (r mid : Terminals) (Q : Type 0) → ◌≡◌ {A = Outcome (Option A)} (Some (Some a, r)) (Some (None, mid)) → Q
no_none a r mid Q e = let s = some_is (Some a, r) (None, mid) e in let n : Some a ≡ None = ap (λ y. y.0) s in absurd cc

pub none_rest : {A : Type 0} (r mid : Terminals) → ◌≡◌ {A = Outcome (Option A)} (Some (None, r)) (Some (None, mid)) → r ≡ mid
none_rest {A = A} r mid e = let s = some_is {A = Option A} (None, r) (None, mid) e in ap (λ y. y.1) s

-- a comma, and then one
pub data Comma {A : Type 0} (one : Terminals → A → Terminals → Type 0) : Terminals → A → Terminals → Type 0 where
  comma : {k mid : Terminals} {a : A} → one k a mid → Comma one (Sign sign.Comma ∷ k) a mid

-- one more after a comma
abbrev pub after_comma : {A : Type 0} → Parser A → Parser (Option A)
after_comma item = eat sign.Comma >>= λ more. if more then Some <$> item else no_more

module _ {A : Type 0} (item : Parser A) (one : Terminals → A → Terminals → Type 0) (sound : (k : Terminals) (x : A × Terminals) → item k ≡ Some x → one k x.0 x.1) where
  pub comma-reads : (k mid : Terminals) (a : A) → after_comma item k ≡ Some (Some a, mid) → Comma one k a mid
  comma-reads k mid a e =
      eat-then sign.Comma (Some <$> item) no_more (Some a, mid) (λ t. Comma one t a mid)
      (λ rest h.
      let b = bind-some (item rest) (λ y. pure (Some y)) (Some a, mid) h in
      let s = some_some b.0.0 a b.0.1 mid b.2 in
      subst (λ (y : A). Comma one (Sign sign.Comma ∷ rest) y mid) s.0
      (subst (λ (t : Terminals). Comma one (Sign sign.Comma ∷ rest) b.0.0 t) s.1 (comma (sound rest b.0 b.1))))
      (λ rest h. no_some a rest mid (Comma one rest a mid) h) k e

  pub comma-stops : (k mid : Terminals) → after_comma item k ≡ Some (None, mid) → k ≡ mid
  comma-stops k mid e =
      eat-then sign.Comma (Some <$> item) no_more (None, mid) (λ t. t ≡ mid)
      (λ rest h.
      let b = bind-some (item rest) (λ y. pure (Some y)) (None, mid) h in no_none b.0.0 b.0.1 mid _ b.2)
      (λ rest h. none_rest rest mid h) k e

-- ---- string items

data StringItem : Terminals → ItemTree → Terminals → Type 0 where
  by_name : {w : List ℕ} {rest : Terminals} → StringItem (StringName w ∷ rest) (named w) rest
  by_front : {w : List ℕ} {rest : Terminals} → StringItem (StringWild w ∷ rest) (named_by_front w) rest

string_item-sound : (k : Terminals) (x : ItemTree × Terminals) → read_string_item k ≡ Some x → StringItem k x.0 x.1
unfolding read_string_item string_item_at
string_item-sound [] x e = absurd cc
string_item-sound (StringName w ∷ k) x e = done (StringItem (StringName w ∷ k)) (named w) k x e by_name
string_item-sound (StringWild w ∷ k) x e = done (StringItem (StringWild w ∷ k)) (named_by_front w) k x e by_front
string_item-sound (_ ∷ k) x e = absurd cc

join_strings : {k mid rest : Terminals} {x : ItemTree} {xs : List ItemTree} → StringItem k x mid → Chain (Comma StringItem) mid xs rest → StringItems k (x ∷ xs) rest
join_strings by_name nothing = one_string
join_strings by_front nothing = one_wild
join_strings by_name (onward (comma i) c) = string_then (join_strings i c)
join_strings by_front (onward (comma i) c) = wild_then (join_strings i c)

string_items-sound : (k : Terminals) (x : List ItemTree × Terminals) → read_string_items k ≡ Some x → StringItems k x.0 x.1
unfolding read_string_items next_string_item
string_items-sound k x e =
    let a = bind-some (read_string_item k) (λ i. (λ k. many next_string_item (length k) k) >>= λ is. pure (i ∷ is)) x e in
    let b = bind-some (many next_string_item (length a.0.1) a.0.1) (λ is. pure (a.0.0 ∷ is)) x a.2 in
    let c = many-chain next_string_item (Comma StringItem) (comma-reads read_string_item StringItem string_item-sound)
    (comma-stops read_string_item StringItem string_item-sound) (length a.0.1) a.0.1 b.0 b.1 in
    done (StringItems k) (a.0.0 ∷ b.0.0) b.0.1 x b.2 (join_strings (string_item-sound k a.0 a.1) c)

-- ---- rule items

data RuleItem : Terminals → ItemTree → Terminals → Type 0 where
  by_word : {w : List ℕ} {rest : Terminals} → RuleItem (Word w ∷ rest) (named w) rest
  by_star : {w : List ℕ} {rest : Terminals} → RuleItem (Word w ∷ Operator op.Multiply ∷ rest) (named_by_front w) rest

star-sound : (w : List ℕ) (k : Terminals) (x : ItemTree × Terminals) (b : Bool) → sees_operator op.Multiply k ≡ b → rule_item_from w b k ≡ Some x → RuleItem (Word w ∷ k) x.0 x.1
star-sound w k x false is e = done (RuleItem (Word w ∷ k)) (named w) k x e by_word
star-sound w k x true is e =
    done (RuleItem (Word w ∷ k)) (named_by_front w) (tail k) x e
    (subst (λ (t : Terminals). RuleItem (Word w ∷ t) (named_by_front w) (tail k)) (sym (sees_operator-true op.Multiply k is)) by_star)

rule_item-sound : (k : Terminals) (x : ItemTree × Terminals) → read_rule_item k ≡ Some x → RuleItem k x.0 x.1
unfolding read_rule_item read_word
rule_item-sound [] x e = absurd cc
rule_item-sound (Word w ∷ k) x e = star-sound w k x (sees_operator op.Multiply k) refl e
rule_item-sound (_ ∷ k) x e = absurd cc

join_rules : {k mid rest : Terminals} {x : ItemTree} {xs : List ItemTree} → RuleItem k x mid → Chain (Comma RuleItem) mid xs rest → RuleItems k (x ∷ xs) rest
join_rules by_word nothing = one_rule
join_rules by_star nothing = one_front
join_rules by_word (onward (comma i) c) = rule_then (join_rules i c)
join_rules by_star (onward (comma i) c) = front_then (join_rules i c)

rule_items-sound : (k : Terminals) (x : List ItemTree × Terminals) → read_rule_items k ≡ Some x → RuleItems k x.0 x.1
unfolding read_rule_items next_rule_item
rule_items-sound k x e =
    let a = bind-some (read_rule_item k) (λ i. (λ k. many next_rule_item (length k) k) >>= λ is. pure (i ∷ is)) x e in
    let b = bind-some (many next_rule_item (length a.0.1) a.0.1) (λ is. pure (a.0.0 ∷ is)) x a.2 in
    let c = many-chain next_rule_item (Comma RuleItem) (comma-reads read_rule_item RuleItem rule_item-sound)
    (comma-stops read_rule_item RuleItem rule_item-sound) (length a.0.1) a.0.1 b.0 b.1 in
    done (RuleItems k) (a.0.0 ∷ b.0.0) b.0.1 x b.2 (join_rules (rule_item-sound k a.0 a.1) c)

-- ---- sets

strings-sound : (k : Terminals) (x : SetTree × Terminals) → read_strings k ≡ Some x → Sets (Sign sign.Open ∷ k) x.0 x.1
unfolding read_strings
strings-sound k x e =
    let a = bind-some (read_string_items k) (λ is. expect sign.Close >>= λ _. pure (tree.Strings is)) x e in
    let b = expect-end sign.Close (tree.Strings a.0.0) x a.0.1 a.2 in
    subst (λ (s : SetTree). Sets (Sign sign.Open ∷ k) s x.1) b.1
    (strings (subst (λ (t : Terminals). StringItems k a.0.0 t) b.0 (string_items-sound k a.0 a.1)))

rules-sound : (k : Terminals) (x : SetTree × Terminals) → read_rules k ≡ Some x → Sets (Sign sign.Open ∷ k) x.0 x.1
unfolding read_rules
rules-sound k x e =
    let a = bind-some (read_rule_items k) (λ is. expect sign.Close >>= λ _. pure (tree.Rules is)) x e in
    let b = expect-end sign.Close (tree.Rules a.0.0) x a.0.1 a.2 in
    subst (λ (s : SetTree). Sets (Sign sign.Open ∷ k) s x.1) b.1
    (rules (subst (λ (t : Terminals). RuleItems k a.0.0 t) b.0 (rule_items-sound k a.0 a.1)))

members-sound : (k : Terminals) (x : SetTree × Terminals) → read_members k ≡ Some x → Sets (Sign sign.Open ∷ k) x.0 x.1
unfolding read_members string_item_at
members-sound [] x e = rules-sound [] x e
members-sound (StringName w ∷ k) x e = strings-sound (StringName w ∷ k) x e
members-sound (StringWild w ∷ k) x e = strings-sound (StringWild w ∷ k) x e
members-sound (t ∷ k) x e = rules-sound (t ∷ k) x e

pub set-sound : (k : Terminals) (x : SetTree × Terminals) → read_set k ≡ Some x → Sets k x.0 x.1
unfolding read_set
set-sound k x e =
    eat-then sign.Them (pure tree.Them) (expect sign.Open >>= λ _. read_members) x (λ t. Sets t x.0 x.1)
    (λ rest h. done (Sets (Sign sign.Them ∷ rest)) tree.Them rest x h them)
    (expect-then sign.Open read_members x (λ t. Sets t x.0 x.1) (λ rest h. members-sound rest x h)) k e
