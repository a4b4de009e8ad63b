-- Sets of the grammar are read.
use Rattle.std.proofs.Common.{◌≡◌, ℕ, zero, suc, ◌≤◌, false, List, [], ◌∷◌, length, Some, None, refl, ap, ◌∙◌, arith}
use Rattle.yr_syntax.specs.declared.operator.Infix.TheVariants as op
use Rattle.yr_syntax.specs.Condition.{SetTree, ItemTree}
use Rattle.yr_syntax.specs.Condition as tree
use Rattle.yr_parser.specs.declared.sign.Sign.TheVariants as sign
use Rattle.yr_parser.specs.Terminals.{Terminals, Word, StringName, StringWild, Operator, Sign}
use Rattle.yr_parser.specs.Conditions.{named, named_by_front, StringItems, one_string, one_wild, string_then, wild_then, RuleItems, one_rule, one_front, rule_then, front_then, Sets, them, strings, rules}
use Rattle.yr_parser.specs.Input.{Parser, ◌>>=◌, ◌<$>◌, pure, sees, same_sign, expect, many}
use Rattle.yr_parser.specs.Reading.{no_more, read_string_item, string_item_at, next_string_item, read_string_items, read_word, rule_item_from, sees_operator, same_operator, read_rule_item, next_rule_item, read_rule_items, read_strings, read_rules, read_members, members_by, read_set}
use Rattle.yr_parser.proofs.Outcomes.{bind, many-stop, many-more, eat-yes, eat-no, expect-on}
use Rattle.yr_parser.proofs.SetSound.{after_comma}

-- one item, a comma and the items after it
pub comma-more : {A : Type 0} (item : Parser A) (k mid rest : Terminals) (x : A) (xs : List A) → item k ≡ Some (x, mid) → length mid ≤ length k
    → ((n : ℕ) → length mid ≤ n → many (after_comma item) n mid ≡ Some (xs, rest))
    → (n : ℕ) → length (Sign sign.Comma ∷ k) ≤ n → many (after_comma item) n (Sign sign.Comma ∷ k) ≡ Some (x ∷ xs, rest)
comma-more item k mid rest x xs e short f zero h = absurd (omega arith)
comma-more item k mid rest x xs e short f (suc n) h =
    many-more (after_comma item) n (Sign sign.Comma ∷ k) mid rest x xs
    (eat-yes sign.Comma (Some <$> item) no_more k ∙ bind (λ y. pure (Some y)) e) (f n (omega arith))

pub comma-done : {A : Type 0} (item : Parser A) (k : Terminals) → sees sign.Comma k ≡ false → (n : ℕ) → many (after_comma item) n k ≡ Some ([], k)
comma-done item k e n = many-stop (after_comma item) n k (eat-no sign.Comma (Some <$> item) no_more k e)

-- the first item, and the items after it
pub record Split {A : Type 0} (item : Parser A) (k : Terminals) (xs : List A) (rest : Terminals) : Type 0 where
  pub x : A
  pub others : List A
  pub mid : Terminals
  pub all : x ∷ others ≡ xs
  pub read : item k ≡ Some (x, mid)
  pub short : length mid ≤ length k
  pub more : (n : ℕ) → length mid ≤ n → many (after_comma item) n mid ≡ Some (others, rest)

abbrev pub split-more : {A : Type 0} (item : Parser A) (k k' rest : Terminals) (x : A) (xs : List A) → item k' ≡ Some (x, Sign sign.Comma ∷ k) → length (Sign sign.Comma ∷ k) ≤ length k'
    → Split item k xs rest → Split item k' (x ∷ xs) rest
split-more item k k' rest x xs e short s = record {
  x = x;
  others = s.x ∷ s.others;
  mid = Sign sign.Comma ∷ k;
  all = ap (λ ys. x ∷ ys) s.all;
  read = e;
  short = short;
  more = comma-more item k s.mid rest s.x s.others s.read s.short s.more;
}

abbrev pub split-one : {A : Type 0} (item : Parser A) (k rest : Terminals) (x : A) → item k ≡ Some (x, rest) → length rest ≤ length k → sees sign.Comma rest ≡ false → Split item k (x ∷ []) rest
split-one item k rest x e short ends = record {
  x = x;
  others = [];
  mid = rest;
  all = refl;
  read = e;
  short = short;
  more = λ n h. comma-done item rest ends n;
}

-- ---- string items

strings-split : {k rest : Terminals} {xs : List ItemTree} → StringItems k xs rest → sees sign.Comma rest ≡ false → Split read_string_item k xs rest
unfolding read_string_item string_item_at
strings-split {rest = rest} (one_string {w = w}) ends = split-one read_string_item (StringName w ∷ rest) rest (named w) refl (omega arith) ends
strings-split {rest = rest} (one_wild {w = w}) ends = split-one read_string_item (StringWild w ∷ rest) rest (named_by_front w) refl (omega arith) ends
strings-split {rest = rest} (string_then {w = w} {k = k} {xs = xs} i) ends =
    split-more read_string_item k (StringName w ∷ Sign sign.Comma ∷ k) rest (named w) xs refl (omega arith) (strings-split i ends)
strings-split {rest = rest} (wild_then {w = w} {k = k} {xs = xs} i) ends =
    split-more read_string_item k (StringWild w ∷ Sign sign.Comma ∷ k) rest (named_by_front w) xs refl (omega arith) (strings-split i ends)

string_items-complete : {k rest : Terminals} {xs : List ItemTree} → StringItems k xs rest → sees sign.Comma rest ≡ false → read_string_items k ≡ Some (xs, rest)
unfolding read_string_items next_string_item
string_items-complete {rest = rest} i ends =
    let s = strings-split i ends in
    bind (λ x. (λ k. many next_string_item (length k) k) >>= λ ys. pure (x ∷ ys)) s.read
    ∙ bind (λ ys. pure (s.x ∷ ys)) (s.more (length s.mid) (omega arith)) ∙ ap (λ ys. Some (ys, rest)) s.all

string_items-begin : {k rest : Terminals} {xs : List ItemTree} → StringItems k xs rest → (x : ItemTree) × (string_item_at k ≡ Some x)
unfolding string_item_at
string_items-begin (one_string {w = w}) = (named w, refl)
string_items-begin (one_wild {w = w}) = (named_by_front w, refl)
string_items-begin (string_then {w = w} i) = (named w, refl)
string_items-begin (wild_then {w = w} i) = (named_by_front w, refl)

-- ---- rule items

rule_item-plain : (w : List ℕ) (k : Terminals) → sees_operator op.Multiply k ≡ false → read_rule_item (Word w ∷ k) ≡ Some (named w, k)
unfolding read_rule_item read_word
rule_item-plain w k e = ap (λ b. rule_item_from w b k) e

rules-split : {k rest : Terminals} {xs : List ItemTree} → RuleItems k xs rest → sees sign.Comma rest ≡ false → sees_operator op.Multiply rest ≡ false → Split read_rule_item k xs rest
unfolding read_rule_item read_word sees_operator same_operator
rules-split {rest = rest} (one_rule {w = w}) ends star = split-one read_rule_item (Word w ∷ rest) rest (named w) (rule_item-plain w rest star) (omega arith) ends
rules-split {rest = rest} (one_front {w = w}) ends star =
    split-one read_rule_item (Word w ∷ Operator op.Multiply ∷ rest) rest (named_by_front w) refl (omega arith) ends
rules-split {rest = rest} (rule_then {w = w} {k = k} {xs = xs} i) ends star =
    split-more read_rule_item k (Word w ∷ Sign sign.Comma ∷ k) rest (named w) xs refl (omega arith) (rules-split i ends star)
rules-split {rest = rest} (front_then {w = w} {k = k} {xs = xs} i) ends star =
    split-more read_rule_item k (Word w ∷ Operator op.Multiply ∷ Sign sign.Comma ∷ k) rest (named_by_front w) xs refl (omega arith) (rules-split i ends star)

rule_items-complete : {k rest : Terminals} {xs : List ItemTree} → RuleItems k xs rest → sees sign.Comma rest ≡ false → sees_operator op.Multiply rest ≡ false → read_rule_items k ≡ Some (xs, rest)
unfolding read_rule_items next_rule_item
rule_items-complete {rest = rest} i ends star =
    let s = rules-split i ends star in
    bind (λ x. (λ k. many next_rule_item (length k) k) >>= λ ys. pure (x ∷ ys)) s.read
    ∙ bind (λ ys. pure (s.x ∷ ys)) (s.more (length s.mid) (omega arith)) ∙ ap (λ ys. Some (ys, rest)) s.all

rule_items-begin : {k rest : Terminals} {xs : List ItemTree} → RuleItems k xs rest → string_item_at k ≡ None
unfolding string_item_at
rule_items-begin one_rule = refl
rule_items-begin one_front = refl
rule_items-begin (rule_then i) = refl
rule_items-begin (front_then i) = refl

-- ---- sets

close-no_comma : (rest : Terminals) → sees sign.Comma (Sign sign.Close ∷ rest) ≡ false
unfolding sees same_sign
close-no_comma rest = refl

close-no_star : (rest : Terminals) → sees_operator op.Multiply (Sign sign.Close ∷ rest) ≡ false
unfolding sees_operator
close-no_star rest = refl

open-no_them : (rest : Terminals) → sees sign.Them (Sign sign.Open ∷ rest) ≡ false
unfolding sees same_sign
open-no_them rest = refl

set-members : (k : Terminals) → read_set (Sign sign.Open ∷ k) ≡ read_members k
unfolding read_set
set-members k = eat-no sign.Them (pure tree.Them) (expect sign.Open >>= λ _. read_members) (Sign sign.Open ∷ k) (open-no_them k) ∙ expect-on sign.Open read_members k

pub set-complete : {k rest : Terminals} {s : SetTree} → Sets k s rest → read_set k ≡ Some (s, rest)
unfolding read_set read_members read_strings read_rules
set-complete {rest = rest} them = eat-yes sign.Them (pure tree.Them) (expect sign.Open >>= λ _. read_members) rest
set-complete {rest = rest} (strings {k = k} {xs = xs} i) =
    let b = string_items-begin i in
    set-members k ∙ ap (λ x. members_by x k) b.1
    ∙ bind (λ is. expect sign.Close >>= λ _. pure (tree.Strings is)) (string_items-complete i (close-no_comma rest))
    ∙ expect-on sign.Close (pure (tree.Strings xs)) rest
set-complete {rest = rest} (rules {k = k} {xs = xs} i) =
    set-members k ∙ ap (λ x. members_by x k) (rule_items-begin i)
    ∙ bind (λ is. expect sign.Close >>= λ _. pure (tree.Rules is)) (rule_items-complete i (close-no_comma rest) (close-no_star rest))
    ∙ expect-on sign.Close (pure (tree.Rules xs)) rest
