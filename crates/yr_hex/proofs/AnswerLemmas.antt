-- The answer to a text, from what is read of it.
use Rattle.std.proofs.Common.{◌≡◌, ℕ, ◌-◌, ◌<◌, ◌≤◌, true, false, [], ◌∷◌, length, Option, Some, None, Err, refl, sym, ap, subst, ◌∙◌, arith}
use Rattle.yr_pattern.specs.Tree.{Tree}
use Rattle.yr_hex.specs.declared.fault.HexFault.{HexFault}
use Rattle.yr_hex.specs.declared.fault.HexFault.TheVariants.{HexSyntax, HexJump, NoMemory}
use Rattle.yr_hex.specs.Gaps.{Text}
use Rattle.yr_hex.specs.Items.{Items}
use Rattle.yr_hex.specs.Grammar.{SpellsHex}
use Rattle.yr_hex.specs.Jumps.{HasBadJump}
use Rattle.yr_hex.specs.Meaning.{meaning}
use Rattle.yr_hex.specs.Answers.{IsPattern, HasNoReading, IsFirstBadJump}
use Rattle.yr_hex.specs.Reading.{Outcome, Yields, PartRead, sequence, pushed, no_members, read_list, group_at}
use Rattle.yr_hex.proofs.OutcomeLemmas.{some_is}
use Rattle.yr_hex.proofs.ItemComplete.{list-complete}
use Rattle.yr_hex.proofs.ItemSound.{list-sound}
use Rattle.yr_hex.proofs.BadLemmas.{IsGreatest, list-greatest}
use Rattle.yr_hex.proofs.MeaningLemmas.{list-tree}
use Rattle.yr_hex.proofs.UniqueLemmas.{items-in, items-one}

-- what is read of a text with brackets nested at most 64 deep
abbrev pub first_read : Text → Outcome PartRead
first_read t = read_list false (group_at 64) t

spelled-read : (t : Text) (is : Items) → SpellsHex t is → first_read t ≡ Some (sequence (pushed false no_members is), [])
spelled-read t is r = list-complete r refl false

pub nothing-read : (t : Text) → first_read t ≡ None → HasNoReading t
nothing-read t e is r = let f = spelled-read t is r in absurd cc

-- a refusal of the list is one of the text
pub fails-read : {A : Type 0} (t : Text) (view : A → PartRead) (e : HexFault) (new : Text) → Yields view (first_read t) (Err e) new → e ≡ HexSyntax → HasNoReading t
fails-read t view HexSyntax new h same = nothing-read t h
fails-read t view (HexJump place) new h same = absurd h
fails-read t view NoMemory new h same = absurd cc

pub more-read : (t : Text) (p : PartRead) (rest : Text) → first_read t ≡ Some (p, rest) → 0 < length rest → HasNoReading t
more-read t p [] e some is r = absurd (omega arith)
more-read t p (b ∷ rest) e some is r =
    let f = some_is (p, b ∷ rest) (sequence (pushed false no_members is), []) (sym e ∙ spelled-read t is r) in
    let g = ap (λ (x : PartRead × Text). length x.1) f in omega arith

-- the whole text is read
pub record IsWhole (t : Text) (p : PartRead) : Type 0 where
  pub items : Items
  pub spells : SpellsHex t items
  pub reads : p ≡ sequence (pushed false no_members items)

pub whole-read : (t : Text) (p : PartRead) (rest : Text) → first_read t ≡ Some (p, rest) → length rest ≤ 0 → IsWhole t p
whole-read t p [] e none = let f = list-sound 64 false t (p, []) e in record { items = f.0; spells = f.1; reads = f.2 }
whole-read t p (b ∷ rest) e none = absurd (omega arith)

greatest-of : (t : Text) (p : PartRead) (w : IsWhole t p) → IsGreatest (HasBadJump w.items) p.bad
greatest-of t p w = subst (λ (o : Option ℕ). IsGreatest (HasBadJump w.items) o) (sym (ap (λ (x : PartRead). x.bad) w.reads)) (list-greatest false w.items)

pub pattern-read : (t : Text) (p : PartRead) → IsWhole t p → p.bad ≡ None → IsPattern t p.tree
pattern-read t p w e =
    let good = subst (λ (o : Option ℕ). IsGreatest (HasBadJump w.items) o) e (greatest-of t p w) in
    record {
      items = w.items;
      spells = w.spells;
      good = good;
      means = ap (λ (x : PartRead). x.tree) w.reads ∙ list-tree false w.items good;
    }

pub left-in : (t : Text) (p : PartRead) (left : ℕ) → IsWhole t p → p.bad ≡ Some left → left ≤ length t
left-in t p left w e =
    let g = subst (λ (o : Option ℕ). IsGreatest (HasBadJump w.items) o) e (greatest-of t p w) in items-in w.spells false true left g.0

pub jump-read : (t : Text) (p : PartRead) (left place : ℕ) → IsWhole t p → p.bad ≡ Some left → length t - left ≡ place → IsFirstBadJump t place
jump-read t p left place w e at =
    let g = subst (λ (o : Option ℕ). IsGreatest (HasBadJump w.items) o) e (greatest-of t p w) in
    let within = left-in t p left w e in
    record { items = w.items; left = left; spells = w.spells; bad = g.0; first = g.1; at = omega arith }

-- ---- one answer

same-items : (t : Text) (a b : Items) → SpellsHex t a → SpellsHex t b → a ≡ b
same-items t a b f g = (items-one f g refl refl).0

pub one_pattern : (t : Text) (a b : Tree) → IsPattern t a → IsPattern t b → a ≡ b
one_pattern t a b f g = f.means ∙ ap meaning (same-items t f.items g.items f.spells g.spells) ∙ sym g.means

-- the jump of one answer is no later than that of the other
no_later : (t : Text) (p q : ℕ) (f : IsFirstBadJump t p) (g : IsFirstBadJump t q) → g.left ≤ f.left
no_later t p q f g = f.first g.left (subst (λ (x : Items). HasBadJump x g.left) (sym (same-items t f.items g.items f.spells g.spells)) g.bad)

pub one_jump : (t : Text) (p q : ℕ) → IsFirstBadJump t p → IsFirstBadJump t q → p ≡ q
one_jump t p q f g =
    let a = no_later t p q f g in let b = no_later t q p g f in let d = f.at in let e = g.at in omega arith

pub not_both_answers : (t : Text) (a : Tree) (p : ℕ) → IsPattern t a → ¬ IsFirstBadJump t p
not_both_answers t a p f g = f.good g.left (subst (λ (x : Items). HasBadJump x g.left) (sym (same-items t f.items g.items f.spells g.spells)) g.bad)
