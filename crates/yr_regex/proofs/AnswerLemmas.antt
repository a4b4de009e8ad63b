-- The answer to a whole text, and that it has one reading.
use Rattle.std.proofs.Common.{◌≡◌, ℕ, ◌<◌, ◌≤◌, Bool, true, false, [], ◌∷◌, length, Option, Some, None, Result, Ok, Err, refl, sym, ap, subst, ◌∙◌, arith}
use Rattle.std.specs.Prelude.{not, ◌&&◌}
use Rattle.yr_pattern.specs.Tree.{tree_of}
use Rattle.yr_regex.specs.declared.fault.RegexFault.{RegexFault}
use Rattle.yr_regex.specs.declared.fault.RegexFault.TheVariants.{RegexSyntax, RegexRange, MixedGreed, NoMemory}
use Rattle.yr_regex.specs.declared.regex.Regex.{Regex}
use Rattle.yr_regex.specs.Answers.{IsRegex, HasNoReading, IsFirstBad, HasMixedGreed, Answers, Agree}
use Rattle.yr_regex.specs.Escapes.{Text}
use Rattle.yr_regex.specs.Expressions.{Branches}
use Rattle.yr_regex.specs.Faults.{HasBadBranch, has_lazy, has_eager}
use Rattle.yr_regex.specs.Grammar.{ReadsBranches, SpellsRegex}
use Rattle.yr_regex.specs.Meaning.{meaning}
use Rattle.yr_regex.specs.Parts.{part_of, Judged}
use Rattle.yr_regex.specs.Reading.{Outcome, Yields, mapped, PartRead, read_branches, group_at, expression_at, grouped_at}
use Rattle.yr_regex.proofs.BadLemmas.{IsGreatest, branches-greatest, branches-lazy, branches-eager}
use Rattle.yr_regex.proofs.Complete.{regex-complete}
use Rattle.yr_regex.proofs.MeaningLemmas.{branches-tree, branches-place}
use Rattle.yr_regex.proofs.OutcomeLemmas.{some_is, mapped-some}
use Rattle.yr_regex.proofs.SameLemmas.{regex-same}
use Rattle.yr_regex.proofs.Sound.{regex-sound}
use Rattle.yr_regex.proofs.Summary.{branches_part}

pub one-reading : (t : Text) (a b : Branches) → SpellsRegex t a → SpellsRegex t b → a ≡ b
one-reading t a b r s = ap (λ (x : Branches × Text). x.0) (some_is (a, []) (b, []) (sym (regex-complete t a r) ∙ regex-complete t b s))

empty : (u : Text) → length u ≡ 0 → u ≡ []
empty [] e = refl
empty (b ∷ u) e = absurd (omega arith)

module _ (t : Text) (nocase dot_all : Bool) where
  abbrev pub whole : Outcome PartRead
  whole = expression_at nocase dot_all (grouped_at nocase dot_all 64) t

  read-whole : (bs : Branches) → SpellsRegex t bs → whole ≡ Some (branches_part nocase dot_all bs, [])
  read-whole bs r = regex-same nocase dot_all t ∙ ap (λ (o : Outcome Branches). mapped (branches_part nocase dot_all) o) (regex-complete t bs r)

  pub fault-answer : (e : RegexFault) (new : Text) → Yields part_of whole (Err e) new → Answers t nocase dot_all (Err e)
  fault-answer RegexSyntax new h = λ bs r. let e = read-whole bs r in absurd cc
  fault-answer (RegexRange place) new h = absurd h
  fault-answer MixedGreed new h = absurd h
  fault-answer NoMemory new h = tt

  pub rest-answer : (p : PartRead) (u : Text) → whole ≡ Some (p, u) → 0 < length u → HasNoReading t
  rest-answer p u e h bs r =
      let s = ap (λ (x : PartRead × Text). length x.1) (some_is (p, u) (branches_part nocase dot_all bs, []) (sym e ∙ read-whole bs r)) in
      absurd (omega arith)

  module _ (bs : Branches) (spells : SpellsRegex t bs) where
    good_at : (o : Option ℕ) → IsGreatest (HasBadBranch bs) o → o ≡ None → (left : ℕ) → ¬ HasBadBranch bs left
    good_at None g e = g
    good_at (Some m) g e = absurd cc

    first_at : (o : Option ℕ) (left : ℕ) → IsGreatest (HasBadBranch bs) o → o ≡ Some left → HasBadBranch bs left × ((other : ℕ) → HasBadBranch bs other → other ≤ left)
    first_at None left g e = absurd cc
    first_at (Some m) left g e = subst (λ (o : Option ℕ). IsGreatest (HasBadBranch bs) o) e g

    greeds : (branches_part nocase dot_all bs).marks.lazy && (branches_part nocase dot_all bs).marks.eager ≡ has_lazy bs && has_eager bs
    greeds = ap (λ (x : Bool). x && (branches_part nocase dot_all bs).marks.eager) (branches-lazy nocase dot_all bs) ∙ ap (λ (x : Bool). has_lazy bs && x) (branches-eager nocase dot_all bs)

    judged : (r : Result Regex RegexFault) → Judged (branches_part nocase dot_all bs) (length t) r → Answers t nocase dot_all r
    judged (Ok regex) h =
        let good = good_at (branches_part nocase dot_all bs).marks.bad (branches-greatest nocase dot_all bs) h.0 in
        record {
          branches = bs;
          spells = spells;
          good = good;
          one_greed = sym greeds ∙ h.1;
          means = h.2 ∙ branches-tree nocase dot_all bs good;
          greed = h.3 ∙ ap not (branches-lazy nocase dot_all bs);
        }
    judged (Err RegexSyntax) h = absurd h
    judged (Err (RegexRange place)) h =
        let f = first_at (branches_part nocase dot_all bs).marks.bad h.0 (branches-greatest nocase dot_all bs) h.1 in
        let p = branches-place spells f.0 in
        let e = h.2 in
        record {
          branches = bs;
          left = h.0;
          spells = spells;
          bad = f.0;
          first = f.1;
          at = omega arith;
        }
    judged (Err MixedGreed) h =
        record {
          branches = bs;
          spells = spells;
          good = good_at (branches_part nocase dot_all bs).marks.bad (branches-greatest nocase dot_all bs) h.0;
          mixed = sym greeds ∙ h.1;
        }
    judged (Err NoMemory) h = absurd h

  pub judged-answer : (p : PartRead) (u : Text) (r : Result Regex RegexFault) → whole ≡ Some (p, u) → length u ≡ 0 → Judged p (length t) r → Answers t nocase dot_all r
  judged-answer p u r e h j =
      let m = mapped-some (branches_part nocase dot_all) (read_branches (group_at 64) t) (p, u) (sym (regex-same nocase dot_all t) ∙ e) in
      judged m.0 (subst (λ (w : Text). ReadsBranches 64 t m.0 w) (empty u h) (regex-sound t (m.0, u) m.1)) r
      (subst (λ (q : PartRead). Judged q (length t) r) (sym m.2) j)

-- ---- one answer

same_bad : (a b : Branches) (left : ℕ) → a ≡ b → HasBadBranch a left → HasBadBranch b left
same_bad a b left e h = subst (λ (x : Branches). HasBadBranch x left) e h

module _ (t : Text) (nocase dot_all : Bool) where
  two_greeds : (a b : Branches) → a ≡ b → (has_lazy a && has_eager a) ≡ false → (has_lazy b && has_eager b) ≡ true → ⊥
  two_greeds a b e f g = let h = ap (λ (x : Branches). has_lazy x && has_eager x) e in absurd cc

  same-regex : (a b : Regex) → IsRegex t nocase dot_all (tree_of a.pattern) a.greedy → IsRegex t nocase dot_all (tree_of b.pattern) b.greedy → Agree (Ok a) (Ok b)
  same-regex a b x y =
      let e = one-reading t x.branches y.branches x.spells y.spells in
      (x.means ∙ ap (meaning nocase dot_all) e ∙ sym y.means, x.greed ∙ ap (λ (z : Branches). not (has_lazy z)) e ∙ sym y.greed)

  no-bad : (a : Regex) (p : ℕ) → IsRegex t nocase dot_all (tree_of a.pattern) a.greedy → IsFirstBad t p → ⊥
  no-bad a p x y = x.good y.left (same_bad y.branches x.branches y.left (one-reading t y.branches x.branches y.spells x.spells) y.bad)

  no-mixed : (a : Regex) → IsRegex t nocase dot_all (tree_of a.pattern) a.greedy → HasMixedGreed t → ⊥
  no-mixed a x y = two_greeds x.branches y.branches (one-reading t x.branches y.branches x.spells y.spells) x.one_greed y.mixed

  one-place : (p q : ℕ) → IsFirstBad t p → IsFirstBad t q → p ≡ q
  one-place p q x y =
      let e = one-reading t x.branches y.branches x.spells y.spells in
      let a = y.first x.left (same_bad x.branches y.branches x.left e x.bad) in
      let b = x.first y.left (same_bad y.branches x.branches y.left (sym e) y.bad) in
      let c = x.at in
      let d = y.at in
      omega arith

  bad-mixed : (p : ℕ) → IsFirstBad t p → HasMixedGreed t → ⊥
  bad-mixed p x y = y.good x.left (same_bad x.branches y.branches x.left (one-reading t x.branches y.branches x.spells y.spells) x.bad)

  pub one-answer : (r s : Result Regex RegexFault) → Answers t nocase dot_all r → Answers t nocase dot_all s → Agree r s
  one-answer (Ok a) (Ok b) x y = same-regex a b x y
  one-answer (Ok a) (Err RegexSyntax) x y = y x.branches x.spells
  one-answer (Ok a) (Err (RegexRange q)) x y = no-bad a q x y
  one-answer (Ok a) (Err MixedGreed) x y = no-mixed a x y
  one-answer (Ok a) (Err NoMemory) x y = tt
  one-answer (Err RegexSyntax) (Ok b) x y = x y.branches y.spells
  one-answer (Err RegexSyntax) (Err RegexSyntax) x y = tt
  one-answer (Err RegexSyntax) (Err (RegexRange q)) x y = x y.branches y.spells
  one-answer (Err RegexSyntax) (Err MixedGreed) x y = x y.branches y.spells
  one-answer (Err RegexSyntax) (Err NoMemory) x y = tt
  one-answer (Err (RegexRange p)) (Ok b) x y = no-bad b p y x
  one-answer (Err (RegexRange p)) (Err RegexSyntax) x y = y x.branches x.spells
  one-answer (Err (RegexRange p)) (Err (RegexRange q)) x y = one-place p q x y
  one-answer (Err (RegexRange p)) (Err MixedGreed) x y = bad-mixed p x y
  one-answer (Err (RegexRange p)) (Err NoMemory) x y = tt
  one-answer (Err MixedGreed) (Ok b) x y = no-mixed b y x
  one-answer (Err MixedGreed) (Err RegexSyntax) x y = y x.branches x.spells
  one-answer (Err MixedGreed) (Err (RegexRange q)) x y = bad-mixed q y x
  one-answer (Err MixedGreed) (Err MixedGreed) x y = tt
  one-answer (Err MixedGreed) (Err NoMemory) x y = tt
  one-answer (Err NoMemory) s x y = tt
