-- Prefix operators, one at a time.
use Rattle.std.proofs.Common.{◌≡◌, ◌<◌, List, [], ◌∷◌, ◌++◌, length, Option, None, Some, refl, sym, ap, ◌∙◌, arith, append_assoc, append-nil}
use Rattle.yr_syntax.specs.declared.operator.PrefixOp.{PrefixOp}
use Rattle.yr_syntax.specs.Condition.{Condition, Prefix}
use Rattle.yr_parser.specs.declared.level.Entry.{Entry}
use Rattle.yr_parser.specs.Terminals.{Terminals}
use Rattle.yr_parser.specs.Input.{Outcome, Parser, and_then, pure, tail, sees, after}
use Rattle.yr_parser.specs.Reading.{operators_by, run_of, rest_by, after_run, prefixed, prefix_by, prefix_at, negates_at, read_unary, read_primary, primary_name, read_not, read_test, string_at, test_other, test_count, count_at}

pub unary_at : (p : Entry → Parser Condition) (k : Terminals) → read_unary p k ≡ prefix_by (prefix_at k) (read_unary p (tail k)) (read_primary p k)
unfolding prefix_at read_unary read_primary primary_name
unary_at p [] = refl
unary_at p (t ∷ k) = refl

pub prefix_shorter : (k : Terminals) (o : PrefixOp) → prefix_at k ≡ Some o → length (tail k) < length k
unfolding prefix_at
prefix_shorter [] o h = cc
prefix_shorter (t ∷ k) o h = omega arith

pub negates_shorter : (k : Terminals) (o : PrefixOp) → negates_at k ≡ Some o → length (tail k) < length k
unfolding negates_at
negates_shorter [] o h = cc
negates_shorter (t ∷ k) o h = omega arith

pub not_at : (p : Entry → Parser Condition) (k : Terminals) → read_not p k ≡ prefix_by (negates_at k) (read_not p (tail k)) (read_test p k)
unfolding negates_at read_not read_test string_at test_other test_count count_at read_unary sees after
not_at p [] = refl
not_at p (t ∷ k) = refl

-- ---- runs, where `at` says which operator comes next

itself : (o : Outcome Condition) → o ≡ and_then o (λ c. pure c)
itself None = refl
itself (Some p) = refl

wrapped : (o : PrefixOp) (os : List PrefixOp) (x : Outcome Condition)
    → and_then (and_then x (λ c. pure (prefixed os c))) (λ c. pure (Prefix o c)) ≡ and_then x (λ c. pure (Prefix o (prefixed os c)))
wrapped o os None = refl
wrapped o os (Some p) = refl

module _ (at : Terminals → Option PrefixOp) (nothing : at [] ≡ None) where
  pub run_of-some : (k : Terminals) (o : PrefixOp) → at k ≡ Some o → run_of at k ≡ o ∷ run_of at (tail k)
  unfolding run_of
  run_of-some [] o h = let n : None ≡ Some o = sym nothing ∙ h in cc
  run_of-some (t ∷ k) o h = ap (λ x. operators_by x (run_of at k)) h

  pub run_of-none : (k : Terminals) → at k ≡ None → run_of at k ≡ []
  unfolding run_of
  run_of-none [] h = refl
  run_of-none (t ∷ k) h = ap (λ x. operators_by x (run_of at k)) h

  pub after_run-some : (k : Terminals) (o : PrefixOp) → at k ≡ Some o → after_run at k ≡ after_run at (tail k)
  unfolding after_run
  after_run-some [] o h = refl
  after_run-some (t ∷ k) o h = ap (λ x. rest_by x (t ∷ k) (after_run at k)) h

  pub after_run-none : (k : Terminals) → at k ≡ None → after_run at k ≡ k
  unfolding after_run
  after_run-none [] h = refl
  after_run-none (t ∷ k) h = ap (λ x. rest_by x (t ∷ k) (after_run at k)) h

  -- one operator more
  pub one_more : (ops ops' all : List PrefixOp) (o : PrefixOp) (k k' : Terminals) → at k ≡ Some o → k' ≡ tail k → ops' ≡ ops ++ o ∷ [] → ops ++ run_of at k ≡ all
      → ops' ++ run_of at k' ≡ all
  one_more ops ops' all o k k' h e p q =
      ap (λ x. ops' ++ run_of at x) e ∙ ap (λ x. x ++ run_of at (tail k)) p ∙ append_assoc ops (o ∷ []) (run_of at (tail k))
      ∙ ap (λ x. ops ++ x) (sym (run_of-some k o h)) ∙ q

  pub one_less : (all k k' : Terminals) (o : PrefixOp) → at k ≡ Some o → k' ≡ tail k → after_run at k ≡ all → after_run at k' ≡ all
  one_less all k k' o h e q = ap (after_run at) e ∙ sym (after_run-some k o h) ∙ q

  -- no operator more
  pub all_read : (ops all : List PrefixOp) (k : Terminals) → at k ≡ None → ops ++ run_of at k ≡ all → ops ≡ all
  all_read ops all k h q = sym (append-nil ops) ∙ ap (λ x. ops ++ x) (sym (run_of-none k h)) ∙ q

  by_run : (x : Option PrefixOp) (whole operand : Parser Condition) (t : Terminals) (k : Terminals)
      → whole k ≡ and_then (operand (after_run at k)) (λ c. pure (prefixed (run_of at k) c))
      → prefix_by x (whole k) (operand t) ≡ and_then (operand (rest_by x t (after_run at k))) (λ c. pure (prefixed (operators_by x (run_of at k)) c))
  by_run None whole operand t k later = itself (operand t)
  by_run (Some o) whole operand t k later = ap (λ y. and_then y (λ c. pure (Prefix o c))) later ∙ wrapped o (run_of at k) (operand (after_run at k))

  -- a reader that takes the operators one at a time takes the run, and then an operand
  pub taken_run : (whole operand : Parser Condition) → ((k : Terminals) → whole k ≡ prefix_by (at k) (whole (tail k)) (operand k))
      → (k : Terminals) → whole k ≡ and_then (operand (after_run at k)) (λ c. pure (prefixed (run_of at k) c))
  unfolding run_of after_run
  taken_run whole operand step [] = step [] ∙ ap (λ o. prefix_by o (whole []) (operand [])) nothing ∙ itself (operand [])
  taken_run whole operand step (t ∷ k) = step (t ∷ k) ∙ by_run (at (t ∷ k)) whole operand (t ∷ k) k (taken_run whole operand step k)

pub no_prefix : prefix_at [] ≡ None
unfolding prefix_at
no_prefix = refl

pub no_negation : negates_at [] ≡ None
unfolding negates_at
no_negation = refl

pub prefix_run-some : (k : Terminals) (o : PrefixOp) → prefix_at k ≡ Some o → run_of prefix_at k ≡ o ∷ run_of prefix_at (tail k)
prefix_run-some = run_of-some prefix_at no_prefix

pub prefix_run-none : (k : Terminals) → prefix_at k ≡ None → run_of prefix_at k ≡ []
prefix_run-none = run_of-none prefix_at no_prefix

pub after_prefixes-some : (k : Terminals) (o : PrefixOp) → prefix_at k ≡ Some o → after_run prefix_at k ≡ after_run prefix_at (tail k)
after_prefixes-some = after_run-some prefix_at no_prefix

pub after_prefixes-none : (k : Terminals) → prefix_at k ≡ None → after_run prefix_at k ≡ k
after_prefixes-none = after_run-none prefix_at no_prefix

pub negation_run-some : (k : Terminals) (o : PrefixOp) → negates_at k ≡ Some o → run_of negates_at k ≡ o ∷ run_of negates_at (tail k)
negation_run-some = run_of-some negates_at no_negation

pub negation_run-none : (k : Terminals) → negates_at k ≡ None → run_of negates_at k ≡ []
negation_run-none = run_of-none negates_at no_negation

pub after_negations-some : (k : Terminals) (o : PrefixOp) → negates_at k ≡ Some o → after_run negates_at k ≡ after_run negates_at (tail k)
after_negations-some = after_run-some negates_at no_negation

pub after_negations-none : (k : Terminals) → negates_at k ≡ None → after_run negates_at k ≡ k
after_negations-none = after_run-none negates_at no_negation

pub ruleset prefix_rules = (prefix_shorter, prefix_run-some, prefix_run-none, after_prefixes-some, after_prefixes-none)

pub ruleset negation_rules = (negates_shorter, negation_run-some, negation_run-none, after_negations-some, after_negations-none)

pub unary_run : (p : Entry → Parser Condition) (k : Terminals)
    → read_unary p k ≡ and_then (read_primary p (after_run prefix_at k)) (λ c. pure (prefixed (run_of prefix_at k) c))
unary_run p k = taken_run prefix_at no_prefix (read_unary p) (read_primary p) (unary_at p) k

pub not_run : (p : Entry → Parser Condition) (k : Terminals)
    → read_not p k ≡ and_then (read_test p (after_run negates_at k)) (λ c. pure (prefixed (run_of negates_at k) c))
not_run p k = taken_run negates_at no_negation (read_not p) (read_test p) (not_at p) k

-- the last operator stands next to the operand
pub prefixed-last : (os : List PrefixOp) (o : PrefixOp) (c : Condition) → prefixed (os ++ o ∷ []) c ≡ prefixed os (Prefix o c)
prefixed-last [] o c = refl
prefixed-last (x ∷ os) o c = ap (Prefix x) (prefixed-last os o c)

pub one_written : (left left' : List PrefixOp) (o : PrefixOp) (c c' all : Condition) → left ≡ left' ++ o ∷ [] → c' ≡ Prefix o c → prefixed left c ≡ all → prefixed left' c' ≡ all
one_written left left' o c c' all p e q = ap (prefixed left') e ∙ sym (prefixed-last left' o c) ∙ ap (λ l. prefixed l c) (sym p) ∙ q
