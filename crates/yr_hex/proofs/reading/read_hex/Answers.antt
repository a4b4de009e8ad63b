use Rattle.std.proofs.Common.{◌≡◌, ◌∙◌, ap, sym, subst, arith}
use Rattle.std.proofs.lemmas.Result.{err_from_is_err_and}
use Rattle.yr_hex.specs.declared.fault.HexFault.TheVariants.{HexSyntax}
use Rattle.yr_hex.specs.Gaps.{Text}
use Rattle.yr_hex.specs.Answers.{HasNoReading}
use Rattle.yr_hex.specs.Parts.{part_of}
use Rattle.yr_hex.proofs.AnswerLemmas.{first_read, fails-read, more-read, whole-read, pattern-read, left-in, jump-read}
use Rattle.yr_hex.proofs.reading.read_hex.Goals as goal

pub returns-in_err-whole-clause-syntax : goal.returns-in_err-whole-clause-syntax
returns-in_err-whole-clause-syntax c e =
    let p = err_from_is_err_and c.from_residual.result c.from_residual.ensures.1 in
    let q : c.in_err-whole.field-0.0 ≡ HexSyntax = let a = p.1 in let b = p.2 in cc in
    subst (λ (t : Text). HasNoReading t) c.new-rest.ensures (fails-read c.new-rest.result part_of c.in_err-whole.field-0.0 c.list.new.text c.in_err-whole.ensures q)

pub returns-then-left-gt0-clause-syntax : goal.returns-then-left-gt0-clause-syntax
returns-then-left-gt0-clause-syntax c e =
    more-read c.args.text.now (part_of c.in_ok-whole.whole) c.list.new.text (ap first_read (sym c.new-rest.ensures) ∙ c.in_ok-whole.ensures) (omega arith)

pub overflow_sub-result : goal.overflow_sub-result
overflow_sub-result c =
    left-in c.args.text.now (part_of c.in_ok-whole.whole) c.in-Some.left
    (whole-read c.args.text.now (part_of c.in_ok-whole.whole) c.list.new.text (ap first_read (sym c.new-rest.ensures) ∙ c.in_ok-whole.ensures) (omega arith)) c.in-Some.is

pub returns-in-None-clause-pattern : goal.returns-in-None-clause-pattern
returns-in-None-clause-pattern c =
    pattern-read c.args.text.now (part_of c.in_ok-whole.whole)
    (whole-read c.args.text.now (part_of c.in_ok-whole.whole) c.list.new.text (ap first_read (sym c.new-rest.ensures) ∙ c.in_ok-whole.ensures) (omega arith)) c.in-None.is

pub returns-in-Some-clause-jump : goal.returns-in-Some-clause-jump
returns-in-Some-clause-jump c place e =
    jump-read c.args.text.now (part_of c.in_ok-whole.whole) c.in-Some.left place
    (whole-read c.args.text.now (part_of c.in_ok-whole.whole) c.list.new.text (ap first_read (sym c.new-rest.ensures) ∙ c.in_ok-whole.ensures) (omega arith)) c.in-Some.is (cc e)
