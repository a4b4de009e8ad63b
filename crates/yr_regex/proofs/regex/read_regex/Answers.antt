use Rattle.std.proofs.Common.{arith, ◌≡◌, ℕ, List, Err, Some, subst}
use Rattle.std.proofs.lemmas.Result.{err_from_is_err_and}
use Rattle.yr_regex.specs.Parts.{part_of}
use Rattle.yr_regex.specs.Reading.{Yields}
use Rattle.yr_regex.proofs.AnswerLemmas.{whole, fault-answer, rest-answer, judged-answer}
use Rattle.yr_regex.proofs.regex.read_regex.Goals as goal

pub returns-in_err-part : goal.returns-in_err-part
returns-in_err-part c =
    let p = err_from_is_err_and c.from_residual.result c.from_residual.ensures.1 in
    rw (p.1, p.2) (fault-answer c.args.text.now c.args.nocase c.args.dot_all _ c.expression.new.text
    (subst (λ (t : List ℕ). Yields part_of (whole t c.args.nocase c.args.dot_all) (Err c.in_err-part.field-0.0) c.expression.new.text) c.new-rest.ensures c.in_err-part.ensures))

pub returns-then-left-gt0 : goal.returns-then-left-gt0
returns-then-left-gt0 c =
    rest-answer c.args.text.now c.args.nocase c.args.dot_all (part_of c.in_ok-part.part) c.expression.new.text
    (subst (λ (t : List ℕ). whole t c.args.nocase c.args.dot_all ≡ Some (part_of c.in_ok-part.part, c.expression.new.text)) c.new-rest.ensures c.in_ok-part.ensures)
    (let e = c.left.ensures in omega arith)

pub returns : goal.returns
returns c =
    judged-answer c.args.text.now c.args.nocase c.args.dot_all (part_of c.in_ok-part.part) c.expression.new.text _
    (subst (λ (t : List ℕ). whole t c.args.nocase c.args.dot_all ≡ Some (part_of c.in_ok-part.part, c.expression.new.text)) c.new-rest.ensures c.in_ok-part.ensures)
    (let e = c.left.ensures in omega arith) c.judge.ensures
