use Rattle.std.proofs.Common.{Ok, Err, subst}
use Rattle.yr_regex.specs.Answers.{Answers}
use Rattle.yr_pattern.specs.Tree.{tree_of}
use Rattle.yr_conditions.specs.Fixed.{the_readers}
use Rattle.yr_conditions.specs.Readers.{RegexRefusal, Range, Mixed}
use Rattle.yr_conditions.proofs.ReaderLemmas.{one-regex, the-read}
use Rattle.yr_conditions.proofs.reading.regex_answer.Goals as goal

pub returns-in-Ok : goal.returns-in-Ok
returns-in-Ok c =
    let t = c.args.text.now in let n = c.args.nocase in let d = c.args.dot_all in
    one-regex t n d (Ok (record { pattern = tree_of c.in-Ok.regex.pattern; greedy = c.in-Ok.regex.greedy })) (the_readers.regex t n d) c.in-Ok.ensures (the-read.regex t n d)

pub returns-in-Err-RegexSyntax : goal.returns-in-Err-RegexSyntax
returns-in-Err-RegexSyntax c =
    let t = c.args.text.now in let n = c.args.nocase in let d = c.args.dot_all in
    one-regex t n d (Err RegexRefusal.NoReading) (the_readers.regex t n d) (subst (λ f. Answers t n d (Err f)) c.in-Err-RegexSyntax.field-0-is c.in-Err-RegexSyntax.ensures) (the-read.regex t n d)

pub returns-in-Err-RegexRange : goal.returns-in-Err-RegexRange
returns-in-Err-RegexRange c =
    let t = c.args.text.now in let n = c.args.nocase in let d = c.args.dot_all in
    one-regex t n d (Err (Range c.in-Err-RegexRange.place)) (the_readers.regex t n d) (subst (λ f. Answers t n d (Err f)) c.in-Err-RegexRange.field-0-is c.in-Err-RegexRange.ensures) (the-read.regex t n d)

pub returns-in-Err-MixedGreed : goal.returns-in-Err-MixedGreed
returns-in-Err-MixedGreed c =
    let t = c.args.text.now in let n = c.args.nocase in let d = c.args.dot_all in
    one-regex t n d (Err Mixed) (the_readers.regex t n d) (subst (λ f. Answers t n d (Err f)) c.in-Err-MixedGreed.field-0-is c.in-Err-MixedGreed.ensures) (the-read.regex t n d)
