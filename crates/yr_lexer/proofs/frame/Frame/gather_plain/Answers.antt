use Rattle.std.proofs.Common.{rules, ◌≡◌, List, None, ◌+◌, refl, sym, ap, ◌∙◌}
use Rattle.yr_lexer.specs.declared.token.Token.{Token}
use Rattle.yr_lexer.specs.OpenFiles.{front_include, left_of}
use Rattle.yr_lexer.proofs.PassLemmas.{passes-one, passes-end, passes-include, passes-lies, left-none}
use Rattle.yr_lexer.proofs.frame.Frame.gather_plain.Goals as goal

pub returns-in-Some-clause-include : goal.returns-in-Some-clause-include
returns-in-Some-clause-include c =
    passes-lies c.args.text.now c.args.self.now c.tokens.self c.args.tokens.now.items c.tokens.tokens.items c.tokens.invariant c.in-Some.include
    (ap (λ (l : List Token). front_include c.tokens.self.file c.args.text.now l) (sym c.left.ensures) ∙ sym c.in-Some.ensures)
    (record { file = c.tokens.self.file; tokens = c.tokens.self.tokens; at = c.tokens.self.at + 2 }) refl refl c.requires.lies

pub returns-in-Some-clause-walk : goal.returns-in-Some-clause-walk
returns-in-Some-clause-walk c =
    passes-include c.args.text.now c.args.self.now c.tokens.self c.args.tokens.now.items c.tokens.tokens.items c.tokens.invariant c.in-Some.include
    (ap (λ (l : List Token). front_include c.tokens.self.file c.args.text.now l) (sym c.left.ensures) ∙ sym c.in-Some.ensures)
    (record { file = c.tokens.self.file; tokens = c.tokens.self.tokens; at = c.tokens.self.at + 2 }) refl refl

pub tokens-preserved : goal.tokens-preserved
tokens-preserved c =
    let none : front_include c.tokens.self.file c.args.text.now (left_of c.tokens.self) ≡ None = search (rules, c.left.ensures, c.in_default.not-Some) in
    rw c.in_ok-push.ensures.items
    (passes-one c.args.text.now c.args.self.now c.tokens.self (record { file = c.tokens.self.file; tokens = c.tokens.self.tokens; at = c.tokens.self.at + 1 }) c.args.tokens.now.items c.tokens.tokens.items c.index.result.now
    c.index.ensures refl refl refl (search rules) none c.requires.lies c.tokens.invariant)

pub returns-clause-walk : goal.returns-clause-walk
returns-clause-walk c = λ lexed unescaped files include w.
    passes-end c.args.text.now c.args.self.now c.tokens.self c.args.tokens.now.items c.tokens.tokens.items c.tokens.invariant lexed unescaped files include w
    (left-none c.tokens.self c.len.result (search rules) c.tokens-test.false)
