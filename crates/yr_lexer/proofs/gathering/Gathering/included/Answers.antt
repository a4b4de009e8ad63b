use Rattle.std.proofs.Common.{rules, ◌∙◌}
use Rattle.std.proofs.lemmas.Result.{err_from_is_err_and}
use Rattle.yr_lexer.proofs.AdvanceLemmas.{at-path, at-no-memory, at-cycle, at-depth, at-enters, among-here}
use Rattle.yr_lexer.proofs.gathering.Gathering.included.Goals as goal

pub returns-in_err-path-clause-walk : goal.returns-in_err-path-clause-walk
returns-in_err-path-clause-walk c = λ lexed unescaped files is.
    let p = err_from_is_err_and c.from_residual.result c.from_residual.ensures.1 in
    rw (p.1, p.2) (λ told. at-path lexed unescaped files c.args.self.now c.args.include c.index-including.result.now c.requires.there c.index-including.ensures c.in_err-path.field-0.0
    (c.in_err-path.ensures.path unescaped is) told)

pub returns-in_err-name-clause-walk : goal.returns-in_err-name-clause-walk
returns-in_err-name-clause-walk c = λ lexed unescaped files is.
    let p = err_from_is_err_and c.from_residual-in_err-name.result c.from_residual-in_err-name.ensures.1 in
    rw (p.1, p.2) (λ told. at-no-memory lexed unescaped files c.args.self.now c.args.include told)

pub returns-in_err-from_str-clause-walk : goal.returns-in_err-from_str-clause-walk
returns-in_err-from_str-clause-walk c = λ lexed unescaped files is.
    let p = err_from_is_err_and c.from_residual-in_err-from_str.result c.from_residual-in_err-from_str.ensures.1 in
    rw (p.1, p.2) (λ told. at-no-memory lexed unescaped files c.args.self.now c.args.include told)

pub returns-then-is_open-clause-walk : goal.returns-then-is_open-clause-walk
returns-then-is_open-clause-walk c = λ lexed unescaped files is told.
    at-cycle lexed unescaped files c.args.self.now c.args.include c.index-including.result.now c.requires.there c.index-including.ensures c.in_ok-path.path (c.in_ok-path.ensures.path unescaped is)
    c.in_ok-name.name c.as_str.result.now c.as_str-2.result.now c.in_ok-name.ensures c.as_str.ensures.value c.as_str-2.ensures.value c.in_ok-from_str.field-0
    (c.in_ok-from_str.ensures.ok ∙ c.as_str-then-is_open.ensures.value)
    (among-here c.args.self.now c.in_ok-name.name c.as_str-3.result.now c.deref.result.now c.deref-2.result.now c.is_open.result c.is_open.ensures c.as_str-3.ensures.value c.deref.ensures.value
    c.deref-2.ensures.value ∙ c.if-is_open.true) told

pub returns-in_err-from_str-2-clause-walk : goal.returns-in_err-from_str-2-clause-walk
returns-in_err-from_str-2-clause-walk c = λ lexed unescaped files is.
    let p = err_from_is_err_and c.from_residual-in_err-from_str-2.result c.from_residual-in_err-from_str-2.ensures.1 in
    rw (p.1, p.2) (λ told. at-no-memory lexed unescaped files c.args.self.now c.args.include told)

pub returns-then-len-gt-DEPTH_LIMIT-clause-walk : goal.returns-then-len-gt-DEPTH_LIMIT-clause-walk
returns-then-len-gt-DEPTH_LIMIT-clause-walk c = λ lexed unescaped files is told.
    at-depth lexed unescaped files c.args.self.now c.args.include c.index-including.result.now c.requires.there c.index-including.ensures c.in_ok-path.path (c.in_ok-path.ensures.path unescaped is)
    c.in_ok-name.name c.as_str.result.now c.as_str-2.result.now c.in_ok-name.ensures c.as_str.ensures.value c.as_str-2.ensures.value
    (among-here c.args.self.now c.in_ok-name.name c.as_str-3.result.now c.deref.result.now c.deref-2.result.now c.is_open.result c.is_open.ensures c.as_str-3.ensures.value c.deref.ensures.value
    c.deref-2.ensures.value ∙ c.if-is_open.false) c.in_ok-from_str-2.field-0 (c.in_ok-from_str-2.ensures.ok ∙ c.as_str-then-len-gt-DEPTH_LIMIT.ensures.value) (search rules) told

pub returns-clause-walk : goal.returns-clause-walk
returns-clause-walk c = λ lexed unescaped files is.
    at-enters lexed unescaped files c.args.self.now c.args.include c.index-including.result.now c.requires.there c.index-including.ensures c.in_ok-path.path (c.in_ok-path.ensures.path unescaped is)
    c.in_ok-name.name c.as_str.result.now c.as_str-2.result.now c.in_ok-name.ensures c.as_str.ensures.value c.as_str-2.ensures.value
    (among-here c.args.self.now c.in_ok-name.name c.as_str-3.result.now c.deref.result.now c.deref-2.result.now c.is_open.result c.is_open.ensures c.as_str-3.ensures.value c.deref.ensures.value
    c.deref-2.ensures.value ∙ c.if-is_open.false) (search rules)
