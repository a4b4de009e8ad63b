use Rattle.std.proofs.Common.{length, refl, ap}
use Rattle.std.proofs.lemmas.Result.{err_from_is_err_and}
use Rattle.yr_lexer.specs.declared.frame.Frame.{Frame}
use Rattle.yr_lexer.proofs.StepLemmas.{Adds, added-gathering, added-walk, into-lex, into-no-memory}
use Rattle.yr_lexer.proofs.gathering.Gathering.take_file.Goals as goal

pub returns-in_err-tokens-clause-walk : goal.returns-in_err-tokens-clause-walk
returns-in_err-tokens-clause-walk c = λ lexed unescaped files is there.
    let p = err_from_is_err_and c.from_residual.result c.from_residual.ensures.1 in
    rw (p.1, p.2) (λ told.
    into-lex lexed unescaped files c.args.self.now _ c.requires.whole c.requires.few c.args.file.text.items there c.requires.room c.in_err-tokens.field-0.0 (c.in_err-tokens.ensures.lexed lexed is) told)

pub returns-in_err-add-clause-walk : goal.returns-in_err-add-clause-walk
returns-in_err-add-clause-walk c = λ lexed unescaped files is there.
    let p = err_from_is_err_and c.from_residual-in_err-add.result c.from_residual-in_err-add.ensures.1 in
    rw (p.1, p.2) (λ told. into-no-memory lexed unescaped files c.args.self.now _ c.requires.whole c.requires.few told)

pub returns-clause-whole : goal.returns-clause-whole
returns-clause-whole c =
    let frame : Frame = record { file = length c.args.self.now.files.items; tokens = c.in_ok-tokens.tokens; at = 0 } in
    let adds : Adds c.args.self.now c.add.new.self c.args.file frame = record {
      start = refl;
      number = refl;
      files = c.in_ok-add.ensures.files;
      tokens = ap (λ v. v.items) c.in_ok-add.ensures.tokens;
      frames = c.in_ok-add.ensures.frames;
      room = c.in_ok-add.ensures.room;
    } in
    added-gathering c.args.self.now c.add.new.self c.args.file frame adds c.requires.whole c.requires.few c.requires.room c.in_ok-tokens.ensures.tokens.0 c.in_ok-tokens.ensures.tokens.1

pub returns-clause-walk : goal.returns-clause-walk
returns-clause-walk c = λ lexed unescaped files is there.
    let frame : Frame = record { file = length c.args.self.now.files.items; tokens = c.in_ok-tokens.tokens; at = 0 } in
    let adds : Adds c.args.self.now c.add.new.self c.args.file frame = record {
      start = refl;
      number = refl;
      files = c.in_ok-add.ensures.files;
      tokens = ap (λ v. v.items) c.in_ok-add.ensures.tokens;
      frames = c.in_ok-add.ensures.frames;
      room = c.in_ok-add.ensures.room;
    } in
    added-walk c.args.self.now c.add.new.self c.args.file frame adds c.requires.whole c.requires.few c.requires.room c.in_ok-tokens.ensures.tokens.0 c.in_ok-tokens.ensures.tokens.1
    lexed unescaped files there (c.in_ok-tokens.ensures.lexed lexed is)
