use Rattle.std.proofs.Common.{ℕ, List, map, string_bytes, refl, ap, ◌∙◌, subst, arith, length}
use Rattle.std.proofs.lemmas.Result.{err_from_is_err_and}
use Rattle.yr_lexer.specs.declared.source.SourceFile.{SourceFile}
use Rattle.yr_lexer.specs.declared.gathering.Gathering.{Gathering}
use Rattle.yr_lexer.specs.Sources.{file_of}
use Rattle.yr_lexer.specs.Includes.{walk_of}
use Rattle.yr_lexer.specs.Gathering.{FitsFault}
use Rattle.yr_lexer.specs.OpenFiles.{names_of}
use Rattle.yr_lexer.proofs.AdvanceLemmas.{Follows, walk-begins, begins-work, closed-gathering, closed-lies, closed-walk, closed-work, follows-first, fails-first, follows-next, fails-next}
use Rattle.yr_lexer.proofs.gathering.gather.Goals as goal

pub returns-in_err-enter-clause-walk : goal.returns-in_err-enter-clause-walk
returns-in_err-enter-clause-walk g c = λ lexed unescaped files told is meaning.
    let p = err_from_is_err_and c.from_residual-in_err-enter.result c.from_residual-in_err-enter.ensures.1 in
    let s = c.new-gathering in
    rw (p.1, p.2)
    (subst (λ (n : List ℕ). FitsFault (walk_of lexed unescaped files n) c.in_err-enter.field-0.0 (g.S.Store.trace c.args.store.now) (g.S.Store.trace c.enter.new.store)) c.in_ok-root.ensures.ok
    (fails-first lexed unescaped files (string_bytes c.in_ok-root.root) (g.S.Store.trace c.args.store.now) s.result (g.S.Store.trace c.enter.new.store) c.in_err-enter.field-0.0
    (walk-begins lexed unescaped files s.result (string_bytes c.in_ok-root.root) s.ensures.files s.ensures.tokens s.ensures.frames)
    (ap (λ (l : List SourceFile). names_of (map file_of l)) s.ensures.files) (c.in_err-enter.ensures.walk lexed unescaped files told is)))

pub open-init : goal.open-init
open-init g c =
    let s = c.new-gathering in
    let w = begins-work s.result s.ensures.frames s.ensures.room in
    let l = ap (λ (l : List SourceFile). length l) s.ensures.files in
    let e = c.in_ok-enter.ensures.work in
    record {
      whole = c.in_ok-enter.ensures.whole;
      count = omega (arith, e.0, e.1);
      files = c.in_ok-enter.ensures.store.0;
      later = c.in_ok-enter.ensures.store.1;
      follows = λ lexed unescaped files told is meaning.
          subst (λ (n : List ℕ). Follows lexed unescaped files n c.enter.new.self (g.S.Store.trace c.args.store.now) (g.S.Store.trace c.enter.new.store)) c.in_ok-root.ensures.ok
          (follows-first lexed unescaped files (string_bytes c.in_ok-root.root) (g.S.Store.trace c.args.store.now) s.result c.enter.new.self (g.S.Store.trace c.enter.new.store)
          (walk-begins lexed unescaped files s.result (string_bytes c.in_ok-root.root) s.ensures.files s.ensures.tokens s.ensures.frames)
          (ap (λ (l : List SourceFile). names_of (map file_of l)) s.ensures.files) (c.in_ok-enter.ensures.walk lexed unescaped files told is));
    }

pub advance-requires-clause-whole : goal.advance-requires-clause-whole
advance-requires-clause-whole g c =
    closed-gathering c.open.gathering (record { files = c.open.gathering.files; tokens = c.open.gathering.tokens; frames = c.pop.new.self; room = c.open.gathering.room }) c.in-Some.frame refl refl
    c.in-Some.ensures.items refl c.open.invariant.whole

pub advance-requires-clause-lies : goal.advance-requires-clause-lies
advance-requires-clause-lies g c =
    closed-lies c.open.gathering (record { files = c.open.gathering.files; tokens = c.open.gathering.tokens; frames = c.pop.new.self; room = c.open.gathering.room }) c.in-Some.frame refl refl
    c.in-Some.ensures.items refl c.open.invariant.whole

pub open-preserved : goal.open-preserved
open-preserved g c =
    let t : Gathering = record { files = c.open.gathering.files; tokens = c.open.gathering.tokens; frames = c.pop.new.self; room = c.open.gathering.room } in
    let w = closed-work c.open.gathering t c.in-Some.frame refl refl c.in-Some.ensures.items refl c.open.invariant.whole in
    let n = c.in_ok-advance.ensures.numbered in
    let m = c.open.invariant.count in
    let a = c.open.invariant.later in
    let b = c.in_ok-advance.ensures.store.1 in
    record {
      whole = c.in_ok-advance.ensures.whole;
      count = omega arith;
      files = c.in_ok-advance.ensures.store.0 ∙ c.open.invariant.files;
      later = omega arith;
      follows = λ lexed unescaped files told is meaning.
          follows-next lexed unescaped files c.args.name.now (g.S.Store.trace c.args.store.now) c.open.gathering t c.advance.new.self c.in-Some.frame (g.S.Store.trace c.open.store)
          (g.S.Store.trace c.advance.new.store) (c.open.invariant.follows lexed unescaped files told is meaning)
          (closed-walk c.open.gathering t c.in-Some.frame refl refl c.in-Some.ensures.items refl c.open.invariant.whole lexed unescaped files) refl
          (c.in_ok-advance.ensures.walk lexed unescaped files (c.open.invariant.files ∙ told) is meaning);
    }

pub returns-in_err-advance-clause-walk : goal.returns-in_err-advance-clause-walk
returns-in_err-advance-clause-walk g c = λ lexed unescaped files told is meaning.
    let p = err_from_is_err_and c.from_residual-in_err-advance.result c.from_residual-in_err-advance.ensures.1 in
    let t : Gathering = record { files = c.open.gathering.files; tokens = c.open.gathering.tokens; frames = c.pop.new.self; room = c.open.gathering.room } in
    rw (p.1, p.2)
    (fails-next lexed unescaped files c.args.name.now (g.S.Store.trace c.args.store.now) c.open.gathering t c.in-Some.frame (g.S.Store.trace c.open.store) (g.S.Store.trace c.advance.new.store)
    c.in_err-advance.field-0.0 (c.open.invariant.follows lexed unescaped files told is meaning)
    (closed-walk c.open.gathering t c.in-Some.frame refl refl c.in-Some.ensures.items refl c.open.invariant.whole lexed unescaped files) refl
    (c.in_err-advance.ensures.walk lexed unescaped files (c.open.invariant.files ∙ told) is meaning))
