use Rattle.std.proofs.Common.{◌≡◌, ℕ, List, true, Option, refl, sym, ◌∙◌, subst}
use Rattle.std.specs.Prelude.{All, IfSome}
use Rattle.std.proofs.lemmas.Result.{err_from_is_err_and}
use Rattle.yr_lexer.specs.declared.frame.Include.{Include}
use Rattle.yr_lexer.specs.Sources.{text_at, LiesIn}
use Rattle.yr_lexer.specs.Includes.{Walk, is_text_kind}
use Rattle.yr_lexer.specs.OpenFiles.{Leads, Refuses, names_of, files_in, walk_from}
use Rattle.yr_lexer.proofs.AdvanceLemmas.{text-is, with-no-memory, kept-gathering, opened-gathering, still-open, walk-ended, walk-included}
use Rattle.yr_lexer.proofs.gathering.Gathering.advance.Goals as goal

pub gather_plain-requires-clause-lies : goal.gather_plain-requires-clause-lies
gather_plain-requires-clause-lies g c =
    subst (λ (t : List ℕ). All (LiesIn t) c.args.frame.tokens.items)
    (sym (text-is c.args.self.now c.args.frame c.requires.lies c.index.result.now c.as_slice-text.result.now c.index.ensures c.as_slice-text.ensures.value)) c.requires.lies.lies

pub returns-in_err-include-clause-walk : goal.returns-in_err-include-clause-walk
returns-in_err-include-clause-walk g c = λ lexed unescaped files told is meaning.
    let p = err_from_is_err_and c.from_residual.result c.from_residual.ensures.1 in
    rw (p.1, p.2) (with-no-memory lexed unescaped files c.args.self.now c.args.frame (g.S.Store.trace c.args.store.now))

pub returns-in_default-clause-whole : goal.returns-in_default-clause-whole
returns-in_default-clause-whole g c =
    let text = text-is c.args.self.now c.args.frame c.requires.lies c.index.result.now c.as_slice-text.result.now c.index.ensures c.as_slice-text.ensures.value in
    kept-gathering c.args.self.now (record { files = c.args.self.now.files; tokens = c.gather_plain.new.tokens; frames = c.args.self.now.frames; room = c.args.self.now.room }) c.requires.whole refl refl refl
    (c.in_ok-include.ensures.gathered (files_in c.args.self.now) c.requires.lies.there (sym text) c.requires.whole.lies)

pub returns-in_default-clause-walk : goal.returns-in_default-clause-walk
returns-in_default-clause-walk g c = λ lexed unescaped files told is meaning.
    let text = text-is c.args.self.now c.args.frame c.requires.lies c.index.result.now c.as_slice-text.result.now c.index.ensures c.as_slice-text.ensures.value in (
      walk-ended lexed unescaped files c.args.self.now c.args.frame c.gather_plain.new.self c.gather_plain.new.tokens.items c.as_slice-text.result.now c.in_ok-include.field-0 text
          (c.in_ok-include.ensures.walk lexed unescaped files) c.in_default.is,
      λ start notes. notes,
    )

pub returns-in_err-push-clause-walk : goal.returns-in_err-push-clause-walk
returns-in_err-push-clause-walk g c = λ lexed unescaped files told is meaning.
    let p = err_from_is_err_and c.from_residual-in_err-push.result c.from_residual-in_err-push.ensures.1 in
    rw (p.1, p.2) (with-no-memory lexed unescaped files c.args.self.now c.args.frame (g.S.Store.trace c.args.store.now))

pub included-requires-clause-whole : goal.included-requires-clause-whole
included-requires-clause-whole g c =
    let text = text-is c.args.self.now c.args.frame c.requires.lies c.index.result.now c.as_slice-text.result.now c.index.ensures c.as_slice-text.ensures.value in
    opened-gathering c.args.self.now (record { files = c.args.self.now.files; tokens = c.gather_plain.new.tokens; frames = c.push.new.self; room = c.args.self.now.room }) c.gather_plain.new.self c.requires.whole
    c.requires.few (still-open (files_in c.args.self.now) c.args.frame c.gather_plain.new.self c.requires.lies c.in_ok-include.ensures.same) refl c.in_ok-push.ensures.items refl
    (c.in_ok-include.ensures.gathered (files_in c.args.self.now) c.requires.lies.there (sym text) c.requires.whole.lies)

pub included-requires-clause-lies : goal.included-requires-clause-lies
included-requires-clause-lies g c =
    let text = text-is c.args.self.now c.args.frame c.requires.lies c.index.result.now c.as_slice-text.result.now c.index.ensures c.as_slice-text.ensures.value in
    let P : Option Include → Type 0 = λ o. IfSome o (λ i. (i.file ≡ c.args.frame.file) × LiesIn c.as_slice-text.result.now i.path × (is_text_kind i.path.kind ≡ true)) in
    let h = subst P c.in-Some.is c.in_ok-include.ensures.include in
    subst (λ n. LiesIn (text_at (files_in c.args.self.now) n) c.in-Some.include.path) (sym h.0) (subst (λ (t : List ℕ). LiesIn t c.in-Some.include.path) text h.1)

pub returns-in_err-name-clause-walk : goal.returns-in_err-name-clause-walk
returns-in_err-name-clause-walk g c = λ lexed unescaped files told is meaning.
    let p = err_from_is_err_and c.from_residual-in_err-name.result c.from_residual-in_err-name.ensures.1 in
    let text = text-is c.args.self.now c.args.frame c.requires.lies c.index.result.now c.as_slice-text.result.now c.index.ensures c.as_slice-text.ensures.value in
    let P : Option Include → Type 0 = λ o. IfSome o (λ i. (i.file ≡ c.args.frame.file) × LiesIn c.as_slice-text.result.now i.path × (is_text_kind i.path.kind ≡ true)) in
    let h = subst P c.in-Some.is c.in_ok-include.ensures.include in
    let e = walk-included lexed unescaped files c.args.self.now c.args.frame c.gather_plain.new.self c.gather_plain.new.tokens.items c.as_slice-text.result.now c.in_ok-include.field-0 text
    (c.in_ok-include.ensures.walk lexed unescaped files) c.in-Some.include c.in-Some.is h.0 c.in_ok-include.ensures.same.0
    (record { files = c.args.self.now.files; tokens = c.gather_plain.new.tokens; frames = c.push.new.self; room = c.args.self.now.room }) refl refl c.in_ok-push.ensures.items in
    rw (p.1, p.2)
    (subst (λ (k : Walk). Refuses k (names_of (files_in c.args.self.now)) c.in_err-name.field-0.0 (g.S.Store.trace c.args.store.now) (g.S.Store.trace c.args.store.now)) (sym e)
    (c.in_err-name.ensures.walk lexed unescaped files meaning (g.S.Store.trace c.args.store.now)))

pub enter-requires-clause-whole : goal.enter-requires-clause-whole
enter-requires-clause-whole g c =
    let text = text-is c.args.self.now c.args.frame c.requires.lies c.index.result.now c.as_slice-text.result.now c.index.ensures c.as_slice-text.ensures.value in
    opened-gathering c.args.self.now (record { files = c.args.self.now.files; tokens = c.gather_plain.new.tokens; frames = c.push.new.self; room = c.args.self.now.room }) c.gather_plain.new.self c.requires.whole
    c.requires.few (still-open (files_in c.args.self.now) c.args.frame c.gather_plain.new.self c.requires.lies c.in_ok-include.ensures.same) refl c.in_ok-push.ensures.items refl
    (c.in_ok-include.ensures.gathered (files_in c.args.self.now) c.requires.lies.there (sym text) c.requires.whole.lies)

pub returns-clause-walk : goal.returns-clause-walk
returns-clause-walk g c = λ lexed unescaped files told is meaning.
    let text = text-is c.args.self.now c.args.frame c.requires.lies c.index.result.now c.as_slice-text.result.now c.index.ensures c.as_slice-text.ensures.value in
    let P : Option Include → Type 0 = λ o. IfSome o (λ i. (i.file ≡ c.args.frame.file) × LiesIn c.as_slice-text.result.now i.path × (is_text_kind i.path.kind ≡ true)) in
    let h = subst P c.in-Some.is c.in_ok-include.ensures.include in
    let e = walk-included lexed unescaped files c.args.self.now c.args.frame c.gather_plain.new.self c.gather_plain.new.tokens.items c.as_slice-text.result.now c.in_ok-include.field-0 text
    (c.in_ok-include.ensures.walk lexed unescaped files) c.in-Some.include c.in-Some.is h.0 c.in_ok-include.ensures.same.0
    (record { files = c.args.self.now.files; tokens = c.gather_plain.new.tokens; frames = c.push.new.self; room = c.args.self.now.room }) refl refl c.in_ok-push.ensures.items in
    subst (λ (k : Walk). Leads k (names_of (files_in c.args.self.now)) c.enter.result (walk_from lexed unescaped files c.enter.new.self) (names_of (files_in c.enter.new.self))
    (g.S.Store.trace c.args.store.now) (g.S.Store.trace c.enter.new.store)) (sym (e ∙ c.in_ok-name.ensures.walk lexed unescaped files meaning))
    (c.enter.ensures.walk lexed unescaped files told is)
