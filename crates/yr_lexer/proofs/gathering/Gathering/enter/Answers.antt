use Rattle.std.proofs.Common.{◌≡◌, ℕ, List, [], ◌∷◌, Some, string_bytes, refl, ap, ◌∙◌, subst}
use Rattle.yr_base.specs.Told.{told_more}
use Rattle.yr_base.specs.Notes.{read_noted, failure_noted}
use Rattle.yr_lexer.specs.declared.fault.GatherFault.TheVariants as fault
use Rattle.yr_lexer.specs.OpenFiles.{walk_into, walk_from, names_of, files_in}
use Rattle.yr_lexer.proofs.StepLemmas.{leads-read, refuses-read, into-long, into-failure, into-no-read}
use Rattle.yr_lexer.proofs.gathering.Gathering.enter.Goals as goal

pub returns-in-Done-clause-walk : goal.returns-in-Done-clause-walk
returns-in-Done-clause-walk g c = λ lexed unescaped files told is.
    leads-read (walk_into lexed unescaped files (string_bytes c.args.name) c.args.self.now) (walk_from lexed unescaped files c.take_file.new.self)
    (names_of (files_in c.args.self.now)) (names_of (files_in c.take_file.new.self)) (string_bytes c.args.name) c.take_file.result (g.S.Store.trace c.args.store.now) (g.S.Store.trace c.read_file.new.self)
    (c.in-Done.ensures.trace ∙ ap (λ (n : List ℕ). told_more (g.S.Store.trace c.args.store.now) (read_noted n ∷ [])) c.as_str.ensures.value) c.take_file.ensures.names
    (c.take_file.ensures.walk lexed unescaped files is
    (subst (λ (n : List ℕ). files n ≡ Some c.read_file.new.into.items) c.as_str.ensures.value (c.in-Done.ensures.reads.1 files told)))

pub returns-in-Long-clause-walk : goal.returns-in-Long-clause-walk
returns-in-Long-clause-walk g c = λ lexed unescaped files told is.
    let long = c.in-Long.ensures.reads.1 files told in
    refuses-read (walk_into lexed unescaped files (string_bytes c.args.name) c.args.self.now) (names_of (files_in c.args.self.now)) (string_bytes c.args.name) (fault.TextTooLong c.args.name)
    (g.S.Store.trace c.args.store.now) (g.S.Store.trace c.read_file.new.self)
    (c.in-Long.ensures.trace ∙ ap (λ (n : List ℕ). told_more (g.S.Store.trace c.args.store.now) (read_noted n ∷ [])) c.as_str.ensures.value)
    (into-long lexed unescaped files c.args.self.now (string_bytes c.args.name) c.requires.whole c.requires.few long.all
    (subst (λ (n : List ℕ). files n ≡ Some long.all) c.as_str.ensures.value long.there) long.longer (g.S.Store.trace c.read_file.new.self) c.args.name refl)

pub returns-in-Failed-clause-walk : goal.returns-in-Failed-clause-walk
returns-in-Failed-clause-walk g c = λ lexed unescaped files told is.
    into-failure lexed unescaped files c.args.self.now (string_bytes c.args.name) c.requires.whole c.requires.few (g.S.Store.trace c.args.store.now) (g.S.Store.trace c.read_file.new.self) c.args.name refl
    (c.in-Failed.ensures.trace ∙ ap (λ (n : List ℕ). told_more (g.S.Store.trace c.args.store.now) (failure_noted n ∷ [])) c.as_str.ensures.value)

pub returns-in-NoMemory-clause-walk : goal.returns-in-NoMemory-clause-walk
returns-in-NoMemory-clause-walk g c = λ lexed unescaped files told is.
    into-no-read lexed unescaped files c.args.self.now (string_bytes c.args.name) c.requires.whole c.requires.few (g.S.Store.trace c.args.store.now) (g.S.Store.trace c.read_file.new.self) c.in-NoMemory.ensures.trace
