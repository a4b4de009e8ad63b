use Rattle.std.proofs.Common.{◌≡◌, ◌∙◌, false, Err, sym, ap, arith}
use Rattle.yr_syntax.specs.Declaration.{declaration_of}
use Rattle.yr_parser.specs.declared.fault.Fault.{Fault}
use Rattle.yr_parser.specs.Spelling.{places_of, terminals_of}
use Rattle.yr_parser.specs.Depth.{deep_from}
use Rattle.yr_parser.specs.Declarations.{end}
use Rattle.yr_parser.proofs.FormLemmas.{declarations-forms}
use Rattle.yr_parser.proofs.WholeLemmas.{clear-after, reads-one, smaller, is-deep, is-syntax}
use Rattle.yr_parser.proofs.parsing.parse.Goals as goal

pub declarations-init : goal.declarations-init
declarations-init c = rw (c.new-declarations.ensures.items, c.new-rest.ensures) (record { read = end; clear = λ e. absurd cc })

pub returns-then-is_deep-clause-refused : goal.returns-then-is_deep-clause-refused
returns-then-is_deep-clause-refused c =
    is-deep (places_of c.args.tokens.now) (terminals_of c.args.tokens.now) c.declarations.rest c.declarations.declarations.items c.len-declaration.result c.file_at-file.result
    c.line_at-line.result c.left-left.result c.declarations.invariant.read (c.len-declaration.ensures ∙ c.declarations.declarations.ok.0) c.left-left.ensures (omega arith) c.file_at-file.ensures c.line_at-line.ensures
    (sym c.is_deep.ensures ∙ c.if-is_deep.true)

pub declarations-smaller : goal.declarations-smaller
declarations-smaller c =
    let h = smaller (places_of c.args.tokens.now) c.declarations.rest c.next.new.tokens (declaration_of c.in-Ok.found) c.in-Ok.ensures.found in omega arith

pub declarations-preserved : goal.declarations-preserved
declarations-preserved c =
    let shallow : deep_from 0 0 c.declarations.rest ≡ false = sym c.is_deep.ensures ∙ c.if-is_deep.false in
    record {
      read = reads-one (places_of c.args.tokens.now) (terminals_of c.args.tokens.now) c.declarations.rest c.next.new.tokens c.declarations.declarations.items c.push.new.self.items c.in-Ok.found
          c.declarations.invariant.read shallow c.in-Ok.ensures.found c.in_ok-push-in-Ok.ensures.items;
      clear = clear-after (places_of c.args.tokens.now) c.declarations.rest c.next.new.tokens (declaration_of c.in-Ok.found) c.imports-is_clear.result c.in-Ok.ensures.found
          c.imports-is_clear.ensures shallow;
    }

pub returns-in-Err-Syntax-clause-refused : goal.returns-in-Err-Syntax-clause-refused
returns-in-Err-Syntax-clause-refused c =
    let shallow : deep_from 0 0 c.declarations.rest ≡ false = sym c.is_deep.ensures ∙ c.if-is_deep.false in
    is-syntax (places_of c.args.tokens.now) (terminals_of c.args.tokens.now) c.declarations.rest c.declarations.declarations.items c.len-declaration.result c.file_at-file.result
    c.line_at-line.result c.left-left.result c.declarations.invariant.read (c.len-declaration.ensures ∙ c.declarations.declarations.ok.0) c.left-left.ensures (omega arith) c.file_at-file.ensures c.line_at-line.ensures shallow
    (c.in-Err-Syntax.ensures.none (ap (λ (f : Fault). Err f) c.in-Err-Syntax.field-0-is) shallow)

pub returns-clause-forms : goal.returns-clause-forms
returns-clause-forms c = declarations-forms c.declarations.invariant.read c.keeps_forms.ensures
