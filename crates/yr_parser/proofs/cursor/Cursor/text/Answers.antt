use Rattle.std.proofs.Common.{◌∙◌, ℕ, List, Some, sym, ap, subst}
use Rattle.std.proofs.lemmas.Result.{IfOk-weaker}
use Rattle.yr_lexer.specs.Texts.{Unescapes}
use Rattle.yr_parser.specs.Terminals.{Text}
use Rattle.yr_parser.specs.Input.{first}
use Rattle.yr_parser.proofs.TokenLemmas.{there, text-form, text-unescapes, unescaped-is}
use Rattle.yr_parser.proofs.cursor.Cursor.text.Goals as goal

pub unreachable-requires : goal.unreachable-requires
unreachable-requires c =
    there c.self.inside.tokens.now c.self.inside.at (Text c.requires.0) (ap first c.self.view_is ∙ c.requires.1) (sym c.token_at.ensures.value ∙ c.in-None.is)

pub unescape-requires : goal.unescape-requires
unescape-requires c =
    let f = text-form c.self.inside.tokens.now c.self.inside.at c.spelling.result.now c.requires.0 (ap first c.self.view_is ∙ c.requires.1) c.spelling.ensures.text c.spelling.ensures.spelled in
    subst (λ (w : List ℕ). (bytes : List ℕ) × Unescapes w bytes) (sym c.inside.ensures) (text-unescapes c.spelling.result.now f.0)

pub returns : goal.returns
returns c =
    let f = text-form c.self.inside.tokens.now c.self.inside.at c.spelling.result.now c.requires.0 (ap first c.self.view_is ∙ c.requires.1) c.spelling.ensures.text c.spelling.ensures.spelled in
    IfOk-weaker c.unescape.result (λ v. Unescapes c.inside.result.now v.items) _
    (λ v h. c.requires.1 ∙ ap (λ (x : List ℕ). Some (Text x))
    (sym f.1 ∙ unescaped-is _ v.items (subst (λ (w : List ℕ). Unescapes w v.items) c.inside.ensures h))) c.unescape.ensures.value
