use Rattle.std.proofs.Common.{◌++◌, codes, string_bytes, sym, ap, subst, ◌∙◌, append_assoc}
use Rattle.yr_lexer.specs.Includes.{TextTooLong}
use Rattle.yr_outcome.specs.Texts.{gather_text}
use Rattle.yr_front.specs.Units.{IsUngatheredAnswer}
use Rattle.yr_front.proofs.refusing.refuse_gathering.Goals as goal

pub returns-in-TextTooLong : goal.returns-in-TextTooLong
returns-in-TextTooLong c =
    let name = string_bytes c.in-TextTooLong.name in
    subst (λ f. IsUngatheredAnswer f c.refuse.result) (sym c.in-TextTooLong.is)
    (c.refuse.ensures (gather_text (TextTooLong name))
    (append_assoc name (codes ": TextTooLong") (codes "\n") ∙ ap (λ l. l ++ codes ": TextTooLong\n") (sym c.as_bytes-in-TextTooLong.ensures.value)))
