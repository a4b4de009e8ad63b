use Rattle.std.proofs.Common.{refl, ◌∙◌, subst}
use Rattle.yr_image.specs.Image.{Image, shown}
use Rattle.yr_draft.specs.Added.{HasText}
use Rattle.yr_draft.proofs.FillingLemmas.{text_put}
use Rattle.yr_draft.proofs.draft.ImageDraft.put_text.Goals as goal

pub returns : goal.returns
returns c =
    let tables = c.self.inside.tables in
    let new : Image = shown (record tables { pool = c.extend_from_slice.new.self }) in
    subst (λ old. HasText old new c.args.text.now c.in_ok-at.at) c.self.view_is
    (text_put (shown tables) new c.args.text.now c.in_ok-at.at refl c.in_ok-extend_from_slice.ensures.items
    (c.in_ok-at.ensures ∙ (c.len.ensures ∙ tables.pool.ok.0)))
