use Rattle.std.proofs.Common.{◌≡◌, Some, false, [], length, refl, sym, ap, ◌∙◌, subst, arith, rules}
use Rattle.std.proofs.lemmas.Option.{slice_get_read}
use Rattle.yr_image.specs.Views.{image_of}
use Rattle.yr_search.specs.State.{state_of}
use Rattle.yr_search.specs.Taking.{TakesAll}
use Rattle.yr_search.specs.Uppers.{upper}
use Rattle.yr_search.proofs.walking.take_flagged.Goals as goal

pub returns-then-not-index-clause-takes : goal.returns-then-not-index-clause-takes
returns-then-not-index-clause-takes g c =
    let image = image_of c.args.scene.now.view.now in
    let flags = c.args.skips.now.flags.items in
    let at = slice_get_read flags (length flags) c.args.node c.index.result.now refl (omega (arith, c.requires.node, c.requires.skips.flags.long)) c.index.ensures in
    let off : c.index.result.now ≡ false = search rules in
    let none : upper image c.args.node ≡ [] = c.requires.skips.flags.none c.args.node (at ∙ ap Some off) in
    let state = state_of c.args.gathered.now in
    subst (λ o. TakesAll image c.args.scene.now.file.now c.args.at o state state) (sym none) refl

pub returns-then-not-index-clause-count : goal.returns-then-not-index-clause-count
returns-then-not-index-clause-count g c =
    let image = image_of c.args.scene.now.view.now in
    let flags = c.args.skips.now.flags.items in
    let at = slice_get_read flags (length flags) c.args.node c.index.result.now refl (omega (arith, c.requires.node, c.requires.skips.flags.long)) c.index.ensures in
    let off : c.index.result.now ≡ false = search rules in
    let none : upper image c.args.node ≡ [] = c.requires.skips.flags.none c.args.node (at ∙ ap Some off) in
    sym (ap length none)
