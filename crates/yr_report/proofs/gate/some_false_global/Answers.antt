use Rattle.std.proofs.Common.{false, sym, ◌∙◌, arith}
use Rattle.std.specs.Str.{bytes_eq}
use Rattle.yr_image.specs.Image.{namespace_of}
use Rattle.yr_image.specs.Views.{shown_bytes, image_of}
use Rattle.yr_machine.specs.Listing.{has_flag}
use Rattle.yr_report.proofs.GateLemmas.{and-none}
use Rattle.yr_report.proofs.RowLemmas.{few-rules}
use Rattle.yr_report.proofs.JudgedLemmas.{shut-first, shut-next, shut-none}
use Rattle.yr_report.proofs.gate.some_false_global.Goals as goal

pub loop-k-init : goal.loop-k-init
loop-k-init c name = shut-first c.args.scene.now name

pub overflow_cast-k : goal.overflow_cast-k
overflow_cast-k c = omega (arith, few-rules (shown_bytes c.args.scene.now.view) c.requires.good.wellformed, c.requires.good.results)

pub loop-k-preserved : goal.loop-k-preserved
loop-k-preserved c name =
    let scene = c.args.scene.now in
    let row = c.rule-rule.result in
    let clear = and-none (has_flag 1 row.flags) _ (bytes_eq (namespace_of (image_of scene.view) row) name) (sym c.is_false_global.ensures ∙ c.if-is_false_global.false) in
    c.loop-k.invariant name ∙ shut-next scene name c.loop-k.k row _ false c.loop-k-test.true c.rule-rule.ensures (sym clear)

pub returns : goal.returns
returns c name h = c.loop-k.invariant name ∙ shut-none c.args.scene.now name c.loop-k.k c.loop-k-test.false
