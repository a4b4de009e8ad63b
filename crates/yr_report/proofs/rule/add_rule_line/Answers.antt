use Rattle.std.proofs.Common.{◌≡◌, ◌++◌, ℕ, List, refl, sym, ap, arith}
use Rattle.std.specs.Prelude.{codes}
use Rattle.yr_answer.specs.Report.{on_request, bracketed, entry_text}
use Rattle.yr_image.specs.Image.{namespace_of}
use Rattle.yr_image.specs.Views.{image_of}
use Rattle.yr_machine.specs.Names.{rule_name}
use Rattle.yr_machine.specs.Listing.{listed_rule}
use Rattle.yr_report.specs.Adding.{waiting}
use Rattle.yr_report.proofs.AddLemmas.{goes-start, goes-on, goes-ends, goes-breaks}
use Rattle.yr_report.proofs.rule.add_rule_line.Goals as goal

named : (name found rest : List ℕ) → found ≡ name → name ++ rest ≡ found ++ rest
named name found rest e = ap (λ (l : List ℕ). l ++ rest) (sym e)

pub returns-in_err-add_asked_namespace-clause-added : goal.returns-in_err-add_asked_namespace-clause-added
returns-in_err-add_asked_namespace-clause-added g c =
    let scene = c.args.scene.now in
    let image = image_of scene.view in
    goes-breaks (waiting c.add_asked_namespace.new.line) c.from_residual.result (g.O.Sink.faults c.args.out.now) (g.O.Sink.faults c.args.out.now) (g.O.Sink.faults c.add_asked_namespace.new.out)
    (on_request scene.options.spaces (namespace_of image c.args.rule.now ++ codes ":")) _ c.from_residual.ensures.0 (omega arith) (goes-start _ _ _) refl c.in_err-add_asked_namespace.ensures.added

pub returns-in_err-add-clause-added : goal.returns-in_err-add-clause-added
returns-in_err-add-clause-added g c =
    let image = image_of c.args.scene.now.view in
    goes-breaks (waiting c.add.new.self) c.from_residual-in_err-add.result (g.O.Sink.faults c.args.out.now) (g.O.Sink.faults c.add_asked_namespace.new.out) (g.O.Sink.faults c.add.new.out)
    c.rule_name.result.now _ c.from_residual-in_err-add.ensures.0 c.add_asked_namespace.ensures.later
    (goes-on _ (goes-start _ _ _) refl c.in_ok-add_asked_namespace.ensures.added) (named (rule_name image c.args.rule.now) c.rule_name.result.now _ c.rule_name.ensures) c.in_err-add.ensures.added

pub returns-in_err-add_tags-clause-added : goal.returns-in_err-add_tags-clause-added
returns-in_err-add_tags-clause-added g c =
    let scene = c.args.scene.now in
    let image = image_of scene.view in
    goes-breaks (waiting c.add_tags.new.line) c.from_residual-in_err-add_tags.result (g.O.Sink.faults c.args.out.now) (g.O.Sink.faults c.add.new.out) (g.O.Sink.faults c.add_tags.new.out)
    (on_request scene.options.tags (bracketed (λ tag. tag) (listed_rule image c.args.rule.now).tags)) _ c.from_residual-in_err-add_tags.ensures.0 (omega (arith, c.add_asked_namespace.ensures.later, c.add.ensures.later))
    (goes-on _ (goes-on _ (goes-start _ _ _) refl c.in_ok-add_asked_namespace.ensures.added) (named (rule_name image c.args.rule.now) c.rule_name.result.now _ c.rule_name.ensures) c.in_ok-add.ensures.added)
    refl c.in_err-add_tags.ensures.added

pub returns-in_err-add_all_meta-clause-added : goal.returns-in_err-add_all_meta-clause-added
returns-in_err-add_all_meta-clause-added g c =
    let scene = c.args.scene.now in
    let image = image_of scene.view in
    goes-breaks (waiting c.add_all_meta.new.line) c.from_residual-in_err-add_all_meta.result (g.O.Sink.faults c.args.out.now) (g.O.Sink.faults c.add_tags.new.out) (g.O.Sink.faults c.add_all_meta.new.out)
    (on_request scene.options.meta (bracketed entry_text (listed_rule image c.args.rule.now).meta)) _ c.from_residual-in_err-add_all_meta.ensures.0
    (omega (arith, c.add_asked_namespace.ensures.later, c.add.ensures.later, c.add_tags.ensures.later))
    (goes-on _
    (goes-on _ (goes-on _ (goes-start _ _ _) refl c.in_ok-add_asked_namespace.ensures.added) (named (rule_name image c.args.rule.now) c.rule_name.result.now _ c.rule_name.ensures) c.in_ok-add.ensures.added)
    refl c.in_ok-add_tags.ensures.added)
    refl c.in_err-add_all_meta.ensures.added

pub returns-clause-added : goal.returns-clause-added
returns-clause-added g c =
    let scene = c.args.scene.now in
    let image = image_of scene.view in
    goes-ends (g.O.Sink.written c.add_all.new.out) (waiting c.add_all.new.line) (codes " " ++ (scene.target.now ++ codes "\n")) c.add_all.result (g.O.Sink.faults c.args.out.now)
    (g.O.Sink.faults c.add_all_meta.new.out) (g.O.Sink.faults c.add_all.new.out)
    (omega (arith, c.add_asked_namespace.ensures.later, c.add.ensures.later, c.add_tags.ensures.later, c.add_all_meta.ensures.later))
    (goes-on _
    (goes-on _
    (goes-on _ (goes-on _ (goes-start _ _ _) refl c.in_ok-add_asked_namespace.ensures.added) (named (rule_name image c.args.rule.now) c.rule_name.result.now _ c.rule_name.ensures) c.in_ok-add.ensures.added)
    refl c.in_ok-add_tags.ensures.added)
    refl c.in_ok-add_all_meta.ensures.added)
    refl c.add_all.ensures.added
