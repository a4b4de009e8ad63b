use Rattle.std.proofs.Common.{◌+◌, ◌||◌, ◌&&◌, take, sym, ap, ◌∙◌, arith}
use Rattle.std.specs.Str.{bytes_eq}
use Rattle.std.specs.List.{list_any}
use Rattle.yr_image.specs.Image.{namespace_of}
use Rattle.yr_image.specs.Views.{shown_bytes, image_of}
use Rattle.yr_machine.specs.Listing.{has_flag}
use Rattle.yr_report.specs.Scenes.{is_text}
use Rattle.yr_report.proofs.GateLemmas.{or-false, or-assoc, and-three}
use Rattle.yr_report.proofs.RangeLemmas.{take-none}
use Rattle.yr_report.proofs.RowLemmas.{few-rules, most-rules}
use Rattle.yr_report.proofs.JudgedLemmas.{shut_from, shut-first, shut-next, shut-none}
use Rattle.yr_report.proofs.gate.gather.Goals as goal

pub loop-k-init : goal.loop-k-init
loop-k-init c = record {
  few = omega arith;
  len = c.told-names;
  same = λ name.
      shut-first c.args.scene.now name
      ∙ ap (λ b. b || shut_from c.args.scene.now name 0) (sym (ap (list_any (is_text name)) (take-none c.args.names.now)));
}

pub overflow_cast-k : goal.overflow_cast-k
overflow_cast-k c = omega (arith, few-rules (shown_bytes c.args.scene.now.view) c.requires.good.wellformed, c.requires.good.results)

pub loop-k-preserved : goal.loop-k-preserved
loop-k-preserved c =
    let scene = c.args.scene.now in
    let l = c.loop-k in
    let row = c.rule-rule.result in record {
      few = omega (arith, l.invariant.few, c.add_name-count.ensures.within);
      len = c.add_name-count.ensures.len;
      same = λ name.
          let before = list_any (is_text name) (take l.count l.names) in
          let one = c.is_false_global-more.result && bytes_eq c.namespace.result.now name in
          let rest = shut_from scene name (l.k + 1) in
          let is =
          and-three c.is_false_global-more.result (has_flag 1 row.flags) _ (bytes_eq c.namespace.result.now name) (bytes_eq (namespace_of (image_of scene.view) row) name)
          c.is_false_global-more.ensures (ap (λ text. bytes_eq text name) c.namespace.ensures) in
          l.invariant.same name ∙ ap (λ b. before || b) (shut-next scene name l.k row _ one c.loop-k-test.true c.rule-rule.ensures is) ∙ sym (or-assoc before one rest)
          ∙ ap (λ b. b || rest) (sym (c.add_name-count.ensures.same name));
    }

pub returns-clause-same : goal.returns-clause-same
returns-clause-same c name =
    let before = list_any (is_text name) (take c.loop-k.count c.loop-k.names) in
    c.loop-k.invariant.same name ∙ ap (λ b. before || b) (shut-none c.args.scene.now name c.loop-k.k c.loop-k-test.false) ∙ or-false before

pub add_name-count-requires : goal.add_name-count-requires
add_name-count-requires c =
    let most = most-rules (shown_bytes c.args.scene.now.view) c.requires.good.wellformed in
    omega (arith, most, c.loop-k.invariant.few, c.loop-k-test.true, c.requires.good.results)

pub returns-clause-within : goal.returns-clause-within
returns-clause-within c =
    let most = most-rules (shown_bytes c.args.scene.now.view) c.requires.good.wellformed in
    omega (arith, most, c.loop-k.invariant.few, c.loop-k.auto.k-end, c.requires.good.results)
