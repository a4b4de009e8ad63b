use Rattle.std.proofs.Common.{◌+◌, ℕ, List, flat_map, refl, sym, ap, subst, arith, rules}
use Rattle.yr_answer.specs.Report.{string_lines}
use Rattle.yr_image.specs.Views.{image_of}
use Rattle.yr_machine.specs.Listing.{has_flag, listed_strings, listed_rule}
use Rattle.yr_machine.specs.Names.{string_name}
use Rattle.yr_report.specs.Adding.{waiting}
use Rattle.yr_report.specs.Scenes.{lists_of}
use Rattle.yr_report.proofs.AddLemmas.{Goes, goes-start, goes-on, goes-out, goes-breaks}
use Rattle.yr_report.proofs.RangeLemmas.{there, between-next, between-none, between-all}
use Rattle.yr_report.proofs.string.put_strings.Goals as goal

pub loop-k-init : goal.loop-k-init
loop-k-init g c =
    let image = image_of c.args.scene.now.view in
    let rule = c.args.rule.now in
    let text = flat_map (string_lines (lists_of c.args.scene.now)) in
    let all = text (listed_rule image rule).strings in record {
      later = omega arith;
      end = refl;
      goes =
          subst (λ (l : List ℕ). Goes (g.O.Sink.written c.args.out.now) (g.O.Sink.written c.args.out.now) (waiting c.args.line.now) (waiting c.args.line.now) l all)
          (ap (λ rows. text (listed_strings image rule.first_string rows)) (sym (between-all image.strings rule.first_string rule.strings (rule.first_string + rule.strings) refl)))
          (goes-start _ _ all);
      empty = c.requires.nothing;
    }

pub returns-in_err-put_string-clause-added : goal.returns-in_err-put_string-clause-added
returns-in_err-put_string-clause-added g c =
    let image = image_of c.args.scene.now.view in
    let l = c.loop-k in
    let end = c.args.rule.now.first_string + c.args.rule.now.strings in
    let row = there image.strings l.k (omega (arith, c.loop-k-test.true, c.requires.within)) in
    goes-breaks (waiting c.put_string.new.line) c.from_residual.result (g.O.Sink.faults c.args.out.now) (g.O.Sink.faults l.out) (g.O.Sink.faults c.put_string.new.out)
    (string_lines (lists_of c.args.scene.now) (record { number = l.k; name = string_name image row.0; hidden = has_flag 1 row.0.flags })) _ c.from_residual.ensures.0 l.invariant.later l.invariant.goes
    (ap (λ rows. flat_map (string_lines (lists_of c.args.scene.now)) (listed_strings image l.k rows)) (between-next image.strings l.k end row.0 c.loop-k-test.true row.1))
    (c.in_err-put_string.ensures.added row.0 row.1)

pub loop-k-preserved : goal.loop-k-preserved
loop-k-preserved g c =
    let image = image_of c.args.scene.now.view in
    let l = c.loop-k in
    let end = c.args.rule.now.first_string + c.args.rule.now.strings in
    let row = there image.strings l.k (omega (arith, c.loop-k-test.true, c.requires.within)) in record {
      later = search rules;
      end = refl;
      goes =
          goes-on _ l.invariant.goes
          (ap (λ rows. flat_map (string_lines (lists_of c.args.scene.now)) (listed_strings image l.k rows)) (between-next image.strings l.k end row.0 c.loop-k-test.true row.1))
          (c.in_ok-put_string.ensures.added row.0 row.1);
      empty = c.in_ok-put_string.ensures.empty;
    }

pub returns-clause-added : goal.returns-clause-added
returns-clause-added g c =
    let image = image_of c.args.scene.now.view in
    let l = c.loop-k in
    let end = c.args.rule.now.first_string + c.args.rule.now.strings in
    goes-out l.invariant.goes (ap (λ rows. flat_map (string_lines (lists_of c.args.scene.now)) (listed_strings image l.k rows)) (between-none image.strings l.k end c.loop-k-test.false))
