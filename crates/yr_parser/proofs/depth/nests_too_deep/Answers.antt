use Rattle.std.proofs.Common.{◌∙◌, sym, ap}
use Rattle.yr_parser.specs.Lexemes.{terminal_of}
use Rattle.yr_parser.specs.Depth.{deep_from}
use Rattle.yr_parser.proofs.DepthLemmas.{turn-unfit, turn-brace, turn-on, turn-within, deep-end}
use Rattle.yr_parser.proofs.depth.nests_too_deep.Goals as goal

pub returns-then-not-fits : goal.returns-then-not-fits
returns-then-not-fits c =
    turn-unfit c.terminals.opened c.terminals.run c.opened_after-opened.result c.run_after-run.result c.terminals.ahead (terminal_of c.in-Some.lexeme) _ c.fits.result
    c.terminals.invariant.same c.in-Some.ensures c.opened_after-opened.ensures c.run_after-run.ensures c.fits.ensures c.if-not-fits.true

pub returns-then-is_brace : goal.returns-then-is_brace
returns-then-is_brace c =
    turn-brace c.terminals.opened c.terminals.run c.opened_after-opened.result c.run_after-run.result c.terminals.ahead (terminal_of c.in-Some.lexeme) _ c.fits.result c.is_brace.result
    c.terminals.invariant.same c.in-Some.ensures c.opened_after-opened.ensures c.run_after-run.ensures c.fits.ensures c.if-not-fits.false c.is_brace.ensures c.if-is_brace.true

pub terminals-preserved : goal.terminals-preserved
terminals-preserved c =
    let w = turn-within c.opened_after-opened.result c.run_after-run.result c.fits.result c.fits.ensures c.if-not-fits.false in
    record {
      same = turn-on c.terminals.opened c.terminals.run c.opened_after-opened.result c.run_after-run.result c.terminals.ahead (terminal_of c.in-Some.lexeme) _ c.fits.result c.is_brace.result
          c.terminals.invariant.same c.in-Some.ensures c.opened_after-opened.ensures c.run_after-run.ensures c.fits.ensures c.if-not-fits.false c.is_brace.ensures c.if-is_brace.false
          ∙ ap (deep_from c.opened_after-opened.result c.run_after-run.result) (sym c.skip.ensures);
      few = w.0;
      short = w.1;
    }

pub returns : goal.returns
returns c = sym (c.terminals.invariant.same ∙ deep-end c.terminals.opened c.terminals.run c.terminals.ahead (sym c.in_default.ensures))
