use Rattle.std.proofs.Common.{◌∙◌, ap, sym, arith}
use Rattle.std.specs.Prelude.{◌&&◌}
use Rattle.std.proofs.lemmas.Bool.{le-ltb}
use Rattle.std.proofs.Math.Path.{fun_ext}
use Rattle.yr_pattern.specs.Set.{bytes_of}
use Rattle.yr_pattern.proofs.SetLemmas.{fold_more}
use Rattle.yr_regex.specs.Escapes.{between}
use Rattle.yr_regex.proofs.Basics.{between-small}
use Rattle.yr_regex.proofs.escape.between.Goals as goal

pub loop-b-init : goal.loop-b-init
loop-b-init c = λ x. ap (λ f. f x) c.none-set.ensures ∙ sym (ap (λ t. t && between c.args.from c.args.to x) (le-ltb x 0 (omega arith)))

pub loop-b-preserved : goal.loop-b-preserved
loop-b-preserved c = fold_more (bytes_of c.loop-b.set) (bytes_of c.with_between-set.result) (between c.args.from c.args.to) c.loop-b.b c.loop-b.invariant c.with_between-set.ensures

pub returns : goal.returns
returns c = fun_ext (λ x. c.loop-b.invariant x ∙ between-small c.loop-b.b c.args.from c.args.to x (omega arith))
