use Rattle.std.proofs.Common.{Some, map, ap, sym, ◌∙◌, arith}
use Rattle.std.proofs.lemmas.List.{length-map}
use Rattle.yr_pattern.specs.Tree.{tree_of}
use Rattle.yr_pattern.proofs.TreeLemmas.{tree_of-Seq}
use Rattle.yr_program.proofs.KeptLemmas.{in_order-many}
use Rattle.yr_program.proofs.keeping.one_after_another.Goals as goal

pub returns-then-len-gt1 : goal.returns-then-len-gt1
returns-then-len-gt1 c =
    ap Some (tree_of-Seq c.args.all)
    ∙ sym (in_order-many (map tree_of c.args.all.items) (omega (arith, length-map c.args.all.items tree_of, c.args.all.ok.0)))
