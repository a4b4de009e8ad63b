use Rattle.std.proofs.Common.{List, map, take, sym, subst}
use Rattle.yr_rules.specs.Rules.{PlainExternal, external_of}
use Rattle.yr_compiler.specs.Putting.{PutsExternals}
use Rattle.yr_compiler.proofs.NoteLemmas.{no_externals, external_put}
use Rattle.yr_compiler.proofs.LoopLemmas.{one_more}
use Rattle.yr_compiler.proofs.external.put_externals.Goals as goal

pub loop-e-init : goal.loop-e-init
loop-e-init c = no_externals c.args.draft.now c.requires

pub loop-e-preserved : goal.loop-e-preserved
loop-e-preserved c =
    let xs = c.args.externals.now in
    let k = c.loop-e.e-index in
    let x = c.e-item.result in
    let P : List PlainExternal → Type 0 = λ es. PutsExternals c.args.draft.now c.put_external.new.self es in
    subst P (sym (one_more external_of xs k x c.loop-e-test.true c.e-item.is))
    (external_put c.args.draft.now c.loop-e.draft c.external_row.new.draft c.put_external.new.self (map external_of (take k xs)) (external_of x) c.in_ok-row.row
    c.loop-e.invariant c.in_ok-row.ensures c.in_ok-put_external.ensures)
