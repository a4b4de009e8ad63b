use Rattle.std.proofs.Common.{sym, subst}
use Rattle.yr_rules.specs.Rules.{rules_of}
use Rattle.yr_image.specs.Image.{Image, shown}
use Rattle.yr_compiler.specs.Built.{IsBuilt}
use Rattle.yr_compiler.proofs.BuildLemmas.{below}
use Rattle.yr_compiler.proofs.CompiledLemmas.{compiled, finds}
use Rattle.yr_compiler.proofs.compiling.compile.Goals as goal

pub returns-clause-compiled : goal.returns-clause-compiled
returns-clause-compiled c = λ fits modules keeps.
    let rules = rules_of c.args.rules.now in
    let P : Image → Type 0 = λ i. IsBuilt i rules in
    let built = subst P (sym c.finish.ensures) c.in_ok-fill.ensures.built in
    compiled c.some_programs_are_known.ensures c.finish.result rules c.in_ok-fill.ensures.wellformed c.requires built fits modules keeps

pub returns-clause-finds : goal.returns-clause-finds
returns-clause-finds c = λ fits modules keeps.
    let rules = rules_of c.args.rules.now in
    let P : Image → Type 0 = λ i. IsBuilt i rules in
    let built = subst P (sym c.finish.ensures) c.in_ok-fill.ensures.built in
    finds c.some_programs_are_known.ensures c.finish.result rules c.in_ok-fill.ensures.wellformed c.requires built fits modules keeps

pub returns-clause-short : goal.returns-clause-short
returns-clause-short c =
    let rules = rules_of c.args.rules.now in
    let P : Image → Type 0 = λ i. IsBuilt i rules in
    let built = subst P (sym c.finish.ensures) c.in_ok-fill.ensures.built in
    below (shown c.finish.result) rules built c.in_ok-fill.ensures.wellformed
