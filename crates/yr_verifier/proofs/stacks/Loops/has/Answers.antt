use Rattle.std.proofs.Common.{◌≡◌, ap, ◌∙◌, length, reverse, get_or, false}
use Rattle.std.proofs.lemmas.Bool.{le-ltb}
use Rattle.std.proofs.lemmas.Option.{slice_get-get_or}
use Rattle.yr_machine.specs.Named.{is_loop}
use Rattle.yr_verifier.proofs.CodeNameLemmas.{loop_found, loop_missing}
use Rattle.yr_verifier.proofs.stacks.Loops.has.Goals as goal

pub returns-then-c-items : goal.returns-then-c-items
returns-then-c-items c =
    let items = c.as_slice-items.result.now in
    let view : reverse c.self.inside.items.items ≡ c.args.self.now = c.self.view_is in
    loop_found items c.args.strings (get_or items c.args.c false) c.args.c (slice_get-get_or items c.args.c false c.if-c-items.true)
    ∙ ap (λ l. is_loop c.args.strings l c.args.c) (ap reverse c.as_slice-items.ensures.value ∙ view)

pub returns-else-c-items : goal.returns-else-c-items
returns-else-c-items c =
    let items = c.as_slice-items.result.now in
    let view : reverse c.self.inside.items.items ≡ c.args.self.now = c.self.view_is in
    le-ltb c.args.c (length items) c.if-c-items.false ∙ loop_missing items c.args.strings c.args.c c.if-c-items.false
    ∙ ap (λ l. is_loop c.args.strings l c.args.c) (ap reverse c.as_slice-items.ensures.value ∙ view)
