use Rattle.std.proofs.Common.{List, map, subst, ap}
use Rattle.yr_rules.specs.Rules.{PlainString, string_of}
use Rattle.yr_automaton.specs.Atoms.{words_of}
use Rattle.yr_splits.specs.Filling.{Filled, PutsAutomaton}
use Rattle.yr_splits.proofs.WholeLemmas.{strings_put}
use Rattle.yr_splits.proofs.strings.put_strings.Goals as goal

pub returns : goal.returns
returns c =
    let start = c.args.draft.now in
    let middle = c.put_rows.new.draft in
    let new = c.put_automaton.new.draft in
    let r = c.in_ok-atoms.ensures in
    let atoms = words_of c.in_ok-atoms.atoms.items in
    let strings = map string_of c.args.rules.now.strings in
    let P : List PlainString → Type 0 = λ ss. Filled start middle r.0 ss atoms in
    let filled = subst P (ap (map string_of) c.strings.ensures.strings) r.1 in
    let put = subst (λ ws. PutsAutomaton middle new ws) (ap words_of c.deref.ensures.value) c.in_ok-put_automaton.ensures in
    strings_put start middle new r.0 strings atoms filled put
