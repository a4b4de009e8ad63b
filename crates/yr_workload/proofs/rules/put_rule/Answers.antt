use Rattle.std.proofs.Common.{List, ℕ, ◌++◌, codes}
use Rattle.std.specs.Prelude.{decimal}
use Rattle.yr_workload.specs.Workload.{modifiers}
use Rattle.yr_workload.proofs.DrawLemmas.{and_then}
use Rattle.yr_workload.proofs.rules.put_rule.Goals as goal

pub returns : goal.returns
returns c =
    let i = c.args.i in
    let w = c.args.word.now in
    let last : List ℕ = codes " condition: $a }\n" in
    let from_modifiers = modifiers i ++ last in
    let from_quote = codes "\" " ++ from_modifiers in
    let from_word = w ++ from_quote in
    let from_strings = codes " { strings: $a = \"" ++ from_word in
    let from_digits = decimal i ++ from_strings in
    and_then c.args.rules.now.items (codes "rule r") from_digits c.in_ok-extend_from_slice.ensures.items
    (and_then c.extend_from_slice.new.self.items (decimal i) from_strings c.in_ok-put_digits.ensures
    (and_then c.put_digits.new.rules.items (codes " { strings: $a = \"") from_word c.in_ok-extend_from_slice-2.ensures.items
    (and_then c.extend_from_slice-2.new.self.items w from_quote c.in_ok-extend_from_slice-3.ensures.items
    (and_then c.extend_from_slice-3.new.self.items (codes "\" ") from_modifiers c.in_ok-extend_from_slice-4.ensures.items
    (and_then c.extend_from_slice-4.new.self.items (modifiers i) last c.in_ok-put_modifiers.ensures
    c.in_ok-extend_from_slice-5.ensures.items)))))
