use Rattle.std.proofs.Common.{ℕ, List, [], ◌++◌, map, take, sym, subst, ap, arith}
use Rattle.std.proofs.lemmas.List.{length-map, length-take-le}
use Rattle.yr_rules.specs.Rules.{PlainString, string_of}
use Rattle.yr_rules.specs.Wellformed.{IsGoodString}
use Rattle.yr_atoms.specs.Coded.{word}
use Rattle.yr_splits.specs.Filling.{Filled}
use Rattle.yr_splits.proofs.FillLemmas.{filled_none}
use Rattle.yr_splits.proofs.LoopLemmas.{at_item, one_more}
use Rattle.yr_splits.proofs.string.put_rows.Goals as goal

pub loop-k-init : goal.loop-k-init
loop-k-init c =
    let P : List (List ℕ) → Type 0 = λ a. Filled c.args.draft.now c.args.draft.now [] [] a in
    ([], subst P (sym (ap (map word) c.new-atoms.ensures.items)) (filled_none c.args.draft.now c.requires.no_strings c.requires.no_splits))

pub put_string-requires : goal.put_string-requires
put_string-requires c = at_item IsGoodString string_of c.args.strings.now c.loop-k.k c.index-strings-k.result c.loop-k-test.true c.index-strings-k.is c.requires.good

pub loop-k-preserved : goal.loop-k-preserved
loop-k-preserved c =
    let xs = c.args.strings.now in
    let k = c.loop-k.k in
    let x = c.index-strings-k.result in
    let i = c.loop-k.invariant in
    let long = length-map (take k xs) string_of in
    let taken = length-take-le k xs (omega (arith, c.loop-k-test.true)) in
    let r = c.in_ok-put_string.ensures c.args.draft.now i.0 (map string_of (take k xs)) (omega (arith, long, taken)) i.1 in
    let P : List PlainString → Type 0 = λ ss. Filled c.args.draft.now c.put_string.new.draft (i.0 ++ r.0) ss (map word c.put_string.new.atoms.items) in
    (i.0 ++ r.0, subst P (sym (one_more string_of xs k x c.loop-k-test.true c.index-strings-k.is)) r.1)
