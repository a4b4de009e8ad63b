use Rattle.std.proofs.Common.{List, [], ◌∷◌, ◌++◌, map, take, sym, subst}
use Rattle.std.proofs.lemmas.List.{append_assoc}
use Rattle.yr_pattern.specs.Variants.{PlainVariant, variant_of}
use Rattle.yr_rules.specs.Wellformed.{IsGoodVariant}
use Rattle.yr_atoms.specs.Coded.{word}
use Rattle.yr_splits.specs.Placed.{Placed}
use Rattle.yr_splits.specs.Filling.{FilledPart}
use Rattle.yr_splits.proofs.LoopLemmas.{at_item, one_more}
use Rattle.yr_splits.proofs.string.put_variants.Goals as goal

pub put_variant-requires : goal.put_variant-requires
put_variant-requires c = at_item IsGoodVariant variant_of c.args.variants.now c.loop-v.v-index c.v-item.result c.loop-v-test.true c.v-item.is c.requires

pub loop-v-preserved : goal.loop-v-preserved
loop-v-preserved c = λ start placed strings count f.
    let xs = c.args.variants.now in
    let k = c.loop-v.v-index in
    let x = c.v-item.result in
    let r = c.loop-v.invariant start placed strings count f in
    let s = c.in_ok-put_variant.ensures start (placed ++ r.0) strings (map variant_of (take k xs)) count r.1 in
    let P : List Placed → Type 0 = λ l. FilledPart start c.put_variant.new.draft l strings (map variant_of (take k xs) ++ variant_of x ∷ []) (map word c.put_variant.new.atoms.items) in
    let Q : List PlainVariant → Type 0 = λ vs. FilledPart start c.put_variant.new.draft (placed ++ (r.0 ++ s.0)) strings vs (map word c.put_variant.new.atoms.items) in
    (r.0 ++ s.0, subst Q (sym (one_more variant_of xs k x c.loop-v-test.true c.v-item.is)) (subst P (append_assoc placed r.0 s.0) s.1))
