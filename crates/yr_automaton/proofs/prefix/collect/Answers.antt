use Rattle.std.proofs.Common.{◌≡◌, ◌+◌, ℕ, List, [], ◌∷◌, ◌++◌, sym, ap, subst, ◌∙◌, Some}
use Rattle.std.proofs.lemmas.Option.{slice_get-get_or}
use Rattle.std.specs.Prelude.{slice_get}
use Rattle.yr_automaton.specs.Atoms.{word}
use Rattle.yr_automaton.specs.Prepared.{Collected}
use Rattle.yr_automaton.specs.Keys.{key_after}
use Rattle.yr_automaton.proofs.CollectLemmas.{collected_step}
use Rattle.yr_automaton.proofs.prefix.collect.Goals as goal

pub loop-i-preserved : goal.loop-i-preserved
loop-i-preserved c =
    let atoms = c.args.atoms.now in
    let n = c.loop-i.i in
    let a = c.index-atoms-i.result in
    let at : slice_get atoms n ≡ Some a = slice_get-get_or atoms n a c.loop-i-test.true ∙ ap Some (sym c.index-atoms-i.is) in
    let step = collected_step atoms n c.loop-i.all.items c.loop-i.numbered.items a at c.in_ok-key.ensures.bytes c.add_prefixes.ensures.short c.loop-i.invariant in
    let C : List ℕ → List (ℕ × ℕ) → Type 0 = λ all numbered. Collected atoms (n + 1) all numbered in
    let pushed : c.push.new.self.items ≡ c.loop-i.numbered.items ++ (key_after 0 (word a), n) ∷ [] =
    c.in_ok-push.ensures.items ∙ ap (λ k. c.loop-i.numbered.items ++ (k, n) ∷ []) c.in_ok-key.ensures.key in
    subst (C c.add_prefixes.new.keys.items) (sym pushed) (subst (λ l. C l (c.loop-i.numbered.items ++ (key_after 0 (word a), n) ∷ [])) (sym c.in_ok-key.ensures.added) step)
