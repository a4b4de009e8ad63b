use Rattle.std.proofs.Common.{◌≡◌, ◌+◌, ◌∷◌, [], ℕ, List, length, take, drop, sym, ap, ◌∙◌, subst}
use Rattle.yr_values.specs.Values.{Value, shown}
use Rattle.yr_answer.specs.Turns.{range_turns}
use Rattle.yr_machine.specs.Machine.{begin}
use Rattle.yr_machine.specs.Operations.{quantifier_of}
use Rattle.yr_machine.specs.Roles.{quantity}
use Rattle.yr_vm.specs.OpenLoops.{loops_shown, presents_shown, begun_shown}
use Rattle.yr_vm.specs.States.{MayBegin, CanBegin}
use Rattle.yr_vm.proofs.LoopLemmas.{can-begin}
use Rattle.yr_vm.proofs.looping.begin_range.Goals as goal

pub begin-requires-clause-goes : goal.begin-requires-clause-goes
begin-requires-clause-goes c =
    let s = c.args.state.now in
    let n = length (presents_shown s.loops) in
    let v = shown c.two.result.0.now in
    let w = shown c.two.result.1.now in
    let taken : 2 + length (quantity c.args.kind) ≡ 2 + c.quantity.result = ap (λ k. 2 + k) (sym c.quantity.ensures.count) in
    let may = c.requires.goes v w c.two.ensures.operands in
    let known = subst (λ q. MayBegin q (range_turns v w) n (length (drop (2 + length (quantity c.args.kind)) s.stack))) (sym c.quantifier-quantifier.ensures) may in
    let begun = subst (λ turns. MayBegin c.quantifier-quantifier.result turns n (length (drop (2 + length (quantity c.args.kind)) s.stack)))
    (sym (c.range-begun.ensures.turns [])) known in
    subst (λ k. CanBegin c.quantifier-quantifier.result c.range-begun.result n (length (drop k s.stack))) taken
    (can-begin [] c.quantifier-quantifier.result c.range-begun.result n (length (drop (2 + length (quantity c.args.kind)) s.stack)) begun)

first-of : (a b x y : Value) → (a ∷ b ∷ []) ≡ (x ∷ y ∷ []) → a ≡ x
first-of a b x y e = cc

second-of : (a b x y : Value) → (a ∷ b ∷ []) ≡ (x ∷ y ∷ []) → b ≡ y
second-of a b x y e = cc

pub returns : goal.returns
returns c lists v w e =
    let s = c.args.state.now in
    let low = shown c.two.result.0.now in
    let high = shown c.two.result.1.now in
    let same = sym c.two.ensures.operands ∙ e in
    let q = c.quantifier-quantifier.result in
    let loops = loops_shown lists s.loops in
    let after = λ (k : ℕ). drop k s.stack in
    let taken : 2 + c.quantity.result ≡ 2 + length (quantity c.args.kind) = ap (λ k. 2 + k) c.quantity.ensures.count in
    c.begin.ensures lists (c.range-begun.ensures.counted lists)
    ∙ ap (λ k. begin q (begun_shown lists c.range-begun.result) s.place c.args.end 0 (after k) (after k) loops) taken
    ∙ ap (λ turns. begin q turns s.place c.args.end 0 (after (2 + length (quantity c.args.kind))) (after (2 + length (quantity c.args.kind))) loops)
    (c.range-begun.ensures.turns lists ∙ ap (λ a. range_turns a high) (second-of high low w v same) ∙ ap (range_turns v) (first-of high low w v same))
    ∙ ap (λ p. begin p (range_turns v w) s.place c.args.end 0 (after (2 + length (quantity c.args.kind))) (after (2 + length (quantity c.args.kind))) loops)
    c.quantifier-quantifier.ensures
