use Rattle.std.proofs.Common.{◌≡◌, ◌↔◌, get_or, take, IsTrue, subst, arith, inl, inr, ⊎_elim, ◌∙◌}
use Rattle.std.proofs.Math.ListN.{length-set}
use Rattle.std.proofs.lemmas.List.{take_all}
use Rattle.std.specs.List.{Contains}
use Rattle.yr_lanes.specs.Rows.{in_rows}
use Rattle.yr_lanes.proofs.SetLemmas.{in_rows-gained, Contains-take_more}
use Rattle.yr_lanes.proofs.byte_set.Rows.new.Goals as goal

pub loop-byte-preserved : goal.loop-byte-preserved
loop-byte-preserved c =
    let xs = c.args.set.now in
    let i = c.loop-byte.byte-index in
    let old = c.loop-byte.invariant in
    record {
      front_long = length-set c.loop-byte.front _ _ ∙ old.front_long;
      back_long = length-set c.loop-byte.back _ _ ∙ old.back_long;
      held = λ b.
          let step = in_rows-gained c.loop-byte.front c.loop-byte.back (get_or xs i 0) b old.front_long old.back_long (omega (arith, (c.type_inv.set i).fits)) in
          let more = Contains-take_more xs i b (omega arith) in (
            λ h. more.1 (⊎_elim (λ p. inl ((old.held b).0 p)) (λ e. inr e) (step.0 h)),
            λ h. step.1 (⊎_elim (λ p. inl ((old.held b).1 p)) (λ e. inr e) (more.0 h)),
          );
    }

pub returns : goal.returns
returns c b =
    let xs = c.args.set.now in
    let whole : take c.loop-byte.byte-index xs ≡ xs = take_all c.loop-byte.byte-index xs (omega arith) in
    subst (λ ys. IsTrue (in_rows c.loop-byte.front c.loop-byte.back b) ↔ Contains ys b) whole (c.loop-byte.invariant.held b)
