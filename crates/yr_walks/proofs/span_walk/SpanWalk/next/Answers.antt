use Rattle.std.proofs.Common.{◌≡◌, ◌+◌, ◌-◌, ◌<◌, ◌∷◌, ℕ, List, Option, sym, ap, ◌∙◌, subst, arith, true≢false}
use Rattle.std.specs.Prelude.{if◌then◌else◌}
use Rattle.yr_base.specs.Places.{has_left_border}
use Rattle.yr_walks.specs.EndWalks as ends
use Rattle.yr_walks.specs.StartWalks as starts
use Rattle.yr_walks.specs.StartWalks.{IsBestOf}
use Rattle.yr_walks.specs.Spans.{Walk, Kept, IsAmong, IsCounted, IsMidway, IsReadyFor}
use Rattle.yr_walks.proofs.SpanLemmas.{best_span, no_span, told_more, still_inside, moved_told}
use Rattle.yr_walks.proofs.span_walk.SpanWalk.next.Goals as goal
use Rattle.yr_walks.proofs.span_walk.SpanWalk.next.Goals.{then-has_left_border, else-has_left_border}

pub returns-clause-span : goal.returns-clause-span
returns-clause-span g c = λ hits midway.
    let w : Walk = record { ends = c.self.inside.ends; starts = c.self.inside.starts; atom = c.self.inside.atom } in
    let k : Kept = record { ends = c.marks.inside.ends; starts = c.marks.inside.starts } in
    let M : Walk → Type 0 = λ x. IsMidway x hits c.args.marks.now in
    let N : Kept → Type 0 = λ x. IsMidway w hits x in
    let m = subst N (sym c.marks.view_is) (subst M (sym c.self.view_is) midway) in
    let R : Walk → Type 0 = λ x. IsReadyFor x c.args.marks.now in
    let S : Kept → Type 0 = λ x. IsReadyFor w x in
    let ready = subst S (sym c.marks.view_is) (subst R (sym c.self.view_is) c.requires.ready) in
    let more : 0 < w.starts.place = omega (arith, c.requires.more, ap (λ (x : Walk). x.starts.place) c.self.view_is) in
    let i = c.next-best.new.self.place in
    let e = c.next-near.new.self.place in
    let at : i ≡ w.starts.place - 1 = ap (λ (x : starts.Walk). x.place) c.next-best.ensures.walk in
    let end : e ≡ w.ends.place - 1 = ap (λ (x : ends.Walk). x.place) c.next-near.ensures.walk in
    let level : e ≡ i + w.atom = omega (arith, at, end, ready.level more, more) in
    let above : (a : ℕ) → IsAmong hits a → i < a = λ a h. omega (arith, at, more, m.inside a h) in
    let Hits : List ℕ = if c.args.hit then i ∷ hits else hits in
    let best = c.next-best.ensures.start m.told m.midway in
    let border : c.has_left_border.result ≡ has_left_border w.ends.border w.ends.file i =
    c.has_left_border.ensures ∙ ap (λ p. has_left_border c.self.inside.border c.self.inside.file.now p) c.place.ensures
    ∙ ap (λ b. has_left_border b c.self.inside.file.now i) c.self.invariant.0 ∙ ap (λ f. has_left_border w.ends.border f i) c.self.invariant.1
    in
    let B : Option ℕ → Type 0 = λ o. IsBestOf w.ends.greedy (IsCounted w Hits i) o in
    let here : IsBestOf w.ends.greedy (IsCounted w Hits i) c.if-has_left_border.result = elim c.if-has_left_border.branch [
      | then-has_left_border v ↦
          subst B (sym v.result-is)
          (best_span w i c.args.hit c.next-near.result.0 c.next-near.result.1 c.told_at-near.result.0 c.told_at-near.result.1 e level c.next-near.ensures.end c.next-near.ensures.beyond
          c.told_at-near.ensures.near c.told_at-near.ensures.far m.told hits m.are above ready.greedy c.next-best.result best (sym border ∙ v.if-has_left_border.true))
      | else-has_left_border v ↦
          subst B (sym v.result-is)
          (no_span w i c.args.hit c.next-near.result.0 c.next-near.result.1 c.told_at-near.result.0 c.told_at-near.result.1 e level c.next-near.ensures.end c.next-near.ensures.beyond
          c.told_at-near.ensures.near c.told_at-near.ensures.far m.told hits m.are above ready.greedy (λ yes_border. true≢false (sym yes_border ∙ sym border ∙ v.if-has_left_border.false)))
    ] in
    let W : Walk → Type 0 = λ x. IsBestOf x.ends.greedy (IsCounted x Hits i) c.if-has_left_border.result in subst W c.self.view_is here

pub returns-clause-midway : goal.returns-clause-midway
returns-clause-midway g c = λ hits midway.
    let w : Walk = record { ends = c.self.inside.ends; starts = c.self.inside.starts; atom = c.self.inside.atom } in
    let k : Kept = record { ends = c.marks.inside.ends; starts = c.marks.inside.starts } in
    let M : Walk → Type 0 = λ x. IsMidway x hits c.args.marks.now in
    let N : Kept → Type 0 = λ x. IsMidway w hits x in
    let m = subst N (sym c.marks.view_is) (subst M (sym c.self.view_is) midway) in
    let R : Walk → Type 0 = λ x. IsReadyFor x c.args.marks.now in
    let S : Kept → Type 0 = λ x. IsReadyFor w x in
    let ready = subst S (sym c.marks.view_is) (subst R (sym c.self.view_is) c.requires.ready) in
    let more : 0 < w.starts.place = omega (arith, c.requires.more, ap (λ (x : Walk). x.starts.place) c.self.view_is) in
    let i = c.next-best.new.self.place in
    let e = c.next-near.new.self.place in
    let at : i ≡ w.starts.place - 1 = ap (λ (x : starts.Walk). x.place) c.next-best.ensures.walk in
    let end : e ≡ w.ends.place - 1 = ap (λ (x : ends.Walk). x.place) c.next-near.ensures.walk in
    let level : e ≡ i + w.atom = omega (arith, at, end, ready.level more, more) in
    let above : (a : ℕ) → IsAmong hits a → i < a = λ a h. omega (arith, at, more, m.inside a h) in
    let Hits : List ℕ = if c.args.hit then i ∷ hits else hits in
    let t : starts.Told = record { at = i; near = c.told_at-near.result.0; far = c.told_at-near.result.1 } in
    let told =
    told_more w i c.args.hit c.next-near.result.0 c.next-near.result.1 c.told_at-near.result.0 c.told_at-near.result.1 e level c.next-near.ensures.end c.next-near.ensures.beyond
    c.told_at-near.ensures.near c.told_at-near.ensures.far m.told hits m.are above ready.greedy
    in
    record {
      told = t ∷ m.told;
      midway = c.next-best.ensures.midway m.told m.midway;
      are = moved_told w (w.ends.place - 1) c.next-near.new.self c.next-best.new.self (t ∷ m.told) Hits c.next-near.ensures.walk told;
      inside =
          still_inside w i c.args.hit c.next-near.result.0 c.next-near.result.1 c.told_at-near.result.0 c.told_at-near.result.1 e level c.next-near.ensures.end c.next-near.ensures.beyond
          c.told_at-near.ensures.near c.told_at-near.ensures.far m.told hits m.are above ready.greedy;
    }
