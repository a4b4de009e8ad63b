use Rattle.std.proofs.Common.{◌≡◌, ◌<◌, ◌∷◌, [], ◌++◌, Contains, Some, true, inl, inr, refl, sym, ap, ◌∙◌, subst, arith, length, length-set}
use Rattle.std.specs.Prelude.{slice_set}
use Rattle.std.proofs.lemmas.Option.{slice_get-get_or}
use Rattle.yr_moves.specs.Marked.{Shown}
use Rattle.yr_moves.proofs.MarkLemmas.{kept_add, kept_room, front_add}
use Rattle.yr_moves.proofs.marks.MoveSet.add.Goals as goal

pub index_mut-requires : goal.index_mut-requires
index_mut-requires c =
    let lt : c.args.m < length c.self.inside.seen.items = omega (arith, ap (λ (s : Shown). s.room) c.self.view_is, c.requires) in
    omega (arith, kept_room c.self.inside.list.items c.self.inside.len c.self.inside.seen.items c.args.m c.index.result.now c.self.invariant lt (sym c.index.ensures ∙ c.if-not-index.true), c.self.inside.list.ok.0)

pub invariant_of-self : goal.invariant_of-self
invariant_of-self c =
    kept_add c.self.inside.list.items c.self.inside.len c.self.inside.seen.items c.args.m c.index.result.now c.self.invariant
    (omega (arith, ap (λ (s : Shown). s.room) c.self.view_is, c.requires)) (sym c.index.ensures ∙ c.if-not-index.true)

pub returns-then-not-index : goal.returns-then-not-index
returns-then-not-index c =
    let lt : c.args.m < length c.self.inside.seen.items = omega (arith, ap (λ (s : Shown). s.room) c.self.view_is, c.requires) in
    let room = kept_room c.self.inside.list.items c.self.inside.len c.self.inside.seen.items c.args.m c.index.result.now c.self.invariant lt (sym c.index.ensures ∙ c.if-not-index.true) in
    let wide : length (slice_set c.self.inside.seen.items c.args.m true) ≡ length c.self.inside.seen.items = simp length-set in (
      wide ∙ ap (λ (s : Shown). s.room) c.self.view_is,
      inr (front_add c.self.inside.list.items c.self.inside.len c.args.m room ∙ ap (λ (s : Shown). s.items ++ c.args.m ∷ []) c.self.view_is),
    )

pub returns-else-not-index : goal.returns-else-not-index
returns-else-not-index c =
    let lt : c.args.m < length c.self.inside.seen.items = omega (arith, ap (λ (s : Shown). s.room) c.self.view_is, c.requires) in
    let marked = slice_get-get_or c.self.inside.seen.items c.args.m c.index.result.now lt ∙ ap Some (sym c.index.ensures ∙ c.if-not-index.false) in
    let C : Shown → Type 0 = λ s. Contains s.items c.args.m in
    (refl, inl (subst C c.self.view_is (c.self.invariant.marked c.args.m marked), refl))
