use Rattle.std.proofs.Common.{◌≡◌, ◌<◌, ◌∷◌, [], ◌++◌, Some, None, inl, inr, refl, sym, ap, ◌∙◌, subst, arith, length, length-set}
use Rattle.std.specs.Prelude.{slice_get, slice_set}
use Rattle.std.proofs.lemmas.Option.{slice_get-get_or}
use Rattle.yr_walks.specs.declared.carried.Carried.{Carried}
use Rattle.yr_walks.specs.Carried.{Shown, Holds}
use Rattle.yr_walks.proofs.KeptLemmas.{kept_add, kept_room, front_add, kept_holds}
use Rattle.yr_walks.proofs.carried.EndList.add.Goals as goal

pub index_mut-requires : goal.index_mut-requires
index_mut-requires c =
    let ends = c.self.inside.ends.items in
    let lt : c.args.m < length ends = omega (arith, ap (λ (s : Shown). s.room) c.self.view_is, c.requires) in
    let at : slice_get ends c.args.m ≡ Some None = slice_get-get_or ends c.args.m c.index.result.now lt ∙ ap Some (sym c.index.ensures ∙ c.in-None.is) in
    omega (arith, kept_room c.self.inside.list.items c.self.inside.len ends c.args.m c.self.invariant at, c.self.inside.list.ok.0)

pub invariant_of-self : goal.invariant_of-self
invariant_of-self c =
    let ends = c.self.inside.ends.items in
    let lt : c.args.m < length ends = omega (arith, ap (λ (s : Shown). s.room) c.self.view_is, c.requires) in
    let at : slice_get ends c.args.m ≡ Some None = slice_get-get_or ends c.args.m c.index.result.now lt ∙ ap Some (sym c.index.ensures ∙ c.in-None.is) in
    kept_add c.self.inside.list.items c.self.inside.len ends c.args.m c.args.end c.self.invariant at

pub returns-in-None : goal.returns-in-None
returns-in-None c =
    let ends = c.self.inside.ends.items in
    let lt : c.args.m < length ends = omega (arith, ap (λ (s : Shown). s.room) c.self.view_is, c.requires) in
    let at : slice_get ends c.args.m ≡ Some None = slice_get-get_or ends c.args.m c.index.result.now lt ∙ ap Some (sym c.index.ensures ∙ c.in-None.is) in
    let room = kept_room c.self.inside.list.items c.self.inside.len ends c.args.m c.self.invariant at in
    let one : Carried = record { by = c.args.m; end = c.args.end } in
    let wide : length (slice_set ends c.args.m (Some c.args.end)) ≡ length ends = simp length-set in (
      wide ∙ ap (λ (s : Shown). s.room) c.self.view_is,
      inr (front_add c.self.inside.list.items c.self.inside.len one room ∙ ap (λ (s : Shown). s.items ++ one ∷ []) c.self.view_is),
    )

pub returns-in-Some : goal.returns-in-Some
returns-in-Some c =
    let ends = c.self.inside.ends.items in
    let lt : c.args.m < length ends = omega (arith, ap (λ (s : Shown). s.room) c.self.view_is, c.requires) in
    let at : slice_get ends c.args.m ≡ Some (Some c.in-Some.field-0) = slice_get-get_or ends c.args.m c.index.result.now lt ∙ ap Some (sym c.index.ensures ∙ c.in-Some.is) in
    let H : Shown → Type 0 = λ s. Holds s.items c.args.m c.in-Some.field-0 in
    (refl, inl (c.in-Some.field-0, subst H c.self.view_is (kept_holds c.self.inside.list.items c.self.inside.len ends c.args.m c.in-Some.field-0 c.self.invariant at), refl))
