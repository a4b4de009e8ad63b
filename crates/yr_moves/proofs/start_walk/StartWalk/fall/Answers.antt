use Rattle.std.proofs.Common.{◌<◌, ◌≤◌, ◌-◌, length, refl, sym, ap, subst, arith}
use Rattle.yr_rows.specs.Accepts.{AcceptsBackwards}
use Rattle.yr_moves.specs.Marked.{Shown}
use Rattle.yr_moves.specs.Programs.{moves_of, sets_of}
use Rattle.yr_moves.specs.Walks.{Walk, IsMidway}
use Rattle.yr_moves.specs.declared.start_walk.StartWalk.TheInside.{Inside}
use Rattle.yr_moves.proofs.WalkLemmas.{fall_found, fall_accepts, fall_midway}
use Rattle.yr_moves.proofs.start_walk.StartWalk.fall.Goals as goal

-- what a walk's fields show
abbrev walk_of : Inside → Walk
walk_of w = record { moves = moves_of w.rows; sets = sets_of w.rows; file = w.file.now; at = w.at; place = w.place }

pub pass-found-requires-clause-wellformed : goal.pass-found-requires-clause-wellformed
pass-found-requires-clause-wellformed g c =
    let M : Walk → Type 0 = λ x. IsMidway x c.args.now.now in
    let m : IsMidway (walk_of c.self.inside) c.args.now.now = subst M (sym c.self.view_is) c.requires.midway in m.wellformed

pub pass-found-requires-clause-below : goal.pass-found-requires-clause-below
pass-found-requires-clause-below g c =
    let M : Walk → Type 0 = λ x. IsMidway x c.args.now.now in
    let m : IsMidway (walk_of c.self.inside) c.args.now.now = subst M (sym c.self.view_is) c.requires.midway in m.below

pub returns-clause-midway : goal.returns-clause-midway
returns-clause-midway g c =
    let w = walk_of c.self.inside in
    let M : Walk → Type 0 = λ x. IsMidway x c.args.now.now in
    let m : IsMidway (walk_of c.self.inside) c.args.now.now = subst M (sym c.self.view_is) c.requires.midway in
    let more : 0 < w.place = omega (arith, c.requires.more, ap (λ (x : Walk). x.place) c.self.view_is) in
    let room : length w.moves ≤ c.swap.new.x.room = omega (arith, m.room, c.requires.room, c.pass-found.ensures.room.1, ap (λ (x : Shown). x.room) c.swap.ensures.x_after) in
    fall_midway w c.args.now.now (c.self.inside.place - 1) c.byte_before-byte.result c.pass-found.new.onwards.items c.pass-found.result m more refl c.byte_before-byte.ensures c.pass-found.ensures.passes
    c.swap.new.x (ap (λ (x : Shown). x.items) c.swap.ensures.x_after) room c.pass-found.ensures.below

pub returns-clause-start : goal.returns-clause-start
returns-clause-start g c =
    let w = walk_of c.self.inside in
    let M : Walk → Type 0 = λ x. IsMidway x c.args.now.now in
    let m : IsMidway (walk_of c.self.inside) c.args.now.now = subst M (sym c.self.view_is) c.requires.midway in
    let more : 0 < w.place = omega (arith, c.requires.more, ap (λ (x : Walk). x.place) c.self.view_is) in
    let i = c.self.inside.place - 1 in
    let A : Walk → Type 0 = λ x. AcceptsBackwards x.moves x.sets x.file (c.self.inside.place - 1) x.at in (
      λ e. subst A c.self.view_is
          (fall_accepts w c.args.now.now i c.byte_before-byte.result c.pass-found.new.onwards.items c.pass-found.result m more refl c.byte_before-byte.ensures c.pass-found.ensures.passes e),
      λ a. fall_found w c.args.now.now i c.byte_before-byte.result c.pass-found.new.onwards.items c.pass-found.result m more refl c.byte_before-byte.ensures c.pass-found.ensures.passes
          (subst A (sym c.self.view_is) a),
    )
