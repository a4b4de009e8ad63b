use Rattle.std.proofs.Common.{ℕ, List, IsTrue, subst}
use Rattle.std.specs.List.{Contains}
use Rattle.yr_lanes.specs.Members.{in_members, members_of}
use Rattle.yr_lanes.specs.NextPlace.{IsNextPlace}
use Rattle.yr_lanes.proofs.SetLemmas.{members_pass, passing_are_members, IsNextPlace-same}
use Rattle.yr_lanes.proofs.skip_set.SkipSet.find_from.Goals as goal

pub returns : goal.returns
returns c =
    let members = c.self.inside.members in
    let test = in_members members in
    let place = c.find_from.result in
    let NextIn : List ℕ → Type 0 = λ set. IsNextPlace (Contains set) c.args.file.now c.args.from place in
    subst NextIn c.self.view_is
    (IsNextPlace-same (λ b. IsTrue (test b)) (Contains (members_of members)) c.args.file.now c.args.from place c.type_inv.file (members_pass test) (passing_are_members test) c.find_from.ensures)
