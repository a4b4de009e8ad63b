use Rattle.std.proofs.Common.{◌+◌, ◌*◌, ◌≤◌, ℕ, List, OnOk, Contains, length, sym, ap, subst, arith}
use Rattle.yr_image.specs.Image.{Image}
use Rattle.yr_image.specs.Views.{shown_bytes, image_of}
use Rattle.yr_machine.specs.Budget.{hit_cost}
use Rattle.yr_hits.specs.Gathering.{Grows}
use Rattle.yr_hits.specs.Programs.{HasRoom}
use Rattle.yr_hits.specs.Spans.{IsSpanOfSome}
use Rattle.yr_hits.proofs.GrowLemmas.{on_ok}
use Rattle.yr_hits.proofs.SweepSplitLemmas.{sweeps_none, sweeps_by, cost_as}
use Rattle.yr_hits.proofs.sweeping.sweep.Goals as goal

pub returns-then-count-eq0-clause-sweeps : goal.returns-then-count-eq0-clause-sweeps
returns-then-count-eq0-clause-sweeps g c =
    sweeps_none (shown_bytes c.args.view.now) c.args.file.now c.args.split c.args.hits.items c.args.list.now.items c.requires.wellformed c.requires.split
    (omega (arith, c.if-count-eq0.true, c.len-count.ensures))

pub first_of-first-requires : goal.first_of-first-requires
first_of-first-requires g c = omega (arith, c.if-count-eq0.false, c.len-count.ensures, ap length c.as_slice-all.ensures.value)

pub hit_of-hit-requires-clause-at : goal.hit_of-hit-requires-clause-at
hit_of-hit-requires-clause-at g c =
    (c.requires.hits c.first_of-first.result (subst (λ l. Contains l c.first_of-first.result) c.as_slice-all.ensures.value c.first_of-first.ensures)).0

pub hit_of-hit-requires-clause-atom : goal.hit_of-hit-requires-clause-atom
hit_of-hit-requires-clause-atom g c =
    (c.requires.hits c.first_of-first.result (subst (λ l. Contains l c.first_of-first.result) c.as_slice-all.ensures.value c.first_of-first.ensures)).1

pub sweep_split-requires-clause-hits : goal.sweep_split-requires-clause-hits
sweep_split-requires-clause-hits g c = λ e h.
    let hit = c.hit_of-hit.result in
    let inside = c.requires.hits e h in
    (subst (λ f. e ≤ length f) (sym c.hit_of-hit.ensures.file) inside.0, inside.1 hit.row c.hit_of-hit.ensures.row)

pub sweep_split-requires-clause-room : goal.sweep_split-requires-clause-room
sweep_split-requires-clause-room g c = subst (λ v. HasRoom (image_of v) c.args.marks.now.room) (sym c.hit_of-hit.ensures.view) c.requires.room

pub returns-clause-sweeps : goal.returns-clause-sweeps
returns-clause-sweeps g c =
    let hit = c.hit_of-hit.result in
    let hits = c.args.hits.items in
    let a = c.args.list.now.items in
    let b = c.sweep_split.new.list.items in
    let G : Image → List ℕ → Type 0 = λ image file. Grows (IsSpanOfSome image file hit.row hits) hit.greatest a b in
    let first = subst (λ v. OnOk c.sweep_split.result (G (image_of v) hit.file.now)) c.hit_of-hit.ensures.view c.sweep_split.ensures.grows in
    let both = subst (λ f. OnOk c.sweep_split.result (G (image_of c.args.view.now) f)) c.hit_of-hit.ensures.file first in
    on_ok c.sweep_split.result
    (sweeps_by (shown_bytes c.args.view.now) c.args.file.now c.args.split hits hit.row hit.greatest a b c.requires.wellformed c.hit_of-hit.ensures.row c.hit_of-hit.ensures.greatest) both

pub returns-clause-most_cost : goal.returns-clause-most_cost
returns-clause-most_cost g c =
    let hit = c.hit_of-hit.result in
    let count = length c.args.hits.items in
    let first = subst (λ v. c.sweep_split.new.steps + count ≤ c.args.steps.now + hit_cost (image_of v) (length hit.file.now) hit.row * count) c.hit_of-hit.ensures.view c.sweep_split.ensures.most_cost in
    let both = subst (λ f. c.sweep_split.new.steps + count ≤ c.args.steps.now + hit_cost (image_of c.args.view.now) (length f) hit.row * count) c.hit_of-hit.ensures.file first in
    cost_as (image_of c.args.view.now) (length c.args.file.now) c.args.split hit.row count c.args.steps.now c.sweep_split.new.steps c.hit_of-hit.ensures.row both
