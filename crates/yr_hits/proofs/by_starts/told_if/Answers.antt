use Rattle.std.proofs.Common.{◌≢◌, sym, subst}
use Rattle.yr_image.specs.Views.{image_of}
use Rattle.yr_hits.specs.declared.hit.Hit.{Hit}
use Rattle.yr_hits.specs.Programs.{HasRoom}
use Rattle.yr_hits.specs.Spans.{IsGoodHit}
use Rattle.yr_hits.specs.Walks.{AreTold}
use Rattle.yr_hits.proofs.SweepLemmas.{good_after}
use Rattle.yr_hits.proofs.by_starts.told_if.Goals as goal

pub ends_told-requires-clause-good : goal.ends_told-requires-clause-good
ends_told-requires-clause-good g c = subst IsGoodHit (sym c.moved.ensures) (good_after c.args.hit.now c.requires.good c.args.at c.requires.inside)

pub ends_told-requires-clause-kind : goal.ends_told-requires-clause-kind
ends_told-requires-clause-kind g c = subst (λ (h : Hit). h.row.after_kind ≢ 2) (sym c.moved.ensures) c.requires.kind

pub ends_told-requires-clause-room : goal.ends_told-requires-clause-room
ends_told-requires-clause-room g c = subst (λ (h : Hit). HasRoom (image_of h.view.now) c.args.marks.now.room) (sym c.moved.ensures) c.requires.room

pub returns-then-there-clause-told : goal.returns-then-there-clause-told
returns-then-there-clause-told g c = λ there. subst (λ (h : Hit). AreTold h c.ends_told.result) c.moved.ensures c.ends_told.ensures.told
