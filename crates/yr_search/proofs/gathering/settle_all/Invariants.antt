use Rattle.std.proofs.Common.{◌≡◌, ℕ, ◌<◌, ◌≤◌, length, Some}
use Rattle.std.specs.Prelude.{slice_get, Vec}
use Rattle.std.specs.declared.alloc.Global.{Global}
use Rattle.yr_answer.specs.MatchList.{Match}
use Rattle.yr_image.specs.declared.rows.StringRow.{StringRow}
use Rattle.yr_image.specs.Views.{image_of}
use Rattle.yr_machine.specs.ImageMatches.{is_greatest}
use Rattle.yr_hits.specs.Gathering.{IsSettled}
use Rattle.yr_search.proofs.gathering.settle_all.Given as goal

abbrev pub invariant-loop-k : goal.invariant-loop-k
invariant-loop-k l = record {
  long : length l.lists.items ≡ length l.fn.lists.items;
  done : (j : ℕ) (string : StringRow) (v w : Vec Match Global) → j < l.k → slice_get (image_of l.scene.view.now).strings j ≡ Some string
      → slice_get l.fn.lists.items j ≡ Some v → slice_get l.lists.items j ≡ Some w → IsSettled (is_greatest (image_of l.scene.view.now) l.scene.file.now string) v.items w.items;
  rest : (j : ℕ) (w : Vec Match Global) → l.k ≤ j → slice_get l.lists.items j ≡ Some w → slice_get l.fn.lists.items j ≡ Some w;
}
