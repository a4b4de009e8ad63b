-- What a search answers.
use Rattle.std.specs.Prelude.{◌≡◌, ℕ, ◌+◌, ◌*◌, List, length, Some, slice_get, Vec}
use Rattle.std.specs.declared.alloc.Global.{Global}
use Rattle.yr_answer.specs.MatchList.{Match}
use Rattle.yr_image.specs.declared.rows.StringRow.{StringRow}
use Rattle.yr_image.specs.Image.{Image}
use Rattle.yr_machine.specs.Hits.{AreHits, hit_count}
use Rattle.yr_machine.specs.ImageMatches.{AreImageMatches, is_greatest}
use Rattle.yr_answer.specs.Found.{Found}
use Rattle.yr_hits.specs.Gathering.{IsSettled, AreShort}
use Rattle.yr_search.specs.State.{State}
use Rattle.yr_search.specs.Taking.{TakesFronts}
use Rattle.yr_search.specs.Uppers.{own}
use Rattle.yr_search.specs.Walked.{Walked, root_fronts}

-- the match lists that the image has in the file, and the number of its hits
pub record IsFoundIn (image : Image) (file : List ℕ) (found : Found) : Type 0 where
  pub hits : List (List ℕ)
  pub are : AreHits image file hits
  pub counted : found.hits ≡ hit_count hits
  pub lists : AreImageMatches image file hits found.lists

-- all hits are taken: first those of node 0 after each front, then the others
pub record AreTaken (image : Image) (file : List ℕ) (old new : State) (count : ℕ) : Type 0 where
  pub mid : State
  pub root : TakesFronts image file 0 (root_fronts image file) old mid
  pub others : ℕ
  pub walked : Walked image file (length file) mid new others
  pub counted : count ≡ (length file + 1) * length (own image 0) + others

-- each list is settled
abbrev pub AreSettled : Image → List ℕ → List (Vec Match Global) → List (Vec Match Global) → Type 0
AreSettled image file old new = (k : ℕ) (string : StringRow) (v w : Vec Match Global) → slice_get image.strings k ≡ Some string
    → slice_get old k ≡ Some v → slice_get new k ≡ Some w → IsSettled (is_greatest image file string) v.items w.items

-- the lengths in each list are short
abbrev pub AreAllShort : List (Vec Match Global) → Type 0
AreAllShort lists = (k : ℕ) (v : Vec Match Global) → slice_get lists k ≡ Some v → AreShort v.items
