-- What is gathered while hits come, as plain lists, and what the hits that are left for later may cost.
use Rattle.std.specs.Prelude.{◌≡◌, ℕ, ◌+◌, ◌-◌, ◌*◌, List, [], ◌∷◌, length, map, Some, slice_get, Vec}
use Rattle.std.specs.declared.alloc.Global.{Global}
use Rattle.yr_answer.specs.MatchList.{Match}
use Rattle.yr_image.specs.Image.{Image}
use Rattle.yr_machine.specs.Budget.{output_cost}
use Rattle.yr_answer.specs.Found.{items_of}
use Rattle.yr_hits.specs.Sweeps.{AreHitsOf}
use Rattle.yr_search.specs.declared.gathered.Gathered.{Gathered}

-- the match list of each string, and for each split the hits that are left for later
pub record State : Type 0 where
  pub lists : List (List Match)
  pub later : List (List ℕ)

-- the hits that vectors hold
abbrev pub hits_in : List (Vec ℕ Global) → List (List ℕ)
hits_in later = map (λ v. v.items) later

abbrev pub state_of : Gathered → State
state_of gathered = record { lists = items_of gathered.lists.items; later = hits_in gathered.later.items }

-- the hits that are left for later lie in the file, each behind a whole atom of its split
abbrev pub AreInFile : Image → List ℕ → List (List ℕ) → Type 0
AreInFile image file later = (split : ℕ) (hits : List ℕ) → slice_get later split ≡ Some hits → AreHitsOf image file split hits

-- there is a place for each string and each split
pub record IsFor (image : Image) (file : List ℕ) (gathered : Gathered) : Type 0 where
  pub lists : length gathered.lists.items ≡ length image.strings
  pub later : length gathered.later.items ≡ length image.splits
  pub spent : length gathered.spent.items ≡ length image.splits
  pub inside : AreInFile image file (hits_in gathered.later.items)

-- nothing is gathered yet
pub record IsEmpty (image : Image) (state : State) : Type 0 where
  pub count : length state.lists ≡ length image.strings
  pub lists : (k : ℕ) (list : List Match) → slice_get state.lists k ≡ Some list → list ≡ []
  pub later : (k : ℕ) (hits : List ℕ) → slice_get state.later k ≡ Some hits → hits ≡ []

-- what the hits of splits from the first one on may cost, where a function gives what a hit of a split may cost
abbrev pub owed_by : (ℕ → ℕ) → (first : ℕ) → List (List ℕ) → ℕ
owed_by f first [] = 0
owed_by f first (hits ∷ later) = length hits * f first + owed_by f (first + 1) later

-- what a hit of a split may cost beside the step that it took as it came
abbrev pub cost_later : Image → (n split : ℕ) → ℕ
cost_later image n split = output_cost image n split - 1

-- what the hits that are left for later may cost in a file of n bytes
abbrev pub owed : Image → (n : ℕ) → State → ℕ
owed image n state = owed_by (cost_later image n) 0 state.later
