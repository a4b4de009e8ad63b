-- Lines that a row can say.
use Rattle.std.specs.Prelude.{List, [], ◌∷◌}
use Rattle.yr_image.specs.Sayable.{IsSayable}
use Rattle.yr_emission.specs.Parts.{Line, exactly, gives_text, asks}

abbrev pub LineIsSayable : Line → Type 0
LineIsSayable (exactly r) = IsSayable r
LineIsSayable (gives_text t) = Unit {0}
LineIsSayable (asks p) = Unit {0}

abbrev pub AreSayable : List Line → Type 0
AreSayable [] = Unit {0}
AreSayable (l ∷ ls) = LineIsSayable l × AreSayable ls
