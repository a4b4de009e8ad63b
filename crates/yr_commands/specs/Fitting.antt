-- What the reading of words keeps of a command.
use Rattle.std.specs.Prelude.{◌≡◌, ℕ, ◌≤◌, List, length, map, All, None}
use Rattle.yr_rules.specs.Wellformed.{IsShortWord}
use Rattle.yr_words.specs.Values.{Given}
use Rattle.yr_words.specs.Commands.{Source, Command, Scan, ScanImage, Compile, Check, Work, givens_of}
use Rattle.yr_outcome.specs.Externals.{twice_given}

-- not too many rule files, in namespaces that are words
abbrev pub FitSources : List Source → Type 0
FitSources sources = (length sources ≤ 16) × All (λ s. IsShortWord s.space) sources

-- names that are words
abbrev pub FitNames : List Given → Type 0
FitNames givens = All (λ g. IsShortWord g.name) givens

-- a command whose parts fit
abbrev pub Fits : Command → Type 0
Fits (Scan flags sources target givens) = FitSources sources × FitNames givens
Fits (ScanImage flags image target givens) = Unit {0}
Fits (Compile sources output givens) = FitSources sources × FitNames givens
Fits (Check sources givens) = FitSources sources × FitNames givens
Fits (Work number size) = size ≤ 16777216
