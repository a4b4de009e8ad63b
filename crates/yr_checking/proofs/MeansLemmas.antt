-- What an item of a set means among names.
use Rattle.std.proofs.Common.{◌≡◌, Bool, true, false, List}
use Rattle.std.specs.List.{list_any}
use Rattle.yr_name_tables.specs.Names.{Name, has, means, means_some}

pub means_whole : (item : Name) (wild : Bool) (all : List Name) (r : Bool) → wild ≡ false → r ≡ has item all → r ≡ means_some item wild all
unfolding means_some
means_whole item false all r e h = h
means_whole item true all r e h = absurd cc

pub means_front : (item : Name) (wild : Bool) (all : List Name) (r : Bool) → wild ≡ true → r ≡ list_any (means item true) all → r ≡ means_some item wild all
unfolding means_some
means_front item true all r e h = h
means_front item false all r e h = absurd cc
