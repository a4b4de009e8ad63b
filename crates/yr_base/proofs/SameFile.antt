-- A file that is given the content that it has.
use Rattle.std.proofs.Common.{◌≡◌, ℕ, List, Bool, true, false, cond, Some, refl, sym, ap}
use Rattle.std.specs.Str.{bytes_eq}
use Rattle.std.proofs.lemmas.Slice.Eq.{bytes_eq-Decides}
use Rattle.yr_base.specs.Store.{Files}
use Rattle.yr_base.specs.Store.{with_file}

same_at : (files : Files) (name other : List ℕ) (b : Bool) → bytes_eq name other ≡ b → files other ≡ cond b (files name) (files other)
same_at files name other true e = ap files (sym ((bytes_eq-Decides name other).0 e))
same_at files name other false e = refl

pub same_file : (files : Files) (name : List ℕ) → Some files ≡ with_file (Some files) name (files name)
same_file files name = λ i. Some (λ other. same_at files name other (bytes_eq name other) refl i)
