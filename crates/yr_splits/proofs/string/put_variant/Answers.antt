use Rattle.std.proofs.Common.{◌≡◌, ℕ, List, [], ◌∷◌, ◌++◌, length, map, sym, subst, ap}
use Rattle.yr_pattern.specs.Variants.{variant_of}
use Rattle.yr_atoms.specs.Splits.{Split}
use Rattle.yr_atoms.specs.Covers.{Covers, HaveAtomsOf}
use Rattle.yr_atoms.specs.Pieces.{HaveItsPieces}
use Rattle.yr_atoms.specs.Coded.{split_of, word}
use Rattle.yr_splits.specs.Placed.{place_all}
use Rattle.yr_splits.specs.Filling.{PutsSplits, FilledPart}
use Rattle.yr_splits.proofs.FillLemmas.{filled_more}
use Rattle.yr_splits.proofs.string.put_variant.Goals as goal

pub returns : goal.returns
returns c = λ start placed strings variants count f.
    let v = variant_of c.args.v.now in
    let splits : List Split = map split_of c.deref.result.now in
    let same : map split_of c.in_ok-splits.splits.items ≡ splits = ap (map split_of) (sym c.deref.ensures.value) in
    let made = c.in_ok-splits.ensures in
    let P : ℕ → Type 0 = λ n. PutsSplits c.args.draft.now c.put_splits.new.draft (place_all n v.border splits) in
    let Q : List (List ℕ) → Type 0 = λ a. FilledPart start c.put_splits.new.draft (placed ++ place_all (length strings) v.border splits) strings (variants ++ v ∷ []) a in (
      place_all (length strings) v.border splits,
      subst Q (sym c.in_ok-put_splits.ensures.atoms)
          (filled_more start c.args.draft.now c.put_splits.new.draft placed strings variants (map word c.args.atoms.now.items) v splits c.requires
          (subst (Covers v.body) same made.covers) (subst (HaveAtomsOf v.body) same made.atoms) (subst (HaveItsPieces v.body) same made.pieces)
          (subst P (sym count) c.in_ok-put_splits.ensures.splits) f),
    )
