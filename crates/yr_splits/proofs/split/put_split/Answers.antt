use Rattle.std.proofs.Common.{refl}
use Rattle.yr_image.specs.declared.rows.SplitRow.{SplitRow}
use Rattle.yr_atoms.specs.Coded.{split_of}
use Rattle.yr_splits.specs.Placed.{place}
use Rattle.yr_splits.proofs.FillLemmas.{split_put}
use Rattle.yr_splits.proofs.split.put_split.Goals as goal

pub returns : goal.returns
returns c =
    let s = c.args.split.now in
    let before = c.in_ok-before.before in
    let after = c.in_ok-after.after in
    let row : SplitRow = record {
      string = c.args.string;
      border = c.border_number.result;
      before_kind = before.kind;
      after_kind = after.kind;
      key = s.key;
      fold = c.one_if.result;
      atom_length = c.atom_length.result;
      before_place = before.place;
      before_length = before.length;
      after_place = after.place;
      after_length = after.length;
    } in
    split_put c.args.draft.now c.put_side.new.draft c.put_side-2.new.draft c.put_split.new.self (place c.args.string c.args.border (split_of s)) row
    c.in_ok-before.ensures c.in_ok-after.ensures c.in_ok-put_split.ensures refl c.border_number.ensures refl c.one_if.ensures c.atom_length.ensures
