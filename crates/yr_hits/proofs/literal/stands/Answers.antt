use Rattle.std.proofs.Common.{◌≡◌, ◌+◌, ◌≤◌, false, length, sym, subst, arith}
use Rattle.std.specs.List.{AllZip}
use Rattle.yr_base.specs.Bytes.{SameLetter}
use Rattle.yr_machine.specs.ImageMatches.{IsReadAs}
use Rattle.yr_hits.proofs.SideLemmas.{stands_room, stands_by_zip, zip_by_stands, stands_map, folded, keyed}
use Rattle.yr_hits.proofs.literal.stands.Goals as goal

pub returns-then-file-at : goal.returns-then-file-at
returns-then-file-at c = (
  λ e. absurd cc,
  λ h.
      let room = stands_room (IsReadAs c.args.key c.args.fold) c.args.file.now c.args.bytes.now c.args.at c.requires.place h in
      absurd (omega (arith, room)),
)

pub returns-then-fold : goal.returns-then-fold
returns-then-fold c =
    let file = c.args.file.now in
    let bytes = c.args.bytes.now in
    let room : c.args.at + length bytes ≤ length file = omega (arith, c.if-file-at.false, c.requires.place) in
    let R = IsReadAs c.args.key c.args.fold in
    let key : c.args.key ≡ 0 = c.requires.plain c.if-fold.true in (
      λ e. stands_map SameLetter R file bytes c.args.at (λ x y. (folded c.args.key c.args.fold x y c.if-fold.true key).0)
          (stands_by_zip SameLetter file bytes c.args.at room (subst (λ there. AllZip SameLetter there bytes) c.part-there.ensures (c.same_fold.ensures.0 e))),
      λ h. c.same_fold.ensures.1 (subst (λ there. AllZip SameLetter there bytes) (sym c.part-there.ensures)
          (zip_by_stands SameLetter file bytes c.args.at (stands_map R SameLetter file bytes c.args.at (λ x y. (folded c.args.key c.args.fold x y c.if-fold.true key).1) h))),
    )

pub returns : goal.returns
returns c =
    let file = c.args.file.now in
    let bytes = c.args.bytes.now in
    let room : c.args.at + length bytes ≤ length file = omega (arith, c.if-file-at.false, c.requires.place) in
    let R = IsReadAs c.args.key c.args.fold in
    let K = IsReadAs c.args.key false in (
      λ e. stands_map K R file bytes c.args.at (λ x y. (keyed c.args.key c.args.fold x y c.if-fold.false).0)
          (stands_by_zip K file bytes c.args.at room (subst (λ there. AllZip K there bytes) c.part-there.ensures (c.same_xor.ensures.0 e))),
      λ h. c.same_xor.ensures.1 (subst (λ there. AllZip K there bytes) (sym c.part-there.ensures)
          (zip_by_stands K file bytes c.args.at (stands_map R K file bytes c.args.at (λ x y. (keyed c.args.key c.args.fold x y c.if-fold.false).1) h))),
    )
