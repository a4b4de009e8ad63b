use Rattle.std.proofs.Common.{inl, inr, refl, arith}
use Rattle.yr_pattern.proofs.laws.hex_row.Goals as goal

pub returns : goal.returns
returns c = (
  1,
  (refl, omega arith, refl),
  (
    2,
    (refl, omega arith, refl),
    (
      6,
      inr (inl (
        3,
        (refl, omega arith, refl),
        (
          5,
          (2, omega arith, omega arith, (4, (refl, omega arith, refl), (5, (refl, omega arith, refl), refl))),
          (6, (refl, omega arith, refl), refl),
        ),
      )),
      refl,
    ),
  ),
)
