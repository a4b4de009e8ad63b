-- The walk over starts, place by place.
use Rattle.std.proofs.Common.{◌≡◌, ℕ, zero, suc, ◌+◌, ◌-◌, ◌<◌, ◌≤◌, ◌^◌, inl, inr, Bool, true, List, [], length, Option, Some, refl, sym, ap, ◌∙◌, subst, arith}
use Rattle.std.proofs.lemmas.Bool.{cases_lt}
use Rattle.yr_rows.specs.Moves.{AreWellformedMoves}
use Rattle.yr_rows.specs.Accepts.{ReadsBackwards, AcceptsBackwards}
use Rattle.yr_rows.specs.declared.moves.MoveRow.{MoveRow}
use Rattle.yr_moves.specs.Marked.{Shown}
use Rattle.yr_moves.specs.Passes.{Passes, AreBelow}
use Rattle.yr_moves.specs.Walks.{Stands, Walk, IsStart, IsMidway, IsBest, byte_before}
use Rattle.yr_moves.proofs.MemberLemmas.{Joins, no_member}
use Rattle.yr_moves.proofs.SearchLemmas.{Goes, stands_nothing, stands_begin, found_accepts, accepts_found, stands_on, ahead_backwards, falls}

-- the walk at another place
abbrev pub walk_at : Walk → ℕ → Walk
walk_at w place = record { moves = w.moves; sets = w.sets; file = w.file; at = w.at; place = place }

-- a program accepts from this place up to the walk's end
abbrev pub StartsAt : Walk → ℕ → Type 0
StartsAt w i = AcceptsBackwards w.moves w.sets w.file i w.at

-- at first the walk stands at its end, with move 0
pub midway_start : (moves : List MoveRow) (sets : List (List ℕ)) (file : List ℕ) (at : ℕ) (marks : Shown) → AreWellformedMoves moves sets → at ≤ length file → length file ≤ 2 ^ 28 →
    length moves ≤ marks.room → Joins [] marks.items 0 → AreBelow (length moves) marks.items → IsMidway (record { moves = moves; sets = sets; file = file; at = at; place = at + 1 }) marks
midway_start moves sets file at marks good inside small room j below =
    let read = ReadsBackwards file in
    let S : ℕ → Type 0 = λ i. Stands read moves sets file (λ a. a ≡ at) (λ o. o < at + 1) i marks.items in
    let same : at ≡ at + 1 - 1 = omega arith in
    record {
      wellformed = good;
      inside = inside;
      small = small;
      place = omega arith;
      room = room;
      below = below;
      stands = subst S same
          (stands_begin read moves sets file (λ a. ⊥) (λ a. a ≡ at) (λ o. o < at + 1) at [] marks.items (stands_nothing read moves sets file (λ o. o < at + 1) at) j (λ a b. absurd b) refl
          (λ a e. inr e));
    }

module _ (w : Walk) (marks : Shown) (i : ℕ) (byte : Option ℕ) (on : List ℕ) (found : Bool) (m : IsMidway w marks) (more : 0 < w.place) (here : i ≡ w.place - 1) (before : byte ≡ byte_before w.file i)
    (p : Passes w.moves w.sets w.file i byte marks.items on found) where
  stood : Stands (ReadsBackwards w.file) w.moves w.sets w.file (λ a. a ≡ w.at) (λ o. o < w.place) i marks.items
  stood = let S : ℕ → Type 0 = λ x. Stands (ReadsBackwards w.file) w.moves w.sets w.file (λ a. a ≡ w.at) (λ o. o < w.place) x marks.items in subst S (sym here) m.stands

  away : (b : ℕ) → byte ≡ Some b → (k q e : ℕ) → Goes (ReadsBackwards w.file) w.moves w.sets w.file k q (i - 1) e i → ⊥
  away b is k q e r = no_way i (sym before ∙ is) (falls w.moves w.sets w.file k q (i - 1) e i r)
    where
      no_way : (x : ℕ) → byte_before w.file x ≡ Some b → x ≤ x - 1 → ⊥
      no_way zero e le = cc
      no_way (suc x) e le = omega (arith, le)

  pub fall_found : StartsAt w i → found ≡ true
  fall_found acc =
      accepts_found (ReadsBackwards w.file) w.moves w.sets w.file (λ a. a ≡ w.at) (λ o. o < w.place) i byte (i - 1) marks.items on found stood p (ahead_backwards w.moves w.sets w.file i byte before)
      (omega (arith, here, more)) away w.at refl acc

  pub fall_accepts : found ≡ true → StartsAt w i
  fall_accepts e =
      let a = found_accepts (ReadsBackwards w.file) w.moves w.sets w.file (λ a. a ≡ w.at) (λ o. o < w.place) i byte (i - 1) marks.items on found stood p e in
      let A : ℕ → Type 0 = λ x. AcceptsBackwards w.moves w.sets w.file i x in subst A a.1 a.2

  pub fall_midway : (after : Shown) → after.items ≡ on → length w.moves ≤ after.room → AreBelow (length w.moves) on → IsMidway (walk_at w i) after
  fall_midway after is room below =
      let S : List ℕ → Type 0 = λ l. Stands (ReadsBackwards w.file) w.moves w.sets w.file (λ a. a ≡ w.at) (λ o. o < i) (i - 1) l in
      let B : List ℕ → Type 0 = λ l. AreBelow (length w.moves) l in
      record {
        wellformed = m.wellformed;
        inside = m.inside;
        small = m.small;
        place = omega (arith, m.place, here);
        room = room;
        below = subst B (sym is) below;
        stands = subst S (sym is)
            (stands_on (ReadsBackwards w.file) w.moves w.sets w.file (λ a. a ≡ w.at) (λ o. o < w.place) i byte (i - 1) marks.items on found stood p (ahead_backwards w.moves w.sets w.file i byte before) (λ o. o < i)
            (λ o lt. (omega (arith, lt, here), λ e. omega (arith, lt, e))));
      }

-- from one place of the walk to a lower one, with no start between
pub record Falling (w0 w : Walk) : Type 0 where
  pub same : w ≡ walk_at w0 w.place
  pub lower : w.place ≤ w0.place
  pub none : (i : ℕ) → StartsAt w0 i → w.place ≤ i → i < w0.place → ⊥

pub falling_start : (w0 : Walk) → Falling w0 w0
falling_start w0 = record { same = refl; lower = omega arith; none = λ i acc le lt. omega (arith, le, lt) }

pub falling_more : (w0 w w' : Walk) → Falling w0 w → 0 < w.place → w' ≡ walk_at w (w.place - 1) → (StartsAt w w'.place → ⊥) → Falling w0 w'
falling_more w0 w w' f more down no_start =
    let place : w'.place ≡ w.place - 1 = ap (λ (x : Walk). x.place) down in
    record {
      same = down ∙ ap (λ (x : Walk). walk_at x (w.place - 1)) f.same ∙ ap (walk_at w0) (sym place);
      lower = omega (arith, place, f.lower);
      none = λ i acc le lt. elim (cases_lt i w.place) [
        | inl below ↦
            let now : i ≡ w'.place = omega (arith, place, le, below) in
            let A : Walk → Type 0 = λ x. AcceptsBackwards x.moves x.sets x.file i x.at in
            let B : ℕ → Type 0 = λ x. StartsAt w x in
            no_start (subst B now (subst A (sym f.same) acc))
        | inr above ↦ f.none i acc above lt
      ];
    }

-- the place where the walk found a start is the greatest one
pub falling_best : (w0 w w' : Walk) → Falling w0 w → 0 < w.place → w' ≡ walk_at w (w.place - 1) → StartsAt w w'.place → IsBest true (IsStart w0) w'.place
falling_best w0 w w' f more down start =
    let place : w'.place ≡ w.place - 1 = ap (λ (x : Walk). x.place) down in
    let A : Walk → Type 0 = λ x. AcceptsBackwards x.moves x.sets x.file w'.place x.at in (
      (subst A f.same start, omega (arith, place, f.lower, more)),
      λ o s. elim (cases_lt w'.place o) [ inl lt ↦ absurd (f.none o s.0 (omega (arith, place, lt, more)) s.1) | inr le ↦ le ],
    )

-- no place is left, or no move stands any more
pub falling_none : (w0 w : Walk) → Falling w0 w → w.place ≡ 0 → (i : ℕ) → IsStart w0 i → ⊥
falling_none w0 w f end i s = f.none i s.0 (omega (arith, end)) s.1

pub falling_empty : (w0 w : Walk) (marks : Shown) → Falling w0 w → IsMidway w marks → length marks.items ≡ 0 → (i : ℕ) → IsStart w0 i → ⊥
falling_empty w0 w marks f m empty i s = elim (cases_lt i w.place) [
  | inl below ↦
      let A : Walk → Type 0 = λ x. AcceptsBackwards x.moves x.sets x.file i x.at in
      let c = m.stands.complete w.at i refl below (subst A (sym f.same) s.0) in no_member marks.items c.0 empty c.3
  | inr above ↦ f.none i s.0 above s.1
]

-- a walk that is done
pub midway_end : (w : Walk) (marks : Shown) → IsMidway w marks → length marks.items ≡ 0 → IsMidway (walk_at w 0) marks
midway_end w marks m empty = record {
  wellformed = m.wellformed;
  inside = m.inside;
  small = m.small;
  place = omega arith;
  room = m.room;
  below = m.below;
  stands = record { sound = λ x c. absurd (no_member marks.items x empty c); complete = λ a o b l acc. absurd (omega (arith, l)) };
}
