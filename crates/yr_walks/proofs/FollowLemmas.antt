-- The arcs of a move, one after another.
use Rattle.std.proofs.Common.{◌≡◌, ℕ, ◌+◌, ◌*◌, ◌/◌, ◌<◌, ◌≤◌, ◌⊎◌, inl, inr, Bool, List, length, Option, Some, sym, ap, ◌∙◌, subst, arith}
use Rattle.std.specs.Prelude.{slice_get, option_and_then}
use Rattle.std.proofs.lemmas.Bool.{cases_lt}
use Rattle.yr_rows.specs.Moves.{move_at}
use Rattle.yr_rows.specs.declared.moves.MoveRow.{MoveRow}
use Rattle.yr_rows.specs.declared.moves.Move.{Move}
use Rattle.yr_walks.specs.declared.carried.Carried.{Carried}
use Rattle.yr_walks.specs.Carried.{Shown, Holds, Adds}
use Rattle.yr_walks.specs.Arcs.{Joins, Opens, HasChain, AreChained, head, tail, head_at}
use Rattle.yr_walks.specs.Spreads.{Grows, Follows, Spreads}
use Rattle.yr_walks.proofs.ChainLemmas.{chain_below, chain_next, chain_end}
use Rattle.yr_walks.proofs.HoldLemmas.{grows_same, grows_trans, grows_has, adds_grows, adds_has, adds_only}
use Rattle.yr_walks.proofs.JoinLemmas.{arc_joins, joins_arc}
use Rattle.yr_walks.proofs.ListLemmas.{same_or_not}

pub follows_add : (back : Bool) (n : ℕ) (sets : List (List ℕ)) (file : List ℕ) (i : ℕ) (byte : Option ℕ) (e : ℕ) (v : Move) (y end : ℕ) (old new : Shown) →
    Opens sets file i v byte → tail back n e v ≡ Some y → Adds old new y end → Follows back n sets file i byte e v end old.items new.items
follows_add back n sets file i byte e v y end old new o t a = record {
  grows = adds_grows old new y end a;
  came = λ z open' t'.
      let both : Some y ≡ Some z = sym t ∙ t' in
      let same : y ≡ z = cc both in
      let h = adds_has old new y end a in
      let H : ℕ → Type 0 = λ m. Holds new.items m h.0 in (h.0, subst H same h.1);
  only = λ z j h. elim (adds_only old new y end z j a h) [
    | inl was ↦ inl was
    | inr came ↦ inr (came.1, o, t ∙ ap Some came.0)
  ];
}

module _ (back : Bool) (moves : List MoveRow) (sets : List (List ℕ)) (file : List ℕ) (i : ℕ) (byte : Option ℕ) (x end : ℕ) (after : List ℕ) where
  -- the arcs from the link on are still to be followed
  pub record Following (link : ℕ) (start now : List Carried) : Type 0 where
    pub e : ℕ
    pub below : e ≤ 2 * length moves
    pub chain : HasChain (head_at back moves) after e link x
    pub grows : Grows end start now
    pub done : (f y : ℕ) (v : Move) → e ≤ f → f < 2 * length moves → move_at moves (f / 2) ≡ Some v → head back (length moves) f v ≡ Some x → tail back (length moves) f v ≡ Some y →
        Opens sets file i v byte → (o : ℕ) × Holds now y o
    pub only : (y o : ℕ) → Holds now y o → Holds start y o ⊎ ((o ≡ end) × Joins back moves sets file i byte x y)

  pub following_start : (first : List ℕ) (link : ℕ) (start : List Carried) → AreChained back moves (2 * length moves) first after → x ≤ length moves → slice_get first x ≡ Some link → Following link start start
  following_start first link start c le at =
      let o = c.chains x le in
      let both : Some o.0 ≡ Some link = sym o.1 ∙ at in
      let same : o.0 ≡ link = cc both in
      let C : ℕ → Type 0 = λ k. HasChain (head_at back moves) after (2 * length moves) k x in
      record {
        e = 2 * length moves;
        below = omega arith;
        chain = subst C same o.2;
        grows = grows_same end start;
        done = λ f y v le' lt at' h t op. absurd (omega (arith, le', lt));
        only = λ y o' h. inl h;
      }

  -- the next arc is one of the program
  pub following_arc : (link l : ℕ) (start now : List Carried) → Following link start now → link ≡ l + 1 → l < 2 * length moves
  following_arc link l start now w s = let n = chain_next (head_at back moves) after w.e link x l w.chain s in omega (arith, n.below, w.below)

  -- and the one after it comes before it
  pub following_falls : (link l next : ℕ) (start now : List Carried) → Following link start now → link ≡ l + 1 → slice_get after l ≡ Some next → next ≤ l
  following_falls link l next start now w s at =
      let n = chain_next (head_at back moves) after w.e link x l w.chain s in
      let both : Some n.next ≡ Some next = sym n.at ∙ at in
      let same : n.next ≡ next = cc both in omega (arith, same, chain_below (head_at back moves) after l n.next x n.chain)

  pub following_step : (link l next : ℕ) (v : Move) (start now now' : List Carried) → Following link start now → link ≡ l + 1 → slice_get after l ≡ Some next → move_at moves (l / 2) ≡ Some v →
      Follows back (length moves) sets file i byte l v end now now' → Following next start now'
  following_step link l next v start now now' w s at is f =
      let n = chain_next (head_at back moves) after w.e link x l w.chain s in
      let both : Some n.next ≡ Some next = sym n.at ∙ at in
      let same : n.next ≡ next = cc both in
      let C : ℕ → Type 0 = λ k. HasChain (head_at back moves) after l k x in
      let heads : head back (length moves) l v ≡ Some x = ap (option_and_then (head back (length moves) l)) (sym is) ∙ n.is in
      record {
        e = l;
        below = omega (arith, n.below, w.below);
        chain = subst C same n.chain;
        grows = grows_trans end start now now' w.grows f.grows;
        done = λ g y u le lt at' h t op. elim (same_or_not g l) [
          | inl here ↦
              let moved : Some u ≡ Some v = sym at' ∙ ap (λ k. move_at moves (k / 2)) here ∙ is in
              let one : u ≡ v = cc moved in
              let O : Move → Type 0 = λ m. Opens sets file i m byte in
              f.came y (subst O one op) (sym (ap (λ k. tail back (length moves) k v) here) ∙ sym (ap (tail back (length moves) g) one) ∙ t)
          | inr other ↦ elim (cases_lt g w.e) [
            | inl before ↦ absurd (n.none g (omega (arith, le, other)) before (ap (option_and_then (head back (length moves) g)) at' ∙ h))
            | inr from ↦ let o = w.done g y u from lt at' h t op in (o.0, grows_has end now now' y o.0 f.grows o.1)
          ]
        ];
        only = λ y o h. elim (f.only y o h) [
          | inl was ↦ w.only y o was
          | inr came ↦ inr (came.0, arc_joins moves sets file i back l x y v byte is heads came.2 came.1)
        ];
      }

  pub following_end : (link : ℕ) (start now : List Carried) → Following link start now → link ≡ 0 → Spreads back moves sets file i byte x end start now
  following_end link start now w none =
      let C : ℕ → Type 0 = λ k. HasChain (head_at back moves) after w.e k x in
      let over = subst C none w.chain in
      record {
        grows = w.grows;
        all = λ y j.
            let a = joins_arc moves sets file i back x y byte j in
            let arc = a.2 in
            elim (cases_lt a.0 w.e) [
              | inl before ↦ absurd (chain_end (head_at back moves) after w.e x over a.0 before (ap (option_and_then (head back (length moves) a.0)) arc.at ∙ arc.head))
              | inr from ↦ w.done a.0 y a.1 from arc.below arc.at arc.head arc.tail arc.opens
            ];
        only = w.only;
      }
