-- What is read is in the grammar.
use Rattle.std.proofs.Common.{◌≡◌, ℕ, zero, suc, Bool, true, false, List, [], ◌∷◌, length, Option, Some, None, if◌then◌else◌, refl, sym, subst, ap, ◌∙◌}
use Rattle.yr_syntax.specs.declared.operator.Infix.{Infix}
use Rattle.yr_syntax.specs.declared.operator.Infix.TheVariants as op
use Rattle.yr_syntax.specs.declared.operator.PrefixOp.TheVariants as prefix
use Rattle.yr_syntax.specs.declared.operator.Reader.{Reader}
use Rattle.yr_syntax.specs.Condition.{Condition, Where, Asked, Domain, Bounds, SetTree, OneLink, OneStep, links_of, items_of, steps_of}
use Rattle.yr_syntax.specs.Condition as tree
use Rattle.yr_parser.specs.declared.sign.Sign.{Sign as SignType}
use Rattle.yr_parser.specs.declared.sign.Sign.TheVariants as sign
use Rattle.yr_parser.specs.declared.level.Level.{Level}
use Rattle.yr_parser.specs.declared.level.Level.TheVariants.{Or, And, Equal, Rel, Bits, Bxor, Band, Shift, Sum, Prod}
use Rattle.yr_parser.specs.declared.level.Entry.{Entry}
use Rattle.yr_parser.specs.declared.level.Entry.TheVariants as entry
use Rattle.yr_parser.specs.Terminals.{Terminals, Word, Number, Text, Regex, StringName, CountName, PlaceName, LengthName, Read, Flag, Operator, Sign}
use Rattle.yr_parser.specs.Levels.{Part, level, not, test, unary, primary, level_of, operand, repeats}
use Rattle.yr_parser.specs.Conditions.{one_link, Sets, Reads, one, chain, pair, matches, negated, is_defined, plain, found, of, for_of, for_in, compared, minus, flip, bare, brackets, number, text, truth, file_size, reads, count, count_in, offset, offset_at, len, len_at, path, Links, last, next, Counts, every, some, none, at_least, Quants, counts, percent, Places, anywhere, at, within, Ranges, from_to, Overs, over_range, over_list, over_path, ReadsItems, one_item, item_then, ReadsSteps, no_step, name_step, index_step, empty_call, call_step}
use Rattle.yr_parser.specs.Input.{Parser, and_then, ◌>>=◌, ◌<$>◌, pure, tail, sees, eat, expect, many}
use Rattle.yr_parser.specs.Reading as reading
use Rattle.yr_parser.specs.Reading.{no_more, joins_at, link_by, next_link, chain_of, level_from, pair_of, pair_from, matches_from, regex_at, prefix_by, prefix_at, negates_at, count_at, string_at, sees_operator, sees_percent_of, same_level, read_word, read_set, read_closed, range_from, read_range, next_item, items_from, read_items, read_call, read_index, read_field, step_other, step_index, next_step, path_from, read_reader, count_from, offset_from, length_from, read_path, primary_sign, primary_name, read_primary, read_unary, read_bits, read_rel, rel_from, equal_rest, equal_from, place_at, place_in, read_place, found_from, of_from, read_count, read_body, over_from, over_brackets, read_over, for_of_from, for_in_from, read_for, percent_from, percent_by, test_from, test_count, test_other, read_test, read_not, read_and, read_or, read_entry, cond_at}
use Rattle.yr_parser.proofs.Outcomes.{bind-some, some_is, done, guarded, same_level-true, sees-true, sees_operator-true, expect-then, eat-then, expect-end, Chain, nothing, onward, many-chain}
use Rattle.yr_parser.proofs.SetSound.{some_some, no_some, no_none, none_rest, Comma, comma, comma-reads, comma-stops, set-sound}

-- the parser reads what the part spells
abbrev pub IsSound : Part → Parser Condition → Type 0
IsSound p parser = (k : Terminals) (x : Condition × Terminals) → parser k ≡ Some x → Reads p k x.0 x.1

-- what stands between brackets
abbrev pub entry_part : Entry → Part
entry_part entry.Or = level Or
entry_part entry.Bits = level Bits

word-some : (k : Terminals) (x : List ℕ × Terminals) → read_word k ≡ Some x → k ≡ Word x.0 ∷ x.1
unfolding read_word
word-some [] x e = absurd cc
word-some (Word w ∷ k) x e = done (λ v t. Word w ∷ k ≡ Word v ∷ t) w k x e refl
word-some (_ ∷ k) x e = absurd cc

pub word-then : {A : Type 0} (f : List ℕ → Parser A) (x : A × Terminals) (Q : Terminals → Type 0) → ((w : List ℕ) (rest : Terminals) → f w rest ≡ Some x → Q (Word w ∷ rest))
    → (k : Terminals) → and_then (read_word k) f ≡ Some x → Q k
word-then f x Q go k e = let a = bind-some (read_word k) f x e in subst Q (sym (word-some k a.0 a.1)) (go a.0.0 a.0.1 a.2)

-- ---- levels

joins_at-some : (l : Level) (k : Terminals) (o : Infix) → joins_at l k ≡ Some o → (level_of o ≡ l) × (k ≡ Operator o ∷ tail k)
unfolding joins_at
joins_at-some l [] o e = absurd cc
joins_at-some l (Operator p ∷ k) o e =
    let h = guarded (same_level (level_of p) l) (Some p) o e in
    let same : p ≡ o = cc in
    (subst (λ (i : Infix). level_of i ≡ l) same (same_level-true (level_of p) l h.0), ap (λ i. Operator i ∷ k) same)
joins_at-some l (_ ∷ k) o e = absurd cc

-- one operator of a level with its operand
data LinkOne (l : Level) : Terminals → OneLink → Terminals → Type 0 where
  linked : {o : Infix} {k rest : Terminals} {c : Condition} → level_of o ≡ l → Reads (operand l) k c rest → LinkOne l (Operator o ∷ k) (one_link o c) rest

join_links : {l : Level} {k mid rest : Terminals} {x : OneLink} {xs : List OneLink} → LinkOne l k x mid → Chain (LinkOne l) mid xs rest → Links l k (x ∷ xs) rest
join_links (linked e r) nothing = last e r
join_links (linked e r) (onward i c) = next e r (join_links i c)

module _ (l : Level) (p : Parser Condition) (sound : IsSound (operand l) p) where
  link_by-reads : (k mid : Terminals) (a : OneLink) (j : Option Infix) → joins_at l k ≡ j → link_by p j k ≡ Some (Some a, mid) → LinkOne l k a mid
  link_by-reads k mid a None is e = no_some a k mid (LinkOne l k a mid) e
  link_by-reads k mid a (Some o) is e =
      let b = bind-some (p (tail k)) (λ c. pure (Some (one_link o c))) (Some a, mid) e in
      let s = some_some (one_link o b.0.0) a b.0.1 mid b.2 in
      let j = joins_at-some l k o is in
      subst (λ (y : OneLink). LinkOne l k y mid) s.0
      (subst (λ (t : Terminals). LinkOne l k (one_link o b.0.0) t) s.1
      (subst (λ (t : Terminals). LinkOne l t (one_link o b.0.0) b.0.1) (sym j.1) (linked j.0 (sound (tail k) b.0 b.1))))

  link_by-stops : (k mid : Terminals) (j : Option Infix) → link_by p j k ≡ Some (None, mid) → k ≡ mid
  link_by-stops k mid None e = none_rest k mid e
  link_by-stops k mid (Some o) e =
      let b = bind-some (p (tail k)) (λ c. pure (Some (one_link o c))) (None, mid) e in no_none (one_link o b.0.0) b.0.1 mid _ b.2

  link-reads : (k mid : Terminals) (a : OneLink) → next_link l p k ≡ Some (Some a, mid) → LinkOne l k a mid
  unfolding next_link
  link-reads k mid a e = link_by-reads k mid a (joins_at l k) refl e

  link-stops : (k mid : Terminals) → next_link l p k ≡ Some (None, mid) → k ≡ mid
  unfolding next_link
  link-stops k mid e = link_by-stops k mid (joins_at l k) e

  chain-sound : (k more rest : Terminals) (c : Condition) (ls : List OneLink) → repeats l ≡ true → Reads (operand l) k c more → Chain (LinkOne l) more ls rest → Reads (level l) k (chain_of c ls) rest
  chain-sound k more rest c [] rep r nothing = one r
  chain-sound k more rest c (x ∷ xs) rep r (onward i ch) = chain rep r (join_links i ch)

  pub level_from-sound : repeats l ≡ true → (k more : Terminals) (c : Condition) (x : Condition × Terminals) → Reads (operand l) k c more
      → level_from l p c more ≡ Some x → Reads (level l) k x.0 x.1
  unfolding level_from
  level_from-sound rep k more c x r e =
      let a = bind-some (many (next_link l p) (length more) more) (λ links. pure (chain_of c links)) x e in
      let ch = many-chain (next_link l p) (LinkOne l) link-reads link-stops (length more) more a.0 a.1 in
      done (Reads (level l) k) (chain_of c a.0.0) a.0.1 x a.2 (chain-sound k more a.0.1 c a.0.0 rep r ch)

  pair-sound : (k more rest : Terminals) (c : Condition) (y : Option OneLink) → repeats l ≡ false → Reads (operand l) k c more
      → next_link l p more ≡ Some (y, rest) → Reads (level l) k (pair_of c y) rest
  pair-sound k more rest c None rep r e = one (subst (λ (t : Terminals). Reads (operand l) k c t) (link-stops more rest e) r)
  pair-sound k more rest c (Some y) rep r e = paired more rest c y rep r (link-reads more rest y e)
    where
      paired : (more rest : Terminals) (c : Condition) (y : OneLink) → repeats l ≡ false → Reads (operand l) k c more → LinkOne l more y rest
          → Reads (level l) k (tree.Chain c (links_of (y ∷ []))) rest
      paired more rest c y rep r (linked e r') = pair rep r e r'

  pub pair_from-sound : repeats l ≡ false → (k more : Terminals) (c : Condition) (x : Condition × Terminals) → Reads (operand l) k c more
      → pair_from l p c more ≡ Some x → Reads (level l) k x.0 x.1
  unfolding pair_from
  pair_from-sound rep k more c x r e =
      let a = bind-some (next_link l p more) (λ y. pure (pair_of c y)) x e in
      done (Reads (level l) k) (pair_of c a.0.0) a.0.1 x a.2 (pair-sound k more a.0.1 c a.0.0 rep r a.1)

-- ---- paths

module _ (inner : Entry → Parser Condition) (sound : (e : Entry) → IsSound (entry_part e) (inner e)) where
  closed-sound : (e : Entry) (s : SignType) (k : Terminals) (x : Condition × Terminals) → read_closed inner e s k ≡ Some x → Reads (entry_part e) k x.0 (Sign s ∷ x.1)
  unfolding read_closed
  closed-sound e s k x h =
      let a = bind-some (inner e k) (λ c. expect s >>= λ _. pure c) x h in
      let b = expect-end s a.0.0 x a.0.1 a.2 in
      subst (λ (c : Condition). Reads (entry_part e) k c (Sign s ∷ x.1)) b.1
      (subst (λ (t : Terminals). Reads (entry_part e) k a.0.0 t) b.0 (sound e k a.0 a.1))

  range_from-sound : (k0 k : Terminals) (low : Condition) (x : Bounds × Terminals) → Reads (level Bits) k0 low (Sign sign.DotDot ∷ k)
      → range_from inner low k ≡ Some x → Ranges (Sign sign.Open ∷ k0) x.0.low x.0.high x.1
  unfolding range_from
  range_from-sound k0 k low x r e =
      let a = bind-some (read_closed inner entry.Bits sign.Close k) (λ (high : Condition). pure (record { low = low; high = high })) x e in
      done (λ (b : Bounds) t. Ranges (Sign sign.Open ∷ k0) b.low b.high t) (record { low = low; high = a.0.0 }) a.0.1 x a.2
      (from_to r (closed-sound entry.Bits sign.Close k a.0 a.1))

  range-sound : (k : Terminals) (x : Bounds × Terminals) → read_range inner k ≡ Some x → Ranges k x.0.low x.0.high x.1
  unfolding read_range
  range-sound k x e =
      expect-then sign.Open (read_closed inner entry.Bits sign.DotDot >>= range_from inner) x (λ t. Ranges t x.0.low x.0.high x.1)
      (λ rest h.
      let a = bind-some (read_closed inner entry.Bits sign.DotDot rest) (range_from inner) x h in
      range_from-sound rest a.0.1 a.0.0 x (closed-sound entry.Bits sign.DotDot rest a.0 a.1) a.2) k e

  abbrev ItemOne : Terminals → Condition → Terminals → Type 0
  ItemOne k c mid = Reads (level Bits) k c mid

  join_items : {k mid rest : Terminals} {c : Condition} {cs : List Condition} → ItemOne k c mid → Chain (Comma ItemOne) mid cs rest → ReadsItems k (c ∷ cs) rest
  join_items r nothing = one_item r
  join_items r (onward (comma i) ch) = item_then r (join_items i ch)

  items_from-sound : (k0 k : Terminals) (c : Condition) (x : List Condition × Terminals) → Reads (level Bits) k0 c k → items_from inner c k ≡ Some x
      → ReadsItems k0 x.0 (Sign sign.Close ∷ x.1)
  unfolding items_from next_item
  items_from-sound k0 k c x r e =
      let a = bind-some (many (next_item inner) (length k) k) (λ cs. expect sign.Close >>= λ _. pure (c ∷ cs)) x e in
      let ch = many-chain (next_item inner) (Comma ItemOne) (comma-reads (inner entry.Bits) ItemOne (sound entry.Bits))
      (comma-stops (inner entry.Bits) ItemOne (sound entry.Bits)) (length k) k a.0 a.1 in
      let b = expect-end sign.Close (c ∷ a.0.0) x a.0.1 a.2 in
      subst (λ (cs : List Condition). ReadsItems k0 cs (Sign sign.Close ∷ x.1)) b.1
      (subst (λ (t : Terminals). ReadsItems k0 (c ∷ a.0.0) t) b.0 (join_items r ch))

  items-sound : (k : Terminals) (x : List Condition × Terminals) → read_items inner k ≡ Some x → ReadsItems k x.0 (Sign sign.Close ∷ x.1)
  unfolding read_items
  items-sound k x e =
      let a = bind-some (inner entry.Bits k) (items_from inner) x e in items_from-sound k a.0.1 a.0.0 x (sound entry.Bits k a.0 a.1) a.2

  -- one part of a path
  data StepOne : Terminals → OneStep → Terminals → Type 0 where
    by_name : {w : List ℕ} {rest : Terminals} → StepOne (Sign sign.Dot ∷ Word w ∷ rest) (tree.Name w) rest
    by_index : {k rest : Terminals} {c : Condition} → Reads (level Bits) k c (Sign sign.CloseBracket ∷ rest) → StepOne (Sign sign.OpenBracket ∷ k) (tree.Index c) rest
    by_empty : {rest : Terminals} → StepOne (Sign sign.Open ∷ Sign sign.Close ∷ rest) (tree.Call []) rest
    by_call : {k rest : Terminals} {cs : List Condition} → ReadsItems k cs (Sign sign.Close ∷ rest) → StepOne (Sign sign.Open ∷ k) (tree.Call cs) rest

  join_steps : {k rest : Terminals} {ss : List OneStep} → Chain StepOne k ss rest → ReadsSteps k ss rest
  join_steps nothing = no_step
  join_steps (onward by_name ch) = name_step (join_steps ch)
  join_steps (onward (by_index r) ch) = index_step r (join_steps ch)
  join_steps (onward by_empty ch) = empty_call (join_steps ch)
  join_steps (onward (by_call r) ch) = call_step r (join_steps ch)

  -- what a step says of its answer
  abbrev StepSays : Terminals → Option OneStep → Terminals → Type 0
  StepSays k None mid = k ≡ mid
  StepSays k (Some a) mid = StepOne k a mid

  call-sound : (k : Terminals) (x : Option OneStep × Terminals) → read_call inner k ≡ Some x → StepSays (Sign sign.Open ∷ k) x.0 x.1
  unfolding read_call
  call-sound k x e =
      eat-then sign.Close (pure (Some (tree.Call []))) ((λ cs. Some (tree.Call cs)) <$> read_items inner) x (λ t. StepSays (Sign sign.Open ∷ t) x.0 x.1)
      (λ rest h. done (StepSays (Sign sign.Open ∷ Sign sign.Close ∷ rest)) (Some (tree.Call [])) rest x h by_empty)
      (λ rest h.
      let a = bind-some (read_items inner rest) (λ cs. pure (Some (tree.Call cs))) x h in
      done (StepSays (Sign sign.Open ∷ rest)) (Some (tree.Call a.0.0)) a.0.1 x a.2 (by_call (items-sound rest a.0 a.1))) k e

  index-sound : (k : Terminals) (x : Option OneStep × Terminals) → read_index inner k ≡ Some x → StepSays (Sign sign.OpenBracket ∷ k) x.0 x.1
  unfolding read_index
  index-sound k x e =
      let a = bind-some (read_closed inner entry.Bits sign.CloseBracket k) (λ c. pure (Some (tree.Index c))) x e in
      done (StepSays (Sign sign.OpenBracket ∷ k)) (Some (tree.Index a.0.0)) a.0.1 x a.2 (by_index (closed-sound entry.Bits sign.CloseBracket k a.0 a.1))

  field-sound : (k : Terminals) (x : Option OneStep × Terminals) → read_field inner k ≡ Some x → StepSays (Sign sign.Dot ∷ k) x.0 x.1
  unfolding read_field
  field-sound k x e =
      word-then (λ w. pure (Some (tree.Name w))) x (λ t. StepSays (Sign sign.Dot ∷ t) x.0 x.1)
      (λ w rest h. done (StepSays (Sign sign.Dot ∷ Word w ∷ rest)) (Some (tree.Name w)) rest x h by_name) k e

  step-sound : (k : Terminals) (x : Option OneStep × Terminals) → next_step inner k ≡ Some x → StepSays k x.0 x.1
  unfolding next_step step_index step_other
  step-sound k x e =
      eat-then sign.Dot (read_field inner) (step_index inner) x (λ t. StepSays t x.0 x.1) (λ rest h. field-sound rest x h)
      (eat-then sign.OpenBracket (read_index inner) (step_other inner) x (λ t. StepSays t x.0 x.1) (λ rest h. index-sound rest x h)
      (eat-then sign.Open (read_call inner) no_more x (λ t. StepSays t x.0 x.1) (λ rest h. call-sound rest x h)
      (λ rest h. done (StepSays rest) None rest x h refl))) k e

  path_from-sound : (w : List ℕ) (k : Terminals) (x : List OneStep × Terminals) → path_from inner w k ≡ Some x
      → (ss : List OneStep) × (tree.Name w ∷ ss ≡ x.0) × ReadsSteps k ss x.1
  unfolding path_from
  path_from-sound w k x e =
      let a = bind-some (many (next_step inner) (length k) k) (λ ss. pure (tree.Name w ∷ ss)) x e in
      let ch = many-chain (next_step inner) StepOne (λ t mid y h. step-sound t (Some y, mid) h) (λ t mid h. step-sound t (None, mid) h) (length k) k a.0 a.1 in
      let s = some_is (tree.Name w ∷ a.0.0, a.0.1) x a.2 in
      (a.0.0, ap (λ y. y.0) s, subst (λ (t : Terminals). ReadsSteps k a.0.0 t) (ap (λ y. y.1) s) (join_steps ch))

  -- ---- primaries

  reader-sound : (r : Reader) (k : Terminals) (x : Condition × Terminals) → read_reader inner r k ≡ Some x → Reads primary (Read r ∷ k) x.0 x.1
  unfolding read_reader
  reader-sound r k x e =
      expect-then sign.Open (read_closed inner entry.Bits sign.Close >>= λ c. pure (tree.Read r c)) x (λ t. Reads primary (Read r ∷ t) x.0 x.1)
      (λ rest h.
      let a = bind-some (read_closed inner entry.Bits sign.Close rest) (λ c. pure (tree.Read r c)) x h in
      done (Reads primary (Read r ∷ Sign sign.Open ∷ rest)) (tree.Read r a.0.0) a.0.1 x a.2 (reads (closed-sound entry.Bits sign.Close rest a.0 a.1))) k e

  count_from-sound : (w : List ℕ) (k : Terminals) (x : Condition × Terminals) → count_from inner w k ≡ Some x → Reads primary (CountName w ∷ k) x.0 x.1
  unfolding count_from
  count_from-sound w k x e =
      eat-then sign.In ((λ (r : Bounds). tree.CountIn w r.low r.high) <$> read_range inner) (pure (tree.Count w)) x (λ t. Reads primary (CountName w ∷ t) x.0 x.1)
      (λ rest h.
      let a = bind-some (read_range inner rest) (λ (r : Bounds). pure (tree.CountIn w r.low r.high)) x h in
      done (Reads primary (CountName w ∷ Sign sign.In ∷ rest)) (tree.CountIn w a.0.0.low a.0.0.high) a.0.1 x a.2 (count_in (range-sound rest a.0 a.1)))
      (λ rest h. done (Reads primary (CountName w ∷ rest)) (tree.Count w) rest x h count) k e

  offset_from-sound : (w : List ℕ) (k : Terminals) (x : Condition × Terminals) → offset_from inner w k ≡ Some x → Reads primary (PlaceName w ∷ k) x.0 x.1
  unfolding offset_from
  offset_from-sound w k x e =
      eat-then sign.OpenBracket (tree.OffsetAt w <$> read_closed inner entry.Bits sign.CloseBracket) (pure (tree.Offset w)) x (λ t. Reads primary (PlaceName w ∷ t) x.0 x.1)
      (λ rest h.
      let a = bind-some (read_closed inner entry.Bits sign.CloseBracket rest) (λ c. pure (tree.OffsetAt w c)) x h in
      done (Reads primary (PlaceName w ∷ Sign sign.OpenBracket ∷ rest)) (tree.OffsetAt w a.0.0) a.0.1 x a.2 (offset_at (closed-sound entry.Bits sign.CloseBracket rest a.0 a.1)))
      (λ rest h. done (Reads primary (PlaceName w ∷ rest)) (tree.Offset w) rest x h offset) k e

  length_from-sound : (w : List ℕ) (k : Terminals) (x : Condition × Terminals) → length_from inner w k ≡ Some x → Reads primary (LengthName w ∷ k) x.0 x.1
  unfolding length_from
  length_from-sound w k x e =
      eat-then sign.OpenBracket (tree.LengthAt w <$> read_closed inner entry.Bits sign.CloseBracket) (pure (tree.Length w)) x (λ t. Reads primary (LengthName w ∷ t) x.0 x.1)
      (λ rest h.
      let a = bind-some (read_closed inner entry.Bits sign.CloseBracket rest) (λ c. pure (tree.LengthAt w c)) x h in
      done (Reads primary (LengthName w ∷ Sign sign.OpenBracket ∷ rest)) (tree.LengthAt w a.0.0) a.0.1 x a.2 (len_at (closed-sound entry.Bits sign.CloseBracket rest a.0 a.1)))
      (λ rest h. done (Reads primary (LengthName w ∷ rest)) (tree.Length w) rest x h len) k e

  read_path-sound : (w : List ℕ) (k : Terminals) (x : Condition × Terminals) → read_path inner w k ≡ Some x → Reads primary (Word w ∷ k) x.0 x.1
  unfolding read_path
  read_path-sound w k x e =
      let a = bind-some (path_from inner w k) (λ ss. pure (tree.Path (steps_of ss))) x e in
      let h = path_from-sound w k a.0 a.1 in
      done (Reads primary (Word w ∷ k)) (tree.Path (steps_of a.0.0)) a.0.1 x a.2
      (subst (λ (ss : List OneStep). Reads primary (Word w ∷ k) (tree.Path (steps_of ss)) a.0.1) h.1 (path h.2))

  primary_sign-sound : (k : Terminals) (x : Condition × Terminals) → primary_sign inner k ≡ Some x → Reads primary k x.0 x.1
  unfolding primary_sign
  primary_sign-sound k x e =
      eat-then sign.FileSize (pure tree.FileSize) (expect sign.Open >>= λ _. read_closed inner entry.Or sign.Close) x (λ t. Reads primary t x.0 x.1)
      (λ rest h. done (Reads primary (Sign sign.FileSize ∷ rest)) tree.FileSize rest x h file_size)
      (expect-then sign.Open (read_closed inner entry.Or sign.Close) x (λ t. Reads primary t x.0 x.1)
      (λ rest h. brackets (closed-sound entry.Or sign.Close rest x h))) k e

  primary-sound : IsSound primary (read_primary inner)
  unfolding read_primary primary_name
  primary-sound [] x e = absurd cc
  primary-sound (Number n ∷ k) x e = done (Reads primary (Number n ∷ k)) (tree.Number n) k x e number
  primary-sound (Text t ∷ k) x e = done (Reads primary (Text t ∷ k)) (tree.Text t) k x e text
  primary-sound (Flag b ∷ k) x e = done (Reads primary (Flag b ∷ k)) (tree.Flag b) k x e truth
  primary-sound (Read r ∷ k) x e = reader-sound r k x e
  primary-sound (Sign s ∷ k) x e = primary_sign-sound (Sign s ∷ k) x e
  primary-sound (Word w ∷ k) x e = read_path-sound w k x e
  primary-sound (CountName w ∷ k) x e = count_from-sound w k x e
  primary-sound (PlaceName w ∷ k) x e = offset_from-sound w k x e
  primary-sound (LengthName w ∷ k) x e = length_from-sound w k x e
  primary-sound (_ ∷ k) x e = absurd cc

  unary-sound : IsSound unary (read_unary inner)
  unfolding read_unary prefix_at
  unary-sound [] x e = absurd cc
  unary-sound (Operator op.Subtract ∷ k) x e =
      let a = bind-some (read_unary inner k) (λ c. pure (tree.Prefix prefix.Minus c)) x e in
      done (Reads unary (Operator op.Subtract ∷ k)) (tree.Prefix prefix.Minus a.0.0) a.0.1 x a.2 (minus (unary-sound k a.0 a.1))
  unary-sound (Sign sign.Tilde ∷ k) x e =
      let a = bind-some (read_unary inner k) (λ c. pure (tree.Prefix prefix.Flip c)) x e in
      done (Reads unary (Sign sign.Tilde ∷ k)) (tree.Prefix prefix.Flip a.0.0) a.0.1 x a.2 (flip (unary-sound k a.0 a.1))
  unary-sound (t ∷ k) x e = bare (primary-sound (t ∷ k) x e)

  -- ---- levels

  -- what goes on after a first unary reads the part
  abbrev FromSound : Part → (Condition → Parser Condition) → Type 0
  FromSound p f = (k more : Terminals) (u : Condition) (x : Condition × Terminals) → Reads unary k u more → f u more ≡ Some x → Reads p k x.0 x.1

  from-read : (p : Part) (f : Condition → Parser Condition) → FromSound p f → IsSound p (read_unary inner >>= f)
  from-read p f s k x e = let a = bind-some (read_unary inner k) f x e in s k a.0.1 a.0.0 x (unary-sound k a.0 a.1) a.2

  from-step : (p q : Part) (f h : Condition → Parser Condition) → FromSound p f
      → ((k more : Terminals) (c : Condition) (x : Condition × Terminals) → Reads p k c more → h c more ≡ Some x → Reads q k x.0 x.1) → FromSound q (λ u. f u >>= h)
  from-step p q f h s t k more u x r e = let a = bind-some (f u more) h x e in t k a.0.1 a.0.0 x (s k more u a.0 r a.1) a.2

  prod_from-sound : FromSound (level Prod) (reading.prod_from inner)
  unfolding reading.prod_from
  prod_from-sound = level_from-sound Prod (read_unary inner) unary-sound refl

  prod-sound : IsSound (level Prod) (reading.read_prod inner)
  unfolding reading.read_prod
  prod-sound = from-read (level Prod) (reading.prod_from inner) prod_from-sound

  sum_from-sound : FromSound (level Sum) (reading.sum_from inner)
  unfolding reading.sum_from
  sum_from-sound = from-step (level Prod) (level Sum) (reading.prod_from inner) (level_from Sum (reading.read_prod inner)) prod_from-sound
      (level_from-sound Sum (reading.read_prod inner) prod-sound refl)

  sum-sound : IsSound (level Sum) (reading.read_sum inner)
  unfolding reading.read_sum
  sum-sound = from-read (level Sum) (reading.sum_from inner) sum_from-sound

  shift_from-sound : FromSound (level Shift) (reading.shift_from inner)
  unfolding reading.shift_from
  shift_from-sound = from-step (level Sum) (level Shift) (reading.sum_from inner) (level_from Shift (reading.read_sum inner)) sum_from-sound
      (level_from-sound Shift (reading.read_sum inner) sum-sound refl)

  shift-sound : IsSound (level Shift) (reading.read_shift inner)
  unfolding reading.read_shift
  shift-sound = from-read (level Shift) (reading.shift_from inner) shift_from-sound

  band_from-sound : FromSound (level Band) (reading.band_from inner)
  unfolding reading.band_from
  band_from-sound = from-step (level Shift) (level Band) (reading.shift_from inner) (level_from Band (reading.read_shift inner)) shift_from-sound
      (level_from-sound Band (reading.read_shift inner) shift-sound refl)

  band-sound : IsSound (level Band) (reading.read_band inner)
  unfolding reading.read_band
  band-sound = from-read (level Band) (reading.band_from inner) band_from-sound

  bxor_from-sound : FromSound (level Bxor) (reading.bxor_from inner)
  unfolding reading.bxor_from
  bxor_from-sound = from-step (level Band) (level Bxor) (reading.band_from inner) (level_from Bxor (reading.read_band inner)) band_from-sound
      (level_from-sound Bxor (reading.read_band inner) band-sound refl)

  bxor-sound : IsSound (level Bxor) (reading.read_bxor inner)
  unfolding reading.read_bxor
  bxor-sound = from-read (level Bxor) (reading.bxor_from inner) bxor_from-sound

  bits_from-sound : FromSound (level Bits) (reading.bits_from inner)
  unfolding reading.bits_from
  bits_from-sound = from-step (level Bxor) (level Bits) (reading.bxor_from inner) (level_from Bits (reading.read_bxor inner)) bxor_from-sound
      (level_from-sound Bits (reading.read_bxor inner) bxor-sound refl)

  bits-sound : IsSound (level Bits) (reading.read_bits inner)
  unfolding reading.read_bits
  bits-sound = from-read (level Bits) (reading.bits_from inner) bits_from-sound

  rel_from-sound : FromSound (level Rel) (rel_from inner)
  unfolding rel_from
  rel_from-sound = from-step (level Bits) (level Rel) (reading.bits_from inner) (pair_from Rel (read_bits inner)) bits_from-sound
      (pair_from-sound Rel (read_bits inner) bits-sound refl)

  rel-sound : IsSound (level Rel) (read_rel inner)
  unfolding read_rel
  rel-sound = from-read (level Rel) (rel_from inner) rel_from-sound

  matches-sound : (k more : Terminals) (c : Condition) (x : Condition × Terminals) → Reads (level Rel) k c (Sign sign.Matches ∷ more) → matches_from c more ≡ Some x → Reads (level Equal) k x.0 x.1
  unfolding matches_from regex_at
  matches-sound k [] c x r e = absurd cc
  matches-sound k (Regex t ∷ more) c x r e = done (Reads (level Equal) k) (tree.Matches c t) more x e (matches r)
  matches-sound k (_ ∷ more) c x r e = absurd cc

  equal_rest-sound : (k more : Terminals) (c : Condition) (x : Condition × Terminals) → Reads (level Rel) k c more → equal_rest inner c more ≡ Some x → Reads (level Equal) k x.0 x.1
  unfolding equal_rest
  equal_rest-sound k more c x r e =
      eat-then sign.Matches (matches_from c) (pair_from Equal (read_rel inner) c) x (λ t. Reads (level Rel) k c t → Reads (level Equal) k x.0 x.1)
      (λ rest h r'. matches-sound k rest c x r' h)
      (λ rest h r'. pair_from-sound Equal (read_rel inner) rel-sound refl k rest c x r' h) more e r

  equal_from-sound : FromSound (level Equal) (equal_from inner)
  unfolding equal_from
  equal_from-sound = from-step (level Rel) (level Equal) (rel_from inner) (equal_rest inner) rel_from-sound equal_rest-sound

  -- ---- tests

  place-sound : (k : Terminals) (x : Where × Terminals) → read_place inner k ≡ Some x → Places k x.0 x.1
  unfolding read_place place_at place_in
  place-sound k x e =
      eat-then sign.At (place_at inner) (place_in inner) x (λ t. Places t x.0 x.1)
      (λ rest h.
      let a = bind-some (read_bits inner rest) (λ c. pure (tree.At c)) x h in
      done (Places (Sign sign.At ∷ rest)) (tree.At a.0.0) a.0.1 x a.2 (at (bits-sound rest a.0 a.1)))
      (eat-then sign.In ((λ (r : Bounds). tree.Within r.low r.high) <$> read_range inner) (pure tree.Anywhere) x (λ t. Places t x.0 x.1)
      (λ rest h.
      let a = bind-some (read_range inner rest) (λ (r : Bounds). pure (tree.Within r.low r.high)) x h in
      done (Places (Sign sign.In ∷ rest)) (tree.Within a.0.0.low a.0.0.high) a.0.1 x a.2 (within (range-sound rest a.0 a.1)))
      (λ rest h. done (Places rest) tree.Anywhere rest x h anywhere)) k e

  of_from-sound : (k more : Terminals) (q : Asked) (x : Condition × Terminals) → Quants k q (Sign sign.Of ∷ more) → of_from inner q more ≡ Some x → Reads test k x.0 x.1
  unfolding of_from
  of_from-sound k more q x r e =
      let a = bind-some (read_set more) (λ s. read_place inner >>= λ p. pure (tree.Of q s p)) x e in
      let b = bind-some (read_place inner a.0.1) (λ p. pure (tree.Of q a.0.0 p)) x a.2 in
      done (Reads test k) (tree.Of q a.0.0 b.0.0) b.0.1 x b.2 (of r (set-sound more a.0 a.1) (place-sound a.0.1 b.0 b.1))

  unary_count-sound : (k : Terminals) (x : Asked × Terminals) → and_then (read_unary inner k) (λ c. pure (tree.AtLeast c)) ≡ Some x → Counts k x.0 x.1
  unary_count-sound k x e =
      let a = bind-some (read_unary inner k) (λ c. pure (tree.AtLeast c)) x e in
      done (Counts k) (tree.AtLeast a.0.0) a.0.1 x a.2 (at_least (unary-sound k a.0 a.1))

  count-sound : (k : Terminals) (x : Asked × Terminals) → read_count inner k ≡ Some x → Counts k x.0 x.1
  unfolding read_count count_at
  count-sound [] x e = unary_count-sound [] x e
  count-sound (Sign sign.All ∷ k) x e = done (Counts (Sign sign.All ∷ k)) tree.All k x e every
  count-sound (Sign sign.Any ∷ k) x e = done (Counts (Sign sign.Any ∷ k)) tree.Any k x e some
  count-sound (Sign sign.None ∷ k) x e = done (Counts (Sign sign.None ∷ k)) tree.Nil k x e none
  count-sound (t ∷ k) x e = unary_count-sound (t ∷ k) x e

  -- `:` and a condition between brackets
  record Body (k : Terminals) (c : Condition) (rest : Terminals) : Type 0 where
    from : Terminals
    begins : k ≡ Sign sign.Colon ∷ Sign sign.Open ∷ from
    body : Reads (level Or) from c (Sign sign.Close ∷ rest)

  body-sound : (k : Terminals) (x : Condition × Terminals) → read_body inner k ≡ Some x → Body k x.0 x.1
  unfolding read_body
  body-sound k x e =
      expect-then sign.Colon (expect sign.Open >>= λ _. read_closed inner entry.Or sign.Close) x (λ t. Body t x.0 x.1)
      (expect-then sign.Open (read_closed inner entry.Or sign.Close) x (λ t. Body (Sign sign.Colon ∷ t) x.0 x.1)
      (λ rest h. record { from = rest; begins = refl; body = closed-sound entry.Or sign.Close rest x h })) k e

  over_from-sound : (k0 k : Terminals) (c : Condition) (x : Domain × Terminals) → Reads (level Bits) k0 c k → over_from inner c k ≡ Some x → Overs (Sign sign.Open ∷ k0) x.0 x.1
  unfolding over_from
  over_from-sound k0 k c x r e =
      eat-then sign.DotDot ((λ (b : Bounds). tree.OverRange b.low b.high) <$> range_from inner c) ((λ cs. tree.OverList (items_of cs)) <$> items_from inner c) x
      (λ t. Reads (level Bits) k0 c t → Overs (Sign sign.Open ∷ k0) x.0 x.1)
      (λ rest h r'.
      let a = bind-some (range_from inner c rest) (λ (b : Bounds). pure (tree.OverRange b.low b.high)) x h in
      done (Overs (Sign sign.Open ∷ k0)) (tree.OverRange a.0.0.low a.0.0.high) a.0.1 x a.2 (over_range (range_from-sound k0 rest c a.0 r' a.1)))
      (λ rest h r'.
      let a = bind-some (items_from inner c rest) (λ cs. pure (tree.OverList (items_of cs))) x h in
      done (Overs (Sign sign.Open ∷ k0)) (tree.OverList (items_of a.0.0)) a.0.1 x a.2 (over_list (items_from-sound k0 rest c a.0 r' a.1))) k e r

  over_path-sound : (k : Terminals) (x : Domain × Terminals) → reading.over_path inner k ≡ Some x → Overs k x.0 x.1
  unfolding reading.over_path
  over_path-sound k x e =
      word-then (λ w. path_from inner w >>= λ ss. pure (tree.OverPath (steps_of ss))) x (λ t. Overs t x.0 x.1)
      (λ w rest h.
      let a = bind-some (path_from inner w rest) (λ ss. pure (tree.OverPath (steps_of ss))) x h in
      let s = path_from-sound w rest a.0 a.1 in
      done (Overs (Word w ∷ rest)) (tree.OverPath (steps_of a.0.0)) a.0.1 x a.2
      (subst (λ (ss : List OneStep). Overs (Word w ∷ rest) (tree.OverPath (steps_of ss)) a.0.1) s.1 (over_path s.2))) k e

  over-sound : (k : Terminals) (x : Domain × Terminals) → read_over inner k ≡ Some x → Overs k x.0 x.1
  unfolding read_over over_brackets
  over-sound k x e =
      eat-then sign.Open (over_brackets inner) (reading.over_path inner) x (λ t. Overs t x.0 x.1)
      (λ rest h.
      let a = bind-some (inner entry.Bits rest) (over_from inner) x h in over_from-sound rest a.0.1 a.0.0 x (sound entry.Bits rest a.0 a.1) a.2)
      (λ rest h. over_path-sound rest x h) k e

  for_of-sound : (k more : Terminals) (q : Asked) (x : Condition × Terminals) → Counts k q (Sign sign.Of ∷ more) → for_of_from inner q more ≡ Some x → Reads test (Sign sign.For ∷ k) x.0 x.1
  unfolding for_of_from
  for_of-sound k more q x r e =
      let a = bind-some (read_set more) (λ s. read_body inner >>= λ c. pure (tree.ForOf q s c)) x e in
      let b = bind-some (read_body inner a.0.1) (λ c. pure (tree.ForOf q a.0.0 c)) x a.2 in
      let d = body-sound a.0.1 b.0 b.1 in
      done (Reads test (Sign sign.For ∷ k)) (tree.ForOf q a.0.0 b.0.0) b.0.1 x b.2
      (for_of r (subst (λ (t : Terminals). Sets more a.0.0 t) d.begins (set-sound more a.0 a.1)) d.body)

  for_in-sound : (k more : Terminals) (q : Asked) (x : Condition × Terminals) → Counts k q more → for_in_from inner q more ≡ Some x → Reads test (Sign sign.For ∷ k) x.0 x.1
  unfolding for_in_from
  for_in-sound k more q x r e =
      word-then (λ w. expect sign.In >>= λ _. read_over inner >>= λ o. read_body inner >>= λ c. pure (tree.ForIn q w o c)) x
      (λ t. Counts k q t → Reads test (Sign sign.For ∷ k) x.0 x.1)
      (λ w. expect-then sign.In (read_over inner >>= λ o. read_body inner >>= λ c. pure (tree.ForIn q w o c)) x
      (λ t. Counts k q (Word w ∷ t) → Reads test (Sign sign.For ∷ k) x.0 x.1)
      (λ rest h r'.
      let a = bind-some (read_over inner rest) (λ o. read_body inner >>= λ c. pure (tree.ForIn q w o c)) x h in
      let b = bind-some (read_body inner a.0.1) (λ c. pure (tree.ForIn q w a.0.0 c)) x a.2 in
      let d = body-sound a.0.1 b.0 b.1 in
      done (Reads test (Sign sign.For ∷ k)) (tree.ForIn q w a.0.0 b.0.0) b.0.1 x b.2
      (for_in r' (subst (λ (t : Terminals). Overs rest a.0.0 t) d.begins (over-sound rest a.0 a.1)) d.body))) more e r

  for-sound : (k : Terminals) (x : Condition × Terminals) → read_for inner k ≡ Some x → Reads test (Sign sign.For ∷ k) x.0 x.1
  unfolding read_for
  for-sound k x e =
      let a = bind-some (read_count inner k) (λ q. eat sign.Of >>= λ b. if b then for_of_from inner q else for_in_from inner q) x e in
      eat-then sign.Of (for_of_from inner a.0.0) (for_in_from inner a.0.0) x (λ t. Counts k a.0.0 t → Reads test (Sign sign.For ∷ k) x.0 x.1)
      (λ rest h r. for_of-sound k rest a.0.0 x r h) (λ rest h r. for_in-sound k rest a.0.0 x r h) a.0.1 a.2 (count-sound k a.0 a.1)

  percent_of-is : (k : Terminals) → sees_percent_of k ≡ true → k ≡ Operator op.Remainder ∷ Sign sign.Of ∷ tail (tail k)
  unfolding sees_percent_of
  percent_of-is k e =
      let h = chosen-true (sees_operator op.Remainder k) (sees sign.Of (tail k)) e in
      sees_operator-true op.Remainder k h.0 ∙ ap (λ t. Operator op.Remainder ∷ t) (sees-true sign.Of (tail k) h.1)
    where
      chosen-true : (b c : Bool) → (if b then c else false) ≡ true → (b ≡ true) × (c ≡ true)
      chosen-true true c e = (refl, e)
      chosen-true false c e = absurd cc

  percent-sound : (k more : Terminals) (u : Condition) (x : Condition × Terminals) (b : Bool) → sees_percent_of more ≡ b → Reads unary k u more
      → percent_by inner b u more ≡ Some x → Reads test k x.0 x.1
  percent-sound k more u x false is r e = compared (equal_from-sound k more u x r e)
  percent-sound k more u x true is r e =
      of_from-sound k (tail (tail more)) (tree.Percent u) x (percent (subst (λ (t : Terminals). Reads unary k u t) (percent_of-is more is) r)) e

  test_from-sound : (k more : Terminals) (u : Condition) (x : Condition × Terminals) → Reads unary k u more → test_from inner u more ≡ Some x → Reads test k x.0 x.1
  unfolding test_from percent_from
  test_from-sound k more u x r e =
      eat-then sign.Of (of_from inner (tree.AtLeast u)) (percent_from inner u) x (λ t. Reads unary k u t → Reads test k x.0 x.1)
      (λ rest h r'. of_from-sound k rest (tree.AtLeast u) x (counts (at_least r')) h)
      (λ rest h r'. percent-sound k rest u x (sees_percent_of rest) refl r' h) more e r

  unary_test-sound : (k : Terminals) (x : Condition × Terminals) → and_then (read_unary inner k) (test_from inner) ≡ Some x → Reads test k x.0 x.1
  unary_test-sound k x e = let a = bind-some (read_unary inner k) (test_from inner) x e in test_from-sound k a.0.1 a.0.0 x (unary-sound k a.0 a.1) a.2

  counted-sound : (k : Terminals) (q : Asked) (s : SignType) (x : Condition × Terminals) → ((rest : Terminals) → Counts (Sign s ∷ rest) q rest)
      → and_then (expect sign.Of k) (λ _. of_from inner q) ≡ Some x → Reads test (Sign s ∷ k) x.0 x.1
  counted-sound k q s x c e =
      expect-then sign.Of (of_from inner q) x (λ t. Reads test (Sign s ∷ t) x.0 x.1)
      (λ rest h. of_from-sound (Sign s ∷ Sign sign.Of ∷ rest) rest q x (counts (c (Sign sign.Of ∷ rest))) h) k e

  test_count-sound : (k : Terminals) (x : Condition × Terminals) → test_count inner k ≡ Some x → Reads test k x.0 x.1
  unfolding test_count count_at
  test_count-sound [] x e = unary_test-sound [] x e
  test_count-sound (Sign sign.All ∷ k) x e = counted-sound k tree.All sign.All x (λ rest. every) e
  test_count-sound (Sign sign.Any ∷ k) x e = counted-sound k tree.Any sign.Any x (λ rest. some) e
  test_count-sound (Sign sign.None ∷ k) x e = counted-sound k tree.Nil sign.None x (λ rest. none) e
  test_count-sound (t ∷ k) x e = unary_test-sound (t ∷ k) x e

  test_other-sound : (k : Terminals) (x : Condition × Terminals) → test_other inner k ≡ Some x → Reads test k x.0 x.1
  unfolding test_other
  test_other-sound k x e =
      eat-then sign.For (read_for inner) (test_count inner) x (λ t. Reads test t x.0 x.1) (λ rest h. for-sound rest x h) (λ rest h. test_count-sound rest x h) k e

  test-sound : IsSound test (read_test inner)
  unfolding read_test string_at found_from
  test-sound [] x e = test_other-sound [] x e
  test-sound (StringName w ∷ k) x e =
      let a = bind-some (read_place inner k) (λ p. pure (tree.Found w p)) x e in
      done (Reads test (StringName w ∷ k)) (tree.Found w a.0.0) a.0.1 x a.2 (found (place-sound k a.0 a.1))
  test-sound (t ∷ k) x e = test_other-sound (t ∷ k) x e

  not-sound : IsSound not (read_not inner)
  unfolding read_not negates_at
  not-sound [] x e = absurd cc
  not-sound (Sign sign.Not ∷ k) x e =
      let a = bind-some (read_not inner k) (λ c. pure (tree.Prefix prefix.Not c)) x e in
      done (Reads not (Sign sign.Not ∷ k)) (tree.Prefix prefix.Not a.0.0) a.0.1 x a.2 (negated (not-sound k a.0 a.1))
  not-sound (Sign sign.Defined ∷ k) x e =
      let a = bind-some (read_not inner k) (λ c. pure (tree.Prefix prefix.Defined c)) x e in
      done (Reads not (Sign sign.Defined ∷ k)) (tree.Prefix prefix.Defined a.0.0) a.0.1 x a.2 (is_defined (not-sound k a.0 a.1))
  not-sound (t ∷ k) x e = plain (test-sound (t ∷ k) x e)

  and-sound : IsSound (level And) (read_and inner)
  unfolding read_and
  and-sound k x e =
      let a = bind-some (read_not inner k) (level_from And (read_not inner)) x e in
      level_from-sound And (read_not inner) not-sound refl k a.0.1 a.0.0 x (not-sound k a.0 a.1) a.2

  or-sound : IsSound (level Or) (read_or inner)
  unfolding read_or
  or-sound k x e =
      let a = bind-some (read_and inner k) (level_from Or (read_and inner)) x e in
      level_from-sound Or (read_and inner) and-sound refl k a.0.1 a.0.0 x (and-sound k a.0 a.1) a.2

pub cond_at-sound : (d : ℕ) (e : Entry) → IsSound (entry_part e) (cond_at d e)
unfolding cond_at
cond_at-sound zero e k x h = absurd cc
cond_at-sound (suc d) entry.Or k x h = or-sound (cond_at d) (cond_at-sound d) k x h
cond_at-sound (suc d) entry.Bits k x h = bits-sound (cond_at d) (cond_at-sound d) k x h
