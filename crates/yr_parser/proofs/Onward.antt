-- One step of a reading function, where the grammar has it.
use Rattle.std.proofs.Common.{◌≡◌, ℕ, ◌<◌, true, false, List, [], ◌∷◌, length, Some, None, if◌then◌else◌, refl, ap, ◌∙◌, arith}
use Rattle.yr_syntax.specs.declared.operator.Infix.{Infix}
use Rattle.yr_syntax.specs.declared.operator.Infix.TheVariants as op
use Rattle.yr_syntax.specs.declared.operator.Reader.{Reader}
use Rattle.yr_syntax.specs.Condition.{Condition, Where, Asked, Domain, Bounds, SetTree, RegexTree, OneLink, OneStep, links_of, items_of, steps_of}
use Rattle.yr_syntax.specs.Condition as tree
use Rattle.yr_parser.specs.declared.sign.Sign.{Sign as SignType}
use Rattle.yr_parser.specs.declared.sign.Sign.TheVariants as sign
use Rattle.yr_parser.specs.declared.level.Level.{Level}
use Rattle.yr_parser.specs.declared.level.Level.TheVariants.{Or, And, Equal, Rel, Bits, Bxor, Band, Shift, Sum, Prod}
use Rattle.yr_parser.specs.declared.level.Entry.{Entry}
use Rattle.yr_parser.specs.declared.level.Entry.TheVariants as entry
use Rattle.yr_parser.specs.Terminals.{Terminals, Word, Regex, StringName, CountName, PlaceName, LengthName, Read, Operator, Sign}
use Rattle.yr_parser.specs.Levels.{Part, level, not, test, unary, primary, level_of, operand, repeats}
use Rattle.yr_parser.specs.Input.{Parser, and_then, ◌>>=◌, ◌<$>◌, pure, tail, sees, eat, after, expect, many, same_sign}
use Rattle.yr_parser.specs.Reading as reading
use Rattle.yr_parser.specs.Reading.{no_more, joins_at, link_by, next_link, chain_of, level_from, pair_of, pair_from, matches_from, regex_at, prefix_by, prefix_at, negates_at, count_at, count_by, string_at, test_by, counted_by, percent_by, sees_operator, same_operator, sees_percent_of, read_word, read_set, read_closed, range_from, read_range, next_item, items_from, read_items, read_call, read_index, read_field, step_other, step_index, next_step, path_from, read_reader, count_from, offset_from, length_from, read_path, primary_sign, primary_name, read_primary, read_unary, prod_from, sum_from, shift_from, band_from, bxor_from, bits_from, read_prod, read_sum, read_shift, read_band, read_bxor, read_bits, read_rel, rel_from, equal_rest, equal_from, place_at, place_in, read_place, found_from, of_from, read_count, read_body, over_from, over_brackets, read_over, for_of_from, for_in_from, read_for, percent_from, test_from, test_count, test_other, read_test, read_not, read_and, read_or, read_entry, cond_at}
use Rattle.yr_parser.specs.Conditions.{one_link, Links, last, next}
use Rattle.yr_parser.proofs.Outcomes.{bind, many-stop, eat-yes, eat-no, expect-on}
use Rattle.yr_parser.proofs.Binding.{rank, binds, joins_at-here, next_link-none, sees-weaker, NoCount, Begins, Links-no_count}
use Rattle.yr_parser.proofs.SetComplete.{Split}
use Rattle.yr_parser.proofs.Steps.{unary_at, not_at}

-- ---- levels

pub next_link-here : (l : Level) (q : Parser Condition) (o : Infix) (k rest : Terminals) (c : Condition) → level_of o ≡ l → q k ≡ Some (c, rest)
    → next_link l q (Operator o ∷ k) ≡ Some (Some (one_link o c), rest)
unfolding next_link
next_link-here l q o k rest c e h = ap (λ j. link_by q j (Operator o ∷ k)) (joins_at-here l o k e) ∙ bind (λ c. pure (Some (one_link o c))) h

level_from-done : (l : Level) (q : Parser Condition) (k : Terminals) (c : Condition) → binds k < rank l → level_from l q c k ≡ Some (c, k)
unfolding level_from
level_from-done l q k c h = bind (λ links. pure (chain_of c links)) (many-stop (next_link l q) (length k) k (next_link-none l q k h))

chain_of-links : {l : Level} {k rest : Terminals} {ls : List OneLink} (c : Condition) → Links l k ls rest → chain_of c ls ≡ tree.Chain c (links_of ls)
chain_of-links c (last e d) = refl
chain_of-links c (next e d ds) = refl

level_from-links : (l : Level) (q : Parser Condition) (k rest : Terminals) (c : Condition) (ls : List OneLink) → Links l k ls rest
    → many (next_link l q) (length k) k ≡ Some (ls, rest) → level_from l q c k ≡ Some (tree.Chain c (links_of ls), rest)
unfolding level_from
level_from-links l q k rest c ls ds e = bind (λ links. pure (chain_of c links)) e ∙ ap (λ y. Some (y, rest)) (chain_of-links c ds)

pair_from-done : (l : Level) (q : Parser Condition) (k : Terminals) (c : Condition) → binds k < rank l → pair_from l q c k ≡ Some (c, k)
unfolding pair_from
pair_from-done l q k c h = bind (λ y. pure (pair_of c y)) (next_link-none l q k h)

pair_from-link : (l : Level) (q : Parser Condition) (k rest : Terminals) (c : Condition) (y : OneLink) → next_link l q k ≡ Some (Some y, rest)
    → pair_from l q c k ≡ Some (tree.Chain c (links_of (y ∷ [])), rest)
unfolding pair_from
pair_from-link l q k rest c y e = bind (λ y. pure (pair_of c y)) e

operator-no_matches : (o : Infix) (k : Terminals) → sees sign.Matches (Operator o ∷ k) ≡ false
unfolding sees
operator-no_matches o k = refl

module _ (p : Entry → Parser Condition) where
  open-no_size : (k : Terminals) → sees sign.FileSize (Sign sign.Open ∷ k) ≡ false
  unfolding sees same_sign
  open-no_size k = refl

  word-no_open : (w : List ℕ) (k : Terminals) → sees sign.Open (Word w ∷ k) ≡ false
  unfolding sees
  word-no_open w k = refl

  word-no_of : (w : List ℕ) (k : Terminals) → sees sign.Of (Word w ∷ k) ≡ false
  unfolding sees
  word-no_of w k = refl

  -- a first unary, and what goes on after it
  pub record Opens (f : Condition → Parser Condition) (k : Terminals) (c : Condition) (rest : Terminals) : Type 0 where
    pub u : Condition
    pub more : Terminals
    pub opening : read_unary p k ≡ Some (u, more)
    pub going : f u more ≡ Some (c, rest)
    pub apart : NoCount rest → NoCount more

  -- what completeness says of each part
  abbrev pub Done : Part → Terminals → Condition → Terminals → Type 0
  Done (level Or) k c rest = read_or p k ≡ Some (c, rest)
  Done (level And) k c rest = read_and p k ≡ Some (c, rest)
  Done (level Equal) k c rest = Opens (equal_from p) k c rest
  Done (level Rel) k c rest = Opens (rel_from p) k c rest
  Done (level Bits) k c rest = Opens (bits_from p) k c rest
  Done (level Bxor) k c rest = Opens (bxor_from p) k c rest
  Done (level Band) k c rest = Opens (band_from p) k c rest
  Done (level Shift) k c rest = Opens (shift_from p) k c rest
  Done (level Sum) k c rest = Opens (sum_from p) k c rest
  Done (level Prod) k c rest = Opens (prod_from p) k c rest
  Done not k c rest = read_not p k ≡ Some (c, rest)
  Done test k c rest = read_test p k ≡ Some (c, rest)
  Done unary k c rest = read_unary p k ≡ Some (c, rest)
  Done primary k c rest = read_primary p k ≡ Some (c, rest)

  abbrev pub read : Part → Parser Condition
  read (level Or) = read_or p
  read (level And) = read_and p
  read (level Equal) = read_unary p >>= equal_from p
  read (level Rel) = read_rel p
  read (level Bits) = read_bits p
  read (level Bxor) = read_bxor p
  read (level Band) = read_band p
  read (level Shift) = read_shift p
  read (level Sum) = read_sum p
  read (level Prod) = read_prod p
  read not = read_not p
  read test = read_test p
  read unary = read_unary p
  read primary = read_primary p

  pub done-read : (part : Part) (k rest : Terminals) (c : Condition) → Done part k c rest → read part k ≡ Some (c, rest)
  unfolding read_rel read_bits read_bxor read_band read_shift read_sum read_prod
  done-read (level Or) k rest c e = e
  done-read (level And) k rest c e = e
  done-read (level Equal) k rest c o = bind (equal_from p) o.opening ∙ o.going
  done-read (level Rel) k rest c o = bind (rel_from p) o.opening ∙ o.going
  done-read (level Bits) k rest c o = bind (bits_from p) o.opening ∙ o.going
  done-read (level Bxor) k rest c o = bind (bxor_from p) o.opening ∙ o.going
  done-read (level Band) k rest c o = bind (band_from p) o.opening ∙ o.going
  done-read (level Shift) k rest c o = bind (shift_from p) o.opening ∙ o.going
  done-read (level Sum) k rest c o = bind (sum_from p) o.opening ∙ o.going
  done-read (level Prod) k rest c o = bind (prod_from p) o.opening ∙ o.going
  done-read not k rest c e = e
  done-read test k rest c e = e
  done-read unary k rest c e = e
  done-read primary k rest c e = e

  opens-step : (f h : Condition → Parser Condition) (k mid rest : Terminals) (c c' : Condition) → Opens f k c mid → h c mid ≡ Some (c', rest)
      → (NoCount rest → NoCount mid) → Opens (λ u. f u >>= h) k c' rest
  opens-step f h k mid rest c c' o e n = record { u = o.u; more = o.more; opening = o.opening; going = bind h o.going ∙ e; apart = λ z. o.apart (n z) }

  equal_rest-done : (k : Terminals) (c : Condition) → binds k < 3 → equal_rest p c k ≡ Some (c, k)
  unfolding equal_rest
  equal_rest-done k c h = eat-no sign.Matches (matches_from c) (pair_from Equal (read_rel p) c) k (sees-weaker sign.Matches k h) ∙ pair_from-done Equal (read_rel p) k c h

  equal_rest-link : (o : Infix) (k rest : Terminals) (c : Condition) (y : OneLink) → next_link Equal (read_rel p) (Operator o ∷ k) ≡ Some (Some y, rest)
      → equal_rest p c (Operator o ∷ k) ≡ Some (tree.Chain c (links_of (y ∷ [])), rest)
  unfolding equal_rest
  equal_rest-link o k rest c y e =
      eat-no sign.Matches (matches_from c) (pair_from Equal (read_rel p) c) (Operator o ∷ k) (operator-no_matches o k)
      ∙ pair_from-link Equal (read_rel p) (Operator o ∷ k) rest c y e

  equal_rest-matches : (rest : Terminals) (c : Condition) (r : RegexTree) → equal_rest p c (Sign sign.Matches ∷ Regex r ∷ rest) ≡ Some (tree.Matches c r, rest)
  unfolding equal_rest matches_from regex_at
  equal_rest-matches rest c r = eat-yes sign.Matches (matches_from c) (pair_from Equal (read_rel p) c) (Regex r ∷ rest)

  -- a level of one operand
  pub level-one : (l : Level) (k rest : Terminals) (c : Condition) → Done (operand l) k c rest → binds rest < rank l → Done (level l) k c rest
  unfolding read_or read_and prod_from sum_from shift_from band_from bxor_from bits_from rel_from equal_from
  level-one Or k rest c e h = bind (level_from Or (read_and p)) e ∙ level_from-done Or (read_and p) rest c h
  level-one And k rest c e h = bind (level_from And (read_not p)) e ∙ level_from-done And (read_not p) rest c h
  level-one Equal k rest c o h = opens-step (rel_from p) (equal_rest p) k rest rest c c o (equal_rest-done rest c h) (λ z. z)
  level-one Rel k rest c o h = opens-step (bits_from p) (pair_from Rel (read_bits p)) k rest rest c c o (pair_from-done Rel (read_bits p) rest c h) (λ z. z)
  level-one Sum k rest c o h = opens-step (prod_from p) (level_from Sum (read_prod p)) k rest rest c c o (level_from-done Sum (read_prod p) rest c h) (λ z. z)
  level-one Shift k rest c o h = opens-step (sum_from p) (level_from Shift (read_sum p)) k rest rest c c o (level_from-done Shift (read_sum p) rest c h) (λ z. z)
  level-one Band k rest c o h = opens-step (shift_from p) (level_from Band (read_shift p)) k rest rest c c o (level_from-done Band (read_shift p) rest c h) (λ z. z)
  level-one Bxor k rest c o h = opens-step (band_from p) (level_from Bxor (read_band p)) k rest rest c c o (level_from-done Bxor (read_band p) rest c h) (λ z. z)
  level-one Bits k rest c o h = opens-step (bxor_from p) (level_from Bits (read_bxor p)) k rest rest c c o (level_from-done Bits (read_bxor p) rest c h) (λ z. z)
  level-one Prod k rest c e h = record { u = c; more = rest; opening = e; going = level_from-done Prod (read_unary p) rest c h; apart = λ z. z }

  -- a level of more operands
  pub level-chain : (l : Level) (k mid rest : Terminals) (c : Condition) (ls : List OneLink) → repeats l ≡ true → Done (operand l) k c mid → Links l mid ls rest
      → many (next_link l (read (operand l))) (length mid) mid ≡ Some (ls, rest) → Done (level l) k (tree.Chain c (links_of ls)) rest
  unfolding read_or read_and prod_from sum_from shift_from band_from bxor_from bits_from rel_from equal_from
  level-chain Or k mid rest c ls t e ds m = bind (level_from Or (read_and p)) e ∙ level_from-links Or (read_and p) mid rest c ls ds m
  level-chain And k mid rest c ls t e ds m = bind (level_from And (read_not p)) e ∙ level_from-links And (read_not p) mid rest c ls ds m
  level-chain Equal k mid rest c ls t o ds m = absurd cc
  level-chain Rel k mid rest c ls t o ds m = absurd cc
  level-chain Sum k mid rest c ls t o ds m = opens-step (prod_from p) (level_from Sum (read_prod p)) k mid rest c (tree.Chain c (links_of ls)) o (level_from-links Sum (read_prod p) mid rest c ls ds m) (λ z. Links-no_count tt ds)
  level-chain Shift k mid rest c ls t o ds m = opens-step (sum_from p) (level_from Shift (read_sum p)) k mid rest c (tree.Chain c (links_of ls)) o (level_from-links Shift (read_sum p) mid rest c ls ds m) (λ z. Links-no_count tt ds)
  level-chain Band k mid rest c ls t o ds m = opens-step (shift_from p) (level_from Band (read_shift p)) k mid rest c (tree.Chain c (links_of ls)) o (level_from-links Band (read_shift p) mid rest c ls ds m) (λ z. Links-no_count tt ds)
  level-chain Bxor k mid rest c ls t o ds m = opens-step (band_from p) (level_from Bxor (read_band p)) k mid rest c (tree.Chain c (links_of ls)) o (level_from-links Bxor (read_band p) mid rest c ls ds m) (λ z. Links-no_count tt ds)
  level-chain Bits k mid rest c ls t o ds m = opens-step (bxor_from p) (level_from Bits (read_bxor p)) k mid rest c (tree.Chain c (links_of ls)) o (level_from-links Bits (read_bxor p) mid rest c ls ds m) (λ z. Links-no_count tt ds)
  level-chain Prod k mid rest c ls t e ds m =
      record { u = c; more = mid; opening = e; going = level_from-links Prod (read_unary p) mid rest c ls ds m; apart = λ z. Links-no_count tt ds }

  -- a level of a comparison
  pub level-pair : (l : Level) (o : Infix) (k mid rest : Terminals) (c : Condition) (y : OneLink) → repeats l ≡ false → Done (operand l) k c (Operator o ∷ mid)
      → next_link l (read (operand l)) (Operator o ∷ mid) ≡ Some (Some y, rest) → NoCount (Operator o ∷ mid) → Done (level l) k (tree.Chain c (links_of (y ∷ []))) rest
  unfolding rel_from equal_from
  level-pair Equal o k mid rest c y t d e n =
      opens-step (rel_from p) (equal_rest p) k (Operator o ∷ mid) rest c (tree.Chain c (links_of (y ∷ []))) d (equal_rest-link o mid rest c y e) (λ z. n)
  level-pair Rel o k mid rest c y t d e n =
      opens-step (bits_from p) (pair_from Rel (read_bits p)) k (Operator o ∷ mid) rest c (tree.Chain c (links_of (y ∷ []))) d
      (pair_from-link Rel (read_bits p) (Operator o ∷ mid) rest c y e) (λ z. n)
  level-pair _ o k mid rest c y t d e n = absurd cc

  pub level-matches : (k rest : Terminals) (c : Condition) (r : RegexTree) → Opens (rel_from p) k c (Sign sign.Matches ∷ Regex r ∷ rest) → NoCount (Sign sign.Matches ∷ Regex r ∷ rest)
      → Opens (equal_from p) k (tree.Matches c r) rest
  unfolding equal_from
  level-matches k rest c r o n =
      opens-step (rel_from p) (equal_rest p) k (Sign sign.Matches ∷ Regex r ∷ rest) rest c (tree.Matches c r) o (equal_rest-matches rest c r) (λ z. n)

  -- ---- brackets

  pub closed-is : (e : Entry) (s : SignType) (k rest : Terminals) (c : Condition) → p e k ≡ Some (c, Sign s ∷ rest) → read_closed p e s k ≡ Some (c, rest)
  unfolding read_closed
  closed-is e s k rest c h = bind (λ c. expect s >>= λ _. pure c) h ∙ expect-on s (pure c) rest

  pub range-is : (k more rest : Terminals) (low high : Condition) → p entry.Bits k ≡ Some (low, Sign sign.DotDot ∷ more)
      → range_from p low more ≡ Some (record { low = low; high = high }, rest) → read_range p (Sign sign.Open ∷ k) ≡ Some (record { low = low; high = high }, rest)
  unfolding read_range
  range-is k more rest low high e f =
      expect-on sign.Open (read_closed p entry.Bits sign.DotDot >>= range_from p) k ∙ bind (range_from p) (closed-is entry.Bits sign.DotDot k more low e) ∙ f

  pub range_from-is : (k rest : Terminals) (low high : Condition) → p entry.Bits k ≡ Some (high, Sign sign.Close ∷ rest)
      → range_from p low k ≡ Some (record { low = low; high = high }, rest)
  unfolding range_from
  range_from-is k rest low high e = bind (λ (h : Condition). pure (record { low = low; high = h })) (closed-is entry.Bits sign.Close k rest high e)

  -- the items of a list
  pub items_from-is : (k rest : Terminals) (cs : List Condition) (s : Split (p entry.Bits) k cs (Sign sign.Close ∷ rest)) → items_from p s.x s.mid ≡ Some (cs, rest)
  unfolding items_from next_item
  items_from-is k rest cs s =
      bind (λ xs. expect sign.Close >>= λ _. pure (s.x ∷ xs)) (s.more (length s.mid) (omega arith)) ∙ expect-on sign.Close (pure (s.x ∷ s.others)) rest
      ∙ ap (λ ys. Some (ys, rest)) s.all

  pub items-is : (k rest : Terminals) (cs : List Condition) → Split (p entry.Bits) k cs (Sign sign.Close ∷ rest) → read_items p k ≡ Some (cs, rest)
  unfolding read_items
  items-is k rest cs s = bind (items_from p) s.read ∙ items_from-is k rest cs s

  -- ---- paths

  bracket-no_dot : (k : Terminals) → sees sign.Dot (Sign sign.OpenBracket ∷ k) ≡ false
  unfolding sees same_sign
  bracket-no_dot k = refl

  open-no_dot : (k : Terminals) → sees sign.Dot (Sign sign.Open ∷ k) ≡ false
  unfolding sees same_sign
  open-no_dot k = refl

  open-no_bracket : (k : Terminals) → sees sign.OpenBracket (Sign sign.Open ∷ k) ≡ false
  unfolding sees same_sign
  open-no_bracket k = refl

  pub step-none : (k : Terminals) → binds k < 11 → next_step p k ≡ Some (None, k)
  unfolding next_step step_index step_other
  step-none k h =
      eat-no sign.Dot (read_field p) (step_index p) k (sees-weaker sign.Dot k h)
      ∙ eat-no sign.OpenBracket (read_index p) (step_other p) k (sees-weaker sign.OpenBracket k h)
      ∙ eat-no sign.Open (read_call p) no_more k (sees-weaker sign.Open k h)

  pub step-name : (w : List ℕ) (k : Terminals) → next_step p (Sign sign.Dot ∷ Word w ∷ k) ≡ Some (Some (tree.Name w), k)
  unfolding next_step read_field read_word
  step-name w k = eat-yes sign.Dot (read_field p) (step_index p) (Word w ∷ k)

  pub step-index : (k rest : Terminals) (c : Condition) → p entry.Bits k ≡ Some (c, Sign sign.CloseBracket ∷ rest) → next_step p (Sign sign.OpenBracket ∷ k) ≡ Some (Some (tree.Index c), rest)
  unfolding next_step step_index read_index
  step-index k rest c e =
      eat-no sign.Dot (read_field p) (step_index p) (Sign sign.OpenBracket ∷ k) (bracket-no_dot k)
      ∙ eat-yes sign.OpenBracket (read_index p) (step_other p) k ∙ bind (λ c. pure (Some (tree.Index c))) (closed-is entry.Bits sign.CloseBracket k rest c e)

  step-open : (k : Terminals) → next_step p (Sign sign.Open ∷ k) ≡ read_call p k
  unfolding next_step step_index step_other
  step-open k =
      eat-no sign.Dot (read_field p) (step_index p) (Sign sign.Open ∷ k) (open-no_dot k)
      ∙ eat-no sign.OpenBracket (read_index p) (step_other p) (Sign sign.Open ∷ k) (open-no_bracket k)
      ∙ eat-yes sign.Open (read_call p) no_more k

  pub step-empty : (k : Terminals) → next_step p (Sign sign.Open ∷ Sign sign.Close ∷ k) ≡ Some (Some (tree.Call []), k)
  unfolding read_call
  step-empty k = step-open (Sign sign.Close ∷ k) ∙ eat-yes sign.Close (pure (Some (tree.Call []))) ((λ cs. Some (tree.Call cs)) <$> read_items p) k

  pub step-call : (k rest : Terminals) (cs : List Condition) → sees sign.Close k ≡ false → read_items p k ≡ Some (cs, rest) → next_step p (Sign sign.Open ∷ k) ≡ Some (Some (tree.Call cs), rest)
  unfolding read_call
  step-call k rest cs e h =
      step-open k ∙ eat-no sign.Close (pure (Some (tree.Call []))) ((λ cs. Some (tree.Call cs)) <$> read_items p) k e ∙ bind (λ cs. pure (Some (tree.Call cs))) h

  pub path_from-is : (w : List ℕ) (k rest : Terminals) (ss : List OneStep) → many (next_step p) (length k) k ≡ Some (ss, rest) → path_from p w k ≡ Some (tree.Name w ∷ ss, rest)
  unfolding path_from
  path_from-is w k rest ss e = bind (λ ss. pure (tree.Name w ∷ ss)) e

  -- ---- primaries

  pub primary-brackets : (k rest : Terminals) (c : Condition) → p entry.Or k ≡ Some (c, Sign sign.Close ∷ rest) → read_primary p (Sign sign.Open ∷ k) ≡ Some (c, rest)
  unfolding read_primary primary_sign
  primary-brackets k rest c e =
      eat-no sign.FileSize (pure tree.FileSize) (expect sign.Open >>= λ _. read_closed p entry.Or sign.Close) (Sign sign.Open ∷ k) (open-no_size k)
      ∙ expect-on sign.Open (read_closed p entry.Or sign.Close) k ∙ closed-is entry.Or sign.Close k rest c e

  pub primary-size : (k : Terminals) → read_primary p (Sign sign.FileSize ∷ k) ≡ Some (tree.FileSize, k)
  unfolding read_primary primary_sign
  primary-size k = eat-yes sign.FileSize (pure tree.FileSize) (expect sign.Open >>= λ _. read_closed p entry.Or sign.Close) k

  pub primary-reader : (r : Reader) (k rest : Terminals) (c : Condition) → p entry.Bits k ≡ Some (c, Sign sign.Close ∷ rest) → read_primary p (Read r ∷ Sign sign.Open ∷ k) ≡ Some (tree.Read r c, rest)
  unfolding read_primary read_reader
  primary-reader r k rest c e =
      expect-on sign.Open (read_closed p entry.Bits sign.Close >>= λ c. pure (tree.Read r c)) k ∙ bind (λ c. pure (tree.Read r c)) (closed-is entry.Bits sign.Close k rest c e)

  pub primary-count : (w : List ℕ) (k : Terminals) → binds k < 11 → read_primary p (CountName w ∷ k) ≡ Some (tree.Count w, k)
  unfolding read_primary primary_name count_from
  primary-count w k h = eat-no sign.In ((λ (r : Bounds). tree.CountIn w r.low r.high) <$> read_range p) (pure (tree.Count w)) k (sees-weaker sign.In k h)

  pub primary-count_in : (w : List ℕ) (k rest : Terminals) (low high : Condition) → read_range p k ≡ Some (record { low = low; high = high }, rest)
      → read_primary p (CountName w ∷ Sign sign.In ∷ k) ≡ Some (tree.CountIn w low high, rest)
  unfolding read_primary primary_name count_from
  primary-count_in w k rest low high e =
      eat-yes sign.In ((λ (r : Bounds). tree.CountIn w r.low r.high) <$> read_range p) (pure (tree.Count w)) k ∙ bind (λ (r : Bounds). pure (tree.CountIn w r.low r.high)) e

  pub primary-offset : (w : List ℕ) (k : Terminals) → binds k < 11 → read_primary p (PlaceName w ∷ k) ≡ Some (tree.Offset w, k)
  unfolding read_primary primary_name offset_from
  primary-offset w k h = eat-no sign.OpenBracket (tree.OffsetAt w <$> read_closed p entry.Bits sign.CloseBracket) (pure (tree.Offset w)) k (sees-weaker sign.OpenBracket k h)

  pub primary-offset_at : (w : List ℕ) (k rest : Terminals) (c : Condition) → p entry.Bits k ≡ Some (c, Sign sign.CloseBracket ∷ rest)
      → read_primary p (PlaceName w ∷ Sign sign.OpenBracket ∷ k) ≡ Some (tree.OffsetAt w c, rest)
  unfolding read_primary primary_name offset_from
  primary-offset_at w k rest c e =
      eat-yes sign.OpenBracket (tree.OffsetAt w <$> read_closed p entry.Bits sign.CloseBracket) (pure (tree.Offset w)) k
      ∙ bind (λ c. pure (tree.OffsetAt w c)) (closed-is entry.Bits sign.CloseBracket k rest c e)

  pub primary-length : (w : List ℕ) (k : Terminals) → binds k < 11 → read_primary p (LengthName w ∷ k) ≡ Some (tree.Length w, k)
  unfolding read_primary primary_name length_from
  primary-length w k h = eat-no sign.OpenBracket (tree.LengthAt w <$> read_closed p entry.Bits sign.CloseBracket) (pure (tree.Length w)) k (sees-weaker sign.OpenBracket k h)

  pub primary-length_at : (w : List ℕ) (k rest : Terminals) (c : Condition) → p entry.Bits k ≡ Some (c, Sign sign.CloseBracket ∷ rest)
      → read_primary p (LengthName w ∷ Sign sign.OpenBracket ∷ k) ≡ Some (tree.LengthAt w c, rest)
  unfolding read_primary primary_name length_from
  primary-length_at w k rest c e =
      eat-yes sign.OpenBracket (tree.LengthAt w <$> read_closed p entry.Bits sign.CloseBracket) (pure (tree.Length w)) k
      ∙ bind (λ c. pure (tree.LengthAt w c)) (closed-is entry.Bits sign.CloseBracket k rest c e)

  pub primary-path : (w : List ℕ) (k rest : Terminals) (ss : List OneStep) → path_from p w k ≡ Some (tree.Name w ∷ ss, rest)
      → read_primary p (Word w ∷ k) ≡ Some (tree.Path (steps_of (tree.Name w ∷ ss)), rest)
  unfolding read_primary primary_name read_path
  primary-path w k rest ss e = bind (λ ss. pure (tree.Path (steps_of ss))) e

  pub unary-bare : (k : Terminals) → prefix_at k ≡ None → read_unary p k ≡ read_primary p k
  unary-bare k e = unary_at p k ∙ ap (λ o. prefix_by o (read_unary p (tail k)) (read_primary p k)) e

  pub not-plain : (k : Terminals) → negates_at k ≡ None → read_not p k ≡ read_test p k
  not-plain k e = not_at p k ∙ ap (λ o. prefix_by o (read_not p (tail k)) (read_test p k)) e

  -- ---- tests

  pub place-none : (k : Terminals) → binds k < 11 → read_place p k ≡ Some (tree.Anywhere, k)
  unfolding read_place place_in
  place-none k h =
      eat-no sign.At (place_at p) (place_in p) k (sees-weaker sign.At k h)
      ∙ eat-no sign.In ((λ (r : Bounds). tree.Within r.low r.high) <$> read_range p) (pure tree.Anywhere) k (sees-weaker sign.In k h)

  pub place-at : (k rest : Terminals) (c : Condition) → read_bits p k ≡ Some (c, rest) → read_place p (Sign sign.At ∷ k) ≡ Some (tree.At c, rest)
  unfolding read_place place_at
  place-at k rest c e = eat-yes sign.At (place_at p) (place_in p) k ∙ bind (λ c. pure (tree.At c)) e

  in-no_at : (k : Terminals) → sees sign.At (Sign sign.In ∷ k) ≡ false
  unfolding sees same_sign
  in-no_at k = refl

  pub place-in : (k rest : Terminals) (low high : Condition) → read_range p k ≡ Some (record { low = low; high = high }, rest)
      → read_place p (Sign sign.In ∷ k) ≡ Some (tree.Within low high, rest)
  unfolding read_place place_in
  place-in k rest low high e =
      eat-no sign.At (place_at p) (place_in p) (Sign sign.In ∷ k) (in-no_at k)
      ∙ eat-yes sign.In ((λ (r : Bounds). tree.Within r.low r.high) <$> read_range p) (pure tree.Anywhere) k ∙ bind (λ (r : Bounds). pure (tree.Within r.low r.high)) e

  pub test-found : (w : List ℕ) (k rest : Terminals) (x : Where) → read_place p k ≡ Some (x, rest) → read_test p (StringName w ∷ k) ≡ Some (tree.Found w x, rest)
  unfolding read_test string_at found_from
  test-found w k rest x e = bind (λ x. pure (tree.Found w x)) e

  pub of_from-is : (q : Asked) (k mid rest : Terminals) (s : SetTree) (x : Where) → read_set k ≡ Some (s, mid) → read_place p mid ≡ Some (x, rest)
      → of_from p q k ≡ Some (tree.Of q s x, rest)
  unfolding of_from
  of_from-is q k mid rest s x e f = bind (λ s. read_place p >>= λ x. pure (tree.Of q s x)) e ∙ bind (λ x. pure (tree.Of q s x)) f

  pub test-all : (k : Terminals) → read_test p (Sign sign.All ∷ Sign sign.Of ∷ k) ≡ of_from p tree.All k
  unfolding read_test string_at test_other test_count count_at sees same_sign after expect
  test-all k = refl

  pub test-any : (k : Terminals) → read_test p (Sign sign.Any ∷ Sign sign.Of ∷ k) ≡ of_from p tree.Any k
  unfolding read_test string_at test_other test_count count_at sees same_sign after expect
  test-any k = refl

  pub test-none : (k : Terminals) → read_test p (Sign sign.None ∷ Sign sign.Of ∷ k) ≡ of_from p tree.Nil k
  unfolding read_test string_at test_other test_count count_at sees same_sign after expect
  test-none k = refl

  pub test-unary : (k : Terminals) → Begins k → read_test p k ≡ and_then (read_unary p k) (test_from p)
  unfolding read_test test_other test_count
  test-unary k b =
      ap (λ w. test_by p w k) b.no_string ∙ eat-no sign.For (read_for p) (test_count p) k b.no_for ∙ ap (λ q. counted_by p q k) b.no_count

  pub test_from-of : (u : Condition) (k : Terminals) → test_from p u (Sign sign.Of ∷ k) ≡ of_from p (tree.AtLeast u) k
  unfolding test_from
  test_from-of u k = eat-yes sign.Of (of_from p (tree.AtLeast u)) (percent_from p u) k

  percent-no_of : (k : Terminals) → sees sign.Of (Operator op.Remainder ∷ k) ≡ false
  unfolding sees
  percent-no_of k = refl

  percent-is : (k : Terminals) → sees_percent_of (Operator op.Remainder ∷ Sign sign.Of ∷ k) ≡ true
  unfolding sees_percent_of sees_operator same_operator sees same_sign
  percent-is k = refl

  pub test_from-percent : (u : Condition) (k : Terminals) → test_from p u (Operator op.Remainder ∷ Sign sign.Of ∷ k) ≡ of_from p (tree.Percent u) k
  unfolding test_from percent_from
  test_from-percent u k =
      eat-no sign.Of (of_from p (tree.AtLeast u)) (percent_from p u) (Operator op.Remainder ∷ Sign sign.Of ∷ k) (percent-no_of (Sign sign.Of ∷ k))
      ∙ ap (λ b. percent_by p b u (Operator op.Remainder ∷ Sign sign.Of ∷ k)) (percent-is k)

  pub test_from-equal : (u : Condition) (k : Terminals) → NoCount k → test_from p u k ≡ equal_from p u k
  unfolding test_from percent_from
  test_from-equal u k n =
      eat-no sign.Of (of_from p (tree.AtLeast u)) (percent_from p u) k n.no_of ∙ ap (λ b. percent_by p b u k) n.no_percent

  pub count-unary : (k rest : Terminals) (c : Condition) → count_at k ≡ None → read_unary p k ≡ Some (c, rest) → read_count p k ≡ Some (tree.AtLeast c, rest)
  unfolding read_count
  count-unary k rest c e f = ap (λ q. count_by p q k) e ∙ bind (λ c. pure (tree.AtLeast c)) f

  pub count-all : (k : Terminals) → read_count p (Sign sign.All ∷ k) ≡ Some (tree.All, k)
  unfolding read_count count_at
  count-all k = refl

  pub count-any : (k : Terminals) → read_count p (Sign sign.Any ∷ k) ≡ Some (tree.Any, k)
  unfolding read_count count_at
  count-any k = refl

  pub count-none : (k : Terminals) → read_count p (Sign sign.None ∷ k) ≡ Some (tree.Nil, k)
  unfolding read_count count_at
  count-none k = refl

  -- ---- loops

  pub body-is : (k rest : Terminals) (c : Condition) → p entry.Or k ≡ Some (c, Sign sign.Close ∷ rest) → read_body p (Sign sign.Colon ∷ Sign sign.Open ∷ k) ≡ Some (c, rest)
  unfolding read_body
  body-is k rest c e =
      expect-on sign.Colon (expect sign.Open >>= λ _. read_closed p entry.Or sign.Close) (Sign sign.Open ∷ k)
      ∙ expect-on sign.Open (read_closed p entry.Or sign.Close) k ∙ closed-is entry.Or sign.Close k rest c e

  pub over-range : (k more rest : Terminals) (low high : Condition) → p entry.Bits k ≡ Some (low, Sign sign.DotDot ∷ more)
      → range_from p low more ≡ Some (record { low = low; high = high }, rest) → read_over p (Sign sign.Open ∷ k) ≡ Some (tree.OverRange low high, rest)
  unfolding read_over over_brackets over_from
  over-range k more rest low high e f =
      eat-yes sign.Open (over_brackets p) (reading.over_path p) k ∙ bind (over_from p) e
      ∙ eat-yes sign.DotDot ((λ (b : Bounds). tree.OverRange b.low b.high) <$> range_from p low) ((λ cs. tree.OverList (items_of cs)) <$> items_from p low) more
      ∙ bind (λ (b : Bounds). pure (tree.OverRange b.low b.high)) f

  pub over-list : (k rest : Terminals) (cs : List Condition) (s : Split (p entry.Bits) k cs (Sign sign.Close ∷ rest)) → sees sign.DotDot s.mid ≡ false
      → read_over p (Sign sign.Open ∷ k) ≡ Some (tree.OverList (items_of cs), rest)
  unfolding read_over over_brackets over_from
  over-list k rest cs s e =
      eat-yes sign.Open (over_brackets p) (reading.over_path p) k ∙ bind (over_from p) s.read
      ∙ eat-no sign.DotDot ((λ (b : Bounds). tree.OverRange b.low b.high) <$> range_from p s.x) ((λ cs. tree.OverList (items_of cs)) <$> items_from p s.x) s.mid e
      ∙ bind (λ cs. pure (tree.OverList (items_of cs))) (items_from-is k rest cs s)

  pub over-path : (w : List ℕ) (k rest : Terminals) (ss : List OneStep) → path_from p w k ≡ Some (tree.Name w ∷ ss, rest)
      → read_over p (Word w ∷ k) ≡ Some (tree.OverPath (steps_of (tree.Name w ∷ ss)), rest)
  unfolding read_over reading.over_path read_word
  over-path w k rest ss e =
      eat-no sign.Open (over_brackets p) (reading.over_path p) (Word w ∷ k) (word-no_open w k) ∙ bind (λ ss. pure (tree.OverPath (steps_of ss))) e

  test-for : (k : Terminals) → read_test p (Sign sign.For ∷ k) ≡ read_for p k
  unfolding read_test string_at test_other
  test-for k = eat-yes sign.For (read_for p) (test_count p) k

  pub test-for_of : (k more mid rest : Terminals) (q : Asked) (s : SetTree) (c : Condition) → read_count p k ≡ Some (q, Sign sign.Of ∷ more) → read_set more ≡ Some (s, mid)
      → read_body p mid ≡ Some (c, rest) → read_test p (Sign sign.For ∷ k) ≡ Some (tree.ForOf q s c, rest)
  unfolding read_for for_of_from
  test-for_of k more mid rest q s c e f g =
      test-for k ∙ bind (λ q. eat sign.Of >>= λ b. if b then for_of_from p q else for_in_from p q) e
      ∙ eat-yes sign.Of (for_of_from p q) (for_in_from p q) more ∙ bind (λ s. read_body p >>= λ c. pure (tree.ForOf q s c)) f ∙ bind (λ c. pure (tree.ForOf q s c)) g

  pub test-for_in : (w : List ℕ) (k more mid rest : Terminals) (q : Asked) (x : Domain) (c : Condition) → read_count p k ≡ Some (q, Word w ∷ Sign sign.In ∷ more)
      → read_over p more ≡ Some (x, mid) → read_body p mid ≡ Some (c, rest) → read_test p (Sign sign.For ∷ k) ≡ Some (tree.ForIn q w x c, rest)
  unfolding read_for for_in_from read_word
  test-for_in w k more mid rest q x c e f g =
      test-for k ∙ bind (λ q. eat sign.Of >>= λ b. if b then for_of_from p q else for_in_from p q) e
      ∙ eat-no sign.Of (for_of_from p q) (for_in_from p q) (Word w ∷ Sign sign.In ∷ more) (word-no_of w (Sign sign.In ∷ more))
      ∙ expect-on sign.In (read_over p >>= λ x. read_body p >>= λ c. pure (tree.ForIn q w x c)) more
      ∙ bind (λ x. read_body p >>= λ c. pure (tree.ForIn q w x c)) f ∙ bind (λ c. pure (tree.ForIn q w x c)) g
