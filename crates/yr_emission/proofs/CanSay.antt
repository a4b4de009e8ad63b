-- What the rows of a checked condition say can be said.
use Rattle.std.proofs.Common.{◌≡◌, ℕ, ◌+◌, ◌<◌, Bool, true, false, List, [], ◌∷◌, ◌++◌, length, Option, Some, None, refl, sym, ap, ◌∙◌, subst, arith}
use Rattle.yr_base.specs.declared.value.Kind.{Kind}
use Rattle.yr_base.specs.declared.value.Kind.TheVariants as kind
use Rattle.yr_syntax.specs.declared.operator.PrefixOp.{PrefixOp}
use Rattle.yr_syntax.specs.declared.operator.PrefixOp.TheVariants as prefix
use Rattle.yr_syntax.specs.declared.operator.Infix.{Infix}
use Rattle.yr_syntax.specs.declared.operator.Infix.TheVariants as op
use Rattle.yr_rules.specs.NodeTree.{NodeTree, NodeLinks, NodeItems, NodeWhere, NodeAsked, NodeDomain, Strings, Rules, Number, Text, Flag, FileSize, External, RuleTruth, Var, Field, FieldAt, Call, Found, Count, CountIn, Offset, OffsetAt, Length, LengthAt, Read, Prefix, Chain, Matches, Of, ForOf, ForIn, no_link, link, no_item, item, Anywhere, At, Within, All as Every, Any, Nil, AtLeast, Percent, OverRange, OverList, OverEntries}
use Rattle.yr_rules.specs.Rules.{PlainExternal}
use Rattle.yr_rules.specs.Loops.{Loop, Members, loop_over}
use Rattle.yr_rules.specs.Kinds.{of_number, of_numbers, of_value, of_ordered, infix_kind, place_fits, kind_of, links_kind, place_kind, asked_kind, loop_asked_kind, domain_kind, items_kind}
use Rattle.yr_rules.specs.Fits.{Rows, Fits, LinksFit, ItemsFit, PlaceFits, AskedFits, DomainFits, count_of as items_in}
use Rattle.yr_rules.specs.declared.members.StringRef.{StringRef}
use Rattle.yr_image.specs.declared.instruction.Comparison.TheVariants as comparison
use Rattle.yr_image.specs.declared.instruction.Instruction.{Instruction}
use Rattle.yr_image.specs.declared.instruction.Instruction.TheVariants as i
use Rattle.yr_image.specs.Instructions.{compares}
use Rattle.yr_emission.specs.Parts.{Line, exactly, Part, one, pattern_part, nothing, both, skipping, looping, set_part, prefix_row, infix_row, infix_answer, known_kind, value_kind, skips_at, skip_row, link_part, link_part_by, name_of, found_row, quantifier_row, form_of, numbers_of, loop_row, strings_row, part_of, links_part, place_part, asked_part, domain_part, items_part}
use Rattle.yr_image.specs.Sayable.{LoopAsks, IsSayable}
use Rattle.yr_emission.specs.Sayable.{AreSayable}
use Rattle.yr_emission.specs.Setting.{IsKinded}
use Rattle.yr_emission.proofs.KindFacts.{nothing as no_kind, second, number_asks, numbers_ask, text_asks, value_asks, first_asked, where_made}
use Rattle.yr_emission.proofs.OperatorFacts.{infix_asks, infix_makes, links_ask}
use Rattle.yr_emission.proofs.GivenKinds.{value_known}
use Rattle.yr_emission.proofs.Runs.{kinded, index_kinded, AskedKnown, asked_known, loop_asked_known, PlaceKnown, place_known, prefix_asks, number_asked, items_known}

pub sayable_append : (ls ms : List Line) → AreSayable ls → AreSayable ms → AreSayable (ls ++ ms)
sayable_append [] ms s t = t
sayable_append (l ∷ ls) ms s t = (s.0, sayable_append ls ms s.1 t)

-- wherever the part stands
pub record CanSay (x : Part) : Type 0 where
  pub each : (b a : ℕ) → AreSayable (x.rows b a)

pub can_one : (r : Instruction) → IsSayable r → CanSay (one r)
can_one r s = record { each = λ b a. (s, tt) }

can_nothing : CanSay nothing
can_nothing = record { each = λ b a. tt }

pub can_both : (x y : Part) → CanSay x → CanSay y → CanSay (both x y)
can_both x y s t = record { each = λ b a. sayable_append (x.rows b a) (y.rows (b + x.size) (a + length x.lists)) (s.each b a) (t.each (b + x.size) (a + length x.lists)) }

-- one that takes the value of the part before it
can_after : (x : Part) (r : Instruction) → CanSay x → IsSayable r → CanSay (both x (one r))
can_after x r s t = can_both x (one r) s (can_one r t)

skip_sayable : (leaves : Bool) (e : ℕ) → IsSayable (skip_row leaves e)
skip_sayable true e = tt
skip_sayable false e = tt

can_skipping : (leaves : Bool) (x : Part) → CanSay x → CanSay (skipping (skip_row leaves) x)
can_skipping leaves x s = record { each = λ b a. (tt, (skip_sayable leaves (b + x.size + 4), sayable_append (x.rows (b + 1 + 1) a) (exactly i.Truth ∷ exactly i.Settle ∷ []) (s.each (b + 1 + 1) a) (tt, (tt, tt)))) }

can_looping : (begin : ℕ → ℕ → Instruction) (members : List ℕ) (x : Part) → ((e a : ℕ) → IsSayable (begin e a)) → CanSay x → CanSay (looping begin members x)
can_looping begin members x t s = record { each = λ b a. (t (b + x.size + 3) a, sayable_append (x.rows (b + 1) (a + length members)) (exactly i.Truth ∷ exactly (i.LoopEnd b) ∷ []) (s.each (b + 1) (a + length members)) (tt, (tt, tt))) }

-- ---- operators

ordered_compares : (P : Kind → Type 0) (o p : Option Kind) (k : Kind) → P kind.Number → P kind.Text → of_ordered o p ≡ Some k → P (known_kind o)
ordered_compares P (Some kind.Number) (Some kind.Number) k n t h = n
ordered_compares P (Some kind.Text) (Some kind.Text) k n t h = t
ordered_compares P o p k n t h = absurd (no_kind k h)

infix_sayable : (o : Infix) (j l : Option Kind) (k : Kind) → infix_kind o j l ≡ Some k → IsSayable (infix_row o (known_kind j))
infix_sayable op.Equal j l k h = refl
infix_sayable op.NotEqual j l k h = refl
infix_sayable op.Less j l k h = ordered_compares (λ m. compares comparison.Less m ≡ true) j l k refl refl h
infix_sayable op.LessOrEqual j l k h = ordered_compares (λ m. compares comparison.LessOrEqual m ≡ true) j l k refl refl h
infix_sayable op.Greater j l k h = ordered_compares (λ m. compares comparison.Greater m ≡ true) j l k refl refl h
infix_sayable op.GreaterOrEqual j l k h = ordered_compares (λ m. compares comparison.GreaterOrEqual m ≡ true) j l k refl refl h
infix_sayable op.Or j l k h = tt
infix_sayable op.And j l k h = tt
infix_sayable op.Contains j l k h = tt
infix_sayable op.IContains j l k h = tt
infix_sayable op.StartsWith j l k h = tt
infix_sayable op.IStartsWith j l k h = tt
infix_sayable op.EndsWith j l k h = tt
infix_sayable op.IEndsWith j l k h = tt
infix_sayable op.IEquals j l k h = tt
infix_sayable op.BitOr j l k h = tt
infix_sayable op.BitXor j l k h = tt
infix_sayable op.BitAnd j l k h = tt
infix_sayable op.ShiftLeft j l k h = tt
infix_sayable op.ShiftRight j l k h = tt
infix_sayable op.Add j l k h = tt
infix_sayable op.Subtract j l k h = tt
infix_sayable op.Multiply j l k h = tt
infix_sayable op.Divide j l k h = tt
infix_sayable op.Remainder j l k h = tt

prefix_sayable : (o : PrefixOp) → IsSayable (prefix_row o)
prefix_sayable prefix.Minus = tt
prefix_sayable prefix.Flip = tt
prefix_sayable prefix.Not = tt
prefix_sayable prefix.Defined = tt

found_sayable : (place : NodeWhere) (s : StringRef) → IsSayable (found_row place (name_of s))
found_sayable Anywhere s = tt
found_sayable (At c) s = tt
found_sayable (Within low high) s = tt

can_link : (o : Infix) (skips : Option Bool) (j l : Option Kind) (k : Kind) (x : Part) → skips_at o ≡ skips → infix_kind o j l ≡ Some k → CanSay x → CanSay (link_part_by skips (infix_row o (known_kind j)) x)
can_link o None j l k x e h s = can_after x (infix_row o (known_kind j)) s (infix_sayable o j l k h)
can_link o (Some leaves) j l k x e h s = can_skipping leaves x s

module _ (rows : Rows) (externals : List PlainExternal) where
  loop_asks : (asked : NodeAsked) (loops : List Loop) (k : Kind) → loop_asked_kind externals asked loops ≡ Some k → LoopAsks (quantifier_row asked)
  loop_asks Every loops k h = tt
  loop_asks Any loops k h = tt
  loop_asks Nil loops k h = tt
  loop_asks (AtLeast c) loops k h = tt
  loop_asks (Percent c) loops k h = absurd (no_kind k h)

  some_items : (items : NodeItems) (loops : List Loop) (k : Kind) → domain_kind externals (OverList items) loops ≡ Some k → 0 < items_in items
  some_items no_item loops k h = absurd (no_kind k h)
  some_items (item c rest) loops k h = omega arith

  begins : (asked : NodeAsked) (domain : NodeDomain) (loops : List Loop) (k m : Kind) → loop_asked_kind externals asked loops ≡ Some k → domain_kind externals domain loops ≡ Some m → DomainFits rows domain loops
      → (e a : ℕ) → IsSayable (loop_row asked domain e a)
  begins asked (OverRange low high) loops k m h d f e a = loop_asks asked loops k h
  begins asked (OverEntries id) loops k m h d f e a = loop_asks asked loops k h
  begins asked (OverList items) loops k m h d f e a = (loop_asks asked loops k h, some_items items loops m d, f.0)

  abbrev part : NodeTree → Part
  part c = part_of externals c

  mutual
    pub can_say : (c : NodeTree) (loops : List Loop) (k : Kind) → IsKinded externals c loops k → Fits rows c loops → CanSay (part_of externals c)
    can_say (Number n) loops k g f = can_one _ tt
    can_say (Text t) loops k g f = record { each = λ b a. (tt, tt) }
    can_say (Flag b) loops k g f = can_one _ tt
    can_say FileSize loops k g f = can_one _ tt
    can_say (External n) loops k g f = can_one _ tt
    can_say (RuleTruth n) loops k g f = can_one _ tt
    can_say (Var d) loops k g f = can_one _ tt
    can_say (Field id kd) loops k g f = can_one _ tt
    can_say (FieldAt id kd index) loops k g f = can_after (part index) _ (can_say index loops kind.Number (index_kinded externals index loops kd k g) f) tt
    can_say (Call id kd from size) loops k g f =
        let ks = numbers_ask (kind_of externals from loops) (kind_of externals size loops) kd k g in
        can_both (part from) (both (part size) (one (i.Call id))) (can_say from loops kind.Number (kinded externals from loops kind.Number ks.0) f.0)
        (can_after (part size) (i.Call id) (can_say size loops kind.Number (kinded externals size loops kind.Number ks.1) f.1) tt)
    can_say (Found string place) loops k g f =
        let t = number_asked externals (place_kind externals place loops) kind.Flag k g in
        can_after (place_part externals place) (found_row place (name_of string)) (can_say_place place loops (place_known externals place loops t.0 t.1) f.1) (found_sayable place string)
    can_say (Count string) loops k g f = can_one _ tt
    can_say (CountIn string low high) loops k g f =
        let ks = numbers_ask (kind_of externals low loops) (kind_of externals high loops) kind.Number k g in
        can_both (part low) (both (part high) (one (i.CountIn (name_of string)))) (can_say low loops kind.Number (kinded externals low loops kind.Number ks.0) f.1)
        (can_after (part high) (i.CountIn (name_of string)) (can_say high loops kind.Number (kinded externals high loops kind.Number ks.1) f.2) tt)
    can_say (Offset string) loops k g f = record { each = λ b a. (tt, (tt, tt)) }
    can_say (OffsetAt string index) loops k g f = can_after (part index) _ (can_say index loops kind.Number (kinded externals index loops kind.Number (number_asks (kind_of externals index loops) kind.Number k g)) f.1) tt
    can_say (Length string) loops k g f = record { each = λ b a. (tt, (tt, tt)) }
    can_say (LengthAt string index) loops k g f = can_after (part index) _ (can_say index loops kind.Number (kinded externals index loops kind.Number (number_asks (kind_of externals index loops) kind.Number k g)) f.1) tt
    can_say (Read reader at) loops k g f = can_after (part at) _ (can_say at loops kind.Number (kinded externals at loops kind.Number (number_asks (kind_of externals at loops) kind.Number k g)) f) tt
    can_say (Prefix o inner) loops k g f =
        let j = prefix_asks externals o (kind_of externals inner loops) k g in
        can_after (part inner) (prefix_row o) (can_say inner loops j.0 (kinded externals inner loops j.0 j.1) f) (prefix_sayable o)
    can_say (Chain first rest) loops k g f =
        let before = kind_of externals first loops in let j = links_ask externals rest before loops k g in
        let y = can_say_links rest before loops k g f.1 in
        let P : Kind → Type 0 = λ q. CanSay (links_part externals rest q) in
        can_both (part first) (links_part externals rest (value_kind externals first)) (can_say first loops j.0 (kinded externals first loops j.0 j.1) f.0)
        (subst P (ap known_kind j.1 ∙ sym (value_known externals first loops j.0 j.1)) y)
    can_say (Matches text regex) loops k g f =
        can_both (part text) (pattern_part regex) (can_say text loops kind.Text (kinded externals text loops kind.Text (text_asks (kind_of externals text loops) kind.Flag k g)) f.0) (record { each = λ b a. (tt, tt) })
    can_say (Of asked set place) loops k g f =
        let inner = where_made (place_fits set place) (of_numbers (asked_kind externals asked loops) (place_kind externals place loops) kind.Flag) k g in
        let ks = numbers_ask (asked_kind externals asked loops) (place_kind externals place loops) kind.Flag k inner in
        let z = set_part (form_of set place) (quantifier_row asked) (numbers_of set) in
        can_both (asked_part externals asked) (both (place_part externals place) z) (can_say_asked asked loops (asked_known externals asked loops kind.Number ks.0) f.0)
        (can_both (place_part externals place) z (can_say_place place loops (place_known externals place loops kind.Number ks.1) f.2) (record { each = λ b a. (tt, tt) }))
    can_say (ForOf asked (Rules ns) body) loops k g f = absurd (no_kind k g)
    can_say (ForOf asked (Strings ns) body) loops k g f =
        let ak = first_asked (loop_asked_kind externals asked loops) (of_value (kind_of externals body (Members ∷ loops))) k g in
        let bk = value_asks (kind_of externals body (Members ∷ loops)) k (second (loop_asked_kind externals asked loops) (of_value (kind_of externals body (Members ∷ loops))) k g) in
        let begin = strings_row asked (length ns) in
        can_both (asked_part externals asked) (looping begin ns (part body)) (can_say_asked asked loops (loop_asked_known externals asked loops ak.0 ak.1) f.0)
        (can_looping begin ns (part body) (λ e a. loop_asks asked loops ak.0 ak.1) (can_say body (Members ∷ loops) bk.0 (kinded externals body (Members ∷ loops) bk.0 bk.1) f.3))
    can_say (ForIn asked name domain body) loops k g f =
        let inside = loop_over domain ∷ loops in
        let ak = first_asked (loop_asked_kind externals asked loops) _ k g in
        let g1 = second (loop_asked_kind externals asked loops) _ k g in
        let dk = first_asked (domain_kind externals domain loops) (of_value (kind_of externals body inside)) k g1 in
        let bk = value_asks (kind_of externals body inside) k (second (domain_kind externals domain loops) (of_value (kind_of externals body inside)) k g1) in
        let begin = loop_row asked domain in
        let z = looping begin [] (part body) in
        can_both (asked_part externals asked) (both (domain_part externals domain) z) (can_say_asked asked loops (loop_asked_known externals asked loops ak.0 ak.1) f.0)
        (can_both (domain_part externals domain) z (can_say_domain domain loops dk.0 dk.1 f.1)
        (can_looping begin [] (part body) (begins asked domain loops ak.0 dk.0 ak.1 dk.1 f.1) (can_say body inside bk.0 (kinded externals body inside bk.0 bk.1) f.3)))

    can_say_links : (ks : NodeLinks) (before : Option Kind) (loops : List Loop) (k : Kind) → links_kind externals before ks loops ≡ Some k → LinksFit rows ks loops → CanSay (links_part externals ks (known_kind before))
    can_say_links no_link before loops k g f = can_nothing
    can_say_links (link o c rest) before loops k g f =
        let l = kind_of externals c loops in let after = infix_kind o before l in
        let m = links_ask externals rest after loops k g in
        let j = (infix_asks o before l m.0 m.1).1 in
        let P : Kind → Type 0 = λ q. CanSay (links_part externals rest q) in
        can_both (link_part o (known_kind before) (part c)) (links_part externals rest (infix_answer o))
        (can_link o (skips_at o) before l m.0 (part c) refl m.1 (can_say c loops j.0 (kinded externals c loops j.0 j.1) f.0))
        (subst P (ap known_kind m.1 ∙ sym (infix_makes o before l m.0 m.1)) (can_say_links rest after loops k g f.1))

    can_say_place : (place : NodeWhere) (loops : List Loop) → PlaceKnown externals place loops → PlaceFits rows place loops → CanSay (place_part externals place)
    can_say_place Anywhere loops g f = can_nothing
    can_say_place (At c) loops g f = can_say c loops kind.Number (kinded externals c loops kind.Number g) f
    can_say_place (Within low high) loops g f = can_both (part low) (part high) (can_say low loops kind.Number (kinded externals low loops kind.Number g.0) f.0) (can_say high loops kind.Number (kinded externals high loops kind.Number g.1) f.1)

    can_say_asked : (asked : NodeAsked) (loops : List Loop) → AskedKnown externals asked loops → AskedFits rows asked loops → CanSay (asked_part externals asked)
    can_say_asked Every loops g f = can_nothing
    can_say_asked Any loops g f = can_nothing
    can_say_asked Nil loops g f = can_nothing
    can_say_asked (AtLeast c) loops g f = can_say c loops kind.Number (kinded externals c loops kind.Number g) f
    can_say_asked (Percent c) loops g f = can_say c loops kind.Number (kinded externals c loops kind.Number g) f

    can_say_domain : (domain : NodeDomain) (loops : List Loop) (k : Kind) → domain_kind externals domain loops ≡ Some k → DomainFits rows domain loops → CanSay (domain_part externals domain)
    can_say_domain (OverRange low high) loops k g f =
        let ks = numbers_ask (kind_of externals low loops) (kind_of externals high loops) kind.Number k g in
        can_both (part low) (part high) (can_say low loops kind.Number (kinded externals low loops kind.Number ks.0) f.0) (can_say high loops kind.Number (kinded externals high loops kind.Number ks.1) f.1)
    can_say_domain (OverList items) loops k g f = can_say_items items loops k (items_known externals items loops k g) f.1
    can_say_domain (OverEntries id) loops k g f = record { each = λ b a. (tt, (tt, (tt, (tt, tt)))) }

    can_say_items : (items : NodeItems) (loops : List Loop) (k : Kind) → items_kind externals items loops ≡ Some k → ItemsFit rows items loops → CanSay (items_part externals items)
    can_say_items no_item loops k g f = can_nothing
    can_say_items (item c rest) loops k g f =
        let t = first_asked (of_number (kind_of externals c loops) kind.Number) (items_kind externals rest loops) k g in
        let ck = number_asks (kind_of externals c loops) kind.Number t.0 t.1 in
        can_both (part c) (items_part externals rest) (can_say c loops kind.Number (kinded externals c loops kind.Number ck) f.0)
        (can_say_items rest loops k (second (of_number (kind_of externals c loops) kind.Number) (items_kind externals rest loops) k g) f.1)
