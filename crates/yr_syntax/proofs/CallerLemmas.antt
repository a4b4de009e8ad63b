-- The tree of a condition, by its form: what callers cite to see through the fold.
use Rattle.std.proofs.Common.{◌≡◌, ℕ, map, sym, ap, ◌∙◌, Vec, Box, Global}
use Rattle.std.specs.Prelude.{ℤ, Bool, Option, Some, None, option_map}
use Rattle.yr_syntax.specs.Condition.{Condition, Where, Asked, Domain, Number, Text, Flag, FileSize, Path, Found, Read, Prefix, Chain, Matches, Of, ForOf, ForIn, Anywhere, At, Within, All, Any, Nil, AtLeast, Percent, OverRange, OverList, OverPath, OneLink, OneStep, Bounds, Name, Index, Call, links_of, items_of, steps_of, count_of, offset_of, length_of, boxed, regex_of, set_of, cond_step, path_step, link_step, place_step, range_step, quant_step, over_step, tree_of, step_of, link_of, where_of, bounds_of, asked_of, domain_of}
use Rattle.yr_syntax.specs.declared.operator.PrefixOp.{PrefixOp}
use Rattle.yr_syntax.specs.declared.operator.Reader.{Reader}
use Rattle.yr_syntax.specs.declared.string.RegexText.{RegexText}
use Rattle.yr_syntax.specs.declared.condition.SetRef.{SetRef}
use Rattle.yr_syntax.specs.declared.condition.Cond as c
use Rattle.yr_syntax.specs.declared.condition.Cond.TheVariants as cond
use Rattle.yr_syntax.specs.declared.condition.PathStep as s
use Rattle.yr_syntax.specs.declared.condition.PathStep.TheVariants as step
use Rattle.yr_syntax.specs.declared.condition.Place as p
use Rattle.yr_syntax.specs.declared.condition.Place.TheVariants as place
use Rattle.yr_syntax.specs.declared.condition.Quant as q
use Rattle.yr_syntax.specs.declared.condition.Quant.TheVariants as quant
use Rattle.yr_syntax.specs.declared.condition.Over as o
use Rattle.yr_syntax.specs.declared.condition.Over.TheVariants as over
use Rattle.yr_syntax.specs.declared.condition.Link as l
use Rattle.yr_syntax.specs.declared.condition.Range as r
use Rattle.yr_syntax.specs.declared.condition.Cond.TheOpen.{Cond-F, PathStep-F, Place-F, Quant-F, Over-F}
use Rattle.yr_syntax.specs.declared.condition.Cond.TheFolds.{fold-roll-Cond, fold-roll-PathStep, fold-roll-Place, fold-roll-Quant, fold-roll-Over}

pub tree_of-Number : (n : ℤ) → tree_of (cond.Number n) ≡ Number n
tree_of-Number n = ap tree_of (sym (cond.rolls-Number n)) ∙ fold-roll-Cond Condition Domain OneStep Where Asked OneLink Bounds cond_step over_step path_step place_step quant_step link_step range_step (Cond-F.Cond::Number n)

pub tree_of-Text : (t : Vec ℕ Global) → tree_of (cond.Text t) ≡ Text t.items
tree_of-Text t = ap tree_of (sym (cond.rolls-Text t)) ∙ fold-roll-Cond Condition Domain OneStep Where Asked OneLink Bounds cond_step over_step path_step place_step quant_step link_step range_step (Cond-F.Text t)

pub tree_of-Flag : (b : Bool) → tree_of (cond.Flag b) ≡ Flag b
tree_of-Flag b = ap tree_of (sym (cond.rolls-Flag b)) ∙ fold-roll-Cond Condition Domain OneStep Where Asked OneLink Bounds cond_step over_step path_step place_step quant_step link_step range_step (Cond-F.Flag b)

pub tree_of-FileSize : tree_of cond.FileSize ≡ FileSize
tree_of-FileSize = ap tree_of (sym cond.rolls-FileSize) ∙ fold-roll-Cond Condition Domain OneStep Where Asked OneLink Bounds cond_step over_step path_step place_step quant_step link_step range_step Cond-F.FileSize

pub tree_of-Path : (steps : Vec s.PathStep Global) → tree_of (cond.Path steps) ≡ Path (steps_of (map step_of steps.items))
tree_of-Path steps = ap tree_of (sym (cond.rolls-Path steps)) ∙ fold-roll-Cond Condition Domain OneStep Where Asked OneLink Bounds cond_step over_step path_step place_step quant_step link_step range_step (Cond-F.Cond::Path steps)

pub tree_of-Found : (name : Vec ℕ Global) (p : p.Place) → tree_of (cond.Found name p) ≡ Found name.items (where_of p)
tree_of-Found name p = ap tree_of (sym (cond.rolls-Found name p)) ∙ fold-roll-Cond Condition Domain OneStep Where Asked OneLink Bounds cond_step over_step path_step place_step quant_step link_step range_step (Cond-F.Found name p)

pub tree_of-Count : (name : Vec ℕ Global) (range : Option r.Range) → tree_of (cond.Count name range) ≡ count_of name.items (option_map bounds_of range)
tree_of-Count name None = ap tree_of (sym (cond.rolls-Count name None)) ∙ fold-roll-Cond Condition Domain OneStep Where Asked OneLink Bounds cond_step over_step path_step place_step quant_step link_step range_step (Cond-F.Count name None)
tree_of-Count name (Some x) = ap tree_of (sym (cond.rolls-Count name (Some x))) ∙ fold-roll-Cond Condition Domain OneStep Where Asked OneLink Bounds cond_step over_step path_step place_step quant_step link_step range_step (Cond-F.Count name (Some x))

pub tree_of-Offset : (name : Vec ℕ Global) (index : Option (Box c.Cond Global)) → tree_of (cond.Offset name index) ≡ offset_of name.items (option_map tree_of (boxed index))
tree_of-Offset name None = ap tree_of (sym (cond.rolls-Offset name None)) ∙ fold-roll-Cond Condition Domain OneStep Where Asked OneLink Bounds cond_step over_step path_step place_step quant_step link_step range_step (Cond-F.Offset name None)
tree_of-Offset name (Some x) = ap tree_of (sym (cond.rolls-Offset name (Some x))) ∙ fold-roll-Cond Condition Domain OneStep Where Asked OneLink Bounds cond_step over_step path_step place_step quant_step link_step range_step (Cond-F.Offset name (Some x))

pub tree_of-Length : (name : Vec ℕ Global) (index : Option (Box c.Cond Global)) → tree_of (cond.Length name index) ≡ length_of name.items (option_map tree_of (boxed index))
tree_of-Length name None = ap tree_of (sym (cond.rolls-Length name None)) ∙ fold-roll-Cond Condition Domain OneStep Where Asked OneLink Bounds cond_step over_step path_step place_step quant_step link_step range_step (Cond-F.Length name None)
tree_of-Length name (Some x) = ap tree_of (sym (cond.rolls-Length name (Some x))) ∙ fold-roll-Cond Condition Domain OneStep Where Asked OneLink Bounds cond_step over_step path_step place_step quant_step link_step range_step (Cond-F.Length name (Some x))

pub tree_of-Read : (reader : Reader) (inner : Box c.Cond Global) → tree_of (cond.Read reader inner) ≡ Read reader (tree_of inner.value)
tree_of-Read reader inner = ap tree_of (sym (cond.rolls-Read reader inner)) ∙ fold-roll-Cond Condition Domain OneStep Where Asked OneLink Bounds cond_step over_step path_step place_step quant_step link_step range_step (Cond-F.Read reader inner)

pub tree_of-Prefix : (op : PrefixOp) (inner : Box c.Cond Global) → tree_of (cond.Prefix op inner) ≡ Prefix op (tree_of inner.value)
tree_of-Prefix op inner = ap tree_of (sym (cond.rolls-Prefix op inner)) ∙ fold-roll-Cond Condition Domain OneStep Where Asked OneLink Bounds cond_step over_step path_step place_step quant_step link_step range_step (Cond-F.Prefix op inner)

pub tree_of-Chain : (first : Box c.Cond Global) (rest : Vec l.Link Global) → tree_of (cond.Chain first rest) ≡ Chain (tree_of first.value) (links_of (map link_of rest.items))
tree_of-Chain first rest = ap tree_of (sym (cond.rolls-Chain first rest)) ∙ fold-roll-Cond Condition Domain OneStep Where Asked OneLink Bounds cond_step over_step path_step place_step quant_step link_step range_step (Cond-F.Chain first rest)

pub tree_of-Matches : (text : Box c.Cond Global) (regex : RegexText) → tree_of (cond.Matches text regex) ≡ Matches (tree_of text.value) (regex_of regex)
tree_of-Matches text regex = ap tree_of (sym (cond.rolls-Matches text regex)) ∙ fold-roll-Cond Condition Domain OneStep Where Asked OneLink Bounds cond_step over_step path_step place_step quant_step link_step range_step (Cond-F.Matches text regex)

pub tree_of-Of : (q : q.Quant) (set : SetRef) (p : p.Place) → tree_of (cond.Of q set p) ≡ Of (asked_of q) (set_of set) (where_of p)
tree_of-Of q set p = ap tree_of (sym (cond.rolls-Of q set p)) ∙ fold-roll-Cond Condition Domain OneStep Where Asked OneLink Bounds cond_step over_step path_step place_step quant_step link_step range_step (Cond-F.Of q set p)

pub tree_of-ForOf : (q : q.Quant) (set : SetRef) (inner : Box c.Cond Global) → tree_of (cond.ForOf q set inner) ≡ ForOf (asked_of q) (set_of set) (tree_of inner.value)
tree_of-ForOf q set inner = ap tree_of (sym (cond.rolls-ForOf q set inner)) ∙ fold-roll-Cond Condition Domain OneStep Where Asked OneLink Bounds cond_step over_step path_step place_step quant_step link_step range_step (Cond-F.ForOf q set inner)

pub tree_of-ForIn : (q : q.Quant) (name : Vec ℕ Global) (o : o.Over) (inner : Box c.Cond Global) → tree_of (cond.ForIn q name o inner) ≡ ForIn (asked_of q) name.items (domain_of o) (tree_of inner.value)
tree_of-ForIn q name o inner = ap tree_of (sym (cond.rolls-ForIn q name o inner)) ∙ fold-roll-Cond Condition Domain OneStep Where Asked OneLink Bounds cond_step over_step path_step place_step quant_step link_step range_step (Cond-F.ForIn q name o inner)

pub step_of-Name : (name : Vec ℕ Global) → step_of (step.Name name) ≡ Name name.items
step_of-Name name = ap step_of (sym (step.rolls-Name name)) ∙ fold-roll-PathStep Condition Domain OneStep Where Asked OneLink Bounds cond_step over_step path_step place_step quant_step link_step range_step (PathStep-F.Name name)

pub step_of-Index : (inner : c.Cond) → step_of (step.Index inner) ≡ Index (tree_of inner)
step_of-Index inner = ap step_of (sym (step.rolls-Index inner)) ∙ fold-roll-PathStep Condition Domain OneStep Where Asked OneLink Bounds cond_step over_step path_step place_step quant_step link_step range_step (PathStep-F.Index inner)

pub step_of-Call : (arguments : Vec c.Cond Global) → step_of (step.Call arguments) ≡ Call (map tree_of arguments.items)
step_of-Call arguments = ap step_of (sym (step.rolls-Call arguments)) ∙ fold-roll-PathStep Condition Domain OneStep Where Asked OneLink Bounds cond_step over_step path_step place_step quant_step link_step range_step (PathStep-F.Call arguments)

pub where_of-Anywhere : where_of place.Anywhere ≡ Anywhere
where_of-Anywhere = ap where_of (sym place.rolls-Anywhere) ∙ fold-roll-Place Condition Domain OneStep Where Asked OneLink Bounds cond_step over_step path_step place_step quant_step link_step range_step Place-F.Anywhere

pub where_of-At : (inner : Box c.Cond Global) → where_of (place.At inner) ≡ At (tree_of inner.value)
where_of-At inner = ap where_of (sym (place.rolls-At inner)) ∙ fold-roll-Place Condition Domain OneStep Where Asked OneLink Bounds cond_step over_step path_step place_step quant_step link_step range_step (Place-F.At inner)

pub where_of-Within : (range : r.Range) → where_of (place.Within range) ≡ Within (bounds_of range).low (bounds_of range).high
where_of-Within range = ap where_of (sym (place.rolls-Within range)) ∙ fold-roll-Place Condition Domain OneStep Where Asked OneLink Bounds cond_step over_step path_step place_step quant_step link_step range_step (Place-F.Within range)

pub asked_of-All : asked_of quant.All ≡ All
asked_of-All = ap asked_of (sym quant.rolls-All) ∙ fold-roll-Quant Condition Domain OneStep Where Asked OneLink Bounds cond_step over_step path_step place_step quant_step link_step range_step Quant-F.All

pub asked_of-Any : asked_of quant.Any ≡ Any
asked_of-Any = ap asked_of (sym quant.rolls-Any) ∙ fold-roll-Quant Condition Domain OneStep Where Asked OneLink Bounds cond_step over_step path_step place_step quant_step link_step range_step Quant-F.Any

pub asked_of-Nil : asked_of quant.Nil ≡ Nil
asked_of-Nil = ap asked_of (sym quant.rolls-Nil) ∙ fold-roll-Quant Condition Domain OneStep Where Asked OneLink Bounds cond_step over_step path_step place_step quant_step link_step range_step Quant-F.Nil

pub asked_of-Number : (inner : Box c.Cond Global) → asked_of (quant.Number inner) ≡ AtLeast (tree_of inner.value)
asked_of-Number inner = ap asked_of (sym (quant.rolls-Number inner)) ∙ fold-roll-Quant Condition Domain OneStep Where Asked OneLink Bounds cond_step over_step path_step place_step quant_step link_step range_step (Quant-F.Quant::Number inner)

pub asked_of-Percent : (inner : Box c.Cond Global) → asked_of (quant.Percent inner) ≡ Percent (tree_of inner.value)
asked_of-Percent inner = ap asked_of (sym (quant.rolls-Percent inner)) ∙ fold-roll-Quant Condition Domain OneStep Where Asked OneLink Bounds cond_step over_step path_step place_step quant_step link_step range_step (Quant-F.Percent inner)

pub domain_of-Range : (range : r.Range) → domain_of (over.Range range) ≡ OverRange (bounds_of range).low (bounds_of range).high
domain_of-Range range = ap domain_of (sym (over.rolls-Range range)) ∙ fold-roll-Over Condition Domain OneStep Where Asked OneLink Bounds cond_step over_step path_step place_step quant_step link_step range_step (Over-F.Range range)

pub domain_of-List : (items : Vec c.Cond Global) → domain_of (over.List items) ≡ OverList (items_of (map tree_of items.items))
domain_of-List items = ap domain_of (sym (over.rolls-List items)) ∙ fold-roll-Over Condition Domain OneStep Where Asked OneLink Bounds cond_step over_step path_step place_step quant_step link_step range_step (Over-F.List items)

pub domain_of-Path : (steps : Vec s.PathStep Global) → domain_of (over.Path steps) ≡ OverPath (steps_of (map step_of steps.items))
domain_of-Path steps = ap domain_of (sym (over.rolls-Path steps)) ∙ fold-roll-Over Condition Domain OneStep Where Asked OneLink Bounds cond_step over_step path_step place_step quant_step link_step range_step (Over-F.Over::Path steps)

pub link_of-same : (k : l.Link) → link_of k ≡ record { op = k.op; operand = tree_of k.operand }
link_of-same k = l.fold_out-Link Condition Domain OneStep Where Asked OneLink Bounds cond_step over_step path_step place_step quant_step link_step range_step k

pub bounds_of-same : (k : r.Range) → bounds_of k ≡ record { low = tree_of k.low.value; high = tree_of k.high.value }
bounds_of-same k = r.fold_out-Range Condition Domain OneStep Where Asked OneLink Bounds cond_step over_step path_step place_step quant_step link_step range_step k
