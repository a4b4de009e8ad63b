use Rattle.std.proofs.Common.{sym, ◌∙◌, true≢false}
use Rattle.yr_image.specs.Views.{image_of}
use Rattle.yr_verifier.proofs.NodeLemmas.{parts_node, node_ranges, node_depth}
use Rattle.yr_verifier.proofs.nodes.is_node.Goals as goal

pub returns-then-not-has_ranges : goal.returns-then-not-has_ranges
returns-then-not-has_ranges c = (
  λ e. absurd (true≢false (sym e)),
  λ good. absurd (true≢false (sym (c.has_ranges.ensures.1 (node_ranges (image_of c.args.view.now) c.args.n c.args.row good)) ∙ c.if-not-has_ranges.true)),
)

pub returns-then-not-has_depth : goal.returns-then-not-has_depth
returns-then-not-has_depth c = (
  λ e. absurd (true≢false (sym e)),
  λ good. absurd (true≢false (sym (c.has_depth.ensures.1 (node_depth (image_of c.args.view.now) c.args.n c.args.row good)) ∙ c.if-not-has_depth.true)),
)

pub bytes_rise-requires : goal.bytes_rise-requires
bytes_rise-requires c = (c.has_ranges.ensures.0 c.if-not-has_ranges.false).edges_inside

pub returns-then-not-bytes_rise : goal.returns-then-not-bytes_rise
returns-then-not-bytes_rise c = (
  λ e. absurd (true≢false (sym e)),
  λ good. absurd (true≢false (sym (c.bytes_rise.ensures.1 good.wellformed.bytes_rise) ∙ c.if-not-bytes_rise.true)),
)

pub all_lead_deeper-requires : goal.all_lead_deeper-requires
all_lead_deeper-requires c = (c.has_ranges.ensures.0 c.if-not-has_ranges.false).edges_inside

pub returns-then-not-all_lead_deeper : goal.returns-then-not-all_lead_deeper
returns-then-not-all_lead_deeper c = (
  λ e. absurd (true≢false (sym e)),
  λ good. absurd (true≢false (sym (c.all_lead_deeper.ensures.1 good.wellformed.deeper) ∙ c.if-not-all_lead_deeper.true)),
)

pub have_atoms-requires : goal.have_atoms-requires
have_atoms-requires c = (c.has_ranges.ensures.0 c.if-not-has_ranges.false).outputs_inside

pub returns : goal.returns
returns c = (
  λ t. parts_node (image_of c.args.view.now) c.args.n c.args.row (c.has_ranges.ensures.0 c.if-not-has_ranges.false) (c.has_depth.ensures.0 c.if-not-has_depth.false)
      (c.bytes_rise.ensures.0 c.if-not-bytes_rise.false) (c.all_lead_deeper.ensures.0 c.if-not-all_lead_deeper.false) (c.have_atoms.ensures.0 t),
  λ good. c.have_atoms.ensures.1 good.atoms,
)
