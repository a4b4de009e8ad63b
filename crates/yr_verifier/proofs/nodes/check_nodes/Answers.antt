use Rattle.std.proofs.Common.{arith, sym, ◌∙◌, true≢false}
use Rattle.yr_image.specs.declared.fault.ImageFault.TheVariants.{Node}
use Rattle.yr_image.specs.Views.{image_of, shown_bytes}
use Rattle.yr_verifier.proofs.ReachLemmas as reach
use Rattle.yr_verifier.proofs.NodeLemmas.{node_here, node_beyond}
use Rattle.yr_verifier.proofs.nodes.check_nodes.Goals as goal

pub loop-n-init : goal.loop-n-init
loop-n-init c = c.requires

pub returns-then-not-is_node : goal.returns-then-not-is_node
returns-then-not-is_node c =
    reach.one_fault (shown_bytes c.args.view.now) 10 (λ k. Node k) reach.nodes c.loop-n.n c.loop-n.invariant
    (λ p. true≢false (sym (c.is_node.ensures.1 (p c.node.result c.node.ensures)) ∙ c.if-not-is_node.true))

pub loop-n-preserved : goal.loop-n-preserved
loop-n-preserved c =
    reach.one_next (shown_bytes c.args.view.now) 10 (λ k. Node k) reach.nodes c.loop-n.n c.loop-n.invariant
    (node_here (image_of c.args.view.now) c.loop-n.n c.node.result c.node.ensures (c.is_node.ensures.0 c.if-not-is_node.false))

pub returns : goal.returns
returns c =
    reach.one_check (shown_bytes c.args.view.now) 10 (λ k. Node k) reach.nodes c.loop-n.n c.loop-n.invariant
    (λ n le. node_beyond (image_of c.args.view.now) n (omega (arith, le, c.count_nodes-n-end.ensures, c.loop-n-test.false)))
