use Rattle.std.proofs.Common.{List, ◌∷◌, [], sym, subst, ◌∙◌}
use mathlib.Core.Bool.{false≢true}
use Rattle.trace_core.specs.declared.nodes.Node.{Node}
use Rattle.trace_core.specs.Nodes.{NotesNodes}
use Rattle.trace_core.proofs.NodeSteps.{list_kept, list_pushed, list_had, node_known, node_fresh}
use Rattle.trace_core.proofs.nodes.Nodes.note.Goals as goal

pub invariant_of-self : goal.invariant_of-self
invariant_of-self c = list_kept c.self.inside.marks c.self.inside.marks c.self.inside.list.items (record { site = c.args.site; item = c.args.item; at = c.args.at }) c.self.invariant c.reserve.new.self.items c.in_err-reserve.ensures.items (λ m. (λ h. h, λ h. h))

pub invariant_of-self-in_err-mark_node : goal.invariant_of-self-in_err-mark_node
invariant_of-self-in_err-mark_node c = list_kept c.self.inside.marks c.mark_node.new.marks c.self.inside.list.items (record { site = c.args.site; item = c.args.item; at = c.args.at }) c.self.invariant c.reserve.new.self.items c.in_ok-reserve.ensures.items c.in_err-mark_node.ensures.err

-- the node is new
pub invariant_of-self-then-branch : goal.invariant_of-self-then-branch
invariant_of-self-then-branch c = list_pushed c.self.inside.marks c.mark_node.new.marks c.self.inside.list.items (record { site = c.args.site; item = c.args.item; at = c.args.at }) c.self.invariant c.reserve.new.self.items c.in_ok-reserve.ensures.items c.in_ok-mark_node.ensures.marked
    c.push_reserved.new.self.items c.push_reserved.ensures.items

pub returns-then-branch : goal.returns-then-branch
returns-then-branch c =
    let node : Node = record { site = c.args.site; item = c.args.item; at = c.args.at } in
    subst (λ (old : List Node). NotesNodes old c.push_reserved.new.self.items (node ∷ [])) c.self.view_is
    (node_fresh c.self.inside.marks c.mark_node.new.marks c.self.inside.list.items node c.self.invariant c.reserve.new.self.items c.push_reserved.new.self.items c.in_ok-reserve.ensures.items c.push_reserved.ensures.items
    (λ there. false≢true (sym (c.in_ok-mark_node.ensures.new.1 there) ∙ c.if-branch.true)))

-- it was there
pub invariant_of-self-else-branch : goal.invariant_of-self-else-branch
invariant_of-self-else-branch c = list_had c.self.inside.marks c.mark_node.new.marks c.self.inside.list.items (record { site = c.args.site; item = c.args.item; at = c.args.at }) c.self.invariant c.reserve.new.self.items c.in_ok-reserve.ensures.items c.in_ok-mark_node.ensures.marked
    (c.in_ok-mark_node.ensures.new.0 c.if-branch.false)

pub returns-else-branch : goal.returns-else-branch
returns-else-branch c =
    let node : Node = record { site = c.args.site; item = c.args.item; at = c.args.at } in
    subst (λ (old : List Node). NotesNodes old c.reserve.new.self.items (node ∷ [])) c.self.view_is
    (node_known c.self.inside.marks c.mark_node.new.marks c.self.inside.list.items node c.self.invariant c.reserve.new.self.items c.in_ok-reserve.ensures.items (c.in_ok-mark_node.ensures.new.0 c.if-branch.false))
