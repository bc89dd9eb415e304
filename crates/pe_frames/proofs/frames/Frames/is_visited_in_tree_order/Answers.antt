use Rattle.pe_frames.specs.Order.{handles_under}
use Rattle.pe_frames.proofs.Laws.{laws-forest}
use Rattle.pe_frames.proofs.Under.{tree-seen, handles-once}
use Rattle.pe_frames.proofs.Visited.{next-listed, visited-next, visited-new, visited-last, visited-within}
use Rattle.pe_frames.proofs.Counted.{first-visited, root-listed}
use Rattle.pe_frames.proofs.frames.Frames.is_visited_in_tree_order.Goals as goal

pub returns-clause-first : goal.returns-clause-first
returns-clause-first g c =
    let es = c.args.self.now.entries in
    let are = (laws-forest c.self.inside.rows c.self.inside.order.items c.self.inside.pages c.self.invariant.forest c.args.self.now c.self.view_is).frames in
    let tree = (tree-seen c.self.inside.rows c.self.inside.order.items c.self.inside.pages c.self.invariant.forest c.args.self.now c.self.view_is) in
    λ root. λ live. first-visited es are tree root live

pub returns-clause-root : goal.returns-clause-root
returns-clause-root g c =
    let es = c.args.self.now.entries in
    let are = (laws-forest c.self.inside.rows c.self.inside.order.items c.self.inside.pages c.self.invariant.forest c.args.self.now c.self.view_is).frames in
    let tree = (tree-seen c.self.inside.rows c.self.inside.order.items c.self.inside.pages c.self.invariant.forest c.args.self.now c.self.view_is) in
    λ root. λ live. root-listed es are tree root live

pub returns-clause-next : goal.returns-clause-next
returns-clause-next g c =
    let es = c.args.self.now.entries in
    let tree = (tree-seen c.self.inside.rows c.self.inside.order.items c.self.inside.pages c.self.invariant.forest c.args.self.now c.self.view_is) in
    λ root. λ h. λ next. λ q. visited-next (handles_under es root) (handles-once es tree root) h next q

pub returns-clause-listed : goal.returns-clause-listed
returns-clause-listed g c =
    let es = c.args.self.now.entries in
    λ root. λ h. λ next. λ q. next-listed h next (handles_under es root) q

pub returns-clause-new : goal.returns-clause-new
returns-clause-new g c =
    let es = c.args.self.now.entries in
    let tree = (tree-seen c.self.inside.rows c.self.inside.order.items c.self.inside.pages c.self.invariant.forest c.args.self.now c.self.view_is) in
    λ root. λ h. λ next. λ q. visited-new (handles_under es root) (handles-once es tree root) h next q

pub returns-clause-last : goal.returns-clause-last
returns-clause-last g c =
    let es = c.args.self.now.entries in
    λ root. λ h. λ t. λ q. visited-last (handles_under es root) h t q

pub returns-clause-within : goal.returns-clause-within
returns-clause-within g c =
    let es = c.args.self.now.entries in
    λ root. λ h. visited-within (handles_under es root) h
