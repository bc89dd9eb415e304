use Rattle.pe_frames.proofs.Laws.{laws-forest}
use Rattle.pe_frames.proofs.Bounds.{bounds-forest}
use Rattle.pe_frames.proofs.Changed.{entry-changed, under-changed}
use Rattle.pe_frames.proofs.frames.Frames.is_a_tree.Goals as goal

pub returns-clause-frames : goal.returns-clause-frames
returns-clause-frames g c =
    (laws-forest c.self.inside.rows c.self.inside.order.items c.self.inside.pages c.self.invariant.forest c.args.self.now c.self.view_is).frames

pub returns-clause-given : goal.returns-clause-given
returns-clause-given g c =
    (laws-forest c.self.inside.rows c.self.inside.order.items c.self.inside.pages c.self.invariant.forest c.args.self.now c.self.view_is).given

pub returns-clause-under : goal.returns-clause-under
returns-clause-under g c =
    (laws-forest c.self.inside.rows c.self.inside.order.items c.self.inside.pages c.self.invariant.forest c.args.self.now c.self.view_is).under

pub returns-clause-documents : goal.returns-clause-documents
returns-clause-documents g c =
    (laws-forest c.self.inside.rows c.self.inside.order.items c.self.inside.pages c.self.invariant.forest c.args.self.now c.self.view_is).documents

pub returns-clause-once : goal.returns-clause-once
returns-clause-once g c =
    (laws-forest c.self.inside.rows c.self.inside.order.items c.self.inside.pages c.self.invariant.forest c.args.self.now c.self.view_is).once

pub returns-clause-pages : goal.returns-clause-pages
returns-clause-pages g c =
    (bounds-forest c.self.inside.rows c.self.inside.order.items c.self.inside.pages c.self.invariant.forest c.args.self.now c.self.view_is).pages

pub returns-clause-sizes : goal.returns-clause-sizes
returns-clause-sizes g c =
    (bounds-forest c.self.inside.rows c.self.inside.order.items c.self.inside.pages c.self.invariant.forest c.args.self.now c.self.view_is).sizes

pub returns-clause-written : goal.returns-clause-written
returns-clause-written g c =
    λ passes. λ change. λ root. under-changed passes change c.args.self.now.entries root

pub returns-clause-found : goal.returns-clause-found
returns-clause-found g c =
    λ passes. λ change. λ k. entry-changed passes change c.args.self.now.entries k
