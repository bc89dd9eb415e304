use Rattle.std.proofs.Common.{arith, ap, ◌∙◌, length, get_or}
use Rattle.pe_arena.specs.declared.handle.Handle.{Handle}
use Rattle.pe_arena.specs.Slots.{live}
use Rattle.pe_frames.proofs.Removed.{Removes-step, docs-step, one-more}
use Rattle.pe_frames.proofs.removal.take_all.Goals as goal

pub loop-h-preserved : goal.loop-h-preserved
loop-h-preserved g c =
    let a = c.args.rows.now in
    let b = c.loop-h.rows in
    let ks = c.args.handles.now in
    let i = c.loop-h.h-index in
    let d : Handle = record { slot = 0; generation = 0 } in
    let was = c.loop-h.invariant in
    let lt = c.loop-h-test.true in
    let len = ap length c.take_one.ensures.docs in
    let more = one-more (live b (get_or ks i d)) c.loop-h.docs.items in
    let few = was.3 in (
      Removes-step a b c.take_one.new.rows ks i d lt was.0 c.take_one.ensures.rows,
      docs-step a b ks i d lt c.requires.once was.0 c.args.docs.now.items c.loop-h.docs.items c.take_one.new.docs.items was.1 c.take_one.ensures.docs,
      c.take_one.ensures.capacity ∙ was.2,
      omega (arith, len, more, few),
    )
