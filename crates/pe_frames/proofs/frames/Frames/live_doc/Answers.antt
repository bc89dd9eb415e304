use Rattle.std.proofs.Common.{◌≡◌, [], Some, None, Option, IsSome, is_some, ap, ◌∙◌, sym, subst, refl, MutBor, true≢false}
use Rattle.std.specs.Option.{option_map, option_copied_mut}
use Rattle.pe_arena.specs.Slots.{live}
use Rattle.pe_frames.specs.declared.row.Row.{Row}
use Rattle.pe_frames.specs.Forest.{Forest, Entry, entry_of, node_in, with_doc}
use Rattle.pe_frames.specs.Kept.{kept, entries_in}
use Rattle.pe_frames.proofs.Nodes.{found-live}
use Rattle.pe_frames.proofs.Written.{IsForest-written, IsSwept-written, forest-written}
use Rattle.pe_frames.proofs.frames.Frames.live_doc.Goals as goal

live_some : {D : Type 0} (o : Option (Row D)) (e : Option (Entry D)) → option_map (λ r. r.node) o ≡ option_map node_in e → IsSome e → IsSome o
live_some None None q p = p
live_some None (Some e) q p = absurd (true≢false (sym (ap is_some q)))
live_some (Some r) e q p = refl

some_copied : {A : Type 0} (r : Option (MutBor A)) (o : Option A) → option_copied_mut r ≡ o → IsSome o → IsSome r
some_copied None o e p = absurd (true≢false (sym p ∙ ap is_some (sym e)))
some_copied (Some x) o e p = refl

doc_shown : {D : Type 0} (o : Option (Entry D)) → option_map (λ n. n.doc) (option_map node_in o) ≡ option_map (λ e. e.doc) o
doc_shown None = refl
doc_shown (Some e) = refl

pub unwrap-row-requires : goal.unwrap-row-requires
unwrap-row-requires g c =
    let s = c.self.inside.rows in
    let shown = found-live s c.self.inside.order.items c.args.h c.self.invariant.forest.listed c.self.invariant.forest.nodes in
    let some = subst (λ (f : Forest _). IsSome (entry_of f.entries c.args.h)) (sym c.self.view_is) c.requires in
    some_copied c.get_mut.result (live s c.args.h) c.get_mut.ensures.value (live_some (live s c.args.h) _ shown some)

pub invariant_of-self-lent : goal.invariant_of-self-lent
invariant_of-self-lent g c = λ w.
    let found = sym c.get_mut.ensures.value ∙ ap option_copied_mut c.unwrap-row.ensures in
    record {
      forest = IsForest-written c.args.h w c.self.inside.rows c.unwrap-row.result.now found (λ x. c.get_mut.ensures.alone x (ap is_some found)) c.self.inside.order.items c.self.inside.pages c.self.invariant.forest;
      swept = IsSwept-written c.args.h w c.self.inside.rows c.unwrap-row.result.now found (λ x. c.get_mut.ensures.alone x (ap is_some found)) c.self.inside.order.items c.self.inside.pages c.self.invariant.forest c.self.inside.dead c.self.invariant.swept;
    }

pub returns : goal.returns
returns g c =
    let s = c.self.inside.rows in
    let found = sym c.get_mut.ensures.value ∙ ap option_copied_mut c.unwrap-row.ensures in
    let shown = found-live s c.self.inside.order.items c.args.h c.self.invariant.forest.listed c.self.invariant.forest.nodes in (
      (refl, λ w. forest-written c.args.h w s c.unwrap-row.result.now found (λ x. c.get_mut.ensures.alone x (ap is_some found)) c.self.inside.order.items c.self.inside.pages c.self.invariant.forest ∙ ap (λ f. with_doc f c.args.h w) c.self.view_is),
      record {
        lends = tt;
        value =
            ap (λ f. option_map (λ e. e.doc) (entry_of f.entries c.args.h)) (sym c.self.view_is)
            ∙ sym (doc_shown (entry_of (entries_in (kept s c.self.inside.order.items [])) c.args.h))
            ∙ ap (option_map (λ n. n.doc)) (sym shown ∙ ap (option_map (λ r. r.node)) found);
      },
    )
