-- What a write of a document leaves, by what a law says of the same write.
use Rattle.std.proofs.Common.{◌≡◌, List, Option, None, Some, IsSome, refl, sym, ap, ◌∙◌, true≢false}
use Rattle.std.specs.Prelude.{IfSome, IsSomeAnd, map}
use Rattle.std.specs.Option.{option_map}
use Rattle.pe_arena.specs.declared.handle.Handle.{Handle}
use Rattle.pe_frames.specs.Forest.{Entry, Forest, top_of, with_document, with_doc}

module _ {D : Type 0} where
  -- the entries are those of the law, and all else is as before
  pub wrote : (o : Option (Entry D)) → IsSome o → (cur new : Forest D) (h : Handle) (change : D → D) (next : List (Entry D)) → IfSome o (λ e. new ≡ with_doc cur h (change e.doc)) → IfSome o (λ e. map (with_document h (change e.doc)) cur.entries ≡ next)
      → (new.entries ≡ next) × (new.marks ≡ cur.marks) × (new.made ≡ cur.made)
  wrote None l cur new h change next w q = absurd (true≢false (sym l))
  wrote (Some e) l cur new h change next w q = (ap (λ f. f.entries) w ∙ q, ap (λ f. f.marks) w, ap (λ f. f.made) w)

  pub lives : (o : Option (Entry D)) (p : Entry D → Type 0) → IsSomeAnd o p → IsSome o
  lives None p w = absurd w
  lives (Some e) p w = refl

  -- a frame that is changed lives on
  pub lives-on : (o : Option (Entry D)) (f : Entry D → Entry D) → IsSome o → IsSome (option_map f o)
  lives-on None f l = l
  lives-on (Some e) f l = refl

  -- what is so of the top frame's handle is so of the page
  pub of_page : (o : Option (Entry D)) (top : Handle) → option_map top_of o ≡ Some top → (F G : Handle → List (Entry D)) (new : List (Entry D)) → new ≡ F top → IfSome o (λ e. F (top_of e) ≡ G (top_of e)) → IfSome o (λ e. new ≡ G (top_of e))
  of_page None top q F G new n w = tt
  of_page (Some e) top q F G new n w = let same : top_of e ≡ top = cc in n ∙ ap F (sym same) ∙ w
