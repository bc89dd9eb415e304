-- Frames below a root, by the frames that embed them.
use Rattle.std.proofs.Common.{◌≡◌, true, false, ◌||◌, [], None, refl, ap, ◌∙◌}
use Rattle.pe_arena.specs.declared.handle.Handle.{Handle}
use Rattle.pe_frames.specs.Forest.{Entry, same_handle, has_handle, path, parent_of, is_under}
use Rattle.pe_frames.proofs.Handles.{has-push, same_handle-Decides, no_last}
use Rattle.std.proofs.Math.Bool.{or-false, or-true}

module _ {D : Type 0} where
  -- a frame with no parent stands below none
  pub above-none : (e : Entry D) → parent_of e ≡ None → e.above ≡ []
  above-none e q = no_last e.above q

  -- a frame that is not the root is below it where its parent is the root or below it
  pub under-parent : (root : Handle) (e a : Entry D) → e.above ≡ path a → same_handle e.handle root ≡ false → is_under root e ≡ is_under root a
  under-parent root e a q f = has-push root e.handle e.above ∙ ap (λ b. has_handle root e.above || b) f ∙ or-false (has_handle root e.above) ∙ ap (has_handle root) q

  -- a top frame is below itself alone
  pub under-top : (root : Handle) (e : Entry D) → e.above ≡ [] → is_under root e ≡ same_handle e.handle root
  under-top root e q = has-push root e.handle e.above ∙ ap (λ ks. has_handle root ks || same_handle e.handle root) q

  -- a frame is below itself
  pub under-itself : (e : Entry D) → is_under e.handle e ≡ true
  under-itself e = has-push e.handle e.handle e.above ∙ ap (λ b. has_handle e.handle e.above || b) ((same_handle-Decides e.handle e.handle).1 refl) ∙ or-true (has_handle e.handle e.above)
