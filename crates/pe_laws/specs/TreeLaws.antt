-- Laws of the tree of live frames in a regular history: the way up from a live frame is the chain of its document.
use Rattle.std.specs.Prelude.{◌≡◌, ℕ, ◌<◌, IsTrue, List, [], ◌∷◌, ◌++◌, length, Option, Some, unwrap_or, option_map, option_and_then, None}
use Rattle.pe_events.specs.declared.event.Event.TheVariants as event
use Rattle.pe_rules.specs.History.{Step, RepliedHistory, History}
use Rattle.pe_rules.specs.Numbering.{is_frame, parent_frame}
use Rattle.pe_rules.specs.Embedders.{chain, page}
use Rattle.pe_rules.specs.Activation.{is_one_of}
use Rattle.pe_rules.specs.Current.{frames_above, is_current, document_in, is_live}
use Rattle.pe_rules.specs.Replies.{replied, is_regular}

-- what holds of the frames that were made
pub record IsTree (T : RepliedHistory) : Type 0 where
  -- a parent is an older frame
  pub parent_older : (f g : ℕ) → parent_frame T f ≡ Some g → (g < f) × IsTrue (is_frame T g)
  -- the parent of a live frame is live
  pub parent_live : (f g : ℕ) → IsTrue (is_live T f) → parent_frame T f ≡ Some g → IsTrue (is_live T g)
  -- the chain of a live frame's document is that of the document of its parent, and it
  pub hangs : (f d : ℕ) → document_in T f ≡ Some d → chain T d ≡ unwrap_or (option_map (chain T) (option_and_then (document_in T) (parent_frame T f))) [] ++ d ∷ []
  -- so its frames are those of the document of its parent, and its own
  pub frames_hang : (f d : ℕ) → document_in T f ≡ Some d
      → frames_above T d ≡ unwrap_or (option_map (frames_above T) (option_and_then (document_in T) (parent_frame T f))) [] ++ f ∷ []
  -- a navigation of a live frame leaves the frames above it
  pub navigated : (s : Step) (f : ℕ) (url : List ℕ) (header : Option (List ℕ)) (d : ℕ) → s.event ≡ event.Navigate f url header
      → document_in T f ≡ Some d → frames_above (s ∷ T) (length (s ∷ T)) ≡ frames_above T d
  -- the documents of the chain of a current document are current
  pub above_current : (d p : ℕ) → IsTrue (is_current T d) → IsTrue (is_one_of (chain T d) p) → IsTrue (is_current T p)

-- what holds of the tree of live frames
pub record TreeLaws : Type 0 where
  pub tree : (duration : ℕ) (H : History) → IsTrue (is_regular duration H) → IsTree (replied duration H)
  -- the page of a current document is a top frame
  pub page_top : (duration : ℕ) (H : History) (d : ℕ) → IsTrue (is_regular duration H) → IsTrue (is_current (replied duration H) d) → parent_frame (replied duration H) (page (replied duration H) d) ≡ None
