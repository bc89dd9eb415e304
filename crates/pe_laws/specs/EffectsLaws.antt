-- Where the table of effects says no, a definition stays as it is at the step: one law a definition.
-- Of a step that makes no document all documents stay; of one that ends none, older documents and frames.
use Rattle.std.specs.Prelude.{◌≡◌, ◌≢◌, ℕ, ◌≤◌, false, ◌&&◌, List, ◌∷◌, ◌++◌, length, filter, Some, None, is_none, option_to_list}
use Rattle.pe_features.specs.declared.feature.Feature.{Feature}
use Rattle.pe_store.specs.Pairs.{Pair}
use Rattle.pe_events.specs.declared.event.AttrName.{AttrName}
use Rattle.pe_rules.specs.History.{Step, RepliedHistory, some_if}
use Rattle.pe_rules.specs.Numbering.{makes_frame, is_frame, frames_made, documents_made, last_document, parent_frame}
use Rattle.pe_rules.specs.Making.{making, frame_of}
use Rattle.pe_rules.specs.Embedders.{chain, top_document, page, page_of_frame, depth}
use Rattle.pe_rules.specs.Current.{ends, frames_above, is_current, document_in, is_live}
use Rattle.pe_rules.specs.Activation.{activates, consumes, has_sticky, has_transient, stamp_of}
use Rattle.pe_rules.specs.HistoryActivation.{consumes_history, second_stamp_of, has_history_activation}
use Rattle.pe_rules.specs.Attributes.{attribute, attributes_of}
use Rattle.pe_rules.specs.Origins.{origin_of, sandbox_flag, is_secure}
use Rattle.pe_rules.specs.Denials.{declared_policy_in, container_policy_in, chain_documents, why_denied}
use Rattle.pe_rules.specs.Settings.{setting_by, dismissed_pair, standing_of, last_setting, dismissals}
use Rattle.pe_rules.specs.Causes.{is_same_number, live_pages, live_frames}
use Rattle.pe_laws.specs.Effects.{Effects, effects}

-- what a step may do
abbrev pub effects_of : Step → Effects
effects_of s = effects s.event s.item

-- the frame that a step makes
abbrev pub frame_added : Step → RepliedHistory → List ℕ
frame_added s T = option_to_list (some_if (makes_frame s.event) (length (s ∷ T)))

-- what a step leaves where the table says no
pub record EffectsLaws : Type 0 where
  -- a step that makes no frame
  pub is_frame_stays : (s : Step) (T : RepliedHistory) (k : ℕ) → (effects_of s).makes_frame ≡ false → is_frame (s ∷ T) k ≡ is_frame T k
  pub frames_made_stay : (s : Step) (T : RepliedHistory) → (effects_of s).makes_frame ≡ false → frames_made (s ∷ T) ≡ frames_made T
  pub parent_frame_stays : (s : Step) (T : RepliedHistory) (f : ℕ) → (effects_of s).makes_frame ≡ false → parent_frame (s ∷ T) f ≡ parent_frame T f
  -- a step that makes no document
  pub documents_made_stay : (s : Step) (T : RepliedHistory) → (effects_of s).makes_document ≡ false → documents_made (s ∷ T) ≡ documents_made T
  pub last_document_stays : (s : Step) (T : RepliedHistory) (f : ℕ) → (effects_of s).makes_document ≡ false → last_document (s ∷ T) f ≡ last_document T f
  pub making_stays : (s : Step) (T : RepliedHistory) (d : ℕ) → (effects_of s).makes_document ≡ false → making (s ∷ T) d ≡ making T d
  pub frame_of_stays : (s : Step) (T : RepliedHistory) (d : ℕ) → (effects_of s).makes_document ≡ false → frame_of (s ∷ T) d ≡ frame_of T d
  pub chain_stays : (s : Step) (T : RepliedHistory) (d : ℕ) → (effects_of s).makes_document ≡ false → chain (s ∷ T) d ≡ chain T d
  pub top_document_stays : (s : Step) (T : RepliedHistory) (d : ℕ) → (effects_of s).makes_document ≡ false → top_document (s ∷ T) d ≡ top_document T d
  pub page_stays : (s : Step) (T : RepliedHistory) (d : ℕ) → (effects_of s).makes_document ≡ false → page (s ∷ T) d ≡ page T d
  pub page_of_frame_stays : (s : Step) (T : RepliedHistory) (f : ℕ) → (effects_of s).makes_document ≡ false → page_of_frame (s ∷ T) f ≡ page_of_frame T f
  pub depth_stays : (s : Step) (T : RepliedHistory) (f : ℕ) → (effects_of s).makes_document ≡ false → depth (s ∷ T) f ≡ depth T f
  pub frames_above_stay : (s : Step) (T : RepliedHistory) (d : ℕ) → (effects_of s).makes_document ≡ false → frames_above (s ∷ T) d ≡ frames_above T d
  pub origin_of_stays : (s : Step) (T : RepliedHistory) (d : ℕ) → (effects_of s).makes_document ≡ false → origin_of (s ∷ T) d ≡ origin_of T d
  pub sandbox_flag_stays : (s : Step) (T : RepliedHistory) (d : ℕ) → (effects_of s).makes_document ≡ false → sandbox_flag (s ∷ T) d ≡ sandbox_flag T d
  pub is_secure_stays : (s : Step) (T : RepliedHistory) (d : ℕ) → (effects_of s).makes_document ≡ false → is_secure (s ∷ T) d ≡ is_secure T d
  pub declared_stay : (s : Step) (T : RepliedHistory) (d : ℕ) → (effects_of s).makes_document ≡ false → declared_policy_in (s ∷ T) d ≡ declared_policy_in T d
  pub container_stay : (s : Step) (T : RepliedHistory) (d : ℕ) → (effects_of s).makes_document ≡ false → container_policy_in (s ∷ T) d ≡ container_policy_in T d
  pub links_stay : (s : Step) (T : RepliedHistory) (d : ℕ) → (effects_of s).makes_document ≡ false → chain_documents (s ∷ T) d ≡ chain_documents T d
  pub why_denied_stays : (s : Step) (T : RepliedHistory) (feature : Feature) (d : ℕ) → (effects_of s).makes_document ≡ false → why_denied (s ∷ T) feature d ≡ why_denied T feature d
  -- a step that gives no attribute
  pub attribute_stays : (s : Step) (T : RepliedHistory) (f : ℕ) (name : AttrName) → (effects_of s).gives_attribute ≡ false → attribute (s ∷ T) f name ≡ attribute T f name
  pub attributes_stay : (s : Step) (T : RepliedHistory) (f : ℕ) → (effects_of s).gives_attribute ≡ false → attributes_of (s ∷ T) f ≡ attributes_of T f
  -- a step that activates nothing, or consumes nothing
  pub activates_none : (s : Step) (T : RepliedHistory) (d : ℕ) → (effects_of s).activates ≡ false → activates s.event T d ≡ false
  pub consumes_none : (s : Step) (T : RepliedHistory) (top : ℕ) → (effects_of s).consumes ≡ false → consumes s T top ≡ false
  pub stamp_of_stays : (s : Step) (T : RepliedHistory) (d : ℕ) → (effects_of s).activates ≡ false → (effects_of s).consumes ≡ false → stamp_of (s ∷ T) d ≡ stamp_of T d
  pub has_transient_stays : (s : Step) (duration : ℕ) (T : RepliedHistory) (now d : ℕ) → (effects_of s).activates ≡ false → (effects_of s).consumes ≡ false
      → has_transient duration (s ∷ T) now d ≡ has_transient duration T now d
  -- consuming leaves sticky activation
  pub has_sticky_stays : (s : Step) (T : RepliedHistory) (d : ℕ) → (effects_of s).activates ≡ false → has_sticky (s ∷ T) d ≡ has_sticky T d
  -- a step that does not act on the history
  pub consumes_history_none : (s : Step) (T : RepliedHistory) (top : ℕ) → (effects_of s).acts_on_history ≡ false → consumes_history s T top ≡ false
  pub second_stamp_stays : (s : Step) (T : RepliedHistory) (d : ℕ) → (effects_of s).acts_on_history ≡ false → second_stamp_of (s ∷ T) d ≡ second_stamp_of T d
  pub history_activation_stays : (s : Step) (T : RepliedHistory) (d : ℕ) → (effects_of s).activates ≡ false → (effects_of s).consumes ≡ false → (effects_of s).acts_on_history ≡ false
      → has_history_activation (s ∷ T) d ≡ has_history_activation T d
  -- a step that neither makes a setting by name nor dismisses a prompt
  pub dismissed_none : (s : Step) (T : RepliedHistory) → (effects_of s).dismisses ≡ false → dismissed_pair s.event T ≡ None
  pub setting_none : (s : Step) (T : RepliedHistory) → (effects_of s).sets ≡ false → (effects_of s).dismisses ≡ false → setting_by s.time s.event T ≡ None
  pub standing_stays : (s : Step) (T : RepliedHistory) (p : Pair) → (effects_of s).sets ≡ false → (effects_of s).dismisses ≡ false → standing_of (s ∷ T) p ≡ standing_of T p
  pub last_setting_stays : (s : Step) (T : RepliedHistory) (p : Pair) → (effects_of s).sets ≡ false → (effects_of s).dismisses ≡ false → last_setting (s ∷ T) p ≡ last_setting T p
  pub dismissals_stay : (s : Step) (T : RepliedHistory) (p : Pair) → (effects_of s).sets ≡ false → (effects_of s).dismisses ≡ false → dismissals (s ∷ T) p ≡ dismissals T p
  -- a step that ends no document, of older documents and frames: it makes one at most in a frame of its own
  pub older_current_stays : (s : Step) (T : RepliedHistory) (d : ℕ) → (effects_of s).ends_documents ≡ false → d ≤ length T → is_current (s ∷ T) d ≡ is_current T d
  pub older_last_document_stays : (s : Step) (T : RepliedHistory) (f : ℕ) → (effects_of s).ends_documents ≡ false → f ≢ length (s ∷ T) → last_document (s ∷ T) f ≡ last_document T f
  pub older_document_in_stays : (s : Step) (T : RepliedHistory) (f : ℕ) → (effects_of s).ends_documents ≡ false → f ≤ length T → document_in (s ∷ T) f ≡ document_in T f
  pub older_live_stays : (s : Step) (T : RepliedHistory) (f : ℕ) → (effects_of s).ends_documents ≡ false → f ≤ length T → is_live (s ∷ T) f ≡ is_live T f
  pub older_page_of_frame_stays : (s : Step) (T : RepliedHistory) (f : ℕ) → (effects_of s).ends_documents ≡ false → f ≤ length T → page_of_frame (s ∷ T) f ≡ page_of_frame T f
  pub older_depth_stays : (s : Step) (T : RepliedHistory) (f : ℕ) → (effects_of s).ends_documents ≡ false → f ≤ length T → depth (s ∷ T) f ≡ depth T f
  pub live_pages_grow : (s : Step) (T : RepliedHistory) → (effects_of s).ends_documents ≡ false
      → live_pages (s ∷ T) ≡ filter (λ f. is_live (s ∷ T) f && is_none (parent_frame (s ∷ T) f)) (frame_added s T) ++ live_pages T
  pub live_frames_grow : (s : Step) (T : RepliedHistory) (top : ℕ) → (effects_of s).ends_documents ≡ false
      → live_frames (s ∷ T) top ≡ filter (λ f. is_live (s ∷ T) f && is_same_number (page_of_frame (s ∷ T) f) (Some top)) (frame_added s T) ++ live_frames T top
  -- a step that neither makes a document nor ends one
  pub is_current_stays : (s : Step) (T : RepliedHistory) (d : ℕ) → (effects_of s).makes_document ≡ false → (effects_of s).ends_documents ≡ false → is_current (s ∷ T) d ≡ is_current T d
  pub document_in_stays : (s : Step) (T : RepliedHistory) (f : ℕ) → (effects_of s).makes_document ≡ false → (effects_of s).ends_documents ≡ false → document_in (s ∷ T) f ≡ document_in T f
  pub is_live_stays : (s : Step) (T : RepliedHistory) (f : ℕ) → (effects_of s).makes_document ≡ false → (effects_of s).ends_documents ≡ false → is_live (s ∷ T) f ≡ is_live T f
  pub live_pages_stay : (s : Step) (T : RepliedHistory) → (effects_of s).makes_document ≡ false → (effects_of s).ends_documents ≡ false → live_pages (s ∷ T) ≡ live_pages T
  pub live_frames_stay : (s : Step) (T : RepliedHistory) (top : ℕ) → (effects_of s).makes_document ≡ false → (effects_of s).ends_documents ≡ false → live_frames (s ∷ T) top ≡ live_frames T top
  -- a step that ends no document navigates and closes no frame
  pub ends_none : (s : Step) (frames : List ℕ) → (effects_of s).ends_documents ≡ false → ends frames s.event ≡ false
