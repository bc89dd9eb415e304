-- Inputs: what one activates in the tree is what the definitions say.
use Rattle.std.proofs.Common.{◌≡◌, ℕ, ◌≤◌, Bool, true, false, ◌&&◌, ◌||◌, ◌==◌, IsTrue, List, [], ◌∷◌, ◌++◌, map, length, Some, unwrap_or, option_map, refl, sym, ◌∙◌, ap, cond, if◌then◌else◌}
use Rattle.std.specs.Prelude.{filter}
use Rattle.std.specs.List.{list_any}
use Rattle.std.proofs.lemmas.List.{length-map}
use Rattle.std.proofs.lemmas.Bool.Decides.{Decides-eqb}
use Rattle.pe_base.specs.declared.input.InputKind.{InputKind}
use Rattle.pe_base.specs.declared.input.Stamp.{Stamp}
use Rattle.pe_base.specs.declared.input.Stamp.TheVariants as stamp
use Rattle.pe_base.specs.Activation.{triggers}
use Rattle.pe_arena.specs.declared.handle.Handle.{Handle}
use Rattle.pe_frames.specs.Forest.{Entry, Forest, path, is_under, entry_of}
use Rattle.pe_origin.specs.Origins.{is_same_origin}
use Rattle.pe_activation.specs.Notifying.{is_notified, notified}
use Rattle.pe_events.specs.declared.event.Event.TheVariants as event
use Rattle.pe_rules.specs.History.{StepAnswer, Step, RepliedHistory, History}
use Rattle.pe_rules.specs.Making.{frame_of}
use Rattle.pe_rules.specs.Embedders.{chain, page}
use Rattle.pe_rules.specs.Current.{frames_above, is_current, document_in}
use Rattle.pe_rules.specs.Origins.{origin_of}
use Rattle.pe_rules.specs.Activation.{is_one_of, reaches, activates, activated_count, stamp_of}
use Rattle.pe_rules.specs.Replies.{replied, is_regular}
use Rattle.pe_laws.specs.ActivationLaws.{activates_in}
use Rattle.pe_laws.specs.HistoryLaws.{HistoryLaws}
use Rattle.pe_engine.specs.declared.row.Row.{Row}
use Rattle.pe_engine.specs.declared.engine.Made.{Made}
use Rattle.pe_engine.specs.declared.engine.Made.TheVariants as made
use Rattle.pe_engine.specs.Objects.{handle_at}
use Rattle.pe_engine.specs.Rows.{IsRow, IsSettled, kept_attributes}
use Rattle.pe_laws.specs.StatusesLaws.{Each}
use Rattle.pe_engine.specs.Tree.{IsNode, IsTree}
use Rattle.pe_engine.specs.Replying.{timed}
use Rattle.pe_engine.proofs.Accepted.{step_of}
use Rattle.pe_engine.proofs.Handles.{has-agrees}
use Rattle.pe_engine.proofs.Kept.{kept-in-place, document-within, settled-stays, delivered-stays}
use Rattle.pe_engine.proofs.Lists.{each-all, each-listed, map-filter}
use Rattle.pe_engine.proofs.Look.{node-at}

-- the documents of two rows are same origin
abbrev pub same_origins : Row → Row → Bool
same_origins x y = is_same_origin x.origin y.origin

-- the row, with this stamp
abbrev pub with_stamp : Stamp → Row → Row
with_stamp s x = record x { stamp = s }

pub stamp-settled : (T : RepliedHistory) (x : Row) (s : Stamp) → IsSettled T x → IsSettled T (with_stamp s x)
stamp-settled T x s is = record { origin = is.origin; sandboxed = is.sandboxed; secure = is.secure; single = is.single; pair = is.pair; policy = is.policy }

same-tests : (a b c x y z : Bool) → a ≡ x → b ≡ y → c ≡ z → (a || b && c) ≡ (x || y && z)
same-tests a b c x y z p q r = rw (p, q, r) refl

-- ---- what an input activates, by the document that it comes to

input-activates : (T : RepliedHistory) (F c d : ℕ) (kind : InputKind) → triggers kind ≡ true → document_in T F ≡ Some c → activates (event.Input F kind) T d ≡ reaches T c d
unfolding activates
input-activates T F c d kind triggering here =
    ap (λ b. b && unwrap_or (option_map (λ c. reaches T c d) (document_in T F)) false) triggering ∙ ap (λ o. unwrap_or (option_map (λ c. reaches T c d) o) false) here

reaches-current : (T : RepliedHistory) (c d : ℕ) → is_current T d ≡ true
    → reaches T c d ≡ (is_one_of (chain T c) d || is_one_of (chain T d) c && is_same_origin (origin_of T c) (origin_of T d))
unfolding reaches
reaches-current T c d current = ap (λ b. b && (is_one_of (chain T c) d || is_one_of (chain T d) c && is_same_origin (origin_of T c) (origin_of T d))) current

module _ (laws : HistoryLaws) where
  -- ---- the frames of a chain

  -- a document that its frame shows is the one of a frame exactly where that is its frame
  same-document : (T : RepliedHistory) (f d p : ℕ) → document_in T f ≡ Some d → document_in T (frame_of T p) ≡ Some p → (frame_of T p == f) ≡ (p == d)
  same-document T f d p here shown = (elim (frame_of T p == f) as (λ b. (frame_of T p == f) ≡ b → b ≡ (p == d)) [
    | true ↦ λ q.
        let z : Some p ≡ Some d = sym shown ∙ ap (document_in T) ((Decides-eqb (frame_of T p) f).0 q) ∙ here in
        let i : p ≡ d = cc in sym ((Decides-eqb p d).1 i)
    | false ↦ λ q. (elim (p == d) as (λ b. (p == d) ≡ b → false ≡ b) [
      | true ↦ λ r.
          let (current, framed, least, within) = laws.current.document_in_frame T f d here in
          let i : frame_of T p ≡ f = ap (frame_of T) ((Decides-eqb p d).0 r) ∙ framed in
          sym q ∙ (Decides-eqb (frame_of T p) f).1 i
      | false ↦ λ r. refl
    ]) refl
  ]) refl

  among-frames : (T : RepliedHistory) (f d : ℕ) (ds : List ℕ) → document_in T f ≡ Some d → Each (λ p. document_in T (frame_of T p) ≡ Some p) ds
      → list_any (λ g. g == f) (map (frame_of T) ds) ≡ is_one_of ds d
  among-frames T f d [] here shown = refl
  among-frames T f d (p ∷ ds) here shown = rw (same-document T f d p here shown.0, among-frames T f d ds here shown.1) refl

  -- the frame of a current document is above another exactly where the document is
  chain-frames : (duration : ℕ) (H : History) (c f d : ℕ) → IsTrue (is_regular duration H) → is_current (replied duration H) c ≡ true → document_in (replied duration H) f ≡ Some d
      → list_any (λ g. g == f) (frames_above (replied duration H) c) ≡ is_one_of (chain (replied duration H) c) d
  unfolding frames_above
  chain-frames duration H c f d regular current here =
      let T = replied duration H in
      let tree = laws.tree.tree duration H regular in
      among-frames T f d (chain T c) here
      (each-listed (λ p. document_in T (frame_of T p) ≡ Some p) (chain T c) (λ p one. laws.current.shown_in_frame duration H p regular (tree.above_current c p current one)))

  -- ---- an input that triggers

  current-at : (T : RepliedHistory) (ms : List Made) (e : Entry Row) → IsNode T ms e → is_current T e.doc.doc ≡ true
  current-at T ms e node = let (is, frame, least, within) = laws.current.document_in_frame T e.frame e.doc.doc node.document in is

  module _ (duration F : ℕ) (kind : InputKind) (H : History) (ms : List Made) (v : Forest Row) (h : Handle) (x : Entry Row) (regular : IsTrue (is_regular duration H)) (triggering : triggers kind ≡ true) (at : handle_at ms F ≡ Some h) (found : entry_of v.entries h ≡ Some x) (st : IsTree (replied duration H) ms v) where
    -- the frames that are told are those whose document the input activates
    notified-are : (e : Entry Row) → IsNode (replied duration H) ms e → is_notified same_origins h x e ≡ activates (event.Input F kind) (replied duration H) e.doc.doc
    notified-are e node =
        let T = replied duration H in
        let (frame, own) = node-at T ms v F h x st at found in
        let here : document_in T F ≡ Some x.doc.doc = ap (document_in T) (sym frame) ∙ own.document in
        let above = has-agrees ms st.apart e.frame e.handle node.handle (frames_above T x.doc.doc) (path x) own.path ∙ chain-frames duration H x.doc.doc e.frame e.doc.doc regular (current-at T ms x own) node.document in
        let below = has-agrees ms st.apart F h at (frames_above T e.doc.doc) (path e) node.path ∙ chain-frames duration H e.doc.doc F x.doc.doc regular (current-at T ms e node) here in
        let origins = ap (λ o. is_same_origin o e.doc.origin) own.row.settled.origin ∙ ap (is_same_origin (origin_of T x.doc.doc)) node.row.settled.origin in
        same-tests (is_under e.handle x) (is_under h e) (is_same_origin x.doc.origin e.doc.origin) (is_one_of (chain T x.doc.doc) e.doc.doc) (is_one_of (chain T e.doc.doc) x.doc.doc) (is_same_origin (origin_of T x.doc.doc) (origin_of T e.doc.doc)) above below origins
        ∙ sym (input-activates T F x.doc.doc e.doc.doc kind triggering here ∙ reaches-current T x.doc.doc e.doc.doc (current-at T ms e node))

    -- they are as many as the documents that it activates
    pub notified-count : length (filter (is_notified same_origins h x) v.entries) ≡ activated_count (event.Input F kind) (replied duration H)
    notified-count =
        let T = replied duration H in
        sym (length-map (filter (is_notified same_origins h x) v.entries) (λ e. e.frame))
        ∙ ap length (map-filter (λ e. e.frame) (is_notified same_origins h x) (activates_in (event.Input F kind) T) v.entries
        (each-all (IsNode T ms) (λ e. is_notified same_origins h x e ≡ activates_in (event.Input F kind) T e.frame) v.entries
        (λ e node. notified-are e node ∙ sym (ap (λ o. unwrap_or (option_map (activates (event.Input F kind) T) o) false) node.document)) st.nodes))
        ∙ ap (λ fs. length (filter (activates_in (event.Input F kind) T) fs)) st.live
        ∙ sym (laws.activation.activated_in_frames duration H (event.Input F kind) regular)

    pub kept-input : (now : ℕ) (item : StepAnswer) (v' : Forest Row) → v'.entries ≡ notified same_origins with_stamp now h x v.entries → v'.marks ≡ v.marks
        → IsTree (step_of (timed now (event.Input F kind)) item ∷ replied duration H) (ms ++ made.Nothing ∷ []) v'
    kept-input now item v' entries marks =
        kept-in-place laws s T ms made.Nothing v v' change refl refl refl refl rows entries marks st
      where
        T : RepliedHistory
        T = replied duration H

        s : Step
        s = step_of (timed now (event.Input F kind)) item

        activated : Entry Row → Row
        activated e = with_stamp (stamp.At now) e.doc

        change : Entry Row → Row
        change e = if is_notified same_origins h x e then activated e else e.doc

        within : (e : Entry Row) → IsNode T ms e → e.doc.doc ≤ length T
        within e node = document-within laws T e.frame e.doc.doc node.document

        after : (e : Entry Row) (b : Bool) → activates (event.Input F kind) T e.doc.doc ≡ b → stamp_of (s ∷ T) e.doc.doc ≡ cond b (stamp.At now) (stamp_of T e.doc.doc)
        after e b is = laws.activation.stamp_step s T e.doc.doc ∙ rw (is, laws.effects.consumes_none s T (page T e.doc.doc) refl) refl

        row-of : (e : Entry Row) → IsNode T ms e → (b : Bool) → activates (event.Input F kind) T e.doc.doc ≡ b → ((cond b (activated e) e.doc).doc ≡ e.doc.doc) × IsRow (s ∷ T) e.frame (cond b (activated e) e.doc)
        row-of e node true is = (
          refl,
          record {
            settled = settled-stays laws s T (activated e) (within e node) (stamp-settled T e.doc (stamp.At now) node.row.settled);
            stamp = sym (after e true is);
            second = node.row.second ∙ sym (laws.effects.second_stamp_stays s T e.doc.doc refl);
            delivered = delivered-stays laws s T e.doc.doc e.doc.delivered refl refl node.row.delivered;
            attributes = node.row.attributes ∙ ap kept_attributes (sym (laws.effects.attributes_stay s T e.frame refl));
          },
        )
        row-of e node false is = (
          refl,
          record {
            settled = settled-stays laws s T e.doc (within e node) node.row.settled;
            stamp = node.row.stamp ∙ sym (after e false is);
            second = node.row.second ∙ sym (laws.effects.second_stamp_stays s T e.doc.doc refl);
            delivered = delivered-stays laws s T e.doc.doc e.doc.delivered refl refl node.row.delivered;
            attributes = node.row.attributes ∙ ap kept_attributes (sym (laws.effects.attributes_stay s T e.frame refl));
          },
        )

        rows : (e : Entry Row) → IsNode T ms e → ((change e).doc ≡ e.doc.doc) × IsRow (s ∷ T) e.frame (change e)
        rows e node = rw (notified-are e node) (row-of e node (activates (event.Input F kind) T e.doc.doc) refl)
