-- A tree that stands for the steps stands for them with one more.
use Rattle.std.proofs.Common.{◌≡◌, ◌≢◌, ℕ, suc, ◌<◌, ◌≤◌, Bool, true, false, not, ◌||◌, ◌==◌, List, [], ◌∷◌, ◌++◌, map, length, Option, Some, None, is_some, option_and_then, refl, sym, ◌∙◌, ap, subst, arith, cond, true≢false, length-append}
use Rattle.std.specs.Prelude.{slice_index_or, filter}
use Rattle.std.specs.List.{list_any}
use Rattle.std.proofs.lemmas.Option.{slice_get_past}
use Rattle.std.proofs.lemmas.Bool.Decides.{Decides-eqb, nat_tests}
use Rattle.pe_arena.specs.declared.handle.Handle.{Handle}
use Rattle.pe_frames.specs.Forest.{Entry, Forest, path, same_handle, is_under, with_document, mark_of, Gives, opened}
use Rattle.pe_frames.specs.Order.{closed, navigated}
use Rattle.pe_features.specs.declared.capability.Capability.{Capability}
use Rattle.pe_features.specs.declared.capability.Capability.TheVariants.{Payment, Fullscreen, DisplayCapture}
use Rattle.pe_store.specs.declared.key.Key.TheVariants as key
use Rattle.pe_events.specs.declared.event.Event.TheVariants as event
use Rattle.pe_rules.specs.History.{Step, RepliedHistory, some_if}
use Rattle.pe_rules.specs.Numbering.{is_frame, makes_frame, document_frame, frames_made}
use Rattle.pe_rules.specs.Attributes.{attributes_of}
use Rattle.pe_rules.specs.Current.{ends, frames_above, document_in, is_live}
use Rattle.pe_rules.specs.Origins.{origin_of}
use Rattle.pe_laws.specs.HistoryLaws.{HistoryLaws}
use Rattle.pe_laws.specs.CurrentLaws.{left_in}
use Rattle.pe_laws.specs.Effects.{effects}
use Rattle.pe_laws.specs.EffectsLaws.{effects_of}
use Rattle.pe_engine.specs.declared.row.Delivered.{Delivered}
use Rattle.pe_engine.specs.declared.row.Row.{Row}
use Rattle.pe_engine.specs.declared.engine.Made.{Made}
use Rattle.pe_engine.specs.declared.engine.Made.TheVariants as made
use Rattle.pe_engine.specs.Objects.{handle_in, handle_at, Apart}
use Rattle.pe_engine.specs.Rows.{top_origin, IsRow, IsSettled, kept_attributes, no_deliveries, delivery_time, AreDelivered}
use Rattle.pe_laws.specs.StatusesLaws.{Each}
use Rattle.pe_engine.specs.Tree.{IsNode, IsTree}
use Rattle.pe_engine.proofs.Lists.{each-kept, each-map, each-all, filter-within, filter-same, map-filter, filter-all, map-left, each-listed}
use Rattle.pe_engine.proofs.TopDocuments.{top-origin-older}
use Rattle.pe_engine.proofs.Handles.{Grows, grows, path-grows, has-agrees, handle-last, handle-beside, handle-nothing, same-frame}

pub flip : (b : Bool) → not b ≡ true → b ≡ false
flip true h = sym h
flip false h = refl

pub not-itself : (n d : ℕ) → d ≤ n → d ≢ suc n
not-itself n d h e = absurd (omega arith)

module _ (laws : HistoryLaws) where
  -- ---- rows

  -- what is settled stays so
  pub settled-stays : (s : Step) (T : RepliedHistory) (x : Row) → x.doc ≤ length T → IsSettled T x → IsSettled (s ∷ T) x
  settled-stays s T x le is = record {
    origin = is.origin ∙ sym (laws.origins.origin_of_older s T x.doc (not-itself (length T) x.doc le));
    sandboxed = is.sandboxed ∙ sym (laws.origins.sandbox_flag_older s T x.doc (not-itself (length T) x.doc le));
    secure = is.secure ∙ sym (laws.origins.is_secure_older s T x.doc le);
    single = is.single ∙ ap key.One (sym (top-origin-older laws s T x.doc is.policy.top is.policy.rest (not-itself (length T) x.doc le) is.policy.chained));
    pair = is.pair ∙ ap (λ o. key.Pair o (origin_of T x.doc)) (sym (top-origin-older laws s T x.doc is.policy.top is.policy.rest (not-itself (length T) x.doc le) is.policy.chained))
        ∙ ap (key.Pair (top_origin (s ∷ T) x.doc)) (sym (laws.origins.origin_of_older s T x.doc (not-itself (length T) x.doc le)));
    policy = record {
      top = is.policy.top;
      rest = is.policy.rest;
      chained = laws.denials.links_older s T x.doc le ∙ is.policy.chained;
      last = is.policy.last ∙ sym (laws.denials.link_older s T x.doc le);
      stands = is.policy.stands;
    };
  }

  -- a step that neither delivers nor spends leaves the deliveries
  pub delivered-stays : (s : Step) (T : RepliedHistory) (d : ℕ) (x : Delivered) → (effects_of s).delivers ≡ false → (effects_of s).spends ≡ false → AreDelivered T d x → AreDelivered (s ∷ T) d x
  delivered-stays s T d x undelivered unspent is = λ c. is c ∙ sym (laws.delegation.delegated_stays s T d c undelivered unspent)

  -- a new document has none
  pub delivered-new : (s : Step) (T : RepliedHistory) (x : Delivered) → x ≡ no_deliveries → AreDelivered (s ∷ T) (suc (length T)) x
  delivered-new s T x none = λ c. ap (λ (y : Delivered). delivery_time y c) none ∙ nothing c ∙ sym (laws.delegation.delegated_newest s T c)
    where
      nothing : (c : Capability) → delivery_time no_deliveries c ≡ None
      nothing Payment = refl
      nothing Fullscreen = refl
      nothing DisplayCapture = refl

  -- a step that neither activates, consumes, acts on the history, delivers, spends, nor gives the frame an attribute leaves the row
  pub row-stays : (s : Step) (T : RepliedHistory) (f : ℕ) (x : Row) → x.doc ≤ length T
      → (effects_of s).activates ≡ false → (effects_of s).consumes ≡ false → (effects_of s).acts_on_history ≡ false
      → (effects_of s).delivers ≡ false → (effects_of s).spends ≡ false → attributes_of (s ∷ T) f ≡ attributes_of T f
      → IsRow T f x → IsRow (s ∷ T) f x
  row-stays s T f x le quiet unconsumed unacted undelivered unspent given is = record {
    settled = settled-stays s T x le is.settled;
    stamp = is.stamp ∙ sym (laws.effects.stamp_of_stays s T x.doc quiet unconsumed);
    second = is.second ∙ sym (laws.effects.second_stamp_stays s T x.doc unacted);
    delivered = delivered-stays s T x.doc x.delivered undelivered unspent is.delivered;
    attributes = is.attributes ∙ ap kept_attributes (sym given);
  }

  -- ---- documents in frames

  pub document-within : (T : RepliedHistory) (f d : ℕ) → document_in T f ≡ Some d → d ≤ length T
  document-within T f d h = let (current, frame, least, within) = laws.current.document_in_frame T f d h in within

  document-kept : (s : Step) (T : RepliedHistory) (f d : ℕ) → document_in T f ≡ Some d → ends (frames_above T d) s.event ≡ false
      → (document_frame s.event (suc (length T)) ≡ Some f → ⊥) → document_in (s ∷ T) f ≡ Some d
  document-kept s T f d h e ne = by_frame (document_frame s.event (suc (length T))) refl
    where
      by_frame : (o : Option ℕ) → document_frame s.event (suc (length T)) ≡ o → document_in (s ∷ T) f ≡ Some d
      by_frame None is = rw (laws.current.document_in_other s T f is, h, e) refl
      by_frame (Some g) is = rw (laws.current.document_in_beside s T f g is (λ q. ne (is ∙ ap Some q)), h, e) refl

  -- a frame that is live after the event was so before, or has a new document
  live-before : (s : Step) (T : RepliedHistory) (f : ℕ) → ((g : ℕ) → document_frame s.event (suc (length T)) ≡ Some g → is_live T g ≡ true) → is_live (s ∷ T) f ≡ true → is_live T f ≡ true
  unfolding is_live
  live-before s T f old h = by_frame (document_frame s.event (suc (length T))) refl
    where
      by_document : (o : Option ℕ) → is_some (left_in s T o) ≡ true → is_some o ≡ true
      by_document None e = e
      by_document (Some d) e = refl

      by_frame : (o : Option ℕ) → document_frame s.event (suc (length T)) ≡ o → is_some (document_in T f) ≡ true
      by_frame None is = by_document (document_in T f) (ap is_some (sym (laws.current.document_in_other s T f is)) ∙ h)
      by_frame (Some g) is = by_test (g == f) refl
        where
          by_test : (b : Bool) → (g == f) ≡ b → is_some (document_in T f) ≡ true
          by_test true q = ap (λ k. is_some (document_in T k)) (sym ((Decides-eqb g f).0 q)) ∙ old g is
          by_test false q = by_document (document_in T f) (ap is_some (sym (laws.current.document_in_beside s T f g is (λ i. true≢false (sym ((Decides-eqb g f).1 i) ∙ q)))) ∙ h)

  live-made : (s : Step) (T : RepliedHistory) (f : ℕ) → document_frame s.event (suc (length T)) ≡ Some f → is_live (s ∷ T) f ≡ true
  unfolding is_live
  live-made s T f is = ap is_some (laws.current.document_in_made s T f is)

  -- a live frame, whose document may have changed
  node-kept : (s : Step) (T : RepliedHistory) (ms ns : List Made) (e : Entry Row) (x : Row) → Grows ms ns → IsNode T ms e → x.doc ≡ e.doc.doc
      → ends (frames_above T e.doc.doc) s.event ≡ false → (document_frame s.event (suc (length T)) ≡ Some e.frame → ⊥) → IsRow (s ∷ T) e.frame x
      → IsNode (s ∷ T) ns (record e { doc = x })
  node-kept s T ms ns e x g node same quiet beside row = record {
    handle = g e.frame e.handle node.handle;
    document = document-kept s T e.frame e.doc.doc node.document quiet beside ∙ ap Some (sym same);
    path = rw (same, laws.current.frames_above_older s T e.doc.doc (document-within T e.frame e.doc.doc node.document)) (path-grows ms ns g (frames_above T e.doc.doc) (path e) node.path);
    row = row;
  }

  -- an event that makes no frame: what is left of the frames
  kept-still : (s : Step) (T : RepliedHistory) (ms : List Made) (m : Made) (v v' : Forest Row) → handle_in m ≡ None → (effects_of s).makes_frame ≡ false
      → ((f : ℕ) → is_live (s ∷ T) f ≡ true → is_live T f ≡ true)
      → map (λ e. e.frame) v'.entries ≡ filter (is_live (s ∷ T)) (map (λ e. e.frame) v.entries)
      → Each (IsNode (s ∷ T) (ms ++ m ∷ [])) v'.entries → v'.marks ≡ v.marks
      → IsTree T ms v → IsTree (s ∷ T) (ms ++ m ∷ []) v'
  kept-still s T ms m v v' nothing still before left nodes marks st = record {
    count = length-append ms (m ∷ []) ∙ (let c : length ms ≡ length T = st.count in omega arith);
    frames = λ f. laws.effects.is_frame_stays s T f still ∙ st.frames f ∙ ap is_some (sym (handle-nothing ms m f nothing));
    live = left ∙ ap (filter (is_live (s ∷ T))) st.live
        ∙ sym (ap (filter (is_live (s ∷ T))) (laws.effects.frames_made_stay s T still) ∙ filter-within (is_live (s ∷ T)) (is_live T) (frames_made T) before);
    nodes = nodes;
    given = λ f h e. rw (ap (λ m. slice_index_or m h.slot 0) marks) (st.given f h (sym (handle-nothing ms m f nothing) ∙ e));
    apart = λ f g h a b. st.apart f g h (sym (handle-nothing ms m f nothing) ∙ a) (sym (handle-nothing ms m g nothing) ∙ b);
  }

  -- ---- documents that change in their places

  pub kept-in-place : (s : Step) (T : RepliedHistory) (ms : List Made) (m : Made) (v v' : Forest Row) (change : Entry Row → Row) → handle_in m ≡ None
      → (effects_of s).makes_frame ≡ false → (effects_of s).makes_document ≡ false → (effects_of s).ends_documents ≡ false
      → ((e : Entry Row) → IsNode T ms e → ((change e).doc ≡ e.doc.doc) × IsRow (s ∷ T) e.frame (change e))
      → v'.entries ≡ map {A = Entry Row} (λ e. record e { doc = change e }) v.entries → v'.marks ≡ v.marks
      → IsTree T ms v → IsTree (s ∷ T) (ms ++ m ∷ []) v'
  unfolding is_live
  kept-in-place s T ms m v v' change nothing still made_none ended_none rows entries marks st =
      kept-still s T ms m v v' nothing still
      (λ f h. sym (laws.effects.is_live_stays s T f made_none ended_none) ∙ h)
      (ap (map {A = Entry Row} (λ e. e.frame)) entries ∙ map-left {A = Entry Row} (λ e. e.frame) (λ e. record e { doc = change e }) v.entries (λ e. refl)
      ∙ sym (filter-all (is_live (s ∷ T)) (map (λ e. e.frame) v.entries) (each-map (IsNode T ms) (λ f. is_live (s ∷ T) f ≡ true) (λ e. e.frame) v.entries (λ e node. live_still e node) st.nodes)))
      (subst (Each (IsNode (s ∷ T) (ms ++ m ∷ []))) (sym entries)
      (each-map (IsNode T ms) (IsNode (s ∷ T) (ms ++ m ∷ [])) (λ e. record e { doc = change e }) v.entries kept st.nodes))
      marks st
    where
      live_still : (e : Entry Row) → IsNode T ms e → is_live (s ∷ T) e.frame ≡ true
      live_still e node = ap is_some (laws.effects.document_in_stays s T e.frame made_none ended_none ∙ node.document)

      kept : (e : Entry Row) → IsNode T ms e → IsNode (s ∷ T) (ms ++ m ∷ []) (record e { doc = change e })
      kept e node =
          let (same, row) = rows e node in record {
            handle = grows ms m e.frame e.handle node.handle;
            document = laws.effects.document_in_stays s T e.frame made_none ended_none ∙ node.document ∙ ap Some (sym same);
            path = rw (same, laws.effects.frames_above_stay s T e.doc.doc made_none) (path-grows ms (ms ++ m ∷ []) (grows ms m) (frames_above T e.doc.doc) (path e) node.path);
            row = row;
          }

  -- an event that changes no document
  pub kept-silent : (s : Step) (T : RepliedHistory) (ms : List Made) (m : Made) (v : Forest Row) → handle_in m ≡ None
      → (effects_of s).makes_frame ≡ false → (effects_of s).makes_document ≡ false → (effects_of s).ends_documents ≡ false
      → (effects_of s).activates ≡ false → (effects_of s).consumes ≡ false → (effects_of s).acts_on_history ≡ false
      → (effects_of s).delivers ≡ false → (effects_of s).spends ≡ false → (effects_of s).gives_attribute ≡ false
      → IsTree T ms v → IsTree (s ∷ T) (ms ++ m ∷ []) v
  kept-silent s T ms m v nothing still made_none ended_none quiet unconsumed unacted undelivered unspent ungiven st =
      kept-in-place s T ms m v v (λ e. e.doc) nothing still made_none ended_none
      (λ e node. (refl, row-stays s T e.frame e.doc (document-within T e.frame e.doc.doc node.document) quiet unconsumed unacted undelivered unspent (laws.effects.attributes_stay s T e.frame ungiven) node.row))
      (sym (unchanged v.entries)) refl st
    where
      unchanged : (es : List (Entry Row)) → map {A = Entry Row} (λ e. record e { doc = e.doc }) es ≡ es
      unchanged [] = refl
      unchanged (e ∷ es) = ap (λ r. e ∷ r) (unchanged es)

  -- ---- closing

  pub kept-close : (s : Step) (T : RepliedHistory) (ms : List Made) (v v' : Forest Row) (F : ℕ) (h : Handle) → s.event ≡ event.Close F → handle_at ms F ≡ Some h
      → v'.entries ≡ closed h v.entries → v'.marks ≡ v.marks
      → IsTree T ms v → IsTree (s ∷ T) (ms ++ made.Nothing ∷ []) v'
  unfolding is_live
  kept-close s T ms v v' F h closes is entries marks st =
      kept-still s T ms made.Nothing v v' refl (ap (λ e. (effects e s.item).makes_frame) closes)
      (λ f live. live-before s T f (λ g e. absurd (unmade g e)) live)
      (ap (map (λ e. e.frame)) entries ∙ map-filter (λ e. e.frame) (λ e. not (is_under h e)) (is_live (s ∷ T)) v.entries (each-all (IsNode T ms) (λ e. not (is_under h e) ≡ is_live (s ∷ T) e.frame) v.entries test st.nodes))
      (subst (Each (IsNode (s ∷ T) (ms ++ made.Nothing ∷ []))) (sym entries)
      (each-kept (IsNode T ms) (IsNode (s ∷ T) (ms ++ made.Nothing ∷ [])) (λ e. not (is_under h e)) v.entries
      (λ e node out. node-kept s T ms (ms ++ made.Nothing ∷ []) e e.doc (grows ms made.Nothing) node refl (quiet e node out) (unmade e.frame) (stays e node)) st.nodes))
      marks st
    where
      unmade : (g : ℕ) → document_frame s.event (suc (length T)) ≡ Some g → ⊥
      unmade g e = let z : ◌≡◌ {A = Option ℕ} None (Some g) = ap (λ x. document_frame x (suc (length T))) (sym closes) ∙ e in cc

      none : document_frame s.event (suc (length T)) ≡ None
      none = ap (λ x. document_frame x (suc (length T))) closes

      ended : (fs : List ℕ) → ends fs s.event ≡ list_any (λ f. f == F) fs
      ended fs = ap (ends fs) closes

      agrees : (e : Entry Row) → IsNode T ms e → is_under h e ≡ list_any (λ f. f == F) (frames_above T e.doc.doc)
      agrees e node = has-agrees ms st.apart F h is (frames_above T e.doc.doc) (path e) node.path

      test : (e : Entry Row) → IsNode T ms e → not (is_under h e) ≡ is_live (s ∷ T) e.frame
      test e node = rw (agrees e node, laws.current.document_in_other s T e.frame none, node.document, ended (frames_above T e.doc.doc))
          (elim (list_any (λ f. f == F) (frames_above T e.doc.doc)) as (λ b. not b ≡ is_some (some_if (not b) e.doc.doc)) [ true ↦ refl | false ↦ refl ])

      quiet : (e : Entry Row) → IsNode T ms e → not (is_under h e) ≡ true → ends (frames_above T e.doc.doc) s.event ≡ false
      quiet e node out = ended (frames_above T e.doc.doc) ∙ sym (agrees e node) ∙ flip (is_under h e) out

      stays : (e : Entry Row) → IsNode T ms e → IsRow (s ∷ T) e.frame e.doc
      stays e node = row-stays s T e.frame e.doc (document-within T e.frame e.doc.doc node.document) (ap (λ x. (effects x s.item).activates) closes) (ap (λ x. (effects x s.item).consumes) closes)
          (ap (λ x. (effects x s.item).acts_on_history) closes) (ap (λ x. (effects x s.item).delivers) closes) (ap (λ x. (effects x s.item).spends) closes) (laws.effects.attributes_stay s T e.frame (ap (λ x. (effects x s.item).gives_attribute) closes)) node.row

  -- ---- a new frame

  pub kept-made : (s : Step) (T : RepliedHistory) (ms : List Made) (v v' : Forest Row) (h : Handle) (above : List Handle) (x : Row)
      → (effects_of s).makes_frame ≡ true → makes_frame s.event ≡ true → document_frame s.event (suc (length T)) ≡ Some (suc (length T)) → ((fs : List ℕ) → ends fs s.event ≡ false)
      → ((e : Entry Row) → IsNode T ms e → IsRow (s ∷ T) e.frame e.doc)
      → h.generation ≡ mark_of v h.slot → Gives v v' h
      → x.doc ≡ suc (length T) → IsRow (s ∷ T) (suc (length T)) x
      → map (handle_at (ms ++ made.Frame h ∷ [])) (frames_above (s ∷ T) (suc (length T))) ≡ map Some (above ++ h ∷ [])
      → v'.entries ≡ opened h above (suc (length T)) x v.entries
      → IsTree T ms v → IsTree (s ∷ T) (ms ++ made.Frame h ∷ []) v'
  unfolding is_live
  kept-made s T ms v v' h above x effect makes frame quiet rows fresh gives numbered row path entries st = record {
    count = length-append ms (made.Frame h ∷ []) ∙ (let c : length ms ≡ length T = st.count in omega arith);
    frames = frames;
    live = ap (map (λ e. e.frame)) entries ∙ live;
    nodes = subst (Each (IsNode (s ∷ T) ns)) (sym entries) (
      record { handle = last; document = new ∙ ap Some (sym numbered); path = rw numbered path; row = row },
      each-all (IsNode T ms) (IsNode (s ∷ T) ns) v.entries older st.nodes,
    );
    given = given_by;
    apart = apart;
  }
    where
      ns : List Made
      ns = ms ++ made.Frame h ∷ []

      k : ℕ
      k = suc (length T)

      last : handle_at ns k ≡ Some h
      last = rw (← st.count) (handle-last ms (made.Frame h))

      beside : (f : ℕ) → f ≢ k → handle_at ns f ≡ handle_at ms f
      beside f ne = handle-beside ms (made.Frame h) f (λ e. ne (e ∙ ap suc st.count))

      none : handle_at ms k ≡ None
      none = rw (← st.count) (ap (option_and_then handle_in) (slice_get_past ms (length ms) (omega arith)))

      new : document_in (s ∷ T) k ≡ Some k
      new = laws.current.document_in_made s T k frame

      is_k : (f : ℕ) → (f == k) ≡ true → f ≡ k
      is_k f e = (Decides-eqb f k).0 e

      not_k : (f : ℕ) → (f == k) ≡ false → f ≢ k
      not_k f e = grind (arith, nat_tests)

      frames : (f : ℕ) → is_frame (s ∷ T) f ≡ is_some (handle_at ns f)
      frames f = (elim (f == k) as (λ b. (f == k) ≡ b → is_frame (s ∷ T) f ≡ is_some (handle_at ns f)) [
        | true ↦ λ e. rw (is_k f e, last) (laws.numbering.is_frame_newest s T ∙ makes)
        | false ↦ λ e. laws.numbering.is_frame_older s T f (not_k f e) ∙ st.frames f ∙ ap is_some (sym (beside f (not_k f e)))
      ]) refl

      same_live : (f : ℕ) → list_any (λ g. g == f) (frames_made T) ≡ true → is_live (s ∷ T) f ≡ is_live T f
      same_live f listed =
          let (least, within) = laws.numbering.frame_within T f (sym (laws.numbering.frames_are T f) ∙ listed) in
          let ne : k ≢ f = omega arith in
          ap is_some (laws.current.document_in_beside s T f k frame ne) ∙ all_stay (document_in T f)
        where
          all_stay : (o : Option ℕ) → is_some (left_in s T o) ≡ is_some o
          all_stay None = refl
          all_stay (Some d) = rw (quiet (frames_above T d)) refl

      live : k ∷ map (λ e. e.frame) v.entries ≡ filter (is_live (s ∷ T)) (frames_made (s ∷ T))
      live = rw (laws.numbering.frames_step s T, makes, live-made s T k frame)
          (ap (λ r. k ∷ r) (st.live ∙ sym (filter-same (is_live (s ∷ T)) (is_live T) (frames_made T) (each-listed (λ f. is_live (s ∷ T) f ≡ is_live T f) (frames_made T) same_live))))

      other_frame : (e : Entry Row) → IsNode T ms e → document_frame s.event k ≡ Some e.frame → ⊥
      other_frame e node c =
          let i : k ≡ e.frame = (let z : Some k ≡ Some e.frame = sym frame ∙ c in cc) in
          let z : ◌≡◌ {A = Option Handle} None (Some e.handle) = sym none ∙ ap (handle_at ms) i ∙ node.handle in cc

      older : (e : Entry Row) → IsNode T ms e → IsNode (s ∷ T) ns e
      older e node = node-kept s T ms ns e e.doc (grows ms (made.Frame h)) node refl (quiet (frames_above T e.doc.doc)) (other_frame e node) (rows e node)

      -- a handle that was given before is not the new one
      other : (g : ℕ) (j : Handle) → handle_at ms g ≡ Some j → h ≡ j → ⊥
      other g j e i =
          let below = st.given g j e in
          let at : mark_of v h.slot ≡ mark_of v j.slot = ap (λ (y : Handle). mark_of v y.slot) i in
          let gen : h.generation ≡ j.generation = ap (λ (y : Handle). y.generation) i in
          absurd (omega arith)

      given_by : (f : ℕ) (j : Handle) → handle_at ns f ≡ Some j → j.generation < mark_of v' j.slot
      given_by f j e = by_number (f == k) refl
        where
          by_slot : (b : Bool) → (j.slot == h.slot) ≡ b → handle_at ms f ≡ Some j → j.generation < mark_of v' j.slot
          by_slot true q at =
              let same : j.slot ≡ h.slot = (Decides-eqb j.slot h.slot).0 q in
              let was : mark_of v j.slot ≡ mark_of v h.slot = ap (mark_of v) same in
              let is : mark_of v' j.slot ≡ mark_of v' h.slot = ap (mark_of v') same in
              let below = st.given f j at in let given = gives.given in omega arith
          by_slot false q at = rw (gives.others j.slot (λ i. true≢false (sym ((Decides-eqb j.slot h.slot).1 i) ∙ q))) (st.given f j at)

          by_number : (b : Bool) → (f == k) ≡ b → j.generation < mark_of v' j.slot
          by_number true q =
              let i : h ≡ j = (let z : Some h ≡ Some j = sym last ∙ ap (handle_at ns) (sym (is_k f q)) ∙ e in cc) in
              subst (λ (y : Handle). y.generation < mark_of v' y.slot) i (let given = gives.given in omega arith)
          by_number false q = by_slot (j.slot == h.slot) refl (sym (beside f (not_k f q)) ∙ e)

      is_new : (g : ℕ) (j : Handle) → (g == k) ≡ true → handle_at ns g ≡ Some j → h ≡ j
      is_new g j q e = let z : Some h ≡ Some j = sym last ∙ ap (handle_at ns) (sym (is_k g q)) ∙ e in cc

      apart : Apart ns
      apart f g j a b = (elim (f == k) as (λ x. (f == k) ≡ x → f ≡ g) [
        | true ↦ λ p. (elim (g == k) as (λ y. (g == k) ≡ y → f ≡ g) [
          | true ↦ λ q. is_k f p ∙ sym (is_k g q)
          | false ↦ λ q. absurd (other g j (sym (beside g (not_k g q)) ∙ b) (is_new f j p a))
        ]) refl
        | false ↦ λ p. (elim (g == k) as (λ y. (g == k) ≡ y → f ≡ g) [
          | true ↦ λ q. absurd (other f j (sym (beside f (not_k f p)) ∙ a) (is_new g j q b))
          | false ↦ λ q. st.apart f g j (sym (beside f (not_k f p)) ∙ a) (sym (beside g (not_k g q)) ∙ b)
        ]) refl
      ]) refl

  -- ---- navigation

  pub kept-navigation : (s : Step) (T : RepliedHistory) (ms : List Made) (v v' : Forest Row) (F : ℕ) (url : List ℕ) (header : Option (List ℕ)) (h : Handle) (x : Row) → s.event ≡ event.Navigate F url header
      → handle_at ms F ≡ Some h → is_live T F ≡ true
      → ((d : ℕ) → document_in T F ≡ Some d → frames_above (s ∷ T) (suc (length T)) ≡ frames_above T d)
      → x.doc ≡ suc (length T) → IsRow (s ∷ T) F x
      → v'.entries ≡ navigated h x v.entries → v'.marks ≡ v.marks
      → IsTree T ms v → IsTree (s ∷ T) (ms ++ made.Doc ∷ []) v'
  unfolding is_live
  kept-navigation s T ms v v' F url header h x navigates is live again numbered row entries marks st =
      kept-still s T ms made.Doc v v' refl (ap (λ e. (effects e s.item).makes_frame) navigates)
      (λ f alive. live-before s T f (λ g e. let z : Some F ≡ Some g = sym made_in ∙ e in let i : F ≡ g = cc in ap (is_live T) (sym i) ∙ live) alive)
      (ap (map (λ e. e.frame)) entries
      ∙ map-left (λ e. e.frame) (with_document h x) (filter stay v.entries) (λ e. refl)
      ∙ map-filter (λ e. e.frame) stay (is_live (s ∷ T)) v.entries (each-all (IsNode T ms) (λ e. stay e ≡ is_live (s ∷ T) e.frame) v.entries test st.nodes))
      (subst (Each (IsNode (s ∷ T) ns)) (sym entries)
      (each-map Left (IsNode (s ∷ T) ns) (with_document h x) (filter stay v.entries) (λ e n. n) (each-kept (IsNode T ms) Left stay v.entries after st.nodes)))
      marks st
    where
      ns : List Made
      ns = ms ++ made.Doc ∷ []

      made_in : document_frame s.event (suc (length T)) ≡ Some F
      made_in = ap (λ e. document_frame e (suc (length T))) navigates

      ended : (fs : List ℕ) → ends fs s.event ≡ list_any (λ f. f == F) fs
      ended fs = ap (ends fs) navigates

      stay : Entry Row → Bool
      stay e = same_handle e.handle h || not (is_under h e)

      Left : Entry Row → Type 0
      Left e = IsNode (s ∷ T) ns (with_document h x e)

      agrees : (e : Entry Row) → IsNode T ms e → is_under h e ≡ list_any (λ f. f == F) (frames_above T e.doc.doc)
      agrees e node = has-agrees ms st.apart F h is (frames_above T e.doc.doc) (path e) node.path

      named : (e : Entry Row) → IsNode T ms e → same_handle e.handle h ≡ (e.frame == F)
      named e node = same-frame ms st.apart e.frame F e.handle h node.handle is

      differs : (a b : ℕ) → (a == b) ≡ false → b ≢ a
      differs a b q = grind (arith, nat_tests)

      test : (e : Entry Row) → IsNode T ms e → stay e ≡ is_live (s ∷ T) e.frame
      test e node = rw (named e node, agrees e node) ((elim (e.frame == F) as (λ b. (e.frame == F) ≡ b → (b || not (list_any (λ f. f == F) (frames_above T e.doc.doc))) ≡ is_some (document_in (s ∷ T) e.frame)) [
        | true ↦ λ q. sym (ap is_some (laws.current.document_in_made s T e.frame (made_in ∙ ap Some (sym ((Decides-eqb e.frame F).0 q)))))
        | false ↦ λ q. rw (laws.current.document_in_beside s T e.frame F made_in (differs e.frame F q), node.document, ended (frames_above T e.doc.doc))
            (elim (list_any (λ f. f == F) (frames_above T e.doc.doc)) as (λ b. not b ≡ is_some (some_if (not b) e.doc.doc)) [ true ↦ refl | false ↦ refl ])
      ]) refl)

      stays : (e : Entry Row) → IsNode T ms e → IsRow (s ∷ T) e.frame e.doc
      stays e node = row-stays s T e.frame e.doc (document-within T e.frame e.doc.doc node.document) (ap (λ x. (effects x s.item).activates) navigates) (ap (λ x. (effects x s.item).consumes) navigates)
          (ap (λ x. (effects x s.item).acts_on_history) navigates) (ap (λ x. (effects x s.item).delivers) navigates) (ap (λ x. (effects x s.item).spends) navigates) (laws.effects.attributes_stay s T e.frame (ap (λ x. (effects x s.item).gives_attribute) navigates)) node.row

      after : (e : Entry Row) → IsNode T ms e → stay e ≡ true → Left e
      after e node keep = (elim (same_handle e.handle h) as (λ b. same_handle e.handle h ≡ b → (b || not (is_under h e)) ≡ true → IsNode (s ∷ T) ns (record e { doc = cond b x e.doc })) [
        | true ↦ λ q z. let f_is : e.frame ≡ F = (Decides-eqb e.frame F).0 (sym (named e node) ∙ q) in record {
          handle = grows ms made.Doc e.frame e.handle node.handle;
          document = laws.current.document_in_made s T e.frame (made_in ∙ ap Some (sym f_is)) ∙ ap Some (sym numbered);
          path = rw (numbered, again e.doc.doc (ap (document_in T) (sym f_is) ∙ node.document)) (path-grows ms ns (grows ms made.Doc) (frames_above T e.doc.doc) (path e) node.path);
          row = rw f_is row;
        }
        | false ↦ λ q z.
            node-kept s T ms ns e e.doc (grows ms made.Doc) node refl (ended (frames_above T e.doc.doc) ∙ sym (agrees e node) ∙ flip (is_under h e) z)
            (λ c. let i : Some F ≡ Some e.frame = sym made_in ∙ c in let j : F ≡ e.frame = cc in true≢false (sym ((Decides-eqb e.frame F).1 (sym j)) ∙ sym (named e node) ∙ q))
            (stays e node)
      ]) refl keep
