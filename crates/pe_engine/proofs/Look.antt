-- What the tree answers is what the history says.
use Rattle.std.proofs.Common.{◌≡◌, ℕ, suc, ◌+◌, Bool, true, false, ◌||◌, ◌==◌, List, [], ◌∷◌, ◌++◌, map, length, Option, Some, None, IsTrue, is_some, is_none, unwrap_or, option_map, option_and_then, refl, sym, ◌∙◌, ap, subst, arith, cond, true≢false, length-append}
use Rattle.std.specs.Prelude.{filter}
use Rattle.std.specs.List.{list_any}
use Rattle.std.proofs.lemmas.List.{length-map}
use Rattle.std.proofs.lemmas.Bool.Decides.{Decides-eqb, nat_tests}
use Rattle.pe_arena.specs.declared.handle.Handle.{Handle}
use Rattle.pe_frames.specs.Forest.{Entry, Forest, path, same_handle, entry_of, top_of, first_of, last_of, is_top, page_size, page_count, parent_of, depth_of}
use Rattle.pe_rules.specs.History.{RepliedHistory, some_if}
use Rattle.pe_rules.specs.Numbering.{is_frame, frames_made, parent_frame, last_document}
use Rattle.pe_rules.specs.Making.{frame_of}
use Rattle.pe_rules.specs.Embedders.{chain, first_or, top_document, page, page_of_frame, depth}
use Rattle.pe_rules.specs.Current.{frames_above, is_current, document_in, is_live}
use Rattle.pe_rules.specs.Causes.{is_same_number, live_pages, live_frames, count_in_page}
use Rattle.pe_laws.specs.HistoryLaws.{HistoryLaws}
use Rattle.pe_laws.specs.TreeLaws as laws
use Rattle.pe_engine.specs.declared.row.Row.{Row}
use Rattle.pe_engine.specs.declared.engine.Made.{Made}
use Rattle.pe_engine.specs.Objects.{handle_at}
use Rattle.pe_laws.specs.StatusesLaws.{Each}
use Rattle.pe_engine.specs.Tree.{IsNode, IsTree}
use Rattle.pe_engine.proofs.Lists.{each-all, map-filter, filter-and, any-filter}
use Rattle.pe_engine.proofs.Handles.{same_handle-Decides, same-frame, same_length}

-- ---- a frame by its handle

-- a node that is found
pub found : (T : RepliedHistory) (ms : List Made) (es : List (Entry Row)) (h : Handle) (e : Entry Row) → Each (IsNode T ms) es → entry_of es h ≡ Some e → (e.handle ≡ h) × IsNode T ms e
found T ms [] h e nodes z = cc
found T ms (x ∷ es) h e nodes z = (elim (same_handle x.handle h) as (λ b. same_handle x.handle h ≡ b → cond b (Some x) (entry_of es h) ≡ Some e → (e.handle ≡ h) × IsNode T ms e) [
  | true ↦ λ q y. let i : x ≡ e = cc in (ap (λ a. a.handle) (sym i) ∙ (same_handle-Decides x.handle h).0 q, subst (IsNode T ms) i nodes.0)
  | false ↦ λ q y. found T ms es h e nodes.1 y
]) refl z

-- a listed frame is found under its handle
listed : (T : RepliedHistory) (ms : List Made) (es : List (Entry Row)) (f : ℕ) (h : Handle) → handle_at ms f ≡ Some h → Each (IsNode T ms) es → list_any (λ g. g == f) (map (λ e. e.frame) es) ≡ true → is_some (entry_of es h) ≡ true
listed T ms [] f h is nodes z = absurd (true≢false (sym z))
listed T ms (x ∷ es) f h is nodes z = by_test (x.frame == f) refl (same_handle x.handle h) refl (listed T ms es f h is nodes.1) z
  where
    by_test : (b : Bool) → (x.frame == f) ≡ b → (c : Bool) → same_handle x.handle h ≡ c → (list_any (λ g. g == f) (map (λ e. e.frame) es) ≡ true → is_some (entry_of es h) ≡ true)
        → (b || list_any (λ g. g == f) (map (λ e. e.frame) es)) ≡ true → is_some (cond c (Some x) (entry_of es h)) ≡ true
    by_test b q true r older y = refl
    by_test true q false r older y = let i : x.frame ≡ f = (Decides-eqb x.frame f).0 q in
        let k : Some x.handle ≡ Some h = sym nodes.0.handle ∙ ap (handle_at ms) i ∙ is in let j : x.handle ≡ h = cc in absurd (true≢false (sym ((same_handle-Decides x.handle h).1 j) ∙ r))
    by_test false q false r older y = older y

-- the steps whose last documents are looked at
pub last-of : (T : RepliedHistory) (f d : ℕ) → document_in T f ≡ Some d → last_document T f ≡ Some d
unfolding document_in
last-of T f d h = by_last (last_document T f) h
  where
    by_current : (b : Bool) (x : ℕ) → some_if b x ≡ Some d → Some x ≡ Some d
    by_current true x e = e
    by_current false x e = cc

    by_last : (o : Option ℕ) → option_and_then (λ d. some_if (is_current T d) d) o ≡ Some d → o ≡ Some d
    by_last None e = cc
    by_last (Some x) e = by_current (is_current T x) x e

-- the live frame of a handle
pub node-at : (T : RepliedHistory) (ms : List Made) (v : Forest Row) (f : ℕ) (h : Handle) (e : Entry Row) → IsTree T ms v → handle_at ms f ≡ Some h → entry_of v.entries h ≡ Some e → (e.frame ≡ f) × IsNode T ms e
node-at T ms v f h e st is z = let n = found T ms v.entries h e st.nodes z in (st.apart e.frame f h (n.1.handle ∙ ap Some n.0) is, n.1)

module _ (laws : HistoryLaws) where
  -- the handle of a frame is live exactly where the frame is
  pub live-at : (T : RepliedHistory) (ms : List Made) (v : Forest Row) (f : ℕ) (h : Handle) → IsTree T ms v → handle_at ms f ≡ Some h → is_some (entry_of v.entries h) ≡ is_live T f
  unfolding is_live
  live-at T ms v f h st is = by_found (entry_of v.entries h) refl
    where
      by_live : (b : Bool) → is_live T f ≡ b → entry_of v.entries h ≡ None → false ≡ b
      by_live false q z = refl
      by_live true q z = absurd (true≢false (sym (listed T ms v.entries f h is st.nodes
          (ap (list_any (λ g. g == f)) st.live ∙ any-filter (is_live T) f (frames_made T) q (laws.numbering.frames_are T f ∙ st.frames f ∙ ap is_some is))) ∙ ap is_some z))

      by_found : (o : Option (Entry Row)) → entry_of v.entries h ≡ o → is_some o ≡ is_some (document_in T f)
      by_found None z = by_live (is_some (document_in T f)) refl z
      by_found (Some e) z = let (same, node) = node-at T ms v f h e st is z in sym (ap is_some (ap (document_in T) (sym same) ∙ node.document))

  -- a number without a handle is no frame's, and none of a live one
  pub no-handle : (T : RepliedHistory) (ms : List Made) (v : Forest Row) (f : ℕ) → IsTree T ms v → handle_at ms f ≡ None → is_frame T f ≡ false
  no-handle T ms v f st is = st.frames f ∙ ap is_some is

-- ---- the depth

-- a frame stands as deep as the chain of its document is long
pub depth-at : (T : RepliedHistory) (ms : List Made) (e : Entry Row) → IsNode T ms e → depth_of e ≡ depth T e.frame
unfolding depth frames_above
depth-at T ms e node = rw (last-of T e.frame e.doc.doc node.document) (path-long e.above e.handle ∙ sym (same_length ms (map (frame_of T) (chain T e.doc.doc)) (path e) node.path) ∙ length-map (chain T e.doc.doc) (frame_of T))
  where
    path-long : (hs : List Handle) (h : Handle) → length hs + 1 ≡ length (hs ++ h ∷ [])
    path-long hs h = omega (arith, length-append hs (h ∷ []))

-- ---- the page

pub page-at : (T : RepliedHistory) (ms : List Made) (e : Entry Row) → IsNode T ms e → handle_at ms (page T e.doc.doc) ≡ Some (top_of e)
unfolding page top_document frames_above
page-at T ms e node = by_chain (chain T e.doc.doc) e.above node.path
  where
    by_chain : (ds : List ℕ) (above : List Handle) → map (handle_at ms) (map (frame_of T) ds) ≡ map Some (above ++ e.handle ∷ [])
        → handle_at ms (frame_of T (first_or e.doc.doc ds)) ≡ Some (first_of above e.handle)
    by_chain [] [] z = cc
    by_chain [] (a ∷ above) z = cc
    by_chain (d ∷ ds) [] z = cc
    by_chain (d ∷ ds) (a ∷ above) z = cc

pub page-of : (T : RepliedHistory) (f d : ℕ) → document_in T f ≡ Some d → page_of_frame T f ≡ Some (page T d)
unfolding page_of_frame
page-of T f d h = rw (last-of T f d h) refl

-- the frames of a page are as many as its live frames
pub page-count : (T : RepliedHistory) (ms : List Made) (v : Forest Row) (e : Entry Row) → IsTree T ms v → IsNode T ms e → page_size v.entries (top_of e) ≡ length (live_frames T (page T e.doc.doc))
unfolding live_frames
page-count T ms v e st node =
    sym (length-map (filter (λ x. same_handle (top_of x) (top_of e)) v.entries) (λ x. x.frame))
    ∙ ap length (map-filter (λ x. x.frame) (λ x. same_handle (top_of x) (top_of e)) in_top v.entries (each-all (IsNode T ms) (λ x. same_handle (top_of x) (top_of e) ≡ in_top x.frame) v.entries test st.nodes))
    ∙ ap (λ xs. length (filter in_top xs)) st.live
    ∙ ap length (sym (filter-and (is_live T) in_top (frames_made T)))
  where
    in_top : ℕ → Bool
    in_top f = is_same_number (page_of_frame T f) (Some (page T e.doc.doc))

    test : (x : Entry Row) → IsNode T ms x → same_handle (top_of x) (top_of e) ≡ in_top x.frame
    test x n = rw (page-of T x.frame x.doc.doc n.document) (same-frame ms st.apart (page T x.doc.doc) (page T e.doc.doc) (top_of x) (top_of e) (page-at T ms x n) (page-at T ms e node))

pub size-at : (T : RepliedHistory) (ms : List Made) (v : Forest Row) (e : Entry Row) → IsTree T ms v → IsNode T ms e → page_size v.entries (top_of e) ≡ count_in_page T e.frame (live_frames T)
size-at T ms v e st node = page-count T ms v e st node ∙ sym (ap (λ o. unwrap_or (option_map (λ top. length (live_frames T top)) o) 0) (page-of T e.frame e.doc.doc node.document))

-- ---- the frame above

drop-last : (H : ℕ → Option Handle) (fs : List ℕ) (f : ℕ) (hs : List Handle) (h : Handle) → map H (fs ++ f ∷ []) ≡ map Some (hs ++ h ∷ []) → map H fs ≡ map Some hs
drop-last H [] f [] h z = refl
drop-last H [] f (k ∷ []) h z = cc
drop-last H [] f (k ∷ l ∷ hs) h z = cc
drop-last H (x ∷ []) f [] h z = cc
drop-last H (x ∷ y ∷ fs) f [] h z = cc
drop-last H (x ∷ fs) f (k ∷ hs) h z =
    let here : H x ≡ Some k = cc in
    let rest : map H (fs ++ f ∷ []) ≡ map Some (hs ++ h ∷ []) = cc in
    rw (here, drop-last H fs f hs h rest) refl

last-mapped : (H : ℕ → Option Handle) (fs : List ℕ) (g : ℕ) (hs : List Handle) → map H (fs ++ g ∷ []) ≡ map Some hs → last_of hs ≡ H g
last-mapped H [] g [] z = cc
last-mapped H [] g (k ∷ []) z = cc
last-mapped H [] g (k ∷ l ∷ hs) z = cc
last-mapped H (x ∷ fs) g [] z = cc
last-mapped H (x ∷ []) g (k ∷ []) z = cc
last-mapped H (x ∷ y ∷ fs) g (k ∷ []) z = cc
last-mapped H (x ∷ fs) g (k ∷ l ∷ hs) z = let rest : map H (fs ++ g ∷ []) ≡ map Some (l ∷ hs) = cc in last-mapped H fs g (l ∷ hs) rest

none-mapped : (hs : List Handle) → [] ≡ map Some hs → hs ≡ []
none-mapped [] y = refl
none-mapped (k ∷ hs) y = cc

some-live : (T : RepliedHistory) (g : ℕ) → is_live T g ≡ true → (a : ℕ) × (document_in T g ≡ Some a)
unfolding is_live
some-live T g h = by_document (document_in T g) refl h
  where
    by_document : (o : Option ℕ) → document_in T g ≡ o → is_some o ≡ true → (a : ℕ) × (document_in T g ≡ Some a)
    by_document None is e = absurd (true≢false (sym e))
    by_document (Some a) is e = (a, is)

-- the handles above a frame: none above a top frame, and else those of the path of the frame that embeds it
pub record IsAbove (T : RepliedHistory) (ms : List Made) (e : Entry Row) : Type 0 where
  pub none : parent_frame T e.frame ≡ None → e.above ≡ []
  pub some : (g : ℕ) → parent_frame T e.frame ≡ Some g → (parent_of e ≡ handle_at ms g) × IsTrue (is_live T g)

pub above-at : (T : RepliedHistory) (ms : List Made) (e : Entry Row) → laws.IsTree T → IsNode T ms e → IsAbove T ms e
unfolding is_live
above-at T ms e tree node = record {
  none = λ q. none-mapped e.above (sym (ap (λ o. map (handle_at ms) (hanging o)) q) ∙ drop-last (handle_at ms) (hanging (parent_frame T e.frame)) e.frame e.above e.handle whole);
  some = by_parent;
}
  where
    hanging : Option ℕ → List ℕ
    hanging parent = unwrap_or (option_map (frames_above T) (option_and_then (document_in T) parent)) []

    whole : map (handle_at ms) (hanging (parent_frame T e.frame) ++ e.frame ∷ []) ≡ map Some (e.above ++ e.handle ∷ [])
    whole = ap (map (handle_at ms)) (sym (tree.frames_hang e.frame e.doc.doc node.document)) ∙ node.path

    alive : is_live T e.frame ≡ true
    alive = ap is_some node.document

    by_parent : (g : ℕ) → parent_frame T e.frame ≡ Some g → (last_of e.above ≡ handle_at ms g) × IsTrue (is_live T g)
    by_parent g q =
        let live = tree.parent_live e.frame g alive q in
        let (a, at) = some-live T g live in
        let hangs : hanging (parent_frame T e.frame) ≡ frames_above T a = ap hanging q ∙ ap (λ o. unwrap_or (option_map (frames_above T) o) []) at in
        let mapped : map (handle_at ms) (frames_above T a) ≡ map Some e.above = ap (map (handle_at ms)) (sym hangs) ∙ drop-last (handle_at ms) (hanging (parent_frame T e.frame)) e.frame e.above e.handle whole in
        let ends : frames_above T a ≡ hanging (parent_frame T g) ++ g ∷ [] = tree.frames_hang g a at in
        (last-mapped (handle_at ms) (hanging (parent_frame T g)) g e.above (sym (ap (map (handle_at ms)) ends) ∙ mapped), live)

-- ---- the pages

above-length : (H : ℕ → Option Handle) (fs : List ℕ) (hs : List Handle) → map H fs ≡ map Some hs → length fs ≡ length hs
above-length H [] [] e = refl
above-length H [] (h ∷ hs) e = cc
above-length H (f ∷ fs) [] e = cc
above-length H (f ∷ fs) (h ∷ hs) e = let rest : map H fs ≡ map Some hs = cc in ap suc (above-length H fs hs rest)

-- the top frames of the tree are the live frames with no frame above
pub pages-at : (T : RepliedHistory) (ms : List Made) (v : Forest Row) → laws.IsTree T → IsTree T ms v → page_count v.entries ≡ length (live_pages T)
unfolding live_pages
pages-at T ms v tree st =
    sym (length-map (filter is_top v.entries) (λ x. x.frame))
    ∙ ap length (map-filter (λ x. x.frame) is_top (λ f. is_none (parent_frame T f)) v.entries (each-all (IsNode T ms) (λ x. is_top x ≡ is_none (parent_frame T x.frame)) v.entries test st.nodes))
    ∙ ap (λ xs. length (filter (λ f. is_none (parent_frame T f)) xs)) st.live
    ∙ ap length (sym (filter-and (is_live T) (λ f. is_none (parent_frame T f)) (frames_made T)))
  where
    last-some : (hs : List Handle) → last_of hs ≡ None → hs ≡ []
    last-some [] z = refl
    last-some (k ∷ hs) z = cc

    test : (x : Entry Row) → IsNode T ms x → is_top x ≡ is_none (parent_frame T x.frame)
    test x n = by_parent (parent_frame T x.frame) refl
      where
        above : IsAbove T ms x
        above = above-at T ms x tree n

        by_above : (hs : List Handle) (g : ℕ) → last_of hs ≡ handle_at ms g → is_some (handle_at ms g) ≡ true → (length hs == 0) ≡ false
        by_above [] g is made = absurd (true≢false (sym made ∙ sym (ap is_some is)))
        by_above (k ∷ hs) g is made = grind (arith, nat_tests)

        by_parent : (o : Option ℕ) → parent_frame T x.frame ≡ o → is_top x ≡ is_none o
        by_parent None q = rw (above.none q) refl
        by_parent (Some g) q = by_above x.above g (above.some g q).0 (sym (st.frames g) ∙ (tree.parent_older x.frame g q).1)
