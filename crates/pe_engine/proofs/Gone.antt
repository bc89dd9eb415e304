-- The statuses that go with documents.
use Rattle.std.proofs.Common.{◌≡◌, ℕ, suc, ◌+◌, ◌<◌, ◌≤◌, get_or, drop, drop-cons, Bool, true, false, not, ◌&&◌, ◌||◌, ◌==◌, List, [], ◌∷◌, map, length, Option, Some, None, IsTrue, is_some, refl, sym, ◌∙◌, ap, arith, cond, true≢false}
use Rattle.std.specs.Prelude.{filter}
use Rattle.std.proofs.Math.ListN.{drop_of_length-le}
use Rattle.std.specs.List.{list_any}
use Rattle.std.proofs.lemmas.Bool.Decides.{Decides-eqb, nat_tests}
use Rattle.pe_arena.specs.declared.handle.Handle.{Handle}
use Rattle.pe_frames.specs.Forest.{Entry, Forest, entry_of, same_handle, is_under, path, with_document}
use Rattle.pe_frames.specs.Order.{in_tree_order, docs_under}
use Rattle.pe_status.specs.declared.registered.Registered.{Registered}
use Rattle.pe_status.specs.Registry.{without_document}
use Rattle.pe_prompts.specs.Pending.{Pending, left_by}
use Rattle.pe_rules.specs.History.{Step, RepliedHistory, History}
use Rattle.pe_rules.specs.Making.{frame_of}
use Rattle.pe_rules.specs.Activation.{is_one_of}
use Rattle.pe_rules.specs.Current.{ends, frames_above, is_current, document_in, is_live}
use Rattle.pe_rules.specs.Replies.{replied, is_regular}
use Rattle.pe_laws.specs.HistoryLaws.{HistoryLaws}
use Rattle.pe_laws.specs.StatusesLaws.{Each}
use Rattle.pe_engine.specs.declared.row.Row.{Row}
use Rattle.pe_engine.specs.declared.engine.Made.{Made}
use Rattle.pe_engine.specs.Leaving.{numbers_of, without_documents}
use Rattle.pe_engine.specs.Objects.{handle_at, Apart}
use Rattle.pe_engine.specs.Tree.{IsNode, IsTree}
use Rattle.pe_requests.specs.PromptSteps.{left_by_all}
use Rattle.pe_engine.proofs.Look.{node-at, live-at}
use Rattle.pe_engine.proofs.Handles.{has-agrees, same_handle-Decides}
use Rattle.pe_engine.proofs.Lists.{each-all, each-both, each-map, filter-all, filter-and, filter-same}

-- the document is one of these
abbrev pub is_gone : List ℕ → ℕ → Bool
is_gone ds d = list_any (λ x. d == x) ds

each-any : {A : Type 0} (P : A → Type 0) (xs : List A) → ((x : A) → P x) → Each P xs
each-any P [] f = tt
each-any P (x ∷ xs) f = (f x, each-any P xs f)

pub without-is : (ds : List ℕ) (rs : List Registered) → without_documents ds rs ≡ filter (λ r. not (is_gone ds r.doc.doc)) rs
unfolding without_documents without_document
without-is [] rs = sym (filter-all (λ r. true) rs (each-any (λ r. true ≡ true) rs (λ r. refl)))
without-is (d ∷ ds) rs =
    without-is ds (without_document d rs)
    ∙ sym (filter-and (λ r. not (r.doc.doc == d)) (λ r. not (is_gone ds r.doc.doc)) rs)
    ∙ filter-same (λ r. not (r.doc.doc == d) && not (is_gone ds r.doc.doc)) (λ r. not (is_gone (d ∷ ds) r.doc.doc)) rs (each-any _ rs (λ r. neither (r.doc.doc == d) (is_gone ds r.doc.doc)))
  where
    neither : (a b : Bool) → (not a && not b) ≡ not (a || b)
    neither true b = refl
    neither false b = refl

-- one document after another
pub left-more : (xs : List Row) (rs : List Registered) (i : ℕ) (x : Row) → i < length xs → x ≡ get_or xs i x → without_documents (numbers_of (drop i xs)) rs ≡ without_documents (numbers_of (drop (i + 1) xs)) (without_document x.doc rs)
unfolding without_documents
left-more xs rs i x lt is =
    let next : suc i ≡ i + 1 = omega arith in
    ap (λ (ys : List Row). without_documents (numbers_of ys) rs) (drop-cons xs i x lt) ∙ ap (λ (y : Row). without_documents (numbers_of (drop (suc i) xs)) (without_document y.doc rs)) (sym is)
    ∙ ap (λ (n : ℕ). without_documents (numbers_of (drop n xs)) (without_document x.doc rs)) next

pub dropped-more : (xs : List Row) (ps : Pending) (i : ℕ) (x : Row) → i < length xs → x ≡ get_or xs i x → left_by_all (numbers_of (drop i xs)) ps ≡ left_by_all (numbers_of (drop (i + 1) xs)) (left_by x.doc ps)
dropped-more xs ps i x lt is =
    let next : suc i ≡ i + 1 = omega arith in
    ap (λ (ys : List Row). left_by_all (numbers_of ys) ps) (drop-cons xs i x lt) ∙ ap (λ (y : Row). left_by_all (numbers_of (drop (suc i) xs)) (left_by y.doc ps)) (sym is)
    ∙ ap (λ (n : ℕ). left_by_all (numbers_of (drop n xs)) (left_by x.doc ps)) next

pub dropped-all : (xs : List Row) (ps : Pending) (i : ℕ) → length xs ≤ i → left_by_all (numbers_of (drop i xs)) ps ≡ ps
dropped-all xs ps i le = ap (λ (ys : List Row). left_by_all (numbers_of ys) ps) (drop_of_length-le xs le)

pub left-all : (xs : List Row) (rs : List Registered) (i : ℕ) → length xs ≤ i → without_documents (numbers_of (drop i xs)) rs ≡ rs
unfolding without_documents
left-all xs rs i le = ap (λ (ys : List Row). without_documents (numbers_of ys) rs) (drop_of_length-le xs le)

-- ---- frames with the handles of their documents' chains

-- the frames of the document's chain have the handles of the path
abbrev pub IsPlaced : RepliedHistory → List Made → Entry Row → Type 0
IsPlaced T ms e = map (handle_at ms) (frames_above T e.doc.doc) ≡ map Some (path e)

pub placed : (T : RepliedHistory) (ms : List Made) (es : List (Entry Row)) → Each (IsNode T ms) es → Each (IsPlaced T ms) es
placed T ms es nodes = each-all (IsNode T ms) (IsPlaced T ms) es (λ e n. n.path) nodes

-- a row of the same document in the place of that of a live frame
pub same-document : (T : RepliedHistory) (ms : List Made) (f : ℕ) (h : Handle) (y : Entry Row) (x : Row) (es : List (Entry Row)) → Apart ms → handle_at ms f ≡ Some h → document_in T f ≡ Some y.doc.doc → x.doc ≡ y.doc.doc
    → Each (IsNode T ms) es → Each (λ e. (with_document h x e).doc.doc ≡ e.doc.doc) es
same-document T ms f h y x es apart at shown same nodes = each-all (IsNode T ms) _ es by_entry nodes
  where
    by_entry : (e : Entry Row) → IsNode T ms e → (with_document h x e).doc.doc ≡ e.doc.doc
    by_entry e node = by_test (same_handle e.handle h) refl
      where
        by_test : (b : Bool) → same_handle e.handle h ≡ b → (cond b x e.doc).doc ≡ e.doc.doc
        by_test true q =
            let i : e.frame ≡ f = apart e.frame f h (node.handle ∙ ap Some ((same_handle-Decides e.handle h).0 q)) at in
            let z : Some y.doc.doc ≡ Some e.doc.doc = sym shown ∙ ap (document_in T) (sym i) ∙ node.document in
            same ∙ (let k : y.doc.doc ≡ e.doc.doc = cc in k)
        by_test false q = refl

pub placed-with : (T : RepliedHistory) (ms : List Made) (h : Handle) (x : Row) (es : List (Entry Row)) → Each (IsPlaced T ms) es → Each (λ e. (with_document h x e).doc.doc ≡ e.doc.doc) es
    → Each (IsPlaced T ms) (map (with_document h x) es)
placed-with T ms h x es is same =
    each-map (λ e. IsPlaced T ms e × ((with_document h x e).doc.doc ≡ e.doc.doc)) (IsPlaced T ms) (with_document h x) es
    (λ e p. ap (λ d. map (handle_at ms) (frames_above T d)) p.1 ∙ p.0) (each-both (IsPlaced T ms) (λ e. (with_document h x e).doc.doc ≡ e.doc.doc) es is same)

-- ---- documents by their numbers

-- how many frames show a document that passes
abbrev pub shown_count : (ℕ → Bool) → List (Entry Row) → ℕ
shown_count keep es = length (filter (λ (e : Entry Row). keep e.doc.doc) es)

pub count-with : (h : Handle) (x : Row) (es : List (Entry Row)) → Each (λ e. (with_document h x e).doc.doc ≡ e.doc.doc) es → (keep : ℕ → Bool) → shown_count keep (map (with_document h x) es) ≡ shown_count keep es
count-with h x [] same keep = refl
count-with h x (e ∷ es) same keep = rw (same.0) (by_test (keep e.doc.doc) (count-with h x es same.1 keep))
  where
    by_test : (b : Bool) → shown_count keep (map (with_document h x) es) ≡ shown_count keep es
        → length (cond b (with_document h x e ∷ filter (λ (z : Entry Row). keep z.doc.doc) (map (with_document h x) es)) (filter (λ (z : Entry Row). keep z.doc.doc) (map (with_document h x) es)))
        ≡ length (cond b (e ∷ filter (λ (z : Entry Row). keep z.doc.doc) es) (filter (λ (z : Entry Row). keep z.doc.doc) es))
    by_test true rest = ap suc rest
    by_test false rest = rest

not-none : (n : ℕ) → (suc n == 0) ≡ false
not-none n = grind (arith, nat_tests)

-- a number is one of the documents' where some frame shows it
any-counted : (d : ℕ) (es : List (Entry Row)) → is_gone (numbers_of (map (λ e. e.doc) es)) d ≡ not (shown_count (λ x. d == x) es == 0)
any-counted d [] = refl
any-counted d (e ∷ es) = elim (d == e.doc.doc) as (λ b. (b || is_gone (numbers_of (map (λ z. z.doc) es)) d) ≡ not (length (cond b (e ∷ filter (λ (z : Entry Row). d == z.doc.doc) es) (filter (λ (z : Entry Row). d == z.doc.doc) es)) == 0)) [
  | true ↦ sym (ap not (not-none (shown_count (λ x. d == x) es)))
  | false ↦ any-counted d es
]

found-counted : (keep : ℕ → Bool) (es : List (Entry Row)) (h : Handle) (x : Entry Row) → entry_of es h ≡ Some x → keep x.doc.doc ≡ true → (shown_count keep es == 0) ≡ false
found-counted keep [] h x is passes = cc
found-counted keep (e ∷ es) h x is passes = by_tests (same_handle e.handle h) (keep e.doc.doc) refl is (found-counted keep es h x)
  where
    by_tests : (a b : Bool) → keep e.doc.doc ≡ b → cond a (Some e) (entry_of es h) ≡ Some x → (entry_of es h ≡ Some x → keep x.doc.doc ≡ true → (shown_count keep es == 0) ≡ false)
        → (length (cond b (e ∷ filter (λ (z : Entry Row). keep z.doc.doc) es) (filter (λ (z : Entry Row). keep z.doc.doc) es)) == 0) ≡ false
    by_tests a true q z older = not-none (shown_count keep es)
    by_tests true false q z older = let i : e ≡ x = cc in absurd (true≢false (sym passes ∙ ap (λ (y : Entry Row). keep y.doc.doc) (sym i) ∙ q))
    by_tests false false q z older = older z passes

none-counted : (es : List (Entry Row)) → filter (λ (e : Entry Row). false) es ≡ []
none-counted [] = refl
none-counted (e ∷ es) = none-counted es

-- ---- the end of a frame

-- tree order from a frame counts what is at or below it
abbrev pub CountsInOrder : List (Entry Row) → Type 0
CountsInOrder es = (root : Handle) (keep : Entry Row → Bool) → length (filter keep (in_tree_order es root)) ≡ length (filter (λ e. is_under root e && keep e) es)

module _ (laws : HistoryLaws) (s : Step) (T : RepliedHistory) (ms : List Made) (f : ℕ) (h : Handle) where
  -- the frames at or below it are those in whose chain it stands
  gone-is : (es : List (Entry Row)) (d : ℕ) → Apart ms → handle_at ms f ≡ Some h → Each (IsPlaced T ms) es → CountsInOrder es
      → is_gone (numbers_of (docs_under es h)) d ≡ (list_any (λ g. g == f) (frames_above T d) && not (shown_count (λ x. d == x) es == 0))
  gone-is es d apart at all counts =
      any-counted d (in_tree_order es h)
      ∙ ap (λ n. not (n == 0)) (counts h (λ e. d == e.doc.doc) ∙ ap length (filter-same (λ e. is_under h e && (d == e.doc.doc)) (λ (e : Entry Row). in_chain && (d == e.doc.doc)) es (each-all (IsPlaced T ms) _ es agrees all)))
      ∙ by_chain in_chain
    where
      in_chain : Bool
      in_chain = list_any (λ g. g == f) (frames_above T d)

      agrees : (e : Entry Row) → IsPlaced T ms e → (is_under h e && (d == e.doc.doc)) ≡ (in_chain && (d == e.doc.doc))
      agrees e is = by_test (d == e.doc.doc) refl
        where
          by_test : (b : Bool) → (d == e.doc.doc) ≡ b → (is_under h e && b) ≡ (in_chain && b)
          by_test true q = ap (λ a. a && true) (has-agrees ms apart f h at (frames_above T e.doc.doc) (path e) is ∙ ap (λ x. list_any (λ g. g == f) (frames_above T x)) (sym ((Decides-eqb d e.doc.doc).0 q)))
          by_test false q = no (is_under h e) ∙ sym (no in_chain)
            where
              no : (a : Bool) → (a && false) ≡ false
              no true = refl
              no false = refl

      by_chain : (a : Bool) → not (length (filter (λ (e : Entry Row). a && (d == e.doc.doc)) es) == 0) ≡ (a && not (shown_count (λ x. d == x) es == 0))
      by_chain true = refl
      by_chain false = rw (none-counted es) refl

  -- a current document stays current where it is none of those that go
  pub gone-under : (es ws : List (Entry Row)) (gone : List Row) → Apart ms → handle_at ms f ≡ Some h → ((fs : List ℕ) → ends fs s.event ≡ list_any (λ g. g == f) fs)
      → Each (IsPlaced T ms) ws → ((keep : ℕ → Bool) → shown_count keep ws ≡ shown_count keep es) → CountsInOrder ws → numbers_of gone ≡ numbers_of (docs_under ws h)
      → ((d : ℕ) → is_current T d ≡ true → (shown_count (λ x. d == x) es == 0) ≡ false)
      → (d : ℕ) → is_current T d ≡ true → not (is_gone (numbers_of gone) d) ≡ is_current (s ∷ T) d
  gone-under es ws gone apart at ended all same counts are shows d current =
      let U = list_any (λ g. g == f) (frames_above T d) in
      let (least, le) = laws.current.is_current_within T d current in
      ap not (ap (λ ds. is_gone ds d) are ∙ gone-is ws d apart at all counts ∙ ap (λ b. U && not b) (ap (λ n. n == 0) (same (λ x. d == x)) ∙ shows d current) ∙ with-true U)
      ∙ sym (laws.current.is_current_older s T d le ∙ ap (λ b. b && not (ends (frames_above T d) s.event)) current ∙ ap not (ended (frames_above T d)))
    where
      with-true : (a : Bool) → (a && true) ≡ a
      with-true true = refl
      with-true false = refl

-- the frames show each current document
pub shows-current : (laws : HistoryLaws) (duration : ℕ) (H : History) (ms : List Made) (v : Forest Row) → IsTrue (is_regular duration H) → IsTree (replied duration H) ms v
    → (d : ℕ) → is_current (replied duration H) d ≡ true → (shown_count (λ x. d == x) v.entries == 0) ≡ false
unfolding is_live
shows-current laws duration H ms v regular st d current = by_handle (handle_at ms f) refl
  where
    T : RepliedHistory
    T = replied duration H

    f : ℕ
    f = frame_of T d

    shown : document_in T f ≡ Some d
    shown = laws.current.shown_in_frame duration H d regular current

    by_handle : (o : Option Handle) → handle_at ms f ≡ o → (shown_count (λ x. d == x) v.entries == 0) ≡ false
    by_handle None is = absurd (true≢false (sym (laws.current.live_is_frame duration H f regular (ap is_some shown)) ∙ st.frames f ∙ ap is_some is))
    by_handle (Some h) is = by_entry (entry_of v.entries h) refl
      where
        by_entry : (o : Option (Entry Row)) → entry_of v.entries h ≡ o → (shown_count (λ x. d == x) v.entries == 0) ≡ false
        by_entry None none = absurd (true≢false (sym (ap is_some shown) ∙ sym (live-at laws T ms v f h st is) ∙ ap is_some none))
        by_entry (Some x) found =
            let (same, node) = node-at T ms v f h x st is found in
            let z : Some d ≡ Some x.doc.doc = sym shown ∙ ap (document_in T) (sym same) ∙ node.document in
            found-counted (λ y. d == y) v.entries h x found ((Decides-eqb d x.doc.doc).1 (let i : d ≡ x.doc.doc = cc in i))

-- the same test from the other side
pub gone-turned : (ds : List ℕ) (d : ℕ) → is_one_of ds d ≡ is_gone ds d
gone-turned [] d = refl
gone-turned (x ∷ ds) d = rw (turned x d, gone-turned ds d) refl
  where
    turned : (a b : ℕ) → (a == b) ≡ (b == a)
    turned a b = grind (arith, nat_tests)
