-- In a regular history the live frames form a tree, and the chain of a document is the way up.
use Rattle.std.proofs.Common.{◌≡◌, ◌≢◌, ◌⊎◌, inl, inr, ℕ, zero, suc, ◌<◌, ◌≤◌, Bool, true, false, not, ◌||◌, ◌==◌, List, [], ◌∷◌, ◌++◌, map, length, Option, Some, None, is_some, unwrap_or, option_map, option_and_then, refl, sym, ◌∙◌, ap, arith, cond, true≢false, length-append}
use Rattle.std.specs.Option.{option_or}
use Rattle.std.specs.List.{list_any}
use Rattle.std.proofs.lemmas.Bool.{eqb-false}
use Rattle.pe_events.specs.declared.event.Event.{Event}
use Rattle.pe_events.specs.declared.event.Event.TheVariants as event
use Rattle.pe_rules.specs.History.{StepAnswer, Step, RepliedHistory, History, some_if, newest_answer}
use Rattle.pe_rules.specs.Numbering.{document_frame, is_frame, last_document, parent_by, parent_frame}
use Rattle.pe_rules.specs.Making.{Making, making_by, frame_of}
use Rattle.pe_rules.specs.Embedders.{chain}
use Rattle.pe_rules.specs.Current.{ends, frames_above, is_current, document_in, is_live}
use Rattle.pe_rules.specs.Activation.{is_one_of}
use Rattle.pe_rules.specs.Replies.{replied, is_regular}
use Rattle.pe_laws.specs.TreeLaws.{IsTree}
use Rattle.pe_laws.proofs.Numbers.{not_same, same-numbers}
use Rattle.pe_laws.proofs.Older.{chain-older, frame-makes, last-below, last-document-step, embedder-before}
use Rattle.pe_laws.proofs.Numbering.{parent-other, parent-newest, frame-within}
use Rattle.pe_laws.proofs.Making.{last-made, frame-of-last, frame-of-newest}
use Rattle.pe_laws.proofs.Embedders.{chain-newest, one-at-end}
use Rattle.pe_laws.proofs.Current.{current-within, in-frame, frames-older, document-in-other, document-in-beside, document-in-made}
use Rattle.pe_laws.proofs.Shown.{NamesLive, AreNamedLive, some-of, live-last, framed, own-frame, shown, regular-names}

last-bound : (T : RepliedHistory) → AreNamedLive T → (f : ℕ) → is_some (last_document T f) ≡ true → f ≤ length T
last-bound T named f h = let last : (d : ℕ) × (last_document T f ≡ Some d) = some-of (last_document T f) h in (frame-within T f (framed T named f last.0 last.1)).1

live-some : (T : RepliedHistory) (f : ℕ) → is_live T f ≡ true → is_some (last_document T f) ≡ true
live-some T f h = ap is_some (live-last T f h).1

live-here : (T : RepliedHistory) (f : ℕ) → is_live T f ≡ true → (d : ℕ) × (document_in T f ≡ Some d)
unfolding is_live
live-here T f h = some-of (document_in T f) h

last-of : (T : RepliedHistory) (f d : ℕ) → document_in T f ≡ Some d → last_document T f ≡ Some d
last-of T f d h = (in-frame T f d h).0

parent-older : (s : Step) (T : RepliedHistory) (f : ℕ) → f ≤ length T → parent_frame (s ∷ T) f ≡ parent_frame T f
parent-older s T f h = let ne : f ≢ suc (length T) = omega arith in parent-other s T f ne

-- a frame that has a document has one for ever
last-stays : (s : Step) (T : RepliedHistory) (f : ℕ) → is_some (last_document T f) ≡ true → is_some (last_document (s ∷ T) f) ≡ true
last-stays s T f h = rw (last-document-step s T f) (by_made (option_and_then (λ g. some_if (g == f) (suc (length T))) (document_frame s.event (suc (length T)))))
  where
    by_made : (o : Option ℕ) → is_some (option_or o (last_document T f)) ≡ true
    by_made None = h
    by_made (Some x) = refl

no-doc : (f d : ℕ) → document_in [] f ≡ Some d → ⊥
no-doc f d h = let within = current-within [] d (in-frame [] f d h).1 in omega (arith, within.0, within.1)

beside-frame : (s : Step) (T : RepliedHistory) (f g : ℕ) → document_frame s.event (suc (length T)) ≡ Some g → (g == f) ≡ false
    → document_in (s ∷ T) f ≡ option_and_then (λ d. some_if (not (ends (frames_above T d) s.event)) d) (document_in T f)
beside-frame s T f g is q = document-in-beside s T f g is (eqb-false g f q)

-- the last document of the frame above
abbrev embedder_now : RepliedHistory → ℕ → Option ℕ
embedder_now T f = option_and_then (last_document T) (parent_frame T f)

abbrev Hangs : RepliedHistory → ℕ → ℕ → Type 0
Hangs T f d = chain T d ≡ unwrap_or (option_map (chain T) (embedder_now T f)) [] ++ d ∷ []

-- ---- the frame above

-- the frame above has a document, and is older
pub record IsOver (T : RepliedHistory) (f g : ℕ) : Type 0 where
  pub has : is_some (last_document T g) ≡ true
  pub older : g < f

over-step : (s : Step) (T : RepliedHistory) (f g : ℕ) → AreNamedLive (s ∷ T) → (parent_frame T f ≡ Some g → IsOver T f g) → parent_frame (s ∷ T) f ≡ Some g → IsOver (s ∷ T) f g
unfolding parent_frame newest_answer
over-step s T f g named earlier h = (elim (f == suc (length T)) as (λ b. (f == suc (length T)) ≡ b → option_or (cond b (parent_by s.event) None) (parent_frame T f) ≡ Some g → IsOver (s ∷ T) f g) [
  | true ↦ λ q z. by_event (same-numbers f (suc (length T)) q) s.event named.0 z
  | false ↦ λ q z. up z
]) refl h
  where
    up : parent_frame T f ≡ Some g → IsOver (s ∷ T) f g
    up e = record { has = last-stays s T g (earlier e).has; older = (earlier e).older }

    by_event : f ≡ suc (length T) → (e : Event) → NamesLive e T → option_or (parent_by e) (parent_frame T f) ≡ Some g → IsOver (s ∷ T) f g
    by_event is (event.Embed parent src place allow sandbox fullscreen srcdoc header) n z =
        let i : parent ≡ g = cc in
        let here : is_some (last_document T g) ≡ true = ap (λ x. is_some (last_document T x)) (sym i) ∙ live-some T parent n in
        let le : g ≤ length T = last-bound T named.1 g here in
        record { has = last-stays s T g here; older = omega arith }
    by_event is e n z = up z

is-over : (T : RepliedHistory) → AreNamedLive T → (f g : ℕ) → parent_frame T f ≡ Some g → IsOver T f g
unfolding parent_frame newest_answer
is-over [] named f g h = cc
is-over (s ∷ T) named f g h = over-step s T f g named (is-over T named.1 f g) h

-- ---- hanging

map-end : (h : ℕ → ℕ) (xs : List ℕ) (x : ℕ) → map h (xs ++ x ∷ []) ≡ map h xs ++ h x ∷ []
map-end h [] x = refl
map-end h (y ∷ xs) x = ap (λ ys. h y ∷ ys) (map-end h xs x)

any-or : (b c d : Bool) → (c ≡ true → d ≡ true) → (b || c) ≡ true → (b || d) ≡ true
any-or true c d f h = refl
any-or false c d f h = f h

any-more : (g : ℕ) (xs : List ℕ) (x : ℕ) → list_any (λ f. f == g) xs ≡ true → list_any (λ f. f == g) (xs ++ x ∷ []) ≡ true
any-more g [] x h = absurd (true≢false (sym h))
any-more g (y ∷ xs) x h = any-or (y == g) (list_any (λ f. f == g) xs) (list_any (λ f. f == g) (xs ++ x ∷ [])) (any-more g xs x) h

-- the frames of a document have the frame above its own
frames-have : (T : RepliedHistory) (f d g p : ℕ) → Hangs T f d → parent_frame T f ≡ Some g → last_document T g ≡ Some p → list_any (λ x. x == g) (frames_above T d) ≡ true
unfolding frames_above
frames-have T f d g p hangs par last =
    let made = last-made T g p last in
    let up : chain T d ≡ chain T p ++ d ∷ [] = hangs ∙ ap (λ o. unwrap_or (option_map (chain T) (option_and_then (last_document T) o)) [] ++ d ∷ []) par ∙ ap (λ o. unwrap_or (option_map (chain T) o) [] ++ d ∷ []) last in
    rw (up, map-end (frame_of T) (chain T p) d) (any-more g (map (frame_of T) (chain T p)) (frame_of T d)
    (ap (λ x. list_any (λ f. f == x) (frames_above T p)) (sym (frame-of-last T g p last)) ∙ own-frame T p made.0 made.1))

-- the event leaves the last document of the frame above
last-same : (s : Step) (T : RepliedHistory) (f d g p : ℕ) → AreNamedLive (s ∷ T) → Hangs T f d → parent_frame T f ≡ Some g → last_document T g ≡ Some p → ends (frames_above T d) s.event ≡ false → last_document (s ∷ T) g ≡ last_document T g
last-same s T f d g p named hangs par last quiet = rw (last-document-step s T g) (by_event s.event named.0 quiet)
  where
    le : g ≤ length T
    le = last-bound T named.1 g (ap is_some last)

    at_k : option_or (some_if (suc (length T) == g) (suc (length T))) (last_document T g) ≡ last_document T g
    at_k = let l : g ≤ length T = le in let ne : suc (length T) ≢ g = omega arith in let no : (suc (length T) == g) ≡ false = not_same (suc (length T)) g ne in rw no refl

    by_event : (e : Event) → NamesLive e T → ends (frames_above T d) e ≡ false → option_or (option_and_then (λ h. some_if (h == g) (suc (length T))) (document_frame e (suc (length T)))) (last_document T g) ≡ last_document T g
    by_event (event.OpenPage url header) n q = at_k
    by_event (event.Embed parent src place allow sandbox fullscreen srcdoc header) n q = at_k
    by_event (event.Navigate h url header) n q = (elim (h == g) as (λ b. (h == g) ≡ b → option_or (some_if b (suc (length T))) (last_document T g) ≡ last_document T g) [
      | true ↦ λ i. absurd (true≢false (sym (frames-have T f d g p hangs par last) ∙ ap (λ x. list_any (λ f. f == x) (frames_above T d)) (sym (same-numbers h g i)) ∙ q))
      | false ↦ λ i. refl
    ]) refl
    by_event e n q = refl

hangs-older : (s : Step) (T : RepliedHistory) (f d : ℕ) → AreNamedLive (s ∷ T) → f ≤ length T → d ≤ length T → Hangs T f d → ends (frames_above T d) s.event ≡ false → Hangs (s ∷ T) f d
hangs-older s T f d named lf ld hangs quiet = chain-older s T d ld ∙ hangs ∙ ap (λ xs. xs ++ d ∷ []) (by_parent (parent_frame T f) refl ∙ ap (λ o. unwrap_or (option_map (chain (s ∷ T)) (option_and_then (last_document (s ∷ T)) o)) []) (sym (parent-older s T f lf)))
  where
    by_parent : (o : Option ℕ) → parent_frame T f ≡ o → unwrap_or (option_map (chain T) (embedder_now T f)) [] ≡ unwrap_or (option_map (chain (s ∷ T)) (option_and_then (last_document (s ∷ T)) o)) []
    by_parent None is = rw is refl
    by_parent (Some g) is =
        let last : (p : ℕ) × (last_document T g ≡ Some p) = some-of (last_document T g) (is-over T named.1 f g is).has in
        rw (is, last-same s T f d g last.0 named hangs is last.1 quiet, last.1) (sym (chain-older s T last.0 (last-below T g last.0 last.1)))

-- the embedder of the new document, as the history with it tells it
beside : (s : Step) (T : RepliedHistory) (g h : ℕ) → document_frame s.event (suc (length T)) ≡ Some h → h ≢ g → last_document (s ∷ T) g ≡ last_document T g
beside s T g h e ne = let q : (h == g) ≡ false = not_same h g ne in rw (last-document-step s T g, e, q) refl

embedder-same : (s : Step) (T : RepliedHistory) (f : ℕ) (m : Making) → AreNamedLive (s ∷ T) → document_frame s.event (suc (length T)) ≡ Some f → making_by s.event T ≡ Some m → m.embedder ≡ embedder_now (s ∷ T) f
unfolding making_by
embedder-same s T f m named is made = by_event s.event refl named.0 is made
  where
    k : ℕ
    k = suc (length T)

    new : (e : Event) → s.event ≡ e → k ≡ f → option_and_then (last_document (s ∷ T)) (parent_by e) ≡ embedder_now (s ∷ T) f
    new e q i = ap (λ x. option_and_then (last_document (s ∷ T)) (parent_by x)) (sym q) ∙ ap (option_and_then (last_document (s ∷ T))) (sym (parent-newest s T)) ∙ ap (embedder_now (s ∷ T)) i

    by_parent : (F : ℕ) → document_frame s.event k ≡ Some F → (o : Option ℕ) → parent_frame T F ≡ o → option_and_then (last_document T) o ≡ option_and_then (last_document (s ∷ T)) o
    by_parent F e None z = refl
    by_parent F e (Some g) z = let lt : g < F = (is-over T named.1 F g z).older in sym (beside s T g F e (omega arith))

    by_event : (e : Event) → s.event ≡ e → NamesLive e T → document_frame e k ≡ Some f → making_by e T ≡ Some m → m.embedder ≡ embedder_now (s ∷ T) f
    by_event (event.OpenPage url header) q n i h = let c : k ≡ f = cc in sym (ap (λ (o : Option Making). option_and_then (λ m. m.embedder) o) h) ∙ new (event.OpenPage url header) q c
    by_event (event.Embed parent src place allow sandbox fullscreen srcdoc header) q n i h =
        let c : k ≡ f = cc in
        let le : parent ≤ length T = last-bound T named.1 parent (live-some T parent n) in
        let ne : k ≢ parent = omega arith in
        sym (ap (λ (o : Option Making). option_and_then (λ m. m.embedder) o) h)
        ∙ sym (beside s T parent k (ap (λ e. document_frame e k) q) ne)
        ∙ new (event.Embed parent src place allow sandbox fullscreen srcdoc header) q c
    by_event (event.Navigate F url header) q n i h =
        let c : F ≡ f = cc in
        let le : F ≤ length T = last-bound T named.1 F (live-some T F n) in
        sym (ap (λ (o : Option Making). option_and_then (λ m. m.embedder) o) h)
        ∙ by_parent F (ap (λ e. document_frame e k) q) (parent_frame T F) refl
        ∙ ap (option_and_then (last_document (s ∷ T))) (sym (parent-older s T F le))
        ∙ ap (embedder_now (s ∷ T)) c
    by_event e q n i h = cc

hangs-newest : (s : Step) (T : RepliedHistory) (f : ℕ) → AreNamedLive (s ∷ T) → document_frame s.event (suc (length T)) ≡ Some f → Hangs (s ∷ T) f (suc (length T))
hangs-newest s T f named is =
    let made : (m : Making) × (making_by s.event T ≡ Some m) = frame-makes s.event T (suc (length T)) f is in
    chain-newest s T made.0 made.1 ∙ ap (λ xs. xs ++ suc (length T) ∷ []) (older made.0.embedder (λ p e. embedder-before s.event T made.0 p made.1 e) ∙ ap (λ o. unwrap_or (option_map (chain (s ∷ T)) o) []) (embedder-same s T f made.0 named is made.1))
  where
    older : (o : Option ℕ) → ((p : ℕ) → o ≡ Some p → p ≤ length T) → unwrap_or (option_map (chain T) o) [] ≡ unwrap_or (option_map (chain (s ∷ T)) o) []
    older None le = refl
    older (Some p) le = sym (chain-older s T p (le p refl))

-- each current document hangs below the one that is current above it
hangs-step : (s : Step) (T : RepliedHistory) (f d : ℕ) → AreNamedLive (s ∷ T) → ((e : ℕ) → document_in T f ≡ Some e → Hangs T f e) → document_in (s ∷ T) f ≡ Some d → Hangs (s ∷ T) f d
hangs-step s T f d named earlier h = by_frame (document_frame s.event (suc (length T))) refl
  where
    by_ends : (x : ℕ) → document_in T f ≡ Some x → (b : Bool) → ends (frames_above T x) s.event ≡ b → some_if (not b) x ≡ Some d → Hangs (s ∷ T) f d
    by_ends x is true q z = cc
    by_ends x is false q z =
        let i : x ≡ d = cc in
        let last : last_document T f ≡ Some x = last-of T f x is in
        rw (← i) (hangs-older s T f x named (last-bound T named.1 f (ap is_some last)) (last-below T f x last) (earlier x is) q)

    by_doc : (o : Option ℕ) → document_in T f ≡ o → option_and_then (λ d. some_if (not (ends (frames_above T d) s.event)) d) o ≡ Some d → Hangs (s ∷ T) f d
    by_doc None is z = cc
    by_doc (Some x) is z = by_ends x is (ends (frames_above T x) s.event) refl z

    by_frame : (o : Option ℕ) → document_frame s.event (suc (length T)) ≡ o → Hangs (s ∷ T) f d
    by_frame None is = by_doc (document_in T f) refl (sym (document-in-other s T f is) ∙ h)
    by_frame (Some g) is = (elim (g == f) as (λ b. (g == f) ≡ b → Hangs (s ∷ T) f d) [
      | true ↦ λ q. let here : document_frame s.event (suc (length T)) ≡ Some f = is ∙ ap Some (same-numbers g f q) in
          let z : Some (suc (length T)) ≡ Some d = sym (document-in-made s T f here) ∙ h in let i : suc (length T) ≡ d = cc in rw (← i) (hangs-newest s T f named here)
      | false ↦ λ q. by_doc (document_in T f) refl (sym (beside-frame s T f g is q) ∙ h)
    ]) refl

hangs : (T : RepliedHistory) → AreNamedLive T → (f d : ℕ) → document_in T f ≡ Some d → Hangs T f d
hangs [] named f d h = absurd (no-doc f d h)
hangs (s ∷ T) named f d h = hangs-step s T f d named (hangs T named.1 f) h

chain-again : (t : ℕ) (i : StepAnswer) (F : ℕ) (url : List ℕ) (header : Option (List ℕ)) (T : RepliedHistory)
    → chain (record { time = t; event = event.Navigate F url header; item = i } ∷ T) (suc (length T)) ≡ unwrap_or (option_map (chain T) (embedder_now T F)) [] ++ suc (length T) ∷ []
unfolding making_by
chain-again t i F url header T = chain-newest (record { time = t; event = event.Navigate F url header; item = i }) T _ refl

-- a navigation keeps the frames above a frame
frames-again : (t : ℕ) (i : StepAnswer) (F : ℕ) (url : List ℕ) (header : Option (List ℕ)) (T : RepliedHistory) (d : ℕ) → AreNamedLive T → document_in T F ≡ Some d
    → frames_above (record { time = t; event = event.Navigate F url header; item = i } ∷ T) (suc (length T)) ≡ frames_above T d
unfolding frames_above
frames-again t i F url header T d named here =
    let s : Step = record { time = t; event = event.Navigate F url header; item = i } in
    ap (map (frame_of s_of)) (chain-again t i F url header T)
    ∙ map-end (frame_of s_of) pre (suc (length T))
    ∙ ap (λ f. map (frame_of s_of) pre ++ f ∷ []) (frame-of-newest s T F refl)
    ∙ ap (λ xs. xs ++ F ∷ []) (older (embedder_now T F) refl)
    ∙ ap (λ f. map (frame_of T) pre ++ f ∷ []) (sym (frame-of-last T F d (last-of T F d here)))
    ∙ sym (map-end (frame_of T) pre d)
    ∙ sym (ap (map (frame_of T)) (hangs T named F d here))
  where
    s_of : RepliedHistory
    s_of = record { time = t; event = event.Navigate F url header; item = i } ∷ T

    pre : List ℕ
    pre = unwrap_or (option_map (chain T) (embedder_now T F)) []

    below : (o : Option ℕ) (p : ℕ) → option_and_then (last_document T) o ≡ Some p → p ≤ length T
    below None p e = cc
    below (Some g) p e = last-below T g p e

    older : (o : Option ℕ) → embedder_now T F ≡ o → map (frame_of s_of) (unwrap_or (option_map (chain T) o) []) ≡ map (frame_of T) (unwrap_or (option_map (chain T) o) [])
    older None e = refl
    older (Some p) e = let le : p ≤ length T = below (parent_frame T F) p e in ap (map (frame_of s_of)) (sym (chain-older (record { time = t; event = event.Navigate F url header; item = i }) T p le)) ∙ frames-older (record { time = t; event = event.Navigate F url header; item = i }) T p le

abbrev AllUpTo : ℕ → List ℕ → Type 0
AllUpTo n [] = Unit {0}
AllUpTo n (x ∷ xs) = (x ≤ n) × AllUpTo n xs

up-to-more : (m n : ℕ) (xs : List ℕ) → m ≤ n → AllUpTo m xs → AllUpTo n xs
up-to-more m n [] le h = tt
up-to-more m n (x ∷ xs) le h = (omega (arith, h.0), up-to-more m n xs le h.1)

up-to-end : (n x : ℕ) (xs : List ℕ) → AllUpTo n xs → x ≤ n → AllUpTo n (xs ++ x ∷ [])
up-to-end n x [] h le = (le, tt)
up-to-end n x (y ∷ xs) h le = (h.0, up-to-end n x xs h.1 le)

none-past : (n f : ℕ) (xs : List ℕ) → n < f → AllUpTo n xs → list_any (λ x. x == f) xs ≡ false
none-past n f [] lt h = refl
none-past n f (x ∷ xs) lt h = let le : x ≤ n = h.0 in let ne : x ≢ f = omega arith in rw (not_same x f ne, none-past n f xs lt h.1) refl

document-in-kept : (s : Step) (T : RepliedHistory) (f d : ℕ) → document_in T f ≡ Some d → ends (frames_above T d) s.event ≡ false → (document_frame s.event (suc (length T)) ≡ Some f → ⊥) → document_in (s ∷ T) f ≡ Some d
document-in-kept s T f d h e ne = by_frame (document_frame s.event (suc (length T))) refl
  where
    by_frame : (o : Option ℕ) → document_frame s.event (suc (length T)) ≡ o → document_in (s ∷ T) f ≡ Some d
    by_frame None is = rw (document-in-other s T f is, h, e) refl
    by_frame (Some g) is = by_test (g == f) refl
      where
        by_test : (b : Bool) → (g == f) ≡ b → document_in (s ∷ T) f ≡ Some d
        by_test true q = absurd (ne (is ∙ ap Some (same-numbers g f q)))
        by_test false q = rw (beside-frame s T f g is q, h, e) refl

-- the frame above each live frame is live
abbrev AboveLive : RepliedHistory → Type 0
AboveLive T = (f d g : ℕ) → document_in T f ≡ Some d → parent_frame T f ≡ Some g → is_live T g ≡ true

frames-step : (T : RepliedHistory) (f d g p : ℕ) → AreNamedLive T → document_in T f ≡ Some d → parent_frame T f ≡ Some g → last_document T g ≡ Some p → frames_above T d ≡ frames_above T p ++ f ∷ []
unfolding frames_above
frames-step T f d g p named here par last =
    ap (map (frame_of T)) (hangs T named f d here ∙ ap (λ o. unwrap_or (option_map (chain T) (option_and_then (last_document T) o)) [] ++ d ∷ []) par ∙ ap (λ o. unwrap_or (option_map (chain T) o) [] ++ d ∷ []) last)
    ∙ map-end (frame_of T) (chain T p) d
    ∙ ap (λ x. frames_above T p ++ x ∷ []) (frame-of-last T f d (last-of T f d here))

frames-alone : (T : RepliedHistory) (f d : ℕ) → AreNamedLive T → document_in T f ≡ Some d → parent_frame T f ≡ None → frames_above T d ≡ f ∷ []
unfolding frames_above
frames-alone T f d named here par =
    ap (map (frame_of T)) (hangs T named f d here ∙ ap (λ o. unwrap_or (option_map (chain T) (option_and_then (last_document T) o)) [] ++ d ∷ []) par)
    ∙ ap (λ x. x ∷ []) (frame-of-last T f d (last-of T f d here))

-- the frames above are older
frames-up-to : (n : ℕ) (T : RepliedHistory) → AreNamedLive T → AboveLive T → (f d : ℕ) → f ≤ n → document_in T f ≡ Some d → AllUpTo f (frames_above T d)
frames-up-to n T named above f d le here = by_size n f d le here
  where
    by_size : (n f d : ℕ) → f ≤ n → document_in T f ≡ Some d → AllUpTo f (frames_above T d)
    by_size zero f d le here = by_zero (parent_frame T f) refl
      where
        by_zero : (o : Option ℕ) → parent_frame T f ≡ o → AllUpTo f (frames_above T d)
        by_zero None is = rw (frames-alone T f d named here is) (omega arith, tt)
        by_zero (Some g) is = let lt : g < f = (is-over T named f g is).older in absurd (omega arith)
    by_size (suc n) f d le here = by_parent (parent_frame T f) refl (by_size n)
      where
        by_parent : (o : Option ℕ) → parent_frame T f ≡ o → ((f d : ℕ) → f ≤ n → document_in T f ≡ Some d → AllUpTo f (frames_above T d)) → AllUpTo f (frames_above T d)
        by_parent None is older = rw (frames-alone T f d named here is) (omega arith, tt)
        by_parent (Some g) is older =
            let lt : g < f = (is-over T named f g is).older in
            let up : (p : ℕ) × (document_in T g ≡ Some p) = live-here T g (above f d g here is) in
            rw (frames-step T f d g up.0 named here is (last-of T g up.0 up.1)) (up-to-end f f (frames_above T up.0) (up-to-more g f (frames_above T up.0) (omega arith) (older g up.0 (omega arith) up.1)) (omega arith))

or-front : (b c d : Bool) → (d ≡ false → c ≡ false) → (b || d) ≡ false → (b || c) ≡ false
or-front true c d f h = h
or-front false c d f h = f h

any-front : (f : ℕ) (xs : List ℕ) (x : ℕ) → list_any (λ y. y == f) (xs ++ x ∷ []) ≡ false → list_any (λ y. y == f) xs ≡ false
any-front f [] x h = refl
any-front f (y ∷ xs) x h = or-front (y == f) (list_any (λ y. y == f) xs) (list_any (λ y. y == f) (xs ++ x ∷ [])) (any-front f xs x) h

ends-front : (xs : List ℕ) (x : ℕ) (e : Event) → ends (xs ++ x ∷ []) e ≡ false → ends xs e ≡ false
ends-front xs x (event.Navigate f url header) h = any-front f xs x h
ends-front xs x (event.Close f) h = any-front f xs x h
ends-front xs x e h = refl

-- a frame above one that stays has no new document
not-made : (s : Step) (T : RepliedHistory) (f d g p : ℕ) → AreNamedLive T → document_in T f ≡ Some d → parent_frame T f ≡ Some g → last_document T g ≡ Some p → ends (frames_above T d) s.event ≡ false → document_frame s.event (suc (length T)) ≡ Some g → ⊥
not-made s T f d g p named here par last quiet = by_event s.event quiet
  where
    le : g ≤ length T
    le = last-bound T named g (ap is_some last)

    past : Some (suc (length T)) ≡ Some g → ⊥
    past z = let l : g ≤ length T = le in let i : suc (length T) ≡ g = cc in absurd (omega arith)

    by_event : (e : Event) → ends (frames_above T d) e ≡ false → document_frame e (suc (length T)) ≡ Some g → ⊥
    by_event (event.OpenPage url header) q z = past z
    by_event (event.Embed parent src place allow sandbox fullscreen srcdoc header) q z = past z
    by_event (event.Navigate h url header) q z = let i : h ≡ g = cc in true≢false (sym (frames-have T f d g p (hangs T named f d here) par last) ∙ ap (λ x. list_any (λ y. y == x) (frames_above T d)) (sym i) ∙ q)
    by_event e q z = cc

live-is : (T : RepliedHistory) (f d : ℕ) → document_in T f ≡ Some d → is_live T f ≡ true
unfolding is_live
live-is T f d h = ap is_some h

above-stays : (s : Step) (T : RepliedHistory) (f x g : ℕ) → AreNamedLive T → AboveLive T → document_in T f ≡ Some x → ends (frames_above T x) s.event ≡ false → parent_frame T f ≡ Some g → is_live (s ∷ T) g ≡ true
above-stays s T f x g named above here quiet par =
    let up : (p : ℕ) × (document_in T g ≡ Some p) = live-here T g (above f x g here par) in
    let last : last_document T g ≡ Some up.0 = last-of T g up.0 up.1 in
    live-is (s ∷ T) g up.0 (document-in-kept s T g up.0 up.1
    (ends-front (frames_above T up.0) f s.event (ap (λ xs. ends xs s.event) (sym (frames-step T f x g up.0 named here par last)) ∙ quiet))
    (not-made s T f x g up.0 named here par last quiet))

-- of a frame with a new document
above-new : (s : Step) (T : RepliedHistory) (f g : ℕ) → AreNamedLive (s ∷ T) → AboveLive T → document_frame s.event (suc (length T)) ≡ Some f → parent_frame (s ∷ T) f ≡ Some g → is_live (s ∷ T) g ≡ true
above-new s T f g named above is par = by_event s.event refl named.0 is
  where
    k : ℕ
    k = suc (length T)

    by_event : (e : Event) → s.event ≡ e → NamesLive e T → document_frame e k ≡ Some f → is_live (s ∷ T) g ≡ true
    by_event (event.OpenPage url header) q n i =
        let c : k ≡ f = cc in
        let z : ◌≡◌ {A = Option ℕ} None (Some g) = sym (parent-newest s T ∙ ap parent_by q) ∙ ap (parent_frame (s ∷ T)) c ∙ par in cc
    by_event (event.Embed parent src place allow sandbox fullscreen srcdoc header) q n i =
        let c : k ≡ f = cc in
        let z : Some parent ≡ Some g = sym (parent-newest s T ∙ ap parent_by q) ∙ ap (parent_frame (s ∷ T)) c ∙ par in
        let j : parent ≡ g = cc in
        let up : (p : ℕ) × (document_in T g ≡ Some p) = live-here T g (ap (is_live T) (sym j) ∙ n) in
        let le : g ≤ length T = last-bound T named.1 g (ap is_some (last-of T g up.0 up.1)) in
        live-is (s ∷ T) g up.0 (document-in-kept s T g up.0 up.1 (ap (ends (frames_above T up.0)) q)
        (λ b. let y : Some k ≡ Some g = sym (ap (λ e. document_frame e k) q) ∙ b in let w : k ≡ g = cc in absurd (omega arith)))
    by_event (event.Navigate F url header) q n i =
        let c : F ≡ f = cc in
        let old : (d : ℕ) × (document_in T F ≡ Some d) = live-here T F n in
        let le : F ≤ length T = last-bound T named.1 F (ap is_some (last-of T F old.0 old.1)) in
        let par' : parent_frame T F ≡ Some g = sym (parent-older s T F le) ∙ ap (parent_frame (s ∷ T)) c ∙ par in
        let lt : g < F = (is-over T named.1 F g par').older in
        let up : (p : ℕ) × (document_in T g ≡ Some p) = live-here T g (above F old.0 g old.1 par') in
        live-is (s ∷ T) g up.0 (document-in-kept s T g up.0 up.1
        (ap (ends (frames_above T up.0)) q ∙ none-past g F (frames_above T up.0) lt (frames-up-to g T named.1 above g up.0 (omega arith) up.1))
        (λ b. let y : Some F ≡ Some g = sym (ap (λ e. document_frame e k) q) ∙ b in let w : F ≡ g = cc in absurd (omega arith)))
    by_event e q n i = cc

above-step : (s : Step) (T : RepliedHistory) → AreNamedLive (s ∷ T) → AboveLive T → AboveLive (s ∷ T)
above-step s T named above f d g here par = by_frame (document_frame s.event (suc (length T))) refl
  where
    by_ends : (x : ℕ) → document_in T f ≡ Some x → (b : Bool) → ends (frames_above T x) s.event ≡ b → some_if (not b) x ≡ Some d → is_live (s ∷ T) g ≡ true
    by_ends x is true q z = cc
    by_ends x is false q z =
        let le : f ≤ length T = last-bound T named.1 f (ap is_some (last-of T f x is)) in
        above-stays s T f x g named.1 above is q (sym (parent-older s T f le) ∙ par)

    by_doc : (o : Option ℕ) → document_in T f ≡ o → option_and_then (λ d. some_if (not (ends (frames_above T d) s.event)) d) o ≡ Some d → is_live (s ∷ T) g ≡ true
    by_doc None is z = cc
    by_doc (Some x) is z = by_ends x is (ends (frames_above T x) s.event) refl z

    by_frame : (o : Option ℕ) → document_frame s.event (suc (length T)) ≡ o → is_live (s ∷ T) g ≡ true
    by_frame None is = by_doc (document_in T f) refl (sym (document-in-other s T f is) ∙ here)
    by_frame (Some h) is = (elim (h == f) as (λ b. (h == f) ≡ b → is_live (s ∷ T) g ≡ true) [
      | true ↦ λ q. above-new s T f g named above (is ∙ ap Some (same-numbers h f q)) par
      | false ↦ λ q. by_doc (document_in T f) refl (sym (beside-frame s T f h is q) ∙ here)
    ]) refl

none-above : AboveLive []
none-above f d g here par = absurd (no-doc f d here)

above-live : (T : RepliedHistory) → AreNamedLive T → AboveLive T
above-live [] named = none-above
above-live (s ∷ T) named = above-step s T named (above-live T named.1)

-- ---- the tree

-- the document of the frame above
abbrev document_above : RepliedHistory → ℕ → Option ℕ
document_above T f = option_and_then (document_in T) (parent_frame T f)

-- the last document of the frame above a live frame is current
above-same : (T : RepliedHistory) → AreNamedLive T → (f d : ℕ) → document_in T f ≡ Some d → embedder_now T f ≡ document_above T f
above-same T named f d here = by_parent (parent_frame T f) refl
  where
    by_parent : (o : Option ℕ) → parent_frame T f ≡ o → option_and_then (last_document T) o ≡ option_and_then (document_in T) o
    by_parent None is = refl
    by_parent (Some g) is =
        let up : (p : ℕ) × (document_in T g ≡ Some p) = live-here T g (above-live T named f d g here is) in
        last-of T g up.0 up.1 ∙ sym up.1

hangs-now : (T : RepliedHistory) → AreNamedLive T → (f d : ℕ) → document_in T f ≡ Some d → chain T d ≡ unwrap_or (option_map (chain T) (document_above T f)) [] ++ d ∷ []
hangs-now T named f d here = hangs T named f d here ∙ ap (λ o. unwrap_or (option_map (chain T) o) [] ++ d ∷ []) (above-same T named f d here)

frames-hang : (T : RepliedHistory) → AreNamedLive T → (f d : ℕ) → document_in T f ≡ Some d → frames_above T d ≡ unwrap_or (option_map (frames_above T) (document_above T f)) [] ++ f ∷ []
unfolding frames_above
frames-hang T named f d here =
    ap (map (frame_of T)) (hangs-now T named f d here)
    ∙ map-end (frame_of T) (unwrap_or (option_map (chain T) (document_above T f)) []) d
    ∙ ap (λ x. map (frame_of T) (unwrap_or (option_map (chain T) (document_above T f)) []) ++ x ∷ []) (frame-of-last T f d (last-of T f d here))
    ∙ ap (λ xs. xs ++ f ∷ []) (by_above (document_above T f))
  where
    by_above : (o : Option ℕ) → map (frame_of T) (unwrap_or (option_map (chain T) o) []) ≡ unwrap_or (option_map (frames_above T) o) []
    by_above None = refl
    by_above (Some p) = refl

document-above-is : (T : RepliedHistory) (f q : ℕ) → document_above T f ≡ Some q → is_current T q ≡ true
document-above-is T f q h = by_parent (parent_frame T f) h
  where
    by_parent : (o : Option ℕ) → option_and_then (document_in T) o ≡ Some q → is_current T q ≡ true
    by_parent None e = cc
    by_parent (Some g) e = (in-frame T g q e).1

above-current : (n : ℕ) (T : RepliedHistory) → AreNamedLive T → (d p : ℕ) → length (chain T d) ≤ n → is_current T d ≡ true → is_one_of (chain T d) p ≡ true → is_current T p ≡ true
above-current zero T named d p size now one =
    let up = unwrap_or (option_map (chain T) (document_above T (frame_of T d))) [] in
    let is : chain T d ≡ up ++ d ∷ [] = hangs-now T named (frame_of T d) d (shown T named d now) in
    absurd (omega (arith, ap length is, length-append up (d ∷ [])))
above-current (suc n) T named d p size now one = by_above (document_above T (frame_of T d)) refl (above-current n T named)
  where
    is : chain T d ≡ unwrap_or (option_map (chain T) (document_above T (frame_of T d))) [] ++ d ∷ []
    is = hangs-now T named (frame_of T d) d (shown T named d now)

    by_place : (xs : List ℕ) → (is_one_of xs p ≡ true → is_current T p ≡ true) → (is_one_of xs p ≡ true) ⊎ (d ≡ p) → is_current T p ≡ true
    by_place xs below (inl e) = below e
    by_place xs below (inr e) = ap (is_current T) (sym e) ∙ now

    by_above : (o : Option ℕ) → document_above T (frame_of T d) ≡ o
        → ((q p : ℕ) → length (chain T q) ≤ n → is_current T q ≡ true → is_one_of (chain T q) p ≡ true → is_current T p ≡ true) → is_current T p ≡ true
    by_above None up older =
        let here : chain T d ≡ d ∷ [] = is ∙ ap (λ o. unwrap_or (option_map (chain T) o) [] ++ d ∷ []) up in
        by_place [] (λ e. cc) (one-at-end [] d p (ap (λ xs. is_one_of xs p) (sym here) ∙ one))
    by_above (Some q) up older =
        let here : chain T d ≡ chain T q ++ d ∷ [] = is ∙ ap (λ o. unwrap_or (option_map (chain T) o) [] ++ d ∷ []) up in
        let small : length (chain T q) ≤ n = omega (arith, size, ap length here, length-append (chain T q) (d ∷ [])) in
        by_place (chain T q) (older q p small (document-above-is T (frame_of T d) q up)) (one-at-end (chain T q) d p (ap (λ xs. is_one_of xs p) (sym here) ∙ one))

-- a navigation leaves the frames above
navigated : (T : RepliedHistory) → AreNamedLive T → (s : Step) (f : ℕ) (url : List ℕ) (header : Option (List ℕ)) (d : ℕ) → s.event ≡ event.Navigate f url header → document_in T f ≡ Some d
    → frames_above (s ∷ T) (suc (length T)) ≡ frames_above T d
navigated T named s f url header d is here =
    ap (λ e. frames_above (record { time = s.time; event = e; item = s.item } ∷ T) (suc (length T))) is
    ∙ frames-again s.time s.item f url header T d named here

parent-live : (T : RepliedHistory) → AreNamedLive T → (f g : ℕ) → is_live T f ≡ true → parent_frame T f ≡ Some g → is_live T g ≡ true
parent-live T named f g live par =
    let here : (d : ℕ) × (document_in T f ≡ Some d) = live-here T f live in
    above-live T named f here.0 g here.1 par

parent-is-older : (T : RepliedHistory) → AreNamedLive T → (f g : ℕ) → parent_frame T f ≡ Some g → (g < f) × (is_frame T g ≡ true)
parent-is-older T named f g par =
    let over = is-over T named f g par in
    let last : (d : ℕ) × (last_document T g ≡ Some d) = some-of (last_document T g) over.has in
    (over.older, framed T named g last.0 last.1)

pub tree-of : (T : RepliedHistory) → AreNamedLive T → IsTree T
tree-of T named = record {
  parent_older = parent-is-older T named;
  parent_live = parent-live T named;
  hangs = hangs-now T named;
  frames_hang = frames-hang T named;
  navigated = navigated T named;
  above_current = λ d p. above-current (length (chain T d)) T named d p (omega arith);
}

pub tree : (duration : ℕ) (H : History) → is_regular duration H ≡ true → IsTree (replied duration H)
tree duration H regular = tree-of (replied duration H) (regular-names duration H regular)
