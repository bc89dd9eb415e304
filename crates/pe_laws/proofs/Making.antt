-- The making of documents, step by step; an embedder is older than what is made in it.
use Rattle.std.proofs.Common.{◌≡◌, ◌≢◌, ℕ, suc, ◌+◌, ◌<◌, ◌≤◌, Bool, true, false, ◌&&◌, ◌==◌, [], ◌∷◌, length, Option, Some, None, is_some, unwrap_or, option_map, option_and_then, refl, sym, ◌∙◌, ap, arith, cond}
use Rattle.std.specs.Option.{option_or}
use Rattle.pe_events.specs.declared.event.Event.{Event}
use Rattle.pe_events.specs.declared.event.Event.TheVariants as event
use Rattle.pe_rules.specs.History.{Step, RepliedHistory, some_if, newest_answer}
use Rattle.pe_rules.specs.Numbering.{document_frame, documents_made, last_document, parent_frame}
use Rattle.pe_rules.specs.Making.{Making, making_by, making, fold_embedders, frame_of}
use Rattle.pe_rules.specs.Activation.{is_one_of}
use Rattle.pe_laws.proofs.Numbers.{not_same, is_same, same-numbers}
use Rattle.pe_laws.proofs.Older.{frame-makes}
use Rattle.pe_laws.proofs.Numbering.{or-none, is_document, documents-made}

-- ---- the making of a document is settled by its position

pub making-other : (s : Step) (T : RepliedHistory) (d : ℕ) → d ≢ suc (length T) → making (s ∷ T) d ≡ making T d
unfolding making newest_answer
making-other s T d ne = rw (not_same d (suc (length T)) ne) refl

pub making-beyond : (T : RepliedHistory) (d : ℕ) → length T < d → making T d ≡ None
unfolding making newest_answer
making-beyond [] d h = refl
making-beyond (s ∷ T) d h = let ne : d ≢ suc (length T) = omega arith in rw (not_same d (suc (length T)) ne) (making-beyond T d (omega arith))

making-at : (s : Step) (T : RepliedHistory) → making (s ∷ T) (suc (length T)) ≡ option_or (making_by s.event T) (making T (suc (length T)))
unfolding making newest_answer
making-at s T = rw (is_same (suc (length T))) refl

pub making-newest : (s : Step) (T : RepliedHistory) → making (s ∷ T) (suc (length T)) ≡ making_by s.event T
making-newest s T = making-at s T ∙ rw (making-beyond T (suc (length T)) (omega arith)) (or-none (making_by s.event T))

pub making-within : (T : RepliedHistory) (d : ℕ) → is_some (making T d) ≡ true → (1 ≤ d) × (d ≤ length T)
unfolding making newest_answer
making-within [] d h = cc
making-within (s ∷ T) d h = by_test (d == suc (length T)) refl (making-within T d) h
  where
    by_test : (b : Bool) → (d == suc (length T)) ≡ b → (is_some (making T d) ≡ true → (1 ≤ d) × (d ≤ length T))
        → is_some (option_or (cond b (making_by s.event T) None) (making T d)) ≡ true → (1 ≤ d) × (d ≤ suc (length T))
    by_test true is older e = let here : d ≡ suc (length T) = same-numbers d (suc (length T)) is in (omega arith, omega arith)
    by_test false is older e = let w = older e in (w.0, omega (arith, w.1))

-- ---- the frame that a document is made in

made-in : (e : Event) (T : RepliedHistory) (m : Making) → making_by e T ≡ Some m → document_frame e (suc (length T)) ≡ Some m.frame
unfolding making_by
made-in (event.OpenPage url header) T m h = let n : suc (length T) ≡ length T + 1 = omega arith in ap Some n ∙ ap (option_map (λ (x : Making). x.frame)) h
made-in (event.Embed parent src place allow sandbox fullscreen srcdoc header) T m h =
    let n : suc (length T) ≡ length T + 1 = omega arith in ap Some n ∙ ap (option_map (λ (x : Making). x.frame)) h
made-in (event.Navigate frame url header) T m h = ap (option_map (λ (x : Making). x.frame)) h
made-in e T m h = cc

pub made-in-frame : (s : Step) (T : RepliedHistory) (m : Making) → making_by s.event T ≡ Some m → document_frame s.event (suc (length T)) ≡ Some m.frame
made-in-frame s T m h = made-in s.event T m h

pub makes-in-frame : (s : Step) (T : RepliedHistory) (f : ℕ) → document_frame s.event (suc (length T)) ≡ Some f → (m : Making) × (making_by s.event T ≡ Some m) × (m.frame ≡ f)
makes-in-frame s T f h =
    let made : (m : Making) × (making_by s.event T ≡ Some m) = frame-makes s.event T (suc (length T)) f h in
    let frame : document_frame s.event (suc (length T)) ≡ Some made.0.frame = made-in s.event T made.0 made.1 in
    (made.0, made.1, cc)

pub frame-of-other : (s : Step) (T : RepliedHistory) (d : ℕ) → d ≢ suc (length T) → frame_of (s ∷ T) d ≡ frame_of T d
unfolding frame_of
frame-of-other s T d ne = rw (making-other s T d ne) refl

pub frame-of-newest : (s : Step) (T : RepliedHistory) (f : ℕ) → document_frame s.event (suc (length T)) ≡ Some f → frame_of (s ∷ T) (suc (length T)) ≡ f
unfolding frame_of
frame-of-newest s T f h =
    let made = makes-in-frame s T f h in
    rw (making-newest s T, made.1) made.2

-- ---- the documents that were made are those with a making

makes-both : (e : Event) (T : RepliedHistory) → is_some (document_frame e 0) ≡ is_some (making_by e T)
unfolding making_by
makes-both (event.OpenPage url header) T = refl
makes-both (event.Embed parent src place allow sandbox fullscreen srcdoc header) T = refl
makes-both (event.Navigate frame url header) T = refl
makes-both e T = refl

document-is : (T : RepliedHistory) (d : ℕ) → is_document T d ≡ is_some (making T d)
unfolding making newest_answer
document-is [] d = refl
document-is (s ∷ T) d = rw (makes-both s.event T) (by_tests (d == suc (length T)) (making_by s.event T) (document-is T d))
  where
    by_tests : (b : Bool) (o : Option Making) → is_document T d ≡ is_some (making T d)
        → is_some (option_or (some_if (b && is_some o) d) (newest_answer (λ s B. some_if (d == length (s ∷ B) && is_some (document_frame s.event 0)) d) T))
        ≡ is_some (option_or (cond b o None) (making T d))
    by_tests true None older = older
    by_tests true (Some m) older = refl
    by_tests false o older = older

pub documents-are : (T : RepliedHistory) (d : ℕ) → is_one_of (documents_made T) d ≡ is_some (making T d)
documents-are T d = documents-made T d ∙ document-is T d

-- ---- the last document of a frame was made there

-- the document was made in the frame
abbrev pub MadeIn : RepliedHistory → ℕ → ℕ → Type 0
MadeIn T f d = (m : Making) × (making T d ≡ Some m) × (m.frame ≡ f)

made-in-older : (s : Step) (T : RepliedHistory) (f d : ℕ) → MadeIn T f d → MadeIn (s ∷ T) f d
made-in-older s T f d w =
    let within = making-within T d (ap is_some w.1) in
    let ne : d ≢ suc (length T) = omega (arith, within.1) in
    (w.0, making-other s T d ne ∙ w.1, w.2)

last-made-step : (s : Step) (T : RepliedHistory) (f d : ℕ) → (last_document T f ≡ Some d → MadeIn T f d) → (o : Option ℕ) → document_frame s.event (suc (length T)) ≡ o
    → option_or (option_and_then (λ g. some_if (g == f) (suc (length T))) o) (last_document T f) ≡ Some d → MadeIn (s ∷ T) f d
last-made-step s T f d older None made h = made-in-older s T f d (older h)
last-made-step s T f d older (Some g) made h = by_test (g == f) refl h
  where
    by_test : (b : Bool) → (g == f) ≡ b → option_or (some_if b (suc (length T))) (last_document T f) ≡ Some d → MadeIn (s ∷ T) f d
    by_test true is e =
        let here : suc (length T) ≡ d = cc in
        let m = makes-in-frame s T g made in
        (m.0, ap (making (s ∷ T)) (sym here) ∙ making-newest s T ∙ m.1, m.2 ∙ same-numbers g f is)
    by_test false is e = made-in-older s T f d (older e)

pub last-made : (T : RepliedHistory) (f d : ℕ) → last_document T f ≡ Some d → MadeIn T f d
unfolding last_document newest_answer
last-made [] f d h = cc
last-made (s ∷ T) f d h = last-made-step s T f d (last-made T f d) (document_frame s.event (suc (length T))) refl h

pub last-within : (T : RepliedHistory) (f d : ℕ) → last_document T f ≡ Some d → (1 ≤ d) × (d ≤ length T)
last-within T f d h = let made = last-made T f d h in making-within T d (ap is_some made.1)

pub frame-of-last : (T : RepliedHistory) (f d : ℕ) → last_document T f ≡ Some d → frame_of T d ≡ f
unfolding frame_of
frame-of-last T f d h = let made = last-made T f d h in rw made.1 made.2

-- ---- an embedder is older

embedder-of : (o : Option Making) (m : Making) → o ≡ Some m → option_and_then (λ (x : Making). x.embedder) o ≡ m.embedder
embedder-of o m h = ap (option_and_then (λ (x : Making). x.embedder)) h

-- the embedder of a document that an event makes is the last one of some frame
pub embedder-last : (e : Event) (T : RepliedHistory) (m : Making) (p : ℕ) → making_by e T ≡ Some m → m.embedder ≡ Some p → (f : ℕ) × (last_document T f ≡ Some p)
unfolding making_by
embedder-last (event.OpenPage url header) T m p h is = let clash : ◌≡◌ {A = Option ℕ} None (Some p) = embedder-of _ m h ∙ is in cc
embedder-last (event.Embed parent src place allow sandbox fullscreen srcdoc header) T m p h is = (parent, embedder-of _ m h ∙ is)
embedder-last (event.Navigate frame url header) T m p h is = by_parent (parent_frame T frame) (embedder-of _ m h ∙ is)
  where
    by_parent : (o : Option ℕ) → option_and_then (last_document T) o ≡ Some p → (f : ℕ) × (last_document T f ≡ Some p)
    by_parent None h = cc
    by_parent (Some f) h = (f, h)
embedder-last e T m p h is = cc

-- it was made, before this one
abbrev pub IsOlder : RepliedHistory → ℕ → ℕ → Type 0
IsOlder T d p = (p < d) × (is_some (making T p) ≡ true)

pub embedder-older : (T : RepliedHistory) (d : ℕ) (m : Making) (p : ℕ) → making T d ≡ Some m → m.embedder ≡ Some p → IsOlder T d p
unfolding making newest_answer
embedder-older [] d m p h is = cc
embedder-older (s ∷ T) d m p h is = by_test (d == suc (length T)) refl (λ e. embedder-older T d m p e is) h
  where
    stays : IsOlder T d p → IsOlder (s ∷ T) d p
    stays w =
        let within = making-within T p w.1 in
        let ne : p ≢ suc (length T) = omega (arith, within.1) in
        (w.0, ap is_some (making-other s T p ne) ∙ w.1)

    new : d ≡ suc (length T) → making_by s.event T ≡ Some m → IsOlder (s ∷ T) d p
    new here made =
        let at = embedder-last s.event T m p made is in
        let last = last-made T at.0 p at.1 in
        let within = making-within T p (ap is_some last.1) in
        let ne : p ≢ suc (length T) = omega (arith, within.1) in
        (omega (arith, within.1), ap is_some (making-other s T p ne) ∙ ap is_some last.1)

    by_made : d ≡ suc (length T) → (o : Option Making) → making_by s.event T ≡ o → (making T d ≡ Some m → IsOlder T d p) → option_or o (making T d) ≡ Some m → IsOlder (s ∷ T) d p
    by_made here None made older e = stays (older e)
    by_made here (Some n) made older e = new here (made ∙ e)

    by_test : (b : Bool) → (d == suc (length T)) ≡ b → (making T d ≡ Some m → IsOlder T d p) → option_or (cond b (making_by s.event T) None) (making T d) ≡ Some m → IsOlder (s ∷ T) d p
    by_test true is older e = by_made (same-numbers d (suc (length T)) is) (making_by s.event T) refl older e
    by_test false is older e = stays (older e)

-- ---- what is worked out along embedders

pub along-other : {A : Type 0} (other : A) (rule : RepliedHistory → Making → Option A → A) (s : Step) (T : RepliedHistory) (d : ℕ) → d ≢ suc (length T)
    → fold_embedders other rule (s ∷ T) d ≡ fold_embedders other rule T d
unfolding fold_embedders
along-other other rule s T d ne = rw (not_same d (suc (length T)) ne) refl

pub along-newest : {A : Type 0} (other : A) (rule : RepliedHistory → Making → Option A → A) (s : Step) (T : RepliedHistory) (m : Making) → making_by s.event T ≡ Some m
    → fold_embedders other rule (s ∷ T) (suc (length T)) ≡ rule (s ∷ T) m (option_map (fold_embedders other rule T) m.embedder)
unfolding fold_embedders
along-newest other rule s T m h = rw (is_same (suc (length T)), h) refl

pub along-unmade : {A : Type 0} (other : A) (rule : RepliedHistory → Making → Option A → A) (T : RepliedHistory) (d : ℕ) → making T d ≡ None → fold_embedders other rule T d ≡ other
unfolding fold_embedders making newest_answer
along-unmade other rule [] d h = refl
along-unmade other rule (s ∷ T) d h = by_test (d == suc (length T)) (making_by s.event T) (along-unmade other rule T d) h
  where
    by_test : (b : Bool) (o : Option Making) → (making T d ≡ None → fold_embedders other rule T d ≡ other) → option_or (cond b o None) (making T d) ≡ None
        → cond b (unwrap_or (option_map (λ m. rule (s ∷ T) m (option_map (fold_embedders other rule T) m.embedder)) o) other) (fold_embedders other rule T d) ≡ other
    by_test true None older e = refl
    by_test true (Some m) older e = cc
    by_test false o older e = older e
