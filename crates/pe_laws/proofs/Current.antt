-- What a newer step leaves current.
use Rattle.std.proofs.Common.{◌≡◌, ◌≢◌, ℕ, suc, ◌≤◌, Bool, true, false, not, ◌&&◌, List, [], ◌∷◌, ◌++◌, map, length, Option, Some, None, is_some, option_and_then, refl, sym, ◌∙◌, ap, arith, length-append}
use Rattle.std.specs.List.{list_all}
use Rattle.pe_rules.specs.History.{Step, RepliedHistory, some_if, steps_since}
use Rattle.pe_rules.specs.Numbering.{document_frame, last_document}
use Rattle.pe_rules.specs.Making.{making_by, making, frame_of}
use Rattle.pe_rules.specs.Embedders.{chain}
use Rattle.pe_rules.specs.Current.{ends, frames_above, is_current, document_in}
use Rattle.pe_laws.specs.CurrentLaws.{left_in}
use Rattle.pe_laws.proofs.Numbers.{not_same, is_same, is_within, is_not_within}
use Rattle.pe_laws.proofs.Lists.{both}
use Rattle.pe_laws.proofs.Older.{AllWithin, chain-within, chain-older, making-older, frame-older, last-below, last-document-step}
use Rattle.pe_laws.proofs.Making.{making-newest, making-within, makes-in-frame, frame-of-last}

map-frame-older : (s : Step) (T : RepliedHistory) (ds : List ℕ) → AllWithin (length T) ds → map (frame_of (s ∷ T)) ds ≡ map (frame_of T) ds
map-frame-older s T [] h = refl
map-frame-older s T (d ∷ ds) h = rw (frame-older s T d h.0, map-frame-older s T ds h.1) refl

pub frames-older : (s : Step) (T : RepliedHistory) (d : ℕ) → d ≤ length T → frames_above (s ∷ T) d ≡ frames_above T d
unfolding frames_above
frames-older s T d h = rw (chain-older s T d h) (map-frame-older s T (chain T d) (chain-within T d))

-- a document is current after an event where it was, and the event ends none of its frames
pub current-older : (s : Step) (T : RepliedHistory) (d : ℕ) → d ≤ length T → is_current (s ∷ T) d ≡ (is_current T d && not (ends (frames_above T d) s.event))
unfolding is_current steps_since
current-older s T d h =
    rw (frames-older s T d h, making-older s T d h, is_not_within d (length T) h)
    (table (is_some (making T d)) (not (ends (frames_above T d) s.event)) (list_all (λ x. not (ends (frames_above T d) x.event)) (steps_since T d)))
  where
    table : (a b c : Bool) → (a && (b && c)) ≡ ((a && c) && b)
    table true true true = refl
    table true true false = refl
    table true false true = refl
    table true false false = refl
    table false b c = refl

-- a document that was made and is not current is not current after an event
pub gone-stays : (s : Step) (T : RepliedHistory) (d : ℕ) → d ≤ length T → is_current T d ≡ false → is_current (s ∷ T) d ≡ false
gone-stays s T d h gone = rw (current-older s T d h, gone) refl

pub gone-stays-along : (newer T : RepliedHistory) (d : ℕ) → d ≤ length T → is_current T d ≡ false → is_current (newer ++ T) d ≡ false
gone-stays-along [] T d h gone = gone
gone-stays-along (s ∷ newer) T d h gone =
    let within : d ≤ length (newer ++ T) = omega (arith, length-append newer T) in
    gone-stays s (newer ++ T) d within (gone-stays-along newer T d h gone)

-- a document that is current was current before
pub was-current : (s : Step) (T : RepliedHistory) (d : ℕ) → d ≤ length T → is_current (s ∷ T) d ≡ true → is_current T d ≡ true
was-current s T d h now = by_before (is_current T d) refl
  where
    by_before : (b : Bool) → is_current T d ≡ b → is_current T d ≡ true
    by_before true e = e
    by_before false e = let no : is_current (s ∷ T) d ≡ false = gone-stays s T d h e in cc

-- the current document of a frame was made
pub document-in-below : (T : RepliedHistory) (f d : ℕ) → document_in T f ≡ Some d → d ≤ length T
unfolding document_in
document-in-below T f d h = by_last (last_document T f) (last-below T f) h
  where
    by_test : (b : Bool) (x : ℕ) → x ≤ length T → some_if b x ≡ Some d → d ≤ length T
    by_test true x le e = let is : x ≡ d = cc in omega arith
    by_test false x le e = cc

    by_last : (o : Option ℕ) → ((x : ℕ) → o ≡ Some x → x ≤ length T) → option_and_then (λ d. some_if (is_current T d) d) o ≡ Some d → d ≤ length T
    by_last None below e = cc
    by_last (Some x) below e = by_test (is_current T x) x (below x refl) e

-- ---- a document that a step makes

pub and-true : (b : Bool) → (b && true) ≡ b
and-true true = refl
and-true false = refl

pub current-newest : (s : Step) (T : RepliedHistory) → is_current (s ∷ T) (suc (length T)) ≡ is_some (making_by s.event T)
unfolding is_current steps_since
current-newest s T = rw (making-newest s T, is_within (suc (length T)) (suc (length T)) (omega arith)) (and-true (is_some (making_by s.event T)))

pub current-made : (T : RepliedHistory) (d : ℕ) → is_current T d ≡ true → is_some (making T d) ≡ true
unfolding is_current
current-made T d h = (both (is_some (making T d)) (list_all (λ s. not (ends (frames_above T d) s.event)) (steps_since T d)) h).0

pub current-within : (T : RepliedHistory) (d : ℕ) → is_current T d ≡ true → (1 ≤ d) × (d ≤ length T)
current-within T d h = making-within T d (current-made T d h)

-- a number without a document is not current
pub unmade-current : (T : RepliedHistory) (d : ℕ) → making T d ≡ None → is_current T d ≡ false
unfolding is_current
unmade-current T d h = rw h refl

-- ---- the document of a frame

-- it is the last one made there, and current
pub in-frame : (T : RepliedHistory) (f d : ℕ) → document_in T f ≡ Some d → (last_document T f ≡ Some d) × (is_current T d ≡ true)
unfolding document_in
in-frame T f d h = by_last (last_document T f) h
  where
    by_test : (b : Bool) (x : ℕ) → is_current T x ≡ b → some_if b x ≡ Some d → (Some x ≡ Some d) × (is_current T d ≡ true)
    by_test true x is e = let same : x ≡ d = cc in (e, ap (is_current T) (sym same) ∙ is)
    by_test false x is e = cc

    by_last : (o : Option ℕ) → option_and_then (λ d. some_if (is_current T d) d) o ≡ Some d → (o ≡ Some d) × (is_current T d ≡ true)
    by_last None e = cc
    by_last (Some x) e = by_test (is_current T x) x refl e

pub document-in-frame : (T : RepliedHistory) (f d : ℕ) → document_in T f ≡ Some d → (is_current T d ≡ true) × (frame_of T d ≡ f) × (1 ≤ d) × (d ≤ length T)
document-in-frame T f d h =
    let w = in-frame T f d h in
    let within = current-within T d w.1 in
    (w.1, frame-of-last T f d w.0, within.0, within.1)

left-step : (s : Step) (T : RepliedHistory) (o : Option ℕ) → ((d : ℕ) → o ≡ Some d → d ≤ length T)
    → option_and_then (λ d. some_if (is_current (s ∷ T) d) d) o ≡ left_in s T (option_and_then (λ d. some_if (is_current T d) d) o)
left-step s T None below = refl
left-step s T (Some d) below = rw (current-older s T d (below d refl)) (by_tests (is_current T d))
  where
    by_tests : (b : Bool) → some_if (b && not (ends (frames_above T d) s.event)) d ≡ left_in s T (some_if b d)
    by_tests true = refl
    by_tests false = refl

pub document-in-other : (s : Step) (T : RepliedHistory) (f : ℕ) → document_frame s.event (suc (length T)) ≡ None → document_in (s ∷ T) f ≡ left_in s T (document_in T f)
unfolding document_in
document-in-other s T f h = rw (last-document-step s T f, h) (left-step s T (last_document T f) (last-below T f))

pub document-in-beside : (s : Step) (T : RepliedHistory) (f g : ℕ) → document_frame s.event (suc (length T)) ≡ Some g → g ≢ f → document_in (s ∷ T) f ≡ left_in s T (document_in T f)
unfolding document_in
document-in-beside s T f g h ne = rw (last-document-step s T f, h, not_same g f ne) (left-step s T (last_document T f) (last-below T f))

pub document-in-made : (s : Step) (T : RepliedHistory) (f : ℕ) → document_frame s.event (suc (length T)) ≡ Some f → document_in (s ∷ T) f ≡ Some (suc (length T))
unfolding document_in
document-in-made s T f h =
    let made = makes-in-frame s T f h in
    let now : is_current (s ∷ T) (suc (length T)) ≡ true = current-newest s T ∙ ap is_some made.1 in
    rw (last-document-step s T f, h, is_same f, now) refl
