-- In a regular history the frames that an event names are live, and a current document is the one of its frame.
use Rattle.std.proofs.Common.{◌≡◌, ◌≢◌, ℕ, suc, ◌≤◌, Bool, true, false, not, ◌&&◌, ◌||◌, ◌==◌, List, [], ◌∷◌, ◌++◌, map, length, Option, Some, None, is_some, is_none, option_and_then, refl, sym, ◌∙◌, ap, arith}
use Rattle.std.specs.Option.{option_or}
use Rattle.std.specs.List.{list_any}
use Rattle.std.proofs.lemmas.List.{map-append}
use Rattle.pe_events.specs.declared.cause.Cause.{Cause}
use Rattle.pe_events.specs.declared.event.Event.{Event}
use Rattle.pe_events.specs.declared.event.Event.TheVariants as event
use Rattle.pe_events.specs.Timed.{Timed}
use Rattle.pe_rules.specs.History.{Step, RepliedHistory, History, some_if, newest_answer}
use Rattle.pe_rules.specs.Numbering.{makes_frame, document_frame, is_frame, last_document}
use Rattle.pe_rules.specs.Making.{Making, making_by, making, frame_of}
use Rattle.pe_rules.specs.Current.{ends, frames_above, is_current, document_in, is_live}
use Rattle.pe_rules.specs.Causes.{names_closed, cause_of}
use Rattle.pe_rules.specs.Replies.{replied, accepts_in, accepts, is_regular}
use Rattle.pe_laws.specs.CurrentLaws.{left_in}
use Rattle.pe_laws.specs.CausesLaws.{IsFaultless}
use Rattle.pe_laws.proofs.Numbers.{is_same, same-numbers}
use Rattle.pe_laws.proofs.Lists.{both, or-true}
use Rattle.pe_laws.proofs.Numbering.{frame-other, frame-newest, frame-within}
use Rattle.pe_laws.proofs.Making.{made-in-frame, frame-of-other, frame-of-newest}
use Rattle.pe_laws.proofs.Embedders.{chain_above, chain-is}
use Rattle.pe_laws.proofs.Current.{current-older, current-newest, current-made, current-within, in-frame, document-in-other, document-in-beside, document-in-made}
use Rattle.pe_laws.proofs.Steps.{regular-step}
use Rattle.pe_laws.proofs.Causes.{faultless}

-- the frame that an event embeds in, navigates or closes is live
abbrev pub NamesLive : Event → RepliedHistory → Type 0
NamesLive (event.Embed parent src place allow sandbox fullscreen srcdoc header) T = is_live T parent ≡ true
NamesLive (event.Navigate frame url header) T = is_live T frame ≡ true
NamesLive (event.Close frame) T = is_live T frame ≡ true
NamesLive e T = Unit {0}

-- the frames that the events name are live after the steps before them
abbrev pub AreNamedLive : RepliedHistory → Type 0
AreNamedLive [] = Unit {0}
AreNamedLive (s ∷ T) = NamesLive s.event T × AreNamedLive T

opened : (b c : Bool) → ((not b || false) || c) ≡ false → b ≡ true
opened true c h = refl
opened false c h = cc

names-live : (T : RepliedHistory) (e : Event) → names_closed T e ≡ false → NamesLive e T
unfolding names_closed
names-live T (event.Embed parent src place allow sandbox fullscreen srcdoc header) h = opened (is_live T parent) _ h
names-live T (event.Navigate frame url header) h = opened (is_live T frame) _ h
names-live T (event.Close frame) h = opened (is_live T frame) _ h
names-live T e h = tt

no-cause : (o : Option Cause) → is_none o ≡ true → o ≡ None
no-cause None h = refl
no-cause (Some c) h = cc

-- no cause applies to an accepted event
pub accepted-faultless : (duration : ℕ) (H : History) (e : Timed) → accepts duration H e ≡ true → IsFaultless (replied duration H) e.time e.event
unfolding accepts accepts_in
accepted-faultless duration H e h = faultless (replied duration H) e.time e.event (no-cause (cause_of (replied duration H) e.time e.event) h)

accepted-names : (duration : ℕ) (H : History) (e : Timed) → accepts duration H e ≡ true → NamesLive e.event (replied duration H)
accepted-names duration H e h = let w = accepted-faultless duration H e h in names-live (replied duration H) e.event w.opened

pub regular-names : (duration : ℕ) (H : History) → is_regular duration H ≡ true → AreNamedLive (replied duration H)
unfolding replied
regular-names duration [] h = tt
regular-names duration (e ∷ H) h =
    let w = regular-step duration e H h in
    (accepted-names duration H e w.1, regular-names duration H w.0)

-- ---- a frame that has a document was made

pub some-of : {A : Type 0} (o : Option A) → is_some o ≡ true → (x : A) × (o ≡ Some x)
some-of None h = cc
some-of (Some x) h = (x, refl)

pub live-last : (T : RepliedHistory) (f : ℕ) → is_live T f ≡ true → (d : ℕ) × (last_document T f ≡ Some d)
unfolding is_live
live-last T f h =
    let here : (d : ℕ) × (document_in T f ≡ Some d) = some-of (document_in T f) h in
    (here.0, (in-frame T f here.0 here.1).0)

framed-step : (s : Step) (T : RepliedHistory) (f d : ℕ) → NamesLive s.event T → ((g x : ℕ) → last_document T g ≡ Some x → is_frame T g ≡ true)
    → option_or (option_and_then (λ g. some_if (g == f) (suc (length T))) (document_frame s.event (suc (length T)))) (last_document T f) ≡ Some d
    → is_frame (s ∷ T) f ≡ true
framed-step s T f d live older h = by_event s.event refl live h
  where
    up : (g x : ℕ) → last_document T g ≡ Some x → is_frame (s ∷ T) g ≡ true
    up g x e =
        let was = older g x e in
        let within = frame-within T g was in
        let ne : g ≢ suc (length T) = omega (arith, within.1) in
        frame-other s T g ne ∙ was

    own : (b : Bool) → (suc (length T) == f) ≡ b → makes_frame s.event ≡ true → option_or (some_if b (suc (length T))) (last_document T f) ≡ Some d → is_frame (s ∷ T) f ≡ true
    own true is makes e = ap (is_frame (s ∷ T)) (sym (same-numbers (suc (length T)) f is)) ∙ frame-newest s T ∙ makes
    own false is makes e = up f d e

    again : (g : ℕ) → is_live T g ≡ true → (b : Bool) → (g == f) ≡ b → option_or (some_if b (suc (length T))) (last_document T f) ≡ Some d → is_frame (s ∷ T) f ≡ true
    again g live true is e = let last = live-last T g live in ap (is_frame (s ∷ T)) (sym (same-numbers g f is)) ∙ up g last.0 last.1
    again g live false is e = up f d e

    by_event : (e : Event) → s.event ≡ e → NamesLive e T
        → option_or (option_and_then (λ g. some_if (g == f) (suc (length T))) (document_frame e (suc (length T)))) (last_document T f) ≡ Some d
        → is_frame (s ∷ T) f ≡ true
    by_event (event.OpenPage url header) is live h = own (suc (length T) == f) refl (ap makes_frame is) h
    by_event (event.Embed parent src place allow sandbox fullscreen srcdoc header) is live h = own (suc (length T) == f) refl (ap makes_frame is) h
    by_event (event.Navigate g url header) is live h = again g live (g == f) refl h
    by_event e is live h = up f d h

pub framed : (T : RepliedHistory) → AreNamedLive T → (f d : ℕ) → last_document T f ≡ Some d → is_frame T f ≡ true
unfolding last_document newest_answer
framed [] live f d h = cc
framed (s ∷ T) live f d h = framed-step s T f d live.0 (framed T live.1) h

pub live-framed : (duration : ℕ) (H : History) (f : ℕ) → is_regular duration H ≡ true → is_live (replied duration H) f ≡ true → is_frame (replied duration H) f ≡ true
live-framed duration H f regular live =
    let last = live-last (replied duration H) f live in
    framed (replied duration H) (regular-names duration H regular) f last.0 last.1

pub live-made : (duration : ℕ) (H : History) (f : ℕ) → is_regular duration H ≡ true → is_live (replied duration H) f ≡ true → (1 ≤ f) × (f ≤ length (replied duration H))
live-made duration H f regular live =
    frame-within (replied duration H) f (live-framed duration H f regular live)

-- ---- a current document is the one of its frame

one-at-end : (xs : List ℕ) (x : ℕ) → list_any (λ f. f == x) (xs ++ x ∷ []) ≡ true
one-at-end [] x = rw (is_same x) refl
one-at-end (y ∷ xs) x = rw (one-at-end xs x) (or-true (y == x))

-- the frame of a document is one of those of its chain
pub own-frame : (T : RepliedHistory) (d : ℕ) (m : Making) → making T d ≡ Some m → list_any (λ f. f == frame_of T d) (frames_above T d) ≡ true
unfolding frames_above
own-frame T d m h = rw (chain-is T d m h, map-append (frame_of T) (chain_above T m) (d ∷ [])) (one-at-end (map (frame_of T) (chain_above T m)) (frame_of T d))

shown-new : (s : Step) (T : RepliedHistory) → is_current (s ∷ T) (suc (length T)) ≡ true → document_in (s ∷ T) (frame_of (s ∷ T) (suc (length T))) ≡ Some (suc (length T))
shown-new s T now =
    let made : (m : Making) × (making_by s.event T ≡ Some m) = some-of (making_by s.event T) (sym (current-newest s T) ∙ now) in
    let place : document_frame s.event (suc (length T)) ≡ Some made.0.frame = made-in-frame s T made.0 made.1 in
    ap (document_in (s ∷ T)) (frame-of-newest s T made.0.frame place) ∙ document-in-made s T made.0.frame place

shown-older : (s : Step) (T : RepliedHistory) (d : ℕ) → NamesLive s.event T → AreNamedLive T → d ≤ length T → (is_current T d && not (ends (frames_above T d) s.event)) ≡ true
    → document_in T (frame_of T d) ≡ Some d → document_in (s ∷ T) (frame_of T d) ≡ Some d
shown-older s T d live named h now here = by_frame (document_frame s.event (suc (length T))) refl
  where
    stays : not (ends (frames_above T d) s.event) ≡ true
    stays = (both (is_current T d) (not (ends (frames_above T d) s.event)) now).1

    left : left_in s T (document_in T (frame_of T d)) ≡ Some d
    left = ap (left_in s T) here ∙ ap (λ b. some_if b d) stays

    last : last_document T (frame_of T d) ≡ Some d
    last = (in-frame T (frame_of T d) d here).0

    within : frame_of T d ≤ length T
    within = (frame-within T (frame_of T d) (framed T named (frame_of T d) d last)).1

    made : (m : Making) × (making T d ≡ Some m)
    made = some-of (making T d) (current-made T d (both (is_current T d) (not (ends (frames_above T d) s.event)) now).0)

    -- a new frame is no older one, and an event that navigates the frame ends the document
    clash : (e : Event) → not (ends (frames_above T d) e) ≡ true → document_frame e (suc (length T)) ≡ Some (frame_of T d) → ⊥
    clash (event.OpenPage url header) stays is = let most : frame_of T d ≤ length T = within in let same : suc (length T) ≡ frame_of T d = cc in omega arith
    clash (event.Embed parent src place allow sandbox fullscreen srcdoc header) stays is = let most : frame_of T d ≤ length T = within in let same : suc (length T) ≡ frame_of T d = cc in omega arith
    clash (event.Navigate frame url header) stays is =
        let same : frame ≡ frame_of T d = cc in
        let ended : ends (frames_above T d) (event.Navigate frame url header) ≡ true = ap (λ x. list_any (λ f. f == x) (frames_above T d)) same ∙ own-frame T d made.0 made.1 in
        let no_stay : not true ≡ true = ap not (sym ended) ∙ stays in
        cc
    clash e stays is = cc

    by_place : (g : ℕ) → document_frame s.event (suc (length T)) ≡ Some g → (b : Bool) → (g == frame_of T d) ≡ b → document_in (s ∷ T) (frame_of T d) ≡ Some d
    by_place g is true same = absurd (clash s.event stays (is ∙ ap Some (same-numbers g (frame_of T d) same)))
    by_place g is false same =
        let ne : g ≢ frame_of T d = (λ e. let one : (g == frame_of T d) ≡ true = ap (λ x. g == x) (sym e) ∙ is_same g in cc) in
        document-in-beside s T (frame_of T d) g is ne ∙ left

    by_frame : (o : Option ℕ) → document_frame s.event (suc (length T)) ≡ o → document_in (s ∷ T) (frame_of T d) ≡ Some d
    by_frame None is = document-in-other s T (frame_of T d) is ∙ left
    by_frame (Some g) is = by_place g is (g == frame_of T d) refl

shown-step : (s : Step) (T : RepliedHistory) (d : ℕ) → NamesLive s.event T → AreNamedLive T → (is_current T d ≡ true → document_in T (frame_of T d) ≡ Some d)
    → is_current (s ∷ T) d ≡ true → document_in (s ∷ T) (frame_of (s ∷ T) d) ≡ Some d
shown-step s T d live named older now = by_test (d == suc (length T)) refl
  where
    by_test : (b : Bool) → (d == suc (length T)) ≡ b → document_in (s ∷ T) (frame_of (s ∷ T) d) ≡ Some d
    by_test true is =
        let here : d ≡ suc (length T) = same-numbers d (suc (length T)) is in
        rw here (shown-new s T (ap (is_current (s ∷ T)) (sym here) ∙ now))
    by_test false is =
        let ne : d ≢ suc (length T) = (λ e. let same : (d == suc (length T)) ≡ true = ap (λ x. d == x) (sym e) ∙ is_same d in cc) in
        let within = current-within (s ∷ T) d now in
        let h : d ≤ length T = omega (arith, within.1) in
        let both_now : (is_current T d && not (ends (frames_above T d) s.event)) ≡ true = sym (current-older s T d h) ∙ now in
        ap (document_in (s ∷ T)) (frame-of-other s T d ne)
        ∙ shown-older s T d live named h both_now (older (both (is_current T d) (not (ends (frames_above T d) s.event)) both_now).0)

pub shown : (T : RepliedHistory) → AreNamedLive T → (d : ℕ) → is_current T d ≡ true → document_in T (frame_of T d) ≡ Some d
shown [] named d now = let within = current-within [] d now in absurd (omega (arith, within.0, within.1))
shown (s ∷ T) named d now = shown-step s T d named.0 named.1 (shown T named.1 d) now

pub shown-in-frame : (duration : ℕ) (H : History) (d : ℕ) → is_regular duration H ≡ true → is_current (replied duration H) d ≡ true
    → document_in (replied duration H) (frame_of (replied duration H) d) ≡ Some d
shown-in-frame duration H d regular now = shown (replied duration H) (regular-names duration H regular) d now
