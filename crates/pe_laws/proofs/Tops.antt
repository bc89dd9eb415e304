-- The page of a document is a top frame, and the document that a life names is the top one of its page.
use Rattle.std.proofs.Common.{◌≡◌, ◌≢◌, inl, inr, ℕ, suc, ◌+◌, ◌≤◌, Bool, true, false, ◌==◌, List, [], ◌∷◌, ◌++◌, length, length-append, Option, Some, None, is_some, unwrap_or, option_map, option_and_then, refl, sym, ◌∙◌, ap, arith, subst}
use Rattle.std.proofs.lemmas.Bool.Decides.{nat_tests}
use Rattle.pe_base.specs.declared.limits.TheConstants.{EMBARGO_SPAN}
use Rattle.pe_features.specs.declared.feature.Feature.{Feature}
use Rattle.pe_features.specs.Features.{feature_named}
use Rattle.pe_store.specs.declared.key.Life.TheVariants as life
use Rattle.pe_events.specs.declared.event.Event.{Event}
use Rattle.pe_events.specs.declared.event.Event.TheVariants as event
use Rattle.pe_rules.specs.History.{Step, RepliedHistory, History, newest_answer, step_at}
use Rattle.pe_rules.specs.Numbering.{parent_frame}
use Rattle.pe_rules.specs.Making.{Making, making, frame_of}
use Rattle.pe_rules.specs.Embedders.{chain, first_or, top_document, page}
use Rattle.pe_rules.specs.Current.{is_current, document_in, is_live}
use Rattle.pe_rules.specs.Activation.{is_one_of}
use Rattle.pe_rules.specs.Settings.{Setting, asking, prompt_page, setting_named, setting_by}
use Rattle.pe_rules.specs.Replies.{replied, is_regular}
use Rattle.pe_laws.proofs.Numbers.{is_same}
use Rattle.pe_laws.proofs.Lists.{both}
use Rattle.pe_laws.proofs.Steps.{step-position}
use Rattle.pe_laws.proofs.Numbering.{parent-other, frame-within}
use Rattle.pe_laws.proofs.Embedders.{chain-is, above, top-top}
use Rattle.pe_laws.proofs.Current.{in-frame}
use Rattle.pe_laws.proofs.Lives.{answer-page, not-page}
use Rattle.pe_laws.proofs.NewSettings.{ByWay, by-way, set-life, answer-life}
use Rattle.pe_laws.proofs.PendingPrompts.{prompt-page-older, prompt-page-newest}
use Rattle.pe_laws.proofs.Shown.{AreNamedLive, regular-names, some-of, live-last, framed, shown}
use Rattle.pe_laws.proofs.Tree.{tree-of}

-- ---- the first of a chain

-- the first of a list that is not empty
record HasFirst (xs : List ℕ) : Type 0 where
  pub first : ℕ
  pub rest : List ℕ
  pub is : xs ≡ first ∷ rest

with-last : (xs : List ℕ) (d : ℕ) → HasFirst (xs ++ d ∷ [])
with-last [] d = record { first = d; rest = []; is = refl }
with-last (x ∷ xs) d = record { first = x; rest = xs ++ d ∷ []; is = refl }

first-one : (x : ℕ) (xs : List ℕ) → is_one_of (x ∷ xs) x ≡ true
first-one x xs = rw (is_same x) refl

made : (T : RepliedHistory) (d : ℕ) → is_current T d ≡ true → (m : Making) × (making T d ≡ Some m)
unfolding is_current
made T d now = some-of (making T d) (both (is_some (making T d)) _ now).0

chain-first : (T : RepliedHistory) (d : ℕ) → is_current T d ≡ true → HasFirst (chain T d)
chain-first T d now =
    let m = made T d now in
    let first = with-last (unwrap_or (option_map (chain T) m.0.embedder) []) d in
    record { first = first.first; rest = first.rest; is = chain-is T d m.0 m.1 ∙ first.is }

top-first : (T : RepliedHistory) (d x : ℕ) (xs : List ℕ) → chain T d ≡ x ∷ xs → top_document T d ≡ x
unfolding top_document
top-first T d x xs is = ap (first_or d) is

live-frame : (T : RepliedHistory) (f d : ℕ) → document_in T f ≡ Some d → is_live T f ≡ true
unfolding is_live
live-frame T f d h = ap is_some h

live-document : (T : RepliedHistory) (f : ℕ) → is_live T f ≡ true → (d : ℕ) × (document_in T f ≡ Some d)
unfolding is_live
live-document T f h = some-of (document_in T f) h

-- ---- the page of a current document

-- a document that is its own top document stands in a top frame
frame-top : (T : RepliedHistory) → AreNamedLive T → (f d : ℕ) → document_in T f ≡ Some d → top_document T d ≡ d → parent_frame T f ≡ None
frame-top T named f d shows top = by_parent (parent_frame T f) refl
  where
    by_parent : (o : Option ℕ) → parent_frame T f ≡ o → o ≡ None
    by_parent None is = refl
    by_parent (Some g) is =
        let tree = tree-of T named in
        let p = live-document T g (tree.parent_live f g (live-frame T f d shows) is) in
        let hangs : chain T d ≡ chain T p.0 ++ d ∷ [] = tree.hangs f d shows ∙ ap (λ o. unwrap_or (option_map (chain T) (option_and_then (document_in T) o)) [] ++ d ∷ []) is ∙ ap (λ o. unwrap_or (option_map (chain T) o) [] ++ d ∷ []) p.1 in
        let first = chain-first T p.0 (in-frame T g p.0 p.1).1 in
        let same : first.first ≡ d = sym (top-first T d first.first (first.rest ++ d ∷ []) (hangs ∙ ap (λ xs. xs ++ d ∷ []) first.is)) ∙ top in
        let member : is_one_of (chain T p.0) d ≡ true = ap (λ xs. is_one_of xs d) first.is ∙ ap (λ x. is_one_of (x ∷ first.rest) d) same ∙ first-one d first.rest in
        let front = (above T p.0 d member).front in
        let long = ap length front.1 ∙ length-append (chain T d) front.0 in
        let longer = ap length hangs ∙ length-append (chain T p.0) (d ∷ []) in
        absurd (omega (arith, long, longer))

-- a top frame, which was made in these steps
pub record IsTopFrame (T : RepliedHistory) (f : ℕ) : Type 0 where
  pub top : parent_frame T f ≡ None
  pub within : f ≤ length T

pub page-top : (T : RepliedHistory) → AreNamedLive T → (d : ℕ) → is_current T d ≡ true → IsTopFrame T (page T d)
unfolding page
page-top T named d now =
    let first = chain-first T d now in
    let is = top-first T d first.first first.rest first.is in
    let member : is_one_of (chain T d) (top_document T d) ≡ true = ap (λ xs. is_one_of xs (top_document T d)) first.is ∙ ap (is_one_of (first.first ∷ first.rest)) is ∙ first-one first.first first.rest in
    let top_now = (tree-of T named).above_current d (top_document T d) now member in
    let shows = shown T named (top_document T d) top_now in
    let last = live-last T (frame_of T (top_document T d)) (live-frame T (frame_of T (top_document T d)) (top_document T d) shows) in
    record {
      top = frame-top T named (frame_of T (top_document T d)) (top_document T d) shows (top-top T d);
      within = (frame-within T (frame_of T (top_document T d)) (framed T named (frame_of T (top_document T d)) last.0 last.1)).1;
    }

-- ---- the page of a prompt

asking-now : (e : Event) (T : RepliedHistory) (q : ℕ × Feature) → asking e T ≡ Some q → is_current T q.0 ≡ true
asking-now (event.Request frame feature) T q h = by_document (document_in T frame) refl h
  where
    by_feature : (d : ℕ) → document_in T frame ≡ Some d → (o : Option Feature) → option_map (λ f. (d, f)) o ≡ Some q → is_current T q.0 ≡ true
    by_feature d shows None k = cc
    by_feature d shows (Some f) k =
        let same : d ≡ q.0 = ap (λ (o : Option (ℕ × Feature)). unwrap_or (option_map (λ (p : ℕ × Feature). p.0) o) d) k in
        ap (is_current T) (sym same) ∙ (in-frame T frame d shows).1

    by_document : (o : Option ℕ) → document_in T frame ≡ o → option_and_then (λ d. option_map (λ f. (d, f)) (feature_named feature)) o ≡ Some q → is_current T q.0 ≡ true
    by_document None shows k = cc
    by_document (Some d) shows k = by_feature d shows (feature_named feature) k
asking-now e T q h = cc

older-top : (s : Step) (T : RepliedHistory) (f : ℕ) → IsTopFrame T f → IsTopFrame (s ∷ T) f
older-top s T f is = let ne : f ≢ suc (length T) = omega (arith, is.within) in record { top = parent-other s T f ne ∙ is.top; within = omega (arith, is.within) }

page-asked : (T : RepliedHistory) → AreNamedLive T → (e : Event) (f : ℕ) (o : Option (ℕ × Feature)) → asking e T ≡ o → option_map (λ (q : ℕ × Feature). page T q.0) o ≡ Some f → IsTopFrame T f
page-asked T named e f None asks h = cc
page-asked T named e f (Some q) asks h =
    let same : page T q.0 ≡ f = ap (λ o. unwrap_or o (page T q.0)) h in
    subst (IsTopFrame T) same (page-top T named q.0 (asking-now e T q asks))

no-step : (T : RepliedHistory) (k f : ℕ) → step_at T k ≡ None → prompt_page T k ≡ Some f → ⊥
unfolding prompt_page
no-step T k f none h = let absent : ◌≡◌ {A = Option ℕ} None (Some f) = sym (ap (option_and_then (λ a. option_map (λ q. page a.1 q.0) (asking a.0.event a.1))) none) ∙ h in cc

page-step : (s : Step) (T : RepliedHistory) → AreNamedLive T → (k f : ℕ) → (prompt_page T k ≡ Some f → IsTopFrame T f) → prompt_page (s ∷ T) k ≡ Some f → IsTopFrame (s ∷ T) f
page-step s T named k f older h = by_step (step_at (s ∷ T) k) refl
  where
    by_newest : (b : Bool) → (k == suc (length T)) ≡ b → k ≤ suc (length T) → IsTopFrame (s ∷ T) f
    by_newest true is le =
        let e : k ≡ suc (length T) = grind (arith, nat_tests) in
        older-top s T f (page-asked T named s.event f (asking s.event T) refl (sym (prompt-page-newest s T) ∙ ap (prompt_page (s ∷ T)) (sym e) ∙ h))
    by_newest false is le =
        let ne : k ≢ suc (length T) = grind (arith, nat_tests) in
        older-top s T f (older (sym (prompt-page-older s T k (omega (arith, le, ne))) ∙ h))

    by_step : (o : Option (Step × RepliedHistory)) → step_at (s ∷ T) k ≡ o → IsTopFrame (s ∷ T) f
    by_step None is = absurd (no-step (s ∷ T) k f is h)
    by_step (Some a) is = by_newest (k == suc (length T)) refl (step-position (s ∷ T) k a is).1

none-asked : (k f : ℕ) → prompt_page [] k ≡ Some f → ⊥
unfolding prompt_page step_at newest_answer
none-asked k f h = cc

pub prompt-top : (T : RepliedHistory) → AreNamedLive T → (k f : ℕ) → prompt_page T k ≡ Some f → IsTopFrame T f
prompt-top [] named k f h = absurd (none-asked k f h)
prompt-top (s ∷ T) named k f h = page-step s T named.1 k f (prompt-top T named.1 k f) h

-- ---- the document that a life names

top-chain : (T : RepliedHistory) → AreNamedLive T → (o : Option ℕ) (d : ℕ) → ((f : ℕ) → o ≡ Some f → parent_frame T f ≡ None) → option_and_then (document_in T) o ≡ Some d → chain T d ≡ d ∷ []
top-chain T named None d top h = cc
top-chain T named (Some f) d top h = (tree-of T named).hangs f d h ∙ ap (λ o. unwrap_or (option_map (chain T) (option_and_then (document_in T) o)) [] ++ d ∷ []) (top f refl)

named-top : (time : ℕ) (e : Event) (T : RepliedHistory) → AreNamedLive T → (x : Setting) (d : ℕ) → setting_named time e T ≡ Some x → x.life ≡ life.Page d → chain T d ≡ d ∷ []
unfolding setting_named
named-top time (event.SetState feature first second stored span) T named x d h is = absurd (not-page time span d (sym (set-life time feature first second stored span T x h) ∙ is))
named-top time (event.Answered prompt out given) T named x d h is =
    top-chain T named (prompt_page T prompt) d (λ f page. (prompt-top T named prompt f page).top)
    (answer-page time given (option_and_then (document_in T) (prompt_page T prompt)) d (sym (answer-life time prompt out given T x h).1 ∙ is))
named-top time e T named x d h is = cc

pub life-top : (duration : ℕ) (H : History) (time : ℕ) (e : Event) (x : Setting) (d : ℕ) → is_regular duration H ≡ true → setting_by time e (replied duration H) ≡ Some x → x.life ≡ life.Page d
    → chain (replied duration H) d ≡ d ∷ []
life-top duration H time e x d regular h is = by_way (by-way time e (replied duration H) x h)
  where
    by_way : ByWay time e (replied duration H) x → chain (replied duration H) d ≡ d ∷ []
    by_way (inl made) = named-top time e (replied duration H) (regular-names duration H regular) x d made is
    by_way (inr embargo) = let no : life.Until (time + EMBARGO_SPAN) ≡ life.Page d = sym embargo ∙ is in cc

pub page-is-top : (duration : ℕ) (H : History) (d : ℕ) → is_regular duration H ≡ true → is_current (replied duration H) d ≡ true → parent_frame (replied duration H) (page (replied duration H) d) ≡ None
page-is-top duration H d regular now = (page-top (replied duration H) (regular-names duration H regular) d now).top
