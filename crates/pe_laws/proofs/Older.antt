-- What a newer step leaves of the older documents.
use Rattle.std.proofs.Common.{◌≡◌, ◌≢◌, ℕ, suc, ◌≤◌, Bool, true, false, ◌==◌, List, [], ◌∷◌, ◌++◌, length, map, Option, Some, None, unwrap_or, option_map, option_and_then, refl, ◌∙◌, ap, arith, cond}
use Rattle.std.specs.Option.{option_or}
use Rattle.pe_features.specs.declared.feature.Feature.{Feature}
use Rattle.pe_allowlist.specs.Lists.{no_lists}
use Rattle.pe_events.specs.declared.event.Event.{Event}
use Rattle.pe_events.specs.declared.event.Event.TheVariants as event
use Rattle.pe_rules.specs.History.{Step, RepliedHistory, some_if, newest_answer}
use Rattle.pe_rules.specs.Numbering.{last_document, document_frame, parent_frame}
use Rattle.pe_rules.specs.Making.{Making, making_by, making, fold_embedders, frame_of}
use Rattle.pe_rules.specs.Embedders.{chain}
use Rattle.pe_rules.specs.Origins.{origin_of, sandbox_flag}
use Rattle.pe_rules.specs.Denials.{declared_policy_in, container_in, container_policy_in, chain_document, chain_documents, why_denied}
use Rattle.pe_laws.proofs.Numbers.{not_same}

pub along-older : {A : Type 0} (other : A) (rule : RepliedHistory → Making → Option A → A) (s : Step) (T : RepliedHistory) (d : ℕ) → d ≤ length T
    → fold_embedders other rule (s ∷ T) d ≡ fold_embedders other rule T d
unfolding fold_embedders
along-older other rule s T d h = let ne : d ≢ suc (length T) = omega arith in rw (not_same d (suc (length T)) ne) refl

pub origin-older : (s : Step) (T : RepliedHistory) (d : ℕ) → d ≤ length T → origin_of (s ∷ T) d ≡ origin_of T d
unfolding origin_of
origin-older s T d h = along-older _ _ s T d h

pub chain-older : (s : Step) (T : RepliedHistory) (d : ℕ) → d ≤ length T → chain (s ∷ T) d ≡ chain T d
unfolding chain
chain-older s T d h = along-older _ _ s T d h

pub flag-older : (s : Step) (T : RepliedHistory) (d : ℕ) → d ≤ length T → sandbox_flag (s ∷ T) d ≡ sandbox_flag T d
unfolding sandbox_flag
flag-older s T d h = along-older _ _ s T d h

pub making-older : (s : Step) (T : RepliedHistory) (d : ℕ) → d ≤ length T → making (s ∷ T) d ≡ making T d
unfolding making newest_answer
making-older s T d h = let ne : d ≢ suc (length T) = omega arith in rw (not_same d (suc (length T)) ne) refl

pub declared-older : (s : Step) (T : RepliedHistory) (d : ℕ) → d ≤ length T → declared_policy_in (s ∷ T) d ≡ declared_policy_in T d
unfolding declared_policy_in
declared-older s T d h = rw (making-older s T d h, origin-older s T d h) refl

pub frame-older : (s : Step) (T : RepliedHistory) (d : ℕ) → d ≤ length T → frame_of (s ∷ T) d ≡ frame_of T d
unfolding frame_of
frame-older s T d h = rw (making-older s T d h) refl

-- ---- the embedder of a document is older than it

-- an event that has a frame makes a document there
pub frame-makes : (e : Event) (T : RepliedHistory) (k g : ℕ) → document_frame e k ≡ Some g → (m : Making) × (making_by e T ≡ Some m)
unfolding making_by
frame-makes (event.OpenPage url header) T k g h = (_, refl)
frame-makes (event.Embed parent src place allow sandbox fullscreen srcdoc header) T k g h = (_, refl)
frame-makes (event.Navigate frame url header) T k g h = (_, refl)
frame-makes e T k g h = cc

pub last-document-step : (s : Step) (T : RepliedHistory) (f : ℕ)
    → last_document (s ∷ T) f ≡ option_or (option_and_then (λ g. some_if (g == f) (suc (length T))) (document_frame s.event (suc (length T)))) (last_document T f)
unfolding last_document newest_answer
last-document-step s T f = refl

last-step : (T : RepliedHistory) (f d : ℕ) → (last_document T f ≡ Some d → d ≤ length T) → (o : Option ℕ)
    → option_or (option_and_then (λ g. some_if (g == f) (suc (length T))) o) (last_document T f) ≡ Some d → d ≤ suc (length T)
last-step T f d older None h = omega (arith, older h)
last-step T f d older (Some g) h = by_test (g == f) h
  where
    by_test : (b : Bool) → option_or (some_if b (suc (length T))) (last_document T f) ≡ Some d → d ≤ suc (length T)
    by_test true h = let e : suc (length T) ≡ d = cc in omega arith
    by_test false h = omega (arith, older h)

pub last-below : (T : RepliedHistory) (f d : ℕ) → last_document T f ≡ Some d → d ≤ length T
unfolding last_document newest_answer
last-below [] f d h = cc
last-below (s ∷ T) f d h = last-step T f d (last-below T f d) (document_frame s.event (suc (length T))) h

embedder-by : (m : Option Making) (n : Making) → m ≡ Some n → option_and_then (λ m. m.embedder) m ≡ n.embedder
embedder-by m n h = ap (option_and_then (λ (m : Making). m.embedder)) h

-- the embedder of a document that an event makes was there before it
pub embedder-before : (e : Event) (T : RepliedHistory) (m : Making) (p : ℕ) → making_by e T ≡ Some m → m.embedder ≡ Some p → p ≤ length T
unfolding making_by
embedder-before (event.OpenPage url header) T m p h is = let k : ◌≡◌ {A = Option ℕ} None (Some p) = embedder-by _ m h ∙ is in cc
embedder-before (event.Embed parent src place allow sandbox fullscreen srcdoc header) T m p h is = last-below T parent p (embedder-by _ m h ∙ is)
embedder-before (event.Navigate frame url header) T m p h is = by_parent (parent_frame T frame) (embedder-by _ m h ∙ is)
  where
    by_parent : (o : Option ℕ) → option_and_then (last_document T) o ≡ Some p → p ≤ length T
    by_parent None h = cc
    by_parent (Some f) h = last-below T f p h
embedder-before e T m p h is = cc

embedder-step : (s : Step) (T : RepliedHistory) (d : ℕ) (m : Making) (p : ℕ) → (making T d ≡ Some m → p ≤ length T) → m.embedder ≡ Some p → (b : Bool)
    → option_or (cond b (making_by s.event T) None) (making T d) ≡ Some m → p ≤ suc (length T)
embedder-step s T d m p older is false h = omega (arith, older h)
embedder-step s T d m p older is true h = by_made (making_by s.event T) refl h
  where
    by_made : (o : Option Making) → making_by s.event T ≡ o → option_or o (making T d) ≡ Some m → p ≤ suc (length T)
    by_made None e h = omega (arith, older h)
    by_made (Some n) e h = omega (arith, embedder-before s.event T m p (e ∙ h) is)

pub embedder-below : (T : RepliedHistory) (d : ℕ) (m : Making) (p : ℕ) → making T d ≡ Some m → m.embedder ≡ Some p → p ≤ length T
unfolding making newest_answer
embedder-below [] d m p h is = cc
embedder-below (s ∷ T) d m p h is = embedder-step s T d m p (λ e. embedder-below T d m p e is) is (d == suc (length T)) h

container-in-older : (s : Step) (T : RepliedHistory) (m : Making) (p : ℕ) → p ≤ length T → container_in (s ∷ T) m p ≡ container_in T m p
unfolding container_in
container-in-older s T m p h = rw (origin-older s T p h, flag-older s T p h) refl

pub container-older : (s : Step) (T : RepliedHistory) (d : ℕ) → d ≤ length T → container_policy_in (s ∷ T) d ≡ container_policy_in T d
unfolding container_policy_in
container-older s T d h = rw (making-older s T d h) (ap (λ o. unwrap_or o no_lists) (by_making (making T d) (λ m p e is. embedder-below T d m p e is)))
  where
    by_embedder : (m : Making) (o : Option ℕ) → ((p : ℕ) → o ≡ Some p → p ≤ length T) → option_map (container_in (s ∷ T) m) o ≡ option_map (container_in T m) o
    by_embedder m None below = refl
    by_embedder m (Some p) below = rw (container-in-older s T m p (below p refl)) refl

    by_making : (o : Option Making) → ((m : Making) (p : ℕ) → o ≡ Some m → m.embedder ≡ Some p → p ≤ length T)
        → option_and_then (λ m. option_map (container_in (s ∷ T) m) m.embedder) o ≡ option_and_then (λ m. option_map (container_in T m) m.embedder) o
    by_making None below = refl
    by_making (Some m) below = by_embedder m m.embedder (λ p is. below m p refl is)

-- ---- the chain of embedders

-- each number of the list is at most this one
abbrev pub AllWithin : ℕ → List ℕ → Type 0
AllWithin n [] = Unit {0}
AllWithin n (d ∷ ds) = (d ≤ n) × AllWithin n ds

pub within-more : (n : ℕ) (ds : List ℕ) → AllWithin n ds → AllWithin (suc n) ds
within-more n [] h = tt
within-more n (d ∷ ds) h = (omega (arith, h.0), within-more n ds h.1)

pub within-end : (n d : ℕ) (ds : List ℕ) → AllWithin n ds → d ≤ n → AllWithin n (ds ++ d ∷ [])
within-end n d [] h e = (e, tt)
within-end n d (x ∷ ds) h e = (h.0, within-end n d ds h.1 e)

chain-step : (T : RepliedHistory) → ((d : ℕ) → AllWithin (length T) (chain T d)) → (b : Bool) (o : Option Making) (d : ℕ)
    → AllWithin (suc (length T)) (cond b (unwrap_or (option_map (λ m. unwrap_or (option_map (chain T) m.embedder) [] ++ suc (length T) ∷ []) o) []) (chain T d))
chain-step T older false o d = within-more (length T) (chain T d) (older d)
chain-step T older true None d = tt
chain-step T older true (Some m) d = by_embedder m.embedder
  where
    by_embedder : (e : Option ℕ) → AllWithin (suc (length T)) (unwrap_or (option_map (chain T) e) [] ++ suc (length T) ∷ [])
    by_embedder None = (omega arith, tt)
    by_embedder (Some p) = within-end (suc (length T)) (suc (length T)) (chain T p) (within-more (length T) (chain T p) (older p)) (omega arith)

-- the documents of a chain were all made in the history
pub chain-within : (T : RepliedHistory) (d : ℕ) → AllWithin (length T) (chain T d)
unfolding chain fold_embedders
chain-within [] d = tt
chain-within (s ∷ T) d = chain-step T (chain-within T) (d == suc (length T)) (making_by s.event T) d

pub link-older : (s : Step) (T : RepliedHistory) (d : ℕ) → d ≤ length T → chain_document (s ∷ T) d ≡ chain_document T d
unfolding chain_document
link-older s T d h = rw (origin-older s T d h, declared-older s T d h, container-older s T d h) refl

map-link-older : (s : Step) (T : RepliedHistory) (ds : List ℕ) → AllWithin (length T) ds → map (chain_document (s ∷ T)) ds ≡ map (chain_document T) ds
map-link-older s T [] h = refl
map-link-older s T (d ∷ ds) h = rw (link-older s T d h.0, map-link-older s T ds h.1) refl

pub links-older : (s : Step) (T : RepliedHistory) (d : ℕ) → d ≤ length T → chain_documents (s ∷ T) d ≡ chain_documents T d
unfolding chain_documents
links-older s T d h = rw (chain-older s T d h) (map-link-older s T (chain T d) (chain-within T d))

pub why-older : (s : Step) (T : RepliedHistory) (f : Feature) (d : ℕ) → d ≤ length T → why_denied (s ∷ T) f d ≡ why_denied T f d
unfolding why_denied
why-older s T f d h = rw (links-older s T d h) refl
