-- Where the table of effects says no, what the step leaves.
use Rattle.std.proofs.Common.{◌≡◌, ◌≢◌, ℕ, suc, ◌<◌, ◌≤◌, Bool, true, false, ◌&&◌, ◌==◌, nat_le, List, [], ◌∷◌, ◌++◌, length, filter, Option, Some, None, is_some, is_none, unwrap_or, option_map, option_and_then, refl, sym, ◌∙◌, ap, arith, cond}
use Rattle.std.specs.Option.{option_or}
use Rattle.std.proofs.lemmas.Bool.Decides.{nat_tests}
use Rattle.std.proofs.lemmas.List.Elements.{filter-append}
use Rattle.pe_features.specs.declared.feature.Feature.{Feature}
use Rattle.pe_allowlist.specs.Lists.{no_lists}
use Rattle.pe_events.specs.declared.event.AttrName.{AttrName}
use Rattle.pe_events.specs.declared.event.Event.{Event}
use Rattle.pe_events.specs.declared.event.Event.TheVariants as event
use Rattle.pe_rules.specs.History.{StepAnswer, Step, RepliedHistory, some_if, newest_answer}
use Rattle.pe_rules.specs.Numbering.{makes_frame, document_frame, is_frame, frames_made, documents_made, last_document, parent_by, parent_frame}
use Rattle.pe_rules.specs.Making.{Making, making_by, making, fold_embedders, frame_of}
use Rattle.pe_rules.specs.Embedders.{chain, top_document, page, page_of_frame, depth}
use Rattle.pe_rules.specs.Current.{ends, frames_above, is_current, document_in, is_live}
use Rattle.pe_rules.specs.Attributes.{attribute_by, attribute, attributes_of}
use Rattle.pe_rules.specs.Origins.{origin_of, sandbox_flag, is_secure}
use Rattle.pe_rules.specs.Denials.{declared_policy_in, container_in, container_policy_in, chain_document, chain_documents, why_denied}
use Rattle.pe_rules.specs.Causes.{is_same_number, live_pages, live_frames}
use Rattle.pe_laws.specs.Effects.{effects}
use Rattle.pe_laws.specs.EffectsLaws.{effects_of, frame_added}
use Rattle.pe_laws.proofs.Numbers.{not_same, same-numbers}
use Rattle.pe_laws.proofs.Lists.{map-same, then-same, each-same}
use Rattle.pe_laws.proofs.Older.{AllWithin, last-document-step, last-below, chain-older}
use Rattle.pe_laws.proofs.Numbering.{frames-step, frames-within, documents-step, made-none, parent-other}
use Rattle.pe_laws.proofs.Attributes.{attribute-stays, attributes-stay}
use Rattle.pe_laws.proofs.Making.{making-beyond, along-unmade}
use Rattle.pe_laws.proofs.Embedders.{page-older}
use Rattle.pe_laws.proofs.Current.{and-true, current-older, unmade-current}

-- ---- what the table says of an event

no-frame : (e : Event) (item : StepAnswer) → (effects e item).makes_frame ≡ false → makes_frame e ≡ false
no-frame (event.OpenPage url header) item h = h
no-frame (event.Embed parent src place allow sandbox fullscreen srcdoc header) item h = h
no-frame e item h = refl

no-parent : (e : Event) (item : StepAnswer) → (effects e item).makes_frame ≡ false → parent_by e ≡ None
no-parent (event.Embed parent src place allow sandbox fullscreen srcdoc header) item h = cc
no-parent e item h = refl

-- an event that makes no document makes no frame
frameless : (e : Event) (item : StepAnswer) → (effects e item).makes_document ≡ false → (effects e item).makes_frame ≡ false
frameless (event.OpenPage url header) item h = h
frameless (event.Embed parent src place allow sandbox fullscreen srcdoc header) item h = h
frameless e item h = refl

no-making : (e : Event) (item : StepAnswer) (T : RepliedHistory) → (effects e item).makes_document ≡ false → making_by e T ≡ None
unfolding making_by
no-making (event.OpenPage url header) item T h = cc
no-making (event.Embed parent src place allow sandbox fullscreen srcdoc header) item T h = cc
no-making (event.Navigate frame url header) item T h = cc
no-making e item T h = refl

no-document : (e : Event) (item : StepAnswer) (k : ℕ) → (effects e item).makes_document ≡ false → document_frame e k ≡ None
no-document (event.OpenPage url header) item k h = cc
no-document (event.Embed parent src place allow sandbox fullscreen srcdoc header) item k h = cc
no-document (event.Navigate frame url header) item k h = cc
no-document e item k h = refl

no-attribute : (e : Event) (item : StepAnswer) (k f : ℕ) (name : AttrName) → (effects e item).gives_attribute ≡ false → attribute_by e k f name ≡ None
no-attribute (event.Attr frame given value) item k f name h = cc
no-attribute (event.Embed parent src place allow sandbox fullscreen srcdoc header) item k f name h = cc
no-attribute e item k f name h = refl

pub no-end : (e : Event) (item : StepAnswer) (frames : List ℕ) → (effects e item).ends_documents ≡ false → ends frames e ≡ false
no-end (event.Navigate frame url header) item frames h = cc
no-end (event.Close frame) item frames h = cc
no-end e item frames h = refl

own : (k f : ℕ) → k ≢ f → some_if (k == f) k ≡ None
own k f ne = rw (not_same k f ne) refl

-- an event that ends no document makes one in a frame of its own number at most
in-own : (e : Event) (item : StepAnswer) (k f : ℕ) → (effects e item).ends_documents ≡ false → k ≢ f → option_and_then (λ g. some_if (g == f) k) (document_frame e k) ≡ None
in-own (event.OpenPage url header) item k f h ne = own k f ne
in-own (event.Embed parent src place allow sandbox fullscreen srcdoc header) item k f h ne = own k f ne
in-own (event.Navigate frame url header) item k f h ne = cc
in-own e item k f h ne = refl

-- ---- a step that makes no frame

pub is-frame-stays : (s : Step) (T : RepliedHistory) (k : ℕ) → (effects_of s).makes_frame ≡ false → is_frame (s ∷ T) k ≡ is_frame T k
unfolding is_frame
is-frame-stays s T k h = made-none (λ s. makes_frame s.event) s T k (no-frame s.event s.item h)

pub frames-made-stay : (s : Step) (T : RepliedHistory) → (effects_of s).makes_frame ≡ false → frames_made (s ∷ T) ≡ frames_made T
frames-made-stay s T h = frames-step s T ∙ rw (no-frame s.event s.item h) refl

pub parent-frame-stays : (s : Step) (T : RepliedHistory) (f : ℕ) → (effects_of s).makes_frame ≡ false → parent_frame (s ∷ T) f ≡ parent_frame T f
unfolding parent_frame newest_answer
parent-frame-stays s T f h = rw (no-parent s.event s.item h) (by_test (f == suc (length T)))
  where
    by_test : (b : Bool) → option_or (cond b None None) (parent_frame T f) ≡ parent_frame T f
    by_test true = refl
    by_test false = refl

-- ---- a step that makes no document

pub documents-made-stay : (s : Step) (T : RepliedHistory) → (effects_of s).makes_document ≡ false → documents_made (s ∷ T) ≡ documents_made T
documents-made-stay s T h = documents-step s T ∙ rw (no-document s.event s.item 0 h) refl

pub last-document-stays : (s : Step) (T : RepliedHistory) (f : ℕ) → (effects_of s).makes_document ≡ false → last_document (s ∷ T) f ≡ last_document T f
last-document-stays s T f h = last-document-step s T f ∙ rw (no-document s.event s.item (suc (length T)) h) refl

pub making-stays : (s : Step) (T : RepliedHistory) (d : ℕ) → (effects_of s).makes_document ≡ false → making (s ∷ T) d ≡ making T d
unfolding making newest_answer
making-stays s T d h = rw (no-making s.event s.item T h) (by_test (d == suc (length T)))
  where
    by_test : (b : Bool) → option_or (cond b None None) (making T d) ≡ making T d
    by_test true = refl
    by_test false = refl

pub frame-of-stays : (s : Step) (T : RepliedHistory) (d : ℕ) → (effects_of s).makes_document ≡ false → frame_of (s ∷ T) d ≡ frame_of T d
unfolding frame_of
frame-of-stays s T d h = rw (making-stays s T d h) refl

along-stays : {A : Type 0} (other : A) (rule : RepliedHistory → Making → Option A → A) (s : Step) (T : RepliedHistory) (d : ℕ) → (effects_of s).makes_document ≡ false
    → fold_embedders other rule (s ∷ T) d ≡ fold_embedders other rule T d
unfolding fold_embedders
along-stays other rule s T d h = rw (no-making s.event s.item T h) (by_test (d == suc (length T)) refl)
  where
    by_test : (b : Bool) → (d == suc (length T)) ≡ b → cond b other (fold_embedders other rule T d) ≡ fold_embedders other rule T d
    by_test true is =
        let here : d ≡ suc (length T) = same-numbers d (suc (length T)) is in
        sym (along-unmade other rule T d (making-beyond T d (omega arith)))
    by_test false is = refl

pub chain-stays : (s : Step) (T : RepliedHistory) (d : ℕ) → (effects_of s).makes_document ≡ false → chain (s ∷ T) d ≡ chain T d
unfolding chain
chain-stays s T d h = along-stays _ _ s T d h

pub top-stays : (s : Step) (T : RepliedHistory) (d : ℕ) → (effects_of s).makes_document ≡ false → top_document (s ∷ T) d ≡ top_document T d
unfolding top_document
top-stays s T d h = rw (chain-stays s T d h) refl

pub page-stays : (s : Step) (T : RepliedHistory) (d : ℕ) → (effects_of s).makes_document ≡ false → page (s ∷ T) d ≡ page T d
unfolding page
page-stays s T d h = rw (top-stays s T d h) (frame-of-stays s T (top_document T d) h)

pub page-of-frame-stays : (s : Step) (T : RepliedHistory) (f : ℕ) → (effects_of s).makes_document ≡ false → page_of_frame (s ∷ T) f ≡ page_of_frame T f
unfolding page_of_frame
page-of-frame-stays s T f h = rw (last-document-stays s T f h) (map-same (page (s ∷ T)) (page T) (last_document T f) (λ d is. page-stays s T d h))

pub depth-stays : (s : Step) (T : RepliedHistory) (f : ℕ) → (effects_of s).makes_document ≡ false → depth (s ∷ T) f ≡ depth T f
unfolding depth
depth-stays s T f h =
    rw (last-document-stays s T f h)
    (ap (λ o. unwrap_or o 0) (map-same (λ d. length (chain (s ∷ T) d)) (λ d. length (chain T d)) (last_document T f) (λ d is. ap length (chain-stays s T d h))))

pub frames-above-stay : (s : Step) (T : RepliedHistory) (d : ℕ) → (effects_of s).makes_document ≡ false → frames_above (s ∷ T) d ≡ frames_above T d
unfolding frames_above
frames-above-stay s T d h = rw (chain-stays s T d h) (each-same (frame_of (s ∷ T)) (frame_of T) (chain T d) (λ p. frame-of-stays s T p h))

pub origin-stays : (s : Step) (T : RepliedHistory) (d : ℕ) → (effects_of s).makes_document ≡ false → origin_of (s ∷ T) d ≡ origin_of T d
unfolding origin_of
origin-stays s T d h = along-stays _ _ s T d h

pub flag-stays : (s : Step) (T : RepliedHistory) (d : ℕ) → (effects_of s).makes_document ≡ false → sandbox_flag (s ∷ T) d ≡ sandbox_flag T d
unfolding sandbox_flag
flag-stays s T d h = along-stays _ _ s T d h

pub secure-stays : (s : Step) (T : RepliedHistory) (d : ℕ) → (effects_of s).makes_document ≡ false → is_secure (s ∷ T) d ≡ is_secure T d
unfolding is_secure
secure-stays s T d h = rw (top-stays s T d h, making-stays s T (top_document T d) h) refl

pub declared-stay : (s : Step) (T : RepliedHistory) (d : ℕ) → (effects_of s).makes_document ≡ false → declared_policy_in (s ∷ T) d ≡ declared_policy_in T d
unfolding declared_policy_in
declared-stay s T d h = rw (making-stays s T d h, origin-stays s T d h) refl

container-in-stays : (s : Step) (T : RepliedHistory) (m : Making) (p : ℕ) → (effects_of s).makes_document ≡ false → container_in (s ∷ T) m p ≡ container_in T m p
unfolding container_in
container-in-stays s T m p h = rw (origin-stays s T p h, flag-stays s T p h) refl

pub container-stay : (s : Step) (T : RepliedHistory) (d : ℕ) → (effects_of s).makes_document ≡ false → container_policy_in (s ∷ T) d ≡ container_policy_in T d
unfolding container_policy_in
container-stay s T d h =
    rw (making-stays s T d h)
    (ap (λ o. unwrap_or o no_lists)
    (then-same (λ m. option_map (container_in (s ∷ T) m) m.embedder) (λ m. option_map (container_in T m) m.embedder) (making T d)
    (λ m is. map-same (container_in (s ∷ T) m) (container_in T m) m.embedder (λ p of. container-in-stays s T m p h))))

link-stays : (s : Step) (T : RepliedHistory) (d : ℕ) → (effects_of s).makes_document ≡ false → chain_document (s ∷ T) d ≡ chain_document T d
unfolding chain_document
link-stays s T d h = rw (origin-stays s T d h, declared-stay s T d h, container-stay s T d h) refl

pub links-stay : (s : Step) (T : RepliedHistory) (d : ℕ) → (effects_of s).makes_document ≡ false → chain_documents (s ∷ T) d ≡ chain_documents T d
unfolding chain_documents
links-stay s T d h = rw (chain-stays s T d h) (each-same (chain_document (s ∷ T)) (chain_document T) (chain T d) (λ p. link-stays s T p h))

pub why-stays : (s : Step) (T : RepliedHistory) (feature : Feature) (d : ℕ) → (effects_of s).makes_document ≡ false → why_denied (s ∷ T) feature d ≡ why_denied T feature d
unfolding why_denied
why-stays s T feature d h = rw (links-stay s T d h) refl

-- ---- a step that gives no attribute

pub attribute-left : (s : Step) (T : RepliedHistory) (f : ℕ) (name : AttrName) → (effects_of s).gives_attribute ≡ false → attribute (s ∷ T) f name ≡ attribute T f name
attribute-left s T f name h = attribute-stays s T f name (no-attribute s.event s.item (suc (length T)) f name h)

pub attributes-left : (s : Step) (T : RepliedHistory) (f : ℕ) → (effects_of s).gives_attribute ≡ false → attributes_of (s ∷ T) f ≡ attributes_of T f
attributes-left s T f h = attributes-stay s T f (λ name. no-attribute s.event s.item (suc (length T)) f name h)

-- ---- a step that ends no document

pub older-current : (s : Step) (T : RepliedHistory) (d : ℕ) → (effects_of s).ends_documents ≡ false → d ≤ length T → is_current (s ∷ T) d ≡ is_current T d
older-current s T d h le = current-older s T d le ∙ rw (no-end s.event s.item (frames_above T d) h) (and-true (is_current T d))

pub older-last : (s : Step) (T : RepliedHistory) (f : ℕ) → (effects_of s).ends_documents ≡ false → f ≢ suc (length T) → last_document (s ∷ T) f ≡ last_document T f
older-last s T f h ne = last-document-step s T f ∙ rw (in-own s.event s.item (suc (length T)) f h (λ e. ne (sym e))) refl

older-last-within : (s : Step) (T : RepliedHistory) (f : ℕ) → (effects_of s).ends_documents ≡ false → f ≤ length T → last_document (s ∷ T) f ≡ last_document T f
older-last-within s T f h le = let ne : f ≢ suc (length T) = omega arith in older-last s T f h ne

pub older-document-in : (s : Step) (T : RepliedHistory) (f : ℕ) → (effects_of s).ends_documents ≡ false → f ≤ length T → document_in (s ∷ T) f ≡ document_in T f
unfolding document_in
older-document-in s T f h le =
    rw (older-last-within s T f h le)
    (then-same (λ d. some_if (is_current (s ∷ T) d) d) (λ d. some_if (is_current T d) d) (last_document T f)
    (λ d is. ap (λ b. some_if b d) (older-current s T d h (last-below T f d is))))

pub older-live : (s : Step) (T : RepliedHistory) (f : ℕ) → (effects_of s).ends_documents ≡ false → f ≤ length T → is_live (s ∷ T) f ≡ is_live T f
unfolding is_live
older-live s T f h le = ap is_some (older-document-in s T f h le)

pub older-page-of-frame : (s : Step) (T : RepliedHistory) (f : ℕ) → (effects_of s).ends_documents ≡ false → f ≤ length T → page_of_frame (s ∷ T) f ≡ page_of_frame T f
unfolding page_of_frame
older-page-of-frame s T f h le =
    rw (older-last-within s T f h le) (map-same (page (s ∷ T)) (page T) (last_document T f) (λ d is. page-older s T d (last-below T f d is)))

pub older-depth : (s : Step) (T : RepliedHistory) (f : ℕ) → (effects_of s).ends_documents ≡ false → f ≤ length T → depth (s ∷ T) f ≡ depth T f
unfolding depth
older-depth s T f h le =
    rw (older-last-within s T f h le)
    (ap (λ o. unwrap_or o 0)
    (map-same (λ d. length (chain (s ∷ T) d)) (λ d. length (chain T d)) (last_document T f) (λ d is. ap length (chain-older s T d (last-below T f d is)))))

filter-same : (n : ℕ) (p q : ℕ → Bool) (xs : List ℕ) → AllWithin n xs → ((x : ℕ) → x ≤ n → p x ≡ q x) → filter p xs ≡ filter q xs
filter-same n p q [] within same = refl
filter-same n p q (x ∷ xs) within same = rw (same x within.0, filter-same n p q xs within.1 same) refl

-- those of the frames that pass a test, where it says the same of the older ones as another
frames-grow : (s : Step) (T : RepliedHistory) (old new : ℕ → Bool) → ((f : ℕ) → f ≤ length T → new f ≡ old f)
    → filter new (frames_made (s ∷ T)) ≡ filter new (frame_added s T) ++ filter old (frames_made T)
frames-grow s T old new same =
    ap (filter new) (frames-step s T)
    ∙ filter-append new (frame_added s T) (frames_made T)
    ∙ ap (λ xs. filter new (frame_added s T) ++ xs) (filter-same (length T) new old (frames_made T) (frames-within T) same)

pub live-pages-grow : (s : Step) (T : RepliedHistory) → (effects_of s).ends_documents ≡ false
    → live_pages (s ∷ T) ≡ filter (λ f. is_live (s ∷ T) f && is_none (parent_frame (s ∷ T) f)) (frame_added s T) ++ live_pages T
unfolding live_pages
live-pages-grow s T h =
    frames-grow s T (λ f. is_live T f && is_none (parent_frame T f)) (λ f. is_live (s ∷ T) f && is_none (parent_frame (s ∷ T) f))
    (λ f le. let ne : f ≢ suc (length T) = omega arith in rw (older-live s T f h le, parent-other s T f ne) refl)

pub live-frames-grow : (s : Step) (T : RepliedHistory) (top : ℕ) → (effects_of s).ends_documents ≡ false
    → live_frames (s ∷ T) top ≡ filter (λ f. is_live (s ∷ T) f && is_same_number (page_of_frame (s ∷ T) f) (Some top)) (frame_added s T) ++ live_frames T top
unfolding live_frames
live-frames-grow s T top h =
    frames-grow s T (λ f. is_live T f && is_same_number (page_of_frame T f) (Some top)) (λ f. is_live (s ∷ T) f && is_same_number (page_of_frame (s ∷ T) f) (Some top))
    (λ f le. rw (older-live s T f h le, older-page-of-frame s T f h le) refl)

-- ---- a step that neither makes a document nor ends one

pub current-stays : (s : Step) (T : RepliedHistory) (d : ℕ) → (effects_of s).makes_document ≡ false → (effects_of s).ends_documents ≡ false → is_current (s ∷ T) d ≡ is_current T d
current-stays s T d made h = by_place (nat_le d (length T)) refl
  where
    by_place : (b : Bool) → nat_le d (length T) ≡ b → is_current (s ∷ T) d ≡ is_current T d
    by_place true is = older-current s T d h (grind (arith, nat_tests))
    by_place false is =
        let past : length T < d = grind (arith, nat_tests) in
        let none : making T d ≡ None = making-beyond T d past in
        unmade-current (s ∷ T) d (making-stays s T d made ∙ none) ∙ sym (unmade-current T d none)

pub document-in-stays : (s : Step) (T : RepliedHistory) (f : ℕ) → (effects_of s).makes_document ≡ false → (effects_of s).ends_documents ≡ false → document_in (s ∷ T) f ≡ document_in T f
unfolding document_in
document-in-stays s T f made h =
    rw (last-document-stays s T f made)
    (then-same (λ d. some_if (is_current (s ∷ T) d) d) (λ d. some_if (is_current T d) d) (last_document T f) (λ d is. ap (λ b. some_if b d) (current-stays s T d made h)))

pub live-stays : (s : Step) (T : RepliedHistory) (f : ℕ) → (effects_of s).makes_document ≡ false → (effects_of s).ends_documents ≡ false → is_live (s ∷ T) f ≡ is_live T f
unfolding is_live
live-stays s T f made h = ap is_some (document-in-stays s T f made h)

-- a step that makes no document adds no frame
none-added : (s : Step) (T : RepliedHistory) → (effects_of s).makes_document ≡ false → frame_added s T ≡ []
none-added s T made = rw (no-frame s.event s.item (frameless s.event s.item made)) refl

pub live-pages-stay : (s : Step) (T : RepliedHistory) → (effects_of s).makes_document ≡ false → (effects_of s).ends_documents ≡ false → live_pages (s ∷ T) ≡ live_pages T
live-pages-stay s T made h =
    live-pages-grow s T h ∙ ap (λ xs. filter (λ f. is_live (s ∷ T) f && is_none (parent_frame (s ∷ T) f)) xs ++ live_pages T) (none-added s T made)

pub live-frames-stay : (s : Step) (T : RepliedHistory) (top : ℕ) → (effects_of s).makes_document ≡ false → (effects_of s).ends_documents ≡ false → live_frames (s ∷ T) top ≡ live_frames T top
live-frames-stay s T top made h =
    live-frames-grow s T top h
    ∙ ap (λ xs. filter (λ f. is_live (s ∷ T) f && is_same_number (page_of_frame (s ∷ T) f) (Some top)) xs ++ live_frames T top) (none-added s T made)
