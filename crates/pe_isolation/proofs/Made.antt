-- In histories that are alike the same frames and documents were made, of the same attributes and with the same embedders.
use Rattle.std.proofs.Common.{◌≡◌, ℕ, suc, Bool, false, ◌&&◌, ◌==◌, cond, [], ◌∷◌, ◌++◌, length, Option, Some, None, is_some, unwrap_or, option_map, option_and_then, option_to_list, refl, ◌∙◌, ap}
use Rattle.pe_events.specs.declared.event.AttrName.{AttrName}
use Rattle.pe_events.specs.declared.event.AttrName.TheVariants.{Src, Srcdoc, Allow, Sandbox, Fullscreen}
use Rattle.pe_events.specs.declared.event.Event.{Event}
use Rattle.pe_events.specs.declared.event.Event.TheVariants as event
use Rattle.pe_rules.specs.History.{Step, RepliedHistory, some_if, newest_answer, answers_newest_first}
use Rattle.pe_rules.specs.Numbering.{makes_frame, document_frame, makes_status, makes_prompt, is_made, is_frame, is_status, is_prompt, numbers_made, frames_made, documents_made, last_document, parent_by, parent_frame}
use Rattle.pe_rules.specs.Attributes.{attribute_by, attribute, attributes_of}
use Rattle.pe_rules.specs.Making.{Making, making_by, making, fold_embedders, frame_of}
use Rattle.pe_rules.specs.Embedders.{chain, first_or, top_document, page, page_of_frame, depth}
use Rattle.pe_isolation.proofs.Alike.{IsQuiet, Alike, start, same, quiet, length-alike, newest-alike, all-alike, listed-alike}
use Rattle.pe_isolation.proofs.Quiet.{no-frame, no-document, no-parent, no-attribute, no-making, no-status, and-false, neither}

-- ---- questions that read only the position of a step

newest-placed : {A : Type 0} (ask : Step → ℕ → Option A) → ((s : Step) (k : ℕ) → IsQuiet s → ask s k ≡ None) → {T U : RepliedHistory} → Alike T U
    → newest_answer (λ s B. ask s (length (s ∷ B))) T ≡ newest_answer (λ s B. ask s (length (s ∷ B))) U
newest-placed ask none r = newest-alike (λ s B. ask s (suc (length B))) (λ s B C q i. ask s (suc (length-alike q i))) (λ s B h. none s (suc (length B)) h) r

listed-placed : {A : Type 0} (ask : Step → ℕ → Option A) → ((s : Step) (k : ℕ) → IsQuiet s → ask s k ≡ None) → {T U : RepliedHistory} → Alike T U
    → answers_newest_first (λ s B. ask s (length (s ∷ B))) T ≡ answers_newest_first (λ s B. ask s (length (s ∷ B))) U
listed-placed ask none r = listed-alike (λ s B. ask s (suc (length B))) (λ s B C q i. ask s (suc (length-alike q i))) (λ s B h. none s (suc (length B)) h) r

made-alike : (makes : Step → Bool) → ((s : Step) → IsQuiet s → makes s ≡ false) → {T U : RepliedHistory} → Alike T U → (k : ℕ) → is_made makes T k ≡ is_made makes U k
made-alike makes none r k =
    ap is_some (newest-placed (λ s n. some_if (k == n && makes s) k) (λ s n h. ap (λ b. some_if (k == n && b) k) (none s h) ∙ ap (λ b. some_if b k) (and-false (k == n))) r)

pub numbers-alike : (makes : Step → Bool) → ((s : Step) → IsQuiet s → makes s ≡ false) → {T U : RepliedHistory} → Alike T U → numbers_made makes T ≡ numbers_made makes U
numbers-alike makes none r =
    all-alike (λ s B. option_to_list (some_if (makes s) (suc (length B)))) (λ s B C q i. option_to_list (some_if (makes s) (suc (length-alike q i))))
    (λ s B h. ap (λ b. option_to_list (some_if b (suc (length B)))) (none s h)) r

-- ---- numbers

pub is-frame-alike : {T U : RepliedHistory} → Alike T U → (k : ℕ) → is_frame T k ≡ is_frame U k
unfolding is_frame
is-frame-alike r k = made-alike (λ s. makes_frame s.event) (λ s h. no-frame s.event h.event) r k

pub is-status-alike : {T U : RepliedHistory} → Alike T U → (k : ℕ) → is_status T k ≡ is_status U k
unfolding is_status
is-status-alike r k = made-alike (λ s. makes_status s.event) (λ s h. no-status s.event h.event) r k

pub is-prompt-alike : {T U : RepliedHistory} → Alike T U → (k : ℕ) → is_prompt T k ≡ is_prompt U k
unfolding is_prompt
is-prompt-alike r k = made-alike (λ s. makes_prompt s.item) (λ s h. h.item) r k

pub frames-made-alike : {T U : RepliedHistory} → Alike T U → frames_made T ≡ frames_made U
unfolding frames_made
frames-made-alike r = listed-placed (λ s n. some_if (makes_frame s.event) n) (λ s n h. ap (λ b. some_if b n) (no-frame s.event h.event)) r

pub documents-made-alike : {T U : RepliedHistory} → Alike T U → documents_made T ≡ documents_made U
unfolding documents_made
documents-made-alike r = listed-placed (λ s n. some_if (is_some (document_frame s.event 0)) n) (λ s n h. ap (λ o. some_if (is_some o) n) (no-document s.event 0 h.event)) r

pub last-document-alike : {T U : RepliedHistory} → Alike T U → (f : ℕ) → last_document T f ≡ last_document U f
unfolding last_document
last-document-alike r f =
    newest-placed (λ s n. option_and_then (λ g. some_if (g == f) n) (document_frame s.event n)) (λ s n h. ap (option_and_then (λ g. some_if (g == f) n)) (no-document s.event n h.event)) r

pub parent-frame-alike : {T U : RepliedHistory} → Alike T U → (f : ℕ) → parent_frame T f ≡ parent_frame U f
unfolding parent_frame
parent-frame-alike r f = newest-placed (λ s n. cond (f == n) (parent_by s.event) None) (λ s n h. neither (f == n) (parent_by s.event) (no-parent s.event h.event)) r

-- ---- attributes

attribute-alike : {T U : RepliedHistory} → Alike T U → (f : ℕ) (name : AttrName) → attribute T f name ≡ attribute U f name
unfolding attribute
attribute-alike r f name = ap (λ o. unwrap_or o None) (newest-placed (λ s n. attribute_by s.event n f name) (λ s n h. no-attribute s.event n f name h.event) r)

attributes-alike : {T U : RepliedHistory} → Alike T U → (f : ℕ) → attributes_of T f ≡ attributes_of U f
unfolding attributes_of
attributes-alike r f = λ i. record {
  src = attribute-alike r f Src i;
  srcdoc = is_some (attribute-alike r f Srcdoc i);
  allow = attribute-alike r f Allow i;
  sandbox = attribute-alike r f Sandbox i;
  fullscreen = is_some (attribute-alike r f Fullscreen i);
}

-- ---- making

making-by-alike : {T U : RepliedHistory} → Alike T U → (e : Event) → making_by e T ≡ making_by e U
unfolding making_by
making-by-alike r (event.OpenPage url header) = rw (length-alike r) refl
making-by-alike r (event.Embed parent src place allow sandbox fullscreen srcdoc header) = rw (length-alike r, last-document-alike r parent) refl
making-by-alike r (event.Navigate frame url header) = λ i. Some (record {
  frame = frame;
  url = url;
  header = header;
  embedder = option_and_then (λ f. last-document-alike r f i) (parent-frame-alike r frame i);
  srcdoc = false;
  attributes = attributes-alike r frame i;
})
making-by-alike r e = refl

pub making-alike : {T U : RepliedHistory} → Alike T U → (d : ℕ) → making T d ≡ making U d
unfolding making
making-alike r d =
    newest-alike (λ s B. cond (d == suc (length B)) (making_by s.event B) None) (λ s B C q i. cond (d == suc (length-alike q i)) (making-by-alike q s.event i) None)
    (λ s B h. neither (d == suc (length B)) (making_by s.event B) (no-making s.event B h.event)) r

pub frame-of-alike : {T U : RepliedHistory} → Alike T U → (d : ℕ) → frame_of T d ≡ frame_of U d
unfolding frame_of
frame-of-alike r d = λ i. unwrap_or (option_map (λ m. m.frame) (making-alike r d i)) 0

-- a value of each document by that of its embedder, where the rule gives the same
pub fold-alike : {A : Type 0} (other : A) (rule : RepliedHistory → Making → Option A → A) → ((T U : RepliedHistory) → Alike T U → (m : Making) (above : Option A) → rule T m above ≡ rule U m above)
    → {T U : RepliedHistory} → Alike T U → (d : ℕ) → fold_embedders other rule T d ≡ fold_embedders other rule U d
unfolding fold_embedders
fold-alike other rule one start d = refl
fold-alike {A} other rule one (same s {T} {U} r) d =
    let older : (p : ℕ) → fold_embedders other rule T p ≡ fold_embedders other rule U p = fold-alike other rule one r in
    λ i. cond (d == suc (length-alike r i))
    (unwrap_or (option_map (λ (m : Making). (one (s ∷ T) (s ∷ U) (same s r) m (option_map (fold_embedders other rule T) m.embedder) ∙ ap (rule (s ∷ U) m) (λ j. option_map (λ p. older p j) m.embedder)) i) (making-by-alike r s.event i)) other)
    (older d i)
fold-alike other rule one (quiet s u {T} {U} time p q r) d =
    rw (no-making s.event T p.event, no-making u.event U q.event) (λ i. cond (d == suc (length-alike r i)) other (fold-alike other rule one r d i))

-- ---- embedders

pub chain-alike : {T U : RepliedHistory} → Alike T U → (d : ℕ) → chain T d ≡ chain U d
unfolding chain
chain-alike r d = fold-alike [] (λ H m above. unwrap_or above [] ++ length H ∷ []) (λ T U q m above i. unwrap_or above [] ++ length-alike q i ∷ []) r d

pub top-document-alike : {T U : RepliedHistory} → Alike T U → (d : ℕ) → top_document T d ≡ top_document U d
unfolding top_document
top-document-alike r d = λ i. first_or d (chain-alike r d i)

pub page-alike : {T U : RepliedHistory} → Alike T U → (d : ℕ) → page T d ≡ page U d
unfolding page
page-alike r d = λ i. frame-of-alike r (top-document-alike r d i) i

pub page-of-frame-alike : {T U : RepliedHistory} → Alike T U → (f : ℕ) → page_of_frame T f ≡ page_of_frame U f
unfolding page_of_frame
page-of-frame-alike r f = λ i. option_map (λ d. page-alike r d i) (last-document-alike r f i)

pub depth-alike : {T U : RepliedHistory} → Alike T U → (f : ℕ) → depth T f ≡ depth U f
unfolding depth
depth-alike r f = λ i. unwrap_or (option_map (λ d. length (chain-alike r d i)) (last-document-alike r f i)) 0
