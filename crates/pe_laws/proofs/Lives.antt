-- Pairs and lives: what stays of them, and how long they hold.
use Rattle.std.proofs.Common.{◌≡◌, ℕ, ◌≤◌, Bool, true, false, ◌&&◌, nat_lt, [], ◌∷◌, length, Option, Some, None, is_some, unwrap_or, option_map, option_and_then, refl, sym, ◌∙◌, ap, arith}
use Rattle.std.specs.Bool.{Decides}
use Rattle.std.specs.Option.{option_or}
use Rattle.std.proofs.lemmas.Bool.Decides.{nat_tests}
use Rattle.pe_base.specs.declared.state.State.{State}
use Rattle.pe_features.specs.declared.feature.Feature.{Feature}
use Rattle.pe_features.specs.declared.feature.KeyKind.{KeyKind}
use Rattle.pe_features.specs.Features.{feature_named, key_of}
use Rattle.pe_origin.specs.declared.origin.Origin.{Origin}
use Rattle.pe_store.specs.declared.key.Key.{Key}
use Rattle.pe_store.specs.declared.key.Life.{Life}
use Rattle.pe_store.specs.declared.key.Life.TheVariants as life
use Rattle.pe_store.specs.Pairs.{Pair, is_same_pair}
use Rattle.pe_events.specs.declared.event.Event.{Event}
use Rattle.pe_events.specs.declared.event.Event.TheVariants as event
use Rattle.pe_events.specs.declared.event.EventLife.{EventLife}
use Rattle.pe_events.specs.declared.event.EventLife.TheVariants as given
use Rattle.pe_rules.specs.History.{Step, RepliedHistory, some_if, clock}
use Rattle.pe_rules.specs.Embedders.{top_document}
use Rattle.pe_rules.specs.Current.{ends, is_current, document_in}
use Rattle.pe_rules.specs.Origins.{origin_of}
use Rattle.pe_rules.specs.Settings.{Setting, Standing, key_by_kind, key_for, pair_for, prompt_pair, prompt_page, word_origin, key_of_words, life_for, life_of_answer, stored_by_outcome, setting_named, setting_by, holds, stored_by, counts, completes_embargo, embargo, embargo_for, dismissed_pair, standing_of, last_setting, stored_state, has_entry}
use Rattle.pe_laws.specs.Effects.{effects}
use Rattle.pe_laws.specs.SettingsLaws.{leaves_life, IsLifeWithin}
use Rattle.pe_laws.proofs.Older.{origin-older}
use Rattle.pe_laws.proofs.Embedders.{top-other, top-within}
use Rattle.pe_laws.proofs.Current.{current-older, current-within, in-frame}
use Rattle.pe_laws.proofs.Effects.{older-current}
use Rattle.pe_laws.proofs.Settings.{last-setting-step}
use Rattle.pe_laws.proofs.Standings.{standing-set}

-- ---- keys and pairs

pub key-older : (s : Step) (T : RepliedHistory) (d : ℕ) (f : Feature) → d ≤ length T → key_for (s ∷ T) d f ≡ key_for T d f
unfolding key_for
key-older s T d f h = by_kind (key_of f)
  where
    top : top_document (s ∷ T) d ≡ top_document T d
    top = top-other s T d (omega arith)

    by_kind : (o : Option KeyKind) → option_map (λ k. key_by_kind k (origin_of (s ∷ T) (top_document (s ∷ T) d)) (origin_of (s ∷ T) d)) o
        ≡ option_map (λ k. key_by_kind k (origin_of T (top_document T d)) (origin_of T d)) o
    by_kind None = refl
    by_kind (Some k) = rw (top, origin-older s T (top_document T d) (top-within T d h), origin-older s T d h) refl

pub pair-older : (s : Step) (T : RepliedHistory) (d : ℕ) (f : Feature) → d ≤ length T → pair_for (s ∷ T) d f ≡ pair_for T d f
unfolding pair_for
pair-older s T d f h = ap (option_map (λ k. (f, k))) (key-older s T d f h)

pub pair-feature : (T : RepliedHistory) (d : ℕ) (f : Feature) (p : Pair) → pair_for T d f ≡ Some p → p.0 ≡ f
unfolding pair_for
pair-feature T d f p h = by_key (key_for T d f) h
  where
    by_key : (o : Option Key) → option_map (λ k. (f, k)) o ≡ Some p → p.0 ≡ f
    by_key None e = cc
    by_key (Some k) e = sym (ap (λ (o : Option Pair). unwrap_or (option_map (λ (x : Pair). x.0) o) f) e)

-- ---- the document that a life names

through : {A B C : Type 0} (g : A → B → C) (o : Option A) (q : Option B) (x : C) → option_and_then (λ a. option_map (λ b. g a b) q) o ≡ Some x → (a : A) × (b : B) × (g a b ≡ x)
through g None q x h = cc
through g (Some a) None x h = cc
through g (Some a) (Some b) x h = (a, b, ap (λ o. unwrap_or o (g a b)) h)

pub not-page : (time : ℕ) (span : Option ℕ) (d : ℕ) → life_for time span ≡ life.Page d → ⊥
not-page time None d h = cc
not-page time (Some ms) d h = cc

pub answer-page : (time : ℕ) (g : EventLife) (o : Option ℕ) (d : ℕ) → life_of_answer time g o ≡ life.Page d → o ≡ Some d
answer-page time given.Forever o d h = cc
answer-page time (given.For ms) o d h = cc
answer-page time given.Once None d h = cc
answer-page time given.Once (Some top) d h = ap (λ l. page_of l) h
  where
    page_of : Life → Option ℕ
    page_of (life.Page d) = Some d
    page_of other = None

top-current : (T : RepliedHistory) (o : Option ℕ) (d : ℕ) → option_and_then (document_in T) o ≡ Some d → is_current T d ≡ true
top-current T None d h = cc
top-current T (Some f) d h = (in-frame T f d h).1

named-current : (time : ℕ) (e : Event) (T : RepliedHistory) (x : Setting) (d : ℕ) → setting_named time e T ≡ Some x → x.life ≡ life.Page d → is_current T d ≡ true
unfolding setting_named
named-current time (event.SetState feature first second state span) T x d h is =
    let k = through (λ (f : Feature) (o : Origin). let y : Setting = record { pair = (f, key_of_words o (option_and_then word_origin second)); state = state; life = life_for time span } in y) (feature_named feature) (word_origin first) x h in
    absurd (not-page time span d (ap (λ (y : Setting). y.life) k.2 ∙ is))
named-current time (event.Answered prompt out given) T x d h is =
    let k = through (λ (stored_state : State) (pair : Pair). let y : Setting = record { pair = pair; state = stored_state; life = life_of_answer time given (option_and_then (document_in T) (prompt_page T prompt)) } in y) (stored_by_outcome out) (prompt_pair T prompt) x h in
    top-current T (prompt_page T prompt) d (answer-page time given (option_and_then (document_in T) (prompt_page T prompt)) d (ap (λ (y : Setting). y.life) k.2 ∙ is))
named-current time e T x d h is = cc

embargo-current : (time : ℕ) (T : RepliedHistory) (q : Pair) (x : Setting) (d : ℕ) → embargo_for time T q ≡ Some x → x.life ≡ life.Page d → is_current T d ≡ true
unfolding embargo_for
embargo-current time T q x d h is = by_test (counts T time (standing_of T q) && completes_embargo (standing_of T q)) h
  where
    by_test : (b : Bool) → some_if b (embargo time q) ≡ Some x → is_current T d ≡ true
    by_test true e = let at : (embargo time q).life ≡ life.Page d = ap (λ (o : Option Setting). unwrap_or (option_map (λ (y : Setting). y.life) o) x.life) e ∙ is in cc
    by_test false e = cc

pub life-current : (time : ℕ) (e : Event) (T : RepliedHistory) (x : Setting) (d : ℕ) → setting_by time e T ≡ Some x → x.life ≡ life.Page d → is_current T d ≡ true
unfolding setting_by
life-current time e T x d h is = by_named (setting_named time e T) refl h
  where
    by_dismissed : (o : Option Pair) → option_and_then (embargo_for time T) o ≡ Some x → is_current T d ≡ true
    by_dismissed None k = cc
    by_dismissed (Some q) k = embargo-current time T q x d k is

    by_named : (o : Option Setting) → setting_named time e T ≡ o → option_or o (option_and_then (embargo_for time T) (dismissed_pair e T)) ≡ Some x → is_current T d ≡ true
    by_named None made k = by_dismissed (dismissed_pair e T) k
    by_named (Some y) made k = named-current time e T x d (made ∙ k) is

pub life-within : (time : ℕ) (e : Event) (T : RepliedHistory) (x : Setting) → setting_by time e T ≡ Some x → IsLifeWithin T x.life
life-within time e T x h = λ d is. current-within T d (life-current time e T x d h is)

-- what a setting's life names was made, also in more steps
within-more : (s : Step) (T : RepliedHistory) (l : Life) → IsLifeWithin T l → IsLifeWithin (s ∷ T) l
within-more s T l h = λ d is. let w = h d is in (w.0, omega (arith, w.1))

module _ (pairs : (p q : Pair) → Decides (is_same_pair p q) (p ≡ q)) where
  last-step : (s : Step) (T : RepliedHistory) (p : Pair) (x : Setting) → (last_setting T p ≡ Some x → IsLifeWithin T x.life) → (o : Option Setting) → setting_by s.time s.event T ≡ o
      → option_or (option_and_then (λ x. some_if (is_same_pair x.pair p) x) o) (last_setting T p) ≡ Some x → IsLifeWithin (s ∷ T) x.life
  last-step s T p x older None made e = within-more s T x.life (older e)
  last-step s T p x older (Some y) made e = by_same (is_same_pair y.pair p) e
    where
      by_same : (b : Bool) → option_or (some_if b y) (last_setting T p) ≡ Some x → IsLifeWithin (s ∷ T) x.life
      by_same true k = within-more s T x.life (life-within s.time s.event T x (made ∙ k))
      by_same false k = within-more s T x.life (older k)

  none-last : (p : Pair) (x : Setting) → last_setting [] p ≡ Some x → ⊥
  unfolding last_setting standing_of
  none-last p x h = cc

  pub last-within : (T : RepliedHistory) (p : Pair) (x : Setting) → last_setting T p ≡ Some x → IsLifeWithin T x.life
  last-within [] p x h = absurd (none-last p x h)
  last-within (s ∷ T) p x h = last-step s T p x (last-within T p x) (setting_by s.time s.event T) refl (sym (last-setting-step pairs s T p) ∙ h)

  -- the last setting of a pair is one of it
  pair-step : (T : RepliedHistory) (p : Pair) (x : Setting) → (last_setting T p ≡ Some x → x.pair ≡ p) → (o : Option Setting)
      → option_or (option_and_then (λ x. some_if (is_same_pair x.pair p) x) o) (last_setting T p) ≡ Some x → x.pair ≡ p
  pair-step T p x older None e = older e
  pair-step T p x older (Some y) e = by_same (is_same_pair y.pair p) refl e
    where
      by_same : (b : Bool) → is_same_pair y.pair p ≡ b → option_or (some_if b y) (last_setting T p) ≡ Some x → x.pair ≡ p
      by_same true is k = ap (λ (o : Option Setting). unwrap_or (option_map (λ (z : Setting). z.pair) o) p) (sym k) ∙ (pairs y.pair p).0 is
      by_same false is k = older k

  pub last-pair : (T : RepliedHistory) (p : Pair) (x : Setting) → last_setting T p ≡ Some x → x.pair ≡ p
  last-pair [] p x h = absurd (none-last p x h)
  last-pair (s ∷ T) p x h = pair-step T p x (last-pair T p x) (setting_by s.time s.event T) (sym (last-setting-step pairs s T p) ∙ h)

-- ---- how long a life holds

pub holds-step : (s : Step) (T : RepliedHistory) (now : ℕ) (l : Life) → IsLifeWithin T l → holds (s ∷ T) now l ≡ (holds T now l && leaves_life T s l)
unfolding holds
holds-step s T now life.Forever within = refl
holds-step s T now (life.Until end) within = by_test (nat_lt now end)
  where
    by_test : (b : Bool) → b ≡ (b && true)
    by_test true = refl
    by_test false = refl
holds-step s T now (life.Page d) within = current-older s T d (within d refl).1

pub holds-older : (s : Step) (T : RepliedHistory) (now : ℕ) (l : Life) → (effects s.event s.item).ends_documents ≡ false → IsLifeWithin T l → holds (s ∷ T) now l ≡ holds T now l
unfolding holds
holds-older s T now life.Forever h within = refl
holds-older s T now (life.Until end) h within = refl
holds-older s T now (life.Page d) h within = older-current s T d h (within d refl).1

pub ended-later : (T : RepliedHistory) (now later : ℕ) (l : Life) → now ≤ later → holds T now l ≡ false → holds T later l ≡ false
unfolding holds
ended-later T now later life.Forever le h = h
ended-later T now later (life.Until end) le h = grind (arith, nat_tests)
ended-later T now later (life.Page d) le h = h

pub stored-sooner : (T : RepliedHistory) (now later : ℕ) (p : Pair) (state : State) → now ≤ later → stored_state T later p ≡ Some state → stored_state T now p ≡ Some state
unfolding stored_state stored_by
stored-sooner T now later p state le h = by_last (last_setting T p) h
  where
    by_now : (x : Setting) (b c : Bool) → (b ≡ false → c ≡ false) → some_if c x.state ≡ Some state → some_if b x.state ≡ Some state
    by_now x true true ends e = e
    by_now x true false ends e = cc
    by_now x false true ends e = let no : true ≡ false = ends refl in cc
    by_now x false false ends e = e

    by_last : (o : Option Setting) → option_and_then (λ x. some_if (holds T later x.life) x.state) o ≡ Some state → option_and_then (λ x. some_if (holds T now x.life) x.state) o ≡ Some state
    by_last None e = e
    by_last (Some x) e = by_now x (holds T now x.life) (holds T later x.life) (ended-later T now later x.life le) e

pub stored-by-standing : (T : RepliedHistory) (now : ℕ) (p : Pair) → stored_state T now p ≡ stored_by T now (standing_of T p).last
unfolding stored_state last_setting
stored-by-standing T now p = refl

pub entry-by-standing : (T : RepliedHistory) (p : Pair) → has_entry T p ≡ is_some (stored_by T (clock T) (standing_of T p).last)
unfolding has_entry stored_state last_setting
entry-by-standing T p = refl

module _ (pairs : (p q : Pair) → Decides (is_same_pair p q) (p ≡ q)) where
  pub stored-older : (s : Step) (T : RepliedHistory) (now : ℕ) (p : Pair) → (effects s.event s.item).ends_documents ≡ false → last_setting (s ∷ T) p ≡ last_setting T p
      → stored_state (s ∷ T) now p ≡ stored_state T now p
  unfolding stored_state stored_by
  stored-older s T now p h same = rw same (by_last (last_setting T p) (last-within pairs T p))
    where
      by_last : (o : Option Setting) → ((x : Setting) → o ≡ Some x → IsLifeWithin T x.life)
          → option_and_then (λ x. some_if (holds (s ∷ T) now x.life) x.state) o ≡ option_and_then (λ x. some_if (holds T now x.life) x.state) o
      by_last None within = refl
      by_last (Some x) within = rw (holds-older s T now x.life h (within x refl)) refl

  pub stored-set : (s : Step) (T : RepliedHistory) (now : ℕ) (x : Setting) → setting_by s.time s.event T ≡ Some x → stored_state (s ∷ T) now x.pair ≡ some_if (holds (s ∷ T) now x.life) x.state
  unfolding stored_state stored_by last_setting
  stored-set s T now x is = ap (λ (y : Standing). option_and_then (λ (x : Setting). some_if (holds (s ∷ T) now x.life) x.state) y.last) (standing-set pairs s T x is)
