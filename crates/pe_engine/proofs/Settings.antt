-- What a setting is answered, and what the engine stands for after it.
use Rattle.std.proofs.Common.{◌≡◌, ℕ, ◌+◌, Bool, true, false, not, ◌&&◌, ◌||◌, nat_le, nat_lt, List, [], ◌∷◌, ◌++◌, length, Option, Some, None, Result, Ok, Err, IsTrue, is_some, is_none, option_map, option_and_then, unwrap_or, Bor, refl, sym, ◌∙◌, ap, subst, arith}
use Rattle.std.specs.Prelude.{is_err, OnOk}
use Rattle.std.specs.Option.{option_or, option_copied}
use Rattle.std.specs.Global.{Vec}
use Rattle.std.proofs.lemmas.Bool.Decides.{nat_tests}
use Rattle.pe_base.specs.declared.limits.TheConstants.{STORE_LIMIT, TIME_LIMIT}
use Rattle.pe_base.specs.declared.state.State.{State}
use Rattle.pe_features.specs.declared.feature.Feature.{Feature}
use Rattle.pe_features.specs.Features.{feature_named, key_of}
use Rattle.pe_origin.specs.declared.origin.Origin.{Origin}
use Rattle.pe_store.specs.Entries.{StoreValue, entry_of, IsOnePerPair}
use Rattle.pe_store.specs.Pairs.{Pair}
use Rattle.pe_events.specs.declared.answer.Answer.TheVariants as answer
use Rattle.pe_events.specs.declared.answer.Change.{Change}
use Rattle.pe_events.specs.declared.cause.Cause.{Cause}
use Rattle.pe_events.specs.declared.cause.Cause.TheVariants as cause
use Rattle.pe_events.specs.declared.event.Event.TheVariants as event
use Rattle.pe_events.specs.Fitting.{is_span_or_none}
use Rattle.pe_events.specs.Timed.{Timed}
use Rattle.pe_rules.specs.History.{StepAnswer, Step, RepliedHistory, History, some_if, clock}
use Rattle.pe_rules.specs.Settings.{Setting, word_origin, key_of_words, life_for, setting_named, setting_by, holds, has_entry}
use Rattle.pe_rules.specs.Causes.{cause_of, entries, is_no_origin, lacks_origins, has_bad_url, has_bad_feature, has_bad_call, has_bad_capability, names_other_page, exceeds_pages, exceeds_depth, exceeds_frames, exceeds_statuses, exceeds_pending, exceeds_store}
use Rattle.pe_rules.specs.Changes.{changes_after}
use Rattle.pe_rules.specs.Replies.{answer_of, replied, step_answer}
use Rattle.pe_changes.specs.Parts.{IsStore, IsStatuses, AreGoverned}
use Rattle.pe_changes.specs.StoreSteps.{IsSet}
use Rattle.pe_engine.specs.declared.engine.Made.TheVariants as made
use Rattle.pe_engine.specs.declared.refusal.Refusal.{Refusal}
use Rattle.pe_engine.specs.declared.refusal.Refusal.TheVariants as refusal
use Rattle.pe_engine.specs.declared.row.Row.{Row}
use Rattle.pe_engine.specs.Causes.{other_cause}
use Rattle.pe_engine.specs.Changing.{HasNoted}
use Rattle.pe_engine.specs.Giving.{words_cause, pair_of_words, GivesPair}
use Rattle.pe_engine.specs.Laws.{EngineLaws}
use Rattle.pe_engine.specs.Replying.{steps_of, timed, HasPassed, IsReplied}
use Rattle.pe_engine.specs.Rows.{blocks}
use Rattle.pe_engine.specs.StandsFor.{EngineValue, StandsFor}
use Rattle.pe_engine.proofs.Accepted.{step_of, documents-within, named-stays, queues-stay}
use Rattle.pe_engine.proofs.Governing.{all-governed}
use Rattle.pe_engine.proofs.Kept.{kept-silent}
use Rattle.pe_engine.proofs.Passed.{applied-reply}

-- ---- the setting

-- the setting of a pair at a time
abbrev pub setting_at : ℕ → Pair → State → Option ℕ → Setting
setting_at now pair state span = record { pair = pair; state = state; life = life_for now span }

-- the event makes the setting of the pair that its words name
pub setting-is : (T : RepliedHistory) (now : ℕ) (feature first : List ℕ) (second : Option (List ℕ)) (state : State) (span : Option ℕ) (pair : Pair) → pair_of_words feature first second ≡ Some pair
    → setting_by now (event.SetState feature first second state span) T ≡ Some (setting_at now pair state span)
unfolding setting_by setting_named
setting-is T now feature first second state span pair named = by_words (feature_named feature) (word_origin first) named
  where
    by_words : (f : Option Feature) (o : Option Origin) → option_and_then (λ x. option_map (λ y. (x, key_of_words y (option_and_then word_origin second))) o) f ≡ Some pair
        → option_or (option_and_then (λ x. option_map (λ y. setting_at now (x, key_of_words y (option_and_then word_origin second)) state span) o) f) None ≡ Some (setting_at now pair state span)
    by_words None o h = cc
    by_words (Some x) None h = cc
    by_words (Some x) (Some y) h = let i : (x, key_of_words y (option_and_then word_origin second)) ≡ pair = cc in ap (λ (p : Pair). Some (setting_at now p state span)) i

-- it holds at its time
pub set-holds : (T : RepliedHistory) (now : ℕ) (span : Option ℕ) → IsTrue (is_span_or_none span) → holds T now (life_for now span) ≡ true
unfolding holds
set-holds T now None h = refl
set-holds T now (Some ms) h = by_test (nat_le 1 ms) refl h
  where
    by_test : (b : Bool) → nat_le 1 ms ≡ b → (b && nat_le ms TIME_LIMIT) ≡ true → nat_lt now (now + ms) ≡ true
    by_test true is h = grind (arith, nat_tests)
    by_test false is h = cc

-- ---- the causes

-- the causes of the words come first
front : (a b : Bool) (x y why : Cause) (rest : Option Cause) → option_or (some_if a x) (option_or (some_if b y) None) ≡ Some why → option_or (some_if a x) (option_or (some_if b y) rest) ≡ Some why
front true b x y why rest h = h
front false true x y why rest h = h
front false false x y why rest h = cc

behind : (a b : Bool) (x y : Cause) (rest : Option Cause) → option_or (some_if a x) (option_or (some_if b y) None) ≡ None → option_or (some_if a x) (option_or (some_if b y) rest) ≡ rest
behind true b x y rest h = cc
behind false true x y rest h = cc
behind false false x y rest h = refl

pub words-set : (T : RepliedHistory) (now : ℕ) (feature first : List ℕ) (second : Option (List ℕ)) (state : State) (span : Option ℕ) (why : Cause) → words_cause feature first second ≡ Some why
    → other_cause T now (event.SetState feature first second state span) ≡ Some why
unfolding other_cause has_bad_url has_bad_feature
words-set T now feature first second state span why is =
    front (is_no_origin (Some first) || is_no_origin second) (lacks_origins (option_and_then key_of (feature_named feature)) (is_some second)) cause.Url cause.Feature why _ is

-- then that of the store
pub store-set : (T : RepliedHistory) (now : ℕ) (feature first : List ℕ) (second : Option (List ℕ)) (state : State) (span : Option ℕ) (pair : Pair) → words_cause feature first second ≡ None
    → pair_of_words feature first second ≡ Some pair
    → other_cause T now (event.SetState feature first second state span) ≡ option_or (some_if (not (has_entry T pair) && nat_le STORE_LIMIT (length (entries T))) cause.LimitStore) None
unfolding other_cause has_bad_url has_bad_feature has_bad_call has_bad_capability names_other_page exceeds_pages exceeds_depth exceeds_frames exceeds_statuses exceeds_pending exceeds_store
store-set T now feature first second state span pair none named =
    behind (is_no_origin (Some first) || is_no_origin second) (lacks_origins (option_and_then key_of (feature_named feature)) (is_some second)) cause.Url cause.Feature _ none
    ∙ ap (λ (o : Option Setting). option_or (some_if (unwrap_or (option_map (λ (x : Setting). not (has_entry T x.pair) && nat_le STORE_LIMIT (length (entries T))) o) false) cause.LimitStore) None)
    (setting-is T now feature first second state span pair named)

-- ---- refused words

pub pair-refused : (old : EngineValue) (H : History) (e : Timed) (feature first : List ℕ) (second : Option (List ℕ)) (r : Refusal) → GivesPair feature first second (Err r)
    → ((why : Cause) → words_cause feature first second ≡ Some why → cause_of (steps_of old H) e.time e.event ≡ Some why) → IsReplied old old H e (Err r)
pair-refused old H e feature first second (refusal.For why) gives causes = record { first = causes why gives; kept = refl }
pair-refused old H e feature first second refusal.Memory gives causes = tt

-- ---- what a look-up gives

-- what is found is there, also where it is only lent
pub some-copied : {A : Type 0} (o : Option (Bor A)) → is_some (option_copied o) ≡ is_some o
some-copied None = refl
some-copied (Some x) = refl

-- a test for None answers not whether there is one
pub none-by : {A : Type 0} (o : Option A) (b : Bool) → is_some o ≡ not b → b ≡ not (is_some o)
none-by (Some x) false is = refl
none-by (Some x) true is = is
none-by None true is = refl
none-by None false is = is

pub and-true : (b : Bool) → (b && true) ≡ b
and-true true = refl
and-true false = refl

pub and-false : (b : Bool) → (b && false) ≡ false
and-false true = refl
and-false false = refl

-- a pair is its parts
pub paired : (pair : Pair) → (pair.0, pair.1) ≡ pair
paired (feature, key) = refl

-- ---- the answer

pub done-set : (duration : ℕ) (T : RepliedHistory) (now : ℕ) (feature first : List ℕ) (second : Option (List ℕ)) (state : State) (span : Option ℕ)
    → answer_of duration T now (event.SetState feature first second state span) ≡ answer.Done
unfolding answer_of
done-set duration T now feature first second state span = refl

-- ---- the reply

-- the engine before, once the time has passed, and once this store has the setting and the event is noted
pub record HasSet (e p u : EngineValue) (store : StoreValue) (now : ℕ) (y : Setting) : Type 0 where
  pub noted : HasNoted e u now made.Nothing
  pub frames_are : u.frames ≡ e.frames
  pub statuses_are : u.statuses ≡ e.statuses
  pub prompts_are : u.prompts ≡ e.prompts
  pub messages_are : u.messages ≡ e.messages
  pub passed_duration : p.duration ≡ e.duration
  pub store_is : u.store ≡ store
  pub is_set : IsSet y p.store store

pub has-set : (e p u : EngineValue) (store : StoreValue) (now : ℕ) (y : Setting) → p ≡ record e { store = p.store } → u ≡ record p { store = store; clock = now; made = p.made ++ made.Nothing ∷ [] }
    → IsSet y p.store store → HasSet e p u store now y
has-set e p u store now y p_is u_is set = record {
  noted = record {
    duration = ap (λ (x : EngineValue). x.duration) u_is ∙ ap (λ (x : EngineValue). x.duration) p_is;
    failed = ap (λ (x : EngineValue). x.failed) u_is ∙ ap (λ (x : EngineValue). x.failed) p_is;
    clock = ap (λ (x : EngineValue). x.clock) u_is;
    made = ap (λ (x : EngineValue). x.made) u_is ∙ ap (λ (x : EngineValue). x.made ++ made.Nothing ∷ []) p_is;
  };
  frames_are = ap (λ (x : EngineValue). x.frames) u_is ∙ ap (λ (x : EngineValue). x.frames) p_is;
  statuses_are = ap (λ (x : EngineValue). x.statuses) u_is ∙ ap (λ (x : EngineValue). x.statuses) p_is;
  prompts_are = ap (λ (x : EngineValue). x.prompts) u_is ∙ ap (λ (x : EngineValue). x.prompts) p_is;
  messages_are = ap (λ (x : EngineValue). x.messages) u_is ∙ ap (λ (x : EngineValue). x.messages) p_is;
  passed_duration = ap (λ (x : EngineValue). x.duration) p_is;
  store_is = ap (λ (x : EngineValue). x.store) u_is;
  is_set = set;
}

-- the changes that a setting brings
abbrev pub BringsSetting : EngineValue → Step → ℕ → Setting → Vec Change → Type 0
BringsSetting p s now y after = (T : RepliedHistory) → setting_by s.time s.event T ≡ Some y → IsTrue (holds (s ∷ T) now y.life) → IsStore T now p.store → IsStatuses T p.statuses
    → AreGoverned T (λ (x : Row). x.doc) blocks p.frames.entries p.statuses.live → after.items ≡ changes_after T (s ∷ T) now

module _ (laws : EngineLaws) where
  -- ---- the store at the clock

  at-clock : (e : EngineValue) (H : History) → StandsFor e H → IsStore (replied e.duration H) (clock (replied e.duration H)) e.store
  at-clock e H s = subst (λ t. IsStore (replied e.duration H) t e.store) s.steps.clock s.steps.store

  pub entry-there : (e : EngineValue) (H : History) (pair : Pair) → StandsFor e H → is_some (entry_of e.store.entries pair) ≡ has_entry (replied e.duration H) pair
  entry-there e H pair s = laws.stores.there (replied e.duration H) e.store pair (at-clock e H s)

  pub entries-counted : (e : EngineValue) (H : History) → StandsFor e H → IsOnePerPair e.store.entries → length e.store.entries ≡ length (entries (replied e.duration H))
  entries-counted e H s one = laws.stores.counted (replied e.duration H) e.store (at-clock e H s) one

  -- ---- the reply

  pub set-reply : (e p u : EngineValue) (store : StoreValue) (H : History) (now : ℕ) (feature first : List ℕ) (second : Option (List ℕ)) (state : State) (span : Option ℕ) (pair : Pair) (before after : Vec Change)
      → StandsFor e H → HasPassed e p H now before → p ≡ record e { store = p.store } → HasSet e p u store now (setting_at now pair state span) → IsTrue (is_span_or_none span)
      → cause_of (replied e.duration H) now (event.SetState feature first second state span) ≡ None → pair_of_words feature first second ≡ Some pair
      → ((s : Step) → BringsSetting p s now (setting_at now pair state span) after)
      → IsReplied e u H (timed now (event.SetState feature first second state span)) (Ok (record { before = before; answer = answer.Done; after = after }))
  set-reply e p u store H now feature first second state span pair before after stands passed p_is has fits none named brings =
      applied-reply laws e p u H x made.Nothing answer.Done before after stands passed none (sym (done-set e.duration T now feature first second state span)) has.noted (record {
        tree = rw (has.noted.made, has.frames_are) (kept-silent laws.history s T e.made made.Nothing e.frames refl refl refl refl refl refl refl refl refl refl stands.steps.tree);
        store = subst (IsStore (s ∷ T) now) (sym has.store_is) (laws.stores.set e.duration H s now y p.store store stands.regular setting holding stored has.is_set);
        statuses = subst (IsStatuses (s ∷ T)) (sym has.statuses_are) (laws.statuses.quiet s T e.statuses refl refl refl stands.steps.statuses);
        named = rw (has.statuses_are, has.noted.made) (named-stays laws s T e.made made.Nothing e.statuses.live (documents-within laws T e.statuses stands.steps.statuses) stands.steps.named);
        queues = queues-stay laws e u H x made.Nothing e.clock refl refl stands has.prompts_are has.messages_are has.noted.made;
      }) (brings s T setting holding stored statuses governed)
    where
      T : RepliedHistory
      T = replied e.duration H

      x : Timed
      x = timed now (event.SetState feature first second state span)

      item : StepAnswer
      item = step_answer e.duration T now x.event

      s : Step
      s = step_of x item

      y : Setting
      y = setting_at now pair state span

      setting : setting_by now x.event T ≡ Some y
      setting = setting-is T now feature first second state span pair named

      holding : IsTrue (holds (s ∷ T) now y.life)
      holding = set-holds (s ∷ T) now span fits

      stored : IsStore T now p.store
      stored = subst (λ d. IsStore (replied d H) now p.store) has.passed_duration passed.stands.steps.store

      statuses : IsStatuses T p.statuses
      statuses = subst (IsStatuses T) (sym (ap (λ (w : EngineValue). w.statuses) p_is)) stands.steps.statuses

      governed : AreGoverned T (λ (z : Row). z.doc) blocks p.frames.entries p.statuses.live
      governed =
          subst (λ (w : EngineValue). AreGoverned T (λ (z : Row). z.doc) blocks w.frames.entries w.statuses.live) (sym p_is)
          (all-governed laws.history e.duration H e.made e.frames e.statuses stands.regular stands.steps.tree stands.steps.statuses stands.steps.named)
