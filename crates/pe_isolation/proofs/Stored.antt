-- In histories that are alike the same is set and stored, and the permission states are the same.
use Rattle.std.proofs.Common.{◌≡◌, ℕ, not, ◌&&◌, ◌||◌, cond, Option, Some, None, is_some, unwrap_or, option_map, option_and_then, refl, sym, ◌∙◌, ap}
use Rattle.std.specs.Option.{option_or}
use Rattle.pe_base.specs.declared.state.State.TheVariants as state
use Rattle.pe_features.specs.declared.feature.Feature.{Feature}
use Rattle.pe_features.specs.Features.{feature_named, key_of}
use Rattle.pe_store.specs.declared.key.Life.{Life}
use Rattle.pe_store.specs.declared.key.Life.TheVariants as life
use Rattle.pe_store.specs.Pairs.{Pair, is_same_pair}
use Rattle.pe_events.specs.declared.event.Event.{Event}
use Rattle.pe_events.specs.declared.event.Event.TheVariants as event
use Rattle.pe_events.specs.declared.event.Outcome.TheVariants as outcome
use Rattle.pe_rules.specs.History.{Step, RepliedHistory, some_if}
use Rattle.pe_rules.specs.Embedders.{page}
use Rattle.pe_rules.specs.Settings.{key_by_kind, key_for, pair_for, asking, prompt_pair, prompt_page, Setting, life_of_answer, stored_by_outcome, setting_named, holds, Standing, stored_by, is_undecided, dismissed_pair, counts, embargo, completes_embargo, after_dismissal, is_pair, after_unnamed, after_step, standing_of, last_setting, embargo_for, setting_by, stored_state, has_entry}
use Rattle.pe_rules.specs.PermissionState.{permission_state}
use Rattle.pe_isolation.proofs.Alike.{Alike, start, same, quiet, clock-alike, at-alike}
use Rattle.pe_isolation.proofs.Quiet.{no-asking, no-dismissal, no-setting}
use Rattle.pe_isolation.proofs.Made.{top-document-alike, page-alike}
use Rattle.pe_isolation.proofs.Shown.{current-alike, document-in-alike}
use Rattle.pe_isolation.proofs.Policies.{origin-alike, secure-alike, why-alike}

-- ---- pairs

key-alike : {T U : RepliedHistory} → Alike T U → (d : ℕ) (feature : Feature) → key_for T d feature ≡ key_for U d feature
unfolding key_for
key-alike r d feature = λ i. option_map (λ k. key_by_kind k (origin-alike r (top-document-alike r d i) i) (origin-alike r d i)) (key_of feature)

pub pair-alike : {T U : RepliedHistory} → Alike T U → (d : ℕ) (feature : Feature) → pair_for T d feature ≡ pair_for U d feature
unfolding pair_for
pair-alike r d feature = λ i. option_map (λ k. (feature, k)) (key-alike r d feature i)

asking-alike : {T U : RepliedHistory} → Alike T U → (e : Event) → asking e T ≡ asking e U
asking-alike r (event.Request frame feature) = λ i. option_and_then (λ d. option_map (λ f. (d, f)) (feature_named feature)) (document-in-alike r frame i)
asking-alike r e = refl

pub prompt-pair-alike : {T U : RepliedHistory} → Alike T U → (k : ℕ) → prompt_pair T k ≡ prompt_pair U k
unfolding prompt_pair
prompt-pair-alike r k =
    at-alike (λ s B. option_and_then (λ (q : ℕ × Feature). pair_for B q.0 q.1) (asking s.event B))
    (λ s B C q i. option_and_then (λ (x : ℕ × Feature). pair-alike q x.0 x.1 i) (asking-alike q s.event i))
    (λ s B h. ap (option_and_then (λ (q : ℕ × Feature). pair_for B q.0 q.1)) (no-asking s.event B h.event)) k r

pub prompt-page-alike : {T U : RepliedHistory} → Alike T U → (k : ℕ) → prompt_page T k ≡ prompt_page U k
unfolding prompt_page
prompt-page-alike r k =
    at-alike (λ s B. option_map (λ (q : ℕ × Feature). page B q.0) (asking s.event B))
    (λ s B C q i. option_map (λ (x : ℕ × Feature). page-alike q x.0 i) (asking-alike q s.event i))
    (λ s B h. ap (option_map (λ (q : ℕ × Feature). page B q.0)) (no-asking s.event B h.event)) k r

-- ---- settings

named-alike : {T U : RepliedHistory} → Alike T U → (time : ℕ) (e : Event) → setting_named time e T ≡ setting_named time e U
unfolding setting_named
named-alike r time (event.Answered prompt out given) = λ i.
    option_and_then (λ state. option_map (λ pair. record { pair = pair; state = state; life = life_of_answer time given (option_and_then (λ f. document-in-alike r f i) (prompt-page-alike r prompt i)) }) (prompt-pair-alike r prompt i)) (stored_by_outcome out)
named-alike r time (event.SetState feature first second state span) = refl
named-alike r time e = refl

holds-alike : {T U : RepliedHistory} → Alike T U → (now : ℕ) (x : Life) → holds T now x ≡ holds U now x
unfolding holds
holds-alike r now life.Forever = refl
holds-alike r now (life.Until end) = refl
holds-alike r now (life.Page d) = current-alike r d

stored-by-alike : {T U : RepliedHistory} → Alike T U → (now : ℕ) (last : Option Setting) → stored_by T now last ≡ stored_by U now last
unfolding stored_by
stored-by-alike r now last = λ i. option_and_then (λ x. some_if (holds-alike r now x.life i) x.state) last

dismissed-alike : {T U : RepliedHistory} → Alike T U → (e : Event) → dismissed_pair e T ≡ dismissed_pair e U
dismissed-alike r (event.Answered prompt outcome.Dismiss given) = prompt-pair-alike r prompt
dismissed-alike r e = refl

counts-alike : {T U : RepliedHistory} → Alike T U → (time : ℕ) (before : Standing) → counts T time before ≡ counts U time before
unfolding counts
counts-alike r time before = λ i. is_undecided (stored-by-alike r time before.last i)

after-alike : {T U : RepliedHistory} → Alike T U → (s : Step) (pair : Pair) (before : Standing) → after_step s T pair before ≡ after_step s U pair before
unfolding after_step after_unnamed
after-alike r s pair before = λ i.
    unwrap_or (option_map (λ x. record { last = Some x; dismissals = 0 }) (option_and_then (λ x. some_if (is_same_pair x.pair pair) x) (named-alike r s.time s.event i)))
    (cond (is_pair (dismissed-alike r s.event i) pair && counts-alike r s.time before i) (after_dismissal s.time pair before) before)

-- a quiet step leaves what stands
after-quiet : (s : Step) (T : RepliedHistory) (pair : Pair) (before : Standing) → setting_named s.time s.event T ≡ None → dismissed_pair s.event T ≡ None → after_step s T pair before ≡ before
unfolding after_step after_unnamed
after-quiet s T pair before named dismissed = rw (named, dismissed) refl

pub standing-alike : {T U : RepliedHistory} → Alike T U → (pair : Pair) → standing_of T pair ≡ standing_of U pair
unfolding standing_of
standing-alike start pair = refl
standing-alike (same s {T} {U} r) pair = after-alike r s pair (standing_of T pair) ∙ ap (after_step s U pair) (standing-alike r pair)
standing-alike (quiet s u {T} {U} time p q r) pair =
    after-quiet s T pair (standing_of T pair) (no-setting s.time s.event T p.event) (no-dismissal s.event T p.event)
    ∙ standing-alike r pair
    ∙ sym (after-quiet u U pair (standing_of U pair) (no-setting u.time u.event U q.event) (no-dismissal u.event U q.event))

last-setting-alike : {T U : RepliedHistory} → Alike T U → (pair : Pair) → last_setting T pair ≡ last_setting U pair
unfolding last_setting
last-setting-alike r pair = λ i. (standing-alike r pair i).last

embargo-alike : {T U : RepliedHistory} → Alike T U → (time : ℕ) (pair : Pair) → embargo_for time T pair ≡ embargo_for time U pair
unfolding embargo_for
embargo-alike r time pair = λ i. some_if (counts-alike r time (standing-alike r pair i) i && completes_embargo (standing-alike r pair i)) (embargo time pair)

pub setting-alike : {T U : RepliedHistory} → Alike T U → (time : ℕ) (e : Event) → setting_by time e T ≡ setting_by time e U
unfolding setting_by
setting-alike r time e = λ i. option_or (named-alike r time e i) (option_and_then (λ p. embargo-alike r time p i) (dismissed-alike r e i))

-- ---- what is stored

stored-alike : {T U : RepliedHistory} → Alike T U → (now : ℕ) (pair : Pair) → stored_state T now pair ≡ stored_state U now pair
unfolding stored_state
stored-alike r now pair = λ i. stored-by-alike r now (last-setting-alike r pair i) i

pub entry-alike : {T U : RepliedHistory} → Alike T U → (pair : Pair) → has_entry T pair ≡ has_entry U pair
unfolding has_entry
entry-alike r pair = λ i. is_some (stored-alike r (clock-alike r i) pair i)

pub state-alike : {T U : RepliedHistory} → Alike T U → (now d : ℕ) (feature : Feature) → permission_state T now d feature ≡ permission_state U now d feature
unfolding permission_state
state-alike r now d feature = λ i.
    cond (not (secure-alike r d i) || is_some (why-alike r feature d i)) state.Denied
    (unwrap_or (option_and_then (λ p. stored-alike r now p i) (pair-alike r d feature i)) state.Prompt)
