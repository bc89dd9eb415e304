-- In histories that are alike the same statuses are live, and the limits are as far.
use Rattle.std.proofs.Common.{◌≡◌, ℕ, suc, Bool, false, not, ◌&&◌, ◌==◌, nat_lt, nat_le, List, length, map, filter, Some, None, is_some, is_none, unwrap_or, option_map, option_and_then, option_to_list, refl, ◌∙◌, ap}
use Rattle.pe_features.specs.Features.{feature_named}
use Rattle.pe_store.specs.Pairs.{Pair, is_same_pair}
use Rattle.pe_base.specs.declared.limits.TheConstants.{STORE_LIMIT}
use Rattle.pe_events.specs.declared.event.Event.{Event}
use Rattle.pe_events.specs.declared.event.Event.TheVariants as event
use Rattle.pe_rules.specs.History.{RepliedHistory, some_if, all_answers}
use Rattle.pe_rules.specs.Settings.{Setting, setting_named, dismissed_pair, setting_by, has_entry}
use Rattle.pe_rules.specs.Statuses.{Status, status_by, drops, is_live_status, live_statuses}
use Rattle.pe_laws.specs.StatusesLaws.{status_at}
use Rattle.pe_rules.specs.Causes.{is_same_number, live_pages, live_frames, page_statuses, state_found, prompt_to_join, is_set_since, entries, exceeds_store}
use Rattle.pe_isolation.proofs.Alike.{Alike, length-alike, newest-alike, all-alike, at-alike}
use Rattle.pe_isolation.proofs.Quiet.{no-query, no-drop, no-setting, no-dismissal}
use Rattle.pe_isolation.proofs.Made.{frames-made-alike, parent-frame-alike, page-alike, page-of-frame-alike}
use Rattle.pe_isolation.proofs.Shown.{current-alike, document-in-alike, live-alike}
use Rattle.pe_isolation.proofs.Stored.{pair-alike, setting-alike, entry-alike, state-alike}
use Rattle.pe_isolation.proofs.Prompted.{pending-of-alike}

-- ---- statuses

status-by-alike : {T U : RepliedHistory} → Alike T U → (e : Event) (k : ℕ) → status_by e T k ≡ status_by e U k
status-by-alike r (event.Query frame feature) k = λ i. option_and_then (λ d. option_map (λ f. record { number = k; document = d; feature = f }) (feature_named feature)) (document-in-alike r frame i)
status-by-alike r e k = refl

pub status-at-alike : {T U : RepliedHistory} → Alike T U → (k : ℕ) → status_at T k ≡ status_at U k
unfolding status_at
status-at-alike r k = at-alike (λ s B. status_by s.event B k) (λ s B C q. status-by-alike q s.event k) (λ s B h. no-query s.event B k h.event) k r

live-status-alike : {T U : RepliedHistory} → Alike T U → (x : Status) → is_live_status T x ≡ is_live_status U x
unfolding is_live_status
live-status-alike r x = λ i.
    is_none (newest-alike (λ s B. some_if (drops s.event x.number) x.number) (λ s B C q. refl) (λ s B h. ap (λ b. some_if b x.number) (no-drop s.event x.number h.event)) r i) && current-alike r x.document i

pub statuses-alike : {T U : RepliedHistory} → Alike T U → live_statuses T ≡ live_statuses U
unfolding live_statuses
statuses-alike r = λ i. filter (λ x. live-status-alike r x i)
    (all-alike (λ s B. option_to_list (status_by s.event B (suc (length B)))) (λ s B C q j. option_to_list (status-by-alike q s.event (suc (length-alike q j)) j))
    (λ s B h. ap option_to_list (no-query s.event B (suc (length B)) h.event)) r i)

-- ---- limits

pub live-pages-alike : {T U : RepliedHistory} → Alike T U → live_pages T ≡ live_pages U
unfolding live_pages
live-pages-alike r = λ i. filter (λ f. live-alike r f i && is_none (parent-frame-alike r f i)) (frames-made-alike r i)

pub live-frames-alike : {T U : RepliedHistory} → Alike T U → (top : ℕ) → live_frames T top ≡ live_frames U top
unfolding live_frames
live-frames-alike r top = λ i. filter (λ f. live-alike r f i && is_same_number (page-of-frame-alike r f i) (Some top)) (frames-made-alike r i)

pub page-statuses-alike : {T U : RepliedHistory} → Alike T U → (top : ℕ) → page_statuses T top ≡ page_statuses U top
unfolding page_statuses
page-statuses-alike r top = λ i. map (λ x. x.number) (filter (λ x. page-alike r x.document i == top) (statuses-alike r i))

pub found-alike : {T U : RepliedHistory} → Alike T U → (now frame : ℕ) (feature : List ℕ) → state_found T now frame feature ≡ state_found U now frame feature
unfolding state_found
found-alike r now frame feature = λ i. option_and_then (λ d. option_map (λ f. state-alike r now d f i) (feature_named feature)) (document-in-alike r frame i)

pub join-alike : {T U : RepliedHistory} → Alike T U → (frame : ℕ) (feature : List ℕ) → prompt_to_join T frame feature ≡ prompt_to_join U frame feature
unfolding prompt_to_join
join-alike r frame feature = λ i.
    option_and_then (λ d. option_and_then (λ f. option_and_then (λ p. pending-of-alike r (page-alike r d i) p i) (pair-alike r d f i)) (feature_named feature)) (document-in-alike r frame i)

no-setting-by : (time : ℕ) (e : Event) (B : RepliedHistory) → setting_named time e B ≡ None → dismissed_pair e B ≡ None → setting_by time e B ≡ None
unfolding setting_by
no-setting-by time e B named dismissed = rw (named, dismissed) refl

set-since-alike : {T U : RepliedHistory} → Alike T U → (k : ℕ) (pair : Pair) → is_set_since T k pair ≡ is_set_since U k pair
set-since-alike r k pair =
    ap is_some (newest-alike (λ s B. option_and_then (λ (x : Setting). some_if (is_same_pair x.pair pair && nat_lt k (suc (length B))) k) (setting_by s.time s.event B))
    (λ s B C q i. option_and_then (λ (x : Setting). some_if (is_same_pair x.pair pair && nat_lt k (suc (length-alike q i))) k) (setting-alike q s.time s.event i))
    (λ s B h. ap (option_and_then (λ (x : Setting). some_if (is_same_pair x.pair pair && nat_lt k (suc (length B))) k)) (no-setting-by s.time s.event B (no-setting s.time s.event B h.event) (no-dismissal s.event B h.event))) r)

-- the pairs that are listed by these tests
listed : (Pair → Bool) → (ℕ → Pair → Bool) → RepliedHistory → List Pair
listed has since T = all_answers (λ s B. option_to_list (option_and_then (λ (x : Setting). some_if (has x.pair && not (since (suc (length B)) x.pair)) x.pair) (setting_by s.time s.event B))) T

listed-alike : (has : Pair → Bool) (since : ℕ → Pair → Bool) → {T U : RepliedHistory} → Alike T U → listed has since T ≡ listed has since U
unfolding listed
listed-alike has since r =
    all-alike (λ s B. option_to_list (option_and_then (λ (x : Setting). some_if (has x.pair && not (since (suc (length B)) x.pair)) x.pair) (setting_by s.time s.event B)))
    (λ s B C q i. option_to_list (option_and_then (λ (x : Setting). some_if (has x.pair && not (since (suc (length-alike q i)) x.pair)) x.pair) (setting-alike q s.time s.event i)))
    (λ s B h. ap (λ o. option_to_list (option_and_then (λ (x : Setting). some_if (has x.pair && not (since (suc (length B)) x.pair)) x.pair) o)) (no-setting-by s.time s.event B (no-setting s.time s.event B h.event) (no-dismissal s.event B h.event))) r

entries-alike : {T U : RepliedHistory} → Alike T U → entries T ≡ entries U
unfolding entries listed
entries-alike {T} {U} r = (λ i. listed (λ p. entry-alike r p i) (λ k p. set-since-alike r k p i) T) ∙ listed-alike (has_entry U) (λ k p. is_set_since U k p) r

pub exceeds-store-alike : {T U : RepliedHistory} → Alike T U → (now : ℕ) (e : Event) → exceeds_store T now e ≡ exceeds_store U now e
unfolding exceeds_store
exceeds-store-alike r now e = λ i. unwrap_or (option_map (λ x. not (entry-alike r x.pair i) && nat_le STORE_LIMIT (length (entries-alike r i))) (setting-alike r now e i)) false
