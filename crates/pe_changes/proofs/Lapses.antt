-- Entries that are taken out one by one, and the changes that this brings.
use Rattle.std.proofs.Common.{◌≡◌, ◌⊎◌, inl, inr, ℕ, zero, suc, ◌+◌, ◌<◌, ◌≤◌, Bool, true, false, ◌&&◌, nat_lt, List, [], ◌∷◌, ◌++◌, length, filter, flat_map, slice_get, Option, Some, None, is_some, option_and_then, refl, sym, ◌∙◌, ap, arith, cond, subst, true≢false}
use Rattle.std.specs.Bool.{Decides}
use Rattle.std.specs.List.{find}
use Rattle.std.proofs.lemmas.Bool.Decides.{nat_tests}
use Rattle.pe_base.specs.declared.state.State.{State}
use Rattle.pe_base.specs.declared.state.State.TheVariants as state
use Rattle.pe_events.specs.declared.answer.Change.{Change}
use Rattle.pe_store.specs.declared.entry.Entry.{Entry}
use Rattle.pe_store.specs.declared.key.Life.{Life}
use Rattle.pe_store.specs.declared.key.Life.TheVariants as life
use Rattle.pe_store.specs.Due.{moment_of, IsDue}
use Rattle.pe_store.specs.Entries as store
use Rattle.pe_store.specs.Entries.{StoreValue}
use Rattle.pe_store.specs.Pairs.{Pair, is_same_pair}
use Rattle.pe_status.specs.declared.registered.Registered.{Registered}
use Rattle.pe_status.specs.Registry.{pair_of, is_under, later_under}
use Rattle.pe_changes.specs.Bags.{count}
use Rattle.pe_changes.specs.Gathered.{change_from, outlasts, lasting, change_at_end, change_by_entry, change_by_lapse, change_so_far, NoneEnds, IsLeft, AreSomeLapses, AreLapses}
use Rattle.pe_changes.proofs.Counts.{count-append, count-split, flat-none, flat-same, each-all}

-- ---- the statuses of a pair

and-true : (b : Bool) → (b && true) ≡ b
and-true true = refl
and-true false = refl

filter-same : (p q : Registered → Bool) → ((r : Registered) → p r ≡ q r) → (rs : List Registered) → filter p rs ≡ filter q rs
filter-same p q same [] = refl
filter-same p q same (r ∷ rs) = rw (same r, filter-same p q same rs) refl

pub all-under : (pair : Pair) (rs : List Registered) → later_under pair None rs ≡ filter (is_under pair) rs
unfolding later_under
all-under pair rs = filter-same (λ r. is_under pair r && true) (is_under pair) (λ r. and-true (is_under pair r)) rs

-- ---- none yet

gone-none : (to : ℕ) (silent : Registered → Bool) (entries : List Entry) (r : Registered) → change_so_far to silent entries entries r ≡ []
unfolding change_so_far change_by_lapse
gone-none to silent entries r = by_entry (store.entry_of entries (pair_of r))
  where
    by_entry : (o : Option Entry) → cond (is_some o) [] (change_by_entry to silent r o) ≡ []
    by_entry None = refl
    by_entry (Some e) = refl

pub lapses-none : (to : ℕ) (silent : Registered → Bool) (live : List Registered) (entries : List Entry) → AreSomeLapses to silent live entries entries []
lapses-none to silent live entries = record {
  left = λ p. inl refl;
  bag = λ test. ap (count test) (sym (flat-none (change_so_far to silent entries entries) (gone-none to silent entries) live));
}

-- ---- one more

not-kept : (to : ℕ) (e : Entry) (moment : ℕ) → e.life ≡ life.Until moment → moment ≤ to → lasting to (Some e) ≡ None
not-kept to e moment ends le = let fails : nat_lt to moment ≡ false = grind (arith, nat_tests) in rw (ends, fails) refl

-- where none ends by the time, there is none that ended
pub none-ended : (to : ℕ) (old now : StoreValue) (e : Entry) (moment : ℕ) → NoneEnds to old.entries → now ≡ old → store.entry_of now.entries (store.pair_of e) ≡ Some e → e.life ≡ life.Until moment → moment ≤ to → ⊥
none-ended to old now e moment none same was ends le =
    let there : store.entry_of old.entries (store.pair_of e) ≡ Some e = ap (λ (v : StoreValue). store.entry_of v.entries (store.pair_of e)) (sym same) ∙ was in
    let absent : ◌≡◌ {A = Option Entry} None (Some e) = sym (not-kept to e moment ends le) ∙ ap (lasting to) (sym there) ∙ none (store.pair_of e) ∙ there in cc

-- one that is taken out leaves fewer
pub fewer-more : (old now new : StoreValue) → (now ≡ old) ⊎ (length now.entries < length old.entries) → length new.entries + 1 ≡ length now.entries → (new ≡ old) ⊎ (length new.entries < length old.entries)
fewer-more old now new (inl same) less = let count : length now.entries ≡ length old.entries = ap (λ (v : StoreValue). length v.entries) same in inr (omega (arith, count, less))
fewer-more old now new (inr few) less = inr (omega (arith, few, less))

module _ (pairs : (p q : Pair) → Decides (is_same_pair p q) (p ≡ q)) (to : ℕ) (silent : Registered → Bool) (live : List Registered) (old now : List Entry) (new : List Entry) (e : Entry) where
  -- what the entry was at the beginning
  was-there : store.entry_of now (store.pair_of e) ≡ Some e → IsLeft to (store.entry_of old (store.pair_of e)) (store.entry_of now (store.pair_of e)) → store.entry_of old (store.pair_of e) ≡ Some e
  was-there was (inl same) = sym same ∙ was
  was-there was (inr gone) = let absent : ◌≡◌ {A = Option Entry} None (Some e) = sym gone.0 ∙ was in cc

  left-more : (moment : ℕ) → e.life ≡ life.Until moment → moment ≤ to → store.entry_of now (store.pair_of e) ≡ Some e
      → ((p : Pair) → store.entry_of new p ≡ cond (is_same_pair (store.pair_of e) p) None (store.entry_of now p))
      → ((p : Pair) → IsLeft to (store.entry_of old p) (store.entry_of now p)) → (p : Pair) → IsLeft to (store.entry_of old p) (store.entry_of new p)
  left-more moment ends le was found left p = by_same (is_same_pair (store.pair_of e) p) refl (found p)
    where
      by_same : (b : Bool) → is_same_pair (store.pair_of e) p ≡ b → store.entry_of new p ≡ cond b None (store.entry_of now p) → IsLeft to (store.entry_of old p) (store.entry_of new p)
      by_same false is f = subst (IsLeft to (store.entry_of old p)) (sym f) (left p)
      by_same true is f =
          let q : store.pair_of e ≡ p = (pairs (store.pair_of e) p).0 is in
          let o : store.entry_of old p ≡ Some e = ap (store.entry_of old) (sym q) ∙ was-there was (left (store.pair_of e)) in
          inr (f, ap (lasting to) o ∙ not-kept to e moment ends le)

  gone-before : store.entry_of now (store.pair_of e) ≡ Some e → (r : Registered) → is_under (store.pair_of e) r ≡ true → change_so_far to silent old now r ≡ []
  unfolding change_so_far
  gone-before was r is =
      let q : pair_of r ≡ store.pair_of e = (pairs (pair_of r) (store.pair_of e)).0 is in
      let o : store.entry_of now (pair_of r) ≡ Some e = ap (store.entry_of now) q ∙ was in
      rw o refl

  gone-now : (moment : ℕ) → e.life ≡ life.Until moment → moment ≤ to → store.entry_of now (store.pair_of e) ≡ Some e
      → ((p : Pair) → store.entry_of new p ≡ cond (is_same_pair (store.pair_of e) p) None (store.entry_of now p))
      → ((p : Pair) → IsLeft to (store.entry_of old p) (store.entry_of now p))
      → (r : Registered) → is_under (store.pair_of e) r ≡ true → change_so_far to silent old new r ≡ change_from silent moment e.state state.Prompt r
  unfolding change_so_far change_by_lapse
  gone-now moment ends le was found left r is =
      let q : pair_of r ≡ store.pair_of e = (pairs (pair_of r) (store.pair_of e)).0 is in
      let same : is_same_pair (store.pair_of e) (pair_of r) ≡ true = (pairs (store.pair_of e) (pair_of r)).1 (sym q) in
      let n : store.entry_of new (pair_of r) ≡ None = found (pair_of r) ∙ ap (λ b. cond b None (store.entry_of now (pair_of r))) same in
      let o : store.entry_of old (pair_of r) ≡ Some e = ap (store.entry_of old) q ∙ was-there was (left (store.pair_of e)) in
      let fails : nat_lt to moment ≡ false = grind (arith, nat_tests) in
      rw (n, o, ends, fails) refl

  gone-other : ((p : Pair) → store.entry_of new p ≡ cond (is_same_pair (store.pair_of e) p) None (store.entry_of now p))
      → (r : Registered) → is_under (store.pair_of e) r ≡ false → change_so_far to silent old new r ≡ change_so_far to silent old now r
  unfolding change_so_far
  gone-other found r is = by_same (is_same_pair (store.pair_of e) (pair_of r)) refl (found (pair_of r))
    where
      by_same : (b : Bool) → is_same_pair (store.pair_of e) (pair_of r) ≡ b → store.entry_of new (pair_of r) ≡ cond b None (store.entry_of now (pair_of r))
          → cond (is_some (store.entry_of new (pair_of r))) [] (change_by_lapse to silent old r) ≡ cond (is_some (store.entry_of now (pair_of r))) [] (change_by_lapse to silent old r)
      by_same false k f = rw f refl
      by_same true k f =
          let q : store.pair_of e ≡ pair_of r = (pairs (store.pair_of e) (pair_of r)).0 k in
          let under : is_under (store.pair_of e) r ≡ true = (pairs (pair_of r) (store.pair_of e)).1 (sym q) in
          absurd (true≢false (sym under ∙ is))

pub lapses-more : (pairs : (p q : Pair) → Decides (is_same_pair p q) (p ≡ q)) (to : ℕ) (silent : Registered → Bool) (live : List Registered) (old now new : List Entry) (e : Entry) (moment : ℕ) (before after : List Change)
    → moment ≤ to → store.entry_of now (store.pair_of e) ≡ Some e → e.life ≡ life.Until moment
    → ((p : Pair) → store.entry_of new p ≡ cond (is_same_pair (store.pair_of e) p) None (store.entry_of now p))
    → after ≡ before ++ flat_map (change_from silent moment e.state state.Prompt) (later_under (store.pair_of e) None live)
    → AreSomeLapses to silent live old now before → AreSomeLapses to silent live old new after
lapses-more pairs to silent live old now new e moment before after le was ends found changes some = record {
  left = left-more pairs to silent live old now new e moment ends le was found some.left;
  bag = λ test.
      let same = ap (λ rs. before ++ flat_map (change_from silent moment e.state state.Prompt) rs) (all-under (store.pair_of e) live) in
      let more = count-append test before (flat_map (change_from silent moment e.state state.Prompt) (filter (is_under (store.pair_of e)) live)) in
      let split = count-split test (is_under (store.pair_of e)) (change_so_far to silent old now) (change_from silent moment e.state state.Prompt) (change_so_far to silent old new)
      (gone-before pairs to silent live old now new e was)
      (gone-now pairs to silent live old now new e moment ends le was found some.left)
      (gone-other pairs to silent live old now new e found) live in
      let so_far = some.bag test in
      ap (count test) (changes ∙ same) ∙ omega arith;
}

-- ---- no more

at-place : (p : Pair) (es : List Entry) (e : Entry) → store.entry_of es p ≡ Some e → (place : ℕ) × (slice_get es place ≡ Some e)
unfolding store.entry_of
at-place p [] e h = cc
at-place p (x ∷ es) e h = by_test (store.is_of p x) h (at-place p es e)
  where
    by_test : (b : Bool) → cond b (Some x) (find (store.is_of p) es) ≡ Some e → (find (store.is_of p) es ≡ Some e → (place : ℕ) × (slice_get es place ≡ Some e)) → (place : ℕ) × (slice_get (x ∷ es) place ≡ Some e)
    by_test true h rest = (zero, h)
    by_test false h rest = let k = rest h in (suc k.0, k.1)

outlasts-all : (to : ℕ) (now : List Entry) → IsDue now to None → (p : Pair) (e : Entry) → store.entry_of now p ≡ Some e → outlasts to e.life ≡ true
outlasts-all to now due p e h = by_life e.life refl
  where
    by_life : (l : Life) → e.life ≡ l → outlasts to e.life ≡ true
    by_life life.Forever is = rw is refl
    by_life (life.Page d) is = rw is refl
    by_life (life.Until moment) is =
        let at = at-place p now e h in
        let lt : to < moment = due at.0 moment (ap (option_and_then (λ (e : Entry). moment_of e.life)) at.1 ∙ ap moment_of is) in
        rw is (grind (arith, nat_tests))

lapse-outlasted : (to : ℕ) (silent : Registered → Bool) (r : Registered) (before : State) (l : Life) → outlasts to l ≡ true → change_at_end to silent r before l ≡ []
lapse-outlasted to silent r before life.Forever h = refl
lapse-outlasted to silent r before (life.Page d) h = refl
lapse-outlasted to silent r before (life.Until moment) h = rw h refl

gone-all : (to : ℕ) (silent : Registered → Bool) (old now : List Entry) → IsDue now to None → (r : Registered) → IsLeft to (store.entry_of old (pair_of r)) (store.entry_of now (pair_of r))
    → change_so_far to silent old now r ≡ change_by_lapse to silent old r
unfolding change_so_far change_by_lapse
gone-all to silent old now due r left = by_entry (store.entry_of old (pair_of r)) (store.entry_of now (pair_of r)) refl left
  where
    by_entry : (o n : Option Entry) → store.entry_of now (pair_of r) ≡ n → IsLeft to o n → cond (is_some n) [] (change_by_entry to silent r o) ≡ change_by_entry to silent r o
    by_entry o None is left = refl
    by_entry None (Some e) is left = refl
    by_entry (Some f) (Some e) is (inl same) =
        sym (lapse-outlasted to silent r f.state f.life (outlasts-all to now due (pair_of r) f (is ∙ same)))
    by_entry (Some f) (Some e) is (inr gone) = let absent : ◌≡◌ {A = Option Entry} (Some e) None = gone.0 in cc

pub lapses-all : (to : ℕ) (silent : Registered → Bool) (live : List Registered) (old now : List Entry) (changes : List Change)
    → IsDue now to None → AreSomeLapses to silent live old now changes → AreLapses to silent live old now changes
lapses-all to silent live old now changes due some = record {
  left = λ p. left_by p (store.entry_of old p) (store.entry_of now p) refl refl (some.left p);
  bag = λ test. some.bag test ∙ ap (count test) (flat-same (change_so_far to silent old now) (change_by_lapse to silent old) live (each-all _ live (λ r. gone-all to silent old now due r (some.left (pair_of r)))));
}
  where
    left_by : (p : Pair) (o n : Option Entry) → store.entry_of old p ≡ o → store.entry_of now p ≡ n → IsLeft to o n → n ≡ lasting to o
    left_by p o n was is (inr gone) = gone.0 ∙ sym gone.1
    left_by p None n was is (inl same) = same
    left_by p (Some e) n was is (inl same) = let k = outlasts-all to now due p e (is ∙ same) in same ∙ rw k refl
