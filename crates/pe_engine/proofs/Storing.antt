-- Room in the store, and embargoes, once entries ended.
use Rattle.std.proofs.Common.{◌≡◌, ◌⊎◌, inl, inr, ℕ, zero, suc, ◌+◌, ◌<◌, ◌≤◌, Bool, true, false, ◌&&◌, ◌==◌, nat_le, nat_lt, length, Option, Some, None, option_map, option_and_then, refl, sym, ◌∙◌, ap, subst, arith}
use Rattle.pe_base.specs.declared.limits.TheConstants.{STORE_LIMIT, EMBARGO_DISMISSALS}
use Rattle.pe_base.specs.declared.state.State.{State}
use Rattle.pe_base.specs.declared.state.State.TheVariants as state
use Rattle.pe_store.specs.declared.entry.Entry.{Entry}
use Rattle.pe_store.specs.declared.key.Life.{Life}
use Rattle.pe_store.specs.Entries.{StoreValue, dismissals_of, entry_of, IsFull, counts_over, is_prompt, completes_embargo}
use Rattle.pe_store.specs.Pairs.{Pair}
use Rattle.pe_rules.specs.History.{some_if}
use Rattle.pe_rules.specs.Settings.{is_undecided}
use Rattle.pe_changes.specs.Gathered.{outlasts, lasting}
use Rattle.pe_changes.specs.StoreSteps.{IsLapsed}
use Rattle.pe_engine.specs.Prompting.{FitsStore}
use Rattle.pe_engine.specs.Using.{state_at}

-- ---- room

-- a store of fewer entries than there may be has no more after a lapse
pub lapsed-few : (to : ℕ) (old new : StoreValue) → IsLapsed to old new → length new.entries ≡ STORE_LIMIT → length old.entries < STORE_LIMIT → ⊥
lapsed-few to old new is full few = by_fewer is.fewer
  where
    by_fewer : (new ≡ old) ⊎ (length new.entries < length old.entries) → ⊥
    by_fewer (inl same) = let count : length new.entries ≡ length old.entries = ap (λ (v : StoreValue). length v.entries) same in absurd (omega (arith, full, few, count))
    by_fewer (inr less) = absurd (omega (arith, full, few, less))

-- where a pair finds no room after a lapse, it had no entry before
pub lapsed-missing : (to : ℕ) (old new : StoreValue) (pair : Pair) → IsLapsed to old new → IsFull new.entries pair → length old.entries ≤ STORE_LIMIT → entry_of old.entries pair ≡ None
lapsed-missing to old new pair is full most = by_fewer is.fewer
  where
    by_fewer : (new ≡ old) ⊎ (length new.entries < length old.entries) → entry_of old.entries pair ≡ None
    by_fewer (inl same) = ap (λ (v : StoreValue). entry_of v.entries pair) (sym same) ∙ full.1
    by_fewer (inr less) = let count = full.0 in absurd (omega (arith, count, most, less))

-- ---- embargoes

undecided-state : (s : State) → is_undecided (Some s) ≡ is_prompt s
undecided-state state.Granted = refl
undecided-state state.Denied = refl
undecided-state state.Prompt = refl

undecided-lasting : (now : ℕ) (o : Option Entry) → is_undecided (option_and_then (state_at now) o) ≡ counts_over (lasting now o)
undecided-lasting now None = refl
undecided-lasting now (Some e) = by_test (outlasts now e.life)
  where
    by_test : (b : Bool) → is_undecided (some_if b e.state) ≡ counts_over (some_if b e)
    by_test true = undecided-state e.state
    by_test false = refl

same-count : (old new : StoreValue) (pair : Pair) → new.dismissals ≡ old.dismissals → dismissals_of new pair ≡ dismissals_of old pair
unfolding dismissals_of
same-count old new pair same = rw same refl

-- one more dismissal is an embargo once entries ended where nothing decides the pair then, and as many dismissals were counted
pub embargo-later : (now : ℕ) (old later : StoreValue) (pair : Pair) → IsLapsed now old later
    → completes_embargo later pair ≡ (is_undecided (option_and_then (state_at now) (entry_of old.entries pair)) && nat_le EMBARGO_DISMISSALS (dismissals_of old pair + 1))
embargo-later now old later pair is =
    ap (λ o. counts_over o && nat_le EMBARGO_DISMISSALS (dismissals_of later pair + 1)) (is.found pair)
    ∙ ap (λ b. b && nat_le EMBARGO_DISMISSALS (dismissals_of later pair + 1)) (sym (undecided-lasting now (entry_of old.entries pair)))
    ∙ ap (λ n. is_undecided (option_and_then (state_at now) (entry_of old.entries pair)) && nat_le EMBARGO_DISMISSALS (n + 1)) (same-count old later pair is.dismissals)

-- of a count that never reaches it, one more is at least the number of an embargo where it is that number
pub reaches : (n : ℕ) → n < EMBARGO_DISMISSALS → (n + 1 == EMBARGO_DISMISSALS) ≡ nat_le EMBARGO_DISMISSALS (n + 1)
reaches zero few = refl
reaches (suc zero) few = refl
reaches (suc (suc zero)) few = refl
reaches (suc (suc (suc n))) few = absurd (omega (arith, few))

-- what is decided fits the store where a dismissal is no embargo and a setting has room
pub fits-store : (later : StoreValue) (pair : Pair) (o : Option (State × Life)) → (o ≡ None → completes_embargo later pair ≡ false) → ((x : State × Life) → o ≡ Some x → IsFull later.entries pair → ⊥) → FitsStore later pair o
fits-store later pair None dismissal setting = dismissal refl
fits-store later pair (Some x) dismissal setting = setting x refl
