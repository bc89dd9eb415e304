-- What a change of the pending prompts leaves of the index of their pairs.
use Rattle.std.proofs.Common.{◌≡◌, ℕ, ◌≤◌, Bool, true, false, cond, List, [], ◌∷◌, ◌++◌, Option, None, Some, nat_eq, refl, sym, ap, subst, ◌∙◌, true≢false}
use Rattle.std.specs.Bool.{Decides}
use Rattle.std.specs.Map.{lookup, set_value, remove_entry}
use Rattle.std.specs.Prelude.{find, option_map}
use Rattle.pe_base.specs.declared.limits.TheConstants.{EVENT_LIMIT}
use Rattle.pe_arena.specs.declared.handle.DocRef.{DocRef}
use Rattle.pe_store.specs.Pairs.{Pair, is_same_pair}
use Rattle.pe_store.specs.Numbers.{KeyNumbers, number_of, HoldsNone, IsChangedFor}
use Rattle.pe_prompts.specs.declared.queue.Prompt.{Prompt}
use Rattle.pe_prompts.specs.Pending.{Pending, prompt_in, pair_of, number_for, with_request, joined}
use Rattle.pe_prompts.specs.Indexed.{pairs_in, number_among, AreSingle, IsIndex}

-- the number of a pair is that of the first prompt which asks for it
pub among : (pair : Pair) (ps : Pending) → number_among pair (pairs_in ps) ≡ number_for pair ps
among pair [] = refl
among pair (e ∷ ps) =
    let rest = among pair ps in
    elim (is_same_pair (pair_of e.1) pair) as (λ b. cond b (Some e.0) (number_among pair (pairs_in ps)) ≡ option_map (λ p. p.0) (cond b (Some e) (find (λ p. is_same_pair (pair_of p.1) pair) ps)))
    [ true ↦ refl | false ↦ rest ]

-- what the prompts ask for, once one joined, was written or taken out
pub pairs-joined : (number : ℕ) (asker : DocRef) (ps : Pending) → pairs_in (joined number asker ps) ≡ pairs_in ps
pairs-joined number asker [] = refl
pairs-joined number asker (e ∷ ps) =
    let rest = pairs-joined number asker ps in
    elim (nat_eq number e.0) as (λ b. pairs_in (cond b ((e.0, with_request asker e.1) ∷ ps) (e ∷ joined number asker ps)) ≡ (e.0, pair_of e.1) ∷ pairs_in ps)
    [ true ↦ refl | false ↦ ap (λ l. (e.0, pair_of e.1) ∷ l) rest ]

pub pairs-written : (number : ℕ) (ps : Pending) (p q : Prompt) → prompt_in number ps ≡ Some p → pair_of q ≡ pair_of p → pairs_in (set_value (nat_eq number) ps q) ≡ pairs_in ps
pairs-written number [] p q h same = refl
pairs-written number (e ∷ ps) p q h same =
    let rest = pairs-written number ps p q in
    (elim (nat_eq number e.0) as (λ b. cond b (Some e.1) (prompt_in number ps) ≡ Some p → pairs_in (cond b ((e.0, q) ∷ ps) (e ∷ set_value (nat_eq number) ps q)) ≡ (e.0, pair_of e.1) ∷ pairs_in ps) [
      | true ↦ λ k. let is : e.1 ≡ p = cc in ap (λ (x : Pair). (e.0, x) ∷ pairs_in ps) (same ∙ ap pair_of (sym is))
      | false ↦ λ k. ap (λ l. (e.0, pair_of e.1) ∷ l) (rest k same)
    ]) h

pairs-removed : (number : ℕ) (ps : Pending) → pairs_in (remove_entry (nat_eq number) ps) ≡ remove_entry (nat_eq number) (pairs_in ps)
pairs-removed number [] = refl
pairs-removed number (e ∷ ps) =
    let rest = pairs-removed number ps in
    elim (nat_eq number e.0) as (λ b. pairs_in (cond b ps (e ∷ remove_entry (nat_eq number) ps)) ≡ cond b (pairs_in ps) ((e.0, pair_of e.1) ∷ remove_entry (nat_eq number) (pairs_in ps)))
    [ true ↦ refl | false ↦ ap (λ l. (e.0, pair_of e.1) ∷ l) rest ]

pairs-push : (ps : Pending) (number : ℕ) (p : Prompt) → pairs_in (ps ++ (number, p) ∷ []) ≡ pairs_in ps ++ (number, pair_of p) ∷ []
pairs-push [] number p = refl
pairs-push (e ∷ ps) number p = ap (λ l. (e.0, pair_of e.1) ∷ l) (pairs-push ps number p)

pairs-looked-up : (number : ℕ) (ps : Pending) (p : Prompt) → prompt_in number ps ≡ Some p → lookup (nat_eq number) (pairs_in ps) ≡ Some (pair_of p)
pairs-looked-up number [] p h = absurd cc
pairs-looked-up number (e ∷ ps) p h =
    let rest = pairs-looked-up number ps p in
    (elim (nat_eq number e.0) as (λ b. cond b (Some e.1) (prompt_in number ps) ≡ Some p → cond b (Some (pair_of e.1)) (lookup (nat_eq number) (pairs_in ps)) ≡ Some (pair_of p))
    [ true ↦ λ k. let is : e.1 ≡ p = cc in ap (λ x. Some (pair_of x)) is | false ↦ λ k. rest k ]) h

-- where the pair stands nowhere, it stands neither first nor behind
parts : (b : Bool) (number : ℕ) (o : Option ℕ) → cond b (Some number) o ≡ None → (b ≡ false) × (o ≡ None)
parts true number o h = absurd cc
parts false number o h = (refl, h)

none-removed : (pair : Pair) (number : ℕ) (qs : List (ℕ × Pair)) → number_among pair qs ≡ None → number_among pair (remove_entry (nat_eq number) qs) ≡ None
none-removed pair number [] h = refl
none-removed pair number (q ∷ qs) h =
    let both = parts (is_same_pair q.1 pair) q.0 (number_among pair qs) h in
    let rest = none-removed pair number qs both.1 in
    elim (nat_eq number q.0) as (λ b. number_among pair (cond b qs (q ∷ remove_entry (nat_eq number) qs)) ≡ None)
    [ true ↦ both.1 | false ↦ ap (λ c. cond c (Some q.0) (number_among pair (remove_entry (nat_eq number) qs))) both.0 ∙ rest ]

single-removed : (number : ℕ) (qs : List (ℕ × Pair)) → AreSingle qs → AreSingle (remove_entry (nat_eq number) qs)
single-removed number [] h = tt
single-removed number (q ∷ qs) h =
    let rest = single-removed number qs h.1 in
    elim (nat_eq number q.0) as (λ b. AreSingle (cond b qs (q ∷ remove_entry (nat_eq number) qs))) [ true ↦ h.1 | false ↦ (none-removed q.1 number qs h.0, rest) ]

module _ (same : (x y : Pair) → Decides (is_same_pair x y) (x ≡ y)) where
  -- a pair that stands nowhere is behind the others once it is put there
  among-push : (pair : Pair) (number : ℕ) (new : Pair) (qs : List (ℕ × Pair)) → number_among new qs ≡ None
      → number_among pair (qs ++ (number, new) ∷ []) ≡ cond (is_same_pair new pair) (Some number) (number_among pair qs)
  among-push pair number new [] none = refl
  among-push pair number new (q ∷ qs) none =
      ap (cond (is_same_pair q.1 pair) (Some q.0)) (among-push pair number new qs both.1) ∙ by_tests (is_same_pair q.1 pair) refl (is_same_pair new pair) refl
    where
      both : (is_same_pair q.1 new ≡ false) × (number_among new qs ≡ None)
      both = parts (is_same_pair q.1 new) q.0 (number_among new qs) none

      by_tests : (b : Bool) → is_same_pair q.1 pair ≡ b → (c : Bool) → is_same_pair new pair ≡ c
          → cond b (Some q.0) (cond c (Some number) (number_among pair qs)) ≡ cond c (Some number) (cond b (Some q.0) (number_among pair qs))
      by_tests true e true f = absurd (true≢false (sym ((same q.1 new).1 ((same q.1 pair).0 e ∙ sym ((same new pair).0 f))) ∙ both.0))
      by_tests true e false f = refl
      by_tests false e true f = refl
      by_tests false e false f = refl

  single-push : (number : ℕ) (new : Pair) (qs : List (ℕ × Pair)) → number_among new qs ≡ None → AreSingle qs → AreSingle (qs ++ (number, new) ∷ [])
  single-push number new [] none h = (refl, tt)
  single-push number new (q ∷ qs) none h =
      (among-push q.1 number new qs both.1 ∙ by_test (is_same_pair new q.1) refl, single-push number new qs both.1 h.1)
    where
      both : (is_same_pair q.1 new ≡ false) × (number_among new qs ≡ None)
      both = parts (is_same_pair q.1 new) q.0 (number_among new qs) none

      by_test : (b : Bool) → is_same_pair new q.1 ≡ b → cond b (Some number) (number_among q.1 qs) ≡ None
      by_test true e = absurd (true≢false (sym ((same q.1 new).1 (sym ((same new q.1).0 e))) ∙ both.0))
      by_test false e = h.0

  -- a pair that stands with a number stands somewhere
  stands : (number : ℕ) (pair : Pair) (qs : List (ℕ × Pair)) → lookup (nat_eq number) qs ≡ Some pair → number_among pair qs ≡ None → ⊥
  stands number pair [] h none = absurd cc
  stands number pair (q ∷ qs) h none =
      let both = parts (is_same_pair q.1 pair) q.0 (number_among pair qs) none in
      let rest = stands number pair qs in
      (elim (nat_eq number q.0) as (λ b. cond b (Some q.1) (lookup (nat_eq number) qs) ≡ Some pair → ⊥)
      [ true ↦ λ k. let is : q.1 ≡ pair = cc in true≢false (sym ((same q.1 pair).1 is) ∙ both.0) | false ↦ λ k. rest k both.1 ]) h

  -- the pair that stood with a number is nowhere once that is taken out
  among-removed : (pair : Pair) (number : ℕ) (own : Pair) (qs : List (ℕ × Pair)) → AreSingle qs → lookup (nat_eq number) qs ≡ Some own
      → number_among pair (remove_entry (nat_eq number) qs) ≡ cond (is_same_pair own pair) None (number_among pair qs)
  among-removed pair number own [] h k = absurd cc
  among-removed pair number own (q ∷ qs) h k = by_number (among-removed pair number own qs h.1) (nat_eq number q.0) k
    where
      here : (b : Bool) → is_same_pair q.1 pair ≡ b → number_among pair qs ≡ cond b None (cond b (Some q.0) (number_among pair qs))
      here true e = ap (λ (x : Pair). number_among x qs) (sym ((same q.1 pair).0 e)) ∙ h.0
      here false e = refl

      behind : lookup (nat_eq number) qs ≡ Some own → (b : Bool) → is_same_pair q.1 pair ≡ b → (c : Bool) → is_same_pair own pair ≡ c
          → cond b (Some q.0) (cond c None (number_among pair qs)) ≡ cond c None (cond b (Some q.0) (number_among pair qs))
      behind l true e true f =
          let is : q.1 ≡ own = (same q.1 pair).0 e ∙ sym ((same own pair).0 f) in
          absurd (stands number own qs l (ap (λ (x : Pair). number_among x qs) (sym is) ∙ h.0))
      behind l true e false f = refl
      behind l false e true f = refl
      behind l false e false f = refl

      by_number : (lookup (nat_eq number) qs ≡ Some own → number_among pair (remove_entry (nat_eq number) qs) ≡ cond (is_same_pair own pair) None (number_among pair qs))
          → (b : Bool) → cond b (Some q.1) (lookup (nat_eq number) qs) ≡ Some own
          → number_among pair (cond b qs (q ∷ remove_entry (nat_eq number) qs)) ≡ cond (is_same_pair own pair) None (cond (is_same_pair q.1 pair) (Some q.0) (number_among pair qs))
      by_number rest true l =
          let is : q.1 ≡ own = cc in
          here (is_same_pair q.1 pair) refl ∙ ap (λ (x : Pair). cond (is_same_pair x pair) None (cond (is_same_pair q.1 pair) (Some q.0) (number_among pair qs))) is
      by_number rest false l =
          ap (cond (is_same_pair q.1 pair) (Some q.0)) (rest l)
          ∙ behind l (is_same_pair q.1 pair) refl (is_same_pair own pair) refl

  -- the index of the prompts, once one is put behind them
  pub index-push : (ps : Pending) (number : ℕ) (p : Prompt) (old new : List KeyNumbers) → IsIndex ps old → number_for (pair_of p) ps ≡ None → 1 ≤ number → number ≤ EVENT_LIMIT
      → IsChangedFor (pair_of p) (Some number) old new → IsIndex (ps ++ (number, p) ∷ []) new
  unfolding IsChangedFor
  index-push ps number p old new k none low high changed = record {
    single = subst AreSingle (sym (pairs-push ps number p)) (single-push number (pair_of p) (pairs_in ps) fresh k.single);
    found = λ pair.
        changed pair ∙ ap (cond (is_same_pair (pair_of p) pair) (Some number)) (k.found pair)
        ∙ sym (ap (number_among pair) (pairs-push ps number p) ∙ among-push pair number (pair_of p) (pairs_in ps) fresh);
    low = λ pair n e. by_test (λ m. 1 ≤ m) pair n low (k.low pair) (is_same_pair (pair_of p) pair) (sym (changed pair) ∙ e);
    high = λ pair n e. by_test (λ m. m ≤ EVENT_LIMIT) pair n high (k.high pair) (is_same_pair (pair_of p) pair) (sym (changed pair) ∙ e);
  }
    where
      fresh : number_among (pair_of p) (pairs_in ps) ≡ None
      fresh = among (pair_of p) ps ∙ none

      by_test : (P : ℕ → Type 0) (pair : Pair) (n : ℕ) → P number → ((m : ℕ) → number_of old pair ≡ Some m → P m)
          → (b : Bool) → cond b (Some number) (number_of old pair) ≡ Some n → P n
      by_test P pair n here others true e = let is : number ≡ n = cc in subst P is here
      by_test P pair n here others false e = others n e

  -- the index as before, once the number of a pair was put in and taken out again
  pub index-undone : (ps : Pending) (pair : Pair) (number : ℕ) (old mid new : List KeyNumbers) → IsIndex ps old → number_for pair ps ≡ None
      → IsChangedFor pair (Some number) old mid → IsChangedFor pair None mid new → IsIndex ps new
  unfolding IsChangedFor
  index-undone ps pair number old mid new k none put taken = index-alike ps old new k (λ x. taken x ∙ ap (cond (is_same_pair pair x) None) (put x) ∙ by_test x (is_same_pair pair x) refl)
    where
      by_test : (x : Pair) (b : Bool) → is_same_pair pair x ≡ b → cond b None (cond b (Some number) (number_of old x)) ≡ number_of old x
      by_test x true e = sym (ap (number_of old) (sym ((same pair x).0 e)) ∙ k.found pair ∙ among pair ps ∙ none)
      by_test x false e = refl

      index-alike : (qs : Pending) (a b : List KeyNumbers) → IsIndex qs a → ((x : Pair) → number_of b x ≡ number_of a x) → IsIndex qs b
      index-alike qs a b i h = record {
        single = i.single;
        found = λ x. h x ∙ i.found x;
        low = λ x n e. i.low x n (sym (h x) ∙ e);
        high = λ x n e. i.high x n (sym (h x) ∙ e);
      }

  -- the index of the prompts, once one is taken out
  pub index-removed : (ps : Pending) (number : ℕ) (p : Prompt) (old new : List KeyNumbers) → IsIndex ps old → prompt_in number ps ≡ Some p
      → IsChangedFor (pair_of p) None old new → IsIndex (remove_entry (nat_eq number) ps) new
  unfolding IsChangedFor
  index-removed ps number p old new k here changed = record {
    single = subst AreSingle (sym (pairs-removed number ps)) (single-removed number (pairs_in ps) k.single);
    found = λ pair.
        changed pair ∙ ap (cond (is_same_pair (pair_of p) pair) None) (k.found pair)
        ∙ sym (ap (number_among pair) (pairs-removed number ps) ∙ among-removed pair number (pair_of p) (pairs_in ps) k.single (pairs-looked-up number ps p here));
    low = λ pair n e. k.low pair n (still pair n (is_same_pair (pair_of p) pair) (sym (changed pair) ∙ e));
    high = λ pair n e. k.high pair n (still pair n (is_same_pair (pair_of p) pair) (sym (changed pair) ∙ e));
  }
    where
      still : (pair : Pair) (n : ℕ) (b : Bool) → cond b None (number_of old pair) ≡ Some n → number_of old pair ≡ Some n
      still pair n true e = absurd cc
      still pair n false e = e

-- the index of no prompt
pub index-none : (ps : Pending) (pairs : List KeyNumbers) → ps ≡ [] → HoldsNone pairs → IsIndex ps pairs
unfolding HoldsNone
index-none ps pairs is none = subst (λ (qs : Pending). IsIndex qs pairs) (sym is) (record {
  single = tt;
  found = none;
  low = λ pair n e. absurd (nothing n (sym (none pair) ∙ e));
  high = λ pair n e. absurd (nothing n (sym (none pair) ∙ e));
})
  where
    nothing : (n : ℕ) → None ≡ Some n → ⊥
    nothing n e = cc

-- the index of prompts that ask for the same
pub index-stays : (ps qs : Pending) (pairs : List KeyNumbers) → pairs_in qs ≡ pairs_in ps → IsIndex ps pairs → IsIndex qs pairs
index-stays ps qs pairs is k = record {
  single = subst AreSingle (sym is) k.single;
  found = λ pair. k.found pair ∙ ap (number_among pair) (sym is);
  low = k.low;
  high = k.high;
}

-- the number that the index has for a pair
pub index-found : (ps : Pending) (pairs : List KeyNumbers) → IsIndex ps pairs → (pair : Pair) → number_of pairs pair ≡ number_for pair ps
index-found ps pairs k pair = k.found pair ∙ among pair ps
