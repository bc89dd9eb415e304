-- A store that stands for steps has as many entries as there are.
use Rattle.std.proofs.Common.{◌≡◌, suc, Bool, true, false, List, [], ◌∷◌, length, map, filter, Option, Some, None, is_some, option_map, refl, sym, ◌∙◌, ap, cond}
use Rattle.std.specs.Bool.{Decides}
use Rattle.std.specs.List.{find}
use Rattle.pe_store.specs.declared.entry.Entry.{Entry}
use Rattle.pe_store.specs.Entries.{StoreValue, pair_of, is_of, entry_of, IsOnePerPair}
use Rattle.pe_store.specs.Pairs.{Pair, is_same_pair}
use Rattle.pe_rules.specs.History.{RepliedHistory, clock}
use Rattle.pe_rules.specs.Settings.{has_entry}
use Rattle.pe_rules.specs.Causes.{entries}
use Rattle.pe_laws.specs.HistoryLaws.{HistoryLaws}
use Rattle.pe_laws.specs.EntriesLaws.{times_listed}
use Rattle.pe_changes.specs.Parts.{IsStore}
use Rattle.pe_changes.proofs.Stored.{stored-is}

pair-count : ((p q : Pair) → Decides (is_same_pair p q) (p ≡ q)) → (es : List Entry) (p : Pair) → IsOnePerPair es → times_listed p (map pair_of es) ≡ cond (is_some (entry_of es p)) 1 0
unfolding entry_of
pair-count pairs [] p one = refl
pair-count pairs (e ∷ es) p one = by_same (is_same_pair (pair_of e) p) refl (pair-count pairs es p one.1)
  where
    by_same : (b : Bool) → is_same_pair (pair_of e) p ≡ b → times_listed p (map pair_of es) ≡ cond (is_some (find (is_of p) es)) 1 0
        → length (cond b (pair_of e ∷ filter (λ q. is_same_pair q p) (map pair_of es)) (filter (λ q. is_same_pair q p) (map pair_of es))) ≡ cond (is_some (cond b (Some e) (find (is_of p) es))) 1 0
    by_same false is rest = rest
    by_same true is rest =
        let q : pair_of e ≡ p = (pairs (pair_of e) p).0 is in
        let none : find (is_of p) es ≡ None = ap (λ (p : Pair). find (is_of p) es) (sym q) ∙ one.0 in
        let no_more : times_listed p (map pair_of es) ≡ 0 = rest ∙ ap (λ (o : Option Entry). cond (is_some o) 1 0) none in
        ap suc no_more

some-mapped : {A B : Type 0} (f : A → B) (o : Option A) → is_some (option_map f o) ≡ is_some o
some-mapped f None = refl
some-mapped f (Some x) = refl

pub entry-is : HistoryLaws → (T : RepliedHistory) (value : StoreValue) (p : Pair) → IsStore T (clock T) value → is_some (entry_of value.entries p) ≡ has_entry T p
unfolding has_entry
entry-is laws T value p is = sym (some-mapped (λ (e : Entry). e.state) (entry_of value.entries p)) ∙ ap is_some (stored-is laws T (clock T) value p is)

length-map : (es : List Entry) → length (map pair_of es) ≡ length es
length-map [] = refl
length-map (e ∷ es) = ap suc (length-map es)

pub counted : HistoryLaws → ((p q : Pair) → Decides (is_same_pair p q) (p ≡ q)) → (T : RepliedHistory) (value : StoreValue) → IsStore T (clock T) value → IsOnePerPair value.entries → length value.entries ≡ length (entries T)
counted laws pairs T value is one =
    sym (laws.entries.entries_as_many T (map pair_of value.entries) (λ p. pair-count pairs value.entries p one ∙ ap (λ b. cond b 1 0) (entry-is laws T value p is)) ∙ length-map value.entries)
