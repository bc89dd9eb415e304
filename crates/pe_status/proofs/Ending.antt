-- What the end of a status leaves.
use Rattle.std.proofs.Common.{◌≡◌, ℕ, ◌-◌, false, cond, ◌&&◌, List, None, sym, ap, ◌∙◌}
use Rattle.std.specs.Prelude.{◌==◌}
use Rattle.std.specs.BTreeMap.{BTreeMap}
use Rattle.std.specs.BTreeSet.{BTreeSet}
use Rattle.pe_counts.specs.Counts.{count_of}
use Rattle.pe_status.specs.declared.index.Index.{Index}
use Rattle.pe_status.specs.declared.place.Place.{Place}
use Rattle.pe_status.specs.declared.registered.Registered.{Registered}
use Rattle.pe_status.specs.Kept.{IsFreed, IsWithout}
use Rattle.pe_store.specs.Numbers.{KeyNumbers}
use Rattle.pe_status.specs.Places.{place, value_at, is_taken}

pub ending : (r : Registered) (group n : ℕ) (old : Index) (rows : BTreeMap Place Registered) (pairs : List KeyNumbers) (owned : BTreeSet Place) (pages : List (ℕ × ℕ)) (p : Place)
    → r.no ≡ n → ((g m : ℕ) → value_at rows g m ≡ cond (group == g && n == m) None (value_at old.rows g m)) → IsFreed r group rows old.pairs pairs → p ≡ place r.doc.doc r.no
    → ((d m : ℕ) → is_taken owned d m ≡ cond (p.group == d && p.no == m) false (is_taken old.owned d m))
    → ((q : ℕ) → count_of pages q ≡ cond (r.page == q) (count_of old.pages q - 1) (count_of old.pages q))
    → IsWithout r group old (record { rows = rows; pairs = pairs; owned = owned; pages = pages })
ending r group n old rows pairs owned pages p is rest freed at free less = record {
  rows = λ g m. rest g m ∙ ap (λ (k : ℕ). cond (group == g && k == m) None (value_at old.rows g m)) (sym is);
  pairs = freed;
  owned = λ d m. free d m ∙ ap (λ (q : Place). cond (q.group == d && q.no == m) false (is_taken old.owned d m)) at;
  pages = less;
}
