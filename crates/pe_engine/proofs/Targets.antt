-- The frames of a tree show the origin of each document that is current, and nothing of others.
use Rattle.std.proofs.Common.{◌≡◌, ℕ, Bool, true, false, ◌==◌, cond, List, Option, Some, None, is_some, option_map, option_and_then, refl, sym, ◌∙◌, ap, arith, true≢false}
use Rattle.std.proofs.lemmas.Bool.Decides.{nat_tests}
use Rattle.pe_frames.specs.Forest.{Entry, Forest, entry_of, numbered, doc_of}
use Rattle.pe_origin.specs.declared.origin.Origin.{Origin}
use Rattle.pe_rules.specs.History.{History, some_if}
use Rattle.pe_rules.specs.Making.{frame_of}
use Rattle.pe_rules.specs.Current.{is_current, document_in, is_live}
use Rattle.pe_rules.specs.Origins.{origin_of}
use Rattle.pe_rules.specs.Replies.{replied, is_regular}
use Rattle.pe_laws.specs.HistoryLaws.{HistoryLaws}
use Rattle.pe_messages.specs.Parts.{ShowsCurrent}
use Rattle.pe_engine.specs.declared.engine.Made.{Made}
use Rattle.pe_engine.specs.declared.row.Row.{Row}
use Rattle.pe_engine.specs.Objects.{handle_at}
use Rattle.pe_engine.specs.Tree.{IsTree}
use Rattle.pe_engine.proofs.Look.{node-at, live-at}

module _ (laws : HistoryLaws) where
  lives : (duration : ℕ) (H : History) (d : ℕ) → is_regular duration H ≡ true → is_current (replied duration H) d ≡ true → is_live (replied duration H) (frame_of (replied duration H) d) ≡ true
  unfolding is_live
  lives duration H d regular current = ap is_some (laws.current.shown_in_frame duration H d regular current)

  pub shows-origins : (duration : ℕ) (H : History) (ms : List Made) (v : Forest Row) → is_regular duration H ≡ true → IsTree (replied duration H) ms v
      → ShowsCurrent (replied duration H) (handle_at ms) (λ r. option_map (λ (x : Row). x.origin) (doc_of (λ (x : Row). x.doc) v.entries r))
  shows-origins duration H ms v regular tree d h at = by_entry (entry_of v.entries h) refl (is_current (replied duration H) d) refl
    where
      by_number : (e : Entry Row) → entry_of v.entries h ≡ Some e → (b : Bool) → (e.doc.doc == d) ≡ b → (c : Bool) → is_current (replied duration H) d ≡ c
          → option_map (λ (x : Row). x.origin) (cond b (Some e.doc) None) ≡ some_if c (origin_of (replied duration H) d)
      by_number e is true same true current =
          let T = replied duration H in
          let (frame, node) = node-at T ms v (frame_of T d) h e tree at is in
          let one : e.doc.doc ≡ d = grind (arith, nat_tests) in
          ap (λ (o : Origin). Some o) (node.row.settled.origin ∙ ap (origin_of T) one)
      by_number e is true same false gone =
          let T = replied duration H in
          let (frame, node) = node-at T ms v (frame_of T d) h e tree at is in
          let one : e.doc.doc ≡ d = grind (arith, nat_tests) in
          let shown = laws.current.document_in_frame T e.frame e.doc.doc node.document in
          absurd (true≢false (sym shown.0 ∙ ap (is_current T) one ∙ gone))
      by_number e is false other true current =
          let T = replied duration H in
          let (frame, node) = node-at T ms v (frame_of T d) h e tree at is in
          let own : document_in T (frame_of T d) ≡ Some d = laws.current.shown_in_frame duration H d regular current in
          let both : ◌≡◌ {A = Option ℕ} (Some e.doc.doc) (Some d) = sym node.document ∙ ap (document_in T) frame ∙ own in
          let one : e.doc.doc ≡ d = cc in
          absurd (true≢false (sym (let same : (e.doc.doc == d) ≡ true = grind (arith, nat_tests) in same) ∙ other))
      by_number e is false other false gone = refl

      by_entry : (o : Option (Entry Row)) → entry_of v.entries h ≡ o → (c : Bool) → is_current (replied duration H) d ≡ c
          → option_map (λ (x : Row). x.origin) (option_and_then (λ e. numbered (λ (x : Row). x.doc) d e.doc) o) ≡ some_if c (origin_of (replied duration H) d)
      by_entry None is false gone = refl
      by_entry None is true current =
          let T = replied duration H in
          absurd (true≢false (sym (lives duration H d regular current) ∙ sym (live-at laws T ms v (frame_of T d) h tree at) ∙ ap is_some is))
      by_entry (Some e) is c current = by_number e is (e.doc.doc == d) refl c current
