-- The handles of the documents to which messages are posted.
use Rattle.std.proofs.Common.{◌≡◌, ◌≢◌, ℕ, suc, ◌≤◌, not, List, [], ◌∷◌, ◌++◌, length, Option, Some, nat_eq, ◌∙◌, ap, arith}
use Rattle.pe_arena.specs.declared.handle.DocRef.{DocRef}
use Rattle.pe_arena.specs.declared.handle.Handle.{Handle}
use Rattle.pe_origin.specs.declared.origin.Origin.{Origin}
use Rattle.pe_delegation.specs.declared.message.Message.{Message}
use Rattle.pe_delegation.specs.Posted.{Posted, without}
use Rattle.pe_rules.specs.History.{Step, RepliedHistory, some_if}
use Rattle.pe_rules.specs.Making.{frame_of}
use Rattle.pe_rules.specs.Current.{is_current, document_in}
use Rattle.pe_rules.specs.Origins.{origin_of}
use Rattle.pe_rules.specs.Delegation as rules
use Rattle.pe_laws.specs.HistoryLaws.{HistoryLaws}
use Rattle.pe_messages.specs.Parts.{message_of_row, IsMessages, AreAddressed, ShowsCurrent, AreShown}
use Rattle.pe_messages.specs.MessageSteps.{AreHandlesKept}
use Rattle.pe_messages.proofs.Rows.{each-weaker, each-both, each-filter, each-append}

pub shown : (T : RepliedHistory) (handle_of : ℕ → Option Handle) (shown : DocRef → Option Origin) (waiting : List (ℕ × Message)) → ShowsCurrent T handle_of shown → AreAddressed T handle_of waiting → AreShown T shown waiting
shown T handle_of sees waiting current addressed =
    each-weaker (λ e. handle_of (frame_of T e.1.target.doc) ≡ Some e.1.target.at) (λ e. sees e.1.target ≡ some_if (is_current T e.1.target.doc) (origin_of T e.1.target.doc)) waiting
    (λ e h. current e.1.target.doc e.1.target.at h) addressed

older : (d n : ℕ) → d ≤ n → d ≢ suc n
older d n h e = absurd (omega arith)

module _ (laws : HistoryLaws) where
  -- the handle of the frame of a document that was there
  stays : (s : Step) (T : RepliedHistory) (before after : ℕ → Option Handle) (r : DocRef) → r.doc ≤ length T → AreHandlesKept before after
      → before (frame_of T r.doc) ≡ Some r.at → after (frame_of (s ∷ T) r.doc) ≡ Some r.at
  stays s T before after r within kept h = ap after (laws.making.frame_of_older s T r.doc (older r.doc (length T) within)) ∙ kept (frame_of T r.doc) r.at h

  within-of : (T : RepliedHistory) (k : ℕ) (x : Message) → rules.message T k ≡ Some (message_of_row x) → x.target.doc ≤ length T
  within-of T k x h = let w = laws.delegation.message_within T k (message_of_row x) h in omega (arith, w.1, w.3)

  pub addressed-quiet : (s : Step) (T : RepliedHistory) (before after : ℕ → Option Handle) (posted : Posted) → IsMessages T posted → AreHandlesKept before after
      → AreAddressed T before posted.waiting → AreAddressed (s ∷ T) after posted.waiting
  addressed-quiet s T before after posted is kept addressed =
      each-weaker (λ e. (rules.message T e.0 ≡ Some (message_of_row e.1)) × (before (frame_of T e.1.target.doc) ≡ Some e.1.target.at)) (λ e. after (frame_of (s ∷ T) e.1.target.doc) ≡ Some e.1.target.at) posted.waiting
      (λ e h. stays s T before after e.1.target (within-of T e.0 e.1 h.0) kept h.1) (each-both _ _ posted.waiting is.kept addressed)

  pub addressed-posted : (s : Step) (T : RepliedHistory) (before after : ℕ → Option Handle) (target number : ℕ) (x : Message) (old new : Posted) → IsMessages T old → AreHandlesKept before after
      → document_in T target ≡ Some x.target.doc → before target ≡ Some x.target.at
      → AreAddressed T before old.waiting → new.waiting ≡ old.waiting ++ (number, x) ∷ [] → AreAddressed (s ∷ T) after new.waiting
  addressed-posted s T before after target number x old new is kept document handle addressed waiting =
      let w = laws.current.document_in_frame T target x.target.doc document in
      rw waiting (each-append (λ e. after (frame_of (s ∷ T) e.1.target.doc) ≡ Some e.1.target.at) old.waiting ((number, x) ∷ []) (addressed-quiet s T before after old is kept addressed)
      (stays s T before after x.target w.3 kept (ap before w.1 ∙ handle), tt))

  pub addressed-delivered : (s : Step) (T : RepliedHistory) (before after : ℕ → Option Handle) (m : ℕ) (old new : Posted) → IsMessages T old → AreHandlesKept before after
      → AreAddressed T before old.waiting → new.waiting ≡ without m old.waiting → AreAddressed (s ∷ T) after new.waiting
  unfolding without
  addressed-delivered s T before after m old new is kept addressed waiting =
      rw waiting (each-filter (λ e. after (frame_of (s ∷ T) e.1.target.doc) ≡ Some e.1.target.at) (λ e. not (nat_eq m e.0)) old.waiting (addressed-quiet s T before after old is kept addressed))
