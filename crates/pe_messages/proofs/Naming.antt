-- What a post names, and what is told of it.
use Rattle.std.proofs.Common.{◌≡◌, ℕ, suc, ◌+◌, List, length, Option, Some, None, option_map, option_and_then, sym, ◌∙◌, ap, arith}
use Rattle.pe_features.specs.declared.capability.Capability.{Capability}
use Rattle.pe_features.specs.Capabilities.{capability_named}
use Rattle.pe_origin.specs.declared.origin.Origin.{Origin}
use Rattle.pe_delegation.specs.declared.message.Message.{Message}
use Rattle.pe_events.specs.declared.answer.Answer.{Answer}
use Rattle.pe_events.specs.declared.answer.Answer.TheVariants as answer
use Rattle.pe_events.specs.declared.event.Event.{Event}
use Rattle.pe_events.specs.declared.event.Event.TheVariants as event
use Rattle.pe_events.specs.declared.reason.Reason.{Reason}
use Rattle.pe_rules.specs.History.{Replied, RepliedHistory}
use Rattle.pe_rules.specs.Embedders.{page_of_frame}
use Rattle.pe_rules.specs.Current.{document_in}
use Rattle.pe_rules.specs.Settings.{word_origin}
use Rattle.pe_rules.specs.Delegation as rules
use Rattle.pe_rules.specs.Delegation.{message_by}
use Rattle.pe_rules.specs.Replies.{post_reason, answer_of_post, answer_or_done, answer_of, step_answer}
use Rattle.pe_messages.specs.Parts.{message_of_row, IsPost}

-- the message that these parts make
abbrev message_from : Option ℕ → Option ℕ → Option Origin → Option Capability → Option rules.Message
message_from document page origin capability =
    option_and_then (λ d. option_and_then (λ p. option_map (λ c. let y : rules.Message = record { page = p; target = d; origin = origin; capability = c } in y) capability) page) document

pub named : (T : RepliedHistory) (sender target : ℕ) (words : Option (List ℕ)) (capability : List ℕ) (x : Message) → IsPost T sender target words capability x
    → message_by (event.Post sender target words capability) T ≡ Some (message_of_row x)
named T sender target words capability x is =
    ap (λ o. message_from o (page_of_frame T sender) (option_and_then word_origin words) (capability_named capability)) is.document
    ∙ ap (λ o. message_from (Some x.target.doc) o (option_and_then word_origin words) (capability_named capability)) is.page
    ∙ ap (λ o. message_from (Some x.target.doc) (Some x.page) o (capability_named capability)) is.origin
    ∙ ap (λ o. message_from (Some x.target.doc) (Some x.page) (Some x.origin) o) is.delegated

-- the number of a message that was made is the next position
pub number-made : (duration : ℕ) (T : RepliedHistory) (now sender target number : ℕ) (words : Option (List ℕ)) (capability : List ℕ)
    → answer_of duration T now (event.Post sender target words capability) ≡ answer.MessageMade number → number ≡ suc (length T)
unfolding answer_of
number-made duration T now sender target number words capability h = by_document (document_in T sender) h
  where
    by_reason : (k : ℕ) (o : Option Reason) → answer_of_post k o ≡ answer.MessageMade number → number ≡ k
    by_reason k None e = cc
    by_reason k (Some why) e = cc

    by_document : (o : Option ℕ) → answer_or_done (option_map (λ d. answer_of_post (length T + 1) (post_reason duration T now d words capability)) o) ≡ answer.MessageMade number → number ≡ suc (length T)
    by_document None e = cc
    by_document (Some d) e = omega (arith, by_reason (length T + 1) (post_reason duration T now d words capability) e)

-- what is told of a post is its answer
pub told-posted : (duration : ℕ) (T : RepliedHistory) (now sender target number : ℕ) (words : Option (List ℕ)) (capability : List ℕ) (e : Event) → e ≡ event.Post sender target words capability
    → answer_of duration T now e ≡ answer.MessageMade number → step_answer duration T now e ≡ Replied (answer.MessageMade number)
told-posted duration T now sender target number words capability e is says =
    ap (step_answer duration T now) is ∙ ap (λ (a : Answer). Replied a) (sym (ap (answer_of duration T now) is) ∙ says)
