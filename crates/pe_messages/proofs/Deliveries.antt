-- What messages that stand for steps say of a delivery, and of the limit of a post.
use Rattle.std.proofs.Common.{◌≡◌, ℕ, ◌+◌, ◌<◌, ◌≤◌, Bool, true, false, cond, not, ◌&&◌, ◌||◌, ◌==◌, nat_le, nat_lt, List, [], ◌∷◌, length, Option, Some, None, is_some, is_none, unwrap_or, option_map, if◌then◌else◌, refl, sym, ◌∙◌, ap, arith}
use Rattle.std.specs.Option.{option_or}
use Rattle.pe_base.specs.declared.limits.TheConstants.{EVENT_LIMIT, MESSAGE_LIMIT}
use Rattle.pe_arena.specs.declared.handle.DocRef.{DocRef}
use Rattle.pe_features.specs.declared.capability.Capability.{Capability}
use Rattle.pe_origin.specs.declared.origin.Origin.{Origin}
use Rattle.pe_origin.specs.Origins.{is_same_origin}
use Rattle.pe_delegation.specs.declared.delivery.Delivery.{Delivery}
use Rattle.pe_delegation.specs.declared.delivery.Delivery.TheVariants.{Put, OtherOrigin}
use Rattle.pe_delegation.specs.declared.message.DeliverFault.TheVariants.{Unknown, Settled}
use Rattle.pe_delegation.specs.declared.message.Message.{Message}
use Rattle.pe_delegation.specs.Posted.{Posted, message_of, was_given, deliver_fault, waiting_count, delivery_to}
use Rattle.pe_events.specs.declared.answer.Answer.{Answer}
use Rattle.pe_events.specs.declared.answer.Answer.TheVariants as answer
use Rattle.pe_events.specs.declared.cause.Cause.{Cause}
use Rattle.pe_events.specs.declared.cause.Cause.TheVariants as cause
use Rattle.pe_events.specs.declared.event.Event.TheVariants as event
use Rattle.pe_rules.specs.History.{Replied, RepliedHistory, some_if, clock}
use Rattle.pe_rules.specs.Numbering.{is_message}
use Rattle.pe_rules.specs.Embedders.{page_of_frame}
use Rattle.pe_rules.specs.Current.{is_current}
use Rattle.pe_rules.specs.Origins.{origin_of}
use Rattle.pe_rules.specs.Settings.{setting_named, setting_by}
use Rattle.pe_rules.specs.Delegation as rules
use Rattle.pe_rules.specs.Delegation.{is_same_capability, is_message_settled, waiting_messages, is_delivered, is_message_for, hands_over}
use Rattle.pe_rules.specs.Causes.{names_unknown, names_settled, names_closed, names_not_shown, has_bad_url, has_bad_feature, has_bad_call, has_bad_capability, names_other_page, exceeds_pages, exceeds_depth, exceeds_frames, exceeds_statuses, exceeds_pending, exceeds_store, first_some, cause_of}
use Rattle.pe_rules.specs.Replies.{answer_of_delivery, answer_or_done, answer_of}
use Rattle.pe_laws.specs.HistoryLaws.{HistoryLaws}
use Rattle.pe_messages.specs.Parts.{message_of_row, IsMessages, cause_of_fault, AreShown, answer_by_delivery, is_put}
use Rattle.pe_messages.proofs.Rows.{each-found, counted-listed}

-- ---- refusals

pub fault : (T : RepliedHistory) (posted : Posted) (m : ℕ) → IsMessages T posted
    → deliver_fault posted m ≡ (if names_unknown T (event.Deliver m) then Some Unknown else (if names_settled T (event.Deliver m) then Some Settled else None))
unfolding names_unknown names_settled
fault T posted m is = by_message (was_given posted.given m) (is_message T m) (is_message_settled T m) (message_of posted.waiting m) (is.given m) (is.unsettled m)
  where
    by_message : (given made settled : Bool) (o : Option Message) → given ≡ made → is_some o ≡ (made && not settled)
        → cond given (cond (is_none o) (Some Settled) None) (Some Unknown) ≡ cond (false || not made) (Some Unknown) (cond settled (Some Settled) None)
    by_message true true true None g w = refl
    by_message true true true (Some x) g w = cc
    by_message true true false None g w = cc
    by_message true true false (Some x) g w = refl
    by_message true false settled o g w = cc
    by_message false true settled o g w = cc
    by_message false false settled o g w = refl

-- no other cause of what is named, of words or of limits applies to a delivery
delivery-causes : (T : RepliedHistory) (now m : ℕ)
    → cause_of T now (event.Deliver m)
    ≡ option_or (some_if (nat_le EVENT_LIMIT (length T)) cause.LimitEvents) (option_or (some_if (nat_lt now (clock T)) cause.TimeBack)
    (option_or (some_if (names_unknown T (event.Deliver m)) cause.Unknown) (option_or (some_if (names_settled T (event.Deliver m)) cause.Settled) None)))
unfolding cause_of names_closed names_not_shown has_bad_url has_bad_feature has_bad_call has_bad_capability names_other_page exceeds_pages exceeds_depth exceeds_frames exceeds_statuses exceeds_pending exceeds_store setting_named setting_by
delivery-causes T now m = refl

pub refused : (T : RepliedHistory) (posted : Posted) (now m : ℕ) → IsMessages T posted
    → cause_of T now (event.Deliver m)
    ≡ option_or (first_some (λ (x : Cause × Bool). some_if x.1 x.0) ((cause.LimitEvents, nat_le EVENT_LIMIT (length T)) ∷ (cause.TimeBack, nat_lt now (clock T)) ∷ []))
    (option_map cause_of_fault (deliver_fault posted m))
refused T posted now m is =
    delivery-causes T now m
    ∙ by_tests (nat_le EVENT_LIMIT (length T)) (nat_lt now (clock T)) (names_unknown T (event.Deliver m)) (names_settled T (event.Deliver m))
    ∙ ap (λ o. option_or (option_or (some_if (nat_le EVENT_LIMIT (length T)) cause.LimitEvents) (option_or (some_if (nat_lt now (clock T)) cause.TimeBack) None)) (option_map cause_of_fault o)) (sym (fault T posted m is))
  where
    by_tests : (full back unknown settled : Bool)
        → option_or (some_if full cause.LimitEvents) (option_or (some_if back cause.TimeBack) (option_or (some_if unknown cause.Unknown) (option_or (some_if settled cause.Settled) None)))
        ≡ option_or (option_or (some_if full cause.LimitEvents) (option_or (some_if back cause.TimeBack) None)) (option_map cause_of_fault (cond unknown (Some Unknown) (cond settled (Some Settled) None)))
    by_tests true back unknown settled = refl
    by_tests false true unknown settled = refl
    by_tests false false true settled = refl
    by_tests false false false true = refl
    by_tests false false false false = refl

-- ---- the limit

pub counted : (T : RepliedHistory) (posted : Posted) (page : ℕ) → IsMessages T posted → waiting_count page posted.waiting ≡ length (waiting_messages T page)
counted T posted page is = counted-listed posted.waiting page ∙ ap length (is.listed page)

pub limit : (T : RepliedHistory) (posted : Posted) (now sender target page : ℕ) (named : Option (List ℕ)) (capability : List ℕ) → IsMessages T posted → page_of_frame T sender ≡ Some page
    → exceeds_pending T now (event.Post sender target named capability) ≡ nat_le MESSAGE_LIMIT (waiting_count page posted.waiting)
unfolding exceeds_pending
limit T posted now sender target page named capability is at =
    ap (λ o. nat_le MESSAGE_LIMIT (unwrap_or (option_map (λ top. length (waiting_messages T top)) o) 0)) at ∙ ap (nat_le MESSAGE_LIMIT) (sym (counted T posted page is))

-- ---- what is found

found-made : (made settled : Bool) (o : Option Message) (x : Message) → o ≡ Some x → is_some o ≡ (made && not settled) → (made ≡ true) × (settled ≡ false)
found-made true false o x f w = (refl, refl)
found-made true true o x f w = cc
found-made false settled o x f w = cc

pub found : (T : RepliedHistory) (posted : Posted) (m : ℕ) (x : Message) → IsMessages T posted → message_of posted.waiting m ≡ Some x
    → (rules.message T m ≡ Some (message_of_row x)) × (is_message T m ≡ true) × (is_message_settled T m ≡ false)
found T posted m x is h =
    let made = found-made (is_message T m) (is_message_settled T m) (message_of posted.waiting m) x h (is.unsettled m) in
    (each-found (λ n y. rules.message T n ≡ Some (message_of_row y)) posted.waiting m x is.kept h, made.0, made.1)

-- ---- what a delivery tells

-- the message that is delivered, and what shows its target
record IsDelivery (T : RepliedHistory) (m : ℕ) (delivery : Delivery) : Type 0 where
  message : Message
  history : rules.message T m ≡ Some (message_of_row message)
  comes : delivery ≡ delivery_to message (some_if (is_current T message.target.doc) (origin_of T message.target.doc))

delivery-is : (T : RepliedHistory) (posted : Posted) (m : ℕ) (shown : DocRef → Option Origin) (delivery : Delivery) → IsMessages T posted → AreShown T shown posted.waiting
    → Some delivery ≡ option_map (λ x. delivery_to x (shown x.target)) (message_of posted.waiting m) → IsDelivery T m delivery
delivery-is T posted m shown delivery is frames h = by_message (message_of posted.waiting m) refl h
  where
    by_message : (o : Option Message) → message_of posted.waiting m ≡ o → Some delivery ≡ option_map (λ x. delivery_to x (shown x.target)) o → IsDelivery T m delivery
    by_message None at e = cc
    by_message (Some x) at e =
        let same : delivery ≡ delivery_to x (shown x.target) = cc in
        record {
          message = x;
          history = (found T posted m x is at).0;
          comes =
              same
              ∙ ap (delivery_to x)
              (each-found (λ n (y : Message). shown y.target ≡ some_if (is_current T y.target.doc) (origin_of T y.target.doc)) posted.waiting m x frames at);
        }

answer-is : (T : RepliedHistory) (x : Message) → answer_of_delivery T (message_of_row x) ≡ answer_by_delivery (delivery_to x (some_if (is_current T x.target.doc) (origin_of T x.target.doc)))
unfolding answer_of_delivery
answer-is T x = by_tests (is_current T x.target.doc) (is_same_origin (origin_of T x.target.doc) x.origin) refl
  where
    by_tests : (current same : Bool) → is_same_origin (origin_of T x.target.doc) x.origin ≡ same
        → cond (not current) answer.DroppedGone (cond same answer.Delivered answer.DroppedOther) ≡ answer_by_delivery (delivery_to x (some_if current (origin_of T x.target.doc)))
    by_tests false same is = refl
    by_tests true true is = sym (ap (λ b. answer_by_delivery (cond b (Put x.target x.capability) OtherOrigin)) is)
    by_tests true false is = sym (ap (λ b. answer_by_delivery (cond b (Put x.target x.capability) OtherOrigin)) is)

told : (duration : ℕ) (T : RepliedHistory) (now m : ℕ) (delivery : Delivery) → IsDelivery T m delivery → answer_of duration T now (event.Deliver m) ≡ answer_by_delivery delivery
unfolding answer_of
told duration T now m delivery is = ap (λ o. answer_or_done (option_map (answer_of_delivery T) o)) is.history ∙ answer-is T is.message ∙ ap answer_by_delivery (sym is.comes)

pub answered : (duration : ℕ) (T : RepliedHistory) (posted : Posted) (now m : ℕ) (shown : DocRef → Option Origin) (delivery : Delivery) → IsMessages T posted → AreShown T shown posted.waiting
    → Some delivery ≡ option_map (λ x. delivery_to x (shown x.target)) (message_of posted.waiting m) → answer_of duration T now (event.Deliver m) ≡ answer_by_delivery delivery
answered duration T posted now m shown delivery is frames h = told duration T now m delivery (delivery-is T posted m shown delivery is frames h)

put-is : (T : RepliedHistory) (x : Message) (d : ℕ) (capability : Capability) (current : Bool) (origin : Origin)
    → (is_delivered (Replied (answer_by_delivery (delivery_to x (some_if current origin)))) && (x.target.doc == d && is_same_capability x.capability capability))
    ≡ is_put (delivery_to x (some_if current origin)) d capability
put-is T x d capability false origin = refl
put-is T x d capability true origin = by_test (is_same_origin origin x.origin)
  where
    by_test : (b : Bool)
        → (is_delivered (Replied (answer_by_delivery (cond b (Put x.target x.capability) OtherOrigin))) && (x.target.doc == d && is_same_capability x.capability capability))
        ≡ is_put (cond b (Put x.target x.capability) OtherOrigin) d capability
    by_test true = refl
    by_test false = refl

pub handed : (duration : ℕ) (T : RepliedHistory) (posted : Posted) (now m d : ℕ) (capability : Capability) (shown : DocRef → Option Origin) (delivery : Delivery) → IsMessages T posted → AreShown T shown posted.waiting
    → Some delivery ≡ option_map (λ x. delivery_to x (shown x.target)) (message_of posted.waiting m)
    → hands_over (event.Deliver m) (Replied (answer_of duration T now (event.Deliver m))) T d capability ≡ is_put delivery d capability
handed duration T posted now m d capability shown delivery is frames h =
    let i = delivery-is T posted m shown delivery is frames h in
    let x = i.message in
    let sees = some_if (is_current T x.target.doc) (origin_of T x.target.doc) in
    ap (λ (a : Answer). is_delivered (Replied a) && is_message_for T m d capability) (told duration T now m delivery i ∙ ap answer_by_delivery i.comes)
    ∙ ap (λ (o : Option rules.Message). is_delivered (Replied (answer_by_delivery (delivery_to x sees))) && unwrap_or (option_map (λ y. y.target == d && is_same_capability y.capability capability) o) false) i.history
    ∙ put-is T x d capability (is_current T x.target.doc) (origin_of T x.target.doc)
    ∙ ap (λ y. is_put y d capability) (sym i.comes)

module _ (laws : HistoryLaws) where
  pub below : (T : RepliedHistory) (posted : Posted) (k : ℕ) → IsMessages T posted → was_given posted.given k ≡ true → k < length T + 1
  below T posted k is given = let within = laws.numbering.message_within T k (sym (is.given k) ∙ given) in omega (arith, within.1)

  pub beyond : (T : RepliedHistory) (posted : Posted) (m : ℕ) → IsMessages T posted → (1 ≤ m → length T < m) → deliver_fault posted m ≡ Some Unknown
  beyond T posted m is past = ap (λ b. cond b (cond (is_none (message_of posted.waiting m)) (Some Settled) None) (Some Unknown)) (is.given m ∙ by_message (is_message T m) refl)
    where
      by_message : (b : Bool) → is_message T m ≡ b → b ≡ false
      by_message false at = refl
      by_message true at = let within = laws.numbering.message_within T m at in let more = past within.0 in absurd (omega (arith, within.1))
