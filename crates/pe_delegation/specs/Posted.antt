-- What a contract sees of delegating messages: those that wait for their delivery, and the numbers that were given.
-- HTML Standard, "window post message steps", with Capability Delegation in outline; the tests of a delivery and their order are this project's own.
use Rattle.std.specs.Prelude.{ℕ, Bool, not, ◌==◌, List, length, filter, Option, None, Some, is_none, option_map, if◌then◌else◌, nat_eq}
use Rattle.std.specs.List.{list_any}
use Rattle.std.specs.List.Sorted.{IsStrictlySortedBy}
use Rattle.std.specs.Map.{lookup, keys_of}
use Rattle.std.specs.Ordering.{nat_cmp}
use Rattle.pe_arena.specs.declared.handle.DocRef.{DocRef}
use Rattle.pe_features.specs.declared.capability.Capability.{Capability}
use Rattle.pe_frames.specs.Forest.{Entry, doc_of}
use Rattle.pe_origin.specs.Origins.{is_same_origin}
use Rattle.pe_origin.specs.declared.origin.Origin.{Origin}
use Rattle.pe_delegation.specs.declared.delivery.Delivery.{Delivery}
use Rattle.pe_delegation.specs.declared.delivery.Delivery.TheVariants.{Put, Gone, OtherOrigin}
use Rattle.pe_delegation.specs.declared.message.DeliverFault.{DeliverFault}
use Rattle.pe_delegation.specs.declared.message.DeliverFault.TheVariants.{Unknown, Settled}
use Rattle.pe_delegation.specs.declared.message.Message.{Message}

-- the messages that wait, each with its number, by rising number; and the numbers of all that were ever posted, rising
pub record Posted : Type 0 where
  pub waiting : List (ℕ × Message)
  pub given : List ℕ

-- a message, by its parts
abbrev pub message : ℕ → DocRef → Origin → Capability → Message
message page target origin capability = record { page = page; target = target; origin = origin; capability = capability }

-- the waiting message of a number
unfoldable pub message_of : List (ℕ × Message) → ℕ → Option Message
message_of es number = lookup (nat_eq number) es

-- a number was given
unfoldable pub was_given : List ℕ → ℕ → Bool
was_given numbers number = list_any (nat_eq number) numbers

-- why a message is not delivered: no message of the number was posted, or it does not wait any more
abbrev pub deliver_fault : Posted → ℕ → Option DeliverFault
deliver_fault s number = if was_given s.given number then (if is_none (message_of s.waiting number) then Some Settled else None) else Some Unknown

-- how many messages of a page wait
unfoldable pub waiting_count : ℕ → List (ℕ × Message) → ℕ
waiting_count page es = length (filter (λ e. e.1.page == page) es)

-- the messages without that of a number
unfoldable pub without : ℕ → List (ℕ × Message) → List (ℕ × Message)
without number es = filter (λ e. not (nat_eq number e.0)) es

-- the numbers of the messages rise
unfoldable pub IsInOrder : List (ℕ × Message) → Type 0
IsInOrder es = IsStrictlySortedBy nat_cmp (keys_of es)

-- what comes of a delivery where the frame of the target shows it with this origin, or not at all
abbrev pub delivery_to : Message → Option Origin → Delivery
delivery_to m None = Gone
delivery_to m (Some origin) = if is_same_origin origin m.origin then Put m.target m.capability else OtherOrigin

-- what comes of a delivery among these frames, by the numbers and the origins of their documents
abbrev pub delivery_of : {D : Type 0} → (D → ℕ) → (D → Origin) → List (Entry D) → Message → Delivery
delivery_of number origin es m = delivery_to m (option_map origin (doc_of number es m.target))
