-- In histories that are alike the same documents have the same origins and the same policies, and the same inputs activate the same ones.
use Rattle.std.proofs.Common.{◌≡◌, ℕ, false, ◌&&◌, ◌||◌, length, map, filter, is_none, unwrap_or, option_map, option_and_then, refl}
use Rattle.pe_base.specs.Activation.{triggers}
use Rattle.pe_features.specs.declared.feature.Feature.{Feature}
use Rattle.pe_origin.specs.declared.origin.Origin.TheVariants as origin
use Rattle.pe_origin.specs.Origins.{is_same_origin}
use Rattle.pe_origin.specs.Trust.{is_trustworthy}
use Rattle.pe_allowlist.specs.Lists.{no_lists, is_policy_controlled}
use Rattle.pe_allowlist.specs.ContainerPolicy.{container_policy}
use Rattle.pe_header.specs.DeclaredPolicy.{declared_policy}
use Rattle.pe_policy.specs.Denials.{denial}
use Rattle.pe_events.specs.declared.event.Event.{Event}
use Rattle.pe_events.specs.declared.event.Event.TheVariants as event
use Rattle.pe_rules.specs.History.{RepliedHistory}
use Rattle.pe_rules.specs.Making.{Making}
use Rattle.pe_rules.specs.Origins.{place_or_none, is_sandboxed, sandbox_flag, origin_rule, origin_of, declared_origin, is_secure}
use Rattle.pe_rules.specs.Denials.{declared_policy_in, container_in, container_policy_in, chain_document, chain_documents, why_denied, is_allowed}
use Rattle.pe_rules.specs.Activation.{is_one_of, reaches, activates, activated_count}
use Rattle.pe_isolation.proofs.Alike.{Alike, length-alike}
use Rattle.pe_isolation.proofs.Made.{documents-made-alike, making-alike, fold-alike, chain-alike, top-document-alike}
use Rattle.pe_isolation.proofs.Shown.{current-alike, document-in-alike}

-- ---- origins

pub flag-alike : {T U : RepliedHistory} → Alike T U → (d : ℕ) → sandbox_flag T d ≡ sandbox_flag U d
unfolding sandbox_flag
flag-alike r d = fold-alike false (λ H m above. unwrap_or (option_map (λ flag. flag || is_sandboxed m.attributes) above) false) (λ T U q m above. refl) r d

pub origin-alike : {T U : RepliedHistory} → Alike T U → (d : ℕ) → origin_of T d ≡ origin_of U d
unfolding origin_of
origin-alike r d = fold-alike (origin.Opaque 0) origin_rule (λ T U q m above. rw (length-alike q, flag-alike q (length U)) refl) r d

pub secure-alike : {T U : RepliedHistory} → Alike T U → (d : ℕ) → is_secure T d ≡ is_secure U d
unfolding is_secure
secure-alike r d = λ i. unwrap_or (option_map (λ m. is_trustworthy (place_or_none m.url)) (making-alike r (top-document-alike r d i) i)) false

-- ---- policies

declared-alike : {T U : RepliedHistory} → Alike T U → (d : ℕ) → declared_policy_in T d ≡ declared_policy_in U d
unfolding declared_policy_in
declared-alike r d = λ i. unwrap_or (option_map (λ m. declared_policy m.header (origin-alike r d i)) (making-alike r d i)) no_lists

container-in-alike : {T U : RepliedHistory} → Alike T U → (m : Making) (p : ℕ) → container_in T m p ≡ container_in U m p
unfolding container_in
container-in-alike r m p = λ i. container_policy m.attributes.allow m.attributes.fullscreen (origin-alike r p i) (declared_origin m.attributes (flag-alike r p i) (origin-alike r p i))

container-alike : {T U : RepliedHistory} → Alike T U → (d : ℕ) → container_policy_in T d ≡ container_policy_in U d
unfolding container_policy_in
container-alike r d = λ i. unwrap_or (option_and_then (λ m. option_map (λ p. container-in-alike r m p i) m.embedder) (making-alike r d i)) no_lists

link-alike : {T U : RepliedHistory} → Alike T U → (d : ℕ) → chain_document T d ≡ chain_document U d
unfolding chain_document
link-alike r d = λ i. record { document = d; origin = origin-alike r d i; declared = declared-alike r d i; container = container-alike r d i }

links-alike : {T U : RepliedHistory} → Alike T U → (d : ℕ) → chain_documents T d ≡ chain_documents U d
unfolding chain_documents
links-alike r d = λ i. map (λ p. link-alike r p i) (chain-alike r d i)

pub why-alike : {T U : RepliedHistory} → Alike T U → (feature : Feature) (d : ℕ) → why_denied T feature d ≡ why_denied U feature d
unfolding why_denied
why-alike r feature d = λ i. denial feature (links-alike r d i)

pub allowed-alike : {T U : RepliedHistory} → Alike T U → (d : ℕ) (feature : Feature) → is_allowed T d feature ≡ is_allowed U d feature
unfolding is_allowed
allowed-alike r d feature = λ i. is_policy_controlled feature && is_none (why-alike r feature d i)

-- ---- what an input activates

reaches-alike : {T U : RepliedHistory} → Alike T U → (c d : ℕ) → reaches T c d ≡ reaches U c d
unfolding reaches
reaches-alike r c d = λ i. current-alike r d i && (is_one_of (chain-alike r c i) d || is_one_of (chain-alike r d i) c && is_same_origin (origin-alike r c i) (origin-alike r d i))

pub activates-alike : {T U : RepliedHistory} → Alike T U → (e : Event) (d : ℕ) → activates e T d ≡ activates e U d
unfolding activates
activates-alike r (event.Input frame kind) d = λ i. triggers kind && unwrap_or (option_map (λ c. reaches-alike r c d i) (document-in-alike r frame i)) false
activates-alike r e d = refl

pub count-alike : {T U : RepliedHistory} → Alike T U → (e : Event) → activated_count e T ≡ activated_count e U
unfolding activated_count
count-alike r e = λ i. length (filter (λ d. activates-alike r e d i) (documents-made-alike r i))
