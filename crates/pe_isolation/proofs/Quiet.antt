-- What quiet steps do not do.
use Rattle.std.proofs.Common.{◌≡◌, ℕ, Bool, true, false, ◌&&◌, cond, List, Option, Some, None, option_and_then, refl}
use Rattle.pe_events.specs.declared.event.AttrName.{AttrName}
use Rattle.pe_events.specs.declared.event.Event.{Event}
use Rattle.pe_events.specs.declared.event.Event.TheVariants as event
use Rattle.pe_rules.specs.History.{RepliedHistory}
use Rattle.pe_rules.specs.Numbering.{makes_frame, document_frame, makes_status, parent_by}
use Rattle.pe_rules.specs.Attributes.{attribute_by}
use Rattle.pe_rules.specs.Making.{making_by}
use Rattle.pe_rules.specs.Current.{ends}
use Rattle.pe_rules.specs.Settings.{asking, setting_named, dismissed_pair}
use Rattle.pe_rules.specs.Prompts.{requesting_document, answers}
use Rattle.pe_rules.specs.Statuses.{status_by, drops}
use Rattle.pe_isolation.proofs.Alike.{is_quiet}

pub no-frame : (e : Event) → is_quiet e ≡ true → makes_frame e ≡ false
no-frame (event.OpenPage url header) h = cc
no-frame (event.Embed parent src place allow sandbox fullscreen srcdoc header) h = cc
no-frame e h = refl

pub no-document : (e : Event) (k : ℕ) → is_quiet e ≡ true → document_frame e k ≡ None
no-document (event.OpenPage url header) k h = cc
no-document (event.Embed parent src place allow sandbox fullscreen srcdoc header) k h = cc
no-document (event.Navigate frame url header) k h = cc
no-document e k h = refl

pub no-parent : (e : Event) → is_quiet e ≡ true → parent_by e ≡ None
no-parent (event.Embed parent src place allow sandbox fullscreen srcdoc header) h = cc
no-parent e h = refl

pub no-attribute : (e : Event) (k f : ℕ) (name : AttrName) → is_quiet e ≡ true → attribute_by e k f name ≡ None
no-attribute (event.Attr frame given value) k f name h = cc
no-attribute (event.Embed parent src place allow sandbox fullscreen srcdoc header) k f name h = cc
no-attribute e k f name h = refl

pub no-making : (e : Event) (B : RepliedHistory) → is_quiet e ≡ true → making_by e B ≡ None
unfolding making_by
no-making (event.OpenPage url header) B h = cc
no-making (event.Embed parent src place allow sandbox fullscreen srcdoc header) B h = cc
no-making (event.Navigate frame url header) B h = cc
no-making e B h = refl

pub no-end : (e : Event) (frames : List ℕ) → is_quiet e ≡ true → ends frames e ≡ false
no-end (event.Navigate frame url header) frames h = cc
no-end (event.Close frame) frames h = cc
no-end e frames h = refl

pub no-status : (e : Event) → is_quiet e ≡ true → makes_status e ≡ false
no-status (event.Query frame feature) h = cc
no-status e h = refl

pub no-query : (e : Event) (B : RepliedHistory) (k : ℕ) → is_quiet e ≡ true → status_by e B k ≡ None
no-query (event.Query frame feature) B k h = cc
no-query e B k h = refl

pub no-drop : (e : Event) (k : ℕ) → is_quiet e ≡ true → drops e k ≡ false
no-drop (event.DropStatus status) k h = cc
no-drop e k h = refl

pub no-asking : (e : Event) (B : RepliedHistory) → is_quiet e ≡ true → asking e B ≡ None
no-asking (event.Request frame feature) B h = cc
no-asking e B h = refl

pub no-request : (e : Event) (B : RepliedHistory) → is_quiet e ≡ true → requesting_document e B ≡ None
no-request (event.Request frame feature) B h = cc
no-request e B h = refl

pub no-answer : (e : Event) (k : ℕ) → is_quiet e ≡ true → answers e k ≡ false
no-answer (event.Answered prompt out given) k h = cc
no-answer e k h = refl

pub no-dismissal : (e : Event) (B : RepliedHistory) → is_quiet e ≡ true → dismissed_pair e B ≡ None
no-dismissal (event.Answered prompt out given) B h = cc
no-dismissal e B h = refl

pub no-setting : (time : ℕ) (e : Event) (B : RepliedHistory) → is_quiet e ≡ true → setting_named time e B ≡ None
unfolding setting_named
no-setting time (event.Answered prompt out given) B h = cc
no-setting time (event.SetState feature first second state span) B h = cc
no-setting time e B h = refl

-- ---- tests and values that are not there

pub and-false : (b : Bool) → (b && false) ≡ false
and-false true = refl
and-false false = refl

pub then-none : {A B : Type 0} (f : A → Option B) (o : Option A) → ((x : A) → f x ≡ None) → option_and_then f o ≡ None
then-none f None none = refl
then-none f (Some x) none = none x

pub neither : {A : Type 0} (b : Bool) (o : Option A) → o ≡ None → cond b o None ≡ None
neither true o none = none
neither false o none = refl
