-- The sandbox flag and the origin of a document, the declared origin of its container, secure contexts.
-- HTML Standard, "sandboxed origin browsing context flag", "determine the origin"; Permissions Policy, "declared origin"; Secure Contexts.
-- That about:blank takes its embedder's origin, that a `src` of about:blank gives the embedder's origin as declared origin, and that opaque origins have the document's number, are this project's own.
use Rattle.std.specs.Prelude.{ℕ, Bool, true, false, not, ◌||◌, List, length, codes, bytes_eq, Option, Some, None, unwrap_or, option_map, if◌then◌else◌}
use Rattle.std.specs.List.{list_any}
use Rattle.pe_allowlist.specs.AsciiWords.{ascii_words, lowercase}
use Rattle.pe_allowlist.specs.declared.container.DeclaredOrigin.{DeclaredOrigin}
use Rattle.pe_allowlist.specs.declared.container.DeclaredOrigin.TheVariants as declared
use Rattle.pe_origin.specs.declared.origin.Origin.{Origin}
use Rattle.pe_origin.specs.declared.origin.Origin.TheVariants as origin
use Rattle.pe_origin.specs.declared.place.Place.{Place}
use Rattle.pe_origin.specs.declared.place.PlaceKind.{PlaceKind}
use Rattle.pe_origin.specs.declared.place.PlaceKind.TheVariants.{Blank, Other}
use Rattle.pe_origin.specs.Places.{place_at}
use Rattle.pe_origin.specs.Trust.{is_trustworthy}
use Rattle.pe_rules.specs.History.{RepliedHistory}
use Rattle.pe_rules.specs.Attributes.{Attributes}
use Rattle.pe_rules.specs.Making.{Making, making, fold_embedders}
use Rattle.pe_rules.specs.Embedders.{top_document}

-- what stands for a text that is no URL, which no accepted event has
abbrev pub no_place : Place
no_place = record { kind = Other; tuple = None }

-- the place of a URL
unfoldable pub place_or_none : List ℕ → Place
place_or_none url = unwrap_or (place_at url) no_place

-- the kind is that of about:blank
abbrev pub is_blank_kind : PlaceKind → Bool
is_blank_kind Blank = true
is_blank_kind kind = false

-- a sandbox attribute of this value has no word `allow-same-origin`
unfoldable pub sandboxes_origin : List ℕ → Bool
sandboxes_origin value = not (list_any (λ w. bytes_eq (lowercase w) (codes "allow-same-origin")) (ascii_words value))

-- the sandbox attribute stands without `allow-same-origin`
abbrev pub is_sandboxed : Attributes → Bool
is_sandboxed attributes = unwrap_or (option_map sandboxes_origin attributes.sandbox) false

-- the sandbox flag: the embedder has it, or the sandbox attribute sets it; a top document has none
unfoldable pub sandbox_flag : RepliedHistory → ℕ → Bool
sandbox_flag T d = fold_embedders false (λ H m above. unwrap_or (option_map (λ flag. flag || is_sandboxed m.attributes) above) false) T d

-- the origin that a document has of its URL alone
abbrev pub origin_of_place : ℕ → Place → Origin
origin_of_place d place = unwrap_or (option_map origin.Tuple place.tuple) (origin.Opaque d)

-- the origin of the document that was made last, from that of its embedder
abbrev pub origin_rule : RepliedHistory → Making → Option Origin → Origin
origin_rule H m above =
    let d = length H in
    let place = place_or_none m.url in
    if sandbox_flag H d then origin.Opaque d
    else (if m.srcdoc || is_blank_kind place.kind then unwrap_or above (origin_of_place d place) else origin_of_place d place)

-- the origin of a document
unfoldable pub origin_of : RepliedHistory → ℕ → Origin
origin_of T d = fold_embedders (origin.Opaque 0) origin_rule T d

-- the declared origin that a place gives
abbrev pub declared_by_place : Origin → Place → DeclaredOrigin
declared_by_place embedder place =
    if is_blank_kind place.kind then declared.Known embedder
    else unwrap_or (option_map (λ t. declared.Known (origin.Tuple t)) place.tuple) declared.Opaque

-- the declared origin that a `src` attribute gives, or none of it
abbrev pub declared_by_src : Origin → Option (List ℕ) → DeclaredOrigin
declared_by_src embedder None = declared.Known embedder
declared_by_src embedder (Some src) = declared_by_place embedder (place_or_none src)

-- the declared origin of a container, by its attributes and by the flag and the origin of the embedder
unfoldable pub declared_origin : Attributes → Bool → Origin → DeclaredOrigin
declared_origin attributes flag embedder =
    if flag || is_sandboxed attributes then declared.Opaque
    else (if attributes.srcdoc then declared.Known embedder else declared_by_src embedder attributes.src)

-- the document is in a secure context: the URL of its top document is potentially trustworthy
unfoldable pub is_secure : RepliedHistory → ℕ → Bool
is_secure T d = unwrap_or (option_map (λ m. is_trustworthy (place_or_none m.url)) (making T (top_document T d))) false
