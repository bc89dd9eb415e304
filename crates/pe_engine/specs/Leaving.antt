-- What documents that go take along.
-- Permissions, the interface PermissionStatus: a status is live while its document is current.
use Rattle.std.specs.Prelude.{ℕ, List, [], ◌∷◌, map}
use Rattle.pe_status.specs.declared.registered.Registered.{Registered}
use Rattle.pe_status.specs.Registry.{without_document}
use Rattle.pe_engine.specs.declared.row.Row.{Row}

-- the numbers of the documents
abbrev pub numbers_of : List Row → List ℕ
numbers_of rows = map (λ x. x.doc) rows

-- the statuses without those of these documents
unfoldable pub without_documents : List ℕ → List Registered → List Registered
without_documents [] rs = rs
without_documents (d ∷ ds) rs = without_documents ds (without_document d rs)
