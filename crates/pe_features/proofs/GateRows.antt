-- Rules that each row of the table of calls keeps, computed over the whole table.
use Rattle.std.proofs.Common.{rules, ◌≡◌, IsTrue, Some}
use Rattle.std.specs.Prelude.{IsSome, IfSome, IsSomeAnd}
use Rattle.pe_features.specs.Calls.{gate_of}
use Rattle.pe_features.specs.Capabilities.{feature_of}
use Rattle.pe_features.specs.Features.{key_of}
use Rattle.pe_features.specs.declared.call.Call.{Call}
use Rattle.pe_features.specs.declared.call.Call.TheVariants.{GetPosition, GetUserMediaCamera, GetUserMediaMicrophone, GetDisplayMedia, RequestFullscreen, ShowPayment, ClipboardReadText, ClipboardWriteText, PlayAudio, Vibrate, OpenWindow, ShowNotification, RequestPictureInPicture, RequestStorageAccess}
use Rattle.pe_features.specs.declared.call.Gate.{Gate}
use Rattle.pe_features.specs.declared.call.Need.TheVariants.{Transient}

-- a row's permission is that of a powerful feature, only transient activation is consumed, and a capability is that of the row's feature and stands in for transient activation
pub record IsSound (g : Gate) : Type 0 where
  pub powerful : IsTrue g.permission → IsSomeAnd g.feature (λ f. IsSome (key_of f))
  pub consuming : IsTrue g.consumes → g.need ≡ Transient
  pub delegated : IfSome g.capability (λ k. g.feature ≡ Some (feature_of k))
  pub stands_in : IsSome g.capability → g.need ≡ Transient

-- each row keeps these rules
pub IsSound-gate_of : (c : Call) → IsSound (gate_of c)
unfolding gate_of
IsSound-gate_of GetPosition = search rules
IsSound-gate_of GetUserMediaCamera = search rules
IsSound-gate_of GetUserMediaMicrophone = search rules
IsSound-gate_of GetDisplayMedia = search rules
IsSound-gate_of RequestFullscreen = search rules
IsSound-gate_of ShowPayment = search rules
IsSound-gate_of ClipboardReadText = search rules
IsSound-gate_of ClipboardWriteText = search rules
IsSound-gate_of PlayAudio = search rules
IsSound-gate_of Vibrate = search rules
IsSound-gate_of OpenWindow = search rules
IsSound-gate_of ShowNotification = search rules
IsSound-gate_of RequestPictureInPicture = search rules
IsSound-gate_of RequestStorageAccess = search rules
