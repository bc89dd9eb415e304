-- What the table of calls says, computed over the whole table.
use Rattle.std.proofs.Common.{◌≡◌, Some, refl}
use Rattle.pe_features.specs.Calls.{call_name, call_named}
use Rattle.pe_features.specs.declared.call.Call.{Call}
use Rattle.pe_features.specs.declared.call.Call.TheVariants.{GetPosition, GetUserMediaCamera, GetUserMediaMicrophone, GetDisplayMedia, RequestFullscreen, ShowPayment, ClipboardReadText, ClipboardWriteText, PlayAudio, Vibrate, OpenWindow, ShowNotification, RequestPictureInPicture, RequestStorageAccess}

-- each call is found by its own name, so no two calls have one name
pub call_named-name : (c : Call) → call_named (call_name c) ≡ Some c
unfolding call_named
call_named-name GetPosition = refl
call_named-name GetUserMediaCamera = refl
call_named-name GetUserMediaMicrophone = refl
call_named-name GetDisplayMedia = refl
call_named-name RequestFullscreen = refl
call_named-name ShowPayment = refl
call_named-name ClipboardReadText = refl
call_named-name ClipboardWriteText = refl
call_named-name PlayAudio = refl
call_named-name Vibrate = refl
call_named-name OpenWindow = refl
call_named-name ShowNotification = refl
call_named-name RequestPictureInPicture = refl
call_named-name RequestStorageAccess = refl
