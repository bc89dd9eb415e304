-- The table of calls: each one's name, and what it wants of the document that makes it.
-- After Secure Contexts, Permissions Policy, Permissions, "get the current permission state", and HTML, "APIs gated by user activation".
-- The table is this project's own choice, and says nothing of a standard or of a browser.
use Rattle.std.specs.Prelude.{ℕ, Bool, true, false, List, [], ◌∷◌, codes, bytes_eq, find, Option, Some, None}
use Rattle.pe_features.specs.declared.call.Call.{Call}
use Rattle.pe_features.specs.declared.call.Call.TheVariants.{GetPosition, GetUserMediaCamera, GetUserMediaMicrophone, GetDisplayMedia, RequestFullscreen, ShowPayment, ClipboardReadText, ClipboardWriteText, PlayAudio, Vibrate, OpenWindow, ShowNotification, RequestPictureInPicture, RequestStorageAccess}
use Rattle.pe_features.specs.declared.call.Gate.{Gate}
use Rattle.pe_features.specs.declared.call.Need.{Need}
use Rattle.pe_features.specs.declared.call.Need.TheVariants.{Nothing, Sticky, Transient}
use Rattle.pe_features.specs.declared.capability.Capability.{Capability}
use Rattle.pe_features.specs.declared.capability.Capability.TheVariants as capability
use Rattle.pe_features.specs.declared.feature.Feature.{Feature}
use Rattle.pe_features.specs.declared.feature.Feature.TheVariants.{Autoplay, Camera, ClipboardRead, ClipboardWrite, DisplayCapture, Fullscreen, Geolocation, Microphone, Notifications, Payment, PictureInPicture, StorageAccess}

-- every call, in the order of the table
abbrev pub all_calls : List Call
all_calls = GetPosition ∷ GetUserMediaCamera ∷ GetUserMediaMicrophone ∷ GetDisplayMedia ∷ RequestFullscreen ∷ ShowPayment ∷ ClipboardReadText ∷ ClipboardWriteText ∷ PlayAudio ∷ Vibrate ∷ OpenWindow ∷ ShowNotification ∷ RequestPictureInPicture ∷ RequestStorageAccess ∷ []

-- a call's name
abbrev pub call_name : Call → List ℕ
call_name GetPosition = codes "get-position"
call_name GetUserMediaCamera = codes "get-user-media-camera"
call_name GetUserMediaMicrophone = codes "get-user-media-microphone"
call_name GetDisplayMedia = codes "get-display-media"
call_name RequestFullscreen = codes "request-fullscreen"
call_name ShowPayment = codes "show-payment"
call_name ClipboardReadText = codes "clipboard-read-text"
call_name ClipboardWriteText = codes "clipboard-write-text"
call_name PlayAudio = codes "play-audio"
call_name Vibrate = codes "vibrate"
call_name OpenWindow = codes "open-window"
call_name ShowNotification = codes "show-notification"
call_name RequestPictureInPicture = codes "request-picture-in-picture"
call_name RequestStorageAccess = codes "request-storage-access"

-- a row of the table: a secure context is wanted, the feature, its permission is wanted, the user activation that is needed, it is consumed, the capability
abbrev pub gate : Bool → Option Feature → Bool → Need → Bool → Option Capability → Gate
gate s f p n c k = record { secure = s; feature = f; permission = p; need = n; consumes = c; capability = k }

-- what a call wants
unfoldable pub gate_of : Call → Gate
gate_of GetPosition = gate true (Some Geolocation) true Nothing false None
gate_of GetUserMediaCamera = gate true (Some Camera) true Nothing false None
gate_of GetUserMediaMicrophone = gate true (Some Microphone) true Nothing false None
gate_of GetDisplayMedia = gate true (Some DisplayCapture) false Transient false (Some capability.DisplayCapture)
gate_of RequestFullscreen = gate false (Some Fullscreen) false Transient true (Some capability.Fullscreen)
gate_of ShowPayment = gate true (Some Payment) false Transient true (Some capability.Payment)
gate_of ClipboardReadText = gate true (Some ClipboardRead) true Transient false None
gate_of ClipboardWriteText = gate true (Some ClipboardWrite) false Transient false None
gate_of PlayAudio = gate false (Some Autoplay) false Sticky false None
gate_of Vibrate = gate false None false Sticky false None
gate_of OpenWindow = gate false None false Transient true None
gate_of ShowNotification = gate true (Some Notifications) true Nothing false None
gate_of RequestPictureInPicture = gate false (Some PictureInPicture) false Transient false None
gate_of RequestStorageAccess = gate true (Some StorageAccess) true Transient false None

-- the call of this name, or None where the table has no such name
unfoldable pub call_named : List ℕ → Option Call
call_named text = find (λ c. bytes_eq (call_name c) text) all_calls
