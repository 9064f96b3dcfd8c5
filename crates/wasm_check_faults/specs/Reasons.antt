-- What the system says of why it refused a file or a write.
use Rattle.std.specs.Prelude.{◌≡◌, ◌≢◌, ℕ, Bool, true, false, List, Option, Some, None, codes}
use Rattle.std.specs.declared.io.ErrorKind.{ErrorKind}
use Rattle.std.specs.declared.io.ErrorKind.TheVariants as kinds
use Rattle.wasm_check_faults.specs.declared.reason.Reason.{Reason}
use Rattle.wasm_check_faults.specs.declared.reason.Reason.TheVariants.{NotFound, PermissionDenied, IsADirectory, NotADirectory, FilesystemLoop, InvalidFilename, StorageFull, QuotaExceeded, FileTooLarge, BrokenPipe, NotUtf8, GivesList, Unknown}

-- a kind of error that has no reason of its own here
pub record IsOther (kind : ErrorKind) : Type 0 where
  pub not_found : kind ≢ kinds.NotFound
  pub permission_denied : kind ≢ kinds.PermissionDenied
  pub is_a_directory : kind ≢ kinds.IsADirectory
  pub not_a_directory : kind ≢ kinds.NotADirectory
  pub filesystem_loop : kind ≢ kinds.FilesystemLoop
  pub invalid_filename : kind ≢ kinds.InvalidFilename
  pub storage_full : kind ≢ kinds.StorageFull
  pub quota_exceeded : kind ≢ kinds.QuotaExceeded
  pub file_too_large : kind ≢ kinds.FileTooLarge
  pub broken_pipe : kind ≢ kinds.BrokenPipe

-- the reason is that of an error of this kind; that a name is no UTF-8, or that of the input that gives a list, is told by the name
abbrev pub IsReason : Reason → ErrorKind → Type 0
IsReason NotFound kind = kind ≡ kinds.NotFound
IsReason PermissionDenied kind = kind ≡ kinds.PermissionDenied
IsReason IsADirectory kind = kind ≡ kinds.IsADirectory
IsReason NotADirectory kind = kind ≡ kinds.NotADirectory
IsReason FilesystemLoop kind = kind ≡ kinds.FilesystemLoop
IsReason InvalidFilename kind = kind ≡ kinds.InvalidFilename
IsReason StorageFull kind = kind ≡ kinds.StorageFull
IsReason QuotaExceeded kind = kind ≡ kinds.QuotaExceeded
IsReason FileTooLarge kind = kind ≡ kinds.FileTooLarge
IsReason BrokenPipe kind = kind ≡ kinds.BrokenPipe
IsReason NotUtf8 kind = ⊥
IsReason GivesList kind = ⊥
IsReason Unknown kind = IsOther kind

-- what a person is told of it, if it is known
abbrev pub reason_hint : Reason → Option (List ℕ)
reason_hint NotFound = Some (codes "no such file")
reason_hint PermissionDenied = Some (codes "permission denied")
reason_hint IsADirectory = Some (codes "is a directory")
reason_hint NotADirectory = Some (codes "not a directory")
reason_hint FilesystemLoop = Some (codes "too many links")
reason_hint InvalidFilename = Some (codes "name too long")
reason_hint StorageFull = Some (codes "no space left")
reason_hint QuotaExceeded = Some (codes "quota exceeded")
reason_hint FileTooLarge = Some (codes "file too large")
reason_hint BrokenPipe = Some (codes "broken pipe")
reason_hint NotUtf8 = Some (codes "a name has to be UTF-8")
reason_hint GivesList = Some (codes "the list comes from standard input")
reason_hint Unknown = None

-- nobody reads the pipe any more
abbrev pub is_broken_pipe : Reason → Bool
is_broken_pipe NotFound = false
is_broken_pipe PermissionDenied = false
is_broken_pipe IsADirectory = false
is_broken_pipe NotADirectory = false
is_broken_pipe FilesystemLoop = false
is_broken_pipe InvalidFilename = false
is_broken_pipe StorageFull = false
is_broken_pipe QuotaExceeded = false
is_broken_pipe FileTooLarge = false
is_broken_pipe BrokenPipe = true
is_broken_pipe NotUtf8 = false
is_broken_pipe GivesList = false
is_broken_pipe Unknown = false
