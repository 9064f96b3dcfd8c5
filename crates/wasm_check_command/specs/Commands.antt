-- Worked command lines: what clap answers to them, which files they name, and which lists their options have.
use Rattle.std.specs.Prelude.{◌≡◌, List, [], ◌∷◌, Some, None, true, false, codes, ℕ}
use Rattle.clap.specs.declared.error.kind.ErrorKind.TheVariants.{ArgumentConflict, DisplayHelp, DisplayVersion, InvalidValue, TooManyValues, UnknownArgument}
use Rattle.wasm_check_command.specs.declared.judging.Mode.TheVariants.{Whole, Pieces}
use Rattle.wasm_check_command.specs.Settings.{mode_by}
use Rattle.wasm_check_command.specs.Words.{refusals_of, files_of, list_file, features_lists, limits_lists, has_flag, pieces_number}

-- these words behind the program's own
abbrev pub line_of : List (List ℕ) → List (List ℕ)
line_of words = codes "wasm-check" ∷ words

-- the words name these files
pub record Names (words files : List (List ℕ)) : Type 0 where
  pub taken : refusals_of words ≡ []
  pub named : files_of words ≡ files

-- they name this one file, and have these lists
pub record NamesOne (words : List (List ℕ)) (file : List ℕ) (features limits : List (List ℕ)) : Type 0 where
  pub names : Names words (file ∷ [])
  pub features_are : features_lists words ≡ features
  pub limits_are : limits_lists words ≡ limits

-- they name this one file, and have this number of bytes for a piece
pub record NamesPieces (words : List (List ℕ)) (file number : List ℕ) : Type 0 where
  pub names : Names words (file ∷ [])
  pub pieces_are : pieces_number words ≡ Some number

-- the worked command lines, each with its answer
pub record AreRead : Type 0 where
  pub two : Names (line_of (codes "a" ∷ codes "b" ∷ [])) (codes "a" ∷ codes "b" ∷ [])
  pub behind_dashes : Names (line_of (codes "--" ∷ codes "--help" ∷ codes "b" ∷ [])) (codes "--help" ∷ codes "b" ∷ [])
  pub help : refusals_of (line_of (codes "--help" ∷ [])) ≡ DisplayHelp ∷ []
  pub version : refusals_of (line_of (codes "--version" ∷ [])) ≡ DisplayVersion ∷ []
  pub none : Names (line_of []) []
  pub named_by_list : list_file (line_of (codes "--files0-from" ∷ codes "-" ∷ [])) ≡ Some (codes "-")
  pub no_list_file : list_file (line_of (codes "--" ∷ codes "--files0-from=x" ∷ [])) ≡ None
  pub two_list_files : refusals_of (line_of (codes "--files0-from=x" ∷ codes "--files0-from=y" ∷ [])) ≡ ArgumentConflict ∷ []
  pub unknown : refusals_of (line_of (codes "--all" ∷ codes "a" ∷ [])) ≡ UnknownArgument ∷ []
  pub no_list : NamesOne (line_of (codes "a" ∷ [])) (codes "a") [] []
  pub list : NamesOne (line_of (codes "--features" ∷ codes "mvp,gc" ∷ codes "a" ∷ [])) (codes "a") (codes "mvp,gc" ∷ []) []
  pub list_behind : NamesOne (line_of (codes "a" ∷ codes "--features" ∷ codes "mvp" ∷ [])) (codes "a") (codes "mvp" ∷ []) []
  pub list_in_one_word : NamesOne (line_of (codes "--features=mvp" ∷ codes "a" ∷ [])) (codes "a") (codes "mvp" ∷ []) []
  pub short_option : NamesOne (line_of (codes "-f" ∷ codes "mvp,gc" ∷ codes "a" ∷ [])) (codes "a") (codes "mvp,gc" ∷ []) []
  pub short_in_one_word : NamesOne (line_of (codes "-f=-simd" ∷ codes "a" ∷ [])) (codes "a") (codes "-simd" ∷ []) []
  pub hyphen_in_one_word : NamesOne (line_of (codes "--features=-all" ∷ codes "a" ∷ [])) (codes "a") (codes "-all" ∷ []) []
  pub short_and_long : NamesOne (line_of (codes "-f" ∷ codes "mvp" ∷ codes "--features=gc" ∷ codes "a" ∷ [])) (codes "a") (codes "mvp" ∷ codes "gc" ∷ []) []
  pub empty_list : NamesOne (line_of (codes "--features=" ∷ codes "a" ∷ [])) (codes "a") ([] ∷ []) []
  pub two_lists : NamesOne (line_of (codes "--features=mvp" ∷ codes "a" ∷ codes "--features=gc" ∷ [])) (codes "a") (codes "mvp" ∷ codes "gc" ∷ []) []
  pub list_lacks : refusals_of (line_of (codes "a" ∷ codes "--features" ∷ [])) ≡ InvalidValue ∷ []
  pub limits : NamesOne (line_of (codes "--limits" ∷ codes "locals=10" ∷ codes "a" ∷ [])) (codes "a") [] (codes "locals=10" ∷ [])
  pub limits_in_one_word : NamesOne (line_of (codes "a" ∷ codes "--limits=locals=10" ∷ codes "--features" ∷ codes "gc" ∷ [])) (codes "a")
      (codes "gc" ∷ [])
      (codes "locals=10" ∷ [])
  pub pieces : NamesPieces (line_of (codes "--pieces" ∷ codes "4096" ∷ codes "a" ∷ [])) (codes "a") (codes "4096")
  pub pieces_in_one_word : NamesPieces (line_of (codes "a" ∷ codes "--pieces=1" ∷ [])) (codes "a") (codes "1")
  pub two_pieces : refusals_of (line_of (codes "--pieces=1" ∷ codes "--pieces=2" ∷ codes "a" ∷ [])) ≡ ArgumentConflict ∷ []
  pub one_byte : mode_by (Some (codes "1")) ≡ Some (Pieces 1)
  pub most_bytes : mode_by (Some (codes "1048576")) ≡ Some (Pieces 0x100000)
  pub no_bytes : mode_by (Some (codes "0")) ≡ None
  pub more_bytes : mode_by (Some (codes "1048577")) ≡ None
  pub no_number : mode_by (Some (codes "4k")) ≡ None
  pub whole : mode_by None ≡ Some Whole
  pub two_limits : NamesOne (line_of (codes "--limits=locals=1" ∷ codes "--limits=tags=1" ∷ codes "a" ∷ [])) (codes "a") []
      (codes "locals=1" ∷ codes "tags=1" ∷ [])
  pub no_flag : has_flag (codes "vectors") (line_of (codes "a" ∷ [])) ≡ false
  pub flag : has_flag (codes "vectors") (line_of (codes "--vectors" ∷ codes "a" ∷ [])) ≡ true
  pub flag_behind : has_flag (codes "keep-going") (line_of (codes "a" ∷ codes "--keep-going" ∷ [])) ≡ true
  pub needs_flag : has_flag (codes "needs") (line_of (codes "--needs" ∷ codes "a" ∷ [])) ≡ true
  pub other_flag : has_flag (codes "json") (line_of (codes "--quiet" ∷ codes "a" ∷ [])) ≡ false
  pub flag_as_file : has_flag (codes "json") (line_of (codes "--" ∷ codes "--json" ∷ [])) ≡ false
  pub flag_with_value : refusals_of (line_of (codes "--json=yes" ∷ codes "a" ∷ [])) ≡ TooManyValues ∷ []
  pub two_flags : refusals_of (line_of (codes "--json" ∷ codes "--json" ∷ codes "a" ∷ [])) ≡ ArgumentConflict ∷ []
