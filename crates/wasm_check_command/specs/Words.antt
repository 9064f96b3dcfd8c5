-- The words of the command line: what clap answers to them, which files they name, and which lists their options have.
use Rattle.std.specs.Prelude.{◌≡◌, ◌≢◌, ◌⊎◌, ℕ, Bool, true, false, List, [], ◌∷◌, ◌++◌, Option, Some, None, codes, bytes_eq, unwrap_or}
use Rattle.clap.specs.Lexer.{usize_max}
use Rattle.clap.specs.Words.{App, Rule, Row, all_of, first_of, matches_of, new_app, new_rule, with_rule}
use Rattle.clap.specs.Words.{Kinds, IsAmong, fault_of}
use Rattle.clap.specs.declared.error.kind.ErrorKind.{ErrorKind}
use Rattle.clap.specs.declared.error.kind.ErrorKind.TheVariants.{DisplayHelp, DisplayVersion}
use Rattle.clap.specs.declared.builder.action.ArgAction.TheVariants.{Append, Set, SetTrue}

-- the argument FILE: it takes at least one value
abbrev pub file_rule : Rule
file_rule = record (new_rule (codes "FILE")) {
  action = Some Append;
  range = Some (record { start_inclusive = 1; end_inclusive = usize_max });
}

-- an option of this name, `--NAME VALUE`, which may be there once
abbrev pub option_rule : List ℕ → Rule
option_rule name = record (new_rule name) { long = Some name; action = Some Set; value_names = 1 }

-- an option of this name, `--NAME VALUE`, which may be there several times
abbrev pub list_rule : List ℕ → Rule
list_rule name = record (new_rule name) { long = Some name; action = Some Append; value_names = 1 }

-- the lists of features: `--features LIST`, or `-f LIST` (f is 102)
abbrev pub features_rule : Rule
features_rule = record (list_rule (codes "features")) { short = Some 102 }

-- a flag of this name, `--NAME`
abbrev pub flag_rule : List ℕ → Rule
flag_rule name = record (new_rule name) { long = Some name; action = Some SetTrue }

-- a command with a version, so that `--version` asks for it
abbrev pub with_version : App → App
with_version a = record a { top = record a.top { has_version = true } }

-- a command with the options that have a value
abbrev pub with_values : App → App
with_values a = with_rule (with_rule (with_rule a features_rule) (list_rule (codes "limits"))) (option_rule (codes "pieces"))

-- one with the option that names a list of files
abbrev pub with_list : App → App
with_list a = with_rule a (option_rule (codes "files0-from"))

-- a command with the flags that say what is judged, and what is written of it
abbrev pub with_forms : App → App
with_forms a = with_rule (with_rule (with_rule a (flag_rule (codes "vectors"))) (flag_rule (codes "json"))) (flag_rule (codes "explain"))

-- one with the flag that asks which features a file needs
abbrev pub with_needs : App → App
with_needs a = with_rule a (flag_rule (codes "needs"))

-- one with those that say when to stop
abbrev pub with_stops : App → App
with_stops a = with_rule (with_rule a (flag_rule (codes "quiet"))) (flag_rule (codes "keep-going"))

-- the command
abbrev pub wasm_check : App
wasm_check = with_rule (with_stops (with_needs (with_forms (with_list (with_values (with_version (new_app (codes "wasm-check")))))))) file_rule

-- the matches of the command on these words, of which the first is the program's own name
abbrev pub matches_on : List (List ℕ) → List Row
matches_on words = matches_of wasm_check words

-- the files that the words name, in order
abbrev pub files_of : List (List ℕ) → List (List ℕ)
files_of words = unwrap_or (all_of (codes "FILE") (matches_on words)) []

-- the file of `--files0-from`, which has a list of names
abbrev pub list_file : List (List ℕ) → Option (List ℕ)
list_file words = first_of (codes "files0-from") (matches_on words)

-- the lists of `--features`, in order
abbrev pub features_lists : List (List ℕ) → List (List ℕ)
features_lists words = unwrap_or (all_of (codes "features") (matches_on words)) []

-- those of `--limits`
abbrev pub limits_lists : List (List ℕ) → List (List ℕ)
limits_lists words = unwrap_or (all_of (codes "limits") (matches_on words)) []

-- the number of `--pieces`, if it is there
abbrev pub pieces_number : List (List ℕ) → Option (List ℕ)
pieces_number words = first_of (codes "pieces") (matches_on words)

-- the value of a flag is that it is there
abbrev pub is_set : Option (List ℕ) → Bool
is_set None = false
is_set (Some value) = bytes_eq value (codes "true")

-- the flag of this name is there
abbrev pub has_flag : List ℕ → List (List ℕ) → Bool
has_flag name words = is_set (first_of name (matches_on words))

-- the kinds of what clap answers to these words in place of matches, none where it has matches
abbrev pub refusals_of : List (List ℕ) → Kinds
refusals_of words = fault_of wasm_check words

-- an answer of this kind is what was asked for: the help or the version
abbrev pub IsHelp : ErrorKind → Type 0
IsHelp kind = (kind ≡ DisplayHelp) ⊎ (kind ≡ DisplayVersion)

-- The words ask for the table of this option, `features` or `limits`: they are `--NAME help` or `--NAME=help` behind the program's own, and no
-- more.
abbrev pub AsksForTable : List ℕ → List (List ℕ) → Type 0
AsksForTable name words = (own : List ℕ) × ((words ≡ own ∷ (codes "--" ++ name) ∷ codes "help" ∷ []) ⊎ (words ≡ own ∷ (codes "--" ++ name ++ codes "=help") ∷ []))

-- clap answers with one of them, or the words ask for a table
abbrev pub AsksForHelp : List (List ℕ) → Type 0
AsksForHelp words = (IsAmong DisplayHelp (refusals_of words) ⊎ IsAmong DisplayVersion (refusals_of words))
    ⊎ (AsksForTable (codes "features") words ⊎ AsksForTable (codes "limits") words)

-- the words name no files: clap has no matches for them, or its matches have no file and no list
abbrev pub NamesNoFiles : List (List ℕ) → Type 0
NamesNoFiles words = (refusals_of words ≢ []) ⊎ ((files_of words ≡ []) × (list_file words ≡ None))
