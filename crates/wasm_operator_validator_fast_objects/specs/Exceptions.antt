-- The clauses of `try_table`, one after the other (WebAssembly 3.0, binary format, control instructions).
use Rattle.std.specs.Prelude.{◌≡◌, ◌≤◌, ◌<◌, ℕ, Bool, true, false, List, [], ◌∷◌, ◌++◌, length, drop, slice_get, Some}
use Rattle.wasm_types.specs.decoding.Decoder.{Many}
use Rattle.wasm_types.specs.settings.Settings.{Settings}
use Rattle.wasm_types.specs.trees.Trees.{TypeTree}
use Rattle.wasm_operators_immediates.specs.declared.handlers.Catch.{Catch}
use Rattle.wasm_operators_immediates.specs.Handlers.{SpelledCatch}
use Rattle.wasm_operator_validator_rules.specs.Context.{Context}
use Rattle.wasm_operator_validator_rules.specs.Exceptions.{Catches, EachCatches}
use Rattle.wasm_operator_validator_fast_tables.specs.declared.tables.Open.{Open}
use Rattle.wasm_operator_validator_fast_tables.specs.declared.tables.Sig.{Sig}
use Rattle.wasm_operator_validator_fast_tables.specs.declared.tables.Tables.{Tables}
use Rattle.wasm_operator_validator_fast_tables.specs.Tables.{params_in, Fits}
use Rattle.wasm_operator_validator_fast_tables.specs.Loop.{inside_all}

-- exceptions of the tag at an index carry these values
pub record IsTagOf (t : Tables) (x : ℕ) (params : List ℕ) : Type 0 where
  pub sig : Sig
  pub at : slice_get t.known.tags.items x ≡ Some sig
  pub usable : sig.param_count ≤ length t.known.flat.items
  pub carries : params ≡ params_in t.known.flat.items sig

-- what a clause gives its label: the values, and perhaps a reference to the exception, which is not null
abbrev pub caught : Bool → List ℕ → List ℕ
caught true ts = ts ++ 29 ∷ []
caught false ts = ts

-- a clause stands from one offset to the other, and its label takes what it catches
pub record IsCatchAt (text : List ℕ) (t : Tables) (opens : List Open) (i j : ℕ) : Type 0 where
  pub clause : Catch
  pub front : List ℕ
  pub spelled : SpelledCatch clause front
  pub whole : drop i text ≡ front ++ drop j text
  pub fits : (ids : List TypeTree) (z : Settings) (g : Context) → Fits ids z text t g → Catches (inside_all ids g t.known.flat.items opens) clause
  pub forward : i < j
  pub inside : j ≤ length text

-- so many clauses
pub record AreCatches (text : List ℕ) (t : Tables) (opens : List Open) (i count j : ℕ) : Type 0 where
  pub clauses : List Catch
  pub front : List ℕ
  pub each : Many SpelledCatch count clauses front
  pub whole : drop i text ≡ front ++ drop j text
  pub many : length clauses ≡ count
  pub fit : (ids : List TypeTree) (z : Settings) (g : Context) → Fits ids z text t g → EachCatches (inside_all ids g t.known.flat.items opens) clauses
  pub forward : i ≤ j
  pub inside : j ≤ length text
