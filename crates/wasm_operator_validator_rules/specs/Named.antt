-- What operators name by an index, if the function may use it: types of the module by their constructors (WebAssembly 3.0,
-- validation, conventions, contexts; types, expansion). A shared function may name shared types alone (the proposal on shared
-- everything).
use Rattle.std.specs.Prelude.{ℕ, Option, Some, None, option_and_then, slice_get, if◌then◌else◌}
use Rattle.wasm_types.specs.trees.Types.{InnerOf, function}
use Rattle.wasm_types.specs.trees.Trees.{TypeTree}
use Rattle.wasm_types.specs.trees.Below.{is_shared}
use Rattle.wasm_operator_validator_rules.specs.Context.{Context, Signature, may_use}

-- standard: valid-context: C.types[x] (differs: a shared function names shared types alone)
-- a type of the module that the function may use
abbrev pub used_type : Context → ℕ → Option TypeTree
used_type g x = option_and_then (λ t. if may_use g (is_shared t) then Some t else None) (slice_get g.«module».types x)

-- standard: aux-expand-deftype: expand, to a function type
-- a composite type as a function
abbrev pub as_function : InnerOf TypeTree → Option Signature
as_function (function ps rs) = Some (record { params = ps; results = rs })
as_function _ = None
