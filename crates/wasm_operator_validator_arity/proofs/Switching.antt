-- What a switch to a continuation takes and gives.
use Rattle.std.proofs.Common.{◌≡◌, ◌∙◌, ℕ, map, length, Option, Some, None, option_map, option_and_then, refl, sym, ap}
use Rattle.wasm_types.specs.trees.declared.index.UnpackedIndex.{UnpackedIndex}
use Rattle.wasm_types.specs.trees.Types.{EntryOf, InnerOf, function, array_of, struct_of, continuation, value_map}
use Rattle.wasm_types.specs.trees.Trees.{TypeTree, opened}
use Rattle.wasm_types.specs.trees.Below.{expanded}
use Rattle.wasm_types.specs.values.Values.{value_of}
use Rattle.wasm_types.specs.fields.declared.func.FuncType.{FuncType}
use Rattle.wasm_types.specs.declared.sub_type.SubType.{SubType}
use Rattle.wasm_operator_validator_resources.specs.Meaning.{Meaning, named_type, entry_in, function_in}
use Rattle.wasm_operator_validator_rules.specs.arity.Arity.{Counts, in_u32, continuation_counts, last_referred, resumed, switch_counts}
use Rattle.wasm_operator_validator_arity.specs.Knowing.{ended, type_named, function_alone, function_named, function_resumed, index_resumed}
use Rattle.wasm_operator_validator_arity.proofs.Looking.{type_behind, nothing_behind, values_long}
use Rattle.wasm_operator_validator_arity.proofs.Named.{named, unnamed, function_seen}
use Rattle.wasm_operator_validator_arity.proofs.Continuing.{resumed_is}

-- a switch to what goes on so
abbrev switch_to : Option TypeTree → Option Counts
switch_to o = option_and_then (λ g. switch_counts (expanded g)) o

abbrev switch_at : Option TypeTree → Option Counts
switch_at o = switch_to (option_and_then (λ u. resumed (expanded u)) o)

pub switch_missing : (o : Option TypeTree) → None ≡ option_map opened o
    → None ≡ ended (option_and_then (λ g. switch_counts (expanded g)) (option_and_then (λ u. resumed (expanded u)) o))
switch_missing o e = sym (ap (λ (y : Option TypeTree). ended (switch_at y)) (nothing_behind o e))

switch_seen : (m : Meaning) (x : SubType) (o : Option TypeTree) → Some (entry_in m x) ≡ option_map opened o
    → switch_at o ≡ switch_to (option_map (named_type m) (index_resumed x.composite_type.inner))
switch_seen m x o e =
    let (t, is, same) = type_behind (entry_in m x) o e in
    ap switch_at is ∙ ap (λ (y : EntryOf TypeTree). switch_to (resumed y.inner)) (sym same) ∙ ap switch_to (resumed_is m x.composite_type.inner)

-- ---- to what is no function

no_switch : (i : InnerOf TypeTree) → None ≡ function_alone i → switch_counts i ≡ None
no_switch (function ps rs) e = cc
no_switch (array_of x) e = refl
no_switch (struct_of xs) e = refl
no_switch (continuation t) e = refl

by_name : (m : Meaning) (i : UnpackedIndex) (o : Option TypeTree) → type_named m i ≡ o → None ≡ option_and_then (λ t. function_alone (expanded t)) o
    → switch_counts (expanded (named_type m i)) ≡ None
by_name m i None e f = ap switch_counts (unnamed m i e)
by_name m i (Some t) e f = ap (λ (u : TypeTree). switch_counts (expanded u)) (named m i t e) ∙ no_switch (expanded t) f

goes_nowhere : (m : Meaning) (r : Option UnpackedIndex) → None ≡ option_and_then (function_named m) r → switch_to (option_map (named_type m) r) ≡ None
goes_nowhere m None f = refl
goes_nowhere m (Some i) f = by_name m i (type_named m i) refl f

pub switch_to_none : (m : Meaning) (x : SubType) (o : Option TypeTree) → Some (entry_in m x) ≡ option_map opened o
    → None ≡ function_resumed m x.composite_type.inner
    → None ≡ ended (option_and_then (λ g. switch_counts (expanded g)) (option_and_then (λ u. resumed (expanded u)) o))
switch_to_none m x o e f = sym (ap ended (switch_seen m x o e ∙ goes_nowhere m (index_resumed x.composite_type.inner) f))

-- ---- to a function

goes_to : (m : Meaning) (r : Option UnpackedIndex) (f : InnerOf TypeTree) → Some f ≡ option_and_then (function_named m) r
    → switch_to (option_map (named_type m) r) ≡ switch_counts f
goes_to m None f e = cc
goes_to m (Some i) f e = ap switch_counts (function_seen m i f e)

switch_is : (m : Meaning) (x : SubType) (o : Option TypeTree) (f : FuncType) → Some (entry_in m x) ≡ option_map opened o
    → Some (function_in m f) ≡ function_resumed m x.composite_type.inner → switch_at o ≡ switch_counts (function_in m f)
switch_is m x o f e s = switch_seen m x o e ∙ goes_to m (index_resumed x.composite_type.inner) (function_in m f) s

ungiven : (n : ℕ) (o : Option Counts) → None ≡ option_map (λ d. d.0) o → option_map {U = Counts} (λ d. (n, d.0)) o ≡ None
ungiven n None e = refl
ungiven n (Some d) e = cc

pub switch_without_last : (m : Meaning) (x : SubType) (o : Option TypeTree) (f : FuncType) → Some (entry_in m x) ≡ option_map opened o
    → Some (function_in m f) ≡ function_resumed m x.composite_type.inner
    → None ≡ option_map (λ d. d.0) (continuation_counts (last_referred (map (value_map (named_type m)) (map value_of f.params))))
    → None ≡ ended (option_and_then (λ g. switch_counts (expanded g)) (option_and_then (λ u. resumed (expanded u)) o))
switch_without_last m x o f e s l = sym (ap ended (switch_is m x o f e s ∙ ungiven _ _ l))

given_counted : (n k : ℕ) (o : Option Counts) → Some n ≡ option_map (λ d. d.0) o → Some (in_u32 k, in_u32 n) ≡ ended (option_map (λ d. (k, d.0)) o)
given_counted n k None e = cc
given_counted n k (Some d) e = let is : n ≡ d.0 = cc in rw is refl

pub switch_counted : (m : Meaning) (x : SubType) (o : Option TypeTree) (f : FuncType) (n : ℕ) → Some (entry_in m x) ≡ option_map opened o
    → Some (function_in m f) ≡ function_resumed m x.composite_type.inner
    → Some n ≡ option_map (λ d. d.0) (continuation_counts (last_referred (map (value_map (named_type m)) (map value_of f.params))))
    → Some (in_u32 (length f.params), in_u32 n) ≡ ended (option_and_then (λ g. switch_counts (expanded g)) (option_and_then (λ u. resumed (expanded u)) o))
switch_counted m x o f n e s l =
    let g = given_counted n (length (map (value_map (named_type m)) (map value_of f.params))) _ l in
    ap (λ (k : ℕ). Some (in_u32 k, in_u32 n)) (sym (values_long m f.params)) ∙ g ∙ sym (ap ended (switch_is m x o f e s))
