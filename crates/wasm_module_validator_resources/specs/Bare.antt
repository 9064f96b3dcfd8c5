-- Types without references: where no feature asks for canonical forms, all types are so.
use Rattle.std.specs.Prelude.{Bool, true, false, ◌&&◌, List, [], ◌∷◌, Option, Some, None}
use Rattle.wasm_types.specs.trees.Types.{abstract, concrete, exact, ValueOf, number, ref, InnerOf, function, array_of, struct_of, continuation, EntryOf}

abbrev pub option_is_bare : {R : Type 0} → Option R → Bool
option_is_bare None = true
option_is_bare (Some r) = false

abbrev pub value_is_bare : {R : Type 0} → ValueOf R → Bool
value_is_bare (number n) = true
value_is_bare (ref n (abstract s a)) = true
value_is_bare (ref n (concrete r)) = false
value_is_bare (ref n (exact r)) = false

abbrev pub values_are_bare : {R : Type 0} → List (ValueOf R) → Bool
values_are_bare [] = true
values_are_bare (v ∷ vs) = value_is_bare v && values_are_bare vs

-- a function of such values
abbrev pub inner_is_bare : {R : Type 0} → InnerOf R → Bool
inner_is_bare (function ps rs) = values_are_bare ps && values_are_bare rs
inner_is_bare (array_of x) = false
inner_is_bare (struct_of xs) = false
inner_is_bare (continuation r) = false

-- a subtype refers to no type
abbrev pub is_bare : {R : Type 0} → EntryOf R → Bool
is_bare x = option_is_bare x.supertype && (option_is_bare x.descriptor && (option_is_bare x.describes && inner_is_bare x.inner))
