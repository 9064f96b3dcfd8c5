-- Composite types that match one another and composite types that don't.
use Rattle.std.specs.Prelude.{true, false, [], ◌∷◌, Some, None}
use Rattle.wasm_types_trees.specs.Types.{i32, i64, concrete, ValueOf, number, ref, i8, i16, FieldOf, InnerOf, function, array_of, struct_of, continuation}
use Rattle.wasm_types_trees.specs.Trees.{TypeTree}
use Rattle.wasm_types_trees.specs.Matches.{Matches}
use Rattle.wasm_types_trees.specs.worked.Types.{constant, variable, declared_entry, base, derived, routine}

-- of types that are not shared and declare no supertype
abbrev pub InnerDoes : InnerOf TypeTree → InnerOf TypeTree → Type 0
InnerDoes x y = Matches (declared_entry None false x) (declared_entry None false y)

abbrev pub InnerDoesNot : InnerOf TypeTree → InnerOf TypeTree → Type 0
InnerDoesNot x y = InnerDoes x y → ⊥

-- a reference to each of the two, of which the second is below the first
abbrev pub to_base : ValueOf TypeTree
to_base = ref false (concrete base)

abbrev pub to_derived : ValueOf TypeTree
to_derived = ref false (concrete derived)

abbrev pub packed8 : FieldOf TypeTree
packed8 = record { storage = i8; mutable = false }

abbrev pub packed16 : FieldOf TypeTree
packed16 = record { storage = i16; mutable = false }

abbrev pub one : FieldOf TypeTree → InnerOf TypeTree
one x = struct_of (x ∷ [])

abbrev pub taking : ValueOf TypeTree → InnerOf TypeTree
taking v = function (v ∷ []) []

abbrev pub giving : ValueOf TypeTree → InnerOf TypeTree
giving v = function [] (v ∷ [])

abbrev pub integer : ValueOf TypeTree
integer = number i32

abbrev pub long : ValueOf TypeTree
long = number i64

pub record MatchesWorked : Type 0 where
  -- packed types match themselves alone
  pub packed : InnerDoes (one packed8) (one packed8) × InnerDoes (one packed16) (one packed16)
  pub packed_not : InnerDoesNot (one packed8) (one packed16) × InnerDoesNot (one packed16) (one packed8)
  pub packed_no_value : InnerDoesNot (one packed8) (one (constant integer)) × InnerDoesNot (one packed16) (one (constant integer))
  pub value_not_packed : InnerDoesNot (one (constant integer)) (one packed8) × InnerDoesNot (one (constant integer)) (one packed16)
  -- fields: an immutable one may be below the other's, a mutable one is the same
  pub constant_field : InnerDoes (one (constant to_derived)) (one (constant to_base))
  pub constant_field_not : InnerDoesNot (one (constant to_base)) (one (constant to_derived))
  pub variable_field : InnerDoes (one (variable to_base)) (one (variable to_base))
  pub variable_field_not : InnerDoesNot (one (variable to_derived)) (one (variable to_base))
  pub variable_field_not_either : InnerDoesNot (one (variable to_base)) (one (variable to_derived))
  pub mutability : InnerDoesNot (one (variable integer)) (one (constant integer)) × InnerDoesNot (one (constant integer)) (one (variable integer))
  pub other_number : InnerDoesNot (one (constant integer)) (one (constant long))
  -- structs: at least the other's fields
  pub more_fields : InnerDoes (struct_of (constant integer ∷ constant long ∷ [])) (one (constant integer)) × InnerDoes (one (constant integer)) (struct_of [])
  pub fewer_fields : InnerDoesNot (one (constant integer)) (struct_of (constant integer ∷ constant long ∷ []))
  pub later_field : InnerDoesNot (struct_of (constant integer ∷ constant long ∷ [])) (struct_of (constant integer ∷ constant integer ∷ []))
  pub exchanged_fields : InnerDoesNot (struct_of (constant long ∷ constant integer ∷ [])) (one (constant integer))
  pub arrays : InnerDoes (array_of (constant to_derived)) (array_of (constant to_base))
  pub arrays_not : InnerDoesNot (array_of (constant to_base)) (array_of (constant to_derived)) × InnerDoesNot (array_of (variable to_derived)) (array_of (variable to_base))
  -- functions: parameters the other way round, and as many of both
  pub parameters : InnerDoes (taking to_base) (taking to_derived)
  pub parameters_not : InnerDoesNot (taking to_derived) (taking to_base)
  pub results : InnerDoes (giving to_derived) (giving to_base)
  pub results_not : InnerDoesNot (giving to_base) (giving to_derived)
  pub count_of_parameters : InnerDoesNot (taking integer) (function [] []) × InnerDoesNot (function [] []) (taking integer)
  pub count_of_results : InnerDoesNot (giving integer) (function [] []) × InnerDoesNot (function [] []) (giving integer)
  -- continuations: by their function types
  pub continuations : InnerDoes (continuation derived) (continuation base)
  pub continuations_not : InnerDoesNot (continuation base) (continuation derived)
  -- one constructor
  pub functions_alone : InnerDoesNot (function [] []) (struct_of []) × InnerDoesNot (function [] []) (continuation routine)
  pub arrays_alone : InnerDoesNot (array_of (constant integer)) (one (constant integer)) × InnerDoesNot (array_of (constant integer)) (function [] [])
  pub structs_alone : InnerDoesNot (one (constant integer)) (array_of (constant integer)) × InnerDoesNot (struct_of []) (function [] [])
  pub continuations_alone : InnerDoesNot (continuation routine) (function [] []) × InnerDoesNot (continuation routine) (struct_of [])
  -- one sharedness; finality and supertypes don't count
  pub shared : Matches (declared_entry None true (function [] [])) (declared_entry None true (function [] []))
  pub shared_not : Matches (declared_entry None true (function [] [])) (declared_entry None false (function [] [])) → ⊥
  pub unshared_not : Matches (declared_entry None false (function [] [])) (declared_entry None true (function [] [])) → ⊥
  pub finality : Matches (record (declared_entry (Some base) false (struct_of [])) { is_final = true }) (declared_entry None false (struct_of []))
