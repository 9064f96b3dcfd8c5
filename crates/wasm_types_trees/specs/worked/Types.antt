-- The types that the worked rows speak of, each in a group of its own.
use Rattle.std.specs.Prelude.{Bool, true, false, [], ◌∷◌, Option, Some, None}
use Rattle.wasm_types_trees.specs.Types.{i32, i64, ValueOf, number, value, FieldOf, InnerOf, function, array_of, struct_of, continuation, EntryOf, entry_map}
use Rattle.wasm_types_trees.specs.Trees.{TypeTree, type_of, group_tree}

-- an immutable field, and a mutable one
abbrev pub constant : {R : Type 0} → ValueOf R → FieldOf R
constant v = record { storage = value v; mutable = false }

abbrev pub variable : {R : Type 0} → ValueOf R → FieldOf R
variable v = record { storage = value v; mutable = true }

-- an open type, shared or not, below the type that it declares, if any
abbrev pub declared_entry : Option TypeTree → Bool → InnerOf TypeTree → EntryOf TypeTree
declared_entry above shared inner = record { is_final = false; supertype = above; shared = shared; descriptor = None; describes = None; inner = inner }

abbrev pub alone : EntryOf TypeTree → TypeTree
alone x = record { group = group_tree (entry_map (λ t. type_of t.group t.place) x ∷ []); place = 0 }

-- a chain of structs
abbrev pub base : TypeTree
base = alone (declared_entry None false (struct_of []))

abbrev pub derived : TypeTree
derived = alone (declared_entry (Some base) false (struct_of (constant (number i32) ∷ [])))

abbrev pub leaf : TypeTree
leaf = alone (declared_entry (Some derived) false (struct_of (constant (number i32) ∷ constant (number i64) ∷ [])))

-- the fields of the second, with no supertype
abbrev pub unrelated : TypeTree
unrelated = alone (declared_entry None false (struct_of (constant (number i32) ∷ [])))

abbrev pub shared_struct : TypeTree
shared_struct = alone (declared_entry None true (struct_of []))

abbrev pub routine : TypeTree
routine = alone (declared_entry None false (function [] []))

abbrev pub numbers : TypeTree
numbers = alone (declared_entry None false (array_of (constant (number i32))))

abbrev pub suspended : TypeTree
suspended = alone (declared_entry None false (continuation routine))

-- a function type that declares a struct as its supertype: no valid group has it
abbrev pub broken : TypeTree
broken = alone (declared_entry (Some base) false (function [] []))
