-- Operators on structs, arrays and references: the types and contexts that their worked rows speak of.
use Rattle.std.specs.Prelude.{◌-◌, true, false, List, [], ◌∷◌, Some, None}
use Rattle.wasm_types.specs.settings.Features.{mask, CustomDescriptors}
use Rattle.wasm_types.specs.trees.Types.{i32, i64, number, i8, i16, FieldOf, EntryOf, function, array_of, struct_of, continuation}
use Rattle.wasm_types.specs.trees.Trees.{RefTree, local, GroupTree, TypeTree, group_tree}
use Rattle.wasm_types.specs.trees.worked.Types.{alone, declared_entry, constant, variable}
use Rattle.wasm_operator_validator_rules.specs.Operands.{ValueType}
use Rattle.wasm_operator_validator_rules.specs.Context.{Module, Context}
use Rattle.wasm_operator_validator_rules.specs.worked.Contexts.{some_module, somewhere, all_bits, widening}
use Rattle.wasm_operator_validator_rules.specs.worked.References.{null_to, to, cell}

-- ---- types

abbrev pub byte : FieldOf TypeTree
byte = record { storage = i8; mutable = true }

-- a struct below `cell`, whose field may not be written
abbrev pub wide_cell : TypeTree
wide_cell = alone (declared_entry (Some cell) false (struct_of (constant (number i32) ∷ constant (number i64) ∷ [])))

-- a struct of a number, a byte, and a reference that is never null
abbrev pub node : TypeTree
node = alone (declared_entry None false (struct_of (variable (number i32) ∷ byte ∷ variable (to cell) ∷ [])))

-- arrays of numbers, of bytes, and of references; the last may not be written
abbrev pub numbers : TypeTree
numbers = alone (declared_entry None false (array_of (variable (number i64))))

abbrev pub bytes : TypeTree
bytes = alone (declared_entry None false (array_of byte))

abbrev pub cells : TypeTree
cells = alone (declared_entry None false (array_of (variable (null_to cell))))

abbrev pub wide_cells : TypeTree
wide_cells = alone (declared_entry None false (array_of (constant (null_to wide_cell))))

-- a struct and its descriptor (the proposal on custom descriptors)
abbrev pub empty_entry : EntryOf RefTree
empty_entry = record { is_final = true; supertype = None; shared = false; descriptor = None; describes = None; inner = struct_of [] }

abbrev pub joined : GroupTree
joined = group_tree (record empty_entry { descriptor = Some (local 1) } ∷ record empty_entry { describes = Some (local 0) } ∷ [])

abbrev pub described : TypeTree
described = record { group = joined; place = 0 }

abbrev pub describing : TypeTree
describing = record { group = joined; place = 1 }

-- a continuation, and one that is declared below a struct, as no valid group has it (the proposal on stack switching)
abbrev pub started : TypeTree
started = alone (declared_entry None false (continuation (alone (declared_entry None false (function [] (number i32 ∷ []))))))

abbrev pub misplaced : TypeTree
misplaced = alone (declared_entry (Some cell) false (continuation (alone (declared_entry None false (function [] (number i32 ∷ []))))))

-- arrays of references that are never null, and of numbers that may not be written
abbrev pub full_cells : TypeTree
full_cells = alone (declared_entry None false (array_of (variable (to cell))))

abbrev pub constants : TypeTree
constants = alone (declared_entry None false (array_of (constant (number i32))))

-- arrays of 16 bits and of 32
abbrev pub halves : TypeTree
halves = alone (declared_entry None false (array_of (record { storage = i16; mutable = true })))

abbrev pub words : TypeTree
words = alone (declared_entry None false (array_of (variable (number i32))))

-- ---- contexts

-- a module with these types, and with element segments of narrow and of wide cells
abbrev pub with_objects : Module
with_objects = record some_module {
  types =
      widening ∷ cell ∷ wide_cell ∷ node ∷ numbers ∷ bytes ∷ cells ∷ wide_cells ∷ described ∷ describing ∷ started ∷ misplaced ∷ full_cells ∷ constants
      ∷ halves ∷ words ∷ [];
  elements = null_to cell ∷ null_to wide_cell ∷ [];
}

abbrev pub here : Context
here = record somewhere { «module» = with_objects }

-- within frames to which a branch takes these
abbrev pub under : List ValueType → Context
under ts = record here { labels = ts ∷ (number i32 ∷ []) ∷ [] }

-- without the proposal on custom descriptors; in a shared function
abbrev pub plainly : Context
plainly = record here { bits = all_bits - mask CustomDescriptors }

abbrev pub here_shared : Context
here_shared = record here { shared = true }
