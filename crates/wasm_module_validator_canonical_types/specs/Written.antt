-- Groups of types as a module writes them, each index one of the module's (WebAssembly 3.0, structure, recursive types).
use Rattle.std.specs.Prelude.{◌≡◌, ℕ, ◌≤◌, List, [], ◌∷◌, length, map}
use Rattle.std.specs.Option.{option_map}
use Rattle.wasm_types.specs.trees.declared.index.UnpackedIndex.{UnpackedIndex}
use Rattle.wasm_types.specs.trees.declared.index.UnpackedIndex.TheVariants.{Module, RecGroup, Id}
use Rattle.wasm_types.specs.trees.Indices.{number_of}
use Rattle.wasm_types.specs.trees.Types.{SubtypeOf, inner_map}
use Rattle.wasm_types.specs.trees.Each.{EachEntry}
use Rattle.wasm_types.specs.Entries.{Declared, first_of}

-- an index of a module
abbrev pub IsModuleIndex : UnpackedIndex → Type 0
IsModuleIndex (Module n) = Unit {0}
IsModuleIndex (RecGroup p) = ⊥
IsModuleIndex (Id i) = ⊥

-- each index of each type is a module's
abbrev pub AreModuleIndices : List Declared → Type 0
AreModuleIndices [] = Unit {0}
AreModuleIndices (d ∷ ds) = EachEntry IsModuleIndex d.entry × AreModuleIndices ds

-- each type has one supertype at most, which is that of its entry
abbrev pub HaveOneSupertype : List Declared → Type 0
HaveOneSupertype [] = Unit {0}
HaveOneSupertype (d ∷ ds) = (length d.supertypes ≤ 1) × (d.entry.supertype ≡ first_of d.supertypes) × HaveOneSupertype ds

-- a type over the numbers of its indices
abbrev pub written_type : Declared → SubtypeOf ℕ
written_type d = record {
  is_final = d.entry.is_final;
  supertypes = map number_of d.supertypes;
  shared = d.entry.shared;
  descriptor = option_map number_of d.entry.descriptor;
  describes = option_map number_of d.entry.describes;
  inner = inner_map number_of d.entry.inner;
}

abbrev pub written_types : List Declared → List (SubtypeOf ℕ)
written_types ds = map written_type ds
