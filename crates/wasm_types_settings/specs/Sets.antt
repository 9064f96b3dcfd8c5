-- The sets of features that have a name, and when a set is within another.
-- What each release added: WebAssembly 3.0, appendix, change history.
use Rattle.std.specs.Prelude.{ℕ, ◌≡◌, List, [], ◌∷◌, ◌++◌}
use Rattle.std.specs.Int.RustNames.{bit_and, bit_or}
use Rattle.wasm_types_settings.specs.Features.{Feature, MutableGlobal, SaturatingFloatToInt, SignExtension, ReferenceTypes, MultiValue, BulkMemory}
use Rattle.wasm_types_settings.specs.Features.{Simd, RelaxedSimd, Threads, TailCall, Floats, MultiMemory, Exceptions, Memory64, ExtendedConst}
use Rattle.wasm_types_settings.specs.Features.{ComponentModel, FunctionReferences, Gc, GcTypes, CallIndirectOverlong, BulkMemoryOpt, mask}

-- the bits of all the features of a list
abbrev pub bits_of : List Feature → ℕ
bits_of [] = 0
bits_of (f ∷ fs) = bit_or (mask f) (bits_of fs)

-- standard: changes: release 1.0 without mutable globals that are imported or exported
-- the first release of WebAssembly, without mutable globals at the module's border
abbrev pub mvp : List Feature
mvp = Floats ∷ GcTypes ∷ []

-- standard: changes: release 1.0
-- WebAssembly 1.0
abbrev pub wasm1 : List Feature
wasm1 = mvp ++ MutableGlobal ∷ []

-- standard: changes: release 2.0
-- WebAssembly 2.0
abbrev pub wasm2 : List Feature
wasm2 = wasm1 ++ MultiValue ∷ SignExtension ∷ SaturatingFloatToInt ∷ BulkMemory ∷ ReferenceTypes ∷ Simd ∷ []

-- standard: changes: release 3.0 (differs: threads too, which are a proposal)
-- WebAssembly 3.0, and threads
abbrev pub wasm3 : List Feature
wasm3 = wasm2 ++ TailCall ∷ ExtendedConst ∷ FunctionReferences ∷ Gc ∷ MultiMemory ∷ RelaxedSimd ∷ Threads ∷ Exceptions ∷ Memory64 ∷ []

-- standard: changes: release 3.0 (differs: threads too, and the feature of the component model, on which no rule of modules depends)
-- what is allowed by default
abbrev pub default_features : List Feature
default_features = wasm3 ++ ComponentModel ∷ []

-- Lime1, the set that toolchains agreed on between 1.0 and 2.0
abbrev pub lime1 : List Feature
lime1 = wasm1 ++ MultiValue ∷ SignExtension ∷ SaturatingFloatToInt ∷ ExtendedConst ∷ BulkMemoryOpt ∷ CallIndirectOverlong ∷ []

-- every bit of the first is in the second
abbrev pub Within : ℕ → ℕ → Type 0
Within a b = bit_and a b ≡ a
