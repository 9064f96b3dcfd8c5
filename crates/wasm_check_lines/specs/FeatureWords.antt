-- The words of the features, and the word that stands for a set.
use Rattle.std.specs.Prelude.{ℕ, ◌==◌, List, [], ◌∷◌, ◌++◌, Option, Some, None, codes, if◌then◌else◌}
use Rattle.wasm_types.specs.settings.Features.{mask, MutableGlobal, SaturatingFloatToInt, SignExtension, ReferenceTypes, MultiValue, BulkMemory}
use Rattle.wasm_types.specs.settings.Features.{Simd, RelaxedSimd, Threads, SharedEverythingThreads, TailCall, Floats, MultiMemory, Exceptions}
use Rattle.wasm_types.specs.settings.Features.{Memory64, ExtendedConst, ComponentModel, FunctionReferences, MemoryControl, Gc, CustomPageSizes}
use Rattle.wasm_types.specs.settings.Features.{LegacyExceptions, GcTypes, StackSwitching, WideArithmetic, CallIndirectOverlong, BulkMemoryOpt}
use Rattle.wasm_types.specs.settings.Features.{CustomDescriptors}

-- the features by their places, each with all bits that its name stands for: of the first seven bits
abbrev pub words_from_0 : List (List ℕ × ℕ)
words_from_0 = (codes "mutable-global", mask MutableGlobal)
    ∷ (codes "saturating-float-to-int", mask SaturatingFloatToInt)
    ∷ (codes "sign-extension", mask SignExtension)
    ∷ (codes "reference-types", mask ReferenceTypes)
    ∷ (codes "multi-value", mask MultiValue)
    ∷ (codes "bulk-memory", mask BulkMemory)
    ∷ (codes "simd", mask Simd)
    ∷ []

-- of the next seven
abbrev pub words_from_7 : List (List ℕ × ℕ)
words_from_7 = (codes "relaxed-simd", mask RelaxedSimd)
    ∷ (codes "threads", mask Threads)
    ∷ (codes "shared-everything-threads", mask SharedEverythingThreads)
    ∷ (codes "tail-call", mask TailCall)
    ∷ (codes "floats", mask Floats)
    ∷ (codes "multi-memory", mask MultiMemory)
    ∷ (codes "exceptions", mask Exceptions)
    ∷ []

-- of the next seven
abbrev pub words_from_14 : List (List ℕ × ℕ)
words_from_14 = (codes "memory64", mask Memory64)
    ∷ (codes "extended-const", mask ExtendedConst)
    ∷ (codes "component-model", mask ComponentModel)
    ∷ (codes "function-references", mask FunctionReferences)
    ∷ (codes "memory-control", mask MemoryControl)
    ∷ (codes "gc", mask Gc)
    ∷ (codes "custom-page-sizes", mask CustomPageSizes)
    ∷ []

-- of the last seven
abbrev pub words_from_21 : List (List ℕ × ℕ)
words_from_21 = (codes "legacy-exceptions", mask LegacyExceptions)
    ∷ (codes "gc-types", mask GcTypes)
    ∷ (codes "stack-switching", mask StackSwitching)
    ∷ (codes "wide-arithmetic", mask WideArithmetic)
    ∷ (codes "call-indirect-overlong", mask CallIndirectOverlong)
    ∷ (codes "bulk-memory-opt", mask BulkMemoryOpt)
    ∷ (codes "custom-descriptors", mask CustomDescriptors)
    ∷ []

-- all of them
unfoldable pub feature_words : List (List ℕ × ℕ)
feature_words = words_from_0 ++ (words_from_7 ++ (words_from_14 ++ words_from_21))

-- the first word that stands beside exactly these bits
abbrev pub worded : List (List ℕ × ℕ) → ℕ → Option (List ℕ)
worded [] bits = None
worded (row ∷ rows) bits = if bits == row.1 then Some row.0 else worded rows bits

abbrev pub first_word : Option (List ℕ) → Option (List ℕ) → Option (List ℕ)
first_word (Some word) other = Some word
first_word None other = other

-- the word of exactly these features, if one has them
abbrev pub word_for : ℕ → Option (List ℕ)
word_for bits = first_word (worded words_from_0 bits)
    (first_word (worded words_from_7 bits) (first_word (worded words_from_14 bits) (worded words_from_21 bits)))
