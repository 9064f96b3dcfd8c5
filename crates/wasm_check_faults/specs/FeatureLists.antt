-- What a list of `--features` stands for: words between commas, which are applied from left to right to the default set.
use Rattle.std.specs.Prelude.{ℕ, ◌==◌, map, List, [], ◌∷◌, Option, Some, None, Result, codes, bytes_eq, take, drop, option_map, option_and_then, if◌then◌else◌}
use Rattle.std.specs.Char.{to_ascii_lowercase}
use Rattle.std.specs.Option.{ok_or}
use Rattle.std.specs.Int.RustNames.{bit_or}
use Rattle.bitflags.specs.Sets.{without}
use Rattle.wasm_types.specs.settings.Features.{Feature, MutableGlobal, SaturatingFloatToInt, SignExtension, ReferenceTypes, MultiValue, BulkMemory}
use Rattle.wasm_types.specs.settings.Features.{Simd, RelaxedSimd, Threads, SharedEverythingThreads, TailCall, Floats, MultiMemory, Exceptions}
use Rattle.wasm_types.specs.settings.Features.{Memory64, ExtendedConst, ComponentModel, FunctionReferences, MemoryControl, Gc, CustomPageSizes}
use Rattle.wasm_types.specs.settings.Features.{LegacyExceptions, GcTypes, StackSwitching, WideArithmetic, CallIndirectOverlong, BulkMemoryOpt}
use Rattle.wasm_types.specs.settings.Features.{CustomDescriptors}
use Rattle.wasm_types.specs.settings.Sets.{bits_of, mvp, wasm1, wasm2, wasm3, lime1, default_features}
use Rattle.wasm_check_lines.specs.FeatureWords.{feature_words}
use Rattle.wasm_check_faults.specs.Lists.{Place, words_of, through, through_lists}

-- all features
abbrev pub all_features : List Feature
all_features = MutableGlobal ∷ SaturatingFloatToInt ∷ SignExtension ∷ ReferenceTypes ∷ MultiValue ∷ BulkMemory ∷ Simd ∷ RelaxedSimd
    ∷ Threads ∷ SharedEverythingThreads ∷ TailCall ∷ Floats ∷ MultiMemory ∷ Exceptions ∷ Memory64 ∷ ExtendedConst ∷ ComponentModel
    ∷ FunctionReferences ∷ MemoryControl ∷ Gc ∷ CustomPageSizes ∷ LegacyExceptions ∷ GcTypes ∷ StackSwitching ∷ WideArithmetic
    ∷ CallIndirectOverlong ∷ BulkMemoryOpt ∷ CustomDescriptors ∷ []

-- the sets that have a name
abbrev pub set_words : List (List ℕ × ℕ)
set_words = (codes "mvp", bits_of mvp)
    ∷ (codes "wasm1", bits_of wasm1)
    ∷ (codes "wasm2", bits_of wasm2)
    ∷ (codes "wasm3", bits_of wasm3)
    ∷ (codes "lime1", bits_of lime1)
    ∷ (codes "default", bits_of default_features)
    ∷ (codes "all", bits_of all_features)
    ∷ (codes "-all", 0)
    ∷ []

-- The name of a constant as a word: in lower case, with hyphens (45) for underscores (95). So the words of the features are the names of
-- the constants of `WasmFeatures`.
abbrev pub hyphened : ℕ → ℕ
hyphened b = if b == 95 then 45 else to_ascii_lowercase b

abbrev pub word_of : List ℕ → List ℕ
word_of name = map hyphened name

-- the bits that stand beside this word
abbrev pub named : List (List ℕ × ℕ) → List ℕ → Option ℕ
named [] word = None
named (row ∷ rows) word = if bytes_eq word row.0 then Some row.1 else named rows word

-- what a word does to the set so far
pub data Change : Type 0 where
  Replace : ℕ → Change
  Add : ℕ → Change
  Remove : ℕ → Change

abbrev pub changed : Change → ℕ → ℕ
changed (Replace set) bits = set
changed (Add feature) bits = bit_or bits feature
changed (Remove feature) bits = without 32 bits feature

-- what follows `no-`, or `-` alone
abbrev pub after_no : List ℕ → Option (List ℕ)
after_no word = if bytes_eq (take 3 word) (codes "no-") then Some (drop 3 word) else (if bytes_eq (take 1 word) (codes "-") then Some (drop 1 word) else None)

-- the word is a set's name, or a feature's, or `no-` or `-` and a feature's name; any other is unknown, the empty one too
abbrev pub first_known : Option ℕ → Option ℕ → Option ℕ → Option Change
first_known (Some set) added removed = Some (Replace set)
first_known None (Some feature) removed = Some (Add feature)
first_known None None removed = option_map Remove removed

abbrev pub change_of : List ℕ → Option Change
change_of word = first_known (named set_words word) (named feature_words word) (option_and_then (named feature_words) (after_no word))

-- what it makes of a set
abbrev pub set_after : List ℕ → ℕ → Option ℕ
set_after word bits = option_map (λ change. changed change bits) (change_of word)

abbrev pub feature_step : Place → List ℕ → ℕ → Result ℕ Place
feature_step place word bits = ok_or (set_after word bits) place

-- the set that a list makes of a set, or where its first unknown word is
unfoldable pub features_along : List ℕ → ℕ → Result ℕ Place
features_along list bits = through feature_step 0 (words_of list) bits

-- the set that a list stands for
abbrev pub features_of : List ℕ → Result ℕ Place
features_of list = features_along list (bits_of default_features)

-- the set that several lists make of a set, one after another, or the place of the first unknown word in its list
abbrev pub features_through : List (List ℕ) → ℕ → Result ℕ Place
features_through lists bits = through_lists features_along lists bits

-- ---- a word that is unknown

-- the bits of the feature that is meant by a word in capital letters or with underscores
abbrev pub meant_by : List ℕ → Option ℕ
meant_by word = named feature_words (word_of word)
