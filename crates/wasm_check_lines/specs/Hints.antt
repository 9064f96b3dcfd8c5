-- What a person can do about a refusal, as its cause and the first bytes of the input tell it.
use Rattle.std.specs.Prelude.{ℕ, Bool, false, ◌==◌, ◌||◌, List, [], ◌∷◌, ◌++◌, take, Option, Some, None, option_map, codes, bytes_eq, if◌then◌else◌}
use Rattle.wasm_types.specs.decoding.ErrorValue.{ErrorValue}
use Rattle.wasm_types.specs.settings.declared.Limits.{Limits}
use Rattle.wasm_types.specs.settings.declared.WasmFeatures.{WasmFeatures}
use Rattle.wasm_check_lines.specs.declared.causes.Cause.{Cause}
use Rattle.wasm_check_lines.specs.declared.causes.Cause.TheVariants.{Vectors, Limit, Feature, FixedLimit, Types, Another}
use Rattle.wasm_check_lines.specs.Causes.{cause_of}
use Rattle.wasm_check_lines.specs.Limits.{is_highest, word_of}
use Rattle.wasm_check_lines.specs.declared.limit.Limit.{Limit as Limited}
use Rattle.wasm_check_lines.specs.FeatureWords.{word_for}

-- a space of the text format: a space, a tab, a line feed or a carriage return (WebAssembly 3.0, 6.2.3)
abbrev pub is_space : ℕ → Bool
is_space b = b == 32 || b == 9 || b == 10 || b == 13

-- after spaces these bytes begin with `(module`, as a module in the text format does
unfoldable pub is_text : List ℕ → Bool
is_text [] = false
is_text (b ∷ bs) = if is_space b then is_text bs else bytes_eq (take 7 (b ∷ bs)) (codes "(module")

-- that these bytes are the text format, if they are
abbrev pub text_hint : List ℕ → Option (List ℕ)
text_hint front = if is_text front then Some (codes "this is the text format; wasm-check judges the binary format") else None

-- which option sets a limit
unfoldable pub limit_hint : List ℕ → List ℕ
limit_hint word = codes "--limits " ++ word ++ codes "=N sets this limit"

-- what to do about a limit: to set it, unless it is as high as it may be
abbrev pub limit_help : Limits → Limited → List ℕ
limit_help l limit = if is_highest limit l then codes "no option raises this limit" else limit_hint (word_of limit)

-- which allows a feature
unfoldable pub feature_hint : List ℕ → List ℕ
feature_hint word = codes "--features " ++ word ++ codes " allows it"

-- which allows these features, if they have a word
abbrev pub features_hint : WasmFeatures → Option (List ℕ)
features_hint features = option_map feature_hint (word_for features.0)

-- what to do about a cause under these limits, in a module that begins with these bytes
abbrev pub hint_for : Limits → Cause → List ℕ → Option (List ℕ)
hint_for l Vectors front = Some (codes "--vectors judges operators on vectors")
hint_for l (Limit limit) front = Some (limit_help l limit)
hint_for l (Feature features) front = features_hint features
hint_for l FixedLimit front = None
hint_for l Types front = None
hint_for l Another front = text_hint front

-- what to do about a refusal by this error under these limits
abbrev pub hint_of : Limits → ErrorValue → List ℕ → Option (List ℕ)
hint_of l e front = hint_for l (cause_of l e) front

-- a hint between two texts, or nothing
abbrev pub framed : List ℕ → Option (List ℕ) → List ℕ → List ℕ
framed before None after = []
framed before (Some hint) after = before ++ hint ++ after
