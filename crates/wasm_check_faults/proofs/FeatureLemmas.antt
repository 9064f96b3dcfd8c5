-- On the names of features.
use Rattle.std.proofs.Common.{◌≡◌, ◌∙◌, ◌+◌, ◌<◌, ◌≤◌, true, ℕ, List, ◌∷◌, ap, sym, subst, refl, map, length, drop, get_or, bytes_eq}
use Rattle.std.specs.Prelude.{Option, Some, None, Ok, Err, option_map}
use Rattle.std.specs.Option.{ok_or}
use Rattle.wasm_check_faults.specs.Lists.{Place}
use Rattle.std.proofs.lemmas.Simd.{map-map}
use Rattle.std.proofs.lemmas.List.{at_drop_more, at_drop_all}
use Rattle.bitflags.specs.declared.traits.Flag.{Flag}
use Rattle.wasm_types.specs.settings.declared.features.WasmFeatures.{WasmFeatures}
use Rattle.wasm_check_faults.specs.FeatureLists.{word_of, named, set_after, feature_step}
use Rattle.wasm_check_lines.specs.FeatureWords.{feature_words}

-- the flags as rows of words
abbrev pub rows_of : List (Flag WasmFeatures) → List (List ℕ × ℕ)
rows_of flags = map (λ f. (word_of f.name.now, f.value.0)) flags

-- the first row has this word
first_row : (word : List ℕ) (row : List ℕ × ℕ) (rows : List (List ℕ × ℕ)) → bytes_eq word row.0 ≡ true → named (row ∷ rows) word ≡ Some row.1
first_row word row rows e = rw e refl

-- the flags are those that have words
pub rows_are : (flags : List (Flag WasmFeatures)) (table : List (List ℕ × ℕ)) → map (λ f. (f.name.now, f.value.0)) flags ≡ table
    → map (λ row. (word_of row.0, row.1)) table ≡ feature_words → rows_of flags ≡ feature_words
rows_are flags table e w =
    sym (map-map (λ (row : List ℕ × ℕ). (word_of row.0, row.1)) (λ (f : Flag WasmFeatures). (f.name.now, f.value.0)) flags)
    ∙ ap (map (λ (row : List ℕ × ℕ). (word_of row.0, row.1))) e ∙ w

module _ (flags : List (Flag WasmFeatures)) (word : List ℕ) (i : ℕ) (all : rows_of flags ≡ feature_words)
    (left : named (rows_of flags) word ≡ named (rows_of (drop i flags)) word) where
  -- the first that is left has this name
  pub named_here : (d : Flag WasmFeatures) (name : List ℕ) (value : WasmFeatures) → i < length flags → name ≡ (get_or flags i d).name.now → value ≡ (get_or flags i d).value
      → bytes_eq word (word_of name) ≡ true → Some value.0 ≡ named feature_words word
  named_here d name value below n v same =
      let here = get_or flags i d in
      let hit : bytes_eq word (word_of here.name.now) ≡ true = subst (λ (x : List ℕ). bytes_eq word (word_of x) ≡ true) n same in
      sym (ap (λ (rows : List (List ℕ × ℕ)). named rows word) (sym all) ∙ left ∙ at_drop_more (λ (fs : List (Flag WasmFeatures)). named (rows_of fs) word) flags i d below
      ∙ first_row word (word_of here.name.now, here.value.0) (rows_of (drop (i + 1) flags)) hit ∙ ap (λ (x : WasmFeatures). Some x.0) (sym v))

  -- none is left
  pub named_nowhere : length flags ≤ i → None ≡ named feature_words word
  named_nowhere end =
      sym (ap (λ (rows : List (List ℕ × ℕ)). named rows word) (sym all) ∙ left ∙ at_drop_all (λ (fs : List (Flag WasmFeatures)). named (rows_of fs) word) flags i end)

-- what a word makes of a set: it is unknown, or known
pub unknown_step : (place : Place) (word : List ℕ) (bits : ℕ) (r : Option WasmFeatures) → option_map (λ f. f.0) r ≡ set_after word bits → r ≡ None
    → feature_step place word bits ≡ Err place
unknown_step place word bits r e none = ap (λ (o : Option ℕ). ok_or o place) (sym e) ∙ ap (λ (o : Option WasmFeatures). ok_or (option_map (λ f. f.0) o) place) none

pub known_step : (place : Place) (word : List ℕ) (bits : ℕ) (r : Option WasmFeatures) (next : WasmFeatures) → option_map (λ f. f.0) r ≡ set_after word bits → r ≡ Some next
    → feature_step place word bits ≡ Ok next.0
known_step place word bits r next e some = ap (λ (o : Option ℕ). ok_or o place) (sym e) ∙ ap (λ (o : Option WasmFeatures). ok_or (option_map (λ f. f.0) o) place) some
