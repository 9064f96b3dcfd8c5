-- By the laws of runs, since a function type is read exactly; what is read is what a function type is.
use Rattle.wasm_sections_items.specs.limited.WalkLaws.{run_sound, run_complete}
use Rattle.wasm_sections_items.specs.limited.Runs.{place_of_functions, told, plain, seen}
use Rattle.wasm_sections_items.specs.limited.Functions.{SpelledAlone, function_alone}
use Rattle.wasm_sections_items.specs.limited.FunctionLaws.{lawful-function_alone, decides-function_alone}
use Rattle.wasm_types.specs.decoding.ErrorValue.{ErrorValue}
use Rattle.wasm_types.specs.fields.Signatures.{Signature}
use Rattle.std.proofs.Common.{◌≡◌, ◌∙◌, List, [], ◌∷◌, Result, Ok, Err, refl, sym, map, true}
use Rattle.std.proofs.lemmas.List.{map-id}
use Rattle.wasm_sections_items.proofs.limited.laws.function_types_are_exact.Goals as goal

pub returns-clause-lawful : goal.returns-clause-lawful
returns-clause-lawful c = lawful-function_alone

pub returns-clause-exact : goal.returns-clause-exact
returns-clause-exact c = decides-function_alone

pub returns-clause-sound : goal.returns-clause-sound
returns-clause-sound c b t n it xs h k d =
    let spelled = run_sound (λ f. f) function_alone place_of_functions (told true) (plain (λ f. f) function_alone) (λ z b x c h. h) SpelledAlone decides-function_alone b t n it xs h k d in
    rw map-id at spelled

all_seen : (items : List (Result Signature ErrorValue)) → map (seen (λ f. f)) items ≡ items
all_seen [] = refl
all_seen (Ok x ∷ items) = let rest = all_seen items in cc
all_seen (Err e ∷ items) = let rest = all_seen items in cc

pub returns-clause-complete : goal.returns-clause-complete
returns-clause-complete c b t n it xs items h k s d m =
    sym (all_seen items)
    ∙ run_complete (λ f. f) function_alone place_of_functions (told true) (plain (λ f. f) function_alone) (λ z b x c h. h) SpelledAlone decides-function_alone b t n it xs items h k s d m
