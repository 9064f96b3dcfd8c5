-- Worked modules that are being read, and refusals: for each definition one that is so and one that is not.
use Rattle.std.specs.Prelude.{◌≡◌, [], ◌∷◌, None}
use Rattle.wasm_types.specs.settings.Settings.{Settings}
use Rattle.wasm_types.specs.settings.declared.Limits.{Limits}
use Rattle.wasm_types.specs.decoding.Decoder.{State}
-- for attributes that unfold it
unfoldable pub use Rattle.wasm_types.specs.settings.Features.{has}
use Rattle.wasm_types.specs.decoding.ErrorValue.{ErrorValue}
use Rattle.wasm_types.specs.decoding.declared.error.ErrorKind.TheVariants.{Other, Failed}
use Rattle.wasm_module_validator_state.specs.Items.{Items, no_items}
use Rattle.wasm_module_validator_state.specs.Adding.{adding_function}
use Rattle.wasm_sections_items.specs.declared.segments.global.GlobalOf.{GlobalOf}
use Rattle.wasm_sections_items.specs.declared.segments.table.TableOf.{TableOf}
use Rattle.wasm_sections_items.specs.declared.elements.element.ElementOf.{ElementOf}
use Rattle.wasm_module_validator_initialisers.specs.adding.Read.{NamesInit}
use Rattle.wasm_module_validator_initialisers.specs.adding.Refusals.{IsOneTooMany, RefusesNewGlobal, RefusesNewTable, RefusesNewElement}
use Rattle.wasm_module_validator_state.specs.invariant.Standing.{constants_of}

-- two functions were read, which nothing refers to
abbrev pub two_functions : Settings → Items
two_functions z = record (no_items z) { spaces = adding_function 0 (adding_function 0 (no_items z).spaces) }

abbrev pub at_seven : ErrorValue
at_seven = record { kind = Other; offset = 7; message = [] }

-- nothing was read, and the limits are these
abbrev pub nothing_under : Limits → Items
nothing_under l = no_items (record { features = 0xfff_ffff; limits = l })

pub record InitialisingWorked (z : Settings) : Type 0 where
  pub referred : (constants_of [] (two_functions z).spaces).«module».referenced ≡ 0 ∷ 1 ∷ []
  pub referred_in_none : (constants_of [] (no_items z).spaces).«module».referenced ≡ []
  pub none_named : NamesInit z None (3 ∷ []) (3 ∷ [])
  pub none_named_more : NamesInit z None [] (3 ∷ []) → ⊥
  pub too_many : IsOneTooMany 1 1 7 at_seven
  pub not_too_many : IsOneTooMany 0 1 7 at_seven → ⊥
  pub elsewhere : IsOneTooMany 1 1 6 at_seven → ⊥
  pub otherwise : IsOneTooMany 1 1 7 (record at_seven { kind = Failed }) → ⊥
  pub no_global : (x : GlobalOf State) → RefusesNewGlobal [] (nothing_under (record z.limits { globals = 0 })) 7 x at_seven
  pub no_table : (x : TableOf State) → RefusesNewTable [] (nothing_under (record z.limits { tables = 0 })) 7 x at_seven
  pub no_element : (x : ElementOf State) → RefusesNewElement [] (nothing_under (record z.limits { element_segments = 0 })) 7 x at_seven
