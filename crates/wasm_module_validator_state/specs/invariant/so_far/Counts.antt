-- How much there is in the spaces of a module as far as it was read (WebAssembly 3.0, appendix, implementation limitations).
use Rattle.std.specs.Prelude.{◌≡◌, ◌+◌, ℕ, List, [], ◌∷◌, length}
use Rattle.wasm_operator_validator_rules.specs.Context.{Module}
use Rattle.wasm_module_validator_resources.specs.index_spaces.Spaces.{Spaces}

-- there is as much in the context as in the spaces
pub record AreCounted (g : Module) (s : Spaces) : Type 0 where
  pub types : length g.types ≡ length s.types
  pub functions : length g.functions ≡ length s.functions
  pub tables : length g.tables ≡ length s.tables
  pub memories : length g.memories ≡ length s.memories
  pub globals : length g.globals ≡ length s.globals
  pub tags : length g.tags ≡ length s.tags
  pub elements : length g.elements ≡ length s.elements

-- a sum, with these added
abbrev pub sum_with : ℕ → List ℕ → ℕ
sum_with sum [] = sum
sum_with sum (n ∷ ns) = sum_with (sum + n) ns
