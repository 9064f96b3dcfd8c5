-- Names one after the other: where each stands among the bytes of all (WebAssembly 3.0, structure, values, names).
use Rattle.std.specs.Prelude.{◌≤◌, ◌-◌, take, drop, IsUtf8, ℕ, List, length}
use Rattle.wasm_module_validator_exports.specs.declared.names.kept.KeptName.{KeptName}

-- a name, among the bytes of all names
abbrev pub name_at : List ℕ → KeptName → List ℕ
name_at names n = take (n.end - n.start) (drop n.start names)

-- it is kept there
pub record IsNamed (names : List ℕ) (n : KeptName) : Type 0 where
  pub forward : n.start ≤ n.end
  pub inside : n.end ≤ length names
  pub utf8 : IsUtf8 (name_at names n)
