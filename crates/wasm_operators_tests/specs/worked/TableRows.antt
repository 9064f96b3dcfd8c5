-- Tables of labels, clauses and handlers (WebAssembly 3.0, binary format, control instructions; handlers by the proposal on stack
-- switching).
use Rattle.std.specs.Prelude.{[], ◌∷◌}
use Rattle.wasm_types.specs.values.declared.value.ValType.TheVariants.{I32}
use Rattle.wasm_operators_immediates.specs.declared.block.BlockType.TheVariants.{Empty, Val}
use Rattle.wasm_operators_immediates.specs.declared.handlers.Catch.TheVariants.{One, OneRef, All, AllRef}
use Rattle.wasm_operators_immediates.specs.declared.handlers.Handle.TheVariants.{OnLabel, OnSwitch}
use Rattle.wasm_operators_immediates.specs.Handlers.{catch_table}
use Rattle.wasm_operators_immediates.specs.Kinds as kind
use Rattle.wasm_operators_immediates.specs.Immediates as value
use Rattle.wasm_operators_tests.specs.worked.Worked.{none, reads, refuses, ends, refuses_narrowly, ends_narrowly}

pub record TableRows : Type 0 where
  pub labels : reads none kind.BranchTable (0x02 ∷ 0x00 ∷ 0x01 ∷ 0x02 ∷ []) (value.BranchTable (record { targets = 0 ∷ 1 ∷ []; default = 2 }))
  pub default_alone : reads none kind.BranchTable (0x00 ∷ 0x03 ∷ []) (value.BranchTable (record { targets = []; default = 3 }))
  pub too_many_labels : refuses none kind.BranchTable (0xb2 ∷ 0x97 ∷ 0xd3 ∷ 0x03 ∷ []) 0
  pub most_labels : ends none kind.BranchTable (0xb1 ∷ 0x97 ∷ 0xd3 ∷ 0x03 ∷ []) 4 1
  pub no_default : ends none kind.BranchTable (0x01 ∷ 0x00 ∷ []) 2 1
  pub all : reads none kind.TryTable (0x40 ∷ 0x01 ∷ 0x02 ∷ 0x00 ∷ []) (value.TryTable (catch_table Empty (All 0 ∷ [])))
  pub each_clause : reads none kind.TryTable (0x7f ∷ 0x03 ∷ 0x00 ∷ 0x05 ∷ 0x01 ∷ 0x01 ∷ 0x06 ∷ 0x02 ∷ 0x03 ∷ 0x04 ∷ [])
      (value.TryTable (catch_table (Val I32) (One 5 1 ∷ OneRef 6 2 ∷ AllRef 4 ∷ [])))
  pub no_clause : refuses none kind.TryTable (0x40 ∷ 0x01 ∷ 0x04 ∷ 0x00 ∷ []) 2
  pub too_many_clauses : refuses none kind.TryTable (0x40 ∷ 0x91 ∷ 0x4e ∷ []) 1
  pub most_clauses : ends none kind.TryTable (0x40 ∷ 0x90 ∷ 0x4e ∷ []) 3 1
  pub handlers : reads none kind.Handlers (0x02 ∷ 0x00 ∷ 0x05 ∷ 0x01 ∷ 0x01 ∷ 0x03 ∷ []) (value.Handlers (OnLabel 5 1 ∷ OnSwitch 3 ∷ []))
  pub no_handler : refuses none kind.Handlers (0x01 ∷ 0x02 ∷ 0x00 ∷ []) 1
  pub most_handlers : ends none kind.Handlers (0x90 ∷ 0x4e ∷ []) 2 1
  pub too_many_handlers : refuses none kind.Handlers (0x91 ∷ 0x4e ∷ []) 0
  pub short_handler : ends none kind.Handlers (0x01 ∷ 0x01 ∷ []) 2 1
  pub one_label : ends_narrowly kind.BranchTable (0x01 ∷ []) 1 1
  pub a_label_too_many : refuses_narrowly kind.BranchTable (0x02 ∷ []) 0
  pub one_clause : ends_narrowly kind.TryTable (0x40 ∷ 0x01 ∷ []) 2 1
  pub a_clause_too_many : refuses_narrowly kind.TryTable (0x40 ∷ 0x02 ∷ []) 1
  pub one_handler : ends_narrowly kind.Handlers (0x01 ∷ []) 1 1
  pub a_handler_too_many : refuses_narrowly kind.Handlers (0x02 ∷ []) 0
  pub one_type : ends_narrowly kind.ValueTypes (0x01 ∷ []) 1 1
  pub a_type_too_many : refuses_narrowly kind.ValueTypes (0x02 ∷ []) 0
