-- Indices, labels, counts and constants (WebAssembly 3.0, binary format, values and instructions).
use Rattle.std.specs.Prelude.{[], ◌∷◌, pos, negsuc}
use Rattle.wasm_operators_immediates.specs.Kinds.{Types, Functions, Globals, Locals}
use Rattle.wasm_operators_immediates.specs.Kinds as kind
use Rattle.wasm_operators_immediates.specs.Immediates as value
use Rattle.wasm_operators_tests.specs.worked.Worked.{none, reads, refuses, ends}

pub record NumberRows : Type 0 where
  pub largest_index : reads none (kind.Index Types) (0xff ∷ 0xff ∷ 0xff ∷ 0xff ∷ 0x0f ∷ []) (value.Index Types 0xffff_ffff)
  pub index_too_large : refuses none (kind.Index Types) (0xff ∷ 0xff ∷ 0xff ∷ 0xff ∷ 0x10 ∷ []) 4
  pub index_of_six_bytes : refuses none (kind.Index Functions) (0x80 ∷ 0x80 ∷ 0x80 ∷ 0x80 ∷ 0x80 ∷ 0x00 ∷ []) 4
  pub no_index : ends none (kind.Index Functions) [] 0 1
  pub half_an_index : ends none (kind.Index Locals) (0x80 ∷ []) 1 1
  pub longer_index : reads none (kind.Index Globals) (0x81 ∷ 0x00 ∷ []) (value.Index Globals 1)
  pub label : reads none kind.Label (0x05 ∷ []) (value.Label 5)
  pub label_too_large : refuses none kind.Label (0xff ∷ 0xff ∷ 0xff ∷ 0xff ∷ 0x1f ∷ []) 4
  pub count : reads none kind.Count (0xe5 ∷ 0x8e ∷ 0x26 ∷ []) (value.Count 624485)
  pub count_too_large : refuses none kind.Count (0x80 ∷ 0x80 ∷ 0x80 ∷ 0x80 ∷ 0x10 ∷ []) 4
  pub minus_one : reads none kind.I32Constant (0x7f ∷ []) (value.I32Constant (negsuc 0))
  pub least32 : reads none kind.I32Constant (0x80 ∷ 0x80 ∷ 0x80 ∷ 0x80 ∷ 0x78 ∷ []) (value.I32Constant (negsuc 0x7fff_ffff))
  pub largest32 : reads none kind.I32Constant (0xff ∷ 0xff ∷ 0xff ∷ 0xff ∷ 0x07 ∷ []) (value.I32Constant (pos 0x7fff_ffff))
  pub beyond32 : refuses none kind.I32Constant (0x80 ∷ 0x80 ∷ 0x80 ∷ 0x80 ∷ 0x08 ∷ []) 4
  pub short32 : ends none kind.I32Constant (0x80 ∷ []) 1 1
  pub minus_two : reads none kind.I64Constant (0x7e ∷ []) (value.I64Constant (negsuc 1))
  pub least64 : reads none kind.I64Constant (0x80 ∷ 0x80 ∷ 0x80 ∷ 0x80 ∷ 0x80 ∷ 0x80 ∷ 0x80 ∷ 0x80 ∷ 0x80 ∷ 0x7f ∷ []) (value.I64Constant (negsuc 0x7fff_ffff_ffff_ffff))
  pub beyond64 : refuses none kind.I64Constant (0x80 ∷ 0x80 ∷ 0x80 ∷ 0x80 ∷ 0x80 ∷ 0x80 ∷ 0x80 ∷ 0x80 ∷ 0x80 ∷ 0x01 ∷ []) 9
  pub float32 : reads none kind.F32Constant (0x00 ∷ 0x00 ∷ 0x80 ∷ 0x3f ∷ []) (value.F32Constant (record { 0 = 0x3f80_0000 }))
  pub short_float32 : ends none kind.F32Constant (0x00 ∷ 0x00 ∷ 0x80 ∷ []) 0 1
  pub float64 : reads none kind.F64Constant (0x00 ∷ 0x00 ∷ 0x00 ∷ 0x00 ∷ 0x00 ∷ 0x00 ∷ 0xf0 ∷ 0x3f ∷ []) (value.F64Constant (record { 0 = 0x3ff0_0000_0000_0000 }))
  pub short_float64 : ends none kind.F64Constant (0x00 ∷ 0x00 ∷ 0x00 ∷ []) 0 5
