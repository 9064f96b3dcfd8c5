-- What a contract sees of an error.
use Rattle.std.specs.Prelude.{ℕ, List}
use Rattle.wasm_types_decoding.specs.declared.error.ErrorKind.{ErrorKind}

-- its kind, its offset, and the bytes of its message
pub record ErrorValue : Type 0 where
  pub kind : ErrorKind
  pub offset : ℕ
  pub message : List ℕ
