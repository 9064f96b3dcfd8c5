-- What C owns with a handle.
use Rattle.std.specs.Prelude.{Option, Some, None}
use base.Fml.{Fml, ftrue}
use denote.RawPtr.{Ptr}
use Rattle.std.specs.Box.Ownership.{box_owns}
use Rattle.std.specs.declared.alloc.Global.{Global}
use Rattle.std.specs.contracts.impls.GlobalAllocator.TheImpl.{ghosts}
use Rattle.wasm_module_validator.specs.contracts.types.Types as types
use Rattle.wasm_module_validator_streaming.specs.contracts.pieces.ModuleInPieces.{the_row}

-- nothing if none was begun, and else the module at that place, with the right to give its memory back
abbrev pub owned_at : Global → Ptr → Option the_row.Denot → Fml
owned_at a p None = ftrue
owned_at a p (Some x) = box_owns (ghosts.dealloc_token a) the_row p x

-- the same of the types of a module that was accepted
abbrev pub kept_at : Global → Ptr → Option types.the_row.Denot → Fml
kept_at a p None = ftrue
kept_at a p (Some x) = box_owns (ghosts.dealloc_token a) types.the_row p x
