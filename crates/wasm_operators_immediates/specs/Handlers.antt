-- The clauses of try_table and the handlers of resume as bytes (WebAssembly 3.0, binary format, control instructions; the
-- proposal on stack switching), and how they are read.
use Rattle.std.specs.Prelude.{◌≡◌, ℕ, List, [], ◌∷◌, ◌++◌}
use Rattle.wasm_types.specs.decoding.declared.Refusal.TheVariants.{Other}
use Rattle.wasm_types.specs.decoding.Decoder.{Decoder, Grammar, ◌>>=◌, pure, refuse, byte, choice}
use Rattle.wasm_types.specs.decoding.Leb.{u32, IsUnsigned}
use Rattle.wasm_types.specs.decoding.Lists.{listed_within, IsListedWithin}
use Rattle.wasm_types.specs.settings.Settings.{Settings}
use Rattle.wasm_operators_immediates.specs.declared.handlers.Catch.{Catch}
use Rattle.wasm_operators_immediates.specs.declared.handlers.Catch.TheVariants.{One, OneRef, All, AllRef}
use Rattle.wasm_operators_immediates.specs.declared.handlers.Handle.{Handle}
use Rattle.wasm_operators_immediates.specs.declared.handlers.Handle.TheVariants.{OnLabel, OnSwitch}
use Rattle.wasm_operators_immediates.specs.declared.block.BlockType.{BlockType}
use Rattle.wasm_operators_immediates.specs.Blocks.{block_type, SpelledBlock}
use Rattle.wasm_operators_immediates.specs.Tables.{CatchTable}

-- ---- decoders

-- an index
abbrev pub one_index : {A : Type 0} → (ℕ → A) → Decoder A
one_index f = u32 >>= λ n. pure (f n)

-- a tag and a label
abbrev pub two_indices : {A : Type 0} → (ℕ → ℕ → A) → Decoder A
two_indices f = u32 >>= λ tag. one_index (f tag)

-- each form of a clause by its byte
abbrev pub clauses : List (ℕ × Decoder Catch)
clauses = (0x00, two_indices One) ∷ (0x01, two_indices OneRef) ∷ (0x02, one_index All) ∷ (0x03, one_index AllRef) ∷ []

-- a clause behind its byte
unfoldable pub clause_after : ℕ → Decoder Catch
clause_after = choice clauses (refuse Other 1)

-- a clause from its byte on
unfoldable pub clause : Decoder Catch
clause = byte >>= clause_after

-- a table of its parts
abbrev pub catch_table : BlockType → List Catch → CatchTable
catch_table ty catches = record { ty = ty; catches = catches }

-- a block type, and clauses that are counted, within their limit
unfoldable pub try_table : Settings → Decoder CatchTable
try_table z = block_type >>= λ ty. listed_within z.limits.catches clause >>= λ catches. pure (catch_table ty catches)

-- each form of a handler by its byte
abbrev pub handles : List (ℕ × Decoder Handle)
handles = (0x00, two_indices OnLabel) ∷ (0x01, one_index OnSwitch) ∷ []

-- a handler behind its byte
unfoldable pub handle_after : ℕ → Decoder Handle
handle_after = choice handles (refuse Other 1)

-- a handler from its byte on
unfoldable pub handle : Decoder Handle
handle = byte >>= handle_after

-- handlers that are counted, within the limit of clauses
unfoldable pub handlers : Settings → Decoder (List Handle)
handlers z = listed_within z.limits.catches handle

-- ---- grammars

-- standard: part of SpelledCatch
-- a tag and a label behind it
pub record TagAndLabel (tag label : ℕ) (text : List ℕ) : Type 0 where
  pub front : List ℕ
  pub back : List ℕ
  pub first : IsUnsigned 32 tag front
  pub second : IsUnsigned 32 label back
  pub whole : text ≡ front ++ back

-- standard: part of SpelledCatch
-- a byte, and what is spelled behind it
pub record Behind (b : ℕ) (g : List ℕ → Type 0) (text : List ℕ) : Type 0 where
  pub rest : List ℕ
  pub spelled : g rest
  pub whole : text ≡ b ∷ rest

-- standard: binary-instr-control: catch
-- catch ::= 0x00 x:tagidx l:labelidx => catch x l
--         | 0x01 x:tagidx l:labelidx => catch_ref x l
--         | 0x02 l:labelidx          => catch_all l
--         | 0x03 l:labelidx          => catch_all_ref l
abbrev pub SpelledCatch : Grammar Catch
SpelledCatch (One tag label) = Behind 0x00 (TagAndLabel tag label)
SpelledCatch (OneRef tag label) = Behind 0x01 (TagAndLabel tag label)
SpelledCatch (All label) = Behind 0x02 (IsUnsigned 32 label)
SpelledCatch (AllRef label) = Behind 0x03 (IsUnsigned 32 label)

-- standard: binary-instr-control: try_table: its block type and clauses (differs: at most as many clauses as the limit)
-- a block type and a list of clauses
pub record SpelledTryTable (z : Settings) (t : CatchTable) (text : List ℕ) : Type 0 where
  pub front : List ℕ
  pub back : List ℕ
  pub ty : SpelledBlock t.ty front
  pub catches : IsListedWithin z.limits.catches SpelledCatch t.catches back
  pub whole : text ≡ front ++ back

-- standard: proposal-stack-switching: a handler
-- hdl ::= 0x00 x:tagidx l:labelidx => on x l
--       | 0x01 x:tagidx            => on x switch
abbrev pub SpelledHandle : Grammar Handle
SpelledHandle (OnLabel tag label) = Behind 0x00 (TagAndLabel tag label)
SpelledHandle (OnSwitch tag) = Behind 0x01 (IsUnsigned 32 tag)

-- standard: proposal-stack-switching: the handlers of resume
-- a list of handlers
abbrev pub SpelledHandlers : Settings → Grammar (List Handle)
SpelledHandlers z = IsListedWithin z.limits.catches SpelledHandle
