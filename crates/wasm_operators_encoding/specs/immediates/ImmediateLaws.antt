-- Each kind of immediate is read lawfully, and exactly where bytes spell one.
use Rattle.std.proofs.Common.{◌≡◌, ℕ, List, refl, subst}
use Rattle.wasm_types.specs.decoding.Decoder.{Done, Decoder, Grammar, pure, IsLawful, Decides}
use Rattle.wasm_types.specs.decoding.Laws.{lawful->>=, lawful-pure}
use Rattle.wasm_types.specs.decoding.ExactLaws.{Sound, Reads, sound-map, reads-map}
use Rattle.wasm_types.specs.decoding.Leb.{u32, s32, s64, IsUnsigned, IsSigned}
use Rattle.wasm_types.specs.decoding.LebLaws.{lawful-unsigned, decides-u32}
use Rattle.wasm_types.specs.decoding.SignedLaws.{lawful-signed, decides-s32, decides-s64}
use Rattle.wasm_types.specs.decoding.Text.{word, IsWord}
use Rattle.wasm_types.specs.decoding.TextLaws.{lawful-word, decides-word}
use Rattle.wasm_types.specs.settings.Settings.{Settings}
use Rattle.wasm_types.specs.values.Decode.{heap_type}
use Rattle.wasm_types.specs.values.DecodeLaws.{lawful-heap_type}
use Rattle.wasm_types.specs.values.Spelled.{Spelled}
use Rattle.wasm_types.specs.values.HeapLaws.{decides-heap_type}
use Rattle.wasm_operators_immediates.specs.Kinds as kind
use Rattle.wasm_operators_immediates.specs.Kinds.{Kind, IndexSpace}
use Rattle.wasm_operators_immediates.specs.Labels.{labels, SpelledLabels}
use Rattle.wasm_operators_immediates.specs.LabelLaws.{lawful-labels, decides-labels}
use Rattle.wasm_operators_immediates.specs.Blocks.{block_type, SpelledBlock}
use Rattle.wasm_operators_immediates.specs.BlockLaws.{lawful-block_type, decides-block_type}
use Rattle.wasm_operators_immediates.specs.Handlers.{try_table, handlers, SpelledTryTable, SpelledHandlers}
use Rattle.wasm_operators_immediates.specs.HandlerLaws.{lawful-try_table, decides-try_table, lawful-handlers, decides-handlers}
use Rattle.wasm_operators_immediates.specs.Immediates.{Immediate, kind_of, Index, IndexOrZero, Label, Block, BranchTable, MemoryArgument}
use Rattle.wasm_operators_immediates.specs.Immediates.{MemoryOrdering, Heap, CastBranch, ValueTypes, I32Constant, I64Constant, F32Constant}
use Rattle.wasm_operators_immediates.specs.Immediates.{F64Constant, V128Constant, Lane, Lanes, Count, TryTable, Handlers, ZeroByte}
use Rattle.wasm_operators_encoding.specs.immediates.Bytes.{zero_byte, index_or_zero, ordering_by, lane, shuffle, vector, select_types, IsZero}
use Rattle.wasm_operators_encoding.specs.immediates.Bytes.{IsIndexOrZero, SpelledOrdering, IsLane, IsShuffle, SpelledVector, SpelledTypes}
use Rattle.wasm_operators_encoding.specs.immediates.ByteLaws.{lawful-zero_byte, decides-zero_byte, lawful-index_or_zero, decides-index_or_zero}
use Rattle.wasm_operators_encoding.specs.immediates.ByteLaws.{lawful-ordering_by, decides-ordering_by, lawful-lane, decides-lane, lawful-shuffle}
use Rattle.wasm_operators_encoding.specs.immediates.ByteLaws.{decides-shuffle, lawful-vector, decides-vector, lawful-select_types, decides-select_types}
use Rattle.wasm_operators_encoding.specs.immediates.MemoryArguments.{memory_argument, SpelledMemArg}
use Rattle.wasm_operators_encoding.specs.immediates.MemoryLaws.{lawful-memory_argument, decides-memory_argument}
use Rattle.wasm_operators_encoding.specs.immediates.Casts.{branch, cast_branch, SpelledCast}
use Rattle.wasm_operators_encoding.specs.immediates.CastLaws.{lawful-cast_branch, decides-cast_branch}
use Rattle.wasm_operators_encoding.specs.immediates.Immediates.{may_index, read_as, of_branch, of_bits32, of_bits64, of_zero, immediate, SpelledImmediate, OfKind}

-- ---- lawful

lawful-as : {A : Type 0} (d : Decoder A) (f : A → Immediate) → IsLawful d → IsLawful (read_as d f)
lawful-as d f l = lawful->>= d (λ x. pure (f x)) l (λ x. lawful-pure (f x))

pub lawful-immediate : (settings : Settings) (k : Kind) → IsLawful (immediate settings k)
unfolding immediate
lawful-immediate settings (kind.Index space) = lawful-as u32 (Index space) (lawful-unsigned 4 4)
lawful-immediate settings (kind.IndexOrZero space) = lawful-as (index_or_zero (may_index settings.features space)) (IndexOrZero space)
    (lawful-index_or_zero (may_index settings.features space))
lawful-immediate settings kind.Label = lawful-as u32 Label (lawful-unsigned 4 4)
lawful-immediate settings kind.Block = lawful-as block_type Block lawful-block_type
lawful-immediate settings kind.BranchTable = lawful-as (labels settings) BranchTable (lawful-labels settings)
lawful-immediate settings (kind.MemoryArgument access natural) = lawful-as (memory_argument settings.features access natural)
    (MemoryArgument access natural) (lawful-memory_argument settings.features access natural)
lawful-immediate settings kind.MemoryOrdering = lawful-as (ordering_by 0x01) MemoryOrdering (lawful-ordering_by 0x01)
lawful-immediate settings kind.Heap = lawful-as heap_type Heap lawful-heap_type
lawful-immediate settings kind.CastBranch = lawful-as cast_branch of_branch lawful-cast_branch
lawful-immediate settings kind.ValueTypes = lawful-as (select_types settings) ValueTypes (lawful-select_types settings)
lawful-immediate settings kind.I32Constant = lawful-as s32 I32Constant (lawful-signed 4 4)
lawful-immediate settings kind.I64Constant = lawful-as s64 I64Constant (lawful-signed 9 1)
lawful-immediate settings kind.F32Constant = lawful-as (word 4) of_bits32 (lawful-word 4)
lawful-immediate settings kind.F64Constant = lawful-as (word 8) of_bits64 (lawful-word 8)
lawful-immediate settings kind.V128Constant = lawful-as vector V128Constant lawful-vector
lawful-immediate settings (kind.Lane lanes) = lawful-as (lane lanes) (Lane lanes) (lawful-lane lanes)
lawful-immediate settings kind.Lanes = lawful-as shuffle Lanes lawful-shuffle
lawful-immediate settings kind.Count = lawful-as u32 Count (lawful-unsigned 4 4)
lawful-immediate settings kind.TryTable = lawful-as (try_table settings) TryTable (lawful-try_table settings)
lawful-immediate settings kind.Handlers = lawful-as (handlers settings) Handlers (lawful-handlers settings)
lawful-immediate settings kind.ZeroByte = lawful-as zero_byte of_zero lawful-zero_byte

-- ---- what is read is spelled

module _ (settings : Settings) where
  -- d reads what g spells, of one kind
  sound-as : {A : Type 0} (k : Kind) (d : Decoder A) (f : A → Immediate) (g : Grammar A) → Decides d g → ((x : A) → kind_of (f x) ≡ k) →
      ((x : A) (text : List ℕ) → g x text → SpelledImmediate settings (f x) text) → Sound (read_as d f) (OfKind settings k)
  sound-as k d f g dg of to = sound-map d f g (OfKind settings k) dg (λ x text h. record { kind = of x; spelled = to x text h })

  sound_immediate : (k : Kind) → Sound (immediate settings k) (OfKind settings k)
  unfolding immediate
  sound_immediate (kind.Index space) = sound-as _ u32 (Index space) (IsUnsigned 32) decides-u32 (λ n. refl) (λ n text h. h)
  sound_immediate (kind.IndexOrZero space) = sound-as _ (index_or_zero (may_index settings.features space)) (IndexOrZero space)
      (IsIndexOrZero (may_index settings.features space)) (decides-index_or_zero (may_index settings.features space)) (λ n. refl) (λ n text h. h)
  sound_immediate kind.Label = sound-as _ u32 Label (IsUnsigned 32) decides-u32 (λ n. refl) (λ n text h. h)
  sound_immediate kind.Block = sound-as _ block_type Block SpelledBlock decides-block_type (λ ty. refl) (λ ty text h. h)
  sound_immediate kind.BranchTable = sound-as _ (labels settings) BranchTable (SpelledLabels settings) (decides-labels settings) (λ l. refl) (λ l text h. h)
  sound_immediate (kind.MemoryArgument access natural) = sound-as _ (memory_argument settings.features access natural) (MemoryArgument access natural)
      (SpelledMemArg settings.features access natural) (decides-memory_argument settings.features access natural) (λ m. refl) (λ m text h. h)
  sound_immediate kind.MemoryOrdering = sound-as _ (ordering_by 0x01) MemoryOrdering (SpelledOrdering 0x01) (decides-ordering_by 0x01 refl refl) (λ o. refl) (λ o text h. h)
  sound_immediate kind.Heap = sound-as _ heap_type Heap Spelled decides-heap_type (λ ty. refl) (λ ty text h. h)
  sound_immediate kind.CastBranch = sound-as _ cast_branch of_branch SpelledCast decides-cast_branch (λ c. refl) (λ c text h. h)
  sound_immediate kind.ValueTypes = sound-as _ (select_types settings) ValueTypes (SpelledTypes settings) (decides-select_types settings) (λ tys. refl) (λ tys text h. h)
  sound_immediate kind.I32Constant = sound-as _ s32 I32Constant (IsSigned 32) decides-s32 (λ n. refl) (λ n text h. h)
  sound_immediate kind.I64Constant = sound-as _ s64 I64Constant (IsSigned 64) decides-s64 (λ n. refl) (λ n text h. h)
  sound_immediate kind.F32Constant = sound-as _ (word 4) of_bits32 (IsWord 4) (decides-word 4) (λ n. refl) (λ n text h. h)
  sound_immediate kind.F64Constant = sound-as _ (word 8) of_bits64 (IsWord 8) (decides-word 8) (λ n. refl) (λ n text h. h)
  sound_immediate kind.V128Constant = sound-as _ vector V128Constant SpelledVector decides-vector (λ v. refl) (λ v text h. h)
  sound_immediate (kind.Lane lanes) = sound-as _ (lane lanes) (Lane lanes) (IsLane lanes) (decides-lane lanes) (λ l. refl) (λ l text h. h)
  sound_immediate kind.Lanes = sound-as _ shuffle Lanes IsShuffle decides-shuffle (λ l. refl) (λ l text h. h)
  sound_immediate kind.Count = sound-as _ u32 Count (IsUnsigned 32) decides-u32 (λ n. refl) (λ n text h. h)
  sound_immediate kind.TryTable = sound-as _ (try_table settings) TryTable (SpelledTryTable settings) (decides-try_table settings) (λ t. refl) (λ t text h. h)
  sound_immediate kind.Handlers = sound-as _ (handlers settings) Handlers (SpelledHandlers settings) (decides-handlers settings) (λ h. refl) (λ x text h. h)
  sound_immediate kind.ZeroByte = sound-as _ zero_byte of_zero IsZero decides-zero_byte (λ n. refl) (λ n text h. record { value = refl; whole = h.whole })

  -- ---- what is spelled is read

  reads_immediate : (i : Immediate) (text : List ℕ) → SpelledImmediate settings i text → Reads (immediate settings (kind_of i)) i text
  unfolding immediate
  reads_immediate (Index space n) text h = reads-map u32 (Index space) (IsUnsigned 32) decides-u32 n text h
  reads_immediate (IndexOrZero space n) text h = reads-map (index_or_zero (may_index settings.features space)) (IndexOrZero space)
      (IsIndexOrZero (may_index settings.features space)) (decides-index_or_zero (may_index settings.features space)) n text h
  reads_immediate (Label depth) text h = reads-map u32 Label (IsUnsigned 32) decides-u32 depth text h
  reads_immediate (Block ty) text h = reads-map block_type Block SpelledBlock decides-block_type ty text h
  reads_immediate (BranchTable l) text h = reads-map (labels settings) BranchTable (SpelledLabels settings) (decides-labels settings) l text h
  reads_immediate (MemoryArgument access natural m) text h = reads-map (memory_argument settings.features access natural)
      (MemoryArgument access natural) (SpelledMemArg settings.features access natural) (decides-memory_argument settings.features access natural) m text h
  reads_immediate (MemoryOrdering o) text h = reads-map (ordering_by 0x01) MemoryOrdering (SpelledOrdering 0x01) (decides-ordering_by 0x01 refl refl) o text h
  reads_immediate (Heap ty) text h = reads-map heap_type Heap Spelled decides-heap_type ty text h
  reads_immediate (CastBranch depth from to) text h = reads-map cast_branch of_branch SpelledCast decides-cast_branch (branch depth from to) text h
  reads_immediate (ValueTypes tys) text h = reads-map (select_types settings) ValueTypes (SpelledTypes settings) (decides-select_types settings) tys text h
  reads_immediate (I32Constant value) text h = reads-map s32 I32Constant (IsSigned 32) decides-s32 value text h
  reads_immediate (I64Constant value) text h = reads-map s64 I64Constant (IsSigned 64) decides-s64 value text h
  reads_immediate (F32Constant bits) text h = reads-map (word 4) of_bits32 (IsWord 4) (decides-word 4) bits.0 text h
  reads_immediate (F64Constant bits) text h = reads-map (word 8) of_bits64 (IsWord 8) (decides-word 8) bits.0 text h
  reads_immediate (V128Constant value) text h = reads-map vector V128Constant SpelledVector decides-vector value text h
  reads_immediate (Lane lanes l) text h = reads-map (lane lanes) (Lane lanes) (IsLane lanes) (decides-lane lanes) l text h
  reads_immediate (Lanes l) text h = reads-map shuffle Lanes IsShuffle decides-shuffle l text h
  reads_immediate (Count number) text h = reads-map u32 Count (IsUnsigned 32) decides-u32 number text h
  reads_immediate (TryTable t) text h = reads-map (try_table settings) TryTable (SpelledTryTable settings) (decides-try_table settings) t text h
  reads_immediate (Handlers x) text h = reads-map (handlers settings) Handlers (SpelledHandlers settings) (decides-handlers settings) x text h
  reads_immediate ZeroByte text h = reads-map zero_byte of_zero IsZero decides-zero_byte 0 text h

  pub decides-immediate : (k : Kind) → Decides (immediate settings k) (OfKind settings k)
  decides-immediate k = record {
    sound = λ s t i e. sound_immediate k s t i e;
    complete = λ s t i text p h. subst (λ (c : Kind). immediate settings c s ≡ Done i t) h.kind (reads_immediate i text h.spelled s t p);
  }
