-- What the immediates of each kind carry: immediates of these kinds are made of just that.
use Rattle.std.proofs.Common.{◌≡◌, ℕ, ℤ, List, [], ◌∷◌, map, refl, subst}
use Rattle.wasm_types.specs.reader.declared.words.Ieee32.{Ieee32}
use Rattle.wasm_types.specs.reader.declared.words.Ieee64.{Ieee64}
use Rattle.wasm_types.specs.values.declared.heap.HeapType.{HeapType}
use Rattle.wasm_types.specs.values.declared.value.ValType.{ValType}
use Rattle.wasm_types.specs.values.Reference.{Reference}
use Rattle.wasm_operators_immediates.specs.declared.block.BlockType.{BlockType}
use Rattle.wasm_operators_immediates.specs.declared.handlers.Handle.{Handle}
use Rattle.wasm_operators_immediates.specs.declared.memory.MemArg.{MemArg}
use Rattle.wasm_operators_immediates.specs.declared.memory.Ordering.{Ordering}
use Rattle.wasm_operators_immediates.specs.declared.vector.V128.{V128}
use Rattle.wasm_operators_immediates.specs.Tables.{Labels, CatchTable}
use Rattle.wasm_operators_immediates.specs.Kinds as kind
use Rattle.wasm_operators_immediates.specs.Kinds.{Kind}
use Rattle.wasm_operators_immediates.specs.Immediates.{Immediate, Index, IndexOrZero, Label, Block, BranchTable, MemoryArgument, MemoryOrdering, Heap, CastBranch, ValueTypes, I32Constant, I64Constant, F32Constant, F64Constant, V128Constant, Lane, Lanes, Count, TryTable, Handlers, ZeroByte, kind_of}

-- ---- one immediate

-- what an immediate of this kind carries
abbrev pub Carrier : Kind → Type 0
Carrier (kind.Index space) = ℕ
Carrier (kind.IndexOrZero space) = ℕ
Carrier kind.Label = ℕ
Carrier kind.Block = BlockType
Carrier kind.BranchTable = Labels
Carrier (kind.MemoryArgument access natural) = MemArg
Carrier kind.MemoryOrdering = Ordering
Carrier kind.Heap = HeapType
Carrier kind.CastBranch = ℕ × Reference × Reference
Carrier kind.ValueTypes = List ValType
Carrier kind.I32Constant = ℤ
Carrier kind.I64Constant = ℤ
Carrier kind.F32Constant = Ieee32
Carrier kind.F64Constant = Ieee64
Carrier kind.V128Constant = V128
Carrier (kind.Lane lanes) = ℕ
Carrier kind.Lanes = List ℕ
Carrier kind.Count = ℕ
Carrier kind.TryTable = CatchTable
Carrier kind.Handlers = List Handle
Carrier kind.ZeroByte = Unit {0}

-- the immediate of this kind that carries it
abbrev pub immediate_with : (k : Kind) → Carrier k → Immediate
immediate_with (kind.Index space) n = Index space n
immediate_with (kind.IndexOrZero space) n = IndexOrZero space n
immediate_with kind.Label n = Label n
immediate_with kind.Block ty = Block ty
immediate_with kind.BranchTable labels = BranchTable labels
immediate_with (kind.MemoryArgument access natural) m = MemoryArgument access natural m
immediate_with kind.MemoryOrdering o = MemoryOrdering o
immediate_with kind.Heap ty = Heap ty
immediate_with kind.CastBranch c = CastBranch c.0 c.1 c.2
immediate_with kind.ValueTypes tys = ValueTypes tys
immediate_with kind.I32Constant n = I32Constant n
immediate_with kind.I64Constant n = I64Constant n
immediate_with kind.F32Constant f = F32Constant f
immediate_with kind.F64Constant f = F64Constant f
immediate_with kind.V128Constant v = V128Constant v
immediate_with (kind.Lane lanes) n = Lane lanes n
immediate_with kind.Lanes ls = Lanes ls
immediate_with kind.Count n = Count n
immediate_with kind.TryTable t = TryTable t
immediate_with kind.Handlers hs = Handlers hs
immediate_with kind.ZeroByte u = ZeroByte

-- an immediate is one of its kind
abbrev IsWith : Immediate → Kind → Type 0
IsWith i k = (c : Carrier k) × (i ≡ immediate_with k c)

own : (i : Immediate) → IsWith i (kind_of i)
own (Index space n) = (n, refl)
own (IndexOrZero space n) = (n, refl)
own (Label n) = (n, refl)
own (Block ty) = (ty, refl)
own (BranchTable labels) = (labels, refl)
own (MemoryArgument access natural m) = (m, refl)
own (MemoryOrdering o) = (o, refl)
own (Heap ty) = (ty, refl)
own (CastBranch depth from to) = ((depth, from, to), refl)
own (ValueTypes tys) = (tys, refl)
own (I32Constant n) = (n, refl)
own (I64Constant n) = (n, refl)
own (F32Constant f) = (f, refl)
own (F64Constant f) = (f, refl)
own (V128Constant v) = (v, refl)
own (Lane lanes n) = (n, refl)
own (Lanes ls) = (ls, refl)
own (Count n) = (n, refl)
own (TryTable t) = (t, refl)
own (Handlers hs) = (hs, refl)
own ZeroByte = (tt, refl)

of_kind : (k : Kind) (i : Immediate) → kind_of i ≡ k → IsWith i k
of_kind k i e = subst (IsWith i) e (own i)

-- ---- some in a row

-- what immediates of these kinds carry
abbrev pub Carriers : List Kind → Type 0
Carriers [] = Unit {0}
Carriers (k ∷ ks) = Carrier k × Carriers ks

-- the immediates that carry it
abbrev pub immediates_with : (ks : List Kind) → Carriers ks → List Immediate
immediates_with [] c = []
immediates_with (k ∷ ks) c = immediate_with k c.0 ∷ immediates_with ks c.1

same_first : (j k : Kind) (js ks : List Kind) → j ∷ js ≡ k ∷ ks → j ≡ k
same_first j k js ks e = cc

same_rest : (j k : Kind) (js ks : List Kind) → j ∷ js ≡ k ∷ ks → js ≡ ks
same_rest j k js ks e = cc

-- each list of immediates of these kinds is one of those
pub of_kinds : (ks : List Kind) (is : List Immediate) → map kind_of is ≡ ks → (c : Carriers ks) × (is ≡ immediates_with ks c)
of_kinds [] [] e = (tt, refl)
of_kinds [] (i ∷ is) e = absurd cc
of_kinds (k ∷ ks) [] e = absurd cc
of_kinds (k ∷ ks) (i ∷ is) e =
    let here = of_kind k i (same_first (kind_of i) k (map kind_of is) ks e) in
    let more = of_kinds ks is (same_rest (kind_of i) k (map kind_of is) ks e) in
    ((here.0, more.0), λ x. here.1 x ∷ more.1 x)
