-- Each group's rows are counted by the table, and with them all that the rules give.
use Rattle.std.proofs.Common.{◌≡◌, ◌≤◌, ◌+◌, ◌-◌, ◌∙◌, inl, inr, ⊎_elim, ℕ, suc, Bool, true, false, List, [], ◌∷◌, ◌++◌, length, Option, Some, None, slice_get, if◌then◌else◌, refl, sym, ap, subst, arith, length-append, append-nil}
use Rattle.std.proofs.lemmas.List.{length-map}
use Rattle.wasm_types.specs.trees.Types.{Number, number, ref}
use Rattle.wasm_types.specs.trees.Below.{expanded}
use Rattle.wasm_types.specs.externs.declared.memory.MemoryType.{MemoryType}
use Rattle.wasm_operators_immediates.specs.declared.block.BlockType.{BlockType}
use Rattle.wasm_operators_immediates.specs.declared.block.BlockType.TheVariants as block
use Rattle.wasm_operators_immediates.specs.declared.frames.FrameKind.{FrameKind}
use Rattle.wasm_operators_immediates.specs.declared.frames.FrameKind.TheVariants as frames
use Rattle.wasm_operators_enums.specs.declared.control.ControlOperator.{ControlOperator}
use Rattle.wasm_operators_enums.specs.declared.control.ControlOperator.TheVariants as control
use Rattle.wasm_operators_enums.specs.declared.memory.MemoryOperator.{MemoryOperator}
use Rattle.wasm_operators_enums.specs.declared.memory.MemoryOperator.TheVariants as memory
use Rattle.wasm_operators_enums.specs.declared.bulk.BulkOperator.{BulkOperator}
use Rattle.wasm_operators_enums.specs.declared.bulk.BulkOperator.TheVariants as bulk
use Rattle.wasm_operators_enums.specs.declared.atomic.AtomicOperator.{AtomicOperator}
use Rattle.wasm_operators_enums.specs.declared.atomic.AtomicOperator.TheVariants as atomic
use Rattle.wasm_operators_enums.specs.Op as op
use Rattle.wasm_operators_enums.specs.Op.{Op, ParametricTree}
use Rattle.wasm_operator_validator_rules.specs.Operands.{ValueType, Operand, known, all_known}
use Rattle.wasm_operator_validator_rules.specs.Context.{Context, Table, Global, Initialised, Signature, IsBlockType, may_use, address_type}
use Rattle.wasm_operator_validator_rules.specs.Numbers.{numbers, class_of, taken_by, given_by, constant_type}
use Rattle.wasm_operator_validator_rules.specs.Accesses.{AccessOf, access_of, atomic_access_of, operands_of, results_of, may_access}
use Rattle.wasm_operator_validator_rules.specs.InstructionTypes.{InstructionType, i32_type, shorter, names_data, memory_at, global_at, table_at, ◌⟶◌, provided, named, instruction_type, accesses, reference_to}
use Rattle.wasm_operators_enums.specs.declared.role.Role.TheVariants.{Opens}
use Rattle.wasm_operator_validator_rules.specs.Named.{used_type, as_function}
use Rattle.wasm_operator_validator_rules.specs.Typed.{OpensFrame, Turns, EndsAt, entry_of}
use Rattle.wasm_operator_validator_rules.specs.Row.{GroupRow, TableRow, ControlRow, ParametricRow, MemoryRow, BulkRow, not_null}
use Rattle.wasm_operator_validator_rules.specs.arity.Arity.{Known, Counts, block_counts, frame_counts, access_counts, counts_of, opening}
use Rattle.wasm_operator_validator_rules.specs.arity.Exchanges.{Standing, IsCounted, CountsAreExact, IsAround, IsShortest, by_row, opened, turned, closed}
use Rattle.wasm_operator_validator_rules.specs.arity.laws.Exceptions.{tag_counted, exception_counted}
use Rattle.wasm_operator_validator_rules.specs.arity.laws.Lookups.{named_is, used_is, function_is, one_more}
use Rattle.wasm_operator_validator_rules.specs.arity.laws.Objects.{gc_counted}
use Rattle.wasm_operator_validator_rules.specs.arity.laws.Proposals.{descriptor_counted, shared_counted, continuation_operator_counted}
use Rattle.wasm_operator_validator_rules.specs.arity.laws.Counting.{known_length, below_length, takes_counted, table_counted, type_counted, label_is, results_are, innermost_is, Counted, Measures, some_measures, provided_measures, named_measures, used_measures}

-- ---- numbers

-- so many, as the table says it
abbrev just : ℕ → ℕ → Option Counts
just n c = Some (n, c)

none_more : (n c : ℕ) → just (n + 0) c ≡ just n c
none_more n c = let e : n + 0 ≡ n = omega arith in ap (λ (x : ℕ). just x c) e

and_one : (ts : List ValueType) (u : ValueType) (c : ℕ) → just (length ts + 1) c ≡ just (length (ts ++ u ∷ [])) c
and_one ts u c = ap (λ (n : ℕ). just n c) (sym (length-append ts (u ∷ [])))

and_none : (n c : ℕ) → just n (c + 0) ≡ just n c
and_none n c = let e : c + 0 ≡ c = omega arith in ap (λ (x : ℕ). just n x) e

numbers_length : (ts : List Number) → length (numbers ts) ≡ length ts
numbers_length ts = length-map ts number

-- ---- control

no_type : (g : Context) (o : Op) (p q : List Operand) → instruction_type g o ≡ None → TableRow g o p q → ⊥
no_type g o p q e r = let f : None ≡ Some r.0 = sym e ∙ r.1 in cc

control_counted : (k : Known) (g : Context) (fs : List Standing) → IsAround k g fs → (o : ControlOperator) (p q : List Operand) → ControlRow g o p q
    → Counted (counts_of k (op.Control o)) (ControlRow g o) p q
control_counted k g fs a control.Unreachable p q r = inr (p, [], sym (append-nil p), refl, tt)
control_counted k g fs a control.Nop p q r = inl (takes_counted _ [] [] p q r refl)
control_counted k g fs a (control.Br l) p q r = inr (
  r.1,
  all_known r.0,
  r.3,
  rw (label_is k g fs l r.0 a r.2, known_length r.0) (none_more (length r.0) 0),
  (r.0, [], r.2, refl),
)
control_counted k g fs a (control.BrIf l) p q r =
    inl (takes_counted _ (r.0 ++ i32_type ∷ []) r.0 p q r.2 (rw (label_is k g fs l r.0 a r.1) (and_none (length r.0 + 1) (length r.0) ∙ and_one r.0 i32_type (length r.0))))
control_counted k g fs a (control.BrTable t) p q r =
    let n : length r.2.0.0 ≡ length r.0 = sym (below_length r.0 (all_known r.2.0.0) r.2.0.2 ∙ known_length r.2.0.0) in
    inr (
      r.1,
      r.0 ++ known i32_type ∷ [],
      r.3,
      rw (label_is k g fs t.default r.2.0.0 a r.2.0.1, n) (ap (λ (x : ℕ). just x 0) (sym (length-append r.0 (known i32_type ∷ [])))),
      (r.0, [], r.2, refl),
    )
control_counted k g fs a control.Return p q r = inr (r.0, all_known g.results, r.1, rw (results_are k g fs a, known_length g.results) (none_more (length g.results) 0), ([], refl))
control_counted k g fs a (control.Call x) p q r =
    inl (takes_counted _ r.0.params r.0.results p q r.2 (rw (a.«module», type_counted _ r.1.0 r.0 r.1.1 r.1.3) (none_more (length r.0.params) (length r.0.results))))
control_counted k g fs a (control.CallIndirect y x) p q r =
    let e = type_counted _ r.2.callee r.1 r.2.type r.2.function in
    inl (takes_counted _ (r.1.params ++ address_type r.0.table64 ∷ []) r.1.results p q r.3 (rw (a.«module», e) (and_one r.1.params (address_type r.0.table64) (length r.1.results))))
control_counted k g fs a (control.ReturnCall x) p q r = inr (
  r.1,
  all_known r.0.params,
  r.4,
  rw (a.«module», type_counted _ r.2.0 r.0 r.2.1 r.2.3, known_length r.0.params) (none_more (length r.0.params) 0),
  (r.0, [], r.2, r.3, refl),
)
control_counted k g fs a (control.ReturnCallIndirect y x) p q r =
    let ts = r.1.params ++ address_type r.0.table64 ∷ [] in
    inr (
      r.2,
      all_known ts,
      r.5,
      rw (a.«module», type_counted _ r.3.callee r.1 r.3.type r.3.function, known_length ts) (and_one r.1.params (address_type r.0.table64) 0),
      (r.0, r.1, [], r.3, r.4, refl),
    )
control_counted k g fs a (control.CallRef y) p q r =
    let t = named_is (used_type g y) (λ t. named (as_function (expanded t)) (λ b. Some ((b.params ++ reference_to t ∷ []) ⟶ b.results))) r.0 r.1 in
    let b = named_is (as_function (expanded t.0)) (λ b. Some ((b.params ++ reference_to t.0 ∷ []) ⟶ b.results)) r.0 t.2 in
    let m = some_measures ((b.0.params ++ reference_to t.0 ∷ []) ⟶ b.0.results) r.0 b.2 in
    let n = type_counted _ t.0 b.0 (used_is g y t.0 t.1) (function_is (expanded t.0) b.0 b.1) in
    inl (takes_counted _ r.0.takes r.0.gives p q r.2 (rw (a.«module», n, m.0, m.1) (and_one b.0.params (reference_to t.0) (length b.0.results))))
control_counted k g fs a (control.ReturnCallRef y) p q r =
    let ts = r.1.params ++ reference_to r.0 ∷ [] in
    inr (
      r.2,
      all_known ts,
      r.6,
      rw (a.«module», type_counted _ r.0 r.1 (used_is g y r.0 r.3) r.4, known_length ts) (and_one r.1.params (reference_to r.0) 0),
      (r.0, r.1, [], r.3, r.4, r.5, refl),
    )
control_counted k g fs a control.RefAsNonNull p q r = inl (rw (r.2, r.3) refl)
control_counted k g fs a (control.BrOnNull l) p q r =
    let one : (t : Operand) → length (all_known r.0 ++ t ∷ []) ≡ length r.0 + 1 =
    λ t. length-append (all_known r.0) (t ∷ []) ∙ ap (λ (n : ℕ). n + 1) (known_length r.0) in
    inl (rw (label_is k g fs l r.0 a r.2, r.4, r.5, one r.1, one (not_null r.1)) refl)
control_counted k g fs a (control.BrOnNonNull l) p q r =
    let ts = r.0 in
    let n : length (ts ++ ref r.1 r.2 ∷ []) - 1 ≡ length ts = omega (arith, length-append ts (ref r.1 r.2 ∷ [])) in
    let label = label_is k g fs l (ts ++ ref r.1 r.2 ∷ []) a r.3 in
    let same = ap (λ (x : ℕ). just x (length ts)) (one_more ts (ref r.1 r.2) (ref true r.2)) in
    inl (takes_counted _ (ts ++ ref true r.2 ∷ []) ts p q r.4 (rw (label, n) same))
control_counted k g fs a o p q r = absurd (no_type g (op.Control o) p q refl r)

-- ---- operands of any type

parametric_counted : (k : Known) (g : Context) (o : ParametricTree) (p q : List Operand) → ParametricRow g o p q → counts_of k (op.Parametric o) ≡ Some (length p, length q)
parametric_counted k g op.Drop p q r = rw (r.1, r.2) refl
parametric_counted k g op.Select p q r = rw (r.2, r.3) refl
parametric_counted k g (op.TypedSelect t) p q r = takes_counted _ (r.0 ∷ r.0 ∷ i32_type ∷ []) (r.0 ∷ []) p q r.3 refl
parametric_counted k g (op.TypedSelectMulti ts) p q r = absurd r

-- ---- memories

accessed_measures : (g : Context) (x : ℕ) (f : MemoryType → InstructionType) (b : MemoryType → Bool) (n c : ℕ) → ((m : MemoryType) → length (f m).takes ≡ n) → ((m : MemoryType) → length (f m).gives ≡ c)
    → Measures (memory_at g x (λ m. provided (b m) (f m))) n c
accessed_measures g x f b n c h i =
    named_measures (slice_get g.«module».memories x) (λ m. provided (b m) (f m)) n c (λ m. rw (sym (h m), sym (i m)) (provided_measures (b m) (f m)))

memory_measures : (g : Context) (x : ℕ) (f : MemoryType → InstructionType) (n c : ℕ) → ((m : MemoryType) → length (f m).takes ≡ n) → ((m : MemoryType) → length (f m).gives ≡ c)
    → Measures (memory_at g x (λ m. Some (f m))) n c
memory_measures g x f n c h i = named_measures (slice_get g.«module».memories x) (λ m. Some (f m)) n c (λ m. rw (sym (h m), sym (i m)) (some_measures (f m)))

global_measures : (g : Context) (x : ℕ) (f : Global → Option InstructionType) (n c : ℕ) → ((v : Global) → Measures (f v) n c) → Measures (global_at g x f) n c
global_measures g x f n c h = named_measures (slice_get g.«module».globals x) (λ v. if may_use g v.shared then f v else None) n c (λ v. used_measures (may_use g v.shared) (f v) n c (h v))

table_measures : (g : Context) (x : ℕ) (f : Table → InstructionType) (n c : ℕ) → ((v : Table) → length (f v).takes ≡ n) → ((v : Table) → length (f v).gives ≡ c)
    → Measures (table_at g x (λ v. Some (f v))) n c
table_measures g x f n c h i =
    named_measures (slice_get g.«module».tables x) (λ v. if may_use g v.shared then Some (f v) else None) n c
    (λ v. used_measures (may_use g v.shared) (Some (f v)) n c (rw (sym (h v), sym (i v)) (some_measures (f v))))

access_counted : (g : Context) (b : Bool) (a : Option AccessOf) (t : InstructionType) → accesses g b a ≡ Some t → access_counts a ≡ Some (length t.takes, length t.gives)
access_counted g b None t e = cc
access_counted g b (Some a) t e =
    let f = λ (m : MemoryType). address_type m.memory64 ∷ numbers (operands_of a.access) ⟶ numbers (results_of a.access) in
    let takes : (m : MemoryType) → length (f m).takes ≡ length (operands_of a.access) + 1 = λ m. (let e : length (f m).takes ≡ suc (length (operands_of a.access)) = ap (λ (n : ℕ). suc n) (numbers_length (operands_of a.access)) in omega (arith, e)) in
    let l = accessed_measures g a.argument.memory f (λ m. may_access b m a.argument) _ _ takes (λ m. numbers_length (results_of a.access)) t e in
    rw (l.0, l.1) refl

memory_counted : (k : Known) (g : Context) (set : Initialised) (o : MemoryOperator) (p q : List Operand) → MemoryRow g set o p q → counts_of k (op.Memory o) ≡ Some (length p, length q)
memory_counted k g set (memory.LocalGet x) p q r = takes_counted _ [] (r.0 ∷ []) p q r.3 refl
memory_counted k g set (memory.LocalSet x) p q r = takes_counted _ (r.0 ∷ []) [] p q r.2 refl
memory_counted k g set (memory.LocalTee x) p q r = takes_counted _ (r.0 ∷ []) (r.0 ∷ []) p q r.2 refl
memory_counted k g set (memory.GlobalGet x) p q r = table_counted g (op.Memory (memory.GlobalGet x)) _ 0 1 p q (global_measures g x (λ v. Some ([] ⟶ v.content ∷ [])) 0 1 (λ v. some_measures ([] ⟶ v.content ∷ []))) refl r
memory_counted k g set (memory.GlobalSet x) p q r = table_counted g (op.Memory (memory.GlobalSet x)) _ 1 0 p q (global_measures g x (λ v. provided v.mutable (v.content ∷ [] ⟶ [])) 1 0 (λ v. provided_measures v.mutable (v.content ∷ [] ⟶ []))) refl r
memory_counted k g set (memory.MemorySize x) p q r = table_counted g (op.Memory (memory.MemorySize x)) _ 0 1 p q (memory_measures g x (λ m. [] ⟶ address_type m.memory64 ∷ []) 0 1 (λ v. refl) (λ v. refl)) refl r
memory_counted k g set (memory.MemoryGrow x) p q r = table_counted g (op.Memory (memory.MemoryGrow x)) _ 1 1 p q (memory_measures g x (λ m. address_type m.memory64 ∷ [] ⟶ address_type m.memory64 ∷ []) 1 1 (λ v. refl) (λ v. refl)) refl r
memory_counted k g set o p q r = takes_counted _ r.0.takes r.0.gives p q r.2 (access_counted g false (access_of o) r.0 r.1)

atomic_counted : (k : Known) (g : Context) (o : AtomicOperator) (p q : List Operand) → TableRow g (op.Atomic o) p q → counts_of k (op.Atomic o) ≡ Some (length p, length q)
atomic_counted k g atomic.AtomicFence p q r = table_counted g (op.Atomic atomic.AtomicFence) _ 0 0 p q (some_measures ([] ⟶ [])) refl r
atomic_counted k g o p q r = takes_counted _ r.0.takes r.0.gives p q r.2 (access_counted g true (atomic_access_of o) r.0 r.1)

-- ---- ranges, tables, references

copy_measures : (g : Context) (x y : ℕ) → Measures (memory_at g x (λ m. memory_at g y (λ n. Some (address_type m.memory64 ∷ address_type n.memory64 ∷ shorter m.memory64 n.memory64 ∷ [] ⟶ [])))) 3 0
copy_measures g x y =
    named_measures (slice_get g.«module».memories x) (λ m. memory_at g y (λ n. Some (address_type m.memory64 ∷ address_type n.memory64 ∷ shorter m.memory64 n.memory64 ∷ [] ⟶ []))) 3 0
    (λ m. memory_measures g y (λ n. address_type m.memory64 ∷ address_type n.memory64 ∷ shorter m.memory64 n.memory64 ∷ [] ⟶ []) 3 0 (λ v. refl) (λ v. refl))

bulk_counted : (k : Known) (g : Context) (o : BulkOperator) (p q : List Operand) → BulkRow g o p q → counts_of k (op.Bulk o) ≡ Some (length p, length q)
bulk_counted k g (bulk.RefNull h) p q r = takes_counted _ [] (r.0 ∷ []) p q r.3 refl
bulk_counted k g bulk.RefIsNull p q r = rw (r.2, r.3) refl
bulk_counted k g (bulk.RefFunc x) p q r = takes_counted _ [] (ref false r.1 ∷ []) p q r.6 refl
bulk_counted k g (bulk.TableInit e x) p q r = takes_counted _ (address_type r.0.table64 ∷ i32_type ∷ i32_type ∷ []) [] p q r.6 refl
bulk_counted k g (bulk.TableCopy x y) p q r = takes_counted _ (address_type r.0.table64 ∷ address_type r.1.table64 ∷ shorter r.0.table64 r.1.table64 ∷ []) [] p q r.7 refl
bulk_counted k g (bulk.TableGet x) p q r = table_counted g (op.Bulk (bulk.TableGet x)) _ 1 1 p q (table_measures g x (λ t. address_type t.table64 ∷ [] ⟶ t.element ∷ []) 1 1 (λ v. refl) (λ v. refl)) refl r
bulk_counted k g (bulk.TableSet x) p q r = table_counted g (op.Bulk (bulk.TableSet x)) _ 2 0 p q (table_measures g x (λ t. address_type t.table64 ∷ t.element ∷ [] ⟶ []) 2 0 (λ v. refl) (λ v. refl)) refl r
bulk_counted k g (bulk.TableGrow x) p q r = table_counted g (op.Bulk (bulk.TableGrow x)) _ 2 1 p q (table_measures g x (λ t. t.element ∷ address_type t.table64 ∷ [] ⟶ address_type t.table64 ∷ []) 2 1 (λ v. refl) (λ v. refl)) refl r
bulk_counted k g (bulk.TableSize x) p q r = table_counted g (op.Bulk (bulk.TableSize x)) _ 0 1 p q (table_measures g x (λ t. [] ⟶ address_type t.table64 ∷ []) 0 1 (λ v. refl) (λ v. refl)) refl r
bulk_counted k g (bulk.TableFill x) p q r = table_counted g (op.Bulk (bulk.TableFill x)) _ 3 0 p q (table_measures g x (λ t. address_type t.table64 ∷ t.element ∷ address_type t.table64 ∷ [] ⟶ []) 3 0 (λ v. refl) (λ v. refl)) refl r
bulk_counted k g (bulk.ElemDrop e) p q r = table_counted g (op.Bulk (bulk.ElemDrop e)) _ 0 0 p q (named_measures (slice_get g.«module».elements e) (λ t. Some ([] ⟶ [])) 0 0 (λ t. some_measures ([] ⟶ []))) refl r
bulk_counted k g (bulk.DataDrop d) p q r = table_counted g (op.Bulk (bulk.DataDrop d)) _ 0 0 p q (provided_measures (names_data g.«module».data_count d) ([] ⟶ [])) refl r
bulk_counted k g (bulk.MemoryInit d x) p q r = table_counted g (op.Bulk (bulk.MemoryInit d x)) _ 3 0 p q (accessed_measures g x (λ m. address_type m.memory64 ∷ i32_type ∷ i32_type ∷ [] ⟶ []) (λ m. names_data g.«module».data_count d) 3 0 (λ v. refl) (λ v. refl)) refl r
bulk_counted k g (bulk.MemoryFill x) p q r = table_counted g (op.Bulk (bulk.MemoryFill x)) _ 3 0 p q (memory_measures g x (λ m. address_type m.memory64 ∷ i32_type ∷ address_type m.memory64 ∷ [] ⟶ []) 3 0 (λ v. refl) (λ v. refl)) refl r
bulk_counted k g (bulk.MemoryDiscard x) p q r = table_counted g (op.Bulk (bulk.MemoryDiscard x)) _ 2 0 p q (memory_measures g x (λ m. address_type m.memory64 ∷ address_type m.memory64 ∷ [] ⟶ []) 2 0 (λ v. refl) (λ v. refl)) refl r
bulk_counted k g (bulk.MemoryCopy x y) p q r = table_counted g (op.Bulk (bulk.MemoryCopy x y)) _ 3 0 p q (copy_measures g x y) refl r

-- ---- all of them

group_counted : (k : Known) (g : Context) (fs : List Standing) → IsAround k g fs → (set : Initialised) (o : Op) → IsCounted o → (p q : List Operand) → GroupRow g set o p q
    → Counted (counts_of k o) (GroupRow g set o) p q
group_counted k g fs a set (op.Control o) i p q r = control_counted k g fs a o p q r
group_counted k g fs a set (op.Parametric o) i p q r = inl (parametric_counted k g o p q r)
group_counted k g fs a set (op.Exception o) i p q r = exception_counted k g fs a o p q r
group_counted k g fs a set (op.Memory o) i p q r = inl (memory_counted k g set o p q r)
group_counted k g fs a set (op.Const o) i p q r = inl (table_counted g (op.Const o) _ 0 1 p q (some_measures ([] ⟶ number (constant_type o) ∷ [])) refl r)
group_counted k g fs a set (op.Numeric o) i p q r =
    let ts = taken_by (class_of o) in
    let us = given_by (class_of o) in
    let e : just (length ts) (length us) ≡ just (length (numbers ts)) (length (numbers us)) = rw (numbers_length ts, numbers_length us) refl in
    inl (table_counted g (op.Numeric o) (just (length ts) (length us)) (length (numbers ts)) (length (numbers us)) p q (some_measures (numbers ts ⟶ numbers us)) e r)
group_counted k g fs a set (op.Bulk o) i p q r = inl (bulk_counted k g o p q r)
group_counted k g fs a set (op.Gc o) i p q r = inl (gc_counted k g fs a o p q r)
group_counted k g fs a set (op.Descriptor o) i p q r = inl (descriptor_counted k g fs a o p q r)
group_counted k g fs a set (op.Simd o) i p q r = absurd i
group_counted k g fs a set (op.SimdNumeric o) i p q r = absurd i
group_counted k g fs a set (op.Atomic o) i p q r = inl (atomic_counted k g o p q r)
group_counted k g fs a set (op.Shared o) i p q r = inl (shared_counted k g o p q r)
group_counted k g fs a set (op.Continuation o) i p q r = inl (continuation_operator_counted k g o p q a.«module» r)

-- ---- the shortest row

from_counted : (a : Option Counts) (R : List Operand → List Operand → Type 0) (p q : List Operand) (n c : ℕ) → length p ≡ n → length q ≡ c
    → ((s t : List Operand) → R s t → (n ≤ length s) × (c ≤ length t)) → Counted a R p q → a ≡ Some (n, c)
from_counted a R p q n c e f least h = ⊎_elim
    (λ fixed. fixed ∙ rw (e, f) refl)
    (λ leaves.
    let l = least leaves.1 [] leaves.4 in
    let less : length leaves.1 ≤ n = omega (arith, e, ap (λ (x : List Operand). length x) leaves.2, length-append leaves.0 leaves.1) in
    let is : n ≡ length leaves.1 = omega (arith, l.0, less) in
    let none : c ≡ 0 = omega (arith, l.1) in
    leaves.3 ∙ rw (is, none) refl)
    h

row_counted : (k : Known) (g : Context) (fs : List Standing) (set : Initialised) (o : Op) (n c : ℕ) → IsCounted o → IsAround k g fs → IsShortest g set o n c → counts_of k o ≡ Some (n, c)
row_counted k g fs set o n c counts a i =
    from_counted (counts_of k o) (GroupRow g set o) i.popped i.pushed n c i.takes i.gives (λ s t r. i.least s t (i.row.0, r)) (group_counted k g fs a set o counts i.popped i.pushed i.row.1)

-- ---- frames

block_type_counted : (g : Context) (t : BlockType) (b : Signature) → IsBlockType g t b → block_counts g.«module» t ≡ just (length b.params) (length b.results)
block_type_counted g block.Empty b h = rw h refl
block_type_counted g (block.Val t) b h = rw h.2 refl
block_type_counted g (block.FuncType x) b h = type_counted (slice_get g.«module».types x) h.1 b h.2 h.3

opener_counted : (k : Known) (g : Context) (fs : List Standing) (o : Op) (kind : FrameKind) (b : Signature) → IsAround k g fs → OpensFrame g o kind b
    → counts_of k o ≡ just (length (entry_of kind b)) (length b.params)
opener_counted k g fs (op.Control (control.Block t)) kind b a h =
    let r : Opens frames.Block ≡ Opens kind = h.0 in
    let e : frames.Block ≡ kind = cc in
    subst (λ (x : FrameKind). opening 0 (block_counts k.«module» t) ≡ just (length (entry_of x b)) (length b.params)) e (rw (a.«module», block_type_counted g t b h.1) (none_more (length b.params) (length b.params)))
opener_counted k g fs (op.Control (control.Loop t)) kind b a h =
    let r : Opens frames.Loop ≡ Opens kind = h.0 in
    let e : frames.Loop ≡ kind = cc in
    subst (λ (x : FrameKind). opening 0 (block_counts k.«module» t) ≡ just (length (entry_of x b)) (length b.params)) e (rw (a.«module», block_type_counted g t b h.1) (none_more (length b.params) (length b.params)))
opener_counted k g fs (op.Control (control.If t)) kind b a h =
    let r : Opens frames.If ≡ Opens kind = h.0 in
    let e : frames.If ≡ kind = cc in
    subst (λ (x : FrameKind). opening 1 (block_counts k.«module» t) ≡ just (length (entry_of x b)) (length b.params)) e (rw (a.«module», block_type_counted g t b h.1) (and_one b.params i32_type (length b.params)))
opener_counted k g fs (op.Exception (op.Try t)) kind b a h =
    let r : Opens frames.LegacyTry ≡ Opens kind = h.0 in
    let e : frames.LegacyTry ≡ kind = cc in
    subst (λ (x : FrameKind). opening 0 (block_counts k.«module» t) ≡ just (length (entry_of x b)) (length b.params)) e (rw (a.«module», block_type_counted g t b h.1) (none_more (length b.params) (length b.params)))
opener_counted k g fs (op.Exception (op.TryTable t)) kind b a h =
    let r : Opens frames.TryTable ≡ Opens kind = h.0 in
    let e : frames.TryTable ≡ kind = cc in
    subst (λ (x : FrameKind). opening 0 (block_counts k.«module» t.ty) ≡ just (length (entry_of x b)) (length b.params)) e (rw (a.«module», block_type_counted g t.ty b h.1) (none_more (length b.params) (length b.params)))
opener_counted k g fs o kind b a h = absurd h.1

turner_counted : (k : Known) (g : Context) (o : Op) (b : Signature) (ts : List ValueType) → k.«module» ≡ g.«module»
    → frame_counts k 0 ≡ just (length b.params) (length b.results) → Turns g b o ts → counts_of k o ≡ just (length b.results) (length ts)
turner_counted k g (op.Control control.Else) b ts m f e = rw (f, e) refl
turner_counted k g (op.Exception (op.Catch x)) b ts m f e = rw (f, m, tag_counted g x ts e.1) refl
turner_counted k g (op.Exception op.CatchAll) b ts m f e = rw (f, e.1) (none_more (length b.results) 0)
turner_counted k g o b ts m f e = absurd e

closer_counted : (k : Known) (g : Context) (o : Op) (n c : ℕ) → frame_counts k 0 ≡ just c n → EndsAt g o → counts_of k o ≡ just n n
closer_counted k g (op.Control control.End) n c f e = rw f refl
closer_counted k g (op.Exception (op.Delegate l)) n c f e = rw f refl
closer_counted k g o n c f e = absurd e

pub counts_are_exact : CountsAreExact
counts_are_exact k g fs set o n c counts a (by_row i) = row_counted k g fs set o n c counts a i
counts_are_exact k g fs set o n c counts a (opened kind b h) = opener_counted k g fs o kind b a h
counts_are_exact k g (f ∷ fs) set o n c counts a (turned h ts e) = turner_counted k g o f.block ts a.«module» (innermost_is k g f fs a) e
counts_are_exact k g (f ∷ fs) set o n c counts a (closed h e) = closer_counted k g o _ _ (innermost_is k g f fs a) e
