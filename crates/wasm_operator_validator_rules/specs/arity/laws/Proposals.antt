-- The rows of descriptors, of atomic accesses to places and of continuations are counted by the table.
use Rattle.std.proofs.Common.{◌≡◌, ◌+◌, ◌-◌, ◌∙◌, ℕ, suc, Bool, true, false, List, [], ◌∷◌, ◌++◌, length, Option, Some, None, option_map, option_and_then, slice_get, if◌then◌else◌, refl, sym, ap, arith, length-append}
use Rattle.wasm_types.specs.trees.Types.{InnerOf, i31, ref, HeapOf, abstract, concrete, exact}
use Rattle.wasm_types.specs.trees.Trees.{TypeTree}
use Rattle.wasm_types.specs.trees.Below.{expanded}
use Rattle.wasm_operators_enums.specs.declared.gc.DescriptorOperator.{DescriptorOperator}
use Rattle.wasm_operators_enums.specs.declared.gc.DescriptorOperator.TheVariants as descriptor
use Rattle.wasm_operators_enums.specs.declared.atomic.SharedOperator.{SharedOperator}
use Rattle.wasm_operators_enums.specs.declared.atomic.SharedOperator.TheVariants as shared
use Rattle.wasm_operators_enums.specs.Op as op
use Rattle.wasm_operators_enums.specs.Op.{ContinuationTree}
use Rattle.wasm_operator_validator_rules.specs.Operands.{ValueType, Operand, all_known}
use Rattle.wasm_operator_validator_rules.specs.Context.{Context, Global, Table, Signature, may_use}
use Rattle.wasm_operator_validator_rules.specs.Aggregates.{top_heap}
use Rattle.wasm_operator_validator_rules.specs.Places.{unpacked, operands_for, Place, global_place, table_place, field_place, element_place}
use Rattle.wasm_operator_validator_rules.specs.InstructionTypes.{i32_type, reference_to, allocated}
use Rattle.wasm_operator_validator_rules.specs.Exceptions.{exception}
use Rattle.wasm_operator_validator_rules.specs.Objects.{difference}
use Rattle.wasm_operator_validator_rules.specs.Descriptors.{of_type, BranchesBy, DescriptorRow}
use Rattle.wasm_operator_validator_rules.specs.SharedAccesses.{AtomicAccess, reads, reads_packed, writes, modifies, exchanges, compares, AccessRow, At, SharedRow}
use Rattle.wasm_operator_validator_rules.specs.Continuations.{IsContinuationType, IsContinuation, IsTag, TypesBelow, continued, ContinuationRow}
use Rattle.wasm_operator_validator_rules.specs.arity.Arity.{Known, Counts, counts_of, keeping, label_of_frame, type_counts, resumed, continuation_counts, last_referred, switch_counts}
use Rattle.wasm_operator_validator_rules.specs.arity.Exchanges.{Standing, IsAround}
use Rattle.wasm_operator_validator_rules.specs.arity.laws.Counting.{known_length, below_length, takes_counted, type_counted, label_is}
use Rattle.wasm_operator_validator_rules.specs.arity.laws.Exceptions.{tag_counted}
use Rattle.wasm_operator_validator_rules.specs.arity.laws.Lookups.{used_is, one_more}
use Rattle.wasm_operator_validator_rules.specs.arity.laws.Objects.{struct_counted, operands_length, IsReachedBy, looked_up, field_reached, element_reached}

abbrev just : ℕ → ℕ → Option Counts
just n c = Some (n, c)

-- ---- descriptors

-- a branch on a cast by what describes the type
branch_counted : (k : Known) (g : Context) (fs : List Standing) → IsAround k g fs → (l : ℕ) (cast : ValueType) (by : HeapOf TypeTree) (taken left : ValueType) (p q : List Operand)
    → BranchesBy g l cast by taken left p q → keeping 1 0 (label_of_frame k l) ≡ Some (length p, length q)
branch_counted k g fs a l cast by taken left p q r =
    let ts = r.0 in
    let label = label_is k g fs l (ts ++ r.1.0 ∷ []) a r.1.1 in
    let one : (x : ValueType) → length (ts ++ x ∷ []) ≡ length ts + 1 = λ x. length-append ts (x ∷ []) in
    let two : length (ts ++ cast ∷ ref true by ∷ []) ≡ length ts + 2 = length-append ts (cast ∷ ref true by ∷ []) in
    let takes : length (ts ++ r.1.0 ∷ []) + 1 ≡ length (ts ++ cast ∷ ref true by ∷ []) = omega (arith, one r.1.0, two) in
    let gives : length (ts ++ r.1.0 ∷ []) + 0 ≡ length (ts ++ left ∷ []) = omega (arith, one r.1.0, one left) in
    takes_counted _ (ts ++ cast ∷ ref true by ∷ []) (ts ++ left ∷ []) p q r.2
    (rw label (ap (λ (x : ℕ). just x (length (ts ++ r.1.0 ∷ []) + 0)) takes ∙ ap (λ (x : ℕ). just (length (ts ++ cast ∷ ref true by ∷ [])) x) gives))

pub descriptor_counted : (k : Known) (g : Context) (fs : List Standing) → IsAround k g fs → (o : DescriptorOperator) (p q : List Operand) → DescriptorRow g o p q
    → counts_of k (op.Descriptor o) ≡ Some (length p, length q)
descriptor_counted k g fs a (descriptor.StructNewDesc x) p q r =
    let s = r.0 in
    let n : length (operands_for s.fields ++ ref true (exact r.1) ∷ []) ≡ length s.fields + 1 =
    length-append (operands_for s.fields) (ref true (exact r.1) ∷ []) ∙ ap (λ (x : ℕ). x + 1) (operands_length s.fields) in
    takes_counted _ (operands_for s.fields ++ ref true (exact r.1) ∷ []) (allocated g s.type ∷ []) p q r.3 (rw (a.«module», struct_counted g x s r.2.struct, n) refl)
descriptor_counted k g fs a (descriptor.StructNewDefaultDesc x) p q r = takes_counted _ (ref true (exact r.1) ∷ []) (allocated g r.0.type ∷ []) p q r.4 refl
descriptor_counted k g fs a (descriptor.RefGetDesc x) p q r = takes_counted _ (ref true (of_type r.2 r.0) ∷ []) (ref false (of_type r.2 r.1) ∷ []) p q r.5 refl
descriptor_counted k g fs a (descriptor.RefCastDescEqNonNull h) p q r = takes_counted _ (ref true (top_heap r.0) ∷ ref true r.1 ∷ []) (ref false r.0 ∷ []) p q r.3 refl
descriptor_counted k g fs a (descriptor.RefCastDescEqNullable h) p q r = takes_counted _ (ref true (top_heap r.0) ∷ ref true r.1 ∷ []) (ref true r.0 ∷ []) p q r.3 refl
descriptor_counted k g fs a (descriptor.BrOnCastDescEq l from to) p q r =
    branch_counted k g fs a l (ref from.nullable r.0) r.2 (ref to.nullable r.1) (difference from to r.0) p q r.5
descriptor_counted k g fs a (descriptor.BrOnCastDescEqFail l from to) p q r =
    branch_counted k g fs a l (ref from.nullable r.0) r.2 (difference from to r.0) (ref to.nullable r.1) p q r.5

-- ---- shared accesses

used : (b : Bool) (x : Place) (n : ℕ) → length x.reached_by ≡ n → IsReachedBy (if b then Some x else None) n
used true x n h p e = let i : x ≡ p = cc in sym (ap (λ (y : Place). length y.reached_by) i) ∙ h
used false x n h p e = absurd cc

global_reached : (g : Context) (x : ℕ) → IsReachedBy (global_place g x) 0
global_reached g x = looked_up (slice_get g.«module».globals x) _ 0 (λ (v : Global). used (may_use g v.shared) _ 0 refl)

table_reached : (g : Context) (x : ℕ) → IsReachedBy (table_place g x) 1
table_reached g x = looked_up (slice_get g.«module».tables x) _ 1 (λ (t : Table). used (may_use g t.shared) _ 1 refl)

-- an access, if so many operands reach the place
abbrev accessed : AtomicAccess → ℕ → Option Counts
accessed reads n = just n 1
accessed reads_packed n = just n 1
accessed writes n = just (n + 1) 0
accessed modifies n = just (n + 1) 1
accessed exchanges n = just (n + 1) 1
accessed compares n = just (n + 2) 1

above_length : (xs ys : List ValueType) (n c : ℕ) → length xs ≡ n → just (n + length ys) c ≡ just (length (xs ++ ys)) c
above_length xs ys n c h = ap (λ (k : ℕ). just k c) (ap (λ (k : ℕ). k + length ys) (sym h) ∙ sym (length-append xs ys))

and_none : (n c : ℕ) → just n c ≡ just (n + 0) c
and_none n c = let e : n ≡ n + 0 = omega arith in ap (λ (x : ℕ). just x c) e

access_counted : (a : AtomicAccess) (x : Place) (n : ℕ) (p q : List Operand) → length x.reached_by ≡ n → AccessRow a x p q → accessed a n ≡ Some (length p, length q)
access_counted reads x n p q h r =
    takes_counted _ (x.reached_by ++ []) (unpacked x.storage ∷ []) p q r.2 (and_none n 1 ∙ above_length x.reached_by [] n 1 h)
access_counted reads_packed x n p q h r =
    takes_counted _ (x.reached_by ++ []) (unpacked x.storage ∷ []) p q r.2 (and_none n 1 ∙ above_length x.reached_by [] n 1 h)
access_counted writes x n p q h r = takes_counted _ (x.reached_by ++ unpacked x.storage ∷ []) [] p q r.2 (above_length x.reached_by (unpacked x.storage ∷ []) n 0 h)
access_counted modifies x n p q h r =
    takes_counted _ (x.reached_by ++ unpacked x.storage ∷ []) (unpacked x.storage ∷ []) p q r.2 (above_length x.reached_by (unpacked x.storage ∷ []) n 1 h)
access_counted exchanges x n p q h r =
    takes_counted _ (x.reached_by ++ unpacked x.storage ∷ []) (unpacked x.storage ∷ []) p q r.2 (above_length x.reached_by (unpacked x.storage ∷ []) n 1 h)
access_counted compares x n p q h r = takes_counted _ (x.reached_by ++ unpacked x.storage ∷ unpacked x.storage ∷ []) (unpacked x.storage ∷ []) p q r.2
    (above_length x.reached_by (unpacked x.storage ∷ unpacked x.storage ∷ []) n 1 h)

at_counted : (a : AtomicAccess) (o : Option Place) (n : ℕ) → IsReachedBy o n → (p q : List Operand) → At a o p q → accessed a n ≡ Some (length p, length q)
at_counted a o n h p q r = access_counted a r.0 n p q (h r.0 r.1) r.2

pub shared_counted : (k : Known) (g : Context) (o : SharedOperator) (p q : List Operand) → SharedRow g o p q → counts_of k (op.Shared o) ≡ Some (length p, length q)
shared_counted k g (shared.GlobalAtomicGet order x) p q r = at_counted reads _ 0 (global_reached g x) p q r
shared_counted k g (shared.GlobalAtomicSet order x) p q r = at_counted writes _ 0 (global_reached g x) p q r
shared_counted k g (shared.GlobalAtomicRmwAdd order x) p q r = at_counted modifies _ 0 (global_reached g x) p q r
shared_counted k g (shared.GlobalAtomicRmwSub order x) p q r = at_counted modifies _ 0 (global_reached g x) p q r
shared_counted k g (shared.GlobalAtomicRmwAnd order x) p q r = at_counted modifies _ 0 (global_reached g x) p q r
shared_counted k g (shared.GlobalAtomicRmwOr order x) p q r = at_counted modifies _ 0 (global_reached g x) p q r
shared_counted k g (shared.GlobalAtomicRmwXor order x) p q r = at_counted modifies _ 0 (global_reached g x) p q r
shared_counted k g (shared.GlobalAtomicRmwXchg order x) p q r = at_counted exchanges _ 0 (global_reached g x) p q r
shared_counted k g (shared.GlobalAtomicRmwCmpxchg order x) p q r = at_counted compares _ 0 (global_reached g x) p q r
shared_counted k g (shared.TableAtomicGet order x) p q r = at_counted reads _ 1 (table_reached g x) p q r
shared_counted k g (shared.TableAtomicSet order x) p q r = at_counted writes _ 1 (table_reached g x) p q r
shared_counted k g (shared.TableAtomicRmwXchg order x) p q r = at_counted exchanges _ 1 (table_reached g x) p q r
shared_counted k g (shared.TableAtomicRmwCmpxchg order x) p q r = at_counted compares _ 1 (table_reached g x) p q r
shared_counted k g (shared.StructAtomicGet order x i) p q r = at_counted reads _ 1 (field_reached g x i) p q r
shared_counted k g (shared.StructAtomicGetS order x i) p q r = at_counted reads_packed _ 1 (field_reached g x i) p q r
shared_counted k g (shared.StructAtomicGetU order x i) p q r = at_counted reads_packed _ 1 (field_reached g x i) p q r
shared_counted k g (shared.StructAtomicSet order x i) p q r = at_counted writes _ 1 (field_reached g x i) p q r
shared_counted k g (shared.StructAtomicRmwAdd order x i) p q r = at_counted modifies _ 1 (field_reached g x i) p q r
shared_counted k g (shared.StructAtomicRmwSub order x i) p q r = at_counted modifies _ 1 (field_reached g x i) p q r
shared_counted k g (shared.StructAtomicRmwAnd order x i) p q r = at_counted modifies _ 1 (field_reached g x i) p q r
shared_counted k g (shared.StructAtomicRmwOr order x i) p q r = at_counted modifies _ 1 (field_reached g x i) p q r
shared_counted k g (shared.StructAtomicRmwXor order x i) p q r = at_counted modifies _ 1 (field_reached g x i) p q r
shared_counted k g (shared.StructAtomicRmwXchg order x i) p q r = at_counted exchanges _ 1 (field_reached g x i) p q r
shared_counted k g (shared.StructAtomicRmwCmpxchg order x i) p q r = at_counted compares _ 1 (field_reached g x i) p q r
shared_counted k g (shared.ArrayAtomicGet order x) p q r = at_counted reads _ 2 (element_reached g x) p q r
shared_counted k g (shared.ArrayAtomicGetS order x) p q r = at_counted reads_packed _ 2 (element_reached g x) p q r
shared_counted k g (shared.ArrayAtomicGetU order x) p q r = at_counted reads_packed _ 2 (element_reached g x) p q r
shared_counted k g (shared.ArrayAtomicSet order x) p q r = at_counted writes _ 2 (element_reached g x) p q r
shared_counted k g (shared.ArrayAtomicRmwAdd order x) p q r = at_counted modifies _ 2 (element_reached g x) p q r
shared_counted k g (shared.ArrayAtomicRmwSub order x) p q r = at_counted modifies _ 2 (element_reached g x) p q r
shared_counted k g (shared.ArrayAtomicRmwAnd order x) p q r = at_counted modifies _ 2 (element_reached g x) p q r
shared_counted k g (shared.ArrayAtomicRmwOr order x) p q r = at_counted modifies _ 2 (element_reached g x) p q r
shared_counted k g (shared.ArrayAtomicRmwXor order x) p q r = at_counted modifies _ 2 (element_reached g x) p q r
shared_counted k g (shared.ArrayAtomicRmwXchg order x) p q r = at_counted exchanges _ 2 (element_reached g x) p q r
shared_counted k g (shared.ArrayAtomicRmwCmpxchg order x) p q r = at_counted compares _ 2 (element_reached g x) p q r
shared_counted k g shared.RefI31Shared p q r = takes_counted _ (i32_type ∷ []) (ref false (abstract true i31) ∷ []) p q r refl

-- ---- continuations

continuation_counted : (o : Option TypeTree) (t : TypeTree) (b : Signature) → o ≡ Some t → IsContinuationType t b → continuation_counts o ≡ Some (length b.params, length b.results)
continuation_counted o t b e c = ap continuation_counts e ∙ type_counted (resumed (expanded t)) c.0 b (ap resumed c.1) c.2

named_counted : (g : Context) (x : ℕ) (t : TypeTree) (b : Signature) → IsContinuation g x t b → continuation_counts (slice_get g.«module».types x) ≡ Some (length b.params, length b.results)
named_counted g x t b n = continuation_counted _ t b (used_is g x t n.0) n.1

last_of_more : (ts : List ValueType) (n : Bool) (t : TypeTree) → last_referred (ts ++ ref n (concrete t) ∷ []) ≡ Some t
last_of_more [] n t = refl
last_of_more (u ∷ []) n t = refl
last_of_more (u ∷ v ∷ ts) n t = last_of_more (v ∷ ts) n t

switch_counted : (o : Option TypeTree) (t left : TypeTree) (b own : Signature) (ts : List ValueType) (n : Bool) → o ≡ Some t → IsContinuationType t b → b.params ≡ ts ++ ref n (concrete left) ∷ []
    → IsContinuationType left own → option_and_then (λ f. switch_counts (expanded f)) (option_and_then (λ u. resumed (expanded u)) o) ≡ Some (length b.params, length own.params)
switch_counted o t left b own ts n e c p d =
    ap (λ (x : Option TypeTree). option_and_then (λ f. switch_counts (expanded f)) (option_and_then (λ u. resumed (expanded u)) x)) e
    ∙ ap (λ (i : InnerOf TypeTree). option_and_then (λ f. switch_counts (expanded f)) (resumed i)) c.1
    ∙ ap switch_counts c.2
    ∙ ap (λ (x : Option TypeTree). option_map (λ (k : Counts). (length b.params, k.0)) (continuation_counts x)) (ap last_referred p ∙ last_of_more ts n left)
    ∙ ap (λ (x : Option Counts). option_map (λ (k : Counts). (length b.params, k.0)) x) (continuation_counted (Some left) left own refl d)

types_length : (ts us : List ValueType) → TypesBelow ts us → length ts ≡ length us
types_length ts us b = sym (known_length ts) ∙ below_length (all_known ts) (all_known us) b ∙ known_length us

suspended_counted : (g : Context) (x : ℕ) (b : Signature) → IsTag g x b → type_counts (slice_get g.«module».tags x) ≡ Some (length b.params, length b.results)
suspended_counted g x b (t, e, f) = type_counted _ t b e f

and_one : (ts : List ValueType) (u : ValueType) (c : ℕ) → just (length ts + 1) c ≡ just (length (ts ++ u ∷ [])) c
and_one ts u c = ap (λ (n : ℕ). just n c) (sym (length-append ts (u ∷ [])))

pub continuation_operator_counted : (k : Known) (g : Context) (o : ContinuationTree) (p q : List Operand) → k.«module» ≡ g.«module» → ContinuationRow g o p q
    → counts_of k (op.Continuation o) ≡ Some (length p, length q)
continuation_operator_counted k g (op.ContNew x) p q m r = takes_counted _ (reference_to r.1 ∷ []) (continued r.0 ∷ []) p q r.6 refl
continuation_operator_counted k g (op.ContBind x y) p q m r =
    let b = r.3 in
    let old = named_counted g x r.0 b.old b.old_named in
    let new = named_counted g y r.1 b.new b.new_named in
    let params : length b.old.params ≡ length r.2 + length b.rest = ap (λ (ts : List ValueType). length ts) b.params ∙ length-append r.2 b.rest in
    let rest : length b.new.params ≡ length b.rest = types_length b.new.params b.rest b.fits.0 in
    let takes : length b.old.params - length b.new.params + 1 ≡ length (r.2 ++ reference_to r.0 ∷ []) = omega (arith, params, rest, length-append r.2 (reference_to r.0 ∷ [])) in
    takes_counted _ (r.2 ++ reference_to r.0 ∷ []) (continued r.1 ∷ []) p q r.4 (rw (m, old, new) (ap (λ (n : ℕ). just n 1) takes))
continuation_operator_counted k g (op.Suspend x) p q m r = takes_counted _ r.0.params r.0.results p q r.2 (rw (m, suspended_counted g x r.0 r.1) refl)
continuation_operator_counted k g (op.Resume x hs) p q m r =
    takes_counted _ (r.1.params ++ reference_to r.0 ∷ []) r.1.results p q r.4 (rw (m, named_counted g x r.0 r.1 r.2) (and_one r.1.params (reference_to r.0) (length r.1.results)))
continuation_operator_counted k g (op.ResumeThrow x e hs) p q m r = takes_counted _ (r.2 ++ reference_to r.0 ∷ []) r.1.results p q r.6
    (rw (m, named_counted g x r.0 r.1 r.3, tag_counted g e r.2 r.4) (and_one r.2 (reference_to r.0) (length r.1.results)))
continuation_operator_counted k g (op.ResumeThrowRef x hs) p q m r =
    takes_counted _ (exception true ∷ reference_to r.0 ∷ []) r.1.results p q r.4 (rw (m, named_counted g x r.0 r.1 r.2) refl)
continuation_operator_counted k g (op.Switch x e) p q m r =
    let s = r.3 in
    let c = switch_counted _ r.0 s.left s.next r.2 r.1 s.nullable (used_is g x r.0 s.next_named.0) s.next_named.1 s.params s.goes_on in
    let n : length s.next.params ≡ length (r.1 ++ reference_to r.0 ∷ []) = ap (λ (ts : List ValueType). length ts) s.params ∙ one_more r.1 (ref s.nullable (concrete s.left)) (reference_to r.0) in
    takes_counted _ (r.1 ++ reference_to r.0 ∷ []) r.2.params p q r.4 (rw (m, c) (ap (λ (x : ℕ). just x (length r.2.params)) n))
