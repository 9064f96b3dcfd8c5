-- Objects whose fields have their defaults: the types that a standard type refers to are standard.
use Rattle.std.proofs.Common.{◌≡◌, ℕ, true, false, List, [], ◌∷◌, refl, sym, ap, subst, ◌∙◌, get_or, slice_get}
use Rattle.std.proofs.lemmas.List.Elements.{All-nil, All-cons, All-head, All-tail, All-contains}
use Rattle.std.specs.Prelude.{All, Contains, replicate}
use Rattle.wasm_types.specs.trees.Types.{number, ref, HeapOf, abstract, concrete, exact, StorageOf, i8, i16, value, FieldOf, InnerOf, function, array_of, struct_of, continuation}
use Rattle.wasm_types.specs.trees.Trees.{TypeTree, opened}
use Rattle.wasm_types.specs.trees.Each.{EachHeap, EachValue, EachStorage, EachFields, EachInner, EachEntry}
use Rattle.wasm_types.specs.trees.Below.{expanded}
use Rattle.wasm_types.specs.trees.laws.Valid.{valid_groups_are_sound}
use Rattle.wasm_operators_enums.specs.declared.gc.GcOperator.TheVariants as gc
use Rattle.wasm_operators_enums.specs.Op as op
use Rattle.wasm_operators_enums.specs.Op.{Op}
use Rattle.wasm_operators_encoding.specs.expressions.Code.{Code, plain}
use Rattle.wasm_operator_validator_rules.specs.Operands.{ValueType}
use Rattle.wasm_operator_validator_rules.specs.InstructionTypes.{i32_type}
use Rattle.wasm_operator_validator_soundness.specs.runs.Values.{Program, IsStandardType, ref_object, default_of}
use Rattle.wasm_operator_validator_soundness.specs.runs.States.{Activation, Answer, Move, found, asks}
use Rattle.wasm_operator_validator_soundness.specs.runs.Machine.{HasDefault, HaveDefaults, operand_of, operands_of, fields_in, struct_fields, array_fields, goes, takes, execute}
use Rattle.wasm_operator_validator_soundness.specs.runs.Soundness.{IsValidProgram}
use Rattle.wasm_operator_validator_soundness.proofs.RunsLeaving.{null_fits}
use Rattle.wasm_operator_validator_store.specs.Stores.{Store, nothing, bits_of, or_nothing, defaults}
use Rattle.wasm_operator_validator_store.specs.ValidStores.{Pairs, Knows, Has, HasField, FieldsFit}
use Rattle.wasm_operator_validator_store.specs.Giving.{GivesOperator}
use Rattle.wasm_operator_validator_store.specs.Soundness.{AreValid}
use Rattle.wasm_operator_validator_store.proofs.Lists.{same_some, none_some, each_replicate}
use Rattle.wasm_operator_validator_store.proofs.Keeping.{null_kept}
use Rattle.wasm_operator_validator_store.proofs.Storing.{knows_plain}
use Rattle.wasm_operator_validator_store.proofs.Answering.{IsDone, found_needs, found_answer, told}
use Rattle.wasm_operator_validator_store.proofs.Objects.{there_some}
use Rattle.wasm_operator_validator_store.proofs.Making.{struct_is, array_is, made}

abbrev Fields : Type 0
Fields = List (FieldOf TypeTree)

-- ---- what a standard type refers to

module _ (space : List TypeTree) (standard : (t : TypeTree) → Contains space t → IsStandardType t) where
  heap_standard : (h : HeapOf TypeTree) → EachHeap (Contains space) h → EachHeap IsStandardType h
  heap_standard (abstract c q) i = tt
  heap_standard (concrete t) i = standard t i
  heap_standard (exact t) i = standard t i

  stored_standard : (q : StorageOf TypeTree) → EachStorage (Contains space) q → EachValue IsStandardType (operand_of q)
  stored_standard i8 i = tt
  stored_standard i16 i = tt
  stored_standard (value (number n)) i = tt
  stored_standard (value (ref n h)) i = heap_standard h i

  all_standard : (fs : Fields) → EachFields (Contains space) fs → All (EachValue IsStandardType) (operands_of fs)
  all_standard [] i = All-nil (EachValue IsStandardType)
  all_standard (f ∷ fs) i = All-cons (EachValue IsStandardType) (operand_of f.storage) (operands_of fs) (stored_standard f.storage i.0) (all_standard fs i.1)

  inner_standard : (x : InnerOf TypeTree) → EachInner (Contains space) x → All (EachValue IsStandardType) (operands_of (fields_in x))
  inner_standard (struct_of fs) i = all_standard fs i
  inner_standard (array_of f) i = all_standard (f ∷ []) (i, tt)
  inner_standard (function ps rs) i = All-nil (EachValue IsStandardType)
  inner_standard (continuation t) i = All-nil (EachValue IsStandardType)

pub fields_standard : (t : TypeTree) → IsStandardType t → All (EachValue IsStandardType) (operands_of (fields_in (expanded t)))
fields_standard t s =
    let closed = (valid_groups_are_sound s.settings s.groups s.types s.valid).closed in
    inner_standard s.types (λ u i. record { settings = s.settings; standard = s.standard; groups = s.groups; types = s.types; valid = s.valid; has_it = i }) (expanded t)
    (All-contains (λ (u : TypeTree). EachEntry (Contains s.types) (opened u)) s.types t closed s.has_it).inner

-- ---- defaults fit

module _ (p : Program) (s : Store) where
  default_has : (t : ValueType) → HasDefault t → EachValue IsStandardType t → Has p s t (or_nothing (default_of t))
  default_has (number n) d i = ((tt, refl), tt)
  default_has (ref true h) d i = (null_fits p h i, null_kept (Knows s) (knows_plain s) h)
  default_has (ref false h) d i = absurd (none_some d.0 d.1)

  pub defaults_have : (fs : Fields) → HaveDefaults fs → All (EachValue IsStandardType) (operands_of fs) → Pairs (HasField p s) fs (defaults fs)
  defaults_have [] d i = tt
  defaults_have (f ∷ fs) d i = (
    default_has (operand_of f.storage) (All-head HasDefault (operand_of f.storage) (operands_of fs) d) (All-head (EachValue IsStandardType) (operand_of f.storage) (operands_of fs) i),
    defaults_have fs (All-tail HasDefault (operand_of f.storage) (operands_of fs) d) (All-tail (EachValue IsStandardType) (operand_of f.storage) (operands_of fs) i),
  )

module _ (p : Program) (valid : IsValidProgram p) (results : List ValueType) (act : Activation) (acts : List Activation) (s : Store) (v : AreValid p results (act ∷ acts) s) (more : Code) (a : Answer) (u : Store) where
  abbrev Done : Op → Type 0
  Done o = IsDone p act acts (plain o more) s a u

  abbrev Given : Op → Type 0
  Given o = GivesOperator p (act ∷ acts) s a u act o

  abbrev Next : Op → Type 0
  Next o = act.innermost.code ≡ plain o more

  pub struct_new_default_done : (x : ℕ) → Next (op.Gc (gc.StructNewDefault x)) → Given (op.Gc (gc.StructNewDefault x)) → Done (op.Gc (gc.StructNewDefault x))
  struct_new_default_done x c h =
      let vs = act.innermost.values in
      let g = there_some p (act ∷ acts) s a u (slice_get p.«module».types x) _ h in
      let inner : TypeTree → Fields → Move = λ t fs. takes p a [] vs (λ us ws. asks (HaveDefaults fs) (goes p a act acts (ref_object a.made t ∷ ws) more)) in
      let outer : TypeTree → Move = λ t. found (struct_fields (expanded t)) (inner t) in
      let answer : (execute p a act acts (plain (op.Gc (gc.StructNewDefault x)) more)).is_answer = found_answer (slice_get p.«module».types x) outer (λ t d. found_answer (struct_fields (expanded t)) (inner t) (λ fs q. tt)) in
      let n = told p valid results act acts s v a (plain (op.Gc (gc.StructNewDefault x)) more) c answer in
      let q = found_needs {A = TypeTree} p results (slice_get p.«module».types x) outer n.0 n.1 in
      let same : q.0 ≡ g.0 = same_some q.0 g.0 (sym q.1 ∙ g.1) in
      let r = found_needs {A = Fields} p results (struct_fields (expanded q.0)) (inner q.0) q.2 q.3 in
      let is : expanded g.0 ≡ struct_of r.0 = sym (ap (λ (t : TypeTree). expanded t) same) ∙ struct_is (expanded q.0) r.0 r.1 in
      let types : All (EachValue IsStandardType) (operands_of r.0) = subst (λ (y : InnerOf TypeTree). All (EachValue IsStandardType) (operands_of (fields_in y))) is (fields_standard g.0 (valid.types x g.0 g.1)) in
      let all : FieldsFit p s (expanded g.0) (defaults (fields_in (expanded g.0))) = subst (λ (y : InnerOf TypeTree). FieldsFit p s y (defaults (fields_in y))) (sym is) (defaults_have p s r.0 r.2.1.0 types) in
      made p valid results act acts s v more a u (op.Gc (gc.StructNewDefault x)) x g.0 (defaults (fields_in (expanded g.0))) g.1 answer (λ k. k) all g.2.0 g.2.1.0 g.2.1.2

  pub array_new_default_done : (x : ℕ) → Next (op.Gc (gc.ArrayNewDefault x)) → Given (op.Gc (gc.ArrayNewDefault x)) → Done (op.Gc (gc.ArrayNewDefault x))
  array_new_default_done x c h =
      let vs = act.innermost.values in
      let size = bits_of (get_or vs 0 nothing) in
      let g = there_some p (act ∷ acts) s a u (slice_get p.«module».types x) _ h in
      let inner : TypeTree → Fields → Move = λ t fs. takes p a (i32_type ∷ []) vs (λ us ws. asks (HaveDefaults fs) (goes p a act acts (ref_object a.made t ∷ ws) more)) in
      let outer : TypeTree → Move = λ t. found (array_fields (expanded t)) (inner t) in
      let answer : (execute p a act acts (plain (op.Gc (gc.ArrayNewDefault x)) more)).is_answer = found_answer (slice_get p.«module».types x) outer (λ t d. found_answer (array_fields (expanded t)) (inner t) (λ fs q. tt)) in
      let n = told p valid results act acts s v a (plain (op.Gc (gc.ArrayNewDefault x)) more) c answer in
      let q = found_needs {A = TypeTree} p results (slice_get p.«module».types x) outer n.0 n.1 in
      let same : q.0 ≡ g.0 = same_some q.0 g.0 (sym q.1 ∙ g.1) in
      let r = found_needs {A = Fields} p results (array_fields (expanded q.0)) (inner q.0) q.2 q.3 in
      let y = array_is (expanded q.0) r.0 r.1 in
      let is : expanded g.0 ≡ array_of y.0 = sym (ap (λ (t : TypeTree). expanded t) same) ∙ y.1 in
      let types : All (EachValue IsStandardType) (operands_of (y.0 ∷ [])) = subst (λ (z : InnerOf TypeTree). All (EachValue IsStandardType) (operands_of (fields_in z))) is (fields_standard g.0 (valid.types x g.0 g.1)) in
      let have : HaveDefaults (y.0 ∷ []) = subst (λ (fs : Fields). HaveDefaults fs) y.2 r.2.1.0 in
      let one = (defaults_have p s (y.0 ∷ []) have types).0 in
      let many = each_replicate (HasField p s y.0) size (get_or (defaults (y.0 ∷ [])) 0 nothing) one in
      let all : FieldsFit p s (expanded g.0) (replicate size (get_or (defaults (fields_in (expanded g.0))) 0 nothing)) =
      subst (λ (z : InnerOf TypeTree). FieldsFit p s z (replicate size (get_or (defaults (fields_in z)) 0 nothing))) (sym is) many in
      made p valid results act acts s v more a u (op.Gc (gc.ArrayNewDefault x)) x g.0 (replicate size (get_or (defaults (fields_in (expanded g.0))) 0 nothing)) g.1 answer (λ k. k) all g.2.0 g.2.1.0 g.2.1.2
