-- Structures and arrays that a constant makes, and operands for them.
use Rattle.std.proofs.Common.{◌≡◌, ◌∙◌, ℕ, suc, ◌+◌, Bool, true, false, List, [], ◌∷◌, ◌++◌, Option, None, Some, refl, sym, ap, subst, arith, length, map, reverse, replicate, slice_get}
use Rattle.std.proofs.lemmas.List.{append_assoc, map-append, reverse-append}
use Rattle.std.proofs.lemmas.Option.{get_or_from_slice_get}
use Rattle.std.specs.Prelude.{◌&&◌, is_some, not, option_map, option_and_then, if◌then◌else◌}
use Rattle.wasm_types.specs.decoding.Leb.{u32}
use Rattle.wasm_types.specs.decoding.Numbers.{GivesAt}
use Rattle.wasm_types.specs.settings.Settings.{Settings}
use Rattle.wasm_types.specs.settings.Features.{CustomDescriptors, Gc as gc_feature, has}
use Rattle.wasm_types.specs.trees.Gates.{Has}
use Rattle.wasm_types.specs.trees.Below.{Below, expanded, is_shared}
use Rattle.wasm_types.specs.trees.Types.{EntryOf, FieldOf, concrete, i32, number, ref}
use Rattle.wasm_types.specs.trees.Trees.{TypeTree, opened}
use Rattle.wasm_types.specs.trees.declared.index.UnpackedIndex.{UnpackedIndex}
use Rattle.wasm_types.specs.values.Reference.{Reference}
use Rattle.wasm_types.specs.values.ValueKinds.{is_defaultable_type}
use Rattle.wasm_types.specs.values.declared.value.StorageType.{StorageType}
use Rattle.wasm_types.specs.values.declared.value.StorageType.TheVariants as storage
use Rattle.wasm_types.specs.values.declared.value.ValType.{ValType}
use Rattle.wasm_types.specs.values.declared.value.ValType.TheVariants as value
use Rattle.wasm_types.specs.fields.declared.field.FieldType.{FieldType}
use Rattle.wasm_types.specs.declared.composite.CompositeInnerType.{CompositeInnerType}
use Rattle.wasm_types.specs.declared.composite.CompositeInnerType.TheVariants as composite
use Rattle.wasm_types.specs.declared.sub_type.SubType.{SubType}
use Rattle.wasm_operators_immediates.specs.Kinds as kind
use Rattle.wasm_operators_immediates.specs.Immediates.{Count, Index}
use Rattle.wasm_operators_immediates.specs.declared.proposal.Proposal.TheVariants as proposal
use Rattle.wasm_operators_enums.specs.declared.gc.GcOperator.TheVariants as gc
use Rattle.wasm_operators_enums.specs.Op as op
use Rattle.wasm_operators_enums.specs.Op.{Op}
use Rattle.wasm_operators_encoding.specs.immediates.Immediates.{immediate}
use Rattle.wasm_operators_frequent.specs.Short.{BeginsPrefixed}
use Rattle.wasm_operators_frequent.proofs.ShortReading.{gives_as, is_told_with, is_told_with_two, prefixed_of}
use Rattle.wasm_operators_frequent.proofs.Carried.{index_of}
use Rattle.wasm_operator_validator_state.specs.laws.Operands.{all_below_refl, all_below_trans, all_below_under}
use Rattle.wasm_operator_validator_state.specs.resources.Meaning.{Meaning, entry_in, named_type, type_in}
use Rattle.wasm_operator_validator_rules.specs.Operands.{ValueType, Operand, known, all_known, AllBelow}
use Rattle.wasm_operator_validator_rules.specs.Context.{Context, defaultable, may_use}
use Rattle.wasm_operator_validator_rules.specs.Named.{used_type}
use Rattle.wasm_operator_validator_rules.specs.Aggregates.{Array, Struct, as_array, as_struct}
use Rattle.wasm_operator_validator_rules.specs.InstructionTypes.{◌⟶◌, allocated, element_of, i32_type, is_described, named, provided}
use Rattle.wasm_operator_validator_rules.specs.Places.{has_default, have_defaults, operands_for, unpacked}
use Rattle.wasm_module_validator_fast_constants.specs.Fields.{
  TypeAt,
  IsArray,
  IsStruct,
  MakesObject,
  are_defaultable,
  array_element,
  field_in,
  field_types,
  fields_in,
  is_defaultable_field,
  struct_fields,
  unpacked_field,
}
use Rattle.wasm_module_validator_fast_constants.specs.Steps.{MayTake, Nexts, RefersTo, tops, within_constant}
use Rattle.wasm_module_validator_fast_constants.proofs.Passing.{ToldAt, may, of_feature, put_next, takes_none, tops_more}

-- ---- types that are looked up

abbrev Looked : Meaning → ℕ → EntryOf TypeTree → Type 0
Looked m x e = ◌≡◌ {A = Option (EntryOf TypeTree)} (Some e) (option_map opened (slice_get m.«module».types x))

-- what was looked up is there
looked_at : (m : Meaning) (x : ℕ) (e : EntryOf TypeTree) → Looked m x e → (slice_get m.«module».types x ≡ Some (TypeAt m x)) × (opened (TypeAt m x) ≡ e)
looked_at m x e l = of (slice_get m.«module».types x) refl l
  where
    of : (o : Option TypeTree) → slice_get m.«module».types x ≡ o → ◌≡◌ {A = Option (EntryOf TypeTree)} (Some e) (option_map opened o)
        → (slice_get m.«module».types x ≡ Some (TypeAt m x)) × (opened (TypeAt m x) ≡ e)
    of None h k = cc
    of (Some t) h k =
        let is : TypeAt m x ≡ t = get_or_from_slice_get m.«module».types x t _ h in
        let o : e ≡ opened t = cc in
        (h ∙ ap (λ (u : TypeTree). Some u) (sym is), ap opened is ∙ sym o)

-- a constant may use it
used : (bits : ℕ) (m : Meaning) (t : ValueType) (x : ℕ) (e : EntryOf TypeTree) → Looked m x e → used_type (within_constant bits m.«module» t) x ≡ Some (TypeAt m x)
used bits m t x e l =
    let c = within_constant bits m.«module» t in
    ap (λ (o : Option TypeTree). option_and_then (λ u. if may_use c (is_shared u) then Some u else None) o) (looked_at m x e l).0
    ∙ ap (λ (b : Bool). if b then Some (TypeAt m x) else None) (may bits m.«module» t (is_shared (TypeAt m x)))

fields_are : (m : Meaning) (t : SubType) → as_struct (entry_in m t).inner ≡ option_map (fields_in m) (struct_fields t.composite_type.inner)
fields_are m t = of t.composite_type.inner refl
  where
    of : (i : CompositeInnerType) → t.composite_type.inner ≡ i → as_struct (entry_in m t).inner ≡ option_map (fields_in m) (struct_fields i)
    of (composite.Func f) e = rw e refl
    of (composite.Array f) e = rw e refl
    of (composite.Struct f) e = rw e refl
    of (composite.Cont f) e = rw e refl

element_is : (m : Meaning) (t : SubType) → as_array (entry_in m t).inner ≡ option_map (field_in m) (array_element t.composite_type.inner)
element_is m t = of t.composite_type.inner refl
  where
    of : (i : CompositeInnerType) → t.composite_type.inner ≡ i → as_array (entry_in m t).inner ≡ option_map (field_in m) (array_element i)
    of (composite.Func f) e = rw e refl
    of (composite.Array f) e = rw e refl
    of (composite.Struct f) e = rw e refl
    of (composite.Cont f) e = rw e refl

none_named : (m : Meaning) (o : Option UnpackedIndex) → is_some o ≡ false → option_map (named_type m) o ≡ None
none_named m None e = refl
none_named m (Some i) e = cc

pub struct_found : (m : Meaning) (x : ℕ) (t : SubType) (fs : List FieldType) → Looked m x (entry_in m t) → is_some t.composite_type.descriptor_idx ≡ false
    → Some fs ≡ struct_fields t.composite_type.inner → IsStruct m x fs
struct_found m x t fs l none e = record {
  named = λ bits u.
      ap (λ (v : Option TypeTree). option_and_then (λ t. option_map (λ xs. record { type = t; fields = xs }) (as_struct (expanded t))) v) (used bits m u x (entry_in m t) l)
      ∙ ap (λ (v : EntryOf TypeTree). option_map (λ xs. record { type = TypeAt m x; fields = xs }) (as_struct v.inner)) (looked_at m x (entry_in m t) l).1
      ∙ ap (λ (v : Option (List (FieldOf TypeTree))). option_map (λ xs. record { type = TypeAt m x; fields = xs }) v)
      (fields_are m t ∙ ap (λ (v : Option (List FieldType)). option_map (fields_in m) v) (sym e));
  undescribed = ap (λ (v : EntryOf TypeTree). v.descriptor) (looked_at m x (entry_in m t) l).1 ∙ none_named m t.composite_type.descriptor_idx none;
}

pub array_found : (m : Meaning) (x : ℕ) (t : SubType) (f : FieldType) → Looked m x (entry_in m t) → Some f ≡ array_element t.composite_type.inner → IsArray m x f
array_found m x t f l e bits u =
    ap (λ (v : Option TypeTree). option_and_then (λ t. option_map (λ y. record { type = t; element = y }) (as_array (expanded t))) v) (used bits m u x (entry_in m t) l)
    ∙ ap (λ (v : EntryOf TypeTree). option_map (λ y. record { type = TypeAt m x; element = y }) (as_array v.inner)) (looked_at m x (entry_in m t) l).1
    ∙ ap (λ (v : Option (FieldOf TypeTree)). option_map (λ y. record { type = TypeAt m x; element = y }) v)
    (element_is m t ∙ ap (λ (v : Option FieldType). option_map (field_in m) v) (sym e))

-- ---- what is stored

unpacked_in : (m : Meaning) (f : FieldType) → unpacked (field_in m f).storage ≡ type_in m (unpacked_field f)
unfolding type_in
unpacked_in m f = of f.element_type refl
  where
    of : (s : StorageType) → f.element_type ≡ s → unpacked (field_in m f).storage ≡ type_in m (unpacked_field f)
    of storage.I8 e = rw e refl
    of storage.I16 e = rw e refl
    of (storage.Val t) e = rw e refl

defaultable_in : (m : Meaning) (t : ValType) → defaultable (type_in m t) ≡ is_defaultable_type t
unfolding type_in
defaultable_in m value.I32 = refl
defaultable_in m value.I64 = refl
defaultable_in m value.F32 = refl
defaultable_in m value.F64 = refl
defaultable_in m value.V128 = refl
defaultable_in m (value.Ref r) = refl

default_in : (m : Meaning) (f : FieldType) → has_default (field_in m f) ≡ is_defaultable_field f
default_in m f = ap defaultable (unpacked_in m f) ∙ defaultable_in m (unpacked_field f)

operands_in : (m : Meaning) (fs : List FieldType) → operands_for (fields_in m fs) ≡ field_types m fs
operands_in m [] = refl
operands_in m (f ∷ fs) =
    ap (λ (t : ValueType). t ∷ operands_for (fields_in m fs)) (unpacked_in m f) ∙ ap (λ (ts : List ValueType). type_in m (unpacked_field f) ∷ ts) (operands_in m fs)

defaults_in : (m : Meaning) (fs : List FieldType) → have_defaults (fields_in m fs) ≡ are_defaultable fs
defaults_in m [] = refl
defaults_in m (f ∷ fs) = ap (λ (b : Bool). b && have_defaults (fields_in m fs)) (default_in m f) ∙ ap (λ (b : Bool). is_defaultable_field f && b) (defaults_in m fs)

-- ---- operands that are taken

pub may_then : (s ts r us q : List ValueType) → MayTake s ts r → MayTake r us q → MayTake s (us ++ ts) q
may_then s ts r us q h k =
    let parts : reverse (all_known ts) ++ (reverse (all_known us) ++ all_known q) ≡ reverse (all_known us ++ all_known ts) ++ all_known q
    = sym (append_assoc (reverse (all_known ts)) (reverse (all_known us)) (all_known q)) ∙ ap (λ (xs : List Operand). xs ++ all_known q) (sym (reverse-append (all_known us) (all_known ts))) in
    let whole : reverse (all_known ts) ++ (reverse (all_known us) ++ all_known q) ≡ reverse (all_known (us ++ ts)) ++ all_known q
    = parts ∙ ap (λ (xs : List Operand). reverse xs ++ all_known q) (sym (map-append known us ts)) in
    subst (λ (xs : List Operand). AllBelow (all_known s) xs) whole
    (all_below_trans (all_known s) (reverse (all_known ts) ++ all_known r) (reverse (all_known ts) ++ (reverse (all_known us) ++ all_known q)) h
    (all_below_under (reverse (all_known ts)) (all_known r) (reverse (all_known us) ++ all_known q) k))

module _ (m : Meaning) where
  pub one_taken : (before left : List ValType) (top : ValType) (t : ValueType) → before ≡ left ++ top ∷ [] → Below (type_in m top) t → MayTake (tops m before) (t ∷ []) (tops m left)
  one_taken before left top t e below =
      let all : tops m before ≡ type_in m top ∷ tops m left = ap (tops m) e ∙ tops_more m left top in
      subst (λ (s : List ValueType). MayTake s (t ∷ []) (tops m left)) (sym all) (below, all_below_refl (all_known (tops m left)))

  -- what the rest of the fields may take, all may
  abbrev pub TakesRest : List ValType → List FieldType → List ValType → List FieldType → Type 0
  TakesRest before all now rest = (r : List ValueType) → MayTake (tops m now) (field_types m rest) r → MayTake (tops m before) (field_types m all) r

  pub rest_more : (before now later : List ValType) (all left rest : List FieldType) (last : FieldType) (u : ValType) → TakesRest before all now left → left ≡ rest ++ last ∷ []
      → u ≡ unpacked_field last → MayTake (tops m now) (type_in m u ∷ []) (tops m later) → TakesRest before all later rest
  rest_more before now later all left rest last u h e is taken r k =
      let types : field_types m left ≡ field_types m rest ++ type_in m u ∷ []
      = ap (field_types m) e ∙ ap (map (type_in m)) (map-append unpacked_field rest (last ∷ [])) ∙ map-append (type_in m) (map unpacked_field rest) (unpacked_field last ∷ [])
      ∙ ap (λ (t : ValType). field_types m rest ++ type_in m t ∷ []) (sym is) in
      h r (subst (λ (ts : List ValueType). MayTake (tops m now) ts r) (sym types) (may_then (tops m now) (type_in m u ∷ []) (tops m later) (field_types m rest) r taken k))

  pub rest_none : (before now : List ValType) (all left : List FieldType) → TakesRest before all now left → left ≡ [] → MayTake (tops m before) (field_types m all) (tops m now)
  rest_none before now all left h e = h (tops m now) (subst (λ (fs : List FieldType). MayTake (tops m now) (field_types m fs) (tops m now)) (sym e) (takes_none (tops m now)))

  pub same_more : (before now later : List ValType) (t : ValueType) (n : ℕ) → MayTake (tops m before) (replicate n t) (tops m now) → MayTake (tops m now) (t ∷ []) (tops m later)
      → MayTake (tops m before) (replicate (n + 1) t) (tops m later)
  same_more before now later t n h k =
      let e : suc n ≡ n + 1 = omega arith in
      subst (λ (c : ℕ). MayTake (tops m before) (replicate c t) (tops m later)) e (may_then (tops m before) (replicate n t) (tops m now) (t ∷ []) (tops m later) h k)

-- ---- objects

allocated_is : (g : Context) (k : TypeTree) → has CustomDescriptors g.bits ≡ false → allocated g k ≡ ref false (concrete k)
allocated_is g k off = rw off refl

module _ (m : Meaning) (x : ℕ) (before left : List ValType) where
  pub makes_struct : (fs : List FieldType) → IsStruct m x fs → MayTake (tops m before) (field_types m fs) (tops m left) → MakesObject m 0 x [] before left
  makes_struct fs h may = record {
    operator = gc.StructNew x;
    opcode = refl;
    asks = refl;
    carries = refl;
    constant = λ bits allowed. allowed;
    takes = field_types m fs;
    row = λ g popped pushed r. r;
    table = λ bits t off.
        let c = within_constant bits m.«module» t in
        ap (λ (s : Option Struct). named s (λ s. provided (not (is_described s)) (operands_for s.fields ⟶ allocated c s.type ∷ []))) (h.named bits t)
        ∙ ap (λ (d : Option TypeTree). provided (not (is_some d)) (operands_for (fields_in m fs) ⟶ allocated c (TypeAt m x) ∷ [])) h.undescribed
        ∙ ap (λ (ts : List ValueType). Some (ts ⟶ allocated c (TypeAt m x) ∷ [])) (operands_in m fs)
        ∙ ap (λ (u : ValueType). Some (field_types m fs ⟶ u ∷ [])) (allocated_is c (TypeAt m x) off);
    may = may;
  }

  pub makes_array : (f : FieldType) (middle : List ValType) → IsArray m x f → MayTake (tops m before) (type_in m value.I32 ∷ []) (tops m middle)
      → MayTake (tops m middle) (type_in m (unpacked_field f) ∷ []) (tops m left) → MakesObject m 6 x [] before left
  unfolding type_in
  makes_array f middle h first second = record {
    operator = gc.ArrayNew x;
    opcode = refl;
    asks = refl;
    carries = refl;
    constant = λ bits allowed. allowed;
    takes = type_in m (unpacked_field f) ∷ number i32 ∷ [];
    row = λ g popped pushed r. r;
    table = λ bits t off.
        let c = within_constant bits m.«module» t in
        ap (λ (a : Option Array). named a (λ a. Some (element_of a ∷ i32_type ∷ [] ⟶ allocated c a.type ∷ []))) (h bits t)
        ∙ ap (λ (u : ValueType). Some (u ∷ i32_type ∷ [] ⟶ allocated c (TypeAt m x) ∷ [])) (unpacked_in m f)
        ∙ ap (λ (u : ValueType). Some (type_in m (unpacked_field f) ∷ i32_type ∷ [] ⟶ u ∷ [])) (allocated_is c (TypeAt m x) off);
    may = may_then (tops m before) (number i32 ∷ []) (tops m middle) (type_in m (unpacked_field f) ∷ []) (tops m left) first second;
  }

  pub makes_default_array : (f : FieldType) → IsArray m x f → is_defaultable_field f ≡ true → MayTake (tops m before) (type_in m value.I32 ∷ []) (tops m left) → MakesObject m 7 x [] before left
  unfolding type_in
  makes_default_array f h default taken = record {
    operator = gc.ArrayNewDefault x;
    opcode = refl;
    asks = refl;
    carries = refl;
    constant = λ bits allowed. allowed;
    takes = number i32 ∷ [];
    row = λ g popped pushed r. r;
    table = λ bits t off.
        let c = within_constant bits m.«module» t in
        ap (λ (a : Option Array). named a (λ a. provided (has_default a.element) (i32_type ∷ [] ⟶ allocated c a.type ∷ []))) (h bits t)
        ∙ ap (λ (b : Bool). provided b (i32_type ∷ [] ⟶ allocated c (TypeAt m x) ∷ [])) (default_in m f ∙ default)
        ∙ ap (λ (u : ValueType). Some (i32_type ∷ [] ⟶ u ∷ [])) (allocated_is c (TypeAt m x) off);
    may = taken;
  }

  pub makes_counted_array : (f : FieldType) (n : ℕ) → IsArray m x f → MayTake (tops m before) (replicate n (type_in m (unpacked_field f))) (tops m left)
      → MakesObject m 8 x (Count n ∷ []) before left
  makes_counted_array f n h taken = record {
    operator = gc.ArrayNewFixed x n;
    opcode = refl;
    asks = refl;
    carries = refl;
    constant = λ bits allowed. allowed;
    takes = replicate n (type_in m (unpacked_field f));
    row = λ g popped pushed r. r;
    table = λ bits t off.
        let c = within_constant bits m.«module» t in
        ap (λ (a : Option Array). named a (λ a. Some (replicate n (element_of a) ⟶ allocated c a.type ∷ []))) (h bits t)
        ∙ ap (λ (u : ValueType). Some (replicate n u ⟶ allocated c (TypeAt m x) ∷ [])) (unpacked_in m f)
        ∙ ap (λ (u : ValueType). Some (replicate n (type_in m (unpacked_field f)) ⟶ u ∷ [])) (allocated_is c (TypeAt m x) off);
    may = taken;
  }

pub makes_default_struct : (m : Meaning) (x : ℕ) (before : List ValType) (fs : List FieldType) → IsStruct m x fs → are_defaultable fs ≡ true → MakesObject m 1 x [] before before
makes_default_struct m x before fs h defaults = record {
  operator = gc.StructNewDefault x;
  opcode = refl;
  asks = refl;
  carries = refl;
  constant = λ bits allowed. allowed;
  takes = [];
  row = λ g popped pushed r. r;
  table = λ bits t off.
      let c = within_constant bits m.«module» t in
      ap (λ (s : Option Struct). named s (λ s. provided (not (is_described s) && have_defaults s.fields) ([] ⟶ allocated c s.type ∷ []))) (h.named bits t)
      ∙ ap (λ (d : Option TypeTree). provided (not (is_some d) && have_defaults (fields_in m fs)) ([] ⟶ allocated c (TypeAt m x) ∷ [])) h.undescribed
      ∙ ap (λ (b : Bool). provided b ([] ⟶ allocated c (TypeAt m x) ∷ [])) (defaults_in m fs ∙ defaults)
      ∙ ap (λ (u : ValueType). Some ([] ⟶ u ∷ [])) (allocated_is c (TypeAt m x) off);
  may = takes_none (tops m before);
}

-- ---- the operators

count_of : (settings : Settings) (text : List ℕ) (i e n : ℕ) → GivesAt u32 text i n e → GivesAt (immediate settings kind.Count) text i (Count n) e
unfolding immediate
count_of settings text i e n g = gives_as u32 text i n Count e g

module _ (bits : ℕ) (m : Meaning) (text : List ℕ) (i n : ℕ) (code x : ℕ) (before left behind : List ValType) (r : Reference) (begins : BeginsPrefixed text i 0xfb code n)
    (allowed : Has bits gc_feature) (off : has CustomDescriptors bits ≡ false) (refers : RefersTo m x false r) (put : behind ≡ left ++ value.Ref r ∷ []) where
  pub object_next : (e : ℕ) → GivesAt u32 text n x e → MakesObject m code x [] before left → Nexts bits m text i before e behind
  object_next e read h =
      let o = op.Gc h.operator in
      let u : ValueType = ref false (concrete (TypeAt m x)) in
      let told : ToldAt text i e o = λ features. is_told_with features text i n o (prefixed_of text i 0xfb code code n begins refl refl o h.opcode) (λ (q : Op). q ≡ o) refl refl refl
      (Index kind.Types x) e h.carries (λ limits. index_of _ _ _ _ kind.Types x read) in
      put_next bits m text i e before o u left behind (value.Ref r) h.takes told refl refl (λ count. h.constant bits allowed)
      (of_feature bits o proposal.Gc gc_feature h.asks refl refl allowed) (λ t set. h.row (within_constant bits m.«module» t) _ _ (h.takes ⟶ u ∷ [], h.table bits t off, (refl, refl))) h.may refers.1 put

  pub counted_next : (l e c : ℕ) → GivesAt u32 text n x l → GivesAt u32 text l c e → MakesObject m code x (Count c ∷ []) before left → Nexts bits m text i before e behind
  counted_next l e c read counted h =
      let o = op.Gc h.operator in
      let u : ValueType = ref false (concrete (TypeAt m x)) in
      let told : ToldAt text i e o = λ features. is_told_with_two features text i n o (prefixed_of text i 0xfb code code n begins refl refl o h.opcode) (λ (q : Op). q ≡ o) refl refl refl
      (Index kind.Types x) (Count c) l e h.carries (λ limits. index_of _ _ _ _ kind.Types x read) (λ limits. count_of _ text l e c counted) in
      put_next bits m text i e before o u left behind (value.Ref r) h.takes told refl refl (λ count. h.constant bits allowed)
      (of_feature bits o proposal.Gc gc_feature h.asks refl refl allowed) (λ t set. h.row (within_constant bits m.«module» t) _ _ (h.takes ⟶ u ∷ [], h.table bits t off, (refl, refl))) h.may refers.1 put

pub none_left : {X : Type 0} (xs : List X) → length xs ≡ 0 → xs ≡ []
none_left [] e = refl
none_left (x ∷ xs) e = absurd (omega (arith, e))
