-- Operators of constants by their bytes and by the rules.
use Rattle.std.proofs.Common.{◌≡◌, ◌≤◌, ◌<◌, ◌∙◌, ℕ, ℤ, ◌+◌, ◌-◌, ◌^◌, pos, get_or, inr, append-nil, Bool, true, false, List, [], ◌∷◌, ◌++◌, Some, IsTrue, refl, sym, ap, subst, arith, length, map, reverse, drop, slice_get, eqb-true, bit_and}
use Rattle.std.proofs.lemmas.List.{drop-drop, drop_more, map-append, reverse-append}
use Rattle.std.specs.Prelude.{option_map}
use Rattle.wasm_types.specs.decoding.Decoder.{State}
use Rattle.wasm_types.specs.decoding.Leb.{IsSigned, s32, s33, s64, u32}
use Rattle.wasm_types.specs.decoding.Text.{word}
use Rattle.wasm_types.specs.reader.declared.words.Ieee32.{Ieee32}
use Rattle.wasm_types.specs.reader.declared.words.Ieee64.{Ieee64}
use Rattle.wasm_types.specs.decoding.SignedLaws.{decides-s33}
use Rattle.wasm_types.specs.decoding.Numbers.{behind, GivesAt}
use Rattle.wasm_types.specs.settings.Settings.{Settings, no_features}
use Rattle.wasm_types.specs.settings.Features.{Feature, has, mask, ExtendedConst, Floats, ReferenceTypes, Gc as gc_feature}
use Rattle.wasm_types.specs.trees.Gates.{Has}
use Rattle.wasm_types.specs.trees.laws.Below.{below_reflexive}
use Rattle.wasm_types.specs.trees.Types.{f32, f64, i32, i64, number, ref, abstract, concrete, HeapOf, i31}
use Rattle.wasm_types.specs.trees.Trees.{TypeTree}
use Rattle.wasm_types.specs.trees.ValidGroup.{type_at}
use Rattle.wasm_types.specs.trees.declared.index.UnpackedIndex.TheVariants as index
use Rattle.wasm_types.specs.externs.declared.global.GlobalType.{GlobalType}
use Rattle.wasm_types.specs.values.Reference.{Reference}
use Rattle.wasm_types.specs.values.declared.heap.AbstractHeapType.{AbstractHeapType}
use Rattle.wasm_types.specs.values.declared.heap.HeapType.{HeapType}
use Rattle.wasm_types.specs.values.declared.heap.HeapType.TheVariants.{Abstract, Concrete}
use Rattle.wasm_types.specs.values.Spells.{abstract_byte}
use Rattle.wasm_types.specs.values.Trees.{abstract_of}
use Rattle.wasm_types.specs.values.declared.value.ValType.{ValType}
use Rattle.wasm_types.specs.values.declared.value.ValType.TheVariants as value
use Rattle.wasm_operators_immediates.specs.Info.{features_of}
use Rattle.wasm_operators_immediates.specs.Kinds as kind
use Rattle.wasm_operators_immediates.specs.Immediates.{F32Constant, F64Constant, Index, I32Constant, I64Constant}
use Rattle.wasm_operators_immediates.specs.declared.proposal.Proposal.{Proposal}
use Rattle.wasm_operators_immediates.specs.declared.proposal.Proposal.TheVariants as proposal
use Rattle.wasm_operators_enums.specs.declared.bulk.BulkOperator.TheVariants as bulk
use Rattle.wasm_operators_enums.specs.declared.constant.ConstOperator.TheVariants as constant
use Rattle.wasm_operators_enums.specs.declared.gc.GcOperator.TheVariants as gc
use Rattle.wasm_operators_enums.specs.declared.memory.MemoryOperator.TheVariants as memory
use Rattle.wasm_operators_enums.specs.Op as op
use Rattle.wasm_operators_enums.specs.Op.{Op}
use Rattle.wasm_operators_enums.specs.Immediates.{is_canonical}
use Rattle.wasm_operators_enums.specs.Table.{info_of}
use Rattle.wasm_operators_enums.specs.Roles.{role_of}
use Rattle.wasm_operators_enums.specs.declared.role.Role.TheVariants.{Plain}
use Rattle.wasm_operators_encoding.specs.Coded.{operator}
use Rattle.wasm_operators_encoding.specs.Operators.{coded_of, SpelledOperator}
use Rattle.wasm_operators_encoding.specs.expressions.SpellingLaws.{read_spelled}
use Rattle.wasm_operators_frequent.specs.Short.{Begins, BeginsPrefixed, IsTold}
use Rattle.wasm_operators_frequent.proofs.ShortReading.{told_with, told_alone, is_told, prefixed_of, opcode_is, low_is_no_prefix}
use Rattle.wasm_operators_frequent.proofs.Carried.{f32_of, f64_of, index_of, i32_of, i64_of}
use Rattle.wasm_operator_validator_state.specs.laws.Entering.{nothing_asked}
use Rattle.wasm_operator_validator_state.specs.laws.Operands.{all_below_refl}
use Rattle.wasm_operator_validator_state.specs.resources.Meaning.{Meaning, global_in, heap_in, type_in}
use Rattle.wasm_operator_validator_rules.specs.Operands.{ValueType, all_known}
use Rattle.wasm_operator_validator_rules.specs.Context.{Context, Module, Global, Initialised, IsType, may_use}
use Rattle.wasm_operator_validator_rules.specs.InstructionTypes.{◌⟶◌, global_at}
use Rattle.wasm_operator_validator_rules.specs.Numbers.{class_of, taken_by, given_by, numbers}
use Rattle.wasm_operator_validator_rules.specs.Row.{IsEnabled, GroupRow, names_float}
use Rattle.wasm_operator_validator_rules.specs.constants.Constants.{IsConstantOperator}
use Rattle.wasm_module_validator_resources.specs.rules_in_order.Between.{IsBetween}
use Rattle.wasm_module_validator_resources.specs.rules_in_order.BetweenLaws.{InTurn, in_turn, between_so}
use Rattle.wasm_module_validator_checks.specs.rules.Spaces.{referred_by}
use Rattle.wasm_module_validator_fast_constants.specs.Fields.{RefersToNumber}
use Rattle.wasm_module_validator_fast_constants.specs.Steps.{integer, integer_type, IsNullByte, IsSum, MayTake, RefersTo, tops, within_constant, IsNext, Nexts}

-- ---- bytes

-- an operator that is told whatever the features are
abbrev pub ToldAt : List ℕ → ℕ → ℕ → Op → Type 0
ToldAt text i j o = (features : ℕ) → IsTold features text i j (λ p. p ≡ o)

spelled_at : (z : Settings) (text : List ℕ) (i j : ℕ) (o : Op) → IsTrue (is_canonical o) → GivesAt (operator z) text i (coded_of o) j → IsBetween (SpelledOperator z o) text i j
spelled_at z text i j o canonical g =
    let (front, takes, spelled) = read_spelled z (record { rest = drop i text; place = 0; settings = z; start = 0 })
    (behind (j - i) (record { rest = drop i text; place = 0; settings = z; start = 0 })) o (g.gives _ refl) canonical in
    let whole : i + (j - i) ≡ j = omega (arith, g.forward) in
    record {
      front = front;
      whole = takes.parts ∙ ap (λ (r : List ℕ). front ++ r) (drop-drop (j - i) i text ∙ ap (λ (k : ℕ). drop k text) whole);
      place = omega (arith, takes.place, g.forward);
      inside = g.inside;
      such = spelled;
    }

pub told_between : (text : List ℕ) (i j : ℕ) (o : Op) → ToldAt text i j o → (z : Settings) → IsBetween (SpelledOperator z o) text i j
told_between text i j o told z =
    let t = told z.features in
    subst (λ (p : Op). IsBetween (SpelledOperator z p) text i j) t.told (spelled_at z text i j t.op t.canonical (t.reads z.limits))

pub told_forward : (text : List ℕ) (i j : ℕ) (o : Op) → ToldAt text i j o → i < j
told_forward text i j o told = let t = told 0 in (t.reads no_features.limits).forward

-- ---- features

pub has_mask : (bits : ℕ) (f : Feature) → Has bits f → bit_and bits (mask f) ≡ mask f
unfolding has
has_mask bits f h = eqb-true _ _ h

-- ---- one operator more

pub takes_none : (s : List ValueType) → MayTake s [] s
takes_none s = all_below_refl (all_known s)

module _ (bits : ℕ) (g : Module) (text : List ℕ) (i j : ℕ) (o : Op) where
  pub one_next : (ts : List ValueType) (u : ValueType) (before left : List ValueType) → i < j → ((z : Settings) → IsBetween (SpelledOperator z o) text i j) → role_of o ≡ Plain → referred_by o ≡ []
      → ((count : ℕ) → IsConstantOperator bits g count o) → IsEnabled bits o
      → ((t : ValueType) (set : Initialised) → GroupRow (within_constant bits g t) set o (all_known ts) (all_known (u ∷ [])))
      → MayTake before ts left → IsNext bits g text i before j (u ∷ left)
  one_next ts u before left forward spelled plain quiet constant enabled row below = record {
    op = o;
    plain = plain;
    forward = forward;
    spelled = spelled;
    constant = constant;
    typed = λ t set. (all_known ts, all_known (u ∷ []), all_known left, (enabled, row t set), below, refl);
    quiet = quiet;
  }

-- ---- integers

-- one more on top
pub tops_more : (m : Meaning) (ts : List ValType) (t : ValType) → tops m (ts ++ t ∷ []) ≡ type_in m t ∷ tops m ts
tops_more m ts t = ap reverse (map-append (type_in m) ts (t ∷ [])) ∙ reverse-append (map (type_in m) ts) (type_in m t ∷ [])

pub integer_is : (m : Meaning) (wide : Bool) → type_in m (integer_type wide) ≡ number (integer wide)
unfolding type_in
integer_is m true = refl
integer_is m false = refl

floats_are : (m : Meaning) → (type_in m value.F32 ≡ number f32) × (type_in m value.F64 ≡ number f64)
unfolding type_in
floats_are m = (refl, refl)

global_type : (c : Context) (x : ℕ) (v : Global) → slice_get c.«module».globals x ≡ Some v → may_use c v.shared ≡ true
    → global_at c x (λ w. Some ([] ⟶ w.content ∷ [])) ≡ Some ([] ⟶ v.content ∷ [])
global_type c x v there may = rw (there, may) refl

pub may : (bits : ℕ) (g : Module) (t : ValueType) (s : Bool) → may_use (within_constant bits g t) s ≡ true
may bits g t true = refl
may bits g t false = refl

-- of an operator of the first release
first_release : (bits : ℕ) (o : Op) → (info_of o).proposal ≡ proposal.Mvp → names_float o ≡ false → IsEnabled bits o
first_release bits o is no_float = record {
  proposal = subst (λ (p : Proposal). bit_and bits (features_of p) ≡ features_of p) (sym is) (nothing_asked bits);
  floats = λ t. let d : false ≡ true = sym no_float ∙ t in absurd cc;
}

pub of_feature : (bits : ℕ) (o : Op) (p : Proposal) (f : Feature) → (info_of o).proposal ≡ p → features_of p ≡ mask f → names_float o ≡ false → Has bits f → IsEnabled bits o
of_feature bits o p f is same no_float h = record {
  proposal =
      subst (λ (q : Proposal). bit_and bits (features_of q) ≡ features_of q) (sym is) (subst (λ (k : ℕ). bit_and bits k ≡ k) (sym same) (has_mask bits f h));
  floats = λ t. let d : false ≡ true = sym no_float ∙ t in absurd cc;
}

module _ (bits : ℕ) (m : Meaning) (text : List ℕ) (i j : ℕ) (before : List ValType) where
  -- an operator that puts a type on top of the others
  put_spelled : (o : Op) (u : ValueType) (left behind : List ValType) (ty : ValType) (ts : List ValueType) → i < j → ((z : Settings) → IsBetween (SpelledOperator z o) text i j) → role_of o ≡ Plain → referred_by o ≡ []
      → ((count : ℕ) → IsConstantOperator bits m.«module» count o) → IsEnabled bits o
      → ((t : ValueType) (set : Initialised) → GroupRow (within_constant bits m.«module» t) set o (all_known ts) (all_known (u ∷ [])))
      → MayTake (tops m before) ts (tops m left) → type_in m ty ≡ u → behind ≡ left ++ ty ∷ [] → Nexts bits m text i before j behind
  put_spelled o u left behind ty ts forward spelled plain quiet constant enabled row below is put =
      let all : tops m behind ≡ u ∷ tops m left = ap (tops m) put ∙ tops_more m left ty ∙ ap (λ (t : ValueType). t ∷ tops m left) is in
      subst (λ (s : List ValueType). IsNext bits m.«module» text i (tops m before) j s) (sym all)
      (one_next bits m.«module» text i j o ts u (tops m before) (tops m left) forward spelled plain quiet constant enabled row below)

  -- the same of one that is told
  pub put_next : (o : Op) (u : ValueType) (left behind : List ValType) (ty : ValType) (ts : List ValueType) → ToldAt text i j o → role_of o ≡ Plain → referred_by o ≡ []
      → ((count : ℕ) → IsConstantOperator bits m.«module» count o) → IsEnabled bits o
      → ((t : ValueType) (set : Initialised) → GroupRow (within_constant bits m.«module» t) set o (all_known ts) (all_known (u ∷ [])))
      → MayTake (tops m before) ts (tops m left) → type_in m ty ≡ u → behind ≡ left ++ ty ∷ [] → Nexts bits m text i before j behind
  put_next o u left behind ty ts told = put_spelled o u left behind ty ts (told_forward text i j o told) (told_between text i j o told)

  pub i32_next : (v : ℤ) (behind : List ValType) → Begins text i 0x41 → GivesAt s32 text (i + 1) v j → behind ≡ before ++ value.I32 ∷ [] → Nexts bits m text i before j behind
  i32_next v behind begins read put =
      let o = op.Const (constant.I32Const v) in
      let told : ToldAt text i j o = λ features. told_with features text i 0x41 65 begins refl o refl refl _ refl refl refl (I32Constant v) j refl (λ limits. i32_of _ _ _ _ v read) in
      put_next o (number i32) before behind value.I32 [] told refl refl (λ count. tt) (first_release bits o refl refl)
      (λ t set. ([] ⟶ number i32 ∷ [], refl, (refl, refl))) (takes_none (tops m before)) (integer_is m false) put

  pub i64_next : (v : ℤ) (behind : List ValType) → Begins text i 0x42 → GivesAt s64 text (i + 1) v j → behind ≡ before ++ value.I64 ∷ [] → Nexts bits m text i before j behind
  i64_next v behind begins read put =
      let o = op.Const (constant.I64Const v) in
      let told : ToldAt text i j o = λ features. told_with features text i 0x42 66 begins refl o refl refl _ refl refl refl (I64Constant v) j refl (λ limits. i64_of _ _ _ _ v read) in
      put_next o (number i64) before behind value.I64 [] told refl refl (λ count. tt) (first_release bits o refl refl)
      (λ t set. ([] ⟶ number i64 ∷ [], refl, (refl, refl))) (takes_none (tops m before)) (integer_is m true) put

  pub f32_next : (v : Ieee32) (behind : List ValType) → Begins text i 0x43 → GivesAt (word 4) text (i + 1) v.0 j → Has bits Floats → behind ≡ before ++ value.F32 ∷ []
      → Nexts bits m text i before j behind
  f32_next v behind begins read allowed put =
      let o = op.Const (constant.F32Const v) in
      let told : ToldAt text i j o = λ features. told_with features text i 0x43 67 begins refl o refl refl _ refl refl refl (F32Constant v) j refl (λ limits. f32_of _ _ _ _ v read) in
      put_next o (number f32) before behind value.F32 [] told refl refl (λ count. tt) (record { proposal = nothing_asked bits; floats = λ t. allowed })
      (λ t set. ([] ⟶ number f32 ∷ [], refl, (refl, refl))) (takes_none (tops m before)) (floats_are m).0 put

  pub f64_next : (v : Ieee64) (behind : List ValType) → Begins text i 0x44 → GivesAt (word 8) text (i + 1) v.0 j → Has bits Floats → behind ≡ before ++ value.F64 ∷ []
      → Nexts bits m text i before j behind
  f64_next v behind begins read allowed put =
      let o = op.Const (constant.F64Const v) in
      let told : ToldAt text i j o = λ features. told_with features text i 0x44 68 begins refl o refl refl _ refl refl refl (F64Constant v) j refl (λ limits. f64_of _ _ _ _ v read) in
      put_next o (number f64) before behind value.F64 [] told refl refl (λ count. tt) (record { proposal = nothing_asked bits; floats = λ t. allowed })
      (λ t set. ([] ⟶ number f64 ∷ [], refl, (refl, refl))) (takes_none (tops m before)) (floats_are m).1 put

  -- two integers are taken, one is put
  pub sum_next : (code : ℕ) (wide : Bool) (middle left behind : List ValType) → Begins text i code → IsSum code wide → Has bits ExtendedConst → j ≡ i + 1
      → before ≡ middle ++ integer_type wide ∷ [] → middle ≡ left ++ integer_type wide ∷ [] → behind ≡ left ++ integer_type wide ∷ [] → Nexts bits m text i before j behind
  sum_next code wide middle left behind begins s allowed at first second put =
      let o = op.Numeric s.operator in
      let n : ValueType = number (integer wide) in
      let told : ToldAt text i (i + 1) o = λ features. told_alone features text i code code begins refl o (opcode_is o code s.prefix_is s.code_is) (low_is_no_prefix code s.low) _ refl refl refl refl in
      let two : tops m before ≡ n ∷ n ∷ tops m left
      = ap (tops m) first ∙ tops_more m middle (integer_type wide) ∙ ap (λ (t : ValueType). t ∷ tops m middle) (integer_is m wide)
      ∙ ap (λ (r : List ValueType). n ∷ r) (ap (tops m) second ∙ tops_more m left (integer_type wide) ∙ ap (λ (t : ValueType). t ∷ tops m left) (integer_is m wide)) in
      let takes : MayTake (n ∷ n ∷ tops m left) (n ∷ n ∷ []) (tops m left) = (below_reflexive n, (below_reflexive n, all_below_refl (all_known (tops m left)))) in
      put_next o n left behind (integer_type wide) (n ∷ n ∷ []) (subst (λ (e : ℕ). ToldAt text i e o) (sym at) told) refl refl (λ count. s.constant bits allowed)
      (first_release bits o s.proposal_is s.no_float)
      (λ t set. (numbers (taken_by (class_of s.operator)) ⟶ numbers (given_by (class_of s.operator)), refl, (ap all_known (sym s.taken), ap all_known (sym s.given))))
      (subst (λ (r : List ValueType). MayTake r (n ∷ n ∷ []) (tops m left)) (sym two) takes) (integer_is m wide) put

  -- a global that is never written
  pub global_next : (x : ℕ) (v : GlobalType) (behind : List ValType) → Begins text i 0x23 → GivesAt u32 text (i + 1) x j → Has bits gc_feature
      → option_map (global_in m) (Some v) ≡ slice_get m.«module».globals x → v.mutable ≡ false → behind ≡ before ++ v.content_type ∷ [] → Nexts bits m text i before j behind
  global_next x v behind begins read allowed there kept put =
      let o = op.Memory (memory.GlobalGet x) in
      let w = global_in m v in
      let told : ToldAt text i j o = λ features. told_with features text i 0x23 35 begins refl o refl refl _ refl refl refl (Index kind.Globals x) j refl (λ limits. index_of _ _ _ _ kind.Globals x read) in
      put_next o w.content before behind v.content_type [] told refl refl (λ count. (w, sym there, kept, λ later. allowed)) (first_release bits o refl refl)
      (λ t set. ([] ⟶ w.content ∷ [], global_type (within_constant bits m.«module» t) x w (sym there) (may bits m.«module» t w.shared), (refl, refl)))
      (takes_none (tops m before)) refl put

  -- the reference to a number of 31 bits
  pub number_next : (behind : List ValType) → BeginsPrefixed text i 0xfb 0x1c j → Has bits gc_feature → RefersToNumber before behind → Nexts bits m text i before j behind
  unfolding type_in
  number_next behind begins allowed (left, r, first, made, put) =
      let o = op.Gc gc.RefI31 in
      let n : ValueType = number i32 in
      let u : ValueType = ref false (abstract false i31) in
      let told : ToldAt text i j o = λ features. is_told features text i j o (prefixed_of text i 0xfb 0x1c 0x1c j begins refl refl o refl) _ refl refl refl refl in
      let one : tops m before ≡ n ∷ tops m left = ap (tops m) first ∙ tops_more m left value.I32 in
      let takes : MayTake (n ∷ tops m left) (n ∷ []) (tops m left) = (below_reflexive n, all_below_refl (all_known (tops m left))) in
      put_next o u left behind (value.Ref r) (n ∷ []) told refl refl (λ count. allowed) (of_feature bits o proposal.Gc gc_feature refl refl refl allowed)
      (λ t set. (n ∷ [] ⟶ u ∷ [], refl, (refl, refl))) (subst (λ (s : List ValueType). MayTake s (n ∷ []) (tops m left)) (sym one) takes) (ap (λ (s : Reference). type_in m (value.Ref s)) made) put

  -- a null, by its heap type
  null_next : (h : HeapType) (v : ValueType) (r : Reference) (behind : List ValType) → i < j → ((z : Settings) → IsBetween (SpelledOperator z (op.Bulk (bulk.RefNull h))) text i j)
      → Has bits ReferenceTypes → IsType bits m.«module» (value.Ref (record { nullable = true; heap = h })) v → type_in m (value.Ref r) ≡ v → behind ≡ before ++ value.Ref r ∷ []
      → Nexts bits m text i before j behind
  null_next h v r behind forward spelled allowed type made put =
      let o = op.Bulk (bulk.RefNull h) in
      put_spelled o v before behind (value.Ref r) [] forward spelled refl refl (λ count. tt) (of_feature bits o proposal.ReferenceTypes ReferenceTypes refl refl refl allowed)
      (λ t set. (v, type, (λ e. absurd cc), (refl, refl))) (takes_none (tops m before)) made put

-- ---- nulls by their bytes

-- a byte
pub byte_between : (text : List ℕ) (i : ℕ) → i < length text → IsBetween (λ t. t ≡ get_or text i 0 ∷ []) text i (i + 1)
byte_between text i inside = record { front = get_or text i 0 ∷ []; whole = drop_more text i 0 inside; place = omega arith; inside = omega (arith, inside); such = refl }

signed_between : (text : List ℕ) (i : ℕ) (v : ℤ) (e : ℕ) → GivesAt s33 text i v e → IsBetween (IsSigned 33 v) text i e
signed_between text i v e g =
    let s : State = record { rest = drop i text; place = 0; settings = no_features; start = 0 } in
    let (front, takes, spelled) = decides-s33.sound s (behind (e - i) s) v (g.gives s refl) in
    let whole : i + (e - i) ≡ e = omega (arith, g.forward) in
    record {
      front = front;
      whole = takes.parts ∙ ap (λ (r : List ℕ). front ++ r) (drop-drop (e - i) i text ∙ ap (λ (k : ℕ). drop k text) whole);
      place = omega (arith, takes.place, g.forward);
      inside = g.inside;
      such = spelled;
    }

abstract_spelled : (text : List ℕ) (i : ℕ) (n : AbstractHeapType) → Begins text i 0xd0 → i + 1 < length text → get_or text (i + 1) 0 ≡ abstract_byte (abstract_of n) → (z : Settings)
    → IsBetween (SpelledOperator z (op.Bulk (bulk.RefNull (Abstract false n)))) text i (i + 2)
abstract_spelled text i n begins room byte z =
    let b = get_or text (i + 1) 0 in
    let two : i + 1 + 1 ≡ i + 2 = omega arith in
    let P : List ℕ → Type 0 = InTurn (λ t. t ≡ get_or text i 0 ∷ []) (λ t. t ≡ b ∷ []) in
    between_so P (SpelledOperator z (op.Bulk (bulk.RefNull (Abstract false n)))) text i (i + 2)
    (λ t (front, back, front_is, back_is, whole).
    let all : t ≡ 0xd0 ∷ b ∷ [] = whole ∙ ap (λ (r : List ℕ). r ++ back) (front_is ∙ ap (λ (x : ℕ). x ∷ []) begins.code_there) ∙ ap (λ (r : List ℕ). 0xd0 ∷ r) back_is in
    subst (λ (r : List ℕ). SpelledOperator z (op.Bulk (bulk.RefNull (Abstract false n))) r) (sym all)
    (record { canonical = refl; front = 0xd0 ∷ []; back = b ∷ []; opcode = (refl, refl); carried = (b ∷ [], [], ap (λ (x : ℕ). x ∷ []) byte, refl, refl); whole = refl }))
    (subst (λ (e : ℕ). IsBetween P text i e) two (in_turn _ _ text i (i + 1) (i + 1 + 1) (byte_between text i begins.inside) (byte_between text (i + 1) room)))

typed_spelled : (text : List ℕ) (i n e : ℕ) → Begins text i 0xd0 → GivesAt s33 text (i + 1) (pos n) e → n < 2 ^ 20 → (z : Settings)
    → IsBetween (SpelledOperator z (op.Bulk (bulk.RefNull (Concrete (index.Module n))))) text i e
typed_spelled text i n e begins read few z =
    between_so (InTurn (λ t. t ≡ get_or text i 0 ∷ []) (IsSigned 33 (pos n))) (SpelledOperator z (op.Bulk (bulk.RefNull (Concrete (index.Module n))))) text i e
    (λ t (front, back, front_is, signed, whole).
    let all : t ≡ 0xd0 ∷ back = whole ∙ ap (λ (r : List ℕ). r ++ back) (front_is ∙ ap (λ (x : ℕ). x ∷ []) begins.code_there) in
    subst (λ (r : List ℕ). SpelledOperator z (op.Bulk (bulk.RefNull (Concrete (index.Module n)))) r) (sym all)
    (record { canonical = refl; front = 0xd0 ∷ []; back = back; opcode = (refl, refl); carried = (back, [], (signed, few), refl, sym (append-nil back)); whole = refl }))
    (in_turn _ _ text i (i + 1) e (byte_between text i begins.inside) (signed_between text (i + 1) (pos n) e read))

module _ (bits : ℕ) (allowed : Has bits ReferenceTypes) (m : Meaning) (text : List ℕ) (i : ℕ) (begins : Begins text i 0xd0) (before : List ValType) where
  pub abstract_null_next : (n : AbstractHeapType) (r : Reference) (j : ℕ) (behind : List ValType) → i + 1 < length text → IsNullByte bits (get_or text (i + 1) 0) n
      → r ≡ record { nullable = true; heap = Abstract false n } → j ≡ i + 2 → behind ≡ before ++ value.Ref r ∷ [] → Nexts bits m text i before j behind
  unfolding type_in
  abstract_null_next n r j behind room byte made at put =
      let v : ValueType = ref true (abstract false (abstract_of n)) in
      null_next bits m text i j before (Abstract false n) v r behind (omega (arith, at))
      (λ z. subst (λ (e : ℕ). IsBetween (SpelledOperator z (op.Bulk (bulk.RefNull (Abstract false n)))) text i e) (sym at) (abstract_spelled text i n begins room byte.0 z)) allowed
      (record { allowed = (allowed, byte.1); known = tt; is = refl }) (ap (λ (s : Reference). type_in m (value.Ref s)) made) put

  pub typed_null_next : (n : ℕ) (r : Reference) (e : ℕ) (behind : List ValType) → GivesAt s33 text (i + 1) (pos n) e → n < 2 ^ 20 → Has bits gc_feature
      → RefersTo m n true r → behind ≡ before ++ value.Ref r ∷ [] → Nexts bits m text i before e behind
  typed_null_next n r e behind read few gc (there, made) put =
      let v : ValueType = ref true (concrete (type_at m.«module».types n)) in
      null_next bits m text i e before (Concrete (index.Module n)) v r behind (omega (arith, read.forward)) (typed_spelled text i n e begins read few) allowed
      (record { allowed = (allowed, inr gc); known = there; is = refl }) made put

-- ---- what the code asks

-- a reference to the type at an index
pub refers : (m : Meaning) (n : ℕ) (nullable : Bool) (h : HeapType) (r : Reference) → n < length m.«module».types → heap_in m h ≡ concrete (type_at m.«module».types n)
    → r ≡ record { nullable = nullable; heap = h } → RefersTo m n nullable r
unfolding type_in
refers m n nullable h r there same made =
    (there, ap (λ (s : Reference). type_in m (value.Ref s)) made ∙ ap (λ (k : HeapOf TypeTree). ref nullable k) same)

pub next_inside : {bits : ℕ} {g : Module} {text : List ℕ} {i j : ℕ} {before behind : List ValueType} → IsNext bits g text i before j behind → j ≤ length text
next_inside n = (n.spelled no_features).inside
