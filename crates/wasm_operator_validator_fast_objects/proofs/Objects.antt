-- Operators on structures and arrays, by their bytes and by the rules, and the types that they name.
use Rattle.std.proofs.Common.{◌≡◌, ◌∙◌, ℕ, suc, ◌+◌, ◌<◌, ◌≤◌, List, [], ◌∷◌, ◌++◌, Bool, true, false, Option, Some, None, refl, sym, ap, subst, arith, lt-ltb, length, drop, get_or, replicate, reverse, slice_get}
use Rattle.std.proofs.lemmas.List.{drop_more, drop_all}
use Rattle.std.specs.Prelude.{not, if◌then◌else◌, ◌==◌, ◌-◌, ◌/◌, ◌%◌, nat_lt}
use Rattle.wasm_types.specs.decoding.Leb.{u32}
use Rattle.wasm_types.specs.decoding.Numbers.{GivesAt}
use Rattle.wasm_types.specs.settings.declared.Limits.{Limits}
use Rattle.wasm_types.specs.settings.Settings.{Settings}
use Rattle.wasm_types.specs.settings.Features.{Gc as gc_feature, CustomDescriptors, has}
use Rattle.wasm_types.specs.trees.Types.{FieldOf, HeapOf, StorageOf, i8, i16, value, struct_of, array_of, Number, number, ref, concrete}
use Rattle.wasm_types.specs.trees.Trees.{TypeTree, opened}
use Rattle.wasm_types.specs.trees.Below.{expanded, is_shared}
use Rattle.wasm_operators_immediates.specs.declared.proposal.Proposal.TheVariants as proposals
use Rattle.wasm_operators_immediates.specs.Kinds as kind
use Rattle.wasm_operators_immediates.specs.Immediates.{Immediate, kind_of, Index, Count}
use Rattle.wasm_operators_enums.specs.declared.gc.GcOperator.{GcOperator}
use Rattle.wasm_operators_enums.specs.Op as op
use Rattle.wasm_operators_enums.specs.Op.{Op}
use Rattle.wasm_operators_enums.specs.Table.{info_of}
use Rattle.wasm_operators_enums.specs.Immediates.{immediates_of}
use Rattle.wasm_operators_encoding.specs.Opcodes.{prefixed}
use Rattle.wasm_operators_encoding.specs.Operators.{opcode_of}
use Rattle.wasm_operators_encoding.specs.immediates.Immediates.{immediate}
use Rattle.wasm_operators_frequent.specs.Short.{within, BeginsPrefixed}
use Rattle.wasm_operators_frequent.proofs.ShortReading.{OpcodeAt, gives_as, is_told, is_told_with, is_told_with_two, prefixed_of}
use Rattle.wasm_operators_frequent.proofs.Carried.{index_of}
use Rattle.wasm_operator_validator_rules.specs.Operands.{ValueType, Operand, AllBelow, all_known, stack}
use Rattle.wasm_operator_validator_rules.specs.Context.{Context, defaultable, may_use}
use Rattle.wasm_operator_validator_rules.specs.Aggregates.{struct_named, array_named}
use Rattle.wasm_operator_validator_rules.specs.Places.{Place, unpacked, is_packed}
use Rattle.wasm_operator_validator_rules.specs.InstructionTypes.{InstructionType, ◌⟶◌, provided, i32_type, allocated, read, read_packed, written, gc_type_of}
use Rattle.wasm_operator_validator_rules.specs.Taken.{TableRow}
use Rattle.wasm_operator_validator_rules.specs.Objects.{GcRow}
use Rattle.wasm_operator_validator_state.specs.laws.Operands.{all_below_under}
use Rattle.wasm_operator_validator_fast_tables.specs.declared.order.Step.{Step}
use Rattle.wasm_operator_validator_fast_tables.specs.declared.tables.Field.{Field}
use Rattle.wasm_operator_validator_fast_tables.specs.declared.tables.Open.{Open}
use Rattle.wasm_operator_validator_fast_tables.specs.declared.tables.Tables.{Tables}
use Rattle.wasm_operator_validator_fast_tables.specs.Stacks.{Values, with_all}
use Rattle.wasm_operator_validator_fast_tables.specs.Values.{number_of, heap_of, type_of, types, operands, IsLowered}
use Rattle.wasm_operator_validator_fast_tables.specs.Tables.{IsField, AreFields, HasDefault, Knows, Fits}
use Rattle.wasm_operator_validator_fast_tables.specs.Loop.{inside_all, Leads}
use Rattle.wasm_operator_validator_fast_steps.proofs.Coded.{of_feature}
use Rattle.wasm_operator_validator_fast_tables.proofs.Lowering.{lowered, lower_same, lower_trans, lower_under}
use Rattle.wasm_operator_validator_fast_tables.proofs.Lying.{first_of_all}
use Rattle.wasm_operator_validator_fast_steps.proofs.Rows.{may_all, on_stack, took}
use Rattle.wasm_operator_validator_fast_steps.proofs.Stepping.{Stands, stood}
use Rattle.wasm_operator_validator_fast_objects.specs.Objects.{IsStructAt, IsArrayAt, codes_of, HaveDefaults}

-- ---- operators by their bytes

-- an operator with this code behind the prefix, of the proposal on objects
pub record IsObjectAt (code : ℕ) (p : GcOperator) : Type 0 where
  pub opcode : opcode_of (op.Gc p) ≡ prefixed 0xfb code
  pub asks : (info_of (op.Gc p)).proposal ≡ proposals.Gc

module _ (features : ℕ) (text : List ℕ) (i n code : ℕ) (p : GcOperator) (begins : BeginsPrefixed text i 0xfb code n) (is : IsObjectAt code p) where
  opcode_there : OpcodeAt text i (op.Gc p) n
  opcode_there = prefixed_of text i 0xfb code code n begins refl refl (op.Gc p) is.opcode

  pub stands_alone : immediates_of (op.Gc p) ≡ [] → Stands features text i n (op.Gc p)
  stands_alone nothing =
      stood features text i n (op.Gc p) (is_told features text i n (op.Gc p) opcode_there (λ (q : Op). q ≡ op.Gc p) refl refl refl nothing)

  pub stands_with : (y e : ℕ) → immediates_of (op.Gc p) ≡ Index kind.Types y ∷ [] → GivesAt u32 text n y e → Stands features text i e (op.Gc p)
  stands_with y e one g =
      stood features text i e (op.Gc p) (is_told_with features text i n (op.Gc p) opcode_there (λ (q : Op). q ≡ op.Gc p) refl refl refl
      (Index kind.Types y) e one (λ limits. index_of _ _ _ _ kind.Types y g))

  pub stands_with_two : (y m e : ℕ) (b : Immediate) → immediates_of (op.Gc p) ≡ Index kind.Types y ∷ b ∷ [] → GivesAt u32 text n y m
      → ((limits : Limits) → GivesAt (immediate (within features limits) (kind_of b)) text m b e) → Stands features text i e (op.Gc p)
  stands_with_two y m e b two g h =
      stood features text i e (op.Gc p) (is_told_with_two features text i n (op.Gc p) opcode_there (λ (q : Op). q ≡ op.Gc p) refl refl refl
      (Index kind.Types y) b m e two (λ limits. index_of _ _ _ _ kind.Types y g) h)

pub count_of : (settings : Settings) (text : List ℕ) (i e n : ℕ) → GivesAt u32 text i n e → GivesAt (immediate settings kind.Count) text i (Count n) e
unfolding immediate
count_of settings text i e n g = gives_as u32 text i n Count e g

-- ---- operators by the rules

-- one more operand, which may be taken for another, lies on those that may be taken for others
pub lower_on : (steps : List Step) (k : ℕ) (v m w : Values) → IsLowered steps v (k ∷ m.0, m.1) → IsLowered steps m w → IsLowered steps v (k ∷ w.0, w.1)
lower_on steps k v m w h more = lower_trans steps v (k ∷ m.0, m.1) (k ∷ w.0, w.1) h (lower_under steps k m w more)

-- what is read past the last field
abbrev no_field : Field
no_field = record { code = 0; packed = false; mutable = false }

-- the same are put on both, the last on top
lower_under_all : (steps : List Step) (cs : List ℕ) (v m : Values) → IsLowered steps v m → IsLowered steps (with_all cs v) (with_all cs m)
lower_under_all steps cs v m (e, b) = (
  e,
  λ ids are.
      subst (λ (s : List Operand). AllBelow s (operands ids (reverse cs ++ m.0))) (sym (on_stack ids cs v.0))
      (subst (λ (s : List Operand). AllBelow (stack (types ids cs) ++ operands ids v.0) s) (sym (on_stack ids cs m.0))
      (all_below_under (stack (types ids cs)) (operands ids v.0) (operands ids m.0) (b ids are))),
)

-- one more is taken off those of which the last ones were
pub taken_more : (steps : List Step) (k : ℕ) (ks all : List ℕ) (v m w : Values) → all ≡ k ∷ ks → IsLowered steps v (with_all ks m) → IsLowered steps m (k ∷ w.0, w.1)
    → IsLowered steps v (with_all all w)
taken_more steps k ks all v m w e h one =
    let under = lower_under_all steps ks m (k ∷ w.0, w.1) one in
    subst (λ (x : Values). IsLowered steps v x) (sym (ap (λ (l : List ℕ). with_all l w) e ∙ first_of_all k ks w))
    (lower_trans steps v (with_all ks m) (with_all ks (k ∷ w.0, w.1)) h under)

-- the last fields, and one before them
fields_next : (fs : List Field) (left : ℕ) → 0 < left → left ≤ length fs → drop (left - 1) fs ≡ get_or fs (left - 1) no_field ∷ drop left fs
fields_next fs left some within =
    let next : left - 1 + 1 ≡ left = omega (arith, some) in
    drop_more fs (left - 1) no_field (omega (arith, some, within)) ∙ ap (λ (k : ℕ). get_or fs (left - 1) no_field ∷ drop k fs) next

pub fields_one : (steps : List Step) (v m w : Values) (fs : List Field) (left : ℕ) → 0 < left → left ≤ length fs → IsLowered steps v (with_all (codes_of (drop left fs)) m)
    → IsLowered steps m ((get_or fs (left - 1) no_field).code ∷ w.0, w.1) → IsLowered steps v (with_all (codes_of (drop (left - 1) fs)) w)
fields_one steps v m w fs left some within h one =
    taken_more steps (get_or fs (left - 1) no_field).code (codes_of (drop left fs)) (codes_of (drop (left - 1) fs)) v m w (ap codes_of (fields_next fs left some within)) h one

pub fields_none : (steps : List Step) (v : Values) (fs : List Field) → IsLowered steps v (with_all (codes_of (drop (length fs) fs)) v)
fields_none steps v fs =
    lower_same steps v (with_all (codes_of (drop (length fs) fs)) v)
    (sym (ap (λ (l : List Field). with_all (codes_of l) v) (drop_all (length fs) fs (omega arith))))

pub fields_all : (steps : List Step) (v w : Values) (fs : List Field) (left : ℕ) → left ≤ 0 → IsLowered steps v (with_all (codes_of (drop left fs)) w)
    → IsLowered steps v (with_all (codes_of fs) w)
fields_all steps v w fs left none h = let e : left ≡ 0 = omega (arith, none) in subst (λ (k : ℕ). IsLowered steps v (with_all (codes_of (drop k fs)) w)) e h

pub defaults_one : (fs : List Field) (left : ℕ) → 0 < left → left ≤ length fs → HasDefault (get_or fs (left - 1) no_field).code → HaveDefaults (drop left fs)
    → HaveDefaults (drop (left - 1) fs)
defaults_one fs left some within one more = subst (λ (l : List Field). HaveDefaults l) (sym (fields_next fs left some within)) (one, more)

pub defaults_none : (fs : List Field) → HaveDefaults (drop (length fs) fs)
defaults_none fs = subst (λ (l : List Field). HaveDefaults l) (sym (drop_all (length fs) fs (omega arith))) tt

pub defaults_all : (fs : List Field) (left : ℕ) → left ≤ 0 → HaveDefaults (drop left fs) → HaveDefaults fs
defaults_all fs left none h = let e : left ≡ 0 = omega (arith, none) in subst (λ (k : ℕ). HaveDefaults (drop k fs)) e h

-- one more of a kind
pub alike_next : (k n : ℕ) → replicate (n + 1) k ≡ k ∷ replicate n k
alike_next k n = let e : n + 1 ≡ suc n = omega arith in ap (λ (j : ℕ). replicate j k) e

module _ (t : Tables) (text : List ℕ) (i e : ℕ) (o : Open) (outer : List Open) (v w : Values) (code : ℕ) (p : GcOperator) (is : IsObjectAt code p)
    (stands : Stands t.features.0 text i e (op.Gc p)) (on : t.references ≡ true) (ts us r u : List ℕ)
    (low : IsLowered t.known.order v (reverse ts ++ r, u)) (put : w ≡ (reverse us ++ r, u)) where
  pub took_object : ((ids : List TypeTree) (z : Settings) (c : Context) → Fits ids z text t c
      → GcRow (inside_all ids c t.known.flat.items (o ∷ outer)) p (all_known (types ids ts)) (all_known (types ids us)))
      → Leads text t i (o ∷ outer) v e (o ∷ outer) w
  took_object row =
      lowered t text i e o outer (o ∷ outer) v (reverse ts ++ r, u) w low
      (took t text i e o outer (reverse ts ++ r, u) w (op.Gc p) ts us r u stands refl (λ set full. full) refl put
      (λ ids z c fits set full. (of_feature c.bits (op.Gc p) proposals.Gc gc_feature fits.allows is.asks (fits.references on).gc refl, row ids z c fits)))

  -- the same of one that is in the table of instruction types
  pub took_tabled : ((g : Context) (a b : List Operand) → TableRow g (op.Gc p) a b → GcRow g p a b)
      → ((ids : List TypeTree) (z : Settings) (c : Context) → Fits ids z text t c
      → gc_type_of (inside_all ids c t.known.flat.items (o ∷ outer)) p ≡ Some (types ids ts ⟶ types ids us))
      → Leads text t i (o ∷ outer) v e (o ∷ outer) w
  took_tabled tabled table = took_object (λ ids z c fits. tabled _ _ _ (types ids ts ⟶ types ids us, table ids z c fits, (refl, refl)))

-- ---- what is stored

packed_is : (s : StorageOf TypeTree) → is_packed s ≡ true → unpacked s ≡ i32_type
packed_is i8 e = refl
packed_is i16 e = refl
packed_is (value t) e = absurd cc

-- how a place is read, as it is packed
abbrev pub reading : Bool → Place → Option InstructionType
reading true = read_packed
reading false = read

pub read_is : (p : Place) (packed : Bool) (t : ValueType) → is_packed p.storage ≡ packed → unpacked p.storage ≡ t → reading packed p ≡ Some (p.reached_by ⟶ t ∷ [])
read_is p true t is e =
    ap (λ (b : Bool). provided b (p.reached_by ⟶ i32_type ∷ [])) is
    ∙ ap (λ (k : ValueType). Some (p.reached_by ⟶ k ∷ [])) (sym (packed_is p.storage is) ∙ e)
read_is p false t is e =
    ap (λ (b : Bool). provided (not b) (p.reached_by ⟶ unpacked p.storage ∷ [])) is ∙ ap (λ (k : ValueType). Some (p.reached_by ⟶ k ∷ [])) e

pub written_is : (p : Place) (t : ValueType) → p.mutable ≡ true → unpacked p.storage ≡ t → written p ≡ Some ((p.reached_by ++ t ∷ []) ⟶ [])
written_is p t may e =
    ap (λ (b : Bool). provided b ((p.reached_by ++ unpacked p.storage ∷ []) ⟶ [])) may ∙ ap (λ (k : ValueType). Some ((p.reached_by ++ k ∷ []) ⟶ [])) e

-- without descriptors, what is made is of the type
pub allocated_is : (g : Context) (k : TypeTree) → has CustomDescriptors g.bits ≡ false → allocated g k ≡ ref false (concrete k)
allocated_is g k off = rw off refl

-- ---- structures and arrays that are named

pub record MeansStruct (ids : List TypeTree) (g : Context) (y code : ℕ) (fs : List Field) : Type 0 where
  pub type : TypeTree
  pub fields : List (FieldOf TypeTree)
  pub named : struct_named g y ≡ Some (record { type = type; fields = fields })
  pub each : AreFields ids fields fs
  pub nullable : type_of ids code ≡ ref true (concrete type)
  pub never_null : type_of ids (code + 1) ≡ ref false (concrete type)
  pub undescribed : (opened type).descriptor ≡ None

pub record MeansArray (ids : List TypeTree) (g : Context) (y code : ℕ) (f : Field) : Type 0 where
  pub type : TypeTree
  pub element : FieldOf TypeTree
  pub named : array_named g y ≡ Some (record { type = type; element = element })
  pub expands : expanded type ≡ array_of element
  pub is : IsField ids element f
  pub nullable : type_of ids code ≡ ref true (concrete type)
  pub never_null : type_of ids (code + 1) ≡ ref false (concrete type)

struct_is : (g : Context) (y : ℕ) (k : TypeTree) (xs : List (FieldOf TypeTree)) → slice_get g.«module».types y ≡ Some k → may_use g (is_shared k) ≡ true
    → expanded k ≡ struct_of xs → struct_named g y ≡ Some (record { type = k; fields = xs })
struct_is g y k xs at may is = rw (at, may, is) refl

array_is : (g : Context) (y : ℕ) (k : TypeTree) (x : FieldOf TypeTree) → slice_get g.«module».types y ≡ Some k → may_use g (is_shared k) ≡ true
    → expanded k ≡ array_of x → array_named g y ≡ Some (record { type = k; element = x })
array_is g y k x at may is = rw (at, may, is) refl

module _ (ids : List TypeTree) (t : Tables) (g : Context) (unshared : g.shared ≡ false) (knows : Knows ids g.«module» t.known) where
  pub struct_means : (y code : ℕ) (fs : List Field) → IsStructAt t y code fs → MeansStruct ids g y code fs
  struct_means y code fs h =
      let n = knows.named y _ h.at h.coded in
      let (xs, is, within, each) = n.is in
      record {
        type = n.type;
        fields = xs;
        named = struct_is g y n.type xs n.at (may_all g (is_shared n.type) unshared) is;
        each = subst (λ (l : List Field). AreFields ids xs l) (sym h.lie) each;
        nullable = n.nullable;
        never_null = n.never_null;
        undescribed = n.undescribed;
      }

  pub array_means : (y code : ℕ) (f : Field) → IsArrayAt t y code f → MeansArray ids g y code f
  array_means y code f h =
      let n = knows.named y _ h.at h.coded in
      let (x, is, field) = n.is in
      record {
        type = n.type;
        element = x;
        named = array_is g y n.type x n.at (may_all g (is_shared n.type) unshared) is;
        expands = is;
        is = field;
        nullable = n.nullable;
        never_null = n.never_null;
      }
