-- What each operator takes and gives, by the rules, and what follows for the loop.
use Rattle.std.proofs.Common.{◌≤◌, ◌^◌, None, lt-ltb, Bool, ◌≡◌, ◌∙◌, ℕ, ℤ, suc, zero, ◌+◌, ◌<◌, List, [], ◌∷◌, ◌++◌, true, false, Some, refl, sym, ap, subst, arith, length, map, reverse, get_or, slice_get}
use Rattle.std.proofs.lemmas.List.{map-append}
use Rattle.std.proofs.lemmas.Grind.{common_steps}
use Rattle.std.specs.Prelude.{if◌then◌else◌, ◌==◌, ◌%◌, ◌&&◌, ◌||◌, not, All}
use Rattle.wasm_types.specs.decoding.Leb.{u32, s32, s64}
use Rattle.wasm_types.specs.decoding.Text.{word}
use Rattle.wasm_types.specs.reader.declared.words.Ieee32.{Ieee32}
use Rattle.wasm_types.specs.reader.declared.words.Ieee64.{Ieee64}
use Rattle.wasm_types.specs.settings.Settings.{Settings}
use Rattle.wasm_types.specs.settings.Features.{BulkMemory, BulkMemoryOpt, TailCall}
use Rattle.wasm_types.specs.externs.declared.memory.MemoryType.{MemoryType}
use Rattle.wasm_types.specs.trees.Gates.{Has}
use Rattle.wasm_types.specs.trees.Below.{Below}
use Rattle.wasm_types.specs.trees.Trees.{TypeTree}
use Rattle.wasm_types.specs.decoding.Numbers.{GivesAt}
use Rattle.wasm_operators_immediates.specs.Kinds as kind
use Rattle.wasm_operators_immediates.specs.Kinds.{Plain as Plainly}
use Rattle.wasm_operators_immediates.specs.Immediates.{Index, IndexOrZero, Label, I32Constant, I64Constant, F32Constant, F64Constant, MemoryArgument}
use Rattle.wasm_operators_encoding.specs.immediates.Bytes.{index_or_zero}
use Rattle.wasm_operators_encoding.specs.immediates.Immediates.{may_index}
use Rattle.wasm_operators_encoding.specs.immediates.MemoryArguments.{argument}
use Rattle.wasm_operators_frequent.specs.Short.{Begins, BeginsPrefixed, IsTold}
use Rattle.wasm_operators_frequent.proofs.ShortReading.{told_with, told_with_two, told_alone, is_told, is_told_with, is_told_with_two, prefixed_of, prefixed_is, opcode_is, low_is_no_prefix}
use Rattle.wasm_operators_frequent.proofs.Carried.{index_of, label_of, i32_of, i64_of, f32_of, f64_of, zero_of, access_of}
use Rattle.wasm_operators_enums.specs.declared.control.ControlOperator.TheVariants as control
use Rattle.wasm_operators_enums.specs.declared.memory.MemoryOperator.TheVariants as memory
use Rattle.wasm_operators_enums.specs.declared.bulk.BulkOperator.TheVariants as bulk
use Rattle.wasm_operators_enums.specs.declared.constant.ConstOperator.TheVariants as constant
use Rattle.wasm_operators_immediates.specs.declared.frames.FrameKind.{FrameKind}
use Rattle.wasm_operators_immediates.specs.declared.frames.FrameKind.TheVariants as frames
use Rattle.wasm_operators_immediates.specs.declared.memory.MemArg.{MemArg}
use Rattle.wasm_operators_immediates.specs.declared.memory.MemArgTarget.TheVariants.{Memory as InMemory}
use Rattle.wasm_operators_immediates.specs.declared.proposal.Proposal.TheVariants as proposals
use Rattle.wasm_operators_enums.specs.Op as op
use Rattle.wasm_operators_enums.specs.Op.{Op}
use Rattle.wasm_operators_enums.specs.Roles.{role_of}
use Rattle.wasm_operators_enums.specs.declared.role.Role.TheVariants.{Plain}
use Rattle.wasm_types.specs.trees.Types.{number, i32}
use Rattle.wasm_operator_validator_rules.specs.Operands.{ValueType, Operand, known, all_known, stack, AllBelow}
use Rattle.wasm_operator_validator_rules.specs.Context.{Context, Global, Initialised, Signature, IsFunctionType, MayUse, may_use, address_type, label_of as label_types}
use Rattle.wasm_operator_validator_rules.specs.Accesses.{Access, load, store, is_aligned, may_access, operands_of, results_of}
use Rattle.wasm_operator_validator_rules.specs.Numbers.{numbers}
use Rattle.wasm_operator_validator_rules.specs.InstructionTypes.{◌⟶◌, accesses, memory_at, global_at, names_data, provided, shorter}
use Rattle.wasm_operator_validator_rules.specs.Row.{Row, FitEach, IsLabel, IsNumber, after}
use Rattle.wasm_operator_validator_rules.specs.Typed.{Steps}
use Rattle.wasm_operator_validator_state.specs.laws.Operands.{all_below_refl}
use Rattle.wasm_operator_validator_fast_tables.specs.declared.tables.Open.{Open}
use Rattle.wasm_operator_validator_fast_tables.specs.declared.tables.Sig.{Sig}
use Rattle.wasm_operator_validator_fast_tables.specs.declared.tables.Held.{Held}
use Rattle.wasm_operator_validator_fast_tables.specs.declared.tables.Indexed.{Indexed}
use Rattle.wasm_operator_validator_fast_tables.specs.declared.tables.Tables.{Tables}
use Rattle.wasm_operator_validator_fast_tables.specs.Stacks.{Values, with_all}
use Rattle.wasm_operator_validator_fast_tables.specs.Values.{number_of, type_of, types, operands, address_of, AreBelow}
use Rattle.wasm_operator_validator_fast_tables.specs.Tables.{no_code, params_in, results_in, signature_in, label_in, Fits, Reaches, CallsThrough, ReturnsBy}
use Rattle.wasm_operator_validator_fast_tables.specs.Loop.{label, HasValue, Full, inside_all, Leads}
use Rattle.wasm_operator_validator_fast_steps.specs.Shapes.{IsNumberAt, IsAccessAt, IsArgumentAt}
use Rattle.wasm_operator_validator_fast_steps.specs.Labels.{Takes, AreLabels}
use Rattle.wasm_operator_validator_fast_steps.proofs.Coded.{first, of_feature}
use Rattle.wasm_operator_validator_fast_steps.proofs.Spelled.{labels_stand}
use Rattle.wasm_operator_validator_fast_steps.proofs.Stepping.{Stands, stood, step, plain_more}

-- ---- operands

pub map_onto : {A B : Type 0} (f : A → B) (xs r : List A) → map f (reverse xs ++ r) ≡ reverse (map f xs) ++ map f r
map_onto f [] r = refl
map_onto f (x ∷ xs) r =
    let e : reverse (x ∷ xs) ++ r ≡ reverse xs ++ x ∷ r = grind (arith, common_steps) in
    let h : reverse (f x ∷ map f xs) ++ map f r ≡ reverse (map f xs) ++ f x ∷ map f r = grind (arith, common_steps) in
    ap (map f) e ∙ map_onto f xs (x ∷ r) ∙ sym h

-- operands on others, as the rules see them
pub on_stack : (ids : List TypeTree) (ts r : List ℕ) → operands ids (reverse ts ++ r) ≡ stack (types ids ts) ++ operands ids r
on_stack ids ts r = ap (map known) (map_onto (type_of ids) ts r) ∙ map_onto known (types ids ts) (types ids r)

-- types and another on top of them
pub last_on : (ts : List ℕ) (k : ℕ) (v : Values) → ◌≡◌ {A = Values} (k ∷ (with_all ts v).0, v.1) (reverse (ts ++ k ∷ []) ++ v.0, v.1)
last_on ts k v = let all : k ∷ (reverse ts ++ v.0) ≡ reverse (ts ++ k ∷ []) ++ v.0 = grind (arith, common_steps) in ap (λ xs. (xs, v.1)) all

pub same_below : (s t : List Operand) → s ≡ t → AllBelow s t
same_below s t e = subst (λ x. AllBelow s x) e (all_below_refl s)

-- ---- what the module determines

-- whoever is not shared may use all
pub may_all : (g : Context) (b : Bool) → g.shared ≡ false → may_use g b ≡ true
may_all g true e = refl
may_all g false e = rw e refl

pub uses : (g : Context) (b : Bool) → g.shared ≡ false → MayUse g b
uses g b e s = let d : false ≡ true = sym e ∙ s in absurd cc

-- a code of a number or of a vector stands for one
is_number : (ids : List TypeTree) (k : ℕ) → k < 8 → IsNumber (known (type_of ids k))
is_number ids k few = rw (lt-ltb k 8 few) tt

pub some_is : {A : Type 0} (x y : A) → Some x ≡ Some y → x ≡ y
some_is x y e = cc

-- a type that is named twice
pub function_of : (t u : TypeTree) (b : Signature) (ts : List TypeTree) (y : ℕ) → slice_get ts y ≡ Some t → slice_get ts y ≡ Some u → IsFunctionType u b → IsFunctionType t b
function_of t u b ts y e f h = subst (λ (x : TypeTree). IsFunctionType x b) (some_is u t (sym f ∙ e)) h

-- a code of addresses stands for their type
pub addressed : (ids : List TypeTree) (code : ℕ) (wide : Bool) → code ≡ address_of wide → type_of ids code ≡ address_type wide
addressed ids code true e = rw e refl
addressed ids code false e = rw e refl

or_true : (b : Bool) → (b || true) ≡ true
or_true true = refl
or_true false = refl

-- an offset of 32 bits is in every memory
pub may_reach : (is_atomic : Bool) (m : MemoryType) (x : MemArg) → is_aligned is_atomic x ≡ true → x.offset < 0x1_0000_0000 → x.target ≡ InMemory → may_access is_atomic m x ≡ true
may_reach is_atomic m x aligned reached target = rw (aligned, lt-ltb x.offset (2 ^ 32) (omega (arith, reached)), or_true m.memory64, target) refl

pub accessed : (c : Context) (is_atomic : Bool) (x : MemArg) (m : MemoryType) (a : Access) → slice_get c.«module».memories x.memory ≡ Some m → may_access is_atomic m x ≡ true
    → accesses c is_atomic (Some (record { access = a; argument = x })) ≡ Some ((address_type m.memory64 ∷ numbers (operands_of a)) ⟶ numbers (results_of a))
accessed c is_atomic x m a there may = rw (there, may) refl

sized : (c : Context) (x : ℕ) (m : MemoryType) → slice_get c.«module».memories x ≡ Some m
    → memory_at c x (λ k. Some ([] ⟶ address_type k.memory64 ∷ [])) ≡ Some ([] ⟶ address_type m.memory64 ∷ [])
sized c x m there = rw there refl

grown : (c : Context) (x : ℕ) (m : MemoryType) → slice_get c.«module».memories x ≡ Some m
    → memory_at c x (λ k. Some (address_type k.memory64 ∷ [] ⟶ address_type k.memory64 ∷ [])) ≡ Some (address_type m.memory64 ∷ [] ⟶ address_type m.memory64 ∷ [])
grown c x m there = rw there refl

copied : (c : Context) (x y : ℕ) (m k : MemoryType) → slice_get c.«module».memories x ≡ Some m → slice_get c.«module».memories y ≡ Some k
    → memory_at c x (λ a. memory_at c y (λ b. Some (address_type a.memory64 ∷ address_type b.memory64 ∷ shorter a.memory64 b.memory64 ∷ [] ⟶ [])))
    ≡ Some (address_type m.memory64 ∷ address_type k.memory64 ∷ shorter m.memory64 k.memory64 ∷ [] ⟶ [])
copied c x y m k there also = rw (there, also) refl

filled : (c : Context) (x : ℕ) (m : MemoryType) → slice_get c.«module».memories x ≡ Some m
    → memory_at c x (λ k. Some (address_type k.memory64 ∷ number i32 ∷ address_type k.memory64 ∷ [] ⟶ []))
    ≡ Some (address_type m.memory64 ∷ number i32 ∷ address_type m.memory64 ∷ [] ⟶ [])
filled c x m there = rw there refl

inited : (c : Context) (x : ℕ) (m : MemoryType) (d : ℕ) → slice_get c.«module».memories x ≡ Some m → names_data c.«module».data_count d ≡ true
    → memory_at c x (λ k. provided (names_data c.«module».data_count d) (address_type k.memory64 ∷ number i32 ∷ number i32 ∷ [] ⟶ []))
    ≡ Some (address_type m.memory64 ∷ number i32 ∷ number i32 ∷ [] ⟶ [])
inited c x m d there names = rw (there, names) refl

global_read : (c : Context) (x : ℕ) (v : Global) (t : ValueType) → slice_get c.«module».globals x ≡ Some v → may_use c v.shared ≡ true → v.content ≡ t
    → global_at c x (λ w. Some ([] ⟶ w.content ∷ [])) ≡ Some ([] ⟶ t ∷ [])
global_read c x v t there may is = rw (there, may, is) refl

global_written : (c : Context) (x : ℕ) (v : Global) (t : ValueType) → slice_get c.«module».globals x ≡ Some v → may_use c v.shared ≡ true → v.content ≡ t → v.mutable ≡ true
    → global_at c x (λ w. provided w.mutable (w.content ∷ [] ⟶ [])) ≡ Some (t ∷ [] ⟶ [])
global_written c x v t there may is writable = rw (there, may, writable, is) refl

-- what is not refused may be
pub not_not : (b : Bool) → not b ≡ false → b ≡ true
not_not true e = refl
not_not false e = cc

pub set_or : (b y : Bool) → y ≡ true → (if b then true else y) ≡ true
set_or true y e = refl
set_or false y e = e

-- a table whose references may be taken for references to functions
pub goes_through : (t : Tables) (x : ℕ) (s : Indexed) → slice_get t.known.tables.items x ≡ Some s → s.ty < no_code → AreBelow t.known.order (s.ty ∷ []) (8 ∷ []) → CallsThrough t x s.index
goes_through t x s at coded below ids m knows =
    let (tab, there, wide, is) = knows.tables x s at coded in
    (tab, there, wide, (false, subst (λ (y : ValueType). Below y (type_of ids 8)) (sym is) (below ids knows.steps).0))

-- ---- one that exchanges operands

module _ (t : Tables) (text : List ℕ) (i e : ℕ) (o : Open) (outer : List Open) (v w : Values) where
  abbrev pub Here : List TypeTree → Context → Context
  Here ids c = inside_all ids c t.known.flat.items (o ∷ outer)

  -- whatever it does to the operands of the innermost frame
  pub took_by : (p : Op) (a b u : List ℕ) → Stands t.features.0 text i e p → role_of p ≡ Plain → ((set : Initialised) → Full t o.set set → Full t o.set (after p set))
      → v ≡ (a, u) → w ≡ (b, u)
      → ((ids : List TypeTree) (z : Settings) (c : Context) → Fits ids z text t c → (set : Initialised) → Full t o.set set → Steps (Here ids c) set p (operands ids a) (operands ids b))
      → Leads text t i (o ∷ outer) v e (o ∷ outer) w
  took_by p a b u stands is keeps before behind steps ids z c fits =
      step ids z text t c i e (o ∷ outer) (o ∷ outer) v w fits p stands (rw (before, behind) (plain_more ids t c o outer a b u p is keeps (steps ids z c fits)))

  pub took : (p : Op) (ts us r u : List ℕ) → Stands t.features.0 text i e p → role_of p ≡ Plain → ((set : Initialised) → Full t o.set set → Full t o.set (after p set))
      → v ≡ (reverse ts ++ r, u) → w ≡ (reverse us ++ r, u)
      → ((ids : List TypeTree) (z : Settings) (c : Context) → Fits ids z text t c → (set : Initialised) → Full t o.set set → Row (Here ids c) set p (all_known (types ids ts)) (all_known (types ids us)))
      → Leads text t i (o ∷ outer) v e (o ∷ outer) w
  took p ts us r u stands is keeps before behind row =
      took_by p (reverse ts ++ r) (reverse us ++ r) u stands is keeps before behind
      (λ ids z c fits set full. (all_known (types ids ts), all_known (types ids us), operands ids r, row ids z c fits set full, same_below _ _ (on_stack ids ts r), on_stack ids us r))

  -- ---- how they stand in the bytes

  pub alone : (p : Op) → IsTold t.features.0 text i (i + 1) (λ q. q ≡ p) → i + 1 ≡ e → Stands t.features.0 text i e p
  alone p told behind = rw (← behind) (stood t.features.0 text i (i + 1) p told)

  pub stands : (p : Op) → IsTold t.features.0 text i e (λ q. q ≡ p) → Stands t.features.0 text i e p
  stands p told = stood t.features.0 text i e p told

  -- ---- variables

  pub took_local_get : Begins text i 0x20 → (x : ℕ) → GivesAt u32 text (i + 1) x e → x < length t.locals.items → HasValue t o.set x → w ≡ (get_or t.locals.items x 0 ∷ v.0, v.1)
      → Leads text t i (o ∷ outer) v e (o ∷ outer) w
  took_local_get begins x g lt has put =
      took (op.Memory (memory.LocalGet x)) [] ((get_or t.locals.items x 0) ∷ []) v.0 v.1
      (stands (op.Memory (memory.LocalGet x)) (told_with t.features.0 text i 32 32 begins refl (op.Memory (memory.LocalGet x)) refl refl _ refl refl refl (Index kind.Locals x) e refl (λ limits. index_of _ _ _ _ kind.Locals x g)))
      refl (λ set full. full) refl put
      (λ ids z c fits set full. (first c.bits _ fits.allows refl, (type_of ids (get_or t.locals.items x 0), record { local = fits.locals x lt; used = uses (Here ids c) _ fits.unshared }, full x lt has, (refl, refl))))

  pub took_local_set : Begins text i 0x21 → (x : ℕ) → GivesAt u32 text (i + 1) x e → x < length t.locals.items → v ≡ (get_or t.locals.items x 0 ∷ w.0, w.1)
      → Leads text t i (o ∷ outer) v e (o ∷ outer) w
  took_local_set begins x g lt taken =
      took (op.Memory (memory.LocalSet x)) ((get_or t.locals.items x 0) ∷ []) [] w.0 w.1
      (stands (op.Memory (memory.LocalSet x)) (told_with t.features.0 text i 33 33 begins refl (op.Memory (memory.LocalSet x)) refl refl _ refl refl refl (Index kind.Locals x) e refl (λ limits. index_of _ _ _ _ kind.Locals x g)))
      refl (λ set full k lt has. set_or (x == k) (set k) (full k lt has)) taken refl
      (λ ids z c fits set full. (first c.bits _ fits.allows refl, (type_of ids (get_or t.locals.items x 0), record { local = fits.locals x lt; used = uses (Here ids c) _ fits.unshared }, (refl, refl))))

  pub took_local_tee : Begins text i 0x22 → (x : ℕ) → GivesAt u32 text (i + 1) x e → x < length t.locals.items → (r : List ℕ) → v ≡ (get_or t.locals.items x 0 ∷ r, v.1) → w ≡ v
      → Leads text t i (o ∷ outer) v e (o ∷ outer) w
  took_local_tee begins x g lt r has stays =
      took (op.Memory (memory.LocalTee x)) ((get_or t.locals.items x 0) ∷ []) ((get_or t.locals.items x 0) ∷ []) r v.1
      (stands (op.Memory (memory.LocalTee x)) (told_with t.features.0 text i 34 34 begins refl (op.Memory (memory.LocalTee x)) refl refl _ refl refl refl (Index kind.Locals x) e refl (λ limits. index_of _ _ _ _ kind.Locals x g)))
      refl (λ set full k lt has. set_or (x == k) (set k) (full k lt has)) has (stays ∙ has)
      (λ ids z c fits set full. (first c.bits _ fits.allows refl, (type_of ids (get_or t.locals.items x 0), record { local = fits.locals x lt; used = uses (Here ids c) _ fits.unshared }, (refl, refl))))

  pub took_global_get : Begins text i 0x23 → (x : ℕ) → GivesAt u32 text (i + 1) x e → (h : Held) → slice_get t.known.globals.items x ≡ Some h → h.ty < no_code → w ≡ (h.ty ∷ v.0, v.1)
      → Leads text t i (o ∷ outer) v e (o ∷ outer) w
  took_global_get begins x g h there is_number put =
      took (op.Memory (memory.GlobalGet x)) [] (h.ty ∷ []) v.0 v.1
      (stands (op.Memory (memory.GlobalGet x)) (told_with t.features.0 text i 35 35 begins refl (op.Memory (memory.GlobalGet x)) refl refl _ refl refl refl (Index kind.Globals x) e refl (λ limits. index_of _ _ _ _ kind.Globals x g)))
      refl (λ set full. full) refl put
      (λ ids z c fits set full.
      let (q, at, is, writable) = fits.knows.globals x h there is_number in
      (first c.bits _ fits.allows refl, (_, global_read (Here ids c) x q (type_of ids h.ty) at (may_all (Here ids c) q.shared fits.unshared) is, (refl, refl))))

  pub took_global_set : Begins text i 0x24 → (x : ℕ) → GivesAt u32 text (i + 1) x e → (h : Held) → slice_get t.known.globals.items x ≡ Some h → h.ty < no_code → h.mutable ≡ true
      → v ≡ (h.ty ∷ w.0, w.1) → Leads text t i (o ∷ outer) v e (o ∷ outer) w
  took_global_set begins x g h there is_number writable taken =
      took (op.Memory (memory.GlobalSet x)) (h.ty ∷ []) [] w.0 w.1
      (stands (op.Memory (memory.GlobalSet x)) (told_with t.features.0 text i 36 36 begins refl (op.Memory (memory.GlobalSet x)) refl refl _ refl refl refl (Index kind.Globals x) e refl (λ limits. index_of _ _ _ _ kind.Globals x g)))
      refl (λ set full. full) taken refl
      (λ ids z c fits set full.
      let (q, at, is, same) = fits.knows.globals x h there is_number in
      (first c.bits _ fits.allows refl, (_, global_written (Here ids c) x q (type_of ids h.ty) at (may_all (Here ids c) q.shared fits.unshared) is (same ∙ writable), (refl, refl))))

  -- ---- numbers

  pub took_i32_const : Begins text i 65 → (x : ℤ) → GivesAt s32 text (i + 1) x e → w ≡ (0 ∷ v.0, v.1) → Leads text t i (o ∷ outer) v e (o ∷ outer) w
  took_i32_const begins x g put =
      took (op.Const (constant.I32Const x)) [] (0 ∷ []) v.0 v.1
      (stands (op.Const (constant.I32Const x)) (told_with t.features.0 text i 65 65 begins refl (op.Const (constant.I32Const x)) refl refl _ refl refl refl (I32Constant x) e refl (λ limits. i32_of _ _ _ _ x g)))
      refl (λ set full. full) refl put
      (λ ids z c fits set full. (first c.bits _ fits.allows refl, (_, refl, (refl, refl))))

  pub took_i64_const : Begins text i 66 → (x : ℤ) → GivesAt s64 text (i + 1) x e → w ≡ (1 ∷ v.0, v.1) → Leads text t i (o ∷ outer) v e (o ∷ outer) w
  took_i64_const begins x g put =
      took (op.Const (constant.I64Const x)) [] (1 ∷ []) v.0 v.1
      (stands (op.Const (constant.I64Const x)) (told_with t.features.0 text i 66 66 begins refl (op.Const (constant.I64Const x)) refl refl _ refl refl refl (I64Constant x) e refl (λ limits. i64_of _ _ _ _ x g)))
      refl (λ set full. full) refl put
      (λ ids z c fits set full. (first c.bits _ fits.allows refl, (_, refl, (refl, refl))))

  pub took_f32_const : Begins text i 67 → (x : Ieee32) → GivesAt (word 4) text (i + 1) x.0 e → w ≡ (2 ∷ v.0, v.1) → Leads text t i (o ∷ outer) v e (o ∷ outer) w
  took_f32_const begins x g put =
      took (op.Const (constant.F32Const x)) [] (2 ∷ []) v.0 v.1
      (stands (op.Const (constant.F32Const x)) (told_with t.features.0 text i 67 67 begins refl (op.Const (constant.F32Const x)) refl refl _ refl refl refl (F32Constant x) e refl (λ limits. f32_of _ _ _ _ x g)))
      refl (λ set full. full) refl put
      (λ ids z c fits set full. (first c.bits _ fits.allows refl, (_, refl, (refl, refl))))

  pub took_f64_const : Begins text i 68 → (x : Ieee64) → GivesAt (word 8) text (i + 1) x.0 e → w ≡ (3 ∷ v.0, v.1) → Leads text t i (o ∷ outer) v e (o ∷ outer) w
  took_f64_const begins x g put =
      took (op.Const (constant.F64Const x)) [] (3 ∷ []) v.0 v.1
      (stands (op.Const (constant.F64Const x)) (told_with t.features.0 text i 68 68 begins refl (op.Const (constant.F64Const x)) refl refl _ refl refl refl (F64Constant x) e refl (λ limits. f64_of _ _ _ _ x g)))
      refl (λ set full. full) refl put
      (λ ids z c fits set full. (first c.bits _ fits.allows refl, (_, refl, (refl, refl))))

  pub took_number : (code : ℕ) → Begins text i code → i + 1 ≡ e → (ts us : List ℕ) → IsNumberAt None code ts us → (r u : List ℕ) → v ≡ (reverse ts ++ r, u) → w ≡ (reverse us ++ r, u)
      → Leads text t i (o ∷ outer) v e (o ∷ outer) w
  took_number code begins behind ts us n r u taken put =
      took (op.Numeric n.operator) ts us r u
      (alone (op.Numeric n.operator) (told_alone t.features.0 text i code code begins refl (op.Numeric n.operator) (opcode_is (op.Numeric n.operator) code n.prefix_is n.code_is)
      (low_is_no_prefix code n.low) _ refl refl refl refl) behind)
      refl (λ set full. full) taken put
      (λ ids z c fits set full. (n.enabled c.bits fits.allows, (_, refl, (ap all_known (n.taken ids), ap all_known (n.given ids)))))

  pub took_prefixed : (code : ℕ) → BeginsPrefixed text i 0xfc code e → (ts us : List ℕ) → IsNumberAt (Some 0xfc) code ts us → (r u : List ℕ) → v ≡ (reverse ts ++ r, u) → w ≡ (reverse us ++ r, u)
      → Leads text t i (o ∷ outer) v e (o ∷ outer) w
  took_prefixed code begins ts us n r u taken put =
      let p = op.Numeric n.operator in
      let at = prefixed_of text i 0xfc code code e begins refl refl p (prefixed_is p 0xfc code n.prefix_is n.code_is) in
      took p ts us r u (stands p (is_told t.features.0 text i e p at _ refl refl refl refl))
      refl (λ set full. full) taken put
      (λ ids z c fits set full. (n.enabled c.bits fits.allows, (_, refl, (ap all_known (n.taken ids), ap all_known (n.given ids)))))

  -- ---- memories

  pub took_load : (code natural ty address : ℕ) → Begins text i code → IsAccessAt load code natural ty → IsArgumentAt t text (i + 1) natural address e
      → (r u : List ℕ) → v ≡ (address ∷ r, u) → w ≡ (ty ∷ r, u) → Leads text t i (o ∷ outer) v e (o ∷ outer) w
  took_load code natural ty address begins k h r u taken put =
      let x = argument (get_or text (i + 1) 0 % 16) natural h.memory None h.offset in
      let p = op.Memory (k.operator x) in
      took p (address ∷ []) (ty ∷ []) r u
      (stands p (told_with t.features.0 text i code code begins refl p (opcode_is p code (k.no_prefix x) (k.code_is x)) (low_is_no_prefix code k.low) _ refl (k.canonical x) refl
      (MemoryArgument Plainly natural x) e (k.carries x) (λ limits. access_of _ _ _ _ natural x (h.read Plainly))))
      refl (λ set full. rw (k.keeps x set) full) taken put
      (λ ids z c fits set full.
      let (m, there, wide) = h.there ids c.«module» fits.knows in
      let may = may_reach false m x (lt-ltb (get_or text (i + 1) 0 % 16) (natural + 1) (omega (arith, h.aligned))) h.reached refl in (
        first c.bits _ fits.allows (k.of x),
        k.row x (Here ids c) set _ _ (
          _,
          k.table x (Here ids c) ∙ accessed (Here ids c) false x m (load (number_of ty)) there may,
          (ap (λ (y : ValueType). all_known (y ∷ [])) (addressed ids address m.memory64 wide), ap (λ (y : ValueType). all_known (y ∷ [])) (k.of_number ids)),
        ),
      ))

  pub took_store : (code natural ty address : ℕ) → Begins text i code → IsAccessAt store code natural ty → IsArgumentAt t text (i + 1) natural address e
      → (r u : List ℕ) → v ≡ (ty ∷ address ∷ r, u) → w ≡ (r, u) → Leads text t i (o ∷ outer) v e (o ∷ outer) w
  took_store code natural ty address begins k h r u taken put =
      let x = argument (get_or text (i + 1) 0 % 16) natural h.memory None h.offset in
      let p = op.Memory (k.operator x) in
      took p (address ∷ ty ∷ []) [] r u
      (stands p (told_with t.features.0 text i code code begins refl p (opcode_is p code (k.no_prefix x) (k.code_is x)) (low_is_no_prefix code k.low) _ refl (k.canonical x) refl
      (MemoryArgument Plainly natural x) e (k.carries x) (λ limits. access_of _ _ _ _ natural x (h.read Plainly))))
      refl (λ set full. rw (k.keeps x set) full) taken put
      (λ ids z c fits set full.
      let (m, there, wide) = h.there ids c.«module» fits.knows in
      let may = may_reach false m x (lt-ltb (get_or text (i + 1) 0 % 16) (natural + 1) (omega (arith, h.aligned))) h.reached refl in (
        first c.bits _ fits.allows (k.of x),
        k.row x (Here ids c) set _ _ (
          _,
          k.table x (Here ids c) ∙ accessed (Here ids c) false x m (store (number_of ty)) there may,
          (
            ap (λ (y : ValueType). all_known (y ∷ type_of ids ty ∷ [])) (addressed ids address m.memory64 wide)
                ∙ ap (λ (y : ValueType). all_known (address_type m.memory64 ∷ y ∷ [])) (k.of_number ids),
            refl,
          ),
        ),
      ))

  pub took_memory_size : (x address : ℕ) → Begins text i 63 → Reaches t x address → GivesAt (index_or_zero (may_index t.features.0 kind.Memories)) text (i + 1) x e
      → w ≡ (address ∷ v.0, v.1) → Leads text t i (o ∷ outer) v e (o ∷ outer) w
  took_memory_size x address begins has g put =
      let p = op.Memory (memory.MemorySize x) in
      took p [] (address ∷ []) v.0 v.1
      (stands p (told_with t.features.0 text i 63 63 begins refl p refl refl _ refl refl refl (IndexOrZero kind.Memories x) e refl (λ limits. zero_of _ _ _ _ kind.Memories x g)))
      refl (λ set full. full) refl put
      (λ ids z c fits set full.
      let (m, there, wide) = has ids c.«module» fits.knows in
      (first c.bits _ fits.allows refl, (_, sized (Here ids c) x m there, (refl, ap (λ (y : ValueType). all_known (y ∷ [])) (addressed ids address m.memory64 wide)))))

  pub took_memory_grow : (x address : ℕ) → Begins text i 64 → Reaches t x address → GivesAt (index_or_zero (may_index t.features.0 kind.Memories)) text (i + 1) x e
      → (r : List ℕ) → v ≡ (address ∷ r, v.1) → w ≡ v → Leads text t i (o ∷ outer) v e (o ∷ outer) w
  took_memory_grow x address begins has g r there_is stays =
      let p = op.Memory (memory.MemoryGrow x) in
      took p (address ∷ []) (address ∷ []) r v.1
      (stands p (told_with t.features.0 text i 64 64 begins refl p refl refl _ refl refl refl (IndexOrZero kind.Memories x) e refl (λ limits. zero_of _ _ _ _ kind.Memories x g)))
      refl (λ set full. full) there_is (stays ∙ there_is)
      (λ ids z c fits set full.
      let (m, there, wide) = has ids c.«module» fits.knows in
      let is = ap (λ (y : ValueType). all_known (y ∷ [])) (addressed ids address m.memory64 wide) in
      (first c.bits _ fits.allows refl, (_, grown (Here ids c) x m there, (is, is))))

  pub took_copy : (n k : ℕ) → BeginsPrefixed text i 0xfc 10 n → (x y to from least : ℕ) → GivesAt u32 text n x k → GivesAt u32 text k y e → Reaches t x to → Reaches t y from
      → ((a b : Bool) → to ≡ address_of a → from ≡ address_of b → least ≡ address_of (a && b)) → (r u : List ℕ) → v ≡ (least ∷ from ∷ to ∷ r, u) → w ≡ (r, u)
      → Leads text t i (o ∷ outer) v e (o ∷ outer) w
  took_copy n k begins x y to from least g h has also lengths r u taken put =
      let p = op.Bulk (bulk.MemoryCopy x y) in
      let at = prefixed_of text i 0xfc 10 10 n begins refl refl p refl in
      took p (to ∷ from ∷ least ∷ []) [] r u
      (stands p (is_told_with_two t.features.0 text i n p at _ refl refl refl (Index kind.Memories x) (Index kind.Memories y) k e refl
      (λ limits. index_of _ _ _ _ kind.Memories x g) (λ limits. index_of _ _ _ _ kind.Memories y h)))
      refl (λ set full. full) taken put
      (λ ids z c fits set full.
      let (a, there, wide) = has ids c.«module» fits.knows in
      let (b, other, broad) = also ids c.«module» fits.knows in
      let long = addressed ids least (a.memory64 && b.memory64) (lengths a.memory64 b.memory64 wide broad) in (
        of_feature c.bits p proposals.BulkMemoryOpt BulkMemoryOpt fits.allows refl fits.allows.bulk refl,
        (
          _,
          copied (Here ids c) x y a b there other,
          (
            ap (λ (z : ValueType). all_known (z ∷ type_of ids from ∷ type_of ids least ∷ [])) (addressed ids to a.memory64 wide)
                ∙ ap (λ (z : ValueType). all_known (address_type a.memory64 ∷ z ∷ type_of ids least ∷ [])) (addressed ids from b.memory64 broad)
                ∙ ap (λ (z : ValueType). all_known (address_type a.memory64 ∷ address_type b.memory64 ∷ z ∷ [])) long,
            refl,
          ),
        ),
      ))

  pub took_fill : (n x address : ℕ) → BeginsPrefixed text i 0xfc 11 n → Reaches t x address → GivesAt u32 text n x e → (r u : List ℕ) → v ≡ (address ∷ 0 ∷ address ∷ r, u) → w ≡ (r, u)
      → Leads text t i (o ∷ outer) v e (o ∷ outer) w
  took_fill n x address begins has g r u taken put =
      let p = op.Bulk (bulk.MemoryFill x) in
      let at = prefixed_of text i 0xfc 11 11 n begins refl refl p refl in
      took p (address ∷ 0 ∷ address ∷ []) [] r u
      (stands p (is_told_with t.features.0 text i n p at _ refl refl refl (Index kind.Memories x) e refl (λ limits. index_of _ _ _ _ kind.Memories x g)))
      refl (λ set full. full) taken put
      (λ ids z c fits set full.
      let (m, there, wide) = has ids c.«module» fits.knows in (
        of_feature c.bits p proposals.BulkMemoryOpt BulkMemoryOpt fits.allows refl fits.allows.bulk refl,
        (_, filled (Here ids c) x m there, (ap (λ (y : ValueType). all_known (y ∷ number i32 ∷ y ∷ [])) (addressed ids address m.memory64 wide), refl)),
      ))

  pub took_init : (n k x address : ℕ) → BeginsPrefixed text i 0xfc 8 n → Reaches t x address → Has t.features.0 BulkMemory → (d : ℕ) → GivesAt u32 text n d k → GivesAt u32 text k x e
      → d < t.known.«data» → (r u : List ℕ) → v ≡ (0 ∷ 0 ∷ address ∷ r, u) → w ≡ (r, u) → Leads text t i (o ∷ outer) v e (o ∷ outer) w
  took_init n k x address begins has allowed d g h lt r u taken put =
      let p = op.Bulk (bulk.MemoryInit d x) in
      let at = prefixed_of text i 0xfc 8 8 n begins refl refl p refl in
      took p (address ∷ 0 ∷ 0 ∷ []) [] r u
      (stands p (is_told_with_two t.features.0 text i n p at _ refl refl refl (Index kind.DataSegments d) (Index kind.Memories x) k e refl
      (λ limits. index_of _ _ _ _ kind.DataSegments d g) (λ limits. index_of _ _ _ _ kind.Memories x h)))
      refl (λ set full. full) taken put
      (λ ids z c fits set full.
      let (m, there, wide) = has ids c.«module» fits.knows in (
        of_feature c.bits p proposals.BulkMemory BulkMemory fits.allows refl (rw fits.bits allowed) refl,
        (
          _,
          inited (Here ids c) x m d there (fits.knows.«data» d lt),
          (ap (λ (y : ValueType). all_known (y ∷ number i32 ∷ number i32 ∷ [])) (addressed ids address m.memory64 wide), refl),
        ),
      ))

  pub took_data_drop : (n : ℕ) → BeginsPrefixed text i 0xfc 9 n → Has t.features.0 BulkMemory → (d : ℕ) → GivesAt u32 text n d e → d < t.known.«data» → w ≡ v
      → Leads text t i (o ∷ outer) v e (o ∷ outer) w
  took_data_drop n begins allowed d g lt stays =
      let p = op.Bulk (bulk.DataDrop d) in
      let at = prefixed_of text i 0xfc 9 9 n begins refl refl p refl in
      took p [] [] v.0 v.1
      (stands p (is_told_with t.features.0 text i n p at _ refl refl refl (Index kind.DataSegments d) e refl (λ limits. index_of _ _ _ _ kind.DataSegments d g)))
      refl (λ set full. full) refl stays
      (λ ids z c fits set full. (
        of_feature c.bits p proposals.BulkMemory BulkMemory fits.allows refl (rw fits.bits allowed) refl,
        (_, ap (λ (b : Bool). provided b ([] ⟶ [])) (fits.knows.«data» d lt), (refl, refl)),
      ))

  -- ---- operands of any type

  pub took_nop : Begins text i 0x01 → i + 1 ≡ e → w ≡ v → Leads text t i (o ∷ outer) v e (o ∷ outer) w
  took_nop begins behind stays =
      took (op.Control control.Nop) [] [] v.0 v.1
      (alone (op.Control control.Nop) (told_alone t.features.0 text i 1 1 begins refl (op.Control control.Nop) refl refl _ refl refl refl refl) behind)
      refl (λ set full. full) refl stays
      (λ ids z c fits set full. (first c.bits _ fits.allows refl, (refl, refl)))

  pub took_drop : Begins text i 0x1a → i + 1 ≡ e → (k : ℕ) → v ≡ (k ∷ w.0, w.1) → Leads text t i (o ∷ outer) v e (o ∷ outer) w
  took_drop begins behind k taken =
      took (op.Parametric op.Drop) (k ∷ []) [] w.0 w.1
      (alone (op.Parametric op.Drop) (told_alone t.features.0 text i 26 26 begins refl (op.Parametric op.Drop) refl refl _ refl refl refl refl) behind)
      refl (λ set full. full) taken refl
      (λ ids z c fits set full. (first c.bits _ fits.allows refl, (known (type_of ids k), refl, refl)))

  pub took_select : Begins text i 0x1b → i + 1 ≡ e → (k : ℕ) (r : List ℕ) → k < 8 → v ≡ (0 ∷ k ∷ w.0, w.1) → w ≡ (k ∷ r, w.1) → Leads text t i (o ∷ outer) v e (o ∷ outer) w
  took_select begins behind k r few taken under =
      let all : (0 ∷ k ∷ w.0, w.1) ≡ (0 ∷ k ∷ k ∷ r, w.1) = ap (λ (x : Values). (0 ∷ k ∷ x.0, w.1)) under in
      took (op.Parametric op.Select) (k ∷ k ∷ 0 ∷ []) (k ∷ []) r w.1
      (alone (op.Parametric op.Select) (told_alone t.features.0 text i 27 27 begins refl (op.Parametric op.Select) refl refl _ refl refl refl refl) behind)
      refl (λ set full. full) (taken ∙ all) under
      (λ ids z c fits set full. (first c.bits _ fits.allows refl, (known (type_of ids k), is_number ids k few, refl, refl)))

  -- ---- calls

  pub took_call : Begins text i 0x10 → (x : ℕ) → GivesAt u32 text (i + 1) x e → (s : Sig) → slice_get t.known.callees.items x ≡ Some s
      → s.param_count ≤ length t.known.flat.items → (ps rs : List ℕ) → ps ≡ params_in t.known.flat.items s → rs ≡ results_in t.known.flat.items s
      → (m : Values) → v ≡ with_all ps m → w ≡ with_all rs m → Leads text t i (o ∷ outer) v e (o ∷ outer) w
  took_call begins x g s callee usable ps rs same_ps same_rs m taken put =
      took (op.Control (control.Call x)) ps rs m.0 m.1
      (stands (op.Control (control.Call x)) (told_with t.features.0 text i 16 16 begins refl (op.Control (control.Call x)) refl refl _ refl refl refl (Index kind.Functions x) e refl (λ limits. index_of _ _ _ _ kind.Functions x g)))
      refl (λ set full. full) taken put
      (λ ids z c fits set full.
      let (f, there, is) = fits.knows.callees x s callee usable in (
        first c.bits _ fits.allows refl,
        (
          signature_in ids t.known.flat.items s,
          (f, there, uses (Here ids c) _ fits.unshared, is),
          (ap (λ xs. all_known (types ids xs)) same_ps, ap (λ xs. all_known (types ids xs)) same_rs),
        ),
      ))

  pub took_indirect : Begins text i 0x11 → (x a : ℕ) → CallsThrough t x a → (y n : ℕ) → GivesAt u32 text (i + 1) y n
      → GivesAt (index_or_zero (may_index t.features.0 kind.Tables)) text n x e
      → (s : Sig) → slice_get t.known.types.items y ≡ Some s → s.param_count ≤ length t.known.flat.items
      → (ps rs : List ℕ) → ps ≡ params_in t.known.flat.items s → rs ≡ results_in t.known.flat.items s
      → (m k : Values) → v ≡ (a ∷ m.0, m.1) → m ≡ with_all ps k → w ≡ with_all rs k → Leads text t i (o ∷ outer) v e (o ∷ outer) w
  took_indirect begins x a through y n g h s type usable ps rs same_ps same_rs m k index taken put =
      let p = op.Control (control.CallIndirect y x) in
      let all : reverse (ps ++ a ∷ []) ++ k.0 ≡ a ∷ (reverse ps ++ k.0) = grind (arith, common_steps) in
      took p (ps ++ a ∷ []) rs k.0 k.1
      (stands p (told_with_two t.features.0 text i 17 17 begins refl p refl refl _ refl refl refl (Index kind.Types y) (IndexOrZero kind.Tables x) n e refl
      (λ limits. index_of _ _ _ _ kind.Types y g) (λ limits. zero_of _ _ _ _ kind.Tables x h)))
      refl (λ set full. full) (index ∙ ap (λ (x : Values). (a ∷ x.0, x.1)) taken ∙ ap (λ xs. (xs, k.1)) (sym all)) put
      (λ ids z c fits set full.
      let (tab, there, wide, functions) = through ids c.«module» fits.knows in
      let (f, at, is) = fits.knows.types y s type usable in
      let b = signature_in ids t.known.flat.items s in
      let address = addressed ids a tab.table64 wide in (
        first c.bits _ fits.allows refl,
        (
          tab,
          b,
          record {
            table = there;
            table_used = uses (Here ids c) tab.shared fits.unshared;
            functions = functions;
            callee = f;
            type = at;
            type_used = uses (Here ids c) _ fits.unshared;
            function = is;
          },
          (
            ap all_known (map-append (type_of ids) ps (a ∷ []) ∙ ap (λ xs. types ids xs ++ type_of ids a ∷ []) same_ps ∙ ap (λ (x : ValueType). b.params ++ x ∷ []) address),
            ap (λ xs. all_known (types ids xs)) same_rs,
          ),
        ),
      ))

  -- ---- branches

  -- what a branch takes
  label_known : (ids : List TypeTree) (k : FrameKind) (s : Sig) → label_types k (signature_in ids t.known.flat.items s) ≡ types ids (label_in t.known.flat.items k s)
  label_known ids frames.Block s = refl
  label_known ids frames.If s = refl
  label_known ids frames.Else s = refl
  label_known ids frames.Loop s = refl
  label_known ids frames.TryTable s = refl
  label_known ids frames.LegacyTry s = refl
  label_known ids frames.LegacyCatch s = refl
  label_known ids frames.LegacyCatchAll s = refl

  label_at : (ids : List TypeTree) (opens : List Open) (more : List (List ValueType)) (d : ℕ) (f : Open) → slice_get opens d ≡ Some f
      → slice_get (map (label ids t.known.flat.items) opens ++ more) d ≡ Some (types ids (label_in t.known.flat.items f.kind f.sig))
  label_at ids [] more d f there = cc
  label_at ids (a ∷ opens) more zero f there = let s : a ≡ f = cc in ap Some (label_known ids a.kind a.sig ∙ ap (λ (x : Open). types ids (label_in t.known.flat.items x.kind x.sig)) s)
  label_at ids (a ∷ opens) more (suc d) f there = label_at ids opens more d f there

  pub label_there : (ids : List TypeTree) (c : Context) (d : ℕ) (f : Open) → slice_get (o ∷ outer) d ≡ Some f → (ls : List ℕ) → ls ≡ label_in t.known.flat.items f.kind f.sig → IsLabel (Here ids c) d (types ids ls)
  label_there ids c d f there ls same = label_at ids (o ∷ outer) c.labels d f there ∙ ap (λ xs. Some (types ids xs)) (sym same)

  pub fit_each : (ids : List TypeTree) (c : Context) (ls ds : List ℕ) → All (Takes t.known.flat.items (o ∷ outer) ls) ds → FitEach (Here ids c) (all_known (types ids ls)) ds
  fit_each ids c ls [] h = tt
  fit_each ids c ls (d ∷ ds) h =
      let (f, there, same) = h 0 0 (omega arith) in
      ((types ids ls, label_there ids c d f there ls same, all_below_refl (all_known (types ids ls))), fit_each ids c ls ds (λ k n lt. h (suc k) n (omega (arith, lt))))

  pub took_br_if : Begins text i 0x0d → (d : ℕ) → GivesAt u32 text (i + 1) d e → (f : Open) → slice_get (o ∷ outer) d ≡ Some f
      → (ls : List ℕ) → ls ≡ label_in t.known.flat.items f.kind f.sig → (m n : Values) → v ≡ (0 ∷ m.0, m.1) → m ≡ with_all ls n → w ≡ with_all ls n
      → Leads text t i (o ∷ outer) v e (o ∷ outer) w
  took_br_if begins d g f there ls same m n condition taken put =
      let all : reverse (ls ++ 0 ∷ []) ++ n.0 ≡ 0 ∷ (reverse ls ++ n.0) = grind (arith, common_steps) in
      took (op.Control (control.BrIf d)) (ls ++ 0 ∷ []) ls n.0 n.1
      (stands (op.Control (control.BrIf d)) (told_with t.features.0 text i 13 13 begins refl (op.Control (control.BrIf d)) refl refl _ refl refl refl (Label d) e refl (λ limits. label_of _ _ _ _ d g)))
      refl (λ set full. full) (condition ∙ ap (λ (x : Values). (0 ∷ x.0, x.1)) taken ∙ ap (λ xs. (xs, n.1)) (sym all)) put
      (λ ids z c fits set full. (first c.bits _ fits.allows refl, (types ids ls, label_there ids c d f there ls same, (ap all_known (map-append (type_of ids) ls (0 ∷ [])), refl))))

  -- all operands are popped, and any may lie behind it
  pub popped_all : (ls r : List ℕ) (ids : List TypeTree) → operands ids (reverse ls ++ r) ≡ reverse (reverse (operands ids r) ++ all_known (types ids ls)) ++ []
  popped_all ls r ids = on_stack ids ls r ∙ (let h : stack (types ids ls) ++ operands ids r ≡ reverse (reverse (operands ids r) ++ all_known (types ids ls)) ++ [] = grind (arith, common_steps) in h)

  pub took_away : (p : Op) (a rs u : List ℕ) → Stands t.features.0 text i e p → role_of p ≡ Plain → ((set : Initialised) → Full t o.set set → Full t o.set (after p set))
      → v ≡ (a, u) → w ≡ with_all rs ([], u) → (popped : List TypeTree → List Operand) → ((ids : List TypeTree) → operands ids a ≡ reverse (popped ids) ++ [])
      → ((ids : List TypeTree) (z : Settings) (c : Context) → Fits ids z text t c → (set : Initialised) → Full t o.set set → Row (Here ids c) set p (popped ids) (all_known (types ids rs)))
      → Leads text t i (o ∷ outer) v e (o ∷ outer) w
  took_away p a rs u stands is keeps before behind popped all row =
      took_by p a (reverse rs ++ []) u stands is keeps before behind
      (λ ids z c fits set full. (popped ids, all_known (types ids rs), [], row ids z c fits set full, same_below _ _ (all ids), on_stack ids rs []))

  pub took_br : Begins text i 0x0c → (d : ℕ) → GivesAt u32 text (i + 1) d e → (f : Open) → slice_get (o ∷ outer) d ≡ Some f
      → (ls : List ℕ) → ls ≡ label_in t.known.flat.items f.kind f.sig → (m : Values) (rs : List ℕ) → v ≡ with_all ls m → w ≡ with_all rs ([], m.1)
      → Leads text t i (o ∷ outer) v e (o ∷ outer) w
  took_br begins d g f there ls same m rs taken put =
      took_away (op.Control (control.Br d)) (reverse ls ++ m.0) rs m.1
      (stands (op.Control (control.Br d)) (told_with t.features.0 text i 12 12 begins refl (op.Control (control.Br d)) refl refl _ refl refl refl (Label d) e refl (λ limits. label_of _ _ _ _ d g)))
      refl (λ set full. full) taken put (λ ids. reverse (operands ids m.0) ++ all_known (types ids ls)) (popped_all ls m.0)
      (λ ids z c fits set full. (first c.bits _ fits.allows refl, (types ids ls, reverse (operands ids m.0), label_there ids c d f there ls same, refl)))

  pub popped_index : (a : ℕ) (ls r : List ℕ) (ids : List TypeTree) → operands ids (a ∷ (reverse ls ++ r)) ≡ reverse (reverse (operands ids r) ++ (all_known (types ids ls) ++ known (type_of ids a) ∷ [])) ++ []
  popped_index a ls r ids =
      ap (λ xs. known (type_of ids a) ∷ xs) (on_stack ids ls r)
      ∙ (let h : known (type_of ids a) ∷ (stack (types ids ls) ++ operands ids r) ≡ reverse (reverse (operands ids r) ++ (all_known (types ids ls) ++ known (type_of ids a) ∷ [])) ++ [] = grind (arith, common_steps) in h)

  pub took_br_table : Begins text i 0x0e → (count n : ℕ) → GivesAt u32 text (i + 1) count n → count ≤ length text → (ls : List ℕ)
      → AreLabels t.known.flat.items text (o ∷ outer) n count ls e → (m k : Values) (rs : List ℕ) → v ≡ (0 ∷ m.0, m.1) → m ≡ with_all ls k → w ≡ with_all rs ([], k.1)
      → Leads text t i (o ∷ outer) v e (o ∷ outer) w
  took_br_table begins count n g few ls h m k rs index taken put =
      took_away (op.Control (control.BrTable (record { targets = h.targets; default = h.default }))) (0 ∷ (reverse ls ++ k.0)) rs k.1
      (labels_stand t.known.flat.items text (o ∷ outer) i count n e ls t.features.0 begins g few h)
      refl (λ set full. full) (index ∙ ap (λ (x : Values). (0 ∷ x.0, x.1)) taken) put
      (λ ids. reverse (operands ids k.0) ++ (all_known (types ids ls) ++ known (number i32) ∷ [])) (popped_index 0 ls k.0)
      (λ ids z c fits set full. (first c.bits _ fits.allows refl, (all_known (types ids ls), reverse (operands ids k.0), fit_each ids c ls (h.default ∷ h.targets) h.take, refl)))

  pub took_return : Begins text i 0x0f → i + 1 ≡ e → (ls : List ℕ) → ls ≡ results_in t.known.flat.items t.results → (m : Values) (rs : List ℕ) → v ≡ with_all ls m → w ≡ with_all rs ([], m.1)
      → Leads text t i (o ∷ outer) v e (o ∷ outer) w
  took_return begins behind ls same m rs taken put =
      took_away (op.Control control.Return) (reverse ls ++ m.0) rs m.1
      (alone (op.Control control.Return) (told_alone t.features.0 text i 15 15 begins refl (op.Control control.Return) refl refl _ refl refl refl refl) behind)
      refl (λ set full. full) taken put (λ ids. reverse (operands ids m.0) ++ all_known (types ids ls)) (popped_all ls m.0)
      (λ ids z c fits set full. (first c.bits _ fits.allows refl, (reverse (operands ids m.0), ap (λ xs. reverse (operands ids m.0) ++ all_known xs) (ap (types ids) same ∙ sym fits.results))))

  -- ---- calls in the place of a return

  -- what is called gives what the function that is judged gives
  pub gives_the_same : (ids : List TypeTree) (z : Settings) (c : Context) → Fits ids z text t c → (y : ℕ) (ps : List ℕ) (h : ReturnsBy t y ps)
      → AllBelow (all_known (signature_in ids t.known.flat.items h.sig).results) (all_known c.results)
  gives_the_same ids z c fits y ps h = same_below _ _ (ap (λ xs. all_known (types ids xs)) h.gives ∙ ap all_known (sym fits.results))

  pub took_return_call : Begins text i 0x12 → Has t.features.0 TailCall → (x : ℕ) → GivesAt u32 text (i + 1) x e → (y : ℕ) → slice_get t.known.functions.items x ≡ Some y
      → (ps : List ℕ) → ReturnsBy t y ps → (m : Values) (rs : List ℕ) → v ≡ with_all ps m → w ≡ with_all rs ([], m.1) → Leads text t i (o ∷ outer) v e (o ∷ outer) w
  took_return_call begins has x g y function ps h m rs taken put =
      let p = op.Control (control.ReturnCall x) in
      took_away p (reverse ps ++ m.0) rs m.1
      (stands p (told_with t.features.0 text i 18 18 begins refl p refl refl _ refl refl refl (Index kind.Functions x) e refl (λ limits. index_of _ _ _ _ kind.Functions x g)))
      refl (λ set full. full) taken put (λ ids. reverse (operands ids m.0) ++ all_known (types ids ps)) (popped_all ps m.0)
      (λ ids z c fits set full.
      let (f, there, at) = fits.knows.functions x y function in
      let (k, also, is) = fits.knows.types y h.sig h.at h.usable in
      let b = signature_in ids t.known.flat.items h.sig in (
        of_feature c.bits p proposals.TailCall TailCall fits.allows refl (rw fits.bits has) refl,
        (
          b,
          reverse (operands ids m.0),
          (f, there, uses (Here ids c) _ fits.unshared, function_of f k b c.«module».types y at also is),
          gives_the_same ids z c fits y ps h,
          ap (λ xs. reverse (operands ids m.0) ++ all_known (types ids xs)) h.takes,
        ),
      ))

  pub took_return_indirect : Begins text i 0x13 → Has t.features.0 TailCall → (x a : ℕ) → CallsThrough t x a → (y n : ℕ) → GivesAt u32 text (i + 1) y n
      → GivesAt u32 text n x e
      → (ps : List ℕ) → ReturnsBy t y ps → (m k : Values) (rs : List ℕ) → v ≡ (a ∷ m.0, m.1) → m ≡ with_all ps k → w ≡ with_all rs ([], k.1)
      → Leads text t i (o ∷ outer) v e (o ∷ outer) w
  took_return_indirect begins has x a through y n g there_is ps h m k rs index taken put =
      let p = op.Control (control.ReturnCallIndirect y x) in
      took_away p (a ∷ (reverse ps ++ k.0)) rs k.1
      (stands p (told_with_two t.features.0 text i 19 19 begins refl p refl refl _ refl refl refl (Index kind.Types y) (Index kind.Tables x) n e refl
      (λ limits. index_of _ _ _ _ kind.Types y g) (λ limits. index_of _ _ _ _ kind.Tables x there_is)))
      refl (λ set full. full) (index ∙ ap (λ (x : Values). (a ∷ x.0, x.1)) taken) put
      (λ ids. reverse (operands ids k.0) ++ (all_known (types ids ps) ++ known (type_of ids a) ∷ [])) (popped_index a ps k.0)
      (λ ids z c fits set full.
      let (tab, there, wide, functions) = through ids c.«module» fits.knows in
      let (f, at, is) = fits.knows.types y h.sig h.at h.usable in
      let b = signature_in ids t.known.flat.items h.sig in
      let address = addressed ids a tab.table64 wide in (
        of_feature c.bits p proposals.TailCall TailCall fits.allows refl (rw fits.bits has) refl,
        (
          tab,
          b,
          reverse (operands ids k.0),
          record {
            table = there;
            table_used = uses (Here ids c) tab.shared fits.unshared;
            functions = functions;
            callee = f;
            type = at;
            type_used = uses (Here ids c) _ fits.unshared;
            function = is;
          },
          gives_the_same ids z c fits y ps h,
          ap (λ xs. reverse (operands ids k.0) ++ xs) (ap (λ xs. all_known (types ids xs) ++ known (type_of ids a) ∷ []) h.takes ∙ sym (map-append known b.params (type_of ids a ∷ []))
              ∙ ap (λ (x : ValueType). all_known (b.params ++ x ∷ [])) address),
        ),
      ))

  pub took_unreachable : Begins text i 0x00 → i + 1 ≡ e → (rs : List ℕ) → w ≡ with_all rs ([], v.1) → Leads text t i (o ∷ outer) v e (o ∷ outer) w
  took_unreachable begins behind rs put =
      took_away (op.Control control.Unreachable) v.0 rs v.1
      (alone (op.Control control.Unreachable) (told_alone t.features.0 text i 0 0 begins refl (op.Control control.Unreachable) refl refl _ refl refl refl refl) behind)
      refl (λ set full. full) refl put (λ ids. reverse (operands ids v.0)) (λ ids. let h : operands ids v.0 ≡ reverse (reverse (operands ids v.0)) ++ [] = grind (arith, common_steps) in h)
      (λ ids z c fits set full. (first c.bits _ fits.allows refl, tt))
