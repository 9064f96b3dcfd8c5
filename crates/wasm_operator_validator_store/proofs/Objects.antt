-- Operators on structs and arrays over a store.
use Rattle.std.proofs.Common.{◌≡◌, ◌⊎◌, inl, inr, ℕ, zero, suc, Bool, true, false, IsTrue, List, [], ◌∷◌, ◌++◌, Option, Some, None, refl, sym, ap, subst, ◌∙◌, length, take, drop, get_or, slice_get, true≢false}
use mathlib.Core.Logic.{⊎_elim}
use Rattle.wasm_types.specs.trees.Types.{i8, i16, value, ref, concrete, StorageOf, FieldOf, InnerOf, array_of, struct_of}
use Rattle.wasm_types.specs.trees.Trees.{TypeTree}
use Rattle.wasm_types.specs.trees.Below.{expanded}
use Rattle.wasm_operators_enums.specs.declared.gc.GcOperator.TheVariants as gc
use Rattle.wasm_operators_enums.specs.Op as op
use Rattle.wasm_operators_enums.specs.Op.{Op}
use Rattle.wasm_operators_encoding.specs.expressions.Code.{Code, plain}
use Rattle.wasm_operator_validator_rules.specs.Operands.{ValueType, Operand, known, stack}
use Rattle.wasm_operator_validator_rules.specs.InstructionTypes.{i32_type}
use Rattle.wasm_operator_validator_soundness.specs.runs.Values.{Program, Value, number_value, ref_null, ref_function, ref_object, ref_i31, ref_host, ref_extern, ref_exn, Fits, AllFit}
use Rattle.wasm_operator_validator_soundness.specs.runs.States.{Activation, Answer}
use Rattle.wasm_operator_validator_soundness.specs.runs.States.{Move, asks, found, pops, trapped, done, choose}
use Rattle.wasm_operator_validator_soundness.specs.runs.ValidStates.{IsValidOutcome}
use Rattle.wasm_operator_validator_soundness.specs.runs.Machine.{IsWhole, IsPacked, operand_of, struct_fields, array_fields, writes, last_of, gives, may_trap, goes, takes, object, object_under, read, write, execute}
use Rattle.wasm_operator_validator_soundness.specs.runs.Soundness.{IsValidProgram}
use Rattle.wasm_operator_validator_store.specs.Stores.{ObjectInstance, Store, nothing, bits_of, placed, unpacked, field_at, with_fields}
use Rattle.wasm_operator_validator_store.specs.ValidStores.{Each, Pairs, Knows, Has, HasField, FieldsFit, ObjectFits, IsLater}
use Rattle.wasm_operator_validator_store.specs.Giving.{Traps, OrTraps, There, OfObject, Reads, GivesOperator}
use Rattle.wasm_operator_validator_store.specs.Soundness.{AreValid}
use Rattle.wasm_operator_validator_store.proofs.Lists.{same_some, none_some, map_some, each_get, each_placed, placed_length}
use Rattle.wasm_operator_validator_store.proofs.Operating.{CodeNew}
use Rattle.wasm_operator_validator_store.proofs.Storing.{fields_evolve, written_fits}
use Rattle.wasm_operator_validator_store.proofs.Answering.{IsDone, found_needs, found_answer, no_trap, a_trap, no_trap_needs, told, top_known}
use Rattle.wasm_operator_validator_store.proofs.Accessing.{unchanged, values_known}

abbrev pub Fields : Type 0
Fields = List (FieldOf TypeTree)

abbrev pub Holding : Type 0
Holding = InnerOf TypeTree → Option Fields

-- ---- fields of a type

field_of_struct : (fs : Fields) (i : ℕ) (f : FieldOf TypeTree) → slice_get fs i ≡ Some f → field_at (struct_of fs) i ≡ Some f
field_of_struct [] i f e = absurd (none_some f e)
field_of_struct (g ∷ fs) zero f e = e
field_of_struct (g ∷ fs) (suc i) f e = field_of_struct fs i f e

pub struct_at : (i : ℕ) (x : InnerOf TypeTree) (fs : Fields) (f : FieldOf TypeTree) → struct_fields x ≡ Some fs → slice_get fs i ≡ Some f → field_at x i ≡ Some f
struct_at i (struct_of gs) fs f e d = field_of_struct gs i f (subst (λ (hs : Fields). slice_get hs i ≡ Some f) (sym (same_some gs fs e)) d)
struct_at i (array_of g) fs f e d = absurd (none_some fs e)
struct_at i x fs f e d = absurd (none_some fs e)

pub array_at : (i : ℕ) (x : InnerOf TypeTree) (fs : Fields) (f : FieldOf TypeTree) → array_fields x ≡ Some fs → slice_get fs 0 ≡ Some f → field_at x i ≡ Some f
array_at i (array_of g) fs f e d = subst (λ (hs : Fields). slice_get hs 0 ≡ Some f) (sym (same_some (g ∷ []) fs e)) d
array_at i (struct_of gs) fs f e d = absurd (none_some fs e)
array_at i x fs f e d = absurd (none_some fs e)

module _ (p : Program) (s : Store) where
  struct_has : (fs : Fields) (vs : List Value) (i : ℕ) (f : FieldOf TypeTree) (w : Value) → Pairs (HasField p s) fs vs → field_at (struct_of fs) i ≡ Some f → slice_get vs i ≡ Some w → HasField p s f w
  struct_has [] [] i f w h e d = absurd (none_some f e)
  struct_has [] (v ∷ vs) i f w h e d = absurd h
  struct_has (g ∷ fs) [] i f w h e d = absurd h
  struct_has (g ∷ fs) (v ∷ vs) zero f w h e d = subst (λ k. HasField p s k w) (same_some g f e) (subst (HasField p s g) (same_some v w d) h.0)
  struct_has (g ∷ fs) (v ∷ vs) (suc i) f w h e d = struct_has fs vs i f w h.1 e d

  pub field_has : (x : InnerOf TypeTree) (vs : List Value) (i : ℕ) (f : FieldOf TypeTree) (w : Value) → FieldsFit p s x vs → field_at x i ≡ Some f → slice_get vs i ≡ Some w → HasField p s f w
  field_has (struct_of fs) vs i f w h e d = struct_has fs vs i f w h e d
  field_has (array_of g) vs i f w h e d = subst (λ k. HasField p s k w) (same_some g f e) (each_get (HasField p s g) vs i w h d)
  field_has x vs i f w h e d = absurd h

  pub unpacked_has : (c : Bool) (t : StorageOf TypeTree) (w : Value) → Has p s (operand_of t) w → Has p s (operand_of t) (unpacked c t w)
  unpacked_has c i8 w h = ((tt, refl), tt)
  unpacked_has c i16 w h = ((tt, refl), tt)
  unpacked_has c (value t) w h = h

  struct_placed : (fs : Fields) (vs : List Value) (i : ℕ) (f : FieldOf TypeTree) (w : Value) (zs : List Value) → Pairs (HasField p s) fs vs → field_at (struct_of fs) i ≡ Some f → HasField p s f w → placed vs i (w ∷ []) ≡ Some zs → Pairs (HasField p s) fs zs
  struct_placed [] [] i f w zs h e k d = absurd (none_some f e)
  struct_placed [] (v ∷ vs) i f w zs h e k d = absurd h
  struct_placed (g ∷ fs) [] i f w zs h e k d = absurd h
  struct_placed (g ∷ fs) (v ∷ vs) zero f w zs h e k d = subst (Pairs (HasField p s) (g ∷ fs)) (same_some (w ∷ vs) zs d) (subst (λ q. HasField p s q w) (sym (same_some g f e)) k, h.1)
  struct_placed (g ∷ fs) (v ∷ vs) (suc i) f w zs h e k d =
      let m = map_some (λ ys. v ∷ ys) (placed vs i (w ∷ [])) zs d in
      subst (Pairs (HasField p s) (g ∷ fs)) m.2 (h.0, struct_placed fs vs i f w m.0 h.1 e k m.1)

  -- one value is written where its field is
  pub fields_placed : (x : InnerOf TypeTree) (vs : List Value) (i : ℕ) (f : FieldOf TypeTree) (w : Value) (zs : List Value) → FieldsFit p s x vs → field_at x i ≡ Some f → HasField p s f w → placed vs i (w ∷ []) ≡ Some zs → FieldsFit p s x zs
  fields_placed (struct_of fs) vs i f w zs h e k d = struct_placed fs vs i f w zs h e k d
  fields_placed (array_of g) vs i f w zs h e k d = each_placed (HasField p s g) vs i (w ∷ []) zs h (subst (λ q. HasField p s q w) (sym (same_some g f e)) k, tt) d
  fields_placed x vs i f w zs h e k d = absurd h

-- where one value is written, what is elsewhere is as it was
pub placed_elsewhere : (xs : List Value) (i : ℕ) (w : Value) (zs : List Value) → placed xs i (w ∷ []) ≡ Some zs → (j : ℕ) → (j ≡ i) ⊎ (slice_get zs j ≡ slice_get xs j)
placed_elsewhere [] zero w zs e j = absurd (none_some zs e)
placed_elsewhere [] (suc i) w zs e j = absurd (none_some zs e)
placed_elsewhere (x ∷ xs) zero w zs e zero = inl refl
placed_elsewhere (x ∷ xs) zero w zs e (suc j) = inr (subst (λ ys. slice_get ys (suc j) ≡ slice_get xs j) (same_some (w ∷ xs) zs e) refl)
placed_elsewhere (x ∷ xs) (suc i) w zs e zero = let m = map_some (λ ys. x ∷ ys) (placed xs i (w ∷ [])) zs e in inr (subst (λ ys. slice_get ys 0 ≡ Some x) m.2 refl)
placed_elsewhere (x ∷ xs) (suc i) w zs e (suc j) =
    let m = map_some (λ ys. x ∷ ys) (placed xs i (w ∷ [])) zs e in
    ⊎_elim (λ q. inl (ap suc q)) (λ q. inr (subst (λ ys. slice_get ys (suc j) ≡ slice_get xs j) m.2 q)) (placed_elsewhere xs i w m.0 m.1 j)

-- an element of an array has the field of any other
field_same : (x : InnerOf TypeTree) (i j : ℕ) (f g : FieldOf TypeTree) → field_at x i ≡ Some f → field_at x j ≡ Some g → j ≡ i → g ≡ f
field_same x i j f g e d q = same_some g f (sym d ∙ subst (λ n. field_at x n ≡ Some f) (sym q) e)

pub later_by_one : (o : ObjectInstance) (i : ℕ) (f : FieldOf TypeTree) (w : Value) (zs : List Value) → field_at (expanded o.type) i ≡ Some f → f.mutable ≡ true → placed o.fields i (w ∷ []) ≡ Some zs → IsLater o (record o { fields = zs })
later_by_one o i f w zs e m d = record {
  type = refl;
  size = placed_length o.fields i (w ∷ []) zs d;
  kept = λ j g c n. ⊎_elim
      (λ q. absurd (true≢false (sym m ∙ ap (λ (k : FieldOf TypeTree). k.mutable) (sym (field_same (expanded o.type) i j f g e c q)) ∙ n)))
      (λ q. q) (placed_elsewhere o.fields i w zs d j);
}

-- ---- what is given

module _ (p : Program) (x : List Activation) (s : Store) (a : Answer) (u : Store) where
  pub there_some : {A : Type 0} (o : Option A) (F : A → Type 0) → There p x s a u o F → (y : A) × (o ≡ Some y) × F y
  there_some None F h = absurd h
  there_some (Some y) F h = (y, refl, h)

  pub or_traps : {A : Type 0} (o : Option A) (F : A → Type 0) → OrTraps p x s a u o F → Traps p x s a u ⊎ ((y : A) × (o ≡ Some y) × F y)
  or_traps None F h = inl h
  or_traps (Some y) F h = inr (y, refl, h)

  abbrev pub IsAt : Value → (ℕ → ObjectInstance → Type 0) → Type 0
  IsAt v F = (k : ℕ) × (t : TypeTree) × (o : ObjectInstance) × (v ≡ ref_object k t) × (slice_get s.objects k ≡ Some o) × F k o

  pub of_object : (v : Value) (F : ℕ → ObjectInstance → Type 0) → OfObject p x s a u v F → Traps p x s a u ⊎ IsAt v F
  of_object (ref_object k t) F h = let r = there_some (slice_get s.objects k) (F k) h in inr (k, t, r.0, refl, r.1, r.2)
  of_object (number_value n b) F h = inl h
  of_object (ref_null c q) F h = inl h
  of_object (ref_function i t) F h = inl h
  of_object (ref_i31 b) F h = inl h
  of_object (ref_host k) F h = inl h
  of_object (ref_extern k) F h = inl h
  of_object (ref_exn k t) F h = inl h

-- an object that is known has the type that its references say
pub type_known : (s : Store) (v : Value) (k : ℕ) (t : TypeTree) (o : ObjectInstance) → Knows s v → v ≡ ref_object k t → slice_get s.objects k ≡ Some o → o.type ≡ t
type_known s v k t o h e d =
    let n = subst (Knows s) e h in
    ap (λ (q : ObjectInstance). q.type) (same_some o n.0 (sym d ∙ n.1)) ∙ n.2

pub last_one : (vs : List Value) → last_of (take 1 vs) ≡ get_or vs 0 nothing
last_one [] = refl
last_one (v ∷ vs) = refl

pub last_two : (p : Program) (vs : List Value) (t q : Operand) → AllFit p (take 2 vs) (t ∷ q ∷ []) → last_of (take 2 vs) ≡ get_or vs 1 nothing
last_two p [] t q h = absurd h
last_two p (v ∷ []) t q h = absurd h.1
last_two p (v ∷ w ∷ vs) t q h = refl

module _ (p : Program) (valid : IsValidProgram p) (results : List ValueType) (act : Activation) (acts : List Activation) (s : Store) (v : AreValid p results (act ∷ acts) s) (more : Code) (a : Answer) (u : Store) where
  abbrev Done : Op → Type 0
  Done o = IsDone p act acts (plain o more) s a u

  abbrev Given : Op → Type 0
  Given o = GivesOperator p (act ∷ acts) s a u act o

  abbrev Next : Op → Type 0
  Next o = act.innermost.code ≡ plain o more

  -- a read through an object that traps, and one that does not
  pub under_traps : (of : Holding) (ns : List ValueType) (x : ℕ) (ws : List Value) (f : Fields → List Value → Move) → IsTrue a.traps → (object_under p a act acts of ns x ws f).is_answer
  under_traps of ns x ws f e = found_answer (slice_get p.«module».types x) _ (λ t d. found_answer (of (expanded t)) _ (λ own c. a_trap p a _ e))

  pub under_answer : (of : Holding) (ns : List ValueType) (x : ℕ) (ws : List Value) (f : Fields → List Value → Move) (w : Value) (k : ℕ) (t : TypeTree)
      → a.traps ≡ false → last_of (take (suc (length ns)) ws) ≡ w → w ≡ ref_object k t
      → ((fs : Fields) → of (expanded t) ≡ Some fs → (f fs (drop (suc (length ns)) ws)).is_answer) → (object_under p a act acts of ns x ws f).is_answer
  under_answer of ns x ws f w k t e l q g = found_answer (slice_get p.«module».types x) _ (λ y d. found_answer (of (expanded y)) _ (λ own c.
      no_trap p a (object p a act acts of (last_of (take (suc (length ns)) ws)) (λ fs. f fs (drop (suc (length ns)) ws))) e
      (subst (λ z. (object p a act acts of z (λ fs. f fs (drop (suc (length ns)) ws))).is_answer) (sym (l ∙ q)) (found_answer (of (expanded t)) (λ fs. f fs (drop (suc (length ns)) ws)) g))))

  abbrev reading : (StorageOf TypeTree → Type 0) → ℕ → Fields → List Value → Move
  reading stored j fs ws = found (slice_get fs j) (λ (f : FieldOf TypeTree). asks (stored f.storage) (gives p a (operand_of f.storage ∷ []) (λ rs. goes p a act acts (rs ++ ws) more)))

  -- a field or an element is read
  pub read_given : (stored : StorageOf TypeTree → Type 0) (of : Holding) (ns : List ValueType) (x j i : ℕ) (c : Bool) (w : Value) → Knows s w → last_of (take (suc (length ns)) act.innermost.values) ≡ w
      → ((y : InnerOf TypeTree) (fs : Fields) (f : FieldOf TypeTree) → of y ≡ Some fs → slice_get fs j ≡ Some f → field_at y i ≡ Some f) → Reads p (act ∷ acts) s a u act c w i
      → (read p a act acts stored of ns x j more).is_answer × Each (Knows s) a.values × (u ≡ s)
  read_given stored of ns x j i c w there l at h = ⊎_elim
      (λ t. (under_traps of ns x act.innermost.values (reading stored j) t.0, values_known p valid results act acts s v s a [] t.1.0 tt, t.1.1))
      (λ r.
      let f = there_some p (act ∷ acts) s a u (field_at (expanded (r.2).type) i) _ r.5 in
      ⊎_elim
      (λ t. (under_traps of ns x act.innermost.values (reading stored j) t.0, values_known p valid results act acts s v s a [] t.1.0 tt, t.1.1))
      (λ g.
      let same = type_known s w r.0 r.1 r.2 there r.3 r.4 in
      let has = unpacked_has p s c (f.0).storage g.0 (field_has p s (expanded (r.2).type) (r.2).fields i f.0 g.0 (each_get (ObjectFits p s) s.objects r.0 r.2 v.store.objects r.4) f.1 g.1) in (
        under_answer of ns x act.innermost.values (reading stored j) w r.0 r.1 g.2.1 l r.3 (λ fs d. found_answer (slice_get fs j) _ (λ (k : FieldOf TypeTree) b.
            let one : (f.0) ≡ k = same_some f.0 k (sym f.1 ∙ subst (λ (y : TypeTree). field_at (expanded y) i ≡ Some k) (sym same) (at (expanded r.1) fs k d b)) in
            (subst (λ ws. AllFit p ws (stack (operand_of k.storage ∷ []))) (sym g.2.0) (subst (λ (y : FieldOf TypeTree). Fits p (unpacked c (f.0).storage g.0) (operand_of y.storage)) one has.0, tt), tt))),
        values_known p valid results act acts s v s a (unpacked c (f.0).storage g.0 ∷ []) g.2.0 (has.1, tt),
        g.2.2,
      ))
      (or_traps p (act ∷ acts) s a u (slice_get (r.2).fields i) _ f.2))
      (of_object p (act ∷ acts) s a u w _ h)

  pub struct_get_done : (x i : ℕ) → Next (op.Gc (gc.StructGet x i)) → Given (op.Gc (gc.StructGet x i)) → Done (op.Gc (gc.StructGet x i))
  struct_get_done x i c h =
      let r = read_given IsWhole struct_fields [] x i i false (get_or act.innermost.values 0 nothing) (top_known p valid results act acts s v 0) (last_one act.innermost.values) (struct_at i) h in
      unchanged p valid results act acts s v (plain (op.Gc (gc.StructGet x i)) more) a u r.2 r.0 r.1 tt

  pub struct_get_signed_done : (x i : ℕ) → Next (op.Gc (gc.StructGetS x i)) → Given (op.Gc (gc.StructGetS x i)) → Done (op.Gc (gc.StructGetS x i))
  struct_get_signed_done x i c h =
      let r = read_given IsPacked struct_fields [] x i i true (get_or act.innermost.values 0 nothing) (top_known p valid results act acts s v 0) (last_one act.innermost.values) (struct_at i) h in
      unchanged p valid results act acts s v (plain (op.Gc (gc.StructGetS x i)) more) a u r.2 r.0 r.1 tt

  pub struct_get_unsigned_done : (x i : ℕ) → Next (op.Gc (gc.StructGetU x i)) → Given (op.Gc (gc.StructGetU x i)) → Done (op.Gc (gc.StructGetU x i))
  struct_get_unsigned_done x i c h =
      let r = read_given IsPacked struct_fields [] x i i false (get_or act.innermost.values 0 nothing) (top_known p valid results act acts s v 0) (last_one act.innermost.values) (struct_at i) h in
      unchanged p valid results act acts s v (plain (op.Gc (gc.StructGetU x i)) more) a u r.2 r.0 r.1 tt

  -- ---- the operands, by what the machine says of a step that traps

  abbrev trapping : Answer
  trapping = record a { traps = true }

  pub under_fits : (b : Answer) (of : Holding) (ns : List ValueType) (x : ℕ) (ws : List Value) (f : Fields → List Value → Move) → (object_under p b act acts of ns x ws f).needs
      → IsValidOutcome p results (object_under p b act acts of ns x ws f).outcome → (t : TypeTree) × AllFit p (take (suc (length ns)) ws) (stack (ref true (concrete t) ∷ ns))
  under_fits b of ns x ws f n i =
      let q = found_needs {A = TypeTree} p results (slice_get p.«module».types x) (λ t. found (of (expanded t)) (λ own. takes p b (ref true (concrete t) ∷ ns) ws (λ us rest. may_trap p b (object p b act acts of (last_of us) (λ fs. f fs rest))))) n i in
      let r = found_needs {A = Fields} p results (of (expanded q.0)) (λ own. takes p b (ref true (concrete q.0) ∷ ns) ws (λ us rest. may_trap p b (object p b act acts of (last_of us) (λ fs. f fs rest)))) q.2 q.3 in
      (q.0, r.2.0)

  abbrev reading_then : Answer → (StorageOf TypeTree → Type 0) → ℕ → Fields → List Value → Move
  reading_then b stored j fs ws = found (slice_get fs j) (λ (f : FieldOf TypeTree). asks (stored f.storage) (gives p b (operand_of f.storage ∷ []) (λ rs. goes p b act acts (rs ++ ws) more)))

  pub element_under : (stored : StorageOf TypeTree → Type 0) (x : ℕ) (o : Op) → Next o
      → ((b : Answer) → execute p b act acts (plain o more) ≡ read p b act acts stored array_fields (i32_type ∷ []) x 0 more) → last_of (take 2 act.innermost.values) ≡ get_or act.innermost.values 1 nothing
  element_under stored x o c e =
      let traps : (read p trapping act acts stored array_fields (i32_type ∷ []) x 0 more).is_answer = found_answer (slice_get p.«module».types x) _ (λ t d. found_answer (array_fields (expanded t)) _ (λ own q. tt)) in
      let k = told p valid results act acts s v trapping (plain o more) c (subst (λ (m : Move). m.is_answer) (sym (e trapping)) traps) in
      let q = under_fits trapping array_fields (i32_type ∷ []) x act.innermost.values (reading_then trapping stored 0) (subst (λ (m : Move). m.needs) (e trapping) k.0) (subst (λ (m : Move). IsValidOutcome p results m.outcome) (e trapping) k.1) in
      last_two p act.innermost.values (known i32_type) (known (ref true (concrete q.0))) q.1

  pub array_get_done : (x : ℕ) → Next (op.Gc (gc.ArrayGet x)) → Given (op.Gc (gc.ArrayGet x)) → Done (op.Gc (gc.ArrayGet x))
  array_get_done x c h =
      let i = bits_of (get_or act.innermost.values 0 nothing) in
      let r = read_given IsWhole array_fields (i32_type ∷ []) x 0 i false (get_or act.innermost.values 1 nothing) (top_known p valid results act acts s v 1) (element_under IsWhole x (op.Gc (gc.ArrayGet x)) c (λ b. refl)) (array_at i) h in
      unchanged p valid results act acts s v (plain (op.Gc (gc.ArrayGet x)) more) a u r.2 r.0 r.1 tt

  pub array_get_signed_done : (x : ℕ) → Next (op.Gc (gc.ArrayGetS x)) → Given (op.Gc (gc.ArrayGetS x)) → Done (op.Gc (gc.ArrayGetS x))
  array_get_signed_done x c h =
      let i = bits_of (get_or act.innermost.values 0 nothing) in
      let r = read_given IsPacked array_fields (i32_type ∷ []) x 0 i true (get_or act.innermost.values 1 nothing) (top_known p valid results act acts s v 1) (element_under IsPacked x (op.Gc (gc.ArrayGetS x)) c (λ b. refl)) (array_at i) h in
      unchanged p valid results act acts s v (plain (op.Gc (gc.ArrayGetS x)) more) a u r.2 r.0 r.1 tt

  pub array_get_unsigned_done : (x : ℕ) → Next (op.Gc (gc.ArrayGetU x)) → Given (op.Gc (gc.ArrayGetU x)) → Done (op.Gc (gc.ArrayGetU x))
  array_get_unsigned_done x c h =
      let i = bits_of (get_or act.innermost.values 0 nothing) in
      let r = read_given IsPacked array_fields (i32_type ∷ []) x 0 i false (get_or act.innermost.values 1 nothing) (top_known p valid results act acts s v 1) (element_under IsPacked x (op.Gc (gc.ArrayGetU x)) c (λ b. refl)) (array_at i) h in
      unchanged p valid results act acts s v (plain (op.Gc (gc.ArrayGetU x)) more) a u r.2 r.0 r.1 tt

  -- ---- one value is written

  pub object_any : (of : Holding) (w : Value) (f : Fields → Move) → ((fs : Fields) → (f fs).is_answer) → (object p a act acts of w f).is_answer
  object_any of (ref_object k t) f g = found_answer (of (expanded t)) f (λ fs e. g fs)
  object_any of (number_value n b) f g = tt
  object_any of (ref_null c q) f g = tt
  object_any of (ref_function i t) f g = tt
  object_any of (ref_i31 b) f g = tt
  object_any of (ref_host k) f g = tt
  object_any of (ref_extern k) f g = tt
  object_any of (ref_exn k t) f g = tt

  pub trap_any : (b : Bool) (m : Move) → m.is_answer → (choose b (done trapped) m).is_answer
  trap_any true m h = tt
  trap_any false m h = h

  abbrev writing : ℕ → Value → Fields → List Value → Move
  writing j w fs ws = found (slice_get fs j) (λ (f : FieldOf TypeTree). writes f (asks (Fits p w (operand_of f.storage)) (goes p a act acts ws more)))

  pub write_any : (of : Holding) (ns : List ValueType) (x j : ℕ) (w : Value) (ws : List Value) → (write p a act acts of ns x j w ws more).is_answer
  write_any of ns x j w ws = found_answer (slice_get p.«module».types x) _ (λ t e. found_answer (of (expanded t)) _ (λ own d.
      trap_any a.traps (object p a act acts of (last_of (take (suc (length ns)) ws)) (λ fs. writing j w fs (drop (suc (length ns)) ws)))
      (object_any of (last_of (take (suc (length ns)) ws)) (λ fs. writing j w fs (drop (suc (length ns)) ws)) (λ fs. found_answer (slice_get fs j) _ (λ f q. tt)))))

  -- what the write asks: the field may be written, and the value fits
  abbrev MayWrite : Holding → ℕ → Value → TypeTree → Type 0
  MayWrite of j w t = (fs : Fields) × (f : FieldOf TypeTree) × (of (expanded t) ≡ Some fs) × (slice_get fs j ≡ Some f) × (f.mutable ≡ true) × Fits p w (operand_of f.storage)

  pub write_needs : (of : Holding) (ns : List ValueType) (x j : ℕ) (w : Value) (ws : List Value) (k : ℕ) (t : TypeTree) → a.traps ≡ false
      → ((q : TypeTree) → AllFit p (take (suc (length ns)) ws) (stack (ref true (concrete q) ∷ ns)) → last_of (take (suc (length ns)) ws) ≡ ref_object k t)
      → (write p a act acts of ns x j w ws more).needs → IsValidOutcome p results (write p a act acts of ns x j w ws more).outcome → MayWrite of j w t
  write_needs of ns x j w ws k t e last n i =
      let below = drop (suc (length ns)) ws in
      let q = found_needs {A = TypeTree} p results (slice_get p.«module».types x) (λ y. found (of (expanded y)) (λ own. takes p a (ref true (concrete y) ∷ ns) ws (λ us rest. may_trap p a (object p a act acts of (last_of us) (λ fs. writing j w fs rest))))) n i in
      let r = found_needs {A = Fields} p results (of (expanded q.0)) (λ own. takes p a (ref true (concrete q.0) ∷ ns) ws (λ us rest. may_trap p a (object p a act acts of (last_of us) (λ fs. writing j w fs rest)))) q.2 q.3 in
      let m = no_trap_needs p a results (object p a act acts of (last_of (take (suc (length ns)) ws)) (λ fs. writing j w fs below)) e r.2.1 r.3 in
      let is = last q.0 r.2.0 in
      let y = found_needs {A = Fields} p results (of (expanded t)) (λ fs. writing j w fs below)
      (subst (λ z. (object p a act acts of z (λ fs. writing j w fs below)).needs) is m.0) (subst (λ z. IsValidOutcome p results (object p a act acts of z (λ fs. writing j w fs below)).outcome) is m.1) in
      let z = found_needs {A = FieldOf TypeTree} p results (slice_get y.0 j) (λ (f : FieldOf TypeTree). writes f (asks (Fits p w (operand_of f.storage)) (goes p a act acts below more))) y.2 y.3 in
      (y.0, z.0, y.1, z.1, z.2.0, z.2.1.0)

  -- the store after a write to an object that is there
  pub written : (o : Op) (k i : ℕ) (t : TypeTree) (b : ObjectInstance) (w : Value) (f : FieldOf TypeTree) (zs : List Value) → (execute p a act acts (plain o more)).is_answer → CodeNew (Knows (with_fields s k b zs)) p a act acts (plain o more)
      → slice_get s.objects k ≡ Some b → field_at (expanded b.type) i ≡ Some f → f.mutable ≡ true → HasField p s f w → placed b.fields i (w ∷ []) ≡ Some zs → a.values ≡ [] → u ≡ with_fields s k b zs → Done o
  written o k i t b w f zs answer new e at m has d values same =
      let later = later_by_one b i f w zs at m d in
      subst (λ y. IsDone p act acts (plain o more) s a y) (sym same) (record {
        answer = answer;
        store = written_fits p s k b zs e later v.store (fields_placed p s (expanded b.type) b.fields i f w zs (each_get (ObjectFits p s) s.objects k b v.store.objects e) at has d);
        evolves = fields_evolve s k b zs e later;
        values = values_known p valid results act acts s v (with_fields s k b zs) a [] values tt;
        new = new;
      })

  pub pops_split : (vs : List Value) (f : Value → List Value → Move) → (pops vs f).needs → IsValidOutcome p results (pops vs f).outcome → (w : Value) × (ws : List Value) × (vs ≡ w ∷ ws) × (f w ws).needs × IsValidOutcome p results (f w ws).outcome
  pops_split [] f n i = absurd i
  pops_split (w ∷ ws) f n i = (w, ws, refl, n, i)

  pub pops_any : (vs : List Value) (f : Value → List Value → Move) → ((w : Value) (ws : List Value) → (f w ws).is_answer) → (pops vs f).is_answer
  pops_any [] f g = tt
  pops_any (w ∷ ws) f g = g w ws

  pub struct_set_done : (x i : ℕ) → Next (op.Gc (gc.StructSet x i)) → Given (op.Gc (gc.StructSet x i)) → Done (op.Gc (gc.StructSet x i))
  struct_set_done x i c h =
      let vs = act.innermost.values in
      let f : Value → List Value → Move = λ w ws. write p a act acts struct_fields [] x i w ws more in
      let answer : (execute p a act acts (plain (op.Gc (gc.StructSet x i)) more)).is_answer = pops_any vs f (λ w ws. write_any struct_fields [] x i w ws) in
      let n = told p valid results act acts s v a (plain (op.Gc (gc.StructSet x i)) more) c answer in
      let q = pops_split vs f n.0 n.1 in
      ⊎_elim
      (λ t. unchanged p valid results act acts s v (plain (op.Gc (gc.StructSet x i)) more) a u t.1.1 answer (values_known p valid results act acts s v s a [] t.1.0 tt) tt)
      (λ r. ⊎_elim
      (λ t. unchanged p valid results act acts s v (plain (op.Gc (gc.StructSet x i)) more) a u t.1.1 answer (values_known p valid results act acts s v s a [] t.1.0 tt) tt)
      (λ g.
      let top : get_or q.1 0 nothing ≡ get_or vs 1 nothing = ap (λ l. get_or l 1 nothing) (sym q.2) in
      let m = write_needs struct_fields [] x i q.0 q.1 r.0 r.1 g.2.1 (λ y k. last_one q.1 ∙ top ∙ r.3) q.3 q.4 in
      let same = type_known s (get_or vs 1 nothing) r.0 r.1 r.2 (top_known p valid results act acts s v 1) r.3 r.4 in
      written (op.Gc (gc.StructSet x i)) r.0 i r.1 r.2 q.0 m.1 g.0 answer tt r.4
      (subst (λ (y : TypeTree). field_at (expanded y) i ≡ Some m.1) (sym same) (struct_at i (expanded r.1) m.0 m.1 m.2 m.3)) m.4
      (m.5, subst (Knows s) (ap (λ l. get_or l 0 nothing) q.2) (top_known p valid results act acts s v 0))
      (subst (λ l. placed (r.2).fields i (take 1 l) ≡ Some g.0) q.2 g.1) g.2.0 g.2.2)
      (or_traps p (act ∷ acts) s a u (placed (r.2).fields i (take 1 vs)) _ r.5))
      (of_object p (act ∷ acts) s a u (get_or vs 1 nothing) _ h)

  pub array_set_done : (x : ℕ) → Next (op.Gc (gc.ArraySet x)) → Given (op.Gc (gc.ArraySet x)) → Done (op.Gc (gc.ArraySet x))
  array_set_done x c h =
      let vs = act.innermost.values in
      let i = bits_of (get_or vs 1 nothing) in
      let f : Value → List Value → Move = λ w ws. write p a act acts array_fields (i32_type ∷ []) x 0 w ws more in
      let answer : (execute p a act acts (plain (op.Gc (gc.ArraySet x)) more)).is_answer = pops_any vs f (λ w ws. write_any array_fields (i32_type ∷ []) x 0 w ws) in
      let n = told p valid results act acts s v a (plain (op.Gc (gc.ArraySet x)) more) c answer in
      let q = pops_split vs f n.0 n.1 in
      ⊎_elim
      (λ t. unchanged p valid results act acts s v (plain (op.Gc (gc.ArraySet x)) more) a u t.1.1 answer (values_known p valid results act acts s v s a [] t.1.0 tt) tt)
      (λ r. ⊎_elim
      (λ t. unchanged p valid results act acts s v (plain (op.Gc (gc.ArraySet x)) more) a u t.1.1 answer (values_known p valid results act acts s v s a [] t.1.0 tt) tt)
      (λ g.
      let top : get_or q.1 1 nothing ≡ get_or vs 2 nothing = ap (λ l. get_or l 2 nothing) (sym q.2) in
      let m = write_needs array_fields (i32_type ∷ []) x 0 q.0 q.1 r.0 r.1 g.2.1 (λ y k. last_two p q.1 (known i32_type) (known (ref true (concrete y))) k ∙ top ∙ r.3) q.3 q.4 in
      let same = type_known s (get_or vs 2 nothing) r.0 r.1 r.2 (top_known p valid results act acts s v 2) r.3 r.4 in
      written (op.Gc (gc.ArraySet x)) r.0 i r.1 r.2 q.0 m.1 g.0 answer tt r.4
      (subst (λ (y : TypeTree). field_at (expanded y) i ≡ Some m.1) (sym same) (array_at i (expanded r.1) m.0 m.1 m.2 m.3)) m.4
      (m.5, subst (Knows s) (ap (λ l. get_or l 0 nothing) q.2) (top_known p valid results act acts s v 0))
      (subst (λ l. placed (r.2).fields i (take 1 l) ≡ Some g.0) q.2 g.1) g.2.0 g.2.2)
      (or_traps p (act ∷ acts) s a u (placed (r.2).fields i (take 1 vs)) _ r.5))
      (of_object p (act ∷ acts) s a u (get_or vs 2 nothing) _ h)
