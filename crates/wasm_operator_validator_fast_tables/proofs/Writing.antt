-- Types that the bytes of a body spell: how they are read, and what they mean.
use Rattle.std.proofs.Common.{◌≡◌, ◌≤◌, ◌<◌, ◌+◌, ◌-◌, ◌*◌, ◌∙◌, ℕ, List, [], ◌∷◌, ◌++◌, Bool, true, false, Some, ℤ, pos, negsuc, nat_abs, refl, sym, ap, subst, arith, inl, inr, length, take, drop, get_or, slice_get}
use Rattle.std.specs.Int.Signed.{lt_z, le_z}
use Rattle.std.proofs.lemmas.Bool.{leb-false}
use Rattle.std.proofs.lemmas.List.{length-append, length-drop, drop-drop, drop_more}
use Rattle.std.proofs.lemmas.Option.{slice_get_within, get_or_from_slice_get}
use Rattle.wasm_types.specs.decoding.Decoder.{State, Grammar, Decoder, Decides}
use Rattle.wasm_types.specs.decoding.Leb.{s33, IsSigned}
use Rattle.wasm_types.specs.decoding.SignedLaws.{decides-s33}
use Rattle.wasm_types.specs.decoding.Numbers.{behind, GivesAt}
use Rattle.wasm_types.specs.settings.Settings.{no_features}
use Rattle.wasm_types.specs.trees.declared.index.UnpackedIndex.TheVariants.{Module as ByIndex}
use Rattle.wasm_types.specs.trees.Types.{Abstract, func, extern, any, none, noextern, nofunc, eq, struct, array, i31, exn, noexn, cont, nocont, ref, abstract, concrete, InnerOf}
use Rattle.wasm_types.specs.trees.AbstractOrder.{top_of}
use Rattle.wasm_types.specs.trees.Gates.{AbstractIsAllowed, CollectorIsAllowed}
use Rattle.wasm_types.specs.trees.Trees.{TypeTree}
use Rattle.wasm_types.specs.trees.Below.{expanded, abstract_above}
use Rattle.wasm_types.specs.values.Decode.{heap_type}
use Rattle.wasm_types.specs.values.DecodeValues.{value_type}
use Rattle.wasm_types.specs.values.HeapLaws.{decides-heap_type}
use Rattle.wasm_types.specs.values.ValueLaws.{decides-value_type}
use Rattle.wasm_types.specs.values.Spelled.{Spelled, SpelledValue}
use Rattle.wasm_types.specs.values.Trees.{abstract_of}
use Rattle.wasm_types.specs.values.declared.heap.HeapType.TheVariants as heap
use Rattle.wasm_types.specs.values.declared.value.ValType.{ValType}
use Rattle.wasm_types.specs.values.declared.value.ValType.TheVariants as value
use Rattle.wasm_operators_immediates.specs.Blocks.{block_type, SpelledBlock}
use Rattle.wasm_operators_immediates.specs.BlockLaws.{decides-block_type}
use Rattle.wasm_operators_immediates.specs.declared.block.BlockType.TheVariants as block
use Rattle.wasm_operator_validator_rules.specs.Operands.{ValueType}
use Rattle.wasm_operator_validator_rules.specs.Aggregates.{is_cont}
use Rattle.wasm_operator_validator_rules.specs.Context.{Module, IsType}
use Rattle.wasm_operator_validator_fast_tables.specs.declared.tables.Field.{Field}
use Rattle.wasm_operator_validator_fast_tables.specs.declared.tables.Defined.TheVariants as defined
use Rattle.wasm_operator_validator_fast_tables.specs.declared.tables.Named.{Named}
use Rattle.wasm_operator_validator_fast_tables.specs.declared.tables.Tables.{Tables}
use Rattle.wasm_operator_validator_fast_tables.specs.Stacks.{part}
use Rattle.wasm_operator_validator_fast_tables.specs.Values.{type_of, types}
use Rattle.wasm_operator_validator_fast_tables.specs.Tables.{Allows, AllowsReferences, AllowsVectors, ArePlaced, IsDefined, IsNamedIn}
use Rattle.wasm_operator_validator_fast_tables.specs.Written.{MeansHeap, ArePlacedAt, IsPlacedHeapAt, IsHeapAt, IsAbstractByte, IsTopOf, IsValueAt, IsBlockAt}

-- ---- what is read and what is spelled

module _ {X : Type 0} (d : Decoder X) (g : Grammar X) (exact : Decides d g) (text : List ℕ) (i e : ℕ) (x : X) where
  -- what is read is spelled
  pub spelled_at : GivesAt d text i x e → (front : List ℕ) × g x front × (drop i text ≡ front ++ drop e text)
  spelled_at h =
      let s : State = record { rest = drop i text; place = 0; settings = no_features; start = 0 } in
      let (front, takes, spelled) = exact.sound s (behind (e - i) s) x (h.gives s refl) in
      let whole : i + (e - i) ≡ e = omega (arith, h.forward) in
      (front, spelled, takes.parts ∙ ap (λ (r : List ℕ). front ++ r) (drop-drop (e - i) i text ∙ ap (λ (k : ℕ). drop k text) whole))

  -- what is spelled is read
  pub read_at : (front : List ℕ) → g x front → drop i text ≡ front ++ drop e text → i < e → e ≤ length text → GivesAt d text i x e
  read_at front spelled whole forward inside = record {
    forward = forward;
    inside = inside;
    gives = λ s same.
        let there : i + (e - i) ≡ e = omega (arith, forward) in
        let rest : drop (e - i) s.rest ≡ drop e text = ap (drop (e - i)) same ∙ drop-drop (e - i) i text ∙ ap (λ (k : ℕ). drop k text) there in
        let sum = ap (λ (r : List ℕ). length r) whole in
        let parts = length-append front (drop e text) in
        let from = length-drop i text in
        let to = length-drop e text in
        let long : e - i ≡ length front = omega (arith, sum, parts, from, to, forward, inside) in
        exact.complete s (behind (e - i) s) x front
        (record { parts = same ∙ whole ∙ ap (λ (r : List ℕ). front ++ r) (sym rest); place = ap (λ (k : ℕ). s.place + k) long; settings = refl; start = refl }) spelled;
  }

-- a byte stands before what is behind it
next_byte : (text : List ℕ) (i b : ℕ) → i < length text → get_or text i 0 ≡ b → drop i text ≡ b ∷ drop (i + 1) text
next_byte text i b lt is = drop_more text i 0 lt ∙ ap (λ (k : ℕ). k ∷ drop (i + 1) text) is

-- one byte that spells something
pub byte_read : {X : Type 0} (d : Decoder X) (g : Grammar X) → Decides d g → (text : List ℕ) (i b : ℕ) (x : X) → i < length text → get_or text i 0 ≡ b → g x (b ∷ []) → GivesAt d text i x (i + 1)
byte_read d g exact text i b x lt is spelled = read_at d g exact text i (i + 1) x (b ∷ []) spelled (next_byte text i b lt is) (omega arith) (omega (arith, lt))

-- ---- heap types

-- the index of a type, below 2^20
index_spelled : (n : ℤ) (front : List ℕ) → lt_z n (pos 0) ≡ false → le_z (pos 0x10_0000) n ≡ false → IsSigned 33 n front → Spelled (heap.Concrete (ByIndex (nat_abs n))) front
index_spelled (pos n) front some small spelled = (spelled, leb-false 0x10_0000 n small)
index_spelled (negsuc n) front some small spelled = absurd cc

pub index_few : (n : ℤ) → lt_z n (pos 0) ≡ false → le_z (pos 0x10_0000) n ≡ false → nat_abs n < 0x10_0000
index_few (pos n) some small = leb-false 0x10_0000 n small
index_few (negsuc n) some small = absurd cc

pub index_read : (text : List ℕ) (i e : ℕ) (n : ℤ) → lt_z n (pos 0) ≡ false → le_z (pos 0x10_0000) n ≡ false → GivesAt s33 text i n e
    → GivesAt heap_type text i (heap.Concrete (ByIndex (nat_abs n))) e
index_read text i e n some small h =
    let (front, spelled, whole) = spelled_at s33 (IsSigned 33) decides-s33 text i e n h in
    read_at heap_type Spelled decides-heap_type text i e (heap.Concrete (ByIndex (nat_abs n))) front (index_spelled n front some small spelled) whole h.forward h.inside

-- an abstract type that is no continuation
abstract_allowed : (bits : ℕ) (a : Abstract) → is_cont (top_of a) ≡ false → AllowsReferences bits → (n : Bool) → CollectorIsAllowed bits a × AbstractIsAllowed bits n a
abstract_allowed bits func e r true = (tt, tt)
abstract_allowed bits func e r false = (tt, r.function_references)
abstract_allowed bits extern e r true = (r.gc_types, tt)
abstract_allowed bits extern e r false = (r.gc_types, r.function_references)
abstract_allowed bits any e r true = (r.gc_types, r.gc)
abstract_allowed bits any e r false = (r.gc_types, r.gc)
abstract_allowed bits none e r true = (r.gc_types, r.gc)
abstract_allowed bits none e r false = (r.gc_types, r.gc)
abstract_allowed bits noextern e r true = (r.gc_types, r.gc)
abstract_allowed bits noextern e r false = (r.gc_types, r.gc)
abstract_allowed bits nofunc e r true = (r.gc_types, r.gc)
abstract_allowed bits nofunc e r false = (r.gc_types, r.gc)
abstract_allowed bits eq e r true = (r.gc_types, r.gc)
abstract_allowed bits eq e r false = (r.gc_types, r.gc)
abstract_allowed bits struct e r true = (r.gc_types, r.gc)
abstract_allowed bits struct e r false = (r.gc_types, r.gc)
abstract_allowed bits array e r true = (r.gc_types, r.gc)
abstract_allowed bits array e r false = (r.gc_types, r.gc)
abstract_allowed bits i31 e r true = (r.gc_types, r.gc)
abstract_allowed bits i31 e r false = (r.gc_types, r.gc)
abstract_allowed bits exn e r true = (tt, r.exceptions)
abstract_allowed bits exn e r false = (tt, r.exceptions)
abstract_allowed bits noexn e r true = (r.gc_types, r.exceptions)
abstract_allowed bits noexn e r false = (r.gc_types, r.exceptions)
abstract_allowed bits cont e r n = absurd cc
abstract_allowed bits nocont e r n = absurd cc

pub abstract_means : (byte code top : ℕ) (a : IsAbstractByte byte code top) (ids : List TypeTree) (bits : ℕ) (m : Module) → AllowsReferences bits
    → MeansHeap ids bits m (heap.Abstract false a.type) code top
abstract_means byte code top a ids bits m allows = record {
  heap = abstract false (abstract_of a.type);
  named = λ g same unshared. rw unshared refl;
  type = λ n.
      let (collector, own) = abstract_allowed bits (abstract_of a.type) a.castable allows n in
      record { allowed = (allows.reference_types, (λ s. absurd cc, collector, own)); known = tt; is = refl };
  codes = a.codes ids;
  castable = rw a.castable refl;
  unshared = refl;
}

pub defined_means : (y top : ℕ) (n : Named) → IsTopOf n.defined top → (ids : List TypeTree) (bits : ℕ) (m : Module) (fields : List Field) → IsNamedIn ids m fields y n → AllowsReferences bits
    → MeansHeap ids bits m (heap.Concrete (ByIndex y)) n.code top
defined_means y top n t ids bits m fields h allows =
    let hierarchy = t.is ids fields (expanded h.type) h.is in
    record {
      heap = concrete h.type;
      named = λ g same unshared. rw (same, h.at, h.unshared, unshared) refl;
      type = λ b. record {
        allowed = (allows.reference_types, inl allows.function_references);
        known = slice_get_within m.types y h.type h.at;
        is = ap (λ (k : TypeTree). ref b (concrete k)) (sym (get_or_from_slice_get m.types y h.type _ h.at));
      };
      codes = record { nullable = h.nullable; never_null = h.never_null; above = rw (h.unshared, hierarchy) (t.reference ids) };
      castable = rw (hierarchy, t.castable) refl;
      unshared = h.unshared;
    }

-- ---- tops of hierarchies

function_top : (ids : List TypeTree) (fields : List Field) (inner : InnerOf TypeTree) → IsDefined ids fields inner defined.Function → top_of (abstract_above inner) ≡ func
function_top ids fields inner (b, e) = ap (λ (x : InnerOf TypeTree). top_of (abstract_above x)) e

struct_top : (from count : ℕ) (ids : List TypeTree) (fields : List Field) (inner : InnerOf TypeTree) → IsDefined ids fields inner (defined.Struct from count) → top_of (abstract_above inner) ≡ any
struct_top from count ids fields inner (xs, e, room, fs) = ap (λ (x : InnerOf TypeTree). top_of (abstract_above x)) e

array_top : (f : Field) (ids : List TypeTree) (fields : List Field) (inner : InnerOf TypeTree) → IsDefined ids fields inner (defined.Array f) → top_of (abstract_above inner) ≡ any
array_top f ids fields inner (x, e, more) = ap (λ (y : InnerOf TypeTree). top_of (abstract_above y)) e

pub top_function : IsTopOf defined.Function 8
top_function = record { hierarchy = func; reference = λ ids. refl; castable = refl; is = function_top }

pub top_struct : (from count : ℕ) → IsTopOf (defined.Struct from count) 12
top_struct from count = record { hierarchy = any; reference = λ ids. refl; castable = refl; is = struct_top from count }

pub top_array : (f : Field) → IsTopOf (defined.Array f) 12
top_array f = record { hierarchy = any; reference = λ ids. refl; castable = refl; is = array_top f }

-- ---- places

both_parts : (xs : List ℕ) (a b : ℕ) → take 2 xs ≡ a ∷ b ∷ [] → (take 1 xs ≡ a ∷ []) × (take 1 (drop 1 xs) ≡ b ∷ [])
both_parts [] a b e = absurd cc
both_parts (x ∷ []) a b e = absurd cc
both_parts (x ∷ y ∷ xs) a b e =
    let first : x ≡ a = cc in
    let second : y ≡ b = cc in
    (ap (λ k. k ∷ []) first, ap (λ k. k ∷ []) second)

pub defined_placed : (flat : List ℕ) (y : ℕ) (n : Named) → ArePlaced flat y n → ArePlacedAt flat (40 + 2 * y) n.code
defined_placed flat y n h =
    let (first, second) = both_parts (drop (40 + 2 * y) flat) n.code (n.code + 1) h in
    record { first = first; second = ap (take 1) (sym (drop-drop 1 (40 + 2 * y) flat)) ∙ second }

pub alone_placed : (flat : List ℕ) (n : ℕ) → n < 39 → ((k : ℕ) → k < 40 → part k 1 flat ≡ k ∷ []) → ArePlacedAt flat n n
alone_placed flat n lt h = record { first = h n (omega (arith, lt)); second = h (n + 1) (omega (arith, lt)) }

-- ---- heap types at an offset

pub abstract_there : (text : List ℕ) (t : Tables) (i code top : ℕ) → i < length text → t.references ≡ true → IsAbstractByte (get_or text i 0) code top
    → IsPlacedHeapAt text t i code top code (i + 1)
abstract_there text t i code top lt on a =
    let low = a.low in
    record {
      written = heap.Abstract false a.type;
      read = byte_read heap_type Spelled decides-heap_type text i (get_or text i 0) (heap.Abstract false a.type) lt refl a.spelled;
      means = λ ids bits m knows allows. abstract_means (get_or text i 0) code top a ids bits m allows;
      placed = λ ids m knows. alone_placed t.known.flat.items code a.low knows.alone;
      allowed = on;
      few = omega (arith, low);
      near = omega (arith, low);
    }

pub defined_there : (text : List ℕ) (t : Tables) (i e y top : ℕ) (n : Named) → GivesAt heap_type text i (heap.Concrete (ByIndex y)) e → t.references ≡ true
    → slice_get t.known.named.items y ≡ Some n → n.code < 0xffff_ffff → y < 0x10_0000 → IsTopOf n.defined top → IsPlacedHeapAt text t i n.code top (40 + 2 * y) e
defined_there text t i e y top n g on at few near is = record {
  written = heap.Concrete (ByIndex y);
  read = g;
  means = λ ids bits m knows allows. defined_means y top n is ids bits m t.known.fields.items (knows.named y n at few) allows;
  placed = λ ids m knows. defined_placed t.known.flat.items y n (knows.places y n at few);
  allowed = on;
  few = few;
  near = omega (arith, near);
}

pub heap_there : (text : List ℕ) (t : Tables) (i code top place e : ℕ) → IsPlacedHeapAt text t i code top place e → IsHeapAt text t i code top e
heap_there text t i code top place e h = record {
  written = h.written;
  read = h.read;
  means = λ ids z g fits.
      let w = h.means ids g.bits g.«module» fits.knows (fits.references h.allowed) in
      record {
        heap = w.heap;
        named = w.named g refl fits.unshared;
        type = w.type;
        nullable = w.codes.nullable;
        never_null = w.codes.never_null;
        castable = w.castable;
        unshared = w.unshared;
        above = w.codes.above;
      };
}

-- ---- value types at an offset

pub nullable_there : (text : List ℕ) (t : Tables) (i code top place e : ℕ) → i < length text → get_or text i 0 ≡ 0x63 → IsPlacedHeapAt text t (i + 1) code top place e
    → IsValueAt text t i code place e
nullable_there text t i code top place e lt is h =
    let (front, spelled, whole) = spelled_at heap_type Spelled decides-heap_type text (i + 1) e h.written h.read in
    let written : ValType = value.Ref (record { nullable = true; heap = h.written }) in
    let forward = h.read.forward in
    record {
      written = written;
      read = read_at value_type SpelledValue decides-value_type text i e written (0x63 ∷ front) (inl (front, refl, spelled))
          (next_byte text i 0x63 lt is ∙ ap (λ (r : List ℕ). 0x63 ∷ r) whole) (omega (arith, forward)) h.read.inside;
      means = λ ids bits m knows allows more vectors.
          let w = h.means ids bits m knows (more h.allowed) in
          subst (λ (u : ValueType). IsType bits m written u) (sym w.codes.nullable) (w.type true);
      placed = λ ids m knows. (h.placed ids m knows).first;
    }

pub never_null_there : (text : List ℕ) (t : Tables) (i code top place e : ℕ) → i < length text → get_or text i 0 ≡ 0x64 → IsPlacedHeapAt text t (i + 1) code top place e
    → IsValueAt text t i (code + 1) (place + 1) e
never_null_there text t i code top place e lt is h =
    let (front, spelled, whole) = spelled_at heap_type Spelled decides-heap_type text (i + 1) e h.written h.read in
    let written : ValType = value.Ref (record { nullable = false; heap = h.written }) in
    let forward = h.read.forward in
    record {
      written = written;
      read = read_at value_type SpelledValue decides-value_type text i e written (0x64 ∷ front) (inl (front, refl, spelled))
          (next_byte text i 0x64 lt is ∙ ap (λ (r : List ℕ). 0x64 ∷ r) whole) (omega (arith, forward)) h.read.inside;
      means = λ ids bits m knows allows more vectors.
          let w = h.means ids bits m knows (more h.allowed) in
          subst (λ (u : ValueType). IsType bits m written u) (sym w.codes.never_null) (w.type false);
      placed = λ ids m knows. (h.placed ids m knows).second;
    }

pub short_there : (text : List ℕ) (t : Tables) (i code top : ℕ) → i < length text → t.references ≡ true → IsAbstractByte (get_or text i 0) code top → IsValueAt text t i code code (i + 1)
short_there text t i code top lt on a =
    let written : ValType = value.Ref (record { nullable = true; heap = heap.Abstract false a.type }) in
    record {
      written = written;
      read = byte_read value_type SpelledValue decides-value_type text i (get_or text i 0) written lt refl (inr a.spelled);
      means = λ ids bits m knows allows more vectors.
          let w = abstract_means (get_or text i 0) code top a ids bits m (more on) in
          subst (λ (u : ValueType). IsType bits m written u) (sym w.codes.nullable) (w.type true);
      placed = λ ids m knows. (alone_placed t.known.flat.items code a.low knows.alone).first;
    }

-- a number or a vector, whose code stands for itself
pub number_there : (text : List ℕ) (t : Tables) (i b code : ℕ) (written : ValType) → i < length text → get_or text i 0 ≡ b → SpelledValue written (b ∷ []) → code < 40
    → ((ids : List TypeTree) (bits : ℕ) (m : Module) → Allows bits → (t.vectors ≡ true → AllowsVectors bits) → IsType bits m written (type_of ids code))
    → IsValueAt text t i code code (i + 1)
number_there text t i b code written lt is spelled low type = record {
  written = written;
  read = byte_read value_type SpelledValue decides-value_type text i b written lt is spelled;
  means = λ ids bits m knows allows more vectors. type ids bits m allows vectors;
  placed = λ ids m knows. knows.alone code low;
}

-- ---- blocks

-- a value type is the type of a block with this result
pub block_there : (text : List ℕ) (t : Tables) (i code place e : ℕ) → IsValueAt text t i code place e
    → IsBlockAt text t i (record { params = 0; param_count = 0; results = place; result_count = 1 }) e
block_there text t i code place e h =
    let (front, spelled, whole) = spelled_at value_type SpelledValue decides-value_type text i e h.written h.read in (
      block.Val h.written,
      read_at block_type SpelledBlock decides-block_type text i e (block.Val h.written) front spelled whole h.read.forward h.read.inside,
      λ ids z g fits. (
        type_of ids code,
        h.means ids g.bits g.«module» fits.knows fits.allows fits.references fits.vectors,
        ap (λ (xs : List ℕ). record { params = []; results = types ids xs }) (h.placed ids g.«module» fits.knows),
      ),
    )
