-- Operators on references of one kind, in either sharedness, and conversions.
use Rattle.std.proofs.Common.{◌≡◌, ◌↔◌, ◌∙◌, List, [], ◌∷◌, ◌++◌, Bool, true, false, IsTrue, Option, Some, None, refl, sym, subst}
use Rattle.wasm_types.specs.decoding.declared.error.ErrorKind.{ErrorKind}
use Rattle.wasm_types.specs.decoding.Denials.{Denies}
use Rattle.wasm_types.specs.decoding.DenialLaws.{denies, denies_from}
use Rattle.wasm_types.specs.values.declared.heap.AbstractHeapType.{AbstractHeapType}
use Rattle.wasm_types.specs.values.declared.heap.AbstractHeapType.TheVariants.{Eq}
use Rattle.wasm_types.specs.values.declared.value.ValType.TheVariants as vals
use Rattle.wasm_types.specs.values.declared.value.ValType.{ValType}
use Rattle.wasm_types.specs.values.declared.heap.HeapType.TheVariants as heap
use Rattle.wasm_operators_enums.specs.declared.gc.GcOperator.{GcOperator}
use Rattle.wasm_operators_enums.specs.declared.gc.GcOperator.TheVariants as gc
use Rattle.wasm_operators_immediates.specs.declared.proposal.Proposal.TheVariants.{Gc}
use Rattle.wasm_operators_enums.specs.Op as op
use Rattle.wasm_operators_enums.specs.Op.{Op}
use Rattle.wasm_operator_validator_rules.specs.Operands.{ValueType, Operand, known, all_known, stack}
use Rattle.wasm_operator_validator_rules.specs.InstructionTypes.{i32_type}
use Rattle.wasm_operator_validator_rules.specs.Objects.{GcRow}
use Rattle.wasm_operator_validator_rules.specs.Taken.{Takes}
use Rattle.wasm_operator_validator_resources.specs.Meaning.{Meaning, type_in}
use Rattle.wasm_operator_validator_state.specs.Refusals.{Does}
use Rattle.wasm_operator_validator_state.specs.declared.operand.MaybeType.{MaybeType}
use Rattle.wasm_operator_validator_state.specs.State.{State, Stands, Accepts, Decides, Checks, types_in}
use Rattle.wasm_operator_validator_state.specs.Steps.{Stacks, Same, MayPopAny, PoppedAny, PushedAny, Pushed}
use Rattle.wasm_operator_validator_state.specs.laws.Operands.{all_below_refl}
use Rattle.wasm_operator_validator_state.specs.laws.Rows.{Reached, by_row, some_row}
use Rattle.wasm_operator_validator_state.specs.Entering.{MayBegin}
use Rattle.wasm_operator_validator_state.specs.laws.Entering.{enabled}
use Rattle.wasm_operator_validator_state.specs.laws.Checks.{checks_going}
use Rattle.wasm_operator_validator_stacks.specs.determined.Operators.{Stays}
use Rattle.wasm_operator_validator_stacks.specs.determined.laws.Types.{i32_in}
use Rattle.wasm_operator_validator_stacks.specs.determined.laws.Same.{same_trans, stays_same, stays_trans}
use Rattle.wasm_operator_validator_stacks.specs.determined.laws.Determined.{refused_then}
use Rattle.wasm_operator_validator_objects.specs.Rows.{here, nullable_to, TakesEither, Converts}
use Rattle.wasm_operator_validator_objects.specs.Either.{AreOf, reference_of, IsConverted, IsUnconvertible}
use Rattle.wasm_operator_validator_objects.proofs.Tables.{gc_is}

-- ---- rows that are free in the sharedness

-- it takes operands of these types, in either sharedness, and gives a number
abbrev IsFree : Meaning → State → GcOperator → (Bool → List ValueType) → Type 0
IsFree m σ o ts = (popped pushed : List Operand) → GcRow (here m σ) o popped pushed ↔ (s : Bool) × Takes (ts s) (i32_type ∷ []) popped pushed

-- the operands were taken off, and may be of this sharedness
abbrev Splits : Meaning → State → State → (Bool → List ValueType) → (Bool → Type 0) → Type 0
Splits m σ ρ ts P = (s : Bool) (rest : List Operand) → Stacks m σ (stack (ts s) ++ rest) ↔ (P s × Stacks m ρ rest)

free_done : (k : Option ErrorKind) (m : Meaning) (σ ρ τ : State) (o : GcOperator) (ts : Bool → List ValueType) (P : Bool → Type 0) → MayBegin σ Gc false → IsFree m σ o ts
    → Same σ ρ → Splits m σ ρ ts P → (s : Bool) × P s → Does k (Pushed m ρ (stack (types_in m (vals.I32 ∷ []))) τ) (Unit {0}) → Decides m σ (op.Gc o) k τ
free_done None m σ ρ τ o ts P b row same split (s, p) x =
    let y : Pushed m ρ (known i32_type ∷ []) τ = subst (λ (v : ValueType). Pushed m ρ (known v ∷ []) τ) (i32_in m) x in
    by_row m σ τ (op.Gc o) refl (λ set. refl) (same_trans σ ρ τ same y.same)
    (λ n c. let (rest, d, l) = (y.stacks n).0 c in (
      all_known (ts s),
      known i32_type ∷ [],
      rest,
      (enabled σ (op.Gc o) Gc false ((gc_is o).of, refl) b, (row (all_known (ts s)) (known i32_type ∷ [])).1 (s, (refl, refl))),
      (split s rest).1 (p, d),
      l,
    ))
    (λ popped pushed rest (u, r) d.
    let (q, (e, f)) = (row popped pushed).0 r in
    let d' : Stacks m σ (stack (ts q) ++ rest) = rw e at d in
    rw f ((y.stacks (known i32_type ∷ rest)).1 (rest, ((split q rest).0 d').1, all_below_refl (known i32_type ∷ rest))))
free_done (Some k) m σ ρ τ o ts P b row same split p x = denies_from k _ _ (λ y. tt) x

free_checked : (k : Option ErrorKind) (m : Meaning) (σ ρ τ : State) (o : GcOperator) (ts : Bool → List ValueType) (P : Bool → Type 0) → MayBegin σ Gc false → IsFree m σ o ts
    → Same σ ρ → Splits m σ ρ ts P → (s : Bool) × P s → Does k (Pushed m ρ (stack (types_in m (vals.I32 ∷ []))) τ) (Unit {0}) → Stays ρ τ → Checks m σ (op.Gc o) k τ
free_checked k m σ ρ τ o ts P b row same split p x s =
    let z = stays_trans σ ρ τ (stays_same σ ρ same) s in
    checks_going k m σ τ (op.Gc o) Gc false b (free_done k m σ ρ τ o ts P b row same split p x) z.given z.failed z.saved

-- where it comes there are such operands
free_there : (m : Meaning) (σ : State) (o : GcOperator) (ts : Bool → List ValueType) → MayBegin σ Gc false → IsFree m σ o ts → (os : List Op) × Accepts m σ (op.Gc o ∷ os)
    → (s : Bool) × (rest : List Operand) × Stacks m σ (stack (ts s) ++ rest)
free_there m σ o ts b row (os, y) =
    let (popped, pushed, rest, (u, r), c) = some_row m σ (op.Gc o) os refl b.framed y in
    let (s, (e, f)) = (row popped pushed).0 r in
    let c' : Stacks m σ (stack (ts s) ++ rest) = rw e at c in (s, rest, c')

free_refused : (k : ErrorKind) (m : Meaning) (σ ρ : State) (o : GcOperator) (ts : Bool → List ValueType) (P : Bool → Type 0) → MayBegin σ Gc false → IsFree m σ o ts
    → Same σ ρ → Splits m σ ρ ts P → ((s : Bool) × P s → ⊥) → Checks m σ (op.Gc o) (Some k) ρ
free_refused k m σ ρ o ts P b row same split n =
    refused_then k m σ ρ (op.Gc o) Gc false b (stays_same σ ρ same)
    (denies k _ (λ y. let (s, rest, c) = free_there m σ o ts b row y in n (s, ((split s rest).0 c).0)))

-- ---- one reference of a kind

abbrev one_of : AbstractHeapType → Bool → List ValueType
one_of kind s = nullable_to kind s ∷ []

abbrev IsOf : Meaning → MaybeType → AbstractHeapType → Bool → Type 0
IsOf m a kind s = Stands m a (known (nullable_to kind s))

one_splits : (m : Meaning) (σ ρ : State) (a : MaybeType) (kind : AbstractHeapType) → PoppedAny m σ a ρ → Splits m σ ρ (one_of kind) (IsOf m a kind)
one_splits m σ ρ a kind p s rest = p.stacks (known (nullable_to kind s)) rest

pub measured : (k : Option ErrorKind) (m : Meaning) (σ ρ τ : State) (o : GcOperator) (kind : AbstractHeapType) (a : MaybeType) (b : Bool) → MayBegin σ Gc false → TakesEither o kind
    → PoppedAny m σ a ρ → IsTrue b ↔ (s : Bool) × IsOf m a kind s → b ≡ true → Does k (Pushed m ρ (stack (types_in m (vals.I32 ∷ []))) τ) (Unit {0}) → Stays ρ τ → Checks m σ (op.Gc o) k τ
measured k m σ ρ τ o kind a b i t p e h x s =
    free_checked k m σ ρ τ o (one_of kind) (IsOf m a kind) i (t (here m σ)) p.same (one_splits m σ ρ a kind p) (e.0 h) x s

pub measures_nothing : (k : ErrorKind) (m : Meaning) (σ τ : State) (o : GcOperator) (kind : AbstractHeapType) → MayBegin σ Gc false → TakesEither o kind → Denies k (MayPopAny m σ) → Stays σ τ
    → Checks m σ (op.Gc o) (Some k) τ
measures_nothing k m σ τ o kind b t d s =
    refused_then k m σ τ (op.Gc o) Gc false b s
    (denies_from k _ _ (λ y. let (q, rest, c) = free_there m σ o (one_of kind) b (t (here m σ)) y in (known (nullable_to kind q), rest, c)) d)

pub measures_other : (k : ErrorKind) (m : Meaning) (σ ρ : State) (o : GcOperator) (kind : AbstractHeapType) (a : MaybeType) (b : Bool) → MayBegin σ Gc false → TakesEither o kind
    → PoppedAny m σ a ρ → IsTrue b ↔ (s : Bool) × IsOf m a kind s → b ≡ false → Checks m σ (op.Gc o) (Some k) ρ
measures_other k m σ ρ o kind a b i t p e h =
    free_refused k m σ ρ o (one_of kind) (IsOf m a kind) i (t (here m σ)) p.same (one_splits m σ ρ a kind p)
    (λ q. let x : b ≡ true = e.1 q in let y : false ≡ true = sym h ∙ x in cc)

-- ---- two references that are compared

abbrev two_of : Bool → List ValueType
two_of s = nullable_to Eq s ∷ nullable_to Eq s ∷ []

abbrev compared : GcOperator
compared = gc.RefEq

two_splits : (m : Meaning) (σ κ ρ : State) (a b : MaybeType) → PoppedAny m σ b κ → PoppedAny m κ a ρ → Splits m σ ρ two_of (AreOf m a b)
two_splits m σ κ ρ a b p q s rest =
    let t : Operand = known (nullable_to Eq s) in (
      λ c. (let (sb, d) = (p.stacks t (t ∷ rest)).0 c in let (sa, e) = (q.stacks t rest).0 d in ((sa, sb), e)),
      λ c. ((p.stacks t (t ∷ rest)).1 (c.0.1, (q.stacks t rest).1 (c.0.0, c.1))),
    )

is_two : (m : Meaning) (σ : State) → IsFree m σ compared two_of
is_two m σ popped pushed = (λ r. r, λ r. r)

pub equal_checked : (k : Option ErrorKind) (m : Meaning) (σ κ ρ τ : State) (a b : MaybeType) (c : Bool) → MayBegin σ Gc false → PoppedAny m σ b κ → PoppedAny m κ a ρ
    → IsTrue c ↔ (s : Bool) × AreOf m a b s → c ≡ true → Does k (Pushed m ρ (stack (types_in m (vals.I32 ∷ []))) τ) (Unit {0}) → Stays ρ τ → Checks m σ (op.Gc gc.RefEq) k τ
equal_checked k m σ κ ρ τ a b c i p q e h x s =
    free_checked k m σ ρ τ compared two_of (AreOf m a b) i (is_two m σ) (same_trans σ κ ρ p.same q.same) (two_splits m σ κ ρ a b p q) (e.0 h) x s

pub equal_other : (k : ErrorKind) (m : Meaning) (σ κ ρ : State) (a b : MaybeType) (c : Bool) → MayBegin σ Gc false → PoppedAny m σ b κ → PoppedAny m κ a ρ
    → IsTrue c ↔ (s : Bool) × AreOf m a b s → c ≡ false → Checks m σ (op.Gc gc.RefEq) (Some k) ρ
equal_other k m σ κ ρ a b c i p q e h =
    free_refused k m σ ρ compared two_of (AreOf m a b) i (is_two m σ) (same_trans σ κ ρ p.same q.same) (two_splits m σ κ ρ a b p q)
    (λ v. let x : c ≡ true = e.1 v in let y : false ≡ true = sym h ∙ x in cc)

pub equal_nothing : (k : ErrorKind) (m : Meaning) (σ τ : State) → MayBegin σ Gc false → Denies k (MayPopAny m σ) → Stays σ τ → Checks m σ (op.Gc gc.RefEq) (Some k) τ
equal_nothing k m σ τ b d s =
    refused_then k m σ τ (op.Gc compared) Gc false b s
    (denies_from k _ _ (λ y. let (q, rest, c) = free_there m σ compared two_of b (is_two m σ) y in (known (nullable_to Eq q), known (nullable_to Eq q) ∷ rest, c)) d)

pub equal_one : (k : ErrorKind) (m : Meaning) (σ κ τ : State) (b : MaybeType) → MayBegin σ Gc false → PoppedAny m σ b κ → Denies k (MayPopAny m κ) → Stays κ τ → Checks m σ (op.Gc gc.RefEq) (Some k) τ
equal_one k m σ κ τ b i p d s =
    refused_then k m σ τ (op.Gc compared) Gc false i (stays_trans σ κ τ (stays_same σ κ p.same) s)
    (denies_from k _ _ (λ y. let (q, rest, c) = free_there m σ compared two_of i (is_two m σ) y in
    (known (nullable_to Eq q), rest, ((p.stacks (known (nullable_to Eq q)) (known (nullable_to Eq q) ∷ rest)).0 c).1)) d)

pub equal_second : (k : ErrorKind) (m : Meaning) (σ κ : State) (b : MaybeType) (c : Bool) → MayBegin σ Gc false → PoppedAny m σ b κ
    → IsTrue c ↔ (s : Bool) × Stands m b (known (nullable_to Eq s)) → c ≡ false → Checks m σ (op.Gc gc.RefEq) (Some k) κ
equal_second k m σ κ b c i p e h =
    refused_then k m σ κ (op.Gc compared) Gc false i (stays_same σ κ p.same)
    (denies k _ (λ y. let (q, rest, d) = free_there m σ compared two_of i (is_two m σ) y in
    let x : c ≡ true = e.1 (q, ((p.stacks (known (nullable_to Eq q)) (known (nullable_to Eq q) ∷ rest)).0 d).0) in let y : false ≡ true = sym h ∙ x in cc))

-- ---- conversions

conversion_done : (k : Option ErrorKind) (m : Meaning) (σ ρ τ : State) (o : GcOperator) (a b : MaybeType) (from to : AbstractHeapType) → MayBegin σ Gc false → Converts o from to
    → PoppedAny m σ a ρ → IsConverted m a b from to → Does k (PushedAny m ρ b τ) (Unit {0}) → Decides m σ (op.Gc o) k τ
conversion_done None m σ ρ τ o a b from to i t p e x =
    by_row m σ τ (op.Gc o) refl (λ set. refl) (same_trans σ ρ τ p.same x.same) reached
    (λ popped pushed rest (u, r) d.
    let (n, q, (f, h)) = (t (here m σ) popped pushed).0 r in
    let d' : Stacks m σ (reference_of from n q ∷ rest) = rw f at d in
    let (k, c) = (p.stacks (reference_of from n q) rest).0 d' in
    rw h ((x.stacks (reference_of to n q ∷ rest)).1 (e.least n q k, c)))
  where
    reached : Reached m σ (op.Gc o) τ
    reached [] c = absurd ((x.stacks []).0 c)
    reached (y ∷ s) c =
        let (v, d) = (x.stacks (y ∷ s)).0 c in
        let (n, q, k, l) = e.reached y v in (
          reference_of from n q ∷ [],
          reference_of to n q ∷ [],
          s,
          (enabled σ (op.Gc o) Gc false ((gc_is o).of, refl) i, (t (here m σ) (reference_of from n q ∷ []) (reference_of to n q ∷ [])).1 (n, q, (refl, refl))),
          (p.stacks (reference_of from n q) s).1 (k, d),
          (l, all_below_refl s),
        )
conversion_done (Some k) m σ ρ τ o a b from to i t p e x = denies_from k _ _ (λ y. tt) x

pub conversion_checked : (k : Option ErrorKind) (m : Meaning) (σ ρ τ : State) (o : GcOperator) (a b : MaybeType) (from to : AbstractHeapType) → MayBegin σ Gc false → Converts o from to
    → PoppedAny m σ a ρ → IsConverted m a b from to → Does k (PushedAny m ρ b τ) (Unit {0}) → Stays ρ τ → Checks m σ (op.Gc o) k τ
conversion_checked k m σ ρ τ o a b from to i t p e x s =
    let z = stays_trans σ ρ τ (stays_same σ ρ p.same) s in
    checks_going k m σ τ (op.Gc o) Gc false i (conversion_done k m σ ρ τ o a b from to i t p e x) z.given z.failed z.saved

-- where it comes there is a reference to convert
conversion_there : (m : Meaning) (σ : State) (o : GcOperator) (from to : AbstractHeapType) → MayBegin σ Gc false → Converts o from to → (os : List Op) × Accepts m σ (op.Gc o ∷ os)
    → (n s : Bool) × (rest : List Operand) × Stacks m σ (reference_of from n s ∷ rest)
conversion_there m σ o from to b t (os, y) =
    let (popped, pushed, rest, (u, r), c) = some_row m σ (op.Gc o) os refl b.framed y in
    let (n, s, (e, f)) = (t (here m σ) popped pushed).0 r in
    let c' : Stacks m σ (reference_of from n s ∷ rest) = rw e at c in (n, s, rest, c')

pub converts_nothing : (k : ErrorKind) (m : Meaning) (σ τ : State) (o : GcOperator) (from to : AbstractHeapType) → MayBegin σ Gc false → Converts o from to → Denies k (MayPopAny m σ) → Stays σ τ
    → Checks m σ (op.Gc o) (Some k) τ
converts_nothing k m σ τ o from to b t d s =
    refused_then k m σ τ (op.Gc o) Gc false b s
    (denies_from k _ _ (λ y. let (n, q, rest, c) = conversion_there m σ o from to b t y in (reference_of from n q, rest, c)) d)

pub converts_other : (k : ErrorKind) (m : Meaning) (σ ρ : State) (o : GcOperator) (a : MaybeType) (from to : AbstractHeapType) → MayBegin σ Gc false → Converts o from to → PoppedAny m σ a ρ
    → IsUnconvertible m a from → Checks m σ (op.Gc o) (Some k) ρ
converts_other k m σ ρ o a from to b t p n =
    refused_then k m σ ρ (op.Gc o) Gc false b (stays_same σ ρ p.same)
    (denies k _ (λ y. let (i, q, rest, c) = conversion_there m σ o from to b t y in n i q ((p.stacks (reference_of from i q) rest).0 c).0))

-- ---- what is known of an operand

pub kind_fits : (m : Meaning) (a : MaybeType) (s : Bool) (kind : AbstractHeapType) (v : ValType) (b : Bool) → v ≡ vals.Ref (record { nullable = true; heap = heap.Abstract s kind })
    → IsTrue b ↔ Stands m a (known (type_in m v)) → IsTrue b ↔ Stands m a (known (nullable_to kind s))
unfolding type_in
kind_fits m a s kind v b e i = rw e at i
