-- Operands of any type: `drop`, and `select` without a type.
use Rattle.std.proofs.Common.{◌≡◌, ◌↔◌, ◌∙◌, List, [], ◌∷◌, true, false, Option, Some, None, not, refl, sym, ap, subst}
use Rattle.wasm_types.specs.decoding.declared.error.ErrorKind.{ErrorKind}
use Rattle.wasm_types.specs.decoding.Denials.{Denies}
use Rattle.wasm_types.specs.decoding.DenialLaws.{denies, denies_from}
use Rattle.wasm_types.specs.trees.Types.{Number, i32, i64, f32, f64, v128, number, ref, abstract}
use Rattle.wasm_types.specs.trees.Below.{Below}
use Rattle.wasm_types.specs.values.declared.value.ValType.{ValType}
use Rattle.wasm_types.specs.values.declared.value.ValType.TheVariants as vals
use Rattle.wasm_types.specs.values.Trees.{abstract_of}
use Rattle.wasm_types.specs.values.ValueKinds.{is_reference}
use Rattle.wasm_operators_immediates.specs.declared.proposal.Proposal.TheVariants.{Mvp}
use Rattle.wasm_operators_enums.specs.Op as op
use Rattle.wasm_operators_enums.specs.Op.{Op}
use Rattle.wasm_operator_validator_rules.specs.Operands.{ValueType, Operand, bottom, some_reference, known, OperandBelow}
use Rattle.wasm_operator_validator_rules.specs.InstructionTypes.{i32_type}
use Rattle.wasm_operator_validator_rules.specs.Row.{IsNumber}
use Rattle.wasm_operator_validator_state.specs.resources.Meaning.{Meaning, type_in}
use Rattle.wasm_operator_validator_state.specs.declared.operand.MaybeType.{MaybeType}
use Rattle.wasm_operator_validator_state.specs.declared.operand.MaybeType.TheVariants as maybe
use Rattle.wasm_operator_validator_state.specs.Refusals.{Does}
use Rattle.wasm_operator_validator_state.specs.State.{State, Stands, Accepts, Decides, Checks}
use Rattle.wasm_operator_validator_state.specs.Steps.{Stacks, MayPop, MayPopAny, Popped, PoppedAny, PushedAny}
use Rattle.wasm_operator_validator_state.specs.laws.Operands.{operand_refl, all_below_refl}
use Rattle.wasm_operator_validator_state.specs.laws.Rows.{Reached, by_row, some_row}
use Rattle.wasm_operator_validator_state.specs.Entering.{MayBegin}
use Rattle.wasm_operator_validator_state.specs.laws.Entering.{enabled}
use Rattle.wasm_operator_validator_state.specs.laws.Checks.{checks_going}
use Rattle.wasm_operator_validator_stacks.specs.determined.Operators.{IsPlain, Stays}
use Rattle.wasm_operator_validator_stacks.specs.determined.laws.Types.{i32_in}
use Rattle.wasm_operator_validator_stacks.specs.determined.laws.Same.{same_trans, stays_trans, stays_same}
use Rattle.wasm_operator_validator_stacks.specs.determined.laws.Determined.{refused_then}
use Rattle.wasm_operator_validator_memory.specs.Choices.{may_choose, Chooses}

-- ---- drop

abbrev pub drop_op : Op
drop_op = op.Parametric op.Drop

pub drop_is : IsPlain drop_op Mvp false
drop_is = record { of = refl; named = refl; plain = refl }

-- something is stood for
some_operand : (m : Meaning) (a : MaybeType) → (t : Operand) × Stands m a t
some_operand m maybe.Bottom = (bottom, tt)
some_operand m (maybe.UnknownRef None) = (some_reference, operand_refl some_reference)
some_operand m (maybe.UnknownRef (Some a)) =
    (known (ref false (abstract false (abstract_of a))), (false, operand_refl (known (ref false (abstract false (abstract_of a))))))
some_operand m (maybe.Known v) = (known (type_in m v), operand_refl (known (type_in m v)))

drops : (m : Meaning) (σ τ : State) (a : MaybeType) → MayBegin σ Mvp false → PoppedAny m σ a τ → (os : List Op) → Accepts m σ (drop_op ∷ os) ↔ Accepts m τ os
drops m σ τ a b p =
    let (t, w) = some_operand m a in
    by_row m σ τ drop_op refl (λ set. refl) p.same
    (λ s c. (t ∷ [], [], s, (enabled σ drop_op Mvp false (refl, refl) b, (t, refl, refl)), (p.stacks t s).1 (w, c), all_below_refl s))
    (λ popped pushed rest (e, (u, f, h)) d.
    let d' : Stacks m σ (u ∷ rest) = rw f at d in rw h (((p.stacks u rest).0 d').1))

pub dropped : (m : Meaning) (σ τ : State) (a : MaybeType) → MayBegin σ Mvp false → PoppedAny m σ a τ → Checks m σ drop_op None τ
dropped m σ τ a b p = checks_going None m σ τ drop_op Mvp false b (drops m σ τ a b p) p.same.given p.same.failed p.same.saved

pub not_dropped : (k : ErrorKind) (m : Meaning) (σ τ : State) → MayBegin σ Mvp false → Denies k (MayPopAny m σ) → Stays σ τ → Checks m σ drop_op (Some k) τ
not_dropped k m σ τ b d s =
    refused_then k m σ τ drop_op Mvp false b s
    (denies_from k _ _ (λ (os, y). let (popped, pushed, rest, (e, (u, f, h)), c) = some_row m σ drop_op os refl b.framed y in
    let c' : Stacks m σ (u ∷ rest) = rw f at c in (u, rest, c')) d)

-- ---- select

abbrev pub select_op : Op
select_op = op.Parametric op.Select

pub select_is : IsPlain select_op Mvp false
select_is = record { of = refl; named = refl; plain = refl }

number_operand : (m : Meaning) (v : ValType) → not (is_reference v) ≡ true → IsNumber (known (type_in m v))
unfolding type_in
number_operand m vals.I32 e = tt
number_operand m vals.I64 e = tt
number_operand m vals.F32 e = tt
number_operand m vals.F64 e = tt
number_operand m vals.V128 e = tt
number_operand m (vals.Ref r) e = cc

-- what the choice stands for is below
abbrev ReachedBy : Meaning → MaybeType → MaybeType → Operand → Type 0
ReachedBy m a k u = (t : Operand) × IsNumber t × Stands m a t × Stands m k t × OperandBelow t u

choice_reach : (m : Meaning) (a k n : MaybeType) → Chooses a k n → (u : Operand) → Stands m n u → ReachedBy m a k u
choice_reach m maybe.Bottom maybe.Bottom n (f, g, h) u s = (bottom, tt, tt, tt, tt)
choice_reach m maybe.Bottom (maybe.UnknownRef x) n (f, g, h) u s = cc
choice_reach m maybe.Bottom (maybe.Known w) n (f, g, h) u s =
    (known (type_in m w), number_operand m w g, tt, operand_refl (known (type_in m w)), subst (λ (x : MaybeType). Stands m x u) h s)
choice_reach m (maybe.UnknownRef x) k n (f, g, h) u s = absurd h
choice_reach m (maybe.Known v) maybe.Bottom n (f, g, h) u s =
    (known (type_in m v), number_operand m v f, operand_refl (known (type_in m v)), tt, subst (λ (x : MaybeType). Stands m x u) h s)
choice_reach m (maybe.Known v) (maybe.UnknownRef x) n (f, g, h) u s = absurd h
choice_reach m (maybe.Known v) (maybe.Known w) n (f, g, (e, h)) u s = (
  known (type_in m v),
  number_operand m v f,
  operand_refl (known (type_in m v)),
  subst (λ (x : ValType). OperandBelow (known (type_in m x)) (known (type_in m v))) e (operand_refl (known (type_in m v))),
  subst (λ (x : MaybeType). Stands m x u) h s,
)

choice_least : (m : Meaning) (a k n : MaybeType) → Chooses a k n → (t : Operand) → Stands m a t → Stands m k t → Stands m n t
choice_least m maybe.Bottom k n (f, g, h) t x y = subst (λ (z : MaybeType). Stands m z t) (sym h) y
choice_least m (maybe.UnknownRef z) k n (f, g, h) t x y = absurd h
choice_least m (maybe.Known v) maybe.Bottom n (f, g, h) t x y = subst (λ (z : MaybeType). Stands m z t) (sym h) x
choice_least m (maybe.Known v) (maybe.UnknownRef z) n (f, g, h) t x y = absurd h
choice_least m (maybe.Known v) (maybe.Known w) n (f, g, (e, h)) t x y = subst (λ (z : MaybeType). Stands m z t) (sym h) x

-- what stands for a number may be chosen
may : (m : Meaning) (a : MaybeType) (t : Operand) → IsNumber t → Stands m a t → may_choose a ≡ true
unfolding type_in
may m maybe.Bottom t i s = refl
may m (maybe.UnknownRef None) bottom i s = absurd s
may m (maybe.UnknownRef None) some_reference i s = absurd i
may m (maybe.UnknownRef None) (known (number n)) i s = absurd s
may m (maybe.UnknownRef None) (known (ref n h)) i s = absurd i
may m (maybe.UnknownRef (Some a)) bottom i (s, b) = absurd b
may m (maybe.UnknownRef (Some a)) some_reference i (s, b) = absurd i
may m (maybe.UnknownRef (Some a)) (known (number n)) i (s, b) = absurd b
may m (maybe.UnknownRef (Some a)) (known (ref n h)) i (s, b) = absurd i
may m (maybe.Known vals.I32) t i s = refl
may m (maybe.Known vals.I64) t i s = refl
may m (maybe.Known vals.F32) t i s = refl
may m (maybe.Known vals.F64) t i s = refl
may m (maybe.Known vals.V128) t i s = refl
may m (maybe.Known (vals.Ref r)) bottom i s = absurd s
may m (maybe.Known (vals.Ref r)) some_reference i s = absurd i
may m (maybe.Known (vals.Ref r)) (known (number n)) i s = absurd s
may m (maybe.Known (vals.Ref r)) (known (ref n h)) i s = absurd i

-- the type in code of a number
abbrev val_of : Number → ValType
val_of i32 = vals.I32
val_of i64 = vals.I64
val_of f32 = vals.F32
val_of f64 = vals.F64
val_of v128 = vals.V128

number_at : (m : Meaning) (v : ValType) (n : Number) → Below (type_in m v) (number n) → v ≡ val_of n
unfolding type_in
number_at m vals.I32 n b = ap val_of b
number_at m vals.I64 n b = ap val_of b
number_at m vals.F32 n b = ap val_of b
number_at m vals.F64 n b = ap val_of b
number_at m vals.V128 n b = ap val_of b
number_at m (vals.Ref r) n b = absurd b

one_number : (m : Meaning) (v w : ValType) (t : Operand) → IsNumber t → OperandBelow (known (type_in m v)) t → OperandBelow (known (type_in m w)) t → v ≡ w
one_number m v w bottom i b c = absurd b
one_number m v w some_reference i b c = absurd b
one_number m v w (known (number n)) i b c = number_at m v n b ∙ sym (number_at m w n c)
one_number m v w (known (ref n h)) i b c = absurd i

agree : (m : Meaning) (a k : MaybeType) (t : Operand) → IsNumber t → Stands m a t → Stands m k t → (n : MaybeType) × Chooses a k n
agree m maybe.Bottom k t i x y = (k, (refl, may m k t i y, refl))
agree m (maybe.UnknownRef z) k t i x y = let f : false ≡ true = may m (maybe.UnknownRef z) t i x in cc
agree m (maybe.Known v) maybe.Bottom t i x y = (maybe.Known v, (may m (maybe.Known v) t i x, refl, refl))
agree m (maybe.Known v) (maybe.UnknownRef z) t i x y = let f : false ≡ true = may m (maybe.UnknownRef z) t i y in cc
agree m (maybe.Known v) (maybe.Known w) t i x y =
    (maybe.Known v, (may m (maybe.Known v) t i x, may m (maybe.Known w) t i y, (one_number m v w t i x y, refl)))

abbrev Popped32 : Meaning → State → State → Type 0
Popped32 m σ π = Popped m σ (known (type_in m vals.I32) ∷ []) π

popped_32 : (m : Meaning) (σ π : State) → Popped32 m σ π → Popped m σ (known i32_type ∷ []) π
popped_32 m σ π p = subst (λ (t : ValueType). Popped m σ (known t ∷ []) π) (i32_in m) p

select_reached : (m : Meaning) (σ π ρ ω τ : State) (a k n : MaybeType) → MayBegin σ Mvp false → Popped m σ (known i32_type ∷ []) π → PoppedAny m π k ρ → PoppedAny m ρ a ω
    → Chooses a k n → PushedAny m ω n τ → Reached m σ select_op τ
select_reached m σ π ρ ω τ a k n b p q r h y [] c = absurd ((y.stacks []).0 c)
select_reached m σ π ρ ω τ a k n b p q r h y (u ∷ s) c =
    let (z, d) = (y.stacks (u ∷ s)).0 c in
    let (t, i, v, w, l) = choice_reach m a k n h u z in (
      t ∷ t ∷ known i32_type ∷ [],
      t ∷ [],
      s,
      (enabled σ select_op Mvp false (refl, refl) b, (t, i, refl, refl)),
      (p.stacks (t ∷ t ∷ s)).1 ((q.stacks t (t ∷ s)).1 (w, (r.stacks t s).1 (v, d))),
      (l, all_below_refl s),
    )

-- what a select takes, the top first
abbrev Choice : Meaning → State → Operand → List Operand → Type 0
Choice m σ t rest = Stacks m σ (known i32_type ∷ t ∷ t ∷ rest)

pub selected : (m : Meaning) (σ π ρ ω τ : State) (a k n : MaybeType) → MayBegin σ Mvp false → Popped32 m σ π → PoppedAny m π k ρ → PoppedAny m ρ a ω
    → Chooses a k n → PushedAny m ω n τ → (os : List Op) → Accepts m σ (select_op ∷ os) ↔ Accepts m τ os
selected m σ π ρ ω τ a k n b x q r h y =
    let p = popped_32 m σ π x in
    by_row m σ τ select_op refl (λ set. refl) (same_trans σ π τ p.same (same_trans π ρ τ q.same (same_trans ρ ω τ r.same y.same)))
    (select_reached m σ π ρ ω τ a k n b p q r h y)
    (λ popped pushed rest (e, (t, j, f, g)) d.
    let d' : Choice m σ t rest = rw f at d in
    let (v, z) = (q.stacks t (t ∷ rest)).0 ((p.stacks (t ∷ t ∷ rest)).0 d') in
    let (w, c) = (r.stacks t rest).0 z in
    rw g ((y.stacks (t ∷ rest)).1 (choice_least m a k n h t w v, c)))

-- where a select comes there is such a choice
choice_at : (m : Meaning) (σ : State) → MayBegin σ Mvp false → (os : List Op) × Accepts m σ (select_op ∷ os) → (t : Operand) × (rest : List Operand) × IsNumber t × Choice m σ t rest
choice_at m σ b (os, y) =
    let (popped, pushed, rest, (e, (t, j, f, g)), c) = some_row m σ select_op os refl b.framed y in
    let c' : Choice m σ t rest = rw f at c in (t, rest, j, c')

pub no_choice : (k : ErrorKind) (m : Meaning) (σ τ : State) → MayBegin σ Mvp false → Denies k (MayPop m σ (known (type_in m vals.I32) ∷ [])) → Stays σ τ
    → Checks m σ select_op (Some k) τ
no_choice k m σ τ b d s =
    refused_then k m σ τ select_op Mvp false b s
    (denies_from k _ _ (λ y. let (t, rest, j, c) = choice_at m σ b y in
    (t ∷ t ∷ rest, subst (λ (v : ValueType). Stacks m σ (known v ∷ t ∷ t ∷ rest)) (sym (i32_in m)) c)) d)

pub no_second : (k : ErrorKind) (m : Meaning) (σ π τ : State) → MayBegin σ Mvp false → Popped32 m σ π → Denies k (MayPopAny m π) → Stays π τ → Checks m σ select_op (Some k) τ
no_second k m σ π τ b x d s =
    refused_then k m σ τ select_op Mvp false b (stays_trans σ π τ (stays_same σ π x.same) s)
    (denies_from k _ _ (λ y. let (t, rest, j, c) = choice_at m σ b y in
    (t, t ∷ rest, ((popped_32 m σ π x).stacks (t ∷ t ∷ rest)).0 c)) d)

pub no_first : (k : ErrorKind) (m : Meaning) (σ π ρ τ : State) (a : MaybeType) → MayBegin σ Mvp false → Popped32 m σ π → PoppedAny m π a ρ → Denies k (MayPopAny m ρ) → Stays ρ τ
    → Checks m σ select_op (Some k) τ
no_first k m σ π ρ τ a b x q d s =
    refused_then k m σ τ select_op Mvp false b (stays_trans σ ρ τ (stays_trans σ π ρ (stays_same σ π x.same) (stays_same π ρ q.same)) s)
    (denies_from k _ _ (λ y. let (t, rest, j, c) = choice_at m σ b y in
    (t, rest, ((q.stacks t (t ∷ rest)).0 (((popped_32 m σ π x).stacks (t ∷ t ∷ rest)).0 c)).1)) d)

stays_popped : (m : Meaning) (σ π ρ ω : State) (a k : MaybeType) → Popped32 m σ π → PoppedAny m π k ρ → PoppedAny m ρ a ω → Stays σ ω
stays_popped m σ π ρ ω a k x q r = stays_same σ ω (same_trans σ π ω x.same (same_trans π ρ ω q.same r.same))

pub not_chosen : (e : ErrorKind) (m : Meaning) (σ π ρ ω : State) (a k : MaybeType) → MayBegin σ Mvp false → Popped32 m σ π → PoppedAny m π k ρ → PoppedAny m ρ a ω
    → ((n : MaybeType) → Chooses a k n → ⊥) → Checks m σ select_op (Some e) ω
not_chosen e m σ π ρ ω a k b x q r never =
    refused_then e m σ ω select_op Mvp false b (stays_popped m σ π ρ ω a k x q r)
    (denies e _ (λ y.
    let (t, rest, j, c) = choice_at m σ b y in
    let (v, z) = (q.stacks t (t ∷ rest)).0 (((popped_32 m σ π x).stacks (t ∷ t ∷ rest)).0 c) in
    let (w, d) = (r.stacks t rest).0 z in
    let (n, h) = agree m a k t j w v in never n h))

-- what was chosen is put on, or there is no memory for it
puts : (e : Option ErrorKind) (m : Meaning) (σ π ρ ω τ : State) (a k n : MaybeType) → MayBegin σ Mvp false → Popped32 m σ π → PoppedAny m π k ρ → PoppedAny m ρ a ω
    → Chooses a k n → Does e (PushedAny m ω n τ) (Unit {0}) → Decides m σ select_op e τ
puts None m σ π ρ ω τ a k n b x q r h y = selected m σ π ρ ω τ a k n b x q r h y
puts (Some e) m σ π ρ ω τ a k n b x q r h y = denies_from e _ _ (λ z. tt) y

pub put_on : (e : Option ErrorKind) (m : Meaning) (σ π ρ ω τ : State) (a k n : MaybeType) → MayBegin σ Mvp false → Popped32 m σ π → PoppedAny m π k ρ → PoppedAny m ρ a ω
    → Chooses a k n → Does e (PushedAny m ω n τ) (Unit {0}) → Stays ω τ → Checks m σ select_op e τ
put_on e m σ π ρ ω τ a k n b x q r h y s =
    let z = stays_trans σ ω τ (stays_popped m σ π ρ ω a k x q r) s in
    checks_going e m σ τ select_op Mvp false b (puts e m σ π ρ ω τ a k n b x q r h y) z.given z.failed z.saved
