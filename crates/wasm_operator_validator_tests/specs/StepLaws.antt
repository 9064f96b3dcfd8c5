-- The rows of `Steps`.
use Rattle.std.proofs.Common.{◌≡◌, ◌⊎◌, ◌∙◌, inl, inr, ℕ, Bool, true, false, List, [], ◌∷◌, length, Some, refl, sym, ap, arith, lit<, lit≤}
use Rattle.wasm_types.specs.settings.Features.{Floats, Simd, mask}
use Rattle.wasm_types.specs.trees.Types.{i32, i64, number, function, any, eq, concrete}
use Rattle.wasm_types.specs.trees.Trees.{TypeTree, opened}
use Rattle.wasm_types.specs.trees.Below.{expanded}
use Rattle.wasm_types.specs.trees.AbstractOrder.{AbstractBelow, same, eq_any}
use Rattle.wasm_types.specs.values.declared.value.ValType.{ValType}
use Rattle.wasm_types.specs.values.declared.value.ValType.TheVariants.{I32, I64}
use Rattle.wasm_operator_validator_rules.specs.Operands.{bottom}
use Rattle.wasm_operator_validator_rules.specs.Context.{Signature}
use Rattle.wasm_operator_validator_rules.specs.arity.Worked.{splitting, pair}
use Rattle.wasm_operator_validator_state.specs.resources.Meaning.{Meaning, type_in}
use Rattle.wasm_operator_validator_state.specs.declared.operand.MaybeType.{MaybeType}
use Rattle.wasm_operator_validator_state.specs.declared.operand.MaybeType.TheVariants as maybe
use Rattle.wasm_operator_validator_state.specs.State.{State}
use Rattle.wasm_operator_validator_tests.specs.Answers.{listed}
use Rattle.wasm_operator_validator_tests.specs.Beginning.{its_signature}
use Rattle.wasm_operator_validator_tests.specs.Steps.{NamesWritten, StacksChanged, AbstractFits, BeginningsStopped, LocalsDeclared, FunctionsAt}

untrue : false ≡ true → ⊥
untrue e = absurd cc

turned : true ≡ false → ⊥
turned e = absurd cc

-- ---- names

-- the two types are not one
two_types : concrete splitting ≡ concrete pair → ⊥
unfolding opened
two_types e =
    let p : splitting ≡ pair = cc in
    let q = ap expanded p in
    absurd cc

pub names_written : NamesWritten
unfolding opened
names_written = record {
  written = lit< tt;
  written_exactly = lit< tt;
  abstract_type = tt;
  no_type = λ h. omega (arith, h);
  by_an_id = λ h. h;
  by_a_place = λ h. h;
  named = record { nullable = refl; heap = record { same = refl; known = lit< tt; fits = lit< tt } };
  not_null = λ h. untrue h.nullable;
  another = λ h. two_types h.heap.same;
  unknown = λ h. let k = h.heap.known in omega (arith, k);
  not_named = λ h. h.heap.known;
}

-- ---- stacks

pub stacks_changed : (m : Meaning) → StacksChanged m
unfolding type_in
stacks_changed m = record {
  popped = record { same = record { given = refl; inits = refl; frames = (refl, refl, refl, refl); failed = refl; saved = refl }; stacks = λ s. (λ h. h.1, λ h. (refl, h)) };
  popped_none = record { same = record { given = refl; inits = refl; frames = (refl, refl, refl, refl); failed = refl; saved = refl }; stacks = λ s. (λ h. h, λ h. h) };
  not_popped = λ p. (p.stacks []).0 (refl, tt);
  popped_another = λ p. let e : i32 ≡ i64 = ((p.stacks []).1 tt).0 in absurd cc;
  popped_and_failed = λ p. turned p.same.failed;
  jumped = record { same = record { given = refl; inits = refl; frames = (refl, refl, refl, refl); failed = refl; saved = refl }; stacks = λ s. tt };
  not_jumped = λ j. j.stacks (bottom ∷ []);
  jumped_with_operands = λ j. j.stacks [];
  jumped_and_failed = λ j. turned j.same.failed;
}

-- ---- operands

-- the types of operands that are known
abbrev is_i32 : MaybeType → Bool
is_i32 (maybe.Known I32) = true
is_i32 _ = false

abbrev top_is : Bool → List MaybeType → Bool
top_is b [] = b
top_is b (x ∷ xs) = is_i32 x

not_above : AbstractBelow any eq → ⊥
not_above b = elim b [ ]

pub abstract_fits : (m : Meaning) → AbstractFits m
unfolding type_in
abstract_fits m = record {
  same = (tt, (refl, same));
  below = (tt, (refl, eq_any));
  above = λ h. not_above h.1.1;
  of_another_sharing = λ h. untrue h.1.0;
  number = λ h. h;
}

-- ---- what may begin

neither : (n : ℕ) → (n ≡ mask Simd) ⊎ ((false ≡ true) × (n ≡ mask Floats)) → n ≡ mask Floats → ⊥
neither n (inl e) f = omega (arith, e, f)
neither n (inr (e, g)) f = untrue e

not_asked : (n : ℕ) → (n ≡ 0) ⊎ ((false ≡ true) × (n ≡ mask Floats)) → n ≡ mask Floats → ⊥
not_asked n (inl e) f = omega (arith, e, f)
not_asked n (inr (e, g)) f = untrue e

pub beginnings_stopped : BeginningsStopped
beginnings_stopped = record {
  after_refusal = refl;
  not_after_refusal = untrue;
  after_end = (refl, refl);
  not_after_end = λ h. let e = h.1 in absurd cc;
  refusal_first = λ h. turned h.0;
  proposal_missed = (refl, tt, (refl, inl refl));
  another_missed = λ h. neither _ h.2.1 refl;
  nothing_missed = λ h. turned h.2.0;
  floats_missed = (refl, tt, (refl, inr (refl, refl)));
  floats_not_asked = λ h. not_asked _ h.2.1 refl;
  end_first = λ h. h.1;
  no_memory = λ h. h;
}

-- ---- locals and functions

-- the first of these types, or i32
abbrev first_of : List ValType → ValType
first_of [] = I32
first_of (t ∷ ts) = t

pub locals_declared : LocalsDeclared
unfolding type_in
locals_declared = record {
  two = record { named = I32; type = record { allowed = tt; known = tt; is = refl }; within = lit≤ tt; state = refl };
  none = record { named = I32; type = record { allowed = tt; known = tt; is = refl }; within = lit≤ tt; state = refl };
  one_more = λ d. let e = ap (λ (σ : State). length σ.given.locals) d.state in omega (arith, e);
  not_declared = λ d. let e = ap (λ (σ : State). length σ.given.locals) d.state in omega (arith, e);
  of_another_type = λ d.
      let e = ap (λ (σ : State). first_of σ.given.locals) d.state in
      let f = ap (type_in listed) e ∙ d.type.is in
      absurd cc;
  too_many = λ τ d. let w = d.within in omega (arith, w);
}

-- the type at the index is the first
its_function : (b : Signature) (t : TypeTree) → Some splitting ≡ Some t → expanded t ≡ function b.params b.results → function (number i64 ∷ []) (number i32 ∷ number i32 ∷ []) ≡ function b.params b.results
unfolding opened
its_function b t e f = let g : splitting ≡ t = cc in ap expanded g ∙ f

no_function : (b : Signature) (t : TypeTree) → Some pair ≡ Some t → expanded t ≡ function b.params b.results → ⊥
unfolding opened
no_function b t e f = let g : pair ≡ t = cc in let h = ap expanded g ∙ f in absurd cc

pub functions_at : FunctionsAt
unfolding opened
functions_at = record {
  function = (splitting, refl, refl);
  not_none = λ h. h splitting its_signature refl refl;
  no_function = λ t b e f. no_function b t e f;
  no_type = λ t b e f. absurd cc;
  not_a_struct = λ (t, e, f). no_function its_signature t e f;
  another = λ (t, e, f). let g = its_function (record its_signature { params = [] }) t e f in absurd cc;
  label_of_loop = refl;
  label_of_block = refl;
  label_of_if = refl;
  label_of_else = refl;
}
