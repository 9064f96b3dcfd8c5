-- The worked rows of what is shown.
use Rattle.std.specs.Prelude.{ℤ}
use Rattle.std.proofs.Common.{◌≡◌, ◌↔◌, ◌∙◌, Bool, true, false, IsTrue, List, [], ◌∷◌, ◌++◌, reverse, Option, Some, None, refl, sym, ap, subst}
use Rattle.wasm_types.specs.trees.Types.{i32, i64, number}
use Rattle.wasm_types.specs.trees.Below.{Below}
use Rattle.wasm_types.specs.values.declared.value.ValType.TheVariants.{I32, I64}
use Rattle.wasm_operators_immediates.specs.declared.proposal.Proposal.TheVariants.{Mvp}
use Rattle.wasm_operators_enums.specs.Op.{Op}
use Rattle.wasm_operator_validator_rules.specs.Operands.{Operand, bottom, known, OperandBelow, AllBelow, all_known}
use Rattle.wasm_operator_validator_rules.specs.InstructionTypes.{InstructionType, ◌⟶◌}
use Rattle.wasm_operator_validator_rules.specs.worked.Codes.{constant, drop}
use Rattle.wasm_operator_validator_state.specs.resources.Meaning.{Meaning, type_in}
use Rattle.wasm_operator_validator_state.specs.declared.operand.MaybeType.{MaybeType}
use Rattle.wasm_operator_validator_state.specs.declared.operand.MaybeType.TheVariants as maybe
use Rattle.wasm_operator_validator_state.specs.State.{State, Covers}
use Rattle.wasm_operator_validator_state.specs.Entering.{MayBegin}
use Rattle.wasm_operator_validator_state.specs.Steps.{Stacks}
use Rattle.wasm_operator_validator_state.specs.laws.Operands.{operand_refl, all_below_refl}
use Rattle.wasm_operator_validator_state.specs.laws.Accepting.{Image}
use Rattle.wasm_operator_validator_state.specs.laws.Rows.{RowAt, Reached, Least, row_image}
use Rattle.wasm_operator_validator_state.specs.laws.Entering.{enabled, nothing_asked}
use Rattle.wasm_operator_validator_soundness.specs.shown.Leading.{Leads}
use Rattle.wasm_operator_validator_soundness.specs.shown.Worked.{with_operands, behind_end, end, one_dropped, ShowsAt, ShownWorked}
use Rattle.wasm_operator_validator_soundness.proofs.LeadingLaws.{leads_plain}

untrue : false ≡ true → ⊥
untrue e = cc

other_type : Below (number i32) (number i64) → ⊥
other_type b = cc

begins : (ks : List MaybeType) → MayBegin (with_operands ks) Mvp false
begins ks = record { going = refl; framed = tt; allowed = nothing_asked 0; float = λ e. absurd (untrue e) }

nothing_covered : (m : Meaning) (s : List Operand) → Covers m false [] s → AllBelow [] s
nothing_covered m [] c = tt
nothing_covered m (t ∷ s) c = absurd c

table_row : (t : InstructionType) (popped pushed : List Operand) → ◌≡◌ {A = Option InstructionType} (Some ([] ⟶ number i32 ∷ [])) (Some t)
    → (popped ≡ all_known t.takes) × (pushed ≡ all_known t.gives) → (popped ≡ []) × (pushed ≡ known (number i32) ∷ [])
table_row t popped pushed e r =
    let h : t ≡ ([] ⟶ number i32 ∷ []) = cc in
    subst (λ (y : InstructionType). (popped ≡ all_known y.takes) × (pushed ≡ all_known y.gives)) h r

module _ (m : Meaning) (x : ℤ) where
  -- ---- the constant

  made_row : (popped pushed : List Operand) → RowAt m (with_operands []) (constant x) popped pushed → (popped ≡ []) × (pushed ≡ known (number i32) ∷ [])
  made_row popped pushed (e, (t, h, r)) = table_row t popped pushed h r

  made_reached : Reached m (with_operands []) (constant x) (with_operands (maybe.Known I32 ∷ []))
  unfolding type_in
  made_reached [] c = absurd c
  made_reached (t ∷ s) c = (
    [],
    known (number i32) ∷ [],
    [],
    (enabled (with_operands []) (constant x) Mvp false (refl, refl) (begins []), (_, refl, (refl, refl))),
    tt,
    (c.0, nothing_covered m s c.1),
  )

  put_on : (pushed rest : List Operand) → pushed ≡ known (number i32) ∷ [] → Covers m false [] rest → Covers m false (maybe.Known I32 ∷ []) (reverse pushed ++ rest)
  unfolding type_in
  put_on pushed rest e c = subst (λ (v : List Operand). Covers m false (maybe.Known I32 ∷ []) (reverse v ++ rest)) (sym e) (operand_refl (known (number i32)), c)

  made_least : Least m (with_operands []) (constant x) (with_operands (maybe.Known I32 ∷ []))
  made_least popped pushed rest row c =
      let (e, f) = made_row popped pushed row in
      put_on pushed rest f (subst (λ (v : List Operand). Covers m false [] (reverse v ++ rest)) e c)

  made : Leads m (with_operands []) (constant x) (with_operands (maybe.Known I32 ∷ []))
  made = leads_plain m (with_operands []) (with_operands (maybe.Known I32 ∷ [])) (constant x) refl (record {
    given = refl;
    set = refl;
    frames = (refl, refl, refl, refl);
    failed = refl;
    stacks = row_image m (with_operands []) (with_operands (maybe.Known I32 ∷ [])) (constant x) (refl, refl, refl, refl) made_reached made_least;
  })

  -- what it leaves is above an `i32`
  made_image : (n : List Operand) → Image m (with_operands []) (constant x) n → (rest : List Operand) × AllBelow (known (number i32) ∷ rest) n
  made_image n (s, k, c, (popped, pushed, rest, row, b, e), l) =
      let (f, g) = made_row popped pushed row in
      (rest, subst (λ (v : List Operand). AllBelow v n) (e ∙ ap (λ (v : List Operand). reverse v ++ rest) g) l)

  not_made : (ks : List MaybeType) (t : Operand) → Covers m false ks (t ∷ []) → (OperandBelow (known (number i32)) t → ⊥) → Leads m (with_operands []) (constant x) (with_operands ks) → ⊥
  not_made ks t c n a = let (rest, b) = made_image (t ∷ []) ((a.stacks (t ∷ [])).0 c) in n b.0

  i64_covered : Covers m false (maybe.Known I64 ∷ []) (known (number i64) ∷ [])
  unfolding type_in
  i64_covered = (operand_refl (known (number i64)), tt)

  made_nothing : Leads m (with_operands []) (constant x) (with_operands []) → ⊥
  made_nothing a = let (rest, b) = made_image [] ((a.stacks []).0 tt) in b

  -- ---- what drops it

  dropped_reached : Reached m (with_operands (maybe.Known I32 ∷ [])) drop (with_operands [])
  unfolding type_in
  dropped_reached n c = (
    known (number i32) ∷ [],
    [],
    n,
    (enabled (with_operands (maybe.Known I32 ∷ [])) drop Mvp false (refl, refl) (begins (maybe.Known I32 ∷ [])), (known (number i32), refl, refl)),
    (operand_refl (known (number i32)), c),
    all_below_refl n,
  )

  taken_off : (t : Operand) (popped pushed rest : List Operand) → popped ≡ t ∷ [] → pushed ≡ [] → Covers m false (maybe.Known I32 ∷ []) (reverse popped ++ rest)
      → Covers m false [] (reverse pushed ++ rest)
  taken_off t popped pushed rest e f c =
      let d : Covers m false (maybe.Known I32 ∷ []) (t ∷ rest) = subst (λ (v : List Operand). Covers m false (maybe.Known I32 ∷ []) (reverse v ++ rest)) e c in
      subst (λ (v : List Operand). Covers m false [] (reverse v ++ rest)) (sym f) d.1

  dropped : Leads m (with_operands (maybe.Known I32 ∷ [])) drop (with_operands [])
  dropped = leads_plain m (with_operands (maybe.Known I32 ∷ [])) (with_operands []) drop refl (record {
    given = refl;
    set = refl;
    frames = (refl, refl, refl, refl);
    failed = refl;
    stacks = row_image m (with_operands (maybe.Known I32 ∷ [])) (with_operands []) drop (refl, refl, refl, refl) dropped_reached
        (λ popped pushed rest (e, (t, p, q)) c. taken_off t popped pushed rest p q c);
  })

  -- ---- the end

  ended : Leads m (with_operands []) end behind_end
  ended = record { may = tt; at = tt; ends = tt; given = refl; inits = refl; left = refl }

  left_over : Leads m (with_operands (maybe.Known I32 ∷ [])) end behind_end → ⊥
  left_over d = d.ends

  -- ---- at a place

  known_itself : ShowsAt m false (maybe.Known I32 ∷ []) (known (number i32) ∷ [])
  unfolding type_in
  known_itself = record {
    context = refl;
    frame = record { kind = refl; results = refl; params = λ k. refl; before = refl };
    locals = refl;
    stands = (operand_refl (known (number i32)), tt);
    shown = λ k. (operand_refl (known (number i32)), tt);
  }

  known_other : ShowsAt m false (maybe.Known I32 ∷ []) (known (number i64) ∷ []) → ⊥
  unfolding type_in
  known_other s = other_type (s.stands).0

  known_more : ShowsAt m false (maybe.Known I32 ∷ []) (known (number i32) ∷ known (number i32) ∷ []) → ⊥
  known_more s = (s.stands).1

  unreached : ShowsAt m true (maybe.Known I32 ∷ []) (known (number i32) ∷ known (number i64) ∷ [])
  unfolding type_in
  unreached = record {
    context = refl;
    frame = record { kind = refl; results = refl; params = λ k. refl; before = refl };
    locals = refl;
    stands = (operand_refl (known (number i32)), tt);
    shown = λ k. absurd (untrue (sym k.0));
  }

pub shown_worked : (m : Meaning) (x : ℤ) → ShownWorked m x
shown_worked m x = record {
  made = made m x;
  dropped = dropped m x;
  ended = ended m x;
  whole = (with_operands (maybe.Known I32 ∷ []), made m x, (with_operands [], dropped m x, ended m x));
  made_other = not_made m x (maybe.Known I64 ∷ []) (known (number i64)) (i64_covered m x) other_type;
  made_unknown = not_made m x (maybe.Bottom ∷ []) (known (number i64)) (tt, tt) other_type;
  made_nothing = made_nothing m x;
  left_over = left_over m x;
  known_itself = known_itself m x;
  known_other = known_other m x;
  known_more = known_more m x;
  unreached = unreached m x;
}
