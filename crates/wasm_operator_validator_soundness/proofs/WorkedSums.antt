-- The worked runs of a valid program.
use Rattle.std.specs.Prelude.{ℤ, All}
use Rattle.std.proofs.Common.{◌≡◌, ℕ, zero, suc, [], ◌∷◌, Some, None, true, false, refl, sym, subst, slice_get, rules}
use Rattle.std.proofs.lemmas.List.Elements.{All-nil}
use Rattle.wasm_types.specs.settings.Features.{has}
use Rattle.wasm_types.specs.settings.Limits.{default_limits}
use Rattle.wasm_types.specs.settings.Settings.{no_features}
use Rattle.wasm_types.specs.trees.Types.{func, i32, number, ref, abstract, concrete}
use Rattle.wasm_types.specs.trees.Trees.{TypeTree, opened}
use Rattle.wasm_types.specs.trees.Each.{EachValue}
use Rattle.wasm_types.specs.trees.AbstractOrder.{same}
use Rattle.wasm_types.specs.trees.Below.{itself}
use Rattle.wasm_types.specs.trees.ValidGroup.{types_from, done, next, IsValidGroup}
use Rattle.wasm_operator_validator_rules.specs.Operands.{Operand, known}
use Rattle.wasm_operator_validator_rules.specs.InstructionTypes.{◌⟶◌}
use Rattle.wasm_operator_validator_rules.specs.Typed.{IsBody}
use Rattle.wasm_operator_validator_soundness.specs.runs.Values.{Body, Function, IsStandard, IsStandardType, Fits, ref_function}
use Rattle.wasm_operator_validator_soundness.specs.runs.Soundness.{body_context, IsValidBody, IsValidFunction, IsValidProgram, IsStarted}
use Rattle.wasm_operator_validator_soundness.specs.runs.worked.Sums.{written, binary, signature, adding, importing, through_table, sums, made, started, one, SumsWorked}
use Rattle.wasm_operator_validator_soundness.proofs.RunsInvariant.{none_is_some, some_same}

no_proposals : IsStandard 0
unfolding has
no_proposals = record { descriptors = refl; sharing = refl; switching = refl }

group_valid : IsValidGroup no_features [] written
unfolding default_limits has opened types_from
group_valid = search rules

binary_standard : IsStandardType binary
unfolding types_from
binary_standard = record {
  settings = no_features;
  standard = no_proposals;
  groups = written ∷ [];
  types = binary ∷ [];
  valid = next group_valid done;
  has_it = (0, search rules, refl);
}

module _ (x : ℤ) where
  abbrev number_operand : Operand
  number_operand = known (number i32)

  adds_body : IsBody (body_context (sums x) binary signature (adding x)) 2 (adding x).code
  unfolding has opened types_from
  adds_body = record {
    expression = search rules;
    typed = (
      number_operand ∷ [],
      ([], number_operand ∷ [], [], search rules, tt, refl),
      (
        number_operand ∷ number_operand ∷ [],
        ([], number_operand ∷ [], number_operand ∷ [], search rules, (refl, tt), refl),
        (
          number_operand ∷ [],
          (number_operand ∷ number_operand ∷ [], number_operand ∷ [], [], (search rules, (_, refl, (refl, refl))), (refl, (refl, tt)), refl),
          ((refl, tt), tt, tt),
        ),
      ),
    );
  }

  imports_body : IsBody (body_context (sums x) binary signature (importing x)) 2 (importing x).code
  unfolding has opened types_from
  imports_body = record {
    expression = search rules;
    typed = (
      number_operand ∷ [],
      ([], number_operand ∷ [], [], search rules, tt, refl),
      (
        number_operand ∷ number_operand ∷ [],
        ([], number_operand ∷ [], number_operand ∷ [], search rules, (refl, tt), refl),
        (
          number_operand ∷ [],
          (number_operand ∷ number_operand ∷ [], number_operand ∷ [], [], (search rules, (signature, (binary, refl, search rules, refl), (refl, refl))), (refl, (refl, tt)), refl),
          ((refl, tt), tt, tt),
        ),
      ),
    );
  }

  through_body : IsBody (body_context (sums x) binary signature (through_table x)) 2 (through_table x).code
  unfolding has opened types_from
  through_body = record {
    expression = search rules;
    typed = (
      number_operand ∷ [],
      ([], number_operand ∷ [], [], search rules, tt, refl),
      (
        number_operand ∷ number_operand ∷ [],
        ([], number_operand ∷ [], number_operand ∷ [], search rules, (refl, tt), refl),
        (
          number_operand ∷ number_operand ∷ number_operand ∷ [],
          ([], number_operand ∷ [], number_operand ∷ number_operand ∷ [], (search rules, (([] ⟶ number i32 ∷ []), refl, (refl, refl))), (refl, (refl, tt)), refl),
          (
            number_operand ∷ [],
            (
              number_operand ∷ number_operand ∷ number_operand ∷ [],
              number_operand ∷ [],
              [],
              (
                search rules,
                (
                  _,
                  signature,
                  record {
                    table = refl;
                    table_used = search rules;
                    functions = (false, (tt, (refl, same)));
                    callee = binary;
                    type = refl;
                    type_used = search rules;
                    function = refl;
                  },
                  (refl, refl),
                ),
              ),
              (refl, (refl, (refl, tt))),
              refl,
            ),
            ((refl, tt), tt, tt),
          ),
        ),
      ),
    );
  }

  body_valid : (f : Body) → f.locals ≡ [] → IsBody (body_context (sums x) binary signature f) 2 f.code → IsValidBody (sums x) binary f
  unfolding opened types_from
  body_valid f e b = record {
    signature = signature;
    function = refl;
    locals = subst (λ ts. All (EachValue IsStandardType) ts) (sym e) (All-nil (EachValue IsStandardType));
    typed = b;
  }

  own_valid : (f : Body) → f.locals ≡ [] → IsBody (body_context (sums x) binary signature f) 2 f.code → IsValidFunction (sums x) binary (made f)
  unfolding opened types_from
  own_valid f e b = record { below = itself; standard = binary_standard; function = tt; body = body_valid f e b }

  import_valid : IsValidFunction (sums x) binary (record { type = binary; body = None })
  unfolding opened types_from
  import_valid = record { below = itself; standard = binary_standard; function = tt; body = tt }

  abbrev IsThere : TypeTree → ℕ → Type 0
  IsThere t n = (f : Function) × (slice_get (sums x).functions n ≡ Some f) × IsValidFunction (sums x) t f

  functions_valid : (n : ℕ) (t : TypeTree) → slice_get (sums x).«module».functions n ≡ Some t → IsThere t n
  functions_valid zero t e = subst (λ u. IsThere u 0) (some_same binary t e) (_, refl, import_valid)
  functions_valid (suc zero) t e = subst (λ u. IsThere u 1) (some_same binary t e) (_, refl, own_valid (adding x) refl adds_body)
  functions_valid (suc (suc zero)) t e = subst (λ u. IsThere u 2) (some_same binary t e) (_, refl, own_valid (importing x) refl imports_body)
  functions_valid (suc (suc (suc zero))) t e = subst (λ u. IsThere u 3) (some_same binary t e) (_, refl, own_valid (through_table x) refl through_body)
  functions_valid (suc (suc (suc (suc n)))) t e = absurd (none_is_some t e)

  functions_own : (n : ℕ) (f : Function) → slice_get (sums x).functions n ≡ Some f → (t : TypeTree) × (slice_get (sums x).«module».functions n ≡ Some t)
  functions_own zero f e = (binary, refl)
  functions_own (suc zero) f e = (binary, refl)
  functions_own (suc (suc zero)) f e = (binary, refl)
  functions_own (suc (suc (suc zero))) f e = (binary, refl)
  functions_own (suc (suc (suc (suc n)))) f e = absurd (none_is_some f e)

  types_standard : (n : ℕ) (t : TypeTree) → slice_get (sums x).«module».types n ≡ Some t → IsStandardType t
  types_standard zero t e = subst IsStandardType (some_same binary t e) binary_standard
  types_standard (suc n) t e = absurd (none_is_some t e)

  sums_valid : IsValidProgram (sums x)
  sums_valid = record {
    standard = no_proposals;
    types = types_standard;
    functions = functions_valid;
    own = functions_own;
    tags = λ n t e. absurd (none_is_some t e);
  }

  starts : (n : ℕ) (f : Body) → slice_get (sums x).functions n ≡ Some (made f) → IsStarted (sums x) (started x f) (number i32 ∷ [])
  unfolding opened types_from
  starts n f e = record {
    index = n;
    function = made f;
    body = f;
    signature = signature;
    arguments = one x ∷ one x ∷ [];
    named = e;
    has_body = refl;
    typed = refl;
    fit = ((tt, refl), ((tt, refl), tt));
    starts = refl;
    gives = refl;
  }

  -- what the table holds is a function of its type, and of the type that the call names
  holds : (n : ℕ) (f : Function) → slice_get (sums x).functions n ≡ Some f → f.type ≡ binary → Fits (sums x) (ref_function (Some n) binary) (ref true (abstract false func))
  unfolding opened types_from
  holds n f e i = ((binary_standard, tt, (f, e, i)), (tt, (binary, itself, refl, same)))

  holds_type : (n : ℕ) (f : Function) → slice_get (sums x).functions n ≡ Some f → f.type ≡ binary → Fits (sums x) (ref_function (Some n) binary) (ref false (concrete binary))
  unfolding opened types_from
  holds_type n f e i = ((binary_standard, tt, (f, e, i)), (tt, itself))

  pub sums_worked : SumsWorked x
  unfolding opened types_from
  sums_worked = record {
    valid = sums_valid;
    adds_from = starts 1 (adding x) refl;
    imports_from = starts 2 (importing x) refl;
    through_from = starts 3 (through_table x) refl;
    adds = (_, (_, tt, refl, (_, tt, refl, (_, (((tt, refl), tt), tt), refl, refl))), tt, refl);
    imports = (_, (_, tt, refl, (_, tt, refl, (_, (((tt, refl), tt), tt), refl, refl))), tt, refl);
    through = (
      _,
      (
        _,
        tt,
        refl,
        (
          _,
          tt,
          refl,
          (
            _,
            (((tt, refl), tt), tt),
            refl,
            (
              _,
              (holds 0 (record { type = binary; body = None }) refl refl, (holds_type 0 (record { type = binary; body = None }) refl refl, (((tt, refl), tt), tt))),
              refl,
              refl,
            ),
          ),
        ),
      ),
      tt,
      refl,
    );
    through_own = (
      _,
      (
        _,
        tt,
        refl,
        (
          _,
          tt,
          refl,
          (
            _,
            (((tt, refl), tt), tt),
            refl,
            (
              _,
              (holds 1 (made (adding x)) refl refl, (holds_type 1 (made (adding x)) refl refl, tt)),
              refl,
              (_, tt, refl, (_, tt, refl, (_, (((tt, refl), tt), tt), refl, (_, tt, refl, refl)))),
            ),
          ),
        ),
      ),
      tt,
      refl,
    );
  }
