-- The worked run of an exception.
use Rattle.std.specs.Prelude.{ℤ, All}
use Rattle.std.proofs.Common.{◌≡◌, ℕ, zero, suc, [], ◌∷◌, Some, true, false, refl, sym, subst, slice_get, rules}
use Rattle.std.proofs.lemmas.Option.{slice_get_within, get_or_from_slice_get}
use Rattle.std.proofs.lemmas.List.Elements.{All-nil}
use Rattle.wasm_types.specs.settings.Features.{has}
use Rattle.wasm_types.specs.settings.Limits.{default_limits}
use Rattle.wasm_types.specs.settings.Settings.{Settings}
use Rattle.wasm_types.specs.trees.Types.{func, i32, number, ref, abstract, concrete}
use Rattle.wasm_types.specs.trees.Trees.{TypeTree, opened}
use Rattle.wasm_types.specs.trees.Each.{EachValue}
use Rattle.wasm_types.specs.trees.AbstractOrder.{same}
use Rattle.wasm_types.specs.trees.Below.{itself, declared, expanded}
use Rattle.wasm_types.specs.trees.ValidGroup.{types_from, done, next, AreValidGroups, IsValidGroup, IsFunction}
use Rattle.wasm_operators_immediates.specs.declared.frames.FrameKind.TheVariants as frames
use Rattle.wasm_operator_validator_rules.specs.Operands.{Operand, known}
use Rattle.wasm_operator_validator_rules.specs.InstructionTypes.{◌⟶◌}
use Rattle.wasm_operator_validator_rules.specs.Context.{IsFunctionType}
use Rattle.wasm_operator_validator_rules.specs.Typed.{IsBody}
use Rattle.wasm_operator_validator_soundness.specs.runs.Values.{Body, Function, IsStandard, IsStandardType, Fits, ref_function}
use Rattle.wasm_operator_validator_soundness.specs.runs.Soundness.{body_context, IsValidBody, IsValidFunction}
use Rattle.wasm_operator_validator_soundness.specs.runs.worked.Caught.{open_written, open_type, below_written, below_type, tag_written, tag_type, gives_number, bits, throwing, passing, catching, guards, CaughtWorked}
use Rattle.wasm_operator_validator_soundness.proofs.RunsInvariant.{none_is_some, some_same}

abbrev settings : Settings
settings = record { features = bits; limits = default_limits }

only_standard : IsStandard bits
unfolding has
only_standard = record { descriptors = refl; sharing = refl; switching = refl }

open_valid : IsValidGroup settings [] open_written
unfolding default_limits has opened types_from
open_valid = search rules

below_valid : IsValidGroup settings (open_type ∷ []) below_written
unfolding default_limits has opened types_from
below_valid = search rules

tag_valid : IsValidGroup settings (open_type ∷ below_type ∷ []) tag_written
unfolding default_limits has opened types_from
tag_valid = search rules

groups_valid : AreValidGroups settings [] (open_written ∷ below_written ∷ tag_written ∷ []) (open_type ∷ below_type ∷ tag_type ∷ [])
unfolding types_from
groups_valid = next open_valid (next below_valid (next tag_valid done))

pub standard_at : (n : ℕ) (t : TypeTree) → slice_get (open_type ∷ below_type ∷ tag_type ∷ []) n ≡ Some t → IsStandardType t
standard_at n t e = record {
  settings = settings;
  standard = only_standard;
  groups = open_written ∷ below_written ∷ tag_written ∷ [];
  types = open_type ∷ below_type ∷ tag_type ∷ [];
  valid = groups_valid;
  has_it = (n, slice_get_within (open_type ∷ below_type ∷ tag_type ∷ []) n t e, get_or_from_slice_get (open_type ∷ below_type ∷ tag_type ∷ []) n t t e);
}

module _ (x : ℤ) where
  abbrev number_operand : Operand
  number_operand = known (number i32)

  throws_body : IsBody (body_context (guards x) below_type gives_number (throwing x)) 0 (throwing x).code
  unfolding has opened types_from
  throws_body = record {
    expression = search rules;
    typed = (
      number_operand ∷ [],
      ([], number_operand ∷ [], [], (search rules, (([] ⟶ number i32 ∷ []), refl, (refl, refl))), tt, refl),
      (
        number_operand ∷ [],
        (number_operand ∷ [], number_operand ∷ [], [], (search rules, (number i32 ∷ [], [], (tag_type, refl, refl), refl)), (refl, tt), refl),
        ((refl, tt), tt, tt),
      ),
    );
  }

  passes_body : IsBody (body_context (guards x) open_type gives_number (passing x)) 0 (passing x).code
  unfolding has opened types_from
  passes_body = record {
    expression = search rules;
    typed = (
      number_operand ∷ [],
      ([], number_operand ∷ [], [], (search rules, (([] ⟶ number i32 ∷ []), refl, (refl, refl))), tt, refl),
      (
        number_operand ∷ [],
        (
          number_operand ∷ [],
          number_operand ∷ [],
          [],
          (
            search rules,
            (
              _,
              gives_number,
              record {
                table = refl;
                table_used = search rules;
                functions = (false, (tt, (refl, same)));
                callee = open_type;
                type = refl;
                type_used = search rules;
                function = refl;
              },
              (refl, refl),
            ),
          ),
          (refl, tt),
          refl,
        ),
        ((refl, tt), tt, tt),
      ),
    );
  }

  catches_body : IsBody (body_context (guards x) open_type gives_number (catching x)) 0 (catching x).code
  unfolding has opened types_from
  catches_body = record {
    expression = (frames.Block, refl, (frames.TryTable, refl, (refl, (refl, refl)), (refl, refl)), refl);
    typed = (
      frames.Block,
      gives_number,
      [],
      (refl, search rules, tt),
      tt,
      (
        frames.TryTable,
        record { params = []; results = [] },
        [],
        (refl, refl, (search rules, ((number i32 ∷ [], (tag_type, refl, refl), (number i32 ∷ [], refl, (refl, tt))), tt))),
        tt,
        (
          number_operand ∷ [],
          ([], number_operand ∷ [], [], (search rules, (gives_number, (open_type, refl, search rules, refl), (refl, refl))), tt, refl),
          ([], (number_operand ∷ [], [], [], (search rules, (number_operand, refl, refl)), (refl, tt), refl), (tt, tt, tt)),
        ),
        (number_operand ∷ [], ([], number_operand ∷ [], [], (search rules, tt), tt, refl), ((refl, tt), tt, tt)),
      ),
      ((refl, tt), tt, tt),
    );
  }

  body_valid : (t : TypeTree) (f : Body) → f.locals ≡ [] → IsFunctionType t gives_number → IsBody (body_context (guards x) t gives_number f) 0 f.code → IsValidBody (guards x) t f
  body_valid t f e i b = record {
    signature = gives_number;
    function = i;
    locals = subst (λ ts. All (EachValue IsStandardType) ts) (sym e) (All-nil (EachValue IsStandardType));
    typed = b;
  }

  abbrev IsThere : TypeTree → ℕ → Type 0
  IsThere t n = (f : Function) × (slice_get (guards x).functions n ≡ Some f) × IsValidFunction (guards x) t f

  functions_valid : (n : ℕ) (t : TypeTree) → slice_get (guards x).«module».functions n ≡ Some t → IsThere t n
  unfolding opened types_from
  functions_valid zero t e = subst (λ u. IsThere u 0) (some_same below_type t e)
      (_, refl, record { below = itself; standard = standard_at 1 below_type refl; function = tt; body = body_valid below_type (throwing x) refl refl throws_body })
  functions_valid (suc zero) t e = subst (λ u. IsThere u 1) (some_same open_type t e)
      (_, refl, record { below = itself; standard = standard_at 0 open_type refl; function = tt; body = body_valid open_type (passing x) refl refl passes_body })
  functions_valid (suc (suc zero)) t e = subst (λ u. IsThere u 2) (some_same open_type t e)
      (_, refl, record { below = itself; standard = standard_at 0 open_type refl; function = tt; body = body_valid open_type (catching x) refl refl catches_body })
  functions_valid (suc (suc (suc n))) t e = absurd (none_is_some t e)

  functions_own : (n : ℕ) (f : Function) → slice_get (guards x).functions n ≡ Some f → (t : TypeTree) × (slice_get (guards x).«module».functions n ≡ Some t)
  functions_own zero f e = (below_type, refl)
  functions_own (suc zero) f e = (open_type, refl)
  functions_own (suc (suc zero)) f e = (open_type, refl)
  functions_own (suc (suc (suc n))) f e = absurd (none_is_some f e)

  tags_standard : (n : ℕ) (t : TypeTree) → slice_get (guards x).«module».tags n ≡ Some t → IsStandardType t × IsFunction (expanded t)
  unfolding opened types_from
  tags_standard zero t e = subst (λ u. IsStandardType u × IsFunction (expanded u)) (some_same tag_type t e) (standard_at 2 tag_type refl, tt)
  tags_standard (suc n) t e = absurd (none_is_some t e)

  -- what the table holds is of a type declared below that of the call
  holds : Fits (guards x) (ref_function (Some 0) below_type) (ref true (abstract false func))
  unfolding opened types_from
  holds = ((standard_at 1 below_type refl, tt, (_, refl, refl)), (tt, (below_type, itself, refl, same)))

  holds_type : Fits (guards x) (ref_function (Some 0) below_type) (ref false (concrete open_type))
  unfolding opened types_from
  holds_type = ((standard_at 1 below_type refl, tt, (_, refl, refl)), (tt, declared refl itself))

  pub caught_worked : CaughtWorked x
  unfolding opened types_from
  caught_worked = record {
    valid = record { standard = only_standard; types = standard_at; functions = functions_valid; own = functions_own; tags = tags_standard };
    catching_from = record {
      index = 2;
      function = record { type = open_type; body = Some (catching x) };
      body = catching x;
      signature = gives_number;
      arguments = [];
      named = refl;
      has_body = refl;
      typed = refl;
      fit = tt;
      starts = refl;
      gives = refl;
    };
    passing_from = record {
      index = 1;
      function = record { type = open_type; body = Some (passing x) };
      body = passing x;
      signature = gives_number;
      arguments = [];
      named = refl;
      has_body = refl;
      typed = refl;
      fit = tt;
      starts = refl;
      gives = refl;
    };
    caught = (
      _,
      (_, tt, refl, (_, tt, refl, (_, tt, refl, (_, (((tt, refl), tt), tt), refl, (_, (holds, (holds_type, tt)), refl, (_, (((tt, refl), tt), tt), refl, (_, (refl, tt), refl, refl))))))),
      tt,
      refl,
    );
    thrown_out = (
      _,
      (_, (((tt, refl), tt), tt), refl, (_, (holds, (holds_type, tt)), refl, (_, (((tt, refl), tt), tt), refl, refl))),
      tt,
      refl,
    );
    call_trapped = (_, (_, (((tt, refl), tt), tt), refl, refl), tt, refl);
  }
