-- The worked run of a module with imports.
use Rattle.std.specs.Prelude.{ℤ}
use Rattle.std.proofs.Common.{[], ◌∷◌, refl, rules, inl}
use Rattle.wasm_types.specs.settings.Limits.{default_limits}
use Rattle.wasm_types.specs.settings.Features.{has}
use Rattle.wasm_types.specs.trees.Types.{i32, number}
use Rattle.wasm_types.specs.trees.Trees.{opened}
use Rattle.wasm_types.specs.trees.AbstractOrder.{same}
use Rattle.wasm_types.specs.trees.Below.{itself}
use Rattle.wasm_types.specs.trees.ValidGroup.{types_from, done, next, type_at}
use Rattle.wasm_operator_validator_rules.specs.Operands.{Operand, known}
use Rattle.wasm_operator_validator_rules.specs.Typed.{IsBody}
use Rattle.wasm_operator_validator_rules.specs.constants.Constants.{IsConstant, seeing}
use Rattle.wasm_module_validator_rules.specs.Spaces.{module_of}
use Rattle.wasm_module_validator_rules.specs.Valid.{body_context, IsValid}
use Rattle.wasm_module_validator_rules.specs.worked.Trees.{global_get, only}
use Rattle.wasm_module_validator_rules.proofs.WorkedParts.{function_is, number_global, is_constant_by}
use Rattle.wasm_operator_validator_soundness.specs.runs.Values.{IsStandard, IsStandardType}
use Rattle.wasm_module_validator.specs.soundness.Modules.{types_in, AreHosts}
use Rattle.wasm_module_validator.specs.soundness.Soundness.{RunsFrom}
use Rattle.wasm_module_validator.specs.soundness.LinkedWorked.{linking, starting, nothing, linked, hosts, LinkedWorked}
use Rattle.wasm_module_validator.proofs.Validity.{modules_sound}

module _ (x : ℤ) where
  abbrev n32 : Operand
  n32 = known (number i32)

  starting_body : IsBody (body_context linking (module_of (linked x)) (type_at (types_in (linked x)) 0) nothing []) 0 starting
  unfolding has opened types_from
  starting_body = record {
    expression = search rules;
    typed = (
      [],
      ([], [], [], (search rules, (nothing, (type_at (types_in (linked x)) 0, refl, search rules, refl), (refl, refl))), tt, refl),
      (
        n32 ∷ [],
        ([], n32 ∷ [], [], (search rules, (_, refl, (refl, refl))), tt, refl),
        (
          [],
          (n32 ∷ [], [], [], (search rules, (number i32 ∷ [], [], (type_at (types_in (linked x)) 1, refl, refl), refl)), (refl, tt), refl),
          (tt, tt, tt),
        ),
      ),
    );
  }

  reads_import : IsConstant linking.features (seeing 1 (module_of (linked x))) 1 (number i32) (only (global_get 0))
  unfolding has opened types_from
  reads_import = record {
    operators = ((_, refl, refl, search rules), (tt, tt));
    typed = record {
      expression = search rules;
      typed = (n32 ∷ [], ([], n32 ∷ [], [], (search rules, (_, refl, (refl, refl))), tt, refl), ((refl, tt), tt, tt));
    };
  }

  linked_valid : IsValid linking (linked x)
  unfolding has opened types_from default_limits
  linked_valid = record {
    types = next (search rules) (next (search rules) done);
    imports = ((_, _, refl, refl), ((number_global _ _, search rules), tt));
    functions = ((_, _, refl, refl), tt);
    tables = ((record { element = inl refl; limits = search rules; wide = search rules; shared = search rules }, refl), tt);
    memories = tt;
    tags = (record { exceptions = search rules; type = _; signature = _; named = refl; function = refl; results = inl refl }, tt);
    globals = ((number_global _ _, reads_import), tt);
    exports = tt;
    names = tt;
    start = (_, refl, refl);
    element_segments = (record { mode = (_, refl, (tt, (refl, same)), is_constant_by linking.features refl _ _ x); items = (search rules, (search rules, tt)); within = search rules }, tt);
    data_count = tt;
    code = ((_, refl, function_is refl tt (search rules) starting_body), tt);
    data_segments = tt;
    limits = search rules;
  }

  exceptions_are_standard : IsStandard linking.features
  unfolding has
  exceptions_are_standard = record { descriptors = refl; sharing = refl; switching = refl }

  procedure_standard : IsStandardType (type_at (types_in (linked x)) 0)
  unfolding types_from
  procedure_standard = record {
    settings = linking;
    standard = exceptions_are_standard;
    groups = (linked x).types;
    types = types_in (linked x);
    valid = linked_valid.types;
    has_it = (0, search rules, refl);
  }

  are_hosts : AreHosts (linked x) (hosts x)
  are_hosts = ((procedure_standard, itself), tt)

  linked_sound : RunsFrom linking (linked x) (hosts x)
  linked_sound = modules_sound linking (linked x) exceptions_are_standard linked_valid (hosts x) are_hosts

  pub linked_worked : LinkedWorked x
  unfolding has opened types_from
  linked_worked = record {
    valid = linked_valid;
    standard = exceptions_are_standard;
    hosted = are_hosts;
    from = record {
      index = 1;
      function = _;
      body = record { locals = []; code = starting };
      signature = nothing;
      arguments = [];
      named = refl;
      has_body = refl;
      typed = refl;
      fit = tt;
      starts = refl;
      gives = refl;
    };
    sound = linked_sound;
    starts = linked_sound.start;
    throws = (_, (_, (tt, tt), refl, (_, (((tt, refl), tt), tt), refl, refl)), tt, refl);
  }
