-- The rows of `Answers`, each by its definition.
use Rattle.std.proofs.Common.{◌≡◌, refl, arith}
use Rattle.wasm_types.specs.settings.declared.WasmFeatures.{WasmFeatures}
use Rattle.wasm_types_tests.specs.Answers.{DenialRows, TellingRows, RefusalRows}

pub denial_rows : (f : WasmFeatures) → DenialRows f
denial_rows f = record {
  end_of_data = λ x. x;
  end_of_data_not = λ n. n tt;
  feature = λ x. x;
  feature_not = λ n. n tt;
  memory = tt;
  failed = λ x. x;
  failed_not = λ n. n tt;
  other = λ x. x;
  other_not = λ n. n tt;
}

pub telling_rows : TellingRows
telling_rows = record { holds = tt; holds_not = λ x. x; refused = λ x. x; refused_not = λ n. n tt; memory = tt }

pub refusal_rows : (f : WasmFeatures) → RefusalRows f
refusal_rows f = record {
  end_of_data = λ x. x;
  feature = λ x. x;
  memory = tt;
  failed = λ x. x;
  other = tt;
  other_not = λ x. x;
  at = refl;
  elsewhere = λ e. let n : 7 ≡ 8 = e in omega (arith, n);
  anywhere = tt;
  done = tt;
}
