-- These rows compute.
use Rattle.std.proofs.Common.{refl}
use Rattle.wasm_types.specs.decoding.Leb.{unsigned}
use Rattle.wasm_types.specs.decoding.Decoder.{repeated}
use Rattle.wasm_types.specs.decoding.Lists.{size_within, listed_within}
use Rattle.wasm_types.specs.values.DecodeValues.{value_type, value_type_after}
use Rattle.wasm_types.specs.settings.Limits.{default_limits}
use Rattle.wasm_operators_immediates.specs.Blocks.{block_type, value_block, empty_block}
use Rattle.wasm_operators_immediates.specs.Labels.{labels}
use Rattle.wasm_operators_immediates.specs.Handlers.{clause, clause_after, try_table, handle, handle_after, handlers}
use Rattle.wasm_operators_encoding.specs.immediates.Bytes.{select_types}
use Rattle.wasm_operators_encoding.specs.immediates.Immediates.{immediate}
use Rattle.wasm_operators_tests.specs.worked.TableRows.{TableRows}

pub tables : TableRows
unfolding default_limits unsigned repeated size_within listed_within value_type value_type_after block_type value_block empty_block labels clause
    clause_after try_table handle handle_after handlers select_types immediate
tables = record {
  labels = refl;
  default_alone = refl;
  too_many_labels = refl;
  most_labels = refl;
  no_default = refl;
  all = refl;
  each_clause = refl;
  no_clause = refl;
  too_many_clauses = refl;
  most_clauses = refl;
  handlers = refl;
  no_handler = refl;
  most_handlers = refl;
  too_many_handlers = refl;
  short_handler = refl;
  one_label = refl;
  a_label_too_many = refl;
  one_clause = refl;
  a_clause_too_many = refl;
  one_handler = refl;
  a_handler_too_many = refl;
  one_type = refl;
  a_type_too_many = refl;
}
