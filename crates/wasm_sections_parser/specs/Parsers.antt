-- What contracts see of a parser.
use Rattle.std.specs.Prelude.{ℕ}
use Rattle.wasm_types.specs.settings.Settings.{Settings}
use Rattle.wasm_sections_parser.specs.declared.progress.Stage.{Stage}
use Rattle.wasm_sections_parser.specs.declared.progress.Progress.{Progress}

-- the offset where it stands, what it reads by, and what is to be remembered of the module before
pub record Parser : Type 0 where
  pub offset : ℕ
  pub settings : Settings
  pub progress : Progress

-- the same parser in another stage
abbrev pub staged : Parser → Stage → Parser
staged p s = record {
  offset = p.offset;
  settings = p.settings;
  progress =
      record {
        stage = s;
        last = p.progress.last;
        functions = p.progress.functions;
        bodies = p.progress.bodies;
        data_count =
            p.progress.data_count;
        segments = p.progress.segments;
      };
}
