-- The bytes are read again from their first on.
use Rattle.std.proofs.Common.{◌∙◌, ap}
use Rattle.wasm_types.specs.decoding.Decoder.{State}
use Rattle.wasm_types.specs.settings.Settings.{no_features}
use Rattle.wasm_operators_immediates.specs.Tables.{Labels}
use Rattle.wasm_operators_immediates.proofs.Reading.{again}
use Rattle.wasm_operators_immediates.proofs.br_table.BrTable.targets.Goals as goal

pub invariant_of-result : goal.invariant_of-result
invariant_of-result c =
    let s : State = record { rest = c.self.inside.targets.now; place = 0; settings = no_features; start = 0 } in
    (again c.self.inside.count s c.new.result c.new.ensures.rest c.self.invariant).read

pub returns : goal.returns
returns c =
    let s : State = record { rest = c.self.inside.targets.now; place = 0; settings = no_features; start = 0 } in
    (again c.self.inside.count s c.new.result c.new.ensures.rest c.self.invariant).same ∙ ap (λ (t : Labels). t.targets) c.self.view_is
