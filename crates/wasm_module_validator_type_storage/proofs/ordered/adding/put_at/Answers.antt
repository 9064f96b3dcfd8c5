use Rattle.std.proofs.Common.{sym}
use Rattle.std.proofs.lemmas.List.{take-append-drop}
use Rattle.wasm_module_validator_type_storage.proofs.ordered.adding.put_at.Goals as goal

pub returns-clause-ok : goal.returns-clause-ok
returns-clause-ok g c = record {
  before = _;
  after = _;
  was = sym (take-append-drop c.args.place c.args.chunk.now.items);
  is = c.in_ok-insert.ensures.items;
  less = c.requires.less;
  greater = c.requires.greater;
}
