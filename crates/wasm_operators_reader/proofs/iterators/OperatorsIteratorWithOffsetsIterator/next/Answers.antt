use Rattle.wasm_operators_reader.specs.StandingLaws.{fewer_items}
use Rattle.wasm_operators_reader.proofs.iterators.OperatorsIteratorWithOffsetsIterator.next.Goals as goal

pub returns-clause-goes : goal.returns-clause-goes
returns-clause-goes c =
    record {
      on = λ finite. (tt, tt, fewer_items c.args.self.now.failed c.args.self.now.reader _ c.read_with_offset.new.self c.if-self.false c.in-Ok.ensures.read.0);
      keeps = tt;
      rests = λ finite. tt;
    }
