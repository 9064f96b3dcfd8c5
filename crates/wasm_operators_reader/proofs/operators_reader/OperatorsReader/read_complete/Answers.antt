use Rattle.std.proofs.Common.{inr, refl, sym, ◌∙◌, ◌+◌, ap, subst, ◌≡◌}
use Rattle.wasm_operators_enums.specs.Op.{op_of}
use Rattle.wasm_types.specs.decoding.Decoder.{State, Done}
use Rattle.wasm_types.specs.reader.Reading.{Fails}
use Rattle.wasm_operators_encoding.specs.Coded.{operator}
use Rattle.wasm_operators_encoding.specs.Operators.{coded_of}
use Rattle.wasm_operators_encoding.specs.expressions.Stack.{OpenFrames}
use Rattle.wasm_operators_reader.specs.Standing.{Standing, Refuses, IsUnfit, IsOpening, WantsMemory}
use Rattle.wasm_operators_encoding.specs.CodedLaws.{some_left}
use Rattle.wasm_operators_reader.specs.StandingLaws.{refuses_fault, refuses_unfit, same_parts, no_list}
use Rattle.wasm_operators_reader.proofs.AtOnce.{operator_reaches}
use Rattle.wasm_operators_reader.proofs.operators_reader.OperatorsReader.read_complete.Goals as goal

pub misplaced-requires : goal.misplaced-requires
misplaced-requires c =
    let read : operator c.self.inside.reader.settings c.self.inside.reader ≡ Done (coded_of (op_of c.in-Ok.op)) c.read_operator.new.reader =
    subst (λ (b : State). operator b.settings b ≡ Done (coded_of (op_of c.in-Ok.op)) c.read_operator.new.reader) c.reader-ahead.ensures c.in-Ok.ensures.answer in
    rw c.reader.ensures (some_left _ _ _ _ read)

pub go_to-requires : goal.go_to-requires
go_to-requires c =
    let read : operator c.self.inside.reader.settings c.self.inside.reader ≡ Done (coded_of (op_of c.in-Ok.op)) c.read_operator.new.reader =
    subst (λ (b : State). operator b.settings b ≡ Done (coded_of (op_of c.in-Ok.op)) c.read_operator.new.reader) c.reader-ahead.ensures c.in-Ok.ensures.answer in
    operator_reaches _ _ _ read

pub returns-in-Err-clause-refused : goal.returns-in-Err-clause-refused
returns-in-Err-clause-refused c =
    let fails : Fails c.in-Err.error (operator c.self.inside.reader.settings c.self.inside.reader) =
    subst (λ (b : State). Fails c.in-Err.error (operator b.settings b)) c.reader-ahead.ensures c.in-Err.ensures.answer.0 in
    let refused : Refuses (record { bytes = c.self.inside.reader; frames = c.self.inside.control.frames }) c.in-Err.error = refuses_fault _ _ (cc) fails in
    (subst (λ (s : Standing). Refuses s c.in-Err.error) c.self.view_is refused, refl)

pub returns-in-Err-clause-no_memory : goal.returns-in-Err-clause-no_memory
returns-in-Err-clause-no_memory c = λ h.
    let none = no_list _ (subst (λ (s : Standing). WantsMemory s → ⊥) (sym c.self.view_is) h) in
    c.in-Err.ensures.no_memory (rw c.reader-ahead.ensures none)

pub returns-in_default-clause-no_memory : goal.returns-in_default-clause-no_memory
returns-in_default-clause-no_memory c =
    let read : operator c.self.inside.reader.settings c.self.inside.reader ≡ Done (coded_of (op_of c.in-Ok.op)) c.read_operator.new.reader =
    subst (λ (b : State). operator b.settings b ≡ Done (coded_of (op_of c.in-Ok.op)) c.read_operator.new.reader) c.reader-ahead.ensures c.in-Ok.ensures.answer in
    let opening : IsOpening (record { bytes = c.self.inside.reader; frames = c.self.inside.control.frames }) = record {
      op = op_of c.in-Ok.op;
      behind = c.read_operator.new.reader;
      frame = c.in_default.ensures.memory.0;
      canonical = c.in-Ok.ensures.canonical;
      read = read;
      opens = c.in_default.ensures.memory.1;
    } in
    λ h. absurd (h (subst WantsMemory c.self.view_is (inr opening)))

pub returns-then-not-fits-clause-refused : goal.returns-then-not-fits-clause-refused
returns-then-not-fits-clause-refused c =
    let read : operator c.self.inside.reader.settings c.self.inside.reader ≡ Done (coded_of (op_of c.in-Ok.op)) c.read_operator.new.reader =
    subst (λ (b : State). operator b.settings b ≡ Done (coded_of (op_of c.in-Ok.op)) c.read_operator.new.reader) c.reader-ahead.ensures c.in-Ok.ensures.answer in
    let unfit : IsUnfit (record { bytes = c.self.inside.reader; frames = c.self.inside.control.frames }) = record {
      op = op_of c.in-Ok.op;
      behind = c.read_operator.new.reader;
      canonical = c.in-Ok.ensures.canonical;
      read = read;
      unfit = rw c.if-not-fits.true at c.in-Ok-advance.ensures.fits;
    } in
    let place = c.misplaced.ensures.offset ∙ ap (λ (b : State). b.place + 1) c.reader.ensures in
    let refused : Refuses (record { bytes = c.self.inside.reader; frames = c.self.inside.control.frames }) c.misplaced.result = refuses_unfit _ _ (cc) unfit c.misplaced.ensures.kind place in (
      subst (λ (s : Standing). Refuses s c.misplaced.result) c.self.view_is refused,
      same_parts c.self.inside.reader c.self.inside.reader _ c.self.inside.control.frames refl
          (ap (λ (f : OpenFrames). f.frames) (c.in-Ok-advance.ensures.stays c.if-not-fits.true)) ∙ c.self.view_is,
    )

pub returns-in_default-clause-refused : goal.returns-in_default-clause-refused
returns-in_default-clause-refused c =
    let fails : Fails c.out_of_memory.result (operator c.self.inside.reader.settings c.self.inside.reader) = rw c.out_of_memory.ensures tt in
    let refused : Refuses (record { bytes = c.self.inside.reader; frames = c.self.inside.control.frames }) c.out_of_memory.result = refuses_fault _ _ (cc) fails in (
      subst (λ (s : Standing). Refuses s c.out_of_memory.result) c.self.view_is refused,
      same_parts c.self.inside.reader c.self.inside.reader _ c.self.inside.control.frames refl c.in_default.ensures.refused ∙ c.self.view_is,
    )
