use Rattle.std.proofs.Common.{◌≤◌, length}
use Rattle.wasm_operator_validator_stacks.proofs.Layers.{fixed}
use Rattle.wasm_operator_validator_stacks.proofs.Lying.{no_frame, some_frame_at}
use Rattle.wasm_operator_validator_stacks.proofs.validator.OperatorValidator.get_frame.Goals as goal

pub returns-then-depth-frames : goal.returns-then-depth-frames
returns-then-depth-frames c =
    let h : length c.self.inside.control.0 ≤ c.args.depth = rw c.as_slice-frames.ensures at c.if-depth-frames.true in
    rw (← c.self.view_is) (no_frame (fixed c.self.inside.features.0 c.self.inside.locals c.self.inside.params c.self.inside.shared c.self.inside.operands.1 c.self.inside.control.1 c.self.inside.inits.saved c.self.inside.failed_before c.self.inside.failed) c.self.inside.control.0 c.self.inside.operands.0 c.self.inside.inits.set c.args.depth c.self.invariant.0 h)

pub returns : goal.returns
returns c =
    rw (← c.self.view_is)
    (some_frame_at (fixed c.self.inside.features.0 c.self.inside.locals c.self.inside.params c.self.inside.shared c.self.inside.operands.1 c.self.inside.control.1 c.self.inside.inits.saved c.self.inside.failed_before c.self.inside.failed) c.self.inside.control.0 c.as_slice-frames.result.now c.self.inside.operands.0 c.self.inside.inits.set c.args.depth c.index-frames-frames.result _
    c.self.invariant.0 c.as_slice-frames.ensures c.if-depth-frames.false c.index-frames-frames.is)
