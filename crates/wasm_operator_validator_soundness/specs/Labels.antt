-- The labels that operators name besides those of the rules of their own in the machine (WebAssembly 3.0, structure, control
-- instructions): what an operator may branch to. All operators are here, those without a row too, so that a row that comes has
-- its label already.
use Rattle.std.specs.Prelude.{ℕ, List, [], ◌∷◌, map, flat_map}
use Rattle.wasm_operators_immediates.specs.declared.handlers.Catch.{Catch}
use Rattle.wasm_operators_immediates.specs.declared.handlers.Catch.TheVariants as catch
use Rattle.wasm_operators_immediates.specs.declared.handlers.Handle.{Handle}
use Rattle.wasm_operators_immediates.specs.declared.handlers.Handle.TheVariants as handler
use Rattle.wasm_operators_enums.specs.declared.control.ControlOperator.TheVariants as control
use Rattle.wasm_operators_enums.specs.declared.gc.GcOperator.TheVariants as gc
use Rattle.wasm_operators_enums.specs.declared.gc.DescriptorOperator.TheVariants as descriptor
use Rattle.wasm_operators_enums.specs.Op as op
use Rattle.wasm_operators_enums.specs.Op.{Op}

-- the label of a clause of `try_table`, and those of a handler of continuations
abbrev pub label_of_clause : Catch → ℕ
label_of_clause (catch.One x l) = l
label_of_clause (catch.OneRef x l) = l
label_of_clause (catch.All l) = l
label_of_clause (catch.AllRef l) = l

abbrev pub labels_of_handler : Handle → List ℕ
labels_of_handler (handler.OnLabel x l) = l ∷ []
labels_of_handler (handler.OnSwitch x) = []

-- Where so many labels lie around the innermost, the last is the function's own: to that a call goes that takes the function's
-- place, with what the callee gives. Those of `try_table` count from around it.
abbrev pub labels_named : ℕ → Op → List ℕ
labels_named last (op.Control (control.BrOnNull l)) = l ∷ []
labels_named last (op.Control (control.BrOnNonNull l)) = l ∷ []
labels_named last (op.Control (control.ReturnCallRef y)) = last ∷ []
labels_named last (op.Gc (gc.BrOnCast l from to)) = l ∷ []
labels_named last (op.Gc (gc.BrOnCastFail l from to)) = l ∷ []
labels_named last (op.Descriptor (descriptor.BrOnCastDescEq l from to)) = l ∷ []
labels_named last (op.Descriptor (descriptor.BrOnCastDescEqFail l from to)) = l ∷ []
labels_named last (op.Exception (op.TryTable t)) = map label_of_clause t.catches
labels_named last (op.Continuation (op.Resume x hs)) = flat_map labels_of_handler hs
labels_named last (op.Continuation (op.ResumeThrow x e hs)) = flat_map labels_of_handler hs
labels_named last (op.Continuation (op.ResumeThrowRef x hs)) = flat_map labels_of_handler hs
labels_named last o = []
