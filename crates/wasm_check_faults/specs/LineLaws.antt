-- A law of lines: whatever a file's name and the words hold, nothing of them begins a line on standard error.
use Rattle.std.specs.Prelude.{IfSome}
use Rattle.wasm_check_lines.specs.LineLaws.{IsOneLine, StaysInLine}
use Rattle.wasm_check_faults.specs.declared.faults.Fault.{Fault}
use Rattle.wasm_check_faults.specs.FaultTexts.{fault_hint, fault_object, fault_text}

-- what is told of a fault on standard error, which a line feed follows, has none; nor has what may help; and the object is one line
pub record FaultsStayInLine : Type 0 where
  pub told : (fault : Fault) → StaysInLine (fault_text fault)
  pub hint : (fault : Fault) → IfSome (fault_hint fault) StaysInLine
  pub object : (fault : Fault) → IsOneLine (fault_object fault)
