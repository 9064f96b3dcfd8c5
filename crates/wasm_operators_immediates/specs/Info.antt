-- What is told of an operator: a row of the table of opcodes (WebAssembly 3.0, appendix, index of instructions).
use Rattle.std.specs.Prelude.{ℕ, List, Option}
use Rattle.wasm_types.specs.settings.Features as feature
use Rattle.wasm_types.specs.settings.Features.{mask}
use Rattle.wasm_operators_immediates.specs.declared.proposal.Proposal.{Proposal}
use Rattle.wasm_operators_immediates.specs.declared.proposal.Proposal.TheVariants.{Mvp, SignExtension, SaturatingFloatToInt, BulkMemory, BulkMemoryOpt}
use Rattle.wasm_operators_immediates.specs.declared.proposal.Proposal.TheVariants.{ReferenceTypes, TailCall, FunctionReferences, Exceptions}
use Rattle.wasm_operators_immediates.specs.declared.proposal.Proposal.TheVariants.{LegacyExceptions, Gc, Simd, RelaxedSimd, Threads}
use Rattle.wasm_operators_immediates.specs.declared.proposal.Proposal.TheVariants.{SharedEverythingThreads, MemoryControl, WideArithmetic, StackSwitching}
use Rattle.wasm_operators_immediates.specs.declared.proposal.Proposal.TheVariants.{CustomDescriptors}
use Rattle.wasm_operators_immediates.specs.declared.info.OperatorInfo.{OperatorInfo}

-- the proposal, the bytes of the name in the text format, the prefix if there is one, and the code behind it
pub record Info : Type 0 where
  pub proposal : Proposal
  pub name : List ℕ
  pub prefix : Option ℕ
  pub code : ℕ

-- a row of its four columns
abbrev pub row : Proposal → List ℕ → Option ℕ → ℕ → Info
row proposal name prefix code = record { proposal = proposal; name = name; prefix = prefix; code = code }

-- what a value of the code tells
abbrev pub told : OperatorInfo → Info
told i = record { proposal = i.proposal; name = i.name.now; prefix = i.prefix; code = i.code }

-- standard: changes: the features of each proposal's instructions
-- the features without which a proposal's operators are not allowed, as bits
abbrev pub features_of : Proposal → ℕ
features_of Mvp = 0
features_of SignExtension = mask feature.SignExtension
features_of SaturatingFloatToInt = mask feature.SaturatingFloatToInt
features_of BulkMemory = mask feature.BulkMemory
features_of BulkMemoryOpt = mask feature.BulkMemoryOpt
features_of ReferenceTypes = mask feature.ReferenceTypes
features_of TailCall = mask feature.TailCall
features_of FunctionReferences = mask feature.FunctionReferences
features_of Exceptions = mask feature.Exceptions
features_of LegacyExceptions = mask feature.LegacyExceptions
features_of Gc = mask feature.Gc
features_of Simd = mask feature.Simd
features_of RelaxedSimd = mask feature.RelaxedSimd
features_of Threads = mask feature.Threads
features_of SharedEverythingThreads = mask feature.SharedEverythingThreads
features_of MemoryControl = mask feature.MemoryControl
features_of WideArithmetic = mask feature.WideArithmetic
features_of StackSwitching = mask feature.StackSwitching
features_of CustomDescriptors = mask feature.CustomDescriptors
