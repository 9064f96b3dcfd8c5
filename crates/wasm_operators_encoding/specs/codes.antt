-- Definitions: the role of an opcode.
pub mod OpcodeRoles
-- Definitions with their laws: an opcode with immediates of its kinds is an operator's.
pub mod CodedOperators
-- Laws, with what they alone cite: what each variant carries, and that it takes any immediates of its kinds.
pub mod Carried
pub mod Filled
pub mod ControlFilled
pub mod MemoryFilled
pub mod GcFilled
pub mod ThreadsFilled
pub mod VectorsFilled
pub mod RoleLaws
