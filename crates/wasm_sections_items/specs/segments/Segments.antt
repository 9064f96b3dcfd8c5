-- Data segments of the code as trees.
use Rattle.wasm_sections_items.specs.declared.segments.segment.DataKindOf.{DataKindOf}
use Rattle.wasm_sections_items.specs.declared.segments.segment.DataKindOf.TheVariants.{Passive, Active}
use Rattle.wasm_sections_items.specs.segments.Spells.{DataMode, passive, active}

-- how a segment is used, where v is the tree of an expression
abbrev pub mode_of : {E C : Type 0} → (E → C) → DataKindOf E → DataMode C
mode_of v Passive = passive
mode_of v (Active m x) = active m (v x)
