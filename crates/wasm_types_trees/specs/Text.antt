-- How an index is written.
use Rattle.std.specs.Prelude.{ℕ, List, ◌++◌, codes}
use Rattle.std.specs.Fmt.{decimal}
use Rattle.wasm_types_trees.specs.declared.index.UnpackedIndex.{UnpackedIndex}
use Rattle.wasm_types_trees.specs.declared.index.UnpackedIndex.TheVariants.{Module, RecGroup, Id}

-- an index as `Display` writes it
abbrev pub index_text : UnpackedIndex → List ℕ
index_text (Module n) = codes "(module " ++ decimal n ++ codes ")"
index_text (RecGroup n) = codes "(recgroup " ++ decimal n ++ codes ")"
index_text (Id i) = codes "(id " ++ decimal i.0 ++ codes ")"
