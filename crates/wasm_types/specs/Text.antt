-- How composite types and subtypes are written, in the words of the text format; the prefixes of a composite type by their
-- proposals.
use Rattle.std.specs.Prelude.{ℕ, List, [], ◌∷◌, ◌++◌, codes, Bool, true, false, Option, Some, None}
use Rattle.std.specs.List.{flat_map}
use Rattle.wasm_types_trees.specs.declared.index.UnpackedIndex.{UnpackedIndex}
use Rattle.wasm_types_trees.specs.Text.{index_text}
use Rattle.wasm_types_fields.specs.Text.{array_text, struct_text, func_text, cont_text}
use Rattle.wasm_types.specs.declared.composite.CompositeInnerType.{CompositeInnerType}
use Rattle.wasm_types.specs.declared.composite.CompositeInnerType.TheVariants.{Func, Array, Struct, Cont}
use Rattle.wasm_types.specs.declared.composite.CompositeType.{CompositeType}
use Rattle.wasm_types.specs.declared.sub_type.SubType.{SubType}

-- a composite type without what may stand before it
abbrev pub inner_text : CompositeInnerType → List ℕ
inner_text (Func f) = func_text f.params f.results
inner_text (Array a) = array_text a
inner_text (Struct s) = struct_text s.fields.items
inner_text (Cont c) = cont_text c

-- a word and an index, if there is one
abbrev pub prefix_text : List ℕ → Option UnpackedIndex → List ℕ
prefix_text word None = []
prefix_text word (Some i) = codes "(" ++ word ++ codes " " ++ index_text i ++ codes ") "

-- a type with what it describes and its descriptor
abbrev pub described_text : CompositeType → List ℕ
described_text t = prefix_text (codes "describes") t.describes_idx ++ prefix_text
    (codes "descriptor") t.descriptor_idx ++ inner_text t.inner

-- a shared type (true) in parentheses of its own
abbrev pub shared_text : Bool → List ℕ → List ℕ
shared_text true text = codes "(shared " ++ text ++ codes ")"
shared_text false text = text

-- a composite type with what may stand before it
abbrev pub composite_text : CompositeType → List ℕ
composite_text t = shared_text t.shared (described_text t)

-- one supertype
abbrev pub supertype_text : UnpackedIndex → List ℕ
supertype_text i = index_text i ++ codes " "

-- a type that is final and has no supertype stands alone
abbrev pub declared_text : Bool → List UnpackedIndex → List ℕ → List ℕ
declared_text true [] text = text
declared_text true (i ∷ is) text = codes "(sub final " ++ flat_map supertype_text (i ∷ is) ++ text ++ codes ")"
declared_text false is text = codes "(sub " ++ flat_map supertype_text is ++ text ++ codes ")"

-- a subtype: in full, or a composite type alone
abbrev pub sub_text : SubType → List ℕ
sub_text t = declared_text t.is_final t.supertype_idxs.items (composite_text t.composite_type)
