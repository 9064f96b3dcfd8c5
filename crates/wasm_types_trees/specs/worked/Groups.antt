-- Groups that are valid and groups that are not.
use Rattle.std.specs.Prelude.{◌≡◌, ℕ, zero, suc, true, false, List, [], ◌∷◌, ◌++◌, map, reverse, Some, None}
use Rattle.wasm_types_settings.specs.Features.{Feature, ReferenceTypes, MultiValue, Simd, SharedEverythingThreads, Floats, Exceptions}
use Rattle.wasm_types_settings.specs.Features.{FunctionReferences, Gc, GcTypes, StackSwitching, CustomDescriptors}
use Rattle.wasm_types_settings.specs.Sets.{bits_of}
use Rattle.wasm_types_settings.specs.Limits.{default_limits}
use Rattle.wasm_types_settings.specs.Settings.{Settings}
use Rattle.wasm_types_trees.specs.Types.{i32, i64, f32, v128, func, any, eq, exn, abstract, concrete, ValueOf, number, ref, i8, InnerOf, function}
use Rattle.wasm_types_trees.specs.Types.{array_of, struct_of, continuation, SubtypeOf}
use Rattle.wasm_types_trees.specs.Trees.{TypeTree}
use Rattle.wasm_types_trees.specs.ValidGroup.{Written, written_tree, types_of, IsValidType, IsValidGroup, AreValidGroups}
use Rattle.wasm_types_trees.specs.worked.Types.{constant, variable, declared_entry, alone}
use Rattle.wasm_types_trees.specs.worked.Gates.{all_but}

-- ---- groups as they are written

-- an open subtype and a final one, by the supertypes that they declare, and a shared one
abbrev pub open_type : List ℕ → InnerOf ℕ → SubtypeOf ℕ
open_type supertypes inner = record { is_final = false; supertypes = supertypes; shared = false; descriptor = None; describes = None; inner = inner }

abbrev pub final_type : List ℕ → InnerOf ℕ → SubtypeOf ℕ
final_type supertypes inner = record (open_type supertypes inner) { is_final = true }

abbrev pub shared_type : InnerOf ℕ → SubtypeOf ℕ
shared_type inner = record (final_type [] inner) { shared = true }

-- with this descriptor, and describing this type
abbrev pub described_by : ℕ → SubtypeOf ℕ → SubtypeOf ℕ
described_by i x = record x { descriptor = Some i }

abbrev pub describing : ℕ → SubtypeOf ℕ → SubtypeOf ℕ
describing i x = record x { describes = Some i }

-- a type by itself, and types written as a group
abbrev pub single : SubtypeOf ℕ → Written
single x = record { is_explicit = false; types = x ∷ [] }

abbrev pub together : List (SubtypeOf ℕ) → Written
together xs = record { is_explicit = true; types = xs }

-- composite types, and a reference to an index
abbrev pub struct_type : List (ValueOf ℕ) → InnerOf ℕ
struct_type vs = struct_of (map constant vs)

abbrev pub taking : ValueOf ℕ → InnerOf ℕ
taking v = function (v ∷ []) []

abbrev pub giving : ValueOf ℕ → InnerOf ℕ
giving v = function [] (v ∷ [])

abbrev pub nothing : InnerOf ℕ
nothing = function [] []

abbrev pub to : ℕ → ValueOf ℕ
to i = ref false (concrete i)

-- ---- what is judged

-- the types of groups one after the other
abbrev pub space_of : List TypeTree → List Written → List TypeTree
space_of space [] = space
space_of space (g ∷ gs) = space_of (space ++ types_of space g) gs

-- these features, and the limits by default
abbrev pub allowing : ℕ → Settings
allowing features = record { features = features; limits = default_limits }

-- every feature, and one type at most above another
abbrev pub shallow : Settings
shallow = record { features = 0xfff_ffff; limits = record default_limits { subtyping_depth = 1 } }

-- behind these groups the group is valid, with these features alone
abbrev pub IsAccepted : List Feature → List Written → Written → Type 0
IsAccepted fs before g = IsValidGroup (allowing (bits_of fs)) (space_of [] before) g

-- it is not, with every feature
abbrev pub IsRefused : List Written → Written → Type 0
IsRefused before g = IsValidGroup (allowing 0xfff_ffff) (space_of [] before) g → ⊥

-- it is not, with every feature but one
abbrev pub Needs : Feature → List Written → Written → Type 0
Needs f before g = IsValidGroup (allowing (all_but f)) (space_of [] before) g → ⊥

abbrev pub gc : List Feature
gc = Gc ∷ GcTypes ∷ []

abbrev pub integer : ValueOf ℕ
integer = number i32

abbrev pub long : ValueOf ℕ
long = number i64

-- two structs, the second below the first
abbrev pub two_structs : List Written
two_structs = single (open_type [] (struct_type [])) ∷ single (open_type (0 ∷ []) (struct_type (integer ∷ []))) ∷ []

-- a struct and its descriptor, both open
abbrev pub described : Written
described = together (described_by 1 (open_type [] (struct_type [])) ∷ describing 0 (open_type [] (struct_type [])) ∷ [])

-- two structs at these indices that refer to each other
abbrev pub mutual_structs : ℕ → ℕ → ValueOf ℕ → ValueOf ℕ → Written
mutual_structs first second v w = together (open_type [] (struct_type (v ∷ to second ∷ [])) ∷ open_type [] (struct_type (w ∷ to first ∷ [])) ∷ [])

-- the type above which n are declared, one above the other
unfoldable pub deep : ℕ → TypeTree
deep zero = alone (declared_entry None false (struct_of []))
deep (suc n) = alone (declared_entry (Some (deep n)) false (struct_of []))

-- ---- the rows

pub record GroupsWorked : Type 0 where
  -- how a group is written
  pub empty_group : IsAccepted (Gc ∷ []) [] (together [])
  pub empty_group_needs : Needs Gc [] (together [])
  pub group_needs : Needs Gc [] (together (final_type [] nothing ∷ []))
  pub one_function : IsAccepted [] [] (single (final_type [] nothing))
  pub two_supertypes : IsRefused (single (open_type [] nothing) ∷ single (open_type [] (taking integer)) ∷ []) (single (open_type (0 ∷ 0 ∷ []) nothing))
  -- which indices it may use
  pub own_supertype : IsRefused [] (single (open_type (0 ∷ []) nothing))
  pub later_supertype : IsRefused [] (together (open_type (1 ∷ []) nothing ∷ open_type [] nothing ∷ []))
  pub earlier_supertype : IsAccepted (Gc ∷ []) [] (together (open_type [] nothing ∷ open_type (0 ∷ []) nothing ∷ []))
  pub unknown_index : IsRefused [] (single (final_type [] (taking (to 1))))
  pub own_index : IsAccepted (ReferenceTypes ∷ Gc ∷ []) [] (single (final_type [] (taking (to 0))))
  pub own_index_needs : Needs Gc [] (single (final_type [] (taking (to 0))))
  pub earlier_index : IsAccepted (ReferenceTypes ∷ FunctionReferences ∷ []) (single (final_type [] nothing) ∷ []) (single (final_type [] (taking (to 0))))
  -- supertypes
  pub same_fields : IsAccepted gc (single (open_type [] (struct_type (integer ∷ []))) ∷ []) (single (open_type (0 ∷ []) (struct_type (integer ∷ []))))
  pub more_fields : IsAccepted gc (single (open_type [] (struct_type (integer ∷ []))) ∷ []) (single (final_type (0 ∷ []) (struct_type (integer ∷ long ∷ []))))
  pub supertype_mismatch : IsRefused (single (open_type [] (struct_type (integer ∷ []))) ∷ []) (single (open_type (0 ∷ []) (struct_type (long ∷ []))))
  pub final_supertype : IsRefused (single (final_type [] (struct_type [])) ∷ []) (single (open_type (0 ∷ []) (struct_type [])))
  pub open_type_needs : Needs Gc [] (single (open_type [] nothing))
  pub supertype_needs : Needs Gc (single (open_type [] nothing) ∷ []) (single (final_type (0 ∷ []) nothing))
  pub contravariant_parameter : IsAccepted (ReferenceTypes ∷ gc) (two_structs ++ single (open_type [] (taking (to 1))) ∷ []) (single (open_type (2 ∷ []) (taking (to 0))))
  pub covariant_parameter : IsRefused (two_structs ++ single (open_type [] (taking (to 0))) ∷ []) (single (open_type (2 ∷ []) (taking (to 1))))
  pub covariant_result : IsAccepted (ReferenceTypes ∷ gc) (two_structs ++ single (open_type [] (giving (to 0))) ∷ []) (single (open_type (2 ∷ []) (giving (to 1))))
  pub contravariant_result : IsRefused (two_structs ++ single (open_type [] (giving (to 1))) ∷ []) (single (open_type (2 ∷ []) (giving (to 0))))
  pub immutable_field : IsAccepted (ReferenceTypes ∷ gc) (single (open_type [] (struct_of (constant (ref true (abstract false any)) ∷ []))) ∷ [])
      (single (open_type (0 ∷ []) (struct_of (constant (ref true (abstract false eq)) ∷ []))))
  pub mutable_field : IsRefused (single (open_type [] (struct_of (variable (ref true (abstract false any)) ∷ []))) ∷ [])
      (single (open_type (0 ∷ []) (struct_of (variable (ref true (abstract false eq)) ∷ []))))
  pub shared_below_unshared : IsRefused (single (open_type [] nothing) ∷ []) (single (record (open_type (0 ∷ []) nothing) { shared = true }))
  -- what a composite type needs
  pub one_result : IsAccepted [] [] (single (final_type [] (giving integer)))
  pub two_results : IsAccepted (MultiValue ∷ []) [] (single (final_type [] (function [] (integer ∷ integer ∷ []))))
  pub two_results_need : Needs MultiValue [] (single (final_type [] (function [] (integer ∷ integer ∷ []))))
  pub structs : IsAccepted gc [] (single (final_type [] (struct_type (integer ∷ []))))
  pub structs_need : Needs Gc [] (single (final_type [] (struct_type []))) × Needs GcTypes [] (single (final_type [] (struct_type [])))
  pub arrays : IsAccepted gc [] (single (final_type [] (array_of (constant integer))))
  pub arrays_need : Needs Gc [] (single (final_type [] (array_of (constant integer)))) × Needs GcTypes [] (single (final_type [] (array_of (constant integer))))
  pub parts : IsAccepted (Floats ∷ []) [] (single (final_type [] (function (number f32 ∷ []) (number f32 ∷ []))))
  pub parts_need : Needs Floats [] (single (final_type [] (taking (number f32)))) × Needs Floats [] (single (final_type [] (giving (number f32))))
  pub fields_need : Needs Floats [] (single (final_type [] (struct_type (integer ∷ number f32 ∷ [])))) × Needs Floats [] (single (final_type [] (array_of (constant (number f32)))))
  pub exceptions : IsAccepted (ReferenceTypes ∷ Exceptions ∷ []) [] (single (final_type [] (taking (ref true (abstract false exn)))))
  pub exceptions_need : Needs Exceptions [] (single (final_type [] (taking (ref true (abstract false exn)))))
  -- continuations
  pub continuation_type : IsAccepted (StackSwitching ∷ GcTypes ∷ []) (single (final_type [] nothing) ∷ []) (single (final_type [] (continuation 0)))
  pub continuation_needs : Needs StackSwitching (single (final_type [] nothing) ∷ []) (single (final_type [] (continuation 0)))
  pub continuation_needs_too : Needs GcTypes (single (final_type [] nothing) ∷ []) (single (final_type [] (continuation 0)))
  pub continuation_of_struct : IsRefused (single (final_type [] (struct_type [])) ∷ []) (single (final_type [] (continuation 0)))
  -- shared types
  pub shared_numbers : IsAccepted (SharedEverythingThreads ∷ Simd ∷ gc) []
      (single (shared_type (struct_of (record { storage = i8; mutable = true } ∷ constant integer ∷ constant (number v128) ∷ []))))
  pub shared_function : IsAccepted (SharedEverythingThreads ∷ []) [] (single (shared_type (function (integer ∷ []) (long ∷ []))))
  pub shared_reference : IsAccepted (SharedEverythingThreads ∷ ReferenceTypes ∷ gc) [] (single (shared_type (array_of (constant (ref true (abstract true eq))))))
  pub shared_in_unshared : IsAccepted (SharedEverythingThreads ∷ ReferenceTypes ∷ gc) [] (single (final_type [] (taking (ref true (abstract true eq)))))
  pub shared_needs : Needs SharedEverythingThreads [] (single (shared_type nothing))
  pub unshared_parameter : IsRefused [] (single (shared_type (taking (ref true (abstract false func)))))
  pub unshared_result : IsRefused [] (single (shared_type (giving (ref true (abstract false func)))))
  pub unshared_field : IsRefused [] (single (shared_type (struct_type (integer ∷ ref true (abstract false eq) ∷ []))))
  pub unshared_element : IsRefused [] (single (shared_type (array_of (constant (ref true (abstract false eq))))))
  pub unshared_type : IsRefused (single (final_type [] nothing) ∷ []) (single (shared_type (taking (to 0))))
  -- descriptors
  pub descriptor : IsAccepted (CustomDescriptors ∷ gc) [] (together (described_by 1 (final_type [] (struct_type [])) ∷ describing 0 (final_type [] (struct_type [])) ∷ []))
  pub open_descriptor : IsAccepted (CustomDescriptors ∷ gc) [] (together (described_by 1 (open_type [] (struct_type [])) ∷ describing 0 (open_type [] (struct_type [])) ∷ []))
  pub descriptor_needs : Needs CustomDescriptors [] (together (described_by 1 (final_type [] (struct_type [])) ∷ describing 0 (final_type [] (struct_type [])) ∷ []))
  pub descriptor_without_describes : IsRefused [] (together (described_by 1 (final_type [] (struct_type [])) ∷ final_type [] (struct_type []) ∷ []))
  pub describes_without_descriptor : IsRefused [] (together (final_type [] (struct_type []) ∷ describing 0 (final_type [] (struct_type [])) ∷ []))
  pub describes_before : IsRefused [] (together (describing 1 (final_type [] (struct_type [])) ∷ described_by 0 (final_type [] (struct_type [])) ∷ []))
  pub descriptor_finality : IsRefused [] (together (described_by 1 (open_type [] (struct_type [])) ∷ describing 0 (final_type [] (struct_type [])) ∷ []))
  pub descriptor_of_function : IsRefused [] (together (described_by 1 (final_type [] nothing) ∷ describing 0 (final_type [] (struct_type [])) ∷ []))
  pub function_describes : IsRefused [] (together (described_by 1 (final_type [] (struct_type [])) ∷ describing 0 (final_type [] nothing) ∷ []))
  -- a subtype's descriptor goes along with its supertype's, and what it describes with what its supertype does
  pub descriptors_along : IsAccepted (CustomDescriptors ∷ gc) (described ∷ [])
      (together (described_by 3 (open_type (0 ∷ []) (struct_type [])) ∷ describing 2 (open_type (1 ∷ []) (struct_type [])) ∷ []))
  pub descriptor_lost : IsRefused (described ∷ []) (single (open_type (0 ∷ []) (struct_type [])))
  pub descriptor_added : IsRefused (single (open_type [] (struct_type [])) ∷ [])
      (together (described_by 2 (open_type (0 ∷ []) (struct_type [])) ∷ describing 1 (open_type [] (struct_type [])) ∷ []))
  pub descriptor_apart : IsRefused (described ∷ []) (together (described_by 3 (open_type (0 ∷ []) (struct_type [])) ∷ describing 2 (open_type [] (struct_type [])) ∷ []))
  pub describes_lost : IsRefused (described ∷ []) (single (open_type (1 ∷ []) (struct_type [])))
  pub describes_added : IsRefused (single (open_type [] (struct_type [])) ∷ [])
      (together (described_by 2 (open_type [] (struct_type [])) ∷ describing 1 (open_type (0 ∷ []) (struct_type [])) ∷ []))
  pub describes_apart : IsRefused (described ∷ []) (together (described_by 3 (open_type [] (struct_type [])) ∷ describing 2 (open_type (1 ∷ []) (struct_type [])) ∷ []))
  -- at most 63 types above one
  pub depth_63 : IsValidType (allowing (bits_of gc)) (deep 63)
  pub depth_64 : IsValidType (allowing 0xfff_ffff) (deep 64) → ⊥
  -- or at most as many as the limit says
  pub depth_1 : IsValidType shallow (deep 1)
  pub depth_2 : IsValidType shallow (deep 2) → ⊥
  -- groups one after the other, and not in the other order
  pub in_turn : AreValidGroups (allowing (bits_of gc)) [] two_structs (space_of [] two_structs)
  pub out_of_turn : (after : List TypeTree) → AreValidGroups (allowing 0xfff_ffff) [] (reverse two_structs) after → ⊥
  -- equal types: two structs that refer to each other are the same wherever they stand, but not in the other order
  pub equal_groups : written_tree [] (mutual_structs 0 1 integer long) ≡ written_tree (space_of [] (mutual_structs 0 1 integer long ∷ [])) (mutual_structs 2 3 integer long)
  pub other_groups : written_tree [] (mutual_structs 0 1 integer long) ≡ written_tree [] (mutual_structs 0 1 long integer) → ⊥
