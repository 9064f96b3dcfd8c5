-- The function types of a type section whose groups are one function type each (WebAssembly 3.0, binary format, types).
use Rattle.std.specs.Prelude.{ℕ, List, [], ◌∷◌, Bool, true, false, Option, Some, None}
use Rattle.wasm_types.specs.decoding.declared.Refusal.TheVariants.{Other}
use Rattle.wasm_types.specs.decoding.Decoder.{Decoder, Grammar, ◌>>=◌, pure}
use Rattle.wasm_types.specs.decoding.Lists.{refuse_at}
use Rattle.wasm_types.specs.settings.Settings.{Settings}
use Rattle.wasm_types.specs.trees.declared.index.UnpackedIndex.{UnpackedIndex}
use Rattle.wasm_types.specs.fields.Signatures.{Signature}
use Rattle.wasm_types.specs.SpellsTypes.{InnerValue, function, array_of, struct_of, continuation, CompositeValue, SubValue, sub_with, GroupValue, group_with, SpelledGroup}
use Rattle.wasm_types.specs.DecodeTypes.{rec_group}

-- ---- which groups these are

-- a function type alone: not shared, without a descriptor, and describing no type
abbrev pub alone : Signature → CompositeValue
alone f = record { inner = function f; shared = false; descriptor = None; describes = None }

-- the group of it, final and without a supertype, which is written as a group or not
abbrev pub group_of : Bool → Signature → GroupValue
group_of e f = group_with e (sub_with true [] (alone f) ∷ [])

-- the bytes of such a group
abbrev pub SpelledAlone : Settings → Grammar Signature
SpelledAlone z f text = (e : Bool) × SpelledGroup z (group_of e f) text

-- ---- how they are read

-- the function type that a type is by its constructor
abbrev pub inner_function : InnerValue → Option Signature
inner_function (function f) = Some f
inner_function (array_of x) = None
inner_function (struct_of xs) = None
inner_function (continuation i) = None

-- the same where no index stands
abbrev pub without_index : Option UnpackedIndex → Option Signature → Option Signature
without_index None f = f
without_index (Some i) f = None

-- the same of what is true or not
abbrev pub only_if : Bool → Option Signature → Option Signature
only_if true f = f
only_if false f = None

abbrev pub only_unless : Bool → Option Signature → Option Signature
only_unless true f = None
only_unless false f = f

-- the function type that a composite type is, and nothing else
abbrev pub composite_function : CompositeValue → Option Signature
composite_function c = only_unless c.shared (without_index c.descriptor (without_index c.describes (inner_function c.inner)))

-- the same below no type
abbrev pub below_none : List UnpackedIndex → Option Signature → Option Signature
below_none [] f = f
below_none (i ∷ is) f = None

-- the function type that a subtype is
abbrev pub sub_function : SubValue → Option Signature
sub_function x = only_if x.is_final (below_none x.supertypes (composite_function x.composite))

-- the function type that types are, if they are one
abbrev pub only_function : List SubValue → Option Signature
only_function [] = None
only_function (x ∷ []) = sub_function x
only_function (x ∷ (y ∷ xs)) = None

-- this function type; a refusal at this offset where there is none
abbrev pub or_refuse : ℕ → Option Signature → Decoder Signature
or_refuse place (Some f) = pure f
or_refuse place None = refuse_at Other place

-- a group that is one function type; another is refused where it begins
unfoldable pub function_alone : Settings → Decoder Signature
function_alone z s = (rec_group z >>= λ g. or_refuse s.place (only_function g.types)) s
