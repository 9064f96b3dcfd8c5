-- What operators on numbers and vectors take and give, and accesses to memories above the address, read off their names alone
-- (WebAssembly 3.0, syntax, numeric instructions, vector instructions and memory instructions; the proposals on threads and on wide
-- arithmetic): a name is a type or a shape, a dot, and an operation of some family. The rules have a table of their own, and steps of a
-- valid program take the places from here.
use Rattle.std.specs.Prelude.{ℕ, Bool, true, false, List, [], ◌∷◌, ◌==◌, Option, Some, None, codes, if◌then◌else◌}
use Rattle.wasm_types.specs.trees.Types.{Number, i32, i64, f32, f64, v128}
use Rattle.wasm_operators_immediates.specs.Immediates.{Immediate, MemoryArgument}
use Rattle.wasm_operators_immediates.specs.declared.memory.MemArg.{MemArg}

-- numbers that are taken and given, the last on top
pub record Places : Type 0 where
  pub takes : List Number
  pub gives : List Number

abbrev pub gives_from : List Number → List Number → Option Places
gives_from ts us = Some (record { takes = ts; gives = us })

-- what stands in a name behind a word with which it begins
abbrev pub behind : List ℕ → List ℕ → Option (List ℕ)
behind [] name = Some name
behind (c ∷ cs) [] = None
behind (c ∷ cs) (d ∷ ds) = if c == d then behind cs ds else None

-- by what stands behind a word, if it stands there, or else otherwise
abbrev pub where_behind : Option (List ℕ) → (List ℕ → Option Places) → Option Places → Option Places
where_behind None f otherwise = otherwise
where_behind (Some rest) f otherwise = f rest

-- the type with which a name begins
abbrev pub typed : List ℕ → (Number → List ℕ → Option Places) → Option Places
typed name f = where_behind (behind (codes "i32") name) (f i32) (where_behind (behind (codes "i64") name) (f i64)
    (where_behind (behind (codes "f32") name) (f f32) (where_behind (behind (codes "f64") name) (f f64) None)))

-- ---- families of operations

-- one of these words, and a name that begins with one of them
abbrev pub is_word : Option (List ℕ) → Bool
is_word (Some []) = true
is_word rest = false

abbrev pub is_one_of : List (List ℕ) → List ℕ → Bool
is_one_of [] name = false
is_one_of (w ∷ ws) name = if is_word (behind w name) then true else is_one_of ws name

abbrev pub first_behind : List (List ℕ) → List ℕ → (List ℕ → Option Places) → Option Places → Option Places
first_behind [] name f otherwise = otherwise
first_behind (w ∷ ws) name f otherwise = where_behind (behind w name) f (first_behind ws name f otherwise)

abbrev pub unary_words : List (List ℕ)
unary_words =
    codes "clz" ∷ codes "ctz" ∷ codes "popcnt" ∷ codes "extend8_s" ∷ codes "extend16_s" ∷ codes "extend32_s"
    ∷ codes "abs" ∷ codes "neg" ∷ codes "sqrt" ∷ codes "ceil" ∷ codes "floor" ∷ codes "trunc" ∷ codes "nearest" ∷ []

abbrev pub binary_words : List (List ℕ)
binary_words =
    codes "add" ∷ codes "sub" ∷ codes "mul" ∷ codes "div_s" ∷ codes "div_u" ∷ codes "rem_s" ∷ codes "rem_u"
    ∷ codes "and" ∷ codes "or" ∷ codes "xor" ∷ codes "shl" ∷ codes "shr_s" ∷ codes "shr_u" ∷ codes "rotl" ∷ codes "rotr"
    ∷ codes "div" ∷ codes "min" ∷ codes "max" ∷ codes "copysign" ∷ []

abbrev pub comparing_words : List (List ℕ)
comparing_words =
    codes "eq" ∷ codes "ne" ∷ codes "lt_s" ∷ codes "lt_u" ∷ codes "gt_s" ∷ codes "gt_u" ∷ codes "le_s" ∷ codes "le_u"
    ∷ codes "ge_s" ∷ codes "ge_u" ∷ codes "lt" ∷ codes "gt" ∷ codes "le" ∷ codes "ge" ∷ []

-- behind these stands the type that is converted
abbrev pub converting_words : List (List ℕ)
converting_words =
    codes "wrap_" ∷ codes "extend_" ∷ codes "trunc_sat_" ∷ codes "trunc_" ∷ codes "convert_" ∷ codes "demote_"
    ∷ codes "promote_" ∷ codes "reinterpret_" ∷ []

abbrev pub operation : Number → List ℕ → Option Places
operation t name =
    if is_one_of (codes ".const" ∷ []) name then gives_from [] (t ∷ [])
    else where_behind (behind (codes ".") name)
    (λ word. if is_one_of unary_words word then gives_from (t ∷ []) (t ∷ [])
    else if is_one_of binary_words word then gives_from (t ∷ t ∷ []) (t ∷ [])
    else if is_one_of (codes "eqz" ∷ []) word then gives_from (t ∷ []) (i32 ∷ [])
    else if is_one_of comparing_words word then gives_from (t ∷ t ∷ []) (i32 ∷ [])
    else if is_one_of (codes "add128" ∷ codes "sub128" ∷ []) word then gives_from (t ∷ t ∷ t ∷ t ∷ []) (t ∷ t ∷ [])
    else if is_one_of (codes "mul_wide_s" ∷ codes "mul_wide_u" ∷ []) word then gives_from (t ∷ t ∷ []) (t ∷ t ∷ [])
    else first_behind converting_words word (λ from. typed from (λ u sign. gives_from (u ∷ []) (t ∷ []))) None) None

-- ---- families of operations on vectors

-- the shape with which a name begins, by the number that stands for one of its lanes; `v128` has none, and stands for the bits
abbrev pub shaped : List ℕ → (Number → List ℕ → Option Places) → Option Places → Option Places
shaped name f otherwise = where_behind (behind (codes "i8x16") name) (f i32) (where_behind (behind (codes "i16x8") name) (f i32)
    (where_behind (behind (codes "i32x4") name) (f i32) (where_behind (behind (codes "i64x2") name) (f i64)
    (where_behind (behind (codes "f32x4") name) (f f32) (where_behind (behind (codes "f64x2") name) (f f64)
    (where_behind (behind (codes "v128") name) (f v128) otherwise))))))

-- one vector is made of one, of two, and of three
abbrev pub unary_lane_words : List (List ℕ)
unary_lane_words =
    codes "abs" ∷ codes "neg" ∷ codes "not" ∷ codes "popcnt" ∷ codes "sqrt" ∷ codes "ceil" ∷ codes "floor" ∷ codes "trunc"
    ∷ codes "nearest" ∷ []

abbrev pub binary_lane_words : List (List ℕ)
binary_lane_words =
    codes "add" ∷ codes "sub" ∷ codes "mul" ∷ codes "div" ∷ codes "min" ∷ codes "max" ∷ codes "pmin" ∷ codes "pmax"
    ∷ codes "and" ∷ codes "andnot" ∷ codes "or" ∷ codes "xor" ∷ codes "add_sat_s" ∷ codes "add_sat_u" ∷ codes "sub_sat_s"
    ∷ codes "sub_sat_u" ∷ codes "min_s" ∷ codes "min_u" ∷ codes "max_s" ∷ codes "max_u" ∷ codes "avgr_u"
    ∷ codes "q15mulr_sat_s" ∷ codes "swizzle" ∷ codes "shuffle" ∷ codes "relaxed_swizzle" ∷ codes "relaxed_min"
    ∷ codes "relaxed_max" ∷ codes "relaxed_q15mulr_s" ∷ codes "relaxed_dot_i8x16_i7x16_s" ∷ []

abbrev pub ternary_lane_words : List (List ℕ)
ternary_lane_words =
    codes "bitselect" ∷ codes "relaxed_madd" ∷ codes "relaxed_nmadd" ∷ codes "relaxed_laneselect"
    ∷ codes "relaxed_dot_i8x16_i7x16_add_s" ∷ []

-- a number is told of a vector; a vector is shifted by a number
abbrev pub testing_words : List (List ℕ)
testing_words = codes "any_true" ∷ codes "all_true" ∷ codes "bitmask" ∷ []

abbrev pub shifting_words : List (List ℕ)
shifting_words = codes "shl" ∷ codes "shr_s" ∷ codes "shr_u" ∷ []

abbrev pub extracting_words : List (List ℕ)
extracting_words = codes "extract_lane" ∷ codes "extract_lane_s" ∷ codes "extract_lane_u" ∷ []

-- behind these stands the shape of the one vector, or of the two, of which lanes of another shape are made
abbrev pub reshaping_words : List (List ℕ)
reshaping_words =
    codes "extadd_pairwise_" ∷ codes "extend_low_" ∷ codes "extend_high_" ∷ codes "trunc_sat_" ∷ codes "relaxed_trunc_"
    ∷ codes "convert_low_" ∷ codes "convert_" ∷ codes "demote_" ∷ codes "promote_low_" ∷ []

abbrev pub joining_words : List (List ℕ)
joining_words = codes "narrow_" ∷ codes "extmul_low_" ∷ codes "extmul_high_" ∷ codes "dot_" ∷ []

abbrev pub reshaped : List (List ℕ) → List ℕ → List Number → Option Places → Option Places
reshaped words word taken otherwise = first_behind words word
    (λ from. shaped from (λ lane rest. gives_from taken (v128 ∷ [])) None) otherwise

-- of an operation on vectors of a shape, by the number that stands for a lane
abbrev pub on_lanes : Number → List ℕ → Option Places
on_lanes t name = where_behind (behind (codes ".") name)
    (λ word. if is_one_of (codes "const" ∷ []) word then gives_from [] (v128 ∷ [])
    else if is_one_of unary_lane_words word then gives_from (v128 ∷ []) (v128 ∷ [])
    else if is_one_of comparing_words word then gives_from (v128 ∷ v128 ∷ []) (v128 ∷ [])
    else if is_one_of binary_lane_words word then gives_from (v128 ∷ v128 ∷ []) (v128 ∷ [])
    else if is_one_of ternary_lane_words word then gives_from (v128 ∷ v128 ∷ v128 ∷ []) (v128 ∷ [])
    else if is_one_of testing_words word then gives_from (v128 ∷ []) (i32 ∷ [])
    else if is_one_of shifting_words word then gives_from (v128 ∷ i32 ∷ []) (v128 ∷ [])
    else if is_one_of (codes "splat" ∷ []) word then gives_from (t ∷ []) (v128 ∷ [])
    else if is_one_of extracting_words word then gives_from (v128 ∷ []) (t ∷ [])
    else if is_one_of (codes "replace_lane" ∷ []) word then gives_from (v128 ∷ t ∷ []) (v128 ∷ [])
    else reshaped reshaping_words word (v128 ∷ []) (reshaped joining_words word (v128 ∷ v128 ∷ []) None)) None

-- of an operator on numbers or on vectors, or a constant
abbrev pub computed : List ℕ → Option Places
computed name = shaped name on_lanes (typed name operation)

-- ---- accesses to memories: loads, stores, and what is read, changed and written at once

abbrev pub changed : Number → List ℕ → Option Places
changed t name = where_behind (behind (codes "cmpxchg") name) (λ rest. gives_from (t ∷ t ∷ []) (t ∷ []))
    (gives_from (t ∷ []) (t ∷ []))

abbrev pub moved : Number → List ℕ → Option Places
moved t name = where_behind (behind (codes ".load") name) (λ width. gives_from [] (t ∷ []))
    (where_behind (behind (codes ".store") name) (λ width. gives_from (t ∷ []) [])
    (where_behind (behind (codes ".atomic.load") name) (λ width. gives_from [] (t ∷ []))
    (where_behind (behind (codes ".atomic.store") name) (λ width. gives_from (t ∷ []) [])
    (first_behind (codes ".atomic.rmw." ∷ codes ".atomic.rmw8." ∷ codes ".atomic.rmw16." ∷ codes ".atomic.rmw32." ∷ [])
    name (changed t) None))))

-- a vector is read, or one of its lanes, which leaves the others as they were; a vector or a lane of one is written
abbrev pub lane_widths : List (List ℕ)
lane_widths = codes "8_lane" ∷ codes "16_lane" ∷ codes "32_lane" ∷ codes "64_lane" ∷ []

abbrev pub moved_vector : List ℕ → Option Places
moved_vector name = where_behind (behind (codes ".load") name)
    (λ width. gives_from (if is_one_of lane_widths width then v128 ∷ [] else []) (v128 ∷ []))
    (where_behind (behind (codes ".store") name) (λ width. gives_from (v128 ∷ []) []) None)

-- threads that wait are woken, or one waits for a time, until a number changes
abbrev pub accessed : List ℕ → Option Places
accessed name = where_behind (behind (codes "memory.atomic.") name)
    (λ word. if is_one_of (codes "notify" ∷ []) word then gives_from (i32 ∷ []) (i32 ∷ [])
    else if is_one_of (codes "wait32" ∷ []) word then gives_from (i32 ∷ i64 ∷ []) (i32 ∷ [])
    else if is_one_of (codes "wait64" ∷ []) word then gives_from (i64 ∷ i64 ∷ []) (i32 ∷ [])
    else None) (where_behind (behind (codes "v128") name) moved_vector (typed name moved))

-- the memory is that of the argument which an access carries
abbrev pub argument_of : List Immediate → Option MemArg
argument_of (MemoryArgument access natural argument ∷ more) = Some argument
argument_of carried = None
