-- Worked lists: the bits or the limits that each stands for, or where its first word at fault is.
use Rattle.std.specs.Prelude.{◌≡◌, ℕ, [], ◌∷◌, Some, None, Result, Ok, Err, codes}
use Rattle.wasm_check_faults.specs.Lists.{Place}
use Rattle.wasm_check_faults.specs.FeatureLists.{features_of, features_through, meant_by}
use Rattle.wasm_types.specs.settings.Limits.{default_limits}
use Rattle.wasm_types.specs.settings.declared.Limits.{Limits}
use Rattle.wasm_check_faults.specs.declared.limits.Wrong.TheVariants.{Unknown, BadValue}
use Rattle.wasm_check_faults.specs.LimitLists.{ListFault, limit_named, limits_of, limits_through}
use Rattle.wasm_check_lines.specs.Limits.{word_of}
use Rattle.wasm_check_lines.specs.declared.limit.Limit.{Limit}

-- a word that is unknown here
abbrev pub unknown_at : ℕ → ℕ → Result ℕ Place
unknown_at start end = Err (record { start = start; end = end })

pub record FeatureRows : Type 0 where
  pub set : features_of (codes "mvp") ≡ Ok 0x400800
  pub added : features_of (codes "mvp,gc") ≡ Ok 0x480800
  pub removed : features_of (codes "no-exceptions") ≡ Ok 0x64bddff
  pub added_to_default : features_of (codes "stack-switching") ≡ Ok 0x6cbfdff
  -- a name of two bits, both of which it adds and removes
  pub two_bits : features_of (codes "mvp,reference-types") ≡ Ok 0x2400808
  pub two_bits_removed : features_of (codes "wasm1,no-bulk-memory,bulk-memory-opt,no-bulk-memory") ≡ Ok 0x400801
  pub part : features_of (codes "lime1,no-bulk-memory") ≡ Ok 0x2408817
  -- from left to right
  pub set_last : features_of (codes "gc,mvp") ≡ Ok 0x400800
  pub added_last : features_of (codes "no-gc,gc") ≡ Ok 0x64bfdff
  pub by_default : features_of (codes "mvp,default") ≡ Ok 0x64bfdff
  pub all : features_of (codes "all") ≡ Ok 0xfffffff
  pub none : features_of (codes "all,no-gc") ≡ Ok 0xff7ffff
  -- as `wasm-tools` writes them
  pub removed_by_a_hyphen : features_of (codes "-exceptions") ≡ Ok 0x64bddff
  pub nothing : features_of (codes "-all") ≡ Ok 0
  pub added_to_nothing : features_of (codes "gc,-all,floats") ≡ Ok 0x800
  pub two_lists : features_through (codes "mvp,gc" ∷ codes "no-floats" ∷ []) 0 ≡ Ok 0x480000
  pub second_list : features_through (codes "mvp" ∷ codes "gc,x" ∷ []) 0 ≡ unknown_at 3 4
  pub meant : meant_by (codes "GC") ≡ Some 0x80000
  pub meant_underscore : meant_by (codes "reference_types") ≡ Some 0x2000008
  pub meant_nothing : meant_by (codes "g c") ≡ None
  pub unknown : features_of (codes "mvp,nope") ≡ unknown_at 4 8
  pub first_unknown : features_of (codes "x,y") ≡ unknown_at 0 1
  pub empty : features_of [] ≡ unknown_at 0 0
  pub empty_last : features_of (codes "gc,") ≡ unknown_at 3 3
  pub empty_between : features_of (codes "gc,,simd") ≡ unknown_at 3 3
  pub no_set_removed : features_of (codes "no-mvp") ≡ unknown_at 0 6
  pub twice_removed : features_of (codes "no-no-gc") ≡ unknown_at 0 8
  pub two_hyphens : features_of (codes "--gc") ≡ unknown_at 0 4
  pub set_after_a_hyphen : features_of (codes "-mvp") ≡ unknown_at 0 4
  pub hyphen : features_of (codes "-") ≡ unknown_at 0 1
  pub upper_case : features_of (codes "GC") ≡ unknown_at 0 2
  pub underscore : features_of (codes "gc_types") ≡ unknown_at 0 8
  pub space : features_of (codes "gc, simd") ≡ unknown_at 3 8

-- a word that names no limit here, and one that has no number for its limit
abbrev pub no_limit_at : ℕ → ℕ → Result Limits ListFault
no_limit_at start end = Err (record { wrong = Unknown; place = record { start = start; end = end } })

abbrev pub bad_at : ℕ → ℕ → Result Limits ListFault
bad_at start end = Err (record { wrong = BadValue; place = record { start = start; end = end } })

pub record LimitRows : Type 0 where
  -- each limit has a word of its own
  pub words : (limit : Limit) → limit_named (word_of limit) ≡ Some limit
  pub two : limits_of (codes "locals=10,tables=3") ≡ Ok (record default_limits { locals = 10; tables = 3 })
  pub later_wins : limits_of (codes "tags=1,tags=2") ≡ Ok (record default_limits { tags = 2 })
  pub two_lists : limits_through (codes "locals=1" ∷ codes "tags=2,locals=3" ∷ []) default_limits
      ≡ Ok (record default_limits { tags = 2; locals = 3 })
  pub hyphen : limits_of (codes "type-size=16777215") ≡ Ok (record default_limits { type_size = 16777215 })
  pub none_at_all : limits_of (codes "imports=0") ≡ Ok (record default_limits { imports = 0 })
  pub ten_digits : limits_of (codes "locals=0000000010") ≡ Ok (record default_limits { locals = 10 })
  pub eleven_digits : limits_of (codes "locals=00000000010") ≡ bad_at 0 18
  pub past_ceiling : limits_of (codes "body-bytes=7654322") ≡ bad_at 0 18
  pub far_past_ceiling : limits_of (codes "locals=9999999999") ≡ bad_at 0 17
  pub no_value : limits_of (codes "locals") ≡ bad_at 0 6
  pub empty_value : limits_of (codes "locals=") ≡ bad_at 0 7
  pub letter : limits_of (codes "locals=1x") ≡ bad_at 0 9
  pub sign : limits_of (codes "locals=+1") ≡ bad_at 0 9
  pub two_values : limits_of (codes "types=1=2") ≡ bad_at 0 9
  pub unknown : limits_of (codes "nope=1") ≡ no_limit_at 0 6
  pub name_before_value : limits_of (codes "nope=x") ≡ no_limit_at 0 6
  pub underscore : limits_of (codes "body_bytes=1") ≡ no_limit_at 0 12
  pub no_name : limits_of (codes "=1") ≡ no_limit_at 0 2
  pub space : limits_of (codes "locals=1, tags=1") ≡ no_limit_at 9 16
  pub second : limits_of (codes "locals=1,x") ≡ no_limit_at 9 10
  pub first_fault : limits_of (codes "locals=x,y") ≡ bad_at 0 8
  pub empty : limits_of [] ≡ no_limit_at 0 0
  pub empty_last : limits_of (codes "locals=1,") ≡ no_limit_at 9 9
