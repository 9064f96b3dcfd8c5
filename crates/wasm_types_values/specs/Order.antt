-- The answers of `is_subtype_of` as a table. A law promises that they are the order of abstract heap types, which is defined
-- in `wasm_types_trees`.
use Rattle.std.specs.Prelude.{Bool, true, false}
use Rattle.wasm_types_trees.specs.Types.{Abstract, func, extern, any, none, noextern, nofunc, eq, struct, array, i31, exn, noexn, cont, nocont}

-- whether the first is below the second
abbrev pub is_below : Abstract → Abstract → Bool
is_below func func = true
is_below extern extern = true
is_below any any = true
is_below none none = true
is_below noextern noextern = true
is_below nofunc nofunc = true
is_below eq eq = true
is_below struct struct = true
is_below array array = true
is_below i31 i31 = true
is_below exn exn = true
is_below noexn noexn = true
is_below cont cont = true
is_below nocont nocont = true
is_below eq any = true
is_below i31 any = true
is_below struct any = true
is_below array any = true
is_below none any = true
is_below i31 eq = true
is_below struct eq = true
is_below array eq = true
is_below none eq = true
is_below none i31 = true
is_below none struct = true
is_below none array = true
is_below nofunc func = true
is_below noextern extern = true
is_below noexn exn = true
is_below nocont cont = true
is_below a b = false
