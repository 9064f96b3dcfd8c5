-- The table of abstract heap types is their order.
use Rattle.std.proofs.Common.{◌≡◌, refl, true}
use Rattle.wasm_types_trees.specs.Types.{Abstract, func, extern, any, none, noextern, nofunc, eq, struct, array, i31, exn, noexn, cont, nocont}
use Rattle.wasm_types_trees.specs.AbstractOrder.{AbstractBelow, same, eq_any, i31_any, struct_any, array_any, none_any, i31_eq, struct_eq, array_eq}
use Rattle.wasm_types_trees.specs.AbstractOrder.{none_eq, none_i31, none_struct, none_array, nofunc_func, noextern_extern, noexn_exn, nocont_cont}
use Rattle.wasm_types_values.specs.Order.{is_below}

pub table_sound : (a b : Abstract) → is_below a b ≡ true → AbstractBelow a b
table_sound func func h = same
table_sound extern extern h = same
table_sound any any h = same
table_sound none none h = same
table_sound noextern noextern h = same
table_sound nofunc nofunc h = same
table_sound eq eq h = same
table_sound struct struct h = same
table_sound array array h = same
table_sound i31 i31 h = same
table_sound exn exn h = same
table_sound noexn noexn h = same
table_sound cont cont h = same
table_sound nocont nocont h = same
table_sound eq any h = eq_any
table_sound i31 any h = i31_any
table_sound struct any h = struct_any
table_sound array any h = array_any
table_sound none any h = none_any
table_sound i31 eq h = i31_eq
table_sound struct eq h = struct_eq
table_sound array eq h = array_eq
table_sound none eq h = none_eq
table_sound none i31 h = none_i31
table_sound none struct h = none_struct
table_sound none array h = none_array
table_sound nofunc func h = nofunc_func
table_sound noextern extern h = noextern_extern
table_sound noexn exn h = noexn_exn
table_sound nocont cont h = nocont_cont
table_sound a b h = absurd cc

itself : (a : Abstract) → is_below a a ≡ true
itself func = refl
itself extern = refl
itself any = refl
itself none = refl
itself noextern = refl
itself nofunc = refl
itself eq = refl
itself struct = refl
itself array = refl
itself i31 = refl
itself exn = refl
itself noexn = refl
itself cont = refl
itself nocont = refl

pub table_complete : (a b : Abstract) → AbstractBelow a b → is_below a b ≡ true
table_complete a b same = itself a
table_complete a b eq_any = refl
table_complete a b i31_any = refl
table_complete a b struct_any = refl
table_complete a b array_any = refl
table_complete a b none_any = refl
table_complete a b i31_eq = refl
table_complete a b struct_eq = refl
table_complete a b array_eq = refl
table_complete a b none_eq = refl
table_complete a b none_i31 = refl
table_complete a b none_struct = refl
table_complete a b none_array = refl
table_complete a b nofunc_func = refl
table_complete a b noextern_extern = refl
table_complete a b noexn_exn = refl
table_complete a b nocont_cont = refl
