-- Each opcode with immediates of the kinds that belong to it is an operator's. So whatever is read as an opcode with its immediates is
-- an operator.
use Rattle.std.proofs.Common.{◌≡◌, IsTrue, ℕ, Bool, true, false, List, map, Option, Some, None, refl, sym, subst}
use Rattle.std.specs.Prelude.{◌==◌, if◌then◌else◌}
use Rattle.std.proofs.lemmas.Bool.{eqb-true}
use Rattle.wasm_types.specs.settings.Settings.{Settings}
use Rattle.wasm_types.specs.decoding.Decoder.{State, Done}
use Rattle.wasm_operators_immediates.specs.Kinds.{Kind}
use Rattle.wasm_operators_immediates.specs.Immediates.{Immediate, kind_of}
use Rattle.wasm_operators_enums.specs.control.Table.{control_info, parametric_info, exception_info, continuation_info}
use Rattle.wasm_operators_enums.specs.memory.Table.{memory_info, const_info, bulk_info}
use Rattle.wasm_operators_enums.specs.numbers.Table.{numeric_info}
use Rattle.wasm_operators_enums.specs.gc.Table.{gc_info, descriptor_info}
use Rattle.wasm_operators_enums.specs.threads.Table.{atomic_info, shared_info}
use Rattle.wasm_operators_enums.specs.VectorsTable.{simd_info, simd_numeric_info}
use Rattle.wasm_operators_enums.specs.control.Immediates.{control_immediates, parametric_immediates, exception_immediates, continuation_immediates, is_canonical as parametric_is_canonical}
use Rattle.wasm_operators_enums.specs.memory.Immediates.{memory_immediates, const_immediates, bulk_immediates}
use Rattle.wasm_operators_enums.specs.numbers.Immediates.{numeric_immediates}
use Rattle.wasm_operators_enums.specs.gc.Immediates.{gc_immediates, descriptor_immediates}
use Rattle.wasm_operators_enums.specs.threads.Immediates.{atomic_immediates, shared_immediates}
use Rattle.wasm_operators_enums.specs.VectorsImmediates.{simd_immediates, simd_numeric_immediates}
use Rattle.wasm_operators_enums.proofs.ControlCodes.{control_list, parametric_list, exception_list, continuation_list}
use Rattle.wasm_operators_enums.proofs.MemoryCodes.{memory_list, const_list, bulk_list}
use Rattle.wasm_operators_enums.proofs.NumbersCodes.{numeric_list}
use Rattle.wasm_operators_enums.proofs.GcCodes.{gc_list, descriptor_list}
use Rattle.wasm_operators_enums.proofs.ThreadsCodes.{atomic_list, shared_list}
use Rattle.wasm_operators_enums.proofs.VectorsCodes.{simd_list, simd_numeric_list}
use Rattle.wasm_operators_enums.specs.Op as op
use Rattle.wasm_operators_enums.specs.Op.{Op}
use Rattle.wasm_operators_enums.specs.Immediates.{is_canonical}
use Rattle.wasm_operators_encoding.specs.Groups.{control_kinds, parametric_kinds, exception_kinds, memory_kinds, const_kinds, numeric_kinds, bulk_plain_kinds, gc_plain_kinds, continuation_kinds, gc_kinds, descriptor_kinds, numeric_prefixed_kinds, bulk_kinds, simd_kinds, simd_numeric_kinds, atomic_kinds, shared_kinds}
use Rattle.wasm_operators_encoding.specs.Coded.{or_else, plain_kinds, fb_kinds, fc_kinds, fd_kinds, fe_kinds, prefixed_kinds, kinds_behind, kinds_at, Coded, operator}
use Rattle.wasm_operators_encoding.specs.CodedLaws.{decides-operator}
use Rattle.wasm_operators_encoding.specs.Operators.{coded_of}
use Rattle.wasm_operators_encoding.specs.codes.Filled.{MadeOf, bare_fills, made_of}
use Rattle.wasm_operators_encoding.specs.codes.ControlFilled.{control_fills, parametric_fills, exception_fills, continuation_fills}
use Rattle.wasm_operators_encoding.specs.codes.MemoryFilled.{memory_fills, const_fills, bulk_fills}
use Rattle.wasm_operators_encoding.specs.codes.GcFilled.{gc_fills, descriptor_fills}
use Rattle.wasm_operators_encoding.specs.codes.ThreadsFilled.{atomic_fills, shared_fills}
use Rattle.wasm_operators_encoding.specs.codes.VectorsFilled.{simd_fills}

-- this opcode with these immediates is an operator's, in the form that bytes give it
abbrev pub IsCoded : Coded → Type 0
IsCoded c = (o : Op) × IsTrue (is_canonical o) × (coded_of o ≡ c)

-- ---- what was found

either_of : {X : Type 0} (ks : List Kind) (a b : Option (List Kind)) → (a ≡ Some ks → X) → (b ≡ Some ks → X) → or_else a b ≡ Some ks → X
either_of ks (Some js) b f g e = f e
either_of ks None b f g e = g e

one_of : {X : Type 0} (ks : List Kind) (b : Bool) (x y : Option (List Kind)) → (b ≡ true → x ≡ Some ks → X) → (y ≡ Some ks → X) → (if b then x else y) ≡ Some ks → X
one_of ks true x y f g e = f refl e
one_of ks false x y f g e = g e

module _ (code : ℕ) (is : List Immediate) where
  -- behind this prefix the code is an operator's
  abbrev Behind : Option ℕ → Type 0
  Behind p = IsCoded (record { opcode = record { prefix = p; code = code }; carried = is })

  -- the kinds of the immediates
  abbrev ks : List Kind
  ks = map kind_of is

  module _ (p : Option ℕ) where
    control : MadeOf control_info control_immediates (λ o. true) p code is → Behind p
    control m = (op.Control m.made, refl, λ i. record { opcode = record { prefix = m.prefix i; code = m.code_is i }; carried = m.carries i })

    parametric : MadeOf parametric_info parametric_immediates parametric_is_canonical p code is → Behind p
    parametric m = (op.Parametric m.made, m.canonical, λ i. record { opcode = record { prefix = m.prefix i; code = m.code_is i }; carried = m.carries i })

    exception : MadeOf exception_info exception_immediates (λ o. true) p code is → Behind p
    exception m = (op.Exception m.made, refl, λ i. record { opcode = record { prefix = m.prefix i; code = m.code_is i }; carried = m.carries i })

    memory : MadeOf memory_info memory_immediates (λ o. true) p code is → Behind p
    memory m = (op.Memory m.made, refl, λ i. record { opcode = record { prefix = m.prefix i; code = m.code_is i }; carried = m.carries i })

    constant : MadeOf const_info const_immediates (λ o. true) p code is → Behind p
    constant m = (op.Const m.made, refl, λ i. record { opcode = record { prefix = m.prefix i; code = m.code_is i }; carried = m.carries i })

    numeric : MadeOf numeric_info numeric_immediates (λ o. true) p code is → Behind p
    numeric m = (op.Numeric m.made, refl, λ i. record { opcode = record { prefix = m.prefix i; code = m.code_is i }; carried = m.carries i })

    bulk : MadeOf bulk_info bulk_immediates (λ o. true) p code is → Behind p
    bulk m = (op.Bulk m.made, refl, λ i. record { opcode = record { prefix = m.prefix i; code = m.code_is i }; carried = m.carries i })

    gc : MadeOf gc_info gc_immediates (λ o. true) p code is → Behind p
    gc m = (op.Gc m.made, refl, λ i. record { opcode = record { prefix = m.prefix i; code = m.code_is i }; carried = m.carries i })

    descriptor : MadeOf descriptor_info descriptor_immediates (λ o. true) p code is → Behind p
    descriptor m = (op.Descriptor m.made, refl, λ i. record { opcode = record { prefix = m.prefix i; code = m.code_is i }; carried = m.carries i })

    simd : MadeOf simd_info simd_immediates (λ o. true) p code is → Behind p
    simd m = (op.Simd m.made, refl, λ i. record { opcode = record { prefix = m.prefix i; code = m.code_is i }; carried = m.carries i })

    simd_numeric : MadeOf simd_numeric_info simd_numeric_immediates (λ o. true) p code is → Behind p
    simd_numeric m = (op.SimdNumeric m.made, refl, λ i. record { opcode = record { prefix = m.prefix i; code = m.code_is i }; carried = m.carries i })

    atomic : MadeOf atomic_info atomic_immediates (λ o. true) p code is → Behind p
    atomic m = (op.Atomic m.made, refl, λ i. record { opcode = record { prefix = m.prefix i; code = m.code_is i }; carried = m.carries i })

    shared : MadeOf shared_info shared_immediates (λ o. true) p code is → Behind p
    shared m = (op.Shared m.made, refl, λ i. record { opcode = record { prefix = m.prefix i; code = m.code_is i }; carried = m.carries i })

    continuation : MadeOf continuation_info continuation_immediates (λ o. true) p code is → Behind p
    continuation m = (op.Continuation m.made, refl, λ i. record { opcode = record { prefix = m.prefix i; code = m.code_is i }; carried = m.carries i })

  -- ---- by prefix

  plain_at : plain_kinds code ≡ Some ks → Behind None
  unfolding numeric_kinds
  plain_at =
      either_of ks (control_kinds code) _ (λ e. control None (made_of control_info control_immediates (λ o. true) control_fills None code is control_list e))
      (either_of ks (parametric_kinds code) _ (λ e. parametric None (made_of parametric_info parametric_immediates parametric_is_canonical parametric_fills None code is parametric_list e))
      (either_of ks (exception_kinds code) _ (λ e. exception None (made_of exception_info exception_immediates (λ o. true) exception_fills None code is exception_list e))
      (either_of ks (memory_kinds code) _ (λ e. memory None (made_of memory_info memory_immediates (λ o. true) memory_fills None code is memory_list e))
      (either_of ks (const_kinds code) _ (λ e. constant None (made_of const_info const_immediates (λ o. true) const_fills None code is const_list e))
      (either_of ks (numeric_kinds code) _ (λ e. numeric None (made_of numeric_info numeric_immediates (λ o. true) (bare_fills numeric_info (λ o. true) (λ o. refl)) None code is numeric_list e))
      (either_of ks (bulk_plain_kinds code) _ (λ e. bulk None (made_of bulk_info bulk_immediates (λ o. true) bulk_fills None code is bulk_list e))
      (either_of ks (gc_plain_kinds code) (continuation_kinds code) (λ e. gc None (made_of gc_info gc_immediates (λ o. true) gc_fills None code is gc_list e))
      (λ e. continuation None (made_of continuation_info continuation_immediates (λ o. true) continuation_fills None code is continuation_list e)))))))))

  fb_at : fb_kinds code ≡ Some ks → Behind (Some 0xfb)
  fb_at =
      either_of ks (gc_kinds code) (descriptor_kinds code) (λ e. gc (Some 0xfb) (made_of gc_info gc_immediates (λ o. true) gc_fills (Some 0xfb) code is gc_list e))
      (λ e. descriptor (Some 0xfb) (made_of descriptor_info descriptor_immediates (λ o. true) descriptor_fills (Some 0xfb) code is descriptor_list e))

  fc_at : fc_kinds code ≡ Some ks → Behind (Some 0xfc)
  fc_at =
      either_of ks (numeric_prefixed_kinds code) (bulk_kinds code)
      (λ e. numeric (Some 0xfc) (made_of numeric_info numeric_immediates (λ o. true) (bare_fills numeric_info (λ o. true) (λ o. refl)) (Some 0xfc) code is numeric_list e))
      (λ e. bulk (Some 0xfc) (made_of bulk_info bulk_immediates (λ o. true) bulk_fills (Some 0xfc) code is bulk_list e))

  fd_at : fd_kinds code ≡ Some ks → Behind (Some 0xfd)
  unfolding simd_numeric_kinds
  fd_at =
      either_of ks (simd_kinds code) (simd_numeric_kinds code) (λ e. simd (Some 0xfd) (made_of simd_info simd_immediates (λ o. true) simd_fills (Some 0xfd) code is simd_list e))
      (λ e. simd_numeric (Some 0xfd) (made_of simd_numeric_info simd_numeric_immediates (λ o. true) (bare_fills simd_numeric_info (λ o. true) (λ o. refl)) (Some 0xfd) code is simd_numeric_list e))

  fe_at : fe_kinds code ≡ Some ks → Behind (Some 0xfe)
  fe_at =
      either_of ks (atomic_kinds code) (shared_kinds code) (λ e. atomic (Some 0xfe) (made_of atomic_info atomic_immediates (λ o. true) atomic_fills (Some 0xfe) code is atomic_list e))
      (λ e. shared (Some 0xfe) (made_of shared_info shared_immediates (λ o. true) shared_fills (Some 0xfe) code is shared_list e))

  module _ (p : ℕ) where
    -- one that is this prefix
    moved : (q : ℕ) → Behind (Some q) → (p == q) ≡ true → Behind (Some p)
    moved q h e = subst (λ (r : ℕ). Behind (Some r)) (sym (eqb-true p q e)) h

    none_at : None ≡ Some ks → Behind (Some p)
    none_at e = absurd cc

    prefixed_at : prefixed_kinds p code ≡ Some ks → Behind (Some p)
    prefixed_at =
        one_of ks (p == 0xfb) (fb_kinds code) _ (λ y e. moved 0xfb (fb_at e) y)
        (one_of ks (p == 0xfc) (fc_kinds code) _ (λ y e. moved 0xfc (fc_at e) y)
        (one_of ks (p == 0xfd) (fd_kinds code) _ (λ y e. moved 0xfd (fd_at e) y)
        (one_of ks (p == 0xfe) (fe_kinds code) None (λ y e. moved 0xfe (fe_at e) y) none_at)))

  behind : (p : Option ℕ) → kinds_behind p code ≡ Some ks → Behind p
  behind None e = plain_at e
  behind (Some p) e = prefixed_at p e

-- an opcode with immediates of its kinds is an operator's
pub is_coded : (c : Coded) → kinds_at c.opcode ≡ Some (map kind_of c.carried) → IsCoded c
is_coded c e = behind c.opcode.code c.carried c.opcode.prefix e

-- and so is what is read
pub read_is_coded : (settings : Settings) (s t : State) (c : Coded) → operator settings s ≡ Done c t → IsCoded c
read_is_coded settings s t c e = is_coded c ((decides-operator settings).sound s t c e).2.kinds
