-- `==` of operators of control, exceptions and continuations: it holds exactly where the trees are equal.
use Rattle.std.proofs.Common.{◌≡◌, ℕ, true, nat_eq, refl, sym, ap, true≢false, ◌&&◌}
use lib.Pointwise.{pointwise}
use denote.Signature.{static_lft}
use Rattle.wasm_types.specs.values.Laws.{ValueEqualityIsIdentity}
use Rattle.wasm_types.specs.values.contracts.value.ValTypePartialEq.TheImpl as value_eq
use Rattle.wasm_operators_immediates.specs.contracts.block.BlockTypePartialEq.TheImpl as block_eq
use Rattle.wasm_operators_immediates.proofs.Telling.{Identity, none, one, two, variants, lists, ◌&◌, Tells, complete, first, second, both}
use Rattle.wasm_operators_immediates.proofs.Equality.{identity, numbers, labels, blocks, try_tables, resume_tables}
use Rattle.wasm_operators_enums.specs.contracts.control.ControlOperator as control
use Rattle.wasm_operators_enums.specs.contracts.control.ControlOperatorPartialEq.TheImpl as control_eq
use Rattle.wasm_operators_enums.specs.declared.control.ParametricOperator.{ParametricOperator}
use Rattle.wasm_operators_enums.specs.declared.control.ParametricOperator.TheVariants as parametric
use Rattle.wasm_operators_enums.specs.contracts.control.ParametricOperatorPartialEq.TheImpl as parametric_eq
use Rattle.wasm_operators_enums.specs.declared.exceptions.ExceptionOperator.{ExceptionOperator}
use Rattle.wasm_operators_enums.specs.declared.exceptions.ExceptionOperator.TheVariants as exception
use Rattle.wasm_operators_enums.specs.contracts.exceptions.ExceptionOperatorPartialEq.TheImpl as exception_eq
use Rattle.wasm_operators_enums.specs.control.Trees as tree
use Rattle.wasm_operators_enums.specs.control.Trees.{parametric_of, exception_of, continuation_of}
use Rattle.wasm_operators_immediates.specs.contracts.handlers.ResumeTablePartialEq.TheImpl as resume_eq
use Rattle.wasm_operators_enums.specs.declared.continuation.ContinuationOperator.{ContinuationOperator}
use Rattle.wasm_operators_enums.specs.declared.continuation.ContinuationOperator.TheVariants as continuation
use Rattle.wasm_operators_enums.specs.contracts.continuation.ContinuationOperatorPartialEq.TheImpl as continuation_eq

pub controls : (same_value : ValueEqualityIsIdentity) → Identity control_eq.ghosts.eq
controls same_value = variants (control.enum static_lft) _
    (none & none & one (blocks same_value) & one (blocks same_value) & one (blocks same_value) & none & none &
    one numbers & one numbers & one labels & none & one numbers & two numbers numbers & one numbers &
    two numbers numbers & one numbers & one numbers & none & one numbers & one numbers & tt)

module _ (same_value : ValueEqualityIsIdentity) where
  parametric_sound : (x y : ParametricOperator) → parametric_eq.ghosts.eq x y ≡ true → parametric_of x ≡ parametric_of y
  parametric_sound parametric.Drop parametric.Drop h = refl
  parametric_sound parametric.Select parametric.Select h = refl
  parametric_sound (parametric.TypedSelect a) (parametric.TypedSelect b) h = ap tree.TypedSelect ((identity same_value).sound a b h)
  parametric_sound (parametric.TypedSelectMulti a) (parametric.TypedSelectMulti b) h = ap tree.TypedSelectMulti ((lists (identity same_value)).sound a.items b.items h)
  parametric_sound x y h = absurd (true≢false (sym h))

  parametric_complete : (x y : ParametricOperator) → parametric_of x ≡ parametric_of y → parametric_eq.ghosts.eq x y ≡ true
  parametric_complete parametric.Drop parametric.Drop e = refl
  parametric_complete parametric.Select parametric.Select e = refl
  parametric_complete (parametric.TypedSelect a) (parametric.TypedSelect b) e = complete value_eq.ghosts.eq (identity same_value) a b cc
  parametric_complete (parametric.TypedSelectMulti a) (parametric.TypedSelectMulti b) e = complete (pointwise value_eq.ghosts.eq) (lists (identity same_value)) a.items b.items cc
  parametric_complete x y e = cc

  pub parametrics : Tells parametric_eq.ghosts.eq parametric_of
  parametrics = record { sound = parametric_sound; complete = parametric_complete }

  exception_sound : (x y : ExceptionOperator) → exception_eq.ghosts.eq x y ≡ true → exception_of x ≡ exception_of y
  exception_sound (exception.Try a) (exception.Try b) h = ap tree.Try ((blocks same_value).sound a b h)
  exception_sound (exception.Catch a) (exception.Catch b) h = ap tree.Catch (numbers.sound a b h)
  exception_sound (exception.Throw a) (exception.Throw b) h = ap tree.Throw (numbers.sound a b h)
  exception_sound (exception.Rethrow a) (exception.Rethrow b) h = ap tree.Rethrow (numbers.sound a b h)
  exception_sound exception.ThrowRef exception.ThrowRef h = refl
  exception_sound (exception.Delegate a) (exception.Delegate b) h = ap tree.Delegate (numbers.sound a b h)
  exception_sound exception.CatchAll exception.CatchAll h = refl
  exception_sound (exception.TryTable a) (exception.TryTable b) h = ap tree.TryTable ((try_tables same_value).sound a b h)
  exception_sound x y h = absurd (true≢false (sym h))

  exception_complete : (x y : ExceptionOperator) → exception_of x ≡ exception_of y → exception_eq.ghosts.eq x y ≡ true
  exception_complete (exception.Try a) (exception.Try b) e = complete block_eq.ghosts.eq (blocks same_value) a b cc
  exception_complete (exception.Catch a) (exception.Catch b) e = complete nat_eq numbers a b cc
  exception_complete (exception.Throw a) (exception.Throw b) e = complete nat_eq numbers a b cc
  exception_complete (exception.Rethrow a) (exception.Rethrow b) e = complete nat_eq numbers a b cc
  exception_complete exception.ThrowRef exception.ThrowRef e = refl
  exception_complete (exception.Delegate a) (exception.Delegate b) e = complete nat_eq numbers a b cc
  exception_complete exception.CatchAll exception.CatchAll e = refl
  exception_complete (exception.TryTable a) (exception.TryTable b) e = (try_tables same_value).complete a b cc
  exception_complete x y e = cc

  pub exceptions : Tells exception_eq.ghosts.eq exception_of
  exceptions = record { sound = exception_sound; complete = exception_complete }

continuation_sound : (x y : ContinuationOperator) → continuation_eq.ghosts.eq x y ≡ true → continuation_of x ≡ continuation_of y
continuation_sound (continuation.ContNew a) (continuation.ContNew b) h = ap tree.ContNew (numbers.sound a b h)
continuation_sound (continuation.ContBind a0 a1) (continuation.ContBind b0 b1) h =
    let e0 = numbers.sound a0 b0 (first (nat_eq a0 b0) (nat_eq a1 b1) h) in
    let e1 = numbers.sound a1 b1 (second (nat_eq a0 b0) (nat_eq a1 b1) h) in
    λ i. tree.ContBind (e0 i) (e1 i)
continuation_sound (continuation.Suspend a) (continuation.Suspend b) h = ap tree.Suspend (numbers.sound a b h)
continuation_sound (continuation.Resume a0 a1) (continuation.Resume b0 b1) h =
    let e0 = numbers.sound a0 b0 (first (nat_eq a0 b0) (resume_eq.ghosts.eq a1 b1) h) in
    let e1 = resume_tables.sound a1 b1 (second (nat_eq a0 b0) (resume_eq.ghosts.eq a1 b1) h) in
    λ i. tree.Resume (e0 i) (e1 i)
continuation_sound (continuation.ResumeThrow a0 a1 a2) (continuation.ResumeThrow b0 b1 b2) h =
    let rest = second (nat_eq a0 b0) (nat_eq a1 b1 && resume_eq.ghosts.eq a2 b2) h in
    let e0 = numbers.sound a0 b0 (first (nat_eq a0 b0) (nat_eq a1 b1 && resume_eq.ghosts.eq a2 b2) h) in
    let e1 = numbers.sound a1 b1 (first (nat_eq a1 b1) (resume_eq.ghosts.eq a2 b2) rest) in
    let e2 = resume_tables.sound a2 b2 (second (nat_eq a1 b1) (resume_eq.ghosts.eq a2 b2) rest) in
    λ i. tree.ResumeThrow (e0 i) (e1 i) (e2 i)
continuation_sound (continuation.ResumeThrowRef a0 a1) (continuation.ResumeThrowRef b0 b1) h =
    let e0 = numbers.sound a0 b0 (first (nat_eq a0 b0) (resume_eq.ghosts.eq a1 b1) h) in
    let e1 = resume_tables.sound a1 b1 (second (nat_eq a0 b0) (resume_eq.ghosts.eq a1 b1) h) in
    λ i. tree.ResumeThrowRef (e0 i) (e1 i)
continuation_sound (continuation.Switch a0 a1) (continuation.Switch b0 b1) h =
    let e0 = numbers.sound a0 b0 (first (nat_eq a0 b0) (nat_eq a1 b1) h) in
    let e1 = numbers.sound a1 b1 (second (nat_eq a0 b0) (nat_eq a1 b1) h) in
    λ i. tree.Switch (e0 i) (e1 i)
continuation_sound x y h = absurd (true≢false (sym h))

same_numbers : (a b : ℕ) → a ≡ b → nat_eq a b ≡ true
same_numbers a b e = complete nat_eq numbers a b e

continuation_complete : (x y : ContinuationOperator) → continuation_of x ≡ continuation_of y → continuation_eq.ghosts.eq x y ≡ true
continuation_complete (continuation.ContNew a) (continuation.ContNew b) e = same_numbers a b cc
continuation_complete (continuation.ContBind a0 a1) (continuation.ContBind b0 b1) e = both _ _ (same_numbers a0 b0 cc) (same_numbers a1 b1 cc)
continuation_complete (continuation.Suspend a) (continuation.Suspend b) e = same_numbers a b cc
continuation_complete (continuation.Resume a0 a1) (continuation.Resume b0 b1) e = both _ _ (same_numbers a0 b0 cc) (resume_tables.complete a1 b1 cc)
continuation_complete (continuation.ResumeThrow a0 a1 a2) (continuation.ResumeThrow b0 b1 b2) e = both _ _ (same_numbers a0 b0 cc)
    (both _ _ (same_numbers a1 b1 cc) (resume_tables.complete a2 b2 cc))
continuation_complete (continuation.ResumeThrowRef a0 a1) (continuation.ResumeThrowRef b0 b1) e = both _ _ (same_numbers a0 b0 cc) (resume_tables.complete a1 b1 cc)
continuation_complete (continuation.Switch a0 a1) (continuation.Switch b0 b1) e = both _ _ (same_numbers a0 b0 cc) (same_numbers a1 b1 cc)
continuation_complete x y e = cc

pub continuations : Tells continuation_eq.ghosts.eq continuation_of
continuations = record { sound = continuation_sound; complete = continuation_complete }
