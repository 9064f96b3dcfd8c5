-- Operators that take nothing from the store: branches, returns, locals, and what is dropped or selected. And those whose numbers come from
-- outside, and constants.
use Rattle.std.proofs.Common.{◌≡◌, ℕ, ◌%◌, ◌^◌, Bool, List, [], ◌∷◌, Option, refl, subst, map, take, length, slice_get}
use Rattle.wasm_types.specs.trees.Types.{number, i32, i64, f32, f64}
use Rattle.wasm_operators_enums.specs.declared.control.ControlOperator.TheVariants as control
use Rattle.wasm_operators_enums.specs.declared.memory.MemoryOperator.TheVariants as memory
use Rattle.wasm_operators_enums.specs.declared.constant.ConstOperator.{ConstOperator}
use Rattle.wasm_operators_enums.specs.declared.constant.ConstOperator.TheVariants as const
use Rattle.wasm_operators_enums.specs.Op as op
use Rattle.wasm_operators_enums.specs.Op.{Op, ParametricTree}
use Rattle.wasm_operators_encoding.specs.expressions.Code.{Code, close, plain, nested, turn}
use Rattle.wasm_operators_immediates.specs.declared.block.BlockType.{BlockType}
use Rattle.wasm_operator_validator_rules.specs.Operands.{ValueType}
use Rattle.wasm_operator_validator_rules.specs.Context.{Signature}
use Rattle.wasm_operator_validator_soundness.specs.runs.Values.{Program, Value, number_value, least_type}
use Rattle.wasm_operator_validator_soundness.specs.runs.States.{Continuation, behind, again, Handlers, no_handlers, table, clauses, Activation, Answer, branch_type, Move, pops}
use Rattle.wasm_operator_validator_soundness.specs.runs.Machine.{branch, branch_if, goes, opens, either_part, select, execute}
use Rattle.wasm_operator_validator_soundness.specs.runs.Soundness.{IsValidProgram}
use Rattle.wasm_operator_validator_store.specs.Stores.{Store, integer_bits, IsWithin}
use Rattle.wasm_operator_validator_store.specs.ValidStores.{Each, Knows}
use Rattle.wasm_operator_validator_store.specs.Giving.{Stays, Outside, GivesParametric, GivesConstant, GivesBlock}
use Rattle.wasm_operator_validator_store.specs.Soundness.{AreValid}
use Rattle.wasm_operator_validator_store.proofs.Lists.{each_map}
use Rattle.wasm_operator_validator_store.proofs.Operating.{CodeNew}
use Rattle.wasm_operator_validator_store.proofs.Answering.{IsDone, found_answer}
use Rattle.wasm_operator_validator_store.proofs.Accessing.{unchanged, values_known, exchanged, fit_as}
use Rattle.wasm_operator_validator_store.proofs.Objects.{pops_any}
use Rattle.wasm_operator_validator_store.proofs.Throwing.{out_any, jump_any}
use Rattle.wasm_operator_validator_store.proofs.Casting.{choose_any, branch_any}

pub number_known : (s : Store) (w : Value) → IsWithin w → Knows s w
number_known s (number_value n b) h = tt
number_known s w h = absurd h

pub numbers_known : (s : Store) (ws : List Value) → Each IsWithin ws → Each (Knows s) ws
numbers_known s ws h = each_map IsWithin (Knows s) ws (number_known s) h

module _ (p : Program) (valid : IsValidProgram p) (results : List ValueType) (act : Activation) (acts : List Activation) (s : Store) (v : AreValid p results (act ∷ acts) s) where
  -- nothing comes, and nothing changes
  pub stays_done : (c : Code) (a : Answer) (u : Store) → (execute p a act acts c).is_answer → CodeNew (Knows s) p a act acts c → Stays p (act ∷ acts) s a u → IsDone p act acts c s a u
  stays_done c a u answer new h = unchanged p valid results act acts s v c a u h.1 answer (values_known p valid results act acts s v s a [] h.0 tt) new

  module _ (more : Code) (a : Answer) (u : Store) where
    abbrev Done : Op → Type 0
    Done o = IsDone p act acts (plain o more) s a u

    abbrev Next : Op → Type 0
    Next o = act.innermost.code ≡ plain o more

    abbrev vs : List Value
    vs = act.innermost.values

    abbrev StaysNow : Type 0
    StaysNow = Stays p (act ∷ acts) s a u

    pub silent : (o : Op) → (execute p a act acts (plain o more)).is_answer → CodeNew (Knows s) p a act acts (plain o more) → StaysNow → Done o
    silent o answer new h = stays_done (plain o more) a u answer new h

    -- numbers come from outside
    pub outside_done : (o : Op) → Next o → CodeNew (Knows s) p a act acts (plain o more) → Outside p (act ∷ acts) s a u → Done o
    outside_done o c new h = unchanged p valid results act acts s v (plain o more) a u h.2 (subst (λ (k : Code). (execute p a act acts k).is_answer) c h.0) (numbers_known s a.values h.1) new

    -- ---- branches

    pub branches_any : (n : ℕ) (ws : List Value) → (branch p a act acts n ws).is_answer
    branches_any n ws = branch_any p valid results act acts s v more a u n ws

    pub branch_if_any : (b : Bool) (n : ℕ) (ws us : List Value) → (branch_if p a act acts b n ws us more).is_answer
    branch_if_any b n ws us = found_answer (slice_get (map branch_type (act.innermost ∷ act.around)) n) _ (λ ts e.
        choose_any b _ (goes p a act acts us more) (jump_any p a n act (act.innermost ∷ act.around) (take (length ts) ws) acts) tt)

    pub popped_any : (ws : List Value) (f : Value → List Value → Move) → ((w : Value) (us : List Value) → (f w us).is_answer) → (pops ws f).is_answer
    popped_any ws f g = pops_any p valid results act acts s v more a u ws f g

    -- ---- variables

    pub select_any : (t : ValueType) → (select p a act acts t more).is_answer
    select_any t = popped_any vs _ (λ c ws. popped_any ws _ (λ w us. popped_any us _ (λ y rest. tt)))

    pub parametric_done : (o : ParametricTree) → GivesParametric p (act ∷ acts) s a u act o → Done (op.Parametric o)
    parametric_done op.Drop h = silent (op.Parametric op.Drop) (popped_any vs _ (λ w ws. tt)) tt h
    parametric_done op.Select h = silent (op.Parametric op.Select) (popped_any vs _ (λ c ws. popped_any ws _ (λ w us. select_any (least_type w)))) tt h.1
    parametric_done (op.TypedSelect t) h = silent (op.Parametric (op.TypedSelect t)) (found_answer {A = ValueType} _ _ (λ (q : ValueType) e. select_any q)) tt h.1
    parametric_done o h = silent (op.Parametric o) tt tt h.1

    pub local_get_done : (x : ℕ) → StaysNow → Done (op.Memory (memory.LocalGet x))
    local_get_done x h = silent (op.Memory (memory.LocalGet x)) (found_answer {A = Option Value} (slice_get act.locals x) _ (λ (o : Option Value) e. found_answer o _ (λ w d. tt))) tt h

    pub local_set_done : (x : ℕ) → StaysNow → Done (op.Memory (memory.LocalSet x))
    local_set_done x h = silent (op.Memory (memory.LocalSet x)) (popped_any vs _ (λ w ws. found_answer {A = ValueType} (slice_get act.types x) _ (λ (t : ValueType) e. tt))) tt h

    pub local_tee_done : (x : ℕ) → StaysNow → Done (op.Memory (memory.LocalTee x))
    local_tee_done x h = silent (op.Memory (memory.LocalTee x)) (popped_any vs _ (λ w ws. found_answer {A = ValueType} (slice_get act.types x) _ (λ (t : ValueType) e. tt))) tt h

    -- ---- constants

    pub constant_done : (o : ConstOperator) → GivesConstant p (act ∷ acts) s a u act o → Done (op.Const o)
    constant_done (const.I32Const n) h = unchanged p valid results act acts s v (plain (op.Const (const.I32Const n)) more) a u h.2
        (exchanged p valid results act acts s v more a u [] (number i32 ∷ []) h.1 (fit_as p valid results act acts s v more a u (number_value i32 (integer_bits 32 n) ∷ []) (number i32 ∷ []) h.0 ((tt, refl), tt)))
        (values_known p valid results act acts s v s a (number_value i32 (integer_bits 32 n) ∷ []) h.0 (tt, tt)) tt
    constant_done (const.I64Const n) h = unchanged p valid results act acts s v (plain (op.Const (const.I64Const n)) more) a u h.2
        (exchanged p valid results act acts s v more a u [] (number i64 ∷ []) h.1 (fit_as p valid results act acts s v more a u (number_value i64 (integer_bits 64 n) ∷ []) (number i64 ∷ []) h.0 ((tt, refl), tt)))
        (values_known p valid results act acts s v s a (number_value i64 (integer_bits 64 n) ∷ []) h.0 (tt, tt)) tt
    constant_done (const.F32Const b) h = unchanged p valid results act acts s v (plain (op.Const (const.F32Const b)) more) a u h.2
        (exchanged p valid results act acts s v more a u [] (number f32 ∷ []) h.1 (fit_as p valid results act acts s v more a u (number_value f32 (b.0 % 2 ^ 32) ∷ []) (number f32 ∷ []) h.0 ((tt, refl), tt)))
        (values_known p valid results act acts s v s a (number_value f32 (b.0 % 2 ^ 32) ∷ []) h.0 (tt, tt)) tt
    constant_done (const.F64Const b) h = unchanged p valid results act acts s v (plain (op.Const (const.F64Const b)) more) a u h.2
        (exchanged p valid results act acts s v more a u [] (number f64 ∷ []) h.1 (fit_as p valid results act acts s v more a u (number_value f64 (b.0 % 2 ^ 64) ∷ []) (number f64 ∷ []) h.0 ((tt, refl), tt)))
        (values_known p valid results act acts s v s a (number_value f64 (b.0 % 2 ^ 64) ∷ []) h.0 (tt, tt)) tt

  -- ---- blocks and ends

  module _ (a : Answer) (u : Store) where
    opens_any : (bt : BlockType) (k : Continuation) (hs : Handlers) (body : Code) (ws : List Value) (more : Code) → (opens p a act acts bt k hs body ws more).is_answer
    opens_any bt k hs body ws more = found_answer {A = Signature} _ _ (λ (b : Signature) e. tt)

    pops_block : (ws : List Value) (f : Value → List Value → Move) → ((w : Value) (us : List Value) → (f w us).is_answer) → (pops ws f).is_answer
    pops_block ws f g = pops_any p valid results act acts s v (close (op.Control control.End)) a u ws f g

    pub block_done : (o : Op) (body more : Code) → GivesBlock p (act ∷ acts) s a u act o → IsDone p act acts (nested o body more) s a u
    block_done (op.Control (control.Block bt)) body more h = stays_done (nested (op.Control (control.Block bt)) body more) a u (opens_any bt behind no_handlers body act.innermost.values more) tt h
    block_done (op.Control (control.Loop bt)) body more h = stays_done (nested (op.Control (control.Loop bt)) body more) a u (opens_any bt (again body) no_handlers body act.innermost.values more) tt h
    block_done (op.Control (control.If bt)) body more h = stays_done (nested (op.Control (control.If bt)) body more) a u (pops_block act.innermost.values _ (λ c ws. opens_any bt behind no_handlers (either_part a.condition body) ws more)) tt h.1
    block_done (op.Exception (op.Try bt)) body more h = stays_done (nested (op.Exception (op.Try bt)) body more) a u (opens_any bt behind (clauses body) body act.innermost.values more) tt h
    block_done (op.Exception (op.TryTable t)) body more h = stays_done (nested (op.Exception (op.TryTable t)) body more) a u (opens_any t.ty behind (table t.catches) body act.innermost.values more) tt h
    block_done o body more h = stays_done (nested o body more) a u tt tt h

    ends : (execute p a act acts (turn (op.Control control.Else) (close (op.Control control.End)))).is_answer
    ends = out_any p a act act.around act.innermost.values acts

    pub close_done : (o : Op) → Stays p (act ∷ acts) s a u → IsDone p act acts (close o) s a u
    close_done (op.Exception (op.Delegate n)) h = stays_done (close (op.Exception (op.Delegate n))) a u (found_answer {A = List ValueType} _ _ (λ (ts : List ValueType) e. ends)) tt h
    close_done o h = stays_done (close o) a u ends tt h

    pub turn_done : (o : Op) (more : Code) → Stays p (act ∷ acts) s a u → IsDone p act acts (turn o more) s a u
    turn_done o more h = stays_done (turn o more) a u ends tt h
