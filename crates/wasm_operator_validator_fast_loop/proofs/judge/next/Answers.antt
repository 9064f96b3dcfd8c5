-- Each step begins at a code of its class, and what holds of its end holds of the offset that is settled on.
use Rattle.wasm_operator_validator_fast_steps.specs.declared.shape.Class.TheVariants as class
use Rattle.wasm_operator_validator_fast_tables.specs.Loop.{all}
use Rattle.wasm_operator_validator_fast_loop.proofs.Classes.{at_class}
use Rattle.wasm_operator_validator_fast_loop.proofs.Settling.{settled_leads, settled_forward, settled_inside}
use Rattle.wasm_operator_validator_fast_loop.proofs.judge.next.Goals as goal

pub unreachable-requires : goal.unreachable-requires
unreachable-requires c =
    at_class c.args.bytes.now c.args.at 0x00 class.Unreachable c.class_of.result c.requires.more c.class_of.ensures c.in-Unreachable.is (λ code e. e)

pub nop-requires : goal.nop-requires
nop-requires c = at_class c.args.bytes.now c.args.at 0x01 class.Nop c.class_of.result c.requires.more c.class_of.ensures c.in-Nop.is (λ code e. e)

pub block-requires : goal.block-requires
block-requires c =
    record {
      begins = at_class c.args.bytes.now c.args.at 0x02 class.Block c.class_of.result c.requires.more c.class_of.ensures c.in-Block.is (λ code e. e);
      more = c.requires.more;
    }

pub begin_loop-requires : goal.begin_loop-requires
begin_loop-requires c =
    record {
      begins = at_class c.args.bytes.now c.args.at 0x03 class.Loop c.class_of.result c.requires.more c.class_of.ensures c.in-Loop.is (λ code e. e);
      more = c.requires.more;
    }

pub begin_if-requires : goal.begin_if-requires
begin_if-requires c =
    record {
      begins = at_class c.args.bytes.now c.args.at 0x04 class.If c.class_of.result c.requires.more c.class_of.ensures c.in-If.is (λ code e. e);
      more = c.requires.more;
    }

pub turn-requires : goal.turn-requires
turn-requires c = at_class c.args.bytes.now c.args.at 0x05 class.Else c.class_of.result c.requires.more c.class_of.ensures c.in-Else.is (λ code e. e)

pub end-requires : goal.end-requires
end-requires c = at_class c.args.bytes.now c.args.at 0x0b class.End c.class_of.result c.requires.more c.class_of.ensures c.in-End.is (λ code e. e)

pub br-requires : goal.br-requires
br-requires c =
    record {
      begins = at_class c.args.bytes.now c.args.at 0x0c class.Br c.class_of.result c.requires.more c.class_of.ensures c.in-Br.is (λ code e. e);
      more = c.requires.more;
    }

pub br_if-requires : goal.br_if-requires
br_if-requires c =
    record {
      begins = at_class c.args.bytes.now c.args.at 0x0d class.BrIf c.class_of.result c.requires.more c.class_of.ensures c.in-BrIf.is (λ code e. e);
      more = c.requires.more;
    }

pub br_table-requires : goal.br_table-requires
br_table-requires c =
    record {
      begins = at_class c.args.bytes.now c.args.at 0x0e class.BrTable c.class_of.result c.requires.more c.class_of.ensures c.in-BrTable.is (λ code e. e);
      more = c.requires.more;
    }

pub return_all-requires : goal.return_all-requires
return_all-requires c = at_class c.args.bytes.now c.args.at 0x0f class.Return c.class_of.result c.requires.more c.class_of.ensures c.in-Return.is (λ code e. e)

pub call-requires : goal.call-requires
call-requires c = at_class c.args.bytes.now c.args.at 0x10 class.Call c.class_of.result c.requires.more c.class_of.ensures c.in-Call.is (λ code e. e)

pub call_indirect-requires : goal.call_indirect-requires
call_indirect-requires c =
    at_class c.args.bytes.now c.args.at 0x11 class.CallIndirect c.class_of.result c.requires.more c.class_of.ensures c.in-CallIndirect.is (λ code e. e)

pub return_call-requires : goal.return_call-requires
return_call-requires c =
    at_class c.args.bytes.now c.args.at 0x12 class.ReturnCall c.class_of.result c.requires.more c.class_of.ensures c.in-ReturnCall.is (λ code e. e)

pub return_call_indirect-requires : goal.return_call_indirect-requires
return_call_indirect-requires c =
    at_class c.args.bytes.now c.args.at 0x13 class.ReturnCallIndirect
    c.class_of.result c.requires.more c.class_of.ensures c.in-ReturnCallIndirect.is (λ code e. e)

pub drop_top-requires : goal.drop_top-requires
drop_top-requires c = at_class c.args.bytes.now c.args.at 0x1a class.Drop c.class_of.result c.requires.more c.class_of.ensures c.in-Drop.is (λ code e. e)

pub select-requires : goal.select-requires
select-requires c = at_class c.args.bytes.now c.args.at 0x1b class.Select c.class_of.result c.requires.more c.class_of.ensures c.in-Select.is (λ code e. e)

pub local_get-requires : goal.local_get-requires
local_get-requires c =
    record {
      begins = at_class c.args.bytes.now c.args.at 0x20 class.LocalGet c.class_of.result c.requires.more c.class_of.ensures c.in-LocalGet.is (λ code e. e);
      local = c.in-Some.ensures;
    }

pub local_set-requires : goal.local_set-requires
local_set-requires c =
    record {
      begins = at_class c.args.bytes.now c.args.at 0x21 class.LocalSet c.class_of.result c.requires.more c.class_of.ensures c.in-LocalSet.is (λ code e. e);
      local = c.in-Some-local_at.ensures;
    }

pub local_tee-requires : goal.local_tee-requires
local_tee-requires c =
    record {
      begins = at_class c.args.bytes.now c.args.at 0x22 class.LocalTee c.class_of.result c.requires.more c.class_of.ensures c.in-LocalTee.is (λ code e. e);
      local = c.in-Some-local_at-2.ensures;
    }

pub global_get-requires : goal.global_get-requires
global_get-requires c =
    at_class c.args.bytes.now c.args.at 0x23 class.GlobalGet c.class_of.result c.requires.more c.class_of.ensures c.in-GlobalGet.is (λ code e. e)

pub global_set-requires : goal.global_set-requires
global_set-requires c =
    at_class c.args.bytes.now c.args.at 0x24 class.GlobalSet c.class_of.result c.requires.more c.class_of.ensures c.in-GlobalSet.is (λ code e. e)

pub memory_size-requires : goal.memory_size-requires
memory_size-requires c =
    at_class c.args.bytes.now c.args.at 0x3f class.MemorySize c.class_of.result c.requires.more c.class_of.ensures c.in-MemorySize.is (λ code e. e)

pub memory_grow-requires : goal.memory_grow-requires
memory_grow-requires c =
    at_class c.args.bytes.now c.args.at 0x40 class.MemoryGrow c.class_of.result c.requires.more c.class_of.ensures c.in-MemoryGrow.is (λ code e. e)

pub i32_const-requires : goal.i32_const-requires
i32_const-requires c =
    record {
      begins = at_class c.args.bytes.now c.args.at 0x41 class.I32Const c.class_of.result c.requires.more c.class_of.ensures c.in-I32Const.is (λ code e. e);
      more = c.requires.more;
    }

pub i64_const-requires : goal.i64_const-requires
i64_const-requires c =
    record {
      begins = at_class c.args.bytes.now c.args.at 0x42 class.I64Const c.class_of.result c.requires.more c.class_of.ensures c.in-I64Const.is (λ code e. e);
      more = c.requires.more;
    }

pub f32_const-requires : goal.f32_const-requires
f32_const-requires c =
    at_class c.args.bytes.now c.args.at 0x43 class.F32Const c.class_of.result c.requires.more c.class_of.ensures c.in-F32Const.is (λ code e. e)

pub f64_const-requires : goal.f64_const-requires
f64_const-requires c =
    at_class c.args.bytes.now c.args.at 0x44 class.F64Const c.class_of.result c.requires.more c.class_of.ensures c.in-F64Const.is (λ code e. e)

pub prefixed-requires : goal.prefixed-requires
prefixed-requires c =
    at_class c.args.bytes.now c.args.at 0xfc class.Prefixed c.class_of.result c.requires.more c.class_of.ensures c.in-Prefixed.is (λ code e. e)

pub load-requires-in-LoadI32 : goal.load-requires-in-LoadI32
load-requires-in-LoadI32 c =
    at_class c.args.bytes.now c.args.at 0x28 class.LoadI32 c.class_of.result c.requires.more c.class_of.ensures c.in-LoadI32.is (λ code e. e)

pub load-requires-in-LoadI64 : goal.load-requires-in-LoadI64
load-requires-in-LoadI64 c =
    at_class c.args.bytes.now c.args.at 0x29 class.LoadI64 c.class_of.result c.requires.more c.class_of.ensures c.in-LoadI64.is (λ code e. e)

pub load-requires-in-LoadByte : goal.load-requires-in-LoadByte
load-requires-in-LoadByte c =
    at_class c.args.bytes.now c.args.at 0x2d class.LoadByte c.class_of.result c.requires.more c.class_of.ensures c.in-LoadByte.is (λ code e. e)

pub store-requires-in-StoreI32 : goal.store-requires-in-StoreI32
store-requires-in-StoreI32 c =
    at_class c.args.bytes.now c.args.at 0x36 class.StoreI32 c.class_of.result c.requires.more c.class_of.ensures c.in-StoreI32.is (λ code e. e)

pub store-requires-in-StoreI64 : goal.store-requires-in-StoreI64
store-requires-in-StoreI64 c =
    at_class c.args.bytes.now c.args.at 0x37 class.StoreI64 c.class_of.result c.requires.more c.class_of.ensures c.in-StoreI64.is (λ code e. e)

pub near_object-requires-clause-begins : goal.near_object-requires-clause-begins
near_object-requires-clause-begins c =
    at_class c.args.bytes.now c.args.at 0xfb class.Object c.class_of.result c.requires.more c.class_of.ensures c.in-Object.is (λ code e. e)

pub returns-in-Unreachable-clause-leads : goal.returns-in-Unreachable-clause-leads
returns-in-Unreachable-clause-leads c = settled_leads _ _ _ (all c.args.opens.now) c.args.stack.now _ _ _ _ _ c.settled.ensures c.unreachable.ensures.leads

pub returns-in-Unreachable-clause-forward : goal.returns-in-Unreachable-clause-forward
returns-in-Unreachable-clause-forward c = settled_forward _ _ _ _ _ _ c.settled.ensures c.requires.more c.unreachable.ensures.forward

pub returns-in-Unreachable-clause-inside : goal.returns-in-Unreachable-clause-inside
returns-in-Unreachable-clause-inside c = settled_inside _ _ _ _ _ c.settled.ensures c.unreachable.ensures.inside

pub returns-in-Nop-clause-leads : goal.returns-in-Nop-clause-leads
returns-in-Nop-clause-leads c = settled_leads _ _ _ (all c.args.opens.now) c.args.stack.now _ _ _ _ _ c.settled-in-Nop.ensures c.nop.ensures.leads

pub returns-in-Nop-clause-forward : goal.returns-in-Nop-clause-forward
returns-in-Nop-clause-forward c = settled_forward _ _ _ _ _ _ c.settled-in-Nop.ensures c.requires.more c.nop.ensures.forward

pub returns-in-Nop-clause-inside : goal.returns-in-Nop-clause-inside
returns-in-Nop-clause-inside c = settled_inside _ _ _ _ _ c.settled-in-Nop.ensures c.nop.ensures.inside

pub returns-in-Block-clause-leads : goal.returns-in-Block-clause-leads
returns-in-Block-clause-leads c = settled_leads _ _ _ (all c.args.opens.now) c.args.stack.now _ _ _ _ _ c.settled-in-Block.ensures c.block.ensures.leads

pub returns-in-Block-clause-forward : goal.returns-in-Block-clause-forward
returns-in-Block-clause-forward c = settled_forward _ _ _ _ _ _ c.settled-in-Block.ensures c.requires.more c.block.ensures.forward

pub returns-in-Block-clause-inside : goal.returns-in-Block-clause-inside
returns-in-Block-clause-inside c = settled_inside _ _ _ _ _ c.settled-in-Block.ensures c.block.ensures.inside

pub returns-in-Loop-clause-leads : goal.returns-in-Loop-clause-leads
returns-in-Loop-clause-leads c = settled_leads _ _ _ (all c.args.opens.now) c.args.stack.now _ _ _ _ _ c.settled-in-Loop.ensures c.begin_loop.ensures.leads

pub returns-in-Loop-clause-forward : goal.returns-in-Loop-clause-forward
returns-in-Loop-clause-forward c = settled_forward _ _ _ _ _ _ c.settled-in-Loop.ensures c.requires.more c.begin_loop.ensures.forward

pub returns-in-Loop-clause-inside : goal.returns-in-Loop-clause-inside
returns-in-Loop-clause-inside c = settled_inside _ _ _ _ _ c.settled-in-Loop.ensures c.begin_loop.ensures.inside

pub returns-in-If-clause-leads : goal.returns-in-If-clause-leads
returns-in-If-clause-leads c = settled_leads _ _ _ (all c.args.opens.now) c.args.stack.now _ _ _ _ _ c.settled-in-If.ensures c.begin_if.ensures.leads

pub returns-in-If-clause-forward : goal.returns-in-If-clause-forward
returns-in-If-clause-forward c = settled_forward _ _ _ _ _ _ c.settled-in-If.ensures c.requires.more c.begin_if.ensures.forward

pub returns-in-If-clause-inside : goal.returns-in-If-clause-inside
returns-in-If-clause-inside c = settled_inside _ _ _ _ _ c.settled-in-If.ensures c.begin_if.ensures.inside

pub returns-in-Else-clause-leads : goal.returns-in-Else-clause-leads
returns-in-Else-clause-leads c = settled_leads _ _ _ (all c.args.opens.now) c.args.stack.now _ _ _ _ _ c.settled-in-Else.ensures c.turn.ensures.leads

pub returns-in-Else-clause-forward : goal.returns-in-Else-clause-forward
returns-in-Else-clause-forward c = settled_forward _ _ _ _ _ _ c.settled-in-Else.ensures c.requires.more c.turn.ensures.forward

pub returns-in-Else-clause-inside : goal.returns-in-Else-clause-inside
returns-in-Else-clause-inside c = settled_inside _ _ _ _ _ c.settled-in-Else.ensures c.turn.ensures.inside

pub returns-in-End-clause-leads : goal.returns-in-End-clause-leads
returns-in-End-clause-leads c = settled_leads _ _ _ (all c.args.opens.now) c.args.stack.now _ _ _ _ _ c.settled-in-End.ensures c.end.ensures.leads

pub returns-in-End-clause-forward : goal.returns-in-End-clause-forward
returns-in-End-clause-forward c = settled_forward _ _ _ _ _ _ c.settled-in-End.ensures c.requires.more c.end.ensures.forward

pub returns-in-End-clause-inside : goal.returns-in-End-clause-inside
returns-in-End-clause-inside c = settled_inside _ _ _ _ _ c.settled-in-End.ensures c.end.ensures.inside

pub returns-in-Br-clause-leads : goal.returns-in-Br-clause-leads
returns-in-Br-clause-leads c = settled_leads _ _ _ (all c.args.opens.now) c.args.stack.now _ _ _ _ _ c.settled-in-Br.ensures c.br.ensures.leads

pub returns-in-Br-clause-forward : goal.returns-in-Br-clause-forward
returns-in-Br-clause-forward c = settled_forward _ _ _ _ _ _ c.settled-in-Br.ensures c.requires.more c.br.ensures.forward

pub returns-in-Br-clause-inside : goal.returns-in-Br-clause-inside
returns-in-Br-clause-inside c = settled_inside _ _ _ _ _ c.settled-in-Br.ensures c.br.ensures.inside

pub returns-in-BrIf-clause-leads : goal.returns-in-BrIf-clause-leads
returns-in-BrIf-clause-leads c = settled_leads _ _ _ (all c.args.opens.now) c.args.stack.now _ _ _ _ _ c.settled-in-BrIf.ensures c.br_if.ensures.leads

pub returns-in-BrIf-clause-forward : goal.returns-in-BrIf-clause-forward
returns-in-BrIf-clause-forward c = settled_forward _ _ _ _ _ _ c.settled-in-BrIf.ensures c.requires.more c.br_if.ensures.forward

pub returns-in-BrIf-clause-inside : goal.returns-in-BrIf-clause-inside
returns-in-BrIf-clause-inside c = settled_inside _ _ _ _ _ c.settled-in-BrIf.ensures c.br_if.ensures.inside

pub returns-in-BrTable-clause-leads : goal.returns-in-BrTable-clause-leads
returns-in-BrTable-clause-leads c = settled_leads _ _ _ (all c.args.opens.now) c.args.stack.now _ _ _ _ _ c.settled-in-BrTable.ensures c.br_table.ensures.leads

pub returns-in-BrTable-clause-forward : goal.returns-in-BrTable-clause-forward
returns-in-BrTable-clause-forward c = settled_forward _ _ _ _ _ _ c.settled-in-BrTable.ensures c.requires.more c.br_table.ensures.forward

pub returns-in-BrTable-clause-inside : goal.returns-in-BrTable-clause-inside
returns-in-BrTable-clause-inside c = settled_inside _ _ _ _ _ c.settled-in-BrTable.ensures c.br_table.ensures.inside

pub returns-in-Return-clause-leads : goal.returns-in-Return-clause-leads
returns-in-Return-clause-leads c = settled_leads _ _ _ (all c.args.opens.now) c.args.stack.now _ _ _ _ _ c.settled-in-Return.ensures c.return_all.ensures.leads

pub returns-in-Return-clause-forward : goal.returns-in-Return-clause-forward
returns-in-Return-clause-forward c = settled_forward _ _ _ _ _ _ c.settled-in-Return.ensures c.requires.more c.return_all.ensures.forward

pub returns-in-Return-clause-inside : goal.returns-in-Return-clause-inside
returns-in-Return-clause-inside c = settled_inside _ _ _ _ _ c.settled-in-Return.ensures c.return_all.ensures.inside

pub returns-in-Call-clause-leads : goal.returns-in-Call-clause-leads
returns-in-Call-clause-leads c = settled_leads _ _ _ (all c.args.opens.now) c.args.stack.now _ _ _ _ _ c.settled-in-Call.ensures c.call.ensures.leads

pub returns-in-Call-clause-forward : goal.returns-in-Call-clause-forward
returns-in-Call-clause-forward c = settled_forward _ _ _ _ _ _ c.settled-in-Call.ensures c.requires.more c.call.ensures.forward

pub returns-in-Call-clause-inside : goal.returns-in-Call-clause-inside
returns-in-Call-clause-inside c = settled_inside _ _ _ _ _ c.settled-in-Call.ensures c.call.ensures.inside

pub returns-in-CallIndirect-clause-leads : goal.returns-in-CallIndirect-clause-leads
returns-in-CallIndirect-clause-leads c =
    settled_leads _ _ _ (all c.args.opens.now) c.args.stack.now _ _ _ _ _ c.settled-in-CallIndirect.ensures c.call_indirect.ensures.leads

pub returns-in-CallIndirect-clause-forward : goal.returns-in-CallIndirect-clause-forward
returns-in-CallIndirect-clause-forward c = settled_forward _ _ _ _ _ _ c.settled-in-CallIndirect.ensures c.requires.more c.call_indirect.ensures.forward

pub returns-in-CallIndirect-clause-inside : goal.returns-in-CallIndirect-clause-inside
returns-in-CallIndirect-clause-inside c = settled_inside _ _ _ _ _ c.settled-in-CallIndirect.ensures c.call_indirect.ensures.inside

pub returns-in-ReturnCall-clause-leads : goal.returns-in-ReturnCall-clause-leads
returns-in-ReturnCall-clause-leads c =
    settled_leads _ _ _ (all c.args.opens.now) c.args.stack.now _ _ _ _ _ c.settled-in-ReturnCall.ensures c.return_call.ensures.leads

pub returns-in-ReturnCall-clause-forward : goal.returns-in-ReturnCall-clause-forward
returns-in-ReturnCall-clause-forward c = settled_forward _ _ _ _ _ _ c.settled-in-ReturnCall.ensures c.requires.more c.return_call.ensures.forward

pub returns-in-ReturnCall-clause-inside : goal.returns-in-ReturnCall-clause-inside
returns-in-ReturnCall-clause-inside c = settled_inside _ _ _ _ _ c.settled-in-ReturnCall.ensures c.return_call.ensures.inside

pub returns-in-ReturnCallIndirect-clause-leads : goal.returns-in-ReturnCallIndirect-clause-leads
returns-in-ReturnCallIndirect-clause-leads c =
    settled_leads _ _ _ (all c.args.opens.now) c.args.stack.now _ _ _ _ _ c.settled-in-ReturnCallIndirect.ensures c.return_call_indirect.ensures.leads

pub returns-in-ReturnCallIndirect-clause-forward : goal.returns-in-ReturnCallIndirect-clause-forward
returns-in-ReturnCallIndirect-clause-forward c =
    settled_forward _ _ _ _ _ _ c.settled-in-ReturnCallIndirect.ensures c.requires.more c.return_call_indirect.ensures.forward

pub returns-in-ReturnCallIndirect-clause-inside : goal.returns-in-ReturnCallIndirect-clause-inside
returns-in-ReturnCallIndirect-clause-inside c = settled_inside _ _ _ _ _ c.settled-in-ReturnCallIndirect.ensures c.return_call_indirect.ensures.inside

pub returns-in-Drop-clause-leads : goal.returns-in-Drop-clause-leads
returns-in-Drop-clause-leads c = settled_leads _ _ _ (all c.args.opens.now) c.args.stack.now _ _ _ _ _ c.settled-in-Drop.ensures c.drop_top.ensures.leads

pub returns-in-Drop-clause-forward : goal.returns-in-Drop-clause-forward
returns-in-Drop-clause-forward c = settled_forward _ _ _ _ _ _ c.settled-in-Drop.ensures c.requires.more c.drop_top.ensures.forward

pub returns-in-Drop-clause-inside : goal.returns-in-Drop-clause-inside
returns-in-Drop-clause-inside c = settled_inside _ _ _ _ _ c.settled-in-Drop.ensures c.drop_top.ensures.inside

pub returns-in-Select-clause-leads : goal.returns-in-Select-clause-leads
returns-in-Select-clause-leads c = settled_leads _ _ _ (all c.args.opens.now) c.args.stack.now _ _ _ _ _ c.settled-in-Select.ensures c.select.ensures.leads

pub returns-in-Select-clause-forward : goal.returns-in-Select-clause-forward
returns-in-Select-clause-forward c = settled_forward _ _ _ _ _ _ c.settled-in-Select.ensures c.requires.more c.select.ensures.forward

pub returns-in-Select-clause-inside : goal.returns-in-Select-clause-inside
returns-in-Select-clause-inside c = settled_inside _ _ _ _ _ c.settled-in-Select.ensures c.select.ensures.inside

pub returns-in-Some-clause-leads : goal.returns-in-Some-clause-leads
returns-in-Some-clause-leads c = settled_leads _ _ _ (all c.args.opens.now) c.args.stack.now _ _ _ _ _ c.settled-in-Some.ensures c.local_get.ensures.leads

pub returns-in-Some-clause-forward : goal.returns-in-Some-clause-forward
returns-in-Some-clause-forward c = settled_forward _ _ _ _ _ _ c.settled-in-Some.ensures c.requires.more c.local_get.ensures.forward

pub returns-in-Some-clause-inside : goal.returns-in-Some-clause-inside
returns-in-Some-clause-inside c = settled_inside _ _ _ _ _ c.settled-in-Some.ensures c.local_get.ensures.inside

pub returns-in-None-clause-leads : goal.returns-in-None-clause-leads
returns-in-None-clause-leads c = settled_leads _ _ _ (all c.args.opens.now) c.args.stack.now _ _ _ _ _ c.settled-in-None.ensures c.away.ensures.leads

pub returns-in-None-clause-forward : goal.returns-in-None-clause-forward
returns-in-None-clause-forward c = settled_forward _ _ _ _ _ _ c.settled-in-None.ensures c.requires.more c.away.ensures.forward

pub returns-in-None-clause-inside : goal.returns-in-None-clause-inside
returns-in-None-clause-inside c = settled_inside _ _ _ _ _ c.settled-in-None.ensures c.away.ensures.inside

pub returns-in-Some-local_at-clause-leads : goal.returns-in-Some-local_at-clause-leads
returns-in-Some-local_at-clause-leads c =
    settled_leads _ _ _ (all c.args.opens.now) c.args.stack.now _ _ _ _ _ c.settled-in-Some-local_at.ensures c.local_set.ensures.leads

pub returns-in-Some-local_at-clause-forward : goal.returns-in-Some-local_at-clause-forward
returns-in-Some-local_at-clause-forward c = settled_forward _ _ _ _ _ _ c.settled-in-Some-local_at.ensures c.requires.more c.local_set.ensures.forward

pub returns-in-Some-local_at-clause-inside : goal.returns-in-Some-local_at-clause-inside
returns-in-Some-local_at-clause-inside c = settled_inside _ _ _ _ _ c.settled-in-Some-local_at.ensures c.local_set.ensures.inside

pub returns-in-None-local_at-clause-leads : goal.returns-in-None-local_at-clause-leads
returns-in-None-local_at-clause-leads c =
    settled_leads _ _ _ (all c.args.opens.now) c.args.stack.now _ _ _ _ _ c.settled-in-None-local_at.ensures c.away-in-None-local_at.ensures.leads

pub returns-in-None-local_at-clause-forward : goal.returns-in-None-local_at-clause-forward
returns-in-None-local_at-clause-forward c =
    settled_forward _ _ _ _ _ _ c.settled-in-None-local_at.ensures c.requires.more c.away-in-None-local_at.ensures.forward

pub returns-in-None-local_at-clause-inside : goal.returns-in-None-local_at-clause-inside
returns-in-None-local_at-clause-inside c = settled_inside _ _ _ _ _ c.settled-in-None-local_at.ensures c.away-in-None-local_at.ensures.inside

pub returns-in-Some-local_at-2-clause-leads : goal.returns-in-Some-local_at-2-clause-leads
returns-in-Some-local_at-2-clause-leads c =
    settled_leads _ _ _ (all c.args.opens.now) c.args.stack.now _ _ _ _ _ c.settled-in-Some-local_at-2.ensures c.local_tee.ensures.leads

pub returns-in-Some-local_at-2-clause-forward : goal.returns-in-Some-local_at-2-clause-forward
returns-in-Some-local_at-2-clause-forward c = settled_forward _ _ _ _ _ _ c.settled-in-Some-local_at-2.ensures c.requires.more c.local_tee.ensures.forward

pub returns-in-Some-local_at-2-clause-inside : goal.returns-in-Some-local_at-2-clause-inside
returns-in-Some-local_at-2-clause-inside c = settled_inside _ _ _ _ _ c.settled-in-Some-local_at-2.ensures c.local_tee.ensures.inside

pub returns-in-None-local_at-2-clause-leads : goal.returns-in-None-local_at-2-clause-leads
returns-in-None-local_at-2-clause-leads c =
    settled_leads _ _ _ (all c.args.opens.now) c.args.stack.now _ _ _ _ _ c.settled-in-None-local_at-2.ensures c.away-in-None-local_at-2.ensures.leads

pub returns-in-None-local_at-2-clause-forward : goal.returns-in-None-local_at-2-clause-forward
returns-in-None-local_at-2-clause-forward c =
    settled_forward _ _ _ _ _ _ c.settled-in-None-local_at-2.ensures c.requires.more c.away-in-None-local_at-2.ensures.forward

pub returns-in-None-local_at-2-clause-inside : goal.returns-in-None-local_at-2-clause-inside
returns-in-None-local_at-2-clause-inside c = settled_inside _ _ _ _ _ c.settled-in-None-local_at-2.ensures c.away-in-None-local_at-2.ensures.inside

pub returns-in-GlobalGet-clause-leads : goal.returns-in-GlobalGet-clause-leads
returns-in-GlobalGet-clause-leads c =
    settled_leads _ _ _ (all c.args.opens.now) c.args.stack.now _ _ _ _ _ c.settled-in-GlobalGet.ensures c.global_get.ensures.leads

pub returns-in-GlobalGet-clause-forward : goal.returns-in-GlobalGet-clause-forward
returns-in-GlobalGet-clause-forward c = settled_forward _ _ _ _ _ _ c.settled-in-GlobalGet.ensures c.requires.more c.global_get.ensures.forward

pub returns-in-GlobalGet-clause-inside : goal.returns-in-GlobalGet-clause-inside
returns-in-GlobalGet-clause-inside c = settled_inside _ _ _ _ _ c.settled-in-GlobalGet.ensures c.global_get.ensures.inside

pub returns-in-GlobalSet-clause-leads : goal.returns-in-GlobalSet-clause-leads
returns-in-GlobalSet-clause-leads c =
    settled_leads _ _ _ (all c.args.opens.now) c.args.stack.now _ _ _ _ _ c.settled-in-GlobalSet.ensures c.global_set.ensures.leads

pub returns-in-GlobalSet-clause-forward : goal.returns-in-GlobalSet-clause-forward
returns-in-GlobalSet-clause-forward c = settled_forward _ _ _ _ _ _ c.settled-in-GlobalSet.ensures c.requires.more c.global_set.ensures.forward

pub returns-in-GlobalSet-clause-inside : goal.returns-in-GlobalSet-clause-inside
returns-in-GlobalSet-clause-inside c = settled_inside _ _ _ _ _ c.settled-in-GlobalSet.ensures c.global_set.ensures.inside

pub returns-in-MemorySize-clause-leads : goal.returns-in-MemorySize-clause-leads
returns-in-MemorySize-clause-leads c =
    settled_leads _ _ _ (all c.args.opens.now) c.args.stack.now _ _ _ _ _ c.settled-in-MemorySize.ensures c.memory_size.ensures.leads

pub returns-in-MemorySize-clause-forward : goal.returns-in-MemorySize-clause-forward
returns-in-MemorySize-clause-forward c = settled_forward _ _ _ _ _ _ c.settled-in-MemorySize.ensures c.requires.more c.memory_size.ensures.forward

pub returns-in-MemorySize-clause-inside : goal.returns-in-MemorySize-clause-inside
returns-in-MemorySize-clause-inside c = settled_inside _ _ _ _ _ c.settled-in-MemorySize.ensures c.memory_size.ensures.inside

pub returns-in-MemoryGrow-clause-leads : goal.returns-in-MemoryGrow-clause-leads
returns-in-MemoryGrow-clause-leads c =
    settled_leads _ _ _ (all c.args.opens.now) c.args.stack.now _ _ _ _ _ c.settled-in-MemoryGrow.ensures c.memory_grow.ensures.leads

pub returns-in-MemoryGrow-clause-forward : goal.returns-in-MemoryGrow-clause-forward
returns-in-MemoryGrow-clause-forward c = settled_forward _ _ _ _ _ _ c.settled-in-MemoryGrow.ensures c.requires.more c.memory_grow.ensures.forward

pub returns-in-MemoryGrow-clause-inside : goal.returns-in-MemoryGrow-clause-inside
returns-in-MemoryGrow-clause-inside c = settled_inside _ _ _ _ _ c.settled-in-MemoryGrow.ensures c.memory_grow.ensures.inside

pub returns-in-I32Const-clause-leads : goal.returns-in-I32Const-clause-leads
returns-in-I32Const-clause-leads c =
    settled_leads _ _ _ (all c.args.opens.now) c.args.stack.now _ _ _ _ _ c.settled-in-I32Const.ensures c.i32_const.ensures.leads

pub returns-in-I32Const-clause-forward : goal.returns-in-I32Const-clause-forward
returns-in-I32Const-clause-forward c = settled_forward _ _ _ _ _ _ c.settled-in-I32Const.ensures c.requires.more c.i32_const.ensures.forward

pub returns-in-I32Const-clause-inside : goal.returns-in-I32Const-clause-inside
returns-in-I32Const-clause-inside c = settled_inside _ _ _ _ _ c.settled-in-I32Const.ensures c.i32_const.ensures.inside

pub returns-in-I64Const-clause-leads : goal.returns-in-I64Const-clause-leads
returns-in-I64Const-clause-leads c =
    settled_leads _ _ _ (all c.args.opens.now) c.args.stack.now _ _ _ _ _ c.settled-in-I64Const.ensures c.i64_const.ensures.leads

pub returns-in-I64Const-clause-forward : goal.returns-in-I64Const-clause-forward
returns-in-I64Const-clause-forward c = settled_forward _ _ _ _ _ _ c.settled-in-I64Const.ensures c.requires.more c.i64_const.ensures.forward

pub returns-in-I64Const-clause-inside : goal.returns-in-I64Const-clause-inside
returns-in-I64Const-clause-inside c = settled_inside _ _ _ _ _ c.settled-in-I64Const.ensures c.i64_const.ensures.inside

pub returns-in-F32Const-clause-leads : goal.returns-in-F32Const-clause-leads
returns-in-F32Const-clause-leads c =
    settled_leads _ _ _ (all c.args.opens.now) c.args.stack.now _ _ _ _ _ c.settled-in-F32Const.ensures c.f32_const.ensures.leads

pub returns-in-F32Const-clause-forward : goal.returns-in-F32Const-clause-forward
returns-in-F32Const-clause-forward c = settled_forward _ _ _ _ _ _ c.settled-in-F32Const.ensures c.requires.more c.f32_const.ensures.forward

pub returns-in-F32Const-clause-inside : goal.returns-in-F32Const-clause-inside
returns-in-F32Const-clause-inside c = settled_inside _ _ _ _ _ c.settled-in-F32Const.ensures c.f32_const.ensures.inside

pub returns-in-F64Const-clause-leads : goal.returns-in-F64Const-clause-leads
returns-in-F64Const-clause-leads c =
    settled_leads _ _ _ (all c.args.opens.now) c.args.stack.now _ _ _ _ _ c.settled-in-F64Const.ensures c.f64_const.ensures.leads

pub returns-in-F64Const-clause-forward : goal.returns-in-F64Const-clause-forward
returns-in-F64Const-clause-forward c = settled_forward _ _ _ _ _ _ c.settled-in-F64Const.ensures c.requires.more c.f64_const.ensures.forward

pub returns-in-F64Const-clause-inside : goal.returns-in-F64Const-clause-inside
returns-in-F64Const-clause-inside c = settled_inside _ _ _ _ _ c.settled-in-F64Const.ensures c.f64_const.ensures.inside

pub returns-in-Prefixed-clause-leads : goal.returns-in-Prefixed-clause-leads
returns-in-Prefixed-clause-leads c =
    settled_leads _ _ _ (all c.args.opens.now) c.args.stack.now _ _ _ _ _ c.settled-in-Prefixed.ensures c.prefixed.ensures.leads

pub returns-in-Prefixed-clause-forward : goal.returns-in-Prefixed-clause-forward
returns-in-Prefixed-clause-forward c = settled_forward _ _ _ _ _ _ c.settled-in-Prefixed.ensures c.requires.more c.prefixed.ensures.forward

pub returns-in-Prefixed-clause-inside : goal.returns-in-Prefixed-clause-inside
returns-in-Prefixed-clause-inside c = settled_inside _ _ _ _ _ c.settled-in-Prefixed.ensures c.prefixed.ensures.inside

pub returns-in-Load-clause-leads : goal.returns-in-Load-clause-leads
returns-in-Load-clause-leads c = settled_leads _ _ _ (all c.args.opens.now) c.args.stack.now _ _ _ _ _ c.settled-in-Load.ensures c.load.ensures.leads

pub returns-in-Load-clause-forward : goal.returns-in-Load-clause-forward
returns-in-Load-clause-forward c = settled_forward _ _ _ _ _ _ c.settled-in-Load.ensures c.requires.more c.load.ensures.forward

pub returns-in-Load-clause-inside : goal.returns-in-Load-clause-inside
returns-in-Load-clause-inside c = settled_inside _ _ _ _ _ c.settled-in-Load.ensures c.load.ensures.inside

pub returns-in-Store-clause-leads : goal.returns-in-Store-clause-leads
returns-in-Store-clause-leads c = settled_leads _ _ _ (all c.args.opens.now) c.args.stack.now _ _ _ _ _ c.settled-in-Store.ensures c.store.ensures.leads

pub returns-in-Store-clause-forward : goal.returns-in-Store-clause-forward
returns-in-Store-clause-forward c = settled_forward _ _ _ _ _ _ c.settled-in-Store.ensures c.requires.more c.store.ensures.forward

pub returns-in-Store-clause-inside : goal.returns-in-Store-clause-inside
returns-in-Store-clause-inside c = settled_inside _ _ _ _ _ c.settled-in-Store.ensures c.store.ensures.inside

pub returns-in-Change-clause-leads : goal.returns-in-Change-clause-leads
returns-in-Change-clause-leads c = settled_leads _ _ _ (all c.args.opens.now) c.args.stack.now _ _ _ _ _ c.settled-in-Change.ensures c.change.ensures.leads

pub returns-in-Change-clause-forward : goal.returns-in-Change-clause-forward
returns-in-Change-clause-forward c = settled_forward _ _ _ _ _ _ c.settled-in-Change.ensures c.requires.more c.change.ensures.forward

pub returns-in-Change-clause-inside : goal.returns-in-Change-clause-inside
returns-in-Change-clause-inside c = settled_inside _ _ _ _ _ c.settled-in-Change.ensures c.change.ensures.inside

pub returns-in-LoadI32-clause-leads : goal.returns-in-LoadI32-clause-leads
returns-in-LoadI32-clause-leads c =
    settled_leads _ _ _ (all c.args.opens.now) c.args.stack.now _ _ _ _ _ c.settled-in-LoadI32.ensures c.load-in-LoadI32.ensures.leads

pub returns-in-LoadI32-clause-forward : goal.returns-in-LoadI32-clause-forward
returns-in-LoadI32-clause-forward c = settled_forward _ _ _ _ _ _ c.settled-in-LoadI32.ensures c.requires.more c.load-in-LoadI32.ensures.forward

pub returns-in-LoadI32-clause-inside : goal.returns-in-LoadI32-clause-inside
returns-in-LoadI32-clause-inside c = settled_inside _ _ _ _ _ c.settled-in-LoadI32.ensures c.load-in-LoadI32.ensures.inside

pub returns-in-LoadI64-clause-leads : goal.returns-in-LoadI64-clause-leads
returns-in-LoadI64-clause-leads c =
    settled_leads _ _ _ (all c.args.opens.now) c.args.stack.now _ _ _ _ _ c.settled-in-LoadI64.ensures c.load-in-LoadI64.ensures.leads

pub returns-in-LoadI64-clause-forward : goal.returns-in-LoadI64-clause-forward
returns-in-LoadI64-clause-forward c = settled_forward _ _ _ _ _ _ c.settled-in-LoadI64.ensures c.requires.more c.load-in-LoadI64.ensures.forward

pub returns-in-LoadI64-clause-inside : goal.returns-in-LoadI64-clause-inside
returns-in-LoadI64-clause-inside c = settled_inside _ _ _ _ _ c.settled-in-LoadI64.ensures c.load-in-LoadI64.ensures.inside

pub returns-in-LoadByte-clause-leads : goal.returns-in-LoadByte-clause-leads
returns-in-LoadByte-clause-leads c =
    settled_leads _ _ _ (all c.args.opens.now) c.args.stack.now _ _ _ _ _ c.settled-in-LoadByte.ensures c.load-in-LoadByte.ensures.leads

pub returns-in-LoadByte-clause-forward : goal.returns-in-LoadByte-clause-forward
returns-in-LoadByte-clause-forward c = settled_forward _ _ _ _ _ _ c.settled-in-LoadByte.ensures c.requires.more c.load-in-LoadByte.ensures.forward

pub returns-in-LoadByte-clause-inside : goal.returns-in-LoadByte-clause-inside
returns-in-LoadByte-clause-inside c = settled_inside _ _ _ _ _ c.settled-in-LoadByte.ensures c.load-in-LoadByte.ensures.inside

pub returns-in-StoreI32-clause-leads : goal.returns-in-StoreI32-clause-leads
returns-in-StoreI32-clause-leads c =
    settled_leads _ _ _ (all c.args.opens.now) c.args.stack.now _ _ _ _ _ c.settled-in-StoreI32.ensures c.store-in-StoreI32.ensures.leads

pub returns-in-StoreI32-clause-forward : goal.returns-in-StoreI32-clause-forward
returns-in-StoreI32-clause-forward c = settled_forward _ _ _ _ _ _ c.settled-in-StoreI32.ensures c.requires.more c.store-in-StoreI32.ensures.forward

pub returns-in-StoreI32-clause-inside : goal.returns-in-StoreI32-clause-inside
returns-in-StoreI32-clause-inside c = settled_inside _ _ _ _ _ c.settled-in-StoreI32.ensures c.store-in-StoreI32.ensures.inside

pub returns-in-StoreI64-clause-leads : goal.returns-in-StoreI64-clause-leads
returns-in-StoreI64-clause-leads c =
    settled_leads _ _ _ (all c.args.opens.now) c.args.stack.now _ _ _ _ _ c.settled-in-StoreI64.ensures c.store-in-StoreI64.ensures.leads

pub returns-in-StoreI64-clause-forward : goal.returns-in-StoreI64-clause-forward
returns-in-StoreI64-clause-forward c = settled_forward _ _ _ _ _ _ c.settled-in-StoreI64.ensures c.requires.more c.store-in-StoreI64.ensures.forward

pub returns-in-StoreI64-clause-inside : goal.returns-in-StoreI64-clause-inside
returns-in-StoreI64-clause-inside c = settled_inside _ _ _ _ _ c.settled-in-StoreI64.ensures c.store-in-StoreI64.ensures.inside

pub returns-in-ChangeI32-clause-leads : goal.returns-in-ChangeI32-clause-leads
returns-in-ChangeI32-clause-leads c =
    settled_leads _ _ _ (all c.args.opens.now) c.args.stack.now _ _ _ _ _ c.settled-in-ChangeI32.ensures c.change_as.ensures.leads

pub returns-in-ChangeI32-clause-forward : goal.returns-in-ChangeI32-clause-forward
returns-in-ChangeI32-clause-forward c = settled_forward _ _ _ _ _ _ c.settled-in-ChangeI32.ensures c.requires.more c.change_as.ensures.forward

pub returns-in-ChangeI32-clause-inside : goal.returns-in-ChangeI32-clause-inside
returns-in-ChangeI32-clause-inside c = settled_inside _ _ _ _ _ c.settled-in-ChangeI32.ensures c.change_as.ensures.inside

pub returns-in-Shorten-clause-leads : goal.returns-in-Shorten-clause-leads
returns-in-Shorten-clause-leads c =
    settled_leads _ _ _ (all c.args.opens.now) c.args.stack.now _ _ _ _ _ c.settled-in-Shorten.ensures c.change_as-in-Shorten.ensures.leads

pub returns-in-Shorten-clause-forward : goal.returns-in-Shorten-clause-forward
returns-in-Shorten-clause-forward c = settled_forward _ _ _ _ _ _ c.settled-in-Shorten.ensures c.requires.more c.change_as-in-Shorten.ensures.forward

pub returns-in-Shorten-clause-inside : goal.returns-in-Shorten-clause-inside
returns-in-Shorten-clause-inside c = settled_inside _ _ _ _ _ c.settled-in-Shorten.ensures c.change_as-in-Shorten.ensures.inside

pub returns-in-Lengthen-clause-leads : goal.returns-in-Lengthen-clause-leads
returns-in-Lengthen-clause-leads c =
    settled_leads _ _ _ (all c.args.opens.now) c.args.stack.now _ _ _ _ _ c.settled-in-Lengthen.ensures c.change_as-in-Lengthen.ensures.leads

pub returns-in-Lengthen-clause-forward : goal.returns-in-Lengthen-clause-forward
returns-in-Lengthen-clause-forward c = settled_forward _ _ _ _ _ _ c.settled-in-Lengthen.ensures c.requires.more c.change_as-in-Lengthen.ensures.forward

pub returns-in-Lengthen-clause-inside : goal.returns-in-Lengthen-clause-inside
returns-in-Lengthen-clause-inside c = settled_inside _ _ _ _ _ c.settled-in-Lengthen.ensures c.change_as-in-Lengthen.ensures.inside

pub returns-in-CombineI32-clause-leads : goal.returns-in-CombineI32-clause-leads
returns-in-CombineI32-clause-leads c =
    settled_leads _ _ _ (all c.args.opens.now) c.args.stack.now _ _ _ _ _ c.settled-in-CombineI32.ensures c.combine_as.ensures.leads

pub returns-in-CombineI32-clause-forward : goal.returns-in-CombineI32-clause-forward
returns-in-CombineI32-clause-forward c = settled_forward _ _ _ _ _ _ c.settled-in-CombineI32.ensures c.requires.more c.combine_as.ensures.forward

pub returns-in-CombineI32-clause-inside : goal.returns-in-CombineI32-clause-inside
returns-in-CombineI32-clause-inside c = settled_inside _ _ _ _ _ c.settled-in-CombineI32.ensures c.combine_as.ensures.inside

pub returns-in-CombineI64-clause-leads : goal.returns-in-CombineI64-clause-leads
returns-in-CombineI64-clause-leads c =
    settled_leads _ _ _ (all c.args.opens.now) c.args.stack.now _ _ _ _ _ c.settled-in-CombineI64.ensures c.combine_as-in-CombineI64.ensures.leads

pub returns-in-CombineI64-clause-forward : goal.returns-in-CombineI64-clause-forward
returns-in-CombineI64-clause-forward c = settled_forward _ _ _ _ _ _ c.settled-in-CombineI64.ensures c.requires.more c.combine_as-in-CombineI64.ensures.forward

pub returns-in-CombineI64-clause-inside : goal.returns-in-CombineI64-clause-inside
returns-in-CombineI64-clause-inside c = settled_inside _ _ _ _ _ c.settled-in-CombineI64.ensures c.combine_as-in-CombineI64.ensures.inside

pub returns-in-CombineF32-clause-leads : goal.returns-in-CombineF32-clause-leads
returns-in-CombineF32-clause-leads c =
    settled_leads _ _ _ (all c.args.opens.now) c.args.stack.now _ _ _ _ _ c.settled-in-CombineF32.ensures c.combine_as-in-CombineF32.ensures.leads

pub returns-in-CombineF32-clause-forward : goal.returns-in-CombineF32-clause-forward
returns-in-CombineF32-clause-forward c = settled_forward _ _ _ _ _ _ c.settled-in-CombineF32.ensures c.requires.more c.combine_as-in-CombineF32.ensures.forward

pub returns-in-CombineF32-clause-inside : goal.returns-in-CombineF32-clause-inside
returns-in-CombineF32-clause-inside c = settled_inside _ _ _ _ _ c.settled-in-CombineF32.ensures c.combine_as-in-CombineF32.ensures.inside

pub returns-in-CombineF64-clause-leads : goal.returns-in-CombineF64-clause-leads
returns-in-CombineF64-clause-leads c =
    settled_leads _ _ _ (all c.args.opens.now) c.args.stack.now _ _ _ _ _ c.settled-in-CombineF64.ensures c.combine_as-in-CombineF64.ensures.leads

pub returns-in-CombineF64-clause-forward : goal.returns-in-CombineF64-clause-forward
returns-in-CombineF64-clause-forward c = settled_forward _ _ _ _ _ _ c.settled-in-CombineF64.ensures c.requires.more c.combine_as-in-CombineF64.ensures.forward

pub returns-in-CombineF64-clause-inside : goal.returns-in-CombineF64-clause-inside
returns-in-CombineF64-clause-inside c = settled_inside _ _ _ _ _ c.settled-in-CombineF64.ensures c.combine_as-in-CombineF64.ensures.inside

pub returns-in-CompareI64-clause-leads : goal.returns-in-CompareI64-clause-leads
returns-in-CompareI64-clause-leads c =
    settled_leads _ _ _ (all c.args.opens.now) c.args.stack.now _ _ _ _ _ c.settled-in-CompareI64.ensures c.combine_as-in-CompareI64.ensures.leads

pub returns-in-CompareI64-clause-forward : goal.returns-in-CompareI64-clause-forward
returns-in-CompareI64-clause-forward c = settled_forward _ _ _ _ _ _ c.settled-in-CompareI64.ensures c.requires.more c.combine_as-in-CompareI64.ensures.forward

pub returns-in-CompareI64-clause-inside : goal.returns-in-CompareI64-clause-inside
returns-in-CompareI64-clause-inside c = settled_inside _ _ _ _ _ c.settled-in-CompareI64.ensures c.combine_as-in-CompareI64.ensures.inside

pub returns-in-CompareF32-clause-leads : goal.returns-in-CompareF32-clause-leads
returns-in-CompareF32-clause-leads c =
    settled_leads _ _ _ (all c.args.opens.now) c.args.stack.now _ _ _ _ _ c.settled-in-CompareF32.ensures c.combine_as-in-CompareF32.ensures.leads

pub returns-in-CompareF32-clause-forward : goal.returns-in-CompareF32-clause-forward
returns-in-CompareF32-clause-forward c = settled_forward _ _ _ _ _ _ c.settled-in-CompareF32.ensures c.requires.more c.combine_as-in-CompareF32.ensures.forward

pub returns-in-CompareF32-clause-inside : goal.returns-in-CompareF32-clause-inside
returns-in-CompareF32-clause-inside c = settled_inside _ _ _ _ _ c.settled-in-CompareF32.ensures c.combine_as-in-CompareF32.ensures.inside

pub returns-in-CompareF64-clause-leads : goal.returns-in-CompareF64-clause-leads
returns-in-CompareF64-clause-leads c =
    settled_leads _ _ _ (all c.args.opens.now) c.args.stack.now _ _ _ _ _ c.settled-in-CompareF64.ensures c.combine_as-in-CompareF64.ensures.leads

pub returns-in-CompareF64-clause-forward : goal.returns-in-CompareF64-clause-forward
returns-in-CompareF64-clause-forward c = settled_forward _ _ _ _ _ _ c.settled-in-CompareF64.ensures c.requires.more c.combine_as-in-CompareF64.ensures.forward

pub returns-in-CompareF64-clause-inside : goal.returns-in-CompareF64-clause-inside
returns-in-CompareF64-clause-inside c = settled_inside _ _ _ _ _ c.settled-in-CompareF64.ensures c.combine_as-in-CompareF64.ensures.inside

pub returns-in-Object-clause-leads : goal.returns-in-Object-clause-leads
returns-in-Object-clause-leads c = settled_leads _ _ _ (all c.args.opens.now) c.args.stack.now _ _ _ _ _ c.settled-in-Object.ensures c.near_object.ensures.leads

pub returns-in-Object-clause-forward : goal.returns-in-Object-clause-forward
returns-in-Object-clause-forward c = settled_forward _ _ _ _ _ _ c.settled-in-Object.ensures c.requires.more c.near_object.ensures.forward

pub returns-in-Object-clause-inside : goal.returns-in-Object-clause-inside
returns-in-Object-clause-inside c = settled_inside _ _ _ _ _ c.settled-in-Object.ensures c.near_object.ensures.inside

pub returns-in-Other-clause-leads : goal.returns-in-Other-clause-leads
returns-in-Other-clause-leads c = settled_leads _ _ _ (all c.args.opens.now) c.args.stack.now _ _ _ _ _ c.settled-in-Other.ensures c.away-in-Other.ensures.leads

pub returns-in-Other-clause-forward : goal.returns-in-Other-clause-forward
returns-in-Other-clause-forward c = settled_forward _ _ _ _ _ _ c.settled-in-Other.ensures c.requires.more c.away-in-Other.ensures.forward

pub returns-in-Other-clause-inside : goal.returns-in-Other-clause-inside
returns-in-Other-clause-inside c = settled_inside _ _ _ _ _ c.settled-in-Other.ensures c.away-in-Other.ensures.inside
