use Rattle.std.proofs.Common.{refl, arith}
use Rattle.wasm_types.specs.values.declared.heap.AbstractHeapType.TheVariants as heap
use Rattle.wasm_operator_validator_fast_tables.proofs.written.abstract_of.Goals as goal

pub returns-in-112 : goal.returns-in-112
returns-in-112 c = record { type = heap.Func; spelled = rw c.in-112.is refl; low = omega arith; codes = λ ids. record { nullable = refl; never_null = refl; above = refl }; castable = refl }

pub returns-in-111 : goal.returns-in-111
returns-in-111 c = record { type = heap.Extern; spelled = rw c.in-111.is refl; low = omega arith; codes = λ ids. record { nullable = refl; never_null = refl; above = refl }; castable = refl }

pub returns-in-110 : goal.returns-in-110
returns-in-110 c = record { type = heap.Any; spelled = rw c.in-110.is refl; low = omega arith; codes = λ ids. record { nullable = refl; never_null = refl; above = refl }; castable = refl }

pub returns-in-113 : goal.returns-in-113
returns-in-113 c = record { type = heap.None; spelled = rw c.in-113.is refl; low = omega arith; codes = λ ids. record { nullable = refl; never_null = refl; above = refl }; castable = refl }

pub returns-in-114 : goal.returns-in-114
returns-in-114 c = record { type = heap.NoExtern; spelled = rw c.in-114.is refl; low = omega arith; codes = λ ids. record { nullable = refl; never_null = refl; above = refl }; castable = refl }

pub returns-in-115 : goal.returns-in-115
returns-in-115 c = record { type = heap.NoFunc; spelled = rw c.in-115.is refl; low = omega arith; codes = λ ids. record { nullable = refl; never_null = refl; above = refl }; castable = refl }

pub returns-in-109 : goal.returns-in-109
returns-in-109 c = record { type = heap.Eq; spelled = rw c.in-109.is refl; low = omega arith; codes = λ ids. record { nullable = refl; never_null = refl; above = refl }; castable = refl }

pub returns-in-107 : goal.returns-in-107
returns-in-107 c = record { type = heap.Struct; spelled = rw c.in-107.is refl; low = omega arith; codes = λ ids. record { nullable = refl; never_null = refl; above = refl }; castable = refl }

pub returns-in-106 : goal.returns-in-106
returns-in-106 c = record { type = heap.Array; spelled = rw c.in-106.is refl; low = omega arith; codes = λ ids. record { nullable = refl; never_null = refl; above = refl }; castable = refl }

pub returns-in-108 : goal.returns-in-108
returns-in-108 c = record { type = heap.I31; spelled = rw c.in-108.is refl; low = omega arith; codes = λ ids. record { nullable = refl; never_null = refl; above = refl }; castable = refl }

pub returns-in-105 : goal.returns-in-105
returns-in-105 c = record { type = heap.Exn; spelled = rw c.in-105.is refl; low = omega arith; codes = λ ids. record { nullable = refl; never_null = refl; above = refl }; castable = refl }

pub returns-in-116 : goal.returns-in-116
returns-in-116 c = record { type = heap.NoExn; spelled = rw c.in-116.is refl; low = omega arith; codes = λ ids. record { nullable = refl; never_null = refl; above = refl }; castable = refl }
