-- `==` of immediates, from that of types upwards.
use Rattle.std.proofs.Common.{◌≡◌, ◌↔◌, IsTrue, Bool, true, ◌&&◌, nat_eq, ℕ, List, refl, ap}
use Rattle.std.specs.Option.{option_eq}
use Rattle.std.specs.Cmp.{unsigned_Decides}
use lib.Pointwise.{pointwise}
use Rattle.wasm_types.specs.values.Laws.{ValueEqualityIsIdentity}
use Rattle.wasm_operators_immediates.specs.Tables.{Labels, CatchTable, same_labels, catch_table_of}
use Rattle.wasm_operators_immediates.specs.declared.handlers.TryTable.{TryTable}
use Rattle.wasm_operators_immediates.specs.declared.handlers.ResumeTable.{ResumeTable}
use Rattle.wasm_operators_immediates.specs.declared.memory.MemArg.{MemArg}
use Rattle.wasm_operators_immediates.specs.contracts.block.BlockType as block
use Rattle.wasm_operators_immediates.specs.contracts.handlers.Catch as catch
use Rattle.wasm_operators_immediates.specs.contracts.handlers.Handle as handle
use Rattle.wasm_operators_immediates.specs.contracts.memory.Ordering as ordering
use Rattle.wasm_operators_immediates.specs.contracts.memory.MemArgOrdering as named
use Rattle.wasm_operators_immediates.specs.contracts.memory.MemArgTarget as target
use Rattle.wasm_operators_immediates.specs.contracts.block.BlockTypePartialEq.TheImpl as block_eq
use Rattle.wasm_operators_immediates.specs.contracts.handlers.CatchPartialEq.TheImpl as catch_eq
use Rattle.wasm_operators_immediates.specs.contracts.handlers.HandlePartialEq.TheImpl as handle_eq
use Rattle.wasm_operators_immediates.specs.contracts.handlers.TryTablePartialEq.TheImpl as try_eq
use Rattle.wasm_operators_immediates.specs.contracts.handlers.ResumeTablePartialEq.TheImpl as resume_eq
use Rattle.wasm_operators_immediates.specs.contracts.memory.OrderingPartialEq.TheImpl as ordering_eq
use Rattle.wasm_operators_immediates.specs.contracts.memory.MemArgOrderingPartialEq.TheImpl as named_eq
use Rattle.wasm_operators_immediates.specs.contracts.memory.MemArgTargetPartialEq.TheImpl as target_eq
use Rattle.wasm_operators_immediates.specs.contracts.memory.MemArgPartialEq.TheImpl as argument_eq
use Rattle.wasm_operators_immediates.specs.contracts.vector.V128PartialEq.TheImpl as vector_eq
use Rattle.wasm_operators_immediates.proofs.Telling.{Identity, Tells, complete, first, second, both, none, one, two, variants, tags, lists, options}

pub identity : {A : Type 0} {test : A → A → Bool} → ((x y : A) → IsTrue (test x y) ↔ (x ≡ y)) → Identity test
identity same = record { sound = λ x y h. (same x y).0 h; itself = λ x. (same x x).1 refl }

pub law : {A : Type 0} {test : A → A → Bool} → Identity test → (x y : A) → IsTrue (test x y) ↔ (x ≡ y)
law {A} {test} i x y = (λ h. i.sound x y h, λ e. complete test i x y e)

pub tree_law : {A B : Type 0} {test : A → A → Bool} {tree : A → B} → Tells test tree → (x y : A) → IsTrue (test x y) ↔ (tree x ≡ tree y)
tree_law t x y = (λ h. t.sound x y h, λ e. t.complete x y e)

pub numbers : Identity nat_eq
numbers = record { sound = λ x y h. (unsigned_Decides x y).0 h; itself = λ x. (unsigned_Decides x x).1 refl }

-- ---- memory arguments

pub orderings : Identity ordering_eq.ghosts.eq
orderings = tags ordering.the_type tt

named_orderings : Identity named_eq.ghosts.eq
named_orderings = variants named.enum _ (one orderings, (one orderings, tt))

targets : Identity target_eq.ghosts.eq
targets = tags target.the_type tt

arguments_sound : (x y : MemArg) → argument_eq.ghosts.eq x y ≡ true → x ≡ y
arguments_sound x y h =
    let t1 = nat_eq x.align y.align in
    let t2 = nat_eq x.max_align y.max_align in
    let t3 = nat_eq x.offset y.offset in
    let t4 = nat_eq x.memory y.memory in
    let t5 = option_eq named_eq.ghosts.eq x.ordering y.ordering in
    let t6 = target_eq.ghosts.eq x.target y.target in
    let r1 = second t1 (t2 && (t3 && (t4 && (t5 && t6)))) h in
    let r2 = second t2 (t3 && (t4 && (t5 && t6))) r1 in
    let r3 = second t3 (t4 && (t5 && t6)) r2 in
    let r4 = second t4 (t5 && t6) r3 in
    let e1 = numbers.sound x.align y.align (first t1 (t2 && (t3 && (t4 && (t5 && t6)))) h) in
    let e2 = numbers.sound x.max_align y.max_align (first t2 (t3 && (t4 && (t5 && t6))) r1) in
    let e3 = numbers.sound x.offset y.offset (first t3 (t4 && (t5 && t6)) r2) in
    let e4 = numbers.sound x.memory y.memory (first t4 (t5 && t6) r3) in
    let e5 = (options named_orderings).sound x.ordering y.ordering (first t5 t6 r4) in
    let e6 = targets.sound x.target y.target (second t5 t6 r4) in
    λ i. record { align = e1 i; max_align = e2 i; offset = e3 i; memory = e4 i; ordering = e5 i; target = e6 i }

arguments_itself : (x : MemArg) → argument_eq.ghosts.eq x x ≡ true
arguments_itself x =
    both _ _ (numbers.itself x.align) (both _ _ (numbers.itself x.max_align) (both _ _ (numbers.itself x.offset)
    (both _ _ (numbers.itself x.memory) (both _ _ ((options named_orderings).itself x.ordering) (targets.itself x.target)))))

pub arguments : Identity argument_eq.ghosts.eq
arguments = record { sound = arguments_sound; itself = arguments_itself }

-- ---- vectors, labels, clauses and handlers

pub vectors : Identity vector_eq.ghosts.eq
vectors = record {
  sound = λ x y h. ap (λ (bytes : List ℕ). record { 0 = bytes }) ((lists numbers).sound x.0 y.0 h);
  itself = λ x. (lists numbers).itself x.0;
}

labels_sound : (x y : Labels) → same_labels x y ≡ true → x ≡ y
labels_sound x y h =
    let t1 = nat_eq x.default y.default in
    let t2 = pointwise nat_eq x.targets y.targets in
    let e1 = numbers.sound x.default y.default (first t1 t2 h) in
    let e2 = (lists numbers).sound x.targets y.targets (second t1 t2 h) in
    λ i. record { targets = e2 i; default = e1 i }

pub labels : Identity same_labels
labels = record { sound = labels_sound; itself = λ x. both _ _ (numbers.itself x.default) ((lists numbers).itself x.targets) }

pub catches : Identity catch_eq.ghosts.eq
catches = variants catch.enum _ (two numbers numbers, (two numbers numbers, (one numbers, (one numbers, tt))))

pub handles : Identity handle_eq.ghosts.eq
handles = variants handle.enum _ (two numbers numbers, (one numbers, tt))

resume_complete : (x y : ResumeTable) → x.handlers.items ≡ y.handlers.items → resume_eq.ghosts.eq x y ≡ true
resume_complete x y e = complete (pointwise handle_eq.ghosts.eq) (lists handles) x.handlers.items y.handlers.items e

pub resume_tables : Tells resume_eq.ghosts.eq (λ (t : ResumeTable). t.handlers.items)
resume_tables = record { sound = λ x y h. (lists handles).sound x.handlers.items y.handlers.items h; complete = resume_complete }

module _ (same_value : ValueEqualityIsIdentity) where
  pub blocks : Identity block_eq.ghosts.eq
  blocks = variants block.enum _ (none, (one (identity same_value), (one numbers, tt)))

  try_sound : (x y : TryTable) → try_eq.ghosts.eq x y ≡ true → catch_table_of x ≡ catch_table_of y
  try_sound x y h =
      let t1 = block_eq.ghosts.eq x.ty y.ty in
      let t2 = pointwise catch_eq.ghosts.eq x.catches.items y.catches.items in
      let e1 = blocks.sound x.ty y.ty (first t1 t2 h) in
      let e2 = (lists catches).sound x.catches.items y.catches.items (second t1 t2 h) in
      λ i. record { ty = e1 i; catches = e2 i }

  try_complete : (x y : TryTable) → catch_table_of x ≡ catch_table_of y → try_eq.ghosts.eq x y ≡ true
  try_complete x y e =
      let e1 = ap (λ (t : CatchTable). t.ty) e in
      let e2 = ap (λ (t : CatchTable). t.catches) e in
      both _ _ (complete block_eq.ghosts.eq blocks x.ty y.ty e1)
      (complete (pointwise catch_eq.ghosts.eq) (lists catches) x.catches.items y.catches.items e2)

  pub try_tables : Tells try_eq.ghosts.eq catch_table_of
  try_tables = record { sound = try_sound; complete = try_complete }
